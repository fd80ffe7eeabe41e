-- One word more.
use Rattle.std.proofs.Common.{◌≡◌, ℕ, ◌&&◌, ◌||◌, not, Bool, true, false, List, [], ◌∷◌, ◌++◌, refl, ap, ◌∙◌, arith}
use Rattle.std.specs.List.{list_any}
use Rattle.std.specs.Str.{bytes_eq}
use Rattle.std.proofs.lemmas.Bool.Decides.{nat_tests}
use Rattle.std.proofs.lemmas.List.Folds.{list_any-append}
use Rattle.std.proofs.Math.Bool.{or-false}
use Rattle.dts_tokens.specs.Limits.{is_open}

list_any-push : {X : Type 0} (p : X → Bool) (xs : List X) (y : X) → list_any p (xs ++ y ∷ []) ≡ (list_any p xs || p y)
list_any-push p xs y = list_any-append p xs (y ∷ []) ∙ ap (λ b. list_any p xs || b) (or-false (p y))

base : (opens closes : Bool) → ((opens && true) || false) ≡ (opens || (not closes && false))
base true true = refl
base true false = refl
base false true = refl
base false false = refl

step : (before between opens closes inside : Bool) → ((before && not (between || closes)) || (opens || (not closes && inside))) ≡ (opens || (not closes && ((before && not between) || inside)))
step before between opens closes inside = grind (arith, nat_tests)

-- a word that closes closes all before it; one that opens is open, unless it closes too
pub is_open-push : (opening closing : List ℕ) (words : List (List ℕ)) (word : List ℕ)
    → is_open opening closing (words ++ word ∷ []) ≡ ((bytes_eq word opening) || (not (bytes_eq word closing) && is_open opening closing words))
is_open-push opening closing [] word = base (bytes_eq word opening) (bytes_eq word closing)
is_open-push opening closing (w ∷ ws) word =
    ap (λ b. (bytes_eq w opening && not b) || is_open opening closing (ws ++ word ∷ [])) (list_any-push (λ v. bytes_eq v closing) ws word)
    ∙ ap (λ b. (bytes_eq w opening && not (list_any (λ v. bytes_eq v closing) ws || bytes_eq word closing)) || b) (is_open-push opening closing ws word)
    ∙ step (bytes_eq w opening) (list_any (λ v. bytes_eq v closing) ws) (bytes_eq word opening) (bytes_eq word closing) (is_open opening closing ws)

pub ruleset pushed = is_open-push
