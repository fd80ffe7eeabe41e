-- The names of clocks with one more.
use Rattle.std.proofs.Common.{◌≡◌, ℕ, false, List, [], ◌∷◌, ◌++◌, cond, ap, sym, ◌∙◌}
use Rattle.std.specs.Borrow.{Bor}
use Rattle.std.specs.List.{list_any}
use Rattle.std.specs.Str.{bytes_eq}
use Rattle.std.proofs.lemmas.Bool.{cond-false}
use Rattle.std.proofs.lemmas.List.{map-append}
use Rattle.bundle_text.specs.Words.{texts}
use Rattle.clock_lines.specs.Said.{PlacedClock}
use Rattle.clock_lines.specs.Section.{names_of, is_named}
use Rattle.bundle_text.proofs.Mapped.{list_any-texts}

-- a new name goes last, as its clock does
pub names-push : (keys new : List (Bor (List ℕ))) (name : Bor (List ℕ)) (clocks after : List PlacedClock) (x : PlacedClock)
    → texts keys ≡ names_of clocks → is_named clocks name.now ≡ false → x.clock.name ≡ name.now
    → new ≡ cond (list_any (λ k. bytes_eq name.now k.now) keys) keys (keys ++ name ∷ []) → after ≡ clocks ++ x ∷ [] → texts new ≡ names_of after
names-push keys new name clocks after x same absent own put pushed =
    let apart : list_any (λ (k : Bor (List ℕ)). bytes_eq name.now k.now) keys ≡ false =
    list_any-texts (bytes_eq name.now) keys ∙ (ap (list_any (bytes_eq name.now)) same ∙ absent) in
    ap texts (put ∙ cond-false _ _ _ apart)
    ∙ (map-append (λ (k : Bor (List ℕ)). k.now) keys (name ∷ [])
    ∙ (ap (λ ns. ns ++ name.now ∷ []) same
    ∙ (ap (λ n. names_of clocks ++ n ∷ []) (sym own)
    ∙ (sym (map-append (λ (p : PlacedClock). p.clock.name) clocks (x ∷ [])) ∙ ap names_of (sym pushed)))))
