-- The clocks that are gathered going up a path.
use Rattle.std.proofs.Common.{◌≡◌, ℕ, zero, suc, ◌+◌, ◌-◌, ◌<◌, ◌≤◌, true, List, [], ◌∷◌, ◌++◌, Option, refl, sym, subst, ap, ◌∙◌, arith, length, map, take, drop, set, get_or}
use Rattle.std.specs.Prelude.{◌||◌, Bool}
use Rattle.std.specs.Option.{option_map}
use Rattle.std.proofs.lemmas.List.{append_assoc, drop_more, get_or-map, length-map, map-append, take_more_set}
use Rattle.clk_base.specs.declared.clock.ClockId.{ClockId}
use Rattle.clk_model.specs.Lists.{is_in}
use Rattle.clk_model.specs.Tree.{path_within}
use Rattle.clk_model.proofs.Members.{is_in_head, is_in_tail}
use Rattle.clk_model.proofs.OnceLaws.{is_in-append}
use Rattle.clk_model.proofs.PathLaws.{above, path_cons}

-- the places of clocks
abbrev pub places : List ClockId → List ℕ
places cs = map (λ c. c.0) cs

-- before the first, the whole path is left
pub gathered_none : (up : ℕ → Option ℕ) (levels c : ℕ) (path : List ClockId) → path_within up levels c ≡ places (take 0 path) ++ path_within up (levels - 0) c
gathered_none up levels c path =
    ap (λ (n : ℕ). path_within up n c) (let same : levels ≡ levels - 0 = omega arith in same) ∙ ahead path where
      ahead : (path : List ClockId) → path_within up (levels - 0) c ≡ places (take 0 path) ++ path_within up (levels - 0) c
      ahead [] = refl
      ahead (x ∷ xs) = refl

-- one clock more is gathered: what is above its link is left
pub gathered_more : (up : ℕ → Option ℕ) (levels c place : ℕ) (path : List ClockId) (at : ClockId) (link link' : Option ClockId)
    → option_map (λ p. p.0) link ≡ up at.0 → link ≡ link' → place < length path → place < levels
    → path_within up levels c ≡ places (take place path) ++ path_within up (levels - place) at.0
    → path_within up levels c ≡ places (take (place + 1) (set path place at)) ++ above up (levels - (place + 1)) (option_map (λ p. p.0) link')
gathered_more up levels c place path at link link' is same fits some was =
    was ∙ ap (λ (cs : List ℕ). places (take place path) ++ cs) (path_cons up (levels - place) at.0 (omega arith))
    ∙ ap (λ (n : ℕ). places (take place path) ++ at.0 ∷ above up n (up at.0)) (let less : levels - place - 1 ≡ levels - (place + 1) = omega arith in less)
    ∙ ap (λ (o : Option ℕ). places (take place path) ++ at.0 ∷ above up (levels - (place + 1)) o) (sym is)
    ∙ ap (λ (l : Option ClockId). places (take place path) ++ at.0 ∷ above up (levels - (place + 1)) (option_map (λ p. p.0) l)) same
    ∙ sym (append_assoc (places (take place path)) (at.0 ∷ []) (above up (levels - (place + 1)) (option_map (λ p. p.0) link')))
    ∙ ap (λ (cs : List ℕ). cs ++ above up (levels - (place + 1)) (option_map (λ p. p.0) link'))
    (sym (ap (λ (cs : List ClockId). places cs) (take_more_set path place at fits) ∙ map-append (λ (k : ClockId). k.0) (take place path) (at ∷ [])))

-- a clock that was gathered is among their places
pub among_places : (path : List ClockId) (i : ℕ) (d : ClockId) → i < length path → is_in (get_or path i d).0 (places path) ≡ true
among_places [] i d within = absurd (omega arith)
among_places (x ∷ xs) zero d within = is_in_head x.0 (places xs)
among_places (x ∷ xs) (suc i) d within = is_in_tail (get_or xs i d).0 x.0 (places xs) (among_places xs i d (omega arith))

-- what is in the front of a list is in the list
pub in_front : (c : ℕ) (front back : List ℕ) → is_in c front ≡ true → is_in c (front ++ back) ≡ true
in_front c front back m = is_in-append c front back ∙ ap (λ (b : Bool). b || is_in c back) m

-- behind the last, no clock is left
pub none_behind : (path : List ClockId) → drop (length path - 0) (places path) ≡ []
none_behind path = ap (λ (n : ℕ). drop n (places path)) (let same : length path - 0 ≡ length path = omega arith in same) ∙ past path where
  past : (path : List ClockId) → drop (length path) (places path) ≡ []
  past [] = refl
  past (x ∷ xs) = past xs

-- one clock more from the end: that clock and those behind it
pub one_before : (path : List ClockId) (done : ℕ) (d : ClockId) → done < length path
    → drop (length path - (done + 1)) (places path) ≡ (get_or path (length path - 1 - done) d).0 ∷ drop (length path - done) (places path)
one_before path done d within =
    ap (λ (n : ℕ). drop n (places path)) (let same : length path - (done + 1) ≡ length path - 1 - done = omega arith in same)
    ∙ drop_more (places path) (length path - 1 - done) 0 (subst (λ (n : ℕ). length path - 1 - done < n) (sym (length-map path (λ (k : ClockId). k.0))) (omega arith))
    ∙ ap (λ (n : ℕ). get_or (places path) (length path - 1 - done) 0 ∷ drop n (places path)) (let next : length path - 1 - done + 1 ≡ length path - done = omega arith in next)
    ∙ ap (λ (x : ℕ). x ∷ drop (length path - done) (places path)) (get_or-map (λ (k : ClockId). k.0) path (length path - 1 - done) d 0 (omega arith))

-- from the first on, all clocks are left
pub all_left : (path : List ClockId) (n : ℕ) → length path ≤ n → drop (length path - n) (places path) ≡ places path
all_left path n most = ap (λ (k : ℕ). drop k (places path)) (let none : length path - n ≡ 0 = omega arith in none) ∙ first path where
  first : (path : List ClockId) → drop 0 (places path) ≡ places path
  first [] = refl
  first (x ∷ xs) = refl
