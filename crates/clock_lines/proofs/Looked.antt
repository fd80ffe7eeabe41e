-- Names that are looked up among the clocks.
use Rattle.std.proofs.Common.{◌≡◌, ℕ, ◌+◌, ◌<◌, ◌≤◌, Bool, true, false, cond, not, ◌||◌, List, [], ◌∷◌, ◌++◌, map, length, get_or, take, Some, None, refl, ap, sym, ◌∙◌, inl, inr, arith, below_more}
use Rattle.std.specs.List.{list_all, list_any, position, position_or_len}
use Rattle.std.specs.Str.{bytes_eq}
use Rattle.std.proofs.lemmas.Bool.{false≢true, cases_Bool, lt-ltb, le-ltb, and_from, cond-true, cond-false}
use Rattle.std.proofs.lemmas.List.{get_or_default, map_more}
use Rattle.std.proofs.lemmas.List.Folds.{list_all_more, list_all_at}
use Rattle.std.proofs.lemmas.Option.{none-some, same_Some}
use Rattle.bundle_text.proofs.Found.{any_within, none_within, position-found, position-missing}
use Rattle.bundle_text.proofs.Mapped.{list_any-map}
use Rattle.clk_base.specs.declared.clock.ClockDef.{ClockDef}
use Rattle.clk_base.specs.Description.{has_name}
use Rattle.clock_lines.specs.Said.{PlacedClock}
use Rattle.clock_lines.specs.Section.{names_of, is_named, place_of, finds_parents, clock_in}
use Rattle.clock_lines.specs.Steps.{places_in, no_clock, clock_number, StandApart, FindParents}

-- a name that has no place is no clock's
pub unnamed : (clocks : List PlacedClock) (name : List ℕ) → None ≡ position (bytes_eq name) (names_of clocks) → is_named clocks name ≡ false
unnamed clocks name h =
    elim (cases_Bool (is_named clocks name)) [ inl some ↦ absurd (none-some _ (h ∙ position-found (bytes_eq name) (names_of clocks) some)) | inr none ↦ none ]

-- a place of a name is that of the clock with the name
pub named_at : (clocks : List PlacedClock) (name : List ℕ) (place : ℕ) → Some place ≡ position (bytes_eq name) (names_of clocks)
    → (is_named clocks name ≡ true) × (place_of clocks name ≡ place)
named_at clocks name place h =
    elim (cases_Bool (is_named clocks name)) [
      | inl some ↦ (some, sym (same_Some _ _ (h ∙ position-found (bytes_eq name) (names_of clocks) some)))
      | inr none ↦
          let names = names_of clocks in
          let behind : length names ≤ position_or_len (bytes_eq name) names = omega (arith, none_within (bytes_eq name) names none) in
          absurd (none-some place (sym (h ∙ cond-false _ _ _ (le-ltb (position_or_len (bytes_eq name) names) (length names) behind))))
    ]

-- one more name that is a clock's
pub named_more : (clocks : List PlacedClock) (names : List (List ℕ)) (i : ℕ) (name : List ℕ) (place : ℕ) (found : List ℕ) → i < length names → get_or names i [] ≡ name
    → Some place ≡ position (bytes_eq name) (names_of clocks) → list_all (is_named clocks) (take i names) ≡ true → found ≡ map (place_of clocks) (take i names)
    → (list_all (is_named clocks) (take (i + 1) names) ≡ true) × (found ++ place ∷ [] ≡ map (place_of clocks) (take (i + 1) names))
named_more clocks names i name place found within here at named placed =
    let known = named_at clocks name place at in (
      list_all_more (is_named clocks) names i [] within ∙ and_from _ _ named (ap (is_named clocks) here ∙ known.0),
      sym (map_more (place_of clocks) names i [] within ∙ (ap (λ n. map (place_of clocks) (take i names) ++ place_of clocks n ∷ []) here ∙ (ap (λ p. map (place_of clocks) (take i names) ++ p ∷ []) known.1 ∙ ap (λ ps. ps ++ place ∷ []) (sym placed)))),
    )

-- all names are clocks' names
pub places_found : (clocks : List PlacedClock) (names : List (List ℕ)) (found : List ℕ) → list_all (is_named clocks) names ≡ true → found ≡ map (place_of clocks) names → Some found ≡ places_in clocks names
unfolding places_in
places_found clocks names found named placed = ap Some placed ∙ sym (cond-true _ _ _ named)

-- one name is no clock's
pub places_missing : (clocks : List PlacedClock) (names : List (List ℕ)) (i : ℕ) (name : List ℕ) → i < length names → get_or names i [] ≡ name → None ≡ position (bytes_eq name) (names_of clocks) → None ≡ places_in clocks names
unfolding places_in
places_missing clocks names i name within here at =
    sym (cond-false _ _ _ (list_all_at (is_named clocks) names i [] within (ap (is_named clocks) here ∙ unnamed clocks name at)))

-- the record of a clock with the places of its parents
pub def_found : (clocks : List PlacedClock) (placed : PlacedClock) (parents : List ℕ) (def : ClockDef) → Some parents ≡ places_in clocks placed.clock.parents
    → def ≡ record { name = placed.clock.name; kind = placed.clock.kind; flags = placed.clock.flags; parents = parents }
    → Some def ≡ cond (finds_parents clocks placed) (Some (clock_in clocks placed)) None
unfolding places_in finds_parents clock_in
def_found clocks placed parents def found made =
    elim (cases_Bool (list_all (is_named clocks) placed.clock.parents)) [
      | inl all ↦
          let same : parents ≡ map (place_of clocks) placed.clock.parents = same_Some _ _ (found ∙ cond-true _ _ _ all) in
          ap Some (made ∙ ap (λ ps. record { name = placed.clock.name; kind = placed.clock.kind; flags = placed.clock.flags; parents = ps }) same) ∙ sym (cond-true _ _ _ all)
      | inr some ↦ absurd (none-some parents (sym (found ∙ cond-false _ _ _ some)))
    ]

-- there is none where a parent is missing
pub def_missing : (clocks : List PlacedClock) (placed : PlacedClock) → None ≡ places_in clocks placed.clock.parents
    → None ≡ cond (finds_parents clocks placed) (Some (clock_in clocks placed)) None
unfolding places_in finds_parents
def_missing clocks placed found =
    elim (cases_Bool (list_all (is_named clocks) placed.clock.parents)) [
      | inl all ↦ absurd (none-some _ (found ∙ cond-true _ _ _ all))
      | inr some ↦ sym (cond-false _ _ _ some)
    ]

-- the record has the clock's name
pub def_name : (clocks : List PlacedClock) (placed : PlacedClock) (b : Bool) (def : ClockDef) → Some def ≡ cond b (Some (clock_in clocks placed)) None → def.name ≡ placed.clock.name
unfolding clock_in
def_name clocks placed true def h = ap (λ (d : ClockDef). d.name) (same_Some _ _ h)
def_name clocks placed false def h = absurd (none-some def (sym h))

-- a description of clocks has the names of the clocks
pub named_in : (clocks some : List PlacedClock) (name : List ℕ) → has_name (map (clock_in clocks) some) name ≡ is_named some name
unfolding clock_in
named_in clocks some name =
    list_any-map (λ (d : ClockDef). bytes_eq name d.name) (clock_in clocks) some ∙ sym (list_any-map (bytes_eq name) (λ (p : PlacedClock). p.clock.name) some)

-- the clock at the place of a loop over the clocks
pub item-is : (items clocks : List PlacedClock) (i : ℕ) (x : PlacedClock) → items ≡ clocks → i < length items → x ≡ get_or items i x → (i < length clocks) × (x ≡ clock_number clocks i)
item-is items clocks i x same within here =
    (omega (arith, ap length same), here ∙ (get_or_default items i x no_clock within ∙ ap (λ xs. get_or xs i no_clock) same))

-- the next clock has a name that none of the clocks before it has
pub apart-next : (clocks : List PlacedClock) (desc : List ClockDef) (i : ℕ) (x : PlacedClock) → StandApart clocks → i < length clocks → x ≡ clock_number clocks i
    → desc ≡ map (clock_in clocks) (take i clocks) → has_name desc x.clock.name ≡ false
apart-next clocks desc i x apart within here described =
    ap (λ ds. has_name ds x.clock.name) described
    ∙ (named_in clocks (take i clocks) x.clock.name ∙ (ap (λ (y : PlacedClock). is_named (take i clocks) y.clock.name) here ∙ apart i within))

-- one more clock finds its parents
pub find-more : (clocks : List PlacedClock) (i : ℕ) (x : PlacedClock) → FindParents clocks i → x ≡ clock_number clocks i → finds_parents clocks x ≡ true → FindParents clocks (i + 1)
find-more clocks i x before here found = below_more (λ j. finds_parents clocks (clock_number clocks j) ≡ true) i before (ap (finds_parents clocks) (sym here) ∙ found)

-- one more clock is described
pub described-more : (clocks : List PlacedClock) (i : ℕ) (x : PlacedClock) (before after : List ClockDef) → i < length clocks → x ≡ clock_number clocks i
    → before ≡ map (clock_in clocks) (take i clocks) → after ≡ before ++ clock_in clocks x ∷ [] → after ≡ map (clock_in clocks) (take (i + 1) clocks)
described-more clocks i x before after within here described e =
    e ∙ (ap (λ ds. ds ++ clock_in clocks x ∷ []) described
    ∙ (ap (λ y. map (clock_in clocks) (take i clocks) ++ clock_in clocks y ∷ []) here ∙ sym (map_more (clock_in clocks) clocks i no_clock within)))
