-- Fields that stand apart: no two of them share a bit.
use Rattle.std.proofs.Common.{◌≡◌, ℕ, zero, suc, ◌+◌, ◌<◌, ◌≤◌, min, max, Bool, true, false, ◌&&◌, ◌||◌, List, [], ◌∷◌, take, length, length-take, Some, refl, ap, sym, ◌∙◌, inl, inr, arith, ltb, eqb}
use Rattle.std.specs.Prelude.{slice_get}
use Rattle.std.specs.List.{list_all, list_any, flat_map}
use Rattle.std.proofs.lemmas.Bool.{cases_eq, and_parts, or_parts, or_left, or_right, not-true, eq-eqb, ne_eqb}
use Rattle.std.proofs.lemmas.List.{get_or-take}
use Rattle.std.proofs.lemmas.List.Folds.{list_any_at, list_any-append}
use Rattle.std.proofs.lemmas.Option.{none-some, same_Some}
use Rattle.clk_base.specs.declared.clock.ClockDef.{ClockDef}
use Rattle.clk_base.specs.Description.{Description, nobody, kind_of}
use Rattle.clk_base.specs.Fields.{Field, fields_of, share_bit}
use Rattle.clk_base.specs.Valid.{stand_apart, fields_before}

-- what all elements pass, the element at a place passes
pub passes_at : {X : Type 0} (test : X → Bool) (xs : List X) (j : ℕ) (x : X) → list_all test xs ≡ true → slice_get xs j ≡ Some x → test x ≡ true
passes_at test [] j x all at = absurd (none-some x at)
passes_at test (y ∷ ys) zero x all at = ap test (sym (same_Some y x at)) ∙ (and_parts _ _ all).0
passes_at test (y ∷ ys) (suc j) x all at = passes_at test ys j x (and_parts _ _ all).1 at

-- what the element at a place passes, some element passes
pub some_passes : {X : Type 0} (test : X → Bool) (xs : List X) (j : ℕ) (x : X) → slice_get xs j ≡ Some x → test x ≡ true → list_any test xs ≡ true
some_passes test [] j x at pass = absurd (none-some x at)
some_passes test (y ∷ ys) zero x at pass = or_left _ _ (ap test (same_Some y x at) ∙ pass)
some_passes test (y ∷ ys) (suc j) x at pass = or_right (test y) _ (some_passes test ys j x at pass)

list_any-flat_map : {X Y : Type 0} (test : Y → Bool) (f : X → List Y) (xs : List X) → list_any test (flat_map f xs) ≡ list_any (λ x. list_any test (f x)) xs
list_any-flat_map test f [] = refl
list_any-flat_map test f (x ∷ xs) =
    list_any-append test (f x) (flat_map f xs) ∙ ap (λ b. list_any test (f x) || b) (list_any-flat_map test f xs)

-- what a field of an earlier clock passes, some field before passes
pub passes_before : (test : Field → Bool) (defs : Description) (a b : ℕ) → a < b → b ≤ length defs → list_any test (fields_of (kind_of defs a)) ≡ true → list_any test (fields_before defs b) ≡ true
passes_before test defs a b lt le pass =
    let fields = λ (d : ClockDef). fields_of d.kind in
    let within : a < length (take b defs) = omega (arith, length-take b defs) in
    list_any-flat_map test fields (take b defs)
    ∙ list_any_at (λ (d : ClockDef). list_any test (fields d)) (take b defs) a nobody within
    (ap (λ (d : ClockDef). list_any test (fields d)) (get_or-take b defs a nobody lt) ∙ pass)

-- a field that stands apart shares no bit with a taken one
pub apart_at : (taken fields : List Field) (j : ℕ) (g : Field) → stand_apart taken fields ≡ true → slice_get fields j ≡ Some g → list_any (share_bit g) taken ≡ false
apart_at taken [] j g own at = absurd (none-some g at)
apart_at taken (f ∷ fields) zero g own at =
    ap (λ h. list_any (share_bit h) taken) (sym (same_Some f g at)) ∙ not-true _ (and_parts _ _ own).0
apart_at taken (f ∷ fields) (suc j) g own at = (or_parts _ _ (apart_at (f ∷ taken) fields j g (and_parts _ _ own).1 at)).1

-- nor with one that stands before it in the list
pub apart_own : (taken fields : List Field) (i j : ℕ) (f g : Field) → stand_apart taken fields ≡ true → i < j → slice_get fields i ≡ Some f → slice_get fields j ≡ Some g → share_bit g f ≡ false
apart_own taken [] i j f g own lt first second = absurd (none-some f first)
apart_own taken (h ∷ fields) zero zero f g own lt first second = absurd (omega arith)
apart_own taken (h ∷ fields) zero (suc j) f g own lt first second =
    ap (share_bit g) (sym (same_Some h f first)) ∙ (or_parts _ _ (apart_at (h ∷ taken) fields j g (and_parts _ _ own).1 second)).0
apart_own taken (h ∷ fields) (suc i) zero f g own lt first second = absurd (omega arith)
apart_own taken (h ∷ fields) (suc i) (suc j) f g own lt first second =
    apart_own (h ∷ taken) fields i j f g (and_parts _ _ own).1 (omega arith) first second

eqb-sym : (a b : ℕ) → eqb a b ≡ eqb b a
eqb-sym a b =
    elim (cases_eq a b) [
      | inl same ↦ eq-eqb a b same ∙ sym (eq-eqb b a (sym same))
      | inr apart ↦ ne_eqb a b apart ∙ sym (ne_eqb b a (λ e. apart (sym e)))
    ]

-- sharing a bit goes both ways
pub share_bit-sym : (f g : Field) → share_bit f g ≡ share_bit g f
share_bit-sym f g =
    let low : max f.shift g.shift ≡ max g.shift f.shift = omega arith in
    let high : min (f.shift + f.width) (g.shift + g.width) ≡ min (g.shift + g.width) (f.shift + f.width) = omega arith in
    ap (λ b. b && ltb (max f.shift g.shift) (min (f.shift + f.width) (g.shift + g.width))) (eqb-sym f.word g.word)
    ∙ (ap (λ n. eqb g.word f.word && ltb n (min (f.shift + f.width) (g.shift + g.width))) low
    ∙ ap (λ n. eqb g.word f.word && ltb (max g.shift f.shift) n) high)
