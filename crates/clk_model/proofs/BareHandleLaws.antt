-- Laws on handles without their enables: what they tell of holders, boundaries and a driver's own handle.
use Rattle.std.proofs.Common.{◌≡◌, ℕ, zero, suc, ◌||◌, Bool, true, false, cond, List, [], ◌∷◌, Option, Some, None, refl, sym, ap, ◌∙◌, map, set, subst, nat_eq}
use Rattle.std.specs.Prelude.{filter, option_map}
use Rattle.std.specs.List.{list_any}
use Rattle.std.specs.Option.{option_map_or}
use Rattle.clk_model.specs.declared.row.HandleRow.{HandleRow}
use Rattle.clk_model.specs.Lists.{present}
use Rattle.clk_model.specs.State.{State, handle_at}
use Rattle.clk_model.specs.Begin.{own_handle}
use Rattle.clk_model.specs.Prep.{without_enables}
use Rattle.clk_model.specs.Views.{lifted_row}
use Rattle.clk_model.proofs.PrepToldLaws.{handle_masked}

-- handles without their enables
abbrev pub bare : List (Option HandleRow) → List (Option HandleRow)
bare handles = map (option_map without_enables) handles

-- ---- values of handles

bare_values : {X : Type 0} (value : HandleRow → X) (test : HandleRow → Bool) (handles : List (Option HandleRow)) → ((h : HandleRow) → value (without_enables h) ≡ value h)
    → ((h : HandleRow) → test (without_enables h) ≡ test h) → map value (filter test (present (bare handles))) ≡ map value (filter test (present handles))
bare_values value test [] read tests = refl
bare_values value test (None ∷ handles) read tests = bare_values value test handles read tests
bare_values value test (Some h ∷ handles) read tests =
    ap (λ (t : Bool). map value (cond t (without_enables h ∷ filter test (present (bare handles))) (filter test (present (bare handles))))) (tests h)
    ∙ by_test (test h) (bare_values value test handles read tests) where
      by_test : (t : Bool) → map value (filter test (present (bare handles))) ≡ map value (filter test (present handles))
          → map value (cond t (without_enables h ∷ filter test (present (bare handles))) (filter test (present (bare handles))))
          ≡ map value (cond t (h ∷ filter test (present handles)) (filter test (present handles)))
      by_test false rest = rest
      by_test true rest = ap (λ x. x ∷ map value (filter test (present (bare handles)))) (read h) ∙ ap (λ xs. value h ∷ xs) rest

-- what is read of the handles that pass a test is the same where it and the test don't look at enables
pub values_same : {X : Type 0} (value : HandleRow → X) (test : HandleRow → Bool) (old new : List (Option HandleRow)) → ((h : HandleRow) → value (without_enables h) ≡ value h)
    → ((h : HandleRow) → test (without_enables h) ≡ test h) → bare new ≡ bare old → map value (filter test (present new)) ≡ map value (filter test (present old))
values_same value test old new read tests same =
    sym (bare_values value test new read tests) ∙ ap (λ (hs : List (Option HandleRow)). map value (filter test (present hs))) same ∙ bare_values value test old read tests

any_value : {X : Type 0} (value : HandleRow → X) (p : X → Bool) (hs : List HandleRow) → list_any (λ h. p (value h)) hs ≡ list_any p (map value hs)
any_value value p [] = refl
any_value value p (h ∷ hs) = ap (λ (t : Bool). p (value h) || t) (any_value value p hs)

-- and so is whether any of them passes another
pub any_same : {X : Type 0} (value : HandleRow → X) (p : X → Bool) (test : HandleRow → Bool) (old new : List (Option HandleRow)) → ((h : HandleRow) → value (without_enables h) ≡ value h)
    → ((h : HandleRow) → test (without_enables h) ≡ test h) → bare new ≡ bare old
    → list_any (λ h. p (value h)) (filter test (present new)) ≡ list_any (λ h. p (value h)) (filter test (present old))
any_same value p test old new read tests same =
    any_value value p (filter test (present new)) ∙ ap (λ xs. list_any p xs) (values_same value test old new read tests same) ∙ sym (any_value value p (filter test (present old)))

-- ---- one handle

pub bare_set : (handles : List (Option HandleRow)) (n : ℕ) (o : Option HandleRow) → bare (set handles n o) ≡ set (bare handles) n (option_map without_enables o)
bare_set [] n o = refl
bare_set (h ∷ handles) zero o = refl
bare_set (h ∷ handles) (suc n) o = ap (λ (hs : List (Option HandleRow)). option_map without_enables h ∷ hs) (bare_set handles n o)

-- handles that are the same without enables stay so where one of them becomes the same in both
pub set_bare : (old new : List (Option HandleRow)) (n : ℕ) (o o' : Option HandleRow) → bare new ≡ bare old → option_map without_enables o' ≡ option_map without_enables o
    → bare (set new n o') ≡ bare (set old n o)
set_bare old new n o o' same one =
    bare_set new n o'
    ∙ ap (λ (hs : List (Option HandleRow)). set hs n (option_map without_enables o')) same
    ∙ ap (λ (h : Option HandleRow). set (bare old) n h) one
    ∙ sym (bare_set old n o)

-- the handle of a number is the same without enables
pub at_bare : (old new : List (Option HandleRow)) (n : ℕ) → bare new ≡ bare old → option_map without_enables (handle_at new n) ≡ option_map without_enables (handle_at old n)
at_bare old new n same = handle_masked new n ∙ ap (λ (hs : List (Option HandleRow)). handle_at hs n) same ∙ sym (handle_masked old n)

lifted_bare : (o : Option HandleRow) → option_map without_enables (option_map lifted_row o) ≡ option_map lifted_row (option_map without_enables o)
lifted_bare None = refl
lifted_bare (Some h) = refl

-- and so are the handles with an exclusive less
pub lift_bare : (old new : List (Option HandleRow)) (n : ℕ) → bare new ≡ bare old
    → bare (set new n (option_map lifted_row (handle_at new n))) ≡ bare (set old n (option_map lifted_row (handle_at old n)))
lift_bare old new n same =
    set_bare old new n (option_map lifted_row (handle_at old n)) (option_map lifted_row (handle_at new n)) same
    (lifted_bare (handle_at new n) ∙ ap (λ (o : Option HandleRow). option_map lifted_row o) (at_bare old new n same) ∙ sym (lifted_bare (handle_at old n)))

-- ---- a driver's own handle

-- the driver has no such handle in both, or it has one that is the same without enables
pub data SameOwn : Option HandleRow → Option HandleRow → Type 0 where
  neither : SameOwn None None
  both_have : (row row' : HandleRow) → without_enables row' ≡ without_enables row → SameOwn (Some row) (Some row')

pub inside : {a b : HandleRow} → Some a ≡ Some b → a ≡ b
inside e = cc

own_of : (d : ℕ) (row row' : HandleRow) (t : Bool) → without_enables row' ≡ without_enables row → SameOwn (cond t (Some row) None) (cond t (Some row') None)
own_of d row row' true same = both_have row row' same
own_of d row row' false same = neither

own_from : (d : ℕ) (o o' : Option HandleRow) → option_map without_enables o' ≡ option_map without_enables o
    → SameOwn (option_map_or (λ h. cond (nat_eq h.driver d) (Some h) None) o None) (option_map_or (λ h. cond (nat_eq h.driver d) (Some h) None) o' None)
own_from d None None same = neither
own_from d None (Some h) same = absurd cc
own_from d (Some h) None same = absurd cc
own_from d (Some row) (Some row') same =
    let alike : without_enables row' ≡ without_enables row = inside same in
    subst (λ (n : ℕ). SameOwn (cond (nat_eq row.driver d) (Some row) None) (cond (nat_eq n d) (Some row') None)) (sym (ap (λ (h : HandleRow). h.driver) alike))
    (own_of d row row' (nat_eq row.driver d) alike)

pub own_same : (s t : State) (d n : ℕ) → bare t.handles ≡ bare s.handles → SameOwn (own_handle s d n) (own_handle t d n)
own_same s t d n same = own_from d (handle_at s.handles n) (handle_at t.handles n) (at_bare s.handles t.handles n same)
