-- Laws on kept rates that are brought up to date from a clock down.
use Rattle.std.proofs.Common.{◌≡◌, ℕ, suc, ◌+◌, ◌-◌, ◌<◌, ◌≤◌, true, false, List, [], Option, Some, None, refl, sym, ap, subst, ◌∙◌, ◌⊎◌, inl, inr, arith, drop, length}
use Rattle.std.specs.Prelude.{IfSome, flat_map, slice_get, slice_index, slice_set}
use Rattle.std.proofs.lemmas.Bool.{cases_Bool, both_ways, false_from_ne_true}
use Rattle.std.proofs.lemmas.List.{get_or-set_same, get_or-set_other}
use Rattle.clk_base.specs.Description.{Description, kind_of}
use Rattle.reg_bank.specs.Registers.{Registers}
use Rattle.clk_model.specs.Lists.{is_in}
use Rattle.clk_model.specs.Rate.{rate_over}
use Rattle.clk_model.specs.Walk.{below_within}
use Rattle.clk_model.proofs.Members.{is_in_cases}
use Rattle.clk_model.proofs.OnceLaws.{flat_map_in}
use Rattle.clk_model.proofs.PllLaws.{at_place}
use Rattle.clk_tree.specs.Refreshed.{AreKidRings, AreOver}
use Rattle.clk_tree.proofs.Along.{ComesAt, none_left}
use Rattle.clk_tree.proofs.KidRings.{next_kid, none_below, below_left}
use Rattle.clk_tree.proofs.RingLaws.{not_in_cons}

-- so many of a clock's children are done: what is below them has its rate or is below a child that is left, and the rest is as before
pub record Refreshing (defs : Description) (told : Option Registers) (siblings old new : List ℕ) (levels clock rate at step : ℕ) : Type 0 where
  pub comes : (kids : ℕ → List ℕ) → AreKidRings (length defs) siblings kids → ComesAt siblings (length defs + clock) at (drop step (kids clock))
  pub below : IfSome told (λ regs. (kids : ℕ → List ℕ) (rates : ℕ → ℕ) → AreKidRings (length defs) siblings kids → AreOver defs regs kids rates
      → rates clock ≡ rate → (k : ℕ) → is_in k (flat_map (below_within kids levels) (kids clock)) ≡ true
      → (slice_index new k ≡ rates k) ⊎ (is_in k (flat_map (below_within kids levels) (drop step (kids clock))) ≡ true))
  pub others : (kids : ℕ → List ℕ) → AreKidRings (length defs) siblings kids → (k : ℕ) → is_in k (flat_map (below_within kids levels) (kids clock)) ≡ false
      → slice_index new k ≡ slice_index old k

-- what is brought up to date below a clock of this rate, and what isn't
pub record RefreshesKids (defs : Description) (told : Option Registers) (siblings old new : List ℕ) (levels clock rate : ℕ) : Type 0 where
  pub below : IfSome told (λ regs. (kids : ℕ → List ℕ) (rates : ℕ → ℕ) → AreKidRings (length defs) siblings kids → AreOver defs regs kids rates
      → rates clock ≡ rate → (k : ℕ) → is_in k (flat_map (below_within kids levels) (kids clock)) ≡ true → slice_index new k ≡ rates k)
  pub others : (kids : ℕ → List ℕ) → AreKidRings (length defs) siblings kids → (k : ℕ) → is_in k (flat_map (below_within kids levels) (kids clock)) ≡ false
      → slice_index new k ≡ slice_index old k

-- what is brought up to date from a clock down, and what isn't
pub record RefreshesBelow (defs : Description) (told : Option Registers) (siblings old new : List ℕ) (levels clock parent : ℕ) : Type 0 where
  pub below : IfSome told (λ regs. (kids : ℕ → List ℕ) (rates : ℕ → ℕ) → AreKidRings (length defs) siblings kids → AreOver defs regs kids rates
      → rates clock ≡ rate_over (kind_of defs clock) regs parent → (k : ℕ) → is_in k (below_within kids levels clock) ≡ true → slice_index new k ≡ rates k)
  pub others : (kids : ℕ → List ℕ) → AreKidRings (length defs) siblings kids → (k : ℕ) → is_in k (below_within kids levels clock) ≡ false → slice_index new k ≡ slice_index old k

-- ---- one child more

pub one_child : (defs : Description) (told : Option Registers) (siblings old mid new : List ℕ) (levels clock rate at next step : ℕ)
    → at < length defs → next ≡ slice_index siblings at
    → Refreshing defs told siblings old mid levels clock rate at step → RefreshesBelow defs told siblings mid new levels at rate
    → Refreshing defs told siblings old new levels clock rate next (step + 1)
one_child defs told siblings old mid new levels clock rate at next step less follows so_far child =
    subst (λ (n : ℕ). Refreshing defs told siblings old new levels clock rate next n) (let one : suc step ≡ step + 1 = omega arith in one) (record {
      comes = λ kids are. subst (λ (a : ℕ). ComesAt siblings (length defs + clock) a (drop (suc step) (kids clock))) (sym follows) (on kids are).1;
      below = given told so_far.below child.below;
      others = λ kids are k out. child.others kids are k (not_there kids are k out) ∙ so_far.others kids are k out;
    }) where
      on : (kids : ℕ → List ℕ) → AreKidRings (length defs) siblings kids → (slice_get (kids clock) step ≡ Some at) × ComesAt siblings (length defs + clock) (slice_index siblings at) (drop (suc step) (kids clock))
      on = next_kid (length defs) siblings clock at step less so_far.comes

      not_there : (kids : ℕ → List ℕ) → AreKidRings (length defs) siblings kids → (k : ℕ) → is_in k (flat_map (below_within kids levels) (kids clock)) ≡ false → is_in k (below_within kids levels at) ≡ false
      not_there kids are k out =
          false_from_ne_true (is_in k (below_within kids levels at)) (λ there.
          both_ways _ out (flat_map_in (below_within kids levels) k at (kids clock) (at_place (kids clock) step at (on kids are).0) there))

      given : (told' : Option Registers)
          → IfSome told' (λ regs. (kids : ℕ → List ℕ) (rates : ℕ → ℕ) → AreKidRings (length defs) siblings kids → AreOver defs regs kids rates
          → rates clock ≡ rate → (k : ℕ) → is_in k (flat_map (below_within kids levels) (kids clock)) ≡ true
          → (slice_index mid k ≡ rates k) ⊎ (is_in k (flat_map (below_within kids levels) (drop step (kids clock))) ≡ true))
          → IfSome told' (λ regs. (kids : ℕ → List ℕ) (rates : ℕ → ℕ) → AreKidRings (length defs) siblings kids → AreOver defs regs kids rates
          → rates at ≡ rate_over (kind_of defs at) regs rate → (k : ℕ) → is_in k (below_within kids levels at) ≡ true → slice_index new k ≡ rates k)
          → IfSome told' (λ regs. (kids : ℕ → List ℕ) (rates : ℕ → ℕ) → AreKidRings (length defs) siblings kids → AreOver defs regs kids rates
          → rates clock ≡ rate → (k : ℕ) → is_in k (flat_map (below_within kids levels) (kids clock)) ≡ true
          → (slice_index new k ≡ rates k) ⊎ (is_in k (flat_map (below_within kids levels) (drop (suc step) (kids clock))) ≡ true))
      given None f g = tt
      given (Some regs) f g = λ kids rates are over top k m.
          let child_rate : rates at ≡ rate_over (kind_of defs at) regs rate =
          over clock at (at_place (kids clock) step at (on kids are).0) ∙ ap (rate_over (kind_of defs at) regs) top in
          elim (cases_Bool (is_in k (below_within kids levels at))) [
            | inl there ↦ inl (g kids rates are over child_rate k there)
            | inr gone ↦ elim (f kids rates are over top k m) [
              | inl right ↦ inl (child.others kids are k gone ∙ right)
              | inr later ↦ elim (below_left kids levels clock at step k (on kids are).0 later) [
                | inl in_child ↦ absurd (both_ways _ gone in_child)
                | inr rest ↦ inr rest
              ]
            ]
          ]

-- ---- all children

-- where no child is left, all below the clock is done
pub all_done : (defs : Description) (told : Option Registers) (siblings old new : List ℕ) (levels clock rate at step : ℕ)
    → ((kids : ℕ → List ℕ) → AreKidRings (length defs) siblings kids → length (kids clock) ≤ step)
    → Refreshing defs told siblings old new levels clock rate at step → RefreshesKids defs told siblings old new levels clock rate
all_done defs told siblings old new levels clock rate at step all so_far = record { below = given told so_far.below; others = so_far.others } where
  given : (told' : Option Registers)
      → IfSome told' (λ regs. (kids : ℕ → List ℕ) (rates : ℕ → ℕ) → AreKidRings (length defs) siblings kids → AreOver defs regs kids rates
      → rates clock ≡ rate → (k : ℕ) → is_in k (flat_map (below_within kids levels) (kids clock)) ≡ true
      → (slice_index new k ≡ rates k) ⊎ (is_in k (flat_map (below_within kids levels) (drop step (kids clock))) ≡ true))
      → IfSome told' (λ regs. (kids : ℕ → List ℕ) (rates : ℕ → ℕ) → AreKidRings (length defs) siblings kids → AreOver defs regs kids rates
      → rates clock ≡ rate → (k : ℕ) → is_in k (flat_map (below_within kids levels) (kids clock)) ≡ true → slice_index new k ≡ rates k)
  given None h = tt
  given (Some regs) h = λ kids rates are over top k m. elim (h kids rates are over top k m) [
    | inl right ↦ right
    | inr later ↦ absurd (nothing (ap (λ (ys : List ℕ). is_in k (flat_map (below_within kids levels) ys)) (sym (none_left (kids clock) step (all kids are))) ∙ later))
  ] where
    nothing : false ≡ true → ⊥
    nothing e = cc

-- where nothing is below a clock, all is done
pub nothing_below : (defs : Description) (told : Option Registers) (siblings old : List ℕ) (levels clock rate : ℕ)
    → ((kids : ℕ → List ℕ) → AreKidRings (length defs) siblings kids → (k : ℕ) → is_in k (flat_map (below_within kids levels) (kids clock)) ≡ false)
    → RefreshesKids defs told siblings old old levels clock rate
nothing_below defs told siblings old levels clock rate none = record { below = given told; others = λ kids are k out. refl } where
  given : (told' : Option Registers) → IfSome told' (λ regs. (kids : ℕ → List ℕ) (rates : ℕ → ℕ) → AreKidRings (length defs) siblings kids → AreOver defs regs kids rates
      → rates clock ≡ rate → (k : ℕ) → is_in k (flat_map (below_within kids levels) (kids clock)) ≡ true → slice_index old k ≡ rates k)
  given None = tt
  given (Some regs) = λ kids rates are over top k m. absurd (both_ways _ (none kids are k) m)

-- as without a level
pub no_level : (defs : Description) (told : Option Registers) (siblings old : List ℕ) (levels clock rate : ℕ) → levels ≡ 0 → RefreshesKids defs told siblings old old levels clock rate
no_level defs told siblings old levels clock rate is =
    nothing_below defs told siblings old levels clock rate (λ kids are k.
    subst (λ (n : ℕ). is_in k (flat_map (below_within kids n) (kids clock)) ≡ false) (sym is) (none_below kids k (kids clock)))

-- and without a child
pub no_child : (defs : Description) (told : Option Registers) (siblings old : List ℕ) (levels clock rate : ℕ)
    → ((kids : ℕ → List ℕ) → AreKidRings (length defs) siblings kids → kids clock ≡ []) → RefreshesKids defs told siblings old old levels clock rate
no_child defs told siblings old levels clock rate none =
    nothing_below defs told siblings old levels clock rate (λ kids are k.
    ap (λ (xs : List ℕ). is_in k (flat_map (below_within kids levels) xs)) (none kids are))

-- ---- the clock's own rate

-- the clock's own rate, and then what is below it
pub own_rate : (defs : Description) (told : Option Registers) (siblings old new : List ℕ) (levels deep clock parent found : ℕ)
    → 0 < deep → levels ≡ deep - 1 → clock < length old → IfSome told (λ regs. found ≡ rate_over (kind_of defs clock) regs parent)
    → RefreshesKids defs told siblings (slice_set old clock found) new levels clock found → RefreshesBelow defs told siblings old new deep clock parent
own_rate defs told siblings old new levels deep clock parent found some less within own kids_done =
    subst (λ (n : ℕ). RefreshesBelow defs told siblings old new n clock parent) (let is : suc levels ≡ deep = omega arith in is) (record {
      below = given told own kids_done.below;
      others = λ kids are k out.
          let parts = not_in_cons k clock (flat_map (below_within kids levels) (kids clock)) out in
          kids_done.others kids are k parts.1 ∙ get_or-set_other old clock k found 0 (λ same. parts.0 (sym same));
    }) where
      given : (told' : Option Registers) → IfSome told' (λ regs. found ≡ rate_over (kind_of defs clock) regs parent)
          → IfSome told' (λ regs. (kids : ℕ → List ℕ) (rates : ℕ → ℕ) → AreKidRings (length defs) siblings kids → AreOver defs regs kids rates
          → rates clock ≡ found → (k : ℕ) → is_in k (flat_map (below_within kids levels) (kids clock)) ≡ true → slice_index new k ≡ rates k)
          → IfSome told' (λ regs. (kids : ℕ → List ℕ) (rates : ℕ → ℕ) → AreKidRings (length defs) siblings kids → AreOver defs regs kids rates
          → rates clock ≡ rate_over (kind_of defs clock) regs parent → (k : ℕ) → is_in k (below_within kids (suc levels) clock) ≡ true → slice_index new k ≡ rates k)
      given None h f = tt
      given (Some regs) h f = λ kids rates are over top k m.
          let here : rates clock ≡ found = top ∙ sym h in
          elim (cases_Bool (is_in k (flat_map (below_within kids levels) (kids clock)))) [
            | inl later ↦ f kids rates are over here k later
            | inr out ↦ elim (is_in_cases k clock (flat_map (below_within kids levels) (kids clock)) m) [
              | inl same ↦
                  kids_done.others kids are k out ∙ ap (slice_index (slice_set old clock found)) (sym same) ∙ get_or-set_same old clock found 0 within
                  ∙ sym here ∙ ap rates same
              | inr later ↦ absurd (both_ways _ out later)
            ]
          ]
