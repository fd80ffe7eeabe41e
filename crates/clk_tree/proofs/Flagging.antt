-- Laws on flags that are set from a clock down.
use Rattle.std.proofs.Common.{◌≡◌, ℕ, suc, ◌+◌, ◌<◌, ◌≤◌, Bool, true, false, List, sym, ap, subst, ◌∙◌, ◌⊎◌, inl, inr, arith, drop, length}
use Rattle.std.specs.Prelude.{flat_map, slice_get, slice_index, Some}
use Rattle.std.proofs.lemmas.Bool.{cases_Bool, both_ways}
use Rattle.clk_base.specs.Tables.{flag_at}
use Rattle.clk_model.specs.Lists.{is_in}
use Rattle.clk_model.specs.Walk.{below_within}
use Rattle.clk_model.proofs.PllLaws.{at_place}
use Rattle.clk_tree.specs.Refreshed.{AreKidRings}
use Rattle.clk_tree.proofs.Along.{ComesAt, none_left}
use Rattle.clk_tree.proofs.KidRings.{next_kid, not_below_kid, below_left}

-- so many of a clock's children are done: what is below the clock has the flag or is below a child that is left, and the rest is as before
pub record Flagging (n : ℕ) (siblings : List ℕ) (old new : List Bool) (levels clock : ℕ) (flag : Bool) (at step : ℕ) : Type 0 where
  pub comes : (kids : ℕ → List ℕ) → AreKidRings n siblings kids → ComesAt siblings (n + clock) at (drop step (kids clock))
  pub below : (kids : ℕ → List ℕ) → AreKidRings n siblings kids → (k : ℕ) → is_in k (below_within kids (suc levels) clock) ≡ true
      → (flag_at new k ≡ flag) ⊎ (is_in k (flat_map (below_within kids levels) (drop step (kids clock))) ≡ true)
  pub others : (kids : ℕ → List ℕ) → AreKidRings n siblings kids → (k : ℕ) → is_in k (below_within kids (suc levels) clock) ≡ false → flag_at new k ≡ flag_at old k

-- which flags are set from a clock down, and which aren't
pub record SetsBelow (n : ℕ) (siblings : List ℕ) (old new : List Bool) (levels clock : ℕ) (flag : Bool) : Type 0 where
  pub below : (kids : ℕ → List ℕ) → AreKidRings n siblings kids → (k : ℕ) → is_in k (below_within kids levels clock) ≡ true → flag_at new k ≡ flag
  pub others : (kids : ℕ → List ℕ) → AreKidRings n siblings kids → (k : ℕ) → is_in k (below_within kids levels clock) ≡ false → flag_at new k ≡ flag_at old k

-- one child more
pub kid_set : (n : ℕ) (siblings : List ℕ) (old mid new : List Bool) (levels clock : ℕ) (flag : Bool) (at next step : ℕ) → at < n → next ≡ slice_index siblings at
    → Flagging n siblings old mid levels clock flag at step → SetsBelow n siblings mid new levels at flag → Flagging n siblings old new levels clock flag next (step + 1)
kid_set n siblings old mid new levels clock flag at next step less follows so_far kid =
    subst (λ (s : ℕ). Flagging n siblings old new levels clock flag next s) (let one : suc step ≡ step + 1 = omega arith in one) (record {
      comes = λ kids are. subst (λ (a : ℕ). ComesAt siblings (n + clock) a (drop (suc step) (kids clock))) (sym follows) (on kids are).1;
      below = λ kids are k m. elim (cases_Bool (is_in k (below_within kids levels at))) [
        | inl there ↦ inl (kid.below kids are k there)
        | inr gone ↦ elim (so_far.below kids are k m) [
          | inl right ↦ inl (kid.others kids are k gone ∙ right)
          | inr later ↦ elim (below_left kids levels clock at step k (on kids are).0 later) [
            | inl in_kid ↦ absurd (both_ways _ gone in_kid)
            | inr rest ↦ inr rest
          ]
        ]
      ];
      others = λ kids are k out. kid.others kids are k (not_below_kid kids levels clock at k (at_place (kids clock) step at (on kids are).0) out) ∙ so_far.others kids are k out;
    }) where
      on : (kids : ℕ → List ℕ) → AreKidRings n siblings kids → (slice_get (kids clock) step ≡ Some at) × ComesAt siblings (n + clock) (slice_index siblings at) (drop (suc step) (kids clock))
      on = next_kid n siblings clock at step less so_far.comes

-- where no child is left, all below the clock is done
pub all_set : (n : ℕ) (siblings : List ℕ) (old new : List Bool) (deep levels clock : ℕ) (flag : Bool) (at step : ℕ) → deep ≡ suc levels
    → ((kids : ℕ → List ℕ) → AreKidRings n siblings kids → length (kids clock) ≤ step)
    → Flagging n siblings old new levels clock flag at step → SetsBelow n siblings old new deep clock flag
all_set n siblings old new deep levels clock flag at step is all so_far =
    subst (λ (l : ℕ). SetsBelow n siblings old new l clock flag) (sym is) (record {
      below = λ kids are k m. elim (so_far.below kids are k m) [
        | inl right ↦ right
        | inr later ↦ absurd (nothing (ap (λ (ys : List ℕ). is_in k (flat_map (below_within kids levels) ys)) (sym (none_left (kids clock) step (all kids are))) ∙ later))
      ];
      others = so_far.others;
    }) where
      nothing : false ≡ true → ⊥
      nothing e = cc
