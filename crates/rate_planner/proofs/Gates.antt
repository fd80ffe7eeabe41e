-- A plan reads of the registers what the prepare tier has of them: the bits of gates make no difference.
use Rattle.std.proofs.Common.{◌≡◌, ℕ, Bool, true, false, cond, List, Option, Some, None, refl, sym, ap, subst, ◌∙◌}
use Rattle.std.specs.Prelude.{IfSome, Result, Ok, Err, IfOk, map, if◌then◌else◌}
use Rattle.std.specs.List.{AllByRecursion}
use Rattle.std.specs.Option.{option_and_then}
use Rattle.clk_base.specs.Description.{Description}
use Rattle.clk_base.specs.Levels.{depth}
use Rattle.clk_base.specs.Valid.{IsValid}
use Rattle.clk_base.proofs.Valid.{lines_end}
use Rattle.reg_bank.specs.Registers.{Registers}
use Rattle.clk_model.specs.Chain.{chain, chain_within, keeps_boundaries, outcome}
use Rattle.clk_model.specs.Prep.{masked}
use Rattle.clk_model.specs.Round.{Wiring, View}
use Rattle.clk_model.specs.State.{ChainStep}
use Rattle.clk_model.specs.Walk.{walk}
use Rattle.clk_model.specs.Wired.{LinksArePossible}
use Rattle.clk_model.proofs.AlikeLaws.{fields_of_masks}
use Rattle.clk_model.proofs.PlanLaws.{Climbs, climbs_within}
use Rattle.clk_model.proofs.SameSettingLaws.{IsPossible, chain_same, outcome_same, possible_in, tree_rates}
use Rattle.clk_tree.specs.Plans.{ClockRate}
use Rattle.clk_tree.specs.TreeState.{TreeState}
use Rattle.rate_planner.specs.Kept.{KeepsRates, Told, ToldButGates, wired}
use Rattle.rate_planner.specs.Walks.{at_rate, walked_rates}
use Rattle.rate_planner.proofs.ListSteps.{told_on, told_both}

-- what two facts of a value come to
pub both_ok : {A E : Type 0} (r : Result A E) (P Q R : A → Type 0) → ((x : A) → P x → Q x → R x) → IfOk r P → IfOk r Q → IfOk r R
both_ok (Ok x) P Q R on p q = on x p q
both_ok (Err e) P Q R on p q = tt

-- the parents in a plan are possible ones
plan_possible : (words : ℕ) (w : Wiring) (view : View) (c x : ℕ) (ks : List ChainStep) → IsValid words w.defs → LinksArePossible w.defs w.clocks → Some ks ≡ chain w view c x
    → AllByRecursion (IsPossible w.defs) ks
unfolding chain
plan_possible words w view c x ks valid links is = by (chain_within depth w view c x) (climbs_within depth w view c x (lines_end words w.defs valid) links) is where
  kept : (b : Bool) (ls : List ChainStep) → AllByRecursion (IsPossible w.defs) ls → Some ks ≡ cond b (Some ls) None → AllByRecursion (IsPossible w.defs) ks
  kept true ls possible e = let same : ls ≡ ks = cc in subst (λ (js : List ChainStep). AllByRecursion (IsPossible w.defs) js) same possible
  kept false ls possible e = absurd cc

  by : (o : Option (List ChainStep)) → IfSome o (Climbs w c) → Some ks ≡ option_and_then (λ ls. if keeps_boundaries w view ls then Some ls else None) o → AllByRecursion (IsPossible w.defs) ks
  by None climbs e = absurd cc
  by (Some ls) climbs e = kept (keeps_boundaries w view ls) ls (possible_in w ls climbs.leads.parents) e

module _ (told : Option Registers) (words : ℕ) (defs : Description) (t : TreeState) (view : View) (c x : ℕ) (valid : IsValid words defs) (links : LinksArePossible defs t.clocks) where
  -- the chain
  pub gates_chain : (found : Option (List ChainStep)) → Told told defs t (λ w. found ≡ chain w view c x) → ToldButGates told defs t (λ w. found ≡ chain w view c x)
  gates_chain found is =
      told_on told (λ (regs : Registers). KeepsRates defs regs t → found ≡ chain (wired defs regs t) view c x)
      (λ (regs : Registers). KeepsRates defs regs t → (other : Registers) → masked defs other ≡ masked defs regs → found ≡ chain (wired defs other t) view c x)
      (λ regs here kept other masks. here kept ∙ sym (chain_same words defs t.clocks regs other view c x valid links (fields_of_masks words defs regs other valid masks))) is

  -- the rates that come out
  pub gates_rates : (ks : List ChainStep) (rates : List ClockRate) → Told told defs t (λ w. Some ks ≡ chain w view c x) → Told told defs t (λ w. rates ≡ walked_rates t.order w ks)
      → ToldButGates told defs t (λ w. rates ≡ walked_rates t.order w ks)
  unfolding walk
  gates_rates ks rates planned walked =
      told_both told (λ (regs : Registers). KeepsRates defs regs t → Some ks ≡ chain (wired defs regs t) view c x)
      (λ (regs : Registers). KeepsRates defs regs t → rates ≡ walked_rates t.order (wired defs regs t) ks)
      (λ (regs : Registers). KeepsRates defs regs t → (other : Registers) → masked defs other ≡ masked defs regs → rates ≡ walked_rates t.order (wired defs other t) ks)
      (λ regs chained here kept other masks.
      let w : Wiring = wired defs regs t in
      let v : Wiring = wired defs other t in
      let possible = plan_possible words w view c x ks valid links (chained kept) in
      let out = tree_rates (outcome ks v) (outcome ks w) (outcome_same words ks v w valid possible (record { defs = refl; clocks = refl; regs = fields_of_masks words defs regs other valid masks })) in
      here kept ∙ sym (ap (λ (rated : ℕ → ℕ). map (at_rate rated) (walk t.order w ks)) out)) planned walked
