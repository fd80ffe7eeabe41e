-- The steps of adoptions, orphan by orphan.
use Rattle.std.proofs.Common.{◌≡◌, ℕ, ◌+◌, ◌≤◌, ◌||◌, ◌++◌, Bool, true, List, [], ◌∷◌, Option, Some, None, refl, sym, ap, subst, ◌∙◌, length, take, nat_eq, append_assoc, append-nil}
use Rattle.std.specs.Prelude.{flat_map, slice_get}
use Rattle.std.specs.Option.{option_map_or}
use Rattle.std.proofs.lemmas.Grind.{flat_map-append}
use Rattle.clk_base.specs.declared.call.Micro.{Micro}
use Rattle.clk_base.specs.declared.call.Micro.TheVariants as micro
use Rattle.clk_base.specs.declared.clock.ClockId.{ClockId}
use Rattle.clk_base.specs.Description.{Description, parents_of}
use Rattle.clk_base.specs.Flags.{is_critical}
use Rattle.clk_base.specs.Places.{places}
use Rattle.clk_model.specs.Begin.{register}
use Rattle.clk_model.specs.Chain.{clock_id}
use Rattle.clk_model.specs.Holders.{prepared}
use Rattle.clk_model.specs.Lists.{is_in}
use Rattle.clk_model.specs.Script.{adoption, probe_script}
use Rattle.clk_model.specs.State.{State, registered}
use Rattle.clk_model.specs.Tree.{link_given}
use Rattle.clk_model.proofs.LinkBegins.{register_defs}
use Rattle.core_parts.specs.Adoption.{adoption_by, registration_of}
use Rattle.clk_machine.specs.Adopting.{adopted, is_beside, AreAdoptions, none, one_more, Adopts, AreProbeSteps}
use Rattle.clk_machine.specs.Parts.{Parts}
use Rattle.clk_machine.specs.Sound.{IsSound}
use Rattle.clk_machine.specs.Stands.{Stands}
use Rattle.clk_machine.proofs.SweepScript.{take_one, take_whole}

-- no orphan
pub adopts_none : (m : Parts) (new : ℕ) (steps : List Micro) → Adopts m new [] steps steps
adopts_none m new steps = record { added = []; steps = sym (append-nil steps); are = none; told = λ s stands sound. refl }

-- one that is given no parent
pub adopts_not : (m : Parts) (new : ℕ) (orphan : ClockId) (steps : List Micro)
    → ((s : State) → Stands m s → link_given (register s new).defs (register s new).regs (register s new).clocks orphan.0 ≡ None) → Adopts m new (orphan.0 ∷ []) steps steps
adopts_not m new orphan steps lacks = record {
  added = [];
  steps = sym (append-nil steps);
  are = none;
  told = λ s stands sound.
      sym (append-nil (adoption (register s new) orphan.0)
      ∙ ap (λ (o : Option ℕ). option_map_or (λ p. adoption_by orphan (clock_id p) (prepared (register s new) orphan.0)) o []) (lacks s stands));
}

-- one that is given one
pub adopts_one : (m : Parts) (new : ℕ) (orphan parent : ClockId) (held : Bool) (before after : List Micro) → registered m.tree.clocks orphan.0 ≡ true → is_beside m new parent.0 ≡ true
    → is_in parent.0 (parents_of m.desc.defs orphan.0) ≡ true
    → ((s : State) → Stands m s → link_given (register s new).defs (register s new).regs (register s new).clocks orphan.0 ≡ Some parent.0)
    → ((s : State) → Stands m s → IsSound m.window.size s → held ≡ prepared (register s new) orphan.0)
    → after ≡ before ++ adoption_by orphan parent held → Adopts m new (orphan.0 ∷ []) before after
adopts_one m new orphan parent held before after there beside possible given tells added = record {
  added = adoption_by orphan parent held ++ [];
  steps = added ∙ ap (λ (ms : List Micro). before ++ ms) (sym (append-nil (adoption_by orphan parent held)));
  are = one_more orphan parent held (ap (λ (t : Bool). t || nat_eq new orphan.0) there) beside possible none;
  told = λ s stands sound.
      ap (λ (t : Bool). adoption_by orphan parent t ++ []) (tells s stands sound)
      ∙ ap (λ (o : Option ℕ). option_map_or (λ p. adoption_by orphan (clock_id p) (prepared (register s new) orphan.0)) o [] ++ []) (sym (given s stands));
}

-- those of one list, and then those of another
are_both : {defs : Description} {there : ℕ → Bool} {xs ys : List Micro} → AreAdoptions defs there xs → AreAdoptions defs there ys → AreAdoptions defs there (xs ++ ys)
are_both none two = two
are_both {defs = defs} {there = there} {ys = ys} (one_more {rest = rest} a p held here beside possible one) two =
    subst (λ (ms : List Micro). AreAdoptions defs there ms) (sym (append_assoc (adoption_by a p held) rest ys)) (one_more a p held here beside possible (are_both one two))

pub adopts_more : (m : Parts) (new : ℕ) (xs ys : List ℕ) (before mid after : List Micro) → Adopts m new xs before mid → Adopts m new ys mid after → Adopts m new (xs ++ ys) before after
adopts_more m new xs ys before mid after one two = record {
  added = one.added ++ two.added;
  steps = two.steps ∙ ap (λ (ms : List Micro). ms ++ two.added) one.steps ∙ append_assoc before one.added two.added;
  are = are_both one.are two.are;
  told = λ s stands sound.
      ap (λ (ms : List Micro). ms ++ two.added) (one.told s stands sound) ∙ ap (λ (ms : List Micro). flat_map (adoption (register s new)) xs ++ ms) (two.told s stands sound)
      ∙ sym (flat_map-append (adoption (register s new)) xs ys);
}

-- one orphan more of a list
pub adopts_on : (m : Parts) (new : ℕ) (orphans : List ClockId) (k : ℕ) (c : ClockId) (before mid after : List Micro) → slice_get orphans k ≡ Some c
    → Adopts m new (take k (places orphans)) before mid → Adopts m new (places (c ∷ [])) mid after → Adopts m new (take (k + 1) (places orphans)) before after
adopts_on m new orphans k c before mid after at so_far one =
    subst (λ (xs : List ℕ). Adopts m new xs before after) (sym (take_one orphans k c at)) (adopts_more m new (take k (places orphans)) (c.0 ∷ []) before mid after so_far one)

pub adopts_all : (m : Parts) (new : ℕ) (orphans : List ClockId) (k : ℕ) (before after : List Micro) → length orphans ≤ k → Adopts m new (take k (places orphans)) before after → Adopts m new (places orphans) before after
adopts_all m new orphans k before after past so_far = subst (λ (xs : List ℕ). Adopts m new xs before after) (take_whole orphans k past) so_far

-- ---- the whole script

script_is : (r : State) (c : ClockId) → probe_script r c.0 ≡ (registration_of (is_critical r.defs c.0) c ++ flat_map (adoption r) (adopted r)) ++ micro.End ∷ []
unfolding probe_script
script_is r c = refl

-- the registration, the adoptions behind it, and the end
pub probe_steps_are : (m : Parts) (new : ClockId) (orphans : List ℕ) (critical : Bool) (none' first all steps : List Micro) → none' ≡ [] → critical ≡ is_critical m.desc.defs new.0
    → first ≡ none' ++ registration_of critical new → Adopts m new.0 orphans first all → steps ≡ all ++ micro.End ∷ [] → AreProbeSteps m new orphans steps
probe_steps_are m new orphans critical none' first all steps empty is registers adopts ends = record {
  added = adopts.added;
  steps_ = whole;
  are = adopts.are;
  told = λ s stands sound same.
      let r : State = register s new.0 in
      whole
      ∙ ap (λ (t : Bool). (registration_of t new ++ adopts.added) ++ micro.End ∷ []) (ap (λ (ds : Description). is_critical ds new.0) (sym (register_defs s new.0 ∙ stands.defs)))
      ∙ ap (λ (ms : List Micro). (registration_of (is_critical r.defs new.0) new ++ ms) ++ micro.End ∷ []) (adopts.told s stands sound ∙ ap (flat_map (adoption r)) same)
      ∙ sym (script_is r new);
} where
  whole : steps ≡ (registration_of (is_critical m.desc.defs new.0) new ++ adopts.added) ++ micro.End ∷ []
  whole =
      ends
      ∙ ap (λ (ms : List Micro). ms ++ micro.End ∷ []) (adopts.steps
      ∙ ap (λ (ms : List Micro). ms ++ adopts.added) (registers ∙ ap (λ (ms : List Micro). ms ++ registration_of critical new) empty ∙ ap (λ (t : Bool). registration_of t new) is))
