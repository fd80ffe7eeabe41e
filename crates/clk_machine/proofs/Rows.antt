-- What whole parts tell of a state that they stand for.
use Rattle.std.proofs.Common.{◌≡◌, ℕ, ◌<◌, true, List, Option, sym, ap, subst, ◌∙◌, length}
use Rattle.std.specs.Prelude.{slice_index}
use Rattle.clk_base.specs.Description.{Description}
use Rattle.clk_model.specs.declared.row.ClockRow.{ClockRow}
use Rattle.clk_model.specs.State.{State, registered, link_in}
use Rattle.clk_model.specs.Lists.{is_in, none_twice}
use Rattle.clk_model.specs.Rate.{rate}
use Rattle.counts_core.specs.Standing.{HoldsAsIn, CountsAsIn}
use Rattle.counts_core.proofs.Standing.{tells_holds, tells_counts}
use Rattle.clk_machine.specs.Row.{IsTreeOf}
use Rattle.core_parts.specs.Tied.{AreKept}
use Rattle.clk_machine.specs.Parts.{Parts, IsWhole}
use Rattle.clk_machine.specs.Stands.{Stands}
use Rattle.clk_machine.proofs.Writing.{counts_stand}

-- the kept rate of each registered clock is the one that the registers give
pub rates_stand : (m : Parts) (s : State) (c : ℕ) → IsWhole m → Stands m s → registered m.tree.clocks c ≡ true → slice_index m.tree.rates c ≡ rate s.defs s.regs s.clocks c
rates_stand m s c whole stands there =
    (subst (λ (o : Option (List ℕ)). AreKept m.desc.defs o m.tree.clocks m.tree.rates) stands.regs whole.tied.kept) c there
    ∙ sym (ap (λ (d : Description). rate d s.regs s.clocks c) stands.defs ∙ ap (λ (rs : List ClockRow). rate m.desc.defs s.regs rs c) stands.clocks)

-- the tree is that of the state
pub tree_stands : (m : Parts) (s : State) → IsWhole m → Stands m s → IsTreeOf s m.tree
tree_stands m s whole stands = record {
  defs = whole.tied.defs ∙ sym stands.defs;
  clocks = sym stands.clocks;
  order = sym stands.order;
  rates = λ c there. rates_stand m s c whole stands (sym (ap (λ (rs : List ClockRow). registered rs c) stands.clocks) ∙ there);
}

-- each clock is active, prepared and guarded in the counts where it is so in the state
pub holds_stand : (m : Parts) (s : State) (c : ℕ) → IsWhole m → Stands m s → HoldsAsIn m.counts s c
holds_stand m s c whole stands = tells_holds m.counts s whole.counted.keeps (counts_stand m s whole stands) c

-- and the three sums are its counts
pub sums_stand : (m : Parts) (s : State) (c : ℕ) → IsWhole m → Stands m s → CountsAsIn m.counts s c
sums_stand m s c whole stands = tells_counts m.counts s whole.counted.keeps (counts_stand m s whole stands) (record {
  once = ap (λ (xs : List ℕ). none_twice xs) stands.order ∙ whole.tied.stands.order_lists.once;
  linked = λ d p e.
      ap (λ (xs : List ℕ). is_in d xs) stands.order ∙ whole.tied.stands.order_lists.listed d
      ∙ whole.tied.stands.linked d p (sym (ap (λ (rs : List ClockRow). link_in rs d) stands.clocks) ∙ e);
}) c

-- the clocks of the description have their places in the counts
pub counted_place : (m : Parts) (c : ℕ) → IsWhole m → c < length m.desc.defs → c < length m.counts.links
counted_place m c whole within =
    subst (λ (n : ℕ). c < n) (sym whole.counted.stands.size) within
