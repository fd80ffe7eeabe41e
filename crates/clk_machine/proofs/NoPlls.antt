-- Where no line of possible parents has a PLL, no path has one that a lower would switch off.
use Rattle.std.proofs.Common.{◌≡◌, ℕ, false, List, Option, Some, None, sym, ap, filter}
use Rattle.std.specs.Prelude.{is_some, slice_get, IfSome}
use Rattle.clk_base.specs.Levels.{depth}
use Rattle.reg_bank.specs.Registers.{Registers}
use Rattle.clk_model.specs.Script.{runs, plls}
use Rattle.clk_model.specs.Tree.{path}
use Rattle.clk_tree.specs.TreeState.{TreeState, IsTree}
use Rattle.counts_core.specs.Counted.{CountState}
use Rattle.core_parts.specs.Plls.{lowerable}
use Rattle.core_parts.proofs.PreparedAbove.{none_anywhere}

-- so a lower finds none there
pub none_freed : (words : Option Registers) (k : CountState) (t : TreeState) (c most : ℕ) → IsTree t.defs t.clocks t.order t.rates → most ≡ plls t.defs → most ≡ 0
    → IfSome words (λ regs. false ≡ is_some (slice_get (lowerable t.defs k regs (path t.clocks c)) 0))
none_freed None k t c most stands counted none = tt
none_freed (Some regs) k t c most stands counted none = sym (ap (λ (xs : List ℕ). is_some (slice_get (filter (runs t.defs regs) xs) 0)) (none_anywhere k t depth c most stands counted none))
