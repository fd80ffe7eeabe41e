-- A rounding over the first words of a bank, and what is told of a tree with any registers.
use Rattle.std.proofs.Common.{◌≡◌, ℕ, Option, Some, None, take}
use Rattle.std.proofs.Math.Path.{fun_ext}
use Rattle.std.specs.Prelude.{IfSome}
use Rattle.clk_base.specs.Description.{Description}
use Rattle.clk_base.specs.Valid.{IsValid}
use Rattle.reg_bank.specs.Registers.{Registers}
use Rattle.clk_model.specs.Round.{View, Wiring, round}
use Rattle.clk_model.proofs.SameRateLaws.{round_same}
use Rattle.clk_tree.specs.TreeState.{TreeState}
use Rattle.rate_planner.specs.Kept.{Always, wired}
use Rattle.core_parts.specs.Tied.{AreKept}
use Rattle.core_parts.proofs.RegisteredTree.{rate-take}

-- a rounding reads kept rates alone, so the first words give the one that all words give
pub rounding_words : (n : ℕ) (defs : Description) (regs : Registers) (t : TreeState) (v : View) (c x : ℕ) → IsValid n defs → round (wired defs (take n regs) t) v c x ≡ round (wired defs regs t) v c x
rounding_words n defs regs t v c x valid = round_same defs t.clocks regs (take n regs) v c x (fun_ext (λ k. rate-take n defs regs t.clocks k valid))

-- what is told of a tree with any registers whose rates it keeps is so with those of a window
pub read_shown : (told : Option Registers) (defs : Description) (t : TreeState) (P : Wiring → Type 0) → AreKept defs told t.clocks t.rates → Always defs t P → IfSome told (λ regs. P (wired defs regs t))
read_shown None defs t P kept says = tt
read_shown (Some regs) defs t P kept says = says regs (record { kept = kept })
