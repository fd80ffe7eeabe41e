-- Kept rates that are brought up to date.
use Rattle.std.specs.Prelude.{◌≡◌, ℕ, ◌+◌, ◌<◌, ◌≤◌, List, Bool, true, false, Option, Some, IfSome, length, slice_index}
use Rattle.clk_base.specs.Description.{Description, kind_of}
use Rattle.reg_bank.specs.Registers.{Registers}
use Rattle.clk_model.specs.declared.row.ClockRow.{ClockRow}
use Rattle.clk_model.specs.Lists.{is_in}
use Rattle.clk_model.specs.Rate.{rate_over, rate}
use Rattle.clk_model.specs.State.{registered, link_in}
use Rattle.clk_model.specs.Tree.{path}
use Rattle.clk_tree.specs.Rings.{Leads}

-- whether a clock is c or stands below it: c is on its path
abbrev pub is_below : List ClockRow → ℕ → ℕ → Bool
is_below clocks c k = is_in c (path clocks k)

-- the kept rate of a clock is the one that the registers give
abbrev pub IsFresh : Description → Registers → List ClockRow → List ℕ → ℕ → Type 0
IsFresh defs regs clocks rates k = slice_index rates k ≡ rate defs regs clocks k

-- if the bank tells its words, and the kept rate of a clock's parent was fresh, those of the clock and of all below it are
abbrev pub FreshensBelow : Description → Option Registers → List ClockRow → List ℕ → List ℕ → ℕ → Type 0
FreshensBelow defs told clocks old new c =
    IfSome told (λ regs. ((p : ℕ) → link_in clocks c ≡ Some p → IsFresh defs regs clocks old p)
    → (k : ℕ) → is_below clocks c k ≡ true → IsFresh defs regs clocks new k)

-- if the bank tells its words, and the kept rates of the registered clocks that aren't below a clock were fresh, those of all
-- registered clocks are
abbrev pub FreshensAll : Description → Option Registers → List ClockRow → List ℕ → List ℕ → ℕ → Type 0
FreshensAll defs told clocks old new c =
    IfSome told (λ regs. ((k : ℕ) → registered clocks k ≡ true → is_below clocks c k ≡ false → IsFresh defs regs clocks old k)
    → (k : ℕ) → registered clocks k ≡ true → IsFresh defs regs clocks new k)

-- the children of each of n clocks stand in its ring, and are clocks, at most as many as there are
pub record AreKidRings (n : ℕ) (siblings : List ℕ) (kids : ℕ → List ℕ) : Type 0 where
  pub rings : (p : ℕ) → p < n → Leads siblings (n + p) (n + p) (kids p)
  pub clocks : (p d : ℕ) → is_in d (kids p) ≡ true → d < n
  pub few : (p : ℕ) → length (kids p) ≤ n

-- the rate of each child is that of its kind over its parent's
abbrev pub AreOver : Description → Registers → (ℕ → List ℕ) → (ℕ → ℕ) → Type 0
AreOver defs regs kids rates = (p d : ℕ) → is_in d (kids p) ≡ true → rates d ≡ rate_over (kind_of defs d) regs (rates p)
