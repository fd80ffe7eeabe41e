-- A core over which a bundle runs: what it has gone through, and what is printed of it.
use Rattle.std.specs.Prelude.{◌≡◌, ℕ, List, ◌++◌, Bool, true, false, Option, Result, length}
use Rattle.std.specs.Io.KnownBytes.{Appends}
use Rattle.clk_base.specs.declared.command.Answer.{Answer}
use Rattle.clk_cli.specs.declared.cli.Cli.{Cli}
use Rattle.clk_io.specs.Gathers.{Gathers}
use Rattle.clk_io.specs.Prints.{Prints}
use Rattle.clk_machine.specs.Run.{Run, now_of, in_flight}
use Rattle.clk_model.specs.Text.{registers_text}
use Rattle.clk_summary.specs.Tables.{IsSummary}
use Rattle.driver_runs.specs.Drivers.{FollowAll, are_among}
use Rattle.drv_scripts.specs.declared.bundle.Bundle.{Bundle}
use Rattle.reg_bank.specs.Registers.{Registers}
use Rattle.reg_bank.specs.declared.pll_lock.PllLock.{PllLock}
use Rattle.clk_framework.specs.declared.opened.Opened.{Opened}
use Rattle.clk_framework.specs.Opening.{opened_with}
use Rattle.clk_run.specs.Runs.{scripts_of, opening_of, credits_of, told_by, InOrder, IsTextOf}

-- a core has run a bundle as the words ask, from the bundle's opening on: boot and each driver, and nobody else, have their calls once, in their
-- order, one after the other, answered so; the entries stand in the order of the command; and no call is in flight
pub record HasCalls (b : Bundle) (cli : Cli) (answers : List (List Answer)) (core : Run) : Type 0 where
  pub start : core.start ≡ opening_of b cli.ignore_unused
  pub follow : FollowAll 0 (scripts_of cli.mode b) answers core.journal
  pub among : are_among (length (scripts_of cli.mode b)) core.journal ≡ true
  pub ordered : InOrder cli.mode (scripts_of cli.mode b) b.order core.journal
  pub quiet : in_flight core.journal ≡ false

-- a summary of a core and its registers were gathered or written; after a fault a front of them was written
pub record GathersState {T E : Type 0} (core : Run) (old new : Option (List ℕ)) (before after : List ℕ) (r : Result T E) : Type 0 where
  pub table : List ℕ
  pub words : Registers
  pub summary : IsSummary core table
  pub registers : core.told ≡ true → words ≡ (now_of core).regs
  pub gathers : Gathers old new before after (table ++ registers_text words) r

-- the text of the run that a core has gone through was printed; after a fault a front of it was
pub record PrintsRun {T E : Type 0} (b : Bundle) (cli : Cli) (core : Run) (old new : Option (List ℕ)) (r : Result T E) : Type 0 where
  pub words : Registers
  pub text : List ℕ
  pub run : IsTextOf b cli (told_by core) words text
  pub registers : core.told ≡ true → words ≡ (now_of core).regs
  pub prints : Prints old new text r

-- a core has run a bundle from where it stood before, and the text of the run was printed
pub record HasPrinted (b : Bundle) (cli : Cli) (before after : Run) (old new : Option (List ℕ)) : Type 0 where
  pub start : after.start ≡ before.start
  pub told : after.told ≡ before.told
  pub behind : after.behind ≡ before.behind
  pub words : Registers
  pub text : List ℕ
  pub run : IsTextOf b cli (told_by before) words text
  pub registers : before.told ≡ true → words ≡ (now_of after).regs
  pub printed : Appends old new text

-- what a framework begins with in which a bundle runs, over a bank that had these words and these locks
abbrev pub opened_for : Bundle → Bool → Option (List ℕ) → (ℕ → Option PllLock) → Opened
opened_for b ignore_unused contents lock = opened_with b.desc.defs b.words ignore_unused (credits_of b) contents lock
