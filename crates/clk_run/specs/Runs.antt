-- Runs of a bundle: which journals they have, and what they print.
use Rattle.std.specs.Prelude.{◌≡◌, ◌⊎◌, IfSome, is_some, map, take, drop, ℕ, ◌+◌, List, [], Bool, true, false, Option, length}
use Rattle.std.specs.List.{AllByRecursion}
use Rattle.std.specs.Option.{option_map}
use Rattle.clk_base.specs.declared.command.Answer.{Answer}
use Rattle.clk_base.specs.declared.command.Command.{Command}
use Rattle.clk_base.specs.declared.event.Entry.{Entry}
use Rattle.reg_bank.specs.Registers.{Registers}
use Rattle.reg_bank.specs.declared.pll_lock.PllLock.{PllLock}
use Rattle.clk_journal.specs.Sized.{IsSized}
use Rattle.clk_journal.specs.Told.{told_entry}
use Rattle.clk_model.specs.State.{State, is_quiet}
use Rattle.clk_model.specs.Journal.{opening, replay, Legal, Polled}
use Rattle.clk_model.specs.Fed.{Fed}
use Rattle.clk_model.specs.Ordered.{Ordered}
use Rattle.clk_model.specs.Summary.{summary}
use Rattle.clk_model.specs.Text.{journal_text}
use Rattle.clk_summary.specs.Tables.{IsTable}
use Rattle.drv_scripts.specs.declared.bundle.Bundle.{Bundle}
use Rattle.drv_scripts.specs.declared.bundle.Script.{Script}
use Rattle.std.specs.Io.KnownBytes.{Appends}
use Rattle.clk_io.specs.Streams.{AppendsFront}
use Rattle.clk_io.specs.declared.faults.PrintFault.{PrintFault}
use Rattle.clk_io.specs.declared.faults.PrintFault.TheVariants as print_fault
use Rattle.clk_cli.specs.declared.cli.Cli.{Cli}
use Rattle.clk_cli.specs.declared.cli.Mode.{Mode}
use Rattle.clk_cli.specs.declared.cli.Mode.TheVariants.{Check, Sim, Bench}
use Rattle.clk_cli.specs.declared.cli.Mode.TheVariants as mode
use Rattle.clk_machine.specs.Lawful.{KeepsLaws}
use Rattle.clk_machine.specs.Run.{Run, in_flight}
use Rattle.core_parts.specs.Window.{HasDelays, delays_in, locks_of}
use Rattle.driver_runs.specs.Drivers.{FollowAll, are_among, boot_first}
use Rattle.driver_runs.specs.Turns.{scripts_with}
use Rattle.clk_run.specs.Arming.{armed_by}
use Rattle.clk_run.specs.Texts.{command_count, names_of, run_text}

-- ---- what a run begins from

-- the drivers that run: under `check` none does
abbrev pub drivers_in : Mode → Bundle → List Script
drivers_in Check b = []
drivers_in Sim b = b.drivers
drivers_in mode.Run b = b.drivers
drivers_in (Bench n) b = b.drivers

-- the commands of boot, and then those of each driver that runs
abbrev pub scripts_of : Mode → Bundle → List (List Command)
scripts_of mode b = scripts_with b.boot (drivers_in mode b)

-- a credit for each command
abbrev pub credits_of : Bundle → ℕ
credits_of b = length b.boot + command_count b.drivers

-- the state in which the clocks of a bundle wait to be registered
abbrev pub opening_of : Bundle → Bool → State
opening_of b ignore_unused = opening b.desc.defs b.words ignore_unused (credits_of b)

-- ---- banks

-- what is known of a bank: whether it tells its words, and how many polls the lock of each PLL asks for, where it tells that
pub record Telling : Type 0 where
  pub told : Bool
  pub delays : List (Option ℕ)

-- what is known of a bank with these words and these locks
abbrev pub telling : Option (List ℕ) → (ℕ → Option PllLock) → Telling
telling contents lock = record { told = is_some contents; delays = delays_in (locks_of lock) }

-- and once a bundle has armed its locks
abbrev pub armed_telling : Bundle → Option (List ℕ) → (ℕ → Option PllLock) → Telling
armed_telling b contents lock = telling contents (λ p. armed_by b.locks p (lock p))

-- what a core knows of its bank
abbrev pub told_by : Run → Telling
told_by core = record { told = core.told; delays = core.behind.delays }

-- ---- runs

-- whether each driver has a thread of its own
abbrev pub has_threads : Mode → Bool
has_threads Check = false
has_threads Sim = false
has_threads mode.Run = true
has_threads (Bench n) = true

-- in which order the entries stand: where each driver has a thread of its own, it is any in which boot's stand before all others; else there is one thread,
-- and behind boot's entries it is the one that the drivers' commands and the stated order give
abbrev pub InOrder : Mode → List (List Command) → List ℕ → List Entry → Type 0
InOrder Check scripts order journal = Ordered scripts order journal
InOrder Sim scripts order journal = Ordered scripts order journal
InOrder mode.Run scripts order journal = boot_first journal ≡ true
InOrder (Bench n) scripts order journal = boot_first journal ≡ true

-- a run of a bundle, as the words ask for it: its journal, where the bank tells its words, is a legal run of the machine; where the bank tells its
-- locks too, each poll is answered by the delay of its PLL; after each entry the active clocks are fed, it keeps the laws of journals, and at its end
-- no change is in flight; whatever the bank tells, no call is left in flight; boot and each driver, and nobody else, have their calls once, in their
-- order, one after the other, answered so; and the entries stand in the order of the command
pub record IsRunOf (b : Bundle) (cli : Cli) (bank : Telling) (journal : List Entry) (answers : List (List Answer)) : Type 0 where
  pub legal : bank.told ≡ true → Legal (opening_of b cli.ignore_unused) journal
  pub polled : bank.told ≡ true → (delay : ℕ → ℕ) → HasDelays bank.delays delay → Polled delay journal
  pub fed : bank.told ≡ true → (n : ℕ) → Fed (replay (opening_of b cli.ignore_unused) (take n journal))
  pub laws : bank.told ≡ true → KeepsLaws (opening_of b cli.ignore_unused) journal
  pub quiet : bank.told ≡ true → is_quiet (replay (opening_of b cli.ignore_unused) journal).change ≡ true
  pub ended : in_flight journal ≡ false
  pub follow : FollowAll 0 (scripts_of cli.mode b) answers journal
  pub among : are_among (length (scripts_of cli.mode b)) journal ≡ true
  pub ordered : InOrder cli.mode (scripts_of cli.mode b) b.order journal
  -- each number in it is of the size that its type gives it
  pub sized : AllByRecursion IsSized journal

-- ---- what the text of a journal gives back

-- a journal of a bundle, run in some mode: it is legal from the bundle's opening, at its end no change is in flight, boot and each driver that
-- runs, and nobody else, have their calls once and in their order, and each number in it is of the size that its type gives it
pub record IsJournalOf (b : Bundle) (journal : List Entry) : Type 0 where
  pub mode : Mode
  pub ignore_unused : Bool
  pub answers : List (List Answer)
  pub legal : Legal (opening_of b ignore_unused) journal
  pub quiet : is_quiet (replay (opening_of b ignore_unused) journal).change ≡ true
  pub follow : FollowAll 0 (scripts_of mode b) answers journal
  pub among : are_among (length (scripts_of mode b)) journal ≡ true
  pub sized : AllByRecursion IsSized journal

-- the text of a journal gives it back: each journal of the bundle with the same text has the same entries, as their lines tell them
abbrev pub GivesBack : Bundle → List Entry → Type 0
GivesBack b journal = (other : List Entry) → IsJournalOf b other
    → journal_text b.desc.defs (names_of b.drivers) other ≡ journal_text b.desc.defs (names_of b.drivers) journal
    → map (told_entry b.desc.defs) other ≡ map (told_entry b.desc.defs) journal

-- ---- what a run prints

-- a text that a run of a bundle prints: the journal where the words ask for it, the answers, a summary and registers. Where the bank tells its words, the summary
-- is that of the state behind the journal, the registers are those that it leaves, and the journal's text gives the journal back; else the summary is a table of
-- clocks that were registered
pub record IsTextOf (b : Bundle) (cli : Cli) (bank : Telling) (words : Registers) (text : List ℕ) : Type 0 where
  pub journal : List Entry
  pub answers : List (List Answer)
  pub table : List ℕ
  pub run : IsRunOf b cli bank journal answers
  pub summed : bank.told ≡ true → table ≡ summary (replay (opening_of b cli.ignore_unused) journal)
  pub listed : bank.told ≡ false → IsTable b.desc.defs journal table
  pub registers : bank.told ≡ true → words ≡ (replay (opening_of b cli.ignore_unused) journal).regs
  pub text_is : text ≡ run_text b.desc.defs cli (drivers_in cli.mode b) journal answers table words
  pub given_back : bank.told ≡ true → GivesBack b journal

-- ---- what is left behind

-- the text of a run was printed, and the bank, where it tells its words, has the registers that the run leaves, and behind them
-- the words that it had before
pub record Printed (b : Bundle) (cli : Cli) (bank : Telling) (before : Option (List ℕ)) (old new : Option (List ℕ)) (contents : Option (List ℕ)) : Type 0 where
  pub words : Registers
  pub text : List ℕ
  pub run : IsTextOf b cli bank words text
  pub printed : Appends old new text
  pub registers : IfSome contents (λ found. take (length b.words) found ≡ words)
  pub behind : option_map (drop (length b.words)) contents ≡ option_map (drop (length b.words)) before

-- a front of the text of a run was printed
pub record PrintedFront (b : Bundle) (cli : Cli) (bank : Telling) (old new : Option (List ℕ)) : Type 0 where
  pub words : Registers
  pub text : List ℕ
  pub run : IsTextOf b cli bank words text
  pub printed : AppendsFront old new text

-- after a fault of writing a front of the text of a run was printed; where memory ran out, that or nothing
abbrev pub LeftByFault : Bundle → Cli → Telling → Option (List ℕ) → Option (List ℕ) → PrintFault → Type 0
LeftByFault b cli bank old new print_fault.Write = PrintedFront b cli bank old new
LeftByFault b cli bank old new print_fault.NoMemory = (new ≡ old) ⊎ PrintedFront b cli bank old new
