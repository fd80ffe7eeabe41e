-- What a program that ran a bundle did, and why.
use Rattle.std.specs.Prelude.{◌≡◌, ◌⊎◌, ⊤, ℕ, List, Option, Some, None, Result, IfErr, max, min}
use Rattle.std.specs.Io.KnownBytes.{Appends}
use Rattle.clk_cli.specs.declared.cli.Cli.{Cli}
use Rattle.clk_cli.specs.declared.cli.Mode.{Mode}
use Rattle.clk_cli.specs.declared.cli.Mode.TheVariants.{Check, Sim, Run, Bench}
use Rattle.clk_cli.specs.Usage.{usage_line}
use Rattle.clk_gen.specs.Generated.{generated}
use Rattle.clk_io.specs.Counts.{Rose}
use Rattle.clk_io.specs.Streams.{TakesAll, TakesMore, TakesSome, AppendsFront}
use Rattle.clk_io.specs.declared.faults.PrintFault.{PrintFault}
use Rattle.clk_io.specs.declared.faults.PrintFault.TheVariants as print_fault
use Rattle.reg_bank.specs.declared.pll_lock.PllLock.{PllLock}
use Rattle.drv_scripts.specs.declared.bundle.Bundle.{Bundle}
use Rattle.bundle_text.specs.declared.reason.Reason.{Reason}
use Rattle.bundle_text.specs.declared.reason.Reason.TheVariants.{TooLong}
use Rattle.clk_io.specs.declared.reading.TheConstants.{MOST_BYTES}
use Rattle.drv_scripts.specs.Verdict.{Accepts, Refuses}
use Rattle.clk_run.specs.declared.taking.Stop.{Stop}
use Rattle.clk_run.specs.declared.taking.Stop.TheVariants as stop
use Rattle.core_parts.specs.Window.{delays_in, locks_of}
use Rattle.clk_run.specs.Refusals.{refusal_text}
use Rattle.clk_run.specs.Runs.{Printed, PrintedFront, armed_telling}

-- ---- where a bundle comes from

-- how many drivers the bundle has that a command generates, where it generates one: 1 to 64
abbrev pub generates : Mode → Option ℕ
generates Check = None
generates Sim = None
generates Run = None
generates (Bench n) = Some (max (min n 64) 1)

-- the bytes of a command's bundle: those of a generated one, for which nothing is read, or all that was left of the source
abbrev pub TakesBytes : Option ℕ → Option (List ℕ) → Option (List ℕ) → List ℕ → Type 0
TakesBytes None old new bytes = TakesAll MOST_BYTES old new bytes
TakesBytes (Some drivers) old new bytes = (new ≡ old) × (bytes ≡ generated drivers)

-- the bytes of a command's bundle, where they are known before it reads
abbrev pub bytes_of : Option ℕ → Option (List ℕ) → Option (List ℕ)
bytes_of None left = left
bytes_of (Some drivers) left = Some (generated drivers)

-- the bytes of a command's bundle spell this one
abbrev pub GivesBundle : Option ℕ → Option (List ℕ) → Option (List ℕ) → Bundle → Type 0
GivesBundle made old new b = (bytes : List ℕ) × TakesBytes made old new bytes × Accepts bytes b

-- what a source has left is refused at this line for this reason: it is more than a bundle may have, or spells no bundle
abbrev pub RefusesSource : Option (List ℕ) → Option (List ℕ) → ℕ → Reason → Type 0
RefusesSource old new line reason =
    (TakesMore MOST_BYTES old new × (line ≡ 0) × (reason ≡ TooLong)) ⊎ ((bytes : List ℕ) × TakesAll MOST_BYTES old new bytes × Refuses bytes line reason)

-- the bytes of a command's bundle are refused at this line for this reason; a generated one never is
abbrev pub RefusesInput : Option ℕ → Option (List ℕ) → Option (List ℕ) → ℕ → Reason → Type 0
RefusesInput None old new line reason = RefusesSource old new line reason
RefusesInput (Some drivers) old new line reason = ⊥

-- why bytes give no bundle: they are refused, or memory ran out
abbrev pub StopsSpelling : List ℕ → Stop → Type 0
StopsSpelling bytes (stop.Refused line reason) = Refuses bytes line reason
StopsSpelling bytes stop.Read = ⊥
StopsSpelling bytes stop.NoMemory = Unit {0}

-- why a command has no bundle: its bytes are refused, or a read failed where it reads any, or memory ran out; then no more was taken than a
-- bundle may have
abbrev pub StopsReading : Option ℕ → Option (List ℕ) → Option (List ℕ) → Stop → Type 0
StopsReading made old new (stop.Refused line reason) = RefusesInput made old new line reason
StopsReading made old new stop.Read = (made ≡ None) × TakesSome MOST_BYTES old new
StopsReading made old new stop.NoMemory = TakesSome MOST_BYTES old new

-- a read has failed only if the source's count of faults rose; bytes are refused and memory runs out whether it did or not
abbrev pub RisesAtStop : ℕ → ℕ → Stop → Type 0
RisesAtStop before now (stop.Refused line reason) = ⊤
RisesAtStop before now stop.Read = Rose before now
RisesAtStop before now stop.NoMemory = ⊤

-- the answer that a read failed comes only if the source's count of faults rose
abbrev pub CountsStop : {T : Type 0} → ℕ → ℕ → Result T Stop → Type 0
CountsStop before now r = IfErr r (RisesAtStop before now)

-- ---- statuses

-- the status after a fault of printing
abbrev pub status_of : PrintFault → ℕ
status_of print_fault.Write = 5
status_of print_fault.NoMemory = 3

-- the statuses of a program that could read its words
abbrev pub IsRunStatus : ℕ → Type 0
IsRunStatus status = (status ≡ 0) ⊎ ((status ≡ 2) ⊎ ((status ≡ 3) ⊎ ((status ≡ 4) ⊎ (status ≡ 5))))

-- a bank by what it tells: its words, and how many polls the lock of each PLL asks for
pub record Told : Type 0 where
  pub words : Option (List ℕ)
  pub delays : List (Option ℕ)

-- a bank with these words and these locks
abbrev pub told_of : Option (List ℕ) → (ℕ → Option PllLock) → Told
told_of contents lock = record { words = contents; delays = delays_in (locks_of lock) }

-- status 0: the command's bytes spell a bundle, the text of a run of it was printed, and the bank came back with the registers
-- that the run leaves, and no other word of it changed, where it tells its words; the delays of its locks are those that the bundle armed
abbrev pub Done : Cli → Option (List ℕ) → (ℕ → Option PllLock) → Option (List ℕ) → Option (List ℕ) → Option (List ℕ) → Option (List ℕ) → Option Told → Type 0
Done cli before lock left left' written written' back =
    (b : Bundle) × GivesBundle (generates cli.mode) left left' b × (told : Told) × (back ≡ Some told) × (told.delays ≡ (armed_telling b before lock).delays)
    × Printed b cli (armed_telling b before lock) before written written' told.words

-- status 2: the command's bytes are refused, and the line was printed that says where and why
abbrev pub Refused : Cli → Option (List ℕ) → Option (List ℕ) → Option (List ℕ) → Option (List ℕ) → Type 0
Refused cli left left' written written' =
    (line : ℕ) × (reason : Reason) × RefusesInput (generates cli.mode) left left' line reason × Appends written written' (refusal_text line reason)

-- status 5: a front of the text of a run was printed, or of the line of a refusal
abbrev pub Unwritten : Cli → Option (List ℕ) → (ℕ → Option PllLock) → Option (List ℕ) → Option (List ℕ) → Option (List ℕ) → Option (List ℕ) → Type 0
Unwritten cli before lock left left' written written' =
    ((b : Bundle) × GivesBundle (generates cli.mode) left left' b × PrintedFront b cli (armed_telling b before lock) written written')
    ⊎ ((line : ℕ) × (reason : Reason) × RefusesInput (generates cli.mode) left left' line reason × AppendsFront written written' (refusal_text line reason))

-- status 4: the command reads a source, no more of it was taken than a bundle may have, and the sink is as it was
abbrev pub Unread : {K : Type 0} → Cli → Option (List ℕ) → Option (List ℕ) → K → K → Type 0
Unread cli left left' out out' = (generates cli.mode ≡ None) × TakesSome MOST_BYTES left left' × (out' ≡ out)

-- status 3: nothing was printed, and no more was taken of the source than a bundle may have, or a front of what would have been printed
abbrev pub Short : Cli → Option (List ℕ) → (ℕ → Option PllLock) → Option (List ℕ) → Option (List ℕ) → Option (List ℕ) → Option (List ℕ) → Type 0
Short cli before lock left left' written written' = (TakesSome MOST_BYTES left left' × (written' ≡ written)) ⊎ Unwritten cli before lock left left' written written'

-- ---- completeness

-- the status is this one, unless memory ran out, a read failed or a write failed
abbrev pub EndsWith : ℕ → ℕ → Type 0
EndsWith status wanted = (status ≡ wanted) ⊎ ((status ≡ 3) ⊎ ((status ≡ 4) ⊎ (status ≡ 5)))

-- the status is this one, unless memory ran out
abbrev pub Reaches : ℕ → ℕ → Type 0
Reaches status wanted = (status ≡ wanted) ⊎ (status ≡ 3)

-- neither the source's count of faults rose nor the sink's
pub record NeitherRose (read read' wrote wrote' : ℕ) : Type 0 where
  pub source : Rose read read' → ⊥
  pub sink : Rose wrote wrote' → ⊥

-- where a command's bytes are known, those that spell a bundle that can be run end in status 0, and those that are refused in status 2; a
-- generated bundle ends in status 0
pub record Decides (made : Option ℕ) (left : Option (List ℕ)) (ends : ℕ → Type 0) : Type 0 where
  pub accepts : (bytes : List ℕ) (b : Bundle) → bytes_of made left ≡ Some bytes → Accepts bytes b → ends 0
  pub refuses : (bytes : List ℕ) (line : ℕ) (reason : Reason) → bytes_of made left ≡ Some bytes → Refuses bytes line reason → ends 2
  pub measured : (drivers : ℕ) → made ≡ Some drivers → ends 0

-- ---- the program, by what its words mean

-- the statuses of the program
abbrev pub IsStatus : ℕ → Type 0
IsStatus status = (status ≡ 1) ⊎ IsRunStatus status

-- status 1: the words mean nothing, nothing was read, and the line was printed that says how the program is called
abbrev pub MeansNothing : Option Cli → Option (List ℕ) → Option (List ℕ) → Option (List ℕ) → Option (List ℕ) → Type 0
MeansNothing meant left left' written written' = (meant ≡ None) × (left' ≡ left) × Appends written written' usage_line

-- status 0: the words ask for a run, and it was done
abbrev pub MeansDone : Option Cli → Option (List ℕ) → (ℕ → Option PllLock) → Option (List ℕ) → Option (List ℕ) → Option (List ℕ) → Option (List ℕ) → Option Told → Type 0
MeansDone meant before lock left left' written written' back = (cli : Cli) × (meant ≡ Some cli) × Done cli before lock left left' written written' back

-- status 2: the words ask for a run, and its bundle is refused
abbrev pub MeansRefused : Option Cli → Option (List ℕ) → Option (List ℕ) → Option (List ℕ) → Option (List ℕ) → Type 0
MeansRefused meant left left' written written' = (cli : Cli) × (meant ≡ Some cli) × Refused cli left left' written written'

-- status 4: the words ask for a run that reads a source, and nothing was printed
abbrev pub MeansUnread : {K : Type 0} → Option Cli → Option (List ℕ) → Option (List ℕ) → K → K → Type 0
MeansUnread meant left left' out out' = (cli : Cli) × (meant ≡ Some cli) × Unread cli left left' out out'

-- status 5: a front was printed of the line that says how the program is called, or of what a run prints
abbrev pub MeansUnwritten : Option Cli → Option (List ℕ) → (ℕ → Option PllLock) → Option (List ℕ) → Option (List ℕ) → Option (List ℕ) → Option (List ℕ) → Type 0
MeansUnwritten meant before lock left left' written written' =
    ((meant ≡ None) × AppendsFront written written' usage_line)
    ⊎ ((cli : Cli) × (meant ≡ Some cli) × Unwritten cli before lock left left' written written')

-- status 3: nothing was printed, and no more was taken of the source than a bundle may have, or a front of what would have been printed
abbrev pub MeansShort : Option Cli → Option (List ℕ) → (ℕ → Option PllLock) → Option (List ℕ) → Option (List ℕ) → Option (List ℕ) → Option (List ℕ) → Type 0
MeansShort meant before lock left left' written written' = (TakesSome MOST_BYTES left left' × (written' ≡ written)) ⊎ MeansUnwritten meant before lock left left' written written'

-- words that mean nothing end in status 1, and for the others the bytes decide
abbrev pub MeansDecided : Option Cli → Option (List ℕ) → (ℕ → Type 0) → Type 0
MeansDecided None left ends = ends 1
MeansDecided (Some cli) left ends = Decides (generates cli.mode) left ends
