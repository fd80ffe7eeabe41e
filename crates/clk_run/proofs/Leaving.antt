-- What a run leaves: its text, and the registers in the bank.
use Rattle.std.proofs.Common.{◌≡◌, ℕ, Bool, true, List, Option, Some, None, Result, Ok, Err, refl, sym, ap, subst, ◌∙◌, inl, inr, arith}
use Rattle.std.specs.Prelude.{is_some, take, drop, IfSome, IfOk, IfErr}
use Rattle.std.specs.List.{AllByRecursion}
use Rattle.std.specs.Option.{option_map}
use Rattle.clk_io.specs.Counts.{Rose, CountsPrintFault, RisesAtWrite}
use Rattle.clk_io.specs.declared.faults.PrintFault.{PrintFault}
use Rattle.clk_io.specs.declared.faults.PrintFault.TheVariants as print_fault
use Rattle.clk_base.specs.declared.command.Answer.{Answer}
use Rattle.clk_journal.specs.Sized.{IsSized}
use Rattle.clk_model.specs.State.{State, is_quiet}
use Rattle.clk_model.specs.Fed.{Fed}
use Rattle.clk_model.specs.Journal.{replay, Legal, Polled}
use Rattle.clk_model.specs.Summary.{summary}
use Rattle.clk_summary.specs.Tables.{IsTable, IsSummary}
use Rattle.drv_scripts.specs.declared.bundle.Bundle.{Bundle}
use Rattle.drv_scripts.specs.Placed.{IsSound}
use Rattle.clk_cli.specs.declared.cli.Cli.{Cli}
use Rattle.clk_machine.specs.Lawful.{KeepsLaws}
use Rattle.clk_machine.specs.Run.{Run}
use Rattle.clk_run.specs.Outcomes.{status_of, generates, GivesBundle, Short}
use Rattle.clk_run.specs.Cores.{HasCalls, PrintsRun, HasPrinted}
use Rattle.core_parts.specs.declared.behind.Behind.{Behind}
use Rattle.core_parts.specs.Window.{HasDelays, behind_of}
use Rattle.reg_bank.specs.declared.pll_lock.PllLock.{PllLock}
use Rattle.clk_run.specs.Runs.{Telling, drivers_in, scripts_of, opening_of, telling, armed_telling, told_by, IsTextOf, PrintedFront, LeftByFault}
use Rattle.clk_run.specs.Texts.{run_text}
use Rattle.driver_runs.specs.Turns.{HasRun}
use Rattle.clk_run.proofs.GivenBack.{given_back}
use Rattle.clk_run.proofs.SpelledBytes.{takes_some}
use Rattle.clk_run.proofs.Telling.{same_telling}
use Rattle.clk_run.proofs.Threaded.{in_order}

-- a core that had an empty journal at a bundle's opening, and has run the scripts, has run the bundle
pub calls_of_run : (b : Bundle) (cli : Cli) (old core : Run) (answers : List (List Answer)) → old.start ≡ opening_of b cli.ignore_unused
    → HasRun b.boot (drivers_in cli.mode b) b.order answers old core → HasCalls b cli answers core
calls_of_run b cli old core answers opens ran = record {
  start = ran.start ∙ opens;
  follow = ran.follow;
  among = ran.among;
  ordered = in_order cli.mode (scripts_of cli.mode b) b.order core.journal ran.ordered ran.first;
  quiet = ran.quiet;
}

-- a core that has run a bundle gives the text of a run of it
pub text_of : (b : Bundle) (cli : Cli) (core : Run) (answers : List (List Answer)) (table words : List ℕ) → IsSound b → AllByRecursion IsSized core.journal → HasCalls b cli answers core
    → (core.told ≡ true → Legal core.start core.journal) → (core.told ≡ true → (delay : ℕ → ℕ) → HasDelays core.behind.delays delay → Polled delay core.journal) → (core.told ≡ true → (n : ℕ) → Fed (replay core.start (take n core.journal)))
    → (core.told ≡ true → KeepsLaws core.start core.journal)
    → (core.told ≡ true → is_quiet (replay core.start core.journal).change ≡ true)
    → IsSummary core table → (core.told ≡ true → words ≡ (replay core.start core.journal).regs)
    → IsTextOf b cli (told_by core) words (run_text b.desc.defs cli (drivers_in cli.mode b) core.journal answers table words)
text_of b cli core answers table words sound sized has legal polled fed laws quiet sums means =
    let legal_from = λ (tells : core.told ≡ true). subst (λ (s : State). Legal s core.journal) has.start (legal tells) in
    let quiet_from = λ (tells : core.told ≡ true). ap (λ (s : State). is_quiet (replay s core.journal).change) (sym has.start) ∙ quiet tells in
    record {
      journal = core.journal;
      answers = answers;
      table = table;
      run = record {
        legal = legal_from;
        polled = polled;
        fed = λ tells n. subst (λ (s : State). Fed (replay s (take n core.journal))) has.start (fed tells n);
        laws = λ tells. subst (λ (s : State). KeepsLaws s core.journal) has.start (laws tells);
        quiet = quiet_from;
        ended = has.quiet;
        follow = has.follow;
        among = has.among;
        ordered = has.ordered;
        sized = sized;
      };
      summed = λ tells. sums.told tells ∙ ap (λ (s : State). summary (replay s core.journal)) has.start;
      listed = λ tells. subst (λ (s : State). IsTable s.defs core.journal table) has.start (sums.untold tells);
      registers = λ tells. means tells ∙ ap (λ (s : State). (replay s core.journal).regs) has.start;
      text_is = refl;
      given_back = λ tells other is same. given_back b sound other core.journal is (record {
        mode = cli.mode;
        ignore_unused = cli.ignore_unused;
        answers = answers;
        legal = legal_from tells;
        quiet = quiet_from tells;
        follow = has.follow;
        among = has.among;
        sized = sized;
      }) same;
    }

-- a front of the text is what each fault of printing may leave
pub left_by : {T : Type 0} (b : Bundle) (cli : Cli) (told : Telling) (old new : Option (List ℕ)) (r : Result T PrintFault) → PrintedFront b cli told old new
    → IfErr r (LeftByFault b cli told old new)
left_by b cli told old new (Ok x) front = tt
left_by b cli told old new (Err print_fault.Write) front = front
left_by b cli told old new (Err print_fault.NoMemory) front = inr front

-- the text that was printed of a core is printed, where it was all of it
pub printed_whole : {T E : Type 0} (b : Bundle) (cli : Cli) (before after : Run) (old new : Option (List ℕ)) (r : Result T E)
    → after.start ≡ before.start → after.told ≡ before.told → after.behind ≡ before.behind → PrintsRun b cli after old new r
    → IfOk r (λ _. HasPrinted b cli before after old new)
printed_whole b cli before after old new (Ok x) start told behind prints = record {
  start = start;
  told = told;
  behind = behind;
  words = prints.words;
  text = prints.text;
  run = subst (λ (t : Telling). IsTextOf b cli t prints.words prints.text) (same_telling after before told behind) prints.run;
  registers = λ tells. prints.registers (told ∙ tells);
  printed = prints.prints;
}
printed_whole b cli before after old new (Err e) start told behind prints = tt

-- and after a fault a front of it was
pub printed_front : {T : Type 0} (b : Bundle) (cli : Cli) (told : Telling) (core : Run) (old new : Option (List ℕ)) (r : Result T PrintFault)
    → told_by core ≡ told → PrintsRun b cli core old new r → IfErr r (LeftByFault b cli told old new)
printed_front b cli told core old new (Ok x) same prints = tt
printed_front b cli told core old new (Err e) same prints =
    left_by {T = ℕ} b cli told old new (Err e) (record {
      words = prints.words;
      text = prints.text;
      run = subst (λ (t : Telling). IsTextOf b cli t prints.words prints.text) same prints.run;
      printed = prints.prints;
    })

-- a bank that tells its words has the printed registers in front, where those are the words that it was left with
pub bank_back : (contents : Option (List ℕ)) (size words : ℕ) (told : Bool) (regs printed : List ℕ) → is_some contents ≡ told → words ≡ size
    → IfSome contents (λ found. take size found ≡ regs) → (told ≡ true → printed ≡ regs) → IfSome contents (λ found. take words found ≡ printed)
bank_back None size words told regs printed is same has means = tt
bank_back (Some found) size words told regs printed is same has means = ap (λ (n : ℕ). take n found) same ∙ has ∙ sym (means (sym is))

-- the words behind those of the state stayed
pub same_behind : (contents before behind : Option (List ℕ)) (size words bundle : ℕ) → option_map (drop size) contents ≡ behind → behind ≡ option_map (drop words) before
    → size ≡ bundle → words ≡ bundle → option_map (drop bundle) contents ≡ option_map (drop bundle) before
same_behind contents before behind size words bundle has kept same all =
    ap (λ (n : ℕ). option_map (drop n) contents) (sym same) ∙ has ∙ kept ∙ ap (λ (n : ℕ). option_map (drop n) before) all

-- when memory ran out before anything was printed, nothing was left, and no fault is told
pub none_left : {T : Type 0} (b : Bundle) (cli : Cli) (told : Telling) (old : Option (List ℕ)) (r : Result T PrintFault) (e : PrintFault) → r ≡ Err e → e ≡ print_fault.NoMemory
    → IfErr r (LeftByFault b cli told old old)
none_left b cli told old r e is why =
    subst (λ (q : Result _ PrintFault). IfErr q (LeftByFault b cli told old old)) (sym is) (subst (LeftByFault b cli told old old) (sym why) (inl refl))

pub none_risen : {T : Type 0} (n : ℕ) (r : Result T PrintFault) (e : PrintFault) → r ≡ Err e → e ≡ print_fault.NoMemory → CountsPrintFault n n r
none_risen n r e is why = subst (λ (q : Result _ PrintFault). CountsPrintFault n n q) (sym is) (subst (RisesAtWrite n n) (sym why) tt)

-- a fault with status 5 left a front of the text
pub front_by : (b : Bundle) (cli : Cli) (told : Telling) (old new : Option (List ℕ)) (fault : PrintFault) (status : ℕ) → LeftByFault b cli told old new fault → status ≡ status_of fault → status ≡ 5
    → PrintedFront b cli told old new
front_by b cli told old new print_fault.Write status left is five = left
front_by b cli told old new print_fault.NoMemory status left is five = absurd (omega (arith, is, five))

-- and with status 3 nothing was printed, or such a front
pub short_by : (b : Bundle) (cli : Cli) (before : Option (List ℕ)) (lock : ℕ → Option PllLock) (left left' old new : Option (List ℕ)) (fault : PrintFault) (status : ℕ) → GivesBundle (generates cli.mode) left left' b
    → LeftByFault b cli (armed_telling b before lock) old new fault → status ≡ status_of fault → status ≡ 3 → Short cli before lock left left' old new
short_by b cli before lock left left' old new print_fault.Write status gives by is three = absurd (omega (arith, is, three))
short_by b cli before lock left left' old new print_fault.NoMemory status gives (inl same) is three = inl (takes_some (generates cli.mode) left left' b gives, same)
short_by b cli before lock left left' old new print_fault.NoMemory status gives (inr front) is three = inr (inl (b, gives, front))

-- the status of a fault is that of a write only if the sink's count rose
pub rose_by : (before now : ℕ) (fault : PrintFault) (status : ℕ) → RisesAtWrite before now fault → status ≡ status_of fault → status ≡ 5 → Rose before now
rose_by before now print_fault.Write status rises is five = rises
rose_by before now print_fault.NoMemory status rises is five = absurd (omega (arith, is, five))

-- so it is that of memory if the count didn't rise
pub memory_by : (before now : ℕ) (fault : PrintFault) (status : ℕ) → RisesAtWrite before now fault → status ≡ status_of fault → (Rose before now → ⊥) → status ≡ 3
memory_by before now print_fault.Write status rises is not = absurd (not rises)
memory_by before now print_fault.NoMemory status rises is not = is
