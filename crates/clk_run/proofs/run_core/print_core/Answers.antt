use Rattle.std.proofs.Common.{◌≡◌, ◌∙◌, ℕ, ◌++◌, List, [], Ok, Err, true, refl, sym, ap, subst, not, arith, length, append-nil}
use Rattle.std.specs.List.{AllByRecursion}
use Rattle.std.proofs.lemmas.List.{length-map}
use Rattle.clk_io.proofs.Gathering.{PassesOn-after, front_after}
use Rattle.clk_io.specs.declared.faults.PrintFault.TheVariants.{Write}
use Rattle.clk_journal.specs.Sized.{IsSized}
use Rattle.clk_journal.proofs.Stays.{handed_on, rises_since}
use Rattle.clk_machine.specs.Run.{now_of}
use Rattle.clk_model.specs.Text.{registers_text}
use Rattle.clk_summary.proofs.Lined.{some_summary}
use Rattle.drv_scripts.specs.declared.bundle.Script.{Script}
use Rattle.driver_runs.proofs.Following.{follow_many}
use Rattle.clk_run.specs.Runs.{drivers_in, scripts_of}
use Rattle.clk_run.specs.Texts.{command_count, calls_text, run_text}
use Rattle.clk_run.proofs.OkAnswers.{few_fine}
use Rattle.clk_run.proofs.Leaving.{text_of}
use Rattle.clk_run.proofs.Readiness.{commands_few}
use Rattle.clk_run.proofs.PrintedParts.{Prints-fault, front_of_parts, printed_of_parts, run_in_parts}
use Rattle.clk_run.proofs.run_core.print_core.Goals as goal

pub print_calls-requires : goal.print_calls-requires
print_calls-requires g c =
    let b = c.args.bundle.now in
    let mode = c.args.cli.now.mode in
    let many = follow_many 0 (scripts_of mode b) c.args.answers.now c.args.core.now.journal c.requires.calls.follow in
    let drivers = ap (λ (xs : List Script). length xs) c.drivers_in-drivers.ensures in
    let same = length-map (drivers_in mode b) (λ (s : Script). s.commands) in
    let fewer = commands_few mode b in
    let few = c.requires.few in
    let run = ap command_count c.drivers_in-drivers.ensures in
    let fine = few_fine b.boot (drivers_in mode b) c.args.answers.now c.args.core.now.journal c.requires.calls.follow in
    record { many = omega arith; commands = omega arith; good = omega arith }

pub returns-in_err-print_calls-clause-prints : goal.returns-in_err-print_calls-clause-prints
returns-in_err-print_calls-clause-prints g c =
    let b = c.args.bundle.now in
    let cli = c.args.cli.now in
    let core = c.args.core.now in
    let answers = c.args.answers.now in
    let has = c.requires.calls in
    let told = c.journal-journal.ensures in
    let sized = subst (AllByRecursion IsSized) told.entries c.entries_are_sized.ensures in
    let quiet = λ (tells : core.told ≡ true). sym (c.quiet.ensures.tells tells) ∙ c.quiet.ensures.quiet ∙ ap not has.quiet in
    let words = (now_of core).regs in
    let some = some_summary core in
    let calls = calls_text b.desc.defs cli c.drivers_in-drivers.result.now c.journal-journal.result.now answers in
    let whole = run_in_parts b.desc.defs cli (drivers_in cli.mode b) _ core.journal _ answers some.0 words c.drivers_in-drivers.ensures told.entries in
    record {
      words = words;
      text = run_text b.desc.defs cli (drivers_in cli.mode b) core.journal answers some.0 words;
      run = text_of b cli core answers some.0 words c.requires.sound sized has told.legal told.polled told.fed told.laws quiet some.1 (λ tells. refl);
      registers = λ tells. refl;
      prints = Prints-fault _ _ _ _ c.from_residual.ensures.0
          (front_of_parts _ _ _ calls (some.0 ++ registers_text words) _ c.new-gathered.ensures whole c.in_err-print_calls.ensures.gathers);
    }

pub returns-in_err-print_state-clause-prints : goal.returns-in_err-print_state-clause-prints
returns-in_err-print_state-clause-prints g c =
    let b = c.args.bundle.now in
    let cli = c.args.cli.now in
    let core = c.args.core.now in
    let answers = c.args.answers.now in
    let has = c.requires.calls in
    let told = c.journal-journal.ensures in
    let sized = subst (AllByRecursion IsSized) told.entries c.entries_are_sized.ensures in
    let quiet = λ (tells : core.told ≡ true). sym (c.quiet.ensures.tells tells) ∙ c.quiet.ensures.quiet ∙ ap not has.quiet in
    let state = c.in_err-print_state.ensures.gathers in
    let behind = state.table ++ registers_text state.words in
    let calls = calls_text b.desc.defs cli c.drivers_in-drivers.result.now c.journal-journal.result.now answers in
    let whole = run_in_parts b.desc.defs cli (drivers_in cli.mode b) _ core.journal _ answers state.table state.words c.drivers_in-drivers.ensures told.entries in
    record {
      words = state.words;
      text = run_text b.desc.defs cli (drivers_in cli.mode b) core.journal answers state.table state.words;
      run = text_of b cli core answers state.table state.words c.requires.sound sized has told.legal told.polled told.fed told.laws quiet state.summary state.registers;
      registers = state.registers;
      prints = Prints-fault _ _ _ _ c.from_residual-in_err-print_state.ensures.0
          (front_of_parts _ _ _ (calls ++ behind) [] _ c.new-gathered.ensures (whole ∙ sym (append-nil (calls ++ behind)))
          (front_after _ _ _ _ _ _ _ c.in_ok-print_calls.ensures.gathers state.gathers));
    }

pub returns-in_err-finish-clause-prints : goal.returns-in_err-finish-clause-prints
returns-in_err-finish-clause-prints g c =
    let b = c.args.bundle.now in
    let cli = c.args.cli.now in
    let core = c.args.core.now in
    let answers = c.args.answers.now in
    let has = c.requires.calls in
    let told = c.journal-journal.ensures in
    let sized = subst (AllByRecursion IsSized) told.entries c.entries_are_sized.ensures in
    let quiet = λ (tells : core.told ≡ true). sym (c.quiet.ensures.tells tells) ∙ c.quiet.ensures.quiet ∙ ap not has.quiet in
    let state = c.in_ok-print_state.ensures.gathers in
    let whole = run_in_parts b.desc.defs cli (drivers_in cli.mode b) _ core.journal _ answers state.table state.words c.drivers_in-drivers.ensures told.entries in
    let done = PassesOn-after _ _ _ _ _ _ _ _ c.in_ok-print_calls.ensures.gathers state.gathers in
    record {
      words = state.words;
      text = run_text b.desc.defs cli (drivers_in cli.mode b) core.journal answers state.table state.words;
      run = text_of b cli core answers state.table state.words c.requires.sound sized has told.legal told.polled told.fed told.laws quiet state.summary state.registers;
      registers = state.registers;
      prints = Prints-fault _ _ _ _ c.from_residual-in_err-finish.ensures.0
          (printed_of_parts {T = ℕ} {E = ℕ} _ _ _ _ _ _ _ (Err 0) c.new-gathered.ensures whole done c.in_err-finish.ensures.prints);
    }

pub returns-clause-prints : goal.returns-clause-prints
returns-clause-prints g c =
    let b = c.args.bundle.now in
    let cli = c.args.cli.now in
    let core = c.args.core.now in
    let answers = c.args.answers.now in
    let has = c.requires.calls in
    let told = c.journal-journal.ensures in
    let sized = subst (AllByRecursion IsSized) told.entries c.entries_are_sized.ensures in
    let quiet = λ (tells : core.told ≡ true). sym (c.quiet.ensures.tells tells) ∙ c.quiet.ensures.quiet ∙ ap not has.quiet in
    let state = c.in_ok-print_state.ensures.gathers in
    let whole = run_in_parts b.desc.defs cli (drivers_in cli.mode b) _ core.journal _ answers state.table state.words c.drivers_in-drivers.ensures told.entries in
    let done = PassesOn-after _ _ _ _ _ _ _ _ c.in_ok-print_calls.ensures.gathers state.gathers in
    record {
      words = state.words;
      text = run_text b.desc.defs cli (drivers_in cli.mode b) core.journal answers state.table state.words;
      run = text_of b cli core answers state.table state.words c.requires.sound sized has told.legal told.polled told.fed told.laws quiet state.summary state.registers;
      registers = state.registers;
      prints = printed_of_parts {T = ℕ} {E = ℕ} _ _ _ _ _ _ _ (Ok 0) c.new-gathered.ensures whole done c.in_ok-finish.ensures.prints;
    }

pub returns-in_err-print_state-clause-counts : goal.returns-in_err-print_state-clause-counts
returns-in_err-print_state-clause-counts g c =
    handed_on _ _ _ c.from_residual-in_err-print_state.ensures.1 (rises_since _ _ _ _ c.in_ok-print_calls.ensures.later c.in_err-print_state.ensures.counts)

pub returns-in_err-finish-clause-counts : goal.returns-in_err-finish-clause-counts
returns-in_err-finish-clause-counts g c =
    let now = g.K.Sink.faults c.finish.new.out in
    handed_on _ _ Write c.from_residual-in_err-finish.ensures.1
    (rises_since _ _ now Write c.in_ok-print_calls.ensures.later (rises_since _ _ now Write c.in_ok-print_state.ensures.later c.in_err-finish.ensures.counts))
