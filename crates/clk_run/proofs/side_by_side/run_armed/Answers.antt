use Rattle.std.proofs.Common.{ap, subst, sym, ◌∙◌, length, refl}
use Rattle.std.specs.Prelude.{is_some, Bool}
use Rattle.std.proofs.lemmas.Result.{err_from_is_err_and}
use Rattle.clk_io.specs.Counts.{RisesAtWrite}
use Rattle.clk_model.specs.State.{State}
use Rattle.core_parts.specs.declared.behind.Behind.{Behind}
use Rattle.clk_run.specs.Runs.{Telling, telling, IsTextOf, LeftByFault}
use Rattle.clk_run.proofs.Leaving.{bank_back, same_behind, printed_whole, printed_front}
use Rattle.clk_run.proofs.Readiness.{few_credits}
use Rattle.clk_run.proofs.Threaded.{threads_start, threads_told, threads_telling, threads_behind, threads_calls}
use Rattle.clk_run.proofs.side_by_side.run_armed.Goals as goal

pub print_core-requires : goal.print_core-requires
print_core-requires g c = record {
  sound = c.requires.sound;
  calls = threads_calls c.args.bundle.now c.args.cli.now (g.B.Bank.contents c.args.bank) (g.B.Bank.lock c.args.bank) c.in_ok-core.answers.items _ c.in_ok-core.core c.requires.mode c.in_ok-core.ensures c.as_slice.ensures.value;
  few = few_credits c.args.bundle.now c.requires.sound;
}

pub returns-clause-done : goal.returns-clause-done
returns-clause-done g c =
    let b = c.args.bundle.now in
    let cli = c.args.cli.now in
    let contents = g.B.Bank.contents c.args.bank in
    let lock = g.B.Bank.lock c.args.bank in
    let core = c.in_ok-core.core in
    let answers = c.in_ok-core.answers.items in
    let ran = c.in_ok-core.ensures in
    let size = ap (λ (s : State). length s.regs) (threads_start b cli.ignore_unused contents lock answers core ran) in
    let printed = printed_whole b cli core core _ _ _ refl refl refl c.in_ok-print_core.ensures.prints in
    record {
      words = printed.words;
      text = printed.text;
      run = subst (λ (t : Telling). IsTextOf b cli t printed.words printed.text) (threads_telling b cli.ignore_unused contents lock answers core ran) printed.run;
      printed = printed.printed;
      registers = bank_back _ _ _ _ _ _ c.into_bank.ensures.told (sym size) c.into_bank.ensures.words printed.registers;
      behind = same_behind (g.B.Bank.contents c.into_bank.result) contents _ _ _ (length b.words) c.into_bank.ensures.behind (ap (λ (k : Behind). k.words) (threads_behind b cli.ignore_unused contents lock answers core ran)) size refl;
    }

pub returns-clause-told : goal.returns-clause-told
returns-clause-told g c =
    c.into_bank.ensures.told
    ∙ threads_told c.args.bundle.now c.args.cli.now.ignore_unused (g.B.Bank.contents c.args.bank) (g.B.Bank.lock c.args.bank) c.in_ok-core.answers.items c.in_ok-core.core c.in_ok-core.ensures

pub returns-clause-delays : goal.returns-clause-delays
returns-clause-delays g c =
    c.into_bank.ensures.delays
    ∙ ap (λ (k : Behind). k.delays) (threads_behind c.args.bundle.now c.args.cli.now.ignore_unused (g.B.Bank.contents c.args.bank) (g.B.Bank.lock c.args.bank) c.in_ok-core.answers.items c.in_ok-core.core c.in_ok-core.ensures)

pub returns-in_err-print_core-clause-fault : goal.returns-in_err-print_core-clause-fault
returns-in_err-print_core-clause-fault g c =
    let b = c.args.bundle.now in
    let cli = c.args.cli.now in
    let contents = g.B.Bank.contents c.args.bank in
    let lock = g.B.Bank.lock c.args.bank in
    let p = err_from_is_err_and c.from_residual-in_err-print_core.result c.from_residual-in_err-print_core.ensures.1 in
    let left = LeftByFault b cli (telling contents lock) (g.K.Sink.written c.args.out.now) (g.K.Sink.written c.print_core.new.out) in
    rw p.1 (subst left (sym p.2)
    (printed_front b cli (telling contents lock) c.in_ok-core.core _ _ _ (threads_telling b cli.ignore_unused contents lock c.in_ok-core.answers.items c.in_ok-core.core c.in_ok-core.ensures)
    c.in_err-print_core.ensures.prints))

pub returns-in_err-print_core-clause-counts : goal.returns-in_err-print_core-clause-counts
returns-in_err-print_core-clause-counts g c =
    let p = err_from_is_err_and c.from_residual-in_err-print_core.result c.from_residual-in_err-print_core.ensures.1 in
    rw p.1 (subst (RisesAtWrite (g.K.Sink.faults c.args.out.now) (g.K.Sink.faults c.print_core.new.out)) (sym p.2) c.in_err-print_core.ensures.counts)
