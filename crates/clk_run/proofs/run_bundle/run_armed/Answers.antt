use Rattle.std.proofs.Common.{◌≡◌, ℕ, ap, subst, sym, ◌∙◌, length, List, Option, refl}
use Rattle.std.specs.Prelude.{is_some, Bool}
use Rattle.std.proofs.lemmas.Result.{err_from_is_err_and}
use Rattle.clk_cli.specs.declared.cli.Cli.{Cli}
use Rattle.clk_io.specs.Counts.{RisesAtWrite}
use Rattle.clk_io.specs.declared.faults.PrintFault.{PrintFault}
use Rattle.drv_scripts.specs.declared.bundle.Bundle.{Bundle}
use Rattle.clk_model.specs.State.{State}
use Rattle.core_parts.specs.declared.behind.Behind.{Behind}
use Rattle.clk_run.specs.Runs.{Telling, telling, IsTextOf, LeftByFault}
use Rattle.clk_run.proofs.Leaving.{bank_back, same_behind}
use Rattle.clk_run.proofs.Telling.{telling_from}
use Rattle.clk_run.proofs.run_bundle.run_armed.Goals as goal

pub returns-clause-done : goal.returns-clause-done
returns-clause-done g c =
    let b = c.args.bundle.now in
    let opened = c.in_ok-core.ensures in
    let printed = c.in_ok-run_core.ensures.done in
    let size = ap (λ (s : State). length s.regs) (printed.start ∙ opened.start) in
    record {
      words = printed.words;
      text = printed.text;
      run = subst (λ (t : Telling). IsTextOf b c.args.cli.now t printed.words printed.text) (telling_from _ _ (g.B.Bank.contents c.args.bank) (g.B.Bank.lock c.args.bank) (length b.words) opened.told opened.behind) printed.run;
      printed = printed.printed;
      registers = bank_back _ _ _ _ _ _ c.into_bank.ensures.told (sym size) c.into_bank.ensures.words (λ tells. printed.registers (sym printed.told ∙ tells));
      behind = same_behind (g.B.Bank.contents c.into_bank.result) (g.B.Bank.contents c.args.bank) _ _ _ (length b.words) c.into_bank.ensures.behind
          (ap (λ (k : Behind). k.words) (printed.behind ∙ opened.behind)) size refl;
    }

pub returns-clause-delays : goal.returns-clause-delays
returns-clause-delays g c = c.into_bank.ensures.delays ∙ ap (λ (k : Behind). k.delays) (c.in_ok-run_core.ensures.done.behind ∙ c.in_ok-core.ensures.behind)

-- what a fault leaves is known of a core as of its bank
same_told : (b : Bundle) (cli : Cli) (told tells : Telling) (old new : Option (List ℕ)) (fault : PrintFault) → told ≡ tells → LeftByFault b cli told old new fault → LeftByFault b cli tells old new fault
same_told b cli told tells old new fault same left = subst (λ (t : Telling). LeftByFault b cli t old new fault) same left

pub returns-in_err-run_core-clause-fault : goal.returns-in_err-run_core-clause-fault
returns-in_err-run_core-clause-fault g c =
    let p = err_from_is_err_and c.from_residual-in_err-run_core.result c.from_residual-in_err-run_core.ensures.1 in
    let left = LeftByFault c.args.bundle.now c.args.cli.now (telling (g.B.Bank.contents c.args.bank) (g.B.Bank.lock c.args.bank)) (g.K.Sink.written c.args.out.now) (g.K.Sink.written c.run_core.new.out) in
    rw p.1 (subst left (sym p.2)
    (same_told _ _ _ _ _ _ _ (telling_from _ _ (g.B.Bank.contents c.args.bank) (g.B.Bank.lock c.args.bank) (length c.args.bundle.now.words) c.in_ok-core.ensures.told c.in_ok-core.ensures.behind) c.in_err-run_core.ensures.fault))

pub returns-in_err-run_core-clause-counts : goal.returns-in_err-run_core-clause-counts
returns-in_err-run_core-clause-counts g c =
    let p = err_from_is_err_and c.from_residual-in_err-run_core.result c.from_residual-in_err-run_core.ensures.1 in
    rw p.1 (subst (RisesAtWrite (g.K.Sink.faults c.args.out.now) (g.K.Sink.faults c.run_core.new.out)) (sym p.2) c.in_err-run_core.ensures.counts)
