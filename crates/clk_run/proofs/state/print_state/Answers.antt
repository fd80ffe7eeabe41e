use Rattle.std.proofs.Common.{◌∙◌, refl, []}
use Rattle.clk_io.proofs.Chains.{AppendsFront-none}
use Rattle.clk_io.proofs.Gathering.{PassesOn-none, Gathers-after, front_of_whole}
use Rattle.clk_journal.proofs.Lines.{Gathers-fault}
use Rattle.clk_journal.proofs.Stays.{counts_since}
use Rattle.clk_machine.specs.Run.{now_of}
use Rattle.clk_model.specs.Text.{registers_text}
use Rattle.clk_summary.proofs.Lined.{some_summary}
use Rattle.clk_run.proofs.state.print_state.Goals as goal

pub returns-in_err-words-clause-gathers : goal.returns-in_err-words-clause-gathers
returns-in_err-words-clause-gathers g c =
    let some = some_summary c.args.core.now in
    record {
      table = some.0;
      words = (now_of c.args.core.now).regs;
      summary = some.1;
      registers = λ tells. refl;
      gathers = Gathers-fault _ _ _ _ _ _ c.from_residual.ensures.0 (AppendsFront-none _ _);
    }

pub returns-in_err-print_summary-clause-gathers : goal.returns-in_err-print_summary-clause-gathers
returns-in_err-print_summary-clause-gathers g c =
    let table = c.in_err-print_summary.ensures.gathers in
    record {
      table = table.0;
      words = c.in_ok-words.words.items;
      summary = table.1;
      registers = c.in_ok-words.ensures;
      gathers = Gathers-fault _ _ _ _ _ _ c.from_residual-in_err-print_summary.ensures.0
          (front_of_whole _ _ _ _ _ [] table.0 (registers_text c.in_ok-words.words.items) _ (PassesOn-none _ _) table.2 refl);
    }

pub returns-clause-gathers : goal.returns-clause-gathers
returns-clause-gathers g c =
    let table = c.in_ok-print_summary.ensures.gathers in
    record {
      table = table.0;
      words = c.as_slice.result.now;
      summary = table.1;
      registers = λ tells. c.as_slice.ensures.value ∙ c.in_ok-words.ensures tells;
      gathers = Gathers-after _ _ _ _ _ _ table.0 (registers_text c.as_slice.result.now) _ table.2 c.print_registers.ensures.gathers;
    }

pub returns-clause-counts : goal.returns-clause-counts
returns-clause-counts g c = counts_since _ _ _ _ c.in_ok-print_summary.ensures.later c.print_registers.ensures.counts
