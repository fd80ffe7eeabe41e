use Rattle.std.proofs.Common.{[], ℕ, List, Some, refl, ap, subst, ◌∙◌}
use Rattle.clk_base.specs.Description.{Description, name_of}
use Rattle.clk_base.specs.declared.clock.ClockDef.{ClockDef}
use Rattle.clk_io.proofs.Chains.{AppendsFront-none}
use Rattle.clk_io.proofs.Gathering.{PassesOn-none}
use Rattle.clk_io.specs.Gathers.{Gathers}
use Rattle.clk_summary.specs.Rows.{columns_of}
use Rattle.clk_summary.proofs.Lined.{no_lines, line_of_row}
use Rattle.clk_summary.proofs.Printing.{fault_leaves}
use Rattle.clk_summary.proofs.Stays.{handed_on, stays_before, stays_of_line}
use Rattle.clk_summary.proofs.table.print_line.Goals as goal

pub returns-in_default-clause-lines : goal.returns-in_default-clause-lines
returns-in_default-clause-lines g c = record { text = []; lines = no_lines _ _; gathers = PassesOn-none _ _ }

pub returns-in_err-line-clause-lines : goal.returns-in_err-line-clause-lines
returns-in_err-line-clause-lines g c =
    record { text = []; lines = no_lines _ _; gathers = fault_leaves _ _ _ _ _ _ c.from_residual.ensures.0 (AppendsFront-none _ _) }

pub returns-clause-lines : goal.returns-clause-lines
returns-clause-lines g c =
    let written = g.K.Sink.written in
    let name = c.as_str-name.result.now in
    let row = c.in-Some.row in
    let named = c.as_str-name.ensures ∙ ap (λ (d : ClockDef). d.name) c.def.ensures.def ∙ ap (λ (defs : Description). name_of defs c.args.clock.0) c.desc.ensures.defs in
    record {
      text = columns_of c.args.level name row;
      lines = line_of_row _ _ c.args.level c.args.clock.0 name (Some row) row refl c.in-Some.ensures.found named;
      gathers = subst (λ (text : List ℕ). Gathers (written c.args.out.now) (written c.print.new.out) c.args.gathered.now c.print.new.self text c.print.result)
          (c.as_bytes.ensures.value ∙ c.in_ok-line.ensures.ok) c.print.ensures.gathers;
    }

pub returns-in_err-line-clause-stays : goal.returns-in_err-line-clause-stays
returns-in_err-line-clause-stays g c = λ text. handed_on _ _ _ c.from_residual.ensures.1 (stays_before _ _ text)

pub returns-clause-stays : goal.returns-clause-stays
returns-clause-stays g c = λ text.
    stays_of_line _ _ _ _ text _ (λ is. (ap g.K.Sink.written (c.print.ensures.memory is).0, (c.print.ensures.memory is).1)) c.print.ensures.lost
