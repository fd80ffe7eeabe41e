use Rattle.std.proofs.Common.{◌∙◌, sym, ap, List, Some, None}
use Rattle.std.specs.Option.{option_map}
use Rattle.clk_model.specs.Chain.{clock_id}
use Rattle.clk_model.specs.State.{link_in}
use Rattle.clk_model.specs.declared.row.ClockRow.{ClockRow}
use Rattle.clk_machine.proofs.Asking.{parent_unknown, parent_known}
use Rattle.clk_machine.proofs.Entered.{own_stands}
use Rattle.clk_machine.proofs.machine.Machine.parent_reply.Goals as goal

pub returns-in-Some-clause-told : goal.returns-in-Some-clause-told
returns-in-Some-clause-told g c = λ s stands sound.
    parent_known s c.args.driver c.args.handle c.in-Some.row c.parent_of.result (own_stands c.args.self.now s c.args.driver c.args.handle.number (Some c.in-Some.row) stands (c.own.ensures.row ∙ c.in-Some.is))
    (ap (λ (rs : List ClockRow). option_map clock_id (link_in rs c.in-Some.row.clock.0)) stands.clocks ∙ sym c.parent_of.ensures)

pub returns-in-None-clause-told : goal.returns-in-None-clause-told
returns-in-None-clause-told g c = λ s stands sound.
    parent_unknown s c.args.driver c.args.handle (own_stands c.args.self.now s c.args.driver c.args.handle.number None stands (c.own.ensures.row ∙ c.in-None.is))
