use Rattle.std.proofs.Common.{◌∙◌, List, Option, sym, subst}
use Rattle.clk_model.specs.declared.row.HandleRow.{HandleRow}
use Rattle.notifiers.specs.Chains.{row_on, IsWith}
use Rattle.notifiers.specs.declared.notifier.Notifier.{Notifier}
use Rattle.clk_machine.specs.Places.{IsReadyToAdd, CanAddNotifier}
use Rattle.clk_machine.proofs.Along.{inside_row}
use Rattle.clk_machine.proofs.NotifyingAlong.{along_added, along_never}
use Rattle.clk_machine.proofs.Writing.{row_place}
use Rattle.clk_machine.proofs.machine.Machine.notifier_add_along.Goals as goal

pub put_chain-requires-clause-place : goal.put_chain-requires-clause-place
put_chain-requires-clause-place g c = row_place c.args.self.now c.args.handle.number c.known-row.result c.known-row.ensures.whole c.known-row.ensures.live

pub returns-in-Some-clause-along : goal.returns-in-Some-clause-along
returns-in-Some-clause-along g c = λ n ready.
    let can : CanAddNotifier c.args.self.now c.args.driver c.args.handle n c.in-Some.chain = subst (λ (o : Option (List Notifier)). IsReadyToAdd c.args.self.now c.args.driver c.args.handle n o) c.in-Some.is ready in
    along_added c.args.self.now c.put_chain.new.self c.args.driver c.args.handle n c.known-row.result c.known-row.ensures.own
    (c.put_chain.ensures n
    (subst (λ (r : HandleRow). IsWith c.args.self.now.chains (row_on r.clock.0 n) c.in-Some.chain) (inside_row (sym can.own ∙ c.known-row.ensures.own)) can.with_))

pub returns-in-None-clause-along : goal.returns-in-None-clause-along
returns-in-None-clause-along g c = λ n ready.
    along_never c.args.self.now c.args.driver c.args.handle n
    (subst (λ (o : Option (List Notifier)). IsReadyToAdd c.args.self.now c.args.driver c.args.handle n o) c.in-None.is ready)
