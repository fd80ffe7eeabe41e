use Rattle.std.proofs.Common.{◌∙◌, sym}
use Rattle.clk_machine.proofs.Owning.{own_found, own_lacking, live_there}
use Rattle.clk_machine.proofs.machine.Machine.own.Goals as goal

pub of-requires : goal.of-requires
of-requires g c = live_there c.self.inside.handles.handles c.args.driver c.args.handle.number (sym c.live.ensures ∙ c.if-live.true)

pub returns-then-live-clause-row : goal.returns-then-live-clause-row
returns-then-live-clause-row g c =
    rw (← c.self.view_is) (own_found c.self.inside.handles.handles c.args.driver c.args.handle.number c.of.result (sym c.live.ensures ∙ c.if-live.true) c.of.ensures)

pub returns-else-live-clause-row : goal.returns-else-live-clause-row
returns-else-live-clause-row g c =
    rw (← c.self.view_is) (own_lacking c.self.inside.handles.handles c.args.driver c.args.handle.number (sym c.live.ensures ∙ c.if-live.false))
