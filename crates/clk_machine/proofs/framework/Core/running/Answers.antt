use Rattle.std.proofs.Common.{refl}
use Rattle.clk_base.specs.declared.event.Event.TheVariants.{Running}
use Rattle.clk_base.specs.declared.event.Turn.TheVariants.{Done}
use Rattle.clk_machine.proofs.Entering.{answered, entered, appended}
use Rattle.clk_model.proofs.CauseLaws.{running_causes}
use Rattle.clk_machine.proofs.Causing.{appends_refused}
use Rattle.clk_machine.proofs.framework.Core.running.Goals as goal

pub invariant_of-self : goal.invariant_of-self
invariant_of-self g c =
    entered c.self.inside.machine c.running-reply.new.self c.self.inside.words.items c.self.inside.log c.push.new.self c.args.driver (Running c.args.handle.number) (Done c.running-reply.result)
    (answered c.self.inside.machine c.running-reply.new.self c.self.inside.words.items c.self.inside.log c.push.new.self c.args.driver (Running c.args.handle.number) (Done c.running-reply.result) c.self.invariant c.running-reply.ensures.enters tt refl refl c.push.ensures.entries c.push.ensures.room)

pub returns-clause-entry : goal.returns-clause-entry
returns-clause-entry g c =
    rw (← c.self.view_is)
    (appended c.self.inside.machine c.running-reply.new.self c.self.inside.words.items c.self.inside.log c.push.new.self c.args.driver (Running c.args.handle.number) (Done c.running-reply.result)
    (answered c.self.inside.machine c.running-reply.new.self c.self.inside.words.items c.self.inside.log c.push.new.self c.args.driver (Running c.args.handle.number) (Done c.running-reply.result) c.self.invariant c.running-reply.ensures.enters tt refl refl c.push.ensures.entries c.push.ensures.room))

pub returns-clause-causes : goal.returns-clause-causes
returns-clause-causes g c = λ told. running_causes _ _ c.args.driver c.args.handle.number c.running-reply.result ((returns-clause-entry g c).step told)

pub returns-clause-refused : goal.returns-clause-refused
returns-clause-refused g c = λ told. appends_refused _ _ c.args.driver (Running c.args.handle.number) c.running-reply.result (returns-clause-entry g c) refl told
