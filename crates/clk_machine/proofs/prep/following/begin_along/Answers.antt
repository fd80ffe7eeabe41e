use Rattle.std.proofs.Common.{None}
use Rattle.clk_base.specs.declared.event.Turn.TheVariants.{Going}
use Rattle.clk_machine.specs.Copied.{Copy}
use Rattle.clk_machine.proofs.Copying.{no_begin, going_told, copies_out}
use Rattle.clk_machine.proofs.prep.following.begin_along.Goals as goal

pub returns-then-not-is_quiet-clause-follows : goal.returns-then-not-is_quiet-clause-follows
returns-then-not-is_quiet-clause-follows c =
    let old : Copy = record { parts = c.args.machine.now; room = None } in
    λ s t of step. absurd (no_begin old s t c.args.driver c.args.what Going of (going_told c.args.machine.now.flight.going c.is_quiet.result c.is_quiet.ensures.going c.if-not-is_quiet.true) step)

pub returns-clause-follows : goal.returns-clause-follows
returns-clause-follows c = copies_out c.args.machine.now c.set_out.new.machine c.args.driver c.args.what c.is_quiet.ensures.whole c.set_out.ensures.goes
