use Rattle.std.proofs.Common.{◌∙◌, None, sym}
use Rattle.clk_base.specs.declared.event.Turn.TheVariants.{Done}
use Rattle.clk_model.specs.Journal.{slotless}
use Rattle.clk_machine.specs.Copied.{Copy}
use Rattle.clk_machine.proofs.Copying.{no_step, copies_halted, copies_step, quiet_told, going_told}
use Rattle.clk_machine.proofs.prep.ending.end_along.Goals as goal

pub returns-then-is_quiet-clause-follows : goal.returns-then-is_quiet-clause-follows
returns-then-is_quiet-clause-follows c =
    let old : Copy = record { parts = c.args.machine.now; room = None } in
    λ d m a r s t of step. absurd (no_step old s t d m a (slotless (Done r)) of (quiet_told c.args.machine.now.flight.going c.is_quiet.result c.is_quiet.ensures.going c.if-is_quiet.true) step)

pub returns-then-sweeps-clause-follows : goal.returns-then-sweeps-clause-follows
returns-then-sweeps-clause-follows c =
    let old : Copy = record { parts = c.args.machine.now; room = None } in
    let new : Copy = record { parts = c.halt.new.self; room = None } in
    λ d m a r. copies_halted old new d m a r (going_told c.args.machine.now.flight.going c.is_quiet.result c.is_quiet.ensures.going c.if-is_quiet.false)
    (sym c.sweeps.ensures ∙ c.if-sweeps.true) c.halt.ensures.stands

pub returns-clause-follows : goal.returns-clause-follows
returns-clause-follows c =
    let old : Copy = record { parts = c.args.machine.now; room = None } in
    let new : Copy = record { parts = c.step_out.new.self; room = None } in
    λ d m a r s t of step. copies_step old new s t d m a (Done r) c.is_quiet.ensures.whole of (going_told c.args.machine.now.flight.going c.is_quiet.result c.is_quiet.ensures.going c.if-is_quiet.false)
    (sym c.sweeps.ensures ∙ c.if-sweeps.false) (c.step_out.ensures.along d m a r) step
