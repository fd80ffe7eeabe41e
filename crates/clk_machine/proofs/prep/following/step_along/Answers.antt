use Rattle.std.proofs.Common.{◌∙◌, None, sym}
use Rattle.clk_base.specs.declared.event.Turn.TheVariants.{Going}
use Rattle.clk_machine.specs.Copied.{Copy}
use Rattle.clk_machine.proofs.Along.{going_on}
use Rattle.clk_machine.proofs.Copying.{no_step, copies_sweep, copies_step, quiet_told, going_told}
use Rattle.clk_machine.proofs.SweptAlong.{not_last}
use Rattle.clk_machine.proofs.prep.following.step_along.Goals as goal

pub returns-then-is_quiet-clause-follows : goal.returns-then-is_quiet-clause-follows
returns-then-is_quiet-clause-follows c =
    let old : Copy = record { parts = c.args.machine.now; room = None } in
    λ d s t of step. absurd (no_step old s t d c.args.step c.args.answer _ of (quiet_told c.args.machine.now.flight.going c.is_quiet.result c.is_quiet.ensures.going c.if-is_quiet.true) step)

pub returns-then-sweeps-clause-follows : goal.returns-then-sweeps-clause-follows
returns-then-sweeps-clause-follows c =
    let old : Copy = record { parts = c.args.machine.now; room = None } in
    let new : Copy = record { parts = c.sweep_on.new.self; room = None } in
    λ d s t of step. copies_sweep old new s t d c.args.step c.args.answer Going of (going_told c.args.machine.now.flight.going c.is_quiet.result c.is_quiet.ensures.going c.if-is_quiet.false)
    (sym c.sweeps.ensures ∙ c.if-sweeps.true) (not_last c.args.step (going_on s t d c.args.step c.args.answer step)) c.sweep_on.ensures.along step

pub returns-clause-follows : goal.returns-clause-follows
returns-clause-follows c =
    let old : Copy = record { parts = c.args.machine.now; room = None } in
    let new : Copy = record { parts = c.step_on.new.self; room = None } in
    λ d s t of step. copies_step old new s t d c.args.step c.args.answer Going c.is_quiet.ensures.whole of (going_told c.args.machine.now.flight.going c.is_quiet.result c.is_quiet.ensures.going c.if-is_quiet.false)
    (sym c.sweeps.ensures ∙ c.if-sweeps.false) (c.step_on.ensures.along d c.args.step) step
