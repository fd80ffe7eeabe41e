use Rattle.clk_machine.specs.Copied.{Copy}
use Rattle.clk_machine.proofs.Copying.{going_told}
use Rattle.clk_machine.proofs.Tracing.{traced_begin, traced_never}
use Rattle.clk_machine.proofs.prep.Prep.trace_begin.Goals as goal

pub returns-then-not-is_quiet-clause-follows : goal.returns-then-not-is_quiet-clause-follows
returns-then-not-is_quiet-clause-follows c =
    let old : Copy = record { parts = c.self.inside.machine; room = c.self.inside.room } in
    rw (← c.self.view_is)
    (traced_never old c.follow.new.self c.args.entry.now c.args.what.now c.requires.begins
    (going_told c.self.inside.machine.flight.going c.is_quiet.result c.is_quiet.ensures.going c.if-not-is_quiet.true))

pub returns-clause-follows : goal.returns-clause-follows
returns-clause-follows c =
    let made = c.in_ok-reserve_anew.ensures in
    traced_begin c.args.self.now c.reserve_anew.new.self c.follow-2.new.self c.args.entry.now c.args.what.now c.requires.begins made.stays made.same made.room
    c.follow-2.ensures.follows c.follow-2.ensures.room c.follow-2.ensures.same
