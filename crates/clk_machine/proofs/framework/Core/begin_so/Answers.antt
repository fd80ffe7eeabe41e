use Rattle.std.proofs.Common.{◌≡◌, ◌∙◌, false, subst, arith}
use Rattle.clk_base.specs.declared.event.Event.TheVariants.{Begin}
use Rattle.clk_machine.specs.Run.{IsRun, Run, Appends, in_flight, run_of, state_of}
use Rattle.clk_machine.specs.Sound.{IsPlaced}
use Rattle.clk_machine.proofs.Entering.{IsEntered, begun_along, roomier, same_run, entered, appended}
use Rattle.clk_machine.proofs.Needing.{after_any}
use Rattle.clk_machine.proofs.framework.Core.begin_so.Goals as goal

pub begin-requires-clause-quiet : goal.begin-requires-clause-quiet
begin-requires-clause-quiet g c =
    let m = c.self.inside in
    let quiet : in_flight m.log.entries ≡ false = rw (← c.self.view_is) at c.requires.quiet in
    c.self.invariant.going ∙ quiet

pub begin-requires-clause-paid : goal.begin-requires-clause-paid
begin-requires-clause-paid g c = let room = c.self.invariant.room in omega arith

pub invariant_of-self-2 : goal.invariant_of-self-2
invariant_of-self-2 g c =
    let m = c.self.inside in
    let placed : IsPlaced m.machine.desc.defs c.args.what = rw (← c.self.view_is) at c.requires.place in
    let run : IsRun m.machine m.words.items c.begin.new.log = roomier m.machine m.words.items m.log c.begin.new.log c.self.invariant c.begin.ensures.entries c.begin.ensures.kept in
    let is : IsEntered m.machine c.begin.new.self m.words.items c.begin.new.log c.push.new.self c.args.driver (Begin c.args.what) c.in_ok-turn.turn =
    begun_along m.machine c.begin.new.self m.words.items c.begin.new.log c.push.new.self c.args.driver c.args.what c.in_ok-turn.turn run c.in_ok-turn.ensures.ok
    placed c.in_ok-turn.ensures.room c.push.ensures.entries c.push.ensures.room in
    entered m.machine c.begin.new.self m.words.items c.begin.new.log c.push.new.self c.args.driver (Begin c.args.what) c.in_ok-turn.turn is

pub returns-clause-ok : goal.returns-clause-ok
returns-clause-ok g c =
    let m = c.self.inside in
    let placed : IsPlaced m.machine.desc.defs c.args.what = rw (← c.self.view_is) at c.requires.place in
    let run : IsRun m.machine m.words.items c.begin.new.log = roomier m.machine m.words.items m.log c.begin.new.log c.self.invariant c.begin.ensures.entries c.begin.ensures.kept in
    let is : IsEntered m.machine c.begin.new.self m.words.items c.begin.new.log c.push.new.self c.args.driver (Begin c.args.what) c.in_ok-turn.turn =
    begun_along m.machine c.begin.new.self m.words.items c.begin.new.log c.push.new.self c.args.driver c.args.what c.in_ok-turn.turn run c.in_ok-turn.ensures.ok
    placed c.in_ok-turn.ensures.room c.push.ensures.entries c.push.ensures.room in
    rw (← c.self.view_is) (subst (λ (r : Run). Appends r c.args.driver (Begin c.args.what) c.in_ok-turn.turn (run_of c.begin.new.self m.words.items c.push.new.self)) (same_run m.machine m.words.items m.log c.begin.new.log c.begin.ensures.entries)
    (appended m.machine c.begin.new.self m.words.items c.begin.new.log c.push.new.self c.args.driver (Begin c.args.what) c.in_ok-turn.turn is))

pub returns-in_err-turn-clause-needs : goal.returns-in_err-turn-clause-needs
returns-in_err-turn-clause-needs g c =
    let m = c.self.inside in
    rw (← c.self.view_is) (λ told. after_any c.from_residual.result (c.in_err-turn.ensures.needs (state_of m.machine m.words.items m.log) (c.self.invariant.stands told)))
