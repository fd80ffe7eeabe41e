use Rattle.std.proofs.Common.{◌≡◌, ◌∙◌, ◌++◌, ◌∷◌, [], true, false, sym, ap, subst, arith}
use Rattle.clk_base.specs.declared.call.Sleeping.{Sleeping}
use Rattle.clk_base.specs.declared.event.Event.TheVariants.{Begin}
use Rattle.clk_model.specs.Journal.{replay}
use Rattle.clk_model.specs.State.{State}
use Rattle.clk_machine.specs.ChangeCalls.{call_of}
use Rattle.clk_machine.specs.Copied.{GoesOnBy, IsDecided}
use Rattle.clk_machine.specs.declared.decision.Decision.{Decision}
use Rattle.clk_machine.specs.declared.decision.Decision.TheVariants.{Script}
use Rattle.clk_machine.specs.Run.{IsRun, Run, Appends, in_flight, run_of, start_of, state_of}
use Rattle.clk_machine.specs.Sound.{IsPlaced}
use Rattle.clk_machine.specs.Stands.{is_told}
use Rattle.clk_machine.proofs.Copied.{decided_here, wired_run}
use Rattle.clk_machine.proofs.Entering.{IsEntered, entry_of, begun_from, roomier, same_run, entered, appended, sound_of}
use Rattle.clk_machine.proofs.framework.Core.begin_planned.Goals as goal

pub begin_planned-requires-clause-quiet : goal.begin_planned-requires-clause-quiet
begin_planned-requires-clause-quiet g c =
    let m = c.self.inside in
    let quiet : in_flight m.log.entries ≡ false = rw (← c.self.view_is) at c.requires.quiet in
    c.self.invariant.going ∙ quiet

pub begin_planned-requires-clause-paid : goal.begin_planned-requires-clause-paid
begin_planned-requires-clause-paid g c = let room = c.self.invariant.room in omega arith

pub invariant_of-self-2 : goal.invariant_of-self-2
invariant_of-self-2 g c =
    let m = c.self.inside in
    let placed : IsPlaced m.machine.desc.defs (call_of c.args.change) = rw (← c.self.view_is) at c.requires.place in
    let made : Decision = Script c.args.plan c.args._steps in
    let decided : is_told m.machine ≡ true → IsDecided (state_of m.machine m.words.items m.log) c.args.driver (call_of c.args.change) made = rw (← c.self.view_is) at c.requires.decided in
    let goes : is_told m.machine ≡ true → GoesOnBy (state_of m.machine m.words.items m.log) c.args.driver (call_of c.args.change) c.args.plan c.args._steps =
    (λ told. decided_here (state_of m.machine m.words.items m.log) c.args.driver (call_of c.args.change) made (wired_run m.machine m.words.items m.log c.self.invariant told) (decided told)) in
    let entries : c.push.new.self.entries ≡ c.begin_planned.new.log.entries ++ entry_of c.args.driver (Begin (call_of c.args.change)) c.in_ok-turn.turn ∷ [] =
    c.push.ensures.entries ∙ ap (λ (w : Sleeping). c.begin_planned.new.log.entries ++ entry_of c.args.driver (Begin w) c.in_ok-turn.turn ∷ []) c.call.ensures in
    let run : IsRun m.machine m.words.items c.begin_planned.new.log = roomier m.machine m.words.items m.log c.begin_planned.new.log c.self.invariant c.begin_planned.ensures.entries c.begin_planned.ensures.kept in
    let same : state_of m.machine m.words.items c.begin_planned.new.log ≡ state_of m.machine m.words.items m.log = ap (replay (start_of m.machine m.words.items)) c.begin_planned.ensures.entries in
    let is : IsEntered m.machine c.begin_planned.new.self m.words.items c.begin_planned.new.log c.push.new.self c.args.driver (Begin (call_of c.args.change)) c.in_ok-turn.turn =
    begun_from m.machine c.begin_planned.new.self m.words.items c.begin_planned.new.log c.push.new.self c.args.driver (call_of c.args.change) c.in_ok-turn.turn run c.in_ok-turn.ensures.proceeds
    (λ told. c.in_ok-turn.ensures.leads (state_of m.machine m.words.items c.begin_planned.new.log) c.args._steps (run.stands told) (sound_of m.machine m.words.items c.begin_planned.new.log run told)
    (subst (λ (s : State). GoesOnBy s c.args.driver (call_of c.args.change) c.args.plan c.args._steps) (sym same) (goes told)))
    placed c.in_ok-turn.ensures.room entries c.push.ensures.room in
    entered m.machine c.begin_planned.new.self m.words.items c.begin_planned.new.log c.push.new.self c.args.driver (Begin (call_of c.args.change)) c.in_ok-turn.turn is

pub returns-clause-ok : goal.returns-clause-ok
returns-clause-ok g c =
    let m = c.self.inside in
    let placed : IsPlaced m.machine.desc.defs (call_of c.args.change) = rw (← c.self.view_is) at c.requires.place in
    let made : Decision = Script c.args.plan c.args._steps in
    let decided : is_told m.machine ≡ true → IsDecided (state_of m.machine m.words.items m.log) c.args.driver (call_of c.args.change) made = rw (← c.self.view_is) at c.requires.decided in
    let goes : is_told m.machine ≡ true → GoesOnBy (state_of m.machine m.words.items m.log) c.args.driver (call_of c.args.change) c.args.plan c.args._steps =
    (λ told. decided_here (state_of m.machine m.words.items m.log) c.args.driver (call_of c.args.change) made (wired_run m.machine m.words.items m.log c.self.invariant told) (decided told)) in
    let entries : c.push.new.self.entries ≡ c.begin_planned.new.log.entries ++ entry_of c.args.driver (Begin (call_of c.args.change)) c.in_ok-turn.turn ∷ [] =
    c.push.ensures.entries ∙ ap (λ (w : Sleeping). c.begin_planned.new.log.entries ++ entry_of c.args.driver (Begin w) c.in_ok-turn.turn ∷ []) c.call.ensures in
    let run : IsRun m.machine m.words.items c.begin_planned.new.log = roomier m.machine m.words.items m.log c.begin_planned.new.log c.self.invariant c.begin_planned.ensures.entries c.begin_planned.ensures.kept in
    let same : state_of m.machine m.words.items c.begin_planned.new.log ≡ state_of m.machine m.words.items m.log = ap (replay (start_of m.machine m.words.items)) c.begin_planned.ensures.entries in
    let is : IsEntered m.machine c.begin_planned.new.self m.words.items c.begin_planned.new.log c.push.new.self c.args.driver (Begin (call_of c.args.change)) c.in_ok-turn.turn =
    begun_from m.machine c.begin_planned.new.self m.words.items c.begin_planned.new.log c.push.new.self c.args.driver (call_of c.args.change) c.in_ok-turn.turn run c.in_ok-turn.ensures.proceeds
    (λ told. c.in_ok-turn.ensures.leads (state_of m.machine m.words.items c.begin_planned.new.log) c.args._steps (run.stands told) (sound_of m.machine m.words.items c.begin_planned.new.log run told)
    (subst (λ (s : State). GoesOnBy s c.args.driver (call_of c.args.change) c.args.plan c.args._steps) (sym same) (goes told)))
    placed c.in_ok-turn.ensures.room entries c.push.ensures.room in
    rw (← c.self.view_is) (subst (λ (r : Run). Appends r c.args.driver (Begin (call_of c.args.change)) c.in_ok-turn.turn (run_of c.begin_planned.new.self m.words.items c.push.new.self)) (same_run m.machine m.words.items m.log c.begin_planned.new.log c.begin_planned.ensures.entries)
    (appended m.machine c.begin_planned.new.self m.words.items c.begin_planned.new.log c.push.new.self c.args.driver (Begin (call_of c.args.change)) c.in_ok-turn.turn is))
