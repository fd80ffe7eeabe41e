use Rattle.std.proofs.Common.{◌≡◌, ◌∙◌, true, false, refl}
use Rattle.clk_base.specs.declared.event.Event.TheVariants.{Begin}
use Rattle.clk_base.specs.declared.event.Turn.TheVariants.{Done}
use Rattle.clk_machine.specs.Copied.{IsDecided}
use Rattle.clk_machine.specs.declared.decision.Decision.TheVariants.{Reply}
use Rattle.clk_machine.specs.Run.{in_flight, state_of}
use Rattle.clk_machine.specs.Sound.{IsPlaced}
use Rattle.clk_machine.specs.Stands.{is_told}
use Rattle.clk_machine.proofs.Copied.{decided_here, wired_run}
use Rattle.clk_machine.proofs.Entering.{IsEntered, answered_from, entered, appended, sound_of}
use Rattle.clk_machine.proofs.framework.Core.begin_answered.Goals as goal

pub answer_as-requires-clause-quiet : goal.answer_as-requires-clause-quiet
answer_as-requires-clause-quiet g c =
    let m = c.self.inside in
    let quiet : in_flight m.log.entries ≡ false = rw (← c.self.view_is) at c.requires.quiet in
    c.self.invariant.going ∙ quiet

pub invariant_of-self : goal.invariant_of-self
invariant_of-self g c =
    let m = c.self.inside in
    let placed : IsPlaced m.machine.desc.defs c.args.what = rw (← c.self.view_is) at c.requires.place in
    let decided : is_told m.machine ≡ true → IsDecided (state_of m.machine m.words.items m.log) c.args.driver c.args.what (Reply c.args.reply) = rw (← c.self.view_is) at c.requires.decided in
    let is : IsEntered m.machine c.answer_as.new.self m.words.items m.log c.push.new.self c.args.driver (Begin c.args.what) (Done c.args.reply) =
    answered_from m.machine c.answer_as.new.self m.words.items m.log c.push.new.self c.args.driver (Begin c.args.what) (Done c.args.reply) c.self.invariant c.answer_as.ensures.proceeds
    (λ told. c.answer_as.ensures.leads (state_of m.machine m.words.items m.log) (c.self.invariant.stands told) (sound_of m.machine m.words.items m.log c.self.invariant told)
    (decided_here (state_of m.machine m.words.items m.log) c.args.driver c.args.what (Reply c.args.reply) (wired_run m.machine m.words.items m.log c.self.invariant told) (decided told)).2)
    placed refl refl c.push.ensures.entries c.push.ensures.room in
    entered m.machine c.answer_as.new.self m.words.items m.log c.push.new.self c.args.driver (Begin c.args.what) (Done c.args.reply) is

pub returns-clause-ok : goal.returns-clause-ok
returns-clause-ok g c =
    let m = c.self.inside in
    let placed : IsPlaced m.machine.desc.defs c.args.what = rw (← c.self.view_is) at c.requires.place in
    let decided : is_told m.machine ≡ true → IsDecided (state_of m.machine m.words.items m.log) c.args.driver c.args.what (Reply c.args.reply) = rw (← c.self.view_is) at c.requires.decided in
    let is : IsEntered m.machine c.answer_as.new.self m.words.items m.log c.push.new.self c.args.driver (Begin c.args.what) (Done c.args.reply) =
    answered_from m.machine c.answer_as.new.self m.words.items m.log c.push.new.self c.args.driver (Begin c.args.what) (Done c.args.reply) c.self.invariant c.answer_as.ensures.proceeds
    (λ told. c.answer_as.ensures.leads (state_of m.machine m.words.items m.log) (c.self.invariant.stands told) (sound_of m.machine m.words.items m.log c.self.invariant told)
    (decided_here (state_of m.machine m.words.items m.log) c.args.driver c.args.what (Reply c.args.reply) (wired_run m.machine m.words.items m.log c.self.invariant told) (decided told)).2)
    placed refl refl c.push.ensures.entries c.push.ensures.room in
    rw (← c.self.view_is) (appended m.machine c.answer_as.new.self m.words.items m.log c.push.new.self c.args.driver (Begin c.args.what) (Done c.args.reply) is)
