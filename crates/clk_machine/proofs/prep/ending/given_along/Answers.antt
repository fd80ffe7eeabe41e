use Rattle.std.proofs.Common.{None, subst, sym, ◌∙◌}
use Rattle.clk_base.specs.declared.call.Sleeping.{Sleeping}
use Rattle.clk_base.specs.declared.event.Event.TheVariants.{Begin}
use Rattle.clk_base.specs.declared.event.Reply.TheVariants as reply
use Rattle.clk_base.specs.declared.event.Turn.TheVariants.{Done}
use Rattle.clk_base.specs.declared.handle.Handle.{Handle}
use Rattle.clk_machine.specs.Along.{PartsFollow}
use Rattle.clk_machine.specs.Ready.{HasPlaceFor}
use Rattle.clk_machine.specs.Copied.{Copy}
use Rattle.clk_machine.proofs.Copying.{copies_got}
use Rattle.clk_machine.proofs.Given.{got_by, never_given}
use Rattle.clk_machine.proofs.prep.ending.given_along.Goals as goal

pub get_along-requires-clause-made : goal.get_along-requires-clause-made
get_along-requires-clause-made c =
    let m = c.args.machine.now in
    subst (λ (what : Sleeping). HasPlaceFor m c.args.driver what c.requires.has.0) (got_by c.args.what c.in-Some.clock (sym c.clock_got.ensures ∙ c.in-Some.is)) c.requires.has.1

pub returns-clause-follows : goal.returns-clause-follows
returns-clause-follows c =
    let old : Copy = record { parts = c.args.machine.now; room = None } in
    let new : Copy = record { parts = c.get_along.new.self; room = None } in
    subst (λ (what : Sleeping). (h : Handle) → PartsFollow old.parts c.args.driver (Begin what) (Done (reply.Handle h)) new.parts) (sym (got_by c.args.what c.in-Some.clock (sym c.clock_got.ensures ∙ c.in-Some.is)))
    (λ h. copies_got old new c.args.driver c.in-Some.clock c.requires.whole h (c.get_along.ensures.along h))

pub returns-in_default-clause-follows : goal.returns-in_default-clause-follows
returns-in_default-clause-follows c = λ h s t of step. absurd (never_given s t c.args.driver c.args.what h (sym c.clock_got.ensures ∙ c.in_default.is) step)
