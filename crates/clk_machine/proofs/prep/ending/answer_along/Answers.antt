use Rattle.std.proofs.Common.{rules, ◌≡◌, true, None, refl, subst, sym}
use Rattle.clk_base.specs.declared.event.Event.TheVariants.{Begin}
use Rattle.clk_base.specs.declared.event.Reply.{Reply}
use Rattle.clk_base.specs.declared.event.Turn.TheVariants.{Done}
use Rattle.clk_model.specs.Journal.{slotless}
use Rattle.clk_machine.specs.Along.{PartsFollow, tells_only}
use Rattle.clk_machine.specs.Copied.{Copy}
use Rattle.clk_machine.proofs.Copying.{no_begin, going_told, quiet_told, copies_told}
use Rattle.clk_machine.proofs.prep.ending.answer_along.Goals as goal

pub returns-then-not-is_quiet-clause-follows : goal.returns-then-not-is_quiet-clause-follows
returns-then-not-is_quiet-clause-follows c =
    let old : Copy = record { parts = c.args.machine.now; room = None } in
    λ s t of step. absurd (no_begin old s t c.args.driver c.args.what (slotless (Done c.args.reply)) of (going_told c.args.machine.now.flight.going c.is_quiet.result c.is_quiet.ensures.going c.if-not-is_quiet.true) step)

pub returns-in-Fine-clause-follows : goal.returns-in-Fine-clause-follows
returns-in-Fine-clause-follows c =
    subst (λ (r : Reply). PartsFollow c.args.machine.now c.args.driver (Begin c.args.what) (Done r) c.fine_along.new.machine) (sym c.in-Fine.is) c.fine_along.ensures.follows

pub returns-in_default : goal.returns-in_default
returns-in_default c =
    let copy : Copy = record { parts = c.args.machine.now; room = None } in
    let only : tells_only c.args.reply ≡ true = search rules in
    record {
      follows = λ s t of step. copies_told copy s t c.args.driver c.args.what c.args.reply of only step;
      quiet = quiet_told c.args.machine.now.flight.going c.is_quiet.result c.is_quiet.ensures.going c.if-not-is_quiet.false;
      same = (refl, refl);
    }
