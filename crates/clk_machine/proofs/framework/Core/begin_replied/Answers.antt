use Rattle.std.proofs.Common.{◌≡◌, ◌∙◌, refl, sym, ap}
use Rattle.clk_base.specs.declared.event.Event.TheVariants.{Begin}
use Rattle.clk_base.specs.declared.event.Turn.{Turn}
use Rattle.clk_base.specs.declared.event.Turn.TheVariants.{Done, Going}
use Rattle.clk_model.specs.Journal.{slotless}
use Rattle.clk_model.proofs.CallCauseLaws.{calls_have_causes}
use Rattle.clk_model.proofs.Members.{both_left, both_right}
use Rattle.clk_machine.specs.Kinds.{is_answer_to}
use Rattle.clk_machine.proofs.Causing.{turn_refused}
use Rattle.clk_machine.proofs.framework.Core.begin_replied.Goals as goal

pub begin_answered-requires-clause-asks_or_plans : goal.begin_answered-requires-clause-asks_or_plans
begin_answered-requires-clause-asks_or_plans g c = both_left _ _ (sym c.takes_reply.ensures ∙ c.if-not-takes_reply.false)

pub begin_answered-requires-clause-kind : goal.begin_answered-requires-clause-kind
begin_answered-requires-clause-kind g c = both_right _ _ (sym c.takes_reply.ensures ∙ c.if-not-takes_reply.false)

pub returns-clause-kind : goal.returns-clause-kind
returns-clause-kind g c =
    ap (λ (t : Turn). is_answer_to (Begin c.args.what.now) t) c.begin_answered.ensures.done ∙ both_right _ _ (sym c.takes_reply.ensures ∙ c.if-not-takes_reply.false)

pub returns-clause-turns : goal.returns-clause-turns
returns-clause-turns g c = λ told. (calls_have_causes _ _ c.args.driver c.args.what.now (slotless c.begin_answered.result) (c.begin_answered.ensures.ok.step told)).1

pub returns-clause-refused : goal.returns-clause-refused
returns-clause-refused g c = λ told. turn_refused _ _ c.args.driver (Begin c.args.what.now) c.begin_answered.result c.begin_answered.ensures.ok refl told

pub returns-clause-weight : goal.returns-clause-weight
returns-clause-weight g c = λ told goes. let no : Done c.args.reply ≡ Going = sym c.begin_answered.ensures.done ∙ goes in absurd cc
