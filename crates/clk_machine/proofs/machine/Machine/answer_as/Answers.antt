use Rattle.std.proofs.Common.{◌≡◌, ◌∙◌, ◌||◌, true, Bool, sym, ap, subst}
use Rattle.std.specs.Prelude.{is_some}
use Rattle.clk_base.specs.declared.call.Sleeping.{Sleeping}
use Rattle.clk_base.specs.declared.event.Event.TheVariants.{Begin}
use Rattle.clk_base.specs.declared.event.Turn.TheVariants.{Done}
use Rattle.clk_model.specs.Laws.PlansRead.{asks}
use Rattle.clk_machine.specs.Beginning.{LeadsAnswered}
use Rattle.clk_machine.specs.Holding.{stays}
use Rattle.clk_machine.specs.Stands.{Proceeds}
use Rattle.clk_machine.proofs.Asking.{asked_begins, asked_joins}
use Rattle.clk_machine.proofs.ChangeCalls.{asks_left}
use Rattle.clk_machine.proofs.Readying.{leads_answered, proceeds_answered}
use Rattle.clk_machine.proofs.machine.Machine.answer_as.Goals as goal

pub returns-in-Some-clause-proceeds : goal.returns-in-Some-clause-proceeds
returns-in-Some-clause-proceeds g c =
    subst (λ (w : Sleeping). Proceeds c.args.self.now c.args.driver (Begin w) (Done c.args.reply) c.answer_planned.new.self) c.in-Some.ensures.is c.answer_planned.ensures.proceeds

pub returns-in-Some-clause-leads : goal.returns-in-Some-clause-leads
returns-in-Some-clause-leads g c =
    subst (λ (w : Sleeping). LeadsAnswered c.args.self.now c.args.driver w c.args.reply c.answer_planned.new.self) c.in-Some.ensures.is c.answer_planned.ensures.leads

pub returns-in-None-clause-proceeds : goal.returns-in-None-clause-proceeds
returns-in-None-clause-proceeds g c =
    let asking = asks_left c.args.what (sym c.in-None.ensures.plans) c.requires.decided in
    proceeds_answered c.args.self.now c.spend.new.self c.args.driver c.args.what c.args.reply stays (λ k. asked_joins c.args.what c.args.reply k asking) c.requires.quiet c.spend.ensures

pub returns-in-None-clause-leads : goal.returns-in-None-clause-leads
returns-in-None-clause-leads g c = λ s stands sound is.
    let asking = asks_left c.args.what (sym c.in-None.ensures.plans) c.requires.decided in
    leads_answered c.args.self.now c.spend.new.self s c.args.driver c.args.what c.args.reply stays c.requires.credit c.requires.quiet c.spend.ensures stands sound (asked_begins s c.args.driver c.args.what _ asking is)
