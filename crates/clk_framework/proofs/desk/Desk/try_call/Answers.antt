use Rattle.std.proofs.Common.{◌≡◌, Some, ◌∙◌, sym, ap, true}
use Rattle.std.proofs.lemmas.Result.{IfOk-weaker, on_err_weaker}
use Rattle.clk_base.specs.declared.event.Entry.{Entry}
use Rattle.clk_base.specs.declared.event.Turn.TheVariants.{Done}
use Rattle.clk_machine.specs.Run.{in_flight}
use Rattle.tier_lock.specs.Known.{KnownBaton, baton_of}
use Rattle.clk_framework.specs.declared.opened.Opened.{Opened}
use Rattle.clk_framework.specs.Calls.{DriverView, Makes, Calls}
use Rattle.clk_framework.proofs.Flights.{still}
use Rattle.clk_framework.proofs.Following.{lent_copy, valid_opened}
use Rattle.clk_framework.proofs.Lending.{quiet_planner, same_table, calls, calls_none}
use Rattle.clk_framework.proofs.desk.Desk.try_call.Goals as goal

pub plan-answer-requires-clause-quiet : goal.plan-answer-requires-clause-quiet
plan-answer-requires-clause-quiet g c κs within =
    still c.into_parts-baton.result.0.seen c.lend.new.pass.seen c.lend.ensures.behind ∙ ap (λ (b : KnownBaton Entry Opened). in_flight b.seen) c.into_parts-baton.ensures.baton
    ∙ quiet_planner c.args.self.now.planner c.in-Some.planner (sym c.take.ensures.value ∙ c.in-Some.is) c.args.self.now.quiet

pub plan-answer-requires-clause-copied : goal.plan-answer-requires-clause-copied
plan-answer-requires-clause-copied g c κs within =
    lent_copy c.into_parts-baton.result.0 c.into_parts-baton.result.1 c.lend.new.pass.fixed c.lend.new.pass.seen c.into_parts-baton.ensures.copied
    (ap (λ (d : DriverView). d.fixed) c.lend.ensures.lent ∙ c.lend.ensures.fixed) c.lend.ensures.behind

pub invariant_of-self : goal.invariant_of-self
invariant_of-self g c =
    let back : c.of.result.baton ≡ baton_of c.plan-answer.new.driver = c.of.ensures.baton ∙ c.hand_back.ensures.baton in
    record {
      table = ap (λ (b : KnownBaton Entry Opened). Some b.table) back
          ∙ ap (λ t. Some t) (same_table c.plan-answer.result c.lend.new.pass c.plan-answer.new.driver c.args.what.now c.plan-answer.ensures.ok c.plan-answer.ensures.err
          ∙ ap (λ (d : DriverView). d.table) c.lend.ensures.lent ∙ c.requires.ready.table_is);
      quiet = ap (λ (b : KnownBaton Entry Opened). Some (in_flight b.seen)) back ∙ ap (λ b. Some b) c.plan-answer.ensures.quiet;
    }

pub returns-clause-ok : goal.returns-clause-ok
returns-clause-ok g c =
    IfOk-weaker c.plan-answer.result (λ reply. Makes c.lend.new.pass c.args.what.now (Done reply) c.plan-answer.new.driver) (λ reply. Calls c.args.driver.now c.args.what.now reply c.hand_back.new.pass)
    (λ reply makes. calls c.args.driver.now c.lend.new.pass c.plan-answer.new.driver c.hand_back.new.pass record {
      empty_handed = c.requires.ready.baton;
      lent_is = c.lend.ensures.lent ∙ ap (λ es. let d : DriverView = record c.args.driver.now { baton = true; seen = es } in d) (sym (ap (λ (d : DriverView). d.seen) c.lend.ensures.lent));
      continues = c.lend.ensures.seen;
      given_is = c.hand_back.ensures.pass;
    } c.args.what.now reply (λ o. valid_opened c.plan-answer.new.driver.fixed c.plan-answer.new.driver.seen c.plan-answer.new.copy o c.plan-answer.ensures.copied) makes c.plan-answer.ensures.quiet) c.plan-answer.ensures.ok

pub returns-clause-err : goal.returns-clause-err
returns-clause-err g c =
    on_err_weaker c.plan-answer.result (λ none. calls_none c.args.driver.now c.lend.new.pass c.plan-answer.new.driver c.hand_back.new.pass record {
      empty_handed = c.requires.ready.baton;
      lent_is = c.lend.ensures.lent ∙ ap (λ es. let d : DriverView = record c.args.driver.now { baton = true; seen = es } in d) (sym (ap (λ (d : DriverView). d.seen) c.lend.ensures.lent));
      continues = c.lend.ensures.seen;
      given_is = c.hand_back.ensures.pass;
    } none) c.plan-answer.ensures.err
