use Rattle.std.proofs.Common.{◌≡◌, ◌∙◌, sym, ap, subst, Option, Some, None}
use Rattle.std.proofs.lemmas.Result.{IfOk-weaker}
use Rattle.std.specs.Prelude.{is_some}
use Rattle.clk_base.specs.declared.call.Sleeping.TheVariants.{SetRateExclusive}
use Rattle.clk_model.specs.declared.row.HandleRow.{HandleRow}
use Rattle.core_parts.specs.Decisions.{decision_of}
use Rattle.clk_machine.specs.Parts.{Parts, parts_of, own_in}
use Rattle.clk_machine.proofs.Decided.{exclusive_unknown, decides_exclusive}
use Rattle.clk_machine.proofs.Entered.{own_stands}
use Rattle.clk_machine.proofs.Owned.{owned_call}
use Rattle.clk_machine.proofs.machine.Machine.decide_exclusive.Goals as goal

pub returns-in_default-clause-decides : goal.returns-in_default-clause-decides
returns-in_default-clause-decides g c = λ s stands sound.
    exclusive_unknown s c.args.driver c.args.handle c.args.rate (own_stands c.args.self.now s c.args.driver c.args.handle.number None stands (c.own.ensures.row ∙ c.in_default.is))

pub returns-clause-decides : goal.returns-clause-decides
returns-clause-decides g c =
    let m = c.self.inside in
    let p : Parts = parts_of m.window m.tree m.handles m.counts m.notifiers m.credits m.spent m.ignore_unused m.flight m.course m.prepare_holds m.enable_holds m.steps in
    let row = c.in-Some.row in
    let own = subst (λ (q : Parts). own_in q.table.handles c.args.driver c.args.handle.number ≡ Some row) (sym c.self.view_is) (c.own.ensures.row ∙ c.in-Some.is) in
    rw (← c.self.view_is)
    (IfOk-weaker c.decide_request.result _ _
    (λ verdict answers s stands sound. decides_exclusive p s c.args.driver c.args.handle c.args.rate row (decision_of c.decide_request.new.draft verdict) c.self.invariant own answers stands sound)
    c.decide_request.ensures.decides)

pub returns-clause-own : goal.returns-clause-own
returns-clause-own g c =
    IfOk-weaker c.decide_request.result _ _
    (λ verdict there. owned_call c.args.self.now.table.handles c.args.driver (SetRateExclusive c.args.handle c.args.rate) (decision_of c.decide_request.new.draft verdict) (ap (λ (o : Option HandleRow). is_some o) (c.own.ensures.row ∙ c.in-Some.is))) c.decide_request.ensures.there
