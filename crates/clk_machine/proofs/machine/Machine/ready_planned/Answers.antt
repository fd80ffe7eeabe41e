use Rattle.std.proofs.Common.{◌≡◌, ◌∙◌, sym, subst, true, false}
use Rattle.std.proofs.lemmas.Result.{IfOk-weaker}
use Rattle.std.specs.Prelude.{IfOk}
use Rattle.rate_planner.specs.declared.planning.Planning.{Planning}
use Rattle.change_walk.specs.Given.{OfPlan}
use Rattle.change_walk.specs.Steps.{IsMadeOf}
use Rattle.clk_tree.specs.Plans.{AreThere}
use Rattle.counts_core.specs.Counted.{is_prepared}
use Rattle.core_parts.specs.Decisions.{Change}
use Rattle.core_parts.specs.Planned.{IsScriptOf}
use Rattle.clk_machine.specs.Beginning.{IsSuited}
use Rattle.clk_machine.specs.Deciding.{ArePlannedOver}
use Rattle.clk_machine.specs.Parts.{Parts}
use Rattle.clk_machine.specs.Readied.{readied_of}
use Rattle.clk_machine.specs.Readying.{Scripts}
use Rattle.clk_machine.proofs.Beginning.{own_call, remade, suited_of}
use Rattle.clk_machine.proofs.Flying.{quiet_stands}
use Rattle.clk_machine.proofs.Readying.{can_scripted, ready_at}
use Rattle.clk_machine.specs.ChangeCalls.{call_of}
use Rattle.clk_machine.proofs.ChangeCalls.{changes_of}
use Rattle.clk_machine.proofs.machine.Machine.ready_planned.Goals as goal

pub returns-then-not-suits-clause-ready : goal.returns-then-not-suits-clause-ready
returns-then-not-suits-clause-ready g c = λ s script stands sound goes.
    let no : true ≡ false = sym (c.suits.ensures.no (suited_of c.args.self.now s c.args.driver (call_of c.args.change) c.args.draft.now.planning.plan script stands goes)) ∙ c.if-not-suits.true in
    absurd cc

pub write_script-requires-clause-there : goal.write_script-requires-clause-there
write_script-requires-clause-there g c =
    subst (λ (q : Parts). AreThere q.tree.clocks c.args.draft.now.planning.plan.rates) (sym c.self.view_is) (c.suits.ensures.yes c.if-not-suits.false).there

pub returns-clause-ready : goal.returns-clause-ready
returns-clause-ready g c =
    let m : Parts = c.args.self.now in
    let plan = c.args.draft.now.planning.plan in
    let script = c.write_script.new.draft.script in
    let suited : IsSuited m c.args.driver (call_of c.args.change) plan = c.suits.ensures.yes c.if-not-suits.false in
    let planned_ : ArePlannedOver m (call_of c.args.change) (Change plan script) = record { set_parent = suited.set_parent; there = suited.there; made = subst (λ (q : Parts). IsMadeOf q.tree (is_prepared q.counts) q.chains plan script) c.self.view_is c.in_ok-write_script.ensures.made } in
    IfOk-weaker c.tell_clocks.result _ _
    (λ verdict scripts s given stands sound goes. ready_at m s c.args.driver (call_of c.args.change) plan script (readied_of c.tell_clocks.new.draft verdict) c.suits.ensures.whole stands sound (changes_of c.args.change) c.requires.credit
    (quiet_stands m s stands c.requires.quiet) planned_ (remade m s c.args.driver plan given script c.suits.ensures.whole stands sound
    (subst (λ (q : Parts). OfPlan q.tree (is_prepared q.counts) q.chains plan (λ t. IsScriptOf t plan script)) c.self.view_is c.in_ok-write_script.ensures.script) (call_of c.args.change) goes) scripts)
    (subst (λ (p : Planning). IfOk c.tell_clocks.result (λ verdict. Scripts m p.plan script (readied_of c.tell_clocks.new.draft verdict))) c.write_script.ensures.plan c.tell_clocks.ensures.scripts)

pub returns-clause-can : goal.returns-clause-can
returns-clause-can g c =
    let m : Parts = c.args.self.now in
    let plan = c.args.draft.now.planning.plan in
    let script = c.write_script.new.draft.script in
    let suited : IsSuited m c.args.driver (call_of c.args.change) plan = c.suits.ensures.yes c.if-not-suits.false in
    let planned_ : ArePlannedOver m (call_of c.args.change) (Change plan script) = record { set_parent = suited.set_parent; there = suited.there; made = subst (λ (q : Parts). IsMadeOf q.tree (is_prepared q.counts) q.chains plan script) c.self.view_is c.in_ok-write_script.ensures.made } in
    IfOk-weaker c.tell_clocks.result _ _
    (λ verdict scripts. can_scripted m c.args.driver (call_of c.args.change) plan script (readied_of c.tell_clocks.new.draft verdict) c.suits.ensures.whole (changes_of c.args.change) planned_
    (own_call m.table.handles c.args.driver (call_of c.args.change) (changes_of c.args.change) suited.own) scripts)
    (subst (λ (p : Planning). IfOk c.tell_clocks.result (λ verdict. Scripts m p.plan script (readied_of c.tell_clocks.new.draft verdict))) c.write_script.ensures.plan c.tell_clocks.ensures.scripts)
