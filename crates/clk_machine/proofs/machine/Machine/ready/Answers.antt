use Rattle.std.proofs.Common.{subst}
use Rattle.std.proofs.lemmas.Result.{IfOk-weaker}
use Rattle.core_parts.specs.declared.decision.Verdict.{Verdict}
use Rattle.core_parts.specs.Decisions.{AtOnce, Change, Refused, decision_of}
use Rattle.clk_machine.specs.Deciding.{ArePlannedOver, Decided, IsOwned}
use Rattle.clk_machine.specs.Parts.{Parts}
use Rattle.clk_machine.specs.Readied.{readied_of}
use Rattle.clk_machine.proofs.Readying.{ready_refused, ready_scripted, can_scripted}
use Rattle.clk_machine.specs.ChangeCalls.{call_of}
use Rattle.clk_machine.proofs.ChangeCalls.{changes_of}
use Rattle.clk_machine.proofs.machine.Machine.ready.Goals as goal

pub returns-in-Refused-clause-ready : goal.returns-in-Refused-clause-ready
returns-in-Refused-clause-ready g c =
    let m : Parts = c.args.self.now in
    let decided_ : Decided m c.args.driver (call_of c.args.change) (Refused c.in-Refused.errno) = subst (λ (v : Verdict). Decided m c.args.driver (call_of c.args.change) (decision_of c.decide.new.draft v)) c.in-Refused.is c.in_ok-verdict.ensures.decides in
    ready_refused m c.args.driver (call_of c.args.change) c.in-Refused.errno c.requires.quiet decided_

pub returns-in-AtOnce-clause-ready : goal.returns-in-AtOnce-clause-ready
returns-in-AtOnce-clause-ready g c =
    let m : Parts = c.args.self.now in
    let decided_ : Decided m c.args.driver (call_of c.args.change) AtOnce = subst (λ (v : Verdict). Decided m c.args.driver (call_of c.args.change) (decision_of c.decide.new.draft v)) c.in-AtOnce.is c.in_ok-verdict.ensures.decides in
    decided_

pub returns-in-AtOnce-clause-can : goal.returns-in-AtOnce-clause-can
returns-in-AtOnce-clause-can g c =
    let m : Parts = c.args.self.now in
    let own : IsOwned m.table.handles c.args.driver (call_of c.args.change) AtOnce = subst (λ (v : Verdict). IsOwned m.table.handles c.args.driver (call_of c.args.change) (decision_of c.decide.new.draft v)) c.in-AtOnce.is c.in_ok-verdict.ensures.own in
    own

pub returns-in-Change-clause-ready : goal.returns-in-Change-clause-ready
returns-in-Change-clause-ready g c =
    let m : Parts = c.args.self.now in
    let draft = c.decide.new.draft in
    let plan = draft.planning.plan in
    let script = draft.script in
    let decided_ : Decided m c.args.driver (call_of c.args.change) (Change plan script) = subst (λ (v : Verdict). Decided m c.args.driver (call_of c.args.change) (decision_of draft v)) c.in-Change.is c.in_ok-verdict.ensures.decides in
    let there : ArePlannedOver m (call_of c.args.change) (Change plan script) = subst (λ (v : Verdict). ArePlannedOver m (call_of c.args.change) (decision_of draft v)) c.in-Change.is c.in_ok-verdict.ensures.there in
    IfOk-weaker c.tell_clocks.result _ _ (λ verdict scripts. ready_scripted m c.args.driver (call_of c.args.change) plan script (readied_of c.tell_clocks.new.draft verdict) c.tell_clocks.ensures.whole c.requires.quiet (changes_of c.args.change) c.requires.credit there decided_ scripts)
    c.tell_clocks.ensures.scripts

pub returns-in-Change-clause-can : goal.returns-in-Change-clause-can
returns-in-Change-clause-can g c =
    let m : Parts = c.args.self.now in
    let draft = c.decide.new.draft in
    let plan = draft.planning.plan in
    let script = draft.script in
    let there : ArePlannedOver m (call_of c.args.change) (Change plan script) = subst (λ (v : Verdict). ArePlannedOver m (call_of c.args.change) (decision_of draft v)) c.in-Change.is c.in_ok-verdict.ensures.there in
    let own : IsOwned m.table.handles c.args.driver (call_of c.args.change) (Change plan script) = subst (λ (v : Verdict). IsOwned m.table.handles c.args.driver (call_of c.args.change) (decision_of draft v)) c.in-Change.is c.in_ok-verdict.ensures.own in
    IfOk-weaker c.tell_clocks.result _ _ (λ verdict scripts. can_scripted m c.args.driver (call_of c.args.change) plan script (readied_of c.tell_clocks.new.draft verdict) c.tell_clocks.ensures.whole (changes_of c.args.change) there own scripts)
    c.tell_clocks.ensures.scripts
