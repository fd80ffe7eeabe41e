use Rattle.std.proofs.Common.{◌≡◌, ◌-◌, ◌^◌, ◌∙◌, List, true, false, sym, ap, arith, min}
use Rattle.std.specs.Prelude.{sum_by}
use Rattle.std.proofs.lemmas.Result.{on_ok_weaker}
use Rattle.clk_base.specs.declared.call.Micro.{Micro}
use Rattle.clk_base.specs.declared.call.Sleeping.TheVariants.{Probe}
use Rattle.clk_base.specs.declared.event.Errno.TheVariants.{EEXIST, ENOSPC}
use Rattle.clk_base.specs.declared.event.Reply.TheVariants.{Refused, Fine}
use Rattle.clk_base.specs.Places.{places}
use Rattle.clk_flight.specs.LeftOver.{step_weight}
use Rattle.clk_model.specs.declared.row.ClockRow.{ClockRow}
use Rattle.clk_model.specs.Script.{plls}
use Rattle.clk_model.specs.State.{registered}
use Rattle.clk_model.proofs.EventLaws.{probe-twice}
use Rattle.core_parts.specs.Listed.{rows_from}
use Rattle.clk_machine.proofs.Flying.{quiet_stands}
use Rattle.clk_machine.proofs.Probing.{may_probe, probe_calm, probe_refused}
use Rattle.clk_machine.proofs.SettingOut.{can_probe, never_paid, never_poor}
use Rattle.clk_machine.proofs.Starting.{room_told}
use Rattle.clk_machine.proofs.machine.Machine.ready_probe.Goals as goal

pub returns-then-is_registered-clause-never : goal.returns-then-is_registered-clause-never
returns-then-is_registered-clause-never g c = λ off s t stands sound step.
    let there : registered c.args.self.now.tree.clocks c.args.clock.0 ≡ true = sym c.is_registered.ensures ∙ c.if-is_registered.true in
    never_paid s t _ c.args.driver (Probe c.args.clock) (Refused EEXIST)
    (probe-twice s c.args.driver c.args.clock (quiet_stands c.args.self.now s stands c.requires.machine) (ap (λ (rs : List ClockRow). registered rs c.args.clock.0) stands.clocks ∙ there)) step

pub returns-then-credits_left-eq0-clause-never : goal.returns-then-credits_left-eq0-clause-never
returns-then-credits_left-eq0-clause-never g c = λ off. never_poor c.args.self.now c.args.driver (Probe c.args.clock) (let left = c.credits_left.ensures in let none = c.if-credits_left-eq0.true in omega arith)

pub returns-then-not-goes_on-clause-never : goal.returns-then-not-goes_on-clause-never
returns-then-not-goes_on-clause-never g c = λ off s t stands sound step.
    let free : registered c.args.self.now.tree.clocks c.args.clock.0 ≡ false = sym c.is_registered.ensures ∙ c.if-is_registered.false in
    never_paid s t _ c.args.driver (Probe c.args.clock) Fine
    (probe_calm s c.args.driver c.args.clock (may_probe c.args.self.now s c.args.clock stands c.requires.machine free)
    (sym (c.goes_on.ensures.told s stands sound (ap places c.as_slice.ensures.value ∙ c.in_ok-orphans.ensures.told s stands)) ∙ c.if-not-goes_on.true)) step

pub returns-then-not-fits-clause-never : goal.returns-then-not-fits-clause-never
returns-then-not-fits-clause-never g c = λ off s t stands sound step.
    let free : registered c.args.self.now.tree.clocks c.args.clock.0 ≡ false = sym c.is_registered.ensures ∙ c.if-is_registered.false in
    let adopts = c.in_ok-orphans.ensures.told s stands in
    never_paid s t _ c.args.driver (Probe c.args.clock) (Refused ENOSPC)
    (probe_refused c.args.self.now s c.args.driver c.args.clock (places c.as_slice-2.result.now) c.in_ok-steps.steps.items c.used.result c.weigh-weight.result stands
    (may_probe c.args.self.now s c.args.clock stands c.requires.machine free) (sym (c.goes_on.ensures.told s stands sound (ap places c.as_slice.ensures.value ∙ adopts)) ∙ c.if-not-goes_on.false) c.in_ok-steps.ensures
    (c.in_ok-steps.ensures.told s stands sound (ap places c.as_slice-2.ensures.value ∙ adopts)) c.used.ensures
    (c.weigh-weight.ensures ∙ ap (λ (ms : List Micro). min (sum_by (step_weight (rows_from 0 c.args.self.now.chains) (plls c.args.self.now.desc.defs)) ms) (2 ^ 64 - 1)) c.as_slice-3.ensures.value)
    (sym c.fits.ensures ∙ c.if-not-fits.true)) step

pub returns-clause-ready : goal.returns-clause-ready
returns-clause-ready g c =
    on_ok_weaker c.fly.result
    (λ sets on. can_probe c.args.self.now c.args.driver c.args.clock (places c.as_slice-2.result.now) c.in_ok-steps.steps.items c.fly.new.flight c.goes_on.ensures.whole c.requires.machine
    (let left = c.credits_left.ensures in let some = c.if-credits_left-eq0.false in omega arith) c.requires.place (sym c.is_registered.ensures ∙ c.if-is_registered.false)
    (λ s stands. ap places c.as_slice-2.ensures.value ∙ c.in_ok-orphans.ensures.told s stands)
    (λ s stands sound. sym (c.goes_on.ensures.told s stands sound (ap places c.as_slice.ensures.value ∙ c.in_ok-orphans.ensures.told s stands)) ∙ c.if-not-goes_on.false) c.in_ok-steps.ensures
    (let used = c.used.ensures in
    let room = room_told _ (sym c.if-not-fits.false ∙ c.fits.ensures) in
    let weighs = c.weigh-weight.ensures ∙ ap (λ (ms : List Micro). min (sum_by (step_weight (rows_from 0 c.args.self.now.chains) (plls c.args.self.now.desc.defs)) ms) (2 ^ 64 - 1)) c.as_slice-3.ensures.value in
    omega arith) sets) c.fly.ensures.ok
