use Rattle.std.proofs.Common.{◌≡◌, ◌-◌, ◌^◌, ◌∙◌, List, true, false, refl, sym, ap, arith, min}
use Rattle.std.specs.Prelude.{sum_by}
use Rattle.clk_base.specs.declared.call.Micro.{Micro}
use Rattle.clk_base.specs.declared.call.Sleeping.TheVariants.{Probe}
use Rattle.clk_base.specs.declared.event.Errno.TheVariants.{EEXIST, ENOSPC}
use Rattle.clk_base.specs.declared.event.Event.TheVariants.{Begin}
use Rattle.clk_base.specs.declared.event.Reply.TheVariants.{Refused}
use Rattle.clk_model.specs.declared.row.ClockRow.{ClockRow}
use Rattle.clk_base.specs.Places.{places}
use Rattle.clk_model.specs.Script.{plls}
use Rattle.clk_model.specs.State.{registered}
use Rattle.clk_model.proofs.EventLaws.{probe-twice}
use Rattle.clk_flight.specs.LeftOver.{step_weight}
use Rattle.clk_machine.specs.Holding.{stays}
use Rattle.core_parts.specs.Listed.{rows_from}
use Rattle.clk_machine.proofs.Entered.{enters}
use Rattle.clk_machine.proofs.Flying.{quiet_stands}
use Rattle.clk_machine.proofs.Probing.{may_probe, probe_refused, probe_links, probe_script_is, enters_probe}
use Rattle.clk_machine.proofs.Starting.{room_told}
use Rattle.clk_machine.proofs.machine.Machine.begin_probe.Goals as goal

pub returns-then-is_registered-clause-ok : goal.returns-then-is_registered-clause-ok
returns-then-is_registered-clause-ok g c =
    let there : registered c.args.self.now.tree.clocks c.args.clock.0 ≡ true = sym c.is_registered.ensures ∙ c.if-is_registered.true in
    enters c.args.self.now c.spend.new.self c.args.driver (Begin (Probe c.args.clock)) (Refused EEXIST) stays refl c.requires.quiet c.requires.credit c.spend.ensures
    (λ s stands sound. probe-twice s c.args.driver c.args.clock (quiet_stands c.args.self.now s stands c.requires.quiet) (ap (λ (rs : List ClockRow). registered rs c.args.clock.0) stands.clocks ∙ there))

pub returns-then-not-fits-clause-ok : goal.returns-then-not-fits-clause-ok
returns-then-not-fits-clause-ok g c =
    let free : registered c.args.self.now.tree.clocks c.args.clock.0 ≡ false = sym c.is_registered.ensures ∙ c.if-is_registered.false in
    enters c.args.self.now c.spend-then-not-fits.new.self c.args.driver (Begin (Probe c.args.clock)) (Refused ENOSPC) stays refl c.requires.quiet c.requires.credit c.spend-then-not-fits.ensures
    (λ s stands sound.
    let adopts = c.in_ok-orphans.ensures.told s stands in
    probe_refused c.args.self.now s c.args.driver c.args.clock (places c.as_slice-2.result.now) c.in_ok-steps.steps.items c.used.result c.weigh-weight.result stands
    (may_probe c.args.self.now s c.args.clock stands c.requires.quiet free) (sym (c.goes_on.ensures.told s stands sound (ap places c.as_slice.ensures.value ∙ adopts)) ∙ c.if-not-goes_on.false) c.in_ok-steps.ensures
    (c.in_ok-steps.ensures.told s stands sound (ap places c.as_slice-2.ensures.value ∙ adopts)) c.used.ensures
    (c.weigh-weight.ensures ∙ ap (λ (ms : List Micro). min (sum_by (step_weight (rows_from 0 c.args.self.now.chains) (plls c.args.self.now.desc.defs)) ms) (2 ^ 64 - 1)) c.as_slice-3.ensures.value)
    (sym c.fits.ensures ∙ c.if-not-fits.true))

pub start_probe-requires-clause-script : goal.start_probe-requires-clause-script
start_probe-requires-clause-script g c = probe_script_is c.args.self.now c.args.clock (places c.as_slice-2.result.now) c.in_ok-steps.steps.items c.in_ok-steps.ensures

pub start_probe-requires-clause-links : goal.start_probe-requires-clause-links
start_probe-requires-clause-links g c =
    probe_links c.args.self.now c.args.clock (places c.as_slice-2.result.now) c.in_ok-steps.steps.items c.in_ok-steps.ensures c.requires.place (sym c.is_registered.ensures ∙ c.if-is_registered.false)

pub returns-clause-ok : goal.returns-clause-ok
returns-clause-ok g c =
    enters_probe c.args.self.now c.start_probe.new.self c.args.driver c.args.clock (places c.as_slice-2.result.now) c.in_ok-steps.steps.items c.requires.quiet c.requires.credit (sym c.is_registered.ensures ∙ c.if-is_registered.false)
    (λ s stands. ap places c.as_slice-2.ensures.value ∙ c.in_ok-orphans.ensures.told s stands)
    (λ s stands sound. sym (c.goes_on.ensures.told s stands sound (ap places c.as_slice.ensures.value ∙ c.in_ok-orphans.ensures.told s stands)) ∙ c.if-not-goes_on.false) c.in_ok-steps.ensures
    (let used = c.used.ensures in
    let room = room_told _ (sym c.if-not-fits.false ∙ c.fits.ensures) in
    let weighs = c.weigh-weight.ensures ∙ ap (λ (ms : List Micro). min (sum_by (step_weight (rows_from 0 c.args.self.now.chains) (plls c.args.self.now.desc.defs)) ms) (2 ^ 64 - 1)) c.as_slice-3.ensures.value in
    omega arith) c.in_ok-start_probe.ensures.ok
