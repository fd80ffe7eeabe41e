use Rattle.std.proofs.Common.{ℕ, ◌-◌, ◌^◌, ◌∙◌, List, refl, sym, ap, arith, min}
use Rattle.std.specs.Prelude.{sum_by}
use Rattle.clk_base.specs.declared.call.Micro.{Micro}
use Rattle.clk_model.specs.Script.{plls}
use Rattle.clk_flight.specs.LeftOver.{step_weight}
use Rattle.core_parts.specs.Listed.{rows_from}
use Rattle.clk_base.specs.declared.call.Sleeping.TheVariants.{Sweep}
use Rattle.clk_base.specs.declared.event.Errno.TheVariants.{ENOSPC}
use Rattle.clk_base.specs.declared.event.Event.TheVariants.{Begin}
use Rattle.clk_base.specs.declared.event.Reply.TheVariants.{Refused, Fine}
use Rattle.clk_machine.specs.Holding.{stays}
use Rattle.clk_machine.specs.Parts.{Parts}
use Rattle.clk_machine.proofs.Entered.{enters}
use Rattle.clk_machine.proofs.Flying.{quiet_stands}
use Rattle.clk_machine.proofs.Starting.{room_told}
use Rattle.clk_machine.proofs.Sweeping.{sweep_off, sweep_refused, sweep_left, enters_sweep}
use Rattle.clk_machine.proofs.machine.Machine.begin_sweep.Goals as goal

pub returns-then-self-clause-ok : goal.returns-then-self-clause-ok
returns-then-self-clause-ok g c =
    enters c.args.self.now c.spend.new.self c.args.driver (Begin Sweep) Fine stays refl c.requires.quiet c.requires.credit c.spend.ensures
    (λ s stands sound. sweep_off s c.args.driver (quiet_stands c.args.self.now s stands c.requires.quiet) (stands.ignore_unused ∙ ap (λ (q : Parts). q.ignore_unused) (sym c.self.view_is) ∙ c.if-self.true))

pub returns-then-not-fits-clause-ok : goal.returns-then-not-fits-clause-ok
returns-then-not-fits-clause-ok g c =
    enters c.args.self.now c.spend-then-not-fits.new.self c.args.driver (Begin Sweep) (Refused ENOSPC) stays refl c.requires.quiet c.requires.credit c.spend-then-not-fits.ensures
    (λ s stands sound. sweep_refused c.args.self.now s c.args.driver c.in_ok-steps.steps.items c.used.result c.weigh-weight.result stands (quiet_stands c.args.self.now s stands c.requires.quiet)
    (ap (λ (q : Parts). q.ignore_unused) (sym c.self.view_is) ∙ c.if-self.false) (c.in_ok-steps.ensures.told s stands) c.used.ensures
    (c.weigh-weight.ensures ∙ ap (λ (ms : List Micro). min (sum_by (step_weight (rows_from 0 c.args.self.now.chains) (plls c.args.self.now.desc.defs)) ms) (2 ^ 64 - 1)) c.as_slice.ensures.value)
    (sym c.fits.ensures ∙ c.if-not-fits.true))

pub start_sweep-requires-clause-room : goal.start_sweep-requires-clause-room
start_sweep-requires-clause-room g c =
    let used = c.used.ensures in
    let room = room_told _ (sym c.if-not-fits.false ∙ c.fits.ensures) in
    let weighs = c.weigh-weight.ensures ∙ ap (λ (ms : List Micro). min (sum_by (step_weight (rows_from 0 c.args.self.now.chains) (plls c.args.self.now.desc.defs)) ms) (2 ^ 64 - 1)) c.as_slice.ensures.value in
    omega arith

pub returns-clause-ok : goal.returns-clause-ok
returns-clause-ok g c =
    enters_sweep c.args.self.now c.start_sweep.new.self c.args.driver c.in_ok-steps.steps.items c.requires.quiet (ap (λ (q : Parts). q.ignore_unused) (sym c.self.view_is) ∙ c.if-self.false) c.requires.credit
    c.in_ok-steps.ensures.told
    (let used = c.used.ensures in
    let room = room_told _ (sym c.if-not-fits.false ∙ c.fits.ensures) in
    let weighs = c.weigh-weight.ensures ∙ ap (λ (ms : List Micro). min (sum_by (step_weight (rows_from 0 c.args.self.now.chains) (plls c.args.self.now.desc.defs)) ms) (2 ^ 64 - 1)) c.as_slice.ensures.value in
    omega arith)
    c.in_ok-start_sweep.ensures.ok

pub returns-clause-room : goal.returns-clause-room
returns-clause-room g c = λ goes.
    let left = sweep_left c.args.self.now c.start_sweep.new.self c.args.driver c.in_ok-steps.steps.items c.in_ok-start_sweep.ensures.ok in
    let credits = c.credits_left.ensures in
    let room = c.in_ok-make_room.ensures.room in
    let weighs = c.weigh-weight.ensures ∙ ap (λ (ms : List Micro). min (sum_by (step_weight (rows_from 0 c.args.self.now.chains) (plls c.args.self.now.desc.defs)) ms) (2 ^ 64 - 1)) c.as_slice.ensures.value in
    let fit = room_told _ (sym c.if-not-fits.false ∙ c.fits.ensures) in
    omega arith
