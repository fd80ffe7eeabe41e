use Rattle.std.proofs.Common.{◌≡◌, ◌+◌, ◌∙◌, List, Option, true, Some, sym, ap, subst, reverse}
use Rattle.clk_base.specs.declared.call.Micro.TheVariants as micro
use Rattle.clk_base.specs.declared.clock.ClockDef.{ClockDef}
use Rattle.clk_model.specs.State.{registered}
use Rattle.clk_model.specs.Tree.{path_to_be}
use Rattle.clk_flight.specs.Flights.{FlightState, own_step}
use Rattle.core_parts.specs.InFlight.{is_near, IsUnderWay}
use Rattle.clk_machine.specs.Making.{ComesFirst}
use Rattle.core_parts.specs.Listed.{rows_from}
use Rattle.clk_machine.specs.Parts.{Parts, parts_of}
use Rattle.core_parts.specs.Plls.{raisable, Finds}
use Rattle.core_parts.proofs.StepsInFlight.{under_way-raised}
use Rattle.core_parts.proofs.Keeping.{along-raised}
use Rattle.core_parts.proofs.SameCall.{SameCall, KeepsAlong, same_raised}
use Rattle.clk_machine.proofs.Making.{near_within, whole_stepped}
use Rattle.core_parts.proofs.Powering.{tied_powered}
use Rattle.clk_machine.proofs.Raising.{known_pll, power_lies, power_made, raise_enters}
use Rattle.std.specs.Option.{option_map}
use Rattle.std.specs.Prelude.{IfSome}
use Rattle.reg_bank.specs.Locks.{started}
use Rattle.reg_bank.specs.declared.pll_lock.PllLock.{PllLock}
use Rattle.core_parts.specs.Window.{lock_in}
use Rattle.clk_machine.proofs.Polling.{starts_raised}
use Rattle.core_parts.specs.Tied.{desc_of}
use Rattle.clk_machine.proofs.machine.Machine.power_up.Goals as goal

pub def-requires : goal.def-requires
def-requires g c =
    let m = c.self.inside in
    let p : Parts = parts_of m.window m.tree m.handles m.counts m.notifiers m.credits m.spent m.ignore_unused m.flight m.course m.prepare_holds m.enable_holds m.steps in
    let going : p.flight.going ≡ true = subst (λ (q : Parts). q.flight.going ≡ true) (sym c.self.view_is) c.requires.going in
    let near : is_near p.flight.call (registered p.tree.clocks) c.args.pll.0 ≡ true = subst (λ (q : Parts). is_near q.flight.call (registered q.tree.clocks) c.args.pll.0 ≡ true) (sym c.self.view_is) c.requires.near in
    let place = near_within p c.args.pll.0 c.self.invariant going near in
    record { place = place }

pub set_power-requires : goal.set_power-requires
set_power-requires g c =
    let m = c.self.inside in
    let p : Parts = parts_of m.window m.tree m.handles m.counts m.notifiers m.credits m.spent m.ignore_unused m.flight m.course m.prepare_holds m.enable_holds m.steps in
    let going : p.flight.going ≡ true = subst (λ (q : Parts). q.flight.going ≡ true) (sym c.self.view_is) c.requires.going in
    let near : is_near p.flight.call (registered p.tree.clocks) c.args.pll.0 ≡ true = subst (λ (q : Parts). is_near q.flight.call (registered q.tree.clocks) c.args.pll.0 ≡ true) (sym c.self.view_is) c.requires.near in
    let place = near_within p c.args.pll.0 c.self.invariant going near in
    power_lies p c.def.result.now.kind c.args.pll.0 c.self.invariant place (ap (λ (d : ClockDef). d.kind) c.def.ensures.def)

pub start-requires : goal.start-requires
start-requires g c =
    let m = c.self.inside in
    let p : Parts = parts_of m.window m.tree m.handles m.counts m.notifiers m.credits m.spent m.ignore_unused m.flight m.course m.prepare_holds m.enable_holds m.steps in
    let going : p.flight.going ≡ true = subst (λ (q : Parts). q.flight.going ≡ true) (sym c.self.view_is) c.requires.going in
    let near : is_near p.flight.call (registered p.tree.clocks) c.args.pll.0 ≡ true = subst (λ (q : Parts). is_near q.flight.call (registered q.tree.clocks) c.args.pll.0 ≡ true) (sym c.self.view_is) c.requires.near in
    let place = near_within p c.args.pll.0 c.self.invariant going near in
    known_pll p c.args.pll.0 c.self.invariant place

pub invariant_of-self : goal.invariant_of-self
invariant_of-self g c =
    let m = c.self.inside in
    let p : Parts = parts_of m.window m.tree m.handles m.counts m.notifiers m.credits m.spent m.ignore_unused m.flight m.course m.prepare_holds m.enable_holds m.steps in
    let going : p.flight.going ≡ true = subst (λ (q : Parts). q.flight.going ≡ true) (sym c.self.view_is) c.requires.going in
    let own : own_step p.flight ≡ Some (micro.Raise c.args.clock) = subst (λ (q : Parts). own_step q.flight ≡ Some (micro.Raise c.args.clock)) (sym c.self.view_is) c.requires.next in
    let near : is_near p.flight.call (registered p.tree.clocks) c.args.pll.0 ≡ true = subst (λ (q : Parts). is_near q.flight.call (registered q.tree.clocks) c.args.pll.0 ≡ true) (sym c.self.view_is) c.requires.near in
    let place = near_within p c.args.pll.0 c.self.invariant going near in
    whole_stepped p c.start.new.self c.raise.new.self c.self.invariant
    (tied_powered (desc_of m.tree) m.window c.start.new.self m.tree c.args.pll.0 true c.self.invariant.tied place (c.start.ensures.size ∙ c.set_power.ensures.size)
    (c.start.ensures.words ∙ power_made m.tree.defs c.def.result.now.kind c.args.pll.0 true m.window.words c.set_power.new.window.words (ap (λ (d : ClockDef). d.kind) c.def.ensures.def) c.set_power.ensures.words))
    going (subst (λ (f : FlightState). KeepsAlong m.flight f) (sym c.raise.ensures.flight) (along-raised m.flight (registered m.tree.clocks) c.args.clock c.args.pll c.args.more own (c.self.invariant.flown going).way)) (subst (λ (f : FlightState). SameCall m.flight f) (sym c.raise.ensures.flight) (same_raised m.flight c.args.clock c.args.pll c.args.more))
    (subst (λ (f : FlightState). IsUnderWay (registered m.tree.clocks) f) (sym c.raise.ensures.flight) (under_way-raised m.flight (registered m.tree.clocks) c.args.clock c.args.pll c.args.more own near (c.self.invariant.flown going).way))
    (c.raise.ensures.less (rows_from 0 m.notifiers))

pub returns-clause-enters : goal.returns-clause-enters
returns-clause-enters g c =
    let m = c.self.inside in
    let p : Parts = parts_of m.window m.tree m.handles m.counts m.notifiers m.credits m.spent m.ignore_unused m.flight m.course m.prepare_holds m.enable_holds m.steps in
    let going : p.flight.going ≡ true = subst (λ (q : Parts). q.flight.going ≡ true) (sym c.self.view_is) c.requires.going in
    let own : own_step p.flight ≡ Some (micro.Raise c.args.clock) = subst (λ (q : Parts). own_step q.flight ≡ Some (micro.Raise c.args.clock)) (sym c.self.view_is) c.requires.next in
    let first : ComesFirst p (micro.Raise c.args.clock) = subst (λ (q : Parts). ComesFirst q (micro.Raise c.args.clock)) (sym c.self.view_is) c.requires.first in
    let found : IfSome p.window.words (λ regs. Finds (record { pll = Some c.args.pll; more = c.args.more }) (reverse (raisable p.desc.defs p.counts p.flight.raised (path_to_be p.desc.defs regs p.tree.clocks c.args.clock.0)))) =
    subst (λ (q : Parts). IfSome q.window.words (λ regs. Finds (record { pll = Some c.args.pll; more = c.args.more }) (reverse (raisable q.desc.defs q.counts q.flight.raised (path_to_be q.desc.defs regs q.tree.clocks c.args.clock.0))))) (sym c.self.view_is) c.requires.found in
    rw (← c.self.view_is) (raise_enters p c.args.clock c.args.pll c.args.more c.start.new.self c.raise.new.self (record {
      whole = c.self.invariant;
      going = going;
      own = own;
      first = first;
      found = found;
      size = c.start.ensures.size ∙ c.set_power.ensures.size;
      words = c.start.ensures.words ∙ power_made m.tree.defs c.def.result.now.kind c.args.pll.0 true m.window.words c.set_power.new.window.words (ap (λ (d : ClockDef). d.kind) c.def.ensures.def) c.set_power.ensures.words;
      behind = c.start.ensures.behind ∙ c.set_power.ensures.behind;
      flight = c.raise.ensures.flight;
      change = c.raise.ensures.change;
      less = c.raise.ensures.less;
    }))

pub returns-clause-starts : goal.returns-clause-starts
returns-clause-starts g c =
    let m = c.self.inside in
    let p : Parts = parts_of m.window m.tree m.handles m.counts m.notifiers m.credits m.spent m.ignore_unused m.flight m.course m.prepare_holds m.enable_holds m.steps in
    rw (← c.self.view_is)
    (starts_raised p (parts_of c.start.new.self m.tree m.handles m.counts m.notifiers m.credits m.spent m.ignore_unused c.raise.new.self m.course m.prepare_holds m.enable_holds (m.steps + 1)) c.args.clock c.args.pll c.args.more c.raise.ensures.flight
    (c.start.ensures.lock ∙ ap (λ (locks : List (Option PllLock)). option_map started (lock_in locks c.args.pll.0)) c.set_power.ensures.locks))
