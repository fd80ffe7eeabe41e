use Rattle.std.proofs.Common.{◌≡◌, true, false, Some, refl, sym, ap, subst}
use Rattle.clk_base.specs.declared.call.Micro.TheVariants as micro
use Rattle.clk_base.specs.declared.clock.ClockDef.{ClockDef}
use Rattle.clk_flight.specs.Flights.{own_step}
use Rattle.clk_machine.specs.Making.{ComesFirst}
use Rattle.clk_machine.specs.Parts.{Parts, parts_of}
use Rattle.core_parts.proofs.Moving.{clock_within}
use Rattle.core_parts.proofs.Powering.{tied_powered, told_put}
use Rattle.clk_machine.proofs.Raising.{power_made}
use Rattle.clk_machine.proofs.Sweeping.{Switched, clock_switched, power_there, unpowers_pll, whole_switched, switch_enters}
use Rattle.core_parts.specs.Tied.{desc_of}
use Rattle.clk_machine.proofs.machine.Machine.unpower.Goals as goal

pub def-requires : goal.def-requires
def-requires g c =
    let m = c.self.inside in
    let p : Parts = parts_of m.window m.tree m.handles m.counts m.notifiers m.credits m.spent m.ignore_unused m.flight m.course m.prepare_holds m.enable_holds m.steps in
    let going : p.flight.going ≡ true = subst (λ (q : Parts). q.flight.going ≡ true) (sym c.self.view_is) c.requires.going in
    let own : own_step p.flight ≡ Some (micro.Unpower c.args.clock) = subst (λ (q : Parts). own_step q.flight ≡ Some (micro.Unpower c.args.clock)) (sym c.self.view_is) c.requires.next in
    let there = clock_switched p (micro.Unpower c.args.clock) c.args.clock.0 (λ what there. refl) refl c.self.invariant going own in
    record { place = clock_within (desc_of m.tree) m.window m.tree c.args.clock.0 c.self.invariant.tied there }

pub set_power-requires : goal.set_power-requires
set_power-requires g c =
    let m = c.self.inside in
    let p : Parts = parts_of m.window m.tree m.handles m.counts m.notifiers m.credits m.spent m.ignore_unused m.flight m.course m.prepare_holds m.enable_holds m.steps in
    let going : p.flight.going ≡ true = subst (λ (q : Parts). q.flight.going ≡ true) (sym c.self.view_is) c.requires.going in
    let own : own_step p.flight ≡ Some (micro.Unpower c.args.clock) = subst (λ (q : Parts). own_step q.flight ≡ Some (micro.Unpower c.args.clock)) (sym c.self.view_is) c.requires.next in
    let there = clock_switched p (micro.Unpower c.args.clock) c.args.clock.0 (λ what there. refl) refl c.self.invariant going own in
    power_there p c.def.result.now.kind c.args.clock.0 c.self.invariant there (ap (λ (d : ClockDef). d.kind) c.def.ensures.def)

pub invariant_of-self : goal.invariant_of-self
invariant_of-self g c =
    let m = c.self.inside in
    let p : Parts = parts_of m.window m.tree m.handles m.counts m.notifiers m.credits m.spent m.ignore_unused m.flight m.course m.prepare_holds m.enable_holds m.steps in
    let going : p.flight.going ≡ true = subst (λ (q : Parts). q.flight.going ≡ true) (sym c.self.view_is) c.requires.going in
    let own : own_step p.flight ≡ Some (micro.Unpower c.args.clock) = subst (λ (q : Parts). own_step q.flight ≡ Some (micro.Unpower c.args.clock)) (sym c.self.view_is) c.requires.next in
    let there = clock_switched p (micro.Unpower c.args.clock) c.args.clock.0 (λ what there. refl) refl c.self.invariant going own in
    let first : ComesFirst p (micro.Unpower c.args.clock) = subst (λ (q : Parts). ComesFirst q (micro.Unpower c.args.clock)) (sym c.self.view_is) c.requires.first in
    let words = power_made m.tree.defs c.def.result.now.kind c.args.clock.0 false m.window.words c.set_power.new.window.words (ap (λ (d : ClockDef). d.kind) c.def.ensures.def) c.set_power.ensures.words in
    let now : Switched p (micro.Unpower c.args.clock) c.set_power.new.window c.go_on.new.self = record {
      whole = c.self.invariant;
      going = going;
      is = refl;
      own = own;
      first = first;
      size = c.set_power.ensures.size;
      told = told_put m.tree.defs c.args.clock.0 false m.window.words c.set_power.new.window.words words;
      behind = c.set_power.ensures.behind;
      locks = c.set_power.ensures.locks;
      tied = tied_powered (desc_of m.tree) m.window c.set_power.new.window m.tree c.args.clock.0 false c.self.invariant.tied (clock_within (desc_of m.tree) m.window m.tree c.args.clock.0 c.self.invariant.tied there) c.set_power.ensures.size words;
      flight = c.go_on.ensures.flight;
      change = c.go_on.ensures.change;
      less = c.go_on.ensures.less;
    } in
    whole_switched p (micro.Unpower c.args.clock) c.set_power.new.window c.go_on.new.self now

pub returns : goal.returns
returns g c =
    let m = c.self.inside in
    let p : Parts = parts_of m.window m.tree m.handles m.counts m.notifiers m.credits m.spent m.ignore_unused m.flight m.course m.prepare_holds m.enable_holds m.steps in
    let going : p.flight.going ≡ true = subst (λ (q : Parts). q.flight.going ≡ true) (sym c.self.view_is) c.requires.going in
    let own : own_step p.flight ≡ Some (micro.Unpower c.args.clock) = subst (λ (q : Parts). own_step q.flight ≡ Some (micro.Unpower c.args.clock)) (sym c.self.view_is) c.requires.next in
    let there = clock_switched p (micro.Unpower c.args.clock) c.args.clock.0 (λ what there. refl) refl c.self.invariant going own in
    let first : ComesFirst p (micro.Unpower c.args.clock) = subst (λ (q : Parts). ComesFirst q (micro.Unpower c.args.clock)) (sym c.self.view_is) c.requires.first in
    let words = power_made m.tree.defs c.def.result.now.kind c.args.clock.0 false m.window.words c.set_power.new.window.words (ap (λ (d : ClockDef). d.kind) c.def.ensures.def) c.set_power.ensures.words in
    let now : Switched p (micro.Unpower c.args.clock) c.set_power.new.window c.go_on.new.self = record {
      whole = c.self.invariant;
      going = going;
      is = refl;
      own = own;
      first = first;
      size = c.set_power.ensures.size;
      told = told_put m.tree.defs c.args.clock.0 false m.window.words c.set_power.new.window.words words;
      behind = c.set_power.ensures.behind;
      locks = c.set_power.ensures.locks;
      tied = tied_powered (desc_of m.tree) m.window c.set_power.new.window m.tree c.args.clock.0 false c.self.invariant.tied (clock_within (desc_of m.tree) m.window m.tree c.args.clock.0 c.self.invariant.tied there) c.set_power.ensures.size words;
      flight = c.go_on.ensures.flight;
      change = c.go_on.ensures.change;
      less = c.go_on.ensures.less;
    } in
    rw (← c.self.view_is) (switch_enters p (micro.Unpower c.args.clock) c.set_power.new.window c.go_on.new.self now (unpowers_pll p c.args.clock c.set_power.new.window words))
