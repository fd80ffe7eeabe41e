use Rattle.std.proofs.Common.{◌≡◌, ◌<◌, true, Some, refl, sym, ap, subst, length}
use Rattle.clk_base.specs.declared.call.Micro.TheVariants as micro
use Rattle.clk_base.specs.declared.clock.ClockDef.{ClockDef}
use Rattle.clk_flight.specs.Flights.{own_step}
use Rattle.clk_machine.specs.Making.{ComesFirst}
use Rattle.clk_machine.specs.Parts.{Parts, parts_of}
use Rattle.clk_machine.specs.Stands.{Stands}
use Rattle.core_parts.proofs.Moving.{clock_within}
use Rattle.clk_machine.proofs.Sweeping.{Switched, clock_switched, gate_there, tied_gate, told_gate, closes_gate, whole_switched, switch_enters}
use Rattle.core_parts.specs.Tied.{desc_of}
use Rattle.clk_machine.proofs.machine.Machine.close.Goals as goal

pub is_active-active-requires : goal.is_active-active-requires
is_active-active-requires g c =
    let m = c.self.inside in
    let p : Parts = parts_of m.window m.tree m.handles m.counts m.notifiers m.credits m.spent m.ignore_unused m.flight m.course m.prepare_holds m.enable_holds m.steps in
    let going : p.flight.going ≡ true = subst (λ (q : Parts). q.flight.going ≡ true) (sym c.self.view_is) c.requires.going in
    let own : own_step p.flight ≡ Some (micro.Close c.args.clock) = subst (λ (q : Parts). own_step q.flight ≡ Some (micro.Close c.args.clock)) (sym c.self.view_is) c.requires.next in
    let there = clock_switched p (micro.Close c.args.clock) c.args.clock.0 (λ what there. refl) refl c.self.invariant going own in
    subst (λ (q : Parts). c.args.clock.0 < length q.desc.defs) c.self.view_is (clock_within (desc_of m.tree) m.window m.tree c.args.clock.0 c.self.invariant.tied there)

pub def-requires : goal.def-requires
def-requires g c =
    let m = c.self.inside in
    let p : Parts = parts_of m.window m.tree m.handles m.counts m.notifiers m.credits m.spent m.ignore_unused m.flight m.course m.prepare_holds m.enable_holds m.steps in
    let going : p.flight.going ≡ true = subst (λ (q : Parts). q.flight.going ≡ true) (sym c.self.view_is) c.requires.going in
    let own : own_step p.flight ≡ Some (micro.Close c.args.clock) = subst (λ (q : Parts). own_step q.flight ≡ Some (micro.Close c.args.clock)) (sym c.self.view_is) c.requires.next in
    let there = clock_switched p (micro.Close c.args.clock) c.args.clock.0 (λ what there. refl) refl c.self.invariant going own in
    record { place = clock_within (desc_of m.tree) m.window m.tree c.args.clock.0 c.self.invariant.tied there }

pub close_unless-requires : goal.close_unless-requires
close_unless-requires g c =
    let m = c.self.inside in
    let p : Parts = parts_of m.window m.tree m.handles m.counts m.notifiers m.credits m.spent m.ignore_unused m.flight m.course m.prepare_holds m.enable_holds m.steps in
    let going : p.flight.going ≡ true = subst (λ (q : Parts). q.flight.going ≡ true) (sym c.self.view_is) c.requires.going in
    let own : own_step p.flight ≡ Some (micro.Close c.args.clock) = subst (λ (q : Parts). own_step q.flight ≡ Some (micro.Close c.args.clock)) (sym c.self.view_is) c.requires.next in
    let there = clock_switched p (micro.Close c.args.clock) c.args.clock.0 (λ what there. refl) refl c.self.invariant going own in
    gate_there p c.def.result.now.kind c.args.clock.0 c.self.invariant there (ap (λ (d : ClockDef). d.kind) c.def.ensures.def)

pub invariant_of-self : goal.invariant_of-self
invariant_of-self g c =
    let m = c.self.inside in
    let p : Parts = parts_of m.window m.tree m.handles m.counts m.notifiers m.credits m.spent m.ignore_unused m.flight m.course m.prepare_holds m.enable_holds m.steps in
    let going : p.flight.going ≡ true = subst (λ (q : Parts). q.flight.going ≡ true) (sym c.self.view_is) c.requires.going in
    let own : own_step p.flight ≡ Some (micro.Close c.args.clock) = subst (λ (q : Parts). own_step q.flight ≡ Some (micro.Close c.args.clock)) (sym c.self.view_is) c.requires.next in
    let there = clock_switched p (micro.Close c.args.clock) c.args.clock.0 (λ what there. refl) refl c.self.invariant going own in
    let first : ComesFirst p (micro.Close c.args.clock) = subst (λ (q : Parts). ComesFirst q (micro.Close c.args.clock)) (sym c.self.view_is) c.requires.first in
    let now : Switched p (micro.Close c.args.clock) c.close_unless.new.window c.go_on.new.self = record {
      whole = c.self.invariant;
      going = going;
      is = refl;
      own = own;
      first = first;
      size = c.close_unless.ensures.size;
      told = told_gate c.def.result.now.kind c.is_active-active.result m.window.words c.close_unless.new.window.words c.close_unless.ensures.words;
      behind = c.close_unless.ensures.behind;
      locks = c.close_unless.ensures.locks;
      tied = tied_gate p c.args.clock.0 c.is_active-active.result c.def.result.now.kind c.close_unless.new.window c.self.invariant (clock_within (desc_of m.tree) m.window m.tree c.args.clock.0 c.self.invariant.tied there)
          (ap (λ (d : ClockDef). d.kind) c.def.ensures.def) c.close_unless.ensures.size c.close_unless.ensures.words;
      flight = c.go_on.ensures.flight;
      change = c.go_on.ensures.change;
      less = c.go_on.ensures.less;
    } in
    whole_switched p (micro.Close c.args.clock) c.close_unless.new.window c.go_on.new.self now

pub returns : goal.returns
returns g c =
    let m = c.self.inside in
    let p : Parts = parts_of m.window m.tree m.handles m.counts m.notifiers m.credits m.spent m.ignore_unused m.flight m.course m.prepare_holds m.enable_holds m.steps in
    let going : p.flight.going ≡ true = subst (λ (q : Parts). q.flight.going ≡ true) (sym c.self.view_is) c.requires.going in
    let own : own_step p.flight ≡ Some (micro.Close c.args.clock) = subst (λ (q : Parts). own_step q.flight ≡ Some (micro.Close c.args.clock)) (sym c.self.view_is) c.requires.next in
    let there = clock_switched p (micro.Close c.args.clock) c.args.clock.0 (λ what there. refl) refl c.self.invariant going own in
    let first : ComesFirst p (micro.Close c.args.clock) = subst (λ (q : Parts). ComesFirst q (micro.Close c.args.clock)) (sym c.self.view_is) c.requires.first in
    let now : Switched p (micro.Close c.args.clock) c.close_unless.new.window c.go_on.new.self = record {
      whole = c.self.invariant;
      going = going;
      is = refl;
      own = own;
      first = first;
      size = c.close_unless.ensures.size;
      told = told_gate c.def.result.now.kind c.is_active-active.result m.window.words c.close_unless.new.window.words c.close_unless.ensures.words;
      behind = c.close_unless.ensures.behind;
      locks = c.close_unless.ensures.locks;
      tied = tied_gate p c.args.clock.0 c.is_active-active.result c.def.result.now.kind c.close_unless.new.window c.self.invariant (clock_within (desc_of m.tree) m.window m.tree c.args.clock.0 c.self.invariant.tied there)
          (ap (λ (d : ClockDef). d.kind) c.def.ensures.def) c.close_unless.ensures.size c.close_unless.ensures.words;
      flight = c.go_on.ensures.flight;
      change = c.go_on.ensures.change;
      less = c.go_on.ensures.less;
    } in
    rw (← c.self.view_is)
    (switch_enters p (micro.Close c.args.clock) c.close_unless.new.window c.go_on.new.self now
    (closes_gate p c.args.clock c.is_active-active.result c.def.result.now.kind c.close_unless.new.window
    (λ s stands. c.is_active-active.ensures s (subst (λ (q : Parts). Stands q s) c.self.view_is stands)) (ap (λ (d : ClockDef). d.kind) c.def.ensures.def) c.close_unless.ensures.words))
