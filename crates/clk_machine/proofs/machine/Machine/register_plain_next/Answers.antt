use Rattle.std.proofs.Common.{◌≡◌, None, ◌∙◌, true, false, Some, sym, subst, ap, length}
use Rattle.clk_base.specs.declared.call.Micro.TheVariants as micro
use Rattle.clk_base.specs.Flags.{is_critical}
use Rattle.clk_model.specs.State.{row_of}
use Rattle.clk_flight.specs.Flights.{own_step}
use Rattle.clk_machine.specs.Making.{ComesFirst}
use Rattle.clk_machine.specs.Parts.{Parts, parts_of}
use Rattle.clk_machine.proofs.Joining.{ComesOff, with_joined, may_join, front_joining, whole_plain, plain_enters}
use Rattle.clk_machine.proofs.Registering.{Registered, no_link, other_links}
use Rattle.clk_machine.proofs.Rows.{counted_place}
use Rattle.clk_machine.proofs.Described.{whole_described, enters_described}
use Rattle.core_parts.proofs.Described.{desc_same}
use Rattle.clk_base.specs.declared.event.Event.TheVariants as event
use Rattle.clk_base.specs.declared.event.Turn.TheVariants as turn
use Rattle.clk_base.specs.Description.{Description}
use Rattle.clk_machine.proofs.machine.Machine.register_plain_next.Goals as goal

pub given_parent-parent-requires-clause-place : goal.given_parent-parent-requires-clause-place
given_parent-parent-requires-clause-place g c =
    let m = c.self.inside in
    let p : Parts = parts_of m.window m.tree m.handles m.counts m.notifiers m.credits m.spent m.ignore_unused m.flight m.course m.prepare_holds m.enable_holds m.steps in
    let going : p.flight.going ≡ true = subst (λ (q : Parts). q.flight.going ≡ true) (sym c.self.view_is) c.requires.going in
    let own : own_step p.flight ≡ Some (micro.Register c.args.clock) = subst (λ (q : Parts). own_step q.flight ≡ Some (micro.Register c.args.clock)) (sym c.self.view_is) c.requires.next in
    let may = may_join p c.args.clock c.self.invariant going own in
    may.place

pub given_parent-parent-requires-clause-valid : goal.given_parent-parent-requires-clause-valid
given_parent-parent-requires-clause-valid g c = c.self.invariant.tied.valid

pub given_parent-parent-requires-clause-words : goal.given_parent-parent-requires-clause-words
given_parent-parent-requires-clause-words g c = c.self.invariant.tied.words

pub let_go_under-requires : goal.let_go_under-requires
let_go_under-requires g c =
    let m = c.self.inside in
    let p : Parts = parts_of m.window m.tree m.handles m.counts m.notifiers m.credits m.spent m.ignore_unused m.flight m.course m.prepare_holds m.enable_holds m.steps in
    let going : p.flight.going ≡ true = subst (λ (q : Parts). q.flight.going ≡ true) (sym c.self.view_is) c.requires.going in
    let own : own_step p.flight ≡ Some (micro.Register c.args.clock) = subst (λ (q : Parts). own_step q.flight ≡ Some (micro.Register c.args.clock)) (sym c.self.view_is) c.requires.next in
    let may = may_join p c.args.clock c.self.invariant going own in
    front_joining p c.args.clock c.go_on.new.self c.self.invariant going own c.go_on.ensures.flight

pub register_clock-requires-clause-place : goal.register_clock-requires-clause-place
register_clock-requires-clause-place g c =
    let m = c.self.inside in
    let p : Parts = parts_of m.window m.tree m.handles m.counts m.notifiers m.credits m.spent m.ignore_unused m.flight m.course m.prepare_holds m.enable_holds m.steps in
    let going : p.flight.going ≡ true = subst (λ (q : Parts). q.flight.going ≡ true) (sym c.self.view_is) c.requires.going in
    let own : own_step p.flight ≡ Some (micro.Register c.args.clock) = subst (λ (q : Parts). own_step q.flight ≡ Some (micro.Register c.args.clock)) (sym c.self.view_is) c.requires.next in
    let may = may_join p c.args.clock c.self.invariant going own in
    may.place

pub register_clock-requires-clause-words : goal.register_clock-requires-clause-words
register_clock-requires-clause-words g c = c.self.invariant.tied.words

pub register_clock-requires-clause-kept : goal.register_clock-requires-clause-kept
register_clock-requires-clause-kept g c = c.self.invariant.tied.kept

pub moved-requires-clause-place : goal.moved-requires-clause-place
moved-requires-clause-place g c =
    let m = c.self.inside in
    let p : Parts = parts_of m.window m.tree m.handles m.counts m.notifiers m.credits m.spent m.ignore_unused m.flight m.course m.prepare_holds m.enable_holds m.steps in
    let going : p.flight.going ≡ true = subst (λ (q : Parts). q.flight.going ≡ true) (sym c.self.view_is) c.requires.going in
    let own : own_step p.flight ≡ Some (micro.Register c.args.clock) = subst (λ (q : Parts). own_step q.flight ≡ Some (micro.Register c.args.clock)) (sym c.self.view_is) c.requires.next in
    let may = may_join p c.args.clock c.self.invariant going own in
    counted_place p c.args.clock.0 c.self.invariant may.place

pub moved-requires-clause-size : goal.moved-requires-clause-size
moved-requires-clause-size g c = ap (λ (ds : Description). length ds) c.register_clock.ensures.defs ∙ sym c.self.invariant.counted.stands.size

pub moved-requires-clause-from : goal.moved-requires-clause-from
moved-requires-clause-from g c =
    let m = c.self.inside in
    let p : Parts = parts_of m.window m.tree m.handles m.counts m.notifiers m.credits m.spent m.ignore_unused m.flight m.course m.prepare_holds m.enable_holds m.steps in
    let going : p.flight.going ≡ true = subst (λ (q : Parts). q.flight.going ≡ true) (sym c.self.view_is) c.requires.going in
    let own : own_step p.flight ≡ Some (micro.Register c.args.clock) = subst (λ (q : Parts). own_step q.flight ≡ Some (micro.Register c.args.clock)) (sym c.self.view_is) c.requires.next in
    let may = may_join p c.args.clock c.self.invariant going own in
    no_link p c.args.clock.0 c.self.invariant may.free

pub moved-requires-clause-others : goal.moved-requires-clause-others
moved-requires-clause-others g c =
    let m = c.self.inside in
    let p : Parts = parts_of m.window m.tree m.handles m.counts m.notifiers m.credits m.spent m.ignore_unused m.flight m.course m.prepare_holds m.enable_holds m.steps in
    let going : p.flight.going ≡ true = subst (λ (q : Parts). q.flight.going ≡ true) (sym c.self.view_is) c.requires.going in
    let own : own_step p.flight ≡ Some (micro.Register c.args.clock) = subst (λ (q : Parts). own_step q.flight ≡ Some (micro.Register c.args.clock)) (sym c.self.view_is) c.requires.next in
    let may = may_join p c.args.clock c.self.invariant going own in
    other_links p c.args.clock.0 c.register_clock.new.tree.clocks c.self.invariant c.register_clock.ensures.links

pub invariant_of-self : goal.invariant_of-self
invariant_of-self g c =
    let m = c.self.inside in
    let p : Parts = parts_of m.window m.tree m.handles m.counts m.notifiers m.credits m.spent m.ignore_unused m.flight m.course m.prepare_holds m.enable_holds m.steps in
    let going : p.flight.going ≡ true = subst (λ (q : Parts). q.flight.going ≡ true) (sym c.self.view_is) c.requires.going in
    let own : own_step p.flight ≡ Some (micro.Register c.args.clock) = subst (λ (q : Parts). own_step q.flight ≡ Some (micro.Register c.args.clock)) (sym c.self.view_is) c.requires.next in
    let may = may_join p c.args.clock c.self.invariant going own in
    let now : Registered p c.args.clock.0 c.register_clock.new.tree c.moved.new.self = record {
      place = may.place;
      free = may.free;
      rows = c.register_clock.ensures.rows;
      clocks = c.register_clock.ensures.clocks;
      order = c.register_clock.ensures.order;
      defs = c.register_clock.ensures.defs;
      kept = c.register_clock.ensures.kept;
      stands = c.register_clock.ensures.stands;
      link = (row_of c.register_clock.new.tree.clocks c.args.clock.0).link;
      counts = c.moved.ensures.moved;
      links = c.moved.ensures.links;
      keeps = c.moved.ensures.stands;
    } in
    let first : ComesFirst p (micro.Register c.args.clock) = subst (λ (q : Parts). ComesFirst q (micro.Register c.args.clock)) (sym c.self.view_is) c.requires.first in
    let plain : is_critical p.desc.defs c.args.clock.0 ≡ false = subst (λ (q : Parts). is_critical q.desc.defs c.args.clock.0 ≡ false) (sym c.self.view_is) c.requires.plain in
    let before : ComesOff p c.args.clock c.go_on.new.self c.let_go_under.new.flight = record {
      whole = c.self.invariant;
      going = going;
      own = own;
      first = first;
      gone_ = c.go_on.ensures.flight;
      change = c.go_on.ensures.change;
      less = c.go_on.ensures.less;
      parent = c.given_parent-parent.result;
      given = c.given_parent-parent.ensures.link;
      lets = c.let_go_under.ensures;
    } in
    whole_described (with_joined p m.window c.register_clock.new.tree c.moved.new.self c.let_go_under.new.flight) (desc_same c.register_clock.new.tree m.tree c.register_clock.ensures.checked c.register_clock.ensures.defs)
    (whole_plain p c.args.clock c.register_clock.new.tree c.moved.new.self c.go_on.new.self c.let_go_under.new.flight before now c.register_clock.ensures.links plain)

pub returns : goal.returns
returns g c =
    let m = c.self.inside in
    let p : Parts = parts_of m.window m.tree m.handles m.counts m.notifiers m.credits m.spent m.ignore_unused m.flight m.course m.prepare_holds m.enable_holds m.steps in
    let going : p.flight.going ≡ true = subst (λ (q : Parts). q.flight.going ≡ true) (sym c.self.view_is) c.requires.going in
    let own : own_step p.flight ≡ Some (micro.Register c.args.clock) = subst (λ (q : Parts). own_step q.flight ≡ Some (micro.Register c.args.clock)) (sym c.self.view_is) c.requires.next in
    let may = may_join p c.args.clock c.self.invariant going own in
    let now : Registered p c.args.clock.0 c.register_clock.new.tree c.moved.new.self = record {
      place = may.place;
      free = may.free;
      rows = c.register_clock.ensures.rows;
      clocks = c.register_clock.ensures.clocks;
      order = c.register_clock.ensures.order;
      defs = c.register_clock.ensures.defs;
      kept = c.register_clock.ensures.kept;
      stands = c.register_clock.ensures.stands;
      link = (row_of c.register_clock.new.tree.clocks c.args.clock.0).link;
      counts = c.moved.ensures.moved;
      links = c.moved.ensures.links;
      keeps = c.moved.ensures.stands;
    } in
    let first : ComesFirst p (micro.Register c.args.clock) = subst (λ (q : Parts). ComesFirst q (micro.Register c.args.clock)) (sym c.self.view_is) c.requires.first in
    let plain : is_critical p.desc.defs c.args.clock.0 ≡ false = subst (λ (q : Parts). is_critical q.desc.defs c.args.clock.0 ≡ false) (sym c.self.view_is) c.requires.plain in
    let before : ComesOff p c.args.clock c.go_on.new.self c.let_go_under.new.flight = record {
      whole = c.self.invariant;
      going = going;
      own = own;
      first = first;
      gone_ = c.go_on.ensures.flight;
      change = c.go_on.ensures.change;
      less = c.go_on.ensures.less;
      parent = c.given_parent-parent.result;
      given = c.given_parent-parent.ensures.link;
      lets = c.let_go_under.ensures;
    } in
    rw (← c.self.view_is)
    (enters_described p p.flight.driver (event.Step (micro.Register c.args.clock) None) turn.Going (with_joined p m.window c.register_clock.new.tree c.moved.new.self c.let_go_under.new.flight) (desc_same c.register_clock.new.tree m.tree c.register_clock.ensures.checked c.register_clock.ensures.defs)
    (plain_enters p c.args.clock c.register_clock.new.tree c.moved.new.self c.go_on.new.self c.let_go_under.new.flight before now c.register_clock.ensures.links plain))
