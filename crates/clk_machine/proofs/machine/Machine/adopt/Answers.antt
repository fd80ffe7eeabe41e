use Rattle.std.proofs.Common.{◌≡◌, ◌<◌, ◌≤◌, ℕ, true, Some, None, refl, sym, ap, subst, ◌∙◌, List, length, arith}
use Rattle.std.proofs.lemmas.List.{length-set}
use Rattle.std.specs.Prelude.{slice_index}
use Rattle.counts_core.specs.Counted.{CountState}
use Rattle.clk_machine.proofs.Room.{prepare_owned, enable_owned}
use Rattle.clk_base.specs.declared.call.Micro.TheVariants as micro
use Rattle.clk_model.specs.State.{row_of}
use Rattle.clk_model.specs.declared.row.ClockRow.{ClockRow}
use Rattle.clk_flight.specs.Flights.{own_step}
use Rattle.clk_machine.specs.Making.{ComesFirst}
use Rattle.clk_machine.specs.Parts.{Parts, parts_of}
use Rattle.core_parts.proofs.Moving.{clock_within}
use Rattle.clk_model.proofs.WholePathLaws.{linked_other}
use Rattle.clk_machine.proofs.Registering.{other_links}
use Rattle.clk_machine.proofs.Rows.{counted_place}
use Rattle.clk_model.specs.State.{link_in}
use Rattle.clk_machine.proofs.Relinking.{with_relinked, whole_relinked}
use Rattle.clk_machine.proofs.LinkSteps.{Stepped, LinksTo, HoldsEnd, holds_ended, may_link, relinked_of, relink_enters}
use Rattle.core_parts.specs.Tied.{desc_of}
use Rattle.clk_machine.proofs.Described.{whole_described, enters_described}
use Rattle.core_parts.proofs.Described.{desc_same}
use Rattle.clk_base.specs.declared.event.Event.TheVariants as event
use Rattle.clk_base.specs.declared.event.Turn.TheVariants as turn
use Rattle.clk_base.specs.Description.{Description}
use Rattle.clk_machine.proofs.machine.Machine.adopt.Goals as goal

pub link_to-requires-clause-place : goal.link_to-requires-clause-place
link_to-requires-clause-place g c =
    let m = c.self.inside in
    let p : Parts = parts_of m.window m.tree m.handles m.counts m.notifiers m.credits m.spent m.ignore_unused m.flight m.course m.prepare_holds m.enable_holds m.steps in
    let going : p.flight.going ≡ true = subst (λ (q : Parts). q.flight.going ≡ true) (sym c.self.view_is) c.requires.going in
    let own : own_step p.flight ≡ Some (micro.Relink c.args.clock c.args.parent) = subst (λ (q : Parts). own_step q.flight ≡ Some (micro.Relink c.args.clock c.args.parent)) (sym c.self.view_is) c.requires.next in
    let may = may_link p c.args.clock c.args.parent c.self.invariant going own in
    clock_within (desc_of m.tree) m.window m.tree c.args.clock.0 c.self.invariant.tied may.there

pub link_to-requires-clause-valid : goal.link_to-requires-clause-valid
link_to-requires-clause-valid g c = c.self.invariant.tied.valid

pub link_to-requires-clause-there : goal.link_to-requires-clause-there
link_to-requires-clause-there g c =
    let m = c.self.inside in
    let p : Parts = parts_of m.window m.tree m.handles m.counts m.notifiers m.credits m.spent m.ignore_unused m.flight m.course m.prepare_holds m.enable_holds m.steps in
    let going : p.flight.going ≡ true = subst (λ (q : Parts). q.flight.going ≡ true) (sym c.self.view_is) c.requires.going in
    let own : own_step p.flight ≡ Some (micro.Relink c.args.clock c.args.parent) = subst (λ (q : Parts). own_step q.flight ≡ Some (micro.Relink c.args.clock c.args.parent)) (sym c.self.view_is) c.requires.next in
    let may = may_link p c.args.clock c.args.parent c.self.invariant going own in
    may.there

pub link_to-requires-clause-parent : goal.link_to-requires-clause-parent
link_to-requires-clause-parent g c =
    let m = c.self.inside in
    let p : Parts = parts_of m.window m.tree m.handles m.counts m.notifiers m.credits m.spent m.ignore_unused m.flight m.course m.prepare_holds m.enable_holds m.steps in
    let going : p.flight.going ≡ true = subst (λ (q : Parts). q.flight.going ≡ true) (sym c.self.view_is) c.requires.going in
    let own : own_step p.flight ≡ Some (micro.Relink c.args.clock c.args.parent) = subst (λ (q : Parts). own_step q.flight ≡ Some (micro.Relink c.args.clock c.args.parent)) (sym c.self.view_is) c.requires.next in
    let may = may_link p c.args.clock c.args.parent c.self.invariant going own in
    may.parent

pub link_to-requires-clause-possible : goal.link_to-requires-clause-possible
link_to-requires-clause-possible g c =
    let m = c.self.inside in
    let p : Parts = parts_of m.window m.tree m.handles m.counts m.notifiers m.credits m.spent m.ignore_unused m.flight m.course m.prepare_holds m.enable_holds m.steps in
    let going : p.flight.going ≡ true = subst (λ (q : Parts). q.flight.going ≡ true) (sym c.self.view_is) c.requires.going in
    let own : own_step p.flight ≡ Some (micro.Relink c.args.clock c.args.parent) = subst (λ (q : Parts). own_step q.flight ≡ Some (micro.Relink c.args.clock c.args.parent)) (sym c.self.view_is) c.requires.next in
    let may = may_link p c.args.clock c.args.parent c.self.invariant going own in
    may.possible

pub moved-requires-clause-place : goal.moved-requires-clause-place
moved-requires-clause-place g c =
    let m = c.self.inside in
    let p : Parts = parts_of m.window m.tree m.handles m.counts m.notifiers m.credits m.spent m.ignore_unused m.flight m.course m.prepare_holds m.enable_holds m.steps in
    let going : p.flight.going ≡ true = subst (λ (q : Parts). q.flight.going ≡ true) (sym c.self.view_is) c.requires.going in
    let own : own_step p.flight ≡ Some (micro.Relink c.args.clock c.args.parent) = subst (λ (q : Parts). own_step q.flight ≡ Some (micro.Relink c.args.clock c.args.parent)) (sym c.self.view_is) c.requires.next in
    let may = may_link p c.args.clock c.args.parent c.self.invariant going own in
    counted_place p c.args.clock.0 c.self.invariant (clock_within (desc_of m.tree) m.window m.tree c.args.clock.0 c.self.invariant.tied may.there)

pub moved-requires-clause-size : goal.moved-requires-clause-size
moved-requires-clause-size g c =
    ap (λ (ds : Description). length ds) c.link_to.ensures.defs ∙ sym c.self.invariant.counted.stands.size

pub moved-requires-clause-from : goal.moved-requires-clause-from
moved-requires-clause-from g c =
    let m = c.self.inside in
    sym (c.self.invariant.counted.stands.links c.args.clock.0) ∙ subst (λ (q : Parts). link_in q.tree.clocks c.args.clock.0 ≡ None) (sym c.self.view_is) c.requires.link

pub moved-requires-clause-others : goal.moved-requires-clause-others
moved-requires-clause-others g c =
    let m = c.self.inside in
    let p : Parts = parts_of m.window m.tree m.handles m.counts m.notifiers m.credits m.spent m.ignore_unused m.flight m.course m.prepare_holds m.enable_holds m.steps in
    other_links p c.args.clock.0 c.link_to.new.tree.clocks c.self.invariant (λ d other. ap (λ (rs : List ClockRow). link_in rs d) c.link_to.ensures.clocks ∙ linked_other m.tree.clocks c.args.clock.0 c.args.parent.0 d (λ same. other (sym same)))

pub invariant_of-self : goal.invariant_of-self
invariant_of-self g c =
    let m = c.self.inside in
    let p : Parts = parts_of m.window m.tree m.handles m.counts m.notifiers m.credits m.spent m.ignore_unused m.flight m.course m.prepare_holds m.enable_holds m.steps in
    let going : p.flight.going ≡ true = subst (λ (q : Parts). q.flight.going ≡ true) (sym c.self.view_is) c.requires.going in
    let own : own_step p.flight ≡ Some (micro.Relink c.args.clock c.args.parent) = subst (λ (q : Parts). own_step q.flight ≡ Some (micro.Relink c.args.clock c.args.parent)) (sym c.self.view_is) c.requires.next in
    let first : ComesFirst p (micro.Relink c.args.clock c.args.parent) = subst (λ (q : Parts). ComesFirst q (micro.Relink c.args.clock c.args.parent)) (sym c.self.view_is) c.requires.first in
    let now : Stepped p (micro.Relink c.args.clock c.args.parent) c.go_on.new.self = record {
      whole = c.self.invariant;
      going = going;
      is = refl;
      own = own;
      first = first;
      flight = c.go_on.ensures.flight;
      change = c.go_on.ensures.change;
      less = c.go_on.ensures.less;
    } in
    let to : LinksTo p c.args.clock c.args.parent c.link_to.new.tree c.moved.new.self = record {
      clocks = c.link_to.ensures.clocks;
      order = c.link_to.ensures.order;
      defs = c.link_to.ensures.defs;
      kept = c.link_to.ensures.kept;
      stands = c.link_to.ensures.stands;
      link = (row_of c.link_to.new.tree.clocks c.args.clock.0).link;
      counts = c.moved.ensures.moved;
      links = c.moved.ensures.links;
      keeps = c.moved.ensures.stands;
    } in
    let end_ : HoldsEnd p c.args.clock c.args.parent c.moved.new.self c.end_holds.new.counts c.end_holds-2.new.counts c.end_holds.new.held c.end_holds-2.new.held = record {
      link = subst (λ (q : Parts). link_in q.tree.clocks c.args.clock.0 ≡ None) (sym c.self.view_is) c.requires.link;
      mid_ = c.end_holds.ensures.counts;
      counts = c.end_holds-2.ensures.counts;
      keeps = c.end_holds-2.ensures.stands;
      prepares = c.end_holds.ensures.ends;
      prepares_are = c.end_holds.ensures.ended;
      enables = c.end_holds-2.ensures.ends;
      enables_are = c.end_holds-2.ensures.ended;
    } in
    whole_described (with_relinked p m.window c.link_to.new.tree c.end_holds-2.new.counts c.end_holds.new.held c.end_holds-2.new.held c.go_on.new.self)
    (desc_same c.link_to.new.tree m.tree c.link_to.ensures.checked c.link_to.ensures.defs)
    (whole_relinked p (micro.Relink c.args.clock c.args.parent) m.window c.link_to.new.tree c.end_holds-2.new.counts c.end_holds.new.held c.end_holds-2.new.held c.go_on.new.self
    (relinked_of p c.args.clock c.args.parent c.link_to.new.tree c.moved.new.self c.end_holds-2.new.counts c.end_holds.new.held c.end_holds-2.new.held c.go_on.new.self now to
    (holds_ended p c.args.clock c.args.parent c.moved.new.self c.end_holds.new.counts c.end_holds-2.new.counts c.end_holds.new.held c.end_holds-2.new.held c.self.invariant end_)))

pub returns : goal.returns
returns g c =
    let m = c.self.inside in
    let p : Parts = parts_of m.window m.tree m.handles m.counts m.notifiers m.credits m.spent m.ignore_unused m.flight m.course m.prepare_holds m.enable_holds m.steps in
    let going : p.flight.going ≡ true = subst (λ (q : Parts). q.flight.going ≡ true) (sym c.self.view_is) c.requires.going in
    let own : own_step p.flight ≡ Some (micro.Relink c.args.clock c.args.parent) = subst (λ (q : Parts). own_step q.flight ≡ Some (micro.Relink c.args.clock c.args.parent)) (sym c.self.view_is) c.requires.next in
    let first : ComesFirst p (micro.Relink c.args.clock c.args.parent) = subst (λ (q : Parts). ComesFirst q (micro.Relink c.args.clock c.args.parent)) (sym c.self.view_is) c.requires.first in
    let now : Stepped p (micro.Relink c.args.clock c.args.parent) c.go_on.new.self = record {
      whole = c.self.invariant;
      going = going;
      is = refl;
      own = own;
      first = first;
      flight = c.go_on.ensures.flight;
      change = c.go_on.ensures.change;
      less = c.go_on.ensures.less;
    } in
    let to : LinksTo p c.args.clock c.args.parent c.link_to.new.tree c.moved.new.self = record {
      clocks = c.link_to.ensures.clocks;
      order = c.link_to.ensures.order;
      defs = c.link_to.ensures.defs;
      kept = c.link_to.ensures.kept;
      stands = c.link_to.ensures.stands;
      link = (row_of c.link_to.new.tree.clocks c.args.clock.0).link;
      counts = c.moved.ensures.moved;
      links = c.moved.ensures.links;
      keeps = c.moved.ensures.stands;
    } in
    let end_ : HoldsEnd p c.args.clock c.args.parent c.moved.new.self c.end_holds.new.counts c.end_holds-2.new.counts c.end_holds.new.held c.end_holds-2.new.held = record {
      link = subst (λ (q : Parts). link_in q.tree.clocks c.args.clock.0 ≡ None) (sym c.self.view_is) c.requires.link;
      mid_ = c.end_holds.ensures.counts;
      counts = c.end_holds-2.ensures.counts;
      keeps = c.end_holds-2.ensures.stands;
      prepares = c.end_holds.ensures.ends;
      prepares_are = c.end_holds.ensures.ended;
      enables = c.end_holds-2.ensures.ends;
      enables_are = c.end_holds-2.ensures.ended;
    } in
    rw (← c.self.view_is)
    (enters_described p p.flight.driver (event.Step (micro.Relink c.args.clock c.args.parent) None) turn.Going (with_relinked p m.window c.link_to.new.tree c.end_holds-2.new.counts c.end_holds.new.held c.end_holds-2.new.held c.go_on.new.self)
    (desc_same c.link_to.new.tree m.tree c.link_to.ensures.checked c.link_to.ensures.defs)
    (relink_enters p c.args.clock c.args.parent c.link_to.new.tree c.moved.new.self c.end_holds-2.new.counts c.end_holds.new.held c.end_holds-2.new.held c.go_on.new.self now to
    (holds_ended p c.args.clock c.args.parent c.moved.new.self c.end_holds.new.counts c.end_holds-2.new.counts c.end_holds.new.held c.end_holds-2.new.held c.self.invariant end_)))

pub end_holds-requires-clause-place : goal.end_holds-requires-clause-place
end_holds-requires-clause-place g c =
    let m = c.self.inside in
    let p : Parts = parts_of m.window m.tree m.handles m.counts m.notifiers m.credits m.spent m.ignore_unused m.flight m.course m.prepare_holds m.enable_holds m.steps in
    let going : p.flight.going ≡ true = subst (λ (q : Parts). q.flight.going ≡ true) (sym c.self.view_is) c.requires.going in
    let own : own_step p.flight ≡ Some (micro.Relink c.args.clock c.args.parent) = subst (λ (q : Parts). own_step q.flight ≡ Some (micro.Relink c.args.clock c.args.parent)) (sym c.self.view_is) c.requires.next in
    let may = may_link p c.args.clock c.args.parent c.self.invariant going own in
    let len : length c.moved.new.self.links ≡ length m.counts.links = ap (λ (k : CountState). length k.links) c.moved.ensures.moved ∙ length-set m.counts.links c.args.clock.0 (row_of c.link_to.new.tree.clocks c.args.clock.0).link in
    let place : c.args.parent.0 < length m.counts.links = counted_place p c.args.parent.0 c.self.invariant (clock_within (desc_of m.tree) m.window m.tree c.args.parent.0 c.self.invariant.tied may.parent) in
    omega arith

pub end_holds-requires-clause-owned : goal.end_holds-requires-clause-owned
end_holds-requires-clause-owned g c =
    let m = c.self.inside in
    let p : Parts = parts_of m.window m.tree m.handles m.counts m.notifiers m.credits m.spent m.ignore_unused m.flight m.course m.prepare_holds m.enable_holds m.steps in
    let going : p.flight.going ≡ true = subst (λ (q : Parts). q.flight.going ≡ true) (sym c.self.view_is) c.requires.going in
    let own : own_step p.flight ≡ Some (micro.Relink c.args.clock c.args.parent) = subst (λ (q : Parts). own_step q.flight ≡ Some (micro.Relink c.args.clock c.args.parent)) (sym c.self.view_is) c.requires.next in
    let may = may_link p c.args.clock c.args.parent c.self.invariant going own in
    let len : length c.moved.new.self.links ≡ length m.counts.links = ap (λ (k : CountState). length k.links) c.moved.ensures.moved ∙ length-set m.counts.links c.args.clock.0 (row_of c.link_to.new.tree.clocks c.args.clock.0).link in
    let same : c.moved.new.self.prepares ≡ m.counts.prepares = ap (λ (k : CountState). k.prepares) c.moved.ensures.moved in
    λ d. subst (λ (xs : List ℕ). slice_index m.prepare_holds d ≤ slice_index xs d) (sym same) (prepare_owned p d c.self.invariant)

pub end_holds-requires-2-clause-place : goal.end_holds-requires-2-clause-place
end_holds-requires-2-clause-place g c =
    let m = c.self.inside in
    let p : Parts = parts_of m.window m.tree m.handles m.counts m.notifiers m.credits m.spent m.ignore_unused m.flight m.course m.prepare_holds m.enable_holds m.steps in
    let going : p.flight.going ≡ true = subst (λ (q : Parts). q.flight.going ≡ true) (sym c.self.view_is) c.requires.going in
    let own : own_step p.flight ≡ Some (micro.Relink c.args.clock c.args.parent) = subst (λ (q : Parts). own_step q.flight ≡ Some (micro.Relink c.args.clock c.args.parent)) (sym c.self.view_is) c.requires.next in
    let may = may_link p c.args.clock c.args.parent c.self.invariant going own in
    let len : length c.moved.new.self.links ≡ length m.counts.links = ap (λ (k : CountState). length k.links) c.moved.ensures.moved ∙ length-set m.counts.links c.args.clock.0 (row_of c.link_to.new.tree.clocks c.args.clock.0).link in
    let mid : length c.end_holds.new.counts.links ≡ length c.moved.new.self.links = ap (λ (k : CountState). length k.links) c.end_holds.ensures.counts in
    let place : c.args.parent.0 < length m.counts.links = counted_place p c.args.parent.0 c.self.invariant (clock_within (desc_of m.tree) m.window m.tree c.args.parent.0 c.self.invariant.tied may.parent) in
    omega arith

pub end_holds-requires-2-clause-owned : goal.end_holds-requires-2-clause-owned
end_holds-requires-2-clause-owned g c =
    let m = c.self.inside in
    let p : Parts = parts_of m.window m.tree m.handles m.counts m.notifiers m.credits m.spent m.ignore_unused m.flight m.course m.prepare_holds m.enable_holds m.steps in
    let going : p.flight.going ≡ true = subst (λ (q : Parts). q.flight.going ≡ true) (sym c.self.view_is) c.requires.going in
    let own : own_step p.flight ≡ Some (micro.Relink c.args.clock c.args.parent) = subst (λ (q : Parts). own_step q.flight ≡ Some (micro.Relink c.args.clock c.args.parent)) (sym c.self.view_is) c.requires.next in
    let may = may_link p c.args.clock c.args.parent c.self.invariant going own in
    let len : length c.moved.new.self.links ≡ length m.counts.links = ap (λ (k : CountState). length k.links) c.moved.ensures.moved ∙ length-set m.counts.links c.args.clock.0 (row_of c.link_to.new.tree.clocks c.args.clock.0).link in
    let same : c.end_holds.new.counts.enables ≡ m.counts.enables = ap (λ (k : CountState). k.enables) c.end_holds.ensures.counts ∙ ap (λ (k : CountState). k.enables) c.moved.ensures.moved in
    λ d. subst (λ (xs : List ℕ). slice_index m.enable_holds d ≤ slice_index xs d) (sym same) (enable_owned p d c.self.invariant)
