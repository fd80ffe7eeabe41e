use Rattle.std.proofs.Common.{◌≡◌, ◌<◌, ◌∙◌, sym, ap, subst, true, false, length, get_or, nat_eq}
use Rattle.clk_base.specs.Flags.{is_critical}
use Rattle.clk_model.specs.State.{registered, row_of, link_in}
use Rattle.counts_core.specs.Counted.{CountState}
use Rattle.clk_machine.specs.Parts.{Parts, parts_of}
use Rattle.clk_machine.proofs.Rows.{counted_place}
use Rattle.clk_machine.proofs.Critical.{IsHeld, held_twice, whole_critical, becomes_critical, held_begun}
use Rattle.core_parts.proofs.Moving.{links_within}
use Rattle.clk_machine.proofs.Registering.{Registered, with_registered, tied_registered, no_link, other_links}
use Rattle.clk_machine.proofs.Room.{prepare_room, enable_room}
use Rattle.core_parts.specs.Tied.{desc_of}
use Rattle.std.specs.Option.{option_map}
use Rattle.clk_base.specs.Description.{Description}
use Rattle.clk_model.specs.Begin.{register}
use Rattle.clk_model.specs.Gates.{gates_moved}
use Rattle.clk_model.specs.Tree.{path_within}
use Rattle.core_parts.specs.Shape.{LinksLie}
use Rattle.clk_machine.proofs.Described.{whole_described, becomes_described}
use Rattle.core_parts.proofs.Described.{desc_same}
use Rattle.clk_machine.proofs.machine.Machine.register_critical.Goals as goal

pub moved-requires-clause-place : goal.moved-requires-clause-place
moved-requires-clause-place g c =
    let m = c.self.inside in
    let p : Parts = parts_of m.window m.tree m.handles m.counts m.notifiers m.credits m.spent m.ignore_unused m.flight m.course m.prepare_holds m.enable_holds m.steps in
    let within : c.args.clock.0 < length m.tree.defs = rw (← c.self.view_is) at c.requires.place in
    counted_place p c.args.clock.0 c.self.invariant within

pub moved-requires-clause-size : goal.moved-requires-clause-size
moved-requires-clause-size g c = ap (λ (ds : Description). length ds) c.register_clock.ensures.defs ∙ sym c.self.invariant.counted.stands.size

pub moved-requires-clause-from : goal.moved-requires-clause-from
moved-requires-clause-from g c =
    let m = c.self.inside in
    let p : Parts = parts_of m.window m.tree m.handles m.counts m.notifiers m.credits m.spent m.ignore_unused m.flight m.course m.prepare_holds m.enable_holds m.steps in
    let free : registered m.tree.clocks c.args.clock.0 ≡ false = rw (← c.self.view_is) at c.requires.free in
    no_link p c.args.clock.0 c.self.invariant free

pub moved-requires-clause-others : goal.moved-requires-clause-others
moved-requires-clause-others g c =
    let m = c.self.inside in
    let p : Parts = parts_of m.window m.tree m.handles m.counts m.notifiers m.credits m.spent m.ignore_unused m.flight m.course m.prepare_holds m.enable_holds m.steps in
    other_links p c.args.clock.0 c.register_clock.new.tree.clocks c.self.invariant c.register_clock.ensures.links

pub hold-requires-clause-room : goal.hold-requires-clause-room
hold-requires-clause-room g c =
    let m = c.self.inside in
    let p : Parts = parts_of m.window m.tree m.handles m.counts m.notifiers m.credits m.spent m.ignore_unused m.flight m.course m.prepare_holds m.enable_holds m.steps in
    subst (λ (k : CountState). get_or k.prepares c.args.clock.0 0 < 8388608) (sym c.moved.ensures.moved) (prepare_room p c.args.clock.0 c.self.invariant)

pub enable_walk-begun-requires-clause-room : goal.enable_walk-begun-requires-clause-room
enable_walk-begun-requires-clause-room g c =
    let m = c.self.inside in
    let p : Parts = parts_of m.window m.tree m.handles m.counts m.notifiers m.credits m.spent m.ignore_unused m.flight m.course m.prepare_holds m.enable_holds m.steps in
    subst (λ (k : CountState). get_or k.enables c.args.clock.0 0 < 8388608) (sym c.hold.ensures.holders)
    (subst (λ (k : CountState). get_or k.enables c.args.clock.0 0 < 8388608) (sym c.moved.ensures.moved) (enable_room p c.args.clock.0 c.self.invariant))

pub open_path-requires-clause-place : goal.open_path-requires-clause-place
open_path-requires-clause-place g c =
    let m = c.self.inside in
    let place : c.args.clock.0 < length m.tree.defs = rw (← c.self.view_is) at c.requires.place in
    subst (λ (ds : Description). c.args.clock.0 < length ds) (sym c.register_clock.ensures.defs) place

pub open_path-requires-clause-words : goal.open_path-requires-clause-words
open_path-requires-clause-words g c = c.self.invariant.tied.words ∙ sym c.register_clock.ensures.checked

pub open_path-requires-clause-links : goal.open_path-requires-clause-links
open_path-requires-clause-links g c =
    let m = c.self.inside in
    let p : Parts = parts_of m.window m.tree m.handles m.counts m.notifiers m.credits m.spent m.ignore_unused m.flight m.course m.prepare_holds m.enable_holds m.steps in
    let quiet : m.flight.going ≡ false = rw (← c.self.view_is) at c.requires.quiet in
    let left : m.spent < m.credits = rw (← c.self.view_is) at c.requires.credit in
    let place : c.args.clock.0 < length m.tree.defs = rw (← c.self.view_is) at c.requires.place in
    let free : registered m.tree.clocks c.args.clock.0 ≡ false = rw (← c.self.view_is) at c.requires.free in
    let now : Registered p c.args.clock.0 c.register_clock.new.tree c.moved.new.self = record {
      place = place;
      free = free;
      rows = c.register_clock.ensures.rows;
      clocks = c.register_clock.ensures.clocks;
      order = c.register_clock.ensures.order;
      defs = c.register_clock.ensures.defs;
      kept = c.register_clock.ensures.kept;
      stands = c.register_clock.ensures.stands;
      link = (row_of c.register_clock.new.tree.clocks c.args.clock.0).link;
      counts = c.moved.ensures.moved;
      links = c.moved.ensures.links;
      keeps = c.moved.ensures.stands;
    } in
    subst (λ (ds : Description). LinksLie ds c.register_clock.new.tree.clocks) (sym c.register_clock.ensures.defs)
    (links_within (desc_of m.tree) m.window c.register_clock.new.tree (tied_registered p c.args.clock.0 c.register_clock.new.tree c.moved.new.self c.self.invariant now))

pub invariant_of-self : goal.invariant_of-self
invariant_of-self g c =
    let m = c.self.inside in
    let p : Parts = parts_of m.window m.tree m.handles m.counts m.notifiers m.credits m.spent m.ignore_unused m.flight m.course m.prepare_holds m.enable_holds m.steps in
    let quiet : m.flight.going ≡ false = rw (← c.self.view_is) at c.requires.quiet in
    let left : m.spent < m.credits = rw (← c.self.view_is) at c.requires.credit in
    let place : c.args.clock.0 < length m.tree.defs = rw (← c.self.view_is) at c.requires.place in
    let free : registered m.tree.clocks c.args.clock.0 ≡ false = rw (← c.self.view_is) at c.requires.free in
    let now : Registered p c.args.clock.0 c.register_clock.new.tree c.moved.new.self = record {
      place = place;
      free = free;
      rows = c.register_clock.ensures.rows;
      clocks = c.register_clock.ensures.clocks;
      order = c.register_clock.ensures.order;
      defs = c.register_clock.ensures.defs;
      kept = c.register_clock.ensures.kept;
      stands = c.register_clock.ensures.stands;
      link = (row_of c.register_clock.new.tree.clocks c.args.clock.0).link;
      counts = c.moved.ensures.moved;
      links = c.moved.ensures.links;
      keeps = c.moved.ensures.stands;
    } in
    let critical : is_critical m.tree.defs c.args.clock.0 ≡ true = rw (← c.self.view_is) at c.requires.critical in
    let holds : IsHeld c.moved.new.self c.enable_walk-begun.new.self c.args.clock.0 =
    held_twice c.moved.new.self c.hold.new.self c.enable_walk-begun.new.self c.args.clock.0 c.hold.ensures.holders c.enable_walk-begun.ensures.holders c.enable_walk-begun.ensures.stands in
    let words : c.open_path.new.window.words ≡ option_map (gates_moved m.tree.defs (λ _. false) (λ _. true) (path_within (link_in c.register_clock.new.tree.clocks) c.enable_walk-begun.result c.args.clock.0)) m.window.words =
    c.open_path.ensures.words ∙ ap (λ (ds : Description). option_map (gates_moved ds (λ _. false) (λ _. true) (path_within (link_in c.register_clock.new.tree.clocks) c.enable_walk-begun.result c.args.clock.0)) m.window.words) c.register_clock.ensures.defs in
    whole_described (with_registered p c.open_path.new.window c.register_clock.new.tree c.enable_walk-begun.new.self) (desc_same c.register_clock.new.tree m.tree c.register_clock.ensures.checked c.register_clock.ensures.defs)
    (whole_critical p c.args.clock.0 c.register_clock.new.tree c.moved.new.self c.enable_walk-begun.new.self c.open_path.new.window c.enable_walk-begun.result c.self.invariant now holds critical
    quiet left c.open_path.ensures.size words)

pub returns : goal.returns
returns g c =
    let m = c.self.inside in
    let p : Parts = parts_of m.window m.tree m.handles m.counts m.notifiers m.credits m.spent m.ignore_unused m.flight m.course m.prepare_holds m.enable_holds m.steps in
    let quiet : m.flight.going ≡ false = rw (← c.self.view_is) at c.requires.quiet in
    let place : c.args.clock.0 < length m.tree.defs = rw (← c.self.view_is) at c.requires.place in
    let free : registered m.tree.clocks c.args.clock.0 ≡ false = rw (← c.self.view_is) at c.requires.free in
    let now : Registered p c.args.clock.0 c.register_clock.new.tree c.moved.new.self = record {
      place = place;
      free = free;
      rows = c.register_clock.ensures.rows;
      clocks = c.register_clock.ensures.clocks;
      order = c.register_clock.ensures.order;
      defs = c.register_clock.ensures.defs;
      kept = c.register_clock.ensures.kept;
      stands = c.register_clock.ensures.stands;
      link = (row_of c.register_clock.new.tree.clocks c.args.clock.0).link;
      counts = c.moved.ensures.moved;
      links = c.moved.ensures.links;
      keeps = c.moved.ensures.stands;
    } in
    let critical : is_critical m.tree.defs c.args.clock.0 ≡ true = rw (← c.self.view_is) at c.requires.critical in
    let holds : IsHeld c.moved.new.self c.enable_walk-begun.new.self c.args.clock.0 =
    held_twice c.moved.new.self c.hold.new.self c.enable_walk-begun.new.self c.args.clock.0 c.hold.ensures.holders c.enable_walk-begun.ensures.holders c.enable_walk-begun.ensures.stands in
    let words : c.open_path.new.window.words ≡ option_map (gates_moved m.tree.defs (λ _. false) (λ _. true) (path_within (link_in c.register_clock.new.tree.clocks) c.enable_walk-begun.result c.args.clock.0)) m.window.words =
    c.open_path.ensures.words ∙ ap (λ (ds : Description). option_map (gates_moved ds (λ _. false) (λ _. true) (path_within (link_in c.register_clock.new.tree.clocks) c.enable_walk-begun.result c.args.clock.0)) m.window.words) c.register_clock.ensures.defs in
    rw (← c.self.view_is)
    (becomes_described p (λ k. nat_eq c.args.clock.0 k) (λ s. register s c.args.clock.0) (with_registered p c.open_path.new.window c.register_clock.new.tree c.enable_walk-begun.new.self) (desc_same c.register_clock.new.tree m.tree c.register_clock.ensures.checked c.register_clock.ensures.defs)
    (becomes_critical p c.args.clock.0 c.register_clock.new.tree c.moved.new.self c.enable_walk-begun.new.self c.open_path.new.window c.enable_walk-begun.result c.self.invariant now holds critical
    c.open_path.ensures.size c.open_path.ensures.behind c.open_path.ensures.locks
    (held_begun c.moved.new.self c.hold.new.self c.enable_walk-begun.new.self c.args.clock.0 c.enable_walk-begun.result c.hold.ensures.holders c.enable_walk-begun.ensures.begun)
    words))
