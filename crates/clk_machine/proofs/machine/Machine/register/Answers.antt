use Rattle.std.proofs.Common.{◌≡◌, ◌<◌, ◌∙◌, sym, false, length, nat_eq, ap}
use Rattle.clk_base.specs.Flags.{is_critical}
use Rattle.clk_model.specs.State.{registered, row_of}
use Rattle.clk_machine.specs.Parts.{Parts, parts_of}
use Rattle.clk_machine.proofs.Rows.{counted_place}
use Rattle.clk_machine.proofs.Registering.{Registered, with_registered, whole_registered, becomes_registered, no_link, other_links}
use Rattle.clk_model.specs.Begin.{register}
use Rattle.clk_machine.proofs.Described.{whole_described, becomes_described}
use Rattle.core_parts.proofs.Described.{desc_same}
use Rattle.clk_base.specs.Description.{Description}
use Rattle.clk_machine.proofs.machine.Machine.register.Goals as goal

pub moved-requires-clause-place : goal.moved-requires-clause-place
moved-requires-clause-place g c =
    let m = c.self.inside in
    let p : Parts = parts_of m.window m.tree m.handles m.counts m.notifiers m.credits m.spent m.ignore_unused m.flight m.course m.prepare_holds m.enable_holds m.steps in
    let within : c.args.clock.0 < length m.tree.defs = rw (← c.self.view_is) at c.requires.place in
    counted_place p c.args.clock.0 c.self.invariant within

pub moved-requires-clause-size : goal.moved-requires-clause-size
moved-requires-clause-size g c = ap (λ (ds : Description). length ds) c.register_clock.ensures.defs ∙ sym c.self.invariant.counted.stands.size

pub moved-requires-clause-from : goal.moved-requires-clause-from
moved-requires-clause-from g c =
    let m = c.self.inside in
    let p : Parts = parts_of m.window m.tree m.handles m.counts m.notifiers m.credits m.spent m.ignore_unused m.flight m.course m.prepare_holds m.enable_holds m.steps in
    let free : registered m.tree.clocks c.args.clock.0 ≡ false = rw (← c.self.view_is) at c.requires.free in
    no_link p c.args.clock.0 c.self.invariant free

pub moved-requires-clause-others : goal.moved-requires-clause-others
moved-requires-clause-others g c =
    let m = c.self.inside in
    let p : Parts = parts_of m.window m.tree m.handles m.counts m.notifiers m.credits m.spent m.ignore_unused m.flight m.course m.prepare_holds m.enable_holds m.steps in
    other_links p c.args.clock.0 c.register_clock.new.tree.clocks c.self.invariant c.register_clock.ensures.links

pub invariant_of-self : goal.invariant_of-self
invariant_of-self g c =
    let m = c.self.inside in
    let p : Parts = parts_of m.window m.tree m.handles m.counts m.notifiers m.credits m.spent m.ignore_unused m.flight m.course m.prepare_holds m.enable_holds m.steps in
    let quiet : m.flight.going ≡ false = rw (← c.self.view_is) at c.requires.quiet in
    let left : m.spent < m.credits = rw (← c.self.view_is) at c.requires.credit in
    let place : c.args.clock.0 < length m.tree.defs = rw (← c.self.view_is) at c.requires.place in
    let free : registered m.tree.clocks c.args.clock.0 ≡ false = rw (← c.self.view_is) at c.requires.free in
    let now : Registered p c.args.clock.0 c.register_clock.new.tree c.moved.new.self = record {
      place = place;
      free = free;
      rows = c.register_clock.ensures.rows;
      clocks = c.register_clock.ensures.clocks;
      order = c.register_clock.ensures.order;
      defs = c.register_clock.ensures.defs;
      kept = c.register_clock.ensures.kept;
      stands = c.register_clock.ensures.stands;
      link = (row_of c.register_clock.new.tree.clocks c.args.clock.0).link;
      counts = c.moved.ensures.moved;
      links = c.moved.ensures.links;
      keeps = c.moved.ensures.stands;
    } in
    let plain : is_critical m.tree.defs c.args.clock.0 ≡ false = rw (← c.self.view_is) at c.requires.plain in
    whole_described (with_registered p m.window c.register_clock.new.tree c.moved.new.self) (desc_same c.register_clock.new.tree m.tree c.register_clock.ensures.checked c.register_clock.ensures.defs)
    (whole_registered p c.args.clock.0 c.register_clock.new.tree c.moved.new.self c.self.invariant quiet now plain left)

pub returns : goal.returns
returns g c =
    let m = c.self.inside in
    let p : Parts = parts_of m.window m.tree m.handles m.counts m.notifiers m.credits m.spent m.ignore_unused m.flight m.course m.prepare_holds m.enable_holds m.steps in
    let quiet : m.flight.going ≡ false = rw (← c.self.view_is) at c.requires.quiet in
    let place : c.args.clock.0 < length m.tree.defs = rw (← c.self.view_is) at c.requires.place in
    let free : registered m.tree.clocks c.args.clock.0 ≡ false = rw (← c.self.view_is) at c.requires.free in
    let now : Registered p c.args.clock.0 c.register_clock.new.tree c.moved.new.self = record {
      place = place;
      free = free;
      rows = c.register_clock.ensures.rows;
      clocks = c.register_clock.ensures.clocks;
      order = c.register_clock.ensures.order;
      defs = c.register_clock.ensures.defs;
      kept = c.register_clock.ensures.kept;
      stands = c.register_clock.ensures.stands;
      link = (row_of c.register_clock.new.tree.clocks c.args.clock.0).link;
      counts = c.moved.ensures.moved;
      links = c.moved.ensures.links;
      keeps = c.moved.ensures.stands;
    } in
    let plain : is_critical m.tree.defs c.args.clock.0 ≡ false = rw (← c.self.view_is) at c.requires.plain in
    rw (← c.self.view_is)
    (becomes_described p (λ k. nat_eq c.args.clock.0 k) (λ s. register s c.args.clock.0) (with_registered p m.window c.register_clock.new.tree c.moved.new.self) (desc_same c.register_clock.new.tree m.tree c.register_clock.ensures.checked c.register_clock.ensures.defs)
    (becomes_registered p c.args.clock.0 c.register_clock.new.tree c.moved.new.self c.self.invariant quiet now plain))
