use Rattle.std.proofs.Common.{◌≡◌, None, ◌<◌, ◌∙◌, true, Option, Some, ℕ, List, length, sym, subst, ap}
use Rattle.std.specs.Prelude.{slice_index, IfSome}
use Rattle.clk_base.specs.Description.{Description}
use Rattle.clk_base.specs.declared.call.Micro.TheVariants as micro
use Rattle.clk_model.specs.State.{registered}
use Rattle.clk_flight.specs.Flights.{own_step}
use Rattle.notifiers.specs.declared.notifier.Notifier.{Notifier}
use Rattle.core_parts.specs.Course.{notifiers_at, behind_visit, set_along}
use Rattle.rate_planner.specs.Kept.{wired}
use Rattle.clk_machine.specs.Making.{ComesFirst}
use Rattle.clk_machine.specs.Posted.{IsPosted}
use Rattle.core_parts.specs.Listed.{rows_from}
use Rattle.clk_machine.specs.Parts.{Parts, parts_of}
use Rattle.core_parts.specs.Shape.{LinksLie}
use Rattle.core_parts.proofs.Moving.{links_within, clock_within}
use Rattle.clk_machine.proofs.Visiting.{Visited, with_visit, visit_there, posted_less, whole_visited, visit_enters}
use Rattle.core_parts.specs.Tied.{desc_of}
use Rattle.clk_machine.proofs.Described.{whole_described, enters_described}
use Rattle.core_parts.proofs.Described.{desc_same}
use Rattle.clk_base.specs.declared.event.Event.TheVariants as event
use Rattle.clk_base.specs.declared.event.Turn.TheVariants as turn
use Rattle.clk_machine.proofs.machine.Machine.visit.Goals as goal

pub set_along-requires-clause-place : goal.set_along-requires-clause-place
set_along-requires-clause-place g c =
    let m = c.self.inside in
    let p : Parts = parts_of m.window m.tree m.handles m.counts m.notifiers m.credits m.spent m.ignore_unused m.flight m.course m.prepare_holds m.enable_holds m.steps in
    let going : p.flight.going ≡ true = subst (λ (q : Parts). q.flight.going ≡ true) (sym c.self.view_is) c.requires.going in
    let own : own_step p.flight ≡ Some (micro.Visit c.args.clock) = subst (λ (q : Parts). own_step q.flight ≡ Some (micro.Visit c.args.clock)) (sym c.self.view_is) c.requires.next in
    clock_within (desc_of m.tree) m.window m.tree c.args.clock.0 c.self.invariant.tied (visit_there m.flight (registered m.tree.clocks) c.args.clock own (c.self.invariant.flown going).way)

pub set_along-requires-clause-links : goal.set_along-requires-clause-links
set_along-requires-clause-links g c =
    let m = c.self.inside in
    subst (λ (d : Description). LinksLie d m.tree.clocks) (sym c.self.invariant.tied.defs) (links_within (desc_of m.tree) m.window m.tree c.self.invariant.tied)

pub post-requires-clause-next : goal.post-requires-clause-next
post-requires-clause-next g c =
    let m = c.self.inside in
    let p : Parts = parts_of m.window m.tree m.handles m.counts m.notifiers m.credits m.spent m.ignore_unused m.flight m.course m.prepare_holds m.enable_holds m.steps in
    subst (λ (q : Parts). own_step q.flight ≡ Some (micro.Visit c.args.clock)) (sym c.self.view_is) c.requires.next

pub post-requires-clause-place : goal.post-requires-clause-place
post-requires-clause-place g c =
    let m = c.self.inside in
    let p : Parts = parts_of m.window m.tree m.handles m.counts m.notifiers m.credits m.spent m.ignore_unused m.flight m.course m.prepare_holds m.enable_holds m.steps in
    let going : p.flight.going ≡ true = subst (λ (q : Parts). q.flight.going ≡ true) (sym c.self.view_is) c.requires.going in
    let own : own_step p.flight ≡ Some (micro.Visit c.args.clock) = subst (λ (q : Parts). own_step q.flight ≡ Some (micro.Visit c.args.clock)) (sym c.self.view_is) c.requires.next in
    subst (λ (d : Description). c.args.clock.0 < length d) (sym (c.set_along.ensures.defs ∙ c.self.invariant.tied.defs))
    (clock_within (desc_of m.tree) m.window m.tree c.args.clock.0 c.self.invariant.tied (visit_there m.flight (registered m.tree.clocks) c.args.clock own (c.self.invariant.flown going).way))

-- what is told, by the notifiers that the clock has in the parts
posted_of : (g : _) (c : goal.After-self-1 g) → IsPosted c.self.inside.course c.args.clock (notifiers_at c.self.inside.notifiers c.args.clock.0) (slice_index c.set_along.new.tree.rates c.args.clock.0) c.self.inside.flight c.post.new.flight
posted_of g c =
    let m = c.self.inside in
    let count : length c.chain-count.result.now ≡ notifiers_at m.notifiers c.args.clock.0 = ap (λ (ns : List Notifier). length ns) c.chain-count.ensures.chain in
    subst (λ (k : ℕ). IsPosted m.course c.args.clock k (slice_index c.set_along.new.tree.rates c.args.clock.0) m.flight c.post.new.flight) count c.post.ensures.posted

visited_of : (g : _) (c : goal.After-self-1 g) → Visited (parts_of c.self.inside.window c.self.inside.tree c.self.inside.handles c.self.inside.counts c.self.inside.notifiers c.self.inside.credits c.self.inside.spent c.self.inside.ignore_unused c.self.inside.flight c.self.inside.course c.self.inside.prepare_holds c.self.inside.enable_holds c.self.inside.steps)
    c.args.clock c.set_along.new.window c.set_along.new.tree (posted_of g c).posts c.post.new.flight c.post.new.course
visited_of g c =
    let m = c.self.inside in
    let p : Parts = parts_of m.window m.tree m.handles m.counts m.notifiers m.credits m.spent m.ignore_unused m.flight m.course m.prepare_holds m.enable_holds m.steps in
    let count : length c.chain-count.result.now ≡ notifiers_at m.notifiers c.args.clock.0 = ap (λ (ns : List Notifier). length ns) c.chain-count.ensures.chain in
    let own : own_step p.flight ≡ Some (micro.Visit c.args.clock) = subst (λ (q : Parts). own_step q.flight ≡ Some (micro.Visit c.args.clock)) (sym c.self.view_is) c.requires.next in
    let posted = posted_of g c in
    record {
      whole = c.self.invariant;
      going = subst (λ (q : Parts). q.flight.going ≡ true) (sym c.self.view_is) c.requires.going;
      own = own;
      first = subst (λ (q : Parts). ComesFirst q (micro.Visit c.args.clock)) (sym c.self.view_is) c.requires.first;
      size = c.set_along.ensures.size;
      words =
          subst (λ (o : Option ℕ). IfSome m.window.words (λ regs. c.set_along.new.window.words ≡ Some (set_along o m.course.chain (wired m.tree.defs regs m.tree) c.args.clock.0)))
          c.missed-missed.ensures c.set_along.ensures.words;
      told = c.set_along.ensures.told;
      are = c.set_along.ensures.are;
      behind = c.set_along.ensures.behind;
      locks = c.set_along.ensures.locks;
      kept = c.set_along.ensures.kept;
      rows = c.set_along.ensures.rows;
      order = c.set_along.ensures.order;
      defs = c.set_along.ensures.defs;
      stands = c.set_along.ensures.stands;
      none_ = posted.none_;
      some_ = posted.some_;
      few = posted.few;
      flight = posted.flight;
      less = posted_less m.course c.args.clock (notifiers_at m.notifiers c.args.clock.0) (slice_index c.set_along.new.tree.rates c.args.clock.0) m.flight c.post.new.flight (rows_from 0 m.notifiers) own posted;
      chain = c.post.ensures.chain;
      notified = c.post.ensures.notified ∙ ap (λ (k : ℕ). behind_visit k m.course.notified) count;
    }

pub invariant_of-self : goal.invariant_of-self
invariant_of-self g c =
    let m = c.self.inside in
    let p : Parts = parts_of m.window m.tree m.handles m.counts m.notifiers m.credits m.spent m.ignore_unused m.flight m.course m.prepare_holds m.enable_holds m.steps in
    whole_described (with_visit p c.set_along.new.window c.set_along.new.tree c.post.new.flight c.post.new.course) (desc_same c.set_along.new.tree m.tree c.set_along.ensures.checked c.set_along.ensures.defs)
    (whole_visited p c.args.clock c.set_along.new.window c.set_along.new.tree (posted_of g c).posts c.post.new.flight c.post.new.course (visited_of g c))

pub returns : goal.returns
returns g c =
    let m = c.self.inside in
    let p : Parts = parts_of m.window m.tree m.handles m.counts m.notifiers m.credits m.spent m.ignore_unused m.flight m.course m.prepare_holds m.enable_holds m.steps in
    rw (← c.self.view_is)
    (enters_described p p.flight.driver (event.Step (micro.Visit c.args.clock) None) turn.Going (with_visit p c.set_along.new.window c.set_along.new.tree c.post.new.flight c.post.new.course) (desc_same c.set_along.new.tree m.tree c.set_along.ensures.checked c.set_along.ensures.defs)
    (visit_enters p c.args.clock c.set_along.new.window c.set_along.new.tree (posted_of g c).posts c.post.new.flight c.post.new.course (visited_of g c)))
