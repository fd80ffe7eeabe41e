use Rattle.std.proofs.Common.{◌≡◌, None, ◌<◌, true, Some, refl, sym, ap, subst, ◌∙◌, length, ℕ}
use Rattle.clk_base.specs.declared.call.Micro.TheVariants as micro
use Rattle.clk_base.specs.Description.{Description}
use Rattle.clk_flight.specs.Flights.{own_step}
use Rattle.clk_machine.specs.Making.{ComesFirst}
use Rattle.clk_machine.specs.Parts.{Parts, parts_of}
use Rattle.core_parts.proofs.Moving.{clock_within}
use Rattle.std.specs.Prelude.{slice_index}
use Rattle.clk_model.specs.Tree.{children}
use Rattle.clk_model.specs.Walk.{below_within}
use Rattle.core_parts.specs.Settling.{settled_rows}
use Rattle.clk_machine.proofs.Relinking.{with_relinked, whole_relinked}
use Rattle.clk_machine.proofs.LinkSteps.{Stepped}
use Rattle.clk_machine.proofs.Selecting.{Settles, may_settle, settled_of, settle_enters}
use Rattle.core_parts.specs.Tied.{desc_of}
use Rattle.clk_machine.proofs.Described.{whole_described, enters_described}
use Rattle.core_parts.proofs.Described.{desc_same}
use Rattle.clk_base.specs.declared.event.Event.TheVariants as event
use Rattle.clk_base.specs.declared.event.Turn.TheVariants as turn
use Rattle.clk_machine.proofs.machine.Machine.settle.Goals as goal

pub settle_below-requires : goal.settle_below-requires
settle_below-requires g c =
    let m = c.self.inside in
    let p : Parts = parts_of m.window m.tree m.handles m.counts m.notifiers m.credits m.spent m.ignore_unused m.flight m.course m.prepare_holds m.enable_holds m.steps in
    let going : p.flight.going ≡ true = subst (λ (q : Parts). q.flight.going ≡ true) (sym c.self.view_is) c.requires.going in
    let own : own_step p.flight ≡ Some (micro.Settle c.args.clock) = subst (λ (q : Parts). own_step q.flight ≡ Some (micro.Settle c.args.clock)) (sym c.self.view_is) c.requires.next in
    record { place = subst (λ (ds : Description). c.args.clock.0 < length ds) (sym c.self.invariant.tied.defs) (clock_within (desc_of m.tree) m.window m.tree c.args.clock.0 c.self.invariant.tied (may_settle p c.args.clock c.self.invariant going own)) }

pub invariant_of-self : goal.invariant_of-self
invariant_of-self g c =
    let m = c.self.inside in
    let p : Parts = parts_of m.window m.tree m.handles m.counts m.notifiers m.credits m.spent m.ignore_unused m.flight m.course m.prepare_holds m.enable_holds m.steps in
    let going : p.flight.going ≡ true = subst (λ (q : Parts). q.flight.going ≡ true) (sym c.self.view_is) c.requires.going in
    let own : own_step p.flight ≡ Some (micro.Settle c.args.clock) = subst (λ (q : Parts). own_step q.flight ≡ Some (micro.Settle c.args.clock)) (sym c.self.view_is) c.requires.next in
    let first : ComesFirst p (micro.Settle c.args.clock) = subst (λ (q : Parts). ComesFirst q (micro.Settle c.args.clock)) (sym c.self.view_is) c.requires.first in
    let now : Stepped p (micro.Settle c.args.clock) c.go_on.new.self = record {
      whole = c.self.invariant;
      going = going;
      is = refl;
      own = own;
      first = first;
      flight = c.go_on.ensures.flight;
      change = c.go_on.ensures.change;
      less = c.go_on.ensures.less;
    } in
    let to : Settles p c.args.clock c.settle_below.new.tree = record {
      clocks = c.settle_below.ensures.clocks ∙ ap (λ (n : ℕ). settled_rows (slice_index m.tree.rates) m.tree.clocks (below_within (children m.tree.order m.tree.clocks) n c.args.clock.0)) c.depth.ensures;
      order = c.settle_below.ensures.order;
      rates = c.settle_below.ensures.rates;
      defs = c.settle_below.ensures.defs;
      stands = c.settle_below.ensures.stands;
    } in
    whole_described (with_relinked p m.window c.settle_below.new.tree m.counts m.prepare_holds m.enable_holds c.go_on.new.self) (desc_same c.settle_below.new.tree m.tree c.settle_below.ensures.checked c.settle_below.ensures.defs)
    (whole_relinked p (micro.Settle c.args.clock) m.window c.settle_below.new.tree m.counts m.prepare_holds m.enable_holds c.go_on.new.self (settled_of p c.args.clock c.settle_below.new.tree c.go_on.new.self now to))

pub returns : goal.returns
returns g c =
    let m = c.self.inside in
    let p : Parts = parts_of m.window m.tree m.handles m.counts m.notifiers m.credits m.spent m.ignore_unused m.flight m.course m.prepare_holds m.enable_holds m.steps in
    let going : p.flight.going ≡ true = subst (λ (q : Parts). q.flight.going ≡ true) (sym c.self.view_is) c.requires.going in
    let own : own_step p.flight ≡ Some (micro.Settle c.args.clock) = subst (λ (q : Parts). own_step q.flight ≡ Some (micro.Settle c.args.clock)) (sym c.self.view_is) c.requires.next in
    let first : ComesFirst p (micro.Settle c.args.clock) = subst (λ (q : Parts). ComesFirst q (micro.Settle c.args.clock)) (sym c.self.view_is) c.requires.first in
    let now : Stepped p (micro.Settle c.args.clock) c.go_on.new.self = record {
      whole = c.self.invariant;
      going = going;
      is = refl;
      own = own;
      first = first;
      flight = c.go_on.ensures.flight;
      change = c.go_on.ensures.change;
      less = c.go_on.ensures.less;
    } in
    let to : Settles p c.args.clock c.settle_below.new.tree = record {
      clocks = c.settle_below.ensures.clocks ∙ ap (λ (n : ℕ). settled_rows (slice_index m.tree.rates) m.tree.clocks (below_within (children m.tree.order m.tree.clocks) n c.args.clock.0)) c.depth.ensures;
      order = c.settle_below.ensures.order;
      rates = c.settle_below.ensures.rates;
      defs = c.settle_below.ensures.defs;
      stands = c.settle_below.ensures.stands;
    } in
    rw (← c.self.view_is)
    (enters_described p p.flight.driver (event.Step (micro.Settle c.args.clock) None) turn.Going (with_relinked p m.window c.settle_below.new.tree m.counts m.prepare_holds m.enable_holds c.go_on.new.self) (desc_same c.settle_below.new.tree m.tree c.settle_below.ensures.checked c.settle_below.ensures.defs)
    (settle_enters p c.args.clock c.settle_below.new.tree c.go_on.new.self now to))
