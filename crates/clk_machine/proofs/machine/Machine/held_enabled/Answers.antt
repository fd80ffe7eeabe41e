use Rattle.std.proofs.Common.{◌≡◌, ◌<◌, true, Some, refl, sym, subst, length}
use Rattle.std.specs.Prelude.{slice_index}
use Rattle.clk_base.specs.declared.call.Micro.TheVariants as micro
use Rattle.clk_model.specs.State.{registered}
use Rattle.clk_flight.specs.Flights.{own_step}
use Rattle.clk_machine.specs.Parts.{Parts, parts_of}
use Rattle.clk_machine.proofs.HoldsMaking.{held_there}
use Rattle.core_parts.proofs.Moving.{clock_within}
use Rattle.clk_machine.proofs.Room.{enable_place}
use Rattle.core_parts.specs.Tied.{desc_of}
use Rattle.clk_machine.proofs.machine.Machine.held_enabled.Goals as goal

pub times-requires : goal.times-requires
times-requires g c =
    let m = c.self.inside in
    let p : Parts = parts_of m.window m.tree m.handles m.counts m.notifiers m.credits m.spent m.ignore_unused m.flight m.course m.prepare_holds m.enable_holds m.steps in
    let going : p.flight.going ≡ true = subst (λ (q : Parts). q.flight.going ≡ true) (sym c.self.view_is) c.requires.going in
    let own : own_step p.flight ≡ Some (micro.DropEnable c.args.clock) = subst (λ (q : Parts). own_step q.flight ≡ Some (micro.DropEnable c.args.clock)) (sym c.self.view_is) c.requires.next in
    let there : registered m.tree.clocks c.args.clock.0 ≡ true = held_there p (micro.DropEnable c.args.clock) c.args.clock.0 c.self.invariant going refl own refl in
    let within : c.args.clock.0 < length m.tree.defs = clock_within (desc_of m.tree) m.window m.tree c.args.clock.0 c.self.invariant.tied there in
    enable_place p c.args.clock.0 c.self.invariant within

pub returns : goal.returns
returns g c =
    let m = c.self.inside in
    let p : Parts = parts_of m.window m.tree m.handles m.counts m.notifiers m.credits m.spent m.ignore_unused m.flight m.course m.prepare_holds m.enable_holds m.steps in
    let going : p.flight.going ≡ true = subst (λ (q : Parts). q.flight.going ≡ true) (sym c.self.view_is) c.requires.going in
    let own : own_step p.flight ≡ Some (micro.DropEnable c.args.clock) = subst (λ (q : Parts). own_step q.flight ≡ Some (micro.DropEnable c.args.clock)) (sym c.self.view_is) c.requires.next in
    record { times = subst (λ (q : Parts). c.times.result ≡ slice_index q.enable_holds c.args.clock.0) c.self.view_is c.times.ensures }
