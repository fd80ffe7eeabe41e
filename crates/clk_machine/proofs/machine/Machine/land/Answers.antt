use Rattle.std.proofs.Common.{◌≡◌, true, sym, subst}
use Rattle.clk_base.specs.declared.call.Micro.TheVariants as micro
use Rattle.clk_machine.specs.Making.{ComesFirst}
use Rattle.clk_machine.specs.Parts.{Parts, parts_of}
use Rattle.core_parts.specs.InFlight.{ends_bare}
use Rattle.clk_machine.proofs.Ending.{whole_landed, end_enters}
use Rattle.clk_machine.proofs.Landings.{bare_ends}
use Rattle.clk_machine.proofs.machine.Machine.land.Goals as goal

pub invariant_of-self : goal.invariant_of-self
invariant_of-self g c =
    let m = c.self.inside in
    let p : Parts = parts_of m.window m.tree m.handles m.counts m.notifiers m.credits m.spent m.ignore_unused m.flight m.course m.prepare_holds m.enable_holds m.steps in
    let going : p.flight.going ≡ true = subst (λ (q : Parts). q.flight.going ≡ true) (sym c.self.view_is) c.requires.going in
    whole_landed p c.end.new.self c.self.invariant going c.end.ensures.flight

pub returns : goal.returns
returns g c =
    let m = c.self.inside in
    let p : Parts = parts_of m.window m.tree m.handles m.counts m.notifiers m.credits m.spent m.ignore_unused m.flight m.course m.prepare_holds m.enable_holds m.steps in
    let going : p.flight.going ≡ true = subst (λ (q : Parts). q.flight.going ≡ true) (sym c.self.view_is) c.requires.going in
    let first : ComesFirst p micro.End = subst (λ (q : Parts). ComesFirst q micro.End) (sym c.self.view_is) c.requires.first in
    let nothing : ends_bare p.flight ≡ true = subst (λ (q : Parts). ends_bare q.flight ≡ true) (sym c.self.view_is) c.requires.bare in
    rw (← c.self.view_is) (end_enters p _ _ (bare_ends p c.end.new.self c.self.invariant going first nothing c.end.ensures.flight))
