use Rattle.std.proofs.Common.{◌≡◌, true, sym, subst}
use Rattle.clk_machine.specs.Making.{ComesFirst, TellsNext}
use Rattle.clk_machine.specs.Parts.{Parts, parts_of}
use Rattle.clk_machine.proofs.Telling.{whole_told, tell_enters}
use Rattle.clk_machine.proofs.machine.Machine.tell.Goals as goal

pub invariant_of-self : goal.invariant_of-self
invariant_of-self g c =
    let m = c.self.inside in
    let p : Parts = parts_of m.window m.tree m.handles m.counts m.notifiers m.credits m.spent m.ignore_unused m.flight m.course m.prepare_holds m.enable_holds m.steps in
    let going : p.flight.going ≡ true = subst (λ (q : Parts). q.flight.going ≡ true) (sym c.self.view_is) c.requires.going in
    let next : TellsNext p = subst (λ (q : Parts). TellsNext q) (sym c.self.view_is) c.requires.next in
    whole_told p c.go_on.new.self c.self.invariant going next c.go_on.ensures.flight c.go_on.ensures.less

pub returns : goal.returns
returns g c =
    let m = c.self.inside in
    let p : Parts = parts_of m.window m.tree m.handles m.counts m.notifiers m.credits m.spent m.ignore_unused m.flight m.course m.prepare_holds m.enable_holds m.steps in
    let going : p.flight.going ≡ true = subst (λ (q : Parts). q.flight.going ≡ true) (sym c.self.view_is) c.requires.going in
    let next : TellsNext p = subst (λ (q : Parts). TellsNext q) (sym c.self.view_is) c.requires.next in
    let first : ComesFirst p c.args.step = subst (λ (q : Parts). ComesFirst q c.args.step) (sym c.self.view_is) c.requires.first in
    rw (← c.self.view_is) (tell_enters p c.args.step c.go_on.new.self going c.requires.notice next first c.go_on.ensures.flight c.go_on.ensures.change c.go_on.ensures.less)
