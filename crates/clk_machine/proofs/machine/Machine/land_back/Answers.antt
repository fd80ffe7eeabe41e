use Rattle.std.proofs.Common.{◌≡◌, true, sym, subst}
use Rattle.clk_base.specs.declared.call.Micro.TheVariants as micro
use Rattle.clk_model.specs.Step.{with_range}
use Rattle.clk_machine.specs.Landing.{PutsBack}
use Rattle.clk_machine.specs.Making.{ComesFirst}
use Rattle.clk_machine.specs.Parts.{Parts, parts_of}
use Rattle.clk_machine.proofs.Ending.{whole_ended, end_enters}
use Rattle.clk_machine.proofs.Landings.{back_ends, back_written, is_live}
use Rattle.clk_machine.proofs.machine.Machine.land_back.Goals as goal

pub set_range-requires : goal.set_range-requires
set_range-requires g c =
    let m = c.self.inside in
    let p : Parts = parts_of m.window m.tree m.handles m.counts m.notifiers m.credits m.spent m.ignore_unused m.flight m.course m.prepare_holds m.enable_holds m.steps in
    let back : PutsBack p c.args.handle c.args.row c.args.least c.args.most = subst (λ (q : Parts). PutsBack q c.args.handle c.args.row c.args.least c.args.most) (sym c.self.view_is) c.requires.back in
    is_live m.handles.handles c.args.handle.number c.args.row back.live

pub invariant_of-self : goal.invariant_of-self
invariant_of-self g c =
    let m = c.self.inside in
    let p : Parts = parts_of m.window m.tree m.handles m.counts m.notifiers m.credits m.spent m.ignore_unused m.flight m.course m.prepare_holds m.enable_holds m.steps in
    let going : p.flight.going ≡ true = subst (λ (q : Parts). q.flight.going ≡ true) (sym c.self.view_is) c.requires.going in
    let back : PutsBack p c.args.handle c.args.row c.args.least c.args.most = subst (λ (q : Parts). PutsBack q c.args.handle c.args.row c.args.least c.args.most) (sym c.self.view_is) c.requires.back in
    whole_ended p c.args.handle.number c.args.row (with_range (c.args.least, c.args.most) c.args.row) c.set_range.new.self m.counts c.end.new.self c.self.invariant going c.end.ensures.flight
    (back_written p c.args.handle c.args.row c.args.least c.args.most c.set_range.new.self c.self.invariant back c.set_range.ensures.range c.set_range.ensures.clocks)

pub returns : goal.returns
returns g c =
    let m = c.self.inside in
    let p : Parts = parts_of m.window m.tree m.handles m.counts m.notifiers m.credits m.spent m.ignore_unused m.flight m.course m.prepare_holds m.enable_holds m.steps in
    let going : p.flight.going ≡ true = subst (λ (q : Parts). q.flight.going ≡ true) (sym c.self.view_is) c.requires.going in
    let first : ComesFirst p micro.End = subst (λ (q : Parts). ComesFirst q micro.End) (sym c.self.view_is) c.requires.first in
    let back : PutsBack p c.args.handle c.args.row c.args.least c.args.most = subst (λ (q : Parts). PutsBack q c.args.handle c.args.row c.args.least c.args.most) (sym c.self.view_is) c.requires.back in
    rw (← c.self.view_is) (end_enters p _ _ (back_ends p c.args.handle c.args.row c.args.least c.args.most c.set_range.new.self c.end.new.self c.self.invariant going c.end.ensures.flight
    (back_written p c.args.handle c.args.row c.args.least c.args.most c.set_range.new.self c.self.invariant back c.set_range.ensures.range c.set_range.ensures.clocks) first back))
