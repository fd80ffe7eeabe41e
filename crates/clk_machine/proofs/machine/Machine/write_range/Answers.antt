use Rattle.std.proofs.Common.{◌≡◌, sym, ap, subst, Some}
use Rattle.clk_model.specs.State.{handle_at}
use Rattle.rate_requests.specs.Handles.{HandleTable, with_range_at}
use Rattle.clk_machine.specs.Parts.{Parts, parts_of, IsWhole}
use Rattle.clk_machine.proofs.Landings.{is_live}
use Rattle.clk_machine.proofs.Ranging.{table_is, whole_ranged}
use Rattle.clk_machine.proofs.machine.Machine.write_range.Goals as goal

pub set_range-requires : goal.set_range-requires
set_range-requires g c =
    let m = c.self.inside in
    let live : handle_at m.handles.handles c.args.handle.number ≡ Some c.args.row = rw (← c.self.view_is) at c.requires in
    is_live m.handles.handles c.args.handle.number c.args.row live

pub invariant_of-self : goal.invariant_of-self
invariant_of-self g c =
    let m = c.self.inside in
    let p : Parts = parts_of m.window m.tree m.handles m.counts m.notifiers m.credits m.spent m.ignore_unused m.flight m.course m.prepare_holds m.enable_holds m.steps in
    let n = c.args.handle.number in
    let live : handle_at m.handles.handles n ≡ Some c.args.row = rw (← c.self.view_is) at c.requires in
    subst (λ (t : HandleTable). IsWhole (parts_of m.window m.tree t m.counts m.notifiers m.credits m.spent m.ignore_unused m.flight m.course m.prepare_holds m.enable_holds m.steps))
    (sym (table_is m.handles c.set_range.new.self (with_range_at m.handles.handles n c.args.least c.args.most) c.set_range.ensures.clocks c.set_range.ensures.place c.set_range.ensures.range))
    (whole_ranged p n c.args.least c.args.most c.args.row c.self.invariant live)

pub returns : goal.returns
returns g c =
    let m = c.self.inside in
    rw (← c.self.view_is)
    (ap (λ (t : HandleTable). parts_of m.window m.tree t m.counts m.notifiers m.credits m.spent m.ignore_unused m.flight m.course m.prepare_holds m.enable_holds m.steps)
    (table_is m.handles c.set_range.new.self (with_range_at m.handles.handles c.args.handle.number c.args.least c.args.most) c.set_range.ensures.clocks c.set_range.ensures.place c.set_range.ensures.range))
