use Rattle.std.proofs.Common.{◌≡◌, true, sym, subst}
use Rattle.std.specs.Prelude.{is_some}
use Rattle.clk_machine.specs.Parts.{Parts, own_in}
use Rattle.clk_machine.proofs.Owning.{own_known, own_live}
use Rattle.clk_machine.proofs.machine.Machine.known.Goals as goal

pub of-requires : goal.of-requires
of-requires g c =
    own_live c.self.inside.handles.handles c.args._driver c.args.handle.number (subst (λ (q : Parts). is_some (own_in q.table.handles c.args._driver c.args.handle.number) ≡ true) (sym c.self.view_is) c.requires)

pub returns-clause-own : goal.returns-clause-own
returns-clause-own g c =
    let some : is_some (own_in c.self.inside.handles.handles c.args._driver c.args.handle.number) ≡ true = subst (λ (q : Parts). is_some (own_in q.table.handles c.args._driver c.args.handle.number) ≡ true) (sym c.self.view_is) c.requires in
    rw (← c.self.view_is) (own_known c.self.inside.handles.handles c.args._driver c.args.handle.number c.of.result some c.of.ensures)
