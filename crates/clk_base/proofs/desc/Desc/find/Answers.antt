-- The set's index of the name is the clock's place.
use Rattle.std.proofs.Common.{Some, None}
use Rattle.clk_base.proofs.Names.{placed-clock_named}
use Rattle.clk_base.proofs.desc.Desc.find.Goals as goal

pub returns-in_err-place : goal.returns-in_err-place
returns-in_err-place c =
    rw c.from_residual.ensures
    (placed-clock_named c.self.inside.names.keys c.self.inside.defs.items c.args.self.now c.args.name.now None c.self.invariant.texts_are c.self.view_is c.in_err-place.ensures.index)

pub returns : goal.returns
returns c =
    placed-clock_named c.self.inside.names.keys c.self.inside.defs.items c.args.self.now c.args.name.now (Some c.in_ok-place.place) c.self.invariant.texts_are c.self.view_is c.in_ok-place.ensures.index
