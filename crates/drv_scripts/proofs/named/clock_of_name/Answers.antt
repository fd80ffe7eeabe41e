use Rattle.std.proofs.Common.{◌≡◌, ◌∙◌, Some, sym}
use Rattle.std.specs.Prelude.{slice_get}
use Rattle.drv_scripts.proofs.Looked.{get_there, name_none, name_some}
use Rattle.drv_scripts.proofs.named.clock_of_name.Goals as goal

pub returns-in_err-place : goal.returns-in_err-place
returns-in_err-place c = c.from_residual.ensures ∙ sym (name_none c.args.names.now c.args.name.now (sym c.in_err-place.ensures))

pub returns-in-Some : goal.returns-in-Some
returns-in-Some c =
    let found : slice_get c.args.names.now c.in_ok-place.place ≡ Some c.in-Some.own.now = get_there c.args.names.now c.in_ok-place.place c.in-Some.own.now c.in-Some.ensures.lookup.3.0 c.in-Some.ensures.lookup.1 in
    sym (name_some c.args.names.now c.args.name.now c.in_ok-place.place c.in-Some.own.now (sym c.in_ok-place.ensures) found)
