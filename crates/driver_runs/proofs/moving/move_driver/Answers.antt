use Rattle.std.proofs.Common.{◌-◌, List, get_or, arith, sym, subst, refl}
use Rattle.std.proofs.lemmas.Option.{slice_get-get_or}
use Rattle.std.proofs.lemmas.Result.{IfOk-weaker}
use Rattle.clk_base.specs.declared.command.Command.{Command}
use Rattle.driver_runs.specs.Events.{MayMove, MakesEvent}
use Rattle.driver_runs.proofs.moving.move_driver.Goals as goal

pub make_event-requires : goal.make_event-requires
make_event-requires g c =
    let i = c.args.driver - 1 in
    let within = c.requires.within in
    let some = c.requires.first in
    let many = c.requires.many in
    let s = c.index-drivers-place.result in
    let x = c.index-standings-place.result in
    let script = get_or c.args.drivers.now i s in
    let standing = get_or c.args.standings.now i x in
    subst (λ (cs : List Command). MayMove c.args.core.now c.args.driver cs standing c.args.going) (sym c.as_slice-commands.ensures)
    (c.requires.may script standing (slice_get-get_or c.args.drivers.now i s (omega arith)) (slice_get-get_or c.args.standings.now i x (omega arith)))

pub returns-clause-ok : goal.returns-clause-ok
returns-clause-ok g c =
    let i = c.args.driver - 1 in
    let within = c.requires.within in
    let some = c.requires.first in
    let many = c.requires.many in
    let s = c.index-drivers-place.result in
    let x = c.index-standings-place.result in
    let script = get_or c.args.drivers.now i s in
    let standing = get_or c.args.standings.now i x in
    IfOk-weaker c.make_event.result _ _
    (λ after made. record {
      script = script;
      before = standing;
      after = c.make_event.new.standing;
      script_is = slice_get-get_or c.args.drivers.now i s (omega arith);
      before_is = slice_get-get_or c.args.standings.now i x (omega arith);
      others = refl;
      event = subst (λ (cs : List Command). MakesEvent c.args.core.now c.args.driver cs standing c.args.going c.make_event.new.core c.make_event.new.standing after) c.as_slice-commands.ensures made;
    })
    c.make_event.ensures.ok
