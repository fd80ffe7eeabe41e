use Rattle.std.proofs.Common.{List, sym, subst, ◌∙◌, ap, take, ◌++◌, ◌∷◌, []}
use Rattle.std.proofs.lemmas.List.{take_more}
use Rattle.clk_base.specs.declared.command.Command.{Command}
use Rattle.drv_scripts.specs.declared.bundle.Script.{Script}
use Rattle.driver_runs.specs.Standing.{IsNew}
use Rattle.driver_runs.specs.Moves.{AreNew}
use Rattle.driver_runs.specs.declared.standing.Standing.{Standing}
use Rattle.driver_runs.proofs.Sides.{new_more}
use Rattle.driver_runs.proofs.scripts.begin_all.Goals as goal

pub loop-script-preserved : goal.loop-script-preserved
loop-script-preserved c =
    let drivers = c.args.drivers.now in
    let i = c.loop-script.script-index in
    let s = c.script-item.result in
    let x = c.in_ok-new.field-0 in
    let taken = take_more drivers i s c.loop-script-test.true ∙ ap (λ (t : Script). take i drivers ++ t ∷ []) (sym c.script-item.is) in
    let new = subst (λ (cs : List Command). IsNew cs x) c.as_slice.ensures c.in_ok-new.ensures in
    subst (λ (ds : List Script). AreNew ds c.push.new.self.items) (sym taken)
    (subst (λ (xs : List Standing). AreNew (take i drivers ++ s ∷ []) xs) (sym c.in_ok-push.ensures.items) (new_more (take i drivers) c.loop-script.standings.items s x c.loop-script.invariant new))
