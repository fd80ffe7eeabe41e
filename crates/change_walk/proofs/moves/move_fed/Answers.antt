-- Step by step.
use Rattle.change_walk.proofs.Rests.{added_then}
use Rattle.change_walk.proofs.moves.move_fed.Goals as goal

pub returns : goal.returns
returns c =
    added_then c.args.steps.now.items c.push.new.self.items _ _ _ c.in_ok-push.ensures.items
    (added_then c.push.new.self.items c.push-2.new.self.items _ _ _ c.in_ok-push-2.ensures.items
    (added_then c.push-2.new.self.items c.hold.new.steps.items _ _ _ c.in_ok-hold.ensures
    (added_then c.hold.new.steps.items c.hold-2.new.steps.items _ _ _ c.in_ok-hold-2.ensures
    (added_then c.hold-2.new.steps.items c.relink.new.steps.items _ _ _ c.in_ok-relink.ensures
    (added_then c.relink.new.steps.items c.drop_old.new.steps.items _ _ _ c.in_ok-drop_old.ensures c.in_ok-unfeed.ensures)))))
