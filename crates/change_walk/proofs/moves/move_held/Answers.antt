-- Step by step.
use Rattle.change_walk.proofs.Rests.{added_then}
use Rattle.change_walk.proofs.moves.move_held.Goals as goal

pub returns : goal.returns
returns c =
    added_then c.args.steps.now.items c.feed.new.steps.items _ _ _ c.in_ok-feed.ensures
    (added_then c.feed.new.steps.items c.push.new.self.items _ _ _ c.in_ok-push.ensures.items
    (added_then c.push.new.self.items c.relink.new.steps.items _ _ _ c.in_ok-relink.ensures
    (added_then c.relink.new.steps.items c.push-2.new.self.items _ _ _ c.in_ok-push-2.ensures.items c.in_ok-drop_old.ensures)))
