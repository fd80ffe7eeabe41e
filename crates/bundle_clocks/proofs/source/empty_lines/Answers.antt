use Rattle.std.proofs.Common.{◌∙◌, ◌++◌, ◌∷◌, [], ap, sym}
use Rattle.bundle_clocks.proofs.Room.{empty-more}
use Rattle.bundle_clocks.proofs.source.empty_lines.Goals as goal

pub loop-at-preserved : goal.loop-at-preserved
loop-at-preserved c = c.in_ok-push_str.ensures.bytes ∙ (ap (λ text. text ++ 10 ∷ []) c.loop-at.invariant ∙ sym (empty-more c.loop-at._at))
