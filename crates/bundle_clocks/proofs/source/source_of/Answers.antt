use Rattle.std.proofs.Common.{◌+◌, ◌∙◌, ◌++◌, ◌∷◌, [], ap, sym, replicate, arith}
use Rattle.bundle_text.specs.Lines.{line_at}
use Rattle.bundle_clocks.specs.Source.{text_of_lines}
use Rattle.bundle_clocks.proofs.Room.{lines-more}
use Rattle.bundle_clocks.proofs.Sources.{text_is}
use Rattle.bundle_clocks.proofs.source.source_of.Goals as goal

pub push_line-requires : goal.push_line-requires
push_line-requires c = text_is c.args.lines.now c.loop-at.at (c.requires.text c.loop-at.at (omega (arith, c.requires.within)))

pub loop-at-preserved : goal.loop-at-preserved
loop-at-preserved c =
    let ls = c.args.lines.now in
    let first = c.args.section.place + 1 in
    c.in_ok-push_line.ensures
    ∙ (ap (λ text. text ++ text_of_lines (line_at ls c.loop-at.at ∷ [])) c.loop-at.invariant
    ∙ sym (lines-more (replicate first []) ls first c.loop-at.at (omega arith) (omega (arith, c.requires.within))))
