use Rattle.std.proofs.Common.{◌∙◌, sym, ap, arith}
use Rattle.std.specs.Str.{is_utf8}
use Rattle.bundle_text.proofs.Rows.{KeepsBelow-more}
use Rattle.bundle_sections.proofs.Places.{stopped, text_kept, text_broken}
use Rattle.bundle_sections.proofs.reading.check_text.Goals as goal

pub returns-then-not-is_text : goal.returns-then-not-is_text
returns-then-not-is_text c =
    let broken = text_broken c.args.lines.now c.loop-at.at (sym (ap is_utf8 c.line.ensures) ∙ sym c.is_text.ensures ∙ c.if-not-is_text.true) in
    stopped _ _ c.loop-at.at _ _ c.at_place.ensures (omega arith) c.loop-at.invariant broken

pub loop-at-preserved : goal.loop-at-preserved
loop-at-preserved c =
    let kept = text_kept c.args.lines.now c.loop-at.at (sym (ap is_utf8 c.line.ensures) ∙ sym c.is_text.ensures ∙ c.if-not-is_text.false) in
    KeepsBelow-more _ _ c.loop-at.invariant kept
