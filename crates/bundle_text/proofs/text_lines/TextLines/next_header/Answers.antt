use Rattle.std.proofs.Common.{sym, ap, ◌∙◌, arith}
use Rattle.bundle_text.specs.Lines.{is_header}
use Rattle.bundle_text.proofs.Headers.{header_from-is}
use Rattle.bundle_text.proofs.text_lines.TextLines.next_header.Goals as goal

pub returns-then-begins_section-clause-at : goal.returns-then-begins_section-clause-at
returns-then-begins_section-clause-at c =
    sym (header_from-is c.args.self.now c.args.from c.loop-at.at (omega arith) (omega arith) c.loop-at.invariant (λ _. ap is_header (sym c.line.ensures) ∙ sym c.begins_section.ensures ∙ c.if-begins_section.true))

pub returns-clause-at : goal.returns-clause-at
returns-clause-at c =
    sym (header_from-is c.args.self.now c.args.from c.len-len.result (omega arith) (omega arith) (λ k low high. c.loop-at.invariant k low (omega arith)) (λ h. absurd (omega arith)))
