use Rattle.std.proofs.Common.{◌∙◌, sym, ap, arith}
use Rattle.bundle_text.proofs.Rows.{KeepsBelow-more}
use Rattle.bundle_text.specs.declared.reason.Reason.TheVariants.{StrayLine}
use Rattle.bundle_text.specs.Faults.{unless}
use Rattle.bundle_sections.proofs.Places.{stopped, version_some, version_kept, version_broken, fault_before, line_between}
use Rattle.bundle_sections.proofs.reading.check_front.Goals as goal

pub returns-then-not-has_version : goal.returns-then-not-has_version
returns-then-not-has_version c =
    stopped _ _ 0 _ _ c.at_place.ensures (omega arith) (λ k below. absurd (omega arith)) (version_broken c.args.lines.now (sym c.has_version.ensures ∙ c.if-not-has_version.true))

pub next_header-first-requires : goal.next_header-first-requires
next_header-first-requires c = version_some c.args.lines.now (sym c.has_version.ensures ∙ c.if-not-has_version.false)

pub loop-at-init : goal.loop-at-init
loop-at-init c = version_kept c.args.lines.now (sym c.has_version.ensures ∙ c.if-not-has_version.false)

pub returns-then-not-branch : goal.returns-then-not-branch
returns-then-not-branch c =
    let at = c.loop-at.at in
    let none = line_between c.args.lines.now 1 at (omega arith) (omega arith) in
    let fault = fault_before c.args.lines.now at (omega arith) none (omega arith) in
    stopped _ _ at _ _ c.at_place-then-not-branch.ensures (omega arith) c.loop-at.invariant (fault ∙ ap (λ b. unless b StrayLine) (sym c.in_ok-is_passed_over.ensures ∙ c.if-not-branch.true))

pub loop-at-preserved : goal.loop-at-preserved
loop-at-preserved c =
    let at = c.loop-at.at in
    let none = line_between c.args.lines.now 1 at (omega arith) (omega arith) in
    let fault = fault_before c.args.lines.now at (omega arith) none (omega arith) in
    KeepsBelow-more _ _ c.loop-at.invariant (fault ∙ ap (λ b. unless b StrayLine) (sym c.in_ok-is_passed_over.ensures ∙ c.if-not-branch.false))
