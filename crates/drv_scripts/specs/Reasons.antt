-- What a description that breaks a rule is refused for.
use Rattle.std.specs.Prelude.{ℕ, List, slice_index}
use Rattle.clk_base.specs.declared.fault.DescFault.{DescFault}
use Rattle.clk_base.specs.declared.fault.DescFault.TheVariants as rules
use Rattle.clk_base.specs.Valid.{Rule, counts, ranges, bank, apart, acyclic, levels, bounded}
use Rattle.bundle_text.specs.declared.fault.BundleFault.{BundleFault}
use Rattle.bundle_text.specs.declared.fault.BundleFault.TheVariants as faults
use Rattle.bundle_text.specs.declared.reason.Reason.{Reason}
use Rattle.bundle_text.specs.declared.reason.Reason.TheVariants as reasons

-- what a clock that breaks a rule is refused for
abbrev pub rule_reason : Rule → Reason
rule_reason counts = reasons.TooMany
rule_reason ranges = reasons.BadRange
rule_reason bank = reasons.FieldOutOfBank
rule_reason apart = reasons.FieldOverlap
rule_reason acyclic = reasons.Cycle
rule_reason levels = reasons.TooMany
rule_reason bounded = reasons.TooMuchWork

-- what the fault of a description tells, its clocks standing on these lines
abbrev pub rule_told : List ℕ → DescFault → BundleFault
rule_told numbers (rules.TooMany c) = faults.Refused (slice_index numbers c.0) reasons.TooMany
rule_told numbers (rules.BadRange c) = faults.Refused (slice_index numbers c.0) reasons.BadRange
rule_told numbers (rules.FieldOutOfBank c) = faults.Refused (slice_index numbers c.0) reasons.FieldOutOfBank
rule_told numbers (rules.FieldOverlap c) = faults.Refused (slice_index numbers c.0) reasons.FieldOverlap
rule_told numbers (rules.Cycle c) = faults.Refused (slice_index numbers c.0) reasons.Cycle
rule_told numbers (rules.TooMuchWork c) = faults.Refused (slice_index numbers c.0) reasons.TooMuchWork
rule_told numbers rules.NoMemory = faults.NoMemory
