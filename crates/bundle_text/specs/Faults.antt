-- Why lines are refused, and what a fault tells.
use Rattle.std.specs.Prelude.{ℕ, Bool, true, false, Option, Some, None}
use Rattle.bundle_text.specs.declared.fault.BundleFault.{BundleFault}
use Rattle.bundle_text.specs.declared.fault.BundleFault.TheVariants.{Refused, NoMemory}
use Rattle.bundle_text.specs.declared.reason.Reason.{Reason}

-- a fault unless the test holds
abbrev pub unless : Bool → Reason → Option Reason
unless true reason = None
unless false reason = Some reason

-- the fault tells a line and a reason of which this holds; want of memory tells nothing
abbrev pub Tells : (ℕ → Reason → Type 0) → BundleFault → Type 0
Tells Holds (Refused line reason) = Holds line reason
Tells Holds NoMemory = Unit {0}
