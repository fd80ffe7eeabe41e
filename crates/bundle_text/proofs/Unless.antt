-- A fault unless a test holds.
use Rattle.std.proofs.Common.{◌≡◌, Bool, true, false, None, refl}
use Rattle.bundle_text.specs.declared.reason.Reason.{Reason}
use Rattle.bundle_text.specs.Faults.{unless}

-- where there is no fault, the test holds
pub unless_none : (b : Bool) (reason : Reason) → unless b reason ≡ None → b ≡ true
unless_none true reason h = refl
unless_none false reason h = absurd (cc)
