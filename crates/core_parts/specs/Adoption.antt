-- The steps of an adoption and of a registration.
use Rattle.std.specs.Prelude.{◌++◌, List, [], ◌∷◌, Bool, if◌then◌else◌}
use Rattle.clk_base.specs.declared.call.Micro.{Micro}
use Rattle.clk_base.specs.declared.call.Micro.TheVariants as micro
use Rattle.clk_base.specs.declared.clock.ClockId.{ClockId}

-- the steps by which a parent adopts an orphan that is prepared or isn't
abbrev pub adoption_by : ClockId → ClockId → Bool → List Micro
adoption_by a p prepared =
    if prepared
    then micro.Raise p ∷ micro.HoldPrepare p ∷ micro.HoldEnable p ∷ micro.HoldEnable a ∷ micro.Relink a p ∷ micro.DropEnable a ∷ micro.Settle a ∷ []
    else micro.Relink a p ∷ micro.Settle a ∷ []

-- the steps that register a clock that is critical or isn't
abbrev pub registration_of : Bool → ClockId → List Micro
registration_of critical c = (if critical then micro.Raise c ∷ [] else []) ++ micro.Register c ∷ []
