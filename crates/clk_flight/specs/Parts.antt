-- The parts of a flight that keep a list.
use Rattle.std.specs.Prelude.{ℕ, List, [], ◌∷◌, Option, None, Bool, true, false}
use Rattle.clk_base.specs.declared.call.Sleeping.{Sleeping}
use Rattle.clk_base.specs.declared.call.Sleeping.TheVariants as call
use Rattle.std.specs.Option.{option_map_or}
use Rattle.clk_base.specs.declared.call.Micro.{Micro}
use Rattle.clk_base.specs.declared.call.Micro.TheVariants as micro
use Rattle.clk_base.specs.declared.clock.ClockId.{ClockId}

-- the PLLs that are raised, the last raised first, and room for so many
pub record RaisedState : Type 0 where
  pub plls : List ℕ
  pub room : ℕ

-- whether a timeout of a call leaves the visit that comes next
abbrev pub keeps_visit : Sleeping → Bool
keeps_visit (call.Prepare h) = false
keeps_visit (call.SetParent h p) = false
keeps_visit (call.Probe c) = false
keeps_visit call.Sweep = false
keeps_visit _ = true

-- the clock that isn't set after a timeout, if the visit of this one stays
abbrev pub missed_of : Sleeping → Option ℕ → Option ℕ
missed_of (call.SetRate h x) alone = alone
missed_of (call.SetRateExclusive h x) alone = alone
missed_of (call.SetRange h least most) alone = alone
missed_of _ alone = None

-- the visit of a clock, if there is one
abbrev pub visit_alone : Option ClockId → List Micro
visit_alone alone = option_map_or (λ c. micro.Visit c ∷ []) alone []

-- a script, and what is left of it
pub record ScriptState : Type 0 where
  pub whole : List Micro
  pub left : List Micro
