-- A state that follows a sweep of another by its steps alone: a shadow. Which PLL a raise powers it learns at the poll of that PLL.
use Rattle.std.specs.Prelude.{◌≡◌, ℕ, ◌+◌, ◌≤◌, List, [], ◌∷◌, Bool, true, false, Option, Some, None, map, option_map, length, slice_get}
use Rattle.std.specs.Option.{option_map_or}
use Rattle.clk_base.specs.declared.call.Micro.{Micro}
use Rattle.clk_base.specs.declared.call.Micro.TheVariants as micro
use Rattle.clk_base.specs.declared.call.Sleeping.TheVariants as call
use Rattle.clk_base.specs.declared.event.Entry.{Entry}
use Rattle.clk_base.specs.declared.event.Event.{Event}
use Rattle.clk_base.specs.declared.event.Event.TheVariants as event
use Rattle.clk_base.specs.declared.event.Turn.{Turn}
use Rattle.clk_base.specs.declared.event.Turn.TheVariants as turn
use Rattle.clk_base.specs.Description.{Description}
use Rattle.clk_base.specs.Valid.{IsValid}
use Rattle.reg_bank.specs.Registers.{Registers}
use Rattle.clk_model.specs.declared.row.ClockRow.{ClockRow}
use Rattle.clk_model.specs.State.{State, Change, registered}
use Rattle.clk_model.specs.Step.{todo, is_end, powered, to_lower}
use Rattle.clk_model.specs.Machine.{next}
use Rattle.clk_model.specs.Journal.{opening, replay}
use Rattle.clk_model.specs.Prep.{without_enables, is_sweep, prep}
use Rattle.clk_model.specs.Tier.{is_enable_tier}
use Rattle.clk_model.specs.Laws.Twins.{IsTwin}

-- whether a sweep is in flight
abbrev pub sweeps : State → Bool
sweeps s = option_map_or (λ k. is_sweep k.call) s.change false

-- a state without the change in flight and without what that holds prepared
abbrev pub without_change : State → State
without_change s = record s { prepare_holds = []; change = None }

-- the PLL that a step polls, that the first of these steps does, and that the step which comes next does
abbrev pub polled_by : Micro → Option ℕ
polled_by (micro.Poll y) = Some y.0
polled_by _ = None

abbrev pub polled_first : List Micro → Option ℕ
polled_first [] = None
polled_first (m ∷ ms) = polled_by m

abbrev pub polled_next : State → Option ℕ
polled_next s = option_map_or (λ k. polled_first (todo k)) s.change None

-- a state with this PLL powered, if there is one
abbrev pub powered_too : Option ℕ → State → State
powered_too None s = s
powered_too (Some y) s = powered s y true

-- what a state that follows a sweep makes of a step of it: a PLL that is polled is powered, and one that falls, is lowered or isn't used
-- loses its power
abbrev pub sweep_does : State → Micro → State
sweep_does s (micro.Poll y) = powered s y.0 true
sweep_does s (micro.Fall y) = powered s y.0 false
sweep_does s (micro.Lower x) = option_map_or (λ y. powered s y false) (slice_get (to_lower s x.0) 0) s
sweep_does s (micro.Unpower c) = powered s c.0 false
sweep_does s _ = s

-- whether the clock of a lower is registered
abbrev pub lowers_there : List ClockRow → Micro → Bool
lowers_there clocks (micro.Lower x) = registered clocks x.0
lowers_there clocks _ = true

-- a sweep is in flight in both states, whatever comes next of it in the first. There no handle has an enable, and nothing is held; no more
-- credits were spent there and no more steps made. Once the PLL that is polled next is powered there, it has the other's part of the
-- prepare tier, but for the change in flight and what that holds
pub record IsShadow (t s : State) : Type 0 where
  pub follows : sweeps t ≡ true
  pub sweeps_ : sweeps s ≡ true
  pub bare : t.handles ≡ map (option_map without_enables) t.handles
  pub prepares : t.prepare_holds ≡ []
  pub enables : t.enable_holds ≡ []
  pub spent : t.spent ≤ s.spent
  pub steps : t.steps ≤ s.steps
  pub same : prep (without_change (powered_too (polled_next s) t)) ≡ prep (without_change s)

-- a state goes by another: it is a twin of it, and no sweep is in flight there, or it is its shadow
pub data GoesBy (t s : State) : Type 0 where
  as_twin : sweeps t ≡ false → IsTwin t s → GoesBy t s
  as_shadow : IsShadow t s → GoesBy t s

-- an enable, a disable and the question whether a clock runs leave it a shadow
abbrev pub ShadowsStay : Type 0
ShadowsStay = (s t u : State) (d : ℕ) (e : Event) (x : Turn)
    → IsShadow t s → is_enable_tier e ≡ true → next s d e ≡ Some (u, x) → IsShadow t u

-- a sweep that begins in a state of a run makes each twin of it a shadow, with any change of a sweep, once a credit is spent there too
abbrev pub ShadowsBegin : Type 0
ShadowsBegin = (defs : Description) (regs : Registers) (ignore_unused : Bool) (credits : ℕ) (journal : List Entry)
    (t u : State) (l : Change) (d : ℕ)
    → IsValid (length regs) defs → IsTwin t (replay (opening defs regs ignore_unused credits) journal) → is_sweep l.call ≡ true
    → next (replay (opening defs regs ignore_unused credits) journal) d (event.Begin call.Sweep) ≡ Some (u, turn.Going)
    → IsShadow (record t { change = Some l; spent = t.spent + 1 }) u

-- what a step of a sweep leaves of a shadow
pub record ShadowSteps (t : State) (m : Micro) (u : State) (x : Turn) : Type 0 where
  pub goes_on : is_end m ≡ false → x ≡ turn.Going
  pub stays : is_end m ≡ false → IsShadow (sweep_does t m) u
  -- and its end a twin, in which no change is in flight any more
  pub ends : is_end m ≡ true → IsTwin (record t { change = None }) u
  pub there : lowers_there t.clocks m ≡ true

-- so it is with each step of a sweep in a state of a run
abbrev pub ShadowsStep : Type 0
ShadowsStep = (defs : Description) (regs : Registers) (ignore_unused : Bool) (credits : ℕ) (journal : List Entry)
    (t u : State) (d : ℕ) (m : Micro) (answer : Option Bool) (x : Turn)
    → IsValid (length regs) defs → IsShadow t (replay (opening defs regs ignore_unused credits) journal)
    → next (replay (opening defs regs ignore_unused credits) journal) d (event.Step m answer) ≡ Some (u, x) → ShadowSteps t m u x
