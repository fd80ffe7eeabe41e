-- That the prepare tier's part of a state goes on by itself: what a step makes of it depends on it and the step alone.
use Rattle.std.specs.Prelude.{◌≡◌, ◌⊎◌, ℕ, ◌^◌, List, Bool, true, false, Option, Some, nat_lt, length}
use Rattle.std.specs.Option.{option_map_or}
use Rattle.clk_base.specs.declared.call.Micro.{Micro}
use Rattle.clk_base.specs.declared.call.Micro.TheVariants as micro
use Rattle.clk_base.specs.declared.event.Entry.{Entry}
use Rattle.clk_base.specs.Valid.{IsValid}
use Rattle.clk_model.specs.Journal.{replay, opening}
use Rattle.clk_base.specs.declared.event.Errno.TheVariants as errno
use Rattle.clk_base.specs.declared.event.Event.TheVariants as event
use Rattle.clk_base.specs.declared.event.Reply.TheVariants as reply
use Rattle.clk_base.specs.declared.event.Turn.{Turn}
use Rattle.clk_base.specs.declared.event.Turn.TheVariants as turn
use Rattle.clk_base.specs.Description.{Description, kind_of}
use Rattle.reg_bank.specs.Registers.{Registers}
use Rattle.clk_model.specs.Kinds.{mux_field}
use Rattle.clk_model.specs.State.{State, Change}
use Rattle.clk_model.specs.Round.{wiring}
use Rattle.clk_model.specs.Step.{is_end, stepped}
use Rattle.clk_model.specs.Machine.{next}
use Rattle.clk_model.specs.Prep.{is_sweep, prep}
use Rattle.clk_model.specs.Wired.{IsWired}
use Rattle.clk_model.specs.Laws.Flight.{IsInFlight}

-- whether what a step writes in the field of a mux fits it
abbrev pub fits_mux : Description → Micro → Bool
fits_mux defs (micro.WriteMux c place) = option_map_or (λ f. nat_lt place (2 ^ f.width)) (mux_field (kind_of defs c.0)) true
fits_mux defs _ = true

-- a step that is made in one state is made in another, is answered alike there, and leaves the same part of the prepare tier
pub record StepsAlike (t : State) (d : ℕ) (m : Micro) (answer : Option Bool) (u : State) (x : Turn) : Type 0 where
  pub after : State
  pub made : next t d (event.Step m answer) ≡ Some (after, x)
  pub same : prep after ≡ prep u

-- where the prepare tier's part of two states is the same, over a wired tree, so it is with each step of a call that isn't the sweep
abbrev pub StepsReadPrep : Type 0
StepsReadPrep = (s t u : State) (k : Change) (d : ℕ) (m : Micro) (answer : Option Bool) (x : Turn) → IsWired (length s.regs) (wiring s) → prep t ≡ prep s
    → s.change ≡ Some k → is_sweep k.call ≡ false → fits_mux s.defs m ≡ true → next s d (event.Step m answer) ≡ Some (u, x) → StepsAlike t d m answer u x

-- whether a step closes a gate of its own
abbrev pub closes_gate : Micro → Bool
closes_gate (micro.Close c) = true
closes_gate _ = false

-- what a step of a sweep does there, by whatever is left of the sweep in the one and in the other state
pub record SweepsAlike (t : State) (l : Change) (m : Micro) (answer : Option Bool) (s u : State) : Type 0 where
  -- it leaves the same part in the other, also if another step comes next in it
  pub same : prep (stepped t l answer m).0 ≡ prep u
  -- and a gate that is closed leaves all of that part
  pub closes : closes_gate m ≡ true → prep u ≡ prep s

-- so it is with each step of a sweep, where that part of two states is the same, over a wired tree
abbrev pub SweepsReadPrep : Type 0
SweepsReadPrep = (s t u : State) (k l : Change) (d : ℕ) (m : Micro) (answer : Option Bool) (x : Turn) → IsWired (length s.regs) (wiring s) → prep t ≡ prep s
    → s.change ≡ Some k → t.change ≡ Some l → is_sweep k.call ≡ true → fits_mux s.defs m ≡ true → next s d (event.Step m answer) ≡ Some (u, x) → SweepsAlike t l m answer s u

-- ---- runs

-- so each step of a call in flight, behind a journal that begins at an opening with a valid description, is made alike in each
-- state with the same part, if the call isn't the sweep
abbrev pub RunsStepByPrep : Type 0
RunsStepByPrep = (defs : Description) (regs : Registers) (ignore_unused : Bool) (credits : ℕ) (journal : List Entry) (t u : State) (m : Micro) (answer : Option Bool) (x : Turn)
    → IsValid (length regs) defs → (call : IsInFlight (opening defs regs ignore_unused credits) journal) → prep t ≡ prep (replay (opening defs regs ignore_unused credits) journal)
    → is_sweep call.what ≡ false → next (replay (opening defs regs ignore_unused credits) journal) call.first.driver (event.Step m answer) ≡ Some (u, x)
    → StepsAlike t call.first.driver m answer u x

-- whether a step may be one of a sweep: it keeps a clock running or lets it go, closes a gate, takes the power of a PLL, or ends it
abbrev pub is_of_sweep : Micro → Bool
is_of_sweep (micro.Raise x) = true
is_of_sweep (micro.Poll y) = true
is_of_sweep (micro.Fall y) = true
is_of_sweep (micro.HoldPrepare x) = true
is_of_sweep (micro.HoldEnable x) = true
is_of_sweep (micro.DropEnable x) = true
is_of_sweep (micro.DropPrepare x) = true
is_of_sweep (micro.Lower x) = true
is_of_sweep (micro.Close c) = true
is_of_sweep (micro.Unpower c) = true
is_of_sweep micro.End = true
is_of_sweep _ = false

-- a step of a sweep is one of these, and a sweep ends well, or because a poll has timed out
pub record SweepsOn (t : State) (l : Change) (m : Micro) (answer : Option Bool) (s u : State) (x : Turn) : Type 0 where
  pub alike : SweepsAlike t l m answer s u
  pub step : is_of_sweep m ≡ true
  pub goes_on : is_end m ≡ false → x ≡ turn.Going
  pub ends : is_end m ≡ true → (x ≡ turn.Done reply.Fine) ⊎ (x ≡ turn.Done (reply.Refused errno.ETIMEDOUT))

-- so is each step of a sweep behind such a journal, and so it comes to the same in each state with the same part
abbrev pub RunsSweepByPrep : Type 0
RunsSweepByPrep = (defs : Description) (regs : Registers) (ignore_unused : Bool) (credits : ℕ) (journal : List Entry) (t u : State) (l : Change) (m : Micro) (answer : Option Bool)
    (x : Turn) → IsValid (length regs) defs → (call : IsInFlight (opening defs regs ignore_unused credits) journal) → prep t ≡ prep (replay (opening defs regs ignore_unused credits) journal)
    → t.change ≡ Some l → is_sweep call.what ≡ true → next (replay (opening defs regs ignore_unused credits) journal) call.first.driver (event.Step m answer) ≡ Some (u, x)
    → SweepsOn t l m answer (replay (opening defs regs ignore_unused credits) journal) u x
