-- That planning reads the prepare tier's part of a state alone.
use Rattle.std.specs.Prelude.{◌≡◌, ℕ, List, Bool, true, false, None, length}
use Rattle.clk_base.specs.declared.call.Sleeping.{Sleeping}
use Rattle.clk_base.specs.declared.call.Sleeping.TheVariants as call
use Rattle.clk_base.specs.declared.event.Errno.TheVariants as errno
use Rattle.clk_base.specs.declared.event.Reply.TheVariants as reply
use Rattle.clk_base.specs.declared.event.Turn.{Turn}
use Rattle.clk_base.specs.declared.event.Turn.TheVariants as turn
use Rattle.clk_base.specs.declared.event.Entry.{Entry}
use Rattle.clk_base.specs.Description.{Description}
use Rattle.clk_base.specs.Valid.{IsValid}
use Rattle.reg_bank.specs.Registers.{Registers}
use Rattle.clk_model.specs.State.{State}
use Rattle.clk_model.specs.Round.{wiring}
use Rattle.clk_model.specs.Begin.{begun}
use Rattle.clk_model.specs.Journal.{replay, opening}
use Rattle.clk_model.specs.Prep.{prep}
use Rattle.clk_model.specs.Wired.{IsWired}

-- whether a call asks for a rate or a parent, and changes nothing
abbrev pub asks : Sleeping → Bool
asks (call.GetRate h) = true
asks (call.RoundRate h x) = true
asks (call.GetParent h) = true
asks _ = false

-- whether a call changes a rate or a parent by a plan
abbrev pub plans : Sleeping → Bool
plans (call.SetRate h x) = true
plans (call.SetRateExclusive h x) = true
plans (call.SetRange h least most) = true
plans (call.SetParent h p) = true
plans _ = false

-- a call that isn't gone on with for want of room for the entries of its steps
abbrev pub no_room : Turn
no_room = turn.Done (reply.Refused errno.ENOSPC)

-- a call comes to the same in two states: to the same turn and to the same change, with its plan and its script; or it would go on in
-- both, and one of them, in which another number of steps was made before, has no room left for the entries of its steps
pub data ComesToSame (s t : State) (x y : State × Turn) : Type 0 where
  comes_alike : y.1 ≡ x.1 → y.0.change ≡ x.0.change → ComesToSame s t x y
  first_lacks_room : (t.steps ≡ s.steps → ⊥) → x.1 ≡ no_room → y.1 ≡ turn.Going → ComesToSame s t x y
  second_lacks_room : (t.steps ≡ s.steps → ⊥) → x.1 ≡ turn.Going → y.1 ≡ no_room → ComesToSame s t x y

-- where the prepare tier's part of two states is the same, over a wired tree, a call that asks has the same answer in both
abbrev pub AnswersReadPrep : Type 0
AnswersReadPrep = (s t : State) (d : ℕ) (what : Sleeping) → IsWired (length s.regs) (wiring s) → prep t ≡ prep s → asks what ≡ true
    → (begun t d what).1 ≡ (begun s d what).1

-- and a call that plans comes to the same plan and script in both, if no change is in flight
abbrev pub PlansReadPrep : Type 0
PlansReadPrep = (s t : State) (d : ℕ) (what : Sleeping) → IsWired (length s.regs) (wiring s) → prep t ≡ prep s → plans what ≡ true
    → s.change ≡ None → ComesToSame s t (begun s d what) (begun t d what)

-- a call that asks or plans over the prepare tier's part of a state itself comes to the same
pub record CopyServes (s : State) (d : ℕ) (what : Sleeping) : Type 0 where
  pub answers : asks what ≡ true → (begun (prep s) d what).1 ≡ (begun s d what).1
  pub plans : plans what ≡ true → s.change ≡ None → ComesToSame s (prep s) (begun s d what) (begun (prep s) d what)

-- so it is in each wired tree
abbrev pub CopiesServe : Type 0
CopiesServe = (s : State) (d : ℕ) (what : Sleeping) → IsWired (length s.regs) (wiring s) → CopyServes s d what

-- a call that asks or plans comes to the same behind two journals of one opening
pub record RunsReadPrep (defs : Description) (regs : Registers) (ignore_unused : Bool) (credits : ℕ) (one other : List Entry) (d : ℕ) (what : Sleeping) : Type 0 where
  pub answers : asks what ≡ true → (begun (replay (opening defs regs ignore_unused credits) other) d what).1 ≡ (begun (replay (opening defs regs ignore_unused credits) one) d what).1
  pub plans : plans what ≡ true → (replay (opening defs regs ignore_unused credits) one).change ≡ None
      → ComesToSame (replay (opening defs regs ignore_unused credits) one) (replay (opening defs regs ignore_unused credits) other)
      (begun (replay (opening defs regs ignore_unused credits) one) d what) (begun (replay (opening defs regs ignore_unused credits) other) d what)

-- so it is where their states have the same part of the prepare tier, and the description is valid
abbrev pub PlanningReadsPrep : Type 0
PlanningReadsPrep = (defs : Description) (regs : Registers) (ignore_unused : Bool) (credits : ℕ) (one other : List Entry) (d : ℕ) (what : Sleeping) → IsValid (length regs) defs
    → prep (replay (opening defs regs ignore_unused credits) other) ≡ prep (replay (opening defs regs ignore_unused credits) one)
    → RunsReadPrep defs regs ignore_unused credits one other d what
