-- That a change which ends well leaves the outcome that was planned.
use Rattle.std.specs.Prelude.{◌≡◌, ℕ, List, Bool, true, Option, Some, length}
use Rattle.clk_base.specs.declared.call.Micro.{Micro}
use Rattle.clk_base.specs.declared.call.Sleeping.{Sleeping}
use Rattle.clk_base.specs.declared.event.Entry.{Entry}
use Rattle.clk_base.specs.declared.event.Event.TheVariants as event
use Rattle.clk_base.specs.declared.event.Reply.TheVariants as reply
use Rattle.clk_base.specs.declared.event.Turn.TheVariants as turn
use Rattle.clk_base.specs.Description.{Description, kind_of}
use Rattle.clk_base.specs.Fields.{Field, field_of}
use Rattle.clk_base.specs.Valid.{IsValid}
use Rattle.reg_bank.specs.Registers.{Registers}
use Rattle.clk_model.specs.State.{State, link_in}
use Rattle.clk_model.specs.Round.{Wiring, wiring}
use Rattle.clk_model.specs.Chain.{outcome}
use Rattle.clk_model.specs.Machine.{next}
use Rattle.clk_model.specs.Journal.{replay, opening}
use Rattle.clk_model.specs.Wired.{IsWired, IsOrder}
use Rattle.clk_model.specs.Laws.Flight.{Flight, IsInFlight, plan}
use Rattle.clk_model.specs.Laws.Plans.{ReadsSame}
use Rattle.clk_model.specs.Laws.PlansRead.{plans}

-- two trees have the same description, as many clocks and words, the same links, and the same in each field by which a clock selects,
-- divides or multiplies
pub record SameSettings (v w : Wiring) : Type 0 where
  pub defs : v.defs ≡ w.defs
  pub rows : length v.clocks ≡ length w.clocks
  pub words : length v.regs ≡ length w.regs
  pub links : (c : ℕ) → link_in v.clocks c ≡ link_in w.clocks c
  pub fields : (c : ℕ) (f : Field) → field_of (kind_of w.defs c) ≡ Some f → ReadsSame v w f

-- a change of a rate, of a range or of a parent that ends well leaves the links and these fields as the outcome of its plan has them,
-- the plan being that of the state before it
abbrev pub OutcomesWritten : Type 0
OutcomesWritten = (q s t : State) (d : ℕ) (what : Sleeping) (made : List Micro) (m : Micro) (answer : Option Bool) → IsWired (length q.regs) (wiring q) → IsOrder q.order q.clocks
    → plans what ≡ true → Flight q d what s made → next s d (event.Step m answer) ≡ Some (t, turn.Done reply.Fine)
    → SameSettings (wiring t) (outcome (plan q d what) (wiring q))

-- so it is behind each journal that begins at an opening with a valid description, with such a change in flight
abbrev pub RunsWriteOutcomes : Type 0
RunsWriteOutcomes = (defs : Description) (regs : Registers) (ignore_unused : Bool) (credits : ℕ) (journal : List Entry) (t : State) (m : Micro) (answer : Option Bool) → IsValid (length regs) defs
    → (call : IsInFlight (opening defs regs ignore_unused credits) journal) → plans call.what ≡ true
    → next (replay (opening defs regs ignore_unused credits) journal) call.first.driver (event.Step m answer) ≡ Some (t, turn.Done reply.Fine)
    → SameSettings (wiring t)
    (outcome (plan (replay (opening defs regs ignore_unused credits) call.before) call.first.driver call.what) (wiring (replay (opening defs regs ignore_unused credits) call.before)))
