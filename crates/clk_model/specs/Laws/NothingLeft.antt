-- That a call leaves nothing behind its end that it only had for its way: the laws of PLLs that were raised, of timeouts, and of moves
-- that weren't made.
use Rattle.std.specs.Prelude.{◌≡◌, ℕ, ◌==◌, ◌≤◌, ◌||◌, List, [], ◌∷◌, Bool, true, false, Option, Some, length, option_map, if◌then◌else◌}
use Rattle.std.specs.List.{list_any}
use Rattle.clk_base.specs.declared.call.Micro.{Micro}
use Rattle.clk_base.specs.declared.call.Micro.TheVariants as micro
use Rattle.clk_base.specs.declared.call.Sleeping.{Sleeping}
use Rattle.clk_base.specs.declared.call.Sleeping.TheVariants as call
use Rattle.clk_base.specs.declared.clock.ClockId.{ClockId}
use Rattle.clk_base.specs.declared.event.Entry.{Entry}
use Rattle.clk_base.specs.declared.event.Event.{Event}
use Rattle.clk_base.specs.declared.event.Event.TheVariants as event
use Rattle.clk_base.specs.declared.event.Errno.TheVariants as errno
use Rattle.clk_base.specs.declared.event.Reply.{Reply}
use Rattle.clk_base.specs.declared.event.Reply.TheVariants as reply
use Rattle.clk_base.specs.declared.event.Turn.{Turn}
use Rattle.clk_base.specs.declared.event.Turn.TheVariants as turn
use Rattle.clk_base.specs.Description.{Description, kind_of}
use Rattle.clk_base.specs.Fields.{Field, PowerBit, field_of, power_of}
use Rattle.clk_base.specs.Valid.{IsValid}
use Rattle.reg_bank.specs.Registers.{Registers, field}
use Rattle.clk_model.specs.Kinds.{is_powered}
use Rattle.clk_model.specs.State.{State, Change, link_in, handle_at}
use Rattle.clk_model.specs.Rate.{rate}
use Rattle.clk_model.specs.Holders.{prepared}
use Rattle.clk_model.specs.Prep.{without_enables}
use Rattle.clk_model.specs.Step.{is_end, is_visit, is_settle, is_close}
use Rattle.clk_model.specs.Machine.{next}
use Rattle.clk_model.specs.Tier.{is_enable_tier}
use Rattle.clk_model.specs.Journal.{replay, opening}
use Rattle.clk_model.specs.Laws.Flight.{Flight}

-- ---- PLLs that were raised

-- whether a step polls this PLL, which each PLL that is raised is
abbrev pub polls : ℕ → Micro → Bool
polls y (micro.Poll z) = z.0 == y
polls y _ = false

-- at the end of each call, whether it goes well, is called off or has timed out, each PLL that it raised is powered exactly where it is
-- prepared
abbrev pub RaisedEndAsPrepared : Type 0
RaisedEndAsPrepared = (defs : Description) (regs : Registers) (ignore_unused : Bool) (credits : ℕ) (before : List Entry) (s t : State) (d : ℕ) (what : Sleeping) (made : List Micro)
    (m : Micro) (answer : Option Bool) (r : Reply) → IsValid (length regs) defs
    → Flight (replay (opening defs regs ignore_unused credits) before) d what s made → next s d (event.Step m answer) ≡ Some (t, turn.Done r)
    → (y : ℕ) (power : PowerBit) → list_any (polls y) made ≡ true → power_of (kind_of t.defs y) ≡ Some power → is_powered t.regs power ≡ prepared t y

-- ---- timeouts

-- a state is another one but for power bits, gates and enables: the clocks with their links and last requests, the handles but for their
-- enables, notifiers and prepare holds, each field by which a clock selects, divides or multiplies, and each rate
pub record DiffersInPower (q t : State) : Type 0 where
  pub defs : t.defs ≡ q.defs
  pub clocks : t.clocks ≡ q.clocks
  pub order : t.order ≡ q.order
  pub handles : (number : ℕ) → option_map without_enables (handle_at t.handles number) ≡ option_map without_enables (handle_at q.handles number)
  pub notifiers : t.notifiers ≡ q.notifiers
  pub prepare_holds : t.prepare_holds ≡ q.prepare_holds
  pub fields : (c : ℕ) (f : Field) → field_of (kind_of q.defs c) ≡ Some f → field t.regs f.word f.shift f.width ≡ field q.regs f.word f.shift f.width
  pub rates : (c : ℕ) → rate t.defs t.regs t.clocks c ≡ rate q.defs q.regs q.clocks c

-- whether a timeout drops all of the call: of a prepare and of a change of parent
abbrev pub is_dropped_whole : Sleeping → Bool
is_dropped_whole (call.Prepare h) = true
is_dropped_whole (call.SetParent h p) = true
is_dropped_whole _ = false

-- a prepare or a change of parent that times out leaves all as it was before it but power bits, and what enables and disables have done
-- meanwhile: no count of a prepare, no link, no rate and no field
abbrev pub TimeoutsLeaveNothing : Type 0
TimeoutsLeaveNothing = (defs : Description) (regs : Registers) (ignore_unused : Bool) (credits : ℕ) (before : List Entry) (s t : State) (d : ℕ) (what : Sleeping) (made : List Micro)
    (m : Micro) (answer : Option Bool) → IsValid (length regs) defs → is_dropped_whole what ≡ true
    → Flight (replay (opening defs regs ignore_unused credits) before) d what s made → next s d (event.Step m answer) ≡ Some (t, turn.Done (reply.Refused errno.ETIMEDOUT))
    → DiffersInPower (replay (opening defs regs ignore_unused credits) before) t

-- ---- moves that weren't made

-- whether a step gives this clock a link
abbrev pub gives_link : ℕ → Micro → Bool
gives_link c (micro.Relink d p) = d.0 == c
gives_link c (micro.Register d) = d.0 == c
gives_link c _ = false

-- through each call and at its end, however it ends, each clock that none of its steps gave a link has the parent that it had before the
-- call: so has one whose move was dropped, since a PLL above its new parent didn't lock
abbrev pub UnmovedStay : Type 0
UnmovedStay = (q s t : State) (d : ℕ) (what : Sleeping) (made : List Micro) (m : Micro) (answer : Option Bool) (x : Turn) → Flight q d what s made → next s d (event.Step m answer) ≡ Some (t, x)
    → (c : ℕ) → list_any (gives_link c) made ≡ false → gives_link c m ≡ false → link_in t.clocks c ≡ link_in q.clocks c

-- a step that gives a clock a link is the first of its call that does: no call moves a clock twice
abbrev pub MovesOnce : Type 0
MovesOnce = (defs : Description) (regs : Registers) (ignore_unused : Bool) (credits : ℕ) (before : List Entry) (s t : State) (d : ℕ) (what : Sleeping) (made : List Micro)
    (m : Micro) (answer : Option Bool) (x : Turn) → IsValid (length regs) defs
    → Flight (replay (opening defs regs ignore_unused credits) before) d what s made → next s d (event.Step m answer) ≡ Some (t, x)
    → (c : ℕ) → gives_link c m ≡ true → list_any (gives_link c) made ≡ false

-- ---- moves that time out

-- a poll of this driver's change times out: it is answered by no, and may not ask again
pub record TimesOut (s : State) (d : ℕ) (k : Change) (u : State) : Type 0 where
  pub at : s.change ≡ Some k
  pub last : k.polls ≤ 1
  pub polled : ClockId
  pub step : next s d (event.Step (micro.Poll polled) (Some false)) ≡ Some (u, turn.Going)

-- what is left of the move at hand: the steps up to the next visit, the next settling of a last request, or the end
abbrev pub move_left : List Micro → List Micro
move_left [] = []
move_left (m ∷ ms) = if is_visit m || is_settle m || is_close m || is_end m then [] else m ∷ move_left ms

-- this driver's call, in flight in one state, is still so in another, which further steps of it have led to. Events of the enable tier,
-- of any driver, may stand between
pub data StaysInFlight (d : ℕ) (u : State) : State → Type 0 where
  here : StaysInFlight d u u
  goes_on : {s t : State} (m : Micro) (answer : Option Bool) → StaysInFlight d u s → next s d (event.Step m answer) ≡ Some (t, turn.Going) → StaysInFlight d u t
  beside : {s t : State} {x : Turn} (other : ℕ) (e : Event) → is_enable_tier e ≡ true → StaysInFlight d u s → next s other e ≡ Some (t, x) → StaysInFlight d u t

-- after a move that has timed out its clock is on its old parent: where a poll times out, and the move at hand was still to give a clock its
-- link, that clock has the parent that it had before the call, behind each later step of the call and at its end
abbrev pub TimedOutMovesStay : Type 0
TimedOutMovesStay = (defs : Description) (regs : Registers) (ignore_unused : Bool) (credits : ℕ) (before : List Entry) (s u t v : State) (d : ℕ) (what : Sleeping) (made : List Micro)
    (k : Change) (m : Micro) (answer : Option Bool) (x : Turn) → IsValid (length regs) defs
    → Flight (replay (opening defs regs ignore_unused credits) before) d what s made → TimesOut s d k u → StaysInFlight d u t → next t d (event.Step m answer) ≡ Some (v, x)
    → (c : ℕ) → list_any (gives_link c) (move_left k.left) ≡ true → link_in v.clocks c ≡ link_in (replay (opening defs regs ignore_unused credits) before).clocks c
