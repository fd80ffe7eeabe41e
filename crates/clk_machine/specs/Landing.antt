-- What the end of a call writes.
use Rattle.std.specs.Prelude.{◌≡◌, ℕ, Bool, true, false, Some, None, if◌then◌else◌}
use Rattle.clk_base.specs.declared.call.Micro.TheVariants as micro
use Rattle.clk_base.specs.declared.call.Sleeping.TheVariants as call
use Rattle.clk_base.specs.declared.event.Errno.TheVariants as errno
use Rattle.clk_base.specs.declared.event.Event.TheVariants as event
use Rattle.clk_base.specs.declared.event.Reply.{Reply}
use Rattle.clk_base.specs.declared.event.Reply.TheVariants as reply
use Rattle.clk_base.specs.declared.event.Turn.TheVariants as turn
use Rattle.clk_base.specs.declared.clock.ClockId.{ClockId}
use Rattle.clk_base.specs.declared.handle.Handle.{Handle}
use Rattle.clk_model.specs.declared.row.HandleRow.{HandleRow}
use Rattle.clk_model.specs.State.{State, registered, handle_at, requested}
use Rattle.clk_model.specs.Step.{ended_well}
use Rattle.clk_machine.specs.declared.machine.landing.Landing.{Landing}
use Rattle.clk_machine.specs.declared.machine.landing.Landing.TheVariants as landing
use Rattle.core_parts.specs.InFlight.{is_called_off, ends_bare}
use Rattle.clk_machine.specs.Parts.{Parts}
use Rattle.clk_machine.specs.Stands.{Stands, Enters}

-- the reply of a call that ends, which was vetoed or not and has timed out or not
abbrev pub reply_of : Bool → Bool → Reply
reply_of vetoed late = if vetoed then reply.Refused errno.EBUSY else if late then reply.Refused errno.ETIMEDOUT else reply.Fine

-- the call in flight ends with that reply
abbrev pub Lands : Parts → Parts → Type 0
Lands old new = Enters old old.flight.driver (event.Step micro.End None) (turn.Done (reply_of old.flight.vetoed old.flight.timed_out)) new

-- a call that ends well makes this rate the last request of a registered clock, and writes nothing else
pub record Requests (m : Parts) (c : ClockId) (x : ℕ) : Type 0 where
  pub timely : is_called_off m.flight ≡ false
  pub there : registered m.tree.clocks c.0 ≡ true
  pub requests : (s : State) → Stands m s → ended_well s m.flight.driver m.flight.call ≡ record s { clocks = requested s.clocks c.0 x }

-- a change of a range that is called off gives this handle back the range that it had
pub record PutsBack (m : Parts) (h : Handle) (row : HandleRow) (least most : ℕ) : Type 0 where
  pub off : is_called_off m.flight ≡ true
  pub to_least : ℕ
  pub to_most : ℕ
  pub call_ : m.flight.call ≡ call.SetRange h to_least to_most
  pub range : m.flight.range ≡ Some (least, most)
  pub live : handle_at m.table.handles h.number ≡ Some row

-- that is what the end of the call in flight writes
abbrev pub IsLanding : Parts → Landing → Type 0
IsLanding m landing.Nothing = ends_bare m.flight ≡ true
IsLanding m (landing.Prepares h row) = (is_called_off m.flight ≡ false) × (m.flight.call ≡ call.Prepare h) × (handle_at m.table.handles h.number ≡ Some row)
IsLanding m (landing.Requests c x) = Requests m c x
IsLanding m (landing.Holds h row x) = (is_called_off m.flight ≡ false) × (m.flight.call ≡ call.SetRateExclusive h x) × (handle_at m.table.handles h.number ≡ Some row)
IsLanding m (landing.PutsBack h row least most) = PutsBack m h row least most
