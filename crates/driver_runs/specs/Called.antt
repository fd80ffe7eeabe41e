-- The call of a command, as an event.
use Rattle.clk_base.specs.declared.event.Event.{Event}
use Rattle.clk_base.specs.declared.event.Event.TheVariants as event
use Rattle.driver_runs.specs.declared.called.Called.{Called}
use Rattle.driver_runs.specs.declared.called.Called.TheVariants as called

-- the event that a call of a driver is
abbrev pub event_of : Called → Event
event_of (called.Sleeping what) = event.Begin what
event_of (called.Enable h) = event.Enable h.number
event_of (called.Disable h) = event.Disable h.number
event_of (called.Running h) = event.Running h.number
