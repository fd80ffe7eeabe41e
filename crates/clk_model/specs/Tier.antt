-- The two tiers of events.
use Rattle.std.specs.Prelude.{Bool, true, false}
use Rattle.clk_base.specs.declared.event.Event.{Event}
use Rattle.clk_base.specs.declared.event.Event.TheVariants as event

-- whether an event is of the enable tier, which never sleeps: an enable, a disable, or the question whether a clock runs
abbrev pub is_enable_tier : Event → Bool
is_enable_tier (event.Enable number) = true
is_enable_tier (event.Disable number) = true
is_enable_tier (event.Running number) = true
is_enable_tier _ = false

-- whether an event is a step of a call that goes on
abbrev pub is_step : Event → Bool
is_step (event.Step m answer) = true
is_step _ = false
