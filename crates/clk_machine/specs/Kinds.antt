-- What kind of answer each event may have, whatever the bank tells.
use Rattle.std.specs.Prelude.{◌≡◌, ◌&&◌, ◌||◌, List, [], ◌∷◌, ◌++◌, Bool, true, false, not}
use Rattle.clk_base.specs.declared.call.Sleeping.{Sleeping}
use Rattle.clk_base.specs.declared.call.Sleeping.TheVariants as call
use Rattle.clk_base.specs.declared.event.Entry.{Entry}
use Rattle.clk_base.specs.declared.event.Event.{Event}
use Rattle.clk_base.specs.declared.event.Event.TheVariants as event
use Rattle.clk_base.specs.declared.event.Reply.{Reply}
use Rattle.clk_base.specs.declared.event.Reply.TheVariants as reply
use Rattle.clk_base.specs.declared.event.Turn.{Turn}
use Rattle.clk_base.specs.declared.event.Turn.TheVariants as turn
use Rattle.clk_model.specs.Step.{is_end}
use Rattle.core_parts.specs.InFlight.{may_go_on}

-- ---- calls

-- whether a call gets a handle, a rate, or a parent
abbrev pub gets_handle : Sleeping → Bool
gets_handle (call.Get found) = true
gets_handle _ = false

abbrev pub gets_rate : Sleeping → Bool
gets_rate (call.GetRate h) = true
gets_rate (call.RoundRate h x) = true
gets_rate _ = false

abbrev pub gets_parent : Sleeping → Bool
gets_parent (call.GetParent h) = true
gets_parent _ = false

-- whether a call gives up a prepare or an exclusive hold, which the handle may not have
abbrev pub gives_up : Sleeping → Bool
gives_up (call.Unprepare h) = true
gives_up (call.ExclusivePut h) = true
gives_up _ = false

-- whether a call may be answered so: by what it gets, or else by Ok; by a warning, if it gives something up; or refused
abbrev pub is_reply_to : Sleeping → Reply → Bool
is_reply_to what reply.Fine = not (gets_handle what || gets_rate what || gets_parent what)
is_reply_to what reply.Warn = gives_up what
is_reply_to what reply.Yes = false
is_reply_to what reply.No = false
is_reply_to what (reply.Handle h) = gets_handle what
is_reply_to what (reply.Rate rate) = gets_rate what
is_reply_to what (reply.Clock c) = gets_parent what
is_reply_to what (reply.Refused e) = true

-- ---- the enable tier, and ends

-- whether an enable, or the end of a call that went on, may be answered so: by Ok, or refused
abbrev pub is_done_or_refused : Reply → Bool
is_done_or_refused reply.Fine = true
is_done_or_refused (reply.Refused e) = true
is_done_or_refused _ = false

-- whether a disable may: so, or by a warning
abbrev pub is_disabled_or_warned : Reply → Bool
is_disabled_or_warned reply.Warn = true
is_disabled_or_warned r = is_done_or_refused r

-- whether the question may be answered so whether a clock runs: by yes or no, or refused
abbrev pub is_yes_or_no : Reply → Bool
is_yes_or_no reply.Yes = true
is_yes_or_no reply.No = true
is_yes_or_no (reply.Refused e) = true
is_yes_or_no _ = false

-- ---- events

-- whether an event may be answered so: only a call that has more steps goes on, and each step of it but the end
abbrev pub is_answer_to : Event → Turn → Bool
is_answer_to (event.Enable number) turn.Going = false
is_answer_to (event.Enable number) (turn.Done r) = is_done_or_refused r
is_answer_to (event.Disable number) turn.Going = false
is_answer_to (event.Disable number) (turn.Done r) = is_disabled_or_warned r
is_answer_to (event.Running number) turn.Going = false
is_answer_to (event.Running number) (turn.Done r) = is_yes_or_no r
is_answer_to (event.Begin what) turn.Going = may_go_on what
is_answer_to (event.Begin what) (turn.Done r) = is_reply_to what r
is_answer_to (event.Step m answer) turn.Going = not (is_end m)
is_answer_to (event.Step m answer) (turn.Done r) = is_end m && is_done_or_refused r

-- the last entry of a journal that grew by one may be answered so
abbrev pub LastMayAnswer : List Entry → List Entry → Turn → Type 0
LastMayAnswer old new given = (last : Entry) → new ≡ old ++ last ∷ [] → is_answer_to last.event given ≡ true
