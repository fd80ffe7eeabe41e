-- The commands of a driver, the calls that they make and what is answered to them.
use Rattle.std.specs.Prelude.{◌≡◌, ℕ, ◌+◌, max, List, [], ◌∷◌, Option, Some, None, replicate, slice_get, slice_set, option_and_then, unwrap_or}
use Rattle.std.specs.Option.{option_map_or}
use Rattle.clk_base.specs.declared.call.Sleeping.TheVariants as call
use Rattle.clk_base.specs.declared.command.Act.{Act}
use Rattle.clk_base.specs.declared.command.Act.TheVariants as act
use Rattle.clk_base.specs.declared.command.Answer.{Answer}
use Rattle.clk_base.specs.declared.command.Answer.TheVariants as answer
use Rattle.clk_base.specs.declared.command.Command.{Command}
use Rattle.clk_base.specs.declared.event.Event.{Event}
use Rattle.clk_base.specs.declared.event.Event.TheVariants as event
use Rattle.clk_base.specs.declared.event.Reply.{Reply}
use Rattle.clk_base.specs.declared.event.Reply.TheVariants as reply
use Rattle.clk_base.specs.declared.handle.Handle.{Handle}
use Rattle.clk_model.specs.Journal.{Answered}

-- the handles that a driver's variables hold, by their numbers
abbrev pub Variables : Type 0
Variables = List (Option Handle)

-- how many variables the commands use
abbrev pub variable_count : List Command → ℕ
variable_count [] = 0
variable_count (c ∷ cs) = max (option_map_or (λ v. v + 1) c.var 0) (variable_count cs)

-- no variable holds a handle
abbrev pub no_handles : List Command → Variables
no_handles commands = replicate (variable_count commands) None

-- the handle that a command's variable holds
abbrev pub handle_of : Variables → Command → Option Handle
handle_of held c = option_and_then (λ v. unwrap_or (slice_get held v) None) c.var

-- the call on a handle that an act makes; a get, a probe and a sweep are on none
abbrev pub call_on : Handle → Act → Option Event
call_on h (act.Get found) = None
call_on h act.Put = Some (event.Begin (call.Put h))
call_on h act.Prepare = Some (event.Begin (call.Prepare h))
call_on h act.Unprepare = Some (event.Begin (call.Unprepare h))
call_on h act.Enable = Some (event.Enable h.number)
call_on h act.Disable = Some (event.Disable h.number)
call_on h act.Running = Some (event.Running h.number)
call_on h act.GetRate = Some (event.Begin (call.GetRate h))
call_on h (act.RoundRate x) = Some (event.Begin (call.RoundRate h x))
call_on h (act.SetRate x) = Some (event.Begin (call.SetRate h x))
call_on h (act.SetRateExclusive x) = Some (event.Begin (call.SetRateExclusive h x))
call_on h (act.SetRange least most) = Some (event.Begin (call.SetRange h least most))
call_on h (act.SetParent p) = Some (event.Begin (call.SetParent h p))
call_on h act.GetParent = Some (event.Begin (call.GetParent h))
call_on h act.ExclusiveGet = Some (event.Begin (call.ExclusiveGet h))
call_on h act.ExclusivePut = Some (event.Begin (call.ExclusivePut h))
call_on h (act.NotifierAdd id priority policy) = Some (event.Begin (call.NotifierAdd h id priority policy))
call_on h (act.NotifierRemove id) = Some (event.Begin (call.NotifierRemove h id))
call_on h (act.Probe c) = None
call_on h act.Sweep = None

-- the call that a command makes, where its variable holds this handle or none: a get needs an empty variable, a call on a
-- handle a full one, and a command that lacks what it needs is skipped
abbrev pub call_of : Option Handle → Act → Option Event
call_of held (act.Probe c) = Some (event.Begin (call.Probe c))
call_of held act.Sweep = Some (event.Begin call.Sweep)
call_of None (act.Get found) = Some (event.Begin (call.Get found))
call_of None a = None
call_of (Some h) a = call_on h a

-- the variables with the one of the command holding a handle or none
abbrev pub with_variable : Variables → Command → Option Handle → Variables
with_variable held c h = option_map_or (λ v. slice_set held v h) c.var held

-- the variables after a command was answered: a handle fills the variable of a get, an ok of a put empties it
abbrev pub held_after : Variables → Command → Act → Reply → Variables
held_after held c (act.Get found) (reply.Handle h) = with_variable held c (Some h)
held_after held c act.Put reply.Fine = with_variable held c None
held_after held c a r = held

-- a command that makes this call, or none, where rest is what is said of the commands behind it: the call is the next one and its
-- reply the answer, or the command is skipped and makes no call
abbrev pub NextFollows : (Variables → List Answered → Type 0) → Variables → Command → Option Event → List Answered → Answer → Type 0
NextFollows rest held c None calls a = (a ≡ answer.Skip) × rest held calls
NextFollows rest held c (Some event) [] a = ⊥
NextFollows rest held c (Some event) (l ∷ ls) a = (l.call ≡ event) × (a ≡ answer.Reply l.reply) × rest (held_after held c c.act l.reply) ls

-- commands, taken in order where the variables hold these handles, make these calls and no other, and have these answers
abbrev pub FollowsFrom : Variables → List Command → List Answered → List Answer → Type 0
FollowsFrom held [] [] [] = Unit {0}
FollowsFrom held [] _ _ = ⊥
FollowsFrom held (c ∷ cs) calls [] = ⊥
FollowsFrom held (c ∷ cs) calls (a ∷ answers) =
    NextFollows (λ after ls. FollowsFrom after cs ls answers) held c (call_of (handle_of held c) c.act) calls a

-- a driver's commands, taken in order, make these calls and no other, and have these answers
abbrev pub Follows : List Command → List Answered → List Answer → Type 0
Follows commands calls answers = FollowsFrom (no_handles commands) commands calls answers
