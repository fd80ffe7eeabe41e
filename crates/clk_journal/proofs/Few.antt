-- An event has at most seven words.
use Rattle.std.proofs.Common.{◌≤◌, Bool, true, false, Option, Some, None, length, arith}
use Rattle.clk_base.specs.declared.call.Micro.{Micro}
use Rattle.clk_base.specs.declared.call.Micro.TheVariants as micro
use Rattle.clk_base.specs.declared.call.Notice.TheVariants as notice
use Rattle.clk_base.specs.declared.call.Sleeping.{Sleeping}
use Rattle.clk_base.specs.declared.call.Sleeping.TheVariants as call
use Rattle.clk_base.specs.declared.event.Event.{Event}
use Rattle.clk_base.specs.declared.event.Event.TheVariants as event
use Rattle.clk_base.specs.declared.event.Reply.TheVariants as reply
use Rattle.clk_base.specs.declared.event.Turn.{Turn}
use Rattle.clk_base.specs.declared.event.Turn.TheVariants as turn
use Rattle.clk_base.specs.declared.handle.Policy.{Policy}
use Rattle.clk_base.specs.declared.handle.Policy.TheVariants as policy
use Rattle.clk_base.specs.Description.{Description}
use Rattle.clk_model.specs.Text.{policy_words, call_words, step_words, event_words, turn_words}

few_policy : (p : Policy) → length (policy_words p) ≤ 2
few_policy policy.Accept = omega arith
few_policy (policy.VetoAbove r) = omega arith
few_policy (policy.VetoBelow r) = omega arith
few_policy policy.VetoAll = omega arith

few_call : (defs : Description) (what : Sleeping) → length (call_words defs what) ≤ 6
few_call defs (call.Get o) = omega arith
few_call defs (call.Put h) = omega arith
few_call defs (call.Prepare h) = omega arith
few_call defs (call.Unprepare h) = omega arith
few_call defs (call.GetRate h) = omega arith
few_call defs (call.RoundRate h x) = omega arith
few_call defs (call.SetRate h x) = omega arith
few_call defs (call.SetRateExclusive h x) = omega arith
few_call defs (call.SetRange h least most) = omega arith
few_call defs (call.SetParent h p) = omega arith
few_call defs (call.GetParent h) = omega arith
few_call defs (call.ExclusiveGet h) = omega arith
few_call defs (call.ExclusivePut h) = omega arith
few_call defs (call.NotifierRemove h id) = omega arith
few_call defs (call.Probe c) = omega arith
few_call defs call.Sweep = omega arith
few_call defs (call.NotifierAdd h id priority p) = omega (arith, few_policy p)

few_step : (defs : Description) (m : Micro) (a : Option Bool) → length (step_words defs m a) ≤ 6
few_step defs (micro.Notify (notice.Pre true) c id old new) a = omega arith
few_step defs (micro.Notify (notice.Pre false) c id old new) a = omega arith
few_step defs (micro.Notify notice.Abort c id old new) a = omega arith
few_step defs (micro.Notify notice.Post c id old new) a = omega arith
few_step defs (micro.Raise x) a = omega arith
few_step defs (micro.Poll y) None = omega arith
few_step defs (micro.Poll y) (Some true) = omega arith
few_step defs (micro.Poll y) (Some false) = omega arith
few_step defs (micro.Fall y) a = omega arith
few_step defs (micro.HoldPrepare x) a = omega arith
few_step defs (micro.HoldEnable x) a = omega arith
few_step defs (micro.Relink c p) a = omega arith
few_step defs (micro.WriteMux c place) a = omega arith
few_step defs (micro.DropEnable x) a = omega arith
few_step defs (micro.DropPrepare x) a = omega arith
few_step defs (micro.Lower x) a = omega arith
few_step defs (micro.Visit c) a = omega arith
few_step defs (micro.Register c) a = omega arith
few_step defs (micro.Settle c) a = omega arith
few_step defs (micro.Close c) a = omega arith
few_step defs (micro.Unpower c) a = omega arith
few_step defs micro.End a = omega arith

pub few_event : (defs : Description) (e : Event) → length (event_words defs e) ≤ 7
few_event defs (event.Enable number) = omega arith
few_event defs (event.Disable number) = omega arith
few_event defs (event.Running number) = omega arith
few_event defs (event.Begin what) = omega (arith, few_call defs what)
few_event defs (event.Step m a) = omega (arith, few_step defs m a)

pub few_turn : (defs : Description) (t : Turn) → length (turn_words defs t) ≤ 2
few_turn defs turn.Going = omega arith
few_turn defs (turn.Done reply.Fine) = omega arith
few_turn defs (turn.Done reply.Warn) = omega arith
few_turn defs (turn.Done reply.Yes) = omega arith
few_turn defs (turn.Done reply.No) = omega arith
few_turn defs (turn.Done (reply.Handle h)) = omega arith
few_turn defs (turn.Done (reply.Rate r)) = omega arith
few_turn defs (turn.Done (reply.Clock c)) = omega arith
few_turn defs (turn.Done (reply.Refused e)) = omega arith
