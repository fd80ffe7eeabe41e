-- An entry with numbers of their types' sizes that names what is there can be told.
use Rattle.std.proofs.Common.{◌<◌, List, length, Option, Some, None}
use Rattle.clk_base.specs.declared.call.Micro.{Micro}
use Rattle.clk_base.specs.declared.call.Micro.TheVariants as micro
use Rattle.clk_base.specs.declared.call.Sleeping.{Sleeping}
use Rattle.clk_base.specs.declared.call.Sleeping.TheVariants as call
use Rattle.clk_base.specs.declared.clock.ClockId.{ClockId}
use Rattle.clk_base.specs.declared.event.Entry.{Entry}
use Rattle.clk_base.specs.declared.event.Event.{Event}
use Rattle.clk_base.specs.declared.event.Event.TheVariants as event
use Rattle.clk_base.specs.declared.event.Reply.TheVariants as reply
use Rattle.clk_base.specs.declared.event.Turn.{Turn}
use Rattle.clk_base.specs.declared.event.Turn.TheVariants as turn
use Rattle.clk_base.specs.Description.{Description}
use Rattle.clk_model.specs.Text.{Word}
use Rattle.clk_journal.specs.Told.{IsThere, IsCall, IsStep, IsEvent, IsTurn, CanBeTold}
use Rattle.clk_journal.specs.Sized.{IsSizedCall, IsSizedStep, IsSizedEvent, IsSizedTurn, IsSized, one_clock, clocks_in_call, clocks_in_step, clocks_in_event, clocks_in_turn, AreThere, IsAnswered, NamesClocks}

module _ (defs : Description) where
  found : (c : Option ClockId) → AreThere defs (one_clock c) → IsThere defs c
  found None there = tt
  found (Some c) there = there.0

  call_can : (what : Sleeping) → IsSizedCall what → AreThere defs (clocks_in_call what) → IsCall defs what
  call_can (call.Get c) sized there = found c there
  call_can (call.Put h) sized there = sized
  call_can (call.Prepare h) sized there = sized
  call_can (call.Unprepare h) sized there = sized
  call_can (call.GetRate h) sized there = sized
  call_can (call.RoundRate h x) sized there = sized
  call_can (call.SetRate h x) sized there = sized
  call_can (call.SetRateExclusive h x) sized there = sized
  call_can (call.SetRange h least most) sized there = sized
  call_can (call.SetParent h p) sized there = (sized, there.0)
  call_can (call.GetParent h) sized there = sized
  call_can (call.ExclusiveGet h) sized there = sized
  call_can (call.ExclusivePut h) sized there = sized
  call_can (call.NotifierAdd h id priority policy) sized there = sized
  call_can (call.NotifierRemove h id) sized there = sized
  call_can (call.Probe c) sized there = there.0
  call_can call.Sweep sized there = tt

  step_can : (m : Micro) → IsSizedStep m → AreThere defs (clocks_in_step m) → IsStep defs m
  step_can (micro.Notify kind c id old new) sized there = (there.0, sized.0, sized.1, sized.2)
  step_can (micro.Raise x) sized there = there.0
  step_can (micro.Poll y) sized there = there.0
  step_can (micro.Fall y) sized there = there.0
  step_can (micro.HoldPrepare x) sized there = there.0
  step_can (micro.HoldEnable x) sized there = there.0
  step_can (micro.Relink c p) sized there = (there.0, there.1.0)
  step_can (micro.WriteMux c place) sized there = (there.0, sized)
  step_can (micro.DropEnable x) sized there = there.0
  step_can (micro.DropPrepare x) sized there = there.0
  step_can (micro.Lower x) sized there = there.0
  step_can (micro.Visit c) sized there = there.0
  step_can (micro.Register c) sized there = there.0
  step_can (micro.Settle c) sized there = there.0
  step_can (micro.Close c) sized there = there.0
  step_can (micro.Unpower c) sized there = there.0
  step_can micro.End sized there = tt

  event_can : (e : Event) → IsSizedEvent e → AreThere defs (clocks_in_event e) → IsAnswered e → IsEvent defs e
  event_can (event.Enable number) sized there answered = sized
  event_can (event.Disable number) sized there answered = sized
  event_can (event.Running number) sized there answered = sized
  event_can (event.Begin what) sized there answered = call_can what sized there
  event_can (event.Step m answer) sized there answered = (step_can m sized there, answered)

  turn_can : (t : Turn) → IsSizedTurn t → AreThere defs (clocks_in_turn t) → IsTurn defs t
  turn_can turn.Going sized there = tt
  turn_can (turn.Done reply.Fine) sized there = tt
  turn_can (turn.Done reply.Warn) sized there = tt
  turn_can (turn.Done reply.Yes) sized there = tt
  turn_can (turn.Done reply.No) sized there = tt
  turn_can (turn.Done (reply.Handle h)) sized there = sized
  turn_can (turn.Done (reply.Rate r)) sized there = sized
  turn_can (turn.Done (reply.Clock c)) sized there = found c there
  turn_can (turn.Done (reply.Refused e)) sized there = tt

  pub can_be_told : (names : List Word) (e : Entry) → e.driver < length names → IsSized e → NamesClocks defs e → CanBeTold defs names e
  can_be_told names e driver sized there = record {
    driver_ = driver;
    event_ = event_can e.event sized.event_ there.event_ there.answered;
    turn_ = turn_can e.turn sized.turn_ there.turn_;
  }
