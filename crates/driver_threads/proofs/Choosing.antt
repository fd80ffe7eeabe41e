-- Which calls commands make, and that these name clocks of the description.
use Rattle.std.proofs.Common.{◌≡◌, Option, Some, None, length, subst}
use Rattle.atomic_table.specs.Seated.{TableId}
use Rattle.clk_base.specs.Description.{Description}
use Rattle.clk_base.specs.declared.call.Sleeping.{Sleeping}
use Rattle.clk_base.specs.declared.call.Sleeping.TheVariants as call
use Rattle.clk_base.specs.declared.command.Act.{Act}
use Rattle.clk_base.specs.declared.command.Act.TheVariants as act
use Rattle.clk_base.specs.declared.event.Event.TheVariants as event
use Rattle.clk_base.specs.declared.handle.Handle.{Handle}
use Rattle.clk_model.specs.Follows.{call_of}
use Rattle.clk_machine.specs.Sound.{IsPlaced}
use Rattle.clk_framework.specs.Calls.{DriverView}
use Rattle.drv_scripts.specs.Placed.{NamesPlace}
use Rattle.driver_threads.specs.Going.{MayBegin, MayCall}

-- the call that begins
begun : {v w : Sleeping} → Some (event.Begin v) ≡ Some (event.Begin w) → v ≡ w
begun e = cc

-- ---- a command that names clocks of the description makes such a call

-- a call on a handle
module _ (clocks : Description) (h : Handle) (what : Sleeping) where
  abbrev Placed : Act → Type 0
  Placed a = call_of (Some h) a ≡ Some (event.Begin what) → NamesPlace (length clocks) a → IsPlaced clocks what

  put_at : (w : Sleeping) → Some (event.Begin w) ≡ Some (event.Begin what) → IsPlaced clocks w → IsPlaced clocks what
  put_at w is placed = subst (IsPlaced clocks) (begun is) placed

  placed_on : (a : Act) → Placed a
  placed_on (act.Get found) is placed = absurd cc
  placed_on act.Put is placed = put_at (call.Put h) is tt
  placed_on act.Prepare is placed = put_at (call.Prepare h) is tt
  placed_on act.Unprepare is placed = put_at (call.Unprepare h) is tt
  placed_on act.Enable is placed = absurd cc
  placed_on act.Disable is placed = absurd cc
  placed_on act.Running is placed = absurd cc
  placed_on act.GetRate is placed = put_at (call.GetRate h) is tt
  placed_on (act.RoundRate x) is placed = put_at (call.RoundRate h x) is tt
  placed_on (act.SetRate x) is placed = put_at (call.SetRate h x) is tt
  placed_on (act.SetRateExclusive x) is placed = put_at (call.SetRateExclusive h x) is tt
  placed_on (act.SetRange least most) is placed = put_at (call.SetRange h least most) is tt
  placed_on (act.SetParent p) is placed = put_at (call.SetParent h p) is placed
  placed_on act.GetParent is placed = put_at (call.GetParent h) is tt
  placed_on act.ExclusiveGet is placed = put_at (call.ExclusiveGet h) is tt
  placed_on act.ExclusivePut is placed = put_at (call.ExclusivePut h) is tt
  placed_on (act.NotifierAdd id priority policy) is placed = put_at (call.NotifierAdd h id priority policy) is tt
  placed_on (act.NotifierRemove id) is placed = put_at (call.NotifierRemove h id) is tt
  placed_on (act.Probe c) is placed = put_at (call.Probe c) is placed
  placed_on act.Sweep is placed = put_at call.Sweep is tt

-- a call on none
module _ (clocks : Description) (what : Sleeping) where
  got_at : (found : Option _) → Some (event.Begin (call.Get found)) ≡ Some (event.Begin what) → NamesPlace (length clocks) (act.Get found) → IsPlaced clocks what
  got_at None is placed = subst (IsPlaced clocks) (begun is) tt
  got_at (Some c) is placed = subst (IsPlaced clocks) (begun is) placed

  placed_alone : (a : Act) → call_of None a ≡ Some (event.Begin what) → NamesPlace (length clocks) a → IsPlaced clocks what
  placed_alone (act.Get found) is placed = got_at found is placed
  placed_alone act.Put is placed = absurd cc
  placed_alone act.Prepare is placed = absurd cc
  placed_alone act.Unprepare is placed = absurd cc
  placed_alone act.Enable is placed = absurd cc
  placed_alone act.Disable is placed = absurd cc
  placed_alone act.Running is placed = absurd cc
  placed_alone act.GetRate is placed = absurd cc
  placed_alone (act.RoundRate x) is placed = absurd cc
  placed_alone (act.SetRate x) is placed = absurd cc
  placed_alone (act.SetRateExclusive x) is placed = absurd cc
  placed_alone (act.SetRange least most) is placed = absurd cc
  placed_alone (act.SetParent p) is placed = absurd cc
  placed_alone act.GetParent is placed = absurd cc
  placed_alone act.ExclusiveGet is placed = absurd cc
  placed_alone act.ExclusivePut is placed = absurd cc
  placed_alone (act.NotifierAdd id priority policy) is placed = absurd cc
  placed_alone (act.NotifierRemove id) is placed = absurd cc
  placed_alone (act.Probe c) is placed = subst (IsPlaced clocks) (begun is) placed
  placed_alone act.Sweep is placed = subst (IsPlaced clocks) (begun is) tt

place_event : (clocks : Description) (held : Option Handle) (a : Act) (what : Sleeping) → call_of held a ≡ Some (event.Begin what) → NamesPlace (length clocks) a
    → IsPlaced clocks what
place_event clocks None a what is placed = placed_alone clocks what a is placed
place_event clocks (Some h) a what is placed = placed_on clocks h what a is placed

-- a driver that may make the call of a command may begin that call
pub may_begin : (table : TableId) (d : DriverView) (held : Option Handle) (a : Act) (what : Sleeping) → call_of held a ≡ Some (event.Begin what) → MayCall table d a → MayBegin table d what
may_begin table d held a what is may = record {
  ready = may.ready;
  credit = may.credit;
  opened = may.opened;
  knows = may.knows;
  place = place_event may.opened.defs held a what is may.place;
}
