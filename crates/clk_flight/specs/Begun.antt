-- How a change in flight begins.
use Rattle.std.specs.Prelude.{◌≡◌, ℕ, List, [], true, false, None, map, take, length, ◌≤◌}
use Rattle.std.specs.List.{list_any, list_all}
use Rattle.clk_model.specs.State.{NotifierRow, Change}
use Rattle.clk_model.specs.Laws.Paced.{may_time_out, is_notice}
use Rattle.clk_flight.specs.declared.front.Front.TheVariants.{Empty}
use Rattle.clk_flight.specs.declared.start.Start.{Start}
use Rattle.clk_flight.specs.Fronts.{called_off}
use Rattle.clk_flight.specs.Flights.{FlightState, aborts_over}

-- a flight at its beginning
abbrev pub begun : Start → ℕ → FlightState
begun start plls = record {
  going = true;
  driver = start.driver;
  call = start.call;
  script = start.script.items;
  left = start.script.items;
  front = Empty;
  again = 0;
  raised = [];
  range = start.range;
  extra = start.extra;
  vetoed = start.vetoed;
  timed_out = false;
  missed = None;
  plls = plls;
}

-- the change begins so
pub record StartsAs (notifiers : List NotifierRow) (start : Start) (k : Change) : Type 0 where
  pub driver : k.driver ≡ start.driver
  pub call : k.call ≡ start.call
  pub front : k.front ≡ []
  pub left : k.left ≡ start.script.items
  pub polls : k.polls ≡ 0
  pub again : k.again ≡ 0
  pub raised : k.raised ≡ []
  pub range : k.range ≡ start.range
  pub extra : k.extra ≡ start.extra
  pub fits : start.extra ≤ length start.script.items
  pub calls_off : list_all is_notice (map called_off (take start.extra start.script.items)) ≡ true
  pub vetoed : k.vetoed ≡ start.vetoed
  pub timed_out : k.timed_out ≡ false
  pub missed : k.missed ≡ None
  -- where a step may time out, the notices that this calls off stand at the head of the script
  pub aborts : list_any may_time_out k.left ≡ true → aborts_over notifiers k ≡ map called_off (take start.extra start.script.items)
