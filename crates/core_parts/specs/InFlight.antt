-- What a core keeps of the change in flight.
use Rattle.std.specs.Prelude.{◌≡◌, ℕ, ◌&&◌, ◌||◌, ◌==◌, List, [], ◌∷◌, Bool, true, false, not, Option, Some, None, is_some, is_none, slice_get, length, nat_lt, if◌then◌else◌}
use Rattle.std.specs.List.{list_any, list_all}
use Rattle.std.specs.Option.{option_map_or}
use Rattle.clk_base.specs.declared.call.Micro.{Micro}
use Rattle.clk_base.specs.declared.call.Micro.TheVariants as micro
use Rattle.clk_base.specs.declared.call.Sleeping.{Sleeping}
use Rattle.clk_base.specs.declared.call.Sleeping.TheVariants as call
use Rattle.clk_base.specs.declared.handle.Handle.{Handle}
use Rattle.clk_base.specs.Description.{Description, kind_of, parents_of}
use Rattle.clk_model.specs.declared.row.ClockRow.{ClockRow}
use Rattle.clk_model.specs.Kinds.{mux_field}
use Rattle.clk_model.specs.Lists.{is_in}
use Rattle.clk_model.specs.State.{registered, link_in}
use Rattle.clk_model.specs.Prep.{is_sweep}
use Rattle.clk_model.specs.Step.{is_end, is_visit, is_close, is_register, is_settle, sets_parent}
use Rattle.clk_flight.specs.declared.front.Front.{Front}
use Rattle.clk_flight.specs.declared.front.Front.TheVariants.{Empty, Poll, Raise, Lower, Falls, Posts}
use Rattle.clk_flight.specs.Flights.{FlightState}

-- whether a call prepares, and whether it gives up a prepare
abbrev pub is_prepare : Sleeping → Bool
is_prepare (call.Prepare h) = true
is_prepare _ = false

abbrev pub is_unprepare : Sleeping → Bool
is_unprepare (call.Unprepare h) = true
is_unprepare _ = false

-- whether a call sets a range
abbrev pub is_ranged : Sleeping → Bool
is_ranged (call.SetRange h least most) = true
is_ranged _ = false

-- whether a call changes a rate or a parent
abbrev pub changes_rate : Sleeping → Bool
changes_rate (call.SetRate h x) = true
changes_rate (call.SetRateExclusive h x) = true
changes_rate (call.SetRange h least most) = true
changes_rate (call.SetParent h p) = true
changes_rate _ = false

-- whether a call asks for a rate or a range
abbrev pub asks_rate : Sleeping → Bool
asks_rate (call.SetRate h x) = true
asks_rate (call.SetRateExclusive h x) = true
asks_rate (call.SetRange h least most) = true
asks_rate _ = false

-- whether a call registers a clock, and whether it registers this one
abbrev pub is_probe : Sleeping → Bool
is_probe (call.Probe k) = true
is_probe _ = false

abbrev pub probes : Sleeping → ℕ → Bool
probes (call.Probe k) c = k.0 == c
probes _ c = false

-- whether a clock passes a test, or is the one that the call registers
abbrev pub is_near : Sleeping → (ℕ → Bool) → ℕ → Bool
is_near what there c = there c || probes what c

-- whether the steps of a call are worked out before it begins: those of a change of a rate or a parent, of the sweep and of a probe
abbrev pub is_worked_out : Sleeping → Bool
is_worked_out what = changes_rate what || is_sweep what || is_probe what

-- whether a call may raise PLLs: a prepare, a change of a rate or a parent, a probe, or the sweep
abbrev pub may_raise : Sleeping → Bool
may_raise what = is_prepare what || changes_rate what || is_probe what || is_sweep what

-- whether a call may lower PLLs: an unprepare, a change of a rate or a parent, or the sweep
abbrev pub may_lower : Sleeping → Bool
may_lower what = is_unprepare what || changes_rate what || is_sweep what

-- whether a call may go on: a prepare, an unprepare, a change of a rate or a parent, the sweep, or a probe
abbrev pub may_go_on : Sleeping → Bool
may_go_on what = is_prepare what || is_unprepare what || changes_rate what || is_sweep what || is_probe what

-- whether a call gives clocks links: a change of a rate or a parent, or a probe
abbrev pub links_clocks : Sleeping → Bool
links_clocks what = changes_rate what || is_probe what

-- whether a call holds clocks while it goes on: one that links clocks, or the sweep
abbrev pub holds_clocks : Sleeping → Bool
holds_clocks what = links_clocks what || is_sweep what

-- whether a step raises or lowers the PLLs of a clock that passes a test, as its call may; a probe raises those of the clock that it registers, too
abbrev pub may_seek : Sleeping → (ℕ → Bool) → Micro → Bool
may_seek what there (micro.Raise x) = may_raise what && is_near what there x.0
may_seek what there (micro.Lower x) = may_lower what && there x.0
may_seek what there _ = false

-- whether a step is one of those, or tells a notifier, selects a parent, registers the clock of its call, or visits a clock that passes the test,
-- holds it, lets it go, settles its last request or links it to another such clock, as its call may
abbrev pub may_make : Sleeping → (ℕ → Bool) → Micro → Bool
may_make what there (micro.Notify kind c id old new) = changes_rate what
may_make what there (micro.HoldPrepare x) = holds_clocks what && there x.0
may_make what there (micro.HoldEnable x) = holds_clocks what && there x.0
may_make what there (micro.DropEnable x) = holds_clocks what && there x.0
may_make what there (micro.DropPrepare x) = holds_clocks what && there x.0
may_make what there (micro.Relink c p) = links_clocks what && (there c.0 && there p.0)
may_make what there (micro.WriteMux c place) = changes_rate what
may_make what there (micro.Visit c) = changes_rate what && there c.0
may_make what there (micro.Register c) = probes what c.0
may_make what there (micro.Settle c) = links_clocks what && there c.0
may_make what there (micro.Close c) = is_sweep what && there c.0
may_make what there (micro.Unpower c) = is_sweep what && there c.0
may_make what there m = may_seek what there m

-- whether a step can be made over a tree: a clock gets a link to a possible parent, a mux that has a link selects the parent at a place,
-- and a clock of the description that isn't registered is
abbrev pub can_link : Description → List ClockRow → Micro → Bool
can_link defs clocks (micro.Relink c p) = is_in p.0 (parents_of defs c.0)
can_link defs clocks (micro.WriteMux c place) = is_some (mux_field (kind_of defs c.0)) && is_some (link_in clocks c.0) && nat_lt place (length (parents_of defs c.0))
can_link defs clocks (micro.Register c) = nat_lt c.0 (length defs) && not (registered clocks c.0)
can_link defs clocks _ = true

-- whether a timeout leaves steps of this rest of a script: it has a visit, if the call asks for a rate; the registration or a settling, if it
-- registers a clock; and a gate to close, if it is the sweep
abbrev pub can_cut : Sleeping → List Micro → Bool
can_cut (call.Probe c) ms = list_any is_register ms || list_any is_settle ms
can_cut call.Sweep ms = list_any is_close ms
can_cut what ms = list_any is_visit ms || not (asks_rate what)

-- whether the rest behind a step is as it may be: behind a raise a timeout leaves steps of it, and behind a registration there is no other
abbrev pub cuts_behind : Sleeping → Micro → List Micro → Bool
cuts_behind what (micro.Raise x) ms = can_cut what ms
cuts_behind what (micro.Register c) ms = not (list_any is_register ms)
cuts_behind what _ ms = true

-- the clocks that pass a test behind a step: also the one that it registers
abbrev pub there_behind : (ℕ → Bool) → Micro → ℕ → Bool
there_behind there (micro.Register c) k = there k || c.0 == k
there_behind there _ k = there k

-- whether these are such steps, with such a rest behind each, and then the end
abbrev pub is_script : Sleeping → (ℕ → Bool) → List Micro → Bool
is_script what there [] = false
is_script what there (m ∷ ms) = (is_end m && is_none (slice_get ms 0)) || (cuts_behind what m ms && (may_make what there m && is_script what (there_behind there m) ms))

-- whether a timeout of the poll in front, or behind the raise in front, leaves steps of the script
abbrev pub cuts_front : Sleeping → List Micro → Front → Bool
cuts_front what ms (Poll y polls again) = can_cut what ms
cuts_front what ms (Raise x) = can_cut what ms
cuts_front what ms _ = true

-- whether such steps, polls, falls and notices that a rate has changed alone stand in front, and behind the falls of a change of parent
-- notices that it is called off
abbrev pub is_front : Sleeping → (ℕ → Bool) → Front → Bool
is_front what there Empty = true
is_front what there (Poll y polls again) = may_raise what && is_near what there y.0 && option_map_or (λ x. is_near what there x.0) again true
is_front what there (Raise x) = may_raise what && is_near what there x.0
is_front what there (Lower x) = may_lower what && there x.0
is_front what there (Falls told left) = may_raise what && (left == 0 || sets_parent what)
is_front what there (Posts c told left old new) = changes_rate what

-- what is left to do of a call over clocks that pass a test: raises, lowers, polls, falls and visits of such clocks, notices, the registration of its
-- clock, and the end
pub record IsUnderWay (there : ℕ → Bool) (f : FlightState) : Type 0 where
  pub call_ : may_go_on f.call ≡ true
  pub script : is_script f.call there f.left ≡ true
  pub front : is_front f.call there f.front ≡ true
  pub raised : list_all (is_near f.call there) f.raised ≡ true
  pub cut : cuts_front f.call f.left f.front ≡ true
  -- a timeout calls off only a change of parent
  pub extra : sets_parent f.call ≡ false → f.extra ≡ 0
  -- only a change of rate can be vetoed
  pub vetoed : f.vetoed ≡ true → changes_rate f.call ≡ true

-- whether a call that ends is called off: it was vetoed or has timed out
abbrev pub is_called_off : FlightState → Bool
is_called_off f = f.vetoed || f.timed_out

-- whether the end of the call changes nothing but that none is in flight: it is called off, and has no range to put back, or is an
-- unprepare, a change of a parent, the sweep or a probe
abbrev pub ends_bare : FlightState → Bool
ends_bare f = if is_called_off f then not (is_ranged f.call && is_some f.range) else (is_unprepare f.call || sets_parent f.call || is_sweep f.call || is_probe f.call)

-- the handle that the end of a call may write
abbrev pub handle_to_end : Sleeping → Option Handle
handle_to_end (call.Prepare h) = Some h
handle_to_end (call.SetRate h x) = Some h
handle_to_end (call.SetRateExclusive h x) = Some h
handle_to_end (call.SetRange h least most) = Some h
handle_to_end _ = None
