-- How a call that goes on begins beside the enables and disables: the same clocks, enables and gates, and of handles at most another range.
use Rattle.std.proofs.Common.{◌≡◌, ℕ, ◌+◌, Bool, true, false, [], Option, Some, None, refl, sym, ap, subst, ◌∙◌, arith, length, set}
use Rattle.std.specs.Prelude.{option_map}
use Rattle.clk_base.specs.declared.call.Sleeping.{Sleeping}
use Rattle.clk_base.specs.declared.call.Sleeping.TheVariants as call
use Rattle.clk_base.specs.declared.event.Errno.TheVariants as errno
use Rattle.clk_base.specs.declared.event.Event.TheVariants as event
use Rattle.clk_base.specs.declared.event.Turn.TheVariants as turn
use Rattle.clk_base.specs.Valid.{IsValid}
use Rattle.reg_bank.specs.Registers.{Registers}
use Rattle.clk_model.specs.declared.row.HandleRow.{HandleRow}
use Rattle.clk_model.specs.Begin.{begun, change_along, held_once_more, put_handle, refused, request, request_between, starts}
use Rattle.clk_model.specs.Gates.{settled}
use Rattle.clk_model.specs.Chain.{chain}
use Rattle.clk_model.specs.Kinds.{is_open}
use Rattle.clk_model.specs.Machine.{next}
use Rattle.clk_model.specs.Round.{wiring}
use Rattle.clk_model.specs.Views.{lift, view}
use Rattle.clk_model.specs.State.{State, Change, handle_at}
use Rattle.clk_base.specs.declared.event.Turn.{Turn}
use Rattle.clk_model.proofs.BeginsLaws.{changes_rate, Starts, raising_handle, lowering_handle, planning, reparents, probing, sweeping, Begins, answers, gives, takes, adjusts, prepares, unprepares, notes, registers, goes_on, begins_so}
use Rattle.clk_model.proofs.Cases.{by_plan}
use Rattle.clk_model.proofs.EventLaws.{own_is_live}
use Rattle.clk_model.proofs.FlightLaws.{begin_is}
use Rattle.clk_model.proofs.TierLaws.{pick_either, with_handle_either}
use Rattle.clk_machine.proofs.Besides.{Beside, at_unranged, set_unranged, unranged, who_is_active, without_range}
use Rattle.clk_machine.proofs.BesideSteps.{put_back, still}

-- a state is another one but for ranges of handles, notifiers, a change in flight, and what the enable tier doesn't read
record SameRest (q v : State) : Type 0 where
  regs : v.regs ≡ q.regs
  defs : v.defs ≡ q.defs
  clocks : v.clocks ≡ q.clocks
  holds : v.enable_holds ≡ q.enable_holds
  handles : unranged v.handles ≡ unranged q.handles
  credits : v.credits ≡ q.credits

itself : (q : State) → SameRest q q
itself q = record { regs = refl; defs = refl; clocks = refl; holds = refl; handles = refl; credits = refl }

-- where an answer says that the call goes on, its state is so
abbrev GoesFrom : State → State × Turn → Type 0
GoesFrom q y = y.1 ≡ turn.Going → (k : Change) × (y.0.change ≡ Some k) × SameRest q y.0

starts_from : (q old n : State) (k : Change) → SameRest q n → GoesFrom q (starts old n k)
starts_from q old n k same =
    pick_either (GoesFrom q) _ _ _ (λ e going. absurd cc)
    (λ e going. (k, refl, record { regs = same.regs; defs = same.defs; clocks = same.clocks; holds = same.holds; handles = same.handles; credits = same.credits }))

request_from : (q old n fine lifted : State) (d : ℕ) (what : Sleeping) (c x : ℕ) (range : Option (ℕ × ℕ)) → SameRest q n → GoesFrom q (request old n fine lifted d what c x range)
request_from q old n fine lifted d what c x range same =
    pick_either (GoesFrom q) _ _ _ (λ e going. absurd cc)
    (λ e. pick_either (GoesFrom q) _ _ _ (λ e' going. absurd cc)
    (λ e'. by_plan (GoesFrom q) (chain (wiring n) (view lifted) c x) (λ ks. starts old n (change_along n d what ks [] range)) (refused old errno.EINVAL) (λ going. absurd cc) (λ ks. starts_from q old n (change_along n d what ks [] range) same)))

ranged : (q : State) (n : ℕ) (row new : HandleRow) → handle_at q.handles n ≡ Some row → without_range new ≡ without_range row → SameRest q (put_handle q n (Some new))
ranged q n row new at same = record {
  regs = refl;
  defs = refl;
  clocks = refl;
  holds = refl;
  handles =
      set_unranged q.handles n (Some new)
      ∙ ap (λ (o : Option HandleRow). set (unranged q.handles) n o) (ap (λ (r : HandleRow). let o : Option HandleRow = Some r in o) same ∙ ap (option_map without_range) (sym at) ∙ at_unranged q.handles n)
      ∙ put_back (unranged q.handles) n;
  credits = refl;
}

-- a call that goes on from such a state, whichever it is but an unprepare
abbrev pub is_unprepare : Sleeping → Bool
is_unprepare (call.Unprepare h) = true
is_unprepare _ = false

start_from : (q n : State) (d : ℕ) (what : Sleeping) (k : Change) → is_unprepare what ≡ false → changes_rate what ≡ false → Starts q d what n k → SameRest q n
start_from q n d what k other rates (raising_handle h row is at) = itself q
start_from q n d what k other rates (lowering_handle h row is at gives_up) = let no : true ≡ false = ap is_unprepare (sym is) ∙ other in absurd cc
start_from q n d what k other rates (planning _ number row over x ks range planned_ at is rates') = let no : true ≡ false = sym rates' ∙ rates in absurd cc
start_from q n d what k other rates (reparents number row p sets at away mux m root) = itself q
start_from q n d what k other rates (probing c is free) = itself q
start_from q n d what k other rates (sweeping is) = itself q

other_from : (q : State) (d : ℕ) (what : Sleeping) → is_unprepare what ≡ false → changes_rate what ≡ false → GoesFrom q (begun q d what)
other_from q d what other rates = by_case (begun q d what) (begins_so q d what) where
  by_case : (y : State × Turn) → Begins q d what y → GoesFrom q y
  by_case y (goes_on n k starts_) going =
      let same = start_from q n d what k other rates starts_ in
      (k, refl, record { regs = same.regs; defs = same.defs; clocks = same.clocks; holds = same.holds; handles = same.handles; credits = same.credits })
  by_case y (answers r) going = absurd cc
  by_case y (gives c root) going = absurd cc
  by_case y (takes number row at idle) going = absurd cc
  by_case y (adjusts number old new r adjusted) going = absurd cc
  by_case y (prepares number row at calm_) going = absurd cc
  by_case y (unprepares number row at gives_up) going = absurd cc
  by_case y (notes notifiers r) going = absurd cc
  by_case y (registers c free calm_) going = absurd cc

begun_from : (q : State) (d : ℕ) (what : Sleeping) → is_unprepare what ≡ false → GoesFrom q (begun q d what)
unfolding begun
begun_from q d (call.SetRate h x) other =
    with_handle_either (GoesFrom q) q d h.number _ (λ going. absurd cc) (λ row own. request_from q q q q (lift q h.number) d (call.SetRate h x) row.clock.0 x None (itself q))
begun_from q d (call.SetRateExclusive h x) other =
    with_handle_either (GoesFrom q) q d h.number _ (λ going. absurd cc) (λ row own. request_from q q q (held_once_more q h.number row) q d (call.SetRateExclusive h x) row.clock.0 x None (itself q))
begun_from q d (call.SetRange h least most) other =
    with_handle_either (GoesFrom q) q d h.number _ (λ going. absurd cc)
    (λ row own. pick_either (GoesFrom q) _ _ _ (λ e going. absurd cc)
    (λ e. request_from q q (put_handle q h.number (Some (record row { min = least; max = most }))) (put_handle q h.number (Some (record row { min = least; max = most })))
    (lift (put_handle q h.number (Some (record row { min = least; max = most }))) h.number) d (call.SetRange h least most) row.clock.0 (request_between q.clocks row.clock.0 least most) (Some (row.min, row.max))
    (ranged q h.number row (record row { min = least; max = most }) (own_is_live q d h.number row own) refl)))
begun_from q d what other = other_from q d what other refl

-- so the call begins beside the enables and disables
pub begin_beside : (q s : State) (d : ℕ) (what : Sleeping) → IsValid (length q.regs) q.defs → is_unprepare what ≡ false → next q d (event.Begin what) ≡ Some (s, turn.Going)
    → Beside (length q.regs) q s × (k : Change) × (s.change ≡ Some k)
unfolding settled
begin_beside q s d what valid other step =
    let start = begin_is q s d what turn.Going step in
    let goes = begun_from q d what other start.2 in
    let v : State = (begun q d what).0 in
    let same = goes.2 in
    let rest : (settled q v).regs ≡ v.regs = still q v (who_is_active q v same.defs same.clocks same.holds same.handles) in
    let after : State = record (settled q v) { spent = q.spent + 1 } in
    let beside : Beside (length q.regs) q after = record {
      valid = valid;
      size_u = refl;
      size_s = ap (λ (rs : Registers). length rs) (rest ∙ same.regs);
      defs = same.defs;
      clocks = same.clocks;
      holds = same.holds;
      handles = same.handles;
      credits = same.credits;
      spent = omega arith;
      gates = λ c gate at. ap (λ (rs : Registers). is_open rs gate) (rest ∙ same.regs);
    } in (
      subst (λ (w : State). Beside (length q.regs) q w) start.1 beside,
      goes.0,
      sym (ap (λ (w : State). w.change) start.1) ∙ goes.1,
    )
