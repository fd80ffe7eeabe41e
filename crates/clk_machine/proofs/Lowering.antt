-- What an unprepare that goes on comes to, in states and in the parts of a core.
use Rattle.std.proofs.Common.{◌≡◌, ℕ, ◌+◌, ◌-◌, ◌<◌, ◌≤◌, ◌&&◌, not, Bool, true, false, List, [], ◌∷◌, Option, Some, None, refl, sym, ap, subst, ◌∙◌, arith, length, set, get_or, filter, nat_lt, nat_le}
use Rattle.std.specs.Prelude.{is_none, is_some, slice_get, sum_by, IfSome}
use Rattle.std.specs.Option.{option_map}
use Rattle.std.proofs.lemmas.Bool.Decides.{nat_tests}
use Rattle.std.proofs.lemmas.List.Sums.{sum_by-cons}
use Rattle.std.proofs.lemmas.List.{set-set, set-get_or, get_or-set_same}
use Rattle.std.proofs.Math.Bool.{or-false}
use Rattle.clk_base.specs.declared.call.Micro.{Micro}
use Rattle.clk_base.specs.declared.call.Micro.TheVariants as micro
use Rattle.clk_base.specs.declared.call.Sleeping.{Sleeping}
use Rattle.clk_base.specs.declared.call.Sleeping.TheVariants as call
use Rattle.clk_base.specs.declared.clock.ClockId.{ClockId}
use Rattle.clk_base.specs.declared.event.Errno.TheVariants as errno
use Rattle.clk_base.specs.declared.event.Event.TheVariants as event
use Rattle.clk_base.specs.declared.event.Reply.TheVariants as reply
use Rattle.clk_base.specs.declared.event.Turn.TheVariants as turn
use Rattle.clk_base.specs.declared.handle.Handle.{Handle}
use Rattle.clk_base.specs.Description.{Description}
use Rattle.clk_model.specs.declared.row.ClockRow.{ClockRow}
use Rattle.clk_model.specs.declared.row.HandleRow.{HandleRow}
use Rattle.clk_model.specs.Lists.{present}
use Rattle.clk_model.specs.State.{State, Change, NotifierRow, registered, handle_at}
use Rattle.clk_model.specs.Tree.{path}
use Rattle.clk_model.specs.Script.{plls, runs, weight, unprepared_plls}
use Rattle.clk_model.specs.Begin.{most_credits, weight_of, change_of, put_handle, own_handle, keeps_prepare, unprepare, refused, begun}
use Rattle.clk_model.specs.Machine.{paid, next}
use Rattle.clk_model.proofs.EventLaws.{pick-true, pick-false, own_is_live, prepared_once_less, begin_quiet, with-some}
use Rattle.clk_model.proofs.StateLaws.{paid-still, active-put_same}
use Rattle.clk_flight.specs.Flights.{FlightState, IsChange}
use Rattle.clk_flight.specs.LeftOver.{step_weight}
use Rattle.counts_core.specs.Counted.{CountState, AreCounts}
use Rattle.rate_requests.specs.Handles.{HandleTable}
use Rattle.clk_machine.specs.Holding.{prepared_less, puts}
use Rattle.core_parts.specs.InFlight.{changes_rate, links_clocks, probes}
use Rattle.core_parts.specs.Listed.{rows_from}
use Rattle.clk_machine.specs.Parts.{Parts, held_in_all, IsOwnCall, IsWhole}
use Rattle.core_parts.specs.Plls.{lowerable, Finds}
use Rattle.core_parts.specs.declared.plls.Sought.{Sought}
use Rattle.clk_machine.specs.Stands.{Stands, Enters}
use Rattle.clk_machine.specs.Starting.{StartsCall, released}
use Rattle.clk_machine.proofs.Flying.{quiet_stands}
use Rattle.clk_machine.proofs.Making.{to_lower_stands}
use Rattle.clk_machine.proofs.Room.{prepare_held}
use Rattle.core_parts.proofs.Shapes.{sum_by-set}
use Rattle.core_parts.proofs.Deciding.{not_less}
use Rattle.clk_machine.proofs.Starting.{Started, started_left, started_way, flying, whole_flying, stands_flying}
use Rattle.clk_machine.proofs.Writing.{Written, with_written, whole_written, stands_written, written_prepares}

-- ---- in states

abbrev pub lower_script : ClockId → List Micro
lower_script c = micro.Lower c ∷ micro.End ∷ []

-- what it weighs
lower_weighs : (s : State) (d : ℕ) (what : Sleeping) (c : ClockId) → weight_of s (change_of s d what (lower_script c)) ≡ plls s.defs + 2
lower_weighs s d what c =
    let one = sum_by-cons (weight s) (micro.Lower c) (micro.End ∷ []) in
    let two = sum_by-cons (weight s) micro.End [] in
    omega arith

-- the PLLs of a handle's path that are powered without a prepare, were one of the handle given up
abbrev pub freed : State → ℕ → HandleRow → List ℕ
freed s number row = filter (runs s.defs s.regs) (unprepared_plls (prepared_once_less s number row) (path s.clocks row.clock.0))

-- an unprepare is answered at once where there is none
pub unprepare_done : (s : State) (d : ℕ) (h : Handle) (row : HandleRow) → s.change ≡ None → own_handle s d h.number ≡ Some row → keeps_prepare row ≡ false
    → is_none (slice_get (freed s h.number row) 0) ≡ true → next s d (event.Begin (call.Unprepare h)) ≡ paid s (prepared_once_less s h.number row, turn.Done reply.Fine)
unfolding begun
unprepare_done s d h row quiet own frees none =
    begin_quiet s d (call.Unprepare h) quiet
    ∙ ap (paid s) (with-some s d h.number (unprepare s d (call.Unprepare h) h.number) row own
    ∙ pick-false (keeps_prepare row) _ _ frees
    ∙ pick-true (is_none (slice_get (freed s h.number row) 0)) _ _ none)

-- goes on where there is one, and room
pub unprepare_going : (s : State) (d : ℕ) (h : Handle) (row : HandleRow) → s.change ≡ None → own_handle s d h.number ≡ Some row → keeps_prepare row ≡ false
    → is_none (slice_get (freed s h.number row) 0) ≡ false → s.spent < s.credits → s.credits + s.steps + (plls s.defs + 2) ≤ most_credits
    → next s d (event.Begin (call.Unprepare h)) ≡ Some (record (prepared_once_less s h.number row) { change = Some (change_of s d (call.Unprepare h) (lower_script row.clock)); spent = s.spent + 1 }, turn.Going)
unfolding begun
unprepare_going s d h row quiet own frees some left room =
    let k : Change = change_of s d (call.Unprepare h) (lower_script row.clock) in
    let less : State = prepared_once_less s h.number row in
    let weighs = lower_weighs s d (call.Unprepare h) row.clock in
    let fits : nat_lt most_credits (less.credits + less.steps + weight_of less k) ≡ false = not_less (less.credits + less.steps + weight_of less k) most_credits (omega arith) in
    begin_quiet s d (call.Unprepare h) quiet
    ∙ ap (paid s) (with-some s d h.number (unprepare s d (call.Unprepare h) h.number) row own
    ∙ pick-false (keeps_prepare row) _ _ frees
    ∙ pick-false (is_none (slice_get (freed s h.number row) 0)) _ _ some
    ∙ pick-false (nat_lt most_credits (less.credits + less.steps + weight_of less k)) _ _ fits)
    ∙ paid-still s (record less { change = Some k }) turn.Going left (λ c. active-put_same s h.number row (prepared_less row) c (own_is_live s d h.number row own) refl refl)

-- and is refused where there is no room
pub unprepare_full : (s : State) (d : ℕ) (h : Handle) (row : HandleRow) → s.change ≡ None → own_handle s d h.number ≡ Some row → keeps_prepare row ≡ false
    → is_none (slice_get (freed s h.number row) 0) ≡ false → most_credits < s.credits + s.steps + (plls s.defs + 2)
    → next s d (event.Begin (call.Unprepare h)) ≡ paid s (refused s errno.ENOSPC)
unfolding begun
unprepare_full s d h row quiet own frees some full =
    let k : Change = change_of s d (call.Unprepare h) (lower_script row.clock) in
    let less : State = prepared_once_less s h.number row in
    let weighs = lower_weighs s d (call.Unprepare h) row.clock in
    let more : nat_lt most_credits (less.credits + less.steps + weight_of less k) ≡ true = less_is most_credits (less.credits + less.steps + weight_of less k) (omega arith) in
    begin_quiet s d (call.Unprepare h) quiet
    ∙ ap (paid s) (with-some s d h.number (unprepare s d (call.Unprepare h) h.number) row own
    ∙ pick-false (keeps_prepare row) _ _ frees
    ∙ pick-false (is_none (slice_get (freed s h.number row) 0)) _ _ some
    ∙ pick-true (nat_lt most_credits (less.credits + less.steps + weight_of less k)) _ _ more) where
      less_is : (a b : ℕ) → a < b → nat_lt a b ≡ true
      less_is a b lt = grind (arith, nat_tests)

-- ---- in the parts

-- the parts with the prepare given up
abbrev table_less : Parts → ℕ → HandleRow → HandleTable
table_less old n row = record old.table { handles = set old.table.handles n (Some (prepared_less row)) }

-- a live handle that gives up a prepare
pub record Releases (old : Parts) (n : ℕ) (row : HandleRow) : Type 0 where
  pub whole : IsWhole old
  pub live : handle_at old.table.handles n ≡ Some row
  pub some : 0 < row.prepares
  pub left : old.spent < old.credits
  pub keeps : AreCounts (released old.counts row.clock.0)

pub written_less : (old : Parts) (n : ℕ) (row : HandleRow) (table' : HandleTable) → Releases old n row → table'.handles ≡ set old.table.handles n (Some (prepared_less row)) → table'.clocks ≡ old.table.clocks
    → Written old n row (prepared_less row) table' (released old.counts row.clock.0)
written_less old n row table' is handles clocks =
    let held : 0 < get_or old.counts.prepares row.clock.0 0 = prepare_held old n row is.whole is.live is.some in
    let some = is.some in
    written_prepares old n (get_or old.counts.prepares row.clock.0 0 - 1) row (prepared_less row) table' (released old.counts row.clock.0) is.whole (record {
      live = is.live;
      clock = refl;
      driver = refl;
      handles = handles;
      clocks = clocks;
      more = omega arith;
    }) is.keeps refl (omega arith) refl refl

-- what a lower of the parts then finds is what the state has to lower
freed_stands : (old : Parts) (n : ℕ) (row : HandleRow) (s : State) → Releases old n row → Stands old s
    → freed s n row ≡ lowerable old.desc.defs (released old.counts row.clock.0) s.regs (path old.tree.clocks row.clock.0)
freed_stands old n row s is stands =
    let table' : HandleTable = table_less old n row in
    let counts' : CountState = released old.counts row.clock.0 in
    let written = written_less old n row table' is refl refl in
    to_lower_stands (with_written old old.window table' counts') (record (put_handle s n (Some (prepared_less row))) { regs = s.regs; spent = s.spent + 1 }) row.clock.0
    (whole_written old n row (prepared_less row) old.window table' counts' is.whole written is.left is.whole.tied)
    (stands_written old n row (prepared_less row) old.window table' counts' s s.regs written stands stands.regs)

-- whether it finds one
pub freed_told : (old : Parts) (n : ℕ) (row : HandleRow) (s : State) (r t : Bool) → r ≡ t → Releases old n row → Stands old s
    → IfSome old.window.words (λ regs. r ≡ is_some (slice_get (lowerable old.desc.defs (released old.counts row.clock.0) regs (path old.tree.clocks row.clock.0)) 0))
    → is_none (slice_get (freed s n row) 0) ≡ not t
freed_told old n row s r t same is stands found =
    let told : r ≡ is_some (slice_get (lowerable old.desc.defs (released old.counts row.clock.0) s.regs (path old.tree.clocks row.clock.0)) 0) =
    subst (λ (o : Option (List ℕ)). IfSome o (λ regs. r ≡ is_some (slice_get (lowerable old.desc.defs (released old.counts row.clock.0) regs (path old.tree.clocks row.clock.0)) 0))) stands.regs found in
    ap (λ (ys : List ℕ). is_none (slice_get ys 0)) (freed_stands old n row s is stands)
    ∙ none_not (slice_get (lowerable old.desc.defs (released old.counts row.clock.0) s.regs (path old.tree.clocks row.clock.0)) 0) ∙ ap not (sym told ∙ same) where
      none_not : (o : Option ℕ) → is_none o ≡ not (is_some o)
      none_not None = refl
      none_not (Some y) = refl

-- what is left to come of it
pub lower_left : (rows : List NotifierRow) (plls_ : ℕ) (c : ClockId) → sum_by (step_weight rows plls_) (lower_script c) ≡ plls_ + 2
lower_left rows p c =
    let one = sum_by-cons (step_weight rows p) (micro.Lower c) (micro.End ∷ []) in
    let two = sum_by-cons (step_weight rows p) micro.End [] in
    omega arith

-- less is held than was paid for
less_held : (old : Parts) (n : ℕ) (row : HandleRow) (table' : HandleTable) → Releases old n row → Written old n row (prepared_less row) table' (released old.counts row.clock.0)
    → sum_by held_in_all (present table'.handles) < old.spent + 1
less_held old n row table' is written =
    subst (λ (hs : List (Option HandleRow)). sum_by held_in_all (present hs) < old.spent + 1) (sym written.handles)
    (let few = is.whole.paid.few_holds in
    let sums = sum_by-set held_in_all old.table.handles n row (prepared_less row) is.live in
    let some = is.some in
    omega arith)

-- the parts stay whole
pub whole_lowering : (old : Parts) (d : ℕ) (h : Handle) (row : HandleRow) (table' : HandleTable) (flight' : FlightState) → Releases old h.number row
    → Written old h.number row (prepared_less row) table' (released old.counts row.clock.0) → old.credits + old.steps + (plls old.desc.defs + 2) ≤ most_credits
    → Started old d (call.Unprepare h) (lower_script row.clock) flight' → IsWhole (flying (with_written old old.window table' (released old.counts row.clock.0)) flight')
whole_lowering old d h row table' flight' is written room now =
    let p : Parts = with_written old old.window table' (released old.counts row.clock.0) in
    let whole : IsWhole p = whole_written old h.number row (prepared_less row) old.window table' (released old.counts row.clock.0) is.whole written is.left is.whole.tied in
    whole_flying p flight' whole (record {
      plls_ = now.plls_;
      tells = λ changes. let no : true ≡ false = sym changes ∙ ap changes_rate now.call_ in absurd cc;
      links = λ changes. let no : true ≡ false = sym changes ∙ ap links_clocks now.call_ in absurd cc;
      placed = λ c here. let no : true ≡ false = sym here ∙ ap (λ (what : Sleeping). probes what c) now.call_ in absurd cc;
      way = started_way old d (call.Unprepare h) (lower_script row.clock) flight' (registered old.tree.clocks) now refl (ap (λ (b : Bool). b && true) (is.whole.handled h.number row is.live));
      own = subst (λ (what : Sleeping). IsOwnCall table'.handles flight'.driver what) (sym now.call_) tt;
      paid = less_held old h.number row table' is written;
    }) (let steps = started_left old d (call.Unprepare h) (lower_script row.clock) flight' now in let few = lower_left (rows_from 0 old.chains) (plls old.desc.defs) row.clock in omega arith)

-- and the call goes on
pub starts_lowering : (old : Parts) (d : ℕ) (h : Handle) (row : HandleRow) (table' : HandleTable) (flight' : FlightState)
    → Written old h.number row (prepared_less row) table' (released old.counts row.clock.0) → Started old d (call.Unprepare h) (lower_script row.clock) flight'
    → ((s : State) → IsChange s.notifiers flight' (change_of s d (call.Unprepare h) (lower_script row.clock)))
    → StartsCall old d (call.Unprepare h) (lower_script row.clock) (puts h.number (Some (prepared_less row))) (flying (with_written old old.window table' (released old.counts row.clock.0)) flight')
starts_lowering old d h row table' flight' written now change =
    let p : Parts = with_written old old.window table' (released old.counts row.clock.0) in
    record {
      remains = record { desc = refl; told = refl; size = refl; behind = refl; credits = refl; ignore_unused = refl };
      spent = refl;
      locks = refl;
      rows = λ c. refl;
      going = now.going;
      driver_ = now.driver;
      left = started_left old d (call.Unprepare h) (lower_script row.clock) flight' now;
      stands = λ s stands.
          stands_flying p flight' (record (put_handle s h.number (Some (prepared_less row))) { regs = s.regs; spent = s.spent + 1 }) (change_of s d (call.Unprepare h) (lower_script row.clock))
          (stands_written old h.number row (prepared_less row) old.window table' (released old.counts row.clock.0) s s.regs written stands stands.regs) (change s) (λ changes. absurd cc);
    }

-- an unprepare that goes on takes the parts on
pub enters_unprepare : (old new : Parts) (d : ℕ) (h : Handle) (row : HandleRow) → old.flight.going ≡ false → old.spent < old.credits
    → ((s : State) → Stands old s → own_handle s d h.number ≡ Some row) → keeps_prepare row ≡ false → ((s : State) → Stands old s → is_none (slice_get (freed s h.number row) 0) ≡ false)
    → old.credits + old.steps + (plls old.desc.defs + 2) ≤ most_credits → StartsCall old d (call.Unprepare h) (lower_script row.clock) (puts h.number (Some (prepared_less row))) new
    → Enters old d (event.Begin (call.Unprepare h)) turn.Going new
enters_unprepare old new d h row quiet left own frees some room starts_ = record {
  remains = starts_.remains;
  pays = starts_.spent;
  rows = λ c. starts_.rows c ∙ sym (or-false (registered old.tree.clocks c));
  going = starts_.going;
  driver_ = λ still. starts_.driver_;
  fewer = λ free. absurd cc;
  begun = λ paid goes. let steps = starts_.left in let few = lower_left (rows_from 0 old.chains) (plls old.desc.defs) row.clock in omega arith;
  no_more = λ paid done. absurd cc;
  locks = λ still. starts_.locks;
  beside = λ tier. absurd cc;
  step = λ s stands sound.
      let spends : s.spent < s.credits = let one = stands.spent in let two = stands.credits in omega arith in
      let most : plls s.defs ≡ plls old.desc.defs = ap plls stands.defs in
      let fits : s.credits + s.steps + (plls s.defs + 2) ≤ most_credits = let one = stands.credits in let two = stands.steps in omega arith in
      record {
        to = record (puts h.number (Some (prepared_less row)) s) { change = Some (change_of s d (call.Unprepare h) (lower_script row.clock)); spent = s.spent + 1 };
        next_ = unprepare_going s d h row (quiet_stands old s stands quiet) (own s stands) frees (some s stands) spends fits;
        stands = starts_.stands s stands;
      };
}

-- there is no room in the state where there is none in the parts
pub full_lowering : (m : Parts) (s : State) → Stands m s → nat_le (m.credits + m.steps + (plls m.desc.defs + 2)) most_credits ≡ false → most_credits < s.credits + s.steps + (plls s.defs + 2)
full_lowering m s stands full =
    let over : most_credits < m.credits + m.steps + (plls m.desc.defs + 2) = more most_credits (m.credits + m.steps + (plls m.desc.defs + 2)) full in
    let one = stands.credits in
    let two = stands.steps in
    let most : plls s.defs ≡ plls m.desc.defs = ap plls stands.defs in
    omega arith where
      more : (a b : ℕ) → nat_le b a ≡ false → a < b
      more a b e = grind (arith, nat_tests)

-- ---- counts that are given up and taken again

-- a clock has its place among the prepares
place_held : (counts : CountState) (c : ℕ) → AreCounts counts → c < length counts.links → c < length counts.prepares
place_held counts c keeps within = let same = keeps.prepares in omega arith

-- a prepare that is given up and taken again leaves the counts as they were
pub held_again : (counts less back : CountState) (c : ℕ) → AreCounts counts → 0 < get_or counts.prepares c 0 → c < length counts.links → less ≡ released counts c
    → back ≡ record less { prepares = set less.prepares c (get_or less.prepares c 0 + 1) } → back ≡ counts
held_again counts less back c keeps some within gives is =
    let ps : List ℕ = counts.prepares in
    let one : get_or (set ps c (get_or ps c 0 - 1)) c 0 ≡ get_or ps c 0 - 1 = get_or-set_same ps c (get_or ps c 0 - 1) 0 (place_held counts c keeps within) in
    let sum : get_or (set ps c (get_or ps c 0 - 1)) c 0 + 1 ≡ get_or ps c 0 = omega arith in
    is ∙ ap (λ (k : CountState). let back : CountState = record k { prepares = set k.prepares c (get_or k.prepares c 0 + 1) } in back) gives
    ∙ ap (λ (xs : List ℕ). let k : CountState = record counts { prepares = xs } in k)
    (ap (λ (n : ℕ). set (set ps c (get_or ps c 0 - 1)) c n) sum ∙ set-set ps c (get_or ps c 0 - 1) (get_or ps c 0) ∙ set-get_or ps c 0)

-- and there is room for it
pub small_again : (counts less : CountState) (c : ℕ) → AreCounts counts → c < length counts.links → less ≡ released counts c → get_or counts.prepares c 0 < 8388608
    → get_or less.prepares c 0 < 8388608
small_again counts less c keeps within gives few =
    let ps : List ℕ = counts.prepares in
    let one : get_or less.prepares c 0 ≡ get_or ps c 0 - 1 =
    ap (λ (k : CountState). get_or k.prepares c 0) gives ∙ get_or-set_same ps c (get_or ps c 0 - 1) 0 (place_held counts c keeps within) in
    omega arith

-- whether a search found a PLL
pub found_some : (words : Option (List ℕ)) (defs : Description) (counts : CountState) (clocks : List ClockRow) (c : ℕ) (found : Sought) (r : Bool) → r ≡ is_some found.pll
    → IfSome words (λ regs. Finds found (lowerable defs counts regs (path clocks c))) → IfSome words (λ regs. r ≡ is_some (slice_get (lowerable defs counts regs (path clocks c)) 0))
found_some None defs counts clocks c found r is finds = tt
found_some (Some regs) defs counts clocks c found r is finds = is ∙ mapped found.pll ∙ ap (λ (o : Option ℕ). is_some o) finds.first where
  mapped : (o : Option ClockId) → is_some o ≡ is_some (option_map (λ (c : ClockId). c.0) o)
  mapped None = refl
  mapped (Some c) = refl
