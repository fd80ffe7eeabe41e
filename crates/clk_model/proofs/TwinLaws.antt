-- Laws on twins: a state without enables goes along with each event of another.
use Rattle.std.proofs.Common.{◌≡◌, ℕ, ◌+◌, ◌-◌, ◌<◌, ◌||◌, Bool, true, false, cond, List, [], ◌∷◌, ◌++◌, Option, Some, None, refl, sym, ap, subst, ◌∙◌, ◌⊎◌, inl, inr, arith, nat_le, nat_lt, set}
use Rattle.std.specs.Prelude.{option_map, slice_get, reverse}
use Rattle.std.specs.Option.{option_map_or}
use Rattle.clk_base.specs.declared.call.Micro.{Micro}
use Rattle.clk_base.specs.declared.call.Micro.TheVariants as micro
use Rattle.clk_base.specs.declared.call.Sleeping.{Sleeping}
use Rattle.clk_base.specs.declared.call.Sleeping.TheVariants as call
use Rattle.clk_base.specs.declared.event.Event.TheVariants as event
use Rattle.clk_base.specs.declared.event.Reply.TheVariants as reply
use Rattle.clk_base.specs.declared.event.Turn.{Turn}
use Rattle.clk_base.specs.declared.event.Turn.TheVariants as turn
use Rattle.clk_model.specs.declared.row.ClockRow.{ClockRow}
use Rattle.clk_model.specs.declared.row.HandleRow.{HandleRow}
use Rattle.clk_model.specs.State.{State, Change, handle_at, link_in, requested}
use Rattle.clk_model.specs.Holders.{is_enabled}
use Rattle.clk_model.specs.Round.{most_rate}
use Rattle.clk_model.specs.Chain.{clock_id}
use Rattle.clk_model.specs.Gates.{settled}
use Rattle.clk_model.specs.Begin.{put_handle, register, prepared_once_more, held_once_more, request_between, begun}
use Rattle.clk_model.specs.Step.{taken, on, to_raise, raise_one, timed_out, poll, is_yes, to_lower, lower_one, ended_well, with_range, range_back, unranged, end_of, stepped}
use Rattle.clk_model.specs.Machine.{next}
use Rattle.clk_model.specs.Prep.{without_enables, prep}
use Rattle.clk_model.specs.Laws.PrepBegins.{ComesAlike, finds_enable, IsKeptBack, BeginsAlike, alike, first_lacks_room, second_lacks_room}
use Rattle.clk_model.specs.Laws.Twins.{IsTwin, IsLeftOut, TwinsStay, TwinMakes, TwinsStep, TwinsBegin}
use Rattle.clk_model.proofs.BareHandleLaws.{bare, bare_set}
use Rattle.clk_model.proofs.BeginsLaws.{Adjusts, over_itself, over_range, Starts, raising_handle, lowering_handle, planning, reparents, probing, sweeping, Begins, answers, gives, takes, adjusts, prepares, unprepares, notes, registers, goes_on, begins_so}
use Rattle.clk_model.proofs.Cases.{by_option, by_test}
use Rattle.clk_model.proofs.FlightLaws.{begin_is}
use Rattle.clk_model.proofs.HoldLaws.{end_holds}
use Rattle.clk_model.proofs.HoldSteps.{holds_of, held_after_step, step_holds}
use Rattle.clk_model.proofs.PrepToldLaws.{handle_masked}
use Rattle.clk_model.proofs.ShapeLaws.{IsPaid, taken_step, begun_paid, enable_paid}
use Rattle.clk_model.proofs.TierLaws.{enable_tier_leaves_prep, beside_clocks}
use Rattle.clk_model.proofs.VetoLaws.{of_change, end_state}
use Rattle.clk_model.proofs.AlikeLaws.{same_change}
use Rattle.clk_model.proofs.PlansReadLaws.{prep_credits, still_quiet}
use Rattle.clk_model.proofs.PrepEndLaws.{steps_read_prep}
use Rattle.clk_model.proofs.PrepEventLaws.{bare_begins_read_prep, room_alike, begins_paid, prep_paid}

-- ---- the enable tier

pub twins_stay : TwinsStay
twins_stay s t u d e x twin tier step =
    let paid = enable_paid s u d e x tier step in
    let least = twin.spent in
    let few = twin.steps in
    let spent = paid.spent in
    let steps = paid.steps in
    record {
      bare = twin.bare;
      holds = twin.holds ∙ sym (beside_clocks s u d e x tier step).2;
      spent = omega arith;
      steps = omega arith;
      same = twin.same ∙ sym (enable_tier_leaves_prep s u d e x tier step);
    }

-- ---- handles without enables

-- no handle of a state has an enable
abbrev IsBare : State → Type 0
IsBare s = s.handles ≡ bare s.handles

put_bare : (hs : List (Option HandleRow)) (n : ℕ) (o : Option HandleRow) → hs ≡ bare hs → option_map without_enables o ≡ o → set hs n o ≡ bare (set hs n o)
put_bare hs n o none one =
    ap (λ (ks : List (Option HandleRow)). set ks n o) none ∙ ap (λ (p : Option HandleRow). set (bare hs) n p) (sym one) ∙ sym (bare_set hs n o)

-- a row without enables is itself without them
row_bare : (hs : List (Option HandleRow)) (n : ℕ) → hs ≡ bare hs → option_map without_enables (handle_at hs n) ≡ handle_at hs n
row_bare hs n none = handle_masked hs n ∙ ap (λ (ks : List (Option HandleRow)). handle_at ks n) (sym none)

-- of a row that is there
at_bare_row : (hs : List (Option HandleRow)) (n : ℕ) (row : HandleRow) → hs ≡ bare hs → handle_at hs n ≡ Some row → row.enables ≡ 0
at_bare_row hs n row none at =
    let one : option_map without_enables (Some row) ≡ Some row = ap (λ (o : Option HandleRow). option_map without_enables o) (sym at) ∙ row_bare hs n none ∙ at in
    sym (ap (λ (o : Option HandleRow). option_map_or (λ h. h.enables) o 0) one)

bare_row : (row : HandleRow) → row.enables ≡ 0 → option_map without_enables (Some row) ≡ Some row
bare_row row none = ap (λ (n : ℕ). let r : HandleRow = record row { enables = n } in Some r) (sym none)

-- ---- steps

-- what is done with the handle of a number leaves handles bare, where it does so with one that has no enable
by_row_bare : (s u : State) (n : ℕ) (f : HandleRow → State) → IsBare s → IsBare u → ((row : HandleRow) → row.enables ≡ 0 → IsBare (f row)) → IsBare (option_map_or f (handle_at s.handles n) u)
by_row_bare s u n f none none' each = by (handle_at s.handles n) refl where
  by : (o : Option HandleRow) → handle_at s.handles n ≡ o → IsBare (option_map_or f o u)
  by None at = none'
  by (Some row) at = each row (at_bare_row s.handles n row none at)

well_bare : (s : State) (d : ℕ) (what : Sleeping) → IsBare s → IsBare (ended_well s d what)
well_bare s d (call.Prepare h) none =
    by_row_bare s s h.number (prepared_once_more s h.number) none none (λ row off. put_bare s.handles h.number (Some (record row { prepares = row.prepares + 1 })) none (bare_row (record row { prepares = row.prepares + 1 }) off))
well_bare s d (call.SetRate h r) none = by_row_bare s s h.number (λ row. record s { clocks = requested s.clocks row.clock.0 r }) none none (λ row off. none)
well_bare s d (call.SetRateExclusive h r) none =
    by_row_bare s s h.number (λ row. record (held_once_more s h.number row) { clocks = requested s.clocks row.clock.0 r }) none none
    (λ row off. put_bare s.handles h.number (Some (record row { exclusives = row.exclusives + 1 })) none (bare_row (record row { exclusives = row.exclusives + 1 }) off))
well_bare s d (call.SetRange h least most) none =
    by_row_bare s s h.number (λ row. record s { clocks = requested s.clocks row.clock.0 (request_between s.clocks row.clock.0 least most) }) none none (λ row off. none)
well_bare s d _ none = none

back_bare : (what : Sleeping) (range : Option (ℕ × ℕ)) (hs : List (Option HandleRow)) → hs ≡ bare hs → range_back what range hs ≡ bare (range_back what range hs)
back_bare (call.SetRange h least most) (Some range) hs none = put_bare hs h.number (option_map (with_range range) (handle_at hs h.number)) none (by (handle_at hs h.number) (row_bare hs h.number none)) where
  by : (o : Option HandleRow) → option_map without_enables o ≡ o → option_map without_enables (option_map (with_range range) o) ≡ option_map (with_range range) o
  by None e = refl
  by (Some row) e = ap (λ (p : Option HandleRow). option_map (with_range range) p) e
back_bare (call.SetRange h least most) None hs none = none
back_bare _ range hs none = none

end_bare : (s : State) (k : Change) → IsBare s → IsBare (end_of s k).0
end_bare s k none = by (k.vetoed || k.timed_out) where
  by : (b : Bool) → IsBare (record (cond b (unranged s k) (ended_well s k.driver k.call)) { change = None })
  by true = back_bare k.call k.range s.handles none
  by false = well_bare s k.driver k.call none

step_bare : (s : State) (k : Change) (answer : Option Bool) (m : Micro) → IsBare s → IsBare (stepped s k answer m).0
unfolding stepped register
step_bare s k answer (micro.Raise c) none = by_option IsBare (slice_get (reverse (to_raise s k c.0)) 0) (raise_one s k c.0) (on s (record k { again = 0 })) none (λ y. none)
step_bare s k answer (micro.Poll y) none = by (is_yes answer) where
  by : (b : Bool) → IsBare (poll s k y.0 b)
  by true = none
  by false = by_test IsBare (nat_le k.polls 1) (timed_out s (record k { polls = 0 })) (on s (record k { polls = k.polls - 1; front = micro.Poll (clock_id y.0) ∷ k.front })) none none
step_bare s k answer (micro.Lower c) none = by_option IsBare (slice_get (to_lower s c.0) 0) (lower_one s k c.0) (on s (record k { again = 0 })) none (λ y. none)
step_bare s k answer micro.End none = end_bare s k none
step_bare s k answer _ none = none

-- the holds after a step are those that it makes of the holds and links before it
same_clocks : (s t : State) → prep t ≡ prep s → (t.clocks ≡ s.clocks) × (t.prepare_holds ≡ s.prepare_holds)
unfolding prep
same_clocks s t same = (ap (λ (u : State). u.clocks) same, ap (λ (u : State). u.prepare_holds) same)

-- a step is the end, or the call goes on
end_or_going : (m : Micro) → (m ≡ micro.End) ⊎ ((s : State) (k : Change) (answer : Option Bool) → (stepped s k answer m).1 ≡ turn.Going)
unfolding stepped
end_or_going micro.End = inl refl
end_or_going _ = inr (λ s k answer. refl)

holds_same : (s t : State) (k : Change) (answer : Option Bool) (m : Micro) → prep t ≡ prep s → t.enable_holds ≡ s.enable_holds → (stepped t k answer m).0.enable_holds ≡ (stepped s k answer m).0.enable_holds
holds_same s t k answer m same holds = by (end_or_going m) where
  clocks : (t.clocks ≡ s.clocks) × (t.prepare_holds ≡ s.prepare_holds)
  clocks = same_clocks s t same

  before : holds_of t ≡ holds_of s
  before = ap (λ (hs : List ℕ). let h : List ℕ × List ℕ = (hs, t.enable_holds) in h) clocks.1 ∙ ap (λ (hs : List ℕ). let h : List ℕ × List ℕ = (s.prepare_holds, hs) in h) holds

  over : (u : State) → ((v : State) (l : Change) (b : Option Bool) → (stepped v l b m).1 ≡ turn.Going) → (stepped u k answer m).0.enable_holds ≡ (held_after_step (link_in u.clocks) m (holds_of u)).1
  over u going = ap (λ (h : List ℕ × List ℕ). h.1) (step_holds u k answer m (link_in u.clocks) (λ c e. refl) (going u k answer))

  by : (m ≡ micro.End) ⊎ ((v : State) (l : Change) (b : Option Bool) → (stepped v l b m).1 ≡ turn.Going) → (stepped t k answer m).0.enable_holds ≡ (stepped s k answer m).0.enable_holds
  by (inl last) =
      ap (λ (u : State). u.enable_holds) (end_state t k answer m last) ∙ ap (λ (h : List ℕ × List ℕ). h.1) (end_holds t k) ∙ holds
      ∙ sym (ap (λ (u : State). u.enable_holds) (end_state s k answer m last) ∙ ap (λ (h : List ℕ × List ℕ). h.1) (end_holds s k))
  by (inr going) =
      over t going ∙ ap (λ (rows : List ClockRow). (held_after_step (link_in rows) m (holds_of t)).1) clocks.0
      ∙ ap (λ (h : List ℕ × List ℕ). (held_after_step (link_in s.clocks) m h).1) before ∙ sym (over s going)

pub twins_step : TwinsStep
unfolding settled
twins_step s t u k d m answer x wired twin at other fits step =
    let is = of_change s u d m answer x k at step in
    let alike_ = steps_read_prep s t u k d m answer x wired twin.same at other fits step in
    let at' : t.change ≡ Some k = same_change s t k twin.same at other in
    let is' = of_change t alike_.after d m answer x k at' alike_.made in
    let one = taken_step s u k d m answer x at step in
    let two = taken_step t alike_.after k d m answer x at' alike_.made in
    let spent = one.spent in
    let spent' = two.spent in
    let steps = one.steps in
    let steps' = two.steps in
    let least = twin.spent in
    let few = twin.steps in
    record {
      after = alike_.after;
      made = alike_.made;
      twin = record {
        bare = subst (λ (v : State). v.handles ≡ bare v.handles) is'.state (step_bare t (taken k) answer m twin.bare);
        holds = sym (ap (λ (v : State). v.enable_holds) is'.state) ∙ holds_same s t (taken k) answer m twin.same twin.holds ∙ ap (λ (v : State). v.enable_holds) is.state;
        spent = omega arith;
        steps = omega arith;
        same = alike_.same;
      };
    }

-- ---- beginnings

-- what a beginning leaves of handles and holds
record Begun (s : State) (y : State × Turn) : Type 0 where
  bare_ : IsBare s → IsBare y.0
  holds : y.0.enable_holds ≡ s.enable_holds

adjusted_bare : (s : State) (number : ℕ) (old new : HandleRow) → Adjusts s number old new → IsBare s → IsBare (put_handle s number (Some new))
adjusted_bare s number old new is none = put_bare s.handles number (Some new) none (bare_row new (is.enables ∙ at_bare_row s.handles number old none is.at))

fewer_bare : (s : State) (number : ℕ) (row : HandleRow) → handle_at s.handles number ≡ Some row → IsBare s → IsBare (put_handle s number (Some (record row { prepares = row.prepares - 1 })))
fewer_bare s number row at none = put_bare s.handles number (Some (record row { prepares = row.prepares - 1 })) none (bare_row (record row { prepares = row.prepares - 1 }) (at_bare_row s.handles number row none at))

bare_append : (a b : List (Option HandleRow)) → bare (a ++ b) ≡ bare a ++ bare b
bare_append [] b = refl
bare_append (h ∷ a) b = ap (λ (hs : List (Option HandleRow)). option_map without_enables h ∷ hs) (bare_append a b)

started : (s n : State) (d : ℕ) (what : Sleeping) (k : Change) → Starts s d what n k → Begun s (record n { change = Some k }, turn.Going)
started s n d what k (raising_handle h row is at) = record { bare_ = λ none. none; holds = refl }
started s n d what k (lowering_handle h row is at keeps) = record { bare_ = fewer_bare s h.number row at; holds = refl }
started s n d what k (planning m number row over_view x ks range over_itself at chained rates) = record { bare_ = λ none. none; holds = refl }
started s n d what k (planning m number row over_view x ks range (over_range number' old new is) at chained rates) = record { bare_ = adjusted_bare s number' old new is; holds = refl }
started s n d what k (reparents number row p sets at away mux parent root) = record { bare_ = λ none. none; holds = refl }
started s n d what k (probing c is free) = record { bare_ = λ none. none; holds = refl }
started s n d what k (sweeping is) = record { bare_ = λ none. none; holds = refl }

registered_kept : (s : State) (c : ℕ) → Begun s (register s c, turn.Done reply.Fine)
unfolding register
registered_kept s c = record { bare_ = λ none. none; holds = refl }

begun_kept : (s : State) (d : ℕ) (what : Sleeping) (y : State × Turn) → Begins s d what y → Begun s y
begun_kept s d what y (answers r) = record { bare_ = λ none. none; holds = refl }
begun_kept s d what y (gives c root) = record {
  bare_ = λ none. ap (λ (hs : List (Option HandleRow)). hs ++ fresh) none ∙ sym (bare_append s.handles fresh);
  holds = refl;
} where
  fresh : List (Option HandleRow)
  fresh = Some (record { driver = d; clock = clock_id c; prepares = 0; enables = 0; exclusives = 0; min = 0; max = most_rate }) ∷ []
begun_kept s d what y (takes number row at free) = record { bare_ = λ none. put_bare s.handles number None none refl; holds = refl }
begun_kept s d what y (adjusts number old new r is) = record { bare_ = adjusted_bare s number old new is; holds = refl }
begun_kept s d what y (prepares number row at none_above) = record {
  bare_ = λ none. put_bare s.handles number (Some (record row { prepares = row.prepares + 1 })) none (bare_row (record row { prepares = row.prepares + 1 }) (at_bare_row s.handles number row none at));
  holds = refl;
}
begun_kept s d what y (unprepares number row at keeps) = record { bare_ = fewer_bare s number row at; holds = refl }
begun_kept s d what y (notes notifiers r) = record { bare_ = λ none. none; holds = refl }
begun_kept s d what y (registers c free plain) = registered_kept s c
begun_kept s d what y (goes_on n k starts) = started s n d what k starts

-- a twin finds no enable
no_enable : (hs : List (Option HandleRow)) (n : ℕ) → hs ≡ bare hs → option_map_or is_enabled (handle_at hs n) false ≡ false
no_enable hs n none = by (handle_at hs n) refl where
  by : (o : Option HandleRow) → handle_at hs n ≡ o → option_map_or is_enabled o false ≡ false
  by None at = refl
  by (Some row) at = ap (λ (k : ℕ). nat_lt 0 k) (at_bare_row hs n row none at)

finds_none : (t : State) (what : Sleeping) → IsBare t → finds_enable t what ≡ false
finds_none t (call.Put h) none = no_enable t.handles h.number none
finds_none t (call.Unprepare h) none = no_enable t.handles h.number none
finds_none t _ none = refl

pub twins_begin : TwinsBegin
unfolding settled
twins_begin s t u d what x wired twin other step = by (bare_begins_read_prep s t d what wired twin.same other (finds_none t what twin.bare)) where
  is : (s.change ≡ None) × (record (settled s (begun s d what).0) { spent = s.spent + 1 } ≡ u) × ((begun s d what).1 ≡ x)
  is = begin_is s u d what x step

  paid : IsPaid s u
  paid = (begun_paid s u d what x step).0

  own : prep u ≡ prep (begun s d what).0
  own = ap prep (sym is.1) ∙ prep_paid s (begun s d what)

  holds : u.enable_holds ≡ s.enable_holds
  holds = ap (λ (v : State). v.enable_holds) (sym is.1) ∙ (begun_kept s d what (begun s d what) (begins_so s d what)).holds

  left : t.spent < t.credits
  left =
      let least = twin.spent in
      let more = paid.left in
      let credits = prep_credits s t twin.same in
      omega arith

  stays : prep u ≡ prep s → IsTwin t u
  stays same = record {
    bare = twin.bare;
    holds = twin.holds ∙ sym holds;
    spent = let least = twin.spent in let spent = paid.spent in omega arith;
    steps = let few = twin.steps in let steps = paid.steps in omega arith;
    same = twin.same ∙ sym same;
  }

  v : State
  v = record (settled t (begun t d what).0) { spent = t.spent + 1 }

  made : next t d (event.Begin what) ≡ Some (v, (begun t d what).1)
  made = begins_paid t d what (still_quiet s t is.0 twin.same) left

  goes : (begun t d what).1 ≡ x → prep (begun t d what).0 ≡ prep (begun s d what).0 → TwinMakes t d (event.Begin what) u x
  goes turns after =
      let paid' = (begun_paid t v d what (begun t d what).1 made).0 in
      let kept = begun_kept t d what (begun t d what) (begins_so t d what) in
      record {
        after = v;
        made = made ∙ ap (λ (y : Turn). let z : State × Turn = (v, y) in Some z) turns;
        twin = record {
          bare = kept.bare_ twin.bare;
          holds = kept.holds ∙ twin.holds ∙ sym holds;
          spent = let least = twin.spent in let spent = paid.spent in let spent' = paid'.spent in omega arith;
          steps = let few = twin.steps in let steps = paid.steps in let steps' = paid'.steps in omega arith;
          same = prep_paid t (begun t d what) ∙ after ∙ sym own;
        };
      }

  by_room : BeginsAlike s t (begun s d what) (begun t d what) → TwinMakes t d (event.Begin what) u x ⊎ (IsLeftOut x × IsTwin t u)
  by_room (alike turns after) = inl (goes (turns ∙ is.2) after)
  by_room (first_lacks_room fewer full same going) = inr (inl (sym is.2 ∙ full), stays (own ∙ same))
  by_room (second_lacks_room more going full same) = absurd (let few = twin.steps in omega arith)

  kept_back : IsKeptBack s (begun s d what) → IsLeftOut x × IsTwin t u
  kept_back (inl busy) = (inr (inl (sym is.2 ∙ ap (λ (y : State × Turn). y.1) busy)), stays (own ∙ ap (λ (y : State × Turn). prep y.0) busy))
  kept_back (inr warned) = (inr (inr (sym is.2 ∙ ap (λ (y : State × Turn). y.1) warned)), stays (own ∙ ap (λ (y : State × Turn). prep y.0) warned))

  by : IsKeptBack s (begun s d what) ⊎ ComesAlike s t (begun s d what) (begun t d what) → TwinMakes t d (event.Begin what) u x ⊎ (IsLeftOut x × IsTwin t u)
  by (inl kept) = inr (kept_back kept)
  by (inr come) = by_room (room_alike s t (begun s d what) (begun t d what) twin.same come)
