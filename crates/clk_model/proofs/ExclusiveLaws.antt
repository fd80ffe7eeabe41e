-- Laws on exclusive rates: each event leaves the rate of a handle's clock while the handle has an exclusive hold that no call sets aside.
use Rattle.std.proofs.Common.{◌≡◌, ℕ, zero, suc, ◌+◌, ◌-◌, Bool, true, false, set, take, List, [], ◌∷◌, ◌++◌, Option, Some, None, refl, sym, ap, subst, ◌∙◌, ◌⊎◌, inl, inr, length}
use Rattle.std.specs.Prelude.{option_map}
use Rattle.std.specs.List.{list_any}
use Rattle.std.specs.Option.{option_map_or}
use Rattle.std.proofs.lemmas.Option.{same_Some}
use Rattle.clk_base.specs.declared.call.Micro.{Micro}
use Rattle.clk_base.specs.declared.call.Micro.TheVariants as micro
use Rattle.clk_base.specs.declared.call.Sleeping.{Sleeping}
use Rattle.clk_base.specs.declared.event.Entry.{Entry}
use Rattle.clk_base.specs.declared.event.Event.{Event}
use Rattle.clk_base.specs.declared.event.Event.TheVariants as event
use Rattle.clk_base.specs.declared.event.Turn.{Turn}
use Rattle.clk_base.specs.declared.event.Turn.TheVariants as turn
use Rattle.clk_base.specs.Description.{Description, parents_of}
use Rattle.clk_model.specs.declared.row.ClockRow.{ClockRow}
use Rattle.clk_model.specs.declared.row.HandleRow.{HandleRow}
use Rattle.clk_model.specs.Lists.{is_in}
use Rattle.clk_model.specs.State.{State, Change, ChainStep, handle_at}
use Rattle.clk_model.specs.Tree.{path}
use Rattle.clk_model.specs.Rate.{rate}
use Rattle.clk_model.specs.Holders.{is_exclusive}
use Rattle.clk_model.specs.Gates.{settled}
use Rattle.clk_model.specs.Round.{wiring}
use Rattle.clk_model.specs.Begin.{put_handle, begun}
use Rattle.clk_model.specs.Step.{left_behind, taken, stepped}
use Rattle.clk_model.specs.Machine.{comes_next, next}
use Rattle.clk_model.specs.Journal.{replay, opening}
use Rattle.clk_model.specs.Prep.{without_enables}
use Rattle.clk_model.specs.Tier.{is_enable_tier}
use Rattle.clk_model.specs.Wired.{IsWired}
use Rattle.clk_model.specs.Laws.Flight.{may_be_put, IsFront, nothing}
use Rattle.clk_model.specs.Laws.LinksKept.{KeepsLinks}
use Rattle.clk_model.specs.Laws.Exclusive.{holds_exclusively, rate_of_handle, lifts, RatesStayExclusive}
use Rattle.clk_model.proofs.Members.{not_either}
use Rattle.clk_model.proofs.NoneLaws.{none_front, none_rest}
use Rattle.clk_model.proofs.TierLaws.{enable_tier_leaves_prep, beside_change}
use Rattle.clk_model.proofs.PrepToldLaws.{prep_tells}
use Rattle.clk_model.proofs.StepLaws.{IsAfter, step_after}
use Rattle.clk_model.proofs.FrontLaws.{front_after}
use Rattle.clk_model.proofs.FlightLaws.{IsStep, begin_is, first_put, front_put, next_is}
use Rattle.clk_model.proofs.VetoLaws.{of_change}
use Rattle.clk_model.proofs.InFlightLaws.{end_quiet}
use Rattle.clk_model.proofs.ShapeLaws.{no_step, register_change}
use Rattle.clk_model.proofs.PlanLaws.{chains_lead}
use Rattle.clk_model.proofs.Scenes.{IsAtRest}
use Rattle.clk_model.proofs.ArriveLaws.{wired_before}
use Rattle.clk_model.proofs.RestLaws.{clock_of_handle, clock_at-set}
use Rattle.clk_model.proofs.BeginsLaws.{IsPlannedOver, over_itself, over_range, Starts, raising_handle, lowering_handle, planning, reparents, probing, sweeping, Begins, answers, gives, takes, adjusts, prepares, unprepares, notes, registers, goes_on, begins_so}
use Rattle.clk_model.proofs.SafeRunLaws.{IsRunning, quietly, in_flight, IsRun, run_goes_on}
use Rattle.clk_model.proofs.RunsFedLaws.{run_of}
use Rattle.clk_model.proofs.KeptPathLaws.{disturbs, IsOff, HandlesStay, LeavesClock, leaves_same, leaves_registered, step_leaves_clock, leaves_settled}
use Rattle.clk_model.proofs.ScriptLaws.{none_cut}
use Rattle.clk_model.proofs.CalmScriptLaws.{LeaveAlone, planned_calm, OnRoot, unregistered_off, probe_calm, sweep_calm}
use Rattle.clk_model.proofs.OffPathLaws.{HasHold, GoesOff, begun_off}

-- ---- what is kept

-- what is to come of a change leaves a path alone
record IsComing (defs : Description) (kept : List ℕ) (k : Change) : Type 0 where
  front : IsFront k
  left : LeaveAlone defs kept k.left
  chain : IsOff kept k.chain

-- a handle is on this clock, whose path leaves what is to come alone and whose rate is this
record IsKept (number c rate_ : ℕ) (s : State) : Type 0 where
  handle : clock_of_handle s.handles number ≡ Some c
  rate_is : rate s.defs s.regs s.clocks c ≡ rate_
  coming : (k : Change) → s.change ≡ Some k → IsComing s.defs (path s.clocks c) k

-- a handle with an exclusive hold is there
held_some : (s : State) (number : ℕ) → holds_exclusively s number ≡ true → (row : HandleRow) × HasHold s number row
held_some s number holds = one (handle_at s.handles number) refl holds where
  one : (o : Option HandleRow) → handle_at s.handles number ≡ o → option_map_or is_exclusive o false ≡ true → (row : HandleRow) × HasHold s number row
  one None at e = absurd cc
  one (Some row) at e = (row, record { at = at; holds = e })

-- so it is on the clock that it was on
stays_on : (c number : ℕ) (s t : State) → HandlesStay c s.handles t.handles → clock_of_handle s.handles number ≡ Some c → holds_exclusively t number ≡ true → clock_of_handle t.handles number ≡ Some c
stays_on c number s t stay at holds = by_case (stay number at) where
  by_case : (clock_of_handle t.handles number ≡ Some c) ⊎ (handle_at t.handles number ≡ None) → clock_of_handle t.handles number ≡ Some c
  by_case (inl is) = is
  by_case (inr none) =
      let found = held_some t number holds in
      let no : None ≡ Some found.0 = sym none ∙ found.1.at in
      absurd cc

-- what leaves the clock keeps it
kept_by : (number c rate_ : ℕ) (s t : State) → IsKept number c rate_ s → LeavesClock c s t → holds_exclusively t number ≡ true
    → ((k : Change) → t.change ≡ Some k → IsComing s.defs (path s.clocks c) k) → IsKept number c rate_ t
kept_by number c rate_ s t kept left holds coming = record {
  handle = stays_on c number s t left.handles kept.handle holds;
  rate_is = left.rate_is ∙ kept.rate_is;
  coming = λ k at.
      subst (λ (xs : List ℕ). IsComing t.defs xs k) (sym left.path_is)
      (subst (λ (ds : Description). IsComing ds (path s.clocks c) k) (sym left.defs) (coming k at));
}

-- ---- steps

put_calm : (defs : Description) (kept : List ℕ) (m : Micro) → may_be_put m ≡ true → disturbs defs kept m ≡ false
put_calm defs kept (micro.Relink c p) put = absurd cc
put_calm defs kept (micro.Register c) put = absurd cc
put_calm defs kept (micro.WriteMux c place) put = absurd cc
put_calm defs kept m put = refl

-- the step that comes next leaves the path alone, and so do those behind it
next_calm : (defs : Description) (kept : List ℕ) (m : Micro) (front left : List Micro) → comes_next m (front ++ left) ≡ true → first_put front ≡ true → LeaveAlone defs kept left
    → (disturbs defs kept m ≡ false) × LeaveAlone defs kept (left_behind front left)
next_calm defs kept m [] [] first put calm = absurd cc
next_calm defs kept m [] (n ∷ ns) first put calm = (
  ap (disturbs defs kept) (sym (next_is m n ns first)) ∙ none_front (disturbs defs kept) n ns calm,
  none_rest (disturbs defs kept) n ns calm,
)
next_calm defs kept m (n ∷ ns) left first put calm = (ap (disturbs defs kept) (sym (next_is m n (ns ++ left) first)) ∙ put_calm defs kept n put, calm)

-- what is to come behind a step
coming_after : (s t : State) (defs : Description) (kept : List ℕ) (k : Change) (d : ℕ) (m : Micro) (answer : Option Bool) → IsStep s t d m answer turn.Going k → IsComing defs kept k
    → (j : Change) → t.change ≡ Some j → IsComing defs kept j
unfolding settled
coming_after s t defs kept k d m answer step coming j at =
    let after = step_after s (taken k) answer m step.answered in
    let k' : Change = after.0 in
    let is : IsAfter m (taken k) k' = after.2 in
    let now : t.change ≡ Some k' = sym (ap (λ (u : State). u.change) step.state) ∙ after.1 in
    let calm = next_calm defs kept m k.front k.left step.first (front_put k coming.front) coming.left in
    subst (λ (i : Change). IsComing defs kept i) (same_Some k' j (sym now ∙ at))
    (record {
      front = front_after s k k' answer m coming.front step.first step.answered after.1;
      left = elim is.left [
        | inl same ↦ ap (λ (ms : List Micro). list_any (disturbs defs kept) ms) same.0 ∙ calm.1
        | inr late ↦ ap (λ (ms : List Micro). list_any (disturbs defs kept) ms) late.1 ∙ none_cut (disturbs defs kept) k.call (taken k).left calm.1
      ];
      chain = subst (λ (ks : List ChainStep). IsOff kept ks) (sym is.chain) coming.chain;
    })

step_keeps : (number c rate_ : ℕ) (s t : State) (k : Change) (d : ℕ) (m : Micro) (answer : Option Bool) (x : Turn) → IsWired (length s.regs) (wiring s) → IsWired (length t.regs) (wiring t) → IsKept number c rate_ s
    → holds_exclusively t number ≡ true → IsStep s t d m answer x k → IsKept number c rate_ t
step_keeps number c rate_ s t k d m answer x wired wired_t kept holds step =
    let u : State = (stepped s (taken k) answer m).0 in
    let coming = kept.coming k step.at in
    let calm = next_calm s.defs (path s.clocks c) m k.front k.left step.first (front_put k coming.front) coming.left in
    let valid_u = (wired_before s u (subst (λ (v : State). IsWired (length v.regs) (wiring v)) (sym step.state) wired_t)).valid in
    let left : LeavesClock c s t =
    subst (λ (v : State). LeavesClock c s v) step.state
    (leaves_settled c s s u (settled s u).spent (s.steps + 1) valid_u (step_leaves_clock c s (taken k) answer m wired.valid calm.0 coming.chain)) in
    kept_by number c rate_ s t kept left holds (by_turn x step) where
      by_turn : (y : Turn) → IsStep s t d m answer y k → (j : Change) → t.change ≡ Some j → IsComing s.defs (path s.clocks c) j
      by_turn turn.Going step' = coming_after s t s.defs (path s.clocks c) k d m answer step' (kept.coming k step'.at)
      by_turn (turn.Done r) step' = λ j at. let no : None ≡ Some j = sym (end_quiet s t d m answer r k step') ∙ at in absurd cc

-- ---- beginnings

-- what a new handle, a taken one and a changed one leave of the others
given_stay : (c : ℕ) (handles more : List (Option HandleRow)) → HandlesStay c handles (handles ++ more)
given_stay c [] more number at = absurd cc
given_stay c (h ∷ handles) more zero at = inl at
given_stay c (h ∷ handles) more (suc number) at = given_stay c handles more number at

taken_stay : (c : ℕ) (handles : List (Option HandleRow)) (n : ℕ) → HandlesStay c handles (set handles n None)
taken_stay c [] n number at = inl at
taken_stay c (h ∷ handles) zero zero at = inr refl
taken_stay c (h ∷ handles) zero (suc number) at = inl at
taken_stay c (h ∷ handles) (suc n) zero at = inl at
taken_stay c (h ∷ handles) (suc n) (suc number) at = taken_stay c handles n number at

leaves_put : (c : ℕ) (s : State) (n : ℕ) (old new : HandleRow) (change : Option Change) → handle_at s.handles n ≡ Some old → new.clock ≡ old.clock
    → LeavesClock c s (record (put_handle s n (Some new)) { change = change })
leaves_put c s n old new change at clock =
    leaves_same c s (record (put_handle s n (Some new)) { change = change }) refl refl refl (λ number is. inl (clock_at-set s.handles n number old new at clock ∙ is))

-- the state in which a call goes on has the clock
starts_leave : (c : ℕ) (q n : State) (d : ℕ) (what : Sleeping) (k : Change) → Starts q d what n k → LeavesClock c q (record n { change = Some k })
starts_leave c q n d what k (raising_handle h row is at) = leaves_same c q (record q { change = Some k }) refl refl refl (λ number e. inl e)
starts_leave c q n d what k (lowering_handle h row is at gives_up) = leaves_put c q h.number row (record row { prepares = row.prepares - 1 }) (Some k) at refl
starts_leave c q n d what k (planning _ number row over x ks range planned_ at is rates) = by_state planned_ where
  by_state : {m : State} → IsPlannedOver q m → LeavesClock c q (record m { change = Some k })
  by_state over_itself = leaves_same c q (record q { change = Some k }) refl refl refl (λ i e. inl e)
  by_state (over_range i old new adjusted) = leaves_put c q i old new (Some k) adjusted.at adjusted.clock
starts_leave c q n d what k (reparents number row p sets at away mux m root) = leaves_same c q (record q { change = Some k }) refl refl refl (λ i e. inl e)
starts_leave c q n d what k (probing e is free) = leaves_same c q (record q { change = Some k }) refl refl refl (λ i f. inl f)
starts_leave c q n d what k (sweeping is) = leaves_same c q (record q { change = Some k }) refl refl refl (λ i f. inl f)

-- what a call begins with leaves it
begins_leave : (c : ℕ) (q : State) (d : ℕ) (what : Sleeping) (y : State × Turn) → OnRoot q c → Begins q d what y → LeavesClock c q y.0
begins_leave c q d what y on (answers r) = leaves_same c q q refl refl refl (λ number at. inl at)
begins_leave c q d what y on (gives e root) = leaves_same c q _ refl refl refl (given_stay c q.handles _)
begins_leave c q d what y on (takes number row at idle) = leaves_same c q (put_handle q number None) refl refl refl (taken_stay c q.handles number)
begins_leave c q d what y on (adjusts number old new r adjusted) = leaves_put c q number old new q.change adjusted.at adjusted.clock
begins_leave c q d what y on (prepares number row at calm) = leaves_put c q number row (record row { prepares = row.prepares + 1 }) q.change at refl
begins_leave c q d what y on (unprepares number row at gives_up) = leaves_put c q number row (record row { prepares = row.prepares - 1 }) q.change at refl
begins_leave c q d what y on (notes notifiers r) = leaves_same c q (record q { notifiers = notifiers }) refl refl refl (λ number at. inl at)
begins_leave c q d what y on (registers e free calm) = leaves_registered c q e (unregistered_off q c e on free)
begins_leave c q d what y on (goes_on n k starts_) = starts_leave c q n d what k starts_

-- what is to come of it
starts_coming : (c : ℕ) (q n : State) (d : ℕ) (what : Sleeping) (k : Change) → OnRoot q c → KeepsLinks q → Starts q d what n k → IsOff (path q.clocks c) k.chain → IsComing q.defs (path q.clocks c) k
starts_coming c q n d what k on keeps (raising_handle h row is at) off = record { front = nothing refl; left = refl; chain = off }
starts_coming c q n d what k on keeps (lowering_handle h row is at gives_up) off = record { front = nothing refl; left = refl; chain = off }
starts_coming c q n d what k on keeps (planning _ number row over x ks range over_itself at is rates) off = record {
  front = nothing refl;
  left = planned_calm q (length q.regs) ks [] (path q.clocks c) on.valid (chains_lead (wiring q) over row.clock.0 x ks keeps.ends keeps.links is).leads.parents off refl;
  chain = off;
}
starts_coming c q n d what k on keeps (planning _ number row over x ks range (over_range i old new adjusted) at is rates) off = record {
  front = nothing refl;
  left = planned_calm (put_handle q i (Some new)) (length q.regs) ks [] (path q.clocks c) on.valid (chains_lead (wiring q) over row.clock.0 x ks keeps.ends keeps.links is).leads.parents off refl;
  chain = off;
}
starts_coming c q n d what k on keeps (reparents number row p sets at away mux m root) off = record {
  front = nothing refl;
  left = planned_calm q (length q.regs) _ (micro.Settle row.clock ∷ []) (path q.clocks c) on.valid
      (record { possible = λ e f. let same : p ≡ e = cc in subst (λ (z : ℕ). is_in z (parents_of q.defs row.clock.0) ≡ true) same m; none = λ e. absurd cc }, tt) off refl;
  chain = off;
}
starts_coming c q n d what k on keeps (probing e is free) off = record { front = nothing refl; left = probe_calm q c e.0 on free; chain = off }
starts_coming c q n d what k on keeps (sweeping is) off = record { front = nothing refl; left = sweep_calm q (path q.clocks c); chain = off }

-- ---- each event

on_root : (s : State) (number c : ℕ) → IsAtRest s → clock_of_handle s.handles number ≡ Some c → OnRoot s c
on_root s number c rest at =
    let is = rest.safe.sound.tree.rooted number c at in
    record {
      valid = rest.safe.wired.valid;
      is = rest.safe.sound.tree.possible;
      links = λ d p e. (rest.safe.sound.tree.linked d p e).1;
      rooted_ = record { there = is.0; root = is.1 };
    }

begin_keeps : (number c rate_ : ℕ) (s t : State) (d : ℕ) (what : Sleeping) (x : Turn) → IsRun s → IsRun t → IsKept number c rate_ s → holds_exclusively s number ≡ true → holds_exclusively t number ≡ true
    → lifts number (event.Begin what) ≡ false → next s d (event.Begin what) ≡ Some (t, x) → IsKept number c rate_ t
unfolding settled
begin_keeps number c rate_ s t d what x run run_t kept held holds other step = by_running run.running_ where
  start : (s.change ≡ None) × (record (settled s (begun s d what).0) { spent = s.spent + 1 } ≡ t) × ((begun s d what).1 ≡ x)
  start = begin_is s t d what x step

  by_running : IsRunning s → IsKept number c rate_ t
  by_running (in_flight goes) = let no : Some goes.change ≡ None = sym goes.at ∙ start.0 in absurd cc
  by_running (quietly quiet rest) = kept_by number c rate_ s t kept left holds coming where
    on : OnRoot s c
    on = on_root s number c rest kept.handle

    own : (row : HandleRow) × HasHold s number row
    own = held_some s number held

    same : own.0.clock.0 ≡ c
    same = let both : Some own.0.clock.0 ≡ Some c = sym (ap (option_map (λ (h : HandleRow). h.clock.0)) own.1.at) ∙ kept.handle in cc

    begins : Begins s d what (begun s d what)
    begins = begins_so s d what

    left : LeavesClock c s t
    left =
        subst (λ (v : State). LeavesClock c s v) start.1
        (leaves_settled c s s (begun s d what).0 (s.spent + 1) (settled s (begun s d what).0).steps
        (wired_before s (begun s d what).0 (subst (λ (v : State). IsWired (length v.regs) (wiring v)) (sym start.1) run_t.wired)).valid
        (begins_leave c s d what (begun s d what) on begins))

    off : GoesOff (path s.clocks c) (begun s d what)
    off =
        subst (λ (e : ℕ). GoesOff (path s.clocks e) (begun s d what)) same
        (begun_off s d number own.0 what (record { valid = on.valid; ends = run.keeps.ends; links = run.keeps.links }) own.1 other)

    by_case : (y : State × Turn) → Begins s d what y → GoesOff (path s.clocks c) y → (k : Change) → y.0.change ≡ Some k → IsComing s.defs (path s.clocks c) k
    by_case y (answers r) off' k at = let no : None ≡ Some k = sym quiet ∙ at in absurd cc
    by_case y (gives e root) off' k at = let no : None ≡ Some k = sym quiet ∙ at in absurd cc
    by_case y (takes i row e idle) off' k at = let no : None ≡ Some k = sym quiet ∙ at in absurd cc
    by_case y (adjusts i old new r adjusted) off' k at = let no : None ≡ Some k = sym quiet ∙ at in absurd cc
    by_case y (prepares i row e calm) off' k at = let no : None ≡ Some k = sym quiet ∙ at in absurd cc
    by_case y (unprepares i row e gives_up) off' k at = let no : None ≡ Some k = sym quiet ∙ at in absurd cc
    by_case y (notes notifiers r) off' k at = let no : None ≡ Some k = sym quiet ∙ at in absurd cc
    by_case y (registers e free calm) off' k at = let no : None ≡ Some k = sym quiet ∙ sym (register_change s e) ∙ at in absurd cc
    by_case y (goes_on n j starts_) off' k at =
        subst (λ (i : Change). IsComing s.defs (path s.clocks c) i) (same_Some j k at) (starts_coming c s n d what j on run.keeps starts_ (off'.off refl j refl))

    coming : (k : Change) → t.change ≡ Some k → IsComing s.defs (path s.clocks c) k
    coming k at = by_case (begun s d what) begins off k (ap (λ (u : State). u.change) start.1 ∙ at)

-- an event of the enable tier leaves it
tier_keeps : (number c rate_ : ℕ) (s t : State) (d : ℕ) (e : Event) (x : Turn) → IsWired (length s.regs) (wiring s) → IsKept number c rate_ s → holds_exclusively t number ≡ true → is_enable_tier e ≡ true
    → next s d e ≡ Some (t, x) → IsKept number c rate_ t
tier_keeps number c rate_ s t d e x wired kept holds tier step =
    let told = prep_tells s t wired.valid (enable_tier_leaves_prep s t d e x tier step) in
    let left : LeavesClock c s t =
    record {
      defs = told.defs;
      path_is = ap (λ (rs : List ClockRow). path rs c) told.clocks;
      rate_is = told.rates c;
      handles = λ i at. inl (sym (clock_without (handle_at t.handles i)) ∙ ap (option_map (λ (h : HandleRow). h.clock.0)) (told.handles i) ∙ clock_without (handle_at s.handles i) ∙ at);
    } in
    kept_by number c rate_ s t kept left holds (λ k at. kept.coming k (sym (beside_change s t d e x tier step) ∙ at)) where
      clock_without : (o : Option HandleRow) → option_map (λ (h : HandleRow). h.clock.0) (option_map without_enables o) ≡ option_map (λ (h : HandleRow). h.clock.0) o
      clock_without None = refl
      clock_without (Some h) = refl

-- each event keeps the rate
event_keeps : (number c rate_ : ℕ) (s t : State) (d : ℕ) (e : Event) (x : Turn) → IsRun s → IsRun t → IsKept number c rate_ s → holds_exclusively s number ≡ true → holds_exclusively t number ≡ true
    → lifts number e ≡ false → next s d e ≡ Some (t, x) → IsKept number c rate_ t
event_keeps number c rate_ s t d (event.Enable n) x run run_t kept held holds other step = tier_keeps number c rate_ s t d (event.Enable n) x run.wired kept holds refl step
event_keeps number c rate_ s t d (event.Disable n) x run run_t kept held holds other step = tier_keeps number c rate_ s t d (event.Disable n) x run.wired kept holds refl step
event_keeps number c rate_ s t d (event.Running n) x run run_t kept held holds other step = tier_keeps number c rate_ s t d (event.Running n) x run.wired kept holds refl step
event_keeps number c rate_ s t d (event.Begin what) x run run_t kept held holds other step = begin_keeps number c rate_ s t d what x run run_t kept held holds other step
event_keeps number c rate_ s t d (event.Step m answer) x run run_t kept held holds other step = by_change s.change refl where
  by_change : (o : Option Change) → s.change ≡ o → IsKept number c rate_ t
  by_change None at = absurd (no_step s t d m answer x at step)
  by_change (Some k) at = step_keeps number c rate_ s t k d m answer x run.wired run_t.wired kept holds (of_change s t d m answer x k at step)

-- ---- journals

-- so do the entries of a journal behind which the hold is there
journal_keeps : (number c rate_ : ℕ) (since : List Entry) (s : State) → IsRun s → IsKept number c rate_ s → ((k : ℕ) → holds_exclusively (replay s (take k since)) number ≡ true)
    → list_any (λ e. lifts number e.event) since ≡ false → IsKept number c rate_ (replay s since)
journal_keeps number c rate_ [] s run kept holds other = kept
journal_keeps number c rate_ (e ∷ es) s run kept holds other =
    let parts = not_either (lifts number e.event) (list_any (λ f. lifts number f.event) es) other in
    by_next (next s e.driver e.event) refl (λ k. holds (suc k)) (λ u r kept_u each. journal_keeps number c rate_ es u r kept_u each parts.1) parts.0 where
      by_next : (o : Option (State × Turn)) → next s e.driver e.event ≡ o → ((k : ℕ) → holds_exclusively (replay (option_map_or (λ y. y.0) o s) (take k es)) number ≡ true)
          → ((u : State) → IsRun u → IsKept number c rate_ u → ((k : ℕ) → holds_exclusively (replay u (take k es)) number ≡ true) → IsKept number c rate_ (replay u es))
          → lifts number e.event ≡ false → IsKept number c rate_ (replay (option_map_or (λ y. y.0) o s) es)
      by_next None at each rest other' = rest s run kept each
      by_next (Some y) at each rest other' =
          let run_y = run_goes_on s y.0 e.driver e.event y.1 run at in
          rest y.0 run_y (event_keeps number c rate_ s y.0 e.driver e.event y.1 run run_y kept (holds zero) (each zero) other' at) each

replay_on : (s : State) (front since : List Entry) → replay s (front ++ since) ≡ replay (replay s front) since
replay_on s [] since = refl
replay_on s (e ∷ front) since = replay_on (option_map_or (λ y. y.0) (next s e.driver e.event) s) front since

-- the rate of the clock of a handle that is on it
rate_at : (s : State) (number c : ℕ) → clock_of_handle s.handles number ≡ Some c → rate_of_handle s number ≡ rate s.defs s.regs s.clocks c
rate_at s number c at = one (handle_at s.handles number) at where
  one : (o : Option HandleRow) → option_map (λ h. h.clock.0) o ≡ Some c → option_map_or (λ h. rate s.defs s.regs s.clocks h.clock.0) o 0 ≡ rate s.defs s.regs s.clocks c
  one None e = absurd cc
  one (Some h) e = let same : h.clock.0 ≡ c = cc in ap (rate s.defs s.regs s.clocks) same

pub rates_stay_exclusive : RatesStayExclusive
rates_stay_exclusive defs regs ignore_unused credits front since number valid quiet holds other =
    let kept : IsKept number c (rate s.defs s.regs s.clocks c) (replay s since) =
    journal_keeps number c (rate s.defs s.regs s.clocks c) since s (run_of defs regs ignore_unused credits front valid)
    (record { handle = on_it; rate_is = refl; coming = λ k at. let no : None ≡ Some k = sym quiet ∙ at in absurd cc }) each other in
    ap (λ (u : State). rate_of_handle u number) (replay_on (opening defs regs ignore_unused credits) front since)
    ∙ rate_at (replay s since) number c kept.handle ∙ kept.rate_is ∙ sym (rate_at s number c on_it) where
      s : State
      s = replay (opening defs regs ignore_unused credits) front

      each : (k : ℕ) → holds_exclusively (replay s (take k since)) number ≡ true
      each k = ap (λ (u : State). holds_exclusively u number) (sym (replay_on (opening defs regs ignore_unused credits) front (take k since))) ∙ holds k

      own : (row : HandleRow) × HasHold s number row
      own = held_some s number (each zero)

      c : ℕ
      c = own.0.clock.0

      on_it : clock_of_handle s.handles number ≡ Some c
      on_it = ap (option_map (λ (h : HandleRow). h.clock.0)) own.1.at
