-- What a whole call of a driver makes of the row of one of its handles, whatever the others do meanwhile.
use Rattle.std.proofs.Common.{◌≡◌, ◌⊎◌, inl, inr, ℕ, ◌+◌, Bool, true, false, cond, nat_eq, ◌||◌, List, [], ◌∷◌, Option, Some, None, set, refl, sym, ap, subst, ◌∙◌, arith}
use Rattle.std.specs.Option.{option_map_or}
use Rattle.std.proofs.lemmas.Bool.{cases_eq}
use Rattle.std.proofs.lemmas.Bool.Decides.{nat_tests}
use Rattle.clk_base.specs.declared.call.Micro.{Micro}
use Rattle.clk_base.specs.declared.call.Micro.TheVariants as micro
use Rattle.clk_base.specs.declared.call.Sleeping.{Sleeping}
use Rattle.clk_base.specs.declared.call.Sleeping.TheVariants as call
use Rattle.clk_base.specs.declared.event.Entry.{Entry}
use Rattle.clk_base.specs.declared.event.Errno.{Errno}
use Rattle.clk_base.specs.declared.event.Errno.TheVariants as errno
use Rattle.clk_base.specs.declared.event.Event.{Event}
use Rattle.clk_base.specs.declared.event.Event.TheVariants as event
use Rattle.clk_base.specs.declared.event.Reply.{Reply}
use Rattle.clk_base.specs.declared.event.Reply.TheVariants as reply
use Rattle.clk_base.specs.declared.event.Turn.{Turn}
use Rattle.clk_base.specs.declared.event.Turn.TheVariants as turn
use Rattle.clk_base.specs.declared.handle.Handle.{Handle}
use Rattle.clk_model.specs.declared.row.HandleRow.{HandleRow}
use Rattle.clk_model.specs.State.{State, Change, handle_at}
use Rattle.clk_model.specs.Gates.{settled}
use Rattle.clk_model.specs.Begin.{prepared_once_more}
use Rattle.clk_model.specs.Step.{taken, stepped, end_of, range_back, ended_well, unranged}
use Rattle.clk_model.specs.Machine.{next}
use Rattle.clk_model.specs.Journal.{slotless, replay, Legal, own}
use Rattle.clk_model.proofs.FlightLaws.{IsStep, step_is}
use Rattle.clk_model.proofs.StepLaws.{step_after}
use Rattle.clk_phase.specs.declared.bulk_call.BulkStep.{BulkStep}
use Rattle.clk_phase.specs.declared.bulk_call.BulkStep.TheVariants as step
use Rattle.clk_phase.specs.Bulk.{is_good}
use Rattle.clk_phase.specs.Undone.{event_of, AreSteps, AreWholeCall}
use Rattle.clk_phase.proofs.OwnRows.{own_of, own_in, own_row, own_is, at_same, at_other, others_stay}
use Rattle.clk_model.specs.Tier.{is_step}
use Rattle.clk_phase.proofs.Events.{IsKept, lands, lands_kept, going_handles}
use Rattle.clk_phase.proofs.OwnEvents.{CallEffect, Effect, with_prepares, is_ours, is_our_step, InFlight, Outcome, own_event, own_done}

replays : (s u t : State) (e : Entry) (es : List Entry) → next s e.driver e.event ≡ Some (u, slotless e.turn) → replay s (e ∷ es) ≡ t → replay u es ≡ t
replays s u t e es step_ leads =
    let now : option_map_or (λ x. x.0) (next s e.driver e.event) s ≡ u = ap (λ (o : Option (State × Turn)). option_map_or (λ x. x.0) o s) step_ in
    ap (λ (v : State). replay v es) (sym now) ∙ leads

mine_or_not : (d : ℕ) (e : Entry) (es : List Entry) → ((e.driver ≡ d) × (own (e ∷ es) d ≡ e ∷ own es d)) ⊎ ((e.driver ≡ d → ⊥) × (own (e ∷ es) d ≡ own es d))
mine_or_not d e es = elim (cases_eq e.driver d) [
  | inl mine ↦ inl (mine, ap (λ (b : Bool). cond b (e ∷ own es d) (own es d)) (yes_ e.driver d mine))
  | inr other ↦ inr (other, ap (λ (b : Bool). cond b (e ∷ own es d) (own es d)) (no_ e.driver d other))
] where
  yes_ : (a b : ℕ) → a ≡ b → nat_eq a b ≡ true
  yes_ a b same = grind (arith, nat_tests)

  no_ : (a b : ℕ) → (a ≡ b → ⊥) → nat_eq a b ≡ false
  no_ a b differs = grind (arith, nat_tests)

not_empty : {e : Entry} {es : List Entry} → e ∷ es ≡ [] → ⊥
not_empty is = cc

module _ (d n : ℕ) where
  abbrev row : State → Option HandleRow
  row s = own_in s.handles d n

  abbrev pub Keeps : State → Type 0
  Keeps s = IsKept s.handles s.change

  -- an entry of another driver
  beside : (s u : State) (e : Entry) → Keeps s → (e.driver ≡ d → ⊥) → next s e.driver e.event ≡ Some (u, slotless e.turn) → (row u ≡ row s) × Keeps u
  beside s u e kept other step_ =
      let l = lands s u e.driver kept e.event (slotless e.turn) step_ in
      (others_stay e.driver d s.handles u.handles n other l.touches, lands_kept s e.driver u.handles u.change kept l)

  kept_on : (s u : State) (e : Entry) → Keeps s → next s e.driver e.event ≡ Some (u, slotless e.turn) → Keeps u
  kept_on s u e kept step_ = lands_kept s e.driver u.handles u.change kept (lands s u e.driver kept e.event (slotless e.turn) step_)

  -- entries of others alone
  waits : (es : List Entry) (s t : State) → Keeps s → Legal s es → replay s es ≡ t → own es d ≡ [] → (row t ≡ row s) × Keeps t
  waits [] s t kept legal leads none = (ap row (sym leads), subst Keeps leads kept)
  waits (e ∷ es) s t kept legal leads none = elim (mine_or_not d e es) [
    | inl mine ↦ absurd (not_empty (sym mine.1 ∙ none))
    | inr other ↦
        let b = beside s legal.0 e kept other.0 legal.1 in
        let rest = waits es legal.0 t b.1 legal.2 (replays s legal.0 t e es legal.1 leads) (sym other.1 ∙ none) in
        (rest.0 ∙ b.0, rest.1)
  ]

  -- ---- a call that goes on

  abbrev Ends : Sleeping → Reply → Option HandleRow → Option HandleRow → Type 0
  Ends (call.Prepare h) r x y = CallEffect n (call.Prepare h) r x y
  Ends (call.Unprepare h) r x y = y ≡ x
  Ends _ r x y = Unit {0}

  good_fine : (r : Reply) → slotless (turn.Done r) ≡ turn.Done reply.Fine → is_good r ≡ true
  good_fine reply.Fine is = refl
  good_fine (reply.Handle h) is = refl
  good_fine reply.Warn is = absurd cc
  good_fine reply.Yes is = absurd cc
  good_fine reply.No is = absurd cc
  good_fine (reply.Rate x) is = absurd cc
  good_fine (reply.Clock x) is = absurd cc
  good_fine (reply.Refused x) is = absurd cc

  bad_refused : (r : Reply) (e : Errno) → slotless (turn.Done r) ≡ turn.Done (reply.Refused e) → is_good r ≡ false
  bad_refused (reply.Refused x) e is = refl
  bad_refused reply.Fine e is = absurd cc
  bad_refused (reply.Handle h) e is = absurd cc
  bad_refused reply.Warn e is = refl
  bad_refused reply.Yes e is = refl
  bad_refused reply.No e is = refl
  bad_refused (reply.Rate x) e is = refl
  bad_refused (reply.Clock x) e is = refl

  both_ways : (b : Bool) → b ≡ true → b ≡ false → ⊥
  both_ways true t f = cc
  both_ways false t f = cc

  -- of a prepare its handle is the driver's
  abbrev Live : Sleeping → State → Type 0
  Live (call.Prepare h) s = (p : HandleRow) × (own_in s.handles d h.number ≡ Some p)
  Live _ s = Unit {0}

  live_same : (what : Sleeping) (s u : State) → ((m : ℕ) → own_in u.handles d m ≡ own_in s.handles d m) → Live what s → Live what u
  live_same (call.Prepare h) s u same live = (live.0, same h.number ∙ live.1)
  live_same _ s u same live = tt

  prepared_end : (s : State) (x : ℕ) (h : Handle) (p : HandleRow) (r : Reply) → own_in s.handles d h.number ≡ Some p → is_good r ≡ true
      → CallEffect n (call.Prepare h) r (row s) (own_in (ended_well s x (call.Prepare h)).handles d n)
  prepared_end s x h p r own_ good =
      let at = own_is d (handle_at s.handles h.number) p own_ in
      let put : HandleRow = with_prepares p (p.prepares + 1) in
      let hs : List (Option HandleRow) = set s.handles h.number (Some put) in
      let left : (ended_well s x (call.Prepare h)).handles ≡ hs = ap (λ (o : Option HandleRow). (option_map_or (prepared_once_more s h.number) o s).handles) at.0 in (
        (λ bad. absurd (both_ways (is_good r) good bad)),
        (λ differs. ap (λ (l : List (Option HandleRow)). own_in l d n) left ∙ ap (own_of d) (at_other s.handles h.number n (Some put) differs)),
        (λ same good_. (
          p,
          ap (λ (m : ℕ). own_in s.handles d m) (sym same) ∙ own_,
          ap (λ (l : List (Option HandleRow)). own_in l d n) left
              ∙ own_row d (handle_at hs n) put (ap (handle_at hs) (sym same) ∙ at_same s.handles h.number (Some put) p at.0) at.1,
        )),
      )

  -- at its end
  end_effect : (s : State) (k : Change) (what : Sleeping) (r : Reply) → is_ours what ≡ true → k.call ≡ what → Live what s → slotless (turn.Done r) ≡ (end_of s (taken k)).1
      → Ends what r (row s) (own_in (end_of s (taken k)).0.handles d n)
  end_effect s k what r ours is_call live answered = by_veto k.vetoed k.timed_out what is_call ours live answered where
    left : Bool → Bool → State
    left v late = record (cond (v || late) (unranged s (taken k)) (ended_well s k.driver k.call)) { change = None }

    told : Bool → Bool → Turn
    told v late = turn.Done (cond v (reply.Refused errno.EBUSY) (cond late (reply.Refused errno.ETIMEDOUT) reply.Fine))

    same_back : (what : Sleeping) → is_ours what ≡ true → k.call ≡ what → (range_back k.call k.range s.handles) ≡ s.handles
    same_back what ours is = ap (λ (w : Sleeping). range_back w k.range s.handles) is ∙ back what ours where
      back : (w : Sleeping) → is_ours w ≡ true → range_back w k.range s.handles ≡ s.handles
      back (call.Get found) ours = refl
      back (call.Put h) ours = refl
      back (call.Prepare h) ours = refl
      back (call.Unprepare h) ours = refl
      back _ ours = absurd cc

    refused_end : (v late : Bool) (e : Errno) (what : Sleeping) → is_ours what ≡ true → k.call ≡ what → (v || late) ≡ true → slotless (turn.Done r) ≡ turn.Done (reply.Refused e) → Ends what r (row s) (own_in (left v late).handles d n)
    refused_end v late e what ours is_call undone answered =
        by_call what ours (ap (λ (b : Bool). own_in (cond b (unranged s (taken k)) (ended_well s k.driver k.call)).handles d n) undone ∙ ap (λ (l : List (Option HandleRow)). own_in l d n) (same_back what ours is_call)) where
          by_call : (w : Sleeping) → is_ours w ≡ true → own_in (left v late).handles d n ≡ row s → Ends w r (row s) (own_in (left v late).handles d n)
          by_call (call.Prepare h) ours same = ((λ bad. same), (λ differs. same), (λ is good. absurd (both_ways (is_good r) good (bad_refused r e answered))))
          by_call (call.Unprepare h) ours same = same
          by_call _ ours same = tt

    by_veto : (v late : Bool) (what : Sleeping) → k.call ≡ what → is_ours what ≡ true → Live what s → slotless (turn.Done r) ≡ told v late → Ends what r (row s) (own_in (left v late).handles d n)
    by_veto true late what is_call ours live answered = refused_end true late errno.EBUSY what ours is_call refl answered
    by_veto false true what is_call ours live answered = refused_end false true errno.ETIMEDOUT what ours is_call refl answered
    by_veto false false what is_call ours live answered = well what is_call live where
      well : (w : Sleeping) → k.call ≡ w → Live w s → Ends w r (row s) (own_in (left false false).handles d n)
      well (call.Prepare h) is live = subst (λ (w : Sleeping). CallEffect n (call.Prepare h) r (row s) (own_in (ended_well s k.driver w).handles d n)) (sym is) (prepared_end s k.driver h live.0 r live.1 (good_fine r answered))
      well (call.Unprepare h) is live = ap (λ (w : Sleeping). own_in (ended_well s k.driver w).handles d n) is
      well _ is live = tt

  -- what is answered has no steps to come
  done_steps : (q : Reply) (es : List Entry) (r : Reply) → AreSteps (turn.Done q) es r → (es ≡ []) × (q ≡ r)
  done_steps q [] r steps = (refl, same steps) where
    same : {a b : Reply} → turn.Done a ≡ turn.Done b → a ≡ b
    same e = cc
  done_steps q (e ∷ es) r steps = absurd (never steps.0) where
    never : turn.Done q ≡ turn.Going → ⊥
    never e = cc

  -- the end of a step
  only_end : (s : State) (k : Change) (answer : Option Bool) (m : Micro) (r : Reply) → (stepped s k answer m).1 ≡ slotless (turn.Done r) → (stepped s k answer m ≡ end_of s k)
  unfolding stepped
  only_end s k answer micro.End r e = refl
  only_end s k answer m r e = absurd (never r e) where
    never : (r : Reply) → turn.Going ≡ slotless (turn.Done r) → ⊥
    never (reply.Handle h) e = cc
    never r e = cc

  step_of_entry : (e : Event) → is_step e ≡ true → (m : Micro) × (answer : Option Bool) × (e ≡ event.Step m answer)
  step_of_entry (event.Step m answer) is = (m, answer, refl)
  step_of_entry _ is = absurd cc

  -- the entries of a call in flight, with others between
  abbrev Again : List Entry → State → Sleeping → Reply → Type 0
  Again es t what r = (u : State) → Keeps u → InFlight u d n what u → Live what u → Legal u es → replay u es ≡ t → AreSteps turn.Going (own es d) r → Ends what r (row u) (row t) × Keeps t

  first_goes : (e : Entry) (es : List Entry) (s t : State) (what : Sleeping) (r : Reply) → is_ours what ≡ true → Keeps s → InFlight s d n what s → Live what s → (legal : Legal s (e ∷ es)) → replay s (e ∷ es) ≡ t
      → AreSteps turn.Going (own (e ∷ es) d) r → Again es t what r → Ends what r (row s) (row t) × Keeps t
  unfolding settled
  first_goes e es s t what r ours kept flight live legal leads steps again_ = elim (mine_or_not d e es) [
    | inr other ↦ by_other other.0 (subst (λ (l : List Entry). AreSteps turn.Going l r) other.1 steps)
    | inl mine ↦ by_own mine.0 (subst (λ (l : List Entry). AreSteps turn.Going l r) mine.1 steps)
  ] where
    u : State
    u = legal.0

    after_leads : replay u es ≡ t
    after_leads = replays s u t e es legal.1 leads

    by_other : (e.driver ≡ d → ⊥) → AreSteps turn.Going (own es d) r → Ends what r (row s) (row t) × Keeps t
    by_other other steps =
        let b = beside s u e kept other legal.1 in
        let l = stays_in_flight in
        let rest = again_ u b.1 l.0 l.1 legal.2 after_leads steps in
        (subst (λ (x : Option HandleRow). Ends what r x (row t)) b.0 rest.0, rest.1) where
          stays_in_flight : InFlight u d n what u × Live what u
          stays_in_flight =
              let l = lands s u e.driver kept e.event (slotless e.turn) legal.1 in (
                (flight.0, l.other flight.0 flight.1 (λ same. other (sym same ∙ flight.2)), flight.2, flight.3),
                live_same what s u (λ m. others_stay e.driver d s.handles u.handles m other l.touches) live,
              )

    by_own : e.driver ≡ d → AreSteps turn.Going (e ∷ own es d) r → Ends what r (row s) (row t) × Keeps t
    by_own mine steps =
        let at = step_of_entry e.event steps.1 in
        let step_ : next s e.driver (event.Step at.0 at.1) ≡ Some (u, slotless e.turn) = ap (λ (x : Event). next s e.driver x) (sym at.2) ∙ legal.1 in
        let is = step_is s u e.driver at.0 at.1 (slotless e.turn) step_ in
        let same : is.0 ≡ flight.0 = some_is (sym is.1.at ∙ flight.1) in
        by_turn e.turn refl (subst (λ (k : Change). IsStep s u e.driver at.0 at.1 (slotless e.turn) k) same is.1) steps.2 where
          some_is : {a b : Change} → Some a ≡ Some b → a ≡ b
          some_is e = cc

          going_on : (k : Change) (m : Micro) (answer : Option Bool) → k.driver ≡ d → k.call ≡ what → IsStep s u e.driver m answer turn.Going k → InFlight u d n what u × (u.handles ≡ s.handles)
          going_on k m answer driver is_call is =
              let after_ = step_after s (taken k) answer m is.answered in (
                (after_.0, sym (ap (λ (v : State). v.change) is.state) ∙ after_.1, after_.2.driver ∙ driver, after_.2.call ∙ is_call),
                sym (ap (λ (v : State). v.handles) is.state) ∙ going_handles s (taken k) answer m is.answered,
              )

          ends_at : (k : Change) (m : Micro) (answer : Option Bool) (q : Reply) → k.call ≡ what → IsStep s u e.driver m answer (slotless (turn.Done q)) k → Ends what q (row s) (row u)
          ends_at k m answer q is_call is =
              let whole = only_end s (taken k) answer m q is.answered in
              subst (λ (v : State). Ends what q (row s) (own_in v.handles d n)) is.state
              (subst (λ (y : State × Turn). Ends what q (row s) (own_in (settled s y.0).handles d n)) (sym whole)
              (end_effect s k what q ours is_call live (sym is.answered ∙ ap (λ (y : State × Turn). y.1) whole)))

          by_turn : (x : Turn) → e.turn ≡ x → {m : Micro} {answer : Option Bool} → IsStep s u e.driver m answer (slotless e.turn) flight.0 → AreSteps e.turn (own es d) r → Ends what r (row s) (row t) × Keeps t
          by_turn turn.Going is {m = m} {answer = answer} step_ rest =
              let on_ = going_on flight.0 m answer flight.2 flight.3 (subst (λ (x : Turn). IsStep s u e.driver m answer (slotless x) flight.0) is step_) in
              let again = again_ u (kept_on s u e kept legal.1) on_.0 (live_same what s u (λ i. ap (λ (l : List (Option HandleRow)). own_in l d i) on_.1) live) legal.2 after_leads (subst (λ (x : Turn). AreSteps x (own es d) r) is rest) in
              (subst (λ (x : Option HandleRow). Ends what r x (row t)) (ap (λ (l : List (Option HandleRow)). own_in l d n) on_.1) again.0, again.1)
          by_turn (turn.Done q) is {m = m} {answer = answer} step_ rest =
              let over = done_steps q (own es d) r (subst (λ (x : Turn). AreSteps x (own es d) r) is rest) in
              let ended = ends_at flight.0 m answer q flight.3 (subst (λ (x : Turn). IsStep s u e.driver m answer (slotless x) flight.0) is step_) in
              let w = waits es u t (kept_on s u e kept legal.1) legal.2 after_leads over.0 in
              (subst (λ (x : Option HandleRow). Ends what r (row s) x) (sym w.0) (subst (λ (x : Reply). Ends what x (row s) (row u)) over.1 ended), w.1)

  goes : (es : List Entry) (s t : State) (what : Sleeping) (r : Reply) → is_ours what ≡ true → Keeps s → InFlight s d n what s → Live what s → Legal s es → replay s es ≡ t → AreSteps turn.Going (own es d) r
      → Ends what r (row s) (row t) × Keeps t
  goes [] s t what r ours kept flight live legal leads steps = absurd (never steps) where
    never : turn.Going ≡ turn.Done r → ⊥
    never e = cc
  goes (e ∷ es) s t what r ours kept flight live legal leads steps =
      first_goes e es s t what r ours kept flight live legal leads steps (λ u k f l lg ld st. goes es u t what r ours k f l lg ld st)

  -- one whole call of the driver
  pub whole_call : (es : List Entry) (s t : State) (what : BulkStep) (r : Reply) → is_our_step what ≡ true → Keeps s → Legal s es → replay s es ≡ t → AreWholeCall (event_of what) (own es d) r
      → Effect n what r (row s) (row t) × Keeps t
  whole_call [] s t what r ours kept legal leads whole = absurd whole
  whole_call (e ∷ es) s t what r ours kept legal leads whole = elim (mine_or_not d e es) [
    | inr other ↦
        let b = beside s legal.0 e kept other.0 legal.1 in
        let rest = whole_call es legal.0 t what r ours b.1 legal.2 (replays s legal.0 t e es legal.1 leads) (subst (λ (l : List Entry). AreWholeCall (event_of what) l r) other.1 whole) in
        (subst (λ (x : Option HandleRow). Effect n what r x (row t)) b.0 rest.0, rest.1)
    | inl mine ↦ by_own mine.0 (subst (λ (l : List Entry). AreWholeCall (event_of what) l r) mine.1 whole)
  ] where
    u : State
    u = legal.0

    by_own : e.driver ≡ d → AreWholeCall (event_of what) (e ∷ own es d) r → Effect n what r (row s) (row t) × Keeps t
    by_own mine whole =
        let step_ : next s d (event_of what) ≡ Some (u, slotless e.turn) =
        ap (λ (i : ℕ). next s i (event_of what)) (sym mine) ∙ ap (λ (x : Event). next s e.driver x) (sym whole.0) ∙ legal.1 in
        by_turn e.turn step_ whole.1 where
          by_turn : (x : Turn) → next s d (event_of what) ≡ Some (u, slotless x) → AreSteps x (own es d) r → Effect n what r (row s) (row t) × Keeps t
          by_turn (turn.Done q) step_ rest =
              let over = done_steps q (own es d) r rest in
              let w = waits es u t (kept_on s u e kept legal.1) legal.2 (replays s u t e es legal.1 leads) over.0 in
              (subst (λ (x : Option HandleRow). Effect n what r (row s) x) (sym w.0) (subst (λ (x : Reply). Effect n what x (row s) (row u)) over.1 (own_done s u d n what q ours step_)), w.1)
          by_turn turn.Going step_ rest = by_step what ours (own_event s d n what ours u turn.Going step_) where
            by_step : (w : BulkStep) → is_our_step w ≡ true → Outcome s d n w u turn.Going → Effect n w r (row s) (row t) × Keeps t
            by_step (step.Enable h) ours o = absurd o
            by_step (step.Disable h) ours o = absurd o
            by_step (step.Call (call.Get found)) ours o = absurd o
            by_step (step.Call (call.Put h)) ours o = absurd o
            by_step (step.Call (call.Prepare h)) ours o =
                let g = goes es u t (call.Prepare h) r refl (kept_on s u e kept legal.1) o.0 (o.2, o.3) legal.2 (replays s u t e es legal.1 leads) rest in
                (subst (λ (x : Option HandleRow). CallEffect n (call.Prepare h) r x (row t)) (ap (λ (l : List (Option HandleRow)). own_in l d n) o.1) g.0, g.1)
            by_step (step.Call (call.Unprepare h)) ours o =
                let g = goes es u t (call.Unprepare h) r refl (kept_on s u e kept legal.1) o.0 tt legal.2 (replays s u t e es legal.1 leads) rest in
                (((λ differs. g.0 ∙ o.1.0 differs), (λ is p at gives. inr (g.0 ∙ o.1.1 is p at gives))), g.1)
            by_step (step.Call _) ours o = absurd cc
