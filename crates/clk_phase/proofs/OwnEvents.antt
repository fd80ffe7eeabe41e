-- What one event of a driver makes of the row of one of its handles: the effects of calls, and their beginnings.
use Rattle.std.proofs.Common.{◌≡◌, ◌≢◌, ◌⊎◌, inl, inr, ℕ, zero, suc, ◌+◌, ◌-◌, Bool, true, false, nat_eq, List, [], ◌∷◌, ◌++◌, Option, Some, None, set, length, refl, sym, ap, subst, ◌∙◌, arith}
use Rattle.std.specs.Prelude.{option_map}
use Rattle.std.specs.Option.{option_map_or}
use Rattle.std.proofs.lemmas.Bool.Decides.{nat_tests}
use Rattle.clk_base.specs.declared.call.Sleeping.{Sleeping}
use Rattle.clk_base.specs.declared.call.Sleeping.TheVariants as call
use Rattle.clk_base.specs.declared.clock.ClockId.{ClockId}
use Rattle.clk_base.specs.declared.event.Errno.TheVariants as errno
use Rattle.clk_base.specs.declared.event.Reply.{Reply}
use Rattle.clk_base.specs.declared.event.Reply.TheVariants as reply
use Rattle.clk_base.specs.declared.event.Turn.{Turn}
use Rattle.clk_base.specs.declared.event.Turn.TheVariants as turn
use Rattle.clk_base.specs.declared.handle.Handle.{Handle}
use Rattle.clk_model.specs.declared.row.HandleRow.{HandleRow}
use Rattle.clk_model.specs.State.{State, Change, handle_at}
use Rattle.clk_model.specs.Tree.{rooted}
use Rattle.clk_model.specs.Gates.{settled}
use Rattle.clk_model.specs.Begin.{refused, own_handle, with_handle, given, got, holds_something, put_back, prepare, unprepare, keeps_prepare, begun}
use Rattle.clk_model.specs.Machine.{enabled, disabled, paid, next}
use Rattle.clk_model.specs.Journal.{slotless}
use Rattle.clk_model.proofs.TierLaws.{pick_either, paid_is}
use Rattle.clk_model.proofs.FlightLaws.{begin_is}
use Rattle.clk_phase.specs.declared.bulk_call.BulkStep.{BulkStep}
use Rattle.clk_phase.specs.declared.bulk_call.BulkStep.TheVariants as step
use Rattle.clk_phase.specs.Bulk.{is_good}
use Rattle.clk_phase.specs.Undone.{event_of}
use Rattle.clk_phase.proofs.OwnRows.{own_of, own_in, own_row, own_is, at_same, at_other}
use Rattle.clk_phase.proofs.Events.{new_handle}

-- ---- what a call makes of the row of number n, from x to y

-- a call on another handle leaves it
abbrev pub At : ℕ → ℕ → Option HandleRow → Option HandleRow → Type 0 → Type 0
At n m x y here = (m ≢ n → y ≡ x) × (m ≡ n → here)

-- a row with other counts
abbrev pub with_enables : HandleRow → ℕ → HandleRow
with_enables r e = record r { enables = e }

abbrev pub with_prepares : HandleRow → ℕ → HandleRow
with_prepares r p = record r { prepares = p }

abbrev pub GetEffect : ℕ → Reply → Option HandleRow → Option HandleRow → Type 0
GetEffect n (reply.Handle h) x y = At n h.number x y ((x ≡ None) × (r : HandleRow) × (y ≡ Some r) × (holds_something r ≡ false))
GetEffect n reply.Fine x y = ⊥
GetEffect n _ x y = y ≡ x

abbrev pub CallEffect : ℕ → Sleeping → Reply → Option HandleRow → Option HandleRow → Type 0
CallEffect n (call.Get found) r x y = GetEffect n r x y
CallEffect n (call.Put h) r x y = At n h.number x y ((row : HandleRow) → x ≡ Some row → holds_something row ≡ false → y ≡ None)
CallEffect n (call.Prepare h) r x y = (is_good r ≡ false → y ≡ x) × (h.number ≢ n → y ≡ x) × (h.number ≡ n → is_good r ≡ true → (row : HandleRow) × (x ≡ Some row) × (y ≡ Some (with_prepares row (row.prepares + 1))))
CallEffect n (call.Unprepare h) r x y =
    At n h.number x y ((row : HandleRow) → x ≡ Some row → keeps_prepare row ≡ false → (r ≡ reply.Refused errno.ENOSPC) ⊎ (y ≡ Some (with_prepares row (row.prepares - 1))))
CallEffect n _ r x y = Unit {0}

abbrev pub Effect : ℕ → BulkStep → Reply → Option HandleRow → Option HandleRow → Type 0
Effect n (step.Enable h) r x y = (is_good r ≡ false → y ≡ x) × (h.number ≢ n → y ≡ x) × (h.number ≡ n → is_good r ≡ true → (row : HandleRow) × (x ≡ Some row) × (y ≡ Some (with_enables row (row.enables + 1))))
Effect n (step.Disable h) r x y = At n h.number x y ((row : HandleRow) → x ≡ Some row → (row.enables ≡ 0 → ⊥) → y ≡ Some (with_enables row (row.enables - 1)))
Effect n (step.Call what) r x y = CallEffect n what r x y

-- the calls that a command makes
abbrev pub is_ours : Sleeping → Bool
is_ours (call.Get found) = true
is_ours (call.Put h) = true
is_ours (call.Prepare h) = true
is_ours (call.Unprepare h) = true
is_ours _ = false

abbrev pub is_our_step : BulkStep → Bool
is_our_step (step.Call what) = is_ours what
is_our_step _ = true

-- ---- one event of the driver

module _ (s : State) (d n : ℕ) where
  abbrev before : Option HandleRow
  before = own_in s.handles d n

  abbrev after : State → Option HandleRow
  after u = own_in u.handles d n

  same_row : {a b : HandleRow} → Some a ≡ Some b → a ≡ b
  same_row e = cc

  -- the driver's row of this number, and the row after it is put in its place
  row_live : (m : ℕ) (r : HandleRow) → own_handle s d m ≡ Some r → (handle_at s.handles m ≡ Some r) × (r.driver ≡ d)
  row_live m r own_ = own_is d (handle_at s.handles m) r own_

  away : (m : ℕ) (x : Option HandleRow) → m ≢ n → own_in (set s.handles m x) d n ≡ before
  away m x differs = ap (own_of d) (at_other s.handles m n x differs)

  here : (m : ℕ) (r q : HandleRow) → own_handle s d m ≡ Some r → q.driver ≡ r.driver → m ≡ n → own_in (set s.handles m (Some q)) d n ≡ Some q
  here m r q own_ same is =
      let at = row_live m r own_ in
      own_row d (handle_at (set s.handles m (Some q)) n) q (ap (handle_at (set s.handles m (Some q))) (sym is) ∙ at_same s.handles m (Some q) r at.0) (same ∙ at.1)

  taken_here : (m : ℕ) (r : HandleRow) → own_handle s d m ≡ Some r → m ≡ n → own_in (set s.handles m None) d n ≡ None
  taken_here m r own_ is = ap (own_of d) (ap (handle_at (set s.handles m None)) (sym is) ∙ at_same s.handles m None r (row_live m r own_).0)

  -- the row of the number at hand
  is_row : (m : ℕ) (r row : HandleRow) → own_handle s d m ≡ Some r → m ≡ n → before ≡ Some row → r ≡ row
  is_row m r row own_ is at = same_row (sym own_ ∙ ap (λ (i : ℕ). own_in s.handles d i) is ∙ at)

  no_row : (m : ℕ) (row : HandleRow) → own_handle s d m ≡ None → m ≡ n → before ≡ Some row → ⊥
  no_row m row none is at = let no : None ≡ Some row = sym none ∙ ap (λ (i : ℕ). own_in s.handles d i) is ∙ at in cc

  no_enables : (a : ℕ) → nat_eq a 0 ≡ true → a ≡ 0
  no_enables a e = grind (arith, nat_tests)

  -- the enable tier answers at once
  abbrev Once : BulkStep → State × Turn → Type 0
  Once what y = (r : Reply) × (y.1 ≡ turn.Done r) × Effect n what r before (after y.0)

  by_own : (Q : State × Turn → Type 0) (m : ℕ) (f : HandleRow → State × Turn) → (own_handle s d m ≡ None → Q (refused s errno.ENOENT)) → ((r : HandleRow) → own_handle s d m ≡ Some r → Q (f r)) → Q (with_handle s d m f)
  by_own Q m f none some = one (own_handle s d m) refl where
    one : (o : Option HandleRow) → own_handle s d m ≡ o → Q (option_map_or f o (refused s errno.ENOENT))
    one None at = none at
    one (Some r) at = some r at

  enable_once : (h : Handle) → Once (step.Enable h) (with_handle s d h.number (enabled s h.number))
  enable_once h = by_own (Once (step.Enable h)) h.number (enabled s h.number)
      (λ none. (reply.Refused errno.ENOENT, refl, ((λ bad. refl), (λ differs. refl), (λ is good. absurd cc))))
      (λ r own_. pick_either (Once (step.Enable h)) (nat_eq r.prepares 0) _ _
      (λ e. (reply.Refused errno.ESHUTDOWN, refl, ((λ bad. refl), (λ differs. refl), (λ is good. absurd cc))))
      (λ e. (
        reply.Fine,
        refl,
        (
          (λ bad. absurd cc),
          (λ differs. away h.number (Some (with_enables r (r.enables + 1))) differs),
          (λ is good. (r, ap (λ (i : ℕ). own_in s.handles d i) (sym is) ∙ own_, here h.number r (with_enables r (r.enables + 1)) own_ refl is)),
        ),
      )))

  disable_once : (h : Handle) → Once (step.Disable h) (with_handle s d h.number (disabled s h.number))
  disable_once h = by_own (Once (step.Disable h)) h.number (disabled s h.number)
      (λ none. (reply.Refused errno.ENOENT, refl, ((λ differs. refl), (λ is row at some. absurd (no_row h.number row none is at)))))
      (λ r own_. pick_either (Once (step.Disable h)) (nat_eq r.enables 0) _ _
      (λ e. (reply.Warn, refl, ((λ differs. refl), (λ is row at some. absurd (some (sym (ap (λ (q : HandleRow). q.enables) (is_row h.number r row own_ is at)) ∙ no_enables r.enables e))))))
      (λ e. (
        reply.Fine,
        refl,
        (
          (λ differs. away h.number (Some (with_enables r (r.enables - 1))) differs),
          (λ is row at some. here h.number r (with_enables r (r.enables - 1)) own_ refl is ∙ ap (λ (q : HandleRow). let o : Option HandleRow = Some (with_enables q (q.enables - 1)) in o) (is_row h.number r row own_ is at)),
        ),
      )))

  -- ---- beginnings

  -- a call of the driver is in flight
  abbrev pub InFlight : Sleeping → State → Type 0
  InFlight what u = (k : Change) × (u.change ≡ Some k) × (k.driver ≡ d) × (k.call ≡ what)

  -- a call that goes on: a prepare has left the row, and an unprepare has given its prepare up
  abbrev Going_ : Sleeping → State → Type 0
  Going_ (call.Prepare h) u = InFlight (call.Prepare h) u × (u.handles ≡ s.handles) × (p : HandleRow) × (own_in u.handles d h.number ≡ Some p)
  Going_ (call.Unprepare h) u = InFlight (call.Unprepare h) u × At n h.number before (after u) ((row : HandleRow) → before ≡ Some row → keeps_prepare row ≡ false → after u ≡ Some (with_prepares row (row.prepares - 1)))
  Going_ (call.Get found) u = ⊥
  Going_ (call.Put h) u = ⊥
  Going_ _ u = Unit {0}

  abbrev ByTurn : Sleeping → State → Turn → Type 0
  ByTurn what u (turn.Done r) = CallEffect n what r before (after u)
  ByTurn what u turn.Going = Going_ what u

  abbrev Begun : Sleeping → State × Turn → Type 0
  Begun what y = ByTurn what y.0 y.1

  put_begun : (h : Handle) → Begun (call.Put h) (with_handle s d h.number (put_back s h.number))
  put_begun h = by_own (Begun (call.Put h)) h.number (put_back s h.number)
      (λ none. ((λ differs. refl), (λ is row at free. absurd (no_row h.number row none is at))))
      (λ r own_. pick_either (Begun (call.Put h)) (holds_something r) _ _
      (λ e. ((λ differs. refl), (λ is row at free. absurd (let no : true ≡ false = sym e ∙ ap holds_something (is_row h.number r row own_ is at) ∙ free in cc))))
      (λ e. ((λ differs. away h.number None differs), (λ is row at free. taken_here h.number r own_ is))))

  prepare_begun : (h : Handle) → Begun (call.Prepare h) (with_handle s d h.number (prepare s d (call.Prepare h) h.number))
  prepare_begun h = by_own (Begun (call.Prepare h)) h.number (prepare s d (call.Prepare h) h.number)
      (λ none. ((λ bad. refl), (λ differs. refl), (λ is good. absurd cc)))
      (λ r own_. pick_either (Begun (call.Prepare h)) _ _ _
      (λ e. (
        (λ bad. absurd cc),
        (λ differs. away h.number (Some (with_prepares r (r.prepares + 1))) differs),
        (λ is good. (r, ap (λ (i : ℕ). own_in s.handles d i) (sym is) ∙ own_, here h.number r (with_prepares r (r.prepares + 1)) own_ refl is)),
      ))
      (λ e. pick_either (Begun (call.Prepare h)) _ _ _ (λ f. ((λ bad. refl), (λ differs. refl), (λ is good. absurd cc))) (λ f. ((_, refl, refl, refl), refl, r, own_))))

  less_row : (h : Handle) (r : HandleRow) → own_handle s d h.number ≡ Some r
      → At n h.number before (own_in (set s.handles h.number (Some (with_prepares r (r.prepares - 1)))) d n) ((row : HandleRow) → before ≡ Some row → keeps_prepare row ≡ false
      → own_in (set s.handles h.number (Some (with_prepares r (r.prepares - 1)))) d n ≡ Some (with_prepares row (row.prepares - 1)))
  less_row h r own_ = (
    (λ differs. away h.number (Some (with_prepares r (r.prepares - 1))) differs),
    (λ is row at gives. here h.number r (with_prepares r (r.prepares - 1)) own_ refl is ∙ ap (λ (q : HandleRow). let o : Option HandleRow = Some (with_prepares q (q.prepares - 1)) in o) (is_row h.number r row own_ is at)),
  )

  unprepare_begun : (h : Handle) → Begun (call.Unprepare h) (with_handle s d h.number (unprepare s d (call.Unprepare h) h.number))
  unprepare_begun h = by_own (Begun (call.Unprepare h)) h.number (unprepare s d (call.Unprepare h) h.number)
      (λ none. ((λ differs. refl), (λ is row at gives. absurd (no_row h.number row none is at))))
      (λ r own_. pick_either (Begun (call.Unprepare h)) (keeps_prepare r) _ _
      (λ e. ((λ differs. refl), (λ is row at gives. absurd (let no : true ≡ false = sym e ∙ ap keeps_prepare (is_row h.number r row own_ is at) ∙ gives in cc))))
      (λ e. pick_either (Begun (call.Unprepare h)) _ _ _
      (λ f. let less = less_row h r own_ in (less.0, (λ is row at gives. inr (less.1 is row at gives))))
      (λ f. pick_either (Begun (call.Unprepare h)) _ _ _ (λ g. ((λ differs. refl), (λ is row at gives. inl refl))) (λ g. ((_, refl, refl, refl), less_row h r own_)))))

  past : (hs : List (Option HandleRow)) (q : HandleRow) (m : ℕ) → length hs ≢ m → own_in (hs ++ Some q ∷ []) d m ≡ own_in hs d m
  past [] q zero differs = absurd (differs refl)
  past [] q (suc m) differs = refl
  past (o ∷ hs) q zero differs = refl
  past (o ∷ hs) q (suc m) differs = past hs q m (λ same. differs (ap suc same))

  last : (hs : List (Option HandleRow)) (q : HandleRow) → (handle_at hs (length hs) ≡ None) × (handle_at (hs ++ Some q ∷ []) (length hs) ≡ Some q)
  last [] q = (refl, refl)
  last (o ∷ hs) q = last hs q

  get_begun : (name : Option ClockId) (found : Option ℕ) → Begun (call.Get name) (got s d found)
  get_begun name None = refl
  get_begun name (Some c) = pick_either (Begun (call.Get name)) (rooted s.defs s.clocks c) _ _
      (λ e. (
        (λ differs. past s.handles (new_handle d c) n differs),
        (λ is. (
          ap (λ (i : ℕ). own_in s.handles d i) (sym is) ∙ ap (own_of d) (last s.handles (new_handle d c)).0,
          new_handle d c,
          own_row d (handle_at (given s d c).0.handles n) (new_handle d c) (ap (handle_at (given s d c).0.handles) (sym is) ∙ (last s.handles (new_handle d c)).1) refl,
          refl,
        )),
      ))
      (λ e. refl)

  begun_effect : (what : Sleeping) → is_ours what ≡ true → Begun what (begun s d what)
  unfolding begun
  begun_effect (call.Get found) ours = get_begun found (option_map (λ c. c.0) found)
  begun_effect (call.Put h) ours = put_begun h
  begun_effect (call.Prepare h) ours = prepare_begun h
  begun_effect (call.Unprepare h) ours = unprepare_begun h
  begun_effect _ ours = absurd cc

  abbrev pub Outcome : BulkStep → State → Turn → Type 0
  Outcome what u (turn.Done r) = Effect n what r before (after u)
  Outcome (step.Call what) u turn.Going = Going_ what u
  Outcome _ u turn.Going = ⊥

  once_outcome : (what : BulkStep) (u : State) (y : State × Turn) (x : Turn) → paid s y ≡ Some (u, x) → Once what y → Outcome what u x
  unfolding settled
  once_outcome what u y x step_ once =
      let is = paid_is s u y x step_ in
      let now : turn.Done once.0 ≡ x = sym once.1 ∙ is.1 in
      subst (λ (z : Turn). Outcome what u z) now (subst (λ (v : State). Effect n what once.0 before (after v)) is.0 once.2)

  begun_outcome : (what : Sleeping) (u : State) (y : State × Turn) (x : Turn) → record (settled s y.0) { spent = s.spent + 1 } ≡ u → y.1 ≡ x → Begun what y → Outcome (step.Call what) u x
  unfolding settled
  begun_outcome what u y x is same begun_ = by_turn y.1 same begun_ where
    moved : (z : Turn) → ByTurn what y.0 z → Outcome (step.Call what) (record (settled s y.0) { spent = s.spent + 1 }) z
    moved (turn.Done r) b = b
    moved turn.Going b = going what b where
      going : (w : Sleeping) → Going_ w y.0 → Going_ w (record (settled s y.0) { spent = s.spent + 1 })
      going (call.Prepare h) b = b
      going (call.Unprepare h) b = b
      going (call.Get found) b = absurd b
      going (call.Put h) b = absurd b
      going _ b = tt

    by_turn : (z : Turn) → z ≡ x → ByTurn what y.0 z → Outcome (step.Call what) u x
    by_turn z same b = subst (λ (v : State). Outcome (step.Call what) v x) is (subst (λ (w : Turn). Outcome (step.Call what) (record (settled s y.0) { spent = s.spent + 1 }) w) same (moved z b))

  pub own_event : (what : BulkStep) → is_our_step what ≡ true → (u : State) (x : Turn) → next s d (event_of what) ≡ Some (u, x) → Outcome what u x
  unfolding next
  own_event (step.Enable h) ours u x step_ = once_outcome (step.Enable h) u (with_handle s d h.number (enabled s h.number)) x step_ (enable_once h)
  own_event (step.Disable h) ours u x step_ = once_outcome (step.Disable h) u (with_handle s d h.number (disabled s h.number)) x step_ (disable_once h)
  own_event (step.Call what) ours u x step_ = let b = begin_is s u d what x step_ in begun_outcome what u (begun s d what) x b.1 b.2 (begun_effect what ours)

-- effects don't look at the slot of a handle
slot_effect : (n : ℕ) (what : BulkStep) (h : Handle) (x y : Option HandleRow) → is_our_step what ≡ true → Effect n what (reply.Handle (record h { slot = 0 })) x y → Effect n what (reply.Handle h) x y
slot_effect n (step.Enable g) h x y ours e = e
slot_effect n (step.Disable g) h x y ours e = e
slot_effect n (step.Call (call.Get found)) h x y ours e = e
slot_effect n (step.Call (call.Put g)) h x y ours e = e
slot_effect n (step.Call (call.Prepare g)) h x y ours e = e
slot_effect n (step.Call (call.Unprepare g)) h x y ours e = (
  e.0,
  (λ is row at gives. elim (e.1 is row at gives) [
    | inl full ↦ absurd (let never : reply.Handle (record h { slot = 0 }) ≡ reply.Refused errno.ENOSPC = full in cc)
    | inr less ↦ inr less
  ]),
)
slot_effect n (step.Call _) h x y ours e = absurd cc

pub own_done : (s u : State) (d n : ℕ) (what : BulkStep) (r : Reply) → is_our_step what ≡ true → next s d (event_of what) ≡ Some (u, slotless (turn.Done r)) → Effect n what r (own_in s.handles d n) (own_in u.handles d n)
own_done s u d n what (reply.Handle h) ours step_ = slot_effect n what h (own_in s.handles d n) (own_in u.handles d n) ours (own_event s d n what ours u (turn.Done (reply.Handle (record h { slot = 0 }))) step_)
own_done s u d n what r ours step_ = own_event s d n what ours u (turn.Done r) step_
