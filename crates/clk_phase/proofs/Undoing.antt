-- A forward command that fails leaves the row of each of the driver's handles.
use Rattle.std.proofs.Common.{◌≡◌, ◌⊎◌, inl, inr, ℕ, ◌+◌, ◌-◌, ◌<◌, Bool, true, false, cond, nat_eq, nat_lt, ◌||◌, ◌&&◌, List, [], ◌∷◌, Option, Some, None, map, length, refl, sym, ap, subst, ◌∙◌, arith}
use Rattle.std.specs.List.{list_any}
use Rattle.std.specs.Option.{option_map_or}
use Rattle.std.proofs.lemmas.Bool.{cases_eq}
use Rattle.std.proofs.lemmas.Bool.Decides.{nat_tests}
use Rattle.clk_base.specs.declared.call.Sleeping.TheVariants as call
use Rattle.clk_base.specs.declared.event.Entry.{Entry}
use Rattle.clk_base.specs.declared.event.Reply.{Reply}
use Rattle.clk_base.specs.declared.event.Reply.TheVariants as reply
use Rattle.clk_base.specs.Description.{Description}
use Rattle.reg_bank.specs.Registers.{Registers}
use Rattle.clk_model.specs.declared.row.HandleRow.{HandleRow}
use Rattle.clk_model.specs.State.{State, handle_at}
use Rattle.clk_model.specs.Begin.{holds_something, keeps_prepare}
use Rattle.clk_model.specs.Machine.{next}
use Rattle.clk_model.specs.Journal.{replay, opening}
use Rattle.clk_base.specs.declared.event.Turn.{Turn}
use Rattle.clk_phase.specs.declared.bulk_call.BulkItem.{BulkItem}
use Rattle.clk_phase.specs.declared.bulk_call.BulkItem.TheVariants as item
use Rattle.clk_phase.specs.declared.bulk_call.BulkKind.{BulkKind}
use Rattle.clk_phase.specs.declared.bulk_call.BulkKind.TheVariants as kind
use Rattle.clk_phase.specs.declared.bulk_call.BulkStep.{BulkStep}
use Rattle.clk_phase.specs.declared.bulk_call.BulkStep.TheVariants as step
use Rattle.clk_phase.specs.Bulk.{Made, is_forward, is_good, step_of, undo_of, steps_made, Forward, GoesOn, fail_up, IsBulkBy}
use Rattle.clk_phase.specs.Going.{Goes}
use Rattle.clk_phase.specs.Undone.{MakesCall, lacks_room, FailedLeaveHandles}
use Rattle.clk_phase.proofs.OwnRows.{own_in, own_is, Backed}
use Rattle.clk_phase.proofs.Events.{IsKept, lands, lands_kept}
use Rattle.clk_phase.proofs.OwnEvents.{At, Effect, with_enables, with_prepares, is_our_step}
use Rattle.clk_phase.proofs.OwnCalls.{Keeps, whole_call}

-- ---- a call that undoes

-- it takes the row of number n from x back to y
abbrev Undoes : ℕ → BulkStep → Option HandleRow → Option HandleRow → Type 0
Undoes n (step.Disable h) x y = At n h.number x y ((p : HandleRow) × (x ≡ Some p) × (p.enables ≡ 0 → ⊥) × (y ≡ Some (with_enables p (p.enables - 1))))
Undoes n (step.Call (call.Unprepare h)) x y = At n h.number x y ((p : HandleRow) × (x ≡ Some p) × (keeps_prepare p ≡ false) × (y ≡ Some (with_prepares p (p.prepares - 1))))
Undoes n (step.Call (call.Put h)) x y = At n h.number x y ((p : HandleRow) × (x ≡ Some p) × (holds_something p ≡ false) × (y ≡ None))
Undoes n _ x y = ⊥

-- so do these calls, the first first
abbrev Stack : ℕ → List BulkStep → Option HandleRow → Option HandleRow → Type 0
Stack n [] x y = x ≡ y
Stack n (u ∷ us) x y = (z : Option HandleRow) × Undoes n u x z × Stack n us z y

-- a call that is undone leaves the row, or finds no room
undone : (n : ℕ) (u : BulkStep) (r : Reply) (x y z : Option HandleRow) → Undoes n u x z → Effect n u r x y → (lacks_room n (record { step = u; reply = r }) ≡ true) ⊎ (y ≡ z)
undone n (step.Disable h) r x y z w e = elim (cases_eq h.number n) [
  | inl is ↦ let k = w.1 is in inr (e.1 is k.0 k.1 k.2 ∙ sym k.3)
  | inr differs ↦ inr (e.0 differs ∙ sym (w.0 differs))
]
undone n (step.Call (call.Put h)) r x y z w e = elim (cases_eq h.number n) [
  | inl is ↦ let k = w.1 is in inr (e.1 is k.0 k.1 k.2 ∙ sym k.3)
  | inr differs ↦ inr (e.0 differs ∙ sym (w.0 differs))
]
undone n (step.Call (call.Unprepare h)) r x y z w e = elim (cases_eq h.number n) [
  | inl is ↦ let k = w.1 is in elim (e.1 is k.0 k.1 k.2) [
    | inl full ↦ inl (ap (λ (q : Reply). lacks_room n (record { step = step.Call (call.Unprepare h); reply = q })) full ∙ same h.number n is)
    | inr less ↦ inr (less ∙ sym k.3)
  ]
  | inr differs ↦ inr (e.0 differs ∙ sym (w.0 differs))
] where
  same : (a b : ℕ) → a ≡ b → nat_eq a b ≡ true
  same a b is = grind (arith, nat_tests)
undone n _ r x y z w e = absurd w

-- ---- a call of a forward command

-- a step of a forward command
abbrev Forwards : BulkStep → Bool
Forwards (step.Enable h) = true
Forwards (step.Call (call.Get found)) = true
Forwards (step.Call (call.Prepare h)) = true
Forwards _ = false

back_number : (a : ℕ) → a + 1 - 1 ≡ a
back_number a = omega arith

gives_more : (p : HandleRow) → Backed p → keeps_prepare (with_prepares p (p.prepares + 1)) ≡ false
gives_more p fine = numbers p.prepares p.enables fine where
  numbers : (a e : ℕ) → (0 < e → 0 < a) → (nat_eq (a + 1) 0 || (nat_eq (a + 1) 1 && nat_lt 0 e)) ≡ false
  numbers a e fine = by_test (nat_eq (a + 1) 0) (nat_eq (a + 1) 1) (nat_lt 0 e) refl refl refl where
    first : nat_eq (a + 1) 0 ≡ true → ⊥
    first is = grind (arith, nat_tests)

    both : nat_eq (a + 1) 1 ≡ true → nat_lt 0 e ≡ true → ⊥
    both one on = none (fine (some on)) (zero_ one) where
      some : nat_lt 0 e ≡ true → 0 < e
      some on = grind (arith, nat_tests)

      zero_ : nat_eq (a + 1) 1 ≡ true → a ≡ 0
      zero_ one = grind (arith, nat_tests)

      none : 0 < a → a ≡ 0 → ⊥
      none some zero = omega (arith, some, zero)

    by_test : (x y z : Bool) → nat_eq (a + 1) 0 ≡ x → nat_eq (a + 1) 1 ≡ y → nat_lt 0 e ≡ z → (x || (y && z)) ≡ false
    by_test true y z is one on = absurd (first is)
    by_test false true true is one on = absurd (both one on)
    by_test false true false is one on = refl
    by_test false false z is one on = refl

same_prepares : (p : HandleRow) → with_prepares (with_prepares p (p.prepares + 1)) ((p.prepares + 1) - 1) ≡ p
same_prepares p = ap (λ (a : ℕ). with_prepares p a) (back_number p.prepares)

same_enables : (p : HandleRow) → with_enables (with_enables p (p.enables + 1)) ((p.enables + 1) - 1) ≡ p
same_enables p = ap (λ (a : ℕ). with_enables p a) (back_number p.enables)

-- what went well can be undone
push : (n : ℕ) (s : BulkStep) (r : Reply) (x y : Option HandleRow) → Forwards s ≡ true → is_good r ≡ true → ((p : HandleRow) → x ≡ Some p → Backed p) → Effect n s r x y → Undoes n (undo_of s r) y x
push n (step.Enable h) r x y forward good fine e = (
  (λ differs. sym (e.1 differs)),
  (λ is. let k = e.2 is good in (with_enables k.0 (k.0.enables + 1), k.2, more k.0.enables, k.1 ∙ ap (λ (p : HandleRow). let o : Option HandleRow = Some p in o) (sym (same_enables k.0)))),
) where
  more : (a : ℕ) → a + 1 ≡ 0 → ⊥
  more a is = omega (arith, is)
push n (step.Call (call.Prepare h)) r x y forward good fine e = (
  (λ differs. sym (e.1 differs)),
  (λ is. let k = e.2 is good in (with_prepares k.0 (k.0.prepares + 1), k.2, gives_more k.0 (fine k.0 k.1), k.1 ∙ ap (λ (p : HandleRow). let o : Option HandleRow = Some p in o) (sym (same_prepares k.0)))),
)
push n (step.Call (call.Get found)) (reply.Handle h) x y forward good fine e = ((λ differs. sym (e.0 differs)), (λ is. let k = e.1 is in (k.1, k.2, k.3, k.0)))
push n (step.Call (call.Get found)) reply.Fine x y forward good fine e = absurd e
push n (step.Call (call.Get found)) _ x y forward good fine e = absurd cc
push n _ r x y forward good fine e = absurd cc

-- what failed has left the row
failed : (n : ℕ) (s : BulkStep) (r : Reply) (x y : Option HandleRow) → Forwards s ≡ true → is_good r ≡ false → Effect n s r x y → y ≡ x
failed n (step.Enable h) r x y forward bad e = e.0 bad
failed n (step.Call (call.Prepare h)) r x y forward bad e = e.0 bad
failed n (step.Call (call.Get found)) (reply.Handle h) x y forward bad e = absurd cc
failed n (step.Call (call.Get found)) reply.Fine x y forward bad e = absurd cc
failed n (step.Call (call.Get found)) _ x y forward bad e = e
failed n _ r x y forward bad e = absurd cc

-- ---- the whole command

abbrev AllForward : List BulkStep → Type 0
AllForward [] = Unit {0}
AllForward (s ∷ ss) = (Forwards s ≡ true) × AllForward ss

step_forward : (k : BulkKind) (x : BulkItem) → is_forward k ≡ true → Forwards (step_of k x) ≡ true
step_forward kind.Get (item.Clock found) forward = refl
step_forward kind.Get (item.Handle h) forward = refl
step_forward kind.Prepare (item.Clock found) forward = refl
step_forward kind.Prepare (item.Handle h) forward = refl
step_forward kind.Enable (item.Clock found) forward = refl
step_forward kind.Enable (item.Handle h) forward = refl
step_forward k x forward = absurd cc

all_forward : (k : BulkKind) (items : List BulkItem) → is_forward k ≡ true → AllForward (map (step_of k) items)
all_forward k [] forward = tt
all_forward k (x ∷ items) forward = (step_forward k x forward, all_forward k items forward)

forward_ours : (c : BulkStep) → Forwards c ≡ true → is_our_step c ≡ true
forward_ours (step.Enable h) f = refl
forward_ours (step.Call (call.Get found)) f = refl
forward_ours (step.Call (call.Prepare h)) f = refl
forward_ours _ f = absurd cc

undo_ours : (n : ℕ) (u : BulkStep) (x y : Option HandleRow) → Undoes n u x y → is_our_step u ≡ true
undo_ours n (step.Disable h) x y w = refl
undo_ours n (step.Call (call.Put h)) x y w = refl
undo_ours n (step.Call (call.Unprepare h)) x y w = refl
undo_ours n _ x y w = absurd w

first_of : (a : Bool) (b : Bool) → a ≡ true → (a || b) ≡ true
first_of true b e = refl
first_of false b e = absurd cc

later : (a : Bool) (b : Bool) → b ≡ true → (a || b) ≡ true
later true b e = refl
later false b e = e

pub heads : {a b : BulkStep} {us ws : List BulkStep} → a ∷ us ≡ b ∷ ws → (a ≡ b) × (us ≡ ws)
heads e = (cc, cc)

pub empty : {a : BulkStep} {us : List BulkStep} → a ∷ us ≡ [] → ⊥
empty e = cc

module _ (d n : ℕ) where
  abbrev row : State → Option HandleRow
  row s = own_in s.handles d n

  abbrev Left : List Made → State → Option HandleRow → Type 0
  Left made t x0 = (list_any (lacks_room n) made ≡ true) ⊎ (row t ≡ x0)

  pub called : (s t : State) (c : BulkStep) (r : Reply) → is_our_step c ≡ true → Keeps d n s → MakesCall d s c r t → Effect n c r (row s) (row t) × Keeps d n t
  called s t c r ours kept m = whole_call d n m.entries s t c r ours kept m.legal m.leads m.whole

  more_left : (m : Made) (made : List Made) (t : State) (x0 : Option HandleRow) → Left made t x0 → Left (m ∷ made) t x0
  more_left m made t x0 (inl full) = inl (later (lacks_room n m) (list_any (lacks_room n) made) full)
  more_left m made t x0 (inr is) = inr is

  undoing : (us : List BulkStep) (made : List Made) (s t : State) (x0 : Option HandleRow) → Keeps d n s → Goes (MakesCall d) s made t → steps_made made ≡ us → Stack n us (row s) x0 → Left made t x0
  undoing [] [] s t x0 kept goes are stack = inr (ap row (sym goes) ∙ stack)
  undoing [] (m ∷ made) s t x0 kept goes are stack = absurd (empty are)
  undoing (u ∷ us) [] s t x0 kept goes are stack = absurd (empty (sym are))
  undoing (u ∷ us) (m ∷ made) s t x0 kept goes are stack =
      let h = heads are in
      let c = called s goes.0 m.step m.reply (ap (is_our_step) h.0 ∙ undo_ours n u (row s) stack.0 stack.1) kept goes.1 in
      elim (undone n u m.reply (row s) (row goes.0) stack.0 stack.1 (subst (λ (x : BulkStep). Effect n x m.reply (row s) (row goes.0)) h.0 c.0)) [
        | inl full ↦ inl (first_of (lacks_room n m) (list_any (lacks_room n) made) (ap (λ (x : BulkStep). lacks_room n (record { step = x; reply = m.reply })) h.0 ∙ full))
        | inr is ↦ more_left m made t x0 (undoing us made goes.0 t x0 c.1 goes.2 h.1 (subst (λ (x : Option HandleRow). Stack n us x x0) (sym is) stack.2))
      ]

  row_backed : (s : State) → Keeps d n s → (p : HandleRow) → row s ≡ Some p → Backed p
  row_backed s kept p is = kept.backed n p (own_is d (handle_at s.handles n) p is).0

  forwards : (left undo : List BulkStep) (made : List Made) (s t : State) (x0 : Option HandleRow) (k : ℕ) (f : ℕ × Reply) → Keeps d n s → Goes (MakesCall d) s made t → Forward undo left made → AllForward left
      → fail_up k made ≡ Some f → Stack n undo (row s) x0 → Left made t x0
  forwards [] undo made s t x0 k f kept goes fw all fails stack = absurd (none (ap (fail_up k) (sym fw) ∙ fails)) where
    none : None ≡ Some f → ⊥
    none e = cc
  forwards (c ∷ left) undo [] s t x0 k f kept goes fw all fails stack = absurd fw
  forwards (c ∷ left) undo (m ∷ made) s t x0 k f kept goes fw all fails stack =
      let step_forward_ : Forwards m.step ≡ true = ap Forwards fw.0 ∙ all.0 in
      let now = called s goes.0 m.step m.reply (forward_ours m.step step_forward_) kept goes.1 in
      more_left m made t x0 (by_reply (is_good m.reply) refl fw.1 fails step_forward_ now (λ undo' kept' fw' fails' stack'. forwards left undo' made goes.0 t x0 (k + 1) f kept' goes.2 fw' all.1 fails' stack')) where
        by_reply : (b : Bool) → is_good m.reply ≡ b → GoesOn b (Forward (undo_of m.step m.reply ∷ undo) left made) (steps_made made ≡ undo) → cond b (fail_up (k + 1) made) (Some (k, m.reply)) ≡ Some f
            → Forwards m.step ≡ true → Effect n m.step m.reply (row s) (row goes.0) × Keeps d n goes.0
            → ((undo' : List BulkStep) → Keeps d n goes.0 → Forward undo' left made → fail_up (k + 1) made ≡ Some f → Stack n undo' (row goes.0) x0 → Left made t x0) → Left made t x0
        by_reply true good on fails forward now again_ =
            again_ (undo_of m.step m.reply ∷ undo) now.1 on fails
            (row s, push n m.step m.reply (row s) (row goes.0) forward good (row_backed s kept) now.0, stack)
        by_reply false bad on fails forward now again_ =
            undoing undo made goes.0 t x0 now.1 goes.2 on (subst (λ (x : Option HandleRow). Stack n undo x x0) (sym (failed n m.step m.reply (row s) (row goes.0) forward bad now.0)) stack)

-- ---- every state of a run

kept_replay : (es : List Entry) (s : State) → IsKept s.handles s.change → IsKept (replay s es).handles (replay s es).change
kept_replay [] s kept = kept
kept_replay (e ∷ es) s kept = kept_replay es (option_map_or (λ x. x.0) (next s e.driver e.event) s) (by_next (next s e.driver e.event) refl) where
  by_next : (o : Option (State × Turn)) → next s e.driver e.event ≡ o → IsKept (option_map_or (λ x. x.0) o s).handles (option_map_or (λ x. x.0) o s).change
  by_next None is = kept
  by_next (Some y) is = lands_kept s e.driver y.0.handles y.0.change kept (lands s y.0 e.driver kept e.event y.1 is)

pub kept_from_opening : (defs : Description) (regs : Registers) (ignore_unused : Bool) (credits : ℕ) (es : List Entry) → let s = replay (opening defs regs ignore_unused credits) es in IsKept s.handles s.change
kept_from_opening defs regs ignore_unused credits es = kept_replay es (opening defs regs ignore_unused credits) (record {
  backed = λ n r at. absurd (let no : None ≡ Some r = at in cc);
  owned = λ k at. absurd (let no : None ≡ Some k = at in cc);
})

pub failed_leave_handles : FailedLeaveHandles
failed_leave_handles defs regs ignore_unused credits before d t kind items made fail handles forward goes bulk n =
    let by : IsBulkBy true (map (step_of kind) items) (length items) made (Some fail) handles = subst (λ (b : Bool). IsBulkBy b (map (step_of kind) items) (length items) made (Some fail) handles) forward bulk in
    forwards d n (map (step_of kind) items) [] made (replay (opening defs regs ignore_unused credits) before) t (own_in (replay (opening defs regs ignore_unused credits) before).handles d n) 1 fail
    (kept_from_opening defs regs ignore_unused credits before) goes by.0 (all_forward kind items forward) (sym by.1) refl
