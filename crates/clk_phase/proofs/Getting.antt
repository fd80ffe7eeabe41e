-- A get that fails leaves no handle.
use Rattle.std.proofs.Common.{◌≡◌, inl, inr, ℕ, zero, suc, Bool, true, false, ◌||◌, List, [], ◌∷◌, Option, Some, None, map, refl, sym, ap, subst, ◌∙◌}
use Rattle.std.specs.Prelude.{slice_get}
use Rattle.std.specs.List.{list_any}
use Rattle.std.proofs.lemmas.Bool.{cases_eq}
use Rattle.clk_base.specs.declared.clock.ClockId.{ClockId}
use Rattle.clk_base.specs.declared.call.Sleeping.TheVariants as call
use Rattle.clk_base.specs.declared.event.Reply.{Reply}
use Rattle.clk_base.specs.declared.event.Reply.TheVariants as reply
use Rattle.clk_base.specs.declared.handle.Handle.{Handle}
use Rattle.clk_model.specs.declared.row.HandleRow.{HandleRow}
use Rattle.clk_model.specs.State.{State}
use Rattle.clk_model.specs.Journal.{replay, opening}
use Rattle.clk_phase.specs.declared.bulk_call.BulkItem.{BulkItem}
use Rattle.clk_phase.specs.declared.bulk_call.BulkItem.TheVariants as item
use Rattle.clk_phase.specs.declared.bulk_call.BulkKind.TheVariants as kind
use Rattle.clk_phase.specs.declared.bulk_call.BulkStep.{BulkStep}
use Rattle.clk_phase.specs.declared.bulk_call.BulkStep.TheVariants as step
use Rattle.clk_phase.specs.Bulk.{Made, is_good, step_of, undo_of, steps_made, Forward, GoesOn}
use Rattle.clk_phase.specs.Going.{Goes}
use Rattle.clk_phase.specs.Undone.{MakesCall, lacks_room, FailedGetsLeaveNone}
use Rattle.clk_phase.proofs.OwnRows.{own_in}
use Rattle.clk_phase.proofs.OwnEvents.{Effect, is_our_step}
use Rattle.clk_phase.proofs.OwnCalls.{Keeps}
use Rattle.clk_phase.proofs.Undoing.{heads, empty, called, kept_from_opening, failed_leave_handles}

-- the calls of a get, and those that undo it
abbrev is_get : BulkStep → Bool
is_get (step.Call (call.Get found)) = true
is_get _ = false

abbrev is_put : BulkStep → Bool
is_put (step.Call (call.Put h)) = true
is_put _ = false

abbrev Each : (BulkStep → Bool) → List BulkStep → Type 0
Each test [] = Unit {0}
Each test (s ∷ ss) = (test s ≡ true) × Each test ss

each_get : (items : List BulkItem) → Each is_get (map (step_of kind.Get) items)
each_get [] = tt
each_get (item.Clock found ∷ items) = (refl, each_get items)
each_get (item.Handle h ∷ items) = (refl, each_get items)

get_full : (n : ℕ) (s : BulkStep) (r : Reply) → is_get s ≡ true → lacks_room n (record { step = s; reply = r }) ≡ false
get_full n (step.Call (call.Get found)) r is = refl
get_full n _ r is = absurd cc

put_full : (n : ℕ) (s : BulkStep) (r : Reply) → is_put s ≡ true → lacks_room n (record { step = s; reply = r }) ≡ false
put_full n (step.Call (call.Put h)) r is = refl
put_full n _ r is = absurd cc

neither : (a b : Bool) → a ≡ false → b ≡ false → (a || b) ≡ false
neither false b e f = f
neither true b e f = absurd cc

puts_full : (n : ℕ) (made : List Made) (us : List BulkStep) → steps_made made ≡ us → Each is_put us → list_any (lacks_room n) made ≡ false
puts_full n [] us are all = refl
puts_full n (m ∷ made) [] are all = absurd (empty are)
puts_full n (m ∷ made) (u ∷ us) are all =
    let h = heads are in neither (lacks_room n m) (list_any (lacks_room n) made) (put_full n m.step m.reply (ap is_put h.0 ∙ all.0)) (puts_full n made us h.1 all.1)

undo_put : (s : BulkStep) (r : Reply) (n : ℕ) (x y : Option HandleRow) → is_get s ≡ true → is_good r ≡ true → Effect n s r x y → is_put (undo_of s r) ≡ true
undo_put (step.Call (call.Get found)) (reply.Handle h) n x y is good e = refl
undo_put (step.Call (call.Get found)) reply.Fine n x y is good e = absurd e
undo_put (step.Call (call.Get found)) _ n x y is good e = absurd cc
undo_put _ r n x y is good e = absurd cc

get_ours : (s : BulkStep) → is_get s ≡ true → is_our_step s ≡ true
get_ours (step.Call (call.Get found)) is = refl
get_ours _ is = absurd cc

-- a get that leaves no row found none
no_row_before : (s : BulkStep) (r : Reply) (n : ℕ) (x y : Option HandleRow) → is_get s ≡ true → Effect n s r x y → y ≡ None → x ≡ None
no_row_before (step.Call (call.Get found)) (reply.Handle h) n x y is e none = elim (cases_eq h.number n) [
  | inl here ↦ let k = e.1 here in absurd (let one : None ≡ Some k.1 = sym none ∙ k.2 in cc)
  | inr differs ↦ sym (e.0 differs) ∙ none
]
no_row_before (step.Call (call.Get found)) reply.Fine n x y is e none = absurd e
no_row_before (step.Call (call.Get found)) _ n x y is e none = sym e ∙ none
no_row_before _ r n x y is e none = absurd cc

given_new : (found : Option ClockId) (h : Handle) (x y : Option HandleRow) → Effect h.number (step.Call (call.Get found)) (reply.Handle h) x y → x ≡ None
given_new found h x y e = (e.1 refl).0

same_made : {a b : Made} → Some a ≡ Some b → a ≡ b
same_made e = cc

not_put : (found : Option ClockId) → is_put (step.Call (call.Get found)) ≡ true → ⊥
not_put found e = cc

-- a get isn't among the calls that undo
never_there : (made : List Made) (us : List BulkStep) (k : ℕ) (found : Option ClockId) (h : Handle) → steps_made made ≡ us → Each is_put us
    → slice_get made k ≡ Some (record { step = step.Call (call.Get found); reply = reply.Handle h }) → ⊥
never_there [] us k found h are all at = cc
never_there (m ∷ made) [] k found h are all at = empty are
never_there (m ∷ made) (u ∷ us) zero found h are all at =
    not_put found (ap (λ (x : Made). is_put x.step) (sym (same_made at)) ∙ ap is_put (heads are).0 ∙ all.0)
never_there (m ∷ made) (u ∷ us) (suc k) found h are all at = never_there made us k found h (heads are).1 all.1 at

module _ (d n : ℕ) where
  abbrev row : State → Option HandleRow
  row s = own_in s.handles d n

  gets_full : (left undo : List BulkStep) (made : List Made) (s t : State) → Keeps d n s → Goes (MakesCall d) s made t → Forward undo left made → Each is_get left → Each is_put undo
      → list_any (lacks_room n) made ≡ false
  gets_full [] undo made s t kept goes fw gets puts = ap (list_any (lacks_room n)) fw
  gets_full (c ∷ left) undo [] s t kept goes fw gets puts = absurd fw
  gets_full (c ∷ left) undo (m ∷ made) s t kept goes fw gets puts =
      let is : is_get m.step ≡ true = ap is_get fw.0 ∙ gets.0 in
      let now = called d n s goes.0 m.step m.reply (get_ours m.step is) kept goes.1 in
      neither (lacks_room n m) (list_any (lacks_room n) made) (get_full n m.step m.reply is)
      (by_reply (is_good m.reply) refl fw.1 is now.0 (λ undo' fw' puts'. gets_full left undo' made goes.0 t now.1 goes.2 fw' gets.1 puts')) where
        by_reply : (b : Bool) → is_good m.reply ≡ b → GoesOn b (Forward (undo_of m.step m.reply ∷ undo) left made) (steps_made made ≡ undo) → is_get m.step ≡ true → Effect n m.step m.reply (row s) (row goes.0)
            → ((undo' : List BulkStep) → Forward undo' left made → Each is_put undo' → list_any (lacks_room n) made ≡ false) → list_any (lacks_room n) made ≡ false
        by_reply true good on is e again_ = again_ (undo_of m.step m.reply ∷ undo) on (undo_put m.step m.reply n (row s) (row goes.0) is good e, puts)
        by_reply false bad on is e again_ = puts_full n made undo on puts

-- the driver had no handle of the number that a get is given
none_before : (d k : ℕ) (found : Option ClockId) (h : Handle) (left undo : List BulkStep) (made : List Made) (s t : State) → Keeps d h.number s → Goes (MakesCall d) s made t → Forward undo left made → Each is_get left → Each is_put undo
    → slice_get made k ≡ Some (record { step = step.Call (call.Get found); reply = reply.Handle h }) → own_in s.handles d h.number ≡ None
none_before d k found h [] undo made s t kept goes fw gets puts at = absurd (never (sym at ∙ ap (λ (ms : List Made). slice_get ms k) fw)) where
  never : {m : Made} → Some m ≡ slice_get [] k → ⊥
  never e = cc
none_before d k found h (c ∷ left) undo [] s t kept goes fw gets puts at = absurd fw
none_before d zero found h (c ∷ left) undo (m ∷ made) s t kept goes fw gets puts at =
    let is : is_get m.step ≡ true = ap is_get fw.0 ∙ gets.0 in
    let now = called d h.number s goes.0 m.step m.reply (get_ours m.step is) kept goes.1 in
    given_new found h (own_in s.handles d h.number) (own_in goes.0.handles d h.number)
    (subst (λ (x : Made). Effect h.number x.step x.reply (own_in s.handles d h.number) (own_in goes.0.handles d h.number)) (same_made at) now.0)
none_before d (suc k) found h (c ∷ left) undo (m ∷ made) s t kept goes fw gets puts at =
    let is : is_get m.step ≡ true = ap is_get fw.0 ∙ gets.0 in
    let now = called d h.number s goes.0 m.step m.reply (get_ours m.step is) kept goes.1 in
    by_reply (is_good m.reply) refl fw.1 is now.0 (λ undo' fw' puts'. none_before d k found h left undo' made goes.0 t now.1 goes.2 fw' gets.1 puts' at) where
      by_reply : (b : Bool) → is_good m.reply ≡ b → GoesOn b (Forward (undo_of m.step m.reply ∷ undo) left made) (steps_made made ≡ undo) → is_get m.step ≡ true
          → Effect h.number m.step m.reply (own_in s.handles d h.number) (own_in goes.0.handles d h.number)
          → ((undo' : List BulkStep) → Forward undo' left made → Each is_put undo' → own_in goes.0.handles d h.number ≡ None) → own_in s.handles d h.number ≡ None
      by_reply true good on is e again_ =
          no_row_before m.step m.reply h.number (own_in s.handles d h.number) (own_in goes.0.handles d h.number) is e
          (again_ (undo_of m.step m.reply ∷ undo) on (undo_put m.step m.reply h.number (own_in s.handles d h.number) (own_in goes.0.handles d h.number) is good e, puts))
      by_reply false bad on is e again_ = absurd (never_there made undo k found h on puts at)

both_ways : (b : Bool) → b ≡ true → b ≡ false → ⊥
both_ways true t f = cc
both_ways false t f = cc

pub failed_gets_leave_none : FailedGetsLeaveNone
failed_gets_leave_none defs regs ignore_unused credits before d t items made fail handles goes bulk k found h at =
    let s : State = replay (opening defs regs ignore_unused credits) before in
    let kept = kept_from_opening defs regs ignore_unused credits before in
    let none = none_before d k found h (map (step_of kind.Get) items) [] made s t kept goes bulk.0 (each_get items) tt at in
    elim (failed_leave_handles defs regs ignore_unused credits before d t kind.Get items made fail handles refl goes bulk h.number) [
      | inl full ↦ absurd (both_ways (list_any (lacks_room h.number) made) full (gets_full d h.number (map (step_of kind.Get) items) [] made s t kept goes bulk.0 (each_get items) tt))
      | inr same ↦ same ∙ none
    ]
