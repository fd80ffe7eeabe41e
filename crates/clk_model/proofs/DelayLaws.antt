-- Laws on delays: a PLL of which all polls answer no has a longer one than it is polled.
use Rattle.std.proofs.Common.{◌≡◌, ℕ, ◌+◌, ◌<◌, ◌≤◌, ◌&&◌, Bool, true, false, not, cond, List, [], ◌∷◌, Option, Some, None, refl, sym, ap, ◌∙◌, inl, inr, arith, nat_eq, nat_le, count_by, true≢false, zero-le}
use Rattle.std.specs.Prelude.{option_and_then}
use Rattle.std.proofs.lemmas.Bool.Decides.{nat_tests}
use Rattle.std.proofs.lemmas.List.Sums.{sum_by-cons}
use Rattle.clk_base.specs.declared.call.Micro.TheVariants as micro
use Rattle.clk_base.specs.declared.clock.ClockId.{ClockId}
use Rattle.clk_base.specs.declared.event.Entry.{Entry}
use Rattle.clk_base.specs.declared.event.Event.{Event}
use Rattle.clk_base.specs.declared.event.Event.TheVariants as event
use Rattle.clk_base.specs.declared.event.Turn.{Turn}
use Rattle.clk_model.specs.State.{State, Change}
use Rattle.clk_model.specs.Step.{todo, most_polls, is_yes, taken, stepped}
use Rattle.clk_model.specs.Machine.{comes_next, may_step, counted, next}
use Rattle.clk_model.specs.Journal.{slotless, Legal, AnswersByDelay, PolledFrom, asked_after}
use Rattle.clk_model.specs.Laws.EndCauses.{noes_after, is_last_no, never_locks, LateHaveDelays}
use Rattle.clk_model.proofs.Members.{or_cases, same_from_test}

-- a poll has an answer
poll_answered : (s t : State) (d : ℕ) (y : ClockId) (x : Turn) → next s d (event.Step (micro.Poll y) None) ≡ Some (t, x) → ⊥
unfolding next
poll_answered s t d y x step = by s.change step where
  never : (b : Bool) (z : State × Turn) → cond (b && false) (Some z) None ≡ Some (t, x) → ⊥
  never true z e = cc
  never false z e = cc

  by : (o : Option Change) → option_and_then (λ k. cond (may_step d (micro.Poll y) None k) (Some (counted s (stepped s (taken k) None (micro.Poll y)))) None) o ≡ Some (t, x) → ⊥
  by None e = cc
  by (Some k) e = never (nat_eq k.driver d && comes_next (micro.Poll y) (todo k)) (counted s (stepped s (taken k) None (micro.Poll y))) e

-- the noes are among the polls
abbrev NoMore : List ℕ → List ℕ → Type 0
NoMore noes asked = (y : ℕ) → count_by (λ w. nat_eq w y) noes ≤ count_by (λ w. nat_eq w y) asked

count_more : (x y : ℕ) (xs : List ℕ) → count_by (λ w. nat_eq w y) (x ∷ xs) ≡ cond (nat_eq x y) 1 0 + count_by (λ w. nat_eq w y) xs
count_more x y xs = sum_by-cons (λ w. cond (nat_eq w y) 1 0) x xs

polls_more : (noes asked : List ℕ) (x : ℕ) (b : Bool) → NoMore noes asked → NoMore (cond b noes (x ∷ noes)) (x ∷ asked)
polls_more noes asked x true more y = let one = count_more x y asked in let le = more y in omega arith
polls_more noes asked x false more y = let one = count_more x y asked in let two = count_more x y noes in let le = more y in omega arith

no_more_after : (noes asked : List ℕ) (ev : Event) → NoMore noes asked → NoMore (noes_after noes ev) (asked_after asked ev)
no_more_after noes asked (event.Step (micro.Raise x) answer) more = λ y. omega arith
no_more_after noes asked (event.Step (micro.Poll x) answer) more = polls_more noes asked x.0 (is_yes answer) more
no_more_after noes asked _ more = more

pub three_true : (a b c : Bool) → (a && b && c) ≡ true → (a ≡ true) × (b ≡ true) × (c ≡ true)
three_true true true true e = (refl, refl, refl)
three_true true true false e = absurd (true≢false (sym e))
three_true true false c e = absurd (true≢false (sym e))
three_true false b c e = absurd (true≢false (sym e))

-- a PLL that answers the last poll by no has a longer delay
last_delays : (delay : ℕ → ℕ) (asked noes : List ℕ) (s t : State) (d : ℕ) (x : Turn) (y : ℕ) (ev : Event) → NoMore noes asked → next s d ev ≡ Some (t, x) → AnswersByDelay delay asked ev → is_last_no y noes ev ≡ true
    → most_polls < delay y
last_delays delay asked noes s t d x y (event.Step (micro.Poll z) None) more step answers last = absurd (poll_answered s t d z x step)
last_delays delay asked noes s t d x y (event.Step (micro.Poll z) (Some b)) more step answers last =
    let parts = three_true (nat_eq z.0 y) (not b) (nat_le most_polls (count_by (λ w. nat_eq w y) noes + 1)) last in
    let same : z.0 ≡ y = same_from_test z.0 y parts.0 in
    let denied : b ≡ false = not_true b parts.1 in
    let long : most_polls ≤ count_by (λ w. nat_eq w y) noes + 1 = at_least (count_by (λ w. nat_eq w y) noes + 1) parts.2 in
    let told : nat_le (delay y) (count_by (λ w. nat_eq w y) asked + 1) ≡ false =
    ap (λ (n : ℕ). nat_le (delay n) (count_by (λ w. nat_eq w n) asked + 1)) (sym same) ∙ sym answers ∙ denied in
    let more_than = above (delay y) (count_by (λ w. nat_eq w y) asked + 1) told in
    let le = more y in
    omega arith where
      not_true : (c : Bool) → not c ≡ true → c ≡ false
      not_true true e = absurd (true≢false (sym e))
      not_true false e = refl

      at_least : (n : ℕ) → nat_le most_polls n ≡ true → most_polls ≤ n
      at_least n e = grind (arith, nat_tests)

      above : (n m : ℕ) → nat_le n m ≡ false → m < n
      above n m e = grind (arith, nat_tests)
last_delays delay asked noes s t d x y _ more step answers last = absurd (true≢false (sym last))

late_delays : (delay : ℕ → ℕ) (asked noes : List ℕ) (s : State) (since : List Entry) (y : ℕ) → NoMore noes asked → Legal s since → PolledFrom delay asked since → never_locks y noes since ≡ true → most_polls < delay y
late_delays delay asked noes s [] y more legal polled late = absurd (true≢false (sym late))
late_delays delay asked noes s (e ∷ es) y more legal polled late =
    elim (or_cases (is_last_no y noes e.event) (never_locks y (noes_after noes e.event) es) late) [
      | inl last ↦ last_delays delay asked noes s legal.0 e.driver (slotless e.turn) y e.event more legal.1 polled.0 last
      | inr later ↦ late_delays delay (asked_after asked e.event) (noes_after noes e.event) legal.0 es y (no_more_after noes asked e.event more) legal.2 polled.1 later
    ]

pub late_have_delays : LateHaveDelays
late_have_delays delay asked s since y legal polled late = late_delays delay asked [] s since y (λ w. zero-le) legal polled late
