-- Journals in which several drivers have their calls.
use Rattle.std.proofs.Common.{◌≡◌, ℕ, suc, ◌+◌, ◌<◌, ◌≤◌, Bool, true, false, not, List, [], ◌∷◌, ◌++◌, refl, ap, subst, arith, length, nat_lt, nat_eq}
use Rattle.std.proofs.lemmas.Bool.Decides.{nat_tests}
use Rattle.std.proofs.lemmas.List.{append-nil}
use Rattle.std.specs.Prelude.{if◌then◌else◌}
use Rattle.clk_base.specs.declared.command.Answer.{Answer}
use Rattle.clk_base.specs.declared.command.Command.{Command}
use Rattle.clk_base.specs.declared.event.Entry.{Entry}
use Rattle.clk_model.specs.Tier.{is_step}
use Rattle.clk_model.specs.Journal.{Answered, own, calls_of, is_going, one_after_the_other}
use Rattle.clk_model.specs.Follows.{Variables, FollowsFrom}
use Rattle.clk_machine.specs.Run.{Run}
use Rattle.driver_runs.specs.Scripts.{are_calls, GoesThrough}
use Rattle.driver_runs.specs.Drivers.{FollowAll, are_among}
use Rattle.driver_runs.proofs.WholeCalls.{next_of}
use Rattle.clk_model.proofs.Members.{both_left, both_right}
use Rattle.std.proofs.lemmas.Bool.{and_from}

-- ---- entries of one driver

-- all are its own
pub own_all : (d : ℕ) (going : Bool) (es : List Entry) → are_calls d going es ≡ true → own es d ≡ es
own_all d going [] h = refl
own_all d going (e ∷ es) h =
    let is = next_of d going e es h in
    let same = is.test in
    rw same (ap (λ (xs : List Entry). e ∷ xs) (own_all d (is_going e.turn) es is.behind))

-- and none is another's
pub own_none : (d n : ℕ) (going : Bool) (es : List Entry) → n < d → are_calls d going es ≡ true → own es n ≡ []
own_none d n going [] less h = refl
own_none d n going (e ∷ es) less h =
    let next = next_of d going e es h in
    let is = next.driver in
    let other : nat_eq e.driver n ≡ false = grind (arith, nat_tests) in
    rw other (own_none d n (is_going e.turn) es less next.behind)

-- whole calls are one after the other
pub calls_alone : (d : ℕ) (going : Bool) (es : List Entry) → are_calls d going es ≡ true → one_after_the_other going es ≡ true
calls_alone d going [] h = refl
calls_alone d going (e ∷ es) h =
    let is = next_of d going e es h in
    and_from (if going then is_step e.event else not (is_step e.event)) (one_after_the_other (is_going e.turn) es) is.kind (calls_alone d (is_going e.turn) es is.behind)

-- a driver that was not among those of a journal has no entry there
pub own_before : (d : ℕ) (journal : List Entry) → are_among d journal ≡ true → own journal d ≡ []
own_before d [] h = refl
own_before d (e ∷ es) h =
    let less = both_left (nat_lt e.driver d) _ h in
    let other : nat_eq e.driver d ≡ false = grind (arith, nat_tests) in
    rw other (own_before d es (both_right _ _ h))

pub among_more : (d d' : ℕ) (journal : List Entry) → d ≤ d' → are_among d journal ≡ true → are_among d' journal ≡ true
among_more d d' [] least h = refl
among_more d d' (e ∷ es) least h =
    let less = both_left (nat_lt e.driver d) _ h in
    and_from (nat_lt e.driver d') _ (grind (arith, nat_tests)) (among_more d d' es least (both_right _ _ h))

pub among_own : (d : ℕ) (going : Bool) (es : List Entry) → are_calls d going es ≡ true → are_among (d + 1) es ≡ true
among_own d going [] h = refl
among_own d going (e ∷ es) h =
    let next = next_of d going e es h in
    let is = next.driver in
    and_from (nat_lt e.driver (d + 1)) _ (grind (arith, nat_tests)) (among_own d (is_going e.turn) es next.behind)

-- ---- commands that were gone through

-- the calls of a driver that has gone through its commands
pub goes_follows : (old new : Run) (d : ℕ) (held held' : Variables) (commands : List Command) (answers : List Answer)
    → (goes : GoesThrough old d held commands answers held' new) → FollowsFrom held commands (calls_of goes.entries) answers
goes_follows old new d held held' commands answers goes =
    subst (λ (as_ : List Answer). FollowsFrom held commands (calls_of goes.entries) as_) (append-nil answers)
    (subst (λ (ls : List Answered). FollowsFrom held commands ls (answers ++ [])) (append-nil (calls_of goes.entries))
    (subst (λ (cs : List Command). FollowsFrom held cs (calls_of goes.entries ++ []) (answers ++ [])) (append-nil commands) (goes.follows [] [] [] tt)))

-- drivers that have their calls in a journal have an answer list each
pub follow_many : (d : ℕ) (scripts : List (List Command)) (answers : List (List Answer)) (journal : List Entry) → FollowAll d scripts answers journal → length answers ≡ length scripts
follow_many d [] [] journal follow = refl
follow_many d [] (a ∷ answers) journal follow = absurd follow
follow_many d (c ∷ scripts) [] journal follow = absurd follow
follow_many d (c ∷ scripts) (a ∷ answers) journal follow = ap suc (follow_many (d + 1) scripts answers journal follow.2)
