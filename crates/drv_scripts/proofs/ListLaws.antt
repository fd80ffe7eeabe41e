-- The lines of locks, of late clocks and of turns, one more.
use Rattle.std.proofs.Common.{◌≡◌, ℕ, zero, suc, ◌+◌, ◌-◌, ◌≤◌, ◌++◌, [], List, ap, sym, ◌∙◌, arith, append_assoc, append-nil}
use Rattle.std.specs.Option.{option_to_list}
use Rattle.clk_base.specs.Description.{Description}
use Rattle.drv_scripts.specs.ListLines.{lock_at, locks_of, late_at, late_of, turns_at, turns_of}
use Rattle.drv_scripts.proofs.Turns.{said_more, said_none}

-- no line states a lock
pub locks_none : (defs : Description) (ls : List (List ℕ)) (from : ℕ) → locks_of defs ls from (from - from) ≡ []
unfolding locks_of
locks_none defs ls from = said_none (lock_at defs ls) from

-- the lock of one line more
pub locks_more : (defs : Description) (ls : List (List ℕ)) (from k : ℕ) → from ≤ k → locks_of defs ls from (k + 1 - from) ≡ locks_of defs ls from (k - from) ++ option_to_list (lock_at defs ls k)
unfolding locks_of
locks_more defs ls from k low = said_more (lock_at defs ls) from k low

-- no line states a late clock
pub late_none : (defs : Description) (ls : List (List ℕ)) (from : ℕ) → late_of defs ls from (from - from) ≡ []
unfolding late_of
late_none defs ls from = said_none (late_at defs ls) from

-- the late clock of one line more
pub late_more : (defs : Description) (ls : List (List ℕ)) (from k : ℕ) → from ≤ k → late_of defs ls from (k + 1 - from) ≡ late_of defs ls from (k - from) ++ option_to_list (late_at defs ls k)
unfolding late_of
late_more defs ls from k low = said_more (late_at defs ls) from k low

-- no line states a turn
pub turns_none : (names ls : List (List ℕ)) (from : ℕ) → turns_of names ls from (from - from) ≡ []
unfolding turns_of
turns_none names ls from =
    let none : from - from ≡ 0 = omega arith in
    ap (turns_of names ls from) none

turns-next : (names ls : List (List ℕ)) (from count : ℕ) → turns_of names ls from (suc count) ≡ turns_of names ls from count ++ turns_at names ls (from + count)
unfolding turns_of
turns-next names ls from zero =
    let here : from + 0 ≡ from = omega arith in
    append-nil (turns_at names ls from) ∙ ap (turns_at names ls) (sym here)
turns-next names ls from (suc count) =
    let there : from + 1 + count ≡ from + suc count = omega arith in
    ap (λ (xs : List ℕ). turns_at names ls from ++ xs) (turns-next names ls (from + 1) count ∙ ap (λ (k : ℕ). turns_of names ls (from + 1) count ++ turns_at names ls k) there)
    ∙ sym (append_assoc (turns_at names ls from) (turns_of names ls (from + 1) count) (turns_at names ls (from + suc count)))

-- the turns of one line more
pub turns_more : (names ls : List (List ℕ)) (from k : ℕ) → from ≤ k → turns_of names ls from (k + 1 - from) ≡ turns_of names ls from (k - from) ++ turns_at names ls k
turns_more names ls from k low =
    let next : k + 1 - from ≡ suc (k - from) = omega arith in
    let there : from + (k - from) ≡ k = omega arith in
    ap (turns_of names ls from) next ∙ turns-next names ls from (k - from) ∙ ap (λ (j : ℕ). turns_of names ls from (k - from) ++ turns_at names ls j) there
