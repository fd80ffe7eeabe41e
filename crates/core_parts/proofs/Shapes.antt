-- What the parts of a core say of each clock and each handle.
use Rattle.std.proofs.Common.{◌≡◌, ℕ, zero, suc, ◌+◌, ◌<◌, ◌≤◌, ◌||◌, true, false, List, [], ◌∷◌, ◌++◌, Option, Some, None, ap, ◌⊎◌, inl, inr, arith, length, set, nat_lt}
use Rattle.std.proofs.lemmas.List.Sums.{sum_by-cons}
use Rattle.std.proofs.lemmas.Bool.Decides.{nat_tests}
use Rattle.std.specs.Prelude.{sum_by}
use Rattle.clk_base.specs.Description.{Description}
use Rattle.clk_base.specs.Valid.{IsValid}
use Rattle.clk_base.proofs.Valid.{gate-within, gates-once}
use Rattle.clk_model.specs.declared.row.ClockRow.{ClockRow}
use Rattle.clk_model.specs.declared.row.HandleRow.{HandleRow}
use Rattle.clk_model.specs.Lists.{is_in, present, count_from}
use Rattle.clk_model.specs.State.{registered, link_in, handle_at}
use Rattle.clk_model.specs.Begin.{holds_something}
use Rattle.clk_model.proofs.Members.{count_from-below, not_either}
use Rattle.clk_model.proofs.GateLaws.{GatesLie}
use Rattle.clk_tree.specs.TreeState.{IsTree}
use Rattle.clk_model.proofs.StateLaws.{registered_lt}

-- ---- clocks

-- a registered clock is a clock of the description
pub registered_lies : (defs : Description) (clocks : List ClockRow) (order rates : List ℕ) (c : ℕ) → IsTree defs clocks order rates → registered clocks c ≡ true → c < length defs
registered_lies defs clocks order rates c tree there =
    let below : c < length clocks = registered_lt clocks c there in
    let len = tree.rows in omega arith

-- and so is the parent that a clock is attached to
pub link_lies : (defs : Description) (clocks : List ClockRow) (order rates : List ℕ) (c p : ℕ) → IsTree defs clocks order rates → link_in clocks c ≡ Some p → p < length defs
link_lies defs clocks order rates c p tree e = registered_lies defs clocks order rates p tree (tree.links c p e)

-- the gates of all clocks lie in the bank, and no two have one bit
pub gates_lie : (words : ℕ) (defs : Description) → IsValid words defs → GatesLie defs (count_from 0 (length defs)) words
gates_lie words defs valid = record {
  within = λ c gate m e. gate-within words defs valid c gate (below c m) e;
  apart = λ c d gate other m n e f word bit. gates-once words defs valid d c other gate (below d n) (below c m) f e word bit;
} where
  below : (c : ℕ) → is_in c (count_from 0 (length defs)) ≡ true → c < length defs
  below c m = let lt : c < 0 + length defs = count_from-below c 0 (length defs) m in omega arith

-- ---- handles

-- a handle that is put, or none, is where it was put, and each other stays
pub handle_at-put : (handles : List (Option HandleRow)) (n : ℕ) (o : Option HandleRow) (k : ℕ) (h : HandleRow) → handle_at (set handles n o) k ≡ Some h
    → (o ≡ Some h) ⊎ (handle_at handles k ≡ Some h)
handle_at-put [] n o k h at = inr at
handle_at-put (p ∷ handles) zero o zero h at = inl at
handle_at-put (p ∷ handles) zero o (suc k) h at = inr at
handle_at-put (p ∷ handles) (suc n) o zero h at = inr at
handle_at-put (p ∷ handles) (suc n) o (suc k) h at = handle_at-put handles n o k h at

-- and one that is put behind them
pub handle_at-append : (handles : List (Option HandleRow)) (new : HandleRow) (k : ℕ) (h : HandleRow) → handle_at (handles ++ Some new ∷ []) k ≡ Some h
    → (h ≡ new) ⊎ (handle_at handles k ≡ Some h)
handle_at-append [] new zero h at = inl cc
handle_at-append [] new (suc k) h at = absurd cc
handle_at-append (o ∷ handles) new zero h at = inr at
handle_at-append (o ∷ handles) new (suc k) h at = handle_at-append handles new k h at

-- what a handle counts is a part of the sum, and a change of it is a change of the sum
pub sum_by-set : (count : HandleRow → ℕ) (handles : List (Option HandleRow)) (n : ℕ) (old new : HandleRow) → handle_at handles n ≡ Some old
    → sum_by count (present (set handles n (Some new))) + count old ≡ sum_by count (present handles) + count new
sum_by-set count [] n old new at = absurd cc
sum_by-set count (None ∷ handles) zero old new at = absurd cc
sum_by-set count (Some h ∷ handles) zero old new at =
    let is : count h ≡ count old = ap count (the_same h old at) in
    let one = sum_by-cons count new (present handles) in
    let two = sum_by-cons count h (present handles) in
    omega arith where
      the_same : (h old : HandleRow) → Some h ≡ Some old → h ≡ old
      the_same h old at = cc
sum_by-set count (None ∷ handles) (suc n) old new at = sum_by-set count handles n old new at
sum_by-set count (Some h ∷ handles) (suc n) old new at =
    let rest = sum_by-set count handles n old new at in
    let one = sum_by-cons count h (present (set handles n (Some new))) in
    let two = sum_by-cons count h (present handles) in
    omega arith

-- without it the sum is less by that
pub sum_by-gone : (count : HandleRow → ℕ) (handles : List (Option HandleRow)) (n : ℕ) (old : HandleRow) → handle_at handles n ≡ Some old
    → sum_by count (present (set handles n None)) + count old ≡ sum_by count (present handles)
sum_by-gone count [] n old at = absurd cc
sum_by-gone count (None ∷ handles) zero old at = absurd cc
sum_by-gone count (Some h ∷ handles) zero old at =
    let is : count h ≡ count old = ap count (the_same h old at) in
    let one = sum_by-cons count h (present handles) in
    omega arith where
      the_same : (h old : HandleRow) → Some h ≡ Some old → h ≡ old
      the_same h old at = cc
sum_by-gone count (None ∷ handles) (suc n) old at = sum_by-gone count handles n old at
sum_by-gone count (Some h ∷ handles) (suc n) old at =
    let rest = sum_by-gone count handles n old at in
    let one = sum_by-cons count h (present (set handles n None)) in
    let two = sum_by-cons count h (present handles) in
    omega arith

pub count-le : (count : HandleRow → ℕ) (handles : List (Option HandleRow)) (n : ℕ) (h : HandleRow) → handle_at handles n ≡ Some h → count h ≤ sum_by count (present handles)
count-le count [] n h at = absurd cc
count-le count (None ∷ handles) zero h at = absurd cc
count-le count (Some g ∷ handles) zero h at =
    let is : count g ≡ count h = ap count (the_same g h at) in
    let one = sum_by-cons count g (present handles) in
    omega arith where
      the_same : (h old : HandleRow) → Some h ≡ Some old → h ≡ old
      the_same h old at = cc
count-le count (None ∷ handles) (suc n) h at = count-le count handles n h at
count-le count (Some g ∷ handles) (suc n) h at =
    let rest = count-le count handles n h at in
    let one = sum_by-cons count g (present handles) in
    omega arith

pub sum_by-append : (count : HandleRow → ℕ) (handles : List (Option HandleRow)) (new : HandleRow) → sum_by count (present (handles ++ Some new ∷ [])) ≡ sum_by count (present handles) + count new
sum_by-append count [] new = let one = sum_by-cons count new [] in omega arith
sum_by-append count (None ∷ handles) new = sum_by-append count handles new
sum_by-append count (Some g ∷ handles) new =
    let rest = sum_by-append count handles new in
    let one = sum_by-cons count g (present (handles ++ Some new ∷ [])) in
    let two = sum_by-cons count g (present handles) in
    omega arith

-- a handle that holds nothing
pub record HoldsNothing (row : HandleRow) : Type 0 where
  pub prepares : row.prepares ≡ 0
  pub enables : row.enables ≡ 0
  pub exclusives : row.exclusives ≡ 0

pub holds_nothing : (row : HandleRow) → holds_something row ≡ false → HoldsNothing row
holds_nothing row free =
    let one = not_either (nat_lt 0 row.prepares || nat_lt 0 row.enables) (nat_lt 0 row.exclusives) free in
    let two = not_either (nat_lt 0 row.prepares) (nat_lt 0 row.enables) one.0 in
    record { prepares = none row.prepares two.0; enables = none row.enables two.1; exclusives = none row.exclusives one.1 } where
      none : (k : ℕ) → nat_lt 0 k ≡ false → k ≡ 0
      none k e = grind (arith, nat_tests)
