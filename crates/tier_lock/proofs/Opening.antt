-- A new table is under the lock's rule.
use Rattle.std.proofs.Common.{◌≡◌, ℕ, zero, suc, ◌<◌, false, cond, eqb, List, [], ◌∷◌, Option, Some, None, refl, sym, subst, arith}
use Rattle.std.proofs.lemmas.List.Elements.{All-nil}
use mathlib.Core.Option.{some, some-injective, some-ne-none}
use lib.ListN.{get_elem?}
use Rattle.atomic_table.specs.Table.{opening}
use Rattle.tier_lock.specs.declared.view.View.{View}
use Rattle.tier_lock.specs.Entries.{Reading}
use Rattle.tier_lock.specs.Turns.{Books, HasEnded, Fits, Holds, first_pass}
use Rattle.tier_lock.proofs.Fronts.{nil_front, enables_none}
use Rattle.tier_lock.proofs.Keeping.{off}

module _ {T E F : Type 0} (k : Reading T E F) (value : T) where
  -- number 0 sits at the first seat
  abbrev seat_of_first : ℕ → Option ℕ
  seat_of_first n = cond (eqb n 0) (Some 0) None

  abbrev new_books : Books E
  new_books = record { log = []; taken = false; holder = 0; seat_of = seat_of_first; keeper = 0; made = 1 }

  fits_first : Fits k (k.fixed value) new_books 0 (first_pass (k.fixed value) (k.most (k.fixed value)))
  fits_first = record {
    front = nil_front [];
    lives = λ _. record { seated = refl; below = omega arith; mine = refl; known = refl; fixed_is = refl; counts = λ _. refl };
    turn = off;
    baton = λ _. record { seated = refl; behind = enables_none k.prep [] [] refl; fixed_is = refl };
    ended = All-nil (λ x. HasEnded k (k.fixed value) [] seat_of_first 1 x);
  }

  opens_with : k.entries value ≡ [] → Holds k (k.fixed value) (opening (0 ∷ []) (Some value ∷ []) (first_pass (k.fixed value) (k.most (k.fixed value))))
  opens_with empty = record {
    books = new_books;
    word = refl;
    free = λ _. record { value = value; home = refl; entries_are = empty; fixed_is = refl };
    held = off;
    each = one;
    numbers = All-nil (λ e. k.by e < 1);
    rooms = omega arith;
  }
    where
      one : (seat : ℕ) (v : View E F) → get_elem? (first_pass (k.fixed value) (k.most (k.fixed value)) ∷ []) seat ≡ some v → Fits k (k.fixed value) new_books seat v
      one zero v e = subst (λ (x : View E F). Fits k (k.fixed value) new_books 0 x) (some-injective _ _ e) fits_first
      one (suc seat) v e = absurd (some-ne-none v (sym e))

  pub opens : (items : List (Option T)) (key : T) → items ≡ Some value ∷ [] → key ≡ value → k.entries value ≡ [] → Holds k (k.fixed key) (opening (0 ∷ []) items (first_pass (k.fixed key) (k.most (k.fixed key))))
  opens items key is same empty =
      subst (λ (l : List (Option T)). Holds k (k.fixed key) (opening (0 ∷ []) l (first_pass (k.fixed key) (k.most (k.fixed key))))) (sym is)
      (subst (λ (x : T). Holds k (k.fixed x) (opening (0 ∷ []) (Some value ∷ []) (first_pass (k.fixed x) (k.most (k.fixed x))))) (sym same) (opens_with empty))
