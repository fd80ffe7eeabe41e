-- Cutting a new pass, and the baton, off a pass keeps the rule.
use Rattle.std.proofs.Common.{◌≡◌, ◌≢◌, ℕ, ◌+◌, ◌<◌, ◌≤◌, Bool, true, false, cond, eqb, List, [], ◌∷◌, ◌++◌, length, set, Option, Some, None, All, refl, sym, ap, ◌∙◌, subst, ⊎_elim, arith, eq-eqb, ne_eqb}
use Rattle.std.proofs.lemmas.List.{length-set}
use Rattle.std.proofs.lemmas.List.Elements.{All-nil, All-weaker}
use Rattle.std.proofs.lemmas.List.Sums.{sum_by_push}
use mathlib.Core.Option.{some, none}
use lib.ListN.{get_elem?}
use Rattle.atomic_table.specs.Table.{keeps, Allows, Splits, step}
use Rattle.atomic_table.proofs.Lists.{at_longer}
use Rattle.tier_lock.specs.declared.view.View.{View}
use Rattle.tier_lock.specs.declared.view.Ended.{Ended}
use Rattle.tier_lock.specs.Entries.{Reading, own, IsPrefix, AddsEnablesOnly, AreBelow}
use Rattle.tier_lock.specs.Turns.{Books, HasEnded, Fits, Holder, Holds, held_seen, held_fixed, newcomer, loose}
use Rattle.tier_lock.specs.Steps.{Looks, with_less, without_baton}
use Rattle.tier_lock.proofs.Fronts.{own_none, own_between, nil_front}
use Rattle.tier_lock.proofs.Seats.{at_end, sum_set}
use Rattle.tier_lock.proofs.Keeping.{off, fits_set, held_set, stays}

-- the books of seats, with the number made at this seat
abbrev pub with_seat : (ℕ → Option ℕ) → ℕ → ℕ → ℕ → Option ℕ
with_seat seat_of made seat n = cond (eqb n made) (Some seat) (seat_of n)

with_seat_other : (seat_of : ℕ → Option ℕ) (made seat n : ℕ) → n < made → with_seat seat_of made seat n ≡ seat_of n
with_seat_other seat_of made seat n low = let apart : n ≢ made = (λ e. omega arith) in ap (λ (t : Bool). cond t (Some seat) (seat_of n)) (ne_eqb n made apart)

with_seat_here : (seat_of : ℕ → Option ℕ) (made seat n : ℕ) → n ≡ made → with_seat seat_of made seat n ≡ Some seat
with_seat_here seat_of made seat n e = ap (λ (t : Bool). cond t (Some seat) (seat_of n)) (eq-eqb n made e)

module _ {T E F : Type 0} (k : Reading T E F) (fixed : F) where
  -- the books after a split
  abbrev parted_books : Books E → ℕ → Books E
  parted_books b seat = record b { seat_of = with_seat b.seat_of b.made seat; made = b.made + 1 }

  -- numbers that ended stay so, and none of them is 0
  ended_parted : (b : Books E) (id seat : ℕ) → b.seat_of 0 ≡ Some id → (xs : List (Ended E F)) → All (λ x. HasEnded k fixed b.log b.seat_of b.made x) xs
      → All (λ x. HasEnded k fixed b.log (with_seat b.seat_of b.made seat) (b.made + 1) x) xs
  ended_parted b id seat first =
      All-weaker (λ x. HasEnded k fixed b.log b.seat_of b.made x) (λ x. HasEnded k fixed b.log (with_seat b.seat_of b.made seat) (b.made + 1) x)
      (λ x h. record {
        gone = with_seat_other b.seat_of b.made seat x.number h.below ∙ h.gone;
        below = let low = h.below in omega arith;
        mine = h.mine;
        front = h.front;
        fixed_is = h.fixed_is;
        counts = λ zero_is. (let two : Some id ≡ None = sym first ∙ ap b.seat_of (sym zero_is) ∙ h.gone in cc);
      })

  -- a seat with a number other than 0
  fits_beside : (b : Books E) (id j seat : ℕ) (u : View E F) → b.seat_of 0 ≡ Some id → j ≢ id → Fits k fixed b j u → Fits k fixed (parted_books b seat) j u
  fits_beside b id j seat u first apart fit = record {
    front = fit.front;
    lives = λ live.
        let lives = fit.lives live in
        record {
          seated = with_seat_other b.seat_of b.made seat u.number lives.below ∙ lives.seated;
          below = let low = lives.below in omega arith;
          mine = lives.mine;
          known = lives.known;
          fixed_is = lives.fixed_is;
          counts = λ zero_is. absurd (apart (let two : Some j ≡ Some id = sym lives.seated ∙ ap b.seat_of zero_is ∙ first in cc));
        };
    turn = fit.turn;
    baton = fit.baton;
    ended = ended_parted b id seat first u.ended fit.ended;
  }

  -- number 0 itself
  fits_parent : (b : Books E) (id seat room : ℕ) (v : View E F) → v.live ≡ true → v.number ≡ 0 → v.turn ≡ false → Fits k fixed b id v → Fits k fixed (parted_books b seat) id (with_less room v)
  fits_parent b id seat room v live first idle fit =
      let lives = fit.lives live in
      let seated : b.seat_of 0 ≡ Some id = ap b.seat_of (sym first) ∙ lives.seated in
      record {
        front = fit.front;
        lives = λ _. record {
          seated = with_seat_other b.seat_of b.made seat v.number lives.below ∙ lives.seated;
          below = let low = lives.below in omega arith;
          mine = lives.mine;
          known = lives.known;
          fixed_is = lives.fixed_is;
          counts = λ zero_is. let is = lives.counts first in omega arith;
        };
        turn = λ turn. off (sym idle ∙ turn);
        baton = λ has. record { seated = (fit.baton has).seated; behind = (fit.baton has).behind; fixed_is = (fit.baton has).fixed_is };
        ended = ended_parted b id seat seated v.ended fit.ended;
      }

  -- the new pass, whose number has no entry yet
  fits_newcomer : (b : Books E) (id seat room : ℕ) (v : View E F) → v.live ≡ true → v.number ≡ 0 → AreBelow k.by b.made b.log → Fits k fixed b id v → Fits k fixed (parted_books b seat) seat (newcomer room v)
  fits_newcomer b id seat room v live first numbers fit =
      let lives = fit.lives live in
      let next : v.made ≡ b.made = lives.counts first in
      let none_made : own k.by v.made b.log ≡ [] = own_none k.by v.made b.made b.log (omega arith) numbers in
      record {
        front = fit.front;
        lives = λ _. record {
          seated = with_seat_here b.seat_of b.made seat v.made next;
          below = omega arith;
          mine = none_made;
          known = none_seen v.made b.log v.seen fit.front none_made;
          fixed_is = lives.fixed_is;
          counts = λ zero_is. let low = lives.below in absurd (omega arith);
        };
        turn = off;
        baton = off;
        ended = All-nil (λ x. HasEnded k fixed b.log (with_seat b.seat_of b.made seat) (b.made + 1) x);
      }
    where
      none_seen : (n : ℕ) (log seen : List E) → IsPrefix seen log → own k.by n log ≡ [] → own k.by n seen ≡ []
      none_seen n log seen front none_made = own_between k.by n [] seen log (nil_front seen) front none_made

  -- the two views, one behind the other
  fits_two : (b : Books E) (views : List (View E F)) (id : ℕ) (v left right : View E F) → get_elem? views id ≡ some v
      → ((j : ℕ) (u : View E F) → j ≢ id → get_elem? views j ≡ some u → Fits k fixed b j u)
      → Fits k fixed b id left → Fits k fixed b (length views) right
      → (j : ℕ) (u : View E F) → get_elem? (set views id left ++ right ∷ []) j ≡ some u → Fits k fixed b j u
  fits_two b views id v left right at others here new j u e =
      ⊎_elim
      (λ (t : get_elem? (set views id left) j ≡ some u). fits_set k fixed b views id left others here j u t)
      (λ (t : (right ≡ u) × (j ≡ length (set views id left))).
      subst (λ i. Fits k fixed b i u) (sym (t.1 ∙ length-set views id left)) (subst (λ (x : View E F). Fits k fixed b (length views) x) t.0 new))
      (at_end (set views id left) right u j e)

  held_two : (views : List (View E F)) (id : ℕ) (v left right : View E F) (seat : ℕ) → get_elem? views id ≡ some v → v.turn ≡ false → Holder k fixed views seat → Holder k fixed (set views id left ++ right ∷ []) seat
  held_two views id v left right seat at idle held =
      let h = held_set k fixed views id v left seat at idle held in
      record { view = h.view; there = at_longer (set views id left) (right ∷ []) seat h.view h.there; turn = h.turn }

  -- number 0 makes the next pass, and gives it room
  pub parts : (id room : ℕ) (v : View E F) → v.live ≡ true → v.number ≡ 0 → v.turn ≡ false → room ≤ v.room → Splits (Holds k fixed) id v (with_less room v) (newcomer room v)
  parts id room v live first idle fits s h at =
      let b = h.books in
      let fit = h.each id v at in
      let lives = fit.lives live in
      let seat = length s.views in
      let left : View E F = with_less room v in
      let right : View E F = newcomer room v in
      let seated : b.seat_of 0 ≡ Some id = ap b.seat_of (sym first) ∙ lives.seated in
      let sums = sum_set (λ (u : View E F). u.room) s.views id v left at in
      let sums' = sum_by_push (λ (u : View E F). u.room) (set s.views id left) right in
      record {
        books = parted_books b seat;
        word = h.word;
        free = h.free;
        held = λ taken. held_two s.views id v left right b.holder at idle (h.held taken);
        each = fits_two (parted_books b seat) s.views id v left right at
            (λ j u apart e. fits_beside b id j seat u seated apart (h.each j u e))
            (fits_parent b id seat room v live first idle fit)
            (fits_newcomer b id seat room v live first h.numbers fit);
        numbers = All-weaker (λ e. k.by e < b.made) (λ e. k.by e < b.made + 1) (λ e low. omega arith) b.log h.numbers;
        rooms = omega (arith, h.rooms, sums, sums', fits);
      }

  -- a new pass learns that it has seen no entry of its own
  pub looks : (size id : ℕ) (v : View E F) (c : List (ℕ × Option T)) → v.live ≡ true → Allows (Holds k fixed) size id (v, c) 0 (λ n. n) (Looks k (step size 0 0 0 none) (v, c))
  looks size id v c live s h slots at range = (v, keeps, tt, stays k fixed s id v h at, record { same = refl; known = ((h.each id v at).lives live).known })

  -- a seat other than the one that gives the baton away
  fits_unbatoned : (b : Books E) (id j seat : ℕ) (u : View E F) → id ≡ b.keeper → j ≢ id → Fits k fixed b j u → Fits k fixed (record b { keeper = seat }) j u
  fits_unbatoned b id j seat u keeper apart fit = record { front = fit.front; lives = fit.lives; turn = fit.turn; baton = λ has. absurd (apart ((fit.baton has).seated ∙ sym keeper)); ended = fit.ended }

  fits_without : (b : Books E) (id seat : ℕ) (v : View E F) → v.turn ≡ false → Fits k fixed b id v → Fits k fixed (record b { keeper = seat }) id (without_baton v)
  fits_without b id seat v idle fit = record {
    front = fit.front;
    lives = λ live.
        let lives = fit.lives live in
        record { seated = lives.seated; below = lives.below; mine = lives.mine; known = lives.known; fixed_is = lives.fixed_is; counts = lives.counts };
    turn = λ turn. off (sym idle ∙ turn);
    baton = off;
    ended = fit.ended;
  }

  fits_loose : (b : Books E) (id seat : ℕ) (v : View E F) → v.baton ≡ true → v.beside ≡ None → Fits k fixed b id v → Fits k fixed (record b { keeper = seat }) seat (loose v)
  fits_loose b id seat v has alone fit =
      let keeps = fit.baton has in
      record {
        front = fit.front;
        lives = off;
        turn = off;
        baton = λ _. record {
          seated = refl;
          behind = subst (λ o. AddsEnablesOnly k.prep (held_seen o v.seen) b.log) alone keeps.behind;
          fixed_is = subst (λ o. held_fixed o v.fixed ≡ Some fixed) alone keeps.fixed_is;
        };
        ended = All-nil (λ x. HasEnded k fixed b.log b.seat_of b.made x);
      }

  -- a pass gives the baton away
  pub looses : (id : ℕ) (v : View E F) → v.baton ≡ true → v.beside ≡ None → v.turn ≡ false → Splits (Holds k fixed) id v (without_baton v) (loose v)
  looses id v has alone idle s h at =
      let b = h.books in
      let fit = h.each id v at in
      let seat = length s.views in
      let left : View E F = without_baton v in
      let right : View E F = loose v in
      let sums = sum_set (λ (u : View E F). u.room) s.views id v left at in
      let sums' = sum_by_push (λ (u : View E F). u.room) (set s.views id left) right in
      record {
        books = record b { keeper = seat };
        word = h.word;
        free = h.free;
        held = λ taken. held_two s.views id v left right b.holder at idle (h.held taken);
        each = fits_two (record b { keeper = seat }) s.views id v left right at
            (λ j u apart e. fits_unbatoned b id j seat u (fit.baton has).seated apart (h.each j u e))
            (fits_without b id seat v idle fit)
            (fits_loose b id seat v has alone fit);
        numbers = h.numbers;
        rooms = omega (arith, h.rooms, sums, sums');
      }
