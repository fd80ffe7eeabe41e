-- Joining two seats keeps the rule: a baton is lent to a pass, and a pass ends.
use Rattle.std.proofs.Common.{◌≡◌, ◌≢◌, ℕ, true, false, List, set, Option, Some, None, refl, sym, ◌∙◌, subst, ⊎_elim, arith}
use Rattle.std.proofs.lemmas.List.Elements.{All-nil}
use mathlib.Core.Option.{some, none}
use lib.ListN.{get_elem?}
use Rattle.atomic_table.specs.Table.{Act, keeps, Allows, Joins, step, carried_after}
use Rattle.atomic_table.proofs.Lists.{at_set, set_else}
use Rattle.tier_lock.specs.declared.view.View.{View}
use Rattle.tier_lock.specs.declared.view.Lent.{Lent}
use Rattle.tier_lock.specs.Entries.{Reading, IsPrefix, AddsEnablesOnly, longer_of}
use Rattle.tier_lock.specs.Turns.{Books, HasEnded, Fits, Holder, Holds, held_seen, held_fixed, spent}
use Rattle.tier_lock.specs.Steps.{Settled, Settles, with_baton, settled}
use Rattle.tier_lock.proofs.Fronts.{Longer, nil_front, longer_fronts, enables_before, enables_behind, own_between}
use Rattle.tier_lock.proofs.Seats.{sum_set}
use Rattle.tier_lock.proofs.Keeping.{off, same_word, fits_set, held_set}

module _ {T E F : Type 0} (k : Reading T E F) (fixed : F) where
  fits_spent : (b : Books E) (seat : ℕ) → Fits k fixed b seat spent
  fits_spent b seat = record { front = nil_front b.log; lives = off; turn = off; baton = off; ended = All-nil (λ x. HasEnded k fixed b.log b.seat_of b.made x) }

  -- the view of the other seat, which the first change left
  pub other_was : (views : List (View E F)) (id other : ℕ) (both w : View E F) → other ≢ id → get_elem? (set views id both) other ≡ some w → get_elem? views other ≡ some w
  other_was views id other both w apart there = sym (set_else views id other both apart) ∙ there

  pub fits_joined : (b : Books E) (views : List (View E F)) (id other : ℕ) (both : View E F)
      → ((j : ℕ) (u : View E F) → j ≢ id → j ≢ other → get_elem? views j ≡ some u → Fits k fixed b j u)
      → Fits k fixed b id both
      → (j : ℕ) (u : View E F) → get_elem? (set (set views id both) other spent) j ≡ some u → Fits k fixed b j u
  fits_joined b views id other both others here j u e =
      ⊎_elim
      (λ (t : (j ≡ other) × (spent ≡ u)). subst (λ (x : View E F). Fits k fixed b j x) t.1 (fits_spent b j))
      (λ (t : (j ≢ other) × (get_elem? (set views id both) j ≡ some u)).
      ⊎_elim
      (λ (q : (j ≡ id) × (both ≡ u)). subst (λ i. Fits k fixed b i u) (sym q.0) (subst (λ (x : View E F). Fits k fixed b id x) q.1 here))
      (λ (q : (j ≢ id) × (get_elem? views j ≡ some u)). others j u q.0 t.0 q.1)
      (at_set views id j both u t.1))
      (at_set (set views id both) other j spent u e)

  -- a baton's view and a pass's are joined; neither is spent, and the baton holds no turn
  fits_lent : (b : Books E) (id other : ℕ) (v w : View E F) → w.baton ≡ true → w.beside ≡ None → Fits k fixed b id v → Fits k fixed b other w → Fits k fixed (record b { keeper = id }) id (with_baton v w)
  fits_lent b id other v w has alone fit theirs =
      let keeps = theirs.baton has in
      record {
        front = fit.front;
        lives = λ live.
            let lives = fit.lives live in
            record { seated = lives.seated; below = lives.below; mine = lives.mine; known = lives.known; fixed_is = lives.fixed_is; counts = lives.counts };
        turn = λ turn.
            let t = fit.turn turn in
            record { is_taken = t.is_taken; seated = t.seated; whole = t.whole; lives = t.lives };
        baton = λ _. record {
          seated = refl;
          behind = subst (λ o. AddsEnablesOnly k.prep (held_seen o w.seen) b.log) alone keeps.behind;
          fixed_is = subst (λ o. held_fixed o w.fixed ≡ Some fixed) alone keeps.fixed_is;
        };
        ended = fit.ended;
      }

  fits_third : (b : Books E) (id other j : ℕ) (u : View E F) → other ≡ b.keeper → j ≢ other → Fits k fixed b j u → Fits k fixed (record b { keeper = id }) j u
  fits_third b id other j u keeper apart fit = record { front = fit.front; lives = fit.lives; turn = fit.turn; baton = λ has. absurd (apart ((fit.baton has).seated ∙ sym keeper)); ended = fit.ended }

  pub held_joined : (views : List (View E F)) (id other : ℕ) (v w both : View E F) (seat : ℕ) → get_elem? views id ≡ some v → get_elem? (set views id both) other ≡ some w → v.turn ≡ false → w.turn ≡ false
      → Holder k fixed views seat → Holder k fixed (set (set views id both) other spent) seat
  held_joined views id other v w both seat at there idle idle' held =
      held_set k fixed (set views id both) other w spent seat there idle' (held_set k fixed views id v both seat at idle held)

  -- a pass gets the baton
  pub lends : (id : ℕ) (v : View E F) (other : ℕ) (w : View E F) → v.turn ≡ false → w.turn ≡ false → w.baton ≡ true → w.beside ≡ None → w.room ≡ 0
      → Joins (Holds k fixed) id v other w (with_baton v w) spent
  lends id v other w idle idle' has alone empty s h at apart there =
      let b = h.books in
      let both : View E F = with_baton v w in
      let was = other_was s.views id other both w apart there in
      let theirs = h.each other w was in
      let sums = sum_set (λ (u : View E F). u.room) s.views id v both at in
      let sums' = sum_set (λ (u : View E F). u.room) (set s.views id both) other w spent there in
      record {
        books = record b { keeper = id };
        word = h.word;
        free = h.free;
        held = λ taken. held_joined s.views id other v w both b.holder at there idle idle' (h.held taken);
        each = fits_joined (record b { keeper = id }) s.views id other both
            (λ j u not_id not_other e. fits_third b id other j u (theirs.baton has).seated not_other (h.each j u e))
            (fits_lent b id other v w has alone (h.each id v at) theirs);
        numbers = h.numbers;
        rooms = omega (arith, h.rooms, sums, sums', empty);
      }

  -- the load behind it: the longer list is a front of the log too
  fits_settled : (b : Books E) (id : ℕ) (v : View E F) (lent : Lent E F) → v.live ≡ true → v.turn ≡ false → v.baton ≡ true → v.beside ≡ Some lent
      → Longer v.seen lent.seen b.log (longer_of v.seen lent.seen) → Fits k fixed b id v → Fits k fixed b id (settled lent.seen v)
  fits_settled b id v lent live idle has beside longer fit =
      let lives = fit.lives live in
      let keeps = fit.baton has in
      let behind : AddsEnablesOnly k.prep lent.seen b.log = subst (λ o. AddsEnablesOnly k.prep (held_seen o v.seen) b.log) beside keeps.behind in
      record {
        front = longer.front;
        lives = λ _. record {
          seated = lives.seated;
          below = lives.below;
          mine = lives.mine;
          known = own_between k.by v.number v.seen (longer_of v.seen lent.seen) b.log longer.first longer.front (lives.mine ∙ sym lives.known) ∙ lives.known;
          fixed_is = lives.fixed_is;
          counts = lives.counts;
        };
        turn = λ turn. off (sym idle ∙ turn);
        baton = λ _. record {
          seated = keeps.seated;
          behind = enables_behind k.prep lent.seen (longer_of v.seen lent.seen) b.log behind longer.second longer.front;
          fixed_is = lives.fixed_is;
        };
        ended = fit.ended;
      }

  settles_one : (size id : ℕ) (v : View E F) (lent : Lent E F) (c : List (ℕ × Option T)) → v.live ≡ true → v.turn ≡ false → v.baton ≡ true → v.beside ≡ Some lent
      → Allows (Holds k fixed) size id (v, c) 0 (λ n. n) (λ found m'. Settled k v lent c m')
  settles_one size id v lent c live idle has beside s h slots at range =
      let b = h.books in
      let fit = h.each id v at in
      let lives = fit.lives live in
      let keeps = fit.baton has in
      let behind : AddsEnablesOnly k.prep lent.seen b.log = subst (λ o. AddsEnablesOnly k.prep (held_seen o v.seen) b.log) beside keeps.behind in
      let lent_fixed : lent.fixed ≡ Some fixed = subst (λ o. held_fixed o v.fixed ≡ Some fixed) beside keeps.fixed_is in
      let lent_front : IsPrefix lent.seen b.log = record { rest = behind.rest; whole = behind.whole } in
      let longer = longer_fronts v.seen lent.seen b.log fit.front lent_front in
      let m = longer_of v.seen lent.seen in
      let w : View E F = settled lent.seen v in
      let now = fits_settled b id v lent live idle has beside longer fit in
      let sums = sum_set (λ (u : View E F). u.room) s.views id v w at in (
        w,
        keeps_it,
        tt,
        subst (λ (ws : List ℕ). Holds k fixed record { words = ws; homes = s.homes; views = set s.views id w }) (sym (same_word s.words _ h.word)) record {
          books = b;
          word = h.word;
          free = h.free;
          held = λ taken. held_set k fixed s.views id v w b.holder at idle (h.held taken);
          each = fits_set k fixed b s.views id w (λ j u _ e. h.each j u e) now;
          numbers = h.numbers;
          rooms = omega (arith, h.rooms, sums);
        },
        record {
          seat = refl;
          seen = longer.first;
          lent_seen = longer.second;
          behind = enables_before k.prep lent.seen m b.log behind longer.second longer.front;
          known = (now.lives live).known;
          fixed = lives.fixed_is ∙ sym lent_fixed;
        },
      )
    where
      keeps_it : Act (Option T)
      keeps_it = keeps

  -- what a pass learns at the load behind a lend
  pub settles : (size id : ℕ) (v : View E F) (lent : Lent E F) (c : List (ℕ × Option T)) → v.live ≡ true → v.turn ≡ false → v.baton ≡ true → v.beside ≡ Some lent
      → Allows (Holds k fixed) size id (v, c) 0 (λ n. n) (Settles k (step size 0 0 0 none) (v, c))
  settles size id v lent c live idle has beside s h slots at range =
      let one = settles_one size id v lent c live idle has beside s h slots at range in (
        one.0,
        one.1,
        one.2,
        one.3,
        λ lent' beside'.
            let two : Some lent ≡ Some lent' = sym beside ∙ beside' in
            let same : lent ≡ lent' = cc in
            subst (λ (l : Lent E F). Settled k v l c (one.0, carried_after c one.1)) same one.4,
      )
