-- Passes end, and the lock is closed.
use Rattle.std.proofs.Common.{◌≡◌, ◌≢◌, ℕ, ◌+◌, ◌≤◌, Bool, true, false, cond, eqb, List, set, Option, Some, None, All, refl, sym, ap, ◌∙◌, subst, arith, eq-eqb, ne_eqb}
use Rattle.std.specs.Prelude.{sum_by, Contains}
use Rattle.std.proofs.lemmas.List.Elements.{All-push, All-weaker, All-contains}
use mathlib.Core.Option.{some, some-injective}
use lib.ListN.{get_elem?}
use Rattle.atomic_table.specs.Table.{State, Joins, Final, Seen}
use Rattle.tier_lock.specs.declared.view.View.{View}
use Rattle.tier_lock.specs.declared.view.Ended.{Ended}
use Rattle.tier_lock.specs.Entries.{Reading, AddsEnablesOnly, AreBelow}
use Rattle.tier_lock.specs.Turns.{Books, KeepsBaton, HasEnded, Fits, Rests, Holds, held_seen, held_fixed, spent}
use Rattle.tier_lock.specs.Steps.{with_ended, ended_of}
use Rattle.tier_lock.specs.Closing.{AllEnded, LeftIn, Closed}
use Rattle.tier_lock.proofs.Seats.{sum_set, sum_at}
use Rattle.tier_lock.proofs.Keeping.{off}
use Rattle.tier_lock.proofs.Joining.{other_was, fits_joined, held_joined}

-- the seats of numbers, without the number that ends
abbrev pub without_seat : (ℕ → Option ℕ) → ℕ → ℕ → Option ℕ
without_seat seat_of gone n = cond (eqb n gone) None (seat_of n)

without_seat_other : (seat_of : ℕ → Option ℕ) (gone n : ℕ) → n ≢ gone → without_seat seat_of gone n ≡ seat_of n
without_seat_other seat_of gone n apart = ap (λ (t : Bool). cond t None (seat_of n)) (ne_eqb n gone apart)

without_seat_here : (seat_of : ℕ → Option ℕ) (gone : ℕ) → without_seat seat_of gone gone ≡ None
without_seat_here seat_of gone = ap (λ (t : Bool). cond t None (seat_of gone)) (eq-eqb gone gone refl)

none_stays : (t : Bool) (o : Option ℕ) → o ≡ None → cond t None o ≡ None
none_stays true o e = refl
none_stays false o e = e

module _ {T E F : Type 0} (k : Reading T E F) (fixed : F) where
  abbrev ended_books : Books E → ℕ → Books E
  ended_books b gone = record b { seat_of = without_seat b.seat_of gone }

  ended_stay : (b : Books E) (gone : ℕ) (xs : List (Ended E F)) → All (λ x. HasEnded k fixed b.log b.seat_of b.made x) xs → All (λ x. HasEnded k fixed b.log (without_seat b.seat_of gone) b.made x) xs
  ended_stay b gone =
      All-weaker (λ x. HasEnded k fixed b.log b.seat_of b.made x) (λ x. HasEnded k fixed b.log (without_seat b.seat_of gone) b.made x)
      (λ x h. record { gone = none_stays (eqb x.number gone) (b.seat_of x.number) h.gone; below = h.below; mine = h.mine; front = h.front; fixed_is = h.fixed_is; counts = h.counts })

  -- a seat of another number
  fits_left : (b : Books E) (gone j other : ℕ) (u : View E F) → b.seat_of gone ≡ Some other → j ≢ other → Fits k fixed b j u → Fits k fixed (ended_books b gone) j u
  fits_left b gone j other u seated apart fit = record {
    front = fit.front;
    lives = λ live.
        let lives = fit.lives live in
        let not_gone : u.number ≢ gone = λ same. apart (let two : Some j ≡ Some other = sym lives.seated ∙ ap b.seat_of same ∙ seated in cc) in
        record {
          seated = without_seat_other b.seat_of gone u.number not_gone ∙ lives.seated;
          below = lives.below;
          mine = lives.mine;
          known = lives.known;
          fixed_is = lives.fixed_is;
          counts = lives.counts;
        };
    turn = fit.turn;
    baton = fit.baton;
    ended = ended_stay b gone u.ended fit.ended;
  }

  -- the baton, which keeps what the pass knew
  fits_keeper : (b : Books E) (id other : ℕ) (v w : View E F) → v.live ≡ false → v.turn ≡ false → w.live ≡ true → Fits k fixed b id v → Fits k fixed b other w
      → Fits k fixed (ended_books b w.number) id (with_ended v w)
  fits_keeper b id other v w dead idle live fit theirs =
      let lives = theirs.lives live in
      record {
        front = fit.front;
        lives = λ live'. off (sym dead ∙ live');
        turn = λ turn. off (sym idle ∙ turn);
        baton = λ has. record { seated = (fit.baton has).seated; behind = (fit.baton has).behind; fixed_is = (fit.baton has).fixed_is };
        ended = All-push (λ x. HasEnded k fixed b.log (without_seat b.seat_of w.number) b.made x) v.ended (ended_of w)
            (ended_stay b w.number v.ended fit.ended)
            record {
              gone = without_seat_here b.seat_of w.number;
              below = lives.below;
              mine = lives.mine;
              front = theirs.front;
              fixed_is = lives.fixed_is;
              counts = lives.counts;
            };
      }

  -- a pass ends: the baton takes in what it knew
  pub ends : (id : ℕ) (v : View E F) (other : ℕ) (w : View E F) → v.live ≡ false → v.turn ≡ false → w.live ≡ true → w.turn ≡ false
      → Joins (Holds k fixed) id v other w (with_ended v w) spent
  ends id v other w dead idle live idle' s h at apart there =
      let b = h.books in
      let both : View E F = with_ended v w in
      let was = other_was k fixed s.views id other both w apart there in
      let theirs = h.each other w was in
      let sums = sum_set (λ (u : View E F). u.room) s.views id v both at in
      let sums' = sum_set (λ (u : View E F). u.room) (set s.views id both) other w spent there in
      record {
        books = ended_books b w.number;
        word = h.word;
        free = h.free;
        held = λ taken. held_joined k fixed s.views id other v w both b.holder at there idle idle' (h.held taken);
        each = fits_joined k fixed (ended_books b w.number) s.views id other both
            (λ j u not_id not_other e. fits_left b w.number j other u (theirs.lives live).seated not_other (h.each j u e))
            (fits_keeper b id other v w dead idle live (h.each id v at) theirs);
        numbers = h.numbers;
        rooms = omega (arith, h.rooms, sums, sums');
      }

  -- what a log has of the passes that ended
  record ClosedAt (log : List E) (v : View E F) : Type 0 where
    passes : All (λ x. LeftIn k fixed log x) v.ended
    behind : AddsEnablesOnly k.prep v.seen log
    room : v.room + sum_by k.cost log ≤ k.most fixed

  -- nobody holds the turn any more, so the value is in the slot, and it is what the books say
  pub closes : (s : State (Option T) (View E F)) (id : ℕ) (v : View E F) (h : Holds k fixed s) → get_elem? s.views id ≡ some v → v.baton ≡ true → v.beside ≡ None → AllEnded v.ended
      → (rests : Rests k fixed s.homes h.books.log) × Closed k fixed v rests.value
  closes s id v h at has alone all = (
    rests,
    record {
      passes = now.passes;
      behind = now.behind;
      room = now.room;
      baton_fixed = subst (λ o. held_fixed o v.fixed ≡ Some fixed) alone keeps.fixed_is;
      value_fixed = rests.fixed_is;
    },
  )
    where
      b : Books E
      b = h.books

      fit : Fits k fixed b id v
      fit = h.each id v at

      keeps : KeepsBaton k fixed b.log b.keeper id v
      keeps = fit.baton has

      ended_at : (x : Ended E F) → Contains v.ended x → HasEnded k fixed b.log b.seat_of b.made x
      ended_at x in' = All-contains (λ x. HasEnded k fixed b.log b.seat_of b.made x) v.ended x fit.ended in'

      made_is : all.count ≡ b.made
      made_is = sym all.first.3 ∙ (ended_at all.first.0 all.first.1).counts all.first.2

      -- a live number would have ended
      none_live : (seat : ℕ) (u : View E F) → get_elem? s.views seat ≡ some u → u.live ≡ true → ⊥
      none_live seat u there live =
          let lives = (h.each seat u there).lives live in
          let low = lives.below in
          let x = all.others u.number (omega (arith, low, made_is)) in
          let gone = (ended_at x.0 x.1).gone in
          let two : Some seat ≡ None = sym lives.seated ∙ ap b.seat_of (sym x.2) ∙ gone in
          cc

      free : b.taken ≡ false
      free = elim b.taken as (λ t. b.taken ≡ t → t ≡ false) [ true ↦ (λ e. let u = h.held e in absurd (none_live b.holder u.view u.there ((h.each b.holder u.view u.there).turn u.turn).lives)) | false ↦ (λ e. refl) ] refl

      rests : Rests k fixed s.homes b.log
      rests = h.free free

      left : (x : Ended E F) → HasEnded k fixed b.log b.seat_of b.made x → LeftIn k fixed b.log x
      left x e = record { seen = e.front; mine = e.mine; numbers = (λ first. subst (λ n. AreBelow k.by n b.log) (sym (e.counts first)) h.numbers); fixed_is = e.fixed_is }

      room : v.room + sum_by k.cost b.log ≤ k.most fixed
      room = let at_most = sum_at (λ (u : View E F). u.room) s.views id v at in omega (arith, h.rooms, at_most)

      behind : AddsEnablesOnly k.prep v.seen b.log
      behind = subst (λ o. AddsEnablesOnly k.prep (held_seen o v.seen) b.log) alone keeps.behind

      here : ClosedAt b.log v
      here = record {
        passes = All-weaker (λ x. HasEnded k fixed b.log b.seat_of b.made x) (λ x. LeftIn k fixed b.log x) left v.ended fit.ended;
        behind = behind;
        room = room;
      }

      now : ClosedAt (k.entries rests.value) v
      now = subst (λ (l : List E). ClosedAt l v) (sym rests.entries_are) here

  -- the slot that comes back has the value
  pub record ClosedSlot (v : View E F) (slot : Option T) : Type 0 where
    pub value : T
    pub is : slot ≡ Some value
    pub closed : Closed k fixed v value

  pub closed_slot : (id : ℕ) (v : View E F) (ws : List ℕ) (xs : List (Option T)) (slot : Option T) → Final (Seen (Holds k fixed) id v) ws xs → v.baton ≡ true → v.beside ≡ None → AllEnded v.ended → get_elem? xs 0 ≡ some slot
      → ClosedSlot v slot
  closed_slot id v ws xs slot f has alone all at =
      let r = closes f.0 id v f.1.0 f.1.1 has alone all in
      let home : get_elem? f.0.homes 0 ≡ some (some (Some r.0.value)) = ap (λ hs. get_elem? hs 0) r.0.home in
      record { value = r.0.value; is = some-injective slot (Some r.0.value) (sym at ∙ f.4 0 (Some r.0.value) home); closed = r.1 }

  pub closed_value : (v : View E F) (slot : Option T) (value : T) → ClosedSlot v slot → slot ≡ Some value → Closed k fixed v value
  closed_value v slot value c is =
      let two : Some c.value ≡ Some value = sym c.is ∙ is in
      let same : c.value ≡ value = cc in
      subst (λ (x : T). Closed k fixed v x) same c.closed
