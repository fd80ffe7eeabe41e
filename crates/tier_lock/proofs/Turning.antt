-- The steps of one turn keep the rule: a take that wins, and both ways to give.
use Rattle.std.proofs.Common.{◌≡◌, ◌≢◌, ℕ, ◌+◌, ◌-◌, ◌*◌, ◌%◌, ◌^◌, ◌<◌, ◌≤◌, Bool, true, false, true≢false, List, [], ◌∷◌, ◌++◌, length, Option, Some, None, All, refl, sym, ap, ◌∙◌, subst, arith, length-append}
use Rattle.std.specs.Prelude.{slice_index, ◌==◌, sum_by}
use Rattle.std.proofs.lemmas.List.Elements.{All-push, All-weaker}
use Rattle.std.proofs.lemmas.List.Sums.{sum_by_push}
use Rattle.std.proofs.Math.Nat.{mod-eq_of_lt}
use mathlib.Core.Option.{some, none}
use lib.ListN.{get_elem?}
use prog.Atomic.{either}
use Rattle.atomic_table.specs.Table.{State, Act, takes, gives, keeps, Allows, Valid, stepped, carried_after, step}
use Rattle.atomic_table.proofs.Lists.{exchanged, set_here}
use Rattle.tier_lock.specs.declared.view.View.{View}
use Rattle.tier_lock.specs.declared.view.Ended.{Ended}
use Rattle.tier_lock.specs.Entries.{Reading, own, AddsEnablesOnly, AreBelow}
use Rattle.tier_lock.specs.Turns.{Books, HasEnded, Fits, Holds, bit, held_seen}
use Rattle.tier_lock.specs.Steps.{Shown, Wins, Gives, GivesBack, with_turn, with_entry, without_turn}
use Rattle.tier_lock.proofs.Fronts.{same_last, front_same, front_push, enables_none, enables_push, own_push, own_other}
use Rattle.tier_lock.proofs.Seats.{at_below, sum_set, sum_at}
use Rattle.tier_lock.proofs.Keeping.{off, free_word, one_word, word_after, one_slot, fits_set, stays}

module _ {T E F : Type 0} (k : Reading T E F) (fixed : F) where
  -- while nobody holds the turn, a pass that fits sees the whole log in the value
  shows : (b : Books E) (id : ℕ) (v : View E F) (views : List (View E F)) → v.live ≡ true → v.beside ≡ None → Fits k fixed b id v
      → get_elem? views id ≡ some v → AreBelow k.by b.made b.log → sum_by (λ (u : View E F). u.room) views + sum_by k.cost b.log ≡ k.most fixed
      → Shown k v b.log fixed
  shows b id v views live alone fit at numbers rooms =
      let lives = fit.lives live in
      let room = sum_at (λ (u : View E F). u.room) views id v at in
      record {
        seen = fit.front;
        fixed_is = lives.fixed_is;
        mine = lives.mine;
        room = omega arith;
        numbers = λ first. subst (λ n. AreBelow k.by n b.log) (sym (lives.counts first)) numbers;
        baton = λ has. subst (λ o. AddsEnablesOnly k.prep (held_seen o v.seen) b.log) alone (fit.baton has).behind;
      }

  fits_taken : (b : Books E) (id j : ℕ) (u : View E F) → b.taken ≡ false → Fits k fixed b j u → Fits k fixed (record b { taken = true; holder = id }) j u
  fits_taken b id j u free fit = record {
    front = fit.front;
    lives = fit.lives;
    turn = λ has. absurd (true≢false (sym (fit.turn has).is_taken ∙ free));
    baton = fit.baton;
    ended = fit.ended;
  }

  -- the winner fits, with all of the log
  fits_winner : (b : Books E) (id : ℕ) (v : View E F) (log : List E) → v.live ≡ true → v.beside ≡ None → log ≡ b.log → Fits k fixed b id v → Fits k fixed (record b { taken = true; holder = id }) id (with_turn log v)
  fits_winner b id v log live alone same fit =
      let lives = fit.lives live in
      record {
        front = front_same log b.log (sym same);
        lives = λ _. record {
          seated = lives.seated;
          below = lives.below;
          mine = lives.mine;
          known = ap (λ l. own k.by v.number l) same ∙ lives.mine;
          fixed_is = lives.fixed_is;
          counts = lives.counts;
        };
        turn = λ _. record { is_taken = refl; seated = refl; whole = same; lives = live };
        baton = λ has. record {
          seated = (fit.baton has).seated;
          behind = subst (λ o. AddsEnablesOnly k.prep (held_seen o log) b.log) (sym alone) (enables_none k.prep log b.log (sym same));
          fixed_is = (fit.baton has).fixed_is;
        };
        ended = fit.ended;
      }

  wins_free : (named : Option F) → named ≡ Some fixed → (size id : ℕ) (v : View E F) (word : ℕ) → v.live ≡ true → v.beside ≡ None → word % 2 ≡ 0
      → Allows (Holds k fixed) size id (v, []) 0 (λ n. either (n == word) (word + 1) n) (Wins k named (step size 0 word (word + 1) none) (v, []))
  wins_free named told size id v word live alone even s h slots at range =
      exchanged n word (word + 1) (λ x. (w : View E F) × (a : Act (Option T)) × Valid s.homes [] a × Holds k fixed (stepped s 0 x id [] w a) × Wins k named (step size 0 word (word + 1) none) (v, []) n (w, carried_after [] a)) hit miss
    where
      n : ℕ
      n = slice_index s.words 0

      b : Books E
      b = h.books

      fit : Fits k fixed b id v
      fit = h.each id v at

      n_is : n ≡ 2 * length b.log + bit b.taken
      n_is = one_word s.words _ h.word

      miss : n ≢ word → (w : View E F) × (a : Act (Option T)) × Valid s.homes [] a × Holds k fixed (stepped s 0 n id [] w a) × Wins k named (step size 0 word (word + 1) none) (v, []) n (w, carried_after [] a)
      miss apart = (v, keeps, tt, stays k fixed s id v h at, record { won = λ e. absurd (apart e); lost = λ _. refl })

      hit : n ≡ word → (w : View E F) × (a : Act (Option T)) × Valid s.homes [] a × Holds k fixed (stepped s 0 (word + 1) id [] w a) × Wins k named (step size 0 word (word + 1) none) (v, []) n (w, carried_after [] a)
      hit same =
          let free : b.taken ≡ false = free_word (length b.log) b.taken n n_is (ap (λ x. x % 2) same ∙ even) in
          let rests = h.free free in
          let w : View E F = with_turn (k.entries rests.value) v in
          let sums = sum_set (λ (u : View E F). u.room) s.views id v w at in
          let zero_bit : bit b.taken ≡ 0 = ap bit free in
          let shown = shows b id v s.views live alone fit at h.numbers h.rooms in (
            w,
            takes 0 (Some rests.value),
            ap (λ hs. get_elem? hs 0) rests.home,
            record {
              books = record b { taken = true; holder = id };
              word = word_after s.words _ (word + 1) (2 * length b.log + 1) h.word (omega (arith, n_is, zero_bit, same));
              free = λ e. absurd (true≢false e);
              held = λ _. record { view = w; there = set_here s.views id w (at_below s.views id v at); turn = refl };
              each = fits_set k fixed (record b { taken = true; holder = id }) s.views id w
                  (λ j u _ e. fits_taken b id j u free (h.each j u e))
                  (fits_winner b id v (k.entries rests.value) live alone rests.entries_are fit);
              numbers = h.numbers;
              rooms = omega (arith, h.rooms, sums);
            },
            record {
              won = λ _. record {
                value = rests.value;
                seat = refl;
                shown = subst (λ (l : List E). Shown k v l (k.fixed rests.value)) (sym rests.entries_are) (subst (λ (f : F). Shown k v b.log f) (sym rests.fixed_is) shown);
                fixed_is = told ∙ ap (λ f. Some f) (sym rests.fixed_is);
              };
              lost = λ apart. absurd (apart same);
            },
          )

  -- an even word becomes odd, and the value goes to the pass
  pub wins : (named : Option F) → named ≡ Some fixed → (size id : ℕ) (v : View E F) (c : List (ℕ × Option T)) (word : ℕ) → c ≡ [] → v.live ≡ true → v.beside ≡ None → word % 2 ≡ 0
      → Allows (Holds k fixed) size id (v, c) 0 (λ n. either (n == word) (word + 1) n) (Wins k named (step size 0 word (word + 1) none) (v, c))
  wins named told size id v c word empty live alone even =
      subst (λ (c : List (ℕ × Option T)). Allows (Holds k fixed) size id (v, c) 0 (λ n. either (n == word) (word + 1) n) (Wins k named (step size 0 word (word + 1) none) (v, c))) (sym empty) (wins_free named told size id v word live alone even)

  -- what a pass in its turn knows of the books
  record InTurn (b : Books E) (id : ℕ) (v : View E F) (fit : Fits k fixed b id v) : Type 0 where
    taken : b.taken ≡ true
    holder : id ≡ b.holder
    whole : v.seen ≡ b.log

  in_turn : (b : Books E) (id : ℕ) (v : View E F) (fit : Fits k fixed b id v) → v.turn ≡ true → InTurn b id v fit
  in_turn b id v fit turn = let t = fit.turn turn in record { taken = t.is_taken; holder = t.seated; whole = t.whole }

  odd_word : (s : State (Option T) (View E F)) (h : Holds k fixed s) → h.books.taken ≡ true → slice_index s.words 0 ≡ 2 * length h.books.log + 1
  odd_word s h taken = one_word s.words _ h.word ∙ ap (λ t. 2 * length h.books.log + bit t) taken

  -- numbers that ended stay so, and the entry is of none of them
  ended_added : (b : Books E) (id : ℕ) (n : ℕ) (e : E) → b.seat_of n ≡ Some id → k.by e ≡ n → (xs : List (Ended E F))
      → All (λ x. HasEnded k fixed b.log b.seat_of b.made x) xs → All (λ x. HasEnded k fixed (b.log ++ e ∷ []) b.seat_of b.made x) xs
  ended_added b id n e seated by_n =
      All-weaker (λ x. HasEnded k fixed b.log b.seat_of b.made x) (λ x. HasEnded k fixed (b.log ++ e ∷ []) b.seat_of b.made x)
      (λ x h.
      let other : k.by e ≢ x.number = λ same. (let two : Some id ≡ None = sym seated ∙ ap b.seat_of (sym by_n ∙ same) ∙ h.gone in cc) in
      record {
        gone = h.gone;
        below = h.below;
        mine = own_other k.by x.number b.log e other ∙ h.mine;
        front = front_push x.seen b.log e h.front;
        fixed_is = h.fixed_is;
        counts = h.counts;
      })

  -- another seat than the one whose turn ends, where the log gets the entry e of the number n
  fits_added : (b : Books E) (id j : ℕ) (n : ℕ) (e : E) (u : View E F) → b.seat_of n ≡ Some id → k.by e ≡ n → (k.prep e ≡ true → id ≡ b.keeper) → b.holder ≡ id → j ≢ id
      → Fits k fixed b j u → Fits k fixed (record b { log = b.log ++ e ∷ []; taken = false }) j u
  fits_added b id j n e u seated by_n tier holder apart fit = record {
    front = front_push u.seen b.log e fit.front;
    lives = λ live.
        let lives = fit.lives live in
        let other : k.by e ≢ u.number = λ same. apart (let two : Some j ≡ Some id = sym lives.seated ∙ ap b.seat_of (sym same ∙ by_n) ∙ seated in cc) in
        record {
          seated = lives.seated;
          below = lives.below;
          mine = own_other k.by u.number b.log e other ∙ lives.mine;
          known = lives.known;
          fixed_is = lives.fixed_is;
          counts = lives.counts;
        };
    turn = λ turn. absurd (apart ((fit.turn turn).seated ∙ holder));
    baton = λ has.
        let keeps = fit.baton has in
        let enable : k.prep e ≡ false = not_true (k.prep e) (λ on. apart (keeps.seated ∙ sym (tier on))) in
        record { seated = keeps.seated; behind = enables_push k.prep (held_seen u.beside u.seen) b.log e keeps.behind enable; fixed_is = keeps.fixed_is };
    ended = ended_added b id n e seated by_n u.ended fit.ended;
  }
    where
      not_true : (t : Bool) → (t ≡ true → ⊥) → t ≡ false
      not_true true never = absurd (never refl)
      not_true false never = refl

  -- what is asked of an entry that a pass adds
  pub record Fitting (v : View E F) (e : E) : Type 0 where
    pub by_pass : k.by e ≡ v.number
    pub cost_fits : k.cost e ≤ v.room
    pub tier : k.prep e ≡ true → v.baton ≡ true

  -- the pass whose turn ends with the entry e
  fits_giver : (b : Books E) (id : ℕ) (v : View E F) (e : E) → v.live ≡ true → v.beside ≡ None → v.seen ≡ b.log → Fitting v e → Fits k fixed b id v
      → Fits k fixed (record b { log = b.log ++ e ∷ []; taken = false }) id (with_entry k.cost e v)
  fits_giver b id v e live alone whole asked fit =
      let lives = fit.lives live in
      let longer : b.log ++ e ∷ [] ≡ v.seen ++ e ∷ [] = ap (λ l. l ++ e ∷ []) (sym whole) in
      record {
        front = front_same (v.seen ++ e ∷ []) (b.log ++ e ∷ []) longer;
        lives = λ _. record {
          seated = lives.seated;
          below = lives.below;
          mine = own_push k.by v.number b.log e asked.by_pass ∙ ap (λ l. l ++ e ∷ []) lives.mine;
          known = own_push k.by v.number v.seen e asked.by_pass ∙ ap (λ l. l ++ e ∷ []) lives.known;
          fixed_is = lives.fixed_is;
          counts = lives.counts;
        };
        turn = off;
        baton = λ has. record {
          seated = (fit.baton has).seated;
          behind = subst (λ o. AddsEnablesOnly k.prep (held_seen o (v.seen ++ e ∷ [])) (b.log ++ e ∷ [])) (sym alone) (enables_none k.prep (v.seen ++ e ∷ []) (b.log ++ e ∷ []) longer);
          fixed_is = (fit.baton has).fixed_is;
        };
        ended = ended_added b id v.number e lives.seated asked.by_pass v.ended fit.ended;
      }

  abbrev first_slot : List (ℕ × Option T) → Option T
  first_slot [] = None
  first_slot (x ∷ xs) = x.1

  gives_value : (size id : ℕ) (v : View E F) (value : T) (e : E) → size ≡ 1 → v.live ≡ true → v.turn ≡ true → v.beside ≡ None → length v.seen + 1 < 2 ^ 63
      → k.entries value ≡ v.seen ++ e ∷ [] → v.fixed ≡ Some (k.fixed value) → Fitting v e
      → Allows (Holds k fixed) size id (v, (0, Some value) ∷ []) 0 (λ n. (n + 1) % 2 ^ 64) (Gives k (step size 0 1 0 none) (v, (0, Some value) ∷ []))
  gives_value size id v value e one live turn alone few adds same_fixed asked s h slots at range =
      let b = h.books in
      let fit = h.each id v at in
      let t = in_turn b id v fit turn in
      let lives = fit.lives live in
      let w : View E F = with_entry k.cost e v in
      let odd = odd_word s h t.taken in
      let counted : length v.seen ≡ length b.log = ap length t.whole in
      let longer : length (b.log ++ e ∷ []) ≡ length b.log + 1 = length-append b.log (e ∷ []) in
      let wraps : (slice_index s.words 0 + 1) % 2 ^ 64 ≡ slice_index s.words 0 + 1 = mod-eq_of_lt (omega (arith, odd, counted, few)) in
      let sums = sum_set (λ (u : View E F). u.room) s.views id v w at in
      let cost = sum_by_push k.cost b.log e in
      let room = asked.cost_fits in (
        w,
        gives,
        tt,
        record {
          books = record b { log = b.log ++ e ∷ []; taken = false };
          word = word_after s.words _ ((slice_index s.words 0 + 1) % 2 ^ 64) (2 * length (b.log ++ e ∷ []) + 0) h.word (omega (arith, odd, longer, wraps));
          free = λ _. record {
            value = value;
            home = one_slot s.homes (some (Some value)) (slots ∙ one);
            entries_are = adds ∙ ap (λ l. l ++ e ∷ []) t.whole;
            fixed_is = (let two : Some (k.fixed value) ≡ Some fixed = sym same_fixed ∙ lives.fixed_is in cc);
          };
          held = off;
          each = fits_set k fixed (record b { log = b.log ++ e ∷ []; taken = false }) s.views id w
              (λ j u apart at_j. fits_added b id j v.number e u lives.seated asked.by_pass (λ on. (fit.baton (asked.tier on)).seated) (sym t.holder) apart (h.each j u at_j))
              (fits_giver b id v e live alone t.whole asked fit);
          numbers = All-push (λ x. k.by x < b.made) b.log e h.numbers (let is = asked.by_pass in let low = lives.below in omega arith);
          rooms = omega (arith, h.rooms, sums, cost, room);
        },
        λ value' e' took adds'.
            let in_hand : Some value ≡ Some value' = ap first_slot took in
            let same : value ≡ value' = cc in
            let last : e ≡ e' = same_last v.seen e e' (sym adds ∙ ap k.entries same ∙ adds') in
            ap (λ x. (with_entry k.cost x v, [])) last,
      )

  -- the turn ends with the entry that the value in hand has more
  pub gives_entry : (size id : ℕ) (v : View E F) (c : List (ℕ × Option T)) (value : T) (e : E) → size ≡ 1 → c ≡ (0, Some value) ∷ [] → v.live ≡ true → v.turn ≡ true → v.beside ≡ None → length v.seen + 1 < 2 ^ 63
      → k.entries value ≡ v.seen ++ e ∷ [] → v.fixed ≡ Some (k.fixed value) → Fitting v e
      → Allows (Holds k fixed) size id (v, c) 0 (λ n. (n + 1) % 2 ^ 64) (Gives k (step size 0 1 0 none) (v, c))
  gives_entry size id v c value e one is live turn alone few adds same_fixed asked =
      subst (λ (c : List (ℕ × Option T)). Allows (Holds k fixed) size id (v, c) 0 (λ n. (n + 1) % 2 ^ 64) (Gives k (step size 0 1 0 none) (v, c))) (sym is) (gives_value size id v value e one live turn alone few adds same_fixed asked)

  -- a seat where the turn ends without an entry, another than the one that held it
  fits_freed : (b : Books E) (id j : ℕ) (u : View E F) → b.holder ≡ id → j ≢ id → Fits k fixed b j u → Fits k fixed (record b { taken = false }) j u
  fits_freed b id j u holder apart fit = record { front = fit.front; lives = fit.lives; turn = λ turn. absurd (apart ((fit.turn turn).seated ∙ holder)); baton = fit.baton; ended = fit.ended }

  fits_returner : (b : Books E) (id : ℕ) (v : View E F) → v.live ≡ true → Fits k fixed b id v → Fits k fixed (record b { taken = false }) id (without_turn v)
  fits_returner b id v live fit =
      let lives = fit.lives live in
      record {
        front = fit.front;
        lives = λ _. record { seated = lives.seated; below = lives.below; mine = lives.mine; known = lives.known; fixed_is = lives.fixed_is; counts = lives.counts };
        turn = off;
        baton = λ has. record { seated = (fit.baton has).seated; behind = (fit.baton has).behind; fixed_is = (fit.baton has).fixed_is };
        ended = fit.ended;
      }

  returns_value : (size id : ℕ) (v : View E F) (value : T) → size ≡ 1 → v.live ≡ true → v.turn ≡ true → k.entries value ≡ v.seen → v.fixed ≡ Some (k.fixed value)
      → Allows (Holds k fixed) size id (v, (0, Some value) ∷ []) 0 (λ n. (n + (2 ^ 64 - 1)) % 2 ^ 64) (GivesBack k (step size 0 1 0 none) (v, (0, Some value) ∷ []))
  returns_value size id v value one live turn same same_fixed s h slots at range =
      let b = h.books in
      let fit = h.each id v at in
      let t = in_turn b id v fit turn in
      let lives = fit.lives live in
      let w : View E F = without_turn v in
      let odd = odd_word s h t.taken in
      let sums = sum_set (λ (u : View E F). u.room) s.views id v w at in (
        w,
        gives,
        tt,
        record {
          books = record b { taken = false };
          word = word_after s.words _ ((slice_index s.words 0 + (2 ^ 64 - 1)) % 2 ^ 64) (2 * length b.log + 0) h.word (one_less (slice_index s.words 0) (2 * length b.log) odd range);
          free = λ _. record {
            value = value;
            home = one_slot s.homes (some (Some value)) (slots ∙ one);
            entries_are = same ∙ t.whole;
            fixed_is = (let two : Some (k.fixed value) ≡ Some fixed = sym same_fixed ∙ lives.fixed_is in cc);
          };
          held = off;
          each = fits_set k fixed (record b { taken = false }) s.views id w (λ j u apart at_j. fits_freed b id j u (sym t.holder) apart (h.each j u at_j)) (fits_returner b id v live fit);
          numbers = h.numbers;
          rooms = omega (arith, h.rooms, sums);
        },
        refl,
      )
    where
      one_less : (n x : ℕ) → n ≡ x + 1 → n < 2 ^ 64 → (n + (2 ^ 64 - 1)) % 2 ^ 64 ≡ x + 0
      one_less n x is low = omega arith

  -- the turn ends without an entry
  pub returns_it : (size id : ℕ) (v : View E F) (c : List (ℕ × Option T)) (value : T) → size ≡ 1 → c ≡ (0, Some value) ∷ [] → v.live ≡ true → v.turn ≡ true → k.entries value ≡ v.seen → v.fixed ≡ Some (k.fixed value)
      → Allows (Holds k fixed) size id (v, c) 0 (λ n. (n + (2 ^ 64 - 1)) % 2 ^ 64) (GivesBack k (step size 0 1 0 none) (v, c))
  returns_it size id v c value one is live turn same same_fixed =
      subst (λ (c : List (ℕ × Option T)). Allows (Holds k fixed) size id (v, c) 0 (λ n. (n + (2 ^ 64 - 1)) % 2 ^ 64) (GivesBack k (step size 0 1 0 none) (v, c))) (sym is) (returns_value size id v value one live turn same same_fixed)
