-- Each call keeps what sound states keep.
use Rattle.std.proofs.Common.{◌≡◌, ◌≢◌, ◌⊎◌, inl, inr, ℕ, zero, suc, ◌+◌, ◌-◌, ◌<◌, ◌≤◌, Bool, true, false, not, cond, nat_lt, nat_eq, List, [], ◌∷◌, ◌++◌, Option, Some, None, IfSome, replicate, length, slice_set, slice_index_or, refl, sym, ap, subst, ◌∙◌, arith}
use Rattle.std.proofs.lemmas.Bool.{cases_eq, cases_lt}
use Rattle.std.proofs.lemmas.Bool.Decides.{nat_tests}
use Rattle.std.proofs.lemmas.List.{get_or-set_same, get_or-set_other, length-replicate}
use Rattle.std.proofs.lemmas.List.Sums.{sum_by-set, sum_by-append, sum_by-cons}
use Rattle.std.proofs.Math.ListN.{get_or-append}
use Rattle.std.proofs.Math.Seq.{get_or-append_right}
use Rattle.reg_bank.proofs.BitLaws.{length-put_bit, is_set-put_bit_same, is_set-put_bit_other}
use Rattle.reset_core.specs.declared.call.ResetCall.{ResetCall}
use Rattle.reset_core.specs.declared.call.ResetEntry.{ResetEntry}
use Rattle.reset_core.specs.declared.call.ResetLine.{ResetLine}
use Rattle.reset_core.specs.declared.call.ResetKind.{ResetKind}
use Rattle.reset_core.specs.declared.call.ResetKind.TheVariants as kind
use Rattle.reset_core.specs.declared.record.HandleRecord.{HandleRecord}
use Rattle.reset_core.specs.Lines.{State, one, line_at, row_at, is_asserted, is_shared, on_line, sum_on, shared_weight, other_weight, acquired_weight, deassert_weight, shared_on, others_on, acquired_on, deasserts_on}
use Rattle.reset_core.specs.Turns.{turn, replay, with_row, with_line, is_busy, new_row, asserted_if_free, with_deasserts, with_acquired}
use Rattle.reset_core.specs.Standing.{ArePlaced, at_start}
use Rattle.reset_core.specs.Sound.{AreApart, IsSound}
use Rattle.reset_core.proofs.Sums.{has_place, weight, here, away}
use Rattle.reset_core.proofs.Going.{keeps, length-asserted}

-- ---- sums

sum_set : (w : HandleRecord → ℕ) (l : ℕ) (hs : List (Option HandleRecord)) (n : ℕ) (r : HandleRecord) (x : Option HandleRecord) → row_at hs n ≡ Some r → sum_on w l (slice_set hs n x) + on_line w l (Some r) ≡ sum_on w l hs + on_line w l x
sum_set w l hs n r x is = subst (λ (q : Option HandleRecord). sum_on w l (slice_set hs n x) + on_line w l q ≡ sum_on w l hs + on_line w l x) is (sum_by-set (on_line w l) hs n x None (has_place hs n r is))

sum_add : (w : HandleRecord → ℕ) (l : ℕ) (hs : List (Option HandleRecord)) (x : Option HandleRecord) → sum_on w l (hs ++ x ∷ []) ≡ sum_on w l hs + on_line w l x
sum_add w l hs x = omega (arith, sum_by-append (on_line w l) hs (x ∷ []), sum_by-cons (on_line w l) x [])

on_le : (w : HandleRecord → ℕ) (l : ℕ) (r : HandleRecord) (x : Option HandleRecord) → IfSome x (λ q. q.line ≡ r.line) → weight w x ≤ w r → on_line w l x ≤ on_line w l (Some r)
on_le w l r None on less = omega arith
on_le w l r (Some q) on less = subst (λ (k : ℕ). cond (nat_eq k l) (w q) 0 ≤ cond (nat_eq r.line l) (w r) 0) (sym on) (by_case (nat_eq r.line l)) where
  by_case : (b : Bool) → cond b (w q) 0 ≤ cond b (w r) 0
  by_case true = less
  by_case false = omega arith

sum_falls : (w : HandleRecord → ℕ) (l : ℕ) (hs : List (Option HandleRecord)) (n : ℕ) (r : HandleRecord) (x : Option HandleRecord) → row_at hs n ≡ Some r → IfSome x (λ q. q.line ≡ r.line) → weight w x ≤ w r → sum_on w l (slice_set hs n x) ≤ sum_on w l hs
sum_falls w l hs n r x is on less = omega (arith, sum_set w l hs n r x is, on_le w l r x on less)

sum_away : (w : HandleRecord → ℕ) (l : ℕ) (hs : List (Option HandleRecord)) (n : ℕ) (r : HandleRecord) (x : Option HandleRecord) → row_at hs n ≡ Some r → IfSome x (λ q. q.line ≡ r.line) → l ≢ r.line → sum_on w l (slice_set hs n x) ≡ sum_on w l hs
sum_away w l hs n r x is on other = omega (arith, sum_set w l hs n r x is, away w r.line l (Some r) other refl, away w r.line l x other on)

-- a handle counts for its line
counts : (w : HandleRecord → ℕ) (hs : List (Option HandleRecord)) (n : ℕ) (r : HandleRecord) → row_at hs n ≡ Some r → w r ≤ sum_on w r.line hs
counts w hs n r is = omega (arith, sum_set w r.line hs n r None is, here w r.line (Some r) refl)

acquired_few : (l : ℕ) (hs : List (Option HandleRecord)) → acquired_on l hs ≤ shared_on l hs + others_on l hs
acquired_few l [] = omega arith
acquired_few l (x ∷ hs) = omega (arith, sum_by-cons (on_line acquired_weight l) x hs, sum_by-cons (on_line shared_weight l) x hs, sum_by-cons (on_line other_weight l) x hs, of_one x, acquired_few l hs) where
  by_case : (b a s : Bool) → cond b (one a) 0 ≤ cond b (one s) 0 + cond b (one (not s)) 0
  by_case true true true = omega arith
  by_case true true false = omega arith
  by_case true false s = omega arith
  by_case false a s = omega arith

  of_one : (x : Option HandleRecord) → on_line acquired_weight l x ≤ on_line shared_weight l x + on_line other_weight l x
  of_one None = omega arith
  of_one (Some r) = by_case (nat_eq r.line l) r.acquired (is_shared r)

-- without a shared handle a line has no deasserts
none_shared : (l : ℕ) (hs : List (Option HandleRecord)) → ((n : ℕ) (r : HandleRecord) → row_at hs n ≡ Some r → is_shared r ≡ false → r.deasserts ≡ 0) → shared_on l hs ≡ 0 → deasserts_on l hs ≡ 0
none_shared l [] bare none = refl
none_shared l (x ∷ hs) bare none =
    omega (arith, sum_by-cons (on_line deassert_weight l) x hs, of_one x refl (omega (arith, sum_by-cons (on_line shared_weight l) x hs, none)), none_shared l hs (λ n r is. bare (suc n) r is) (omega (arith, sum_by-cons (on_line shared_weight l) x hs, none))) where
      by_case : (r : HandleRecord) → Some r ≡ x → (b s : Bool) → is_shared r ≡ s → cond b (one s) 0 ≡ 0 → cond b r.deasserts 0 ≡ 0
      by_case r is true true shared none = absurd (omega (arith, none))
      by_case r is true false shared none = bare 0 r (sym is) shared
      by_case r is false s shared none = refl

      of_one : (y : Option HandleRecord) → y ≡ x → on_line shared_weight l y ≡ 0 → on_line deassert_weight l y ≡ 0
      of_one None is none = refl
      of_one (Some r) is none = by_case r is (nat_eq r.line l) (is_shared r) refl none

-- ---- bits

module _ (s : State) (placed : ArePlaced (length s.regs) s.lines) (apart : AreApart s.lines) (l : ℕ) (b : Bool) (place : l < length s.lines) where
  bit_same : is_asserted (with_line s l b) l ≡ b
  bit_same = is_set-put_bit_same s.regs (line_at s.lines l).word (line_at s.lines l).bit b (placed l place).0

  pub bit_other : (m : ℕ) → m < length s.lines → l ≢ m → is_asserted (with_line s l b) m ≡ is_asserted s m
  bit_other m place' other = is_set-put_bit_other s.regs (line_at s.lines l).word (line_at s.lines l).bit b (line_at s.lines m).word (line_at s.lines m).bit (apart l m place place' other)

-- with other bits a state is sound if its cleared lines are still so
with_bits : (s : State) (l : ℕ) (b : Bool) → IsSound s → ((m : ℕ) → m < length s.lines → 0 < deasserts_on m s.handles → is_asserted (with_line s l b) m ≡ false) → IsSound (with_line s l b)
with_bits s l b sound cleared = record {
  placed = subst (λ (k : ℕ). ArePlaced k s.lines) (sym (length-put_bit s.regs (line_at s.lines l).word (line_at s.lines l).bit b)) sound.placed;
  apart = sound.apart;
  inside = sound.inside;
  bare = sound.bare;
  cleared = cleared;
  alone = sound.alone;
  kinds = sound.kinds;
}

-- a deasserted line
clear : (s : State) (l : ℕ) → IsSound s → l < length s.lines → IsSound (with_line s l false)
clear s l sound place = with_bits s l false sound (λ m place' some. elim (cases_eq l m) [
  | inl same ↦ subst (λ (k : ℕ). is_asserted (with_line s l false) k ≡ false) same (bit_same s sound.placed sound.apart l false place)
  | inr other ↦ bit_other s sound.placed sound.apart l false place m place' other ∙ sound.cleared m place' some
])

-- an asserted one without deasserts
assert_ : (s : State) (l : ℕ) → IsSound s → l < length s.lines → deasserts_on l s.handles ≡ 0 → IsSound (with_line s l true)
assert_ s l sound place free = with_bits s l true sound (λ m place' some. elim (cases_eq l m) [
  | inl same ↦ absurd (let none : deasserts_on m s.handles ≡ 0 = subst (λ (k : ℕ). deasserts_on k s.handles ≡ 0) same free in omega (arith, none, some))
  | inr other ↦ bit_other s sound.placed sound.apart l true place m place' other ∙ sound.cleared m place' some
])

-- ---- handles

module _ (s : State) (sound : IsSound s) (n : ℕ) (r : HandleRecord) (is : row_at s.handles n ≡ Some r) where
  row_back : (x : Option HandleRecord) (m : ℕ) (q : HandleRecord) → row_at (slice_set s.handles n x) m ≡ Some q → ((row_at s.handles m ≡ Some q) ⊎ (x ≡ Some q))
  row_back x m q at = elim (cases_eq m n) [
    | inl same ↦ inr (sym (get_or-set_same s.handles n x None (has_place s.handles n r is)) ∙ ap (λ (k : ℕ). row_at (slice_set s.handles n x) k) (sym same) ∙ at)
    | inr other ↦ inl (sym (get_or-set_other s.handles n m x None other) ∙ at)
  ]

  -- what a replaced handle keeps
  record Fits (x : Option HandleRecord) : Type 0 where
    line : IfSome x (λ q. q.line ≡ r.line)
    bare : IfSome x (λ q. is_shared q ≡ false → q.deasserts ≡ 0)
    shared : weight shared_weight x ≤ shared_weight r
    others : weight other_weight x ≤ other_weight r
    alone : (l : ℕ) → acquired_on l (slice_set s.handles n x) ≤ 1

  replaced : (x : Option HandleRecord) → Fits x → ((m : ℕ) → m < length s.lines → 0 < deasserts_on m (slice_set s.handles n x) → is_asserted s m ≡ false) → IsSound (with_row s n x)
  replaced x fits cleared = record {
    placed = sound.placed;
    apart = sound.apart;
    inside = λ m q at. elim (row_back x m q at) [
      | inl before ↦ sound.inside m q before
      | inr new ↦ subst (λ (k : ℕ). k < length s.lines) (sym (line_of x q new fits.line)) (sound.inside n r is)
    ];
    bare = λ m q at other. elim (row_back x m q at) [
      | inl before ↦ sound.bare m q before other
      | inr new ↦ bare_of x q new fits.bare other
    ];
    cleared = cleared;
    alone = fits.alone;
    kinds = λ l. elim (sound.kinds l) [
      | inl none ↦ inl (omega (arith, none, sum_falls shared_weight l s.handles n r x is fits.line fits.shared))
      | inr none ↦ inr (omega (arith, none, sum_falls other_weight l s.handles n r x is fits.line fits.others))
    ];
  } where
    line_of : (x : Option HandleRecord) (q : HandleRecord) → x ≡ Some q → IfSome x (λ q. q.line ≡ r.line) → q.line ≡ r.line
    line_of None q is on = absurd cc
    line_of (Some p) q is on = let same : p ≡ q = cc in ap (λ (r : HandleRecord). r.line) (sym same) ∙ on

    bare_of : (x : Option HandleRecord) (q : HandleRecord) → x ≡ Some q → IfSome x (λ q. is_shared q ≡ false → q.deasserts ≡ 0) → is_shared q ≡ false → q.deasserts ≡ 0
    bare_of None q is bare other = absurd cc
    bare_of (Some p) q is bare other = subst (λ (p : HandleRecord). is_shared p ≡ false → p.deasserts ≡ 0) (let same : p ≡ q = cc in same) bare other

  alone_falls : (x : Option HandleRecord) → IfSome x (λ q. q.line ≡ r.line) → weight acquired_weight x ≤ acquired_weight r → (l : ℕ) → acquired_on l (slice_set s.handles n x) ≤ 1
  alone_falls x on less l = omega (arith, sound.alone l, sum_falls acquired_weight l s.handles n r x is on less)

positive : (k : ℕ) → nat_lt 0 k ≡ false → k ≡ 0
positive k is = grind (arith, nat_tests)

module _ (s : State) (sound : IsSound s) (n : ℕ) (r : HandleRecord) (is : row_at s.handles n ≡ Some r) where
  place : r.line < length s.lines
  place = sound.inside n r is

  -- what has no more deasserts leaves lines cleared
  still_cleared : (x : Option HandleRecord) → IfSome x (λ q. q.line ≡ r.line) → weight deassert_weight x ≤ r.deasserts → (m : ℕ) → m < length s.lines → 0 < deasserts_on m (slice_set s.handles n x) → is_asserted s m ≡ false
  still_cleared x on less m within some = sound.cleared m within (omega (arith, some, sum_falls deassert_weight m s.handles n r x is on less))

  drops : IsSound (with_row s n None)
  drops = replaced s sound n r is None (record { line = tt; bare = tt; shared = omega arith; others = omega arith; alone = alone_falls s sound n r is None tt (omega arith) }) (still_cleared None tt (omega arith))

  -- a shared handle with other deasserts fits
  shared_fits : (t : State) (sound_t : IsSound t) (is_t : row_at t.handles n ≡ Some r) (k : ℕ) → is_shared r ≡ true → Fits t sound_t n r is_t (Some (with_deasserts r k))
  shared_fits t sound_t is_t k shared = record {
    line = refl;
    bare = λ other. absurd (let both : true ≡ false = sym shared ∙ other in cc);
    shared = omega arith;
    others = omega arith;
    alone = alone_falls t sound_t n r is_t (Some (with_deasserts r k)) refl (omega arith);
  }

  takes : is_shared r ≡ true → IsSound (with_line (with_row s n (Some (with_deasserts r (r.deasserts + 1)))) r.line false)
  takes shared =
      let x : Option HandleRecord = Some (with_deasserts r (r.deasserts + 1)) in
      let t = with_line s r.line false in
      let sound_t = clear s r.line sound place in
      replaced t sound_t n r is (Some (with_deasserts r (r.deasserts + 1))) (shared_fits t sound_t is (r.deasserts + 1) shared) (λ m within some. elim (cases_eq m r.line) [
        | inl same ↦ subst (λ (k : ℕ). is_asserted (with_line s r.line false) k ≡ false) (sym same) (bit_same s sound.placed sound.apart r.line false place)
        | inr other ↦ sound_t.cleared m within (omega (arith, some, sum_away deassert_weight m s.handles n r (Some (with_deasserts r (r.deasserts + 1))) is refl other))
      ])

  gives : is_shared r ≡ true → IsSound (asserted_if_free (with_row s n (Some (with_deasserts r (r.deasserts - 1)))) r.line)
  gives shared = by_case (nat_lt 0 (deasserts_on r.line (slice_set s.handles n (Some (with_deasserts r (r.deasserts - 1)))))) refl where
    sound_t : IsSound (with_row s n (Some (with_deasserts r (r.deasserts - 1))))
    sound_t = replaced s sound n r is (Some (with_deasserts r (r.deasserts - 1))) (shared_fits s sound is (r.deasserts - 1) shared) (still_cleared (Some (with_deasserts r (r.deasserts - 1))) refl (omega arith))

    by_case : (b : Bool) → nat_lt 0 (deasserts_on r.line (slice_set s.handles n (Some (with_deasserts r (r.deasserts - 1))))) ≡ b
        → IsSound (cond b (with_row s n (Some (with_deasserts r (r.deasserts - 1)))) (with_line (with_row s n (Some (with_deasserts r (r.deasserts - 1)))) r.line true))
    by_case true some = sound_t
    by_case false none = assert_ (with_row s n (Some (with_deasserts r (r.deasserts - 1)))) r.line sound_t place (positive (deasserts_on r.line (slice_set s.handles n (Some (with_deasserts r (r.deasserts - 1))))) none)

  bare_line : is_shared r ≡ false → deasserts_on r.line s.handles ≡ 0
  bare_line other = elim (sound.kinds r.line) [
    | inl none ↦ none_shared r.line s.handles sound.bare none
    | inr none ↦ absurd (omega (arith, none, counts other_weight s.handles n r is, ap (λ (b : Bool). one (not b)) other))
  ]

  sets : is_shared r ≡ false → IsSound (with_line s r.line true)
  sets other = assert_ s r.line sound place (bare_line other)

  pulses_ : is_shared r ≡ false → IsSound (with_line (with_line s r.line true) r.line false)
  pulses_ other = clear (with_line s r.line true) r.line (sets other) place

  -- another handle fits
  other_fits : (b : Bool) → is_shared r ≡ false → ((l : ℕ) → acquired_on l (slice_set s.handles n (Some (with_acquired r b))) ≤ 1) → Fits s sound n r is (Some (with_acquired r b))
  other_fits b other alone = record { line = refl; bare = λ o. sound.bare n r is other; shared = omega arith; others = omega arith; alone = alone }

  acquires_ : is_shared r ≡ false → r.acquired ≡ false → nat_lt 0 (acquired_on r.line s.handles) ≡ false → IsSound (with_row s n (Some (with_acquired r true)))
  acquires_ other free none =
      replaced s sound n r is (Some (with_acquired r true)) (other_fits true other (λ l. elim (cases_eq l r.line) [
        | inl same ↦ subst (λ (k : ℕ). acquired_on k (slice_set s.handles n (Some (with_acquired r true))) ≤ 1) (sym same)
            (omega (arith, sum_set acquired_weight r.line s.handles n r (Some (with_acquired r true)) is, positive (acquired_on r.line s.handles) none, here acquired_weight r.line (Some (with_acquired r true)) refl))
        | inr away_ ↦ omega (arith, sum_away acquired_weight l s.handles n r (Some (with_acquired r true)) is refl away_, sound.alone l)
      ])) (still_cleared (Some (with_acquired r true)) refl (omega arith))

  releases_ : is_shared r ≡ false → IsSound (with_row s n (Some (with_acquired r false)))
  releases_ other = replaced s sound n r is (Some (with_acquired r false)) (other_fits false other (alone_falls s sound n r is (Some (with_acquired r false)) refl (omega arith))) (still_cleared (Some (with_acquired r false)) refl (omega arith))

-- ---- gets

module _ (s : State) (sound : IsSound s) (d l : ℕ) (within : l < length s.lines) where
  abbrev more : ResetKind → List (Option HandleRecord)
  more k = s.handles ++ Some (new_row d l k) ∷ []

  row_new : (k : ResetKind) (m : ℕ) (q : HandleRecord) → row_at (more k) m ≡ Some q → ((row_at s.handles m ≡ Some q) ⊎ (q ≡ new_row d l k))
  row_new k m q at = elim (cases_lt m (length s.handles)) [
    | inl less ↦ inl (sym (get_or-append s.handles (Some (new_row d l k) ∷ []) None m less) ∙ at)
    | inr past ↦ inr (last (m - length s.handles) (sym (get_or-append_right s.handles (Some (new_row d l k) ∷ []) m None past) ∙ at))
  ] where
    last : (i : ℕ) → slice_index_or (Some (new_row d l k) ∷ []) i None ≡ Some q → q ≡ new_row d l k
    last zero is = let same : new_row d l k ≡ q = cc in sym same
    last (suc i) is = absurd cc

  added : (k : ResetKind) → ((m : ℕ) → acquired_on m (more k) ≤ 1) → ((shared_on l (more k) ≡ 0) ⊎ (others_on l (more k) ≡ 0)) → IsSound (record s { handles = more k })
  added k alone kinds = record {
    placed = sound.placed;
    apart = sound.apart;
    inside = λ m q at. elim (row_new k m q at) [
      | inl before ↦ sound.inside m q before
      | inr new ↦ subst (λ (q : HandleRecord). q.line < length s.lines) (sym new) within
    ];
    bare = λ m q at other. elim (row_new k m q at) [
      | inl before ↦ sound.bare m q before other
      | inr new ↦ ap (λ (q : HandleRecord). q.deasserts) new
    ];
    cleared = λ m less some. sound.cleared m less (omega (arith, some, sum_add deassert_weight m s.handles (Some (new_row d l k)), none_new (nat_eq l m)));
    alone = alone;
    kinds = λ m. elim (cases_eq m l) [
      | inl same ↦ subst (λ (i : ℕ). (shared_on i (more k) ≡ 0) ⊎ (others_on i (more k) ≡ 0)) (sym same) kinds
      | inr other ↦ elim (sound.kinds m) [
        | inl none ↦ inl (omega (arith, none, sum_add shared_weight m s.handles (Some (new_row d l k)), away shared_weight l m (Some (new_row d l k)) other refl))
        | inr none ↦ inr (omega (arith, none, sum_add other_weight m s.handles (Some (new_row d l k)), away other_weight l m (Some (new_row d l k)) other refl))
      ]
    ];
  } where
    none_new : (b : Bool) → cond b 0 0 ≤ 0
    none_new true = omega arith
    none_new false = omega arith

  -- a handle that isn't acquired
  light : (k : ResetKind) → acquired_weight (new_row d l k) ≡ 0 → (m : ℕ) → acquired_on m (more k) ≤ 1
  light k none m = omega (arith, sum_add acquired_weight m s.handles (Some (new_row d l k)), sound.alone m, zero_on (nat_eq l m)) where
    zero_on : (b : Bool) → cond b (acquired_weight (new_row d l k)) 0 ≤ 0
    zero_on true = omega (arith, none)
    zero_on false = omega arith

  adds : (k : ResetKind) → is_busy s.handles l k ≡ false → IsSound (record s { handles = more k })
  adds kind.Shared free =
      let none = positive (others_on l s.handles) free in
      added kind.Shared (light kind.Shared refl) (inr (omega (arith, none, sum_add other_weight l s.handles (Some (new_row d l kind.Shared)), here other_weight l (Some (new_row d l kind.Shared)) refl)))
  adds kind.Released free =
      let none = positive (shared_on l s.handles) free in
      added kind.Released (light kind.Released refl) (inl (omega (arith, none, sum_add shared_weight l s.handles (Some (new_row d l kind.Released)), here shared_weight l (Some (new_row d l kind.Released)) refl)))
  adds kind.Exclusive free =
      let none = positive (shared_on l s.handles + others_on l s.handles) free in
      let x : Option HandleRecord = Some (new_row d l kind.Exclusive) in
      added kind.Exclusive (λ m. elim (cases_eq m l) [
        | inl same ↦ subst (λ (i : ℕ). acquired_on i (more kind.Exclusive) ≤ 1) (sym same)
            (omega (arith, sum_add acquired_weight l s.handles (Some (new_row d l kind.Exclusive)), here acquired_weight l (Some (new_row d l kind.Exclusive)) refl, acquired_few l s.handles, none))
        | inr other ↦ omega (arith, sum_add acquired_weight m s.handles (Some (new_row d l kind.Exclusive)), away acquired_weight l m (Some (new_row d l kind.Exclusive)) other refl, sound.alone m)
      ]) (inl (omega (arith, none, sum_add shared_weight l s.handles (Some (new_row d l kind.Exclusive)), here shared_weight l (Some (new_row d l kind.Exclusive)) refl)))

-- each call leaves a sound state sound
pub sound_turn : (s : State) (d : ℕ) (what : ResetCall) → IsSound s → IsSound (turn s d what).state
sound_turn s d what sound = keeps IsSound s record {
  same = sound;
  adds = λ d l k within free. adds s sound d l within k free;
  drops = λ n r is free. drops s sound n r is;
  takes = λ n r is shared. takes s sound n r is shared;
  clears = λ n r is other held. clear s r.line sound (place s sound n r is);
  gives = λ n r is shared some. gives s sound n r is shared;
  sets = λ n r is other held. sets s sound n r is other;
  pulses_ = λ n r is other held. pulses_ s sound n r is other;
  acquires_ = λ n r is other free none. acquires_ s sound n r is other free none;
  releases_ = λ n r is other held. releases_ s sound n r is other;
} d what

pub sound_replay : (s : State) (es : List ResetEntry) → IsSound s → IsSound (replay s es)
sound_replay s [] sound = sound
sound_replay s (e ∷ es) sound = sound_replay (turn s e.driver e.what).state es (sound_turn s e.driver e.what sound)

no_row : (n : ℕ) (r : HandleRecord) → row_at [] n ≡ Some r → ⊥
no_row zero r is = cc
no_row (suc n) r is = cc

pub sound_start : (words : ℕ) (lines : List ResetLine) → ArePlaced words lines → AreApart lines → IsSound (at_start words lines)
sound_start words lines placed apart = record {
  placed = subst (λ (k : ℕ). ArePlaced k lines) (sym (length-asserted (replicate words 0) lines ∙ length-replicate words 0)) placed;
  apart = apart;
  inside = λ n r is. absurd (no_row n r is);
  bare = λ n r is. absurd (no_row n r is);
  cleared = λ l within some. absurd (omega (arith, some));
  alone = λ l. omega arith;
  kinds = λ l. inl refl;
}
