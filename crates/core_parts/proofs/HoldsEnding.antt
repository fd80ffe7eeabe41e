-- Holds of a clock that end one by one, and what counts tell behind them.
use Rattle.std.proofs.Common.{◌≡◌, ◌≢◌, ℕ, ◌+◌, ◌-◌, ◌<◌, ◌≤◌, ◌||◌, not, Bool, true, false, cond, List, [], ◌∷◌, None, refl, sym, ap, subst, ◌∙◌, arith, nat_eq, length, set}
use Rattle.std.proofs.lemmas.List.{length-set, get_or-set_same, get_or-set_other}
use Rattle.std.proofs.lemmas.List.Sums.{sum_by-set}
use Rattle.std.specs.Prelude.{slice_index}
use Rattle.clk_model.proofs.Members.{same_from_test, test_other}
use Rattle.clk_model.specs.Step.{passed_over}
use Rattle.clk_model.proofs.BalanceLaws.{other_way}
use Rattle.core_parts.specs.Holds.{TellsHolds, AreHeld, passed_times, Ends}
use Rattle.core_parts.proofs.HeldCounts.{times_in, times_more}

-- ---- one by one

pub ends_none : (clock : ℕ) (own held : List ℕ) → Ends clock own own held held
ends_none clock own held = record { length_ = refl; sum_ = omega arith; coupled = λ d. refl; others = λ d other. refl }

pub ends_then : (clock : ℕ) (own own' own'' held held' held'' : List ℕ) → Ends clock own own' held held' → Ends clock own' own'' held' held'' → Ends clock own own'' held held''
ends_then clock own own' own'' held held' held'' first then_ = record {
  length_ = then_.length_ ∙ first.length_;
  sum_ = let one = first.sum_ in let two = then_.sum_ in omega arith;
  coupled = λ d. let one = first.coupled d in let two = then_.coupled d in omega arith;
  others = λ d other. then_.others d other ∙ first.others d other;
}

-- one does
pub ends_one : (clock : ℕ) (own held : List ℕ) → clock < length own → length held ≡ length own → 0 < slice_index own clock → 0 < slice_index held clock
    → Ends clock own (set own clock (slice_index own clock - 1)) held (set held clock (slice_index held clock - 1))
ends_one clock own held within size some_own some_held = record {
  length_ = length-set held clock (slice_index held clock - 1);
  sum_ = let place : clock < length held = omega arith in let sums = sum_by-set (λ (n : ℕ). n) held clock (slice_index held clock - 1) 0 place in omega arith;
  coupled = λ d. by d (nat_eq clock d) refl;
  others = λ d other. at_rest held d other;
} where
  at_here : (xs : List ℕ) → clock < length xs → slice_index (set xs clock (slice_index xs clock - 1)) clock ≡ slice_index xs clock - 1
  at_here xs place = get_or-set_same xs clock (slice_index xs clock - 1) 0 place

  at_rest : (xs : List ℕ) (d : ℕ) → d ≢ clock → slice_index (set xs clock (slice_index xs clock - 1)) d ≡ slice_index xs d
  at_rest xs d other = get_or-set_other xs clock d (slice_index xs clock - 1) 0 other

  by : (d : ℕ) (t : Bool) → nat_eq clock d ≡ t → slice_index (set own clock (slice_index own clock - 1)) d + slice_index held d ≡ slice_index own d + slice_index (set held clock (slice_index held clock - 1)) d
  by d true e =
      subst (λ (x : ℕ). slice_index (set own clock (slice_index own clock - 1)) x + slice_index held x ≡ slice_index own x + slice_index (set held clock (slice_index held clock - 1)) x) (same_from_test clock d e)
      (let one = at_here own within in let two = at_here held (omega arith) in omega arith)
  by d false e =
      let other : d ≢ clock = λ same. test_other clock d e (sym same) in
      let one = at_rest own d other in
      let two = at_rest held d other in
      omega arith

-- ---- what counts tell

-- a hold on the clock itself ends
gone : (x p c n : ℕ) (t : Bool) → nat_eq c p ≡ t → nat_eq p x ≡ true → cond t 0 n ≡ cond t 0 (cond (nat_eq x c) 1 0 + n)
gone x p c n true e same = refl
gone x p c n false e same =
    let none : nat_eq x c ≡ false = ap (λ (y : ℕ). nat_eq y c) (sym (same_from_test p x same)) ∙ other_way c p e in
    let first : n ≡ 0 + n = omega arith in
    first ∙ ap (λ (b : Bool). cond b 1 0 + n) (sym none)

-- and one on another clock stays
stays : (x p c n : ℕ) (t : Bool) → nat_eq c p ≡ t → nat_eq p x ≡ false → cond (nat_eq x c) 1 0 + cond t 0 n ≡ cond t 0 (cond (nat_eq x c) 1 0 + n)
stays x p c n true e other = ap (λ (b : Bool). cond b 1 0 + 0) (ap (nat_eq x) (same_from_test c p e) ∙ other_way p x other)
stays x p c n false e other = refl

no_times : (t : Bool) → ◌≡◌ {A = ℕ} 0 (cond t 0 0)
no_times true = refl
no_times false = refl

dropped_times : (p c : ℕ) (holds : List ℕ) → times_in c (passed_over p None holds) ≡ passed_times p None (λ d. times_in d holds) c
dropped_times p c [] = no_times (nat_eq c p)
dropped_times p c (x ∷ xs) = by (nat_eq p x) refl (dropped_times p c xs) where
  by : (t : Bool) → nat_eq p x ≡ t → times_in c (passed_over p None xs) ≡ passed_times p None (λ d. times_in d xs) c
      → times_in c (cond (not (nat_eq p x || false)) (x ∷ passed_over p None xs) (passed_over p None xs)) ≡ cond (nat_eq c p) 0 (times_in c (x ∷ xs))
  by true e rest =
      ap (λ (t : Bool). times_in c (cond (not (t || false)) (x ∷ passed_over p None xs) (passed_over p None xs))) e
      ∙ rest ∙ gone x p c (times_in c xs) (nat_eq c p) refl e ∙ ap (λ (n : ℕ). cond (nat_eq c p) 0 n) (sym (times_more c x xs))
  by false e rest =
      ap (λ (t : Bool). times_in c (cond (not (t || false)) (x ∷ passed_over p None xs) (passed_over p None xs))) e
      ∙ times_more c x (passed_over p None xs) ∙ ap (λ (n : ℕ). cond (nat_eq x c) 1 0 + n) rest
      ∙ stays x p c (times_in c xs) (nat_eq c p) refl e ∙ ap (λ (n : ℕ). cond (nat_eq c p) 0 n) (sym (times_more c x xs))

-- the counts behind it tell the holds that are left
pub tells_ended : (p : ℕ) (counts counts' holds : List ℕ) → TellsHolds counts holds → ((d : ℕ) → slice_index counts' d ≡ passed_times p None (slice_index counts) d) → TellsHolds counts' (passed_over p None holds)
tells_ended p counts counts' holds tells ended = record {
  each = λ c. dropped_times p c holds ∙ ap (λ (n : ℕ). cond (nat_eq c p) 0 n) (tells.each c) ∙ sym (ended c);
}

-- with the steps
pub held_ended : (there : ℕ → Bool) (clocks steps clock : ℕ) (own own' held held' : List ℕ) → AreHeld there clocks steps held → Ends clock own own' held held'
    → ((d : ℕ) → slice_index held' d ≡ passed_times clock None (slice_index held) d) → AreHeld there clocks (steps + 1) held'
held_ended there clocks steps clock own own' held held' are ends ended = record {
  inside = λ d free. ended d ∙ ap (λ (n : ℕ). cond (nat_eq d clock) 0 n) (are.inside d free) ∙ none (nat_eq d clock);
  size = ends.length_ ∙ are.size;
  few = let few = are.few in let sum = ends.sum_ in omega arith;
} where
  none : (t : Bool) → ◌≡◌ {A = ℕ} (cond t 0 0) 0
  none true = refl
  none false = refl

-- one hold more ends
pub ends_step : (clock : ℕ) (own own' own'' held held' held'' : List ℕ) → Ends clock own own' held held' → own'' ≡ set own' clock (slice_index own' clock - 1) → held'' ≡ set held' clock (slice_index held' clock - 1)
    → clock < length own' → length held' ≡ length own' → slice_index held clock ≤ slice_index own clock → 0 < slice_index held' clock → Ends clock own own'' held held''
ends_step clock own own' own'' held held' held'' was one two within size owned some =
    ends_then clock own own' own'' held held' held'' was
    (subst (λ (xs : List ℕ). Ends clock own' xs held' held'') (sym one)
    (subst (λ (xs : List ℕ). Ends clock own' (set own' clock (slice_index own' clock - 1)) held' xs) (sym two)
    (ends_one clock own' held' within size (let coupled = was.coupled clock in omega arith) some)))
