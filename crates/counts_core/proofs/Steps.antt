-- Laws on a walk: each step of it, up and down, and its end.
use Rattle.std.proofs.Common.{◌≡◌, ℕ, zero, suc, ◌+◌, ◌-◌, ◌<◌, ◌≤◌, ◌||◌, Bool, true, false, cond, List, Option, Some, None, refl, sym, ap, ◌∙◌, subst, ◌⊎◌, inl, inr, add-one, arith, length, set, get_or, nat_eq, nat_lt}
use Rattle.std.specs.Option.{option_map}
use Rattle.std.proofs.lemmas.Bool.Decides.{nat_tests}
use Rattle.std.proofs.lemmas.List.{length-set, get_or-set_same}
use Rattle.clk_base.specs.declared.clock.ClockId.{ClockId}
use Rattle.clk_model.specs.Lists.{is_in}
use Rattle.clk_model.specs.Tree.{path_within}
use Rattle.clk_model.proofs.Members.{or_cases, not_either, same_from_test, test_same}
use Rattle.clk_model.proofs.PathLaws.{above}
use Rattle.clk_model.proofs.BelowLaws.{Rises, rises_on}
use Rattle.counts_core.specs.Sums.{up_in, leads, one, mark, kids, OneMore, Begins}
use Rattle.counts_core.proofs.Walking.{zeros, zeros-stopped, kids-set, count-set, count-more, kids-begun, kids-more, mark-more, mark-none, mark-first}
use Rattle.counts_core.proofs.Definitions.{counts_true}

-- ---- one count

-- two lists of counts of which the second has one more at a clock
pub record Steps (links : List (Option ClockId)) (less more : List ℕ) (a : ℕ) : Type 0 where
  pub size : length more ≡ length less
  pub counts : (d : ℕ) → get_or more d 0 ≡ get_or less d 0 + one a d
  pub begun : get_or less a 0 ≡ 0 → (d : ℕ) → kids links more d ≡ kids links less d + cond (leads d (get_or links a None)) 1 0
  pub on : 0 < get_or less a 0 → (d : ℕ) → kids links more d ≡ kids links less d

pub steps_up : (links : List (Option ClockId)) (now : List ℕ) (a : ℕ) → length links ≡ length now → a < length now → Steps links now (set now a (get_or now a 0 + 1)) a
steps_up links now a size within = record {
  size = length-set now a (get_or now a 0 + 1);
  counts = λ d. count-more now a d within;
  begun = λ none d. kids-begun links now a d size within none;
  on = λ some d. kids-more links now a d size within some;
}

pub steps_down : (links : List (Option ClockId)) (now : List ℕ) (a v : ℕ) → length links ≡ length now → a < length now → get_or now a 0 ≡ v + 1 → Steps links (set now a v) now a
steps_down links now a v size within is = record {
  size = sym (length-set now a v);
  counts = counts;
  begun = begun;
  on = on;
} where
  here : get_or (set now a v) a 0 ≡ v
  here = count-set now a v a within ∙ ap (λ (t : Bool). cond t v (get_or now a 0)) (test_same a)

  counts : (d : ℕ) → get_or now d 0 ≡ get_or (set now a v) d 0 + one a d
  counts d =
      sym (ap (λ (n : ℕ). n + one a d) (count-set now a v d within)
      ∙ elim (nat_eq a d) as (λ t. nat_eq a d ≡ t → cond t v (get_or now d 0) + cond t 1 0 ≡ get_or now d 0) [
        | true ↦ λ e. sym is ∙ ap (λ (x : ℕ). get_or now x 0) (same_from_test a d e)
        | false ↦ λ e. omega arith
      ] refl)

  changed : (d : ℕ) → kids links (set now a v) d + mark (leads d (get_or links a None)) (v + 1) ≡ kids links now d + mark (leads d (get_or links a None)) v
  changed d = ap (λ (n : ℕ). kids links (set now a v) d + mark (leads d (get_or links a None)) n) (sym is) ∙ kids-set links now a v d size within

  begun : get_or (set now a v) a 0 ≡ 0 → (d : ℕ) → kids links now d ≡ kids links (set now a v) d + cond (leads d (get_or links a None)) 1 0
  begun none d =
      let zero_ : v ≡ 0 = sym here ∙ none in
      let after = mark-first (leads d (get_or links a None)) v zero_ in
      let before : mark (leads d (get_or links a None)) v ≡ 0 = ap (mark (leads d (get_or links a None))) zero_ ∙ mark-none (leads d (get_or links a None)) in
      let step = changed d in
      omega arith

  on : 0 < get_or (set now a v) a 0 → (d : ℕ) → kids links now d ≡ kids links (set now a v) d
  on some d =
      let v_is = here in
      let same = mark-more (leads d (get_or links a None)) v (omega arith) in
      let step = changed d in
      omega arith

-- so a clock that has a count is left with one less
pub steps_less : (links : List (Option ClockId)) (now : List ℕ) (at : ℕ) → length links ≡ length now → at < length now → 0 < get_or now at 0 → Steps links (set now at (get_or now at 0 - 1)) now at
steps_less links now at size within some = steps_down links now at (get_or now at 0 - 1) size within (omega arith)

-- the count that stands there then
pub less_there : (now : List ℕ) (at v : ℕ) → at < length now → get_or (set now at v) at 0 ≡ v
less_there now at v within = get_or-set_same now at v 0 within

-- where it was the last, one clock more has none
pub zeros_more : (now : List ℕ) (at : ℕ) → at < length now → 0 < get_or now at 0 → get_or now at 0 ≤ 1 → zeros (set now at (get_or now at 0 - 1)) ≡ zeros now + 1
zeros_more now at within some few =
    let none : get_or now at 0 - 1 ≡ 0 = omega arith in
    ap (λ (v : ℕ). zeros (set now at v)) none ∙ zeros-stopped now at within (omega arith)

-- ---- the clocks of the walk

-- one level more of a path has one clock more
pub in_path_more : (up : ℕ → Option ℕ) (k c t d : ℕ) → Rises up k c t → is_in d (path_within up (suc k) c) ≡ (is_in d (path_within up k c) || nat_eq t d)
in_path_more up zero c t d rises =
    ap (λ (b : Bool). nat_eq c d || b) (nothing (up c)) ∙ or_none (nat_eq c d) ∙ ap (λ (x : ℕ). nat_eq x d) rises where
      nothing : (o : Option ℕ) → is_in d (above up 0 o) ≡ false
      nothing None = refl
      nothing (Some p) = refl

      or_none : (b : Bool) → (b || false) ≡ b
      or_none true = refl
      or_none false = refl
in_path_more up (suc k) c t d rises =
    ap (λ (o : Option ℕ). nat_eq c d || is_in d (above up (suc k) o)) rises.1
    ∙ ap (λ (b : Bool). nat_eq c d || b) (in_path_more up k rises.0 t d rises.2)
    ∙ or_assoc (nat_eq c d) (is_in d (path_within up k rises.0)) (nat_eq t d)
    ∙ sym (ap (λ (o : Option ℕ). (nat_eq c d || is_in d (above up k o)) || nat_eq t d) rises.1) where
      or_assoc : (x y z : Bool) → (x || (y || z)) ≡ ((x || y) || z)
      or_assoc true y z = refl
      or_assoc false y z = refl

-- a path along which so many links lead has a clock more than that
path_long : (up : ℕ → Option ℕ) (k c t : ℕ) → Rises up k c t → length (path_within up (suc k) c) ≡ suc k
path_long up zero c t rises = ap (λ (n : ℕ). suc n) (nothing (up c)) where
  nothing : (o : Option ℕ) → length (above up 0 o) ≡ 0
  nothing None = refl
  nothing (Some p) = refl
path_long up (suc k) c t rises =
    ap (λ (o : Option ℕ). suc (length (above up (suc k) o))) rises.1 ∙ ap (λ (n : ℕ). suc n) (path_long up k rises.0 t rises.2)

-- ---- going up

-- behind some steps: one holder more is owed to the clock where the walk is, and the clocks below it begin to count
pub record Raising (links : List (Option ClockId)) (old now : List ℕ) (c at k : ℕ) : Type 0 where
  pub size : length now ≡ length old
  pub sums : (d : ℕ) → get_or now d 0 + one at d + kids links old d ≡ get_or old d 0 + kids links now d + one c d
  pub begins : Begins links old now c k
  pub rises : Rises (up_in links) k c at

-- a clock whose count was 0 isn't among those that begin
first_count : (links : List (Option ClockId)) (old now : List ℕ) (c at k : ℕ) → Begins links old now c k → get_or now at 0 ≡ 0 → is_in at (path_within (up_in links) k c) ≡ false
first_count links old now c at k begins none =
    elim (is_in at (path_within (up_in links) k c)) as (λ t. is_in at (path_within (up_in links) k c) ≡ t → t ≡ false) [
      | true ↦ λ e. let some = begins.on at e in absurd (omega arith)
      | false ↦ λ e. refl
    ] refl

not_counting : (n : ℕ) → nat_lt 0 n ≡ nat_lt 0 0 → n ≡ 0
not_counting n e = grind (arith, nat_tests)

counting : (n m : ℕ) → 0 < n → nat_lt 0 n ≡ true
counting n m some = grind (arith, nat_tests)

-- the clock where the walk is begins to count
begins_more : (links : List (Option ClockId)) (old now next : List ℕ) (c at k : ℕ) → Begins links old now c k → Rises (up_in links) k c at → Steps links now next at → get_or now at 0 ≡ 0
    → Begins links old next c (suc k)
begins_more links old now next c at k begins rises step none = record { many = path_long (up_in links) k c at rises; off = off; on = on; others = others } where
  fresh : is_in at (path_within (up_in links) k c) ≡ false
  fresh = first_count links old now c at k begins none

  was : get_or old at 0 ≡ 0
  was = not_counting (get_or old at 0) (sym (begins.others at fresh) ∙ ap (nat_lt 0) none)

  inside : (d : ℕ) → is_in d (path_within (up_in links) (suc k) c) ≡ true → (is_in d (path_within (up_in links) k c) ≡ true) ⊎ (nat_eq at d ≡ true)
  inside d e = or_cases (is_in d (path_within (up_in links) k c)) (nat_eq at d) (sym (in_path_more (up_in links) k c at d rises) ∙ e)

  off : (d : ℕ) → is_in d (path_within (up_in links) (suc k) c) ≡ true → get_or old d 0 ≡ 0
  off d e =
      elim (inside d e) [
        | inl before ↦ begins.off d before
        | inr here ↦ ap (λ (x : ℕ). get_or old x 0) (sym (same_from_test at d here)) ∙ was
      ]

  on : (d : ℕ) → is_in d (path_within (up_in links) (suc k) c) ≡ true → 0 < get_or next d 0
  on d e =
      elim (inside d e) [
        | inl before ↦ let some = begins.on d before in let up = step.counts d in omega arith
        | inr here ↦ let up = step.counts d in let one_here : one at d ≡ 1 = ap (λ (t : Bool). cond t 1 0) here in omega arith
      ]

  others : (d : ℕ) → is_in d (path_within (up_in links) (suc k) c) ≡ false → nat_lt 0 (get_or next d 0) ≡ nat_lt 0 (get_or old d 0)
  others d e =
      let neither = not_either (is_in d (path_within (up_in links) k c)) (nat_eq at d) (sym (in_path_more (up_in links) k c at d rises) ∙ e) in
      let nothing : one at d ≡ 0 = ap (λ (t : Bool). cond t 1 0) neither.1 in
      let up = step.counts d in
      let same : get_or next d 0 ≡ get_or now d 0 = omega arith in
      ap (nat_lt 0) same ∙ begins.others d neither.0

-- a clock that counted before counts as before
begins_same : (links : List (Option ClockId)) (old now next : List ℕ) (c at k : ℕ) → Begins links old now c k → Steps links now next at → 0 < get_or now at 0 → Begins links old next c k
begins_same links old now next c at k begins step some = record { many = begins.many; off = begins.off; on = on; others = others } where
  on : (d : ℕ) → is_in d (path_within (up_in links) k c) ≡ true → 0 < get_or next d 0
  on d e = let before = begins.on d e in let up = step.counts d in omega arith

  counts_as : (n m o : ℕ) → m ≡ n + o → (0 < o → 0 < n) → nat_lt 0 m ≡ nat_lt 0 n
  counts_as n m o is also = grind (arith, nat_tests)

  others : (d : ℕ) → is_in d (path_within (up_in links) k c) ≡ false → nat_lt 0 (get_or next d 0) ≡ nat_lt 0 (get_or old d 0)
  others d e =
      counts_as (get_or now d 0) (get_or next d 0) (one at d) (step.counts d)
      (elim (nat_eq at d) as (λ t. nat_eq at d ≡ t → 0 < cond t 1 0 → 0 < get_or now d 0) [
        | true ↦ λ same one_. subst (λ (x : ℕ). 0 < get_or now x 0) (same_from_test at d same) some
        | false ↦ λ same one_. absurd (omega arith)
      ] refl)
      ∙ begins.others d e

-- the walk goes on at the parent
pub raise_goes : (links : List (Option ClockId)) (old now next : List ℕ) (c at k : ℕ) (p : ClockId) → Raising links old now c at k → Steps links now next at → get_or now at 0 ≡ 0
    → get_or links at None ≡ Some p → Raising links old next c p.0 (k + 1)
raise_goes links old now next c at k p walk step none link = record {
  size = step.size ∙ walk.size;
  sums = sums;
  begins = subst (λ (n : ℕ). Begins links old next c n) (sym (add-one k)) (begins_more links old now next c at k walk.begins walk.rises step none);
  rises = subst (λ (n : ℕ). Rises (up_in links) n c p.0) (sym (add-one k)) (rises_on (up_in links) k c at p.0 walk.rises (ap (option_map (λ (q : ClockId). q.0)) link));
} where
  sums : (d : ℕ) → get_or next d 0 + one p.0 d + kids links old d ≡ get_or old d 0 + kids links next d + one c d
  sums d =
      let before = walk.sums d in
      let up = step.counts d in
      let children : kids links next d ≡ kids links now d + one p.0 d = step.begun none d ∙ ap (λ (o : Option ClockId). kids links now d + cond (leads d o) 1 0) link in
      omega arith

-- it ends where there is no parent
pub raise_ends : (links : List (Option ClockId)) (old now next : List ℕ) (c at k : ℕ) → Raising links old now c at k → Steps links now next at → get_or now at 0 ≡ 0
    → get_or links at None ≡ None → OneMore links old next c × Begins links old next c (k + 1)
raise_ends links old now next c at k walk step none link = (
  record { size = step.size ∙ walk.size; sums = sums },
  subst (λ (n : ℕ). Begins links old next c n) (sym (add-one k)) (begins_more links old now next c at k walk.begins walk.rises step none),
) where
  sums : (d : ℕ) → get_or next d 0 + kids links old d ≡ get_or old d 0 + kids links next d + one c d
  sums d =
      let before = walk.sums d in
      let up = step.counts d in
      let children : kids links next d ≡ kids links now d + 0 = step.begun none d ∙ ap (λ (o : Option ClockId). kids links now d + cond (leads d o) 1 0) link in
      omega arith

-- and where the count wasn't 0
pub raise_stops : (links : List (Option ClockId)) (old now next : List ℕ) (c at k : ℕ) → Raising links old now c at k → Steps links now next at → 0 < get_or now at 0
    → OneMore links old next c × Begins links old next c k
raise_stops links old now next c at k walk step some = (
  record { size = step.size ∙ walk.size; sums = sums },
  begins_same links old now next c at k walk.begins step some,
) where
  sums : (d : ℕ) → get_or next d 0 + kids links old d ≡ get_or old d 0 + kids links next d + one c d
  sums d =
      let before = walk.sums d in
      let up = step.counts d in
      let children = step.on some d in
      omega arith

-- ---- going down

-- behind some steps: one holder less is owed to the clock where the walk is, and the clocks below it no longer count
pub record Lowering (links : List (Option ClockId)) (old now : List ℕ) (c at k : ℕ) : Type 0 where
  pub size : length now ≡ length old
  pub sums : (d : ℕ) → get_or old d 0 + kids links now d + one at d ≡ get_or now d 0 + kids links old d + one c d
  pub begins : Begins links now old c k
  pub rises : Rises (up_in links) k c at

-- where each clock has what its children need, the walk finds a count
pub lower_finds : (links : List (Option ClockId)) (old now : List ℕ) (c at k : ℕ) → Lowering links old now c at k → ((d : ℕ) → kids links old d + one c d ≤ get_or old d 0) → 0 < get_or now at 0
lower_finds links old now c at k walk held =
    let here = walk.sums at in
    let enough = held at in
    let owed : one at at ≡ 1 = ap (λ (t : Bool). cond t 1 0) (test_same at) in
    omega arith

-- a clock that counts isn't among those that stopped
still_counts : (links : List (Option ClockId)) (old now : List ℕ) (c at k : ℕ) → Begins links now old c k → 0 < get_or now at 0 → is_in at (path_within (up_in links) k c) ≡ false
still_counts links old now c at k begins some =
    elim (is_in at (path_within (up_in links) k c)) as (λ t. is_in at (path_within (up_in links) k c) ≡ t → t ≡ false) [
      | true ↦ λ e. let none = begins.off at e in absurd (omega arith)
      | false ↦ λ e. refl
    ] refl

-- the clock where the walk is stops to count
stops_more : (links : List (Option ClockId)) (old now next : List ℕ) (c at k : ℕ) → Begins links now old c k → Rises (up_in links) k c at → Steps links next now at → get_or next at 0 ≡ 0
    → Begins links next old c (suc k)
stops_more links old now next c at k begins rises step none = record { many = path_long (up_in links) k c at rises; off = off; on = on; others = others } where
  one_here : one at at ≡ 1
  one_here = ap (λ (t : Bool). cond t 1 0) (test_same at)

  some : 0 < get_or now at 0
  some = let up = step.counts at in let here = one_here in omega arith

  fresh : is_in at (path_within (up_in links) k c) ≡ false
  fresh = still_counts links old now c at k begins some

  was : 0 < get_or old at 0
  was = counts_true (get_or old at 0) (begins.others at fresh ∙ counting (get_or now at 0) 0 some)

  inside : (d : ℕ) → is_in d (path_within (up_in links) (suc k) c) ≡ true → (is_in d (path_within (up_in links) k c) ≡ true) ⊎ (nat_eq at d ≡ true)
  inside d e = or_cases (is_in d (path_within (up_in links) k c)) (nat_eq at d) (sym (in_path_more (up_in links) k c at d rises) ∙ e)

  off : (d : ℕ) → is_in d (path_within (up_in links) (suc k) c) ≡ true → get_or next d 0 ≡ 0
  off d e =
      elim (inside d e) [
        | inl before ↦ let gone = begins.off d before in let up = step.counts d in omega arith
        | inr here ↦ ap (λ (x : ℕ). get_or next x 0) (sym (same_from_test at d here)) ∙ none
      ]

  on : (d : ℕ) → is_in d (path_within (up_in links) (suc k) c) ≡ true → 0 < get_or old d 0
  on d e =
      elim (inside d e) [
        | inl before ↦ begins.on d before
        | inr here ↦ subst (λ (x : ℕ). 0 < get_or old x 0) (same_from_test at d here) was
      ]

  others : (d : ℕ) → is_in d (path_within (up_in links) (suc k) c) ≡ false → nat_lt 0 (get_or old d 0) ≡ nat_lt 0 (get_or next d 0)
  others d e =
      let neither = not_either (is_in d (path_within (up_in links) k c)) (nat_eq at d) (sym (in_path_more (up_in links) k c at d rises) ∙ e) in
      let nothing : one at d ≡ 0 = ap (λ (t : Bool). cond t 1 0) neither.1 in
      let up = step.counts d in
      let same : get_or now d 0 ≡ get_or next d 0 = omega arith in
      begins.others d neither.0 ∙ ap (nat_lt 0) same

-- a clock that still counts counts as before
stops_same : (links : List (Option ClockId)) (old now next : List ℕ) (c at k : ℕ) → Begins links now old c k → Steps links next now at → 0 < get_or next at 0 → Begins links next old c k
stops_same links old now next c at k begins step some = record { many = begins.many; off = off; on = begins.on; others = others } where
  off : (d : ℕ) → is_in d (path_within (up_in links) k c) ≡ true → get_or next d 0 ≡ 0
  off d e = let gone = begins.off d e in let up = step.counts d in omega arith

  counts_as : (n m o : ℕ) → m ≡ n + o → (0 < o → 0 < n) → nat_lt 0 m ≡ nat_lt 0 n
  counts_as n m o is also = grind (arith, nat_tests)

  others : (d : ℕ) → is_in d (path_within (up_in links) k c) ≡ false → nat_lt 0 (get_or old d 0) ≡ nat_lt 0 (get_or next d 0)
  others d e =
      begins.others d e
      ∙ counts_as (get_or next d 0) (get_or now d 0) (one at d) (step.counts d)
      (elim (nat_eq at d) as (λ t. nat_eq at d ≡ t → 0 < cond t 1 0 → 0 < get_or next d 0) [
        | true ↦ λ same one_. subst (λ (x : ℕ). 0 < get_or next x 0) (same_from_test at d same) some
        | false ↦ λ same one_. absurd (omega arith)
      ] refl)

-- the walk goes on at the parent
pub lower_goes : (links : List (Option ClockId)) (old now next : List ℕ) (c at k : ℕ) (p : ClockId) → Lowering links old now c at k → Steps links next now at → get_or next at 0 ≡ 0
    → get_or links at None ≡ Some p → Lowering links old next c p.0 (k + 1)
lower_goes links old now next c at k p walk step none link = record {
  size = sym step.size ∙ walk.size;
  sums = sums;
  begins = subst (λ (n : ℕ). Begins links next old c n) (sym (add-one k)) (stops_more links old now next c at k walk.begins walk.rises step none);
  rises = subst (λ (n : ℕ). Rises (up_in links) n c p.0) (sym (add-one k)) (rises_on (up_in links) k c at p.0 walk.rises (ap (option_map (λ (q : ClockId). q.0)) link));
} where
  sums : (d : ℕ) → get_or old d 0 + kids links next d + one p.0 d ≡ get_or next d 0 + kids links old d + one c d
  sums d =
      let before = walk.sums d in
      let up = step.counts d in
      let children : kids links now d ≡ kids links next d + one p.0 d = step.begun none d ∙ ap (λ (o : Option ClockId). kids links next d + cond (leads d o) 1 0) link in
      omega arith

-- it ends where there is no parent
pub lower_ends : (links : List (Option ClockId)) (old now next : List ℕ) (c at k : ℕ) → Lowering links old now c at k → Steps links next now at → get_or next at 0 ≡ 0
    → get_or links at None ≡ None → OneMore links next old c × Begins links next old c (k + 1)
lower_ends links old now next c at k walk step none link = (
  record { size = sym walk.size ∙ step.size; sums = sums },
  subst (λ (n : ℕ). Begins links next old c n) (sym (add-one k)) (stops_more links old now next c at k walk.begins walk.rises step none),
) where
  sums : (d : ℕ) → get_or old d 0 + kids links next d ≡ get_or next d 0 + kids links old d + one c d
  sums d =
      let before = walk.sums d in
      let up = step.counts d in
      let children : kids links now d ≡ kids links next d + 0 = step.begun none d ∙ ap (λ (o : Option ClockId). kids links next d + cond (leads d o) 1 0) link in
      omega arith

-- and where the count isn't 0
pub lower_stops : (links : List (Option ClockId)) (old now next : List ℕ) (c at k : ℕ) → Lowering links old now c at k → Steps links next now at → 0 < get_or next at 0
    → OneMore links next old c × Begins links next old c k
lower_stops links old now next c at k walk step some = (
  record { size = sym walk.size ∙ step.size; sums = sums },
  stops_same links old now next c at k walk.begins step some,
) where
  sums : (d : ℕ) → get_or old d 0 + kids links next d ≡ get_or next d 0 + kids links old d + one c d
  sums d =
      let before = walk.sums d in
      let up = step.counts d in
      let children = step.on some d in
      omega arith
