-- Laws on a walk: what a count that goes up or down by one does to the sums.
use Rattle.std.proofs.Common.{◌≡◌, ℕ, zero, suc, ◌+◌, ◌<◌, ◌≤◌, ◌&&◌, Bool, true, false, cond, List, [], ◌∷◌, Option, None, refl, sym, ap, ◌∙◌, arith, length, set, get_or, nat_eq, nat_lt}
use Rattle.std.proofs.lemmas.Bool.Decides.{nat_tests}
use Rattle.std.proofs.lemmas.List.{get_or-set_same, get_or-set_other}
use Rattle.clk_base.specs.declared.clock.ClockId.{ClockId}
use Rattle.counts_core.specs.Sums.{leads, one, mark, kids}

-- ---- one count changes

-- the children that count are those of before, but for the clock whose count changed
pub kids-set : (links : List (Option ClockId)) (counts : List ℕ) (a v d : ℕ) → length links ≡ length counts → a < length counts
    → kids links (set counts a v) d + mark (leads d (get_or links a None)) (get_or counts a 0) ≡ kids links counts d + mark (leads d (get_or links a None)) v
kids-set [] [] a v d size within = absurd (omega arith)
kids-set [] (n ∷ ns) a v d size within = absurd (omega arith)
kids-set (l ∷ ls) [] a v d size within = absurd (omega arith)
kids-set (l ∷ ls) (n ∷ ns) zero v d size within = omega arith
kids-set (l ∷ ls) (n ∷ ns) (suc a) v d size within =
    let rest = kids-set ls ns a v d (omega arith) (omega arith) in
    omega arith

-- a count as it stands after one changed
pub count-set : (counts : List ℕ) (a v d : ℕ) → a < length counts → get_or (set counts a v) d 0 ≡ cond (nat_eq a d) v (get_or counts d 0)
count-set counts a v d within =
    elim (nat_eq a d) as (λ t. nat_eq a d ≡ t → get_or (set counts a v) d 0 ≡ cond t v (get_or counts d 0)) [
      | true ↦ λ e. let same : a ≡ d = same_number a d e in ap (λ (x : ℕ). get_or (set counts a v) x 0) (sym same) ∙ get_or-set_same counts a v 0 within
      | false ↦ λ e. get_or-set_other counts a d v 0 (λ s. other_number a d e (sym s))
    ] refl where
      same_number : (x y : ℕ) → nat_eq x y ≡ true → x ≡ y
      same_number x y e = grind (arith, nat_tests)

      other_number : (x y : ℕ) → nat_eq x y ≡ false → x ≡ y → ⊥
      other_number x y e s = grind (arith, nat_tests)

-- one more at a clock is one more there, and as many as before elsewhere
pub count-more : (counts : List ℕ) (a d : ℕ) → a < length counts → get_or (set counts a (get_or counts a 0 + 1)) d 0 ≡ get_or counts d 0 + one a d
count-more counts a d within =
    count-set counts a (get_or counts a 0 + 1) d within
    ∙ elim (nat_eq a d) as (λ t. nat_eq a d ≡ t → cond t (get_or counts a 0 + 1) (get_or counts d 0) ≡ get_or counts d 0 + cond t 1 0) [
      | true ↦ λ e. let same : a ≡ d = same_number a d e in ap (λ (x : ℕ). get_or counts x 0 + 1) same
      | false ↦ λ e. omega arith
    ] refl where
      same_number : (x y : ℕ) → nat_eq x y ≡ true → x ≡ y
      same_number x y e = grind (arith, nat_tests)

-- a child that counted before counts after one more
pub mark-more : (t : Bool) (n : ℕ) → 0 < n → mark t (n + 1) ≡ mark t n
mark-more true n some = grind (arith, nat_tests)
mark-more false n some = refl

pub mark-none : (t : Bool) → mark t 0 ≡ 0
mark-none true = refl
mark-none false = refl

pub mark-first : (t : Bool) (n : ℕ) → n ≡ 0 → mark t (n + 1) ≡ cond t 1 0
mark-first true n none = grind (arith, nat_tests)
mark-first false n none = refl

-- where a clock's count leaves 0, one child more counts for its parent
pub kids-begun : (links : List (Option ClockId)) (counts : List ℕ) (a d : ℕ) → length links ≡ length counts → a < length counts → get_or counts a 0 ≡ 0
    → kids links (set counts a (get_or counts a 0 + 1)) d ≡ kids links counts d + cond (leads d (get_or links a None)) 1 0
kids-begun links counts a d size within none =
    let changed = kids-set links counts a (get_or counts a 0 + 1) d size within in
    let before : mark (leads d (get_or links a None)) (get_or counts a 0) ≡ 0 = ap (mark (leads d (get_or links a None))) none ∙ mark-none (leads d (get_or links a None)) in
    let after = mark-first (leads d (get_or links a None)) (get_or counts a 0) none in
    omega arith

-- where it had one before, none more
pub kids-more : (links : List (Option ClockId)) (counts : List ℕ) (a d : ℕ) → length links ≡ length counts → a < length counts → 0 < get_or counts a 0
    → kids links (set counts a (get_or counts a 0 + 1)) d ≡ kids links counts d
kids-more links counts a d size within some =
    let changed = kids-set links counts a (get_or counts a 0 + 1) d size within in
    let same = mark-more (leads d (get_or links a None)) (get_or counts a 0) some in
    omega arith

-- ---- how many clocks don't count

-- one for a count that is 0
abbrev pub silent : ℕ → ℕ
silent n = cond (nat_eq n 0) 1 0

abbrev pub zeros : List ℕ → ℕ
zeros [] = 0
zeros (n ∷ ns) = silent n + zeros ns

silent-none : (n : ℕ) → n ≡ 0 → silent n ≡ 1
silent-none n none = ap silent none

silent-some : (n : ℕ) → silent (n + 1) ≡ 0
silent-some n = grind (arith, nat_tests)

pub zeros-set : (ns : List ℕ) (a v : ℕ) → a < length ns → zeros (set ns a v) + silent (get_or ns a 0) ≡ zeros ns + silent v
zeros-set [] a v within = absurd (omega arith)
zeros-set (n ∷ ns) zero v within = omega arith
zeros-set (n ∷ ns) (suc a) v within = let rest = zeros-set ns a v (omega arith) in omega arith

pub zeros-le : (ns : List ℕ) → zeros ns ≤ length ns
zeros-le [] = omega arith
zeros-le (n ∷ ns) =
    let rest = zeros-le ns in
    elim (nat_eq n 0) as (λ t. cond t 1 0 + zeros ns ≤ suc (length ns)) [
      | true ↦ omega arith
      | false ↦ omega arith
    ]

-- one clock fewer doesn't count after its first holder
pub zeros-begun : (ns : List ℕ) (a : ℕ) → a < length ns → get_or ns a 0 ≡ 0 → zeros (set ns a (get_or ns a 0 + 1)) + 1 ≡ zeros ns
zeros-begun ns a within none =
    let changed = zeros-set ns a (get_or ns a 0 + 1) within in
    let before = silent-none (get_or ns a 0) none in
    let after = silent-some (get_or ns a 0) in
    omega arith

-- and one more after its last
pub zeros-stopped : (ns : List ℕ) (a : ℕ) → a < length ns → get_or ns a 0 ≡ 0 + 1 → zeros (set ns a 0) ≡ zeros ns + 1
zeros-stopped ns a within last =
    let changed = zeros-set ns a 0 within in
    let before : silent (get_or ns a 0) ≡ 0 = ap silent last ∙ silent-some 0 in
    let after = silent-none 0 refl in
    omega arith

-- a first holder keeps every count small
pub one-le : (counts : List ℕ) (a d most next : ℕ) → 1 ≤ most → next ≡ get_or counts d 0 + one a d → get_or counts a 0 ≡ 0 → get_or counts d 0 ≤ most → next ≤ most
one-le counts a d most next room is none before =
    elim (nat_eq a d) as (λ t. nat_eq a d ≡ t → next ≤ most) [
      | true ↦ λ e.
          let here : get_or counts d 0 ≡ 0 = ap (λ (x : ℕ). get_or counts x 0) (sym (same_number a d e)) ∙ none in
          let added : one a d ≡ 1 = ap (λ (t : Bool). cond t 1 0) e in
          omega arith
      | false ↦ λ e. let added : one a d ≡ 0 = ap (λ (t : Bool). cond t 1 0) e in omega arith
    ] refl where
      same_number : (x y : ℕ) → nat_eq x y ≡ true → x ≡ y
      same_number x y e = grind (arith, nat_tests)

-- a clock has no more children that count than there are clocks
pub kids-le : (links : List (Option ClockId)) (counts : List ℕ) (d : ℕ) → kids links counts d ≤ length links
kids-le [] counts d = omega arith
kids-le (l ∷ ls) [] d = omega arith
kids-le (l ∷ ls) (n ∷ ns) d =
    let rest = kids-le ls ns d in
    elim (leads d l && nat_lt 0 n) as (λ t. cond t 1 0 + kids ls ns d ≤ suc (length ls)) [
      | true ↦ omega arith
      | false ↦ omega arith
    ]
