-- The clocks of the bundle by their places.
use Rattle.std.proofs.Common.{◌≡◌, ℕ, suc, ◌+◌, ◌-◌, ◌*◌, ◌/◌, ◌%◌, ◌<◌, ◌≤◌, List, ◌∷◌, drop, get_or, decimal, refl, sym, ap, subst, ◌∙◌, inl, inr, arith}
use Rattle.std.specs.List.{AllByRecursion}
use Rattle.std.proofs.lemmas.Bool.{cases_eq}
use Rattle.gen_laws.specs.Clocks.{Part, root, pll, divider, gate, parts_of, all_parts, place_of, name_of}
use Rattle.gen_laws.proofs.Decimals.{same_decimal}
use Rattle.gen_laws.proofs.Listed.{up_to-at, each-up_to}
use Rattle.gen_laws.proofs.RowPlaces.{parts-begin}

-- the clock at a place
abbrev pub part_at : ℕ → ℕ → Part
part_at n p = get_or (all_parts n) p root

-- the clock of a driver, by its place among the driver's
driver-part : (n i j p : ℕ) → i < n → j < 3 → p ≡ 3 * i + 1 + j → part_at n p ≡ get_or (parts_of (suc i)) j root
driver-part n i j p low within there =
    let one : p ≡ suc (3 * i + j) = omega arith in
    ap (part_at n) one ∙ up_to-at parts_of (λ k. 3 * k) parts-begin n i j root low within

pub pll-at : (n i p : ℕ) → i < n → p ≡ 3 * i + 1 → part_at n p ≡ pll (suc i)
pll-at n i p low there = driver-part n i 0 p low (omega arith) (omega arith)

pub divider-at : (n i p : ℕ) → i < n → p ≡ 3 * i + 2 → part_at n p ≡ divider (suc i)
divider-at n i p low there = driver-part n i 1 p low (omega arith) (omega arith)

pub gate-at : (n i p : ℕ) → i < n → p ≡ 3 * i + 3 → part_at n p ≡ gate (suc i)
gate-at n i p low there = driver-part n i 2 p low (omega arith) (omega arith)

-- what holds of the clocks of a driver at their places
pub record OfDriver (P : ℕ → Part → Type 0) (i : ℕ) : Type 0 where
  pub at_pll : P (3 * i + 1) (pll (suc i))
  pub at_divider : P (3 * i + 2) (divider (suc i))
  pub at_gate : P (3 * i + 3) (gate (suc i))

-- what holds of the root and of each driver's clocks holds at each place
pub each-part : (P : ℕ → Part → Type 0) (n : ℕ) → P 0 root → ((i : ℕ) → i < n → OfDriver P i) → (p : ℕ) → p < 3 * n + 1 → P p (part_at n p)
each-part P n first drivers p within =
    elim (cases_eq p 0) [
      | inl none ↦ subst (λ q. P q (part_at n q)) (sym none) first
      | inr some ↦
          let q : ℕ = p - 1 in
          let i : ℕ = q / 3 in
          let j : ℕ = q % 3 in
          let split : 3 * i + j ≡ q = omega arith in
          let small : j < 3 = omega arith in
          let low : i < n = omega arith in
          let of = drivers i low in
          elim (cases_eq j 0) [
            | inl zero_j ↦ let there : p ≡ 3 * i + 1 = omega arith in at_place p (3 * i + 1) (pll (suc i)) there (pll-at n i p low there) of.at_pll
            | inr not_0 ↦
                elim (cases_eq j 1) [
                  | inl one_j ↦ let there : p ≡ 3 * i + 2 = omega arith in at_place p (3 * i + 2) (divider (suc i)) there (divider-at n i p low there) of.at_divider
                  | inr not_1 ↦ let there : p ≡ 3 * i + 3 = omega arith in at_place p (3 * i + 3) (gate (suc i)) there (gate-at n i p low there) of.at_gate
                ]
          ]
    ]
  where
    at_place : (p q : ℕ) (part : Part) → p ≡ q → part_at n p ≡ part → P q part → P p (part_at n p)
    at_place p q part there e h = subst (λ x. P p x) (sym e) (subst (λ m. P m part) (sym there) h)

-- the number of a clock's driver is small
unfoldable pub IsFew : Part → Type 0
IsFew root = Unit {0}
IsFew (pll k) = (0 < k) × (k ≤ 64)
IsFew (divider k) = (0 < k) × (k ≤ 64)
IsFew (gate k) = (0 < k) × (k ≤ 64)

pub few-at : (n p : ℕ) → n ≤ 64 → p < 3 * n + 1 → IsFew (part_at n p)
unfolding IsFew
few-at n p few within =
    each-part (λ _ part. IsFew part) n tt (λ i low. record { at_pll = (omega arith, omega arith); at_divider = (omega arith, omega arith); at_gate = (omega arith, omega arith) }) p within

pub few-parts : (n : ℕ) → n ≤ 64 → AllByRecursion IsFew (all_parts n)
unfolding IsFew
few-parts n few = (tt, each-up_to IsFew parts_of n (λ k low. ((omega arith, omega arith), ((omega arith, omega arith), ((omega arith, omega arith), tt)))))

-- a clock knows its place
pub place-at : (n p : ℕ) → p < 3 * n + 1 → place_of (part_at n p) ≡ p
place-at n p within =
    each-part (λ q part. place_of part ≡ q) n refl (λ i low. record { at_pll = omega arith; at_divider = omega arith; at_gate = omega arith }) p within

-- two clocks of one name are one
same_number : (c k j : ℕ) → k ≤ 64 → j ≤ 64 → c ∷ decimal k ≡ c ∷ decimal j → k ≡ j
same_number c k j few_k few_j e = let numbers : decimal k ≡ decimal j = ap (drop 1) e in same_decimal k j (omega arith) (omega arith) numbers

other_letter : (xs ys : List ℕ) → xs ≡ ys → get_or xs 0 0 ≡ get_or ys 0 0
other_letter xs ys e = ap (λ zs. get_or zs 0 0) e

pub same_place : (a b : Part) → IsFew a → IsFew b → name_of a ≡ name_of b → place_of a ≡ place_of b
unfolding IsFew
same_place root root fa fb e = refl
same_place root (pll j) fa fb e = absurd (omega (arith, other_letter (name_of root) (name_of (pll j)) e))
same_place root (divider j) fa fb e = absurd (omega (arith, other_letter (name_of root) (name_of (divider j)) e))
same_place root (gate j) fa fb e = absurd (omega (arith, other_letter (name_of root) (name_of (gate j)) e))
same_place (pll k) root fa fb e = absurd (omega (arith, other_letter (name_of (pll k)) (name_of root) e))
same_place (pll k) (pll j) fa fb e = ap (λ m. place_of (pll m)) (same_number 112 k j fa.1 fb.1 e)
same_place (pll k) (divider j) fa fb e = absurd (omega (arith, other_letter (name_of (pll k)) (name_of (divider j)) e))
same_place (pll k) (gate j) fa fb e = absurd (omega (arith, other_letter (name_of (pll k)) (name_of (gate j)) e))
same_place (divider k) root fa fb e = absurd (omega (arith, other_letter (name_of (divider k)) (name_of root) e))
same_place (divider k) (pll j) fa fb e = absurd (omega (arith, other_letter (name_of (divider k)) (name_of (pll j)) e))
same_place (divider k) (divider j) fa fb e = ap (λ m. place_of (divider m)) (same_number 100 k j fa.1 fb.1 e)
same_place (divider k) (gate j) fa fb e = absurd (omega (arith, other_letter (name_of (divider k)) (name_of (gate j)) e))
same_place (gate k) root fa fb e = absurd (omega (arith, other_letter (name_of (gate k)) (name_of root) e))
same_place (gate k) (pll j) fa fb e = absurd (omega (arith, other_letter (name_of (gate k)) (name_of (pll j)) e))
same_place (gate k) (divider j) fa fb e = absurd (omega (arith, other_letter (name_of (gate k)) (name_of (divider j)) e))
same_place (gate k) (gate j) fa fb e = ap (λ m. place_of (gate m)) (same_number 103 k j fa.1 fb.1 e)

-- clocks at different places have different names
pub names_apart : (n p q : ℕ) → n ≤ 64 → p < 3 * n + 1 → q < 3 * n + 1 → name_of (part_at n p) ≡ name_of (part_at n q) → p ≡ q
names_apart n p q few at_p at_q e =
    sym (place-at n p at_p) ∙ (same_place (part_at n p) (part_at n q) (few-at n p few at_p) (few-at n q few at_q) e ∙ place-at n q at_q)
