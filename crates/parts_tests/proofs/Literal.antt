-- The tables of the tests.
use Rattle.std.proofs.Common.{◌≡◌, ℕ, ◌<◌, ◌∷◌, [], ap, refl, sym, ◌∙◌, subst, arith, false, nat_eq}
use Rattle.std.specs.List.{IsDistinct}
use Rattle.std.proofs.lemmas.List.Elements.{All-from_recursion}
use Rattle.kind_math.specs.declared.table_row.TableRow.{TableRow}
use Rattle.kind_math.specs.Tables.{IsTable}

positive : (d k : ℕ) → d ≡ k → 0 < k → 0 < d
positive d k is some = omega (arith, is, some)

differ : (a b : ℕ) {k l : ℕ} → a ≡ k → b ≡ l → nat_eq k l ≡ false → nat_eq a b ≡ false
differ a b is is' other = ap (λ n. nat_eq n b) is ∙ ap (nat_eq _) is' ∙ other

-- rows in the order of their values
pub table_in_order : (a b d : TableRow) → a ≡ record { value = 0; div = 1 } → b ≡ record { value = 1; div = 4 } → d ≡ record { value = 3; div = 10 } → IsTable (a ∷ b ∷ d ∷ [])
unfolding IsDistinct
table_in_order a b d is_a is_b is_d = record {
  some = omega arith;
  divides = All-from_recursion (λ row. 0 < row.div) (a ∷ b ∷ d ∷ []) (positive a.div 1 (ap (λ r. r.div) is_a) (omega arith), (positive b.div 4 (ap (λ r. r.div) is_b) (omega arith), (positive d.div 10 (ap (λ r. r.div) is_d) (omega arith), tt)));
  apart = ((differ a.value b.value (ap (λ r. r.value) is_a) (ap (λ r. r.value) is_b) refl, (differ a.value d.value (ap (λ r. r.value) is_a) (ap (λ r. r.value) is_d) refl, tt)), ((differ b.value d.value (ap (λ r. r.value) is_b) (ap (λ r. r.value) is_d) refl, tt), (tt, tt)));
}

-- one row
pub table_of_one_row : (a : TableRow) → a ≡ record { value = 9; div = 7 } → IsTable (a ∷ [])
unfolding IsDistinct
table_of_one_row a is_a = record {
  some = omega arith;
  divides = All-from_recursion (λ row. 0 < row.div) (a ∷ []) (positive a.div 7 (ap (λ r. r.div) is_a) (omega arith), tt);
  apart = (tt, tt);
}

-- rows in no order, with divisors that stand twice
pub table_without_order : (a b d e f : TableRow) → a ≡ record { value = 5; div = 6 } → b ≡ record { value = 2; div = 3 } → d ≡ record { value = 7; div = 12 } → e ≡ record { value = 4; div = 3 } → f ≡ record { value = 0; div = 6 } → IsTable (a ∷ b ∷ d ∷ e ∷ f ∷ [])
unfolding IsDistinct
table_without_order a b d e f is_a is_b is_d is_e is_f = record {
  some = omega arith;
  divides = All-from_recursion (λ row. 0 < row.div) (a ∷ b ∷ d ∷ e ∷ f ∷ []) (positive a.div 6 (ap (λ r. r.div) is_a) (omega arith), (positive b.div 3 (ap (λ r. r.div) is_b) (omega arith), (positive d.div 12 (ap (λ r. r.div) is_d) (omega arith), (positive e.div 3 (ap (λ r. r.div) is_e) (omega arith), (positive f.div 6 (ap (λ r. r.div) is_f) (omega arith), tt)))));
  apart = ((differ a.value b.value (ap (λ r. r.value) is_a) (ap (λ r. r.value) is_b) refl, (differ a.value d.value (ap (λ r. r.value) is_a) (ap (λ r. r.value) is_d) refl, (differ a.value e.value (ap (λ r. r.value) is_a) (ap (λ r. r.value) is_e) refl, (differ a.value f.value (ap (λ r. r.value) is_a) (ap (λ r. r.value) is_f) refl, tt)))), ((differ b.value d.value (ap (λ r. r.value) is_b) (ap (λ r. r.value) is_d) refl, (differ b.value e.value (ap (λ r. r.value) is_b) (ap (λ r. r.value) is_e) refl, (differ b.value f.value (ap (λ r. r.value) is_b) (ap (λ r. r.value) is_f) refl, tt))), ((differ d.value e.value (ap (λ r. r.value) is_d) (ap (λ r. r.value) is_e) refl, (differ d.value f.value (ap (λ r. r.value) is_d) (ap (λ r. r.value) is_f) refl, tt)), ((differ e.value f.value (ap (λ r. r.value) is_e) (ap (λ r. r.value) is_f) refl, tt), (tt, tt)))));
}
