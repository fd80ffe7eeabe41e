-- Laws on the low 32 bits of numbers.
use Rattle.std.proofs.Common.{◌≡◌, ℕ, zero, suc, ◌%◌, ◌^◌, ◌<◌, List, [], ◌∷◌, refl, ap, arith, set}
use Rattle.reg_bank.specs.Memory.{low_words}

low-word : (value : ℕ) → value < 2 ^ 32 → value % 2 ^ 32 ≡ value
low-word value small = omega arith

-- a word that is written stands there
pub low_words-set : (values : List ℕ) (place value : ℕ) → value < 2 ^ 32 → low_words (set values place value) ≡ set (low_words values) place value
low_words-set [] place value small = refl
low_words-set (x ∷ xs) zero value small = ap (λ (n : ℕ). n ∷ low_words xs) (low-word value small)
low_words-set (x ∷ xs) (suc place) value small = ap (λ (ns : List ℕ). (x % 2 ^ 32) ∷ ns) (low_words-set xs place value small)
