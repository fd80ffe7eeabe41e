-- Each clock keeps every rule, or there is a first rule that a clock breaks.
use Rattle.std.proofs.Common.{◌≡◌, ◌⊎◌, Bool, true, false, ℕ, zero, suc, ◌+◌, ◌<◌, length, refl, ap, ◌∙◌, inl, inr, arith}
use Rattle.std.specs.Prelude.{IsTrue}
use Rattle.std.proofs.lemmas.Bool.{cases_lt}
use Rattle.clk_base.specs.Description.{Description, EachClock, IsFirstFailing}
use Rattle.clk_base.specs.Valid.{Rule, counts, ranges, bank, apart, acyclic, levels, bounded, keeps, number, IsFirstBroken}
use Rattle.clk_base.proofs.Kept.{KeepsBelow, keeps_none, keeps_next, broken-next, last_number}

-- ## One test

-- the places below n pass the test, or there is a first one that fails it
abbrev Passes : (ℕ → Bool) → ℕ → Type 0
Passes test n = (k : ℕ) → k < n → IsTrue (test k)

abbrev Fails : (ℕ → Bool) → ℕ → Type 0
Fails test n = (c : ℕ) × (c < n) × (test c ≡ false) × Passes test c

passed_or_failed : (test : ℕ → Bool) (n : ℕ) → Passes test n ⊎ Fails test n
passed_or_failed test zero = inl (λ k lt. absurd (omega arith))
passed_or_failed test (suc n) =
    elim (passed_or_failed test n) [
      | inl passed ↦
          elim (test n) as (λ b. test n ≡ b → Passes test (suc n) ⊎ Fails test (suc n)) [
            | true ↦ λ e. inl (λ k lt. elim (cases_lt k n) [ inl below ↦ passed k below | inr here ↦ (let same : k ≡ n = omega arith in ap test same ∙ e) ])
            | false ↦ λ e. inr (n, omega arith, e, passed)
          ] refl
      | inr failed ↦ inr (failed.0, omega (arith, failed.1), failed.2, failed.3)
    ]

each_or_first : (defs : Description) (test : ℕ → Bool) → EachClock defs test ⊎ ((c : ℕ) × IsFirstFailing defs test c)
each_or_first defs test =
    elim (passed_or_failed test (length defs)) [
      | inl passed ↦ inl passed
      | inr failed ↦ inr (failed.0, record { within = failed.1; fails = failed.2; before = failed.3 })
    ]

-- ## All rules

abbrev IsDecided : ℕ → Description → Type 0
IsDecided words defs = ((rule : Rule) → EachClock defs (keeps rule words defs)) ⊎ ((rule : Rule) × (c : ℕ) × IsFirstBroken words defs rule c)

-- where the rules before it are kept, this one is broken first, or it is kept and the next ones decide
next : (words : ℕ) (defs : Description) (rule : Rule) → KeepsBelow words defs (number rule) → (KeepsBelow words defs (number rule + 1) → IsDecided words defs) → IsDecided words defs
next words defs rule below go =
    elim (each_or_first defs (keeps rule words defs)) [
      | inl each ↦ go (keeps_next words defs rule below each)
      | inr first ↦ inr (rule, first.0, broken-next words defs rule first.0 below first.1)
    ]

pub rules_decided : (words : ℕ) (defs : Description) → ((rule : Rule) → EachClock defs (keeps rule words defs)) ⊎ ((rule : Rule) × (c : ℕ) × IsFirstBroken words defs rule c)
rules_decided words defs =
    next words defs counts (keeps_none words defs) (λ few. next words defs ranges few (λ right. next words defs bank right (λ inside. next words defs apart inside
    (λ own. next words defs acyclic own (λ none. next words defs levels none (λ short. next words defs bounded short (λ all. inl (λ r. all r (last_number r)))))))))
