-- The lines through the bank, and those of the sections behind it.
use Rattle.std.proofs.Common.{◌≡◌, ℕ, ◌+◌, ◌<◌, ◌≤◌, List, None, ◌∙◌, inl, inr, arith}
use Rattle.std.proofs.lemmas.Bool.{cases_lt, lt-ltb, le-ltb, cond-true, cond-false}
use Rattle.bundle_sections.specs.Sections.{SaidSection}
use Rattle.bundle_sections.specs.declared.section.BankSection.{BankSection}
use Rattle.bundle_text.specs.Firsts.{KeepsBelow}
use Rattle.drv_scripts.specs.declared.stop.Stop.{Stop}
use Rattle.drv_scripts.specs.declared.stop.Stop.TheVariants.{At, NoMemory}
use Rattle.drv_scripts.specs.BankLines.{word_fault}
use Rattle.drv_scripts.specs.Judged.{KeepsBetween, Stops}
use Rattle.drv_scripts.specs.Sections.{Around, fault_among, fault_at}
use Rattle.drv_scripts.specs.Steps.{begins, StopsFirst}

fault-front : (a : Around) (b : BankSection) (others : List SaidSection) (k : ℕ) → k ≤ b.place → b.place < b.end → fault_at a b others k ≡ None
unfolding fault_at
fault-front a b others k low some = cond-true _ _ _ (lt-ltb k b.end (omega arith)) ∙ cond-false _ _ _ (le-ltb b.place k low)

fault-word : (a : Around) (b : BankSection) (others : List SaidSection) (k : ℕ) → b.place < k → k < b.end → fault_at a b others k ≡ word_fault b.words a.lines k
unfolding fault_at
fault-word a b others k low high = cond-true _ _ _ (lt-ltb k b.end high) ∙ cond-true _ _ _ (lt-ltb b.place k low)

fault-later : (a : Around) (b : BankSection) (others : List SaidSection) (k : ℕ) → b.end ≤ k → fault_at a b others k ≡ fault_among a 0 others k
unfolding fault_at
fault-later a b others k low = cond-false _ _ _ (le-ltb k b.end low)

-- no line through the bank has a fault
pub kept_bank : (a : Around) (b : BankSection) (others : List SaidSection) → b.place < b.end → KeepsBetween (word_fault b.words a.lines) (b.place + 1) b.end → KeepsBelow (fault_at a b others) b.end
kept_bank a b others some read k high =
    elim (cases_lt b.place k) [
      | inl behind ↦ fault-word a b others k behind high ∙ read k (omega arith) high
      | inr front ↦ fault-front a b others k (omega (arith, front)) some
    ]

-- the first fault of the bank's lines is the first of all
pub stop_bank : (a : Around) (b : BankSection) (others : List SaidSection) (n : ℕ) (stop : Stop) → b.place < b.end → b.end ≤ n → Stops (word_fault b.words a.lines) (b.place + 1) b.end stop
    → StopsFirst (fault_at a b others) n stop
stop_bank a b others n (At place reason) some within h =
    let low = h.low in
    let high = h.high in
    record {
      within = omega (arith, high);
      before = λ k lt.
          elim (cases_lt b.place k) [
            | inl behind ↦ fault-word a b others k behind (omega (arith, high)) ∙ h.before k (omega arith) lt
            | inr front ↦ fault-front a b others k (omega (arith, front)) some
          ];
      found = fault-word a b others place (omega (arith, low)) high ∙ h.found;
    }
stop_bank a b others n NoMemory some within h = tt

-- no line has a fault
pub kept_whole : (a : Around) (b : BankSection) (others : List SaidSection) (n : ℕ) → KeepsBelow (fault_at a b others) b.end → b.end ≡ begins n others → KeepsBetween (fault_among a 0 others) (begins n others) n
    → KeepsBelow (fault_at a b others) n
kept_whole a b others n kept next read k high =
    elim (cases_lt k b.end) [
      | inl front ↦ kept k front
      | inr behind ↦ fault-later a b others k (omega (arith, behind)) ∙ read k (omega (arith, behind, next)) high
    ]

-- the first fault of the sections behind it is the first of all
pub stop_whole : (a : Around) (b : BankSection) (others : List SaidSection) (n : ℕ) (stop : Stop) → KeepsBelow (fault_at a b others) b.end → b.end ≡ begins n others → Stops (fault_among a 0 others) (begins n others) n stop
    → StopsFirst (fault_at a b others) n stop
stop_whole a b others n (At place reason) kept next h =
    let low = h.low in
    record {
      within = h.high;
      before = λ k lt.
          elim (cases_lt k b.end) [
            | inl front ↦ kept k front
            | inr behind ↦ fault-later a b others k (omega (arith, behind)) ∙ h.before k (omega (arith, behind, next)) lt
          ];
      found = fault-later a b others place (omega (arith, low, next)) ∙ h.found;
    }
stop_whole a b others n NoMemory kept next h = tt
