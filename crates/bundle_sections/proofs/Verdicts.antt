-- Lines have one verdict.
use Rattle.std.proofs.Common.{◌≡◌, ◌⊎◌, ℕ, ◌+◌, List, Option, Some, None, length, refl, ap, sym, ◌∙◌, inl, inr}
use Rattle.std.proofs.lemmas.Bool.{both_ways}
use Rattle.std.proofs.lemmas.Option.{same_Some}
use Rattle.bundle_text.specs.Firsts.{KeepsBelow}
use Rattle.bundle_text.proofs.Rows.{First-kept, First-unique, kept_or_first}
use Rattle.bundle_text.specs.declared.reason.Reason.{Reason}
use Rattle.bundle_text.specs.declared.reason.Reason.TheVariants.{MissingSection}
use Rattle.bundle_sections.specs.Reads.{parts_of}
use Rattle.bundle_sections.specs.Said.{Parts}
use Rattle.bundle_sections.specs.Sections.{text_fault, fault_at, sections_of, has_needed}
use Rattle.bundle_sections.specs.Verdict.{Accepts, Faults, IsText, IsPlaced, Refuses}
use Rattle.bundle_sections.proofs.Needed.{missing, parts_back, parts_found, needed_there}

pub same_division : (ls : List (List ℕ)) (a b : Parts) → Accepts ls a → Accepts ls b → a ≡ b
same_division ls a b one other =
    same_Some a b (sym (parts_back a) ∙ (ap parts_of (sym one.sections ∙ other.sections) ∙ parts_back b))

fault_kept : (test : ℕ → Option Reason) (n line : ℕ) (reason : Reason) → KeepsBelow test n → Faults test n line reason → ⊥
fault_kept test n line reason kept fault = First-kept test n fault.place reason kept fault.first

fault_same : (test : ℕ → Option Reason) (n line other : ℕ) (reason why : Reason) → Faults test n line reason → Faults test n other why → (line ≡ other) × (reason ≡ why)
fault_same test n line other reason why a b =
    let same = First-unique test n a.place b.place reason why a.first b.first in
    (a.line_is ∙ (ap (λ k. k + 1) same.0 ∙ sym b.line_is), same.1)

pub never_both : (ls : List (List ℕ)) (parts : Parts) (end line : ℕ) (reason : Reason) → Accepts ls parts → Refuses ls end line reason → ⊥
never_both ls parts end line reason here (inl text) = fault_kept (text_fault ls) (length ls) line reason here.text text
never_both ls parts end line reason here (inr (inl placed)) = fault_kept (fault_at ls) (length ls + 1) line reason here.placed placed.fault
never_both ls parts end line reason here (inr (inr lacks)) = both_ways _ lacks.missing (ap has_needed here.sections ∙ needed_there parts)

pub same_refusal : (ls : List (List ℕ)) (end line other : ℕ) (reason why : Reason) → Refuses ls end line reason → Refuses ls end other why → (line ≡ other) × (reason ≡ why)
same_refusal ls end line other reason why (inl a) (inl b) = fault_same (text_fault ls) (length ls) line other reason why a b
same_refusal ls end line other reason why (inl a) (inr (inl b)) = absurd (fault_kept (text_fault ls) (length ls) line reason b.text a)
same_refusal ls end line other reason why (inl a) (inr (inr b)) = absurd (fault_kept (text_fault ls) (length ls) line reason b.text a)
same_refusal ls end line other reason why (inr (inl a)) (inl b) = absurd (fault_kept (text_fault ls) (length ls) other why a.text b)
same_refusal ls end line other reason why (inr (inl a)) (inr (inl b)) = fault_same (fault_at ls) (length ls + 1) line other reason why a.fault b.fault
same_refusal ls end line other reason why (inr (inl a)) (inr (inr b)) = absurd (fault_kept (fault_at ls) (length ls + 1) line reason b.placed a.fault)
same_refusal ls end line other reason why (inr (inr a)) (inl b) = absurd (fault_kept (text_fault ls) (length ls) other why a.text b)
same_refusal ls end line other reason why (inr (inr a)) (inr (inl b)) = absurd (fault_kept (fault_at ls) (length ls + 1) other why a.placed b.fault)
same_refusal ls end line other reason why (inr (inr a)) (inr (inr b)) = (a.line_is ∙ sym b.line_is, a.reason_is ∙ sym b.reason_is)

abbrev IsDecided : List (List ℕ) → ℕ → Type 0
IsDecided ls end = ((parts : Parts) × Accepts ls parts) ⊎ ((line : ℕ) × (reason : Reason) × Refuses ls end line reason)

-- no line has a fault: the sections that must be there are there, or not
decided_placed : (ls : List (List ℕ)) (end : ℕ) → IsText ls → IsPlaced ls → IsDecided ls end
decided_placed ls end text placed =
    elim (parts_of (sections_of ls)) as (λ o. parts_of (sections_of ls) ≡ o → IsDecided ls end) [
      | Some parts ↦ λ e. inl (parts, record { text = text; placed = placed; sections = parts_found (sections_of ls) parts e })
      | None ↦ λ e. inr (end, MissingSection, inr (inr (record { text = text; placed = placed; missing = missing ls placed e; line_is = refl; reason_is = refl })))
    ] refl

decided_text : (ls : List (List ℕ)) (end : ℕ) → IsText ls → IsDecided ls end
decided_text ls end text =
    elim (kept_or_first (fault_at ls) (length ls + 1)) [
      | inl placed ↦ decided_placed ls end text placed
      | inr fault ↦ inr (fault.0 + 1, fault.1, inr (inl (record { text = text; fault = record { place = fault.0; first = fault.2; line_is = refl } })))
    ]

pub each_decided : (ls : List (List ℕ)) (end : ℕ) → IsDecided ls end
each_decided ls end =
    elim (kept_or_first (text_fault ls) (length ls)) [
      | inl text ↦ decided_text ls end text
      | inr fault ↦ inr (fault.0 + 1, fault.1, inl (record { place = fault.0; first = fault.2; line_is = refl }))
    ]
