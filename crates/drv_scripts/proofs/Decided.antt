-- Lines in sections spell a bundle or are refused.
use Rattle.std.proofs.Common.{◌⊎◌, ℕ, ◌+◌, List, length, refl, inl, inr}
use Rattle.std.specs.Prelude.{slice_index}
use Rattle.bundle_text.proofs.Rows.{kept_or_first}
use Rattle.bundle_clocks.specs.Said.{SaidClocks}
use Rattle.bundle_clocks.specs.Verdict as clock_verdict
use Rattle.bundle_clocks.proofs.Decided as clock_laws
use Rattle.bundle_sections.specs.Said.{Parts}
use Rattle.clk_base.proofs.Decided.{rules_decided}
use Rattle.drv_scripts.specs.declared.bundle.Bundle.{Bundle}
use Rattle.bundle_text.specs.declared.reason.Reason.{Reason}
use Rattle.drv_scripts.specs.Reasons.{rule_reason}
use Rattle.drv_scripts.specs.Spelled.{bundle_of}
use Rattle.drv_scripts.specs.Verdict.{line_fault, KeepsRules, PartsSpell, PartsRefuse}

abbrev pub ArePartsDecided : List (List ℕ) → Parts → Type 0
ArePartsDecided ls parts = ((b : Bundle) × PartsSpell ls parts b) ⊎ ((line : ℕ) × (reason : Reason) × PartsRefuse ls parts line reason)

-- the clocks keep every rule: the other lines have no fault, or one is the first with one
lines_decided : (ls : List (List ℕ)) (parts : Parts) (said : SaidClocks) → clock_verdict.Says ls parts.clocks said → KeepsRules parts.bank.words said.defs → ArePartsDecided ls parts
lines_decided ls parts said says rules =
    elim (kept_or_first (line_fault ls parts said) (length ls)) [
      | inl kept ↦ inl (bundle_of ls parts said, record { said = said; says = says; rules = rules; kept = kept; content = refl })
      | inr x ↦ inr (x.0 + 1, x.1, inr (inr (record { said = said; says = says; rules = rules; place = x.0; first = x.2; line_is = refl })))
    ]

-- the section of the clocks says them: they keep every rule, or one is the first that is broken
clocks_decided : (ls : List (List ℕ)) (parts : Parts) (said : SaidClocks) → clock_verdict.Says ls parts.clocks said → ArePartsDecided ls parts
clocks_decided ls parts said says =
    elim (rules_decided parts.bank.words said.defs) [
      | inl rules ↦ lines_decided ls parts said says rules
      | inr x ↦ inr (slice_index said.lines x.1, rule_reason x.0, inr (inl (record { said = said; says = says; breaks = record { rule = x.0; clock = x.1; first = x.2; line_is = refl; reason_is = refl } })))
    ]

pub parts_decided : (ls : List (List ℕ)) (parts : Parts) → ArePartsDecided ls parts
parts_decided ls parts =
    elim (clock_laws.section_decided parts.clocks.text ls parts.clocks) [
      | inl x ↦ clocks_decided ls parts x.0 x.1
      | inr x ↦ inr (x.0, x.1, inl x.2)
    ]
