-- Bytes have one verdict.
use Rattle.std.proofs.Common.{◌≡◌, ◌⊎◌, Bool, ℕ, ◌+◌, ◌<◌, ◌≤◌, List, length, refl, ap, subst, sym, ◌∙◌, inl, inr, arith}
use Rattle.std.specs.Prelude.{◌==◌, if◌then◌else◌, slice_index}
use Rattle.std.specs.Str.Lines.{lines}
use Rattle.std.proofs.lemmas.Bool.{both_ways, cases_lt, lt-ltb}
use Rattle.bundle_text.specs.Firsts.{First, KeepsBelow}
use Rattle.bundle_text.proofs.Rows.{First-kept, First-unique}
use Rattle.bundle_clocks.specs.Said.{SaidClocks}
use Rattle.bundle_clocks.specs.Verdict as clock_verdict
use Rattle.bundle_clocks.proofs.Verdicts as clock_laws
use Rattle.bundle_sections.specs.Said.{Parts}
use Rattle.bundle_sections.specs.Verdict as section_verdict
use Rattle.bundle_sections.proofs.Verdicts as section_laws
use Rattle.clk_base.specs.Description.{Description, IsFirstFailing}
use Rattle.clk_base.specs.Valid.{Rule, keeps, number, IsFirstBroken, counts, ranges, bank, apart, acyclic, levels, bounded}
use Rattle.clk_io.specs.declared.reading.TheConstants.{MOST_BYTES}
use Rattle.drv_scripts.specs.declared.bundle.Bundle.{Bundle}
use Rattle.bundle_text.specs.declared.reason.Reason.{Reason}
use Rattle.bundle_text.specs.declared.reason.Reason.TheVariants.{TooLong}
use Rattle.drv_scripts.specs.Reasons.{rule_reason}
use Rattle.drv_scripts.specs.Spelled.{bundle_of}
use Rattle.drv_scripts.specs.Verdict.{last_line, line_fault, KeepsRules, PartsSpell, Breaks, BreaksRule, HasFault, PartsRefuse, Accepts, Refuses, IsUndivided, IsDivided}
use Rattle.drv_scripts.proofs.Decided.{parts_decided}

-- ## Rules

-- the first clock that fails a test
failing_once : (defs : Description) (test : ℕ → Bool) (a b : ℕ) → IsFirstFailing defs test a → IsFirstFailing defs test b → a ≡ b
failing_once defs test a b x y =
    elim (cases_lt a b) [
      | inl below ↦ absurd (both_ways _ x.fails (y.before a below))
      | inr above ↦ elim (cases_lt b a) [
        | inl below ↦ absurd (both_ways _ y.fails (x.before b below))
        | inr least ↦ omega arith
      ]
    ]

-- a rule before the first broken one isn't broken
broken_later : (words : ℕ) (defs : Description) (rule other : Rule) (c d : ℕ) → IsFirstBroken words defs rule c → IsFirstBroken words defs other d → number other < number rule → ⊥
broken_later words defs rule other c d x y lt =
    both_ways _ y.clock.fails (x.earlier other (lt-ltb (number other) (number rule) lt) d y.clock.within)

rule_of : ℕ → Rule
rule_of n = if n == 1 then counts else (if n == 2 then ranges else (if n == 3 then bank else (if n == 4 then apart else (if n == 5 then acyclic else (if n == 6 then levels else bounded)))))

rule_numbered : (r : Rule) → rule_of (number r) ≡ r
unfolding rule_of
rule_numbered counts = refl
rule_numbered ranges = refl
rule_numbered bank = refl
rule_numbered apart = refl
rule_numbered acyclic = refl
rule_numbered levels = refl
rule_numbered bounded = refl

same_rule : (words : ℕ) (defs : Description) (rule other : Rule) (c d : ℕ) → IsFirstBroken words defs rule c → IsFirstBroken words defs other d → rule ≡ other
same_rule words defs rule other c d x y =
    elim (cases_lt (number other) (number rule)) [
      | inl below ↦ absurd (broken_later words defs rule other c d x y below)
      | inr above ↦ elim (cases_lt (number rule) (number other)) [
        | inl below ↦ absurd (broken_later words defs other rule d c y x below)
        | inr least ↦ (let same : number rule ≡ number other = omega arith in sym (rule_numbered rule) ∙ (ap rule_of same ∙ rule_numbered other))
      ]
    ]

breaks_same : (words : ℕ) (defs : Description) (numbers : List ℕ) (line other : ℕ) (reason why : Reason) → Breaks words defs numbers line reason → Breaks words defs numbers other why → (line ≡ other) × (reason ≡ why)
breaks_same words defs numbers line other reason why x y =
    let rule = same_rule words defs x.rule y.rule x.clock y.clock x.first y.first in
    let moved = subst (λ r. IsFirstBroken words defs r x.clock) rule x.first in
    let clock = failing_once defs (keeps y.rule words defs) x.clock y.clock moved.clock y.first.clock in
    (x.line_is ∙ (ap (slice_index numbers) clock ∙ sym y.line_is), x.reason_is ∙ (ap rule_reason rule ∙ sym y.reason_is))

breaks_kept : (words : ℕ) (defs : Description) (numbers : List ℕ) (line : ℕ) (reason : Reason) → KeepsRules words defs → Breaks words defs numbers line reason → ⊥
breaks_kept words defs numbers line reason kept x = both_ways _ x.first.clock.fails (kept x.rule x.clock x.first.clock.within)

-- ## Lines in sections

said_same : (ls : List (List ℕ)) (parts : Parts) (a b : SaidClocks) → clock_verdict.Says ls parts.clocks a → clock_verdict.Says ls parts.clocks b → a ≡ b
said_same ls parts a b x y = clock_laws.one_meaning parts.clocks.text ls parts.clocks a b x y

said_refused : (ls : List (List ℕ)) (parts : Parts) (a : SaidClocks) (line : ℕ) (reason : Reason) → clock_verdict.Says ls parts.clocks a → clock_verdict.Refuses ls parts.clocks line reason → ⊥
said_refused ls parts a line reason x y = clock_laws.never_both parts.clocks.text ls parts.clocks a line reason x y

pub parts_same : (ls : List (List ℕ)) (parts : Parts) (a b : Bundle) → PartsSpell ls parts a → PartsSpell ls parts b → a ≡ b
parts_same ls parts a b x y =
    x.content ∙ (ap (bundle_of ls parts) (said_same ls parts x.said y.said x.says y.says) ∙ sym y.content)

rules_and_breaks : (ls : List (List ℕ)) (parts : Parts) (said : SaidClocks) (line : ℕ) (reason : Reason) → clock_verdict.Says ls parts.clocks said → KeepsRules parts.bank.words said.defs → BreaksRule ls parts line reason → ⊥
rules_and_breaks ls parts said line reason says rules y =
    let same = said_same ls parts said y.said says y.says in
    breaks_kept parts.bank.words y.said.defs y.said.lines line reason (subst (λ s. KeepsRules parts.bank.words s.defs) same rules) y.breaks

pub parts_both : (ls : List (List ℕ)) (parts : Parts) (b : Bundle) (line : ℕ) (reason : Reason) → PartsSpell ls parts b → PartsRefuse ls parts line reason → ⊥
parts_both ls parts b line reason x (inl y) = said_refused ls parts x.said line reason x.says y
parts_both ls parts b line reason x (inr (inl y)) = rules_and_breaks ls parts x.said line reason x.says x.rules y
parts_both ls parts b line reason x (inr (inr y)) =
    let same = said_same ls parts x.said y.said x.says y.says in
    First-kept (line_fault ls parts y.said) (length ls) y.place reason (subst (λ s. KeepsBelow (line_fault ls parts s) (length ls)) same x.kept) y.first

rules_same : (ls : List (List ℕ)) (parts : Parts) (line other : ℕ) (reason why : Reason) → BreaksRule ls parts line reason → BreaksRule ls parts other why → (line ≡ other) × (reason ≡ why)
rules_same ls parts line other reason why x y =
    let same = said_same ls parts x.said y.said x.says y.says in
    breaks_same parts.bank.words y.said.defs y.said.lines line other reason why (subst (λ s. Breaks parts.bank.words s.defs s.lines line reason) same x.breaks) y.breaks

forms_same : (ls : List (List ℕ)) (parts : Parts) (line other : ℕ) (reason why : Reason) → HasFault ls parts line reason → HasFault ls parts other why → (line ≡ other) × (reason ≡ why)
forms_same ls parts line other reason why x y =
    let said = said_same ls parts x.said y.said x.says y.says in
    let same = First-unique (line_fault ls parts y.said) (length ls) x.place y.place reason why (subst (λ s. First (line_fault ls parts s) (length ls) x.place reason) said x.first) y.first in
    (x.line_is ∙ (ap (λ k. k + 1) same.0 ∙ sym y.line_is), same.1)

pub parts_refused_same : (ls : List (List ℕ)) (parts : Parts) (line other : ℕ) (reason why : Reason) → PartsRefuse ls parts line reason → PartsRefuse ls parts other why → (line ≡ other) × (reason ≡ why)
parts_refused_same ls parts line other reason why (inl x) (inl y) = clock_laws.one_refusal parts.clocks.text ls parts.clocks line other reason why x y
parts_refused_same ls parts line other reason why (inl x) (inr (inl y)) = absurd (said_refused ls parts y.said line reason y.says x)
parts_refused_same ls parts line other reason why (inl x) (inr (inr y)) = absurd (said_refused ls parts y.said line reason y.says x)
parts_refused_same ls parts line other reason why (inr (inl x)) (inl y) = absurd (said_refused ls parts x.said other why x.says y)
parts_refused_same ls parts line other reason why (inr (inl x)) (inr (inl y)) = rules_same ls parts line other reason why x y
parts_refused_same ls parts line other reason why (inr (inl x)) (inr (inr y)) = absurd (rules_and_breaks ls parts y.said line reason y.says y.rules x)
parts_refused_same ls parts line other reason why (inr (inr x)) (inl y) = absurd (said_refused ls parts x.said other why x.says y)
parts_refused_same ls parts line other reason why (inr (inr x)) (inr (inl y)) = absurd (rules_and_breaks ls parts x.said other why x.says x.rules y)
parts_refused_same ls parts line other reason why (inr (inr x)) (inr (inr y)) = forms_same ls parts line other reason why x y

-- ## Bytes

parts_are : (bytes : List ℕ) (a b : Parts) → section_verdict.Accepts (lines bytes) a → section_verdict.Accepts (lines bytes) b → a ≡ b
parts_are bytes a b x y = section_laws.same_division (lines bytes) a b x y

pub same_bundle : (bytes : List ℕ) (a b : Bundle) → Accepts bytes a → Accepts bytes b → a ≡ b
same_bundle bytes a b x y =
    let same = parts_are bytes x.parts y.parts x.sections y.sections in
    parts_same (lines bytes) y.parts a b (subst (λ parts. PartsSpell (lines bytes) parts a) same x.spelled) y.spelled

undivided_parts : (bytes : List ℕ) (parts : Parts) (line : ℕ) (reason : Reason) → section_verdict.Accepts (lines bytes) parts → IsUndivided bytes line reason → ⊥
undivided_parts bytes parts line reason x y = section_laws.never_both (lines bytes) parts (last_line bytes) line reason x y.first

pub never_both : (bytes : List ℕ) (b : Bundle) (line : ℕ) (reason : Reason) → Accepts bytes b → Refuses bytes line reason → ⊥
never_both bytes b line reason x (inl y) = omega (arith, x.fits, y.over)
never_both bytes b line reason x (inr (inl y)) = undivided_parts bytes x.parts line reason x.sections y
never_both bytes b line reason x (inr (inr y)) =
    let same = parts_are bytes x.parts y.parts x.sections y.sections in
    parts_both (lines bytes) y.parts b line reason (subst (λ parts. PartsSpell (lines bytes) parts b) same x.spelled) y.refused

undivided_same : (bytes : List ℕ) (line other : ℕ) (reason why : Reason) → IsUndivided bytes line reason → IsUndivided bytes other why → (line ≡ other) × (reason ≡ why)
undivided_same bytes line other reason why x y = section_laws.same_refusal (lines bytes) (last_line bytes) line other reason why x.first y.first

divided_same : (bytes : List ℕ) (line other : ℕ) (reason why : Reason) → IsDivided bytes line reason → IsDivided bytes other why → (line ≡ other) × (reason ≡ why)
divided_same bytes line other reason why x y =
    let same = parts_are bytes x.parts y.parts x.sections y.sections in
    parts_refused_same (lines bytes) y.parts line other reason why (subst (λ parts. PartsRefuse (lines bytes) parts line reason) same x.refused) y.refused

pub same_refusal : (bytes : List ℕ) (line other : ℕ) (reason why : Reason) → Refuses bytes line reason → Refuses bytes other why → (line ≡ other) × (reason ≡ why)
same_refusal bytes line other reason why (inl x) (inl y) = (x.line_is ∙ sym y.line_is, x.reason_is ∙ sym y.reason_is)
same_refusal bytes line other reason why (inl x) (inr (inl y)) = absurd (omega (arith, x.over, y.fits))
same_refusal bytes line other reason why (inl x) (inr (inr y)) = absurd (omega (arith, x.over, y.fits))
same_refusal bytes line other reason why (inr (inl x)) (inl y) = absurd (omega (arith, y.over, x.fits))
same_refusal bytes line other reason why (inr (inl x)) (inr (inl y)) = undivided_same bytes line other reason why x y
same_refusal bytes line other reason why (inr (inl x)) (inr (inr y)) = absurd (undivided_parts bytes y.parts line reason y.sections x)
same_refusal bytes line other reason why (inr (inr x)) (inl y) = absurd (omega (arith, y.over, x.fits))
same_refusal bytes line other reason why (inr (inr x)) (inr (inl y)) = absurd (undivided_parts bytes x.parts other why x.sections y)
same_refusal bytes line other reason why (inr (inr x)) (inr (inr y)) = divided_same bytes line other reason why x y

abbrev IsDecided : List ℕ → Type 0
IsDecided bytes = ((b : Bundle) × Accepts bytes b) ⊎ ((line : ℕ) × (reason : Reason) × Refuses bytes line reason)

-- the lines stand in sections
divided : (bytes : List ℕ) → length bytes ≤ MOST_BYTES → (parts : Parts) → section_verdict.Accepts (lines bytes) parts → IsDecided bytes
divided bytes fits parts sections =
    elim (parts_decided (lines bytes) parts) [
      | inl x ↦ inl (x.0, record { fits = fits; parts = parts; sections = sections; spelled = x.1 })
      | inr x ↦ inr (x.0, x.1, inr (inr (record { fits = fits; parts = parts; sections = sections; refused = x.2 })))
    ]

-- the bytes are few enough
fitting : (bytes : List ℕ) → length bytes ≤ MOST_BYTES → IsDecided bytes
fitting bytes fits =
    elim (section_laws.each_decided (lines bytes) (last_line bytes)) [
      | inl x ↦ divided bytes fits x.0 x.1
      | inr x ↦ inr (x.0, x.1, inr (inl (record { fits = fits; first = x.2 })))
    ]

pub each_decided : (bytes : List ℕ) → ((b : Bundle) × Accepts bytes b) ⊎ ((line : ℕ) × (reason : Reason) × Refuses bytes line reason)
each_decided bytes =
    elim (cases_lt MOST_BYTES (length bytes)) [
      | inl over ↦ inr (0, TooLong, inl (record { over = over; line_is = refl; reason_is = refl }))
      | inr fits ↦ fitting bytes (omega (arith, fits))
    ]
