-- Lines spell one description, or are refused in one way.
use Rattle.std.proofs.Common.{◌≡◌, ◌⊎◌, ℕ, ◌+◌, List, Option, length, refl, ap, sym, ◌∙◌, inl, inr}
use Rattle.clk_base.specs.Description.{Description}
use Rattle.bundle_text.specs.Firsts.{First}
use Rattle.bundle_text.proofs.Rows.{First-kept, First-unique, kept_or_first}
use Rattle.bundle_text.specs.declared.reason.Reason.{Reason}
use Rattle.clock_lines.specs.Section.{fault_at, parent_fault_at, desc_of, lines_of}
use Rattle.clock_lines.specs.Verdict.{Spells, Refuses}

pub one_description : (version from : ℕ) (section : List (List ℕ)) (desc other : Description) (lines numbers : List ℕ) → Spells version from section desc lines → Spells version from section other numbers → (desc ≡ other) × (lines ≡ numbers)
one_description version from section desc other lines numbers x y = (x.desc_is ∙ sym y.desc_is, x.lines_are ∙ sym y.lines_are)

-- the first places with a fault of one test are one, and so are their lines
line_same : (from : ℕ) (test : ℕ → Option Reason) (n : ℕ) (a b line other : ℕ) (reason why : Reason) → First test n a reason → First test n b why → line ≡ from + a + 1 → other ≡ from + b + 1 → (line ≡ other) × (reason ≡ why)
line_same from test n a b line other reason why x y e f =
    let same = First-unique test n a b reason why x y in
    (e ∙ (ap (λ k. from + k + 1) same.0 ∙ sym f), same.1)

pub one_refusal : (version from : ℕ) (section : List (List ℕ)) (line other : ℕ) (reason why : Reason) → Refuses version from section line reason → Refuses version from section other why → (line ≡ other) × (reason ≡ why)
one_refusal version from section line other reason why (inl x) (inl y) = line_same from (fault_at version section) (length section) x.place y.place line other reason why x.first y.first x.line_is y.line_is
one_refusal version from section line other reason why (inl x) (inr y) = absurd (First-kept (fault_at version section) (length section) x.place reason y.kept x.first)
one_refusal version from section line other reason why (inr x) (inl y) = absurd (First-kept (fault_at version section) (length section) y.place why x.kept y.first)
one_refusal version from section line other reason why (inr x) (inr y) = line_same from (parent_fault_at section) (length section) x.place y.place line other reason why x.first y.first x.line_is y.line_is

pub never_both : (version from : ℕ) (section : List (List ℕ)) (desc : Description) (lines : List ℕ) (line : ℕ) (reason : Reason) → Spells version from section desc lines → Refuses version from section line reason → ⊥
never_both version from section desc lines line reason x (inl y) = First-kept (fault_at version section) (length section) y.place reason x.kept y.first
never_both version from section desc lines line reason x (inr y) = First-kept (parent_fault_at section) (length section) y.place reason x.found y.first

pub decided : (version from : ℕ) (section : List (List ℕ)) → ((desc : Description) × (lines : List ℕ) × Spells version from section desc lines) ⊎ ((line : ℕ) × (reason : Reason) × Refuses version from section line reason)
decided version from section =
    elim (kept_or_first (fault_at version section) (length section)) [
      | inr first ↦ inr (from + first.0 + 1, first.1, inl (record { place = first.0; first = first.2; line_is = refl }))
      | inl kept ↦ elim (kept_or_first (parent_fault_at section) (length section)) [
        | inr first ↦ inr (from + first.0 + 1, first.1, inr (record { kept = kept; place = first.0; first = first.2; line_is = refl }))
        | inl found ↦ inl (desc_of section, lines_of from section, record { kept = kept; found = found; desc_is = refl; lines_are = refl })
      ]
    ]
