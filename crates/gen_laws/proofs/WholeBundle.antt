-- The generated text spells the bundle that is run to measure.
use Rattle.std.proofs.Common.{◌≡◌, ℕ, zero, suc, ◌+◌, ◌-◌, ◌*◌, ◌<◌, ◌≤◌, List, [], ◌∷◌, ◌++◌, length, map, take, refl, sym, ap, subst, ◌∙◌, inl, inr, arith}
use Rattle.std.specs.List.{range_with_len}
use Rattle.std.specs.Str.Lines.{lines}
use Rattle.std.proofs.lemmas.Bool.{cases_lt, cond-true, cond-false, lt-ltb, le-ltb}
use Rattle.std.proofs.lemmas.List.{append-nil, map-append, take_at}
use Rattle.bundle_text.specs.Firsts.{KeepsBelow}
use Rattle.bundle_sections.specs.Sections.{version_of}
use Rattle.bundle_sections.specs.Verdict as section_verdict
use Rattle.bundle_clocks.specs.Said.{SaidClocks}
use Rattle.bundle_clocks.specs.Source.{lines_in}
use Rattle.bundle_clocks.specs.Verdict.{LinesSay}
use Rattle.clk_base.specs.declared.command.Command.{Command}
use Rattle.clk_gen.specs.Generated.{generated}
use Rattle.clk_io.specs.declared.reading.TheConstants.{MOST_BYTES}
use Rattle.clock_lines.specs.Section.{lines_of}
use Rattle.clock_lines.specs.Verdict.{Spells}
use Rattle.drv_scripts.specs.declared.bundle.Bundle.{Bundle}
use Rattle.drv_scripts.specs.declared.bundle.LateLine.{LateLine}
use Rattle.drv_scripts.specs.declared.bundle.LockLine.{LockLine}
use Rattle.drv_scripts.specs.declared.bundle.Script.{Script}
use Rattle.drv_scripts.specs.Sections.{around, fault_at}
use Rattle.drv_scripts.specs.Spelled.{bundle_of, boot_of, probes_without, assigned_commands}
use Rattle.drv_scripts.specs.Verdict.{line_fault, PartsSpell, Accepts}
use Rattle.drv_scripts.proofs.Bundles.{all_probes}
use Rattle.gen_laws.specs.Rows.{row_text}
use Rattle.gen_laws.specs.Clocks.{clocks}
use Rattle.gen_laws.specs.Measured.{measured}
use Rattle.gen_laws.proofs.BundleRows.{clock_rows, bundle_rows}
use Rattle.gen_laws.proofs.BodyRows.{plain-bundle, all_plain}
use Rattle.gen_laws.proofs.BundleText.{bundle-text}
use Rattle.gen_laws.proofs.ClockPart.{clock_section, length-section, placed, clocks-all, section-spells}
use Rattle.gen_laws.proofs.KeptRules.{length-clocks, rules-kept}
use Rattle.gen_laws.proofs.RowLines.{lines-rows}
use Rattle.gen_laws.proofs.RowPlaces.{rest_rows}
use Rattle.gen_laws.proofs.ScriptPart.{drivers-fine, scripts-are, locks-none, late-none, turns-none}
use Rattle.gen_laws.proofs.ShortRows.{text-fits}
use Rattle.gen_laws.proofs.Sectioned.{bundle_lines, clocks_part, bundle_parts, bundle-sections}
use Rattle.gen_laws.proofs.WordPart.{word-fine, bank-words}

-- the lines of the section of the clocks
lines-in : (n : ℕ) → lines_in (bundle_lines n) (clocks_part n) ≡ clock_section n
lines-in n =
    let count : 3 * n + 3 - 2 ≡ 3 * n + 1 = omega arith in
    ap (λ m. take m (map row_text (clock_rows n ++ rest_rows n))) count
    ∙ (ap (take (3 * n + 1)) (map-append row_text (clock_rows n) (rest_rows n)) ∙ take_at (clock_section n) (map row_text (rest_rows n)) (3 * n + 1) (length-section n))

-- the lines of the clocks count on from the third
lines-from : (n a m : ℕ) → map (λ p. 2 + p.place + 1) (map (placed n) (range_with_len a m)) ≡ range_with_len (a + 3) m
lines-from n a zero = refl
lines-from n a (suc m) =
    let first : 2 + a + 1 ≡ a + 3 = omega arith in
    let later : a + 1 + 3 ≡ a + 3 + 1 = omega arith in
    ap (λ k. k ∷ map (λ p. 2 + p.place + 1) (map (placed n) (range_with_len (a + 1) m))) first
    ∙ ap (λ ks. (a + 3) ∷ ks) (lines-from n (a + 1) m ∙ ap (λ k. range_with_len k m) later)

lines-are : (n : ℕ) → n ≤ 64 → range_with_len 3 (3 * n + 1) ≡ lines_of 2 (clock_section n)
unfolding lines_of
lines-are n few = sym (lines-from n 0 (3 * n + 1)) ∙ sym (ap (map (λ p. 2 + p.place + 1)) (clocks-all n few))

-- what the section of the clocks says
abbrev said : ℕ → SaidClocks
said n = record { defs = clocks n; lines = range_with_len 3 (3 * n + 1); consumers = []; assigned = [] }

version-is : (n : ℕ) → version_of (bundle_lines n) ≡ 1
unfolding version_of
version-is n = refl

clocks-say : (n : ℕ) → n ≤ 64 → LinesSay (bundle_lines n) (clocks_part n) (said n)
clocks-say n few =
    let here = section-spells n 2 few in
    let own : Spells 1 2 (clock_section n) (clocks n) (range_with_len 3 (3 * n + 1)) = record { kept = here.kept; found = here.found; desc_is = here.desc_is; lines_are = lines-are n few } in
    record {
      spelled =
          subst (λ v. Spells v 2 (lines_in (bundle_lines n) (clocks_part n)) (clocks n) (range_with_len 3 (3 * n + 1))) (sym (version-is n))
          (subst (λ ls. Spells 1 2 ls (clocks n) (range_with_len 3 (3 * n + 1))) (sym (lines-in n)) own);
      consumers = refl;
      assigned = refl;
    }

-- no line behind the clocks has a fault
kept : (n : ℕ) → n ≤ 64 → KeepsBelow (line_fault (bundle_lines n) (bundle_parts n) (said n)) (length (bundle_lines n))
unfolding fault_at
kept n few k within =
    let a = around (bundle_lines n) (bundle_parts n) (said n) in
    elim (cases_lt k (4 * n + 4)) [
      | inl inside ↦
          cond-true _ _ _ (lt-ltb k (4 * n + 4) inside)
          ∙ elim (cases_lt (3 * n + 3) k) [
            | inl behind ↦ cond-true _ _ _ (lt-ltb (3 * n + 3) k behind) ∙ word-fine n k few (omega arith) inside
            | inr before ↦ cond-false _ _ _ (le-ltb (3 * n + 3) k before)
          ]
      | inr behind ↦ cond-false _ _ _ (le-ltb k (4 * n + 4) behind) ∙ drivers-fine n a k few (record { lines = refl; defs = refl }) behind
    ]

-- boot registers each clock, and does no more
boot-is : (n : ℕ) (late : List LateLine) → late ≡ [] → boot_of (3 * n + 1) ≡ probes_without late (length (clocks n)) ++ assigned_commands []
unfolding assigned_commands
boot-is n late none =
    sym (append-nil (probes_without late (length (clocks n))) ∙ (ap (λ l. probes_without l (length (clocks n))) none ∙ (all_probes (length (clocks n)) ∙ ap boot_of (length-clocks n))))

-- a bundle of these words, locks, late clocks, commands of boot, drivers and turns
made : ℕ → List ℕ → List LockLine → List LateLine → List Command → List Script → List ℕ → Bundle
made n words locks late boot drivers order = record {
  desc = record { defs = clocks n; words = 2 * n };
  clock_lines = range_with_len 3 (3 * n + 1);
  assigned_lines = [];
  words = words;
  locks = locks;
  late = late;
  boot = boot;
  drivers = drivers;
  order = order;
}

same_made : (n : ℕ) (w w' : List ℕ) (l l' : List LockLine) (t t' : List LateLine) (b b' : List Command) (d d' : List Script) (o o' : List ℕ)
    → w' ≡ w → l' ≡ l → t' ≡ t → b ≡ b' → d' ≡ d → o' ≡ o → made n w l t b d o ≡ made n w' l' t' b' d' o'
same_made n w w' l l' t t' b b' d d' o o' ew el et eb ed eo = cc

content : (n : ℕ) → n ≤ 64 → measured n ≡ bundle_of (bundle_lines n) (bundle_parts n) (said n)
unfolding measured bundle_of made
content n few =
    let a = around (bundle_lines n) (bundle_parts n) (said n) in
    same_made n _ _ _ _ _ _ _ _ _ _ _ _ (bank-words n (3 * n + 3 + 1) (4 * n + 4 - (3 * n + 3 + 1)) few (omega arith) (omega arith)) (locks-none n a) (late-none n a) (boot-is n _ (late-none n a))
    (scripts-are n a few (record { lines = refl; defs = refl })) (turns-none n a)

-- the generated text spells the bundle
pub text-spells : (n : ℕ) → 0 < n → n ≤ 64 → Accepts (generated n) (measured n)
text-spells n some few =
    let lines_are : lines (generated n) ≡ bundle_lines n = ap lines (sym (bundle-text n)) ∙ lines-rows (bundle_rows n) (all_plain (bundle_rows n) (plain-bundle n few)) in
    let spelled : PartsSpell (bundle_lines n) (bundle_parts n) (measured n) =
    record { said = said n; says = clocks-say n few; rules = rules-kept n few; kept = kept n few; content = content n few } in
    record {
      fits = subst (λ bytes. length bytes ≤ MOST_BYTES) (bundle-text n) (text-fits n few);
      parts = bundle_parts n;
      sections = subst (λ ls. section_verdict.Accepts ls (bundle_parts n)) (sym lines_are) (bundle-sections n some few);
      spelled = subst (λ ls. PartsSpell ls (bundle_parts n) (measured n)) (sym lines_are) spelled;
    }
