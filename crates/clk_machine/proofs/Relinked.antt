-- What is kept so far stays so where a registered clock gets a link to a possible parent, a linked mux selects another one, and last requests
-- are settled.
use Rattle.std.proofs.Common.{◌≡◌, ℕ, ◌<◌, ◌≤◌, ◌^◌, ◌⊎◌, inl, inr, true, false, not, List, [], ◌∷◌, Some, None, refl, sym, ap, subst, ◌∙◌, length, nat_le, arith}
use Rattle.std.proofs.lemmas.Bool.Decides.{nat_tests}
use Rattle.std.proofs.lemmas.List.{length-set}
use Rattle.clk_base.specs.declared.clock.Kind.{Kind}
use Rattle.clk_base.specs.declared.clock.Kind.TheVariants.{FixedRate, Factor, Gate, Mux, Divider, Pll}
use Rattle.clk_base.specs.Description.{Description, kind_of, parents_of}
use Rattle.clk_base.specs.Fields.{Field}
use Rattle.clk_base.specs.Valid.{IsValid, has_ranges}
use Rattle.clk_model.specs.declared.row.ClockRow.{ClockRow}
use Rattle.clk_model.specs.Chain.{clock_id, linked}
use Rattle.clk_model.specs.Kinds.{mux_field}
use Rattle.clk_model.specs.Lists.{is_in, to_front, without}
use Rattle.clk_model.specs.State.{State, row_of, registered, link_in}
use Rattle.clk_model.specs.Step.{settle_all}
use Rattle.clk_model.proofs.ApartLaws.{ranges_hold}
use Rattle.clk_model.proofs.HoldSteps.{settled_links}
use Rattle.clk_model.proofs.Members.{both_right, is_in_cases}
use Rattle.clk_model.proofs.OnceLaws.{is_in-filter}
use Rattle.clk_model.proofs.SceneStepLaws.{registered_set, parent_lt, settled_there}
use Rattle.clk_model.proofs.ShapeLaws.{length-settle_all}
use Rattle.clk_model.specs.Rate.{rate}
use Rattle.clk_model.proofs.WholePathLaws.{same_or_not, linked_same, linked_other}
use Rattle.clk_machine.specs.Sound.{IsNarrow}
use Rattle.clk_machine.proofs.Kept.{IsNarrow-rows}

-- ---- a new link

-- who is registered stays so
pub linked_there : (clocks : List ClockRow) (c p d : ℕ) → registered (linked clocks c p) d ≡ registered clocks d
linked_there clocks c p d = registered_set clocks c (record (row_of clocks c) { link = Some (clock_id p) }) d refl

pub IsNarrow-linked : (words : ℕ) (s : State) (c p : ℕ) (ps es : List ℕ) → IsNarrow words s → registered s.clocks c ≡ true → is_in p (parents_of s.defs c) ≡ true
    → IsNarrow words (record s { clocks = linked s.clocks c p; order = to_front c s.order; prepare_holds = ps; enable_holds = es })
IsNarrow-linked words s c p ps es sound there can = record {
  valid = sound.valid;
  rows = length-set s.clocks c _ ∙ sound.rows;
  attached = λ d m. linked_there s.clocks c p d ∙ by_place d (is_in_cases d c (without (c ∷ []) s.order) m);
  unlinked = λ d free. by_free d free (same_or_not c d);
  possible = λ d q at. by_link d q at (same_or_not c d);
} where
  within : c < length s.clocks
  within = let lt = parent_lt s.defs c p can in let rows = sound.rows in omega arith

  by_place : (d : ℕ) → (c ≡ d) ⊎ (is_in d (without (c ∷ []) s.order) ≡ true) → registered s.clocks d ≡ true
  by_place d (inl same) = ap (registered s.clocks) (sym same) ∙ there
  by_place d (inr m) = sound.attached d (is_in-filter (λ x. not (is_in x (c ∷ []))) d s.order m)

  by_free : (d : ℕ) → registered (linked s.clocks c p) d ≡ false → (c ≡ d) ⊎ (c ≡ d → ⊥) → link_in (linked s.clocks c p) d ≡ None
  by_free d free (inl same) = let no : true ≡ false = sym there ∙ ap (registered s.clocks) same ∙ sym (linked_there s.clocks c p d) ∙ free in absurd cc
  by_free d free (inr other) = linked_other s.clocks c p d other ∙ sound.unlinked d (sym (linked_there s.clocks c p d) ∙ free)

  by_link : (d q : ℕ) → link_in (linked s.clocks c p) d ≡ Some q → (c ≡ d) ⊎ (c ≡ d → ⊥) → is_in q (parents_of s.defs d) ≡ true
  by_link d q at (inl same) =
      let here : Some p ≡ Some q = sym (linked_same s.clocks c p within) ∙ ap (link_in (linked s.clocks c p)) same ∙ at in
      let one : p ≡ q = cc in
      ap (λ (x : ℕ). is_in x (parents_of s.defs d)) (sym one) ∙ ap (λ (x : ℕ). is_in p (parents_of s.defs x)) (sym same) ∙ can
  by_link d q at (inr other) = sound.possible d q (sym (linked_other s.clocks c p d other) ∙ at)

-- ---- a mux that selects

-- the place of a possible parent fits the field
pub place_fits : (words : ℕ) (defs : Description) (c place : ℕ) → IsValid words defs → place < length (parents_of defs c)
    → (f : Field) → mux_field (kind_of defs c) ≡ Some f → place < 2 ^ f.width
place_fits words defs c place valid few f at = by (kind_of defs c) at (ranges_hold words defs valid c) where
  by : (kind : Kind) → mux_field kind ≡ Some f → has_ranges kind (length (parents_of defs c)) ≡ true → place < 2 ^ f.width
  by (Mux word shift width read_only) e ranges =
      let w : width ≡ f.width = cc in
      let most : nat_le (length (parents_of defs c)) (2 ^ width) ≡ true = both_right _ _ ranges in
      let fits : length (parents_of defs c) ≤ 2 ^ width = grind (arith, nat_tests) in
      let less : place < 2 ^ width = omega arith in
      subst (λ (n : ℕ). place < 2 ^ n) w less
  by (FixedRate rate) e ranges = absurd cc
  by (Factor mult div) e ranges = absurd cc
  by (Gate word bit set_to_disable) e ranges = absurd cc
  by (Divider word shift width one_based power_of_two) e ranges = absurd cc
  by (Pll word shift width power_word power_bit least most m) e ranges = absurd cc

-- ---- last requests

pub IsNarrow-settle : (words : ℕ) (s : State) (cs : List ℕ) → IsNarrow words s → IsNarrow words (record s { clocks = settle_all s cs })
IsNarrow-settle words s cs sound = IsNarrow-rows words s (settle_all s cs) (length-settle_all s cs) (settled_there s cs) (settled_links s cs) sound
