-- Laws on trees with the same links, and the same fields by which clocks select, divide and multiply: their rates are the same, and so are
-- the outcomes of plans and the plans.
use Rattle.std.proofs.Common.{◌≡◌, ℕ, zero, suc, ◌^◌, ◌<◌, ◌≤◌, Bool, true, false, not, ◌&&◌, ◌||◌, cond, List, [], ◌∷◌, Option, Some, None, refl, sym, ap, subst, ◌∙◌, ◌⊎◌, inl, inr, arith, length}
use mathlib.Core.Path.{fun_ext}
use Rattle.std.specs.Prelude.{IfSome, if◌then◌else◌, nat_le, option_map, option_and_then}
use Rattle.std.specs.List.{AllByRecursion, list_all}
use Rattle.std.specs.Option.{option_map_or}
use Rattle.std.proofs.lemmas.Bool.{and_parts, leb-true, ltb-true, cases_lt}
use Rattle.std.proofs.lemmas.List.{set_past}
use Rattle.clk_base.specs.declared.clock.Kind.{Kind}
use Rattle.clk_base.specs.declared.clock.Kind.TheVariants.{FixedRate, Factor, Gate, Mux, Divider, Pll}
use Rattle.clk_base.specs.Description.{Description, kind_of, parents_of}
use Rattle.clk_base.specs.Fields.{Field, field_of}
use Rattle.clk_base.specs.Flags.{sets_parent_gate, sets_rate_parent}
use Rattle.clk_base.specs.Levels.{depth}
use Rattle.clk_base.specs.Valid.{IsValid, has_ranges}
use Rattle.clk_base.proofs.Valid.{field-field, lines_end}
use Rattle.kind_math.specs.Dividers.{div_setting}
use Rattle.kind_math.specs.Plls.{pll_multiplier}
use Rattle.reg_bank.specs.Registers.{Registers, field, put}
use Rattle.reg_bank.proofs.FieldLaws.{length-put, field-put_same}
use Rattle.clk_model.specs.declared.row.ClockRow.{ClockRow}
use Rattle.clk_model.specs.Lists.{is_in, is_at}
use Rattle.clk_model.specs.Kinds.{mux_field, can_round}
use Rattle.clk_model.specs.State.{ChainStep, link_in}
use Rattle.clk_model.specs.Rate.{style_of, rate}
use Rattle.clk_model.specs.Round.{Wiring, View, Rounded, rate_in, parent_rate_in, passes_on, round}
use Rattle.clk_model.specs.Chain.{moves, place_of, select, setting, set_one, outcome, chain_from, chain_within, keeps_boundaries, chain}
use Rattle.clk_model.specs.Wired.{LinksArePossible}
use Rattle.clk_model.specs.Laws.Plans.{HasParent}
use Rattle.clk_model.proofs.ApartLaws.{ranges_hold, fields_apart, mux_is_field}
use Rattle.clk_model.proofs.GateRateLaws.{scales_is_field}
use Rattle.clk_model.proofs.OutcomeLaws.{field-put_outside}
use Rattle.clk_model.proofs.PlanLaws.{Climbs, climbs_within, step_of}
use Rattle.clk_model.proofs.RateLaws.{writes_leave_rates}
use Rattle.clk_model.proofs.SameRateLaws.{tree_over, round_same}
use Rattle.clk_model.proofs.SettingLaws.{div_setting-fits, divider_wide, pll_multiplier-le, settings_fit}
use Rattle.clk_model.proofs.WholePathLaws.{same_or_not}

-- ---- registers

-- the fields by which clocks select, divide and multiply read the same in two banks of as many words
pub record SameFields (defs : Description) (old new : Registers) : Type 0 where
  pub words : length new ≡ length old
  pub fields : (c : ℕ) (f : Field) → field_of (kind_of defs c) ≡ Some f → field new f.word f.shift f.width ≡ field old f.word f.shift f.width

-- rates are the same then
pub rates_same : (defs : Description) (clocks : List ClockRow) (old new : Registers) → SameFields defs old new → rate defs new clocks ≡ rate defs old clocks
rates_same defs clocks old new same =
    fun_ext (λ d. writes_leave_rates defs old new clocks d (λ a m f at. same.fields a f (scales_is_field (kind_of defs a) f at)))

put_past : (regs : Registers) (word shift width value : ℕ) → length regs ≤ word → put regs word shift width value ≡ regs
unfolding put
put_past regs word shift width value past = set_past regs word _ past

-- what is put in the field of a clock, where it fits, leaves them the same
pub put_same : (words : ℕ) (defs : Description) (old new : Registers) (k : ℕ) (g : Field) (value : ℕ) → IsValid words defs → field_of (kind_of defs k) ≡ Some g → value < 2 ^ g.width → SameFields defs old new
    → SameFields defs (put old g.word g.shift g.width value) (put new g.word g.shift g.width value)
put_same words defs old new k g value valid at fits same = record {
  words = length-put new g.word g.shift g.width value ∙ same.words ∙ sym (length-put old g.word g.shift g.width value);
  fields = λ c f own. by_clock c f own (same_or_not c k);
} where
  Reads : Field → Type 0
  Reads f = field (put new g.word g.shift g.width value) f.word f.shift f.width ≡ field (put old g.word g.shift g.width value) f.word f.shift f.width

  here : Reads g
  here = elim (cases_lt g.word (length old)) [
    | inl within ↦
        let longer = same.words in
        field-put_same new g.word g.shift g.width value (omega arith) fits ∙ sym (field-put_same old g.word g.shift g.width value within fits)
    | inr past ↦
        let longer = same.words in
        ap (λ (regs : Registers). field regs g.word g.shift g.width) (put_past new g.word g.shift g.width value (omega arith))
        ∙ same.fields k g at
        ∙ ap (λ (regs : Registers). field regs g.word g.shift g.width) (sym (put_past old g.word g.shift g.width value past))
  ]

  by_clock : (c : ℕ) (f : Field) → field_of (kind_of defs c) ≡ Some f → (c ≡ k) ⊎ (c ≡ k → ⊥) → Reads f
  by_clock c f own (inl is) = let both : Some g ≡ Some f = sym at ∙ ap (λ (x : ℕ). field_of (kind_of defs x)) (sym is) ∙ own in subst Reads (inside both) here where
    inside : {a b : Field} → Some a ≡ Some b → a ≡ b
    inside e = cc
  by_clock c f own (inr other) =
      let apart = fields_apart words defs valid c 0 f k 0 g (field-field (kind_of defs c) f own) (field-field (kind_of defs k) g at) (λ is. absurd (other is)) in
      field-put_outside new f g value apart fits ∙ same.fields c f own ∙ sym (field-put_outside old f g value apart fits)

-- ---- settings

pub setting_of : (words : ℕ) (defs : Description) (old new : Registers) (k parent planned : ℕ) (kind : Kind) → IsValid words defs → kind_of defs k ≡ kind → SameFields defs old new
    → SameFields defs (setting kind parent planned old) (setting kind parent planned new)
setting_of words defs old new k parent planned (FixedRate r) valid is same = same
setting_of words defs old new k parent planned (Factor mult div) valid is same = same
setting_of words defs old new k parent planned (Gate word bit set_to_disable) valid is same = same
setting_of words defs old new k parent planned (Mux word shift width read_only) valid is same = same
setting_of words defs old new k parent planned (Divider word shift width one_based power_of_two) valid is same =
    let ranges : has_ranges (Divider word shift width one_based power_of_two) (length (parents_of defs k)) ≡ true =
    ap (λ (x : Kind). has_ranges x (length (parents_of defs k))) (sym is) ∙ ranges_hold words defs valid k in
    put_same words defs old new k (record { word = word; shift = shift; width = width }) (div_setting parent planned width (style_of one_based power_of_two)) valid (ap field_of is)
    (div_setting-fits (style_of one_based power_of_two) parent planned width (divider_wide one_based power_of_two width ranges)) same
setting_of words defs old new k parent planned (Pll word shift width power_word power_bit least most m) valid is same =
    let ranges : has_ranges (Pll word shift width power_word power_bit least most m) (length (parents_of defs k)) ≡ true =
    ap (λ (x : Kind). has_ranges x (length (parents_of defs k))) (sym is) ∙ ranges_hold words defs valid k in
    let parts = and_parts _ _ ranges in
    let order = leb-true least most (and_parts _ _ parts.0).1 in
    let below = ltb-true most (2 ^ width) parts.1 in
    let le = pll_multiplier-le parent planned least most m order in
    put_same words defs old new k (record { word = word; shift = shift; width = width }) (pll_multiplier parent planned least most m) valid (ap field_of is) (omega arith) same

-- the setting of a clock leaves them the same, over the same rate of its parent
pub setting_same : (words : ℕ) (defs : Description) (clocks : List ClockRow) (old new : Registers) (k planned : ℕ) → IsValid words defs → SameFields defs old new
    → SameFields defs (setting (kind_of defs k) (parent_rate_in (tree_over defs clocks old) k) planned old) (setting (kind_of defs k) (parent_rate_in (tree_over defs clocks new) k) planned new)
setting_same words defs clocks old new k planned valid same =
    subst (λ (parent : ℕ). SameFields defs (setting (kind_of defs k) (parent_rate_in (tree_over defs clocks old) k) planned old) (setting (kind_of defs k) parent planned new))
    (ap (λ (rates : ℕ → ℕ). option_map_or rates (link_in clocks k) 0) (sym (rates_same defs clocks old new same)))
    (setting_of words defs old new k (parent_rate_in (tree_over defs clocks old) k) planned (kind_of defs k) valid refl same)

-- so does a place that is put in the field of a mux, where it is that of a possible parent
pub place_same : (words : ℕ) (defs : Description) (old new : Registers) (k p : ℕ) → IsValid words defs → is_in p (parents_of defs k) ≡ true → SameFields defs old new
    → SameFields defs (option_map_or (λ f. put old f.word f.shift f.width (place_of defs k p)) (mux_field (kind_of defs k)) old)
    (option_map_or (λ f. put new f.word f.shift f.width (place_of defs k p)) (mux_field (kind_of defs k)) new)
place_same words defs old new k p valid m same = by_field (mux_field (kind_of defs k)) refl where
  by_field : (o : Option Field) → mux_field (kind_of defs k) ≡ o → SameFields defs (option_map_or (λ f. put old f.word f.shift f.width (place_of defs k p)) o old)
      (option_map_or (λ f. put new f.word f.shift f.width (place_of defs k p)) o new)
  by_field None at = same
  by_field (Some f) at = put_same words defs old new k f (place_of defs k p) valid (mux_is_field (kind_of defs k) f at) ((settings_fit words defs valid k).place f p at m) same

-- ---- outcomes

-- two trees have the same description, links and fields
pub record SameTree (v w : Wiring) : Type 0 where
  pub defs : v.defs ≡ w.defs
  pub clocks : v.clocks ≡ w.clocks
  pub regs : SameFields w.defs w.regs v.regs

-- so are its rates
pub tree_rates : (v w : Wiring) → SameTree v w → rate_in v ≡ rate_in w
tree_rates v w same =
    ap (λ (defs : Description). rate defs v.regs v.clocks) same.defs
    ∙ ap (λ (clocks : List ClockRow). rate w.defs v.regs clocks) same.clocks
    ∙ rates_same w.defs w.clocks w.regs v.regs same.regs

-- a planned parent of this step is a possible one
abbrev pub IsPossible : Description → ChainStep → Type 0
IsPossible defs k = (p : ℕ) → k.parent ≡ Some p → is_in p (parents_of defs k.clock) ≡ true

set_over : (words : ℕ) (defs : Description) (clocks : List ClockRow) (old new : Registers) (k : ChainStep) → IsValid words defs → IsPossible defs k → SameFields defs old new
    → SameTree (set_one k (tree_over defs clocks new)) (set_one k (tree_over defs clocks old))
set_over words defs clocks old new k valid possible same = record { defs = refl; clocks = refl; regs = by_move (moves clocks k) k.parent possible } where
  by_move : (t : Bool) (o : Option ℕ) → ((p : ℕ) → o ≡ Some p → is_in p (parents_of defs k.clock) ≡ true)
      → SameFields defs (cond t (option_map_or (λ p. select defs k.clock p old) o old) (setting (kind_of defs k.clock) (parent_rate_in (tree_over defs clocks old) k.clock) k.rate old))
      (cond t (option_map_or (λ p. select defs k.clock p new) o new) (setting (kind_of defs k.clock) (parent_rate_in (tree_over defs clocks new) k.clock) k.rate new))
  by_move false o is = setting_same words defs clocks old new k.clock k.rate valid same
  by_move true None is = same
  by_move true (Some p) is = place_same words defs old new k.clock p valid (is p refl) same

-- a setting leaves trees the same
pub set_same : (words : ℕ) (v w : Wiring) (k : ChainStep) → IsValid words w.defs → IsPossible w.defs k → SameTree v w → SameTree (set_one k v) (set_one k w)
set_same words v w k valid possible same =
    subst (λ (defs : Description). SameTree (set_one k (tree_over defs v.clocks v.regs)) (set_one k w)) (sym same.defs)
    (subst (λ (clocks : List ClockRow). SameTree (set_one k (tree_over w.defs clocks v.regs)) (set_one k w)) (sym same.clocks)
    (set_over words w.defs w.clocks w.regs v.regs k valid possible same.regs))

pub outcome_defs : (ks : List ChainStep) (w : Wiring) → (outcome ks w).defs ≡ w.defs
unfolding outcome
outcome_defs [] w = refl
outcome_defs (k ∷ ks) w = outcome_defs ks w

-- so do all settings of a plan
pub outcome_same : (words : ℕ) (ks : List ChainStep) (v w : Wiring) → IsValid words w.defs → AllByRecursion (IsPossible w.defs) ks → SameTree v w → SameTree (outcome ks v) (outcome ks w)
unfolding outcome
outcome_same words [] v w valid possible same = same
outcome_same words (k ∷ ks) v w valid possible same =
    set_same words (outcome ks v) (outcome ks w) k (subst (IsValid words) (sym (outcome_defs ks w)) valid)
    (subst (λ (defs : Description). IsPossible defs k) (sym (outcome_defs ks w)) possible.0) (outcome_same words ks v w valid possible.1 same)

-- ---- chains

pub then_same : {X Y : Type 0} (o : Option X) (f g : X → Option Y) → ((x : X) → o ≡ Some x → f x ≡ g x) → option_and_then f o ≡ option_and_then g o
then_same None f g each = refl
then_same (Some x) f g each = each x refl

-- two chains are the same
abbrev SameChain : Option (List ChainStep) → Option (List ChainStep) → Type 0
SameChain a b = a ≡ b

-- a step of a chain reads the rates of the tree alone
from_same : (more : ℕ → ℕ → Option (List ChainStep)) (defs : Description) (clocks : List ClockRow) (old new : Registers) (view : View) (c x : ℕ) (r : Rounded) → rate defs new clocks ≡ rate defs old clocks
    → chain_from more (tree_over defs clocks new) view c x r ≡ chain_from more (tree_over defs clocks old) view c x r
from_same more defs clocks old new view c x r same =
    ap (λ (rates : ℕ → ℕ). elim (moves clocks (step_of c r) && sets_parent_gate defs c && view.prepared c) [
      | true ↦ None
      | false ↦ elim (sets_rate_parent defs c && not (is_at r.parent_rate (option_map rates r.parent))) [
        | true ↦ option_map (λ ks. step_of c r ∷ ks) (option_and_then (λ p. more p (if can_round (kind_of defs c) then r.parent_rate else x)) r.parent)
        | false ↦ Some (step_of c r ∷ [])
      ]
    ]) same

pub within_same : (levels : ℕ) (defs : Description) (clocks : List ClockRow) (old new : Registers) (view : View) → rate defs new clocks ≡ rate defs old clocks
    → chain_within levels (tree_over defs clocks new) view ≡ chain_within levels (tree_over defs clocks old) view
within_same zero defs clocks old new view same = refl
within_same (suc levels) defs clocks old new view same = fun_ext (λ c. fun_ext (λ x. by_rounding c x (within_same levels defs clocks old new view same) (can_round (kind_of defs c) || passes_on (tree_over defs clocks old) c))) where
  more : Registers → ℕ → ℕ → Option (List ChainStep)
  more regs = chain_within levels (tree_over defs clocks regs) view

  by_rounding : (c x : ℕ) → more new ≡ more old → (t : Bool) → SameChain
      (elim t [ false ↦ None | true ↦ option_and_then (λ r. chain_from (more new) (tree_over defs clocks new) view c x r) (round (tree_over defs clocks new) view c x) ])
      (elim t [ false ↦ None | true ↦ option_and_then (λ r. chain_from (more old) (tree_over defs clocks old) view c x r) (round (tree_over defs clocks old) view c x) ])
  by_rounding c x rest false = refl
  by_rounding c x rest true =
      ap (λ (o : Option Rounded). option_and_then (λ r. chain_from (more new) (tree_over defs clocks new) view c x r) o) (round_same defs clocks old new view c x same)
      ∙ then_same (round (tree_over defs clocks old) view c x) (chain_from (more new) (tree_over defs clocks new) view c x) (chain_from (more old) (tree_over defs clocks old) view c x)
      (λ r at. ap (λ (m : ℕ → ℕ → Option (List ChainStep)). chain_from m (tree_over defs clocks new) view c x r) rest
      ∙ from_same (more old) defs clocks old new view c x r same)

-- the parents of a chain are possible ones
pub possible_in : (w : Wiring) (ks : List ChainStep) → AllByRecursion (HasParent w) ks → AllByRecursion (IsPossible w.defs) ks
possible_in w [] has = tt
possible_in w (k ∷ ks) has = (has.0.possible, possible_in w ks has.1)

climbs_possible : (w : Wiring) (c : ℕ) (ks : List ChainStep) (o : Option (List ChainStep)) → IfSome o (Climbs w c) → o ≡ Some ks → AllByRecursion (IsPossible w.defs) ks
climbs_possible w c ks None climbs at = absurd cc
climbs_possible w c ks (Some ls) climbs at = let same : ls ≡ ks = cc in subst (λ (js : List ChainStep). AllByRecursion (IsPossible w.defs) js) same (possible_in w ls climbs.leads.parents)

-- plans are the same over trees with the same links and fields
pub chain_same : (words : ℕ) (defs : Description) (clocks : List ClockRow) (old new : Registers) (view : View) (c x : ℕ) → IsValid words defs → LinksArePossible defs clocks → SameFields defs old new
    → chain (tree_over defs clocks new) view c x ≡ chain (tree_over defs clocks old) view c x
unfolding chain
chain_same words defs clocks old new view c x valid links same =
    let rates = rates_same defs clocks old new same in
    let w : Wiring = tree_over defs clocks old in
    let v : Wiring = tree_over defs clocks new in
    ap (λ (m : ℕ → ℕ → Option (List ChainStep)). option_and_then (λ ks. if keeps_boundaries v view ks then Some ks else None) (m c x)) (within_same depth defs clocks old new view rates)
    ∙ then_same (chain_within depth w view c x) (λ ks. if keeps_boundaries v view ks then Some ks else None) (λ ks. if keeps_boundaries w view ks then Some ks else None)
    (λ ks at.
    let possible = climbs_possible w c ks (chain_within depth w view c x) (climbs_within depth w view c x (lines_end words defs valid) links) at in
    let out = tree_rates (outcome ks v) (outcome ks w) (outcome_same words ks v w valid possible (record { defs = refl; clocks = refl; regs = same })) in
    ap (λ (after : ℕ → ℕ). if list_all (λ k. let r = after k.clock in nat_le (view.low k.clock) r && nat_le r (view.high k.clock)) ks then Some ks else None) out)
