-- Laws on settings: what is put in a field of a valid description fits it.
use Rattle.std.proofs.Common.{◌≡◌, ℕ, ◌+◌, ◌-◌, ◌^◌, ◌<◌, ◌≤◌, Bool, true, false, cond, List, [], ◌∷◌, Option, Some, None, refl, ap, subst, sym, ◌∙◌, inl, inr, arith, length}
use Rattle.std.specs.Prelude.{◌==◌, IfSome, not, ◌&&◌}
use Rattle.std.specs.List.{AllByRecursion, filter, position_or_len, reduce}
use Rattle.std.specs.Prelude.{max}
use Rattle.std.specs.Option.{unwrap_or}
use Rattle.std.proofs.lemmas.Bool.{and_parts, leb-true, ltb-true}
use Rattle.clk_base.specs.declared.clock.Kind.{Kind}
use Rattle.clk_base.specs.declared.clock.Kind.TheVariants.{FixedRate, Factor, Gate, Mux, Divider, Pll}
use Rattle.clk_base.specs.Description.{Description, kind_of, parents_of}
use Rattle.clk_base.specs.Fields.{Field, bit_field, field_of}
use Rattle.clk_base.specs.Valid.{IsValid, is_width, has_ranges}
use Rattle.clk_base.proofs.Valid.{gate-field, power-field, field-field}
use Rattle.kind_math.specs.declared.div_style.DivStyle.{DivStyle}
use Rattle.kind_math.specs.declared.div_style.DivStyle.TheVariants.{Plain, OneBased, PowerOfTwo}
use Rattle.kind_math.specs.Choices.{greatest}
use Rattle.kind_math.specs.Dividers.{IsDividerWidth, valid_fields, least_or_greatest, div_setting}
use Rattle.kind_math.specs.Plls.{multipliers, pll_multiplier}
use Rattle.kind_math.proofs.Chosen.{max_prefers, fold_keeps, each-filter}
use Rattle.kind_math.proofs.Ranges.{each_in_range, chosen_keeps}
use Rattle.kind_math.proofs.DivisorLaws.{valid_fields_some}
use Rattle.reg_bank.specs.Registers.{Registers, field, put, is_set}
use Rattle.reg_bank.proofs.FieldLaws.{field-put_same}
use Rattle.std.proofs.lemmas.Option.{same_Some}
use Rattle.clk_model.specs.Lists.{is_in}
use Rattle.clk_model.specs.State.{ChainStep}
use Rattle.clk_model.specs.Rate.{style_of}
use Rattle.clk_model.specs.Round.{Wiring}
use Rattle.clk_model.specs.Chain.{setting, outcome}
use Rattle.clk_model.specs.Laws.Paths.{scales_by}
use Rattle.clk_model.specs.Laws.Plans.{clocks_in, LieApart, LiesOutside, DiffersIn, LeavesFields, OutcomesKeep}
use Rattle.clk_model.proofs.Members.{is_in_head, is_in_tail, is_in_cases, test_other}
use Rattle.clk_model.proofs.ApartLaws.{ranges_hold, fields_apart, gate_or_field}
use Rattle.clk_model.proofs.OutcomeLaws.{FitsKind, SettingsFit, field-put_outside, differs_in}

-- ---- places

place_here : (p x : ℕ) (xs : List ℕ) (t : Bool) → (t ≡ false → position_or_len (λ q. q == p) xs < length xs)
    → cond (not t) (1 + position_or_len (λ q. q == p) xs) 0 < length (x ∷ xs)
place_here p x xs true rest = omega arith
place_here p x xs false rest = let below = rest refl in omega arith

pub in_rest : (p x : ℕ) (xs : List ℕ) → is_in p (x ∷ xs) ≡ true → (x == p) ≡ false → is_in p xs ≡ true
in_rest p x xs m differs =
    elim (is_in_cases p x xs m) [
      | inl e ↦ absurd (test_other x p differs e)
      | inr r ↦ r
    ]

-- the place of what is in a list is one of its places
place_lt : (p : ℕ) (xs : List ℕ) → is_in p xs ≡ true → position_or_len (λ q. q == p) xs < length xs
place_lt p [] m = absurd cc
place_lt p (x ∷ xs) m = place_here p x xs (x == p) (λ differs. place_lt p xs (in_rest p x xs m differs))

-- ---- dividers

fields_fit : (style : DivStyle) (width : ℕ) → AllByRecursion (λ n. n < 2 ^ width) (valid_fields style width)
unfolding valid_fields
fields_fit Plain width = each_in_range (λ n. n < 2 ^ width) 0 (2 ^ width) (λ e low high. omega arith)
fields_fit OneBased width = each_in_range (λ n. n < 2 ^ width) 1 (2 ^ width - 1) (λ e low high. omega arith)
fields_fit PowerOfTwo width = each_in_range (λ n. n < 2 ^ width) 0 (2 ^ width) (λ e low high. omega arith)

chosen_fits : (style : DivStyle) (width : ℕ) (p : ℕ → Bool) → IsDividerWidth style width → least_or_greatest p (valid_fields style width) < 2 ^ width
chosen_fits style width p wide =
    let some = valid_fields_some style width wide in
    subst (λ (xs : List ℕ). least_or_greatest p xs < 2 ^ width) (sym some.2)
    (chosen_keeps (λ n. n < 2 ^ width) p some.0 some.1 (subst (λ (xs : List ℕ). AllByRecursion (λ n. n < 2 ^ width) xs) some.2 (fields_fit style width)))

pub div_setting-fits : (style : DivStyle) (parent rate width : ℕ) → IsDividerWidth style width → div_setting parent rate width style < 2 ^ width
unfolding div_setting
div_setting-fits style parent rate width wide = chosen_fits style width _ wide

pub is_wide : (most width : ℕ) → is_width most width ≡ true → (1 ≤ width) × (width ≤ most)
is_wide most width is = let parts = and_parts _ _ is in ((let low = ltb-true 0 width parts.0 in omega arith), leb-true width most parts.1)

pub divider_wide : (one_based power_of_two : Bool) (width : ℕ) → cond power_of_two (is_width 5 width && not one_based) (is_width 16 width) ≡ true
    → IsDividerWidth (style_of one_based power_of_two) width
divider_wide one_based true width is = is_wide 5 width (and_parts _ _ is).0
divider_wide true false width is = is_wide 16 width is
divider_wide false false width is = is_wide 16 width is

-- ---- PLLs

greatest_keeps : (Q : ℕ → Type 0) (ys : List ℕ) (d : ℕ) → AllByRecursion Q ys → Q d → Q (unwrap_or (reduce max ys) d)
greatest_keeps Q [] d each holds = holds
greatest_keeps Q (y ∷ ys) d each holds = fold_keeps max_prefers Q y ys each.0 each.1

given : (Q : ℕ → Type 0) (p : ℕ → Bool) (ys : List ℕ) → AllByRecursion Q ys → AllByRecursion (λ y. p y ≡ true → Q y) ys
given Q p [] each = tt
given Q p (y ∷ ys) each = ((λ _. each.0), given Q p ys each.1)

-- the multiplier for a rate is in its range
pub pll_multiplier-le : (parent rate low high m : ℕ) → low ≤ high → pll_multiplier parent rate low high m ≤ high
unfolding pll_multiplier greatest
pll_multiplier-le parent rate low high m order =
    greatest_keeps (λ n. n ≤ high) (filter _ (multipliers low high)) low
    (each-filter _ (λ n. n ≤ high) (multipliers low high)
    (given (λ n. n ≤ high) _ (multipliers low high) (each_in_range (λ n. n ≤ high) low (high + 1 - low) (λ e from to. omega arith)))) order

-- ---- each kind

settings_of : (kind : Kind) (parents : List ℕ) → has_ranges kind (length parents) ≡ true → FitsKind kind parents
settings_of (FixedRate rate) parents is = record { place = λ f p at m. absurd cc; put_ = λ parent planned regs f apart. refl }
settings_of (Factor mult div) parents is = record { place = λ f p at m. absurd cc; put_ = λ parent planned regs f apart. refl }
settings_of (Gate word bit set_to_disable) parents is = record { place = λ f p at m. absurd cc; put_ = λ parent planned regs f apart. refl }
settings_of (Mux word shift width read_only) parents is = record {
  place = λ f p at m.
      let few = leb-true (length parents) (2 ^ width) (and_parts _ _ is).1 in
      let wide : width ≡ f.width = cc in
      let below = place_lt p parents m in
      subst (λ (n : ℕ). position_or_len (λ q. q == p) parents < 2 ^ n) wide (omega arith);
  put_ = λ parent planned regs f apart. refl;
}
settings_of (Divider word shift width one_based power_of_two) parents is = record {
  place = λ f p at m. absurd cc;
  put_ = λ parent planned regs f apart.
      field-put_outside regs f (record { word = word; shift = shift; width = width }) _ apart
      (div_setting-fits (style_of one_based power_of_two) parent planned width (divider_wide one_based power_of_two width is));
}
settings_of (Pll word shift width power_word power_bit least most m) parents is = record {
  place = λ f p at n. absurd cc;
  put_ = λ parent planned regs f apart.
      let parts = and_parts _ _ is in
      let order = leb-true least most (and_parts _ _ parts.0).1 in
      let below = ltb-true most (2 ^ width) parts.1 in
      let le = pll_multiplier-le parent planned least most m order in
      field-put_outside regs f (record { word = word; shift = shift; width = width }) _ apart (omega arith);
}

-- what is put in a field of a valid description fits it
pub settings_fit : (words : ℕ) (defs : Description) → IsValid words defs → SettingsFit defs
settings_fit words defs valid c = settings_of (kind_of defs c) (parents_of defs c) (ranges_hold words defs valid c)

-- ---- what lies outside

outside_of : (defs : Description) (ks : List ChainStep) (f : Field) → ((k : ChainStep) (g : Field) → is_in k.clock (clocks_in ks) ≡ true → field_of (kind_of defs k.clock) ≡ Some g → LieApart f g)
    → LiesOutside defs ks f
outside_of defs [] f each = tt
outside_of defs (k ∷ ks) f each = (if_field (field_of (kind_of defs k.clock)) (λ g e. each k g (is_in_head k.clock (clocks_in ks)) e), outside_of defs ks f (λ l g m e. each l g (is_in_tail l.clock k.clock (clocks_in ks) m) e)) where
  if_field : (o : Option Field) → ((g : Field) → o ≡ Some g → LieApart f g) → IfSome o (LieApart f)
  if_field None some = tt
  if_field (Some g) some = some g refl

-- bits read the same where they do as fields
pub bit_same : (xs ys : Registers) (word bit : ℕ) → field xs word bit 1 ≡ field ys word bit 1 → is_set xs word bit ≡ is_set ys word bit
unfolding is_set
bit_same xs ys word bit same = ap (λ (n : ℕ). n == 1) same

leaves_fields : (words : ℕ) (ks : List ChainStep) (w v : Wiring) → IsValid words w.defs → DiffersIn ks w v → LeavesFields ks w v
leaves_fields words ks w v valid differs = record {
  others = λ c j f out at.
      differs.fields f (outside_of w.defs ks f
      (λ k g m e. fields_apart words w.defs valid c j f k.clock 0 g at (field-field (kind_of w.defs k.clock) g e)
      (λ same. let there : is_in c (clocks_in ks) ≡ true = ap (λ (x : ℕ). is_in x (clocks_in ks)) same ∙ m in absurd cc)));
  gates = λ c gate at.
      ap (λ (b : Bool). cond gate.set_to_disable (not b) b)
      (bit_same v.regs w.regs gate.word gate.bit
      (differs.fields (bit_field gate.word gate.bit) (outside_of w.defs ks (bit_field gate.word gate.bit)
      (λ k g m e. fields_apart words w.defs valid c 0 (bit_field gate.word gate.bit) k.clock 0 g (gate-field (kind_of w.defs c) gate at) (field-field (kind_of w.defs k.clock) g e)
      (λ same. absurd (gate_or_field (kind_of w.defs c) gate g at (ap (λ (x : ℕ). field_of (kind_of w.defs x)) same ∙ e)))))));
  powers = λ c power at.
      bit_same v.regs w.regs power.word power.bit
      (differs.fields (bit_field power.word power.bit) (outside_of w.defs ks (bit_field power.word power.bit)
      (λ k g m e. fields_apart words w.defs valid c 1 (bit_field power.word power.bit) k.clock 0 g (power-field (kind_of w.defs c) power at) (field-field (kind_of w.defs k.clock) g e)
      (λ same equal. omega arith))));
}

-- an outcome changes the links and the fields of its chain alone
pub outcomes_keep : OutcomesKeep
outcomes_keep words w c ks valid leads =
    let differs = differs_in ks w (settings_fit words w.defs valid) leads.parents leads.once in
    (differs, leaves_fields words ks w (outcome ks w) valid differs)

-- ---- a setting reads the same, whatever it is put into

put_same : (regs regs' : Registers) (word shift width value : ℕ) → word < length regs → word < length regs' → value < 2 ^ width
    → field (put regs word shift width value) word shift width ≡ field (put regs' word shift width value) word shift width
put_same regs regs' word shift width value within within' fits = field-put_same regs word shift width value within fits ∙ sym (field-put_same regs' word shift width value within' fits)

-- the field by which a clock divides or multiplies reads the same behind its setting
pub setting_same : (kind : Kind) (parents : ℕ) (f : Field) (parent planned : ℕ) (regs regs' : Registers) → has_ranges kind parents ≡ true → scales_by kind ≡ Some f → f.word < length regs → f.word < length regs'
    → field (setting kind parent planned regs) f.word f.shift f.width ≡ field (setting kind parent planned regs') f.word f.shift f.width
setting_same (FixedRate rate) parents f parent planned regs regs' is at within within' = absurd cc
setting_same (Factor mult div) parents f parent planned regs regs' is at within within' = absurd cc
setting_same (Gate word bit set_to_disable) parents f parent planned regs regs' is at within within' = absurd cc
setting_same (Mux word shift width read_only) parents f parent planned regs regs' is at within within' = absurd cc
setting_same (Divider word shift width one_based power_of_two) parents f parent planned regs regs' is at within within' =
    let same : record { word = word; shift = shift; width = width } ≡ f = same_Some (record { word = word; shift = shift; width = width }) f at in
    let w : word ≡ f.word = ap (λ (g : Field). g.word) same in
    subst (λ (g : Field). field (setting (Divider word shift width one_based power_of_two) parent planned regs) g.word g.shift g.width
    ≡ field (setting (Divider word shift width one_based power_of_two) parent planned regs') g.word g.shift g.width) same
    (put_same regs regs' word shift width _ (omega arith) (omega arith) (div_setting-fits (style_of one_based power_of_two) parent planned width (divider_wide one_based power_of_two width is)))
setting_same (Pll word shift width power_word power_bit least most m) parents f parent planned regs regs' is at within within' =
    let same : record { word = word; shift = shift; width = width } ≡ f = same_Some (record { word = word; shift = shift; width = width }) f at in
    let w : word ≡ f.word = ap (λ (g : Field). g.word) same in
    let parts = and_parts _ _ is in
    let order = leb-true least most (and_parts _ _ parts.0).1 in
    let below = ltb-true most (2 ^ width) parts.1 in
    let le = pll_multiplier-le parent planned least most m order in
    subst (λ (g : Field). field (setting (Pll word shift width power_word power_bit least most m) parent planned regs) g.word g.shift g.width
    ≡ field (setting (Pll word shift width power_word power_bit least most m) parent planned regs') g.word g.shift g.width) same
    (put_same regs regs' word shift width _ (omega arith) (omega arith) (omega arith))
