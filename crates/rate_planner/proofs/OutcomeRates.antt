-- The rates that come out of a chain from the top down are those of its outcome.
use Rattle.std.proofs.Common.{◌≡◌, ℕ, zero, suc, ◌<◌, ◌≤◌, Bool, true, false, not, ◌||◌, cond, List, [], ◌∷◌, Option, Some, None, refl, sym, ap, subst, ◌∙◌, inl, inr, arith, length, nat_eq}
use Rattle.std.specs.Prelude.{IfSome, option_map}
use Rattle.std.specs.List.{AllByRecursion}
use Rattle.std.specs.Option.{option_map_or}
use Rattle.std.proofs.lemmas.Bool.{false_from_ne_true}
use Rattle.clk_base.specs.declared.clock.Kind.{Kind}
use Rattle.clk_base.specs.declared.clock.Kind.TheVariants.{FixedRate, Factor, Gate, Mux, Divider, Pll}
use Rattle.clk_base.specs.Description.{Description, kind_of, parents_of}
use Rattle.clk_base.specs.Fields.{Field, field_of}
use Rattle.clk_base.specs.Levels.{depth, ends_within, reaches_within}
use Rattle.clk_base.specs.Valid.{IsValid}
use Rattle.clk_base.proofs.Valid.{field-field, fields-within}
use Rattle.kind_math.specs.Rates.{div_rate, pll_rate}
use Rattle.kind_math.specs.Dividers.{div_setting}
use Rattle.kind_math.specs.Plls.{pll_multiplier}
use Rattle.reg_bank.specs.Registers.{Registers, field, put}
use Rattle.reg_bank.proofs.FieldLaws.{field-put_same}
use Rattle.clk_model.specs.declared.row.ClockRow.{ClockRow}
use Rattle.clk_model.specs.Lists.{is_in, same_place}
use Rattle.clk_model.specs.Kinds.{mux_field}
use Rattle.clk_model.specs.State.{ChainStep, link_in}
use Rattle.clk_model.specs.Tree.{path}
use Rattle.clk_model.specs.Rate.{style_of, rate_over, rate}
use Rattle.clk_model.specs.Round.{Wiring, rate_in, parent_rate_in}
use Rattle.clk_model.specs.Chain.{clock_id, moves, place_of, select, setting, set_one}
use Rattle.clk_model.specs.Wired.{LinksArePossible, IsWired}
use Rattle.clk_model.specs.Laws.Plans.{HasParent, LeadsUp, LieApart}
use Rattle.clk_model.specs.Laws.Paths.{scales_by}
use Rattle.clk_model.proofs.Members.{any_in, or_cases, same_from_test}
use Rattle.clk_model.proofs.PlanLaws.{IsAbove, above_parent, not_above_parent}
use Rattle.clk_model.proofs.ApartLaws.{fields_apart}
use Rattle.clk_model.proofs.OutcomeLaws.{SetsOne}
use Rattle.clk_model.proofs.SettingLaws.{pll_multiplier-le}
use Rattle.clk_model.proofs.BelowLaws.{path_rises, rises_above}
use Rattle.clk_model.proofs.RateLaws.{over_same, rate_leaves, writes_leave_rates}
use Rattle.clk_model.proofs.WholePathLaws.{other_member}
use Rattle.rate_planner.specs.Given.{CanScale}
use Rattle.rate_planner.specs.Outcomes.{set_rate, out_rate}
use Rattle.rate_planner.proofs.Scaling.{can_scale}
use Rattle.clk_model.proofs.SettingLaws.{div_setting-fits}
use Rattle.clk_model.proofs.GateRateLaws.{scales_is_field}

-- ---- a tree over a bank that has its words

pub record IsGround (words : ℕ) (w : Wiring) : Type 0 where
  pub wired : IsWired words w
  pub bank : words ≤ length w.regs

-- ---- above

reaches_on : (parents : ℕ → List ℕ) (n m c d e : ℕ) → reaches_within parents n d c ≡ true → reaches_within parents m e d ≡ true → (k : ℕ) × (reaches_within parents k e c ≡ true)
reaches_on parents zero m c d e there on = absurd cc
reaches_on parents (suc n) m c d e there on =
    let found = any_in (λ p. nat_eq p d || reaches_within parents n d p) (parents c) there in
    elim (or_cases (nat_eq found.0 d) (reaches_within parents n d found.0) found.2) [
      | inl same ↦
          let is : found.0 ≡ d = same_from_test found.0 d same in
          above_parent parents c found.0 e found.1 (inr (m, ap (reaches_within parents m e) is ∙ on))
      | inr more ↦ above_parent parents c found.0 e found.1 (inr (reaches_on parents n m found.0 d e more on))
    ]

above_on : (parents : ℕ → List ℕ) (c d e : ℕ) → IsAbove parents c d → IsAbove parents d e → IsAbove parents c e
above_on parents c d e (inl same) rest = subst (λ (x : ℕ). IsAbove parents x e) same rest
above_on parents c d e (inr there) (inl same) = subst (λ (x : ℕ). IsAbove parents c x) (sym same) (inr there)
above_on parents c d e (inr there) (inr on) = inr (reaches_on parents there.0 on.0 c d e there.1 on.1)

-- a clock isn't on the path of what is above its possible parent
pub off_path : (defs : Description) (clocks : List ClockRow) (k p d : ℕ) → ((c : ℕ) → ends_within (parents_of defs) depth c ≡ true) → LinksArePossible defs clocks
    → is_in p (parents_of defs k) ≡ true → IsAbove (parents_of defs) p d → is_in k (path clocks d) ≡ false
off_path defs clocks k p d ends links possible above =
    false_from_ne_true (is_in k (path clocks d)) (λ m.
    let way = path_rises (link_in clocks) depth d k m in
    not_above_parent (parents_of defs) depth k p (ends k) possible (above_on (parents_of defs) p d k above (rises_above (parents_of defs) (link_in clocks) way.0 d k links way.1)))

-- the clocks of a chain are above its first
pub above_all : (w : Wiring) (k : ChainStep) (ks : List ChainStep) → LeadsUp (k ∷ ks) → AllByRecursion (HasParent w) (k ∷ ks)
    → AllByRecursion (λ l. IsAbove (parents_of w.defs) k.clock l.clock) (k ∷ ks)
above_all w k [] leads has = (inl refl, tt)
above_all w k (l ∷ ks) leads has =
    (inl refl, further (parents_of w.defs) k.clock l.clock (l ∷ ks) (has.0.possible l.clock leads.0) (above_all w l ks leads.1 has.1)) where
      further : (parents : ℕ → List ℕ) (c p : ℕ) (ls : List ChainStep) → is_in p (parents c) ≡ true → AllByRecursion (λ m. IsAbove parents p m.clock) ls → AllByRecursion (λ m. IsAbove parents c m.clock) ls
      further parents c p [] m each = tt
      further parents c p (x ∷ ls) m each = (inr (above_parent parents c p x.clock m each.0), further parents c p ls m each.1)

-- ---- one setting

pub if_field : (o : Option Field) (P : Field → Type 0) → ((g : Field) → o ≡ Some g → P g) → IfSome o P
if_field None P some = tt
if_field (Some g) P some = some g refl

abbrev pub link_row : ClockRow → Option ℕ
link_row r = option_map (λ p. p.0) r.link

pub link_back : (o : Option ℕ) → option_map (λ p. p.0) (option_map clock_id o) ≡ o
link_back None = refl
link_back (Some p) = refl

-- it leaves the rate of each clock whose path hasn't its clock
pub one_leaves : (words : ℕ) (k : ChainStep) (u : Wiring) (d : ℕ) → IsValid words u.defs → SetsOne k u (set_one k u) → is_in k.clock (path u.clocks d) ≡ false
    → rate_in (set_one k u) d ≡ rate_in u d
one_leaves words k u d valid one out =
    rate_leaves u.defs (set_one k u).regs u.clocks (set_one k u).clocks k.clock d
    (λ a other. ap (λ (r : ClockRow). option_map (λ p. p.0) r.link) (one.others a (λ same. other (sym same)))) out
    ∙ writes_leave_rates u.defs u.regs (set_one k u).regs u.clocks d
    (λ a m f e. one.fields f (if_field (field_of (kind_of u.defs k.clock)) (LieApart f)
    (λ g at. fields_apart words u.defs valid a 0 f k.clock 0 g (field-field (kind_of u.defs a) f (scales_is_field (kind_of u.defs a) f e)) (field-field (kind_of u.defs k.clock) g at)
    (λ same. absurd (other_member k.clock a (path u.clocks d) out m (sym same))))))

-- what a mux selects doesn't scale it
select_scales : (defs : Description) (c p : ℕ) (kind : Kind) (regs : Registers) (x value : ℕ)
    → rate_over kind (option_map_or (λ f. put regs f.word f.shift f.width value) (mux_field kind) regs) x ≡ rate_over kind regs x
select_scales defs c p (FixedRate rate) regs x value = refl
select_scales defs c p (Factor mult div) regs x value = refl
select_scales defs c p (Gate word bit set_to_disable) regs x value = refl
select_scales defs c p (Mux word shift width read_only) regs x value = refl
select_scales defs c p (Divider word shift width one_based power_of_two) regs x value = refl
select_scales defs c p (Pll word shift width power_word power_bit least most m) regs x value = refl

-- a setting gives the rate that it is to give
setting_scales : (kind : Kind) (regs : Registers) (parent planned : ℕ) → CanScale kind → ((f : Field) → field_of kind ≡ Some f → f.word < length regs)
    → rate_over kind (setting kind parent planned regs) parent ≡ set_rate kind regs parent planned
setting_scales (FixedRate rate) regs parent planned scales lies = refl
setting_scales (Factor mult div) regs parent planned scales lies = refl
setting_scales (Gate word bit set_to_disable) regs parent planned scales lies = refl
setting_scales (Mux word shift width read_only) regs parent planned scales lies = refl
setting_scales (Divider word shift width one_based power_of_two) regs parent planned scales lies =
    ap (λ (n : ℕ). div_rate parent n (style_of one_based power_of_two))
    (field-put_same regs word shift width (div_setting parent planned width (style_of one_based power_of_two)) (lies (record { word = word; shift = shift; width = width }) refl)
    (div_setting-fits (style_of one_based power_of_two) parent planned width scales))
setting_scales (Pll word shift width power_word power_bit least most m) regs parent planned scales lies =
    ap (λ (n : ℕ). pll_rate parent n m)
    (field-put_same regs word shift width (pll_multiplier parent planned least most m) (lies (record { word = word; shift = shift; width = width }) refl)
    (let le = pll_multiplier-le parent planned least most m scales.0 in let below = scales.2 in omega arith))

-- and reads no register for it
set_same : (kind : Kind) (old new : Registers) (parent planned : ℕ) → set_rate kind new parent planned ≡ set_rate kind old parent planned
set_same (FixedRate rate) old new parent planned = refl
set_same (Factor mult div) old new parent planned = refl
set_same (Gate word bit set_to_disable) old new parent planned = refl
set_same (Mux word shift width read_only) old new parent planned = refl
set_same (Divider word shift width one_based power_of_two) old new parent planned = refl
set_same (Pll word shift width power_word power_bit least most m) old new parent planned = refl

-- ---- a clock above a chain that is set already

-- what is known of a step above a chain whose outcome is u
pub record OverRest (words : ℕ) (w : Wiring) (k : ChainStep) (u : Wiring) : Type 0 where
  pub ground : IsGround words w
  pub defs : u.defs ≡ w.defs
  pub words_ : length u.regs ≡ length w.regs
  pub link : link_in u.clocks k.clock ≡ link_in w.clocks k.clock
  pub scales : (f : Field) → scales_by (kind_of w.defs k.clock) ≡ Some f → field u.regs f.word f.shift f.width ≡ field w.regs f.word f.shift f.width
  pub within : k.clock < length w.defs

-- the rate that a setting leaves over a rate of the parent
pub own_rate : (words : ℕ) (w : Wiring) (k : ChainStep) (u : Wiring) (parent : ℕ) → OverRest words w k u → (k.parent ≡ None → link_in w.clocks k.clock ≡ None)
    → (moves w.clocks k ≡ false → parent_rate_in u k.clock ≡ parent)
    → rate_over (kind_of w.defs k.clock) (set_one k u).regs parent ≡ out_rate w k parent
own_rate words w k u parent over none above = by_move (moves w.clocks k) refl where
  kind : Kind
  kind = kind_of w.defs k.clock

  same_kind : kind_of u.defs k.clock ≡ kind_of w.defs k.clock
  same_kind = ap (λ (ds : Description). kind_of ds k.clock) over.defs

  same_move : moves u.clocks k ≡ moves w.clocks k
  same_move = ap (λ (o : Option ℕ). not (same_place k.parent o)) over.link

  lies : (f : Field) → field_of (kind_of w.defs k.clock) ≡ Some f → f.word < length u.regs
  lies f at =
      let is = fields-within words w.defs over.ground.wired.valid k.clock 0 f over.within (field-field (kind_of w.defs k.clock) f at) in
      let inside : f.word < words = is.0 in
      let some = over.ground.bank in
      let size = over.words_ in
      omega arith

  moved : (o : Option ℕ) → rate_over (kind_of w.defs k.clock) (option_map_or (λ p. select u.defs k.clock p u.regs) o u.regs) parent ≡ rate_over (kind_of w.defs k.clock) u.regs parent
  moved None = refl
  moved (Some p) =
      ap (λ (kd : Kind). rate_over (kind_of w.defs k.clock) (option_map_or (λ f. put u.regs f.word f.shift f.width (place_of u.defs k.clock p)) (mux_field kd) u.regs) parent) same_kind
      ∙ select_scales w.defs k.clock p (kind_of w.defs k.clock) u.regs parent (place_of u.defs k.clock p)

  by_move : (t : Bool) → moves w.clocks k ≡ t
      → rate_over (kind_of w.defs k.clock)
      (cond (moves u.clocks k) (option_map_or (λ p. select u.defs k.clock p u.regs) k.parent u.regs) (setting (kind_of u.defs k.clock) (parent_rate_in u k.clock) k.rate u.regs)) parent
      ≡ cond (moves w.clocks k) (rate_over (kind_of w.defs k.clock) w.regs parent) (set_rate (kind_of w.defs k.clock) w.regs parent k.rate)
  by_move true is =
      ap (λ (t : Bool). rate_over (kind_of w.defs k.clock)
      (cond t (option_map_or (λ p. select u.defs k.clock p u.regs) k.parent u.regs) (setting (kind_of u.defs k.clock) (parent_rate_in u k.clock) k.rate u.regs)) parent) (same_move ∙ is)
      ∙ moved k.parent
      ∙ over_same (kind_of w.defs k.clock) w.regs u.regs over.scales parent
      ∙ sym (ap (λ (t : Bool). cond t (rate_over (kind_of w.defs k.clock) w.regs parent) (set_rate (kind_of w.defs k.clock) w.regs parent k.rate)) is)
  by_move false is =
      ap (λ (t : Bool). rate_over (kind_of w.defs k.clock)
      (cond t (option_map_or (λ p. select u.defs k.clock p u.regs) k.parent u.regs) (setting (kind_of u.defs k.clock) (parent_rate_in u k.clock) k.rate u.regs)) parent) (same_move ∙ is)
      ∙ ap (λ (kd : Kind). rate_over (kind_of w.defs k.clock) (setting kd (parent_rate_in u k.clock) k.rate u.regs) parent) same_kind
      ∙ ap (λ (r : ℕ). rate_over (kind_of w.defs k.clock) (setting (kind_of w.defs k.clock) r k.rate u.regs) parent) (above is)
      ∙ setting_scales (kind_of w.defs k.clock) u.regs parent k.rate (can_scale words w.defs k.clock over.ground.wired.valid over.within) lies
      ∙ set_same (kind_of w.defs k.clock) w.regs u.regs parent k.rate
      ∙ sym (ap (λ (t : Bool). cond t (rate_over (kind_of w.defs k.clock) w.regs parent) (set_rate (kind_of w.defs k.clock) w.regs parent k.rate)) is)
