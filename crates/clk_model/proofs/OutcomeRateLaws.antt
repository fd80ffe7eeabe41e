-- Laws on outcomes and rates: the setting of each clock of a chain is over the rate that its parent has in the whole outcome.
use Rattle.std.proofs.Common.{◌≡◌, ◌≢◌, ℕ, zero, suc, ◌<◌, Bool, true, false, not, cond, List, [], ◌∷◌, Option, Some, None, refl, sym, ap, subst, ◌∙◌, inl, inr, arith, length}
use Rattle.std.proofs.lemmas.Bool.{and_parts, eqb-true}
use Rattle.std.specs.Prelude.{◌==◌, IfSome, option_map}
use Rattle.std.specs.List.{AllByRecursion}
use Rattle.std.specs.Option.{option_map_or}
use Rattle.clk_base.specs.declared.clock.Kind.{Kind}
use Rattle.clk_base.specs.declared.clock.Kind.TheVariants.{FixedRate, Factor, Gate, Mux, Divider, Pll}
use Rattle.clk_base.specs.Description.{Description, kind_of, parents_of}
use Rattle.clk_base.specs.Fields.{Field, field_of}
use Rattle.clk_base.specs.Levels.{depth}
use Rattle.clk_base.specs.Valid.{IsValid, can_have_parents}
use Rattle.clk_base.proofs.Valid.{field-field, fields-within, lines_end}
use Rattle.reg_bank.specs.Registers.{Registers, field}
use Rattle.clk_model.specs.declared.row.ClockRow.{ClockRow}
use Rattle.clk_model.specs.Lists.{is_in, none_twice, same_place}
use Rattle.clk_model.specs.State.{ChainStep, row_of, link_in}
use Rattle.clk_model.specs.Tree.{path}
use Rattle.clk_model.specs.Rate.{rate}
use Rattle.clk_model.specs.Round.{Wiring, rate_in, parent_rate_in}
use Rattle.clk_model.specs.Chain.{moves, select, setting, linked, set_one, outcome}
use Rattle.clk_model.specs.Laws.Paths.{scales_by, ScalesAlike}
use Rattle.clk_model.specs.Laws.Plans.{clocks_in, HasParent, LeadsUp, LieApart, DiffersIn}
use Rattle.clk_model.specs.Wired.{IsWired, IsOrder}
use Rattle.clk_model.proofs.Members.{is_in_cases, test_same, not_either}
use Rattle.clk_model.proofs.OnceLaws.{once_head}
use Rattle.clk_model.proofs.PlanLaws.{IsAbove, above_parent, not_above_parent}
use Rattle.clk_model.proofs.ApartLaws.{ranges_hold, fields_apart, fielded_lt}
use Rattle.clk_model.proofs.OutcomeLaws.{SetsOne, sets_one, FitsKind, differs_in}
use Rattle.clk_model.proofs.SettingLaws.{settings_fit, setting_same}
use Rattle.clk_model.proofs.RateLaws.{over_same, rate_agree}
use Rattle.clk_model.proofs.BelowLaws.{Rises, IsUp}
use Rattle.clk_model.proofs.AboveLaws.{path_above}
use Rattle.clk_model.proofs.WalkLaws.{Planned_, links_after}
use Rattle.clk_model.proofs.GateRateLaws.{scales_is_field}
use Rattle.clk_model.proofs.PlanRootLaws.{StepsRooted, rooted_linked}
use Rattle.clk_model.proofs.WalkOrderLaws.{tail_leads}

-- ---- rates of trees that are alike

-- where the clocks on a path have the same links and divide and multiply by the same, the rate is the same
pub rates_alike : (defs : Description) (old new : Registers) (before after : List ClockRow) (d : ℕ)
    → ((a : ℕ) → is_in a (path before d) ≡ true → (link_in after a ≡ link_in before a) × ScalesAlike defs old new a) → rate defs new after d ≡ rate defs old before d
unfolding rate
rates_alike defs old new before after d same =
    rate_agree defs old new before after depth d (λ a m. record { link = (same a m).0; over = over_same (kind_of defs a) old new (same a m).1 })

-- ---- one setting

-- the field by which a clock divides or multiplies lies in the first words
pub scale_lt : (words : ℕ) (defs : Description) (c : ℕ) (f : Field) → IsValid words defs → scales_by (kind_of defs c) ≡ Some f → f.word < words
scale_lt words defs c f valid at =
    let own = field-field (kind_of defs c) f (scales_is_field (kind_of defs c) f at) in
    (fields-within words defs valid c 0 f (fielded_lt defs c 0 f own) own).0

-- it leaves what other clocks divide and multiply by
one_scales : (words : ℕ) (k : ChainStep) (u v : Wiring) (a : ℕ) → IsValid words u.defs → SetsOne k u v → a ≢ k.clock → ScalesAlike u.defs u.regs v.regs a
one_scales words k u v a valid one other f at = one.fields f (off (field_of (kind_of u.defs k.clock)) refl) where
  off : (o : Option Field) → field_of (kind_of u.defs k.clock) ≡ o → IfSome o (LieApart f)
  off None own = tt
  off (Some g) own =
      fields_apart words u.defs valid a 0 f k.clock 0 g (field-field (kind_of u.defs a) f (scales_is_field (kind_of u.defs a) f at)) (field-field (kind_of u.defs k.clock) g own) (λ same. absurd (other same))

one_link : (k : ChainStep) (u v : Wiring) (a : ℕ) → SetsOne k u v → a ≢ k.clock → link_in v.clocks a ≡ link_in u.clocks a
one_link k u v a one other = ap (λ (r : ClockRow). option_map (λ p. p.0) r.link) (one.others a other)

-- and the rate of each clock on whose path its own isn't
one_rate : (words : ℕ) (k : ChainStep) (u v : Wiring) (p : ℕ) → IsValid words u.defs → SetsOne k u v → (is_in k.clock (path u.clocks p) ≡ true → ⊥) → rate_in v p ≡ rate_in u p
one_rate words k u v p valid one off =
    ap (λ (ds : Description). rate ds v.regs v.clocks p) one.defs
    ∙ rates_alike u.defs u.regs v.regs u.clocks v.clocks p
    (λ a m.
    let other : a ≢ k.clock = (λ same. off (subst (λ (x : ℕ). is_in x (path u.clocks p) ≡ true) same m)) in
    (one_link k u v a one other, one_scales words k u v a valid one other))

-- ---- above by possible parents

above_on : (parents : ℕ → List ℕ) (up : ℕ → Option ℕ) (n p t d : ℕ) → IsUp parents up → Rises up n p t → IsAbove parents t d → IsAbove parents p d
above_on parents up zero p t d is way high = subst (λ (x : ℕ). IsAbove parents x d) (sym way) high
above_on parents up (suc n) p t d is way high = inr (above_parent parents p way.0 d (is p way.0 way.1) (above_on parents up n way.0 t d is way.2 high))

-- a possible parent of a clock isn't below another that the clock is above
parent_off : (words : ℕ) (defs : Description) (clocks : List ClockRow) (c l p : ℕ) → IsValid words defs → IsUp (parents_of defs) (link_in clocks) → is_in p (parents_of defs l) ≡ true → IsAbove (parents_of defs) c l
    → is_in c (path clocks p) ≡ true → ⊥
parent_off words defs clocks c l p valid is m high on_path =
    let way = path_above (link_in clocks) p c on_path in
    not_above_parent (parents_of defs) depth l p (lines_end words defs valid l) m (above_on (parents_of defs) (link_in clocks) way.0 p c l is way.1 high)

-- the clocks of a chain are above its first one
chain_above : (w : Wiring) (k : ChainStep) (ks : List ChainStep) → LeadsUp (k ∷ ks) → AllByRecursion (HasParent w) (k ∷ ks) → AllByRecursion (λ l. IsAbove (parents_of w.defs) k.clock l.clock) ks
chain_above w k [] leads has = tt
chain_above w k (l ∷ ks) leads has =
    let m : is_in l.clock (parents_of w.defs k.clock) ≡ true = has.0.possible l.clock leads.0 in (
      inr (above_parent (parents_of w.defs) k.clock l.clock l.clock m (inl refl)),
      raise_all ks (chain_above w l ks leads.1 has.1) m,
    ) where
      raise_all : (ls : List ChainStep) → AllByRecursion (λ j. IsAbove (parents_of w.defs) l.clock j.clock) ls → is_in l.clock (parents_of w.defs k.clock) ≡ true
          → AllByRecursion (λ j. IsAbove (parents_of w.defs) k.clock j.clock) ls
      raise_all [] each m = tt
      raise_all (j ∷ ls) each m = (inr (above_parent (parents_of w.defs) k.clock l.clock j.clock m each.0), raise_all ls each.1 m)

-- ---- the whole chain

-- a clock of the chain that doesn't move divides or multiplies by its setting over the rate of its parent in this tree
abbrev pub SetRight : ℕ → Wiring → Wiring → ChainStep → Type 0
SetRight words w v k = moves w.clocks k ≡ false → (regs : Registers) → length regs ≡ words → (f : Field) → scales_by (kind_of w.defs k.clock) ≡ Some f
    → field (setting (kind_of w.defs k.clock) (parent_rate_in v k.clock) k.rate regs) f.word f.shift f.width ≡ field v.regs f.word f.shift f.width

-- what a chain is planned in, up to one of its clocks
pub record Sets (words : ℕ) (order : List ℕ) (w : Wiring) (ks : List ChainStep) : Type 0 where
  pub wired : IsWired words w
  pub size : length w.regs ≡ words
  pub ordered : IsOrder order w.clocks
  pub parents : AllByRecursion (HasParent w) ks
  pub once : none_twice (clocks_in ks) ≡ true
  pub leads : LeadsUp ks

planned_of : (words : ℕ) (order : List ℕ) (w : Wiring) (ks : List ChainStep) → Sets words order w ks → Planned_ words order w ks (outcome ks w)
planned_of words order w ks sets = record {
  wired = sets.wired;
  ordered = sets.ordered;
  parents = sets.parents;
  once = sets.once;
  differs = differs_in ks w (settings_fit words w.defs sets.wired.valid) sets.parents sets.once;
}

sets_rest : (words : ℕ) (order : List ℕ) (w : Wiring) (k : ChainStep) (ks : List ChainStep) → Sets words order w (k ∷ ks) → Sets words order w ks
sets_rest words order w k ks sets = record {
  wired = sets.wired;
  size = sets.size;
  ordered = sets.ordered;
  parents = sets.parents.1;
  once = (once_head k.clock (clocks_in ks) sets.once).1;
  leads = tail_leads k ks sets.leads;
}

-- another setting leaves it
right_still : (words : ℕ) (w u v : Wiring) (k l : ChainStep) → IsValid words w.defs → u.defs ≡ w.defs → IsUp (parents_of w.defs) (link_in u.clocks) → SetsOne k u v → l.clock ≢ k.clock
    → IsAbove (parents_of w.defs) k.clock l.clock → SetRight words w u l → SetRight words w v l
right_still words w u v k l valid defs is one other high right stays regs size f at =
    ap (λ (x : ℕ). field (setting (kind_of w.defs l.clock) x l.rate regs) f.word f.shift f.width) same
    ∙ right stays regs size f at ∙ sym (one_scales words k u v l.clock valid_u one other f (ap (λ (ds : Description). scales_by (kind_of ds l.clock)) defs ∙ at)) where
      valid_u : IsValid words u.defs
      valid_u = subst (λ (ds : Description). IsValid words ds) (sym defs) valid

      by_link : (o : Option ℕ) → link_in u.clocks l.clock ≡ o → option_map_or (rate_in v) o 0 ≡ option_map_or (rate_in u) o 0
      by_link None e = refl
      by_link (Some p) e = one_rate words k u v p valid_u one (parent_off words w.defs u.clocks k.clock l.clock p valid is (is l.clock p e) high)

      same : parent_rate_in v l.clock ≡ parent_rate_in u l.clock
      same = ap (λ (o : Option ℕ). option_map_or (rate_in v) o 0) (one_link k u v l.clock one other) ∙ by_link (link_in u.clocks l.clock) refl

-- each clock of a chain has the setting over the rate that its parent has in the outcome
pub settings_right : (words : ℕ) (order : List ℕ) (w : Wiring) (ks : List ChainStep) → Sets words order w ks → AllByRecursion (SetRight words w (outcome ks w)) ks
unfolding outcome
settings_right words order w [] sets = tt
settings_right words order w (k ∷ ks) sets = (head, tail ks (chain_above w k ks sets.leads sets.parents) (apart ks (once_head k.clock (clocks_in ks) sets.once).0) (settings_right words order w ks rest)) where
  rest : Sets words order w ks
  rest = sets_rest words order w k ks sets

  u : Wiring
  u = outcome ks w

  differs : DiffersIn ks w u
  differs = differs_in ks w (settings_fit words w.defs sets.wired.valid) sets.parents.1 rest.once

  is : IsUp (parents_of w.defs) (link_in u.clocks)
  is = links_after words order w ks u (planned_of words order w ks rest)

  row : row_of u.clocks k.clock ≡ row_of w.clocks k.clock
  row = differs.others k.clock (once_head k.clock (clocks_in ks) sets.once).0

  link : link_in u.clocks k.clock ≡ link_in w.clocks k.clock
  link = ap (λ (r : ClockRow). option_map (λ p. p.0) r.link) row

  valid_u : IsValid words u.defs
  valid_u = subst (λ (ds : Description). IsValid words ds) (sym differs.defs) sets.wired.valid

  one : SetsOne k u (set_one k u)
  one =
      sets_one k u (subst (λ (d : Description). FitsKind (kind_of d k.clock) (parents_of d k.clock)) (sym differs.defs) (settings_fit words w.defs sets.wired.valid k.clock))
      (record {
        possible = λ p e. ap (λ (d : Description). is_in p (parents_of d k.clock)) differs.defs ∙ sets.parents.0.possible p e;
        none = λ e. link ∙ sets.parents.0.none e;
      })

  apart : (ls : List ChainStep) → is_in k.clock (clocks_in ls) ≡ false → AllByRecursion (λ l. l.clock ≢ k.clock) ls
  apart [] out = tt
  apart (l ∷ ls) out = ((λ same. let no : true ≡ false = sym (test_same k.clock) ∙ ap (λ (x : ℕ). x == k.clock) (sym same) ∙ (not_either (l.clock == k.clock) (is_in k.clock (clocks_in ls)) out).0 in cc), apart ls (not_either (l.clock == k.clock) (is_in k.clock (clocks_in ls)) out).1)

  tail : (ls : List ChainStep) → AllByRecursion (λ l. IsAbove (parents_of w.defs) k.clock l.clock) ls → AllByRecursion (λ l. l.clock ≢ k.clock) ls → AllByRecursion (SetRight words w u) ls
      → AllByRecursion (SetRight words w (set_one k u)) ls
  tail [] high other right = tt
  tail (l ∷ ls) high other right = (right_still words w u (set_one k u) k l sets.wired.valid differs.defs is one other.0 high.0 right.0, tail ls high.1 other.1 right.1)

  head : SetRight words w (set_one k u) k
  head stays regs size f at =
      ap (λ (x : ℕ). field (setting (kind_of w.defs k.clock) x k.rate regs) f.word f.shift f.width) parent
      ∙ setting_same (kind_of w.defs k.clock) (length (parents_of w.defs k.clock)) f (parent_rate_in u k.clock) k.rate regs u.regs (ranges_hold words w.defs sets.wired.valid k.clock) at
      (subst (λ (n : ℕ). f.word < n) (sym size) within) (subst (λ (n : ℕ). f.word < n) (sym (differs.words ∙ sets.size)) within)
      ∙ sym written where
        within : f.word < words
        within = scale_lt words w.defs k.clock f sets.wired.valid at

        still : moves u.clocks k ≡ false
        still = ap (λ (o : Option ℕ). not (same_place k.parent o)) link ∙ stays

        clocks : (set_one k u).clocks ≡ u.clocks
        clocks = ap (λ (t : Bool). cond t (option_map_or (linked u.clocks k.clock) k.parent u.clocks) u.clocks) still

        written : field (set_one k u).regs f.word f.shift f.width ≡ field (setting (kind_of w.defs k.clock) (parent_rate_in u k.clock) k.rate u.regs) f.word f.shift f.width
        written =
            ap (λ (t : Bool). field (cond t (option_map_or (λ p. select u.defs k.clock p u.regs) k.parent u.regs) (setting (kind_of u.defs k.clock) (parent_rate_in u k.clock) k.rate u.regs)) f.word f.shift f.width) still
            ∙ ap (λ (ds : Description). field (setting (kind_of ds k.clock) (parent_rate_in u k.clock) k.rate u.regs) f.word f.shift f.width) differs.defs

        by_link : (o : Option ℕ) → link_in u.clocks k.clock ≡ o → option_map_or (rate_in (set_one k u)) o 0 ≡ option_map_or (rate_in u) o 0
        by_link None e = refl
        by_link (Some p) e = one_rate words k u (set_one k u) p valid_u one (parent_off words w.defs u.clocks k.clock k.clock p sets.wired.valid is (is k.clock p e) (inl refl))

        parent : parent_rate_in (set_one k u) k.clock ≡ parent_rate_in u k.clock
        parent = ap (λ (rs : List ClockRow). option_map_or (rate_in (set_one k u)) (link_in rs k.clock) 0) clocks ∙ by_link (link_in u.clocks k.clock) refl

-- ---- who moves

-- a clock that divides or multiplies has one possible parent
one_parent : (words : ℕ) (defs : Description) (c : ℕ) (f : Field) → IsValid words defs → scales_by (kind_of defs c) ≡ Some f → length (parents_of defs c) ≡ 1
one_parent words defs c f valid at =
    let inside = fielded_lt defs c 0 f (field-field (kind_of defs c) f (scales_is_field (kind_of defs c) f at)) in
    by_kind (kind_of defs c) at (and_parts _ _ (valid.parents c inside)).0 where
      by_kind : (kind : Kind) → scales_by kind ≡ Some f → can_have_parents kind (length (parents_of defs c)) ≡ true → length (parents_of defs c) ≡ 1
      by_kind (Divider word shift width one_based power_of_two) e fits = eqb-true _ 1 fits
      by_kind (Pll word shift width power_word power_bit least most m) e fits = eqb-true _ 1 fits
      by_kind (FixedRate rate) e fits = absurd cc
      by_kind (Factor mult div) e fits = absurd cc
      by_kind (Gate word bit set_to_disable) e fits = absurd cc
      by_kind (Mux word shift width read_only) e fits = absurd cc

only_one : (xs : List ℕ) (p o : ℕ) → length xs ≡ 1 → is_in p xs ≡ true → is_in o xs ≡ true → p ≡ o
only_one [] p o one m n = absurd (omega arith)
only_one (x ∷ []) p o one m n = elim (is_in_cases p x [] m) [
  | inl e ↦ elim (is_in_cases o x [] n) [
    | inl f ↦ sym e ∙ f
    | inr none ↦ absurd cc
  ]
  | inr none ↦ absurd cc
]
only_one (x ∷ y ∷ xs) p o one m n = absurd (omega arith)

-- so a clock that a plan moves divides and multiplies by nothing
pub moved_no_scale : (words : ℕ) (w : Wiring) (k : ChainStep) (f : Field) → IsWired words w → HasParent w k → StepsRooted w k → moves w.clocks k ≡ true → scales_by (kind_of w.defs k.clock) ≡ Some f → ⊥
moved_no_scale words w k f wired has rooted away at = by_parent k.parent refl where
  self : (o : Option ℕ) → not (same_place o o) ≡ false
  self None = refl
  self (Some x) = ap not (test_same x)

  still : k.parent ≡ link_in w.clocks k.clock → ⊥
  still same = let no : true ≡ false = sym away ∙ ap (λ (o : Option ℕ). not (same_place o (link_in w.clocks k.clock))) same ∙ self (link_in w.clocks k.clock) in cc

  by_parent : (o : Option ℕ) → k.parent ≡ o → ⊥
  by_parent None e = still (e ∙ sym (has.none e))
  by_parent (Some p) e =
      let m = has.possible p e in
      let old = rooted_linked words w.defs w.clocks k.clock p wired.valid rooted.own.root m in
      let same : p ≡ old.0 = only_one (parents_of w.defs k.clock) p old.0 (one_parent words w.defs k.clock f wired.valid at) m (wired.links k.clock old.0 old.1) in
      still (e ∙ ap (λ (x : ℕ). Some x) same ∙ sym old.1)
