-- The rates that come out of a whole chain.
use Rattle.std.proofs.Common.{◌≡◌, ℕ, ◌<◌, true, false, List, [], ◌∷◌, map, Option, Some, None, refl, sym, ap, subst, ◌∙◌, inl, arith, length, nat_eq}
use Rattle.std.specs.Prelude.{option_map}
use Rattle.std.specs.List.{AllByRecursion}
use Rattle.std.specs.Option.{option_map_or}
use Rattle.clk_base.specs.Description.{Description, kind_of, parents_of}
use Rattle.clk_base.specs.Fields.{Field, field_of}
use Rattle.clk_base.specs.Valid.{IsValid}
use Rattle.clk_base.proofs.Valid.{lines_end, field-field}
use Rattle.clk_model.specs.declared.row.ClockRow.{ClockRow}
use Rattle.clk_model.specs.Lists.{is_in, none_twice}
use Rattle.clk_model.specs.State.{ChainStep, link_in}
use Rattle.clk_model.specs.Rate.{rate_over, rate}
use Rattle.clk_model.specs.Round.{Wiring, rate_in}
use Rattle.clk_model.specs.Chain.{set_one, outcome}
use Rattle.clk_model.specs.Wired.{LinksArePossible, IsOrder}
use Rattle.clk_model.specs.Laws.Plans.{clocks_in, HasParent, LeadsUp, LieApart, LiesOutside, DiffersIn}
use Rattle.clk_model.proofs.Members.{not_either, test_other}
use Rattle.clk_model.proofs.OnceLaws.{once_head}
use Rattle.clk_model.proofs.PlanLaws.{IsAbove}
use Rattle.clk_model.proofs.ApartLaws.{fields_apart}
use Rattle.clk_model.proofs.OutcomeLaws.{FitsKind, SetsOne, sets_one, differs_in}
use Rattle.clk_model.proofs.SettingLaws.{settings_fit}
use Rattle.clk_model.proofs.RateLaws.{rates_are_over_links}
use Rattle.clk_model.proofs.WalkLaws.{links_after, Planned_, not_moving}
use Rattle.rate_planner.specs.Outcomes.{out_rate, out_rates, first_or}
use Rattle.rate_planner.proofs.OutcomeRates.{IsGround, OverRest, off_path, above_all, one_leaves, own_rate, if_field, link_row, link_back}
use Rattle.clk_model.proofs.ChainStepLaws.{AllSteps-more}
use Rattle.clk_model.proofs.WalkOrderLaws.{tail_leads}
use Rattle.clk_model.proofs.GateRateLaws.{scales_is_field}

-- a chain over a tree, before its boundaries are looked at
pub record IsChain (words : ℕ) (order : List ℕ) (w : Wiring) (ks : List ChainStep) : Type 0 where
  pub ground : IsGround words w
  pub ordered : IsOrder order w.clocks
  pub leads : LeadsUp ks
  pub parents : AllByRecursion (HasParent w) ks
  pub once : none_twice (clocks_in ks) ≡ true
  pub within : AllByRecursion (λ k. k.clock < length w.defs) ks

chain_rest : (words : ℕ) (order : List ℕ) (w : Wiring) (k : ChainStep) (ks : List ChainStep) → IsChain words order w (k ∷ ks) → IsChain words order w ks
chain_rest words order w k ks chain = record {
  ground = chain.ground;
  ordered = chain.ordered;
  leads = tail_leads k ks chain.leads;
  parents = chain.parents.1;
  once = (once_head k.clock (clocks_in ks) chain.once).1;
  within = chain.within.1;
}

-- what an outcome changes
pub chain_differs : (words : ℕ) (order : List ℕ) (w : Wiring) (ks : List ChainStep) → IsChain words order w ks → DiffersIn ks w (outcome ks w)
chain_differs words order w ks chain = differs_in ks w (settings_fit words w.defs chain.ground.wired.valid) chain.parents chain.once

pub chain_planned : (words : ℕ) (order : List ℕ) (w : Wiring) (ks : List ChainStep) → IsChain words order w ks → Planned_ words order w ks (outcome ks w)
chain_planned words order w ks chain = record {
  wired = chain.ground.wired;
  ordered = chain.ordered;
  parents = chain.parents;
  once = chain.once;
  differs = chain_differs words order w ks chain;
}

-- the field by which a clock that isn't in a chain scales lies outside of the chain's fields
pub outside_chain : (words : ℕ) (defs : Description) (c : ℕ) (f : Field) (ks : List ChainStep) → IsValid words defs → field_of (kind_of defs c) ≡ Some f → is_in c (clocks_in ks) ≡ false → LiesOutside defs ks f
outside_chain words defs c f [] valid at out = tt
outside_chain words defs c f (l ∷ ks) valid at out =
    let parts = not_either (nat_eq l.clock c) (is_in c (clocks_in ks)) out in (
      if_field (field_of (kind_of defs l.clock)) (LieApart f)
          (λ g at'. fields_apart words defs valid c 0 f l.clock 0 g (field-field (kind_of defs c) f at) (field-field (kind_of defs l.clock) g at')
          (λ same. absurd (test_other l.clock c parts.0 (sym same)))),
      outside_chain words defs c f ks valid at parts.1,
    )

map_each : (f g : ChainStep → ℕ) (ks : List ChainStep) → AllByRecursion (λ k. f k ≡ g k) ks → map f ks ≡ map g ks
map_each f g [] each = refl
map_each f g (k ∷ ks) each = ap (λ (n : ℕ). n ∷ map f ks) each.0 ∙ ap (λ (ns : List ℕ). g k ∷ ns) (map_each f g ks each.1)

-- ---- one step over the rest

-- what is known of a chain's first clock and of the outcome of the rest
record Over (words : ℕ) (order : List ℕ) (w : Wiring) (k : ChainStep) (u : Wiring) : Type 0 where
  ground : IsGround words w
  defs : u.defs ≡ w.defs
  one : SetsOne k u (set_one k u)
  has : HasParent w k
  rest : OverRest words w k u
  before : LinksArePossible w.defs u.clocks
  after : LinksArePossible w.defs (set_one k u).clocks
  row : k.clock < length u.clocks

over_chain : (words : ℕ) (order : List ℕ) (w : Wiring) (k : ChainStep) (ks : List ChainStep) → IsChain words order w (k ∷ ks) → Over words order w k (outcome ks w)
unfolding outcome
over_chain words order w k ks chain =
    let u : Wiring = outcome ks w in
    let tail = chain_rest words order w k ks chain in
    let differs : DiffersIn ks w u = chain_differs words order w ks tail in
    let out = (once_head k.clock (clocks_in ks) chain.once).0 in
    let row = differs.others k.clock out in
    let there : HasParent u k = record {
      possible = λ p e. ap (λ (d : Description). is_in p (parents_of d k.clock)) differs.defs ∙ chain.parents.0.possible p e;
      none = λ e. ap (λ (r : ClockRow). option_map (λ p. p.0) r.link) row ∙ chain.parents.0.none e;
    } in
    record {
      ground = chain.ground;
      defs = differs.defs;
      one = sets_one k u (subst (λ (d : Description). FitsKind (kind_of d k.clock) (parents_of d k.clock)) (sym differs.defs) (settings_fit words w.defs chain.ground.wired.valid k.clock)) there;
      has = chain.parents.0;
      rest = record {
        ground = chain.ground;
        defs = differs.defs;
        words_ = differs.words;
        link = ap (λ (r : ClockRow). option_map (λ p. p.0) r.link) row;
        scales = λ f e. differs.fields f (outside_chain words w.defs k.clock f ks chain.ground.wired.valid (scales_is_field (kind_of w.defs k.clock) f e) out);
        within = chain.within.0;
      };
      before = links_after words order w ks u (chain_planned words order w ks tail);
      after = links_after words order w (k ∷ ks) (outcome (k ∷ ks) w) (chain_planned words order w (k ∷ ks) chain);
      row = let size = differs.size in let rows = chain.ground.wired.rows in let inside = chain.within.0 in omega arith;
    }

-- it leaves the rate of what is above its planned parent
over_leaves : (words : ℕ) (order : List ℕ) (w : Wiring) (k : ChainStep) (u : Wiring) (p d : ℕ) → Over words order w k u → k.parent ≡ Some p → IsAbove (parents_of w.defs) p d
    → rate_in (set_one k u) d ≡ rate_in u d
over_leaves words order w k u p d over up above =
    one_leaves words k u d (subst (λ (ds : Description). IsValid words ds) (sym over.defs) over.ground.wired.valid) over.one
    (off_path w.defs u.clocks k.clock p d (lines_end words w.defs over.ground.wired.valid) over.before (over.has.possible p up) above)

-- and its own rate comes out over that of its planned parent
over_own : (words : ℕ) (order : List ℕ) (w : Wiring) (k : ChainStep) (u : Wiring) → Over words order w k u
    → rate_in (set_one k u) k.clock ≡ out_rate w k (option_map_or (rate_in u) k.parent 0)
over_own words order w k u over =
    let v : Wiring = set_one k u in
    ap (λ (ds : Description). rate ds v.regs v.clocks k.clock) over.defs
    ∙ rates_are_over_links w.defs v.regs v.clocks (lines_end words w.defs over.ground.wired.valid) over.after k.clock
    ∙ ap (λ (ds : Description). rate_over (kind_of w.defs k.clock) v.regs (option_map_or (rate ds v.regs v.clocks) (link_in v.clocks k.clock) 0)) (sym over.defs)
    ∙ ap (λ (o : Option ℕ). rate_over (kind_of w.defs k.clock) v.regs (option_map_or (rate_in v) o 0)) (ap link_row (over.one.link over.row) ∙ link_back k.parent)
    ∙ ap (λ (r : ℕ). rate_over (kind_of w.defs k.clock) v.regs r) (parent_same k.parent refl)
    ∙ own_rate words w k u (option_map_or (rate_in u) k.parent 0) over.rest over.has.none
    (λ stays. ap (λ (o : Option ℕ). option_map_or (rate_in u) o 0) (over.rest.link ∙ sym (not_moving k.parent (link_in w.clocks k.clock) stays))) where
      parent_same : (o : Option ℕ) → k.parent ≡ o → option_map_or (rate_in (set_one k u)) o 0 ≡ option_map_or (rate_in u) o 0
      parent_same None up = refl
      parent_same (Some p) up = over_leaves words order w k u p p over up (inl refl)

rest_stays : (words : ℕ) (order : List ℕ) (w : Wiring) (k : ChainStep) (ks : List ChainStep) (u : Wiring) → Over words order w k u → LeadsUp (k ∷ ks) → AllByRecursion (HasParent w) ks
    → AllByRecursion (λ l. rate_in u l.clock ≡ rate_in (set_one k u) l.clock) ks
rest_stays words order w k [] u over leads has = tt
rest_stays words order w k (l ∷ ks) u over leads has =
    AllSteps-more (λ m. IsAbove (parents_of w.defs) l.clock m.clock) (λ m. rate_in u m.clock ≡ rate_in (set_one k u) m.clock) (l ∷ ks)
    (λ m above. sym (over_leaves words order w k u l.clock m.clock over leads.0 above)) (above_all w l ks leads.1 has)

-- ---- the whole chain

first_above : (w : Wiring) (k : ChainStep) (ks : List ChainStep) → LeadsUp (k ∷ ks) → out_rates w ks ≡ map (λ l. rate_in (outcome ks w) l.clock) ks
    → first_or (out_rates w ks) (option_map_or (rate_in w) k.parent 0) ≡ option_map_or (rate_in (outcome ks w)) k.parent 0
unfolding outcome
first_above w k [] leads same = refl
first_above w k (l ∷ ks) leads same =
    ap (λ (rs : List ℕ). first_or rs (option_map_or (rate_in w) k.parent 0)) same
    ∙ sym (ap (λ (o : Option ℕ). option_map_or (rate_in (outcome (l ∷ ks) w)) o 0) leads.0)

-- what comes out from the top down is the outcome
pub rates_out : (words : ℕ) (order : List ℕ) (w : Wiring) (ks : List ChainStep) → IsChain words order w ks → out_rates w ks ≡ map (λ k. rate_in (outcome ks w) k.clock) ks
unfolding outcome
rates_out words order w [] chain = refl
rates_out words order w (k ∷ ks) chain =
    let u : Wiring = outcome ks w in
    let over = over_chain words order w k ks chain in
    let rest = rates_out words order w ks (chain_rest words order w k ks chain) in
    ap (λ (r : ℕ). r ∷ out_rates w ks) (ap (out_rate w k) (first_above w k ks chain.leads rest) ∙ sym (over_own words order w k u over))
    ∙ ap (λ (rs : List ℕ). rate_in (set_one k u) k.clock ∷ rs)
    (rest ∙ map_each (λ l. rate_in u l.clock) (λ l. rate_in (set_one k u) l.clock) ks (rest_stays words order w k ks u over chain.leads chain.parents.1))
