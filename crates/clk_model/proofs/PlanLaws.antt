-- Laws on planned chains: they lead upwards and have no clock twice.
use Rattle.std.proofs.Common.{◌≡◌, ℕ, zero, suc, Bool, true, false, not, ◌&&◌, ◌||◌, List, [], ◌∷◌, Option, Some, None, refl, sym, ap, subst, ◌∙◌, ◌⊎◌, inl, inr}
use Rattle.std.specs.Prelude.{◌==◌, if◌then◌else◌, IfSome, nat_le, option_map, option_and_then, slice_get}
use Rattle.std.specs.List.{AllByRecursion, list_all}
use Rattle.std.proofs.lemmas.Bool.{leb-true, and_parts}
use Rattle.clk_base.specs.Description.{kind_of, parents_of}
use Rattle.clk_base.specs.Flags.{sets_parent_gate, sets_rate_parent}
use Rattle.clk_base.specs.Levels.{depth, ends_within, reaches_within}
use Rattle.clk_base.proofs.Lines.{not_own_ancestor}
use Rattle.clk_model.specs.Lists.{is_in, is_at}
use Rattle.clk_model.specs.Kinds.{can_round}
use Rattle.clk_model.specs.State.{ChainStep}
use Rattle.clk_model.specs.Round.{Wiring, View, Rounded, rate_in, passes_on, rate_for, round}
use Rattle.clk_model.specs.Chain.{outcome, moves, chain_from, chain_within, keeps_boundaries, chain}
use Rattle.clk_model.specs.Laws.Plans.{clocks_in, LeadsUp, KeepsBoundaries, LeadsFrom, IsPlan, ChainsLead}
use Rattle.clk_model.proofs.Members.{is_in_cases, any_from_in, or_left, or_right, test_same}
use Rattle.clk_model.proofs.RoundLaws.{Fits, fits_round}
use Rattle.clk_model.specs.Wired.{LinesEnd, LinksArePossible}
use Rattle.clk_model.proofs.OnceLaws.{once_cons}

-- ---- above

-- a clock or one of its possible ancestors
abbrev pub IsAbove : (ℕ → List ℕ) → ℕ → ℕ → Type 0
IsAbove parents c d = (d ≡ c) ⊎ ((steps : ℕ) × (reaches_within parents steps d c ≡ true))

-- what is above a possible parent is a possible ancestor
pub above_parent : (parents : ℕ → List ℕ) (c p d : ℕ) → is_in p (parents c) ≡ true → IsAbove parents p d → (steps : ℕ) × (reaches_within parents steps d c ≡ true)
above_parent parents c p d m (inl e) =
    (suc zero, any_from_in (λ q. (q == d) || false) (parents c) p m (or_left (p == d) false (ap (λ (x : ℕ). p == x) e ∙ test_same p)))
above_parent parents c p d m (inr r) =
    (suc r.0, any_from_in (λ q. (q == d) || reaches_within parents r.0 d q) (parents c) p m (or_right (p == d) (reaches_within parents r.0 d p) r.1))

-- a clock isn't above its own possible parent
pub not_above_parent : (parents : ℕ → List ℕ) (levels c p : ℕ) → ends_within parents levels c ≡ true → is_in p (parents c) ≡ true → IsAbove parents p c → ⊥
not_above_parent parents levels c p ends m a =
    let r = above_parent parents c p c m a in
    let never : reaches_within parents r.0 c c ≡ false = not_own_ancestor parents levels c r.0 ends in
    let no : false ≡ true = sym never ∙ r.1 in cc

-- ---- the chain

-- a chain from a clock, each of whose clocks is above that one
pub record Climbs (w : Wiring) (c : ℕ) (ks : List ChainStep) : Type 0 where
  pub leads : LeadsFrom w c ks
  pub above : AllByRecursion (λ k. IsAbove (parents_of w.defs) c k.clock) ks

-- the step of a clock that is rounded so
abbrev pub step_of : ℕ → Rounded → ChainStep
step_of c r = record { clock = c; rate = r.rate; parent = r.parent }

leads_cons : (k : ChainStep) (p : ℕ) (ks : List ChainStep) → k.parent ≡ Some p → option_map (λ l. l.clock) (slice_get ks 0) ≡ Some p → LeadsUp ks → LeadsUp (k ∷ ks)
leads_cons k p [] up first leads = tt
leads_cons k p (l ∷ ks) up first leads = (up ∙ sym first, leads)

above_more : (parents : ℕ → List ℕ) (c p : ℕ) (ks : List ChainStep) → is_in p (parents c) ≡ true
    → AllByRecursion (λ k. IsAbove parents p k.clock) ks → AllByRecursion (λ k. IsAbove parents c k.clock) ks
above_more parents c p [] m each = tt
above_more parents c p (k ∷ ks) m each = (inr (above_parent parents c p k.clock m each.0), above_more parents c p ks m each.1)

above_in : (parents : ℕ → List ℕ) (c p : ℕ) (ks : List ChainStep) → AllByRecursion (λ k. IsAbove parents p k.clock) ks → is_in c (clocks_in ks) ≡ true → IsAbove parents p c
above_in parents c p [] each m = absurd cc
above_in parents c p (k ∷ ks) each m =
    elim (is_in_cases c k.clock (clocks_in ks) m) [
      | inl e ↦ subst (λ (x : ℕ). IsAbove parents p x) e each.0
      | inr r ↦ above_in parents c p ks each.1 r
    ]

climbs_one : (w : Wiring) (c : ℕ) (r : Rounded) → Fits w c r → Climbs w c (step_of c r ∷ [])
climbs_one w c r fits = record {
  leads = record { first = refl; leads = tt; parents = (record { possible = fits.possible; none = fits.none }, tt); once = refl };
  above = (inl refl, tt);
}

climbs_more : (w : Wiring) (c p : ℕ) (r : Rounded) (ks : List ChainStep) → LinesEnd w.defs → Fits w c r → r.parent ≡ Some p → Climbs w p ks → Climbs w c (step_of c r ∷ ks)
climbs_more w c p r ks ends fits up rest =
    let m = fits.possible p up in
    record {
      leads = record {
        first = refl;
        leads = leads_cons (step_of c r) p ks up rest.leads.first rest.leads.leads;
        parents = (record { possible = fits.possible; none = fits.none }, rest.leads.parents);
        once = once_cons c (clocks_in ks) (λ again. not_above_parent (parents_of w.defs) depth c p (ends c) m (above_in (parents_of w.defs) c p ks rest.above again)) rest.leads.once;
      };
      above = (inl refl, above_more (parents_of w.defs) c p ks m rest.above);
    }

climbs_mapped : (w : Wiring) (c p : ℕ) (r : Rounded) (o : Option (List ChainStep)) → LinesEnd w.defs → Fits w c r → r.parent ≡ Some p → IfSome o (Climbs w p)
    → IfSome (option_map (λ ks. step_of c r ∷ ks) o) (Climbs w c)
climbs_mapped w c p r None ends fits up rest = tt
climbs_mapped w c p r (Some ks) ends fits up rest = climbs_more w c p r ks ends fits up rest

climbs_asked : (more : ℕ → Option (List ChainStep)) (w : Wiring) (c : ℕ) (r : Rounded) (o : Option ℕ) → LinesEnd w.defs → Fits w c r → r.parent ≡ o
    → ((p : ℕ) → IfSome (more p) (Climbs w p)) → IfSome (option_map (λ ks. step_of c r ∷ ks) (option_and_then more o)) (Climbs w c)
climbs_asked more w c r None ends fits up each = tt
climbs_asked more w c r (Some p) ends fits up each = climbs_mapped w c p r (more p) ends fits up (each p)

climbs_from : (more : ℕ → ℕ → Option (List ChainStep)) (w : Wiring) (view : View) (c x : ℕ) (r : Rounded) → LinesEnd w.defs → Fits w c r
    → ((p y : ℕ) → IfSome (more p y) (Climbs w p)) → IfSome (chain_from more w view c x r) (Climbs w c)
climbs_from more w view c x r ends fits each =
    both (moves w.clocks (step_of c r) && sets_parent_gate w.defs c && view.prepared c) (sets_rate_parent w.defs c && not (is_at r.parent_rate (option_map (rate_in w) r.parent))) where
      both : (t u : Bool) → IfSome (elim t [
        | true ↦ None
        | false ↦ elim u [
          | true ↦ option_map (λ ks. step_of c r ∷ ks) (option_and_then (λ p. more p (if can_round (kind_of w.defs c) then r.parent_rate else x)) r.parent)
          | false ↦ Some (step_of c r ∷ [])
        ]
      ]) (Climbs w c)
      both true u = tt
      both false true = climbs_asked (λ p. more p (if can_round (kind_of w.defs c) then r.parent_rate else x)) w c r r.parent ends fits refl (λ p. each p (if can_round (kind_of w.defs c) then r.parent_rate else x))
      both false false = climbs_one w c r fits

climbs_rounded : (more : ℕ → ℕ → Option (List ChainStep)) (w : Wiring) (view : View) (c x : ℕ) (o : Option Rounded) → LinesEnd w.defs → IfSome o (Fits w c)
    → ((p y : ℕ) → IfSome (more p y) (Climbs w p)) → IfSome (option_and_then (λ r. chain_from more w view c x r) o) (Climbs w c)
climbs_rounded more w view c x None ends fits each = tt
climbs_rounded more w view c x (Some r) ends fits each = climbs_from more w view c x r ends fits each

climbs_here : (levels : ℕ) (w : Wiring) (view : View) (c x : ℕ) → LinesEnd w.defs → LinksArePossible w.defs w.clocks
    → ((p y : ℕ) → IfSome (chain_within levels w view p y) (Climbs w p))
    → IfSome (option_and_then (λ r. chain_from (chain_within levels w view) w view c x r) (round w view c x)) (Climbs w c)
unfolding round
climbs_here levels w view c x ends links each =
    climbs_rounded (chain_within levels w view) w view c x (round w view c x) ends (fits_round (rate_for depth w view) w view c x links) each

pub climbs_within : (levels : ℕ) (w : Wiring) (view : View) (c x : ℕ) → LinesEnd w.defs → LinksArePossible w.defs w.clocks → IfSome (chain_within levels w view c x) (Climbs w c)
climbs_within zero w view c x ends links = tt
climbs_within (suc levels) w view c x ends links = both (can_round (kind_of w.defs c) || passes_on w c) (climbs_here levels w view c x ends links (λ p y. climbs_within levels w view p y ends links)) where
  both : (t : Bool) → IfSome (option_and_then (λ r. chain_from (chain_within levels w view) w view c x r) (round w view c x)) (Climbs w c) → IfSome (elim t [
    | false ↦ None
    | true ↦ option_and_then (λ r. chain_from (chain_within levels w view) w view c x r) (round w view c x)
  ]) (Climbs w c)
  both false f = tt
  both true f = f

-- ---- the whole plan

boundaries_kept : (w : Wiring) (view : View) (all ks : List ChainStep)
    → list_all (λ k. let r = rate_in (outcome all w) k.clock in nat_le (view.low k.clock) r && nat_le r (view.high k.clock)) ks ≡ true → AllByRecursion (KeepsBoundaries w view all) ks
boundaries_kept w view all [] keeps = tt
boundaries_kept w view all (k ∷ ks) keeps =
    let parts = and_parts _ _ keeps in
    let here = and_parts _ _ parts.0 in
    (record { low = leb-true _ _ here.0; high = leb-true _ _ here.1 }, boundaries_kept w view all ks parts.1)

planned_in : (w : Wiring) (view : View) (c : ℕ) (ks : List ChainStep) (o : Option (List ChainStep)) → IfSome o (Climbs w c)
    → option_and_then (λ ls. if keeps_boundaries w view ls then Some ls else None) o ≡ Some ks → IsPlan w view c ks
planned_in w view c ks None climbs e = absurd cc
planned_in w view c ks (Some ls) climbs e = kept (keeps_boundaries w view ls) refl e where
  kept : (t : Bool) → keeps_boundaries w view ls ≡ t → (if t then Some ls else None) ≡ Some ks → IsPlan w view c ks
  kept false is f = absurd cc
  kept true is f =
      let same : ls ≡ ks = cc in
      subst (λ (js : List ChainStep). IsPlan w view c js) same (record { leads = climbs.leads; boundaries = boundaries_kept w view ls ls is })

-- a planned chain leads upwards, has no clock twice, and keeps the boundaries
pub chains_lead : ChainsLead
unfolding chain
chains_lead w view c x ks ends links e = planned_in w view c ks (chain_within depth w view c x) (climbs_within depth w view c x ends links) e
