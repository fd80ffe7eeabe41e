-- Laws on planned chains: each clock of a chain that begins at a rooted clock is rooted, and so is each parent that it moves to.
use Rattle.std.proofs.Common.{◌≡◌, ℕ, zero, suc, ◌<◌, ◌≤◌, Bool, true, false, not, ◌&&◌, ◌||◌, List, [], ◌∷◌, Option, Some, None, refl, sym, ap, subst, ◌∙◌, ◌⊎◌, inl, inr, length}
use Rattle.std.specs.Prelude.{IfSome, if◌then◌else◌, option_map, option_and_then}
use Rattle.std.specs.List.{AllByRecursion}
use Rattle.std.proofs.lemmas.Bool.{cases_lt, and_parts, not-true}
use Rattle.std.proofs.lemmas.List.{get_or_past}
use Rattle.clk_base.specs.declared.clock.ClockDef.{ClockDef}
use Rattle.clk_base.specs.Description.{Description, nobody, kind_of, parents_of}
use Rattle.clk_base.specs.Flags.{sets_parent_gate, sets_rate_parent}
use Rattle.clk_base.specs.Levels.{depth}
use Rattle.clk_base.specs.Valid.{IsValid}
use Rattle.clk_base.proofs.Valid.{fixed-parents}
use Rattle.clk_model.specs.declared.row.ClockRow.{ClockRow}
use Rattle.clk_model.specs.Lists.{is_in, is_at}
use Rattle.clk_model.specs.Kinds.{is_fixed, can_round}
use Rattle.clk_model.specs.State.{ChainStep, registered, link_in}
use Rattle.clk_model.specs.Tree.{path, rooted}
use Rattle.clk_model.specs.Round.{Wiring, View, Rounded, rate_in, passes_on, rate_for, round}
use Rattle.clk_model.specs.Chain.{moves, chain_from, chain_within, keeps_boundaries, chain}
use Rattle.clk_model.specs.Wired.{LinksArePossible}
use Rattle.clk_model.proofs.Members.{any_in}
use Rattle.clk_model.proofs.RoundLaws.{Fits, fits_round}
use Rattle.clk_model.proofs.PlanLaws.{step_of}
use Rattle.clk_model.proofs.SiblingLaws.{fixed_rate}
use Rattle.clk_model.proofs.BelowLaws.{Rises}
use Rattle.clk_model.proofs.AboveLaws.{path_above, HasRoot}

-- ---- what rounding keeps

-- what holds of a clock and of each parent that is asked for another rate than it has holds of the clocks of a chain, and what a step
-- then has, where R is known of roundings
pub record KeepsChain (w : Wiring) (view : View) (R : ℕ → Rounded → Type 0) (Q : ℕ → Type 0) (P : ChainStep → Type 0) : Type 0 where
  pub rounds : (c x : ℕ) → IfSome (round w view c x) (R c)
  pub here : (c : ℕ) (r : Rounded) → Q c → R c r → P (step_of c r)
  pub up : (c p : ℕ) (r : Rounded) → Q c → R c r → r.parent ≡ Some p → is_at r.parent_rate (Some (rate_in w p)) ≡ false → Q p

mapped_all : (P : ChainStep → Type 0) (k : ChainStep) (o : Option (List ChainStep)) → P k → IfSome o (AllByRecursion P) → IfSome (option_map (λ ks. k ∷ ks) o) (AllByRecursion P)
mapped_all P k None here rest = tt
mapped_all P k (Some ks) here rest = (here, rest)

asked_all : (P : ChainStep → Type 0) (k : ChainStep) (more : ℕ → Option (List ChainStep)) (o : Option ℕ) → P k → ((p : ℕ) → o ≡ Some p → IfSome (more p) (AllByRecursion P))
    → IfSome (option_map (λ ks. k ∷ ks) (option_and_then more o)) (AllByRecursion P)
asked_all P k more None here each = tt
asked_all P k more (Some p) here each = mapped_all P k (more p) here (each p refl)

from_all : (R : ℕ → Rounded → Type 0) (Q : ℕ → Type 0) (P : ChainStep → Type 0) (more : ℕ → ℕ → Option (List ChainStep)) (w : Wiring) (view : View) (c x : ℕ) (r : Rounded) → KeepsChain w view R Q P
    → Q c → R c r → ((p y : ℕ) → Q p → IfSome (more p y) (AllByRecursion P)) → IfSome (chain_from more w view c x r) (AllByRecursion P)
from_all R Q P more w view c x r keeps own fits each =
    both (moves w.clocks (step_of c r) && sets_parent_gate w.defs c && view.prepared c) (sets_rate_parent w.defs c && not (is_at r.parent_rate (option_map (rate_in w) r.parent))) refl where
      asks : (p : ℕ) → (sets_rate_parent w.defs c && not (is_at r.parent_rate (option_map (rate_in w) r.parent))) ≡ true → r.parent ≡ Some p → is_at r.parent_rate (Some (rate_in w p)) ≡ false
      asks p e at =
          let parts = and_parts (sets_rate_parent w.defs c) (not (is_at r.parent_rate (option_map (rate_in w) r.parent))) e in
          ap (λ (o : Option ℕ). is_at r.parent_rate (option_map (rate_in w) o)) (sym at) ∙ not-true (is_at r.parent_rate (option_map (rate_in w) r.parent)) parts.1

      both : (t u : Bool) → (sets_rate_parent w.defs c && not (is_at r.parent_rate (option_map (rate_in w) r.parent))) ≡ u → IfSome (elim t [
        | true ↦ None
        | false ↦ elim u [
          | true ↦ option_map (λ ks. step_of c r ∷ ks) (option_and_then (λ p. more p (if can_round (kind_of w.defs c) then r.parent_rate else x)) r.parent)
          | false ↦ Some (step_of c r ∷ [])
        ]
      ]) (AllByRecursion P)
      both true u e = tt
      both false true e =
          asked_all P (step_of c r) (λ p. more p (if can_round (kind_of w.defs c) then r.parent_rate else x)) r.parent (keeps.here c r own fits)
          (λ p at. each p (if can_round (kind_of w.defs c) then r.parent_rate else x) (keeps.up c p r own fits at (asks p e at)))
      both false false e = (keeps.here c r own fits, tt)

rounded_all : (R : ℕ → Rounded → Type 0) (Q : ℕ → Type 0) (P : ChainStep → Type 0) (more : ℕ → ℕ → Option (List ChainStep)) (w : Wiring) (view : View) (c x : ℕ) (o : Option Rounded)
    → KeepsChain w view R Q P → Q c → IfSome o (R c) → ((p y : ℕ) → Q p → IfSome (more p y) (AllByRecursion P)) → IfSome (option_and_then (λ r. chain_from more w view c x r) o) (AllByRecursion P)
rounded_all R Q P more w view c x None keeps own fits each = tt
rounded_all R Q P more w view c x (Some r) keeps own fits each = from_all R Q P more w view c x r keeps own fits each

within_all : (R : ℕ → Rounded → Type 0) (Q : ℕ → Type 0) (P : ChainStep → Type 0) (levels : ℕ) (w : Wiring) (view : View) (c x : ℕ) → KeepsChain w view R Q P → Q c
    → IfSome (chain_within levels w view c x) (AllByRecursion P)
within_all R Q P zero w view c x keeps own = tt
within_all R Q P (suc levels) w view c x keeps own =
    both (can_round (kind_of w.defs c) || passes_on w c)
    (rounded_all R Q P (chain_within levels w view) w view c x (round w view c x) keeps own (keeps.rounds c x) (λ p y q. within_all R Q P levels w view p y keeps q)) where
      both : (t : Bool) → IfSome (option_and_then (λ r. chain_from (chain_within levels w view) w view c x r) (round w view c x)) (AllByRecursion P) → IfSome (elim t [
        | false ↦ None
        | true ↦ option_and_then (λ r. chain_from (chain_within levels w view) w view c x r) (round w view c x)
      ]) (AllByRecursion P)
      both false f = tt
      both true f = f

bounded_all : (P : ChainStep → Type 0) (w : Wiring) (view : View) (ks : List ChainStep) (o : Option (List ChainStep)) → IfSome o (AllByRecursion P)
    → option_and_then (λ ls. if keeps_boundaries w view ls then Some ls else None) o ≡ Some ks → AllByRecursion P ks
bounded_all P w view ks None all e = absurd cc
bounded_all P w view ks (Some ls) all e = kept (keeps_boundaries w view ls) e where
  kept : (t : Bool) → (if t then Some ls else None) ≡ Some ks → AllByRecursion P ks
  kept false f = absurd cc
  kept true f = let same : ls ≡ ks = cc in subst (λ (js : List ChainStep). AllByRecursion P js) same all

-- so of each planned chain
pub chain_all : (R : ℕ → Rounded → Type 0) (Q : ℕ → Type 0) (P : ChainStep → Type 0) (w : Wiring) (view : View) (c x : ℕ) (ks : List ChainStep) → KeepsChain w view R Q P → Q c
    → chain w view c x ≡ Some ks → AllByRecursion P ks
unfolding chain
chain_all R Q P w view c x ks keeps own e = bounded_all P w view ks (chain_within depth w view c x) (within_all R Q P depth w view c x keeps own) e

-- ---- roots

-- a clock is registered, and a fixed one stands above it or is it
pub record IsRooted (defs : Description) (clocks : List ClockRow) (c : ℕ) : Type 0 where
  pub there : registered clocks c ≡ true
  pub root : HasRoot defs (link_in clocks) c

pub rooted_is : (defs : Description) (clocks : List ClockRow) (c : ℕ) → rooted defs clocks c ≡ true → IsRooted defs clocks c
rooted_is defs clocks c e =
    let parts = and_parts _ _ e in
    let found = any_in (λ a. is_fixed (kind_of defs a)) (path clocks c) parts.1 in
    record { there = parts.0; root = (found.0, path_above (link_in clocks) c found.0 found.1, found.2) }

-- a fixed clock has no possible parent
pub fixed_no_parent : (words : ℕ) (defs : Description) (c p : ℕ) → IsValid words defs → is_fixed (kind_of defs c) ≡ true → is_in p (parents_of defs c) ≡ true → ⊥
fixed_no_parent words defs c p valid fixed m = let none : parents_of defs c ≡ [] = by_place (cases_lt c (length defs)) in let no : false ≡ true = sym (ap (is_in p) none) ∙ m in cc where
  by_place : (c < length defs) ⊎ (length defs ≤ c) → parents_of defs c ≡ []
  by_place (inl inside) = let kind = fixed_rate (kind_of defs c) fixed in fixed-parents words defs valid c kind.0 inside kind.1
  by_place (inr outside) = ap (λ (d : ClockDef). d.parents) (get_or_past defs c nobody outside)

-- a clock with a root and a possible parent has a link
pub rooted_linked : (words : ℕ) (defs : Description) (clocks : List ClockRow) (c p : ℕ) → IsValid words defs → HasRoot defs (link_in clocks) c → is_in p (parents_of defs c) ≡ true → (o : ℕ) × (link_in clocks c ≡ Some o)
rooted_linked words defs clocks c p valid root m = by_way root.1.0 root.1.1 where
  by_way : (n : ℕ) → Rises (link_in clocks) n c root.0 → (o : ℕ) × (link_in clocks c ≡ Some o)
  by_way zero way = absurd (fixed_no_parent words defs c p valid (ap (λ (x : ℕ). is_fixed (kind_of defs x)) way ∙ root.2) m)
  by_way (suc n) way = (way.0, way.1)

-- the link of a clock with a root has one
rooted_link : (words : ℕ) (defs : Description) (clocks : List ClockRow) (c p : ℕ) → IsValid words defs → HasRoot defs (link_in clocks) c → is_in p (parents_of defs c) ≡ true → link_in clocks c ≡ Some p
    → HasRoot defs (link_in clocks) p
rooted_link words defs clocks c p valid root m at = by_way root.1.0 root.1.1 where
  by_way : (n : ℕ) → Rises (link_in clocks) n c root.0 → HasRoot defs (link_in clocks) p
  by_way zero way = absurd (fixed_no_parent words defs c p valid (ap (λ (x : ℕ). is_fixed (kind_of defs x)) way ∙ root.2) m)
  by_way (suc n) way =
      let both : Some way.0 ≡ Some p = sym way.1 ∙ at in
      let same : way.0 ≡ p = cc in
      (root.0, (n, subst (λ (x : ℕ). Rises (link_in clocks) n x root.0) same way.2), root.2)

-- a step of a chain is of a rooted clock, and leads to its link or to a rooted clock
pub record StepsRooted (w : Wiring) (k : ChainStep) : Type 0 where
  pub own : IsRooted w.defs w.clocks k.clock
  pub possible : (p : ℕ) → k.parent ≡ Some p → is_in p (parents_of w.defs k.clock) ≡ true
  pub from : (p : ℕ) → k.parent ≡ Some p → (link_in w.clocks k.clock ≡ Some p) ⊎ IsRooted w.defs w.clocks p

from_rooted : (w : Wiring) (c p : ℕ) → (link_in w.clocks c ≡ Some p) ⊎ (rooted w.defs w.clocks p ≡ true) → (link_in w.clocks c ≡ Some p) ⊎ IsRooted w.defs w.clocks p
from_rooted w c p (inl link) = inl link
from_rooted w c p (inr is) = inr (rooted_is w.defs w.clocks p is)

rounds_fit : (w : Wiring) (view : View) (c x : ℕ) → LinksArePossible w.defs w.clocks → IfSome (round w view c x) (Fits w c)
unfolding round
rounds_fit w view c x links = fits_round (rate_for depth w view) w view c x links

-- each step of a planned chain is so, where it begins at a rooted clock and links lead to registered clocks
pub plan_rooted : (words : ℕ) (w : Wiring) (view : View) (c x : ℕ) (ks : List ChainStep) → IsValid words w.defs → LinksArePossible w.defs w.clocks
    → ((d p : ℕ) → link_in w.clocks d ≡ Some p → registered w.clocks p ≡ true) → IsRooted w.defs w.clocks c → chain w view c x ≡ Some ks → AllByRecursion (StepsRooted w) ks
plan_rooted words w view c x ks valid links there own e =
    chain_all (Fits w) (IsRooted w.defs w.clocks) (StepsRooted w) w view c x ks
    (record {
      rounds = λ d y. rounds_fit w view d y links;
      here = λ d r q fits. record { own = q; possible = fits.possible; from = λ p at. from_rooted w d p (fits.from p at) };
      up = λ d p r q fits at asks. elim (from_rooted w d p (fits.from p at)) [
        | inl link ↦ record { there = there d p link; root = rooted_link words w.defs w.clocks d p valid q.root (fits.possible p at) link }
        | inr is ↦ is
      ];
    }) own e
