-- Laws on what is above a clock by links, and on what a new link makes of it.
use Rattle.std.proofs.Common.{◌≡◌, ℕ, zero, suc, Bool, true, false, cond, List, ◌++◌, Option, Some, None, refl, sym, ap, subst, ◌∙◌, ◌⊎◌, inl, inr, nat_eq}
use Rattle.std.specs.List.{list_any}
use Rattle.clk_base.specs.Description.{Description, kind_of, parents_of}
use Rattle.clk_base.specs.Levels.{depth}
use Rattle.clk_model.specs.Lists.{is_in}
use Rattle.clk_model.specs.Kinds.{is_fixed}
use Rattle.clk_model.specs.Tree.{path_within}
use Rattle.clk_model.specs.Wired.{LinesEnd}
use Rattle.clk_model.proofs.Members.{any_in, any_from_in, test_same, same_from_test}
use Rattle.clk_model.proofs.OnceLaws.{in_append}
use Rattle.clk_model.proofs.BelowLaws.{Rises, IsUp, rises_far, few_steps, path_rises, rises_path, rises_above}
use Rattle.clk_model.proofs.PlanLaws.{not_above_parent}
use Rattle.clk_model.proofs.WholePathLaws.{same_or_not}

-- ---- a function with another value in one place

abbrev pub put_at : {X : Type 0} → ℕ → X → (ℕ → X) → ℕ → X
put_at c x f d = cond (nat_eq c d) x (f d)

pub put_same : {X : Type 0} (c d : ℕ) (x : X) (f : ℕ → X) → c ≡ d → put_at c x f d ≡ x
put_same c d x f same = ap (λ (t : Bool). cond t x (f d)) (ap (λ (z : ℕ). nat_eq c z) (sym same) ∙ test_same c)

pub differs : (c d : ℕ) → (c ≡ d → ⊥) → nat_eq c d ≡ false
differs c d other = by_test (nat_eq c d) refl where
  by_test : (t : Bool) → nat_eq c d ≡ t → t ≡ false
  by_test false e = refl
  by_test true e = absurd (other (same_from_test c d e))

pub put_other : {X : Type 0} (c d : ℕ) (x : X) (f : ℕ → X) → (c ≡ d → ⊥) → put_at c x f d ≡ f d
put_other c d x f other = ap (λ (t : Bool). cond t x (f d)) (differs c d other)

-- ---- above

-- a clock or one that links lead to from it
abbrev pub Above : (ℕ → Option ℕ) → ℕ → ℕ → Type 0
Above up c a = (n : ℕ) × Rises up n c a

pub above_here : (up : ℕ → Option ℕ) (c : ℕ) → Above up c c
above_here up c = (zero, refl)

pub above_far : (up : ℕ → Option ℕ) (c b a : ℕ) → Above up c b → Above up b a → Above up c a
above_far up c b a low high = rises_far up low.0 high.0 c b a low.1 high.1

pub above_link : (up : ℕ → Option ℕ) (c p a : ℕ) → up c ≡ Some p → Above up p a → Above up c a
above_link up c p a at high = (suc high.0, (p, at, high.1))

-- a clock that links lead from isn't above the clock that they lead to
pub not_above_link : (defs : Description) (up : ℕ → Option ℕ) (c p : ℕ) → LinesEnd defs → IsUp (parents_of defs) up → is_in p (parents_of defs c) ≡ true → Above up p c → ⊥
not_above_link defs up c p ends is m high = not_above_parent (parents_of defs) depth c p (ends c) m (rises_above (parents_of defs) up high.0 p c is high.1)

-- what is above is on the path, and back
pub above_path : (defs : Description) (up : ℕ → Option ℕ) (c a : ℕ) → LinesEnd defs → IsUp (parents_of defs) up → Above up c a → is_in a (path_within up depth c) ≡ true
above_path defs up c a ends is high = rises_path up depth high.0 c a high.1 (few_steps (parents_of defs) up depth high.0 c a is (ends c) high.1)

pub path_above : (up : ℕ → Option ℕ) (c a : ℕ) → is_in a (path_within up depth c) ≡ true → Above up c a
path_above up c a m = path_rises up depth c a m

-- ---- held

-- whether a clock is on the path of one of these holders
abbrev pub held_up : (ℕ → Option ℕ) → List ℕ → ℕ → Bool
held_up up holders c = list_any (λ h. is_in c (path_within up depth h)) holders

-- a holder below the clock
abbrev pub Holder : (ℕ → Option ℕ) → List ℕ → ℕ → Type 0
Holder up holders c = (h : ℕ) × (is_in h holders ≡ true) × Above up h c

pub holder_of : (up : ℕ → Option ℕ) (holders : List ℕ) (c : ℕ) → held_up up holders c ≡ true → Holder up holders c
holder_of up holders c held = let found = any_in (λ h. is_in c (path_within up depth h)) holders held in (found.0, found.1, path_above up found.0 c found.2)

pub held_from : (defs : Description) (up : ℕ → Option ℕ) (holders : List ℕ) (c : ℕ) → LinesEnd defs → IsUp (parents_of defs) up → Holder up holders c → held_up up holders c ≡ true
held_from defs up holders c ends is holder =
    any_from_in (λ h. is_in c (path_within up depth h)) holders holder.0 holder.1 (above_path defs up holder.0 c ends is holder.2)

pub holder_above : (up : ℕ → Option ℕ) (holders : List ℕ) (c a : ℕ) → Holder up holders c → Above up c a → Holder up holders a
holder_above up holders c a holder high = (holder.0, holder.1, above_far up holder.0 c a holder.2 high)

-- holders of one list or of another
pub holder_cases : (up : ℕ → Option ℕ) (xs ys : List ℕ) (c : ℕ) → Holder up (xs ++ ys) c → Holder up xs c ⊎ Holder up ys c
holder_cases up xs ys c holder =
    elim (in_append holder.0 xs ys holder.1) [
      | inl first ↦ inl (holder.0, first, holder.2)
      | inr second ↦ inr (holder.0, second, holder.2)
    ]

-- ---- a new link

-- what is above by links of which one is new was above, or is above the new parent, and the clock was above
turned : (up : ℕ → Option ℕ) (c p n d a : ℕ) → Rises (put_at c (Some p) up) n d a → Above up d a ⊎ (Above up d c × Above (put_at c (Some p) up) p a)
turned up c p zero d a way = inl (zero, way)
turned up c p (suc n) d a way = by_clock (same_or_not c d) (turned up c p n way.0 a way.2) where
  by_clock : (c ≡ d) ⊎ (c ≡ d → ⊥) → Above up way.0 a ⊎ (Above up way.0 c × Above (put_at c (Some p) up) p a)
      → Above up d a ⊎ (Above up d c × Above (put_at c (Some p) up) p a)
  by_clock (inl same) rest =
      let is : Some p ≡ Some way.0 = sym (put_same c d (Some p) up same) ∙ way.1 in
      let parent : way.0 ≡ p = cc in
      inr ((zero, sym same), (n, subst (λ (x : ℕ). Rises (put_at c (Some p) up) n x a) parent way.2))
  by_clock (inr other) (inl there) = inl (above_link up d way.0 a (sym (put_other c d (Some p) up other) ∙ way.1) there)
  by_clock (inr other) (inr both) = inr (above_link up d way.0 c (sym (put_other c d (Some p) up other) ∙ way.1) both.0, both.1)

-- what was above is above still, or it was above the old link, and the clock is above
stayed : (up : ℕ → Option ℕ) (c p n d a : ℕ) → Rises up n d a
    → Above (put_at c (Some p) up) d a ⊎ (Above (put_at c (Some p) up) d c × ((o : ℕ) × (up c ≡ Some o) × Above up o a))
stayed up c p zero d a way = inl (zero, way)
stayed up c p (suc n) d a way = by_clock (same_or_not c d) (stayed up c p n way.0 a way.2) where
  by_clock : (c ≡ d) ⊎ (c ≡ d → ⊥) → Above (put_at c (Some p) up) way.0 a ⊎ (Above (put_at c (Some p) up) way.0 c × ((o : ℕ) × (up c ≡ Some o) × Above up o a))
      → Above (put_at c (Some p) up) d a ⊎ (Above (put_at c (Some p) up) d c × ((o : ℕ) × (up c ≡ Some o) × Above up o a))
  by_clock (inl same) rest = inr ((zero, sym same), (way.0, ap up same ∙ way.1, (n, way.2)))
  by_clock (inr other) (inl there) = inl (above_link (put_at c (Some p) up) d way.0 a (put_other c d (Some p) up other ∙ way.1) there)
  by_clock (inr other) (inr both) = inr (above_link (put_at c (Some p) up) d way.0 c (put_other c d (Some p) up other ∙ way.1) both.0, both.1)

-- what a new link of a clock to a possible parent is made in
pub record MayLink (defs : Description) (up : ℕ → Option ℕ) (c p : ℕ) : Type 0 where
  pub ends : LinesEnd defs
  pub is : IsUp (parents_of defs) up
  pub parent : is_in p (parents_of defs c) ≡ true

-- links lead to possible parents still
pub may_still : (defs : Description) (up : ℕ → Option ℕ) (c p : ℕ) → MayLink defs up c p → IsUp (parents_of defs) (put_at c (Some p) up)
may_still defs up c p may d q at = by_clock (same_or_not c d) where
  by_clock : (c ≡ d) ⊎ (c ≡ d → ⊥) → is_in q (parents_of defs d) ≡ true
  by_clock (inl same) =
      let is : Some p ≡ Some q = sym (put_same c d (Some p) up same) ∙ at in
      let parent : p ≡ q = cc in
      ap (λ (x : ℕ). is_in q (parents_of defs x)) (sym same) ∙ ap (λ (x : ℕ). is_in x (parents_of defs c)) (sym parent) ∙ may.parent
  by_clock (inr other) = may.is d q (sym (put_other c d (Some p) up other) ∙ at)

-- what was above the new parent is above it still
pub above_parent_still : (defs : Description) (up : ℕ → Option ℕ) (c p a : ℕ) → MayLink defs up c p → Above up p a → Above (put_at c (Some p) up) p a
above_parent_still defs up c p a may high =
    elim (stayed up c p high.0 p a high.1) [
      | inl there ↦ there
      | inr both ↦ absurd (not_above_link defs (put_at c (Some p) up) c p may.ends (may_still defs up c p may) may.parent both.0)
    ]

above_parent_before : (defs : Description) (up : ℕ → Option ℕ) (c p a : ℕ) → MayLink defs up c p → Above (put_at c (Some p) up) p a → Above up p a
above_parent_before defs up c p a may high =
    elim (turned up c p high.0 p a high.1) [
      | inl there ↦ there
      | inr both ↦ absurd (not_above_link defs up c p may.ends may.is may.parent both.0)
    ]

-- what is above after a new link was above, or the clock was, and it was above the new parent
pub above_before : (defs : Description) (up : ℕ → Option ℕ) (c p d a : ℕ) → MayLink defs up c p → Above (put_at c (Some p) up) d a → Above up d a ⊎ (Above up d c × Above up p a)
above_before defs up c p d a may high =
    elim (turned up c p high.0 d a high.1) [
      | inl there ↦ inl there
      | inr both ↦ inr (both.0, above_parent_before defs up c p a may both.1)
    ]

-- what was above is above still, or it was above the clock's old link, and the clock is above
pub above_still : (up : ℕ → Option ℕ) (c p d a : ℕ) → Above up d a → Above (put_at c (Some p) up) d a ⊎ (Above (put_at c (Some p) up) d c × ((o : ℕ) × (up c ≡ Some o) × Above up o a))
above_still up c p d a high = stayed up c p high.0 d a high.1

-- the clock stays above what it was above
pub above_clock : (up : ℕ → Option ℕ) (c p d : ℕ) → Above up d c → Above (put_at c (Some p) up) d c
above_clock up c p d high = elim (above_still up c p d c high) [ inl there ↦ there | inr both ↦ both.0 ]

-- and is above what it is above now
pub clock_before : (defs : Description) (up : ℕ → Option ℕ) (c p d : ℕ) → MayLink defs up c p → Above (put_at c (Some p) up) d c → Above up d c
clock_before defs up c p d may high = elim (above_before defs up c p d c may high) [ inl there ↦ there | inr both ↦ both.0 ]

-- what is above the new parent is above all that the clock is above
pub above_through : (defs : Description) (up : ℕ → Option ℕ) (c p d a : ℕ) → MayLink defs up c p → Above (put_at c (Some p) up) d c → Above up p a → Above (put_at c (Some p) up) d a
above_through defs up c p d a may low high =
    above_far (put_at c (Some p) up) d c a low (above_link (put_at c (Some p) up) c p a (put_same c c (Some p) up refl) (above_parent_still defs up c p a may high))

-- ---- holders and roots over a new link

-- a clock that is neither above the clock nor above the new parent is held as it was
pub holder_still : (up : ℕ → Option ℕ) (c p a : ℕ) (holders : List ℕ) → (Above up c a → ⊥) → Holder up holders a → Holder (put_at c (Some p) up) holders a
holder_still up c p a holders off holder =
    elim (above_still up c p holder.0 a holder.2) [
      | inl there ↦ (holder.0, holder.1, there)
      | inr both ↦ absurd (off (above_link up c both.1.0 a both.1.1 both.1.2))
    ]

pub holder_before : (defs : Description) (up : ℕ → Option ℕ) (c p a : ℕ) (holders : List ℕ) → MayLink defs up c p → (Above up p a → ⊥) → Holder (put_at c (Some p) up) holders a → Holder up holders a
holder_before defs up c p a holders may off holder =
    elim (above_before defs up c p holder.0 a may holder.2) [
      | inl there ↦ (holder.0, holder.1, there)
      | inr both ↦ absurd (off both.1)
    ]

-- the clock itself is held as it was
pub holder_clock : (up : ℕ → Option ℕ) (c p : ℕ) (holders : List ℕ) → Holder up holders c → Holder (put_at c (Some p) up) holders c
holder_clock up c p holders holder = (holder.0, holder.1, above_clock up c p holder.0 holder.2)

-- what is held after a new link was held, or is above the new parent, and the clock was held
pub held_before : (defs : Description) (up : ℕ → Option ℕ) (c p a : ℕ) (holders : List ℕ) → MayLink defs up c p → Holder (put_at c (Some p) up) holders a
    → Holder up holders a ⊎ (Holder up holders c × Above up p a)
held_before defs up c p a holders may holder =
    elim (above_before defs up c p holder.0 a may holder.2) [
      | inl there ↦ inl (holder.0, holder.1, there)
      | inr both ↦ inr ((holder.0, holder.1, both.0), both.1)
    ]

-- a clock above this one has its rate from its description alone
abbrev pub HasRoot : Description → (ℕ → Option ℕ) → ℕ → Type 0
HasRoot defs up c = (a : ℕ) × Above up c a × (is_fixed (kind_of defs a) ≡ true)

-- a new link leaves roots, where its parent has one, or the clock had no link
pub root_still : (defs : Description) (up : ℕ → Option ℕ) (c p d : ℕ) → MayLink defs up c p → HasRoot defs up p ⊎ (up c ≡ None) → HasRoot defs up d → HasRoot defs (put_at c (Some p) up) d
root_still defs up c p d may from root = by_way (above_still up c p d root.0 root.1) from where
  by_way : Above (put_at c (Some p) up) d root.0 ⊎ (Above (put_at c (Some p) up) d c × ((o : ℕ) × (up c ≡ Some o) × Above up o root.0)) → HasRoot defs up p ⊎ (up c ≡ None)
      → HasRoot defs (put_at c (Some p) up) d
  by_way (inl there) from' = (root.0, there, root.2)
  by_way (inr both) (inl other) = (other.0, above_through defs up c p d other.0 may both.0 other.1, other.2)
  by_way (inr both) (inr none) = let no : None ≡ Some both.1.0 = sym none ∙ both.1.1 in absurd cc
