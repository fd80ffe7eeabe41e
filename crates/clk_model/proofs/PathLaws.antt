-- Laws on paths.
use Rattle.std.proofs.Common.{◌≡◌, ℕ, zero, suc, ◌-◌, ◌<◌, true, List, [], ◌∷◌, Option, Some, None, refl, ap, subst, ◌∙◌, inl, inr, arith}
use Rattle.std.specs.Option.{option_map_or}
use Rattle.clk_model.specs.Lists.{is_in}
use Rattle.clk_model.specs.Tree.{path_within}
use Rattle.clk_model.proofs.Members.{is_in_head, is_in_tail, is_in_cases}
use Rattle.clk_base.specs.Levels.{depth}

-- a path has some levels
pub some_levels : 0 < depth
unfolding depth
some_levels = omega arith

-- the clocks above a link, if there is one
abbrev pub above : (ℕ → Option ℕ) → ℕ → Option ℕ → List ℕ
above up levels o = option_map_or (path_within up levels) o []

-- what is above a link is above that parent
pub in_above : (up : ℕ → Option ℕ) (levels a : ℕ) (o : Option ℕ) → is_in a (above up levels o) ≡ true
    → (p : ℕ) × (o ≡ Some p) × (is_in a (path_within up levels p) ≡ true)
in_above up levels a None m = absurd cc
in_above up levels a (Some p) m = (p, refl, m)

-- what holds of a clock and of each clock that is linked from one of which it holds, holds along the path
pub path_all : (P : ℕ → Type 0) (up : ℕ → Option ℕ) (levels c a : ℕ)
    → ((b p : ℕ) → P b → up b ≡ Some p → P p) → P c → is_in a (path_within up levels c) ≡ true → P a
path_all P up zero c a closed here m = absurd cc
path_all P up (suc levels) c a closed here m =
    elim (is_in_cases a c (above up levels (up c)) m) [
      | inl e ↦ subst P e here
      | inr r ↦ let p = in_above up levels a (up c) r in path_all P up levels p.0 a closed (closed c p.0 here p.1) p.2
    ]

-- two ways up agree above a link, where they agree on the path of that parent
above_agree : (up up' : ℕ → Option ℕ) (levels : ℕ) (o : Option ℕ)
    → ((p : ℕ) → o ≡ Some p → path_within up' levels p ≡ path_within up levels p) → above up' levels o ≡ above up levels o
above_agree up up' levels None same = refl
above_agree up up' levels (Some p) same = same p refl

-- a path depends on the links of its clocks alone
pub path_agree : (up up' : ℕ → Option ℕ) (levels c : ℕ) → ((a : ℕ) → is_in a (path_within up levels c) ≡ true → up' a ≡ up a)
    → path_within up' levels c ≡ path_within up levels c
path_agree up up' zero c same = refl
path_agree up up' (suc levels) c same =
    ap (λ (o : Option ℕ). c ∷ above up' levels o) (same c (is_in_head c (above up levels (up c))))
    ∙ ap (λ (ps : List ℕ). c ∷ ps)
    (above_agree up up' levels (up c) (λ p e. path_agree up up' levels p
    (λ a m. same a (is_in_tail a c (above up levels (up c)) (ap (λ (o : Option ℕ). is_in a (above up levels o)) e ∙ m)))))

-- a path is its clock, and the path of the parent that the clock is linked to
pub path_cons : (up : ℕ → Option ℕ) (levels c : ℕ) → 0 < levels → path_within up levels c ≡ c ∷ above up (levels - 1) (up c)
path_cons up zero c some = absurd (omega arith)
path_cons up (suc levels) c some = let less : levels ≡ suc levels - 1 = omega arith in ap (λ (n : ℕ). c ∷ above up n (up c)) less
