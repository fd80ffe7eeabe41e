-- Laws on what is below a clock: for any kids and any way up that fit, nothing stands twice.
use Rattle.std.proofs.Common.{◌≡◌, ◌≢◌, ℕ, zero, suc, ◌<◌, Bool, true, List, ◌∷◌, Option, Some, refl, sym, ap, subst, ◌∙◌, ◌⊎◌, inl, inr, arith}
use Rattle.std.specs.Prelude.{flat_map}
use Rattle.clk_base.specs.Levels.{ends_within}
use Rattle.clk_base.proofs.Lines.{ends_within-parent}
use Rattle.clk_model.specs.Lists.{is_in, none_twice}
use Rattle.clk_model.specs.Tree.{path_within}
use Rattle.clk_model.specs.Walk.{below_within}
use Rattle.clk_model.proofs.Members.{is_in_head, is_in_tail, is_in_cases}
use Rattle.clk_model.proofs.PathLaws.{above, in_above}
use Rattle.clk_model.proofs.PlanLaws.{IsAbove, above_parent, not_above_parent}
use Rattle.clk_model.proofs.OnceLaws.{once_cons, AreApart, in_flat_map, flat_map_in, once_flat_map}

-- ---- ways up

-- so many links lead from a clock to another
abbrev pub Rises : (ℕ → Option ℕ) → ℕ → ℕ → ℕ → Type 0
Rises up zero c t = c ≡ t
Rises up (suc n) c t = (p : ℕ) × (up c ≡ Some p) × Rises up n p t

-- a way up whose links lead to possible parents
abbrev pub IsUp : (ℕ → List ℕ) → (ℕ → Option ℕ) → Type 0
IsUp parents up = (c p : ℕ) → up c ≡ Some p → is_in p (parents c) ≡ true

pub same_parent : (up : ℕ → Option ℕ) (c p q : ℕ) → up c ≡ Some p → up c ≡ Some q → p ≡ q
same_parent up c p q e f = let both : Some p ≡ Some q = sym e ∙ f in cc

pub rises_on : (up : ℕ → Option ℕ) (n c t p : ℕ) → Rises up n c t → up t ≡ Some p → Rises up (suc n) c p
rises_on up zero c t p way at = (p, ap up way ∙ at, refl)
rises_on up (suc n) c t p way at = (way.0, way.1, rises_on up n way.0 t p way.2 at)

pub rises_far : (up : ℕ → Option ℕ) (n m c t p : ℕ) → Rises up n c t → Rises up m t p → (k : ℕ) × Rises up k c p
rises_far up zero m c t p way more = (m, subst (λ (x : ℕ). Rises up m x p) (sym way) more)
rises_far up (suc n) m c t p way more = let rest = rises_far up n m way.0 t p way.2 more in (suc rest.0, (way.0, way.1, rest.1))

-- of two clocks above one, one is above the other
pub rises_both : (up : ℕ → Option ℕ) (n m c a b : ℕ) → Rises up n c a → Rises up m c b → ((k : ℕ) × Rises up k a b) ⊎ ((k : ℕ) × Rises up k b a)
rises_both up zero m c a b way other = inl (m, subst (λ (x : ℕ). Rises up m x b) way other)
rises_both up (suc n) zero c a b way other = inr (suc n, subst (λ (x : ℕ). Rises up (suc n) x a) other way)
rises_both up (suc n) (suc m) c a b way other =
    rises_both up n m way.0 a b way.2 (subst (λ (x : ℕ). Rises up m x b) (same_parent up c other.0 way.0 other.1 way.1) other.2)

pub rises_above : (parents : ℕ → List ℕ) (up : ℕ → Option ℕ) (n c t : ℕ) → IsUp parents up → Rises up n c t → IsAbove parents c t
rises_above parents up zero c t is way = inl (sym way)
rises_above parents up (suc n) c t is way = inr (above_parent parents c way.0 t (is c way.0 way.1) (rises_above parents up n way.0 t is way.2))

-- no way leads back
pub no_round : (parents : ℕ → List ℕ) (up : ℕ → Option ℕ) (levels n c : ℕ) → IsUp parents up → ends_within parents levels c ≡ true → Rises up (suc n) c c → ⊥
no_round parents up levels n c is ends way = not_above_parent parents levels c way.0 ends (is c way.0 way.1) (rises_above parents up n way.0 c is way.2)

-- a way is shorter than the levels
pub few_steps : (parents : ℕ → List ℕ) (up : ℕ → Option ℕ) (levels n c t : ℕ) → IsUp parents up → ends_within parents levels c ≡ true → Rises up n c t → n < levels
few_steps parents up zero n c t is ends way = absurd cc
few_steps parents up (suc levels) zero c t is ends way = omega arith
few_steps parents up (suc levels) (suc n) c t is ends way =
    let less = few_steps parents up levels n way.0 t is (ends_within-parent parents levels c way.0 ends (is c way.0 way.1)) way.2 in omega arith

-- what is on a path is above its clock, and what is above it is on the path
pub path_rises : (up : ℕ → Option ℕ) (levels c a : ℕ) → is_in a (path_within up levels c) ≡ true → (n : ℕ) × Rises up n c a
path_rises up zero c a m = absurd cc
path_rises up (suc levels) c a m =
    elim (is_in_cases a c (above up levels (up c)) m) [
      | inl e ↦ (zero, e)
      | inr r ↦ let q = in_above up levels a (up c) r in let rest = path_rises up levels q.0 a q.2 in (suc rest.0, (q.0, q.1, rest.1))
    ]

pub rises_path : (up : ℕ → Option ℕ) (levels n c a : ℕ) → Rises up n c a → n < levels → is_in a (path_within up levels c) ≡ true
rises_path up zero n c a way less = absurd (omega arith)
rises_path up (suc levels) zero c a way less = ap (λ (x : ℕ). is_in a (x ∷ above up levels (up c))) way ∙ is_in_head a (above up levels (up c))
rises_path up (suc levels) (suc n) c a way less =
    is_in_tail a c (above up levels (up c)) (ap (λ (o : Option ℕ). is_in a (above up levels o)) way.1 ∙ rises_path up levels n way.0 a way.2 (omega arith))

-- ---- below

-- the kids of a clock have it as their parent, and none stands twice
pub record AreKids (kids : ℕ → List ℕ) (up : ℕ → Option ℕ) : Type 0 where
  pub parent : (c p : ℕ) → is_in c (kids p) ≡ true → up c ≡ Some p
  pub once : (p : ℕ) → none_twice (kids p) ≡ true

pub below_rises : (kids : ℕ → List ℕ) (up : ℕ → Option ℕ) (levels t c : ℕ) → AreKids kids up → is_in c (below_within kids levels t) ≡ true → (n : ℕ) × Rises up n c t
below_rises kids up zero t c are m = absurd cc
below_rises kids up (suc levels) t c are m =
    elim (is_in_cases c t (flat_map (below_within kids levels) (kids t)) m) [
      | inl e ↦ (zero, sym e)
      | inr r ↦
          let found = in_flat_map (below_within kids levels) c (kids t) r in
          let rest = below_rises kids up levels found.0 c are found.2 in
          (suc rest.0, rises_on up rest.0 c found.0 t rest.1 (are.parent found.0 t found.1))
    ]

-- a kid of what is below is below, one level more
below_kid : (kids : ℕ → List ℕ) (levels t q c : ℕ) → is_in q (below_within kids levels t) ≡ true → is_in c (kids q) ≡ true → is_in c (below_within kids (suc levels) t) ≡ true
below_kid kids zero t q c m n = absurd cc
below_kid kids (suc levels) t q c m n =
    is_in_tail c t (flat_map (below_within kids (suc levels)) (kids t))
    (elim (is_in_cases q t (flat_map (below_within kids levels) (kids t)) m) [
      | inl e ↦ flat_map_in (below_within kids (suc levels)) c c (kids t) (ap (λ (x : ℕ). is_in c (kids x)) e ∙ n) (is_in_head c (flat_map (below_within kids levels) (kids c)))
      | inr r ↦
          let found = in_flat_map (below_within kids levels) q (kids t) r in
          flat_map_in (below_within kids (suc levels)) c found.0 (kids t) found.1 (below_kid kids levels found.0 q c found.2 n)
    ])

-- what has a way of kids up to a clock is below it
pub rises_below : (kids : ℕ → List ℕ) (up : ℕ → Option ℕ) (levels n c t : ℕ)
    → ((d p j k : ℕ) → Rises up j c d → up d ≡ Some p → Rises up k p t → is_in d (kids p) ≡ true)
    → Rises up n c t → n < levels → is_in c (below_within kids levels t) ≡ true
rises_below kids up zero n c t all way less = absurd (omega arith)
rises_below kids up (suc levels) zero c t all way less =
    ap (λ (x : ℕ). is_in c (x ∷ flat_map (below_within kids levels) (kids t))) (sym way) ∙ is_in_head c (flat_map (below_within kids levels) (kids t))
rises_below kids up (suc levels) (suc n) c t all way less =
    below_kid kids levels t way.0 c
    (rises_below kids up levels n way.0 t (λ d p j k from. all d p (suc j) k (way.0, way.1, from)) way.2 (omega arith))
    (all c way.0 zero n refl way.1 way.2)

-- what is below two kids of one clock is below one kid
kids_apart : (parents : ℕ → List ℕ) (kids : ℕ → List ℕ) (up : ℕ → Option ℕ) (most levels t y z : ℕ) → IsUp parents up → ((c : ℕ) → ends_within parents most c ≡ true)
    → AreKids kids up → is_in y (kids t) ≡ true → is_in z (kids t) ≡ true → y ≢ z → AreApart (below_within kids levels y) (below_within kids levels z)
kids_apart parents kids up most levels t y z is ends are m n other x first second =
    let a = below_rises kids up levels y x are first in
    let b = below_rises kids up levels z x are second in
    elim (rises_both up a.0 b.0 x y z a.1 b.1) [
      | inl way ↦ back y z m n other way.0 way.1
      | inr way ↦ back z y n m (λ e. other (sym e)) way.0 way.1
    ] where
      back : (u v : ℕ) → is_in u (kids t) ≡ true → is_in v (kids t) ≡ true → u ≢ v → (k : ℕ) → Rises up k u v → ⊥
      back u v mu mv apart zero way = apart way
      back u v mu mv apart (suc k) way =
          let same : way.0 ≡ t = same_parent up u way.0 t way.1 (are.parent u t mu) in
          no_round parents up most k t is (ends t)
          (rises_on up k t v t (subst (λ (p : ℕ). Rises up k p v) same way.2) (are.parent v t mv))

-- nothing stands twice below a clock
pub once_below : (parents : ℕ → List ℕ) (kids : ℕ → List ℕ) (up : ℕ → Option ℕ) (most levels t : ℕ) → IsUp parents up → ((c : ℕ) → ends_within parents most c ≡ true)
    → AreKids kids up → none_twice (below_within kids levels t) ≡ true
once_below parents kids up most zero t is ends are = refl
once_below parents kids up most (suc levels) t is ends are =
    once_cons t (flat_map (below_within kids levels) (kids t))
    (λ m.
    let found = in_flat_map (below_within kids levels) t (kids t) m in
    let way = below_rises kids up levels found.0 t are found.2 in
    no_round parents up most way.0 t is (ends t) (rises_on up way.0 t found.0 t way.1 (are.parent found.0 t found.1)))
    (once_flat_map (below_within kids levels) (kids t) (are.once t) (λ y m. once_below parents kids up most levels y is ends are)
    (λ y z m n other. kids_apart parents kids up most levels t y z is ends are m n other))

-- ---- below by kids that pass

-- where a clock passes, and all kids that are entered do, each clock on the way up from below passes
pub below_passes : (parents : ℕ → List ℕ) (kids : ℕ → List ℕ) (up : ℕ → Option ℕ) (test : ℕ → Bool) (most levels t c a i j : ℕ) → IsUp parents up
    → ((d : ℕ) → ends_within parents most d ≡ true) → AreKids kids up → ((d p : ℕ) → is_in d (kids p) ≡ true → test d ≡ true) → test t ≡ true
    → is_in c (below_within kids levels t) ≡ true → Rises up i c a → Rises up j a t → test a ≡ true
below_passes parents kids up test most zero t c a i j is ends are entered here m way rest = absurd cc
below_passes parents kids up test most (suc levels) t c a i j is ends are entered here m way rest =
    elim (is_in_cases c t (flat_map (below_within kids levels) (kids t)) m) [
      | inl e ↦ at_top i j (subst (λ (x : ℕ). Rises up i x a) (sym e) way) rest
      | inr r ↦
          let found = in_flat_map (below_within kids levels) c (kids t) r in
          let from = below_rises kids up levels found.0 c are found.2 in
          let passed = entered found.0 t found.1 in
          elim (rises_both up i from.0 c a found.0 way from.1) [
            | inl on ↦ below_passes parents kids up test most levels found.0 c a i on.0 is ends are entered passed found.2 way on.1
            | inr on ↦ above_kid found.0 on.0 passed (are.parent found.0 t found.1) on.1
          ]
    ] where
      at_top : (n k : ℕ) → Rises up n t a → Rises up k a t → test a ≡ true
      at_top zero k w v = ap test (sym w) ∙ here
      at_top (suc n) k w v = absurd (no_round_far n k w v) where
        no_round_far : (n' k' : ℕ) → Rises up (suc n') t a → Rises up k' a t → ⊥
        no_round_far n' k' w' v' = let far = rises_far up n' k' w'.0 a t w'.2 v' in no_round parents up most far.0 t is (ends t) (w'.0, w'.1, far.1)

      above_kid : (d n : ℕ) → test d ≡ true → up d ≡ Some t → Rises up n d a → test a ≡ true
      above_kid d zero pass at w = ap test (sym w) ∙ pass
      above_kid d (suc n) pass at w =
          let same : w.0 ≡ t = same_parent up d w.0 t w.1 at in
          from_top n (subst (λ (x : ℕ). Rises up n x a) same w.2) where
            from_top : (k : ℕ) → Rises up k t a → test a ≡ true
            from_top zero v = ap test (sym v) ∙ here
            from_top (suc k) v = absurd (let far = rises_far up k j v.0 a t v.2 rest in no_round parents up most far.0 t is (ends t) (v.0, v.1, far.1))
