-- Laws on the order of a walk: behind a clock stands none that will be above it; so the moved clocks of a chain come from the top down.
use Rattle.std.proofs.Common.{◌≡◌, ℕ, zero, suc, true, false, List, [], ◌∷◌, ◌++◌, Option, Some, sym, ap, subst, ◌∙◌, ◌⊎◌, inl, inr}
use Rattle.std.specs.Prelude.{flat_map}
use Rattle.std.specs.List.{AllByRecursion}
use Rattle.clk_base.specs.Description.{Description, parents_of}
use Rattle.clk_base.specs.Levels.{depth, ends_within, reaches_within}
use Rattle.clk_base.proofs.Lines.{ends_within-ancestor}
use Rattle.clk_model.specs.Lists.{is_in, none_twice}
use Rattle.clk_model.specs.State.{ChainStep}
use Rattle.clk_model.specs.Walk.{below_within}
use Rattle.clk_model.specs.Wired.{LinesEnd}
use Rattle.clk_model.specs.Laws.Plans.{clocks_in, LeadsUp}
use Rattle.clk_model.proofs.Members.{is_in_head, is_in_tail, is_in_cases}
use Rattle.clk_model.proofs.OnceLaws.{in_append, in_flat_map, once_head}
use Rattle.clk_model.proofs.PlanLaws.{IsAbove, above_parent}
use Rattle.clk_model.proofs.BelowLaws.{Rises, IsUp, rises_on, rises_far, rises_both, rises_above, no_round, AreKids, below_rises, same_parent}
use Rattle.clk_model.proofs.AboveLaws.{Above, above_here, above_link}

-- behind each clock of a list stands none that is above it
abbrev pub Descends : (ℕ → Option ℕ) → List ℕ → Type 0
Descends up [] = Unit {0}
Descends up (c ∷ cs) = ((d : ℕ) → is_in d cs ≡ true → Above up c d → ⊥) × Descends up cs

descends_append : (up : ℕ → Option ℕ) (xs ys : List ℕ) → Descends up xs → Descends up ys
    → ((c d : ℕ) → is_in c xs ≡ true → is_in d ys ≡ true → Above up c d → ⊥) → Descends up (xs ++ ys)
descends_append up [] ys first second apart = second
descends_append up (x ∷ xs) ys first second apart = (
  (λ d m high. elim (in_append d xs ys m) [ inl here ↦ first.0 d here high | inr there ↦ apart x d (is_in_head x xs) there high ]),
  descends_append up xs ys first.1 second (λ c d m n. apart c d (is_in_tail c x xs m) n),
)

-- of two kids of a clock neither is above the other
kids_level : (parents : ℕ → List ℕ) (up : ℕ → Option ℕ) (most t y z : ℕ) → IsUp parents up → ((c : ℕ) → ends_within parents most c ≡ true) → up y ≡ Some t → up z ≡ Some t
    → (y ≡ z → ⊥) → Above up y z → ⊥
kids_level parents up most t y z is ends own other apart high = by_way high.0 high.1 where
  by_way : (n : ℕ) → Rises up n y z → ⊥
  by_way zero way = apart way
  by_way (suc n) way =
      let same : way.0 ≡ t = same_parent up y way.0 t way.1 own in
      no_round parents up most n t is (ends t) (rises_on up n t z t (subst (λ (p : ℕ). Rises up n p z) same way.2) other)

-- what is below a clock descends
descends_kids : (parents : ℕ → List ℕ) (kids : ℕ → List ℕ) (up : ℕ → Option ℕ) (most levels t : ℕ) (ys : List ℕ) → IsUp parents up → ((c : ℕ) → ends_within parents most c ≡ true)
    → AreKids kids up → none_twice ys ≡ true → ((y : ℕ) → is_in y ys ≡ true → up y ≡ Some t) → ((y : ℕ) → Descends up (below_within kids levels y))
    → Descends up (flat_map (below_within kids levels) ys)
descends_kids parents kids up most levels t [] is ends are once own each = tt
descends_kids parents kids up most levels t (y ∷ ys) is ends are once own each =
    let head = once_head y ys once in
    descends_append up (below_within kids levels y) (flat_map (below_within kids levels) ys) (each y)
    (descends_kids parents kids up most levels t ys is ends are head.1 (λ z m. own z (is_in_tail z y ys m)) each)
    (λ c d m n high.
    let found = in_flat_map (below_within kids levels) d ys n in
    let low = below_rises kids up levels y c are m in
    let far = below_rises kids up levels found.0 d are found.2 in
    let both = rises_far up high.0 far.0 c d found.0 high.1 far.1 in
    let apart : y ≡ found.0 → ⊥ = (λ same. let no : false ≡ true = sym head.0 ∙ ap (λ (x : ℕ). is_in x ys) same ∙ found.1 in cc) in
    elim (rises_both up low.0 both.0 c y found.0 low.1 both.1) [
      | inl way ↦ kids_level parents up most t y found.0 is ends (own y (is_in_head y ys)) (own found.0 (is_in_tail found.0 y ys found.1)) apart way
      | inr way ↦ kids_level parents up most t found.0 y is ends (own found.0 (is_in_tail found.0 y ys found.1)) (own y (is_in_head y ys)) (λ same. apart (sym same)) way
    ])

pub below_descends : (parents : ℕ → List ℕ) (kids : ℕ → List ℕ) (up : ℕ → Option ℕ) (most levels t : ℕ) → IsUp parents up → ((c : ℕ) → ends_within parents most c ≡ true) → AreKids kids up
    → Descends up (below_within kids levels t)
below_descends parents kids up most zero t is ends are = tt
below_descends parents kids up most (suc levels) t is ends are = (
  (λ d m high.
      let found = in_flat_map (below_within kids levels) d (kids t) m in
      let way = below_rises kids up levels found.0 d are found.2 in
      let back = rises_on up way.0 d found.0 t way.1 (are.parent found.0 t found.1) in
      let round = rises_far up high.0 way.0 t d found.0 high.1 way.1 in
      no_round parents up most round.0 t is (ends t) (rises_on up round.0 t found.0 t round.1 (are.parent found.0 t found.1))),
  descends_kids parents kids up most levels t (kids t) is ends are (are.once t) (λ y m. are.parent y t m) (λ y. below_descends parents kids up most levels y is ends are),
)

-- ---- a chain is a line

-- the first clock of a chain is below each clock of it
pub head_below : (up : ℕ → Option ℕ) (k : ChainStep) (ks : List ChainStep) (d : ℕ) → LeadsUp (k ∷ ks) → AllByRecursion (λ l. up l.clock ≡ l.parent) (k ∷ ks) → is_in d (clocks_in (k ∷ ks)) ≡ true
    → Above up k.clock d
head_below up k [] d leads links m =
    elim (is_in_cases d k.clock [] m) [
      | inl same ↦ (zero, same)
      | inr none ↦ absurd cc
    ]
head_below up k (l ∷ ks) d leads links m =
    elim (is_in_cases d k.clock (clocks_in (l ∷ ks)) m) [
      | inl same ↦ (zero, same)
      | inr later ↦ above_link up k.clock l.clock d (links.0 ∙ leads.0) (head_below up l ks d leads.1 links.1 later)
    ]

pub tail_leads : (k : ChainStep) (ks : List ChainStep) → LeadsUp (k ∷ ks) → LeadsUp ks
tail_leads k [] leads = tt
tail_leads k (l ∷ ks) leads = leads.1

-- of two clocks of a chain one is above the other
pub chain_line : (up : ℕ → Option ℕ) (ks : List ChainStep) (c d : ℕ) → LeadsUp ks → AllByRecursion (λ l. up l.clock ≡ l.parent) ks
    → is_in c (clocks_in ks) ≡ true → is_in d (clocks_in ks) ≡ true → Above up c d ⊎ Above up d c
chain_line up [] c d leads links m n = absurd cc
chain_line up (k ∷ ks) c d leads links m n =
    elim (is_in_cases c k.clock (clocks_in ks) m) [
      | inl same ↦ inl (subst (λ (x : ℕ). Above up x d) same (head_below up k ks d leads links n))
      | inr later ↦ elim (is_in_cases d k.clock (clocks_in ks) n) [
        | inl same ↦ inr (subst (λ (x : ℕ). Above up x c) same (head_below up k ks c leads links m))
        | inr also ↦ chain_line up ks c d (tail_leads k ks leads) links.1 later also
      ]
    ]

-- ---- no two clocks are possible ancestors of each other

no_cycle : (parents : ℕ → List ℕ) (n c d i j : ℕ) → ends_within parents n c ≡ true → reaches_within parents i d c ≡ true → reaches_within parents j c d ≡ true → ⊥
no_cycle parents zero c d i j ends low high = absurd cc
no_cycle parents (suc zero) c d i j ends low high = let none : false ≡ true = ends_within-ancestor parents i d zero c ends low in cc
no_cycle parents (suc (suc n)) c d i j ends low high =
    let up = ends_within-ancestor parents i d (suc n) c ends low in
    let over = ends_within-ancestor parents j c n d up high in
    no_cycle parents n c d i j over low high

pub not_both_above : (parents : ℕ → List ℕ) (n c d : ℕ) → ends_within parents n c ≡ true → (c ≡ d → ⊥) → IsAbove parents c d → IsAbove parents d c → ⊥
not_both_above parents n c d ends apart (inl same) other = apart (sym same)
not_both_above parents n c d ends apart (inr low) (inl same) = apart same
not_both_above parents n c d ends apart (inr low) (inr high) = no_cycle parents n c d low.0 high.0 ends low.1 high.1

-- what stands behind a clock of a chain in a list that descends isn't above the clock or its planned parent by any links to possible parents
pub behind_apart : (defs : Description) (up up' : ℕ → Option ℕ) (ks : List ChainStep) (c d p : ℕ) → LinesEnd defs → IsUp (parents_of defs) up → IsUp (parents_of defs) up' → LeadsUp ks
    → AllByRecursion (λ l. up' l.clock ≡ l.parent) ks → is_in c (clocks_in ks) ≡ true → is_in d (clocks_in ks) ≡ true → (Above up' c d → ⊥) → is_in p (parents_of defs c) ≡ true
    → (Above up c d → ⊥) × (Above up p d → ⊥)
behind_apart defs up up' ks c d p ends is is' leads links m n off parent =
    elim (chain_line up' ks c d leads links m n) [
      | inl high ↦ absurd (off high)
      | inr low ↦
          let apart : c ≡ d → ⊥ = (λ same. off (subst (λ (x : ℕ). Above up' c x) same (above_here up' c))) in
          let over = rises_above (parents_of defs) up' low.0 d c is' low.1 in (
            (λ high. not_both_above (parents_of defs) depth c d (ends c) apart (rises_above (parents_of defs) up high.0 c d is high.1) over),
            (λ high.
                not_both_above (parents_of defs) depth c d (ends c) apart
                (inr (above_parent (parents_of defs) c p d parent (rises_above (parents_of defs) up high.0 p d is high.1))) over),
          )
    ]
