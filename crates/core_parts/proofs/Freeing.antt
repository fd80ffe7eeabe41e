-- Which clocks are guarded where one of them is free of what protects it.
use Rattle.std.proofs.Common.{◌≡◌, ℕ, zero, suc, ◌+◌, ◌<◌, ◌&&◌, ◌⊎◌, inl, inr, Bool, true, false, not, cond, List, [], ◌∷◌, Option, Some, None, refl, sym, ap, subst, ◌∙◌, arith, nat_eq, nat_lt, take}
use Rattle.std.specs.Prelude.{count_by, option_and_then}
use Rattle.std.specs.List.{list_any, prefix_len}
use Rattle.std.specs.Option.{option_map_or}
use Rattle.std.proofs.lemmas.Bool.Decides.{nat_tests}
use Rattle.clk_base.specs.Levels.{depth, ends_within}
use Rattle.clk_model.specs.Lists.{is_in, none_twice}
use Rattle.clk_model.specs.Tree.{path_within}
use Rattle.clk_model.specs.Views.{cut_at}
use Rattle.clk_model.proofs.AboveLaws.{differs}
use Rattle.clk_model.proofs.BelowLaws.{Rises, IsUp, AreKids, rises_on, rises_far, rises_both, no_round, few_steps, path_rises, rises_path}
use Rattle.clk_model.proofs.Members.{same_from_test, test_other, is_in_cases, is_in_head, is_in_tail, any_in, any_from_in}
use Rattle.clk_model.proofs.OnceLaws.{once_head}
use Rattle.clk_model.proofs.WalkLaws.{either_way}
use Rattle.clk_model.proofs.WholePathLaws.{same_or_not}
use Rattle.counts_core.proofs.Listing.{tally, count_step}
use Rattle.counts_core.proofs.Holding.{some_counted, last_link}
use Rattle.core_parts.specs.Free.{sole_parent}

-- ---- counting

-- two that pass are counted twice
pub counts_two : (test : ℕ → Bool) (xs : List ℕ) (x y : ℕ) → is_in x xs ≡ true → is_in y xs ≡ true → (x ≡ y → ⊥) → test x ≡ true → test y ≡ true → 1 < count_by test xs
counts_two test [] x y m n other a b = absurd cc
counts_two test (z ∷ zs) x y m n other a b =
    let whole = count_step test z zs in
    elim (is_in_cases x z zs m) [
      | inl e ↦
          let head : tally (test z) ≡ 1 = ap tally (ap test e ∙ a) in
          let rest = some_counted test zs y (behind y (λ f. other (sym e ∙ f)) n) b in
          omega arith
      | inr r ↦ elim (is_in_cases y z zs n) [
        | inl e ↦
            let head : tally (test z) ≡ 1 = ap tally (ap test e ∙ b) in
            let rest = some_counted test zs x r a in
            omega arith
        | inr q ↦ let rest = counts_two test zs x y r q other a b in omega arith
      ]
    ] where
      behind : (v : ℕ) → (z ≡ v → ⊥) → is_in v (z ∷ zs) ≡ true → is_in v zs ≡ true
      behind v apart m = elim (is_in_cases v z zs m) [
        | inl e ↦ absurd (apart e)
        | inr r ↦ r
      ]

-- where none passes none is counted
counts_none : (test : ℕ → Bool) (xs : List ℕ) → ((y : ℕ) → is_in y xs ≡ true → test y ≡ true → ⊥) → count_by test xs ≡ 0
counts_none test [] none = refl
counts_none test (z ∷ zs) none =
    let whole = count_step test z zs in
    let rest = counts_none test zs (λ y m. none y (is_in_tail y z zs m)) in
    elim (test z) as (λ t. test z ≡ t → count_by test (z ∷ zs) ≡ 0) [
      | true ↦ λ e. absurd (none z (is_in_head z zs) e)
      | false ↦ λ e. let head : tally (test z) ≡ 0 = ap tally e in omega arith
    ] refl

-- where one alone passes, it is counted once
pub counts_sole : (test : ℕ → Bool) (xs : List ℕ) (x : ℕ) → none_twice xs ≡ true → is_in x xs ≡ true → test x ≡ true → ((y : ℕ) → is_in y xs ≡ true → test y ≡ true → y ≡ x)
    → count_by test xs ≡ 1
counts_sole test [] x once m pass sole = absurd cc
counts_sole test (z ∷ zs) x once m pass sole =
    let whole = count_step test z zs in
    let apart = once_head z zs once in
    elim (is_in_cases x z zs m) [
      | inl e ↦
          let head : tally (test z) ≡ 1 = ap tally (ap test e ∙ pass) in
          let rest = counts_none test zs (λ y n on. let is : y ≡ z = sole y (is_in_tail y z zs n) on ∙ sym e in let no : is_in z zs ≡ true = ap (λ (v : ℕ). is_in v zs) (sym is) ∙ n in absurd cc) in
          omega arith
      | inr r ↦
          let rest = counts_sole test zs x apart.1 r pass (λ y n. sole y (is_in_tail y z zs n)) in
          elim (test z) as (λ t. test z ≡ t → count_by test (z ∷ zs) ≡ 1) [
            | true ↦ λ e. let is : z ≡ x = sole z (is_in_head z zs) e in let no : is_in z zs ≡ true = ap (λ (v : ℕ). is_in v zs) is ∙ r in absurd cc
            | false ↦ λ e. let head : tally (test z) ≡ 0 = ap tally e in omega arith
          ] refl
    ]

-- ---- ways up that don't pass a clock

-- the links but those to a clock
abbrev pub off : (ℕ → Option ℕ) → ℕ → ℕ → Option ℕ
off up c d = option_and_then (λ p. cond (nat_eq p c) None (Some p)) (up d)

kept_link : (up : ℕ → Option ℕ) (test : ℕ → Bool) (d p : ℕ) → option_and_then (λ q. cond (test q) (Some q) None) (up d) ≡ Some p → (up d ≡ Some p) × (test p ≡ true)
kept_link up test d p e = by (up d) refl e where
  inside : (q : ℕ) (t : Bool) → test q ≡ t → cond t (Some q) None ≡ Some p → (q ≡ p) × (test q ≡ true)
  inside q true is at = (let same : Some q ≡ Some p = at in cc, is)
  inside q false is at = absurd cc

  by : (o : Option ℕ) → up d ≡ o → option_and_then (λ q. cond (test q) (Some q) None) o ≡ Some p → (up d ≡ Some p) × (test p ≡ true)
  by None is at = absurd cc
  by (Some q) is at = let found = inside q (test q) refl at in (is ∙ ap (λ (x : ℕ). Some x) found.0, ap test (sym found.0) ∙ found.1)

pub off_link : (up : ℕ → Option ℕ) (c d p : ℕ) → off up c d ≡ Some p → (up d ≡ Some p) × (p ≡ c → ⊥)
off_link up c d p e = by (up d) refl e where
  inside : (q : ℕ) (t : Bool) → nat_eq q c ≡ t → cond t None (Some q) ≡ Some p → (q ≡ p) × (nat_eq q c ≡ false)
  inside q true is at = absurd cc
  inside q false is at = (let same : Some q ≡ Some p = at in cc, is)

  by : (o : Option ℕ) → up d ≡ o → option_and_then (λ q. cond (nat_eq q c) None (Some q)) o ≡ Some p → (up d ≡ Some p) × (p ≡ c → ⊥)
  by None is at = absurd cc
  by (Some q) is at = let found = inside q (nat_eq q c) refl at in (is ∙ ap (λ (x : ℕ). Some x) found.0, λ same. test_other q c found.1 (found.0 ∙ same))

pub link_off : (up : ℕ → Option ℕ) (c d p : ℕ) → up d ≡ Some p → (p ≡ c → ⊥) → off up c d ≡ Some p
link_off up c d p at other =
    ap (λ (o : Option ℕ). option_and_then (λ q. cond (nat_eq q c) None (Some q)) o) at
    ∙ ap (λ (t : Bool). cond t None (Some p)) (differs p c other)

-- such a way is a way
way_of_off : (up : ℕ → Option ℕ) (c n h a : ℕ) → Rises (off up c) n h a → Rises up n h a
way_of_off up c zero h a way = way
way_of_off up c (suc n) h a way = (way.0, (off_link up c h way.0 way.1).0, way_of_off up c n way.0 a way.2)

-- a way passes a clock or doesn't
split_way : (up : ℕ → Option ℕ) (c n h a : ℕ) → Rises up n h a → ((h ≡ c → ⊥) × Rises (off up c) n h a) ⊎ (((m : ℕ) × Rises up m h c) × ((j : ℕ) × Rises up j c a))
split_way up c zero h a way = elim (same_or_not h c) [
  | inl e ↦ inr ((zero, e), (zero, sym e ∙ way))
  | inr other ↦ inl (other, way)
]
split_way up c (suc n) h a way = elim (same_or_not h c) [
  | inl e ↦ inr ((zero, e), (suc n, subst (λ (x : ℕ). Rises up (suc n) x a) e way))
  | inr other ↦ elim (split_way up c n way.0 a way.2) [
    | inl rest ↦ inl (other, (way.0, link_off up c h way.0 way.1 rest.0, rest.1))
    | inr rest ↦ inr ((suc rest.0.0, (way.0, way.1, rest.0.1)), rest.1)
  ]
]

-- what a clock begins is cut off at it, or goes on
cut-cons : (c h : ℕ) (rest : List ℕ) → cut_at c (h ∷ rest) ≡ cond (not (nat_eq h c)) (h ∷ cut_at c rest) []
cut-cons c h rest = by (nat_eq h c) where
  by : (t : Bool) → take (cond (not t) (1 + prefix_len (λ x. not (nat_eq x c)) rest) 0) (h ∷ rest) ≡ cond (not t) (h ∷ cut_at c rest) []
  by true = refl
  by false = let next_ : 1 + prefix_len (λ x. not (nat_eq x c)) rest ≡ suc (prefix_len (λ x. not (nat_eq x c)) rest) = omega arith in ap (λ (n : ℕ). take n (h ∷ rest)) next_

-- what is cut off of a path is what no such way leads to
pub cut_way : (up : ℕ → Option ℕ) (c n h a : ℕ) → is_in a (cut_at c (path_within up n h)) ≡ true → (h ≡ c → ⊥) × ((m : ℕ) × Rises (off up c) m h a)
cut_way up c zero h a m = absurd cc
cut_way up c (suc n) h a m =
    by_clock (λ p. cut_way up c n p a) (nat_eq h c) refl (subst (λ (xs : List ℕ). is_in a xs ≡ true) (cut-cons c h (option_map_or (path_within up n) (up h) [])) m) where
      by_link : ((p : ℕ) → is_in a (cut_at c (path_within up n p)) ≡ true → (p ≡ c → ⊥) × ((m : ℕ) × Rises (off up c) m p a)) → (o : Option ℕ) → up h ≡ o → is_in a (cut_at c (option_map_or (path_within up n) o [])) ≡ true → (m : ℕ) × Rises (off up c) m h a
      by_link rest None is m = absurd cc
      by_link rest (Some p) is m = let way = rest p m in (suc way.1.0, (p, link_off up c h p is way.0, way.1.1))

      by_clock : ((p : ℕ) → is_in a (cut_at c (path_within up n p)) ≡ true → (p ≡ c → ⊥) × ((m : ℕ) × Rises (off up c) m p a)) → (t : Bool) → nat_eq h c ≡ t → is_in a (cond (not t) (h ∷ cut_at c (option_map_or (path_within up n) (up h) [])) []) ≡ true
          → (h ≡ c → ⊥) × ((m : ℕ) × Rises (off up c) m h a)
      by_clock rest true e m = absurd cc
      by_clock rest false e m = (
        test_other h c e,
        elim (is_in_cases a h (cut_at c (option_map_or (path_within up n) (up h) [])) m) [
          | inl is ↦ (zero, is)
          | inr r ↦ by_link rest (up h) refl r
        ],
      )

pub way_cut : (up : ℕ → Option ℕ) (c n m h a : ℕ) → (h ≡ c → ⊥) → Rises (off up c) m h a → m < n → is_in a (cut_at c (path_within up n h)) ≡ true
way_cut up c zero m h a other way less = absurd (omega arith)
way_cut up c (suc n) m h a other way less =
    ap (is_in a) (cut-cons c h (option_map_or (path_within up n) (up h) []))
    ∙ ap (λ (t : Bool). is_in a (cond (not t) (h ∷ cut_at c (option_map_or (path_within up n) (up h) [])) [])) (differs h c other) ∙ by (λ j p. way_cut up c n j p a) m way less where
      by : ((j p : ℕ) → (p ≡ c → ⊥) → Rises (off up c) j p a → j < n → is_in a (cut_at c (path_within up n p)) ≡ true) → (j : ℕ) → Rises (off up c) j h a → j < suc n → is_in a (h ∷ cut_at c (option_map_or (path_within up n) (up h) [])) ≡ true
      by rest zero w l = ap (λ (x : ℕ). is_in a (x ∷ cut_at c (option_map_or (path_within up n) (up h) []))) w ∙ is_in_head a (cut_at c (option_map_or (path_within up n) (up h) []))
      by rest (suc j) w l =
          let link = off_link up c h w.0 w.1 in
          is_in_tail a h (cut_at c (option_map_or (path_within up n) (up h) []))
          (ap (λ (o : Option ℕ). is_in a (cut_at c (option_map_or (path_within up n) o []))) link.0 ∙ rest j w.0 link.1 w.2 (omega arith))

-- ---- clocks that are held

-- what is known of links, holders, and counts over children
pub record Counting (parents : ℕ → List ℕ) (up : ℕ → Option ℕ) (holders : List ℕ) (kids : ℕ → List ℕ) (own count : ℕ → ℕ) : Type 0 where
  pub up_ : IsUp parents up
  pub ends : (c : ℕ) → ends_within parents depth c ≡ true
  pub kids_ : AreKids kids up
  pub kid : (d p : ℕ) → up d ≡ Some p → is_in d (kids p) ≡ true
  pub holds : (a : ℕ) → nat_lt 0 (own a) ≡ is_in a holders
  pub counts : (a : ℕ) → count a ≡ own a + count_by (λ d. list_any (λ h. is_in d (path_within up depth h)) holders) (kids a)

module _ {parents : ℕ → List ℕ} {up : ℕ → Option ℕ} {holders : List ℕ} {kids : ℕ → List ℕ} {own count : ℕ → ℕ} (known : Counting parents up holders kids own count) (c : ℕ) where
  -- whether a clock is on the path of a holder, and whether it is so on one in front of the free clock
  abbrev pub is_kept : ℕ → Bool
  is_kept a = list_any (λ h. is_in a (path_within up depth h)) holders

  abbrev pub is_kept_but : ℕ → Bool
  is_kept_but a = list_any (λ h. is_in a (cut_at c (path_within up depth h))) holders

  -- the holder with its way
  abbrev pub Kept : ℕ → Type 0
  Kept a = (h : ℕ) × (is_in h holders ≡ true) × ((n : ℕ) × Rises up n h a)

  abbrev pub KeptBut : ℕ → Type 0
  KeptBut a = (h : ℕ) × (is_in h holders ≡ true) × (h ≡ c → ⊥) × ((n : ℕ) × Rises (off up c) n h a)

  kept_way : (a : ℕ) → is_kept a ≡ true → Kept a
  kept_way a e = let found = any_in (λ h. is_in a (path_within up depth h)) holders e in (found.0, found.1, path_rises up depth found.0 a found.2)

  way_kept : (a : ℕ) → Kept a → is_kept a ≡ true
  way_kept a k =
      any_from_in (λ h. is_in a (path_within up depth h)) holders k.0 k.1
      (rises_path up depth k.2.0 k.0 a k.2.1 (few_steps parents up depth k.2.0 k.0 a known.up_ (known.ends k.0) k.2.1))

  but_way : (a : ℕ) → is_kept_but a ≡ true → KeptBut a
  but_way a e =
      let found = any_in (λ h. is_in a (cut_at c (path_within up depth h))) holders e in
      let way = cut_way up c depth found.0 a found.2 in
      (found.0, found.1, way.0, way.1)

  way_but : (a : ℕ) → KeptBut a → is_kept_but a ≡ true
  way_but a k =
      any_from_in (λ h. is_in a (cut_at c (path_within up depth h))) holders k.0 k.1
      (way_cut up c depth k.3.0 k.0 a k.2 k.3.1 (few_steps parents up depth k.3.0 k.0 a known.up_ (known.ends k.0) (way_of_off up c k.3.0 k.0 a k.3.1)))

  but_kept : (a : ℕ) → KeptBut a → Kept a
  but_kept a k = (k.0, k.1, (k.3.0, way_of_off up c k.3.0 k.0 a k.3.1))

  -- what is kept is so in front of the free clock or above it
  kept_where : (a : ℕ) → Kept a → KeptBut a ⊎ (Kept c × ((j : ℕ) × Rises up j c a))
  kept_where a k = elim (split_way up c k.2.0 k.0 a k.2.1) [
    | inl way ↦ inl (k.0, k.1, way.0, (k.2.0, way.1))
    | inr way ↦ inr ((k.0, k.1, way.0), way.1)
  ]

  kept_up : (d p : ℕ) → Kept d → up d ≡ Some p → Kept p
  kept_up d p k at = (k.0, k.1, (suc k.2.0, rises_on up k.2.0 k.0 d p k.2.1 at))

  but_up : (d p : ℕ) → KeptBut d → up d ≡ Some p → (p ≡ c → ⊥) → KeptBut p
  but_up d p k at other = (k.0, k.1, k.2, (suc k.3.0, rises_on (off up c) k.3.0 k.0 d p k.3.1 (link_off up c d p at other)))

  -- ---- the free ones

  sole_link : (q p : ℕ) → sole_parent up count q ≡ Some p → (up q ≡ Some p) × (count p ≡ 1)
  sole_link q p e = let found = kept_link up (λ x. nat_eq (count x) 1) q p e in (found.0, same_from_test (count p) 1 found.1)

  link_sole : (q p : ℕ) → up q ≡ Some p → count p ≡ 1 → sole_parent up count q ≡ Some p
  link_sole q p at one =
      ap (λ (o : Option ℕ). option_and_then (λ x. cond (nat_eq (count x) 1) (Some x) None) o) at ∙ ap (λ (n : ℕ). cond (nat_eq n 1) (Some p) None) one

  -- the only thing that protects a clock is the free one below it
  sole_freed : (q p : ℕ) → Kept q → (KeptBut q → ⊥) → up q ≡ Some p → count p ≡ 1 → KeptBut p → ⊥
  sole_freed q p kept free at one but = by but.3.0 but.3.1 where
    child : is_in q (kids p) ≡ true
    child = known.kid q p at

    by : (n : ℕ) → Rises (off up c) n but.0 p → ⊥
    by zero way =
        let here : is_in p holders ≡ true = ap (λ (x : ℕ). is_in x holders) (sym way) ∙ but.1 in
        let some : nat_lt 0 (own p) ≡ true = known.holds p ∙ here in
        let mine : 0 < own p = grind (arith, nat_tests) in
        let theirs = some_counted is_kept (kids p) q child (way_kept q kept) in
        let whole = known.counts p in
        absurd (omega arith)
    by (suc n) way =
        let last = last_link (off up c) n but.0 p way in
        let link = off_link up c last.0 p last.2 in
        let below : KeptBut last.0 = (but.0, but.1, but.2, (n, last.1)) in
        elim (same_or_not last.0 q) [
          | inl e ↦ free (subst KeptBut e below)
          | inr other ↦
              let both = counts_two is_kept (kids p) last.0 q (known.kid last.0 p link.0) child other (way_kept last.0 (but_kept last.0 below)) (way_kept q kept) in
              let whole = known.counts p in
              absurd (omega arith)
        ]

  freed_not : (n q a : ℕ) → Kept q → (KeptBut q → ⊥) → Rises (sole_parent up count) n q a → KeptBut a → ⊥
  freed_not zero q a kept free way but = free (subst KeptBut (sym way) but)
  freed_not (suc n) q a kept free way but =
      let link = sole_link q way.0 way.1 in
      freed_not n way.0 a (kept_up q way.0 kept link.0) (sole_freed q way.0 kept free link.0 link.1) way.2 but

  above_other : (m p : ℕ) → Rises up (suc m) c p → p ≡ c → ⊥
  above_other m p way is = no_round parents up depth m c known.up_ (known.ends c) (subst (λ (x : ℕ). Rises up (suc m) c x) is way)

  -- a way that begins above the free clock doesn't pass it
  above_off : (n m p a : ℕ) → Rises up (suc m) c p → Rises up n p a → Rises (off up c) n p a
  above_off zero m p a below way = way
  above_off (suc n) m p a below way =
      let next_ = rises_on up (suc m) c p way.0 below way.1 in
      (way.0, link_off up c p way.0 way.1 (above_other (suc m) way.0 next_), above_off n (suc m) way.0 a next_ way.2)

  -- of the children of a clock above, the one on the way is the only one
  same_child : (d q p i m : ℕ) → Rises up i c d → Rises up m c q → up d ≡ Some p → up q ≡ Some p → d ≡ q
  same_child d q p i m one two at here = elim (rises_both up i m c d q one two) [
    | inl way ↦ by d q way.0 at here way.1
    | inr way ↦ sym (by q d way.0 here at way.1)
  ] where
    by : (u v k : ℕ) → up u ≡ Some p → up v ≡ Some p → Rises up k u v → u ≡ v
    by u v zero a b way = way
    by u v (suc k) a b way =
        let is : way.0 ≡ p = (let both : Some way.0 ≡ Some p = sym way.1 ∙ a in cc) in
        absurd (no_round parents up depth k p known.up_ (known.ends p) (rises_on up k p v p (subst (λ (x : ℕ). Rises up k x v) is way.2) b))

  -- a clock above that is kept through the free one alone is protected once
  counted_once : (q p m : ℕ) → Kept c → Rises up m c q → up q ≡ Some p → (KeptBut p → ⊥) → count p ≡ 1
  counted_once q p m kept below at free =
      let other : p ≡ c → ⊥ = above_other m p (rises_on up m c q p below at) in
      let none : own p ≡ 0 = unheld other in
      let kids_ = counts_sole is_kept (kids p) q (known.kids_.once p) (known.kid q p at) (way_kept q on_way) (λ d member held. only other d member held) in
      let whole = known.counts p in
      omega arith where
        on_way : Kept q
        on_way = let rest = rises_far up kept.2.0 m kept.0 c q kept.2.1 below in (kept.0, kept.1, rest)

        unheld : (p ≡ c → ⊥) → own p ≡ 0
        unheld other = by (nat_lt 0 (own p)) refl where
          by : (t : Bool) → nat_lt 0 (own p) ≡ t → own p ≡ 0
          by true e = absurd (free (p, sym (known.holds p) ∙ e, other, (zero, refl)))
          by false e = grind (arith, nat_tests)

        only : (p ≡ c → ⊥) → (d : ℕ) → is_in d (kids p) ≡ true → is_kept d ≡ true → d ≡ q
        only other d member held =
            let link = known.kids_.parent d p member in
            elim (kept_where d (kept_way d held)) [
              | inl but ↦ absurd (free (but_up d p but link other))
              | inr through ↦ same_child d q p through.1.0 m through.1.1 below link at
            ]

  not_freed : (n q m a : ℕ) → Kept c → Rises up m c q → Rises up n q a → (KeptBut a → ⊥) → Rises (sole_parent up count) n q a
  not_freed zero q m a kept below way free = way
  not_freed (suc n) q m a kept below way free =
      let next_ = rises_on up m c q way.0 below way.1 in
      let free_ : KeptBut way.0 → ⊥ = λ but.
      let far = rises_far (off up c) but.3.0 n but.0 way.0 a but.3.1 (above_off n m way.0 a next_ way.2) in
      free (but.0, but.1, but.2, far) in
      (way.0, link_sole q way.0 way.1 (counted_once q way.0 m kept below way.1 free_), not_freed n way.0 (suc m) a kept next_ way.2 free)

  -- what is kept in front of a clock alone is what is kept and isn't free with it
  pub kept_but : (a : ℕ) → (is_kept a && not (is_in a (cond (is_kept c) (path_within (sole_parent up count) depth c) []))) ≡ is_kept_but a
  kept_but a = either_way (is_kept a && not (is_in a (cond (is_kept c) (path_within (sole_parent up count) depth c) []))) (is_kept_but a) to from where
    ways : List ℕ
    ways = path_within (sole_parent up count) depth c

    sole_up : IsUp parents (sole_parent up count)
    sole_up d p at = known.up_ d p (sole_link d p at).0

    to : (is_kept a && not (is_in a (cond (is_kept c) ways []))) ≡ true → is_kept_but a ≡ true
    to e = by (is_kept a) (is_in a (cond (is_kept c) ways [])) refl refl e where
      by : (s t : Bool) → is_kept a ≡ s → is_in a (cond (is_kept c) ways []) ≡ t → (s && not t) ≡ true → is_kept_but a ≡ true
      by true true held free e = absurd cc
      by false t held free e = absurd cc
      by true false held free e = elim (kept_where a (kept_way a held)) [
        | inl but ↦ way_but a but
        | inr through ↦ by_but (is_kept_but a) refl through
      ] where
        by_but : (u : Bool) → is_kept_but a ≡ u → Kept c × ((j : ℕ) × Rises up j c a) → u ≡ true
        by_but true is through = refl
        by_but false is through =
            let way = not_freed through.1.0 c zero a through.0 refl through.1.1 (λ but. let no = way_but a but in absurd cc) in
            let inside = rises_path (sole_parent up count) depth through.1.0 c a way (few_steps parents (sole_parent up count) depth through.1.0 c a sole_up (known.ends c) way) in
            let no : is_in a (cond (is_kept c) ways []) ≡ true = ap (λ (t : Bool). is_in a (cond t ways [])) (way_kept c through.0) ∙ inside in
            absurd cc

    from : is_kept_but a ≡ true → (is_kept a && not (is_in a (cond (is_kept c) ways []))) ≡ true
    from e = by (is_kept c) refl where
      kept : is_kept a ≡ true
      kept = way_kept a (but_kept a (but_way a e))

      off_ways : is_kept c ≡ true → (t : Bool) → is_in a ways ≡ t → t ≡ false
      off_ways held false is = refl
      off_ways held true is =
          let way = path_rises (sole_parent up count) depth c a is in
          absurd (freed_not way.0 c a (kept_way c held) (λ but. itself but.3.0 but.2 but.3.1) way.1 (but_way a e)) where
            itself : (n : ℕ) {h : ℕ} → (h ≡ c → ⊥) → Rises (off up c) n h c → ⊥
            itself zero other way = other way
            itself (suc n) {h} other way = let last = last_link (off up c) n h c way in (off_link up c last.0 c last.2).1 refl

      by : (t : Bool) → is_kept c ≡ t → (is_kept a && not (is_in a (cond t ways []))) ≡ true
      by true held = ap (λ (s : Bool). s && not (is_in a ways)) kept ∙ ap not (off_ways held (is_in a ways) refl)
      by false held = ap (λ (s : Bool). s && true) kept
