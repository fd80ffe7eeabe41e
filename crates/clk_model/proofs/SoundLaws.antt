-- Laws on sound scenes: what holds, new links and writes of muxes leave of them, and what each prepares.
use Rattle.std.proofs.Common.{◌≡◌, ℕ, ◌≤◌, Bool, true, false, not, cond, List, [], ◌∷◌, ◌++◌, Option, Some, None, refl, sym, ap, subst, ◌∙◌, ◌⊎◌, inl, inr, length}
use Rattle.std.specs.Prelude.{slice_get}
use Rattle.std.specs.Option.{option_map_or}
use Rattle.clk_base.specs.Description.{Description, kind_of, parents_of}
use Rattle.clk_base.specs.Fields.{Field}
use Rattle.clk_model.specs.Lists.{is_in, same_place, without, to_front}
use Rattle.clk_model.specs.Kinds.{mux_field}
use Rattle.clk_model.specs.Chain.{place_of}
use Rattle.clk_model.specs.Wired.{LinesEnd}
use Rattle.clk_model.proofs.Members.{or_left, or_right, is_in_head, is_in_cases, test_same}
use Rattle.clk_model.proofs.OnceLaws.{is_in-filter}
use Rattle.clk_model.proofs.MovedLaws.{place_holds}
use Rattle.clk_model.proofs.BelowLaws.{IsUp}
use Rattle.clk_model.proofs.OnceLaws.{is_in-append}
use Rattle.clk_model.proofs.WholePathLaws.{same_or_not}
use Rattle.clk_model.proofs.AboveLaws.{put_at, put_same, put_other, Above, Holder, holder_of, held_from, holder_cases, MayLink, may_still, HasRoot, root_still, held_up}
use Rattle.clk_model.proofs.Scenes.{Scene, holding, keepers, prepared_in, fed_by, IsTree, IsSound}
use Rattle.clk_model.proofs.OutcomeLaws.{same_from_place}

-- ---- lists

pub in_one : (P : ℕ → Type 0) (h x : ℕ) → is_in h (x ∷ []) ≡ true → P x → P h
in_one P h x m first =
    elim (is_in_cases h x [] m) [
      | inl same ↦ subst P same first
      | inr none ↦ absurd cc
    ]

pub in_two : (P : ℕ → Type 0) (h x y : ℕ) → is_in h (x ∷ y ∷ []) ≡ true → P x → P y → P h
in_two P h x y m first second =
    elim (is_in_cases h x (y ∷ []) m) [
      | inl same ↦ subst P same first
      | inr later ↦ in_one P h y later second
    ]

-- ---- who prepares

-- the clock is prepared by a keeper or by a hold
pub prepare_cases : (defs : Description) (a : Scene) (ps es : List ℕ) (late : Option ℕ) (c : ℕ) → prepared_in defs (holding a ps es late) c ≡ true
    → Holder a.up (keepers defs a) c ⊎ Holder a.up ps c
prepare_cases defs a ps es late c prep = holder_cases a.up (keepers defs a) ps c (holder_of a.up (keepers defs a ++ ps) c prep)

pub keeper_prepares : (defs : Description) (a : Scene) (ps es : List ℕ) (late : Option ℕ) (c : ℕ) → LinesEnd defs → IsUp (parents_of defs) a.up → Holder a.up (keepers defs a) c
    → prepared_in defs (holding a ps es late) c ≡ true
keeper_prepares defs a ps es late c ends is holder =
    held_from defs a.up (keepers defs a ++ ps) c ends is (holder.0, is_in-append holder.0 (keepers defs a) ps ∙ or_left (is_in holder.0 (keepers defs a)) (is_in holder.0 ps) holder.1, holder.2)

pub hold_prepares : (defs : Description) (a : Scene) (ps es : List ℕ) (late : Option ℕ) (c : ℕ) → LinesEnd defs → IsUp (parents_of defs) a.up → Holder a.up ps c
    → prepared_in defs (holding a ps es late) c ≡ true
hold_prepares defs a ps es late c ends is holder =
    held_from defs a.up (keepers defs a ++ ps) c ends is (holder.0, is_in-append holder.0 (keepers defs a) ps ∙ or_right (is_in holder.0 (keepers defs a)) (is_in holder.0 ps) holder.1, holder.2)

-- without holds a keeper prepares it
pub kept_alone : (defs : Description) (a : Scene) (es : List ℕ) (late : Option ℕ) (c : ℕ) → prepared_in defs (holding a [] es late) c ≡ true → Holder a.up (keepers defs a) c
kept_alone defs a es late c prep =
    elim (prepare_cases defs a [] es late c prep) [
      | inl holder ↦ holder
      | inr none ↦ let no : false ≡ true = none.1 in absurd cc
    ]

pub one_holder : (up : ℕ → Option ℕ) (h c : ℕ) → Above up h c → Holder up (h ∷ []) c
one_holder up h c high = (h, is_in_head h [], high)

pub held_by_one : (up : ℕ → Option ℕ) (h c : ℕ) → Holder up (h ∷ []) c → Above up h c
held_by_one up h c holder = in_one (λ x. Above up x c → Above up h c) holder.0 h holder.1 (λ high. high) holder.2

-- ---- holds alone

-- other holds keep a scene sound, if what is held enabled is prepared
pub sound_holding : (defs : Description) (a : Scene) (ps es : List ℕ) → IsSound defs (holding a [] [] None)
    → ((h : ℕ) → is_in h es ≡ true → prepared_in defs (holding a ps es None) h ≡ true) → IsSound defs (holding a ps es None)
sound_holding defs a ps es sound each = record { tree = sound.tree; fed = sound.fed; late_held = λ c p e. absurd cc; holds = each }

-- ---- a new link

-- a clock may get a link to this parent: both are registered, and the parent has a root, or the clock no link
pub record WillMove (defs : Description) (a : Scene) (c p : ℕ) : Type 0 where
  pub possible : is_in p (parents_of defs c) ≡ true
  pub there : a.there c ≡ true
  pub parent_there : a.there p ≡ true
  pub from : HasRoot defs a.up p ⊎ (a.up c ≡ None)

-- the scene with that link
abbrev pub linked_in : Scene → ℕ → ℕ → Scene
linked_in a c p = record a { up = put_at c (Some p) a.up; order = to_front c a.order }

pub may_link : (defs : Description) (a : Scene) (c p : ℕ) → LinesEnd defs → IsUp (parents_of defs) a.up → WillMove defs a c p → MayLink defs a.up c p
may_link defs a c p ends is will = record { ends = ends; is = is; parent = will.possible }

tree_linked : (defs : Description) (a : Scene) (c p : ℕ) → LinesEnd defs → IsTree defs a.up a.there a.clock_at a.order → WillMove defs a c p
    → IsTree defs (put_at c (Some p) a.up) a.there a.clock_at (to_front c a.order)
tree_linked defs a c p ends tree will =
    let may = may_link defs a c p ends tree.possible will in
    record {
      possible = may_still defs a.up c p may;
      linked = λ d q at. link d q at (same_or_not c d);
      rooted = λ n d at. let old = tree.rooted n d at in (old.0, root_still defs a.up c p d may will.from old.1);
      listed = λ d m. list d (is_in_cases d c (without (c ∷ []) a.order) m);
    } where
      link : (d q : ℕ) → put_at c (Some p) a.up d ≡ Some q → (c ≡ d) ⊎ (c ≡ d → ⊥) → (a.there d ≡ true) × (a.there q ≡ true)
      link d q at (inl same) =
          let is : Some p ≡ Some q = sym (put_same c d (Some p) a.up same) ∙ at in
          let parent : p ≡ q = cc in
          (ap a.there (sym same) ∙ will.there, ap a.there (sym parent) ∙ will.parent_there)
      link d q at (inr other) = tree.linked d q (sym (put_other c d (Some p) a.up other) ∙ at)

      list : (d : ℕ) → (c ≡ d) ⊎ (is_in d (without (c ∷ []) a.order) ≡ true) → (a.there d ≡ true) ⊎ (length defs ≤ d)
      list d (inl same) = inl (ap a.there (sym same) ∙ will.there)
      list d (inr rest) = tree.listed d (is_in-filter (λ x. not (is_in x (c ∷ []))) d a.order rest)

-- what feeds a clock by its field doesn't ask for its link
fed_by_field : (defs : Description) (a : Scene) (c p o : ℕ) → (fed_by defs a c p ≡ Some p) ⊎ (fed_by defs a c p ≡ fed_by defs a c o)
fed_by_field defs a c p o = by_mux (mux_field (kind_of defs c)) where
  by_mux : (f : Option Field) → (option_map_or (λ g. a.sel c) f (Some p) ≡ Some p) ⊎ (option_map_or (λ g. a.sel c) f (Some p) ≡ option_map_or (λ g. a.sel c) f (Some o))
  by_mux None = inl refl
  by_mux (Some f) = inr refl

-- the mux that is late behind a new link
abbrev pub late_behind : Description → Scene → ℕ → ℕ → Option ℕ
late_behind defs a c p = cond (same_place (fed_by defs a c p) (Some p)) None (Some c)

late_or_fed : (x y : Option ℕ) (c : ℕ) → (x ≡ y) ⊎ (cond (same_place x y) None (Some c) ≡ Some c)
late_or_fed x y c = by_test (same_place x y) refl where
  by_test : (t : Bool) → same_place x y ≡ t → (x ≡ y) ⊎ (cond t None (Some c) ≡ Some c)
  by_test true e = inl (same_from_place x y e)
  by_test false e = inr refl

late_is : (t : Bool) (c d : ℕ) → cond t None (Some c) ≡ Some d → c ≡ d
late_is true c d e = absurd cc
late_is false c d e = cc

-- a new link keeps a scene sound with these holds: what is held enabled is prepared, and where the clock is prepared it is fed by the new
-- parent already, or its old one is held enabled
pub sound_linked : (defs : Description) (a : Scene) (c p : ℕ) (ps es : List ℕ) → LinesEnd defs → IsSound defs (holding a [] [] None) → WillMove defs a c p
    → ((h : ℕ) → is_in h es ≡ true → prepared_in defs (holding (linked_in a c p) ps es None) h ≡ true)
    → (prepared_in defs (holding (linked_in a c p) ps es None) c ≡ true → (fed_by defs a c p ≡ Some p) ⊎ ((o : ℕ) × (a.up c ≡ Some o) × (held_up (put_at c (Some p) a.up) es o ≡ true)))
    → IsSound defs (holding (linked_in a c p) ps es (late_behind defs a c p))
sound_linked defs a c p ps es ends sound will each old = record {
  tree = tree_linked defs a c p ends sound.tree will;
  fed = λ d q at. feed d q at (same_or_not c d);
  late_held = λ d q late at prep. held d q late at prep;
  holds = each;
} where
  feed : (d q : ℕ) → put_at c (Some p) a.up d ≡ Some q → (c ≡ d) ⊎ (c ≡ d → ⊥) → (fed_by defs a d q ≡ Some q) ⊎ (late_behind defs a c p ≡ Some d)
  feed d q at (inl same) =
      let is : Some p ≡ Some q = sym (put_same c d (Some p) a.up same) ∙ at in
      let parent : p ≡ q = cc in
      subst (λ x. (fed_by defs a x q ≡ Some q) ⊎ (late_behind defs a c p ≡ Some x)) same
      (subst (λ x. (fed_by defs a c x ≡ Some x) ⊎ (late_behind defs a c p ≡ Some c)) parent (late_or_fed (fed_by defs a c p) (Some p) c))
  feed d q at (inr other) =
      elim (sound.fed d q (sym (put_other c d (Some p) a.up other) ∙ at)) [
        | inl fed ↦ inl fed
        | inr late ↦ absurd cc
      ]

  never : {d : ℕ} → fed_by defs a c p ≡ Some p → late_behind defs a c p ≡ Some d → ⊥
  never {d = d} now late =
      let test : same_place (fed_by defs a c p) (Some p) ≡ true = ap (λ (o : Option ℕ). same_place o (Some p)) now ∙ test_same p in
      let no : None ≡ Some d = sym (ap (λ (t : Bool). cond {A = Option ℕ} t None (Some c)) test) ∙ late in
      cc

  at_clock : {d : ℕ} → late_behind defs a c p ≡ Some d → (fed_by defs a c p ≡ Some p) ⊎ ((o : ℕ) × (a.up c ≡ Some o) × (held_up (put_at c (Some p) a.up) es o ≡ true))
      → (o : ℕ) × (fed_by defs a c p ≡ Some o) × (held_up (put_at c (Some p) a.up) es o ≡ true)
  at_clock late (inl now) = absurd (never now late)
  at_clock late (inr was) =
      elim (fed_by_field defs a c p was.0) [
        | inl now ↦ absurd (never now late)
        | inr same ↦ elim (sound.fed c was.0 was.1) [
          | inl fed ↦ (was.0, same ∙ fed, was.2)
          | inr none ↦ absurd cc
        ]
      ]

  held : (d q : ℕ) → late_behind defs a c p ≡ Some d → put_at c (Some p) a.up d ≡ Some q → prepared_in defs (holding (linked_in a c p) ps es None) d ≡ true
      → (o : ℕ) × (fed_by defs a d q ≡ Some o) × (held_up (put_at c (Some p) a.up) es o ≡ true)
  held d q late at prep =
      let same : c ≡ d = late_is (same_place (fed_by defs a c p) (Some p)) c d late in
      let is : Some p ≡ Some q = sym (put_same c d (Some p) a.up same) ∙ at in
      let parent : p ≡ q = cc in
      subst (λ x. (o : ℕ) × (fed_by defs a x q ≡ Some o) × (held_up (put_at c (Some p) a.up) es o ≡ true)) same
      (subst (λ x. (o : ℕ) × (fed_by defs a c x ≡ Some o) × (held_up (put_at c (Some p) a.up) es o ≡ true)) parent
      (at_clock late (old (ap (λ (x : ℕ). prepared_in defs (holding (linked_in a c p) ps es None) x) same ∙ prep))))

-- ---- a mux that is written

-- the scene with the field of a clock written, if it has one
abbrev pub written_in : Description → Scene → ℕ → ℕ → Scene
written_in defs a c place = record a { sel = put_at c (option_map_or (λ f. slice_get (parents_of defs c) place) (mux_field (kind_of defs c)) (a.sel c)) a.sel }

-- a clock that has a new link and whose field selects it is fed by it
fed_by_written : (defs : Description) (a : Scene) (c p : ℕ) → is_in p (parents_of defs c) ≡ true → fed_by defs (written_in defs a c (place_of defs c p)) c p ≡ Some p
fed_by_written defs a c p m = by_mux (mux_field (kind_of defs c)) where
  by_mux : (o : Option Field) → option_map_or (λ f. put_at c (option_map_or (λ g. slice_get (parents_of defs c) (place_of defs c p)) o (a.sel c)) a.sel c) o (Some p) ≡ Some p
  by_mux None = refl
  by_mux (Some f) = put_same c c (slice_get (parents_of defs c) (place_of defs c p)) a.sel refl ∙ place_holds p (parents_of defs c) m

fed_by_other : (defs : Description) (a : Scene) (c place d q : ℕ) → (c ≡ d → ⊥) → fed_by defs (written_in defs a c place) d q ≡ fed_by defs a d q
fed_by_other defs a c place d q other =
    ap (λ (o : Option ℕ). option_map_or (λ f. o) (mux_field (kind_of defs d)) (Some q)) (put_other c d _ a.sel other)

-- the scene behind a whole move
abbrev pub moved_in : Description → Scene → ℕ → ℕ → Scene
moved_in defs a c p = written_in defs (linked_in a c p) c (place_of defs c p)

-- with the field written a scene stays sound, if what is held enabled is prepared
pub sound_moved : (defs : Description) (a : Scene) (c p : ℕ) (ps es : List ℕ) → LinesEnd defs → IsSound defs (holding a [] [] None) → WillMove defs a c p
    → ((h : ℕ) → is_in h es ≡ true → prepared_in defs (holding (linked_in a c p) ps es None) h ≡ true) → IsSound defs (holding (moved_in defs a c p) ps es None)
sound_moved defs a c p ps es ends sound will each = record {
  tree = tree_linked defs a c p ends sound.tree will;
  fed = λ d q at. feed d q at (same_or_not c d);
  late_held = λ d q e. absurd cc;
  holds = each;
} where
  feed : (d q : ℕ) → put_at c (Some p) a.up d ≡ Some q → (c ≡ d) ⊎ (c ≡ d → ⊥) → (fed_by defs (moved_in defs a c p) d q ≡ Some q) ⊎ (None ≡ Some d)
  feed d q at (inl same) =
      let is : Some p ≡ Some q = sym (put_same c d (Some p) a.up same) ∙ at in
      let parent : p ≡ q = cc in
      inl (subst (λ x. fed_by defs (moved_in defs a c p) x q ≡ Some q) same
      (subst (λ x. fed_by defs (moved_in defs a c p) c x ≡ Some x) parent (fed_by_written defs (linked_in a c p) c p will.possible)))
  feed d q at (inr other) =
      elim (sound.fed d q (sym (put_other c d (Some p) a.up other) ∙ at)) [
        | inl fed ↦ inl (fed_by_other defs (linked_in a c p) c (place_of defs c p) d q other ∙ fed)
        | inr none ↦ inr none
      ]

-- with a new link that the registers select already it stays sound without a late mux
pub sound_adopted : (defs : Description) (a : Scene) (c p : ℕ) (ps es : List ℕ) → LinesEnd defs → IsSound defs (holding a [] [] None) → WillMove defs a c p → a.sel c ≡ Some p
    → ((h : ℕ) → is_in h es ≡ true → prepared_in defs (holding (linked_in a c p) ps es None) h ≡ true) → IsSound defs (holding (linked_in a c p) ps es None)
sound_adopted defs a c p ps es ends sound will sel each = record {
  tree = tree_linked defs a c p ends sound.tree will;
  fed = λ d q at. feed d q at (same_or_not c d);
  late_held = λ d q e. absurd cc;
  holds = each;
} where
  here : fed_by defs a c p ≡ Some p
  here = ap (λ (o : Option ℕ). option_map_or (λ f. o) (mux_field (kind_of defs c)) (Some p)) sel ∙ by_mux (mux_field (kind_of defs c)) where
    by_mux : (o : Option Field) → option_map_or (λ f. Some p) o (Some p) ≡ Some p
    by_mux None = refl
    by_mux (Some f) = refl

  feed : (d q : ℕ) → put_at c (Some p) a.up d ≡ Some q → (c ≡ d) ⊎ (c ≡ d → ⊥) → (fed_by defs a d q ≡ Some q) ⊎ (None ≡ Some d)
  feed d q at (inl same) =
      let is : Some p ≡ Some q = sym (put_same c d (Some p) a.up same) ∙ at in
      let parent : p ≡ q = cc in
      inl (subst (λ x. fed_by defs a x q ≡ Some q) same (subst (λ x. fed_by defs a c x ≡ Some x) parent here))
  feed d q at (inr other) = sound.fed d q (sym (put_other c d (Some p) a.up other) ∙ at)

-- what a late mux would be is none, where the registers select the new link already
pub late_none : (defs : Description) (a : Scene) (c p : ℕ) → a.sel c ≡ Some p → late_behind defs a c p ≡ None
late_none defs a c p sel =
    ap (λ (o : Option ℕ). cond (same_place (option_map_or (λ f. o) (mux_field (kind_of defs c)) (Some p)) (Some p)) None (Some c)) sel
    ∙ by_mux (mux_field (kind_of defs c)) where
      by_mux : (o : Option Field) → cond {A = Option ℕ} (same_place (option_map_or (λ f. Some p) o (Some p)) (Some p)) None (Some c) ≡ None
      by_mux None = ap (λ (t : Bool). cond {A = Option ℕ} t None (Some c)) (test_same p)
      by_mux (Some f) = ap (λ (t : Bool). cond {A = Option ℕ} t None (Some c)) (test_same p)
