-- Laws on the walks of scripts: a walk goes well, whichever moves a timeout drops.
use Rattle.std.proofs.Common.{◌≡◌, ℕ, Bool, true, false, List, [], ◌∷◌, ◌++◌, Option, Some, None, refl, sym, ap, subst, ◌∙◌, ◌⊎◌, inl, inr}
use Rattle.std.specs.Prelude.{flat_map, if◌then◌else◌}
use Rattle.std.specs.List.{list_any, list_all}
use Rattle.std.proofs.lemmas.List.{append_assoc}
use Rattle.clk_base.specs.declared.call.Micro.{Micro}
use Rattle.clk_base.specs.declared.call.Micro.TheVariants as micro
use Rattle.clk_base.specs.declared.call.Sleeping.{Sleeping}
use Rattle.clk_base.specs.Description.{Description, parents_of}
use Rattle.clk_model.specs.Lists.{is_in, none_twice}
use Rattle.clk_model.specs.State.{State, ChainStep, registered, link_in}
use Rattle.clk_model.specs.Holders.{prepared}
use Rattle.clk_model.specs.Chain.{clock_id, place_of}
use Rattle.clk_base.specs.Flags.{runs_parent}
use Rattle.clk_model.specs.Script.{feed, unfeed, fed_step, runs_for, visit_of, move_of}
use Rattle.clk_model.specs.Step.{is_end, is_visit, lets_go, behind_lets, first_alone, from_first, cut_short}
use Rattle.clk_model.specs.Wired.{LinesEnd}
use Rattle.clk_model.specs.Laws.Plans.{clocks_in}
use Rattle.clk_model.proofs.Members.{is_in_head, is_in_tail}
use Rattle.clk_model.proofs.OnceLaws.{once_head}
use Rattle.clk_model.proofs.OutcomeLaws.{SettingsFit}
use Rattle.clk_model.proofs.BeginLaws.{walked_at}
use Rattle.clk_model.proofs.BelowLaws.{IsUp}
use Rattle.clk_model.proofs.AboveLaws.{put_at, put_other, Above, above_here, HasRoot, root_still, holder_still, holder_before, MayLink, may_still}
use Rattle.clk_model.proofs.Scenes.{Scene, holding, keepers, prepared_in, IsSound, EndsPrepare, GoesWell, uncovered, makes, ends}
use Rattle.clk_model.proofs.SoundLaws.{keeper_prepares, kept_alone, WillMove, linked_in, may_link, moved_in, sound_moved}
use Rattle.clk_model.proofs.BlockLaws.{CanMove, move_behind, prepared_move, bare_move, fed_goes, fed_move_behind, fed_move}
use Rattle.clk_model.proofs.FeedLaws.{first_past, visit_left}
use Rattle.clk_model.proofs.NoneLaws.{none_append}

-- ---- what will be moved

-- a clock may get this parent, and is prepared so without holds
pub record WillBe (defs : Description) (a : Scene) (c p : ℕ) (prep : Bool) : Type 0 where
  pub will : WillMove defs a c p
  pub kept : prepared_in defs (holding a [] [] None) c ≡ prep

-- it is so still behind the new link of another clock, if it isn't above that clock or its new parent
pub still_be : (defs : Description) (a : Scene) (c p d q : ℕ) (prep : Bool) → LinesEnd defs → IsUp (parents_of defs) a.up → WillMove defs a c p → (Above a.up c d → ⊥) → (Above a.up p d → ⊥)
    → WillBe defs a d q prep → WillBe defs (linked_in a c p) d q prep
still_be defs a c p d q prep lines is will off off' be = record {
  will = record { possible = be.will.possible; there = be.will.there; parent_there = be.will.parent_there; from = from be.will.from };
  kept = kept prep be.kept;
} where
  may : MayLink defs a.up c p
  may = may_link defs a c p lines is will

  other : c ≡ d → ⊥
  other same = off (subst (λ (x : ℕ). Above a.up c x) same (above_here a.up c))

  from : HasRoot defs a.up q ⊎ (a.up d ≡ None) → HasRoot defs (put_at c (Some p) a.up) q ⊎ (put_at c (Some p) a.up d ≡ None)
  from (inl root) = inl (root_still defs a.up c p q may will.from root)
  from (inr none) = inr (put_other c d (Some p) a.up other ∙ none)

  still : IsUp (parents_of defs) (put_at c (Some p) a.up)
  still = may_still defs a.up c p may

  kept : (b : Bool) → prepared_in defs (holding a [] [] None) d ≡ b → prepared_in defs (holding (linked_in a c p) [] [] None) d ≡ b
  kept true own = keeper_prepares defs (linked_in a c p) [] [] None d lines still (holder_still a.up c p d (keepers defs a) off (kept_alone defs a [] None d own))
  kept false own = by_test (prepared_in defs (holding (linked_in a c p) [] [] None) d) refl where
    by_test : (t : Bool) → prepared_in defs (holding (linked_in a c p) [] [] None) d ≡ t → t ≡ false
    by_test false e = refl
    by_test true e =
        let was = keeper_prepares defs a [] [] None d lines is (holder_before defs a.up c p d (keepers defs a) may off' (kept_alone defs (linked_in a c p) [] None d e)) in
        let no : false ≡ true = sym own ∙ was in
        absurd cc

-- the field of a mux is nothing to it
be_written : (defs : Description) (a : Scene) (c p d q : ℕ) (prep : Bool) → WillBe defs (linked_in a c p) d q prep → WillBe defs (moved_in defs a c p) d q prep
be_written defs a c p d q prep be = record {
  will = record { possible = be.will.possible; there = be.will.there; parent_there = be.will.parent_there; from = be.will.from };
  kept = be.kept;
}

-- ---- cuts

-- a script from its first step of a kind on, behind steps of other kinds
pub from_first_past : (test : Micro → Bool) (xs ys : List Micro) → list_any test xs ≡ false → from_first test (xs ++ ys) ≡ from_first test ys
from_first_past test xs ys none = first_past test xs ys none

-- what a timeout of a call leaves: the rest of the walk, or the end
pub data CutsAt (what : Sleeping) : Type 0 where
  at_visit : ((ms : List Micro) → cut_short what ms ≡ first_alone (from_first is_visit ms)) → CutsAt what
  at_end : ((ms : List Micro) → cut_short what ms ≡ from_first is_end ms) → CutsAt what

-- ---- a walk

-- the steps that move a clock
abbrev pub block : Description → Bool → Bool → ℕ → ℕ → ℕ → List Micro
block defs prep fed c p o =
    if prep then micro.Raise (clock_id p) ∷ move_behind defs c p o []
    else if fed then micro.Raise (clock_id c) ∷ micro.Raise (clock_id p) ∷ fed_move_behind defs c p o []
    else micro.Relink (clock_id c) (clock_id p) ∷ micro.WriteMux (clock_id c) (place_of defs c p) ∷ []

-- a plan moves a clock from one parent to another
pub record IsMover (s : State) (ks : List ChainStep) (c p o : ℕ) : Type 0 where
  pub chained : is_in c (clocks_in ks) ≡ true
  pub possible : is_in p (parents_of s.defs c) ≡ true
  pub there : registered s.clocks c ≡ true
  pub parent_there : registered s.clocks p ≡ true
  pub root : HasRoot s.defs (link_in s.clocks) p
  pub link : link_in s.clocks c ≡ Some o

-- whether one clock may be moved before another: the other is never above it or its new parent
abbrev pub Apart : Description → ℕ → ℕ → ℕ → Type 0
Apart defs c p d = (up : ℕ → Option ℕ) → IsUp (parents_of defs) up → (Above up c d → ⊥) × (Above up p d → ⊥)

-- the clocks of a list that a plan moves may be moved in their order
abbrev pub AllApart : State → List ChainStep → List ℕ → Type 0
AllApart s ks [] = Unit {0}
AllApart s ks (c ∷ cs) = ((d p o q r : ℕ) → is_in d cs ≡ true → IsMover s ks c p o → IsMover s ks d q r → Apart s.defs c p d) × AllApart s ks cs

-- what a walk is made in
pub record WalkOver (s : State) (what : Sleeping) (ks : List ChainStep) (tail : List Micro) : Type 0 where
  pub ends : LinesEnd s.defs
  pub fits : SettingsFit s.defs
  pub cuts : CutsAt what
  pub no_prepare : (timed : Bool) (cover : List ℕ) (a : Scene) → EndsPrepare what timed cover a
  pub tail_ends : from_first is_end tail ≡ micro.End ∷ []
  pub tail_stays : behind_lets tail ≡ tail
  pub runs_there : (c x : ℕ) → runs_for s.defs s.clocks ks c ≡ Some x → registered s.clocks x ≡ true
  pub tail_goes : (timed : Bool) (a : Scene) → IsSound s.defs (holding a [] [] None) → GoesWell s.defs what timed [] (holding a [] [] None) tail
  pub no_end : (cs : List ℕ) → list_any is_end (flat_map (walked_at s ks) cs) ≡ false
  pub movers : (c : ℕ) → (move_of s.defs s.clocks (prepared s) ks c ≡ []) ⊎ ((p : ℕ) × (o : ℕ) × IsMover s ks c p o × (move_of s.defs s.clocks (prepared s) ks c ≡ block s.defs (prepared s c) (runs_parent s.defs c) c p o))

-- what is still to be walked can be moved over a scene
pub record ToWalk (s : State) (ks : List ChainStep) (a : Scene) (cs : List ℕ) : Type 0 where
  pub sound : IsSound s.defs (holding a [] [] None)
  pub there : (x : ℕ) → registered s.clocks x ≡ true → a.there x ≡ true
  pub once : none_twice cs ≡ true
  pub apart : AllApart s ks cs
  pub be : (c p o : ℕ) → is_in c cs ≡ true → IsMover s ks c p o → WillBe s.defs a c p (prepared s c) × (a.up c ≡ Some o)

walk_rest : (s : State) (ks : List ChainStep) (a : Scene) (c : ℕ) (cs : List ℕ) → ToWalk s ks a (c ∷ cs) → ToWalk s ks a cs
walk_rest s ks a c cs to_walk = record {
  sound = to_walk.sound;
  there = to_walk.there;
  once = (once_head c cs to_walk.once).1;
  apart = to_walk.apart.1;
  be = λ d p o m. to_walk.be d p o (is_in_tail d c cs m);
}

-- behind a move the rest can be moved still
walk_moved : (s : State) (ks : List ChainStep) (a : Scene) (c p o : ℕ) (cs : List ℕ) → LinesEnd s.defs → IsMover s ks c p o → ToWalk s ks a (c ∷ cs) → ToWalk s ks (moved_in s.defs a c p) cs
walk_moved s ks a c p o cs lines mover to_walk =
    let own = to_walk.be c p o (is_in_head c cs) mover in
    let is = to_walk.sound.tree.possible in
    record {
      sound = sound_moved s.defs a c p [] [] lines to_walk.sound (own.0).will (λ h m. absurd cc);
      there = to_walk.there;
      once = (once_head c cs to_walk.once).1;
      apart = to_walk.apart.1;
      be = λ d q r m moves.
          let off = to_walk.apart.0 d p o q r m mover moves a.up is in
          let later = to_walk.be d q r (is_in_tail d c cs m) moves in (
            be_written s.defs a c p d q (prepared s d) (still_be s.defs a c p d q (prepared s d) lines is (own.0).will off.0 off.1 later.0),
            put_other c d (Some p) a.up (λ same. off.0 (subst (λ (x : ℕ). Above a.up c x) same (above_here a.up c))) ∙ later.1,
          );
    }

-- a visit leaves the scene
visit_goes : (defs : Description) (what : Sleeping) (timed : Bool) (a : Scene) (c : ℕ) (ms : List Micro) → IsSound defs (holding a [] [] None) → GoesWell defs what timed [] (holding a [] [] None) ms
    → GoesWell defs what timed [] (holding a [] [] None) (micro.Visit (clock_id c) ∷ ms)
visit_goes defs what timed a c ms sound goes = makes (micro.Visit (clock_id c)) refl sound tt (λ d prep. inl prep) (λ d was. uncovered was) goes

-- what is left of a walk doesn't begin with a step that lets go
rest_stays : (s : State) (what : Sleeping) (ks : List ChainStep) (tail : List Micro) (cs : List ℕ) → WalkOver s what ks tail
    → behind_lets (flat_map (walked_at s ks) cs ++ tail) ≡ flat_map (walked_at s ks) cs ++ tail
rest_stays s what ks tail [] over = over.tail_stays
rest_stays s what ks tail (c ∷ cs) over =
    ap behind_lets (append_assoc (walked_at s ks c) (flat_map (walked_at s ks) cs) tail)
    ∙ first_stays
    ∙ sym (append_assoc (walked_at s ks c) (flat_map (walked_at s ks) cs) tail) where
      rest : List Micro
      rest = flat_map (walked_at s ks) cs ++ tail

      by_visit : (o : Option ℕ) → behind_lets (fed_step o (micro.Visit (clock_id c)) ++ rest) ≡ fed_step o (micro.Visit (clock_id c)) ++ rest
      by_visit None = refl
      by_visit (Some x) = refl

      by_block : (prep fed : Bool) (p o : ℕ) (vs : List Micro) → behind_lets ((block s.defs prep fed c p o ++ vs) ++ rest) ≡ (block s.defs prep fed c p o ++ vs) ++ rest
      by_block true fed p o vs = refl
      by_block false true p o vs = refl
      by_block false false p o vs = refl

      first_stays : behind_lets (walked_at s ks c ++ rest) ≡ walked_at s ks c ++ rest
      first_stays = elim (over.movers c) [
        | inl none ↦ subst (λ (ms : List Micro). behind_lets ((ms ++ visit_of s.defs s.clocks ks c) ++ rest) ≡ (ms ++ visit_of s.defs s.clocks ks c) ++ rest) (sym none) (by_visit (runs_for s.defs s.clocks ks c))
        | inr mover ↦ subst (λ (ms : List Micro). behind_lets ((ms ++ visit_of s.defs s.clocks ks c) ++ rest) ≡ (ms ++ visit_of s.defs s.clocks ks c) ++ rest) (sym mover.3)
            (by_block (prepared s c) (runs_parent s.defs c) mover.0 mover.1 (visit_of s.defs s.clocks ks c))
      ]

-- if a raise times out the rest of its group is dropped but for the visit, and the rest goes well
group_cut : (s : State) (what : Sleeping) (ks : List ChainStep) (tail : List Micro) (a : Scene) (c : ℕ) (cs : List ℕ) (pre lets : List Micro) → WalkOver s what ks tail → IsSound s.defs (holding a [] [] None)
    → list_any is_visit pre ≡ false → list_any is_end pre ≡ false → list_all lets_go lets ≡ true → list_any is_end lets ≡ false
    → GoesWell s.defs what true [] (holding a [] [] None) (flat_map (walked_at s ks) cs ++ tail)
    → GoesWell s.defs what true [] (holding a [] [] None) (cut_short what (pre ++ micro.Visit (clock_id c) ∷ (lets ++ (flat_map (walked_at s ks) cs ++ tail))))
group_cut s what ks tail a c cs pre lets over sound no_visit no_end all no_end' rest = by_cut over.cuts where
  ms : List Micro
  ms = flat_map (walked_at s ks) cs ++ tail

  by_cut : CutsAt what → GoesWell s.defs what true [] (holding a [] [] None) (cut_short what (pre ++ micro.Visit (clock_id c) ∷ (lets ++ ms)))
  by_cut (at_visit is) =
      subst (λ (ns : List Micro). GoesWell s.defs what true [] (holding a [] [] None) ns)
      (sym (is (pre ++ micro.Visit (clock_id c) ∷ (lets ++ ms)) ∙ visit_left pre lets ms c no_visit all (rest_stays s what ks tail cs over)))
      (visit_goes s.defs what true a c ms sound rest)
  by_cut (at_end is) =
      subst (λ (ns : List Micro). GoesWell s.defs what true [] (holding a [] [] None) ns)
      (sym (is (pre ++ micro.Visit (clock_id c) ∷ (lets ++ ms))
      ∙ from_first_past is_end pre (micro.Visit (clock_id c) ∷ (lets ++ ms)) no_end
      ∙ from_first_past is_end lets ms no_end'
      ∙ from_first_past is_end (flat_map (walked_at s ks) cs) tail (over.no_end cs) ∙ over.tail_ends))
      (ends sound (record { prepares = refl; enables = refl; late = refl }) tt (over.no_prepare true [] (holding a [] [] None)))

-- so it is if the raise is one of a move
move_cut : (s : State) (what : Sleeping) (ks : List ChainStep) (tail : List Micro) (a : Scene) (c : ℕ) (cs : List ℕ) (pre : List Micro) → WalkOver s what ks tail → IsSound s.defs (holding a [] [] None)
    → list_any is_visit pre ≡ false → list_any is_end pre ≡ false
    → GoesWell s.defs what true [] (holding a [] [] None) (flat_map (walked_at s ks) cs ++ tail)
    → (o : Option ℕ) → GoesWell s.defs what true [] (holding a [] [] None) (cut_short what (pre ++ (fed_step o (micro.Visit (clock_id c)) ++ (flat_map (walked_at s ks) cs ++ tail))))
move_cut s what ks tail a c cs pre over sound no_visit no_end rest None = group_cut s what ks tail a c cs pre [] over sound no_visit no_end refl refl rest
move_cut s what ks tail a c cs pre over sound no_visit no_end rest (Some x) =
    subst (λ (ns : List Micro). GoesWell s.defs what true [] (holding a [] [] None) (cut_short what ns))
    (append_assoc pre (feed x) (micro.Visit (clock_id c) ∷ (unfeed x ++ (flat_map (walked_at s ks) cs ++ tail))))
    (group_cut s what ks tail a c cs (pre ++ feed x) (unfeed x) over sound (none_append is_visit pre (feed x) no_visit refl) (none_append is_end pre (feed x) no_end refl) refl refl rest)

-- the visit of a clock goes well, also if another runs meanwhile
visited_goes : (s : State) (what : Sleeping) (ks : List ChainStep) (tail : List Micro) (timed : Bool) (a : Scene) (c : ℕ) (cs : List ℕ) → WalkOver s what ks tail → ToWalk s ks a cs
    → ((timed' : Bool) → GoesWell s.defs what timed' [] (holding a [] [] None) (flat_map (walked_at s ks) cs ++ tail))
    → (o : Option ℕ) → runs_for s.defs s.clocks ks c ≡ o → GoesWell s.defs what timed [] (holding a [] [] None) (fed_step o (micro.Visit (clock_id c)) ++ (flat_map (walked_at s ks) cs ++ tail))
visited_goes s what ks tail timed a c cs over to_walk goes None at = visit_goes s.defs what timed a c (flat_map (walked_at s ks) cs ++ tail) to_walk.sound (goes timed)
visited_goes s what ks tail timed a c cs over to_walk goes (Some x) at =
    fed_goes s.defs what timed a x (micro.Visit (clock_id c)) (flat_map (walked_at s ks) cs ++ tail) over.ends to_walk.sound (to_walk.there x (over.runs_there c x at))
    (λ b ns sound' goes'. makes (micro.Visit (clock_id c)) refl sound' tt (λ d prep. inl prep) (λ d was. uncovered was) goes')
    (group_cut s what ks tail a c cs (micro.HoldPrepare (clock_id x) ∷ micro.HoldEnable (clock_id x) ∷ []) (unfeed x) over to_walk.sound refl refl refl refl (goes true))
    (goes timed)

-- the moves of a walk go well, one after the other
pub walked_goes : (s : State) (what : Sleeping) (ks : List ChainStep) (tail : List Micro) (cs : List ℕ) (timed : Bool) (a : Scene) → WalkOver s what ks tail → ToWalk s ks a cs
    → GoesWell s.defs what timed [] (holding a [] [] None) (flat_map (walked_at s ks) cs ++ tail)
walked_goes s what ks tail [] timed a over to_walk = over.tail_goes timed a to_walk.sound
walked_goes s what ks tail (c ∷ cs) timed a over to_walk =
    subst (λ (ms : List Micro). GoesWell s.defs what timed [] (holding a [] [] None) ms) (sym (append_assoc (walked_at s ks c) (flat_map (walked_at s ks) cs) tail))
    (by_mover (over.movers c) (λ timed' b to. walked_goes s what ks tail cs timed' b over to)) where
      rest : List Micro
      rest = flat_map (walked_at s ks) cs ++ tail

      runs : Option ℕ
      runs = runs_for s.defs s.clocks ks c

      visit : List Micro
      visit = fed_step runs (micro.Visit (clock_id c)) ++ rest

      moved : (p o : ℕ) → IsMover s ks c p o → (prep fed : Bool) → prepared s c ≡ prep → ((timed' : Bool) (b : Scene) → ToWalk s ks b cs → GoesWell s.defs what timed' [] (holding b [] [] None) rest)
          → GoesWell s.defs what timed [] (holding a [] [] None) ((block s.defs prep fed c p o ++ visit_of s.defs s.clocks ks c) ++ rest)
      moved p o mover true fed prep goes =
          let own = to_walk.be c p o (is_in_head c cs) mover in
          let can : CanMove s.defs a c p = record { ends = over.ends; fits = λ f at. (over.fits c).place f p at mover.possible; sound = to_walk.sound; will = (own.0).will } in
          let to = walk_moved s ks a c p o cs over.ends mover to_walk in
          prepared_move s.defs what timed a c p o visit can own.1 ((own.0).kept ∙ prep)
          (move_cut s what ks tail a c cs (move_behind s.defs c p o []) over to_walk.sound refl refl (goes true a (walk_rest s ks a c cs to_walk)) runs)
          (visited_goes s what ks tail timed (moved_in s.defs a c p) c cs over to (λ timed'. goes timed' (moved_in s.defs a c p) to) runs refl)
      moved p o mover false true idle goes =
          let own = to_walk.be c p o (is_in_head c cs) mover in
          let can : CanMove s.defs a c p = record { ends = over.ends; fits = λ f at. (over.fits c).place f p at mover.possible; sound = to_walk.sound; will = (own.0).will } in
          let to = walk_moved s ks a c p o cs over.ends mover to_walk in
          fed_move s.defs what timed a c p o visit can own.1
          (move_cut s what ks tail a c cs (micro.Raise (clock_id p) ∷ fed_move_behind s.defs c p o []) over to_walk.sound refl refl (goes true a (walk_rest s ks a c cs to_walk)) runs)
          (move_cut s what ks tail a c cs (fed_move_behind s.defs c p o []) over to_walk.sound refl refl (goes true a (walk_rest s ks a c cs to_walk)) runs)
          (visited_goes s what ks tail timed (moved_in s.defs a c p) c cs over to (λ timed'. goes timed' (moved_in s.defs a c p) to) runs refl)
      moved p o mover false false idle goes =
          let own = to_walk.be c p o (is_in_head c cs) mover in
          let can : CanMove s.defs a c p = record { ends = over.ends; fits = λ f at. (over.fits c).place f p at mover.possible; sound = to_walk.sound; will = (own.0).will } in
          let to = walk_moved s ks a c p o cs over.ends mover to_walk in
          bare_move s.defs what timed a c p visit can ((own.0).kept ∙ idle)
          (visited_goes s what ks tail timed (moved_in s.defs a c p) c cs over to (λ timed'. goes timed' (moved_in s.defs a c p) to) runs refl)

      by_mover : (move_of s.defs s.clocks (prepared s) ks c ≡ []) ⊎ ((p : ℕ) × (o : ℕ) × IsMover s ks c p o × (move_of s.defs s.clocks (prepared s) ks c ≡ block s.defs (prepared s c) (runs_parent s.defs c) c p o))
          → ((timed' : Bool) (b : Scene) → ToWalk s ks b cs → GoesWell s.defs what timed' [] (holding b [] [] None) rest)
          → GoesWell s.defs what timed [] (holding a [] [] None) (walked_at s ks c ++ rest)
      by_mover (inl none) goes =
          subst (λ (ms : List Micro). GoesWell s.defs what timed [] (holding a [] [] None) ((ms ++ visit_of s.defs s.clocks ks c) ++ rest)) (sym none)
          (visited_goes s what ks tail timed a c cs over (walk_rest s ks a c cs to_walk) (λ timed'. goes timed' a (walk_rest s ks a c cs to_walk)) runs refl)
      by_mover (inr mover) goes =
          subst (λ (ms : List Micro). GoesWell s.defs what timed [] (holding a [] [] None) ((ms ++ visit_of s.defs s.clocks ks c) ++ rest)) (sym mover.3)
          (moved mover.0 mover.1 mover.2 (prepared s c) (runs_parent s.defs c) refl goes)
