-- Laws on the blocks of a script: each move and each adoption goes well.
use Rattle.std.proofs.Common.{◌≡◌, ℕ, ◌<◌, ◌^◌, Bool, true, false, not, ◌||◌, cond, List, [], ◌∷◌, ◌++◌, Option, Some, None, refl, sym, ap, subst, ◌∙◌, ◌⊎◌, inl, inr, nat_eq}
use Rattle.std.specs.Prelude.{if◌then◌else◌, option_and_then}
use Rattle.std.specs.Option.{option_map_or}
use Rattle.clk_base.specs.declared.call.Micro.{Micro}
use Rattle.clk_base.specs.declared.call.Micro.TheVariants as micro
use Rattle.clk_base.specs.declared.call.Sleeping.{Sleeping}
use Rattle.clk_base.specs.Description.{Description, kind_of, parents_of}
use Rattle.clk_base.specs.Fields.{Field}
use Rattle.clk_base.specs.Levels.{depth}
use Rattle.clk_model.specs.Lists.{is_in, without, without_one}
use Rattle.clk_model.specs.Kinds.{mux_field}
use Rattle.clk_model.specs.Tree.{path_within}
use Rattle.clk_model.specs.Chain.{clock_id, place_of}
use Rattle.clk_model.specs.Step.{passed_over, cut_short}
use Rattle.clk_model.specs.Wired.{LinesEnd}
use Rattle.clk_model.proofs.Members.{is_in_head, is_in_tail, test_same}
use Rattle.clk_model.proofs.BelowLaws.{IsUp, rises_on, no_round}
use Rattle.clk_model.proofs.AboveLaws.{put_at, differs, Above, above_here, above_link, above_path, path_above, not_above_link, Holder, holder_of, held_from, holder_above, MayLink, may_still, above_before, above_still, above_clock, clock_before, above_through, holder_clock, held_before}
use Rattle.clk_model.proofs.Scenes.{Scene, holding, keepers, prepared_in, to_be, IsSound, IsCovered, Grows, GoesWell, uncovered, raises, makes}
use Rattle.clk_model.proofs.SoundLaws.{in_one, in_two, prepare_cases, keeper_prepares, hold_prepares, kept_alone, one_holder, held_by_one, sound_holding, WillMove, linked_in, may_link, late_behind, sound_linked, moved_in, sound_moved, sound_adopted, late_none}
use Rattle.clk_model.proofs.BalanceLaws.{no_holds_pass}

-- ---- holds that are passed over and dropped

passed_one : (p o : ℕ) (u : Option ℕ) → u ≡ Some o → passed_over p u (p ∷ []) ≡ o ∷ []
passed_one p o u at = ap (λ (x : Option ℕ). passed_over p x (p ∷ [])) at ∙ ap (λ (t : Bool). cond t o p ∷ []) (test_same p)

passed_two : (c p o : ℕ) (u : Option ℕ) → (c ≡ p → ⊥) → u ≡ Some o → passed_over p u (c ∷ p ∷ []) ≡ c ∷ o ∷ []
passed_two c p o u other at =
    ap (λ (x : Option ℕ). passed_over p x (c ∷ p ∷ [])) at
    ∙ ap (λ (t : Bool). cond t o c ∷ cond (nat_eq p p) o p ∷ []) (differs c p other) ∙ ap (λ (t : Bool). c ∷ cond t o p ∷ []) (test_same p)

ended_one : (p : ℕ) (u : Option ℕ) → u ≡ None → passed_over p u (p ∷ []) ≡ []
ended_one p u at = ap (λ (x : Option ℕ). passed_over p x (p ∷ [])) at ∙ ap (λ (t : Bool). cond {A = List ℕ} (not t) (p ∷ []) []) (is_in_head p [])

ended_two : (c p : ℕ) (u : Option ℕ) → (p ≡ c → ⊥) → u ≡ None → passed_over p u (c ∷ p ∷ []) ≡ c ∷ []
ended_two c p u other at =
    ap (λ (x : Option ℕ). passed_over p x (c ∷ p ∷ [])) at
    ∙ ap (λ (t : Bool). cond {A = List ℕ} (not t) (c ∷ without (p ∷ []) (p ∷ [])) (without (p ∷ []) (p ∷ []))) (out (differs p c other))
    ∙ ap (λ (t : Bool). c ∷ cond {A = List ℕ} (not t) (p ∷ []) []) (is_in_head p []) where
      out : nat_eq p c ≡ false → is_in c (p ∷ []) ≡ false
      out e = ap (λ (t : Bool). t || false) e

dropped_first : (x : ℕ) (xs : List ℕ) → without_one x (x ∷ xs) ≡ xs
dropped_first x xs = ap (λ (t : Bool). cond t xs (x ∷ without_one x xs)) (test_same x)

-- a script goes well where it does with holds that are the same
goes_with : (defs : Description) (what : Sleeping) (timed : Bool) (a : Scene) (ps ps' es es' : List ℕ) (late late' : Option ℕ) (ms : List Micro) → ps ≡ ps' → es ≡ es' → late ≡ late'
    → GoesWell defs what timed [] (holding a ps' es' late') ms → GoesWell defs what timed [] (holding a ps es late) ms
goes_with defs what timed a ps ps' es es' late late' ms prepares enables lates goes =
    subst (λ (x : List ℕ). GoesWell defs what timed [] (holding a x es late) ms) (sym prepares)
    (subst (λ (x : List ℕ). GoesWell defs what timed [] (holding a ps' x late) ms) (sym enables)
    (subst (λ (x : Option ℕ). GoesWell defs what timed [] (holding a ps' es' x) ms) (sym lates) goes))

only_prepared : {P : Type 0} → P ⊎ ⊥ → P
only_prepared (inl p) = p
only_prepared (inr never) = absurd never

-- ---- what a block is made in

-- a sound scene without holds, and a clock that may get another link there
pub record CanMove (defs : Description) (a : Scene) (c p : ℕ) : Type 0 where
  pub ends : LinesEnd defs
  pub fits : (f : Field) → mux_field (kind_of defs c) ≡ Some f → place_of defs c p < 2 ^ f.width
  pub sound : IsSound defs (holding a [] [] None)
  pub will : WillMove defs a c p

apart_parent : (defs : Description) (a : Scene) (c p : ℕ) → CanMove defs a c p → c ≡ p → ⊥
apart_parent defs a c p can same =
    not_above_link defs a.up c p can.ends can.sound.tree.possible can.will.possible (subst (λ (x : ℕ). Above a.up p x) (sym same) (above_here a.up p))

possible_still : (defs : Description) (a : Scene) (c p : ℕ) → CanMove defs a c p → IsUp (parents_of defs) (put_at c (Some p) a.up)
possible_still defs a c p can = may_still defs a.up c p (may_link defs a c p can.ends can.sound.tree.possible can.will)

-- what is above a prepared clock is prepared
prepared_above : (defs : Description) (a : Scene) (ps es : List ℕ) (late : Option ℕ) (c d : ℕ) → LinesEnd defs → IsUp (parents_of defs) a.up
    → prepared_in defs (holding a ps es late) c ≡ true → Above a.up c d → prepared_in defs (holding a ps es late) d ≡ true
prepared_above defs a ps es late c d ends is prep high =
    held_from defs a.up (keepers defs a ++ ps) d ends is (holder_above a.up (keepers defs a ++ ps) c d (holder_of a.up (keepers defs a ++ ps) c prep) high)

-- a new link prepares nothing, where its parent is prepared if the clock is, and what is held then was prepared
link_prepares : (defs : Description) (a : Scene) (c p : ℕ) (ps es ps' es' : List ℕ) (late : Option ℕ) → CanMove defs a c p
    → (prepared_in defs (holding a ps es None) c ≡ true → prepared_in defs (holding a ps es None) p ≡ true)
    → ((h : ℕ) → is_in h ps' ≡ true → prepared_in defs (holding a ps es None) h ≡ true)
    → (d : ℕ) → prepared_in defs (holding (linked_in a c p) ps' es' late) d ≡ true → prepared_in defs (holding a ps es None) d ≡ true
link_prepares defs a c p ps es ps' es' late can parent each d prep = by_holder (prepare_cases defs (linked_in a c p) ps' es' late d prep) where
  is : IsUp (parents_of defs) a.up
  is = can.sound.tree.possible

  may : MayLink defs a.up c p
  may = may_link defs a c p can.ends is can.will

  through : prepared_in defs (holding a ps es None) c ≡ true → Above a.up p d → prepared_in defs (holding a ps es None) d ≡ true
  through own high = prepared_above defs a ps es None p d can.ends is (parent own) high

  by_hold : (h : ℕ) → prepared_in defs (holding a ps es None) h ≡ true → Above a.up h d ⊎ (Above a.up h c × Above a.up p d) → prepared_in defs (holding a ps es None) d ≡ true
  by_hold h own (inl high) = prepared_above defs a ps es None h d can.ends is own high
  by_hold h own (inr both) = through (prepared_above defs a ps es None h c can.ends is own both.0) both.1

  by_keeper : Holder a.up (keepers defs a) d ⊎ (Holder a.up (keepers defs a) c × Above a.up p d) → prepared_in defs (holding a ps es None) d ≡ true
  by_keeper (inl holder) = keeper_prepares defs a ps es None d can.ends is holder
  by_keeper (inr both) = through (keeper_prepares defs a ps es None c can.ends is both.0) both.1

  by_holder : Holder (put_at c (Some p) a.up) (keepers defs a) d ⊎ Holder (put_at c (Some p) a.up) ps' d → prepared_in defs (holding a ps es None) d ≡ true
  by_holder (inl keeper) = by_keeper (held_before defs a.up c p d (keepers defs a) may keeper)
  by_holder (inr hold) = by_hold hold.0 (each hold.0 hold.1) (above_before defs a.up c p hold.0 d may hold.2)

prepared_with : (defs : Description) (a : Scene) (ps ps' es : List ℕ) (late : Option ℕ) (d : ℕ) → ps ≡ ps' → prepared_in defs (holding a ps es late) d ≡ true → prepared_in defs (holding a ps' es late) d ≡ true
prepared_with defs a ps ps' es late d same prep = subst (λ (x : List ℕ). prepared_in defs (holding a x es late) d ≡ true) same prep

-- ---- what a new link keeps prepared

-- where the clock is prepared by nobody, all else stays prepared
link_keeps_bare : (defs : Description) (a : Scene) (c p d : ℕ) (ps es : List ℕ) (late : Option ℕ) → CanMove defs a c p → prepared_in defs (holding a [] [] None) c ≡ false
    → prepared_in defs (holding a [] [] None) d ≡ true → prepared_in defs (holding (linked_in a c p) ps es late) d ≡ true
link_keeps_bare defs a c p d ps es late can idle prep =
    let keeper = kept_alone defs a [] None d prep in
    elim (above_still a.up c p keeper.0 d keeper.2) [
      | inl there ↦ keeper_prepares defs (linked_in a c p) ps es late d can.ends (possible_still defs a c p can) (keeper.0, keeper.1, there)
      | inr both ↦
          let low = clock_before defs a.up c p keeper.0 (may_link defs a c p can.ends can.sound.tree.possible can.will) both.0 in
          let own = keeper_prepares defs a [] [] None c can.ends can.sound.tree.possible (keeper.0, keeper.1, low) in
          let no : false ≡ true = sym idle ∙ own in
          absurd cc
    ]

-- where the clock is kept, and its new parent is held before and its old one behind, all that was prepared is so still
link_keeps_held : (defs : Description) (a : Scene) (c p d : ℕ) (ps es es' : List ℕ) (late : Option ℕ) → CanMove defs a c p → Holder a.up (keepers defs a) c
    → ((o : ℕ) → a.up c ≡ Some o → is_in o ps ≡ true) → prepared_in defs (holding a (p ∷ []) es None) d ≡ true → prepared_in defs (holding (linked_in a c p) ps es' late) d ≡ true
link_keeps_held defs a c p d ps es es' late can kept olds prep = by_case (prepare_cases defs a (p ∷ []) es None d prep) where
  is : IsUp (parents_of defs) (put_at c (Some p) a.up)
  is = possible_still defs a c p can

  may : MayLink defs a.up c p
  may = may_link defs a c p can.ends can.sound.tree.possible can.will

  -- what is above the old parent is held by it
  old : (o : ℕ) → a.up c ≡ Some o → Above a.up o d → Holder (put_at c (Some p) a.up) ps d
  old o at high = elim (above_still a.up c p o d high) [
    | inl there ↦ (o, olds o at, there)
    | inr both ↦
        let low = clock_before defs a.up c p o may both.0 in
        absurd (no_round (parents_of defs) a.up depth low.0 o can.sound.tree.possible (can.ends o) (rises_on a.up low.0 o c o low.1 at))
  ]

  by_case : Holder a.up (keepers defs a) d ⊎ Holder a.up (p ∷ []) d → prepared_in defs (holding (linked_in a c p) ps es' late) d ≡ true
  by_case (inr hold) =
      keeper_prepares defs (linked_in a c p) ps es' late d can.ends is
      (kept.0, kept.1, above_through defs a.up c p kept.0 d may (above_clock a.up c p kept.0 kept.2) (held_by_one a.up p d hold))
  by_case (inl keeper) = elim (above_still a.up c p keeper.0 d keeper.2) [
    | inl there ↦ keeper_prepares defs (linked_in a c p) ps es' late d can.ends is (keeper.0, keeper.1, there)
    | inr both ↦ hold_prepares defs (linked_in a c p) ps es' late d can.ends is (old both.1.0 both.1.1 both.1.2)
  ]

-- ---- an unprepared clock

unprepared_still : (defs : Description) (a : Scene) (c p : ℕ) (es : List ℕ) (late : Option ℕ) → CanMove defs a c p → prepared_in defs (holding a [] [] None) c ≡ false
    → prepared_in defs (holding (linked_in a c p) [] es late) c ≡ true → ⊥
unprepared_still defs a c p es late can unprepared prep =
    let was = link_prepares defs a c p [] [] [] es late can (λ own. let no : false ≡ true = sym unprepared ∙ own in absurd cc) (λ h m. absurd cc) c prep in
    let no : false ≡ true = sym unprepared ∙ was in
    cc

-- the rest of a script goes well behind the bare move of a clock that isn't prepared
pub bare_move : (defs : Description) (what : Sleeping) (timed : Bool) (a : Scene) (c p : ℕ) (ms : List Micro) → CanMove defs a c p
    → prepared_in defs (holding a [] [] None) c ≡ false → GoesWell defs what timed [] (holding (moved_in defs a c p) [] [] None) ms
    → GoesWell defs what timed [] (holding a [] [] None) (micro.Relink (clock_id c) (clock_id p) ∷ micro.WriteMux (clock_id c) (place_of defs c p) ∷ ms)
bare_move defs what timed a c p ms can unprepared rest =
    let left : List ℕ = passed_over p (a.up c) [] in
    let none : left ≡ [] = no_holds_pass p (a.up c) in
    makes (micro.Relink (clock_id c) (clock_id p)) refl can.sound (can.will.possible, inr (unprepared, refl))
    (λ d prep. inl (link_prepares defs a c p [] [] [] left (late_behind defs a c p) can (λ own. let no : false ≡ true = sym unprepared ∙ own in absurd cc) (λ h m. absurd cc) d
    (prepared_with defs (linked_in a c p) left [] left (late_behind defs a c p) d none prep)))
    (λ d was. inl (link_keeps_bare defs a c p d left left (late_behind defs a c p) can unprepared (only_prepared was)))
    (goes_with defs what timed (linked_in a c p) left [] left [] (late_behind defs a c p) (late_behind defs a c p) (micro.WriteMux (clock_id c) (place_of defs c p) ∷ ms) none none refl
    (makes (micro.WriteMux (clock_id c) (place_of defs c p)) refl
    (sound_linked defs a c p [] [] can.ends can.sound can.will (λ h m. absurd cc) (λ prep. absurd (unprepared_still defs a c p [] None can unprepared prep)))
    can.fits (λ d prep. inl prep) (λ d was. uncovered was) rest))

-- and behind the bare adoption of one
pub bare_adoption : (defs : Description) (what : Sleeping) (timed : Bool) (a : Scene) (c p : ℕ) (ms : List Micro) → CanMove defs a c p → a.sel c ≡ Some p
    → prepared_in defs (holding a [] [] None) c ≡ false → GoesWell defs what timed [] (holding (linked_in a c p) [] [] None) ms
    → GoesWell defs what timed [] (holding a [] [] None) (micro.Relink (clock_id c) (clock_id p) ∷ micro.Settle (clock_id c) ∷ ms)
bare_adoption defs what timed a c p ms can sel unprepared rest =
    let left : List ℕ = passed_over p (a.up c) [] in
    let none : left ≡ [] = no_holds_pass p (a.up c) in
    makes (micro.Relink (clock_id c) (clock_id p)) refl can.sound (can.will.possible, inr (unprepared, refl))
    (λ d prep. inl (link_prepares defs a c p [] [] [] left (late_behind defs a c p) can (λ own. let no : false ≡ true = sym unprepared ∙ own in absurd cc) (λ h m. absurd cc) d
    (prepared_with defs (linked_in a c p) left [] left (late_behind defs a c p) d none prep)))
    (λ d was. inl (link_keeps_bare defs a c p d left left (late_behind defs a c p) can unprepared (only_prepared was)))
    (goes_with defs what timed (linked_in a c p) left [] left [] (late_behind defs a c p) None (micro.Settle (clock_id c) ∷ ms) none none (late_none defs a c p sel)
    (makes (micro.Settle (clock_id c)) refl (sound_adopted defs a c p [] [] can.ends can.sound can.will sel (λ h m. absurd cc)) tt (λ d prep. inl prep) (λ d was. uncovered was) rest))

-- ---- a prepared clock: its new parent is held first

-- what the holds before the new link prepare
record HoldsParent (defs : Description) (a : Scene) (c p : ℕ) : Type 0 where
  first : IsSound defs (holding a (p ∷ []) [] None)
  parent : IsSound defs (holding a (p ∷ []) (p ∷ []) None)
  both : IsSound defs (holding a (p ∷ []) (c ∷ p ∷ []) None)
  grows : Grows defs (p ∷ []) (holding a [] [] None) (holding a (p ∷ []) [] None)
  covers : (d : ℕ) → (prepared_in defs (holding a [] [] None) d ≡ true) ⊎ (is_in d (to_be (holding a [] [] None) p) ≡ true) → prepared_in defs (holding a (p ∷ []) [] None) d ≡ true
  own : (es : List ℕ) → prepared_in defs (holding a (p ∷ []) es None) p ≡ true

holds_parent : (defs : Description) (a : Scene) (c p : ℕ) → CanMove defs a c p → Holder a.up (keepers defs a) c → HoldsParent defs a c p
holds_parent defs a c p can kept = record {
  first = sound_holding defs a (p ∷ []) [] can.sound (λ h m. absurd cc);
  parent = sound_holding defs a (p ∷ []) (p ∷ []) can.sound (λ h m. in_one (λ x. prepared_in defs (holding a (p ∷ []) (p ∷ []) None) x ≡ true) h p m (here (p ∷ [])));
  both = sound_holding defs a (p ∷ []) (c ∷ p ∷ []) can.sound
      (λ h m. in_two (λ x. prepared_in defs (holding a (p ∷ []) (c ∷ p ∷ []) None) x ≡ true) h c p m
      (keeper_prepares defs a (p ∷ []) (c ∷ p ∷ []) None c can.ends can.sound.tree.possible kept) (here (c ∷ p ∷ [])));
  grows = λ d prep. by_holder d (prepare_cases defs a (p ∷ []) [] None d prep);
  covers = covered;
  own = here;
} where
  here : (es : List ℕ) → prepared_in defs (holding a (p ∷ []) es None) p ≡ true
  here es = hold_prepares defs a (p ∷ []) es None p can.ends can.sound.tree.possible (one_holder a.up p p (above_here a.up p))

  covered : (d : ℕ) → (prepared_in defs (holding a [] [] None) d ≡ true) ⊎ (is_in d (to_be (holding a [] [] None) p) ≡ true) → prepared_in defs (holding a (p ∷ []) [] None) d ≡ true
  covered d (inl prep) = keeper_prepares defs a (p ∷ []) [] None d can.ends can.sound.tree.possible (kept_alone defs a [] None d prep)
  covered d (inr m) =
      hold_prepares defs a (p ∷ []) [] None d can.ends can.sound.tree.possible
      (one_holder a.up p d (path_above a.up p d
      (sym (ap (λ (t : Bool). is_in d (if t then path_within a.up depth p else p ∷ option_map_or (path_within a.up depth) (option_and_then (λ x. if a.there x then Some x else None) (a.sel p)) [])) can.will.parent_there)
      ∙ m)))

  by_holder : (d : ℕ) → Holder a.up (keepers defs a) d ⊎ Holder a.up (p ∷ []) d → (prepared_in defs (holding a [] [] None) d ≡ true) ⊎ (is_in d (to_be (holding a [] [] None) p) ≡ true)
  by_holder d (inl keeper) = inl (keeper_prepares defs a [] [] None d can.ends can.sound.tree.possible keeper)
  by_holder d (inr hold) =
      inr (ap (λ (t : Bool). is_in d (if t then path_within a.up depth p else p ∷ option_map_or (path_within a.up depth) (option_and_then (λ x. if a.there x then Some x else None) (a.sel p)) [])) can.will.parent_there
      ∙ above_path defs a.up p d can.ends can.sound.tree.possible (held_by_one a.up p d hold))

-- the new parent is raised and held, and the clock with it; then comes the new link
held_first : (defs : Description) (what : Sleeping) (timed : Bool) (a : Scene) (c p : ℕ) (ps es : List ℕ) (late : Option ℕ) (ms : List Micro) → CanMove defs a c p → Holder a.up (keepers defs a) c
    → passed_over p (a.up c) (p ∷ []) ≡ ps → passed_over p (a.up c) (c ∷ p ∷ []) ≡ es → late_behind defs a c p ≡ late
    → ((h : ℕ) → is_in h ps ≡ true → prepared_in defs (holding a (p ∷ []) (c ∷ p ∷ []) None) h ≡ true) → ((o : ℕ) → a.up c ≡ Some o → is_in o ps ≡ true)
    → GoesWell defs what true [] (holding a [] [] None) (cut_short what (micro.HoldPrepare (clock_id p) ∷ micro.HoldEnable (clock_id p) ∷ micro.HoldEnable (clock_id c) ∷ micro.Relink (clock_id c) (clock_id p) ∷ ms))
    → GoesWell defs what timed [] (holding (linked_in a c p) ps es late) ms
    → GoesWell defs what timed [] (holding a [] [] None)
    (micro.Raise (clock_id p) ∷ micro.HoldPrepare (clock_id p) ∷ micro.HoldEnable (clock_id p) ∷ micro.HoldEnable (clock_id c) ∷ micro.Relink (clock_id c) (clock_id p) ∷ ms)
held_first defs what timed a c p ps es late ms can kept prepares enables lates each olds cut rest =
    let h = holds_parent defs a c p can kept in
    raises (clock_id p) can.sound
    (makes (micro.HoldPrepare (clock_id p)) refl can.sound (refl, can.will.parent_there) h.grows (λ d was. inl (h.covers d was))
    (makes (micro.HoldEnable (clock_id p)) refl h.first tt (λ d prep. inl prep) (λ d was. uncovered was)
    (makes (micro.HoldEnable (clock_id c)) refl h.parent tt (λ d prep. inl prep) (λ d was. uncovered was)
    (makes (micro.Relink (clock_id c) (clock_id p)) refl h.both (can.will.possible, inl (is_in_head c (p ∷ []), is_in_tail p c (p ∷ []) (is_in_head p [])))
    (λ d prep. inl (link_prepares defs a c p (p ∷ []) (c ∷ p ∷ []) ps (passed_over p (a.up c) (c ∷ p ∷ [])) (late_behind defs a c p) can (λ own. h.own (c ∷ p ∷ [])) each d
    (prepared_with defs (linked_in a c p) (passed_over p (a.up c) (p ∷ [])) ps (passed_over p (a.up c) (c ∷ p ∷ [])) (late_behind defs a c p) d prepares prep)))
    (λ d was. inl (link_keeps_held defs a c p d (passed_over p (a.up c) (p ∷ [])) (c ∷ p ∷ []) (passed_over p (a.up c) (c ∷ p ∷ [])) (late_behind defs a c p) can kept (λ o at. ap (is_in o) prepares ∙ olds o at) (only_prepared was)))
    (goes_with defs what timed (linked_in a c p) (passed_over p (a.up c) (p ∷ [])) ps (passed_over p (a.up c) (c ∷ p ∷ [])) es (late_behind defs a c p) late ms prepares enables lates rest)))))
    cut

-- ---- a prepared mux moves

-- the holds behind the new link prepare the clock and its old parent
old_prepared : (defs : Description) (a : Scene) (c p o : ℕ) (es : List ℕ) → CanMove defs a c p → prepared_in defs (holding (linked_in a c p) (o ∷ []) es None) o ≡ true
old_prepared defs a c p o es can =
    hold_prepares defs (linked_in a c p) (o ∷ []) es None o can.ends (possible_still defs a c p can) (one_holder (put_at c (Some p) a.up) o o (above_here (put_at c (Some p) a.up) o))

own_prepared : (defs : Description) (a : Scene) (c p : ℕ) (ps es : List ℕ) → CanMove defs a c p → Holder a.up (keepers defs a) c → prepared_in defs (holding (linked_in a c p) ps es None) c ≡ true
own_prepared defs a c p ps es can kept =
    keeper_prepares defs (linked_in a c p) ps es None c can.ends (possible_still defs a c p can) (holder_clock a.up c p (keepers defs a) kept)

both_prepared : (defs : Description) (a : Scene) (c p o : ℕ) → CanMove defs a c p → Holder a.up (keepers defs a) c
    → (h : ℕ) → is_in h (c ∷ o ∷ []) ≡ true → prepared_in defs (holding (linked_in a c p) (o ∷ []) (c ∷ o ∷ []) None) h ≡ true
both_prepared defs a c p o can kept h m =
    in_two (λ x. prepared_in defs (holding (linked_in a c p) (o ∷ []) (c ∷ o ∷ []) None) x ≡ true) h c o m
    (own_prepared defs a c p (o ∷ []) (c ∷ o ∷ []) can kept) (old_prepared defs a c p o (c ∷ o ∷ []) can)

-- a dropped hold prepares nothing
drop_prepares : (defs : Description) (a : Scene) (ps es es' : List ℕ) (late : Option ℕ) (d : ℕ) → LinesEnd defs → IsUp (parents_of defs) a.up
    → prepared_in defs (holding a [] es late) d ≡ true → prepared_in defs (holding a ps es' late) d ≡ true
drop_prepares defs a ps es es' late d ends is prep = keeper_prepares defs a ps es' late d ends is (kept_alone defs a es late d prep)

-- what a dropped hold prepared is prepared still, or on the path that is lowered next
dropped_stays : (defs : Description) (a : Scene) (o d : ℕ) → LinesEnd defs → IsUp (parents_of defs) a.up → prepared_in defs (holding a (o ∷ []) [] None) d ≡ true
    → (prepared_in defs (holding a (without_one o (o ∷ [])) [] None) d ≡ true) ⊎ (is_in d (path_within a.up depth o) ≡ true)
dropped_stays defs a o d ends is prep =
    elim (prepare_cases defs a (o ∷ []) [] None d prep) [
      | inl keeper ↦ inl (keeper_prepares defs a (without_one o (o ∷ [])) [] None d ends is keeper)
      | inr hold ↦ inr (above_path defs a.up o d ends is (held_by_one a.up o d hold))
    ]

-- behind the write the clock is no longer held, then its old parent
dropped_after : (defs : Description) (what : Sleeping) (timed : Bool) (a : Scene) (c p o : ℕ) (ms : List Micro) → CanMove defs a c p → Holder a.up (keepers defs a) c
    → GoesWell defs what timed [] (holding (moved_in defs a c p) [] [] None) ms
    → GoesWell defs what timed [] (holding (moved_in defs a c p) (o ∷ []) (c ∷ o ∷ []) None)
    (micro.DropEnable (clock_id c) ∷ micro.DropEnable (clock_id o) ∷ micro.DropPrepare (clock_id o) ∷ micro.Lower (clock_id o) ∷ ms)
dropped_after defs what timed a c p o ms can kept rest =
    let b : Scene = moved_in defs a c p in
    let after_both : List Micro = micro.DropEnable (clock_id o) ∷ micro.DropPrepare (clock_id o) ∷ micro.Lower (clock_id o) ∷ ms in
    let after_old : List Micro = micro.DropPrepare (clock_id o) ∷ micro.Lower (clock_id o) ∷ ms in
    makes (micro.DropEnable (clock_id c)) refl (sound_moved defs a c p (o ∷ []) (c ∷ o ∷ []) can.ends can.sound can.will (both_prepared defs a c p o can kept)) tt (λ d prep. inl prep) (λ d was. uncovered was)
    (goes_with defs what timed b (o ∷ []) (o ∷ []) (without_one c (c ∷ o ∷ [])) (o ∷ []) None None after_both refl (dropped_first c (o ∷ [])) refl
    (makes (micro.DropEnable (clock_id o)) refl
    (sound_moved defs a c p (o ∷ []) (o ∷ []) can.ends can.sound can.will
    (λ h m. in_one (λ x. prepared_in defs (holding (linked_in a c p) (o ∷ []) (o ∷ []) None) x ≡ true) h o m (old_prepared defs a c p o (o ∷ []) can)))
    tt (λ d prep. inl prep) (λ d was. uncovered was)
    (goes_with defs what timed b (o ∷ []) (o ∷ []) (without_one o (o ∷ [])) [] None None after_old refl (dropped_first o []) refl
    (makes (micro.DropPrepare (clock_id o)) refl (sound_moved defs a c p (o ∷ []) [] can.ends can.sound can.will (λ h m. absurd cc)) tt
    (λ d prep. inl (drop_prepares defs b (o ∷ []) [] [] None d can.ends (possible_still defs a c p can) (prepared_with defs b (without_one o (o ∷ [])) [] [] None d (dropped_first o []) prep)))
    (λ d was. dropped_stays defs b o d can.ends (possible_still defs a c p can) (only_prepared was))
    (goes_with defs what timed b (without_one o (o ∷ [])) [] [] [] None None (micro.Lower (clock_id o) ∷ ms) (dropped_first o []) refl refl
    (makes (micro.Lower (clock_id o)) refl (sound_moved defs a c p [] [] can.ends can.sound can.will (λ h m. absurd cc)) tt (λ d prep. inl prep) (λ d was. uncovered was) rest))))))

-- the steps of the move of a prepared clock behind its raise
abbrev pub move_behind : Description → ℕ → ℕ → ℕ → List Micro → List Micro
move_behind defs c p o ms =
    micro.HoldPrepare (clock_id p) ∷ micro.HoldEnable (clock_id p) ∷ micro.HoldEnable (clock_id c) ∷ micro.Relink (clock_id c) (clock_id p) ∷ micro.WriteMux (clock_id c) (place_of defs c p)
    ∷ micro.DropEnable (clock_id c) ∷ micro.DropEnable (clock_id o) ∷ micro.DropPrepare (clock_id o) ∷ micro.Lower (clock_id o) ∷ ms

-- the rest of a script goes well behind the move of a prepared clock with a link
pub prepared_move : (defs : Description) (what : Sleeping) (timed : Bool) (a : Scene) (c p o : ℕ) (ms : List Micro) → CanMove defs a c p → a.up c ≡ Some o
    → prepared_in defs (holding a [] [] None) c ≡ true
    → GoesWell defs what true [] (holding a [] [] None) (cut_short what (move_behind defs c p o ms))
    → GoesWell defs what timed [] (holding (moved_in defs a c p) [] [] None) ms
    → GoesWell defs what timed [] (holding a [] [] None) (micro.Raise (clock_id p) ∷ move_behind defs c p o ms)
prepared_move defs what timed a c p o ms can at prep cut rest =
    let kept = kept_alone defs a [] None c prep in
    let is = can.sound.tree.possible in
    held_first defs what timed a c p (o ∷ []) (c ∷ o ∷ []) (late_behind defs a c p)
    (micro.WriteMux (clock_id c) (place_of defs c p) ∷ micro.DropEnable (clock_id c) ∷ micro.DropEnable (clock_id o) ∷ micro.DropPrepare (clock_id o) ∷ micro.Lower (clock_id o) ∷ ms)
    can kept (passed_one p o (a.up c) at) (passed_two c p o (a.up c) (apart_parent defs a c p can) at) refl
    (λ h m. in_one (λ x. prepared_in defs (holding a (p ∷ []) (c ∷ p ∷ []) None) x ≡ true) h o m
    (prepared_above defs a (p ∷ []) (c ∷ p ∷ []) None c o can.ends is (keeper_prepares defs a (p ∷ []) (c ∷ p ∷ []) None c can.ends is kept) (above_link a.up c o o at (above_here a.up o))))
    (λ q is'. let both : Some q ≡ Some o = sym is' ∙ at in let same : q ≡ o = cc in ap (λ (x : ℕ). is_in x (o ∷ [])) same ∙ is_in_head o [])
    cut
    (makes (micro.WriteMux (clock_id c) (place_of defs c p)) refl
    (sound_linked defs a c p (o ∷ []) (c ∷ o ∷ []) can.ends can.sound can.will (both_prepared defs a c p o can kept)
    (λ own. inr (o, at, held_from defs (put_at c (Some p) a.up) (c ∷ o ∷ []) o can.ends (possible_still defs a c p can) (o, is_in_tail o c (o ∷ []) (is_in_head o []), above_here (put_at c (Some p) a.up) o))))
    can.fits (λ d prep'. inl prep') (λ d was. uncovered was) (dropped_after defs what timed a c p o ms can kept rest))

-- ---- a prepared orphan is adopted

-- the steps of the adoption of a prepared clock behind its raise
abbrev pub adoption_behind : ℕ → ℕ → List Micro → List Micro
adoption_behind c p ms =
    micro.HoldPrepare (clock_id p) ∷ micro.HoldEnable (clock_id p) ∷ micro.HoldEnable (clock_id c) ∷ micro.Relink (clock_id c) (clock_id p) ∷ micro.DropEnable (clock_id c) ∷ micro.Settle (clock_id c) ∷ ms

-- the rest of a script goes well behind the adoption of a prepared orphan
pub prepared_adoption : (defs : Description) (what : Sleeping) (timed : Bool) (a : Scene) (c p : ℕ) (ms : List Micro) → CanMove defs a c p → a.up c ≡ None → a.sel c ≡ Some p
    → prepared_in defs (holding a [] [] None) c ≡ true
    → GoesWell defs what true [] (holding a [] [] None) (cut_short what (adoption_behind c p ms))
    → GoesWell defs what timed [] (holding (linked_in a c p) [] [] None) ms
    → GoesWell defs what timed [] (holding a [] [] None) (micro.Raise (clock_id p) ∷ adoption_behind c p ms)
prepared_adoption defs what timed a c p ms can none sel prep cut rest =
    let kept = kept_alone defs a [] None c prep in
    let other : c ≡ p → ⊥ = apart_parent defs a c p can in
    held_first defs what timed a c p [] (c ∷ []) None (micro.DropEnable (clock_id c) ∷ micro.Settle (clock_id c) ∷ ms)
    can kept (ended_one p (a.up c) none) (ended_two c p (a.up c) (λ same. other (sym same)) none) (late_none defs a c p sel) (λ h m. absurd cc) (λ o at. let no : None ≡ Some o = sym none ∙ at in absurd cc) cut
    (makes (micro.DropEnable (clock_id c)) refl
    (sound_adopted defs a c p [] (c ∷ []) can.ends can.sound can.will sel
    (λ h m. in_one (λ x. prepared_in defs (holding (linked_in a c p) [] (c ∷ []) None) x ≡ true) h c m (own_prepared defs a c p [] (c ∷ []) can kept)))
    tt (λ d prep'. inl prep') (λ d was. uncovered was)
    (goes_with defs what timed (linked_in a c p) [] [] (without_one c (c ∷ [])) [] None None (micro.Settle (clock_id c) ∷ ms) refl (dropped_first c []) refl
    (makes (micro.Settle (clock_id c)) refl (sound_adopted defs a c p [] [] can.ends can.sound can.will sel (λ h m. absurd cc)) tt (λ d prep'. inl prep') (λ d was. uncovered was) rest)))

-- ---- a clock that is kept running while another is changed

-- what the holds on one clock prepare
pub record HoldsOne (defs : Description) (a : Scene) (x : ℕ) : Type 0 where
  pub first : IsSound defs (holding a (x ∷ []) [] None)
  pub both : IsSound defs (holding a (x ∷ []) (x ∷ []) None)
  pub grows : Grows defs (x ∷ []) (holding a [] [] None) (holding a (x ∷ []) [] None)
  pub covers : (d : ℕ) → (prepared_in defs (holding a [] [] None) d ≡ true) ⊎ (is_in d (to_be (holding a [] [] None) x) ≡ true) → prepared_in defs (holding a (x ∷ []) [] None) d ≡ true

-- the path that was raised, of a registered clock
there_path : (a : Scene) (x d : ℕ) → a.there x ≡ true → is_in d (to_be a x) ≡ is_in d (path_within a.up depth x)
there_path a x d there =
    ap (λ (t : Bool). is_in d (if t then path_within a.up depth x else x ∷ option_map_or (path_within a.up depth) (option_and_then (λ y. if a.there y then Some y else None) (a.sel x)) [])) there

pub holds_one : (defs : Description) (a : Scene) (x : ℕ) → LinesEnd defs → IsSound defs (holding a [] [] None) → a.there x ≡ true → HoldsOne defs a x
holds_one defs a x lines sound there = record {
  first = sound_holding defs a (x ∷ []) [] sound (λ h m. absurd cc);
  both = sound_holding defs a (x ∷ []) (x ∷ []) sound (λ h m. in_one (λ y. prepared_in defs (holding a (x ∷ []) (x ∷ []) None) y ≡ true) h x m (here (x ∷ [])));
  grows = λ d prep. by_holder d (prepare_cases defs a (x ∷ []) [] None d prep);
  covers = covers_;
} where
  is : IsUp (parents_of defs) a.up
  is = sound.tree.possible

  here : (es : List ℕ) → prepared_in defs (holding a (x ∷ []) es None) x ≡ true
  here es = hold_prepares defs a (x ∷ []) es None x lines is (one_holder a.up x x (above_here a.up x))

  covers_ : (d : ℕ) → (prepared_in defs (holding a [] [] None) d ≡ true) ⊎ (is_in d (to_be (holding a [] [] None) x) ≡ true) → prepared_in defs (holding a (x ∷ []) [] None) d ≡ true
  covers_ d (inl prep) = keeper_prepares defs a (x ∷ []) [] None d lines is (kept_alone defs a [] None d prep)
  covers_ d (inr m) = hold_prepares defs a (x ∷ []) [] None d lines is (one_holder a.up x d (path_above a.up x d (sym (there_path (holding a [] [] None) x d there) ∙ m)))

  by_holder : (d : ℕ) → Holder a.up (keepers defs a) d ⊎ Holder a.up (x ∷ []) d → (prepared_in defs (holding a [] [] None) d ≡ true) ⊎ (is_in d (to_be (holding a [] [] None) x) ≡ true)
  by_holder d (inl keeper) = inl (keeper_prepares defs a [] [] None d lines is keeper)
  by_holder d (inr hold) = inr (there_path (holding a [] [] None) x d there ∙ above_path defs a.up x d lines is (held_by_one a.up x d hold))

-- the steps of a clock's change after the raise of the clock that is kept running for it
abbrev pub fed_behind : ℕ → Micro → List Micro → List Micro
fed_behind x m ms =
    micro.HoldPrepare (clock_id x) ∷ micro.HoldEnable (clock_id x) ∷ m ∷ micro.DropEnable (clock_id x) ∷ micro.DropPrepare (clock_id x) ∷ micro.Lower (clock_id x) ∷ ms

-- the rest of a script goes well after a step that leaves the scene, and is fed
pub fed_goes : (defs : Description) (what : Sleeping) (timed : Bool) (a : Scene) (x : ℕ) (m : Micro) (ms : List Micro) → LinesEnd defs → IsSound defs (holding a [] [] None) → a.there x ≡ true
    → ((b : Scene) (ns : List Micro) → IsSound defs b → GoesWell defs what timed [] b ns → GoesWell defs what timed [] b (m ∷ ns))
    → GoesWell defs what true [] (holding a [] [] None) (cut_short what (fed_behind x m ms))
    → GoesWell defs what timed [] (holding a [] [] None) ms
    → GoesWell defs what timed [] (holding a [] [] None) (micro.Raise (clock_id x) ∷ fed_behind x m ms)
fed_goes defs what timed a x m ms lines sound there past cut rest =
    let h = holds_one defs a x lines sound there in
    let is = sound.tree.possible in
    raises (clock_id x) sound
    (makes (micro.HoldPrepare (clock_id x)) refl sound (refl, there) h.grows (λ d was. inl (h.covers d was))
    (makes (micro.HoldEnable (clock_id x)) refl h.first tt (λ d prep. inl prep) (λ d was. uncovered was)
    (past (holding a (x ∷ []) (x ∷ []) None) (micro.DropEnable (clock_id x) ∷ micro.DropPrepare (clock_id x) ∷ micro.Lower (clock_id x) ∷ ms) h.both
    (makes (micro.DropEnable (clock_id x)) refl h.both tt (λ d prep. inl prep) (λ d was. uncovered was)
    (goes_with defs what timed a (x ∷ []) (x ∷ []) (without_one x (x ∷ [])) [] None None (micro.DropPrepare (clock_id x) ∷ micro.Lower (clock_id x) ∷ ms) refl (dropped_first x []) refl
    (makes (micro.DropPrepare (clock_id x)) refl h.first tt
    (λ d prep. inl (drop_prepares defs a (x ∷ []) [] [] None d lines is (prepared_with defs a (without_one x (x ∷ [])) [] [] None d (dropped_first x []) prep)))
    (λ d was. dropped_stays defs a x d lines is (only_prepared was))
    (goes_with defs what timed a (without_one x (x ∷ [])) [] [] [] None None (micro.Lower (clock_id x) ∷ ms) (dropped_first x []) refl refl
    (makes (micro.Lower (clock_id x)) refl sound tt (λ d prep. inl prep) (λ d was. uncovered was) rest))))))))
    cut

-- ---- an unprepared clock that runs while it moves

passed_both : (c p o : ℕ) (u : Option ℕ) → (c ≡ p → ⊥) → u ≡ Some o → passed_over p u (p ∷ c ∷ []) ≡ o ∷ c ∷ []
passed_both c p o u other at =
    ap (λ (x : Option ℕ). passed_over p x (p ∷ c ∷ [])) at
    ∙ ap (λ (t : Bool). cond t o p ∷ cond (nat_eq c p) o c ∷ []) (test_same p) ∙ ap (λ (t : Bool). cond {A = ℕ} true o p ∷ cond t o c ∷ []) (differs c p other)

-- if the clock and its new parent are held before the new link, and the clock and its old parent after it, all that was prepared
-- is so still
link_keeps_both : (defs : Description) (a : Scene) (c p o d : ℕ) (es es' : List ℕ) (late : Option ℕ) → CanMove defs a c p → a.up c ≡ Some o
    → prepared_in defs (holding a (p ∷ c ∷ []) es None) d ≡ true → prepared_in defs (holding (linked_in a c p) (o ∷ c ∷ []) es' late) d ≡ true
link_keeps_both defs a c p o d es es' late can at prep = by_case (prepare_cases defs a (p ∷ c ∷ []) es None d prep) where
  up' : ℕ → Option ℕ
  up' = put_at c (Some p) a.up

  is : IsUp (parents_of defs) up'
  is = possible_still defs a c p can

  may : MayLink defs a.up c p
  may = may_link defs a c p can.ends can.sound.tree.possible can.will

  held : Holder up' (o ∷ c ∷ []) d → prepared_in defs (holding (linked_in a c p) (o ∷ c ∷ []) es' late) d ≡ true
  held h = hold_prepares defs (linked_in a c p) (o ∷ c ∷ []) es' late d can.ends is h

  by_old : Above a.up o d → prepared_in defs (holding (linked_in a c p) (o ∷ c ∷ []) es' late) d ≡ true
  by_old high = elim (above_still a.up c p o d high) [
    | inl there ↦ held (o, is_in_head o (c ∷ []), there)
    | inr both ↦
        let low = clock_before defs a.up c p o may both.0 in
        absurd (no_round (parents_of defs) a.up depth low.0 o can.sound.tree.possible (can.ends o) (rises_on a.up low.0 o c o low.1 at))
  ]

  -- what was above the clock is above its old parent, or the clock
  by_own : Above a.up c d → prepared_in defs (holding (linked_in a c p) (o ∷ c ∷ []) es' late) d ≡ true
  by_own high = elim (above_still a.up c p c d high) [
    | inl there ↦ held (c, is_in_tail c o (c ∷ []) (is_in_head c []), there)
    | inr both ↦ by_link both.1.0 both.1.1 both.1.2
  ] where
    by_link : (q : ℕ) → a.up c ≡ Some q → Above a.up q d → prepared_in defs (holding (linked_in a c p) (o ∷ c ∷ []) es' late) d ≡ true
    by_link q up high' = let same : Some q ≡ Some o = sym up ∙ at in let equal : q ≡ o = cc in by_old (subst (λ (y : ℕ). Above a.up y d) equal high')

  by_case : Holder a.up (keepers defs a) d ⊎ Holder a.up (p ∷ c ∷ []) d → prepared_in defs (holding (linked_in a c p) (o ∷ c ∷ []) es' late) d ≡ true
  by_case (inl keeper) = elim (above_still a.up c p keeper.0 d keeper.2) [
    | inl there ↦ keeper_prepares defs (linked_in a c p) (o ∷ c ∷ []) es' late d can.ends is (keeper.0, keeper.1, there)
    | inr both ↦ let same : Some both.1.0 ≡ Some o = sym both.1.1 ∙ at in let equal : both.1.0 ≡ o = cc in by_old (subst (λ (y : ℕ). Above a.up y d) equal both.1.2)
  ]
  by_case (inr hold) = in_two (λ h. Above a.up h d → prepared_in defs (holding (linked_in a c p) (o ∷ c ∷ []) es' late) d ≡ true) hold.0 p c hold.1
      (λ high. held (c, is_in_tail c o (c ∷ []) (is_in_head c []), above_through defs a.up c p c d may (above_here up' c) high)) by_own hold.2

-- the steps of the move of an unprepared clock that runs meanwhile, after its raises
abbrev pub fed_move_behind : Description → ℕ → ℕ → ℕ → List Micro → List Micro
fed_move_behind defs c p o ms =
    micro.HoldPrepare (clock_id c) ∷ micro.HoldEnable (clock_id c) ∷ micro.HoldPrepare (clock_id p) ∷ micro.HoldEnable (clock_id p)
    ∷ micro.Relink (clock_id c) (clock_id p) ∷ micro.WriteMux (clock_id c) (place_of defs c p)
    ∷ micro.DropEnable (clock_id o) ∷ micro.DropPrepare (clock_id o) ∷ micro.Lower (clock_id o)
    ∷ micro.DropEnable (clock_id c) ∷ micro.DropPrepare (clock_id c) ∷ micro.Lower (clock_id c) ∷ ms

-- the rest of a script goes well after the move of an unprepared clock that runs meanwhile
pub fed_move : (defs : Description) (what : Sleeping) (timed : Bool) (a : Scene) (c p o : ℕ) (ms : List Micro) → CanMove defs a c p → a.up c ≡ Some o
    → GoesWell defs what true [] (holding a [] [] None) (cut_short what (micro.Raise (clock_id p) ∷ fed_move_behind defs c p o ms))
    → GoesWell defs what true [] (holding a [] [] None) (cut_short what (fed_move_behind defs c p o ms))
    → GoesWell defs what timed [] (holding (moved_in defs a c p) [] [] None) ms
    → GoesWell defs what timed [] (holding a [] [] None) (micro.Raise (clock_id c) ∷ micro.Raise (clock_id p) ∷ fed_move_behind defs c p o ms)
fed_move defs what timed a c p o ms can at cut_first cut_second rest =
    raises (clock_id c) can.sound
    (raises (clock_id p) can.sound
    (makes (micro.HoldPrepare (clock_id c)) refl can.sound (refl, can.will.there) (λ d prep. grows_first d (h.grows d prep)) (λ d was. stays_first d was)
    (makes (micro.HoldEnable (clock_id c)) refl h.first tt (λ d prep. inl prep) (λ d was. stays_on d was)
    (makes (micro.HoldPrepare (clock_id p)) refl h.both (refl, can.will.parent_there) (λ d prep. grows_second d (prepare_cases defs a (p ∷ c ∷ []) (c ∷ []) None d prep)) (λ d was. inl (stays_second d was))
    (makes (micro.HoldEnable (clock_id p)) refl (sound_held (c ∷ []) (λ g m. in_one (λ y. prepared_in defs (holding a (p ∷ c ∷ []) (c ∷ []) None) y ≡ true) g c m (own_held (c ∷ [])))) tt (λ d prep. inl prep) (λ d was. uncovered was)
    (makes (micro.Relink (clock_id c) (clock_id p)) refl
    (sound_held (p ∷ c ∷ []) (λ g m. in_two (λ y. prepared_in defs (holding a (p ∷ c ∷ []) (p ∷ c ∷ []) None) y ≡ true) g p c m (parent_held (p ∷ c ∷ [])) (own_held (p ∷ c ∷ []))))
    (can.will.possible, inl (is_in_tail c p (c ∷ []) (is_in_head c []), is_in_head p (c ∷ [])))
    (λ d prep. inl (link_prepares defs a c p (p ∷ c ∷ []) (p ∷ c ∷ []) (o ∷ c ∷ []) es (late_behind defs a c p) can (λ own. parent_held (p ∷ c ∷ [])) held_before d
    (prepared_with defs (linked_in a c p) es (o ∷ c ∷ []) es (late_behind defs a c p) d holds prep)))
    (λ d was. inl (prepared_with defs (linked_in a c p) (o ∷ c ∷ []) es es (late_behind defs a c p) d (sym holds) (link_keeps_both defs a c p o d (p ∷ c ∷ []) es (late_behind defs a c p) can at (only_prepared was))))
    (goes_with defs what timed (linked_in a c p) es (o ∷ c ∷ []) es (o ∷ c ∷ []) (late_behind defs a c p) (late_behind defs a c p) written holds holds refl
    (makes (micro.WriteMux (clock_id c) (place_of defs c p)) refl
    (sound_linked defs a c p (o ∷ c ∷ []) (o ∷ c ∷ []) can.ends can.sound can.will both_held
    (λ own. inr (o, at, held_from defs (put_at c (Some p) a.up) (o ∷ c ∷ []) o can.ends is' (o, is_in_head o (c ∷ []), above_here (put_at c (Some p) a.up) o))))
    can.fits (λ d prep. inl prep) (λ d was. uncovered was) dropping)))))))
    cut_second)
    cut_first where
      h : HoldsOne defs a c
      h = holds_one defs a c can.ends can.sound can.will.there

      is : IsUp (parents_of defs) a.up
      is = can.sound.tree.possible

      is' : IsUp (parents_of defs) (put_at c (Some p) a.up)
      is' = possible_still defs a c p can

      b : Scene
      b = moved_in defs a c p

      es : List ℕ
      es = passed_over p (a.up c) (p ∷ c ∷ [])

      holds : es ≡ o ∷ c ∷ []
      holds = passed_both c p o (a.up c) (apart_parent defs a c p can) at

      written : List Micro
      written = micro.WriteMux (clock_id c) (place_of defs c p)
          ∷ micro.DropEnable (clock_id o) ∷ micro.DropPrepare (clock_id o) ∷ micro.Lower (clock_id o)
          ∷ micro.DropEnable (clock_id c) ∷ micro.DropPrepare (clock_id c) ∷ micro.Lower (clock_id c) ∷ ms

      grows_first : (d : ℕ) → (prepared_in defs (holding a [] [] None) d ≡ true) ⊎ (is_in d (to_be (holding a [] [] None) c) ≡ true)
          → (prepared_in defs (holding a [] [] None) d ≡ true) ⊎ IsCovered (c ∷ p ∷ []) (holding a [] [] None) d
      grows_first d (inl was) = inl was
      grows_first d (inr own) = inr (inl own)

      stays_first : (d : ℕ) → (prepared_in defs (holding a [] [] None) d ≡ true) ⊎ IsCovered (c ∷ p ∷ []) (holding a [] [] None) d
          → ((prepared_in defs (holding a (c ∷ []) [] None) d ≡ true) ⊎ ⊥) ⊎ (is_in d (to_be (holding a (c ∷ []) [] None) p) ≡ true)
      stays_first d (inl was) = inl (inl (h.covers d (inl was)))
      stays_first d (inr (inl own)) = inl (inl (h.covers d (inr own)))
      stays_first d (inr (inr parent)) = inr parent

      stays_on : (d : ℕ) → (prepared_in defs (holding a (c ∷ []) [] None) d ≡ true) ⊎ (is_in d (to_be (holding a (c ∷ []) [] None) p) ≡ true)
          → ((prepared_in defs (holding a (c ∷ []) (c ∷ []) None) d ≡ true) ⊎ ⊥) ⊎ (is_in d (to_be (holding a (c ∷ []) (c ∷ []) None) p) ≡ true)
      stays_on d (inl was) = inl (inl was)
      stays_on d (inr parent) = inr parent

      own_held : (fs : List ℕ) → prepared_in defs (holding a (p ∷ c ∷ []) fs None) c ≡ true
      own_held fs = hold_prepares defs a (p ∷ c ∷ []) fs None c can.ends is (c, is_in_tail c p (c ∷ []) (is_in_head c []), above_here a.up c)

      parent_held : (fs : List ℕ) → prepared_in defs (holding a (p ∷ c ∷ []) fs None) p ≡ true
      parent_held fs = hold_prepares defs a (p ∷ c ∷ []) fs None p can.ends is (p, is_in_head p (c ∷ []), above_here a.up p)

      sound_held : (fs : List ℕ) → ((g : ℕ) → is_in g fs ≡ true → prepared_in defs (holding a (p ∷ c ∷ []) fs None) g ≡ true) → IsSound defs (holding a (p ∷ c ∷ []) fs None)
      sound_held fs each = sound_holding defs a (p ∷ c ∷ []) fs can.sound each

      by_two : (d : ℕ) → Holder a.up (p ∷ c ∷ []) d → Above a.up p d ⊎ Above a.up c d
      by_two d hold = in_two (λ g. Above a.up g d → Above a.up p d ⊎ Above a.up c d) hold.0 p c hold.1 (λ high. inl high) (λ high. inr high) hold.2

      grows_second : (d : ℕ) → Holder a.up (keepers defs a) d ⊎ Holder a.up (p ∷ c ∷ []) d
          → (prepared_in defs (holding a (c ∷ []) (c ∷ []) None) d ≡ true) ⊎ (is_in d (to_be (holding a (c ∷ []) (c ∷ []) None) p) ≡ true)
      grows_second d (inl keeper) = inl (keeper_prepares defs a (c ∷ []) (c ∷ []) None d can.ends is keeper)
      grows_second d (inr hold) = elim (by_two d hold) [
        | inl high ↦ inr (there_path (holding a (c ∷ []) (c ∷ []) None) p d can.will.parent_there ∙ above_path defs a.up p d can.ends is high)
        | inr high ↦ inl (hold_prepares defs a (c ∷ []) (c ∷ []) None d can.ends is (one_holder a.up c d high))
      ]

      stays_second : (d : ℕ) → (prepared_in defs (holding a (c ∷ []) (c ∷ []) None) d ≡ true) ⊎ (is_in d (to_be (holding a (c ∷ []) (c ∷ []) None) p) ≡ true)
          → prepared_in defs (holding a (p ∷ c ∷ []) (c ∷ []) None) d ≡ true
      stays_second d (inl was) = elim (prepare_cases defs a (c ∷ []) (c ∷ []) None d was) [
        | inl keeper ↦ keeper_prepares defs a (p ∷ c ∷ []) (c ∷ []) None d can.ends is keeper
        | inr hold ↦ hold_prepares defs a (p ∷ c ∷ []) (c ∷ []) None d can.ends is (c, is_in_tail c p (c ∷ []) (is_in_head c []), held_by_one a.up c d hold)
      ]
      stays_second d (inr parent) =
          hold_prepares defs a (p ∷ c ∷ []) (c ∷ []) None d can.ends is
          (p, is_in_head p (c ∷ []), path_above a.up p d (sym (there_path (holding a (c ∷ []) (c ∷ []) None) p d can.will.parent_there) ∙ parent))

      -- what is held after the new link was prepared before it
      held_before : (g : ℕ) → is_in g (o ∷ c ∷ []) ≡ true → prepared_in defs (holding a (p ∷ c ∷ []) (p ∷ c ∷ []) None) g ≡ true
      held_before g m = in_two (λ y. prepared_in defs (holding a (p ∷ c ∷ []) (p ∷ c ∷ []) None) y ≡ true) g o c m
          (prepared_above defs a (p ∷ c ∷ []) (p ∷ c ∷ []) None c o can.ends is (own_held (p ∷ c ∷ [])) (above_link a.up c o o at (above_here a.up o))) (own_held (p ∷ c ∷ []))

      -- and is prepared after it
      new_held : (ps fs : List ℕ) (g : ℕ) → is_in g ps ≡ true → prepared_in defs (holding (linked_in a c p) ps fs None) g ≡ true
      new_held ps fs g m = hold_prepares defs (linked_in a c p) ps fs None g can.ends is' (g, m, above_here (put_at c (Some p) a.up) g)

      both_held : (g : ℕ) → is_in g (o ∷ c ∷ []) ≡ true → prepared_in defs (holding (linked_in a c p) (o ∷ c ∷ []) (o ∷ c ∷ []) None) g ≡ true
      both_held g m = new_held (o ∷ c ∷ []) (o ∷ c ∷ []) g m

      -- fewer holds prepare no more
      fewer : (ps ps' fs fs' : List ℕ) (d : ℕ) → ((g : ℕ) → is_in g ps' ≡ true → is_in g ps ≡ true) → prepared_in defs (holding b ps' fs' None) d ≡ true → prepared_in defs (holding b ps fs None) d ≡ true
      fewer ps ps' fs fs' d less prep = elim (prepare_cases defs b ps' fs' None d prep) [
        | inl keeper ↦ keeper_prepares defs b ps fs None d can.ends is' keeper
        | inr hold ↦ hold_prepares defs b ps fs None d can.ends is' (hold.0, less hold.0 hold.1, hold.2)
      ]

      -- what the old parent's hold prepared is prepared still, or on its path
      old_dropped : (d : ℕ) → prepared_in defs (holding b (o ∷ c ∷ []) (c ∷ []) None) d ≡ true
          → (prepared_in defs (holding b (without_one o (o ∷ c ∷ [])) (c ∷ []) None) d ≡ true) ⊎ (is_in d (path_within b.up depth o) ≡ true)
      old_dropped d prep = elim (prepare_cases defs b (o ∷ c ∷ []) (c ∷ []) None d prep) [
        | inl keeper ↦ inl (keeper_prepares defs b (without_one o (o ∷ c ∷ [])) (c ∷ []) None d can.ends is' keeper)
        | inr hold ↦ in_two (λ g. Above b.up g d → (prepared_in defs (holding b (without_one o (o ∷ c ∷ [])) (c ∷ []) None) d ≡ true) ⊎ (is_in d (path_within b.up depth o) ≡ true)) hold.0 o c hold.1
            (λ high. inr (above_path defs b.up o d can.ends is' high))
            (λ high. inl (prepared_with defs b (c ∷ []) (without_one o (o ∷ c ∷ [])) (c ∷ []) None d (sym (dropped_first o (c ∷ []))) (hold_prepares defs b (c ∷ []) (c ∷ []) None d can.ends is' (one_holder b.up c d high)))) hold.2
      ]

      sound_after : (ps fs : List ℕ) → ((g : ℕ) → is_in g fs ≡ true → is_in g ps ≡ true) → IsSound defs (holding b ps fs None)
      sound_after ps fs less = sound_moved defs a c p ps fs can.ends can.sound can.will (λ g m. new_held ps fs g (less g m))

      dropping : GoesWell defs what timed [] (holding b (o ∷ c ∷ []) (o ∷ c ∷ []) None)
          (micro.DropEnable (clock_id o) ∷ micro.DropPrepare (clock_id o) ∷ micro.Lower (clock_id o) ∷ micro.DropEnable (clock_id c) ∷ micro.DropPrepare (clock_id c) ∷ micro.Lower (clock_id c) ∷ ms)
      dropping =
          let own : List Micro = micro.DropEnable (clock_id c) ∷ micro.DropPrepare (clock_id c) ∷ micro.Lower (clock_id c) ∷ ms in
          makes (micro.DropEnable (clock_id o)) refl (sound_after (o ∷ c ∷ []) (o ∷ c ∷ []) (λ g m. m)) tt (λ d prep. inl prep) (λ d was. uncovered was)
          (goes_with defs what timed b (o ∷ c ∷ []) (o ∷ c ∷ []) (without_one o (o ∷ c ∷ [])) (c ∷ []) None None (micro.DropPrepare (clock_id o) ∷ micro.Lower (clock_id o) ∷ own) refl (dropped_first o (c ∷ [])) refl
          (makes (micro.DropPrepare (clock_id o)) refl (sound_after (o ∷ c ∷ []) (c ∷ []) (λ g m. is_in_tail g o (c ∷ []) m)) tt
          (λ d prep. inl (fewer (o ∷ c ∷ []) (without_one o (o ∷ c ∷ [])) (c ∷ []) (c ∷ []) d (λ g m. is_in_tail g o (c ∷ []) (sym (ap (is_in g) (dropped_first o (c ∷ []))) ∙ m)) prep))
          (λ d was. old_dropped d (only_prepared was))
          (goes_with defs what timed b (without_one o (o ∷ c ∷ [])) (c ∷ []) (c ∷ []) (c ∷ []) None None (micro.Lower (clock_id o) ∷ own) (dropped_first o (c ∷ [])) refl refl
          (makes (micro.Lower (clock_id o)) refl (sound_after (c ∷ []) (c ∷ []) (λ g m. m)) tt (λ d prep. inl prep) (λ d was. uncovered was)
          (makes (micro.DropEnable (clock_id c)) refl (sound_after (c ∷ []) (c ∷ []) (λ g m. m)) tt (λ d prep. inl prep) (λ d was. uncovered was)
          (goes_with defs what timed b (c ∷ []) (c ∷ []) (without_one c (c ∷ [])) [] None None (micro.DropPrepare (clock_id c) ∷ micro.Lower (clock_id c) ∷ ms) refl (dropped_first c []) refl
          (makes (micro.DropPrepare (clock_id c)) refl (sound_after (c ∷ []) [] (λ g m. absurd cc)) tt
          (λ d prep. inl (fewer (c ∷ []) (without_one c (c ∷ [])) [] [] d (λ g m. let no : false ≡ true = sym (ap (is_in g) (dropped_first c [])) ∙ m in absurd cc) prep))
          (λ d was. dropped_stays defs b c d can.ends is' (only_prepared was))
          (goes_with defs what timed b (without_one c (c ∷ [])) [] [] [] None None (micro.Lower (clock_id c) ∷ ms) (dropped_first c []) refl refl
          (makes (micro.Lower (clock_id c)) refl (sound_after [] [] (λ g m. absurd cc)) tt (λ d prep. inl prep) (λ d was. uncovered was) rest)))))))))
