-- A new link moves no gate: its clock and the new parent are held, or its clock isn't prepared and nothing is held.
use Rattle.std.proofs.Common.{◌≡◌, ℕ, ◌<◌, ◌&&◌, ◌||◌, ◌⊎◌, inl, inr, Bool, cond, not, nat_eq, true, false, List, [], ◌∷◌, ◌++◌, Option, Some, None, refl, sym, ap, subst, ◌∙◌, length}
use Rattle.std.specs.Prelude.{filter}
use Rattle.std.proofs.Math.Path.{fun_ext}
use Rattle.clk_base.specs.Flags.{is_critical}
use Rattle.std.specs.List.{list_any}
use Rattle.clk_base.specs.declared.call.Micro.{Micro}
use Rattle.clk_base.specs.declared.call.Micro.TheVariants as micro
use Rattle.clk_base.specs.declared.clock.ClockId.{ClockId}
use Rattle.clk_base.specs.Description.{Description, parents_of}
use Rattle.clk_base.specs.Levels.{depth}
use Rattle.clk_model.specs.Chain.{linked}
use Rattle.clk_model.specs.Holders.{active, prepared, clocks_of, critical_clocks, enable_holders, is_enabled}
use Rattle.clk_model.specs.Lists.{is_in, to_front, count_from}
use Rattle.clk_model.specs.State.{State, Change, link_in}
use Rattle.clk_model.specs.Step.{passed_over, settle, settle_all}
use Rattle.clk_model.specs.Tree.{children, path}
use Rattle.clk_model.specs.Walk.{below_within}
use Rattle.clk_model.specs.declared.row.ClockRow.{ClockRow}
use Rattle.clk_model.proofs.HoldSteps.{settled_links}
use Rattle.clk_model.proofs.AboveLaws.{held_up, put_at, put_same, put_other, differs, Above, above_here, above_link, above_before, above_still, above_parent_still, clock_before, not_above_link, Holder, holder_of, held_from, MayLink, may_still}
use Rattle.clk_model.proofs.BelowLaws.{no_round, rises_on}
use Rattle.clk_model.proofs.OnceLaws.{is_in-append, in_append, is_in-filter, filter_keeps}
use Rattle.clk_base.proofs.Valid.{lines_end}
use Rattle.clk_model.proofs.ArriveLaws.{IsFit, supplies_of, fit_of, prepared_told}
use Rattle.clk_model.proofs.BeginSafeLaws.{resting}
use Rattle.clk_model.proofs.FlightSafeLaws.{FirstGoes, first_raises, first_makes, first_ends, first_goes, goes_sound}
use Rattle.clk_model.proofs.Members.{none_in, is_in_head, is_in_tail, is_in_cases, or_left, or_right, test_same}
use Rattle.clk_model.proofs.PathLaws.{path_agree}
use Rattle.clk_model.proofs.ProbeGoLaws.{Resting}
use Rattle.clk_model.proofs.RunsFedLaws as fed
use Rattle.clk_model.proofs.SafeRunLaws as runs
use Rattle.clk_model.proofs.Scenes.{scene, IsHeldToMove, GoesWell, InCall, calm, covered, raising}
use Rattle.clk_model.proofs.Scenes as scenes
use Rattle.clk_model.proofs.WholePathLaws.{same_or_not, linked_same, linked_other}
use Rattle.clk_model.proofs.SceneStepLaws.{settled_there}
use Rattle.clk_machine.specs.Sound.{IsReached, IsLike}
use Rattle.clk_machine.proofs.Likeness.{defs_like, links_like, scene_like, fit_like}
use Rattle.clk_machine.proofs.Relinked.{linked_there}

-- ---- a call in flight in a state of a run

run_of : (words : ℕ) (s : State) (is : IsReached words s) → runs.IsRun s
run_of words s is = subst (λ (t : State). runs.IsRun t) (sym is.leads) (fed.run_of is.defs is.regs is.ignore_unused is.credits is.journal is.valid)

in_call : (words : ℕ) (s : State) (k : Change) → IsReached words s → s.change ≡ Some k → InCall s k
in_call words s k is at = by (run_of words s is).running_ where
  by : runs.IsRunning s → InCall s k
  by (runs.quietly quiet rest) = let no : None ≡ Some k = sym quiet ∙ at in absurd cc
  by (runs.in_flight goes) =
      let same : Some goes.change ≡ Some k = sym goes.at ∙ at in
      let one : goes.change ≡ k = cc in
      subst (λ (l : Change). InCall s l) one goes.in_call

-- ---- a state at rest

resting_reached : (words : ℕ) (s : State) → IsReached words s → s.change ≡ None → Resting s
resting_reached words s is quiet = by (run_of words s is).running_ where
  by : runs.IsRunning s → Resting s
  by (runs.quietly still rest) = resting s rest (run_of words s is).keeps
  by (runs.in_flight goes) = let no : None ≡ Some goes.change = sym quiet ∙ goes.at in absurd cc

-- a state that is like one of a run rests while no call is in flight
pub resting_like : (words : ℕ) (s : State) → IsLike words s → s.change ≡ None → Resting s
resting_like words s like quiet =
    let rest = resting_reached words like.other like.reached (sym like.change ∙ quiet) in
    let same = scene_like words s None like in
    record {
      fit = fit_like words s None like rest.fit;
      prepares = ap (λ (a : scenes.Scene). a.prepare_holds) same ∙ rest.prepares;
      enables = ap (λ (a : scenes.Scene). a.enable_holds) same ∙ rest.enables;
      keeps = links_like words s like;
    }

-- ---- what stands before a new link

-- a new link leads to a possible parent, and its clock is held for it
record Links (s : State) (late : Option ℕ) (c p : ClockId) : Type 0 where
  sound : scenes.IsSound s.defs (scene late s)
  possible : is_in p.0 (parents_of s.defs c.0) ≡ true
  held : IsHeldToMove s.defs (scene late s) c.0 p.0

links_well_in : (s : State) (what : _) (timed : Bool) (late : Option ℕ) (c p : ClockId) (ms left : List Micro) → GoesWell s.defs what timed [] (scene late s) left → left ≡ micro.Relink c p ∷ ms → Links s late c p
links_well_in s what timed late c p ms left goes at = by (first_goes s.defs what (micro.Relink c p) ms goes at) where
  by : FirstGoes s.defs what timed [] (scene late s) (micro.Relink c p) ms → Links s late c p
  by (first_raises x is rest cut) = absurd cc
  by (first_ends is free alone prep) = absurd cc
  by (first_makes plain serves grows stays rest) = record { sound = goes_sound s.defs what goes; possible = serves.0; held = serves.1 }

-- no new link comes while a raise isn't held for yet
never_covered : (s : State) (what : _) (timed : Bool) (x : ℕ) (xs : List ℕ) (late : Option ℕ) (c p : ClockId) (ms left : List Micro) → GoesWell s.defs what timed (x ∷ xs) (scene late s) left
    → left ≡ micro.Relink c p ∷ ms → Links s late c p
never_covered s what timed x xs late c p ms left goes at = by (first_goes s.defs what (micro.Relink c p) ms goes at) where
  by : FirstGoes s.defs what timed (x ∷ xs) (scene late s) (micro.Relink c p) ms → Links s late c p
  by (first_raises y is rest cut) = absurd cc
  by (first_ends is free alone prep) = absurd cc
  by (first_makes plain serves grows stays rest) = absurd serves

links_over : (s : State) (what : _) (timed : Bool) (cover : List ℕ) (late : Option ℕ) (c p : ClockId) (ms left : List Micro) → GoesWell s.defs what timed cover (scene late s) left
    → left ≡ micro.Relink c p ∷ ms → Links s late c p
links_over s what timed [] late c p ms left goes at = links_well_in s what timed late c p ms left goes at
links_over s what timed (x ∷ xs) late c p ms left goes at = never_covered s what timed x xs late c p ms left goes at

links_in : (s : State) (k : Change) (c p : ClockId) (ms : List Micro) → (is : InCall s k) → k.left ≡ micro.Relink c p ∷ ms → Links s is.late c p
links_in s k c p ms is at = by is.stands where
  by : scenes.Stands s k is.late → Links s is.late c p
  by (calm rest front still idle goes) = links_over s k.call k.timed_out [] is.late c p ms k.left goes at
  by (covered xs front well all goes) = links_over s k.call k.timed_out xs is.late c p ms k.left goes at
  by (raising done x well all front goes cut) = links_over s k.call k.timed_out (done ++ x ∷ []) is.late c p ms k.left goes at

-- the same scene has such a link too
links_too : (s t : State) (late : Option ℕ) (c p : ClockId) → t.defs ≡ s.defs → scene late t ≡ scene late s → Links s late c p → Links t late c p
links_too s t late c p defs same links = record {
  sound =
      subst (λ (ds : Description). scenes.IsSound ds (scene late t)) (sym defs)
      (subst (λ (a : scenes.Scene). scenes.IsSound s.defs a) (sym same) links.sound);
  possible = subst (λ (ds : Description). is_in p.0 (parents_of ds c.0) ≡ true) (sym defs) links.possible;
  held =
      subst (λ (ds : Description). IsHeldToMove ds (scene late t) c.0 p.0) (sym defs)
      (subst (λ (a : scenes.Scene). IsHeldToMove s.defs a c.0 p.0) (sym same) links.held);
}

-- ---- holds that are passed over

pub passed_none : (p : ℕ) (o : Option ℕ) (holds : List ℕ) → holds ≡ [] → passed_over p o holds ≡ []
passed_none p None holds none = ap (λ (hs : List ℕ). passed_over p None hs) none
passed_none p (Some q) holds none = ap (λ (hs : List ℕ). passed_over p (Some q) hs) none

-- a hold behind a new link was one, or is on the old link
passed_from : (p h : ℕ) (o : Option ℕ) (holds : List ℕ) → is_in h (passed_over p o holds) ≡ true → (is_in h holds ≡ true) ⊎ (o ≡ Some h)
passed_from p h None holds m = inl (is_in-filter (λ x. not (is_in x (p ∷ []))) h holds m)
passed_from p h (Some q) [] m = absurd cc
passed_from p h (Some q) (x ∷ xs) m = by (is_in_cases h (cond (nat_eq x p) q x) (passed_over p (Some q) xs) m) (passed_from p h (Some q) xs) where
  first : (t : Bool) → cond t q x ≡ h → (is_in h (x ∷ xs) ≡ true) ⊎ (Some q ≡ Some h)
  first true is = inr (ap (λ (n : ℕ). Some n) is)
  first false is = inl (ap (λ (n : ℕ). is_in n (x ∷ xs)) (sym is) ∙ is_in_head x xs)

  by : (cond (nat_eq x p) q x ≡ h) ⊎ (is_in h (passed_over p (Some q) xs) ≡ true) → (is_in h (passed_over p (Some q) xs) ≡ true → (is_in h xs ≡ true) ⊎ (Some q ≡ Some h))
      → (is_in h (x ∷ xs) ≡ true) ⊎ (Some q ≡ Some h)
  by (inl is) more = first (nat_eq x p) is
  by (inr later) more = elim (more later) [
    | inl there ↦ inl (is_in_tail h x xs there)
    | inr is ↦ inr is
  ]

-- one on another clock than the new parent stays
passed_other : (p h : ℕ) (o : Option ℕ) (holds : List ℕ) → (h ≡ p → ⊥) → is_in h holds ≡ true → is_in h (passed_over p o holds) ≡ true
passed_other p h None holds other m =
    filter_keeps (λ x. not (is_in x (p ∷ []))) h holds (ap (λ (t : Bool). not (t || false)) (differs p h (λ same. other (sym same)))) m
passed_other p h (Some q) [] other m = m
passed_other p h (Some q) (x ∷ xs) other m = elim (is_in_cases h x xs m) [
  | inl is ↦
      ap (λ (t : Bool). is_in h (cond t q x ∷ passed_over p (Some q) xs)) (differs x p (λ same. other (sym is ∙ same)))
      ∙ ap (λ (n : ℕ). is_in h (n ∷ passed_over p (Some q) xs)) is ∙ is_in_head h (passed_over p (Some q) xs)
  | inr later ↦ is_in_tail h (cond (nat_eq x p) q x) (passed_over p (Some q) xs) (passed_other p h (Some q) xs other later)
]

-- one on the new parent comes to the old link
passed_to : (p q : ℕ) (holds : List ℕ) → is_in p holds ≡ true → is_in q (passed_over p (Some q) holds) ≡ true
passed_to p q [] m = absurd cc
passed_to p q (x ∷ xs) m = elim (is_in_cases p x xs m) [
  | inl is ↦
      ap (λ (t : Bool). is_in q (cond t q x ∷ passed_over p (Some q) xs)) (ap (λ (n : ℕ). nat_eq n p) is ∙ test_same p) ∙ is_in_head q (passed_over p (Some q) xs)
  | inr later ↦ is_in_tail q (cond (nat_eq x p) q x) (passed_over p (Some q) xs) (passed_to p q xs later)
]

-- ---- what is held over a new link, where its clock and the new parent are held

module _ (defs : Description) (up : ℕ → Option ℕ) (c p : ℕ) (keepers holds : List ℕ) (may : MayLink defs up c p) (own : is_in c holds ≡ true) (parent : is_in p holds ≡ true) where
  apart : c ≡ p → ⊥
  apart same = not_above_link defs up c p may.ends may.is may.parent (subst (λ (x : ℕ). Above up p x) (sym same) (above_here up p))

  kept_in : (h : ℕ) (hs : List ℕ) → is_in h keepers ≡ true → is_in h (keepers ++ hs) ≡ true
  kept_in h hs m = is_in-append h keepers hs ∙ or_left (is_in h keepers) (is_in h hs) m

  held_in : (h : ℕ) (hs : List ℕ) → is_in h hs ≡ true → is_in h (keepers ++ hs) ≡ true
  held_in h hs m = is_in-append h keepers hs ∙ or_right (is_in h keepers) (is_in h hs) m

  -- what is above the old link is held by it
  old_holds : (o d : ℕ) → up c ≡ Some o → Above up o d → Holder (put_at c (Some p) up) (keepers ++ passed_over p (up c) holds) d
  old_holds o d at high = (
    o,
    held_in o (passed_over p (up c) holds) (subst (λ (u : Option ℕ). is_in o (passed_over p u holds) ≡ true) (sym at) (passed_to p o holds parent)),
    elim (above_still up c p o d high) [
      | inl there ↦ there
      | inr both ↦
          let low = clock_before defs up c p o may both.0 in
          absurd (no_round (parents_of defs) up depth low.0 o may.is (may.ends o) (rises_on up low.0 o c o low.1 at))
    ],
  )

  stays_held : (h d : ℕ) → is_in h (keepers ++ passed_over p (up c) holds) ≡ true → Above up h d → Holder (put_at c (Some p) up) (keepers ++ passed_over p (up c) holds) d
  stays_held h d m high = elim (above_still up c p h d high) [
    | inl there ↦ (h, m, there)
    | inr both ↦ old_holds both.1.0 d both.1.1 both.1.2
  ]

  held_behind : (d : ℕ) → Holder up (keepers ++ holds) d → Holder (put_at c (Some p) up) (keepers ++ passed_over p (up c) holds) d
  held_behind d holder = by (in_append holder.0 keepers holds holder.1) where
    one : (holder.0 ≡ p) ⊎ (holder.0 ≡ p → ⊥) → is_in holder.0 holds ≡ true → Holder (put_at c (Some p) up) (keepers ++ passed_over p (up c) holds) d
    one (inl same) m = (
      c,
      held_in c (passed_over p (up c) holds) (passed_other p c (up c) holds apart own),
      above_link (put_at c (Some p) up) c p d (put_same c c (Some p) up refl) (above_parent_still defs up c p d may (subst (λ (x : ℕ). Above up x d) same holder.2)),
    )
    one (inr other) m = stays_held holder.0 d (held_in holder.0 (passed_over p (up c) holds) (passed_other p holder.0 (up c) holds other m)) holder.2

    by : (is_in holder.0 keepers ≡ true) ⊎ (is_in holder.0 holds ≡ true) → Holder (put_at c (Some p) up) (keepers ++ passed_over p (up c) holds) d
    by (inl keeps) = stays_held holder.0 d (kept_in holder.0 (passed_over p (up c) holds) keeps) holder.2
    by (inr held) = one (same_or_not holder.0 p) held

  was_held : (h d : ℕ) → is_in h (keepers ++ holds) ≡ true → Above (put_at c (Some p) up) h d → Holder up (keepers ++ holds) d
  was_held h d m high = elim (above_before defs up c p h d may high) [
    | inl there ↦ (h, m, there)
    | inr both ↦ (p, held_in p holds parent, both.1)
  ]

  held_ahead : (d : ℕ) → Holder (put_at c (Some p) up) (keepers ++ passed_over p (up c) holds) d → Holder up (keepers ++ holds) d
  held_ahead d holder = by (in_append holder.0 keepers (passed_over p (up c) holds) holder.1) where
    from_old : up c ≡ Some holder.0 → Holder up (keepers ++ holds) d
    from_old at = elim (above_before defs up c p holder.0 d may holder.2) [
      | inl there ↦ (c, held_in c holds own, above_link up c holder.0 d at there)
      | inr both ↦ (p, held_in p holds parent, both.1)
    ]

    by : (is_in holder.0 keepers ≡ true) ⊎ (is_in holder.0 (passed_over p (up c) holds) ≡ true) → Holder up (keepers ++ holds) d
    by (inl keeps) = was_held holder.0 d (kept_in holder.0 holds keeps) holder.2
    by (inr held) = elim (passed_from p holder.0 (up c) holds held) [
      | inl was ↦ was_held holder.0 d (held_in holder.0 holds was) holder.2
      | inr at ↦ from_old at
    ]

  both_ways : (a b : Bool) → (a ≡ true → b ≡ true) → (b ≡ true → a ≡ true) → a ≡ b
  both_ways true true f g = refl
  both_ways false false f g = refl
  both_ways true false f g = sym (f refl)
  both_ways false true f g = g refl

  held_alike : (d : ℕ) → held_up up (keepers ++ holds) d ≡ held_up (put_at c (Some p) up) (keepers ++ passed_over p (up c) holds) d
  held_alike d = both_ways (held_up up (keepers ++ holds) d) (held_up (put_at c (Some p) up) (keepers ++ passed_over p (up c) holds) d)
      (λ held. held_from defs (put_at c (Some p) up) (keepers ++ passed_over p (up c) holds) d may.ends (may_still defs up c p may) (held_behind d (holder_of up (keepers ++ holds) d held)))
      (λ held. held_from defs up (keepers ++ holds) d may.ends may.is (held_ahead d (holder_of (put_at c (Some p) up) (keepers ++ passed_over p (up c) holds) d held)))

-- ---- who is active stays

any_agree : (p q : ℕ → Bool) (xs : List ℕ) → ((x : ℕ) → is_in x xs ≡ true → p x ≡ q x) → list_any p xs ≡ list_any q xs
any_agree p q [] same = refl
any_agree p q (x ∷ xs) same =
    ap (λ (t : Bool). t || list_any p xs) (same x (is_in_head x xs)) ∙ ap (λ (t : Bool). q x || t) (any_agree p q xs (λ y m. same y (is_in_tail y x xs m)))

-- the state with the new link
abbrev linked_state : State → ℕ → ℕ → State
linked_state s c p = record s {
  clocks = linked s.clocks c p;
  order = to_front c s.order;
  prepare_holds = passed_over p (link_in s.clocks c) s.prepare_holds;
  enable_holds = passed_over p (link_in s.clocks c) s.enable_holds;
}

active_still : (s : State) (c p : ℕ) → s.enable_holds ≡ [] → ((h : ℕ) → is_in h (enable_holders s) ≡ true → path (linked s.clocks c p) h ≡ path s.clocks h) → (d : ℕ) → active s d ≡ active (linked_state s c p) d
active_still s c p free paths d =
    any_agree (λ h. is_in d (path s.clocks h)) (λ h. is_in d (path (linked s.clocks c p) h)) (enable_holders s) (λ h m. sym (ap (λ (xs : List ℕ). is_in d xs) (paths h m)))
    ∙ ap (λ (hs : List ℕ). list_any (λ h. is_in d (path (linked s.clocks c p) h)) hs) (sym holders) where
      holders : enable_holders (linked_state s c p) ≡ enable_holders s
      holders =
          ap (λ (there : ℕ → Bool). clocks_of is_enabled s.handles ++ filter (λ x. is_critical s.defs x && there x) (count_from 0 (length s.defs)) ++ passed_over p (link_in s.clocks c) s.enable_holds)
          (fun_ext (linked_there s.clocks c p))
          ∙ ap (λ (es : List ℕ). clocks_of is_enabled s.handles ++ critical_clocks s ++ es) (passed_none p (link_in s.clocks c) s.enable_holds free ∙ sym free)

-- who is active behind a new link
active_linked : (s : State) (c p d : ℕ) → c < length s.clocks
    → active (linked_state s c p) d ≡ held_up (put_at c (Some p) (link_in s.clocks)) (clocks_of is_enabled s.handles ++ critical_clocks s ++ passed_over p (link_in s.clocks c) s.enable_holds) d
active_linked s c p d within =
    ap (λ (there : ℕ → Bool). held_up (link_in (linked s.clocks c p)) (clocks_of is_enabled s.handles ++ filter (λ x. is_critical s.defs x && there x) (count_from 0 (length s.defs)) ++ passed_over p (link_in s.clocks c) s.enable_holds) d)
    (fun_ext (linked_there s.clocks c p))
    ∙ ap (λ (up : ℕ → Option ℕ). held_up up (clocks_of is_enabled s.handles ++ critical_clocks s ++ passed_over p (link_in s.clocks c) s.enable_holds) d) (fun_ext (λ a. by a (same_or_not c a))) where
      by : (a : ℕ) → (c ≡ a) ⊎ (c ≡ a → ⊥) → link_in (linked s.clocks c p) a ≡ put_at c (Some p) (link_in s.clocks) a
      by a (inl same) = ap (link_in (linked s.clocks c p)) (sym same) ∙ linked_same s.clocks c p within ∙ sym (put_same c a (Some p) (link_in s.clocks) same)
      by a (inr other) = linked_other s.clocks c p a other ∙ sym (put_other c a (Some p) (link_in s.clocks) other)

-- a new link moves no gate
pub relink_still : (words : ℕ) (s : State) (k : Change) (c p : ClockId) (ms : List Micro) → IsLike words s → s.change ≡ Some k → k.left ≡ micro.Relink c p ∷ ms
    → c.0 < length s.clocks → (d : ℕ) → active s d ≡ active (linked_state s c.0 p.0) d
relink_still words s k c p ms like at left within d = by links.held where
  call_ : InCall like.other k
  call_ = in_call words like.other k like.reached (sym like.change ∙ at)

  fit : IsFit call_.late s
  fit = fit_like words s call_.late like (fit_of call_.late like.other call_.safe)

  links : Links s call_.late c p
  links = links_too like.other s call_.late c p (defs_like words s like) (scene_like words s call_.late like) (links_in like.other k c p ms call_ left)

  unless : (t : Bool) → (t ≡ true → ⊥) → t ≡ false
  unless true never = absurd (never refl)
  unless false never = refl

  idle_still : prepared s c.0 ≡ false → s.enable_holds ≡ [] → active s d ≡ active (linked_state s c.0 p.0) d
  idle_still idle free = active_still s c.0 p.0 free (λ h m. path_agree (link_in s.clocks) (link_in (linked s.clocks c.0 p.0)) depth h (λ a on. one h a m on (same_or_not c.0 a))) d where
    still : active s c.0 ≡ false
    still = unless (active s c.0) (λ on. let no : true ≡ false = sym ((supplies_of call_.late s fit).prepared_ c.0 on) ∙ idle in absurd cc)

    one : (h a : ℕ) → is_in h (enable_holders s) ≡ true → is_in a (path s.clocks h) ≡ true → (c.0 ≡ a) ⊎ (c.0 ≡ a → ⊥) → link_in (linked s.clocks c.0 p.0) a ≡ link_in s.clocks a
    one h a m on (inl here) =
        let off : is_in c.0 (path s.clocks h) ≡ false = none_in (λ g. is_in c.0 (path s.clocks g)) (enable_holders s) still h m in
        let no : true ≡ false = sym on ∙ ap (λ (x : ℕ). is_in x (path s.clocks h)) (sym here) ∙ off in absurd cc
    one h a m on (inr other) = linked_other s.clocks c.0 p.0 a other

  may : MayLink s.defs (link_in s.clocks) c.0 p.0
  may = record { ends = lines_end (length s.regs) s.defs fit.wired.valid; is = links.sound.tree.possible; parent = links.possible }

  by : IsHeldToMove s.defs (scene call_.late s) c.0 p.0 → active s d ≡ active (linked_state s c.0 p.0) d
  by (inr none) = idle_still (prepared_told call_.late call_.late s s (scene call_.late s) c.0 refl refl ∙ none.0) none.1
  by (inl held) =
      held_alike s.defs (link_in s.clocks) c.0 p.0 (clocks_of is_enabled s.handles ++ critical_clocks s) s.enable_holds may held.0 held.1 d
      ∙ sym (active_linked s c.0 p.0 d within)

-- nor does settling
pub settled_still : (s : State) (k : Change) (c d : ℕ) → active s d ≡ active (settle s k c) d
settled_still s k c d =
    any_agree (λ h. is_in d (path s.clocks h)) (λ h. is_in d (path rows h)) (enable_holders s) (λ h m. sym (ap (λ (ys : List ℕ). is_in d ys)
    (path_agree (link_in s.clocks) (link_in rows) depth h (λ a on. settled_links s (below_within (children s.order s.clocks) depth c) a))))
    ∙ ap (λ (there : ℕ → Bool). list_any (λ h. is_in d (path rows h)) (clocks_of is_enabled s.handles ++ filter (λ x. is_critical s.defs x && there x) (count_from 0 (length s.defs)) ++ s.enable_holds))
    (sym (fun_ext (settled_there s (below_within (children s.order s.clocks) depth c)))) where
      rows : List ClockRow
      rows = settle_all s (below_within (children s.order s.clocks) depth c)
