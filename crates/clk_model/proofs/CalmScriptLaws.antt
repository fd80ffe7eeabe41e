-- Laws on scripts and one path: what scripts of calls don't disturb.
use Rattle.std.proofs.Common.{◌≡◌, ℕ, zero, suc, ◌<◌, ◌^◌, ◌||◌, Bool, true, false, not, cond, List, [], ◌∷◌, ◌++◌, Option, Some, None, refl, sym, ap, subst, ◌∙◌, inl, inr, arith, length, nat_lt}
use Rattle.std.proofs.lemmas.Bool.Decides.{nat_tests}
use Rattle.std.specs.Prelude.{if◌then◌else◌}
use Rattle.std.specs.List.{list_any, AllByRecursion}
use Rattle.std.specs.Option.{option_map_or}
use Rattle.clk_base.specs.declared.call.Micro.{Micro}
use Rattle.clk_base.specs.declared.call.Micro.TheVariants as micro
use Rattle.clk_base.specs.Description.{Description, kind_of, parents_of}
use Rattle.clk_base.specs.Fields.{Field}
use Rattle.clk_base.specs.Valid.{IsValid}
use Rattle.clk_model.specs.Lists.{is_in}
use Rattle.clk_model.specs.Kinds.{mux_field}
use Rattle.clk_model.specs.State.{State, ChainStep, registered, link_in}
use Rattle.clk_model.specs.Tree.{path, link_given}
use Rattle.clk_model.specs.Holders.{prepared}
use Rattle.clk_model.specs.Round.{wiring}
use Rattle.clk_model.specs.Chain.{clock_id, place_of}
use Rattle.clk_model.specs.Script.{unfeed, move, adoption, adoptable, planned, probe_script, sweep_script}
use Rattle.clk_model.specs.Begin.{register}
use Rattle.clk_model.specs.Laws.Plans.{HasParent}
use Rattle.clk_model.proofs.BelowLaws.{Rises, IsUp, rises_both}
use Rattle.clk_model.proofs.AboveLaws.{Above, above_here, path_above, HasRoot}
use Rattle.clk_model.proofs.WholePathLaws.{given_others}
use Rattle.clk_model.proofs.PllLaws.{link_given_possible}
use Rattle.clk_model.proofs.SettingLaws.{settings_fit}
use Rattle.clk_model.proofs.BeginLaws.{sweep_has_no}
use Rattle.clk_model.proofs.LinkBegins.{register_defs}
use Rattle.clk_model.proofs.PlanRootLaws.{IsRooted, fixed_no_parent, rooted_linked}
use Rattle.clk_model.proofs.PlannedGoLaws.{all_both}
use Rattle.clk_model.proofs.AdoptGoLaws.{ordered_in}
use Rattle.clk_model.proofs.ProbeGoLaws.{can_adopt}
use Rattle.clk_base.specs.Flags.{runs_parent}
use Rattle.clk_model.proofs.FeedLaws.{NoFeeding}
use Rattle.clk_model.proofs.KeptPathLaws.{disturbs, IsOff}
use Rattle.clk_model.proofs.ScriptLaws.{NoMove, none_move_of, none_visit, none_planned, none_probe}

-- whether any of these steps disturbs a path
abbrev pub LeaveAlone : Description → List ℕ → List Micro → Type 0
LeaveAlone defs kept ms = list_any (disturbs defs kept) ms ≡ false

-- ---- plans

-- the place of a possible parent fits the field of a mux
pub place_calm : (defs : Description) (words c q : ℕ) (kept : List ℕ) → IsValid words defs → is_in q (parents_of defs c) ≡ true → disturbs defs kept (micro.WriteMux (clock_id c) (place_of defs c q)) ≡ false
place_calm defs words c q kept valid m = one (mux_field (kind_of defs c)) refl where
  one : (o : Option Field) → mux_field (kind_of defs c) ≡ o → option_map_or (λ f. not (nat_lt (place_of defs c q) (2 ^ f.width))) o false ≡ false
  one None at = refl
  one (Some f) at = let below : place_of defs c q < 2 ^ f.width = (settings_fit words defs valid c).place f q at m in small (nat_lt (place_of defs c q) (2 ^ f.width)) refl where
    small : (t : Bool) → nat_lt (place_of defs c q) (2 ^ f.width) ≡ t → not t ≡ false
    small true e = refl
    small false e = let fits : place_of defs c q < 2 ^ f.width = (settings_fit words defs valid c).place f q at m in absurd (grind (arith, nat_tests))

move_calm : (s : State) (words c q : ℕ) (kept : List ℕ) → IsValid words s.defs → is_in c kept ≡ false → is_in q (parents_of s.defs c) ≡ true
    → LeaveAlone s.defs kept (move s.defs s.clocks (prepared s) c q)
move_calm s words c q kept valid out m = either (prepared s c) _ _ (calm _ (lets (link_in s.clocks c))) (either (runs_parent s.defs c) _ _ (calm _ (more (link_in s.clocks c))) (calm _ refl)) where
  calm : (b : Bool) → b ≡ false → (is_in c kept || (disturbs s.defs kept (micro.WriteMux (clock_id c) (place_of s.defs c q)) || b)) ≡ false
  calm b e =
      ap (λ (t : Bool). t || (disturbs s.defs kept (micro.WriteMux (clock_id c) (place_of s.defs c q)) || b)) out
      ∙ ap (λ (t : Bool). t || b) (place_calm s.defs words c q kept valid m) ∙ e

  lets : (l : Option ℕ) → LeaveAlone s.defs kept (option_map_or unfeed l [])
  lets None = refl
  lets (Some o) = refl

  more : (l : Option ℕ) → LeaveAlone s.defs kept (option_map_or unfeed l [] ++ unfeed c)
  more None = refl
  more (Some o) = refl

  either : (t : Bool) (xs ys : List Micro) → LeaveAlone s.defs kept xs → LeaveAlone s.defs kept ys → LeaveAlone s.defs kept (cond t xs ys)
  either true xs ys e f = e
  either false xs ys e f = f

feeding_calm : (defs : Description) (kept : List ℕ) → NoFeeding (disturbs defs kept)
feeding_calm defs kept (micro.Relink c p) e = absurd cc
feeding_calm defs kept (micro.Register c) e = absurd cc
feeding_calm defs kept (micro.WriteMux c place) e = absurd cc
feeding_calm defs kept m e = refl

-- a planned script leaves a path alone that its chain is off
pub planned_calm : (s : State) (words : ℕ) (ks : List ChainStep) (settles : List Micro) (kept : List ℕ) → IsValid words s.defs → AllByRecursion (HasParent (wiring s)) ks → IsOff kept ks
    → LeaveAlone s.defs kept settles → LeaveAlone s.defs kept (planned s ks settles).steps
planned_calm s words ks settles kept valid parents off calm =
    none_planned (disturbs s.defs kept) s ks settles (λ kind c id old new. refl)
    (λ c. none_move_of (disturbs s.defs kept) s.defs s.clocks (prepared s) ks c
    (all_both (HasParent (wiring s)) (λ k. is_in k.clock kept ≡ false) (NoMove (disturbs s.defs kept) s.defs s.clocks (prepared s) c) ks
    (λ k has out same q at.
    move_calm s words c q kept valid (subst (λ (x : ℕ). is_in x kept ≡ false) same out) (subst (λ (x : ℕ). is_in q (parents_of s.defs x) ≡ true) same (has.possible q at))) parents off))
    (λ c. none_visit (disturbs s.defs kept) s.defs s.clocks ks c (feeding_calm s.defs kept) refl) calm refl

-- ---- registrations

-- what is above a clock with a root has one
root_above : (words : ℕ) (defs : Description) (up : ℕ → Option ℕ) (c a : ℕ) → IsValid words defs → IsUp (parents_of defs) up → HasRoot defs up c → Above up c a → HasRoot defs up a
root_above words defs up c a valid is root high =
    elim (rises_both up high.0 root.1.0 c a root.0 high.1 root.1.1) [
      | inl on ↦ (root.0, on, root.2)
      | inr back ↦ by_way back.0 back.1
    ] where
      by_way : (n : ℕ) → Rises up n root.0 a → HasRoot defs up a
      by_way zero way = subst (λ (x : ℕ). HasRoot defs up x) way (root.0, above_here up root.0, root.2)
      by_way (suc n) way = absurd (fixed_no_parent words defs root.0 way.0 valid root.2 (is root.0 way.0 way.1))

-- links run between registered clocks
abbrev pub LinksRegistered : State → Type 0
LinksRegistered s = (c p : ℕ) → link_in s.clocks c ≡ Some p → registered s.clocks p ≡ true

-- so what is above a registered clock is registered
registered_above : (s : State) (n c a : ℕ) → LinksRegistered s → registered s.clocks c ≡ true → Rises (link_in s.clocks) n c a → registered s.clocks a ≡ true
registered_above s zero c a links there way = ap (registered s.clocks) (sym way) ∙ there
registered_above s (suc n) c a links there way = registered_above s n way.0 a links (links c way.0 way.1) way.2

-- the path of a rooted clock, in a state whose links run between registered clocks and lead to possible parents
pub record OnRoot (s : State) (c : ℕ) : Type 0 where
  pub valid : IsValid (length s.regs) s.defs
  pub is : IsUp (parents_of s.defs) (link_in s.clocks)
  pub links : LinksRegistered s
  pub rooted_ : IsRooted s.defs s.clocks c

-- a clock that isn't registered is off it
pub unregistered_off : (s : State) (c d : ℕ) → OnRoot s c → registered s.clocks d ≡ false → is_in d (path s.clocks c) ≡ false
unregistered_off s c d on free = by_test (is_in d (path s.clocks c)) refl where
  by_test : (t : Bool) → is_in d (path s.clocks c) ≡ t → t ≡ false
  by_test false e = refl
  by_test true e =
      let high = path_above (link_in s.clocks) c d e in
      let no : false ≡ true = sym free ∙ registered_above s high.0 c d on.links on.rooted_.there high.1 in
      absurd cc

-- and so is an orphan that a registration lets be adopted
adopted_off : (s : State) (c d a p : ℕ) → OnRoot s c → registered s.clocks d ≡ false → link_in (register s d).clocks a ≡ None → is_in p (parents_of s.defs a) ≡ true → is_in a (path s.clocks c) ≡ false
unfolding register
adopted_off s c d a p on free none m = by_test (is_in a (path s.clocks c)) refl where
  by_test : (t : Bool) → is_in a (path s.clocks c) ≡ t → t ≡ false
  by_test false e = refl
  by_test true e =
      let high = path_above (link_in s.clocks) c a e in
      let there = registered_above s high.0 c a on.links on.rooted_.there high.1 in
      let linked_ = rooted_linked (length s.regs) s.defs s.clocks a p on.valid (root_above (length s.regs) s.defs (link_in s.clocks) c a on.valid on.is on.rooted_.root high) m in
      let other : d ≡ a → ⊥ = (λ same. let no : false ≡ true = sym free ∙ ap (registered s.clocks) same ∙ there in cc) in
      let no : None ≡ Some linked_.0 = sym none ∙ given_others s d a other ∙ linked_.1 in
      absurd cc

adoption_calm : (r : State) (a : ℕ) (kept : List ℕ) → ((p : ℕ) → link_given r.defs r.regs r.clocks a ≡ Some p → is_in a kept ≡ false) → LeaveAlone r.defs kept (adoption r a)
adoption_calm r a kept out = one (link_given r.defs r.regs r.clocks a) (prepared r a) out where
  one : (o : Option ℕ) (t : Bool) → ((p : ℕ) → o ≡ Some p → is_in a kept ≡ false) → LeaveAlone r.defs kept (option_map_or (λ p.
      if t
      then micro.Raise (clock_id p) ∷ micro.HoldPrepare (clock_id p) ∷ micro.HoldEnable (clock_id p) ∷ micro.HoldEnable (clock_id a)
      ∷ micro.Relink (clock_id a) (clock_id p) ∷ micro.DropEnable (clock_id a) ∷ micro.Settle (clock_id a) ∷ []
      else micro.Relink (clock_id a) (clock_id p) ∷ micro.Settle (clock_id a) ∷ []) o [])
  one None t off = refl
  one (Some p) true off = ap (λ (b : Bool). b || false) (off p refl)
  one (Some p) false off = ap (λ (b : Bool). b || false) (off p refl)

-- the script of a registration leaves the path of a rooted clock alone
pub probe_calm : (s : State) (c d : ℕ) → OnRoot s c → registered s.clocks d ≡ false → LeaveAlone s.defs (path s.clocks c) (probe_script (register s d) d)
probe_calm s c d on free =
    let r : State = register s d in
    let same : r.defs ≡ s.defs = register_defs s d in
    subst (λ (ds : Description). LeaveAlone ds (path s.clocks c) (probe_script r d)) same
    (none_probe (disturbs r.defs (path s.clocks c)) r d refl (unregistered_off s c d on free)
    (λ a m. adoption_calm r a (path s.clocks c)
    (λ p at.
    adopted_off s c d a p on free (can_adopt r a (ordered_in (length (adoptable r)) r (adoptable r) a m)).unlinked
    (subst (λ (ds : Description). is_in p (parents_of ds a) ≡ true) same (link_given_possible r.defs r.regs r.clocks a p at)))) refl)

pub sweep_calm : (s : State) (kept : List ℕ) → LeaveAlone s.defs kept (sweep_script s)
sweep_calm s kept = sweep_has_no (disturbs s.defs kept) s (feeding_calm s.defs kept) (λ c. refl) (λ c. refl) refl
