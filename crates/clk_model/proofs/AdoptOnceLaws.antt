-- Laws on registrations: their scripts relink no clock twice.
use Rattle.std.proofs.Common.{◌≡◌, ℕ, ◌<◌, ◌||◌, Bool, true, false, cond, inl, List, [], ◌∷◌, ◌++◌, Option, Some, None, refl, sym, ap, subst, ◌∙◌, nat_eq}
use Rattle.std.specs.Prelude.{flat_map, length, option_and_then}
use Rattle.std.specs.List.{list_any}
use Rattle.std.specs.Option.{option_map_or}
use Rattle.clk_base.specs.Description.{parents_of}
use Rattle.clk_base.specs.Flags.{is_critical}
use Rattle.clk_base.specs.Levels.{depth}
use Rattle.clk_base.specs.declared.call.Micro.{Micro}
use Rattle.clk_base.specs.declared.call.Micro.TheVariants as micro
use Rattle.clk_base.specs.declared.clock.ClockId.{ClockId}
use Rattle.clk_base.proofs.Valid.{lines_end}
use Rattle.clk_model.specs.declared.row.ClockRow.{ClockRow}
use Rattle.clk_model.specs.Lists.{is_in, none_twice}
use Rattle.clk_model.specs.State.{State, registered, link_in}
use Rattle.clk_model.specs.Tree.{selected, if_registered, link_given, is_orphan, orphans}
use Rattle.clk_model.specs.Holders.{prepared}
use Rattle.clk_model.specs.Round.{wiring}
use Rattle.clk_model.specs.Chain.{clock_id}
use Rattle.clk_model.specs.Script.{adoptable, adoption, adoption_order, probe_script}
use Rattle.clk_model.specs.Begin.{register}
use Rattle.clk_model.specs.Wired.{IsWired, IsOrder}
use Rattle.clk_model.proofs.Members.{not_either, same_from_test}
use Rattle.clk_model.proofs.NoneLaws.{none_append, none_if}
use Rattle.clk_model.proofs.OnceLaws.{once_head, once_filter, filter_passes}
use Rattle.clk_model.proofs.StateLaws.{row_of-set_other}
use Rattle.clk_model.proofs.PllLaws.{selected_possible}
use Rattle.clk_model.proofs.PlanLaws.{not_above_parent}
use Rattle.clk_model.proofs.SceneStepLaws.{parent_lt}
use Rattle.clk_model.proofs.WholePathLaws.{given_link}
use Rattle.clk_model.proofs.HoldSteps.{relinks}
use Rattle.clk_model.proofs.BalancedScripts.{relinks_once}
use Rattle.clk_model.proofs.BalanceLaws.{relinks_append}
use Rattle.clk_model.proofs.AdoptGoLaws.{ordered_in, ordered_once}
use Rattle.clk_model.proofs.ProbeGoLaws.{can_adopt}
use Rattle.clk_model.proofs.SiblingLaws.{refuted}

-- ---- adoptions

-- an adoption relinks its own clock alone, and that once
adoption_of_its_own : (r : State) (a d : ℕ) → nat_eq a d ≡ false → list_any (relinks d) (adoption r a) ≡ false
adoption_of_its_own r a d other = one (link_given r.defs r.regs r.clocks a) where
  one : (o : Option ℕ) → list_any (relinks d) (option_map_or (λ p.
      cond (prepared r a)
      (micro.Raise (clock_id p) ∷ micro.HoldPrepare (clock_id p) ∷ micro.HoldEnable (clock_id p) ∷ micro.HoldEnable (clock_id a)
      ∷ micro.Relink (clock_id a) (clock_id p) ∷ micro.DropEnable (clock_id a) ∷ micro.Settle (clock_id a) ∷ [])
      (micro.Relink (clock_id a) (clock_id p) ∷ micro.Settle (clock_id a) ∷ [])) o []) ≡ false
  one None = refl
  one (Some p) = none_if (relinks d) (prepared r a) _ _ (ap (λ (b : Bool). b || false) other) (ap (λ (b : Bool). b || false) other)

adoption_once : (r : State) (a : ℕ) → relinks_once (adoption r a)
adoption_once r a = one (link_given r.defs r.regs r.clocks a) (prepared r a) where
  one : (o : Option ℕ) (b : Bool) → relinks_once (option_map_or (λ p.
      cond b
      (micro.Raise (clock_id p) ∷ micro.HoldPrepare (clock_id p) ∷ micro.HoldEnable (clock_id p) ∷ micro.HoldEnable (clock_id a)
      ∷ micro.Relink (clock_id a) (clock_id p) ∷ micro.DropEnable (clock_id a) ∷ micro.Settle (clock_id a) ∷ [])
      (micro.Relink (clock_id a) (clock_id p) ∷ micro.Settle (clock_id a) ∷ [])) o [])
  one None b = tt
  one (Some p) true = ((λ d e. absurd cc), ((λ d e. absurd cc), ((λ d e. absurd cc), ((λ d e. absurd cc), ((λ d e. refl), ((λ d e. absurd cc), ((λ d e. absurd cc), tt)))))))
  one (Some p) false = ((λ d e. refl), ((λ d e. absurd cc), tt))

adoptions_none : (r : State) (cs : List ℕ) (d : ℕ) → is_in d cs ≡ false → list_any (relinks d) (flat_map (adoption r) cs) ≡ false
adoptions_none r [] d none = refl
adoptions_none r (c ∷ cs) d none =
    let both = not_either (nat_eq c d) (is_in d cs) none in
    none_append (relinks d) (adoption r c) (flat_map (adoption r) cs) (adoption_of_its_own r c d both.0) (adoptions_none r cs d both.1)

adoptions_once : (r : State) (cs : List ℕ) → none_twice cs ≡ true → relinks_once (flat_map (adoption r) cs)
adoptions_once r [] once = tt
adoptions_once r (c ∷ cs) once =
    relinks_append (adoption r c) (flat_map (adoption r) cs) (adoption_once r c) (adoptions_once r cs (once_head c cs once).1)
    (λ d e. elim (nat_eq c d) as (λ b. nat_eq c d ≡ b → list_any (relinks d) (flat_map (adoption r) cs) ≡ false) [
      | true ↦ λ f. adoptions_none r cs d (ap (λ (x : ℕ). is_in x cs) (sym (same_from_test c d f)) ∙ (once_head c cs once).0)
      | false ↦ λ f. let no : true ≡ false = sym e ∙ adoption_of_its_own r c d f in absurd cc
    ] refl)

-- ---- the clock itself

-- a clock that has just been registered can't be adopted: where its parent is there it has its link
adopts_itself : (words : ℕ) (s : State) (c : ℕ) → IsWired words (wiring s) → is_in c (adoptable (register s c)) ≡ true → ⊥
unfolding register link_given
adopts_itself words s c wired m = by_given (selected s.defs s.regs c) refl there where
  r : State
  r = register s c

  there : option_map_or (λ p. true) (option_and_then (if_registered r.clocks) (selected s.defs s.regs c)) false ≡ true
  there = filter_passes (λ a. option_map_or (λ p. true) (link_given r.defs r.regs r.clocks a) false) c (orphans r.defs r.order r.clocks) m

  was : (q : ℕ) (b : Bool) → option_map_or (λ p. true) (cond b (Some q) None) false ≡ true → b ≡ true
  was q true e = refl
  was q false e = absurd cc

  by_given : (o : Option ℕ) → selected s.defs s.regs c ≡ o → option_map_or (λ p. true) (option_and_then (if_registered r.clocks) o) false ≡ true → ⊥
  by_given None at e = absurd cc
  by_given (Some q) at e =
      let possible : is_in q (parents_of s.defs c) ≡ true = selected_possible s.defs s.regs c q at in
      let apart : c ≡ q → ⊥ = λ same. not_above_parent (parents_of s.defs) depth c q (lines_end words s.defs wired.valid c) possible (inl same) in
      let is_there : registered s.clocks q ≡ true =
      sym (ap (λ (row : ClockRow). row.registered) (row_of-set_other s.clocks c _ q apart)) ∙ was q (registered r.clocks q) e in
      let within : c < length s.clocks = subst (λ (n : ℕ). c < n) (sym wired.rows) (parent_lt s.defs c q possible) in
      let linked : link_in r.clocks c ≡ Some q =
      given_link s c within ∙ ap (λ (o : Option ℕ). option_and_then (if_registered s.clocks) o) at ∙ ap (λ (b : Bool). cond b (Some q) None) is_there in
      let no : None ≡ Some q = sym (can_adopt r c m).unlinked ∙ linked in
      absurd cc

-- ---- the script

adoptable_once : (s : State) (c : ℕ) → IsOrder (register s c).order (register s c).clocks → none_twice (adoptable (register s c)) ≡ true
adoptable_once s c ordered =
    let r : State = register s c in
    once_filter (λ a. option_map_or (λ p. true) (link_given r.defs r.regs r.clocks a) false) (orphans r.defs r.order r.clocks) (once_filter (is_orphan r.defs r.clocks) r.order ordered.once)

pub probe_once : (words : ℕ) (s : State) (c : ClockId) → IsWired words (wiring s) → IsOrder (register s c.0).order (register s c.0).clocks → relinks_once (probe_script (register s c.0) c.0)
unfolding probe_script
probe_once words s c wired ordered = by_critical (is_critical r.defs c.0) where
  r : State
  r = register s c.0

  order : List ℕ
  order = adoption_order (length (adoptable r)) r (adoptable r)

  adoptions : List Micro
  adoptions = flat_map (adoption r) order

  not_listed : is_in c.0 order ≡ false
  not_listed = refuted (is_in c.0 order) (λ m. adopts_itself words s c.0 wired (ordered_in (length (adoptable r)) r (adoptable r) c.0 m))

  registering : relinks_once (micro.Register (clock_id c.0) ∷ (adoptions ++ micro.End ∷ []))
  registering = (
    (λ d e. none_append (relinks d) adoptions (micro.End ∷ []) (adoptions_none r order d (ap (λ (x : ℕ). is_in x order) (sym (same_from_test c.0 d e)) ∙ not_listed)) refl),
    relinks_append adoptions (micro.End ∷ []) (adoptions_once r order (ordered_once (length (adoptable r)) r (adoptable r) (adoptable_once s c.0 ordered))) ((λ d e. absurd cc), tt) (λ d e. refl),
  )

  by_critical : (b : Bool) → relinks_once (((cond b (micro.Raise (clock_id c.0) ∷ []) [] ++ micro.Register (clock_id c.0) ∷ []) ++ adoptions) ++ micro.End ∷ [])
  by_critical true = ((λ d e. absurd cc), registering)
  by_critical false = registering
