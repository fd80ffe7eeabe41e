-- Laws on paced changes: steps keep them paced.
use Rattle.std.proofs.Common.{◌≡◌, ℕ, ◌+◌, ◌≤◌, Bool, true, false, ◌||◌, List, [], ◌∷◌, ◌++◌, Option, Some, None, refl, sym, ap, subst, ◌∙◌, arith, length, append-nil}
use Rattle.std.specs.Prelude.{◌==◌, IfSome, IfNone, slice_index, if◌then◌else◌}
use Rattle.std.specs.List.{list_all, list_any}
use Rattle.std.specs.Option.{option_map_or}
use Rattle.std.proofs.lemmas.List.Folds.{list_any-append}
use Rattle.clk_base.specs.declared.call.Micro.{Micro}
use Rattle.clk_base.specs.declared.call.Micro.TheVariants as micro
use Rattle.clk_base.specs.declared.clock.ClockId.{ClockId}
use Rattle.clk_base.specs.declared.event.Turn.{Turn}
use Rattle.clk_base.specs.Valid.{IsValid}
use Rattle.clk_base.proofs.Valid.{lines_end}
use Rattle.clk_model.specs.Lists.{is_in, without_one, without}
use Rattle.clk_model.specs.State.{State, Change}
use Rattle.clk_model.specs.Tree.{path, path_to_be}
use Rattle.clk_model.specs.Rate.{rate}
use Rattle.clk_model.specs.Gates.{settled}
use Rattle.clk_model.specs.Notices.{post_list}
use Rattle.clk_model.specs.Script.{plls}
use Rattle.clk_model.specs.Begin.{register}
use Rattle.clk_model.specs.Step.{aborts_of, to_raise, to_lower, set_in_chain, is_yes, todo, taken, stepped}
use Rattle.clk_model.specs.Machine.{comes_next}
use Rattle.clk_model.specs.Laws.Paced.{is_notice, winds_down, may_time_out, is_scripted, ends_last, StillToRaise, StillToLower, Front, tells, polls, polls_to_raise, raises, lowers, IsPaced, StepsKeepPaced}
use Rattle.clk_model.proofs.Members.{both_left, both_right}
use Rattle.clk_model.proofs.PllLaws.{to_raise_few, to_lower_few}
use Rattle.clk_model.proofs.MicroLaws.{same_micro}
use Rattle.clk_model.proofs.WeightLaws.{changed, posts_notices}
use Rattle.clk_model.proofs.PacedStepLaws.{raise_again, step_defined}
use Rattle.clk_model.proofs.PacedLaws.{notices_wind, notices_calm, CutsWell, after, HasExtra}
use Rattle.clk_model.proofs.KeepsPacedLaws.{well_of, raise_on, lower_on, poll_on}
use Rattle.clk_model.specs.Wired.{LinksArePossible}

-- ---- what a step leaves

-- a state whose change only tells and lets fall in front
new_state : (s y : State) (new l : Change) → y.change ≡ Some l → y.change ≡ Some new → winds_down new.front new.raised ≡ true → new.again ≡ 0 → CutsWell new.left new.left
    → HasExtra y new (todo new) → IsPaced (after s y) l
unfolding settled
new_state s y new l e at winds first well extra =
    let same : new ≡ l = ap (λ (o : Option Change). option_map_or (λ (c : Change). c) o new) (sym at ∙ e) in
    subst (λ (c : Change). IsPaced (after s y) c) same (record { front = tells winds first; script = well.script; last = well.last; aborts = extra })

-- where a step leaves a change, it is paced
abbrev Keeps : State → Change → Change → Option Bool → List Micro → List Micro → Micro → Type 0
Keeps s k l answer front left m = (stepped s (changed k front left) answer m).0.change ≡ Some l → IsPaced (after s (stepped s (changed k front left) answer m).0) l

plain_state : (s y : State) (k l : Change) (rest : List Micro) → y.change ≡ Some l → y.change ≡ Some (changed k [] rest) → k.again ≡ 0 → CutsWell rest rest → HasExtra y k rest → IsPaced (after s y) l
plain_state s y k l rest e at first well extra = new_state s y (changed k [] rest) l e at refl first well extra

visit_state : (s y : State) (k l : Change) (posts rest : List Micro) (t : Bool) → list_all is_notice posts ≡ true → y.change ≡ Some l
    → y.change ≡ Some (record (changed k [] rest) { front = (if t then [] else posts) ++ [] }) → k.again ≡ 0 → CutsWell rest rest → HasExtra y k rest → IsPaced (after s y) l
visit_state s y k l posts rest true all e at first well extra = plain_state s y k l rest e at first well extra
visit_state s y k l posts rest false all e at first well extra =
    new_state s y (record (changed k [] rest) { front = posts ++ [] }) l e at
    (ap (λ (ms : List Micro). winds_down ms k.raised) (append-nil posts) ∙ notices_wind posts k.raised all) first well
    (λ late. extra (sym (list_any-append may_time_out (posts ++ []) rest
    ∙ ap (λ (ms : List Micro). list_any may_time_out ms || list_any may_time_out rest) (append-nil posts)
    ∙ ap (λ (t : Bool). t || list_any may_time_out rest) (notices_calm posts all)) ∙ late))

-- ---- steps of a script

script_keeps : (s : State) (k l : Change) (answer : Option Bool) (rest : List Micro) (m : Micro) → is_scripted m ≡ true → k.again ≡ 0 → CutsWell rest rest
    → IsValid (length s.regs) s.defs → ((x : ℕ) → length (to_raise s k x) ≤ plls s.defs) → ((x : ℕ) → length (to_lower s x) ≤ plls s.defs)
    → HasExtra s k (m ∷ rest) → Keeps s k l answer [] rest m
unfolding stepped register
script_keeps s k l answer rest (micro.Notify kind c id old new) is first well valid up down extra e = plain_state s _ k l rest e refl first well extra
script_keeps s k l answer rest (micro.Raise x) is first well valid up down extra e = raise_on s k l x.0 rest valid (let few = up x.0 in omega arith) well (extra refl) e
script_keeps s k l answer rest (micro.Poll y) is first well valid up down extra e = absurd cc
script_keeps s k l answer rest (micro.Fall y) is first well valid up down extra e = absurd cc
script_keeps s k l answer rest (micro.HoldPrepare x) is first well valid up down extra e =
    new_state s _ (record (changed k [] rest) { raised = without (path s.clocks x.0) k.raised }) l e refl refl first well extra
script_keeps s k l answer rest (micro.HoldEnable x) is first well valid up down extra e = plain_state s _ k l rest e refl first well extra
script_keeps s k l answer rest (micro.Relink c p) is first well valid up down extra e = plain_state s _ k l rest e refl first well extra
script_keeps s k l answer rest (micro.WriteMux c place) is first well valid up down extra e = plain_state s _ k l rest e refl first well extra
script_keeps s k l answer rest (micro.DropEnable x) is first well valid up down extra e = plain_state s _ k l rest e refl first well extra
script_keeps s k l answer rest (micro.DropPrepare x) is first well valid up down extra e = plain_state s _ k l rest e refl first well extra
script_keeps s k l answer rest (micro.Lower x) is first well valid up down extra e = lower_on s k l x.0 rest valid (let few = down x.0 in omega arith) well extra e
script_keeps s k l answer rest (micro.Visit c) is first well valid up down extra e =
    visit_state s _ k l (post_list (record { before = k.before; outcome = k.outcome }) s.notifiers c.0) rest
    (rate s.defs (set_in_chain s k c.0) s.clocks c.0 == slice_index k.before c.0)
    (posts_notices (record { before = k.before; outcome = k.outcome }) s.notifiers c.0) e refl first well extra
script_keeps s k l answer rest (micro.Register c) is first well valid up down extra e =
    new_state s _ (record (changed k [] rest) { raised = without (path_to_be s.defs s.regs s.clocks c.0) k.raised }) l e refl refl first well extra
script_keeps s k l answer rest (micro.Settle c) is first well valid up down extra e = plain_state s _ k l rest e refl first well extra
script_keeps s k l answer rest (micro.Close c) is first well valid up down extra e = plain_state s _ k l rest e refl first well extra
script_keeps s k l answer rest (micro.Unpower c) is first well valid up down extra e = plain_state s _ k l rest e refl first well extra
script_keeps s k l answer rest micro.End is first well valid up down extra e = absurd cc

-- ---- steps in front of it

told_keeps : (s : State) (k l : Change) (answer : Option Bool) (n : Micro) (front left : List Micro) → winds_down (n ∷ front) k.raised ≡ true → k.again ≡ 0 → CutsWell left left
    → HasExtra s k ((n ∷ front) ++ left) → Keeps s k l answer front left n
unfolding stepped
told_keeps s k l answer (micro.Notify kind c id old new) front left told first well extra e = new_state s _ (changed k front left) l e refl told first well extra
told_keeps s k l answer (micro.Fall y) front left told first well extra e =
    new_state s _ (record (changed k front left) { raised = without_one y.0 k.raised }) l e refl
    (both_right (is_in y.0 k.raised) (winds_down front (without_one y.0 k.raised)) told) first well extra
told_keeps s k l answer (micro.Raise x) front left told first well extra e = absurd cc
told_keeps s k l answer (micro.Poll y) front left told first well extra e = absurd cc
told_keeps s k l answer (micro.HoldPrepare x) front left told first well extra e = absurd cc
told_keeps s k l answer (micro.HoldEnable x) front left told first well extra e = absurd cc
told_keeps s k l answer (micro.Relink c p) front left told first well extra e = absurd cc
told_keeps s k l answer (micro.WriteMux c place) front left told first well extra e = absurd cc
told_keeps s k l answer (micro.DropEnable x) front left told first well extra e = absurd cc
told_keeps s k l answer (micro.DropPrepare x) front left told first well extra e = absurd cc
told_keeps s k l answer (micro.Lower x) front left told first well extra e = absurd cc
told_keeps s k l answer (micro.Visit c) front left told first well extra e = absurd cc
told_keeps s k l answer (micro.Register c) front left told first well extra e = absurd cc
told_keeps s k l answer (micro.Settle c) front left told first well extra e = absurd cc
told_keeps s k l answer (micro.Close c) front left told first well extra e = absurd cc
told_keeps s k l answer (micro.Unpower c) front left told first well extra e = absurd cc
told_keeps s k l answer micro.End front left told first well extra e = absurd cc

-- the first of these steps keeps the change paced
abbrev FirstKeeps : State → Change → Change → Option Bool → List Micro → List Micro → Micro → Type 0
FirstKeeps s k l answer front left m =
    comes_next m (front ++ left) ≡ true → (stepped s (taken (changed k front left)) answer m).0.change ≡ Some l → IsPaced (after s (stepped s (taken (changed k front left)) answer m).0) l

tells_keeps : (s : State) (k l : Change) (answer : Option Bool) (front left : List Micro) (m : Micro) → winds_down front k.raised ≡ true → k.again ≡ 0
    → list_all is_scripted left ≡ true → ends_last left ≡ true → IsValid (length s.regs) s.defs
    → ((x : ℕ) → length (to_raise s k x) ≤ plls s.defs) → ((x : ℕ) → length (to_lower s x) ≤ plls s.defs) → HasExtra s k (front ++ left)
    → FirstKeeps s k l answer front left m
tells_keeps s k l answer [] [] m told first script last valid up down extra comes = absurd cc
tells_keeps s k l answer [] (n ∷ rest) m told first script last valid up down extra comes =
    subst (λ (o : Micro). Keeps s k l answer [] rest o) (sym (same_micro m n comes))
    (script_keeps s k l answer rest n (both_left (is_scripted n) (list_all is_scripted rest) script) first (well_of n rest script last) valid up down extra)
tells_keeps s k l answer (n ∷ front) left m told first script last valid up down extra comes =
    subst (λ (o : Micro). Keeps s k l answer front left o) (sym (same_micro m n comes))
    (told_keeps s k l answer n front left told first (record { script = script; last = last }) extra)

poll_keeps : (s : State) (k l : Change) (answer : Option Bool) (y : ClockId) (o : Option ClockId) (left : List Micro) (m : Micro) → IsValid (length s.regs) s.defs
    → IfSome o (StillToRaise s k) → IfNone o (k.again ≡ 0) → CutsWell left left → length (aborts_of s k) ≤ k.extra → FirstKeeps s k l answer (micro.Poll y ∷ raise_again o) left m
unfolding stepped
poll_keeps s k l answer y o left m valid few first well extra comes =
    subst (λ (n : Micro). Keeps s k l answer (raise_again o) left n) (sym (same_micro m (micro.Poll y) comes))
    (λ e. poll_on s k l y.0 o left (is_yes answer) valid few first well extra e)

raise_keeps : (s : State) (k l : Change) (answer : Option Bool) (x : ClockId) (left : List Micro) (m : Micro) → IsValid (length s.regs) s.defs
    → StillToRaise s k x → CutsWell left left → length (aborts_of s k) ≤ k.extra → FirstKeeps s k l answer (micro.Raise x ∷ []) left m
unfolding stepped
raise_keeps s k l answer x left m valid few well extra comes =
    subst (λ (n : Micro). Keeps s k l answer [] left n) (sym (same_micro m (micro.Raise x) comes)) (λ e. raise_on s k l x.0 left valid few well extra e)

lower_keeps : (s : State) (k l : Change) (answer : Option Bool) (x : ClockId) (left : List Micro) (m : Micro) → IsValid (length s.regs) s.defs
    → StillToLower s k x → CutsWell left left → HasExtra s k left → FirstKeeps s k l answer (micro.Lower x ∷ []) left m
unfolding stepped
lower_keeps s k l answer x left m valid few well extra comes =
    subst (λ (n : Micro). Keeps s k l answer [] left n) (sym (same_micro m (micro.Lower x) comes)) (λ e. lower_on s k l x.0 left valid few well extra e)

first_keeps : (s : State) (k l : Change) (answer : Option Bool) (m : Micro) → IsValid (length s.regs) s.defs → LinksArePossible s.defs s.clocks → IsPaced s k
    → FirstKeeps s k l answer k.front k.left m
first_keeps s k l answer m valid links paced = by_front paced.front where
  well : CutsWell k.left k.left
  well = record { script = paced.script; last = paced.last }

  extra_for : (ms : List Micro) → k.front ≡ ms → HasExtra s k (ms ++ k.left)
  extra_for ms e late = paced.aborts (ap (λ (ls : List Micro). list_any may_time_out (ls ++ k.left)) e ∙ late)

  by_front : Front s k → FirstKeeps s k l answer k.front k.left m
  by_front (tells told first) =
      let ends = lines_end (length s.regs) s.defs valid in
      tells_keeps s k l answer k.front k.left m told first paced.script paced.last valid
      (λ x. to_raise_few s k x ends links) (λ x. to_lower_few s x ends links) paced.aborts
  by_front (polls y e some first) =
      subst (λ (ms : List Micro). FirstKeeps s k l answer ms k.left m) (sym e) (poll_keeps s k l answer y None k.left m valid tt first well (extra_for (micro.Poll y ∷ []) e refl))
  by_front (polls_to_raise y x e some few) =
      subst (λ (ms : List Micro). FirstKeeps s k l answer ms k.left m) (sym e)
      (poll_keeps s k l answer y (Some x) k.left m valid few tt well (extra_for (micro.Poll y ∷ micro.Raise x ∷ []) e refl))
  by_front (raises x e few) =
      subst (λ (ms : List Micro). FirstKeeps s k l answer ms k.left m) (sym e) (raise_keeps s k l answer x k.left m valid few well (extra_for (micro.Raise x ∷ []) e refl))
  by_front (lowers x e few) =
      subst (λ (ms : List Micro). FirstKeeps s k l answer ms k.left m) (sym e) (lower_keeps s k l answer x k.left m valid few well (extra_for (micro.Lower x ∷ []) e))

-- ---- in a run

change_after : (s y : State) (n : ℕ) → (record (settled s y) { steps = n }).change ≡ y.change
unfolding settled
change_after s y n = refl

-- each step of a paced change leaves it paced
pub steps_keep_paced : StepsKeepPaced
steps_keep_paced s t k l d m answer x valid links at paced e goes =
    let is = step_defined s t k d m answer x at e in
    let y : State = (stepped s (taken k) answer m).0 in
    let left : after s y ≡ t = ap (λ (z : State × Turn). z.0) is.1 in
    let made : y.change ≡ Some l = sym (change_after s y (s.steps + 1)) ∙ ap (λ (u : State). u.change) left ∙ goes in
    subst (λ (u : State). IsPaced u l) left (first_keeps s k l answer m valid links paced is.0 made)
