-- Laws on changes that are called off: a veto leaves the prepare tier's part of the state as it was before the call.
use Rattle.std.proofs.Common.{◌≡◌, ℕ, zero, suc, ◌+◌, ◌||◌, ◌⊎◌, inl, inr, Bool, true, false, cond, List, [], ◌∷◌, ◌++◌, Option, Some, None, refl, sym, ap, subst, ◌∙◌, map}
use Rattle.std.specs.Prelude.{slice_set, slice_index, option_map}
use Rattle.std.specs.List.{list_any}
use Rattle.std.specs.Option.{option_map_or}
use Rattle.std.proofs.lemmas.List.{append_assoc}
use Rattle.std.proofs.lemmas.List.Folds.{list_any-append}
use Rattle.clk_base.specs.declared.call.Sleeping.{Sleeping}
use Rattle.clk_base.specs.declared.call.Sleeping.TheVariants as call
use Rattle.clk_base.specs.declared.call.Micro.{Micro}
use Rattle.clk_base.specs.declared.call.Micro.TheVariants as micro
use Rattle.clk_base.specs.declared.call.Notice.TheVariants as notice
use Rattle.clk_base.specs.declared.event.Errno.TheVariants as errno
use Rattle.clk_base.specs.declared.event.Event.{Event}
use Rattle.clk_base.specs.declared.event.Event.TheVariants as event
use Rattle.clk_base.specs.declared.event.Reply.{Reply}
use Rattle.clk_base.specs.declared.event.Reply.TheVariants as reply
use Rattle.clk_base.specs.declared.event.Turn.{Turn}
use Rattle.clk_base.specs.declared.event.Turn.TheVariants as turn
use Rattle.clk_model.specs.declared.row.HandleRow.{HandleRow}
use Rattle.clk_model.specs.State.{State, Change, NotifierRow, ChainStep, handle_at}
use Rattle.clk_model.specs.Gates.{settled}
use Rattle.clk_model.specs.Round.{wiring}
use Rattle.clk_model.specs.Chain.{clock_id}
use Rattle.clk_model.specs.Walk.{changing}
use Rattle.clk_model.specs.Notices.{Rates, notifiers_of, vetoes, until_veto, is_veto}
use Rattle.clk_model.specs.Begin.{begun}
use Rattle.clk_model.specs.Step.{todo, rest_of, left_behind, taken, on, with_range, range_back, unranged, ended_well, end_of, stepped}
use Rattle.clk_model.specs.Machine.{comes_next, next}
use Rattle.clk_model.specs.Prep.{without_enables, change_prep, prep}
use Rattle.clk_model.specs.Tier.{is_enable_tier}
use Rattle.clk_model.specs.Laws.Flight.{Flight, begins, goes_on, beside, script, plan, plan_rates, pre_notices, abort_notices, IsCalledOff}
use Rattle.clk_model.proofs.NoneLaws.{none_append, none_map, none_flat_map, none_if, none_front, none_rest}
use Rattle.clk_model.proofs.MicroLaws.{comes_first}
use Rattle.clk_model.proofs.PrepLaws.{prep-settled, prep-spent, prep-steps}
use Rattle.clk_model.proofs.TierLaws.{enable_tier_leaves_prep, beside_change}
use Rattle.clk_model.proofs.BeginLaws.{undone, IsOff, IsBegun, begun_going}
use Rattle.clk_model.proofs.FlightLaws.{IsStep, step_is, begin_is, course_of}
use Rattle.std.proofs.lemmas.Option.{same_Some}

-- ---- notices

-- a step that isn't a notice
abbrev pub is_other : Micro → Bool
is_other (micro.Notify kind c id old new) = false
is_other _ = true

until_veto_notices : (rates : Rates) (c : ℕ) (ns : List NotifierRow) → list_any is_other (until_veto rates c ns) ≡ false
until_veto_notices rates c [] = refl
until_veto_notices rates c (n ∷ ns) =
    none_if is_other (vetoes n.policy (slice_index rates.outcome c)) [] (until_veto rates c ns) refl (until_veto_notices rates c ns)

pub pre_are_notices : (q : State) (ks : List ChainStep) → list_any is_other (pre_notices q ks) ≡ false
pre_are_notices q ks = none_flat_map is_other _ (changing q.order (wiring q) ks) (λ c. until_veto_notices (plan_rates q ks) c (notifiers_of q.notifiers c))

pub abort_are_notices : (q : State) (ks : List ChainStep) → list_any is_other (abort_notices q ks) ≡ false
abort_are_notices q ks =
    none_flat_map is_other _ (changing q.order (wiring q) ks)
    (λ c. none_map is_other (λ n. micro.Notify notice.Abort (clock_id c) n.id (slice_index (plan_rates q ks).before c) (slice_index (plan_rates q ks).outcome c)) (notifiers_of q.notifiers c) (λ n. refl))

-- a notice takes its turn, and nothing else
notice_step : (s : State) (k : Change) (answer : Option Bool) (m : Micro) → is_other m ≡ false → stepped s k answer m ≡ (on s k, turn.Going)
unfolding stepped
notice_step s k answer (micro.Notify kind c id old new) e = refl
notice_step s k answer _ e = absurd cc

-- ---- the range that is put back

with_range_masked : (range : ℕ × ℕ) (handles : List (Option HandleRow)) (n : ℕ)
    → map (option_map without_enables) (slice_set handles n (option_map (with_range range) (handle_at handles n)))
    ≡ slice_set (map (option_map without_enables) handles) n (option_map (with_range range) (handle_at (map (option_map without_enables) handles) n))
with_range_masked range [] n = refl
with_range_masked range (None ∷ handles) zero = refl
with_range_masked range (Some h ∷ handles) zero = refl
with_range_masked range (o ∷ handles) (suc n) = ap (λ (hs : List (Option HandleRow)). option_map without_enables o ∷ hs) (with_range_masked range handles n)

range_back_masked : (what : Sleeping) (range : Option (ℕ × ℕ)) (handles : List (Option HandleRow))
    → map (option_map without_enables) (range_back what range handles) ≡ range_back what range (map (option_map without_enables) handles)
range_back_masked (call.SetRange h least most) (Some range) handles = with_range_masked range handles h.number
range_back_masked (call.SetRange h least most) None handles = refl
range_back_masked _ range handles = refl

-- a call that is called off leaves what its beginning has changed undone
prep-unranged : (s : State) (k : Change) → prep (record (unranged s k) { change = None }) ≡ undone (prep s) k
unfolding prep
prep-unranged s k =
    ap (λ (hs : List (Option HandleRow)). let p : State = record (prep s) { handles = hs; change = None } in p) (range_back_masked k.call k.range s.handles)

prep-quiet : (q : State) → q.change ≡ None → record (prep q) { change = None } ≡ prep q
unfolding prep
prep-quiet q quiet = ap (λ (o : Option Change). let p : State = record (prep q) { change = option_map change_prep o } in p) (sym quiet)

-- ---- a flight that is called off

-- a change that a notice of it vetoes: the notices to come and the end are left, the steps made were the notices before them, and
-- of the prepare tier's part nothing is changed but a range that is put back
record IsCallingOff (q : State) (d : ℕ) (what : Sleeping) (s : State) (made : List Micro) : Type 0 where
  now : Change
  at : s.change ≡ Some now
  front : now.front ≡ []
  vetoed : now.vetoed ≡ true
  coming : List Micro
  left : now.left ≡ coming ++ micro.End ∷ []
  notices : list_any is_other coming ≡ false
  parts : made ++ coming ≡ pre_notices q (plan q d what) ++ abort_notices q (plan q d what)
  whole : script q d what ≡ (pre_notices q (plan q d what) ++ abort_notices q (plan q d what)) ++ micro.End ∷ []
  undone_is : undone (prep s) now ≡ record (prep q) { change = None }
  quiet : q.change ≡ None

off_begins : (q s : State) (d : ℕ) (what : Sleeping) → next q d (event.Begin what) ≡ Some (s, turn.Going) → list_any is_veto (script q d what) ≡ true
    → IsCallingOff q d what s []
unfolding settled prep
off_begins q s d what step veto =
    let start = begin_is q s d what turn.Going step in
    let going = (begun_going q d what).from start.2 in
    let n : State = going.0 in
    let k : Change = going.1 in
    let h : IsBegun q d what n k = going.3 in
    let changed : (begun q d what).0.change ≡ Some k = ap (λ (u : State). u.change) going.2 in
    let own : script q d what ≡ k.left = ap (λ (o : Option Change). option_map_or (λ j. j.left) o []) changed in
    let chained : plan q d what ≡ k.chain = ap (λ (o : Option Change). option_map_or (λ j. j.chain) o []) changed in
    let is_vetoed : k.vetoed ≡ true = h.vetoed ∙ ap (λ (ms : List Micro). list_any is_veto ms) (sym own) ∙ veto in
    let off : IsOff q n k = h.off is_vetoed in
    let left : k.left ≡ (pre_notices q (plan q d what) ++ abort_notices q (plan q d what)) ++ micro.End ∷ [] =
    off.notices ∙ ap (λ (ks : List ChainStep). (pre_notices q ks ++ abort_notices q ks) ++ micro.End ∷ []) (sym chained) in
    record {
      now = k;
      at = sym (ap (λ (u : State). u.change) start.1) ∙ changed;
      front = h.front;
      vetoed = is_vetoed;
      coming = pre_notices q (plan q d what) ++ abort_notices q (plan q d what);
      left = left;
      notices = none_append is_other (pre_notices q (plan q d what)) (abort_notices q (plan q d what)) (pre_are_notices q (plan q d what)) (abort_are_notices q (plan q d what));
      parts = refl;
      whole = own ∙ left;
      undone_is =
          ap (λ (u : State). undone (prep u) k) (sym start.1)
          ∙ ap (λ (p : State). undone p k) (prep-spent (settled q (begun q d what).0) (q.spent + 1) ∙ prep-settled q (begun q d what).0)
          ∙ ap (λ (u : State). undone (prep u) k) going.2
          ∙ off.undone_is;
      quiet = start.0;
    }

off_beside : (q s t : State) (d other : ℕ) (what : Sleeping) (made : List Micro) (e : Event) (x : Turn) → is_enable_tier e ≡ true → IsCallingOff q d what s made
    → next s other e ≡ Some (t, x) → IsCallingOff q d what t made
off_beside q s t d other what made e x tier off step = record {
  now = off.now;
  at = beside_change s t other e x tier step ∙ off.at;
  front = off.front;
  vetoed = off.vetoed;
  coming = off.coming;
  left = off.left;
  notices = off.notices;
  parts = off.parts;
  whole = off.whole;
  undone_is = ap (λ (p : State). undone p off.now) (enable_tier_leaves_prep s t other e x tier step) ∙ off.undone_is;
  quiet = off.quiet;
}

-- the step that comes next is a notice to come, or the end behind the last of them
first_of : (m : Micro) (coming : List Micro) → comes_next m (coming ++ micro.End ∷ []) ≡ true → list_any is_other coming ≡ false
    → ((is_other m ≡ false) × (rest : List Micro) × (coming ≡ m ∷ rest)) ⊎ ((m ≡ micro.End) × (coming ≡ []))
first_of m [] first none = let is = comes_first m (micro.End ∷ []) first in inr (head_is m is.0 is.1, refl) where
  head_is : (m : Micro) (rest : List Micro) → micro.End ∷ [] ≡ m ∷ rest → m ≡ micro.End
  head_is m rest e = ap (λ (ms : List Micro). head_or ms) (sym e) where
    head_or : List Micro → Micro
    head_or [] = micro.End
    head_or (n ∷ ns) = n
first_of m (n ∷ ns) first none =
    let is = comes_first m ((n ∷ ns) ++ micro.End ∷ []) first in
    let same : n ≡ m = ap (λ (ms : List Micro). head_or ms) is.1 in
    inl (ap is_other (sym same) ∙ none_front is_other n ns none, ns, ap (λ (x : Micro). x ∷ ns) same) where
      head_or : List Micro → Micro
      head_or [] = micro.End
      head_or (n ∷ ns) = n

-- a change takes its next step from the script, where nothing stands in front
coming_first : (q s : State) (d : ℕ) (what : Sleeping) (made : List Micro) (m : Micro) → (off : IsCallingOff q d what s made) → comes_next m (todo off.now) ≡ true
    → comes_next m (off.coming ++ micro.End ∷ []) ≡ true
coming_first q s d what made m off first =
    ap (λ (ms : List Micro). comes_next m ms) (sym (ap (λ (ms : List Micro). ms ++ off.now.left) off.front ∙ off.left)) ∙ first

pub end_turn : (s : State) (k : Change) (answer : Option Bool) (m : Micro) → m ≡ micro.End → (stepped s k answer m).1 ≡ (end_of s k).1
unfolding stepped
end_turn s k answer m e = ap (λ (n : Micro). (stepped s k answer n).1) e

pub end_state : (s : State) (k : Change) (answer : Option Bool) (m : Micro) → m ≡ micro.End → (stepped s k answer m).0 ≡ (end_of s k).0
unfolding stepped
end_state s k answer m e = ap (λ (n : Micro). (stepped s k answer n).0) e

pub not_done : (r : Reply) → turn.Done r ≡ turn.Going → ⊥
not_done r e = absurd cc

off_notice : (q s t : State) (d : ℕ) (what : Sleeping) (made : List Micro) (m : Micro) (answer : Option Bool) (x : Turn) (rest : List Micro) → (off : IsCallingOff q d what s made)
    → IsStep s t d m answer x off.now → is_other m ≡ false → off.coming ≡ m ∷ rest → IsCallingOff q d what t (made ++ m ∷ [])
unfolding settled prep
off_notice q s t d what made m answer x rest off step told comes =
    let k : Change = off.now in
    let does : stepped s (taken k) answer m ≡ (on s (taken k), turn.Going) = notice_step s (taken k) answer m told in
    let state : record (settled s (on s (taken k))) { steps = s.steps + 1 } ≡ t =
    ap (λ (y : State × Turn). let u : State = record (settled s y.0) { steps = s.steps + 1 } in u) (sym does) ∙ step.state in
    record {
      now = taken k;
      at = sym (ap (λ (u : State). u.change) state);
      front = ap (λ (ms : List Micro). rest_of ms) off.front;
      vetoed = off.vetoed;
      coming = rest;
      left = ap (λ (ms : List Micro). left_behind ms k.left) off.front ∙ ap (λ (ms : List Micro). rest_of ms) off.left ∙ ap (λ (ms : List Micro). rest_of (ms ++ micro.End ∷ [])) comes;
      notices = none_rest is_other m rest (ap (λ (ms : List Micro). list_any is_other ms) (sym comes) ∙ off.notices);
      parts = append_assoc made (m ∷ []) rest ∙ ap (λ (ms : List Micro). made ++ ms) (sym comes) ∙ off.parts;
      whole = off.whole;
      undone_is =
          ap (λ (u : State). undone (prep u) (taken k)) (sym state)
          ∙ ap (λ (p : State). undone p (taken k)) (prep-steps (settled s (on s (taken k))) (s.steps + 1) ∙ prep-settled s (on s (taken k)))
          ∙ off.undone_is;
      quiet = off.quiet;
    }

off_goes_on : (q s t : State) (d : ℕ) (what : Sleeping) (made : List Micro) (m : Micro) (answer : Option Bool) → (off : IsCallingOff q d what s made)
    → IsStep s t d m answer turn.Going off.now → IsCallingOff q d what t (made ++ m ∷ [])
off_goes_on q s t d what made m answer off step =
    elim (first_of m off.coming (coming_first q s d what made m off step.first) off.notices) [
      | inl told ↦ off_notice q s t d what made m answer turn.Going told.1 off step told.0 told.2
      | inr ends ↦ absurd (not_done _ (sym (end_turn s (taken off.now) answer m ends.0) ∙ step.answered))
    ]

-- a step of the change
pub of_change : (s t : State) (d : ℕ) (m : Micro) (answer : Option Bool) (x : Turn) (k : Change) → s.change ≡ Some k → next s d (event.Step m answer) ≡ Some (t, x) → IsStep s t d m answer x k
of_change s t d m answer x k at step =
    let is = step_is s t d m answer x step in
    subst (λ (j : Change). IsStep s t d m answer x j) (same_Some is.0 k (sym is.1.at ∙ at)) is.1

-- a call whose script has a veto is being called off as long as it is in flight
calling_off : (q : State) (d : ℕ) (what : Sleeping) → list_any is_veto (script q d what) ≡ true → {s : State} {made : List Micro} → Flight q d what s made → IsCallingOff q d what s made
calling_off q d what veto {s = s} (begins step) = off_begins q s d what step veto
calling_off q d what veto {s = t} (goes_on {s = s} {made = made} m answer flight step) =
    let off = calling_off q d what veto flight in
    off_goes_on q s t d what made m answer off (of_change s t d m answer turn.Going off.now off.at step)
calling_off q d what veto {s = t} {made = made} (beside {s = s} {x = x} other e tier flight step) =
    off_beside q s t d other what made e x tier (calling_off q d what veto flight) step

-- ---- the end

end_called_off : (s : State) (k : Change) → k.vetoed ≡ true → (end_of s k).0 ≡ record (unranged s k) { change = None }
end_called_off s k veto = ap (λ (b : Bool). let u : State = record (cond (b || k.timed_out) (unranged s k) (ended_well s k.driver k.call)) { change = None } in u) veto

end_refused : (s : State) (k : Change) → k.vetoed ≡ true → (end_of s k).1 ≡ turn.Done (reply.Refused errno.EBUSY)
end_refused s k veto = ap (λ (b : Bool). turn.Done (cond b (reply.Refused errno.EBUSY) (cond k.timed_out (reply.Refused errno.ETIMEDOUT) reply.Fine))) veto

reply_is : (r r' : Reply) → turn.Done r ≡ turn.Done r' → r ≡ r'
reply_is r r' e = ap (λ (x : Turn). reply_or x) e where
  reply_or : Turn → Reply
  reply_or (turn.Done r) = r
  reply_or turn.Going = reply.Fine

off_ends : (q s t : State) (d : ℕ) (what : Sleeping) (made : List Micro) (m : Micro) (answer : Option Bool) (r : Reply) → (off : IsCallingOff q d what s made)
    → IsStep s t d m answer (turn.Done r) off.now → IsCalledOff q d what made t r
off_ends q s t d what made m answer r off step =
    elim (first_of m off.coming (coming_first q s d what made m off step.first) off.notices) [
      | inl told ↦ absurd (not_done r (sym step.answered ∙ ap (λ (y : State × Turn). y.1) (notice_step s (taken off.now) answer m told.0)))
      | inr ends ↦ record {
        undone =
            ap (λ (u : State). prep u) (sym step.state)
            ∙ prep-steps (settled s (stepped s (taken off.now) answer m).0) (s.steps + 1) ∙ prep-settled s (stepped s (taken off.now) answer m).0
            ∙ ap (λ (u : State). prep u) (end_state s (taken off.now) answer m ends.0 ∙ end_called_off s (taken off.now) off.vetoed)
            ∙ prep-unranged s (taken off.now)
            ∙ off.undone_is
            ∙ prep-quiet q off.quiet;
        refused = reply_is r (reply.Refused errno.EBUSY) (sym step.answered ∙ end_turn s (taken off.now) answer m ends.0 ∙ end_refused s (taken off.now) off.vetoed);
        notices = sym (no_more made) ∙ ap (λ (ms : List Micro). made ++ ms) (sym ends.1) ∙ off.parts;
      }
    ] where
      no_more : (ms : List Micro) → ms ++ [] ≡ ms
      no_more [] = refl
      no_more (n ∷ ns) = ap (λ (ms : List Micro). n ∷ ms) (no_more ns)

-- a veto among the steps made is one of the script
script_vetoed : (q s : State) (d : ℕ) (what : Sleeping) (made : List Micro) → Flight q d what s made → list_any is_veto made ≡ true → list_any is_veto (script q d what) ≡ true
script_vetoed q s d what made flight veto =
    elim (list_any is_veto (script q d what)) as (λ b. list_any is_veto (script q d what) ≡ b → b ≡ true) [
      | true ↦ λ e. refl
      | false ↦ λ e. let no : true ≡ false = sym veto ∙ ((course_of q d what flight).unvetoed e).0 in absurd cc
    ] refl

-- a call of which a notice was vetoed is called off at its end
pub vetoed_over : (q s t : State) (d : ℕ) (what : Sleeping) (made : List Micro) (m : Micro) (answer : Option Bool) (r : Reply) → Flight q d what s made
    → list_any is_veto made ≡ true → next s d (event.Step m answer) ≡ Some (t, turn.Done r) → IsCalledOff q d what made t r
vetoed_over q s t d what made m answer r flight veto step =
    let off = calling_off q d what (script_vetoed q s d what made flight veto) flight in
    off_ends q s t d what made m answer r off (of_change s t d m answer (turn.Done r) off.now off.at step)

-- ---- the converse

not_busy : (late : Bool) → cond late (reply.Refused errno.ETIMEDOUT) reply.Fine ≡ reply.Refused errno.EBUSY → ⊥
not_busy true e = absurd cc
not_busy false e = absurd cc

-- a step that ends a call is the end
pub ends_it : (s : State) (k : Change) (answer : Option Bool) (m : Micro) (r : Reply) → (stepped s k answer m).1 ≡ turn.Done r → m ≡ micro.End
unfolding stepped
ends_it s k answer micro.End r e = refl
ends_it s k answer m r e = absurd cc

-- a call that goes on and is refused by EBUSY at its end was vetoed
pub busy_by_veto : (q s t : State) (d : ℕ) (what : Sleeping) (made : List Micro) (m : Micro) (answer : Option Bool) → Flight q d what s made
    → next s d (event.Step m answer) ≡ Some (t, turn.Done (reply.Refused errno.EBUSY)) → list_any is_veto made ≡ true
busy_by_veto q s t d what made m answer flight step =
    let course = course_of q d what flight in
    let k : Change = course.now in
    let is = of_change s t d m answer (turn.Done (reply.Refused errno.EBUSY)) k course.at step in
    elim k.vetoed as (λ b. k.vetoed ≡ b → list_any is_veto made ≡ true) [
      | true ↦ λ e.
          let veto : list_any is_veto (script q d what) ≡ true = sym course.vetoed ∙ e in
          let off = calling_off q d what veto flight in
          let over = off_ends q s t d what made m answer (reply.Refused errno.EBUSY) off (of_change s t d m answer (turn.Done (reply.Refused errno.EBUSY)) off.now off.at step) in
          no_end (list_any is_veto made)
          (sym (list_any-append is_veto made (micro.End ∷ [])) ∙ ap (λ (ms : List Micro). list_any is_veto (ms ++ micro.End ∷ [])) over.notices ∙ ap (λ (ms : List Micro). list_any is_veto ms) (sym off.whole) ∙ veto)
      | false ↦ λ e.
          let answered : reply.Refused errno.EBUSY ≡ cond k.timed_out (reply.Refused errno.ETIMEDOUT) reply.Fine =
          reply_is (reply.Refused errno.EBUSY) (cond k.timed_out (reply.Refused errno.ETIMEDOUT) reply.Fine)
          (sym is.answered ∙ end_turn s (taken k) answer m (ends_it s (taken k) answer m (reply.Refused errno.EBUSY) is.answered)
          ∙ ap (λ (b : Bool). turn.Done (cond b (reply.Refused errno.EBUSY) (cond k.timed_out (reply.Refused errno.ETIMEDOUT) reply.Fine))) e) in
          absurd (not_busy k.timed_out (sym answered))
    ] refl where
      no_end : (b : Bool) → (b || false) ≡ true → b ≡ true
      no_end true e = refl
      no_end false e = e
