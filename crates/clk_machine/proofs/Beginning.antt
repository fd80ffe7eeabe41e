-- How a call that changes a rate or a parent begins, by its answer or by its plan.
use Rattle.std.proofs.Common.{◌≡◌, ℕ, ◌&&◌, ◌||◌, Bool, true, false, not, List, [], ◌∷◌, Option, Some, None, refl, sym, ap, subst, ◌∙◌, map, set, is_some}
use mathlib.Core.Bool.{beq}
use Rattle.std.specs.List.{AllByRecursion, list_all}
use Rattle.std.specs.Option.{option_map_or}
use Rattle.std.specs.Prelude.{nat_le, length}
use Rattle.clk_base.specs.Description.{Description, kind_of, parents_of}
use Rattle.clk_base.specs.Flags.{sets_parent_gate}
use Rattle.clk_base.specs.declared.call.Sleeping.{Sleeping}
use Rattle.clk_base.specs.declared.call.Sleeping.TheVariants as call
use Rattle.clk_base.specs.declared.clock.ClockId.{ClockId}
use Rattle.clk_base.specs.declared.event.Errno.{Errno}
use Rattle.clk_base.specs.declared.event.Errno.TheVariants as errno
use Rattle.clk_base.specs.declared.event.Reply.{Reply}
use Rattle.clk_base.specs.declared.event.Reply.TheVariants as reply
use Rattle.clk_base.specs.declared.event.Turn.{Turn}
use Rattle.clk_base.specs.declared.event.Turn.TheVariants as turn
use Rattle.clk_base.specs.declared.handle.Handle.{Handle}
use Rattle.clk_model.specs.declared.row.ClockRow.{ClockRow}
use Rattle.clk_model.specs.declared.row.HandleRow.{HandleRow}
use Rattle.clk_model.specs.Begin.{pick, done, refused, starts, change_along, own_handle, request, request_between, range_set, misses, held_once_more, reparenting, parent_set, begun}
use Rattle.clk_model.specs.Chain.{chain, outcome}
use Rattle.clk_model.specs.Holders.{guarded, prepared}
use Rattle.clk_model.specs.Journal.{slotless}
use Rattle.clk_model.specs.Laws.CallCauses.{with_limits}
use Rattle.clk_model.specs.Round.{wiring, rate_in}
use Rattle.clk_model.specs.State.{State, Change, ChainStep, handle_at, registered}
use Rattle.clk_model.specs.Views.{view, lift}
use Rattle.clk_model.specs.Wired.{LinesEnd, LinksArePossible}
use Rattle.clk_model.proofs.EventLaws.{with-none, own_is_live}
use Rattle.clk_tree.specs.declared.plan.Plan.{Plan}
use Rattle.clk_tree.specs.declared.walk_rates.WalkRate.{WalkRate}
use Rattle.clk_tree.specs.Plans.{AreThere, rates_of}
use Rattle.counts_core.specs.Counted.{is_prepared}
use Rattle.counts_core.specs.Standing.{StandsFor}
use Rattle.change_walk.specs.Given.{Script, IsPlanFor, OfPlan}
use Rattle.change_walk.proofs.Leading.{parent_fits, request_fits}
use Rattle.core_parts.specs.InFlight.{changes_rate}
use Rattle.core_parts.specs.Planned.{IsScriptOf, IsPlanOf}
use Rattle.core_parts.proofs.Deciding.{plan_is, script_told}
use Rattle.core_parts.proofs.Holdings.{moves_none, StandsFor-put}
use Rattle.counts_core.proofs.Standing.{tells_holds}
use Rattle.clk_machine.specs.Beginning.{IsSuited}
use Rattle.clk_machine.specs.Copied.{GoesOnBy}
use Rattle.clk_machine.specs.Deciding.{EndsAtOnce, GoesOn, handle_of, left_at_once, made_in}
use Rattle.clk_machine.specs.Holding.{ranged}
use Rattle.clk_machine.specs.Parts.{Parts, IsOwnCall, IsWhole, own_in}
use Rattle.clk_machine.specs.Sound.{IsSound}
use Rattle.clk_machine.specs.Stands.{Stands}
use Rattle.clk_model.proofs.Members.{both_left, both_right}
use Rattle.clk_machine.proofs.Asking.{pair_is}
use Rattle.clk_machine.proofs.Carrying.{GoesOrFull, exclusive_begins, fine_answer, no_answer, parent_begins, parent_goes, range_begins, rate_begins, starts_turn, inside}
use Rattle.clk_machine.proofs.Decided.{its_notifiers, over_parts}
use Rattle.clk_machine.proofs.DecidedParent.{parent_planned}
use Rattle.clk_machine.proofs.Writing.{counts_stand}

-- ---- how it ends at once

-- a beginning leaves the state and isn't answered by Ok, is answered by Ok and comes to this state, or goes on
data Ends (o f : State) : State × Turn → Type 0 where
  leaves : (x : State × Turn) → x.0 ≡ o → (x.1 ≡ turn.Done reply.Fine → ⊥) → Ends o f x
  fine : (x : State × Turn) → x ≡ done f reply.Fine → Ends o f x
  goes_on : (x : State × Turn) → x.1 ≡ turn.Going → Ends o f x

pick_ends : (o f : State) (b : Bool) (g h : Unit {0} → State × Turn) → Ends o f (g tt) → Ends o f (h tt) → Ends o f (pick b g h)
unfolding pick
pick_ends o f true g h one two = one
pick_ends o f false g h one two = two

refused_ends : (o f : State) (e : Errno) → Ends o f (refused o e)
refused_ends o f e = leaves (refused o e) refl (λ is. absurd cc)

starts_ends : (o f n : State) (k : Change) → Ends o f (starts o n k)
starts_ends o f n k = pick_ends o f _ _ _ (refused_ends o f errno.ENOSPC) (goes_on (record n { change = Some k }, turn.Going) refl)

request_ends : (o n f l : State) (d : ℕ) (what : Sleeping) (c x : ℕ) (range : Option (ℕ × ℕ)) → Ends o f (request o n f l d what c x range)
request_ends o n f l d what c x range =
    pick_ends o f _ _ _ (fine (done f reply.Fine) refl) (pick_ends o f _ _ _ (refused_ends o f errno.EBUSY) (by (chain (wiring n) (view l) c x))) where
      by : (a : Option (List ChainStep)) → Ends o f (option_map_or (λ ks. starts o n (change_along n d what ks [] range)) a (refused o errno.EINVAL))
      by None = refused_ends o f errno.EINVAL
      by (Some ks) = starts_ends o f n (change_along n d what ks [] range)

parent_ends : (s l : State) (d : ℕ) (what : Sleeping) (c p : ℕ) → Ends s s (parent_set s l d what c p)
parent_ends s l d what c p =
    pick_ends s s _ _ _ (fine (done s reply.Fine) refl)
    (pick_ends s s _ _ _ (refused_ends s s errno.EPERM)
    (pick_ends s s _ _ _ (refused_ends s s errno.EBUSY)
    (pick_ends s s _ _ _ (starts_ends s s s (reparenting s d what c p)) (refused_ends s s errno.EINVAL))))

-- a call that changes a rate or a parent leaves the state without Ok, ends at once, or goes on
pub data EndsSo (s : State) (d : ℕ) (what : Sleeping) : Type 0 where
  is_refused : (begun s d what).0 ≡ s → ((begun s d what).1 ≡ turn.Done reply.Fine → ⊥) → EndsSo s d what
  at_once : EndsAtOnce s d (handle_of what) what → EndsSo s d what
  goes_further : (begun s d what).1 ≡ turn.Going → EndsSo s d what

unknown_ends : (s : State) (d : ℕ) (what : Sleeping) → begun s d what ≡ refused s errno.ENOENT → EndsSo s d what
unknown_ends s d what is = is_refused (ap (λ (x : State × Turn). x.0) is) (λ ok. let no : turn.Done (reply.Refused errno.ENOENT) ≡ turn.Done reply.Fine = sym (ap (λ (x : State × Turn). x.1) is) ∙ ok in cc)

known_ends : (s : State) (d : ℕ) (what : Sleeping) (row : HandleRow) (x : State × Turn) → own_handle s d (handle_of what) ≡ Some row → begun s d what ≡ x → Ends s (left_at_once s what row) x → EndsSo s d what
known_ends s d what row x own is (leaves _ left other) = is_refused (ap (λ (y : State × Turn). y.0) is ∙ left) (λ ok. other (sym (ap (λ (y : State × Turn). y.1) is) ∙ ok))
known_ends s d what row x own is (fine _ same) = at_once (record { row = row; own = own; begins = is ∙ same })
known_ends s d what row x own is (goes_on _ going) = goes_further (ap (λ (y : State × Turn). y.1) is ∙ going)

pub ends_so : (s : State) (d : ℕ) (what : Sleeping) → changes_rate what ≡ true → EndsSo s d what
unfolding begun
ends_so s d (call.SetRate h x) is = by (own_handle s d h.number) refl where
  by : (o : Option HandleRow) → own_handle s d h.number ≡ o → EndsSo s d (call.SetRate h x)
  by None own = unknown_ends s d (call.SetRate h x) (with-none s d h.number (λ row. request s s s (lift s h.number) d (call.SetRate h x) row.clock.0 x None) own)
  by (Some row) own = known_ends s d (call.SetRate h x) row _ own (rate_begins s d h x row own) (request_ends s s s (lift s h.number) d (call.SetRate h x) row.clock.0 x None)
ends_so s d (call.SetRateExclusive h x) is = by (own_handle s d h.number) refl where
  by : (o : Option HandleRow) → own_handle s d h.number ≡ o → EndsSo s d (call.SetRateExclusive h x)
  by None own = unknown_ends s d (call.SetRateExclusive h x) (with-none s d h.number (λ row. request s s (held_once_more s h.number row) s d (call.SetRateExclusive h x) row.clock.0 x None) own)
  by (Some row) own =
      known_ends s d (call.SetRateExclusive h x) row _ own (exclusive_begins s d h x row own) (request_ends s s (held_once_more s h.number row) s d (call.SetRateExclusive h x) row.clock.0 x None)
ends_so s d (call.SetRange h least most) is = by (own_handle s d h.number) refl where
  by : (o : Option HandleRow) → own_handle s d h.number ≡ o → EndsSo s d (call.SetRange h least most)
  by None own = unknown_ends s d (call.SetRange h least most) (with-none s d h.number (λ row. range_set s d (call.SetRange h least most) h.number row least most) own)
  by (Some row) own =
      let n : State = with_limits s h.number row least most in
      known_ends s d (call.SetRange h least most) row _ own (range_begins s d h least most row own)
      (pick_ends s n _ _ _ (refused_ends s n errno.EINVAL)
      (request_ends s n n (lift n h.number) d (call.SetRange h least most) row.clock.0 (request_between s.clocks row.clock.0 least most) (Some (row.min, row.max))))
ends_so s d (call.SetParent h p) is = by (own_handle s d h.number) refl where
  by : (o : Option HandleRow) → own_handle s d h.number ≡ o → EndsSo s d (call.SetParent h p)
  by None own = unknown_ends s d (call.SetParent h p) (with-none s d h.number (λ row. parent_set s (lift s h.number) d (call.SetParent h p) row.clock.0 p.0) own)
  by (Some row) own = known_ends s d (call.SetParent h p) row _ own (parent_begins s d h p row own) (parent_ends s (lift s h.number) d (call.SetParent h p) row.clock.0 p.0)
ends_so s d _ is = absurd cc

-- one that is answered by Ok ends at once
pub fine_ends : (s : State) (d : ℕ) (what : Sleeping) → changes_rate what ≡ true → (begun s d what).1 ≡ turn.Done reply.Fine → EndsAtOnce s d (handle_of what) what
fine_ends s d what is ok = by (ends_so s d what is) where
  by : EndsSo s d what → EndsAtOnce s d (handle_of what) what
  by (is_refused left other) = absurd (other ok)
  by (at_once ends) = ends
  by (goes_further going) = let no : turn.Going ≡ turn.Done reply.Fine = sym going ∙ ok in absurd cc

-- one that is answered otherwise leaves the state
pub answered_leaves : (s : State) (d : ℕ) (what : Sleeping) (r : Reply) → changes_rate what ≡ true → (r ≡ reply.Fine → ⊥) → (begun s d what).1 ≡ slotless (turn.Done r) → begun s d what ≡ (s, slotless (turn.Done r))
answered_leaves s d what r is other told = by (ends_so s d what is) where
  by : EndsSo s d what → begun s d what ≡ (s, slotless (turn.Done r))
  by (is_refused left other_) = pair_is (begun s d what) s (slotless (turn.Done r)) left told
  by (at_once ends) = absurd (other (fine_answer r (sym (ap (λ (x : State × Turn). x.1) ends.begins) ∙ told)))
  by (goes_further going) = absurd (no_answer r (sym going ∙ told))

-- ---- what the parts tell

pub not_other : (a b : Bool) → not (beq a b) ≡ false → a ≡ b
not_other true true e = refl
not_other true false e = absurd cc
not_other false true e = absurd cc
not_other false false e = refl

-- a call on a driver's own handle is its own
pub own_call : (handles : List (Option HandleRow)) (d : ℕ) (what : Sleeping) → changes_rate what ≡ true → is_some (own_in handles d (handle_of what)) ≡ true → IsOwnCall handles d what
own_call handles d (call.SetRate h x) is own = own
own_call handles d (call.SetRateExclusive h x) is own = own
own_call handles d (call.SetRange h least most) is own = own
own_call handles d (call.SetParent h p) is own = tt
own_call handles d _ is own = absurd cc

-- the clocks of rates are registered if each is
pub there_all : (clocks : List ClockRow) (rates : List WalkRate) → list_all (λ r. registered clocks r.clock.0) rates ≡ true → AreThere clocks (rates_of rates)
there_all clocks [] all = tt
there_all clocks (r ∷ rates) all =
    (both_left (registered clocks r.clock.0) (list_all (λ x. registered clocks x.clock.0) rates) all, there_all clocks rates (both_right (registered clocks r.clock.0) (list_all (λ x. registered clocks x.clock.0) rates) all))

pub all_there : (clocks : List ClockRow) (rates : List WalkRate) → AreThere clocks (rates_of rates) → list_all (λ r. registered clocks r.clock.0) rates ≡ true
all_there clocks [] there = refl
all_there clocks (r ∷ rates) there = ap (λ (b : Bool). b && list_all (λ x. registered clocks x.clock.0) rates) there.0 ∙ all_there clocks rates there.1

-- if a call goes on with a plan, the plan suits it
pub suited_of : (m : Parts) (s : State) (d : ℕ) (what : Sleeping) (plan : Plan) (script : Script) → Stands m s → GoesOnBy s d what plan script → IsSuited m d what plan
suited_of m s d what plan script stands goes = record {
  own = ap (λ (hs : List (Option HandleRow)). is_some (own_in hs d (handle_of what))) (sym stands.handles) ∙ ap (λ (o : Option HandleRow). is_some o) goes.own;
  set_parent = goes.set_parent;
  there = subst (λ (rows : List ClockRow). AreThere rows plan.rates) stands.clocks goes.there;
}

-- ---- a script that is made anew

-- counts are those of the state that a change is made in
counts_made : (m : Parts) (s : State) (d : ℕ) (what : Sleeping) (row : HandleRow) → IsWhole m → Stands m s → own_handle s d (handle_of what) ≡ Some row → StandsFor m.counts (made_in s what row)
counts_made m s d (call.SetRange h least most) row whole stands own =
    StandsFor-put m.counts m.counts s h.number row (ranged row least most) (counts_stand m s whole stands) (own_is_live s d h.number row own) refl refl
    (moves_none (λ a. a.enables) m.counts.enables row (ranged row least most) refl refl)
    (moves_none (λ a. a.prepares) m.counts.prepares row (ranged row least most) refl refl)
    (moves_none (λ a. a.exclusives) m.counts.exclusives row (ranged row least most) refl refl)
counts_made m s d _ row whole stands own = counts_stand m s whole stands

made_with : (s : State) (what : Sleeping) (row : HandleRow) → made_in s what row ≡ record s { handles = (made_in s what row).handles }
made_with s (call.SetRange h least most) row = refl
made_with s _ row = refl

module _ (m : Parts) (s : State) (d : ℕ) (plan : Plan) (given script : Script) (whole : IsWhole m) (stands : Stands m s) (sound : IsSound m.window.size s)
    (scripts : OfPlan m.tree (is_prepared m.counts) m.chains plan (λ t. IsScriptOf t plan script)) where
  -- a script that was made of a plan is its script in the state that the change is made in
  script_is : (what : Sleeping) (row : HandleRow) → own_handle s d (handle_of what) ≡ Some row → IsPlanFor (made_in s what row) plan → IsScriptOf (made_in s what row) plan script
  script_is what row own plans =
      let n : State = made_in s what row in
      let hs : List (Option HandleRow) = n.handles in
      subst (λ (u : State). IsPlanFor u plan → IsScriptOf u plan script) (sym (made_with s what row))
      (λ plans_. scripts (record s { handles = hs })
      (script_told (over_parts m s hs stands) whole.tied m.chains (is_prepared m.counts) (its_notifiers m s hs stands)
      (λ c. (tells_holds m.counts (record s { handles = hs }) whole.counted.keeps (subst (λ (u : State). StandsFor m.counts u) (made_with s what row) (counts_made m s d what row whole stands own)) c).prepared))
      plans_) plans

  lines : LinesEnd s.defs
  lines = subst (λ (ds : Description). LinesEnd ds) (whole.tied.defs ∙ sym stands.defs) whole.tied.stands.lines

  links : LinksArePossible s.defs s.clocks
  links = subst (λ (ds : Description). LinksArePossible ds s.clocks) (whole.tied.defs ∙ sym stands.defs)
      (subst (λ (rows : List ClockRow). LinksArePossible m.tree.defs rows) (sym stands.clocks) whole.tied.stands.possible)

  -- so the call goes on with it
  pub remade : (what : Sleeping) → GoesOnBy s d what plan given → GoesOn s d (handle_of what) what plan script
  remade (call.SetRate h x) goes =
      let made = script_is (call.SetRate h x) goes.row goes.own (request_fits s (view (lift s h.number)) goes.row.clock.0 x plan lines links goes.along goes.rates) in
      record { row = goes.row; own = goes.own; begins = goes.begins; along = goes.along; planned = plan_is s plan script d (call.SetRate h x) None goes.set_parent goes.rates made; set_parent = goes.set_parent }
  remade (call.SetRateExclusive h x) goes =
      let made = script_is (call.SetRateExclusive h x) goes.row goes.own (request_fits s (view s) goes.row.clock.0 x plan lines links goes.along goes.rates) in
      record { row = goes.row; own = goes.own; begins = goes.begins; along = goes.along; planned = plan_is s plan script d (call.SetRateExclusive h x) None goes.set_parent goes.rates made; set_parent = goes.set_parent }
  remade (call.SetRange h least most) goes =
      let n : State = with_limits s h.number goes.row least most in
      let made = script_is (call.SetRange h least most) goes.row goes.own
      (request_fits n (view (lift n h.number)) goes.row.clock.0 (request_between s.clocks goes.row.clock.0 least most) plan lines links goes.along goes.rates) in
      record {
        row = goes.row;
        own = goes.own;
        begins = goes.begins;
        along = goes.along;
        planned = plan_is n plan script d (call.SetRange h least most) (Some (goes.row.min, goes.row.max)) goes.set_parent goes.rates made;
        set_parent = goes.set_parent;
      }
  remade (call.SetParent h p) goes =
      let c = goes.row.clock.0 in
      let bare : List ChainStep = record { clock = c; rate = 0; parent = Some p.0 } ∷ [] in
      let at : plan.chain ≡ record { clock = c; rate = rate_in (outcome bare (wiring s)) c; parent = Some p.0 } ∷ [] = sym (inside goes.along) in
      let turn_ : GoesOrFull (begun s d (call.SetParent h p)).1 =
      subst (λ (z : State × Turn). GoesOrFull z.1) (sym goes.begins) (starts_turn s s (reparenting s d (call.SetParent h p) c p.0)) in
      let possible = (parent_goes s (lift s h.number) d (call.SetParent h p) c p.0 (subst (λ (z : State × Turn). GoesOrFull z.1) (parent_begins s d h p goes.row goes.own) turn_)).1 in
      let made = script_is (call.SetParent h p) goes.row goes.own (parent_fits s c p.0 (rate_in (outcome bare (wiring s)) c) plan possible at goes.rates) in
      record {
        row = goes.row;
        own = goes.own;
        begins = goes.begins;
        along = goes.along;
        planned = parent_planned s d c p.0 h p plan at goes.set_parent script goes.rates made;
        set_parent = goes.set_parent;
      }
  remade _ goes = absurd (no_chain goes.along) where
    no_chain : {ks : List ChainStep} → None ≡ Some ks → ⊥
    no_chain e = cc
