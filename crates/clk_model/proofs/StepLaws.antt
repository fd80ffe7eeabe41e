-- Laws on steps: what a step leaves of its change.
use Rattle.std.proofs.Common.{◌≡◌, ℕ, ◌+◌, ◌-◌, ◌⊎◌, inl, inr, Bool, true, false, cond, List, [], ◌∷◌, ◌++◌, Option, Some, None, refl, map}
use Rattle.std.specs.Prelude.{slice_get, slice_index, reverse, length, nat_le, ◌==◌}
use Rattle.std.specs.List.{list_any}
use Rattle.clk_base.specs.declared.call.Micro.{Micro}
use Rattle.clk_base.specs.declared.call.Micro.TheVariants as micro
use Rattle.clk_base.specs.declared.call.Notice.TheVariants as notice
use Rattle.clk_base.specs.declared.event.Turn.TheVariants as turn
use Rattle.clk_model.specs.State.{State, Change, NotifierRow}
use Rattle.clk_model.specs.Chain.{clock_id}
use Rattle.clk_model.specs.Rate.{rate}
use Rattle.clk_model.specs.Notices.{Rates, notifiers_of, is_veto, abort_list, post_list}
use Rattle.clk_model.specs.Step.{sets_parent, cut_short, aborts_of, on, timed_out, to_raise, raise_one, raise, poll, is_yes, to_lower, lower_one, lower, set_in_chain, visit, stepped}
use Rattle.clk_model.proofs.NoneLaws.{none_append, none_map, none_flat_map, none_if}
use Rattle.clk_model.proofs.Cases.{by_option, by_test}

-- a raise, or a poll that comes of one
abbrev pub raises : Micro → Bool
raises (micro.Raise x) = true
raises (micro.Poll x) = true
raises _ = false

-- what a step leaves of a change: what it is, what it was planned by, and what is left of its script
pub record IsAfter (m : Micro) (k k' : Change) : Type 0 where
  pub driver : k'.driver ≡ k.driver
  pub call : k'.call ≡ k.call
  pub chain : k'.chain ≡ k.chain
  pub vetoed : k'.vetoed ≡ k.vetoed
  pub left : ((k'.left ≡ k.left) × (k'.timed_out ≡ k.timed_out) × (k'.missed ≡ k.missed)) ⊎ ((raises m ≡ true) × (k'.left ≡ cut_short k.call k.left) × (k'.timed_out ≡ true))
  pub unvetoed : list_any is_veto k.front ≡ false → list_any is_veto k'.front ≡ false
  pub calm : raises m ≡ false → list_any raises k.front ≡ false → list_any raises k'.front ≡ false

-- the same of the change that a state has
abbrev Leaves : Micro → Change → Option Change → Type 0
Leaves m k None = ⊥
Leaves m k (Some k') = IsAfter m k k'

-- a change that stays
stays : (m : Micro) (k : Change) → IsAfter m k k
stays m k = record {
  driver = refl;
  call = refl;
  chain = refl;
  vetoed = refl;
  left = inl (refl, refl, refl);
  unvetoed = λ none. none;
  calm = λ e none. none;
}

-- one that differs in its raised list and its counters alone
recounted : (m : Micro) (k : Change) (raised : List ℕ) (polls again : ℕ) → IsAfter m k (record k { raised = raised; polls = polls; again = again })
recounted m k raised polls again = record {
  driver = refl;
  call = refl;
  chain = refl;
  vetoed = refl;
  left = inl (refl, refl, refl);
  unvetoed = λ none. none;
  calm = λ e none. none;
}

-- ---- PLLs

one_raised : (s : State) (k : Change) (x y : ℕ) → IsAfter (micro.Raise (clock_id x)) k (record k {
  raised = y ∷ k.raised;
  polls = 32;
  again = cond (nat_le 2 (length (to_raise s k x))) (k.again + 1) 0;
  front = micro.Poll (clock_id y) ∷ (cond (nat_le 2 (length (to_raise s k x))) (micro.Raise (clock_id x) ∷ []) []) ++ k.front;
})
one_raised s k x y = record {
  driver = refl;
  call = refl;
  chain = refl;
  vetoed = refl;
  left = inl (refl, refl, refl);
  unvetoed = λ none. none_append is_veto (cond (nat_le 2 (length (to_raise s k x))) (micro.Raise (clock_id x) ∷ []) []) k.front
      (none_if is_veto (nat_le 2 (length (to_raise s k x))) (micro.Raise (clock_id x) ∷ []) [] refl refl) none;
  calm = λ e none. absurd cc;
}

raise_leaves : (s : State) (k : Change) (x : ℕ) → Leaves (micro.Raise (clock_id x)) k (raise s k x).change
raise_leaves s k x =
    by_option (λ u. Leaves (micro.Raise (clock_id x)) k u.change) (slice_get (reverse (to_raise s k x)) 0) (raise_one s k x) (on s (record k { again = 0 }))
    (recounted (micro.Raise (clock_id x)) k k.raised k.polls 0) (one_raised s k x)

one_lowered : (s : State) (k : Change) (x y : ℕ) → Leaves (micro.Lower (clock_id x)) k (lower_one s k x y).change
one_lowered s k x y = record {
  driver = refl;
  call = refl;
  chain = refl;
  vetoed = refl;
  left = inl (refl, refl, refl);
  unvetoed = λ none. none_append is_veto (cond (nat_le 2 (length (to_lower s x))) (micro.Lower (clock_id x) ∷ []) []) k.front
      (none_if is_veto (nat_le 2 (length (to_lower s x))) (micro.Lower (clock_id x) ∷ []) [] refl refl) none;
  calm = λ e none. none_append raises (cond (nat_le 2 (length (to_lower s x))) (micro.Lower (clock_id x) ∷ []) []) k.front
      (none_if raises (nat_le 2 (length (to_lower s x))) (micro.Lower (clock_id x) ∷ []) [] refl refl) none;
}

lower_leaves : (s : State) (k : Change) (x : ℕ) → Leaves (micro.Lower (clock_id x)) k (lower s k x).change
lower_leaves s k x =
    by_option (λ u. Leaves (micro.Lower (clock_id x)) k u.change) (slice_get (to_lower s x) 0) (lower_one s k x) (on s (record k { again = 0 }))
    (recounted (micro.Lower (clock_id x)) k k.raised k.polls 0) (one_lowered s k x)

-- ---- timing out

abort_is_no_veto : (rates : Rates) (notifiers : List NotifierRow) (cs : List ℕ) → list_any is_veto (abort_list rates notifiers cs) ≡ false
abort_is_no_veto rates notifiers cs =
    none_flat_map is_veto _ cs (λ c. none_map is_veto (λ n. micro.Notify notice.Abort (clock_id c) n.id (slice_index rates.before c) (slice_index rates.outcome c)) (notifiers_of notifiers c) (λ n. refl))

time_out_leaves : (s : State) (k : Change) (y : ℕ) → Leaves (micro.Poll (clock_id y)) k (timed_out s (record k { polls = 0 })).change
time_out_leaves s k y = record {
  driver = refl;
  call = refl;
  chain = refl;
  vetoed = refl;
  left = inr (refl, refl, refl);
  unvetoed = λ none. none_append is_veto (map (λ z. micro.Fall (clock_id z)) k.raised) (aborts_of s k)
      (none_map is_veto (λ z. micro.Fall (clock_id z)) k.raised (λ z. refl))
      (none_if is_veto (sets_parent k.call) (abort_list (record { before = k.before; outcome = k.outcome }) s.notifiers k.changing) []
      (abort_is_no_veto (record { before = k.before; outcome = k.outcome }) s.notifiers k.changing) refl);
  calm = λ e none. absurd cc;
}

poll_again : (s : State) (k : Change) (y : ℕ) → Leaves (micro.Poll (clock_id y)) k (on s (record k { polls = k.polls - 1; front = micro.Poll (clock_id y) ∷ k.front })).change
poll_again s k y = record {
  driver = refl;
  call = refl;
  chain = refl;
  vetoed = refl;
  left = inl (refl, refl, refl);
  unvetoed = λ none. none;
  calm = λ e none. absurd cc;
}

poll_leaves : (s : State) (k : Change) (y : ℕ) (b : Bool) → Leaves (micro.Poll (clock_id y)) k (poll s k y b).change
poll_leaves s k y true = recounted (micro.Poll (clock_id y)) k k.raised 0 k.again
poll_leaves s k y false =
    by_test (λ u. Leaves (micro.Poll (clock_id y)) k u.change) (nat_le k.polls 1) (timed_out s (record k { polls = 0 }))
    (on s (record k { polls = k.polls - 1; front = micro.Poll (clock_id y) ∷ k.front }))
    (time_out_leaves s k y) (poll_again s k y)

-- ---- visits

post_is_no : (p : Micro → Bool) (rates : Rates) (notifiers : List NotifierRow) (c : ℕ)
    → ((n : NotifierRow) → p (micro.Notify notice.Post (clock_id c) n.id (slice_index rates.before c) (slice_index rates.outcome c)) ≡ false)
    → list_any p (post_list rates notifiers c) ≡ false
post_is_no p rates notifiers c none =
    none_map p (λ n. micro.Notify notice.Post (clock_id c) n.id (slice_index rates.before c) (slice_index rates.outcome c)) (notifiers_of notifiers c) none

visit_leaves : (s : State) (k : Change) (c : ℕ) → Leaves (micro.Visit (clock_id c)) k (visit s k c).change
visit_leaves s k c =
    let rates : Rates = record { before = k.before; outcome = k.outcome } in
    let same : Bool = rate s.defs (set_in_chain s k c) s.clocks c == slice_index k.before c in
    record {
      driver = refl;
      call = refl;
      chain = refl;
      vetoed = refl;
      left = inl (refl, refl, refl);
      unvetoed = λ none. none_append is_veto (cond same [] (post_list rates s.notifiers c)) k.front
          (none_if is_veto same [] (post_list rates s.notifiers c) refl (post_is_no is_veto rates s.notifiers c (λ n. refl))) none;
      calm = λ e none. none_append raises (cond same [] (post_list rates s.notifiers c)) k.front
          (none_if raises same [] (post_list rates s.notifiers c) refl (post_is_no raises rates s.notifiers c (λ n. refl))) none;
    }

-- ---- each step

step_leaves : (s : State) (k : Change) (answer : Option Bool) (m : Micro) → (stepped s k answer m).1 ≡ turn.Going → Leaves m k (stepped s k answer m).0.change
unfolding stepped
step_leaves s k answer (micro.Raise x) going = raise_leaves s k x.0
step_leaves s k answer (micro.Poll y) going = poll_leaves s k y.0 (is_yes answer)
step_leaves s k answer (micro.Lower x) going = lower_leaves s k x.0
step_leaves s k answer (micro.Visit c) going = visit_leaves s k c.0
step_leaves s k answer (micro.Fall y) going = recounted (micro.Fall y) k _ k.polls k.again
step_leaves s k answer (micro.HoldPrepare x) going = recounted (micro.HoldPrepare x) k _ k.polls k.again
step_leaves s k answer (micro.Register c) going = recounted (micro.Register c) k _ k.polls k.again
step_leaves s k answer micro.End going = absurd cc
step_leaves s k answer m going = stays m k

-- what a step that isn't the end leaves of a change
pub step_after : (s : State) (k : Change) (answer : Option Bool) (m : Micro) → (stepped s k answer m).1 ≡ turn.Going
    → (k' : Change) × ((stepped s k answer m).0.change ≡ Some k') × IsAfter m k k'
step_after s k answer m going = found ((stepped s k answer m).0.change) (step_leaves s k answer m going) where
  found : (o : Option Change) → Leaves m k o → (k' : Change) × (o ≡ Some k') × IsAfter m k k'
  found None h = absurd h
  found (Some k') h = (k', refl, h)
