-- What each step leaves of a change in flight: its steps name clocks of the description.
use Rattle.std.proofs.Common.{◌≡◌, ℕ, ◌-◌, ◌<◌, ◌||◌, Bool, true, false, not, cond, List, [], ◌∷◌, Option, Some, None, refl, sym, subst, map, length}
use Rattle.std.specs.Prelude.{◌==◌, nat_le, slice_get, slice_index, reverse}
use Rattle.std.specs.Option.{option_map_or}
use Rattle.clk_base.specs.declared.call.Micro.{Micro}
use Rattle.clk_base.specs.declared.call.Micro.TheVariants as micro
use Rattle.clk_base.specs.declared.call.Sleeping.{Sleeping}
use Rattle.clk_base.specs.declared.call.Sleeping.TheVariants as call
use Rattle.clk_base.specs.declared.event.Errno.TheVariants as errno
use Rattle.clk_base.specs.declared.event.Reply.TheVariants as reply
use Rattle.clk_base.specs.declared.event.Turn.TheVariants as turn
use Rattle.clk_model.specs.Lists.{is_in, without, to_front}
use Rattle.clk_model.specs.State.{State, Change, handle_at, requested}
use Rattle.clk_model.specs.Tree.{path, path_to_be}
use Rattle.clk_model.specs.Rate.{rate}
use Rattle.clk_model.specs.Chain.{clock_id}
use Rattle.clk_model.specs.Notices.{Rates, abort_list, post_list}
use Rattle.clk_model.specs.Script.{unprepared_plls}
use Rattle.clk_model.specs.Begin.{prepared_once_more, held_once_more, request_between, register}
use Rattle.clk_model.specs.Step.{rest_of, left_behind, taken, on, sets_parent, aborts_of, timed_out, to_raise, raise_one, raise, poll, to_lower, lower_one, lower, set_in_chain, visit, register_in, ended_well, unranged, end_of, is_yes, stepped}
use Rattle.clk_model.proofs.Cases.{by_handle}
use Rattle.clk_journal.specs.Sized.{clocks_in_step, clocks_in_turn}
use Rattle.clk_journal.proofs.PlacedClocks.{ArePlaced, AreNamed, StepsName, one_more, chosen_placed, less_one_placed, at_end, both_name, either_names, map_in_names}
use Rattle.clk_journal.proofs.PlacedScripts.{IsTree, aborts_name, posts_name, cut_names, to_be_placed}

-- what is left of a change names clocks of the description, and so do the PLLs that it has raised and the clocks that it changes
pub record IsPlacedChange (n : ℕ) (k : Change) : Type 0 where
  pub front : StepsName n k.front
  pub left : StepsName n k.left
  pub raised : ArePlaced n k.raised
  pub changing : ArePlaced n k.changing

-- so it is with a change in flight, if there is one
abbrev pub IsPlacedFlight : ℕ → Option Change → Type 0
IsPlacedFlight n None = Unit {0}
IsPlacedFlight n (Some k) = IsPlacedChange n k

-- a state has such a change, if any, and its order of attaching lists clocks of the description
pub record IsPlacedState (n : ℕ) (s : State) : Type 0 where
  pub order : ArePlaced n s.order
  pub flight : IsPlacedFlight n s.change

-- without its first step it is one, too
rest_names : (n : ℕ) (ms : List Micro) → StepsName n ms → StepsName n (rest_of ms)
rest_names n [] all = tt
rest_names n (m ∷ ms) all = all.1

left_names : (n : ℕ) (front left : List Micro) → StepsName n left → StepsName n (left_behind front left)
left_names n [] left all = rest_names n left all
left_names n (m ∷ front) left all = all

pub taken_placed : (n : ℕ) (k : Change) → IsPlacedChange n k → IsPlacedChange n (taken k)
taken_placed n k is = record { front = rest_names n k.front is.front; left = left_names n k.front k.left is.left; raised = is.raised; changing = is.changing }

-- a clock that comes first in the order
pub front_placed : (n c : ℕ) (xs : List ℕ) → c < n → ArePlaced n xs → ArePlaced n (to_front c xs)
front_placed n c xs low all = one_more n c (without (c ∷ []) xs) low (chosen_placed n (λ x. not (is_in x (c ∷ []))) xs all)

module _ (n : ℕ) (s : State) (tree : IsTree n s) where
  unprepared_placed : (cs : List ℕ) → ArePlaced n cs → ArePlaced n (unprepared_plls s cs)
  unprepared_placed cs all = chosen_placed n _ cs all

  raise_placed : (k : Change) (x : ℕ) → IsPlacedChange n k → x < n → IsPlacedFlight n (raise s k x).change
  raise_placed k x is low = by (slice_get (reverse (to_raise s k x)) 0) refl where
    all : ArePlaced n (to_raise s k x)
    all = chosen_placed n (λ y. not (is_in y k.raised)) (unprepared_plls s (path_to_be s.defs s.regs s.clocks x))
        (unprepared_placed (path_to_be s.defs s.regs s.clocks x) (to_be_placed n s tree x low))

    by : (o : Option ℕ) → slice_get (reverse (to_raise s k x)) 0 ≡ o → IsPlacedFlight n (option_map_or (raise_one s k x) o (on s (record k { again = 0 }))).change
    by None at = record { front = is.front; left = is.left; raised = is.raised; changing = is.changing }
    by (Some y) at =
        let here : y < n = at_end n y (to_raise s k x) all at in
        let more : Bool = nat_le 2 (length (to_raise s k x)) in
        record {
          front = ((here, tt), both_name n (cond more (micro.Raise (clock_id x) ∷ []) []) k.front (either_names n more (micro.Raise (clock_id x) ∷ []) [] ((low, tt), tt) tt) is.front);
          left = is.left;
          raised = one_more n y k.raised here is.raised;
          changing = is.changing;
        }

  lower_placed : (k : Change) (x : ℕ) → IsPlacedChange n k → x < n → IsPlacedFlight n (lower s k x).change
  lower_placed k x is low = by (slice_get (to_lower s x) 0) where
    by : (o : Option ℕ) → IsPlacedFlight n (option_map_or (lower_one s k x) o (on s (record k { again = 0 }))).change
    by None = record { front = is.front; left = is.left; raised = is.raised; changing = is.changing }
    by (Some y) =
        let more : Bool = nat_le 2 (length (to_lower s x)) in
        record {
          front = both_name n (cond more (micro.Lower (clock_id x) ∷ []) []) k.front (either_names n more (micro.Lower (clock_id x) ∷ []) [] ((low, tt), tt) tt) is.front;
          left = is.left;
          raised = is.raised;
          changing = is.changing;
        }

  late_placed : (k : Change) → IsPlacedChange n k → IsPlacedFlight n (timed_out s k).change
  late_placed k is =
      let rates : Rates = record { before = k.before; outcome = k.outcome } in
      record {
        front = both_name n (map (λ y. micro.Fall (clock_id y)) k.raised) (aborts_of s k) (map_in_names n (λ y. micro.Fall (clock_id y)) k.raised (λ y m. (is.raised y m, tt)))
            (either_names n (sets_parent k.call) (abort_list rates s.notifiers k.changing) [] (aborts_name n rates s.notifiers k.changing is.changing) tt);
        left = cut_names n k.call k.left is.left;
        raised = is.raised;
        changing = is.changing;
      }

  poll_placed : (k : Change) (y : ℕ) (b : Bool) → IsPlacedChange n k → y < n → IsPlacedFlight n (poll s k y b).change
  poll_placed k y true is low = record { front = is.front; left = is.left; raised = is.raised; changing = is.changing }
  poll_placed k y false is low = by (nat_le k.polls 1) where
    by : (b : Bool) → IsPlacedFlight n (cond b (timed_out s (record k { polls = 0 })) (on s (record k { polls = k.polls - 1; front = micro.Poll (clock_id y) ∷ k.front }))).change
    by true = late_placed (record k { polls = 0 }) (record { front = is.front; left = is.left; raised = is.raised; changing = is.changing })
    by false = record { front = ((low, tt), is.front); left = is.left; raised = is.raised; changing = is.changing }

  visit_placed : (k : Change) (c : ℕ) → IsPlacedChange n k → c < n → IsPlacedFlight n (visit s k c).change
  visit_placed k c is low =
      let rates : Rates = record { before = k.before; outcome = k.outcome } in
      let same : Bool = rate s.defs (set_in_chain s k c) s.clocks c == slice_index k.before c in
      record {
        front = both_name n (cond same [] (post_list rates s.notifiers c)) k.front (either_names n same [] (post_list rates s.notifiers c) tt (posts_name n rates s.notifiers c low)) is.front;
        left = is.left;
        raised = is.raised;
        changing = is.changing;
      }

  register_placed : (k : Change) (c : ℕ) → IsPlacedChange n k → c < n → IsPlacedState n (register_in s k c)
  unfolding register
  register_placed k c is low = record {
    order = front_placed n c s.order low tree.order;
    flight = record { front = is.front; left = is.left; raised = chosen_placed n (λ x. not (is_in x (path_to_be s.defs s.regs s.clocks c))) k.raised is.raised; changing = is.changing };
  }

  -- the end leaves the order
  abbrev EndsPlaced : State → Type 0
  EndsPlaced u = u.order ≡ s.order

  end_order : (d : ℕ) (what : Sleeping) → EndsPlaced (ended_well s d what)
  end_order d (call.Prepare h) = by_handle EndsPlaced (handle_at s.handles h.number) (prepared_once_more s h.number) s refl (λ row. refl)
  end_order d (call.SetRate h x) = by_handle EndsPlaced (handle_at s.handles h.number) (λ row. record s { clocks = requested s.clocks row.clock.0 x }) s refl (λ row. refl)
  end_order d (call.SetRateExclusive h x) =
      by_handle EndsPlaced (handle_at s.handles h.number) (λ row. record (held_once_more s h.number row) { clocks = requested s.clocks row.clock.0 x }) s refl (λ row. refl)
  end_order d (call.SetRange h least most) =
      by_handle EndsPlaced (handle_at s.handles h.number) (λ row. record s { clocks = requested s.clocks row.clock.0 (request_between s.clocks row.clock.0 least most) }) s refl (λ row. refl)
  end_order d what = refl

  end_placed : (k : Change) → IsPlacedState n (end_of s k).0
  end_placed k = record { order = by (k.vetoed || k.timed_out); flight = tt } where
    by : (b : Bool) → ArePlaced n (cond b (unranged s k) (ended_well s k.driver k.call)).order
    by true = tree.order
    by false = subst (ArePlaced n) (sym (end_order k.driver k.call)) tree.order

  -- the answer of an end names no clock
  end_names : (k : Change) → AreNamed n (clocks_in_turn (end_of s k).1)
  end_names k = by k.vetoed k.timed_out where
    by : (a b : Bool) → AreNamed n (clocks_in_turn (turn.Done (cond a (reply.Refused errno.EBUSY) (cond b (reply.Refused errno.ETIMEDOUT) reply.Fine))))
    by true b = tt
    by false true = tt
    by false false = tt

  same_order : (k : Change) (u : State) → u.order ≡ s.order → IsPlacedFlight n u.change → IsPlacedState n u
  same_order k u same flight = record { order = subst (ArePlaced n) (sym same) tree.order; flight = flight }

  -- what a step leaves
  pub step_placed : (k : Change) (answer : Option Bool) (m : Micro) → IsPlacedChange n k → AreNamed n (clocks_in_step m) → IsPlacedState n (stepped s k answer m).0
  unfolding stepped
  step_placed k answer (micro.Notify kind c id old new) is named = record { order = tree.order; flight = is }
  step_placed k answer (micro.Raise x) is named = same_order k (raise s k x.0) (by (slice_get (reverse (to_raise s k x.0)) 0)) (raise_placed k x.0 is named.0) where
    by : (o : Option ℕ) → (option_map_or (raise_one s k x.0) o (on s (record k { again = 0 }))).order ≡ s.order
    by None = refl
    by (Some y) = refl
  step_placed k answer (micro.Poll y) is named = same_order k (poll s k y.0 (is_yes answer)) (by (is_yes answer)) (poll_placed k y.0 (is_yes answer) is named.0) where
    late : (b : Bool) → (cond b (timed_out s (record k { polls = 0 })) (on s (record k { polls = k.polls - 1; front = micro.Poll (clock_id y.0) ∷ k.front }))).order ≡ s.order
    late true = refl
    late false = refl

    by : (b : Bool) → (poll s k y.0 b).order ≡ s.order
    by true = refl
    by false = late (nat_le k.polls 1)
  step_placed k answer (micro.Fall y) is named = record { order = tree.order; flight = record { front = is.front; left = is.left; raised = less_one_placed n y.0 k.raised is.raised; changing = is.changing } }
  step_placed k answer (micro.HoldPrepare x) is named = record {
    order = tree.order;
    flight = record { front = is.front; left = is.left; raised = chosen_placed n (λ y. not (is_in y (path s.clocks x.0))) k.raised is.raised; changing = is.changing };
  }
  step_placed k answer (micro.HoldEnable x) is named = record { order = tree.order; flight = is }
  step_placed k answer (micro.Relink c p) is named = record { order = front_placed n c.0 s.order named.0 tree.order; flight = is }
  step_placed k answer (micro.WriteMux c place) is named = record { order = tree.order; flight = is }
  step_placed k answer (micro.DropEnable x) is named = record { order = tree.order; flight = is }
  step_placed k answer (micro.DropPrepare x) is named = record { order = tree.order; flight = is }
  step_placed k answer (micro.Lower x) is named = same_order k (lower s k x.0) (by (slice_get (to_lower s x.0) 0)) (lower_placed k x.0 is named.0) where
    by : (o : Option ℕ) → (option_map_or (lower_one s k x.0) o (on s (record k { again = 0 }))).order ≡ s.order
    by None = refl
    by (Some y) = refl
  step_placed k answer (micro.Visit c) is named = record { order = tree.order; flight = visit_placed k c.0 is named.0 }
  step_placed k answer (micro.Register c) is named = register_placed k c.0 is named.0
  step_placed k answer (micro.Settle c) is named = record { order = tree.order; flight = is }
  step_placed k answer (micro.Close c) is named = record { order = tree.order; flight = is }
  step_placed k answer (micro.Unpower c) is named = record { order = tree.order; flight = is }
  step_placed k answer micro.End is named = end_placed k

  -- and its answer names no clock
  pub step_answers : (k : Change) (answer : Option Bool) (m : Micro) → AreNamed n (clocks_in_turn (stepped s k answer m).1)
  unfolding stepped
  step_answers k answer micro.End = end_names k
  step_answers k answer m = tt
