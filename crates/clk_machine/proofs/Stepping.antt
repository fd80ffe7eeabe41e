-- What the steps of raises, polls, falls, lowers and the end come to.
use Rattle.std.proofs.Common.{◌≡◌, ℕ, ◌+◌, ◌-◌, ◌&&◌, Bool, ◌||◌, not, true, false, List, [], ◌∷◌, Option, Some, None, refl, sym, ap, ◌∙◌, nat_eq, reverse}
use Rattle.std.specs.Prelude.{is_some, slice_get, nat_le, option_and_then, if◌then◌else◌}
use Rattle.std.specs.Option.{option_map_or}
use Rattle.clk_base.specs.declared.call.Micro.{Micro}
use Rattle.clk_base.specs.declared.call.Micro.TheVariants as micro
use Rattle.clk_base.specs.declared.clock.ClockId.{ClockId}
use Rattle.clk_base.specs.declared.event.Event.TheVariants as event
use Rattle.clk_base.specs.declared.event.Turn.{Turn}
use Rattle.clk_base.specs.declared.event.Turn.TheVariants as turn
use Rattle.clk_base.specs.declared.call.Sleeping.{Sleeping}
use Rattle.clk_base.specs.declared.call.Sleeping.TheVariants as call
use Rattle.clk_model.specs.State.{State, Change, link_in}
use Rattle.clk_model.specs.Holders.{active}
use Rattle.core_parts.specs.InFlight.{is_unprepare, is_ranged, is_probe, may_go_on}
use Rattle.clk_model.specs.Chain.{clock_id, linked}
use Rattle.clk_model.specs.Lists.{to_front}
use Rattle.clk_model.specs.Tree.{children}
use Rattle.clk_model.specs.Walk.{below_within}
use Rattle.clk_base.specs.Levels.{depth}
use Rattle.clk_model.proofs.KeepLaws.{mux_written}
use Rattle.clk_model.specs.Gates.{settled}
use Rattle.clk_model.specs.Laws.Paced.{is_notice}
use Rattle.clk_model.specs.Prep.{is_sweep}
use Rattle.clk_model.specs.Step.{todo, taken, on, visit, timed_out, to_raise, raise_one, poll, fall, to_lower, lower_one, unranged, range_back, relink, passed_over, write_mux, settle, settle_all, close, powered, ended_well, end_of, sets_parent, stepped, hold_prepare, hold_enable, drop_prepare, drop_enable, register_in}
use Rattle.clk_model.specs.Machine.{same_list, micro_code, comes_next, may_step, counted, next}
use Rattle.clk_model.proofs.Members.{test_same}
use Rattle.clk_model.proofs.StateLaws.{settled-still}
use Rattle.clk_machine.specs.Landing.{reply_of}

same_code : (xs : List ℕ) → same_list xs xs ≡ true
same_code [] = refl
same_code (x ∷ xs) = ap (λ (b : Bool). b && same_list xs xs) (test_same x) ∙ same_code xs

-- the first step that is left comes next
first_comes : (m : Micro) (ms : List Micro) → slice_get ms 0 ≡ Some m → comes_next m ms ≡ true
first_comes m [] e = absurd cc
first_comes m (n ∷ ns) e =
    let same : n ≡ m = cc in
    ap (λ (o : Micro). same_list (micro_code m) (micro_code o)) same ∙ same_code (micro_code m)

three : (a b : Bool) → a ≡ true → b ≡ true → (a && b && true) ≡ true
three true true e f = refl
three true false e f = absurd cc
three false b e f = absurd cc

-- a change in flight takes the step that its driver may make
takes : (s : State) (k : Change) (d : ℕ) (m : Micro) (answer : Option Bool) → s.change ≡ Some k → may_step d m answer k ≡ true
    → next s d (event.Step m answer) ≡ Some (counted s (stepped s (taken k) answer m))
unfolding next
takes s k d m answer at may =
    ap (λ (o : Option Change). option_and_then (λ k. if may_step d m answer k then Some (counted s (stepped s (taken k) answer m)) else None) o) at
    ∙ ap (λ (b : Bool). if b then Some (counted s (stepped s (taken k) answer m)) else None) may

-- the gates stay where the registers alone and the change are other ones
counted_still : (s y : State) (t : Turn) → settled s y ≡ y → counted s (y, t) ≡ (record y { steps = s.steps + 1 }, t)
counted_still s y t still = ap (λ (z : State). let x : State × Turn = (record z { steps = s.steps + 1 }, t) in x) still

-- the step that comes next of a change in flight of this driver
pub record IsNext (s : State) (d : ℕ) (k : Change) (m : Micro) : Type 0 where
  pub change : s.change ≡ Some k
  pub driver : k.driver ≡ d
  pub first : slice_get (todo k) 0 ≡ Some m

mine : (s : State) (d : ℕ) (k : Change) (m : Micro) → IsNext s d k m → nat_eq k.driver d ≡ true
mine s d k m is = ap (nat_eq k.driver) (sym is.driver) ∙ test_same k.driver

-- ---- raises

pub raises_one : (s : State) (d : ℕ) (k : Change) (x : ClockId) (y : ℕ) → IsNext s d k (micro.Raise x) → slice_get (reverse (to_raise s (taken k) x.0)) 0 ≡ Some y
    → next s d (event.Step (micro.Raise x) None) ≡ Some (record (raise_one s (taken k) x.0 y) { steps = s.steps + 1 }, turn.Going)
unfolding stepped
raises_one s d k x y is at =
    takes s k d (micro.Raise x) None is.change (three _ _ (mine s d k (micro.Raise x) is) (first_comes (micro.Raise x) (todo k) is.first))
    ∙ ap (λ (y : State). Some (counted s (y, turn.Going))) (ap (λ (o : Option ℕ). option_map_or (raise_one s (taken k) x.0) o (on s (record (taken k) { again = 0 }))) at)
    ∙ ap (λ (x : State × Turn). Some x) (counted_still s (raise_one s (taken k) x.0 y) turn.Going (settled-still s (raise_one s (taken k) x.0 y) (λ c. refl)))

pub raises_none : (s : State) (d : ℕ) (k : Change) (x : ClockId) → IsNext s d k (micro.Raise x) → slice_get (reverse (to_raise s (taken k) x.0)) 0 ≡ None
    → next s d (event.Step (micro.Raise x) None) ≡ Some (record s { change = Some (record (taken k) { again = 0 }); steps = s.steps + 1 }, turn.Going)
unfolding stepped
raises_none s d k x is at =
    takes s k d (micro.Raise x) None is.change (three _ _ (mine s d k (micro.Raise x) is) (first_comes (micro.Raise x) (todo k) is.first))
    ∙ ap (λ (y : State). Some (counted s (y, turn.Going))) (ap (λ (o : Option ℕ). option_map_or (raise_one s (taken k) x.0) o (on s (record (taken k) { again = 0 }))) at)
    ∙ ap (λ (x : State × Turn). Some x) (counted_still s (on s (record (taken k) { again = 0 })) turn.Going (settled-still s (on s (record (taken k) { again = 0 })) (λ c. refl)))

-- ---- lowers

pub lowers_one : (s : State) (d : ℕ) (k : Change) (x : ClockId) (y : ℕ) → IsNext s d k (micro.Lower x) → slice_get (to_lower s x.0) 0 ≡ Some y
    → next s d (event.Step (micro.Lower x) None) ≡ Some (record (lower_one s (taken k) x.0 y) { steps = s.steps + 1 }, turn.Going)
unfolding stepped
lowers_one s d k x y is at =
    takes s k d (micro.Lower x) None is.change (three _ _ (mine s d k (micro.Lower x) is) (first_comes (micro.Lower x) (todo k) is.first))
    ∙ ap (λ (y : State). Some (counted s (y, turn.Going))) (ap (λ (o : Option ℕ). option_map_or (lower_one s (taken k) x.0) o (on s (record (taken k) { again = 0 }))) at)
    ∙ ap (λ (x : State × Turn). Some x) (counted_still s (lower_one s (taken k) x.0 y) turn.Going (settled-still s (lower_one s (taken k) x.0 y) (λ c. refl)))

pub lowers_none : (s : State) (d : ℕ) (k : Change) (x : ClockId) → IsNext s d k (micro.Lower x) → slice_get (to_lower s x.0) 0 ≡ None
    → next s d (event.Step (micro.Lower x) None) ≡ Some (record s { change = Some (record (taken k) { again = 0 }); steps = s.steps + 1 }, turn.Going)
unfolding stepped
lowers_none s d k x is at =
    takes s k d (micro.Lower x) None is.change (three _ _ (mine s d k (micro.Lower x) is) (first_comes (micro.Lower x) (todo k) is.first))
    ∙ ap (λ (y : State). Some (counted s (y, turn.Going))) (ap (λ (o : Option ℕ). option_map_or (lower_one s (taken k) x.0) o (on s (record (taken k) { again = 0 }))) at)
    ∙ ap (λ (x : State × Turn). Some x) (counted_still s (on s (record (taken k) { again = 0 })) turn.Going (settled-still s (on s (record (taken k) { again = 0 })) (λ c. refl)))

-- ---- polls and falls

-- a poll changes nothing but the change
pub polled_change : (s : State) (k : Change) (y : ℕ) (b : Bool) → poll s k y b ≡ record s { change = (poll s k y b).change }
polled_change s k y true = refl
polled_change s k y false = by (nat_le k.polls 1) where
  by : (t : Bool) → (if t then timed_out s (record k { polls = 0 }) else on s (record k { polls = k.polls - 1; front = micro.Poll (clock_id y) ∷ k.front }))
      ≡ record s { change = (if t then timed_out s (record k { polls = 0 }) else on s (record k { polls = k.polls - 1; front = micro.Poll (clock_id y) ∷ k.front })).change }
  by true = refl
  by false = refl

pub polls_one : (s : State) (d : ℕ) (k : Change) (y : ClockId) (b : Bool) → IsNext s d k (micro.Poll y)
    → next s d (event.Step (micro.Poll y) (Some b)) ≡ Some (record s { change = (poll s (taken k) y.0 b).change; steps = s.steps + 1 }, turn.Going)
unfolding stepped
polls_one s d k y b is =
    takes s k d (micro.Poll y) (Some b) is.change (three _ _ (mine s d k (micro.Poll y) is) (first_comes (micro.Poll y) (todo k) is.first))
    ∙ ap (λ (z : State). Some (counted s (z, turn.Going))) (polled_change s (taken k) y.0 b)
    ∙ ap (λ (x : State × Turn). Some x)
    (counted_still s (record s { change = (poll s (taken k) y.0 b).change }) turn.Going (settled-still s (record s { change = (poll s (taken k) y.0 b).change }) (λ c. refl)))

pub falls_one : (s : State) (d : ℕ) (k : Change) (y : ClockId) → IsNext s d k (micro.Fall y)
    → next s d (event.Step (micro.Fall y) None) ≡ Some (record (fall s (taken k) y.0) { steps = s.steps + 1 }, turn.Going)
unfolding stepped
falls_one s d k y is =
    takes s k d (micro.Fall y) None is.change (three _ _ (mine s d k (micro.Fall y) is) (first_comes (micro.Fall y) (todo k) is.first))
    ∙ ap (λ (x : State × Turn). Some x) (counted_still s (fall s (taken k) y.0) turn.Going (settled-still s (fall s (taken k) y.0) (λ c. refl)))

-- ---- notices and visits

-- a notice changes nothing but the change
pub tells_one : (s : State) (d : ℕ) (k : Change) (m : Micro) → is_notice m ≡ true → IsNext s d k m
    → next s d (event.Step m None) ≡ Some (record s { change = Some (taken k); steps = s.steps + 1 }, turn.Going)
unfolding stepped
tells_one s d k (micro.Notify kind c id old new) notice is =
    takes s k d (micro.Notify kind c id old new) None is.change (three _ _ (mine s d k (micro.Notify kind c id old new) is) (first_comes (micro.Notify kind c id old new) (todo k) is.first))
    ∙ ap (λ (x : State × Turn). Some x) (counted_still s (on s (taken k)) turn.Going (settled-still s (on s (taken k)) (λ c. refl)))
tells_one s d k _ notice is = absurd cc

pub visits_one : (s : State) (d : ℕ) (k : Change) (c : ClockId) → IsNext s d k (micro.Visit c)
    → next s d (event.Step (micro.Visit c) None) ≡ Some (record (visit s (taken k) c.0) { steps = s.steps + 1 }, turn.Going)
unfolding stepped
visits_one s d k c is =
    takes s k d (micro.Visit c) None is.change (three _ _ (mine s d k (micro.Visit c) is) (first_comes (micro.Visit c) (todo k) is.first))
    ∙ ap (λ (x : State × Turn). Some x) (counted_still s (visit s (taken k) c.0) turn.Going (settled-still s (visit s (taken k) c.0) (λ c. refl)))

-- ---- new links

-- a new link, where no gate moves
pub relinks_one : (s : State) (d : ℕ) (k : Change) (c p : ClockId) → IsNext s d k (micro.Relink c p) → ((x : ℕ) → active s x ≡ active (relink s k c.0 p.0) x)
    → next s d (event.Step (micro.Relink c p) None)
    ≡ Some (
      record s {
        clocks = linked s.clocks c.0 p.0;
        order = to_front c.0 s.order;
        prepare_holds = passed_over p.0 (link_in s.clocks c.0) s.prepare_holds;
        enable_holds = passed_over p.0 (link_in s.clocks c.0) s.enable_holds;
        change = Some (taken k);
        steps = s.steps + 1;
      },
      turn.Going,
    )
unfolding stepped
relinks_one s d k c p is still =
    takes s k d (micro.Relink c p) None is.change (three _ _ (mine s d k (micro.Relink c p) is) (first_comes (micro.Relink c p) (todo k) is.first))
    ∙ ap (λ (x : State × Turn). Some x) (counted_still s (relink s (taken k) c.0 p.0) turn.Going (settled-still s (relink s (taken k) c.0 p.0) still))

pub writes_one : (s : State) (d : ℕ) (k : Change) (c : ClockId) (place : ℕ) → IsNext s d k (micro.WriteMux c place)
    → next s d (event.Step (micro.WriteMux c place) None) ≡ Some (record s { regs = mux_written s c.0 place; change = Some (taken k); steps = s.steps + 1 }, turn.Going)
unfolding stepped
writes_one s d k c place is =
    takes s k d (micro.WriteMux c place) None is.change (three _ _ (mine s d k (micro.WriteMux c place) is) (first_comes (micro.WriteMux c place) (todo k) is.first))
    ∙ ap (λ (x : State × Turn). Some x) (counted_still s (write_mux s (taken k) c.0 place) turn.Going (settled-still s (write_mux s (taken k) c.0 place) (λ c. refl)))

-- last requests that are settled
pub settles_one : (s : State) (d : ℕ) (k : Change) (c : ClockId) → IsNext s d k (micro.Settle c) → ((x : ℕ) → active s x ≡ active (settle s k c.0) x)
    → next s d (event.Step (micro.Settle c) None)
    ≡ Some (record s { clocks = settle_all s (below_within (children s.order s.clocks) depth c.0); change = Some (taken k); steps = s.steps + 1 }, turn.Going)
unfolding stepped
settles_one s d k c is still =
    takes s k d (micro.Settle c) None is.change (three _ _ (mine s d k (micro.Settle c) is) (first_comes (micro.Settle c) (todo k) is.first))
    ∙ ap (λ (x : State × Turn). Some x) (counted_still s (settle s (taken k) c.0) turn.Going (settled-still s (settle s (taken k) c.0) still))

-- ---- what a sweep switches off

-- a gate that nothing keeps open closes
pub closes_one : (s : State) (d : ℕ) (k : Change) (c : ClockId) → IsNext s d k (micro.Close c)
    → next s d (event.Step (micro.Close c) None) ≡ Some (record s { regs = (close s k c.0).regs; change = Some (taken k); steps = s.steps + 1 }, turn.Going)
unfolding stepped
closes_one s d k c is =
    takes s k d (micro.Close c) None is.change (three _ _ (mine s d k (micro.Close c) is) (first_comes (micro.Close c) (todo k) is.first))
    ∙ ap (λ (x : State × Turn). Some x) (counted_still s (close s (taken k) c.0) turn.Going (settled-still s (close s (taken k) c.0) (λ x. refl)))

-- a PLL is switched off
pub unpowers_one : (s : State) (d : ℕ) (k : Change) (c : ClockId) → IsNext s d k (micro.Unpower c)
    → next s d (event.Step (micro.Unpower c) None) ≡ Some (record s { regs = (powered s c.0 false).regs; change = Some (taken k); steps = s.steps + 1 }, turn.Going)
unfolding stepped
unpowers_one s d k c is =
    takes s k d (micro.Unpower c) None is.change (three _ _ (mine s d k (micro.Unpower c) is) (first_comes (micro.Unpower c) (todo k) is.first))
    ∙ ap (λ (x : State × Turn). Some x) (counted_still s (on (powered s c.0 false) (taken k)) turn.Going (settled-still s (on (powered s c.0 false) (taken k)) (λ x. refl)))

-- ---- holds

pub prepares_one : (s : State) (d : ℕ) (k : Change) (x : ClockId) → IsNext s d k (micro.HoldPrepare x)
    → next s d (event.Step (micro.HoldPrepare x) None) ≡ Some (record (hold_prepare s (taken k) x.0) { steps = s.steps + 1 }, turn.Going)
unfolding stepped
prepares_one s d k x is =
    takes s k d (micro.HoldPrepare x) None is.change (three _ _ (mine s d k (micro.HoldPrepare x) is) (first_comes (micro.HoldPrepare x) (todo k) is.first))
    ∙ ap (λ (x : State × Turn). Some x) (counted_still s (hold_prepare s (taken k) x.0) turn.Going (settled-still s (hold_prepare s (taken k) x.0) (λ c. refl)))

pub unprepares_one : (s : State) (d : ℕ) (k : Change) (x : ClockId) → IsNext s d k (micro.DropPrepare x)
    → next s d (event.Step (micro.DropPrepare x) None) ≡ Some (record (drop_prepare s (taken k) x.0) { steps = s.steps + 1 }, turn.Going)
unfolding stepped
unprepares_one s d k x is =
    takes s k d (micro.DropPrepare x) None is.change (three _ _ (mine s d k (micro.DropPrepare x) is) (first_comes (micro.DropPrepare x) (todo k) is.first))
    ∙ ap (λ (x : State × Turn). Some x) (counted_still s (drop_prepare s (taken k) x.0) turn.Going (settled-still s (drop_prepare s (taken k) x.0) (λ c. refl)))

-- the gates follow what is held enabled
pub enables_one : (s : State) (d : ℕ) (k : Change) (x : ClockId) → IsNext s d k (micro.HoldEnable x)
    → next s d (event.Step (micro.HoldEnable x) None) ≡ Some (record (settled s (hold_enable s (taken k) x.0)) { steps = s.steps + 1 }, turn.Going)
unfolding stepped
enables_one s d k x is = takes s k d (micro.HoldEnable x) None is.change (three _ _ (mine s d k (micro.HoldEnable x) is) (first_comes (micro.HoldEnable x) (todo k) is.first))

pub disables_one : (s : State) (d : ℕ) (k : Change) (x : ClockId) → IsNext s d k (micro.DropEnable x)
    → next s d (event.Step (micro.DropEnable x) None) ≡ Some (record (settled s (drop_enable s (taken k) x.0)) { steps = s.steps + 1 }, turn.Going)
unfolding stepped
disables_one s d k x is = takes s k d (micro.DropEnable x) None is.change (three _ _ (mine s d k (micro.DropEnable x) is) (first_comes (micro.DropEnable x) (todo k) is.first))

-- ---- a registration

-- the gates follow a critical clock
pub registers_one : (s : State) (d : ℕ) (k : Change) (c : ClockId) → IsNext s d k (micro.Register c)
    → next s d (event.Step (micro.Register c) None) ≡ Some (record (settled s (register_in s (taken k) c.0)) { steps = s.steps + 1 }, turn.Going)
unfolding stepped
registers_one s d k c is = takes s k d (micro.Register c) None is.change (three _ _ (mine s d k (micro.Register c) is) (first_comes (micro.Register c) (todo k) is.first))

-- ---- the end

pub ends : (s : State) (d : ℕ) (k : Change) → IsNext s d k micro.End
    → next s d (event.Step micro.End None) ≡ Some (record (settled s (end_of s (taken k)).0) { steps = s.steps + 1 }, (end_of s (taken k)).1)
unfolding stepped
ends s d k is = takes s k d micro.End None is.change (three _ _ (mine s d k micro.End is) (first_comes micro.End (todo k) is.first))

-- what the end leaves, by whether the call is called off
abbrev left_by : State → Change → Bool → State × Turn
left_by s k off = (record (if off then unranged s k else ended_well s k.driver k.call) { change = None }, turn.Done (reply_of k.vetoed k.timed_out))

-- a call that is called off, and one that isn't
pub end_off : (s : State) (k : Change) → (k.vetoed || k.timed_out) ≡ true → end_of s k ≡ (record (unranged s k) { change = None }, turn.Done (reply_of k.vetoed k.timed_out))
end_off s k off = ap (left_by s k) off

pub end_well : (s : State) (k : Change) → (k.vetoed || k.timed_out) ≡ false → end_of s k ≡ (record (ended_well s k.driver k.call) { change = None }, turn.Done (reply_of k.vetoed k.timed_out))
end_well s k off = ap (left_by s k) off

-- the state with another one's effect
abbrev pub left_as : State → Change → State → State × Turn
left_as s k y = (record y { change = None }, turn.Done (reply_of k.vetoed k.timed_out))

-- an end that leaves the state as it is
pub end_bare : (s : State) (k : Change) → may_go_on k.call ≡ true
    → (if k.vetoed || k.timed_out then not (is_ranged k.call && is_some k.range) else (is_unprepare k.call || sets_parent k.call || is_sweep k.call || is_probe k.call)) ≡ true → end_of s k ≡ (record s { change = None }, turn.Done (reply_of k.vetoed k.timed_out))
end_bare s k goes bare = by (k.vetoed || k.timed_out) refl bare where
  ranged : (what : Sleeping) (o : Option (ℕ × ℕ)) → not (is_ranged what && is_some o) ≡ true → record s { handles = range_back what o s.handles } ≡ s
  ranged (call.SetRange h least most) None e = refl
  ranged (call.SetRange h least most) (Some range) e = absurd cc
  ranged _ o e = refl

  lowered : (what : Sleeping) → (is_unprepare what || sets_parent what || is_sweep what || is_probe what) ≡ true → ended_well s k.driver what ≡ s
  lowered (call.Unprepare h) e = refl
  lowered (call.SetParent h p) e = refl
  lowered call.Sweep e = refl
  lowered (call.Probe c) e = refl
  lowered _ e = absurd cc

  by : (t : Bool) → (k.vetoed || k.timed_out) ≡ t → (if t then not (is_ranged k.call && is_some k.range) else (is_unprepare k.call || sets_parent k.call || is_sweep k.call || is_probe k.call)) ≡ true
      → end_of s k ≡ (record s { change = None }, turn.Done (reply_of k.vetoed k.timed_out))
  by true off e = end_off s k off ∙ ap (left_as s k) (ranged k.call k.range e)
  by false off e = end_well s k off ∙ ap (left_as s k) (lowered k.call e)

-- the end of a call, where no gate moves
pub ends_still : (s : State) (d : ℕ) (k : Change) (y : State) (t : Turn) → IsNext s d k micro.End → end_of s (taken k) ≡ (y, t) → ((c : ℕ) → active s c ≡ active y c)
    → next s d (event.Step micro.End None) ≡ Some (record y { steps = s.steps + 1 }, t)
ends_still s d k y t is leaves same =
    ends s d k is
    ∙ ap (λ (x : State × Turn). let z : State × Turn = (record (settled s x.0) { steps = s.steps + 1 }, x.1) in Some z) leaves
    ∙ ap (λ (x : State × Turn). Some x) (counted_still s y t (settled-still s y same))
