-- Laws on the course of a sweep: its steps come in groups, and between these nothing is held.
use Rattle.std.proofs.Common.{◌≡◌, ℕ, ◌+◌, ◌-◌, ◌&&◌, ◌||◌, Bool, true, false, cond, List, [], ◌∷◌, ◌++◌, Option, Some, None, refl, sym, ap, subst, ◌∙◌, length, nat_le, map}
use Rattle.std.specs.Prelude.{filter, flat_map, reverse, slice_get}
use Rattle.std.specs.List.{list_any, list_all}
use Rattle.std.specs.Option.{option_map_or}
use Rattle.std.proofs.lemmas.List.{append_assoc}
use Rattle.clk_base.specs.declared.clock.ClockId.{ClockId}
use Rattle.clk_base.specs.declared.call.Micro.{Micro}
use Rattle.clk_base.specs.declared.call.Micro.TheVariants as micro
use Rattle.clk_base.specs.declared.call.Sleeping.{Sleeping}
use Rattle.clk_base.specs.declared.call.Sleeping.TheVariants as call
use Rattle.clk_base.specs.declared.event.Entry.{Entry}
use Rattle.clk_base.specs.declared.event.Event.{Event}
use Rattle.clk_base.specs.declared.event.Event.TheVariants as event
use Rattle.clk_base.specs.declared.event.Turn.{Turn}
use Rattle.clk_base.specs.declared.event.Turn.TheVariants as turn
use Rattle.clk_base.specs.Description.{Description}
use Rattle.clk_base.specs.Flags.{runs_parent}
use Rattle.clk_base.specs.Valid.{IsValid}
use Rattle.reg_bank.specs.Registers.{Registers}
use Rattle.clk_model.specs.declared.row.ClockRow.{ClockRow}
use Rattle.clk_model.specs.Lists.{without_one, without}
use Rattle.clk_model.specs.State.{State, Change, registered, link_in}
use Rattle.clk_model.specs.Tree.{path}
use Rattle.clk_model.specs.Chain.{clock_id}
use Rattle.clk_model.specs.Gates.{settled}
use Rattle.clk_model.specs.Script.{fed_step, close_of, sweep_order, sweep_script}
use Rattle.clk_model.specs.Begin.{change_of, begun}
use Rattle.clk_model.specs.Step.{todo, rest_of, taken, on, powered, is_end, behind_lets, cut_short, aborts_of, timed_out, to_raise, most_polls, raise_one, raise, poll, to_lower, lower_one, lower, is_yes, stepped}
use Rattle.clk_model.specs.Machine.{is_poll, comes_next, next}
use Rattle.clk_model.specs.Journal.{opening, replay}
use Rattle.clk_model.specs.Prep.{is_sweep}
use Rattle.clk_model.specs.Tier.{is_enable_tier}
use Rattle.clk_model.specs.Laws.PrepSteps.{is_of_sweep}
use Rattle.clk_model.specs.Laws.Shadows.{sweeps, lowers_there}
use Rattle.clk_model.proofs.Members.{test_same, both_left, both_right}
use Rattle.clk_model.proofs.NoneLaws.{none_rest}
use Rattle.clk_model.proofs.FlightLaws.{IsStep, step_is, begin_is}
use Rattle.clk_model.proofs.StepLaws.{step_after}
use Rattle.clk_model.proofs.VetoLaws.{of_change}
use Rattle.clk_model.proofs.TierLaws.{beside_change, beside_clocks}
use Rattle.clk_model.proofs.FlightSafeLaws.{front_step, script_step}
use Rattle.clk_model.proofs.BeginLaws.{begun_going}
use Rattle.clk_model.proofs.InFlightLaws.{answered_quiet, end_quiet}
use Rattle.clk_model.proofs.Scenes.{IsAtRest}
use Rattle.clk_model.proofs.SafeRunLaws.{IsRunning, quietly, in_flight, IsRun, run_goes_on}
use Rattle.clk_model.proofs.RunsFedLaws.{run_of}
use Rattle.clk_model.proofs.PrepRunLaws.{sweep_state}

-- ---- the groups

-- the steps of a group from its prepare hold on, from the one after it on, and so on
abbrev pub fed : ClockId → ClockId → List Micro → List Micro
fed x c ms = micro.HoldPrepare x ∷ micro.HoldEnable x ∷ micro.Close c ∷ micro.DropEnable x ∷ micro.DropPrepare x ∷ micro.Lower x ∷ ms

-- what is left of a sweep between two groups: gates to close, alone or with a registered clock held for them, PLLs to switch off, and the end
pub data Groups (there : ℕ → Bool) : List Micro → Type 0 where
  ending : Groups there (micro.End ∷ [])
  unpowering : {ms : List Micro} (c : ClockId) → Groups there ms → Groups there (micro.Unpower c ∷ ms)
  closing : {ms : List Micro} (c : ClockId) → Groups there ms → Groups there (micro.Close c ∷ ms)
  feeding : {ms : List Micro} (x c : ClockId) → there x.0 ≡ true → Groups there ms → Groups there (micro.Raise x ∷ fed x c ms)

-- the script begins so
module _ (defs : Description) (clocks : List ClockRow) (linked : (c p : ℕ) → link_in clocks c ≡ Some p → registered clocks p ≡ true) where
  one_group : (c : ℕ) (ms : List Micro) → Groups (registered clocks) ms → Groups (registered clocks) (close_of defs clocks c ++ ms)
  one_group c ms left = by (runs_parent defs c) (link_in clocks c) refl where
    by : (b : Bool) (o : Option ℕ) → link_in clocks c ≡ o → Groups (registered clocks) (fed_step (cond b o None) (micro.Close (clock_id c)) ++ ms)
    by true (Some p) at = feeding (clock_id p) (clock_id c) (linked c p at) left
    by true None at = closing (clock_id c) left
    by false o at = closing (clock_id c) left

  close_groups : (cs : List ℕ) (ms : List Micro) → Groups (registered clocks) ms → Groups (registered clocks) (flat_map (close_of defs clocks) cs ++ ms)
  close_groups [] ms left = left
  close_groups (c ∷ cs) ms left =
      subst (λ (ns : List Micro). Groups (registered clocks) ns) (sym (append_assoc (close_of defs clocks c) (flat_map (close_of defs clocks) cs) ms))
      (one_group c (flat_map (close_of defs clocks) cs ++ ms) (close_groups cs ms left))

  power_groups : (cs : List ℕ) → Groups (registered clocks) (map (λ c. micro.Unpower (clock_id c)) cs ++ micro.End ∷ [])
  power_groups [] = ending
  power_groups (c ∷ cs) = unpowering (clock_id c) (power_groups cs)

  both_groups : (cs ds : List ℕ) → Groups (registered clocks) ((flat_map (close_of defs clocks) cs ++ map (λ c. micro.Unpower (clock_id c)) ds) ++ micro.End ∷ [])
  both_groups cs ds =
      subst (λ (ns : List Micro). Groups (registered clocks) ns) (sym (append_assoc (flat_map (close_of defs clocks) cs) (map (λ c. micro.Unpower (clock_id c)) ds) (micro.End ∷ [])))
      (close_groups cs (map (λ c. micro.Unpower (clock_id c)) ds ++ micro.End ∷ []) (power_groups ds))

script_groups : (q : State) → ((c p : ℕ) → link_in q.clocks c ≡ Some p → registered q.clocks p ≡ true) → Groups (registered q.clocks) (sweep_script q)
unfolding sweep_script
script_groups q linked = both_groups q.defs q.clocks linked (filter _ (sweep_order q)) (filter _ (sweep_order q))

-- no group begins by letting go
groups_stay : (there : ℕ → Bool) (ms : List Micro) → Groups there ms → behind_lets ms ≡ ms
groups_stay there _ ending = refl
groups_stay there _ (unpowering c left) = refl
groups_stay there _ (closing c left) = refl
groups_stay there _ (feeding x c is left) = refl

-- no step of them polls
groups_ask_none : (there : ℕ → Bool) (ms : List Micro) → Groups there ms → list_any is_poll ms ≡ false
groups_ask_none there _ ending = refl
groups_ask_none there _ (unpowering c left) = groups_ask_none there _ left
groups_ask_none there _ (closing c left) = groups_ask_none there _ left
groups_ask_none there _ (feeding x c is left) = groups_ask_none there _ left

-- ---- the places in them

-- whether a step put first between two groups is a fall or a lower of a registered clock, and whether one is a poll or a raise
abbrev pub calms : (ℕ → Bool) → Micro → Bool
calms there (micro.Fall y) = true
calms there (micro.Lower x) = there x.0
calms there _ = false

abbrev pub asks : Micro → Bool
asks (micro.Poll y) = true
asks (micro.Raise x) = true
asks _ = false

-- inside a group a clock is held prepared and enabled, until that is let go; then it is lowered
pub data Inside (x : ClockId) (ms : List Micro) (ps es : List ℕ) (left : List Micro) : Type 0 where
  held_prepared : (c : ClockId) → ps ≡ x.0 ∷ [] → es ≡ [] → left ≡ micro.HoldEnable x ∷ micro.Close c ∷ micro.DropEnable x ∷ micro.DropPrepare x ∷ micro.Lower x ∷ ms → Inside x ms ps es left
  held_enabled : (c : ClockId) → ps ≡ x.0 ∷ [] → es ≡ x.0 ∷ [] → left ≡ micro.Close c ∷ micro.DropEnable x ∷ micro.DropPrepare x ∷ micro.Lower x ∷ ms → Inside x ms ps es left
  gate_closed : ps ≡ x.0 ∷ [] → es ≡ x.0 ∷ [] → left ≡ micro.DropEnable x ∷ micro.DropPrepare x ∷ micro.Lower x ∷ ms → Inside x ms ps es left
  enable_gone : ps ≡ x.0 ∷ [] → es ≡ [] → left ≡ micro.DropPrepare x ∷ micro.Lower x ∷ ms → Inside x ms ps es left
  prepare_gone : ps ≡ [] → es ≡ [] → left ≡ micro.Lower x ∷ ms → Inside x ms ps es left

-- nothing is held between two groups, and while a group raises PLLs, of which a poll alone comes first
pub data Place (there : ℕ → Bool) (ps es : List ℕ) (first left : List Micro) : Type 0 where
  between : ps ≡ [] → es ≡ [] → list_all (calms there) first ≡ true → Groups there left → Place there ps es first left
  raising : (x c : ClockId) (ms : List Micro) → there x.0 ≡ true → Groups there ms → ps ≡ [] → es ≡ [] → list_all asks first ≡ true → list_any is_poll (rest_of first) ≡ false
      → left ≡ fed x c ms → Place there ps es first left
  inside : (x : ClockId) (ms : List Micro) → there x.0 ≡ true → Groups there ms → first ≡ [] → Inside x ms ps es left → Place there ps es first left

-- a state of a sweep in flight
pub record IsSwept (s : State) : Type 0 where
  pub now : Change
  pub at : s.change ≡ Some now
  pub call_ : now.call ≡ call.Sweep
  pub place : Place (registered s.clocks) s.prepare_holds s.enable_holds now.front now.left

-- ---- what its steps leave

-- what a step leaves that doesn't end the sweep, if it was taken from this change
record Leaves (k : Change) (v : State) : Type 0 where
  now : Change
  at : v.change ≡ Some now
  call_ : now.call ≡ k.call
  place : Place (registered v.clocks) v.prepare_holds v.enable_holds now.front now.left

-- a lower between groups
lower_leaves : (s : State) (k : Change) (x : ClockId) → registered s.clocks x.0 ≡ true → s.prepare_holds ≡ [] → s.enable_holds ≡ [] → list_all (calms (registered s.clocks)) k.front ≡ true
    → Groups (registered s.clocks) k.left → Leaves k (lower s k x.0)
lower_leaves s k x there prepares enables calm groups = by (slice_get (to_lower s x.0) 0) where
  one : (y : ℕ) (more : Bool)
      → Leaves k (on (powered s y false) (record k { again = cond more (k.again + 1) 0; front = cond more (micro.Lower (clock_id x.0) ∷ []) [] ++ k.front }))
  one y true = record {
    now = record k { again = k.again + 1; front = micro.Lower (clock_id x.0) ∷ k.front };
    at = refl;
    call_ = refl;
    place = between prepares enables (ap (λ (b : Bool). b && list_all (calms (registered s.clocks)) k.front) there ∙ calm) groups;
  }
  one y false = record { now = record k { again = 0 }; at = refl; call_ = refl; place = between prepares enables calm groups }

  by : (o : Option ℕ) → Leaves k (option_map_or (lower_one s k x.0) o (on s (record k { again = 0 })))
  by None = record { now = record k { again = 0 }; at = refl; call_ = refl; place = between prepares enables calm groups }
  by (Some y) = one y (nat_le 2 (length (to_lower s x.0)))

rest_none : (ns : List Micro) → list_any is_poll ns ≡ false → list_any is_poll (rest_of ns) ≡ false
rest_none [] e = refl
rest_none (n ∷ ns) e = none_rest is_poll n ns e

-- a raise of a group
raise_leaves : (s : State) (k : Change) (y x c : ClockId) (ms : List Micro) → registered s.clocks x.0 ≡ true → Groups (registered s.clocks) ms → s.prepare_holds ≡ [] → s.enable_holds ≡ []
    → list_all asks k.front ≡ true → list_any is_poll k.front ≡ false → k.left ≡ fed x c ms → Leaves k (raise s k y.0)
raise_leaves s k y x c ms there groups prepares enables asking none left = by (slice_get (reverse (to_raise s k y.0)) 0) where
  one : (z : ℕ) (more : Bool) → Leaves k (on (powered s z true) (record k {
    raised = z ∷ k.raised;
    polls = most_polls;
    again = cond more (k.again + 1) 0;
    front = (micro.Poll (clock_id z) ∷ cond more (micro.Raise (clock_id y.0) ∷ []) []) ++ k.front;
  }))
  one z true = record {
    now = record k { raised = z ∷ k.raised; polls = most_polls; again = k.again + 1; front = micro.Poll (clock_id z) ∷ micro.Raise (clock_id y.0) ∷ k.front };
    at = refl;
    call_ = refl;
    place = raising x c ms there groups prepares enables asking none left;
  }
  one z false = record {
    now = record k { raised = z ∷ k.raised; polls = most_polls; again = 0; front = micro.Poll (clock_id z) ∷ k.front };
    at = refl;
    call_ = refl;
    place = raising x c ms there groups prepares enables asking none left;
  }

  by : (o : Option ℕ) → Leaves k (option_map_or (raise_one s k y.0) o (on s (record k { again = 0 })))
  by None = record {
    now = record k { again = 0 };
    at = refl;
    call_ = refl;
    place = raising x c ms there groups prepares enables asking (rest_none k.front none) left;
  }
  by (Some z) = one z (nat_le 2 (length (to_raise s k y.0)))

-- a poll of a group: on a timeout its raised PLLs fall, and the group is dropped
poll_leaves : (s : State) (k : Change) (y x c : ClockId) (ms : List Micro) (locked : Bool) → k.call ≡ call.Sweep → registered s.clocks x.0 ≡ true → Groups (registered s.clocks) ms
    → s.prepare_holds ≡ [] → s.enable_holds ≡ [] → list_all asks k.front ≡ true → list_any is_poll k.front ≡ false → k.left ≡ fed x c ms → Leaves k (poll s k y.0 locked)
poll_leaves s k y x c ms locked is there groups prepares enables asking none left = by locked where
  falls_calm : (ys : List ℕ) → list_all (calms (registered s.clocks)) (map (λ z. micro.Fall (clock_id z)) ys ++ []) ≡ true
  falls_calm [] = refl
  falls_calm (z ∷ ys) = falls_calm ys

  j : Change
  j = record k { polls = 0 }

  no_aborts : aborts_of s j ≡ []
  no_aborts = ap (λ (w : Sleeping). aborts_of s (record j { call = w })) is

  cut : cut_short k.call k.left ≡ ms
  cut = ap (λ (w : Sleeping). cut_short w k.left) is ∙ ap (cut_short call.Sweep) left ∙ groups_stay (registered s.clocks) ms groups

  late : (b : Bool) → Leaves k (cond b (timed_out s j) (on s (record k { polls = k.polls - 1; front = micro.Poll (clock_id y.0) ∷ k.front })))
  late true = record {
    now = _;
    at = refl;
    call_ = refl;
    place = between prepares enables
        (ap (λ (ns : List Micro). list_all (calms (registered s.clocks)) (map (λ z. micro.Fall (clock_id z)) k.raised ++ ns)) no_aborts ∙ falls_calm k.raised)
        (subst (λ (ns : List Micro). Groups (registered s.clocks) ns) (sym cut) groups);
  }
  late false = record {
    now = record k { polls = k.polls - 1; front = micro.Poll (clock_id y.0) ∷ k.front };
    at = refl;
    call_ = refl;
    place = raising x c ms there groups prepares enables asking none left;
  }

  by : (b : Bool) → Leaves k (poll s k y.0 b)
  by true = record { now = j; at = refl; call_ = refl; place = raising x c ms there groups prepares enables asking (rest_none k.front none) left }
  by false = late (nat_le k.polls 1)

-- what is known at a step of a sweep: at its end and at a lower nothing is held, a lower is one of a registered clock, and each step but
-- the end leaves the sweep in such a place
record Course (s : State) (k : Change) (answer : Option Bool) (m : Micro) : Type 0 where
  leaves : is_end m ≡ false → Leaves k (stepped s k answer m).0
  frees : is_end m ≡ true → (s.prepare_holds ≡ []) × (s.enable_holds ≡ [])
  lowers : (x : ClockId) → m ≡ micro.Lower x → s.prepare_holds ≡ []
  there : lowers_there s.clocks m ≡ true
  own : is_of_sweep m ≡ true

heads : (m n : Micro) (ms ns : List Micro) → m ∷ ms ≡ n ∷ ns → (m ≡ n) × (ms ≡ ns)
heads m n ms ns e = (cc, cc)

one_gone : (x : ℕ) → without_one x (x ∷ []) ≡ []
one_gone x = ap (λ (b : Bool). cond b [] (x ∷ [])) (test_same x)

-- a step that is put first between two groups
calm_course : (s : State) (k : Change) (answer : Option Bool) (m : Micro) → calms (registered s.clocks) m ≡ true → s.prepare_holds ≡ [] → s.enable_holds ≡ []
    → list_all (calms (registered s.clocks)) k.front ≡ true → Groups (registered s.clocks) k.left → Course s k answer m
unfolding stepped
calm_course s k answer (micro.Fall y) own prepares enables calm groups = record {
  leaves = λ going. record { now = record k { raised = without_one y.0 k.raised }; at = refl; call_ = refl; place = between prepares enables calm groups };
  frees = λ is. absurd cc;
  lowers = λ x e. absurd cc;
  there = refl;
  own = refl;
}
calm_course s k answer (micro.Lower x) own prepares enables calm groups = record {
  leaves = λ going. lower_leaves s k x own prepares enables calm groups;
  frees = λ is. absurd cc;
  lowers = λ y e. prepares;
  there = own;
  own = refl;
}
calm_course s k answer _ own prepares enables calm groups = absurd cc

calm_none : (there : ℕ → Bool) (ms : List Micro) → ms ≡ [] → list_all (calms there) ms ≡ true
calm_none there ms empty = ap (list_all (calms there)) empty

-- the first step of a group
group_course : (s : State) (k : Change) (answer : Option Bool) (m : Micro) (left : List Micro) → k.left ≡ left → Groups (registered s.clocks) (m ∷ left) → k.front ≡ []
    → s.prepare_holds ≡ [] → s.enable_holds ≡ [] → Course s k answer m
unfolding stepped
group_course s k answer _ _ same ending empty prepares enables = record { leaves = λ going. absurd cc; frees = λ is. (prepares, enables); lowers = λ x e. absurd cc; there = refl; own = refl }
group_course s k answer _ left same (unpowering c groups) empty prepares enables = record {
  leaves = λ going. record {
    now = k;
    at = refl;
    call_ = refl;
    place = between prepares enables (calm_none (registered s.clocks) k.front empty) (subst (λ (ms : List Micro). Groups (registered s.clocks) ms) (sym same) groups);
  };
  frees = λ is. absurd cc;
  lowers = λ x e. absurd cc;
  there = refl;
  own = refl;
}
group_course s k answer _ left same (closing c groups) empty prepares enables = record {
  leaves = λ going. record {
    now = k;
    at = refl;
    call_ = refl;
    place = between prepares enables (calm_none (registered s.clocks) k.front empty) (subst (λ (ms : List Micro). Groups (registered s.clocks) ms) (sym same) groups);
  };
  frees = λ is. absurd cc;
  lowers = λ x e. absurd cc;
  there = refl;
  own = refl;
}
group_course s k answer _ _ same (feeding {ms = ms} x c there groups) empty prepares enables = record {
  leaves = λ going. raise_leaves s k x x c ms there groups prepares enables (ap (list_all asks) empty) (ap (list_any is_poll) empty) same;
  frees = λ is. absurd cc;
  lowers = λ y e. absurd cc;
  there = refl;
  own = refl;
}

-- a poll or a raise of a group
ask_course : (s : State) (k : Change) (answer : Option Bool) (m : Micro) (x c : ClockId) (ms : List Micro) → asks m ≡ true → k.call ≡ call.Sweep → registered s.clocks x.0 ≡ true
    → Groups (registered s.clocks) ms → s.prepare_holds ≡ [] → s.enable_holds ≡ [] → list_all asks k.front ≡ true → list_any is_poll k.front ≡ false → k.left ≡ fed x c ms → Course s k answer m
unfolding stepped
ask_course s k answer (micro.Poll y) x c ms own is there groups prepares enables asking none left = record {
  leaves = λ going. poll_leaves s k y x c ms (is_yes answer) is there groups prepares enables asking none left;
  frees = λ e. absurd cc;
  lowers = λ z e. absurd cc;
  there = refl;
  own = refl;
}
ask_course s k answer (micro.Raise y) x c ms own is there groups prepares enables asking none left = record {
  leaves = λ going. raise_leaves s k y x c ms there groups prepares enables asking none left;
  frees = λ e. absurd cc;
  lowers = λ z e. absurd cc;
  there = refl;
  own = refl;
}
ask_course s k answer _ x c ms own is there groups prepares enables asking none left = absurd cc

-- the prepare hold of a group
hold_course : (s : State) (k : Change) (answer : Option Bool) (x c : ClockId) (ms : List Micro) → registered s.clocks x.0 ≡ true → Groups (registered s.clocks) ms
    → s.prepare_holds ≡ [] → s.enable_holds ≡ [] → k.front ≡ [] → micro.HoldPrepare x ∷ k.left ≡ fed x c ms → Course s k answer (micro.HoldPrepare x)
unfolding stepped
hold_course s k answer x c ms there groups prepares enables empty left = record {
  leaves = λ going. record {
    now = record k { raised = without (path s.clocks x.0) k.raised };
    at = refl;
    call_ = refl;
    place = inside x ms there groups empty (held_prepared c (ap (λ (ps : List ℕ). x.0 ∷ ps) prepares) enables (heads _ _ _ _ left).1);
  };
  frees = λ e. absurd cc;
  lowers = λ z e. absurd cc;
  there = refl;
  own = refl;
}

-- a step inside a group
inside_course : (s : State) (k : Change) (answer : Option Bool) (m : Micro) (x : ClockId) (ms : List Micro) → registered s.clocks x.0 ≡ true → Groups (registered s.clocks) ms
    → k.front ≡ [] → Inside x ms s.prepare_holds s.enable_holds (m ∷ k.left) → Course s k answer m
unfolding stepped
inside_course s k answer m x ms there groups empty (held_prepared c prepares enables left) =
    subst (λ (n : Micro). Course s k answer n) (sym (heads _ _ _ _ left).0) (record {
      leaves = λ going. record {
        now = k;
        at = refl;
        call_ = refl;
        place = inside x ms there groups empty (held_enabled c prepares (ap (λ (es : List ℕ). x.0 ∷ es) enables) (heads _ _ _ _ left).1);
      };
      frees = λ e. absurd cc;
      lowers = λ z e. absurd cc;
      there = refl;
      own = refl;
    })
inside_course s k answer m x ms there groups empty (held_enabled c prepares enables left) =
    subst (λ (n : Micro). Course s k answer n) (sym (heads _ _ _ _ left).0) (record {
      leaves = λ going. record { now = k; at = refl; call_ = refl; place = inside x ms there groups empty (gate_closed prepares enables (heads _ _ _ _ left).1) };
      frees = λ e. absurd cc;
      lowers = λ z e. absurd cc;
      there = refl;
      own = refl;
    })
inside_course s k answer m x ms there groups empty (gate_closed prepares enables left) =
    subst (λ (n : Micro). Course s k answer n) (sym (heads _ _ _ _ left).0) (record {
      leaves = λ going. record {
        now = k;
        at = refl;
        call_ = refl;
        place = inside x ms there groups empty (enable_gone prepares (ap (without_one x.0) enables ∙ one_gone x.0) (heads _ _ _ _ left).1);
      };
      frees = λ e. absurd cc;
      lowers = λ z e. absurd cc;
      there = refl;
      own = refl;
    })
inside_course s k answer m x ms there groups empty (enable_gone prepares enables left) =
    subst (λ (n : Micro). Course s k answer n) (sym (heads _ _ _ _ left).0) (record {
      leaves = λ going. record {
        now = k;
        at = refl;
        call_ = refl;
        place = inside x ms there groups empty (prepare_gone (ap (without_one x.0) prepares ∙ one_gone x.0) enables (heads _ _ _ _ left).1);
      };
      frees = λ e. absurd cc;
      lowers = λ z e. absurd cc;
      there = refl;
      own = refl;
    })
inside_course s k answer m x ms there groups empty (prepare_gone prepares enables left) =
    subst (λ (n : Micro). Course s k answer n) (sym (heads _ _ _ _ left).0) (record {
      leaves = λ going.
          lower_leaves s k x there prepares enables (calm_none (registered s.clocks) k.front empty) (subst (λ (ns : List Micro). Groups (registered s.clocks) ns) (sym (heads _ _ _ _ left).1) groups);
      frees = λ e. absurd cc;
      lowers = λ z e. prepares;
      there = there;
      own = refl;
    })

-- each step
step_course : (s : State) (k : Change) (answer : Option Bool) (m : Micro) → k.call ≡ call.Sweep → comes_next m (todo k) ≡ true
    → Place (registered s.clocks) s.prepare_holds s.enable_holds k.front k.left → Course s (taken k) answer m
step_course s k answer m is first (between prepares enables calm groups) = by k.front refl calm where
  by : (ns : List Micro) → k.front ≡ ns → list_all (calms (registered s.clocks)) ns ≡ true → Course s (taken k) answer m
  by (n ∷ ns) at still =
      let here = front_step k m n ns at first in
      subst (λ (i : Micro). Course s (taken k) answer i) (sym here.0)
      (calm_course s (taken k) answer n (both_left (calms (registered s.clocks) n) (list_all (calms (registered s.clocks)) ns) still) prepares enables
      (ap (list_all (calms (registered s.clocks))) here.1 ∙ both_right (calms (registered s.clocks) n) (list_all (calms (registered s.clocks)) ns) still)
      (subst (λ (ms : List Micro). Groups (registered s.clocks) ms) (sym here.2) groups))
  by [] at still =
      let here = script_step k m at first in
      group_course s (taken k) answer m (taken k).left refl (subst (λ (ms : List Micro). Groups (registered s.clocks) ms) here.0 groups) here.1 prepares enables
step_course s k answer m is first (raising x c ms there groups prepares enables asking none left) = by k.front refl asking none where
  by : (ns : List Micro) → k.front ≡ ns → list_all asks ns ≡ true → list_any is_poll (rest_of ns) ≡ false → Course s (taken k) answer m
  by (n ∷ ns) at asking' none' =
      let here = front_step k m n ns at first in
      subst (λ (i : Micro). Course s (taken k) answer i) (sym here.0)
      (ask_course s (taken k) answer n x c ms (both_left (asks n) (list_all asks ns) asking') is there groups prepares enables
      (ap (list_all asks) here.1 ∙ both_right (asks n) (list_all asks ns) asking') (ap (list_any is_poll) here.1 ∙ none') (here.2 ∙ left))
  by [] at asking' none' =
      let here = script_step k m at first in
      let heads_ = heads m (micro.HoldPrepare x) (taken k).left _ (sym here.0 ∙ left) in
      subst (λ (i : Micro). Course s (taken k) answer i) (sym heads_.0)
      (hold_course s (taken k) answer x c ms there groups prepares enables here.1 (ap (λ (ns : List Micro). micro.HoldPrepare x ∷ ns) heads_.1))
step_course s k answer m is first (inside x ms there groups empty at) =
    let here = script_step k m empty first in
    inside_course s (taken k) answer m x ms there groups here.1 (subst (λ (ns : List Micro). Inside x ms s.prepare_holds s.enable_holds ns) here.0 at)

-- no other step polls than the one that comes next
pub record AsksOnce (k : Change) : Type 0 where
  pub first : list_any is_poll (rest_of k.front) ≡ false
  pub left : list_any is_poll k.left ≡ false

asks_once : (s : State) (k : Change) → Place (registered s.clocks) s.prepare_holds s.enable_holds k.front k.left → AsksOnce k
asks_once s k (between prepares enables calm groups) = record { first = calm_rest k.front calm; left = groups_ask_none (registered s.clocks) k.left groups } where
  calm_asks_none : (m : Micro) → calms (registered s.clocks) m ≡ true → is_poll m ≡ false
  calm_asks_none (micro.Poll y) own = absurd cc
  calm_asks_none m own = refl

  calm_ask_none : (ms : List Micro) → list_all (calms (registered s.clocks)) ms ≡ true → list_any is_poll ms ≡ false
  calm_ask_none [] still = refl
  calm_ask_none (m ∷ ms) still =
      ap (λ (b : Bool). b || list_any is_poll ms) (calm_asks_none m (both_left (calms (registered s.clocks) m) (list_all (calms (registered s.clocks)) ms) still))
      ∙ calm_ask_none ms (both_right (calms (registered s.clocks) m) (list_all (calms (registered s.clocks)) ms) still)

  calm_rest : (ms : List Micro) → list_all (calms (registered s.clocks)) ms ≡ true → list_any is_poll (rest_of ms) ≡ false
  calm_rest [] still = refl
  calm_rest (m ∷ ms) still = calm_ask_none ms (both_right (calms (registered s.clocks) m) (list_all (calms (registered s.clocks)) ms) still)
asks_once s k (raising x c ms there groups prepares enables asking none left) =
    record { first = none; left = ap (list_any is_poll) left ∙ groups_ask_none (registered s.clocks) ms groups }
asks_once s k (inside x ms there groups empty at) =
    record { first = ap (λ (ns : List Micro). list_any is_poll (rest_of ns)) empty; left = by at } where
      by : Inside x ms s.prepare_holds s.enable_holds k.left → list_any is_poll k.left ≡ false
      by (held_prepared c prepares enables left) = ap (list_any is_poll) left ∙ groups_ask_none (registered s.clocks) ms groups
      by (held_enabled c prepares enables left) = ap (list_any is_poll) left ∙ groups_ask_none (registered s.clocks) ms groups
      by (gate_closed prepares enables left) = ap (list_any is_poll) left ∙ groups_ask_none (registered s.clocks) ms groups
      by (enable_gone prepares enables left) = ap (list_any is_poll) left ∙ groups_ask_none (registered s.clocks) ms groups
      by (prepare_gone prepares enables left) = ap (list_any is_poll) left ∙ groups_ask_none (registered s.clocks) ms groups

-- what is known of a sweep in flight at a step
pub record SweptStep (s u : State) (d : ℕ) (m : Micro) (answer : Option Bool) (x : Turn) : Type 0 where
  pub now : Change
  pub is : IsStep s u d m answer x now
  pub call_ : now.call ≡ call.Sweep
  pub asks : AsksOnce now
  pub left : is_end m ≡ false → IsSwept u
  pub frees : is_end m ≡ true → (s.prepare_holds ≡ []) × (s.enable_holds ≡ [])
  pub lowers : (y : ClockId) → m ≡ micro.Lower y → s.prepare_holds ≡ []
  pub there : lowers_there s.clocks m ≡ true
  pub own : is_of_sweep m ≡ true

pub swept_step : (s u : State) (d : ℕ) (m : Micro) (answer : Option Bool) (x : Turn) → IsSwept s → next s d (event.Step m answer) ≡ Some (u, x) → SweptStep s u d m answer x
unfolding settled
swept_step s u d m answer x swept step =
    let is = of_change s u d m answer x swept.now swept.at step in
    let course = step_course s swept.now answer m swept.call_ is.first swept.place in
    record {
      now = swept.now;
      is = is;
      call_ = swept.call_;
      asks = asks_once s swept.now swept.place;
      left = λ going.
          let leaves = course.leaves going in
          subst (λ (v : State). IsSwept v) is.state (record { now = leaves.now; at = leaves.at; call_ = leaves.call_ ∙ swept.call_; place = leaves.place });
      frees = course.frees;
      lowers = course.lowers;
      there = course.there;
      own = course.own;
    }

-- ---- runs

-- whatever sweep is in flight in a state, it is in such a place
abbrev IfSwept : State → Type 0
IfSwept s = sweeps s ≡ true → IsSwept s

only_sweep : (what : Sleeping) → is_sweep what ≡ true → what ≡ call.Sweep
only_sweep call.Sweep is = refl
only_sweep _ is = absurd cc

pub none_sweeps : (s : State) → s.change ≡ None → sweeps s ≡ false
none_sweeps s quiet = ap (λ (o : Option Change). option_map_or (λ k. is_sweep k.call) o false) quiet

none_swept : (s : State) → s.change ≡ None → IfSwept s
none_swept s quiet is = let no : false ≡ true = sym (none_sweeps s quiet) ∙ is in absurd cc

-- one begins between its groups
sweep_begins : (s u : State) (d : ℕ) → IsRun s → next s d (event.Begin call.Sweep) ≡ Some (u, turn.Going) → IsSwept u
unfolding settled
sweep_begins s u d run step = by run.running_ where
  start : (s.change ≡ None) × (record (settled s (begun s d call.Sweep).0) { spent = s.spent + 1 } ≡ u) × ((begun s d call.Sweep).1 ≡ turn.Going)
  start = begin_is s u d call.Sweep turn.Going step

  rests : IsAtRest s → IsSwept u
  rests rest =
      subst (λ (v : State). IsSwept v) (begun_as start.2 ∙ start.1) (record {
        now = change_of s d call.Sweep (sweep_script s);
        at = refl;
        call_ = refl;
        place = between rest.prepares rest.enables refl (script_groups s (λ c p at. (rest.safe.sound.tree.linked c p at).1));
      }) where
        begun_as : (begun s d call.Sweep).1 ≡ turn.Going
            → record (settled s (record s { change = Some (change_of s d call.Sweep (sweep_script s)) })) { spent = s.spent + 1 } ≡ record (settled s (begun s d call.Sweep).0) { spent = s.spent + 1 }
        begun_as going = ap (λ (y : State). let v : State = record (settled s y) { spent = s.spent + 1 } in v) (sym (sweep_state s d going))

  by : IsRunning s → IsSwept u
  by (quietly quiet rest) = rests rest
  by (in_flight goes) = let no : Some goes.change ≡ None = sym goes.at ∙ start.0 in absurd cc

-- the enable tier leaves it
tier_swept : (s u : State) (d : ℕ) (e : Event) (x : Turn) → is_enable_tier e ≡ true → IfSwept s → next s d e ≡ Some (u, x) → IfSwept u
tier_swept s u d e x tier before step is =
    let change = beside_change s u d e x tier step in
    let clocks = beside_clocks s u d e x tier step in
    let swept = before (ap (λ (o : Option Change). option_map_or (λ k. is_sweep k.call) o false) (sym change) ∙ is) in
    record {
      now = swept.now;
      at = change ∙ swept.at;
      call_ = swept.call_;
      place =
          subst (λ (rows : List ClockRow). Place (registered rows) u.prepare_holds u.enable_holds swept.now.front swept.now.left) (sym clocks.0)
          (subst (λ (ps : List ℕ). Place (registered s.clocks) ps u.enable_holds swept.now.front swept.now.left) (sym clocks.1)
          (subst (λ (es : List ℕ). Place (registered s.clocks) s.prepare_holds es swept.now.front swept.now.left) (sym clocks.2) swept.place));
    }

-- a call that begins and goes on is the sweep, or another
begun_sweeps : (s u : State) (d : ℕ) (what : Sleeping) (x : Turn) → next s d (event.Begin what) ≡ Some (u, x) → sweeps u ≡ true → (what ≡ call.Sweep) × (x ≡ turn.Going)
unfolding settled
begun_sweeps s u d what (turn.Done r) step is = let no : false ≡ true = sym (none_sweeps u (answered_quiet s u d what r step)) ∙ is in absurd cc
begun_sweeps s u d what turn.Going step is = (only_sweep what same, refl) where
  start : (s.change ≡ None) × (record (settled s (begun s d what).0) { spent = s.spent + 1 } ≡ u) × ((begun s d what).1 ≡ turn.Going)
  start = begin_is s u d what turn.Going step

  same : is_sweep what ≡ true
  same =
      let going = (begun_going s d what).from start.2 in
      let change : u.change ≡ Some going.1 = sym (ap (λ (v : State). v.change) start.1) ∙ ap (λ (v : State). v.change) going.2 in
      ap is_sweep (sym going.3.call) ∙ sym (ap (λ (o : Option Change). option_map_or (λ k. is_sweep k.call) o false) change) ∙ is

changed : (q v : State) (n : ℕ) → (let w : State = record (settled q v) { steps = n } in w.change) ≡ v.change
unfolding settled
changed q v n = refl

not_last : (i : Micro) → (is_end i ≡ true → ⊥) → is_end i ≡ false
not_last micro.End other = absurd (other refl)
not_last i other = refl

going_on : (q : State) (k : Change) (a : Option Bool) (i : Micro) → is_end i ≡ true → (stepped q k a i).1 ≡ turn.Going → ⊥
unfolding stepped
going_on q k a micro.End last e = cc
going_on q k a _ last e = absurd cc

-- a step of a sweep that goes on, of which another step comes
record StillSweeps (s : State) (m : Micro) : Type 0 where
  here : sweeps s ≡ true
  going : is_end m ≡ false

stepped_sweeps : (s u : State) (d : ℕ) (m : Micro) (answer : Option Bool) (x : Turn) → next s d (event.Step m answer) ≡ Some (u, x) → sweeps u ≡ true → StillSweeps s m
stepped_sweeps s u d m answer x step is = by x step where
  by : (y : Turn) → next s d (event.Step m answer) ≡ Some (u, y) → StillSweeps s m
  by (turn.Done r) done =
      let found = step_is s u d m answer (turn.Done r) done in
      let no : false ≡ true = sym (none_sweeps u (end_quiet s u d m answer r found.0 found.1)) ∙ is in
      absurd cc
  by turn.Going going =
      let found = step_is s u d m answer turn.Going going in
      let after = step_after s (taken found.0) answer m found.1.answered in
      let kept : u.change ≡ Some after.0 = sym (ap (λ (v : State). v.change) found.1.state) ∙ changed s (stepped s (taken found.0) answer m).0 (s.steps + 1) ∙ after.1 in
      let call_ : after.0.call ≡ found.0.call = after.2.call in
      record {
        here = ap (λ (o : Option Change). option_map_or (λ k. is_sweep k.call) o false) found.1.at ∙ ap is_sweep (sym call_)
            ∙ sym (ap (λ (o : Option Change). option_map_or (λ k. is_sweep k.call) o false) kept) ∙ is;
        going = not_last m (λ last. going_on s (taken found.0) answer m last found.1.answered);
      }

-- no sweep is in flight after the event of another call
pub begun_unswept : (s u : State) (d : ℕ) (what : Sleeping) (x : Turn) → is_sweep what ≡ false → next s d (event.Begin what) ≡ Some (u, x) → sweeps u ≡ false
begun_unswept s u d what x other step = by (sweeps u) refl where
  by : (b : Bool) → sweeps u ≡ b → b ≡ false
  by true is = let no : true ≡ false = sym (ap is_sweep (begun_sweeps s u d what x step is).0) ∙ other in absurd cc
  by false is = refl

pub stepped_unswept : (s u : State) (d : ℕ) (m : Micro) (answer : Option Bool) (x : Turn) → sweeps s ≡ false → next s d (event.Step m answer) ≡ Some (u, x) → sweeps u ≡ false
stepped_unswept s u d m answer x none step = by (sweeps u) refl where
  by : (b : Bool) → sweeps u ≡ b → b ≡ false
  by true is = let no : true ≡ false = sym (stepped_sweeps s u d m answer x step is).here ∙ none in absurd cc
  by false is = refl

begun_swept : (s u : State) (d : ℕ) (what : Sleeping) (x : Turn) → IsRun s → next s d (event.Begin what) ≡ Some (u, x) → IfSwept u
begun_swept s u d what x run step is =
    let sweep = begun_sweeps s u d what x step is in
    sweep_begins s u d run (ap (λ (w : Sleeping). next s d (event.Begin w)) (sym sweep.0) ∙ step ∙ ap (λ (y : Turn). let z : State × Turn = (u, y) in Some z) sweep.1)

stepped_swept : (s u : State) (d : ℕ) (m : Micro) (answer : Option Bool) (x : Turn) → IfSwept s → next s d (event.Step m answer) ≡ Some (u, x) → IfSwept u
stepped_swept s u d m answer x before step is = let still = stepped_sweeps s u d m answer x step is in (swept_step s u d m answer x (before still.here) step).left still.going

-- each event leaves it so
event_swept : (s u : State) (d : ℕ) (e : Event) (x : Turn) → IsRun s → IfSwept s → next s d e ≡ Some (u, x) → IfSwept u
event_swept s u d (event.Enable n) x run before step = tier_swept s u d (event.Enable n) x refl before step
event_swept s u d (event.Disable n) x run before step = tier_swept s u d (event.Disable n) x refl before step
event_swept s u d (event.Running n) x run before step = tier_swept s u d (event.Running n) x refl before step
event_swept s u d (event.Begin what) x run before step = begun_swept s u d what x run step
event_swept s u d (event.Step m answer) x run before step = stepped_swept s u d m answer x before step

replay_swept : (es : List Entry) (s : State) → IsRun s → IfSwept s → IfSwept (replay s es)
replay_swept [] s run before = before
replay_swept (e ∷ es) s run before = by_next (next s e.driver e.event) refl (λ u r i. replay_swept es u r i) where
  by_next : (o : Option (State × Turn)) → next s e.driver e.event ≡ o → ((u : State) → IsRun u → IfSwept u → IfSwept (replay u es)) → IfSwept (replay (option_map_or (λ x. x.0) o s) es)
  by_next None at rest = rest s run before
  by_next (Some x) at rest = rest x.0 (run_goes_on s x.0 e.driver e.event x.1 run at) (event_swept s x.0 e.driver e.event x.1 run before at)

pub runs_are_swept : (defs : Description) (regs : Registers) (ignore_unused : Bool) (credits : ℕ) (journal : List Entry) → IsValid (length regs) defs
    → sweeps (replay (opening defs regs ignore_unused credits) journal) ≡ true → IsSwept (replay (opening defs regs ignore_unused credits) journal)
runs_are_swept defs regs ignore_unused credits journal valid =
    replay_swept journal (opening defs regs ignore_unused credits) (run_of defs regs ignore_unused credits [] valid) (none_swept (opening defs regs ignore_unused credits) refl)
