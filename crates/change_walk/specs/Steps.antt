-- The steps of a walk in code.
use Rattle.std.specs.Prelude.{◌≡◌, ℕ, ◌+◌, ◌-◌, ◌^◌, ◌++◌, ◌&&◌, List, [], ◌∷◌, Option, Some, None, Bool, if◌then◌else◌, flat_map, length, min, slice_index, sum_by}
use Rattle.std.specs.List.{list_any}
use Rattle.std.specs.Option.{option_map_or}
use Rattle.clk_base.specs.declared.call.Micro.{Micro}
use Rattle.clk_base.specs.declared.call.Micro.TheVariants as micro
use Rattle.clk_base.specs.declared.clock.ClockId.{ClockId}
use Rattle.clk_base.specs.Description.{Description}
use Rattle.clk_base.specs.Flags.{runs_parent, runs_to_set}
use Rattle.clk_model.specs.declared.row.ClockRow.{ClockRow}
use Rattle.clk_model.specs.Chain.{clock_id, place_of}
use Rattle.clk_model.specs.Notices.{is_veto}
use Rattle.clk_model.specs.Script.{is_raise, unfeed, move_of, visit_of, plls}
use Rattle.clk_model.specs.State as state
use Rattle.clk_model.specs.State.{link_in}
use Rattle.clk_tree.specs.declared.plan.Plan.{Plan}
use Rattle.clk_tree.specs.Plans.{ClockRate}
use Rattle.clk_tree.specs.TreeState.{TreeState}
use Rattle.notifiers.specs.declared.notifier.Notifier.{Notifier}
use Rattle.change_walk.specs.declared.changes.Changed.{Changed}
use Rattle.change_walk.specs.Changes.{changed_along, parent_after}
use Rattle.change_walk.specs.Given.{OfTree, Script, all_changed, settles}
use Rattle.change_walk.specs.Tellings.{notifiers_at, tell_before, tell_off}
use Rattle.change_walk.specs.Weights.{step_weight}

-- the holds that keep a powered clock running
abbrev pub holds : ClockId → List Micro
holds c = micro.HoldPrepare c ∷ micro.HoldEnable c ∷ []

-- what is let go of when a clock has moved: the parent that it had
abbrev pub drops : List ClockRow → ℕ → List Micro
drops clocks c = option_map_or unfeed (link_in clocks c) []

-- the move of a clock that isn't prepared, while it and its parents run
abbrev pub fed_move : Description → List ClockRow → ℕ → ℕ → List Micro
fed_move defs clocks c p =
    micro.Raise (clock_id c) ∷ micro.Raise (clock_id p) ∷ micro.HoldPrepare (clock_id c) ∷ micro.HoldEnable (clock_id c)
    ∷ micro.HoldPrepare (clock_id p) ∷ micro.HoldEnable (clock_id p)
    ∷ micro.Relink (clock_id c) (clock_id p) ∷ micro.WriteMux (clock_id c) (place_of defs c p)
    ∷ drops clocks c ++ unfeed c

-- the clock that runs while the setting of a clock is written, as its flags say: itself or its parent
abbrev pub runs_by_flags : Description → List ClockRow → ℕ → Option ℕ
runs_by_flags defs clocks c = if runs_to_set defs c then Some c else if runs_parent defs c then link_in clocks c else None

-- each clock of a walk with its move, and then its visit
abbrev pub visits : Description → List ClockRow → (ℕ → Bool) → List state.ChainStep → List ClockRate → List Micro
visits defs clocks prepared ks rates = flat_map (λ r. move_of defs clocks prepared ks r.clock ++ visit_of defs clocks ks r.clock) rates

-- the steps of a script, where these clocks change: the notices, then where one vetoes those that it is called off, else the walk and
-- what is settled behind it, and the end
abbrev pub steps_for : TreeState → (ℕ → Bool) → List (List Notifier) → Plan → List Changed → List Micro
steps_for t prepared notifiers plan changed =
    let told = flat_map (λ x. tell_before x (notifiers_at notifiers x)) changed in
    told
    ++ (if list_any is_veto told then flat_map (λ x. tell_off x (notifiers_at notifiers x)) changed
    else visits t.defs t.clocks prepared plan.chain plan.rates ++ settles plan.set_parent plan.chain)
    ++ micro.End ∷ []

-- how many notifiers these changed clocks have
abbrev pub told_by : List (List Notifier) → List Changed → ℕ
told_by notifiers changed = sum_by (λ x. length (notifiers_at notifiers x)) changed

-- to these notifiers some changed clocks bring the notices of others, before a change and where it is called off, and as many
pub record IsToldAs (notifiers : List (List Notifier)) (some others : List Changed) : Type 0 where
  pub before : flat_map (λ x. tell_before x (notifiers_at notifiers x)) some
      ≡ flat_map (λ x. tell_before x (notifiers_at notifiers x)) others
  pub off : flat_map (λ x. tell_off x (notifiers_at notifiers x)) some ≡ flat_map (λ x. tell_off x (notifiers_at notifiers x)) others
  pub count : told_by notifiers some ≡ told_by notifiers others

-- the clocks that a plan changes, told from the kept rates of a tree and from the rates of the plan's walk
abbrev pub changed_by : TreeState → Plan → List Changed
changed_by t plan = changed_along (parent_after t.clocks plan.chain) (slice_index t.rates) [] plan.rates

-- what a timeout may bring, where these steps are made
abbrev pub brought_by : List (List Notifier) → Plan → List Changed → List Micro → ℕ
brought_by notifiers plan changed steps = if plan.set_parent && list_any is_raise steps then told_by notifiers changed else 0

-- what steps weigh, where they may bring so many notices
abbrev pub weighed_with : TreeState → List (List Notifier) → List Micro → ℕ → ℕ
weighed_with t notifiers steps extra = sum_by (step_weight (plls t.defs) notifiers) steps + extra

-- a script is made of a plan, of which clocks are prepared, and of the notices to the notifiers of the clocks that the plan changes
pub record IsMadeOf (t : TreeState) (prepared : ℕ → Bool) (notifiers : List (List Notifier)) (plan : Plan) (script : Script) : Type 0 where
  pub steps : script.steps ≡ steps_for t prepared notifiers plan (changed_by t plan)
  pub vetoed : script.vetoed ≡ list_any is_veto (flat_map (λ x. tell_before x (notifiers_at notifiers x)) (changed_by t plan))
  -- numbers are cut at the greatest of 64 bits
  pub extra : script.extra ≡ min (brought_by notifiers plan (changed_by t plan) script.steps) (2 ^ 64 - 1)
  pub weight : script.weight ≡ min (weighed_with t notifiers script.steps script.extra) (2 ^ 64 - 1)
  -- of each state that the tree is of, and that it is a plan for, they are the clocks that the definitions call changing,
  -- and no number is cut
  pub changing : OfTree t notifiers plan (λ s. changed_by t plan ≡ all_changed s plan.chain)
  pub extra_whole : OfTree t notifiers plan (λ s. script.extra ≡ brought_by notifiers plan (changed_by t plan) script.steps)
  pub weight_whole : OfTree t notifiers plan (λ s. script.weight ≡ weighed_with t notifiers script.steps script.extra)
