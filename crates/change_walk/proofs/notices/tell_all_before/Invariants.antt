-- What was told with what is left makes the whole, and a veto so far with one of the rest.
use Rattle.std.proofs.Common.{◌≡◌, ◌++◌, ◌||◌, drop}
use Rattle.std.specs.List.{list_any}
use Rattle.std.specs.Prelude.{flat_map}
use Rattle.clk_model.specs.Notices.{is_veto}
use Rattle.change_walk.specs.Tellings.{notifiers_at, tell_before}
use Rattle.change_walk.proofs.notices.tell_all_before.Given as goal

abbrev pub invariant-loop-place : goal.invariant-loop-place
invariant-loop-place l = record {
  told : l.steps.items ++ flat_map (λ x. tell_before x (notifiers_at l.notifiers x)) (drop l.place l.changed)
      ≡ l.fn.steps.items ++ flat_map (λ x. tell_before x (notifiers_at l.notifiers x)) l.changed;
  vetoed : (l.vetoed || list_any is_veto (flat_map (λ x. tell_before x (notifiers_at l.notifiers x)) (drop l.place l.changed)))
      ≡ list_any is_veto (flat_map (λ x. tell_before x (notifiers_at l.notifiers x)) l.changed);
}
