-- What was told with what is left makes the whole, and nobody has vetoed.
use Rattle.std.proofs.Common.{◌≡◌, ◌++◌, drop}
use Rattle.std.specs.List.{list_any}
use Rattle.clk_model.specs.Notices.{is_veto}
use Rattle.change_walk.specs.Tellings.{tell_before}
use Rattle.change_walk.proofs.notices.tell_before.Given as goal

abbrev pub invariant-loop-place : goal.invariant-loop-place
invariant-loop-place l = record {
  told : l.steps.items ++ tell_before l.changed (drop l.place l.chain) ≡ l.fn.steps.items ++ tell_before l.changed l.chain;
  vetoed : list_any is_veto (tell_before l.changed (drop l.place l.chain)) ≡ list_any is_veto (tell_before l.changed l.chain);
}
