-- The clocks that begin to count begin to be active.
use Rattle.std.proofs.Common.{◌≡◌, ◌&&◌, not, List, Option, ap, subst, arith, length}
use Rattle.std.specs.Prelude.{slice_index}
use Rattle.clk_base.specs.declared.clock.ClockId.{ClockId}
use Rattle.clk_model.specs.Lists.{is_in}
use Rattle.clk_model.specs.Tree.{path_within}
use Rattle.counts_core.specs.Sums.{up_in, AreSums, Begins}
use Rattle.counts_core.specs.Counted.{CountState, is_held}
use Rattle.counts_core.proofs.Held.{begins_held}
use Rattle.counts_core.proofs.counts.Counts.enable_walk.Goals as goal

pub add-requires-clause-few : goal.add-requires-clause-few
add-requires-clause-few c = let same = ap length c.deref.ensures.value in let most = c.self.invariant.most in omega arith

pub returns-clause-begun : goal.returns-clause-begun
returns-clause-begun c = λ d.
    let k = c.self.invariant in
    let s = c.self.inside in
    let n = c.args.c.0 in
    let sums = subst (λ (ls : List (Option ClockId)). AreSums ls c.add.new.self.own.items c.add.new.self.counts.items) c.deref.ensures.value c.add.ensures.sums in
    let begins = subst (λ (ls : List (Option ClockId)). Begins ls s.enables.counts.items c.add.new.self.counts.items n c.add.result) c.deref.ensures.value c.add.ensures.begins in
    subst (λ (t : CountState). is_in d (path_within (up_in t.links) c.add.result n) ≡ (is_held s.links.items (slice_index c.add.new.self.own.items) d && not (is_held t.links (slice_index t.enables) d))) c.self.view_is
    (begins_held s.links.items s.enables.own.items s.enables.counts.items c.add.new.self.own.items c.add.new.self.counts.items n c.add.result k.lines k.enable_sums sums begins d)
