-- The clocks that no longer count are no longer active.
use Rattle.std.proofs.Common.{◌≡◌, ◌&&◌, not, List, Option, ap, subst, arith, length}
use Rattle.std.specs.Prelude.{slice_index}
use Rattle.clk_base.specs.declared.clock.ClockId.{ClockId}
use Rattle.clk_model.specs.Lists.{is_in}
use Rattle.clk_model.specs.Tree.{path_within}
use Rattle.counts_core.specs.Sums.{up_in, AreSums, Begins}
use Rattle.counts_core.specs.Counted.{CountState, is_held}
use Rattle.counts_core.proofs.Held.{begins_held}
use Rattle.counts_core.proofs.counts.Counts.disable_walk.Goals as goal

pub take-requires-clause-few : goal.take-requires-clause-few
take-requires-clause-few c = let same = ap length c.deref.ensures.value in let most = c.self.invariant.most in omega arith

pub returns-clause-stopped : goal.returns-clause-stopped
returns-clause-stopped c = λ d.
    let k = c.self.invariant in
    let s = c.self.inside in
    let n = c.args.c.0 in
    let sums = subst (λ (ls : List (Option ClockId)). AreSums ls c.take.new.self.own.items c.take.new.self.counts.items) c.deref.ensures.value c.take.ensures.sums in
    let begins = subst (λ (ls : List (Option ClockId)). Begins ls c.take.new.self.counts.items s.enables.counts.items n c.take.result) c.deref.ensures.value c.take.ensures.stops in
    subst (λ (t : CountState). is_in d (path_within (up_in t.links) c.take.result n) ≡ (is_held t.links (slice_index t.enables) d && not (is_held s.links.items (slice_index c.take.new.self.own.items) d))) c.self.view_is
    (begins_held s.links.items c.take.new.self.own.items c.take.new.self.counts.items s.enables.own.items s.enables.counts.items n c.take.result k.lines sums k.enable_sums begins d)
