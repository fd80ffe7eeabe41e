-- The kept count is the definitions' sum, and it isn't 0 exactly where the clock is on the path of a holder.
use Rattle.std.proofs.Common.{◌≡◌, ap, ◌∙◌, arith, length, nat_lt}
use Rattle.std.proofs.lemmas.List.{get_or_read}
use Rattle.counts_core.specs.Counted.{CountState, enable_sum, is_active}
use Rattle.counts_core.proofs.Definitions.{counts_sum, counts_held}
use Rattle.counts_core.proofs.counts.Counts.enabled.Goals as goal

pub returns-clause-count : goal.returns-clause-count
returns-clause-count c =
    let k = c.self.invariant in
    let s = c.self.inside in
    let links : length s.links.items ≡ length c.args.self.now.links = ap (λ (t : CountState). length t.links) c.self.view_is in
    let size = k.enable_sums.counted in
    let asked = c.requires.place in
    get_or_read s.enables.counts.items c.args.c.0 c.index.result.now (omega arith) c.index.ensures 0
    ∙ counts_sum s.links.items s.enables.own.items s.enables.counts.items k.lines k.enable_sums c.args.c.0
    ∙ ap (λ (t : CountState). enable_sum t c.args.c.0) c.self.view_is

pub returns-clause-active : goal.returns-clause-active
returns-clause-active c =
    let k = c.self.invariant in
    let s = c.self.inside in
    let links : length s.links.items ≡ length c.args.self.now.links = ap (λ (t : CountState). length t.links) c.self.view_is in
    let size = k.enable_sums.counted in
    let asked = c.requires.place in
    ap (nat_lt 0) (get_or_read s.enables.counts.items c.args.c.0 c.index.result.now (omega arith) c.index.ensures 0)
    ∙ counts_held s.links.items s.enables.own.items s.enables.counts.items k.lines k.enable_sums c.args.c.0
    ∙ ap (λ (t : CountState). is_active t c.args.c.0) c.self.view_is
