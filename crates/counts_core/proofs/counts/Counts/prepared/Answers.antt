-- The kept count is the definitions' sum, and it isn't 0 exactly where the clock is on the path of a holder.
use Rattle.std.proofs.Common.{◌≡◌, ap, ◌∙◌, arith, length, nat_lt}
use Rattle.std.proofs.lemmas.List.{get_or_read}
use Rattle.counts_core.specs.Counted.{CountState, prepare_sum, is_prepared}
use Rattle.counts_core.proofs.Definitions.{counts_sum, counts_held}
use Rattle.counts_core.proofs.counts.Counts.prepared.Goals as goal

pub returns-clause-count : goal.returns-clause-count
returns-clause-count c =
    let k = c.self.invariant in
    let s = c.self.inside in
    let links : length s.links.items ≡ length c.args.self.now.links = ap (λ (t : CountState). length t.links) c.self.view_is in
    let size = k.prepare_sums.counted in
    let asked = c.requires.place in
    get_or_read s.prepares.counts.items c.args.c.0 c.index.result.now (omega arith) c.index.ensures 0
    ∙ counts_sum s.links.items s.prepares.own.items s.prepares.counts.items k.lines k.prepare_sums c.args.c.0
    ∙ ap (λ (t : CountState). prepare_sum t c.args.c.0) c.self.view_is

pub returns-clause-prepared : goal.returns-clause-prepared
returns-clause-prepared c =
    let k = c.self.invariant in
    let s = c.self.inside in
    let links : length s.links.items ≡ length c.args.self.now.links = ap (λ (t : CountState). length t.links) c.self.view_is in
    let size = k.prepare_sums.counted in
    let asked = c.requires.place in
    ap (nat_lt 0) (get_or_read s.prepares.counts.items c.args.c.0 c.index.result.now (omega arith) c.index.ensures 0)
    ∙ counts_held s.links.items s.prepares.own.items s.prepares.counts.items k.lines k.prepare_sums c.args.c.0
    ∙ ap (λ (t : CountState). is_prepared t c.args.c.0) c.self.view_is
