-- The kept count is the definitions' sum, and it isn't 0 exactly where the clock is on the path of a holder.
use Rattle.std.proofs.Common.{◌≡◌, ℕ, ap, ◌∙◌, arith, length, nat_lt}
use Rattle.std.proofs.Math.Path.{fun_ext}
use Rattle.std.proofs.lemmas.List.{get_or_read}
use Rattle.counts_core.specs.Counted.{CountState, is_held, sum_over, protect_sum, is_guarded}
use Rattle.counts_core.proofs.Definitions.{counts_sum, counts_held}
use Rattle.counts_core.proofs.Held.{protect_own_is}
use Rattle.counts_core.proofs.counts.Counts.protected.Goals as goal

pub returns-clause-count : goal.returns-clause-count
returns-clause-count c =
    let k = c.self.invariant in
    let s = c.self.inside in
    let links : length s.links.items ≡ length c.args.self.now.links = ap (λ (t : CountState). length t.links) c.self.view_is in
    let size = k.protect_sums.counted in
    let asked = c.requires.place in
    get_or_read s.protects.counts.items c.args.c.0 c.index.result.now (omega arith) c.index.ensures 0
    ∙ counts_sum s.links.items s.protects.own.items s.protects.counts.items k.lines k.protect_sums c.args.c.0
    ∙ ap (λ (f : ℕ → ℕ). sum_over s.links.items f c.args.c.0) (fun_ext (protect_own_is k))
    ∙ ap (λ (t : CountState). protect_sum t c.args.c.0) c.self.view_is

pub returns-clause-guarded : goal.returns-clause-guarded
returns-clause-guarded c =
    let k = c.self.invariant in
    let s = c.self.inside in
    let links : length s.links.items ≡ length c.args.self.now.links = ap (λ (t : CountState). length t.links) c.self.view_is in
    let size = k.protect_sums.counted in
    let asked = c.requires.place in
    ap (nat_lt 0) (get_or_read s.protects.counts.items c.args.c.0 c.index.result.now (omega arith) c.index.ensures 0)
    ∙ counts_held s.links.items s.protects.own.items s.protects.counts.items k.lines k.protect_sums c.args.c.0
    ∙ ap (λ (f : ℕ → ℕ). is_held s.links.items f c.args.c.0) (fun_ext (protect_own_is k))
    ∙ ap (λ (t : CountState). is_guarded t c.args.c.0) c.self.view_is
