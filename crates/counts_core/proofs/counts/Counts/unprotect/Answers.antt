-- One protection less of the clock.
use Rattle.std.proofs.Common.{◌≡◌, ℕ, ◌-◌, ◌<◌, List, Option, sym, ap, ◌∙◌, subst, arith, length, set, get_or}
use Rattle.std.proofs.lemmas.List.{get_or_read, length-set}
use Rattle.clk_base.specs.declared.clock.ClockId.{ClockId}
use Rattle.counts_core.specs.Sums.{AreSums}
use Rattle.counts_core.specs.Counted.{CountState}
use Rattle.counts_core.proofs.Steps.{steps_down}
use Rattle.counts_core.proofs.Held.{counted_exclusives, few_taken}
use Rattle.counts_core.proofs.counts.Counts.unprotect.Goals as goal

pub take-requires-clause-few : goal.take-requires-clause-few
take-requires-clause-few c = let same = ap length c.deref.ensures.value in let most = c.self.invariant.most in omega arith

pub invariant_of-self : goal.invariant_of-self
invariant_of-self c =
    let k = c.self.invariant in
    let s = c.self.inside in
    let n = c.args.c.0 in
    let room_links : length s.links.items ≡ length c.args.self.now.links = ap (λ (t : CountState). length t.links) c.self.view_is in
    let asked = c.requires.place in
    let within : n < length s.links.items = omega arith in
    let size = k.exclusive_size in
    let owned = k.protect_sums.owned in
    let whole = k.coupled n in
    let value : c.index_mut.result.now ≡ get_or s.exclusives.items n 0 = get_or_read s.exclusives.items n c.index_mut.result.now (omega arith) c.index_mut.ensures.value 0 in
    let held : 0 < get_or s.exclusives.items n 0 = subst (λ (xs : List ℕ). 0 < get_or xs n 0) (sym (ap (λ (t : CountState). t.exclusives) c.self.view_is)) c.requires.held in
    let sums = subst (λ (ls : List (Option ClockId)). AreSums ls c.take.new.self.own.items c.take.new.self.counts.items) c.deref.ensures.value c.take.ensures.sums in
    counted_exclusives (set s.exclusives.items n (c.index_mut.result.now - 1)) c.take.new.self.own.items c.take.new.self.counts.items k
    (few_taken s.exclusives.items n (c.index_mut.result.now - 1) s.links.items k.exclusive_few (sym size) (omega arith) (omega arith))
    (length-set s.exclusives.items n (c.index_mut.result.now - 1) ∙ size) sums
    (λ d.
    let own = (steps_down s.links.items s.protects.own.items n (get_or s.protects.own.items n 0 - 1) (sym owned) (omega arith) (omega arith)).counts d in
    let taken = ap (λ (xs : List ℕ). get_or xs d 0) c.take.ensures.own in
    let exclusive = (steps_down s.links.items s.exclusives.items n (c.index_mut.result.now - 1) (sym size) (omega arith) (omega arith)).counts d in
    omega arith)
