-- One protection more of the clock.
use Rattle.std.proofs.Common.{◌≡◌, ℕ, ◌+◌, ◌<◌, List, Option, sym, ap, ◌∙◌, subst, arith, length, set, get_or}
use Rattle.std.proofs.lemmas.List.{get_or_read, length-set}
use Rattle.clk_base.specs.declared.clock.ClockId.{ClockId}
use Rattle.counts_core.specs.Sums.{AreSums}
use Rattle.counts_core.specs.Counted.{CountState}
use Rattle.counts_core.proofs.Walking.{count-more}
use Rattle.counts_core.proofs.Held.{counted_exclusives, few_added, own_small}
use Rattle.counts_core.proofs.counts.Counts.protect.Goals as goal

pub add-requires-clause-few : goal.add-requires-clause-few
add-requires-clause-few c = let same = ap length c.deref.ensures.value in let most = c.self.invariant.most in omega arith

pub add-requires-clause-room : goal.add-requires-clause-room
add-requires-clause-room c = λ d. let small = own_small c.self.invariant d in omega arith

pub invariant_of-self : goal.invariant_of-self
invariant_of-self c =
    let k = c.self.invariant in
    let s = c.self.inside in
    let n = c.args.c.0 in
    let room_links : length s.links.items ≡ length c.args.self.now.links = ap (λ (t : CountState). length t.links) c.self.view_is in
    let asked = c.requires.place in
    let within : n < length s.links.items = omega arith in
    let size = k.exclusive_size in
    let owned = k.protect_sums.owned in
    let value : c.index_mut.result.now ≡ get_or s.exclusives.items n 0 = get_or_read s.exclusives.items n c.index_mut.result.now (omega arith) c.index_mut.ensures.value 0 in
    let room : get_or s.exclusives.items n 0 < 8388608 = subst (λ (xs : List ℕ). get_or xs n 0 < 8388608) (sym (ap (λ (t : CountState). t.exclusives) c.self.view_is)) c.requires.room in
    let sums = subst (λ (ls : List (Option ClockId)). AreSums ls c.add.new.self.own.items c.add.new.self.counts.items) c.deref.ensures.value c.add.ensures.sums in
    counted_exclusives (set s.exclusives.items n (c.index_mut.result.now + 1)) c.add.new.self.own.items c.add.new.self.counts.items k
    (few_added s.exclusives.items n c.index_mut.result.now k.exclusive_few (omega arith) room value)
    (length-set s.exclusives.items n (c.index_mut.result.now + 1) ∙ size) sums
    (λ d.
    let own = ap (λ (xs : List ℕ). get_or xs d 0) c.add.ensures.own ∙ count-more s.protects.own.items n d (omega arith) in
    let exclusive = ap (λ (m : ℕ). get_or (set s.exclusives.items n (m + 1)) d 0) value ∙ count-more s.exclusives.items n d (omega arith) in
    omega arith)
