-- The clocks that begin to count begin to be prepared, and those of them that are gated are protected.
use Rattle.std.proofs.Common.{◌≡◌, ℕ, ◌+◌, ◌<◌, ◌&&◌, Bool, not, List, Option, sym, ap, ◌∙◌, subst, arith, length, set, get_or}
use Rattle.std.specs.Prelude.{slice_index}
use Rattle.std.proofs.lemmas.List.{get_or_read, with_items_is}
use Rattle.clk_base.specs.declared.clock.ClockId.{ClockId}
use Rattle.clk_model.specs.Lists.{is_in}
use Rattle.clk_model.specs.Tree.{path_within}
use Rattle.counts_core.specs.Sums.{up_in, AreSums, OneMore, Begins, Grows}
use Rattle.counts_core.specs.Counted.{CountState, is_held}
use Rattle.counts_core.specs.CountsKept.{IsCounted}
use Rattle.counts_core.proofs.Tallies.{sums_small, sums_added}
use Rattle.counts_core.proofs.Held.{begins_held, counted_prepares, few_added, own_small}
use Rattle.counts_core.proofs.counts.Counts.hold.Goals as goal

pub hold_up-requires-clause-few : goal.hold_up-requires-clause-few
hold_up-requires-clause-few c = let same = ap length c.deref.ensures.value in let most = c.self.invariant.most in omega arith

pub hold_up-requires-clause-room : goal.hold_up-requires-clause-room
hold_up-requires-clause-room c = λ d.
    let k = c.self.invariant in
    let s = c.self.inside in
    let small = sums_small s.links.items s.prepares.own.items s.prepares.counts.items d 8388608 k.prepare_sums k.most (k.prepare_few d) in
    let same : get_or c.deref_mut.result.now d 0 ≡ get_or s.prepares.counts.items d 0 = ap (λ (xs : List ℕ). get_or xs d 0) c.deref_mut.ensures.value in
    omega arith

pub hold_up-requires-clause-small : goal.hold_up-requires-clause-small
hold_up-requires-clause-small c = λ d. let small = own_small c.self.invariant d in omega arith

pub invariant_of-self : goal.invariant_of-self
invariant_of-self c =
    let k = c.self.invariant in
    let s = c.self.inside in
    let n = c.args.c.0 in
    let room_links : length s.links.items ≡ length c.args.self.now.links = ap (λ (t : CountState). length t.links) c.self.view_is in
    let asked = c.requires.place in
    let within : n < length s.links.items = omega arith in
    let size = k.prepare_sums.owned in
    let value : c.index_mut.result.now ≡ get_or s.prepares.own.items n 0 = get_or_read s.prepares.own.items n c.index_mut.result.now (omega arith) c.index_mut.ensures.value 0 in
    let more = subst (λ (xs : List ℕ). OneMore s.links.items xs c.hold_up.new.prepares n) c.deref_mut.ensures.value
    (subst (λ (ls : List (Option ClockId)). OneMore ls c.deref_mut.result.now c.hold_up.new.prepares n) c.deref.ensures.value c.hold_up.ensures.more) in
    let protects = subst (λ (ls : List (Option ClockId)). AreSums ls c.hold_up.new.protects.own.items c.hold_up.new.protects.counts.items) c.deref.ensures.value c.hold_up.ensures.sums in
    let grown = subst (λ (xs : List ℕ). Grows s.gated.items s.protects.own.items xs c.hold_up.new.protects.own.items c.hold_up.new.prepares) c.deref_mut.ensures.value
    (subst (λ (gs : List Bool). Grows gs s.protects.own.items c.deref_mut.result.now c.hold_up.new.protects.own.items c.hold_up.new.prepares) c.deref-2.ensures.value c.hold_up.ensures.coupled) in
    let sums = subst (λ (m : ℕ). AreSums s.links.items (set s.prepares.own.items n (m + 1)) c.hold_up.new.prepares) (sym value)
    (sums_added s.links.items s.prepares.own.items s.prepares.counts.items c.hold_up.new.prepares n k.prepare_sums more within) in
    let room : get_or s.prepares.own.items n 0 < 8388608 = subst (λ (xs : List ℕ). get_or xs n 0 < 8388608) (sym (ap (λ (t : CountState). t.prepares) c.self.view_is)) c.requires.room in
    let few = few_added s.prepares.own.items n c.index_mut.result.now k.prepare_few (omega arith) room value in
    let items = with_items_is s.prepares.counts c.hold_up.new.prepares (more.size ∙ sym s.prepares.counts.ok.0) in
    subst (λ (xs : List ℕ). IsCounted s.links.items s.gated.items s.enables.own.items (set s.prepares.own.items n (c.index_mut.result.now + 1)) s.exclusives.items s.enables.counts.items xs c.hold_up.new.protects.own.items c.hold_up.new.protects.counts.items)
    (sym items)
    (counted_prepares (set s.prepares.own.items n (c.index_mut.result.now + 1)) c.hold_up.new.prepares c.hold_up.new.protects.own.items c.hold_up.new.protects.counts.items k few sums protects grown)

pub returns-clause-begun : goal.returns-clause-begun
returns-clause-begun c = λ d.
    let k = c.self.invariant in
    let s = c.self.inside in
    let n = c.args.c.0 in
    let room_links : length s.links.items ≡ length c.args.self.now.links = ap (λ (t : CountState). length t.links) c.self.view_is in
    let asked = c.requires.place in
    let within : n < length s.links.items = omega arith in
    let size = k.prepare_sums.owned in
    let value : c.index_mut.result.now ≡ get_or s.prepares.own.items n 0 = get_or_read s.prepares.own.items n c.index_mut.result.now (omega arith) c.index_mut.ensures.value 0 in
    let more = subst (λ (xs : List ℕ). OneMore s.links.items xs c.hold_up.new.prepares n) c.deref_mut.ensures.value
    (subst (λ (ls : List (Option ClockId)). OneMore ls c.deref_mut.result.now c.hold_up.new.prepares n) c.deref.ensures.value c.hold_up.ensures.more) in
    let begins = subst (λ (xs : List ℕ). Begins s.links.items xs c.hold_up.new.prepares n c.hold_up.result) c.deref_mut.ensures.value
    (subst (λ (ls : List (Option ClockId)). Begins ls c.deref_mut.result.now c.hold_up.new.prepares n c.hold_up.result) c.deref.ensures.value c.hold_up.ensures.begins) in
    let sums = subst (λ (m : ℕ). AreSums s.links.items (set s.prepares.own.items n (m + 1)) c.hold_up.new.prepares) (sym value)
    (sums_added s.links.items s.prepares.own.items s.prepares.counts.items c.hold_up.new.prepares n k.prepare_sums more within) in
    subst (λ (t : CountState). is_in d (path_within (up_in t.links) c.hold_up.result n) ≡ (is_held s.links.items (slice_index (set s.prepares.own.items n (c.index_mut.result.now + 1))) d && not (is_held t.links (slice_index t.prepares) d))) c.self.view_is
    (begins_held s.links.items s.prepares.own.items s.prepares.counts.items (set s.prepares.own.items n (c.index_mut.result.now + 1)) c.hold_up.new.prepares n c.hold_up.result k.lines k.prepare_sums sums begins d)
