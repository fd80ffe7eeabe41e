-- The clocks that no longer count are no longer prepared, and those of them that are gated are less protected.
use Rattle.std.proofs.Common.{◌≡◌, ℕ, ◌-◌, ◌<◌, ◌&&◌, Bool, not, List, Option, sym, ap, ◌∙◌, subst, arith, length, set, get_or}
use Rattle.std.specs.Prelude.{slice_index}
use Rattle.std.proofs.lemmas.List.{get_or_read, with_items_is}
use Rattle.clk_base.specs.declared.clock.ClockId.{ClockId}
use Rattle.clk_model.specs.Lists.{is_in}
use Rattle.clk_model.specs.Tree.{path_within}
use Rattle.counts_core.specs.Sums.{up_in, AreSums, OneMore, Begins, Grows}
use Rattle.counts_core.specs.Counted.{CountState, is_held}
use Rattle.counts_core.specs.CountsKept.{IsCounted}
use Rattle.counts_core.proofs.Tallies.{sums_taken}
use Rattle.counts_core.proofs.Held.{begins_held, counted_prepares, few_taken}
use Rattle.counts_core.proofs.counts.Counts.release.Goals as goal

pub release_up-requires-clause-few : goal.release_up-requires-clause-few
release_up-requires-clause-few c = let same = ap length c.deref.ensures.value in let most = c.self.invariant.most in omega arith

pub invariant_of-self : goal.invariant_of-self
invariant_of-self c =
    let k = c.self.invariant in
    let s = c.self.inside in
    let n = c.args.c.0 in
    let room_links : length s.links.items ≡ length c.args.self.now.links = ap (λ (t : CountState). length t.links) c.self.view_is in
    let asked = c.requires.place in
    let within : n < length s.links.items = omega arith in
    let size = k.prepare_sums.owned in
    let value : c.index_mut.result.now ≡ get_or s.prepares.own.items n 0 = get_or_read s.prepares.own.items n c.index_mut.result.now (omega arith) c.index_mut.ensures.value 0 in
    let held : 0 < get_or s.prepares.own.items n 0 = subst (λ (xs : List ℕ). 0 < get_or xs n 0) (sym (ap (λ (t : CountState). t.prepares) c.self.view_is)) c.requires.held in
    let more = subst (λ (xs : List ℕ). OneMore s.links.items c.release_up.new.prepares xs n) c.deref_mut.ensures.value
    (subst (λ (ls : List (Option ClockId)). OneMore ls c.release_up.new.prepares c.deref_mut.result.now n) c.deref.ensures.value c.release_up.ensures.less) in
    let protects = subst (λ (ls : List (Option ClockId)). AreSums ls c.release_up.new.protects.own.items c.release_up.new.protects.counts.items) c.deref.ensures.value c.release_up.ensures.sums in
    let grown = subst (λ (xs : List ℕ). Grows s.gated.items s.protects.own.items xs c.release_up.new.protects.own.items c.release_up.new.prepares) c.deref_mut.ensures.value
    (subst (λ (gs : List Bool). Grows gs s.protects.own.items c.deref_mut.result.now c.release_up.new.protects.own.items c.release_up.new.prepares) c.deref-2.ensures.value c.release_up.ensures.coupled) in
    let sums = subst (λ (m : ℕ). AreSums s.links.items (set s.prepares.own.items n (m - 1)) c.release_up.new.prepares) (sym value)
    (sums_taken s.links.items s.prepares.own.items s.prepares.counts.items c.release_up.new.prepares n k.prepare_sums more within held) in
    let few = few_taken s.prepares.own.items n (c.index_mut.result.now - 1) s.links.items k.prepare_few (sym size) (omega arith) (omega arith) in
    let items = with_items_is s.prepares.counts c.release_up.new.prepares (sym more.size ∙ sym s.prepares.counts.ok.0) in
    subst (λ (xs : List ℕ). IsCounted s.links.items s.gated.items s.enables.own.items (set s.prepares.own.items n (c.index_mut.result.now - 1)) s.exclusives.items s.enables.counts.items xs c.release_up.new.protects.own.items c.release_up.new.protects.counts.items)
    (sym items)
    (counted_prepares (set s.prepares.own.items n (c.index_mut.result.now - 1)) c.release_up.new.prepares c.release_up.new.protects.own.items c.release_up.new.protects.counts.items k few sums protects grown)

pub returns-clause-stopped : goal.returns-clause-stopped
returns-clause-stopped c = λ d.
    let k = c.self.invariant in
    let s = c.self.inside in
    let n = c.args.c.0 in
    let room_links : length s.links.items ≡ length c.args.self.now.links = ap (λ (t : CountState). length t.links) c.self.view_is in
    let asked = c.requires.place in
    let within : n < length s.links.items = omega arith in
    let size = k.prepare_sums.owned in
    let value : c.index_mut.result.now ≡ get_or s.prepares.own.items n 0 = get_or_read s.prepares.own.items n c.index_mut.result.now (omega arith) c.index_mut.ensures.value 0 in
    let held : 0 < get_or s.prepares.own.items n 0 = subst (λ (xs : List ℕ). 0 < get_or xs n 0) (sym (ap (λ (t : CountState). t.prepares) c.self.view_is)) c.requires.held in
    let more = subst (λ (xs : List ℕ). OneMore s.links.items c.release_up.new.prepares xs n) c.deref_mut.ensures.value
    (subst (λ (ls : List (Option ClockId)). OneMore ls c.release_up.new.prepares c.deref_mut.result.now n) c.deref.ensures.value c.release_up.ensures.less) in
    let begins = subst (λ (xs : List ℕ). Begins s.links.items c.release_up.new.prepares xs n c.release_up.result) c.deref_mut.ensures.value
    (subst (λ (ls : List (Option ClockId)). Begins ls c.release_up.new.prepares c.deref_mut.result.now n c.release_up.result) c.deref.ensures.value c.release_up.ensures.stops) in
    let sums = subst (λ (m : ℕ). AreSums s.links.items (set s.prepares.own.items n (m - 1)) c.release_up.new.prepares) (sym value)
    (sums_taken s.links.items s.prepares.own.items s.prepares.counts.items c.release_up.new.prepares n k.prepare_sums more within held) in
    subst (λ (t : CountState). is_in d (path_within (up_in t.links) c.release_up.result n) ≡ (is_held t.links (slice_index t.prepares) d && not (is_held s.links.items (slice_index (set s.prepares.own.items n (c.index_mut.result.now - 1))) d))) c.self.view_is
    (begins_held s.links.items (set s.prepares.own.items n (c.index_mut.result.now - 1)) c.release_up.new.prepares s.prepares.own.items s.prepares.counts.items n c.release_up.result k.lines sums k.prepare_sums begins d)
