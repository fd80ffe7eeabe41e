-- Clock by clock.
use Rattle.std.proofs.Common.{◌≡◌, ◌∙◌, ◌++◌, ◌+◌, ◌&&◌, not, cond, ℕ, Bool, List, [], ◌∷◌, ap, drop, reverse}
use Rattle.std.specs.Prelude.{◌==◌, slice_index}
use Rattle.std.proofs.lemmas.List.{reverse-append}
use Rattle.clk_tree.specs.Plans.{chain_of, rates_of}
use Rattle.change_walk.specs.declared.changes.Passed.{Passed}
use Rattle.change_walk.specs.Changes.{back_to, changed_along, changes_below, parent_after}
use Rattle.change_walk.proofs.Telling.{changed_on}
use Rattle.change_walk.proofs.changes.changes.Goals as goal

pub loop-place-preserved : goal.loop-place-preserved
loop-place-preserved c =
    let up = parent_after c.args.tree.now.clocks (chain_of c.args.chain.now) in
    let entry = c.rate_at-entry.result in
    let old : List Passed = reverse c.loop-place.passed.items in
    let above : List Passed = reverse c.go_back_to.new.passed.items in
    let here : Bool = c.changes_here-changes.result in
    let back : above ≡ back_to (up entry.clock.0) old = c.go_back_to.ensures ∙ ap (λ o. back_to o old) c.parent_after.ensures in
    let test : here ≡ (changes_below above && not (entry.rate == slice_index c.args.tree.now.rates entry.clock.0)) =
    c.changes_here-changes.ensures
    ∙ ap (λ (ps : List Passed). changes_below (reverse ps) && not (entry.rate == c.rate-before.result)) c.deref.ensures.value
    ∙ ap (λ n. changes_below above && not (entry.rate == n)) c.rate-before.ensures.rate in
    let found = c.in_ok-add_if.ensures ∙ ap (λ (n : ℕ). c.loop-place.changed.items ++ cond here (record { clock = entry.clock; before = n; after = entry.rate } ∷ []) []) c.rate-before.ensures.rate in
    ap (λ (ps : List Passed). c.add_if.new.changed.items ++ changed_along up (slice_index c.args.tree.now.rates) ps (drop (c.loop-place.place + 1) (rates_of c.args.rates.now)))
    (ap reverse c.in_ok-push.ensures.items ∙ reverse-append c.go_back_to.new.passed.items (record { clock = entry.clock; changes = here } ∷ []))
    ∙ changed_on up (slice_index c.args.tree.now.rates) c.args.rates.now c.loop-place.place entry old above here c.loop-place.changed.items c.add_if.new.changed.items _
    c.rate_at-entry.ensures.at back test found c.loop-place.invariant
