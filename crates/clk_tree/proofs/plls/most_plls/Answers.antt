-- One level more, up to the most.
use Rattle.std.proofs.Common.{rules, ◌≡◌, ◌≤◌, ◌∙◌, ℕ, sym, ap, subst, add-one, arith, replicate, List}
use Rattle.std.specs.Prelude.{slice_index}
use Rattle.clk_base.specs.Levels.{depth}
use Rattle.kind_math.specs.Choices.{greatest_of}
use Rattle.clk_tree.specs.PllCounts.{TellsPlls}
use Rattle.clk_tree.proofs.PllTables.{small_entries, no_plls, greatest_tells}
use Rattle.clk_tree.proofs.plls.most_plls.Goals as goal

pub loop-level-init : goal.loop-level-init
loop-level-init c =
    no_plls c.args.desc.now.defs c.in_ok-counts.counts.items
    (c.in_ok-counts.ensures.items_if_clones_equal (search rules) ∙ ap (λ (n : ℕ). replicate n 0) c.len.ensures.len)
    (let ok = c.in_ok-counts.counts.ok in let len = c.in_ok-counts.ensures.len in let is = c.len.ensures.len in omega arith)

pub one_level_more-requires-clause-small : goal.one_level_more-requires-clause-small
unfolding depth
one_level_more-requires-clause-small c = λ k.
    let few = small_entries c.args.desc.now.defs c.loop-level.level c.loop-level.counts.items k c.loop-level.invariant in
    let level = c.loop-level-test.true in
    let most = c.depth-level-end.ensures in
    rw c.deref.ensures.value (let le : slice_index c.loop-level.counts.items k ≤ 64 = omega arith in le)

pub loop-level-preserved : goal.loop-level-preserved
loop-level-preserved c =
    let P : ℕ → Type 0 = λ n. TellsPlls c.args.desc.now.defs n c.in_ok-counts-2.counts.items in
    subst P (sym (add-one c.loop-level.level)) (c.in_ok-counts-2.ensures c.loop-level.level (rw c.deref.ensures.value c.loop-level.invariant))

pub returns : goal.returns
returns c =
    let last : c.loop-level.level ≡ depth = let test = c.loop-level-test.false in let auto = c.loop-level.auto.level-end in let most = c.depth-level-end.ensures in omega arith in
    greatest_tells c.args.desc.now.defs c.loop-level.level c.loop-level.counts.items c.greatest.result last c.loop-level.invariant
    (c.greatest.ensures ∙ ap (λ (xs : List ℕ). greatest_of xs) c.deref-2.ensures.value)
