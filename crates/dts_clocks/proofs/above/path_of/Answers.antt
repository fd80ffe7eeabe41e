use Rattle.std.proofs.Common.{sym, ◌∙◌, arith, string_bytes, ap, ◌∷◌, ◌++◌}
use Rattle.std.specs.Prelude.{◌==◌}
use Rattle.dts_clocks.proofs.Uplines.{parent_of-before, path_more, path_whole, slash_for, path_for}
use Rattle.dts_clocks.proofs.above.path_of.Goals as goal

pub loop-parent-smaller : goal.loop-parent-smaller
loop-parent-smaller c = parent_of-before c.args.nodes.now c.loop-parent.place c.in-Some.parent (sym c.parent_of.ensures ∙ c.in-Some.is)

pub loop-parent-preserved : goal.loop-parent-preserved
loop-parent-preserved c =
    let before = parent_of-before c.args.nodes.now c.loop-parent.place c.in-Some.parent (sym c.parent_of.ensures ∙ c.in-Some.is) in
    record {
      within = omega (arith, before, c.loop-parent.invariant.within);
      so_far = path_more c.args.nodes.now c.loop-parent.place c.in-Some.parent c.node.result _ c.name.result.now (string_bytes c.loop-parent.path) (string_bytes c.in_ok-path.path) c.node.ensures (sym c.in-Some.is ∙ c.parent_of.ensures) c.name.ensures
          (c.in_ok-path.ensures ∙ ap (λ t. (47 ∷ c.name.result.now) ++ t) c.as_str.ensures.value) c.loop-parent.invariant.so_far;
    }

pub returns-then-is_empty : goal.returns-then-is_empty
returns-then-is_empty c =
    slash_for (string_bytes c.loop-parent.path) _ c.is_empty.result (c.is_empty.ensures ∙ ap (λ n. n == 0) c.loop-parent.path.bytes.ok.0) c.if-is_empty.true c.in_ok-slash.ensures.ok
    ∙ path_whole c.args.nodes.now c.loop-parent.place c.args.at (string_bytes c.loop-parent.path) (sym c.in_default.is ∙ c.parent_of.ensures) c.loop-parent.invariant.so_far

pub returns : goal.returns
returns c =
    path_for (string_bytes c.loop-parent.path) c.is_empty.result (c.is_empty.ensures ∙ ap (λ n. n == 0) c.loop-parent.path.bytes.ok.0) c.if-is_empty.false
    ∙ path_whole c.args.nodes.now c.loop-parent.place c.args.at (string_bytes c.loop-parent.path) (sym c.in_default.is ∙ c.parent_of.ensures) c.loop-parent.invariant.so_far
