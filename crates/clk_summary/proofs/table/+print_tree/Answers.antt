-- Child by child, below the line of their parent.
use Rattle.std.proofs.Common.{◌≡◌, ◌<◌, ◌+◌, ◌-◌, [], ◌++◌, Some, None, IfSome, sym, ap, subst, ◌∙◌, arith, length}
use Rattle.std.specs.Prelude.{slice_get, flat_map}
use Rattle.std.specs.Option.{option_map}
use Rattle.clk_base.specs.Levels.{depth}
use Rattle.clk_base.specs.declared.clock.ClockId.{ClockId}
use Rattle.clk_io.proofs.Gathering.{PassesOn-none, PassesOn-after, front_of_whole}
use Rattle.clk_machine.specs.Run.{now_of}
use Rattle.clk_model.specs.Summary.{lines_within, summary_line}
use Rattle.clk_model.specs.Tree.{children}
use Rattle.clk_tree.proofs.Along.{drop_zero}
use Rattle.clk_summary.proofs.Lined.{no_lines, lines_fault, lined_more}
use Rattle.clk_summary.proofs.Printing.{fault_leaves, one_done, all_done}
use Rattle.clk_summary.proofs.Stays.{handed_on, rises_since, stays_of_whole, no_line_stays, more_lines_stay}
use Rattle.clk_summary.proofs.Trees.{texts_at, none_at, none_behind, same_children, child_registered, children_few, lines_at}
use Rattle.clk_summary.proofs.table.+print_tree.Goals as goal

pub returns-in_err-print_line-clause-gathers : goal.returns-in_err-print_line-clause-gathers
returns-in_err-print_line-clause-gathers g t c = λ told there.
    let s = now_of c.args.core.now in
    let clock = c.args.clock.0 in
    let of = c.tree.ensures.tree told in
    fault_leaves _ _ _ _ _ _ c.from_residual.ensures.0
    (front_of_whole _ _ _ _ _ [] (summary_line s c.args.level clock) _ _ (PassesOn-none _ _)
    (c.in_err-print_line.ensures.gathers told (sym of.defs ∙ c.tree.ensures.made) there)
    (lines_at s c.args.level clock (omega (arith, c.if-level-depth.false, c.depth.ensures))))

pub loop-place-init : goal.loop-place-init
loop-place-init g t c =
    let s = now_of c.args.core.now in
    let clock = c.args.clock.0 in
    let seen = c.tree.result.now in
    let kids = children s.order s.clocks clock in
    record {
      inside = subst (λ defs. IfSome c.first_child-at.result (λ d. d.0 < length defs)) c.tree.ensures.made c.first_child-at.ensures.inside;
      along = λ told. c.first_child-at.ensures.first ∙ ap (λ xs. slice_get xs 0) (same_children s seen clock (c.tree.ensures.tree told));
      printed = λ told there.
          let of = c.tree.ensures.tree told in (
            summary_line s c.args.level clock,
            c.in_ok-print_line.ensures.gathers told (sym of.defs ∙ c.tree.ensures.made) there,
            lines_at s c.args.level clock (omega (arith, c.if-level-depth.false, c.depth.ensures))
                ∙ ap (λ xs. summary_line s c.args.level clock ++ flat_map (lines_within (depth - (c.args.level + 1)) s (c.args.level + 1)) xs) (sym (drop_zero kids)),
          );
      lines = record { text = c.in_ok-print_line.ensures.lines.text; lines = c.in_ok-print_line.ensures.lines.lines; passed = c.in_ok-print_line.ensures.lines.gathers };
      tells = cc;
      later = c.in_ok-print_line.ensures.later;
    }

pub returns-in_default-clause-gathers : goal.returns-in_default-clause-gathers
returns-in_default-clause-gathers g t c = λ told there.
    let s = now_of c.args.core.now in
    let kids = children s.order s.clocks c.args.clock.0 in
    let was = c.loop-place.invariant.printed told there in
    let none : slice_get kids c.loop-place._place ≡ None = sym (c.loop-place.invariant.along told) ∙ ap (option_map (λ (d : ClockId). d.0)) c.in_default.is in
    all_done _ _ _ _ _ was.0 _ was.1 was.2 (none_at (lines_within (depth - (c.args.level + 1)) s (c.args.level + 1)) kids c.loop-place._place none)

pub returns-in_err-print_tree-clause-gathers : goal.returns-in_err-print_tree-clause-gathers
returns-in_err-print_tree-clause-gathers g t c = λ told there.
    let s = now_of c.args.core.now in
    let kids = children s.order s.clocks c.args.clock.0 in
    let below = lines_within (depth - (c.args.level + 1)) s (c.args.level + 1) in
    let was = c.loop-place.invariant.printed told there in
    let child = c.in-Some.child.0 in
    let at : slice_get kids c.loop-place._place ≡ Some child = sym (c.loop-place.invariant.along told) ∙ ap (option_map (λ (d : ClockId). d.0)) c.in-Some.is in
    let known = child_registered s c.tree.result.now c.args.clock.0 c.loop-place._place child (c.tree.ensures.tree told) c.first_child-at.ensures.stands at in
    fault_leaves _ _ _ _ _ _ c.from_residual-in_err-print_tree.ensures.0
    (front_of_whole _ _ _ _ _ was.0 (below child) _ _ was.1
    (c.in_err-print_tree.ensures.gathers told known)
    (was.2 ∙ ap (λ rest. was.0 ++ rest) (texts_at below kids c.loop-place._place child at)))

pub loop-place-preserved : goal.loop-place-preserved
loop-place-preserved g t c =
    let s = now_of c.args.core.now in
    let clock = c.args.clock.0 in
    let kids = children s.order s.clocks clock in
    let place = c.loop-place._place in
    let child = c.in-Some.child.0 in
    let u = c.tree-in-loop-place.result.now in
    record {
      inside = subst (λ defs. IfSome c.next_sibling-at.result (λ d. d.0 < length defs)) c.tree-in-loop-place.ensures.made c.next_sibling-at.ensures.inside;
      along = λ told.
          let at : slice_get kids place ≡ Some child = sym (c.loop-place.invariant.along told) ∙ ap (option_map (λ (d : ClockId). d.0)) c.in-Some.is in
          let same = same_children s u clock (c.tree-in-loop-place.ensures.tree told) in
          c.next_sibling-at.ensures.child clock place (ap (λ xs. slice_get xs place) same ∙ at) ∙ ap (λ xs. slice_get xs (place + 1)) same;
      printed = λ told there.
          let below = lines_within (depth - (c.args.level + 1)) s (c.args.level + 1) in
          let was = c.loop-place.invariant.printed told there in
          let at : slice_get kids place ≡ Some child = sym (c.loop-place.invariant.along told) ∙ ap (option_map (λ (d : ClockId). d.0)) c.in-Some.is in
          let known = child_registered s c.tree.result.now clock place child (c.tree.ensures.tree told) c.first_child-at.ensures.stands at in (
            _,
            PassesOn-after _ _ _ _ _ _ _ _ was.1 (c.in_ok-print_tree.ensures.gathers told known),
            one_done _ _ _ _ _ was.2 (texts_at below kids place child at),
          );
      lines = lined_more _ _ _ _ _ _ _ _ c.loop-place.invariant.lines c.in_ok-print_tree.ensures.lines.lines c.in_ok-print_tree.ensures.lines.gathers;
      tells = cc;
      later = omega (arith, c.loop-place.invariant.later, c.in_ok-print_tree.ensures.later);
    }

pub returns-clause-gathers : goal.returns-clause-gathers
returns-clause-gathers g t c = λ told there.
    let s = now_of c.args.core.now in
    let clock = c.args.clock.0 in
    let kids = children s.order s.clocks clock in
    let was = c.loop-place.invariant.printed told there in
    let few = children_few s c.tree.result.now clock (c.tree.ensures.tree told) c.first_child-at.ensures.stands in
    let made = ap (λ defs. length defs) c.tree.ensures.made in
    let kept = ap (λ defs. length defs) c.desc.ensures.defs in
    all_done _ _ _ _ _ was.0 _ was.1 was.2
    (none_behind (lines_within (depth - (c.args.level + 1)) s (c.args.level + 1)) kids c.loop-place._place (omega (arith, few, made, kept, c.len-place-end.ensures.len, c.loop-place-test.false)))

pub returns-then-level-depth-clause-lines : goal.returns-then-level-depth-clause-lines
returns-then-level-depth-clause-lines g t c = record { text = []; lines = no_lines _ _; gathers = PassesOn-none _ _ }

pub returns-in_err-print_line-clause-lines : goal.returns-in_err-print_line-clause-lines
returns-in_err-print_line-clause-lines g t c =
    lines_fault _ _ _ _ _ _ _ [] _ _ c.from_residual.ensures.0 (no_lines _ _) (PassesOn-none _ _) c.in_err-print_line.ensures.lines.lines c.in_err-print_line.ensures.lines.gathers

pub returns-in_default-clause-lines : goal.returns-in_default-clause-lines
returns-in_default-clause-lines g t c =
    let was = c.loop-place.invariant.lines in
    record { text = was.text; lines = was.lines; gathers = was.passed }

pub returns-in_err-print_tree-clause-lines : goal.returns-in_err-print_tree-clause-lines
returns-in_err-print_tree-clause-lines g t c =
    let was = c.loop-place.invariant.lines in
    lines_fault _ _ _ _ _ _ _ _ _ _ c.from_residual-in_err-print_tree.ensures.0 was.lines was.passed c.in_err-print_tree.ensures.lines.lines c.in_err-print_tree.ensures.lines.gathers

pub returns-clause-lines : goal.returns-clause-lines
returns-clause-lines g t c =
    let was = c.loop-place.invariant.lines in
    record { text = was.text; lines = was.lines; gathers = was.passed }

pub returns-in_err-print_line-clause-stays : goal.returns-in_err-print_line-clause-stays
returns-in_err-print_line-clause-stays g t c = λ told there. handed_on _ _ _ c.from_residual.ensures.1 (c.in_err-print_line.ensures.stays _)

pub returns-in_err-print_line-clause-lines_stay : goal.returns-in_err-print_line-clause-lines_stay
returns-in_err-print_line-clause-lines_stay g t c =
    handed_on _ _ _ c.from_residual.ensures.1 (no_line_stays _ _ _ _ _ _ (c.in_err-print_line.ensures.stays []))

pub returns-in_err-print_tree-clause-stays : goal.returns-in_err-print_tree-clause-stays
returns-in_err-print_tree-clause-stays g t c = λ told there.
    let s = now_of c.args.core.now in
    let kids = children s.order s.clocks c.args.clock.0 in
    let below = lines_within (depth - (c.args.level + 1)) s (c.args.level + 1) in
    let was = c.loop-place.invariant.printed told there in
    let child = c.in-Some.child.0 in
    let at : slice_get kids c.loop-place._place ≡ Some child = sym (c.loop-place.invariant.along told) ∙ ap (option_map (λ (d : ClockId). d.0)) c.in-Some.is in
    let known = child_registered s c.tree.result.now c.args.clock.0 c.loop-place._place child (c.tree.ensures.tree told) c.first_child-at.ensures.stands at in
    handed_on _ _ _ c.from_residual-in_err-print_tree.ensures.1
    (stays_of_whole _ _ _ _ _ _ was.0 (below child) _ _ _ was.1
    (c.in_err-print_tree.ensures.stays told known)
    (was.2 ∙ ap (λ rest. was.0 ++ rest) (texts_at below kids c.loop-place._place child at)))

pub returns-in_err-print_tree-clause-lines_stay : goal.returns-in_err-print_tree-clause-lines_stay
returns-in_err-print_tree-clause-lines_stay g t c =
    let was = c.loop-place.invariant.lines in
    handed_on _ _ _ c.from_residual-in_err-print_tree.ensures.1
    (more_lines_stay _ _ _ _ _ _ _ _ _ was.lines was.passed c.in_err-print_tree.ensures.lines_stay)

pub returns-in_err-print_tree-clause-counts : goal.returns-in_err-print_tree-clause-counts
returns-in_err-print_tree-clause-counts g t c =
    handed_on _ _ _ c.from_residual-in_err-print_tree.ensures.1 (rises_since _ _ _ _ c.loop-place.invariant.later c.in_err-print_tree.ensures.counts)
