-- Tree by tree, beside the clocks that stand at the top.
use Rattle.std.proofs.Common.{◌≡◌, ◌<◌, ◌+◌, ◌-◌, [], ◌++◌, true, Some, None, IfSome, refl, sym, ap, subst, ◌∙◌, arith, drop, length}
use Rattle.std.specs.Prelude.{slice_get, flat_map}
use Rattle.std.specs.Option.{option_map}
use Rattle.clk_base.specs.Levels.{depth}
use Rattle.clk_base.specs.declared.clock.ClockId.{ClockId}
use Rattle.clk_io.proofs.Gathering.{PassesOn-none, PassesOn-after, front_of_whole}
use Rattle.clk_io.specs.Gathers.{PassesOn}
use Rattle.clk_io.specs.Streams.{AppendsFront}
use Rattle.clk_machine.specs.Run.{now_of}
use Rattle.clk_model.specs.State.{registered}
use Rattle.clk_model.specs.Summary.{lines_within}
use Rattle.clk_tree.proofs.Along.{drop_zero}
use Rattle.clk_summary.specs.Rows.{tops}
use Rattle.clk_summary.proofs.Lined.{no_lines, lines_fault, lined_more}
use Rattle.clk_summary.proofs.Printing.{fault_leaves, one_done, all_done}
use Rattle.clk_summary.proofs.Stays.{handed_on, rises_since, stays_of_whole, more_lines_stay}
use Rattle.clk_summary.proofs.Trees.{texts_at, none_at, none_behind, same_tops, top_registered, top_within, tops_few, all_levels}
use Rattle.clk_summary.proofs.table.print_tops.Goals as goal

pub loop-place-init : goal.loop-place-init
loop-place-init g c =
    let s = now_of c.args.core.now in
    let t = c.tree.result.now in
    record {
      inside = subst (λ defs. IfSome c.top-at.result (λ d. d.0 < length defs)) c.tree.ensures.made (top_within t 0 c.top-at.result c.top-at.ensures.stands c.top-at.ensures.top);
      along = λ told. c.top-at.ensures.top ∙ ap (λ xs. slice_get xs 0) (same_tops s t (c.tree.ensures.tree told));
      printed = λ told. ([], PassesOn-none _ _, ap (flat_map (lines_within depth s 0)) (sym (drop_zero (tops s))));
      lines = record { text = []; lines = no_lines _ _; passed = PassesOn-none _ _ };
      tells = refl;
      later = omega arith;
    }

pub returns-in_default-clause-gathers : goal.returns-in_default-clause-gathers
returns-in_default-clause-gathers g c = λ told.
    let s = now_of c.args.core.now in
    let was = c.loop-place.invariant.printed told in
    let none : slice_get (tops s) c.loop-place.place ≡ None = sym (c.loop-place.invariant.along told) ∙ ap (option_map (λ (d : ClockId). d.0)) c.in_default.is in
    all_done _ _ _ _ _ was.0 _ was.1 was.2 (none_at (lines_within depth s 0) (tops s) c.loop-place.place none)

pub returns-in_err-print_tree-clause-gathers : goal.returns-in_err-print_tree-clause-gathers
returns-in_err-print_tree-clause-gathers g c = λ told.
    let s = now_of c.args.core.now in
    let t = c.tree.result.now in
    let of = c.tree.ensures.tree told in
    let was = c.loop-place.invariant.printed told in
    let clock = c.in-Some.clock.0 in
    let at : slice_get (tops s) c.loop-place.place ≡ Some clock = sym (c.loop-place.invariant.along told) ∙ ap (option_map (λ (d : ClockId). d.0)) c.in-Some.is in
    let there : registered s.clocks clock ≡ true = ap (λ rows. registered rows clock) (sym of.clocks)
    ∙ top_registered t c.loop-place.place clock c.top-at.ensures.stands (ap (λ xs. slice_get xs c.loop-place.place) (same_tops s t of) ∙ at) in
    fault_leaves _ _ _ _ _ _ c.from_residual.ensures.0
    (front_of_whole _ _ _ _ _ was.0 (lines_within depth s 0 clock) _ _ was.1
    (subst (λ n. AppendsFront (g.K.Sink.written c.loop-place.out) (g.K.Sink.written c.print_tree.new.out) (c.loop-place.gathered ++ lines_within n s 0 clock)) all_levels (c.in_err-print_tree.ensures.gathers told there))
    (was.2 ∙ ap (λ rest. was.0 ++ rest) (texts_at (lines_within depth s 0) (tops s) c.loop-place.place clock at)))

pub loop-place-preserved : goal.loop-place-preserved
loop-place-preserved g c =
    let s = now_of c.args.core.now in
    let place = c.loop-place.place in
    let clock = c.in-Some.clock.0 in
    let u = c.tree-in-loop-place.result.now in
    record {
      inside = subst (λ defs. IfSome c.next_top-at.result (λ d. d.0 < length defs)) c.tree-in-loop-place.ensures.made c.next_top-at.ensures.inside;
      along = λ told.
          let at : slice_get (tops s) place ≡ Some clock = sym (c.loop-place.invariant.along told) ∙ ap (option_map (λ (d : ClockId). d.0)) c.in-Some.is in
          let of = c.tree-in-loop-place.ensures.tree told in
          c.next_top-at.ensures.next place refl (ap (λ xs. slice_get xs place) (same_tops s u of) ∙ at)
          ∙ ap (λ xs. slice_get xs (place + 1)) (same_tops s u of);
      printed = λ told.
          let t = c.tree.result.now in
          let of = c.tree.ensures.tree told in
          let was = c.loop-place.invariant.printed told in
          let at : slice_get (tops s) place ≡ Some clock = sym (c.loop-place.invariant.along told) ∙ ap (option_map (λ (d : ClockId). d.0)) c.in-Some.is in
          let there : registered s.clocks clock ≡ true = ap (λ rows. registered rows clock) (sym of.clocks)
          ∙ top_registered t place clock c.top-at.ensures.stands (ap (λ xs. slice_get xs place) (same_tops s t of) ∙ at) in (
            _,
            PassesOn-after _ _ _ _ _ _ _ _ was.1 (subst (λ n. PassesOn (g.K.Sink.written c.loop-place.out) (g.K.Sink.written c.print_tree.new.out) c.loop-place.gathered c.print_tree.new.gathered (lines_within n s 0 clock)) all_levels (c.in_ok-print_tree.ensures.gathers told there)),
            one_done _ _ _ _ _ was.2 (texts_at (lines_within depth s 0) (tops s) place clock at),
          );
      lines = lined_more _ _ _ _ _ _ _ _ c.loop-place.invariant.lines c.in_ok-print_tree.ensures.lines.lines c.in_ok-print_tree.ensures.lines.gathers;
      tells = cc;
      later = omega (arith, c.loop-place.invariant.later, c.in_ok-print_tree.ensures.later);
    }

pub returns-clause-gathers : goal.returns-clause-gathers
returns-clause-gathers g c = λ told.
    let s = now_of c.args.core.now in
    let t = c.tree.result.now in
    let was = c.loop-place.invariant.printed told in
    let few = tops_few s t (c.tree.ensures.tree told) c.top-at.ensures.stands in
    let made = ap (λ defs. length defs) c.tree.ensures.made in
    let kept = ap (λ defs. length defs) c.desc.ensures.defs in
    all_done _ _ _ _ _ was.0 _ was.1 was.2 (none_behind (lines_within depth s 0) (tops s) c.loop-place.place (omega (arith, few, made, kept, c.len-place-end.ensures.len, c.loop-place-test.false)))

pub returns-in_default-clause-lines : goal.returns-in_default-clause-lines
returns-in_default-clause-lines g c =
    let was = c.loop-place.invariant.lines in
    record { text = was.text; lines = was.lines; gathers = was.passed }

pub returns-in_err-print_tree-clause-lines : goal.returns-in_err-print_tree-clause-lines
returns-in_err-print_tree-clause-lines g c =
    let was = c.loop-place.invariant.lines in
    lines_fault _ _ _ _ _ _ _ _ _ _ c.from_residual.ensures.0 was.lines was.passed c.in_err-print_tree.ensures.lines.lines c.in_err-print_tree.ensures.lines.gathers

pub returns-clause-lines : goal.returns-clause-lines
returns-clause-lines g c =
    let was = c.loop-place.invariant.lines in
    record { text = was.text; lines = was.lines; gathers = was.passed }

pub returns-in_err-print_tree-clause-stays : goal.returns-in_err-print_tree-clause-stays
returns-in_err-print_tree-clause-stays g c = λ told.
    let s = now_of c.args.core.now in
    let t = c.tree.result.now in
    let of = c.tree.ensures.tree told in
    let was = c.loop-place.invariant.printed told in
    let clock = c.in-Some.clock.0 in
    let at : slice_get (tops s) c.loop-place.place ≡ Some clock = sym (c.loop-place.invariant.along told) ∙ ap (option_map (λ (d : ClockId). d.0)) c.in-Some.is in
    let there : registered s.clocks clock ≡ true = ap (λ rows. registered rows clock) (sym of.clocks)
    ∙ top_registered t c.loop-place.place clock c.top-at.ensures.stands (ap (λ xs. slice_get xs c.loop-place.place) (same_tops s t of) ∙ at) in
    let left = flat_map (lines_within depth s 0) (drop (c.loop-place.place + 1) (tops s)) in
    let whole = was.2 ∙ ap (λ rest. was.0 ++ rest) (texts_at (lines_within depth s 0) (tops s) c.loop-place.place clock at)
    ∙ ap (λ n. was.0 ++ (lines_within n s 0 clock ++ left)) (sym all_levels) in
    handed_on _ _ _ c.from_residual.ensures.1
    (stays_of_whole _ _ _ _ _ _ was.0 (lines_within (depth - 0) s 0 clock) left _ _ was.1 (c.in_err-print_tree.ensures.stays told there) whole)

pub returns-in_err-print_tree-clause-lines_stay : goal.returns-in_err-print_tree-clause-lines_stay
returns-in_err-print_tree-clause-lines_stay g c =
    let was = c.loop-place.invariant.lines in
    handed_on _ _ _ c.from_residual.ensures.1
    (more_lines_stay _ _ _ _ _ _ _ _ _ was.lines was.passed c.in_err-print_tree.ensures.lines_stay)

pub returns-in_err-print_tree-clause-counts : goal.returns-in_err-print_tree-clause-counts
returns-in_err-print_tree-clause-counts g c =
    handed_on _ _ _ c.from_residual.ensures.1 (rises_since _ _ _ _ c.loop-place.invariant.later c.in_err-print_tree.ensures.counts)
