use Rattle.std.proofs.Common.{[], ◌++◌, Result, Err, refl, sym, ap, subst, ◌∙◌}
use Rattle.std.specs.Prelude.{flat_map}
use Rattle.clk_base.specs.Levels.{depth}
use Rattle.clk_io.proofs.Gathering.{PassesOn-none, Gathers-after, front_of_whole}
use Rattle.clk_io.specs.Gathers.{PassesOn, Gathers}
use Rattle.clk_io.specs.Streams.{AppendsFront}
use Rattle.clk_machine.specs.Run.{now_of}
use Rattle.clk_model.specs.Summary.{header, lines_within}
use Rattle.clk_summary.specs.Rows.{tops}
use Rattle.clk_summary.proofs.Lined.{no_lines, by_telling}
use Rattle.clk_summary.proofs.Printing.{fault_leaves, header_is, summary_is}
use Rattle.clk_summary.proofs.Stays.{handed_on, counts_since, stays_of_line, no_summary_stays, summary_stays}
use Rattle.clk_summary.proofs.table.print_summary.Goals as goal

pub returns-in_err-print-clause-gathers : goal.returns-in_err-print-clause-gathers
returns-in_err-print-clause-gathers g c =
    let written = g.K.Sink.written in
    let s = now_of c.args.core.now in
    let front = subst (λ text. AppendsFront (written c.args.out.now) (written c.print.new.out) (c.args.gathered.now ++ text)) (c.as_bytes.ensures.value ∙ header_is) c.in_err-print.ensures.gathers in
    by_telling _ _ _ _ _ _
    (λ told. fault_leaves _ _ _ _ _ _ c.from_residual.ensures.0
    (front_of_whole _ _ _ _ _ [] header (flat_map (lines_within depth s 0) (tops s)) _ (PassesOn-none _ _) front (summary_is s)))
    (no_lines _ _)
    (fault_leaves _ _ _ _ _ _ c.from_residual.ensures.0
    (front_of_whole _ _ _ _ _ [] header [] _ (PassesOn-none _ _) front refl))

pub returns-clause-gathers : goal.returns-clause-gathers
returns-clause-gathers g c =
    let written = g.K.Sink.written in
    let s = now_of c.args.core.now in
    let first = subst (λ text. PassesOn (written c.args.out.now) (written c.print.new.out) c.args.gathered.now c.print.new.self text) (c.as_bytes.ensures.value ∙ header_is) c.in_ok-print.ensures.gathers in
    by_telling _ _ _ _ _ _
    (λ told. subst (λ text. Gathers (written c.args.out.now) (written c.print_tops.new.out) c.args.gathered.now c.print_tops.new.gathered text c.print_tops.result) (sym (summary_is s))
    (Gathers-after _ _ _ _ _ _ header (flat_map (lines_within depth s 0) (tops s)) _ first (c.print_tops.ensures.gathers told)))
    c.print_tops.ensures.lines.lines
    (Gathers-after _ _ _ _ _ _ header _ _ first c.print_tops.ensures.lines.gathers)

pub returns-in_err-print-clause-stays : goal.returns-in_err-print-clause-stays
returns-in_err-print-clause-stays g c =
    let fault = c.in_err-print.ensures in
    handed_on _ _ _ c.from_residual.ensures.1
    (no_summary_stays _ _ _ _ _ _ (λ text. stays_of_line {T = _} _ _ _ _ text (Err _) (λ is. (ap g.K.Sink.written (fault.memory is).0, (fault.memory is).1)) fault.lost))

pub returns-clause-stays : goal.returns-clause-stays
returns-clause-stays g c =
    let written = g.K.Sink.written in
    let s = now_of c.args.core.now in
    let first = subst (λ text. PassesOn (written c.args.out.now) (written c.print.new.out) c.args.gathered.now c.print.new.self text) (c.as_bytes.ensures.value ∙ header_is) c.in_ok-print.ensures.gathers in
    summary_stays _ _ _ _ _ _ _ (flat_map (lines_within depth s 0) (tops s)) _ first c.print_tops.ensures.stays c.print_tops.ensures.lines_stay (summary_is s)

pub returns-clause-counts : goal.returns-clause-counts
returns-clause-counts g c = counts_since _ _ _ _ c.in_ok-print.ensures.later c.print_tops.ensures.counts
