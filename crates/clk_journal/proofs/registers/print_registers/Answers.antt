use Rattle.std.proofs.Common.{[], refl, arith, ◌∙◌, ap, ◌++◌}
use Rattle.clk_io.proofs.Gathering.{PassesOn-none, PassesOn-after, front_of_whole}
use Rattle.clk_journal.proofs.Lines.{Gathers-fault, registers_at, one_more}
use Rattle.clk_journal.proofs.Stays.{handed_on, rises_since, stays_of_whole}
use Rattle.clk_journal.proofs.registers.print_registers.Goals as goal

pub returns-in_err-print_word-clause-gathers : goal.returns-in_err-print_word-clause-gathers
returns-in_err-print_word-clause-gathers g c =
    let was = c.loop-place.invariant.printed in
    let at = registers_at c.args.words.now c.loop-place.place c.loop-place.place 0 c.loop-place-test.true in
    Gathers-fault _ _ _ _ _ _ c.from_residual.ensures.0
    (front_of_whole _ _ _ _ _ was.0 _ _ _ was.1 c.in_err-print_word.ensures.gathers (was.2 ∙ ap (λ rest. was.0 ++ rest) at))

pub returns-in_err-print_word-clause-stays : goal.returns-in_err-print_word-clause-stays
returns-in_err-print_word-clause-stays g c =
    let was = c.loop-place.invariant.printed in
    let at = registers_at c.args.words.now c.loop-place.place c.loop-place.place 0 c.loop-place-test.true in
    handed_on _ _ _ c.from_residual.ensures.1
    (stays_of_whole _ _ _ _ _ _ was.0 _ _ _ _ was.1 c.in_err-print_word.ensures.stays (was.2 ∙ ap (λ rest. was.0 ++ rest) at))

pub returns-in_err-print_word-clause-counts : goal.returns-in_err-print_word-clause-counts
returns-in_err-print_word-clause-counts g c =
    handed_on _ _ _ c.from_residual.ensures.1 (rises_since _ _ _ _ c.loop-place.invariant.later c.in_err-print_word.ensures.counts)

pub loop-place-init : goal.loop-place-init
loop-place-init g c = record { printed = ([], PassesOn-none _ _, refl); tells = refl; later = omega arith }

pub loop-place-preserved : goal.loop-place-preserved
loop-place-preserved g c =
    let was = c.loop-place.invariant.printed in
    let at = registers_at c.args.words.now c.loop-place.place c.loop-place.place 0 c.loop-place-test.true in
    record {
      printed = (_, PassesOn-after _ _ _ _ _ _ _ _ was.1 c.in_ok-print_word.ensures.gathers, one_more _ _ _ _ _ was.2 at);
      tells = cc;
      later = omega (arith, c.loop-place.invariant.later, c.in_ok-print_word.ensures.later);
    }
