use Rattle.std.proofs.Common.{[], refl, ℕ, ◌+◌, ◌++◌, List, map, drop, sym, ap, ◌∙◌, arith}
use Rattle.clk_base.specs.declared.command.Answer.{Answer}
use Rattle.clk_model.specs.Text.{answers_text, all_answers_text}
use Rattle.clk_io.proofs.Gathering.{PassesOn-none, PassesOn-after, front_of_whole}
use Rattle.clk_journal.proofs.Lines.{Gathers-fault, one_more}
use Rattle.clk_journal.proofs.Stays.{handed_on, rises_since}
use Rattle.clk_run.proofs.RunTexts.{texts_at}
use Rattle.clk_run.proofs.printing.print_drivers.Goals as goal

pub returns-in_err-print_answers-clause-gathers : goal.returns-in_err-print_answers-clause-gathers
returns-in_err-print_answers-clause-gathers g c =
    let defs = c.args.desc.now.defs in
    let drivers = c.args.drivers.now in
    let answers = c.args.answers.now in
    let i = c.loop-index.index in
    let rest = all_answers_text defs (map (λ s. s.name) (drop (i + 1) drivers)) (drop (i + 1) answers) in
    let many = c.requires.many in
    let was = c.loop-index.invariant.printed in
    let at = texts_at defs drivers answers i c.index-drivers-index.result c.index-answers-index.result c.loop-index-test.true (omega (arith, c.loop-index-test.true)) c.index-drivers-index.is c.index-answers-index.is
    ∙ ap (λ (name : List ℕ). answers_text defs name c.index-answers-index.result ++ rest) (sym c.as_str.ensures)
    ∙ ap (λ (own : List Answer). answers_text defs c.as_str.result.now own ++ rest) (sym c.as_slice.ensures) in
    Gathers-fault _ _ _ _ _ _ c.from_residual.ensures.0
    (front_of_whole _ _ _ _ _ was.0 _ _ _ was.1 c.in_err-print_answers.ensures.gathers (was.2 ∙ ap (λ r. was.0 ++ r) at))

pub loop-index-init : goal.loop-index-init
loop-index-init g c = record { printed = ([], PassesOn-none _ _, refl); tells = refl; later = omega arith }

pub loop-index-preserved : goal.loop-index-preserved
loop-index-preserved g c =
    let defs = c.args.desc.now.defs in
    let drivers = c.args.drivers.now in
    let answers = c.args.answers.now in
    let i = c.loop-index.index in
    let rest = all_answers_text defs (map (λ s. s.name) (drop (i + 1) drivers)) (drop (i + 1) answers) in
    let many = c.requires.many in
    let was = c.loop-index.invariant.printed in
    let at = texts_at defs drivers answers i c.index-drivers-index.result c.index-answers-index.result c.loop-index-test.true (omega (arith, c.loop-index-test.true)) c.index-drivers-index.is c.index-answers-index.is
    ∙ ap (λ (name : List ℕ). answers_text defs name c.index-answers-index.result ++ rest) (sym c.as_str.ensures)
    ∙ ap (λ (own : List Answer). answers_text defs c.as_str.result.now own ++ rest) (sym c.as_slice.ensures) in
    record {
      printed = (_, PassesOn-after _ _ _ _ _ _ _ _ was.1 c.in_ok-print_answers.ensures.gathers, one_more _ _ _ _ _ was.2 at);
      tells = cc;
      later = omega (arith, c.loop-index.invariant.later, c.in_ok-print_answers.ensures.later);
    }

pub returns-in_err-print_answers-clause-counts : goal.returns-in_err-print_answers-clause-counts
returns-in_err-print_answers-clause-counts g c =
    handed_on _ _ _ c.from_residual.ensures.1 (rises_since _ _ _ _ c.loop-index.invariant.later c.in_err-print_answers.ensures.counts)
