use Rattle.std.proofs.Common.{◌≡◌, ◌∷◌, ◌-◌, ◌<◌, ◌++◌, ℕ, List, [], length, map, take, drop, get_or, codes, sym, ap, subst, ◌∙◌, arith}
use Rattle.clk_base.specs.Description.{Description}
use Rattle.clk_base.specs.declared.command.Answer.{Answer}
use Rattle.clk_model.specs.Text.{answers_text, all_answers_text}
use Rattle.clk_io.proofs.Gathering.{PassesOn-none, Gathers-after, front_of_whole}
use Rattle.clk_io.specs.Gathers.{Gathers}
use Rattle.clk_journal.proofs.Lines.{Gathers-fault}
use Rattle.clk_journal.proofs.Stays.{counts_since}
use Rattle.clk_run.proofs.RunTexts.{boot_first}
use Rattle.clk_run.proofs.Readiness.{behind_first}
use Rattle.clk_run.proofs.printing.print_scripts.Goals as goal

-- the text of all answers is that of boot, and then that of the drivers
in_parts : (defs : Description) (names : List (List ℕ)) (answers : List (List Answer)) (boot own : List Answer) → 0 < length answers → boot ≡ get_or answers 0 boot → own ≡ boot
    → all_answers_text defs (codes "boot" ∷ names) answers ≡ answers_text defs (codes "boot") own ++ all_answers_text defs names (take (length answers - 1) (drop 1 answers))
in_parts defs names answers boot own some is mine =
    boot_first defs (codes "boot") names answers boot some is
    ∙ ap (λ (others : List (List Answer)). answers_text defs (codes "boot") boot ++ all_answers_text defs names others) (sym (behind_first answers))
    ∙ ap (λ (own : List Answer). answers_text defs (codes "boot") own ++ all_answers_text defs names (take (length answers - 1) (drop 1 answers))) (sym mine)

pub returns-in_err-print_answers-clause-gathers : goal.returns-in_err-print_answers-clause-gathers
returns-in_err-print_answers-clause-gathers g c =
    let many = c.requires.many in
    let defs = c.args.desc.now.defs in
    let names = map (λ s. s.name) c.args.drivers.now in
    let answers = c.args.answers.now in
    let boot = answers_text defs (codes "boot") c.as_slice.result.now in
    let rest = all_answers_text defs names (take (length answers - 1) (drop 1 answers)) in
    let whole = in_parts defs names answers c.index-answers-0.result c.as_slice.result.now (omega arith) c.index-answers-0.is c.as_slice.ensures in
    Gathers-fault _ _ _ _ _ _ c.from_residual.ensures.0
    (front_of_whole _ _ _ _ _ [] boot rest _ (PassesOn-none _ _) c.in_err-print_answers.ensures.gathers whole)

pub returns-clause-gathers : goal.returns-clause-gathers
returns-clause-gathers g c =
    let written = g.K.Sink.written in
    let many = c.requires.many in
    let defs = c.args.desc.now.defs in
    let names = map (λ s. s.name) c.args.drivers.now in
    let answers = c.args.answers.now in
    let boot = answers_text defs (codes "boot") c.as_slice.result.now in
    let rest = all_answers_text defs names (take (length answers - 1) (drop 1 answers)) in
    let whole = in_parts defs names answers c.index-answers-0.result c.as_slice.result.now (omega arith) c.index-answers-0.is c.as_slice.ensures in
    subst (λ (text : List ℕ). Gathers (written c.args.out.now) (written c.print_drivers.new.out) c.args.gathered.now c.print_drivers.new.gathered text c.print_drivers.result) (sym whole)
    (Gathers-after _ _ _ _ _ _ boot rest _ c.in_ok-print_answers.ensures.gathers c.print_drivers.ensures.gathers)

pub returns-clause-counts : goal.returns-clause-counts
returns-clause-counts g c = counts_since _ _ _ _ c.in_ok-print_answers.ensures.later c.print_drivers.ensures.counts
