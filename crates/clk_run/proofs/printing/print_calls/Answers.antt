use Rattle.std.proofs.Common.{◌≡◌, ◌∙◌, ◌++◌, ℕ, Bool, List, [], refl, ap, sym, subst, if◌then◌else◌}
use Rattle.clk_base.specs.Description.{Description}
use Rattle.clk_base.specs.declared.command.Answer.{Answer}
use Rattle.clk_base.specs.declared.event.Entry.{Entry}
use Rattle.clk_cli.specs.declared.cli.Cli.{Cli}
use Rattle.clk_io.proofs.Gathering.{PassesOn-none, Gathers-after, front_of_whole}
use Rattle.clk_io.specs.Gathers.{Gathers}
use Rattle.clk_journal.proofs.Lines.{Gathers-fault}
use Rattle.clk_journal.proofs.Stays.{counts_since}
use Rattle.clk_model.specs.Text.{journal_text}
use Rattle.drv_scripts.specs.declared.bundle.Script.{Script}
use Rattle.clk_run.specs.Texts.{shows_journal, counts_answers, names_of, told_text, calls_text}
use Rattle.clk_run.proofs.printing.print_calls.Goals as goal

-- the text of the calls is the journal, where it is shown, and then what is told of the answers
in_parts : (defs : Description) (cli : Cli) (drivers : List Script) (journal : List Entry) (answers : List (List Answer)) (shown counted : Bool) → shown ≡ shows_journal cli
    → counted ≡ counts_answers cli.mode
    → calls_text defs cli drivers journal answers ≡ (if shown then journal_text defs (names_of drivers) journal else []) ++ told_text counted defs drivers answers
in_parts defs cli drivers journal answers shown counted same counts =
    ap (λ (b : Bool). (if b then journal_text defs (names_of drivers) journal else []) ++ told_text (counts_answers cli.mode) defs drivers answers) (sym same)
    ∙ ap (λ (b : Bool). (if shown then journal_text defs (names_of drivers) journal else []) ++ told_text b defs drivers answers) (sym counts)

pub returns-in_err-print_journal-clause-gathers : goal.returns-in_err-print_journal-clause-gathers
returns-in_err-print_journal-clause-gathers g c =
    let whole = in_parts c.args.desc.now.defs c.args.cli.now c.args.drivers.now c.args.journal.now c.args.answers.now c.shows_journal-shown.result
    (counts_answers c.args.cli.now.mode) c.shows_journal-shown.ensures refl in
    Gathers-fault _ _ _ _ _ _ c.from_residual.ensures.0
    (front_of_whole _ _ _ _ _ [] _ _ _ (PassesOn-none _ _) c.in_err-print_journal.ensures.gathers whole)

pub returns-clause-gathers : goal.returns-clause-gathers
returns-clause-gathers g c =
    let written = g.K.Sink.written in
    let whole = in_parts c.args.desc.now.defs c.args.cli.now c.args.drivers.now c.args.journal.now c.args.answers.now c.shows_journal-shown.result
    c.counts_answers-counted.result c.shows_journal-shown.ensures c.counts_answers-counted.ensures in
    subst (λ (text : List ℕ). Gathers (written c.args.out.now) (written c.print_told.new.out) c.args.gathered.now c.print_told.new.gathered text c.print_told.result) (sym whole)
    (Gathers-after _ _ _ _ _ _ _ _ _ c.in_ok-print_journal.ensures.gathers c.print_told.ensures.gathers)

pub returns-clause-counts : goal.returns-clause-counts
returns-clause-counts g c = counts_since _ _ _ _ c.in_ok-print_journal.ensures.later c.print_told.ensures.counts
