-- A line that says a clock has a name of its own, and its clock goes last.
use Rattle.std.proofs.Common.{ap, sym, ◌∙◌, ◌≡◌, ℕ, List, length}
use Rattle.std.specs.Borrow.{Bor}
use Rattle.std.proofs.lemmas.Bool.{eqb-true}
use Rattle.std.proofs.lemmas.List.{length-map}
use Rattle.bundle_text.specs.Words.{texts}
use Rattle.clock_lines.specs.Section.{is_named}
use Rattle.clock_lines.specs.Shown.{shown}
use Rattle.clock_lines.proofs.Turns.{empty-taken, fresh-name, said-taken}
use Rattle.clock_lines.proofs.reading.with_words.Goals as goal

pub returns-then-is_empty : goal.returns-then-is_empty
returns-then-is_empty c =
    let none : length c.args.words.now ≡ 0 = eqb-true (length c.args.words.now) 0 (sym c.is_empty.ensures ∙ c.if-is_empty.true) in
    empty-taken c.args.version c.args.clocks c.args.place (texts c.args.words.now) (length-map c.args.words.now (λ (w : Bor (List ℕ)). w.now) ∙ none)

pub with-requires : goal.with-requires
with-requires c =
    fresh-name c.args.version c.args.clocks (texts c.args.words.now) _ (shown c.in-Ok.line) (c.is_named-taken.ensures ∙ ap (is_named c.args.clocks) c.name_word.ensures) (sym c.in-Ok.ensures)

pub returns : goal.returns
returns c =
    said-taken c.args.version c.args.clocks c.in_ok-clocks-in-Ok.clocks c.args.place (texts c.args.words.now) _ (shown c.in-Ok.line)
    (c.is_named-taken.ensures ∙ ap (is_named c.args.clocks) c.name_word.ensures) (sym c.in-Ok.ensures) c.in_ok-clocks-in-Ok.ensures
