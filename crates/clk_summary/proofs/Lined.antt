-- Texts of lines, one behind another.
use Rattle.std.proofs.Common.{◌≡◌, ℕ, List, [], ◌∷◌, ◌++◌, Option, Some, Bool, true, false, refl, sym, ap, subst, ◌∙◌, append_assoc, append-nil}
use Rattle.std.specs.Prelude.{is_some, Result}
use Rattle.std.specs.Result.{IsErr}
use Rattle.clk_base.specs.Description.{Description, name_of}
use Rattle.clk_base.specs.declared.event.Entry.{Entry}
use Rattle.clk_io.specs.Gathers.{Gathers, PassesOn}
use Rattle.clk_io.specs.Streams.{AppendsFront}
use Rattle.clk_io.proofs.Gathering.{PassesOn-after, front_after}
use Rattle.clk_machine.specs.declared.row.Row.{Row}
use Rattle.clk_machine.specs.Run.{Run, now_of, was_registered}
use Rattle.clk_model.specs.Summary.{header, summary}
use Rattle.clk_model.specs.Text.{Word}
use Rattle.clk_summary.specs.Rows.{columns_of}
use Rattle.clk_summary.proofs.Printing.{fault_leaves}
use Rattle.clk_summary.specs.Tables.{AreLines, HasLines, GathersLines, IsSummary}

-- no line
pub no_lines : (defs : Description) (journal : List Entry) → HasLines defs journal []
no_lines defs journal = ([], refl)

-- the line of a row that was found
pub line_of_row : (defs : Description) (journal : List Entry) (level c : ℕ) (name : Word) (found : Option Row) (row : Row) → found ≡ Some row → is_some found ≡ was_registered journal c
    → name ≡ name_of defs c → HasLines defs journal (columns_of level name row)
line_of_row defs journal level c name found row is there named = (
  columns_of level name row ∷ [],
  (
    record { clock = c; level = level; row = row; registered_ = sym there ∙ ap is_some is; text_is = ap (λ (n : Word). columns_of level n row) named },
    ([], refl, sym (append-nil (columns_of level name row))),
  ),
)

-- lines, and behind them more
pub more_lines : (defs : Description) (journal : List Entry) (done text : List ℕ) → HasLines defs journal done → HasLines defs journal text → HasLines defs journal (done ++ text)
more_lines defs journal done text some others = (some.0 ++ others.0, joined some.0 done some.1) where
  joined : (lines : List (List ℕ)) (front : List ℕ) → AreLines defs journal lines front → AreLines defs journal (lines ++ others.0) (front ++ text)
  joined [] front none = subst (λ (xs : List ℕ). AreLines defs journal others.0 (xs ++ text)) (sym none) others.1
  joined (line ∷ lines) front are = (
    are.0,
    (are.1.0 ++ text, joined lines are.1.0 are.1.1, ap (λ (xs : List ℕ). xs ++ text) are.1.2 ∙ append_assoc line are.1.0 text),
  )

-- where a fault met lines behind others, a front of both was written
pub lines_fault : {T E : Type 0} (run : Run) (a b c : Option (List ℕ)) (before middle after done text : List ℕ) (r : Result T E) → IsErr r
    → HasLines run.start.defs run.journal done → PassesOn a b before middle done → HasLines run.start.defs run.journal text → AppendsFront b c (middle ++ text) → GathersLines run a c before after r
lines_fault run a b c before middle after done text r fault some passed others front = record {
  text = done ++ text;
  lines = more_lines run.start.defs run.journal done text some others;
  gathers = fault_leaves a c before after (done ++ text) r fault (front_after a b c before middle done text passed front);
}

-- lines that were gathered so far
pub record Lined (run : Run) (old new : Option (List ℕ)) (before after : List ℕ) : Type 0 where
  pub text : List ℕ
  pub lines : HasLines run.start.defs run.journal text
  pub passed : PassesOn old new before after text

-- and more behind them
pub lined_more : (run : Run) (a b c : Option (List ℕ)) (before middle after text : List ℕ) → Lined run a b before middle → HasLines run.start.defs run.journal text → PassesOn b c middle after text
    → Lined run a c before after
lined_more run a b c before middle after text some others passed = record {
  text = some.text ++ text;
  lines = more_lines run.start.defs run.journal some.text text some.lines others;
  passed = PassesOn-after a b c before middle after some.text text some.passed passed;
}

-- the summary where the bank tells its words, else the header and lines
pub by_telling : {T E : Type 0} (run : Run) (old new : Option (List ℕ)) (before after : List ℕ) (r : Result T E) {lines : List ℕ}
    → (run.told ≡ true → Gathers old new before after (summary (now_of run)) r) → HasLines run.start.defs run.journal lines → Gathers old new before after (header ++ lines) r
    → (text : List ℕ) × IsSummary run text × Gathers old new before after text r
by_telling run old new before after r {lines} told has untold = pick run.told refl where
  pick : (b : Bool) → run.told ≡ b → (text : List ℕ) × IsSummary run text × Gathers old new before after text r
  pick true is = (summary (now_of run), record { told = λ tells. refl; untold = λ not. absurd (cc) }, told is)
  pick false is = (header ++ lines, record { told = λ tells. absurd (cc); untold = λ not. record { lines = lines; of_rows = has; text_is = refl } }, untold)

-- there is a summary of each core
pub some_summary : (run : Run) → (text : List ℕ) × IsSummary run text
some_summary run = pick run.told refl where
  pick : (b : Bool) → run.told ≡ b → (text : List ℕ) × IsSummary run text
  pick true is = (summary (now_of run), record { told = λ tells. refl; untold = λ not. absurd (cc) })
  pick false is = (header ++ [], record { told = λ tells. absurd (cc); untold = λ not. record { lines = []; of_rows = no_lines run.start.defs run.journal; text_is = refl } })
