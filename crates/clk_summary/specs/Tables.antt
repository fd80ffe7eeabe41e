-- What a table says where the bank doesn't tell its words: lines of clocks that were registered.
use Rattle.std.specs.Prelude.{◌≡◌, ℕ, ◌++◌, List, [], ◌∷◌, true, false, Option, Result}
use Rattle.clk_base.specs.Description.{Description, name_of}
use Rattle.clk_base.specs.declared.event.Entry.{Entry}
use Rattle.clk_io.specs.Gathers.{Gathers, StaysGathered}
use Rattle.clk_io.specs.declared.faults.PrintFault.{PrintFault}
use Rattle.clk_machine.specs.declared.row.Row.{Row}
use Rattle.clk_machine.specs.Run.{Run, now_of, was_registered}
use Rattle.clk_model.specs.Summary.{header, summary}
use Rattle.clk_summary.specs.Rows.{columns_of}

-- the line of a row under the name of a clock that was registered, on some level of the tree
pub record IsLine (defs : Description) (journal : List Entry) (text : List ℕ) : Type 0 where
  pub clock : ℕ
  pub level : ℕ
  pub row : Row
  pub registered_ : was_registered journal clock ≡ true
  pub text_is : text ≡ columns_of level (name_of defs clock) row

-- a text of such lines, one behind another
abbrev pub AreLines : Description → List Entry → List (List ℕ) → List ℕ → Type 0
AreLines defs journal [] text = text ≡ []
AreLines defs journal (line ∷ lines) text = IsLine defs journal line × ((rest : List ℕ) × AreLines defs journal lines rest × (text ≡ line ++ rest))

-- a text is made of such lines
abbrev pub HasLines : Description → List Entry → List ℕ → Type 0
HasLines defs journal text = (lines : List (List ℕ)) × AreLines defs journal lines text

-- a text of such lines was gathered or written; after a fault a front of it was written
pub record GathersLines {T E : Type 0} (run : Run) (old new : Option (List ℕ)) (before after : List ℕ) (r : Result T E) : Type 0 where
  pub text : List ℕ
  pub lines : HasLines run.start.defs run.journal text
  pub gathers : Gathers old new before after text r

-- a header, and behind it such lines
pub record IsTable (defs : Description) (journal : List Entry) (text : List ℕ) : Type 0 where
  pub lines : List ℕ
  pub of_rows : HasLines defs journal lines
  pub text_is : text ≡ header ++ lines

-- what is printed of a core: where its bank tells its words the summary of its state, else a table of the clocks that were registered
pub record IsSummary (run : Run) (text : List ℕ) : Type 0 where
  pub told : run.told ≡ true → text ≡ summary (now_of run)
  pub untold : run.told ≡ false → IsTable run.start.defs run.journal text

-- after a fault some of a text of such lines stays gathered, or nothing
pub record StaysLines (run : Run) (old new : Option (List ℕ)) (before after : List ℕ) (fault : PrintFault) : Type 0 where
  pub text : List ℕ
  pub lines : HasLines run.start.defs run.journal text
  pub stays : StaysGathered old new before after text fault

-- after a fault some of what is printed of a core stays gathered, or nothing
pub record StaysSummary (run : Run) (old new : Option (List ℕ)) (before after : List ℕ) (fault : PrintFault) : Type 0 where
  pub text : List ℕ
  pub summary : IsSummary run text
  pub stays : StaysGathered old new before after text fault
