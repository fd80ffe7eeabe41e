-- The entry that a line of a printed journal spells.
use Rattle.std.specs.Prelude.{◌≡◌, ℕ, List, ◌++◌, codes}
use Rattle.clk_base.specs.declared.event.Entry.{Entry}
use Rattle.clk_base.specs.Description.{Description}
use Rattle.clk_model.specs.Text.{Word, entry_text}
use Rattle.clk_journal.specs.Told.{told_entry, CanBeTold}

-- a line without its end spells this entry: it is the text of the entry with this number, and the entry is as its line tells it
pub record Spells (defs : Description) (names : List Word) (number : ℕ) (line : List ℕ) (e : Entry) : Type 0 where
  pub text : entry_text defs names number e ≡ line ++ codes "\n"
  pub can : CanBeTold defs names e
  pub told : told_entry defs e ≡ e

-- it is the text of no entry with this number
abbrev pub SpellsNone : Description → List Word → ℕ → List ℕ → Type 0
SpellsNone defs names number line = (e : Entry) → CanBeTold defs names e → entry_text defs names number e ≡ line ++ codes "\n" → ⊥
