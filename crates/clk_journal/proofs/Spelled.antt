-- A line spells an entry exactly where its words do.
use Rattle.std.proofs.Common.{◌≡◌, ℕ, ◌<◌, List, ◌∷◌, ◌++◌, Option, Some, None, sym, ap, ◌∙◌, length, codes, arith, length-append}
use Rattle.std.specs.Prelude.{MatchOption}
use Rattle.std.proofs.lemmas.List.{append_cancel_right}
use Rattle.clk_base.specs.declared.event.Entry.{Entry}
use Rattle.clk_base.specs.Description.{Description}
use Rattle.clk_model.specs.Text.{Word, spaced, entry_text, event_words, turn_words}
use Rattle.clk_journal.specs.Told.{IsNumber, CanBeTold, TellApart, told_entry}
use Rattle.clk_journal.specs.Spelling.{Spells, SpellsNone}
use Rattle.clk_journal.specs.ReadEntries.{read_words}
use Rattle.clk_journal.proofs.Splits.{parts}
use Rattle.clk_journal.proofs.Parts.{spaced_parts, parts_spaced}
use Rattle.clk_journal.proofs.Whole.{entry_whole}
use Rattle.clk_journal.proofs.Few.{few_event, few_turn}
use Rattle.clk_journal.proofs.ReadBack.{entry_words, words_back, words_forth}

module _ (defs : Description) (names : List Word) (number : ℕ) (line : List ℕ) where
  -- what was read is spelled
  pub spells : (e : Entry) → read_words defs names number (parts line) ≡ Some e → Spells defs names number line e
  spells e is =
      let h = (words_forth defs names number (parts line)).holds e is in
      record { text = ap (λ xs. xs ++ codes "\n") (ap spaced h.words ∙ spaced_parts line); can = h.can; told = h.told }

  words_are : TellApart defs names → IsNumber number → (e : Entry) → CanBeTold defs names e → entry_text defs names number e ≡ line ++ codes "\n" → parts line ≡ entry_words defs names number e
  words_are apart few e can is =
      ap parts (sym (append_cancel_right (spaced (entry_words defs names number e)) line (codes "\n") is))
      ∙ parts_spaced _ _ (entry_whole defs names apart number e few can)

  -- if nothing was read, nothing is spelled
  pub spells_none : TellApart defs names → IsNumber number → read_words defs names number (parts line) ≡ None → SpellsNone defs names number line
  spells_none apart few none e can is =
      let back : read_words defs names number (parts line) ≡ Some (told_entry defs e) = ap (read_words defs names number) (words_are apart few e can is) ∙ words_back defs names apart number e can in
      absurd cc

  -- nor where there are more words than any entry has
  pub spells_long : TellApart defs names → IsNumber number → 12 < length (parts line) → SpellsNone defs names number line
  spells_long apart few long e can is =
      let same : length (parts line) ≡ length (entry_words defs names number e) = ap length (words_are apart few e can is) in
      let sum = length-append (event_words defs e.event) (codes "=" ∷ turn_words defs e.turn) in
      absurd (omega (arith, same, sum, few_event defs e.event, few_turn defs e.turn))

  -- what was read, or not, tells what is spelled
  pub reads : TellApart defs names → IsNumber number → (r : Option Entry) (ws : List Word) → r ≡ read_words defs names number ws → ws ≡ parts line → MatchOption r (SpellsNone defs names number line) (λ e. Spells defs names number line e)
  reads apart few None ws is same = spells_none apart few (sym (is ∙ ap (read_words defs names number) same))
  reads apart few (Some e) ws is same = spells e (sym (is ∙ ap (read_words defs names number) same))
