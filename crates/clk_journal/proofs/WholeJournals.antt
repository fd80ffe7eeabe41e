-- The text of a journal gives back its entries, as their lines tell them.
use Rattle.std.proofs.Common.{◌≡◌, ℕ, ◌+◌, ◌≤◌, ◌^◌, true, List, [], ◌∷◌, ◌++◌, refl, sym, ap, ◌∙◌, map, length, arith, codes, append_assoc}
use Rattle.std.specs.Prelude.{◌==◌, not}
use Rattle.std.specs.List.{AllByRecursion}
use Rattle.std.proofs.lemmas.Bool.{and_from}
use Rattle.std.proofs.lemmas.Option.{same_Some}
use Rattle.clk_base.specs.Description.{Description}
use Rattle.clk_base.specs.declared.event.Entry.{Entry}
use Rattle.clk_model.proofs.Members.{both_left, both_right}
use Rattle.clk_model.specs.Text.{Word, spaced, entries_from}
use Rattle.clk_journal.specs.ReadEntries.{read_words}
use Rattle.clk_journal.specs.Told.{IsNumber, CanBeTold, TellApart, told_entry}
use Rattle.clk_journal.proofs.Parting.{lacks, AreWhole, endless, parted, spaced_same}
use Rattle.clk_journal.proofs.ReadBack.{entry_words, words_back}
use Rattle.clk_journal.proofs.Whole.{entry_whole}

-- ---- lines

lacks_both : (byte : ℕ) (w v : Word) → lacks byte w ≡ true → lacks byte v ≡ true → lacks byte (w ++ v) ≡ true
lacks_both byte [] v p q = q
lacks_both byte (b ∷ w) v p q = and_from (not (b == byte)) _ (both_left _ _ p) (lacks_both byte w v (both_right (not (b == byte)) (lacks byte w) p) q)

-- whole words with a space between each two have no line end
one_line : (ws : List Word) → AreWhole ws → lacks 10 (spaced ws) ≡ true
one_line [] whole = refl
one_line (w ∷ []) whole = endless w whole.0
one_line (w ∷ v ∷ ws) whole = lacks_both 10 (w ++ codes " ") (spaced (v ∷ ws)) (lacks_both 10 w (codes " ") (endless w whole.0) refl) (one_line (v ∷ ws) whole.1)

never_empty : (w : Word) (b : ℕ) (x : List ℕ) → [] ≡ (w ++ b ∷ []) ++ x → ⊥
never_empty [] b x e = absurd cc
never_empty (a ∷ w) b x e = absurd cc

-- ---- entries

module _ (defs : Description) (names : List Word) (apart : TellApart defs names) where
  -- two entries with the same words are the same as their line tells them
  pub entry_same : (number : ℕ) (e f : Entry) → IsNumber number → CanBeTold defs names e → CanBeTold defs names f
      → spaced (entry_words defs names number e) ≡ spaced (entry_words defs names number f) → told_entry defs e ≡ told_entry defs f
  entry_same number e f small first second same =
      let one = entry_words defs names number e in
      let two = entry_words defs names number f in
      let words : one ≡ two = spaced_same one two (entry_whole defs names apart number e small first) (entry_whole defs names apart number f small second) same in
      same_Some (told_entry defs e) (told_entry defs f) (sym (words_back defs names apart number e first) ∙ ap (read_words defs names number) words ∙ words_back defs names apart number f second)

  -- two journals with the same lines from a number on
  pub entries_same : (number : ℕ) (j k : List Entry) → number + length j ≤ 2 ^ 64 → AllByRecursion (CanBeTold defs names) j → AllByRecursion (CanBeTold defs names) k
      → entries_from defs names number j ≡ entries_from defs names number k → map (told_entry defs) j ≡ map (told_entry defs) k
  entries_same number [] [] few first second same = refl
  entries_same number [] (f ∷ fs) few first second same = absurd (never_empty (spaced (entry_words defs names number f)) 10 (entries_from defs names (number + 1) fs) same)
  entries_same number (e ∷ es) [] few first second same = absurd (never_empty (spaced (entry_words defs names number e)) 10 (entries_from defs names (number + 1) es) (sym same))
  entries_same number (e ∷ es) (f ∷ fs) few first second same =
      let one = spaced (entry_words defs names number e) in
      let two = spaced (entry_words defs names number f) in
      let more = entries_from defs names (number + 1) es in
      let others = entries_from defs names (number + 1) fs in
      let small : IsNumber number = omega (arith, few) in
      let lines = parted 10 one two more others (one_line (entry_words defs names number e) (entry_whole defs names apart number e small first.0))
      (one_line (entry_words defs names number f) (entry_whole defs names apart number f small second.0))
      (sym (append_assoc one (codes "\n") more) ∙ same ∙ append_assoc two (codes "\n") others) in
      ap (λ x. x ∷ map (told_entry defs) es) (entry_same number e f small first.0 second.0 lines.0)
      ∙ ap (λ xs. told_entry defs f ∷ xs) (entries_same (number + 1) es fs (omega (arith, few)) first.1 second.1 lines.1)
