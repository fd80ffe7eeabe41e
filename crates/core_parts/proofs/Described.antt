-- The description of a tree: that it stays, and that it is valid over a bank with the words of a window and more.
use Rattle.std.proofs.Common.{◌≡◌, ℕ, ◌≤◌, arith, ap, ◌∙◌}
use Rattle.clk_base.specs.Checked.{Checked}
use Rattle.clk_base.specs.Description.{Description}
use Rattle.clk_base.specs.Valid.{IsValid}
use Rattle.clk_tree.specs.TreeState.{TreeState}
use Rattle.clk_tree.proofs.Reading.{valid_in}
use Rattle.core_parts.specs.Tied.{desc_of}

-- trees with the same definitions, checked with as many words, are of the same description
pub desc_same : (t u : TreeState) → t.words ≡ u.words → t.defs ≡ u.defs → desc_of t ≡ desc_of u
desc_same t u words defs =
    ap (λ (n : ℕ). let d : Checked = record { words = n; defs = t.defs } in d) words
    ∙ ap (λ (ds : Description). let d : Checked = record { words = u.words; defs = ds } in d) defs

-- a bank that has the words of a window has those that the description was checked with
pub valid_over : (words size bank : ℕ) (defs : Description) → IsValid words defs → size ≡ words → size ≤ bank → IsValid bank defs
valid_over words size bank defs valid same fits = valid_in words bank defs valid (omega arith)
