use Rattle.std.proofs.Common.{◌≡◌, ◌∙◌, ◌<◌, ◌≤◌, ◌∷◌, [], ℕ, List, refl, sym, length, get_or, arith}
use Rattle.std.specs.Borrow.{Bor}
use Rattle.bundle_text.specs.Words.{texts}
use Rattle.clk_base.specs.Description.{Description, clock_named}
use Rattle.drv_scripts.specs.ListLines.{late_said, late_line}
use Rattle.drv_scripts.proofs.late_section.late_line.Goals as goal

-- a line of one word
one_word : (defs : Description) (line : ℕ) (words : List (Bor (List ℕ))) (d : Bor (List ℕ)) → 1 ≤ length words → length words < 2
    → late_line defs line (texts words) ≡ late_said line (clock_named defs (get_or words 0 d).now)
unfolding late_line
one_word defs line [] d low high = absurd (omega arith)
one_word defs line (x ∷ []) d low high = refl
one_word defs line (x ∷ y ∷ words) d low high = absurd (omega arith)

pub returns-in-len1 : goal.returns-in-len1
returns-in-len1 c = c.late_named.ensures ∙ sym (one_word c.args.desc.now.defs c.args.line c.args.words.now _ c.in-len1.len_at_least c.in-len1.len_below)
