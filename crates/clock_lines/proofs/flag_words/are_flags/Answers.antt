-- The test of each borrowed word is that of its text.
use Rattle.std.proofs.Common.{ℕ, List, rules, tests, ◌∙◌, ◌&&◌, ◌||◌}
use Rattle.std.specs.Prelude.{◌==◌, count_by}
use Rattle.std.specs.Borrow.{Bor}
use Rattle.std.specs.Str.{bytes_eq}
use Rattle.std.proofs.lemmas.Iterator.{YieldsList-from_slice}
use Rattle.std.proofs.lemmas.Iterator.Search.{all_from_yields_List}
use Rattle.bundle_text.specs.Words.{texts}
use Rattle.clock_lines.specs.FlagWords.{is_common_flag, is_own_flag, are_flags}
use Rattle.bundle_text.proofs.Mapped.{list_all-texts}
use Rattle.clock_lines.proofs.flag_words.are_flags.Goals as goal

pub returns : goal.returns
unfolding are_flags
returns c =
    let test = λ (w : List ℕ). (is_common_flag w || is_own_flag c.args.kind w) && (count_by (bytes_eq w) (texts c.args.words.now) == 1) in
    all_from_yields_List (λ (w : Bor (List ℕ)). test w.now) _ _ _ c.all.ensures.ran (YieldsList-from_slice c.args.words.now cc) (λ x b q k. search (rules, tests))
    ∙ list_all-texts test c.args.words.now
