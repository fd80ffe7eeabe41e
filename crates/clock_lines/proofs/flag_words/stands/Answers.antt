-- The test of each borrowed word is that of its text.
use Rattle.std.proofs.Common.{ℕ, List, rules, tests, ◌∙◌}
use Rattle.std.specs.Borrow.{Bor}
use Rattle.std.specs.Str.{bytes_eq}
use Rattle.std.proofs.lemmas.Iterator.{YieldsList-from_slice}
use Rattle.std.proofs.lemmas.Iterator.Search.{any_from_yields_List}
use Rattle.bundle_text.proofs.Mapped.{list_any-texts}
use Rattle.clock_lines.proofs.flag_words.stands.Goals as goal

pub returns : goal.returns
returns c =
    any_from_yields_List (λ (w : Bor (List ℕ)). bytes_eq c.args.word.now w.now) _ _ _ c.any.ensures.ran (YieldsList-from_slice c.args.words.now cc) (λ x b q k. search (rules, tests))
    ∙ list_any-texts (bytes_eq c.args.word.now) c.args.words.now
