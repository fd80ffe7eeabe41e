-- A token that is a string begins with a quote.
use Rattle.std.proofs.Common.{◌≡◌, ℕ, List, slice_index, arith}
use Rattle.std.proofs.lemmas.Bool.Decides.{nat_tests}
use Rattle.dts_tree.specs.declared.mark.Mark.TheVariants.{Text}
use Rattle.dts_tree.specs.Marks.{mark_of, sign_mark, long_mark}

sign-text : (b : ℕ) → sign_mark b ≡ Text → ⊥
sign-text b h = grind (arith, nat_tests)

pub text-first : (word : List ℕ) → mark_of word ≡ Text → slice_index word 0 ≡ 34
unfolding mark_of long_mark
text-first word h = let no = sign-text (slice_index word 0) in grind (arith, nat_tests, no)
