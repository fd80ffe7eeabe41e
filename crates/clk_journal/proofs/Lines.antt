-- The lines from a place on are the line at this place and the lines behind it, and what a fault there leaves.
use Rattle.std.proofs.Common.{refl, ◌∷◌, ◌≡◌, ℕ, ◌+◌, ◌<◌, ◌==◌, List, [], ◌++◌, length, drop, drop-cons, get_or, Option, Result, Ok, Err, ap, ◌∙◌, sym, append_assoc, add-one, if◌then◌else◌, codes}
use Rattle.std.specs.Fmt.{decimal}
use Rattle.std.specs.Result.{IsErr}
use Rattle.clk_base.specs.Description.{Description}
use Rattle.clk_base.specs.declared.command.Answer.{Answer}
use Rattle.clk_io.specs.Streams.{AppendsFront}
use Rattle.clk_io.specs.Gathers.{Gathers}
use Rattle.clk_base.specs.declared.command.Answer.TheVariants as answer
use Rattle.clk_base.specs.declared.event.Reply.{Reply}
use Rattle.clk_base.specs.declared.event.Reply.TheVariants as reply
use Rattle.clk_model.specs.Text.{answer_line, answer_words, answers_from, hex_digits, register_line, registers_from, reply_words, spaced}

-- a front of the text is what a fault may leave of it
pub Gathers-fault : {T E : Type 0} (a b : Option (List ℕ)) (before after text : List ℕ) (r : Result T E) → IsErr r → AppendsFront a b (before ++ text) → Gathers a b before after text r
Gathers-fault a b before after text (Ok x) i h = absurd (cc)
Gathers-fault a b before after text (Err e) i h = h

-- the line of the answer at this place, and the lines behind it
pub answers_at : (defs : Description) (driver : List ℕ) (answers : List Answer) (k i : ℕ) (d : Answer) → i < length answers
    → answers_from defs driver k (drop i answers) ≡ answer_line defs driver k (get_or answers i d) ++ answers_from defs driver (k + 1) (drop (i + 1) answers)
answers_at defs driver answers k i d within = rw (drop-cons answers i d within, add-one i)

-- the line of the word at this place, if it has one, and the lines behind it
pub registers_at : (words : List ℕ) (k i d : ℕ) → i < length words
    → registers_from k (drop i words) ≡ (if get_or words i d == 0 then [] else register_line k (get_or words i d)) ++ registers_from (k + 1) (drop (i + 1) words)
registers_at words k i d within = rw (drop-cons words i d within, add-one i)

-- one line more is done
pub one_more : (whole done rest line behind : List ℕ) → whole ≡ done ++ rest → rest ≡ line ++ behind → whole ≡ (done ++ line) ++ behind
one_more whole done rest line behind e at = e ∙ ap (λ r. done ++ r) at ∙ sym (append_assoc done line behind)

-- a register's line, from the pieces of its format
pub register_line-pieces : (place value : ℕ)
    → codes "reg " ++ (decimal place ++ (codes " 0x" ++ (hex_digits 8 value ++ codes "\n"))) ≡ register_line place value
register_line-pieces place value = simp append_assoc

-- a word in front of a reply, with a space between them
behind_word : (defs : Description) (word : List ℕ) (r : Reply) → spaced (word ∷ reply_words defs r) ≡ word ++ codes " " ++ spaced (reply_words defs r)
behind_word defs word reply.Fine = refl
behind_word defs word reply.Warn = refl
behind_word defs word reply.Yes = refl
behind_word defs word reply.No = refl
behind_word defs word (reply.Handle h) = refl
behind_word defs word (reply.Rate r) = refl
behind_word defs word (reply.Clock c) = refl
behind_word defs word (reply.Refused e) = refl

-- an answer's line, from the pieces of its format
pub answer_line-pieces : (defs : Description) (driver : List ℕ) (k : ℕ) (a : Answer)
    → driver ++ (codes "." ++ (decimal k ++ (codes " " ++ (spaced (answer_words defs a) ++ codes "\n")))) ≡ answer_line defs driver k a
answer_line-pieces defs driver k answer.Skip = simp append_assoc
answer_line-pieces defs driver k (answer.Reply r) = rw (behind_word defs (driver ++ codes "." ++ decimal k) r) (simp append_assoc)
