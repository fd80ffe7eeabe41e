-- What is read of a word and what is written to it, in words that a bank may tell.
use Rattle.std.proofs.Common.{◌≡◌, ℕ, ap, ◌∙◌, Option, Some, None, IfSome, get_or, set}
use Rattle.std.specs.Option.{option_map}
use Rattle.reg_bank.specs.Registers.{Registers}

-- an answer that follows from the word that was read
pub read_told : {X : Type 0} (f : ℕ → X) (told : Option Registers) (value word : ℕ) (answer : X) → answer ≡ f value → IfSome told (λ words. value ≡ get_or words word 0) → IfSome told (λ words. answer ≡ f (get_or words word 0))
read_told f None value word answer is read = tt
read_told f (Some words) value word answer is read = is ∙ ap f read

-- the words after the word that was read was changed
pub write_told : (f : ℕ → ℕ) (told after : Option Registers) (value new word : ℕ) → new ≡ f value → IfSome told (λ words. value ≡ get_or words word 0) → after ≡ option_map (λ words. set words word new) told → after ≡ option_map (λ words. set words word (f (get_or words word 0))) told
write_told f None after value new word is read written = written
write_told f (Some words) after value new word is read written =
    written ∙ ap (λ w. Some (set words word w)) (is ∙ ap f read)
