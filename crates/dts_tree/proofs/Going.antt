-- Going from token to token.
use Rattle.std.proofs.Common.{◌≡◌, ℕ, zero, suc, All, ◌+◌, ◌<◌, Result, Ok, List, [], ◌∷◌, length, drop, get_or, refl, ap, ◌∙◌, arith}
use Rattle.std.proofs.lemmas.List.{at_drop_more}
use Rattle.dts_tokens.specs.declared.token.Token.{Token}
use Rattle.dts_tokens.specs.Tokens.{Rises}
use Rattle.dts_tree.specs.declared.fault.TreeFault.{TreeFault}
use Rattle.dts_tree.specs.declared.fault.TreeFault.TheVariants as faults
use Rattle.dts_tree.specs.Done.{Fails}
use Rattle.dts_tree.specs.Grown.{◌>>=◌}
use Rattle.dts_tree.specs.State.{State}
use Rattle.dts_tree.specs.Steps.{run, step, bytes_of}

-- what fails goes on failing
pub Fails-bind : {X Y : Type 0} (e : TreeFault) (r : Result X TreeFault) (f : X → Result Y TreeFault) → Fails e r → Fails e (r >>= f)
Fails-bind faults.NoMemory r f h = tt
Fails-bind (faults.Syntax line) r f h = ap (λ x. x >>= f) h
Fails-bind (faults.TwiceDefined line) r f h = ap (λ x. x >>= f) h
Fails-bind (faults.NoSuchLabel line) r f h = ap (λ x. x >>= f) h
Fails-bind (faults.TooDeep line) r f h = ap (λ x. x >>= f) h

run-cons : (text : List ℕ) (token : Token) (tokens : List Token) (s : State) → run text (token ∷ tokens) s ≡ (step text s token >>= run text tokens)
unfolding run
run-cons text token tokens s = refl

-- one token more
pub run-more : (text : List ℕ) (tokens : List Token) (s : State) (i : ℕ) (d : Token) → i < length tokens → run text (drop i tokens) s ≡ (step text s (get_or tokens i d) >>= run text (drop (i + 1) tokens))
run-more text tokens s i d low = at_drop_more (λ ts. run text ts s) tokens i d low ∙ run-cons text (get_or tokens i d) (drop (i + 1) tokens) s

pub run-end : (text : List ℕ) (s : State) → run text [] s ≡ Ok s
unfolding run
run-end text s = refl

-- fewer than two digits are no byte
pub bytes_of-short : (xs : List ℕ) → length xs < 2 → bytes_of xs ≡ []
bytes_of-short [] h = refl
bytes_of-short (x ∷ []) h = refl
bytes_of-short (x ∷ y ∷ xs) h = absurd (omega arith)

-- tokens that rise have a byte at least
pub Rises-some : (from : ℕ) (tokens : List Token) (end : ℕ) → Rises from tokens end → All (λ t. t.from < t.to) tokens
Rises-some from [] end h k d low = absurd (omega arith)
Rises-some from (token ∷ tokens) end h zero d low = h.1
Rises-some from (token ∷ tokens) end h (suc k) d low = Rises-some token.to tokens end h.2 k d (omega arith)
