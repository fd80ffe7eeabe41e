-- From what was read to what the tokens spell.
use Rattle.std.proofs.Common.{◌≡◌, ℕ, Result, Ok, Err, List, ap, sym, subst, ◌∙◌, IfOk, IfErr}
use Rattle.dts_tokens.specs.declared.token.Token.{Token}
use Rattle.dts_tree.specs.declared.fault.TreeFault.{TreeFault}
use Rattle.dts_tree.specs.declared.tree.DtsTree.{DtsTree}
use Rattle.dts_tree.specs.Done.{Fails}
use Rattle.dts_tree.specs.Grown.{◌>>=◌}
use Rattle.dts_tree.specs.Parsed.{IsTreeOf, IsFaultOf, shown, spelled}
use Rattle.dts_tree.specs.Read.{read}
use Rattle.dts_tree.specs.State.{State}
use Rattle.dts_tree.specs.Tree.{SeenNode, seen}

-- what was read is shown
pub spelled-read : (text : List ℕ) (tokens : List Token) (s : State) → read text tokens ≡ Ok s → spelled text tokens ≡ shown text s
unfolding spelled
spelled-read text tokens s e = ap (λ r. r >>= shown text) e

pub whole-tree : (text : List ℕ) (tokens : List Token) (s : State) (r : Result DtsTree TreeFault) → read text tokens ≡ Ok s → IfOk r (λ tree. shown text s ≡ Ok (seen tree)) → IfOk r (λ tree. IsTreeOf text tokens tree)
whole-tree text tokens s (Ok tree) e h = spelled-read text tokens s e ∙ h
whole-tree text tokens s (Err fault) e h = tt

pub whole-fault : (text : List ℕ) (tokens : List Token) (s : State) (r : Result DtsTree TreeFault) → read text tokens ≡ Ok s → IfErr r (λ fault. Fails fault (shown text s)) → IfErr r (λ fault. IsFaultOf text tokens fault)
whole-fault text tokens s (Ok tree) e h = tt
whole-fault text tokens s (Err fault) e h = let P : Result (List SeenNode) TreeFault → Type 0 = λ wanted. Fails fault wanted in subst P (sym (spelled-read text tokens s e)) h
