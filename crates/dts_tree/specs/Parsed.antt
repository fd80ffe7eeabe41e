-- The tree that tokens spell, or the first refusal.
use Rattle.std.specs.Prelude.{◌≡◌, ℕ, Result, Ok, List}
use Rattle.dts_tokens.specs.declared.token.Token.{Token}
use Rattle.dts_tree.specs.declared.fault.TreeFault.{TreeFault}
use Rattle.dts_tree.specs.declared.tree.DtsTree.{DtsTree}
use Rattle.dts_tree.specs.Done.{Fails}
use Rattle.dts_tree.specs.Grown.{◌>>=◌}
use Rattle.dts_tree.specs.Read.{read, targets}
use Rattle.dts_tree.specs.State.{State}
use Rattle.dts_tree.specs.Tree.{SeenNode, seen, tree_of}

-- the nodes that were found, where each reference means one
unfoldable pub shown : List ℕ → State → Result (List SeenNode) TreeFault
shown text s = targets text s.tables.labels s.tables.references >>= λ found. Ok (tree_of text s.tables found)

-- the nodes that the tokens spell: they are read to the end of the root, and then each reference means a node
unfoldable pub spelled : List ℕ → List Token → Result (List SeenNode) TreeFault
spelled text tokens = read text tokens >>= shown text

-- the tree shows what the tokens spell
abbrev pub IsTreeOf : List ℕ → List Token → DtsTree → Type 0
IsTreeOf text tokens tree = spelled text tokens ≡ Ok (seen tree)

-- the fault is the first refusal of the tokens; want of memory says nothing of them
abbrev pub IsFaultOf : List ℕ → List Token → TreeFault → Type 0
IsFaultOf text tokens fault = Fails fault (spelled text tokens)
