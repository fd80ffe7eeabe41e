-- What a syntax tree means: what it brings into the tables, and the nodes that these show; or its first refusal.
use Rattle.std.specs.Prelude.{◌≡◌, ℕ, suc, Result, Ok, List, [], ◌∷◌, length}
use Rattle.std.specs.Option.{option_map_or}
use Rattle.dts_tokens.specs.declared.token.Token.{Token}
use Rattle.dts_tokens.specs.Numbers.{number_up_to}
use Rattle.dts_tokens.specs.Tokens.{text_of}
use Rattle.dts_tree.specs.declared.fault.TreeFault.{TreeFault}
use Rattle.dts_tree.specs.declared.fault.TreeFault.TheVariants as faults
use Rattle.dts_tree.specs.declared.mark.Mark.{Mark}
use Rattle.dts_tree.specs.declared.mark.Mark.TheVariants as marks
use Rattle.dts_tree.specs.declared.rows.Item.TheVariants as items
use Rattle.dts_tree.specs.declared.rows.ValueRow.TheVariants as values
use Rattle.dts_tree.specs.Grammar.{Value, Text, Target, Cells, Bytes, Values, Last, More, Body, Empty, Child, Bare, Property, Source, FitsSource, spelling}
use Rattle.dts_tree.specs.Grown.{Tables, ◌>>=◌, add_label, add_root, add_node, add_name, add_value, add_item, add_items, add_reference, begun, end_property}
use Rattle.dts_tree.specs.Marks.{mark_of}
use Rattle.dts_tree.specs.Read.{opening, targets}
use Rattle.dts_tree.specs.Steps.{bytes_of}
use Rattle.dts_tree.specs.Tree.{SeenNode, tree_of}

-- a cell is a reference, or else a number
abbrev pub cell_of_mark : List ℕ → Mark → Token → Tables → Tables
cell_of_mark text marks.Reference token t = add_reference token (add_item (items.Reference (length t.references)) t)
cell_of_mark text mark token t = option_map_or (λ n. add_item (items.Number (record { value = n; word = token })) t) (number_up_to 4294967295 (text_of text token)) t

-- cells, behind what was found before
abbrev pub with_cells : List ℕ → List Token → Tables → Tables
with_cells text [] t = t
with_cells text (token ∷ tokens) t = with_cells text tokens (cell_of_mark text (mark_of (text_of text token)) token t)

-- the bytes that words write, behind what was found before
abbrev pub with_bytes : List ℕ → List Token → Tables → Tables
with_bytes text [] t = t
with_bytes text (token ∷ tokens) t = with_bytes text tokens (add_items (bytes_of (text_of text token)) t)

-- a value, with the cells or bytes that are found in it
abbrev pub with_value : List ℕ → Value → Tables → Tables
with_value text (Text token) t = add_value (values.Text token) t
with_value text (Target token) t = add_reference token (add_value (values.Node (length t.references)) t)
with_value text (Cells front cells close) t = add_value (values.Cells (record { from = length t.items; to = length (with_cells text cells t).items })) (with_cells text cells t)
with_value text (Bytes front bytes close) t = add_value (values.Bytes (record { from = length t.items; to = length (with_bytes text bytes t).items })) (with_bytes text bytes t)

-- values in order, behind what was found before
abbrev pub with_values : List ℕ → Values → Tables → Tables
with_values text (Last v) t = with_value text v t
with_values text (More v comma vs) t = with_values text vs (with_value text v t)

-- labels, behind those that were found before, or the first that stands twice
abbrev pub with_labels : List ℕ → List Token → Tables → Result Tables TreeFault
with_labels text [] t = Ok t
with_labels text (token ∷ tokens) t = add_label text token t >>= with_labels text tokens

-- what stands in a node of this number, with so many nodes above it: labels, then a child and what stands in it, or a property and its values, then the rest
abbrev pub with_body : List ℕ → ℕ → ℕ → Body → Tables → Result Tables TreeFault
with_body text here depth Empty t = Ok t
with_body text here depth (Child labels name front inside close end rest) t =
    with_labels text labels t >>= λ u. add_node text here depth name u >>= λ v. with_body text (length u.nodes) (suc depth) inside v >>= with_body text here depth rest
with_body text here depth (Bare labels name end rest) t =
    with_labels text labels t >>= λ u. add_name text here name u >>= λ v. end_property text here (begun name v) v >>= with_body text here depth rest
with_body text here depth (Property labels name equals vs end rest) t =
    with_labels text labels t >>= λ u. add_name text here name u >>= λ v. end_property text here (begun name v) (with_values text vs v) >>= with_body text here depth rest

-- the nodes of a source, where each reference means one
unfoldable pub meaning : List ℕ → Source → Result (List SeenNode) TreeFault
meaning text s = with_body text 0 0 s.body (add_root s.root opening.tables) >>= λ t. targets text t.labels t.references >>= λ found. Ok (tree_of text t found)

-- the tokens are spelled by a syntax tree that means these nodes
abbrev pub IsSourceOf : List ℕ → List Token → List SeenNode → Type 0
IsSourceOf text tokens nodes = (s : Source) × FitsSource text s × (tokens ≡ spelling s) × (meaning text s ≡ Ok nodes)

-- a fault that isn't one of syntax
abbrev pub IsNotSyntax : TreeFault → Type 0
IsNotSyntax (faults.Syntax line) = ⊥
IsNotSyntax fault = Unit {0}
