-- What the tables hold of a text: whole characters, and numbers of nodes that fit 32 bits.
use Rattle.std.specs.Prelude.{ℕ, ◌+◌, ◌-◌, ◌≤◌, All, List, IsUtf8, IfSome, slice_range}
use Rattle.dts_tokens.specs.declared.token.Token.{Token}
use Rattle.dts_tokens.specs.Tokens.{text_of}
use Rattle.dts_tree.specs.declared.rows.LabelRow.{LabelRow}
use Rattle.dts_tree.specs.declared.rows.NodeRow.{NodeRow}
use Rattle.dts_tree.specs.declared.rows.PropertyRow.{PropertyRow}
use Rattle.dts_tree.specs.declared.rows.ValueRow.{ValueRow}
use Rattle.dts_tree.specs.declared.rows.ValueRow.TheVariants as values
use Rattle.dts_tree.specs.Grown.{Tables}

-- the number of a node fits 32 bits
abbrev pub IsNumber : ℕ → Type 0
IsNumber node = node ≤ 4294967295

-- the bytes of a token are whole characters
abbrev pub IsSpelled : List ℕ → Token → Type 0
IsSpelled text token = IsUtf8 (text_of text token)

-- the bytes of a token between its first and its last are whole characters
abbrev pub IsQuoted : List ℕ → Token → Type 0
IsQuoted text token = IsUtf8 (slice_range text (token.from + 1) (token.to - 1))

-- a node's name is of whole characters, and its parent's number fits
abbrev pub HoldsNode : List ℕ → NodeRow → Type 0
HoldsNode text row = IsSpelled text row.name × IfSome row.parent IsNumber

-- a property's name is of whole characters
abbrev pub HoldsProperty : List ℕ → PropertyRow → Type 0
HoldsProperty text row = IsSpelled text row.name

-- a string is of whole characters
abbrev pub HoldsValue : List ℕ → ValueRow → Type 0
HoldsValue text (values.Text token) = IsQuoted text token
HoldsValue text (values.Cells part) = Unit {0}
HoldsValue text (values.Bytes part) = Unit {0}
HoldsValue text (values.Node place) = Unit {0}

-- the number of a label's node fits
abbrev pub HoldsLabel : LabelRow → Type 0
HoldsLabel row = IsNumber row.node

-- each row of the tables can be shown
abbrev pub Holds : List ℕ → Tables → Type 0
Holds text t = All (HoldsNode text) t.nodes × All (HoldsProperty text) t.properties × All (HoldsValue text) t.values × All HoldsLabel t.labels
