-- The tables of what was found, and how they grow.
use Rattle.std.specs.Prelude.{ℕ, ◌+◌, ◌-◌, ◌==◌, ◌&&◌, nat_le, Bool, true, false, Option, Some, None, Result, Ok, Err, List, [], ◌∷◌, ◌++◌, length, drop, map, codes, if◌then◌else◌}
use Rattle.std.specs.List.{list_all, list_any}
use Rattle.std.specs.Str.{bytes_eq}
use Rattle.dts_tokens.specs.declared.token.Token.{Token}
use Rattle.dts_tokens.specs.Tokens.{text_of}
use Rattle.dts_tree.specs.declared.fault.TreeFault.{TreeFault}
use Rattle.dts_tree.specs.declared.fault.TreeFault.TheVariants as faults
use Rattle.dts_tree.specs.declared.rows.Begun.{Begun}
use Rattle.dts_tree.specs.declared.rows.Item.{Item}
use Rattle.dts_tree.specs.declared.rows.Item.TheVariants as items
use Rattle.dts_tree.specs.declared.rows.LabelRow.{LabelRow}
use Rattle.dts_tree.specs.declared.rows.NodeRow.{NodeRow}
use Rattle.dts_tree.specs.declared.rows.Numeral.{Numeral}
use Rattle.dts_tree.specs.declared.rows.PropertyRow.{PropertyRow}
use Rattle.dts_tree.specs.declared.rows.ValueRow.{ValueRow}
use Rattle.dts_tree.specs.declared.rows.ValueRow.TheVariants as values
use Rattle.dts_tree.specs.Taken.{Name, is_taken, name_in}

-- all that was found: nodes, properties, values and what stands in them, in order; the labels whose node or property isn't known yet, and those of nodes; references; and the names and phandles that are taken
pub record Tables : Type 0 where
  pub nodes : List NodeRow
  pub properties : List PropertyRow
  pub values : List ValueRow
  pub items : List Item
  pub pending : List Token
  pub labels : List LabelRow
  pub references : List Token
  pub phandles : List ℕ
  pub children : List Name
  pub named : List Name
  pub marked : List Name

infixl 10 ◌>>=◌
-- what is found goes on; what is refused stays refused
abbrev pub ◌>>=◌ : {X Y : Type 0} → Result X TreeFault → (X → Result Y TreeFault) → Result Y TreeFault
Ok x >>= f = f x
Err e >>= f = Err e

-- the label of a token `name:`
abbrev pub label_of : Token → Token
label_of token = record { from = token.from; to = token.to - 1; line = token.line }

-- the label of a token `&name`
abbrev pub target_of : Token → Token
target_of token = record { from = token.from + 1; to = token.to; line = token.line }

-- one label more; a label stands once
unfoldable pub add_label : List ℕ → Token → Tables → Result Tables TreeFault
add_label text token t =
    let name = name_in 0 (text_of text (label_of token)) in
    if is_taken name t.marked then Err (faults.TwiceDefined token.line)
    else Ok (record t { pending = t.pending ++ label_of token ∷ []; marked = t.marked ++ name ∷ [] })

-- the labels that stood before a node are its own
abbrev pub owned_by : ℕ → Token → LabelRow
owned_by node name = record { name = name; node = node }

-- the root: a node with no parent
unfoldable pub add_root : Token → Tables → Tables
add_root token t = record t { nodes = t.nodes ++ record { name = token; parent = None } ∷ [] }

-- one node more in the node of a number, which has so many above it; a parent has one node of a name, and nodes nest 64 deep
unfoldable pub add_node : List ℕ → ℕ → ℕ → Token → Tables → Result Tables TreeFault
add_node text here above token t =
    let name = name_in here (text_of text token) in
    if is_taken name t.children then Err (faults.TwiceDefined token.line)
    else (if nat_le 63 above then Err (faults.TooDeep token.line)
    else Ok (record t {
      nodes = t.nodes ++ record { name = token; parent = Some here } ∷ [];
      pending = [];
      labels = t.labels ++ map (owned_by (length t.nodes)) t.pending;
      children = t.children ++ name ∷ [];
    }))

-- the name of one property more; a node has one property of a name
unfoldable pub add_name : List ℕ → ℕ → Token → Tables → Result Tables TreeFault
add_name text here token t =
    let name = name_in here (text_of text token) in
    if is_taken name t.named then Err (faults.TwiceDefined token.line)
    else Ok (record t { named = t.named ++ name ∷ [] })

-- the property that begins with this name
abbrev pub begun : Token → Tables → Begun
begun token t = record { name = token; values = length t.values; items = length t.items }

-- the only number of these items, if they are one number
abbrev pub only_number : List Item → Option Numeral
only_number (items.Number n ∷ []) = Some n
only_number others = None

-- the value is cells
abbrev pub is_cells : ValueRow → Bool
is_cells (values.Cells part) = true
is_cells others = false

-- a property `phandle` whose cells are one number
unfoldable pub phandle_of : List ℕ → Begun → Tables → Option Numeral
phandle_of text p t =
    if bytes_eq (text_of text p.name) (codes "phandle") && list_all is_cells (drop p.values t.values) then only_number (drop p.items t.items) else None

-- a phandle stands once
abbrev pub add_phandle : Option Numeral → Tables → Result Tables TreeFault
add_phandle None t = Ok t
add_phandle (Some n) t = if list_any (λ other. n.value == other) t.phandles then Err (faults.TwiceDefined n.word.line) else Ok (record t { phandles = t.phandles ++ n.value ∷ [] })

-- the property is whole; its labels name no node
abbrev pub add_property : ℕ → Begun → Tables → Tables
add_property here p t = record t {
  properties = t.properties ++ record { node = here; name = p.name; from = p.values; to = length t.values } ∷ [];
  pending = [];
}

-- the end of a property
unfoldable pub end_property : List ℕ → ℕ → Begun → Tables → Result Tables TreeFault
end_property text here p t = add_phandle (phandle_of text p t) t >>= λ u. Ok (add_property here p u)

-- one value more
abbrev pub add_value : ValueRow → Tables → Tables
add_value value t = record t { values = t.values ++ value ∷ [] }

-- one item more
abbrev pub add_item : Item → Tables → Tables
add_item item t = record t { items = t.items ++ item ∷ [] }

-- more items, in order
abbrev pub add_items : List Item → Tables → Tables
add_items more t = record t { items = t.items ++ more }

-- one reference more, by its label
abbrev pub add_reference : Token → Tables → Tables
add_reference token t = record t { references = t.references ++ target_of token ∷ [] }
