-- What each token does, by what may follow: the syntax, and what is refused where.
use Rattle.std.specs.Prelude.{ℕ, ◌+◌, ◌-◌, ◌*◌, Result, Ok, Err, List, [], ◌∷◌, length, if◌then◌else◌}
use Rattle.std.specs.Option.{option_map_or}
use Rattle.std.specs.Int.{is_in_range}
use Rattle.dts_tokens.specs.declared.token.Token.{Token}
use Rattle.dts_tokens.specs.Numbers.{number_up_to}
use Rattle.dts_tokens.specs.Tokens.{text_of}
use Rattle.dts_tree.specs.declared.fault.TreeFault.{TreeFault}
use Rattle.dts_tree.specs.declared.fault.TreeFault.TheVariants as faults
use Rattle.dts_tree.specs.declared.mark.Mark.{Mark}
use Rattle.dts_tree.specs.declared.mark.Mark.TheVariants as marks
use Rattle.dts_tree.specs.declared.rows.Begun.{Begun}
use Rattle.dts_tree.specs.declared.rows.Item.{Item}
use Rattle.dts_tree.specs.declared.rows.Item.TheVariants as items
use Rattle.dts_tree.specs.declared.rows.Phase.{Phase}
use Rattle.dts_tree.specs.declared.rows.Phase.TheVariants as phases
use Rattle.dts_tree.specs.declared.rows.ValueRow.TheVariants as values
use Rattle.dts_tree.specs.Grown.{Tables, ◌>>=◌, add_label, add_root, add_node, add_name, begun, end_property, add_value, add_item, add_items, add_reference}
use Rattle.dts_tree.specs.Marks.{mark_of, is_plain_name, is_node_name, are_bytes}
use Rattle.dts_tree.specs.State.{State}

-- this token can't stand here
abbrev pub wrong : {X : Type 0} → Token → Result X TreeFault
wrong token = Err (faults.Syntax token.line)

-- another phase
abbrev pub in_phase : Phase → State → State
in_phase phase s = record s { phase = phase }

-- another phase, and other tables
abbrev pub with_tables : Phase → State → Tables → State
with_tables phase s t = record s { phase = phase; tables = t }

-- `/dts-v1/` comes first
abbrev pub at_start : State → Token → Mark → Result State TreeFault
at_start s token marks.Version = Ok (in_phase phases.Versioned s)
at_start s token mark = wrong token

-- `;` comes behind `/dts-v1/`
abbrev pub at_versioned : State → Token → Mark → Result State TreeFault
at_versioned s token marks.Semicolon = Ok (in_phase phases.Top s)
at_versioned s token mark = wrong token

-- lines `/memreserve/` may come, then the root
abbrev pub at_top : State → Token → Mark → Result State TreeFault
at_top s token marks.Reserve = Ok (in_phase phases.Reserving s)
at_top s token marks.Slash = Ok (in_phase (phases.Rooted token) s)
at_top s token mark = wrong token

-- a number of a `/memreserve/`
abbrev pub at_reserve : List ℕ → Phase → State → Token → Result State TreeFault
at_reserve text next s token = option_map_or (λ n. Ok (in_phase next s)) (number_up_to 18446744073709551615 (text_of text token)) (wrong token)

-- `;` comes behind the two numbers of a `/memreserve/`
abbrev pub at_reserved : State → Token → Mark → Result State TreeFault
at_reserved s token marks.Semicolon = Ok (in_phase phases.Top s)
at_reserved s token mark = wrong token

-- `{` comes behind the root's `/`
abbrev pub at_rooted : Token → State → Token → Mark → Result State TreeFault
at_rooted root s token marks.OpenBrace = Ok (with_tables phases.Ready s (add_root root s.tables))
at_rooted root s token mark = wrong token

-- a label before a node or a property
unfoldable pub label : List ℕ → State → Token → Result State TreeFault
label text s token = add_label text token s.tables >>= λ t. Ok (with_tables phases.Labelled s t)

-- a name of a node or a property: which, the next sign tells
unfoldable pub name : List ℕ → State → Token → Result State TreeFault
name text s token = if is_node_name (text_of text token) then Ok (in_phase (phases.Named token) s) else wrong token

-- in an open node comes a label, a name, or its `}`
abbrev pub at_ready : List ℕ → State → Token → Mark → Result State TreeFault
at_ready text s token marks.Label = label text s token
at_ready text s token marks.Word = name text s token
at_ready text s token marks.Comma = name text s token
at_ready text s token marks.CloseBrace = Ok (in_phase phases.Closed s)
at_ready text s token mark = wrong token

-- behind a label comes another label or a name
abbrev pub at_labelled : List ℕ → State → Token → Mark → Result State TreeFault
at_labelled text s token marks.Label = label text s token
at_labelled text s token marks.Word = name text s token
at_labelled text s token marks.Comma = name text s token
at_labelled text s token mark = wrong token

-- a node begins, and is open
unfoldable pub enter : List ℕ → Token → State → Result State TreeFault
enter text w s = add_node text s.here (length s.above) w s.tables >>= λ t. Ok (record { phase = phases.Ready; here = length s.tables.nodes; above = s.here ∷ s.above; tables = t })

-- the name of a property, which has no `@`
unfoldable pub open_property : List ℕ → Token → State → Token → Result Tables TreeFault
open_property text w s token = if is_plain_name (text_of text w) then add_name text s.here w s.tables else wrong token

-- the end of a property
unfoldable pub finish : List ℕ → Begun → State → Result State TreeFault
finish text p s = end_property text s.here p s.tables >>= λ t. Ok (with_tables phases.Ready s t)

-- a property without a value
unfoldable pub bare : List ℕ → Token → State → Token → Result State TreeFault
bare text w s token = open_property text w s token >>= λ t. finish text (begun w t) (with_tables phases.Ready s t)

-- a property with values
unfoldable pub begin : List ℕ → Token → State → Token → Result State TreeFault
begin text w s token = open_property text w s token >>= λ t. Ok (with_tables (phases.Wanting (begun w t)) s t)

-- behind a name comes the `{` of a node, the `;` of a property without a value, or the `=` of one with values
abbrev pub at_named : List ℕ → Token → State → Token → Mark → Result State TreeFault
at_named text w s token marks.OpenBrace = enter text w s
at_named text w s token marks.Semicolon = bare text w s token
at_named text w s token marks.Equals = begin text w s token
at_named text w s token mark = wrong token

-- a value begins
abbrev pub at_wanting : Begun → State → Token → Mark → Result State TreeFault
at_wanting p s token marks.Text = Ok (with_tables (phases.Valued p) s (add_value (values.Text token) s.tables))
at_wanting p s token marks.Reference = Ok (with_tables (phases.Valued p) s (add_reference token (add_value (values.Node (length s.tables.references)) s.tables)))
at_wanting p s token marks.Less = Ok (in_phase (phases.InCells p (length s.tables.items)) s)
at_wanting p s token marks.OpenBracket = Ok (in_phase (phases.InBytes p (length s.tables.items)) s)
at_wanting p s token mark = wrong token

-- a number in cells
unfoldable pub cell : List ℕ → State → Token → Result State TreeFault
cell text s token = option_map_or (λ n. Ok (record s { tables = add_item (items.Number (record { value = n; word = token })) s.tables })) (number_up_to 4294967295 (text_of text token)) (wrong token)

-- between `<` and `>` come numbers and references
abbrev pub at_cells : List ℕ → Begun → ℕ → State → Token → Mark → Result State TreeFault
at_cells text p from s token marks.Word = cell text s token
at_cells text p from s token marks.Reference = Ok (record s { tables = add_reference token (add_item (items.Reference (length s.tables.references)) s.tables) })
at_cells text p from s token marks.Greater = Ok (with_tables (phases.Valued p) s (add_value (values.Cells (record { from = from; to = length s.tables.items })) s.tables))
at_cells text p from s token mark = wrong token

-- the value of a hexadecimal digit
abbrev pub hex_value : ℕ → ℕ
hex_value b = if is_in_range 48 57 b then b - 48 else (if is_in_range 97 102 b then b - 87 else (if is_in_range 65 70 b then b - 55 else 0))

-- the bytes that pairs of hexadecimal digits write
abbrev pub bytes_of : List ℕ → List Item
bytes_of (high ∷ low ∷ rest) = items.Byte (16 * hex_value high + hex_value low) ∷ bytes_of rest
bytes_of others = []

-- a word of bytes
unfoldable pub bytes : List ℕ → State → Token → Result State TreeFault
bytes text s token = if are_bytes (text_of text token) then Ok (record s { tables = add_items (bytes_of (text_of text token)) s.tables }) else wrong token

-- between `[` and `]` come words of bytes
abbrev pub at_bytes : List ℕ → Begun → ℕ → State → Token → Mark → Result State TreeFault
at_bytes text p from s token marks.Word = bytes text s token
at_bytes text p from s token marks.CloseBracket = Ok (with_tables (phases.Valued p) s (add_value (values.Bytes (record { from = from; to = length s.tables.items })) s.tables))
at_bytes text p from s token mark = wrong token

-- behind a value comes a comma and another, or the `;` of the property
abbrev pub at_valued : List ℕ → Begun → State → Token → Mark → Result State TreeFault
at_valued text p s token marks.Comma = Ok (in_phase (phases.Wanting p) s)
at_valued text p s token marks.Semicolon = finish text p s
at_valued text p s token mark = wrong token

-- a node ends; the one above it is open again, if there is one
unfoldable pub leave : List ℕ → State → State
leave [] s = in_phase phases.Done s
leave (parent ∷ above) s = record s { phase = phases.Ready; here = parent; above = above }

-- `;` comes behind the `}` of a node
abbrev pub at_closed : State → Token → Mark → Result State TreeFault
at_closed s token marks.Semicolon = Ok (leave s.above s)
at_closed s token mark = wrong token

-- what the token does in this phase
unfoldable pub step_in : List ℕ → Phase → State → Token → Mark → Result State TreeFault
step_in text phases.Start s token mark = at_start s token mark
step_in text phases.Versioned s token mark = at_versioned s token mark
step_in text phases.Top s token mark = at_top s token mark
step_in text phases.Reserving s token mark = at_reserve text phases.ReservedFrom s token
step_in text phases.ReservedFrom s token mark = at_reserve text phases.ReservedTo s token
step_in text phases.ReservedTo s token mark = at_reserved s token mark
step_in text (phases.Rooted root) s token mark = at_rooted root s token mark
step_in text phases.Ready s token mark = at_ready text s token mark
step_in text phases.Labelled s token mark = at_labelled text s token mark
step_in text (phases.Named w) s token mark = at_named text w s token mark
step_in text (phases.Wanting p) s token mark = at_wanting p s token mark
step_in text (phases.InCells p from) s token mark = at_cells text p from s token mark
step_in text (phases.InBytes p from) s token mark = at_bytes text p from s token mark
step_in text (phases.Valued p) s token mark = at_valued text p s token mark
step_in text phases.Closed s token mark = at_closed s token mark
step_in text phases.Done s token mark = wrong token

-- what a token does
unfoldable pub step : List ℕ → State → Token → Result State TreeFault
step text s token = step_in text s.phase s token (mark_of (text_of text token))

-- the tokens one after another, to the first that is refused
unfoldable pub run : List ℕ → List Token → State → Result State TreeFault
run text [] s = Ok s
run text (token ∷ tokens) s = step text s token >>= run text tokens
