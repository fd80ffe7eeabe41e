-- The grammar: syntax trees, and the tokens that spell them.
use Rattle.std.specs.Prelude.{◌≡◌, ◌⊎◌, ℕ, true, All, List, [], ◌∷◌, ◌++◌}
use Rattle.std.specs.Option.{is_some}
use Rattle.dts_tokens.specs.declared.token.Token.{Token}
use Rattle.dts_tokens.specs.Numbers.{number_up_to}
use Rattle.dts_tokens.specs.Tokens.{text_of}
use Rattle.dts_tree.specs.declared.mark.Mark.{Mark}
use Rattle.dts_tree.specs.declared.mark.Mark.TheVariants as marks
use Rattle.dts_tree.specs.Marks.{mark_of, is_plain_name, is_node_name, are_bytes}

-- a value: a string, a reference, cells in `<` and `>`, or bytes in `[` and `]`
pub data Value : Type 0 where
  Text : Token → Value
  Target : Token → Value
  Cells : Token → List Token → Token → Value
  Bytes : Token → List Token → Token → Value

-- values with commas between
pub data Values : Type 0 where
  Last : Value → Values
  More : Value → Token → Values → Values

-- what stands in a node: nothing, or first a child (labels, name, `{`, what stands in it, `}`, `;`), a property without a value (labels, name, `;`), or one with values (labels, name, `=`, values, `;`), and then the rest
pub data Body : Type 0 where
  Empty : Body
  Child : List Token → Token → Token → Body → Token → Token → Body → Body
  Bare : List Token → Token → Token → Body → Body
  Property : List Token → Token → Token → Values → Token → Body → Body

-- lines `/memreserve/`, each with two numbers and `;`
pub data Reserves : Type 0 where
  NoLine : Reserves
  Line : Token → Token → Token → Token → Reserves → Reserves

-- a source: `/dts-v1/`, `;`, lines `/memreserve/`, and the root (`/`, `{`, what stands in it, `}`, `;`)
pub record Source : Type 0 where
  pub version : Token
  pub version_end : Token
  pub reserves : Reserves
  pub root : Token
  pub front : Token
  pub body : Body
  pub close : Token
  pub end : Token

-- the tokens that spell a value
abbrev pub spell_value : Value → List Token
spell_value (Text t) = t ∷ []
spell_value (Target t) = t ∷ []
spell_value (Cells front items close) = front ∷ (items ++ (close ∷ []))
spell_value (Bytes front items close) = front ∷ (items ++ (close ∷ []))

-- the tokens that spell values, with the commas between
abbrev pub spell_values : Values → List Token
spell_values (Last v) = spell_value v
spell_values (More v comma vs) = spell_value v ++ (comma ∷ spell_values vs)

-- the tokens that spell what stands in a node
abbrev pub spell_body : Body → List Token
spell_body Empty = []
spell_body (Child labels name front inside close end rest) = labels ++ (name ∷ front ∷ (spell_body inside ++ (close ∷ end ∷ spell_body rest)))
spell_body (Bare labels name end rest) = labels ++ (name ∷ end ∷ spell_body rest)
spell_body (Property labels name equals vs end rest) = labels ++ (name ∷ equals ∷ (spell_values vs ++ (end ∷ spell_body rest)))

-- the tokens that spell lines `/memreserve/`
abbrev pub spell_reserves : Reserves → List Token
spell_reserves NoLine = []
spell_reserves (Line reserve from length end rest) = reserve ∷ from ∷ length ∷ end ∷ spell_reserves rest

-- the tokens that spell a source
abbrev pub spelling : Source → List Token
spelling s = s.version ∷ s.version_end ∷ (spell_reserves s.reserves ++ (s.root ∷ s.front ∷ (spell_body s.body ++ (s.close ∷ s.end ∷ []))))

-- the token is of this kind
abbrev pub Is : List ℕ → Mark → Token → Type 0
Is text mark token = mark_of (text_of text token) ≡ mark

-- a name; a comma by itself is one
abbrev pub IsName : List ℕ → Token → Type 0
IsName text token = (Is text marks.Word token ⊎ Is text marks.Comma token) × (is_node_name (text_of text token) ≡ true)

-- a property's name has no unit address
abbrev pub IsPropertyName : List ℕ → Token → Type 0
IsPropertyName text token = IsName text token × (is_plain_name (text_of text token) ≡ true)

-- a number that is no greater than this one
abbrev pub IsNumeral : List ℕ → ℕ → Token → Type 0
IsNumeral text most token = is_some (number_up_to most (text_of text token)) ≡ true

-- a cell is a number of 32 bits or a reference
abbrev pub IsCell : List ℕ → Token → Type 0
IsCell text token = (Is text marks.Word token × IsNumeral text 4294967295 token) ⊎ Is text marks.Reference token

-- a word of pairs of hexadecimal digits
abbrev pub IsByteString : List ℕ → Token → Type 0
IsByteString text token = Is text marks.Word token × (are_bytes (text_of text token) ≡ true)

-- each token of a value is what its place asks for
abbrev pub FitsValue : List ℕ → Value → Type 0
FitsValue text (Text t) = Is text marks.Text t
FitsValue text (Target t) = Is text marks.Reference t
FitsValue text (Cells front items close) = Is text marks.Less front × All (IsCell text) items × Is text marks.Greater close
FitsValue text (Bytes front items close) = Is text marks.OpenBracket front × All (IsByteString text) items × Is text marks.CloseBracket close

-- each value is well formed, with commas between
abbrev pub FitsValues : List ℕ → Values → Type 0
FitsValues text (Last v) = FitsValue text v
FitsValues text (More v comma vs) = FitsValue text v × Is text marks.Comma comma × FitsValues text vs

-- each token of what stands in a node is what its place asks for
abbrev pub FitsBody : List ℕ → Body → Type 0
FitsBody text Empty = Unit {0}
FitsBody text (Child labels name front inside close end rest) =
    All (Is text marks.Label) labels × IsName text name × Is text marks.OpenBrace front × FitsBody text inside × Is text marks.CloseBrace close × Is text marks.Semicolon end × FitsBody text rest
FitsBody text (Bare labels name end rest) = All (Is text marks.Label) labels × IsPropertyName text name × Is text marks.Semicolon end × FitsBody text rest
FitsBody text (Property labels name equals vs end rest) =
    All (Is text marks.Label) labels × IsPropertyName text name × Is text marks.Equals equals × FitsValues text vs × Is text marks.Semicolon end × FitsBody text rest

-- each line `/memreserve/` has two numbers of 64 bits and `;`
abbrev pub FitsReserves : List ℕ → Reserves → Type 0
FitsReserves text NoLine = Unit {0}
FitsReserves text (Line reserve from length end rest) =
    Is text marks.Reserve reserve × IsNumeral text 18446744073709551615 from × IsNumeral text 18446744073709551615 length × Is text marks.Semicolon end × FitsReserves text rest

-- each token of a source is what its place asks for
abbrev pub FitsSource : List ℕ → Source → Type 0
FitsSource text s =
    Is text marks.Version s.version × Is text marks.Semicolon s.version_end × FitsReserves text s.reserves × Is text marks.Slash s.root × Is text marks.OpenBrace s.front
    × FitsBody text s.body × Is text marks.CloseBrace s.close × Is text marks.Semicolon s.end

-- the tokens are spelled by a syntax tree
abbrev pub IsSpelledBySource : List ℕ → List Token → Type 0
IsSpelledBySource text tokens = (s : Source) × FitsSource text s × (tokens ≡ spelling s)
