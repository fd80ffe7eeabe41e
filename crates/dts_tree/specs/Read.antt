-- What tokens spell: all that the reader finds, or the first refusal.
use Rattle.std.specs.Prelude.{ℕ, Bool, true, false, Option, Some, None, Result, Ok, Err, List, [], ◌∷◌, if◌then◌else◌}
use Rattle.dts_tokens.specs.declared.token.Token.{Token}
use Rattle.dts_tokens.specs.Tokens.{text_of}
use Rattle.dts_tree.specs.declared.fault.TreeFault.{TreeFault}
use Rattle.dts_tree.specs.declared.fault.TreeFault.TheVariants as faults
use Rattle.dts_tree.specs.declared.rows.LabelRow.{LabelRow}
use Rattle.dts_tree.specs.declared.rows.Phase.{Phase}
use Rattle.dts_tree.specs.declared.rows.Phase.TheVariants as phases
use Rattle.dts_tree.specs.Grown.{◌>>=◌}
use Rattle.dts_tree.specs.State.{State}
use Rattle.dts_tree.specs.Steps.{run}
use Rattle.dts_tree.specs.Taken.{Name, name_in, same_name}

-- nothing was read
abbrev pub opening : State
opening = record {
  phase = phases.Start;
  here = 0;
  above = [];
  tables = record {
    nodes = [];
    properties = [];
    values = [];
    items = [];
    pending = [];
    labels = [];
    references = [];
    phandles = [];
    children = [];
    named = [];
    marked = [];
  };
}

-- the line of the last token; where there is none, the first line
abbrev pub last_line : ℕ → List Token → ℕ
last_line line [] = line
last_line line (token ∷ tokens) = last_line token.line tokens

-- the source may end behind the root's `;` alone
abbrev pub is_end : Phase → Bool
is_end phases.Done = true
is_end phase = false

-- a source that is whole when its tokens end, or the refusal at the last of them
abbrev pub ended : List Token → State → Result State TreeFault
ended tokens s = if is_end s.phase then Ok s else Err (faults.Syntax (last_line 1 tokens))

-- what the reader finds, or the first token that can't go on
unfoldable pub read : List ℕ → List Token → Result State TreeFault
read text tokens = run text tokens opening >>= ended tokens

-- the second where the first isn't there
abbrev pub or_else : {X : Type 0} → Option X → Option X → Option X
or_else (Some x) other = Some x
or_else None other = other

-- the node that a label names; labels stand once, so it makes no difference which of them is taken
abbrev pub node_of : List ℕ → List LabelRow → Name → Option ℕ
node_of text [] name = None
node_of text (row ∷ rows) name = or_else (node_of text rows name) (if same_name (name_in 0 (text_of text row.name)) name then Some row.node else None)

-- the node that a reference means, or none
abbrev pub target : List ℕ → List LabelRow → Token → Result ℕ TreeFault
target text rows token = elim (node_of text rows (name_in 0 (text_of text token))) [ None ↦ Err (faults.NoSuchLabel token.line) | Some node ↦ Ok node ]

-- the nodes that references mean, or the first that means none
abbrev pub targets : List ℕ → List LabelRow → List Token → Result (List ℕ) TreeFault
targets text rows [] = Ok []
targets text rows (token ∷ tokens) = target text rows token >>= λ node. targets text rows tokens >>= λ nodes. Ok (node ∷ nodes)
