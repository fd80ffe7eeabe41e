-- What was read so far.
use Rattle.std.specs.Prelude.{ℕ, List, map, reverse}
use Rattle.dts_tree.specs.declared.reader.Reader.{Reader}
use Rattle.dts_tree.specs.declared.rows.Phase.{Phase}
use Rattle.dts_tree.specs.Grown.{Tables}
use Rattle.dts_tree.specs.Taken.{taken_of}

-- what may follow, the node that is open, those above it, the nearest first, and all that was found
pub record State : Type 0 where
  pub phase : Phase
  pub here : ℕ
  pub above : List ℕ
  pub tables : Tables

-- what the reader has read
abbrev pub state_of : Reader → State
state_of r = record {
  phase = r.phase;
  here = r.here;
  above = reverse r.above.items;
  tables = record {
    nodes = r.nodes.items;
    properties = r.properties.items;
    values = r.values.items;
    items = r.items.items;
    pending = r.pending.items;
    labels = r.labels.items;
    references = r.references.items;
    phandles = r.phandles.keys;
    children = map taken_of r.children.keys;
    named = map taken_of r.named.keys;
    marked = map taken_of r.marked.keys;
  };
}
