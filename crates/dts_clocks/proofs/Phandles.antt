-- Nodes by their phandles.
use Rattle.std.proofs.Common.{◌≡◌, ℕ, ◌+◌, ◌≤◌, false, cond, List, length, get_or, take, Option, Some, None, ap, sym, ◌∙◌}
use Rattle.std.specs.Prelude.{◌==◌, slice_get}
use Rattle.std.specs.Option.{option_or, option_map_or}
use Rattle.std.proofs.lemmas.List.{take_all}
use Rattle.std.proofs.lemmas.Option.{same_Some, slice_get_within, slice_get-get_or}
use Rattle.dts_tree.specs.Tree.{SeenNode}
use Rattle.dts_bindings.specs.Properties.{phandle_of}
use Rattle.dts_clocks.specs.References.{has_phandle, node_of_phandle}
use Rattle.dts_clocks.proofs.Places.{position_more}

-- one node more
pub phandle_more : (nodes : List SeenNode) (k : ℕ) (node : SeenNode) (phandle old new : Option ℕ) (v : ℕ) → slice_get nodes k ≡ Some node → phandle ≡ phandle_of node
    → old ≡ node_of_phandle (take k nodes) v → new ≡ option_or old (cond (option_map_or (λ p. p == v) phandle false) (Some k) None) → new ≡ node_of_phandle (take (k + 1) nodes) v
unfolding node_of_phandle has_phandle
phandle_more nodes k node phandle old new v at told before now =
    let low = slice_get_within nodes k node at in
    let here : node ≡ get_or nodes k node = same_Some node (get_or nodes k node) (sym at ∙ slice_get-get_or nodes k node low) in
    now ∙ (ap (λ o. option_or o (cond (option_map_or (λ p. p == v) phandle false) (Some k) None)) before
    ∙ (ap (λ o. option_or (node_of_phandle (take k nodes) v) (cond (option_map_or (λ p. p == v) o false) (Some k) None)) (told ∙ ap phandle_of here)
    ∙ sym (position_more (has_phandle v) nodes k node low)))

pub phandle_all : (nodes : List SeenNode) (k v : ℕ) (o : Option ℕ) → length nodes ≤ k → o ≡ node_of_phandle (take k nodes) v → o ≡ node_of_phandle nodes v
phandle_all nodes k v o all h = h ∙ ap (λ xs. node_of_phandle xs v) (take_all k nodes all)
