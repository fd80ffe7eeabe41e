-- What is loaded, one node more.
use Rattle.std.proofs.Common.{◌≡◌, ℕ, ◌+◌, List, [], ◌++◌, Option, Some, None, refl, sym, ap, ◌∙◌}
use Rattle.std.specs.Prelude.{slice_get}
use Rattle.std.specs.Option.{option_map_or, option_to_list}
use Rattle.std.proofs.lemmas.List.{append-nil}
use Rattle.clk_base.specs.Description.{Description}
use Rattle.dts_tree.specs.Tree.{SeenNode}
use Rattle.dts_bindings.specs.Binding.{SeenBinding}
use Rattle.dts_clocks.specs.Assigned.{SeenAssigned, assigned_of}
use Rattle.dts_clocks.specs.Clocks.{binding_at}
use Rattle.dts_clocks.specs.Consumers.{SeenConsumer}
use Rattle.dts_clocks.specs.Joined.{joined}
use Rattle.dts_clocks.specs.Loaded.{SeenLoaded, defs_with, defs_at, lines_with, lines_at, consumers_at, assigned_at, loaded_before}
use Rattle.dts_clocks.specs.SecondPass.{Links, links_at}
use Rattle.dts_clocks.proofs.Joins.{joined-more, joined-none}

abbrev pub loaded_with : Description → List ℕ → List SeenConsumer → List SeenAssigned → SeenLoaded
loaded_with defs lines consumers assigned = record { defs = defs; lines = lines; consumers = consumers; assigned = assigned }

joined_next : {X : Type 0} (f : ℕ → List X) (old new here : List X) (n : ℕ) → old ≡ joined f n → here ≡ f n → new ≡ old ++ here → new ≡ joined f (n + 1)
joined_next f old new here n so_far is pushed = pushed ∙ (ap (λ xs. xs ++ here) so_far ∙ (ap (λ xs. joined f n ++ xs) is ∙ sym (joined-more f n)))

joined_same : {X : Type 0} (f : ℕ → List X) (n : ℕ) → f n ≡ [] → joined f (n + 1) ≡ joined f n
joined_same f n none = joined-more f n ∙ (ap (λ xs. joined f n ++ xs) none ∙ append-nil (joined f n))

all_same : (a d : Description) (b e : List ℕ) (c f : List SeenConsumer) (g h : List SeenAssigned) → a ≡ d → b ≡ e → c ≡ f → g ≡ h → loaded_with a b c g ≡ loaded_with d e f h
all_same a d b e c f g h one two three four =
    ap (λ x. loaded_with x b c g) one ∙ (ap (λ x. loaded_with d x c g) two ∙ (ap (λ x. loaded_with d e x g) three ∙ ap (λ x. loaded_with d e f x) four))

pub defs_here : (nodes : List SeenNode) (k : ℕ) (l : Links) (b : Option SeenBinding) → Some l ≡ links_at nodes k → b ≡ binding_at nodes k → option_map_or (defs_with l.parents) b [] ≡ defs_at nodes k
unfolding defs_at
defs_here nodes k l b linked bound = rw (← linked, ← bound) refl

lines_here : (nodes : List SeenNode) (k : ℕ) (node : SeenNode) (l : Links) (b : Option SeenBinding) → slice_get nodes k ≡ Some node → Some l ≡ links_at nodes k → b ≡ binding_at nodes k → option_map_or (lines_with node.line) b [] ≡ lines_at nodes k
unfolding lines_at
lines_here nodes k node l b at linked bound = rw (← linked, at, ← bound) refl

consumers_here : (nodes : List SeenNode) (k : ℕ) (l : Links) → Some l ≡ links_at nodes k → option_to_list l.consumer ≡ consumers_at nodes k
unfolding consumers_at
consumers_here nodes k l linked = rw (← linked) refl

assigned_here : (nodes : List SeenNode) (k : ℕ) (node : SeenNode) (l : Links) → slice_get nodes k ≡ Some node → Some l ≡ links_at nodes k → option_to_list (assigned_of node l.lists) ≡ assigned_at nodes k
unfolding assigned_at
assigned_here nodes k node l at linked = rw (← linked, at) refl

-- a node that isn't passed over
pub loaded_more : (nodes : List SeenNode) (k : ℕ) (node : SeenNode) (l : Links) (b : Option SeenBinding) (old new : SeenLoaded) → slice_get nodes k ≡ Some node → Some l ≡ links_at nodes k → b ≡ binding_at nodes k → old ≡ loaded_before nodes k
    → new.defs ≡ old.defs ++ option_map_or (defs_with l.parents) b [] → new.lines ≡ old.lines ++ option_map_or (lines_with node.line) b [] → new.consumers ≡ old.consumers ++ option_to_list l.consumer
    → new.assigned ≡ old.assigned ++ option_to_list (assigned_of node l.lists) → new ≡ loaded_before nodes (k + 1)
unfolding loaded_before
loaded_more nodes k node l b old new at linked bound so_far defs lines consumers assigned =
    all_same new.defs (joined (defs_at nodes) (k + 1)) new.lines (joined (lines_at nodes) (k + 1)) new.consumers (joined (consumers_at nodes) (k + 1)) new.assigned (joined (assigned_at nodes) (k + 1))
    (joined_next (defs_at nodes) old.defs new.defs _ k (ap (λ (x : SeenLoaded). x.defs) so_far) (defs_here nodes k l b linked bound) defs)
    (joined_next (lines_at nodes) old.lines new.lines _ k (ap (λ (x : SeenLoaded). x.lines) so_far) (lines_here nodes k node l b at linked bound) lines)
    (joined_next (consumers_at nodes) old.consumers new.consumers _ k (ap (λ (x : SeenLoaded). x.consumers) so_far) (consumers_here nodes k l linked) consumers)
    (joined_next (assigned_at nodes) old.assigned new.assigned _ k (ap (λ (x : SeenLoaded). x.assigned) so_far) (assigned_here nodes k node l at linked) assigned)

no_defs : (nodes : List SeenNode) (k : ℕ) → None ≡ links_at nodes k → defs_at nodes k ≡ []
unfolding defs_at
no_defs nodes k none = rw (← none) refl

no_lines : (nodes : List SeenNode) (k : ℕ) → None ≡ links_at nodes k → lines_at nodes k ≡ []
unfolding lines_at
no_lines nodes k none = rw (← none) refl

no_consumers : (nodes : List SeenNode) (k : ℕ) → None ≡ links_at nodes k → consumers_at nodes k ≡ []
unfolding consumers_at
no_consumers nodes k none = rw (← none) refl

no_assigned : (nodes : List SeenNode) (k : ℕ) → None ≡ links_at nodes k → assigned_at nodes k ≡ []
unfolding assigned_at
no_assigned nodes k none = rw (← none) refl

-- a node that is passed over
pub loaded_same : (nodes : List SeenNode) (k : ℕ) (old : SeenLoaded) → None ≡ links_at nodes k → old ≡ loaded_before nodes k → old ≡ loaded_before nodes (k + 1)
unfolding loaded_before
loaded_same nodes k old none so_far =
    so_far ∙ sym (all_same (joined (defs_at nodes) (k + 1)) (joined (defs_at nodes) k) (joined (lines_at nodes) (k + 1)) (joined (lines_at nodes) k) (joined (consumers_at nodes) (k + 1)) (joined (consumers_at nodes) k) (joined (assigned_at nodes) (k + 1)) (joined (assigned_at nodes) k)
    (joined_same (defs_at nodes) k (no_defs nodes k none)) (joined_same (lines_at nodes) k (no_lines nodes k none)) (joined_same (consumers_at nodes) k (no_consumers nodes k none)) (joined_same (assigned_at nodes) k (no_assigned nodes k none)))

pub loaded_none : (nodes : List SeenNode) (loaded : SeenLoaded) → loaded.defs ≡ [] → loaded.lines ≡ [] → loaded.consumers ≡ [] → loaded.assigned ≡ [] → loaded ≡ loaded_before nodes 0
unfolding loaded_before
loaded_none nodes loaded a b c d =
    all_same loaded.defs (joined (defs_at nodes) 0) loaded.lines (joined (lines_at nodes) 0) loaded.consumers (joined (consumers_at nodes) 0) loaded.assigned (joined (assigned_at nodes) 0)
    (a ∙ sym (joined-none (defs_at nodes))) (b ∙ sym (joined-none (lines_at nodes))) (c ∙ sym (joined-none (consumers_at nodes))) (d ∙ sym (joined-none (assigned_at nodes)))
