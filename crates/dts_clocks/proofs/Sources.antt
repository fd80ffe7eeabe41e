-- Nodes as providers that a specifier may refer to.
use Rattle.std.proofs.Common.{◌≡◌, ℕ, ◌≤◌, Bool, true, false, not, cond, List, length, Option, Some, refl, ap, sym, ◌∙◌}
use Rattle.std.specs.Prelude.{◌&&◌, slice_get}
use Rattle.std.proofs.lemmas.Option.{slice_get_past}
use Rattle.dts_tree.specs.Tree.{SeenNode}
use Rattle.dts_bindings.specs.Properties.{is_provider, clock_cells_of}
use Rattle.dts_clocks.specs.declared.reference.Reference.{Reference}
use Rattle.dts_clocks.specs.declared.reference.Reference.TheVariants.{Lacking}
use Rattle.dts_clocks.specs.Above.{is_passed}
use Rattle.dts_clocks.specs.References.{source_by, source_at}

-- by what is known of the node
source_at-node : (nodes : List SeenNode) (k : ℕ) (node : SeenNode) (provides passed : Bool) → slice_get nodes k ≡ Some node → provides ≡ is_provider node → passed ≡ is_passed nodes k
    → source_at nodes k ≡ cond (provides && not passed) (source_by k (clock_cells_of node)) Lacking
unfolding source_at
source_at-node nodes k node provides passed at told off = rw (at, ← told, ← off) refl

pub source_at-none : (nodes : List SeenNode) (k : ℕ) (node : SeenNode) (provides : Bool) → slice_get nodes k ≡ Some node → provides ≡ is_provider node → provides ≡ false → Lacking ≡ source_at nodes k
source_at-none nodes k node provides at told lacks =
    sym (source_at-node nodes k node provides (is_passed nodes k) at told refl ∙ ap (λ b. cond (b && not (is_passed nodes k)) (source_by k (clock_cells_of node)) Lacking) lacks)

both : (r : Reference) (a b : Bool) → a ≡ true → b ≡ true → cond (a && not b) r Lacking ≡ Lacking
both r a b e f = rw (e, f) refl

source_and : (r : Reference) (a b : Bool) → a ≡ true → b ≡ false → cond (a && not b) r Lacking ≡ r
source_and r a b e f = rw (e, f) refl

pub source_at-passed : (nodes : List SeenNode) (k : ℕ) (node : SeenNode) (provides passed : Bool) → slice_get nodes k ≡ Some node → provides ≡ is_provider node → passed ≡ is_passed nodes k → provides ≡ true → passed ≡ true → Lacking ≡ source_at nodes k
source_at-passed nodes k node provides passed at told off has gone = sym (source_at-node nodes k node provides passed at told off ∙ both _ provides passed has gone)

pub source_at-there : (nodes : List SeenNode) (k : ℕ) (node : SeenNode) (provides passed : Bool) (cells : Option ℕ) (r : Reference) → slice_get nodes k ≡ Some node → provides ≡ is_provider node → passed ≡ is_passed nodes k → provides ≡ true → passed ≡ false
    → cells ≡ clock_cells_of node → r ≡ source_by k cells → r ≡ source_at nodes k
source_at-there nodes k node provides passed cells r at told off has there count by = by ∙ (ap (source_by k) count ∙ sym (source_at-node nodes k node provides passed at told off ∙ source_and _ provides passed has there))

pub source_at-past : (nodes : List SeenNode) (k : ℕ) → length nodes ≤ k → source_at nodes k ≡ Lacking
unfolding source_at
source_at-past nodes k high = rw (slice_get_past nodes k high) refl
