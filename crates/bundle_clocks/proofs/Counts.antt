-- There are as many lines as clocks.
use Rattle.std.proofs.Common.{◌≡◌, ℕ, zero, suc, ◌+◌, cond, List, [], length, Option, Some, None, refl, ap, subst, sym, ◌∙◌, inl, inr, arith, length-append}
use Rattle.std.specs.Prelude.{slice_get}
use Rattle.std.specs.Option.{option_map_or, option_and_then}
use Rattle.std.proofs.lemmas.Bool.{cases_Bool}
use Rattle.std.proofs.lemmas.List.{length-map}
use Rattle.std.proofs.lemmas.Option.{none-some}
use Rattle.clk_base.specs.Description.{Description}
use Rattle.clock_lines.specs.Section.{desc_of, lines_of}
use Rattle.clock_lines.specs.Verdict.{Spells}
use Rattle.dts_bindings.specs.Binding.{SeenBinding}
use Rattle.dts_bindings.specs.Versions.{all_known}
use Rattle.dts_clocks.specs.Above.{is_passed}
use Rattle.dts_clocks.specs.Clocks.{binding_at, own_binding}
use Rattle.dts_clocks.specs.Joined.{joined}
use Rattle.dts_clocks.specs.Loaded.{SeenLoaded, defs_with, lines_with, defs_at, lines_at, loaded_before}
use Rattle.dts_clocks.specs.SecondPass.{Links, links_at}
use Rattle.dts_clocks.specs.Verdict.{Accepts}
use Rattle.dts_tree.specs.Tree.{SeenNode}
use Rattle.bundle_sections.specs.Sections.{version_of}
use Rattle.bundle_sections.specs.declared.section.ClockSection.{ClockSection}
use Rattle.bundle_sections.specs.declared.section.ClockText.{ClockText}
use Rattle.bundle_sections.specs.declared.section.ClockText.TheVariants.{Lines, DeviceTree}
use Rattle.bundle_clocks.specs.Said.{SaidClocks}
use Rattle.bundle_clocks.specs.Verdict.{SaysIn}

-- ## Clock lines

spelled_count : (from : ℕ) (section : List (List ℕ)) → length (lines_of from section) ≡ length (desc_of section)
unfolding lines_of desc_of
spelled_count from section = simp length-map

line_count : (version from : ℕ) (section : List (List ℕ)) (desc : Description) (lines : List ℕ) → Spells version from section desc lines → length lines ≡ length desc
line_count version from section desc lines h = ap length h.lines_are ∙ (spelled_count from section ∙ sym (ap length h.desc_is))

-- ## Trees

-- a node with a binding is there
bound_there : (nodes : List SeenNode) (k : ℕ) (b : SeenBinding) → binding_at nodes k ≡ Some b → (node : SeenNode) × (slice_get nodes k ≡ Some node)
unfolding binding_at
bound_there nodes k b h =
    elim (cases_Bool (is_passed nodes k)) [
      | inl passed ↦ absurd (none-some b (sym (ap (λ p. cond p None (option_and_then own_binding (slice_get nodes k))) passed) ∙ h))
      | inr kept ↦
          elim (slice_get nodes k) as (λ o. slice_get nodes k ≡ o → option_and_then own_binding o ≡ Some b → (node : SeenNode) × (slice_get nodes k ≡ Some node)) [
            | None ↦ λ e g. absurd (cc)
            | Some node ↦ λ e g. (node, e)
          ] refl (sym (ap (λ p. cond p None (option_and_then own_binding (slice_get nodes k))) kept) ∙ h)
    ]

-- the lines and records of a node with these links
linked_count : (nodes : List SeenNode) (k : ℕ) (l : Links) (binding : Option SeenBinding) → binding_at nodes k ≡ binding
    → length (option_map_or (λ node. option_map_or (lines_with node.line) binding []) (slice_get nodes k) []) ≡ length (option_map_or (defs_with l.parents) binding [])
linked_count nodes k l None e = elim (slice_get nodes k) as (λ o. length {A = ℕ} (option_map_or (λ node. []) o []) ≡ 0) [ None ↦ refl | Some node ↦ refl ]
linked_count nodes k l (Some b) e =
    let there = bound_there nodes k b e in
    rw there.1 (simp length-map)

node_count : (nodes : List SeenNode) (k : ℕ) → length (lines_at nodes k) ≡ length (defs_at nodes k)
unfolding lines_at defs_at
node_count nodes k =
    elim (links_at nodes k) as (λ o. length (option_map_or (λ l. option_map_or (λ node. option_map_or (lines_with node.line) (binding_at nodes k) []) (slice_get nodes k) []) o [])
    ≡ length (option_map_or (λ l. option_map_or (defs_with l.parents) (binding_at nodes k) []) o [])) [
      | None ↦ refl
      | Some l ↦ linked_count nodes k l _ refl
    ]

joined_count : {X Y : Type 0} (f : ℕ → List X) (g : ℕ → List Y) (n : ℕ) → ((k : ℕ) → length (f k) ≡ length (g k)) → length (joined f n) ≡ length (joined g n)
unfolding joined
joined_count f g zero each = refl
joined_count f g (suc n) each =
    omega (arith, length-append (joined f n) (f n), length-append (joined g n) (g n), joined_count f g n each, each n)

loaded_count : (nodes : List SeenNode) (n : ℕ) → length (loaded_before nodes n).lines ≡ length (loaded_before nodes n).defs
unfolding loaded_before
loaded_count nodes n = joined_count (lines_at nodes) (defs_at nodes) n (node_count nodes)

tree_count : (nodes : List SeenNode) (loaded : SeenLoaded) → Accepts nodes loaded → length loaded.lines ≡ length loaded.defs
tree_count nodes loaded h = subst (λ l. length l.lines ≡ length l.defs) (sym h.content) (loaded_count nodes (length nodes))

-- ## Sections

-- each clock that a section says has its line
pub lines_count : (text : ClockText) (ls : List (List ℕ)) (s : ClockSection) (said : SaidClocks) → SaysIn text ls s said → length said.lines ≡ length said.defs
lines_count Lines ls s said h = line_count (version_of ls) (s.place + 1) _ said.defs said.lines h.spelled
lines_count DeviceTree ls s said h =
    subst (λ clocks. length clocks.lines ≡ length clocks.defs) (sym h.content) (tree_count (all_known (version_of ls) h.nodes) h.loaded h.accepted)
