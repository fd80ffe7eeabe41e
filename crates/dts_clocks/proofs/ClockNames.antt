-- Each clock that is loaded has a clock's name.
use Rattle.std.proofs.Common.{◌≡◌, ℕ, ◌<◌, Bool, true, false, List, [], ◌∷◌, map, length, get_or, Option, Some, None, refl, sym, ap, ◌∙◌, inl, inr, subst}
use Rattle.std.specs.List.{list_all}
use Rattle.std.proofs.lemmas.Bool.{both_ways, cases_Bool}
use Rattle.std.proofs.lemmas.List.Folds.{list_all_at, list_all-map}
use Rattle.bundle_text.specs.Firsts.{KeepsBelow}
use Rattle.bundle_text.specs.Names.{is_clock_name}
use Rattle.clk_base.specs.declared.clock.ClockDef.{ClockDef}
use Rattle.clk_base.specs.Description.{Description, nobody, name_of, EachClock}
use Rattle.dts_tree.specs.Tree.{SeenNode}
use Rattle.dts_bindings.specs.Binding.{SeenBinding}
use Rattle.dts_bindings.specs.Clocks.{SeenClock}
use Rattle.dts_clocks.specs.Clocks.{Held, held_by, binding_at, clocks_at}
use Rattle.dts_clocks.specs.FirstPass.{first_fault, names_before}
use Rattle.dts_clocks.specs.Joined.{joined}
use Rattle.dts_clocks.specs.Loaded.{SeenLoaded, defs_at, loaded_before}
use Rattle.dts_clocks.specs.SecondPass.{second_fault}
use Rattle.dts_clocks.specs.Verdict.{Accepts}
use Rattle.dts_clocks.proofs.Fresh.{named_at}
use Rattle.dts_clocks.proofs.Parented.{both_pass, passes_both, all_joined, names_defined}

held_named : (k : ℕ) (clocks : List SeenClock) → list_all is_clock_name (map (λ c. c.name) clocks) ≡ true → list_all (λ (h : Held). is_clock_name h.clock.name) (map (held_by k) clocks) ≡ true
held_named k [] e = refl
held_named k (c ∷ cs) e =
    let both = passes_both (is_clock_name c.name) (list_all is_clock_name (map (λ (x : SeenClock). x.name) cs)) e in
    both_pass (is_clock_name c.name) (list_all (λ (h : Held). is_clock_name h.clock.name) (map (held_by k) cs)) both.0 (held_named k cs both.1)

-- the clocks of one node
node_named : (nodes : List SeenNode) (k : ℕ) (o : Option SeenBinding) → binding_at nodes k ≡ o → first_fault nodes k ≡ None → list_all (λ (h : Held). is_clock_name h.clock.name) (clocks_at nodes k) ≡ true
unfolding clocks_at
node_named nodes k None bound kept = rw bound refl
node_named nodes k (Some b) bound kept = rw bound (held_named k b.clocks (named_at nodes k b bound kept))

-- the names of the clocks of the first nodes
names_pass : (nodes : List SeenNode) (n : ℕ) → KeepsBelow (first_fault nodes) n → list_all is_clock_name (names_before nodes n) ≡ true
unfolding names_before
names_pass nodes n kept =
    list_all-map is_clock_name (λ (h : Held). h.clock.name) (joined (clocks_at nodes) n)
    ∙ all_joined (clocks_at nodes) (λ (h : Held). is_clock_name h.clock.name) n (λ k low. node_named nodes k (binding_at nodes k) refl (kept k low))

each_of : (defs : Description) → list_all (λ (d : ClockDef). is_clock_name d.name) defs ≡ true → EachClock defs (λ c. is_clock_name (name_of defs c))
each_of defs all c low =
    elim (cases_Bool (is_clock_name (name_of defs c))) [
      | inl passes ↦ passes
      | inr fails ↦ absurd (both_ways _ (list_all_at (λ (d : ClockDef). is_clock_name d.name) defs c nobody low fails) all)
    ]

-- all clocks of a tree that is accepted
pub named : (nodes : List SeenNode) (loaded : SeenLoaded) → Accepts nodes loaded → EachClock loaded.defs (λ c. is_clock_name (name_of loaded.defs c))
unfolding loaded_before
named nodes loaded accepts =
    let defs = joined (defs_at nodes) (length nodes) in
    let same : defs ≡ loaded.defs = sym (ap (λ (x : SeenLoaded). x.defs) accepts.content) in
    let pass = ap (list_all is_clock_name) (names_defined nodes (length nodes) accepts.second) ∙ names_pass nodes (length nodes) accepts.first in
    subst (λ (ds : Description). EachClock ds (λ c. is_clock_name (name_of ds c))) same (each_of defs (sym (list_all-map is_clock_name (λ (d : ClockDef). d.name) defs) ∙ pass))
