-- A tree is refused for what it says, never for want of memory.
use Rattle.std.proofs.Common.{ℕ, ◌&&◌, Bool, true, false, not, inl, inr, Option, Some, None, Result, Ok, Err, List, length, IfErr, subst, if◌then◌else◌}
use Rattle.std.specs.Prelude.{slice_get, IfSome}
use Rattle.std.specs.List.{list_all}
use Rattle.std.specs.Option.{option_and_then}
use Rattle.bundle_text.specs.Names.{is_clock_name}
use Rattle.dts_tree.specs.Tree.{SeenNode}
use Rattle.dts_bindings.specs.declared.fault.BindingFault.{BindingFault}
use Rattle.dts_bindings.specs.declared.fault.BindingFault.TheVariants as alone
use Rattle.dts_bindings.specs.Binding.{SeenBinding, binding_of}
use Rattle.dts_bindings.specs.Formed.{is_formed}
use Rattle.dts_bindings.specs.Properties.{is_provider}
use Rattle.dts_bindings.proofs.Lasting as binding_laws
use Rattle.dts_clocks.specs.declared.fault.DtsFault.{DtsFault}
use Rattle.dts_clocks.specs.declared.fault.DtsFault.TheVariants as faults
use Rattle.dts_clocks.specs.Above.{is_passed}
use Rattle.dts_clocks.specs.Faults.{IsFirstOf}
use Rattle.dts_clocks.specs.FirstPass.{names_in, names_before, has_twin, wants_one, own_fault, binding_fault, provider_fault, node_fault, first_fault}
use Rattle.dts_clocks.specs.References.{leaves_over}
use Rattle.dts_clocks.specs.SecondPass.{Links, links_of, is_bad_assigned, links_fault, second_fault}
use Rattle.dts_clocks.specs.Verdict.{Refuses}

-- a fault that isn't want of memory
abbrev pub IsNotMemory : DtsFault → Type 0
IsNotMemory faults.NoMemory = ⊥
IsNotMemory fault = Unit {0}

-- no fault, or one that isn't want of memory
abbrev Lasts : Option DtsFault → Type 0
Lasts o = IfSome o IsNotMemory

either : (b : Bool) (one other : Option DtsFault) → Lasts one → Lasts other → Lasts (if b then one else other)
either true one other h g = h
either false one other h g = g

found : {X : Type 0} (o : Option X) (f : X → Option DtsFault) → ((x : X) → Lasts (f x)) → Lasts (option_and_then f o)
found None f h = tt
found (Some x) f h = h x

-- ## The first look

own : (line : ℕ) (fault : BindingFault) → binding_laws.IsNotMemory fault → IsNotMemory (own_fault line fault)
own line alone.UnknownCompatible h = tt
own line alone.NoCells h = tt
own line alone.MissingProperty h = tt
own line alone.NoMemory h = absurd h

bound : (nodes : List SeenNode) (taken : List (List ℕ)) (line : ℕ) (b : SeenBinding) → Lasts (binding_fault nodes taken line b)
unfolding binding_fault
bound nodes taken line b =
    either (wants_one b.wants && leaves_over nodes b.inputs) (Some (faults.MissingProperty line)) _ tt
    (either (not (list_all is_clock_name (names_in b))) (Some (faults.BadName line)) _ tt (either (has_twin taken (names_in b)) (Some (faults.TwiceNamed line)) None tt tt))

provider : (nodes : List SeenNode) (taken : List (List ℕ)) (line : ℕ) (r : Result SeenBinding BindingFault) → IfErr r binding_laws.IsNotMemory → Lasts (provider_fault nodes taken line r)
provider nodes taken line (Ok b) h = bound nodes taken line b
provider nodes taken line (Err fault) h = own line fault h

looked : (nodes : List SeenNode) (taken : List (List ℕ)) (node : SeenNode) → Lasts (node_fault nodes taken node)
unfolding node_fault
looked nodes taken node =
    either (is_provider node) (provider_fault nodes taken node.line (binding_of node)) _ (provider nodes taken node.line (binding_of node) (binding_laws.binding-lasts node))
    (either (is_formed node) None (Some (faults.MissingProperty node.line)) tt tt)

first : (nodes : List SeenNode) (k : ℕ) → Lasts (first_fault nodes k)
unfolding first_fault
first nodes k = either (is_passed nodes k) None _ tt (found (slice_get nodes k) (node_fault nodes (names_before nodes k)) (λ node. looked nodes (names_before nodes k) node))

-- ## The second look

linked : (nodes : List SeenNode) (k : ℕ) (node : SeenNode) (o : Option Links) → Lasts (links_fault nodes k node o)
linked nodes k node None = tt
linked nodes k node (Some l) = either (is_bad_assigned nodes k node l.lists) (Some (faults.BadAssigned node.line)) None tt tt

second : (nodes : List SeenNode) (k : ℕ) → Lasts (second_fault nodes k)
unfolding second_fault
second nodes k = either (is_passed nodes k) None _ tt (found (slice_get nodes k) (λ node. links_fault nodes k node (links_of nodes k node)) (λ node. linked nodes k node (links_of nodes k node)))

-- ## Trees

first_of : (test : ℕ → Option DtsFault) (n : ℕ) (fault : DtsFault) → ((k : ℕ) → Lasts (test k)) → IsFirstOf test n fault → IsNotMemory fault
first_of test n fault h x = subst Lasts x.first.found (h x.place)

pub refused-lasts : (nodes : List SeenNode) (fault : DtsFault) → Refuses nodes fault → IsNotMemory fault
refused-lasts nodes fault (inl x) = first_of _ (length nodes) fault (first nodes) x
refused-lasts nodes fault (inr x) = first_of _ (length nodes) fault (second nodes) x.found
