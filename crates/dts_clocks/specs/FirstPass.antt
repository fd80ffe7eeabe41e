-- The first look at a node: its binding and the names of its clocks, or its fault.
use Rattle.std.specs.Prelude.{ℕ, ◌&&◌, ◌||◌, Bool, true, false, not, if◌then◌else◌, Option, Some, None, Result, Ok, Err, List, [], ◌∷◌, ◌++◌, map, slice_get}
use Rattle.std.specs.List.{list_any, list_all}
use Rattle.std.specs.Option.{option_and_then}
use Rattle.std.specs.Str.{bytes_eq}
use Rattle.bundle_text.specs.Names.{is_clock_name}
use Rattle.dts_tree.specs.Tree.{SeenNode}
use Rattle.dts_bindings.specs.declared.bound.Wants.{Wants}
use Rattle.dts_bindings.specs.declared.bound.Wants.TheVariants as wants
use Rattle.dts_bindings.specs.declared.fault.BindingFault.{BindingFault}
use Rattle.dts_bindings.specs.declared.fault.BindingFault.TheVariants as alone
use Rattle.dts_bindings.specs.Properties.{is_provider}
use Rattle.dts_bindings.specs.Binding.{SeenBinding, binding_of}
use Rattle.dts_bindings.specs.Formed.{is_formed}
use Rattle.dts_clocks.specs.declared.fault.DtsFault.{DtsFault}
use Rattle.dts_clocks.specs.declared.fault.DtsFault.TheVariants as faults
use Rattle.dts_clocks.specs.Above.{is_passed}
use Rattle.dts_clocks.specs.Clocks.{clocks_at}
use Rattle.dts_clocks.specs.Joined.{joined}
use Rattle.dts_clocks.specs.References.{leaves_over}

-- the names of a provider's clocks
abbrev pub names_in : SeenBinding → List (List ℕ)
names_in b = map (λ c. c.name) b.clocks

-- the names of the clocks of the nodes before a place
unfoldable pub names_before : List SeenNode → ℕ → List (List ℕ)
names_before nodes k = map (λ c. c.clock.name) (joined (clocks_at nodes) k)

-- one of the names is among those that are taken, or stands before among the names
unfoldable pub has_twin : List (List ℕ) → List (List ℕ) → Bool
has_twin taken [] = false
has_twin taken (name ∷ names) = list_any (bytes_eq name) taken || has_twin (taken ++ name ∷ []) names

-- one specifier is wanted
abbrev pub wants_one : Wants → Bool
wants_one wants.Nothing = false
wants_one wants.One = true
wants_one wants.Some = false

-- the fault of a node by itself, with the node's line
abbrev pub own_fault : ℕ → BindingFault → DtsFault
own_fault line alone.UnknownCompatible = faults.UnknownCompatible line
own_fault line alone.NoCells = faults.NoCells line
own_fault line alone.MissingProperty = faults.MissingProperty line
own_fault line alone.NoMemory = faults.NoMemory

-- the fault of a provider that has a binding: one specifier is wanted and more stands there; a name is none; a name is taken
unfoldable pub binding_fault : List SeenNode → List (List ℕ) → ℕ → SeenBinding → Option DtsFault
binding_fault nodes taken line b =
    if wants_one b.wants && leaves_over nodes b.inputs then Some (faults.MissingProperty line)
    else if not (list_all is_clock_name (names_in b)) then Some (faults.BadName line)
    else if has_twin taken (names_in b) then Some (faults.TwiceNamed line)
    else None

-- the fault of a provider
abbrev pub provider_fault : List SeenNode → List (List ℕ) → ℕ → Result SeenBinding BindingFault → Option DtsFault
provider_fault nodes taken line (Ok b) = binding_fault nodes taken line b
provider_fault nodes taken line (Err fault) = Some (own_fault line fault)

-- the fault of a node that isn't passed over, where these names are taken
unfoldable pub node_fault : List SeenNode → List (List ℕ) → SeenNode → Option DtsFault
node_fault nodes taken node =
    if is_provider node then provider_fault nodes taken node.line (binding_of node)
    else if is_formed node then None
    else Some (faults.MissingProperty node.line)

-- the fault that the first look at the node of a place finds; a node that is passed over isn't looked at
unfoldable pub first_fault : List SeenNode → ℕ → Option DtsFault
first_fault nodes k = if is_passed nodes k then None else option_and_then (node_fault nodes (names_before nodes k)) (slice_get nodes k)
