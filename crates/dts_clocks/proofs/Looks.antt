-- The first look at one node.
use Rattle.std.proofs.Common.{◌≡◌, ℕ, ◌+◌, ◌<◌, true, false, List, [], ◌∷◌, ◌++◌, map, Option, Some, None, Result, Ok, Err, refl, sym, ap, ◌∙◌, arith, below_more, OnOk, IfOk}
use Rattle.std.specs.Prelude.{slice_get}
use Rattle.std.specs.Option.{option_map, option_map_or}
use Rattle.std.proofs.lemmas.List.{map-append, append-nil}
use Rattle.bundle_text.specs.Firsts.{KeepsBelow}
use Rattle.dts_tree.specs.Tree.{SeenNode}
use Rattle.dts_bindings.specs.declared.bound.Binding.{Binding}
use Rattle.dts_bindings.specs.Binding.{SeenBinding, seen_binding}
use Rattle.dts_bindings.specs.Clocks.{SeenClock}
use Rattle.dts_clocks.specs.declared.fault.DtsFault.{DtsFault}
use Rattle.dts_clocks.specs.declared.fault.DtsFault.TheVariants.{UnknownCompatible, NoCells, MissingProperty, BadName, TwiceNamed, BadSpecifier, BadAssigned, NoMemory}
use Rattle.dts_clocks.specs.Above.{is_passed}
use Rattle.dts_clocks.specs.Clocks.{Held, held_by, own_binding, binding_at, clocks_at}
use Rattle.dts_clocks.specs.Faults.{Tells, Finds}
use Rattle.dts_clocks.specs.FirstPass.{names_in, names_before, node_fault, first_fault}
use Rattle.dts_clocks.specs.Joined.{joined}
use Rattle.dts_clocks.proofs.Joins.{joined-more, joined-none}

pub binding_at-passed : (nodes : List SeenNode) (k : ℕ) → is_passed nodes k ≡ true → binding_at nodes k ≡ None
unfolding binding_at
binding_at-passed nodes k e = rw e refl

pub binding_at-node : (nodes : List SeenNode) (k : ℕ) (node : SeenNode) → slice_get nodes k ≡ Some node → is_passed nodes k ≡ false → own_binding node ≡ binding_at nodes k
unfolding binding_at
binding_at-node nodes k node at e = rw (e, at) refl

pub first_fault-passed : (nodes : List SeenNode) (k : ℕ) → is_passed nodes k ≡ true → first_fault nodes k ≡ None
unfolding first_fault
first_fault-passed nodes k e = rw e refl

pub first_fault-node : (nodes : List SeenNode) (k : ℕ) (node : SeenNode) (taken : List (List ℕ)) → slice_get nodes k ≡ Some node → is_passed nodes k ≡ false → taken ≡ names_before nodes k → node_fault nodes taken node ≡ first_fault nodes k
unfolding first_fault
first_fault-node nodes k node taken at e t = rw (e, at) (ap (λ ts. node_fault nodes ts node) t)

pub names_held : (k : ℕ) (clocks : List SeenClock) → map (λ (c : Held). c.clock.name) (map (held_by k) clocks) ≡ map (λ (c : SeenClock). c.name) clocks
names_held k [] = refl
names_held k (c ∷ cs) = ap (λ ns. c.name ∷ ns) (names_held k cs)

names_by : (k : ℕ) (o : Option SeenBinding) → map (λ (c : Held). c.clock.name) (option_map_or (λ b. map (held_by k) b.clocks) o []) ≡ option_map_or names_in o []
names_by k None = refl
names_by k (Some b) = names_held k b.clocks

pub names_before-more : (nodes : List SeenNode) (k : ℕ) → names_before nodes (k + 1) ≡ names_before nodes k ++ option_map_or names_in (binding_at nodes k) []
unfolding names_before clocks_at
names_before-more nodes k =
    ap (map (λ (c : Held). c.clock.name)) (joined-more (clocks_at nodes) k)
    ∙ (map-append (λ (c : Held). c.clock.name) (joined (clocks_at nodes) k) (clocks_at nodes k) ∙ ap (λ ns. names_before nodes k ++ ns) (names_by k (binding_at nodes k)))

pub names_before-none : (nodes : List SeenNode) → names_before nodes 0 ≡ []
unfolding names_before
names_before-none nodes = ap (map (λ (c : Held). c.clock.name)) (joined-none (clocks_at nodes))

pub names_before-passed : (nodes : List SeenNode) (k : ℕ) → is_passed nodes k ≡ true → names_before nodes k ≡ names_before nodes (k + 1)
names_before-passed nodes k e = sym (names_before-more nodes k ∙ (ap (λ o. names_before nodes k ++ option_map_or names_in o []) (binding_at-passed nodes k e) ∙ append-nil (names_before nodes k)))

by_binding : (o : Option Binding) → option_map_or (λ b. names_in (seen_binding b)) o [] ≡ option_map_or names_in (option_map seen_binding o) []
by_binding None = refl
by_binding (Some b) = refl

-- the names with those of a binding
pub names_taken : (r : Result (Option Binding) DtsFault) (nodes : List SeenNode) (k : ℕ) (o : Option SeenBinding) (old new : List (List ℕ)) → IfOk r (λ b. option_map seen_binding b ≡ o) → IfOk r (λ b. new ≡ old ++ option_map_or (λ k. names_in (seen_binding k)) b [])
    → o ≡ binding_at nodes k → old ≡ names_before nodes k → OnOk r (new ≡ names_before nodes (k + 1))
names_taken (Ok b) nodes k o old new bound more at before =
    more ∙ (ap (λ ns. ns ++ option_map_or (λ k. names_in (seen_binding k)) b []) before ∙ (ap (λ ns. names_before nodes k ++ ns) (by_binding b ∙ ap (λ p. option_map_or names_in p []) (bound ∙ at)) ∙ sym (names_before-more nodes k)))
names_taken (Err e) nodes k o old new bound more at before = tt

-- a fault that is told of a place, where the places before it have none
pub finds : (test : ℕ → Option DtsFault) (n k : ℕ) (e : DtsFault) → k < n → KeepsBelow test k → Tells e (test k) → Finds test n e
finds test n k (UnknownCompatible line) low kept told = record { place = k; first = record { within = low; before = kept; found = told } }
finds test n k (NoCells line) low kept told = record { place = k; first = record { within = low; before = kept; found = told } }
finds test n k (MissingProperty line) low kept told = record { place = k; first = record { within = low; before = kept; found = told } }
finds test n k (BadName line) low kept told = record { place = k; first = record { within = low; before = kept; found = told } }
finds test n k (TwiceNamed line) low kept told = record { place = k; first = record { within = low; before = kept; found = told } }
finds test n k (BadSpecifier line) low kept told = record { place = k; first = record { within = low; before = kept; found = told } }
finds test n k (BadAssigned line) low kept told = record { place = k; first = record { within = low; before = kept; found = told } }
finds test n k NoMemory low kept told = tt

pub kept_more : (test : ℕ → Option DtsFault) (k : ℕ) → KeepsBelow test k → test k ≡ None → KeepsBelow test (k + 1)
kept_more test k kept none = below_more (λ j. test j ≡ None) k kept none

pub kept_none : (test : ℕ → Option DtsFault) → KeepsBelow test 0
kept_none test k low = absurd (omega arith)
