-- No more is assigned than the limit of entries allows.
use Rattle.std.proofs.Common.{◌≡◌, ℕ, zero, suc, ◌+◌, ◌≤◌, Bool, true, false, cond, List, [], ◌∷◌, length, Option, Some, None, refl, sym, ap, arith, subst, sum_by}
use Rattle.std.specs.Prelude.{◌||◌, ◌==◌, nat_lt, slice_get, codes}
use Rattle.std.specs.Option.{option_map_or, option_and_then, option_to_list}
use Rattle.std.proofs.lemmas.Bool.Decides.{nat_tests}
use Rattle.std.proofs.lemmas.List.{length-append}
use Rattle.std.proofs.lemmas.List.Sums.{sum_by-append}
use Rattle.bundle_text.specs.Firsts.{KeepsBelow}
use Rattle.clk_base.specs.declared.clock.ClockId.{ClockId}
use Rattle.dts_tree.specs.Tree.{SeenNode}
use Rattle.dts_bindings.specs.Properties.{has_property}
use Rattle.dts_clocks.specs.declared.fault.DtsFault.{DtsFault}
use Rattle.dts_clocks.specs.declared.fault.DtsFault.TheVariants.{BadAssigned}
use Rattle.dts_clocks.specs.declared.loaded.AssignedStep.{AssignedStep}
use Rattle.dts_clocks.specs.declared.loaded.AssignedStep.TheVariants.{Rate}
use Rattle.dts_clocks.specs.Above.{is_passed}
use Rattle.dts_clocks.specs.Assigned.{Lists, SeenAssigned, entries, is_too_long, lacks_clocks, clock_at, parent_step, rate_step, steps_of, assigned_of}
use Rattle.dts_clocks.specs.Joined.{joined, total}
use Rattle.dts_clocks.specs.Loaded.{SeenLoaded, assigned_at, loaded_before}
use Rattle.dts_clocks.specs.SecondPass.{Links, most_entries, links_of, links_at, entries_at, is_bad_assigned, links_fault, second_fault}
use Rattle.dts_clocks.specs.Verdict.{Accepts}
use Rattle.dts_clocks.proofs.Linking.{links_at-passed}

-- how many steps nodes assign together
abbrev pub step_count : List SeenAssigned → ℕ
step_count assigned = sum_by (λ a. length a.steps) assigned

-- ## One node

one_parent : (clock parent : Option ClockId) → length (parent_step clock parent) ≤ 1
one_parent (Some clock) (Some parent) = omega arith
one_parent (Some clock) None = omega arith
one_parent None parent = omega arith

one_either : (b : Bool) (clock : ClockId) (rate : ℕ) → length (cond b [] (Rate clock rate ∷ [])) ≤ 1
one_either true clock rate = omega arith
one_either false clock rate = omega arith

one_rate : (clock : Option ClockId) (rate : Option ℕ) → length (rate_step clock rate) ≤ 1
one_rate (Some clock) (Some rate) = one_either (rate == 0) clock rate
one_rate (Some clock) None = omega arith
one_rate None rate = omega arith

-- lists of at most one element at each place have no more elements than places
joined_few : {X : Type 0} (f : ℕ → List X) (n : ℕ) → ((i : ℕ) → length (f i) ≤ 1) → length (joined f n) ≤ n
unfolding joined
joined_few f zero each = omega arith
joined_few f (suc n) each =
    let before = joined_few f n each in
    let here = each n in
    omega (arith, length-append (joined f n) (f n))

-- each step stands for an entry
steps_few : (l : Lists) → length (steps_of l) ≤ entries l
unfolding steps_of
steps_few l =
    let parents = joined_few (λ i. parent_step (clock_at l.clocks i) (clock_at l.parents i)) (length l.parents) (λ i. one_parent (clock_at l.clocks i) (clock_at l.parents i)) in
    let rates = joined_few (λ i. rate_step (clock_at l.clocks i) (slice_get l.rates i)) (length l.rates) (λ i. one_rate (clock_at l.clocks i) (slice_get l.rates i)) in
    omega (arith, length-append (joined (λ i. parent_step (clock_at l.clocks i) (clock_at l.parents i)) (length l.parents)) (joined (λ i. rate_step (clock_at l.clocks i) (slice_get l.rates i)) (length l.rates)))

either_few : (b : Bool) (line n : ℕ) (steps : List AssignedStep) → length steps ≤ n → step_count (option_to_list (cond b (Some (record { line = line; steps = steps })) None)) ≤ n
either_few true line n steps few = omega arith
either_few false line n steps few = omega arith

node_few : (node : SeenNode) (l : Lists) → step_count (option_to_list (assigned_of node l)) ≤ entries l
unfolding assigned_of
node_few node l = either_few (has_property (codes "assigned-clocks") node) node.line (entries l) (steps_of l) (steps_few l)

there_few : (o : Option SeenNode) (l : Links) → step_count (option_map_or (λ node. option_to_list (assigned_of node l.lists)) o []) ≤ entries l.lists
there_few None l = omega arith
there_few (Some node) l = node_few node l.lists

linked_few : (o : Option SeenNode) (links : Option Links)
    → step_count (option_map_or (λ l. option_map_or (λ node. option_to_list (assigned_of node l.lists)) o []) links []) ≤ option_map_or (λ l. entries l.lists) links 0
linked_few o None = omega arith
linked_few o (Some l) = there_few o l

here_few : (nodes : List SeenNode) (k : ℕ) → step_count (assigned_at nodes k) ≤ entries_at nodes k
unfolding assigned_at entries_at
here_few nodes k = linked_few (slice_get nodes k) (links_at nodes k)

-- ## All nodes

-- the steps of the first nodes are at most their entries
before_few : (nodes : List SeenNode) (n : ℕ) → step_count (joined (assigned_at nodes) n) ≤ total (entries_at nodes) n
unfolding joined total
before_few nodes zero = omega arith
before_few nodes (suc n) =
    let before = before_few nodes n in
    let here = here_few nodes n in
    omega (arith, sum_by-append (λ (a : SeenAssigned). length a.steps) (joined (assigned_at nodes) n) (assigned_at nodes n))

-- a node without a fault has no entry, or no more with those before it than are allowed
bad_few : (nodes : List SeenNode) (k : ℕ) (node : SeenNode) (l : Lists) → is_bad_assigned nodes k node l ≡ false → total (entries_at nodes) (k + 1) ≤ 4096
unfolding is_bad_assigned
bad_few nodes k node l fine = last (is_too_long l) (lacks_clocks node) (total (entries_at nodes) (k + 1)) fine where
  last : (a b : Bool) (n : ℕ) → (a || b || nat_lt most_entries n) ≡ false → n ≤ 4096
  last true b n e = absurd cc
  last false true n e = absurd cc
  last false false n e = grind (arith, nat_tests)

no_fault : (b : Bool) (fault : DtsFault) → cond b (Some fault) None ≡ None → b ≡ false
no_fault true fault e = absurd cc
no_fault false fault e = refl

-- what the second look at a node says of its links
fault_few : (nodes : List SeenNode) (k : ℕ) (node : SeenNode) (links : Option Links) → links_fault nodes k node links ≡ None → total (entries_at nodes) (k + 1) ≤ 4096
fault_few nodes k node None e = absurd cc
fault_few nodes k node (Some l) e = bad_few nodes k node l.lists (no_fault (is_bad_assigned nodes k node l.lists) (BadAssigned node.line) e)

nothing_more : (nodes : List SeenNode) (k : ℕ) → links_at nodes k ≡ None → total (entries_at nodes) k ≤ 4096 → total (entries_at nodes) (suc k) ≤ 4096
unfolding total entries_at
nothing_more nodes k none few =
    let here : option_map_or (λ l. entries l.lists) (links_at nodes k) 0 ≡ 0 = ap (λ (o : Option Links). option_map_or (λ l. entries l.lists) o 0) none in
    omega arith

node_at : (nodes : List SeenNode) (k : ℕ) (o : Option SeenNode) → option_and_then (λ node. links_fault nodes k node (links_of nodes k node)) o ≡ None → option_and_then (links_of nodes k) o ≡ links_at nodes k
    → total (entries_at nodes) k ≤ 4096 → total (entries_at nodes) (suc k) ≤ 4096
node_at nodes k None e same few = nothing_more nodes k (sym same) few
node_at nodes k (Some node) e same few = let all = fault_few nodes k node (links_of nodes k node) e in let one : k + 1 ≡ suc k = omega arith in subst (λ n. total (entries_at nodes) n ≤ 4096) one all

other : {X : Type 0} (b : Bool) (o : Option X) → b ≡ false → cond b None o ≡ None → o ≡ None
other true o h e = absurd cc
other false o h e = e

whole : {X : Type 0} (b : Bool) (o : Option X) → b ≡ false → o ≡ cond b None o
whole true o h = absurd cc
whole false o h = refl

look_few : (nodes : List SeenNode) (k : ℕ) → second_fault nodes k ≡ None → total (entries_at nodes) k ≤ 4096 → total (entries_at nodes) (suc k) ≤ 4096
unfolding second_fault links_at
look_few nodes k e few = pick (is_passed nodes k) refl where
  pick : (b : Bool) → is_passed nodes k ≡ b → total (entries_at nodes) (suc k) ≤ 4096
  pick true h = nothing_more nodes k (links_at-passed nodes k h) few
  pick false h = node_at nodes k (slice_get nodes k) (other (is_passed nodes k) _ h e) (whole (is_passed nodes k) _ h) few

entries_few : (nodes : List SeenNode) (n : ℕ) → KeepsBelow (second_fault nodes) n → total (entries_at nodes) n ≤ 4096
unfolding total
entries_few nodes zero kept = omega arith
entries_few nodes (suc n) kept = look_few nodes n (kept n (omega arith)) (entries_few nodes n (λ k low. kept k (omega arith)))

-- all that is assigned
pub assigned_few : (nodes : List SeenNode) (loaded : SeenLoaded) → Accepts nodes loaded → step_count loaded.assigned ≤ 4096
unfolding loaded_before
assigned_few nodes loaded accepts =
    let same : joined (assigned_at nodes) (length nodes) ≡ loaded.assigned = sym (ap (λ (x : SeenLoaded). x.assigned) accepts.content) in
    let steps = before_few nodes (length nodes) in
    let all = entries_few nodes (length nodes) accepts.second in
    subst (λ as_. step_count as_ ≤ 4096) same (omega arith)
