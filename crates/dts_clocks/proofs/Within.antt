-- The clocks that consumers and assigned clocks name are clocks of the description.
use Rattle.std.proofs.Common.{◌≡◌, ℕ, zero, suc, ◌+◌, Bool, true, false, cond, List, [], ◌∷◌, length, Option, Some, None, refl, sym, ap, ◌∙◌, subst}
use Rattle.std.specs.Prelude.{◌&&◌, ◌==◌, nat_lt, nat_le, slice_get, codes}
use Rattle.std.specs.List.{list_all}
use Rattle.std.specs.Option.{option_map, option_map_or, option_and_then, option_to_list}
use Rattle.std.proofs.lemmas.Option.{none-some, same_Some}
use Rattle.clk_base.specs.declared.clock.ClockId.{ClockId}
use Rattle.dts_tree.specs.declared.tree.Cell.{Cell}
use Rattle.dts_tree.specs.Tree.{SeenNode}
use Rattle.dts_bindings.specs.Properties.{is_consumer, has_property, values_of, cells_in, texts_in}
use Rattle.dts_clocks.specs.declared.loaded.AssignedStep.{AssignedStep}
use Rattle.dts_clocks.specs.declared.loaded.AssignedStep.TheVariants.{Parent, Rate}
use Rattle.dts_clocks.specs.Above.{path_of, is_passed}
use Rattle.dts_clocks.specs.Assigned.{Lists, SeenAssigned, lists_of, rates_of, clock_at, parent_step, rate_step, steps_of, assigned_of}
use Rattle.dts_clocks.specs.Clocks.{clocks_of, clocks_named}
use Rattle.dts_clocks.specs.Consumers.{SeenName, SeenConsumer, clocks_in, named, named_by, names_of, consumer_of}
use Rattle.dts_clocks.specs.Joined.{joined}
use Rattle.dts_clocks.specs.Loaded.{SeenLoaded, consumers_at, assigned_at, loaded_before}
use Rattle.dts_clocks.specs.SecondPass.{Links, links_of, links_at, parents_at}
use Rattle.dts_clocks.specs.Verdict.{Accepts}
use Rattle.dts_clocks.proofs.Parented.{both_pass, passes_both, all_append, all_joined, is_below, Below, named_below, count_defined}

-- ## Names of consumers

-- the names mean clocks among the first n
abbrev pub are_below : ℕ → List SeenName → Bool
are_below n names = list_all (λ s. is_below n s.clock) names

named_all_below : (n : ℕ) (texts : List (List ℕ)) (k : ℕ) (clocks : List (Option ClockId)) → list_all (is_below n) clocks ≡ true → are_below n (named texts k clocks) ≡ true
named_all_below n texts k [] all = refl
named_all_below n texts k (c ∷ cs) all =
    let low = passes_both (is_below n c) (list_all (is_below n) cs) all in
    both_pass (is_below n c) (are_below n (named texts (k + 1) cs)) low.0 (named_all_below n texts (k + 1) cs low.1)

-- where a list of names is there, it is below
abbrev pub NamesBelow : ℕ → Option (List SeenName) → Type 0
NamesBelow n o = (names : List SeenName) → o ≡ Some names → are_below n names ≡ true

either_below : (n : ℕ) (b : Bool) (names : List SeenName) → are_below n names ≡ true → NamesBelow n (cond b (Some names) None)
either_below n true names all found e = subst (λ xs. are_below n xs ≡ true) (same_Some names found e) all
either_below n false names all found e = absurd (none-some found e)

by_texts_below : (n : ℕ) (clocks : List (Option ClockId)) (texts : Option (List (List ℕ))) → list_all (is_below n) clocks ≡ true → NamesBelow n (option_and_then (named_by clocks) texts)
by_texts_below n clocks None all found e = absurd (none-some found e)
by_texts_below n clocks (Some texts) all found e = either_below n (nat_le (length texts) (length clocks)) (named texts 0 clocks) (named_all_below n texts 0 clocks all) found e

by_clocks_below : (n : ℕ) (clocks : Option (List (Option ClockId))) (texts : Option (List (List ℕ))) → Below n clocks → NamesBelow n (option_and_then (λ cs. option_and_then (named_by cs) texts) clocks)
by_clocks_below n None texts below found e = absurd (none-some found e)
by_clocks_below n (Some clocks) texts below found e = by_texts_below n clocks texts (below clocks refl) found e

cells_below : (nodes : List SeenNode) (cells : Option (List Cell)) → Below (length (clocks_of nodes)) (option_and_then (clocks_named nodes) cells)
cells_below nodes None found e = absurd (none-some found e)
cells_below nodes (Some cells) found e = named_below nodes cells found e

clocks_in_below : (nodes : List SeenNode) (name : List ℕ) (node : SeenNode) → Below (length (clocks_of nodes)) (clocks_in nodes name node)
unfolding clocks_in
clocks_in_below nodes name node = cells_below nodes (cells_in (values_of name node))

names_below : (nodes : List SeenNode) (node : SeenNode) → NamesBelow (length (clocks_of nodes)) (names_of nodes node)
unfolding names_of
names_below nodes node = by_clocks_below (length (clocks_of nodes)) (clocks_in nodes (codes "clocks") node) (texts_in (values_of (codes "clock-names") node)) (clocks_in_below nodes (codes "clocks") node)

-- the consumer's names mean clocks among the first n
abbrev pub consumer_below : ℕ → SeenConsumer → Bool
consumer_below n c = are_below n c.names

-- a consumer that is there, if one is
abbrev ConsumerBelow : ℕ → Option (Option SeenConsumer) → Type 0
ConsumerBelow n o = (found : Option SeenConsumer) → o ≡ Some found → list_all (consumer_below n) (option_to_list found) ≡ true

no_consumer_below : (n : ℕ) → ConsumerBelow n (Some None)
no_consumer_below n found e = subst (λ o. list_all (consumer_below n) (option_to_list o) ≡ true) (same_Some None found e) refl

path_below : (n : ℕ) (path : List ℕ) (names : Option (List SeenName)) → NamesBelow n names → ConsumerBelow n (option_map (λ own. Some (record { path = path; names = own })) names)
path_below n path None below found e = absurd (none-some found e)
path_below n path (Some names) below found e =
    subst (λ o. list_all (consumer_below n) (option_to_list o) ≡ true) (same_Some _ found e) (both_pass (are_below n names) true (below names refl) refl)

is_below_either : (n : ℕ) (b : Bool) (x y : Option (Option SeenConsumer)) → ConsumerBelow n x → ConsumerBelow n y → ConsumerBelow n (cond b x y)
is_below_either n true x y p q = p
is_below_either n false x y p q = q

consumer_of_below : (nodes : List SeenNode) (k : ℕ) (node : SeenNode) → ConsumerBelow (length (clocks_of nodes)) (consumer_of nodes k node)
unfolding consumer_of
consumer_of_below nodes k node =
    is_below_either (length (clocks_of nodes)) (is_consumer node) _ _ (path_below (length (clocks_of nodes)) (path_of nodes k) (names_of nodes node) (names_below nodes node)) (no_consumer_below (length (clocks_of nodes)))

-- ## Assigned clocks

get_below : (n : ℕ) (clocks : List (Option ClockId)) (i : ℕ) → list_all (is_below n) clocks ≡ true → is_below n (clock_at clocks i) ≡ true
get_below n [] i all = refl
get_below n (c ∷ cs) zero all = (passes_both (is_below n c) (list_all (is_below n) cs) all).0
get_below n (c ∷ cs) (suc i) all = get_below n cs i (passes_both (is_below n c) (list_all (is_below n) cs) all).1

-- a step names clocks among the first n
abbrev pub step_below : ℕ → AssignedStep → Bool
step_below n (Parent clock parent) = nat_lt clock.0 n && nat_lt parent.0 n
step_below n (Rate clock rate) = nat_lt clock.0 n

parent_below : (n : ℕ) (clock parent : Option ClockId) → is_below n clock ≡ true → is_below n parent ≡ true → list_all (step_below n) (parent_step clock parent) ≡ true
parent_below n (Some clock) (Some parent) low below = both_pass (nat_lt clock.0 n && nat_lt parent.0 n) true (both_pass (nat_lt clock.0 n) (nat_lt parent.0 n) low below) refl
parent_below n (Some clock) None low below = refl
parent_below n None parent low below = refl

rate_either : (n : ℕ) (b : Bool) (clock : ClockId) (rate : ℕ) → nat_lt clock.0 n ≡ true → list_all (step_below n) (cond b [] (Rate clock rate ∷ [])) ≡ true
rate_either n true clock rate low = refl
rate_either n false clock rate low = both_pass (nat_lt clock.0 n) true low refl

rate_below : (n : ℕ) (clock : Option ClockId) (rate : Option ℕ) → is_below n clock ≡ true → list_all (step_below n) (rate_step clock rate) ≡ true
rate_below n (Some clock) (Some rate) low = rate_either n (rate == 0) clock rate low
rate_below n (Some clock) None low = refl
rate_below n None rate low = refl

-- the clocks and the parents of lists that were read
record ListsBelow (n : ℕ) (l : Lists) : Type 0 where
  clocks : list_all (is_below n) l.clocks ≡ true
  parents : list_all (is_below n) l.parents ≡ true

steps_below : (n : ℕ) (l : Lists) → ListsBelow n l → list_all (step_below n) (steps_of l) ≡ true
unfolding steps_of
steps_below n l below =
    all_append (step_below n) (joined (λ i. parent_step (clock_at l.clocks i) (clock_at l.parents i)) (length l.parents)) (joined (λ i. rate_step (clock_at l.clocks i) (slice_get l.rates i)) (length l.rates))
    (all_joined (λ i. parent_step (clock_at l.clocks i) (clock_at l.parents i)) (step_below n) (length l.parents) (λ i low. parent_below n (clock_at l.clocks i) (clock_at l.parents i) (get_below n l.clocks i below.clocks) (get_below n l.parents i below.parents)))
    (all_joined (λ i. rate_step (clock_at l.clocks i) (slice_get l.rates i)) (step_below n) (length l.rates) (λ i low. rate_below n (clock_at l.clocks i) (slice_get l.rates i) (get_below n l.clocks i below.clocks)))

read_below : (n : ℕ) (rates : List ℕ) (clocks parents : Option (List (Option ClockId))) (l : Lists) → Below n clocks → Below n parents
    → option_and_then (λ cs. option_map (λ ps. record { clocks = cs; parents = ps; rates = rates }) parents) clocks ≡ Some l → ListsBelow n l
read_below n rates None parents l low below e = absurd (none-some l e)
read_below n rates (Some cs) None l low below e = absurd (none-some l e)
read_below n rates (Some cs) (Some ps) l low below e = subst (ListsBelow n) (same_Some _ l e) (record { clocks = low cs refl; parents = below ps refl })

lists_below : (nodes : List SeenNode) (node : SeenNode) (l : Lists) → lists_of nodes node ≡ Some l → ListsBelow (length (clocks_of nodes)) l
unfolding lists_of
lists_below nodes node l e =
    read_below (length (clocks_of nodes)) (rates_of node) (clocks_in nodes (codes "assigned-clocks") node) (clocks_in nodes (codes "assigned-clock-parents") node) l
    (clocks_in_below nodes (codes "assigned-clocks") node) (clocks_in_below nodes (codes "assigned-clock-parents") node) e

-- what a node assigns names clocks among the first n
abbrev pub assigned_below : ℕ → SeenAssigned → Bool
assigned_below n a = list_all (step_below n) a.steps

assigned_either : (n : ℕ) (b : Bool) (line : ℕ) (steps : List AssignedStep) → list_all (step_below n) steps ≡ true
    → list_all (assigned_below n) (option_to_list (cond b (Some (record { line = line; steps = steps })) None)) ≡ true
assigned_either n true line steps all = both_pass (list_all (step_below n) steps) true all refl
assigned_either n false line steps all = refl

assigned_of_below : (nodes : List SeenNode) (node : SeenNode) (l : Lists) → lists_of nodes node ≡ Some l → list_all (assigned_below (length (clocks_of nodes))) (option_to_list (assigned_of node l)) ≡ true
unfolding assigned_of
assigned_of_below nodes node l e =
    assigned_either (length (clocks_of nodes)) (has_property (codes "assigned-clocks") node) node.line (steps_of l) (steps_below (length (clocks_of nodes)) l (lists_below nodes node l e))

-- ## Nodes

-- the links of a node were read of the node
record AreLinks (nodes : List SeenNode) (k : ℕ) (node : SeenNode) (l : Links) : Type 0 where
  consumer : consumer_of nodes k node ≡ Some l.consumer
  lists : lists_of nodes node ≡ Some l.lists

links_parts : (parents : Option (List ClockId)) (consumer : Option (Option SeenConsumer)) (lists : Option Lists) (l : Links)
    → option_and_then (λ ps. option_and_then (λ c. option_map (λ ls. record { parents = ps; consumer = c; lists = ls }) lists) consumer) parents ≡ Some l → (consumer ≡ Some l.consumer) × (lists ≡ Some l.lists)
links_parts None consumer lists l e = absurd (none-some l e)
links_parts (Some ps) None lists l e = absurd (none-some l e)
links_parts (Some ps) (Some c) None l e = absurd (none-some l e)
links_parts (Some ps) (Some c) (Some ls) l e =
    let P : Option SeenConsumer → Option (Option SeenConsumer) = λ x. Some x in
    let Q : Lists → Option Lists = λ x. Some x in
    (ap (λ (x : Links). P x.consumer) (same_Some _ l e), ap (λ (x : Links). Q x.lists) (same_Some _ l e))

links_are : (nodes : List SeenNode) (k : ℕ) (node : SeenNode) (l : Links) → links_of nodes k node ≡ Some l → AreLinks nodes k node l
unfolding links_of
links_are nodes k node l e =
    let parts = links_parts (parents_at nodes k) (consumer_of nodes k node) (lists_of nodes node) l e in
    record { consumer = parts.0; lists = parts.1 }

-- links that were read at a place were read of its node
abbrev LinkedAt : List SeenNode → ℕ → Option SeenNode → Option Links → Type 0
LinkedAt nodes k o links = (l : Links) → links ≡ Some l → (node : SeenNode) × (o ≡ Some node) × AreLinks nodes k node l

linked_node : (nodes : List SeenNode) (k : ℕ) (o : Option SeenNode) → LinkedAt nodes k o (option_and_then (links_of nodes k) o)
linked_node nodes k None l e = absurd (none-some l e)
linked_node nodes k (Some node) l e = (node, refl, links_are nodes k node l e)

linked_either : (nodes : List SeenNode) (k : ℕ) (b : Bool) (o : Option SeenNode) (links : Option Links) → LinkedAt nodes k o links → LinkedAt nodes k o (cond b None links)
linked_either nodes k true o links h l e = absurd (none-some l e)
linked_either nodes k false o links h l e = h l e

linked_at : (nodes : List SeenNode) (k : ℕ) → LinkedAt nodes k (slice_get nodes k) (links_at nodes k)
unfolding links_at
linked_at nodes k = linked_either nodes k (is_passed nodes k) (slice_get nodes k) _ (linked_node nodes k (slice_get nodes k))

consumers_by : (nodes : List SeenNode) (k : ℕ) (o : Option SeenNode) (links : Option Links) → LinkedAt nodes k o links → list_all (consumer_below (length (clocks_of nodes))) (option_map_or (λ l. option_to_list l.consumer) links []) ≡ true
consumers_by nodes k o None h = refl
consumers_by nodes k o (Some l) h = let found = h l refl in consumer_of_below nodes k found.0 l.consumer found.2.consumer

consumers_here : (nodes : List SeenNode) (k : ℕ) → list_all (consumer_below (length (clocks_of nodes))) (consumers_at nodes k) ≡ true
unfolding consumers_at
consumers_here nodes k = consumers_by nodes k (slice_get nodes k) (links_at nodes k) (linked_at nodes k)

assigned_by : (nodes : List SeenNode) (k : ℕ) (o : Option SeenNode) (links : Option Links) → LinkedAt nodes k o links
    → list_all (assigned_below (length (clocks_of nodes))) (option_map_or (λ l. option_map_or (λ node. option_to_list (assigned_of node l.lists)) o []) links []) ≡ true
assigned_by nodes k o None h = refl
assigned_by nodes k o (Some l) h =
    let found = h l refl in
    let P : Option SeenNode → Type 0 = λ x. list_all (assigned_below (length (clocks_of nodes))) (option_map_or (λ node. option_to_list (assigned_of node l.lists)) x []) ≡ true in
    subst P (sym found.1) (assigned_of_below nodes found.0 l.lists found.2.lists)

assigned_here : (nodes : List SeenNode) (k : ℕ) → list_all (assigned_below (length (clocks_of nodes))) (assigned_at nodes k) ≡ true
unfolding assigned_at
assigned_here nodes k = assigned_by nodes k (slice_get nodes k) (links_at nodes k) (linked_at nodes k)

count_all : (nodes : List SeenNode) (loaded : SeenLoaded) → Accepts nodes loaded → length (clocks_of nodes) ≡ length loaded.defs
unfolding loaded_before clocks_of
count_all nodes loaded accepts = count_defined nodes (length nodes) accepts.second ∙ sym (ap (λ (x : SeenLoaded). length x.defs) accepts.content)

-- the clocks that consumers name are clocks of the description
pub consumers_within : (nodes : List SeenNode) (loaded : SeenLoaded) → Accepts nodes loaded → list_all (consumer_below (length loaded.defs)) loaded.consumers ≡ true
unfolding loaded_before
consumers_within nodes loaded accepts =
    let same : joined (consumers_at nodes) (length nodes) ≡ loaded.consumers = sym (ap (λ (x : SeenLoaded). x.consumers) accepts.content) in
    subst (λ n. list_all (consumer_below n) loaded.consumers ≡ true) (count_all nodes loaded accepts)
    (subst (λ cs. list_all (consumer_below (length (clocks_of nodes))) cs ≡ true) same (all_joined (consumers_at nodes) (consumer_below (length (clocks_of nodes))) (length nodes) (λ k low. consumers_here nodes k)))

-- and so are the assigned ones and their new parents
pub assigned_within : (nodes : List SeenNode) (loaded : SeenLoaded) → Accepts nodes loaded → list_all (assigned_below (length loaded.defs)) loaded.assigned ≡ true
unfolding loaded_before
assigned_within nodes loaded accepts =
    let same : joined (assigned_at nodes) (length nodes) ≡ loaded.assigned = sym (ap (λ (x : SeenLoaded). x.assigned) accepts.content) in
    subst (λ n. list_all (assigned_below n) loaded.assigned ≡ true) (count_all nodes loaded accepts)
    (subst (λ cs. list_all (assigned_below (length (clocks_of nodes))) cs ≡ true) same (all_joined (assigned_at nodes) (assigned_below (length (clocks_of nodes))) (length nodes) (λ k low. assigned_here nodes k)))
