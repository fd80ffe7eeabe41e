-- The second look at one node.
use Rattle.std.proofs.Common.{◌≡◌, ℕ, ◌+◌, ◌<◌, ◌≤◌, Bool, true, false, cond, List, [], ◌∷◌, ◌++◌, map, length, get_or, drop, Option, Some, None, refl, sym, ap, ◌∙◌, arith, append_assoc}
use Rattle.std.specs.Prelude.{◌||◌, ◌&&◌, nat_lt, slice_get}
use Rattle.std.specs.List.{list_all}
use Rattle.std.specs.Option.{option_map, option_map_or}
use Rattle.std.proofs.lemmas.List.{at_drop_more, at_drop_all, append-nil}
use Rattle.clk_base.specs.declared.clock.ClockId.{ClockId}
use Rattle.dts_tree.specs.Tree.{SeenNode}
use Rattle.clk_base.specs.declared.clock.Kind.{Kind}
use Rattle.clk_base.specs.Valid.{can_have_parents}
use Rattle.dts_bindings.specs.declared.bound.Binding.{Binding}
use Rattle.dts_bindings.specs.declared.bound.BoundClock.{BoundClock}
use Rattle.dts_bindings.specs.Binding.{SeenBinding, seen_binding}
use Rattle.dts_bindings.specs.Clocks.{SeenClock, seen_clock}
use Rattle.dts_clocks.specs.declared.fault.DtsFault.TheVariants.{BadSpecifier, BadAssigned}
use Rattle.dts_clocks.specs.Above.{is_passed}
use Rattle.dts_clocks.specs.Assigned.{Lists, lists_of, entries, is_too_long, lacks_clocks}
use Rattle.dts_clocks.specs.Clocks.{binding_at, clocks_named}
use Rattle.dts_clocks.specs.Consumers.{SeenConsumer, consumer_of}
use Rattle.dts_clocks.specs.Joined.{total}
use Rattle.dts_clocks.specs.SecondPass.{Links, most_entries, all_there, parents_of, parents_at, links_of, links_at, entries_at, is_bad_assigned, links_fault, second_fault}
use Rattle.dts_clocks.proofs.Joins.{total-more}

-- one clock more of those that are there
there_ahead : (found : List ClockId) (c : ClockId) (o : Option (List ClockId)) → option_map (λ more. found ++ more) (option_map (λ more. c ∷ more) o) ≡ option_map (λ more. (found ++ c ∷ []) ++ more) o
there_ahead found c None = refl
there_ahead found c (Some cs) = let P : List ClockId → Option (List ClockId) = λ xs. Some xs in ap P (sym (append_assoc found (c ∷ []) cs))

there_cons : (item : Option ClockId) (c : ClockId) (rest : List (Option ClockId)) → item ≡ Some c → all_there (item ∷ rest) ≡ option_map (λ more. c ∷ more) (all_there rest)
unfolding all_there
there_cons item c rest is = rw is refl

there_null : (item : Option ClockId) (rest : List (Option ClockId)) → item ≡ None → all_there (item ∷ rest) ≡ None
unfolding all_there
there_null item rest is = rw is refl

pub there_more : (clocks : List (Option ClockId)) (i : ℕ) (d : Option ClockId) (c : ClockId) (found new : List ClockId) → i < length clocks → get_or clocks i d ≡ Some c → new ≡ found ++ c ∷ []
    → all_there clocks ≡ option_map (λ more. found ++ more) (all_there (drop i clocks)) → all_there clocks ≡ option_map (λ more. new ++ more) (all_there (drop (i + 1) clocks))
there_more clocks i d c found new low some pushed was =
    let here : all_there (drop i clocks) ≡ option_map (λ more. c ∷ more) (all_there (drop (i + 1) clocks)) = at_drop_more all_there clocks i d low ∙ there_cons (get_or clocks i d) c (drop (i + 1) clocks) some in
    was ∙ (ap (option_map (λ more. found ++ more)) here ∙ (there_ahead found c (all_there (drop (i + 1) clocks)) ∙ ap (λ (xs : List ClockId). option_map (λ more. xs ++ more) (all_there (drop (i + 1) clocks))) (sym pushed)))

pub there_none : (clocks : List (Option ClockId)) (i : ℕ) (d : Option ClockId) (found : List ClockId) → i < length clocks → get_or clocks i d ≡ None
    → all_there clocks ≡ option_map (λ more. found ++ more) (all_there (drop i clocks)) → None ≡ all_there clocks
there_none clocks i d found low none was =
    sym (was ∙ ap (option_map (λ more. found ++ more)) (at_drop_more all_there clocks i d low ∙ there_null (get_or clocks i d) (drop (i + 1) clocks) none))

pub there_all : (clocks : List (Option ClockId)) (i : ℕ) (found : List ClockId) → length clocks ≤ i → all_there clocks ≡ option_map (λ more. found ++ more) (all_there (drop i clocks)) → Some found ≡ all_there clocks
unfolding all_there
there_all clocks i found all was =
    let P : List ClockId → Option (List ClockId) = λ xs. Some xs in
    sym (was ∙ (ap (option_map (λ more. found ++ more)) (at_drop_all all_there clocks i all) ∙ ap P (append-nil found)))

pub parents_bound : (nodes : List SeenNode) (k : ℕ) (o : Option SeenBinding) → o ≡ binding_at nodes k → option_map_or (parents_of nodes) o (Some []) ≡ parents_at nodes k
unfolding parents_at
parents_bound nodes k o bound = ap (λ p. option_map_or (parents_of nodes) p (Some [])) bound

pub no_parents : (nodes : List SeenNode) (k : ℕ) (node : SeenNode) → None ≡ parents_at nodes k → None ≡ links_of nodes k node
unfolding links_of
no_parents nodes k node a = rw (← a) refl

pub no_consumer : (nodes : List SeenNode) (k : ℕ) (node : SeenNode) (parents : List ClockId) → Some parents ≡ parents_at nodes k → None ≡ consumer_of nodes k node → None ≡ links_of nodes k node
unfolding links_of
no_consumer nodes k node parents a b = rw (← a, ← b) refl

pub no_lists : (nodes : List SeenNode) (k : ℕ) (node : SeenNode) (parents : List ClockId) (consumer : Option SeenConsumer) → Some parents ≡ parents_at nodes k → Some consumer ≡ consumer_of nodes k node → None ≡ lists_of nodes node
    → None ≡ links_of nodes k node
unfolding links_of
no_lists nodes k node parents consumer a b l = rw (← a, ← b, ← l) refl

pub links_made : (nodes : List SeenNode) (k : ℕ) (node : SeenNode) (parents : List ClockId) (consumer : Option SeenConsumer) (lists : Lists) → Some parents ≡ parents_at nodes k → Some consumer ≡ consumer_of nodes k node → Some lists ≡ lists_of nodes node
    → Some (record { parents = parents; consumer = consumer; lists = lists }) ≡ links_of nodes k node
unfolding links_of
links_made nodes k node parents consumer lists a b l = rw (← a, ← b, ← l) refl

pub links_at-passed : (nodes : List SeenNode) (k : ℕ) → is_passed nodes k ≡ true → links_at nodes k ≡ None
unfolding links_at
links_at-passed nodes k e = rw e refl

pub second_fault-passed : (nodes : List SeenNode) (k : ℕ) → is_passed nodes k ≡ true → second_fault nodes k ≡ None
unfolding second_fault
second_fault-passed nodes k e = rw e refl

pub links_at-node : (nodes : List SeenNode) (k : ℕ) (node : SeenNode) → slice_get nodes k ≡ Some node → is_passed nodes k ≡ false → links_of nodes k node ≡ links_at nodes k
unfolding links_at
links_at-node nodes k node at e = rw (e, at) refl

pub second_fault-node : (nodes : List SeenNode) (k : ℕ) (node : SeenNode) → slice_get nodes k ≡ Some node → is_passed nodes k ≡ false → second_fault nodes k ≡ links_fault nodes k node (links_of nodes k node)
unfolding second_fault
second_fault-node nodes k node at e = rw (e, at) refl

pub second_fault-bad : (nodes : List SeenNode) (k : ℕ) (node : SeenNode) → slice_get nodes k ≡ Some node → is_passed nodes k ≡ false → None ≡ links_of nodes k node → second_fault nodes k ≡ Some (BadSpecifier node.line)
second_fault-bad nodes k node at e none = second_fault-node nodes k node at e ∙ ap (links_fault nodes k node) (sym none)

pub more_entries : (nodes : List SeenNode) (k : ℕ) (l : Links) (before : ℕ) → before ≡ total (entries_at nodes) k → Some l ≡ links_at nodes k → before + entries l.lists ≡ total (entries_at nodes) (k + 1)
unfolding entries_at
more_entries nodes k l before so_far linked =
    ap (λ n. n + entries l.lists) so_far ∙ (ap (λ n. total (entries_at nodes) k + n) (ap (λ (o : Option Links). option_map_or (λ m. entries m.lists) o 0) linked) ∙ sym (total-more (entries_at nodes) k))

is_bad_at : (nodes : List SeenNode) (k : ℕ) (node : SeenNode) (l : Links) (before : ℕ) (bad : Bool) → before ≡ total (entries_at nodes) k → Some l ≡ links_at nodes k
    → bad ≡ (is_too_long l.lists || lacks_clocks node || nat_lt most_entries (before + entries l.lists)) → bad ≡ is_bad_assigned nodes k node l.lists
unfolding is_bad_assigned
is_bad_at nodes k node l before bad so_far linked is =
    is ∙ ap (λ n. is_too_long l.lists || lacks_clocks node || nat_lt most_entries n) (more_entries nodes k l before so_far linked)

pub no_entries : (nodes : List SeenNode) (k : ℕ) (before : ℕ) → before ≡ total (entries_at nodes) k → None ≡ links_at nodes k → before ≡ total (entries_at nodes) (k + 1)
unfolding entries_at
no_entries nodes k before so_far none =
    let here : option_map_or (λ m. entries m.lists) (links_at nodes k) 0 ≡ 0 = ap (λ (o : Option Links). option_map_or (λ m. entries m.lists) o 0) (sym none) in
    omega (arith, so_far, here, total-more (entries_at nodes) k)

pub second_fault-linked : (nodes : List SeenNode) (k : ℕ) (node : SeenNode) (l : Links) (before : ℕ) (bad : Bool) → slice_get nodes k ≡ Some node → is_passed nodes k ≡ false → Some l ≡ links_of nodes k node
    → before ≡ total (entries_at nodes) k → bad ≡ (is_too_long l.lists || lacks_clocks node || nat_lt most_entries (before + entries l.lists)) → second_fault nodes k ≡ cond bad (Some (BadAssigned node.line)) None
second_fault-linked nodes k node l before bad at e linked so_far is =
    second_fault-node nodes k node at e ∙ (ap (links_fault nodes k node) (sym linked)
    ∙ ap (λ b. cond b (Some (BadAssigned node.line)) None) (sym (is_bad_at nodes k node l before bad so_far (linked ∙ links_at-node nodes k node at e) is)))

each_seen : (p : Kind → Bool) (cs : List BoundClock) → list_all (λ (c : SeenClock). p c.kind) (map seen_clock cs) ≡ list_all (λ (c : BoundClock). p c.kind) cs
each_seen p [] = refl
each_seen p (c ∷ cs) = ap (λ b. p c.kind && b) (each_seen p cs)

pub parents_fit : (nodes : List SeenNode) (b : Binding) (clocks : List (Option ClockId)) (parents : List ClockId) (n : ℕ) (fits : Bool) → Some clocks ≡ clocks_named nodes b.inputs.items → Some parents ≡ all_there clocks → n ≡ length parents
    → fits ≡ list_all (λ c. can_have_parents c.kind n) b.clocks.items → cond fits (Some parents) None ≡ parents_of nodes (seen_binding b)
unfolding parents_of
parents_fit nodes b clocks parents n fits named there count is =
    let each : fits ≡ list_all (λ (c : SeenClock). can_have_parents c.kind (length parents)) (map seen_clock b.clocks.items) =
    is ∙ (ap (λ m. list_all (λ (c : BoundClock). can_have_parents c.kind m) b.clocks.items) count ∙ sym (each_seen (λ k. can_have_parents k (length parents)) b.clocks.items)) in
    rw (← named, ← there, ← each) refl
