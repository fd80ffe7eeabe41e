-- Each clock that is loaded has its parents.
use Rattle.std.proofs.Common.{◌≡◌, ℕ, zero, suc, ◌<◌, Bool, true, false, cond, List, [], ◌∷◌, ◌++◌, map, length, get_or, Option, Some, None, refl, sym, ap, ◌∙◌, arith, inl, inr, subst}
use Rattle.std.specs.Prelude.{◌&&◌, nat_lt, slice_get}
use Rattle.std.specs.List.{list_all, position}
use Rattle.std.specs.Option.{option_map, option_map_or, option_and_then}
use Rattle.std.proofs.lemmas.Bool.{both_ways, cases_Bool, lt-ltb}
use Rattle.std.proofs.lemmas.List.{length-map, map-append}
use Rattle.std.proofs.lemmas.List.Folds.{list_all-append, list_all_at}
use Rattle.std.proofs.lemmas.List.Quantifiers.{position-Some}
use Rattle.std.proofs.lemmas.Option.{none-some, same_Some}
use Rattle.bundle_text.specs.Firsts.{KeepsBelow}
use Rattle.clk_base.specs.declared.clock.ClockDef.{ClockDef}
use Rattle.clk_base.specs.declared.clock.ClockId.{ClockId}
use Rattle.clk_base.specs.declared.clock.Kind.TheVariants.{FixedRate}
use Rattle.clk_base.specs.declared.flags.ClkFlags.{ClkFlags}
use Rattle.clk_base.specs.Description.{Description, nobody, EachClock}
use Rattle.clk_base.specs.Places.{places}
use Rattle.clk_base.specs.Valid.{can_have_parents, has_its_parents}
use Rattle.dts_tree.specs.declared.tree.Cell.{Cell}
use Rattle.dts_tree.specs.declared.tree.Cell.TheVariants as cells
use Rattle.dts_tree.specs.Tree.{SeenNode}
use Rattle.dts_bindings.specs.Binding.{SeenBinding}
use Rattle.dts_bindings.specs.Clocks.{SeenClock}
use Rattle.dts_clocks.specs.declared.reference.Reference.{Reference}
use Rattle.dts_clocks.specs.declared.reference.Reference.TheVariants.{Null, Whole, Begun, Lacking}
use Rattle.dts_clocks.specs.declared.reference.Specifier.{Specifier}
use Rattle.dts_clocks.specs.Above.{is_passed}
use Rattle.dts_clocks.specs.Assigned.{Lists, lists_of}
use Rattle.dts_clocks.specs.Clocks.{Held, held_by, binding_at, clocks_at, clocks_of, clock_id, clock_of, names_clock, specifier, identified, with_clock, clocks_named}
use Rattle.dts_clocks.specs.Consumers.{SeenConsumer, consumer_of}
use Rattle.dts_clocks.specs.FirstPass.{names_before}
use Rattle.dts_clocks.specs.Joined.{joined}
use Rattle.dts_clocks.specs.Loaded.{SeenLoaded, def_with, defs_with, defs_at, loaded_before}
use Rattle.dts_clocks.specs.References.{reference}
use Rattle.dts_clocks.specs.SecondPass.{Links, all_there, fitting, parents_of, parents_at, links_of, links_at, links_fault, second_fault}
use Rattle.dts_clocks.specs.Verdict.{Accepts}
use Rattle.dts_clocks.proofs.Gathering.{defs_here}
use Rattle.dts_clocks.proofs.Linking.{parents_bound}
use Rattle.dts_clocks.proofs.Looks.{binding_at-passed, names_held}
use Rattle.dts_clocks.proofs.Naming.{named_null, named_whole, named_begun, named_unfinished, named_lacking}

-- two tests that pass
pub both_pass : (a b : Bool) → a ≡ true → b ≡ true → (a && b) ≡ true
both_pass a b e f = rw (e, f) refl

pub passes_both : (a b : Bool) → (a && b) ≡ true → (a ≡ true) × (b ≡ true)
passes_both true b e = (refl, e)
passes_both false b e = absurd (cc)

-- a list that passes, in parts
pub all_append : {X : Type 0} (p : X → Bool) (xs ys : List X) → list_all p xs ≡ true → list_all p ys ≡ true → list_all p (xs ++ ys) ≡ true
all_append p xs ys a b = list_all-append p xs ys ∙ both_pass (list_all p xs) (list_all p ys) a b

pub all_joined : {X : Type 0} (f : ℕ → List X) (p : X → Bool) (n : ℕ) → ((k : ℕ) → k < n → list_all p (f k) ≡ true) → list_all p (joined f n) ≡ true
unfolding joined
all_joined f p zero each = refl
all_joined f p (suc n) each = all_append p (joined f n) (f n) (all_joined f p n (λ k low. each k (omega arith))) (each n (omega arith))

map_joined : {X Y Z : Type 0} (f : X → Z) (g : Y → Z) (xs : ℕ → List X) (ys : ℕ → List Y) (n : ℕ) → ((k : ℕ) → k < n → map f (xs k) ≡ map g (ys k)) → map f (joined xs n) ≡ map g (joined ys n)
unfolding joined
map_joined f g xs ys zero each = refl
map_joined f g xs ys (suc n) each =
    let before = map_joined f g xs ys n (λ k low. each k (omega arith)) in
    map-append f (joined xs n) (xs n) ∙ (ap (λ zs. zs ++ map f (xs n)) before ∙ (ap (λ zs. map g (joined ys n) ++ zs) (each n (omega arith)) ∙ sym (map-append g (joined ys n) (ys n))))

-- a clock among the first n, if there is one
abbrev pub is_below : ℕ → Option ClockId → Bool
is_below n o = option_map_or (λ c. nat_lt c.0 n) o true

-- a clock that no provider has
abbrev pub no_clock : Held
no_clock = record { node = 0; clock = record { name = []; identifier = 0; kind = FixedRate 0 } }

id_below : (n : ℕ) (o : Option ℕ) (c : ClockId) → ((k : ℕ) → o ≡ Some k → k < n) → option_map clock_id o ≡ Some c → nat_lt c.0 n ≡ true
id_below n None c below e = absurd (none-some c e)
id_below n (Some k) c below e = let same : k ≡ c.0 = ap (λ (x : ClockId). x.0) (same_Some (clock_id k) c e) in subst (λ m. nat_lt m n ≡ true) same (lt-ltb k n (below k refl))

-- a clock that a specifier names is one of the providers' clocks
clock_of-below : (nodes : List SeenNode) (s : Specifier) (c : ClockId) → clock_of nodes s ≡ Some c → nat_lt c.0 (length (clocks_of nodes)) ≡ true
unfolding clock_of
clock_of-below nodes s c e = id_below (length (clocks_of nodes)) (position (names_clock s) (clocks_of nodes)) c (λ k found. (position-Some (names_clock s) (clocks_of nodes) k no_clock found).0) e

-- where cells name clocks, these are below
abbrev pub Below : ℕ → Option (List (Option ClockId)) → Type 0
Below n named = (clocks : List (Option ClockId)) → named ≡ Some clocks → list_all (is_below n) clocks ≡ true

none_below : (n : ℕ) (named : Option (List (Option ClockId))) → named ≡ None → Below n named
none_below n named none clocks e = absurd (none-some clocks (sym none ∙ e))

onto_below : (n : ℕ) (here : Option ClockId) (o : Option (List (Option ClockId))) → is_below n here ≡ true → Below n o → Below n (option_map (λ more. here ∷ more) o)
onto_below n here None low rest clocks e = absurd (none-some clocks e)
onto_below n here (Some more) low rest clocks e = subst (λ cs. list_all (is_below n) cs ≡ true) (same_Some (here ∷ more) clocks e) (both_pass (is_below n here) (list_all (is_below n) more) low (rest more refl))

clock_below : (n : ℕ) (o : Option ClockId) (rest : Option (List (Option ClockId))) → ((c : ClockId) → o ≡ Some c → nat_lt c.0 n ≡ true) → Below n rest → Below n (with_clock o rest)
clock_below n None rest low below = none_below n None refl
clock_below n (Some c) rest low below = onto_below n (Some c) rest (low c refl) below

identified_below : (nodes : List SeenNode) (p : ℕ) (cell : Cell) (c : ClockId) → identified nodes p cell ≡ Some c → nat_lt c.0 (length (clocks_of nodes)) ≡ true
identified_below nodes p (cells.Number i) c e = clock_of-below nodes (specifier p (Some i)) c e
identified_below nodes p (cells.Node n) c e = absurd (none-some c e)

-- the clock of the first specifier is below, and so are those that the cells behind it name
first_below : (nodes : List SeenNode) (cell : Cell) (rest : List Cell) (r : Reference) → reference nodes cell ≡ r → Below (length (clocks_of nodes)) (clocks_named nodes rest) → ((p : ℕ) → r ≡ Begun p → Below (length (clocks_of nodes)) (clocks_named nodes (cell ∷ rest))) → Below (length (clocks_of nodes)) (clocks_named nodes (cell ∷ rest))
first_below nodes cell rest Null e below begun = subst (Below (length (clocks_of nodes))) (sym (named_null nodes cell rest e)) (onto_below (length (clocks_of nodes)) None (clocks_named nodes rest) refl below)
first_below nodes cell rest (Whole p) e below begun =
    subst (Below (length (clocks_of nodes))) (sym (named_whole nodes cell rest p e)) (clock_below (length (clocks_of nodes)) (clock_of nodes (specifier p None)) (clocks_named nodes rest) (clock_of-below nodes (specifier p None)) below)
first_below nodes cell rest (Begun p) e below begun = begun p refl
first_below nodes cell rest Lacking e below begun = none_below (length (clocks_of nodes)) (clocks_named nodes (cell ∷ rest)) (named_lacking nodes cell rest e)

begun_below : (nodes : List SeenNode) (cell next : Cell) (rest : List Cell) (p : ℕ) → reference nodes cell ≡ Begun p → Below (length (clocks_of nodes)) (clocks_named nodes rest) → Below (length (clocks_of nodes)) (clocks_named nodes (cell ∷ next ∷ rest))
begun_below nodes cell next rest p e below =
    subst (Below (length (clocks_of nodes))) (sym (named_begun nodes cell next rest p e)) (clock_below (length (clocks_of nodes)) (identified nodes p next) (clocks_named nodes rest) (identified_below nodes p next) below)

nothing_below : (nodes : List SeenNode) → Below (length (clocks_of nodes)) (clocks_named nodes [])
unfolding clocks_named
nothing_below nodes clocks e = subst (λ cs. list_all (is_below (length (clocks_of nodes))) cs ≡ true) (same_Some [] clocks e) refl

pub named_below : (nodes : List SeenNode) (cells : List Cell) → Below (length (clocks_of nodes)) (clocks_named nodes cells)
named_below nodes [] = nothing_below nodes
named_below nodes (cell ∷ []) = first_below nodes cell [] (reference nodes cell) refl (nothing_below nodes) (λ p e. none_below (length (clocks_of nodes)) (clocks_named nodes (cell ∷ [])) (named_unfinished nodes cell p e))
named_below nodes (cell ∷ next ∷ rest) = first_below nodes cell (next ∷ rest) (reference nodes cell) refl (named_below nodes (next ∷ rest)) (λ p e. begun_below nodes cell next rest p e (named_below nodes rest))

-- the clocks that are there are below, where all are
there_ahead : (n : ℕ) (c : ClockId) (parents : List ClockId) (o : Option (List ClockId)) → nat_lt c.0 n ≡ true → ((rest : List ClockId) → o ≡ Some rest → list_all (λ p. nat_lt p n) (places rest) ≡ true) → option_map (λ rest. c ∷ rest) o ≡ Some parents
    → list_all (λ p. nat_lt p n) (places parents) ≡ true
there_ahead n c parents None low below e = absurd (none-some parents e)
there_ahead n c parents (Some rest) low below e =
    subst (λ ps. list_all (λ p. nat_lt p n) (places ps) ≡ true) (same_Some (c ∷ rest) parents e) (both_pass (nat_lt c.0 n) (list_all (λ p. nat_lt p n) (places rest)) low (below rest refl))

there_below : (n : ℕ) (clocks : List (Option ClockId)) (parents : List ClockId) → list_all (is_below n) clocks ≡ true → all_there clocks ≡ Some parents → list_all (λ p. nat_lt p n) (places parents) ≡ true
unfolding all_there
there_below n [] parents all there = subst (λ ps. list_all (λ p. nat_lt p n) (places ps) ≡ true) (same_Some [] parents there) refl
there_below n (None ∷ clocks) parents all there = absurd (none-some parents there)
there_below n (Some c ∷ clocks) parents all there =
    let low = passes_both (nat_lt c.0 n) (list_all (is_below n) clocks) all in there_ahead n c parents (all_there clocks) low.0 (λ rest found. there_below n clocks rest low.1 found) there

-- what fits is what was found, and fits
fitting-is : (clocks : List SeenClock) (found parents : List ClockId) → fitting clocks found ≡ Some parents → (found ≡ parents) × (list_all (λ c. can_have_parents c.kind (length found)) clocks ≡ true)
fitting-is clocks found parents e = at (list_all (λ c. can_have_parents c.kind (length found)) clocks) refl e where
  at : (b : Bool) → list_all (λ c. can_have_parents c.kind (length found)) clocks ≡ b → cond b (Some found) None ≡ Some parents → (found ≡ parents) × (list_all (λ c. can_have_parents c.kind (length found)) clocks ≡ true)
  at true f h = (same_Some found parents h, f)
  at false f h = absurd (none-some parents h)

-- as many parents as each of the clocks can have, all of them below
abbrev pub Fit : ℕ → List SeenClock → List ClockId → Type 0
Fit n clocks parents = (list_all (λ c. can_have_parents c.kind (length parents)) clocks ≡ true) × (list_all (λ p. nat_lt p n) (places parents) ≡ true)

fit_found : (n : ℕ) (clocks : List SeenClock) (named : List (Option ClockId)) (parents : List ClockId) (found : Option (List ClockId)) → all_there named ≡ found → list_all (is_below n) named ≡ true → option_and_then (fitting clocks) found ≡ Some parents
    → Fit n clocks parents
fit_found n clocks named parents None there below e = absurd (none-some parents e)
fit_found n clocks named parents (Some found) there below e =
    let fit = fitting-is clocks found parents e in
    (subst (λ ps. list_all (λ c. can_have_parents c.kind (length ps)) clocks ≡ true) fit.0 fit.1, subst (λ ps. list_all (λ p. nat_lt p n) (places ps) ≡ true) fit.0 (there_below n named found below there))

fit_named : (n : ℕ) (clocks : List SeenClock) (parents : List ClockId) (o : Option (List (Option ClockId))) → ((named : List (Option ClockId)) → o ≡ Some named → list_all (is_below n) named ≡ true)
    → option_and_then (fitting clocks) (option_and_then all_there o) ≡ Some parents → Fit n clocks parents
fit_named n clocks parents None below e = absurd (none-some parents e)
fit_named n clocks parents (Some named) below e = fit_found n clocks named parents (all_there named) refl (below named refl) e

parents_of-fit : (nodes : List SeenNode) (b : SeenBinding) (parents : List ClockId) → parents_of nodes b ≡ Some parents → Fit (length (clocks_of nodes)) b.clocks parents
unfolding parents_of
parents_of-fit nodes b parents e = fit_named (length (clocks_of nodes)) b.clocks parents (clocks_named nodes b.inputs) (named_below nodes b.inputs) e

-- a binding without a fault has links
linked_parents : (parents : Option (List ClockId)) (consumer : Option (Option SeenConsumer)) (lists : Option Lists) (l : Links)
    → option_and_then (λ ps. option_and_then (λ c. option_map (λ ls. record { parents = ps; consumer = c; lists = ls }) lists) consumer) parents ≡ Some l → parents ≡ Some l.parents
linked_parents None consumer lists l e = absurd (none-some l e)
linked_parents (Some ps) None lists l e = absurd (none-some l e)
linked_parents (Some ps) (Some c) None l e = absurd (none-some l e)
linked_parents (Some ps) (Some c) (Some ls) l e =
    let P : List ClockId → Option (List ClockId) = λ xs. Some xs in
    ap (λ (x : Links). P x.parents) (same_Some _ l e)

links_of-parents : (nodes : List SeenNode) (k : ℕ) (node : SeenNode) (l : Links) → links_of nodes k node ≡ Some l → parents_at nodes k ≡ Some l.parents
unfolding links_of
links_of-parents nodes k node l e = linked_parents (parents_at nodes k) (consumer_of nodes k node) (lists_of nodes node) l e

links_at-is : (nodes : List SeenNode) (k : ℕ) (node : SeenNode) → is_passed nodes k ≡ false → slice_get nodes k ≡ Some node → links_at nodes k ≡ links_of nodes k node
unfolding links_at
links_at-is nodes k node e at = rw (e, at) refl

second_fault-is : (nodes : List SeenNode) (k : ℕ) (node : SeenNode) → is_passed nodes k ≡ false → slice_get nodes k ≡ Some node → second_fault nodes k ≡ links_fault nodes k node (links_of nodes k node)
unfolding second_fault
second_fault-is nodes k node e at = rw (e, at) refl

pub binding_at-behind : (nodes : List SeenNode) (k : ℕ) → is_passed nodes k ≡ false → slice_get nodes k ≡ None → binding_at nodes k ≡ None
unfolding binding_at
binding_at-behind nodes k e none = rw (e, none) refl

-- the links of a node, with its parents
abbrev pub IsLinked : List SeenNode → ℕ → Links → Type 0
IsLinked nodes k l = (links_at nodes k ≡ Some l) × (parents_at nodes k ≡ Some l.parents)

linked_of : (nodes : List SeenNode) (k : ℕ) (node : SeenNode) (found : Option Links) → links_of nodes k node ≡ found → links_at nodes k ≡ found → links_fault nodes k node found ≡ None → (l : Links) × IsLinked nodes k l
linked_of nodes k node None of at kept = absurd (none-some _ (sym kept))
linked_of nodes k node (Some l) of at kept = (l, (at, links_of-parents nodes k node l of))

linked_by : (nodes : List SeenNode) (k : ℕ) (b : SeenBinding) (o : Option SeenNode) → slice_get nodes k ≡ o → is_passed nodes k ≡ false → binding_at nodes k ≡ Some b → second_fault nodes k ≡ None → (l : Links) × IsLinked nodes k l
linked_by nodes k b None at e bound kept = absurd (none-some b (sym (binding_at-behind nodes k e at) ∙ bound))
linked_by nodes k b (Some node) at e bound kept = linked_of nodes k node (links_of nodes k node) refl (links_at-is nodes k node e at) (sym (second_fault-is nodes k node e at) ∙ kept)

bound_linked : (nodes : List SeenNode) (k : ℕ) (b : SeenBinding) → binding_at nodes k ≡ Some b → second_fault nodes k ≡ None → (l : Links) × IsLinked nodes k l
bound_linked nodes k b bound kept =
    elim (cases_Bool (is_passed nodes k)) [
      | inl passed ↦ absurd (none-some b (sym (binding_at-passed nodes k passed) ∙ bound))
      | inr here ↦ linked_by nodes k b (slice_get nodes k) refl here bound kept
    ]

-- a clock's record has its parents, among n clocks
abbrev pub has_parents : ℕ → ClockDef → Bool
has_parents n d = can_have_parents d.kind (length d.parents) && list_all (λ p. nat_lt p n) d.parents

defs_pass : (n : ℕ) (flags : ClkFlags) (parents : List ClockId) (clocks : List SeenClock) → Fit n clocks parents → list_all (has_parents n) (map (def_with flags parents) clocks) ≡ true
defs_pass n flags parents [] fit = refl
defs_pass n flags parents (c ∷ cs) fit =
    let each = passes_both (can_have_parents c.kind (length parents)) (list_all (λ (k : SeenClock). can_have_parents k.kind (length parents)) cs) fit.0 in
    let count : length (places parents) ≡ length parents = length-map parents (λ (k : ClockId). k.0) in
    let many : can_have_parents c.kind (length (places parents)) ≡ true = ap (can_have_parents c.kind) count ∙ each.0 in
    both_pass (has_parents n (def_with flags parents c)) (list_all (has_parents n) (map (def_with flags parents) cs)) (both_pass _ _ many fit.1) (defs_pass n flags parents cs (each.1, fit.1))

-- the clocks of one node
defs_bound : (nodes : List SeenNode) (k : ℕ) (b : SeenBinding) (l : Links) → binding_at nodes k ≡ Some b → links_at nodes k ≡ Some l → defs_at nodes k ≡ map (def_with b.flags l.parents) b.clocks
defs_bound nodes k b l bound linked = sym (defs_here nodes k l (Some b) (sym linked) (sym bound))

nothing_unbound : (o : Option Links) → option_map_or (λ (l : Links). option_map_or (defs_with l.parents) None []) o [] ≡ []
nothing_unbound None = refl
nothing_unbound (Some l) = refl

defs_unbound : (nodes : List SeenNode) (k : ℕ) → binding_at nodes k ≡ None → defs_at nodes k ≡ []
unfolding defs_at
defs_unbound nodes k none = rw none (nothing_unbound (links_at nodes k))

clocks_bound : (nodes : List SeenNode) (k : ℕ) (b : SeenBinding) → binding_at nodes k ≡ Some b → clocks_at nodes k ≡ map (held_by k) b.clocks
unfolding clocks_at
clocks_bound nodes k b bound = rw bound refl

clocks_unbound : (nodes : List SeenNode) (k : ℕ) → binding_at nodes k ≡ None → clocks_at nodes k ≡ []
unfolding clocks_at
clocks_unbound nodes k none = rw none refl

-- a record has its clock's name
defs_named : (flags : ClkFlags) (parents : List ClockId) (clocks : List SeenClock) → map (λ (d : ClockDef). d.name) (map (def_with flags parents) clocks) ≡ map (λ (c : SeenClock). c.name) clocks
defs_named flags parents [] = refl
defs_named flags parents (c ∷ cs) = ap (λ names. c.name ∷ names) (defs_named flags parents cs)

-- the records have the clocks' names, and all have their parents
abbrev pub Whole_at : List SeenNode → ℕ → Type 0
Whole_at nodes k = (map (λ (d : ClockDef). d.name) (defs_at nodes k) ≡ map (λ (c : Held). c.clock.name) (clocks_at nodes k)) × (list_all (has_parents (length (clocks_of nodes))) (defs_at nodes k) ≡ true)

whole_bound : (nodes : List SeenNode) (k : ℕ) (b : SeenBinding) (l : Links) → binding_at nodes k ≡ Some b → IsLinked nodes k l → Whole_at nodes k
whole_bound nodes k b l bound linked =
    let defs = defs_bound nodes k b l bound linked.0 in
    let fit = parents_of-fit nodes b l.parents (parents_bound nodes k (Some b) (sym bound) ∙ linked.1) in (
      ap (map (λ (d : ClockDef). d.name)) defs ∙ (defs_named b.flags l.parents b.clocks ∙ (sym (names_held k b.clocks) ∙ sym (ap (map (λ (c : Held). c.clock.name)) (clocks_bound nodes k b bound)))),
      ap (list_all (has_parents (length (clocks_of nodes)))) defs ∙ defs_pass (length (clocks_of nodes)) b.flags l.parents b.clocks fit,
    )

whole_by : (nodes : List SeenNode) (k : ℕ) (o : Option SeenBinding) → binding_at nodes k ≡ o → second_fault nodes k ≡ None → Whole_at nodes k
whole_by nodes k None bound kept =
    (ap (map (λ (d : ClockDef). d.name)) (defs_unbound nodes k bound) ∙ sym (ap (map (λ (c : Held). c.clock.name)) (clocks_unbound nodes k bound)), ap (list_all (has_parents (length (clocks_of nodes)))) (defs_unbound nodes k bound))
whole_by nodes k (Some b) bound kept = let l = bound_linked nodes k b bound kept in whole_bound nodes k b l.0 bound l.1

whole : (nodes : List SeenNode) (k : ℕ) → second_fault nodes k ≡ None → Whole_at nodes k
whole nodes k kept = whole_by nodes k (binding_at nodes k) refl kept

-- the names of the records are those of the clocks
pub names_defined : (nodes : List SeenNode) (n : ℕ) → KeepsBelow (second_fault nodes) n → map (λ (d : ClockDef). d.name) (joined (defs_at nodes) n) ≡ names_before nodes n
unfolding names_before
names_defined nodes n kept = map_joined (λ (d : ClockDef). d.name) (λ (c : Held). c.clock.name) (defs_at nodes) (clocks_at nodes) n (λ k low. (whole nodes k (kept k low)).0)

pub count_defined : (nodes : List SeenNode) (n : ℕ) → KeepsBelow (second_fault nodes) n → length (joined (clocks_at nodes) n) ≡ length (joined (defs_at nodes) n)
unfolding names_before
count_defined nodes n kept =
    sym (length-map (joined (clocks_at nodes) n) (λ (c : Held). c.clock.name)) ∙ (sym (ap length (names_defined nodes n kept)) ∙ length-map (joined (defs_at nodes) n) (λ (d : ClockDef). d.name))

-- all clocks
each_of : (defs : Description) → list_all (has_parents (length defs)) defs ≡ true → EachClock defs (has_its_parents defs)
each_of defs all c low =
    elim (cases_Bool (has_parents (length defs) (get_or defs c nobody))) [
      | inl passes ↦ passes
      | inr fails ↦ absurd (both_ways _ (list_all_at (has_parents (length defs)) defs c nobody low fails) all)
    ]

all_parented : (nodes : List SeenNode) → KeepsBelow (second_fault nodes) (length nodes) → EachClock (joined (defs_at nodes) (length nodes)) (has_its_parents (joined (defs_at nodes) (length nodes)))
unfolding clocks_of
all_parented nodes kept =
    each_of (joined (defs_at nodes) (length nodes))
    (subst (λ n. list_all (has_parents n) (joined (defs_at nodes) (length nodes)) ≡ true) (count_defined nodes (length nodes) kept)
    (all_joined (defs_at nodes) (has_parents (length (clocks_of nodes))) (length nodes) (λ k low. (whole nodes k (kept k low)).1)))

pub parented : (nodes : List SeenNode) (loaded : SeenLoaded) → Accepts nodes loaded → EachClock loaded.defs (has_its_parents loaded.defs)
unfolding loaded_before
parented nodes loaded accepts =
    let same : joined (defs_at nodes) (length nodes) ≡ loaded.defs = sym (ap (λ (x : SeenLoaded). x.defs) accepts.content) in
    subst (λ defs. EachClock defs (has_its_parents defs)) same (all_parented nodes accepts.second)
