-- The names of a node's clocks are names of clocks, and new, if the first look finds no fault.
use Rattle.std.proofs.Common.{◌≡◌, ℕ, ◌+◌, ◌<◌, Bool, true, false, not, cond, List, [], ◌∷◌, ◌++◌, map, length, get_or, take, drop, append_assoc, Option, Some, None, Result, Ok, Err, refl, sym, ap, ◌∙◌, inl, inr, string_bytes}
use Rattle.std.specs.Prelude.{◌&&◌, ◌||◌, slice_get}
use Rattle.std.specs.List.{list_any, list_all}
use Rattle.std.specs.Option.{option_map_or}
use Rattle.std.specs.Result.{result_ok}
use Rattle.std.specs.Str.{bytes_eq}
use Rattle.std.proofs.lemmas.Bool.{cases_Bool}
use Rattle.std.proofs.lemmas.List.{at_drop_more, map-append, take_more}
use Rattle.std.proofs.lemmas.Option.{none-some, same_Some}
use Rattle.bundle_text.specs.Firsts.{KeepsBelow}
use Rattle.bundle_text.specs.Names.{is_clock_name}
use Rattle.clk_base.specs.declared.clock.ClockDef.{ClockDef}
use Rattle.clk_base.specs.declared.clock.ClockId.{ClockId}
use Rattle.clk_base.specs.declared.flags.ClkFlags.{ClkFlags}
use Rattle.clk_base.specs.Description.{Description, has_name}
use Rattle.dts_tree.specs.Tree.{SeenNode}
use Rattle.dts_tree.proofs.Taking.{list_any-map}
use Rattle.dts_bindings.specs.declared.bound.BoundClock.{BoundClock}
use Rattle.dts_bindings.specs.declared.fault.BindingFault.{BindingFault}
use Rattle.dts_bindings.specs.Binding.{SeenBinding, binding_of}
use Rattle.dts_bindings.specs.Clocks.{SeenClock, seen_clock}
use Rattle.dts_bindings.specs.Properties.{is_provider}
use Rattle.dts_clocks.specs.declared.fault.DtsFault.TheVariants.{MissingProperty, BadName, TwiceNamed}
use Rattle.dts_clocks.specs.Above.{is_passed}
use Rattle.dts_clocks.specs.Clocks.{own_binding, binding_at}
use Rattle.dts_clocks.specs.FirstPass.{names_in, names_before, has_twin, wants_one, binding_fault, node_fault, first_fault}
use Rattle.dts_clocks.specs.Loaded.{SeenLoaded, def_with, loaded_before}
use Rattle.dts_clocks.specs.References.{leaves_over}
use Rattle.dts_clocks.specs.SecondPass.{second_fault}
use Rattle.dts_clocks.proofs.Looks.{binding_at-passed}
use Rattle.dts_clocks.proofs.Parented.{names_defined, binding_at-behind}
use Rattle.dts_clocks.proofs.Twins.{fault_by, twin_cons}

-- a binding without a fault has names of clocks, and no twins
no_fault : (over named twin : Bool) (line : ℕ) → cond over (Some (MissingProperty line)) (cond (not named) (Some (BadName line)) (cond twin (Some (TwiceNamed line)) None)) ≡ None
    → (named ≡ true) × (twin ≡ false)
no_fault true named twin line e = absurd (none-some _ (sym e))
no_fault false true true line e = absurd (none-some _ (sym e))
no_fault false true false line e = (refl, refl)
no_fault false false twin line e = absurd (none-some _ (sym e))

binding_fine : (nodes : List SeenNode) (taken : List (List ℕ)) (line : ℕ) (b : SeenBinding) → binding_fault nodes taken line b ≡ None
    → (list_all is_clock_name (names_in b) ≡ true) × (has_twin taken (names_in b) ≡ false)
binding_fine nodes taken line b e =
    no_fault (wants_one b.wants && leaves_over nodes b.inputs) (list_all is_clock_name (names_in b)) (has_twin taken (names_in b)) line (sym (fault_by nodes taken line b _ _ _ refl refl refl) ∙ e)

-- a provider's own binding
own_parts : (p : Bool) (r : Result SeenBinding BindingFault) (b : SeenBinding) → cond p (result_ok r) None ≡ Some b → (p ≡ true) × (r ≡ Ok b)
own_parts true (Ok x) b e = let P : SeenBinding → Result SeenBinding BindingFault = λ y. Ok y in (refl, ap P (same_Some x b e))
own_parts true (Err f) b e = absurd (none-some b e)
own_parts false r b e = absurd (none-some b e)

own_is : (node : SeenNode) (b : SeenBinding) → own_binding node ≡ Some b → (is_provider node ≡ true) × (binding_of node ≡ Ok b)
unfolding own_binding
own_is node b e = own_parts (is_provider node) (binding_of node) b e

node_fault-bound : (nodes : List SeenNode) (taken : List (List ℕ)) (node : SeenNode) (b : SeenBinding) → is_provider node ≡ true → binding_of node ≡ Ok b → node_fault nodes taken node ≡ binding_fault nodes taken node.line b
unfolding node_fault
node_fault-bound nodes taken node b provider own = rw (provider, own) refl

binding_at-is : (nodes : List SeenNode) (k : ℕ) (node : SeenNode) → is_passed nodes k ≡ false → slice_get nodes k ≡ Some node → binding_at nodes k ≡ own_binding node
unfolding binding_at
binding_at-is nodes k node e at = rw (e, at) refl

first_fault-is : (nodes : List SeenNode) (k : ℕ) (node : SeenNode) → is_passed nodes k ≡ false → slice_get nodes k ≡ Some node → first_fault nodes k ≡ node_fault nodes (names_before nodes k) node
unfolding first_fault
first_fault-is nodes k node e at = rw (e, at) refl

-- the binding of a node was judged, and has no fault
judged_by : (nodes : List SeenNode) (k : ℕ) (b : SeenBinding) (o : Option SeenNode) → slice_get nodes k ≡ o → is_passed nodes k ≡ false → binding_at nodes k ≡ Some b → first_fault nodes k ≡ None
    → (line : ℕ) × (binding_fault nodes (names_before nodes k) line b ≡ None)
judged_by nodes k b None at e bound kept = absurd (none-some b (sym (binding_at-behind nodes k e at) ∙ bound))
judged_by nodes k b (Some node) at e bound kept =
    let own = own_is node b (sym (binding_at-is nodes k node e at) ∙ bound) in
    (node.line, sym (node_fault-bound nodes (names_before nodes k) node b own.0 own.1) ∙ (sym (first_fault-is nodes k node e at) ∙ kept))

judged_at : (nodes : List SeenNode) (k : ℕ) (b : SeenBinding) → binding_at nodes k ≡ Some b → first_fault nodes k ≡ None → (line : ℕ) × (binding_fault nodes (names_before nodes k) line b ≡ None)
judged_at nodes k b bound kept =
    elim (cases_Bool (is_passed nodes k)) [
      | inl passed ↦ absurd (none-some b (sym (binding_at-passed nodes k passed) ∙ bound))
      | inr here ↦ judged_by nodes k b (slice_get nodes k) refl here bound kept
    ]

fresh_at : (nodes : List SeenNode) (k : ℕ) (b : SeenBinding) → binding_at nodes k ≡ Some b → first_fault nodes k ≡ None → has_twin (names_before nodes k) (names_in b) ≡ false
fresh_at nodes k b bound kept = let judged = judged_at nodes k b bound kept in (binding_fine nodes (names_before nodes k) judged.0 b judged.1).1

-- each name is one of a clock
pub named_at : (nodes : List SeenNode) (k : ℕ) (b : SeenBinding) → binding_at nodes k ≡ Some b → first_fault nodes k ≡ None → list_all is_clock_name (names_in b) ≡ true
named_at nodes k b bound kept = let judged = judged_at nodes k b bound kept in (binding_fine nodes (names_before nodes k) judged.0 b judged.1).0

-- the names of a description
abbrev pub names_of : Description → List (List ℕ)
names_of defs = map (λ (d : ClockDef). d.name) defs

-- the clocks of a binding have none of the names of the clocks before, and no name twice
abbrev pub has_twins : Description → Option SeenBinding → Bool
has_twins defs o = option_map_or (λ b. has_twin (names_of defs) (names_in b)) o false

fresh_bound : (nodes : List SeenNode) (k : ℕ) (o : Option SeenBinding) (defs : Description) → binding_at nodes k ≡ o → first_fault nodes k ≡ None → names_of defs ≡ names_before nodes k → has_twins defs o ≡ false
fresh_bound nodes k None defs bound kept same = refl
fresh_bound nodes k (Some b) defs bound kept same = ap (λ ns. has_twin ns (names_in b)) same ∙ fresh_at nodes k b bound kept

pub fresh : (nodes : List SeenNode) (k : ℕ) (o : Option SeenBinding) (old : SeenLoaded) → o ≡ binding_at nodes k → first_fault nodes k ≡ None → KeepsBelow (second_fault nodes) k → old ≡ loaded_before nodes k → has_twins old.defs o ≡ false
unfolding loaded_before
fresh nodes k o old bound first second so_far = fresh_bound nodes k o old.defs (sym bound) first (ap (λ (x : SeenLoaded). names_of x.defs) so_far ∙ names_defined nodes k second)

-- none of two tests passes
neither : (a b : Bool) → (a || b) ≡ false → (a ≡ false) × (b ≡ false)
neither true b e = absurd (cc)
neither false b e = (refl, e)

-- the names that are left, by the first of them
left_names : (cs : List BoundClock) (i : ℕ) (clock : BoundClock) → i < length cs → clock ≡ get_or cs i clock → map (λ (c : SeenClock). c.name) (map seen_clock (drop i cs)) ≡ string_bytes clock.name ∷ map (λ (c : SeenClock). c.name) (map seen_clock (drop (i + 1) cs))
left_names cs i clock low is =
    at_drop_more (λ (ks : List BoundClock). map (λ (c : SeenClock). c.name) (map seen_clock ks)) cs i clock low ∙ ap (λ (c : BoundClock). string_bytes c.name ∷ map (λ (k : SeenClock). k.name) (map seen_clock (drop (i + 1) cs))) (sym is)

next_parts : (defs : Description) (cs : List BoundClock) (i : ℕ) (clock : BoundClock) → i < length cs → clock ≡ get_or cs i clock → has_twin (names_of defs) (map (λ (c : SeenClock). c.name) (map seen_clock (drop i cs))) ≡ false
    → (list_any (bytes_eq (string_bytes clock.name)) (names_of defs) ≡ false) × (has_twin (names_of defs ++ string_bytes clock.name ∷ []) (map (λ (c : SeenClock). c.name) (map seen_clock (drop (i + 1) cs))) ≡ false)
next_parts defs cs i clock low is none =
    neither (list_any (bytes_eq (string_bytes clock.name)) (names_of defs)) (has_twin (names_of defs ++ string_bytes clock.name ∷ []) (map (λ (c : SeenClock). c.name) (map seen_clock (drop (i + 1) cs))))
    (sym (ap (has_twin (names_of defs)) (left_names cs i clock low is) ∙ twin_cons (names_of defs) (string_bytes clock.name) (map (λ (c : SeenClock). c.name) (map seen_clock (drop (i + 1) cs)))) ∙ none)

-- no clock has the next name
pub next_fresh : (defs : Description) (cs : List BoundClock) (i : ℕ) (clock : BoundClock) → i < length cs → clock ≡ get_or cs i clock → has_twin (names_of defs) (map (λ (c : SeenClock). c.name) (map seen_clock (drop i cs))) ≡ false
    → has_name defs (string_bytes clock.name) ≡ false
next_fresh defs cs i clock low is none = sym (list_any-map (bytes_eq (string_bytes clock.name)) (λ (d : ClockDef). d.name) defs) ∙ (next_parts defs cs i clock low is none).0

-- the names behind it are new, too
pub rest_fresh : (defs new : Description) (flags : ClkFlags) (parents : List ClockId) (cs : List BoundClock) (i : ℕ) (clock : BoundClock) → i < length cs → clock ≡ get_or cs i clock → new ≡ defs ++ def_with flags parents (seen_clock clock) ∷ []
    → has_twin (names_of defs) (map (λ (c : SeenClock). c.name) (map seen_clock (drop i cs))) ≡ false → has_twin (names_of new) (map (λ (c : SeenClock). c.name) (map seen_clock (drop (i + 1) cs))) ≡ false
rest_fresh defs new flags parents cs i clock low is pushed none =
    let names : names_of new ≡ names_of defs ++ string_bytes clock.name ∷ [] = ap names_of pushed ∙ map-append (λ (d : ClockDef). d.name) defs (def_with flags parents (seen_clock clock) ∷ []) in
    ap (λ ns. has_twin ns (map (λ (c : SeenClock). c.name) (map seen_clock (drop (i + 1) cs)))) names ∙ (next_parts defs cs i clock low is none).1

-- the records so far, with that of one clock more
pub defs_more : (start old new : Description) (flags : ClkFlags) (parents : List ClockId) (cs : List BoundClock) (i : ℕ) (clock : BoundClock) → i < length cs → clock ≡ get_or cs i clock → old ≡ start ++ map (def_with flags parents) (map seen_clock (take i cs))
    → new ≡ old ++ def_with flags parents (seen_clock clock) ∷ [] → new ≡ start ++ map (def_with flags parents) (map seen_clock (take (i + 1) cs))
defs_more start old new flags parents cs i clock low is so_far pushed =
    let def : SeenClock → ClockDef = def_with flags parents in
    let last : map def (map seen_clock (take (i + 1) cs)) ≡ map def (map seen_clock (take i cs)) ++ def (seen_clock clock) ∷ [] =
    ap (λ ks. map def (map seen_clock ks)) (take_more cs i clock low) ∙ (ap (map def) (map-append seen_clock (take i cs) (get_or cs i clock ∷ []))
    ∙ (map-append def (map seen_clock (take i cs)) (seen_clock (get_or cs i clock) ∷ []) ∙ ap (λ (c : BoundClock). map def (map seen_clock (take i cs)) ++ def (seen_clock c) ∷ []) (sym is))) in
    pushed ∙ (ap (λ ds. ds ++ def (seen_clock clock) ∷ []) so_far ∙ (append_assoc start (map def (map seen_clock (take i cs))) (def (seen_clock clock) ∷ []) ∙ ap (λ ds. start ++ ds) (sym last)))
