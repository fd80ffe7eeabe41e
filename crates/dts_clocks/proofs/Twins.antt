-- Names of clocks: whether they are names, and whether one is taken.
use Rattle.std.proofs.Common.{◌≡◌, ℕ, ◌+◌, ◌<◌, ◌≤◌, Bool, true, false, not, cond, List, [], ◌∷◌, ◌++◌, map, length, get_or, take, drop, Some, None, refl, sym, ap, ◌∙◌, string_bytes, Global, append_assoc}
use Rattle.std.specs.Prelude.{◌&&◌, ◌||◌}
use Rattle.std.specs.List.{list_any, list_all}
use Rattle.std.specs.Str.{bytes_eq}
use Rattle.std.specs.String.{string_eq}
use Rattle.std.specs.declared.string.String.{String}
use Rattle.std.proofs.lemmas.Bool.{cond-false}
use Rattle.std.proofs.lemmas.List.{map-append, at_drop_more, at_drop_all, take_more}
use Rattle.indexmap.specs.IndexSet.{insert_key}
use Rattle.bundle_text.specs.Names.{is_clock_name}
use Rattle.dts_tree.specs.Tree.{SeenNode}
use Rattle.dts_tree.proofs.Taking.{list_any-map}
use Rattle.dts_bindings.specs.declared.bound.BoundClock.{BoundClock}
use Rattle.dts_bindings.specs.Binding.{SeenBinding}
use Rattle.dts_bindings.specs.Clocks.{SeenClock, seen_clock}
use Rattle.dts_clocks.specs.declared.fault.DtsFault.TheVariants.{MissingProperty, BadName, TwiceNamed}
use Rattle.dts_clocks.specs.FirstPass.{has_twin, names_in, wants_one, binding_fault}
use Rattle.dts_clocks.specs.References.{leaves_over}

names : List BoundClock → List (List ℕ)
names cs = map (λ (c : SeenClock). c.name) (map seen_clock cs)

pub named_all : (cs : List BoundClock) → list_all (λ c. is_clock_name (string_bytes c.name)) cs ≡ list_all is_clock_name (map (λ c. c.name) (map seen_clock cs))
named_all [] = refl
named_all (c ∷ cs) = ap (λ b. is_clock_name (string_bytes c.name) && b) (named_all cs)

pub twin_cons : (T : List (List ℕ)) (n : List ℕ) (ns : List (List ℕ)) → has_twin T (n ∷ ns) ≡ (list_any (bytes_eq n) T || has_twin (T ++ n ∷ []) ns)
unfolding has_twin
twin_cons T n ns = refl

pub twin_nil : (T : List (List ℕ)) → has_twin T [] ≡ false
unfolding has_twin
twin_nil T = refl

-- what is left, by its first clock
left : (cs : List BoundClock) (i : ℕ) (clock : BoundClock) → i < length cs → clock ≡ get_or cs i clock → names (drop i cs) ≡ string_bytes clock.name ∷ names (drop (i + 1) cs)
unfolding names
left cs i clock low is = at_drop_more names cs i clock low ∙ ap (λ (c : BoundClock). string_bytes c.name ∷ names (drop (i + 1) cs)) (sym is)

-- a test that is turned round
turned_false : (x : Bool) → not x ≡ false → x ≡ true
turned_false true h = refl
turned_false false h = sym h

turned_true : (x : Bool) → not x ≡ true → x ≡ false
turned_true true h = sym h
turned_true false h = refl

-- the next name is taken
pub twin_found : (T : List (List ℕ)) (cs : List BoundClock) (i : ℕ) (clock : BoundClock) (text : List ℕ) (fresh : Bool) → i < length cs → clock ≡ get_or cs i clock → text ≡ string_bytes clock.name
    → fresh ≡ not (list_any (bytes_eq text) T) → fresh ≡ false → has_twin T (map (λ c. c.name) (map seen_clock (drop i cs))) ≡ true
unfolding names
twin_found T cs i clock text fresh low is named told had =
    ap (has_twin T) (left cs i clock low is)
    ∙ (twin_cons T (string_bytes clock.name) (names (drop (i + 1) cs))
    ∙ ap (λ b. b || has_twin (T ++ string_bytes clock.name ∷ []) (names (drop (i + 1) cs)))
    (ap (λ n. list_any (bytes_eq n) T) (sym named) ∙ turned_false (list_any (bytes_eq text) T) (sym told ∙ had)))

-- the next name isn't taken, and is from now on
pub twin_next : (T new : List (List ℕ)) (cs : List BoundClock) (i : ℕ) (clock : BoundClock) (text : List ℕ) (fresh : Bool) → i < length cs → clock ≡ get_or cs i clock → text ≡ string_bytes clock.name
    → fresh ≡ not (list_any (bytes_eq text) T) → fresh ≡ true → new ≡ T ++ text ∷ [] → has_twin T (map (λ c. c.name) (map seen_clock (drop i cs))) ≡ has_twin new (map (λ c. c.name) (map seen_clock (drop (i + 1) cs)))
unfolding names
twin_next T new cs i clock text fresh low is named told free more =
    ap (has_twin T) (left cs i clock low is)
    ∙ (twin_cons T (string_bytes clock.name) (names (drop (i + 1) cs))
    ∙ (ap (λ b. b || has_twin (T ++ string_bytes clock.name ∷ []) (names (drop (i + 1) cs)))
    (ap (λ n. list_any (bytes_eq n) T) (sym named) ∙ turned_true (list_any (bytes_eq text) T) (sym told ∙ free))
    ∙ ap (λ ts. has_twin ts (names (drop (i + 1) cs))) (ap (λ n. T ++ n ∷ []) (sym named) ∙ sym more)))

pub names_more : (start T new : List (List ℕ)) (cs : List BoundClock) (i : ℕ) (clock : BoundClock) (text : List ℕ) → i < length cs → clock ≡ get_or cs i clock → text ≡ string_bytes clock.name
    → new ≡ T ++ text ∷ [] → T ≡ start ++ map (λ c. c.name) (map seen_clock (take i cs)) → new ≡ start ++ map (λ c. c.name) (map seen_clock (take (i + 1) cs))
unfolding names
names_more start T new cs i clock text low is named more so_far =
    let last : names (take (i + 1) cs) ≡ names (take i cs) ++ text ∷ [] =
    ap names (take_more cs i clock low) ∙ (ap (map (λ (c : SeenClock). c.name)) (map-append seen_clock (take i cs) (get_or cs i clock ∷ []))
    ∙ (map-append (λ (c : SeenClock). c.name) (map seen_clock (take i cs)) (seen_clock (get_or cs i clock) ∷ []) ∙ ap (λ n. names (take i cs) ++ n ∷ []) (ap (λ (c : BoundClock). string_bytes c.name) (sym is) ∙ sym named))) in
    more ∙ (ap (λ ts. ts ++ text ∷ []) so_far ∙ (append_assoc start (names (take i cs)) (text ∷ []) ∙ ap (λ ts. start ++ ts) (sym last)))

-- whether a name stands among those that are taken
pub taken_by : (texts : List (String Global)) (names : List (List ℕ)) (text : List ℕ) (had : Bool) → map string_bytes texts ≡ names → had ≡ list_any (λ k. bytes_eq text (string_bytes k)) texts → list_any (bytes_eq text) names ≡ had
taken_by texts names text had seen found = ap (list_any (bytes_eq text)) (sym seen) ∙ (list_any-map (bytes_eq text) string_bytes texts ∙ sym found)

-- a name that isn't taken, behind those that are
pub texts_more : (texts new : List (String Global)) (name : String Global) (text : List ℕ) (had : Bool) → string_bytes name ≡ text → had ≡ list_any (λ k. bytes_eq text (string_bytes k)) texts → had ≡ false → new ≡ insert_key string_eq texts name
    → map string_bytes new ≡ map string_bytes texts ++ text ∷ []
texts_more texts new name text had same found absent put =
    let apart : list_any (string_eq name) texts ≡ false = ap (λ t. list_any (λ k. bytes_eq t (string_bytes k)) texts) same ∙ (sym found ∙ absent) in
    let new_is : new ≡ texts ++ name ∷ [] = put ∙ cond-false _ _ _ apart in
    ap (map string_bytes) new_is ∙ (map-append string_bytes texts (name ∷ []) ∙ ap (λ t. map string_bytes texts ++ t ∷ []) same)

pub twin_none : (T : List (List ℕ)) (cs : List BoundClock) (i : ℕ) → length cs ≤ i → has_twin T (map (λ c. c.name) (map seen_clock (drop i cs))) ≡ false
unfolding names
twin_none T cs i all = ap (has_twin T) (at_drop_all names cs i all) ∙ twin_nil T

-- the fault of a binding, by its three tests
pub fault_by : (nodes : List SeenNode) (taken : List (List ℕ)) (line : ℕ) (b : SeenBinding) (over named twin : Bool) → over ≡ (wants_one b.wants && leaves_over nodes b.inputs) → named ≡ list_all is_clock_name (names_in b)
    → twin ≡ has_twin taken (names_in b) → binding_fault nodes taken line b ≡ cond over (Some (MissingProperty line)) (cond (not named) (Some (BadName line)) (cond twin (Some (TwiceNamed line)) None))
unfolding binding_fault
fault_by nodes taken line b over named twin one two three = rw (one, two, three) refl

pub fault_over : (nodes : List SeenNode) (taken : List (List ℕ)) (line : ℕ) (b : SeenBinding) (over : Bool) → over ≡ (wants_one b.wants && leaves_over nodes b.inputs) → over ≡ true → binding_fault nodes taken line b ≡ Some (MissingProperty line)
fault_over nodes taken line b over one yes' = fault_by nodes taken line b over _ _ one refl refl ∙ ap (λ x. cond x (Some (MissingProperty line)) (cond (not (list_all is_clock_name (names_in b))) (Some (BadName line)) (cond (has_twin taken (names_in b)) (Some (TwiceNamed line)) None))) yes'

pub fault_named : (nodes : List SeenNode) (taken : List (List ℕ)) (line : ℕ) (b : SeenBinding) (over named : Bool) → over ≡ (wants_one b.wants && leaves_over nodes b.inputs) → named ≡ list_all is_clock_name (names_in b) → over ≡ false → named ≡ false
    → binding_fault nodes taken line b ≡ Some (BadName line)
fault_named nodes taken line b over named one two e f = fault_by nodes taken line b over named _ one two refl ∙ rw (e, f) refl

pub fault_twin : (nodes : List SeenNode) (taken : List (List ℕ)) (line : ℕ) (b : SeenBinding) (over named fresh : Bool) → over ≡ (wants_one b.wants && leaves_over nodes b.inputs) → named ≡ list_all is_clock_name (names_in b)
    → fresh ≡ not (has_twin taken (names_in b)) → over ≡ false → named ≡ true → binding_fault nodes taken line b ≡ cond fresh None (Some (TwiceNamed line))
fault_twin nodes taken line b over named fresh one two three e f = fault_by nodes taken line b over named _ one two refl ∙ (rw (e, f) (turned (has_twin taken (names_in b)) line) ∙ ap (λ x. cond x None (Some (TwiceNamed line))) (sym three)) where
  turned : (twin : Bool) (line : ℕ) → cond twin (Some (TwiceNamed line)) None ≡ cond (not twin) None (Some (TwiceNamed line))
  turned true line = refl
  turned false line = refl
