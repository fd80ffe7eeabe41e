-- Names of clocks: looking one up, and adding one.
use Rattle.std.proofs.Common.{◌≡◌, ℕ, ◌+◌, ◌<◌, Bool, true, false, List, [], ◌∷◌, ◌++◌, map, length, get_or, take, length-take, ◌≤◌, Option, Some, None, refl, sym, ap, ◌∙◌, inl, inr, arith, length-append, string_bytes, Global}
use Rattle.std.specs.Prelude.{IsTrue}
use Rattle.std.specs.List.{list_any, position}
use Rattle.std.specs.Option.{option_map}
use Rattle.std.specs.Str.{bytes_eq}
use Rattle.std.specs.declared.string.String.{String}
use Rattle.std.proofs.lemmas.Bool.{both_ways, cases_lt, cases_Bool}
use Rattle.std.proofs.lemmas.List.{map-append, get_or-take, get_or_append_left, get_or_push, get_or_default}
use Rattle.std.proofs.lemmas.List.Folds.{list_any_at, Any-from_list_any}
use Rattle.std.proofs.lemmas.List.Quantifiers.{position-Some}
use Rattle.std.proofs.lemmas.Slice.Eq.{bytes_eq-Decides}
use Rattle.clk_base.specs.declared.clock.ClockDef.{ClockDef}
use Rattle.clk_base.specs.declared.clock.ClockId.{ClockId}
use Rattle.std.specs.String.{string_eq}
use Rattle.std.specs.Prelude.{Result, Ok, Err, ◌↔◌}
use Rattle.std.proofs.lemmas.Bool.{cond-false}
use Rattle.std.proofs.lemmas.Option.{none-some, same_Some}
use Rattle.indexmap.specs.IndexSet.{insert_key}
use Rattle.clk_base.specs.Named.{IsNamed}
use Rattle.clk_base.specs.declared.fault.AddFault.{AddFault}
use Rattle.clk_base.specs.declared.fault.AddFault.TheVariants.{TwiceNamed, NoMemory}
use Rattle.clk_base.specs.Description.{Description, nobody, def_of, name_of, has_name, clock_named, HasDistinctNames}
use Rattle.clk_base.proofs.Mapped.{list_any-map, position-map}

-- a name stands among the texts where a clock has it
pub has_name-texts : (texts : List (String Global)) (defs : Description) (name : List ℕ) → map string_bytes texts ≡ map (λ d. d.name) defs → list_any (λ k. bytes_eq name (string_bytes k)) texts ≡ has_name defs name
has_name-texts texts defs name e =
    sym (list_any-map (bytes_eq name) string_bytes texts)
    ∙ (ap (list_any (bytes_eq name)) e ∙ list_any-map (bytes_eq name) (λ (d : ClockDef). d.name) defs)

-- it stands there at the clock's place
pub position-texts : (texts : List (String Global)) (defs : Description) (name : List ℕ) → map string_bytes texts ≡ map (λ d. d.name) defs → position (λ k. bytes_eq name (string_bytes k)) texts ≡ position (λ d. bytes_eq name d.name) defs
position-texts texts defs name e =
    sym (position-map (bytes_eq name) string_bytes texts)
    ∙ (ap (position (bytes_eq name)) e ∙ position-map (bytes_eq name) (λ (d : ClockDef). d.name) defs)

-- a clock of the description with this name shows in `has_name`
pub has_name-at : (defs : Description) (name : List ℕ) (c : ℕ) → c < length defs → name_of defs c ≡ name → has_name defs name ≡ true
has_name-at defs name c lt e =
    list_any_at (λ d. bytes_eq name d.name) defs c nobody lt ((bytes_eq-Decides name (name_of defs c)).1 (sym e))

-- a further clock has a name of its own where no clock has its name
pub HasDistinctNames-push : (defs : Description) (d : ClockDef) → HasDistinctNames defs → has_name defs d.name ≡ false → HasDistinctNames (defs ++ d ∷ [])
HasDistinctNames-push defs d distinct new a b ha hb same =
    let len : length (defs ++ d ∷ []) ≡ length defs + 1 = length-append defs (d ∷ []) in
    let old = λ (k : ℕ) (h : k < length defs). ap (λ (x : ClockDef). x.name) (get_or_append_left defs (d ∷ []) nobody k h) in
    let last = λ (k : ℕ) (h : length defs ≡ k). ap (λ (x : ClockDef). x.name) (get_or_push defs d nobody k h) in
    let clash = λ (k : ℕ) (h : k < length defs) (e : name_of defs k ≡ d.name). both_ways _ new (has_name-at defs d.name k h e) in
    elim (cases_lt a (length defs)) [
      | inl a_old ↦ elim (cases_lt b (length defs)) [
        | inl b_old ↦ distinct a b a_old b_old (sym (old a a_old) ∙ (same ∙ old b b_old))
        | inr b_new ↦ absurd (clash a a_old (sym (old a a_old) ∙ (same ∙ last b (omega arith))))
      ]
      | inr a_new ↦ elim (cases_lt b (length defs)) [
        | inl b_old ↦ absurd (clash b b_old (sym (old b b_old) ∙ (sym same ∙ last a (omega arith))))
        | inr b_new ↦ omega arith
      ]
    ]

-- whether a text is found among the texts says whether a clock has its name
pub found-has_name : (texts : List (String Global)) (defs view : Description) (name text : List ℕ) (b : Bool) → map string_bytes texts ≡ map (λ d. d.name) defs → defs ≡ view → text ≡ name → b ≡ list_any (λ k. bytes_eq text (string_bytes k)) texts → b ≡ has_name view name
found-has_name texts defs view name text b named same_defs same_text e =
    e ∙ (ap (λ t. list_any (λ k. bytes_eq t (string_bytes k)) texts) same_text
    ∙ (has_name-texts texts defs name named ∙ ap (λ ds. has_name ds name) same_defs))

-- the place of a text among the texts gives the clock that has its name
pub placed-clock_named : (texts : List (String Global)) (defs view : Description) (name : List ℕ) (o : Option ℕ) → map string_bytes texts ≡ map (λ d. d.name) defs → defs ≡ view → o ≡ position (λ k. bytes_eq name (string_bytes k)) texts → option_map (λ c. record { 0 = c }) o ≡ clock_named view name
placed-clock_named texts defs view name o named same_defs e =
    let clock : Option ℕ → Option ClockId = option_map (λ c. record { 0 = c }) in
    ap clock (e ∙ (position-texts texts defs name named ∙ ap (position (λ (d : ClockDef). bytes_eq name d.name)) same_defs))

-- the texts with a new one at their end name the clocks with a new one at their end
pub IsNamed-push : (texts new : List (String Global)) (t : String Global) (defs : Description) (d : ClockDef) → IsNamed texts defs → string_bytes t ≡ d.name → has_name defs d.name ≡ false → length defs < 4294967295 → new ≡ insert_key string_eq texts t → IsNamed new (defs ++ d ∷ [])
IsNamed-push texts new t defs d named same absent few e =
    let apart : list_any (string_eq t) texts ≡ false = found-has_name texts defs defs d.name (string_bytes t) (list_any (string_eq t) texts) named.texts_are refl same refl ∙ absent in
    let new_is : new ≡ texts ++ t ∷ [] = e ∙ cond-false _ _ _ apart in
    record {
      texts_are = ap (map string_bytes) new_is ∙ (map-append string_bytes texts (t ∷ []) ∙ (ap (λ xs. xs ++ string_bytes t ∷ []) named.texts_are ∙ (ap (λ b. map (λ (x : ClockDef). x.name) defs ++ b ∷ []) same ∙ sym (map-append (λ (x : ClockDef). x.name) defs (d ∷ [])))));
      distinct = HasDistinctNames-push defs d named.distinct absent;
      fits = omega (arith, length-append defs (d ∷ []), named.fits);
    }

-- an answer that isn't `TwiceNamed`, where no clock has the name
pub not_twice_named : (has : Bool) (result : Result ClockId AddFault) (fault : AddFault) → has ≡ false → result ≡ Err fault → fault ≡ NoMemory → (result ≡ Err TwiceNamed) ↔ IsTrue has
not_twice_named has result fault absent e none = (λ (h : result ≡ Err TwiceNamed). absurd (cc), λ (h : IsTrue has). absurd (both_ways has absent h))

-- the same of an answer that is Ok
pub named_apart : (has : Bool) (c : ClockId) → has ≡ false → (Ok c ≡ Err TwiceNamed) ↔ IsTrue has
named_apart has c absent = (λ (h : Ok c ≡ Err TwiceNamed). absurd (cc), λ (h : IsTrue has). absurd (both_ways has absent h))

-- no earlier clock has a clock's name
pub has_name-take : (defs : Description) (c : ℕ) → HasDistinctNames defs → c < length defs → has_name (take c defs) (name_of defs c) ≡ false
has_name-take defs c distinct lt =
    let name = name_of defs c in
    let len : length (take c defs) ≤ c = omega (arith, length-take c defs) in
    elim (cases_Bool (has_name (take c defs) name)) [
      | inl had ↦ let any = Any-from_list_any (λ (d : ClockDef). bytes_eq name d.name) (take c defs) had in
          let below : any.0 < c = omega (arith, any.2, len) in
          let at : get_or (take c defs) any.0 nobody ≡ def_of defs any.0 = get_or-take c defs any.0 nobody below in
          let same : def_of defs any.0 ≡ any.1 = sym at ∙ (get_or_default (take c defs) any.0 nobody any.1 any.2 ∙ any.3) in
          let equal : any.0 ≡ c = distinct any.0 c (omega arith) lt (ap (λ (d : ClockDef). d.name) same ∙ sym ((bytes_eq-Decides name any.1.name).0 any.4)) in
          absurd (omega arith)
      | inr none ↦ none
    ]

option_map-Some : {X Y : Type 0} (f : X → Y) (o : Option X) (y : Y) → option_map f o ≡ Some y → (x : X) × (o ≡ Some x) × (f x ≡ y)
option_map-Some f None y e = absurd (none-some y e)
option_map-Some f (Some x) y e = (x, refl, same_Some (f x) y e)

-- the clock of a name is in the description, and has the name
pub clock_named-Some : (defs : Description) (name : List ℕ) (c : ClockId) → clock_named defs name ≡ Some c → (c.0 < length defs) × (name_of defs c.0 ≡ name)
clock_named-Some defs name c e =
    let test = λ (d : ClockDef). bytes_eq name d.name in
    let found = option_map-Some (λ (k : ℕ). let id : ClockId = record { 0 = k } in id) (position test defs) c e in
    let place : found.0 ≡ c.0 = ap (λ (id : ClockId). id.0) found.2 in
    let at = position-Some test defs c.0 nobody (found.1 ∙ ap (λ k. Some k) place) in
    (at.0, sym ((bytes_eq-Decides name (name_of defs c.0)).0 at.1))

-- so the next clock to be copied has a name that no copied clock has
pub fresh_next : (defs copied items : Description) (i : ℕ) (d next : ClockDef) → HasDistinctNames defs → items ≡ defs → i < length items → copied ≡ take i defs → next ≡ d → d ≡ get_or items i d → has_name copied next.name ≡ true → ⊥
fresh_next defs copied items i d next distinct same lt taken equal at had =
    let within : i < length defs = omega (arith, ap length same) in
    let read : d ≡ def_of defs i = at ∙ (get_or_default items i d nobody lt ∙ ap (λ ds. def_of ds i) same) in
    let absent : has_name copied next.name ≡ false =
    ap (λ ds. has_name ds next.name) taken ∙ (ap (λ (x : ClockDef). has_name (take i defs) x.name) (equal ∙ read) ∙ has_name-take defs i distinct within) in
    both_ways _ absent had
