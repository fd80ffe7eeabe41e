-- Laws on what a chain keeps: it is kept when a notifier goes to its place, and when some are taken out.
use Rattle.std.proofs.Common.{◌≡◌, ℕ, ℤ, zero, suc, ◌≤◌, ◌<◌, ◌||◌, Bool, true, false, not, cond, List, [], ◌∷◌, ◌++◌, Result, Ok, Err, OnOk, OnErr, refl, sym, ap, ◌∙◌, subst, arith, length, map, get_or, set, nat_eq, ⊎_elim, replicate}
use Rattle.std.specs.Prelude.{filter, AllPairs, All}
use Rattle.std.specs.Int.RustNames.{int_lt}
use Rattle.std.proofs.lemmas.Bool.{cases_eq, cases_lt}
use Rattle.std.proofs.lemmas.Bool.Decides.{nat_tests}
use Rattle.std.proofs.lemmas.List.{get_or-set_same, get_or-set_other, length-map, set_past}
use Rattle.std.proofs.lemmas.List.Kept.{AllPairs-cons, AllPairs-filter}
use Rattle.clk_model.specs.Begin.{most_notifiers}
use Rattle.clk_model.specs.Lists.{is_in, none_twice}
use Rattle.clk_model.specs.Notices.{by_priority, notifiers_of}
use Rattle.clk_model.specs.State.{NotifierRow}
use Rattle.clk_model.proofs.Members.{is_in_head, is_in_tail, not_either}
use Rattle.clk_model.proofs.NotifierLaws.{AreUnder, IsFalling, IsFalling-by_priority}
use Rattle.clk_model.proofs.OnceLaws.{once_head, once_cons, once_filter}
use Rattle.notifiers.specs.declared.notifier.Notifier.{Notifier}
use Rattle.notifiers.specs.Chains.{AreChains, CanAdd, IsChain, Tells, has_id, row_on}

-- the later of two notifiers has no higher priority
abbrev Falls : Notifier → Notifier → Type 0
Falls first later = int_lt first.priority later.priority ≡ false

-- ---- falling priorities, of notifiers and of their rows

under_from : (c : ℕ) (most : ℤ) (ns : List Notifier) → All (λ n. int_lt most n.priority ≡ false) ns → AreUnder most (map (row_on c) ns)
under_from c most [] all = tt
under_from c most (n ∷ ns) all = (all 0 n (omega arith), under_from c most ns (λ k d within. all (suc k) d (omega arith)))

falling_from : (c : ℕ) (ns : List Notifier) → AllPairs Falls ns → IsFalling (map (row_on c) ns)
falling_from c [] pairs = tt
falling_from c (n ∷ ns) pairs =
    (under_from c n.priority ns (λ k d within. pairs 0 (suc k) d (omega arith) (omega arith)), falling_from c ns (λ i j d less within. pairs (suc i) (suc j) d (omega arith) (omega arith)))

all_from : (c : ℕ) (most : ℤ) (ns : List Notifier) → AreUnder most (map (row_on c) ns) → All (λ n. int_lt most n.priority ≡ false) ns
all_from c most [] under k d within = absurd (omega arith)
all_from c most (n ∷ ns) under zero d within = under.0
all_from c most (n ∷ ns) under (suc k) d within = all_from c most ns under.1 k d (omega arith)

pairs_from : (c : ℕ) (ns : List Notifier) → IsFalling (map (row_on c) ns) → AllPairs Falls ns
pairs_from c [] falling = λ i j d less within. absurd (omega arith)
pairs_from c (n ∷ ns) falling = AllPairs-cons Falls n ns (all_from c n.priority ns falling.0) (pairs_from c ns falling.1)

-- ---- ids

abbrev ids : List NotifierRow → List ℕ
ids ns = map (λ n. n.id) ns

ids_of_rows : (c : ℕ) (ns : List Notifier) → ids (map (row_on c) ns) ≡ map (λ n. n.id) ns
ids_of_rows c [] = refl
ids_of_rows c (n ∷ ns) = ap (λ xs. n.id ∷ xs) (ids_of_rows c ns)

has_id_in : (id : ℕ) (ns : List NotifierRow) → has_id id ns ≡ is_in id (ids ns)
has_id_in id [] = refl
has_id_in id (n ∷ ns) = ap (λ (t : Bool). nat_eq n.id id || t) (has_id_in id ns)

-- an id that is among those of a new notifier and of others is its own or one of theirs
in_placed : (id : ℕ) (n : NotifierRow) (ms : List NotifierRow) → nat_eq n.id id ≡ false → is_in id (ids ms) ≡ false → is_in id (ids (by_priority n ms)) ≡ false
in_placed id n [] other out = ap (λ (t : Bool). t || false) other
in_placed id n (m ∷ ms) other out =
    let parts = not_either (nat_eq m.id id) (is_in id (ids ms)) out in
    elim (int_lt m.priority n.priority) as (λ t. is_in id (ids (cond t (n ∷ m ∷ ms) (m ∷ by_priority n ms))) ≡ false) [
      | true ↦ ap (λ (t : Bool). t || is_in id (ids (m ∷ ms))) other ∙ out
      | false ↦ ap (λ (t : Bool). t || is_in id (ids (by_priority n ms))) parts.0 ∙ in_placed id n ms other parts.1
    ]

turned_test : (a b : ℕ) → nat_eq a b ≡ false → nat_eq b a ≡ false
turned_test a b other = grind (arith, nat_tests)

never : (t : Bool) → t ≡ false → t ≡ true → ⊥
never true is then_ = absurd cc
never false is then_ = absurd cc

once_placed : (n : NotifierRow) (ms : List NotifierRow) → is_in n.id (ids ms) ≡ false → none_twice (ids ms) ≡ true → none_twice (ids (by_priority n ms)) ≡ true
once_placed n [] out once = refl
once_placed n (m ∷ ms) out once =
    let parts = not_either (nat_eq m.id n.id) (is_in n.id (ids ms)) out in
    let head = once_head m.id (ids ms) once in
    elim (int_lt m.priority n.priority) as (λ t. none_twice (ids (cond t (n ∷ m ∷ ms) (m ∷ by_priority n ms))) ≡ true) [
      | true ↦ once_cons n.id (ids (m ∷ ms)) (never _ out) once
      | false ↦ once_cons m.id (ids (by_priority n ms)) (never _ (in_placed m.id n ms (turned_test m.id n.id parts.0) head.0)) (once_placed n ms parts.1 head.1)
    ]

-- ---- lengths

length_placed : (n : NotifierRow) (ms : List NotifierRow) → length (by_priority n ms) ≡ suc (length ms)
length_placed n [] = refl
length_placed n (m ∷ ms) =
    elim (int_lt m.priority n.priority) as (λ t. length (cond t (n ∷ m ∷ ms) (m ∷ by_priority n ms)) ≡ suc (suc (length ms))) [
      | true ↦ refl
      | false ↦ ap suc (length_placed n ms)
    ]

length_left : (test : Notifier → Bool) (ns : List Notifier) → length (filter test ns) ≤ length ns
length_left test [] = omega arith
length_left test (n ∷ ns) =
    let rest = length_left test ns in
    elim (test n) as (λ t. length (cond t (n ∷ filter test ns) (filter test ns)) ≤ suc (length ns)) [
      | true ↦ omega arith
      | false ↦ omega arith
    ]

-- ---- a chain

-- the chain without notifiers is one
pub none_kept : IsChain []
none_kept = record { falling = λ i j d less within. absurd (omega arith); once = refl; few = omega arith }

-- a chain keeps it with a notifier in its place that can be added
pub added_kept : (c : ℕ) (n : Notifier) (chain made : List Notifier) → map (row_on c) made ≡ by_priority (row_on c n) (map (row_on c) chain) → CanAdd n.id (map (row_on c) chain)
    → IsChain chain → IsChain made
added_kept c n chain made placed can kept = record {
  falling = pairs_from c made (subst IsFalling (sym placed) (IsFalling-by_priority (row_on c n) (map (row_on c) chain) (falling_from c chain kept.falling)));
  once =
      ap none_twice (sym (ids_of_rows c made) ∙ ap ids placed)
      ∙ once_placed (row_on c n) (map (row_on c) chain) (sym (has_id_in n.id (map (row_on c) chain)) ∙ can.0) (ap none_twice (ids_of_rows c chain) ∙ kept.once);
  few =
      let long : length made ≡ suc (length (map (row_on c) chain)) = sym (length-map made (row_on c)) ∙ ap length placed ∙ length_placed (row_on c n) (map (row_on c) chain) in
      let room = can.1 in
      omega arith;
}

kept_ids : (id : ℕ) (ns : List Notifier) → map (λ n. n.id) (filter (λ n. not (nat_eq n.id id)) ns) ≡ filter (λ i. not (nat_eq i id)) (map (λ n. n.id) ns)
kept_ids id [] = refl
kept_ids id (n ∷ ns) =
    elim (nat_eq n.id id) as (λ t. map (λ (m : Notifier). m.id) (cond (not t) (n ∷ filter (λ m. not (nat_eq m.id id)) ns) (filter (λ m. not (nat_eq m.id id)) ns))
    ≡ cond (not t) (n.id ∷ filter (λ i. not (nat_eq i id)) (map (λ (m : Notifier). m.id) ns)) (filter (λ i. not (nat_eq i id)) (map (λ (m : Notifier). m.id) ns))) [
      | true ↦ kept_ids id ns
      | false ↦ ap (λ xs. n.id ∷ xs) (kept_ids id ns)
    ]

-- and without the notifiers of an id
pub left_kept : (id : ℕ) (chain : List Notifier) → IsChain chain → IsChain (filter (λ n. not (nat_eq n.id id)) chain)
left_kept id chain kept = record {
  falling = AllPairs-filter Falls (λ n. not (nat_eq n.id id)) chain kept.falling;
  once = ap none_twice (kept_ids id chain) ∙ once_filter (λ i. not (nat_eq i id)) (map (λ n. n.id) chain) kept.once;
  few = let less = length_left (λ n. not (nat_eq n.id id)) chain in let few = kept.few in omega arith;
}

-- what a call left of a chain, whether it added a notifier or not
pub tried_kept : {T E : Type 0} (r : Result T E) (c : ℕ) (n : Notifier) (chain made : List Notifier) → OnOk r (map (row_on c) made ≡ by_priority (row_on c n) (map (row_on c) chain))
    → OnOk r (CanAdd n.id (map (row_on c) chain)) → OnErr r (made ≡ chain) → IsChain chain → IsChain made
tried_kept (Ok x) c n chain made placed can same kept = added_kept c n chain made placed can kept
tried_kept (Err e) c n chain made placed can same kept = subst IsChain (sym same) kept

-- ---- all chains

-- so many chains without notifiers keep it
pub nobody_kept : (n : ℕ) → AreChains (replicate n [])
nobody_kept zero c = none_kept
nobody_kept (suc n) zero = none_kept
nobody_kept (suc n) (suc c) = nobody_kept n c

-- all keep it with a chain in the place of another
pub put_kept : (chains : List (List Notifier)) (c : ℕ) (chain : List Notifier) → IsChain chain → AreChains chains → AreChains (set chains c chain)
put_kept chains c chain kept all d =
    ⊎_elim
    (λ (within : c < length chains).
    ⊎_elim
    (λ (e : d ≡ c). subst (λ (x : ℕ). IsChain (get_or (set chains c chain) x [])) (sym e) (subst IsChain (sym (get_or-set_same chains c chain [] within)) kept))
    (λ other. subst IsChain (sym (get_or-set_other chains c d chain [] other)) (all d))
    (cases_eq d c))
    (λ past. subst (λ (cs : List (List Notifier)). IsChain (get_or cs d [])) (sym (set_past chains c chain past)) (all d))
    (cases_lt c (length chains))

-- no clock has more notifiers than it may have, of those that the chains tell
pub few_told : (chains : List (List Notifier)) (notifiers : List NotifierRow) → AreChains chains → Tells chains notifiers → (c : ℕ) → length (notifiers_of notifiers c) ≤ most_notifiers
few_told chains notifiers all tells c =
    let few = (all c).few in
    let same : length (notifiers_of notifiers c) ≡ length (get_or chains c []) = ap length (sym (tells c)) ∙ length-map (get_or chains c []) (row_on c) in
    omega arith
