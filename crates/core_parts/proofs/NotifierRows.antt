-- How many notifiers a clock has, in chains and in the one list of them all.
use Rattle.std.proofs.Common.{◌≡◌, ℕ, zero, suc, ◌+◌, ◌<◌, Bool, true, false, cond, List, [], ◌∷◌, ◌++◌, refl, sym, ap, ◌∙◌, arith, length, map, filter, nat_eq}
use Rattle.std.specs.Prelude.{slice_index_or, if◌then◌else◌}
use Rattle.std.specs.Int.RustNames.{int_lt}
use Rattle.clk_model.specs.State.{NotifierRow}
use Rattle.clk_model.specs.Notices.{notifiers_of, by_priority, sorted}
use Rattle.clk_model.proofs.Members.{test_same}
use Rattle.clk_model.proofs.AboveLaws.{differs}
use Rattle.notifiers.specs.declared.notifier.Notifier.{Notifier}
use Rattle.notifiers.specs.Chains.{Tells, row_on}
use Rattle.core_parts.specs.Course.{notifiers_at}
use Rattle.core_parts.specs.Listed.{rows_from}

length-map : {A B : Type 0} (f : A → B) (xs : List A) → length (map f xs) ≡ length xs
length-map f [] = refl
length-map f (x ∷ xs) = ap (λ (n : ℕ). suc n) (length-map f xs)

-- as many as its chain has, where the chains are those of some notifiers
pub count_told : (chains : List (List Notifier)) (rows : List NotifierRow) (c : ℕ) → Tells chains rows → length (notifiers_of rows c) ≡ notifiers_at chains c
count_told chains rows c tells = sym (ap (λ (ns : List NotifierRow). length ns) (tells c)) ∙ length-map (row_on c) (slice_index_or chains c [])

one_longer : (n m : NotifierRow) (ms longer : List NotifierRow) (t : Bool) → length longer ≡ suc (length ms) → length (if t then n ∷ m ∷ ms else m ∷ longer) ≡ suc (suc (length ms))
one_longer n m ms longer true more = refl
one_longer n m ms longer false more = ap (λ (k : ℕ). suc k) more

pub length-by_priority : (n : NotifierRow) (ns : List NotifierRow) → length (by_priority n ns) ≡ suc (length ns)
length-by_priority n [] = refl
length-by_priority n (m ∷ ms) = one_longer n m ms (by_priority n ms) (int_lt m.priority n.priority) (length-by_priority n ms)

length-sorted : (done ns : List NotifierRow) → length (sorted done ns) ≡ length done + length ns
length-sorted done [] = omega arith
length-sorted done (n ∷ ns) = let one = length-by_priority n done in let rest = length-sorted (by_priority n done) ns in omega arith

-- those of a clock among the notifiers of chains
own_of : ℕ → List NotifierRow → List NotifierRow
own_of c rows = filter (λ n. nat_eq n.clock c) rows

own_chain : (d c : ℕ) (chain : List Notifier) (rest : List NotifierRow) (t : Bool) → nat_eq d c ≡ t
    → length (filter (λ n. nat_eq n.clock c) (map (row_on d) chain ++ rest)) ≡ cond t (length chain) 0 + length (filter (λ n. nat_eq n.clock c) rest)
own_chain d c [] rest true e = omega arith
own_chain d c [] rest false e = omega arith
own_chain d c (n ∷ chain) rest true e =
    let more = own_chain d c chain rest true e in
    let here = ap (λ (t : Bool). length (cond t (row_on d n ∷ filter (λ n. nat_eq n.clock c) (map (row_on d) chain ++ rest)) (filter (λ n. nat_eq n.clock c) (map (row_on d) chain ++ rest)))) e in
    omega arith
own_chain d c (n ∷ chain) rest false e =
    let more = own_chain d c chain rest false e in
    let here = ap (λ (t : Bool). length (cond t (row_on d n ∷ filter (λ n. nat_eq n.clock c) (map (row_on d) chain ++ rest)) (filter (λ n. nat_eq n.clock c) (map (row_on d) chain ++ rest)))) e in
    omega arith

own_none : (d c : ℕ) (chains : List (List Notifier)) → c < d → length (filter (λ n. nat_eq n.clock c) (rows_from d chains)) ≡ 0
own_none d c [] lt = refl
own_none d c (chain ∷ chains) lt =
    let here = own_chain d c chain (rows_from (suc d) chains) false (differs d c (λ same. omega arith)) in
    let rest = own_none (suc d) c chains (omega arith) in
    omega arith

own_rows : (d i : ℕ) (chains : List (List Notifier)) → length (filter (λ n. nat_eq n.clock (d + i)) (rows_from d chains)) ≡ length (slice_index_or chains i [])
own_rows d i [] = refl
own_rows d zero (chain ∷ chains) =
    let at : d + 0 ≡ d = omega arith in
    let here = own_chain d (d + 0) chain (rows_from (suc d) chains) true (ap (nat_eq d) at ∙ test_same d) in
    let rest = own_none (suc d) (d + 0) chains (omega arith) in
    omega arith
own_rows d (suc i) (chain ∷ chains) =
    let here = own_chain d (d + suc i) chain (rows_from (suc d) chains) false (differs d (d + suc i) (λ same. omega arith)) in
    let at : d + suc i ≡ suc d + i = omega arith in
    let rest : length (filter (λ n. nat_eq n.clock (d + suc i)) (rows_from (suc d) chains)) ≡ length (slice_index_or chains i []) =
    ap (λ (c : ℕ). length (filter (λ n. nat_eq n.clock c) (rows_from (suc d) chains))) at ∙ own_rows (suc d) i chains in
    omega arith

-- as many as among those of the chains, one behind the other
pub rows_count : (chains : List (List Notifier)) (c : ℕ) → length (notifiers_of (rows_from 0 chains) c) ≡ notifiers_at chains c
rows_count chains c =
    let sorted_ = length-sorted [] (filter (λ n. nat_eq n.clock c) (rows_from 0 chains)) in
    let own : length (filter (λ n. nat_eq n.clock c) (rows_from 0 chains)) ≡ notifiers_at chains c =
    ap (λ (x : ℕ). length (filter (λ n. nat_eq n.clock x) (rows_from 0 chains))) (let e : c ≡ 0 + c = omega arith in e) ∙ own_rows 0 c chains in
    omega arith
