-- Laws on chains: what a chain that changed in its place tells, with one notifier more or without one.
use Rattle.std.proofs.Common.{◌≡◌, ◌≢◌, ℕ, suc, ◌+◌, ◌<◌, ◌≤◌, ◌&&◌, ◌||◌, Bool, true, false, not, cond, List, [], ◌∷◌, ◌++◌, Some, None, Result, Ok, Err, OnOk, IfErr, refl, sym, ap, ◌∙◌, subst, ⊎_elim, arith, length, map, set, get_or, nat_eq, nat_lt}
use Rattle.std.specs.Prelude.{filter, insert, unwrap_or, position}
use Rattle.std.specs.List.{list_any, position_or_len}
use Rattle.std.specs.Result.{IsErrAnd}
use Rattle.std.specs.Int.RustNames.{int_lt}
use Rattle.std.proofs.lemmas.Bool.{cases_eq, cases_lt}
use Rattle.std.proofs.lemmas.Bool.Decides.{nat_tests}
use Rattle.std.proofs.lemmas.List.{get_or-set_same, get_or-set_other, get_or-map, get_or_past, map-set, set_past, length-map}
use Rattle.clk_model.specs.State.{NotifierRow}
use Rattle.clk_model.specs.Notices.{by_priority, notifiers_of}
use Rattle.clk_model.proofs.NotifierLaws.{notifiers_of-push, notifiers_of-push_other, notifiers_of-filter}
use Rattle.notifiers.specs.declared.notifier.Notifier.{Notifier}
use Rattle.notifiers.specs.Chains.{row_on, chain_of, Tells, has_id, without_notifier}
use Rattle.clk_model.proofs.Members.{test_same}

-- ---- a chain in its place

-- what is read of a chain, whatever holds its notifiers
pub chain_read : {V : Type 0} (items : V → List Notifier) (vs : List V) (chains : List (List Notifier)) (c : ℕ) (v : V)
    → map items vs ≡ chains → c < length chains → v ≡ get_or vs c v → get_or chains c [] ≡ items v
chain_read items vs chains c v is within here =
    let long : length (map items vs) ≡ length chains = ap length is in
    let same : length (map items vs) ≡ length vs = length-map vs items in
    ap (λ (cs : List (List Notifier)). get_or cs c []) (sym is) ∙ get_or-map items vs c v [] (omega arith) ∙ ap items (sym here)

-- and what is written
pub chain_written : {V : Type 0} (items : V → List Notifier) (vs : List V) (chains : List (List Notifier)) (c : ℕ) (w : V)
    → map items vs ≡ chains → map items (set vs c w) ≡ set chains c (items w)
chain_written items vs chains c w is = map-set items vs c w ∙ ap (λ (cs : List (List Notifier)). set cs c (items w)) is

other_place : (c d : ℕ) → d ≢ c → nat_eq c d ≡ false
other_place c d other = grind (arith, nat_tests)

other_place_back : (c d : ℕ) → d ≢ c → nat_eq d c ≡ false
other_place_back c d other = grind (arith, nat_tests)

chain_of-set_same : (chains : List (List Notifier)) (c : ℕ) (chain : List Notifier) → c < length chains → chain_of (set chains c chain) c ≡ map (row_on c) chain
chain_of-set_same chains c chain within = ap (map (row_on c)) (get_or-set_same chains c chain [] within)

chain_of-set_other : (chains : List (List Notifier)) (c d : ℕ) (chain : List Notifier) → d ≢ c → chain_of (set chains c chain) d ≡ chain_of chains d
chain_of-set_other chains c d chain other = ap (map (row_on d)) (get_or-set_other chains c d chain [] other)

-- ---- one more

-- in front of the first with a lower priority a notifier stands where it is sorted to
pub inserted_by_priority : (c : ℕ) (n : Notifier) (chain : List Notifier)
    → map (row_on c) (insert chain (unwrap_or (position (λ m. int_lt m.priority n.priority) chain) (length chain)) n) ≡ by_priority (row_on c n) (map (row_on c) chain)
inserted_by_priority c n chain =
    ap (λ (k : ℕ). map (row_on c) (insert chain k n)) (first_or_end (position_or_len lower chain) (length chain) (within chain))
    ∙ placed chain where
      lower : Notifier → Bool
      lower m = int_lt m.priority n.priority

      within : (ms : List Notifier) → position_or_len lower ms ≤ length ms
      within [] = omega arith
      within (m ∷ ms) =
          let rest = within ms in
          elim (lower m) as (λ t. cond (not t) (1 + position_or_len lower ms) 0 ≤ suc (length ms)) [
            | true ↦ omega arith
            | false ↦ omega arith
          ]

      first_or_end : (k most : ℕ) → k ≤ most → unwrap_or (cond (nat_lt k most) (Some k) None) most ≡ k
      first_or_end k most le =
          elim (nat_lt k most) as (λ t. nat_lt k most ≡ t → unwrap_or (cond t (Some k) None) most ≡ k) [
            | true ↦ λ e. refl
            | false ↦ λ e. grind (arith, nat_tests)
          ] refl

      placed : (ms : List Notifier) → map (row_on c) (insert ms (position_or_len lower ms) n) ≡ by_priority (row_on c n) (map (row_on c) ms)
      placed [] = refl
      placed (m ∷ ms) =
          elim (int_lt m.priority n.priority) as (λ t. map (row_on c) (insert (m ∷ ms) (cond (not t) (1 + position_or_len lower ms) 0) n)
          ≡ cond t (row_on c n ∷ row_on c m ∷ map (row_on c) ms) (row_on c m ∷ by_priority (row_on c n) (map (row_on c) ms))) [
            | true ↦ refl
            | false ↦
                let one_more : 1 + position_or_len lower ms ≡ suc (position_or_len lower ms) = omega arith in
                ap (λ (k : ℕ). map (row_on c) (insert (m ∷ ms) k n)) one_more ∙ ap (λ ys. row_on c m ∷ ys) (placed ms)
          ]

-- the chains with a notifier in its place in one of them are those of the notifiers with this one added last
pub Tells-added : (chains : List (List Notifier)) (c : ℕ) (chain : List Notifier) (n : Notifier) (ns : List NotifierRow) → c < length chains
    → map (row_on c) chain ≡ by_priority (row_on c n) (chain_of chains c) → Tells chains ns → Tells (set chains c chain) (ns ++ row_on c n ∷ [])
Tells-added chains c chain n ns within placed tells d =
    ⊎_elim
    (λ (e : d ≡ c).
    subst (λ (x : ℕ). chain_of (set chains c chain) x ≡ notifiers_of (ns ++ row_on c n ∷ []) x) (sym e)
    (chain_of-set_same chains c chain within ∙ placed ∙ ap (by_priority (row_on c n)) (tells c) ∙ sym (notifiers_of-push ns (row_on c n) c (test_same c))))
    (λ (other : d ≢ c). chain_of-set_other chains c d chain other ∙ tells d ∙ sym (notifiers_of-push_other ns (row_on c n) d (other_place c d other)))
    (cases_eq d c)

-- ---- one taken out

filter-map : {X Y : Type 0} (p : Y → Bool) (q : X → Bool) (f : X → Y) (xs : List X) → ((x : X) → p (f x) ≡ q x) → filter p (map f xs) ≡ map f (filter q xs)
filter-map p q f [] same = refl
filter-map p q f (x ∷ xs) same =
    ap (λ (t : Bool). cond t (f x ∷ filter p (map f xs)) (filter p (map f xs))) (same x)
    ∙ ap (λ ys. cond (q x) (f x ∷ ys) ys) (filter-map p q f xs same)
    ∙ passed (q x) where
      passed : (t : Bool) → cond t (f x ∷ map f (filter q xs)) (map f (filter q xs)) ≡ map f (cond t (x ∷ filter q xs) (filter q xs))
      passed true = refl
      passed false = refl

filter_all : {X : Type 0} (xs : List X) → filter (λ (x : X). true) xs ≡ xs
filter_all [] = refl
filter_all (x ∷ xs) = ap (λ ys. x ∷ ys) (filter_all xs)

-- the chains without the notifier of an id in one of them are those of the notifiers without it
pub Tells-without : (chains : List (List Notifier)) (c id : ℕ) (ns : List NotifierRow) → Tells chains ns
    → Tells (set chains c (filter (λ n. not (nat_eq n.id id)) (get_or chains c []))) (without_notifier c id ns)
Tells-without chains c id ns tells d =
    ⊎_elim
    (λ (e : d ≡ c).
    subst (λ (x : ℕ). chain_of (set chains c kept) x ≡ filter left (chain_of chains x)) (sym e) here)
    (λ (other : d ≢ c). chain_of-set_other chains c d kept other ∙ sym (elsewhere other))
    (cases_eq d c)
    ∙ ap (filter left) (tells d)
    ∙ sym (notifiers_of-filter left ns d) where
      left : NotifierRow → Bool
      left n = not (nat_eq n.clock c && nat_eq n.id id)

      kept : List Notifier
      kept = filter (λ n. not (nat_eq n.id id)) (get_or chains c [])

      here : chain_of (set chains c kept) c ≡ filter left (chain_of chains c)
      here =
          ⊎_elim
          (λ (within : c < length chains). chain_of-set_same chains c kept within ∙ sym own)
          (λ (past : length chains ≤ c).
          ap (λ (cs : List (List Notifier)). chain_of cs c) (set_past chains c kept past)
          ∙ ap (map (row_on c)) (get_or_past chains c [] past)
          ∙ sym (ap (λ (ms : List Notifier). filter left (map (row_on c) ms)) (get_or_past chains c [] past)))
          (cases_lt c (length chains)) where
            own : filter left (chain_of chains c) ≡ map (row_on c) kept
            own = filter-map left (λ n. not (nat_eq n.id id)) (row_on c) (get_or chains c []) (λ n. ap (λ (t : Bool). not (t && nat_eq n.id id)) (test_same c))

      elsewhere : d ≢ c → filter left (chain_of chains d) ≡ chain_of chains d
      elsewhere other =
          filter-map left (λ x. true) (row_on d) (get_or chains d []) (λ x. ap (λ (t : Bool). not (t && nat_eq x.id id)) (other_place_back c d other))
          ∙ ap (map (row_on d)) (filter_all (get_or chains d []))

-- ---- what is asked of a chain

-- an id is in it where a notifier has it
pub has_id-chain : (id c : ℕ) (chain : List Notifier) → has_id id (map (row_on c) chain) ≡ list_any (λ other. nat_eq other.id id) chain
has_id-chain id c [] = refl
has_id-chain id c (m ∷ ms) = ap (λ (t : Bool). nat_eq m.id id || t) (has_id-chain id c ms)

-- ---- answers

-- what holds anyway holds where a call succeeds
pub on_ok_always : {T E P : Type 0} (r : Result T E) → P → OnOk r P
on_ok_always (Ok x) p = p
on_ok_always (Err e) p = tt

-- what the error of a call is told by that which it was made of
pub told_of_error : {T E : Type 0} (r : Result T E) (Q P : E → Type 0) → IsErrAnd r Q → ((e : E) → Q e → P e) → IfErr r P
told_of_error (Ok x) Q P is all = tt
told_of_error (Err e) Q P is all = all e is
