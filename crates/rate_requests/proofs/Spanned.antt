-- Laws on the ranges of a clock's handles: what a changed or a new handle does to them, and what they tell of the handles.
use Rattle.std.proofs.Common.{◌≡◌, ℕ, zero, suc, ◌+◌, ◌-◌, ◌<◌, ◌≤◌, ◌≢◌, ◌&&◌, ◌||◌, Bool, true, false, not, cond, List, [], ◌∷◌, ◌++◌, Option, Some, None, Result, Ok, Err, OnErr, refl, sym, ap, ◌∙◌, subst, ⊎_elim, arith, length, map, set, get_or, nat_eq}
use Rattle.std.specs.Prelude.{filter, Vec, vec_len, vec_capacity}
use Rattle.std.specs.declared.alloc.Global.{Global}
use Rattle.std.specs.List.{list_any}
use Rattle.std.proofs.lemmas.Bool.{cases_eq, cases_lt}
use Rattle.std.proofs.lemmas.Bool.Decides.{nat_tests}
use Rattle.std.proofs.lemmas.List.{append_assoc, append-nil, get_or-map, map-set, get_or-set_same, get_or-set_other, get_or_past, length-map, length-set}
use Rattle.std.specs.Option.{option_map}
use Rattle.clk_model.specs.State.{handle_at}
use Rattle.clk_model.specs.declared.row.HandleRow.{HandleRow}
use Rattle.rate_requests.specs.declared.span.Span.{Span}
use Rattle.rate_requests.specs.Handles.{rows_on}
use Rattle.rate_requests.specs.Spans.{lists, rooms, HasRoom, KeepsRoom, has_number, with_range, span_of, spans_from}
use Rattle.clk_model.proofs.Members.{test_same}
use Rattle.clk_model.proofs.AboveLaws.{differs}

-- a row with another range
abbrev pub with_limits : ℕ → ℕ → HandleRow → HandleRow
with_limits least most h = record h { min = least; max = most }

-- ---- one handle changes

-- the ranges with those of one number replaced
abbrev pub swapped : ℕ → List Span → List Span → List Span
swapped m new [] = []
swapped m new (s ∷ ss) = cond (nat_eq s.number m) (new ++ swapped m new ss) (s ∷ swapped m new ss)

-- a range in front of others stays where it has another number
swapped-other : (m : ℕ) (new ss : List Span) (c k : ℕ) (o : Option HandleRow) → (k ≡ m → ⊥) → swapped m new (span_of c k o ++ ss) ≡ span_of c k o ++ swapped m new ss
swapped-other m new ss c k None other = refl
swapped-other m new ss c k (Some h) other =
    elim (nat_eq h.clock.0 c) as (λ t. swapped m new (cond t (record { number = k; min = h.min; max = h.max } ∷ []) [] ++ ss) ≡ cond t (record { number = k; min = h.min; max = h.max } ∷ []) [] ++ swapped m new ss) [
      | true ↦ ap (λ (t : Bool). cond t (new ++ swapped m new ss) (record { number = k; min = h.min; max = h.max } ∷ swapped m new ss)) (differs k m other)
      | false ↦ refl
    ]

-- ranges of later numbers stay
swapped-later : (m : ℕ) (new : List Span) (c k : ℕ) (hs : List (Option HandleRow)) → m < k → swapped m new (spans_from c k hs) ≡ spans_from c k hs
swapped-later m new c k [] less = refl
swapped-later m new c k (o ∷ hs) less =
    swapped-other m new (spans_from c (suc k) hs) c k o (λ e. absurd (omega arith))
    ∙ ap (λ ss. span_of c k o ++ ss) (swapped-later m new c (suc k) hs (omega arith))

-- where a handle of the clock changes, its range is replaced
pub spans_from-set : (c k n m : ℕ) (hs : List (Option HandleRow)) (o : Option HandleRow) (h : HandleRow) → m ≡ k + n → get_or hs n None ≡ Some h → nat_eq h.clock.0 c ≡ true
    → spans_from c k (set hs n o) ≡ swapped m (span_of c m o) (spans_from c k hs)
spans_from-set c k n m [] o h is at here = absurd cc
spans_from-set c k zero m (g ∷ hs) o h is at here =
    let same : m ≡ k = omega arith in
    ap (λ (ss : List Span). span_of c k o ++ ss) (sym (swapped-later m (span_of c m o) c (suc k) hs (omega arith)))
    ∙ ap (λ (x : ℕ). span_of c x o ++ swapped m (span_of c m o) (spans_from c (suc k) hs)) (sym same)
    ∙ sym (ap (λ (x : Option HandleRow). swapped m (span_of c m o) (span_of c k x ++ spans_from c (suc k) hs)) at
    ∙ ap (λ (t : Bool). swapped m (span_of c m o) (cond t (record { number = k; min = h.min; max = h.max } ∷ []) [] ++ spans_from c (suc k) hs)) here
    ∙ ap (λ (t : Bool). cond t (span_of c m o ++ swapped m (span_of c m o) (spans_from c (suc k) hs)) (record { number = k; min = h.min; max = h.max } ∷ swapped m (span_of c m o) (spans_from c (suc k) hs)))
    (ap (nat_eq k) same ∙ test_same k))
spans_from-set c k (suc n) m (g ∷ hs) o h is at here =
    ap (λ (ss : List Span). span_of c k g ++ ss) (spans_from-set c (suc k) n m hs o h (omega arith) at here)
    ∙ sym (swapped-other m (span_of c m o) (spans_from c (suc k) hs) c k g (λ e. absurd (omega arith)))

-- where its range on the clock stays, so do the clock's ranges
pub spans_from-kept : (c k n : ℕ) (hs : List (Option HandleRow)) (o h : Option HandleRow) → get_or hs n None ≡ h → ((x : ℕ) → span_of c x o ≡ span_of c x h) → spans_from c k (set hs n o) ≡ spans_from c k hs
spans_from-kept c k n [] o h at same = refl
spans_from-kept c k zero (g ∷ hs) o h at same = ap (λ ss. ss ++ spans_from c (suc k) hs) (same k ∙ ap (span_of c k) (sym at))
spans_from-kept c k (suc n) (g ∷ hs) o h at same = ap (λ (ss : List Span). span_of c k g ++ ss) (spans_from-kept c (suc k) n hs o h at same)

-- the range of a new handle comes last
pub spans_from-push : (c k : ℕ) (hs : List (Option HandleRow)) (o : Option HandleRow) → spans_from c k (hs ++ o ∷ []) ≡ spans_from c k hs ++ span_of c (k + length hs) o
spans_from-push c k [] o = let none : k + 0 ≡ k = omega arith in append-nil (span_of c k o) ∙ ap (λ (x : ℕ). span_of c x o) (sym none)
spans_from-push c k (g ∷ hs) o =
    let more : suc k + length hs ≡ k + suc (length hs) = omega arith in
    ap (λ (ss : List Span). span_of c k g ++ ss) (spans_from-push c (suc k) hs o)
    ∙ sym (append_assoc (span_of c k g) (spans_from c (suc k) hs) (span_of c (suc k + length hs) o))
    ∙ ap (λ (x : ℕ). (span_of c k g ++ spans_from c (suc k) hs) ++ span_of c x o) more

-- ---- the two ways to replace a range

pub map-with_range : (m least most : ℕ) (ss : List Span) → map (with_range m least most) ss ≡ swapped m (record { number = m; min = least; max = most } ∷ []) ss
map-with_range m least most [] = refl
map-with_range m least most (s ∷ ss) =
    elim (nat_eq s.number m) as (λ t. nat_eq s.number m ≡ t
    → cond t (record { number = s.number; min = least; max = most }) s ∷ map (with_range m least most) ss
    ≡ cond t (record { number = m; min = least; max = most } ∷ swapped m (record { number = m; min = least; max = most } ∷ []) ss) (s ∷ swapped m (record { number = m; min = least; max = most } ∷ []) ss)) [
      | true ↦ λ e.
          let same : s.number ≡ m = same_number s.number m e in
          ap (λ (x : ℕ). let y : Span = record { number = x; min = least; max = most } in y ∷ map (with_range m least most) ss) same
          ∙ ap (λ (xs : List Span). record { number = m; min = least; max = most } ∷ xs) (map-with_range m least most ss)
      | false ↦ λ e. ap (λ (xs : List Span). s ∷ xs) (map-with_range m least most ss)
    ] refl where
      same_number : (a b : ℕ) → nat_eq a b ≡ true → a ≡ b
      same_number a b e = grind (arith, nat_tests)

pub filter-has_number : (m : ℕ) (ss : List Span) → filter (λ s. not (has_number m s)) ss ≡ swapped m [] ss
filter-has_number m [] = refl
filter-has_number m (s ∷ ss) =
    elim (nat_eq s.number m) as (λ t. cond (not t) (s ∷ filter (λ x. not (has_number m x)) ss) (filter (λ x. not (has_number m x)) ss) ≡ cond t ([] ++ swapped m [] ss) (s ∷ swapped m [] ss)) [
      | true ↦ filter-has_number m ss
      | false ↦ ap (λ (xs : List Span). s ∷ xs) (filter-has_number m ss)
    ]

-- a handle with another range replaces it among the ranges of its clock
pub spans_from-ranged : (c k n m least most : ℕ) (hs : List (Option HandleRow)) → m ≡ k + n
    → map (with_range m least most) (spans_from c k hs) ≡ spans_from c k (set hs n (option_map (with_limits least most) (handle_at hs n)))
spans_from-ranged c k n m least most hs is = map-with_range m least most (spans_from c k hs) ∙ by k n hs is where
  new : List Span
  new = record { number = m; min = least; max = most } ∷ []

  by : (k n : ℕ) (hs : List (Option HandleRow)) → m ≡ k + n → swapped m new (spans_from c k hs) ≡ spans_from c k (set hs n (option_map (with_limits least most) (handle_at hs n)))
  by k n [] is = refl
  by k zero (None ∷ hs) is = swapped-later m new c (suc k) hs (omega arith)
  by k zero (Some h ∷ hs) is =
      let same : m ≡ k = omega arith in
      elim (nat_eq h.clock.0 c) as (λ t. swapped m new (cond t (record { number = k; min = h.min; max = h.max } ∷ []) [] ++ spans_from c (suc k) hs)
      ≡ cond t (record { number = k; min = least; max = most } ∷ []) [] ++ spans_from c (suc k) hs) [
        | true ↦
            ap (λ (t : Bool). cond t (new ++ swapped m new (spans_from c (suc k) hs)) (record { number = k; min = h.min; max = h.max } ∷ swapped m new (spans_from c (suc k) hs))) (ap (nat_eq k) same ∙ test_same k)
            ∙ ap (λ (ss : List Span). new ++ ss) (swapped-later m new c (suc k) hs (omega arith))
            ∙ ap (λ (x : ℕ). let y : Span = record { number = x; min = least; max = most } in y ∷ spans_from c (suc k) hs) same
        | false ↦ swapped-later m new c (suc k) hs (omega arith)
      ]
  by k (suc n) (g ∷ hs) is =
      swapped-other m new (spans_from c (suc k) hs) c k g (λ e. absurd (omega arith))
      ∙ ap (λ (ss : List Span). span_of c k g ++ ss) (by (suc k) n hs (omega arith))

-- ---- what the ranges tell

-- a value of each range is that of each handle
pub map-spans_from : (f : Span → ℕ) (g : HandleRow → ℕ) → ((k : ℕ) (h : HandleRow) → f (record { number = k; min = h.min; max = h.max }) ≡ g h)
    → (c k : ℕ) (hs : List (Option HandleRow)) → map f (spans_from c k hs) ≡ map g (rows_on hs c)
map-spans_from f g same c k [] = refl
map-spans_from f g same c k (None ∷ hs) = map-spans_from f g same c (suc k) hs
map-spans_from f g same c k (Some h ∷ hs) =
    elim (nat_eq h.clock.0 c) as (λ t. map f (cond t (record { number = k; min = h.min; max = h.max } ∷ []) [] ++ spans_from c (suc k) hs)
    ≡ map g (cond t (h ∷ rows_on hs c) (rows_on hs c))) [
      | true ↦ ap (λ (x : ℕ). x ∷ map f (spans_from c (suc k) hs)) (same k h) ∙ ap (λ (xs : List ℕ). g h ∷ xs) (map-spans_from f g same c (suc k) hs)
      | false ↦ map-spans_from f g same c (suc k) hs
    ]

-- some range passes a test where the handle does
pub any-spans_from : (p : Span → Bool) (q : HandleRow → Bool) → ((k : ℕ) (h : HandleRow) → p (record { number = k; min = h.min; max = h.max }) ≡ q h)
    → (c k : ℕ) (hs : List (Option HandleRow)) → list_any p (spans_from c k hs) ≡ list_any q (rows_on hs c)
any-spans_from p q same c k [] = refl
any-spans_from p q same c k (None ∷ hs) = any-spans_from p q same c (suc k) hs
any-spans_from p q same c k (Some h ∷ hs) =
    elim (nat_eq h.clock.0 c) as (λ t. list_any p (cond t (record { number = k; min = h.min; max = h.max } ∷ []) [] ++ spans_from c (suc k) hs)
    ≡ list_any q (cond t (h ∷ rows_on hs c) (rows_on hs c))) [
      | true ↦ ap (λ (x : Bool). x || list_any p (spans_from c (suc k) hs)) (same k h) ∙ ap (λ (x : Bool). q h || x) (any-spans_from p q same c (suc k) hs)
      | false ↦ any-spans_from p q same c (suc k) hs
    ]

-- some range but that of one number passes
pub any-swapped : (p : Span → Bool) (m : ℕ) (ss : List Span) → list_any p (swapped m [] ss) ≡ list_any (λ s. not (has_number m s) && p s) ss
any-swapped p m [] = refl
any-swapped p m (s ∷ ss) =
    elim (nat_eq s.number m) as (λ t. list_any p (cond t ([] ++ swapped m [] ss) (s ∷ swapped m [] ss)) ≡ ((not t && p s) || list_any (λ x. not (has_number m x) && p x) ss)) [
      | true ↦ any-swapped p m ss
      | false ↦ ap (λ (t : Bool). p s || t) (any-swapped p m ss)
    ]

-- ---- the ranges of a clock in their place

-- what is read of them
pub list_read : (vs : List (Vec Span Global)) (c : ℕ) (v : Vec Span Global) → c < length vs → v ≡ get_or vs c v → get_or (lists vs) c [] ≡ v.items
list_read vs c v within here = get_or-map (λ (w : Vec Span Global). w.items) vs c v [] within ∙ ap (λ (w : Vec Span Global). w.items) (sym here)

-- and what is written
pub list_written : (vs : List (Vec Span Global)) (c : ℕ) (w : Vec Span Global) → lists (set vs c w) ≡ set (lists vs) c w.items
list_written vs c w = map-set (λ (v : Vec Span Global). v.items) vs c w

-- where a clock's ranges are replaced, the others stay
pub replaced_at : (spans : List (List Span)) (c : ℕ) (f : List Span → List Span) → f [] ≡ [] → get_or (set spans c (f (get_or spans c []))) c [] ≡ f (get_or spans c [])
replaced_at spans c f none =
    ⊎_elim
    (λ (within : c < length spans). get_or-set_same spans c (f (get_or spans c [])) [] within)
    (λ (past : length spans ≤ c).
    get_or_past (set spans c (f (get_or spans c []))) c [] (omega (arith, length-set spans c (f (get_or spans c []))))
    ∙ sym none
    ∙ ap f (sym (get_or_past spans c [] past)))
    (cases_lt c (length spans))

-- ---- room for a range more

-- how many ranges more there is room for
abbrev spare : Vec Span Global → ℕ
spare v = vec_capacity v - vec_len v

-- a clock that has room has ranges
pub room_within : (vs : List (Vec Span Global)) (c : ℕ) → HasRoom vs c → c < length vs
room_within vs c room =
    ⊎_elim
    (λ (within : c < length vs). within)
    (λ (past : length vs ≤ c).
    let none = get_or_past (rooms vs) c 0 (omega (arith, length-map vs spare)) in
    absurd (omega (arith, room, none)))
    (cases_lt c (length vs))

-- it has it where they lie
pub room_read : (vs : List (Vec Span Global)) (c : ℕ) (v : Vec Span Global) → c < length vs → v ≡ get_or vs c v → get_or (rooms vs) c 0 ≡ vec_capacity v - vec_len v
room_read vs c v within here = get_or-map spare vs c v 0 within ∙ ap spare (sym here)

-- it has it where what was written has more capacity than length
pub room_of : (vs : List (Vec Span Global)) (k : ℕ) (w : Vec Span Global) → k < length vs → vec_len w < vec_capacity w → HasRoom (set vs k w) k
room_of vs k w within more =
    let now : get_or (rooms (set vs k w)) k 0 ≡ spare w =
    ap (λ (xs : List ℕ). get_or xs k 0) (map-set spare vs k w) ∙ get_or-set_same (rooms vs) k (spare w) 0 (omega (arith, length-map vs spare)) in
    omega arith

-- where those of a clock that were written have no less room, each clock keeps its own
pub room_written : (vs : List (Vec Span Global)) (k : ℕ) (v w : Vec Span Global) → k < length vs → v ≡ get_or vs k v → vec_capacity v ≤ vec_capacity w → vec_len w ≤ vec_len v
    → KeepsRoom vs (set vs k w)
room_written vs k v w within here more less c room =
    ⊎_elim
    (λ (e : c ≡ k).
    let had : get_or (rooms vs) k 0 ≡ spare v = room_read vs k v within here in
    let was : 0 < get_or (rooms vs) k 0 = subst (λ (x : ℕ). 0 < get_or (rooms vs) x 0) e room in
    subst (λ (x : ℕ). HasRoom (set vs k w) x) (sym e) (room_of vs k w within (omega arith)))
    (λ (other : c ≢ k).
    subst (λ (x : ℕ). 0 < x) (sym (ap (λ (xs : List ℕ). get_or xs c 0) (map-set spare vs k w) ∙ get_or-set_other (rooms vs) k c (spare w) 0 other)) room)
    (cases_eq c k)

-- ---- answers

-- what holds anyway holds where a call fails
pub on_err_always : {T E P : Type 0} (r : Result T E) → P → OnErr r P
on_err_always (Ok x) p = tt
on_err_always (Err e) p = p
