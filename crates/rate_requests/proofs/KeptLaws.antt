-- Laws on the ranges of each clock: what a changed or a new handle does to them, and what they tell of the handles.
use Rattle.std.proofs.Common.{◌≡◌, ℕ, zero, suc, ◌+◌, ◌<◌, ◌&&◌, ◌||◌, Bool, false, not, cond, List, [], ◌∷◌, ◌++◌, Option, Some, refl, sym, ap, ◌∙◌, subst, ⊎_elim, arith, length, map, set, get_or, nat_eq, nat_lt}
use Rattle.std.specs.Prelude.{fold, max, min, None, Vec}
use Rattle.std.specs.Option.{option_map}
use Rattle.std.specs.declared.alloc.Global.{Global}
use Rattle.std.specs.List.{list_any}
use Rattle.std.proofs.lemmas.Bool.{cases_eq}
use Rattle.std.proofs.lemmas.List.{append-nil, get_or-set_same, get_or-set_other}
use Rattle.slab.specs.Slab.{Slab}
use Rattle.clk_base.specs.declared.clock.ClockId.{ClockId}
use Rattle.clk_model.specs.declared.row.HandleRow.{HandleRow}
use Rattle.clk_model.specs.State.{handle_at}
use Rattle.clk_model.specs.Round.{most_rate}
use Rattle.rate_requests.specs.declared.held.Held.{Held}
use Rattle.rate_requests.specs.declared.span.Span.{Span}
use Rattle.rate_requests.specs.Handles.{low_in, high_in, misses_in, with_range_at}
use Rattle.rate_requests.specs.Spans.{lists, has_number, misses_span, span_of, spans_from, with_range}
use Rattle.rate_requests.specs.Records.{handles_of}
use Rattle.rate_requests.specs.Kept.{IsKept, HasPlace, AreKept}
use Rattle.rate_requests.proofs.Spanned.{swapped, spans_from-set, spans_from-kept, spans_from-push, spans_from-ranged, replaced_at, map-spans_from, any-spans_from, any-swapped}
use Rattle.clk_model.proofs.Members.{test_same}
use Rattle.clk_model.proofs.AboveLaws.{differs}

-- a look-up by number
handle_at-get_or : (handles : List (Option HandleRow)) (n : ℕ) → handle_at handles n ≡ get_or handles n None
handle_at-get_or [] n = refl
handle_at-get_or (h ∷ handles) zero = refl
handle_at-get_or (h ∷ handles) (suc n) = handle_at-get_or handles n

-- a handle that changes, or goes, changes the ranges of its clock alone
pub kept_turned : (handles : List (Option HandleRow)) (spans : List (List Span)) (n : ℕ) (row : Option HandleRow) (h : HandleRow) (f : List Span → List Span)
    → IsKept handles spans → handle_at handles n ≡ Some h
    → ((k x : ℕ) → nat_eq h.clock.0 k ≡ false → span_of k x row ≡ []) → f [] ≡ [] → ((ss : List Span) → f ss ≡ swapped n (span_of h.clock.0 n row) ss)
    → IsKept (set handles n row) (set spans h.clock.0 (f (get_or spans h.clock.0 [])))
kept_turned handles spans n row h f kept at elsewhere none replaces k =
    ⊎_elim
    (λ (e : h.clock.0 ≡ k).
    subst (λ (x : ℕ). get_or (set spans h.clock.0 (f (get_or spans h.clock.0 []))) x [] ≡ spans_from x 0 (set handles n row)) e
    (replaced_at spans h.clock.0 f none
    ∙ ap f (kept h.clock.0)
    ∙ replaces (spans_from h.clock.0 0 handles)
    ∙ sym (spans_from-set h.clock.0 0 n n handles row h (omega arith) there (test_same h.clock.0))))
    (λ (other : h.clock.0 ≡ k → ⊥).
    get_or-set_other spans h.clock.0 k (f (get_or spans h.clock.0 [])) [] (λ e. other (sym e))
    ∙ kept k
    ∙ sym (spans_from-kept k 0 n handles row (Some h) there
    (λ x. elsewhere k x (differs h.clock.0 k other)
    ∙ sym (ap (λ (t : Bool). cond t (record { number = x; min = h.min; max = h.max } ∷ []) []) (differs h.clock.0 k other)))))
    (cases_eq h.clock.0 k) where
      there : get_or handles n None ≡ Some h
      there = sym (handle_at-get_or handles n) ∙ at

-- one that keeps its range leaves them
pub kept_same : (handles : List (Option HandleRow)) (spans : List (List Span)) (n : ℕ) (row : Option HandleRow) (h : HandleRow)
    → IsKept handles spans → handle_at handles n ≡ Some h → ((k x : ℕ) → span_of k x row ≡ span_of k x (Some h)) → IsKept (set handles n row) spans
kept_same handles spans n row h kept at same k =
    kept k ∙ sym (spans_from-kept k 0 n handles row (Some h) (sym (handle_at-get_or handles n) ∙ at) (same k))

-- the boundaries of a clock are those of its ranges
pub low_kept : (handles : List (Option HandleRow)) (spans : List (List Span)) (c : ℕ) → IsKept handles spans → fold max 0 (map (λ s. s.min) (get_or spans c [])) ≡ low_in handles c
low_kept handles spans c kept =
    ap (λ (ss : List Span). fold max 0 (map (λ s. s.min) ss)) (kept c)
    ∙ ap (fold max 0) (map-spans_from (λ s. s.min) (λ h. h.min) (λ k h. refl) c 0 handles)

pub high_kept : (handles : List (Option HandleRow)) (spans : List (List Span)) (c : ℕ) → IsKept handles spans
    → fold min most_rate (map (λ s. s.max) (get_or spans c [])) ≡ high_in handles c
high_kept handles spans c kept =
    ap (λ (ss : List Span). fold min most_rate (map (λ s. s.max) ss)) (kept c)
    ∙ ap (fold min most_rate) (map-spans_from (λ s. s.max) (λ h. h.max) (λ k h. refl) c 0 handles)

-- so they are, if a handle had another range
pub low_ranged : (handles : List (Option HandleRow)) (spans : List (List Span)) (c n least most : ℕ) → IsKept handles spans
    → fold max 0 (map (λ s. s.min) (map (with_range n least most) (get_or spans c []))) ≡ low_in (with_range_at handles n least most) c
low_ranged handles spans c n least most kept =
    ap (λ (ss : List Span). fold max 0 (map (λ s. s.min) (map (with_range n least most) ss))) (kept c)
    ∙ ap (λ (ss : List Span). fold max 0 (map (λ s. s.min) ss)) (spans_from-ranged c 0 n n least most handles (omega arith))
    ∙ ap (fold max 0) (map-spans_from (λ s. s.min) (λ h. h.min) (λ k h. refl) c 0 (with_range_at handles n least most))

pub high_ranged : (handles : List (Option HandleRow)) (spans : List (List Span)) (c n least most : ℕ) → IsKept handles spans
    → fold min most_rate (map (λ s. s.max) (map (with_range n least most) (get_or spans c []))) ≡ high_in (with_range_at handles n least most) c
high_ranged handles spans c n least most kept =
    ap (λ (ss : List Span). fold min most_rate (map (λ s. s.max) (map (with_range n least most) ss))) (kept c)
    ∙ ap (λ (ss : List Span). fold min most_rate (map (λ s. s.max) ss)) (spans_from-ranged c 0 n n least most handles (omega arith))
    ∙ ap (fold min most_rate) (map-spans_from (λ s. s.max) (λ h. h.max) (λ k h. refl) c 0 (with_range_at handles n least most))

-- and a range misses another handle's where it misses another range of the clock
pub misses_kept : (handles : List (Option HandleRow)) (spans : List (List Span)) (n least most : ℕ) (h : HandleRow) → IsKept handles spans → handle_at handles n ≡ Some h
    → (nat_lt most least || list_any (λ s. not (has_number n s) && misses_span least most s) (get_or spans h.clock.0 [])) ≡ misses_in handles n h.clock.0 least most
misses_kept handles spans n least most h kept at =
    ap (λ (t : Bool). nat_lt most least || t)
    (sym (any-swapped (misses_span least most) n (get_or spans h.clock.0 []))
    ∙ ap (λ (ss : List Span). list_any (misses_span least most) (swapped n [] ss)) (kept h.clock.0)
    ∙ ap (list_any (misses_span least most))
    (sym (spans_from-set h.clock.0 0 n n handles None h (omega arith) (sym (handle_at-get_or handles n) ∙ at) (test_same h.clock.0)))
    ∙ any-spans_from (misses_span least most) (λ o. nat_lt o.max least || nat_lt most o.min) (λ k o. refl) h.clock.0 0 (set handles n None))

-- a new one comes last among those of its clock
pub kept_added : (handles : List (Option HandleRow)) (spans : List (List Span)) (row : HandleRow) → IsKept handles spans → row.clock.0 < length spans
    → IsKept (handles ++ Some row ∷ []) (set spans row.clock.0 (get_or spans row.clock.0 [] ++ record { number = length handles; min = row.min; max = row.max } ∷ []))
kept_added handles spans row kept within k =
    ⊎_elim
    (λ (e : row.clock.0 ≡ k).
    subst (λ (x : ℕ). get_or (set spans row.clock.0 (get_or spans row.clock.0 [] ++ span ∷ [])) x [] ≡ spans_from x 0 (handles ++ Some row ∷ [])) e
    (get_or-set_same spans row.clock.0 (get_or spans row.clock.0 [] ++ span ∷ []) [] within
    ∙ ap (λ (ss : List Span). ss ++ span ∷ []) (kept row.clock.0)
    ∙ sym (behind row.clock.0
    ∙ ap (λ (t : Bool). spans_from row.clock.0 0 handles ++ cond t (span ∷ []) []) (test_same row.clock.0))))
    (λ (other : row.clock.0 ≡ k → ⊥).
    get_or-set_other spans row.clock.0 k (get_or spans row.clock.0 [] ++ span ∷ []) [] (λ e. other (sym e))
    ∙ kept k
    ∙ sym (behind k
    ∙ ap (λ (t : Bool). spans_from k 0 handles ++ cond t (span ∷ []) []) (differs row.clock.0 k other)
    ∙ append-nil (spans_from k 0 handles)))
    (cases_eq row.clock.0 k) where
      span : Span
      span = record { number = length handles; min = row.min; max = row.max }

      behind : (c : ℕ) → spans_from c 0 (handles ++ Some row ∷ []) ≡ spans_from c 0 handles ++ span_of c (length handles) (Some row)
      behind c =
          let number : 0 + length handles ≡ length handles = omega arith in
          spans_from-push c 0 handles (Some row) ∙ ap (λ (x : ℕ). spans_from c 0 handles ++ span_of c x (Some row)) number

-- ---- the place that was made

-- it is there for the clock for which it was made
pub place_at : {places : Vec ℕ Global} {records : Slab Held} {spans : List (Vec Span Global)} {place : Option ClockId} {c : ℕ} → AreKept places records spans place
    → option_map (λ (k : ClockId). k.0) place ≡ Some c → HasPlace places records spans c
place_at {place = None} are is = absurd (none_is_some is) where
  none_is_some : {x : ℕ} → None ≡ Some x → ⊥
  none_is_some e = cc
place_at {places} {records} {spans} {place = Some k} {c} are is = subst (HasPlace places records spans) (same k.0 c is) are.placed where
  same : (x y : ℕ) → Some x ≡ Some y → x ≡ y
  same x y e = cc

-- fields in which no place is lost keep the one that was made
pub still_placed : (places places' : Vec ℕ Global) (records records' : Slab Held) (spans spans' : List (Vec Span Global)) (place : Option ClockId)
    → ((c : ℕ) → HasPlace places records spans c → HasPlace places' records' spans' c) → IsKept (handles_of records'.slots places'.items) (lists spans')
    → AreKept places records spans place → AreKept places' records' spans' place
still_placed places places' records records' spans spans' None more kept are = record { kept = kept; placed = tt }
still_placed places places' records records' spans spans' (Some k) more kept are = record { kept = kept; placed = more k.0 are.placed }
