-- Laws on records and the places of handles: which rows they give, and what a change of one slot turns these into.
use Rattle.std.proofs.Common.{◌≡◌, ◌≢◌, ℕ, zero, suc, ◌+◌, ◌<◌, ◌≤◌, Bool, cond, List, [], ◌∷◌, ◌++◌, Option, Some, None, is_some, IsSome, refl, sym, ap, ◌∙◌, subst, ⊎_elim, arith, length, set, get_or}
use Rattle.std.specs.Prelude.{unwrap_or}
use Rattle.std.specs.Option.{option_map}
use Rattle.std.proofs.lemmas.Bool.{cases_eq, cases_lt, false≢true}
use Rattle.std.proofs.lemmas.List.{get_or_past}
use Rattle.std.proofs.lemmas.Option.{slice_get_past}
use Rattle.clk_model.specs.declared.row.HandleRow.{HandleRow}
use Rattle.clk_model.specs.State.{handle_at}
use Rattle.rate_requests.specs.declared.held.Held.{Held}
use Rattle.rate_requests.specs.Records.{slot_at, row_in, rows_from, handles_of}
use Rattle.clk_model.proofs.Members.{test_same}
use Rattle.clk_model.proofs.AboveLaws.{differs}

-- ---- one slot

some_same : {X : Type 0} (x y : X) → Some x ≡ Some y → x ≡ y
some_same x y e = cc

some_not_none : {X : Type 0} (x : X) → Some x ≡ None → ⊥
some_not_none x e = cc

-- a slot with something is one of the slots
pub slot_within : (slots : List (Option Held)) (k : ℕ) (h : Held) → slot_at slots k ≡ Some h → k < length slots
slot_within slots k h lies =
    ⊎_elim
    (λ (within : k < length slots). within)
    (λ (past : length slots ≤ k). absurd (some_not_none h (sym lies ∙ get_or_past slots k None past)))
    (cases_lt k (length slots))

-- a record of this number with this row, or nothing
abbrev pub record_of : ℕ → Option HandleRow → Option Held
record_of n row = option_map (λ (r : HandleRow). let h : Held = record { number = n; row = r } in h) row

-- it has the row of its number
row_in-same : (n : ℕ) (row : Option HandleRow) → row_in n (record_of n row) ≡ row
row_in-same n None = refl
row_in-same n (Some r) = ap (λ (t : Bool). cond t (Some r) None) (test_same n)

-- nothing of another number
row_in-other : (n m : ℕ) (slot : Option Held) → ((h : Held) → slot ≡ Some h → h.number ≡ n) → m ≢ n → row_in m slot ≡ None
row_in-other n m None only other = refl
row_in-other n m (Some h) only other = ap (λ (t : Bool). cond t (Some h.row) None) (differs h.number m (λ e. other (sym e ∙ only h refl)))

-- and where there is a row there is a record of the number
row_in-some : (n : ℕ) (slot : Option Held) → IsSome (row_in n slot) → (h : Held) × (slot ≡ Some h) × (h.number ≡ n)
row_in-some n None some = absurd (false≢true some)
row_in-some n (Some h) some =
    ⊎_elim
    (λ (e : h.number ≡ n). (h, refl, e))
    (λ (other : h.number ≡ n → ⊥). absurd (false≢true (ap (λ (t : Bool). is_some (cond t (Some h.row) None)) (sym (differs h.number n other)) ∙ some)))
    (cases_eq h.number n)

-- ---- the rows by number

length-rows_from : (b : ℕ) (slots : List (Option Held)) (places : List ℕ) → length (rows_from b slots places) ≡ length places
length-rows_from b slots [] = refl
length-rows_from b slots (place ∷ places) = ap suc (length-rows_from (suc b) slots places)

pub length-handles_of : (slots : List (Option Held)) (places : List ℕ) → length (handles_of slots places) ≡ length places
length-handles_of slots places = length-rows_from 0 slots places

-- a handle has the row that its place has for its number
handle_at-rows_from : (b k : ℕ) (slots : List (Option Held)) (places : List ℕ) → k < length places
    → handle_at (rows_from b slots places) k ≡ row_in (b + k) (slot_at slots (get_or places k 0))
handle_at-rows_from b k slots [] within = absurd (omega arith)
handle_at-rows_from b zero slots (place ∷ places) within =
    let same : b ≡ b + 0 = omega arith in
    ap (λ (m : ℕ). row_in m (slot_at slots place)) same
handle_at-rows_from b (suc k) slots (place ∷ places) within =
    let same : suc b + k ≡ b + suc k = omega arith in
    handle_at-rows_from (suc b) k slots places (omega arith) ∙ ap (λ (m : ℕ). row_in m (slot_at slots (get_or places k 0))) same

pub handle_at-placed : (n : ℕ) (slots : List (Option Held)) (places : List ℕ) → n < length places → handle_at (handles_of slots places) n ≡ row_in n (slot_at slots (get_or places n 0))
handle_at-placed n slots places within =
    let same : 0 + n ≡ n = omega arith in
    handle_at-rows_from 0 n slots places within ∙ ap (λ (m : ℕ). row_in m (slot_at slots (get_or places n 0))) same

-- and none was made past the last place
pub handle_at-past : (n : ℕ) (slots : List (Option Held)) (places : List ℕ) → length places ≤ n → handle_at (handles_of slots places) n ≡ None
handle_at-past n slots places past =
    let long = length-handles_of slots places in
    ap (λ (o : Option (Option HandleRow)). unwrap_or o None) (slice_get_past (handles_of slots places) n (omega arith))

-- a live handle has its record in its place
pub record IsPlaced (n : ℕ) (slots : List (Option Held)) (places : List ℕ) : Type 0 where
  pub within : n < length places
  pub held : Held
  pub lies : slot_at slots (get_or places n 0) ≡ Some held
  pub numbered : held.number ≡ n

pub live_placed : (n : ℕ) (slots : List (Option Held)) (places : List ℕ) → IsSome (handle_at (handles_of slots places) n) → IsPlaced n slots places
live_placed n slots places live =
    ⊎_elim
    (λ (within : n < length places).
    let there = row_in-some n (slot_at slots (get_or places n 0)) (subst (λ (o : Option HandleRow). IsSome o) (handle_at-placed n slots places within) live) in
    record { within = within; held = there.0; lies = there.1; numbered = there.2 })
    (λ (past : length places ≤ n). absurd (false≢true (subst (λ (o : Option HandleRow). IsSome o) (handle_at-past n slots places past) live)))
    (cases_lt n (length places))

-- ---- one slot changes

-- a slot has the record of this number with this row now, or nothing; it had a record of the number or nothing before; all
-- others are as they were
pub record ChangesSlot (old new : List (Option Held)) (n slot : ℕ) (row : Option HandleRow) : Type 0 where
  pub before : (h : Held) → slot_at old slot ≡ Some h → h.number ≡ n
  pub here : slot_at new slot ≡ record_of n row
  pub others : (k : ℕ) → k ≢ slot → slot_at new k ≡ slot_at old k

-- each other number finds in each slot what it found
same_row : (old new : List (Option Held)) (n slot : ℕ) (row : Option HandleRow) → ChangesSlot old new n slot row → (m k : ℕ) → m ≢ n → row_in m (slot_at new k) ≡ row_in m (slot_at old k)
same_row old new n slot row change m k other =
    ⊎_elim
    (λ (e : k ≡ slot).
    ap (λ (x : ℕ). row_in m (slot_at new x)) e
    ∙ ap (row_in m) change.here
    ∙ row_in-other n m (record_of n row) (numbered row) other
    ∙ sym (row_in-other n m (slot_at old slot) change.before other)
    ∙ ap (λ (x : ℕ). row_in m (slot_at old x)) (sym e))
    (λ (away : k ≡ slot → ⊥). ap (row_in m) (change.others k away))
    (cases_eq k slot) where
      numbered : (o : Option HandleRow) (h : Held) → record_of n o ≡ Some h → h.number ≡ n
      numbered None h e = absurd (some_not_none h (sym e))
      numbered (Some r) h e = ap (λ (x : Held). x.number) (some_same h (record { number = n; row = r }) (sym e))

-- so handles of other numbers keep their rows
rows_from-kept : (old new : List (Option Held)) (n slot : ℕ) (row : Option HandleRow) (b : ℕ) (places : List ℕ) → ChangesSlot old new n slot row
    → ((m : ℕ) → b ≤ m → m < b + length places → m ≢ n) → rows_from b new places ≡ rows_from b old places
rows_from-kept old new n slot row b [] change away = refl
rows_from-kept old new n slot row b (place ∷ places) change away =
    ap (λ (r : Option HandleRow). r ∷ rows_from (suc b) new places) (same_row old new n slot row change b place (away b (omega arith) (omega arith)))
    ∙ ap (λ (rows : List (Option HandleRow)). row_in b (slot_at old place) ∷ rows)
    (rows_from-kept old new n slot row (suc b) places change (λ m low high. away m (omega arith) (omega arith)))

-- and the handle whose place it is has the row
rows_from-set : (old new : List (Option Held)) (n slot : ℕ) (row : Option HandleRow) (b k : ℕ) (places : List ℕ) → ChangesSlot old new n slot row → b + k ≡ n
    → get_or places k 0 ≡ slot → rows_from b new places ≡ set (rows_from b old places) k row
rows_from-set old new n slot row b k [] change at placed = refl
rows_from-set old new n slot row b zero (place ∷ places) change at placed =
    let first : b ≡ n = omega arith in
    ap (λ (r : Option HandleRow). r ∷ rows_from (suc b) new places)
    (ap (λ (m : ℕ). row_in m (slot_at new place)) first ∙ ap (λ (x : ℕ). row_in n (slot_at new x)) placed ∙ ap (row_in n) change.here ∙ row_in-same n row)
    ∙ ap (λ (rows : List (Option HandleRow)). row ∷ rows) (rows_from-kept old new n slot row (suc b) places change (λ m low high e. omega arith))
rows_from-set old new n slot row b (suc k) (place ∷ places) change at placed =
    ap (λ (r : Option HandleRow). r ∷ rows_from (suc b) new places) (same_row old new n slot row change b place (λ e. omega arith))
    ∙ ap (λ (rows : List (Option HandleRow)). row_in b (slot_at old place) ∷ rows)
    (rows_from-set old new n slot row (suc b) k places change (omega arith) placed)

-- what a change of the place of a live handle makes of the handles
pub placed_set : (old new : List (Option Held)) (n : ℕ) (places : List ℕ) (row : Option HandleRow) → IsPlaced n old places
    → slot_at new (get_or places n 0) ≡ record_of n row
    → ((k : ℕ) → k ≢ get_or places n 0 → slot_at new k ≡ slot_at old k) → handles_of new places ≡ set (handles_of old places) n row
placed_set old new n places row live here others =
    rows_from-set old new n (get_or places n 0) row 0 n places
    (record { before = λ h lies. ap (λ (x : Held). x.number) (some_same h live.held (sym lies ∙ live.lies)) ∙ live.numbered; here = here; others = others })
    (omega arith) refl

-- ---- one more handle

rows_from-push : (b place : ℕ) (slots : List (Option Held)) (places : List ℕ)
    → rows_from b slots (places ++ place ∷ []) ≡ rows_from b slots places ++ row_in (b + length places) (slot_at slots place) ∷ []
rows_from-push b place slots [] =
    let same : b ≡ b + 0 = omega arith in
    ap (λ (m : ℕ). row_in m (slot_at slots place) ∷ []) same
rows_from-push b place slots (p ∷ places) =
    let same : suc b + length places ≡ b + suc (length places) = omega arith in
    ap (λ (rows : List (Option HandleRow)). row_in b (slot_at slots p) ∷ rows)
    (rows_from-push (suc b) place slots places
    ∙ ap (λ (m : ℕ). rows_from (suc b) slots places ++ row_in m (slot_at slots place) ∷ []) same)

-- a record with the next number, in a slot that was vacant
pub placed_added : (old new : List (Option Held)) (place : ℕ) (places : List ℕ) (row : HandleRow) → slot_at old place ≡ None
    → slot_at new place ≡ record_of (length places) (Some row) → ((k : ℕ) → k ≢ place → slot_at new k ≡ slot_at old k)
    → handles_of new (places ++ place ∷ []) ≡ handles_of old places ++ Some row ∷ []
placed_added old new place places row vacant here others =
    let n = length places in
    let same : 0 + n ≡ n = omega arith in
    rows_from-push 0 place new places
    ∙ ap (λ (m : ℕ). rows_from 0 new places ++ row_in m (slot_at new place) ∷ []) same
    ∙ ap (λ (o : Option HandleRow). rows_from 0 new places ++ o ∷ []) (ap (row_in n) here ∙ row_in-same n (Some row))
    ∙ ap (λ (rows : List (Option HandleRow)). rows ++ Some row ∷ [])
    (rows_from-kept old new n place (Some row) 0 places (record { before = λ h lies. absurd (some_not_none h (sym lies ∙ vacant)); here = here; others = others })
    (λ m low high e. omega arith))
