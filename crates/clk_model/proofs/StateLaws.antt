-- Laws on whole states: when the gates stay, and what an event leaves.
use Rattle.std.proofs.Common.{◌≡◌, ℕ, zero, suc, ◌+◌, ◌<◌, ◌||◌, Bool, true, false, cond, List, [], ◌∷◌, ◌++◌, Option, Some, None, refl, sym, ap, ◌∙◌, inl, inr, arith, length, set, nat_lt, map}
use Rattle.std.specs.Prelude.{slice_set, filter}
use Rattle.std.proofs.lemmas.Bool.Decides.{nat_tests}
use Rattle.clk_base.specs.declared.event.Turn.{Turn}
use Rattle.reg_bank.specs.Registers.{Registers}
use Rattle.clk_model.specs.declared.row.ClockRow.{ClockRow}
use Rattle.clk_model.specs.declared.row.HandleRow.{HandleRow}
use Rattle.clk_model.specs.Lists.{is_in, count_from, present}
use Rattle.clk_model.specs.State.{State, row_of, registered, handle_at}
use Rattle.clk_model.specs.Tree.{path}
use Rattle.clk_model.specs.Holders.{clocks_of, is_held, is_enabled, critical_clocks, active}
use Rattle.clk_model.specs.Gates.{settled}
use Rattle.clk_model.specs.Begin.{put_handle}
use Rattle.clk_model.specs.Machine.{paid}
use Rattle.clk_model.proofs.Members.{is_in_head, is_in_tail, is_in_cases}
use Rattle.clk_model.proofs.HolderLaws.{is_under, held_by, held_by-append, held_by-set_none, held_by-set_same, held_by-set_more, active_parts}
use Rattle.clk_model.proofs.GateLaws.{gates_moved-still}

-- ---- when the gates stay

-- where each clock is active as it was, no gate moves
pub settled-still : (old new : State) → ((c : ℕ) → active old c ≡ active new c) → settled old new ≡ new
unfolding settled
settled-still old new same =
    ap (λ (regs : Registers). let s : State = record new { regs = regs } in s)
    (gates_moved-still new.defs (active old) (active new) (count_from 0 (length new.defs)) new.regs same)

-- such an event spends a credit and leaves what it leaves
pub paid-still : (s t : State) (turn : Turn) → s.spent < s.credits → ((c : ℕ) → active s c ≡ active t c) → paid s (t, turn) ≡ Some (record t { spent = s.spent + 1 }, turn)
paid-still s t turn left same =
    let lt : nat_lt s.spent s.credits ≡ true = grind (arith, nat_tests) in
    ap (λ (b : Bool). cond b (Some (record (settled s t) { spent = s.spent + 1 }, turn)) None) lt
    ∙ ap (λ (u : State). let x : State × Turn = (record u { spent = s.spent + 1 }, turn) in Some x) (settled-still s t same)

-- a paid event in any case
pub paid-left : (s t : State) (turn : Turn) → s.spent < s.credits → paid s (t, turn) ≡ Some (record (settled s t) { spent = s.spent + 1 }, turn)
paid-left s t turn left =
    let lt : nat_lt s.spent s.credits ≡ true = grind (arith, nat_tests) in
    ap (λ (b : Bool). cond b (Some (record (settled s t) { spent = s.spent + 1 }, turn)) None) lt

-- ---- who is active

-- a handle that changes and is enabled as it was, on the same clock, keeps active what was
pub active-put_same : (s : State) (n : ℕ) (old new : HandleRow) (c : ℕ) → handle_at s.handles n ≡ Some old → new.clock ≡ old.clock → is_enabled new ≡ is_enabled old
    → active s c ≡ active (put_handle s n (Some new)) c
active-put_same s n old new c at clock same =
    active_parts s c
    ∙ ap (λ (t : Bool). (t || is_held s.clocks (critical_clocks s) c) || is_held s.clocks s.enable_holds c) (sym (held_by-set_same s.clocks is_enabled s.handles n old new c at clock same))
    ∙ sym (active_parts (put_handle s n (Some new)) c)

-- a new handle without an enable keeps nothing active
pub active-append : (s : State) (h : HandleRow) (c : ℕ) → is_enabled h ≡ false → active s c ≡ active (record s { handles = s.handles ++ Some h ∷ [] }) c
active-append s h c idle =
    active_parts s c
    ∙ ap (λ (t : Bool). (t || is_held s.clocks (critical_clocks s) c) || is_held s.clocks s.enable_holds c) (sym (held_by-append s.clocks is_enabled s.handles h c idle))
    ∙ sym (active_parts (record s { handles = s.handles ++ Some h ∷ [] }) c)

-- a handle without an enable that is taken away kept nothing active
pub active-put_none : (s : State) (n : ℕ) (old : HandleRow) (c : ℕ) → handle_at s.handles n ≡ Some old → is_enabled old ≡ false → active s c ≡ active (put_handle s n None) c
active-put_none s n old c at idle =
    active_parts s c
    ∙ ap (λ (t : Bool). (t || is_held s.clocks (critical_clocks s) c) || is_held s.clocks s.enable_holds c) (sym (held_by-set_none s.clocks is_enabled s.handles n old c at idle))
    ∙ sym (active_parts (put_handle s n None) c)

or_swap : (a b c u : Bool) → (((a || u) || b) || c) ≡ (((a || b) || c) || u)
or_swap true b c u = refl
or_swap false true c true = refl
or_swap false true c false = refl
or_swap false false true true = refl
or_swap false false true false = refl
or_swap false false false true = refl
or_swap false false false false = refl

-- a handle that is enabled keeps active what is under it, beside what was
pub active-put_more : (s : State) (n : ℕ) (old new : HandleRow) (c : ℕ) → handle_at s.handles n ≡ Some old → new.clock ≡ old.clock → is_enabled new ≡ true
    → active (put_handle s n (Some new)) c ≡ (active s c || is_under s.clocks old c)
active-put_more s n old new c at clock enabled =
    active_parts (put_handle s n (Some new)) c
    ∙ ap (λ (t : Bool). (t || is_held s.clocks (critical_clocks s) c) || is_held s.clocks s.enable_holds c) (held_by-set_more s.clocks is_enabled s.handles n old new c at clock enabled)
    ∙ or_swap (held_by s.clocks is_enabled s.handles c) (is_held s.clocks (critical_clocks s) c) (is_held s.clocks s.enable_holds c) (is_under s.clocks old c)
    ∙ ap (λ (t : Bool). t || is_under s.clocks old c) (sym (active_parts s c))

-- ---- closing gates

-- a handle that was put is there
pub handle_at-set_same : (handles : List (Option HandleRow)) (n : ℕ) (old new : HandleRow) → handle_at handles n ≡ Some old → handle_at (set handles n (Some new)) n ≡ Some new
handle_at-set_same [] n old new at = absurd cc
handle_at-set_same (o ∷ handles) zero old new at = refl
handle_at-set_same (o ∷ handles) (suc n) old new at = handle_at-set_same handles n old new at

-- putting back what was there undoes a put
pub set-back : (handles : List (Option HandleRow)) (n : ℕ) (old new : HandleRow) → handle_at handles n ≡ Some old → set (set handles n (Some new)) n (Some old) ≡ handles
set-back [] n old new at = refl
set-back (o ∷ handles) zero old new at = ap (λ (p : Option HandleRow). p ∷ handles) (sym at)
set-back (o ∷ handles) (suc n) old new at = ap (λ (hs : List (Option HandleRow)). o ∷ hs) (set-back handles n old new at)

-- a handle that was enabled kept active what is under it, beside what is active without its enable
pub active-put_less : (s : State) (n : ℕ) (old new : HandleRow) (c : ℕ) → handle_at s.handles n ≡ Some old → new.clock ≡ old.clock → is_enabled old ≡ true
    → active s c ≡ (active (put_handle s n (Some new)) c || is_under s.clocks old c)
active-put_less s n old new c at clock enabled =
    ap (λ (hs : List (Option HandleRow)). let t : State = record s { handles = hs } in active t c) (sym (set-back s.handles n old new at))
    ∙ active-put_more (put_handle s n (Some new)) n new old c (handle_at-set_same s.handles n old new at) (sym clock) enabled
    ∙ ap (λ (k : _). active (put_handle s n (Some new)) c || is_in c (path s.clocks k.0)) clock

-- ---- registering a clock

pub row_of-set_same : (clocks : List ClockRow) (c : ℕ) (row : ClockRow) → c < length clocks → row_of (slice_set clocks c row) c ≡ row
row_of-set_same [] c row within = absurd (omega arith)
row_of-set_same (r ∷ clocks) zero row within = refl
row_of-set_same (r ∷ clocks) (suc c) row within = row_of-set_same clocks c row (omega arith)

pub row_of-set_other : (clocks : List ClockRow) (c : ℕ) (row : ClockRow) (d : ℕ) → (c ≡ d → ⊥) → row_of (slice_set clocks c row) d ≡ row_of clocks d
row_of-set_other [] c row d other = refl
row_of-set_other (r ∷ clocks) zero row zero other = absurd (other refl)
row_of-set_other (r ∷ clocks) zero row (suc d) other = refl
row_of-set_other (r ∷ clocks) (suc c) row zero other = refl
row_of-set_other (r ∷ clocks) (suc c) row (suc d) other = row_of-set_other clocks c row d (λ same. other (ap (λ (n : ℕ). suc n) same))

-- what holders hold depends on their paths alone
is_held-agree : (clocks clocks' : List ClockRow) (holders : List ℕ) (c : ℕ) → ((h : ℕ) → is_in h holders ≡ true → path clocks' h ≡ path clocks h)
    → is_held clocks' holders c ≡ is_held clocks holders c
is_held-agree clocks clocks' [] c same = refl
is_held-agree clocks clocks' (h ∷ holders) c same =
    ap (λ (p : List ℕ). is_in c p || is_held clocks' holders c) (same h (is_in_head h holders))
    ∙ ap (λ (t : Bool). is_in c (path clocks h) || t) (is_held-agree clocks clocks' holders c (λ k m. same k (is_in_tail k h holders m)))

-- a clock of a handle is the clock of a live one
pub in_clocks_of : (test : HandleRow → Bool) (handles : List (Option HandleRow)) (c : ℕ) → is_in c (clocks_of test handles) ≡ true
    → (n : ℕ) × (h : HandleRow) × (handle_at handles n ≡ Some h) × (h.clock.0 ≡ c)
in_clocks_of test [] c m = absurd cc
in_clocks_of test (None ∷ handles) c m = let found = in_clocks_of test handles c m in (suc found.0, found.1, found.2, found.3)
in_clocks_of test (Some h ∷ handles) c m =
    elim (test h) as (λ t. is_in c (map (λ r. r.clock.0) (cond t (h ∷ filter test (present handles)) (filter test (present handles)))) ≡ true → (n : ℕ) × (g : HandleRow) × (handle_at (Some h ∷ handles) n ≡ Some g) × (g.clock.0 ≡ c)) [
      | true ↦ λ m'. elim (is_in_cases c h.clock.0 (clocks_of test handles) m') [
        | inl e ↦ (0, h, refl, e)
        | inr r ↦ let found = in_clocks_of test handles c r in (suc found.0, found.1, found.2, found.3)
      ]
      | false ↦ λ m'. let found = in_clocks_of test handles c m' in (suc found.0, found.1, found.2, found.3)
    ] m

-- a registered clock has a row
pub registered_lt : (clocks : List ClockRow) (c : ℕ) → registered clocks c ≡ true → c < length clocks
registered_lt [] c e = absurd cc
registered_lt (row ∷ clocks) zero e = omega arith
registered_lt (row ∷ clocks) (suc c) e = let below : c < length clocks = registered_lt clocks c e in omega arith

pub filter_none : (p : ℕ → Bool) (xs : List ℕ) → ((x : ℕ) → is_in x xs ≡ true → p x ≡ false) → filter p xs ≡ []
filter_none p [] fails = refl
filter_none p (x ∷ xs) fails =
    ap (λ (t : Bool). cond t (x ∷ filter p xs) (filter p xs)) (fails x (is_in_head x xs)) ∙ filter_none p xs (λ y m. fails y (is_in_tail y x xs m))

-- then only handles keep a clock active
pub active_by_handles : (s : State) (c : ℕ) → critical_clocks s ≡ [] → s.enable_holds ≡ [] → active s c ≡ held_by s.clocks is_enabled s.handles c
active_by_handles s c none holds =
    active_parts s c
    ∙ ap (λ (cs : List ℕ). (held_by s.clocks is_enabled s.handles c || is_held s.clocks cs c) || is_held s.clocks s.enable_holds c) none
    ∙ ap (λ (cs : List ℕ). (held_by s.clocks is_enabled s.handles c || false) || is_held s.clocks cs c) holds
    ∙ or_none (held_by s.clocks is_enabled s.handles c) where
      or_none : (a : Bool) → ((a || false) || false) ≡ a
      or_none true = refl
      or_none false = refl
