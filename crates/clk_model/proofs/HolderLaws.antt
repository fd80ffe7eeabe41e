-- Laws on holders: what a changed or a new handle does to the clocks that are held.
use Rattle.std.proofs.Common.{◌≡◌, ℕ, zero, suc, ◌&&◌, ◌||◌, Bool, true, false, cond, map, List, [], ◌∷◌, ◌++◌, Option, Some, None, refl, sym, ap, ◌∙◌, set}
use Rattle.std.specs.Prelude.{filter}
use Rattle.std.specs.List.{list_any}
use Rattle.std.proofs.lemmas.List.Folds.{list_any-append}
use Rattle.clk_model.specs.declared.row.ClockRow.{ClockRow}
use Rattle.clk_model.specs.declared.row.HandleRow.{HandleRow}
use Rattle.clk_model.specs.Lists.{is_in, present}
use Rattle.clk_model.specs.State.{State, handle_at}
use Rattle.clk_model.specs.Tree.{path}
use Rattle.clk_model.specs.Holders.{clocks_of, is_held, is_enabled, critical_clocks, active}
use Rattle.std.proofs.Math.Bool.{or_assoc}

-- whether the clock is on the path of a handle
abbrev pub is_under : List ClockRow → HandleRow → ℕ → Bool
is_under clocks h c = is_in c (path clocks h.clock.0)

-- whether a handle that passes the test holds the clock
abbrev pub held_by : List ClockRow → (HandleRow → Bool) → List (Option HandleRow) → ℕ → Bool
held_by clocks test handles c = is_held clocks (clocks_of test handles) c

-- a handle among others holds what is under it, if it passes, and the others hold what they hold
pub held_by-cons : (clocks : List ClockRow) (test : HandleRow → Bool) (h : HandleRow) (handles : List (Option HandleRow)) (c : ℕ)
    → held_by clocks test (Some h ∷ handles) c ≡ ((test h && is_under clocks h c) || held_by clocks test handles c)
held_by-cons clocks test h handles c =
    elim (test h) as (λ t. list_any (λ x. is_in c (path clocks x)) (map (λ r. r.clock.0) (cond t (h ∷ filter test (present handles)) (filter test (present handles))))
    ≡ ((t && is_under clocks h c) || held_by clocks test handles c)) [
      | true ↦ refl
      | false ↦ refl
    ]

-- a new handle that doesn't pass holds nothing
pub held_by-append : (clocks : List ClockRow) (test : HandleRow → Bool) (handles : List (Option HandleRow)) (h : HandleRow) (c : ℕ) → test h ≡ false
    → held_by clocks test (handles ++ Some h ∷ []) c ≡ held_by clocks test handles c
held_by-append clocks test [] h c fails = held_by-cons clocks test h [] c ∙ ap (λ (t : Bool). (t && is_under clocks h c) || false) fails
held_by-append clocks test (None ∷ handles) h c fails = held_by-append clocks test handles h c fails
held_by-append clocks test (Some g ∷ handles) h c fails =
    held_by-cons clocks test g (handles ++ Some h ∷ []) c
    ∙ ap (λ (t : Bool). (test g && is_under clocks g c) || t) (held_by-append clocks test handles h c fails)
    ∙ sym (held_by-cons clocks test g handles c)

-- a handle that changes, and passes as it did, on the same clock, holds what it held
pub held_by-set_same : (clocks : List ClockRow) (test : HandleRow → Bool) (handles : List (Option HandleRow)) (n : ℕ) (old new : HandleRow) (c : ℕ)
    → handle_at handles n ≡ Some old → new.clock ≡ old.clock → test new ≡ test old
    → held_by clocks test (set handles n (Some new)) c ≡ held_by clocks test handles c
held_by-set_same clocks test [] n old new c at clock same = absurd cc
held_by-set_same clocks test (None ∷ handles) zero old new c at clock same = absurd cc
held_by-set_same clocks test (Some h ∷ handles) zero old new c at clock same =
    let is : h ≡ old = cc in
    held_by-cons clocks test new handles c
    ∙ ap (λ (t : Bool). (t && is_under clocks new c) || held_by clocks test handles c) (same ∙ ap test (sym is))
    ∙ ap (λ (k : _). (test h && is_in c (path clocks k.0)) || held_by clocks test handles c) (clock ∙ ap (λ (r : HandleRow). r.clock) (sym is))
    ∙ sym (held_by-cons clocks test h handles c)
held_by-set_same clocks test (None ∷ handles) (suc n) old new c at clock same = held_by-set_same clocks test handles n old new c at clock same
held_by-set_same clocks test (Some h ∷ handles) (suc n) old new c at clock same =
    held_by-cons clocks test h (set handles n (Some new)) c
    ∙ ap (λ (t : Bool). (test h && is_under clocks h c) || t) (held_by-set_same clocks test handles n old new c at clock same)
    ∙ sym (held_by-cons clocks test h handles c)

-- a handle that doesn't pass and is taken away held nothing
pub held_by-set_none : (clocks : List ClockRow) (test : HandleRow → Bool) (handles : List (Option HandleRow)) (n : ℕ) (old : HandleRow) (c : ℕ)
    → handle_at handles n ≡ Some old → test old ≡ false
    → held_by clocks test (set handles n None) c ≡ held_by clocks test handles c
held_by-set_none clocks test [] n old c at fails = absurd cc
held_by-set_none clocks test (None ∷ handles) zero old c at fails = absurd cc
held_by-set_none clocks test (Some h ∷ handles) zero old c at fails =
    let is : h ≡ old = cc in
    ap (λ (t : Bool). (t && is_under clocks h c) || held_by clocks test handles c) (sym fails ∙ ap test (sym is))
    ∙ sym (held_by-cons clocks test h handles c)
held_by-set_none clocks test (None ∷ handles) (suc n) old c at fails = held_by-set_none clocks test handles n old c at fails
held_by-set_none clocks test (Some h ∷ handles) (suc n) old c at fails =
    held_by-cons clocks test h (set handles n None) c
    ∙ ap (λ (t : Bool). (test h && is_under clocks h c) || t) (held_by-set_none clocks test handles n old c at fails)
    ∙ sym (held_by-cons clocks test h handles c)

-- a handle that passes from now on holds what is under it beside what was held
pub held_by-set_more : (clocks : List ClockRow) (test : HandleRow → Bool) (handles : List (Option HandleRow)) (n : ℕ) (old new : HandleRow) (c : ℕ)
    → handle_at handles n ≡ Some old → new.clock ≡ old.clock → test new ≡ true
    → held_by clocks test (set handles n (Some new)) c ≡ (held_by clocks test handles c || is_under clocks old c)
held_by-set_more clocks test [] n old new c at clock passes = absurd cc
held_by-set_more clocks test (None ∷ handles) zero old new c at clock passes = absurd cc
held_by-set_more clocks test (Some h ∷ handles) zero old new c at clock passes =
    let is : h ≡ old = cc in
    held_by-cons clocks test new handles c
    ∙ ap (λ (t : Bool). (t && is_under clocks new c) || held_by clocks test handles c) passes
    ∙ ap (λ (k : _). is_in c (path clocks k.0) || held_by clocks test handles c) clock
    ∙ absorb (test h) (is_under clocks old c) (held_by clocks test handles c)
    ∙ ap (λ (r : HandleRow). ((test h && is_under clocks r c) || held_by clocks test handles c) || is_under clocks old c) (sym is)
    ∙ ap (λ (t : Bool). t || is_under clocks old c) (sym (held_by-cons clocks test h handles c)) where
      absorb : (t u r : Bool) → (u || r) ≡ (((t && u) || r) || u)
      absorb true true r = refl
      absorb true false true = refl
      absorb true false false = refl
      absorb false true true = refl
      absorb false true false = refl
      absorb false false true = refl
      absorb false false false = refl
held_by-set_more clocks test (None ∷ handles) (suc n) old new c at clock passes = held_by-set_more clocks test handles n old new c at clock passes
held_by-set_more clocks test (Some h ∷ handles) (suc n) old new c at clock passes =
    held_by-cons clocks test h (set handles n (Some new)) c
    ∙ ap (λ (t : Bool). (test h && is_under clocks h c) || t) (held_by-set_more clocks test handles n old new c at clock passes)
    ∙ sym (or_assoc (test h && is_under clocks h c) (held_by clocks test handles c) (is_under clocks old c))
    ∙ ap (λ (t : Bool). t || is_under clocks old c) (sym (held_by-cons clocks test h handles c))

-- where no handle passes, none holds a clock
pub held_by-none : (clocks : List ClockRow) (test : HandleRow → Bool) (handles : List (Option HandleRow)) (c : ℕ)
    → ((n : ℕ) (h : HandleRow) → handle_at handles n ≡ Some h → test h ≡ false) → held_by clocks test handles c ≡ false
held_by-none clocks test [] c none = refl
held_by-none clocks test (None ∷ handles) c none = held_by-none clocks test handles c (λ n h at. none (suc n) h at)
held_by-none clocks test (Some g ∷ handles) c none =
    held_by-cons clocks test g handles c
    ∙ ap (λ (t : Bool). (t && is_under clocks g c) || held_by clocks test handles c) (none zero g refl)
    ∙ held_by-none clocks test handles c (λ n h at. none (suc n) h at)

-- a clock is active where a handle with an enable, a critical clock or the change in flight holds it
pub active_parts : (s : State) (c : ℕ)
    → active s c ≡ ((held_by s.clocks is_enabled s.handles c || is_held s.clocks (critical_clocks s) c) || is_held s.clocks s.enable_holds c)
active_parts s c =
    list_any-append (λ h. is_in c (path s.clocks h)) (clocks_of is_enabled s.handles ++ critical_clocks s) s.enable_holds
    ∙ ap (λ (t : Bool). t || is_held s.clocks s.enable_holds c) (list_any-append (λ h. is_in c (path s.clocks h)) (clocks_of is_enabled s.handles) (critical_clocks s))
