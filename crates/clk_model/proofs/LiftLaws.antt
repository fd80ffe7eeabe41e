-- Laws on one exclusive less: the clock of the handle is free then, or all that is guarded stays so.
use Rattle.std.proofs.Common.{◌≡◌, ◌≢◌, ℕ, zero, suc, ◌+◌, ◌-◌, ◌<◌, ◌≤◌, ◌&&◌, ◌||◌, Bool, true, false, not, cond, List, [], ◌∷◌, ◌++◌, Option, Some, None, refl, sym, ap, subst, ◌∙◌, ◌⊎◌, inl, inr, arith, length, map, nat_lt, nat_eq, set}
use mathlib.Core.Path.{fun_ext}
use Rattle.std.specs.Prelude.{filter, sum_by, fold, min, max, option_map, take}
use Rattle.std.specs.List.{prefix_len}
use Rattle.std.proofs.lemmas.Bool.{cases_eq, cases_lt}
use Rattle.std.proofs.lemmas.List.Sums.{sum_by-cons}
use Rattle.clk_base.specs.Flags.{sets_rate_gate}
use Rattle.clk_base.specs.Levels.{depth}
use Rattle.clk_base.proofs.Valid.{lines_end}
use Rattle.clk_model.specs.declared.row.HandleRow.{HandleRow}
use Rattle.clk_model.specs.Counts.{sum_of_handles, prepare_count, protect_count}
use Rattle.clk_model.specs.Holders.{clocks_of, is_prepared, is_exclusive, critical_clocks, prepare_holders, is_held, prepared, protect_holders, guarded}
use Rattle.clk_model.specs.Lists.{is_in, count_from, present}
use Rattle.clk_model.specs.Round.{View, most_rate}
use Rattle.clk_model.specs.State.{State, link_in, handle_at}
use Rattle.clk_model.specs.Tree.{path, path_within}
use Rattle.clk_model.specs.Views.{view, guarded_but, cut_at, lift, lifted_row}
use Rattle.clk_model.specs.Laws.Lifting.{LiftedSees, LiftingSees}
use Rattle.clk_model.proofs.AboveLaws.{Above, above_link, path_above, not_above_link, Holder, holder_of, held_from, holder_above}
use Rattle.clk_model.proofs.HeldCountLaws.{positive, counts, handles_in, gate_within, holder_child, Hangs, kid_counted, counted_kid, prepared_counts, counts_prepared}
use Rattle.clk_model.proofs.Members.{any_in, or_cases, any_from_in, is_in_cases, is_in_head, is_in_tail, is_in-count_from, or_left, or_right, both_left, both_right, same_from_test, test_same}
use Rattle.clk_model.proofs.OnceLaws.{is_in-append, filter_passes, filter_keeps}
use Rattle.clk_model.proofs.PathLaws.{some_levels, above, path_cons}
use Rattle.clk_model.proofs.WalkLaws.{either_way}

-- ---- a handle that changes

-- what is read of the handles that pass a test stays, where the changed handle tells the same
put_values : {X : Type 0} (value : HandleRow → X) (test : HandleRow → Bool) (hs : List (Option HandleRow)) (n : ℕ) (old new : HandleRow) → handle_at hs n ≡ Some old → value new ≡ value old
    → test new ≡ test old → map value (filter test (present (set hs n (Some new)))) ≡ map value (filter test (present hs))
put_values value test [] n old new at same passes = refl
put_values value test (o ∷ hs) zero old new at same passes =
    ap (λ (b : Bool). map value (cond b (new ∷ filter test (present hs)) (filter test (present hs)))) passes
    ∙ by (test old)
    ∙ ap (λ (p : Option HandleRow). map value (filter test (present (p ∷ hs)))) (sym at) where
      by : (b : Bool) → map value (cond b (new ∷ filter test (present hs)) (filter test (present hs))) ≡ map value (cond b (old ∷ filter test (present hs)) (filter test (present hs)))
      by true = ap (λ v. v ∷ map value (filter test (present hs))) same
      by false = refl
put_values value test (None ∷ hs) (suc n) old new at same passes = put_values value test hs n old new at same passes
put_values value test (Some h ∷ hs) (suc n) old new at same passes = by (test h) (put_values value test hs n old new at same passes) where
  by : (b : Bool) → map value (filter test (present (set hs n (Some new)))) ≡ map value (filter test (present hs))
      → map value (cond b (h ∷ filter test (present (set hs n (Some new)))) (filter test (present (set hs n (Some new))))) ≡ map value (cond b (h ∷ filter test (present hs)) (filter test (present hs)))
  by true rest = ap (λ vs. value h ∷ vs) rest
  by false rest = rest

-- a changed handle that doesn't pass is none of them
put_passed_over : (test : HandleRow → Bool) (hs : List (Option HandleRow)) (n : ℕ) (old new : HandleRow) → handle_at hs n ≡ Some old → test new ≡ false → test old ≡ false
    → filter test (present (set hs n (Some new))) ≡ filter test (present hs)
put_passed_over test [] n old new at none none' = refl
put_passed_over test (o ∷ hs) zero old new at none none' =
    ap (λ (b : Bool). cond b (new ∷ filter test (present hs)) (filter test (present hs))) none
    ∙ sym (ap (λ (b : Bool). cond b (old ∷ filter test (present hs)) (filter test (present hs))) none')
    ∙ ap (λ (p : Option HandleRow). filter test (present (p ∷ hs))) (sym at)
put_passed_over test (None ∷ hs) (suc n) old new at none none' = put_passed_over test hs n old new at none none'
put_passed_over test (Some h ∷ hs) (suc n) old new at none none' =
    ap (λ (rs : List HandleRow). cond (test h) (h ∷ rs) rs) (put_passed_over test hs n old new at none none')

-- one exclusive less of a handle is one less of its clock
one_less : (hs : List (Option HandleRow)) (n c : ℕ) (row : HandleRow) → handle_at hs n ≡ Some row → nat_eq row.clock.0 c ≡ true → 0 < row.exclusives
    → sum_by (λ h. h.exclusives) (filter (λ h. nat_eq h.clock.0 c) (present (set hs n (Some (lifted_row row))))) + 1 ≡ sum_by (λ h. h.exclusives) (filter (λ h. nat_eq h.clock.0 c) (present hs))
one_less [] n c row at here some = absurd cc
one_less (o ∷ hs) zero c row at here some =
    ap (λ (b : Bool). sum_by (λ h. h.exclusives) (cond b (lifted_row row ∷ mine) mine) + 1) here
    ∙ ap (λ (k : ℕ). k + 1) (sum_by-cons (λ h. h.exclusives) (lifted_row row) mine)
    ∙ fewer row.exclusives (sum_by (λ h. h.exclusives) mine) some
    ∙ sym (sum_by-cons (λ h. h.exclusives) row mine)
    ∙ ap (λ (b : Bool). sum_by (λ h. h.exclusives) (cond b (row ∷ mine) mine)) (sym here)
    ∙ ap (λ (p : Option HandleRow). sum_by (λ h. h.exclusives) (filter (λ h. nat_eq h.clock.0 c) (present (p ∷ hs)))) (sym at) where
      mine : List HandleRow
      mine = filter (λ h. nat_eq h.clock.0 c) (present hs)

      fewer : (a b : ℕ) → 0 < a → (a - 1) + b + 1 ≡ a + b
      fewer a b some = omega arith
one_less (None ∷ hs) (suc n) c row at here some = one_less hs n c row at here some
one_less (Some h ∷ hs) (suc n) c row at here some = by (nat_eq h.clock.0 c) (one_less hs n c row at here some) where
  less : List HandleRow
  less = filter (λ r. nat_eq r.clock.0 c) (present (set hs n (Some (lifted_row row))))

  mine : List HandleRow
  mine = filter (λ r. nat_eq r.clock.0 c) (present hs)

  by : (b : Bool) → sum_by (λ r. r.exclusives) less + 1 ≡ sum_by (λ r. r.exclusives) mine → sum_by (λ r. r.exclusives) (cond b (h ∷ less) less) + 1 ≡ sum_by (λ r. r.exclusives) (cond b (h ∷ mine) mine)
  by true rest =
      let first = sum_by-cons (λ r. r.exclusives) h less in
      let second = sum_by-cons (λ r. r.exclusives) h mine in
      omega arith
  by false rest = rest

-- ---- parts of a path

cut_cons : (c a : ℕ) (cs : List ℕ) → cut_at c (a ∷ cs) ≡ cond (not (nat_eq a c)) (a ∷ cut_at c cs) []
cut_cons c a cs = by (not (nat_eq a c)) (prefix_len (λ x. not (nat_eq x c)) cs) where
  more : (n : ℕ) → 1 + n ≡ suc n
  more n = omega arith

  by : (b : Bool) (n : ℕ) → take (cond b (1 + n) 0) (a ∷ cs) ≡ cond b (a ∷ take n cs) []
  by true n = ap (λ (k : ℕ). take k (a ∷ cs)) (more n)
  by false n = refl

cut_none : (c : ℕ) (cs : List ℕ) → is_in c cs ≡ false → cut_at c cs ≡ cs
cut_none c [] none = refl
cut_none c (a ∷ cs) none = cut_cons c a cs ∙ by (nat_eq a c) none (cut_none c cs) where
  by : (b : Bool) → (b || is_in c cs) ≡ false → (is_in c cs ≡ false → cut_at c cs ≡ cs) → cond (not b) (a ∷ cut_at c cs) [] ≡ a ∷ cs
  by true e rest = absurd cc
  by false e rest = ap (λ (xs : List ℕ). a ∷ xs) (rest e)

cut_part : (c a : ℕ) (cs : List ℕ) → is_in a (cut_at c cs) ≡ true → is_in a cs ≡ true
cut_part c a [] m = absurd cc
cut_part c a (b ∷ cs) m = by (nat_eq b c) (ap (is_in a) (sym (cut_cons c b cs)) ∙ m) (cut_part c a cs) where
  by : (t : Bool) → is_in a (cond (not t) (b ∷ cut_at c cs) []) ≡ true → (is_in a (cut_at c cs) ≡ true → is_in a cs ≡ true) → is_in a (b ∷ cs) ≡ true
  by true e rest = absurd cc
  by false e rest = elim (is_in_cases a b (cut_at c cs) e) [
    | inl here ↦ subst (λ (x : ℕ). is_in x (b ∷ cs) ≡ true) here (is_in_head b cs)
    | inr there ↦ is_in_tail a b cs (rest there)
  ]

cut_self : (up : ℕ → Option ℕ) (c : ℕ) → cut_at c (path_within up depth c) ≡ []
cut_self up c =
    ap (cut_at c) (path_cons up depth c some_levels) ∙ cut_cons c c (above up (depth - 1) (up c))
    ∙ ap (λ (t : Bool). cond (not t) (c ∷ cut_at c (above up (depth - 1) (up c))) []) (test_same c)

-- ---- a state with one exclusive less

module _ (s : State) (number : ℕ) (row : HandleRow) (hangs : Hangs s) (at : handle_at s.handles number ≡ Some row) where
  abbrev c : ℕ
  c = row.clock.0

  abbrev t : State
  t = lift s number

  abbrev up : ℕ → Option ℕ
  up = link_in s.clocks

  handles_are : t.handles ≡ set s.handles number (Some (lifted_row row))
  handles_are = ap (λ (o : Option HandleRow). set s.handles number (option_map lifted_row o)) at

  -- what doesn't tell exclusives is the same
  told_same : {X : Type 0} (value : HandleRow → X) (test : HandleRow → Bool) → value (lifted_row row) ≡ value row → test (lifted_row row) ≡ test row
      → map value (filter test (present t.handles)) ≡ map value (filter test (present s.handles))
  told_same value test same passes =
      ap (λ (hs : List (Option HandleRow)). map value (filter test (present hs))) handles_are ∙ put_values value test s.handles number row (lifted_row row) at same passes

  preparers : prepare_holders t ≡ prepare_holders s
  preparers = ap (λ (cs : List ℕ). cs ++ critical_clocks s ++ s.prepare_holds) (told_same (λ h. h.clock.0) is_prepared refl refl)

  -- so of all that is seen guarded clocks alone may differ
  sees : (test : ℕ → Bool) → (let v : View = record (view t) { guarded = test } in v) ≡ (let v : View = record (view s) { guarded = test } in v)
  sees test =
      ap (λ (f : ℕ → ℕ). let v : View = record (view t) { low = f; guarded = test } in v) (fun_ext (λ a. ap (λ (rates : List ℕ). fold max 0 rates) (told_same (λ h. h.min) (λ h. nat_eq h.clock.0 a) refl refl)))
      ∙ ap (λ (f : ℕ → ℕ). let v : View = record (view t) { low = (view s).low; high = f; guarded = test } in v)
      (fun_ext (λ a. ap (λ (rates : List ℕ). fold min most_rate rates) (told_same (λ h. h.max) (λ h. nat_eq h.clock.0 a) refl refl)))
      ∙ ap (λ (hs : List ℕ). let v : View = record (view s) { prepared = is_held s.clocks hs; guarded = test } in v) preparers

  abbrev gates : List ℕ
  gates = filter (λ a. sets_rate_gate s.defs a && prepared s a) (count_from 0 (length s.defs))

  protectors : protect_holders t ≡ clocks_of is_exclusive t.handles ++ gates
  protectors = ap (λ (hs : List ℕ). clocks_of is_exclusive t.handles ++ filter (λ a. sets_rate_gate s.defs a && is_held s.clocks hs a) (count_from 0 (length s.defs))) preparers

  -- ---- with no exclusive

  none_lifted : row.exclusives ≡ 0 → protect_holders t ≡ protect_holders s
  none_lifted none =
      protectors ∙ ap (λ (cs : List ℕ). cs ++ gates) (told_same (λ h. h.clock.0) is_exclusive refl (ap (λ (n : ℕ). nat_lt 0 (n - 1)) none ∙ sym (ap (λ (n : ℕ). nat_lt 0 n) none)))

  -- ---- with some

  -- another clock is a holder as before
  holds_as_before : (b : ℕ) → (b ≡ c → ⊥) → is_in b (protect_holders t) ≡ is_in b (protect_holders s)
  holds_as_before b other =
      ap (is_in b) protectors ∙ is_in-append b (clocks_of is_exclusive t.handles) gates
      ∙ ap (λ (e : Bool). e || is_in b gates) (sym (handles_in (λ h. h.exclusives) b (present t.handles)) ∙ ap (λ (hs : List HandleRow). nat_lt 0 (sum_by (λ h. h.exclusives) hs)) passed ∙ handles_in (λ h. h.exclusives) b (present s.handles))
      ∙ sym (is_in-append b (clocks_of is_exclusive s.handles) gates) where
        not_here : (e : Bool) → nat_eq c b ≡ e → e ≡ false
        not_here true is = absurd (other (sym (same_from_test c b is)))
        not_here false is = refl

        passed : filter (λ h. nat_eq h.clock.0 b) (present t.handles) ≡ filter (λ h. nat_eq h.clock.0 b) (present s.handles)
        passed =
            ap (λ (hs : List (Option HandleRow)). filter (λ h. nat_eq h.clock.0 b) (present hs)) handles_are
            ∙ put_passed_over (λ h. nat_eq h.clock.0 b) s.handles number row (lifted_row row) at (not_here (nat_eq c b) refl) (not_here (nat_eq c b) refl)

  -- a holder through which a clock is seen apart from this one is another
  cut_away : (a b : ℕ) → is_in a (cut_at c (path s.clocks b)) ≡ true → b ≡ c → ⊥
  cut_away a b m same =
      let none : is_in a (cut_at c (path s.clocks b)) ≡ false = ap (λ (x : ℕ). is_in a (cut_at c (path s.clocks x))) same ∙ ap (is_in a) (cut_self up c) in
      let no : true ≡ false = sym m ∙ none in
      cc

  -- where the clock is free anyway, nothing changes
  free_same : (a : ℕ) → guarded_but t c a ≡ guarded_but s c a
  free_same a = either_way (guarded_but t c a) (guarded_but s c a)
      (λ held. let found = any_in (λ b. is_in a (cut_at c (path s.clocks b))) (protect_holders t) held in
      any_from_in (λ b. is_in a (cut_at c (path s.clocks b))) (protect_holders s) found.0 (sym (holds_as_before found.0 (cut_away a found.0 found.2)) ∙ found.1) found.2)
      (λ held. let found = any_in (λ b. is_in a (cut_at c (path s.clocks b))) (protect_holders s) held in
      any_from_in (λ b. is_in a (cut_at c (path s.clocks b))) (protect_holders t) found.0 (holds_as_before found.0 (cut_away a found.0 found.2) ∙ found.1) found.2)

  -- the clock itself is held by what is left of its exclusives, or by its prepares
  own_left : is_in c (protect_holders t) ≡ (nat_lt 0 (sum_of_handles (λ h. h.exclusives) t c) || is_in c gates)
  own_left = ap (is_in c) protectors ∙ is_in-append c (clocks_of is_exclusive t.handles) gates ∙ ap (λ (e : Bool). e || is_in c gates) (sym (handles_in (λ h. h.exclusives) c (present t.handles)))

  gate_from : 0 < cond (sets_rate_gate s.defs c) (prepare_count s c) 0 → is_in c gates ≡ true
  gate_from some = by (sets_rate_gate s.defs c) refl some where
    by : (e : Bool) → sets_rate_gate s.defs c ≡ e → 0 < cond e (prepare_count s c) 0 → is_in c gates ≡ true
    by true is more =
        filter_keeps (λ a. sets_rate_gate s.defs a && prepared s a) c (count_from 0 (length s.defs)) (ap (λ (e : Bool). e && prepared s c) is ∙ counts_prepared s hangs c more)
        (is_in-count_from c 0 (length s.defs) (omega arith) (let less = gate_within s.defs c is in omega arith))
    by false is more = absurd (omega arith)

  gate_some : is_in c gates ≡ true → 0 < cond (sets_rate_gate s.defs c) (prepare_count s c) 0
  gate_some m =
      let is : (sets_rate_gate s.defs c && prepared s c) ≡ true = filter_passes (λ a. sets_rate_gate s.defs a && prepared s a) c (count_from 0 (length s.defs)) m in
      let some = prepared_counts s hangs c (both_right (sets_rate_gate s.defs c) (prepared s c) is) in
      let chosen : cond (sets_rate_gate s.defs c) (prepare_count s c) 0 ≡ prepare_count s c = ap (λ (e : Bool). cond e (prepare_count s c) 0) (both_left (sets_rate_gate s.defs c) (prepared s c) is) in
      subst (λ (n : ℕ). 0 < n) (sym chosen) some

  -- what is seen of both
  pub with_guards : (test : ℕ → Bool) → ((a : ℕ) → guarded t a ≡ test a) → view t ≡ (let v : View = record (view s) { guarded = test } in v)
  with_guards test same = ap (λ (f : ℕ → Bool). let v : View = record (view t) { guarded = f } in v) (fun_ext same) ∙ sees test

  module _ (some : 0 < row.exclusives) where
    fewer : sum_of_handles (λ h. h.exclusives) t c + 1 ≡ sum_of_handles (λ h. h.exclusives) s c
    fewer =
        ap (λ (hs : List (Option HandleRow)). sum_by (λ h. h.exclusives) (filter (λ h. nat_eq h.clock.0 c) (present hs)) + 1) handles_are
        ∙ one_less s.handles number c row at (test_same c) some

    own_holds : is_in c (protect_holders s) ≡ true
    own_holds =
        is_in-append c (clocks_of is_exclusive s.handles) gates
        ∙ or_left (is_in c (clocks_of is_exclusive s.handles)) (is_in c gates)
        (sym (handles_in (λ h. h.exclusives) c (present s.handles)) ∙ positive (sum_of_handles (λ h. h.exclusives) s c) (let less = fewer in omega arith))

    -- each holder that is left was one
    was_holder : (b : ℕ) → is_in b (protect_holders t) ≡ true → is_in b (protect_holders s) ≡ true
    was_holder b m = elim (cases_eq b c) [
      | inl here ↦ subst (λ (x : ℕ). is_in x (protect_holders s) ≡ true) (sym here) own_holds
      | inr other ↦ sym (holds_as_before b other) ∙ m
    ]

    was_held : (a : ℕ) → Holder up (protect_holders t) a → Holder up (protect_holders s) a
    was_held a holder = (holder.0, was_holder holder.0 holder.1, holder.2)

    guarded_before : (a : ℕ) → guarded t a ≡ true → guarded s a ≡ true
    guarded_before a held = held_from s.defs up (protect_holders s) a hangs.ends hangs.links (was_held a (holder_of up (protect_holders t) a held))

    -- ---- that exclusive alone protects the clock

    module _ (alone : protect_count s c ≡ 1) where
      nobody : Holder up (protect_holders t) c → ⊥
      nobody holder = by (holder_child up (protect_holders t) c holder) where
        by : (is_in c (protect_holders t) ≡ true) ⊎ ((d : ℕ) × (up d ≡ Some c) × Holder up (protect_holders t) d) → ⊥
        by (inl m) = elim (or_cases (nat_lt 0 (sum_of_handles (λ h. h.exclusives) t c)) (is_in c gates) (sym own_left ∙ m)) [
          | inl left ↦ absurd (let more = counts (sum_of_handles (λ h. h.exclusives) t c) left in let less = fewer in omega arith)
          | inr gate ↦ absurd (let more = gate_some gate in let less = fewer in omega arith)
        ]
        by (inr child) = absurd (let more = kid_counted s hangs (protect_holders s) c child.0 child.1 (was_held child.0 child.2) in let less = fewer in omega arith)

      frees : (a : ℕ) → guarded t a ≡ guarded_but s c a
      frees a = either_way (guarded t a) (guarded_but s c a) to from where
        apart : (b : ℕ) → is_in b (protect_holders t) ≡ true → is_in c (path s.clocks b) ≡ false
        apart b m = by (is_in c (path s.clocks b)) refl where
          by : (e : Bool) → is_in c (path s.clocks b) ≡ e → e ≡ false
          by true is = absurd (nobody (b, m, path_above up b c is))
          by false is = refl

        to : guarded t a ≡ true → guarded_but s c a ≡ true
        to held =
            let found = any_in (λ b. is_in a (path s.clocks b)) (protect_holders t) held in
            any_from_in (λ b. is_in a (cut_at c (path s.clocks b))) (protect_holders s) found.0 (was_holder found.0 found.1)
            (ap (is_in a) (cut_none c (path s.clocks found.0) (apart found.0 found.1)) ∙ found.2)

        from : guarded_but s c a ≡ true → guarded t a ≡ true
        from held =
            let found = any_in (λ b. is_in a (cut_at c (path s.clocks b))) (protect_holders s) held in
            any_from_in (λ b. is_in a (path s.clocks b)) (protect_holders t) found.0 (holds_as_before found.0 (cut_away a found.0 found.2) ∙ found.1)
            (cut_part c a (path s.clocks found.0) found.2)

    -- ---- something else protects it too

    module _ (more : protect_count s c ≢ 1) where
      still_held : Holder up (protect_holders t) c
      still_held = by (cases_lt 0 (sum_of_handles (λ h. h.exclusives) t c)) (cases_lt 0 (cond (sets_rate_gate s.defs c) (prepare_count s c) 0)) where
        by : (0 < sum_of_handles (λ h. h.exclusives) t c) ⊎ (sum_of_handles (λ h. h.exclusives) t c ≤ 0)
            → (0 < cond (sets_rate_gate s.defs c) (prepare_count s c) 0) ⊎ (cond (sets_rate_gate s.defs c) (prepare_count s c) 0 ≤ 0) → Holder up (protect_holders t) c
        by (inl left) _ = (c, own_left ∙ or_left (nat_lt 0 (sum_of_handles (λ h. h.exclusives) t c)) (is_in c gates) (positive (sum_of_handles (λ h. h.exclusives) t c) left), (zero, refl))
        by (inr none) (inl gate) = (c, own_left ∙ or_right (nat_lt 0 (sum_of_handles (λ h. h.exclusives) t c)) (is_in c gates) (gate_from gate), (zero, refl))
        by (inr none) (inr none') =
            let child = counted_kid s hangs (protect_holders s) c (let less = fewer in let other = more in omega arith) in
            let below : child.2.0 ≡ c → ⊥ = (λ same. not_above_link s.defs up child.0 c hangs.ends hangs.links (hangs.links child.0 c child.1) (subst (λ (b : ℕ). Above up b child.0) same child.2.2)) in
            holder_above up (protect_holders t) child.0 c (child.2.0, holds_as_before child.2.0 below ∙ child.2.1, child.2.2) (above_link up child.0 c c child.1 (zero, refl))

      stays_guarded : (a : ℕ) → guarded t a ≡ guarded s a
      stays_guarded a = either_way (guarded t a) (guarded s a) (guarded_before a) back where
        back : guarded s a ≡ true → guarded t a ≡ true
        back held =
            let holder = holder_of up (protect_holders s) a held in
            held_from s.defs up (protect_holders t) a hangs.ends hangs.links (elim (cases_eq holder.0 c) [
              | inl here ↦ holder_above up (protect_holders t) c a still_held (subst (λ (b : ℕ). Above up b a) here holder.2)
              | inr other ↦ (holder.0, holds_as_before holder.0 other ∙ holder.1, holder.2)
            ])

  -- ---- the law

  pub lifted_sees : LiftedSees s number row
  lifted_sees = record {
    frees = λ some alone. with_guards (guarded_but s c) (frees some alone);
    keeps = λ either. elim either [
      | inl none ↦ with_guards (guarded s) (λ a. ap (λ (hs : List ℕ). is_held s.clocks hs a) (none_lifted none))
      | inr more ↦ elim (cases_lt 0 row.exclusives) [
        | inl some ↦ with_guards (guarded s) (stays_guarded some more)
        | inr none ↦ with_guards (guarded s) (λ a. ap (λ (hs : List ℕ). is_held s.clocks hs a) (none_lifted (omega arith)))
      ]
    ];
    free = ap (λ (f : ℕ → Bool). let v : View = record (view t) { guarded = f } in v) (fun_ext free_same) ∙ sees (guarded_but s c);
  }

pub lifting_sees : LiftingSees
lifting_sees s number row wired order at =
    lifted_sees s number row (record { ends = lines_end (length s.regs) s.defs wired.valid; links = wired.links; order = order }) at
