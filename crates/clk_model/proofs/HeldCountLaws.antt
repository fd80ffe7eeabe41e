-- Laws on counts and holders: a count isn't 0 exactly where the clock is held, by itself or by a child.
use Rattle.std.proofs.Common.{◌≡◌, ℕ, zero, suc, ◌+◌, ◌<◌, ◌≤◌, ◌&&◌, ◌||◌, Bool, true, false, cond, List, [], ◌∷◌, ◌++◌, Option, Some, refl, sym, ap, subst, ◌∙◌, ◌⊎◌, inl, inr, arith, length, map, nat_lt, nat_eq}
use Rattle.std.specs.Prelude.{filter, sum_by, count_by}
use Rattle.std.proofs.lemmas.Bool.{cases_lt}
use Rattle.std.proofs.lemmas.Bool.Decides.{nat_tests}
use Rattle.std.proofs.lemmas.List.{get_or_past}
use Rattle.std.proofs.lemmas.List.Sums.{sum_by-cons}
use Rattle.clk_base.specs.declared.clock.ClockDef.{ClockDef}
use Rattle.clk_base.specs.Description.{Description, nobody}
use Rattle.clk_base.specs.Flags.{has_flag, is_critical, sets_rate_gate}
use Rattle.clk_model.specs.declared.row.HandleRow.{HandleRow}
use Rattle.clk_model.specs.Counts.{sum_of_handles, critical_part, prepare_count}
use Rattle.clk_model.specs.Holders.{clocks_of, is_prepared, critical_clocks, prepare_holders, is_held, prepared}
use Rattle.clk_model.specs.Lists.{is_in, is_at, count_from, present}
use Rattle.clk_model.specs.State.{State, registered, link_in}
use Rattle.clk_model.specs.Tree.{children}
use Rattle.clk_model.specs.Wired.{LinesEnd, LinksArePossible, IsOrder}
use Rattle.clk_model.proofs.AboveLaws.{above_link, Holder, holder_of, held_from, holder_above}
use Rattle.clk_model.proofs.BelowLaws.{Rises}
use Rattle.clk_model.proofs.Members.{is_in_cases, is_in_head, is_in_tail, is_in-count_from, both_left}
use Rattle.clk_model.proofs.OnceLaws.{in_append, is_in-append, filter_passes, filter_keeps}
use Rattle.clk_model.proofs.Members.{or_left, or_right}
use Rattle.clk_model.proofs.RegisterGoLaws.{critical_lt}
use Rattle.clk_model.proofs.WalkLaws.{is_at_same, at_same}

-- ---- numbers

pub positive : (n : ℕ) → 0 < n → nat_lt 0 n ≡ true
positive n some = grind (arith, nat_tests)

pub counts : (n : ℕ) → nat_lt 0 n ≡ true → 0 < n
counts n some = grind (arith, nat_tests)

either_part : (a b : ℕ) → nat_lt 0 (a + b) ≡ (nat_lt 0 a || nat_lt 0 b)
either_part a b = by (cases_lt 0 a) where
  by : (0 < a) ⊎ (a ≤ 0) → nat_lt 0 (a + b) ≡ (nat_lt 0 a || nat_lt 0 b)
  by (inl some) = positive (a + b) (omega arith) ∙ sym (ap (λ (t : Bool). t || nat_lt 0 b) (positive a some))
  by (inr none) =
      let is : a ≡ 0 = omega arith in
      let unit : 0 + b ≡ b = omega arith in
      ap (λ (n : ℕ). nat_lt 0 (n + b)) is ∙ ap (nat_lt 0) unit ∙ sym (ap (λ (n : ℕ). nat_lt 0 n || nat_lt 0 b) is)

-- ---- handles

-- what the handles of a clock have of something isn't 0 exactly where one of them has some
pub handles_in : (f : HandleRow → ℕ) (c : ℕ) (hs : List HandleRow)
    → nat_lt 0 (sum_by f (filter (λ h. nat_eq h.clock.0 c) hs)) ≡ is_in c (map (λ h. h.clock.0) (filter (λ h. nat_lt 0 (f h)) hs))
handles_in f c [] = refl
handles_in f c (h ∷ hs) = by (nat_eq h.clock.0 c) (nat_lt 0 (f h)) (handles_in f c hs) refl refl where
  mine : List HandleRow
  mine = filter (λ r. nat_eq r.clock.0 c) hs

  having : List HandleRow
  having = filter (λ r. nat_lt 0 (f r)) hs

  more : nat_lt 0 (sum_by f (h ∷ mine)) ≡ (nat_lt 0 (f h) || nat_lt 0 (sum_by f mine))
  more = ap (nat_lt 0) (sum_by-cons f h mine) ∙ either_part (f h) (sum_by f mine)

  by : (e g : Bool) → nat_lt 0 (sum_by f mine) ≡ is_in c (map (λ r. r.clock.0) having) → nat_eq h.clock.0 c ≡ e → nat_lt 0 (f h) ≡ g
      → nat_lt 0 (sum_by f (cond e (h ∷ mine) mine)) ≡ is_in c (map (λ r. r.clock.0) (cond g (h ∷ having) having))
  by true true rest e g =
      more ∙ ap (λ (t : Bool). t || nat_lt 0 (sum_by f mine)) g ∙ sym (ap (λ (t : Bool). t || is_in c (map (λ r. r.clock.0) having)) e)
  by true false rest e g = more ∙ ap (λ (t : Bool). t || nat_lt 0 (sum_by f mine)) g ∙ rest
  by false true rest e g = rest ∙ sym (ap (λ (t : Bool). t || is_in c (map (λ r. r.clock.0) having)) e)
  by false false rest e g = rest

-- ---- counting

abbrev tally : Bool → ℕ
tally b = cond b 1 0

step_count : (t : ℕ → Bool) (x : ℕ) (xs : List ℕ) → count_by t (x ∷ xs) ≡ tally (t x) + count_by t xs
step_count t x xs = sum_by-cons (λ y. tally (t y)) x xs

-- one that passes is counted
pub some_counted : (t : ℕ → Bool) (xs : List ℕ) (x : ℕ) → is_in x xs ≡ true → t x ≡ true → 0 < count_by t xs
some_counted t [] x m pass = absurd cc
some_counted t (y ∷ ys) x m pass =
    let whole = step_count t y ys in
    elim (is_in_cases x y ys m) [
      | inl e ↦ let head : tally (t y) ≡ 1 = ap tally (ap t e ∙ pass) in omega arith
      | inr r ↦ let rest = some_counted t ys x r pass in omega arith
    ]

-- and where there is a count, one passes
pub counted_some : (t : ℕ → Bool) (xs : List ℕ) → 0 < count_by t xs → (x : ℕ) × (is_in x xs ≡ true) × (t x ≡ true)
counted_some t [] some = absurd (omega arith)
counted_some t (x ∷ xs) some = by (t x) refl (counted_some t xs) where
  by : (b : Bool) → t x ≡ b → (0 < count_by t xs → (y : ℕ) × (is_in y xs ≡ true) × (t y ≡ true)) → (y : ℕ) × (is_in y (x ∷ xs) ≡ true) × (t y ≡ true)
  by true is rest = (x, is_in_head x xs, is)
  by false is rest =
      let whole = step_count t x xs in
      let head : tally (t x) ≡ 0 = ap tally is in
      let found = rest (omega arith) in
      (found.0, is_in_tail found.0 x xs found.1, found.2)

-- a number is counted exactly where it is in the list
counted_self : (c : ℕ) (xs : List ℕ) → nat_lt 0 (count_by (λ h. nat_eq h c) xs) ≡ is_in c xs
counted_self c [] = refl
counted_self c (x ∷ xs) =
    ap (nat_lt 0) (step_count (λ h. nat_eq h c) x xs) ∙ either_part (tally (nat_eq x c)) (count_by (λ h. nat_eq h c) xs)
    ∙ ap (λ (t : Bool). t || nat_lt 0 (count_by (λ h. nat_eq h c) xs)) (one (nat_eq x c)) ∙ ap (λ (t : Bool). nat_eq x c || t) (counted_self c xs) where
      one : (b : Bool) → nat_lt 0 (cond b 1 0) ≡ b
      one true = refl
      one false = refl

-- ---- flags

-- a clock that being prepared protects is one of the description
pub gate_within : (defs : Description) (c : ℕ) → sets_rate_gate defs c ≡ true → c < length defs
gate_within defs c is =
    elim (cases_lt c (length defs)) [
      | inl within ↦ within
      | inr past ↦ absurd (let no : false ≡ true = sym (ap (λ (def : ClockDef). has_flag def.flags 1) (get_or_past defs c nobody past)) ∙ is in cc)
    ]

-- ---- holders

last_link : (up : ℕ → Option ℕ) (n h c : ℕ) → Rises up (suc n) h c → (d : ℕ) × Rises up n h d × (up d ≡ Some c)
last_link up zero h c way = (h, refl, way.1 ∙ ap (λ (x : ℕ). Some x) way.2)
last_link up (suc n) h c way = let rest = last_link up n way.0 c way.2 in (rest.0, (way.0, way.1, rest.1), rest.2)

-- a holder of a clock is the clock itself, or it holds a child of it
pub holder_child : (up : ℕ → Option ℕ) (holders : List ℕ) (c : ℕ) → Holder up holders c → (is_in c holders ≡ true) ⊎ ((d : ℕ) × (up d ≡ Some c) × Holder up holders d)
holder_child up holders c (h, m, (zero, way)) = inl (subst (λ (x : ℕ). is_in x holders ≡ true) way m)
holder_child up holders c (h, m, (suc n, way)) = let last = last_link up n h c way in inr (last.0, last.2, (h, m, (n, last.1)))

-- the tree of a state: links lead to possible parents, whose lines end, and the order lists what has a link
pub record Hangs (s : State) : Type 0 where
  pub ends : LinesEnd s.defs
  pub links : LinksArePossible s.defs s.clocks
  pub order : IsOrder s.order s.clocks

module _ (s : State) (hangs : Hangs s) where
  -- a child that is held is counted, and what is counted is one
  pub kid_counted : (holders : List ℕ) (c d : ℕ) → link_in s.clocks d ≡ Some c → Holder (link_in s.clocks) holders d → 0 < count_by (is_held s.clocks holders) (children s.order s.clocks c)
  kid_counted holders c d at holder =
      some_counted (is_held s.clocks holders) (children s.order s.clocks c) d
      (filter_keeps (λ e. is_at c (link_in s.clocks e)) d s.order (at_same c (link_in s.clocks d) at) (hangs.order.linked d c at))
      (held_from s.defs (link_in s.clocks) holders d hangs.ends hangs.links holder)

  pub counted_kid : (holders : List ℕ) (c : ℕ) → 0 < count_by (is_held s.clocks holders) (children s.order s.clocks c) → (d : ℕ) × (link_in s.clocks d ≡ Some c) × Holder (link_in s.clocks) holders d
  counted_kid holders c some =
      let found = counted_some (is_held s.clocks holders) (children s.order s.clocks c) some in
      (found.0, is_at_same c (link_in s.clocks found.0) (filter_passes (λ e. is_at c (link_in s.clocks e)) found.0 s.order found.1), holder_of (link_in s.clocks) holders found.0 found.2)

  critical_in : (c : ℕ) → is_in c (critical_clocks s) ≡ true → 0 < critical_part s c
  critical_in c m =
      let is : (is_critical s.defs c && registered s.clocks c) ≡ true = filter_passes (λ d. is_critical s.defs d && registered s.clocks d) c (count_from 0 (length s.defs)) m in
      let one : critical_part s c ≡ 1 = ap (λ (b : Bool). cond b 1 0) is in
      omega arith

  -- what is prepared has a prepare count
  pub prepared_counts : (c : ℕ) → prepared s c ≡ true → 0 < prepare_count s c
  prepared_counts c held = by (holder_child (link_in s.clocks) (prepare_holders s) c (holder_of (link_in s.clocks) (prepare_holders s) c held)) where
    own : is_in c (prepare_holders s) ≡ true → 0 < prepare_count s c
    own m = elim (in_append c (clocks_of is_prepared s.handles ++ critical_clocks s) s.prepare_holds m) [
      | inl first ↦ elim (in_append c (clocks_of is_prepared s.handles) (critical_clocks s) first) [
        | inl by_handle ↦ let some = counts (sum_of_handles (λ h. h.prepares) s c) (handles_in (λ h. h.prepares) c (present s.handles) ∙ by_handle) in omega arith
        | inr critical ↦ let some = critical_in c critical in omega arith
      ]
      | inr hold ↦ let some = counts (count_by (λ h. nat_eq h c) s.prepare_holds) (counted_self c s.prepare_holds ∙ hold) in omega arith
    ]

    by : (is_in c (prepare_holders s) ≡ true) ⊎ ((d : ℕ) × (link_in s.clocks d ≡ Some c) × Holder (link_in s.clocks) (prepare_holders s) d) → 0 < prepare_count s c
    by (inl m) = own m
    by (inr child) = let some = kid_counted (prepare_holders s) c child.0 child.1 child.2 in omega arith

  critical_from : (c : ℕ) → 0 < critical_part s c → is_in c (critical_clocks s) ≡ true
  critical_from c some = by (is_critical s.defs c && registered s.clocks c) refl where
    by : (b : Bool) → (is_critical s.defs c && registered s.clocks c) ≡ b → is_in c (critical_clocks s) ≡ true
    by true is = filter_keeps (λ d. is_critical s.defs d && registered s.clocks d) c (count_from 0 (length s.defs)) is
        (is_in-count_from c 0 (length s.defs) (omega arith) (let less = critical_lt s.defs c (both_left (is_critical s.defs c) (registered s.clocks c) is) in omega arith))
    by false is = absurd (let none : critical_part s c ≡ 0 = ap (λ (b : Bool). cond b 1 0) is in omega arith)

  -- and what has one is prepared
  pub counts_prepared : (c : ℕ) → 0 < prepare_count s c → prepared s c ≡ true
  counts_prepared c some =
      by (cases_lt 0 (sum_of_handles (λ h. h.prepares) s c)) (cases_lt 0 (critical_part s c)) (cases_lt 0 (count_by (λ h. nat_eq h c) s.prepare_holds)) where
        held : Holder (link_in s.clocks) (prepare_holders s) c → prepared s c ≡ true
        held holder = held_from s.defs (link_in s.clocks) (prepare_holders s) c hangs.ends hangs.links holder

        own : is_in c (prepare_holders s) ≡ true → prepared s c ≡ true
        own m = held (c, m, (zero, refl))

        by : (0 < sum_of_handles (λ h. h.prepares) s c) ⊎ (sum_of_handles (λ h. h.prepares) s c ≤ 0) → (0 < critical_part s c) ⊎ (critical_part s c ≤ 0)
            → (0 < count_by (λ h. nat_eq h c) s.prepare_holds) ⊎ (count_by (λ h. nat_eq h c) s.prepare_holds ≤ 0) → prepared s c ≡ true
        by (inl handles) _ _ = own (is_in-append c (clocks_of is_prepared s.handles ++ critical_clocks s) s.prepare_holds
            ∙ or_left (is_in c (clocks_of is_prepared s.handles ++ critical_clocks s)) (is_in c s.prepare_holds)
            (is_in-append c (clocks_of is_prepared s.handles) (critical_clocks s)
            ∙ or_left (is_in c (clocks_of is_prepared s.handles)) (is_in c (critical_clocks s)) (sym (handles_in (λ h. h.prepares) c (present s.handles)) ∙ positive (sum_of_handles (λ h. h.prepares) s c) handles)))
        by (inr none) (inl critical) _ = own (is_in-append c (clocks_of is_prepared s.handles ++ critical_clocks s) s.prepare_holds
            ∙ or_left (is_in c (clocks_of is_prepared s.handles ++ critical_clocks s)) (is_in c s.prepare_holds)
            (is_in-append c (clocks_of is_prepared s.handles) (critical_clocks s) ∙ or_right (is_in c (clocks_of is_prepared s.handles)) (is_in c (critical_clocks s)) (critical_from c critical)))
        by (inr none) (inr none') (inl holds) = own (is_in-append c (clocks_of is_prepared s.handles ++ critical_clocks s) s.prepare_holds
            ∙ or_right (is_in c (clocks_of is_prepared s.handles ++ critical_clocks s)) (is_in c s.prepare_holds) (sym (counted_self c s.prepare_holds) ∙ positive (count_by (λ h. nat_eq h c) s.prepare_holds) holds))
        by (inr none) (inr none') (inr none'') =
            let child = counted_kid (prepare_holders s) c (omega arith) in
            held (holder_above (link_in s.clocks) (prepare_holders s) child.0 c child.2 (above_link (link_in s.clocks) child.0 c c child.1 (zero, refl)))
