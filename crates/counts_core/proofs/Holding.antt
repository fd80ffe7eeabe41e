-- Laws on who holds a clock: sums aren't 0 exactly where the clock is on the path of a holder, and holders in counts are those of the state.
use Rattle.std.proofs.Common.{◌≡◌, ℕ, zero, suc, ◌+◌, ◌<◌, ◌≤◌, ◌&&◌, Bool, true, false, List, [], ◌∷◌, Option, Some, None, refl, sym, ap, ◌∙◌, inl, inr, ⊎_elim, arith, length, get_or, nat_lt}
use Rattle.std.specs.Prelude.{count_by}
use Rattle.std.specs.Option.{option_map}
use Rattle.std.proofs.lemmas.Bool.{cases_lt}
use Rattle.std.proofs.lemmas.List.{get_or_past}
use Rattle.clk_base.specs.declared.clock.ClockId.{ClockId}
use Rattle.clk_base.specs.Levels.{depth}
use Rattle.clk_model.specs.declared.row.ClockRow.{ClockRow}
use Rattle.clk_model.specs.Lists.{is_in, is_at, count_from}
use Rattle.clk_model.specs.State.{link_in}
use Rattle.clk_model.specs.Tree.{path, path_within, children}
use Rattle.clk_model.specs.Holders as holders
use Rattle.clk_model.specs.Wired.{IsOrder}
use Rattle.clk_model.proofs.Members.{both_left, both_right, is_in_cases, is_in-count_from, any_in, any_from_in}
use Rattle.clk_model.proofs.PathLaws.{path_agree}
use Rattle.clk_model.proofs.BelowLaws.{Rises, rises_on, few_steps, path_rises, rises_path}
use Rattle.clk_model.proofs.CountLaws.{count_by-agree}
use Rattle.clk_model.proofs.WalkLaws.{is_at_same, either_way}
use Rattle.counts_core.specs.Sums.{up_in, ups_in, LinksEnd, leads}
use Rattle.counts_core.specs.Counted.{HasLinks, is_held, sum_over}
use Rattle.counts_core.proofs.Definitions.{counts_true, true_counts, leads_up, up_leads, up_listed}
use Rattle.counts_core.proofs.Listing.{tally, count_step, count_by-filter, count_by-listed}
use Rattle.clk_model.proofs.RootLaws.{both_from}

-- ---- sums and holders

-- the last link of a way
pub last_link : (up : ℕ → Option ℕ) (n h c : ℕ) → Rises up (suc n) h c → (d : ℕ) × Rises up n h d × (up d ≡ Some c)
last_link up zero h c way = (h, refl, way.1 ∙ ap (λ (x : ℕ). Some x) way.2)
last_link up (suc n) h c way = let rest = last_link up n way.0 c way.2 in (rest.0, (way.0, way.1, rest.1), rest.2)

-- a clock on the path of a holder, and the holder
held_from : (links : List (Option ClockId)) (own : ℕ → ℕ) (h n c : ℕ) → LinksEnd links → h < length links → 0 < own h → Rises (up_in links) n h c
    → is_held links own c ≡ true
held_from links own h n c end_ within some way =
    any_from_in (λ x. nat_lt 0 (own x) && is_in c (path_within (up_in links) depth x)) (count_from 0 (length links)) h (is_in-count_from h 0 (length links) (omega arith) (omega arith))
    (both_from (nat_lt 0 (own h)) (is_in c (path_within (up_in links) depth h)) (true_counts (own h) some)
    (rises_path (up_in links) depth n h c way (few_steps (ups_in links) (up_in links) depth n h c (up_listed links) (end_ h) way)))

held_by : (links : List (Option ClockId)) (own : ℕ → ℕ) (c : ℕ) → is_held links own c ≡ true → (h : ℕ) × (n : ℕ) × (0 < own h) × Rises (up_in links) n h c
held_by links own c held =
    let found = any_in (λ x. nat_lt 0 (own x) && is_in c (path_within (up_in links) depth x)) (count_from 0 (length links)) held in
    let h = found.0 in
    let some = counts_true (own h) (both_left (nat_lt 0 (own h)) (is_in c (path_within (up_in links) depth h)) found.2) in
    let way = path_rises (up_in links) depth h c (both_right (nat_lt 0 (own h)) (is_in c (path_within (up_in links) depth h)) found.2) in
    (h, way.0, some, way.1)

-- what is counted is among what passes
count_some : (t : ℕ → Bool) (xs : List ℕ) → 0 < count_by t xs → (x : ℕ) × (t x ≡ true)
count_some t [] some = absurd (omega arith)
count_some t (x ∷ xs) some =
    elim (t x) as (λ b. t x ≡ b → (y : ℕ) × (t y ≡ true)) [
      | true ↦ λ e. (x, e)
      | false ↦ λ e.
          let whole = count_step t x xs in
          let head : tally (t x) ≡ 0 = ap tally e in
          count_some t xs (omega arith)
    ] refl

-- one that passes is counted
pub some_counted : (t : ℕ → Bool) (xs : List ℕ) (x : ℕ) → is_in x xs ≡ true → t x ≡ true → 0 < count_by t xs
some_counted t [] x m pass = absurd cc
some_counted t (y ∷ ys) x m pass =
    let whole = count_step t y ys in
    elim (is_in_cases x y ys m) [
      | inl e ↦ let head : tally (t y) ≡ 1 = ap tally (ap t e ∙ pass) in omega arith
      | inr r ↦ let rest = some_counted t ys x r pass in omega arith
    ]

linked_within : (links : List (Option ClockId)) (d c : ℕ) → up_in links d ≡ Some c → d < length links
linked_within links d c way =
    ⊎_elim
    (λ (within : d < length links). within)
    (λ (past : length links ≤ d). absurd (gone c (sym (ap (option_map (λ (p : ClockId). p.0)) (get_or_past links d None past)) ∙ way)))
    (cases_lt d (length links)) where
      gone : (q : ℕ) → None ≡ Some q → ⊥
      gone q f = cc

-- a sum isn't 0 exactly where the clock is on the path of a holder
pub sum_held : (links : List (Option ClockId)) (own : ℕ → ℕ) → LinksEnd links → ((h : ℕ) → 0 < own h → h < length links)
    → (c : ℕ) → nat_lt 0 (sum_over links own c) ≡ is_held links own c
sum_held links own end_ within c = either_way (nat_lt 0 (sum_over links own c)) (is_held links own c) to from where
  test : ℕ → Bool
  test d = leads c (get_or links d None) && is_held links own d

  by_child : (d : ℕ) → test d ≡ true → is_held links own c ≡ true
  by_child d pass =
      let below = held_by links own d (both_right (leads c (get_or links d None)) (is_held links own d) pass) in
      let way = rises_on (up_in links) below.1 below.0 d c below.3 (leads_up links d c (both_left (leads c (get_or links d None)) (is_held links own d) pass)) in
      held_from links own below.0 (suc below.1) c end_ (within below.0 below.2) below.2 way

  to : nat_lt 0 (sum_over links own c) ≡ true → is_held links own c ≡ true
  to e =
      let some = counts_true (sum_over links own c) e in
      ⊎_elim
      (λ (mine : 0 < own c). held_from links own c 0 c end_ (within c mine) mine refl)
      (λ (none : own c ≤ 0). let child = count_some test (count_from 0 (length links)) (omega arith) in by_child child.0 child.1)
      (cases_lt 0 (own c))

  child_counts : (d : ℕ) → up_in links d ≡ Some c → is_held links own d ≡ true → 0 < count_by test (count_from 0 (length links))
  child_counts d way held =
      let less = linked_within links d c way in
      some_counted test (count_from 0 (length links)) d (is_in-count_from d 0 (length links) (omega arith) (omega arith))
      (both_from (leads c (get_or links d None)) (is_held links own d) (up_leads links d c way) held)

  by_way : (h n : ℕ) → 0 < own h → Rises (up_in links) n h c → 0 < sum_over links own c
  by_way h zero some way = let here : own h ≡ own c = ap own way in omega arith
  by_way h (suc n) some way =
      let last = last_link (up_in links) n h c way in
      let child = child_counts last.0 last.2 (held_from links own h n last.0 end_ (within h some) some last.1) in
      omega arith

  from : is_held links own c ≡ true → nat_lt 0 (sum_over links own c) ≡ true
  from held = let holder = held_by links own c held in true_counts (sum_over links own c) (by_way holder.0 holder.1 holder.2 holder.3)

-- ---- counts and rows

-- the path of a clock is the same over the rows
same_path : (clocks : List ClockRow) (links : List (Option ClockId)) (h : ℕ) → HasLinks clocks links → path clocks h ≡ path_within (up_in links) depth h
same_path clocks links h has = path_agree (up_in links) (link_in clocks) depth h (λ a m. has a)

-- with the same holders the same clocks are held
pub held_as : (clocks : List ClockRow) (links : List (Option ClockId)) (own : ℕ → ℕ) (hs : List ℕ) → HasLinks clocks links → ((h : ℕ) → nat_lt 0 (own h) ≡ is_in h hs)
    → ((h : ℕ) → 0 < own h → h < length links) → (c : ℕ) → is_held links own c ≡ holders.is_held clocks hs c
held_as clocks links own hs has same within c = either_way (is_held links own c) (holders.is_held clocks hs c) to from where
  test : ℕ → Bool
  test h = nat_lt 0 (own h) && is_in c (path_within (up_in links) depth h)

  to : is_held links own c ≡ true → holders.is_held clocks hs c ≡ true
  to held =
      let found = any_in test (count_from 0 (length links)) held in
      let h = found.0 in
      any_from_in (λ x. is_in c (path clocks x)) hs h (sym (same h) ∙ both_left (nat_lt 0 (own h)) (is_in c (path_within (up_in links) depth h)) found.2)
      (ap (is_in c) (same_path clocks links h has) ∙ both_right (nat_lt 0 (own h)) (is_in c (path_within (up_in links) depth h)) found.2)

  from : holders.is_held clocks hs c ≡ true → is_held links own c ≡ true
  from held =
      let found = any_in (λ x. is_in c (path clocks x)) hs held in
      let h = found.0 in
      let mine = same h ∙ found.1 in
      let less = within h (counts_true (own h) mine) in
      any_from_in test (count_from 0 (length links)) h (is_in-count_from h 0 (length links) (omega arith) (omega arith))
      (both_from (nat_lt 0 (own h)) (is_in c (path_within (up_in links) depth h)) mine (sym (ap (is_in c) (same_path clocks links h has)) ∙ found.2))

leads_at : (c : ℕ) (o : Option ClockId) → leads c o ≡ is_at c (option_map (λ p. p.0) o)
leads_at c None = refl
leads_at c (Some p) = refl

-- the held children over links are those over the rows, in whatever order they were attached
pub sum_as : (order : List ℕ) (clocks : List ClockRow) (links : List (Option ClockId)) (own : ℕ → ℕ) (held : ℕ → Bool) → HasLinks clocks links → IsOrder order clocks
    → ((d : ℕ) → is_held links own d ≡ held d) → (c : ℕ) → sum_over links own c ≡ own c + count_by held (children order clocks c)
sum_as order clocks links own held has lists same c =
    ap (λ (n : ℕ). own c + n)
    (count_by-agree (λ d. leads c (get_or links d None) && is_held links own d) (λ d. is_in d order && test d) (count_from 0 (length links)) listed
    ∙ sym (count_by-listed test (length links) order lists.once within)
    ∙ sym (count_by-filter held (λ d. is_at c (link_in clocks d)) order)) where
      test : ℕ → Bool
      test d = is_at c (link_in clocks d) && held d

      within : (d : ℕ) → test d ≡ true → d < length links
      within d pass = linked_within links d c (sym (has d) ∙ is_at_same c (link_in clocks d) (both_left (is_at c (link_in clocks d)) (held d) pass))

      listed : (d : ℕ) → (leads c (get_or links d None) && is_held links own d) ≡ (is_in d order && test d)
      listed d =
          ap (λ (b : Bool). b && is_held links own d) (leads_at c (get_or links d None) ∙ ap (is_at c) (sym (has d)))
          ∙ ap (λ (b : Bool). is_at c (link_in clocks d) && b) (same d)
          ∙ elim (is_at c (link_in clocks d)) as (λ b. is_at c (link_in clocks d) ≡ b → (b && held d) ≡ (is_in d order && (b && held d))) [
            | true ↦ λ e. sym (ap (λ (b : Bool). b && held d) (lists.linked d c (is_at_same c (link_in clocks d) e)))
            | false ↦ λ e. nothing (is_in d order)
          ] refl where
            nothing : (b : Bool) → false ≡ (b && false)
            nothing true = refl
            nothing false = refl
