-- The kept sums are the definitions': a count isn't 0 exactly where the clock is on the path of a holder.
use Rattle.std.proofs.Common.{◌≡◌, ℕ, zero, suc, ◌+◌, ◌<◌, ◌≤◌, ◌&&◌, ◌⊎◌, Bool, true, false, cond, List, [], ◌∷◌, Option, Some, None, refl, sym, ap, ◌∙◌, inl, inr, ⊎_elim, arith, length, get_or, nat_eq, nat_lt}
use Rattle.std.specs.Prelude.{count_by}
use Rattle.std.specs.List.{list_all}
use Rattle.std.specs.Option.{option_map, option_to_list}
use Rattle.std.proofs.lemmas.Bool.{cases_lt, false≢true}
use Rattle.std.proofs.lemmas.Bool.Decides.{nat_tests}
use Rattle.std.proofs.lemmas.List.{get_or_past}
use Rattle.std.proofs.lemmas.List.Sums.{sum_by-cons}
use Rattle.clk_base.specs.declared.clock.ClockId.{ClockId}
use Rattle.clk_base.specs.Levels.{depth, ends_within}
use Rattle.clk_base.proofs.Lines.{ends_within-parent}
use Rattle.clk_model.specs.Lists.{is_in, count_from}
use Rattle.clk_model.specs.Tree.{path_within}
use Rattle.clk_model.proofs.Members.{both_left, both_right, same_from_test, any_in, any_from_in, is_in_head, is_in-count_from}
use Rattle.clk_model.proofs.PathLaws.{path_all}
use Rattle.clk_model.proofs.BelowLaws.{Rises, IsUp, rises_on, few_steps, rises_path}
use Rattle.counts_core.specs.Sums.{up_in, ups_in, LinksEnd, leads, mark, kids, AreSums}
use Rattle.counts_core.specs.Counted.{is_held, sum_over}
use Rattle.clk_model.proofs.WalkLaws.{either_way}
use Rattle.clk_model.proofs.RootLaws.{both_from}

-- ---- children that count

pub counts_true : (n : ℕ) → nat_lt 0 n ≡ true → 0 < n
counts_true n e = grind (arith, nat_tests)

pub true_counts : (n : ℕ) → 0 < n → nat_lt 0 n ≡ true
true_counts n e = grind (arith, nat_tests)

-- a child that counts is one
pub kids-in : (links : List (Option ClockId)) (counts : List ℕ) (b d : ℕ) → leads d (get_or links b None) ≡ true → 0 < get_or counts b 0 → 0 < kids links counts d
kids-in [] counts b d leads_ some = absurd (false≢true leads_)
kids-in (l ∷ ls) [] b d leads_ some = absurd (omega arith)
kids-in (l ∷ ls) (n ∷ ns) zero d leads_ some =
    let here : mark (leads d l) n ≡ 1 = ap (λ (t : Bool). cond t 1 0) (both_from (leads d l) (nat_lt 0 n) leads_ (true_counts n some)) in
    omega arith
kids-in (l ∷ ls) (n ∷ ns) (suc b) d leads_ some = let rest = kids-in ls ns b d leads_ some in omega arith

-- and where there is one, it is found
pub kids-some : (links : List (Option ClockId)) (counts : List ℕ) (d : ℕ) → 0 < kids links counts d → (b : ℕ) × (leads d (get_or links b None) ≡ true) × (0 < get_or counts b 0)
kids-some [] counts d some = absurd (omega arith)
kids-some (l ∷ ls) [] d some = absurd (omega arith)
kids-some (l ∷ ls) (n ∷ ns) d some =
    elim (leads d l && nat_lt 0 n) as (λ t. (leads d l && nat_lt 0 n) ≡ t → 0 < cond t 1 0 + kids ls ns d → (b : ℕ) × (leads d (get_or (l ∷ ls) b None) ≡ true) × (0 < get_or (n ∷ ns) b 0)) [
      | true ↦ λ e more. (0, both_left (leads d l) (nat_lt 0 n) e, counts_true n (both_right (leads d l) (nat_lt 0 n) e))
      | false ↦ λ e more. let found = kids-some ls ns d (omega arith) in (suc found.0, found.1, found.2)
    ] refl some

-- a link that leads to a clock
pub leads_up : (links : List (Option ClockId)) (b d : ℕ) → leads d (get_or links b None) ≡ true → up_in links b ≡ Some d
leads_up links b d e = to (get_or links b None) e where
  to : (o : Option ClockId) → leads d o ≡ true → option_map (λ q. q.0) o ≡ Some d
  to None e = absurd (false≢true e)
  to (Some p) e = ap (λ (x : ℕ). Some x) (same_from_test p.0 d e)

pub up_leads : (links : List (Option ClockId)) (b d : ℕ) → up_in links b ≡ Some d → leads d (get_or links b None) ≡ true
up_leads links b d e = to (get_or links b None) e where
  to : (o : Option ClockId) → option_map (λ q. q.0) o ≡ Some d → leads d o ≡ true
  to None e = absurd cc
  to (Some p) e = let same : p.0 ≡ d = some_same p.0 d e in ap (λ (x : ℕ). nat_eq x d) same ∙ test_itself d where
    some_same : (x y : ℕ) → Some x ≡ Some y → x ≡ y
    some_same x y f = cc

    test_itself : (x : ℕ) → nat_eq x x ≡ true
    test_itself x = grind (arith, nat_tests)

-- ---- who counts

-- a link leads to the parent that the list of it has
pub up_listed : (links : List (Option ClockId)) → IsUp (ups_in links) (up_in links)
up_listed links c p e = ap (λ (o : Option ℕ). is_in p (option_to_list o)) e ∙ is_in_head p []

-- lines of links end where those of possible parents do
pub lines_under : (parents : ℕ → List ℕ) (links : List (Option ClockId)) (levels c : ℕ) → IsUp parents (up_in links) → ends_within parents levels c ≡ true → ends_within (ups_in links) levels c ≡ true
lines_under parents links zero c up ends = ends
lines_under parents links (suc levels) c up ends =
    by (up_in links c) (λ p at. lines_under parents links levels p up (ends_within-parent parents levels c p ends (up c p at))) where
      by : (o : Option ℕ) → ((p : ℕ) → o ≡ Some p → ends_within (ups_in links) levels p ≡ true) → list_all (ends_within (ups_in links) levels) (option_to_list o) ≡ true
      by None rest = refl
      by (Some p) rest = both_from (ends_within (ups_in links) levels p) true (rest p refl) refl

-- what is above a clock that counts counts
counts_up : (links : List (Option ClockId)) (own counts : List ℕ) → AreSums links own counts → (b p : ℕ) → 0 < get_or counts b 0 → up_in links b ≡ Some p → 0 < get_or counts p 0
counts_up links own counts sums b p some way =
    let child = kids-in links counts b p (up_leads links b p way) some in
    let here = sums.sums p in
    omega arith

-- below a clock that counts there is a holder, or a long way down
holder_below : (links : List (Option ClockId)) (own counts : List ℕ) → AreSums links own counts → (fuel c : ℕ) → 0 < get_or counts c 0
    → ((h : ℕ) × ((k : ℕ) × (0 < get_or own h 0) × Rises (up_in links) k h c)) ⊎ ((h : ℕ) × Rises (up_in links) fuel h c)
holder_below links own counts sums zero c some = inr (c, refl)
holder_below links own counts sums (suc fuel) c some =
    ⊎_elim
    (λ (mine : 0 < get_or own c 0). inl (c, (0, mine, refl)))
    (λ (none : get_or own c 0 ≤ 0).
    let here = sums.sums c in
    let child = kids-some links counts c (omega arith) in
    elim (holder_below links own counts sums fuel child.0 child.2) [
      | inl found ↦ inl (found.0, (suc found.1.0, found.1.1, rises_on (up_in links) found.1.0 found.0 child.0 c found.1.2 (leads_up links child.0 c child.1)))
      | inr far ↦ inr (far.0, rises_on (up_in links) fuel far.0 child.0 c far.1 (leads_up links child.0 c child.1))
    ])
    (cases_lt 0 (get_or own c 0))

pub own_within : (links : List (Option ClockId)) (own : List ℕ) (h : ℕ) → length own ≡ length links → 0 < get_or own h 0 → h < length links
own_within links own h long some =
    ⊎_elim
    (λ (less : h < length own). omega arith)
    (λ (past : length own ≤ h). let none = get_or_past own h 0 past in absurd (omega arith))
    (cases_lt h (length own))

-- a count isn't 0 exactly where the clock is on the path of a holder
pub counts_held : (links : List (Option ClockId)) (own counts : List ℕ) → LinksEnd links → AreSums links own counts
    → (c : ℕ) → nat_lt 0 (get_or counts c 0) ≡ is_held links (λ d. get_or own d 0) c
counts_held links own counts end_ sums c = either_way (nat_lt 0 (get_or counts c 0)) (is_held links (λ d. get_or own d 0) c) to from where
  test : ℕ → Bool
  test h = nat_lt 0 (get_or own h 0) && is_in c (path_within (up_in links) depth h)

  to : nat_lt 0 (get_or counts c 0) ≡ true → is_held links (λ d. get_or own d 0) c ≡ true
  to e =
      elim (holder_below links own counts sums depth c (counts_true (get_or counts c 0) e)) [
        | inl found ↦
            let h = found.0 in
            let less = few_steps (ups_in links) (up_in links) depth found.1.0 h c (up_listed links) (end_ h) found.1.2 in
            any_from_in test (count_from 0 (length links)) h
            (is_in-count_from h 0 (length links) (omega arith) (let within = own_within links own h sums.owned found.1.1 in omega arith))
            (both_from (nat_lt 0 (get_or own h 0)) (is_in c (path_within (up_in links) depth h)) (true_counts (get_or own h 0) found.1.1) (rises_path (up_in links) depth found.1.0 h c found.1.2 less))
        | inr far ↦ let less = few_steps (ups_in links) (up_in links) depth depth far.0 c (up_listed links) (end_ far.0) far.1 in absurd (omega arith)
      ]

  from : is_held links (λ d. get_or own d 0) c ≡ true → nat_lt 0 (get_or counts c 0) ≡ true
  from e =
      let found = any_in test (count_from 0 (length links)) e in
      let h = found.0 in
      let mine = counts_true (get_or own h 0) (both_left (nat_lt 0 (get_or own h 0)) (is_in c (path_within (up_in links) depth h)) found.2) in
      let path = both_right (nat_lt 0 (get_or own h 0)) (is_in c (path_within (up_in links) depth h)) found.2 in
      let here = sums.sums h in
      true_counts (get_or counts c 0)
      (path_all (λ d. 0 < get_or counts d 0) (up_in links) depth h c (counts_up links own counts sums) (omega arith) path)

-- ---- the sum

-- the children that count, counted over places
kids-count : (links : List (Option ClockId)) (counts : List ℕ) (d k : ℕ) (test : ℕ → Bool) → length counts ≡ length links
    → ((i : ℕ) → test (k + i) ≡ (leads d (get_or links i None) && nat_lt 0 (get_or counts i 0))) → kids links counts d ≡ count_by test (count_from k (length links))
kids-count [] counts d k test long same = refl
kids-count (l ∷ ls) [] d k test long same = absurd (omega arith)
kids-count (l ∷ ls) (n ∷ ns) d k test long same =
    let first : k + 0 ≡ k = omega arith in
    ap (λ (t : Bool). cond t 1 0 + kids ls ns d) (sym (same 0) ∙ ap test first)
    ∙ ap (λ (m : ℕ). cond (test k) 1 0 + m) (kids-count ls ns d (suc k) test (omega arith) (λ i. let next : suc k + i ≡ k + suc i = omega arith in ap test next ∙ same (suc i)))
    ∙ sym (sum_by-cons (λ x. cond (test x) 1 0) k (count_from (suc k) (length ls)))

-- each count is the definitions' sum
pub counts_sum : (links : List (Option ClockId)) (own counts : List ℕ) → LinksEnd links → AreSums links own counts
    → (c : ℕ) → get_or counts c 0 ≡ sum_over links (λ d. get_or own d 0) c
counts_sum links own counts end_ sums c =
    sym (sums.sums c)
    ∙ ap (λ (n : ℕ). get_or own c 0 + n)
    (kids-count links counts c 0 (λ d. leads c (get_or links d None) && is_held links (λ x. get_or own x 0) d) sums.counted
    (λ i. let from : 0 + i ≡ i = omega arith in
    ap (λ (x : ℕ). leads c (get_or links x None) && is_held links (λ y. get_or own y 0) x) from
    ∙ ap (λ (t : Bool). leads c (get_or links i None) && t) (sym (counts_held links own counts end_ sums i))))
