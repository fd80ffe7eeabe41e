-- Laws on counts that stand for a state: what they tell is what the definitions say of the state.
use Rattle.std.proofs.Common.{◌≡◌, ℕ, ◌+◌, ◌<◌, ◌≤◌, ◌&&◌, ◌||◌, ◌++◌, Bool, true, false, cond, List, [], ◌∷◌, refl, sym, ap, ◌∙◌, ⊎_elim, arith, length, map, get_or, nat_eq, nat_lt}
use Rattle.std.specs.Prelude.{count_by, sum_by, filter, slice_index}
use Rattle.std.proofs.lemmas.Bool.{cases_lt, false≢true}
use Rattle.std.proofs.lemmas.Bool.Decides.{nat_tests}
use Rattle.std.proofs.lemmas.List.{get_or_past}
use Rattle.std.proofs.lemmas.List.Sums.{sum_by-cons}
use Rattle.clk_base.specs.Description.{Description}
use Rattle.clk_base.specs.Flags.{is_critical, sets_rate_gate}
use Rattle.clk_model.specs.declared.row.HandleRow.{HandleRow}
use Rattle.clk_model.specs.Lists.{is_in, count_from, present}
use Rattle.clk_model.specs.State.{State, registered}
use Rattle.clk_model.specs.Tree.{children}
use Rattle.clk_model.specs.Holders.{clocks_of, is_enabled, is_prepared, is_exclusive, critical_clocks, enable_holders, prepare_holders, protect_holders, active, prepared, guarded}
use Rattle.clk_model.specs.Counts.{sum_of_handles, critical_part, prepare_count}
use Rattle.clk_model.specs.Wired.{IsOrder}
use Rattle.clk_model.proofs.Members.{both_left, is_in-count_from}
use Rattle.clk_model.proofs.OnceLaws.{is_in-append, filter_passes, filter_keeps}
use Rattle.counts_core.specs.Counted.{CountState, AreCounts, is_gated, is_held, protect_own, prepare_sum}
use Rattle.counts_core.specs.Standing.{own_enables, own_prepares, own_exclusives, StandsFor, HoldsAsIn, TellsHolds, CountsAsIn, TellsCounts}
use Rattle.counts_core.proofs.Definitions.{own_within}
use Rattle.counts_core.proofs.Held.{past_flag}
use Rattle.counts_core.proofs.Holding.{sum_held, held_as, sum_as}
use Rattle.counts_core.proofs.Listing.{tally, count_step}
use Rattle.clk_model.proofs.RegisterGoLaws.{critical_lt}
use Rattle.clk_model.proofs.WalkLaws.{either_way}

-- ---- parts that aren't 0

pub positive_both : (a b : ℕ) → nat_lt 0 (a + b) ≡ (nat_lt 0 a || nat_lt 0 b)
positive_both a b = ⊎_elim
    (λ (some : 0 < a). counting (a + b) (omega arith) ∙ sym (ap (λ (t : Bool). t || nat_lt 0 b) (counting a some)))
    (λ (none : a ≤ 0). let zero_ : a ≡ 0 = omega arith in ap (λ (n : ℕ). nat_lt 0 (n + b)) zero_ ∙ ap (nat_lt 0) (unit b) ∙ sym (ap (λ (n : ℕ). nat_lt 0 n || nat_lt 0 b) zero_))
    (cases_lt 0 a) where
      counting : (n : ℕ) → 0 < n → nat_lt 0 n ≡ true
      counting n some = grind (arith, nat_tests)

      unit : (n : ℕ) → 0 + n ≡ n
      unit n = omega arith

silent : (n : ℕ) → nat_lt 0 n ≡ false → n ≡ 0
silent n e = grind (arith, nat_tests)

counting : (n m : ℕ) → nat_lt 0 n ≡ true → nat_lt 0 (n + m) ≡ true
counting n m e = positive_both n m ∙ ap (λ (t : Bool). t || nat_lt 0 m) e

-- a sum over the handles of a clock isn't 0 exactly where one of them has some
handles_in : (f : HandleRow → ℕ) (c : ℕ) (hs : List HandleRow)
    → nat_lt 0 (sum_by f (filter (λ h. nat_eq h.clock.0 c) hs)) ≡ is_in c (map (λ h. h.clock.0) (filter (λ h. nat_lt 0 (f h)) hs))
handles_in f c [] = refl
handles_in f c (h ∷ hs) = by (nat_eq h.clock.0 c) (nat_lt 0 (f h)) (handles_in f c hs) refl refl where
  mine : List HandleRow
  mine = filter (λ r. nat_eq r.clock.0 c) hs

  having : List HandleRow
  having = filter (λ r. nat_lt 0 (f r)) hs

  by : (e g : Bool) → nat_lt 0 (sum_by f mine) ≡ is_in c (map (λ r. r.clock.0) having) → nat_eq h.clock.0 c ≡ e → nat_lt 0 (f h) ≡ g
      → nat_lt 0 (sum_by f (cond e (h ∷ mine) mine)) ≡ is_in c (map (λ r. r.clock.0) (cond g (h ∷ having) having))
  by true true rest e g =
      ap (nat_lt 0) (sum_by-cons f h mine) ∙ counting (f h) (sum_by f mine) g ∙ sym (ap (λ (t : Bool). t || is_in c (map (λ r. r.clock.0) having)) e)
  by true false rest e g =
      ap (nat_lt 0) (sum_by-cons f h mine) ∙ positive_both (f h) (sum_by f mine) ∙ ap (λ (t : Bool). t || nat_lt 0 (sum_by f mine)) g ∙ rest
  by false true rest e g = rest ∙ sym (ap (λ (t : Bool). t || is_in c (map (λ r. r.clock.0) having)) e)
  by false false rest e g = rest

one_counts : (t : Bool) → nat_lt 0 (tally t) ≡ t
one_counts true = refl
one_counts false = refl

-- a count of a number isn't 0 exactly where it is in the list
counted_in : (c : ℕ) (xs : List ℕ) → nat_lt 0 (count_by (λ h. nat_eq h c) xs) ≡ is_in c xs
counted_in c [] = refl
counted_in c (x ∷ xs) =
    ap (nat_lt 0) (count_step (λ h. nat_eq h c) x xs)
    ∙ positive_both (tally (nat_eq x c)) (count_by (λ h. nat_eq h c) xs)
    ∙ ap (λ (t : Bool). t || nat_lt 0 (count_by (λ h. nat_eq h c) xs)) (one_counts (nat_eq x c))
    ∙ ap (λ (t : Bool). nat_eq x c || t) (counted_in c xs)

-- among all clocks of a description those that pass are those that pass
in_passing : (t : ℕ → Bool) (c n : ℕ) → (t c ≡ true → c < n) → is_in c (filter t (count_from 0 n)) ≡ t c
in_passing t c n within =
    either_way (is_in c (filter t (count_from 0 n))) (t c) (filter_passes t c (count_from 0 n))
    (λ e. let less = within e in filter_keeps t c (count_from 0 n) e (is_in-count_from c 0 n (omega arith) (omega arith)))

pub gate_within : (defs : Description) (c : ℕ) → sets_rate_gate defs c ≡ true → c < length defs
gate_within defs c e =
    ⊎_elim (λ (within : c < length defs). within) (λ (past : length defs ≤ c). absurd (false≢true (sym (past_flag defs c past) ∙ e))) (cases_lt c (length defs))

-- a flag that is set is one of the list
flag_within : (flags : List Bool) (c : ℕ) → get_or flags c false ≡ true → c < length flags
flag_within flags c e =
    ⊎_elim (λ (within : c < length flags). within) (λ (past : length flags ≤ c). absurd (false≢true (sym (get_or_past flags c false past) ∙ e))) (cases_lt c (length flags))

critical_in : (s : State) (c : ℕ) → nat_lt 0 (critical_part s c) ≡ is_in c (critical_clocks s)
critical_in s c =
    one_counts (is_critical s.defs c && registered s.clocks c)
    ∙ sym (in_passing (λ d. is_critical s.defs d && registered s.clocks d) c (length s.defs) (λ e. critical_lt s.defs c (both_left (is_critical s.defs c) (registered s.clocks c) e)))

-- ---- holders

-- a clock has a holder of its own exactly where it is among the holders
three_in : (c sum critical holds : ℕ) (handles_ criticals holds_ : List ℕ) → nat_lt 0 sum ≡ is_in c handles_ → nat_lt 0 critical ≡ is_in c criticals → nat_lt 0 holds ≡ is_in c holds_
    → nat_lt 0 (sum + critical + holds) ≡ is_in c (handles_ ++ criticals ++ holds_)
three_in c sum critical holds handles_ criticals holds_ a b d =
    positive_both (sum + critical) holds
    ∙ ap (λ (t : Bool). t || nat_lt 0 holds) (positive_both sum critical)
    ∙ ap (λ (t : Bool). (t || nat_lt 0 critical) || nat_lt 0 holds) a
    ∙ ap (λ (t : Bool). (is_in c handles_ || t) || nat_lt 0 holds) b
    ∙ ap (λ (t : Bool). (is_in c handles_ || is_in c criticals) || t) d
    ∙ sym (is_in-append c (handles_ ++ criticals) holds_ ∙ ap (λ (t : Bool). t || is_in c holds_) (is_in-append c handles_ criticals))

enables_in : (s : State) (c : ℕ) → nat_lt 0 (own_enables s c) ≡ is_in c (enable_holders s)
enables_in s c =
    three_in c (sum_of_handles (λ h. h.enables) s c) (critical_part s c) (count_by (λ h. nat_eq h c) s.enable_holds) (clocks_of is_enabled s.handles) (critical_clocks s) s.enable_holds
    (handles_in (λ h. h.enables) c (present s.handles)) (critical_in s c) (counted_in c s.enable_holds)

prepares_in : (s : State) (c : ℕ) → nat_lt 0 (own_prepares s c) ≡ is_in c (prepare_holders s)
prepares_in s c =
    three_in c (sum_of_handles (λ h. h.prepares) s c) (critical_part s c) (count_by (λ h. nat_eq h c) s.prepare_holds) (clocks_of is_prepared s.handles) (critical_clocks s) s.prepare_holds
    (handles_in (λ h. h.prepares) c (present s.handles)) (critical_in s c) (counted_in c s.prepare_holds)

gated_counts : (t : Bool) (n : ℕ) → nat_lt 0 (cond t n 0) ≡ (t && nat_lt 0 n)
gated_counts true n = refl
gated_counts false n = refl

module _ (k : CountState) (s : State) (keeps : AreCounts k) (stands : StandsFor k s) where
  within : (own : List ℕ) → length own ≡ length k.links → (h : ℕ) → 0 < get_or own h 0 → h < length k.links
  within own size h some = own_within k.links own h size some

  active_as : (c : ℕ) → is_held k.links (slice_index k.enables) c ≡ active s c
  active_as =
      held_as s.clocks k.links (slice_index k.enables) (enable_holders s) stands.links (λ h. ap (nat_lt 0) (stands.enables h) ∙ enables_in s h) (within k.enables keeps.enables)

  prepared_as : (c : ℕ) → is_held k.links (slice_index k.prepares) c ≡ prepared s c
  prepared_as =
      held_as s.clocks k.links (slice_index k.prepares) (prepare_holders s) stands.links (λ h. ap (nat_lt 0) (stands.prepares h) ∙ prepares_in s h) (within k.prepares keeps.prepares)

  prepares_counted : (c : ℕ) → nat_lt 0 (prepare_sum k c) ≡ prepared s c
  prepares_counted c = sum_held k.links (slice_index k.prepares) keeps.lines (within k.prepares keeps.prepares) c ∙ prepared_as c

  protects_in : (c : ℕ) → nat_lt 0 (protect_own k c) ≡ is_in c (protect_holders s)
  protects_in c =
      positive_both (get_or k.exclusives c 0) (cond (is_gated k c) (prepare_sum k c) 0)
      ∙ ap (λ (n : ℕ). nat_lt 0 n || nat_lt 0 (cond (is_gated k c) (prepare_sum k c) 0)) (stands.exclusives c)
      ∙ ap (λ (t : Bool). t || nat_lt 0 (cond (is_gated k c) (prepare_sum k c) 0)) (handles_in (λ h. h.exclusives) c (present s.handles))
      ∙ ap (λ (t : Bool). is_in c (clocks_of is_exclusive s.handles) || t)
      (gated_counts (is_gated k c) (prepare_sum k c)
      ∙ ap (λ (t : Bool). t && nat_lt 0 (prepare_sum k c)) (stands.gated c)
      ∙ ap (λ (t : Bool). sets_rate_gate s.defs c && t) (prepares_counted c)
      ∙ sym (in_passing (λ d. sets_rate_gate s.defs d && prepared s d) c (length s.defs) (λ e. gate_within s.defs c (both_left (sets_rate_gate s.defs c) (prepared s c) e))))
      ∙ sym (is_in-append c (clocks_of is_exclusive s.handles) (filter (λ d. sets_rate_gate s.defs d && prepared s d) (count_from 0 (length s.defs))))

  protect_within : (h : ℕ) → 0 < protect_own k h → h < length k.links
  protect_within h some =
      ⊎_elim
      (λ (own : 0 < get_or k.exclusives h 0). within k.exclusives keeps.exclusives h own)
      (λ (none : get_or k.exclusives h 0 ≤ 0).
      elim (is_gated k h) as (λ t. is_gated k h ≡ t → 0 < get_or k.exclusives h 0 + cond t (prepare_sum k h) 0 → h < length k.links) [
        | true ↦ λ e more. let less = flag_within k.gated h e in let size = keeps.gated in omega arith
        | false ↦ λ e more. absurd (omega arith)
      ] refl some)
      (cases_lt 0 (get_or k.exclusives h 0))

  guarded_as : (c : ℕ) → is_held k.links (protect_own k) c ≡ guarded s c
  guarded_as = held_as s.clocks k.links (protect_own k) (protect_holders s) stands.links protects_in protect_within

  holds_as : (c : ℕ) → HoldsAsIn k s c
  holds_as c = record { active = active_as c; prepared = prepared_as c; guarded = guarded_as c }

  prepares_as : IsOrder s.order s.clocks → (c : ℕ) → prepare_sum k c ≡ prepare_count s c
  prepares_as lists c =
      sum_as s.order s.clocks k.links (slice_index k.prepares) (prepared s) stands.links lists prepared_as c
      ∙ ap (λ (n : ℕ). n + count_by (prepared s) (children s.order s.clocks c)) (stands.prepares c)

  counts_as : IsOrder s.order s.clocks → (c : ℕ) → CountsAsIn k s c
  counts_as lists c = record {
    enables =
        sum_as s.order s.clocks k.links (slice_index k.enables) (active s) stands.links lists active_as c
        ∙ ap (λ (n : ℕ). n + count_by (active s) (children s.order s.clocks c)) (stands.enables c);
    prepares = prepares_as lists c;
    protects =
        sum_as s.order s.clocks k.links (protect_own k) (guarded s) stands.links lists guarded_as c
        ∙ ap (λ (n : ℕ). n + cond (is_gated k c) (prepare_sum k c) 0 + count_by (guarded s) (children s.order s.clocks c)) (stands.exclusives c)
        ∙ ap (λ (t : Bool). own_exclusives s c + cond t (prepare_sum k c) 0 + count_by (guarded s) (children s.order s.clocks c)) (stands.gated c)
        ∙ ap (λ (n : ℕ). own_exclusives s c + cond (sets_rate_gate s.defs c) n 0 + count_by (guarded s) (children s.order s.clocks c)) (prepares_as lists c);
  }

pub tells_holds : TellsHolds
tells_holds k s keeps stands c = holds_as k s keeps stands c

pub tells_counts : TellsCounts
tells_counts k s keeps stands lists c = counts_as k s keeps stands lists c
