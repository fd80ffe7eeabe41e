-- What is seen of counts where a clock is free is what the definitions see of the state that the counts stand for.
use Rattle.std.proofs.Common.{◌≡◌, ℕ, ◌+◌, ◌&&◌, ◌||◌, Bool, true, false, not, cond, List, [], ◌∷◌, Option, Some, refl, sym, ap, ◌∙◌, arith, length, map, nat_eq, nat_lt}
use Rattle.std.proofs.Math.Path.{fun_ext}
use Rattle.std.specs.Prelude.{sum_by, filter, slice_index}
use Rattle.std.proofs.lemmas.List.Sums.{sum_by-cons}
use Rattle.clk_base.specs.Flags.{sets_rate_gate}
use Rattle.clk_base.specs.Levels.{depth}
use Rattle.clk_model.specs.declared.row.ClockRow.{ClockRow}
use Rattle.clk_model.specs.declared.row.HandleRow.{HandleRow}
use Rattle.clk_model.specs.Counts.{sum_of_handles, prepare_count, protect_count}
use Rattle.clk_model.specs.Holders.{clocks_of, is_exclusive, prepared, protect_holders, guarded}
use Rattle.clk_model.specs.Lists.{is_in, is_at, count_from, present}
use Rattle.clk_model.specs.Round.{View}
use Rattle.clk_model.specs.State.{State, link_in}
use Rattle.clk_model.specs.Tree.{children, path_within}
use Rattle.clk_model.specs.Views.{view, free_view, guarded_but}
use Rattle.clk_model.specs.Wired.{IsOrder}
use Rattle.clk_model.proofs.Members.{both_left, is_in-count_from}
use Rattle.clk_model.proofs.OnceLaws.{is_in-append, filter_passes, filter_keeps, once_filter}
use Rattle.clk_model.proofs.WalkLaws.{either_way, is_at_same, at_same}
use Rattle.counts_core.specs.Counted.{CountState, AreCounts, is_guarded, protect_sum}
use Rattle.counts_core.specs.Standing.{StandsFor}
use Rattle.counts_core.specs.Sums.{ups_in}
use Rattle.counts_core.proofs.Definitions.{own_within, up_listed}
use Rattle.counts_core.proofs.Holding.{sum_held}
use Rattle.counts_core.proofs.Standing.{tells_holds, tells_counts, positive_both, gate_within}
use Rattle.core_parts.specs.Free.{sole_parent, freed, free_seen}
use Rattle.core_parts.specs.Seen.{seen}
use Rattle.core_parts.proofs.Freeing.{Counting, kept_but}

-- ---- what protects a clock by itself

-- its handles' exclusive holds, and its prepares if being prepared protects it
abbrev own_part : State → ℕ → ℕ
own_part s c = sum_of_handles (λ h. h.exclusives) s c + cond (sets_rate_gate s.defs c) (prepare_count s c) 0

-- a clock has an exclusive hold exactly where it is one of the clocks that handles hold so
exclusives_in : (c : ℕ) (hs : List HandleRow)
    → nat_lt 0 (sum_by (λ h. h.exclusives) (filter (λ h. nat_eq h.clock.0 c) hs)) ≡ is_in c (map (λ h. h.clock.0) (filter is_exclusive hs))
exclusives_in c [] = refl
exclusives_in c (h ∷ hs) = by (nat_eq h.clock.0 c) (nat_lt 0 h.exclusives) (exclusives_in c hs) refl refl where
  mine : List HandleRow
  mine = filter (λ r. nat_eq r.clock.0 c) hs

  having : List HandleRow
  having = filter is_exclusive hs

  more : nat_lt 0 (sum_by (λ r. r.exclusives) (h ∷ mine)) ≡ (nat_lt 0 h.exclusives || nat_lt 0 (sum_by (λ r. r.exclusives) mine))
  more = ap (nat_lt 0) (sum_by-cons (λ r. r.exclusives) h mine) ∙ positive_both h.exclusives (sum_by (λ r. r.exclusives) mine)

  by : (e g : Bool) → nat_lt 0 (sum_by (λ r. r.exclusives) mine) ≡ is_in c (map (λ r. r.clock.0) having) → nat_eq h.clock.0 c ≡ e → nat_lt 0 h.exclusives ≡ g
      → nat_lt 0 (sum_by (λ r. r.exclusives) (cond e (h ∷ mine) mine)) ≡ is_in c (map (λ r. r.clock.0) (cond g (h ∷ having) having))
  by true true rest e g =
      more ∙ ap (λ (t : Bool). t || nat_lt 0 (sum_by (λ r. r.exclusives) mine)) g ∙ sym (ap (λ (t : Bool). t || is_in c (map (λ r. r.clock.0) having)) e)
  by true false rest e g = more ∙ ap (λ (t : Bool). t || nat_lt 0 (sum_by (λ r. r.exclusives) mine)) g ∙ rest
  by false true rest e g = rest ∙ sym (ap (λ (t : Bool). t || is_in c (map (λ r. r.clock.0) having)) e)
  by false false rest e g = rest

module _ (k : CountState) (s : State) (keeps : AreCounts k) (stands : StandsFor k s) (order : IsOrder s.order s.clocks) where
  prepares_some : (c : ℕ) → nat_lt 0 (prepare_count s c) ≡ prepared s c
  prepares_some c =
      ap (nat_lt 0) (sym (tells_counts k s keeps stands order c).prepares)
      ∙ sum_held k.links (slice_index k.prepares) keeps.lines (λ h some. own_within k.links k.prepares h keeps.prepares some) c
      ∙ (tells_holds k s keeps stands c).prepared

  gates_in : (c : ℕ) → nat_lt 0 (cond (sets_rate_gate s.defs c) (prepare_count s c) 0) ≡ is_in c (filter (λ d. sets_rate_gate s.defs d && prepared s d) (count_from 0 (length s.defs)))
  gates_in c = by (sets_rate_gate s.defs c) (prepare_count s c) ∙ ap (λ (t : Bool). sets_rate_gate s.defs c && t) (prepares_some c) ∙ sym among where
    by : (t : Bool) (n : ℕ) → nat_lt 0 (cond t n 0) ≡ (t && nat_lt 0 n)
    by true n = refl
    by false n = refl

    among : is_in c (filter (λ d. sets_rate_gate s.defs d && prepared s d) (count_from 0 (length s.defs))) ≡ (sets_rate_gate s.defs c && prepared s c)
    among = either_way (is_in c (filter (λ d. sets_rate_gate s.defs d && prepared s d) (count_from 0 (length s.defs)))) (sets_rate_gate s.defs c && prepared s c)
        (filter_passes (λ d. sets_rate_gate s.defs d && prepared s d) c (count_from 0 (length s.defs)))
        (λ e. let less = gate_within s.defs c (both_left (sets_rate_gate s.defs c) (prepared s c) e) in
        filter_keeps (λ d. sets_rate_gate s.defs d && prepared s d) c (count_from 0 (length s.defs)) e (is_in-count_from c 0 (length s.defs) (omega arith) (omega arith)))

  own_in : (c : ℕ) → nat_lt 0 (own_part s c) ≡ is_in c (protect_holders s)
  own_in c =
      positive_both (sum_of_handles (λ h. h.exclusives) s c) (cond (sets_rate_gate s.defs c) (prepare_count s c) 0)
      ∙ ap (λ (t : Bool). t || nat_lt 0 (cond (sets_rate_gate s.defs c) (prepare_count s c) 0)) (exclusives_in c (present s.handles))
      ∙ ap (λ (t : Bool). is_in c (clocks_of is_exclusive s.handles) || t) (gates_in c)
      ∙ sym (is_in-append c (clocks_of is_exclusive s.handles) (filter (λ d. sets_rate_gate s.defs d && prepared s d) (count_from 0 (length s.defs))))

  links_up : (c p : ℕ) → link_in s.clocks c ≡ Some p → is_in p (ups_in k.links c) ≡ true
  links_up c p at = up_listed k.links c p (sym (stands.links c) ∙ at)

  counting : Counting (ups_in k.links) (link_in s.clocks) (protect_holders s) (children s.order s.clocks) (own_part s) (protect_count s)
  counting = record {
    up_ = links_up;
    ends = keeps.lines;
    kids_ = record {
      parent = λ c p m. is_at_same p (link_in s.clocks c) (filter_passes (λ d. is_at p (link_in s.clocks d)) c s.order m);
      once = λ p. once_filter (λ d. is_at p (link_in s.clocks d)) s.order order.once;
    };
    kid = λ d p at. filter_keeps (λ e. is_at p (link_in s.clocks e)) d s.order (at_same p (link_in s.clocks d) at) (order.linked d p at);
    holds = own_in;
    counts = λ a. refl;
  }

  -- what is guarded, but for the free ones, is what is guarded where the clock is free
  guarded_free : (c a : ℕ) → (is_guarded k a && not (is_in a (freed s.clocks k c))) ≡ guarded_but s c a
  guarded_free c a =
      ap (λ (f : ℕ → Bool). f a && not (is_in a (cond (f c) (path_within (sole_parent (link_in s.clocks) (protect_sum k)) depth c) []))) (fun_ext (λ d. (tells_holds k s keeps stands d).guarded))
      ∙ ap (λ (f : ℕ → ℕ). guarded s a && not (is_in a (cond (guarded s c) (path_within (sole_parent (link_in s.clocks) f) depth c) []))) (fun_ext (λ d. (tells_counts k s keeps stands order d).protects))
      ∙ kept_but counting c a

  -- so that is what the free view sees
  pub free_stands : (handles : List (Option HandleRow)) (clocks : List ClockRow) (c : ℕ) → s.clocks ≡ clocks → seen handles k ≡ view s → free_seen handles k (freed clocks k c) ≡ free_view s c
  free_stands handles clocks c rows sees =
      ap (λ (rs : List ClockRow). free_seen handles k (freed rs k c)) (sym rows)
      ∙ ap (λ (v : View). let u : View = record v { guarded = λ a. is_guarded k a && not (is_in a (freed s.clocks k c)) } in u) sees
      ∙ ap (λ (test : ℕ → Bool). let u : View = record (view s) { guarded = test } in u) (fun_ext (guarded_free c))

-- ---- a clock that isn't guarded

-- what isn't guarded is free already
pub free_unguarded : (handles : List (Option HandleRow)) (k : CountState) (clocks : List ClockRow) (c : ℕ) → is_guarded k c ≡ false → free_seen handles k (freed clocks k c) ≡ seen handles k
free_unguarded handles k clocks c free =
    ap (λ (t : Bool). free_seen handles k (cond t (path_within (sole_parent (link_in clocks) (protect_sum k)) depth c) [])) free
    ∙ ap (λ (test : ℕ → Bool). let v : View = record (seen handles k) { guarded = test } in v) (fun_ext (λ a. stays (is_guarded k a))) where
      stays : (t : Bool) → (t && true) ≡ t
      stays true = refl
      stays false = refl
