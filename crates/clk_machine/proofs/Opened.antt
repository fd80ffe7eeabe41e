-- The parts of a core at its opening.
use Rattle.std.proofs.Common.{◌≡◌, ℕ, ◌≤◌, ◌&&◌, Bool, true, false, cond, List, [], Option, Some, None, refl, sym, ap, subst, ◌∙◌, arith, length, replicate}
use Rattle.std.proofs.lemmas.List.{length-replicate}
use Rattle.std.specs.Prelude.{is_some, slice_index, sum_by}
use Rattle.std.specs.Option.{option_map}
use Rattle.clk_base.specs.Checked.{Checked}
use Rattle.clk_base.specs.Flags.{is_critical, sets_rate_gate}
use Rattle.clk_base.specs.Valid.{IsValid}
use Rattle.clk_base.specs.declared.clock.ClockId.{ClockId}
use Rattle.clk_model.specs.declared.row.ClockRow.{ClockRow}
use Rattle.clk_model.specs.declared.row.HandleRow.{HandleRow}
use Rattle.clk_model.specs.State.{unregistered_row, registered, handle_at}
use Rattle.clk_model.specs.Lists.{present}
use Rattle.clk_model.specs.Begin.{most_credits}
use Rattle.clk_model.specs.Journal.{opening}
use Rattle.clk_tree.specs.TreeState.{TreeState, IsTree}
use Rattle.clk_tree.proofs.Rows.{row_of-blank}
use Rattle.counts_core.specs.Counted.{CountState, AreCounts, HasLinks, is_gated}
use Rattle.counts_core.specs.Standing.{StandsFor}
use Rattle.counts_core.proofs.Linking.{links_at_first}
use Rattle.notifiers.specs.declared.notifier.Notifier.{Notifier}
use Rattle.notifiers.specs.Chains.{Tells}
use Rattle.rate_requests.specs.Handles.{HandleTable}
use Rattle.core_parts.specs.Window.{Shown, AreTold}
use Rattle.core_parts.specs.Course.{CourseState}
use Rattle.core_parts.specs.Listed.{rows_from}
use Rattle.core_parts.specs.Tied.{AreKept, desc_of}
use Rattle.clk_machine.specs.Parts.{Parts, parts_of, bare, held_in_all, IsWhole}
use Rattle.clk_machine.specs.Stands.{Stands}
use Rattle.clk_flight.specs.Flights.{FlightState}
use Rattle.clk_machine.proofs.Described.{whole_described, stands_described}
use Rattle.clk_machine.proofs.Flying.{never_flown, none_left}
use Rattle.core_parts.proofs.HeldCounts.{listed_tells, tells_none, held_none, none_at}
use Rattle.core_parts.proofs.Holdings.{StandsFor-held}

pub blank_registered : (clocks : List ClockRow) (n c : ℕ) → clocks ≡ replicate n unregistered_row → registered clocks c ≡ false
blank_registered clocks n c is = ap (λ (rows : List ClockRow). registered rows c) is ∙ ap (λ (row : ClockRow). row.registered) (row_of-blank n c)

-- one for yes
abbrev one_for : Bool → ℕ
one_for t = cond t 1 0

-- counts that nobody holds stand for an opening
counts_at_first : (desc : Checked) (counts : CountState) (words : List ℕ) → ((c : ℕ) → is_gated counts c ≡ sets_rate_gate desc.defs c) → counts.links ≡ replicate (length desc.defs) None
    → counts.enables ≡ replicate (length desc.defs) 0 → counts.prepares ≡ replicate (length desc.defs) 0 → counts.exclusives ≡ replicate (length desc.defs) 0
    → StandsFor counts (opening desc.defs words false 0)
counts_at_first desc counts words gated links enables prepares exclusives = record {
  size = ap (λ (ls : List (Option ClockId)). length ls) links ∙ length-replicate (length desc.defs) None;
  gated = gated;
  links = subst (λ (ls : List (Option ClockId)). HasLinks (replicate (length desc.defs) unregistered_row) ls) (sym links) (links_at_first (length desc.defs) (length desc.defs));
  enables = λ c. let none = held_by_none counts.enables c enables in let critical = uncritical c in omega arith;
  prepares = λ c. let none = held_by_none counts.prepares c prepares in let critical = uncritical c in omega arith;
  exclusives = λ c. held_by_none counts.exclusives c exclusives;
} where
  held_by_none : (own : List ℕ) (c : ℕ) → own ≡ replicate (length desc.defs) 0 → slice_index own c ≡ 0
  held_by_none own c is = ap (λ (xs : List ℕ). slice_index xs c) is ∙ none_at (length desc.defs) c

  and_none : (a b : Bool) → b ≡ false → (a && b) ≡ false
  and_none true b e = e
  and_none false b e = refl

  uncritical : (c : ℕ) → one_for (is_critical desc.defs c && registered (replicate (length desc.defs) unregistered_row) c) ≡ 0
  uncritical c =
      ap one_for
      (and_none (is_critical desc.defs c) _ (blank_registered (replicate (length desc.defs) unregistered_row) (length desc.defs) c refl))

-- the parts of an opening, with this description
abbrev parts_over : Checked → Shown → TreeState → HandleTable → CountState → List (List Notifier) → ℕ → Bool → FlightState → CourseState → List ℕ → List ℕ → Parts
parts_over desc window tree table counts chains credits ignore_unused flight course prepare_holds enable_holds =
    record (parts_of window tree table counts chains credits 0 ignore_unused flight course prepare_holds enable_holds 0) { desc = desc }

-- a core without a registered clock, a handle and a notifier
whole_over : (desc : Checked) (window : Shown) (tree : TreeState) (table : HandleTable) (counts : CountState) (chains : List (List Notifier)) (credits : ℕ) (ignore_unused : Bool) (flight : FlightState) (course : CourseState) (prepare_holds enable_holds : List ℕ)
    → prepare_holds ≡ replicate (length desc.defs) 0 → enable_holds ≡ replicate (length desc.defs) 0 → flight.going ≡ false → IsValid desc.words desc.defs → window.size ≡ desc.words → AreTold window.size window.words
    → tree.defs ≡ desc.defs → tree.clocks ≡ replicate (length desc.defs) unregistered_row → IsTree tree.defs tree.clocks tree.order tree.rates → credits ≤ most_credits
    → table.clocks ≡ length desc.defs → table.handles ≡ [] → AreCounts counts → StandsFor counts (opening desc.defs [] false 0) → length chains ≡ length desc.defs → Tells chains []
    → IsWhole (parts_over desc window tree table counts chains credits ignore_unused flight course prepare_holds enable_holds)
whole_over desc window tree table counts chains credits ignore_unused flight course prepare_holds enable_holds prepares enables quiet valid size told defs blank stands few clocks empty keeps counted notified tells = record {
  tied = record { valid = valid; words = size; told = told; defs = defs; stands = stands; kept = none_kept window.words };
  paid = record {
    few_credits = few;
    within = omega arith;
    few_handles = let none = ap (λ (hs : List (Option HandleRow)). length hs) empty in omega arith;
    few_holds = let none = ap (λ (hs : List (Option HandleRow)). sums hs) empty in omega arith;
  };
  counted = record {
    keeps = keeps;
    stands = StandsFor-held counts (opening desc.defs [] false 0) (bare (parts_over desc window tree table counts chains credits ignore_unused flight course prepare_holds enable_holds)) counted refl blank empty
        (λ c. (listed_tells prepare_holds).each c ∙ sym ((tells_none prepare_holds (length desc.defs) prepares).each c)) (λ c. (listed_tells enable_holds).each c ∙ sym ((tells_none enable_holds (length desc.defs) enables).each c));
  };
  clocks = clocks;
  handled = λ n h e. let none = ap (λ (hs : List (Option HandleRow)). handle_at hs n) empty in absurd cc;
  notified = notified;
  listed = record { rows = []; tells = tells };
  flown = λ going. never_flown flight quiet going;
  room = let none = none_left (rows_from 0 chains) flight quiet in omega arith;
  prepares_held = held_none (registered tree.clocks) prepare_holds (length desc.defs) prepares;
  enables_held = held_none (registered tree.clocks) enable_holds (length desc.defs) enables;
} where
  sums : List (Option HandleRow) → ℕ
  sums hs = sum_by held_in_all (present hs)

  none_kept : (words : Option (List ℕ)) → AreKept desc.defs words tree.clocks tree.rates
  none_kept None = tt
  none_kept (Some words) = λ c there. let none = blank_registered tree.clocks (length desc.defs) c blank in absurd cc

-- the tree has the description
pub whole_opening : (desc : Checked) (window : Shown) (tree : TreeState) (table : HandleTable) (counts : CountState) (chains : List (List Notifier)) (credits : ℕ) (ignore_unused : Bool) (flight : FlightState) (course : CourseState) (prepare_holds enable_holds : List ℕ)
    → prepare_holds ≡ replicate (length desc.defs) 0 → enable_holds ≡ replicate (length desc.defs) 0 → flight.going ≡ false → IsValid desc.words desc.defs → window.size ≡ desc.words → AreTold window.size window.words
    → desc_of tree ≡ desc → tree.clocks ≡ replicate (length desc.defs) unregistered_row → IsTree tree.defs tree.clocks tree.order tree.rates → credits ≤ most_credits
    → table.clocks ≡ length desc.defs → table.handles ≡ [] → AreCounts counts → StandsFor counts (opening desc.defs [] false 0) → length chains ≡ length desc.defs → Tells chains []
    → IsWhole (parts_of window tree table counts chains credits 0 ignore_unused flight course prepare_holds enable_holds 0)
whole_opening desc window tree table counts chains credits ignore_unused flight course prepare_holds enable_holds prepares enables quiet valid size told same blank stands few clocks empty keeps counted notified tells =
    whole_described (parts_over desc window tree table counts chains credits ignore_unused flight course prepare_holds enable_holds) same
    (whole_over desc window tree table counts chains credits ignore_unused flight course prepare_holds enable_holds prepares enables quiet valid size told (ap (λ (d : Checked). d.defs) same) blank stands few clocks empty keeps counted notified tells)

-- counts that a core begins with
pub counts_opening : (desc : Checked) (counts : CountState) → ((c : ℕ) → is_gated counts c ≡ sets_rate_gate desc.defs c) → counts.links ≡ replicate (length desc.defs) None
    → counts.enables ≡ replicate (length desc.defs) 0 → counts.prepares ≡ replicate (length desc.defs) 0 → counts.exclusives ≡ replicate (length desc.defs) 0
    → StandsFor counts (opening desc.defs [] false 0)
counts_opening desc counts gated links enables prepares exclusives = counts_at_first desc counts [] gated links enables prepares exclusives

-- they stand for the opening, where the bank tells its words
stands_over : (desc : Checked) (window : Shown) (tree : TreeState) (table : HandleTable) (counts : CountState) (chains : List (List Notifier)) (credits : ℕ) (ignore_unused : Bool) (flight : FlightState) (course : CourseState)
    (prepare_holds enable_holds words : List ℕ) (contents : Option (List ℕ))
    → prepare_holds ≡ replicate (length desc.defs) 0 → enable_holds ≡ replicate (length desc.defs) 0 → flight.going ≡ false → window.words ≡ option_map (λ _. words) contents → tree.clocks ≡ replicate (length desc.defs) unregistered_row → tree.order ≡ [] → table.handles ≡ [] → Tells chains []
    → is_some window.words ≡ true
    → Stands (parts_over desc window tree table counts chains credits ignore_unused flight course prepare_holds enable_holds) (opening desc.defs words ignore_unused credits)
stands_over desc window tree table counts chains credits ignore_unused flight course prepare_holds enable_holds words contents prepares enables quiet given blank order empty notifiers told = record {
  defs = refl;
  regs = given ∙ all contents (sym (ap (λ (o : Option (List ℕ)). is_some o) given) ∙ told);
  clocks = sym blank;
  order = sym order;
  handles = sym empty;
  notifiers = notifiers;
  prepare_holds = tells_none prepare_holds (length desc.defs) prepares;
  enable_holds = tells_none enable_holds (length desc.defs) enables;
  change = quiet;
  along = tt;
  credits = refl;
  spent = refl;
  steps = refl;
  ignore_unused = refl;
} where
  all : (o : Option (List ℕ)) → is_some (option_map (λ _. words) o) ≡ true → option_map (λ _. words) o ≡ Some words
  all None e = absurd cc
  all (Some ws) e = refl

pub stands_opening : (desc : Checked) (window : Shown) (tree : TreeState) (table : HandleTable) (counts : CountState) (chains : List (List Notifier)) (credits : ℕ) (ignore_unused : Bool) (flight : FlightState) (course : CourseState)
    (prepare_holds enable_holds words : List ℕ) (contents : Option (List ℕ))
    → prepare_holds ≡ replicate (length desc.defs) 0 → enable_holds ≡ replicate (length desc.defs) 0 → flight.going ≡ false → window.words ≡ option_map (λ _. words) contents → desc_of tree ≡ desc → tree.clocks ≡ replicate (length desc.defs) unregistered_row → tree.order ≡ []
    → table.handles ≡ [] → Tells chains [] → is_some window.words ≡ true
    → Stands (parts_of window tree table counts chains credits 0 ignore_unused flight course prepare_holds enable_holds 0) (opening desc.defs words ignore_unused credits)
stands_opening desc window tree table counts chains credits ignore_unused flight course prepare_holds enable_holds words contents prepares enables quiet given same blank order empty notifiers told =
    stands_described (parts_over desc window tree table counts chains credits ignore_unused flight course prepare_holds enable_holds) (opening desc.defs words ignore_unused credits) same
    (stands_over desc window tree table counts chains credits ignore_unused flight course prepare_holds enable_holds words contents prepares enables quiet given blank order empty notifiers told)
