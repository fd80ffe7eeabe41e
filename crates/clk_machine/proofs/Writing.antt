-- The parts of a core where a handle changes, with the counts and the gates that follow.
use Rattle.std.proofs.Common.{◌≡◌, ℕ, ◌+◌, ◌<◌, ◌≤◌, true, false, List, [], ◌∷◌, ◌++◌, Option, Some, None, refl, sym, ap, subst, ◌∙◌, inl, inr, arith, length, set, get_or, nat_lt}
use Rattle.std.specs.Prelude.{sum_by}
use Rattle.std.specs.Option.{option_map}
use Rattle.std.proofs.lemmas.List.{length-set, length-append}
use Rattle.clk_base.specs.declared.clock.ClockId.{ClockId}
use Rattle.clk_model.specs.declared.row.HandleRow.{HandleRow}
use Rattle.clk_model.specs.Lists.{present}
use Rattle.clk_model.specs.State.{State, registered, handle_at}
use Rattle.clk_model.specs.Holders.{is_enabled, active}
use Rattle.clk_model.specs.Begin.{put_handle, holds_something}
use Rattle.clk_model.proofs.StateLaws.{settled-still, active-put_same, active-put_none, active-append}
use Rattle.counts_core.specs.Counted.{CountState, AreCounts}
use Rattle.counts_core.specs.Standing.{StandsFor}
use Rattle.rate_requests.specs.Handles.{HandleTable, new_row, with_counts_at}
use Rattle.core_parts.specs.Window.{Shown}
use Rattle.core_parts.specs.Tied.{AreTied}
use Rattle.clk_machine.specs.Parts.{Parts, bare, held_in_all, ArePaid, IsWhole}
use Rattle.clk_machine.specs.Stands.{Stands, Becomes, nothing}
use Rattle.clk_machine.specs.Holding.{puts, gives, stays}
use Rattle.core_parts.proofs.HeldCounts.{listed_tells}
use Rattle.clk_machine.proofs.Flying.{never_flown, flown_written, flown_spent}
use Rattle.core_parts.proofs.Shapes.{holds_nothing, handle_at-put, handle_at-append, sum_by-set, sum_by-gone, sum_by-append}
use Rattle.core_parts.proofs.Moving.{clock_within}
use Rattle.core_parts.proofs.Holdings.{Moves, moves_one, moves_none, StandsFor-same, StandsFor-held, StandsFor-put, StandsFor-gone, StandsFor-given}
use Rattle.std.proofs.Math.Bool.{or-false}

-- ---- counts and the state

-- the counts of whole parts stand for each state that the parts stand for
pub counts_stand : (m : Parts) (s : State) → IsWhole m → Stands m s → StandsFor m.counts s
counts_stand m s whole stands =
    StandsFor-held m.counts (bare m) s whole.counted.stands stands.defs stands.clocks stands.handles (λ c. stands.prepare_holds.each c ∙ sym ((listed_tells m.prepare_holds).each c))
    (λ c. stands.enable_holds.each c ∙ sym ((listed_tells m.enable_holds).each c))

-- ---- a handle written

-- a live handle was given another row of the same clock, and the holders changed with it
pub record Written (old : Parts) (n : ℕ) (row new : HandleRow) (table' : HandleTable) (counts' : CountState) : Type 0 where
  pub live : handle_at old.table.handles n ≡ Some row
  pub clock : new.clock ≡ row.clock
  pub driver : new.driver ≡ row.driver
  pub handles : table'.handles ≡ set old.table.handles n (Some new)
  pub clocks : table'.clocks ≡ old.table.clocks
  pub keeps : AreCounts counts'
  pub gated : counts'.gated ≡ old.counts.gated
  pub links : counts'.links ≡ old.counts.links
  pub enables : Moves (λ h. h.enables) old.counts.enables counts'.enables row new
  pub prepares : Moves (λ h. h.prepares) old.counts.prepares counts'.prepares row new
  pub exclusives : Moves (λ h. h.exclusives) old.counts.exclusives counts'.exclusives row new
  pub more : held_in_all new ≤ held_in_all row + 1

-- the parts with these words, this table and these counts, and a credit spent
abbrev pub with_written : Parts → Shown → HandleTable → CountState → Parts
with_written old window' table' counts' = record old { window = window'; table = table'; counts = counts'; spent = old.spent + 1 }

-- the counts stand for a state with the handle written
pub written_stands : (old : Parts) (n : ℕ) (row new : HandleRow) (table' : HandleTable) (counts' : CountState) (s : State) → Written old n row new table' counts'
    → StandsFor old.counts s → handle_at s.handles n ≡ Some row → StandsFor counts' (put_handle s n (Some new))
written_stands old n row new table' counts' s written stands at =
    StandsFor-put old.counts counts' s n row new stands at written.gated written.links written.enables written.prepares written.exclusives

-- the parts stay whole
pub whole_written : (old : Parts) (n : ℕ) (row new : HandleRow) (window' : Shown) (table' : HandleTable) (counts' : CountState) → IsWhole old → Written old n row new table' counts'
    → old.spent < old.credits → AreTied old.desc window' old.tree → IsWhole (with_written old window' table' counts')
whole_written old n row new window' table' counts' whole written left tied = record {
  tied = tied;
  paid = subst (λ (hs : List (Option HandleRow)). ArePaid hs old.credits (old.spent + 1)) (sym written.handles) (record {
    few_credits = whole.paid.few_credits;
    within = omega arith;
    few_handles = let few = whole.paid.few_handles in let len = length-set old.table.handles n (Some new) in omega arith;
    few_holds =
        let few = whole.paid.few_holds in
        let sums = sum_by-set held_in_all old.table.handles n row new written.live in
        let more = written.more in
        omega arith;
  });
  counted = record {
    keeps = written.keeps;
    stands =
        StandsFor-same counts' (put_handle (bare old) n (Some new)) (bare (with_written old window' table' counts'))
        (written_stands old n row new table' counts' (bare old) written whole.counted.stands written.live) refl refl written.handles refl refl;
  };
  clocks = written.clocks ∙ whole.clocks;
  handled = λ k h at. elim (handle_at-put old.table.handles n (Some new) k h (sym (ap (λ (hs : List (Option HandleRow)). handle_at hs k) written.handles) ∙ at)) [
    | inl put ↦
        let is : h ≡ new = cc in
        ap (λ (r : HandleRow). registered old.tree.clocks r.clock.0) is ∙ ap (λ (c : ClockId). registered old.tree.clocks c.0) written.clock ∙ whole.handled n row written.live
    | inr was ↦ whole.handled k h was
  ];
  notified = whole.notified;
  listed = whole.listed;
  flown = λ going.
      flown_written old.desc.defs old.tree.clocks old.table.handles table'.handles old.chains old.course.notified old.spent n row new old.flight (whole.flown going) written.live written.driver written.more written.handles;
  room = whole.room;
  prepares_held = whole.prepares_held;
  enables_held = whole.enables_held;
}

-- they stand for the state with the handle written, a credit spent, and these words
pub stands_written : (old : Parts) (n : ℕ) (row new : HandleRow) (window' : Shown) (table' : HandleTable) (counts' : CountState) (s : State) (regs' : List ℕ)
    → Written old n row new table' counts' → Stands old s → window'.words ≡ Some regs'
    → Stands (with_written old window' table' counts') (record (put_handle s n (Some new)) { regs = regs'; spent = s.spent + 1 })
stands_written old n row new window' table' counts' s regs' written stands words = record {
  defs = stands.defs;
  regs = words;
  clocks = stands.clocks;
  order = stands.order;
  handles = ap (λ (hs : List (Option HandleRow)). set hs n (Some new)) stands.handles ∙ sym written.handles;
  notifiers = stands.notifiers;
  prepare_holds = stands.prepare_holds;
  enable_holds = stands.enable_holds;
  change = stands.change;
  along = stands.along;
  credits = stands.credits;
  spent = ap (λ (k : ℕ). k + 1) stands.spent;
  steps = stands.steps;
  ignore_unused = stands.ignore_unused;
}

-- a live handle is live in the state
pub live_in : (m : Parts) (s : State) (n : ℕ) (row : HandleRow) → Stands m s → handle_at m.table.handles n ≡ Some row → handle_at s.handles n ≡ Some row
live_in m s n row stands live = ap (λ (hs : List (Option HandleRow)). handle_at hs n) stands.handles ∙ live

-- where no gate moves, that is what is done to the state
pub becomes_written : (old : Parts) (n : ℕ) (row new : HandleRow) (table' : HandleTable) (counts' : CountState) → Written old n row new table' counts'
    → is_enabled new ≡ is_enabled row → Becomes old nothing (puts n (Some new)) (with_written old old.window table' counts')
becomes_written old n row new table' counts' written same = record {
  remains = record { desc = refl; told = refl; size = refl; behind = refl; credits = refl; ignore_unused = refl };
  spent = refl;
  flight = refl;
  locks = refl;
  left = refl;
  steps = refl;
  rows = λ c. sym (or-false (registered old.tree.clocks c));
  stands = λ s stands sound.
      let at = live_in old s n row stands written.live in
      subst (λ (t : State). Stands (with_written old old.window table' counts') (record t { spent = s.spent + 1 }))
      (sym (settled-still s (put_handle s n (Some new)) (λ c. active-put_same s n row new c at written.clock same)))
      (stands_written old n row new old.window table' counts' s s.regs written stands stands.regs);
}

-- what a table says of the handle that other counts were given
pub counts_given : (handles : List (Option HandleRow)) (n prepares enables exclusives : ℕ) (row : HandleRow) → handle_at handles n ≡ Some row
    → with_counts_at handles n prepares enables exclusives ≡ set handles n (Some (record row { prepares = prepares; enables = enables; exclusives = exclusives }))
counts_given handles n prepares enables exclusives row live =
    ap (λ (o : Option HandleRow). set handles n (option_map (λ (h : HandleRow). let r : HandleRow = record h { prepares = prepares; enables = enables; exclusives = exclusives } in r) o)) live

-- a credit spent, and nothing else
pub whole_spent : (old : Parts) → IsWhole old → old.spent < old.credits → IsWhole (record old { spent = old.spent + 1 })
whole_spent old whole left = record {
  tied = whole.tied;
  paid = record {
    few_credits = whole.paid.few_credits;
    within = omega arith;
    few_handles = let few = whole.paid.few_handles in omega arith;
    few_holds = let few = whole.paid.few_holds in omega arith;
  };
  counted = record { keeps = whole.counted.keeps; stands = StandsFor-same old.counts (bare old) (bare (record old { spent = old.spent + 1 })) whole.counted.stands refl refl refl refl refl };
  clocks = whole.clocks;
  handled = whole.handled;
  notified = whole.notified;
  listed = whole.listed;
  flown = λ going. flown_spent old.desc.defs old.tree.clocks old.table.handles old.chains old.course.notified old.spent old.flight (whole.flown going);
  room = whole.room;
  prepares_held = whole.prepares_held;
  enables_held = whole.enables_held;
}

pub becomes_spent : (old : Parts) → Becomes old nothing stays (record old { spent = old.spent + 1 })
becomes_spent old = record {
  remains = record { desc = refl; told = refl; size = refl; behind = refl; credits = refl; ignore_unused = refl };
  spent = refl;
  flight = refl;
  locks = refl;
  left = refl;
  steps = refl;
  rows = λ c. sym (or-false (registered old.tree.clocks c));
  stands = λ s stands sound.
      subst (λ (t : State). Stands (record old { spent = old.spent + 1 }) (record t { spent = s.spent + 1 })) (sym (settled-still s s (λ c. refl))) (record {
        defs = stands.defs;
        regs = stands.regs;
        clocks = stands.clocks;
        order = stands.order;
        handles = stands.handles;
        notifiers = stands.notifiers;
        prepare_holds = stands.prepare_holds;
        enable_holds = stands.enable_holds;
        change = stands.change;
        along = stands.along;
        credits = stands.credits;
        spent = ap (λ (k : ℕ). k + 1) stands.spent;
        steps = stands.steps;
        ignore_unused = stands.ignore_unused;
      });
}

-- ---- a handle made or taken away

-- the parts with this table, and a credit spent
abbrev pub with_table : Parts → HandleTable → Parts
with_table old table' = record old { table = table'; spent = old.spent + 1 }

-- with another list of handles they stay whole
whole_listed : (old : Parts) (table' : HandleTable) (handles : List (Option HandleRow)) → IsWhole old → old.spent < old.credits
    → table'.clocks ≡ old.table.clocks → table'.handles ≡ handles → length handles ≤ old.spent + 1 → sum_by held_in_all (present handles) ≤ old.spent + 1
    → StandsFor old.counts (record (bare old) { handles = handles }) → old.flight.going ≡ false
    → ((k : ℕ) (h : HandleRow) → handle_at handles k ≡ Some h → registered old.tree.clocks h.clock.0 ≡ true) → IsWhole (with_table old table')
whole_listed old table' handles whole left clocks is few holds stands quiet handled = record {
  tied = whole.tied;
  paid = subst (λ (hs : List (Option HandleRow)). ArePaid hs old.credits (old.spent + 1)) (sym is) (record {
    few_credits = whole.paid.few_credits;
    within = omega arith;
    few_handles = few;
    few_holds = holds;
  });
  counted = record {
    keeps = whole.counted.keeps;
    stands = StandsFor-same old.counts (record (bare old) { handles = handles }) (bare (with_table old table')) stands refl refl is refl refl;
  };
  clocks = clocks ∙ whole.clocks;
  handled = λ k h at. handled k h (sym (ap (λ (hs : List (Option HandleRow)). handle_at hs k) is) ∙ at);
  notified = whole.notified;
  listed = whole.listed;
  flown = λ going. never_flown old.flight quiet going;
  room = whole.room;
  prepares_held = whole.prepares_held;
  enables_held = whole.enables_held;
}

-- where no gate moves and only the handles of a state change, that is what is done to it
becomes_listed : (old : Parts) (table' : HandleTable) (does : State → State)
    → ((s : State) → Stands old s → ((c : ℕ) → active s c ≡ active (does s) c) × ((does s).handles ≡ table'.handles))
    → ((s : State) → does s ≡ record s { handles = (does s).handles })
    → Becomes old nothing does (with_table old table')
becomes_listed old table' does each beside = record {
  remains = record { desc = refl; told = refl; size = refl; behind = refl; credits = refl; ignore_unused = refl };
  spent = refl;
  flight = refl;
  locks = refl;
  left = refl;
  steps = refl;
  rows = λ c. sym (or-false (registered old.tree.clocks c));
  stands = λ s stands sound.
      subst (λ (t : State). Stands (with_table old table') (record t { spent = s.spent + 1 }))
      (sym (settled-still s (does s) (each s stands).0 ∙ beside s)) (record {
        defs = stands.defs;
        regs = stands.regs;
        clocks = stands.clocks;
        order = stands.order;
        handles = (each s stands).1;
        notifiers = stands.notifiers;
        prepare_holds = stands.prepare_holds;
        enable_holds = stands.enable_holds;
        change = stands.change;
        along = stands.along;
        credits = stands.credits;
        spent = ap (λ (k : ℕ). k + 1) stands.spent;
        steps = stands.steps;
        ignore_unused = stands.ignore_unused;
      });
}

-- a handle that holds nothing is taken away
pub whole_removed : (old : Parts) (n : ℕ) (row : HandleRow) (table' : HandleTable) → IsWhole old → old.flight.going ≡ false → old.spent < old.credits → handle_at old.table.handles n ≡ Some row → holds_something row ≡ false
    → table'.handles ≡ set old.table.handles n None → table'.clocks ≡ old.table.clocks → IsWhole (with_table old table')
whole_removed old n row table' whole quiet left live free is clocks =
    let nothing_ = holds_nothing row free in
    let few = whole.paid.few_handles in
    let holds = whole.paid.few_holds in
    let len = length-set old.table.handles n None in
    let sums = sum_by-gone held_in_all old.table.handles n row live in
    whole_listed old table' (set old.table.handles n None) whole left clocks is (omega arith) (omega arith)
    (StandsFor-gone old.counts (bare old) n row whole.counted.stands live nothing_.enables nothing_.prepares nothing_.exclusives) quiet
    (λ k h at. elim (handle_at-put old.table.handles n None k h at) [
      | inl none ↦ absurd cc
      | inr was ↦ whole.handled k h was
    ])

pub becomes_removed : (old : Parts) (n : ℕ) (row : HandleRow) (table' : HandleTable) → handle_at old.table.handles n ≡ Some row → holds_something row ≡ false
    → table'.handles ≡ set old.table.handles n None → Becomes old nothing (puts n None) (with_table old table')
becomes_removed old n row table' live free is =
    let idle : is_enabled row ≡ false = ap (nat_lt 0) (holds_nothing row free).enables in
    becomes_listed old table' (puts n None)
    (λ s stands. (λ c. active-put_none s n row c (live_in old s n row stands live) idle, ap (λ (hs : List (Option HandleRow)). set hs n None) stands.handles ∙ sym is))
    (λ s. refl)

-- a new handle is made
pub whole_added : (old : Parts) (driver : ℕ) (clock : ClockId) (table' : HandleTable) → IsWhole old → old.flight.going ≡ false → old.spent < old.credits → registered old.tree.clocks clock.0 ≡ true
    → table'.handles ≡ old.table.handles ++ Some (new_row driver clock) ∷ [] → table'.clocks ≡ old.table.clocks → IsWhole (with_table old table')
whole_added old driver clock table' whole quiet left there is clocks =
    let few = whole.paid.few_handles in
    let holds = whole.paid.few_holds in
    let len = length-append old.table.handles (Some (new_row driver clock) ∷ []) in
    let sums = sum_by-append held_in_all old.table.handles (new_row driver clock) in
    let none : held_in_all (new_row driver clock) ≡ 0 = omega arith in
    whole_listed old table' (old.table.handles ++ Some (new_row driver clock) ∷ []) whole left clocks is (omega arith) (omega arith)
    (StandsFor-given old.counts (bare old) driver clock.0 whole.counted.stands) quiet
    (λ k h at. elim (handle_at-append old.table.handles (new_row driver clock) k h at) [
      | inl new ↦ ap (λ (r : HandleRow). registered old.tree.clocks r.clock.0) new ∙ there
      | inr was ↦ whole.handled k h was
    ])

pub becomes_added : (old : Parts) (driver : ℕ) (clock : ClockId) (table' : HandleTable) → table'.handles ≡ old.table.handles ++ Some (new_row driver clock) ∷ []
    → Becomes old nothing (gives driver clock.0) (with_table old table')
becomes_added old driver clock table' is =
    becomes_listed old table' (gives driver clock.0)
    (λ s stands. (λ c. active-append s (new_row driver clock) c refl, ap (λ (hs : List (Option HandleRow)). hs ++ Some (new_row driver clock) ∷ []) stands.handles ∙ sym is))
    (λ s. refl)

-- ---- one hold more or less

-- what the table says of a handle that was written
pub record Row (old : Parts) (n : ℕ) (row new : HandleRow) (table' : HandleTable) : Type 0 where
  pub live : handle_at old.table.handles n ≡ Some row
  pub clock : new.clock ≡ row.clock
  pub driver : new.driver ≡ row.driver
  pub handles : table'.handles ≡ set old.table.handles n (Some new)
  pub clocks : table'.clocks ≡ old.table.clocks
  pub more : held_in_all new ≤ held_in_all row + 1

-- the clock of a live handle of whole parts has its places in the counts
pub row_place : (m : Parts) (n : ℕ) (row : HandleRow) → IsWhole m → handle_at m.table.handles n ≡ Some row → row.clock.0 < length m.desc.defs
row_place m n row whole live = clock_within m.desc m.window m.tree row.clock.0 whole.tied (whole.handled n row live)

place_among : (m : Parts) (c : ℕ) (own : List ℕ) → IsWhole m → c < length m.desc.defs → length own ≡ length m.counts.links → c < length own
place_among m c own whole within size =
    subst (λ (n : ℕ). c < n) (sym (size ∙ whole.counted.stands.size)) within

-- its enables
pub written_enables : (old : Parts) (n value : ℕ) (row new : HandleRow) (table' : HandleTable) (counts' : CountState) → IsWhole old → Row old n row new table' → AreCounts counts'
    → counts' ≡ record old.counts { enables = set old.counts.enables row.clock.0 value } → value + row.enables ≡ get_or old.counts.enables row.clock.0 0 + new.enables
    → new.prepares ≡ row.prepares → new.exclusives ≡ row.exclusives → Written old n row new table' counts'
written_enables old n value row new table' counts' whole wrote keeps is sum prepares exclusives = record {
  live = wrote.live;
  clock = wrote.clock;
  driver = wrote.driver;
  handles = wrote.handles;
  clocks = wrote.clocks;
  keeps = keeps;
  gated = ap (λ (k : CountState). k.gated) is;
  links = ap (λ (k : CountState). k.links) is;
  enables =
      subst (λ (k : CountState). Moves (λ h. h.enables) old.counts.enables k.enables row new) (sym is)
      (moves_one (λ h. h.enables) old.counts.enables row.clock.0 value row new
      (place_among old row.clock.0 old.counts.enables whole (row_place old n row whole wrote.live) whole.counted.keeps.enables) refl wrote.clock sum);
  prepares =
      subst (λ (k : CountState). Moves (λ h. h.prepares) old.counts.prepares k.prepares row new) (sym is) (moves_none (λ h. h.prepares) old.counts.prepares row new wrote.clock prepares);
  exclusives =
      subst (λ (k : CountState). Moves (λ h. h.exclusives) old.counts.exclusives k.exclusives row new) (sym is)
      (moves_none (λ h. h.exclusives) old.counts.exclusives row new wrote.clock exclusives);
  more = wrote.more;
}

-- its prepares
pub written_prepares : (old : Parts) (n value : ℕ) (row new : HandleRow) (table' : HandleTable) (counts' : CountState) → IsWhole old → Row old n row new table' → AreCounts counts'
    → counts' ≡ record old.counts { prepares = set old.counts.prepares row.clock.0 value } → value + row.prepares ≡ get_or old.counts.prepares row.clock.0 0 + new.prepares
    → new.enables ≡ row.enables → new.exclusives ≡ row.exclusives → Written old n row new table' counts'
written_prepares old n value row new table' counts' whole wrote keeps is sum enables exclusives = record {
  live = wrote.live;
  clock = wrote.clock;
  driver = wrote.driver;
  handles = wrote.handles;
  clocks = wrote.clocks;
  keeps = keeps;
  gated = ap (λ (k : CountState). k.gated) is;
  links = ap (λ (k : CountState). k.links) is;
  enables =
      subst (λ (k : CountState). Moves (λ h. h.enables) old.counts.enables k.enables row new) (sym is) (moves_none (λ h. h.enables) old.counts.enables row new wrote.clock enables);
  prepares =
      subst (λ (k : CountState). Moves (λ h. h.prepares) old.counts.prepares k.prepares row new) (sym is)
      (moves_one (λ h. h.prepares) old.counts.prepares row.clock.0 value row new
      (place_among old row.clock.0 old.counts.prepares whole (row_place old n row whole wrote.live) whole.counted.keeps.prepares) refl wrote.clock sum);
  exclusives =
      subst (λ (k : CountState). Moves (λ h. h.exclusives) old.counts.exclusives k.exclusives row new) (sym is)
      (moves_none (λ h. h.exclusives) old.counts.exclusives row new wrote.clock exclusives);
  more = wrote.more;
}

-- its exclusive holds
pub written_exclusives : (old : Parts) (n value : ℕ) (row new : HandleRow) (table' : HandleTable) (counts' : CountState) → IsWhole old → Row old n row new table' → AreCounts counts'
    → counts' ≡ record old.counts { exclusives = set old.counts.exclusives row.clock.0 value } → value + row.exclusives ≡ get_or old.counts.exclusives row.clock.0 0 + new.exclusives
    → new.enables ≡ row.enables → new.prepares ≡ row.prepares → Written old n row new table' counts'
written_exclusives old n value row new table' counts' whole wrote keeps is sum enables prepares = record {
  live = wrote.live;
  clock = wrote.clock;
  driver = wrote.driver;
  handles = wrote.handles;
  clocks = wrote.clocks;
  keeps = keeps;
  gated = ap (λ (k : CountState). k.gated) is;
  links = ap (λ (k : CountState). k.links) is;
  enables =
      subst (λ (k : CountState). Moves (λ h. h.enables) old.counts.enables k.enables row new) (sym is) (moves_none (λ h. h.enables) old.counts.enables row new wrote.clock enables);
  prepares =
      subst (λ (k : CountState). Moves (λ h. h.prepares) old.counts.prepares k.prepares row new) (sym is) (moves_none (λ h. h.prepares) old.counts.prepares row new wrote.clock prepares);
  exclusives =
      subst (λ (k : CountState). Moves (λ h. h.exclusives) old.counts.exclusives k.exclusives row new) (sym is)
      (moves_one (λ h. h.exclusives) old.counts.exclusives row.clock.0 value row new
      (place_among old row.clock.0 old.counts.exclusives whole (row_place old n row whole wrote.live) whole.counted.keeps.exclusives) refl wrote.clock sum);
  more = wrote.more;
}
