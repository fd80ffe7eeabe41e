-- Another range of a handle, in the parts of a core.
use Rattle.std.proofs.Common.{◌≡◌, ℕ, List, Option, Some, refl, sym, ap, subst, ◌∙◌, inl, inr, arith, set}
use Rattle.std.proofs.lemmas.List.{length-set}
use Rattle.clk_base.specs.Description.{Description}
use Rattle.clk_model.specs.declared.row.ClockRow.{ClockRow}
use Rattle.clk_model.specs.declared.row.HandleRow.{HandleRow}
use Rattle.clk_model.specs.Begin.{put_handle}
use Rattle.clk_model.specs.State.{State, registered, handle_at}
use Rattle.clk_flight.specs.Flights.{FlightState}
use Rattle.notifiers.specs.declared.notifier.Notifier.{Notifier}
use Rattle.rate_requests.specs.Handles.{HandleTable, with_range_at}
use Rattle.change_walk.specs.declared.changes.Changed.{Changed}
use Rattle.clk_machine.specs.Holding.{ranged}
use Rattle.clk_machine.specs.Parts.{Parts, bare, held_in_all, with_range, ArePaid, IsFlown, IsWhole}
use Rattle.clk_machine.specs.Stands.{Stands}
use Rattle.clk_machine.proofs.DecidedRange.{range_written}
use Rattle.clk_machine.proofs.Flying.{own_call}
use Rattle.core_parts.proofs.Holdings.{moves_none, StandsFor-same, StandsFor-put}
use Rattle.core_parts.proofs.Shapes.{handle_at-put, sum_by-set}
use Rattle.clk_machine.proofs.Writing.{Written}

-- a table whose handles alone are others
pub table_is : (table table' : HandleTable) (handles : List (Option HandleRow)) → table'.clocks ≡ table.clocks → table'.place ≡ table.place → table'.handles ≡ handles → table' ≡ record table { handles = handles }
table_is table table' handles many place same =
    ap (λ (k : ℕ). let t : HandleTable = record table' { clocks = k } in t) many
    ∙ ap (λ (o : Option ℕ). let t : HandleTable = record { clocks = table.clocks; handles = table'.handles; place = o } in t) place
    ∙ ap (λ (hs : List (Option HandleRow)). let t : HandleTable = record table { handles = hs } in t) same

-- a range is written
pub written_range : (old : Parts) (n least most : ℕ) (row : HandleRow) (table' : HandleTable) → IsWhole old → handle_at old.table.handles n ≡ Some row → table'.handles ≡ with_range_at old.table.handles n least most
    → table'.clocks ≡ old.table.clocks → Written old n row (ranged row least most) table' old.counts
written_range old n least most row table' whole live handles clocks = record {
  live = live;
  clock = refl;
  driver = refl;
  handles = handles ∙ range_written old.table.handles n least most row live;
  clocks = clocks;
  keeps = whole.counted.keeps;
  gated = refl;
  links = refl;
  enables = moves_none (λ h. h.enables) old.counts.enables row (ranged row least most) refl refl;
  prepares = moves_none (λ h. h.prepares) old.counts.prepares row (ranged row least most) refl refl;
  exclusives = moves_none (λ h. h.exclusives) old.counts.exclusives row (ranged row least most) refl refl;
  more = omega arith;
}

-- what is kept of a change in flight is kept
flown_ranged : (defs : Description) (clocks : List ClockRow) (handles : List (Option HandleRow)) (chains : List (List Notifier)) (notified : List Changed) (spent n least most : ℕ) (row : HandleRow) (f : FlightState)
    → IsFlown defs clocks handles chains notified spent f → handle_at handles n ≡ Some row → IsFlown defs clocks (set handles n (Some (ranged row least most))) chains notified spent f
flown_ranged defs clocks handles chains notified spent n least most row f flown at = record {
  plls_ = flown.plls_;
  way = flown.way;
  own = own_call handles n row (ranged row least most) f.driver f.call at refl flown.own;
  paid = let few = flown.paid in let sums = sum_by-set held_in_all handles n row (ranged row least most) at in omega arith;
  tells = flown.tells;
  links = flown.links;
  placed = flown.placed;
}

-- the parts stay whole
pub whole_ranged : (old : Parts) (n least most : ℕ) (row : HandleRow) → IsWhole old → handle_at old.table.handles n ≡ Some row → IsWhole (with_range old n least most)
whole_ranged old n least most row whole live = record {
  tied = whole.tied;
  paid = subst (λ (hs : List (Option HandleRow)). ArePaid hs old.credits old.spent) (sym is) (record {
    few_credits = whole.paid.few_credits;
    within = whole.paid.within;
    few_handles = let few = whole.paid.few_handles in let len = length-set old.table.handles n (Some new) in omega arith;
    few_holds = let few = whole.paid.few_holds in let sums = sum_by-set held_in_all old.table.handles n row new live in omega arith;
  });
  counted = record {
    keeps = whole.counted.keeps;
    stands =
        StandsFor-same old.counts (put_handle (bare old) n (Some new)) (bare (with_range old n least most))
        (StandsFor-put old.counts old.counts (bare old) n row new whole.counted.stands live refl refl
        (moves_none (λ h. h.enables) old.counts.enables row new refl refl)
        (moves_none (λ h. h.prepares) old.counts.prepares row new refl refl)
        (moves_none (λ h. h.exclusives) old.counts.exclusives row new refl refl)) refl refl is refl refl;
  };
  clocks = whole.clocks;
  handled = λ k h at. elim (handle_at-put old.table.handles n (Some new) k h (sym (ap (λ (hs : List (Option HandleRow)). handle_at hs k) is) ∙ at)) [
    | inl put ↦
        let same : h ≡ new = cc in
        ap (λ (r : HandleRow). registered old.tree.clocks r.clock.0) same ∙ whole.handled n row live
    | inr was ↦ whole.handled k h was
  ];
  notified = whole.notified;
  listed = whole.listed;
  flown = λ going. subst (λ (hs : List (Option HandleRow)). IsFlown old.desc.defs old.tree.clocks hs old.chains old.course.notified old.spent old.flight) (sym is)
      (flown_ranged old.desc.defs old.tree.clocks old.table.handles old.chains old.course.notified old.spent n least most row old.flight (whole.flown going) live);
  room = whole.room;
  prepares_held = whole.prepares_held;
  enables_held = whole.enables_held;
} where
  new : HandleRow
  new = ranged row least most

  is : with_range_at old.table.handles n least most ≡ set old.table.handles n (Some (ranged row least most))
  is = range_written old.table.handles n least most row live

-- and they stand for the state with the range
pub stands_ranged : (m : Parts) (s : State) (n least most : ℕ) (row : HandleRow) → Stands m s → handle_at m.table.handles n ≡ Some row
    → Stands (with_range m n least most) (record s { handles = set s.handles n (Some (ranged row least most)) })
stands_ranged m s n least most row stands live = record {
  defs = stands.defs;
  regs = stands.regs;
  clocks = stands.clocks;
  order = stands.order;
  handles = ap (λ (hs : List (Option HandleRow)). set hs n (Some (ranged row least most))) stands.handles ∙ sym (range_written m.table.handles n least most row live);
  notifiers = stands.notifiers;
  prepare_holds = stands.prepare_holds;
  enable_holds = stands.enable_holds;
  change = stands.change;
  along = stands.along;
  credits = stands.credits;
  spent = stands.spent;
  steps = stands.steps;
  ignore_unused = stands.ignore_unused;
}
