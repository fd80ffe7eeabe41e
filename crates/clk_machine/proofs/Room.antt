-- Room for what handles hold.
use Rattle.std.proofs.Common.{◌≡◌, ℕ, ◌+◌, ◌<◌, ◌≤◌, ◌&&◌, Bool, true, false, cond, List, Option, Some, ap, arith, nat_eq, length}
use Rattle.std.specs.Prelude.{slice_index}
use Rattle.clk_base.specs.Flags.{is_critical}
use Rattle.clk_model.specs.declared.row.HandleRow.{HandleRow}
use Rattle.clk_model.specs.Lists.{present}
use Rattle.clk_model.specs.State.{registered, handle_at}
use Rattle.clk_model.specs.Begin.{most_credits}
use Rattle.clk_model.proofs.CountLaws.{sum_by-part}
use Rattle.clk_model.proofs.Members.{test_same}
use Rattle.core_parts.specs.Listed.{rows_from}
use Rattle.clk_machine.specs.Parts.{Parts, held_in_all, IsWhole}
use Rattle.core_parts.proofs.Coming.{some_left}
use Rattle.core_parts.proofs.Shapes.{count-le}
use Rattle.core_parts.proofs.HeldCounts.{listed_tells, held_few}
use Rattle.core_parts.proofs.Holdings.{part, sum_on, sum_filtered}

-- what a live handle holds was paid for
pub row_few : (m : Parts) (n : ℕ) (row : HandleRow) → IsWhole m → handle_at m.table.handles n ≡ Some row → held_in_all row ≤ most_credits
row_few m n row whole live =
    let some = count-le held_in_all m.table.handles n row live in
    let paid = whole.paid.few_holds in
    let within = whole.paid.within in
    let few = whole.paid.few_credits in
    omega arith

-- so was what the handles of a clock hold
sum_few : (m : Parts) (count : HandleRow → ℕ) (c : ℕ) → IsWhole m → ((h : HandleRow) → count h ≤ held_in_all h) → sum_on count m.table.handles c ≤ most_credits
sum_few m count c whole le =
    let some = sum_by-part count held_in_all (λ h. nat_eq h.clock.0 c) (present m.table.handles) le in
    let paid = whole.paid.few_holds in
    let within = whole.paid.within in
    let few = whole.paid.few_credits in
    omega arith

-- and within the credits
sum_paid : (m : Parts) (count : HandleRow → ℕ) (c : ℕ) → IsWhole m → ((h : HandleRow) → count h ≤ held_in_all h) → sum_on count m.table.handles c ≤ m.credits
sum_paid m count c whole le =
    let some = sum_by-part count held_in_all (λ h. nat_eq h.clock.0 c) (present m.table.handles) le in
    let paid = whole.paid.few_holds in
    let within = whole.paid.within in
    omega arith

-- what one holds is a part of what those of its clock hold
sum_some : (count : HandleRow → ℕ) (handles : List (Option HandleRow)) (n : ℕ) (row : HandleRow) → handle_at handles n ≡ Some row → count row ≤ sum_on count handles row.clock.0
sum_some count handles n row live =
    let own : part count row.clock.0 row ≡ count row = ap (λ (t : Bool). cond t (count row) 0) (test_same row.clock.0) in
    let some = count-le (part count row.clock.0) handles n row live in
    let sums = sum_filtered count row.clock.0 (present handles) in
    omega arith

one_or_none : (t : Bool) → cond t 1 0 ≤ 1
one_or_none true = omega arith
one_or_none false = omega arith

-- there is room for one enable, prepare and exclusive hold more
pub enable_room : (m : Parts) (c : ℕ) → IsWhole m → slice_index m.counts.enables c < 8388608
enable_room m c whole =
    let own = whole.counted.stands.enables c in
    let few = sum_paid m (λ h. h.enables) c whole (λ h. omega arith) in
    let critical = one_or_none (is_critical m.desc.defs c && registered m.tree.clocks c) in
    let held = (listed_tells m.enable_holds).each c in
    let steps = held_few (registered m.tree.clocks) (length m.desc.defs) m.steps m.enable_holds c whole.enables_held in
    let room = whole.room in
    omega arith

pub prepare_room : (m : Parts) (c : ℕ) → IsWhole m → slice_index m.counts.prepares c < 8388608
prepare_room m c whole =
    let own = whole.counted.stands.prepares c in
    let few = sum_paid m (λ h. h.prepares) c whole (λ h. omega arith) in
    let critical = one_or_none (is_critical m.desc.defs c && registered m.tree.clocks c) in
    let held = (listed_tells m.prepare_holds).each c in
    let steps = held_few (registered m.tree.clocks) (length m.desc.defs) m.steps m.prepare_holds c whole.prepares_held in
    let room = whole.room in
    omega arith

pub exclusive_room : (m : Parts) (c : ℕ) → IsWhole m → slice_index m.counts.exclusives c < 8388608
exclusive_room m c whole =
    let own = whole.counted.stands.exclusives c in
    let few = sum_few m (λ h. h.exclusives) c whole (λ h. omega arith) in
    omega arith

-- and one to take where a handle has one
pub enable_held : (m : Parts) (n : ℕ) (row : HandleRow) → IsWhole m → handle_at m.table.handles n ≡ Some row → 0 < row.enables → 0 < slice_index m.counts.enables row.clock.0
enable_held m n row whole live has =
    let own = whole.counted.stands.enables row.clock.0 in
    let some = sum_some (λ h. h.enables) m.table.handles n row live in
    omega arith

pub prepare_held : (m : Parts) (n : ℕ) (row : HandleRow) → IsWhole m → handle_at m.table.handles n ≡ Some row → 0 < row.prepares → 0 < slice_index m.counts.prepares row.clock.0
prepare_held m n row whole live has =
    let own = whole.counted.stands.prepares row.clock.0 in
    let some = sum_some (λ h. h.prepares) m.table.handles n row live in
    omega arith

pub exclusive_held : (m : Parts) (n : ℕ) (row : HandleRow) → IsWhole m → handle_at m.table.handles n ≡ Some row → 0 < row.exclusives → 0 < slice_index m.counts.exclusives row.clock.0
exclusive_held m n row whole live has =
    let own = whole.counted.stands.exclusives row.clock.0 in
    let some = sum_some (λ h. h.exclusives) m.table.handles n row live in
    omega arith

-- what is held of a clock is part of what it has of its own
pub prepare_owned : (m : Parts) (c : ℕ) → IsWhole m → slice_index m.prepare_holds c ≤ slice_index m.counts.prepares c
prepare_owned m c whole =
    let own = whole.counted.stands.prepares c in
    let held = (listed_tells m.prepare_holds).each c in
    omega arith

pub enable_owned : (m : Parts) (c : ℕ) → IsWhole m → slice_index m.enable_holds c ≤ slice_index m.counts.enables c
enable_owned m c whole =
    let own = whole.counted.stands.enables c in
    let held = (listed_tells m.enable_holds).each c in
    omega arith

-- and there is room for what is held of another, while a call is in flight
pub prepare_more : (m : Parts) (c d : ℕ) → IsWhole m → m.flight.going ≡ true → slice_index m.counts.prepares c + slice_index m.prepare_holds d < 8388608
prepare_more m c d whole going =
    let own = whole.counted.stands.prepares c in
    let few = sum_paid m (λ h. h.prepares) c whole (λ h. omega arith) in
    let critical = one_or_none (is_critical m.desc.defs c && registered m.tree.clocks c) in
    let held = (listed_tells m.prepare_holds).each c in
    let one = held_few (registered m.tree.clocks) (length m.desc.defs) m.steps m.prepare_holds c whole.prepares_held in
    let two = held_few (registered m.tree.clocks) (length m.desc.defs) m.steps m.prepare_holds d whole.prepares_held in
    let left = some_left (rows_from 0 m.chains) m.flight (registered m.tree.clocks) going (whole.flown going).way in
    let room = whole.room in
    omega arith

pub enable_more : (m : Parts) (c d : ℕ) → IsWhole m → m.flight.going ≡ true → slice_index m.counts.enables c + slice_index m.enable_holds d < 8388608
enable_more m c d whole going =
    let own = whole.counted.stands.enables c in
    let few = sum_paid m (λ h. h.enables) c whole (λ h. omega arith) in
    let critical = one_or_none (is_critical m.desc.defs c && registered m.tree.clocks c) in
    let held = (listed_tells m.enable_holds).each c in
    let one = held_few (registered m.tree.clocks) (length m.desc.defs) m.steps m.enable_holds c whole.enables_held in
    let two = held_few (registered m.tree.clocks) (length m.desc.defs) m.steps m.enable_holds d whole.enables_held in
    let left = some_left (rows_from 0 m.chains) m.flight (registered m.tree.clocks) going (whole.flown going).way in
    let room = whole.room in
    omega arith

-- a clock of the description has its place among them
pub prepare_place : (m : Parts) (c : ℕ) → IsWhole m → c < length m.desc.defs → c < length m.prepare_holds
prepare_place m c whole within = let size = whole.prepares_held.size in omega arith

pub enable_place : (m : Parts) (c : ℕ) → IsWhole m → c < length m.desc.defs → c < length m.enable_holds
enable_place m c whole within = let size = whole.enables_held.size in omega arith

-- and room for a hold more
pub prepare_hold_room : (m : Parts) (c : ℕ) → IsWhole m → slice_index m.prepare_holds c < 8388608
prepare_hold_room m c whole = let own = prepare_owned m c whole in let room = prepare_room m c whole in omega arith

pub enable_hold_room : (m : Parts) (c : ℕ) → IsWhole m → slice_index m.enable_holds c < 8388608
enable_hold_room m c whole = let own = enable_owned m c whole in let room = enable_room m c whole in omega arith
