-- Which calls need memory: a prepare and an unprepare only if they go on.
use Rattle.std.proofs.Common.{◌≡◌, ℕ, ◌+◌, ◌*◌, ◌<◌, ◌≤◌, true, false, Some, Result, Ok, Err, refl, ap, arith}
use Rattle.std.specs.Prelude.{is_none, slice_get}
use Rattle.std.specs.List.{list_any}
use Rattle.std.specs.Result.{OnErr}
use Rattle.clk_base.specs.declared.call.Sleeping.{Sleeping}
use Rattle.clk_base.specs.declared.call.Sleeping.TheVariants as call
use Rattle.clk_base.specs.declared.event.Turn.TheVariants as turn
use Rattle.clk_base.specs.declared.handle.Handle.{Handle}
use Rattle.clk_model.specs.declared.row.HandleRow.{HandleRow}
use Rattle.clk_model.specs.Begin.{begun, keeps_prepare, most_credits, own_handle}
use Rattle.clk_model.specs.Laws.PlansRead.{plans}
use Rattle.clk_model.specs.Script.{plls}
use Rattle.clk_model.specs.State.{State}
use Rattle.clk_model.specs.Tree.{path}
use Rattle.clk_model.proofs.FlightLaws.{begin_is}
use Rattle.core_parts.specs.Plls.{is_loose}
use Rattle.clk_machine.specs.Memory.{NeedsMemory}
use Rattle.clk_machine.specs.Parts.{Parts, IsWhole}
use Rattle.clk_machine.specs.Stands.{Stands}
use Rattle.clk_machine.proofs.Flying.{quiet_stands}
use Rattle.clk_machine.proofs.Lowering.{freed, unprepare_going}
use Rattle.clk_machine.proofs.Starting.{prepare_going, unprepared_told}

-- a prepare that has PLLs to raise, and room for its steps, goes on
pub prepare_needs : (m : Parts) (d : ℕ) (h : Handle) (row : HandleRow) → IsWhole m → m.flight.going ≡ false → m.spent < m.credits
    → ((s : State) → Stands m s → own_handle s d h.number ≡ Some row) → true ≡ list_any (is_loose m.desc.defs m.counts) (path m.tree.clocks row.clock.0)
    → m.credits + m.steps + (34 * plls m.desc.defs + 2) ≤ most_credits → (s : State) → Stands m s → (begun s d (call.Prepare h)).1 ≡ turn.Going
prepare_needs m d h row whole quiet left own some room s stands =
    let spends : s.spent < s.credits = let one = stands.spent in let two = stands.credits in omega arith in
    let most : plls s.defs ≡ plls m.desc.defs = ap plls stands.defs in
    let fits : s.credits + s.steps + (34 * plls s.defs + 2) ≤ most_credits = let one = stands.credits in let two = stands.steps in omega arith in
    (begin_is s _ d (call.Prepare h) turn.Going
    (prepare_going s d h row (quiet_stands m s stands quiet) (own s stands) (unprepared_told m s row.clock.0 true whole stands some) spends fits)).2

-- so does an unprepare that has PLLs to lower
pub unprepare_needs : (m : Parts) (d : ℕ) (h : Handle) (row : HandleRow) → m.flight.going ≡ false → m.spent < m.credits
    → ((s : State) → Stands m s → own_handle s d h.number ≡ Some row) → keeps_prepare row ≡ false → ((s : State) → Stands m s → is_none (slice_get (freed s h.number row) 0) ≡ false)
    → m.credits + m.steps + (plls m.desc.defs + 2) ≤ most_credits → (s : State) → Stands m s → (begun s d (call.Unprepare h)).1 ≡ turn.Going
unprepare_needs m d h row quiet left own frees some room s stands =
    let spends : s.spent < s.credits = let one = stands.spent in let two = stands.credits in omega arith in
    let most : plls s.defs ≡ plls m.desc.defs = ap plls stands.defs in
    let fits : s.credits + s.steps + (plls s.defs + 2) ≤ most_credits = let one = stands.credits in let two = stands.steps in omega arith in
    (begin_is s _ d (call.Unprepare h) turn.Going
    (unprepare_going s d h row (quiet_stands m s stands quiet) (own s stands) frees (some s stands) spends fits)).2

-- the calls that plan need memory
pub plan_needs : (s : State) (d : ℕ) (what : Sleeping) → plans what ≡ true → NeedsMemory s d what
plan_needs s d (call.SetRate h x) e = refl
plan_needs s d (call.SetRateExclusive h x) e = refl
plan_needs s d (call.SetRange h least most) e = refl
plan_needs s d (call.SetParent h p) e = refl
plan_needs s d _ e = absurd cc

-- what holds anyway holds after an error
pub after_any : {T E P : Type 0} (r : Result T E) → P → OnErr r P
after_any (Ok x) p = tt
after_any (Err e) p = p
