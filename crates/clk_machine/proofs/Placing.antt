-- A place for a handle, in the parts of a core, and what goes along with the get that fills it.
use Rattle.std.proofs.Common.{◌≡◌, ℕ, ◌≤◌, ◌⊎◌, inl, inr, true, false, Option, Some, refl, sym, ◌∙◌, arith}
use Rattle.clk_base.specs.declared.call.Sleeping.TheVariants as call
use Rattle.clk_base.specs.declared.clock.ClockId.{ClockId}
use Rattle.clk_base.specs.declared.event.Event.TheVariants as event
use Rattle.clk_base.specs.declared.event.Reply.TheVariants as reply
use Rattle.clk_base.specs.declared.event.Turn.TheVariants as turn
use Rattle.clk_base.specs.declared.handle.Handle.{Handle}
use Rattle.clk_model.specs.Begin.{begun}
use Rattle.clk_model.specs.Journal.{slotless}
use Rattle.clk_model.specs.State.{State}
use Rattle.clk_model.specs.Tree.{rooted}
use Rattle.clk_model.proofs.FlightLaws.{begin_is}
use Rattle.clk_model.proofs.ShapeLaws.{begun_paid}
use Rattle.clk_model.proofs.TierLaws.{pick_either}
use Rattle.clk_machine.specs.Along.{GoesAlong}
use Rattle.clk_machine.specs.Holding.{gives}
use Rattle.clk_machine.specs.Parts.{Parts, IsWhole}
use Rattle.clk_machine.specs.Places.{placed}
use Rattle.clk_machine.specs.Stands.{Stands, Becomes, nothing}
use Rattle.clk_machine.proofs.Along.{along_becomes}
use Rattle.clk_machine.proofs.Entered.{rooted_stands}

-- ---- nothing that is kept of the parts reads the place

-- they stay whole
pub whole_placed : (m : Parts) (place : Option ℕ) → IsWhole m → IsWhole (placed m place)
whole_placed m place whole = record {
  tied = whole.tied;
  paid = whole.paid;
  counted = record { keeps = whole.counted.keeps; stands = whole.counted.stands };
  clocks = whole.clocks;
  handled = whole.handled;
  notified = whole.notified;
  listed = whole.listed;
  flown = whole.flown;
  room = whole.room;
  prepares_held = whole.prepares_held;
  enables_held = whole.enables_held;
}

-- they stand for the states that they stood for
pub stands_placed : (m : Parts) (s : State) (place : Option ℕ) → Stands m s → Stands (placed m place) s
stands_placed m s place stands = record {
  defs = stands.defs;
  regs = stands.regs;
  clocks = stands.clocks;
  order = stands.order;
  handles = stands.handles;
  notifiers = stands.notifiers;
  prepare_holds = stands.prepare_holds;
  enable_holds = stands.enable_holds;
  change = stands.change;
  along = stands.along;
  credits = stands.credits;
  spent = stands.spent;
  steps = stands.steps;
  ignore_unused = stands.ignore_unused;
}

-- and for no others
pub stood_placed : (m : Parts) (s : State) (place : Option ℕ) → Stands (placed m place) s → Stands m s
stood_placed m s place stands = stands_placed (placed m place) s m.table.place stands

-- ---- a get

-- a state in which a handle was given has its clock rooted, and gives the handle
record HasGiven (s : State) (d : ℕ) (c : ClockId) (y : State) : Type 0 where
  there : rooted s.defs s.clocks c.0 ≡ true
  is : y ≡ gives d c.0 s

get_does : (s : State) (d : ℕ) (c : ClockId) (h : Handle) → (begun s d (call.Get (Some c))).1 ≡ slotless (turn.Done (reply.Handle h)) → HasGiven s d c (begun s d (call.Get (Some c))).0
unfolding begun
get_does s d c h =
    pick_either (λ y. y.1 ≡ slotless (turn.Done (reply.Handle h)) → HasGiven s d c y.0) _ _ _ (λ there e. record { there = there; is = refl }) (λ away e. absurd cc)

-- a handle is given
pub along_get : (old new : Parts) (d : ℕ) (c : ClockId) (h : Handle) → Becomes old nothing (gives d c.0) new → GoesAlong old d (event.Begin (call.Get (Some c))) (turn.Done (reply.Handle h)) new
along_get old new d c h becomes = along_becomes old new nothing (gives d c.0) d (call.Get (Some c)) (reply.Handle h) becomes (λ s stands e. (get_does s d c h e).is)

-- nothing is to be done where the clock isn't rooted, or no credit is left: no state gives a handle then
pub along_no_get : (old : Parts) (d : ℕ) (c : ClockId) (h : Handle) → (rooted old.desc.defs old.tree.clocks c.0 ≡ false) ⊎ (old.credits ≤ old.spent) → GoesAlong old d (event.Begin (call.Get (Some c))) (turn.Done (reply.Handle h)) old
along_no_get old d c h none s t stands sound step = absurd (by none) where
  by : (rooted old.desc.defs old.tree.clocks c.0 ≡ false) ⊎ (old.credits ≤ old.spent) → ⊥
  by (inl away) =
      let there = (get_does s d c h (begin_is s t d (call.Get (Some c)) (slotless (turn.Done (reply.Handle h))) step).2).there in
      let no : true ≡ false = sym there ∙ rooted_stands old s c.0 stands ∙ away in
      cc
  by (inr poor) =
      let left = (begun_paid s t d (call.Get (Some c)) (slotless (turn.Done (reply.Handle h))) step).0.left in
      let credits = stands.credits in
      let spent = stands.spent in
      omega arith
