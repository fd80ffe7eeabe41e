-- From what is done to a state to the event that does it.
use Rattle.std.proofs.Common.{◌≡◌, ℕ, ◌+◌, ◌<◌, ◌&&◌, Bool, true, false, List, Option, refl, sym, ap, ◌∙◌, arith, nat_lt, nat_eq, cond}
use Rattle.std.proofs.lemmas.Bool.Decides.{nat_tests}
use Rattle.clk_base.specs.Description.{Description}
use Rattle.clk_base.specs.declared.event.Event.{Event}
use Rattle.clk_base.specs.declared.event.Reply.{Reply}
use Rattle.clk_base.specs.declared.event.Turn.TheVariants as turn
use Rattle.clk_model.specs.declared.row.HandleRow.{HandleRow}
use Rattle.clk_model.specs.declared.row.ClockRow.{ClockRow}
use Rattle.clk_model.specs.State.{State}
use Rattle.clk_model.specs.Tree.{rooted}
use Rattle.clk_model.specs.Gates.{settled}
use Rattle.clk_model.specs.Begin.{own_handle, keeps_prepare}
use Rattle.clk_model.specs.Machine.{paid, next}
use Rattle.clk_model.specs.Journal.{slotless, is_paid}
use Rattle.clk_model.proofs.StateLaws.{paid-left}
use Rattle.clk_model.proofs.Members.{not_either}
use Rattle.std.specs.Prelude.{if◌then◌else◌}
use Rattle.clk_model.specs.Tier.{is_enable_tier}
use Rattle.clk_flight.specs.Flights.{FlightState}
use Rattle.clk_machine.specs.Parts.{Parts, own_in}
use Rattle.clk_machine.specs.Sound.{IsSound}
use Rattle.clk_machine.specs.Stands.{Stands, Becomes, Enters, joins}

-- a driver's own handle in the state
pub own_stands : (m : Parts) (s : State) (d n : ℕ) (o : Option HandleRow) → Stands m s → own_in m.table.handles d n ≡ o → own_handle s d n ≡ o
own_stands m s d n o stands own = ap (λ (hs : List (Option HandleRow)). own_in hs d n) stands.handles ∙ own

-- what an event comes to, in each sound state that the parts stand for
abbrev pub Comes : Parts → ℕ → Event → Reply → (State → State) → Type 0
Comes old d event r does = (s : State) → Stands old s → IsSound old.window.size s → next s d event ≡ paid s (does s, slotless (turn.Done r))

-- the call in flight is whose it was, where an event leaves it
same_driver : (f : FlightState) (d : ℕ) (t : Bool) → f.going ≡ (if t then f.going else false) → f.going ≡ true → f.driver ≡ (if t then f.driver else d)
same_driver f d true leaves still = refl
same_driver f d false leaves still = absurd cc

-- an event that comes to what is done to the state takes the parts on
pub enters : (old new : Parts) (d : ℕ) (event : Event) (r : Reply) (does : State → State) → is_paid event ≡ true → old.flight.going ≡ (if is_enable_tier event then old.flight.going else false) → old.spent < old.credits
    → Becomes old (joins event (turn.Done r)) does new → Comes old d event r does → Enters old d event (turn.Done r) new
enters old new d event r does pays going left becomes comes = record {
  remains = becomes.remains;
  pays = becomes.spent ∙ sym (ap (λ (b : Bool). old.spent + cond b 1 0) pays);
  rows = becomes.rows;
  going = ap (λ (f : FlightState). f.going) becomes.flight ∙ going;
  driver_ = λ still.
      ap (λ (f : FlightState). f.driver) becomes.flight ∙ same_driver old.flight d (is_enable_tier event) going (sym (ap (λ (f : FlightState). f.going) becomes.flight) ∙ still);
  fewer = λ free. let no : true ≡ false = sym pays ∙ free in absurd cc;
  begun = λ paid goes. absurd cc;
  no_more = λ paid done. let same = becomes.left in omega arith;
  locks = λ still. becomes.locks;
  beside = λ tier. becomes.flight;
  step = λ s stands sound.
      let spends : s.spent < s.credits = let one = stands.spent in let two = stands.credits in omega arith in
      record {
        to = record (settled s (does s)) { spent = s.spent + 1 };
        next_ = comes s stands sound ∙ paid-left s (does s) (slotless (turn.Done r)) spends;
        stands = becomes.stands s stands sound;
      };
}

-- a clock is rooted in the state where it is so in the tree
pub rooted_stands : (m : Parts) (s : State) (c : ℕ) → Stands m s → rooted s.defs s.clocks c ≡ rooted m.desc.defs m.tree.clocks c
rooted_stands m s c stands =
    ap (λ (d : Description). rooted d s.clocks c) stands.defs ∙ ap (λ (rs : List ClockRow). rooted m.desc.defs rs c) stands.clocks

-- a handle that can give up a prepare has one
pub frees_some : (row : HandleRow) → keeps_prepare row ≡ false → 0 < row.prepares
frees_some row free =
    let some : nat_eq row.prepares 0 ≡ false = (not_either (nat_eq row.prepares 0) (nat_eq row.prepares 1 && nat_lt 0 row.enables) free).0 in
    grind (arith, nat_tests)
