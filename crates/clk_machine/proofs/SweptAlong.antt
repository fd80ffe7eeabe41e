-- That parts go along with the steps of a sweep.
use Rattle.std.proofs.Common.{◌≡◌, ℕ, ◌<◌, Bool, true, false, List, Option, Some, None, refl, sym, ap, subst, ◌∙◌, arith, length, nat_lt}
use Rattle.std.specs.Prelude.{IfSome, option_map, slice_get}
use Rattle.std.specs.Option.{option_map_or}
use Rattle.std.proofs.lemmas.Bool.Decides.{nat_tests}
use Rattle.clk_base.specs.declared.call.Micro.{Micro}
use Rattle.clk_base.specs.declared.call.Micro.TheVariants as micro
use Rattle.clk_base.specs.declared.clock.ClockId.{ClockId}
use Rattle.clk_base.specs.Description.{Description, kind_of}
use Rattle.clk_base.specs.Fields.{PowerBit, bit_field, power_of}
use Rattle.clk_base.proofs.Valid.{power-field}
use Rattle.clk_model.specs.Kinds.{with_power}
use Rattle.clk_model.specs.declared.row.ClockRow.{ClockRow}
use Rattle.clk_model.specs.State.{State, registered}
use Rattle.clk_model.specs.Step.{is_end, powered, to_lower}
use Rattle.clk_model.specs.Tree.{path}
use Rattle.clk_model.proofs.ApartLaws.{fielded_lt}
use Rattle.clk_flight.specs.Flights.{FlightState}
use Rattle.core_parts.proofs.Powering.{power_put, powered_words}
use Rattle.core_parts.specs.declared.plls.Sought.{Sought}
use Rattle.core_parts.specs.Listed.{rows_from}
use Rattle.core_parts.specs.Plls.{lowerable, Finds}
use Rattle.core_parts.specs.Tied.{AreTied}
use Rattle.core_parts.specs.Window.{Shown}
use Rattle.clk_machine.specs.Along.{SweepsAlong}
use Rattle.clk_machine.specs.Parts.{Parts, IsWhole}
use Rattle.clk_machine.specs.Stands.{Stands}
use Rattle.clk_machine.proofs.Flying.{none_left}
use Rattle.clk_machine.proofs.Making.{to_lower_stands}

-- ---- a change that is no more

pub whole_halted : (old : Parts) (flight' : FlightState) → IsWhole old → flight'.going ≡ false → IsWhole (record old { flight = flight' })
whole_halted old flight' whole quiet = record {
  tied = whole.tied;
  paid = whole.paid;
  counted = record { keeps = whole.counted.keeps; stands = whole.counted.stands };
  clocks = whole.clocks;
  handled = whole.handled;
  notified = whole.notified;
  listed = whole.listed;
  flown = λ still. let so : true ≡ false = sym still ∙ quiet in absurd cc;
  room = let room = whole.room in let none = none_left (rows_from 0 old.chains) flight' quiet in omega arith;
  prepares_held = whole.prepares_held;
  enables_held = whole.enables_held;
}

pub stands_halted : (old : Parts) (flight' : FlightState) → flight'.going ≡ false → (s : State) → Stands old s → Stands (record old { flight = flight' }) (record s { change = None })
stands_halted old flight' quiet s stands = record {
  defs = stands.defs;
  regs = stands.regs;
  clocks = stands.clocks;
  order = stands.order;
  handles = stands.handles;
  notifiers = stands.notifiers;
  prepare_holds = stands.prepare_holds;
  enable_holds = stands.enable_holds;
  change = quiet;
  along = tt;
  credits = stands.credits;
  spent = stands.spent;
  steps = stands.steps;
  ignore_unused = stands.ignore_unused;
}

-- ---- a PLL that gets its power or loses it

pub whole_tied : (old : Parts) (window' : Shown) → IsWhole old → AreTied old.desc window' old.tree → IsWhole (record old { window = window' })
whole_tied old window' whole tied = record {
  tied = tied;
  paid = whole.paid;
  counted = record { keeps = whole.counted.keeps; stands = whole.counted.stands };
  clocks = whole.clocks;
  handled = whole.handled;
  notified = whole.notified;
  listed = whole.listed;
  flown = λ going. let flown = whole.flown going in record { plls_ = flown.plls_; way = flown.way; own = flown.own; paid = flown.paid; tells = flown.tells; links = flown.links; placed = flown.placed };
  room = whole.room;
  prepares_held = whole.prepares_held;
  enables_held = whole.enables_held;
}

pub stands_powered : (old : Parts) (c : ℕ) (on : Bool) (window' : Shown) → window'.words ≡ option_map (power_put old.desc.defs c on) old.window.words → (s : State) → Stands old s
    → Stands (record old { window = window' }) (powered s c on)
stands_powered old c on window' words s stands = record {
  defs = stands.defs;
  regs = powered_words old.desc.defs c on old.window.words window'.words s stands.defs stands.regs words;
  clocks = stands.clocks;
  order = stands.order;
  handles = stands.handles;
  notifiers = stands.notifiers;
  prepare_holds = stands.prepare_holds;
  enable_holds = stands.enable_holds;
  change = stands.change;
  along = stands.along;
  credits = stands.credits;
  spent = stands.spent;
  steps = stands.steps;
  ignore_unused = stands.ignore_unused;
}

-- a clock that the description doesn't have has none
pub stands_past : (old : Parts) (c : ℕ) (on : Bool) → nat_lt c (length old.desc.defs) ≡ false → (s : State) → Stands old s → Stands old (powered s c on)
stands_past old c on past s stands = subst (λ (u : State). Stands old u) (by (power_of (kind_of s.defs c)) refl) stands where
  by : (o : Option PowerBit) → power_of (kind_of s.defs c) ≡ o → s ≡ powered s c on
  by None at = ap (λ (o : Option PowerBit). let u : State = record s { regs = option_map_or (λ power. with_power s.regs power on) o s.regs } in u) (sym at)
  by (Some p) at =
      let less = fielded_lt s.defs c 1 (bit_field p.word p.bit) (power-field (kind_of s.defs c) p at) in
      let long = ap (λ (ds : Description). length ds) stands.defs in
      absurd (let no : c < length old.desc.defs = omega arith in grind (arith, nat_tests))

-- ---- the steps

-- what was found is the first PLL that a lower switches off
found_first : (p : Parts) (x : ClockId) (found : Sought) → IsWhole p → IfSome p.window.words (λ regs. Finds found (lowerable p.desc.defs p.counts regs (path p.tree.clocks x.0))) → (s : State) → Stands p s
    → slice_get (to_lower s x.0) 0 ≡ option_map (λ c. c.0) found.pll
found_first p x found whole is s stands =
    let told : Finds found (lowerable p.desc.defs p.counts s.regs (path p.tree.clocks x.0)) =
    subst (λ (o : Option (List ℕ)). IfSome o (λ regs. Finds found (lowerable p.desc.defs p.counts regs (path p.tree.clocks x.0)))) stands.regs is in
    ap (λ (ys : List ℕ). slice_get ys 0) (to_lower_stands p s x.0 whole stands) ∙ sym told.first

-- it loses its power
pub lowered_one : (old new : Parts) (x pll : ClockId) (found : Sought) → IsWhole old → IfSome old.window.words (λ regs. Finds found (lowerable old.desc.defs old.counts regs (path old.tree.clocks x.0)))
    → found.pll ≡ Some pll → ((s : State) → Stands old s → Stands new (powered s pll.0 false)) → SweepsAlong old (micro.Lower x) new
lowered_one old new x pll found whole is one stands s stands_ there =
    subst (λ (o : Option ℕ). Stands new (option_map_or (λ y. powered s y false) o s))
    (sym (found_first old x found whole is s stands_ ∙ ap (λ (o : Option ClockId). option_map (λ c. c.0) o) one)) (stands s stands_)

-- if there is none, all stays as it is
pub lowered_none : (old : Parts) (x : ClockId) (found : Sought) → IsWhole old → IfSome old.window.words (λ regs. Finds found (lowerable old.desc.defs old.counts regs (path old.tree.clocks x.0)))
    → found.pll ≡ None → SweepsAlong old (micro.Lower x) old
lowered_none old x found whole is none s stands there =
    subst (λ (o : Option ℕ). Stands old (option_map_or (λ y. powered s y false) o s))
    (sym (found_first old x found whole is s stands ∙ ap (λ (o : Option ClockId). option_map (λ c. c.0) o) none)) stands

-- a clock that isn't registered has no lower in a sweep
pub lowered_never : (old : Parts) (x : ClockId) → registered old.tree.clocks x.0 ≡ false → SweepsAlong old (micro.Lower x) old
lowered_never old x never s stands there =
    let no : true ≡ false = sym there ∙ ap (λ (rows : List ClockRow). registered rows x.0) stands.clocks ∙ never in
    absurd cc

-- any other step but a poll, a fall and one that switches a PLL off changes nothing
pub others_stay : (old : Parts) (m : Micro) → ((y : ClockId) → m ≡ micro.Poll y → ⊥) → ((y : ClockId) → m ≡ micro.Fall y → ⊥) → ((x : ClockId) → m ≡ micro.Lower x → ⊥) → ((c : ClockId) → m ≡ micro.Unpower c → ⊥)
    → SweepsAlong old m old
others_stay old (micro.Poll y) polls falls lowers unpowers = absurd (polls y refl)
others_stay old (micro.Fall y) polls falls lowers unpowers = absurd (falls y refl)
others_stay old (micro.Lower x) polls falls lowers unpowers = absurd (lowers x refl)
others_stay old (micro.Unpower c) polls falls lowers unpowers = absurd (unpowers c refl)
others_stay old m polls falls lowers unpowers = λ s stands there. stands

-- a step that isn't the end is told apart from it
pub not_last : (m : Micro) → (m ≡ micro.End → ⊥) → is_end m ≡ false
not_last micro.End other = absurd (other refl)
not_last m other = refl
