-- A change in flight beside what else a core keeps.
use Rattle.std.proofs.Common.{◌≡◌, ℕ, ◌+◌, ◌≤◌, Bool, true, false, cond, List, Option, Some, None, refl, sym, ap, subst, ◌∙◌, arith, set, nat_eq}
use Rattle.std.specs.Prelude.{is_some, IfSome}
use Rattle.std.specs.Option.{option_map_or}
use Rattle.clk_base.specs.declared.call.Sleeping.{Sleeping}
use Rattle.clk_base.specs.declared.handle.Handle.{Handle}
use Rattle.clk_base.specs.Description.{Description}
use Rattle.clk_model.specs.declared.row.ClockRow.{ClockRow}
use Rattle.clk_model.specs.declared.row.HandleRow.{HandleRow}
use Rattle.clk_model.specs.State.{State, Change, NotifierRow, handle_at}
use Rattle.clk_model.proofs.Members.{same_from_test, test_other}
use Rattle.clk_model.proofs.StateLaws.{handle_at-set_same}
use Rattle.clk_model.proofs.OffPathLaws.{handle_at-set_other}
use Rattle.clk_flight.specs.Flights.{FlightState, Flies}
use Rattle.clk_flight.specs.LeftOver.{left_over}
use Rattle.notifiers.specs.declared.notifier.Notifier.{Notifier}
use Rattle.change_walk.specs.declared.changes.Changed.{Changed}
use Rattle.core_parts.specs.InFlight.{handle_to_end}
use Rattle.clk_machine.specs.Parts.{Parts, held_in_all, own_in, IsOwnCall, IsFlown}
use Rattle.clk_machine.specs.Stands.{Stands}
use Rattle.core_parts.proofs.Shapes.{sum_by-set}

-- ---- no change in flight

quiet_change : (ns : List NotifierRow) (f : FlightState) (o : Option Change) → Flies ns f o → f.going ≡ false → o ≡ None
quiet_change ns f None flies quiet = refl
quiet_change ns f (Some k) flies quiet = let no : true ≡ false = sym flies.going ∙ quiet in absurd cc

-- where none is in flight the state has none
pub quiet_stands : (m : Parts) (s : State) → Stands m s → m.flight.going ≡ false → s.change ≡ None
quiet_stands m s stands quiet = quiet_change s.notifiers m.flight s.change stands.change quiet

-- whatever the notifiers then
pub flies_quiet : (ns ms : List NotifierRow) (f : FlightState) (o : Option Change) → Flies ns f o → f.going ≡ false → Flies ms f o
flies_quiet ns ms f None flies quiet = flies
flies_quiet ns ms f (Some k) flies quiet = let no : true ≡ false = sym flies.going ∙ quiet in absurd cc

-- and nothing is left to come
pub none_left : (rows : List NotifierRow) (f : FlightState) → f.going ≡ false → left_over rows f ≡ 0
none_left rows f quiet = left_if f.going _ quiet where
  left_if : (t : Bool) (n : ℕ) → t ≡ false → cond t n 0 ≡ 0
  left_if true n e = absurd cc
  left_if false n e = refl

pub never_flown : {X : Type 0} (f : FlightState) → f.going ≡ false → f.going ≡ true → X
never_flown f quiet going = let no : true ≡ false = sym going ∙ quiet in absurd cc

-- ---- a change in flight

-- a driver's own handle stays one where it, or another, is written
own_written : (handles : List (Option HandleRow)) (n : ℕ) (row new : HandleRow) (d k : ℕ) → handle_at handles n ≡ Some row → new.driver ≡ row.driver
    → is_some (own_in handles d k) ≡ true → is_some (own_in (set handles n (Some new)) d k) ≡ true
own_written handles n row new d k at same own = by (nat_eq n k) refl where
  by : (t : Bool) → nat_eq n k ≡ t → is_some (own_in (set handles n (Some new)) d k) ≡ true
  by true e =
      let here = same_from_test n k e in
      let one : handle_at (set handles n (Some new)) k ≡ Some new = ap (λ (j : ℕ). handle_at (set handles n (Some new)) j) (sym here) ∙ handle_at-set_same handles n row new at in
      let was : handle_at handles k ≡ Some row = ap (λ (j : ℕ). handle_at handles j) (sym here) ∙ at in
      ap (λ (o : Option HandleRow). is_some (option_map_or (λ h. cond (nat_eq h.driver d) (Some h) None) o None)) one
      ∙ either (nat_eq new.driver d) (nat_eq row.driver d) (ap (λ (j : ℕ). nat_eq j d) same)
      ∙ sym (ap (λ (o : Option HandleRow). is_some (option_map_or (λ h. cond (nat_eq h.driver d) (Some h) None) o None)) was) ∙ own where
        either : (a b : Bool) → a ≡ b → is_some (cond a (Some new) None) ≡ is_some (cond b (Some row) None)
        either true true e = refl
        either false false e = refl
        either true false e = absurd cc
        either false true e = absurd cc
  by false e =
      ap (λ (o : Option HandleRow). is_some (option_map_or (λ h. cond (nat_eq h.driver d) (Some h) None) o None)) (handle_at-set_other handles n k (Some new) (test_other n k e)) ∙ own

pub own_call : (handles : List (Option HandleRow)) (n : ℕ) (row new : HandleRow) (d : ℕ) (what : Sleeping) → handle_at handles n ≡ Some row → new.driver ≡ row.driver
    → IsOwnCall handles d what → IsOwnCall (set handles n (Some new)) d what
own_call handles n row new d what at same own = by (handle_to_end what) own where
  by : (o : Option Handle) → IfSome o (λ h. is_some (own_in handles d h.number) ≡ true) → IfSome o (λ h. is_some (own_in (set handles n (Some new)) d h.number) ≡ true)
  by None was = tt
  by (Some h) was = own_written handles n row new d h.number at same was

-- a change in flight is kept where a handle is written and a credit spent for it
pub flown_written : (defs : Description) (clocks : List ClockRow) (handles handles' : List (Option HandleRow)) (chains : List (List Notifier)) (notified : List Changed) (spent n : ℕ) (row new : HandleRow) (f : FlightState)
    → IsFlown defs clocks handles chains notified spent f → handle_at handles n ≡ Some row → new.driver ≡ row.driver → held_in_all new ≤ held_in_all row + 1
    → handles' ≡ set handles n (Some new) → IsFlown defs clocks handles' chains notified (spent + 1) f
flown_written defs clocks handles handles' chains notified spent n row new f flown at same more is =
    subst (λ (hs : List (Option HandleRow)). IsFlown defs clocks hs chains notified (spent + 1) f) (sym is) (record {
      plls_ = flown.plls_;
      way = flown.way;
      own = own_call handles n row new f.driver f.call at same flown.own;
      paid = let few = flown.paid in let sums = sum_by-set held_in_all handles n row new at in omega arith;
      tells = flown.tells;
      links = flown.links;
      placed = flown.placed;
    })

-- and where a credit alone is spent
pub flown_spent : (defs : Description) (clocks : List ClockRow) (handles : List (Option HandleRow)) (chains : List (List Notifier)) (notified : List Changed) (spent : ℕ) (f : FlightState)
    → IsFlown defs clocks handles chains notified spent f → IsFlown defs clocks handles chains notified (spent + 1) f
flown_spent defs clocks handles chains notified spent f flown = record {
  plls_ = flown.plls_;
  way = flown.way;
  own = flown.own;
  paid = let few = flown.paid in omega arith;
  tells = flown.tells;
  links = flown.links;
  placed = flown.placed;
}
