-- What holds of each call that changes a rate or a parent, by what it asks for.
use Rattle.std.proofs.Common.{◌≡◌, ◌∙◌, ◌||◌, Bool, true, false, refl, sym, ap}
use Rattle.clk_base.specs.declared.handle.Handle.{Handle}
use Rattle.clk_base.specs.declared.call.Sleeping.{Sleeping}
use Rattle.clk_model.specs.Laws.PlansRead.{asks, plans}
use Rattle.clk_model.specs.Laws.PrepBegins.{is_decided}
use Rattle.core_parts.specs.InFlight.{changes_rate}
use Rattle.clk_machine.specs.ChangeCalls.{call_for, call_of}
use Rattle.clk_machine.specs.Deciding.{handle_of}
use Rattle.clk_machine.specs.declared.change.ChangeCall.{ChangeCall}
use Rattle.clk_machine.specs.declared.change.Wanted.{Wanted}
use Rattle.clk_machine.specs.declared.change.Wanted.TheVariants as wanted

pub changes_for : (h : Handle) (w : Wanted) → changes_rate (call_for h w) ≡ true
changes_for h (wanted.Rate x) = refl
changes_for h (wanted.HeldRate x) = refl
changes_for h (wanted.Range least most) = refl
changes_for h (wanted.Parent p) = refl

pub plans_for : (h : Handle) (w : Wanted) → plans (call_for h w) ≡ true
plans_for h (wanted.Rate x) = refl
plans_for h (wanted.HeldRate x) = refl
plans_for h (wanted.Range least most) = refl
plans_for h (wanted.Parent p) = refl

pub handle_for : (h : Handle) (w : Wanted) → handle_of (call_for h w) ≡ h.number
handle_for h (wanted.Rate x) = refl
handle_for h (wanted.HeldRate x) = refl
handle_for h (wanted.Range least most) = refl
handle_for h (wanted.Parent p) = refl

-- the same of a call with its handle
pub changes_of : (change : ChangeCall) → changes_rate (call_of change) ≡ true
changes_of change = changes_for change.handle change.wanted

pub plans_of : (change : ChangeCall) → plans (call_of change) ≡ true
plans_of change = plans_for change.handle change.wanted

pub on_handle : (change : ChangeCall) → handle_of (call_of change) ≡ change.handle.number
on_handle change = handle_for change.handle change.wanted

-- a call that the prepare tier decides, and that plans nothing, asks
pub asks_left : (what : Sleeping) → plans what ≡ false → is_decided what ≡ true → asks what ≡ true
asks_left what none decided = sym (or_false (asks what)) ∙ sym (ap (λ (b : Bool). asks what || b) none) ∙ decided where
  or_false : (a : Bool) → (a || false) ≡ a
  or_false true = refl
  or_false false = refl
