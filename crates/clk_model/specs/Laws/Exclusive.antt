-- That the rate of a clock stays while a handle has an exclusive hold on it: the law of exclusive rates.
use Rattle.std.specs.Prelude.{◌≡◌, ℕ, ◌==◌, List, ◌++◌, Bool, true, false, None, length, take}
use Rattle.std.specs.List.{list_any}
use Rattle.std.specs.Option.{option_map_or}
use Rattle.clk_base.specs.declared.call.Sleeping.TheVariants as call
use Rattle.clk_base.specs.declared.event.Entry.{Entry}
use Rattle.clk_base.specs.declared.event.Event.{Event}
use Rattle.clk_base.specs.declared.event.Event.TheVariants as event
use Rattle.clk_base.specs.Description.{Description}
use Rattle.clk_base.specs.Valid.{IsValid}
use Rattle.reg_bank.specs.Registers.{Registers}
use Rattle.clk_model.specs.State.{State, handle_at}
use Rattle.clk_model.specs.Rate.{rate}
use Rattle.clk_model.specs.Holders.{is_exclusive}
use Rattle.clk_model.specs.Journal.{replay, opening}

-- whether the handle of this number is live and has an exclusive hold
abbrev pub holds_exclusively : State → ℕ → Bool
holds_exclusively s number = option_map_or is_exclusive (handle_at s.handles number) false

-- the rate of the clock of the handle of this number, 0 where there is none
abbrev pub rate_of_handle : State → ℕ → ℕ
rate_of_handle s number = option_map_or (λ h. rate s.defs s.regs s.clocks h.clock.0) (handle_at s.handles number) 0

-- whether an event begins a call that sets one exclusive hold of this handle aside: a request for a rate, a range or a parent on it
abbrev pub lifts : ℕ → Event → Bool
lifts number (event.Begin (call.SetRate h x)) = h.number == number
lifts number (event.Begin (call.SetRange h least most)) = h.number == number
lifts number (event.Begin (call.SetParent h p)) = h.number == number
lifts number _ = false

-- from a moment on at which no call is in flight, while a handle has an exclusive hold behind each entry and no entry begins a call that
-- sets it aside, the rate of the handle's clock stays; also in the middle of calls of others
abbrev pub RatesStayExclusive : Type 0
RatesStayExclusive = (defs : Description) (regs : Registers) (ignore_unused : Bool) (credits : ℕ) (front since : List Entry) (number : ℕ) → IsValid (length regs) defs
    → (replay (opening defs regs ignore_unused credits) front).change ≡ None
    → ((entries : ℕ) → holds_exclusively (replay (opening defs regs ignore_unused credits) (front ++ take entries since)) number ≡ true)
    → list_any (λ e. lifts number e.event) since ≡ false
    → rate_of_handle (replay (opening defs regs ignore_unused credits) (front ++ since)) number ≡ rate_of_handle (replay (opening defs regs ignore_unused credits) front) number
