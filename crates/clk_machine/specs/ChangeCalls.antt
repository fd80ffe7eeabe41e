-- The calls that change a rate or a parent, by what they ask for.
use Rattle.clk_base.specs.declared.call.Sleeping.{Sleeping}
use Rattle.clk_base.specs.declared.call.Sleeping.TheVariants as call
use Rattle.clk_base.specs.declared.handle.Handle.{Handle}
use Rattle.clk_machine.specs.declared.change.ChangeCall.{ChangeCall}
use Rattle.clk_machine.specs.declared.change.Wanted.{Wanted}
use Rattle.clk_machine.specs.declared.change.Wanted.TheVariants as wanted

-- the call on a handle that asks for this
abbrev pub call_for : Handle → Wanted → Sleeping
call_for h (wanted.Rate x) = call.SetRate h x
call_for h (wanted.HeldRate x) = call.SetRateExclusive h x
call_for h (wanted.Range least most) = call.SetRange h least most
call_for h (wanted.Parent p) = call.SetParent h p

-- the call as a driver makes it
abbrev pub call_of : ChangeCall → Sleeping
call_of change = call_for change.handle change.wanted
