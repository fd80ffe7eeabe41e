-- One driver over a fixed clock and a gate.
use Rattle.std.specs.Prelude.{◌≡◌, List, [], ◌∷◌, ◌++◌, false, codes, refl}
use Rattle.clk_base.specs.declared.clock.ClockId.{ClockId}
use Rattle.clk_base.specs.declared.clock.Kind.TheVariants as kinds
use Rattle.clk_base.specs.declared.call.Sleeping.TheVariants as call
use Rattle.clk_base.specs.declared.event.Entry.{Entry}
use Rattle.clk_base.specs.declared.event.Event.TheVariants as event
use Rattle.clk_base.specs.declared.event.Errno.TheVariants as errno
use Rattle.clk_base.specs.declared.event.Reply.TheVariants as reply
use Rattle.clk_base.specs.declared.handle.Handle.{Handle}
use Rattle.clk_base.specs.Description.{Description}
use Rattle.clk_model.specs.State.{State}
use Rattle.clk_model.specs.Chain.{clock_id}
use Rattle.clk_model.specs.Journal.{opening, replay}
use Rattle.clk_model.specs.Examples.Rows.{turns, stated, clock, handle, answers, begins, boot, gets}

-- `fixed osc 24000000`, `gate uart_gate osc 0 3`
abbrev pub uart : Description
uart = clock (codes "osc") (kinds.FixedRate 24000000) [] ∷ clock (codes "uart_gate") (kinds.Gate 0 3 false) (0 ∷ []) ∷ []

abbrev gate : ClockId
gate = clock_id 1

abbrev a : Handle
a = handle 0 1

abbrev pub uart_start : State
uart_start = opening uart (0 ∷ []) false 100

-- the ordinary path: get, prepare, enable, rate
abbrev pub ordinary_path : List Entry
ordinary_path =
    boot 2 ++ gets 1 gate 0
    ∷ begins 1 (call.Prepare a) reply.Fine
    ∷ answers 1 (event.Enable 0) reply.Fine
    ∷ begins 1 (call.GetRate a) (reply.Rate 24000000)
    ∷ []

pub ordinary_path_turns : turns uart_start ordinary_path ≡ stated ordinary_path
unfolding turns
ordinary_path_turns = refl

-- the gate's bit, 3, is set
pub ordinary_path_registers : (replay uart_start ordinary_path).regs ≡ 8 ∷ []
unfolding turns
ordinary_path_registers = refl

-- the handle that is enabled needs a prepare of its own, also where another handle has prepared the clock
abbrev pub own_prepare : List Entry
own_prepare =
    boot 2 ++ gets 1 gate 0
    ∷ answers 1 (event.Enable 0) (reply.Refused errno.ESHUTDOWN)
    ∷ begins 1 (call.Prepare a) reply.Fine
    ∷ answers 1 (event.Enable 0) reply.Fine
    ∷ answers 1 (event.Running 0) reply.Yes
    ∷ gets 1 gate 1
    ∷ answers 1 (event.Enable 1) (reply.Refused errno.ESHUTDOWN)
    ∷ []

pub own_prepare_turns : turns uart_start own_prepare ≡ stated own_prepare
unfolding turns
own_prepare_turns = refl

-- what isn't held can't be let go: such a call warns and changes nothing
abbrev pub balance : List Entry
balance =
    boot 2 ++ gets 1 gate 0
    ∷ begins 1 (call.Prepare a) reply.Fine
    ∷ answers 1 (event.Enable 0) reply.Fine
    ∷ answers 1 (event.Enable 0) reply.Fine
    ∷ answers 1 (event.Disable 0) reply.Fine
    ∷ answers 1 (event.Disable 0) reply.Fine
    ∷ answers 1 (event.Disable 0) reply.Warn
    ∷ answers 1 (event.Enable 0) reply.Fine
    ∷ begins 1 (call.Unprepare a) reply.Warn
    ∷ answers 1 (event.Disable 0) reply.Fine
    ∷ begins 1 (call.Unprepare a) reply.Fine
    ∷ begins 1 (call.Unprepare a) reply.Warn
    ∷ []

pub balance_turns : turns uart_start balance ≡ stated balance
unfolding turns
balance_turns = refl

-- nobody holds the gate in the end, and its bit is clear
pub balance_registers : (replay uart_start balance).regs ≡ 0 ∷ []
unfolding turns
balance_registers = refl
