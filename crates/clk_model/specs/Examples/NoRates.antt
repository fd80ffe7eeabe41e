-- Requests to a parent that gives no rate for them.
use Rattle.std.specs.Prelude.{◌≡◌, List, [], ◌∷◌, ◌++◌, false, codes, refl}
use Rattle.clk_base.specs.declared.clock.ClockId.{ClockId}
use Rattle.clk_base.specs.declared.clock.Kind.TheVariants as kinds
use Rattle.clk_base.specs.declared.call.Micro.TheVariants as micro
use Rattle.clk_base.specs.declared.call.Sleeping.TheVariants as call
use Rattle.clk_base.specs.declared.event.Entry.{Entry}
use Rattle.clk_base.specs.declared.event.Errno.TheVariants as errno
use Rattle.clk_base.specs.declared.event.Reply.TheVariants as reply
use Rattle.clk_base.specs.declared.handle.Handle.{Handle}
use Rattle.clk_base.specs.Description.{Description}
use Rattle.clk_model.specs.State.{State}
use Rattle.clk_model.specs.Chain.{clock_id}
use Rattle.clk_model.specs.Journal.{opening, replay}
use Rattle.clk_model.specs.Examples.Rows.{turns, stated, clock, flagged, set_rate_parent, handle, begins, goes_on, step, ends, boot, gets}

-- `fixed ref 100`, `mux m 0 0 1 1 ref`, `gate g m 0 1 set-rate-parent`, `factor f m 1 2 set-rate-parent`,
-- `divider d m 0 4 2 set-rate-parent`, `fixed e 30`, `mux n 0 8 1 2 m e set-rate-parent`
abbrev above_hundred : Description
above_hundred =
    clock (codes "ref") (kinds.FixedRate 100) [] ∷ clock (codes "m") (kinds.Mux 0 0 1 false) (0 ∷ [])
    ∷ flagged set_rate_parent (codes "g") (kinds.Gate 0 1 false) (1 ∷ [])
    ∷ flagged set_rate_parent (codes "f") (kinds.Factor 1 2) (1 ∷ [])
    ∷ flagged set_rate_parent (codes "d") (kinds.Divider 0 4 2 false false) (1 ∷ [])
    ∷ clock (codes "e") (kinds.FixedRate 30) []
    ∷ flagged set_rate_parent (codes "n") (kinds.Mux 0 8 1 false) (1 ∷ 5 ∷ []) ∷ []

abbrev start : State
start = opening above_hundred (0 ∷ []) false 100

abbrev g : Handle
g = handle 0 1

abbrev f : Handle
f = handle 1 1

abbrev d : Handle
d = handle 2 1

abbrev n : Handle
n = handle 3 1

abbrev divider : ClockId
divider = clock_id 4

abbrev mux : ClockId
mux = clock_id 6

-- the mux m gives no rate below 100. So a gate and a factor have none for what would be below it
abbrev passed_up : List Entry
passed_up =
    boot 7 ++ gets 1 (clock_id 2) 0 ∷ gets 1 (clock_id 3) 1
    ∷ begins 1 (call.RoundRate g 60) (reply.Refused errno.EINVAL)
    ∷ begins 1 (call.SetRate g 60) (reply.Refused errno.EINVAL)
    ∷ begins 1 (call.RoundRate f 30) (reply.Refused errno.EINVAL)
    ∷ begins 1 (call.SetRate f 30) (reply.Refused errno.EINVAL)
    ∷ []

pub passed_up_turns : turns start passed_up ≡ stated passed_up
unfolding turns
passed_up_turns = refl

-- a divider passes over the divisors for which its parent has no rate: for 30 only 4 is left, and for 20 none. A mux passes over
-- such a parent and takes another
abbrev passed_over : List Entry
passed_over =
    boot 7 ++ gets 1 (clock_id 2) 0 ∷ gets 1 (clock_id 3) 1 ∷ gets 1 divider 2 ∷ gets 1 mux 3
    ∷ begins 1 (call.RoundRate d 20) (reply.Refused errno.EINVAL)
    ∷ goes_on 1 (call.SetRate d 30) ∷ step 1 (micro.Visit divider) ∷ ends 1 reply.Fine
    ∷ begins 1 (call.GetRate d) (reply.Rate 25)
    ∷ begins 1 (call.RoundRate n 20) (reply.Refused errno.EINVAL)
    ∷ goes_on 1 (call.SetRate n 60)
    ∷ step 1 (micro.Relink mux (clock_id 5)) ∷ step 1 (micro.WriteMux mux 1) ∷ step 1 (micro.Visit mux) ∷ ends 1 reply.Fine
    ∷ []

pub passed_over_turns : turns start passed_over ≡ stated passed_over
unfolding turns
passed_over_turns = refl

pub passed_over_registers : (replay start passed_over).regs ≡ 0x130 ∷ []
unfolding turns
passed_over_registers = refl
