-- Ranges of several handles of one clock.
use Rattle.std.specs.Prelude.{◌≡◌, List, [], ◌∷◌, ◌++◌, true, false, pos, map, codes, refl}
use Rattle.clk_base.specs.declared.clock.ClockId.{ClockId}
use Rattle.clk_base.specs.declared.clock.Kind.TheVariants as kinds
use Rattle.clk_base.specs.declared.call.Micro.TheVariants as micro
use Rattle.clk_base.specs.declared.call.Notice.TheVariants as notice
use Rattle.clk_base.specs.declared.call.Sleeping.TheVariants as call
use Rattle.clk_base.specs.declared.event.Entry.{Entry}
use Rattle.clk_base.specs.declared.event.Errno.TheVariants as errno
use Rattle.clk_base.specs.declared.event.Reply.TheVariants as reply
use Rattle.clk_base.specs.declared.handle.Handle.{Handle}
use Rattle.clk_base.specs.declared.handle.Policy.TheVariants as policy
use Rattle.clk_base.specs.Description.{Description}
use Rattle.clk_model.specs.State.{State}
use Rattle.clk_model.specs.Chain.{clock_id}
use Rattle.clk_model.specs.Journal.{opening, replay}
use Rattle.clk_model.specs.Examples.Rows.{turns, stated, clock, handle, begins, goes_on, step, ends, boot, gets}

-- `fixed ref 600`, `divider div ref 0 0 3`
abbrev ranged : Description
ranged = clock (codes "ref") (kinds.FixedRate 600) [] ∷ clock (codes "div") (kinds.Divider 0 0 3 false false) (0 ∷ []) ∷ []

abbrev div : ClockId
div = clock_id 1

abbrev a : Handle
a = handle 0 1

abbrev b : Handle
b = handle 1 1

abbrev c : Handle
c = handle 2 1

-- the divider's field is 3, so its rate is 150
abbrev ranged_start : State
ranged_start = opening ranged (3 ∷ []) false 100

-- a range has to meet those of the other handles, and the last request is made anew within it
abbrev ranges : List Entry
ranges =
    boot 2 ++ gets 1 div 0 ∷ gets 1 div 1 ∷ gets 1 div 2
    ∷ begins 1 (call.SetRange a 100 200) reply.Fine
    ∷ begins 1 (call.SetRange b 150 300) reply.Fine
    ∷ begins 1 (call.SetRange c 250 260) (reply.Refused errno.EINVAL)
    ∷ begins 1 (call.SetRange c 300 200) (reply.Refused errno.EINVAL)
    ∷ goes_on 1 (call.SetRate c 1000) ∷ step 1 (micro.Visit div) ∷ ends 1 reply.Fine
    ∷ begins 1 (call.GetRate c) (reply.Rate 200)
    ∷ goes_on 1 (call.SetRange a 100 180) ∷ step 1 (micro.Visit div) ∷ ends 1 reply.Fine
    ∷ begins 1 (call.GetRate a) (reply.Rate 150)
    ∷ []

pub ranges_turns : turns ranged_start ranges ≡ stated ranges
unfolding turns
ranges_turns = refl

pub ranges_registers : (replay ranged_start ranges).regs ≡ 3 ∷ []
unfolding turns
ranges_registers = refl

-- the last request is the one that was made anew: 1000 within 100 to 180
pub ranges_requests : map (λ row. row.last_request) (replay ranged_start ranges).clocks ≡ 600 ∷ 180 ∷ []
unfolding turns
ranges_requests = refl

-- a range that a notifier vetoes is the old one again: 100 is no longer below it
abbrev vetoed_range : List Entry
vetoed_range =
    boot 2 ++ gets 1 div 0
    ∷ begins 1 (call.NotifierAdd a 1 (pos 0) policy.VetoAll) reply.Fine
    ∷ goes_on 1 (call.SetRange a 200 300)
    ∷ step 1 (micro.Notify (notice.Pre true) div 1 150 200) ∷ step 1 (micro.Notify notice.Abort div 1 150 200)
    ∷ ends 1 (reply.Refused errno.EBUSY)
    ∷ begins 1 (call.RoundRate a 100) (reply.Rate 100)
    ∷ []

pub vetoed_range_turns : turns ranged_start vetoed_range ≡ stated vetoed_range
unfolding turns
vetoed_range_turns = refl

-- a range that is refused, for another handle holds the rate, is the old one again too
abbrev guarded_range : List Entry
guarded_range =
    boot 2 ++ gets 1 div 0 ∷ gets 1 div 1
    ∷ begins 1 (call.ExclusiveGet b) reply.Fine
    ∷ begins 1 (call.SetRange a 200 300) (reply.Refused errno.EBUSY)
    ∷ begins 1 (call.ExclusivePut b) reply.Fine
    ∷ begins 1 (call.RoundRate a 100) (reply.Rate 100)
    ∷ []

pub guarded_range_turns : turns ranged_start guarded_range ≡ stated guarded_range
unfolding turns
guarded_range_turns = refl

-- a range for which the divider has no rate is the old one again: 210 to 290 would give 200, which isn't in it
abbrev empty_range : List Entry
empty_range =
    boot 2 ++ gets 1 div 0
    ∷ begins 1 (call.SetRange a 210 290) (reply.Refused errno.EINVAL)
    ∷ begins 1 (call.RoundRate a 100) (reply.Rate 100)
    ∷ []

pub empty_range_turns : turns ranged_start empty_range ≡ stated empty_range
unfolding turns
empty_range_turns = refl

-- a range weighs 2 here, a visit and an end; where they have no room it is the old one again
abbrev full_range : List Entry
full_range =
    boot 2 ++ gets 1 div 0
    ∷ begins 1 (call.SetRange a 200 300) (reply.Refused errno.ENOSPC)
    ∷ begins 1 (call.RoundRate a 100) (reply.Rate 100)
    ∷ []

pub full_range_turns : turns (opening ranged (3 ∷ []) false 4194303) full_range ≡ stated full_range
unfolding turns
full_range_turns = refl

abbrev fitting_range : List Entry
fitting_range =
    boot 2 ++ gets 1 div 0
    ∷ goes_on 1 (call.SetRange a 200 300) ∷ step 1 (micro.Visit div) ∷ ends 1 reply.Fine
    ∷ begins 1 (call.RoundRate a 100) (reply.Rate 200)
    ∷ []

pub fitting_range_turns : turns (opening ranged (3 ∷ []) false 4194302) fitting_range ≡ stated fitting_range
unfolding turns
fitting_range_turns = refl

-- a range takes the place of its own handle's, and needn't meet that one
abbrev own_range : List Entry
own_range =
    boot 2 ++ gets 1 div 0
    ∷ begins 1 (call.SetRange a 100 200) reply.Fine
    ∷ goes_on 1 (call.SetRange a 300 400) ∷ step 1 (micro.Visit div) ∷ ends 1 reply.Fine
    ∷ begins 1 (call.GetRate a) (reply.Rate 300)
    ∷ begins 1 (call.RoundRate a 100) (reply.Rate 300)
    ∷ []

pub own_range_turns : turns ranged_start own_range ≡ stated own_range
unfolding turns
own_range_turns = refl
