-- Exclusive holds of a rate, and the clocks that protect their rate while they are prepared.
use Rattle.std.specs.Prelude.{◌≡◌, List, [], ◌∷◌, ◌++◌, true, false, pos, codes, refl}
use Rattle.clk_base.specs.declared.clock.Kind.TheVariants as kinds
use Rattle.clk_base.specs.declared.call.Micro.TheVariants as micro
use Rattle.clk_base.specs.declared.call.Notice.TheVariants as notice
use Rattle.clk_base.specs.declared.call.Sleeping.TheVariants as call
use Rattle.clk_base.specs.declared.event.Entry.{Entry}
use Rattle.clk_base.specs.declared.event.Errno.TheVariants as errno
use Rattle.clk_base.specs.declared.event.Reply.TheVariants as reply
use Rattle.clk_base.specs.declared.handle.Handle.{Handle}
use Rattle.clk_base.specs.declared.handle.Policy.TheVariants as policy
use Rattle.clk_base.specs.Description.{Description}
use Rattle.clk_model.specs.State.{State}
use Rattle.clk_model.specs.Chain.{clock_id}
use Rattle.clk_model.specs.Journal.{opening, replay}
use Rattle.clk_model.specs.Examples.Rows.{turns, stated, clock, flagged, set_rate_gate, set_rate_parent, handle, begins, goes_on, step, ends, boot, gets}
use Rattle.clk_model.specs.Examples.Rounding.{divided_start, div}

abbrev d : Handle
d = handle 0 1

abbrev e : Handle
e = handle 1 1

-- a request that rounds to the rate is answered at once; another is refused, but for the one holder, who lifts its own hold
abbrev one_holder : List Entry
one_holder =
    boot 2 ++ gets 1 div 0 ∷ gets 1 div 1
    ∷ goes_on 1 (call.SetRate d 25) ∷ step 1 (micro.Visit div) ∷ ends 1 reply.Fine
    ∷ begins 1 (call.ExclusiveGet d) reply.Fine
    ∷ begins 1 (call.SetRate e 30) reply.Fine
    ∷ begins 1 (call.SetRate e 60) (reply.Refused errno.EBUSY)
    ∷ begins 1 (call.RoundRate e 60) (reply.Rate 25)
    ∷ begins 1 (call.RoundRate d 60) (reply.Rate 50)
    ∷ begins 1 (call.SetRateExclusive d 50) (reply.Refused errno.EBUSY)
    ∷ goes_on 1 (call.SetRate d 50) ∷ step 1 (micro.Visit div) ∷ ends 1 reply.Fine
    ∷ begins 1 (call.GetRate e) (reply.Rate 50)
    ∷ []

pub one_holder_turns : turns divided_start one_holder ≡ stated one_holder
unfolding turns
one_holder_turns = refl

pub one_holder_registers : (replay divided_start one_holder).regs ≡ 1 ∷ []
unfolding turns
one_holder_registers = refl

-- of two holders none can change the rate, until the other lets go
abbrev two_holders : List Entry
two_holders =
    boot 2 ++ gets 1 div 0 ∷ gets 1 div 1
    ∷ begins 1 (call.ExclusiveGet d) reply.Fine
    ∷ begins 1 (call.ExclusiveGet e) reply.Fine
    ∷ begins 1 (call.SetRate d 50) (reply.Refused errno.EBUSY)
    ∷ begins 1 (call.SetRate e 50) (reply.Refused errno.EBUSY)
    ∷ begins 1 (call.ExclusivePut e) reply.Fine
    ∷ goes_on 1 (call.SetRate d 50) ∷ step 1 (micro.Visit div) ∷ ends 1 reply.Fine
    ∷ begins 1 (call.ExclusivePut e) reply.Warn
    ∷ []

pub two_holders_turns : turns divided_start two_holders ≡ stated two_holders
unfolding turns
two_holders_turns = refl

pub two_holders_registers : (replay divided_start two_holders).regs ≡ 1 ∷ []
unfolding turns
two_holders_registers = refl

-- a handle with two exclusive holds lifts one of them, so the other one still protects
abbrev held_twice : List Entry
held_twice =
    boot 2 ++ gets 1 div 0
    ∷ begins 1 (call.ExclusiveGet d) reply.Fine
    ∷ begins 1 (call.ExclusiveGet d) reply.Fine
    ∷ begins 1 (call.SetRate d 50) (reply.Refused errno.EBUSY)
    ∷ begins 1 (call.ExclusivePut d) reply.Fine
    ∷ goes_on 1 (call.SetRate d 50) ∷ step 1 (micro.Visit div) ∷ ends 1 reply.Fine
    ∷ []

pub held_twice_turns : turns divided_start held_twice ≡ stated held_twice
unfolding turns
held_twice_turns = refl

-- `fixed ref 100`, `divider div ref 0 0 3 set-rate-gate`
abbrev protected : Description
protected = clock (codes "ref") (kinds.FixedRate 100) [] ∷ flagged set_rate_gate (codes "div") (kinds.Divider 0 0 3 false false) (0 ∷ []) ∷ []

abbrev protected_start : State
protected_start = opening protected (0 ∷ []) false 100

-- a clock with the rate gate keeps its rate while it is prepared
abbrev prepared_keeps_rate : List Entry
prepared_keeps_rate =
    boot 2 ++ gets 1 div 0
    ∷ begins 1 (call.Prepare d) reply.Fine
    ∷ begins 1 (call.SetRate d 50) (reply.Refused errno.EBUSY)
    ∷ begins 1 (call.Unprepare d) reply.Fine
    ∷ goes_on 1 (call.SetRate d 50) ∷ step 1 (micro.Visit div) ∷ ends 1 reply.Fine
    ∷ []

pub prepared_keeps_rate_turns : turns protected_start prepared_keeps_rate ≡ stated prepared_keeps_rate
unfolding turns
prepared_keeps_rate_turns = refl

pub prepared_keeps_rate_registers : (replay protected_start prepared_keeps_rate).regs ≡ 1 ∷ []
unfolding turns
prepared_keeps_rate_registers = refl

-- a request that takes an exclusive hold takes it also where there is nothing to change
abbrev exclusive_requests : List Entry
exclusive_requests =
    boot 2 ++ gets 1 div 0 ∷ gets 1 div 1
    ∷ begins 1 (call.SetRateExclusive d 100) reply.Fine
    ∷ begins 1 (call.SetRate e 50) (reply.Refused errno.EBUSY)
    ∷ begins 1 (call.ExclusivePut d) reply.Fine
    ∷ goes_on 1 (call.SetRateExclusive d 50) ∷ step 1 (micro.Visit div) ∷ ends 1 reply.Fine
    ∷ begins 1 (call.SetRate e 100) (reply.Refused errno.EBUSY)
    ∷ begins 1 (call.ExclusivePut d) reply.Fine
    ∷ begins 1 (call.ExclusivePut d) reply.Warn
    ∷ []

pub exclusive_requests_turns : turns divided_start exclusive_requests ≡ stated exclusive_requests
unfolding turns
exclusive_requests_turns = refl

-- a request that a notifier vetoes takes no exclusive hold
abbrev vetoed_exclusive : List Entry
vetoed_exclusive =
    boot 2 ++ gets 1 div 0
    ∷ begins 1 (call.NotifierAdd d 1 (pos 0) policy.VetoAll) reply.Fine
    ∷ goes_on 1 (call.SetRateExclusive d 50)
    ∷ step 1 (micro.Notify (notice.Pre true) div 1 100 50) ∷ step 1 (micro.Notify notice.Abort div 1 100 50)
    ∷ ends 1 (reply.Refused errno.EBUSY)
    ∷ begins 1 (call.ExclusivePut d) reply.Warn
    ∷ []

pub vetoed_exclusive_turns : turns divided_start vetoed_exclusive ≡ stated vetoed_exclusive
unfolding turns
vetoed_exclusive_turns = refl

-- `fixed ref 100`, `divider s ref 0 0 3`, `factor u s 1 2`
abbrev below : Description
below =
    clock (codes "ref") (kinds.FixedRate 100) [] ∷ clock (codes "s") (kinds.Divider 0 0 3 false false) (0 ∷ [])
    ∷ clock (codes "u") (kinds.Factor 1 2) (1 ∷ []) ∷ []

-- an exclusive hold protects the clocks above too
abbrev hold_below : List Entry
hold_below =
    boot 3 ++ gets 1 div 0 ∷ gets 1 (clock_id 2) 1
    ∷ begins 1 (call.ExclusiveGet e) reply.Fine
    ∷ begins 1 (call.SetRate d 50) (reply.Refused errno.EBUSY)
    ∷ begins 1 (call.RoundRate d 50) (reply.Rate 100)
    ∷ begins 1 (call.ExclusivePut e) reply.Fine
    ∷ goes_on 1 (call.SetRate d 50) ∷ step 1 (micro.Visit div) ∷ step 1 (micro.Visit (clock_id 2)) ∷ ends 1 reply.Fine
    ∷ begins 1 (call.GetRate e) (reply.Rate 25)
    ∷ []

pub hold_below_turns : turns (opening below (0 ∷ []) false 100) hold_below ≡ stated hold_below
unfolding turns
hold_below_turns = refl

-- `fixed ref 100`, `divider s ref 0 0 3`, `gate g s 1 0 set-rate-parent`
abbrev passing : Description
passing =
    clock (codes "ref") (kinds.FixedRate 100) [] ∷ clock (codes "s") (kinds.Divider 0 0 3 false false) (0 ∷ [])
    ∷ flagged set_rate_parent (codes "g") (kinds.Gate 1 0 false) (1 ∷ []) ∷ []

-- what the gate would get is asked as if nobody held it, so its own hold refuses the request; a hold on the divider above it
-- leaves it only the rate that it has, and there is nothing to change
abbrev own_and_others : List Entry
own_and_others =
    boot 3 ++ gets 1 (clock_id 2) 0 ∷ gets 1 (clock_id 2) 1 ∷ gets 1 div 2
    ∷ begins 1 (call.ExclusiveGet e) reply.Fine
    ∷ begins 1 (call.SetRate d 50) (reply.Refused errno.EBUSY)
    ∷ begins 1 (call.ExclusivePut e) reply.Fine
    ∷ begins 1 (call.ExclusiveGet (handle 2 1)) reply.Fine
    ∷ begins 1 (call.SetRate d 50) reply.Fine
    ∷ []

pub own_and_others_turns : turns (opening passing (0 ∷ 0 ∷ []) false 100) own_and_others ≡ stated own_and_others
unfolding turns
own_and_others_turns = refl
