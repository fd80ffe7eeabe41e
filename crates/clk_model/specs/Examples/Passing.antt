-- Requests that are passed on to the parent.
use Rattle.std.specs.Prelude.{◌≡◌, ◌+◌, List, [], ◌∷◌, ◌++◌, false, pos, codes, refl}
use Rattle.clk_base.specs.declared.clock.ClockId.{ClockId}
use Rattle.clk_base.specs.declared.clock.Kind.TheVariants as kinds
use Rattle.clk_base.specs.declared.call.Micro.TheVariants as micro
use Rattle.clk_base.specs.declared.call.Notice.TheVariants as notice
use Rattle.clk_base.specs.declared.call.Sleeping.TheVariants as call
use Rattle.clk_base.specs.declared.event.Entry.{Entry}
use Rattle.clk_base.specs.declared.event.Errno.TheVariants as errno
use Rattle.clk_base.specs.declared.event.Reply.TheVariants as reply
use Rattle.clk_base.specs.declared.handle.Handle.{Handle}
use Rattle.clk_base.specs.declared.handle.Policy.TheVariants as policy
use Rattle.clk_base.specs.Description.{Description}
use Rattle.clk_model.specs.State.{State}
use Rattle.clk_model.specs.Chain.{clock_id}
use Rattle.clk_model.specs.Journal.{opening, replay}
use Rattle.clk_model.specs.Examples.Rows.{turns, stated, clock, flagged, set_rate_parent, no_reparent, handle, begins, goes_on, step, ends, boot, gets}
use Rattle.clk_model.specs.Examples.Notices.{kept_between_start}

abbrev a : Handle
a = handle 0 1

abbrev b : Handle
b = handle 1 1

-- the clock below the root, and the clock below that
abbrev upper : ClockId
upper = clock_id 1

abbrev lower : ClockId
lower = clock_id 2

-- ---- a factor

-- `fixed ref 1000`, `divider s ref 0 0 3`, `factor x s 3 2 set-rate-parent`
abbrev factored : Description
factored =
    clock (codes "ref") (kinds.FixedRate 1000) [] ∷ clock (codes "s") (kinds.Divider 0 0 3 false false) (0 ∷ [])
    ∷ flagged set_rate_parent (codes "x") (kinds.Factor 3 2) (1 ∷ []) ∷ []

abbrev factored_start : State
factored_start = opening factored (0 ∷ []) false 100

-- for 251 the factor asks for 166: it divides by 3, drops the fraction, and multiplies by 2. The divider gives 143, three halves
-- of which are 214
abbrev factor_passes : List Entry
factor_passes =
    boot 3 ++ gets 1 lower 0
    ∷ begins 1 (call.RoundRate a 251) (reply.Rate 214)
    ∷ goes_on 1 (call.SetRate a 251) ∷ step 1 (micro.Visit upper) ∷ step 1 (micro.Visit lower) ∷ ends 1 reply.Fine
    ∷ begins 1 (call.GetRate a) (reply.Rate 214)
    ∷ []

pub factor_passes_turns : turns factored_start factor_passes ≡ stated factor_passes
unfolding turns
factor_passes_turns = refl

pub factor_passes_registers : (replay factored_start factor_passes).regs ≡ 6 ∷ []
unfolding turns
factor_passes_registers = refl

-- ---- a gate below a factor

-- the same with `gate g x 1 0 set-rate-parent`
abbrev three_levels : Description
three_levels = factored ++ flagged set_rate_parent (codes "g") (kinds.Gate 1 0 false) (2 ∷ []) ∷ []

abbrev lowest : ClockId
lowest = clock_id 3

-- the gate passes 251 on as it is, and not the 214 that the factor gives for it, for which the factor would give 187
abbrev request_as_it_is : List Entry
request_as_it_is =
    boot 4 ++ gets 1 lowest 0
    ∷ goes_on 1 (call.SetRate a 251) ∷ step 1 (micro.Visit upper) ∷ step 1 (micro.Visit lower) ∷ step 1 (micro.Visit lowest) ∷ ends 1 reply.Fine
    ∷ begins 1 (call.GetRate a) (reply.Rate 214)
    ∷ []

pub request_as_it_is_turns : turns (opening three_levels (0 ∷ 0 ∷ []) false 100) request_as_it_is ≡ stated request_as_it_is
unfolding turns
request_as_it_is_turns = refl

-- ---- a divider below a divider

-- `fixed ref 1000`, `divider s ref 0 0 3`, `divider d s 0 4 2 set-rate-parent`
abbrev two_dividers : Description
two_dividers =
    clock (codes "ref") (kinds.FixedRate 1000) [] ∷ clock (codes "s") (kinds.Divider 0 0 3 false false) (0 ∷ [])
    ∷ flagged set_rate_parent (codes "d") (kinds.Divider 0 4 2 false false) (1 ∷ []) ∷ []

-- the upper divider's field is 3, so its rate is 250
abbrev two_dividers_start : State
two_dividers_start = opening two_dividers (3 ∷ []) false 100

-- for 125 the upper divider could give 125, but twice 125 is the rate that it has, so it stays. For 1 no divisor will do, so the
-- greatest, 4, is taken over the least rate of the upper divider
abbrev divider_passes : List Entry
divider_passes =
    boot 3 ++ gets 1 lower 0
    ∷ begins 1 (call.RoundRate a 1) (reply.Rate 32)
    ∷ goes_on 1 (call.SetRate a 125) ∷ step 1 (micro.Visit lower) ∷ ends 1 reply.Fine
    ∷ begins 1 (call.GetRate a) (reply.Rate 125)
    ∷ []

pub divider_passes_turns : turns two_dividers_start divider_passes ≡ stated divider_passes
unfolding turns
divider_passes_turns = refl

pub divider_passes_registers : (replay two_dividers_start divider_passes).regs ≡ 0x13 ∷ []
unfolding turns
divider_passes_registers = refl

-- ---- a gate

-- `fixed ref 1000`, `divider s ref 0 0 3`, `gate g s 1 0 set-rate-parent`
abbrev gated : Description
gated =
    clock (codes "ref") (kinds.FixedRate 1000) [] ∷ clock (codes "s") (kinds.Divider 0 0 3 false false) (0 ∷ [])
    ∷ flagged set_rate_parent (codes "g") (kinds.Gate 1 0 false) (1 ∷ []) ∷ []

abbrev gated_start : State
gated_start = opening gated (0 ∷ 0 ∷ []) false 100

-- a gate passes a request on as it is, but a change that leaves its range is refused
abbrev gate_passes : List Entry
gate_passes =
    boot 3 ++ gets 1 lower 0 ∷ gets 1 lower 1
    ∷ begins 1 (call.SetRange a 200 1000) reply.Fine
    ∷ begins 1 (call.RoundRate b 150) (reply.Rate 143)
    ∷ begins 1 (call.SetRate b 150) (reply.Refused errno.EINVAL)
    ∷ goes_on 1 (call.SetRate b 250) ∷ step 1 (micro.Visit upper) ∷ step 1 (micro.Visit lower) ∷ ends 1 reply.Fine
    ∷ begins 1 (call.GetRate a) (reply.Rate 250)
    ∷ []

pub gate_passes_turns : turns gated_start gate_passes ≡ stated gate_passes
unfolding turns
gate_passes_turns = refl

pub gate_passes_registers : (replay gated_start gate_passes).regs ≡ 3 ∷ 0 ∷ []
unfolding turns
gate_passes_registers = refl

-- the divider's field is 2, so its rate is 334, and the range of its own handle is 300 to 400. For 310 the gate would get 250, which
-- the divider may not have, so there is no plan; with a range from 200 on there is one
abbrev upper_range : List Entry
upper_range =
    boot 3 ++ gets 1 upper 0 ∷ gets 1 lower 1
    ∷ begins 1 (call.SetRange a 300 400) reply.Fine
    ∷ begins 1 (call.RoundRate b 310) (reply.Rate 250)
    ∷ begins 1 (call.SetRate b 310) (reply.Refused errno.EINVAL)
    ∷ begins 1 (call.SetRange a 200 400) reply.Fine
    ∷ goes_on 1 (call.SetRate b 310) ∷ step 1 (micro.Visit upper) ∷ step 1 (micro.Visit lower) ∷ ends 1 reply.Fine
    ∷ begins 1 (call.GetRate b) (reply.Rate 250)
    ∷ []

pub upper_range_turns : turns (opening gated (2 ∷ 0 ∷ []) false 100) upper_range ≡ stated upper_range
unfolding turns
upper_range_turns = refl

pub upper_range_registers : (replay (opening gated (2 ∷ 0 ∷ []) false 100) upper_range).regs ≡ 3 ∷ 0 ∷ []
unfolding turns
upper_range_registers = refl

-- over the clocks of `kept_between` the lowest one has the range 3 to 10 and the rate 1. For 4 it is planned to get 3, but what
-- comes out is 2, so there is no plan
abbrev outcome_counts : List Entry
outcome_counts =
    boot 4 ++ gets 1 upper 0 ∷ gets 1 lowest 1
    ∷ goes_on 1 (call.SetRange b 3 10)
    ∷ step 1 (micro.Visit upper) ∷ step 1 (micro.Visit lower) ∷ step 1 (micro.Visit lowest) ∷ ends 1 reply.Fine
    ∷ goes_on 1 (call.SetRate a 200)
    ∷ step 1 (micro.Visit upper) ∷ step 1 (micro.Visit lower) ∷ step 1 (micro.Visit lowest) ∷ ends 1 reply.Fine
    ∷ begins 1 (call.GetRate b) (reply.Rate 1)
    ∷ begins 1 (call.RoundRate b 4) (reply.Rate 3)
    ∷ begins 1 (call.SetRate b 4) (reply.Refused errno.EINVAL)
    ∷ []

pub outcome_counts_turns : turns kept_between_start outcome_counts ≡ stated outcome_counts
unfolding turns
outcome_counts_turns = refl

-- ---- a mux that moves below the clock that changes

-- `fixed ref 1000`, `divider s ref 0 0 3`, `factor u s 1 2 set-rate-parent`, `factor w s 1 5 set-rate-parent`,
-- `mux m 1 0 1 2 u w set-rate-parent`
abbrev shared_source : Description
shared_source =
    clock (codes "ref") (kinds.FixedRate 1000) [] ∷ clock (codes "s") (kinds.Divider 0 0 3 false false) (0 ∷ [])
    ∷ flagged set_rate_parent (codes "u") (kinds.Factor 1 2) (1 ∷ []) ∷ flagged set_rate_parent (codes "w") (kinds.Factor 1 5) (1 ∷ [])
    ∷ flagged set_rate_parent (codes "m") (kinds.Mux 1 0 1 false) (2 ∷ 3 ∷ []) ∷ []

abbrev half : ClockId
half = clock_id 2

abbrev fifth : ClockId
fifth = clock_id 3

abbrev mux : ClockId
mux = clock_id 4

abbrev shared_source_start : State
shared_source_start = opening shared_source (0 ∷ 0 ∷ []) false 100

-- for 60 the half can't be had, since the divider's least rate is 125; the fifth of 250 is 50. The walk meets the mux below its
-- new parent, and no more below its old one
abbrev moving_below : List Entry
moving_below =
    boot 5 ++ gets 1 mux 0
    ∷ goes_on 1 (call.SetRate a 60)
    ∷ step 1 (micro.Visit upper)
    ∷ step 1 (micro.Visit fifth) ∷ step 1 (micro.Relink mux fifth) ∷ step 1 (micro.WriteMux mux 1) ∷ step 1 (micro.Visit mux)
    ∷ step 1 (micro.Visit half)
    ∷ ends 1 reply.Fine
    ∷ begins 1 (call.GetRate a) (reply.Rate 50)
    ∷ []

pub moving_below_turns : turns shared_source_start moving_below ≡ stated moving_below
unfolding turns
moving_below_turns = refl

pub moving_below_registers : (replay shared_source_start moving_below).regs ≡ 3 ∷ 1 ∷ []
unfolding turns
moving_below_registers = refl

-- `fixed ref 1000`, `divider s ref 0 0 3`, `gate x s 1 0`, `factor y x 1 2`, `fixed other 7`, `mux m 2 0 1 2 other s set-rate-parent`
abbrev joined : Description
joined =
    clock (codes "ref") (kinds.FixedRate 1000) [] ∷ clock (codes "s") (kinds.Divider 0 0 3 false false) (0 ∷ [])
    ∷ clock (codes "x") (kinds.Gate 1 0 false) (1 ∷ []) ∷ clock (codes "y") (kinds.Factor 1 2) (2 ∷ [])
    ∷ clock (codes "other") (kinds.FixedRate 7) []
    ∷ flagged set_rate_parent (codes "m") (kinds.Mux 2 0 1 false) (4 ∷ 1 ∷ []) ∷ []

abbrev below_lower : ClockId
below_lower = clock_id 3

abbrev joining : ClockId
joining = clock_id 5

abbrev joined_start : State
joined_start = opening joined (0 ∷ 0 ∷ 0 ∷ []) false 100

-- the clock that moves in comes last, behind the clocks that stay and all that is below them, though it is the newest of all
abbrev mover_last : List Entry
mover_last =
    boot 6 ++ gets 1 joining 0 ∷ gets 1 below_lower 1
    ∷ begins 1 (call.NotifierAdd a 1 (pos 0) policy.Accept) reply.Fine
    ∷ begins 1 (call.NotifierAdd b 1 (pos 0) policy.Accept) reply.Fine
    ∷ goes_on 1 (call.SetRate a 250)
    ∷ step 1 (micro.Notify (notice.Pre false) below_lower 1 500 125) ∷ step 1 (micro.Notify (notice.Pre false) joining 1 7 250)
    ∷ step 1 (micro.Visit upper) ∷ step 1 (micro.Visit lower)
    ∷ step 1 (micro.Visit below_lower) ∷ step 1 (micro.Notify notice.Post below_lower 1 500 125)
    ∷ step 1 (micro.Relink joining upper) ∷ step 1 (micro.WriteMux joining 1)
    ∷ step 1 (micro.Visit joining) ∷ step 1 (micro.Notify notice.Post joining 1 7 250)
    ∷ ends 1 reply.Fine
    ∷ []

pub mover_last_turns : turns joined_start mover_last ≡ stated mover_last
unfolding turns
mover_last_turns = refl

pub mover_last_registers : (replay joined_start mover_last).regs ≡ 3 ∷ 0 ∷ 1 ∷ []
unfolding turns
mover_last_registers = refl

-- ---- clocks that keep their parent, or never ask it

-- `fixed ref 1000`, `divider s ref 0 0 3`, `fixed e 7`, `mux m 1 0 1 2 s e no-reparent set-rate-parent`
abbrev kept_source : Description
kept_source =
    clock (codes "ref") (kinds.FixedRate 1000) [] ∷ clock (codes "s") (kinds.Divider 0 0 3 false false) (0 ∷ [])
    ∷ clock (codes "e") (kinds.FixedRate 7) []
    ∷ flagged (set_rate_parent + no_reparent) (codes "m") (kinds.Mux 1 0 1 false) (1 ∷ 2 ∷ []) ∷ []

-- a mux that keeps its parent asks it, and it alone: for 7 the divider has 125, though the other parent would fit
abbrev kept_parent_asked : List Entry
kept_parent_asked =
    boot 4 ++ gets 1 (clock_id 3) 0
    ∷ begins 1 (call.RoundRate a 7) (reply.Rate 125)
    ∷ goes_on 1 (call.SetRate a 250) ∷ step 1 (micro.Visit upper) ∷ step 1 (micro.Visit (clock_id 3)) ∷ ends 1 reply.Fine
    ∷ []

pub kept_parent_asked_turns : turns (opening kept_source (0 ∷ 0 ∷ []) false 100) kept_parent_asked ≡ stated kept_parent_asked
unfolding turns
kept_parent_asked_turns = refl

pub kept_parent_asked_registers : (replay (opening kept_source (0 ∷ 0 ∷ []) false 100) kept_parent_asked).regs ≡ 3 ∷ 0 ∷ []
unfolding turns
kept_parent_asked_registers = refl

-- `fixed ref 24000000`, `divider s ref 0 0 3`, `pll p s 1 0 9 1 31 100 400 24 set-rate-parent`
abbrev pll_below : Description
pll_below =
    clock (codes "ref") (kinds.FixedRate 24000000) [] ∷ clock (codes "s") (kinds.Divider 0 0 3 false false) (0 ∷ [])
    ∷ flagged set_rate_parent (codes "p") (kinds.Pll 1 0 9 1 31 100 400 24) (1 ∷ []) ∷ []

-- a PLL never asks its parent, which could give it less: 100000000 is its least rate over 24000000
abbrev pll_asks_nobody : List Entry
pll_asks_nobody =
    boot 3 ++ gets 1 lower 0
    ∷ begins 1 (call.RoundRate a 12000000) (reply.Rate 100000000)
    ∷ begins 1 (call.SetRate a 12000000) reply.Fine
    ∷ []

pub pll_asks_nobody_turns : turns (opening pll_below (0 ∷ 0x64 ∷ []) false 100) pll_asks_nobody ≡ stated pll_asks_nobody
unfolding turns
pll_asks_nobody_turns = refl

-- ---- products above the greatest rate

-- `fixed f 18446744073709551615`, `divider s f 0 0 3`, `factor x s 1 4 set-rate-parent`
abbrev quartered : Description
quartered =
    clock (codes "f") (kinds.FixedRate 18446744073709551615) [] ∷ clock (codes "s") (kinds.Divider 0 0 3 false false) (0 ∷ [])
    ∷ flagged set_rate_parent (codes "x") (kinds.Factor 1 4) (1 ∷ []) ∷ []

-- four times the greatest rate counts as the greatest rate, which the divider gives with its divisor 1
abbrev factor_asks_for_most : List Entry
factor_asks_for_most =
    boot 3 ++ gets 1 lower 0
    ∷ begins 1 (call.RoundRate a 18446744073709551615) (reply.Rate 4611686018427387903)
    ∷ goes_on 1 (call.SetRate a 18446744073709551615) ∷ step 1 (micro.Visit upper) ∷ step 1 (micro.Visit lower) ∷ ends 1 reply.Fine
    ∷ []

pub factor_asks_for_most_turns : turns (opening quartered (1 ∷ []) false 100) factor_asks_for_most ≡ stated factor_asks_for_most
unfolding turns
factor_asks_for_most_turns = refl

pub factor_asks_for_most_registers : (replay (opening quartered (1 ∷ []) false 100) factor_asks_for_most).regs ≡ 0 ∷ []
unfolding turns
factor_asks_for_most_registers = refl

-- `fixed f 18446744073709551615`, `fixed e 5`, `mux s 0 0 1 2 f e`, `divider d s 1 0 1 set-rate-parent`
abbrev most_or_five : Description
most_or_five =
    clock (codes "f") (kinds.FixedRate 18446744073709551615) [] ∷ clock (codes "e") (kinds.FixedRate 5) []
    ∷ clock (codes "s") (kinds.Mux 0 0 1 false) (0 ∷ 1 ∷ [])
    ∷ flagged set_rate_parent (codes "d") (kinds.Divider 1 0 1 false false) (2 ∷ []) ∷ []

abbrev most_or_five_start : State
most_or_five_start = opening most_or_five (0 ∷ 0 ∷ []) false 100

-- twice 9223372036854775809 is above the greatest rate, so the divisor 2 isn't tried, though half of the greatest rate would be
-- near; with the divisor 1 the mux has only 5 to give
abbrev divisor_too_great : List Entry
divisor_too_great =
    boot 4 ++ gets 1 (clock_id 3) 0
    ∷ begins 1 (call.RoundRate a 9223372036854775809) (reply.Rate 5)
    ∷ goes_on 1 (call.SetRate a 9223372036854775809)
    ∷ step 1 (micro.Relink (clock_id 2) (clock_id 1)) ∷ step 1 (micro.WriteMux (clock_id 2) 1)
    ∷ step 1 (micro.Visit (clock_id 2)) ∷ step 1 (micro.Visit (clock_id 3)) ∷ ends 1 reply.Fine
    ∷ []

pub divisor_too_great_turns : turns most_or_five_start divisor_too_great ≡ stated divisor_too_great
unfolding turns
divisor_too_great_turns = refl

pub divisor_too_great_registers : (replay most_or_five_start divisor_too_great).regs ≡ 1 ∷ 0 ∷ []
unfolding turns
divisor_too_great_registers = refl
