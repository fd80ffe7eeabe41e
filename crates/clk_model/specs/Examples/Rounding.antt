-- Requests for a rate of a divider, of a mux and of a factor.
use Rattle.std.specs.Prelude.{◌≡◌, List, [], ◌∷◌, ◌++◌, true, false, Some, map, codes, refl}
use Rattle.clk_base.specs.declared.clock.ClockId.{ClockId}
use Rattle.clk_base.specs.declared.clock.Kind.TheVariants as kinds
use Rattle.clk_base.specs.declared.call.Micro.TheVariants as micro
use Rattle.clk_base.specs.declared.call.Sleeping.TheVariants as call
use Rattle.clk_base.specs.declared.event.Entry.{Entry}
use Rattle.clk_base.specs.declared.event.Errno.TheVariants as errno
use Rattle.clk_base.specs.declared.event.Reply.TheVariants as reply
use Rattle.clk_base.specs.declared.handle.Handle.{Handle}
use Rattle.clk_base.specs.Description.{Description}
use Rattle.clk_model.specs.State.{State}
use Rattle.clk_model.specs.Chain.{clock_id}
use Rattle.clk_model.specs.Journal.{opening, replay}
use Rattle.clk_model.specs.Examples.Rows.{turns, stated, clock, flagged, no_reparent, handle, begins, goes_on, step, ends, probe, boot, gets}

abbrev h : Handle
h = handle 0 1

-- ---- a divider

-- `fixed ref 100`, `divider div ref 0 0 3`
abbrev pub divided : Description
divided = clock (codes "ref") (kinds.FixedRate 100) [] ∷ clock (codes "div") (kinds.Divider 0 0 3 false false) (0 ∷ []) ∷ []

abbrev pub divided_start : State
divided_start = opening divided (0 ∷ []) false 100

abbrev pub div : ClockId
div = clock_id 1

-- a divider takes the greatest rate that isn't above a request, and its least rate where there is none
abbrev divider_rates : List Entry
divider_rates =
    boot 2 ++ gets 1 div 0
    ∷ begins 1 (call.RoundRate h 30) (reply.Rate 25)
    ∷ goes_on 1 (call.SetRate h 30) ∷ step 1 (micro.Visit div) ∷ ends 1 reply.Fine
    ∷ begins 1 (call.GetRate h) (reply.Rate 25)
    ∷ begins 1 (call.RoundRate h 0) (reply.Rate 13)
    ∷ begins 1 (call.RoundRate h 500) (reply.Rate 100)
    ∷ goes_on 1 (call.SetRate h 1) ∷ step 1 (micro.Visit div) ∷ ends 1 reply.Fine
    ∷ begins 1 (call.GetRate h) (reply.Rate 13)
    ∷ begins 1 (call.SetRate h 0) reply.Fine
    ∷ []

pub divider_rates_turns : turns divided_start divider_rates ≡ stated divider_rates
unfolding turns
divider_rates_turns = refl

pub divider_rates_registers : (replay divided_start divider_rates).regs ≡ 7 ∷ []
unfolding turns
divider_rates_registers = refl

-- the last request is the last one that changed something
pub divider_rates_requests : map (λ row. row.last_request) (replay divided_start divider_rates).clocks ≡ 100 ∷ 1 ∷ []
unfolding turns
divider_rates_requests = refl

-- ---- a divider by powers of two

-- `fixed ref 10`, `divider div ref 0 0 2 power-of-two`
abbrev powers : Description
powers = clock (codes "ref") (kinds.FixedRate 10) [] ∷ clock (codes "div") (kinds.Divider 0 0 2 false true) (0 ∷ []) ∷ []

abbrev powers_start : State
powers_start = opening powers (0 ∷ []) false 100

-- for 2 of 10 the divisor is 8, for a divisor of 5 is at hand in no field
abbrev power_of_two : List Entry
power_of_two =
    boot 2 ++ gets 1 div 0
    ∷ goes_on 1 (call.SetRate h 2) ∷ step 1 (micro.Visit div) ∷ ends 1 reply.Fine
    ∷ begins 1 (call.GetRate h) (reply.Rate 2)
    ∷ []

pub power_of_two_turns : turns powers_start power_of_two ≡ stated power_of_two
unfolding turns
power_of_two_turns = refl

pub power_of_two_registers : (replay powers_start power_of_two).regs ≡ 3 ∷ []
unfolding turns
power_of_two_registers = refl

-- ---- a mux

-- `fixed a 48000000`, `fixed b 30000000`, `mux m 0 0 1 2 a b`
abbrev pub two_sources : Description
two_sources =
    clock (codes "a") (kinds.FixedRate 48000000) [] ∷ clock (codes "b") (kinds.FixedRate 30000000) []
    ∷ clock (codes "m") (kinds.Mux 0 0 1 false) (0 ∷ 1 ∷ []) ∷ []

abbrev pub two_sources_start : State
two_sources_start = opening two_sources (0 ∷ []) false 100

abbrev pub b : ClockId
b = clock_id 1

abbrev pub m : ClockId
m = clock_id 2

-- a mux takes the parent with the greatest rate that isn't above a request, and refuses a request below all
abbrev mux_rates : List Entry
mux_rates =
    boot 3 ++ gets 1 m 0
    ∷ begins 1 (call.RoundRate h 40000000) (reply.Rate 30000000)
    ∷ begins 1 (call.RoundRate h 30000000) (reply.Rate 30000000)
    ∷ begins 1 (call.RoundRate h 29000000) (reply.Refused errno.EINVAL)
    ∷ goes_on 1 (call.SetRate h 40000000)
    ∷ step 1 (micro.Relink m b) ∷ step 1 (micro.WriteMux m 1) ∷ step 1 (micro.Visit m) ∷ ends 1 reply.Fine
    ∷ begins 1 (call.GetParent h) (reply.Clock (Some b))
    ∷ begins 1 (call.SetRate h 29000000) (reply.Refused errno.EINVAL)
    ∷ []

pub mux_rates_turns : turns two_sources_start mux_rates ≡ stated mux_rates
unfolding turns
mux_rates_turns = refl

pub mux_rates_registers : (replay two_sources_start mux_rates).regs ≡ 1 ∷ []
unfolding turns
mux_rates_registers = refl

-- `fixed a 48000000`, `fixed b 30000000`, `mux m 0 0 1 2 a b read-only`, `mux n 0 1 1 2 a b no-reparent`
abbrev kept_parents : Description
kept_parents =
    clock (codes "a") (kinds.FixedRate 48000000) [] ∷ clock (codes "b") (kinds.FixedRate 30000000) []
    ∷ clock (codes "m") (kinds.Mux 0 0 1 true) (0 ∷ 1 ∷ []) ∷ flagged no_reparent (codes "n") (kinds.Mux 0 1 1 false) (0 ∷ 1 ∷ []) ∷ []

-- a mux that is only read, or that keeps its parent, gives its rate for every request, so there is nothing to change
abbrev kept_parent_rates : List Entry
kept_parent_rates =
    boot 4 ++ gets 1 m 0 ∷ gets 1 (clock_id 3) 1
    ∷ begins 1 (call.RoundRate h 30000000) (reply.Rate 48000000)
    ∷ begins 1 (call.SetRate h 30000000) reply.Fine
    ∷ begins 1 (call.RoundRate (handle 1 1) 30000000) (reply.Rate 48000000)
    ∷ begins 1 (call.SetRate (handle 1 1) 30000000) reply.Fine
    ∷ []

pub kept_parent_rates_turns : turns (opening kept_parents (0 ∷ []) false 100) kept_parent_rates ≡ stated kept_parent_rates
unfolding turns
kept_parent_rates_turns = refl

-- `fixed c 48000000`, `fixed a 30000000`, `fixed b 30000000`, `mux m 0 0 2 3 c a b`
abbrev equal_sources : Description
equal_sources =
    clock (codes "c") (kinds.FixedRate 48000000) [] ∷ clock (codes "a") (kinds.FixedRate 30000000) [] ∷ clock (codes "b") (kinds.FixedRate 30000000) []
    ∷ clock (codes "m") (kinds.Mux 0 0 2 false) (0 ∷ 1 ∷ 2 ∷ []) ∷ []

abbrev equal_m : ClockId
equal_m = clock_id 3

-- of parents with equal rates a mux takes the first
abbrev first_of_equals : List Entry
first_of_equals =
    boot 4 ++ gets 1 equal_m 0
    ∷ goes_on 1 (call.SetRate h 40000000)
    ∷ step 1 (micro.Relink equal_m b) ∷ step 1 (micro.WriteMux equal_m 1) ∷ step 1 (micro.Visit equal_m) ∷ ends 1 reply.Fine
    ∷ begins 1 (call.GetParent h) (reply.Clock (Some b))
    ∷ []

pub first_of_equals_turns : turns (opening equal_sources (0 ∷ []) false 100) first_of_equals ≡ stated first_of_equals
unfolding turns
first_of_equals_turns = refl

-- a mux that has the last of them has that rate already, and stays where it is
abbrev last_of_equals : List Entry
last_of_equals =
    boot 4 ++ gets 1 equal_m 0
    ∷ begins 1 (call.SetRate h 40000000) reply.Fine
    ∷ begins 1 (call.GetParent h) (reply.Clock (Some (clock_id 2)))
    ∷ []

pub last_of_equals_turns : turns (opening equal_sources (2 ∷ []) false 100) last_of_equals ≡ stated last_of_equals
unfolding turns
last_of_equals_turns = refl

-- `fixed f 100`, `factor z f 1 200`, `mux m 0 0 1 2 f z`
abbrev still_source : Description
still_source =
    clock (codes "f") (kinds.FixedRate 100) [] ∷ clock (codes "z") (kinds.Factor 1 200) (0 ∷ [])
    ∷ clock (codes "m") (kinds.Mux 0 0 1 false) (0 ∷ 1 ∷ []) ∷ []

-- a parent with the rate 0 is never taken
abbrev no_rate : List Entry
no_rate =
    boot 3 ++ gets 1 m 0
    ∷ begins 1 (call.RoundRate h 50) (reply.Refused errno.EINVAL)
    ∷ begins 1 (call.SetRate h 50) (reply.Refused errno.EINVAL)
    ∷ begins 1 (call.RoundRate h 100) (reply.Rate 100)
    ∷ []

pub no_rate_turns : turns (opening still_source (0 ∷ []) false 100) no_rate ≡ stated no_rate
unfolding turns
no_rate_turns = refl

-- a parent that isn't registered is no candidate, and can't be had
abbrev late_candidate : List Entry
late_candidate =
    probe 0 ∷ probe 2
    ∷ begins 1 (call.Get (Some b)) (reply.Refused errno.EPROBE_DEFER)
    ∷ gets 1 m 0
    ∷ begins 1 (call.RoundRate h 40000000) (reply.Refused errno.EINVAL)
    ∷ begins 1 (call.SetParent h b) (reply.Refused errno.EINVAL)
    ∷ probe 1
    ∷ begins 1 (call.RoundRate h 40000000) (reply.Rate 30000000)
    ∷ []

pub late_candidate_turns : turns two_sources_start late_candidate ≡ stated late_candidate
unfolding turns
late_candidate_turns = refl

-- ---- factors

-- `fixed f 18446744073709551615`, `factor x f 3 2`, `factor y f 1 2`
abbrev greatest : Description
greatest =
    clock (codes "f") (kinds.FixedRate 18446744073709551615) [] ∷ clock (codes "x") (kinds.Factor 3 2) (0 ∷ [])
    ∷ clock (codes "y") (kinds.Factor 1 2) (0 ∷ []) ∷ []

-- three halves of the greatest rate are the greatest rate, and half of it drops the fraction
abbrev greatest_rates : List Entry
greatest_rates =
    boot 3 ++ gets 1 (clock_id 1) 0 ∷ gets 1 (clock_id 2) 1
    ∷ begins 1 (call.GetRate (handle 0 1)) (reply.Rate 18446744073709551615)
    ∷ begins 1 (call.GetRate (handle 1 1)) (reply.Rate 9223372036854775807)
    ∷ []

pub greatest_rates_turns : turns (opening greatest (0 ∷ []) false 100) greatest_rates ≡ stated greatest_rates
unfolding turns
greatest_rates_turns = refl

-- ---- a PLL

-- `fixed f 18446744073709551615`, `pll p f 0 0 3 0 31 1 4 3`
abbrev greatest_pll : Description
greatest_pll =
    clock (codes "f") (kinds.FixedRate 18446744073709551615) [] ∷ clock (codes "p") (kinds.Pll 0 0 3 0 31 1 4 3) (0 ∷ []) ∷ []

-- two thirds of the greatest rate are exact; four thirds count as the greatest rate, so they aren't above it
abbrev pll_rates : List Entry
pll_rates =
    boot 2 ++ gets 1 (clock_id 1) 0
    ∷ begins 1 (call.GetRate h) (reply.Rate 12297829382473034410)
    ∷ goes_on 1 (call.SetRate h 18446744073709551615) ∷ step 1 (micro.Visit (clock_id 1)) ∷ ends 1 reply.Fine
    ∷ begins 1 (call.GetRate h) (reply.Rate 18446744073709551615)
    ∷ []

pub pll_rates_turns : turns (opening greatest_pll (2 ∷ []) false 100) pll_rates ≡ stated pll_rates
unfolding turns
pll_rates_turns = refl

pub pll_rates_registers : (replay (opening greatest_pll (2 ∷ []) false 100) pll_rates).regs ≡ 4 ∷ []
unfolding turns
pll_rates_registers = refl
