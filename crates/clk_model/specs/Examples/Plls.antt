-- PLLs that are raised, polled and lowered, and that don't lock in time.
use Rattle.std.specs.Prelude.{◌≡◌, List, [], ◌∷◌, ◌++◌, true, false, codes, replicate, refl, length}
use Rattle.clk_base.specs.declared.clock.ClockId.{ClockId}
use Rattle.clk_base.specs.declared.clock.Kind.TheVariants as kinds
use Rattle.clk_base.specs.declared.call.Micro.TheVariants as micro
use Rattle.clk_base.specs.declared.call.Sleeping.TheVariants as call
use Rattle.clk_base.specs.declared.event.Entry.{Entry}
use Rattle.clk_base.specs.declared.event.Errno.TheVariants as errno
use Rattle.clk_base.specs.declared.event.Event.TheVariants as event
use Rattle.clk_base.specs.declared.event.Reply.TheVariants as reply
use Rattle.clk_base.specs.declared.handle.Handle.{Handle}
use Rattle.clk_base.specs.Description.{Description}
use Rattle.clk_model.specs.State.{State}
use Rattle.clk_model.specs.Chain.{clock_id}
use Rattle.clk_model.specs.Journal.{opening, replay}
use Rattle.clk_model.specs.Examples.Rows.{turns, stated, words_after, clock, flagged, critical, handle, answers, goes_on, step, poll, polls_in_vain, ends, boot, gets}

-- ---- a PLL above a gate and a mux

-- `fixed osc 24000000`, `pll p osc 0 0 9 0 31 100 400 24`, `gate g p 1 0`, `mux m 2 0 1 2 osc p`
abbrev pub board : Description
board =
    clock (codes "osc") (kinds.FixedRate 24000000) [] ∷ clock (codes "p") (kinds.Pll 0 0 9 0 31 100 400 24) (0 ∷ [])
    ∷ clock (codes "g") (kinds.Gate 1 0 false) (1 ∷ []) ∷ clock (codes "m") (kinds.Mux 2 0 1 false) (0 ∷ 1 ∷ []) ∷ []

abbrev pub p : ClockId
p = clock_id 1

abbrev pub g : ClockId
g = clock_id 2

abbrev pub m : ClockId
m = clock_id 3

abbrev a : Handle
a = handle 0 1

abbrev pub board_start : State
board_start = opening board (0x64 ∷ 0 ∷ 0 ∷ []) false 100

abbrev pub start : List Entry
start = boot 4 ++ gets 1 g 0 ∷ []

abbrev pub raised : List Entry
raised = goes_on 1 (call.Prepare a) ∷ step 1 (micro.Raise g) ∷ poll 1 p true ∷ ends 1 reply.Fine ∷ []

abbrev pub lowered : List Entry
lowered = goes_on 1 (call.Unprepare a) ∷ step 1 (micro.Lower g) ∷ ends 1 reply.Fine ∷ []

-- a prepare raises the PLL above the gate and an unprepare lowers it
pub raised_and_lowered_turns : turns board_start (start ++ raised ++ lowered) ≡ stated (start ++ raised ++ lowered)
unfolding turns
raised_and_lowered_turns = refl

pub raised_registers : (replay board_start (start ++ raised)).regs ≡ 0x80000064 ∷ 0 ∷ 0 ∷ []
unfolding turns
raised_registers = refl

pub lowered_registers : (replay board_start (start ++ raised ++ lowered)).regs ≡ 0x00000064 ∷ 0 ∷ 0 ∷ []
unfolding turns
lowered_registers = refl

-- ---- the last poll

-- a PLL that locks at its 32nd poll is in time
abbrev in_time : List Entry
in_time = goes_on 1 (call.Prepare a) ∷ step 1 (micro.Raise g) ∷ polls_in_vain 31 1 p ++ poll 1 p true ∷ ends 1 reply.Fine ∷ []

pub in_time_turns : turns board_start (start ++ in_time) ≡ stated (start ++ in_time)
unfolding turns
in_time_turns = refl

pub in_time_length : length in_time ≡ 35
in_time_length = refl

pub in_time_registers : (replay board_start (start ++ in_time)).regs ≡ 0x80000064 ∷ 0 ∷ 0 ∷ []
unfolding turns
in_time_registers = refl

-- a PLL that would lock at its 33rd poll isn't: it falls, and the prepare is refused
abbrev too_late : List Entry
too_late =
    goes_on 1 (call.Prepare a) ∷ step 1 (micro.Raise g) ∷ polls_in_vain 32 1 p ++ step 1 (micro.Fall p)
    ∷ ends 1 (reply.Refused errno.ETIMEDOUT) ∷ []

abbrev too_late_enable : List Entry
too_late_enable = start ++ too_late ++ answers 1 (event.Enable 0) (reply.Refused errno.ESHUTDOWN) ∷ []

pub too_late_turns : turns board_start too_late_enable ≡ stated too_late_enable
unfolding turns
too_late_turns = refl

pub too_late_length : length too_late ≡ 36
too_late_length = refl

pub too_late_registers : (replay board_start too_late_enable).regs ≡ 0x00000064 ∷ 0 ∷ 0 ∷ []
unfolding turns
too_late_registers = refl

-- ---- two PLLs

-- `fixed osc 24000000`, `pll p osc 0 0 9 0 31 100 400 24`, `pll q p 1 0 9 1 31 100 400 24`, `gate gq q 2 0`
abbrev two_plls : Description
two_plls =
    clock (codes "osc") (kinds.FixedRate 24000000) [] ∷ clock (codes "p") (kinds.Pll 0 0 9 0 31 100 400 24) (0 ∷ [])
    ∷ clock (codes "q") (kinds.Pll 1 0 9 1 31 100 400 24) (1 ∷ []) ∷ clock (codes "gq") (kinds.Gate 2 0 false) (2 ∷ []) ∷ []

abbrev q : ClockId
q = clock_id 2

abbrev gq : ClockId
gq = clock_id 3

abbrev pub two_plls_start : State
two_plls_start = opening two_plls (0x64 ∷ 0x64 ∷ 0 ∷ []) false 100

abbrev pub two_plls_get : List Entry
two_plls_get = boot 4 ++ gets 1 gq 0 ∷ []

abbrev pub lower_too_late : List Entry
lower_too_late =
    goes_on 1 (call.Prepare a) ∷ step 1 (micro.Raise gq) ∷ poll 1 p true ∷ step 1 (micro.Raise gq) ∷ polls_in_vain 32 1 q
    ++ step 1 (micro.Fall q) ∷ step 1 (micro.Fall p) ∷ ends 1 (reply.Refused errno.ETIMEDOUT) ∷ []

-- the upper PLL locks and the lower one doesn't: both fall, the one raised last first
pub lower_too_late_turns : turns two_plls_start (two_plls_get ++ lower_too_late) ≡ stated (two_plls_get ++ lower_too_late)
unfolding turns
lower_too_late_turns = refl

pub lower_too_late_length : length lower_too_late ≡ 39
lower_too_late_length = refl

pub lower_too_late_registers : (replay two_plls_start (two_plls_get ++ lower_too_late)).regs ≡ 0x00000064 ∷ 0x00000064 ∷ 0 ∷ []
unfolding turns
lower_too_late_registers = refl

-- the upper PLL locks at its second poll, and the raise of the lower one comes behind
abbrev one_after_the_other : List Entry
one_after_the_other =
    goes_on 1 (call.Prepare a) ∷ step 1 (micro.Raise gq) ∷ poll 1 p false ∷ poll 1 p true ∷ step 1 (micro.Raise gq) ∷ poll 1 q true ∷ ends 1 reply.Fine ∷ []

pub one_after_the_other_turns : turns two_plls_start (two_plls_get ++ one_after_the_other) ≡ stated (two_plls_get ++ one_after_the_other)
unfolding turns
one_after_the_other_turns = refl

-- ---- a PLL above a critical clock

-- `fixed osc 24000000`, `pll p osc 0 0 9 0 31 100 400 24`, `gate c p 1 0 critical`
abbrev critical_board : Description
critical_board =
    clock (codes "osc") (kinds.FixedRate 24000000) [] ∷ clock (codes "p") (kinds.Pll 0 0 9 0 31 100 400 24) (0 ∷ [])
    ∷ flagged critical (codes "c") (kinds.Gate 1 0 false) (1 ∷ []) ∷ []

abbrev c : ClockId
c = clock_id 2

abbrev critical_probe : List Entry
critical_probe = goes_on 0 (call.Probe c) ∷ step 0 (micro.Raise c) ∷ poll 0 p true ∷ step 0 (micro.Register c) ∷ ends 0 reply.Fine ∷ []

-- the PLL is raised before the critical clock is registered, and the gate opens with the registration
pub critical_probe_turns : turns (opening critical_board (0x64 ∷ 0 ∷ []) false 100) (boot 2 ++ critical_probe) ≡ stated (boot 2 ++ critical_probe)
unfolding turns
critical_probe_turns = refl

pub critical_probe_words : words_after (replay (opening critical_board (0x64 ∷ 0 ∷ []) false 100) (boot 2)) critical_probe ≡
    (0x64 ∷ 0 ∷ []) ∷ (0x80000064 ∷ 0 ∷ []) ∷ (0x80000064 ∷ 0 ∷ []) ∷ (0x80000064 ∷ 1 ∷ []) ∷ (0x80000064 ∷ 1 ∷ []) ∷ []
unfolding turns
critical_probe_words = refl

-- ---- a mux that leaves a PLL

-- `fixed osc 24000000`, `pll p osc 0 0 9 0 31 100 400 24`, `mux m 1 0 1 2 osc p`, whose field is 1
abbrev left_board : Description
left_board =
    clock (codes "osc") (kinds.FixedRate 24000000) [] ∷ clock (codes "p") (kinds.Pll 0 0 9 0 31 100 400 24) (0 ∷ [])
    ∷ clock (codes "m") (kinds.Mux 1 0 1 false) (0 ∷ 1 ∷ []) ∷ []

abbrev osc : ClockId
osc = clock_id 0

abbrev leaver : ClockId
leaver = clock_id 2

abbrev left_start : State
left_start = opening left_board (0x64 ∷ 1 ∷ []) false 100

abbrev before_leaving : List Entry
before_leaving =
    boot 3 ++ gets 1 leaver 0
    ∷ goes_on 1 (call.Prepare a) ∷ step 1 (micro.Raise leaver) ∷ poll 1 p true ∷ ends 1 reply.Fine ∷ []

-- the PLL that nobody else uses is powered off behind the move
abbrev leaving : List Entry
leaving =
    goes_on 1 (call.SetRate a 24000000)
    ∷ step 1 (micro.Raise osc) ∷ step 1 (micro.HoldPrepare osc) ∷ step 1 (micro.HoldEnable osc) ∷ step 1 (micro.HoldEnable leaver)
    ∷ step 1 (micro.Relink leaver osc) ∷ step 1 (micro.WriteMux leaver 0) ∷ step 1 (micro.DropEnable leaver)
    ∷ step 1 (micro.DropEnable p) ∷ step 1 (micro.DropPrepare p)
    ∷ step 1 (micro.Lower p)
    ∷ step 1 (micro.Visit leaver) ∷ ends 1 reply.Fine
    ∷ []

pub leaving_turns : turns left_start (before_leaving ++ leaving) ≡ stated (before_leaving ++ leaving)
unfolding turns
leaving_turns = refl

pub leaving_words : words_after (replay left_start before_leaving) leaving ≡
    replicate 6 (0x80000064 ∷ 1 ∷ []) ++ replicate 4 (0x80000064 ∷ 0 ∷ []) ++ replicate 3 (0x64 ∷ 0 ∷ [])
unfolding turns
leaving_words = refl

-- ---- two PLLs that are lowered

abbrev both_raised : List Entry
both_raised =
    two_plls_get ++ goes_on 1 (call.Prepare a)
    ∷ step 1 (micro.Raise gq) ∷ poll 1 p true ∷ step 1 (micro.Raise gq) ∷ poll 1 q true ∷ ends 1 reply.Fine ∷ []

abbrev both_lowered : List Entry
both_lowered = goes_on 1 (call.Unprepare a) ∷ step 1 (micro.Lower gq) ∷ step 1 (micro.Lower gq) ∷ ends 1 reply.Fine ∷ []

pub both_lowered_turns : turns two_plls_start (both_raised ++ both_lowered) ≡ stated (both_raised ++ both_lowered)
unfolding turns
both_lowered_turns = refl

-- the lower PLL is powered off before the one that feeds it
pub both_lowered_words : words_after (replay two_plls_start both_raised) both_lowered ≡
    (0x80000064 ∷ 0x80000064 ∷ 0 ∷ []) ∷ (0x80000064 ∷ 0x64 ∷ 0 ∷ []) ∷ (0x64 ∷ 0x64 ∷ 0 ∷ []) ∷ (0x64 ∷ 0x64 ∷ 0 ∷ []) ∷ []
unfolding turns
both_lowered_words = refl
