-- Moves, registrations and adoptions whose PLL doesn't lock in time.
use Rattle.std.specs.Prelude.{◌≡◌, List, [], ◌∷◌, ◌++◌, true, false, Some, None, pos, codes, map, refl, length, option_map}
use Rattle.std.specs.List.{list_any}
use Rattle.clk_base.specs.declared.clock.ClockId.{ClockId}
use Rattle.clk_base.specs.declared.clock.Kind.TheVariants as kinds
use Rattle.clk_base.specs.declared.call.Micro.TheVariants as micro
use Rattle.clk_base.specs.declared.call.Notice.TheVariants as notice
use Rattle.clk_base.specs.declared.call.Sleeping.TheVariants as call
use Rattle.clk_base.specs.declared.event.Entry.{Entry}
use Rattle.clk_base.specs.declared.event.Errno.TheVariants as errno
use Rattle.clk_base.specs.declared.event.Reply.TheVariants as reply
use Rattle.clk_base.specs.declared.handle.Handle.{Handle}
use Rattle.clk_base.specs.declared.handle.Policy.TheVariants as policy
use Rattle.clk_base.specs.Description.{Description}
use Rattle.clk_model.specs.State.{State, link_in}
use Rattle.clk_model.specs.Chain.{clock_id}
use Rattle.clk_model.specs.Journal.{opening, replay}
use Rattle.clk_model.specs.Laws.NothingLeft.{gives_link, move_left}
use Rattle.clk_model.specs.Examples.Rows.{turns, stated, clock, flagged, critical, handle, begins, goes_on, step, poll, polls_in_vain, in_vain, ends, probe, boot, gets}
use Rattle.clk_model.specs.Examples.Plls.{board_start, p, m}

abbrev a : Handle
a = handle 0 1

-- ---- a change of parent

abbrev before_reparenting : List Entry
before_reparenting =
    boot 4 ++ gets 1 m 0 ∷ begins 1 (call.Prepare a) reply.Fine
    ∷ begins 1 (call.NotifierAdd a 1 (pos 0) policy.Accept) reply.Fine ∷ []

abbrev reparenting : List Entry
reparenting =
    goes_on 1 (call.SetParent a p)
    ∷ step 1 (micro.Notify (notice.Pre false) m 1 24000000 100000000)
    ∷ in_vain 1 p p
    ++ step 1 (micro.Notify notice.Abort m 1 24000000 100000000)
    ∷ ends 1 (reply.Refused errno.ETIMEDOUT) ∷ []

abbrev whole_reparenting : List Entry
whole_reparenting = before_reparenting ++ reparenting ++ begins 1 (call.GetParent a) (reply.Clock (Some (clock_id 0))) ∷ []

-- the notifiers hear that the change is called off, and the mux stays where it was
pub reparenting_turns : turns board_start whole_reparenting ≡ stated whole_reparenting
unfolding turns
reparenting_turns = refl

pub reparenting_length : length reparenting ≡ 38
reparenting_length = refl

pub reparenting_registers : (replay board_start whole_reparenting).regs ≡ 0x64 ∷ 0 ∷ 0 ∷ []
unfolding turns
reparenting_registers = refl

pub reparenting_prepare_holds : (replay board_start whole_reparenting).prepare_holds ≡ []
unfolding turns
reparenting_prepare_holds = refl

pub reparenting_enable_holds : (replay board_start whole_reparenting).enable_holds ≡ []
unfolding turns
reparenting_enable_holds = refl

-- ---- a change of rate that moves a mux

-- `fixed osc 24000000`, `pll p osc 0 0 9 0 31 100 400 24`, `mux mux m 1 0 1 2 osc p`
abbrev moved : Description
moved =
    clock (codes "osc") (kinds.FixedRate 24000000) [] ∷ clock (codes "p") (kinds.Pll 0 0 9 0 31 100 400 24) (0 ∷ [])
    ∷ clock (codes "m") (kinds.Mux 1 0 1 false) (0 ∷ 1 ∷ []) ∷ []

abbrev mover : ClockId
mover = clock_id 2

abbrev moved_start : State
moved_start = opening moved (0x64 ∷ 0 ∷ []) false 100

abbrev moving : List Entry
moving =
    goes_on 1 (call.SetRate a 100000000) ∷ in_vain 1 p p ++ step 1 (micro.Visit mover) ∷ ends 1 (reply.Refused errno.ETIMEDOUT) ∷ []

abbrev whole_moving : List Entry
whole_moving =
    boot 3 ++ gets 1 mover 0 ∷ begins 1 (call.Prepare a) reply.Fine
    ∷ moving
    ++ begins 1 (call.GetParent a) (reply.Clock (Some (clock_id 0)))
    ∷ begins 1 (call.GetRate a) (reply.Rate 24000000)
    ∷ []

-- the move is dropped and the walk goes on
pub moving_turns : turns moved_start whole_moving ≡ stated whole_moving
unfolding turns
moving_turns = refl

pub moving_length : length moving ≡ 37
moving_length = refl

-- before the last poll that is answered by no
abbrev nearly_timed_out : List Entry
nearly_timed_out =
    boot 3 ++ gets 1 mover 0 ∷ begins 1 (call.Prepare a) reply.Fine
    ∷ goes_on 1 (call.SetRate a 100000000) ∷ step 1 (micro.Raise p) ∷ polls_in_vain 31 1 p

-- the move at hand is still to give the mux its link, and the poll may not ask again
pub moving_at_hand : option_map (λ k. list_any (gives_link mover.0) (move_left k.left)) (replay moved_start nearly_timed_out).change ≡ Some true
unfolding turns
moving_at_hand = refl

pub moving_last_poll : option_map (λ k. k.polls) (replay moved_start nearly_timed_out).change ≡ Some 1
unfolding turns
moving_last_poll = refl

pub moving_registers : (replay moved_start whole_moving).regs ≡ 0x64 ∷ 0 ∷ []
unfolding turns
moving_registers = refl

-- the last request is the rate of the registration, as before
pub moving_requests : map (λ row. row.last_request) (replay moved_start whole_moving).clocks ≡ 24000000 ∷ 100000000 ∷ 24000000 ∷ []
unfolding turns
moving_requests = refl

pub moving_prepare_holds : (replay moved_start whole_moving).prepare_holds ≡ []
unfolding turns
moving_prepare_holds = refl

pub moving_enable_holds : (replay moved_start whole_moving).enable_holds ≡ []
unfolding turns
moving_enable_holds = refl

-- ---- registrations

-- `fixed osc 24000000`, `pll p osc 0 0 9 0 31 100 400 24`, `gate c p 1 0 critical`, `gate e p 1 1 critical`
abbrev criticals : Description
criticals =
    clock (codes "osc") (kinds.FixedRate 24000000) [] ∷ clock (codes "p") (kinds.Pll 0 0 9 0 31 100 400 24) (0 ∷ [])
    ∷ flagged critical (codes "c") (kinds.Gate 1 0 false) (1 ∷ []) ∷ flagged critical (codes "e") (kinds.Gate 1 1 false) (1 ∷ []) ∷ []

abbrev c : ClockId
c = clock_id 2

abbrev criticals_start : State
criticals_start = opening criticals (0x64 ∷ 0 ∷ []) false 100

abbrev critical_probe : List Entry
critical_probe = goes_on 0 (call.Probe c) ∷ in_vain 0 c p ++ ends 0 (reply.Refused errno.ETIMEDOUT) ∷ []

abbrev unregistered : List Entry
unregistered = boot 2 ++ critical_probe ++ begins 1 (call.Get (Some c)) (reply.Refused errno.EPROBE_DEFER) ∷ []

-- a critical clock whose PLL doesn't lock isn't registered
pub unregistered_turns : turns criticals_start unregistered ≡ stated unregistered
unfolding turns
unregistered_turns = refl

pub critical_probe_length : length critical_probe ≡ 36
critical_probe_length = refl

pub unregistered_registers : (replay criticals_start unregistered).regs ≡ 0x64 ∷ 0 ∷ []
unfolding turns
unregistered_registers = refl

abbrev one_adoption : List Entry
one_adoption = goes_on 1 (call.Probe p) ∷ step 1 (micro.Register p) ∷ in_vain 1 p p ++ ends 1 (reply.Refused errno.ETIMEDOUT) ∷ []

abbrev one_orphan : List Entry
one_orphan = probe 0 ∷ probe 2 ∷ one_adoption ++ gets 1 p 0 ∷ begins 1 (call.Get (Some c)) (reply.Refused errno.EPROBE_DEFER) ∷ []

-- a PLL that doesn't lock is registered, but the critical orphan below it isn't adopted
pub one_orphan_turns : turns criticals_start one_orphan ≡ stated one_orphan
unfolding turns
one_orphan_turns = refl

pub one_adoption_length : length one_adoption ≡ 37
one_adoption_length = refl

pub one_orphan_link : link_in (replay criticals_start one_orphan).clocks 2 ≡ None
unfolding turns
one_orphan_link = refl

-- the orphan is critical, so its own gate is open
pub one_orphan_registers : (replay criticals_start one_orphan).regs ≡ 0x64 ∷ 1 ∷ []
unfolding turns
one_orphan_registers = refl

abbrev two_adoptions : List Entry
two_adoptions =
    goes_on 1 (call.Probe p) ∷ step 1 (micro.Register p) ∷ in_vain 1 p p ++ in_vain 1 p p ++ ends 1 (reply.Refused errno.ETIMEDOUT) ∷ []

abbrev two_orphans : List Entry
two_orphans = probe 0 ∷ probe 2 ∷ probe 3 ∷ two_adoptions

-- each of two orphans is tried by itself
pub two_orphans_turns : turns criticals_start two_orphans ≡ stated two_orphans
unfolding turns
two_orphans_turns = refl

pub two_adoptions_length : length two_adoptions ≡ 71
two_adoptions_length = refl

pub two_orphans_links : map (link_in (replay criticals_start two_orphans).clocks) (2 ∷ 3 ∷ []) ≡ None ∷ None ∷ []
unfolding turns
two_orphans_links = refl

-- ---- a range whose move times out

-- the range is the old one again: with the new one, 24000000 would round to 100000000
abbrev ranging : List Entry
ranging =
    boot 3 ++ gets 1 mover 0 ∷ begins 1 (call.Prepare a) reply.Fine
    ∷ goes_on 1 (call.SetRange a 100000000 200000000) ∷ in_vain 1 p p ++ step 1 (micro.Visit mover) ∷ ends 1 (reply.Refused errno.ETIMEDOUT)
    ∷ begins 1 (call.RoundRate a 24000000) (reply.Rate 24000000)
    ∷ []

pub ranging_turns : turns moved_start ranging ≡ stated ranging
unfolding turns
ranging_turns = refl

-- ---- a PLL that locks and another one that doesn't

-- `fixed osc 24000000`, `pll p osc 0 0 9 0 31 100 400 24`, `pll q osc 1 0 9 1 31 100 400 24`, `gate cp p 2 0 critical`,
-- `gate cq q 2 1 critical`
abbrev two_plls : Description
two_plls =
    clock (codes "osc") (kinds.FixedRate 24000000) [] ∷ clock (codes "p") (kinds.Pll 0 0 9 0 31 100 400 24) (0 ∷ [])
    ∷ clock (codes "q") (kinds.Pll 1 0 9 1 31 100 400 24) (0 ∷ [])
    ∷ flagged critical (codes "cp") (kinds.Gate 2 0 false) (1 ∷ []) ∷ flagged critical (codes "cq") (kinds.Gate 2 1 false) (2 ∷ []) ∷ []

abbrev q : ClockId
q = clock_id 2

abbrev cq : ClockId
cq = clock_id 4

abbrev two_plls_start : State
two_plls_start = opening two_plls (0x64 ∷ 0x64 ∷ 0 ∷ []) false 100

-- one orphan is adopted, and then another one isn't: the PLL of the first stays powered
abbrev one_of_two : List Entry
one_of_two =
    probe 0 ∷ probe 3 ∷ probe 4
    ∷ goes_on 1 (call.Probe p) ∷ step 1 (micro.Register p) ∷ in_vain 1 p p ++ ends 1 (reply.Refused errno.ETIMEDOUT)
    ∷ goes_on 1 (call.Probe q) ∷ step 1 (micro.Register q)
    ∷ step 1 (micro.Raise q) ∷ poll 1 q true ∷ step 1 (micro.HoldPrepare q) ∷ step 1 (micro.HoldEnable q) ∷ step 1 (micro.HoldEnable cq)
    ∷ step 1 (micro.Relink cq q) ∷ step 1 (micro.DropEnable cq) ∷ step 1 (micro.Settle cq)
    ∷ in_vain 1 p p ++ ends 1 (reply.Refused errno.ETIMEDOUT) ∷ []

pub one_of_two_turns : turns two_plls_start one_of_two ≡ stated one_of_two
unfolding turns
one_of_two_turns = refl

pub one_of_two_registers : (replay two_plls_start one_of_two).regs ≡ 0x64 ∷ 0x80000064 ∷ 3 ∷ []
unfolding turns
one_of_two_registers = refl

-- a critical clock is registered, and then an orphan isn't adopted: the registration stands, and the PLL above it stays powered
abbrev registered_all_the_same : List Entry
registered_all_the_same =
    probe 0 ∷ probe 2 ∷ probe 3
    ∷ goes_on 1 (call.Probe p) ∷ step 1 (micro.Register p) ∷ in_vain 1 p p ++ ends 1 (reply.Refused errno.ETIMEDOUT)
    ∷ goes_on 1 (call.Probe cq) ∷ step 1 (micro.Raise cq) ∷ poll 1 q true ∷ step 1 (micro.Register cq)
    ∷ in_vain 1 p p ++ ends 1 (reply.Refused errno.ETIMEDOUT)
    ∷ gets 1 cq 0 ∷ []

pub registered_all_the_same_turns : turns two_plls_start registered_all_the_same ≡ stated registered_all_the_same
unfolding turns
registered_all_the_same_turns = refl

pub registered_all_the_same_registers : (replay two_plls_start registered_all_the_same).regs ≡ 0x64 ∷ 0x80000064 ∷ 3 ∷ []
unfolding turns
registered_all_the_same_registers = refl

-- ---- PLLs that are held by the time that another one doesn't lock

-- `fixed osc 24000000`, `pll p osc 0 0 9 0 31 100 400 24`, `pll r osc 1 0 9 1 31 100 400 24`, `pll s r 2 0 9 2 31 100 400 24`,
-- `gate gs s 3 0`, `gate cp p 3 1 critical`, `gate cs gs 3 2 critical`
abbrev three_plls : Description
three_plls =
    clock (codes "osc") (kinds.FixedRate 24000000) [] ∷ clock (codes "p") (kinds.Pll 0 0 9 0 31 100 400 24) (0 ∷ [])
    ∷ clock (codes "r") (kinds.Pll 1 0 9 1 31 100 400 24) (0 ∷ []) ∷ clock (codes "s") (kinds.Pll 2 0 9 2 31 100 400 24) (2 ∷ [])
    ∷ clock (codes "gs") (kinds.Gate 3 0 false) (3 ∷ []) ∷ flagged critical (codes "cp") (kinds.Gate 3 1 false) (1 ∷ [])
    ∷ flagged critical (codes "cs") (kinds.Gate 3 2 false) (4 ∷ []) ∷ []

abbrev r : ClockId
r = clock_id 2

abbrev s : ClockId
s = clock_id 3

abbrev gs : ClockId
gs = clock_id 4

abbrev cs : ClockId
cs = clock_id 6

abbrev three_plls_start : State
three_plls_start = opening three_plls (0x64 ∷ 0x64 ∷ 0x64 ∷ 0 ∷ []) false 100

-- the critical clock cp waits, for its PLL p didn't lock
abbrev waiting : List Entry
waiting = goes_on 1 (call.Probe p) ∷ step 1 (micro.Register p) ∷ in_vain 1 p p ++ ends 1 (reply.Refused errno.ETIMEDOUT) ∷ []

-- the hold on a gate holds both PLLs above it, so neither of them falls with the one that then doesn't lock
abbrev whole_path_held : List Entry
whole_path_held =
    probe 0 ∷ probe 2 ∷ probe 3 ∷ probe 5 ∷ probe 6 ∷ waiting
    ++ goes_on 1 (call.Probe gs) ∷ step 1 (micro.Register gs)
    ∷ step 1 (micro.Raise gs) ∷ poll 1 r true ∷ step 1 (micro.Raise gs) ∷ poll 1 s true
    ∷ step 1 (micro.HoldPrepare gs) ∷ step 1 (micro.HoldEnable gs) ∷ step 1 (micro.HoldEnable cs)
    ∷ step 1 (micro.Relink cs gs) ∷ step 1 (micro.DropEnable cs) ∷ step 1 (micro.Settle cs)
    ∷ in_vain 1 p p ++ ends 1 (reply.Refused errno.ETIMEDOUT) ∷ []

pub whole_path_held_turns : turns three_plls_start whole_path_held ≡ stated whole_path_held
unfolding turns
whole_path_held_turns = refl

pub whole_path_held_registers : (replay three_plls_start whole_path_held).regs ≡ 0x64 ∷ 0x80000064 ∷ 0x80000064 ∷ 7 ∷ []
unfolding turns
whole_path_held_registers = refl

-- the registration of a critical clock holds them too
abbrev whole_path_registered : List Entry
whole_path_registered =
    probe 0 ∷ probe 2 ∷ probe 3 ∷ probe 4 ∷ probe 5 ∷ waiting
    ++ goes_on 1 (call.Probe cs)
    ∷ step 1 (micro.Raise cs) ∷ poll 1 r true ∷ step 1 (micro.Raise cs) ∷ poll 1 s true ∷ step 1 (micro.Register cs)
    ∷ in_vain 1 p p ++ ends 1 (reply.Refused errno.ETIMEDOUT) ∷ []

pub whole_path_registered_turns : turns three_plls_start whole_path_registered ≡ stated whole_path_registered
unfolding turns
whole_path_registered_turns = refl

pub whole_path_registered_registers : (replay three_plls_start whole_path_registered).regs ≡ 0x64 ∷ 0x80000064 ∷ 0x80000064 ∷ 7 ∷ []
unfolding turns
whole_path_registered_registers = refl
