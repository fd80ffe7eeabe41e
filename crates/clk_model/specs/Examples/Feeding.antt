-- Clocks that run while they are changed, or whose parents do.
use Rattle.std.specs.Prelude.{◌≡◌, List, [], ◌∷◌, ◌++◌, true, false, Some, codes, refl, drop, take, length}
use Rattle.clk_base.specs.declared.clock.Kind.TheVariants as kinds
use Rattle.clk_base.specs.declared.call.Micro.TheVariants as micro
use Rattle.clk_base.specs.declared.call.Sleeping.TheVariants as call
use Rattle.clk_base.specs.declared.event.Entry.{Entry}
use Rattle.clk_base.specs.declared.event.Errno.TheVariants as errno
use Rattle.clk_base.specs.declared.event.Reply.TheVariants as reply
use Rattle.clk_base.specs.Description.{Description}
use Rattle.clk_model.specs.State.{State}
use Rattle.clk_model.specs.Chain.{clock_id}
use Rattle.clk_model.specs.Journal.{opening, replay}
use Rattle.clk_model.specs.Examples.Rows.{turns, stated, words_after, flagged, handle, begins, goes_on, step, poll, polls_in_vain, ends}

-- ---- bundle b1

abbrev pub b1_defs : Description
b1_defs =
    flagged 0 (codes "osc") (kinds.FixedRate 24000000) [] ∷ flagged 0 (codes "alt") (kinds.FixedRate 30000000) [] ∷ flagged 0 (codes "ga") (kinds.Gate 0 0 false) (0 ∷ []) ∷ flagged 0 (codes "gb") (kinds.Gate 0 1 false) (1 ∷ []) ∷ flagged 64 (codes "m") (kinds.Mux 1 0 1 false) (2 ∷ 3 ∷ []) ∷ flagged 0 (codes "g") (kinds.Gate 0 2 false) (4 ∷ []) ∷ []

abbrev pub b1_start : State
b1_start = opening b1_defs (0 ∷ 0 ∷ []) false 100

abbrev pub b1_run : List Entry
b1_run =
    begins 0 (call.Probe (clock_id 0)) reply.Fine ∷
    begins 0 (call.Probe (clock_id 1)) reply.Fine ∷
    begins 0 (call.Probe (clock_id 2)) reply.Fine ∷
    begins 0 (call.Probe (clock_id 3)) reply.Fine ∷
    begins 0 (call.Probe (clock_id 4)) reply.Fine ∷
    begins 0 (call.Probe (clock_id 5)) reply.Fine ∷
    begins 1 (call.Get (Some (clock_id 4))) (reply.Handle (handle 0 1)) ∷
    goes_on 1 (call.SetParent (handle 0 1) (clock_id 3)) ∷
    step 1 (micro.Raise (clock_id 4)) ∷
    step 1 (micro.Raise (clock_id 3)) ∷
    step 1 (micro.HoldPrepare (clock_id 4)) ∷
    step 1 (micro.HoldEnable (clock_id 4)) ∷
    step 1 (micro.HoldPrepare (clock_id 3)) ∷
    step 1 (micro.HoldEnable (clock_id 3)) ∷
    step 1 (micro.Relink (clock_id 4) (clock_id 3)) ∷
    step 1 (micro.WriteMux (clock_id 4) 1) ∷
    step 1 (micro.DropEnable (clock_id 2)) ∷
    step 1 (micro.DropPrepare (clock_id 2)) ∷
    step 1 (micro.Lower (clock_id 2)) ∷
    step 1 (micro.DropEnable (clock_id 4)) ∷
    step 1 (micro.DropPrepare (clock_id 4)) ∷
    step 1 (micro.Lower (clock_id 4)) ∷
    step 1 (micro.Visit (clock_id 4)) ∷
    step 1 (micro.Visit (clock_id 5)) ∷
    step 1 (micro.Settle (clock_id 4)) ∷
    ends 1 reply.Fine ∷ []

pub b1_turns : turns b1_start b1_run ≡ stated b1_run
unfolding turns
b1_turns = refl

pub b1_registers : (replay b1_start b1_run).regs ≡ 0 ∷ 0x00000001 ∷ []
unfolding turns
b1_registers = refl

pub b1_holds : ((replay b1_start b1_run).prepare_holds ≡ []) × ((replay b1_start b1_run).enable_holds ≡ [])
unfolding turns
b1_holds = (refl, refl)

-- ---- bundle b2

abbrev pub b2_defs : Description
b2_defs =
    flagged 0 (codes "ref") (kinds.FixedRate 100) [] ∷ flagged 0 (codes "gr") (kinds.Gate 0 0 false) (0 ∷ []) ∷ flagged 128 (codes "d") (kinds.Divider 1 0 3 false false) (1 ∷ []) ∷ []

abbrev pub b2_start : State
b2_start = opening b2_defs (0 ∷ 0 ∷ []) false 100

abbrev pub b2_run : List Entry
b2_run =
    begins 0 (call.Probe (clock_id 0)) reply.Fine ∷
    begins 0 (call.Probe (clock_id 1)) reply.Fine ∷
    begins 0 (call.Probe (clock_id 2)) reply.Fine ∷
    begins 1 (call.Get (Some (clock_id 2))) (reply.Handle (handle 0 1)) ∷
    goes_on 1 (call.SetRate (handle 0 1) 50) ∷
    step 1 (micro.Raise (clock_id 2)) ∷
    step 1 (micro.HoldPrepare (clock_id 2)) ∷
    step 1 (micro.HoldEnable (clock_id 2)) ∷
    step 1 (micro.Visit (clock_id 2)) ∷
    step 1 (micro.DropEnable (clock_id 2)) ∷
    step 1 (micro.DropPrepare (clock_id 2)) ∷
    step 1 (micro.Lower (clock_id 2)) ∷
    ends 1 reply.Fine ∷ []

pub b2_turns : turns b2_start b2_run ≡ stated b2_run
unfolding turns
b2_turns = refl

pub b2_registers : (replay b2_start b2_run).regs ≡ 0 ∷ 0x00000001 ∷ []
unfolding turns
b2_registers = refl

pub b2_holds : ((replay b2_start b2_run).prepare_holds ≡ []) × ((replay b2_start b2_run).enable_holds ≡ [])
unfolding turns
b2_holds = (refl, refl)

-- ---- bundle b3

abbrev pub b3_defs : Description
b3_defs =
    flagged 0 (codes "osc") (kinds.FixedRate 24000000) [] ∷ flagged 0 (codes "p") (kinds.Pll 0 0 9 0 31 100 400 24) (0 ∷ []) ∷ flagged 128 (codes "d") (kinds.Divider 1 0 3 false false) (1 ∷ []) ∷ flagged 64 (codes "g") (kinds.Gate 1 8 false) (1 ∷ []) ∷ flagged 64 (codes "e") (kinds.Gate 1 9 false) (0 ∷ []) ∷ flagged 64 (codes "f") (kinds.Gate 1 10 false) (1 ∷ []) ∷ []

abbrev pub b3_start : State
b3_start = opening b3_defs (0x64 ∷ 0x700 ∷ []) false 100

abbrev pub b3_run : List Entry
b3_run =
    begins 0 (call.Probe (clock_id 0)) reply.Fine ∷
    begins 0 (call.Probe (clock_id 1)) reply.Fine ∷
    begins 0 (call.Probe (clock_id 2)) reply.Fine ∷
    begins 0 (call.Probe (clock_id 3)) reply.Fine ∷
    begins 0 (call.Probe (clock_id 4)) reply.Fine ∷
    begins 0 (call.Probe (clock_id 5)) reply.Fine ∷
    begins 1 (call.Get (Some (clock_id 2))) (reply.Handle (handle 0 1)) ∷
    goes_on 1 (call.SetRate (handle 0 1) 25000000) ∷
    step 1 (micro.Raise (clock_id 2)) ∷
    polls_in_vain 32 1 (clock_id 1) ++
    step 1 (micro.Fall (clock_id 1)) ∷
    step 1 (micro.Visit (clock_id 2)) ∷
    ends 1 (reply.Refused errno.ETIMEDOUT) ∷
    begins 1 (call.GetRate (handle 0 1)) (reply.Rate 100000000) ∷
    goes_on 1 (call.Sweep) ∷
    step 1 (micro.Raise (clock_id 0)) ∷
    step 1 (micro.HoldPrepare (clock_id 0)) ∷
    step 1 (micro.HoldEnable (clock_id 0)) ∷
    step 1 (micro.Close (clock_id 4)) ∷
    step 1 (micro.DropEnable (clock_id 0)) ∷
    step 1 (micro.DropPrepare (clock_id 0)) ∷
    step 1 (micro.Lower (clock_id 0)) ∷
    step 1 (micro.Raise (clock_id 1)) ∷
    polls_in_vain 32 1 (clock_id 1) ++
    step 1 (micro.Fall (clock_id 1)) ∷
    step 1 (micro.Raise (clock_id 1)) ∷
    polls_in_vain 32 1 (clock_id 1) ++
    step 1 (micro.Fall (clock_id 1)) ∷
    ends 1 (reply.Refused errno.ETIMEDOUT) ∷ []

pub b3_turns : turns b3_start b3_run ≡ stated b3_run
unfolding turns
b3_turns = refl

pub b3_registers : (replay b3_start b3_run).regs ≡ 0x00000064 ∷ 0x00000500 ∷ []
unfolding turns
b3_registers = refl

pub b3_holds : ((replay b3_start b3_run).prepare_holds ≡ []) × ((replay b3_start b3_run).enable_holds ≡ [])
unfolding turns
b3_holds = (refl, refl)

-- ---- bundle b4

abbrev pub b4_defs : Description
b4_defs =
    flagged 0 (codes "osc") (kinds.FixedRate 24000000) [] ∷ flagged 0 (codes "p") (kinds.Pll 0 0 9 0 31 100 400 24) (0 ∷ []) ∷ flagged 0 (codes "q") (kinds.Pll 1 0 9 1 31 100 400 24) (0 ∷ []) ∷ flagged 64 (codes "m") (kinds.Mux 2 0 1 false) (1 ∷ 2 ∷ []) ∷ flagged 64 (codes "d") (kinds.Divider 2 4 3 false false) (3 ∷ []) ∷ []

abbrev pub b4_start : State
b4_start = opening b4_defs (0x64 ∷ 0xc8 ∷ 0 ∷ []) false 100

abbrev pub b4_run : List Entry
b4_run =
    begins 0 (call.Probe (clock_id 0)) reply.Fine ∷
    begins 0 (call.Probe (clock_id 1)) reply.Fine ∷
    begins 0 (call.Probe (clock_id 2)) reply.Fine ∷
    begins 0 (call.Probe (clock_id 3)) reply.Fine ∷
    begins 0 (call.Probe (clock_id 4)) reply.Fine ∷
    begins 1 (call.Get (Some (clock_id 3))) (reply.Handle (handle 0 1)) ∷
    goes_on 1 (call.SetRate (handle 0 1) 200000000) ∷
    step 1 (micro.Raise (clock_id 3)) ∷
    poll 1 (clock_id 1) true ∷
    step 1 (micro.Raise (clock_id 2)) ∷
    polls_in_vain 32 1 (clock_id 2) ++
    step 1 (micro.Fall (clock_id 2)) ∷
    step 1 (micro.Fall (clock_id 1)) ∷
    step 1 (micro.Visit (clock_id 3)) ∷
    step 1 (micro.Visit (clock_id 4)) ∷
    ends 1 (reply.Refused errno.ETIMEDOUT) ∷
    begins 1 (call.GetParent (handle 0 1)) (reply.Clock (Some (clock_id 1))) ∷
    goes_on 1 (call.SetParent (handle 0 1) (clock_id 2)) ∷
    step 1 (micro.Raise (clock_id 3)) ∷
    poll 1 (clock_id 1) true ∷
    step 1 (micro.Raise (clock_id 2)) ∷
    polls_in_vain 32 1 (clock_id 2) ++
    step 1 (micro.Fall (clock_id 2)) ∷
    step 1 (micro.Fall (clock_id 1)) ∷
    ends 1 (reply.Refused errno.ETIMEDOUT) ∷
    begins 1 (call.Get (Some (clock_id 4))) (reply.Handle (handle 1 1)) ∷
    goes_on 1 (call.SetRate (handle 1 1) 50000000) ∷
    step 1 (micro.Raise (clock_id 3)) ∷
    poll 1 (clock_id 1) true ∷
    step 1 (micro.HoldPrepare (clock_id 3)) ∷
    step 1 (micro.HoldEnable (clock_id 3)) ∷
    step 1 (micro.Visit (clock_id 4)) ∷
    step 1 (micro.DropEnable (clock_id 3)) ∷
    step 1 (micro.DropPrepare (clock_id 3)) ∷
    step 1 (micro.Lower (clock_id 3)) ∷
    ends 1 reply.Fine ∷ []

pub b4_turns : turns b4_start b4_run ≡ stated b4_run
unfolding turns
b4_turns = refl

pub b4_registers : (replay b4_start b4_run).regs ≡ 0x00000064 ∷ 0x000000c8 ∷ 0x00000010 ∷ []
unfolding turns
b4_registers = refl

pub b4_holds : ((replay b4_start b4_run).prepare_holds ≡ []) × ((replay b4_start b4_run).enable_holds ≡ [])
unfolding turns
b4_holds = (refl, refl)

-- ---- bundle b5

abbrev pub b5_defs : Description
b5_defs =
    flagged 0 (codes "osc") (kinds.FixedRate 24000000) [] ∷ flagged 0 (codes "p") (kinds.Pll 0 0 9 0 31 100 400 24) (0 ∷ []) ∷ flagged 0 (codes "q") (kinds.Pll 1 0 9 1 31 100 400 24) (0 ∷ []) ∷ flagged 64 (codes "m") (kinds.Mux 2 0 1 false) (1 ∷ 2 ∷ []) ∷ flagged 64 (codes "d") (kinds.Divider 2 4 3 false false) (3 ∷ []) ∷ []

abbrev pub b5_start : State
b5_start = opening b5_defs (0x64 ∷ 0xc8 ∷ 0 ∷ []) false 100

abbrev pub b5_run : List Entry
b5_run =
    begins 0 (call.Probe (clock_id 0)) reply.Fine ∷
    begins 0 (call.Probe (clock_id 1)) reply.Fine ∷
    begins 0 (call.Probe (clock_id 2)) reply.Fine ∷
    begins 0 (call.Probe (clock_id 3)) reply.Fine ∷
    begins 0 (call.Probe (clock_id 4)) reply.Fine ∷
    begins 1 (call.Get (Some (clock_id 3))) (reply.Handle (handle 0 1)) ∷
    goes_on 1 (call.SetRate (handle 0 1) 200000000) ∷
    step 1 (micro.Raise (clock_id 3)) ∷
    poll 1 (clock_id 1) true ∷
    step 1 (micro.Raise (clock_id 2)) ∷
    poll 1 (clock_id 2) true ∷
    step 1 (micro.HoldPrepare (clock_id 3)) ∷
    step 1 (micro.HoldEnable (clock_id 3)) ∷
    step 1 (micro.HoldPrepare (clock_id 2)) ∷
    step 1 (micro.HoldEnable (clock_id 2)) ∷
    step 1 (micro.Relink (clock_id 3) (clock_id 2)) ∷
    step 1 (micro.WriteMux (clock_id 3) 1) ∷
    step 1 (micro.DropEnable (clock_id 1)) ∷
    step 1 (micro.DropPrepare (clock_id 1)) ∷
    step 1 (micro.Lower (clock_id 1)) ∷
    step 1 (micro.DropEnable (clock_id 3)) ∷
    step 1 (micro.DropPrepare (clock_id 3)) ∷
    step 1 (micro.Lower (clock_id 3)) ∷
    step 1 (micro.Visit (clock_id 3)) ∷
    step 1 (micro.Visit (clock_id 4)) ∷
    ends 1 reply.Fine ∷
    begins 1 (call.GetParent (handle 0 1)) (reply.Clock (Some (clock_id 2))) ∷
    begins 1 (call.SetParent (handle 0 1) (clock_id 2)) reply.Fine ∷
    begins 1 (call.Get (Some (clock_id 4))) (reply.Handle (handle 1 1)) ∷
    goes_on 1 (call.SetRate (handle 1 1) 50000000) ∷
    step 1 (micro.Raise (clock_id 3)) ∷
    poll 1 (clock_id 2) true ∷
    step 1 (micro.HoldPrepare (clock_id 3)) ∷
    step 1 (micro.HoldEnable (clock_id 3)) ∷
    step 1 (micro.Visit (clock_id 4)) ∷
    step 1 (micro.DropEnable (clock_id 3)) ∷
    step 1 (micro.DropPrepare (clock_id 3)) ∷
    step 1 (micro.Lower (clock_id 3)) ∷
    ends 1 reply.Fine ∷ []

pub b5_turns : turns b5_start b5_run ≡ stated b5_run
unfolding turns
b5_turns = refl

pub b5_registers : (replay b5_start b5_run).regs ≡ 0x00000064 ∷ 0x000000c8 ∷ 0x00000031 ∷ []
unfolding turns
b5_registers = refl

pub b5_holds : ((replay b5_start b5_run).prepare_holds ≡ []) × ((replay b5_start b5_run).enable_holds ≡ [])
unfolding turns
b5_holds = (refl, refl)

-- ---- the words of the two rows, after each event from the beginning of the call

pub b1_words : words_after (replay b1_start (take 7 b1_run)) (drop 7 b1_run) ≡
    (0 ∷ 0 ∷ []) ∷ (0 ∷ 0 ∷ []) ∷ (0 ∷ 0 ∷ []) ∷ (0 ∷ 0 ∷ [])
    ∷ (1 ∷ 0 ∷ []) ∷ (1 ∷ 0 ∷ []) ∷ (3 ∷ 0 ∷ []) ∷ (3 ∷ 0 ∷ []) ∷ (3 ∷ 1 ∷ []) ∷ (2 ∷ 1 ∷ []) ∷ (2 ∷ 1 ∷ []) ∷ (2 ∷ 1 ∷ [])
    ∷ (0 ∷ 1 ∷ []) ∷ (0 ∷ 1 ∷ []) ∷ (0 ∷ 1 ∷ []) ∷ (0 ∷ 1 ∷ []) ∷ (0 ∷ 1 ∷ []) ∷ (0 ∷ 1 ∷ []) ∷ (0 ∷ 1 ∷ []) ∷ []
unfolding turns
b1_words = refl

pub b1_length : length (drop 7 b1_run) ≡ 19
b1_length = refl

pub b2_words : words_after (replay b2_start (take 4 b2_run)) (drop 4 b2_run) ≡
    (0 ∷ 0 ∷ []) ∷ (0 ∷ 0 ∷ []) ∷ (0 ∷ 0 ∷ []) ∷ (1 ∷ 0 ∷ []) ∷ (1 ∷ 1 ∷ []) ∷ (0 ∷ 1 ∷ []) ∷ (0 ∷ 1 ∷ []) ∷ (0 ∷ 1 ∷ []) ∷ (0 ∷ 1 ∷ []) ∷ []
unfolding turns
b2_words = refl

pub b2_length : length (drop 4 b2_run) ≡ 9
b2_length = refl
