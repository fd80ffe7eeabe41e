-- The sweep that closes what nobody uses.
use Rattle.std.specs.Prelude.{◌≡◌, List, [], ◌∷◌, ◌++◌, Bool, true, false, codes, refl}
use Rattle.clk_base.specs.declared.clock.ClockId.{ClockId}
use Rattle.clk_base.specs.declared.clock.Kind.TheVariants as kinds
use Rattle.clk_base.specs.declared.call.Micro.TheVariants as micro
use Rattle.clk_base.specs.declared.call.Sleeping.TheVariants as call
use Rattle.clk_base.specs.declared.event.Entry.{Entry}
use Rattle.clk_base.specs.declared.event.Event.TheVariants as event
use Rattle.clk_base.specs.declared.event.Reply.TheVariants as reply
use Rattle.clk_base.specs.Description.{Description}
use Rattle.clk_model.specs.State.{State}
use Rattle.clk_model.specs.Chain.{clock_id}
use Rattle.clk_model.specs.Journal.{opening, replay}
use Rattle.clk_model.specs.Examples.Rows.{turns, stated, clock, flagged, ignore_unused, critical, handle, answers, begins, goes_on, step, poll, ends, probe, boot, gets}

-- `fixed osc 24000000`, `gate g1 osc 0 0`, `gate g2 osc 0 1 ignore-unused`, `gate g3 osc 0 2 critical`, `pll p osc 1 0 9 1 31 100 400 24`
abbrev unused : Description
unused =
    clock (codes "osc") (kinds.FixedRate 24000000) []
    ∷ clock (codes "g1") (kinds.Gate 0 0 false) (0 ∷ [])
    ∷ flagged ignore_unused (codes "g2") (kinds.Gate 0 1 false) (0 ∷ [])
    ∷ flagged critical (codes "g3") (kinds.Gate 0 2 false) (0 ∷ [])
    ∷ clock (codes "p") (kinds.Pll 1 0 9 1 31 100 400 24) (0 ∷ []) ∷ []

abbrev g1 : ClockId
g1 = clock_id 1

abbrev p : ClockId
p = clock_id 4

-- the gates of g1 and g2 are open and the PLL is powered, though nobody uses them
abbrev pub unused_start : Bool → State
unused_start ignored = opening unused (3 ∷ 0x80000064 ∷ []) ignored 100

-- the sweep closes g1 and powers the PLL off; it leaves a clock that is to be ignored, and a critical one
abbrev pub sweep : List Entry
sweep = boot 5 ++ goes_on 1 call.Sweep ∷ step 1 (micro.Close g1) ∷ step 1 (micro.Unpower p) ∷ ends 1 reply.Fine ∷ []

pub sweep_turns : turns (unused_start false) sweep ≡ stated sweep
unfolding turns
sweep_turns = refl

pub sweep_registers : (replay (unused_start false) sweep).regs ≡ 6 ∷ 0x00000064 ∷ []
unfolding turns
sweep_registers = refl

-- a sweep that is switched off does nothing
abbrev no_sweep : List Entry
no_sweep = boot 5 ++ begins 1 call.Sweep reply.Fine ∷ []

pub no_sweep_turns : turns (unused_start true) no_sweep ≡ stated no_sweep
unfolding turns
no_sweep_turns = refl

pub no_sweep_registers : (replay (unused_start true) no_sweep).regs ≡ 7 ∷ 0x80000064 ∷ []
unfolding turns
no_sweep_registers = refl

-- ---- the order of the sweep

-- `fixed osc 24000000`, `fixed late 24000000`, `gate upper osc 0 0`, `gate lower upper 0 1`, `gate beside osc 0 2`, `gate orphan late 0 3`
abbrev open_gates : Description
open_gates =
    clock (codes "osc") (kinds.FixedRate 24000000) [] ∷ clock (codes "late") (kinds.FixedRate 24000000) []
    ∷ clock (codes "upper") (kinds.Gate 0 0 false) (0 ∷ []) ∷ clock (codes "lower") (kinds.Gate 0 1 false) (2 ∷ [])
    ∷ clock (codes "beside") (kinds.Gate 0 2 false) (0 ∷ []) ∷ clock (codes "orphan") (kinds.Gate 0 3 false) (1 ∷ []) ∷ []

-- the newest child first, a child before its parent, and the orphans last
abbrev ordered_sweep : List Entry
ordered_sweep =
    probe 0 ∷ probe 2 ∷ probe 3 ∷ probe 4 ∷ probe 5
    ∷ goes_on 1 call.Sweep
    ∷ step 1 (micro.Close (clock_id 4)) ∷ step 1 (micro.Close (clock_id 3)) ∷ step 1 (micro.Close (clock_id 2)) ∷ step 1 (micro.Close (clock_id 5))
    ∷ ends 1 reply.Fine
    ∷ []

pub ordered_sweep_turns : turns (opening open_gates (15 ∷ []) false 100) ordered_sweep ≡ stated ordered_sweep
unfolding turns
ordered_sweep_turns = refl

pub ordered_sweep_registers : (replay (opening open_gates (15 ∷ []) false 100) ordered_sweep).regs ≡ 0 ∷ []
unfolding turns
ordered_sweep_registers = refl

-- a gate that is enabled before its turn stays open
abbrev used_meanwhile : List Entry
used_meanwhile =
    boot 5 ++ gets 2 g1 0 ∷ begins 2 (call.Prepare (handle 0 2)) reply.Fine
    ∷ goes_on 1 call.Sweep ∷ answers 2 (event.Enable 0) reply.Fine ∷ step 1 (micro.Close g1) ∷ step 1 (micro.Unpower p) ∷ ends 1 reply.Fine ∷ []

pub used_meanwhile_turns : turns (unused_start false) used_meanwhile ≡ stated used_meanwhile
unfolding turns
used_meanwhile_turns = refl

pub used_meanwhile_registers : (replay (unused_start false) used_meanwhile).regs ≡ 7 ∷ 0x64 ∷ []
unfolding turns
used_meanwhile_registers = refl

-- a PLL that is prepared stays powered
abbrev prepared_pll : List Entry
prepared_pll =
    boot 5 ++ gets 2 p 0
    ∷ goes_on 2 (call.Prepare (handle 0 2)) ∷ step 2 (micro.Raise p) ∷ poll 2 p true ∷ ends 2 reply.Fine
    ∷ goes_on 1 call.Sweep ∷ step 1 (micro.Close g1) ∷ ends 1 reply.Fine ∷ []

pub prepared_pll_turns : turns (unused_start false) prepared_pll ≡ stated prepared_pll
unfolding turns
prepared_pll_turns = refl

-- `fixed osc 24000000`, `pll p osc 0 0 9 0 31 100 400 24`, `gate g p 1 0`, `pll q g 2 0 9 2 31 100 400 24`
abbrev gate_between : Description
gate_between =
    clock (codes "osc") (kinds.FixedRate 24000000) [] ∷ clock (codes "p") (kinds.Pll 0 0 9 0 31 100 400 24) (0 ∷ [])
    ∷ clock (codes "g") (kinds.Gate 1 0 false) (1 ∷ []) ∷ clock (codes "q") (kinds.Pll 2 0 9 2 31 100 400 24) (2 ∷ []) ∷ []

abbrev gate_between_start : State
gate_between_start = opening gate_between (0x80000064 ∷ 1 ∷ 0x80000064 ∷ []) false 100

-- all gates come before the PLLs, also before one below them; of the PLLs the lower one is powered off first
abbrev gates_before_plls : List Entry
gates_before_plls =
    boot 4
    ++ goes_on 1 call.Sweep
    ∷ step 1 (micro.Close (clock_id 2)) ∷ step 1 (micro.Unpower (clock_id 3)) ∷ step 1 (micro.Unpower (clock_id 1))
    ∷ ends 1 reply.Fine
    ∷ []

pub gates_before_plls_turns : turns gate_between_start gates_before_plls ≡ stated gates_before_plls
unfolding turns
gates_before_plls_turns = refl

pub gates_before_plls_registers : (replay gate_between_start gates_before_plls).regs ≡ 0x64 ∷ 0 ∷ 0x64 ∷ []
unfolding turns
gates_before_plls_registers = refl

-- `fixed osc 24000000`, `pll p osc 0 0 9 0 31 100 400 24 ignore-unused`
abbrev ignored_pll : Description
ignored_pll =
    clock (codes "osc") (kinds.FixedRate 24000000) [] ∷ flagged ignore_unused (codes "p") (kinds.Pll 0 0 9 0 31 100 400 24) (0 ∷ []) ∷ []

-- a PLL that is to be ignored stays powered too
abbrev nothing_swept : List Entry
nothing_swept = boot 2 ++ goes_on 1 call.Sweep ∷ ends 1 reply.Fine ∷ []

pub nothing_swept_turns : turns (opening ignored_pll (0x80000064 ∷ []) false 100) nothing_swept ≡ stated nothing_swept
unfolding turns
nothing_swept_turns = refl
