-- Clocks whose parent is registered late, or never.
use Rattle.std.specs.Prelude.{◌≡◌, List, [], ◌∷◌, ◌++◌, true, false, Some, None, codes, map, refl}
use Rattle.clk_base.specs.declared.clock.ClockId.{ClockId}
use Rattle.clk_base.specs.declared.clock.Kind.TheVariants as kinds
use Rattle.clk_base.specs.declared.call.Micro.TheVariants as micro
use Rattle.clk_base.specs.declared.call.Sleeping.TheVariants as call
use Rattle.clk_base.specs.declared.event.Entry.{Entry}
use Rattle.clk_base.specs.declared.event.Errno.TheVariants as errno
use Rattle.clk_base.specs.declared.event.Reply.TheVariants as reply
use Rattle.clk_base.specs.Description.{Description}
use Rattle.clk_model.specs.State.{State, link_in}
use Rattle.clk_model.specs.Chain.{clock_id}
use Rattle.clk_model.specs.Tree.{children}
use Rattle.clk_model.specs.Counts.{enable_count, prepare_count}
use Rattle.clk_model.specs.Journal.{opening, replay}
use Rattle.clk_model.specs.Examples.Rows.{turns, stated, words_after, clock, flagged, critical, handle, begins, goes_on, step, poll, in_vain, ends, probe, boot, gets}

-- ---- an adoption

-- `fixed osc 24000000`, `fixed src 40000000`, `gate gs src 0 0`, `mux m 1 0 1 2 osc gs`, `gate c m 0 1 critical`
abbrev pub late : Description
late =
    clock (codes "osc") (kinds.FixedRate 24000000) [] ∷ clock (codes "src") (kinds.FixedRate 40000000) []
    ∷ clock (codes "gs") (kinds.Gate 0 0 false) (1 ∷ []) ∷ clock (codes "m") (kinds.Mux 1 0 1 false) (0 ∷ 2 ∷ [])
    ∷ flagged critical (codes "c") (kinds.Gate 0 1 false) (3 ∷ []) ∷ []

abbrev src : ClockId
src = clock_id 1

abbrev gs : ClockId
gs = clock_id 2

abbrev m : ClockId
m = clock_id 3

abbrev pub late_start : State
late_start = opening late (0 ∷ 1 ∷ []) false 100

-- the mux selects the gate gs, which isn't registered at boot
abbrev late_boot : List Entry
late_boot = probe 0 ∷ probe 3 ∷ probe 4 ∷ []

-- the mux is enabled by a critical clock below it; it is adopted when its parent comes, and the parent's gate opens before
abbrev late_probes : List Entry
late_probes =
    begins 1 (call.Get (Some m)) (reply.Refused errno.EPROBE_DEFER)
    ∷ begins 1 (call.Probe src) reply.Fine
    ∷ goes_on 1 (call.Probe gs)
    ∷ step 1 (micro.Register gs)
    ∷ step 1 (micro.Raise gs) ∷ step 1 (micro.HoldPrepare gs) ∷ step 1 (micro.HoldEnable gs)
    ∷ step 1 (micro.HoldEnable m) ∷ step 1 (micro.Relink m gs) ∷ step 1 (micro.DropEnable m) ∷ step 1 (micro.Settle m)
    ∷ ends 1 reply.Fine
    ∷ gets 1 m 0
    ∷ begins 1 (call.GetRate (handle 0 1)) (reply.Rate 40000000)
    ∷ []

abbrev pub adoption : List Entry
adoption = late_boot ++ late_probes

pub adoption_turns : turns late_start adoption ≡ stated adoption
unfolding turns
adoption_turns = refl

-- the critical gate is open from its registration on
pub boot_words : words_after late_start late_boot ≡ (0 ∷ 1 ∷ []) ∷ (0 ∷ 1 ∷ []) ∷ (2 ∷ 1 ∷ []) ∷ []
unfolding turns
boot_words = refl

-- the parent's gate opens with the hold on it, before the mux is attached
pub adoption_words : words_after (replay late_start late_boot) late_probes ≡
    (2 ∷ 1 ∷ []) ∷ (2 ∷ 1 ∷ []) ∷ (2 ∷ 1 ∷ []) ∷ (2 ∷ 1 ∷ []) ∷ (2 ∷ 1 ∷ []) ∷ (2 ∷ 1 ∷ [])
    ∷ (3 ∷ 1 ∷ []) ∷ (3 ∷ 1 ∷ []) ∷ (3 ∷ 1 ∷ []) ∷ (3 ∷ 1 ∷ []) ∷ (3 ∷ 1 ∷ []) ∷ (3 ∷ 1 ∷ []) ∷ (3 ∷ 1 ∷ []) ∷ (3 ∷ 1 ∷ []) ∷ []
unfolding turns
adoption_words = refl

-- src, gs, m and c are prepared and enabled once each, and osc by nobody
pub adoption_enables : map (enable_count (replay late_start adoption)) (0 ∷ 1 ∷ 2 ∷ 3 ∷ 4 ∷ []) ≡ 0 ∷ 1 ∷ 1 ∷ 1 ∷ 1 ∷ []
unfolding turns
adoption_enables = refl

pub adoption_prepares : map (prepare_count (replay late_start adoption)) (0 ∷ 1 ∷ 2 ∷ 3 ∷ 4 ∷ []) ≡ 0 ∷ 1 ∷ 1 ∷ 1 ∷ 1 ∷ []
unfolding turns
adoption_prepares = refl

pub adoption_prepare_holds : (replay late_start adoption).prepare_holds ≡ []
unfolding turns
adoption_prepare_holds = refl

pub adoption_enable_holds : (replay late_start adoption).enable_holds ≡ []
unfolding turns
adoption_enable_holds = refl

-- ---- a field that selects no parent

-- `fixed f 5`, `fixed e 6`, `mux m 0 0 2 2 f e`, whose field is 3
abbrev astray : Description
astray =
    clock (codes "f") (kinds.FixedRate 5) [] ∷ clock (codes "e") (kinds.FixedRate 6) []
    ∷ clock (codes "m") (kinds.Mux 0 0 2 false) (0 ∷ 1 ∷ []) ∷ []

abbrev pub astray_start : State
astray_start = opening astray (3 ∷ []) false 100

-- a mux whose field is past its parents is an orphan
abbrev pub no_such_parent : List Entry
no_such_parent = boot 3 ++ begins 1 (call.Get (Some (clock_id 2))) (reply.Refused errno.EPROBE_DEFER) ∷ []

pub no_such_parent_turns : turns astray_start no_such_parent ≡ stated no_such_parent
unfolding turns
no_such_parent_turns = refl

pub no_such_parent_link : link_in (replay astray_start no_such_parent).clocks 2 ≡ None
unfolding turns
no_such_parent_link = refl

-- ---- two orphans of one parent

-- `fixed src 40000000`, `gate g1 src 0 0`, `gate g2 src 0 1`
abbrev two_gates : Description
two_gates =
    clock (codes "src") (kinds.FixedRate 40000000) [] ∷ clock (codes "g1") (kinds.Gate 0 0 false) (0 ∷ [])
    ∷ clock (codes "g2") (kinds.Gate 0 1 false) (0 ∷ []) ∷ []

abbrev g1 : ClockId
g1 = clock_id 1

abbrev g2 : ClockId
g2 = clock_id 2

-- the orphan that was attached last is adopted first
abbrev two_adoptions : List Entry
two_adoptions =
    probe 1 ∷ probe 2
    ∷ goes_on 1 (call.Probe (clock_id 0))
    ∷ step 1 (micro.Register (clock_id 0))
    ∷ step 1 (micro.Relink g2 (clock_id 0)) ∷ step 1 (micro.Settle g2)
    ∷ step 1 (micro.Relink g1 (clock_id 0)) ∷ step 1 (micro.Settle g1)
    ∷ ends 1 reply.Fine
    ∷ []

pub two_adoptions_turns : turns (opening two_gates (0 ∷ []) false 100) two_adoptions ≡ stated two_adoptions
unfolding turns
two_adoptions_turns = refl

-- so the other one is the newest child
pub two_adoptions_children :
    children (replay (opening two_gates (0 ∷ []) false 100) two_adoptions).order (replay (opening two_gates (0 ∷ []) false 100) two_adoptions).clocks 0 ≡ 1 ∷ 2 ∷ []
unfolding turns
two_adoptions_children = refl

-- ---- an orphan above an orphan

-- `fixed src 24000000`, `gate b src 0 0`, `pll p b 1 0 9 1 31 100 400 24`, `gate a p 0 1 critical`
abbrev stacked : Description
stacked =
    clock (codes "src") (kinds.FixedRate 24000000) [] ∷ clock (codes "b") (kinds.Gate 0 0 false) (0 ∷ [])
    ∷ clock (codes "p") (kinds.Pll 1 0 9 1 31 100 400 24) (1 ∷ []) ∷ flagged critical (codes "a") (kinds.Gate 0 1 false) (2 ∷ []) ∷ []

abbrev b : ClockId
b = clock_id 1

abbrev p : ClockId
p = clock_id 2

abbrev a : ClockId
a = clock_id 3

abbrev stacked_start : State
stacked_start = opening stacked (0 ∷ 0x64 ∷ []) false 100

-- the PLL doesn't lock when it comes, so the critical clock stays an orphan. It is newer than the gate above the PLL, but when
-- that gate's parent comes the gate is adopted first, for it is on the path of the critical clock's new parent
abbrev upper_first : List Entry
upper_first =
    probe 1 ∷ probe 3
    ∷ goes_on 1 (call.Probe p) ∷ step 1 (micro.Register p) ∷ in_vain 1 p p ++ ends 1 (reply.Refused errno.ETIMEDOUT)
    ∷ goes_on 1 (call.Probe (clock_id 0)) ∷ step 1 (micro.Register (clock_id 0))
    ∷ step 1 (micro.Relink b (clock_id 0)) ∷ step 1 (micro.Settle b)
    ∷ step 1 (micro.Raise p) ∷ poll 1 p true ∷ step 1 (micro.HoldPrepare p) ∷ step 1 (micro.HoldEnable p) ∷ step 1 (micro.HoldEnable a)
    ∷ step 1 (micro.Relink a p) ∷ step 1 (micro.DropEnable a) ∷ step 1 (micro.Settle a)
    ∷ ends 1 reply.Fine
    ∷ gets 1 a 0
    ∷ begins 1 (call.GetRate (handle 0 1)) (reply.Rate 100000000)
    ∷ []

pub upper_first_turns : turns stacked_start upper_first ≡ stated upper_first
unfolding turns
upper_first_turns = refl

pub upper_first_registers : (replay stacked_start upper_first).regs ≡ 3 ∷ 0x80000064 ∷ []
unfolding turns
upper_first_registers = refl
