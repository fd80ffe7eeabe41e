-- A prepared mux moves to another parent, while another driver enables and disables below it.
use Rattle.std.specs.Prelude.{◌≡◌, ℕ, List, [], ◌∷◌, ◌++◌, false, Some, map, replicate, codes, refl}
use Rattle.clk_base.specs.declared.clock.ClockId.{ClockId}
use Rattle.clk_base.specs.declared.clock.Kind.TheVariants as kinds
use Rattle.clk_base.specs.declared.call.Micro.TheVariants as micro
use Rattle.clk_base.specs.declared.call.Sleeping.TheVariants as call
use Rattle.clk_base.specs.declared.event.Entry.{Entry}
use Rattle.clk_base.specs.declared.event.Event.TheVariants as event
use Rattle.clk_base.specs.declared.event.Reply.TheVariants as reply
use Rattle.clk_base.specs.declared.handle.Handle.{Handle}
use Rattle.clk_base.specs.Description.{Description}
use Rattle.clk_model.specs.State.{State, link_in}
use Rattle.clk_model.specs.Counts.{prepare_count}
use Rattle.clk_model.specs.Chain.{clock_id}
use Rattle.clk_model.specs.Journal.{opening, replay}
use Rattle.clk_model.specs.Examples.Rows.{turns, stated, words_after, clock, handle, answers, begins, goes_on, step, ends, boot, gets}

-- `fixed osc 24000000`, `fixed alt 30000000`, `gate ga osc 0 0`, `gate gb alt 0 1`, `mux m 1 0 1 2 ga gb`, `gate g m 0 2`
abbrev pub migration : Description
migration =
    clock (codes "osc") (kinds.FixedRate 24000000) [] ∷ clock (codes "alt") (kinds.FixedRate 30000000) []
    ∷ clock (codes "ga") (kinds.Gate 0 0 false) (0 ∷ []) ∷ clock (codes "gb") (kinds.Gate 0 1 false) (1 ∷ [])
    ∷ clock (codes "m") (kinds.Mux 1 0 1 false) (2 ∷ 3 ∷ []) ∷ clock (codes "g") (kinds.Gate 0 2 false) (4 ∷ []) ∷ []

abbrev pub ga : ClockId
ga = clock_id 2

abbrev pub gb : ClockId
gb = clock_id 3

abbrev pub m : ClockId
m = clock_id 4

abbrev pub g : ClockId
g = clock_id 5

abbrev pub migration_start : State
migration_start = opening migration (0 ∷ 0 ∷ []) false 100

-- the handle of the mover on m, and the enables and disables that the other driver makes on g
abbrev h : Handle
h = handle 0 1

abbrev enable : Entry
enable = answers 2 (event.Enable 1) reply.Fine

abbrev disable : Entry
disable = answers 2 (event.Disable 1) reply.Fine

-- the prepare counts of osc, alt, ga, gb and m after each entry of a journal
abbrev prepares_after : State → List Entry → List (List ℕ)
prepares_after s [] = []
prepares_after s (e ∷ es) = map (prepare_count (replay s (e ∷ []))) (0 ∷ 1 ∷ 2 ∷ 3 ∷ 4 ∷ []) ∷ prepares_after (replay s (e ∷ [])) es

abbrev pub before_move : List Entry
before_move =
    boot 6 ++ gets 1 m 0 ∷ begins 1 (call.Prepare h) reply.Fine ∷ gets 2 g 1 ∷ begins 2 (call.Prepare (handle 1 2)) reply.Fine ∷ []

-- the clock below the mux is enabled and disabled in every window of its move
abbrev pub move : List Entry
move =
    goes_on 1 (call.SetRate h 30000000)
    ∷ enable
    ∷ step 1 (micro.Raise gb) ∷ step 1 (micro.HoldPrepare gb)
    ∷ disable
    ∷ step 1 (micro.HoldEnable gb)
    ∷ enable
    ∷ step 1 (micro.HoldEnable m)
    ∷ disable
    ∷ step 1 (micro.Relink m gb)
    ∷ enable
    ∷ step 1 (micro.WriteMux m 1)
    ∷ disable
    ∷ step 1 (micro.DropEnable m)
    ∷ enable
    ∷ step 1 (micro.DropEnable ga)
    ∷ step 1 (micro.DropPrepare ga) ∷ step 1 (micro.Lower ga) ∷ step 1 (micro.Visit m) ∷ step 1 (micro.Visit g) ∷ ends 1 reply.Fine
    ∷ []

pub move_turns : turns migration_start (before_move ++ move) ≡ stated (before_move ++ move)
unfolding turns
move_turns = refl

-- the gates and the mux's field after each event of the move: whatever is enabled is fed by open gates alone
pub move_words : words_after (replay migration_start before_move) move ≡
    (0 ∷ 0 ∷ [])
    ∷ (5 ∷ 0 ∷ [])
    ∷ (5 ∷ 0 ∷ []) ∷ (5 ∷ 0 ∷ [])
    ∷ (0 ∷ 0 ∷ [])
    ∷ (2 ∷ 0 ∷ [])
    ∷ (7 ∷ 0 ∷ [])
    ∷ (7 ∷ 0 ∷ [])
    ∷ (3 ∷ 0 ∷ [])
    ∷ (3 ∷ 0 ∷ [])
    ∷ (7 ∷ 0 ∷ [])
    ∷ (7 ∷ 1 ∷ [])
    ∷ (3 ∷ 1 ∷ [])
    ∷ (1 ∷ 1 ∷ [])
    ∷ (7 ∷ 1 ∷ [])
    ∷ (6 ∷ 1 ∷ [])
    ∷ (6 ∷ 1 ∷ []) ∷ (6 ∷ 1 ∷ []) ∷ (6 ∷ 1 ∷ []) ∷ (6 ∷ 1 ∷ []) ∷ (6 ∷ 1 ∷ [])
    ∷ []
unfolding turns
move_words = refl

-- the prepare counts of osc, alt, ga, gb and m after each event: both parents, and the clocks above them, are prepared until the
-- old one is dropped
pub move_prepares : prepares_after (replay migration_start before_move) move ≡
    replicate 3 (1 ∷ 0 ∷ 1 ∷ 0 ∷ 2 ∷ [])
    ++ replicate 13 (1 ∷ 1 ∷ 1 ∷ 1 ∷ 2 ∷ [])
    ++ replicate 5 (0 ∷ 1 ∷ 0 ∷ 1 ∷ 2 ∷ [])
unfolding turns
move_prepares = refl

-- the mux is attached to its new parent, and no hold is left
pub move_link : link_in (replay migration_start (before_move ++ move)).clocks 4 ≡ Some 3
unfolding turns
move_link = refl

pub move_prepare_holds : (replay migration_start (before_move ++ move)).prepare_holds ≡ []
unfolding turns
move_prepare_holds = refl

pub move_enable_holds : (replay migration_start (before_move ++ move)).enable_holds ≡ []
unfolding turns
move_enable_holds = refl
