-- States with the same part of the prepare tier, in which other handles have enables: in the middle of a move, before an unprepare and
-- in the middle of a sweep; and an exclusive that alone protects its clock, or doesn't.
use Rattle.std.specs.Prelude.{◌≡◌, ℕ, List, [], ◌∷◌, ◌++◌, true, false, Some, map, option_map, length, take, refl}
use Rattle.clk_base.specs.declared.call.Micro.TheVariants as micro
use Rattle.clk_base.specs.declared.call.Sleeping.TheVariants as call
use Rattle.clk_base.specs.declared.event.Entry.{Entry}
use Rattle.clk_base.specs.declared.event.Event.TheVariants as event
use Rattle.clk_base.specs.declared.event.Reply.TheVariants as reply
use Rattle.clk_base.specs.declared.event.Turn.TheVariants as turn
use Rattle.clk_model.specs.Lists.{present}
use Rattle.clk_model.specs.State.{State}
use Rattle.clk_model.specs.Holders.{guarded}
use Rattle.clk_model.specs.Counts.{protect_count}
use Rattle.clk_model.specs.Views.{lift, guarded_but}
use Rattle.clk_model.specs.Begin.{change_of}
use Rattle.clk_model.specs.Journal.{replay}
use Rattle.clk_model.specs.Prep.{masked, prep}
use Rattle.clk_model.specs.Examples.Rows.{turns, stated, handle, answers, begins, goes_on, step, boot, gets}
use Rattle.clk_model.specs.Examples.Migrations.{gb, m, migration_start, before_move, move}
use Rattle.clk_model.specs.Examples.Rounding.{divided_start, div}
use Rattle.clk_model.specs.Examples.Sweeps.{unused_start, sweep}

-- ---- a move in flight

-- the move up to where it holds the mux, with enables of another driver between; and the same steps alone
abbrev enabled_between : State
enabled_between = replay migration_start (before_move ++ take 8 move)

abbrev alone : State
alone =
    replay migration_start (before_move
    ++ goes_on 1 (call.SetRate (handle 0 1) 30000000) ∷ step 1 (micro.Raise gb) ∷ step 1 (micro.HoldPrepare gb) ∷ step 1 (micro.HoldEnable gb)
    ∷ step 1 (micro.HoldEnable m) ∷ [])

pub gates_differ : enabled_between.regs ≡ 7 ∷ 0 ∷ []
unfolding turns
gates_differ = refl

pub gates_alone : alone.regs ≡ 3 ∷ 0 ∷ []
unfolding turns
gates_alone = refl

pub enables_differ : map (λ h. h.enables) (present enabled_between.handles) ≡ 0 ∷ 1 ∷ []
unfolding turns
enables_differ = refl

pub enables_alone : map (λ h. h.enables) (present alone.handles) ≡ 0 ∷ 0 ∷ []
unfolding turns
enables_alone = refl

-- yet the prepare tier has the same registers, the same holds and the same steps left in both
abbrev same_regs : List (List ℕ)
same_regs = (0 ∷ 0 ∷ []) ∷ (0 ∷ 0 ∷ []) ∷ []

pub same_registers : (prep alone).regs ∷ (prep enabled_between).regs ∷ [] ≡ same_regs
unfolding turns prep masked
same_registers = refl

pub same_holds : (prep alone).prepare_holds ∷ (prep enabled_between).prepare_holds ∷ [] ≡ (3 ∷ []) ∷ (3 ∷ []) ∷ []
unfolding turns prep
same_holds = refl

pub same_left : option_map (λ k. length k.left) (prep alone).change ∷ option_map (λ k. length k.left) (prep enabled_between).change ∷ [] ≡ Some 9 ∷ Some 9 ∷ []
unfolding turns prep
same_left = refl

-- so the step that comes next is made in both, and leaves the same part
abbrev relinks : List Entry
relinks = step 1 (micro.Relink m gb) ∷ []

pub made_between : turns enabled_between relinks ≡ stated relinks
unfolding turns
made_between = refl

pub made_alone : turns alone relinks ≡ stated relinks
unfolding turns
made_alone = refl

-- ---- an unprepare, which looks at the enables of its handle

abbrev enabled_before : State
enabled_before = replay migration_start (before_move ++ answers 2 (event.Enable 1) reply.Fine ∷ [])

-- with an enable the handle keeps its prepare, and without one it gives it up
pub keeps_enabled : turns enabled_before (begins 2 (call.Unprepare (handle 1 2)) reply.Warn ∷ []) ≡ turn.Done reply.Warn ∷ []
unfolding turns
keeps_enabled = refl

pub gives_up_bare : turns (replay migration_start before_move) (begins 2 (call.Unprepare (handle 1 2)) reply.Fine ∷ []) ≡ turn.Done reply.Fine ∷ []
unfolding turns
gives_up_bare = refl

-- ---- a sweep, of which nothing but its end is left in the other state

abbrev swept : ℕ → State
swept made = replay (unused_start false) (take made sweep)

abbrev only_end : State
only_end = record (swept 5) { change = Some (change_of (swept 5) 1 call.Sweep (micro.End ∷ [])) }

-- g1's gate is no part of the prepare tier, and the PLL's power bit is
pub begun_registers : (prep only_end).regs ∷ (prep (swept 6)).regs ∷ (prep (swept 7)).regs ∷ (prep (swept 8)).regs ∷ []
    ≡ (0 ∷ 0x80000064 ∷ []) ∷ (0 ∷ 0x80000064 ∷ []) ∷ (0 ∷ 0x80000064 ∷ []) ∷ (0 ∷ 0x00000064 ∷ []) ∷ []
unfolding turns prep masked
begun_registers = refl

pub nothing_left : option_map (λ k. k.left) (prep only_end).change ∷ option_map (λ k. k.left) (prep (swept 7)).change ∷ [] ≡ Some [] ∷ Some [] ∷ []
unfolding turns prep
nothing_left = refl

-- ---- one exclusive less

-- one handle of the divider has an exclusive
abbrev one_holds : State
one_holds = replay divided_start (boot 2 ++ gets 1 div 0 ∷ gets 1 div 1 ∷ begins 1 (call.ExclusiveGet (handle 0 1)) reply.Fine ∷ [])

pub protected_once : protect_count one_holds 1 ≡ 1
unfolding turns
protected_once = refl

pub guarded_once : map (guarded one_holds) (0 ∷ 1 ∷ []) ≡ true ∷ true ∷ []
unfolding turns
guarded_once = refl

-- without it the divider and what is above it are as where the divider is free
pub lifted_is_free : map (guarded (lift one_holds 0)) (0 ∷ 1 ∷ []) ≡ map (guarded_but one_holds 1) (0 ∷ 1 ∷ [])
unfolding turns
lifted_is_free = refl

pub free_of_guards : map (guarded_but one_holds 1) (0 ∷ 1 ∷ []) ≡ false ∷ false ∷ []
unfolding turns
free_of_guards = refl

-- both handles have one
abbrev two_hold : State
two_hold = replay one_holds (begins 1 (call.ExclusiveGet (handle 1 1)) reply.Fine ∷ [])

pub protected_twice : protect_count two_hold 1 ≡ 2
unfolding turns
protected_twice = refl

-- without one of them all stays guarded
pub lifted_stays : map (guarded (lift two_hold 0)) (0 ∷ 1 ∷ []) ≡ true ∷ true ∷ []
unfolding turns
lifted_stays = refl
