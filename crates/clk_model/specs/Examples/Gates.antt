-- A gate whose set bit closes it.
use Rattle.std.specs.Prelude.{◌≡◌, List, [], ◌∷◌, ◌++◌, true, false, codes, refl}
use Rattle.clk_base.specs.declared.clock.ClockId.{ClockId}
use Rattle.clk_base.specs.declared.clock.Kind.TheVariants as kinds
use Rattle.clk_base.specs.declared.call.Micro.TheVariants as micro
use Rattle.clk_base.specs.declared.call.Sleeping.TheVariants as call
use Rattle.clk_base.specs.declared.event.Entry.{Entry}
use Rattle.clk_base.specs.declared.event.Event.TheVariants as event
use Rattle.clk_base.specs.declared.event.Reply.TheVariants as reply
use Rattle.clk_base.specs.declared.handle.Handle.{Handle}
use Rattle.clk_base.specs.Description.{Description}
use Rattle.clk_model.specs.Chain.{clock_id}
use Rattle.clk_model.specs.Journal.{opening, replay}
use Rattle.clk_model.specs.Examples.Rows.{turns, stated, words_after, clock, handle, answers, begins, goes_on, step, ends, boot, gets}

-- `fixed osc 24000000`, `gate g osc 0 3 set-to-disable`
abbrev inverted : Description
inverted = clock (codes "osc") (kinds.FixedRate 24000000) [] ∷ clock (codes "g") (kinds.Gate 0 3 true) (0 ∷ []) ∷ []

abbrev g : ClockId
g = clock_id 1

abbrev a : Handle
a = handle 0 1

-- an enable clears the bit and a disable sets it
abbrev switching : List Entry
switching = answers 1 (event.Enable 0) reply.Fine ∷ answers 1 (event.Disable 0) reply.Fine ∷ []

abbrev before_switching : List Entry
before_switching = boot 2 ++ gets 1 g 0 ∷ begins 1 (call.Prepare a) reply.Fine ∷ []

pub switching_turns : turns (opening inverted (8 ∷ []) false 100) (before_switching ++ switching) ≡ stated (before_switching ++ switching)
unfolding turns
switching_turns = refl

pub switching_words : words_after (replay (opening inverted (8 ∷ []) false 100) before_switching) switching ≡ (0 ∷ []) ∷ (8 ∷ []) ∷ []
unfolding turns
switching_words = refl

-- the sweep sets the bit
abbrev sweep : List Entry
sweep = boot 2 ++ goes_on 1 call.Sweep ∷ step 1 (micro.Close g) ∷ ends 1 reply.Fine ∷ []

pub sweep_turns : turns (opening inverted (0 ∷ []) false 100) sweep ≡ stated sweep
unfolding turns
sweep_turns = refl

pub sweep_registers : (replay (opening inverted (0 ∷ []) false 100) sweep).regs ≡ 8 ∷ []
unfolding turns
sweep_registers = refl

-- a sweep over a closed gate has nothing to do
abbrev idle_sweep : List Entry
idle_sweep = boot 2 ++ goes_on 1 call.Sweep ∷ ends 1 reply.Fine ∷ []

pub idle_sweep_turns : turns (opening inverted (8 ∷ []) false 100) idle_sweep ≡ stated idle_sweep
unfolding turns
idle_sweep_turns = refl
