use Rattle.std.proofs.Common.{◌≡◌, true, take}
use Rattle.clk_machine.specs.Run.{now_of}
use Rattle.clk_run.proofs.state.registers_of.Given as goal

-- the words so far are the first registers
abbrev pub invariant-loop-place : goal.invariant-loop-place
invariant-loop-place g l = l.core.told ≡ true → l.words.items ≡ take l.place (now_of l.core).regs
