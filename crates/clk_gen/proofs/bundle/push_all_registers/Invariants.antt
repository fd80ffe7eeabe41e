use Rattle.std.proofs.Common.{◌≡◌, ◌++◌, string_bytes}
use Rattle.clk_gen.specs.Generated.{register_line, texts_up_to}
use Rattle.clk_gen.proofs.bundle.push_all_registers.Given as goal

-- the words so far
abbrev pub invariant-loop-place : goal.invariant-loop-place
invariant-loop-place l = string_bytes l.text ≡ string_bytes l.fn.text ++ texts_up_to register_line l.place
