use Rattle.std.proofs.Common.{◌≡◌, ◌++◌, string_bytes}
use Rattle.clk_gen.specs.Generated.{clock_lines, texts_up_to}
use Rattle.clk_gen.proofs.bundle.push_all_clocks.Given as goal

-- the clocks so far
abbrev pub invariant-loop-place : goal.invariant-loop-place
invariant-loop-place l = string_bytes l.text ≡ string_bytes l.fn.text ++ texts_up_to clock_lines l.place
