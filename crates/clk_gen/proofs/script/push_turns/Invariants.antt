use Rattle.std.proofs.Common.{◌≡◌, ◌++◌, string_bytes}
use Rattle.clk_gen.specs.Generated.{turn_lines, texts_up_to}
use Rattle.clk_gen.proofs.script.push_turns.Given as goal

-- the turns so far
abbrev pub invariant-loop-turn : goal.invariant-loop-turn
invariant-loop-turn l = string_bytes l.text ≡ string_bytes l.fn.text ++ texts_up_to turn_lines l.turn
