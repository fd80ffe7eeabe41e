-- The clocks before the next one are told of.
use Rattle.std.proofs.Common.{◌≡◌, ℕ, ◌<◌, false, length, get_or}
use Rattle.clk_base.specs.Flags.{sets_rate_gate}
use Rattle.counts_core.proofs.flags.gated_clocks.Given as goal

abbrev pub invariant-loop-place : goal.invariant-loop-place
invariant-loop-place l = record {
  size : length l.gated.items ≡ l.place;
  flags : (d : ℕ) → d < l.place → get_or l.gated.items d false ≡ sets_rate_gate l.desc.defs d;
}
