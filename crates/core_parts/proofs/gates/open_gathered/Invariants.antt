-- The last clocks' gates are open.
use Rattle.std.proofs.Common.{◌≡◌, ◌-◌, false, length, drop}
use Rattle.core_parts.proofs.Opening.{opened}
use Rattle.core_parts.proofs.Gathering.{places}
use Rattle.core_parts.proofs.gates.open_gathered.Given as goal

abbrev pub invariant-loop-done : goal.invariant-loop-done
invariant-loop-done g l = record {
  size : l.window.size ≡ l.fn.window.size;
  words : l.window.words ≡ opened l.tree.defs (λ _. false) (drop (length l.path - l.done) (places l.path)) l.fn.window.words;
  behind : l.window.behind ≡ l.fn.window.behind;
  locks : l.window.locks ≡ l.fn.window.locks;
}
