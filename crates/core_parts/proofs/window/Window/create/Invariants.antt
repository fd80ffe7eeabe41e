use Rattle.std.proofs.Common.{◌≡◌, ℕ, length, take, drop}
use Rattle.std.specs.Option.{option_map}
use Rattle.core_parts.proofs.window.Window.create.Given as goal

-- the bank keeps its size, its first words so far are the given ones, those behind them all stay, and so do the locks
abbrev pub invariant-loop-place : goal.invariant-loop-place
invariant-loop-place g l = record {
  size : g.B.Bank.size l.bank ≡ g.B.Bank.size l.initial.bank;
  words : option_map (take l.place) (g.B.Bank.contents l.bank) ≡ option_map (λ _. take l.place l.words) (g.B.Bank.contents l.initial.bank);
  behind : option_map (drop (length l.words)) (g.B.Bank.contents l.bank) ≡ option_map (drop (length l.words)) (g.B.Bank.contents l.initial.bank);
  locks : (p : ℕ) → g.B.Bank.lock l.bank p ≡ g.B.Bank.lock l.initial.bank p;
}
