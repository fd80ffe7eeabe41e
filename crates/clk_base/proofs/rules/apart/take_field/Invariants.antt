-- The bits before the next one were free and are taken.
use Rattle.std.proofs.Common.{◌≡◌, ℕ, ◌-◌, ◌<◌, ◌≤◌, List, ◌∷◌, length, false}
use Rattle.std.specs.List.{list_any}
use Rattle.clk_base.specs.Fields.{Field}
use Rattle.clk_base.specs.Tables.{covers, IsTaken}
use Rattle.clk_base.proofs.Covered.{field}
use Rattle.clk_base.proofs.rules.apart.take_field.Given as goal

abbrev pub invariant-loop-bit : goal.invariant-loop-bit
invariant-loop-bit l = record {
  words : length l.taken ≡ length l.initial.taken;
  free : (fields : List Field) → IsTaken l.initial.taken fields → (bit : ℕ) → l.shift ≤ bit → bit < l.bit → list_any (covers l.word bit) fields ≡ false;
  taken : (fields : List Field) → IsTaken l.initial.taken fields → IsTaken l.taken (field l.word l.shift (l.bit - l.shift) ∷ fields);
}
