use Rattle.std.proofs.Common.{◌≡◌, ◌≤◌, drop}
use Rattle.std.specs.Char.{is_digit}
use Rattle.std.specs.List.{list_all}
use Rattle.std.specs.Str.Parse.{digits_value, digits_value_after}
use Rattle.dts_tokens.proofs.number.value_up_to.Given as goal

-- all so far are digits; their value, and the digits that are left behind it, are the value
abbrev pub invariant-loop-byte : goal.invariant-loop-byte
invariant-loop-byte l = record {
  small : l.value ≤ l.most;
  digits : list_all (λ c. is_digit c l.base) (drop l.byte-index l.digits) ≡ list_all (λ c. is_digit c l.base) l.digits;
  value : digits_value_after l.base l.value (drop l.byte-index l.digits) ≡ digits_value l.base l.digits;
}
