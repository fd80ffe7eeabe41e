use Rattle.std.proofs.Common.{◌≡◌, true, rules, arith, sym}
use Rattle.std.specs.List.{list_all}
use Rattle.std.specs.Char.{is_ascii_hexdigit}
use Rattle.bundle_text.proofs.Hexadecimals.{OkIff-from_hexadecimal, IsUtf8-hexadecimal, hexadecimal_up_to-other, hexadecimal_up_to-unread, hexadecimal_up_to-over, hexadecimal_up_to-within}
use Rattle.bundle_text.proofs.numbers.hexadecimal_up_to.Goals as goal

pub returns-then-not-all_hexadecimal-clause-number : goal.returns-then-not-all_hexadecimal-clause-number
returns-then-not-all_hexadecimal-clause-number c = sym (hexadecimal_up_to-other c.args.most c.args.digits.now (search rules))

pub returns-in_default-clause-number : goal.returns-in_default-clause-number
returns-in_default-clause-number c =
    let digits : list_all is_ascii_hexdigit c.args.digits.now ≡ true = search rules in
    absurd (c.in_default.ensures.cases.0 (IsUtf8-hexadecimal c.args.digits.now digits))

pub returns-in_default-from_str_radix-clause-number : goal.returns-in_default-from_str_radix-clause-number
returns-in_default-from_str_radix-clause-number c =
    let word = c.args.digits.now in
    let digits : list_all is_ascii_hexdigit word ≡ true = search rules in
    sym (hexadecimal_up_to-unread c.args.most word (omega arith) (rw c.in_default-from_str_radix.is at (OkIff-from_hexadecimal word c.from_str_radix.result (rw c.in-Ok.ensures.cases.0 at c.from_str_radix.ensures.value) digits)))

pub returns-clause-number : goal.returns-clause-number
returns-clause-number c =
    let word = c.args.digits.now in
    let digits : list_all is_ascii_hexdigit word ≡ true = search rules in
    let read = rw c.in-Ok-from_str_radix.is at (OkIff-from_hexadecimal word c.from_str_radix.result (rw c.in-Ok.ensures.cases.0 at c.from_str_radix.ensures.value) digits) in
    sym (hexadecimal_up_to-over c.args.most _ word (sym read.1) c.if-number-most.false)

pub returns-then-number-most-clause-number : goal.returns-then-number-most-clause-number
returns-then-number-most-clause-number c =
    let word = c.args.digits.now in
    let digits : list_all is_ascii_hexdigit word ≡ true = search rules in
    let read = rw c.in-Ok-from_str_radix.is at (OkIff-from_hexadecimal word c.from_str_radix.result (rw c.in-Ok.ensures.cases.0 at c.from_str_radix.ensures.value) digits) in
    sym (hexadecimal_up_to-within c.args.most _ word digits read.0.0 (sym read.1) c.if-number-most.true)
