use Rattle.std.proofs.Common.{◌≡◌, true, rules, arith, sym}
use Rattle.std.specs.List.{list_all}
use Rattle.std.specs.Char.{is_ascii_digit}
use Rattle.bundle_text.proofs.Decimals.{OkIff-from_parse, number_up_to-other, number_up_to-unread, number_up_to-over, number_up_to-within}
use Rattle.bundle_text.proofs.numbers.number_up_to.Goals as goal

pub returns-then-not-all_digits-clause-number : goal.returns-then-not-all_digits-clause-number
returns-then-not-all_digits-clause-number c = sym (number_up_to-other c.args.most c.args.word.now (search rules))

pub returns-in_default-clause-number : goal.returns-in_default-clause-number
returns-in_default-clause-number c =
    let word = c.args.word.now in
    let digits : list_all is_ascii_digit word ≡ true = search rules in
    sym (number_up_to-unread c.args.most word (omega arith) (rw c.in_default.is at (OkIff-from_parse word c.parse.result c.parse.ensures.value.0 digits)))

pub returns-then-most-number-clause-number : goal.returns-then-most-number-clause-number
returns-then-most-number-clause-number c =
    let word = c.args.word.now in
    let digits : list_all is_ascii_digit word ≡ true = search rules in
    let read = rw c.in-Ok.is at (OkIff-from_parse word c.parse.result c.parse.ensures.value.0 digits) in
    sym (number_up_to-over c.args.most _ word (sym read.1) c.if-most-number.true)

pub returns-clause-number : goal.returns-clause-number
returns-clause-number c =
    let word = c.args.word.now in
    let digits : list_all is_ascii_digit word ≡ true = search rules in
    let read = rw c.in-Ok.is at (OkIff-from_parse word c.parse.result c.parse.ensures.value.0 digits) in
    sym (number_up_to-within c.args.most _ word digits read.0.0 (sym read.1) c.if-most-number.false)
