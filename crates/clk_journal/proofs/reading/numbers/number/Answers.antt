use Rattle.std.proofs.Common.{◌≡◌, ℕ, true, false, Some, None, Ok, sym, ap, ◌∙◌, rules, arith}
use Rattle.std.specs.Char.{is_ascii_digit}
use Rattle.std.specs.List.{list_all}
use Rattle.std.proofs.lemmas.Bool.{both_ways}
use Rattle.std.proofs.lemmas.Fmt.{parse-decimal}
use Rattle.std.specs.Fmt.{decimal}
use Rattle.clk_journal.proofs.Numerals.{reads, is_led, not_led, all_digits, printed}
use Rattle.clk_journal.proofs.reading.numbers.number.Goals as goal

pub returns-then-has_leading_zero-clause-number : goal.returns-then-has_leading_zero-clause-number
returns-then-has_leading_zero-clause-number c =
    let led : is_led c.args.word.now ≡ true = search rules in
    reads c.args.most c.args.word.now None (omega arith) (λ n low is. absurd (both_ways _ (not_led n c.args.word.now (omega (arith, low)) is) led)) (λ n e. absurd cc)

pub returns-then-not-all_digits-clause-number : goal.returns-then-not-all_digits-clause-number
returns-then-not-all_digits-clause-number c =
    let other : list_all is_ascii_digit c.args.word.now ≡ false = search rules in
    reads c.args.most c.args.word.now None (omega arith) (λ n low is. absurd (both_ways _ other (all_digits n c.args.word.now (omega (arith, low)) is))) (λ n e. absurd cc)

pub returns-in_default-clause-number : goal.returns-in_default-clause-number
returns-in_default-clause-number c =
    reads c.args.most c.args.word.now None (omega arith)
    (λ n low is. absurd (c.in_default.not-Ok n (parse-decimal 64 n c.args.word.now c.parse.result (omega (arith, low)) (omega (arith, low)) (sym is) c.parse.ensures.value.0)))
    (λ n e. absurd cc)

pub returns-then-most-number-clause-number : goal.returns-then-most-number-clause-number
returns-then-most-number-clause-number c =
    reads c.args.most c.args.word.now None (omega arith)
    (λ n low is.
    let parsed : c.parse.result ≡ Ok n = parse-decimal 64 n c.args.word.now c.parse.result (omega (arith, low)) (omega (arith, low)) (sym is) c.parse.ensures.value.0 in
    let same : c.in-Ok.number ≡ n = cc in
    absurd (omega (arith, low, same, c.if-most-number.true)))
    (λ n e. absurd cc)

pub returns-clause-number : goal.returns-clause-number
returns-clause-number c =
    let word = c.args.word.now in
    let digits : list_all is_ascii_digit word ≡ true = search rules in
    let plain : is_led word ≡ false = search rules in
    let text : decimal c.in-Ok.number ≡ word = printed word c.parse.result c.in-Ok.number digits plain c.parse.ensures.value.0 c.in-Ok.is in
    reads c.args.most word (Some c.in-Ok.number) (omega arith)
    (λ n low is.
    let parsed : c.parse.result ≡ Ok n = parse-decimal 64 n word c.parse.result (omega (arith, low)) (omega (arith, low)) (sym is) c.parse.ensures.value.0 in
    let same : c.in-Ok.number ≡ n = cc in
    ap (λ (k : ℕ). Some k) same)
    (λ n e. let same : c.in-Ok.number ≡ n = cc in record { word = ap decimal (sym same) ∙ text; low = omega (arith, same, c.if-most-number.false) })
