use Rattle.std.proofs.Common.{◌≡◌, ◌∙◌, ℤ, true, Some, Ok, sym, ap, rules, arith, w32, FitsSigned, to_z, of_z, ◌^◌, ◌<◌}
use Rattle.std.specs.Int.Signed.{mag}
use Rattle.std.specs.Prelude.{is_some}
use Rattle.std.proofs.lemmas.Fmt.{parse-signed_decimal}
use Rattle.std.proofs.lemmas.Int.{to_z-of_z}
use Rattle.clk_journal.specs.ReadNumbers.{priority}
use Rattle.clk_journal.proofs.Priorities.{known, unknown}
use Rattle.clk_journal.proofs.reading.notifier.priority.Goals as goal

fits : (z : ℤ) → mag z < 2 ^ 31 → FitsSigned w32 z
fits z low = search (rules, low)

pub returns-then-not-is_priority : goal.returns-then-not-is_priority
returns-then-not-is_priority c = unknown (priority c.args.word.now) (search rules)

pub returns-in_default : goal.returns-in_default
returns-in_default c =
    let some : is_some (priority c.args.word.now) ≡ true = search rules in
    let is = known c.args.word.now some in
    absurd (c.in_default.not-Ok is.0 (parse-signed_decimal w32 is.0 c.args.word.now c.parse.result (fits is.0 is.2.low) (omega (arith, is.2.low)) (sym is.2.word) c.parse.ensures.value.0))

pub returns : goal.returns
returns c =
    let some : is_some (priority c.args.word.now) ≡ true = search rules in
    let is = known c.args.word.now some in
    let z = is.0 in
    let parsed : c.parse.result ≡ Ok z = parse-signed_decimal w32 z c.args.word.now c.parse.result (fits z is.2.low) (omega (arith, is.2.low)) (sym is.2.word) c.parse.ensures.value.0 in
    let number : c.in-Ok.number ≡ z = cc in
    ap (λ (y : ℤ). Some (to_z w32 (of_z w32 y))) number ∙ ap (λ (y : ℤ). Some y) (to_z-of_z w32 z (fits z is.2.low)) ∙ sym is.1
