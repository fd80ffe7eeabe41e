use Rattle.std.proofs.Common.{rules, arith}
use Rattle.dts_tokens.proofs.Digits.{digits_value-over, number-over}
use Rattle.dts_tokens.proofs.number.value_up_to.Goals as goal

pub returns-then-from-next : goal.returns-then-from-next
returns-then-from-next c =
    let digits = c.args.digits.now in
    let over = simp (c.from-in-loop-byte-4.ensures, c.from-in-loop-byte.ensures, c.from-in-loop-byte-2.ensures, c.from-in-loop-byte-3.ensures) at c.if-from-next.true in
    number-over _ _ _ (digits_value-over c.args.base c.loop-byte.value c.in-Some.digit c.args.most c.loop-byte.byte-index digits c.requires.least (omega arith) c.loop-byte.invariant.value (search rules) over)
