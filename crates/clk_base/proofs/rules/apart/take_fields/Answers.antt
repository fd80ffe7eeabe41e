-- The field of a PLL and its power bit behind it.
use Rattle.std.proofs.Common.{sym, ◌∙◌, ◌∷◌}
use Rattle.clk_base.proofs.Covered.{field, apart_two, IsTaken-two_behind}
use Rattle.clk_base.proofs.rules.apart.take_fields.Goals as goal

pub returns-then-take_field-clause-free : goal.returns-then-take_field-clause-free
returns-then-take_field-clause-free c = λ fields is.
    let f = field c.in-Pll.word c.in-Pll.shift c.in-Pll.width in
    let g = field c.in-Pll.power_word c.in-Pll.power_bit 1 in
    rw c.in-Pll.is
    (apart_two fields f g c.take_field-then-take_field.result
    (sym (c.take_field-in-Pll.ensures.free fields is) ∙ c.if-take_field.true)
    (c.take_field-then-take_field.ensures.free (f ∷ fields) (c.take_field-in-Pll.ensures.taken fields is c.if-take_field.true)))

pub returns-then-take_field-clause-taken : goal.returns-then-take_field-clause-taken
returns-then-take_field-clause-taken c = λ fields is free.
    let f = field c.in-Pll.word c.in-Pll.shift c.in-Pll.width in
    let g = field c.in-Pll.power_word c.in-Pll.power_bit 1 in
    rw c.in-Pll.is
    (IsTaken-two_behind c.take_field-then-take_field.new.taken fields f g
    (c.take_field-then-take_field.ensures.taken (f ∷ fields) (c.take_field-in-Pll.ensures.taken fields is c.if-take_field.true) free))
