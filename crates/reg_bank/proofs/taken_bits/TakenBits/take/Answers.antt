use Rattle.std.proofs.Common.{◌∙◌, ap, not, nat_eq, get_or, set, ◌<◌, length}
use Rattle.std.proofs.lemmas.List.{get_or_read}
use Rattle.reg_bank.specs.Registers.{is_set, field, bits_of, put_bit, put, with_bits}
use Rattle.reg_bank.proofs.taken_bits.TakenBits.take.Goals as goal

pub returns-clause-free : goal.returns-clause-free
unfolding is_set field
returns-clause-free c =
    let within : c.args.word < length c.self.inside.cells.items = rw c.self.view_is c.requires.word in
    let read = get_or_read c.self.inside.cells.items c.args.word c.index-old.result.now within c.index-old.ensures 0
    ∙ ap (λ words. get_or words c.args.word 0) c.self.view_is in
    ap not (c.has_bit.ensures ∙ ap (λ value. nat_eq (bits_of value c.args.bit 1) 1) read)

pub returns-clause-taken : goal.returns-clause-taken
unfolding put_bit put
returns-clause-taken c =
    let within : c.args.word < length c.self.inside.cells.items = rw c.self.view_is c.requires.word in
    let read = get_or_read c.self.inside.cells.items c.args.word c.index-old.result.now within c.index-old.ensures 0 in
    ap (λ value. set c.self.inside.cells.items c.args.word value)
    (c.with_bit.ensures ∙ ap (λ value. with_bits value c.args.bit 1 1) read)
    ∙ ap (λ words. set words c.args.word (with_bits (get_or words c.args.word 0) c.args.bit 1 1)) c.self.view_is
