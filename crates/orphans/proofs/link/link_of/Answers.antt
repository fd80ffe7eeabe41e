-- The parent that is selected, if it is registered.
use Rattle.clk_base.specs.Description.{parents_of}
use Rattle.clk_tree.proofs.Reading.{valid_in}
use Rattle.orphans.proofs.LinkLaws.{given_as, possible_as}
use Rattle.orphans.proofs.link.link_of.Goals as goal

pub selected-requires-clause-valid : goal.selected-requires-clause-valid
selected-requires-clause-valid g c =
    valid_in c.args.desc.now.words (g.B.Bank.size c.args.bank.now) c.args.desc.now.defs c.len-size.ensures.valid c.requires.bank

pub returns-clause-link : goal.returns-clause-link
returns-clause-link g c = λ regs told.
    given_as c.args.desc.now.defs regs c.args.tree.now.clocks c.args.c.0 c.selected.result c.if_there.result
    (c.selected.ensures.selected regs told) c.if_there.ensures.link

pub returns-clause-possible : goal.returns-clause-possible
returns-clause-possible g c =
    possible_as (parents_of c.args.desc.now.defs c.args.c.0) c.selected.result c.if_there.result
    c.selected.ensures.possible c.if_there.ensures.same
