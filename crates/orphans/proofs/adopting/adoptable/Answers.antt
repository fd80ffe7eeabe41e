-- The bank has the words of the tree's own description.
use Rattle.std.proofs.Common.{◌∙◌, sym, subst}
use Rattle.clk_base.specs.Description.{Description}
use Rattle.clk_base.specs.Valid.{IsValid}
use Rattle.clk_tree.proofs.Reading.{valid_in}
use Rattle.orphans.proofs.adopting.adoptable.Goals as goal

pub adoptable_in-requires-clause-valid : goal.adoptable_in-requires-clause-valid
adoptable_in-requires-clause-valid g c =
    let size = g.B.Bank.size c.args.bank.now in
    subst (λ (defs : Description). IsValid size defs) (sym c.requires.made)
    (valid_in c.args.desc.now.words size c.args.desc.now.defs c.len-size.ensures.valid c.requires.bank)

pub returns-clause-order : goal.returns-clause-order
returns-clause-order g c = λ s defs clocks order told. c.adoptable_in.ensures.order s (defs ∙ sym c.requires.made) clocks order told
