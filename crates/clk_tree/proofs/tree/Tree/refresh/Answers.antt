-- The bank has the words of the tree's own description.
use Rattle.std.proofs.Common.{subst}
use Rattle.clk_base.specs.Description.{Description}
use Rattle.clk_base.specs.Valid.{IsValid}
use Rattle.clk_tree.proofs.Reading.{valid_in}
use Rattle.clk_tree.proofs.tree.Tree.refresh.Goals as goal

pub refresh_from-requires-clause-valid : goal.refresh_from-requires-clause-valid
refresh_from-requires-clause-valid g c =
    let size = g.B.Bank.size c.args.bank.now in
    subst (λ (defs : Description). IsValid size defs) c.requires.made
    (valid_in c.args.desc.now.words size c.args.desc.now.defs c.len-size.ensures.valid c.requires.bank)
