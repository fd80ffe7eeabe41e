use Rattle.std.proofs.Common.{None, refl, ◌∙◌}
use Rattle.clk_machine.specs.Copied.{Copy}
use Rattle.clk_machine.proofs.Tracing.{copy_opening}
use Rattle.clk_machine.proofs.prep.Prep.create.Goals as goal

pub returns-clause-opens : goal.returns-clause-opens
returns-clause-opens c =
    let made = c.in_ok-machine.ensures in
    let copy : Copy = record { parts = c.in_ok-machine.machine; room = None } in
    copy_opening copy c.args.words.now c.args.desc.defs c.args.ignore_unused c.args.credits made.valid c.requires.credits made.size (made.stands (made.told ∙ refl))
