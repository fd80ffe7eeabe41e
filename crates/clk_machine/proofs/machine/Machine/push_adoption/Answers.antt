use Rattle.std.proofs.Common.{sym}
use Rattle.clk_machine.proofs.AdoptionSteps.{adopts_not, adopts_one}
use Rattle.clk_machine.proofs.machine.Machine.push_adoption.Goals as goal

pub returns-in_default : goal.returns-in_default
returns-in_default g c = adopts_not c.args.self.now c.args.new.0 c.args.orphan c.args.steps.now.items (λ s stands. sym (c.in_default.ensures.told s stands))

pub returns : goal.returns
returns g c =
    adopts_one c.args.self.now c.args.new.0 c.args.orphan c.in-Some.parent c.is_prepared_beside-prepared.result c.args.steps.now.items c.push_adoption_by.new.steps.items c.requires.there
    c.in-Some.ensures.beside c.in-Some.ensures.possible (λ s stands. sym (c.in-Some.ensures.told s stands)) c.is_prepared_beside-prepared.ensures c.in_ok-push_adoption_by.ensures.pushed
