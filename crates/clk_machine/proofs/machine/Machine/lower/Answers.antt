use Rattle.std.proofs.Common.{List, ℕ}
use Rattle.clk_model.specs.Tree.{path}
use Rattle.core_parts.specs.Plls.{lowerable}
use Rattle.clk_machine.proofs.Working.{finds_some_told, lower_nothing}
use Rattle.clk_machine.proofs.machine.Machine.lower.Goals as goal

pub power_down-requires-clause-found : goal.power_down-requires-clause-found
power_down-requires-clause-found g c =
    let m = c.args.self.now in
    finds_some_told c.to_lower-found.result c.in-Some.pll m.window.words (λ (regs : List ℕ). lowerable m.desc.defs m.counts regs (path m.tree.clocks c.args.clock.0)) c.in-Some.is c.to_lower-found.ensures.found

pub find_none-requires-clause-seeks : goal.find_none-requires-clause-seeks
find_none-requires-clause-seeks g c =
    lower_nothing c.args.self.now c.args.clock c.to_lower-found.result c.to_lower-found.ensures.whole c.requires.going c.requires.next c.requires.first c.to_lower-found.ensures.found c.in-None.is
