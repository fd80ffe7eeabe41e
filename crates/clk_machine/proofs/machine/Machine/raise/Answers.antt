use Rattle.std.proofs.Common.{◌≡◌, true, List, reverse, subst}
use Rattle.std.specs.Prelude.{IfSome}
use Rattle.clk_base.specs.declared.clock.ClockId.{ClockId}
use Rattle.clk_model.specs.State.{registered}
use Rattle.clk_model.specs.Tree.{path_to_be}
use Rattle.core_parts.specs.InFlight.{is_near}
use Rattle.core_parts.specs.Plls.{raisable}
use Rattle.clk_machine.proofs.Working.{finds_some_told, raise_nothing}
use Rattle.clk_machine.proofs.machine.Machine.raise.Goals as goal

pub power_up-requires-clause-near : goal.power_up-requires-clause-near
power_up-requires-clause-near g c =
    let m = c.args.self.now in
    subst (λ o. IfSome o (λ (pll : ClockId). is_near m.flight.call (registered m.tree.clocks) pll.0 ≡ true)) c.in-Some.is c.to_raise-found.ensures.near

pub power_up-requires-clause-found : goal.power_up-requires-clause-found
power_up-requires-clause-found g c =
    let m = c.args.self.now in
    finds_some_told c.to_raise-found.result c.in-Some.pll m.window.words (λ (regs : List _). reverse (raisable m.desc.defs m.counts m.flight.raised (path_to_be m.desc.defs regs m.tree.clocks c.args.clock.0))) c.in-Some.is
    c.to_raise-found.ensures.found

pub find_none-requires-clause-seeks : goal.find_none-requires-clause-seeks
find_none-requires-clause-seeks g c =
    raise_nothing c.args.self.now c.args.clock c.to_raise-found.result c.to_raise-found.ensures.whole c.requires.going c.requires.next c.requires.first c.to_raise-found.ensures.found c.in-None.is
