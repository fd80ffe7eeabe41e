use Rattle.std.proofs.Common.{sym, ap, ◌∙◌, ◌+◌}
use Rattle.dts_clocks.proofs.Naming.{led_by, ending, led_null, led_whole, led_begun, led_lacking}
use Rattle.dts_clocks.proofs.specifiers.Named.front.Goals as goal

pub returns-in-Null-clause-named : goal.returns-in-Null-clause-named
returns-in-Null-clause-named c = led_null c.args.self.now c.args.cells.now c.args.at _ c.requires (sym c.reference.ensures ∙ c.in-Null.is)

pub returns-in-Whole-clause-named : goal.returns-in-Whole-clause-named
returns-in-Whole-clause-named c =
    ap (led_by c.args.self.now c.args.cells.now) (c.naming.ensures ∙ ap (ending (c.args.at + 1)) c.clock.ensures)
    ∙ led_whole c.args.self.now c.args.cells.now c.args.at _ c.in-Whole.node c.requires (sym c.reference.ensures ∙ c.in-Whole.is)

pub returns-in-Begun-clause-named : goal.returns-in-Begun-clause-named
returns-in-Begun-clause-named c =
    ap (led_by c.args.self.now c.args.cells.now) (c.naming-in-Begun.ensures ∙ ap (ending (c.args.at + 1 + 1)) c.identified.ensures)
    ∙ led_begun c.args.self.now c.args.cells.now c.args.at _ c.in-Begun.node c.requires (sym c.reference.ensures ∙ c.in-Begun.is)

pub returns-in-Lacking-clause-named : goal.returns-in-Lacking-clause-named
returns-in-Lacking-clause-named c = led_lacking c.args.self.now c.args.cells.now c.args.at _ c.requires (sym c.reference.ensures ∙ c.in-Lacking.is)
