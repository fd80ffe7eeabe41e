-- The list of the clocks in their order is that of the PLLs backwards.
use Rattle.std.proofs.Common.{◌∙◌, ap, List, [], ◌∷◌, map}
use Rattle.std.specs.Prelude.{reverse}
use Rattle.clk_base.specs.declared.clock.ClockId.{ClockId}
use Rattle.clk_model.specs.Lists.{without}
use Rattle.clk_flight.specs.Parts.{RaisedState}
use Rattle.clk_flight.proofs.Listing.{let_go-reverse}
use Rattle.clk_flight.proofs.raised.Raised.let_go.Goals as goal

pub returns-clause-plls : goal.returns-clause-plls
returns-clause-plls c =
    ap (λ (cs : List ClockId). reverse (map (λ d. d.0) cs)) c.drop_all.ensures.items
    ∙ let_go-reverse c.args.pll.0 c.self.inside.clocks.items
    ∙ ap (λ (r : RaisedState). without (c.args.pll.0 ∷ []) r.plls) c.self.view_is
