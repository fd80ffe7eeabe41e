-- A number is in the list backwards as it is in the list.
use Rattle.std.proofs.Common.{◌∙◌, ap, List, nat_eq}
use Rattle.std.specs.List.{list_any}
use Rattle.clk_base.specs.declared.clock.ClockId.{ClockId}
use Rattle.clk_model.specs.Lists.{is_in}
use Rattle.clk_flight.specs.Parts.{RaisedState}
use Rattle.clk_flight.proofs.Listing.{is_in-reverse}
use Rattle.clk_flight.proofs.raised.Raised.contains.Goals as goal

pub returns : goal.returns
returns c =
    c.has.ensures
    ∙ ap (λ (cs : List ClockId). list_any (λ d. nat_eq d.0 c.args.pll.0) cs) c.deref.ensures.value
    ∙ is_in-reverse c.args.pll.0 c.self.inside.clocks.items
    ∙ ap (λ (r : RaisedState). is_in c.args.pll.0 r.plls) c.self.view_is
