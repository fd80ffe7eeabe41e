-- What is left is what stands behind the first step of what was.
use Rattle.std.proofs.Common.{◌+◌, ◌++◌, Option, ◌∙◌, sym, ap, drop}
use Rattle.clk_base.specs.declared.clock.ClockId.{ClockId}
use Rattle.clk_model.specs.Step.{rest_of}
use Rattle.clk_flight.specs.Parts.{ScriptState, visit_alone}
use Rattle.clk_flight.proofs.Listing.{drop_one}
use Rattle.clk_flight.proofs.script.Script.take.Goals as goal

pub returns-then-self-len-clause-left : goal.returns-then-self-len-clause-left
returns-then-self-len-clause-left c =
    ap (λ (o : Option ClockId). visit_alone o ++ drop (c.self.inside.at + 1) c.self.inside.steps.items) c.in-None.is
    ∙ drop_one c.self.inside.at c.self.inside.steps.items
    ∙ sym (ap (λ (o : Option ClockId). rest_of (visit_alone o ++ drop c.self.inside.at c.self.inside.steps.items)) c.in-None.is)
    ∙ ap (λ (s : ScriptState). rest_of s.left) c.self.view_is
