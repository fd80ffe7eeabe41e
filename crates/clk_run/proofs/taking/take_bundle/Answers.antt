use Rattle.std.proofs.Common.{ℕ, Option, refl, subst}
use Rattle.std.specs.Prelude.{IfOk, IfErr}
use Rattle.clk_gen.specs.Generated.{generated}
use Rattle.clk_run.specs.Outcomes.{GivesBundle, StopsReading}
use Rattle.clk_run.proofs.taking.take_bundle.Goals as goal

pub returns-in-None-clause-gives : goal.returns-in-None-clause-gives
returns-in-None-clause-gives g c =
    subst (λ (made : Option ℕ). IfOk c.take_read.result (GivesBundle made (g.S.Source.left c.args.input.now) (g.S.Source.left c.take_read.new.input))) c.in-None.ensures.made c.take_read.ensures.gives

pub returns-in-None-clause-stops : goal.returns-in-None-clause-stops
returns-in-None-clause-stops g c =
    subst (λ (made : Option ℕ). IfErr c.take_read.result (StopsReading made (g.S.Source.left c.args.input.now) (g.S.Source.left c.take_read.new.input))) c.in-None.ensures.made c.take_read.ensures.stops

pub returns-in-Ok-clause-gives : goal.returns-in-Ok-clause-gives
returns-in-Ok-clause-gives g c =
    let left = g.S.Source.left c.args.input.now in
    subst (λ (o : Option ℕ). GivesBundle o left left c.in-Ok.bundle) c.in-Some.ensures.made (generated c.in-Some.drivers, (refl, refl), c.in-Ok.ensures.spells)
