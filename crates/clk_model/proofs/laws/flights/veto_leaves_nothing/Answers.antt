use Rattle.clk_model.proofs.VetoLaws as laws
use Rattle.clk_model.proofs.laws.flights.veto_leaves_nothing.Goals as goal

pub returns-clause-called_off : goal.returns-clause-called_off
returns-clause-called_off c = laws.vetoed_over

pub returns-clause-cause : goal.returns-clause-cause
returns-clause-cause c = laws.busy_by_veto
