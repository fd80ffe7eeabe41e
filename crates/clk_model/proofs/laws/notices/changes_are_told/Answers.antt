use Rattle.clk_model.proofs.ToldRunLaws as laws
use Rattle.clk_model.proofs.AskedLaws as asked
use Rattle.clk_model.proofs.laws.notices.changes_are_told.Goals as goal

pub returns : goal.returns
returns c = record { law = laws.changes_are_told; asked = asked.changes_are_asked }
