use Rattle.clk_run.proofs.GivenBack.{given_back}
use Rattle.clk_run.proofs.laws.journal_given_back.Goals as goal

pub returns : goal.returns
returns c b j k sound first second same = given_back b sound j k first second same
