use Rattle.clk_model.proofs.LinkLaws.{events_keep_links, runs_keep_links}
use Rattle.clk_model.proofs.laws.links.links_stay_possible.Goals as goal

pub returns : goal.returns
returns c = record { events = events_keep_links; runs = runs_keep_links }
