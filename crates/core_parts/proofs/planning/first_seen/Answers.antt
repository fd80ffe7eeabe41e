use Rattle.std.proofs.Common.{◌≡◌}
use Rattle.std.specs.Option.{option_map}
use Rattle.clk_model.specs.Round.{round}
use Rattle.rate_planner.specs.Rounded.{rounded_of}
use Rattle.core_parts.proofs.RoundedWords.{read_shown}
use Rattle.core_parts.proofs.planning.first_seen.Goals as goal

pub returns-clause-rounding : goal.returns-clause-rounding
returns-clause-rounding g c =
    let tree = c.args.tree.now in
    read_shown c.args.window.now.words tree.defs tree (λ w. option_map rounded_of c.first_rounding.result ≡ round w (g.V.View.means c.args.view.now) c.args.clock.0 c.args.wanted)
    c.requires.tied.kept c.first_rounding.ensures.reads
