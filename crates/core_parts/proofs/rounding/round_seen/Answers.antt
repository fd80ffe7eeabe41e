use Rattle.std.proofs.Common.{◌≡◌}
use Rattle.clk_model.specs.Round.{round_rate}
use Rattle.core_parts.proofs.RoundedWords.{read_shown}
use Rattle.core_parts.proofs.rounding.round_seen.Goals as goal

pub returns : goal.returns
returns g c =
    let tree = c.args.tree.now in
    read_shown c.args.window.now.words tree.defs tree (λ w. c.round_resting.result ≡ round_rate w (g.V.View.means c.args.view.now) c.args.clock.0 c.args.rate)
    c.requires.tied.kept c.round_resting.ensures.reads
