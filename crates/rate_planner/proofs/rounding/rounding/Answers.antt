-- The rounding of the definitions is that over all levels.
use Rattle.std.specs.Option.{option_map}
use Rattle.rate_planner.specs.Kept.{wired}
use Rattle.rate_planner.specs.Rounded.{rounded_of}
use Rattle.rate_planner.proofs.Best.{round_whole}
use Rattle.rate_planner.proofs.rounding.rounding.Goals as goal

pub returns-clause-rounding : goal.returns-clause-rounding
returns-clause-rounding g c = λ regs kept.
    round_whole (wired c.args.tree.now.defs regs c.args.tree.now) (g.V.View.means c.args.view.now) c.args.c.0 c.args.x (option_map rounded_of c.round_by.result) c.depth.result c.depth.ensures (c.round_by.ensures.rounding regs kept)
