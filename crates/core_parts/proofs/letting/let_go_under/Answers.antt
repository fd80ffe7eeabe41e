use Rattle.std.proofs.Common.{ℕ, [], ◌∷◌, Option, sym, subst}
use Rattle.std.specs.Option.{option_map_or}
use Rattle.clk_base.specs.declared.clock.ClockId.{ClockId}
use Rattle.clk_model.specs.State.{link_in}
use Rattle.clk_model.specs.Tree.{path, path_within}
use Rattle.core_parts.specs.Letting.{LetsGoAll}
use Rattle.core_parts.proofs.LettingGo.{lets_go_then, front_still}
use Rattle.core_parts.proofs.letting.let_go_under.Goals as goal

pub let_go_path-requires : goal.let_go_path-requires
let_go_path-requires c = front_still c.args.flight.now c.let_go.new.self c.args.clock c.requires c.let_go.ensures.flight

pub returns-in-Some : goal.returns-in-Some
returns-in-Some c =
    subst (λ (o : Option ClockId). LetsGoAll (c.args.clock.0 ∷ option_map_or (λ p. path c.args.tree.now.clocks p.0) o []) c.args.flight.now c.let_go_path.new.flight) (sym c.in-Some.is)
    (lets_go_then c.args.clock (path c.args.tree.now.clocks c.in-Some.parent.0) c.args.flight.now c.let_go.new.self c.let_go_path.new.flight c.requires c.let_go.ensures.flight c.let_go.ensures.change c.let_go.ensures.less
    (subst (λ (n : ℕ). LetsGoAll (path_within (link_in c.args.tree.now.clocks) n c.in-Some.parent.0) c.let_go.new.self c.let_go_path.new.flight) c.depth.ensures c.let_go_path.ensures))
