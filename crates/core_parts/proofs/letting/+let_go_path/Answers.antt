use Rattle.std.proofs.Common.{◌≡◌, ◌∙◌, ◌<◌, ◌-◌, ℕ, List, ◌∷◌, Option, sym, ap, subst, arith}
use Rattle.clk_model.specs.State.{link_in}
use Rattle.clk_model.specs.Tree.{path_within}
use Rattle.clk_model.proofs.PathLaws.{above, path_cons}
use Rattle.core_parts.specs.Letting.{LetsGoAll}
use Rattle.core_parts.proofs.LettingGo.{lets_go_none, lets_go_then, front_still}
use Rattle.core_parts.proofs.letting.+let_go_path.Goals as goal

pub let_go_path-requires : goal.let_go_path-requires
let_go_path-requires t c = (omega arith, front_still c.args.flight.now c.let_go.new.self c.args.clock c.requires c.let_go.ensures.flight)

pub returns-then-levels-eq0 : goal.returns-then-levels-eq0
returns-then-levels-eq0 t c =
    subst (λ (n : ℕ). LetsGoAll (path_within (link_in c.args.tree.now.clocks) n c.args.clock.0) c.args.flight.now c.args.flight.now) (sym c.if-levels-eq0.true) (lets_go_none c.args.flight.now)

pub returns-in-Some : goal.returns-in-Some
returns-in-Some t c =
    let up : ℕ → Option ℕ = link_in c.args.tree.now.clocks in
    let some : 0 < c.args.levels = (let none = c.if-levels-eq0.false in omega arith) in
    let path : path_within up c.args.levels c.args.clock.0 ≡ c.args.clock.0 ∷ path_within up (c.args.levels - 1) c.in-Some.parent.0 =
    path_cons up c.args.levels c.args.clock.0 some ∙ ap (λ (o : Option ℕ). c.args.clock.0 ∷ above up (c.args.levels - 1) o) (sym c.in-Some.ensures.link) in
    subst (λ (ys : List ℕ). LetsGoAll ys c.args.flight.now c.let_go_path.new.flight) (sym path)
    (lets_go_then c.args.clock (path_within up (c.args.levels - 1) c.in-Some.parent.0) c.args.flight.now c.let_go.new.self c.let_go_path.new.flight c.requires c.let_go.ensures.flight c.let_go.ensures.change
    c.let_go.ensures.less c.let_go_path.ensures)
