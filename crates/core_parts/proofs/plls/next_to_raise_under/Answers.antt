use Rattle.std.proofs.Common.{ℕ, [], ◌∷◌, refl, reverse, subst}
use Rattle.std.specs.Option.{option_map_or}
use Rattle.clk_model.specs.State.{link_in}
use Rattle.clk_model.specs.Tree.{path_within, path}
use Rattle.core_parts.specs.Plls.{raisable, Finds}
use Rattle.core_parts.proofs.Seeking.{raise_found}
use Rattle.core_parts.proofs.plls.next_to_raise_under.Goals as goal

pub returns : goal.returns
returns c =
    let above = option_map_or (λ p. path c.args.tree.now.clocks p.0) c.args.parent [] in
    raise_found c.args.tree.now.defs c.args.counts.now c.args.flight.now.raised c.args.clock.0 above (c.args.clock.0 ∷ above) c.is_raisable-sought.result c.raisable_above-above.result c.with_last.result refl c.is_raisable-sought.ensures
    (subst (λ (n : ℕ). Finds c.raisable_above-above.result (reverse (raisable c.args.tree.now.defs c.args.counts.now c.args.flight.now.raised (option_map_or (λ p. path_within (link_in c.args.tree.now.clocks) n p.0) c.args.parent [])))) c.depth.ensures c.raisable_above-above.ensures)
    c.with_last.ensures
