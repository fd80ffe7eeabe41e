-- A clock has few possible parents, and the place is that in their list.
use Rattle.std.proofs.Common.{◌≡◌, ◌∙◌, sym, ap, arith, length}
use Rattle.std.specs.Prelude.{◌==◌}
use Rattle.std.specs.List.{position_or_len}
use Rattle.std.proofs.lemmas.List.{length-map}
use Rattle.clk_base.specs.declared.clock.ClockDef.{ClockDef}
use Rattle.clk_base.specs.declared.clock.ClockId.{ClockId}
use Rattle.clk_base.specs.Description.{parents_of}
use Rattle.clk_base.specs.Valid.{counts}
use Rattle.clk_base.proofs.Worked.{parents_few}
use Rattle.change_walk.proofs.Telling.{place_among}
use Rattle.change_walk.proofs.moves.place_of.Goals as goal

pub overflow_cast-result : goal.overflow_cast-result
overflow_cast-result c =
    let count : length c.as_slice.result.now ≡ length (parents_of c.args.tree.now.defs c.args.clock.0) =
    sym (length-map c.as_slice.result.now (λ (p : ClockId). p.0)) ∙ ap length (c.as_slice.ensures ∙ ap (λ (d : ClockDef). d.parents) c.def.ensures.def) in
    let few = parents_few c.args.tree.now.defs (c.def.ensures.valid.rules counts) c.args.clock.0 c.requires in
    let inside = c.place_in-place.ensures.few in
    omega arith

pub returns : goal.returns
returns c =
    c.place_in-place.ensures.place ∙ place_among c.args.parent.0 c.as_slice.result.now
    ∙ ap (position_or_len (λ q. q == c.args.parent.0)) (c.as_slice.ensures ∙ ap (λ (d : ClockDef). d.parents) c.def.ensures.def)
