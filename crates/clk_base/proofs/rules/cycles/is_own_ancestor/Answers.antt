-- The walk begins at the possible parents of the clock, and goes on with those of each place.
use Rattle.std.proofs.Common.{◌≡◌, ◌<◌, ◌≤◌, [], length, get_or, false, sym, ap, ◌∙◌, arith, rules, refl}
use Rattle.std.specs.Prelude.{nat_lt}
use Rattle.std.specs.List.{list_all}
use Rattle.std.proofs.lemmas.List.{length-map, get_or_read}
use Rattle.clk_base.specs.declared.clock.ClockDef.{ClockDef}
use Rattle.clk_base.specs.declared.clock.ClockId.{ClockId}
use Rattle.clk_base.specs.Description.{parents_of}
use Rattle.clk_base.specs.Places.{places}
use Rattle.clk_base.specs.Tables.{with_places}
use Rattle.clk_base.proofs.Tabled.{parents_inside, parents_read, place_read, parents-below}
use Rattle.clk_base.proofs.Walked.{place_below, places-few, with_places-below, IsWalk-start, IsWalk-next, walked}
use Rattle.clk_base.proofs.rules.cycles.is_own_ancestor.Goals as goal

pub mark_all-requires-clause-inside : goal.mark_all-requires-clause-inside
mark_all-requires-clause-inside c =
    let parents = c.as_slice.ensures ∙ ap (λ (d : ClockDef). d.parents) (sym c.index-defs-c.is) in
    parents_inside c.args.defs.now c.args.c.0 (length c.in_ok-marked.marked.items) c.index-defs-c.result c.as_slice.result.now c.requires.parents c.requires.inside c.index-defs-c.is parents
    (search rules)

pub loop-at-init : goal.loop-at-init
loop-at-init c =
    let long : length c.in_ok-marked.marked.items ≡ length c.args.defs.now = search rules in
    let up = parents_of c.args.defs.now in
    let parents = c.as_slice.ensures ∙ ap (λ (d : ClockDef). d.parents) (sym c.index-defs-c.is) in
    let read = parents_read c.args.defs.now c.args.c.0 c.index-defs-c.result (places c.as_slice.result.now) c.requires.inside c.index-defs-c.is parents in
    let first : places c.mark_all.new.reached.items ≡ with_places [] (up c.args.c.0) =
    c.in_ok-mark_all.ensures.reached ∙ (ap (λ xs. with_places (places xs) (places c.as_slice.result.now)) c.new-reached.ensures.items ∙ ap (with_places []) read) in
    record {
      each = c.mark_all.ensures.each ∙ long;
      listed = c.in_ok-mark_all.ensures.listed;
      inside = ap (list_all (λ p. nat_lt p (length c.args.defs.now))) first ∙ with_places-below (length c.args.defs.now) [] (up c.args.c.0) refl (parents-below c.args.defs.now c.requires.parents c.args.c.0 c.requires.inside);
      walk = IsWalk-start up c.args.c.0 (places c.mark_all.new.reached.items) first;
    }

pub bounds-defs-next : goal.bounds-defs-next
bounds-defs-next c =
    let at : c.loop-at.at < length c.loop-at.reached.items = search rules in
    let place = place_read c.loop-at.reached.items c.loop-at.at c.index-next.result.now at c.index-next.ensures in
    omega (arith, place, place_below (length c.args.defs.now) (places c.loop-at.reached.items) c.loop-at.invariant.inside c.loop-at.at (omega (arith, length-map c.loop-at.reached.items (λ (p : ClockId). p.0))))

pub mark_all-requires-in-loop-at-clause-inside : goal.mark_all-requires-in-loop-at-clause-inside
mark_all-requires-in-loop-at-clause-inside c =
    let at : c.loop-at.at < length c.loop-at.reached.items = search rules in
    let place = place_read c.loop-at.reached.items c.loop-at.at c.index-next.result.now at c.index-next.ensures in
    let inside : c.index-next.result.now.0 < length c.args.defs.now = omega (arith, place, place_below (length c.args.defs.now) (places c.loop-at.reached.items) c.loop-at.invariant.inside c.loop-at.at (omega (arith, length-map c.loop-at.reached.items (λ (p : ClockId). p.0)))) in
    let parents = c.as_slice-in-loop-at.ensures ∙ ap (λ (d : ClockDef). d.parents) (sym c.index-defs-next.is) in
    parents_inside c.args.defs.now c.index-next.result.now.0 (length c.loop-at.marked.items) c.index-defs-next.result c.as_slice-in-loop-at.result.now c.requires.parents inside c.index-defs-next.is parents c.loop-at.invariant.each

pub loop-at-preserved : goal.loop-at-preserved
loop-at-preserved c =
    let up = parents_of c.args.defs.now in
    let old = places c.loop-at.reached.items in
    let new = places c.mark_all-in-loop-at.new.reached.items in
    let at : c.loop-at.at < length c.loop-at.reached.items = search rules in
    let at_place : c.loop-at.at < length old = omega (arith, length-map c.loop-at.reached.items (λ (p : ClockId). p.0)) in
    let place : get_or old c.loop-at.at 0 ≡ c.index-next.result.now.0 = place_read c.loop-at.reached.items c.loop-at.at c.index-next.result.now at c.index-next.ensures in
    let inside : c.index-next.result.now.0 < length c.args.defs.now = omega (arith, place, place_below (length c.args.defs.now) old c.loop-at.invariant.inside c.loop-at.at at_place) in
    let parents = c.as_slice-in-loop-at.ensures ∙ ap (λ (d : ClockDef). d.parents) (sym c.index-defs-next.is) in
    let read = parents_read c.args.defs.now c.index-next.result.now.0 c.index-defs-next.result (places c.as_slice-in-loop-at.result.now) inside c.index-defs-next.is parents in
    let more : new ≡ with_places old (up c.index-next.result.now.0) = c.in_ok-mark_all-2.ensures.reached ∙ ap (with_places old) read in
    record {
      each = c.mark_all-in-loop-at.ensures.each ∙ c.loop-at.invariant.each;
      listed = c.in_ok-mark_all-2.ensures.listed;
      inside = ap (list_all (λ p. nat_lt p (length c.args.defs.now))) more ∙ with_places-below (length c.args.defs.now) old (up c.index-next.result.now.0) c.loop-at.invariant.inside (parents-below c.args.defs.now c.requires.parents c.index-next.result.now.0 inside);
      walk = IsWalk-next up c.args.c.0 old new c.loop-at.at c.loop-at.invariant.walk at_place (more ∙ ap (λ q. with_places old (up q)) (sym place));
    }

pub returns : goal.returns
returns c =
    let up = parents_of c.args.defs.now in
    let old = places c.loop-at.reached.items in
    let done : length c.loop-at.reached.items ≤ c.loop-at.at = search rules in
    let few : length old ≤ length c.args.defs.now = omega (arith, places-few c.loop-at.marked.items old c.loop-at.invariant.listed, c.loop-at.invariant.each) in
    get_or_read c.loop-at.marked.items c.args.c.0 c.index.result.now (omega (arith, c.requires.inside, c.loop-at.invariant.each)) c.index.ensures false
    ∙ (c.loop-at.invariant.listed.same c.args.c.0
    ∙ walked up c.args.c.0 (length c.args.defs.now) old c.loop-at.at c.args.c.0 c.loop-at.invariant.walk (omega (arith, length-map c.loop-at.reached.items (λ (p : ClockId). p.0))) few)
