-- Each name that is looked up is a clock's, or one is not.
use Rattle.std.proofs.Common.{ap, ◌∙◌, subst, true, ◌≡◌, ℕ, List, map, Some}
use Rattle.std.specs.List.{list_all}
use Rattle.bundle_text.specs.Words.{texts}
use Rattle.clk_base.specs.Places.{places}
use Rattle.clk_base.specs.declared.clock.ClockId.{ClockId}
use Rattle.std.proofs.lemmas.List.{map-append}
use Rattle.clock_lines.specs.Section.{is_named, place_of}
use Rattle.clock_lines.proofs.Borrowed.{texts-at, texts-within, texts-whole}
use Rattle.clock_lines.proofs.Looked.{named_more, places_found, places_missing}
use Rattle.clock_lines.proofs.described.parents_of.Goals as goal

pub returns-in_default : goal.returns-in_default
returns-in_default c =
    let names = c.args.names.now in
    let i = c.loop-name.name-index in
    places_missing c.args.gathered.now (texts names) i _ (texts-within names i c.loop-name-test.true) (texts-at names i _ c.loop-name-test.true) c.in_default.ensures

pub loop-name-preserved : goal.loop-name-preserved
loop-name-preserved c =
    let names = c.args.names.now in
    let i = c.loop-name.name-index in
    let more = named_more c.args.gathered.now (texts names) i _ c.in-Some.place (places c.loop-name.found.items) (texts-within names i c.loop-name-test.true)
    (texts-at names i _ c.loop-name-test.true) c.in-Some.ensures c.loop-name.invariant.named c.loop-name.invariant.placed in
    record { named = more.0; placed = ap places c.in_ok-push.ensures.items ∙ (map-append (λ (id : ClockId). id.0) c.loop-name.found.items _ ∙ more.1) }

pub returns : goal.returns
returns c =
    let all = texts-whole c.args.names.now c.loop-name.name-index c.loop-name-test.false in
    ap Some c.new.ensures
    ∙ places_found c.args.gathered.now (texts c.args.names.now) (places c.loop-name.found.items)
    (subst (λ (ns : List (List ℕ)). list_all (is_named c.args.gathered.now) ns ≡ true) all c.loop-name.invariant.named)
    (c.loop-name.invariant.placed ∙ ap (map (place_of c.args.gathered.now)) all)
