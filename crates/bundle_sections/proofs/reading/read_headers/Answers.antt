use Rattle.std.proofs.Common.{refl, arith, map}
use Rattle.std.proofs.lemmas.List.{map-append}
use Rattle.bundle_sections.specs.Said.{said_section}
use Rattle.bundle_sections.proofs.Places.{at_first, at_end, tiles-more}
use Rattle.bundle_sections.proofs.reading.read_headers.Goals as goal

pub loop-at-init : goal.loop-at-init
loop-at-init c =
    simp c.new-found.ensures.items (record { here = at_first c.args.lines.now c.args.first c.requires.first c.requires.within c.requires.kept; tiled = refl })

pub loop-at-smaller : goal.loop-at-smaller
loop-at-smaller c = omega (arith, c.in_ok-section.ensures.longer)

pub loop-at-preserved : goal.loop-at-preserved
loop-at-preserved c =
    let next = rw c.deref.ensures.value at c.in_ok-section.ensures in
    let tiled = tiles-more c.args.first c.loop-at.at (map said_section c.loop-at.found.items) (said_section c.in_ok-section.section) c.loop-at.invariant.tiled next.place next.longer in
    simp (c.in_ok-push.ensures.items, map-append) (record { here = next.here; tiled = tiled })

pub returns : goal.returns
returns c =
    at_end c.args.lines.now c.args.first c.loop-at.at _ c.requires.some c.loop-at.invariant.here (omega arith) c.loop-at.invariant.tiled
