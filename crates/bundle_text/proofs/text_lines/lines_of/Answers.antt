use Rattle.std.proofs.Common.{◌==◌, sym, rules, arith, length-append, length-drop}
use Rattle.std.proofs.lemmas.List.{map-append, take_rest}
use Rattle.bundle_text.specs.Words.{texts}
use Rattle.bundle_text.proofs.Cuts.{lines-more, lines-last, position-at}
use Rattle.bundle_text.proofs.text_lines.lines_of.Goals as goal

pub loop-at-preserved : goal.loop-at-preserved
loop-at-preserved c =
    let feed = sym c.in-Some.ensures in
    let more = lines-more (texts c.loop-at.found.items) c.loop-at.rest.now c.in-Some.at _ c.loop-at.invariant.whole feed in
    let found = position-at (λ b. b == 10) c.loop-at.rest.now c.in-Some.at feed in
    record {
      whole = simp (c.in_ok-push.ensures.items, map-append, take_rest, c.without_return.ensures) more;
      few = simp (c.in_ok-push.ensures.items, length-append, take_rest, length-drop) (omega (arith, found.0, found.1, c.loop-at.invariant.few));
    }

pub returns-clause-lines : goal.returns-clause-lines
returns-clause-lines c =
    let last = lines-last (texts c.loop-at.found.items) c.loop-at.rest.now _ c.loop-at.invariant.whole (sym c.in_default.ensures) (search rules) in
    simp (c.in_ok-push-2.ensures.items, map-append) last
