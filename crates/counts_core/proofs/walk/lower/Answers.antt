-- Each step of the walk, and its end.
use Rattle.std.proofs.Common.{◌-◌, ap, arith, set, get_or}
use Rattle.std.proofs.lemmas.List.{length-set}
use Rattle.std.specs.Option.{option_map}
use Rattle.clk_base.specs.declared.clock.ClockId.{ClockId}
use Rattle.counts_core.proofs.Walking.{zeros-le}
use Rattle.counts_core.proofs.Steps.{steps_less, less_there, zeros_more, lower_finds, lower_goes, lower_ends, lower_stops}
use Rattle.counts_core.proofs.walk.lower.Goals as goal

pub returns-then-count-gt0-clause-less : goal.returns-then-count-gt0-clause-less
returns-then-count-gt0-clause-less c =
    let now = c.loop-at.counts in
    let at = c.loop-at.at.0 in
    let long = c.loop-at.auto.counts in
    let size = c.requires.size in
    let place = c.loop-at.invariant.place in
    let some = lower_finds c.args.links.now c.args.counts.now now c.args.clock.0 at c.loop-at.stopped c.loop-at.invariant.walk c.requires.held in
    let here = less_there now at (get_or now at 0 - 1) (omega arith) in
    (lower_stops c.args.links.now c.args.counts.now now _ c.args.clock.0 at c.loop-at.stopped c.loop-at.invariant.walk (steps_less c.args.links.now now at (omega arith) (omega arith) some)
    (omega (arith, c.if-count-gt0.true))).0

pub returns-then-count-gt0-clause-stops : goal.returns-then-count-gt0-clause-stops
returns-then-count-gt0-clause-stops c =
    let now = c.loop-at.counts in
    let at = c.loop-at.at.0 in
    let long = c.loop-at.auto.counts in
    let size = c.requires.size in
    let place = c.loop-at.invariant.place in
    let some = lower_finds c.args.links.now c.args.counts.now now c.args.clock.0 at c.loop-at.stopped c.loop-at.invariant.walk c.requires.held in
    let here = less_there now at (get_or now at 0 - 1) (omega arith) in
    (lower_stops c.args.links.now c.args.counts.now now _ c.args.clock.0 at c.loop-at.stopped c.loop-at.invariant.walk (steps_less c.args.links.now now at (omega arith) (omega arith) some)
    (omega (arith, c.if-count-gt0.true))).1

pub overflow_add-stopped : goal.overflow_add-stopped
overflow_add-stopped c =
    let few = c.loop-at.invariant.few in
    let most = zeros-le c.loop-at.counts in
    let long = c.loop-at.auto.counts in
    let size = c.requires.size in
    let short = c.requires.few in
    record { fits = omega arith }

pub loop-at-smaller : goal.loop-at-smaller
loop-at-smaller c =
    let now = c.loop-at.counts in
    let at = c.loop-at.at.0 in
    let long = c.loop-at.auto.counts in
    let size = c.requires.size in
    let place = c.loop-at.invariant.place in
    let some = lower_finds c.args.links.now c.args.counts.now now c.args.clock.0 at c.loop-at.stopped c.loop-at.invariant.walk c.requires.held in
    let more = zeros_more now at (omega arith) some (omega (arith, c.if-count-gt0.false)) in
    let most = zeros-le (set now at (get_or now at 0 - 1)) in
    let same = length-set now at (get_or now at 0 - 1) in
    omega arith

pub loop-at-preserved : goal.loop-at-preserved
loop-at-preserved c =
    let now = c.loop-at.counts in
    let at = c.loop-at.at.0 in
    let long = c.loop-at.auto.counts in
    let size = c.requires.size in
    let place = c.loop-at.invariant.place in
    let few = c.loop-at.invariant.few in
    let some = lower_finds c.args.links.now c.args.counts.now now c.args.clock.0 at c.loop-at.stopped c.loop-at.invariant.walk c.requires.held in
    let here = less_there now at (get_or now at 0 - 1) (omega arith) in
    let more = zeros_more now at (omega arith) some (omega (arith, c.if-count-gt0.false)) in
    record {
      walk =
          lower_goes c.args.links.now c.args.counts.now now _ c.args.clock.0 at c.loop-at.stopped c.in-Some.parent c.loop-at.invariant.walk
          (steps_less c.args.links.now now at (omega arith) (omega arith) some) (omega (arith, c.if-count-gt0.false)) c.in-Some.is;
      place = c.requires.inside at c.in-Some.parent.0 (ap (option_map (λ (q : ClockId). q.0)) c.in-Some.is);
      few = omega arith;
    }

pub returns-in-None-clause-less : goal.returns-in-None-clause-less
returns-in-None-clause-less c =
    let now = c.loop-at.counts in
    let at = c.loop-at.at.0 in
    let long = c.loop-at.auto.counts in
    let size = c.requires.size in
    let place = c.loop-at.invariant.place in
    let some = lower_finds c.args.links.now c.args.counts.now now c.args.clock.0 at c.loop-at.stopped c.loop-at.invariant.walk c.requires.held in
    let here = less_there now at (get_or now at 0 - 1) (omega arith) in
    (lower_ends c.args.links.now c.args.counts.now now _ c.args.clock.0 at c.loop-at.stopped c.loop-at.invariant.walk (steps_less c.args.links.now now at (omega arith) (omega arith) some)
    (omega (arith, c.if-count-gt0.false)) c.in-None.is).0

pub returns-in-None-clause-stops : goal.returns-in-None-clause-stops
returns-in-None-clause-stops c =
    let now = c.loop-at.counts in
    let at = c.loop-at.at.0 in
    let long = c.loop-at.auto.counts in
    let size = c.requires.size in
    let place = c.loop-at.invariant.place in
    let some = lower_finds c.args.links.now c.args.counts.now now c.args.clock.0 at c.loop-at.stopped c.loop-at.invariant.walk c.requires.held in
    let here = less_there now at (get_or now at 0 - 1) (omega arith) in
    (lower_ends c.args.links.now c.args.counts.now now _ c.args.clock.0 at c.loop-at.stopped c.loop-at.invariant.walk (steps_less c.args.links.now now at (omega arith) (omega arith) some)
    (omega (arith, c.if-count-gt0.false)) c.in-None.is).1
