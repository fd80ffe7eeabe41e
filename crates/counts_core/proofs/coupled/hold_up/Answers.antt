-- Each step of the walk, and its end.
use Rattle.std.proofs.Common.{◌≡◌, ap, arith, get_or}
use Rattle.std.specs.Option.{option_map}
use Rattle.clk_base.specs.declared.clock.ClockId.{ClockId}
use Rattle.counts_core.proofs.Walking.{zeros-le, zeros-begun, count-more, one-le}
use Rattle.counts_core.proofs.Steps.{steps_up, raise_goes, raise_ends, raise_stops}
use Rattle.counts_core.proofs.Growing.{grows_more}
use Rattle.counts_core.proofs.coupled.hold_up.Goals as goal

pub returns-then-count-gt0-clause-more : goal.returns-then-count-gt0-clause-more
returns-then-count-gt0-clause-more c =
    let now = c.loop-at.prepares in
    let at = c.loop-at.at.0 in
    let long = c.loop-at.auto.prepares in
    let size = c.requires.size in
    let place = c.loop-at.invariant.place in
    (raise_stops c.args.links.now c.args.prepares.now now _ c.args.clock.0 at c.loop-at.begun c.loop-at.invariant.walk (steps_up c.args.links.now now at (omega arith) (omega arith)) c.if-count-gt0.true).0

pub returns-then-count-gt0-clause-begins : goal.returns-then-count-gt0-clause-begins
returns-then-count-gt0-clause-begins c =
    let now = c.loop-at.prepares in
    let at = c.loop-at.at.0 in
    let long = c.loop-at.auto.prepares in
    let size = c.requires.size in
    let place = c.loop-at.invariant.place in
    (raise_stops c.args.links.now c.args.prepares.now now _ c.args.clock.0 at c.loop-at.begun c.loop-at.invariant.walk (steps_up c.args.links.now now at (omega arith) (omega arith)) c.if-count-gt0.true).1

pub overflow_add-begun : goal.overflow_add-begun
overflow_add-begun c =
    let few = c.loop-at.invariant.few in
    let most = zeros-le c.args.prepares.now in
    let size = c.requires.size in
    let short = c.requires.few in
    record { fits = omega arith }

pub loop-at-smaller : goal.loop-at-smaller
loop-at-smaller c =
    let now = c.loop-at.prepares in
    let at = c.loop-at.at.0 in
    let long = c.loop-at.auto.prepares in
    let size = c.requires.size in
    let place = c.loop-at.invariant.place in
    let fewer = zeros-begun now at (omega arith) (omega (arith, c.if-count-gt0.false)) in
    omega arith

pub loop-at-preserved : goal.loop-at-preserved
loop-at-preserved c =
    let now = c.loop-at.prepares in
    let at = c.loop-at.at.0 in
    let long = c.loop-at.auto.prepares in
    let size = c.requires.size in
    let place = c.loop-at.invariant.place in
    let few = c.loop-at.invariant.few in
    let none : get_or now at 0 ≡ 0 = omega (arith, c.if-count-gt0.false) in
    let fewer = zeros-begun now at (omega arith) none in
    record {
      walk =
          raise_goes c.args.links.now c.args.prepares.now now _ c.args.clock.0 at c.loop-at.begun c.in-Some.parent c.loop-at.invariant.walk
          (steps_up c.args.links.now now at (omega arith) (omega arith)) none c.in-Some.is;
      place = c.requires.inside at c.in-Some.parent.0 (ap (option_map (λ (q : ClockId). q.0)) c.in-Some.is);
      room = λ d.
          let more = count-more now at d (omega arith) in
          let before = c.loop-at.invariant.room d in
          one-le now at d 268435456 _ (omega arith) more none before;
      few = omega arith;
      sums = c.add_if.ensures.sums;
      grown =
          grows_more c.args.gated.now c.args.links.now c.args.protects.now.own.items c.args.prepares.now c.loop-at.protects.own.items now c.add_if.new.protects.own.items _ at c.loop-at.invariant.grown
          (steps_up c.args.links.now now at (omega arith) (omega arith)) c.add_if.ensures.own;
    }

pub returns-in-None-clause-more : goal.returns-in-None-clause-more
returns-in-None-clause-more c =
    let now = c.loop-at.prepares in
    let at = c.loop-at.at.0 in
    let long = c.loop-at.auto.prepares in
    let size = c.requires.size in
    let place = c.loop-at.invariant.place in
    (raise_ends c.args.links.now c.args.prepares.now now _ c.args.clock.0 at c.loop-at.begun c.loop-at.invariant.walk (steps_up c.args.links.now now at (omega arith) (omega arith))
    (omega (arith, c.if-count-gt0.false)) c.in-None.is).0

pub returns-in-None-clause-begins : goal.returns-in-None-clause-begins
returns-in-None-clause-begins c =
    let now = c.loop-at.prepares in
    let at = c.loop-at.at.0 in
    let long = c.loop-at.auto.prepares in
    let size = c.requires.size in
    let place = c.loop-at.invariant.place in
    (raise_ends c.args.links.now c.args.prepares.now now _ c.args.clock.0 at c.loop-at.begun c.loop-at.invariant.walk (steps_up c.args.links.now now at (omega arith) (omega arith))
    (omega (arith, c.if-count-gt0.false)) c.in-None.is).1
