-- The next clock has a name of its own, and its record goes last.
use Rattle.clock_lines.proofs.Looked.{item-is, apart-next, find-more, described-more}
use Rattle.clock_lines.proofs.described.describe.Goals as goal

pub with_clock-requires-clause-apart : goal.with_clock-requires-clause-apart
with_clock-requires-clause-apart c =
    let clocks = c.args.gathered.now in
    let i = c.loop-clock.clock-index in
    let item = item-is c.clocks-clock-items.result.now clocks i c.clock-item.result c.clocks-clock-items.ensures c.loop-clock-test.true c.clock-item.is in
    apart-next clocks c.loop-clock.desc i c.clock-item.result c.requires.apart item.0 item.1 c.loop-clock.invariant.described

pub loop-clock-preserved : goal.loop-clock-preserved
loop-clock-preserved c =
    let clocks = c.args.gathered.now in
    let i = c.loop-clock.clock-index in
    let item = item-is c.clocks-clock-items.result.now clocks i c.clock-item.result c.clocks-clock-items.ensures c.loop-clock-test.true c.clock-item.is in
    record {
      found = find-more clocks i c.clock-item.result c.loop-clock.invariant.found item.1 c.in_ok-desc.ensures.0;
      described = described-more clocks i c.clock-item.result c.loop-clock.desc c.in_ok-desc.desc item.0 item.1 c.loop-clock.invariant.described c.in_ok-desc.ensures.1;
    }
