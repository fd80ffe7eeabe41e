use Rattle.std.proofs.Common.{length, get_or, false}
use Rattle.std.proofs.lemmas.List.{get_or_default}
use Rattle.dts_clocks.specs.Above.{is_passed}
use Rattle.dts_clocks.proofs.Joins.{listed_within, listed_read}
use Rattle.dts_clocks.proofs.Sources.{source_at-none, source_at-passed, source_at-there}
use Rattle.dts_clocks.proofs.chart.source_at.Goals as goal

pub bounds-passed-at : goal.bounds-passed-at
bounds-passed-at c = listed_within (is_passed c.args.nodes.now) c.args.passed.now (length c.args.nodes.now) c.args.at c.requires.known c.requires.within

pub returns-then-not-is_provider : goal.returns-then-not-is_provider
returns-then-not-is_provider c = source_at-none c.args.nodes.now c.args.at c.node-node.result c.is_provider.result c.node-node.ensures c.is_provider.ensures c.if-not-is_provider.true

pub returns-then-passed-at : goal.returns-then-passed-at
returns-then-passed-at c =
    let passed = listed_read (is_passed c.args.nodes.now) c.args.passed.now (length c.args.nodes.now) c.args.at (get_or c.args.passed.now c.args.at false) c.requires.known c.requires.within (get_or_default c.args.passed.now c.args.at false _ (listed_within (is_passed c.args.nodes.now) c.args.passed.now (length c.args.nodes.now) c.args.at c.requires.known c.requires.within)) in
    source_at-passed c.args.nodes.now c.args.at c.node-node.result c.is_provider.result (get_or c.args.passed.now c.args.at false) c.node-node.ensures c.is_provider.ensures passed c.if-not-is_provider.false c.if-passed-at.true

pub returns : goal.returns
returns c =
    let passed = listed_read (is_passed c.args.nodes.now) c.args.passed.now (length c.args.nodes.now) c.args.at (get_or c.args.passed.now c.args.at false) c.requires.known c.requires.within (get_or_default c.args.passed.now c.args.at false _ (listed_within (is_passed c.args.nodes.now) c.args.passed.now (length c.args.nodes.now) c.args.at c.requires.known c.requires.within)) in
    source_at-there c.args.nodes.now c.args.at c.node-node.result c.is_provider.result (get_or c.args.passed.now c.args.at false) c.clock_cells.result c.source_by.result c.node-node.ensures c.is_provider.ensures passed c.if-not-is_provider.false c.if-passed-at.false
    c.clock_cells.ensures c.source_by.ensures
