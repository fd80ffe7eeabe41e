-- What was read without a fault spells a description, or lacks a parent.
use Rattle.std.proofs.Common.{length, arith, ap, sym, subst}
use Rattle.std.specs.Prelude.{slice_range}
use Rattle.std.proofs.lemmas.List.{length-map}
use Rattle.std.proofs.lemmas.Result.{err_from_is_err_and}
use Rattle.clock_lines.specs.Section.{clock_in}
use Rattle.bundle_text.specs.Faults.{Tells}
use Rattle.clock_lines.specs.Verdict.{Refuses}
use Rattle.clock_lines.proofs.Turns.{length-section}
use Rattle.clock_lines.proofs.Whole.{few-clocks, stand-apart, have-lines, lacks-fault, spells, each-has_parents, each-has_name}
use Rattle.clock_lines.proofs.reading.read_clocks.Goals as goal

pub describe-requires-clause-few : goal.describe-requires-clause-few
describe-requires-clause-few c =
    let section = slice_range c.args.lines.now c.args.from c.args.to in
    let size = length-section c.args.lines.now c.args.from c.args.to c.requires.order c.requires.within in
    omega (arith, few-clocks c.args.version section c.in_ok-clocks.clocks c.in_ok-clocks.ensures)

pub describe-requires-clause-apart : goal.describe-requires-clause-apart
describe-requires-clause-apart c =
    stand-apart c.args.version (slice_range c.args.lines.now c.args.from c.args.to) c.in_ok-clocks.clocks c.in_ok-clocks.ensures

pub describe-requires-clause-lines : goal.describe-requires-clause-lines
describe-requires-clause-lines c =
    let section = slice_range c.args.lines.now c.args.from c.args.to in
    let size = length-section c.args.lines.now c.args.from c.args.to c.requires.order c.requires.within in
    have-lines c.args.version section c.in_ok-clocks.clocks c.args.from c.args.to c.in_ok-clocks.ensures (omega arith) (omega arith)

pub line_numbers-requires : goal.line_numbers-requires
line_numbers-requires c =
    let section = slice_range c.args.lines.now c.args.from c.args.to in
    let size = length-section c.args.lines.now c.args.from c.args.to c.requires.order c.requires.within in
    record { lines = have-lines c.args.version section c.in_ok-clocks.clocks c.args.from c.args.to c.in_ok-clocks.ensures (omega arith) (omega arith) }

pub returns-in_err-desc-clause-fault : goal.returns-in_err-desc-clause-fault
returns-in_err-desc-clause-fault c =
    let section = slice_range c.args.lines.now c.args.from c.args.to in
    let p = err_from_is_err_and c.from_residual-in_err-desc.result c.from_residual-in_err-desc.ensures.1 in
    rw p.1 (subst (Tells (Refuses c.args.version c.args.from section)) (sym p.2) (lacks-fault c.args.version c.args.from section c.in_ok-clocks.clocks _ c.in_ok-clocks.ensures c.in_err-desc.ensures))

pub returns-clause-ok : goal.returns-clause-ok
returns-clause-ok c =
    let section = slice_range c.args.lines.now c.args.from c.args.to in
    let h = c.in_ok-desc.ensures in
    spells c.args.version c.args.from section c.in_ok-clocks.clocks c.in_ok-desc.desc c.in_ok-lines.lines.items c.in_ok-clocks.ensures h.0 h.1 c.in_ok-lines.ensures

pub returns-clause-parents : goal.returns-clause-parents
returns-clause-parents c =
    let section = slice_range c.args.lines.now c.args.from c.args.to in
    let h = c.in_ok-desc.ensures in
    each-has_parents c.args.version section c.in_ok-clocks.clocks c.in_ok-desc.desc c.in_ok-clocks.ensures h.0 h.1

pub returns-clause-names : goal.returns-clause-names
returns-clause-names c =
    let section = slice_range c.args.lines.now c.args.from c.args.to in
    each-has_name c.args.version section c.in_ok-clocks.clocks c.in_ok-desc.desc c.in_ok-clocks.ensures c.in_ok-desc.ensures.1

pub returns-clause-fits : goal.returns-clause-fits
returns-clause-fits c =
    let section = slice_range c.args.lines.now c.args.from c.args.to in
    let size = length-section c.args.lines.now c.args.from c.args.to c.requires.order c.requires.within in
    let h = c.in_ok-desc.ensures in
    omega (arith, few-clocks c.args.version section c.in_ok-clocks.clocks c.in_ok-clocks.ensures, ap length h.1, length-map c.in_ok-clocks.clocks (clock_in c.in_ok-clocks.clocks))
