use Rattle.std.proofs.Common.{◌∙◌, ◌-◌, ◌++◌, ap, sym, arith}
use Rattle.std.specs.Option.{option_to_list}
use Rattle.drv_scripts.specs.ListLines.{late_fault, late_of}
use Rattle.drv_scripts.proofs.ListLaws.{late_none, late_more}
use Rattle.drv_scripts.proofs.Turns.{kept_none, kept_more}
use Rattle.drv_scripts.proofs.late_section.read_late_clocks.Goals as goal

pub loop-at-init : goal.loop-at-init
loop-at-init c = record {
  kept = kept_none (late_fault c.args.desc.now.defs c.args.lines.now) c.args.from;
  read = c.new-late.ensures.items ∙ sym (late_none c.args.desc.now.defs c.args.lines.now c.args.from);
}

pub loop-at-preserved : goal.loop-at-preserved
loop-at-preserved c =
    let defs = c.args.desc.now.defs in
    let ls = c.args.lines.now in
    let was = c.loop-at.invariant in
    let read = c.in_ok-clock.ensures in
    record {
      kept = kept_more (late_fault defs ls) c.args.from c.loop-at.at was.kept read.0;
      read = c.in_ok-push_some.ensures.pushed
          ∙ (ap (λ found. found ++ option_to_list c.in_ok-clock.clock) was.read
          ∙ (ap (λ o. late_of defs ls c.args.from (c.loop-at.at - c.args.from) ++ option_to_list o) read.1 ∙ sym (late_more defs ls c.args.from c.loop-at.at (omega arith))));
    }
