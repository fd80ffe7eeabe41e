use Rattle.std.proofs.Common.{◌∙◌, ◌-◌, ◌++◌, ap, sym, arith}
use Rattle.std.specs.Option.{option_to_list}
use Rattle.drv_scripts.specs.ListLines.{lock_fault, locks_of}
use Rattle.drv_scripts.proofs.ListLaws.{locks_none, locks_more}
use Rattle.drv_scripts.proofs.Turns.{kept_none, kept_more}
use Rattle.drv_scripts.proofs.lock_section.read_locks.Goals as goal

pub loop-at-init : goal.loop-at-init
loop-at-init c = record {
  kept = kept_none (lock_fault c.args.desc.now.defs c.args.lines.now) c.args.from;
  read = c.new-locks.ensures.items ∙ sym (locks_none c.args.desc.now.defs c.args.lines.now c.args.from);
}

pub loop-at-preserved : goal.loop-at-preserved
loop-at-preserved c =
    let defs = c.args.desc.now.defs in
    let ls = c.args.lines.now in
    let was = c.loop-at.invariant in
    let read = c.in_ok-lock.ensures in
    record {
      kept = kept_more (lock_fault defs ls) c.args.from c.loop-at.at was.kept read.0;
      read = c.in_ok-push_some.ensures.pushed
          ∙ (ap (λ found. found ++ option_to_list c.in_ok-lock.lock) was.read
          ∙ (ap (λ o. locks_of defs ls c.args.from (c.loop-at.at - c.args.from) ++ option_to_list o) read.1 ∙ sym (locks_more defs ls c.args.from c.loop-at.at (omega arith))));
    }
