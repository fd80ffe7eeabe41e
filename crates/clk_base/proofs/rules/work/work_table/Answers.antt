-- One level more, up to the most.
use Rattle.std.proofs.Common.{ℕ, sym, subst, add-one}
use Rattle.clk_base.specs.Tables.{TellsWork}
use Rattle.clk_base.proofs.rules.work.work_table.Goals as goal

pub loop-level-preserved : goal.loop-level-preserved
loop-level-preserved c =
    let P : ℕ → Type 0 = λ n. TellsWork c.args.defs.now n c.in_ok-works-2.works.items in
    subst P (sym (add-one c.loop-level.level)) (c.in_ok-works-2.ensures c.loop-level.level (rw c.deref.ensures.value c.loop-level.invariant))
