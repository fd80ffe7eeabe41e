-- One level more, up to the most.
use Rattle.std.proofs.Common.{ℕ, sym, subst, add-one}
use Rattle.clk_base.specs.Tables.{TellsEnds}
use Rattle.clk_base.proofs.rules.levels.lines_end.Goals as goal

pub loop-level-preserved : goal.loop-level-preserved
loop-level-preserved c =
    let P : ℕ → Type 0 = λ n. TellsEnds c.args.defs.now n c.in_ok-ends-2.ends.items in
    subst P (sym (add-one c.loop-level.level)) (c.in_ok-ends-2.ensures c.loop-level.level (rw c.deref.ensures.value c.loop-level.invariant))
