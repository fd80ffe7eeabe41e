use Rattle.std.proofs.Common.{arith, length-drop}
use Rattle.std.proofs.lemmas.List.{take_rest}
use Rattle.std.proofs.Math.Seq.{take-add}
use Rattle.std.proofs.KnownBytes.{Appends-trans}
use Rattle.clk_io.proofs.writing.write_all.Goals as goal

-- what was appended before, and what this write took
pub loop-at-preserved : goal.loop-at-preserved
loop-at-preserved g c =
    let was = c.loop-at.invariant in
    record {
      within = grind (arith, length-drop);
      appended = rw take-add (Appends-trans _ _ _ _ _ was.appended (simp take_rest at c.in_ok-at.ensures.bytes));
      tells = cc;
      later = omega (arith, was.later, c.write.ensures.later);
    }
