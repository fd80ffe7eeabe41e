use Rattle.std.proofs.Common.{None, List, ℕ, subst}
use Rattle.std.specs.Prelude.{IfOk, IfErr}
use Rattle.drv_scripts.specs.Verdict.{Accepts}
use Rattle.clk_run.specs.Outcomes.{StopsSpelling}
use Rattle.clk_run.proofs.SpelledBytes.{spelled_gives, spelled_stops, spelled_counts}
use Rattle.clk_run.proofs.taking.take_read.Goals as goal

pub returns-in-Ok-clause-gives : goal.returns-in-Ok-clause-gives
returns-in-Ok-clause-gives g c =
    spelled_gives None _ _ c.in-Ok.bytes.items c.spelled_by.result c.in-Ok.ensures.ok
    (subst (λ (xs : List ℕ). IfOk c.spelled_by.result (Accepts xs)) c.as_slice.ensures.value c.spelled_by.ensures.spells)

pub returns-in-Ok-clause-stops : goal.returns-in-Ok-clause-stops
returns-in-Ok-clause-stops g c =
    spelled_stops _ _ c.in-Ok.bytes.items c.spelled_by.result c.in-Ok.ensures.ok
    (subst (λ (xs : List ℕ). IfErr c.spelled_by.result (StopsSpelling xs)) c.as_slice.ensures.value c.spelled_by.ensures.stops)

pub returns-in-Ok-clause-counts : goal.returns-in-Ok-clause-counts
returns-in-Ok-clause-counts g c = spelled_counts c.as_slice.result.now _ _ c.spelled_by.result c.spelled_by.ensures.stops
