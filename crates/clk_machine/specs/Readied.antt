-- A call that changes a rate or a parent, ready to begin, as a verdict and a draft tell it together.
use Rattle.std.specs.Prelude.{ℕ, List, Bool}
use Rattle.clk_base.specs.declared.call.Micro.{Micro}
use Rattle.clk_base.specs.declared.event.Errno.{Errno}
use Rattle.core_parts.specs.Course.{CourseState}
use Rattle.core_parts.specs.declared.decision.Verdict.{Verdict}
use Rattle.core_parts.specs.declared.decision.Verdict.TheVariants as verdict
use Rattle.core_parts.specs.declared.draft.Draft.{Draft}
use Rattle.clk_machine.specs.Changing.{course_of}

-- what a change goes on with: its steps, its course, how many notices at the head of its script a timeout calls off, whether one of them is a
-- veto, and how many entries its steps may come to
pub record Scripted : Type 0 where
  pub steps : List Micro
  pub course : CourseState
  pub extra : ℕ
  pub vetoed : Bool
  pub weight : ℕ

-- it is refused, answered by Ok at once, or goes on
pub data Readied : Type 0 where
  Refused : Errno → Readied
  AtOnce : Readied
  Change : Scripted → Readied

-- what a draft holds to go on with
abbrev pub scripted_of : Draft → Scripted
scripted_of draft = record {
  steps = draft.script.steps;
  course = course_of draft;
  extra = draft.script.extra;
  vetoed = draft.script.vetoed;
  weight = draft.script.weight;
}

-- a call that goes on does so with what the draft holds
abbrev pub readied_of : Draft → Verdict → Readied
readied_of draft (verdict.Refused e) = Refused e
readied_of draft verdict.AtOnce = AtOnce
readied_of draft verdict.Change = Change (scripted_of draft)
