-- What is left is what stands behind the first clock of what was.
use Rattle.std.proofs.Common.{◌∙◌, ap}
use Rattle.core_parts.specs.Course.{CourseState, behind_first}
use Rattle.core_parts.proofs.Setting.{drop_one}
use Rattle.core_parts.proofs.course.Course.skip.Goals as goal

pub returns-then-self-len-clause-notified : goal.returns-then-self-len-clause-notified
returns-then-self-len-clause-notified c = drop_one c.self.inside.at c.self.inside.notified.items ∙ ap (λ (s : CourseState). behind_first s.notified) c.self.view_is
