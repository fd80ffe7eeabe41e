-- What the steps of a script weigh, told from chains and the most PLLs of a line.
use Rattle.std.specs.Prelude.{ℕ, ◌+◌, ◌*◌, Bool, false, List, [], length, slice_index_or}
use Rattle.clk_base.specs.declared.call.Micro.{Micro}
use Rattle.clk_base.specs.declared.call.Micro.TheVariants as micro
use Rattle.notifiers.specs.declared.notifier.Notifier.{Notifier}
use Rattle.change_walk.specs.Tellings.{has_notifiers}

-- what a step weighs
abbrev pub step_weight : ℕ → List (List Notifier) → Micro → ℕ
step_weight plls chains (micro.Raise x) = 34 * plls + 1
step_weight plls chains (micro.Lower x) = plls + 1
step_weight plls chains (micro.Visit c) = 1 + length (slice_index_or chains c.0 [])
step_weight plls chains _ = 1

-- whether a step visits a clock with a notifier
abbrev pub brings_notices : List (List Notifier) → Micro → Bool
brings_notices chains (micro.Visit c) = has_notifiers chains c.0
brings_notices chains _ = false
