-- What a handle holds more or less, and a state with a handle in its place or another notifier.
use Rattle.std.specs.Prelude.{ℕ, ℤ, ◌+◌, ◌-◌, ◌++◌, [], ◌∷◌, Option}
use Rattle.clk_base.specs.declared.handle.Policy.{Policy}
use Rattle.clk_model.specs.declared.row.HandleRow.{HandleRow}
use Rattle.clk_model.specs.State.{State}
use Rattle.clk_model.specs.Begin.{put_handle, given}
use Rattle.notifiers.specs.Chains.{without_notifier}

-- one enable, one prepare or one exclusive hold more or less
abbrev pub enabled_more : HandleRow → HandleRow
enabled_more h = record h { enables = h.enables + 1 }

abbrev pub enabled_less : HandleRow → HandleRow
enabled_less h = record h { enables = h.enables - 1 }

abbrev pub prepared_more : HandleRow → HandleRow
prepared_more h = record h { prepares = h.prepares + 1 }

abbrev pub prepared_less : HandleRow → HandleRow
prepared_less h = record h { prepares = h.prepares - 1 }

abbrev pub exclusive_more : HandleRow → HandleRow
exclusive_more h = record h { exclusives = h.exclusives + 1 }

abbrev pub exclusive_less : HandleRow → HandleRow
exclusive_less h = record h { exclusives = h.exclusives - 1 }

-- another range
abbrev pub ranged : HandleRow → ℕ → ℕ → HandleRow
ranged h least most = record h { min = least; max = most }

-- the state with a handle, or none, in the place of this number
abbrev pub puts : ℕ → Option HandleRow → State → State
puts number o s = put_handle s number o

-- the state with a new handle of a driver on a clock
abbrev pub gives : ℕ → ℕ → State → State
gives driver c s = (given s driver c).0

-- the state with a notifier of a clock more, and without the one of this id
abbrev pub notified : ℕ → ℕ → ℤ → Policy → State → State
notified c id priority policy s = record s { notifiers = s.notifiers ++ record { clock = c; id = id; priority = priority; policy = policy } ∷ [] }

abbrev pub unnotified : ℕ → ℕ → State → State
unnotified c id s = record s { notifiers = without_notifier c id s.notifiers }

-- the state as it is
abbrev pub stays : State → State
stays s = s
