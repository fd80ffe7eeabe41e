-- What feeds a mux: the parent that its field selects, also while it is attached to another one.
use Rattle.std.specs.Prelude.{◌≡◌, List, [], ◌∷◌, true, Some, refl}
use Rattle.clk_model.specs.declared.row.ClockRow.{ClockRow}
use Rattle.clk_model.specs.State.{unregistered_row}
use Rattle.clk_model.specs.Fed.{feeds}
use Rattle.clk_model.specs.Examples.Rounding.{two_sources, b}
use Rattle.reg_bank.specs.Registers.{field, bits_of}

-- the mux is attached to its second parent
abbrev attached : List ClockRow
attached = unregistered_row ∷ unregistered_row ∷ record { registered = true; link = Some b; last_request = 0 } ∷ []

-- before its field is written the first parent feeds it, and after that the second
pub unwritten_feeds : feeds two_sources (0 ∷ []) attached 2 ≡ Some 0
unfolding field bits_of
unwritten_feeds = refl

pub written_feeds : feeds two_sources (1 ∷ []) attached 2 ≡ Some 1
unfolding field bits_of
written_feeds = refl
