-- Whether the moves of a planned chain can be made.
use Rattle.std.specs.Prelude.{ℕ, ◌==◌, ◌&&◌, ◌||◌, List, Bool, false, not, is_some}
use Rattle.std.specs.List.{list_all}
use Rattle.std.specs.Option.{option_map_or}
use Rattle.clk_base.specs.declared.clock.ClockDef.{ClockDef}
use Rattle.clk_base.specs.Description.{Description}
use Rattle.clk_base.specs.Flags.{has_flag}
use Rattle.clk_model.specs.Kinds.{mux_field, can_round}
use Rattle.clk_model.specs.declared.row.ClockRow.{ClockRow}
use Rattle.clk_model.specs.State.{ChainStep, link_in}
use Rattle.core_parts.specs.Reparenting.{is_candidate}

-- whether a request for a rate may move a clock to another parent: it is a mux that isn't only read, and hasn't the flag that its parent stays
abbrev pub may_move : ClockDef → Bool
may_move d = is_some (mux_field d.kind) && can_round d.kind && not (has_flag d.flags 16)

-- whether a clock can get a parent: it has a link, and this is the one that it is linked to, or it is a mux with this possible parent, which is
-- rooted
abbrev pub can_get : Description → List ClockRow → ℕ → ℕ → Bool
can_get defs clocks c p = option_map_or (λ o. (o == p) || is_candidate defs clocks c p) (link_in clocks c) false

-- whether a step of a chain can be made; of a change of parent each step has a parent
abbrev pub can_go : Bool → Description → List ClockRow → ChainStep → Bool
can_go sets_parent defs clocks k = option_map_or (can_get defs clocks k.clock) k.parent (not sets_parent)

-- whether each step of a chain can
abbrev pub can_go_along : Bool → Description → List ClockRow → List ChainStep → Bool
can_go_along sets_parent defs clocks ks = list_all (can_go sets_parent defs clocks) ks
