-- What planning sees of a state: boundaries, guarded and prepared clocks, and exclusives that are lifted or freed.
use Rattle.std.specs.Prelude.{ℕ, ◌-◌, ◌==◌, List, Bool, not, filter, map, min, max, fold, option_map, slice_set, take_while}
use Rattle.std.specs.List.{list_any}
use Rattle.clk_model.specs.declared.row.HandleRow.{HandleRow}
use Rattle.clk_model.specs.Lists.{is_in, present}
use Rattle.clk_model.specs.State.{State, handle_at}
use Rattle.clk_model.specs.Tree.{path}
use Rattle.clk_model.specs.Holders.{prepared, guarded, protect_holders}
use Rattle.clk_model.specs.Round.{View, most_rate}

-- the live handles of a clock
abbrev pub handles_on : State → ℕ → List HandleRow
handles_on s c = filter (λ h. h.clock.0 == c) (present s.handles)

-- the greatest minimum over the handles of a clock
abbrev pub low_of : State → ℕ → ℕ
low_of s c = fold max 0 (map (λ h. h.min) (handles_on s c))

-- the least maximum over the handles of a clock
abbrev pub high_of : State → ℕ → ℕ
high_of s c = fold min most_rate (map (λ h. h.max) (handles_on s c))

-- what planning sees of a state
abbrev pub view : State → View
view s = record { low = low_of s; high = high_of s; guarded = guarded s; prepared = prepared s }

-- one exclusive of a handle less, where it has one
abbrev pub lifted_row : HandleRow → HandleRow
lifted_row h = record h { exclusives = h.exclusives - 1 }

-- the state with one exclusive of the handle less
abbrev pub lift : State → ℕ → State
lift s number = record s { handles = slice_set s.handles number (option_map lifted_row (handle_at s.handles number)) }

-- the part of a path in front of a clock
abbrev pub cut_at : ℕ → List ℕ → List ℕ
cut_at c cs = take_while (λ a. not (a == c)) cs

-- whether a clock is guarded where what protects c, and what reaches others through c, doesn't count
abbrev pub guarded_but : State → ℕ → ℕ → Bool
guarded_but s c a = list_any (λ h. is_in a (cut_at c (path s.clocks h))) (protect_holders s)

-- the view in which c is free
abbrev pub free_view : State → ℕ → View
free_view s c = record (view s) { guarded = guarded_but s c }
