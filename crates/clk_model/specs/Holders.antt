-- Who keeps a clock active, prepared or guarded.
use Rattle.std.specs.Prelude.{ℕ, ◌++◌, List, Bool, Option, ◌&&◌, nat_lt, map, filter, length}
use Rattle.std.specs.List.{list_any}
use Rattle.clk_base.specs.Flags.{is_critical, sets_rate_gate}
use Rattle.clk_model.specs.declared.row.ClockRow.{ClockRow}
use Rattle.clk_model.specs.declared.row.HandleRow.{HandleRow}
use Rattle.clk_model.specs.Lists.{is_in, count_from, present}
use Rattle.clk_model.specs.State.{State, registered}
use Rattle.clk_model.specs.Tree.{path}

-- the clocks of the handles that pass a test
abbrev pub clocks_of : (HandleRow → Bool) → List (Option HandleRow) → List ℕ
clocks_of test handles = map (λ h. h.clock.0) (filter test (present handles))

-- a handle with an enable, with a prepare, with an exclusive hold
abbrev pub is_enabled : HandleRow → Bool
is_enabled h = nat_lt 0 h.enables

abbrev pub is_prepared : HandleRow → Bool
is_prepared h = nat_lt 0 h.prepares

abbrev pub is_exclusive : HandleRow → Bool
is_exclusive h = nat_lt 0 h.exclusives

-- the registered critical clocks
abbrev pub critical_clocks : State → List ℕ
critical_clocks s = filter (λ c. is_critical s.defs c && registered s.clocks c) (count_from 0 (length s.defs))

-- the clocks of handles with an enable, the registered critical clocks, and the clocks that the change in flight holds enabled
abbrev pub enable_holders : State → List ℕ
enable_holders s = clocks_of is_enabled s.handles ++ critical_clocks s ++ s.enable_holds

-- the clocks of handles with a prepare, the registered critical clocks, and the clocks that the change in flight holds prepared
abbrev pub prepare_holders : State → List ℕ
prepare_holders s = clocks_of is_prepared s.handles ++ critical_clocks s ++ s.prepare_holds

-- whether the clock is on the path of one of these holders
abbrev pub is_held : List ClockRow → List ℕ → ℕ → Bool
is_held clocks holders c = list_any (λ h. is_in c (path clocks h)) holders

-- whether the clock is on the path of an enable holder
abbrev pub active : State → ℕ → Bool
active s c = is_held s.clocks (enable_holders s) c

-- whether the clock is on the path of a prepare holder
abbrev pub prepared : State → ℕ → Bool
prepared s c = is_held s.clocks (prepare_holders s) c

-- the clocks of handles with an exclusive hold, and the prepared clocks that protect their rate while they are prepared
abbrev pub protect_holders : State → List ℕ
protect_holders s =
    clocks_of is_exclusive s.handles ++ filter (λ c. sets_rate_gate s.defs c && prepared s c) (count_from 0 (length s.defs))

-- whether the clock is on the path of a protect holder
abbrev pub guarded : State → ℕ → Bool
guarded s c = is_held s.clocks (protect_holders s) c
