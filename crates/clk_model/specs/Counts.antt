-- The three counts, as sums over holders and children.
use Rattle.std.specs.Prelude.{ℕ, ◌+◌, ◌&&◌, ◌==◌, filter, sum_by, count_by, if◌then◌else◌}
use Rattle.clk_base.specs.Flags.{is_critical, sets_rate_gate}
use Rattle.clk_model.specs.declared.row.HandleRow.{HandleRow}
use Rattle.clk_model.specs.Lists.{present}
use Rattle.clk_model.specs.State.{State, registered}
use Rattle.clk_model.specs.Tree.{children}
use Rattle.clk_model.specs.Holders.{active, prepared, guarded}

-- the sum of a count of the handles of a clock
abbrev pub sum_of_handles : (HandleRow → ℕ) → State → ℕ → ℕ
sum_of_handles count s c = sum_by count (filter (λ h. h.clock.0 == c) (present s.handles))

-- one where the clock is critical and registered
abbrev pub critical_part : State → ℕ → ℕ
critical_part s c = if is_critical s.defs c && registered s.clocks c then 1 else 0

-- its handles' enables, one if it is critical, its enable holds, and its active children
abbrev pub enable_count : State → ℕ → ℕ
enable_count s c =
    sum_of_handles (λ h. h.enables) s c + critical_part s c + count_by (λ h. h == c) s.enable_holds + count_by (active s) (children s.order s.clocks c)

-- its handles' prepares, one if it is critical, its prepare holds, and its prepared children
abbrev pub prepare_count : State → ℕ → ℕ
prepare_count s c =
    sum_of_handles (λ h. h.prepares) s c + critical_part s c + count_by (λ h. h == c) s.prepare_holds + count_by (prepared s) (children s.order s.clocks c)

-- its handles' exclusive holds, its prepare count if being prepared protects it, and its guarded children
abbrev pub protect_count : State → ℕ → ℕ
protect_count s c =
    sum_of_handles (λ h. h.exclusives) s c + (if sets_rate_gate s.defs c then prepare_count s c else 0) + count_by (guarded s) (children s.order s.clocks c)
