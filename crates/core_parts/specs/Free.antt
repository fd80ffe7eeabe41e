-- What planning sees where one clock is free of what protects it.
use Rattle.std.specs.Prelude.{ℕ, ◌==◌, ◌&&◌, List, [], Bool, not, nat_lt, Option, Some, None, if◌then◌else◌, option_and_then}
use Rattle.clk_base.specs.Levels.{depth}
use Rattle.clk_model.specs.declared.row.ClockRow.{ClockRow}
use Rattle.clk_model.specs.declared.row.HandleRow.{HandleRow}
use Rattle.clk_model.specs.Lists.{is_in}
use Rattle.clk_model.specs.Round.{View}
use Rattle.clk_model.specs.State.{link_in}
use Rattle.clk_model.specs.Tree.{path_within}
use Rattle.counts_core.specs.Counted.{CountState, is_guarded, protect_sum}
use Rattle.core_parts.specs.Seen.{seen}

-- the parent of a clock, where one thing alone protects it, by these counts
abbrev pub sole_parent : (ℕ → Option ℕ) → (ℕ → ℕ) → ℕ → Option ℕ
sole_parent up count c = option_and_then (λ p. if count p == 1 then Some p else None) (up c)

-- the clocks that are free where a clock is: where it is guarded it, and those above it that nothing protects but what reaches them
-- through it
abbrev pub freed : List ClockRow → CountState → ℕ → List ℕ
freed clocks k c = if is_guarded k c then path_within (sole_parent (link_in clocks) (protect_sum k)) depth c else []

-- the boundaries that these handles set, and the clocks that these counts say are guarded, but for those that are free, and prepared
abbrev pub free_seen : List (Option HandleRow) → CountState → List ℕ → View
free_seen handles k free = record (seen handles k) { guarded = λ c. is_guarded k c && not (is_in c free) }

-- whether an exclusive of a handle alone protects its clock, by these counts
abbrev pub is_sole : HandleRow → CountState → Bool
is_sole row k = nat_lt 0 row.exclusives && (protect_sum k row.clock.0 == 1)
