-- What planning sees with one exclusive of a handle less: it is told by the protect count of the handle's clock.
use Rattle.std.specs.Prelude.{◌≡◌, ◌≢◌, ℕ, ◌<◌, Some, length, ◌⊎◌}
use Rattle.clk_model.specs.declared.row.HandleRow.{HandleRow}
use Rattle.clk_model.specs.State.{State, handle_at}
use Rattle.clk_model.specs.Counts.{protect_count}
use Rattle.clk_model.specs.Round.{wiring}
use Rattle.clk_model.specs.Views.{view, free_view, lift}
use Rattle.clk_model.specs.Wired.{IsOrder, IsWired}

-- with one exclusive of a handle less
pub record LiftedSees (s : State) (number : ℕ) (row : HandleRow) : Type 0 where
  -- the clock is seen as free, if that exclusive alone protects it
  pub frees : 0 < row.exclusives → protect_count s row.clock.0 ≡ 1 → view (lift s number) ≡ free_view s row.clock.0
  -- else all is seen as it was: no guarded clock changes
  pub keeps : (row.exclusives ≡ 0) ⊎ (protect_count s row.clock.0 ≢ 1) → view (lift s number) ≡ view s
  -- and where the clock is free anyway, that exclusive is nothing to it
  pub free : free_view (lift s number) row.clock.0 ≡ free_view s row.clock.0

-- so it is for each live handle, in a wired tree with an order
abbrev pub LiftingSees : Type 0
LiftingSees = (s : State) (number : ℕ) (row : HandleRow) → IsWired (length s.regs) (wiring s) → IsOrder s.order s.clocks → handle_at s.handles number ≡ Some row
    → LiftedSees s number row
