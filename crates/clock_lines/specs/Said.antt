-- What a clock line says.
use Rattle.std.specs.Prelude.{ℕ, List}
use Rattle.clk_base.specs.declared.clock.Kind.{Kind}
use Rattle.clk_base.specs.declared.flags.ClkFlags.{ClkFlags}

-- a clock, with its possible parents by name
pub record SaidClock : Type 0 where
  pub name : List ℕ
  pub kind : Kind
  pub flags : ClkFlags
  pub parents : List (List ℕ)

-- a clock and the place of its line
pub record PlacedClock : Type 0 where
  pub place : ℕ
  pub clock : SaidClock
