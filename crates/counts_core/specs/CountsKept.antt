-- What the fields of counts keep.
use Rattle.std.specs.Prelude.{◌≡◌, ℕ, ◌+◌, ◌<◌, ◌≤◌, List, Bool, Option, Some, length, slice_index}
use Rattle.clk_base.specs.declared.clock.ClockId.{ClockId}
use Rattle.counts_core.specs.Sums.{up_in, LinksEnd, AreSums, gated_part}

-- no clock has more holders of a kind than this
abbrev pub AreFew : List ℕ → Type 0
AreFew own = (d : ℕ) → slice_index own d ≤ 8388608

-- lines of links end; links lead to clocks; the counts are sums; and a gated clock is protected as often as it is prepared, beside its
-- exclusive holders
pub record IsCounted (links : List (Option ClockId)) (gated : List Bool) (enables prepares exclusives enabled prepared protects protected : List ℕ) : Type 0 where
  pub most : length links ≤ 4096
  pub lines : LinksEnd links
  pub inside : (d p : ℕ) → up_in links d ≡ Some p → p < length links
  pub flags : length gated ≡ length links
  pub enable_few : AreFew enables
  pub prepare_few : AreFew prepares
  pub exclusive_few : AreFew exclusives
  pub exclusive_size : length exclusives ≡ length links
  pub enable_sums : AreSums links enables enabled
  pub prepare_sums : AreSums links prepares prepared
  pub protect_sums : AreSums links protects protected
  pub coupled : (d : ℕ) → slice_index protects d ≡ slice_index exclusives d + gated_part gated prepared d
