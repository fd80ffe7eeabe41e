-- What the rate of a kind reads.
use Rattle.std.specs.Prelude.{ℕ, ◌+◌, ◌<◌, ◌≤◌}
use Rattle.clk_base.specs.declared.clock.Kind.{Kind}
use Rattle.clk_base.specs.declared.clock.Kind.TheVariants.{FixedRate, Factor, Gate, Mux, Divider, Pll}

-- the rate of the kind can be read from a bank of so many words: its field lies there, and it divides by no 0
abbrev pub CanRead : ℕ → Kind → Type 0
CanRead words (FixedRate rate) = Unit {0}
CanRead words (Factor mult div) = 0 < div
CanRead words (Gate word bit set_to_disable) = Unit {0}
CanRead words (Mux word shift width read_only) = Unit {0}
CanRead words (Divider word shift width one_based power_of_two) = (word < words) × (shift + width ≤ 32)
CanRead words (Pll word shift width power_word power_bit least most m) = (word < words) × (shift + width ≤ 32) × (0 < m)
