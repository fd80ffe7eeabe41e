-- The work of a clock: how many roundings a request for a rate may ask of it and the clocks above.
use Rattle.std.specs.Prelude.{ℕ, zero, suc, ◌+◌, ◌-◌, ◌*◌, ◌^◌, Bool, if◌then◌else◌, length}
use Rattle.std.specs.List.{sum_by}
use Rattle.clk_base.specs.declared.clock.Kind.{Kind}
use Rattle.clk_base.specs.declared.clock.Kind.TheVariants.{FixedRate, Factor, Gate, Mux, Divider, Pll}
use Rattle.clk_base.specs.Description.{Description, kind_of, parents_of}
use Rattle.clk_base.specs.Flags.{sets_rate_parent}
use Rattle.clk_base.specs.Levels.{depth}

-- how many divisors are valid for a divider's field
abbrev pub divisor_count : ℕ → Bool → ℕ
divisor_count width one_based = if one_based then 2 ^ width - 1 else 2 ^ width

-- the work of a clock by its kind, whether it passes requests on, how many possible parents it has,
-- and the sum of their work
abbrev pub work_of : Kind → Bool → ℕ → ℕ → ℕ
work_of (FixedRate rate) passes_on parents above = 1
work_of (Factor mult div) passes_on parents above = if passes_on then 1 + above else 1
work_of (Gate word bit set_to_disable) passes_on parents above = if passes_on then 1 + above else 1
work_of (Mux word shift width read_only) passes_on parents above =
    if passes_on then 1 + above else (if read_only then 1 else 1 + parents)
work_of (Divider word shift width one_based power_of_two) passes_on parents above =
    if passes_on then 1 + divisor_count width one_based * (1 + above) else 1
work_of (Pll word shift width power_word power_bit least most m) passes_on parents above = 1

-- the work of a clock whose lines of possible parents have at most so many clocks
abbrev pub work_within : Description → ℕ → ℕ → ℕ
work_within defs zero c = 0
work_within defs (suc levels) c =
    work_of (kind_of defs c) (sets_rate_parent defs c) (length (parents_of defs c))
    (sum_by (work_within defs levels) (parents_of defs c))

-- the work of a clock, whose lines of possible parents are cut where the longest valid one ends
abbrev pub work : Description → ℕ → ℕ
work defs c = work_within defs depth c
