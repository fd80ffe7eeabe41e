-- Trees worked out by hand: how attaching clocks orders them, and the rate of each kind.
use Rattle.std.specs.Prelude.{◌≡◌, ℕ, List, [], ◌∷◌, Option, Some, None, true, false, length, map, replicate, refl}
use Rattle.clk_base.specs.declared.clock.ClockId.{ClockId}
use Rattle.clk_base.specs.Examples.{all_kinds}
use Rattle.clk_base.specs.Levels.{depth}
use Rattle.reg_bank.specs.Registers.{Registers, field, bits_of}
use Rattle.kind_math.specs.Rates.{factor_rate, div_rate, divisor, pll_rate}
use Rattle.clk_model.specs.Chain.{clock_id}
use Rattle.clk_model.specs.Lists.{to_front}
use Rattle.clk_model.specs.State.{unregistered_row}
use Rattle.clk_model.specs.Rate.{rate}
use Rattle.clk_model.specs.Tree.{children, roots, orphans, rooted}
use Rattle.clk_tree.specs.TreeState.{TreeState, attached}

-- the tree of a fixed clock of 24 MHz (0), a PLL (1), a divider (2), a factor of 1 / 4 (3), a mux over 0 and 3 (4) and a gate (5)
-- before a clock is registered
abbrev pub bare : TreeState
bare = record { words = 2; defs = all_kinds; clocks = replicate (length all_kinds) unregistered_row; order = []; rates = replicate (length all_kinds) 0 }

-- a clock is attached
abbrev pub with : ℕ → Option ClockId → TreeState → TreeState
with c parent t = record t { clocks = attached t.clocks c parent; order = to_front c t.order }

-- the fixed clock, the PLL, the divider and the factor in a chain, the mux over the factor, and the gate still an orphan
abbrev pub grown : TreeState
grown =
    with 5 None (with 4 (Some (clock_id 3)) (with 3 (Some (clock_id 2)) (with 2 (Some (clock_id 1)) (with 1 (Some (clock_id 0)) (with 0 None bare)))))

-- the gate is adopted by the mux, and the mux moves to the fixed clock
abbrev pub moved : TreeState
moved = with 4 (Some (clock_id 0)) (with 5 (Some (clock_id 4)) grown)

-- multiplier 200, and a divider's field of 1 under a mux that selects its second parent
abbrev pub words : Registers
words = 200 ∷ 5 ∷ []

-- the rates of the six clocks over these words
abbrev pub rates_of : TreeState → List ℕ
rates_of t = map (rate t.defs words t.clocks) (0 ∷ 1 ∷ 2 ∷ 3 ∷ 4 ∷ 5 ∷ [])

-- 24 MHz times 200 by 24, by 2, by 4, and the same behind the mux; an orphan has no rate
grown-rates : rates_of grown ≡ 24000000 ∷ 200000000 ∷ 100000000 ∷ 25000000 ∷ 25000000 ∷ 0 ∷ []
unfolding rate depth field bits_of factor_rate div_rate divisor pll_rate
grown-rates = refl

-- a mux has the rate of its link, whatever its field says, and so has the gate over it
moved-rates : rates_of moved ≡ 24000000 ∷ 200000000 ∷ 100000000 ∷ 25000000 ∷ 24000000 ∷ 24000000 ∷ []
unfolding rate depth field bits_of factor_rate div_rate divisor pll_rate
moved-rates = refl

-- the newest attached first
grown-order : grown.order ≡ 5 ∷ 4 ∷ 3 ∷ 2 ∷ 1 ∷ 0 ∷ []
grown-order = refl

moved-order : moved.order ≡ 4 ∷ 5 ∷ 3 ∷ 2 ∷ 1 ∷ 0 ∷ []
moved-order = refl

-- the mux is the newest child of the fixed clock, and no child of the factor any more
moved-children : (children moved.order moved.clocks 0 ≡ 4 ∷ 1 ∷ []) × (children moved.order moved.clocks 3 ≡ []) × (children grown.order grown.clocks 3 ≡ 4 ∷ [])
moved-children = (refl, refl, refl)

-- the gate is an orphan until it is adopted
grown-tops : (roots grown.defs grown.order ≡ 0 ∷ []) × (orphans grown.defs grown.order grown.clocks ≡ 5 ∷ []) × (orphans moved.defs moved.order moved.clocks ≡ [])
grown-tops = (refl, refl, refl)

-- and it isn't rooted until then
grown-rooted : (rooted grown.defs grown.clocks 4 ≡ true) × (rooted grown.defs grown.clocks 5 ≡ false) × (rooted moved.defs moved.clocks 5 ≡ true)
unfolding depth
grown-rooted = (refl, refl, refl)
