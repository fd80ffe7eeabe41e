-- The walk from the top of a chain, and the clocks whose rate a plan changes.
use Rattle.std.specs.Prelude.{ℕ, zero, suc, ◌==◌, ◌&&◌, ◌++◌, List, [], ◌∷◌, Bool, not, filter, map, if◌then◌else◌, flat_map, length}
use Rattle.std.specs.List.{list_any}
use Rattle.clk_base.specs.Levels.{depth}
use Rattle.clk_model.specs.declared.row.ClockRow.{ClockRow}
use Rattle.clk_model.specs.Lists.{is_at, count_from}
use Rattle.clk_model.specs.State.{ChainStep}
use Rattle.clk_model.specs.Tree.{children}
use Rattle.clk_model.specs.Round.{Wiring, rate_in}
use Rattle.clk_model.specs.Chain.{moves, outcome}

-- the last clock of a chain
abbrev pub top_of : List ChainStep → ℕ
top_of [] = 0
top_of (k ∷ []) = k.clock
top_of (k ∷ l ∷ ks) = top_of (l ∷ ks)

-- whether a plan moves the clock to another parent
abbrev pub moves_away : List ClockRow → List ChainStep → ℕ → Bool
moves_away clocks ks c = list_any (λ k. (k.clock == c) && moves clocks k) ks

-- the clocks that a plan moves to p
abbrev pub movers_to : List ClockRow → List ChainStep → ℕ → List ℕ
movers_to clocks ks p = map (λ k. k.clock) (filter (λ k. is_at p k.parent && moves clocks k) ks)

-- the children that stay with p, the newest first, and then who moves to it
abbrev pub kids_after : List ℕ → List ClockRow → List ChainStep → ℕ → List ℕ
kids_after order clocks ks p = filter (λ c. not (moves_away clocks ks c)) (children order clocks p) ++ movers_to clocks ks p

-- a clock and all below it, each before its children, within so many levels
abbrev pub below_within : (ℕ → List ℕ) → ℕ → ℕ → List ℕ
below_within kids zero c = []
below_within kids (suc levels) c = c ∷ flat_map (below_within kids levels) (kids c)

-- the walk: the top of the chain and all that will be below it, each clock before what is below it
unfoldable pub walk : List ℕ → Wiring → List ChainStep → List ℕ
walk order w ks = below_within (kids_after order w.clocks ks) depth (top_of ks)

-- whether a plan changes the rate of the clock
abbrev pub differs : Wiring → List ChainStep → ℕ → Bool
differs w ks c = not (rate_in (outcome ks w) c == rate_in w c)

-- the clocks that the walk reaches by entering only clocks whose rate the plan changes
unfoldable pub changing : List ℕ → Wiring → List ChainStep → List ℕ
changing order w ks =
    if differs w ks (top_of ks)
    then below_within (λ p. filter (differs w ks) (kids_after order w.clocks ks p)) depth (top_of ks)
    else []

-- the rate of each clock of the description
abbrev pub rates_in : Wiring → List ℕ
rates_in w = map (rate_in w) (count_from 0 (length w.defs))
