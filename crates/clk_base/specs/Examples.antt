-- Small descriptions, and what the rules say of their clocks.
use Rattle.std.specs.Prelude.{◌≡◌, ℕ, zero, suc, List, [], ◌∷◌, ◌++◌, Bool, true, false, map, codes, refl, Some, None}
use Rattle.clk_base.specs.declared.clock.ClockDef.{ClockDef}
use Rattle.clk_base.specs.declared.clock.Kind.{Kind}
use Rattle.clk_base.specs.declared.clock.Kind.TheVariants.{FixedRate, Factor, Gate, Mux, Divider, Pll}
use Rattle.clk_base.specs.Description.{Description, clock_named}
use Rattle.clk_base.specs.Levels.{depth}
use Rattle.clk_base.specs.Valid.{Rule, counts, ranges, bank, apart, acyclic, levels, bounded, keeps}
use Rattle.clk_base.specs.Work.{work}

-- a clock that passes no request for a rate on
abbrev pub clock : List ℕ → Kind → List ℕ → ClockDef
clock name kind parents = record { name = name; kind = kind; flags = record { 0 = 0 }; parents = parents }

-- a clock that passes requests on to its parent
abbrev pub passing : List ℕ → Kind → List ℕ → ClockDef
passing name kind parents = record { name = name; kind = kind; flags = record { 0 = 4 }; parents = parents }

-- all rules, in their order
abbrev pub rules : List Rule
rules = counts ∷ ranges ∷ bank ∷ apart ∷ acyclic ∷ levels ∷ bounded ∷ []

-- which rules a clock keeps
abbrev pub kept : ℕ → Description → ℕ → List Bool
kept words defs c = map (λ rule. keeps rule words defs c) rules

-- what a clock that keeps every rule gives
abbrev pub all_kept : List Bool
all_kept = true ∷ true ∷ true ∷ true ∷ true ∷ true ∷ true ∷ []

-- a fixed clock and a gate over it
abbrev pub ordinary : Description
ordinary = clock (codes "osc") (FixedRate 24000000) [] ∷ clock (codes "uart_gate") (Gate 0 3 false) (0 ∷ []) ∷ []

ordinary-kept : (kept 1 ordinary 0 ≡ all_kept) × (kept 1 ordinary 1 ≡ all_kept)
unfolding depth
ordinary-kept = (refl, refl)

-- a name gives its clock
ordinary-named : (clock_named ordinary (codes "uart_gate") ≡ Some (record { 0 = 1 })) × (clock_named ordinary (codes "uart") ≡ None)
ordinary-named = (refl, refl)

-- a mux and a gate over each other break the rule on cycles, and so lines that never end the rule on levels
abbrev pub circle : Description
circle = clock (codes "a") (Mux 0 0 1 false) (1 ∷ []) ∷ clock (codes "b") (Gate 0 1 false) (0 ∷ []) ∷ []

circle-kept : kept 1 circle 0 ≡ true ∷ true ∷ true ∷ true ∷ false ∷ false ∷ true ∷ []
unfolding depth
circle-kept = refl

-- two gates at one bit: the later one breaks the rule on shared bits
abbrev pub twin_gates : Description
twin_gates =
    clock (codes "f") (FixedRate 1) [] ∷ clock (codes "a") (Gate 0 0 false) (0 ∷ [])
    ∷ clock (codes "b") (Gate 0 0 true) (0 ∷ []) ∷ []

twin_gates-kept : (kept 1 twin_gates 1 ≡ all_kept) × (kept 1 twin_gates 2 ≡ true ∷ true ∷ true ∷ false ∷ true ∷ true ∷ true ∷ [])
unfolding depth
twin_gates-kept = (refl, refl)

-- one clock of each kind, over a bank of two words; with one word the clocks at word 1 lie outside
abbrev pub all_kinds : Description
all_kinds =
    clock (codes "osc") (FixedRate 24000000) [] ∷ clock (codes "vco") (Pll 0 0 9 0 31 100 400 24) (0 ∷ [])
    ∷ passing (codes "d") (Divider 1 0 2 false false) (1 ∷ []) ∷ passing (codes "x") (Factor 1 4) (2 ∷ [])
    ∷ passing (codes "m") (Mux 1 2 1 false) (0 ∷ 3 ∷ []) ∷ clock (codes "g") (Gate 1 3 false) (4 ∷ []) ∷ []

all_kinds-kept : map (kept 2 all_kinds) (0 ∷ 1 ∷ 2 ∷ 3 ∷ 4 ∷ 5 ∷ []) ≡ all_kept ∷ all_kept ∷ all_kept ∷ all_kept ∷ all_kept ∷ all_kept ∷ []
unfolding depth
all_kinds-kept = refl

all_kinds-outside : map (keeps bank 1 all_kinds) (0 ∷ 1 ∷ 2 ∷ 3 ∷ 4 ∷ 5 ∷ []) ≡ true ∷ true ∷ false ∷ true ∷ false ∷ false ∷ []
all_kinds-outside = refl

-- the divider tries 4 divisors over a PLL, the factor asks it, the mux asks the factor and the fixed clock
all_kinds-work : map (work all_kinds) (0 ∷ 1 ∷ 2 ∷ 3 ∷ 4 ∷ 5 ∷ []) ≡ 1 ∷ 1 ∷ 9 ∷ 10 ∷ 12 ∷ 1 ∷ []
unfolding depth
all_kinds-work = refl

-- two wide dividers over each other are too much work
abbrev pub wide_dividers : Description
wide_dividers =
    clock (codes "ref") (FixedRate 100) [] ∷ passing (codes "a") (Divider 0 0 16 false false) (0 ∷ [])
    ∷ passing (codes "b") (Divider 0 16 16 true false) (1 ∷ []) ∷ []

wide_dividers-work : (map (work wide_dividers) (0 ∷ 1 ∷ 2 ∷ []) ≡ 1 ∷ 131073 ∷ 8589934591 ∷ []) × (keeps bounded 1 wide_dividers 1 ≡ true) × (keeps bounded 1 wide_dividers 2 ≡ false)
unfolding depth
wide_dividers-work = (refl, refl, refl)

-- parameters that are out of range
ranges-broken : map (keeps ranges 1 (clock [] (Factor 0 1) (0 ∷ []) ∷ clock [] (Mux 0 0 1 false) (0 ∷ 0 ∷ 0 ∷ []) ∷ clock [] (Divider 0 0 3 true true) (0 ∷ []) ∷ clock [] (Divider 0 0 6 false true) (0 ∷ []) ∷ clock [] (Pll 0 0 4 0 31 9 16 1) (0 ∷ []) ∷ clock [] (Pll 0 0 4 0 31 9 15 1) (0 ∷ []) ∷ [])) (0 ∷ 1 ∷ 2 ∷ 3 ∷ 4 ∷ 5 ∷ []) ≡ false ∷ false ∷ false ∷ false ∷ false ∷ true ∷ []
ranges-broken = refl

-- a fixed clock and so many gates in a chain over it
abbrev pub chain : ℕ → Description
chain zero = clock [] (FixedRate 1) [] ∷ []
chain (suc n) = chain n ++ clock [] (Gate n 0 false) (n ∷ []) ∷ []

-- the 64th gate begins a line of 65 clocks
chain-levels : (keeps levels 64 (chain 64) 63 ≡ true) × (keeps levels 64 (chain 64) 64 ≡ false)
unfolding depth
chain-levels = (refl, refl)
