-- Which rules some descriptions break, and at which clock first.
use Rattle.std.specs.Prelude.{◌≡◌, List, [], ◌∷◌, Bool, true, false, map, length, codes, refl}
use Rattle.clk_base.specs.declared.clock.Kind.TheVariants as kinds
use Rattle.clk_base.specs.Description.{Description}
use Rattle.clk_base.specs.Levels.{depth}
use Rattle.clk_base.specs.Valid.{Rule, counts, ranges, bank, apart, acyclic, levels, bounded, keeps}
use Rattle.clk_model.specs.Lists.{count_from}
use Rattle.clk_model.specs.Examples.Rows.{clock}

-- whether each clock keeps a rule, for a bank of one word
abbrev kept_by_each : Description → Rule → List Bool
kept_by_each defs rule = map (keeps rule 1 defs) (count_from 0 (length defs))

-- `mux a 0 0 1 1 b`, `gate b a 0 1`
abbrev each_others_parent : Description
each_others_parent = clock (codes "a") (kinds.Mux 0 0 1 false) (1 ∷ []) ∷ clock (codes "b") (kinds.Gate 0 1 false) (0 ∷ []) ∷ []

-- two clocks that are parents of each other keep the rules before, and each is among its own ancestors
pub parents_of_each_other : map (kept_by_each each_others_parent) (counts ∷ ranges ∷ bank ∷ apart ∷ acyclic ∷ []) ≡
    (true ∷ true ∷ []) ∷ (true ∷ true ∷ []) ∷ (true ∷ true ∷ []) ∷ (true ∷ true ∷ []) ∷ (false ∷ false ∷ []) ∷ []
parents_of_each_other = refl

-- `fixed f 5`, `gate a f 0 0`, `gate b f 0 0`
abbrev shared_bit : Description
shared_bit =
    clock (codes "f") (kinds.FixedRate 5) [] ∷ clock (codes "a") (kinds.Gate 0 0 false) (0 ∷ [])
    ∷ clock (codes "b") (kinds.Gate 0 0 false) (0 ∷ []) ∷ []

-- of two gates with one bit the later breaks the rule
pub shared_bit_breaks_apart : map (kept_by_each shared_bit) (counts ∷ ranges ∷ bank ∷ apart ∷ []) ≡
    (true ∷ true ∷ true ∷ []) ∷ (true ∷ true ∷ true ∷ []) ∷ (true ∷ true ∷ true ∷ []) ∷ (true ∷ true ∷ false ∷ []) ∷ []
shared_bit_breaks_apart = refl

-- `fixed f 5`, `fixed e 6`, `mux m 0 0 2 2 f e`
abbrev wide_mux : Description
wide_mux =
    clock (codes "f") (kinds.FixedRate 5) [] ∷ clock (codes "e") (kinds.FixedRate 6) []
    ∷ clock (codes "m") (kinds.Mux 0 0 2 false) (0 ∷ 1 ∷ []) ∷ []

-- a mux may have fewer parents than its field can select
pub wide_mux_keeps_all : map (kept_by_each wide_mux) (counts ∷ ranges ∷ bank ∷ apart ∷ acyclic ∷ levels ∷ bounded ∷ []) ≡
    (true ∷ true ∷ true ∷ []) ∷ (true ∷ true ∷ true ∷ []) ∷ (true ∷ true ∷ true ∷ []) ∷ (true ∷ true ∷ true ∷ [])
    ∷ (true ∷ true ∷ true ∷ []) ∷ (true ∷ true ∷ true ∷ []) ∷ (true ∷ true ∷ true ∷ []) ∷ []
unfolding depth
wide_mux_keeps_all = refl
