-- The parameters of a clock of a valid description.
use Rattle.std.proofs.Common.{◌≡◌, ℕ, ◌^◌, ◌<◌, true, false, length}
use Rattle.std.proofs.lemmas.Bool.{and_parts, ltb-true, leb-true}
use Rattle.clk_base.specs.declared.clock.Kind.{Kind}
use Rattle.clk_base.specs.declared.clock.Kind.TheVariants.{FixedRate, Factor, Gate, Mux, Divider, Pll}
use Rattle.clk_base.specs.Description.{Description, kind_of, parents_of}
use Rattle.clk_base.specs.Valid.{IsValid, has_ranges, ranges}
use Rattle.rate_planner.specs.Given.{CanScale}
use Rattle.clk_model.proofs.SettingLaws.{is_wide}

-- a kind whose parameters are in their ranges
scale_kind : (parents : ℕ) (kind : Kind) → has_ranges kind parents ≡ true → CanScale kind
scale_kind parents (FixedRate rate) ranged = tt
scale_kind parents (Factor mult div) ranged = let parts = and_parts _ _ ranged in (ltb-true 0 mult parts.0, ltb-true 0 div parts.1)
scale_kind parents (Gate word bit set_to_disable) ranged = tt
scale_kind parents (Mux word shift width read_only) ranged = tt
scale_kind parents (Divider word shift width one_based true) ranged = is_wide 5 width (and_parts _ _ ranged).0
scale_kind parents (Divider word shift width true false) ranged = is_wide 16 width ranged
scale_kind parents (Divider word shift width false false) ranged = is_wide 16 width ranged
scale_kind parents (Pll word shift width power_word power_bit least most m) ranged =
    let up = and_parts _ _ (and_parts _ _ ranged).0 in
    let some = and_parts _ _ (and_parts _ _ up.0).0 in
    (leb-true least most up.1, ltb-true 0 m some.1, ltb-true most (2 ^ width) (and_parts _ _ ranged).1)

-- each clock of a valid description
pub can_scale : (words : ℕ) (defs : Description) (c : ℕ) → IsValid words defs → c < length defs → CanScale (kind_of defs c)
can_scale words defs c valid place = scale_kind (length (parents_of defs c)) (kind_of defs c) (valid.rules ranges c place)
