-- The field that a setting writes.
use Rattle.std.specs.Prelude.{ℕ, Option, Some, None}
use Rattle.std.specs.Option.{option_map_or}
use Rattle.clk_base.specs.declared.clock.Kind.{Kind}
use Rattle.clk_base.specs.declared.clock.Kind.TheVariants.{Divider, Pll}
use Rattle.clk_base.specs.Fields.{field_of}
use Rattle.kind_math.specs.Dividers.{div_setting}
use Rattle.kind_math.specs.Plls.{pll_multiplier}
use Rattle.reg_bank.specs.Registers.{Registers, put}
use Rattle.clk_model.specs.Rate.{style_of}

-- the number that a divider or a PLL gets in its field for a planned rate over the rate of its parent
abbrev pub field_for : Kind → ℕ → ℕ → Option ℕ
field_for (Divider word shift width one_based power_of_two) parent planned = Some (div_setting parent planned width (style_of one_based power_of_two))
field_for (Pll word shift width power_word power_bit least most m) parent planned = Some (pll_multiplier parent planned least most m)
field_for _ parent planned = None

-- the registers with this number in the field of a kind, if there is a number
abbrev pub put_field : Kind → Option ℕ → Registers → Registers
put_field kind None regs = regs
put_field kind (Some value) regs = option_map_or (λ f. put regs f.word f.shift f.width value) (field_of kind) regs
