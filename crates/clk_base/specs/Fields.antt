-- The fields of the register bank that a kind of clock has, as plain data.
use Rattle.std.specs.Prelude.{◌==◌, ℕ, ◌+◌, min, max, Bool, ◌&&◌, nat_lt, nat_le, List, [], ◌∷◌, Some, None}
use Rattle.std.specs.declared.option.Option.{Option}
use Rattle.clk_base.specs.declared.clock.Kind.{Kind}
use Rattle.clk_base.specs.declared.clock.Kind.TheVariants.{FixedRate, Factor, Gate, Mux, Divider, Pll}

-- a field: its word, its lowest bit, and how many bits it has
pub record Field : Type 0 where
  pub word : ℕ
  pub shift : ℕ
  pub width : ℕ

-- the bit of a gate. With `set_to_disable` a set bit closes the gate
pub record GateBit : Type 0 where
  pub word : ℕ
  pub bit : ℕ
  pub set_to_disable : Bool

-- the bit that is set when a PLL is powered
pub record PowerBit : Type 0 where
  pub word : ℕ
  pub bit : ℕ

-- a single bit as a field
abbrev pub bit_field : ℕ → ℕ → Field
bit_field word bit = record { word = word; shift = bit; width = 1 }

-- the bit of a gate; none of another kind
abbrev pub gate_of : Kind → Option GateBit
gate_of (FixedRate rate) = None
gate_of (Factor mult div) = None
gate_of (Gate word bit set_to_disable) = Some (record { word = word; bit = bit; set_to_disable = set_to_disable })
gate_of (Mux word shift width read_only) = None
gate_of (Divider word shift width one_based power_of_two) = None
gate_of (Pll word shift width power_word power_bit least most m) = None

-- the power bit of a PLL; none of another kind
abbrev pub power_of : Kind → Option PowerBit
power_of (FixedRate rate) = None
power_of (Factor mult div) = None
power_of (Gate word bit set_to_disable) = None
power_of (Mux word shift width read_only) = None
power_of (Divider word shift width one_based power_of_two) = None
power_of (Pll word shift width power_word power_bit least most m) = Some (record { word = power_word; bit = power_bit })

-- the field that a mux selects by, a divider divides by or a PLL multiplies by
abbrev pub field_of : Kind → Option Field
field_of (FixedRate rate) = None
field_of (Factor mult div) = None
field_of (Gate word bit set_to_disable) = None
field_of (Mux word shift width read_only) = Some (record { word = word; shift = shift; width = width })
field_of (Divider word shift width one_based power_of_two) = Some (record { word = word; shift = shift; width = width })
field_of (Pll word shift width power_word power_bit least most m) = Some (record { word = word; shift = shift; width = width })

-- all fields of a kind; a gate's bit and a power bit are fields of width 1
abbrev pub fields_of : Kind → List Field
fields_of (FixedRate rate) = []
fields_of (Factor mult div) = []
fields_of (Gate word bit set_to_disable) = bit_field word bit ∷ []
fields_of (Mux word shift width read_only) = record { word = word; shift = shift; width = width } ∷ []
fields_of (Divider word shift width one_based power_of_two) = record { word = word; shift = shift; width = width } ∷ []
fields_of (Pll word shift width power_word power_bit least most m) =
    record { word = word; shift = shift; width = width } ∷ bit_field power_word power_bit ∷ []

-- whether the field lies in a bank of so many words of 32 bits
abbrev pub is_in_bank : ℕ → Field → Bool
is_in_bank words f = nat_lt f.word words && nat_le (f.shift + f.width) 32

-- whether two fields have a bit in common
abbrev pub share_bit : Field → Field → Bool
share_bit f g = (f.word == g.word) && nat_lt (max f.shift g.shift) (min (f.shift + f.width) (g.shift + g.width))
