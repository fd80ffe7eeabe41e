-- The kinds of clocks, row by row of the table: which properties each has to have, and which it may.
use Rattle.std.specs.Prelude.{ℕ, ◌==◌, Bool, true, false, Option, Some, None, List, length, codes, if◌then◌else◌}
use Rattle.std.specs.Int.RustNames.{bit_or}
use Rattle.std.specs.Option.{option_map_or}
use Rattle.clk_base.specs.declared.clock.Kind.{Kind}
use Rattle.clk_base.specs.declared.clock.Kind.TheVariants.{FixedRate, Factor, Gate, Mux, Divider, Pll}
use Rattle.clk_base.specs.declared.flags.ClkFlags.{ClkFlags}
use Rattle.dts_tree.specs.Tree.{SeenNode}
use Rattle.dts_bindings.specs.Properties.{property_named, values_of, one_number, two_numbers}

infixl 10 ◌>>=◌
-- what follows from a value, where there is one
abbrev pub ◌>>=◌ : {X Y : Type 0} → Option X → (X → Option Y) → Option Y
None >>= f = None
Some x >>= f = f x

-- a property that is one number cell
unfoldable pub number : List ℕ → SeenNode → Option ℕ
number name node = one_number (values_of name node)

-- a property that is two number cells
unfoldable pub pair : List ℕ → SeenNode → Option (ℕ × ℕ)
pair name node = two_numbers (values_of name node)

-- whether a mark is there, which has no value
unfoldable pub mark : List ℕ → SeenNode → Option Bool
mark name node = option_map_or (λ p. if length p.values == 0 then Some true else None) (property_named name node) (Some false)

-- `fixed-clock`
unfoldable pub fixed_kind : SeenNode → Option Kind
fixed_kind node = number (codes "clock-frequency") node >>= λ rate. Some (FixedRate rate)

-- `fixed-factor-clock`
unfoldable pub factor_kind : SeenNode → Option Kind
factor_kind node = number (codes "clock-mult") node >>= λ mult. number (codes "clock-div") node >>= λ div. Some (Factor mult div)

-- `bank,gate-clock`
unfoldable pub gate_kind : SeenNode → Option Kind
gate_kind node =
    number (codes "bank,reg") node >>= λ word. number (codes "bank,bit") node >>= λ bit.
    mark (codes "bank,set-to-disable") node >>= λ inverted. Some (Gate word bit inverted)

-- `bank,mux-clock`
unfoldable pub mux_kind : SeenNode → Option Kind
mux_kind node =
    number (codes "bank,reg") node >>= λ word. number (codes "bank,shift") node >>= λ shift. number (codes "bank,width") node >>= λ width.
    mark (codes "bank,read-only") node >>= λ fixed. Some (Mux word shift width fixed)

-- `bank,divider-clock`
unfoldable pub divider_kind : SeenNode → Option Kind
divider_kind node =
    number (codes "bank,reg") node >>= λ word. number (codes "bank,shift") node >>= λ shift. number (codes "bank,width") node >>= λ width.
    mark (codes "bank,one-based") node >>= λ one_based. mark (codes "bank,power-of-two") node >>= λ power. Some (Divider word shift width one_based power)

-- `bank,pll-clock`
unfoldable pub pll_kind : SeenNode → Option Kind
pll_kind node =
    number (codes "bank,reg") node >>= λ word. number (codes "bank,shift") node >>= λ shift. number (codes "bank,width") node >>= λ width.
    pair (codes "bank,power") node >>= λ power. pair (codes "bank,n-range") node >>= λ range. number (codes "bank,m") node >>= λ m.
    Some (Pll word shift width power.0 power.1 range.0 range.1 m)

-- the bit of a flag, where it is there
unfoldable pub flag : List ℕ → ℕ → SeenNode → Option ℕ
flag name bit node = mark name node >>= λ marked. Some (if marked then bit else 0)

-- the flags, which are marks
unfoldable pub flags_in : SeenNode → Option ClkFlags
flags_in node =
    flag (codes "bank,set-rate-gate") 1 node >>= λ a. flag (codes "bank,set-parent-gate") 2 node >>= λ b. flag (codes "bank,set-rate-parent") 4 node >>= λ c.
    flag (codes "bank,ignore-unused") 8 node >>= λ d. flag (codes "bank,no-reparent") 16 node >>= λ e. flag (codes "bank,critical") 32 node >>= λ f.
    flag (codes "bank,ops-parent-enable") 64 node >>= λ g. flag (codes "bank,set-rate-ungate") 128 node >>= λ h.
    Some (record { 0 = bit_or (bit_or (bit_or (bit_or (bit_or (bit_or (bit_or a b) c) d) e) f) g) h })
