-- The parameters of each kind, as the words of a clock line write them. A kind is there where each of its words is a number in its range.
use Rattle.std.specs.Prelude.{ℕ, ◌-◌, ◌^◌, List, Option, Some, None, codes}
use Rattle.clk_base.specs.declared.clock.Kind.{Kind}
use Rattle.clk_base.specs.declared.clock.Kind.TheVariants.{FixedRate, Factor, Gate, Mux, Divider, Pll}
use Rattle.bundle_text.specs.Numbers.{number_within}
use Rattle.clock_lines.specs.declared.field.Field.{Field}
use Rattle.clock_lines.specs.FlagWords.{stands}

-- the greatest rate
abbrev pub most_rate : ℕ
most_rate = 2 ^ 64 - 1

-- the greatest number whose range isn't stated
abbrev pub most_number : ℕ
most_number = 2 ^ 32 - 1

-- the second step, where the first one gives a value
infixl 10 ◌>>=◌
abbrev pub ◌>>=◌ : {A B : Type 0} → Option A → (A → Option B) → Option B
None >>= next = None
Some a >>= next = next a

-- a number whose range isn't stated
abbrev pub number : List ℕ → Option ℕ
number word = number_within 0 most_number word

-- a field of a register word
unfoldable pub field_said : List ℕ → List ℕ → List ℕ → Option Field
field_said word shift width = do
  w ← number word
  s ← number shift
  n ← number width
  Some (record { word = w; shift = s; width = n })

-- a root with a rate
unfoldable pub fixed_kind : List ℕ → Option Kind
fixed_kind rate = do
  r ← number_within 0 most_rate rate
  Some (FixedRate r)

-- the parent's rate times MULT over DIV
unfoldable pub factor_kind : List ℕ → List ℕ → Option Kind
factor_kind mult div = do
  m ← number_within 1 most_number mult
  d ← number_within 1 most_number div
  Some (Factor m d)

-- a gate bit, which `set-to-disable` turns round
unfoldable pub gate_kind : List ℕ → List ℕ → List (List ℕ) → Option Kind
gate_kind word bit flags = do
  w ← number word
  b ← number bit
  Some (Gate w b (stands (codes "set-to-disable") flags))

-- a field that chooses the parent
unfoldable pub mux_kind : List ℕ → List ℕ → List ℕ → List (List ℕ) → Option Kind
mux_kind word shift width flags = do
  f ← field_said word shift width
  Some (Mux f.word f.shift f.width (stands (codes "read-only") flags))

-- a field that divides
unfoldable pub divider_kind : List ℕ → List ℕ → List ℕ → List (List ℕ) → Option Kind
divider_kind word shift width flags = do
  f ← field_said word shift width
  Some (Divider f.word f.shift f.width (stands (codes "one-based") flags) (stands (codes "power-of-two") flags))

-- a field that multiplies by NMIN to NMAX, over M, behind a power bit
unfoldable pub pll_kind : Option Field → List ℕ → List ℕ → List ℕ → List ℕ → List ℕ → Option Kind
pll_kind field pword pbit nmin nmax m = do
  f ← field
  w ← number pword
  b ← number pbit
  least ← number nmin
  most ← number nmax
  over ← number m
  Some (Pll f.word f.shift f.width w b least most over)
