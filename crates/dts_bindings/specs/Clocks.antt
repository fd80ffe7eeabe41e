-- The clocks of a provider: their names, their identifiers and their kinds.
use Rattle.std.specs.Prelude.{ℕ, ◌==◌, ◌&&◌, not, false, Option, Some, None, List, [], ◌∷◌, length, map, codes, string_bytes, if◌then◌else◌}
use Rattle.std.specs.List.{list_all, filter_map, before_first, zip, range_with_len}
use Rattle.std.specs.Option.{option_map_or}
use Rattle.std.specs.declared.vec.Vec.{Vec}
use Rattle.std.specs.declared.alloc.Global.{Global}
use Rattle.clk_base.specs.declared.clock.Kind.{Kind}
use Rattle.clk_base.specs.declared.clock.Kind.TheVariants as kinds
use Rattle.dts_tree.specs.Tree.{SeenValue, SeenText, SeenNode}
use Rattle.dts_bindings.specs.declared.bound.BoundClock.{BoundClock}
use Rattle.dts_bindings.specs.declared.table.Row.{Row}
use Rattle.dts_bindings.specs.declared.table.Row.TheVariants.{Fixed, Factor, Gate, Gates, Mux, Divider, Pll}
use Rattle.dts_bindings.specs.Properties.{property_named, values_of, text_of, is_plain, has_backslash, all_numbers}
use Rattle.dts_bindings.specs.Kinds.{◌>>=◌, number, fixed_kind, factor_kind, gate_kind, mux_kind, divider_kind, pll_kind}

-- a clock of a provider
pub record SeenClock : Type 0 where
  pub name : List ℕ
  pub identifier : ℕ
  pub kind : Kind

-- what a clock that a program has read shows
abbrev pub seen_clock : BoundClock → SeenClock
seen_clock c = record { name = string_bytes c.name; identifier = c.identifier; kind = c.kind }

-- the clocks of a list
abbrev pub seen_clocks : Vec BoundClock Global → List SeenClock
seen_clocks v = map seen_clock v.items

-- the names that values are: strings without a backslash, one at least
unfoldable pub names_in : List SeenValue → Option (List (List ℕ))
names_in values = if not (length values == 0) && list_all is_plain values then Some (filter_map text_of values) else None

-- the name that values are: one string without a backslash
abbrev pub only_name : List SeenValue → Option (List ℕ)
only_name (SeenText text ∷ []) = if has_backslash text then None else Some text
only_name others = None

-- the name of a provider's one clock: the one that it states, else its own before the `@`
unfoldable pub own_name : SeenNode → Option (List ℕ)
own_name node = option_map_or (λ p. only_name p.values) (property_named (codes "clock-output-names") node) (Some (before_first (λ b. b == 64) node.name))

-- a provider's one clock
unfoldable pub one_clock : Option Kind → SeenNode → Option (List SeenClock)
one_clock kind node = kind >>= λ k. own_name node >>= λ name. Some (record { name = name; identifier = 0; kind = k } ∷ [])

-- so many numbers, which all cells of the values are
unfoldable pub as_many : ℕ → List SeenValue → Option (List ℕ)
as_many count values = all_numbers values >>= λ stated. if length stated == count then Some stated else None

-- the identifiers of so many gates: those that are stated, else 0, 1 and on
unfoldable pub identifiers : ℕ → SeenNode → Option (List ℕ)
identifiers count node = option_map_or (λ p. as_many count p.values) (property_named (codes "clock-indices") node) (Some (range_with_len 0 count))

-- the gate of this name whose identifier is its bit
abbrev pub gate_at : ℕ → (List ℕ × ℕ) → SeenClock
gate_at word named = record { name = named.0; identifier = named.1; kind = kinds.Gate word named.1 false }

-- `bank,gates-clock`: a gate for each name
unfoldable pub gates : SeenNode → Option (List SeenClock)
gates node =
    number (codes "bank,reg") node >>= λ word. names_in (values_of (codes "clock-output-names") node) >>= λ names.
    identifiers (length names) node >>= λ bits. Some (map (gate_at word) (zip names bits))

-- the clocks of a row
unfoldable pub clocks_in : Row → SeenNode → Option (List SeenClock)
clocks_in Fixed node = one_clock (fixed_kind node) node
clocks_in Factor node = one_clock (factor_kind node) node
clocks_in Gate node = one_clock (gate_kind node) node
clocks_in Gates node = gates node
clocks_in Mux node = one_clock (mux_kind node) node
clocks_in Divider node = one_clock (divider_kind node) node
clocks_in Pll node = one_clock (pll_kind node) node
