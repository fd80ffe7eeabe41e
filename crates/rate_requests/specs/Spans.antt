-- The ranges of the live handles of a clock, by rising number.
use Rattle.std.specs.Prelude.{ℕ, suc, ◌-◌, ◌<◌, ◌==◌, ◌||◌, List, [], ◌∷◌, ◌++◌, Bool, Option, Some, None, nat_lt, map, if◌then◌else◌}
use Rattle.std.specs.Prelude.{Vec, vec_len, vec_capacity, slice_index_or}
use Rattle.std.specs.declared.alloc.Global.{Global}
use Rattle.clk_model.specs.declared.row.HandleRow.{HandleRow}
use Rattle.rate_requests.specs.declared.span.Span.{Span}

-- the ranges of each clock as a list
abbrev pub lists : List (Vec Span Global) → List (List Span)
lists spans = map (λ (v : Vec Span Global). v.items) spans

-- how many ranges more each clock has room for
abbrev pub rooms : List (Vec Span Global) → List ℕ
rooms spans = map (λ (v : Vec Span Global). vec_capacity v - vec_len v) spans

-- a clock has room for a range more
abbrev pub HasRoom : List (Vec Span Global) → ℕ → Type 0
HasRoom spans c = 0 < slice_index_or (rooms spans) c 0

-- each clock that had room for a range more still has it
abbrev pub KeepsRoom : List (Vec Span Global) → List (Vec Span Global) → Type 0
KeepsRoom old new = (c : ℕ) → HasRoom old c → HasRoom new c

-- whether it is the range of the handle of this number
abbrev pub has_number : ℕ → Span → Bool
has_number number s = s.number == number

-- whether a range misses another
abbrev pub misses_span : ℕ → ℕ → Span → Bool
misses_span least most s = nat_lt s.max least || nat_lt most s.min

-- the range, or another one if it is that of the handle of this number
abbrev pub with_range : ℕ → ℕ → ℕ → Span → Span
with_range number least most s = if s.number == number then record { number = s.number; min = least; max = most } else s

-- the range of a handle with this number, if it is live and on the clock
abbrev pub span_of : ℕ → ℕ → Option HandleRow → List Span
span_of c number None = []
span_of c number (Some h) = if h.clock.0 == c then record { number = number; min = h.min; max = h.max } ∷ [] else []

-- the ranges of the live handles of a clock, whose numbers begin with this one
abbrev pub spans_from : ℕ → ℕ → List (Option HandleRow) → List Span
spans_from c number [] = []
spans_from c number (h ∷ handles) = span_of c number h ++ spans_from c (suc number) handles
