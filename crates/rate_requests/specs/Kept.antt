-- What the fields keep.
use Rattle.std.specs.Prelude.{◌≡◌, ℕ, ◌<◌, List, [], Option, IfSome, Vec, vec_len, vec_capacity, slice_index_or}
use Rattle.std.specs.declared.alloc.Global.{Global}
use Rattle.slab.specs.Slab.{Slab, HasRoomFor}
use Rattle.clk_base.specs.declared.clock.ClockId.{ClockId}
use Rattle.clk_model.specs.declared.row.HandleRow.{HandleRow}
use Rattle.rate_requests.specs.declared.held.Held.{Held}
use Rattle.rate_requests.specs.declared.span.Span.{Span}
use Rattle.rate_requests.specs.Records.{handles_of}
use Rattle.rate_requests.specs.Spans.{lists, spans_from, HasRoom}

-- each clock has the ranges of its live handles
abbrev pub IsKept : List (Option HandleRow) → List (List Span) → Type 0
IsKept handles spans = (c : ℕ) → slice_index_or spans c [] ≡ spans_from c 0 handles

-- there is a place for a handle of the clock more: for where its record lies, its record and its range
pub record HasPlace (places : Vec ℕ Global) (records : Slab Held) (spans : List (Vec Span Global)) (c : ℕ) : Type 0 where
  pub number : vec_len places < vec_capacity places
  pub row : HasRoomFor records 1
  pub span : HasRoom spans c

-- the ranges are those of the handles, and the place that was made is there
pub record AreKept (places : Vec ℕ Global) (records : Slab Held) (spans : List (Vec Span Global)) (place : Option ClockId) : Type 0 where
  pub kept : IsKept (handles_of records.slots places.items) (lists spans)
  pub placed : IfSome place (λ c. HasPlace places records spans c.0)
