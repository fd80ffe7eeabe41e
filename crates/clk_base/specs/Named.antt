-- How the names of a description are kept beside its clocks.
use Rattle.std.specs.Prelude.{◌≡◌, ◌<◌, ◌^◌, List, map, length, string_bytes}
use Rattle.std.specs.declared.string.String.{String}
use Rattle.std.specs.declared.alloc.Global.{Global}
use Rattle.clk_base.specs.Description.{Description, HasDistinctNames}

-- the texts are the clocks' names in their order, no two alike, and few enough for a `u32`
pub record IsNamed (texts : List (String Global)) (defs : Description) : Type 0 where
  pub texts_are : map string_bytes texts ≡ map (λ d. d.name) defs
  pub distinct : HasDistinctNames defs
  pub fits : length defs < 2 ^ 32
