use Rattle.std.proofs.Common.{◌≡◌, ◌∙◌, ℕ, List, Option, Some, None, sym, map, string_bytes, Global}
use Rattle.std.specs.declared.string.String.{String}
use Rattle.std.specs.List.{position}
use Rattle.std.specs.Str.{bytes_eq}
use Rattle.clk_base.proofs.Mapped.{position-map}
use Rattle.clk_journal.specs.ReadEntries.{driver_named}
use Rattle.clk_journal.proofs.reading.entry.driver_named.Goals as goal

named : (names : List (String Global)) (w : List ℕ) (found : Option ℕ) → found ≡ position (λ name. bytes_eq w (string_bytes name)) names → found ≡ driver_named (map string_bytes names) w
named names w found e = e ∙ sym (position-map (λ (x : List ℕ). bytes_eq w x) (λ (x : String Global). string_bytes x) names)

pub returns-in_err-place : goal.returns-in_err-place
returns-in_err-place c = c.from_residual.ensures ∙ named c.args.names.now c.args.word.now None c.in_err-place.ensures

pub returns : goal.returns
returns c = named c.args.names.now c.args.word.now (Some c.in_ok-place.place) c.in_ok-place.ensures
