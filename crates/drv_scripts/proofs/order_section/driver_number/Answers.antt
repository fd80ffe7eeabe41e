use Rattle.std.proofs.Common.{◌≡◌, ◌∙◌, ◌+◌, ℕ, List, Option, Some, None, ap, sym}
use Rattle.std.specs.Borrow.{Bor}
use Rattle.std.specs.List.{position}
use Rattle.std.specs.Option.{option_map}
use Rattle.std.specs.Str.{bytes_eq}
use Rattle.bundle_text.specs.Words.{texts}
use Rattle.bundle_text.proofs.Mapped.{position-map}
use Rattle.drv_scripts.specs.ListLines.{driver_number}
use Rattle.drv_scripts.proofs.order_section.driver_number.Goals as goal

-- the number of the driver that was found, or of none
number_of : (drivers : List (Bor (List ℕ))) (name : List ℕ) (found : Option ℕ) → found ≡ position (λ own. bytes_eq own.now name) drivers → driver_number (texts drivers) name ≡ option_map (λ i. i + 1) found
number_of drivers name found e = ap (option_map (λ (i : ℕ). i + 1)) (position-map (λ (own : List ℕ). bytes_eq own name) (λ (own : Bor (List ℕ)). own.now) drivers ∙ sym e)

pub returns-in_err-place : goal.returns-in_err-place
returns-in_err-place c = c.from_residual.ensures ∙ sym (number_of c.args.drivers.now c.args.name.now None c.in_err-place.ensures)

pub returns : goal.returns
returns c = sym (number_of c.args.drivers.now c.args.name.now (Some c.in_ok-place.place) c.in_ok-place.ensures)
