-- Scripts whose holds come in blocks, and what a timeout leaves of one.
use Rattle.std.proofs.Common.{ℕ, Bool, true, false, List, [], refl, sym, ◌≡◌, ◌∷◌, ◌++◌, ◌∙◌}
use Rattle.std.specs.List.{list_any}
use Rattle.clk_base.specs.declared.call.Micro.{Micro}
use Rattle.clk_model.specs.Laws.Flight.{IsPart, nothing_left, keeps, drops}
use Rattle.clk_model.proofs.FlightLaws.{none_part}
use Rattle.clk_model.proofs.HoldSteps.{relinks}

-- ---- scripts that take away what they put

-- no clock is relinked twice
abbrev pub relinks_once : List Micro → Type 0
relinks_once [] = Unit {0}
relinks_once (m ∷ ms) = ((c : ℕ) → relinks c m ≡ true → list_any (relinks c) ms ≡ false) × relinks_once ms

pub once_behind : (front left : List Micro) → relinks_once (front ++ left) → relinks_once left
once_behind [] left h = h
once_behind (m ∷ front) left h = once_behind front left h.1

pub once_part : {whole left : List Micro} → IsPart whole left → relinks_once whole → relinks_once left
once_part nothing_left once = tt
once_part (keeps m f) once = ((λ c e. none_part (relinks c) f (once.0 c e)), once_part f once.1)
once_part (drops m f) once = once_part f once.1

-- what a part has, the whole has
pub some_part : (p : Micro → Bool) {whole left : List Micro} → IsPart whole left → list_any p left ≡ true → list_any p whole ≡ true
some_part p {whole = whole} f some = by_test (list_any p whole) refl where
  by_test : (t : Bool) → list_any p whole ≡ t → t ≡ true
  by_test true e = refl
  by_test false e = let no : false ≡ true = sym (none_part p f e) ∙ some in absurd cc
