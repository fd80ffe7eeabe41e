-- What is read of sections, one more.
use Rattle.std.proofs.Common.{◌≡◌, List, [], ◌∷◌, ◌++◌, ap, sym, ◌∙◌, append_assoc, append-nil}
use Rattle.std.specs.List.{flat_map}
use Rattle.bundle_sections.specs.Sections.{SaidSection}
use Rattle.drv_scripts.specs.declared.part.Others.{Others}
use Rattle.drv_scripts.specs.declared.part.Part.{Part}
use Rattle.drv_scripts.specs.Parts.{IsEmpty, IsPart, Adds, AreRead, AreOthers}
use Rattle.drv_scripts.specs.Sections.{Around, scripts_in, locks_in, late_in, turns_in}

-- nothing, and then all
nothing_and : {X : Type 0} (done all : List X) → done ≡ [] → done ++ all ≡ all
nothing_and done all none = ap (λ (xs : List _). xs ++ all) none

-- one more, and then the rest
one_and : {X : Type 0} (f : SaidSection → List X) (all : List X) (s : SaidSection) (rest : List SaidSection) (old found new : List X) → old ++ flat_map f (s ∷ rest) ≡ all → found ≡ f s → new ≡ old ++ found
    → new ++ flat_map f rest ≡ all
one_and f all s rest old found new was is added =
    ap (λ (xs : List _). xs ++ flat_map f rest) (added ∙ ap (λ (ys : List _). old ++ ys) is) ∙ append_assoc old (f s) (flat_map f rest) ∙ was

-- nothing is left
all_and : {X : Type 0} (f : SaidSection → List X) (all : List X) (rest : List SaidSection) (done : List X) → rest ≡ [] → done ++ flat_map f rest ≡ all → done ≡ all
all_and f all rest done none is = sym (append-nil done) ∙ sym (ap (λ (ss : List SaidSection). done ++ flat_map f ss) none) ∙ is

pub read_none : (a : Around) (all : List SaidSection) (others : Others) → IsEmpty others → AreRead a all all others
read_none a all others none = record {
  locks = nothing_and _ _ none.locks;
  late = nothing_and _ _ none.late;
  drivers = nothing_and _ _ none.drivers;
  order = nothing_and _ _ none.order;
}

pub read_more : (a : Around) (all : List SaidSection) (s : SaidSection) (rest : List SaidSection) (old : Others) (part : Part) (new : Others) → AreRead a all (s ∷ rest) old → IsPart a s part → Adds old part new
    → AreRead a all rest new
read_more a all s rest old part new was is added = record {
  locks = one_and (locks_in a) _ s rest _ _ _ was.locks is.locks added.locks;
  late = one_and (late_in a) _ s rest _ _ _ was.late is.late added.late;
  drivers = one_and (scripts_in a) _ s rest _ _ _ was.drivers is.drivers added.drivers;
  order = one_and (turns_in a) _ s rest _ _ _ was.order is.order added.order;
}

pub read_all : (a : Around) (all rest : List SaidSection) (others : Others) → rest ≡ [] → AreRead a all rest others → AreOthers a all others
read_all a all rest others none is = record {
  locks = all_and (locks_in a) _ rest _ none is.locks;
  late = all_and (late_in a) _ rest _ none is.late;
  drivers = all_and (scripts_in a) _ rest _ none is.drivers;
  order = all_and (turns_in a) _ rest _ none is.order;
}
