-- A raise or a lower of a paced change has no more PLLs to go than a line of possible parents has.
use Rattle.std.proofs.Common.{◌≡◌, ◌≤◌, ◌++◌, ◌∷◌, [], Some, sym, ap, ◌∙◌, subst, arith, length, List}
use Rattle.std.specs.Prelude.{slice_get}
use Rattle.clk_base.specs.declared.call.Micro.{Micro}
use Rattle.clk_base.specs.declared.call.Micro.TheVariants as micro
use Rattle.clk_base.specs.declared.clock.ClockId.{ClockId}
use Rattle.clk_base.proofs.Valid.{lines_end}
use Rattle.clk_model.specs.State.{State, Change}
use Rattle.clk_model.specs.Script.{plls}
use Rattle.clk_model.specs.Step.{todo, to_raise, to_lower}
use Rattle.clk_model.specs.Laws.Paced.{Front, tells, polls, polls_to_raise, raises, lowers, StillToRaise, StillToLower}
use Rattle.clk_model.proofs.PllLaws.{to_raise_few, to_lower_few}
use Rattle.clk_flight.specs.Laws.{PacedSeekFew}

-- the first step of all is the first that stands in front
in_front_first : (k : Change) (m : Micro) (n : Micro) (ms : List Micro) → k.front ≡ m ∷ ms → slice_get (todo k) 0 ≡ Some n → m ≡ n
in_front_first k m n ms front first = let e : Some m ≡ Some n = sym (ap (λ (xs : List Micro). slice_get (xs ++ k.left) 0) front) ∙ first in cc

raise_few : (s : State) (k : Change) (x : ClockId) → length (to_raise s k x.0) ≤ plls s.defs → Front s k → slice_get (todo k) 0 ≡ Some (micro.Raise x) → StillToRaise s k x
raise_few s k x few (tells down none) first = let n : k.again ≡ 0 = none in omega arith
raise_few s k x few (polls y front asks none) first = let n : k.again ≡ 0 = none in omega arith
raise_few s k x few (polls_to_raise y z front asks still) first =
    let no : micro.Poll y ≡ micro.Raise x = in_front_first k (micro.Poll y) (micro.Raise x) (micro.Raise z ∷ []) front first in absurd cc
raise_few s k x few (raises z front still) first =
    let e : micro.Raise z ≡ micro.Raise x = in_front_first k (micro.Raise z) (micro.Raise x) [] front first in
    let same : z ≡ x = cc in
    subst (λ (c : ClockId). StillToRaise s k c) same still
raise_few s k x few (lowers z front still) first =
    let no : micro.Lower z ≡ micro.Raise x = in_front_first k (micro.Lower z) (micro.Raise x) [] front first in absurd cc

lower_few : (s : State) (k : Change) (x : ClockId) → length (to_lower s x.0) ≤ plls s.defs → Front s k → slice_get (todo k) 0 ≡ Some (micro.Lower x) → StillToLower s k x
lower_few s k x few (tells down none) first = let n : k.again ≡ 0 = none in omega arith
lower_few s k x few (polls y front asks none) first = let n : k.again ≡ 0 = none in omega arith
lower_few s k x few (polls_to_raise y z front asks still) first =
    let no : micro.Poll y ≡ micro.Lower x = in_front_first k (micro.Poll y) (micro.Lower x) (micro.Raise z ∷ []) front first in absurd cc
lower_few s k x few (raises z front still) first =
    let no : micro.Raise z ≡ micro.Lower x = in_front_first k (micro.Raise z) (micro.Lower x) [] front first in absurd cc
lower_few s k x few (lowers z front still) first =
    let e : micro.Lower z ≡ micro.Lower x = in_front_first k (micro.Lower z) (micro.Lower x) [] front first in
    let same : z ≡ x = cc in
    subst (λ (c : ClockId). StillToLower s k c) same still

pub paced_seek_few : PacedSeekFew
paced_seek_few s k x valid links paced =
    let ends = lines_end (length s.regs) s.defs valid in
    (raise_few s k x (to_raise_few s k x.0 ends links) paced.front, lower_few s k x (to_lower_few s x.0 ends links) paced.front)
