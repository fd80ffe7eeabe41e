-- Laws on the step that comes next: where it was taken from, and what it leaves of the script.
use Rattle.std.proofs.Common.{◌≡◌, Bool, true, false, List, [], ◌∷◌, ◌++◌, Option, refl, sym, ap, ◌∙◌}
use Rattle.clk_base.specs.declared.call.Micro.{Micro}
use Rattle.clk_base.specs.declared.call.Micro.TheVariants as micro
use Rattle.clk_base.specs.declared.event.Turn.TheVariants as turn
use Rattle.clk_model.specs.State.{State, Change}
use Rattle.clk_model.specs.Step.{rest_of, left_behind, is_end, stepped}
use Rattle.clk_model.specs.Machine.{comes_next}
use Rattle.clk_model.specs.Laws.Flight.{may_be_put}
use Rattle.clk_model.proofs.FlightLaws.{first_put, next_is}

-- it was the first of what stood in front, or of the script with nothing in front
pub data Comes (front left : List Micro) (m : Micro) : Type 0 where
  was_put : front ≡ m ∷ rest_of front → may_be_put m ≡ true → left_behind front left ≡ left → Comes front left m
  was_own : front ≡ [] → left ≡ m ∷ left_behind front left → Comes front left m

pub comes_of : (front left : List Micro) (m : Micro) → comes_next m (front ++ left) ≡ true → first_put front ≡ true → Comes front left m
comes_of [] [] m first put = absurd cc
comes_of [] (n ∷ ns) m first put = was_own refl (ap (λ (x : Micro). x ∷ ns) (next_is m n ns first))
comes_of (n ∷ ns) left m first put =
    let same = next_is m n (ns ++ left) first in
    was_put (ap (λ (x : Micro). x ∷ ns) same) (ap may_be_put (sym same) ∙ put) refl

-- a step behind which the call goes on isn't its end
pub going_no_end : (s : State) (k : Change) (answer : Option Bool) (m : Micro) → (stepped s k answer m).1 ≡ turn.Going → is_end m ≡ false
unfolding stepped
going_no_end s k answer micro.End going = absurd cc
going_no_end s k answer m going = refl
