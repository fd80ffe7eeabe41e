-- What the walk of a plan lists, and what the clocks are whose rate it changes: the law of walks.
use Rattle.std.specs.Prelude.{◌≡◌, ◌↔◌, ℕ, List, Bool, true, Some, slice_get}
use Rattle.clk_model.specs.Lists.{is_in, none_twice}
use Rattle.clk_model.specs.State.{ChainStep}
use Rattle.clk_model.specs.Tree.{path}
use Rattle.clk_model.specs.Round.{Wiring}
use Rattle.clk_model.specs.Chain.{outcome}
use Rattle.clk_model.specs.Walk.{top_of, walk, differs, changing}
use Rattle.clk_model.specs.Laws.Plans.{LeadsFrom}
use Rattle.clk_model.specs.Wired.{IsWired, IsOrder}

-- whether a clock will be at the top of the chain or below it: its path after the plan meets the top
abbrev pub will_be_below : Wiring → List ChainStep → ℕ → Bool
will_be_below w ks c = is_in (top_of ks) (path (outcome ks w).clocks c)

-- the walk begins at the top, lists each clock that will be below it, and no other, and none twice
pub record IsWalk (order : List ℕ) (w : Wiring) (ks : List ChainStep) : Type 0 where
  pub first : slice_get (walk order w ks) 0 ≡ Some (top_of ks)
  pub listed : (c : ℕ) → is_in c (walk order w ks) ≡ will_be_below w ks c
  pub once : none_twice (walk order w ks) ≡ true

-- each clock from this one up to the top will have another rate
abbrev pub AllDiffer : Wiring → List ChainStep → ℕ → Type 0
AllDiffer w ks c = (a : ℕ) → is_in a (path (outcome ks w).clocks c) ≡ true → will_be_below w ks a ≡ true → differs w ks a ≡ true

-- the changing clocks are those of the walk from which up to the top each clock will have another rate, and none stands twice
pub record AreChanging (order : List ℕ) (w : Wiring) (ks : List ChainStep) : Type 0 where
  pub listed : (c : ℕ) → (is_in c (changing order w ks) ≡ true) ↔ ((is_in c (walk order w ks) ≡ true) × AllDiffer w ks c)
  pub once : none_twice (changing order w ks) ≡ true

-- so it is with each chain that leads upwards
abbrev pub WalksList : Type 0
WalksList = (words : ℕ) (order : List ℕ) (w : Wiring) (c : ℕ) (ks : List ChainStep) → IsWired words w → IsOrder order w.clocks → LeadsFrom w c ks
    → IsWalk order w ks × AreChanging order w ks
