-- Drivers side by side, and which of them makes an event.
use Rattle.std.specs.Prelude.{◌≡◌, ℕ, ◌+◌, ◌-◌, ◌||◌, List, [], ◌∷◌, Bool, false, Option, Some, slice_get, slice_set}
use Rattle.std.specs.Option.{option_map_or}
use Rattle.clk_base.specs.declared.event.Entry.{Entry}
use Rattle.clk_model.specs.Journal.{own}
use Rattle.clk_model.specs.Lists.{is_at}
use Rattle.clk_model.specs.Ordered.{Progress, can_take}
use Rattle.clk_machine.specs.Run.{Run}
use Rattle.drv_scripts.specs.declared.bundle.Script.{Script}
use Rattle.driver_runs.specs.Standing.{left_of, IsNew}
use Rattle.driver_runs.specs.Events.{Stands, IsProgress, owed, MayMove, MakesEvent}
use Rattle.driver_runs.specs.declared.standing.Standing.{Standing}

-- whether the driver with this number, from 1, can make an event, where going is the driver whose call is in flight
abbrev pub can_move_at : Option ℕ → List Script → List Standing → ℕ → Bool
can_move_at going drivers xs d =
    option_map_or (λ s. option_map_or (λ x. is_at d going || can_take going (left_of s.commands x)) (slice_get xs (d - 1)) false) (slice_get drivers (d - 1)) false

-- it may make its next event
abbrev pub MayMoveAt : Run → List Script → List Standing → Option ℕ → ℕ → Type 0
MayMoveAt run drivers xs going d =
    (s : Script) (x : Standing) → slice_get drivers (d - 1) ≡ Some s → slice_get xs (d - 1) ≡ Some x → MayMove run d s.commands x going

-- it made its next event, and the others stand where they stood
pub record MovesAt (old : Run) (drivers : List Script) (xs : List Standing) (going : Option ℕ) (d : ℕ) (new : Run) (xs' : List Standing) (going' : Option ℕ) : Type 0 where
  pub script : Script
  pub before : Standing
  pub after : Standing
  pub script_is : slice_get drivers (d - 1) ≡ Some script
  pub before_is : slice_get xs (d - 1) ≡ Some before
  pub others : xs' ≡ slice_set xs (d - 1) after
  pub event : MakesEvent old d script.commands before going new after going'

-- none of these drivers has answered a command but those that are skipped at once
abbrev pub AreNew : List Script → List Standing → Type 0
AreNew [] [] = Unit {0}
AreNew (s ∷ drivers) (x ∷ xs) = IsNew s.commands x × AreNew drivers xs
AreNew _ _ = ⊥

-- drivers, numbered from this one on, stand as their own entries tell, and have this progress
abbrev pub AllStand : Option ℕ → ℕ → List Script → List Standing → List Progress → List Entry → Type 0
AllStand going d [] [] [] journal = Unit {0}
AllStand going d (s ∷ drivers) (x ∷ xs) (p ∷ ps) journal =
    Stands d s.commands x (is_at d going) (own journal d) × IsProgress s.commands x p × AllStand going (d + 1) drivers xs ps journal
AllStand _ _ _ _ _ _ = ⊥

-- how many credits drivers, numbered from this one on, still need
abbrev pub owed_by : Option ℕ → ℕ → List Script → List Standing → ℕ
owed_by going d [] xs = 0
owed_by going d (s ∷ drivers) [] = 0
owed_by going d (s ∷ drivers) (x ∷ xs) = owed s.commands x (is_at d going) + owed_by going (d + 1) drivers xs

-- each has answered all its commands
abbrev pub AreDone : List Script → List Standing → Type 0
AreDone [] [] = Unit {0}
AreDone (s ∷ drivers) (x ∷ xs) = (left_of s.commands x ≡ []) × AreDone drivers xs
AreDone _ _ = ⊥
