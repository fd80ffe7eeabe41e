-- What a registration lets adopt.
use Rattle.std.specs.Prelude.{◌≡◌, ℕ, ◌||◌, ◌==◌, ◌++◌, List, [], ◌∷◌, Bool, true, flat_map, length}
use Rattle.clk_base.specs.declared.call.Micro.{Micro}
use Rattle.clk_base.specs.declared.call.Micro.TheVariants as micro
use Rattle.clk_base.specs.declared.clock.ClockId.{ClockId}
use Rattle.clk_base.specs.Description.{Description, parents_of}
use Rattle.clk_base.specs.Flags.{is_critical}
use Rattle.clk_model.specs.Begin.{register}
use Rattle.clk_model.specs.Lists.{is_in}
use Rattle.clk_model.specs.Script.{adoptable, adoption, adoption_order, probe_script}
use Rattle.clk_model.specs.State.{State, registered}
use Rattle.clk_machine.specs.Parts.{Parts}
use Rattle.clk_machine.specs.Sound.{IsSound}
use Rattle.clk_machine.specs.Stands.{Stands}
use Rattle.core_parts.specs.Adoption.{adoption_by, registration_of}

-- the orphans that are adopted behind a registration, in their order
abbrev pub adopted : State → List ℕ
adopted s = adoption_order (length (adoptable s)) s (adoptable s)

-- whether a clock is registered, or the new one
abbrev pub is_beside : Parts → ℕ → ℕ → Bool
is_beside m new c = registered m.tree.clocks c || new == c

-- these steps are adoptions, one after the other, of clocks that pass a test by possible parents that pass it too
pub data AreAdoptions (defs : Description) (there : ℕ → Bool) : List Micro → Type 0 where
  none : AreAdoptions defs there []
  one_more : {rest : List Micro} (a p : ClockId) (prepared : Bool) → there a.0 ≡ true → there p.0 ≡ true → is_in p.0 (parents_of defs a.0) ≡ true → AreAdoptions defs there rest
      → AreAdoptions defs there (adoption_by a p prepared ++ rest)

-- steps are added that adopt orphans behind the registration of a new clock: in each state that the parts stand for, those of these orphans
pub record Adopts (m : Parts) (new : ℕ) (orphans : List ℕ) (before after : List Micro) : Type 0 where
  pub added : List Micro
  pub steps : after ≡ before ++ added
  pub are : AreAdoptions m.desc.defs (is_beside m new) added
  pub told : (s : State) → Stands m s → IsSound m.window.size s → added ≡ flat_map (adoption (register s new)) orphans

-- the steps of a registration: the clock is registered, orphans are adopted, and that is all; in each state that the parts stand for it is the script of
-- the registration, where these orphans are those that are adopted
pub record AreProbeSteps (m : Parts) (new : ClockId) (orphans : List ℕ) (steps : List Micro) : Type 0 where
  pub added : List Micro
  pub steps_ : steps ≡ (registration_of (is_critical m.desc.defs new.0) new ++ added) ++ micro.End ∷ []
  pub are : AreAdoptions m.desc.defs (is_beside m new.0) added
  pub told : (s : State) → Stands m s → IsSound m.window.size s → orphans ≡ adopted (register s new.0) → steps ≡ probe_script (register s new.0) new.0
