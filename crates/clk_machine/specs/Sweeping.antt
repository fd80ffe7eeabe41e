-- What the unused sweep switches off.
use Rattle.std.specs.Prelude.{◌≡◌, ℕ, ◌&&◌, ◌++◌, List, [], ◌∷◌, Bool, true, not, filter, flat_map}
use Rattle.std.specs.List.{list_all}
use Rattle.clk_base.specs.declared.call.Micro.{Micro}
use Rattle.clk_base.specs.declared.call.Micro.TheVariants as micro
use Rattle.clk_base.specs.Flags.{ignores_unused}
use Rattle.clk_model.specs.Chain.{clock_id}
use Rattle.clk_model.specs.Holders.{active, prepared}
use Rattle.clk_model.specs.Script.{close_of, lets_through, runs}
use Rattle.clk_model.specs.State.{State, registered}
use Rattle.clk_machine.specs.Parts.{Parts}
use Rattle.clk_machine.specs.Stands.{Stands}

-- whether the sweep closes a clock's gate: it is open, nothing keeps the clock active, and the sweep doesn't pass the clock over
abbrev pub closes : State → ℕ → Bool
closes s c = not (ignores_unused s.defs c) && lets_through s.defs s.regs c && not (active s c)

-- whether it switches a PLL off: it is powered, nothing keeps it prepared, and the sweep doesn't pass it over
abbrev pub unpowers : State → ℕ → Bool
unpowers s c = not (ignores_unused s.defs c) && runs s.defs s.regs c && not (prepared s c)

-- the steps that close a gate, and the one that switches a PLL off
abbrev pub close_steps : Parts → ℕ → List Micro
close_steps m c = close_of m.desc.defs m.tree.clocks c

abbrev pub unpower_steps : ℕ → List Micro
unpower_steps c = micro.Unpower (clock_id c) ∷ []

-- steps are added for registered clocks, which are those of an order that pass a test in each state that the parts stand for
pub record Adds (m : Parts) (steps_for : ℕ → List Micro) (test : State → ℕ → Bool) (order : List ℕ) (before after : List Micro) : Type 0 where
  pub clocks : List ℕ
  pub steps : after ≡ before ++ flat_map steps_for clocks
  pub there : list_all (registered m.tree.clocks) clocks ≡ true
  pub told : (s : State) → Stands m s → clocks ≡ filter (test s) order
