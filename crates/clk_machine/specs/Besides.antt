-- What the enable tier makes of a state: which clocks are active, and which gates are open.
use Rattle.std.specs.Prelude.{◌≡◌, ℕ, List, Bool, true, false, not, Some, filter}
use Rattle.std.specs.List.{list_any}
use Rattle.clk_base.specs.declared.call.Micro.{Micro}
use Rattle.clk_base.specs.declared.call.Sleeping.{Sleeping}
use Rattle.clk_base.specs.declared.call.Sleeping.TheVariants as call
use Rattle.clk_base.specs.declared.event.Entry.{Entry}
use Rattle.clk_base.specs.Description.{kind_of}
use Rattle.clk_base.specs.Fields.{GateBit, gate_of}
use Rattle.clk_model.specs.Holders.{active}
use Rattle.clk_model.specs.Kinds.{is_open}
use Rattle.clk_model.specs.State.{State}
use Rattle.clk_model.specs.Step.{is_register}
use Rattle.clk_model.specs.Tier.{is_enable_tier}

-- the enables and disables among these entries, and the questions whether a clock runs
abbrev pub enable_tier_of : List Entry → List Entry
enable_tier_of entries = filter (λ e. is_enable_tier e.event) entries

-- the same clocks are active in two states, and the same gates are open
pub record SameEnables (s t : State) : Type 0 where
  pub active_ : (c : ℕ) → active s c ≡ active t c
  pub gates : (c : ℕ) (gate : GateBit) → gate_of (kind_of t.defs c) ≡ Some gate → is_open s.regs gate ≡ is_open t.regs gate

-- whether a timeout drops all of a call that has made these steps: of a prepare, of a change of parent, and of a registration that wasn't made
abbrev pub is_dropped_by : List Micro → Sleeping → Bool
is_dropped_by made (call.Prepare h) = true
is_dropped_by made (call.SetParent h p) = true
is_dropped_by made (call.Probe c) = not (list_any is_register made)
is_dropped_by made _ = false
