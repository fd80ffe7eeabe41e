-- When a state has all that its clocks need to be fed, and that the enable tier keeps it so: the laws of feeding.
use Rattle.std.specs.Prelude.{◌≡◌, ◌⊎◌, ℕ, Bool, true, false, Option, Some, None, IfSome, length, slice_get}
use Rattle.clk_base.specs.declared.event.Event.{Event}
use Rattle.clk_base.specs.declared.event.Turn.{Turn}
use Rattle.clk_base.specs.Description.{Description, kind_of}
use Rattle.clk_base.specs.Fields.{Field, GateBit, fields_of, gate_of, power_of}
use Rattle.clk_base.specs.Valid.{IsValid}
use Rattle.reg_bank.specs.Registers.{Registers, field}
use Rattle.clk_model.specs.Kinds.{is_open, is_powered}
use Rattle.clk_model.specs.State.{State, link_in}
use Rattle.clk_model.specs.Holders.{is_held, active, prepared}
use Rattle.clk_model.specs.Gates.{settled}
use Rattle.clk_model.specs.Fed.{feeds, Fed}
use Rattle.clk_model.specs.Journal.{opening}
use Rattle.clk_model.specs.Machine.{next}
use Rattle.clk_model.specs.Tier.{is_enable_tier}
use Rattle.clk_model.specs.Wired.{LinksArePossible}

-- the gates of the clocks that are active in one state are open in the registers of another
abbrev pub GatesOpen : State → State → Type 0
GatesOpen old new = (c : ℕ) → active old c ≡ true → IfSome (gate_of (kind_of new.defs c)) (λ gate. is_open new.regs gate ≡ true)

-- what feeds a clock is its link, or a clock that the change in flight holds enabled, or below which it does
abbrev pub IsFeeder : State → ℕ → Option ℕ → Type 0
IsFeeder s p None = ⊥
IsFeeder s p (Some o) = (o ≡ p) ⊎ (is_held s.clocks s.enable_holds o ≡ true)

-- a clock has what it needs before it may be enabled: its PLL is powered, and what feeds it is its link or held
pub record IsReady (s : State) (c : ℕ) : Type 0 where
  pub powered : IfSome (power_of (kind_of s.defs c)) (λ power. is_powered s.regs power ≡ true)
  pub feeding : (p : ℕ) → link_in s.clocks c ≡ Some p → IsFeeder s p (feeds s.defs s.regs s.clocks c)

-- the description is valid, links lead to possible parents, active clocks are prepared, and prepared clocks are ready
pub record Supplies (s : State) : Type 0 where
  pub valid : IsValid (length s.regs) s.defs
  pub links : LinksArePossible s.defs s.clocks
  pub prepared_ : (c : ℕ) → active s c ≡ true → prepared s c ≡ true
  pub ready : (c : ℕ) → prepared s c ≡ true → IsReady s c

-- and the gates of active clocks are open
pub record IsSupplied (s : State) : Type 0 where
  pub supplies : Supplies s
  pub gates : GatesOpen s s

-- then each active clock is fed
abbrev pub SuppliedIsFed : Type 0
SuppliedIsFed = (s : State) → IsSupplied s → Fed s

-- after the gates have followed their clocks a state is supplied, where it supplies its clocks and the gates of those that
-- were active are open
abbrev pub SettledIsSupplied : Type 0
SettledIsSupplied = (old new : State) → Supplies new → GatesOpen old new → IsSupplied (settled old new)

-- the enable tier keeps a state supplied, so that it is fed after each of its events
abbrev pub EnableTierKeepsFed : Type 0
EnableTierKeepsFed = (s t : State) (d : ℕ) (e : Event) (x : Turn) → IsSupplied s → is_enable_tier e ≡ true → next s d e ≡ Some (t, x)
    → IsSupplied t × Fed t

-- nothing has to be fed at the opening, so that each run over a valid description begins supplied
abbrev pub OpeningIsSupplied : Type 0
OpeningIsSupplied = (defs : Description) (words : Registers) (ignore_unused : Bool) (credits : ℕ) → IsValid (length words) defs → IsSupplied (opening defs words ignore_unused credits)

-- what the gates' rule leaves: the gate of a clock that became active is open, that of one that stopped is closed, and every
-- other gate and every other field reads as before
pub record FollowsGates (old new t : State) : Type 0 where
  pub opens : (c : ℕ) (gate : GateBit) → gate_of (kind_of new.defs c) ≡ Some gate → active old c ≡ false → active new c ≡ true → is_open t.regs gate ≡ true
  pub closes : (c : ℕ) (gate : GateBit) → gate_of (kind_of new.defs c) ≡ Some gate → active old c ≡ true → active new c ≡ false → is_open t.regs gate ≡ false
  pub stays : (c : ℕ) (gate : GateBit) → gate_of (kind_of new.defs c) ≡ Some gate → active old c ≡ active new c → is_open t.regs gate ≡ is_open new.regs gate
  pub fields : (c j : ℕ) (f : Field) → slice_get (fields_of (kind_of new.defs c)) j ≡ Some f → gate_of (kind_of new.defs c) ≡ None
      → field t.regs f.word f.shift f.width ≡ field new.regs f.word f.shift f.width
  pub rest : t ≡ record new { regs = t.regs }

-- so it is over a valid description
abbrev pub SettledFollowsGates : Type 0
SettledFollowsGates = (old new : State) → IsValid (length new.regs) new.defs → FollowsGates old new (settled old new)
