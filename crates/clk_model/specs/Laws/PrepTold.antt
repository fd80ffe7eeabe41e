-- What the prepare tier's part of a state tells.
use Rattle.std.specs.Prelude.{◌≡◌, ℕ, length, Some, None, option_map, slice_get}
use Rattle.clk_base.specs.Description.{kind_of}
use Rattle.clk_base.specs.Fields.{Field, gate_of, fields_of}
use Rattle.clk_base.specs.Valid.{IsValid}
use Rattle.reg_bank.specs.Registers.{field}
use Rattle.clk_model.specs.State.{State, handle_at}
use Rattle.clk_model.specs.Rate.{rate}
use Rattle.clk_model.specs.Prep.{without_enables, prep}

-- two states have the same clocks with their links and last requests, notifiers, prepare holds and rates; the same handles but for
-- their enables; and the same fields but for gates
pub record DiffersInEnables (s t : State) : Type 0 where
  pub defs : t.defs ≡ s.defs
  pub clocks : t.clocks ≡ s.clocks
  pub order : t.order ≡ s.order
  pub handles : (number : ℕ) → option_map without_enables (handle_at t.handles number) ≡ option_map without_enables (handle_at s.handles number)
  pub notifiers : t.notifiers ≡ s.notifiers
  pub prepare_holds : t.prepare_holds ≡ s.prepare_holds
  pub words : length t.regs ≡ length s.regs
  pub fields : (c j : ℕ) (f : Field) → slice_get (fields_of (kind_of s.defs c)) j ≡ Some f → gate_of (kind_of s.defs c) ≡ None
      → field t.regs f.word f.shift f.width ≡ field s.regs f.word f.shift f.width
  pub rates : (c : ℕ) → rate t.defs t.regs t.clocks c ≡ rate s.defs s.regs s.clocks c

-- so it is with states of which the prepare tier's part is the same, over a valid description
abbrev pub PrepTells : Type 0
PrepTells = (s t : State) → IsValid (length s.regs) s.defs → prep t ≡ prep s → DiffersInEnables s t
