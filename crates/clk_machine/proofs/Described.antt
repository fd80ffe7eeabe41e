-- Parts whose tree was changed: it has the description that the tree before had.
use Rattle.std.proofs.Common.{◌≡◌, ℕ, Bool, sym, ap, subst, ◌∙◌}
use Rattle.clk_base.specs.Description.{Description}
use Rattle.clk_base.specs.Checked.{Checked}
use Rattle.clk_base.specs.declared.event.Event.{Event}
use Rattle.clk_base.specs.declared.event.Turn.{Turn}
use Rattle.clk_model.specs.State.{State}
use Rattle.core_parts.specs.Tied.{desc_of}
use Rattle.clk_machine.specs.Parts.{Parts, IsWhole}
use Rattle.clk_machine.specs.Stands.{Becomes, Enters, Stands}

-- descriptions of the same clocks, checked with as many words, are one
pub checked_same : (d e : Checked) → d.words ≡ e.words → d.defs ≡ e.defs → d ≡ e
checked_same d e words defs =
    ap (λ (n : ℕ). let c : Checked = record { words = n; defs = d.defs } in c) words
    ∙ ap (λ (ds : Description). let c : Checked = record { words = e.words; defs = ds } in c) defs

-- the parts with the description that their tree has
abbrev pub described : Parts → Parts
described m = record m { desc = desc_of m.tree }

pub whole_described : (m : Parts) → desc_of m.tree ≡ m.desc → IsWhole m → IsWhole (described m)
whole_described m same whole = subst (λ (d : Checked). IsWhole (record m { desc = d })) (sym same) whole

pub becomes_described : (old : Parts) (adds : ℕ → Bool) (does : State → State) (new : Parts) → desc_of new.tree ≡ new.desc → Becomes old adds does new → Becomes old adds does (described new)
becomes_described old adds does new same becomes = subst (λ (d : Checked). Becomes old adds does (record new { desc = d })) (sym same) becomes

pub enters_described : (old : Parts) (d : ℕ) (event : Event) (turn : Turn) (new : Parts) → desc_of new.tree ≡ new.desc → Enters old d event turn new → Enters old d event turn (described new)
enters_described old d event turn new same enters = subst (λ (desc : Checked). Enters old d event turn (record new { desc = desc })) (sym same) enters

pub stands_described : (m : Parts) (s : State) → desc_of m.tree ≡ m.desc → Stands m s → Stands (described m) s
stands_described m s same stands = subst (λ (d : Checked). Stands (record m { desc = d }) s) (sym same) stands
