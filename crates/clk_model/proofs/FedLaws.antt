-- Laws on feeding: the parent of an active clock is active, and the gates of active clocks are open.
use Rattle.std.proofs.Common.{◌≡◌, ℕ, zero, suc, Bool, true, false, cond, not, List, Option, Some, refl, sym, ap, ◌∙◌, inl, inr, length}
use Rattle.clk_base.specs.Description.{Description, kind_of}
use Rattle.clk_base.specs.Fields.{GateBit, gate_of}
use Rattle.clk_base.specs.Levels.{depth, ends_within}
use Rattle.clk_base.proofs.Lines.{ends_within-parent}
use Rattle.reg_bank.specs.Registers.{Registers, is_set}
use Rattle.clk_model.specs.declared.row.ClockRow.{ClockRow}
use Rattle.clk_model.specs.Lists.{is_in}
use Rattle.clk_model.specs.Kinds.{is_open}
use Rattle.clk_model.specs.State.{link_in}
use Rattle.clk_model.specs.Tree.{path, path_within}
use Rattle.clk_model.specs.Holders.{is_held}
use Rattle.clk_model.specs.Gates.{gates_moved}
use Rattle.clk_model.proofs.Members.{is_in_head, is_in_tail, is_in_cases, any_in, any_from_in}
use Rattle.clk_model.proofs.PathLaws.{above, in_above}
use Rattle.clk_model.proofs.GateLaws.{GatesLie, gate_bit, is_set-gates_moved_same, is_set-gates_moved_other}

-- ---- links

first_in : (parents : ℕ → List ℕ) (up : ℕ → Option ℕ) (levels p : ℕ) → ends_within parents levels p ≡ true → is_in p (path_within up levels p) ≡ true
first_in parents up zero p ends = absurd cc
first_in parents up (suc levels) p ends = is_in_head p (above up levels (up p))

-- a path has the parent of each of its clocks, where links lead to possible parents
pub path_closed : (parents : ℕ → List ℕ) (up : ℕ → Option ℕ) (levels h c p : ℕ)
    → ((b q : ℕ) → up b ≡ Some q → is_in q (parents b) ≡ true) → ends_within parents levels h ≡ true
    → is_in c (path_within up levels h) ≡ true → up c ≡ Some p → is_in p (path_within up levels h) ≡ true
path_closed parents up zero h c p links ends m at = absurd cc
path_closed parents up (suc levels) h c p links ends m at =
    elim (is_in_cases c h (above up levels (up h)) m) [
      | inl here ↦
          let own : up h ≡ Some p = ap up here ∙ at in
          is_in_tail p h (above up levels (up h))
          (ap (λ (o : Option ℕ). is_in p (above up levels o)) own
          ∙ first_in parents up levels p (ends_within-parent parents levels h p ends (links h p own)))
      | inr later ↦
          let q = in_above up levels c (up h) later in
          is_in_tail p h (above up levels (up h))
          (ap (λ (o : Option ℕ). is_in p (above up levels o)) q.1
          ∙ path_closed parents up levels q.0 c p links (ends_within-parent parents levels h q.0 ends (links h q.0 q.1)) q.2 at)
    ]

-- what holds a clock holds its parent
pub is_held-parent : (parents : ℕ → List ℕ) (clocks : List ClockRow) (holders : List ℕ) (c p : ℕ)
    → ((b q : ℕ) → link_in clocks b ≡ Some q → is_in q (parents b) ≡ true) → ((h : ℕ) → ends_within parents depth h ≡ true)
    → is_held clocks holders c ≡ true → link_in clocks c ≡ Some p → is_held clocks holders p ≡ true
is_held-parent parents clocks holders c p links ends held at =
    let h = any_in (λ k. is_in c (path clocks k)) holders held in
    any_from_in (λ k. is_in p (path clocks k)) holders h.0 h.1 (path_closed parents (link_in clocks) depth h.0 c p links (ends h.0) h.2 at)

-- ---- gates

open_bit : (gate : GateBit) (b : Bool) → b ≡ gate_bit gate true → cond gate.set_to_disable (not b) b ≡ true
open_bit gate b is = ap (λ (x : Bool). cond gate.set_to_disable (not x) x) is ∙ both gate.set_to_disable where
  both : (d : Bool) → cond d (not (cond d (not true) true)) (cond d (not true) true) ≡ true
  both true = refl
  both false = refl

-- after the gates have moved, that of a clock that is active is open, where those of the clocks that were active were
pub moved_open : (defs : Description) (before after : ℕ → Bool) (cs : List ℕ) (regs : Registers) (c : ℕ) (gate : GateBit)
    → GatesLie defs cs (length regs) → (before c ≡ true → is_open regs gate ≡ true)
    → is_in c cs ≡ true → after c ≡ true → gate_of (kind_of defs c) ≡ Some gate → is_open (gates_moved defs before after cs regs) gate ≡ true
moved_open defs before after cs regs c gate lie was m active at =
    elim (before c) as (λ b. before c ≡ b → is_open (gates_moved defs before after cs regs) gate ≡ true) [
      | true ↦ λ e.
          let still : is_set (gates_moved defs before after cs regs) gate.word gate.bit ≡ is_set regs gate.word gate.bit =
          is_set-gates_moved_other defs before after cs regs gate.word gate.bit
          (λ d other n f word bit.
          let same : d ≡ c = lie.apart c d gate other m n at f word bit in
          ap before same ∙ e ∙ sym active ∙ ap after (sym same)) in
          ap (λ (x : Bool). cond gate.set_to_disable (not x) x) still ∙ was e
      | false ↦ λ e.
          open_bit gate (is_set (gates_moved defs before after cs regs) gate.word gate.bit)
          (is_set-gates_moved_same defs before after cs regs c gate lie m at (λ same. let no : false ≡ true = sym e ∙ same ∙ active in cc)
          ∙ ap (gate_bit gate) active)
    ] refl
