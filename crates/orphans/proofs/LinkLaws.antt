-- Laws on the parent that a registration gives.
use Rattle.std.proofs.Common.{◌≡◌, ◌<◌, ◌≤◌, ◌+◌, ℕ, Bool, true, false, cond, List, [], Option, Some, None, refl, sym, ap, subst, ◌∙◌, length}
use Rattle.std.specs.Prelude.{IfSome, slice_get, option_and_then}
use Rattle.std.specs.Option.{option_map, option_map_or}
use Rattle.clk_base.specs.declared.clock.ClockId.{ClockId}
use Rattle.clk_base.specs.declared.clock.Kind.{Kind}
use Rattle.clk_base.specs.declared.clock.Kind.TheVariants.{Mux}
use Rattle.clk_base.specs.Description.{Description, kind_of, parents_of}
use Rattle.clk_base.specs.Fields.{fields_of}
use Rattle.clk_base.specs.Valid.{IsValid}
use Rattle.clk_base.proofs.Valid.{fields-within, fixed-parents}
use Rattle.reg_bank.specs.Registers.{Registers, field}
use Rattle.clk_model.specs.declared.row.ClockRow.{ClockRow}
use Rattle.clk_model.specs.Kinds.{is_fixed, mux_field}
use Rattle.clk_model.specs.Lists.{is_in}
use Rattle.clk_model.specs.State.{registered}
use Rattle.clk_model.specs.Tree.{selected, if_registered, link_given}
use Rattle.clk_model.proofs.SiblingLaws.{fixed_rate}
use Rattle.clk_model.proofs.PllLaws.{at_place}

-- what was found at a place is a possible parent
pub found_possible : (ps : List ℕ) (n : ℕ) (found : Option ClockId) → option_map (λ p. p.0) found ≡ slice_get ps n → IfSome found (λ p. is_in p.0 ps ≡ true)
found_possible ps n None e = tt
found_possible ps n (Some p) e = at_place ps n p.0 (sym e)

-- the field of a mux lies in the bank
pub mux_lies : (words : ℕ) (defs : Description) (c word shift width : ℕ) (read_only : Bool) → IsValid words defs → c < length defs
    → kind_of defs c ≡ Mux word shift width read_only → (word < words) × (shift + width ≤ 32)
mux_lies words defs c word shift width read_only valid within is =
    fields-within words defs valid c 0 (record { word = word; shift = shift; width = width }) within (ap (λ (k : Kind). slice_get (fields_of k) 0) is)

-- ---- the link

given_by : (defs : Description) (regs : Registers) (clocks : List ClockRow) (c : ℕ) (o : Option ℕ) → selected defs regs c ≡ o
    → link_given defs regs clocks c ≡ option_and_then (if_registered clocks) o
unfolding link_given
given_by defs regs clocks c o e = ap (option_and_then (if_registered clocks)) e

pub given_none : (defs : Description) (regs : Registers) (clocks : List ClockRow) (c : ℕ) → selected defs regs c ≡ None → link_given defs regs clocks c ≡ None
given_none defs regs clocks c e = given_by defs regs clocks c None e

pub given_there : (defs : Description) (regs : Registers) (clocks : List ClockRow) (c p : ℕ) → selected defs regs c ≡ Some p → registered clocks p ≡ true
    → link_given defs regs clocks c ≡ Some p
given_there defs regs clocks c p e there = given_by defs regs clocks c (Some p) e ∙ ap (λ (t : Bool). cond t (Some p) None) there

pub given_away : (defs : Description) (regs : Registers) (clocks : List ClockRow) (c p : ℕ) → selected defs regs c ≡ Some p → registered clocks p ≡ false
    → link_given defs regs clocks c ≡ None
given_away defs regs clocks c p e away = given_by defs regs clocks c (Some p) e ∙ ap (λ (t : Bool). cond t (Some p) None) away

-- what is left of a selected parent when it is asked to be registered is the link
pub given_as : (defs : Description) (regs : Registers) (clocks : List ClockRow) (c : ℕ) (found link : Option ClockId) → option_map (λ p. p.0) found ≡ selected defs regs c
    → option_map (λ p. p.0) link ≡ option_and_then (if_registered clocks) (option_map (λ p. p.0) found) → option_map (λ p. p.0) link ≡ link_given defs regs clocks c
given_as defs regs clocks c found link is left =
    left ∙ ap (option_and_then (if_registered clocks)) is ∙ sym (given_by defs regs clocks c (selected defs regs c) refl)

-- and a possible parent
pub possible_as : (ps : List ℕ) (found link : Option ClockId) → IfSome found (λ p. is_in p.0 ps ≡ true) → IfSome link (λ p. found ≡ Some p) → IfSome link (λ p. is_in p.0 ps ≡ true)
possible_as ps found None can same = tt
possible_as ps found (Some p) can same = subst (λ (o : Option ClockId). IfSome o (λ q. is_in q.0 ps ≡ true)) same can

-- a fixed clock is given none
pub given_fixed : (words : ℕ) (defs : Description) (regs : Registers) (clocks : List ClockRow) (c : ℕ) → IsValid words defs → c < length defs → is_fixed (kind_of defs c) ≡ true
    → link_given defs regs clocks c ≡ None
given_fixed words defs regs clocks c valid within fixed =
    let kind = fixed_rate (kind_of defs c) fixed in
    let none : parents_of defs c ≡ [] = fixed-parents words defs valid c kind.0 within kind.1 in
    given_none defs regs clocks c
    (ap (λ (k : Kind). option_map_or (λ f. slice_get (parents_of defs c) (field regs f.word f.shift f.width)) (mux_field k) (slice_get (parents_of defs c) 0)) kind.1
    ∙ ap (λ (ps : List ℕ). slice_get ps 0) none)
