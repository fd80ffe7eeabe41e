-- Attaching does to the rows what the machine does: a relink of a registered clock, and a registration.
use Rattle.std.proofs.Common.{◌≡◌, ℕ, zero, suc, ◌<◌, true, false, List, [], ◌∷◌, Option, Some, None, refl, sym, ap, ◌∙◌, length, nat_eq}
use Rattle.std.specs.Prelude.{slice_set}
use Rattle.std.specs.Option.{option_map}
use Rattle.clk_base.specs.declared.clock.ClockId.{ClockId}
use Rattle.clk_base.specs.Description.{Description}
use Rattle.reg_bank.specs.Registers.{Registers}
use Rattle.clk_model.specs.declared.row.ClockRow.{ClockRow}
use Rattle.clk_model.specs.State.{row_of, link_in, requested}
use Rattle.clk_model.specs.Tree.{link_given}
use Rattle.clk_model.specs.Rate.{rate}
use Rattle.clk_model.specs.Chain.{clock_id}
use Rattle.clk_model.specs.Begin.{registered_row, registered_rows}
use Rattle.clk_model.proofs.Members.{same_from_test, test_other}
use Rattle.clk_model.proofs.RateLaws.{rate-links}
use Rattle.clk_model.proofs.StateLaws.{row_of-set_same, row_of-set_other}
use Rattle.clk_tree.specs.TreeState.{attached}

by_place : (link : Option ClockId) → option_map clock_id (option_map (λ p. p.0) link) ≡ link
by_place None = refl
by_place (Some p) = refl

set-twice : (clocks : List ClockRow) (c : ℕ) (a b : ClockRow) → slice_set (slice_set clocks c a) c b ≡ slice_set clocks c b
set-twice [] c a b = refl
set-twice (r ∷ clocks) zero a b = refl
set-twice (r ∷ clocks) (suc c) a b = ap (λ (rows : List ClockRow). r ∷ rows) (set-twice clocks c a b)

-- two rows with one link make the same links
link-rows : (clocks : List ClockRow) (c : ℕ) (a b : ClockRow) (k : ℕ) → c < length clocks → a.link ≡ b.link → link_in (slice_set clocks c a) k ≡ link_in (slice_set clocks c b) k
link-rows clocks c a b k within same =
    elim (nat_eq c k) as (λ t. nat_eq c k ≡ t → link_in (slice_set clocks c a) k ≡ link_in (slice_set clocks c b) k) [
      | true ↦ λ is.
          ap (λ (n : ℕ). link_in (slice_set clocks c a) n) (sym (same_from_test c k is))
          ∙ ap (λ (r : ClockRow). option_map (λ p. p.0) r.link) (row_of-set_same clocks c a within)
          ∙ ap (λ (l : Option ClockId). option_map (λ p. p.0) l) same
          ∙ sym (ap (λ (r : ClockRow). option_map (λ p. p.0) r.link) (row_of-set_same clocks c b within))
          ∙ ap (λ (n : ℕ). link_in (slice_set clocks c b) n) (same_from_test c k is)
      | false ↦ λ other.
          ap (λ (r : ClockRow). option_map (λ p. p.0) r.link) (row_of-set_other clocks c a k (λ is. test_other c k other is))
          ∙ sym (ap (λ (r : ClockRow). option_map (λ p. p.0) r.link) (row_of-set_other clocks c b k (λ is. test_other c k other is)))
    ] refl

-- attaching a clock to the parent that its registration gives, and then keeping its rate as the last request, is its registration
pub attached-registered : (defs : Description) (regs : Registers) (clocks : List ClockRow) (c : ℕ) (parent : Option ClockId)
    → c < length clocks → option_map (λ p. p.0) parent ≡ link_given defs regs clocks c
    → requested (attached clocks c parent) c (rate defs regs (attached clocks c parent) c) ≡ registered_rows defs regs clocks c
attached-registered defs regs clocks c parent within is =
    let own : ClockRow = record (row_of clocks c) { registered = true; link = parent } in
    let row : ClockRow = registered_row defs regs clocks c in
    let link : parent ≡ option_map clock_id (link_given defs regs clocks c) = sym (by_place parent) ∙ ap (option_map clock_id) is in
    let same_rate : rate defs regs (slice_set clocks c own) c ≡ rate defs regs (slice_set clocks c row) c =
    rate-links defs regs (slice_set clocks c row) (slice_set clocks c own) c (λ k. link-rows clocks c own row k within link) in
    ap (λ (r : ClockRow). slice_set (slice_set clocks c own) c (record r { last_request = rate defs regs (slice_set clocks c own) c })) (row_of-set_same clocks c own within)
    ∙ set-twice clocks c own _
    ∙ ap (λ (l : Option ClockId). slice_set clocks c (let r : ClockRow = record { registered = true; link = l; last_request = rate defs regs (slice_set clocks c own) c } in r)) link
    ∙ ap (λ (n : ℕ). slice_set clocks c (record row { last_request = n })) same_rate
