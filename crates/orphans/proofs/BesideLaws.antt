-- Laws on the tree with one clock more.
use Rattle.std.proofs.Common.{◌≡◌, ◌<◌, ◌||◌, ◌&&◌, ℕ, Bool, true, false, not, cond, List, Option, Some, None, refl, sym, ap, ◌∙◌, length, nat_eq}
use Rattle.std.specs.List.{list_any}
use Rattle.std.specs.Option.{option_map, option_map_or}
use Rattle.clk_base.specs.Description.{Description}
use Rattle.clk_base.specs.Levels.{depth}
use Rattle.clk_base.specs.Tables.{flag_at}
use Rattle.reg_bank.specs.Registers.{Registers}
use Rattle.clk_model.specs.declared.row.ClockRow.{ClockRow}
use Rattle.clk_model.specs.Chain.{clock_id}
use Rattle.clk_model.specs.State.{registered, link_in}
use Rattle.clk_model.specs.Tree.{path_within, path, link_given}
use Rattle.clk_model.specs.Begin.{registered_rows}
use Rattle.clk_model.proofs.Members.{same_from_test, test_other}
use Rattle.clk_model.proofs.PathLaws.{path_agree}
use Rattle.clk_model.proofs.StateLaws.{row_of-set_same, row_of-set_other}
use Rattle.clk_tree.proofs.Rows.{registered-set}
use Rattle.orphans.specs.Beside.{up_beside, is_free}

-- the new clock is registered, and no other is that wasn't
pub registered_beside : (defs : Description) (regs : Registers) (clocks : List ClockRow) (c k : ℕ) → c < length clocks
    → registered (registered_rows defs regs clocks c) k ≡ (nat_eq c k || registered clocks k)
registered_beside defs regs clocks c k within = registered-set clocks c _ k within refl

back : (o : Option ℕ) → option_map (λ p. p.0) (option_map clock_id o) ≡ o
back None = refl
back (Some p) = refl

-- its link is the one that it is given, and the others have theirs
pub link_beside_is : (defs : Description) (regs : Registers) (clocks : List ClockRow) (c k : ℕ) (link : Option ℕ) → c < length clocks
    → link ≡ link_given defs regs clocks c → up_beside clocks c link k ≡ link_in (registered_rows defs regs clocks c) k
link_beside_is defs regs clocks c k link within is = by_test (nat_eq c k) refl where
  by_test : (t : Bool) → nat_eq c k ≡ t → cond t link (link_in clocks k) ≡ link_in (registered_rows defs regs clocks c) k
  by_test true same =
      is ∙ sym (back (link_given defs regs clocks c))
      ∙ sym (ap (λ (r : ClockRow). option_map (λ p. p.0) r.link) (row_of-set_same clocks c _ within))
      ∙ ap (λ (n : ℕ). link_in (registered_rows defs regs clocks c) n) (same_from_test c k same)
  by_test false other = sym (ap (λ (r : ClockRow). option_map (λ p. p.0) r.link) (row_of-set_other clocks c _ k (test_other c k other)))

-- so are the paths
pub path_beside : (defs : Description) (regs : Registers) (clocks : List ClockRow) (c d : ℕ) (link : Option ℕ) → c < length clocks
    → link ≡ link_given defs regs clocks c → path_within (up_beside clocks c link) depth d ≡ path (registered_rows defs regs clocks c) d
path_beside defs regs clocks c d link within is =
    path_agree (link_in (registered_rows defs regs clocks c)) (up_beside clocks c link) depth d (λ a m. link_beside_is defs regs clocks c a link within is)

-- what a clock with a parent to be given is free by
pub free_by : (defs : Description) (regs : Registers) (rows : List ClockRow) (marks : List Bool) (a : ℕ) (o : Option ℕ) → link_given defs regs rows a ≡ o
    → is_free defs regs rows marks a ≡ option_map_or (λ p. not (list_any (λ x. not (nat_eq x a) && flag_at marks x) (path rows p))) o false
free_by defs regs rows marks a o e = ap (λ (q : Option ℕ). option_map_or (λ p. not (list_any (λ x. not (nat_eq x a) && flag_at marks x) (path rows p))) q false) e
