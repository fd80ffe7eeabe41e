-- On the path of a prepared clock all are prepared, so no PLL there is kept powered by no prepare; and where no line of possible parents has a
-- PLL, no path has one.
use Rattle.std.proofs.Common.{◌≡◌, ℕ, zero, suc, ◌&&◌, not, Bool, true, false, List, [], ◌∷◌, Option, Some, None, refl, sym, ap, subst, ◌∙◌, inl, inr, arith, length, filter, nat_lt}
use Rattle.std.proofs.Math.Path.{fun_ext}
use Rattle.std.specs.Prelude.{is_none, slice_get, IfSome}
use Rattle.std.specs.List.{list_any}
use Rattle.clk_base.specs.Description.{Description, kind_of}
use Rattle.clk_base.specs.Levels.{depth}
use Rattle.reg_bank.specs.Registers.{Registers}
use Rattle.clk_model.specs.declared.row.ClockRow.{ClockRow}
use Rattle.clk_model.specs.Kinds.{is_pll}
use Rattle.clk_model.specs.Lists.{is_in, count_from}
use Rattle.clk_model.specs.Script.{runs, plls}
use Rattle.clk_model.specs.State.{link_in}
use Rattle.clk_model.specs.Tree.{path_within}
use Rattle.clk_model.proofs.FedLaws.{path_closed}
use Rattle.clk_model.proofs.Members.{any_in, any_from_in, is_in_cases, both_left, both_right}
use Rattle.clk_model.proofs.PathLaws.{above, in_above}
use Rattle.clk_model.proofs.PllLaws.{path_plls, lines_plls, length-filter-weaker}
use Rattle.clk_model.proofs.RootLaws.{both_from}
use Rattle.clk_model.proofs.StateLaws.{filter_none}
use Rattle.clk_tree.specs.TreeState.{TreeState, IsTree}
use Rattle.counts_core.specs.Counted.{CountState, AreCounts, HasLinks, is_held, is_prepared}
use Rattle.counts_core.specs.Sums.{up_in, ups_in}
use Rattle.counts_core.proofs.Definitions.{up_listed}
use Rattle.core_parts.specs.Plls.{is_loose, lowerable, Finds}
use Rattle.core_parts.specs.declared.plls.Sought.{Sought}
use Rattle.core_parts.proofs.Seeking.{none_or_any}

-- what holds a clock holds its parent
held_above : (k : CountState) (own : ℕ → ℕ) (c p : ℕ) → AreCounts k → is_held k.links own c ≡ true → up_in k.links c ≡ Some p → is_held k.links own p ≡ true
held_above k own c p counts held at =
    let up = up_in k.links in
    let h = any_in (λ b. nat_lt 0 (own b) && is_in c (path_within up depth b)) (count_from 0 (length k.links)) held in
    any_from_in (λ b. nat_lt 0 (own b) && is_in p (path_within up depth b)) (count_from 0 (length k.links)) h.0 h.1
    (both_from (nat_lt 0 (own h.0)) (is_in p (path_within up depth h.0)) (both_left (nat_lt 0 (own h.0)) (is_in c (path_within up depth h.0)) h.2)
    (path_closed (ups_in k.links) up depth h.0 c p (up_listed k.links) (counts.lines h.0) (both_right (nat_lt 0 (own h.0)) (is_in c (path_within up depth h.0)) h.2) at))

-- a clock on the path of a prepared one is prepared
prepared_above : (k : CountState) (levels c d : ℕ) → AreCounts k → is_prepared k c ≡ true → is_in d (path_within (up_in k.links) levels c) ≡ true → is_prepared k d ≡ true
prepared_above k zero c d counts prepared m = absurd cc
prepared_above k (suc levels) c d counts prepared m =
    elim (is_in_cases d c (above (up_in k.links) levels (up_in k.links c)) m) [
      | inl here ↦ subst (λ (e : ℕ). is_prepared k e ≡ true) here prepared
      | inr later ↦
          let p = in_above (up_in k.links) levels d (up_in k.links c) later in
          prepared_above k levels p.0 d counts (held_above k _ c p.0 counts prepared p.1) p.2
    ]

and_not : (a t : Bool) → t ≡ true → (a && not t) ≡ false
and_not true t e = ap not e
and_not false t e = refl

-- so no PLL there is kept powered by no prepare
pub none_loose : (defs : Description) (k : CountState) (clocks : List ClockRow) (levels c : ℕ) → AreCounts k → HasLinks clocks k.links → is_prepared k c ≡ true
    → filter (is_loose defs k) (path_within (link_in clocks) levels c) ≡ []
none_loose defs k clocks levels c counts same prepared =
    ap (λ (up : ℕ → Option ℕ). filter (is_loose defs k) (path_within up levels c)) (fun_ext same)
    ∙ filter_none (is_loose defs k) (path_within (up_in k.links) levels c)
    (λ d m. and_not (is_pll (kind_of defs d)) (is_prepared k d) (prepared_above k levels c d counts prepared m))

-- nor on any path where no line of possible parents has a PLL
pub none_anywhere : (k : CountState) (t : TreeState) (levels c most : ℕ) → IsTree t.defs t.clocks t.order t.rates → most ≡ plls t.defs → most ≡ 0
    → filter (is_loose t.defs k) (path_within (link_in t.clocks) levels c) ≡ []
none_anywhere k t levels c most stands counted none =
    let few = length-filter-weaker (is_loose t.defs k) (λ d. is_pll (kind_of t.defs d)) path (λ d e. both_left (is_pll (kind_of t.defs d)) (not (is_prepared k d)) e) in
    let own = path_plls t.defs (link_in t.clocks) levels depth c stands.possible (stands.lines c) in
    let lines = lines_plls t.defs c in
    no_entry (filter (is_loose t.defs k) path) (omega arith) where
      path : List ℕ
      path = path_within (link_in t.clocks) levels c

      no_entry : (xs : List ℕ) → length xs ≡ 0 → xs ≡ []
      no_entry [] e = refl
      no_entry (x ∷ xs) e = absurd (omega arith)

-- as a raise asks for it
pub any_loose : (defs : Description) (k : CountState) (path : List ℕ) → filter (is_loose defs k) path ≡ [] → list_any (is_loose defs k) path ≡ false
any_loose defs k path none =
    off (list_any (is_loose defs k) path) (sym (none_or_any (is_loose defs k) path) ∙ ap (λ (xs : List ℕ). is_none (slice_get xs 0)) none) where
      off : (t : Bool) → not t ≡ true → t ≡ false
      off true e = cc
      off false e = refl

-- and a search for one to be switched off that finds nothing is right
pub none_lowerable : (words : Option Registers) (defs : Description) (k : CountState) (path : List ℕ) (found : Sought) → filter (is_loose defs k) path ≡ [] → Finds found []
    → IfSome words (λ regs. Finds found (lowerable defs k regs path))
none_lowerable None defs k path found none nothing = tt
none_lowerable (Some regs) defs k path found none nothing = subst (λ (xs : List ℕ). Finds found (filter (runs defs regs) xs)) (sym none) nothing
