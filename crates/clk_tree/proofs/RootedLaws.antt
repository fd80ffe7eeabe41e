-- Laws on which clocks of a tree are rooted, and on the flags that tell it.
use Rattle.std.proofs.Common.{◌≡◌, ◌≢◌, ℕ, zero, suc, ◌-◌, ◌<◌, ◌≤◌, Bool, true, false, ◌&&◌, ◌||◌, List, Option, Some, None, refl, sym, ap, subst, ◌∙◌, ◌⊎◌, inl, inr, arith, length, replicate}
use Rattle.std.specs.List.{list_any}
use Rattle.std.specs.Option.{option_map}
use Rattle.std.proofs.lemmas.Bool.{cases_Bool, cases_lt, both_ways, false_from_ne_true}
use Rattle.std.proofs.lemmas.List.{get_or_past, get_or-replicate, length-replicate}
use Rattle.std.proofs.Math.Bool.{or-false}
use Rattle.clk_base.specs.declared.clock.ClockId.{ClockId}
use Rattle.clk_base.specs.Description.{Description, kind_of, parents_of}
use Rattle.clk_base.specs.Levels.{depth, ends_within}
use Rattle.clk_base.specs.Tables.{flag_at}
use Rattle.clk_base.specs.Valid.{IsValid}
use Rattle.clk_base.proofs.Lines.{ends_within-parent}
use Rattle.clk_model.specs.declared.row.ClockRow.{ClockRow}
use Rattle.clk_model.specs.Kinds.{is_fixed}
use Rattle.clk_model.specs.Lists.{is_in}
use Rattle.clk_model.specs.State.{row_of, registered, link_in, unregistered_row, requested}
use Rattle.clk_model.specs.Tree.{path, rooted, children}
use Rattle.clk_model.specs.Walk.{below_within}
use Rattle.clk_model.proofs.BelowLaws.{Rises, path_rises}
use Rattle.clk_model.proofs.PathLaws.{above, path_agree, path_cons, some_levels}
use Rattle.clk_model.proofs.SiblingLaws.{fixed_unlinked}
use Rattle.clk_model.proofs.StateLaws.{row_of-set_same, row_of-set_other}
use Rattle.clk_model.proofs.WholePathLaws.{path_more, other_member}
use Rattle.clk_tree.specs.Groups.{AreListed}
use Rattle.clk_tree.specs.Refreshed.{is_below, AreKidRings}
use Rattle.clk_tree.specs.Rooted.{TellsRooted, rooted_over}
use Rattle.clk_tree.specs.TreeState.{IsTree, attached}
use Rattle.clk_tree.proofs.Freshness.{below_by_path, below_itself, kid_rings, parent_apart}
use Rattle.clk_tree.proofs.RingLaws.{same_or_two}
use Rattle.clk_tree.proofs.Rows.{row_of-blank, registered-requested, link-requested}

-- whether a clock is fixed
abbrev fixed : Description → ℕ → Bool
fixed defs a = is_fixed (kind_of defs a)

-- ---- by links

-- a clock is rooted as before, where it is registered as before and the clocks on its path are linked as before
rooted_agree : (defs : Description) (before after : List ClockRow) (k : ℕ) → registered after k ≡ registered before k
    → ((a : ℕ) → is_in a (path after k) ≡ true → link_in before a ≡ link_in after a) → rooted defs after k ≡ rooted defs before k
rooted_agree defs before after k there same =
    ap (λ (b : Bool). b && list_any (fixed defs) (path after k)) there
    ∙ ap (λ (ps : List ℕ). registered before k && list_any (fixed defs) ps) (sym (path_agree (link_in after) (link_in before) depth k same))

-- the lines of a possible parent end one level earlier
ends_above : (defs : Description) (c p : ℕ) → ends_within (parents_of defs) depth c ≡ true → is_in p (parents_of defs c) ≡ true → ends_within (parents_of defs) (depth - 1) p ≡ true
ends_above defs c p ends is =
    let some = some_levels in
    let deep : depth ≡ suc (depth - 1) = omega arith in
    ends_within-parent (parents_of defs) (depth - 1) c p (subst (λ (n : ℕ). ends_within (parents_of defs) n c ≡ true) deep ends) is

-- a clock with a link is rooted where its parent is
rooted_as_parent : (words : ℕ) (defs : Description) (clocks : List ClockRow) (order rates : List ℕ) (c p : ℕ) → IsValid words defs → IsTree defs clocks order rates
    → link_in clocks c ≡ Some p → rooted defs clocks c ≡ rooted defs clocks p
rooted_as_parent words defs clocks order rates c p valid tree at =
    let up : ℕ → Option ℕ = link_in clocks in
    let loose : fixed defs c ≡ false = false_from_ne_true (fixed defs c) (λ is. fixed_unlinked words defs clocks c p valid tree.possible is at) in
    ap (λ (b : Bool). b && list_any (fixed defs) (path clocks c)) (tree.linked c p at)
    ∙ ap (list_any (fixed defs)) (path_cons up depth c some_levels)
    ∙ ap (λ (b : Bool). b || list_any (fixed defs) (above up (depth - 1) (up c))) loose
    ∙ ap (λ (o : Option ℕ). list_any (fixed defs) (above up (depth - 1) o)) at
    ∙ ap (list_any (fixed defs)) (sym (path_more (parents_of defs) up (depth - 1) depth p tree.possible (ends_above defs c p (tree.lines c) (tree.possible c p at)) (omega arith)))
    ∙ sym (ap (λ (b : Bool). b && list_any (fixed defs) (path clocks p)) (tree.links c p at))

-- and one without a link where it is fixed
rooted_unlinked : (defs : Description) (clocks : List ClockRow) (c : ℕ) → registered clocks c ≡ true → link_in clocks c ≡ None → rooted defs clocks c ≡ fixed defs c
rooted_unlinked defs clocks c there none =
    ap (λ (b : Bool). b && list_any (fixed defs) (path clocks c)) there
    ∙ ap (list_any (fixed defs)) (path_cons (link_in clocks) depth c some_levels)
    ∙ ap (λ (o : Option ℕ). fixed defs c || list_any (fixed defs) (above (link_in clocks) (depth - 1) o)) none
    ∙ or-false (fixed defs c)

-- a clock from which links lead to another is rooted where that one is, whatever the link of that one
rooted_rises : (words : ℕ) (defs : Description) (clocks : List ClockRow) (order rates : List ℕ) (up : ℕ → Option ℕ) (c n k : ℕ) → IsValid words defs → IsTree defs clocks order rates
    → ((a : ℕ) → c ≢ a → up a ≡ link_in clocks a) → Rises up n k c → rooted defs clocks k ≡ rooted defs clocks c
rooted_rises words defs clocks order rates up c zero k valid tree same way = ap (rooted defs clocks) way
rooted_rises words defs clocks order rates up c (suc n) k valid tree same way =
    elim (same_or_two c k) [
      | inl is ↦ ap (rooted defs clocks) (sym is)
      | inr two ↦
          rooted_as_parent words defs clocks order rates k way.0 valid tree (sym (same k two) ∙ way.1)
          ∙ rooted_rises words defs clocks order rates up c n way.0 valid tree same way.2
    ]

-- ---- after a clock was attached

-- the link of each other clock stays
link_other : (clocks : List ClockRow) (c : ℕ) (parent : Option ClockId) (a : ℕ) → c ≢ a → link_in (attached clocks c parent) a ≡ link_in clocks a
link_other clocks c parent a other = ap (λ (r : ClockRow). option_map (λ p. p.0) r.link) (row_of-set_other clocks c _ a other)

-- a clock that isn't below it is rooted as before
rooted_apart : (defs : Description) (clocks : List ClockRow) (c : ℕ) (parent : Option ClockId) (k : ℕ) → is_below (attached clocks c parent) c k ≡ false
    → rooted defs (attached clocks c parent) k ≡ rooted defs clocks k
rooted_apart defs clocks c parent k out =
    rooted_agree defs clocks (attached clocks c parent) k (ap (λ (r : ClockRow). r.registered) (row_of-set_other clocks c _ k two))
    (λ a m. sym (link_other clocks c parent a (other_member c a (path (attached clocks c parent) k) out m))) where
      two : c ≢ k
      two same = both_ways _ out (ap (is_below (attached clocks c parent) c) (sym same) ∙ below_itself (attached clocks c parent) c)

-- and the clock itself where it is fixed or its parent is rooted
rooted_attached : (words : ℕ) (defs : Description) (clocks : List ClockRow) (order rates : List ℕ) (flags : List Bool) (c : ℕ) (parent : Option ClockId) → IsValid words defs
    → IsTree defs (attached clocks c parent) order rates → TellsRooted defs clocks flags → c < length clocks → rooted defs (attached clocks c parent) c ≡ rooted_over defs flags c parent
rooted_attached words defs clocks order rates flags c None valid tree tells within =
    let row = row_of-set_same clocks c (record (row_of clocks c) { registered = true; link = None }) within in
    rooted_unlinked defs (attached clocks c None) c (ap (λ (r : ClockRow). r.registered) row) (ap (λ (r : ClockRow). option_map (λ p. p.0) r.link) row)
    ∙ sym (or-false (fixed defs c))
rooted_attached words defs clocks order rates flags c (Some p) valid tree tells within =
    let row = row_of-set_same clocks c (record (row_of clocks c) { registered = true; link = Some p }) within in
    let at : link_in (attached clocks c (Some p)) c ≡ Some p.0 = ap (λ (r : ClockRow). option_map (λ q. q.0) r.link) row in
    rooted_as_parent words defs (attached clocks c (Some p)) order rates c p.0 valid tree at
    ∙ rooted_apart defs clocks c (Some p) p.0 (parent_apart defs (attached clocks c (Some p)) order rates c p.0 tree at)
    ∙ sym (tells.told p.0)
    ∙ ap (λ (b : Bool). b || flag_at flags p.0)
    (sym (false_from_ne_true (fixed defs c) (λ is. fixed_unlinked words defs (attached clocks c (Some p)) c p.0 valid tree.possible is at)))

-- ---- flags

-- what the flags are after a clock was attached: those below it have its new one, where they had its old one, and the others stay
pub record UpdatesFlags (defs : Description) (siblings : List ℕ) (old new : List Bool) (c : ℕ) (parent : Option ClockId) : Type 0 where
  pub size : length new ≡ length old
  pub below : (kids : ℕ → List ℕ) → AreKidRings (length defs) siblings kids
      → ((k : ℕ) → is_in k (below_within kids depth c) ≡ true → flag_at old k ≡ flag_at old c)
      → (k : ℕ) → is_in k (below_within kids depth c) ≡ true → flag_at new k ≡ rooted_over defs old c parent
  pub others : (kids : ℕ → List ℕ) → AreKidRings (length defs) siblings kids → (k : ℕ) → is_in k (below_within kids depth c) ≡ false → flag_at new k ≡ flag_at old k

-- so they tell which clocks are rooted then
pub tells_attached : (words : ℕ) (defs : Description) (clocks : List ClockRow) (order order' rates turns siblings : List ℕ) (old new : List Bool) (c : ℕ) (parent : Option ClockId)
    → IsValid words defs → IsTree defs clocks order rates → IsTree defs (attached clocks c parent) order' rates → AreListed defs (attached clocks c parent) order' turns siblings
    → c < length clocks → TellsRooted defs clocks old → UpdatesFlags defs siblings old new c parent → TellsRooted defs (attached clocks c parent) new
tells_attached words defs clocks order order' rates turns siblings old new c parent valid was tree listed within tells sets = record {
  each = sets.size ∙ tells.each;
  told = λ k. by_place k (cases_Bool (is_below rows c k));
} where
  rows : List ClockRow
  rows = attached clocks c parent

  kids : ℕ → List ℕ
  kids = children order' rows

  -- all below the clock were rooted where it was
  had : (k : ℕ) → is_in k (below_within kids depth c) ≡ true → flag_at old k ≡ flag_at old c
  had k m =
      let way = path_rises (link_in rows) depth k c (sym (below_by_path defs rows order' rates c k tree) ∙ m) in
      tells.told k ∙ rooted_rises words defs clocks order rates (link_in rows) c way.0 k valid was (link_other clocks c parent) way.1 ∙ sym (tells.told c)

  by_place : (k : ℕ) → (is_below rows c k ≡ true) ⊎ (is_below rows c k ≡ false) → flag_at new k ≡ rooted defs rows k
  by_place k (inl under) =
      let way = path_rises (link_in rows) depth k c under in
      sets.below kids (kid_rings defs rows order' rates turns siblings tree listed) had k (below_by_path defs rows order' rates c k tree ∙ under)
      ∙ sym (rooted_attached words defs clocks order' rates old c parent valid tree tells within)
      ∙ sym (rooted_rises words defs rows order' rates (link_in rows) c way.0 k valid tree (λ a other. refl) way.1)
  by_place k (inr apart) =
      sets.others kids (kid_rings defs rows order' rates turns siblings tree listed) k (below_by_path defs rows order' rates c k tree ∙ apart)
      ∙ tells.told k ∙ sym (rooted_apart defs clocks c parent k apart)

-- where no clock is registered, no flag is set
pub tells_none : (defs : Description) (flags : List Bool) → flags ≡ replicate (length defs) false → TellsRooted defs (replicate (length defs) unregistered_row) flags
tells_none defs flags is = record {
  each = each;
  told = λ c. down c (cases_lt c (length flags)) ∙ sym (ap (λ (r : ClockRow). r.registered && list_any (fixed defs) (path (replicate (length defs) unregistered_row) c)) (row_of-blank (length defs) c));
} where
  each : length flags ≡ length defs
  each = ap (λ (bs : List Bool). length bs) is ∙ length-replicate (length defs) false

  down : (c : ℕ) → (c < length flags) ⊎ (length flags ≤ c) → flag_at flags c ≡ false
  down c (inl inside) = ap (λ (bs : List Bool). flag_at bs c) is ∙ get_or-replicate (length defs) c false false (let size = each in omega arith)
  down c (inr beyond) = get_or_past flags c false beyond

-- another last request leaves them
pub tells_requested : (defs : Description) (clocks : List ClockRow) (flags : List Bool) (c rate : ℕ) → c < length clocks → TellsRooted defs clocks flags
    → TellsRooted defs (requested clocks c rate) flags
tells_requested defs clocks flags c rate within tells = record {
  each = tells.each;
  told = λ k.
      tells.told k
      ∙ sym (rooted_agree defs clocks (requested clocks c rate) k (registered-requested clocks c rate k within) (λ a m. sym (link-requested clocks c rate a within)));
}
