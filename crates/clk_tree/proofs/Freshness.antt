-- Laws on a tree whose kept rates are brought up to date from a clock down.
use Rattle.std.proofs.Common.{◌≡◌, ◌≢◌, ◌⊎◌, ℕ, ◌-◌, ◌<◌, true, false, List, Option, Some, None, refl, sym, ap, subst, ◌∙◌, inl, inr, arith, length}
use Rattle.std.specs.Prelude.{IfSome, slice_index}
use Rattle.std.specs.Option.{option_map, option_map_or}
use Rattle.std.proofs.lemmas.Bool.{cases_Bool, both_ways, false_from_ne_true}
use Rattle.clk_base.specs.declared.clock.ClockId.{ClockId}
use Rattle.clk_base.specs.Description.{Description, kind_of, parents_of}
use Rattle.clk_base.specs.Levels.{depth}
use Rattle.reg_bank.specs.Registers.{Registers}
use Rattle.clk_model.specs.declared.row.ClockRow.{ClockRow}
use Rattle.clk_model.specs.Lists.{is_in, is_at}
use Rattle.clk_model.specs.Rate.{rate_over, rate}
use Rattle.clk_model.specs.State.{registered, link_in}
use Rattle.clk_model.specs.Tree.{children, path}
use Rattle.clk_model.specs.Walk.{below_within}
use Rattle.clk_model.proofs.BelowLaws.{AreKids, below_rises, rises_below, path_rises, rises_path, few_steps, no_round}
use Rattle.clk_model.proofs.OnceLaws.{filter_passes, filter_keeps, once_filter, length-filter-le}
use Rattle.clk_model.proofs.Members.{is_in_head}
use Rattle.clk_model.proofs.PathLaws.{above, path_cons, some_levels}
use Rattle.clk_model.proofs.RateLaws.{rates_are_over_links, rate_leaves}
use Rattle.clk_model.proofs.StateLaws.{row_of-set_other, registered_lt}
use Rattle.clk_model.proofs.WalkLaws.{is_at_same, at_same}
use Rattle.clk_tree.specs.declared.group.Group.TheVariants.{ChildrenOf}
use Rattle.clk_tree.specs.Groups.{AreListed}
use Rattle.clk_tree.specs.Refreshed.{is_below, IsFresh, AreKidRings, AreOver, FreshensBelow, FreshensAll}
use Rattle.clk_tree.specs.TreeState.{IsTree, attached}
use Rattle.clk_tree.proofs.GroupLaws.{members_below}
use Rattle.clk_tree.proofs.Refreshing.{RefreshesBelow}
use Rattle.clk_tree.proofs.RingLaws.{same_or_two}
use Rattle.clk_tree.proofs.Rows.{order-few}

-- ---- children

-- a child's link leads to its parent
child_link : (clocks : List ClockRow) (order : List ℕ) (c p : ℕ) → is_in c (children order clocks p) ≡ true → link_in clocks c ≡ Some p
child_link clocks order c p m = is_at_same p (link_in clocks c) (filter_passes (λ d. is_at p (link_in clocks d)) c order m)

-- and a clock whose link leads to another is its child
link_child : (defs : Description) (clocks : List ClockRow) (order rates : List ℕ) (c p : ℕ) → IsTree defs clocks order rates → link_in clocks c ≡ Some p → is_in c (children order clocks p) ≡ true
link_child defs clocks order rates c p tree at =
    filter_keeps (λ d. is_at p (link_in clocks d)) c order (at_same p (link_in clocks c) at) (tree.order_lists.listed c ∙ tree.linked c p at)

are_kids : (defs : Description) (clocks : List ClockRow) (order rates : List ℕ) → IsTree defs clocks order rates → AreKids (children order clocks) (link_in clocks)
are_kids defs clocks order rates tree = record {
  parent = λ c p m. child_link clocks order c p m;
  once = λ p. once_filter (λ d. is_at p (link_in clocks d)) order tree.order_lists.once;
}

-- the rings of a tree have its children
pub kid_rings : (defs : Description) (clocks : List ClockRow) (order rates turns siblings : List ℕ) → IsTree defs clocks order rates → AreListed defs clocks order turns siblings
    → AreKidRings (length defs) siblings (children order clocks)
kid_rings defs clocks order rates turns siblings tree listed = record {
  rings = λ p lies. listed.each (ChildrenOf (record { 0 = p })) lies;
  clocks = λ p d m. members_below defs clocks order rates (ChildrenOf (record { 0 = p })) tree d m;
  few = λ p. let kept = length-filter-le (λ d. is_at p (link_in clocks d)) order in let few = order-few defs clocks order rates tree in omega arith;
}

-- ---- below

-- what is below a clock by children is what has it on its path
pub below_by_path : (defs : Description) (clocks : List ClockRow) (order rates : List ℕ) (c k : ℕ) → IsTree defs clocks order rates
    → is_in k (below_within (children order clocks) depth c) ≡ is_below clocks c k
below_by_path defs clocks order rates c k tree =
    elim (cases_Bool (is_in c (path clocks k))) [
      | inl on ↦ down on ∙ sym on
      | inr off ↦ false_from_ne_true _ (λ m. both_ways _ off (up m)) ∙ sym off
    ] where
      up : is_in k (below_within (children order clocks) depth c) ≡ true → is_in c (path clocks k) ≡ true
      up m =
          let way = below_rises (children order clocks) (link_in clocks) depth c k (are_kids defs clocks order rates tree) m in
          rises_path (link_in clocks) depth way.0 k c way.1 (few_steps (parents_of defs) (link_in clocks) depth way.0 k c tree.possible (tree.lines k) way.1)

      down : is_in c (path clocks k) ≡ true → is_in k (below_within (children order clocks) depth c) ≡ true
      down m =
          let way = path_rises (link_in clocks) depth k c m in
          rises_below (children order clocks) (link_in clocks) depth way.0 k c (λ d p i j from at on. link_child defs clocks order rates d p tree at)
          way.1 (few_steps (parents_of defs) (link_in clocks) depth way.0 k c tree.possible (tree.lines k) way.1)

-- the parent of a clock isn't below it
pub parent_apart : (defs : Description) (clocks : List ClockRow) (order rates : List ℕ) (c p : ℕ) → IsTree defs clocks order rates → link_in clocks c ≡ Some p → is_below clocks c p ≡ false
parent_apart defs clocks order rates c p tree at =
    false_from_ne_true (is_below clocks c p) (λ m.
    let way = path_rises (link_in clocks) depth p c m in
    no_round (parents_of defs) (link_in clocks) depth way.0 c tree.possible (tree.lines c) (p, at, way.1))

-- ---- rates

-- the rates that the registers give are over those of the parents
over_parents : (defs : Description) (regs : Registers) (clocks : List ClockRow) (order rates : List ℕ) → IsTree defs clocks order rates
    → AreOver defs regs (children order clocks) (rate defs regs clocks)
over_parents defs regs clocks order rates tree p d m =
    rates_are_over_links defs regs clocks tree.lines tree.possible d
    ∙ ap (λ (o : Option ℕ). rate_over (kind_of defs d) regs (option_map_or (rate defs regs clocks) o 0)) (child_link clocks order d p m)

-- the kept rate of the parent is the right one
kept_above : (defs : Description) (regs : Registers) (clocks : List ClockRow) (rates : List ℕ) (link : Option ClockId) (o : Option ℕ) → option_map (λ p. p.0) link ≡ o
    → ((p : ℕ) → o ≡ Some p → IsFresh defs regs clocks rates p) → option_map_or (λ p. slice_index rates p.0) link 0 ≡ option_map_or (rate defs regs clocks) o 0
kept_above defs regs clocks rates None None is fresh = refl
kept_above defs regs clocks rates None (Some q) is fresh = absurd cc
kept_above defs regs clocks rates (Some p) None is fresh = absurd cc
kept_above defs regs clocks rates (Some p) (Some q) is fresh = let same : p.0 ≡ q = cc in ap (slice_index rates) same ∙ fresh q refl

-- the same of equal rates and levels
pub done_in_tree : (defs : Description) (told : Option Registers) (siblings old old' new new' : List ℕ) (levels c above : ℕ) → old' ≡ old → new' ≡ new → levels ≡ depth
    → RefreshesBelow defs told siblings old' new' levels c above → RefreshesBelow defs told siblings old new depth c above
done_in_tree defs told siblings old old' new new' levels c above was is deep done =
    subst (λ (rs : List ℕ). RefreshesBelow defs told siblings rs new depth c above) was
    (subst (λ (rs : List ℕ). RefreshesBelow defs told siblings old' rs depth c above) is
    (subst (λ (n : ℕ). RefreshesBelow defs told siblings old' new' n c above) deep done))

-- what a refresh brings up to date: the clock and all below it, where its parent's kept rate is right
pub fresh_below : (defs : Description) (told : Option Registers) (clocks : List ClockRow) (order old new turns siblings : List ℕ) (c above : ℕ) (link : Option ClockId)
    → IsTree defs clocks order old → AreListed defs clocks order turns siblings → option_map (λ p. p.0) link ≡ link_in clocks c → above ≡ option_map_or (λ p. slice_index old p.0) link 0
    → RefreshesBelow defs told siblings old new depth c above → FreshensBelow defs told clocks old new c
fresh_below defs told clocks order old new turns siblings c above link tree listed is kept done = given told done.below where
  given : (told' : Option Registers)
      → IfSome told' (λ regs. (kids : ℕ → List ℕ) (rates : ℕ → ℕ) → AreKidRings (length defs) siblings kids → AreOver defs regs kids rates
      → rates c ≡ rate_over (kind_of defs c) regs above → (k : ℕ) → is_in k (below_within kids depth c) ≡ true → slice_index new k ≡ rates k)
      → IfSome told' (λ regs. ((p : ℕ) → link_in clocks c ≡ Some p → IsFresh defs regs clocks old p)
      → (k : ℕ) → is_below clocks c k ≡ true → IsFresh defs regs clocks new k)
  given None h = tt
  given (Some regs) h = λ fresh k m.
      h (children order clocks) (rate defs regs clocks) (kid_rings defs clocks order old turns siblings tree listed) (over_parents defs regs clocks order old tree)
      (rates_are_over_links defs regs clocks tree.lines tree.possible c
      ∙ ap (rate_over (kind_of defs c) regs) (sym (kept ∙ kept_above defs regs clocks old link (link_in clocks c) is fresh)))
      k (below_by_path defs clocks order old c k tree ∙ m)

-- and it leaves all others
pub others_stay : (defs : Description) (told : Option Registers) (clocks : List ClockRow) (order old new turns siblings : List ℕ) (c above : ℕ)
    → IsTree defs clocks order old → AreListed defs clocks order turns siblings → RefreshesBelow defs told siblings old new depth c above
    → (k : ℕ) → is_below clocks c k ≡ false → slice_index new k ≡ slice_index old k
others_stay defs told clocks order old new turns siblings c above tree listed done k out =
    done.others (children order clocks) (kid_rings defs clocks order old turns siblings tree listed) k (below_by_path defs clocks order old c k tree ∙ out)

-- so where all others were right, all are
pub fresh_all : (defs : Description) (told : Option Registers) (clocks : List ClockRow) (order old new : List ℕ) (c : ℕ)
    → IsTree defs clocks order old
    → FreshensBelow defs told clocks old new c → ((k : ℕ) → is_below clocks c k ≡ false → slice_index new k ≡ slice_index old k)
    → FreshensAll defs told clocks old new c
fresh_all defs None clocks order old new c tree below others = tt
fresh_all defs (Some regs) clocks order old new c tree below others = λ fresh k there. elim (cases_Bool (is_below clocks c k)) [
  | inl under ↦ below (λ p at. fresh p (tree.links c p at) (parent_apart defs clocks order old c p tree at)) k under
  | inr apart ↦ others k apart ∙ fresh k there apart
]

-- the link of a clock leads to a kept rate
pub link_rated : (defs : Description) (clocks : List ClockRow) (order rates : List ℕ) (c n : ℕ) (link : Option ClockId) → IsTree defs clocks order rates
    → option_map (λ p. p.0) link ≡ link_in clocks c → n ≡ length rates → IfSome link (λ p. p.0 < n)
link_rated defs clocks order rates c n None tree is same = tt
link_rated defs clocks order rates c n (Some p) tree is same =
    let lies : p.0 < length clocks = registered_lt clocks p.0 (tree.links c p.0 (sym is)) in
    let rows = tree.rows in
    let rated = tree.rated in
    omega arith

-- ---- attaching

-- a clock is below itself
pub below_itself : (clocks : List ClockRow) (c : ℕ) → is_below clocks c c ≡ true
below_itself clocks c = ap (λ (cs : List ℕ). is_in c cs) (path_cons (link_in clocks) depth c some_levels) ∙ is_in_head c (above (link_in clocks) (depth - 1) (link_in clocks c))

-- where kept rates were right and a clock was attached, those of clocks that aren't below it still are
pub fresh_attached : (defs : Description) (regs : Registers) (clocks : List ClockRow) (rates : List ℕ) (c : ℕ) (parent : Option ClockId) → c < length clocks
    → ((k : ℕ) → registered clocks k ≡ true → IsFresh defs regs clocks rates k)
    → (k : ℕ) → registered (attached clocks c parent) k ≡ true → is_below (attached clocks c parent) c k ≡ false → IsFresh defs regs (attached clocks c parent) rates k
fresh_attached defs regs clocks rates c parent within fresh k there out =
    fresh k (was (same_or_two c k))
    ∙ rate_leaves defs regs (attached clocks c parent) clocks c k
    (λ a other. sym (ap (λ (r : ClockRow). option_map (λ p. p.0) r.link) (row_of-set_other clocks c _ a other))) out where
      was : (c ≡ k) ⊎ (c ≢ k) → registered clocks k ≡ true
      was (inl same) = absurd (both_ways _ out (ap (is_below (attached clocks c parent) c) (sym same) ∙ below_itself (attached clocks c parent) c))
      was (inr two) = sym (ap (λ (r : ClockRow). r.registered) (row_of-set_other clocks c _ k two)) ∙ there
