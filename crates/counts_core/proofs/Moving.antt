-- Laws on a new link of a clock: the sums over the old links turn into those over the new ones.
use Rattle.std.proofs.Common.{◌≡◌, ℕ, zero, suc, ◌+◌, ◌<◌, ◌≤◌, ◌&&◌, cond, List, [], ◌∷◌, Bool, true, false, Option, Some, None, refl, sym, ap, subst, ◌∙◌, arith, length, set, get_or, nat_eq, nat_lt}
use Rattle.std.specs.Option.{option_map, IfSome}
use Rattle.std.proofs.lemmas.List.{length-set, get_or-set_same, get_or-set_other}
use Rattle.clk_base.specs.declared.clock.ClockId.{ClockId}
use Rattle.clk_base.specs.Description.{Description, parents_of}
use Rattle.clk_base.specs.Levels.{depth}
use Rattle.clk_model.specs.declared.row.ClockRow.{ClockRow}
use Rattle.clk_model.specs.Chain.{clock_id}
use Rattle.clk_model.specs.Lists.{is_in}
use Rattle.clk_model.specs.State.{link_in}
use Rattle.clk_model.specs.Wired.{LinesEnd, LinksArePossible}
use Rattle.clk_model.proofs.Members.{same_from_test, test_other}
use Rattle.clk_model.proofs.StateLaws.{registered_lt}
use Rattle.clk_tree.specs.TreeState.{IsTree}
use Rattle.counts_core.specs.Sums.{up_in, LinksEnd, leads, mark, kids, AreSums, AreOwed, Grows}
use Rattle.counts_core.specs.Counted.{CountState, HasOtherLinks}
use Rattle.counts_core.specs.CountsKept.{IsCounted}
use Rattle.counts_core.proofs.Definitions.{lines_under}
use Rattle.counts_core.proofs.Walking.{kids-le}

-- the children that count over a new link of a clock are those over the old one, but for this clock
kids-link : (links : List (Option ClockId)) (counts : List ℕ) (c : ℕ) (link : Option ClockId) (d : ℕ) → length links ≡ length counts → c < length links
    → kids (set links c link) counts d + mark (leads d (get_or links c None)) (get_or counts c 0) ≡ kids links counts d + mark (leads d link) (get_or counts c 0)
kids-link [] counts c link d size within = absurd (omega arith)
kids-link (l ∷ ls) [] c link d size within = absurd (omega arith)
kids-link (l ∷ ls) (n ∷ ns) zero link d size within = omega arith
kids-link (l ∷ ls) (n ∷ ns) (suc c) link d size within = let rest = kids-link ls ns c link d (omega arith) (omega arith) in omega arith

-- where a clock moves, what was owed for the new link is now owed for the old one
pub owed_moved : (links : List (Option ClockId)) (own counts : List ℕ) (child : ℕ) (link : Option ClockId) → AreOwed links own counts child link → child < length links
    → AreOwed (set links child link) own counts child (get_or links child None)
owed_moved links own counts child link owed within = record {
  owned = owed.owned ∙ sym (length-set links child link);
  counted = owed.counted ∙ sym (length-set links child link);
  sums = λ d.
      let here = owed.sums d in
      let long = owed.counted in
      let moved = kids-link links counts child link d (omega arith) within in
      omega arith;
}

-- counts are small where holders are
pub owed_small : (links : List (Option ClockId)) (own counts : List ℕ) (child : ℕ) (link : Option ClockId) (d most : ℕ) → AreOwed links own counts child link → length links ≤ 4096 → get_or own d 0 ≤ most
    → get_or counts d 0 ≤ most + 4097
owed_small links own counts child link d most owed few small =
    let here = owed.sums d in
    let children = kids-le links counts d in
    let one_more = mark-le (leads d link) (get_or counts child 0) in
    omega arith where
      mark-le : (t : Bool) (n : ℕ) → mark t n ≤ 1
      mark-le t n = elim (t && nat_lt 0 n) as (λ b. cond b 1 0 ≤ 1) [ true ↦ omega arith | false ↦ omega arith ]

-- ---- the links of a tree in which a clock has another parent than in the sums

pub record Moves (defs : Description) (links : List (Option ClockId)) (clocks : List ClockRow) (c : ℕ) (from to : Option ClockId) : Type 0 where
  pub place : c < length links
  pub before : up_in links c ≡ option_map (λ p. p.0) from
  pub after : option_map (λ p. p.0) to ≡ link_in clocks c
  pub others : HasOtherLinks clocks links c
  pub inside : (d p : ℕ) → link_in clocks d ≡ Some p → p < length links
  pub possible : LinksArePossible defs clocks
  pub lines : LinesEnd defs

same_clock : (o p : Option ClockId) → option_map (λ q. q.0) o ≡ option_map (λ q. q.0) p → o ≡ p
same_clock None None e = refl
same_clock None (Some p) e = absurd cc
same_clock (Some o) None e = absurd cc
same_clock (Some o) (Some p) e = ap (λ (n : ℕ). Some (clock_id n)) (some_same o.0 p.0 e) where
  some_same : (x y : ℕ) → Some x ≡ Some y → x ≡ y
  some_same x y f = cc

module _ {defs : Description} {links : List (Option ClockId)} {clocks : List ClockRow} {c : ℕ} {from to : Option ClockId} where
  -- the sums will be over the tree's links
  pub moves_links : Moves defs links clocks c from to → (d : ℕ) → link_in clocks d ≡ up_in (set links c to) d
  moves_links m d =
      elim (nat_eq c d) as (λ t. nat_eq c d ≡ t → link_in clocks d ≡ up_in (set links c to) d) [
        | true ↦ λ e. subst (λ (x : ℕ). link_in clocks x ≡ up_in (set links c to) x) (same_from_test c d e)
            (sym m.after ∙ sym (ap (option_map (λ (p : ClockId). p.0)) (get_or-set_same links c to None m.place)))
        | false ↦ λ e.
            let other : d ≡ c → ⊥ = λ s. test_other c d e (sym s) in
            m.others d other ∙ sym (ap (option_map (λ (p : ClockId). p.0)) (get_or-set_other links c d to None other))
      ] refl

  pub moves_inside : Moves defs links clocks c from to → (d p : ℕ) → up_in (set links c to) d ≡ Some p → p < length (set links c to)
  moves_inside m d p e = let less = m.inside d p (moves_links m d ∙ e) in let long = length-set links c to in omega arith

  pub moves_possible : Moves defs links clocks c from to → (d p : ℕ) → up_in (set links c to) d ≡ Some p → is_in p (parents_of defs d) ≡ true
  moves_possible m d p e = m.possible d p (moves_links m d ∙ e)

  -- so the new lines of links end
  pub moves_lines : Moves defs links clocks c from to → LinksEnd (set links c to)
  moves_lines m d = lines_under (parents_of defs) (set links c to) depth d (moves_possible m) (m.lines d)

  -- the old link is the one that the call was told
  pub moves_from : Moves defs links clocks c from to → get_or links c None ≡ from
  moves_from m = same_clock (get_or links c None) from m.before

  -- the new parent is a clock of the description
  pub moves_there : Moves defs links clocks c from to → IfSome to (λ p. p.0 < length links)
  moves_there m = there to m.after where
    there : (o : Option ClockId) → option_map (λ p. p.0) o ≡ link_in clocks c → IfSome o (λ p. p.0 < length links)
    there None e = tt
    there (Some p) e = m.inside c p.0 (sym e)

  -- what is owed for the new link is owed for the old one
  pub moves_owed : (own counts : List ℕ) → Moves defs links clocks c from to → AreOwed links own counts c to → AreOwed (set links c to) own counts c from
  moves_owed own counts m owed = subst (λ (o : Option ClockId). AreOwed (set links c to) own counts c o) (moves_from m) (owed_moved links own counts c to owed m.place)

-- ---- what the fields keep

-- what the call asks, of the fields
pub moves : {links : List (Option ClockId)} {gated : List Bool} {en pr ex : List ℕ} {defs : Description} {clocks : List ClockRow} {order rates : List ℕ} {c : ℕ} {from to : Option ClockId} (t : CountState)
    → record { gated = gated; links = links; enables = en; prepares = pr; exclusives = ex } ≡ t
    → IsTree defs clocks order rates → c < length t.links → length defs ≡ length t.links → up_in t.links c ≡ option_map (λ p. p.0) from → HasOtherLinks clocks t.links c
    → option_map (λ p. p.0) to ≡ link_in clocks c → Moves defs links clocks c from to
moves {links} {gated} {en} {pr} {ex} {defs} {clocks} {order} {rates} {c} {from} {to} t view tree place size before others after = record {
  place = subst (λ (x : CountState). c < length x.links) (sym view) place;
  before = subst (λ (x : CountState). up_in x.links c ≡ option_map (λ (p : ClockId). p.0) from) (sym view) before;
  after = after;
  others = subst (λ (x : CountState). HasOtherLinks clocks x.links c) (sym view) others;
  inside = λ d p e.
      let there = registered_lt clocks p (tree.links d p e) in
      let rows = tree.rows in
      let long : length links ≡ length t.links = ap (λ (x : CountState). length x.links) view in
      omega arith;
  possible = tree.possible;
  lines = tree.lines;
}

module _ {links : List (Option ClockId)} {gated : List Bool} {en pr ex enc prc po pc : List ℕ} where
  -- the sums over the new links
  pub counted_moved : {defs : Description} {clocks : List ClockRow} {c : ℕ} {from to : Option ClockId} (enc' prc' po' pc' : List ℕ) → IsCounted links gated en pr ex enc prc po pc → Moves defs links clocks c from to
      → AreSums (set links c to) en enc' → AreSums (set links c to) pr prc' → AreSums (set links c to) po' pc' → Grows gated po prc po' prc'
      → IsCounted (set links c to) gated en pr ex enc' prc' po' pc'
  counted_moved {defs} {clocks} {c} {from} {to} enc' prc' po' pc' k m enables prepares protects grown = record {
    most = let long = length-set links c to in let most = k.most in omega arith;
    lines = moves_lines m;
    inside = moves_inside m;
    flags = k.flags ∙ sym (length-set links c to);
    enable_few = k.enable_few;
    prepare_few = k.prepare_few;
    exclusive_few = k.exclusive_few;
    exclusive_size = k.exclusive_size ∙ sym (length-set links c to);
    enable_sums = enables;
    prepare_sums = prepares;
    protect_sums = protects;
    coupled = λ d. let before = k.coupled d in let more = grown d in omega arith;
  }
