-- Laws on the groups of clocks: who is in them, and their rings when a clock is attached.
use Rattle.std.proofs.Common.{◌≡◌, ◌≢◌, ℕ, ◌+◌, ◌<◌, ◌≤◌, Bool, true, false, not, ◌&&◌, cond, List, [], ◌∷◌, Option, Some, None, refl, sym, ap, subst, ◌∙◌, ◌⊎◌, inl, inr, arith, length, nat_eq}
use Rattle.std.specs.Prelude.{IfSome, is_none, slice_index}
use Rattle.std.specs.Option.{option_map}
use Rattle.std.proofs.lemmas.Bool.{true_from_ne_false, false_from_ne_true}
use Rattle.clk_base.specs.declared.clock.ClockId.{ClockId}
use Rattle.clk_base.specs.Description.{Description, kind_of, parents_of}
use Rattle.clk_base.specs.Valid.{IsValid}
use Rattle.clk_base.proofs.Valid.{fixed-parents}
use Rattle.clk_model.specs.declared.row.ClockRow.{ClockRow}
use Rattle.clk_model.specs.Kinds.{is_fixed}
use Rattle.clk_model.specs.Lists.{is_in, is_at, without, to_front}
use Rattle.clk_model.specs.State.{registered, link_in}
use Rattle.clk_model.specs.Tree.{children}
use Rattle.clk_model.specs.Laws.Siblings.{front_if}
use Rattle.clk_model.proofs.Members.{same_from_test, test_other}
use Rattle.clk_model.proofs.OnceLaws.{is_in-filter}
use Rattle.clk_model.proofs.SiblingLaws.{front_by, fixed_rate}
use Rattle.clk_model.proofs.StateLaws.{row_of-set_same, row_of-set_other, filter_none, registered_lt}
use Rattle.clk_tree.specs.declared.group.Group.{Group}
use Rattle.clk_tree.specs.declared.group.Group.TheVariants.{Roots, Orphans, ChildrenOf}
use Rattle.clk_tree.specs.Groups.{is_member, members, group_of, IsGroup, end_of, AreListed}
use Rattle.clk_tree.specs.Rings.{Leads}
use Rattle.clk_tree.specs.TreeState.{IsTree, attached}
use Rattle.clk_tree.proofs.Along.{AreBelow}
use Rattle.clk_tree.proofs.RingLaws.{same_or_two}

-- ---- who is in a group

-- the clocks in the order are clocks of the description
pub order_below : (defs : Description) (clocks : List ClockRow) (order rates : List ℕ) → IsTree defs clocks order rates → AreBelow (length defs) order
order_below defs clocks order rates tree x m =
    let lies : x < length clocks = registered_lt clocks x (sym (tree.order_lists.listed x) ∙ m) in let rows = tree.rows in omega arith

pub members_below : (defs : Description) (clocks : List ClockRow) (order rates : List ℕ) (group : Group) → IsTree defs clocks order rates
    → AreBelow (length defs) (members defs clocks order group)
members_below defs clocks order rates group tree x m = order_below defs clocks order rates tree x (is_in-filter (is_member defs clocks group) x order m)

-- what is at least as great as a number isn't among those below it
pub end_out : (n end : ℕ) (xs : List ℕ) → AreBelow n xs → n ≤ end → is_in end xs ≡ false
end_out n end xs below le = false_from_ne_true (is_in end xs) (λ m. let less : end < n = below end m in absurd (omega arith))

-- what is no clock of the description has no children
pub none_beyond : (defs : Description) (clocks : List ClockRow) (order rates : List ℕ) (p : ℕ) → IsTree defs clocks order rates → length defs ≤ p → children order clocks p ≡ []
none_beyond defs clocks order rates p tree beyond =
    filter_none (λ c. is_at p (link_in clocks c)) order (λ c m. false_from_ne_true (is_at p (link_in clocks c)) (λ at.
    let lies : p < length clocks = registered_lt clocks p (tree.links c p (linked (link_in clocks c) at)) in let rows = tree.rows in absurd (omega arith))) where
      linked : (o : Option ℕ) → is_at p o ≡ true → o ≡ Some p
      linked None at = absurd cc
      linked (Some q) at = ap (λ (x : ℕ). Some x) (same_from_test q p at)

-- ---- ends

pub end_beyond : (n : ℕ) (group : Group) → n ≤ end_of n group
end_beyond n Roots = omega arith
end_beyond n Orphans = omega arith
end_beyond n (ChildrenOf p) = omega arith

pub end_within : (n size : ℕ) (group : Group) → IsGroup n group → size ≡ n + n + 2 → end_of n group < size
end_within n size Roots is long = omega arith
end_within n size Orphans is long = omega arith
end_within n size (ChildrenOf p) is long = let less : p.0 < n = is in omega arith

same_test : (a b : ℕ) → a ≡ b → nat_eq a b ≡ true
same_test a b same = true_from_ne_false (nat_eq a b) (λ other. test_other a b other same)

two_test : (a b : ℕ) → a ≢ b → nat_eq a b ≡ false
two_test a b two = false_from_ne_true (nat_eq a b) (λ same. two (same_from_test a b same))

-- the group of a fixed clock or another, with this link, and whether the clock is in a group
abbrev group_by : Bool → Option ClockId → Group
group_by t (Some p) = ChildrenOf p
group_by t None = cond t Roots Orphans

abbrev is_by : Bool → Option ℕ → Group → Bool
is_by t link Roots = t
is_by t link Orphans = not t && is_none link
is_by t link (ChildrenOf p) = is_at p.0 link

in_group : (n : ℕ) (t : Bool) (parent : Option ClockId) (group : Group) → (t ≡ true → parent ≡ None) → IsGroup n group → IfSome parent (λ p. p.0 < n)
    → is_by t (option_map (λ p. p.0) parent) group ≡ nat_eq (end_of n group) (end_of n (group_by t parent))
in_group n true None Roots free is within = sym (same_test (n + n) (n + n) refl)
in_group n false None Roots free is within = sym (two_test (n + n) (n + n + 1) (λ same. omega arith))
in_group n true (Some q) Roots free is within = let none : Some q ≡ None = free refl in absurd cc
in_group n false (Some q) Roots free is within = sym (two_test (n + n) (n + q.0) (λ same. let less : q.0 < n = within in omega arith))
in_group n true None Orphans free is within = sym (two_test (n + n + 1) (n + n) (λ same. omega arith))
in_group n false None Orphans free is within = sym (same_test (n + n + 1) (n + n + 1) refl)
in_group n true (Some q) Orphans free is within = let none : Some q ≡ None = free refl in absurd cc
in_group n false (Some q) Orphans free is within = sym (two_test (n + n + 1) (n + q.0) (λ same. let less : q.0 < n = within in omega arith))
in_group n true None (ChildrenOf p) free is within = sym (two_test (n + p.0) (n + n) (λ same. let less : p.0 < n = is in omega arith))
in_group n false None (ChildrenOf p) free is within = sym (two_test (n + p.0) (n + n + 1) (λ same. let less : p.0 < n = is in omega arith))
in_group n true (Some q) (ChildrenOf p) free is within = let none : Some q ≡ None = free refl in absurd cc
in_group n false (Some q) (ChildrenOf p) free is within =
    elim (same_or_two q.0 p.0) [
      | inl same ↦ same_test q.0 p.0 same ∙ sym (same_test (n + p.0) (n + q.0) (omega arith))
      | inr two ↦ two_test q.0 p.0 two ∙ sym (two_test (n + p.0) (n + q.0) (λ same. two (omega arith)))
    ]

-- a clock that is attached to a parent, or to none, is in the group with this end and in no other
in_its_group : (defs : Description) (clocks : List ClockRow) (c : ℕ) (parent : Option ClockId) (group : Group)
    → link_in clocks c ≡ option_map (λ p. p.0) parent → (is_fixed (kind_of defs c) ≡ true → parent ≡ None)
    → IsGroup (length defs) group → IfSome parent (λ p. p.0 < length defs)
    → is_member defs clocks group c ≡ nat_eq (end_of (length defs) group) (end_of (length defs) (group_of defs c parent))
in_its_group defs clocks c parent group link free is within =
    by_link group ∙ in_group (length defs) (is_fixed (kind_of defs c)) parent group free is within ∙ ap (λ (g : Group). nat_eq (end_of (length defs) group) (end_of (length defs) g)) (same_group parent) where
      by_link : (g : Group) → is_member defs clocks g c ≡ is_by (is_fixed (kind_of defs c)) (option_map (λ p. p.0) parent) g
      by_link Roots = refl
      by_link Orphans = ap (λ (o : Option ℕ). not (is_fixed (kind_of defs c)) && is_none o) link
      by_link (ChildrenOf p) = ap (λ (o : Option ℕ). is_at p.0 o) link

      same_group : (o : Option ClockId) → group_by (is_fixed (kind_of defs c)) o ≡ group_of defs c o
      same_group None = refl
      same_group (Some p) = refl

-- where links stay, groups do
member_same : (defs : Description) (old new : List ClockRow) (group : Group) (d : ℕ) → link_in new d ≡ link_in old d → is_member defs new group d ≡ is_member defs old group d
member_same defs old new Roots d same = refl
member_same defs old new Orphans d same = ap (λ (o : Option ℕ). not (is_fixed (kind_of defs d)) && is_none o) same
member_same defs old new (ChildrenOf p) d same = ap (λ (o : Option ℕ). is_at p.0 o) same

pub members_same : (defs : Description) (old new : List ClockRow) (order : List ℕ) (group : Group) → ((d : ℕ) → link_in new d ≡ link_in old d)
    → members defs new order group ≡ members defs old order group
members_same defs old new [] group same = refl
members_same defs old new (x ∷ xs) group same =
    ap (λ (t : Bool). cond t (x ∷ members defs new xs group) (members defs new xs group)) (member_same defs old new group x (same x))
    ∙ ap (λ (ys : List ℕ). cond (is_member defs old group x) (x ∷ ys) ys) (members_same defs old new xs group same)

-- ---- rings

-- a number is moved behind another: in front of what stood there, and out of where it stood
pub record Moves (old new : List ℕ) (end c : ℕ) : Type 0 where
  pub size : length new ≡ length old
  pub front : (xs : List ℕ) → is_in end xs ≡ false → Leads old end end xs → Leads new end end (to_front c xs)
  pub others : (e : ℕ) (xs : List ℕ) → e ≢ end → e ≢ c → is_in end xs ≡ false → Leads old e e xs → Leads new e e (without (c ∷ []) xs)
  pub stays : (k : ℕ) → k ≢ end → k ≢ c → slice_index old k ≡ k → slice_index new k ≡ k

-- a parent is a clock of the description
parent_within : (defs : Description) (clocks : List ClockRow) (order rates : List ℕ) (parent : Option ClockId) → IsTree defs clocks order rates
    → IfSome parent (λ q. registered clocks q.0 ≡ true) → IfSome parent (λ q. q.0 < length defs)
parent_within defs clocks order rates None tree there = tt
parent_within defs clocks order rates (Some q) tree there = let lies : q.0 < length clocks = registered_lt clocks q.0 there in let rows = tree.rows in omega arith

-- and a fixed clock has none
no_parent : (words : ℕ) (defs : Description) (c : ℕ) (parent : Option ClockId) → IsValid words defs → c < length defs
    → IfSome parent (λ q. is_in q.0 (parents_of defs c) ≡ true) → is_fixed (kind_of defs c) ≡ true → parent ≡ None
no_parent words defs c None valid place can fixed = refl
no_parent words defs c (Some q) valid place can fixed =
    let kind = fixed_rate (kind_of defs c) fixed in
    let none : parents_of defs c ≡ [] = fixed-parents words defs valid c kind.0 place kind.1 in
    let m : is_in q.0 [] ≡ true = ap (is_in q.0) (sym none) ∙ can in absurd cc

-- the rings of a tree in which a clock was attached
pub listed_attached : (words : ℕ) (defs : Description) (clocks : List ClockRow) (order rates turns siblings turns' siblings' : List ℕ) (c : ℕ) (parent : Option ClockId)
    → IsValid words defs → IsTree defs clocks order rates → AreListed defs clocks order turns siblings → c < length defs
    → IfSome parent (λ q. registered clocks q.0 ≡ true) → IfSome parent (λ q. is_in q.0 (parents_of defs c) ≡ true)
    → Moves siblings siblings' (end_of (length defs) (group_of defs c parent)) c → Moves turns turns' (length defs) c
    → AreListed defs (attached clocks c parent) (to_front c order) turns' siblings'
listed_attached words defs clocks order rates turns siblings turns' siblings' c parent valid tree listed place there can moved turned = record {
  turn_size = turned.size ∙ listed.turn_size;
  size = moved.size ∙ listed.size;
  turn = turned.front order (end_out (length defs) (length defs) order (order_below defs clocks order rates tree) (omega arith)) listed.turn;
  each = λ group is. by_end group is (same_or_two (end_of (length defs) group) (end_of (length defs) own));
} where
  own : Group
  own = group_of defs c parent

  new : List ClockRow
  new = attached clocks c parent

  within : c < length clocks
  within = let rows = tree.rows in omega arith

  joins : (group : Group) (t : Bool) → IsGroup (length defs) group → nat_eq (end_of (length defs) group) (end_of (length defs) own) ≡ t
      → members defs new (to_front c order) group ≡ front_if t c (members defs clocks order group)
  joins group t is e =
      front_by (is_member defs clocks group) (is_member defs new group) c order t
      (λ d other. member_same defs clocks new group d (ap (λ (r : ClockRow). option_map (λ p. p.0) r.link) (row_of-set_other clocks c _ d other)))
      (in_its_group defs new c parent group (ap (λ (r : ClockRow). option_map (λ p. p.0) r.link) (row_of-set_same clocks c _ within))
      (no_parent words defs c parent valid place can) is (parent_within defs clocks order rates parent tree there) ∙ e)

  out : (group other : Group) → is_in (end_of (length defs) other) (members defs clocks order group) ≡ false
  out group other = end_out (length defs) (end_of (length defs) other) (members defs clocks order group) (members_below defs clocks order rates group tree) (end_beyond (length defs) other)

  by_end : (group : Group) → IsGroup (length defs) group → (end_of (length defs) group ≡ end_of (length defs) own) ⊎ (end_of (length defs) group ≢ end_of (length defs) own)
      → Leads siblings' (end_of (length defs) group) (end_of (length defs) group) (members defs new (to_front c order) group)
  by_end group is (inl same) =
      subst (λ (xs : List ℕ). Leads siblings' (end_of (length defs) group) (end_of (length defs) group) xs) (sym (joins group true is (same_test _ _ same)))
      (subst (λ (e : ℕ). Leads siblings' e e (to_front c (members defs clocks order group))) (sym same)
      (moved.front (members defs clocks order group) (out group own)
      (subst (λ (e : ℕ). Leads siblings e e (members defs clocks order group)) same (listed.each group is))))
  by_end group is (inr two) =
      subst (λ (xs : List ℕ). Leads siblings' (end_of (length defs) group) (end_of (length defs) group) xs) (sym (joins group false is (two_test _ _ two)))
      (moved.others (end_of (length defs) group) (members defs clocks order group) two
      (λ same. let far = end_beyond (length defs) group in omega arith) (out group own) (listed.each group is))

-- another last request leaves them
pub listed_requested : (defs : Description) (old new : List ClockRow) (order turns siblings : List ℕ) → ((d : ℕ) → link_in new d ≡ link_in old d)
    → AreListed defs old order turns siblings → AreListed defs new order turns siblings
listed_requested defs old new order turns siblings same listed = record {
  turn_size = listed.turn_size;
  size = listed.size;
  turn = listed.turn;
  each = λ group is. subst (λ (xs : List ℕ). Leads siblings (end_of (length defs) group) (end_of (length defs) group) xs) (sym (members_same defs old new order group same)) (listed.each group is);
}
