-- Laws on siblings: children, roots and orphans against links, and what attaching a clock leaves of their order.
use Rattle.std.proofs.Common.{◌≡◌, ℕ, ◌<◌, ◌≤◌, Bool, true, false, not, ◌&&◌, ◌||◌, nat_eq, cond, List, [], ◌∷◌, length, Option, Some, None, refl, sym, ap, ◌∙◌, ◌⊎◌, inl, inr}
use Rattle.std.specs.Prelude.{filter, is_none}
use Rattle.std.proofs.lemmas.Bool.{cases_lt}
use Rattle.std.proofs.lemmas.List.{get_or_past}
use Rattle.clk_base.specs.declared.clock.ClockDef.{ClockDef}
use Rattle.clk_base.specs.declared.clock.Kind.{Kind}
use Rattle.clk_base.specs.declared.clock.Kind.TheVariants.{FixedRate, Factor, Gate, Mux, Divider, Pll}
use Rattle.clk_base.specs.Description.{Description, nobody, kind_of, parents_of}
use Rattle.clk_base.specs.Valid.{IsValid}
use Rattle.clk_base.proofs.Valid.{fixed-parents}
use Rattle.clk_model.specs.declared.row.ClockRow.{ClockRow}
use Rattle.clk_model.specs.Lists.{is_in, is_at, without, to_front}
use Rattle.clk_model.specs.Kinds.{is_fixed}
use Rattle.clk_model.specs.State.{State, registered, link_in}
use Rattle.clk_model.specs.Tree.{children, roots, is_orphan, orphans}
use Rattle.clk_model.specs.Chain.{linked}
use Rattle.clk_model.specs.Begin.{registered_rows, register}
use Rattle.clk_model.specs.Step.{relink}
use Rattle.clk_model.specs.Laws.Siblings.{IsAttached, front_if, IsUnattached, RegistersUnattached, HasOnePlace, ChildrenTellLinks, RegistersAttach, RelinksAttach, RegistersAreListed, RelinksAreListed}
use Rattle.clk_model.proofs.Members.{is_in_head, is_in_tail, is_in_cases, both_left, both_right, same_from_test}
use Rattle.clk_model.proofs.StateLaws.{row_of-set_same, row_of-set_other, registered_lt}
use Rattle.clk_model.proofs.OnceLaws.{filter_passes, filter_keeps}
use Rattle.clk_model.proofs.WalkLaws.{is_at_same, at_same, turned_off}
use Rattle.clk_model.proofs.WholePathLaws.{given_link, given_others, same_or_not, linked_same, linked_other}
use Rattle.clk_model.specs.Wired.{LinksArePossible, IsOrder, ListsRegistered}
use Rattle.clk_model.proofs.OnceLaws.{once_filter, once_cons, is_in-filter}
use Rattle.std.proofs.Math.Bool.{and-true}

-- ---- children and links

-- a child is registered and linked
child_link : (order : List ℕ) (clocks : List ClockRow) (c p : ℕ) → is_in c (children order clocks p) ≡ true → link_in clocks c ≡ Some p
child_link order clocks c p m = is_at_same p (link_in clocks c) (filter_passes (λ d. is_at p (link_in clocks d)) c order m)

-- what a filter of the order has is registered
listed_in : (order : List ℕ) (clocks : List ClockRow) (test : ℕ → Bool) (c : ℕ) → ListsRegistered order clocks → is_in c (filter test order) ≡ true → registered clocks c ≡ true
listed_in order clocks test c lists m = sym (lists.listed c) ∙ is_in-filter test c order m

-- and a registered clock that passes is in it
in_listed : (order : List ℕ) (clocks : List ClockRow) (test : ℕ → Bool) (c : ℕ) → ListsRegistered order clocks → registered clocks c ≡ true → test c ≡ true → is_in c (filter test order) ≡ true
in_listed order clocks test c lists here pass = filter_keeps test c order pass (lists.listed c ∙ here)

-- what can't be true is false
pub refuted : (t : Bool) → (t ≡ true → ⊥) → t ≡ false
refuted true never = absurd (never refl)
refuted false never = refl

pub fixed_rate : (kind : Kind) → is_fixed kind ≡ true → (rate : ℕ) × (kind ≡ FixedRate rate)
fixed_rate (FixedRate rate) fixed = (rate, refl)
fixed_rate (Factor mult div) fixed = absurd cc
fixed_rate (Gate word bit set_to_disable) fixed = absurd cc
fixed_rate (Mux word shift width read_only) fixed = absurd cc
fixed_rate (Divider word shift width one_based power_of_two) fixed = absurd cc
fixed_rate (Pll word shift width power_word power_bit least most m) fixed = absurd cc

-- a fixed clock of a valid description has no link
pub fixed_unlinked : (words : ℕ) (defs : Description) (clocks : List ClockRow) (c p : ℕ) → IsValid words defs → LinksArePossible defs clocks
    → is_fixed (kind_of defs c) ≡ true → link_in clocks c ≡ Some p → ⊥
fixed_unlinked words defs clocks c p valid links fixed at =
    let none : parents_of defs c ≡ [] = by_place (cases_lt c (length defs)) in
    let m : is_in p [] ≡ true = ap (is_in p) (sym none) ∙ links c p at in cc where
      by_place : (c < length defs) ⊎ (length defs ≤ c) → parents_of defs c ≡ []
      by_place (inl inside) = let kind = fixed_rate (kind_of defs c) fixed in fixed-parents words defs valid c kind.0 inside kind.1
      by_place (inr outside) = ap (λ (d : ClockDef). d.parents) (get_or_past defs c nobody outside)

-- a root is no orphan
root_no_orphan : (defs : Description) (order : List ℕ) (clocks : List ClockRow) (c : ℕ) → is_in c (roots defs order) ≡ true → is_in c (orphans defs order clocks) ≡ true → ⊥
root_no_orphan defs order clocks c root orphan =
    let fixed : is_fixed (kind_of defs c) ≡ true = filter_passes (λ d. is_fixed (kind_of defs d)) c order root in
    let other : is_fixed (kind_of defs c) ≡ false = turned_off (is_fixed (kind_of defs c)) (both_left (not (is_fixed (kind_of defs c))) (is_none (link_in clocks c)) (filter_passes (is_orphan defs clocks) c order orphan)) in
    cc

none_linked : (o : Option ℕ) (p : ℕ) → is_none o ≡ true → o ≡ Some p → ⊥
none_linked None p none at = cc
none_linked (Some q) p none at = cc

-- an orphan is no child
orphan_no_child : (defs : Description) (order : List ℕ) (clocks : List ClockRow) (c p : ℕ) → is_in c (orphans defs order clocks) ≡ true → is_in c (children order clocks p) ≡ true → ⊥
orphan_no_child defs order clocks c p orphan child =
    none_linked (link_in clocks c) p (both_right (not (is_fixed (kind_of defs c))) (is_none (link_in clocks c)) (filter_passes (is_orphan defs clocks) c order orphan))
    (child_link order clocks c p child)

-- each registered clock is a root, an orphan or a child
some_place : (defs : Description) (order : List ℕ) (clocks : List ClockRow) (c : ℕ) (t : Bool) (o : Option ℕ) → ListsRegistered order clocks → registered clocks c ≡ true
    → is_fixed (kind_of defs c) ≡ t → link_in clocks c ≡ o
    → (is_in c (roots defs order) ≡ true) ⊎ ((is_in c (orphans defs order clocks) ≡ true) ⊎ ((p : ℕ) × (is_in c (children order clocks p) ≡ true)))
some_place defs order clocks c true o lists here fixed at = inl (in_listed order clocks (λ d. is_fixed (kind_of defs d)) c lists here fixed)
some_place defs order clocks c false None lists here fixed at =
    inr (inl (in_listed order clocks (is_orphan defs clocks) c lists here (rw (fixed, at) refl)))
some_place defs order clocks c false (Some p) lists here fixed at =
    inr (inr (p, in_listed order clocks (λ d. is_at p (link_in clocks d)) c lists here (at_same p (link_in clocks c) at)))

one_place : (words : ℕ) (defs : Description) (order : List ℕ) (clocks : List ClockRow) → IsValid words defs → LinksArePossible defs clocks → ListsRegistered order clocks
    → (c : ℕ) → registered clocks c ≡ true → HasOnePlace defs order clocks c
one_place words defs order clocks valid links lists c here = record {
  some = some_place defs order clocks c (is_fixed (kind_of defs c)) (link_in clocks c) lists here refl refl;
  no_rooted_orphan = λ root. refuted (is_in c (orphans defs order clocks)) (root_no_orphan defs order clocks c root);
  no_rooted_child = λ root p. refuted (is_in c (children order clocks p)) (λ child.
      fixed_unlinked words defs clocks c p valid links (filter_passes (λ d. is_fixed (kind_of defs d)) c order root) (child_link order clocks c p child));
  no_orphaned_child = λ orphan p. refuted (is_in c (children order clocks p)) (orphan_no_child defs order clocks c p orphan);
  one_parent = λ p q first second. let e = child_link order clocks c p first in let f = child_link order clocks c q second in cc;
}

-- children, roots and orphans tell the tree of the links
pub children_tell_links : ChildrenTellLinks
children_tell_links words defs order clocks valid links lists = record {
  linked = λ c p. (
    (λ m. (listed_in order clocks (λ d. is_at p (link_in clocks d)) c lists m, child_link order clocks c p m)),
    (λ is. in_listed order clocks (λ d. is_at p (link_in clocks d)) c lists is.0 (at_same p (link_in clocks c) is.1)),
  );
  once = λ p. once_filter (λ d. is_at p (link_in clocks d)) order lists.once;
  places = one_place words defs order clocks valid links lists;
  roots_registered = λ c. listed_in order clocks (λ d. is_fixed (kind_of defs d)) c lists;
  roots_once = once_filter (λ d. is_fixed (kind_of defs d)) order lists.once;
  orphans_registered = λ c. listed_in order clocks (is_orphan defs clocks) c lists;
  orphans_once = once_filter (is_orphan defs clocks) order lists.once;
}

-- ---- to the front

-- whether a number stays in a list without another
abbrev pub stays : ℕ → ℕ → Bool
stays c x = not (is_in x (c ∷ []))

stays_other : (c x : ℕ) → stays c x ≡ true → c ≡ x → ⊥
stays_other c x stay same =
    let there : is_in x (c ∷ []) ≡ true = ap (λ (y : ℕ). is_in y (c ∷ [])) (sym same) ∙ is_in_head c [] in
    let out : is_in x (c ∷ []) ≡ false = turned_off (is_in x (c ∷ [])) stay in cc

filter_here : (old new : ℕ → Bool) (c x : ℕ) (xs : List ℕ) (k u v : Bool) → stays c x ≡ k → new x ≡ v → (k ≡ true → v ≡ u)
    → filter new (without (c ∷ []) xs) ≡ without (c ∷ []) (filter old xs)
    → filter new (cond k (x ∷ without (c ∷ []) xs) (without (c ∷ []) xs)) ≡ without (c ∷ []) (cond u (x ∷ filter old xs) (filter old xs))
filter_here old new c x xs false false v e f same rest = rest
filter_here old new c x xs false true v e f same rest =
    rest ∙ sym (ap (λ (t : Bool). cond t (x ∷ without (c ∷ []) (filter old xs)) (without (c ∷ []) (filter old xs))) e)
filter_here old new c x xs true true v e f same rest =
    ap (λ (t : Bool). cond t (x ∷ filter new (without (c ∷ []) xs)) (filter new (without (c ∷ []) xs))) (f ∙ same refl)
    ∙ ap (λ (ys : List ℕ). x ∷ ys) rest
    ∙ sym (ap (λ (t : Bool). cond t (x ∷ without (c ∷ []) (filter old xs)) (without (c ∷ []) (filter old xs))) e)
filter_here old new c x xs true false v e f same rest =
    ap (λ (t : Bool). cond t (x ∷ filter new (without (c ∷ []) xs)) (filter new (without (c ∷ []) xs))) (f ∙ same refl) ∙ rest

-- two tests that differ at one number alone leave the same of a list without it
filter_without : (old new : ℕ → Bool) (c : ℕ) (xs : List ℕ) → ((d : ℕ) → (c ≡ d → ⊥) → new d ≡ old d)
    → filter new (without (c ∷ []) xs) ≡ without (c ∷ []) (filter old xs)
filter_without old new c [] same = refl
filter_without old new c (x ∷ xs) same =
    filter_here old new c x xs (stays c x) (old x) (new x) refl refl (λ stay. same x (stays_other c x stay)) (filter_without old new c xs same)

-- a number that is taken to the front of a list is the first of those that pass, if it passes
front_passes : (old new : ℕ → Bool) (c : ℕ) (xs : List ℕ) → ((d : ℕ) → (c ≡ d → ⊥) → new d ≡ old d) → new c ≡ true
    → filter new (to_front c xs) ≡ c ∷ without (c ∷ []) (filter old xs)
front_passes old new c xs same pass =
    ap (λ (t : Bool). cond t (c ∷ filter new (without (c ∷ []) xs)) (filter new (without (c ∷ []) xs))) pass
    ∙ ap (λ (ys : List ℕ). c ∷ ys) (filter_without old new c xs same)

front_fails : (old new : ℕ → Bool) (c : ℕ) (xs : List ℕ) → ((d : ℕ) → (c ≡ d → ⊥) → new d ≡ old d) → new c ≡ false
    → filter new (to_front c xs) ≡ without (c ∷ []) (filter old xs)
front_fails old new c xs same fail =
    ap (λ (t : Bool). cond t (c ∷ filter new (without (c ∷ []) xs)) (filter new (without (c ∷ []) xs))) fail ∙ filter_without old new c xs same

-- ---- attaching

not_at : (o : Option ℕ) (p q : ℕ) → o ≡ Some p → (q ≡ p → ⊥) → is_at q o ≡ false
not_at o p q at other = refuted (is_at q o) (λ there. let same : o ≡ Some q = is_at_same q o there in other (let e : q ≡ p = cc in e))

-- taking a number to the front of a list, by whether it passes
pub front_by : (old new : ℕ → Bool) (c : ℕ) (xs : List ℕ) (t : Bool) → ((d : ℕ) → (c ≡ d → ⊥) → new d ≡ old d) → new c ≡ t
    → filter new (to_front c xs) ≡ front_if t c (filter old xs)
front_by old new c xs true same pass = front_passes old new c xs same pass
front_by old new c xs false same fail = front_fails old new c xs same fail

-- the roots where a clock goes to the front of the order
roots_front : (defs : Description) (order : List ℕ) (c : ℕ) (t : Bool) → is_fixed (kind_of defs c) ≡ t → roots defs (to_front c order) ≡ front_if t c (roots defs order)
roots_front defs order c t fixed = front_by (λ d. is_fixed (kind_of defs d)) (λ d. is_fixed (kind_of defs d)) c order t (λ d other. refl) fixed

-- where a clock gets a link and goes to the front of the order, it is attached
attached : (s t : State) (c p : ℕ) → t.defs ≡ s.defs → t.order ≡ to_front c s.order → link_in t.clocks c ≡ Some p
    → ((d : ℕ) → (c ≡ d → ⊥) → link_in t.clocks d ≡ link_in s.clocks d) → IsAttached c p s t
attached s t c p defs order at same = record {
  first = ap (λ (xs : List ℕ). children xs t.clocks p) order
      ∙ front_passes (λ d. is_at p (link_in s.clocks d)) (λ d. is_at p (link_in t.clocks d)) c s.order (λ d other. ap (is_at p) (same d other)) (at_same p (link_in t.clocks c) at);
  others = λ q other. ap (λ (xs : List ℕ). children xs t.clocks q) order
      ∙ front_fails (λ d. is_at q (link_in s.clocks d)) (λ d. is_at q (link_in t.clocks d)) c s.order (λ d else_. ap (is_at q) (same d else_)) (not_at (link_in t.clocks c) p q at other);
  orphans_left = rw (defs, order)
      (front_fails (is_orphan s.defs s.clocks) (is_orphan s.defs t.clocks) c s.order
      (λ d other. ap (λ (o : Option ℕ). not (is_fixed (kind_of s.defs d)) && is_none o) (same d other))
      (refuted (is_orphan s.defs t.clocks c) (λ orphan. none_linked (link_in t.clocks c) p (both_right (not (is_fixed (kind_of s.defs c))) (is_none (link_in t.clocks c)) orphan) at)));
  roots_left = λ other. rw (defs, order) (roots_front s.defs s.order c false other);
}

-- where it gets none, it is unattached
unattached : (s t : State) (c : ℕ) → t.defs ≡ s.defs → t.order ≡ to_front c s.order → link_in t.clocks c ≡ None
    → ((d : ℕ) → (c ≡ d → ⊥) → link_in t.clocks d ≡ link_in s.clocks d) → IsUnattached c s t
unattached s t c defs order at same = record {
  children_left = λ q. ap (λ (xs : List ℕ). children xs t.clocks q) order
      ∙ front_fails (λ d. is_at q (link_in s.clocks d)) (λ d. is_at q (link_in t.clocks d)) c s.order (λ d other. ap (is_at q) (same d other)) (ap (is_at q) at);
  roots_after = rw (defs, order) (roots_front s.defs s.order c (is_fixed (kind_of s.defs c)) refl);
  orphans_after = rw (defs, order)
      (front_by (is_orphan s.defs s.clocks) (is_orphan s.defs t.clocks) c s.order (not (is_fixed (kind_of s.defs c)))
      (λ d other. ap (λ (o : Option ℕ). not (is_fixed (kind_of s.defs d)) && is_none o) (same d other))
      (ap (λ (o : Option ℕ). not (is_fixed (kind_of s.defs c)) && is_none o) at ∙ and-true (not (is_fixed (kind_of s.defs c)))));
}

-- a registration that gives a link attaches
pub registers_attach : RegistersAttach
unfolding register
registers_attach s c p within given = attached s (register s c) c p refl refl (given_link s c within ∙ given) (given_others s c)

-- one that gives none doesn't
pub registers_unattached : RegistersUnattached
unfolding register
registers_unattached s c within given = unattached s (register s c) c refl refl (given_link s c within ∙ given) (given_others s c)

-- and a new link attaches
pub relinks_attach : RelinksAttach
relinks_attach s k c p within = attached s (relink s k c p) c p refl refl (linked_same s.clocks c p within) (linked_other s.clocks c p)

-- ---- the order

-- a number stands in a list without another as in the list
pub stays_in : (c d : ℕ) (xs : List ℕ) → (c ≡ d → ⊥) → is_in d (without (c ∷ []) xs) ≡ is_in d xs
stays_in c d xs other = by_test (is_in d xs) refl where
  by_test : (t : Bool) → is_in d xs ≡ t → is_in d (without (c ∷ []) xs) ≡ t
  by_test true m = filter_keeps (stays c) d xs (ap not (refuted (is_in d (c ∷ [])) one)) m where
    one : is_in d (c ∷ []) ≡ true → ⊥
    one m' = elim (is_in_cases d c [] m') [
      | inl same ↦ other same
      | inr none ↦ absurd cc
    ]
  by_test false m = refuted (is_in d (without (c ∷ []) xs)) (λ m'. let there : is_in d xs ≡ true = is_in-filter (stays c) d xs m' in cc)

-- what is taken out of a list isn't in it
pub taken_out : (c : ℕ) (xs : List ℕ) → is_in c (without (c ∷ []) xs) ≡ true → ⊥
taken_out c xs m = stays_other c c (filter_passes (stays c) c xs m) refl

-- a clock that is registered and goes to the front of the order leaves it a list of the registered clocks
listed_front : (order : List ℕ) (old new : List ClockRow) (c : ℕ) → ListsRegistered order old → registered new c ≡ true
    → ((d : ℕ) → (c ≡ d → ⊥) → registered new d ≡ registered old d) → ListsRegistered (to_front c order) new
listed_front order old new c lists here same = record {
  once = once_cons c (without (c ∷ []) order) (taken_out c order) (once_filter (stays c) order lists.once);
  listed = λ d. by_clock d (same_or_not c d);
} where
  by_clock : (d : ℕ) → (c ≡ d) ⊎ (c ≡ d → ⊥) → is_in d (to_front c order) ≡ registered new d
  by_clock d (inl is) =
      ap (λ (x : ℕ). is_in d (x ∷ without (c ∷ []) order)) is ∙ is_in_head d (without (c ∷ []) order) ∙ sym here ∙ ap (registered new) is
  by_clock d (inr other) =
      ap (λ (t : Bool). t || is_in d (without (c ∷ []) order)) (refuted (nat_eq c d) (λ e. other (same_from_test c d e)))
      ∙ stays_in c d order other ∙ lists.listed d ∙ sym (same d other)

-- a clock that goes to the front of the order, whatever its link, leaves each linked clock in it, and none twice
pub order_front : (order : List ℕ) (old new : List ClockRow) (c : ℕ) → IsOrder order old → ((d : ℕ) → (c ≡ d → ⊥) → link_in new d ≡ link_in old d)
    → IsOrder (to_front c order) new
order_front order old new c is same = record {
  once = once_cons c (without (c ∷ []) order) (taken_out c order) (once_filter (stays c) order is.once);
  linked = λ d p at. by_clock d p at (same_or_not c d);
} where
  by_clock : (d p : ℕ) → link_in new d ≡ Some p → (c ≡ d) ⊎ (c ≡ d → ⊥) → is_in d (to_front c order) ≡ true
  by_clock d p at (inl here) = ap (λ (x : ℕ). is_in d (x ∷ without (c ∷ []) order)) here ∙ is_in_head d (without (c ∷ []) order)
  by_clock d p at (inr other) = is_in_tail d c (without (c ∷ []) order) (stays_in c d order other ∙ is.linked d p (sym (same d other) ∙ at))

pub registers_are_listed : RegistersAreListed
unfolding register
registers_are_listed s c within lists =
    listed_front s.order s.clocks (registered_rows s.defs s.regs s.clocks c) c lists
    (ap (λ (r : ClockRow). r.registered) (row_of-set_same s.clocks c _ within))
    (λ d other. ap (λ (r : ClockRow). r.registered) (row_of-set_other s.clocks c _ d other))

pub relinks_are_listed : RelinksAreListed
relinks_are_listed s k c p here lists =
    listed_front s.order s.clocks (linked s.clocks c p) c lists
    (ap (λ (r : ClockRow). r.registered) (row_of-set_same s.clocks c _ (registered_lt s.clocks c here)) ∙ here)
    (λ d other. ap (λ (r : ClockRow). r.registered) (row_of-set_other s.clocks c _ d other))
