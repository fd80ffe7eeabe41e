-- The nodes above a node, one step up.
use Rattle.std.proofs.Common.{◌≡◌, ℕ, zero, suc, ◌+◌, ◌<◌, Bool, true, false, not, List, [], ◌∷◌, Option, Some, None, refl, ap, sym, ◌∙◌, arith, add-one, cond, length, reverse, ◌++◌}
use Rattle.std.specs.Prelude.{slice_get, nat_lt, ◌||◌, ◌==◌}
use Rattle.std.specs.List.{list_any, flat_map}
use Rattle.std.proofs.lemmas.List.{reverse-append, flat_map_more, append_assoc}
use Rattle.std.specs.Option.{option_map_or, option_and_then}
use Rattle.std.proofs.lemmas.Bool.Decides.{nat_tests}
use Rattle.dts_tree.specs.Tree.{SeenNode}
use Rattle.dts_bindings.specs.Properties.{is_okay}
use Rattle.dts_clocks.specs.Above.{parent_of, line_within, line_of, is_off, is_passed, path_part, or_slash, path_of}

-- a parent stands before
before_of : (k : ℕ) (parent : Option ℕ) (p : ℕ) → option_and_then (λ q. cond (nat_lt q k) (Some q) None) parent ≡ Some p → p < k
before_of k None p h = absurd (grind arith)
before_of k (Some q) p h = at (nat_lt q k) refl h where
  at : (b : Bool) → nat_lt q k ≡ b → cond b (Some q) None ≡ Some p → p < k
  at true e h = grind (arith, nat_tests)
  at false e h = absurd (grind arith)

before_at : (k : ℕ) (node : Option SeenNode) (p : ℕ) → option_and_then (λ n. option_and_then (λ q. cond (nat_lt q k) (Some q) None) n.parent) node ≡ Some p → p < k
before_at k None p h = absurd (grind arith)
before_at k (Some n) p h = before_of k n.parent p h

pub parent_of-before : (nodes : List SeenNode) (k p : ℕ) → parent_of nodes k ≡ Some p → p < k
unfolding parent_of
parent_of-before nodes k p h = before_at k (slice_get nodes k) p h

-- two ways up that agree at each earlier place
same_above : (k : ℕ) (one other : ℕ → List ℕ) (parent : Option ℕ) → ((p : ℕ) → parent ≡ Some p → p < k) → ((p : ℕ) → p < k → one p ≡ other p)
    → option_map_or one parent [] ≡ option_map_or other parent []
same_above k one other None before same = refl
same_above k one other (Some p) before same = same p (before p refl)

-- a place and one are enough
enough : (nodes : List SeenNode) (n m k : ℕ) → k < n → k < m → line_within nodes n k ≡ line_within nodes m k
unfolding line_within
enough nodes zero m k h g = absurd (omega arith)
enough nodes (suc n) zero k h g = absurd (omega arith)
enough nodes (suc n) (suc m) k h g =
    ap (λ rest. k ∷ rest) (same_above k (line_within nodes n) (line_within nodes m) (parent_of nodes k) (parent_of-before nodes k) (λ p lt. enough nodes n m p (omega arith) (omega arith)))

pub line_of-up : (nodes : List SeenNode) (k : ℕ) → line_of nodes k ≡ k ∷ option_map_or (line_of nodes) (parent_of nodes k) []
unfolding line_of line_within
line_of-up nodes k =
    rw add-one (ap (λ rest. k ∷ rest) (same_above k (line_within nodes k) (line_of nodes) (parent_of nodes k) (parent_of-before nodes k) (λ p lt. enough nodes k (p + 1) p lt (omega arith))))

passed_by : (off : ℕ → Bool) (line : ℕ → List ℕ) (k : ℕ) (parent : Option ℕ) → list_any off (k ∷ option_map_or line parent []) ≡ off k || option_map_or (λ p. list_any off (line p)) parent false
passed_by off line k None = refl
passed_by off line k (Some p) = refl

pub is_passed-up : (nodes : List SeenNode) (k : ℕ) → is_passed nodes k ≡ is_off nodes k || option_map_or (is_passed nodes) (parent_of nodes k) false
unfolding is_passed
is_passed-up nodes k = rw (line_of-up nodes k) (passed_by (is_off nodes) (line_of nodes) k (parent_of nodes k))

off_node : (nodes : List SeenNode) (k : ℕ) (node : SeenNode) (okay : Bool) → slice_get nodes k ≡ Some node → okay ≡ is_okay node → is_off nodes k ≡ not okay
unfolding is_off
off_node nodes k node okay at told = rw at (ap not (sym told))

-- a node whose own status isn't okay is passed over
pub passed_when_off : (nodes : List SeenNode) (k : ℕ) (node : SeenNode) (okay : Bool) → slice_get nodes k ≡ Some node → okay ≡ is_okay node → okay ≡ false → true ≡ is_passed nodes k
passed_when_off nodes k node okay at told bad =
    let here : is_off nodes k ≡ true = off_node nodes k node okay at told ∙ ap not bad in
    sym (is_passed-up nodes k ∙ ap (λ b. b || option_map_or (is_passed nodes) (parent_of nodes k) false) here)

-- a node whose own status is okay is passed over exactly where its parent is
pub passed_by_parent : (nodes : List SeenNode) (k : ℕ) (node : SeenNode) (okay : Bool) (parent : Option ℕ) → slice_get nodes k ≡ Some node → okay ≡ is_okay node → okay ≡ true → parent ≡ parent_of nodes k
    → option_map_or (is_passed nodes) parent false ≡ is_passed nodes k
passed_by_parent nodes k node okay parent at told good above =
    let here : is_off nodes k ≡ false = off_node nodes k node okay at told ∙ ap not good in
    ap (λ o. option_map_or (is_passed nodes) o false) above ∙ sym (is_passed-up nodes k ∙ ap (λ b. b || option_map_or (is_passed nodes) (parent_of nodes k) false) here)

-- the names from below the root to a node, each behind a slash
abbrev pub trail : List SeenNode → ℕ → List ℕ
trail nodes k = flat_map (path_part nodes) (reverse (line_of nodes k))

trail-line : (f : ℕ → List ℕ) (k : ℕ) (above : List ℕ) → flat_map f (reverse (k ∷ above)) ≡ flat_map f (reverse above) ++ f k
trail-line f k above = ap (flat_map f) (reverse-append (k ∷ []) above) ∙ sym (flat_map_more f [] (reverse above) k)

pub trail-up : (nodes : List SeenNode) (k p : ℕ) → parent_of nodes k ≡ Some p → trail nodes k ≡ trail nodes p ++ path_part nodes k
trail-up nodes k p above =
    ap (λ l. flat_map (path_part nodes) (reverse l)) (line_of-up nodes k ∙ ap (λ o. k ∷ option_map_or (line_of nodes) o []) above) ∙ trail-line (path_part nodes) k (line_of nodes p)

pub trail-root : (nodes : List SeenNode) (k : ℕ) → parent_of nodes k ≡ None → trail nodes k ≡ []
unfolding path_part
trail-root nodes k none =
    ap (λ l. flat_map (path_part nodes) (reverse l)) (line_of-up nodes k ∙ ap (λ o. k ∷ option_map_or (line_of nodes) o []) none) ∙ (trail-line (path_part nodes) k [] ∙ rw none refl)

path_part-node : (nodes : List SeenNode) (k p : ℕ) (node : SeenNode) → slice_get nodes k ≡ Some node → parent_of nodes k ≡ Some p → path_part nodes k ≡ 47 ∷ node.name
unfolding path_part
path_part-node nodes k p node at above = rw (above, at) refl

-- one node more in front of a path
pub path_more : (nodes : List SeenNode) (k p : ℕ) (node : SeenNode) (all name path longer : List ℕ) → slice_get nodes k ≡ Some node → Some p ≡ parent_of nodes k → name ≡ node.name → longer ≡ 47 ∷ name ++ path
    → all ≡ trail nodes k ++ path → all ≡ trail nodes p ++ longer
path_more nodes k p node all name path longer at above named made was =
    was ∙ (ap (λ t. t ++ path) (trail-up nodes k p (sym above)) ∙ (append_assoc (trail nodes p) (path_part nodes k) path
    ∙ ap (λ t. trail nodes p ++ t) (ap (λ t. t ++ path) (path_part-node nodes k p node at (sym above) ∙ ap (λ n. 47 ∷ n) (sym named)) ∙ sym made)))

pub path_whole : (nodes : List SeenNode) (k at : ℕ) (path : List ℕ) → None ≡ parent_of nodes k → trail nodes at ≡ trail nodes k ++ path → or_slash path ≡ path_of nodes at
unfolding path_of
path_whole nodes k at path none was = ap or_slash (sym (was ∙ ap (λ t. t ++ path) (trail-root nodes k (sym none))))

pub slash_for : (path slash : List ℕ) (b : Bool) → b ≡ (length path == 0) → b ≡ true → slash ≡ 47 ∷ [] → slash ≡ or_slash path
slash_for [] slash b is so made = made
slash_for (x ∷ xs) slash b is so made = absurd (grind arith)

pub path_for : (path : List ℕ) (b : Bool) → b ≡ (length path == 0) → b ≡ false → path ≡ or_slash path
path_for [] b is so = absurd (cc)
path_for (x ∷ xs) b is so = refl
