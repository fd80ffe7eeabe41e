-- Rows made into what a tree shows, one row more.
use Rattle.std.proofs.Common.{◌≡◌, ℕ, zero, suc, ◌+◌, ◌<◌, ◌≤◌, ◌==◌, true, false, cond, Option, Some, None, List, [], ◌∷◌, ◌++◌, length, map, filter, take, set, get_or, refl, sym, ap, ◌∙◌, arith}
use Rattle.std.specs.List.{filter_map}
use Rattle.std.specs.Option.{option_to_list, option_map}
use Rattle.std.proofs.lemmas.List.{take_more, map-append, append-nil}
use Rattle.std.proofs.lemmas.List.Elements.{filter_map-append, filter-append}
use Rattle.std.proofs.lemmas.Bool.Decides.{nat_tests}
use Rattle.dts_tree.specs.declared.rows.NodeRow.{NodeRow}
use Rattle.dts_tree.specs.declared.rows.PropertyRow.{PropertyRow}
use Rattle.dts_tree.specs.Tree.{SeenProperty, SeenNode, node_in, nodes_in, add_at}

pub filter_map-one : {X Y : Type 0} (f : X → Option Y) (x : X) (o : Option Y) → f x ≡ o → filter_map f (x ∷ []) ≡ option_to_list o
filter_map-one f x None e = rw e refl
filter_map-one f x (Some y) e = rw e refl

-- one row more
pub filter_map-more : {X Y : Type 0} (f : X → Option Y) (xs : List X) (i : ℕ) (d : X) → i < length xs → filter_map f (take (i + 1) xs) ≡ filter_map f (take i xs) ++ option_to_list (f (get_or xs i d))
filter_map-more f xs i d low =
    ap (filter_map f) (take_more xs i d low) ∙ (filter_map-append f (take i xs) (get_or xs i d ∷ []) ∙ ap (λ ys. filter_map f (take i xs) ++ ys) (filter_map-one f (get_or xs i d) (f (get_or xs i d)) refl))

pub map-option_to_list : {X Y : Type 0} (f : X → Y) (o : Option X) → map f (option_to_list o) ≡ option_to_list (option_map f o)
map-option_to_list f None = refl
map-option_to_list f (Some x) = refl

-- one element more, if there is one, and what it shows
pub map_some : {X Y : Type 0} (f : X → Y) (xs ys : List X) (o : Option X) → ys ≡ xs ++ option_to_list o → map f ys ≡ map f xs ++ option_to_list (option_map f o)
map_some f xs ys o e = ap (map f) e ∙ (map-append f xs (option_to_list o) ∙ ap (λ more. map f xs ++ more) (map-option_to_list f o))

pub ruleset more_rows = (filter_map-more, map-option_to_list, map-append)

-- one node more
pub nodes_in-push : (text : List ℕ) (shows : PropertyRow → SeenProperty) (properties : List PropertyRow) (k : ℕ) (rows : List NodeRow) (row : NodeRow)
    → nodes_in text shows properties k (rows ++ row ∷ []) ≡ nodes_in text shows properties k rows ++ node_in text shows properties (k + length rows) row ∷ []
nodes_in-push text shows properties k [] row = let e : k ≡ k + 0 = omega arith in ap (λ j. node_in text shows properties j row ∷ []) e
nodes_in-push text shows properties k (first ∷ rows) row =
    let e : (k + 1) + length rows ≡ k + suc (length rows) = omega arith in
    ap (λ ns. node_in text shows properties k first ∷ ns) (nodes_in-push text shows properties (k + 1) rows row ∙ ap (λ j. nodes_in text shows properties (k + 1) rows ++ node_in text shows properties j row ∷ []) e)

-- a property of another node
filter-other : (properties : List PropertyRow) (p : PropertyRow) (k : ℕ) → (p.node == k) ≡ false → filter (λ q. q.node == k) (properties ++ p ∷ []) ≡ filter (λ q. q.node == k) properties
filter-other properties p k h = filter-append (λ q. q.node == k) properties (p ∷ []) ∙ (ap (λ b. filter (λ q. q.node == k) properties ++ cond b (p ∷ []) []) h ∙ append-nil (filter (λ q. q.node == k) properties))

filter-own : (properties : List PropertyRow) (p : PropertyRow) (k : ℕ) → (p.node == k) ≡ true → filter (λ q. q.node == k) (properties ++ p ∷ []) ≡ filter (λ q. q.node == k) properties ++ p ∷ []
filter-own properties p k h = filter-append (λ q. q.node == k) properties (p ∷ []) ∙ ap (λ b. filter (λ q. q.node == k) properties ++ cond b (p ∷ []) []) h

node_in-other : (text : List ℕ) (shows : PropertyRow → SeenProperty) (properties : List PropertyRow) (p : PropertyRow) (k : ℕ) (row : NodeRow) → (p.node == k) ≡ false
    → node_in text shows properties k row ≡ node_in text shows (properties ++ p ∷ []) k row
node_in-other text shows properties p k row h = rw (filter-other properties p k h) refl

nodes_in-before : (text : List ℕ) (shows : PropertyRow → SeenProperty) (properties : List PropertyRow) (p : PropertyRow) (k : ℕ) (rows : List NodeRow) → p.node < k
    → nodes_in text shows properties k rows ≡ nodes_in text shows (properties ++ p ∷ []) k rows
nodes_in-before text shows properties p k [] h = refl
nodes_in-before text shows properties p k (row ∷ rows) h =
    let e : (p.node == k) ≡ false = grind (arith, nat_tests) in
    ap (λ n. n ∷ nodes_in text shows properties (k + 1) rows) (node_in-other text shows properties p k row e)
    ∙ ap (λ ns. node_in text shows (properties ++ p ∷ []) k row ∷ ns) (nodes_in-before text shows properties p (k + 1) rows (omega arith))

-- a property is added to its node
pub nodes_in-add : (text : List ℕ) (shows : PropertyRow → SeenProperty) (properties : List PropertyRow) (p : PropertyRow) (k j : ℕ) (rows : List NodeRow) → p.node ≡ k + j
    → add_at j (shows p) (nodes_in text shows properties k rows) ≡ nodes_in text shows (properties ++ p ∷ []) k rows
nodes_in-add text shows properties p k zero [] h = refl
nodes_in-add text shows properties p k (suc j) [] h = refl
nodes_in-add text shows properties p k zero (row ∷ rows) h =
    let e : (p.node == k) ≡ true = grind (arith, nat_tests) in
    rw (filter-own properties p k e, map-append shows (filter (λ q. q.node == k) properties) (p ∷ []), nodes_in-before text shows properties p (k + 1) rows (omega arith)) refl
nodes_in-add text shows properties p k (suc j) (row ∷ rows) h =
    let e : (p.node == k) ≡ false = grind (arith, nat_tests) in
    ap (λ n. n ∷ add_at j (shows p) (nodes_in text shows properties (k + 1) rows)) (node_in-other text shows properties p k row e)
    ∙ ap (λ ns. node_in text shows (properties ++ p ∷ []) k row ∷ ns) (nodes_in-add text shows properties p (k + 1) j rows (omega arith))

-- a place past the end
pub add_at-past : (k : ℕ) (p : SeenProperty) (ns : List SeenNode) → length ns ≤ k → add_at k p ns ≡ ns
add_at-past k p [] h = refl
add_at-past zero p (n ∷ ns) h = absurd (omega arith)
add_at-past (suc k) p (n ∷ ns) h = ap (λ xs. n ∷ xs) (add_at-past k p ns (omega arith))

-- the nodes, of which one has a property more
pub map-seen-set : {X : Type 0} (f : X → SeenNode) (xs : List X) (k : ℕ) (d x : X) (p : SeenProperty) → k < length xs → f x ≡ record (f (get_or xs k d)) { properties = (f (get_or xs k d)).properties ++ p ∷ [] }
    → map f (set xs k x) ≡ add_at k p (map f xs)
map-seen-set f [] k d x p low h = absurd (omega arith)
map-seen-set f (y ∷ ys) zero d x p low h = ap (λ n. n ∷ map f ys) h
map-seen-set f (y ∷ ys) (suc k) d x p low h = ap (λ ns. f y ∷ ns) (map-seen-set f ys k d x p (omega arith) h)

-- one node more, in front of no property
pub bare-more : {X : Type 0} (f : X → SeenNode) (nodes : List X) (node : X) (text : List ℕ) (shows : PropertyRow → SeenProperty) (rows : List NodeRow) (i : ℕ) (d : NodeRow) → i < length rows
    → map f nodes ≡ nodes_in text shows [] 0 (take i rows) → ((k : ℕ) → f node ≡ node_in text shows [] k (get_or rows i d)) → map f (nodes ++ node ∷ []) ≡ nodes_in text shows [] 0 (take (i + 1) rows)
bare-more f nodes node text shows rows i d low was here =
    map-append f nodes (node ∷ []) ∙ (ap (λ ns. ns ++ f node ∷ []) was ∙ (ap (λ n. nodes_in text shows [] 0 (take i rows) ++ n ∷ []) (here (0 + length (take i rows)))
    ∙ (sym (nodes_in-push text shows [] 0 (take i rows) (get_or rows i d)) ∙ ap (nodes_in text shows [] 0) (sym (take_more rows i d low)))))

-- one property more
pub nodes_in-more : (text : List ℕ) (shows : PropertyRow → SeenProperty) (properties : List PropertyRow) (i : ℕ) (d : PropertyRow) (rows : List NodeRow) (old new : List SeenNode) (p : SeenProperty) → i < length properties
    → old ≡ nodes_in text shows (take i properties) 0 rows → p ≡ shows (get_or properties i d) → new ≡ add_at (get_or properties i d).node p old
    → new ≡ nodes_in text shows (take (i + 1) properties) 0 rows
nodes_in-more text shows properties i d rows old new p low was here added =
    let row = get_or properties i d in
    let e : row.node ≡ 0 + row.node = omega arith in
    added ∙ (ap (λ x. add_at row.node x old) here ∙ (ap (add_at row.node (shows row)) was
    ∙ (nodes_in-add text shows (take i properties) row 0 row.node rows e ∙ ap (λ ps. nodes_in text shows ps 0 rows) (sym (take_more properties i d low)))))

-- one row more, of which something may be shown
pub filter_map-next : {X Y : Type 0} (f : X → Option Y) (xs : List X) (i : ℕ) (d : X) (old new : List Y) (o : Option Y) → i < length xs → new ≡ old ++ option_to_list o → o ≡ f (get_or xs i d) → old ≡ filter_map f (take i xs)
    → new ≡ filter_map f (take (i + 1) xs)
filter_map-next f xs i d old new o low n here was =
    n ∙ (ap (λ p. old ++ option_to_list p) here ∙ (ap (λ ys. ys ++ option_to_list (f (get_or xs i d))) was ∙ sym (filter_map-more f xs i d low)))

pub filter_map-seen : {X Y Z : Type 0} (f : X → Option Z) (g : Y → Z) (xs : List X) (i : ℕ) (d : X) (old new : List Y) (o : Option Y) → i < length xs → new ≡ old ++ option_to_list o → option_map g o ≡ f (get_or xs i d)
    → map g old ≡ filter_map f (take i xs) → map g new ≡ filter_map f (take (i + 1) xs)
filter_map-seen f g xs i d old new o low n here was =
    filter_map-next f xs i d (map g old) (map g new) (option_map g o) low (map_some g old new o n) here was
