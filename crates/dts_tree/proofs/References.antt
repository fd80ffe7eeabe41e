-- What references mean, one label or reference more.
use Rattle.std.proofs.Common.{◌≡◌, ℕ, ◌+◌, ◌<◌, true, false, cond, Option, Some, None, Result, Ok, Err, List, [], ◌∷◌, ◌++◌, length, drop, take, get_or, refl, sym, ap, ◌∙◌, append_assoc, if◌then◌else◌}
use Rattle.std.proofs.lemmas.List.{at_drop_more, take_more}
use Rattle.dts_tokens.specs.declared.token.Token.{Token}
use Rattle.dts_tokens.specs.Tokens.{text_of}
use Rattle.dts_tree.specs.declared.fault.TreeFault.{TreeFault}
use Rattle.dts_tree.specs.declared.fault.TreeFault.TheVariants as faults
use Rattle.dts_tree.specs.declared.rows.LabelRow.{LabelRow}
use Rattle.dts_tree.specs.Grown.{◌>>=◌}
use Rattle.dts_tree.specs.Read.{node_of, or_else, target, targets}
use Rattle.dts_tree.specs.Taken.{Name, name_in, same_name}

-- one label more
pub node_of-push : (text : List ℕ) (rows : List LabelRow) (row : LabelRow) (name : Name)
    → node_of text (rows ++ row ∷ []) name ≡ (if same_name (name_in 0 (text_of text row.name)) name then Some row.node else node_of text rows name)
node_of-push text [] row name = refl
node_of-push text (first ∷ rows) row name =
    ap (λ o. or_else o (if same_name (name_in 0 (text_of text first.name)) name then Some first.node else None)) (node_of-push text rows row name)
    ∙ elim (same_name (name_in 0 (text_of text row.name)) name) as (λ b. or_else (cond b (Some row.node) (node_of text rows name)) (if same_name (name_in 0 (text_of text first.name)) name then Some first.node else None)
    ≡ cond b (Some row.node) (or_else (node_of text rows name) (if same_name (name_in 0 (text_of text first.name)) name then Some first.node else None)))
    [ true ↦ refl | false ↦ refl ]

-- nodes in front of the nodes to come
pub bind-append : (r : Result (List ℕ) TreeFault) (found : List ℕ) (node : ℕ) → ((r >>= λ nodes. Ok (node ∷ nodes)) >>= λ nodes. Ok (found ++ nodes)) ≡ (r >>= λ nodes. Ok ((found ++ node ∷ []) ++ nodes))
bind-append (Ok nodes) found node = let e = append_assoc found (node ∷ []) nodes in let P : List ℕ → Result (List ℕ) TreeFault = λ ns. Ok ns in ap P (sym e)
bind-append (Err e) found node = refl

-- one reference more, which means a node
pub targets-more : (text : List ℕ) (rows : List LabelRow) (references : List Token) (found : List ℕ) (i node : ℕ) (d : Token) → i < length references
    → target text rows (get_or references i d) ≡ Ok node → targets text rows references ≡ (targets text rows (drop i references) >>= λ nodes. Ok (found ++ nodes))
    → targets text rows references ≡ (targets text rows (drop (i + 1) references) >>= λ nodes. Ok ((found ++ node ∷ []) ++ nodes))
targets-more text rows references found i node d low means was =
    was ∙ ap (λ r. r >>= λ nodes. Ok (found ++ nodes)) (at_drop_more (targets text rows) references i d low ∙ ap (λ r. r >>= λ n. targets text rows (drop (i + 1) references) >>= λ nodes. Ok (n ∷ nodes)) means)
    ∙ bind-append (targets text rows (drop (i + 1) references)) found node

-- one that means none
pub targets-none : (text : List ℕ) (rows : List LabelRow) (references : List Token) (found : List ℕ) (i line : ℕ) (d : Token) → i < length references
    → target text rows (get_or references i d) ≡ Err (faults.NoSuchLabel line) → targets text rows references ≡ (targets text rows (drop i references) >>= λ nodes. Ok (found ++ nodes))
    → targets text rows references ≡ Err (faults.NoSuchLabel line)
targets-none text rows references found i line d low means was =
    was ∙ ap (λ r. r >>= λ nodes. Ok (found ++ nodes)) (at_drop_more (targets text rows) references i d low ∙ ap (λ r. r >>= λ n. targets text rows (drop (i + 1) references) >>= λ nodes. Ok (n ∷ nodes)) means)

-- a label more, and what the map holds then
pub node_of-insert : (text : List ℕ) (rows : List LabelRow) (i : ℕ) (d : LabelRow) (key : List ℕ) (q : Name) (old new : Option ℕ) → i < length rows → key ≡ text_of text (get_or rows i d).name
    → new ≡ (if same_name (name_in 0 key) q then Some (get_or rows i d).node else old) → old ≡ node_of text (take i rows) q → new ≡ node_of text (take (i + 1) rows) q
node_of-insert text rows i d key q old new low k n o =
    n ∙ (ap (λ w. if same_name (name_in 0 w) q then Some (get_or rows i d).node else old) k
    ∙ (ap (λ x. if same_name (name_in 0 (text_of text (get_or rows i d).name)) q then Some (get_or rows i d).node else x) o
    ∙ (sym (node_of-push text (take i rows) (get_or rows i d) q) ∙ ap (λ rs. node_of text rs q) (sym (take_more rows i d low)))))

pub target-some : (text : List ℕ) (rows : List LabelRow) (token : Token) (w : List ℕ) (node : ℕ) → w ≡ text_of text token → Some node ≡ node_of text rows (name_in 0 w) → target text rows token ≡ Ok node
target-some text rows token w node e h = let f : node_of text rows (name_in 0 (text_of text token)) ≡ Some node = ap (λ v. node_of text rows (name_in 0 v)) (sym e) ∙ sym h in rw (f, target) refl

pub target-none : (text : List ℕ) (rows : List LabelRow) (token : Token) (w : List ℕ) → w ≡ text_of text token → None ≡ node_of text rows (name_in 0 w) → target text rows token ≡ Err (faults.NoSuchLabel token.line)
target-none text rows token w e h = let f : node_of text rows (name_in 0 (text_of text token)) ≡ None = ap (λ v. node_of text rows (name_in 0 v)) (sym e) ∙ sym h in rw (f, target) refl
