-- A syntax tree is refused for a name that is taken, a depth or a label, and not for its syntax.
use Rattle.std.proofs.Common.{ℕ, suc, ◌==◌, nat_le, Bool, true, false, Option, Some, None, Result, Ok, Err, List, [], ◌∷◌, ◌++◌, length, map, IfErr, if◌then◌else◌}
use Rattle.std.specs.List.{list_any}
use Rattle.dts_tokens.specs.declared.token.Token.{Token}
use Rattle.dts_tokens.specs.Tokens.{text_of}
use Rattle.dts_tree.specs.declared.fault.TreeFault.{TreeFault}
use Rattle.dts_tree.specs.declared.fault.TreeFault.TheVariants as faults
use Rattle.dts_tree.specs.declared.rows.Begun.{Begun}
use Rattle.dts_tree.specs.declared.rows.LabelRow.{LabelRow}
use Rattle.dts_tree.specs.declared.rows.Numeral.{Numeral}
use Rattle.dts_tree.specs.Grammar.{Body, Empty, Child, Bare, Property, Source}
use Rattle.dts_tree.specs.Grown.{Tables, ◌>>=◌, add_label, add_node, add_name, add_root, add_phandle, add_property, phandle_of, end_property, label_of, owned_by, begun}
use Rattle.dts_tree.specs.Meaning.{IsNotSyntax, with_values, with_labels, with_body, meaning}
use Rattle.dts_tree.specs.Read.{opening, node_of, target, targets}
use Rattle.dts_tree.specs.Taken.{is_taken, name_in}
use Rattle.dts_tree.specs.Tree.{tree_of}

-- refused for another reason than syntax, if at all
abbrev Refuses : {X : Type 0} → Result X TreeFault → Type 0
Refuses r = IfErr r IsNotSyntax

onward : {X Y : Type 0} (r : Result X TreeFault) (f : X → Result Y TreeFault) → Refuses r → ((x : X) → Refuses (f x)) → Refuses (r >>= f)
onward (Ok x) f h g = g x
onward (Err e) f h g = h

test : {X : Type 0} (b : Bool) (e : TreeFault) (r : Result X TreeFault) → IsNotSyntax e → Refuses r → Refuses (if b then Err e else r)
test true e r h g = h
test false e r h g = g

label-refuses : (text : List ℕ) (token : Token) (t : Tables) → Refuses (add_label text token t)
unfolding add_label
label-refuses text token t =
    let name = name_in 0 (text_of text (label_of token)) in
    let u : Tables = record t { pending = t.pending ++ label_of token ∷ []; marked = t.marked ++ name ∷ [] } in
    test (is_taken name t.marked) (faults.TwiceDefined token.line) (Ok u) tt tt

node-refuses : (text : List ℕ) (here above : ℕ) (w : Token) (t : Tables) → Refuses (add_node text here above w t)
unfolding add_node
node-refuses text here above w t =
    let name = name_in here (text_of text w) in
    let u : Tables = record t { nodes = t.nodes ++ record { name = w; parent = Some here } ∷ []; pending = []; labels = t.labels ++ map (owned_by (length t.nodes)) t.pending; children = t.children ++ name ∷ [] } in
    test (is_taken name t.children) (faults.TwiceDefined w.line) (if nat_le 63 above then Err (faults.TooDeep w.line) else Ok u) tt (test (nat_le 63 above) (faults.TooDeep w.line) (Ok u) tt tt)

name-refuses : (text : List ℕ) (here : ℕ) (w : Token) (t : Tables) → Refuses (add_name text here w t)
unfolding add_name
name-refuses text here w t =
    let name = name_in here (text_of text w) in
    let u : Tables = record t { named = t.named ++ name ∷ [] } in
    test (is_taken name t.named) (faults.TwiceDefined w.line) (Ok u) tt tt

phandle-refuses : (o : Option Numeral) (t : Tables) → Refuses (add_phandle o t)
phandle-refuses None t = tt
phandle-refuses (Some n) t =
    let u : Tables = record t { phandles = t.phandles ++ n.value ∷ [] } in
    test (list_any (λ other. n.value == other) t.phandles) (faults.TwiceDefined n.word.line) (Ok u) tt tt

end-refuses : (text : List ℕ) (here : ℕ) (p : Begun) (t : Tables) → Refuses (end_property text here p t)
unfolding end_property
end-refuses text here p t = onward (add_phandle (phandle_of text p t) t) (λ u. Ok (add_property here p u)) (phandle-refuses (phandle_of text p t) t) (λ u. tt)

labels-refuse : (text : List ℕ) (ls : List Token) (t : Tables) → Refuses (with_labels text ls t)
labels-refuse text [] t = tt
labels-refuse text (l ∷ ls) t = onward (add_label text l t) (with_labels text ls) (label-refuses text l t) (λ u. labels-refuse text ls u)

body-refuses : (text : List ℕ) (here depth : ℕ) (b : Body) (t : Tables) → Refuses (with_body text here depth b t)
body-refuses text here depth Empty t = tt
body-refuses text here depth (Child ls n f inside c e rest) t =
    onward (with_labels text ls t) _ (labels-refuse text ls t) (λ u. onward (add_node text here depth n u) _ (node-refuses text here depth n u)
    (λ v. onward (with_body text (length u.nodes) (suc depth) inside v) (with_body text here depth rest) (body-refuses text (length u.nodes) (suc depth) inside v) (λ x. body-refuses text here depth rest x)))
body-refuses text here depth (Bare ls n e rest) t =
    onward (with_labels text ls t) _ (labels-refuse text ls t) (λ u. onward (add_name text here n u) _ (name-refuses text here n u)
    (λ v. onward (end_property text here (begun n v) v) (with_body text here depth rest) (end-refuses text here (begun n v) v) (λ x. body-refuses text here depth rest x)))
body-refuses text here depth (Property ls n q vs e rest) t =
    onward (with_labels text ls t) _ (labels-refuse text ls t) (λ u. onward (add_name text here n u) _ (name-refuses text here n u)
    (λ v. onward (end_property text here (begun n v) (with_values text vs v)) (with_body text here depth rest) (end-refuses text here (begun n v) (with_values text vs v)) (λ x. body-refuses text here depth rest x)))

target-refuses : (text : List ℕ) (rows : List LabelRow) (token : Token) → Refuses (target text rows token)
target-refuses text rows token = told (node_of text rows (name_in 0 (text_of text token)))
  where
    told : (o : Option ℕ) → Refuses (let r : Result ℕ TreeFault = elim o [ None ↦ Err (faults.NoSuchLabel token.line) | Some node ↦ Ok node ] in r)
    told None = tt
    told (Some n) = tt

targets-refuse : (text : List ℕ) (rows : List LabelRow) (tokens : List Token) → Refuses (targets text rows tokens)
targets-refuse text rows [] = tt
targets-refuse text rows (token ∷ tokens) = onward (target text rows token) _ (target-refuses text rows token) (λ n. onward (targets text rows tokens) _ (targets-refuse text rows tokens) (λ ns. tt))

pub meaning-refuses : (text : List ℕ) (s : Source) → Refuses (meaning text s)
unfolding meaning
meaning-refuses text s =
    let found = with_body text 0 0 s.body (add_root s.root opening.tables) in
    onward found _ (body-refuses text 0 0 s.body (add_root s.root opening.tables)) (λ t. onward (targets text t.labels t.references) (λ ks. Ok (tree_of text t ks)) (targets-refuse text t.labels t.references) (λ ks. tt))
