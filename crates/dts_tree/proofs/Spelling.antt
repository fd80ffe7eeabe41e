-- What a syntax tree spells is read as what it means.
use Rattle.std.proofs.Common.{◌≡◌, ℕ, suc, All, true, Option, Some, None, Result, Ok, Err, List, [], ◌∷◌, ◌++◌, length, refl, sym, ap, ◌∙◌, inl, inr, append_assoc, IfOk, if◌then◌else◌}
use Rattle.std.specs.Option.{is_some, option_map_or}
use Rattle.std.proofs.lemmas.List.Elements.{All-head, All-tail}
use Rattle.dts_tokens.specs.declared.token.Token.{Token}
use Rattle.dts_tokens.specs.Numbers.{number_up_to}
use Rattle.dts_tokens.specs.Tokens.{text_of}
use Rattle.dts_tree.specs.declared.fault.TreeFault.{TreeFault}
use Rattle.dts_tree.specs.declared.fault.TreeFault.TheVariants as faults
use Rattle.dts_tree.specs.declared.mark.Mark.{Mark}
use Rattle.dts_tree.specs.declared.mark.Mark.TheVariants as marks
use Rattle.dts_tree.specs.declared.rows.Begun.{Begun}
use Rattle.dts_tree.specs.declared.rows.Item.TheVariants as items
use Rattle.dts_tree.specs.declared.rows.Phase.{Phase}
use Rattle.dts_tree.specs.declared.rows.Phase.TheVariants as phases
use Rattle.dts_tree.specs.Grammar.{Value, Text, Target, Cells, Bytes, Values, Last, More, Body, Empty, Child, Bare, Property, Reserves, NoLine, Line, Source, spell_value, spell_values, spell_body, spell_reserves, spelling, Is, IsName, IsNumeral, IsCell, IsByteString, FitsValue, FitsValues, FitsBody, FitsReserves, FitsSource, IsSpelledBySource}
use Rattle.dts_tree.specs.Grown.{Tables, ◌>>=◌, add_label, add_node, add_name, add_root, add_item, add_items, end_property, begun}
use Rattle.dts_tree.specs.Marks.{mark_of}
use Rattle.dts_tree.specs.Meaning.{cell_of_mark, with_cells, with_bytes, with_value, with_values, with_labels, with_body, meaning, IsSourceOf}
use Rattle.dts_tree.specs.Parsed.{spelled, shown}
use Rattle.dts_tree.specs.Read.{opening, ended, read}
use Rattle.dts_tree.specs.State.{State}
use Rattle.dts_tree.specs.Tree.{SeenNode}
use Rattle.dts_tree.proofs.Going.{run-end}
use Rattle.dts_tree.proofs.Remaining.{read-source}
use Rattle.dts_tree.specs.Steps.{label, name, enter, leave, open_property, finish, bare, begin, cell, bytes, bytes_of, step_in, step, run}

bind_assoc : {X Y Z : Type 0} (r : Result X TreeFault) (f : X → Result Y TreeFault) (g : Y → Result Z TreeFault) → ((r >>= f) >>= g) ≡ (r >>= λ x. f x >>= g)
bind_assoc (Ok x) f g = refl
bind_assoc (Err e) f g = refl

bind_same : {X Y : Type 0} (r : Result X TreeFault) (f g : X → Result Y TreeFault) → ((x : X) → f x ≡ g x) → (r >>= f) ≡ (r >>= g)
bind_same (Ok x) f g h = h x
bind_same (Err e) f g h = refl

-- a state
abbrev at : Phase → ℕ → List ℕ → Tables → State
at phase here above t = record { phase = phase; here = here; above = above; tables = t }

-- a token of this kind
took : (text : List ℕ) (token : Token) (ts : List Token) (s : State) (mark : Mark) → Is text mark token → run text (token ∷ ts) s ≡ (step_in text s.phase s token mark >>= run text ts)
unfolding run step
took text token ts s mark e = ap (λ m. step_in text s.phase s token m >>= run text ts) e

-- cells
cell-run : (text : List ℕ) (token : Token) (ts : List Token) (p : Begun) (from here : ℕ) (above : List ℕ) (t : Tables) → IsCell text token
    → run text (token ∷ ts) (at (phases.InCells p from) here above t) ≡ run text ts (at (phases.InCells p from) here above (cell_of_mark text (mark_of (text_of text token)) token t))
unfolding step_in cell
cell-run text token ts p from here above t (inl h) =
    took text token ts (at (phases.InCells p from) here above t) marks.Word h.0
    ∙ (counted (number_up_to 4294967295 (text_of text token)) h.1 ∙ ap (λ m. run text ts (at (phases.InCells p from) here above (cell_of_mark text m token t))) (sym h.0))
  where
    counted : (o : Option ℕ) → is_some o ≡ true
        → (option_map_or (λ n. let r : Result State TreeFault = Ok (at (phases.InCells p from) here above (add_item (items.Number (record { value = n; word = token })) t)) in r) o (Err (faults.Syntax token.line)) >>= run text ts)
        ≡ run text ts (at (phases.InCells p from) here above (option_map_or (λ n. add_item (items.Number (record { value = n; word = token })) t) o t))
    counted None e = absurd cc
    counted (Some n) e = refl
cell-run text token ts p from here above t (inr h) =
    took text token ts (at (phases.InCells p from) here above t) marks.Reference h ∙ ap (λ m. run text ts (at (phases.InCells p from) here above (cell_of_mark text m token t))) (sym h)

cells-run : (text : List ℕ) (tokens ts : List Token) (p : Begun) (from here : ℕ) (above : List ℕ) (t : Tables) → All (IsCell text) tokens
    → run text (tokens ++ ts) (at (phases.InCells p from) here above t) ≡ run text ts (at (phases.InCells p from) here above (with_cells text tokens t))
cells-run text [] ts p from here above t h = refl
cells-run text (token ∷ tokens) ts p from here above t h =
    cell-run text token (tokens ++ ts) p from here above t (All-head (IsCell text) token tokens h)
    ∙ cells-run text tokens ts p from here above (cell_of_mark text (mark_of (text_of text token)) token t) (All-tail (IsCell text) token tokens h)

-- bytes
byte-run : (text : List ℕ) (token : Token) (ts : List Token) (p : Begun) (from here : ℕ) (above : List ℕ) (t : Tables) → IsByteString text token
    → run text (token ∷ ts) (at (phases.InBytes p from) here above t) ≡ run text ts (at (phases.InBytes p from) here above (add_items (bytes_of (text_of text token)) t))
unfolding step_in bytes
byte-run text token ts p from here above t h =
    took text token ts (at (phases.InBytes p from) here above t) marks.Word h.0
    ∙ ap (λ b. (if b then (let r : Result State TreeFault = Ok (at (phases.InBytes p from) here above (add_items (bytes_of (text_of text token)) t)) in r) else Err (faults.Syntax token.line)) >>= run text ts) h.1

bytes-run : (text : List ℕ) (tokens ts : List Token) (p : Begun) (from here : ℕ) (above : List ℕ) (t : Tables) → All (IsByteString text) tokens
    → run text (tokens ++ ts) (at (phases.InBytes p from) here above t) ≡ run text ts (at (phases.InBytes p from) here above (with_bytes text tokens t))
bytes-run text [] ts p from here above t h = refl
bytes-run text (token ∷ tokens) ts p from here above t h =
    byte-run text token (tokens ++ ts) p from here above t (All-head (IsByteString text) token tokens h)
    ∙ bytes-run text tokens ts p from here above (add_items (bytes_of (text_of text token)) t) (All-tail (IsByteString text) token tokens h)

-- values
value-run : (text : List ℕ) (v : Value) (ts : List Token) (p : Begun) (here : ℕ) (above : List ℕ) (t : Tables) → FitsValue text v
    → run text (spell_value v ++ ts) (at (phases.Wanting p) here above t) ≡ run text ts (at (phases.Valued p) here above (with_value text v t))
unfolding step_in
value-run text (Text token) ts p here above t h = took text token ts (at (phases.Wanting p) here above t) marks.Text h
value-run text (Target token) ts p here above t h = took text token ts (at (phases.Wanting p) here above t) marks.Reference h
value-run text (Cells front cs close) ts p here above t h =
    took text front ((cs ++ (close ∷ [])) ++ ts) (at (phases.Wanting p) here above t) marks.Less h.0
    ∙ (ap (λ xs. run text xs (at (phases.InCells p (length t.items)) here above t)) (append_assoc cs (close ∷ []) ts)
    ∙ (cells-run text cs (close ∷ ts) p (length t.items) here above t h.1
    ∙ took text close ts (at (phases.InCells p (length t.items)) here above (with_cells text cs t)) marks.Greater h.2))
value-run text (Bytes front bs close) ts p here above t h =
    took text front ((bs ++ (close ∷ [])) ++ ts) (at (phases.Wanting p) here above t) marks.OpenBracket h.0
    ∙ (ap (λ xs. run text xs (at (phases.InBytes p (length t.items)) here above t)) (append_assoc bs (close ∷ []) ts)
    ∙ (bytes-run text bs (close ∷ ts) p (length t.items) here above t h.1
    ∙ took text close ts (at (phases.InBytes p (length t.items)) here above (with_bytes text bs t)) marks.CloseBracket h.2))

values-run : (text : List ℕ) (vs : Values) (ts : List Token) (p : Begun) (here : ℕ) (above : List ℕ) (t : Tables) → FitsValues text vs
    → run text (spell_values vs ++ ts) (at (phases.Wanting p) here above t) ≡ run text ts (at (phases.Valued p) here above (with_values text vs t))
unfolding step_in
values-run text (Last v) ts p here above t h = value-run text v ts p here above t h
values-run text (More v comma vs) ts p here above t h =
    ap (λ xs. run text xs (at (phases.Wanting p) here above t)) (append_assoc (spell_value v) (comma ∷ spell_values vs) ts)
    ∙ (value-run text v (comma ∷ (spell_values vs ++ ts)) p here above t h.0
    ∙ (took text comma (spell_values vs ++ ts) (at (phases.Valued p) here above (with_value text v t)) marks.Comma h.1
    ∙ values-run text vs ts p here above (with_value text v t) h.2))

-- a name, first in its item or behind labels
name-run : (text : List ℕ) (w : Token) (ts : List Token) (here : ℕ) (above : List ℕ) (t : Tables) → IsName text w → run text (w ∷ ts) (at phases.Ready here above t) ≡ run text ts (at (phases.Named w) here above t)
unfolding step_in name
name-run text w ts here above t (inl e, is) =
    took text w ts (at phases.Ready here above t) marks.Word e ∙ ap (λ b. (if b then (let r : Result State TreeFault = Ok (at (phases.Named w) here above t) in r) else Err (faults.Syntax w.line)) >>= run text ts) is
name-run text w ts here above t (inr e, is) =
    took text w ts (at phases.Ready here above t) marks.Comma e ∙ ap (λ b. (if b then (let r : Result State TreeFault = Ok (at (phases.Named w) here above t) in r) else Err (faults.Syntax w.line)) >>= run text ts) is

name-behind : (text : List ℕ) (w : Token) (ts : List Token) (here : ℕ) (above : List ℕ) (t : Tables) → IsName text w → run text (w ∷ ts) (at phases.Labelled here above t) ≡ run text ts (at (phases.Named w) here above t)
unfolding step_in name
name-behind text w ts here above t (inl e, is) =
    took text w ts (at phases.Labelled here above t) marks.Word e ∙ ap (λ b. (if b then (let r : Result State TreeFault = Ok (at (phases.Named w) here above t) in r) else Err (faults.Syntax w.line)) >>= run text ts) is
name-behind text w ts here above t (inr e, is) =
    took text w ts (at phases.Labelled here above t) marks.Comma e ∙ ap (λ b. (if b then (let r : Result State TreeFault = Ok (at (phases.Named w) here above t) in r) else Err (faults.Syntax w.line)) >>= run text ts) is

-- labels and a name
labels-behind : (text : List ℕ) (ls : List Token) (w : Token) (ts : List Token) (here : ℕ) (above : List ℕ) (t : Tables) → All (Is text marks.Label) ls → IsName text w
    → run text (ls ++ (w ∷ ts)) (at phases.Labelled here above t) ≡ (with_labels text ls t >>= λ u. run text ts (at (phases.Named w) here above u))
unfolding step_in label
labels-behind text [] w ts here above t all whole = name-behind text w ts here above t whole
labels-behind text (l ∷ ls) w ts here above t all whole =
    took text l (ls ++ (w ∷ ts)) (at phases.Labelled here above t) marks.Label (All-head (Is text marks.Label) l ls all)
    ∙ (bind_assoc (add_label text l t) (λ u. Ok (at phases.Labelled here above u)) (run text (ls ++ (w ∷ ts)))
    ∙ (bind_same (add_label text l t) _ _ (λ u. labels-behind text ls w ts here above u (All-tail (Is text marks.Label) l ls all) whole)
    ∙ sym (bind_assoc (add_label text l t) (with_labels text ls) (λ u. run text ts (at (phases.Named w) here above u)))))

labels-run : (text : List ℕ) (ls : List Token) (w : Token) (ts : List Token) (here : ℕ) (above : List ℕ) (t : Tables) → All (Is text marks.Label) ls → IsName text w
    → run text (ls ++ (w ∷ ts)) (at phases.Ready here above t) ≡ (with_labels text ls t >>= λ u. run text ts (at (phases.Named w) here above u))
unfolding step_in label
labels-run text [] w ts here above t all whole = name-run text w ts here above t whole
labels-run text (l ∷ ls) w ts here above t all whole =
    took text l (ls ++ (w ∷ ts)) (at phases.Ready here above t) marks.Label (All-head (Is text marks.Label) l ls all)
    ∙ (bind_assoc (add_label text l t) (λ u. Ok (at phases.Labelled here above u)) (run text (ls ++ (w ∷ ts)))
    ∙ (bind_same (add_label text l t) _ _ (λ u. labels-behind text ls w ts here above u (All-tail (Is text marks.Label) l ls all) whole)
    ∙ sym (bind_assoc (add_label text l t) (with_labels text ls) (λ u. run text ts (at (phases.Named w) here above u)))))

-- one step after another, in one line
regroup : {X Y Z W V : Type 0} (r : Result X TreeFault) (f : X → Result Y TreeFault) (g : X → Y → Result Z TreeFault) (h : Z → Result W TreeFault) (k : W → Result V TreeFault)
    → ((r >>= λ u. f u >>= λ v. g u v >>= h) >>= k) ≡ (r >>= λ u. f u >>= λ v. g u v >>= λ x. h x >>= k)
regroup r f g h k = bind_assoc r _ k ∙ bind_same r _ _ (λ u. bind_assoc (f u) _ k ∙ bind_same (f u) _ _ (λ v. bind_assoc (g u v) h k))

-- what stands in a node
body-run : (text : List ℕ) (b : Body) (ts : List Token) (here : ℕ) (above : List ℕ) (t : Tables) → FitsBody text b
    → run text (spell_body b ++ ts) (at phases.Ready here above t) ≡ (with_body text here (length above) b t >>= λ u. run text ts (at phases.Ready here above u))
unfolding step_in enter leave bare begin finish open_property
body-run text Empty ts here above t fits = refl
body-run text (Child ls n f inside c e rest) ts here above t fits =
    let inner = spell_body inside in
    let others = spell_body rest in
    let K : Tables → Result State TreeFault = λ y. run text ts (at phases.Ready here above y) in
    let tokens : (ls ++ (n ∷ f ∷ (inner ++ (c ∷ e ∷ others)))) ++ ts ≡ ls ++ (n ∷ f ∷ (inner ++ (c ∷ e ∷ (others ++ ts)))) =
    append_assoc ls (n ∷ f ∷ (inner ++ (c ∷ e ∷ others))) ts ∙ ap (λ xs. ls ++ (n ∷ f ∷ xs)) (append_assoc inner (c ∷ e ∷ others) ts) in
    ap (λ xs. run text xs (at phases.Ready here above t)) tokens
    ∙ (labels-run text ls n (f ∷ (inner ++ (c ∷ e ∷ (others ++ ts)))) here above t fits.0 fits.1
    ∙ (bind_same (with_labels text ls t) _ (λ u. add_node text here (length above) n u >>= λ v. with_body text (length u.nodes) (suc (length above)) inside v >>= λ x. with_body text here (length above) rest x >>= K)
    (λ u. took text f (inner ++ (c ∷ e ∷ (others ++ ts))) (at (phases.Named n) here above u) marks.OpenBrace fits.2
    ∙ (bind_assoc (add_node text here (length above) n u) (λ v. Ok (at phases.Ready (length u.nodes) (here ∷ above) v)) (run text (inner ++ (c ∷ e ∷ (others ++ ts))))
    ∙ bind_same (add_node text here (length above) n u) _ _ (λ v. body-run text inside (c ∷ e ∷ (others ++ ts)) (length u.nodes) (here ∷ above) v fits.3
    ∙ bind_same (with_body text (length u.nodes) (suc (length above)) inside v) _ _ (λ x. took text c (e ∷ (others ++ ts)) (at phases.Ready (length u.nodes) (here ∷ above) x) marks.CloseBrace fits.4
    ∙ (took text e (others ++ ts) (at phases.Closed (length u.nodes) (here ∷ above) x) marks.Semicolon fits.5
    ∙ body-run text rest ts here above x fits.6)))))
    ∙ sym (regroup (with_labels text ls t) (add_node text here (length above) n) (λ u v. with_body text (length u.nodes) (suc (length above)) inside v) (with_body text here (length above) rest) K)))
body-run text (Bare ls n e rest) ts here above t fits =
    let others = spell_body rest in
    let K : Tables → Result State TreeFault = λ y. run text ts (at phases.Ready here above y) in
    ap (λ xs. run text xs (at phases.Ready here above t)) (append_assoc ls (n ∷ e ∷ others) ts)
    ∙ (labels-run text ls n (e ∷ (others ++ ts)) here above t fits.0 fits.1.0
    ∙ (bind_same (with_labels text ls t) _ (λ u. add_name text here n u >>= λ v. end_property text here (begun n v) v >>= λ x. with_body text here (length above) rest x >>= K)
    (λ u. took text e (others ++ ts) (at (phases.Named n) here above u) marks.Semicolon fits.2
    ∙ (ap (λ b. ((if b then add_name text here n u else Err (faults.Syntax e.line)) >>= λ v. finish text (begun n v) (at phases.Ready here above v)) >>= run text (others ++ ts)) fits.1.1
    ∙ (bind_assoc (add_name text here n u) (λ v. finish text (begun n v) (at phases.Ready here above v)) (run text (others ++ ts))
    ∙ bind_same (add_name text here n u) _ _ (λ v. bind_assoc (end_property text here (begun n v) v) (λ x. Ok (at phases.Ready here above x)) (run text (others ++ ts))
    ∙ bind_same (end_property text here (begun n v) v) _ _ (λ x. body-run text rest ts here above x fits.3)))))
    ∙ sym (regroup (with_labels text ls t) (add_name text here n) (λ u v. end_property text here (begun n v) v) (with_body text here (length above) rest) K)))
body-run text (Property ls n q vs e rest) ts here above t fits =
    let others = spell_body rest in
    let given = spell_values vs in
    let K : Tables → Result State TreeFault = λ y. run text ts (at phases.Ready here above y) in
    let tokens : (ls ++ (n ∷ q ∷ (given ++ (e ∷ others)))) ++ ts ≡ ls ++ (n ∷ q ∷ (given ++ (e ∷ (others ++ ts)))) =
    append_assoc ls (n ∷ q ∷ (given ++ (e ∷ others))) ts ∙ ap (λ xs. ls ++ (n ∷ q ∷ xs)) (append_assoc given (e ∷ others) ts) in
    ap (λ xs. run text xs (at phases.Ready here above t)) tokens
    ∙ (labels-run text ls n (q ∷ (given ++ (e ∷ (others ++ ts)))) here above t fits.0 fits.1.0
    ∙ (bind_same (with_labels text ls t) _ (λ u. add_name text here n u >>= λ v. end_property text here (begun n v) (with_values text vs v) >>= λ x. with_body text here (length above) rest x >>= K)
    (λ u. took text q (given ++ (e ∷ (others ++ ts))) (at (phases.Named n) here above u) marks.Equals fits.2
    ∙ (ap (λ b. ((if b then add_name text here n u else Err (faults.Syntax q.line)) >>= λ v. let r : Result State TreeFault = Ok (at (phases.Wanting (begun n v)) here above v) in r) >>= run text (given ++ (e ∷ (others ++ ts)))) fits.1.1
    ∙ (bind_assoc (add_name text here n u) (λ v. Ok (at (phases.Wanting (begun n v)) here above v)) (run text (given ++ (e ∷ (others ++ ts))))
    ∙ bind_same (add_name text here n u) _ _ (λ v. values-run text vs (e ∷ (others ++ ts)) (begun n v) here above v fits.3
    ∙ (took text e (others ++ ts) (at (phases.Valued (begun n v)) here above (with_values text vs v)) marks.Semicolon fits.4
    ∙ (bind_assoc (end_property text here (begun n v) (with_values text vs v)) (λ x. Ok (at phases.Ready here above x)) (run text (others ++ ts))
    ∙ bind_same (end_property text here (begun n v) (with_values text vs v)) _ _ (λ x. body-run text rest ts here above x fits.5)))))))
    ∙ sym (regroup (with_labels text ls t) (add_name text here n) (λ u v. end_property text here (begun n v) (with_values text vs v)) (with_body text here (length above) rest) K)))

-- a number of a `/memreserve/`
number-run : (text : List ℕ) (token : Token) (ts : List Token) (phase : Phase) (t : Tables) → IsNumeral text 18446744073709551615 token
    → (option_map_or (λ n. let r : Result State TreeFault = Ok (at phase 0 [] t) in r) (number_up_to 18446744073709551615 (text_of text token)) (Err (faults.Syntax token.line)) >>= run text ts) ≡ run text ts (at phase 0 [] t)
number-run text token ts phase t h = counted (number_up_to 18446744073709551615 (text_of text token)) h
  where
    counted : (o : Option ℕ) → is_some o ≡ true → (option_map_or (λ n. let r : Result State TreeFault = Ok (at phase 0 [] t) in r) o (Err (faults.Syntax token.line)) >>= run text ts) ≡ run text ts (at phase 0 [] t)
    counted None e = absurd cc
    counted (Some n) e = refl

reserves-run : (text : List ℕ) (rs : Reserves) (ts : List Token) (t : Tables) → FitsReserves text rs → run text (spell_reserves rs ++ ts) (at phases.Top 0 [] t) ≡ run text ts (at phases.Top 0 [] t)
unfolding step_in
reserves-run text NoLine ts t fits = refl
reserves-run text (Line r from length end rest) ts t fits =
    let others = spell_reserves rest ++ ts in
    took text r (from ∷ length ∷ end ∷ others) (at phases.Top 0 [] t) marks.Reserve fits.0
    ∙ (took text from (length ∷ end ∷ others) (at phases.Reserving 0 [] t) (mark_of (text_of text from)) refl
    ∙ (number-run text from (length ∷ end ∷ others) phases.ReservedFrom t fits.1
    ∙ (took text length (end ∷ others) (at phases.ReservedFrom 0 [] t) (mark_of (text_of text length)) refl
    ∙ (number-run text length (end ∷ others) phases.ReservedTo t fits.2
    ∙ (took text end others (at phases.ReservedTo 0 [] t) marks.Semicolon fits.3
    ∙ reserves-run text rest ts t fits.4)))))

-- the whole source
source-run : (text : List ℕ) (s : Source) → FitsSource text s → run text (spelling s) opening ≡ (with_body text 0 0 s.body (add_root s.root opening.tables) >>= λ t. Ok (at phases.Done 0 [] t))
unfolding step_in leave
source-run text s fits =
    let inside = spell_body s.body ++ (s.close ∷ s.end ∷ []) in
    let t = opening.tables in
    took text s.version (s.version_end ∷ (spell_reserves s.reserves ++ (s.root ∷ s.front ∷ inside))) (at phases.Start 0 [] t) marks.Version fits.0
    ∙ (took text s.version_end (spell_reserves s.reserves ++ (s.root ∷ s.front ∷ inside)) (at phases.Versioned 0 [] t) marks.Semicolon fits.1
    ∙ (reserves-run text s.reserves (s.root ∷ s.front ∷ inside) t fits.2
    ∙ (took text s.root (s.front ∷ inside) (at phases.Top 0 [] t) marks.Slash fits.3
    ∙ (took text s.front inside (at (phases.Rooted s.root) 0 [] t) marks.OpenBrace fits.4
    ∙ (body-run text s.body (s.close ∷ s.end ∷ []) 0 [] (add_root s.root t) fits.5
    ∙ bind_same (with_body text 0 0 s.body (add_root s.root t)) _ _ (λ u. took text s.close (s.end ∷ []) (at phases.Ready 0 [] u) marks.CloseBrace fits.6
    ∙ (took text s.end [] (at phases.Closed 0 [] u) marks.Semicolon fits.7 ∙ run-end text (at phases.Done 0 [] u))))))))

pub spelled-meaning : (text : List ℕ) (s : Source) → FitsSource text s → spelled text (spelling s) ≡ meaning text s
unfolding spelled read shown meaning
spelled-meaning text s fits =
    let tokens = spelling s in
    let found = with_body text 0 0 s.body (add_root s.root opening.tables) in
    let end : Tables → Result State TreeFault = λ t. Ok (at phases.Done 0 [] t) in
    ap (λ r. (r >>= ended tokens) >>= shown text) (source-run text s fits)
    ∙ (ap (λ r. r >>= shown text) (bind_assoc found end (ended tokens)) ∙ bind_assoc found (λ t. end t >>= ended tokens) (shown text))

-- what is accepted was read
ok-read : {X Y : Type 0} (r : Result X TreeFault) (f : X → Result Y TreeFault) (y : Y) (P : Type 0) → (r >>= f) ≡ Ok y → IfOk r (λ x. P) → P
ok-read (Ok x) f y P e h = h
ok-read (Err fault) f y P e h = absurd cc

pub accepted : (text : List ℕ) (tokens : List Token) (nodes : List SeenNode) → spelled text tokens ≡ Ok nodes → IsSourceOf text tokens nodes
unfolding spelled
accepted text tokens nodes h =
    let found = ok-read (read text tokens) (shown text) nodes (IsSpelledBySource text tokens) h (read-source text tokens) in
    (found.0, found.1, found.2, sym (spelled-meaning text found.0 found.1) ∙ (ap (spelled text) (sym found.2) ∙ h))

pub complete : (text : List ℕ) (tokens : List Token) (nodes : List SeenNode) → IsSourceOf text tokens nodes → spelled text tokens ≡ Ok nodes
complete text tokens nodes h = ap (spelled text) h.2 ∙ (spelled-meaning text h.0 h.1 ∙ h.3)
