-- Each step keeps what the tables hold.
use Rattle.std.proofs.Common.{◌≡◌, ℕ, suc, ◌+◌, ◌==◌, ◌≤◌, nat_le, All, Bool, true, false, Option, Some, None, Result, Ok, Err, List, [], ◌∷◌, ◌++◌, length, map, refl, arith, IfOk, IfSome, if◌then◌else◌}
use Rattle.std.specs.List.{list_any}
use Rattle.std.specs.Option.{option_map_or}
use Rattle.std.proofs.lemmas.List.{length-append}
use Rattle.std.proofs.lemmas.List.Elements.{All-nil, All-cons, All-head, All-tail, All-push, All-append, All-map}
use Rattle.clk_io.specs.declared.reading.TheConstants.{MOST_BYTES}
use Rattle.dts_tokens.specs.declared.token.Token.{Token}
use Rattle.dts_tokens.specs.Numbers.{number_up_to}
use Rattle.dts_tokens.specs.Tokens.{IsWhole, Rises, text_of}
use Rattle.dts_tree.specs.declared.fault.TreeFault.{TreeFault}
use Rattle.dts_tree.specs.declared.fault.TreeFault.TheVariants as faults
use Rattle.dts_tree.specs.declared.mark.Mark.{Mark}
use Rattle.dts_tree.specs.declared.mark.Mark.TheVariants as marks
use Rattle.dts_tree.specs.declared.rows.Begun.{Begun}
use Rattle.dts_tree.specs.declared.rows.LabelRow.{LabelRow}
use Rattle.dts_tree.specs.declared.rows.NodeRow.{NodeRow}
use Rattle.dts_tree.specs.declared.rows.Numeral.{Numeral}
use Rattle.dts_tree.specs.declared.rows.Phase.{Phase}
use Rattle.dts_tree.specs.declared.rows.Phase.TheVariants as phases
use Rattle.dts_tree.specs.declared.rows.ValueRow.{ValueRow}
use Rattle.dts_tree.specs.declared.rows.ValueRow.TheVariants as values
use Rattle.dts_tree.specs.Grown.{Tables, ◌>>=◌, add_label, add_root, add_node, add_name, add_phandle, phandle_of, end_property, add_value, add_items, label_of, owned_by, begun}
use Rattle.dts_tree.specs.Held.{Holds, HoldsNode, HoldsProperty, HoldsValue, HoldsLabel, IsNumber, IsSpelled}
use Rattle.dts_tree.specs.Marks.{mark_of, is_plain_name, is_node_name, are_bytes}
use Rattle.dts_tree.specs.Read.{opening, ended, is_end, read, node_of, or_else, target, targets}
use Rattle.dts_tree.specs.State.{State}
use Rattle.dts_tree.specs.Steps.{at_start, at_versioned, at_top, at_reserve, at_reserved, at_rooted, at_ready, at_labelled, at_named, at_wanting, at_cells, at_bytes, at_valued, at_closed, label, name, enter, leave, open_property, finish, bare, begin, cell, bytes, bytes_of, step_in, step, run, in_phase, with_tables}
use Rattle.dts_tree.proofs.Quoted.{text-first}
use Rattle.dts_tree.specs.Taken.{Name, is_taken, name_in, same_name}

-- what is found holds also behind one step more
pub IfOk-bind : {X Y : Type 0} (r : Result X TreeFault) (f : X → Result Y TreeFault) (P : X → Type 0) (Q : Y → Type 0) → IfOk r P → ((x : X) → P x → IfOk (f x) Q) → IfOk (r >>= f) Q
IfOk-bind (Ok x) f P Q h g = g x h
IfOk-bind (Err e) f P Q h g = tt

-- where a test refuses, nothing is found
refused : {X : Type 0} (b : Bool) (e : TreeFault) (r : Result X TreeFault) (P : X → Type 0) → IfOk r P → IfOk (if b then Err e else r) P
refused true e r P h = tt
refused false e r P h = h

allowed : {X : Type 0} (b : Bool) (e : TreeFault) (r : Result X TreeFault) (P : X → Type 0) → IfOk r P → IfOk (if b then r else Err e) P
allowed true e r P h = h
allowed false e r P h = tt

numbered : {X : Type 0} (o : Option ℕ) (e : TreeFault) (f : ℕ → Result X TreeFault) (P : X → Type 0) → ((n : ℕ) → IfOk (f n) P) → IfOk (option_map_or f o (Err e)) P
numbered None e f P h = tt
numbered (Some n) e f P h = h n

-- the name that a phase has in mind is of whole characters
abbrev pub InPhase : List ℕ → Phase → Type 0
InPhase text (phases.Rooted w) = IsSpelled text w
InPhase text (phases.Named w) = IsSpelled text w
InPhase text (phases.Wanting p) = IsSpelled text p.name
InPhase text (phases.InCells p from) = IsSpelled text p.name
InPhase text (phases.InBytes p from) = IsSpelled text p.name
InPhase text (phases.Valued p) = IsSpelled text p.name
InPhase text phase = Unit {0}

-- what was read, with so many tokens left
pub record Fine (text : List ℕ) (left : ℕ) (s : State) : Type 0 where
  pub here : IsNumber s.here
  pub above : All IsNumber s.above
  pub room : length s.tables.nodes + left ≤ 4294967295
  pub held : Holds text s.tables
  pub phase : InPhase text s.phase

-- tables that hold, with as many nodes
abbrev pub Likewise : List ℕ → Tables → Tables → Type 0
Likewise text t u = Holds text u × (length u.nodes ≡ length t.nodes)

same : (text : List ℕ) (left : ℕ) (s : State) (p : Phase) (t : Tables) → Fine text left s → InPhase text p → Likewise text s.tables t → Fine text left (with_tables p s t)
same text left s p t f q h = record { here = f.here; above = f.above; room = let r = f.room in omega (arith, r, h.1); held = h.0; phase = q }

next : (text : List ℕ) (left : ℕ) (s : State) (p : Phase) (t : Tables) → Fine text (suc left) s → InPhase text p → Likewise text s.tables t → Fine text left (with_tables p s t)
next text left s p t f q h = record { here = f.here; above = f.above; room = let r = f.room in omega (arith, r, h.1); held = h.0; phase = q }

-- the tables, and what they grow by
label-held : (text : List ℕ) (token : Token) (t : Tables) → Holds text t → IfOk (add_label text token t) (Likewise text t)
unfolding add_label
label-held text token t h =
    let name = name_in 0 (text_of text (label_of token)) in
    let u : Tables = record t { pending = t.pending ++ label_of token ∷ []; marked = t.marked ++ name ∷ [] } in
    let good : Likewise text t u = (h, refl) in
    refused (is_taken name t.marked) (faults.TwiceDefined token.line) (Ok u) (Likewise text t) good

node-held : (text : List ℕ) (here above : ℕ) (w : Token) (t : Tables) → Holds text t → IsSpelled text w → IsNumber here → IsNumber (length t.nodes)
    → IfOk (add_node text here above w t) (λ u. Holds text u × (length u.nodes ≡ length t.nodes + 1))
unfolding add_node
node-held text here above w t h whole low many =
    let row : NodeRow = record { name = w; parent = Some here } in
    let own : All HoldsLabel (map (owned_by (length t.nodes)) t.pending) = All-map HoldsLabel (owned_by (length t.nodes)) t.pending (λ k d below. many) in
    let name = name_in here (text_of text w) in
    let u : Tables = record t { nodes = t.nodes ++ row ∷ []; pending = []; labels = t.labels ++ map (owned_by (length t.nodes)) t.pending; children = t.children ++ name ∷ [] } in
    let P : Tables → Type 0 = λ v. Holds text v × (length v.nodes ≡ length t.nodes + 1) in
    let good : P u = ((All-push (HoldsNode text) t.nodes row h.0 (whole, low), h.1, h.2, All-append HoldsLabel t.labels (map (owned_by (length t.nodes)) t.pending) h.3 own), length-append t.nodes (row ∷ [])) in
    refused (is_taken name t.children) (faults.TwiceDefined w.line) (if nat_le 63 above then Err (faults.TooDeep w.line) else Ok u) P (refused (nat_le 63 above) (faults.TooDeep w.line) (Ok u) P good)

name-held : (text : List ℕ) (w token : Token) (s : State) → Holds text s.tables → IfOk (open_property text w s token) (Likewise text s.tables)
unfolding open_property add_name
name-held text w token s h =
    let name = name_in s.here (text_of text w) in
    let u : Tables = record s.tables { named = s.tables.named ++ name ∷ [] } in
    let good : Likewise text s.tables u = (h, refl) in
    allowed (is_plain_name (text_of text w)) (faults.Syntax token.line) (if is_taken name s.tables.named then Err (faults.TwiceDefined w.line) else Ok u) (Likewise text s.tables)
    (refused (is_taken name s.tables.named) (faults.TwiceDefined w.line) (Ok u) (Likewise text s.tables) good)

phandle-held : (text : List ℕ) (o : Option Numeral) (t : Tables) → Holds text t → IfOk (add_phandle o t) (Likewise text t)
phandle-held text None t h = (h, refl)
phandle-held text (Some n) t h =
    let u : Tables = record t { phandles = t.phandles ++ n.value ∷ [] } in
    let good : Likewise text t u = (h, refl) in
    refused (list_any (λ other. n.value == other) t.phandles) (faults.TwiceDefined n.word.line) (Ok u) (Likewise text t) good

end-held : (text : List ℕ) (here : ℕ) (p : Begun) (t : Tables) → Holds text t → IsSpelled text p.name → IfOk (end_property text here p t) (Likewise text t)
unfolding end_property
end-held text here p t h whole =
    IfOk-bind (add_phandle (phandle_of text p t) t) _ (Likewise text t) (Likewise text t) (phandle-held text (phandle_of text p t) t h)
    (λ u g. ((g.0.0, All-push (HoldsProperty text) u.properties (record { node = here; name = p.name; from = p.values; to = length u.values }) g.0.1 whole, g.0.2, g.0.3), g.1))

value-held : (text : List ℕ) (value : ValueRow) (t : Tables) → Holds text t → HoldsValue text value → Holds text (add_value value t)
value-held text value t h v = (h.0, h.1, All-push (HoldsValue text) t.values value h.2 v, h.3)

-- the steps, by what may follow
start : (text : List ℕ) (left : ℕ) (s : State) (token : Token) (mark : Mark) → Fine text (suc left) s → IfOk (at_start s token mark) (Fine text left)
start text left s token marks.Version f = next text left s phases.Versioned s.tables f tt (f.held, refl)
start text left s token mark f = tt

versioned : (text : List ℕ) (left : ℕ) (s : State) (token : Token) (mark : Mark) → Fine text (suc left) s → IfOk (at_versioned s token mark) (Fine text left)
versioned text left s token marks.Semicolon f = next text left s phases.Top s.tables f tt (f.held, refl)
versioned text left s token mark f = tt

top : (text : List ℕ) (left : ℕ) (s : State) (token : Token) (mark : Mark) → Fine text (suc left) s → IsSpelled text token → IfOk (at_top s token mark) (Fine text left)
top text left s token marks.Reserve f w = next text left s phases.Reserving s.tables f tt (f.held, refl)
top text left s token marks.Slash f w = next text left s (phases.Rooted token) s.tables f w (f.held, refl)
top text left s token mark f w = tt

reserve : (text : List ℕ) (left : ℕ) (to : Phase) (s : State) (token : Token) → Fine text (suc left) s → InPhase text to → IfOk (at_reserve text to s token) (Fine text left)
reserve text left to s token f q = numbered (number_up_to 18446744073709551615 (text_of text token)) _ _ (Fine text left) (λ n. next text left s to s.tables f q (f.held, refl))

reserved : (text : List ℕ) (left : ℕ) (s : State) (token : Token) (mark : Mark) → Fine text (suc left) s → IfOk (at_reserved s token mark) (Fine text left)
reserved text left s token marks.Semicolon f = next text left s phases.Top s.tables f tt (f.held, refl)
reserved text left s token mark f = tt

rooted : (text : List ℕ) (left : ℕ) (root : Token) (s : State) (token : Token) (mark : Mark) → Fine text (suc left) s → IsSpelled text root → IfOk (at_rooted root s token mark) (Fine text left)
unfolding add_root
rooted text left root s token marks.OpenBrace f w =
    let row : NodeRow = record { name = root; parent = None } in
    let r = f.room in
    let more = length-append s.tables.nodes (row ∷ []) in
    record { here = f.here; above = f.above; room = omega (arith, r, more); held = (All-push (HoldsNode text) s.tables.nodes row f.held.0 (w, tt), f.held.1, f.held.2, f.held.3); phase = tt }
rooted text left root s token mark f w = tt

labelled-by : (text : List ℕ) (left : ℕ) (s : State) (token : Token) → Fine text (suc left) s → IfOk (label text s token) (Fine text left)
unfolding label
labelled-by text left s token f = IfOk-bind (add_label text token s.tables) _ (Likewise text s.tables) (Fine text left) (label-held text token s.tables f.held) (λ t h. next text left s phases.Labelled t f tt h)

named-by : (text : List ℕ) (left : ℕ) (s : State) (token : Token) → Fine text (suc left) s → IsSpelled text token → IfOk (name text s token) (Fine text left)
unfolding name
named-by text left s token f w =
    allowed (is_node_name (text_of text token)) (faults.Syntax token.line) (Ok (in_phase (phases.Named token) s)) (Fine text left) (next text left s (phases.Named token) s.tables f w (f.held, refl))

ready : (text : List ℕ) (left : ℕ) (s : State) (token : Token) (mark : Mark) → Fine text (suc left) s → IsSpelled text token → IfOk (at_ready text s token mark) (Fine text left)
ready text left s token marks.Label f w = labelled-by text left s token f
ready text left s token marks.Word f w = named-by text left s token f w
ready text left s token marks.Comma f w = named-by text left s token f w
ready text left s token marks.CloseBrace f w = next text left s phases.Closed s.tables f tt (f.held, refl)
ready text left s token mark f w = tt

labelled : (text : List ℕ) (left : ℕ) (s : State) (token : Token) (mark : Mark) → Fine text (suc left) s → IsSpelled text token → IfOk (at_labelled text s token mark) (Fine text left)
labelled text left s token marks.Label f w = labelled-by text left s token f
labelled text left s token marks.Word f w = named-by text left s token f w
labelled text left s token marks.Comma f w = named-by text left s token f w
labelled text left s token mark f w = tt

entered : (text : List ℕ) (left : ℕ) (w : Token) (s : State) → Fine text (suc left) s → IsSpelled text w → IfOk (enter text w s) (Fine text left)
unfolding enter
entered text left w s f whole =
    let r = f.room in
    let many : IsNumber (length s.tables.nodes) = omega (arith, r) in
    IfOk-bind (add_node text s.here (length s.above) w s.tables) _ (λ u. Holds text u × (length u.nodes ≡ length s.tables.nodes + 1)) (Fine text left) (node-held text s.here (length s.above) w s.tables f.held whole f.here many)
    (λ u g. record { here = many; above = All-cons IsNumber s.here s.above f.here f.above; room = omega (arith, r, g.1); held = g.0; phase = tt })

finished : (text : List ℕ) (left : ℕ) (p : Begun) (s : State) → Fine text (suc left) s → IsSpelled text p.name → IfOk (finish text p s) (Fine text left)
unfolding finish
finished text left p s f w = IfOk-bind (end_property text s.here p s.tables) _ (Likewise text s.tables) (Fine text left) (end-held text s.here p s.tables f.held w) (λ t h. next text left s phases.Ready t f tt h)

named : (text : List ℕ) (left : ℕ) (w : Token) (s : State) (token : Token) (mark : Mark) → Fine text (suc left) s → IsSpelled text w → IfOk (at_named text w s token mark) (Fine text left)
unfolding bare begin
named text left w s token marks.OpenBrace f whole = entered text left w s f whole
named text left w s token marks.Semicolon f whole =
    IfOk-bind (open_property text w s token) _ (Likewise text s.tables) (Fine text left) (name-held text w token s f.held) (λ t h. finished text left (begun w t) (with_tables phases.Ready s t) (same text (suc left) s phases.Ready t f tt h) whole)
named text left w s token marks.Equals f whole =
    IfOk-bind (open_property text w s token) _ (Likewise text s.tables) (Fine text left) (name-held text w token s f.held) (λ t h. next text left s (phases.Wanting (begun w t)) t f whole h)
named text left w s token mark f whole = tt

wanting : (text : List ℕ) (left : ℕ) (p : Begun) (s : State) (token : Token) (mark : Mark) → Fine text (suc left) s → IsSpelled text p.name → IsWhole text token → mark_of (text_of text token) ≡ mark
    → IfOk (at_wanting p s token mark) (Fine text left)
wanting text left p s token marks.Text f q w e = next text left s (phases.Valued p) (add_value (values.Text token) s.tables) f q (value-held text (values.Text token) s.tables f.held (w.1 (text-first (text_of text token) e)), refl)
wanting text left p s token marks.Reference f q w e = next text left s (phases.Valued p) _ f q (value-held text (values.Node (length s.tables.references)) s.tables f.held tt, refl)
wanting text left p s token marks.Less f q w e = next text left s (phases.InCells p (length s.tables.items)) s.tables f q (f.held, refl)
wanting text left p s token marks.OpenBracket f q w e = next text left s (phases.InBytes p (length s.tables.items)) s.tables f q (f.held, refl)
wanting text left p s token mark f q w e = tt

in_cells : (text : List ℕ) (left : ℕ) (p : Begun) (from : ℕ) (s : State) (token : Token) (mark : Mark) → Fine text (suc left) s → IsSpelled text p.name → IfOk (at_cells text p from s token mark) (Fine text left)
unfolding cell
in_cells text left p from s token marks.Word f q = numbered (number_up_to 4294967295 (text_of text token)) _ _ (Fine text left) (λ n. next text left s s.phase _ f f.phase (f.held, refl))
in_cells text left p from s token marks.Reference f q = next text left s s.phase _ f f.phase (f.held, refl)
in_cells text left p from s token marks.Greater f q =
    let row : ValueRow = values.Cells (record { from = from; to = length s.tables.items }) in
    next text left s (phases.Valued p) (add_value row s.tables) f q (value-held text row s.tables f.held tt, refl)
in_cells text left p from s token mark f q = tt

in_bytes : (text : List ℕ) (left : ℕ) (p : Begun) (from : ℕ) (s : State) (token : Token) (mark : Mark) → Fine text (suc left) s → IsSpelled text p.name → IfOk (at_bytes text p from s token mark) (Fine text left)
unfolding bytes
in_bytes text left p from s token marks.Word f q =
    let u = add_items (bytes_of (text_of text token)) s.tables in
    allowed (are_bytes (text_of text token)) (faults.Syntax token.line) (Ok (record s { tables = u })) (Fine text left) (next text left s s.phase u f f.phase (f.held, refl))
in_bytes text left p from s token marks.CloseBracket f q =
    let row : ValueRow = values.Bytes (record { from = from; to = length s.tables.items }) in
    next text left s (phases.Valued p) (add_value row s.tables) f q (value-held text row s.tables f.held tt, refl)
in_bytes text left p from s token mark f q = tt

valued : (text : List ℕ) (left : ℕ) (p : Begun) (s : State) (token : Token) (mark : Mark) → Fine text (suc left) s → IsSpelled text p.name → IfOk (at_valued text p s token mark) (Fine text left)
valued text left p s token marks.Comma f q = next text left s (phases.Wanting p) s.tables f q (f.held, refl)
valued text left p s token marks.Semicolon f q = finished text left p s f q
valued text left p s token mark f q = tt

left-by : (text : List ℕ) (left : ℕ) (above : List ℕ) (s : State) → Fine text (suc left) s → All IsNumber above → Fine text left (leave above s)
unfolding leave
left-by text left [] s f a = next text left s phases.Done s.tables f tt (f.held, refl)
left-by text left (parent ∷ above) s f a = let r = f.room in record { here = All-head IsNumber parent above a; above = All-tail IsNumber parent above a; room = omega (arith, r); held = f.held; phase = tt }

closed : (text : List ℕ) (left : ℕ) (s : State) (token : Token) (mark : Mark) → Fine text (suc left) s → IfOk (at_closed s token mark) (Fine text left)
closed text left s token marks.Semicolon f = left-by text left s.above s f f.above
closed text left s token mark f = tt

-- whatever may follow
stepped : (text : List ℕ) (left : ℕ) (phase : Phase) (s : State) (token : Token) (mark : Mark) → Fine text (suc left) s → InPhase text phase → IsWhole text token → mark_of (text_of text token) ≡ mark
    → IfOk (step_in text phase s token mark) (Fine text left)
unfolding step_in
stepped text left phases.Start s token mark f q w e = start text left s token mark f
stepped text left phases.Versioned s token mark f q w e = versioned text left s token mark f
stepped text left phases.Top s token mark f q w e = top text left s token mark f w.0
stepped text left phases.Reserving s token mark f q w e = reserve text left phases.ReservedFrom s token f tt
stepped text left phases.ReservedFrom s token mark f q w e = reserve text left phases.ReservedTo s token f tt
stepped text left phases.ReservedTo s token mark f q w e = reserved text left s token mark f
stepped text left (phases.Rooted root) s token mark f q w e = rooted text left root s token mark f q
stepped text left phases.Ready s token mark f q w e = ready text left s token mark f w.0
stepped text left phases.Labelled s token mark f q w e = labelled text left s token mark f w.0
stepped text left (phases.Named n) s token mark f q w e = named text left n s token mark f q
stepped text left (phases.Wanting p) s token mark f q w e = wanting text left p s token mark f q w e
stepped text left (phases.InCells p from) s token mark f q w e = in_cells text left p from s token mark f q
stepped text left (phases.InBytes p from) s token mark f q w e = in_bytes text left p from s token mark f q
stepped text left (phases.Valued p) s token mark f q w e = valued text left p s token mark f q
stepped text left phases.Closed s token mark f q w e = closed text left s token mark f
stepped text left phases.Done s token mark f q w e = tt

-- all tokens
ran : (text : List ℕ) (tokens : List Token) (s : State) → Fine text (length tokens) s → All (IsWhole text) tokens → IfOk (run text tokens s) (Fine text 0)
unfolding run step
ran text [] s f w = f
ran text (token ∷ tokens) s f w =
    IfOk-bind (step text s token) (run text tokens) (Fine text (length tokens)) (Fine text 0)
    (stepped text (length tokens) s.phase s token (mark_of (text_of text token)) f f.phase (All-head (IsWhole text) token tokens w) refl)
    (λ u g. ran text tokens u g (All-tail (IsWhole text) token tokens w))

-- so many tokens have so many bytes
Rises-count : (from : ℕ) (tokens : List Token) (end : ℕ) → Rises from tokens end → from + length tokens ≤ end
Rises-count from [] end h = omega (arith, h)
Rises-count from (token ∷ tokens) end h = let more = Rises-count token.to tokens end h.2 in omega (arith, more, h.0, h.1)

-- what is read of whole tokens can be shown
pub read-held : (text : List ℕ) (tokens : List Token) → length text ≤ MOST_BYTES → Rises 0 tokens (length text) → All (IsWhole text) tokens → IfOk (read text tokens) (λ s. Holds text s.tables)
unfolding read
read-held text tokens short rises w =
    let few = Rises-count 0 tokens (length text) rises in
    let f : Fine text (length tokens) opening = record { here = omega arith; above = All-nil IsNumber; room = omega (arith, few, short); held = (All-nil (HoldsNode text), All-nil (HoldsProperty text), All-nil (HoldsValue text), All-nil HoldsLabel); phase = tt } in
    IfOk-bind (run text tokens opening) (ended tokens) (Fine text 0) (λ s. Holds text s.tables) (ran text tokens opening f w) (λ u g. allowed (is_end u.phase) _ _ (λ s. Holds text s.tables) g.held)

-- a reference means a node of the tables
node_of-number : (text : List ℕ) (rows : List LabelRow) (name : Name) → All HoldsLabel rows → IfSome (node_of text rows name) IsNumber
node_of-number text [] name h = tt
node_of-number text (row ∷ rows) name h =
    chosen (node_of text rows name) (same_name (name_in 0 (text_of text row.name)) name) row.node (node_of-number text rows name (All-tail HoldsLabel row rows h)) (All-head HoldsLabel row rows h)
  where
    chosen : (o : Option ℕ) (b : Bool) (n : ℕ) → IfSome o IsNumber → IsNumber n → IfSome (or_else o (if b then Some n else None)) IsNumber
    chosen (Some m) b n low here = low
    chosen None true n low here = here
    chosen None false n low here = tt

target-number : (text : List ℕ) (rows : List LabelRow) (token : Token) → All HoldsLabel rows → IfOk (target text rows token) IsNumber
target-number text rows token h = told (node_of text rows (name_in 0 (text_of text token))) (node_of-number text rows (name_in 0 (text_of text token)) h)
  where
    told : (o : Option ℕ) → IfSome o IsNumber → IfOk (elim o [ None ↦ Err (faults.NoSuchLabel token.line) | Some node ↦ Ok node ]) IsNumber
    told None low = tt
    told (Some n) low = low

pub targets-number : (text : List ℕ) (rows : List LabelRow) (tokens : List Token) → All HoldsLabel rows → IfOk (targets text rows tokens) (All IsNumber)
targets-number text rows [] h = All-nil IsNumber
targets-number text rows (token ∷ tokens) h =
    IfOk-bind (target text rows token) _ IsNumber (All IsNumber) (target-number text rows token h)
    (λ n low. IfOk-bind (targets text rows tokens) _ (All IsNumber) (All IsNumber) (targets-number text rows tokens h) (λ ns lows. All-cons IsNumber n ns low lows))
