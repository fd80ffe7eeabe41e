-- Tokens are refused for what they spell, never for want of memory.
use Rattle.std.proofs.Common.{ℕ, ◌==◌, nat_le, Bool, true, false, Option, Some, None, Result, Ok, Err, List, [], ◌∷◌, ◌++◌, length, map, IfErr, if◌then◌else◌}
use Rattle.std.specs.List.{list_any}
use Rattle.std.specs.Option.{option_map_or}
use Rattle.dts_tokens.specs.declared.token.Token.{Token}
use Rattle.dts_tokens.specs.Numbers.{number_up_to}
use Rattle.dts_tokens.specs.Tokens.{text_of}
use Rattle.dts_tree.specs.declared.fault.TreeFault.{TreeFault}
use Rattle.dts_tree.specs.declared.fault.TreeFault.TheVariants as faults
use Rattle.dts_tree.specs.declared.mark.Mark.{Mark}
use Rattle.dts_tree.specs.declared.mark.Mark.TheVariants as marks
use Rattle.dts_tree.specs.declared.rows.Begun.{Begun}
use Rattle.dts_tree.specs.declared.rows.Item.TheVariants as items
use Rattle.dts_tree.specs.declared.rows.LabelRow.{LabelRow}
use Rattle.dts_tree.specs.declared.rows.Numeral.{Numeral}
use Rattle.dts_tree.specs.declared.rows.Phase.{Phase}
use Rattle.dts_tree.specs.declared.rows.Phase.TheVariants as phases
use Rattle.dts_tree.specs.Grown.{Tables, ◌>>=◌, add_label, add_node, add_name, add_phandle, add_property, add_item, add_items, phandle_of, end_property, label_of, owned_by, begun}
use Rattle.dts_tree.specs.Marks.{mark_of, is_plain_name, is_node_name, are_bytes}
use Rattle.dts_tree.specs.Parsed.{shown, spelled}
use Rattle.dts_tree.specs.Read.{opening, ended, is_end, last_line, read, node_of, target, targets}
use Rattle.dts_tree.specs.State.{State}
use Rattle.dts_tree.specs.Steps.{at_start, at_versioned, at_top, at_reserve, at_reserved, at_rooted, at_ready, at_labelled, at_named, at_wanting, at_cells, at_bytes, at_valued, at_closed, label, name, enter, open_property, finish, bare, begin, cell, bytes, bytes_of, step_in, step, run, in_phase, with_tables, wrong}
use Rattle.dts_tree.specs.Taken.{is_taken, name_in}
use Rattle.dts_tree.specs.Tree.{tree_of}

-- a fault that isn't want of memory
abbrev pub IsNotMemory : TreeFault → Type 0
IsNotMemory faults.NoMemory = ⊥
IsNotMemory fault = Unit {0}

-- refused for another reason than want of memory, if at all
abbrev pub Lasts : {X : Type 0} → Result X TreeFault → Type 0
Lasts r = IfErr r IsNotMemory

onward : {X Y : Type 0} (r : Result X TreeFault) (f : X → Result Y TreeFault) → Lasts r → ((x : X) → Lasts (f x)) → Lasts (r >>= f)
onward (Ok x) f h g = g x
onward (Err e) f h g = h

either : {X : Type 0} (b : Bool) (one other : Result X TreeFault) → Lasts one → Lasts other → Lasts (if b then one else other)
either true one other h g = h
either false one other h g = g

numbered : {X : Type 0} (o : Option ℕ) (f : ℕ → Result X TreeFault) (other : Result X TreeFault) → ((n : ℕ) → Lasts (f n)) → Lasts other → Lasts (option_map_or f o other)
numbered None f other h g = g
numbered (Some n) f other h g = h n

-- ## Tables

label-lasts : (text : List ℕ) (token : Token) (t : Tables) → Lasts (add_label text token t)
unfolding add_label
label-lasts text token t =
    let name = name_in 0 (text_of text (label_of token)) in
    let u : Tables = record t { pending = t.pending ++ label_of token ∷ []; marked = t.marked ++ name ∷ [] } in
    either (is_taken name t.marked) (Err (faults.TwiceDefined token.line)) (Ok u) tt tt

node-lasts : (text : List ℕ) (here above : ℕ) (w : Token) (t : Tables) → Lasts (add_node text here above w t)
unfolding add_node
node-lasts text here above w t =
    let name = name_in here (text_of text w) in
    let u : Tables = record t { nodes = t.nodes ++ record { name = w; parent = Some here } ∷ []; pending = []; labels = t.labels ++ map (owned_by (length t.nodes)) t.pending; children = t.children ++ name ∷ [] } in
    either (is_taken name t.children) (Err (faults.TwiceDefined w.line)) (if nat_le 63 above then Err (faults.TooDeep w.line) else Ok u) tt (either (nat_le 63 above) (Err (faults.TooDeep w.line)) (Ok u) tt tt)

name-lasts : (text : List ℕ) (here : ℕ) (w : Token) (t : Tables) → Lasts (add_name text here w t)
unfolding add_name
name-lasts text here w t =
    let name = name_in here (text_of text w) in
    let u : Tables = record t { named = t.named ++ name ∷ [] } in
    either (is_taken name t.named) (Err (faults.TwiceDefined w.line)) (Ok u) tt tt

phandle-lasts : (o : Option Numeral) (t : Tables) → Lasts (add_phandle o t)
phandle-lasts None t = tt
phandle-lasts (Some n) t =
    let u : Tables = record t { phandles = t.phandles ++ n.value ∷ [] } in
    either (list_any (λ other. n.value == other) t.phandles) (Err (faults.TwiceDefined n.word.line)) (Ok u) tt tt

end-lasts : (text : List ℕ) (here : ℕ) (p : Begun) (t : Tables) → Lasts (end_property text here p t)
unfolding end_property
end-lasts text here p t = onward (add_phandle (phandle_of text p t) t) (λ u. Ok (add_property here p u)) (phandle-lasts (phandle_of text p t) t) (λ u. tt)

-- ## Steps

start : (s : State) (token : Token) (mark : Mark) → Lasts (at_start s token mark)
start s token marks.Version = tt
start s token mark = tt

versioned : (s : State) (token : Token) (mark : Mark) → Lasts (at_versioned s token mark)
versioned s token marks.Semicolon = tt
versioned s token mark = tt

top : (s : State) (token : Token) (mark : Mark) → Lasts (at_top s token mark)
top s token marks.Reserve = tt
top s token marks.Slash = tt
top s token mark = tt

reserve : (text : List ℕ) (next : Phase) (s : State) (token : Token) → Lasts (at_reserve text next s token)
reserve text next s token = numbered (number_up_to 18446744073709551615 (text_of text token)) (λ n. Ok (in_phase next s)) (wrong token) (λ n. tt) tt

reserved : (s : State) (token : Token) (mark : Mark) → Lasts (at_reserved s token mark)
reserved s token marks.Semicolon = tt
reserved s token mark = tt

rooted : (root : Token) (s : State) (token : Token) (mark : Mark) → Lasts (at_rooted root s token mark)
rooted root s token marks.OpenBrace = tt
rooted root s token mark = tt

labels : (text : List ℕ) (s : State) (token : Token) → Lasts (label text s token)
unfolding label
labels text s token = onward (add_label text token s.tables) (λ t. Ok (with_tables phases.Labelled s t)) (label-lasts text token s.tables) (λ t. tt)

names : (text : List ℕ) (s : State) (token : Token) → Lasts (name text s token)
unfolding name
names text s token = either (is_node_name (text_of text token)) (Ok (in_phase (phases.Named token) s)) (wrong token) tt tt

ready : (text : List ℕ) (s : State) (token : Token) (mark : Mark) → Lasts (at_ready text s token mark)
ready text s token marks.Label = labels text s token
ready text s token marks.Word = names text s token
ready text s token marks.Comma = names text s token
ready text s token marks.CloseBrace = tt
ready text s token mark = tt

labelled : (text : List ℕ) (s : State) (token : Token) (mark : Mark) → Lasts (at_labelled text s token mark)
labelled text s token marks.Label = labels text s token
labelled text s token marks.Word = names text s token
labelled text s token marks.Comma = names text s token
labelled text s token mark = tt

enters : (text : List ℕ) (w : Token) (s : State) → Lasts (enter text w s)
unfolding enter
enters text w s = onward (add_node text s.here (length s.above) w s.tables) _ (node-lasts text s.here (length s.above) w s.tables) (λ t. tt)

opens : (text : List ℕ) (w : Token) (s : State) (token : Token) → Lasts (open_property text w s token)
unfolding open_property
opens text w s token = either (is_plain_name (text_of text w)) (add_name text s.here w s.tables) (wrong token) (name-lasts text s.here w s.tables) tt

finishes : (text : List ℕ) (p : Begun) (s : State) → Lasts (finish text p s)
unfolding finish
finishes text p s = onward (end_property text s.here p s.tables) (λ t. Ok (with_tables phases.Ready s t)) (end-lasts text s.here p s.tables) (λ t. tt)

named : (text : List ℕ) (w : Token) (s : State) (token : Token) (mark : Mark) → Lasts (at_named text w s token mark)
unfolding bare begin
named text w s token marks.OpenBrace = enters text w s
named text w s token marks.Semicolon = onward (open_property text w s token) _ (opens text w s token) (λ t. finishes text (begun w t) (with_tables phases.Ready s t))
named text w s token marks.Equals = onward (open_property text w s token) _ (opens text w s token) (λ t. tt)
named text w s token mark = tt

wanting : (p : Begun) (s : State) (token : Token) (mark : Mark) → Lasts (at_wanting p s token mark)
wanting p s token marks.Text = tt
wanting p s token marks.Reference = tt
wanting p s token marks.Less = tt
wanting p s token marks.OpenBracket = tt
wanting p s token mark = tt

cells : (text : List ℕ) (p : Begun) (from : ℕ) (s : State) (token : Token) (mark : Mark) → Lasts (at_cells text p from s token mark)
unfolding cell
cells text p from s token marks.Word =
    numbered (number_up_to 4294967295 (text_of text token)) (λ n. Ok (record s { tables = add_item (items.Number (record { value = n; word = token })) s.tables })) (wrong token) (λ n. tt) tt
cells text p from s token marks.Reference = tt
cells text p from s token marks.Greater = tt
cells text p from s token mark = tt

in_bytes : (text : List ℕ) (p : Begun) (from : ℕ) (s : State) (token : Token) (mark : Mark) → Lasts (at_bytes text p from s token mark)
unfolding bytes
in_bytes text p from s token marks.Word =
    let u = add_items (bytes_of (text_of text token)) s.tables in
    either (are_bytes (text_of text token)) (Ok (record s { tables = u })) (wrong token) tt tt
in_bytes text p from s token marks.CloseBracket = tt
in_bytes text p from s token mark = tt

valued : (text : List ℕ) (p : Begun) (s : State) (token : Token) (mark : Mark) → Lasts (at_valued text p s token mark)
valued text p s token marks.Comma = tt
valued text p s token marks.Semicolon = finishes text p s
valued text p s token mark = tt

closed : (s : State) (token : Token) (mark : Mark) → Lasts (at_closed s token mark)
closed s token marks.Semicolon = tt
closed s token mark = tt

stepped : (text : List ℕ) (phase : Phase) (s : State) (token : Token) (mark : Mark) → Lasts (step_in text phase s token mark)
unfolding step_in
stepped text phases.Start s token mark = start s token mark
stepped text phases.Versioned s token mark = versioned s token mark
stepped text phases.Top s token mark = top s token mark
stepped text phases.Reserving s token mark = reserve text phases.ReservedFrom s token
stepped text phases.ReservedFrom s token mark = reserve text phases.ReservedTo s token
stepped text phases.ReservedTo s token mark = reserved s token mark
stepped text (phases.Rooted root) s token mark = rooted root s token mark
stepped text phases.Ready s token mark = ready text s token mark
stepped text phases.Labelled s token mark = labelled text s token mark
stepped text (phases.Named w) s token mark = named text w s token mark
stepped text (phases.Wanting p) s token mark = wanting p s token mark
stepped text (phases.InCells p from) s token mark = cells text p from s token mark
stepped text (phases.InBytes p from) s token mark = in_bytes text p from s token mark
stepped text (phases.Valued p) s token mark = valued text p s token mark
stepped text phases.Closed s token mark = closed s token mark
stepped text phases.Done s token mark = tt

-- ## Sources

runs : (text : List ℕ) (tokens : List Token) (s : State) → Lasts (run text tokens s)
unfolding run step
runs text [] s = tt
runs text (token ∷ tokens) s = onward (step text s token) (run text tokens) (stepped text s.phase s token (mark_of (text_of text token))) (λ u. runs text tokens u)

reads : (text : List ℕ) (tokens : List Token) → Lasts (read text tokens)
unfolding read
reads text tokens = onward (run text tokens opening) (ended tokens) (runs text tokens opening) (λ s. either (is_end s.phase) (Ok s) (Err (faults.Syntax (last_line 1 tokens))) tt tt)

target-lasts : (text : List ℕ) (rows : List LabelRow) (token : Token) → Lasts (target text rows token)
target-lasts text rows token = told (node_of text rows (name_in 0 (text_of text token)))
  where
    told : (o : Option ℕ) → Lasts (let r : Result ℕ TreeFault = elim o [ None ↦ Err (faults.NoSuchLabel token.line) | Some node ↦ Ok node ] in r)
    told None = tt
    told (Some n) = tt

targets-last : (text : List ℕ) (rows : List LabelRow) (tokens : List Token) → Lasts (targets text rows tokens)
targets-last text rows [] = tt
targets-last text rows (token ∷ tokens) = onward (target text rows token) _ (target-lasts text rows token) (λ n. onward (targets text rows tokens) _ (targets-last text rows tokens) (λ ns. tt))

shows : (text : List ℕ) (s : State) → Lasts (shown text s)
unfolding shown
shows text s = onward (targets text s.tables.labels s.tables.references) (λ found. Ok (tree_of text s.tables found)) (targets-last text s.tables.labels s.tables.references) (λ found. tt)

pub spelled-lasts : (text : List ℕ) (tokens : List Token) → Lasts (spelled text tokens)
unfolding spelled
spelled-lasts text tokens = onward (read text tokens) (shown text) (reads text tokens) (λ s. shows text s)
