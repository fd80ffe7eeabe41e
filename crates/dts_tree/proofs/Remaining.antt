-- What is read to its end is spelled by a syntax tree: what is left to read, by what may follow.
use Rattle.std.proofs.Common.{◌≡◌, ℕ, zero, suc, All, Bool, true, false, Option, Some, None, Result, Ok, Err, List, [], ◌∷◌, ◌++◌, length, refl, sym, ap, subst, ◌∙◌, inl, inr, append_assoc, IfOk, if◌then◌else◌}
use Rattle.std.specs.Option.{is_some, option_map_or}
use Rattle.std.proofs.lemmas.List.Elements.{All-nil, All-cons, All-push}
use Rattle.dts_tokens.specs.declared.token.Token.{Token}
use Rattle.dts_tokens.specs.Numbers.{number_up_to}
use Rattle.dts_tokens.specs.Tokens.{text_of}
use Rattle.dts_tree.specs.declared.fault.TreeFault.{TreeFault}
use Rattle.dts_tree.specs.declared.fault.TreeFault.TheVariants as faults
use Rattle.dts_tree.specs.declared.mark.Mark.{Mark}
use Rattle.dts_tree.specs.declared.mark.Mark.TheVariants as marks
use Rattle.dts_tree.specs.declared.rows.Begun.{Begun}
use Rattle.dts_tree.specs.declared.rows.Phase.{Phase}
use Rattle.dts_tree.specs.declared.rows.Phase.TheVariants as phases
use Rattle.dts_tree.specs.Grammar.{Value, Text, Target, Cells, Bytes, Values, Last, More, Body, Empty, Child, Bare, Property, Reserves, NoLine, Line, Source, spell_value, spell_values, spell_body, spell_reserves, spelling, Is, IsName, IsNumeral, IsCell, IsByteString, FitsValue, FitsValues, FitsBody, FitsReserves, IsSpelledBySource}
use Rattle.dts_tree.specs.Grown.{◌>>=◌, add_label, add_node, add_name, add_items, end_property, begun}
use Rattle.dts_tree.specs.Marks.{mark_of, is_plain_name, is_node_name, are_bytes}
use Rattle.dts_tree.specs.Read.{opening, ended, is_end, read}
use Rattle.dts_tree.specs.State.{State}
use Rattle.dts_tree.specs.Steps.{at_start, at_versioned, at_top, at_reserve, at_reserved, at_rooted, at_ready, at_labelled, at_named, at_wanting, at_cells, at_bytes, at_valued, at_closed, label, name, enter, leave, open_property, finish, bare, begin, cell, bytes, bytes_of, step_in, step, run, in_phase, with_tables}
use Rattle.dts_tree.proofs.Holding.{IfOk-bind}

-- whatever was found before
bound : {X Y : Type 0} (r : Result X TreeFault) (f : X → Result Y TreeFault) (Q : Y → Type 0) → ((x : X) → IfOk (f x) Q) → IfOk (r >>= f) Q
bound (Ok x) f Q g = g x
bound (Err e) f Q g = tt

-- where a test allows it
allowed-if : {X : Type 0} (b : Bool) (e : TreeFault) (r : Result X TreeFault) (P : X → Type 0) → (b ≡ true → IfOk r P) → IfOk (if b then r else Err e) P
allowed-if true e r P h = h refl
allowed-if false e r P h = tt

numbered-if : {X : Type 0} (o : Option ℕ) (e : TreeFault) (f : ℕ → Result X TreeFault) (P : X → Type 0) → (is_some o ≡ true → (n : ℕ) → IfOk (f n) P) → IfOk (option_map_or f o (Err e)) P
numbered-if None e f P h = tt
numbered-if (Some n) e f P h = h refl n

found-if : {X : Type 0} (b : Bool) (e : TreeFault) (r : Result X TreeFault) → IfOk (if b then r else Err e) (λ x. b ≡ true)
found-if true e (Ok x) = refl
found-if true e (Err f) = tt
found-if false e r = tt

weaker : {X : Type 0} (r : Result X TreeFault) (P Q : X → Type 0) → IfOk r P → ((x : X) → P x → Q x) → IfOk r Q
weaker (Ok x) P Q h g = g x h
weaker (Err e) P Q h g = tt

-- in a node: what stands in it, its end, and then what comes behind it
pub record InNode (text : List ℕ) (P : List Token → Type 0) (ts : List Token) : Type 0 where
  pub body : Body
  pub close : Token
  pub end : Token
  pub tail : List Token
  pub fits : FitsBody text body
  pub closes : Is text marks.CloseBrace close
  pub ends : Is text marks.Semicolon end
  pub spells : ts ≡ spell_body body ++ (close ∷ end ∷ tail)
  pub after : P tail

-- behind a node with so many above it
abbrev pub After : List ℕ → ℕ → List Token → Type 0
After text zero ts = ts ≡ []
After text (suc n) ts = InNode text (After text n) ts

-- where values begin: values, their end, and the rest of the node
pub record Assigned (text : List ℕ) (n : ℕ) (ts : List Token) : Type 0 where
  pub values : Values
  pub end : Token
  pub tail : List Token
  pub fits : FitsValues text values
  pub ends : Is text marks.Semicolon end
  pub spells : ts ≡ spell_values values ++ (end ∷ tail)
  pub after : InNode text (After text n) tail

-- before the root
pub record Ahead (text : List ℕ) (n : ℕ) (ts : List Token) : Type 0 where
  pub reserves : Reserves
  pub root : Token
  pub front : Token
  pub tail : List Token
  pub fits : FitsReserves text reserves
  pub slash : Is text marks.Slash root
  pub opens : Is text marks.OpenBrace front
  pub spells : ts ≡ spell_reserves reserves ++ (root ∷ front ∷ tail)
  pub after : InNode text (After text n) tail

-- a semicolon, and then what comes behind it
pub record Ended (text : List ℕ) (P : List Token → Type 0) (ts : List Token) : Type 0 where
  pub end : Token
  pub tail : List Token
  pub ends : Is text marks.Semicolon end
  pub spells : ts ≡ end ∷ tail
  pub after : P tail

-- a number, and then what comes behind it
pub record Numbered (text : List ℕ) (P : List Token → Type 0) (ts : List Token) : Type 0 where
  pub number : Token
  pub tail : List Token
  pub fits : IsNumeral text 18446744073709551615 number
  pub spells : ts ≡ number ∷ tail
  pub after : P tail

-- the root's brace
pub record Opened (text : List ℕ) (n : ℕ) (ts : List Token) : Type 0 where
  pub front : Token
  pub tail : List Token
  pub opens : Is text marks.OpenBrace front
  pub spells : ts ≡ front ∷ tail
  pub after : InNode text (After text n) tail

-- the whole source
pub record Begins (text : List ℕ) (n : ℕ) (ts : List Token) : Type 0 where
  pub version : Token
  pub tail : List Token
  pub fits : Is text marks.Version version
  pub spells : ts ≡ version ∷ tail
  pub after : Ended text (Ahead text n) tail

-- what is left, by what may follow, with so many nodes above the open one
abbrev pub Remains : List ℕ → Phase → ℕ → List Token → Type 0
Remains text phases.Start n ts = Begins text n ts
Remains text phases.Versioned n ts = Ended text (Ahead text n) ts
Remains text phases.Top n ts = Ahead text n ts
Remains text phases.Reserving n ts = Numbered text (Numbered text (Ended text (Ahead text n))) ts
Remains text phases.ReservedFrom n ts = Numbered text (Ended text (Ahead text n)) ts
Remains text phases.ReservedTo n ts = Ended text (Ahead text n) ts
Remains text (phases.Rooted root) n ts = Opened text n ts
Remains text phases.Ready n ts = InNode text (After text n) ts
Remains text phases.Labelled n ts = (ls : List Token) → All (Is text marks.Label) ls → InNode text (After text n) (ls ++ ts)
Remains text (phases.Named w) n ts = (ls : List Token) → All (Is text marks.Label) ls → IsName text w → InNode text (After text n) (ls ++ (w ∷ ts))
Remains text (phases.Wanting p) n ts = Assigned text n ts
Remains text (phases.InCells p from) n ts = (front : Token) (cs : List Token) → Is text marks.Less front → All (IsCell text) cs → Assigned text n (front ∷ (cs ++ ts))
Remains text (phases.InBytes p from) n ts = (front : Token) (bs : List Token) → Is text marks.OpenBracket front → All (IsByteString text) bs → Assigned text n (front ∷ (bs ++ ts))
Remains text (phases.Valued p) n ts = (v : Value) → FitsValue text v → Assigned text n (spell_value v ++ ts)
Remains text phases.Closed n ts = Ended text (After text n) ts
Remains text phases.Done n ts = ts ≡ []

-- one token before what is left
abbrev Goes : List ℕ → List Token → Phase → ℕ → Token → State → Type 0
Goes text ts phase n token s = Remains text s.phase (length s.above) ts → Remains text phase n (token ∷ ts)

one : (P : Token → Type 0) (t : Token) → P t → All P (t ∷ [])
one P t h = All-cons P t [] h (All-nil P)

-- the tokens of a child, and of properties
child-spelled : (ls : List Token) (w o c e : Token) (xs ys zs ts tail : List Token) → ts ≡ xs ++ (c ∷ e ∷ tail) → tail ≡ ys ++ zs → ls ++ (w ∷ o ∷ ts) ≡ (ls ++ (w ∷ o ∷ (xs ++ (c ∷ e ∷ ys)))) ++ zs
child-spelled ls w o c e xs ys zs ts tail h k =
    ap (λ us. ls ++ (w ∷ o ∷ us)) (h ∙ (ap (λ us. xs ++ (c ∷ e ∷ us)) k ∙ sym (append_assoc xs (c ∷ e ∷ ys) zs))) ∙ sym (append_assoc ls (w ∷ o ∷ (xs ++ (c ∷ e ∷ ys))) zs)

bare-spelled : (ls : List Token) (w e : Token) (ys zs ts : List Token) → ts ≡ ys ++ zs → ls ++ (w ∷ e ∷ ts) ≡ (ls ++ (w ∷ e ∷ ys)) ++ zs
bare-spelled ls w e ys zs ts h = ap (λ us. ls ++ (w ∷ e ∷ us)) h ∙ sym (append_assoc ls (w ∷ e ∷ ys) zs)

property-spelled : (ls : List Token) (w q e : Token) (xs ys zs ts tail : List Token) → ts ≡ xs ++ (e ∷ tail) → tail ≡ ys ++ zs → ls ++ (w ∷ q ∷ ts) ≡ (ls ++ (w ∷ q ∷ (xs ++ (e ∷ ys)))) ++ zs
property-spelled ls w q e xs ys zs ts tail h k =
    ap (λ us. ls ++ (w ∷ q ∷ us)) (h ∙ (ap (λ us. xs ++ (e ∷ us)) k ∙ sym (append_assoc xs (e ∷ ys) zs))) ∙ sym (append_assoc ls (w ∷ q ∷ (xs ++ (e ∷ ys))) zs)

-- the steps, by what may follow
start : (text : List ℕ) (ts : List Token) (s : State) (token : Token) (mark : Mark) → Is text mark token → IfOk (at_start s token mark) (Goes text ts phases.Start (length s.above) token)
start text ts s token marks.Version e = λ h. record { version = token; tail = ts; fits = e; spells = refl; after = h }
start text ts s token mark e = tt

versioned : (text : List ℕ) (ts : List Token) (s : State) (token : Token) (mark : Mark) → Is text mark token → IfOk (at_versioned s token mark) (Goes text ts phases.Versioned (length s.above) token)
versioned text ts s token marks.Semicolon e = λ h. record { end = token; tail = ts; ends = e; spells = refl; after = h }
versioned text ts s token mark e = tt

top : (text : List ℕ) (ts : List Token) (s : State) (token : Token) (mark : Mark) → Is text mark token → IfOk (at_top s token mark) (Goes text ts phases.Top (length s.above) token)
top text ts s token marks.Reserve e = λ h.
    let a = h.after in
    let b = a.after in
    let r = b.after in
    record {
      reserves = Line token h.number a.number b.end r.reserves;
      root = r.root;
      front = r.front;
      tail = r.tail;
      fits = (e, h.fits, a.fits, b.ends, r.fits);
      slash = r.slash;
      opens = r.opens;
      spells = ap (λ xs. token ∷ xs) (h.spells ∙ ap (λ xs. h.number ∷ xs) (a.spells ∙ ap (λ xs. a.number ∷ xs) (b.spells ∙ ap (λ xs. b.end ∷ xs) r.spells)));
      after = r.after;
    }
top text ts s token marks.Slash e = λ h. record { reserves = NoLine; root = token; front = h.front; tail = h.tail; fits = tt; slash = e; opens = h.opens; spells = ap (λ xs. token ∷ xs) h.spells; after = h.after }
top text ts s token mark e = tt

reserving : (text : List ℕ) (ts : List Token) (s : State) (token : Token) → IfOk (at_reserve text phases.ReservedFrom s token) (Goes text ts phases.Reserving (length s.above) token)
reserving text ts s token = numbered-if (number_up_to 18446744073709551615 (text_of text token)) (faults.Syntax token.line) (λ n. Ok (in_phase phases.ReservedFrom s)) (Goes text ts phases.Reserving (length s.above) token)
    (λ is n h. record { number = token; tail = ts; fits = is; spells = refl; after = h })

reserved_from : (text : List ℕ) (ts : List Token) (s : State) (token : Token) → IfOk (at_reserve text phases.ReservedTo s token) (Goes text ts phases.ReservedFrom (length s.above) token)
reserved_from text ts s token = numbered-if (number_up_to 18446744073709551615 (text_of text token)) (faults.Syntax token.line) (λ n. Ok (in_phase phases.ReservedTo s)) (Goes text ts phases.ReservedFrom (length s.above) token)
    (λ is n h. record { number = token; tail = ts; fits = is; spells = refl; after = h })

reserved : (text : List ℕ) (ts : List Token) (s : State) (token : Token) (mark : Mark) → Is text mark token → IfOk (at_reserved s token mark) (Goes text ts phases.ReservedTo (length s.above) token)
reserved text ts s token marks.Semicolon e = λ h. record { end = token; tail = ts; ends = e; spells = refl; after = h }
reserved text ts s token mark e = tt

rooted : (text : List ℕ) (ts : List Token) (root : Token) (s : State) (token : Token) (mark : Mark) → Is text mark token → IfOk (at_rooted root s token mark) (Goes text ts (phases.Rooted root) (length s.above) token)
rooted text ts root s token marks.OpenBrace e = λ h. record { front = token; tail = ts; opens = e; spells = refl; after = h }
rooted text ts root s token mark e = tt

ready-name : (text : List ℕ) (ts : List Token) (s : State) (token : Token) → (is_node_name (text_of text token) ≡ true → IsName text token) → IfOk (name text s token) (Goes text ts phases.Ready (length s.above) token)
unfolding name
ready-name text ts s token g = allowed-if (is_node_name (text_of text token)) (faults.Syntax token.line) (Ok (in_phase (phases.Named token) s)) (Goes text ts phases.Ready (length s.above) token) (λ is h. h [] (All-nil (Is text marks.Label)) (g is))

ready : (text : List ℕ) (ts : List Token) (s : State) (token : Token) (mark : Mark) → Is text mark token → IfOk (at_ready text s token mark) (Goes text ts phases.Ready (length s.above) token)
unfolding label
ready text ts s token marks.Label e = bound (add_label text token s.tables) (λ t. Ok (with_tables phases.Labelled s t)) (Goes text ts phases.Ready (length s.above) token) (λ t h. h (token ∷ []) (one (Is text marks.Label) token e))
ready text ts s token marks.Word e = ready-name text ts s token (λ is. (inl e, is))
ready text ts s token marks.Comma e = ready-name text ts s token (λ is. (inr e, is))
ready text ts s token marks.CloseBrace e = λ h. record { body = Empty; close = token; end = h.end; tail = h.tail; fits = tt; closes = e; ends = h.ends; spells = ap (λ xs. token ∷ xs) h.spells; after = h.after }
ready text ts s token mark e = tt

labelled-name : (text : List ℕ) (ts : List Token) (s : State) (token : Token) → (is_node_name (text_of text token) ≡ true → IsName text token) → IfOk (name text s token) (Goes text ts phases.Labelled (length s.above) token)
unfolding name
labelled-name text ts s token g = allowed-if (is_node_name (text_of text token)) (faults.Syntax token.line) (Ok (in_phase (phases.Named token) s)) (Goes text ts phases.Labelled (length s.above) token) (λ is h ls all. h ls all (g is))

labelled : (text : List ℕ) (ts : List Token) (s : State) (token : Token) (mark : Mark) → Is text mark token → IfOk (at_labelled text s token mark) (Goes text ts phases.Labelled (length s.above) token)
unfolding label
labelled text ts s token marks.Label e = bound (add_label text token s.tables) (λ t. Ok (with_tables phases.Labelled s t)) (Goes text ts phases.Labelled (length s.above) token)
    (λ t h ls all. subst (InNode text (After text (length s.above))) (append_assoc ls (token ∷ []) ts) (h (ls ++ token ∷ []) (All-push (Is text marks.Label) ls token all e)))
labelled text ts s token marks.Word e = labelled-name text ts s token (λ is. (inl e, is))
labelled text ts s token marks.Comma e = labelled-name text ts s token (λ is. (inr e, is))
labelled text ts s token mark e = tt

named-child : (text : List ℕ) (n : ℕ) (ts ls : List Token) (w token : Token) → All (Is text marks.Label) ls → IsName text w → Is text marks.OpenBrace token → InNode text (After text (suc n)) ts → InNode text (After text n) (ls ++ (w ∷ token ∷ ts))
named-child text n ts ls w token all whole e h =
    let r : InNode text (After text n) h.tail = h.after in
    record {
      body = Child ls w token h.body h.close h.end r.body;
      close = r.close;
      end = r.end;
      tail = r.tail;
      fits = (all, whole, e, h.fits, h.closes, h.ends, r.fits);
      closes = r.closes;
      ends = r.ends;
      spells = child-spelled ls w token h.close h.end (spell_body h.body) (spell_body r.body) (r.close ∷ r.end ∷ r.tail) ts h.tail h.spells r.spells;
      after = r.after;
    }

plain : (text : List ℕ) (w : Token) (s : State) (token : Token) → IfOk (open_property text w s token) (λ t. is_plain_name (text_of text w) ≡ true)
unfolding open_property
plain text w s token = found-if (is_plain_name (text_of text w)) (faults.Syntax token.line) (add_name text s.here w s.tables)

named : (text : List ℕ) (ts : List Token) (w : Token) (s : State) (token : Token) (mark : Mark) → Is text mark token → IfOk (at_named text w s token mark) (Goes text ts (phases.Named w) (length s.above) token)
unfolding enter bare begin finish
named text ts w s token marks.OpenBrace e =
    bound (add_node text s.here (length s.above) w s.tables) _ (Goes text ts (phases.Named w) (length s.above) token) (λ t h ls all whole. named-child text (length s.above) ts ls w token all whole e h)
named text ts w s token marks.Semicolon e =
    IfOk-bind (open_property text w s token) _ (λ t. is_plain_name (text_of text w) ≡ true) (Goes text ts (phases.Named w) (length s.above) token) (plain text w s token)
    (λ t is. bound (end_property text s.here (begun w t) t) _ (Goes text ts (phases.Named w) (length s.above) token)
    (λ u h ls all whole. record {
      body = Bare ls w token h.body;
      close = h.close;
      end = h.end;
      tail = h.tail;
      fits = (all, (whole, is), e, h.fits);
      closes = h.closes;
      ends = h.ends;
      spells = bare-spelled ls w token (spell_body h.body) (h.close ∷ h.end ∷ h.tail) ts h.spells;
      after = h.after;
    }))
named text ts w s token marks.Equals e =
    IfOk-bind (open_property text w s token) _ (λ t. is_plain_name (text_of text w) ≡ true) (Goes text ts (phases.Named w) (length s.above) token) (plain text w s token)
    (λ t is h ls all whole.
    let r = h.after in
    record {
      body = Property ls w token h.values h.end r.body;
      close = r.close;
      end = r.end;
      tail = r.tail;
      fits = (all, (whole, is), e, h.fits, h.ends, r.fits);
      closes = r.closes;
      ends = r.ends;
      spells = property-spelled ls w token h.end (spell_values h.values) (spell_body r.body) (r.close ∷ r.end ∷ r.tail) ts h.tail h.spells r.spells;
      after = r.after;
    })
named text ts w s token mark e = tt

wanting : (text : List ℕ) (ts : List Token) (p : Begun) (s : State) (token : Token) (mark : Mark) → Is text mark token → IfOk (at_wanting p s token mark) (Goes text ts (phases.Wanting p) (length s.above) token)
wanting text ts p s token marks.Text e = λ h. h (Text token) e
wanting text ts p s token marks.Reference e = λ h. h (Target token) e
wanting text ts p s token marks.Less e = λ h. h token [] e (All-nil (IsCell text))
wanting text ts p s token marks.OpenBracket e = λ h. h token [] e (All-nil (IsByteString text))
wanting text ts p s token mark e = tt

-- one more in cells or bytes, and their ends
more : (text : List ℕ) (n : ℕ) (front token : Token) (cs ts : List Token) → Assigned text n (front ∷ ((cs ++ token ∷ []) ++ ts)) → Assigned text n (front ∷ (cs ++ (token ∷ ts)))
more text n front token cs ts h = subst (λ xs. Assigned text n (front ∷ xs)) (append_assoc cs (token ∷ []) ts) h

cells-end : (text : List ℕ) (n : ℕ) (front token : Token) (cs ts : List Token) → Assigned text n ((front ∷ (cs ++ (token ∷ []))) ++ ts) → Assigned text n (front ∷ (cs ++ (token ∷ ts)))
cells-end text n front token cs ts h = subst (λ xs. Assigned text n (front ∷ xs)) (append_assoc cs (token ∷ []) ts) h

in_cells : (text : List ℕ) (ts : List Token) (p : Begun) (from : ℕ) (s : State) (token : Token) (mark : Mark) → Is text mark token → s.phase ≡ phases.InCells p from
    → IfOk (at_cells text p from s token mark) (Goes text ts (phases.InCells p from) (length s.above) token)
unfolding cell
in_cells text ts p from s token marks.Word e q =
    numbered-if (number_up_to 4294967295 (text_of text token)) (faults.Syntax token.line) _ (Goes text ts (phases.InCells p from) (length s.above) token)
    (λ is n h front cs less all.
    let kept : Remains text (phases.InCells p from) (length s.above) ts = subst (λ ph. Remains text ph (length s.above) ts) q h in
    more text (length s.above) front token cs ts (kept front (cs ++ token ∷ []) less (All-push (IsCell text) cs token all (inl (e, is)))))
in_cells text ts p from s token marks.Reference e q = λ h front cs less all.
    let kept : Remains text (phases.InCells p from) (length s.above) ts = subst (λ ph. Remains text ph (length s.above) ts) q h in
    more text (length s.above) front token cs ts (kept front (cs ++ token ∷ []) less (All-push (IsCell text) cs token all (inr e)))
in_cells text ts p from s token marks.Greater e q = λ h front cs less all. cells-end text (length s.above) front token cs ts (h (Cells front cs token) (less, all, e))
in_cells text ts p from s token mark e q = tt

in_bytes : (text : List ℕ) (ts : List Token) (p : Begun) (from : ℕ) (s : State) (token : Token) (mark : Mark) → Is text mark token → s.phase ≡ phases.InBytes p from
    → IfOk (at_bytes text p from s token mark) (Goes text ts (phases.InBytes p from) (length s.above) token)
unfolding bytes
in_bytes text ts p from s token marks.Word e q =
    let u = add_items (bytes_of (text_of text token)) s.tables in
    allowed-if (are_bytes (text_of text token)) (faults.Syntax token.line) (Ok (record s { tables = u })) (Goes text ts (phases.InBytes p from) (length s.above) token)
    (λ is h front bs bracket all.
    let kept : Remains text (phases.InBytes p from) (length s.above) ts = subst (λ ph. Remains text ph (length s.above) ts) q h in
    more text (length s.above) front token bs ts (kept front (bs ++ token ∷ []) bracket (All-push (IsByteString text) bs token all (e, is))))
in_bytes text ts p from s token marks.CloseBracket e q = λ h front bs bracket all. cells-end text (length s.above) front token bs ts (h (Bytes front bs token) (bracket, all, e))
in_bytes text ts p from s token mark e q = tt

valued : (text : List ℕ) (ts : List Token) (p : Begun) (s : State) (token : Token) (mark : Mark) → Is text mark token → IfOk (at_valued text p s token mark) (Goes text ts (phases.Valued p) (length s.above) token)
unfolding finish
valued text ts p s token marks.Comma e = λ h v fits. record {
  values = More v token h.values;
  end = h.end;
  tail = h.tail;
  fits = (fits, e, h.fits);
  ends = h.ends;
  spells = ap (λ xs. spell_value v ++ (token ∷ xs)) h.spells ∙ sym (append_assoc (spell_value v) (token ∷ spell_values h.values) (h.end ∷ h.tail));
  after = h.after;
}
valued text ts p s token marks.Semicolon e =
    bound (end_property text s.here p s.tables) _ (Goes text ts (phases.Valued p) (length s.above) token)
    (λ t h v fits. record { values = Last v; end = token; tail = ts; fits = fits; ends = e; spells = refl; after = h })
valued text ts p s token mark e = tt

left-by : (text : List ℕ) (ts : List Token) (above : List ℕ) (s : State) (token : Token) → Is text marks.Semicolon token → Goes text ts phases.Closed (length above) token (leave above s)
unfolding leave
left-by text ts [] s token e = λ h. record { end = token; tail = ts; ends = e; spells = refl; after = h }
left-by text ts (parent ∷ above) s token e = λ h. record { end = token; tail = ts; ends = e; spells = refl; after = h }

closed : (text : List ℕ) (ts : List Token) (s : State) (token : Token) (mark : Mark) → Is text mark token → IfOk (at_closed s token mark) (Goes text ts phases.Closed (length s.above) token)
closed text ts s token marks.Semicolon e = left-by text ts s.above s token e
closed text ts s token mark e = tt

-- whatever may follow
stepped : (text : List ℕ) (ts : List Token) (phase : Phase) (s : State) (token : Token) (mark : Mark) → Is text mark token → s.phase ≡ phase → IfOk (step_in text phase s token mark) (Goes text ts phase (length s.above) token)
unfolding step_in
stepped text ts phases.Start s token mark e q = start text ts s token mark e
stepped text ts phases.Versioned s token mark e q = versioned text ts s token mark e
stepped text ts phases.Top s token mark e q = top text ts s token mark e
stepped text ts phases.Reserving s token mark e q = reserving text ts s token
stepped text ts phases.ReservedFrom s token mark e q = reserved_from text ts s token
stepped text ts phases.ReservedTo s token mark e q = reserved text ts s token mark e
stepped text ts (phases.Rooted root) s token mark e q = rooted text ts root s token mark e
stepped text ts phases.Ready s token mark e q = ready text ts s token mark e
stepped text ts phases.Labelled s token mark e q = labelled text ts s token mark e
stepped text ts (phases.Named w) s token mark e q = named text ts w s token mark e
stepped text ts (phases.Wanting p) s token mark e q = wanting text ts p s token mark e
stepped text ts (phases.InCells p from) s token mark e q = in_cells text ts p from s token mark e q
stepped text ts (phases.InBytes p from) s token mark e q = in_bytes text ts p from s token mark e q
stepped text ts (phases.Valued p) s token mark e q = valued text ts p s token mark e
stepped text ts phases.Closed s token mark e q = closed text ts s token mark e
stepped text ts phases.Done s token mark e q = tt

done : (text : List ℕ) (phase : Phase) (n : ℕ) → is_end phase ≡ true → Remains text phase n []
done text phases.Done n e = refl
done text phase n e = absurd cc

-- what was read to its end
goes : (text : List ℕ) (tokens : List Token) (s : State) → IfOk (run text tokens s) (λ end. is_end end.phase ≡ true → Remains text s.phase (length s.above) tokens)
unfolding run step
goes text [] s = λ e. done text s.phase (length s.above) e
goes text (token ∷ tokens) s =
    IfOk-bind (step text s token) (run text tokens) (Goes text tokens s.phase (length s.above) token) (λ end. is_end end.phase ≡ true → Remains text s.phase (length s.above) (token ∷ tokens))
    (stepped text tokens s.phase s token (mark_of (text_of text token)) refl refl)
    (λ u g. weaker (run text tokens u) (λ end. is_end end.phase ≡ true → Remains text u.phase (length u.above) tokens) (λ end. is_end end.phase ≡ true → Remains text s.phase (length s.above) (token ∷ tokens)) (goes text tokens u) (λ end h e. g (h e)))

-- is a source
source : (text : List ℕ) (tokens : List Token) → Remains text phases.Start 0 tokens → IsSpelledBySource text tokens
source text tokens h =
    let a = h.after in
    let b = a.after in
    let r = b.after in
    let s : Source = record { version = h.version; version_end = a.end; reserves = b.reserves; root = b.root; front = b.front; body = r.body; close = r.close; end = r.end } in
    let inside = r.spells ∙ ap (λ xs. spell_body r.body ++ (r.close ∷ r.end ∷ xs)) r.after in
    let spells : tokens ≡ spelling s =
    h.spells ∙ ap (λ xs. h.version ∷ xs) (a.spells ∙ ap (λ xs. a.end ∷ xs) (b.spells ∙ ap (λ xs. spell_reserves b.reserves ++ (b.root ∷ b.front ∷ xs)) inside)) in
    (s, (h.fits, a.ends, b.fits, b.slash, b.opens, r.fits, r.closes, r.ends), spells)

pub read-source : (text : List ℕ) (tokens : List Token) → IfOk (read text tokens) (λ s. IsSpelledBySource text tokens)
unfolding read
read-source text tokens =
    IfOk-bind (run text tokens opening) (ended tokens) (λ end. is_end end.phase ≡ true → Remains text phases.Start 0 tokens) (λ s. IsSpelledBySource text tokens) (goes text tokens opening)
    (λ end g. allowed-if (is_end end.phase) _ _ (λ s. IsSpelledBySource text tokens) (λ e. source text tokens (g e)))
