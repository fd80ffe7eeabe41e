-- A text that is cut up to a place, and one piece more.
use Rattle.std.proofs.Common.{◌≡◌, ℕ, ◌+◌, ◌-◌, ◌<◌, ◌≤◌, ◌==◌, List, [], ◌∷◌, ◌++◌, length, take, drop, map, count_by, refl, sym, ap, ◌∙◌, arith}
use Rattle.dts_tokens.specs.declared.piece.Piece.{Piece}
use Rattle.dts_tokens.specs.declared.piece.Piece.TheVariants.{Gap, Lexeme, Wrong}
use Rattle.dts_tokens.specs.declared.token.Token.{Token}
use Rattle.std.proofs.Common.{true, false, cond, All, zero, suc}
use Rattle.std.proofs.Math.Seq.{take-add}
use Rattle.std.proofs.lemmas.List.{map-append}
use Rattle.std.proofs.lemmas.List.Elements.{All-append}
use Rattle.std.proofs.lemmas.List.Sums.{sum_by-append}
use Rattle.dts_tokens.specs.declared.flaw.Flaw.{Flaw}
use Rattle.dts_tokens.specs.declared.flaw.Flaw.TheVariants as flaws
use Rattle.dts_tokens.specs.declared.scope.Scope.{Scope}
use Rattle.dts_tokens.specs.declared.token.TokenFault.{TokenFault}
use Rattle.dts_tokens.specs.Faults.{fault_on}
use Rattle.dts_tokens.specs.Limits.{is_too_big}
use Rattle.dts_tokens.specs.Pieces.{piece_at}
use Rattle.dts_tokens.specs.Scopes.{IsScope}
use Rattle.dts_tokens.specs.Tokens.{Cuts, Refuses, IsFaultOf, standing, weighed, token_of, text_of, line_of, Rises}

-- the pieces so far, and a blank or a comment
pub Cuts-gap : (text : List ℕ) (found : List Token) (at : ℕ) (pieces : List Piece) (all : List Token) (end n : ℕ) → Cuts text found at pieces all end
    → end < length text → standing text all end ≡ Gap n → (more : List Piece) × Cuts text found at more all (end + n)
Cuts-gap text found at [] all end n cut low here =
    (Gap n ∷ [], (rw cut.1 low, rw (cut.0, cut.1) here, (cut.0, ap (λ k. k + n) cut.1)))
Cuts-gap text found at (Gap k ∷ pieces) all end n cut low here =
    let rest = Cuts-gap text found (at + k) pieces all end n cut.2 low here in
    (Gap k ∷ rest.0, (cut.0, cut.1, rest.1))
Cuts-gap text found at (Lexeme k ∷ pieces) all end n cut low here =
    let rest = Cuts-gap text (found ++ token_of text at k ∷ []) (at + k) pieces all end n cut.2 low here in
    (Lexeme k ∷ rest.0, (cut.0, cut.1, rest.1))
Cuts-gap text found at (Wrong flaw ∷ pieces) all end n cut low here = absurd cut

-- the pieces so far, and a token
pub Cuts-lexeme : (text : List ℕ) (found : List Token) (at : ℕ) (pieces : List Piece) (all : List Token) (end n : ℕ) → Cuts text found at pieces all end
    → end < length text → standing text all end ≡ Lexeme n → (more : List Piece) × Cuts text found at more (all ++ token_of text end n ∷ []) (end + n)
Cuts-lexeme text found at [] all end n cut low here =
    (Lexeme n ∷ [], (rw cut.1 low, rw (cut.0, cut.1) here, (rw (cut.0, cut.1) refl, ap (λ k. k + n) cut.1)))
Cuts-lexeme text found at (Gap k ∷ pieces) all end n cut low here =
    let rest = Cuts-lexeme text found (at + k) pieces all end n cut.2 low here in
    (Gap k ∷ rest.0, (cut.0, cut.1, rest.1))
Cuts-lexeme text found at (Lexeme k ∷ pieces) all end n cut low here =
    let rest = Cuts-lexeme text (found ++ token_of text at k ∷ []) (at + k) pieces all end n cut.2 low here in
    (Lexeme k ∷ rest.0, (cut.0, cut.1, rest.1))
Cuts-lexeme text found at (Wrong flaw ∷ pieces) all end n cut low here = absurd cut

-- a token more, where the ones so far end
pub Rises-push : (from : ℕ) (tokens : List Token) (end : ℕ) (token : Token) (more : ℕ) → Rises from tokens end → end ≤ token.from → token.from < token.to → token.to ≤ more
    → Rises from (tokens ++ token ∷ []) more
Rises-push from [] end token more rises low some high = (omega arith, some, high)
Rises-push from (t ∷ ts) end token more rises low some high = (rises.0, rises.1, Rises-push t.to ts end token more rises.2 low some high)

-- and then a blank
pub Rises-end : (from : ℕ) (tokens : List Token) (end more : ℕ) → Rises from tokens end → end ≤ more → Rises from tokens more
Rises-end from [] end more rises high = omega arith
Rises-end from (t ∷ ts) end more rises high = (rises.0, rises.1, Rises-end t.to ts end more rises.2 high)

All-one : {X : Type 0} (P : X → Type 0) (x : X) → P x → All P (x ∷ [])
All-one P x h zero d low = h
All-one P x h (suc k) d low = absurd (omega arith)

-- a text that was read up to a place, with what the reader keeps in mind
pub record Reached (text : List ℕ) (found : List Token) (mind : Scope) (at line : ℕ) : Type 0 where
  pub cut : (pieces : List Piece) × Cuts text [] 0 pieces found at
  pub scope : IsScope (map (text_of text) found) mind
  pub lines_before : line ≡ line_of text at
  pub within : at ≤ length text
  pub rises : Rises 0 found at
  pub lines : All (λ t. t.line ≡ line_of text t.from) found

standing-gap : (text : List ℕ) (found : List Token) (at n : ℕ) → piece_at (drop at text) ≡ Gap n → standing text found at ≡ Gap n
unfolding standing
standing-gap text found at n h = ap (weighed (map (text_of text) found) (drop at text)) h

standing-lexeme : (text : List ℕ) (found : List Token) (at n : ℕ) → piece_at (drop at text) ≡ Lexeme n → is_too_big (map (text_of text) found) (take n (drop at text)) ≡ false → standing text found at ≡ Lexeme n
unfolding standing
standing-lexeme text found at n h small =
    ap (weighed (map (text_of text) found) (drop at text)) h ∙ ap (λ b. cond b (Wrong flaws.NumberTooBig) (Lexeme n)) small

standing-big : (text : List ℕ) (found : List Token) (at n : ℕ) → piece_at (drop at text) ≡ Lexeme n → is_too_big (map (text_of text) found) (take n (drop at text)) ≡ true → standing text found at ≡ Wrong flaws.NumberTooBig
unfolding standing
standing-big text found at n h big =
    ap (weighed (map (text_of text) found) (drop at text)) h ∙ ap (λ b. cond b (Wrong flaws.NumberTooBig) (Lexeme n)) big

standing-wrong : (text : List ℕ) (found : List Token) (at : ℕ) (flaw : Flaw) → piece_at (drop at text) ≡ Wrong flaw → standing text found at ≡ Wrong flaw
unfolding standing
standing-wrong text found at flaw h = ap (weighed (map (text_of text) found) (drop at text)) h

-- the line some bytes further
line_of-add : (text : List ℕ) (at n feeds : ℕ) → feeds ≡ count_by (λ b. b == 10) (take n (drop at text)) → line_of text at + feeds ≡ line_of text (at + n)
line_of-add text at n feeds h =
    let whole = ap (count_by (λ b. b == 10)) (take-add at n text) in
    let parts = sum_by-append (λ b. cond (b == 10) 1 0) (take at text) (take n (drop at text)) in
    omega (arith, whole, parts, h)

-- the text of a token is the bytes that stand there
text_of-token : (text : List ℕ) (at n : ℕ) → text_of text (token_of text at n) ≡ take n (drop at text)
text_of-token text at n = let e : (at + n) - at ≡ n = omega arith in ap (λ k. take k (drop at text)) e

-- a blank or a comment further
pub Reached-gap : (text : List ℕ) (found : List Token) (scope : Scope) (at line n feeds : ℕ) → Reached text found scope at line → at < length text → at + n ≤ length text
    → piece_at (drop at text) ≡ Gap n → feeds ≡ count_by (λ b. b == 10) (take n (drop at text)) → Reached text found scope (at + n) (line + feeds)
Reached-gap text found scope at line n feeds was low high here fed = record {
  cut = Cuts-gap text [] 0 was.cut.0 found at n was.cut.1 low (standing-gap text found at n here);
  scope = was.scope;
  lines_before = ap (λ k. k + feeds) was.lines_before ∙ line_of-add text at n feeds fed;
  within = high;
  rises = Rises-end 0 found at (at + n) was.rises (omega arith);
  lines = was.lines;
}

-- a token further
pub Reached-lexeme : (text : List ℕ) (found : List Token) (scope next : Scope) (at line n feeds : ℕ) → Reached text found scope at line → at < length text → 0 < n → at + n ≤ length text
    → piece_at (drop at text) ≡ Lexeme n → is_too_big (map (text_of text) found) (take n (drop at text)) ≡ false
    → IsScope (map (text_of text) found ++ take n (drop at text) ∷ []) next
    → feeds ≡ count_by (λ b. b == 10) (take n (drop at text)) → Reached text (found ++ record { from = at; to = at + n; line = line } ∷ []) next (at + n) (line + feeds)
Reached-lexeme text found scope next at line n feeds was low some high here small passed fed =
    let token : Token = record { from = at; to = at + n; line = line } in
    let same : token_of text at n ≡ token = ap (λ k. let t : Token = record { from = at; to = at + n; line = k } in t) (sym was.lines_before) in
    let cut = Cuts-lexeme text [] 0 was.cut.0 found at n was.cut.1 low (standing-lexeme text found at n here small) in
    let words : map (text_of text) (found ++ token ∷ []) ≡ map (text_of text) found ++ take n (drop at text) ∷ [] = map-append (text_of text) found (token ∷ []) ∙ ap (λ w. map (text_of text) found ++ w ∷ []) (text_of-token text at n) in
    record {
      cut = (cut.0, rw same at cut.1);
      scope = rw words passed;
      lines_before = ap (λ k. k + feeds) was.lines_before ∙ line_of-add text at n feeds fed;
      within = high;
      rises = Rises-push 0 found at token (at + n) was.rises (omega arith) (omega arith) (omega arith);
      lines = All-append (λ t. t.line ≡ line_of text t.from) found (token ∷ []) was.lines (All-one (λ t. t.line ≡ line_of text t.from) token was.lines_before);
    }

pub IsFaultOf-fault_on : (text : List ℕ) (flaw : Flaw) (line : ℕ) → Refuses text flaw line → IsFaultOf text (fault_on flaw line)
IsFaultOf-fault_on text flaws.BadChar line h = h
IsFaultOf-fault_on text flaws.OpenString line h = h
IsFaultOf-fault_on text flaws.OpenComment line h = h
IsFaultOf-fault_on text flaws.NumberTooBig line h = h

-- a flaw where the text was read to
pub Reached-wrong : (text : List ℕ) (found : List Token) (scope : Scope) (at line : ℕ) (flaw : Flaw) (fault : TokenFault) → Reached text found scope at line → at < length text
    → piece_at (drop at text) ≡ Wrong flaw → fault ≡ fault_on flaw line → IsFaultOf text fault
Reached-wrong text found scope at line flaw fault was low here told = rw told (IsFaultOf-fault_on text flaw line (record {
  pieces = was.cut.0;
  found = found;
  at = at;
  cuts = was.cut.1;
  within = low;
  stands = standing-wrong text found at flaw here;
  there = was.lines_before;
}))

-- a number that is too big where the text was read to
pub Reached-big : (text : List ℕ) (found : List Token) (scope : Scope) (at line n : ℕ) (fault : TokenFault) → Reached text found scope at line → at < length text
    → piece_at (drop at text) ≡ Lexeme n → is_too_big (map (text_of text) found) (take n (drop at text)) ≡ true → fault ≡ fault_on flaws.NumberTooBig line → IsFaultOf text fault
Reached-big text found scope at line n fault was low here big told = rw told (IsFaultOf-fault_on text flaws.NumberTooBig line (record {
  pieces = was.cut.0;
  found = found;
  at = at;
  cuts = was.cut.1;
  within = low;
  stands = standing-big text found at n here big;
  there = was.lines_before;
}))
