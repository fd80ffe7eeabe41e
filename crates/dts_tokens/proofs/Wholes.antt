-- The tokens that a text is cut into are of whole characters.
use Rattle.std.proofs.Common.{◌≡◌, ℕ, zero, suc, ◌+◌, ◌-◌, ◌<◌, ◌≤◌, ◌==◌, All, Bool, true, false, Option, Some, None, List, [], ◌∷◌, ◌++◌, length, take, drop, map, get_or, slice_index, slice_range, refl, sym, ap, subst, ◌∙◌, add-zero, arith, IsUtf8, IsCharBoundary, if◌then◌else◌}
use Rattle.std.specs.Option.{option_map, option_map_or}
use Rattle.std.proofs.lemmas.Bool.Decides.{nat_tests}
use Rattle.std.proofs.lemmas.List.{at_drop_more, get_or-drop}
use Rattle.std.proofs.lemmas.List.Elements.{All-push}
use Rattle.std.proofs.lemmas.Str.{IsUtf8-between, IsCharBoundary-end, IsCharBoundary-before_ascii, IsCharBoundary-after_ascii}
use Rattle.dts_tokens.specs.declared.flaw.Flaw.{Flaw}
use Rattle.dts_tokens.specs.declared.flaw.Flaw.TheVariants as flaws
use Rattle.dts_tokens.specs.declared.piece.Piece.{Piece}
use Rattle.dts_tokens.specs.declared.piece.Piece.TheVariants.{Gap, Lexeme, Wrong}
use Rattle.dts_tokens.specs.declared.token.Token.{Token}
use Rattle.dts_tokens.specs.Characters.{is_name_character, is_sign, is_word_character}
use Rattle.dts_tokens.specs.Limits.{is_too_big}
use Rattle.dts_tokens.specs.Pieces.{piece_at, quote_end, string_piece}
use Rattle.dts_tokens.specs.Tokens.{Cuts, IsWhole, standing, weighed, token_of, text_of}
use Rattle.dts_tokens.proofs.OneReading.{gap_wrong, lexeme_wrong}

-- no piece begins with a byte that isn't ASCII
name-ascii : (b : ℕ) → 128 ≤ b → is_name_character b ≡ false
unfolding is_name_character
name-ascii b h = grind (arith, nat_tests)

word-ascii : (b : ℕ) → 128 ≤ b → is_word_character b ≡ false
unfolding is_word_character
word-ascii b h = let e = name-ascii b h in grind (arith, nat_tests, e)

sign-ascii : (b : ℕ) → 128 ≤ b → is_sign b ≡ false
unfolding is_sign
sign-ascii b h = grind (arith, nat_tests)

piece-ascii : (b : ℕ) (rest : List ℕ) → 128 ≤ b → piece_at (b ∷ rest) ≡ Wrong flaws.BadChar
unfolding piece_at
piece-ascii b rest h =
    let e = word-ascii b h in
    let f = sign-ascii b h in
    grind (arith, nat_tests, e, f)

standing-ascii : (text : List ℕ) (found : List Token) (at : ℕ) → at < length text → 128 ≤ get_or text at 0 → standing text found at ≡ Wrong flaws.BadChar
unfolding standing
standing-ascii text found at low big =
    ap (weighed (map (text_of text) found) (drop at text)) (at_drop_more piece_at text at 0 low ∙ piece-ascii (get_or text at 0) (drop (at + 1) text) big)

-- where a piece begins, and at the end, the text may be cut
boundary : (text : List ℕ) (found : List Token) (at : ℕ) (pieces : List Piece) (all : List Token) → Cuts text found at pieces all (length text) → IsCharBoundary text at
boundary text found at [] all cut = subst (IsCharBoundary text) (sym cut.1) (IsCharBoundary-end text)
boundary text found at (Gap n ∷ pieces) all cut = (let low = cut.0 in omega (arith, low), λ low big. absurd (gap_wrong n flaws.BadChar (sym cut.1 ∙ standing-ascii text found at low big)))
boundary text found at (Lexeme n ∷ pieces) all cut = (let low = cut.0 in omega (arith, low), λ low big. absurd (lexeme_wrong n flaws.BadChar (sym cut.1 ∙ standing-ascii text found at low big)))
boundary text found at (Wrong flaw ∷ pieces) all cut = absurd cut

-- what stands is cut off as it is
weighed-lexeme : (words : List (List ℕ)) (rest : List ℕ) (p : Piece) (n : ℕ) → weighed words rest p ≡ Lexeme n → p ≡ Lexeme n
weighed-lexeme words rest (Gap k) n h = h
weighed-lexeme words rest (Lexeme k) n h = chosen (is_too_big words (take k rest)) h
  where
    chosen : (b : Bool) → (if b then Wrong flaws.NumberTooBig else Lexeme k) ≡ Lexeme n → Lexeme k ≡ Lexeme n
    chosen true e = absurd (lexeme_wrong n flaws.NumberTooBig (sym e))
    chosen false e = e
weighed-lexeme words rest (Wrong flaw) n h = h

standing-lexeme : (text : List ℕ) (found : List Token) (at n : ℕ) → standing text found at ≡ Lexeme n → piece_at (drop at text) ≡ Lexeme n
unfolding standing
standing-lexeme text found at n h = weighed-lexeme (map (text_of text) found) (drop at text) (piece_at (drop at text)) n h

-- a byte more before what ends with a quote
quote-more : (b : ℕ) (rest : List ℕ) (o : Option ℕ) (n : ℕ) → option_map (λ m. 1 + m) o ≡ Some n → ((m : ℕ) → o ≡ Some m → (0 < m) × (get_or rest (m - 1) 0 ≡ 34)) → (0 < n) × (get_or (b ∷ rest) (n - 1) 0 ≡ 34)
quote-more b rest None n e g = absurd cc
quote-more b rest (Some zero) n e g = absurd (let l = (g zero refl).0 in omega (arith, l))
quote-more b rest (Some (suc m)) n e g =
    let same : n ≡ 1 + suc m = cc in
    let place : n - 1 ≡ suc (suc m - 1) = omega (arith, same) in
    (omega (arith, same), ap (λ k. get_or (b ∷ rest) k 0) place ∙ (g (suc m) refl).1)

-- a string ends with a quote
quote-last : (taken : Bool) (rest : List ℕ) (n : ℕ) → quote_end taken rest ≡ Some n → (0 < n) × (get_or rest (n - 1) 0 ≡ 34)
unfolding quote_end
quote-last taken [] n h = absurd cc
quote-last true (b ∷ rest) n h = quote-more b rest (quote_end false rest) n h (λ m e. quote-last false rest m e)
quote-last false (b ∷ rest) n h = ends (b == 34) refl h (λ m e. quote-last (b == 92) rest m e)
  where
    ends : (q : Bool) → (b == 34) ≡ q → (if q then Some 1 else option_map (λ m. 1 + m) (quote_end (b == 92) rest)) ≡ Some n
        → ((m : ℕ) → quote_end (b == 92) rest ≡ Some m → (0 < m) × (get_or rest (m - 1) 0 ≡ 34)) → (0 < n) × (get_or (b ∷ rest) (n - 1) 0 ≡ 34)
    ends true is e g = let same : n ≡ 1 = cc in let quote : b ≡ 34 = grind (arith, nat_tests) in rw same (omega arith, quote)
    ends false is e g = quote-more b rest (quote_end (b == 92) rest) n e g

string-last : (rest : List ℕ) (n : ℕ) → piece_at (34 ∷ rest) ≡ Lexeme n → (1 < n) × (get_or rest (n - 2) 0 ≡ 34)
unfolding piece_at is_word_character is_name_character is_sign string_piece
string-last rest n h = told (quote_end false rest) refl h
  where
    told : (o : Option ℕ) → quote_end false rest ≡ o → option_map_or (λ m. Lexeme (1 + m)) o (Wrong flaws.OpenString) ≡ Lexeme n → (1 < n) × (get_or rest (n - 2) 0 ≡ 34)
    told None is e = absurd (lexeme_wrong n flaws.OpenString (sym e))
    told (Some m) is e = let same : n ≡ 1 + m = cc in let q = quote-last false rest m is in let l = q.0 in let there : n - 2 ≡ m - 1 = omega (arith, same) in (omega (arith, same, l), rw there q.1)

-- the first byte of a token is that of its place
first_of : (text : List ℕ) (at n : ℕ) → slice_index (text_of text (token_of text at n)) 0 ≡ 34 → get_or text at 0 ≡ 34
first_of text at n h = sym (get_or-drop at text 0 0 ∙ ap (λ k. get_or text k 0) (add-zero at)) ∙ first (at + n - at) (drop at text) h
  where
    first : (k : ℕ) (xs : List ℕ) → slice_index (take k xs) 0 ≡ 34 → get_or xs 0 0 ≡ 34
    first zero xs e = absurd (omega (arith, e))
    first (suc k) [] e = e
    first (suc k) (x ∷ xs) e = e

-- a token is of whole characters, where it begins and ends at such
piece-whole : (text : List ℕ) (at n : ℕ) → IsUtf8 text → at < length text → piece_at (drop at text) ≡ Lexeme n → IsCharBoundary text at → IsCharBoundary text (at + n) → IsWhole text (token_of text at n)
piece-whole text at n u low here from to = (IsUtf8-between text at (at + n) u (omega arith) from to, inside)
  where
    inside : slice_index (text_of text (token_of text at n)) 0 ≡ 34 → IsUtf8 (slice_range text (at + 1) (at + n - 1))
    inside first =
        let quote = first_of text at n first in
        let split = at_drop_more piece_at text at 0 low in
        let behind = ap (λ b. piece_at (b ∷ drop (at + 1) text)) quote in
        let last = string-last (drop (at + 1) text) n (sym behind ∙ (sym split ∙ here)) in
        let long = last.0 in
        let high = to.0 in
        let place : (at + 1) + (n - 2) ≡ at + n - 1 = omega (arith, long) in
        let closing : get_or text (at + n - 1) 0 ≡ 34 = ap (λ k. get_or text k 0) (sym place) ∙ (sym (get_or-drop (at + 1) text (n - 2) 0) ∙ last.1) in
        IsUtf8-between text (at + 1) (at + n - 1) u (omega (arith, long)) (IsCharBoundary-after_ascii text at u low (omega (arith, quote))) (IsCharBoundary-before_ascii text (at + n - 1) (omega (arith, high, long)) (omega (arith, closing)))

-- so are all tokens of a text
pub Cuts-whole : (text : List ℕ) (found : List Token) (at : ℕ) (pieces : List Piece) (all : List Token) → IsUtf8 text → Cuts text found at pieces all (length text) → All (IsWhole text) found → All (IsWhole text) all
Cuts-whole text found at [] all u cut w = subst (All (IsWhole text)) cut.0 w
Cuts-whole text found at (Gap n ∷ pieces) all u cut w = Cuts-whole text found (at + n) pieces all u cut.2 w
Cuts-whole text found at (Lexeme n ∷ pieces) all u cut w =
    let from = boundary text found at (Lexeme n ∷ pieces) all cut in
    let to = boundary text (found ++ token_of text at n ∷ []) (at + n) pieces all cut.2 in
    Cuts-whole text (found ++ token_of text at n ∷ []) (at + n) pieces all u cut.2
    (All-push (IsWhole text) found (token_of text at n) w (piece-whole text at n u cut.0 (standing-lexeme text found at n cut.1) from to))
Cuts-whole text found at (Wrong flaw ∷ pieces) all u cut w = absurd cut
