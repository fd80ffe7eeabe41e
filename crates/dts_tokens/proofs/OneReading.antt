-- A text is cut in one way, and can always be cut.
use Rattle.std.proofs.Common.{◌≡◌, ℕ, ◌+◌, ◌<◌, List, [], ◌∷◌, ◌++◌, length, refl, sym, ap, ◌∙◌, arith}
use Rattle.dts_tokens.specs.declared.flaw.Flaw.{Flaw}
use Rattle.dts_tokens.specs.declared.piece.Piece.{Piece}
use Rattle.dts_tokens.specs.declared.piece.Piece.TheVariants.{Gap, Lexeme, Wrong}
use Rattle.dts_tokens.specs.declared.token.Token.{Token}
use Rattle.dts_tokens.specs.Tokens.{Cuts, Tokens, Refuses, standing, token_of, line_of}

-- nothing more can be cut off here: the text is at its end, or a flaw stands
pub data Halts (text : List ℕ) (found : List Token) (at : ℕ) : Type 0 where
  AtEnd : at ≡ length text → Halts text found at
  AtFlaw : (flaw : Flaw) → at < length text → standing text found at ≡ Wrong flaw → Halts text found at

gap_lexeme : (n m : ℕ) → Gap n ≡ Lexeme m → ⊥
gap_lexeme n m h = cc

pub gap_wrong : (n : ℕ) (flaw : Flaw) → Gap n ≡ Wrong flaw → ⊥
gap_wrong n flaw h = cc

pub lexeme_wrong : (n : ℕ) (flaw : Flaw) → Lexeme n ≡ Wrong flaw → ⊥
lexeme_wrong n flaw h = cc

gap_same : (n m : ℕ) → Gap n ≡ Gap m → n ≡ m
gap_same n m h = cc

lexeme_same : (n m : ℕ) → Lexeme n ≡ Lexeme m → n ≡ m
lexeme_same n m h = cc

-- what can be cut off here was not at its end
Halts-gap : (text : List ℕ) (found : List Token) (at n : ℕ) → Halts text found at → at < length text → standing text found at ≡ Gap n → ⊥
Halts-gap text found at n (AtEnd e) low here = omega arith
Halts-gap text found at n (AtFlaw flaw below wrong) low here = gap_wrong n flaw (sym here ∙ wrong)

Halts-lexeme : (text : List ℕ) (found : List Token) (at n : ℕ) → Halts text found at → at < length text → standing text found at ≡ Lexeme n → ⊥
Halts-lexeme text found at n (AtEnd e) low here = omega arith
Halts-lexeme text found at n (AtFlaw flaw below wrong) low here = lexeme_wrong n flaw (sym here ∙ wrong)

-- two ways to cut a text as far as it goes find the same tokens and end at the same place
pub Cuts-same : (text : List ℕ) (found : List Token) (at : ℕ) (pieces : List Piece) (all : List Token) (end : ℕ) (others : List Piece) (also : List Token) (stop : ℕ)
    → Cuts text found at pieces all end → Halts text all end → Cuts text found at others also stop → Halts text also stop → (all ≡ also) × (end ≡ stop)
Cuts-same text found at [] all end [] also stop cut halts cut' halts' = (sym cut.0 ∙ cut'.0, sym cut.1 ∙ cut'.1)
Cuts-same text found at [] all end (Gap n ∷ others) also stop cut halts cut' halts' = absurd (Halts-gap text found at n (rw (cut.0, cut.1) halts) cut'.0 cut'.1)
Cuts-same text found at [] all end (Lexeme n ∷ others) also stop cut halts cut' halts' = absurd (Halts-lexeme text found at n (rw (cut.0, cut.1) halts) cut'.0 cut'.1)
Cuts-same text found at [] all end (Wrong flaw ∷ others) also stop cut halts cut' halts' = absurd cut'
Cuts-same text found at (Gap n ∷ pieces) all end [] also stop cut halts cut' halts' = absurd (Halts-gap text found at n (rw (cut'.0, cut'.1) halts') cut.0 cut.1)
Cuts-same text found at (Lexeme n ∷ pieces) all end [] also stop cut halts cut' halts' = absurd (Halts-lexeme text found at n (rw (cut'.0, cut'.1) halts') cut.0 cut.1)
Cuts-same text found at (Wrong flaw ∷ pieces) all end others also stop cut halts cut' halts' = absurd cut
Cuts-same text found at (Gap n ∷ pieces) all end (Gap m ∷ others) also stop cut halts cut' halts' =
    Cuts-same text found (at + n) pieces all end others also stop cut.2 halts (rw (gap_same n m (sym cut.1 ∙ cut'.1)) cut'.2) halts'
Cuts-same text found at (Gap n ∷ pieces) all end (Lexeme m ∷ others) also stop cut halts cut' halts' = absurd (gap_lexeme n m (sym cut.1 ∙ cut'.1))
Cuts-same text found at (Gap n ∷ pieces) all end (Wrong flaw ∷ others) also stop cut halts cut' halts' = absurd cut'
Cuts-same text found at (Lexeme n ∷ pieces) all end (Gap m ∷ others) also stop cut halts cut' halts' = absurd (gap_lexeme m n (sym cut'.1 ∙ cut.1))
Cuts-same text found at (Lexeme n ∷ pieces) all end (Lexeme m ∷ others) also stop cut halts cut' halts' =
    Cuts-same text (found ++ token_of text at n ∷ []) (at + n) pieces all end others also stop cut.2 halts (rw (lexeme_same n m (sym cut.1 ∙ cut'.1)) cut'.2) halts'
Cuts-same text found at (Lexeme n ∷ pieces) all end (Wrong flaw ∷ others) also stop cut halts cut' halts' = absurd cut'

pub one_list : (text : List ℕ) (found other : List Token) → Tokens text found → Tokens text other → found ≡ other
one_list text found other a b = (Cuts-same text [] 0 a.0 found (length text) b.0 other (length text) a.1 (AtEnd refl) b.1 (AtEnd refl)).0

pub not_both : (text : List ℕ) (found : List Token) (flaw : Flaw) (line : ℕ) → Tokens text found → Refuses text flaw line → ⊥
not_both text found flaw line a b =
    let same = Cuts-same text [] 0 a.0 found (length text) b.pieces b.found b.at a.1 (AtEnd refl) b.cuts (AtFlaw flaw b.within b.stands) in
    let short = b.within in
    omega (arith, same.1, short)

wrong_same : (flaw why : Flaw) → Wrong flaw ≡ Wrong why → flaw ≡ why
wrong_same flaw why h = cc

pub one_flaw : (text : List ℕ) (flaw why : Flaw) (line other : ℕ) → Refuses text flaw line → Refuses text why other → (flaw ≡ why) × (line ≡ other)
one_flaw text flaw why line other a b =
    let same = Cuts-same text [] 0 a.pieces a.found a.at b.pieces b.found b.at a.cuts (AtFlaw flaw a.within a.stands) b.cuts (AtFlaw why b.within b.stands) in
    (wrong_same flaw why (sym a.stands ∙ (ap (λ f. standing text f a.at) same.0 ∙ ap (standing text b.found) same.1) ∙ b.stands), a.there ∙ ap (line_of text) same.1 ∙ sym b.there)
