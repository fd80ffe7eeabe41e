-- Every text has its tokens or a first flaw.
use Rattle.std.proofs.Common.{◌≡◌, ◌⊎◌, ℕ, zero, suc, ◌+◌, ◌-◌, ◌<◌, ◌≤◌, true, false, cond, List, [], ◌∷◌, ◌++◌, length, take, drop, map, refl, inl, inr, arith, length-drop}
use Rattle.std.proofs.lemmas.Bool.{cases_lt}
use Rattle.dts_tokens.specs.declared.flaw.Flaw.{Flaw}
use Rattle.dts_tokens.specs.declared.flaw.Flaw.TheVariants as flaws
use Rattle.dts_tokens.specs.declared.piece.Piece.{Piece}
use Rattle.dts_tokens.specs.declared.piece.Piece.TheVariants.{Gap, Lexeme, Wrong}
use Rattle.dts_tokens.specs.declared.token.Token.{Token}
use Rattle.dts_tokens.specs.Limits.{is_too_big}
use Rattle.dts_tokens.specs.Pieces.{piece_at, Fits}
use Rattle.dts_tokens.specs.Tokens.{Cuts, Tokens, Refuses, standing, weighed, token_of, text_of, line_of}
use Rattle.dts_tokens.proofs.Cutting.{Cuts-gap, Cuts-lexeme}
use Rattle.dts_tokens.proofs.Fitting.{piece_at-fits}

Fits-weighed : (words : List (List ℕ)) (rest : List ℕ) (p : Piece) (most : ℕ) → Fits p most → Fits (weighed words rest p) most
Fits-weighed words rest (Gap n) most h = h
Fits-weighed words rest (Lexeme n) most h =
    elim (is_too_big words (take n rest)) as (λ b. Fits (cond b (Wrong flaws.NumberTooBig) (Lexeme n)) most) [ true ↦ tt | false ↦ h ]
Fits-weighed words rest (Wrong flaw) most h = tt

standing-fits : (text : List ℕ) (found : List Token) (at : ℕ) → at < length text → Fits (standing text found at) (length text - at)
unfolding standing
standing-fits text found at low =
    rw (← length-drop at text) (Fits-weighed (map (text_of text) found) (drop at text) (piece_at (drop at text)) (length (drop at text)) (piece_at-fits (drop at text) (omega (arith, length-drop at text))))

-- the text is cut whole, or to its first flaw
abbrev Verdict : List ℕ → Type 0
Verdict text = ((found : List Token) × Tokens text found) ⊎ ((flaw : Flaw) × (line : ℕ) × Refuses text flaw line)

finished : (text : List ℕ) (found : List Token) (at : ℕ) (pieces : List Piece) → Cuts text [] 0 pieces found at → at ≡ length text → Verdict text
finished text found at pieces cut e = inl (found, (pieces, rw e at cut))

-- from any place that was reached, with at most n bytes left
decide : (n : ℕ) (text : List ℕ) (found : List Token) (at : ℕ) (pieces : List Piece) → Cuts text [] 0 pieces found at → at ≤ length text → length text ≤ at + n → Verdict text
decide zero text found at pieces cut low high = finished text found at pieces cut (omega arith)
decide (suc n) text found at pieces cut low high =
    elim (cases_lt at (length text)) [
      | inl below ↦
          elim (standing text found at) as (λ p. standing text found at ≡ p → Fits p (length text - at) → Verdict text) [
            | Gap k ↦ λ e fits. (let more = Cuts-gap text [] 0 pieces found at k cut below e in
                let high' : at + k ≤ length text = omega (arith, fits.1) in
                decide n text found (at + k) more.0 more.1 high' (omega (arith, fits.0)))
            | Lexeme k ↦ λ e fits. (let more = Cuts-lexeme text [] 0 pieces found at k cut below e in
                let high' : at + k ≤ length text = omega (arith, fits.1) in
                decide n text (found ++ token_of text at k ∷ []) (at + k) more.0 more.1 high' (omega (arith, fits.0)))
            | Wrong flaw ↦ λ e fits. inr (flaw, line_of text at, record { pieces = pieces; found = found; at = at; cuts = cut; within = below; stands = e; there = refl })
          ] refl (standing-fits text found at below)
      | inr end ↦ finished text found at pieces cut (omega arith)
    ]

pub decided : (text : List ℕ) → ((found : List Token) × Tokens text found) ⊎ ((flaw : Flaw) × (line : ℕ) × Refuses text flaw line)
decided text = decide (length text) text [] 0 [] (refl, refl) (omega arith) (omega arith)
