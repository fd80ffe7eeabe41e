-- The sign `=` before the words of a turn is found.
use Rattle.std.proofs.Common.{◌≡◌, ℕ, ◌+◌, ◌-◌, ◌<◌, Bool, true, false, cond, List, [], ◌∷◌, ◌++◌, Some, None, refl, sym, ap, ◌∙◌, length, codes, arith, get_or, length-append}
use Rattle.std.specs.Prelude.{◌&&◌, nat_lt}
use Rattle.std.specs.Str.{bytes_eq}
use Rattle.std.proofs.Math.Seq.{get_or-append_seam}
use Rattle.std.proofs.lemmas.List.{get_or-append-add}
use Rattle.std.proofs.lemmas.Bool.Decides.{nat_tests}
use Rattle.std.proofs.lemmas.Slice.Eq.{bytes_eq-Decides}
use Rattle.clk_base.specs.declared.event.Reply.TheVariants as reply
use Rattle.clk_base.specs.declared.event.Turn.{Turn}
use Rattle.clk_base.specs.declared.event.Turn.TheVariants as turn
use Rattle.clk_base.specs.Description.{Description}
use Rattle.clk_model.specs.Text.{Word, turn_words}
use Rattle.clk_journal.specs.ReadEntries.{sign_at}
use Rattle.clk_model.proofs.Members.{both_left, both_right}
use Rattle.clk_journal.proofs.Gives.{Gives}

sign_last : (es : List Word) (w : Word) → sign_at (es ++ codes "=" ∷ w ∷ []) ≡ Some (length es)
unfolding sign_at
sign_last es w =
    let ws = es ++ codes "=" ∷ w ∷ [] in
    let long : length ws ≡ length es + 2 = length-append es (codes "=" ∷ w ∷ []) in
    let at : length ws - 2 ≡ length es = omega (arith, long) in
    let some : nat_lt 1 (length ws) ≡ true = grind (arith, nat_tests, long) in
    let here : bytes_eq (get_or ws (length ws - 2) []) (codes "=") ≡ true = ap (λ n. bytes_eq (get_or ws n []) (codes "=")) at ∙ ap (λ v. bytes_eq v (codes "=")) (get_or-append_seam es (codes "=") (w ∷ []) []) in
    rw (some, here) (ap (λ n. Some n) at)

sign_before : (es : List Word) (v w : Word) → bytes_eq v (codes "=") ≡ false → sign_at (es ++ codes "=" ∷ v ∷ w ∷ []) ≡ Some (length es)
unfolding sign_at
sign_before es v w other =
    let ws = es ++ codes "=" ∷ v ∷ w ∷ [] in
    let long : length ws ≡ length es + 3 = length-append es (codes "=" ∷ v ∷ w ∷ []) in
    let at : length ws - 3 ≡ length es = omega (arith, long) in
    let past : length ws - 2 ≡ length es + 1 = omega (arith, long) in
    let some : nat_lt 2 (length ws) ≡ true = grind (arith, nat_tests, long) in
    let one : nat_lt 1 (length ws) ≡ true = grind (arith, nat_tests, long) in
    let here : bytes_eq (get_or ws (length ws - 3) []) (codes "=") ≡ true = ap (λ n. bytes_eq (get_or ws n []) (codes "=")) at ∙ ap (λ u. bytes_eq u (codes "=")) (get_or-append_seam es (codes "=") (v ∷ w ∷ []) []) in
    let not_there : bytes_eq (get_or ws (length ws - 2) []) (codes "=") ≡ false =
    ap (λ n. bytes_eq (get_or ws n []) (codes "=")) past ∙ ap (λ u. bytes_eq u (codes "=")) (get_or-append-add es (codes "=" ∷ v ∷ w ∷ []) 1 []) ∙ other in
    rw (one, not_there, some, here) (ap (λ n. Some n) at)

pub sign_back : (defs : Description) (es : List Word) (t : Turn) → sign_at (es ++ codes "=" ∷ turn_words defs t) ≡ Some (length es)
sign_back defs es turn.Going = sign_last es (codes "going")
sign_back defs es (turn.Done reply.Fine) = sign_last es (codes "ok")
sign_back defs es (turn.Done reply.Warn) = sign_last es (codes "warn")
sign_back defs es (turn.Done reply.Yes) = sign_last es (codes "yes")
sign_back defs es (turn.Done reply.No) = sign_last es (codes "no")
sign_back defs es (turn.Done (reply.Handle h)) = sign_before es (codes "handle") _ refl
sign_back defs es (turn.Done (reply.Rate r)) = sign_before es (codes "rate") _ refl
sign_back defs es (turn.Done (reply.Clock c)) = sign_before es (codes "clock") _ refl
sign_back defs es (turn.Done (reply.Refused e)) = sign_before es (codes "err") _ refl

-- what stands at a sign
pub record IsSign (ws : List Word) (at : ℕ) : Type 0 where
  pub low : at < length ws
  pub sign : get_or ws at [] ≡ codes "="

pub sign_forth : (ws : List Word) → Gives (IsSign ws) (sign_at ws)
unfolding sign_at
sign_forth ws = record { holds = λ at e. by (nat_lt 1 (length ws) && bytes_eq (get_or ws (length ws - 2) []) (codes "=")) (nat_lt 2 (length ws) && bytes_eq (get_or ws (length ws - 3) []) (codes "=")) at refl refl e } where
  here : (k at : ℕ) → 0 < k → (nat_lt (k - 1) (length ws) && bytes_eq (get_or ws (length ws - k) []) (codes "=")) ≡ true → Some (length ws - k) ≡ Some at → IsSign ws at
  here k at some e f =
      let long : nat_lt (k - 1) (length ws) ≡ true = both_left (nat_lt (k - 1) (length ws)) (bytes_eq (get_or ws (length ws - k) []) (codes "=")) e in
      let is : length ws - k ≡ at = cc in
      record {
        low = grind (arith, nat_tests, long, is, some);
        sign = ap (λ n. get_or ws n []) (sym is) ∙ (bytes_eq-Decides (get_or ws (length ws - k) []) (codes "=")).0 (both_right (nat_lt (k - 1) (length ws)) (bytes_eq (get_or ws (length ws - k) []) (codes "=")) e);
      }

  by : (b c : Bool) (at : ℕ) → (nat_lt 1 (length ws) && bytes_eq (get_or ws (length ws - 2) []) (codes "=")) ≡ b → (nat_lt 2 (length ws) && bytes_eq (get_or ws (length ws - 3) []) (codes "=")) ≡ c
      → cond b (Some (length ws - 2)) (cond c (Some (length ws - 3)) None) ≡ Some at → IsSign ws at
  by true c at e f g = here 2 at (omega arith) e g
  by false true at e f g = here 3 at (omega arith) f g
  by false false at e f g = absurd cc
