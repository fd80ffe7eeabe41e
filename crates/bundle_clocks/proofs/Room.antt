-- How long texts of lines are.
use Rattle.std.proofs.Common.{◌≡◌, ℕ, zero, suc, ◌+◌, ◌-◌, ◌<◌, ◌≤◌, ◌==◌, Bool, true, false, cond, List, [], ◌∷◌, ◌++◌, Some, None, length, take, drop, replicate, refl, ap, sym, subst, ◌∙◌, arith, append_assoc, length-append, length-drop, take-append-drop}
use Rattle.std.specs.Prelude.{slice_range, slice_index}
use Rattle.std.specs.List.{position}
use Rattle.std.specs.Str.Lines.{lines, strip_carriage_return}
use Rattle.bundle_text.proofs.Cuts.{lines-cut, lines-uncut, position-at}
use Rattle.std.proofs.lemmas.List.{length-take, get_or-drop, take_more}
use Rattle.bundle_text.specs.Lines.{line_at}
use Rattle.bundle_clocks.specs.Source.{text_of_lines}

-- the text of lines behind lines
pub text_of_lines-append : (xs ys : List (List ℕ)) → text_of_lines (xs ++ ys) ≡ text_of_lines xs ++ text_of_lines ys
text_of_lines-append [] ys = refl
text_of_lines-append (x ∷ xs) ys =
    ap (λ t. x ++ (10 ∷ t)) (text_of_lines-append xs ys) ∙ sym (append_assoc x (10 ∷ text_of_lines xs) (text_of_lines ys))

abbrev room : List (List ℕ) → ℕ
room ls = length (text_of_lines ls)

room-append : (xs ys : List (List ℕ)) → room (xs ++ ys) ≡ room xs + room ys
room-append xs ys = ap length (text_of_lines-append xs ys) ∙ length-append (text_of_lines xs) (text_of_lines ys)

pub room-cons : (x : List ℕ) (xs : List (List ℕ)) → room (x ∷ xs) ≡ length x + 1 + room xs
room-cons x xs = length-append x (10 ∷ text_of_lines xs) ∙ omega arith

-- each line takes its line feed
room-lines : (ls : List (List ℕ)) → length ls ≤ room ls
room-lines [] = omega arith
room-lines (x ∷ xs) = omega (arith, room-lines xs, room-cons x xs)

room-empty : (n : ℕ) → room (replicate n []) ≡ n
room-empty zero = refl
room-empty (suc n) = room-cons [] (replicate n []) ∙ omega (arith, room-empty n)

room-cut : (n : ℕ) (ls : List (List ℕ)) → room ls ≡ room (take n ls) + room (drop n ls)
room-cut n ls = ap room (sym (take-append-drop n ls)) ∙ room-append (take n ls) (drop n ls)

-- lines before the last, behind empty ones for those before them, take no more than all but the last line feed
pub room-slice : (ls : List (List ℕ)) (from to : ℕ) → from ≤ to → to < length ls → length (text_of_lines (replicate from [] ++ slice_range ls from to)) + 1 ≤ length (text_of_lines ls)
room-slice ls from to order within =
    let whole = room-append (replicate from []) (slice_range ls from to) in
    let front = room-cut from ls in
    let back = room-cut (to - from) (drop from ls) in
    omega (arith, whole, room-empty from, front, back, room-lines (take from ls), length-take from ls, room-lines (drop (to - from) (drop from ls)), length-drop (to - from) (drop from ls), length-drop from ls)

-- one empty line more
pub empty-more : (n : ℕ) → text_of_lines (replicate (n + 1) []) ≡ text_of_lines (replicate n []) ++ 10 ∷ []
empty-more zero = refl
empty-more (suc n) =
    let next : suc n + 1 ≡ suc (n + 1) = omega arith in
    ap (λ m. text_of_lines (replicate m [])) next ∙ ap (λ t. 10 ∷ t) (empty-more n)

-- one line more
pub lines-more : (front ls : List (List ℕ)) (from k : ℕ) → from ≤ k → k < length ls
    → text_of_lines (front ++ slice_range ls from (k + 1)) ≡ text_of_lines (front ++ slice_range ls from k) ++ text_of_lines (line_at ls k ∷ [])
lines-more front ls from k low high =
    let n = k - from in
    let there : from + n ≡ k = omega arith in
    let count : k + 1 - from ≡ n + 1 = omega arith in
    let within : n < length (drop from ls) = simp length-drop (omega arith) in
    let more : slice_range ls from (k + 1) ≡ slice_range ls from k ++ line_at ls k ∷ [] =
    ap (λ c. take c (drop from ls)) count ∙ (take_more (drop from ls) n [] within ∙ ap (λ line. take n (drop from ls) ++ line ∷ []) (get_or-drop from ls n [] ∙ ap (line_at ls) there)) in
    ap (λ xs. text_of_lines (front ++ xs)) more
    ∙ (ap text_of_lines (sym (append_assoc front (slice_range ls from k) (line_at ls k ∷ []))) ∙ text_of_lines-append (front ++ slice_range ls from k) (line_at ls k ∷ []))

strip_length : (line : List ℕ) → length (strip_carriage_return line) ≤ length line
strip_length line =
    elim (slice_index line (length line - 1) == 13) as (λ b. length (cond b (take (length line - 1) line) line) ≤ length line)
    [ true ↦ omega (arith, length-take (length line - 1) line) | false ↦ omega arith ]

uncut_room : (bs : List ℕ) (b : Bool) → room (cond b [] (bs ∷ [])) ≤ length bs + 1
uncut_room bs true = omega arith
uncut_room bs false = omega (arith, room-cons bs [])

-- the lines of a text, each with a line feed, are one byte longer at most
lines_within : (fuel : ℕ) (bs : List ℕ) → length bs < fuel → room (lines bs) ≤ length bs + 1
lines_within zero bs few = absurd (omega arith)
lines_within (suc fuel) bs few =
    elim (position (λ b. b == 10) bs) as (λ o. position (λ b. b == 10) bs ≡ o → room (lines bs) ≤ length bs + 1) [
      | None ↦ λ e. subst (λ ls. room ls ≤ length bs + 1) (sym (lines-uncut bs e)) (uncut_room bs (length bs == 0))
      | Some at ↦ λ e.
          (let found = position-at (λ b. b == 10) bs at e in
          let rest = drop (at + 1) bs in
          let shorter : length rest ≡ length bs - (at + 1) = length-drop (at + 1) bs in
          let more = lines_within fuel rest (omega (arith, found.0, found.1)) in
          let front : length (strip_carriage_return (take at bs)) ≤ at = omega (arith, strip_length (take at bs), length-take at bs) in
          subst (λ ls. room ls ≤ length bs + 1) (sym (lines-cut bs at e)) (omega (arith, room-cons (strip_carriage_return (take at bs)) (lines rest), more, front, shorter, found.0, found.1)))
    ] refl

pub lines_room : (bs : List ℕ) → length (text_of_lines (lines bs)) ≤ length bs + 1
lines_room bs = lines_within (length bs + 1) bs (omega arith)
