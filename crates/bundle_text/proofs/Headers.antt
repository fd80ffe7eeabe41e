-- The next header, found by going from line to line.
use Rattle.std.proofs.Common.{◌≡◌, ℕ, ◌+◌, ◌-◌, ◌<◌, ◌≤◌, true, false, List, [], length, drop, get_or, ap, ◌∙◌, arith, length-drop}
use Rattle.std.proofs.lemmas.List.{get_or-drop}
use Rattle.std.proofs.lemmas.List.Sums.{position_or_len_is}
use Rattle.bundle_text.specs.Lines.{line_at, is_header, header_from}

-- the lines between are no headers, and this one is, if it is one of the lines
pub header_from-is : (ls : List (List ℕ)) (from at : ℕ) → from ≤ at → at ≤ length ls → ((k : ℕ) → from ≤ k → k < at → is_header (line_at ls k) ≡ false)
    → (at < length ls → is_header (line_at ls at) ≡ true) → header_from ls from ≡ at
unfolding header_from
header_from-is ls from at low high between here =
    let n = at - from in
    let there : from + n ≡ at = omega arith in
    let seen : (k : ℕ) → k < n → is_header (get_or (drop from ls) k []) ≡ false = λ k h. rw get_or-drop (between (from + k) (omega arith) (omega arith)) in
    let found : n < length (drop from ls) → is_header (get_or (drop from ls) n []) ≡ true = λ h. rw (get_or-drop, there) (here (omega (arith, simp length-drop at h))) in
    ap (λ k. from + k) (position_or_len_is is_header (drop from ls) n [] (simp length-drop (omega arith)) seen found) ∙ there

-- a next header isn't before
pub header_from-ge : (ls : List (List ℕ)) (from : ℕ) → from ≤ header_from ls from
unfolding header_from
header_from-ge ls from = omega arith
