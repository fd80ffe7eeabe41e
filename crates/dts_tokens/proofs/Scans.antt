-- Ends of comments and strings, found by going from byte to byte.
use Rattle.std.proofs.Common.{◌≡◌, ℕ, ◌+◌, ◌<◌, ◌≤◌, ◌==◌, nat_eq, Bool, true, false, cond, List, [], ◌∷◌, length, drop, get_or, codes, Option, Some, None, refl, sym, ap, ◌∙◌, arith}
use Rattle.std.specs.List.{starts_with}
use Rattle.std.specs.Option.{option_map}
use Rattle.std.proofs.lemmas.List.{at_drop_more, at_drop_all}
use Rattle.dts_tokens.specs.Pieces.{comment_end, quote_end}

-- counting on from i, and one more, is counting on from i + 1
counted : (i : ℕ) (o : Option ℕ) → option_map (λ n. i + n) (option_map (λ n. 1 + n) o) ≡ option_map (λ n. (i + 1) + n) o
counted i None = refl
counted i (Some n) = let e : i + (1 + n) ≡ (i + 1) + n = omega arith in ap Some e

comment_end-cons : (b : ℕ) (rest : List ℕ) → starts_with nat_eq (b ∷ rest) (codes "*/") ≡ false → comment_end (b ∷ rest) ≡ option_map (λ n. 1 + n) (comment_end rest)
unfolding comment_end
comment_end-cons b rest h = ap (λ t. cond t (Some 2) (option_map (λ n. 1 + n) (comment_end rest))) h

comment_end-first : (b : ℕ) (rest : List ℕ) → starts_with nat_eq (b ∷ rest) (codes "*/") ≡ true → comment_end (b ∷ rest) ≡ Some 2
unfolding comment_end
comment_end-first b rest h = ap (λ t. cond t (Some 2) (option_map (λ n. 1 + n) (comment_end rest))) h

-- a byte further, where the comment doesn't end here
pub comment_end-more : (text : List ℕ) (i : ℕ) → i < length text → starts_with nat_eq (drop i text) (codes "*/") ≡ false → comment_end text ≡ option_map (λ n. i + n) (comment_end (drop i text))
    → comment_end text ≡ option_map (λ n. (i + 1) + n) (comment_end (drop (i + 1) text))
comment_end-more text i low h was =
    let here = at_drop_more (λ xs. starts_with nat_eq xs (codes "*/")) text i 0 low in
    let step = at_drop_more comment_end text i 0 low ∙ comment_end-cons _ _ (sym here ∙ h) in
    was ∙ ap (option_map (λ n. i + n)) step ∙ counted i _

-- the comment ends here
pub comment_end-here : (text : List ℕ) (i : ℕ) → i < length text → starts_with nat_eq (drop i text) (codes "*/") ≡ true → comment_end text ≡ option_map (λ n. i + n) (comment_end (drop i text))
    → Some (i + 2) ≡ comment_end text
comment_end-here text i low h was =
    let here = at_drop_more (λ xs. starts_with nat_eq xs (codes "*/")) text i 0 low in
    let step = at_drop_more comment_end text i 0 low ∙ comment_end-first _ _ (sym here ∙ h) in
    sym (was ∙ ap (option_map (λ n. i + n)) step)

-- nothing is left
pub comment_end-none : (text : List ℕ) (i : ℕ) → length text ≤ i → comment_end text ≡ option_map (λ n. i + n) (comment_end (drop i text)) → None ≡ comment_end text
unfolding comment_end
comment_end-none text i low was = sym (was ∙ ap (option_map (λ n. i + n)) (at_drop_all comment_end text i low))

quote_end-taken : (b : ℕ) (rest : List ℕ) → quote_end true (b ∷ rest) ≡ option_map (λ n. 1 + n) (quote_end false rest)
unfolding quote_end
quote_end-taken b rest = refl

quote_end-other : (b : ℕ) (rest : List ℕ) → (b == 34) ≡ false → quote_end false (b ∷ rest) ≡ option_map (λ n. 1 + n) (quote_end (b == 92) rest)
unfolding quote_end
quote_end-other b rest h = ap (λ t. cond t (Some 1) (option_map (λ n. 1 + n) (quote_end (b == 92) rest))) h

quote_end-quote : (b : ℕ) (rest : List ℕ) → (b == 34) ≡ true → quote_end false (b ∷ rest) ≡ Some 1
unfolding quote_end
quote_end-quote b rest h = ap (λ t. cond t (Some 1) (option_map (λ n. 1 + n) (quote_end (b == 92) rest))) h

-- a byte that a backslash takes in
pub quote_end-skip : (text : List ℕ) (i : ℕ) → i < length text → quote_end false text ≡ option_map (λ n. i + n) (quote_end true (drop i text))
    → quote_end false text ≡ option_map (λ n. (i + 1) + n) (quote_end false (drop (i + 1) text))
quote_end-skip text i low was = was ∙ ap (option_map (λ n. i + n)) (at_drop_more (quote_end true) text i 0 low ∙ quote_end-taken _ _) ∙ counted i _

-- a byte that is no quote
pub quote_end-more : (text : List ℕ) (i : ℕ) → i < length text → (get_or text i 0 == 34) ≡ false → quote_end false text ≡ option_map (λ n. i + n) (quote_end false (drop i text))
    → quote_end false text ≡ option_map (λ n. (i + 1) + n) (quote_end (get_or text i 0 == 92) (drop (i + 1) text))
quote_end-more text i low h was = was ∙ ap (option_map (λ n. i + n)) (at_drop_more (quote_end false) text i 0 low ∙ quote_end-other _ _ h) ∙ counted i _

-- the quote
pub quote_end-here : (text : List ℕ) (i : ℕ) → i < length text → (get_or text i 0 == 34) ≡ true → quote_end false text ≡ option_map (λ n. i + n) (quote_end false (drop i text))
    → Some (i + 1) ≡ quote_end false text
quote_end-here text i low h was = sym (was ∙ ap (option_map (λ n. i + n)) (at_drop_more (quote_end false) text i 0 low ∙ quote_end-quote _ _ h))

quote_end-empty : (taken : Bool) → quote_end taken [] ≡ None
unfolding quote_end
quote_end-empty taken = refl

-- nothing is left
pub quote_end-none : (text : List ℕ) (i : ℕ) (taken : Bool) → length text ≤ i → quote_end false text ≡ option_map (λ n. i + n) (quote_end taken (drop i text)) → None ≡ quote_end false text
quote_end-none text i taken low was = sym (was ∙ ap (option_map (λ n. i + n)) (at_drop_all (quote_end taken) text i low ∙ quote_end-empty taken))
