use Rattle.std.proofs.Common.{◌≡◌, ◌∙◌, ◌+◌, ◌<◌, ◌++◌, ◌∷◌, [], ℕ, List, Option, Some, None, ap, sym, refl, length, drop, get_or, append_assoc, append-nil}
use Rattle.std.specs.Borrow.{Bor}
use Rattle.std.specs.Option.{option_map, option_and_then}
use Rattle.std.proofs.lemmas.List.{drop_more, drop_all}
use Rattle.bundle_text.specs.Words.{texts}
use Rattle.drv_scripts.specs.ListLines.{driver_number, turns_named}
use Rattle.drv_scripts.proofs.order_section.turns_named.Goals as goal

-- the words from a place on name drivers where the one there does and those behind it do
named_at : (names : List (List ℕ)) (words : List (Bor (List ℕ))) (i : ℕ) (d : Bor (List ℕ)) → i < length words
    → turns_named names (texts (drop i words)) ≡ option_and_then (λ n. option_map (λ more. n ∷ more) (turns_named names (texts (drop (i + 1) words)))) (driver_number names (get_or words i d).now)
unfolding turns_named
named_at names words i d within = ap (λ (ws : List (Bor (List ℕ))). turns_named names (texts ws)) (drop_more words i d within)

-- one number more
one_more : (old new : List ℕ) (n : ℕ) (rest : Option (List ℕ)) → new ≡ old ++ n ∷ [] → option_map (λ more. new ++ more) rest ≡ option_map (λ more. old ++ more) (option_map (λ more. n ∷ more) rest)
one_more old new n None e = refl
one_more old new n (Some xs) e = ap (λ (ys : List ℕ). Some (ys ++ xs)) e ∙ ap (λ (ys : List ℕ). Some ys) (append_assoc old (n ∷ []) xs)

no_more : (names : List (List ℕ)) (done : List ℕ) → option_map (λ more. done ++ more) (turns_named names (texts [])) ≡ Some done
unfolding turns_named
no_more names done = ap (λ (xs : List ℕ). Some xs) (append-nil done)

pub returns-in_default : goal.returns-in_default
returns-in_default c =
    let names = texts c.args.drivers.now in
    let words = c.args.words.now in
    let i = c.loop-word.word-index in
    let here = named_at names words i _ c.loop-word-test.true
    ∙ ap (option_and_then (λ (n : ℕ). option_map (λ (more : List ℕ). n ∷ more) (turns_named names (texts (drop (i + 1) words))))) (sym c.driver_number.ensures ∙ c.in_default.is) in
    sym (sym c.loop-word.invariant ∙ ap (option_map (λ (more : List ℕ). c.loop-word.turns.items ++ more)) here)

pub loop-word-preserved : goal.loop-word-preserved
loop-word-preserved c =
    let names = texts c.args.drivers.now in
    let words = c.args.words.now in
    let i = c.loop-word.word-index in
    let here = named_at names words i _ c.loop-word-test.true
    ∙ ap (option_and_then (λ (n : ℕ). option_map (λ (more : List ℕ). n ∷ more) (turns_named names (texts (drop (i + 1) words))))) (sym c.driver_number.ensures ∙ c.in-Some.is) in
    one_more c.loop-word.turns.items _ c.in-Some.driver (turns_named names (texts (drop (i + 1) words))) c.in_ok-push.ensures.items
    ∙ ap (option_map (λ (more : List ℕ). c.loop-word.turns.items ++ more)) (sym here) ∙ c.loop-word.invariant

pub returns : goal.returns
returns c =
    let names = texts c.args.drivers.now in
    let done = c.loop-word.turns.items in
    sym (no_more names done)
    ∙ ap (λ (ws : List (Bor (List ℕ))). option_map (λ (more : List ℕ). done ++ more) (turns_named names (texts ws))) (sym (drop_all c.loop-word.word-index c.args.words.now c.loop-word-test.false))
    ∙ c.loop-word.invariant
