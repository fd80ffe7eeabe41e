-- One number more was added.
use Rattle.std.proofs.Common.{◌≡◌, ℕ, ◌+◌, ◌-◌, ◌<◌, List, [], ◌∷◌, ◌++◌, length, map, take, get_or, false, sym, ap, ◌∙◌, arith}
use Rattle.std.proofs.lemmas.List.{take_more, map-append}
use Rattle.tier_lock.specs.Known.{KnownPass}
use Rattle.lock_tests.specs.declared.roll.Line.{Line}
use Rattle.lock_tests.proofs.turns.append_all.Goals as goal

one_more : (old p q : KnownPass Line ℕ) (xs : List ℕ) (i : ℕ) → i < length xs
    → p ≡ record old { seen = p.seen; mine = map (λ n. record { driver = old.number; number = n; prepares = false }) (take i xs); room = old.room - i }
    → q ≡ record p { seen = q.seen; mine = p.mine ++ record { driver = p.number; number = get_or xs i 0; prepares = false } ∷ []; room = p.room - 1 }
    → q ≡ record old { seen = q.seen; mine = map (λ n. record { driver = old.number; number = n; prepares = false }) (take (i + 1) xs); room = old.room - (i + 1) }
one_more old p q xs i low was now =
    let f : ℕ → Line = λ n. record { driver = old.number; number = n; prepares = false } in
    let step : q ≡ record old { seen = q.seen; mine = map f (take i xs) ++ f (get_or xs i 0) ∷ []; room = old.room - i - 1 } =
    now ∙ (λ j. record (was j) { seen = q.seen; mine = (was j).mine ++ record { driver = (was j).number; number = get_or xs i 0; prepares = false } ∷ []; room = (was j).room - 1 }) in
    let mine : map f (take i xs) ++ f (get_or xs i 0) ∷ [] ≡ map f (take (i + 1) xs) = sym (ap (map f) (take_more xs i 0 low) ∙ map-append f (take i xs) (get_or xs i 0 ∷ [])) in
    let room : old.room - i - 1 ≡ old.room - (i + 1) = omega arith in
    step ∙ (λ j. record old { seen = q.seen; mine = mine j; room = room j })

pub loop-number-preserved : goal.loop-number-preserved
loop-number-preserved g c = one_more c.args.pass c.loop-number.pass c.append.new.pass c.args.numbers.now c.loop-number.number-index c.loop-number-test.true c.loop-number.invariant c.if-not-append.ensures.added
