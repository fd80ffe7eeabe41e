-- Both passes are handed to `close`, and the roll has the lines of each.
use Rattle.std.proofs.Common.{◌≡◌, ℕ, zero, suc, ◌+◌, ◌-◌, ◌<◌, List, [], ◌∷◌, ◌++◌, length, map, Option, Some, false, All, refl, sym, ap, ◌∙◌, subst, arith}
use Rattle.std.specs.Prelude.{IfSome, slice_index_or}
use Rattle.std.proofs.lemmas.List.Elements.{All-head, All-tail}
use Rattle.tier_lock.specs.Entries.{own}
use Rattle.tier_lock.specs.Known.{KnownPass, AreAll}
use Rattle.lock_tests.specs.declared.roll.Line.{Line}
use Rattle.lock_tests.proofs.turns.two_append.Goals as goal

two_are_all : (a b : KnownPass Line ℕ) (items : List (KnownPass Line ℕ)) → items ≡ a ∷ b ∷ [] → a.number ≡ 0 → a.made ≡ 2 → b.number ≡ 1 → AreAll items
two_are_all a b items is first made second = subst (λ (l : List (KnownPass Line ℕ)). AreAll l) (sym is) record { count = 2; first = (a, (0, omega arith, refl), first, made); others = each }
  where
    each : (n : ℕ) → n < 2 → (p : KnownPass Line ℕ) × ((k : ℕ) × (k < length (a ∷ b ∷ [])) × (slice_index_or (a ∷ b ∷ []) k p ≡ p)) × (p.number ≡ n)
    each zero low = (a, (0, omega arith, refl), first)
    each (suc zero) low = (b, (1, omega arith, refl), second)
    each (suc (suc n)) low = absurd (omega arith)

-- the pass p is the pass old with these numbers added
abbrev AddsAll : KnownPass Line ℕ → List ℕ → KnownPass Line ℕ → Type 0
AddsAll old numbers p = p ≡ record old { seen = p.seen; mine = map (λ n. record { driver = old.number; number = n; prepares = false }) numbers; room = old.room - length numbers }

came_back : (old p : KnownPass Line ℕ) (numbers : List ℕ) (o : Option (KnownPass Line ℕ)) → o ≡ Some p → IfSome o (λ p. AddsAll old numbers p) → AddsAll old numbers p
came_back old p numbers o is h = subst (λ (x : Option (KnownPass Line ℕ)). IfSome x (λ p. AddsAll old numbers p)) is h

both_of : (P : KnownPass Line ℕ → Type 0) (a b : KnownPass Line ℕ) (items : List (KnownPass Line ℕ)) → items ≡ a ∷ b ∷ [] → All P items → P a × P b
both_of P a b items is h = let all : All P (a ∷ b ∷ []) = subst (λ (l : List (KnownPass Line ℕ)). All P l) is h in (All-head P a (b ∷ []) all, All-head P b [] (All-tail P a (b ∷ []) all))

-- the lines of a pass's number are its numbers, in their order
lines_of : (lines : List Line) (numbers : List ℕ) (p old : KnownPass Line ℕ) (number : ℕ) → own (λ l. l.driver) p.number lines ≡ p.mine → AddsAll old numbers p → old.number ≡ number
    → own (λ l. l.driver) number lines ≡ map (λ n. record { driver = number; number = n; prepares = false }) numbers
lines_of lines numbers p old number mine is named =
    ap (λ n. own (λ l. l.driver) n lines) (sym (ap (λ (q : KnownPass Line ℕ). q.number) is ∙ named))
    ∙ mine
    ∙ ap (λ (q : KnownPass Line ℕ). q.mine) is
    ∙ ap (λ (d : ℕ). map (λ n. record { driver = d; number = n; prepares = false }) numbers) named

pub close-requires-clause-all : goal.close-requires-clause-all
close-requires-clause-all g c =
    let split = c.split-other.ensures in
    let made = c.in_ok-lock.ensures.pass in
    let two = c.in-Some-Some in
    let one = came_back c.split-other.new.pass two.one c.args.first.now _ two.is-0 c.join-one.ensures.first in
    let other = came_back c.split-other.result two.other c.args.second.now _ two.is-1 c.join-one.ensures.second in
    let items = c.in_ok-push-2.ensures.items ∙ ap (λ l. l ++ two.other ∷ []) (c.in_ok-push.ensures.items ∙ ap (λ l. l ++ two.one ∷ []) c.in_ok-passes.ensures.items) in
    two_are_all two.one two.other _ items
    (ap (λ p. p.number) one ∙ ap (λ p. p.number) split.old ∙ ap (λ p. p.number) made)
    (ap (λ p. p.made) one ∙ ap (λ p. p.made) split.old ∙ ap (λ p. p.made + 1) made)
    (ap (λ p. p.number) other ∙ ap (λ p. p.number) split.new ∙ ap (λ p. p.made) made)

pub returns-in-Ok-clause-first : goal.returns-in-Ok-clause-first
returns-in-Ok-clause-first g c =
    let two = c.in-Some-Some in
    let one = came_back c.split-other.new.pass two.one c.args.first.now _ two.is-0 c.join-one.ensures.first in
    let items = c.in_ok-push-2.ensures.items ∙ ap (λ l. l ++ two.other ∷ []) (c.in_ok-push.ensures.items ∙ ap (λ l. l ++ two.one ∷ []) c.in_ok-passes.ensures.items) in
    let both = both_of (λ p. own (λ l. l.driver) p.number c.in-Ok.roll.lines.items ≡ p.mine) two.one two.other _ items c.in-Ok.ensures.mine in
    lines_of c.in-Ok.roll.lines.items c.args.first.now two.one c.split-other.new.pass 0 both.0 one (ap (λ p. p.number) c.split-other.ensures.old ∙ ap (λ p. p.number) c.in_ok-lock.ensures.pass)

pub returns-in-Ok-clause-second : goal.returns-in-Ok-clause-second
returns-in-Ok-clause-second g c =
    let two = c.in-Some-Some in
    let other = came_back c.split-other.result two.other c.args.second.now _ two.is-1 c.join-one.ensures.second in
    let items = c.in_ok-push-2.ensures.items ∙ ap (λ l. l ++ two.other ∷ []) (c.in_ok-push.ensures.items ∙ ap (λ l. l ++ two.one ∷ []) c.in_ok-passes.ensures.items) in
    let both = both_of (λ p. own (λ l. l.driver) p.number c.in-Ok.roll.lines.items ≡ p.mine) two.one two.other _ items c.in-Ok.ensures.mine in
    lines_of c.in-Ok.roll.lines.items c.args.second.now two.other c.split-other.result 1 both.1 other (ap (λ p. p.number) c.split-other.ensures.new ∙ ap (λ p. p.made) c.in_ok-lock.ensures.pass)
