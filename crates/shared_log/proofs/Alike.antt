-- Passes that differ in who has the baton alone.
use Rattle.std.proofs.Common.{◌≡◌, ℕ, zero, suc, ◌<◌, ◌+◌, Bool, true, false, not, cond, nat_eq, List, [], ◌∷◌, length, map, sum_by, get_or, All, Some, position, refl, sym, ap, subst, ◌∙◌, arith}
use Rattle.std.specs.List.{Contains, position_or_len}
use Rattle.std.proofs.lemmas.Bool.{lt-ltb, cond-true}
use Rattle.std.proofs.lemmas.List.{length-map, get_or-map, get_or_default}
use Rattle.std.proofs.lemmas.List.Sums.{sum_by-cons}
use Rattle.tier_lock.specs.Known.{KnownPass, AreAll}
use Rattle.shared_log.specs.Entering.{without_baton}

-- where an element passes a test, the first that does is one of them
found : {X : Type 0} (test : X → Bool) (xs : List X) (k : ℕ) (d : X) → k < length xs → test (get_or xs k d) ≡ true → position_or_len test xs < length xs
found test [] k d low passes = absurd (omega (arith, low))
found test (x ∷ xs) zero d low passes =
    subst (λ (b : Bool). cond (not b) (1 + position_or_len test xs) 0 < length (x ∷ xs)) (sym passes) (omega arith)
found test (x ∷ xs) (suc k) d low passes =
    let later : position_or_len test xs < length xs = found test xs k d (omega (arith, low)) passes in
    elim (test x) as (λ b. cond (not b) (1 + position_or_len test xs) 0 < length (x ∷ xs))
    [ true ↦ omega arith | false ↦ omega (arith, later) ]

-- number 0 is among all passes
pub first_found : {E F : Type 0} (ps : List (KnownPass E F)) → AreAll ps → position (λ p. nat_eq p.number 0) ps ≡ Some (position_or_len (λ p. nat_eq p.number 0) ps)
first_found {E = E} {F = F} ps all =
    let first : KnownPass E F = all.first.0 in
    let inside = all.first.1 in
    let zero : (get_or ps inside.0 first).number ≡ 0 = ap (λ (p : KnownPass E F). p.number) inside.2 ∙ all.first.2 in
    cond-true _ _ _ (lt-ltb (position_or_len (λ (p : KnownPass E F). nat_eq p.number 0) ps) (length ps)
    (found (λ (p : KnownPass E F). nat_eq p.number 0) ps inside.0 first inside.1 (ap (λ (n : ℕ). nat_eq n 0) zero)))

module _ {E F : Type 0} (xs ys : List (KnownPass E F)) (same : map without_baton xs ≡ map without_baton ys) where
  as_long : length xs ≡ length ys
  as_long = sym (length-map xs without_baton) ∙ ap (λ (ps : List (KnownPass E F)). length ps) same ∙ length-map ys without_baton

  low_in : (k : ℕ) → k < length ys → k < length xs
  low_in k low = subst (λ (n : ℕ). k < n) (sym as_long) low

  alike_at : (k : ℕ) (d : KnownPass E F) → k < length ys → without_baton (get_or xs k d) ≡ without_baton (get_or ys k d)
  alike_at k d low =
      sym (get_or-map without_baton xs k d d (low_in k low))
      ∙ ap (λ (ps : List (KnownPass E F)). get_or ps k d) same
      ∙ get_or-map without_baton ys k d d low

  -- what is said of all passes without a word of the baton carries over
  pub all_alike : (Q : KnownPass E F → Type 0) → ((p : KnownPass E F) → Q p → Q (without_baton p)) → ((p : KnownPass E F) → Q (without_baton p) → Q p) → All Q xs → All Q ys
  all_alike Q to from all = λ k d low. from (get_or ys k d) (subst Q (alike_at k d low) (to (get_or xs k d) (all k d (low_in k low))))

  there : (p : KnownPass E F) → Contains xs p → (q : KnownPass E F) × Contains ys q × (without_baton q ≡ without_baton p)
  there p inside =
      let low : inside.0 < length ys = subst (λ (n : ℕ). inside.0 < n) as_long inside.1 in
      let q : KnownPass E F = get_or ys inside.0 p in
      (q, (inside.0, low, get_or_default ys inside.0 q p low), sym (alike_at inside.0 p low) ∙ ap (λ (r : KnownPass E F). without_baton r) inside.2)

  pub are_all_alike : AreAll xs → AreAll ys
  are_all_alike all =
      let first = there all.first.0 all.first.1 in
      record {
        count = all.count;
        first = (first.0, first.1, ap (λ (r : KnownPass E F). r.number) first.2 ∙ all.first.2, ap (λ (r : KnownPass E F). r.made) first.2 ∙ all.first.3);
        others = λ n low.
            let other = all.others n low in
            let next = there other.0 other.1 in
            (next.0, next.1, ap (λ (r : KnownPass E F). r.number) next.2 ∙ other.2);
      }

-- so are their rooms
rooms_without : {E F : Type 0} (ps : List (KnownPass E F)) → sum_by (λ p. p.room) (map without_baton ps) ≡ sum_by (λ p. p.room) ps
rooms_without [] = refl
rooms_without {E = E} {F = F} (p ∷ ps) =
    let room : KnownPass E F → ℕ = λ q. q.room in
    omega (arith, sum_by-cons room p ps, sum_by-cons room (without_baton p) (map without_baton ps), rooms_without ps)

pub rooms_alike : {E F : Type 0} (xs ys : List (KnownPass E F)) → map without_baton xs ≡ map without_baton ys → sum_by (λ p. p.room) xs ≡ sum_by (λ p. p.room) ys
rooms_alike {E = E} {F = F} xs ys same = sym (rooms_without xs) ∙ ap (λ (ps : List (KnownPass E F)). sum_by (λ (p : KnownPass E F). p.room) ps) same ∙ rooms_without ys
