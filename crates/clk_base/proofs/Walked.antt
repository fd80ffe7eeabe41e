-- Lines of possible parents that are walked from one clock: what is reached from it.
use Rattle.std.proofs.Common.{◌≡◌, ℕ, zero, suc, ◌+◌, ◌<◌, ◌≤◌, Bool, true, false, ◌||◌, List, [], ◌∷◌, ◌++◌, length, get_or, refl, ap, sym, ◌∙◌, subst, inl, inr, arith, length-append}
use Rattle.std.specs.Prelude.{◌==◌, nat_lt}
use Rattle.std.specs.List.{list_all, list_any}
use Rattle.std.proofs.lemmas.Bool.{false≢true, both_ways, and_parts, and_from, or_cases, or_left, or_right, cases_Bool, cases_eq, cases_lt, eq-eqb, ne_eqb, eqb-true, ltb-true, cond-true, cond-false}
use Rattle.std.proofs.lemmas.List.{get_or_append_left, get_or_default, same_lists}
use Rattle.std.proofs.lemmas.List.Folds.{list_any-append}
use Rattle.clk_base.specs.Levels.{reaches_within}
use Rattle.clk_base.specs.Tables.{has_place, with_place, with_places, IsListed}
use Rattle.std.proofs.Math.Bool.{or-false, or_assoc}

-- ## Places

-- among places with one more are those, and this one
has_place-with : (places : List ℕ) (c a : ℕ) → has_place (with_place places c) a ≡ (has_place places a || (c == a))
has_place-with places c a =
    elim (cases_Bool (has_place places c)) [
      | inl had ↦ ap (λ xs. has_place xs a) (cond-true _ _ _ had)
          ∙ elim (cases_eq c a) [
            | inl same ↦ (let here : has_place places a ≡ true = ap (has_place places) (sym same) ∙ had in here ∙ sym (or_left _ _ here))
            | inr apart ↦ sym (ap (λ b. has_place places a || b) (ne_eqb c a apart) ∙ or-false _)
          ]
      | inr new ↦ ap (λ xs. has_place xs a) (cond-false _ _ _ new)
          ∙ (list_any-append (λ p. p == a) places (c ∷ []) ∙ ap (λ b. has_place places a || b) (or-false (c == a)))
    ]

-- among places with more are those, and these
pub has_place-with_all : (places more : List ℕ) (a : ℕ) → has_place (with_places places more) a ≡ (has_place places a || has_place more a)
has_place-with_all places [] a = sym (or-false _)
has_place-with_all places (c ∷ more) a =
    has_place-with_all (with_place places c) more a
    ∙ (ap (λ b. b || has_place more a) (has_place-with places c a) ∙ or_assoc (has_place places a) (c == a) (has_place more a))

-- the places stay in front
with_place-front : (places : List ℕ) (c : ℕ) → (length places ≤ length (with_place places c)) × ((k : ℕ) → k < length places → get_or (with_place places c) k 0 ≡ get_or places k 0)
with_place-front places c =
    elim (cases_Bool (has_place places c)) [
      | inl had ↦ (let e : with_place places c ≡ places = cond-true _ _ _ had in (omega (arith, ap length e), λ k lt. ap (λ xs. get_or xs k 0) e))
      | inr new ↦ (let e : with_place places c ≡ places ++ c ∷ [] = cond-false _ _ _ new in
          (omega (arith, ap length e, length-append places (c ∷ [])), λ k lt. ap (λ xs. get_or xs k 0) e ∙ get_or_append_left places (c ∷ []) 0 k lt))
    ]

pub with_places-front : (places more : List ℕ) → (length places ≤ length (with_places places more)) × ((k : ℕ) → k < length places → get_or (with_places places more) k 0 ≡ get_or places k 0)
with_places-front places [] = (omega arith, λ k lt. refl)
with_places-front places (c ∷ more) =
    let one = with_place-front places c in
    let rest = with_places-front (with_place places c) more in
    let le : length places ≤ length (with_place places c) = one.0 in
    let le' : length (with_place places c) ≤ length (with_places (with_place places c) more) = rest.0 in
    (omega arith, λ k lt. rest.1 k (omega arith) ∙ one.1 k lt)

-- a place that wasn't among them makes them more
pub with_places-longer : (places more : List ℕ) (a : ℕ) → has_place places a ≡ false → has_place more a ≡ true → length places < length (with_places places more)
with_places-longer places more a new among =
    let front = with_places-front places more in
    let le : length places ≤ length (with_places places more) = front.0 in
    elim (cases_lt (length places) (length (with_places places more))) [
      | inl longer ↦ longer
      | inr short ↦
          let same : places ≡ with_places places more =
          same_lists places (with_places places more) (omega arith)
          (λ k d lt. let inside : k < length (with_places places more) = omega arith in
          get_or_default places k d 0 lt
          ∙ (sym (front.1 k lt) ∙ get_or_default (with_places places more) k 0 d inside)) in
          let has : has_place places a ≡ true = ap (λ xs. has_place xs a) same ∙ (has_place-with_all places more a ∙ or_right (has_place places a) _ among) in
          absurd (both_ways _ new has)
    ]

-- a place that is among them stands somewhere
pub place_found : (places : List ℕ) (a : ℕ) → has_place places a ≡ true → (k : ℕ) × (k < length places) × (get_or places k 0 ≡ a)
place_found [] a has = absurd (false≢true has)
place_found (p ∷ places) a has =
    elim (or_cases _ _ has) [
      | inl here ↦ (0, omega arith, eqb-true p a here)
      | inr later ↦ (let found = place_found places a later in let lt : found.0 < length places = found.1 in (suc found.0, omega arith, found.2))
    ]

pub place_below : (n : ℕ) (places : List ℕ) → list_all (λ p. nat_lt p n) places ≡ true → (k : ℕ) → k < length places → get_or places k 0 < n
place_below n [] all k lt = absurd (omega arith)
place_below n (p ∷ places) all zero lt = ltb-true p n (and_parts _ _ all).0
place_below n (p ∷ places) all (suc k) lt = place_below n places (and_parts _ _ all).1 k (omega arith)

pub list_all-append : (test : ℕ → Bool) (xs ys : List ℕ) → list_all test xs ≡ true → list_all test ys ≡ true → list_all test (xs ++ ys) ≡ true
list_all-append test [] ys first second = second
list_all-append test (x ∷ xs) ys first second = (let parts = and_parts _ _ first in and_from _ _ parts.0 (list_all-append test xs ys parts.1 second))

with_place-below : (n : ℕ) (places : List ℕ) (c : ℕ) → list_all (λ p. nat_lt p n) places ≡ true → nat_lt c n ≡ true → list_all (λ p. nat_lt p n) (with_place places c) ≡ true
with_place-below n places c all below =
    elim (cases_Bool (has_place places c)) [
      | inl had ↦ ap (list_all (λ p. nat_lt p n)) (cond-true _ _ _ had) ∙ all
      | inr new ↦ ap (list_all (λ p. nat_lt p n)) (cond-false _ _ _ new) ∙ list_all-append (λ p. nat_lt p n) places (c ∷ []) all (and_from _ _ below refl)
    ]

pub with_places-below : (n : ℕ) (places more : List ℕ) → list_all (λ p. nat_lt p n) places ≡ true → list_all (λ p. nat_lt p n) more ≡ true → list_all (λ p. nat_lt p n) (with_places places more) ≡ true
with_places-below n places [] all below = all
with_places-below n places (c ∷ more) all below =
    let parts = and_parts _ _ below in
    with_places-below n (with_place places c) more (with_place-below n places c all parts.0) parts.1

-- ## Marks

-- there are no more places than clocks
pub places-few : (table : List Bool) (places : List ℕ) → IsListed table places → length places ≤ length table
places-few table places listed = omega (arith, listed.count)

-- ## Lines

-- what passes one test passes a weaker one
any_weaker : (f g : ℕ → Bool) → ((x : ℕ) → f x ≡ true → g x ≡ true) → (xs : List ℕ) → list_any f xs ≡ true → list_any g xs ≡ true
any_weaker f g weaker [] any = any
any_weaker f g weaker (x ∷ xs) any =
    elim (or_cases _ _ any) [
      | inl here ↦ or_left _ _ (weaker x here)
      | inr later ↦ or_right (g x) _ (any_weaker f g weaker xs later)
    ]

-- some place passes the test
any_found : (test : ℕ → Bool) (ps : List ℕ) → list_any test ps ≡ true → (p : ℕ) × (has_place ps p ≡ true) × (test p ≡ true)
any_found test [] any = absurd (false≢true any)
any_found test (p ∷ ps) any =
    elim (or_cases _ _ any) [
      | inl here ↦ (p, or_left _ _ (eq-eqb p p refl), here)
      | inr later ↦ (let found = any_found test ps later in (found.0, or_right (p == found.0) _ found.1, found.2))
    ]

-- a place that passes it is enough
any_from : (test : ℕ → Bool) (ps : List ℕ) (p : ℕ) → has_place ps p ≡ true → test p ≡ true → list_any test ps ≡ true
any_from test [] p has pass = absurd (false≢true has)
any_from test (q ∷ ps) p has pass =
    elim (or_cases _ _ has) [
      | inl here ↦ or_left _ _ (ap test (eqb-true q p here) ∙ pass)
      | inr later ↦ or_right (test q) _ (any_from test ps p later pass)
    ]

step_more : (up : ℕ → List ℕ) (steps a p : ℕ) → (reaches_within up steps a p ≡ true → reaches_within up (suc steps) a p ≡ true) → ((p == a) || reaches_within up steps a p) ≡ true → ((p == a) || reaches_within up (suc steps) a p) ≡ true
step_more up steps a p more leads =
    elim (or_cases _ _ leads) [
      | inl same ↦ or_left _ _ same
      | inr above ↦ or_right (p == a) _ (more above)
    ]

reaches-more : (up : ℕ → List ℕ) (steps a c : ℕ) → reaches_within up steps a c ≡ true → reaches_within up (suc steps) a c ≡ true
reaches-more up zero a c leads = absurd (false≢true leads)
reaches-more up (suc steps) a c leads =
    any_weaker (λ p. (p == a) || reaches_within up steps a p) (λ p. (p == a) || reaches_within up (suc steps) a p)
    (λ p. step_more up steps a p (reaches-more up steps a p)) (up c) leads

-- more steps reach what fewer do
pub reaches-le : (up : ℕ → List ℕ) (steps more a c : ℕ) → steps ≤ more → reaches_within up steps a c ≡ true → reaches_within up more a c ≡ true
reaches-le up steps zero a c le leads =
    let none : steps ≡ 0 = omega arith in
    subst (λ n. reaches_within up n a c ≡ true) none leads
reaches-le up steps (suc more) a c le leads =
    elim (cases_eq steps (suc more)) [
      | inl same ↦ subst (λ n. reaches_within up n a c ≡ true) same leads
      | inr fewer ↦ reaches-more up more a c (reaches-le up steps more a c (omega arith) leads)
    ]

-- a possible parent is reached in one step
pub reaches-parent : (up : ℕ → List ℕ) (a c : ℕ) → has_place (up c) a ≡ true → reaches_within up 1 a c ≡ true
reaches-parent up a c has = any_from (λ p. (p == a) || reaches_within up 0 a p) (up c) a has (or_left _ _ (eq-eqb a a refl))

-- and a possible parent of what is reached in one more
pub reaches-next : (up : ℕ → List ℕ) (steps q a c : ℕ) → reaches_within up steps q c ≡ true → has_place (up q) a ≡ true → reaches_within up (suc steps) a c ≡ true
reaches-next up zero q a c leads has = absurd (false≢true leads)
reaches-next up (suc steps) q a c leads has =
    any_weaker (λ p. (p == q) || reaches_within up steps q p) (λ p. (p == a) || reaches_within up (suc steps) a p)
    (λ p here. or_right (p == a) _ (elim (or_cases _ _ here) [
      | inl same ↦ reaches-le up 1 (suc steps) a p (omega arith) (reaches-parent up a p (ap (λ r. has_place (up r) a) (eqb-true p q same) ∙ has))
      | inr above ↦ reaches-next up steps q a p above has
    ])) (up c) leads

-- ## The walk

-- what is reached from a clock: its possible parents, and those of the first of the places; and
-- nothing else
pub record IsWalk (up : ℕ → List ℕ) (c : ℕ) (places : List ℕ) (at : ℕ) : Type 0 where
  pub reached : (a : ℕ) → has_place places a ≡ true → reaches_within up (length places) a c ≡ true
  pub parents : (a : ℕ) → has_place (up c) a ≡ true → has_place places a ≡ true
  pub closed : (k : ℕ) → k < at → (a : ℕ) → has_place (up (get_or places k 0)) a ≡ true → has_place places a ≡ true

only_second : (x y : Bool) → x ≡ false → (x || y) ≡ true → y ≡ true
only_second true y e h = absurd (false≢true (sym e))
only_second false y e h = h

at_place : (places : List ℕ) (k : ℕ) → k < length places → has_place places (get_or places k 0) ≡ true
at_place [] k lt = absurd (omega arith)
at_place (p ∷ places) zero lt = or_left _ _ (eq-eqb p p refl)
at_place (p ∷ places) (suc k) lt = or_right (p == get_or places k 0) _ (at_place places k (omega arith))

-- at first the possible parents of the clock
pub IsWalk-start : (up : ℕ → List ℕ) (c : ℕ) (places : List ℕ) → places ≡ with_places [] (up c) → IsWalk up c places 0
IsWalk-start up c places e =
    let among : (a : ℕ) → has_place places a ≡ has_place (up c) a = λ a. ap (λ xs. has_place xs a) e ∙ has_place-with_all [] (up c) a in
    record {
      reached = λ a has. let some : 0 < length (with_places [] (up c)) = with_places-longer [] (up c) a refl (sym (among a) ∙ has) in
          reaches-le up 1 (length places) a c (omega (arith, ap length e)) (reaches-parent up a c (sym (among a) ∙ has));
      parents = λ a has. among a ∙ has;
      closed = λ k lt a has. absurd (omega arith);
    }

-- then those of the next place
pub IsWalk-next : (up : ℕ → List ℕ) (c : ℕ) (places new : List ℕ) (at : ℕ) → IsWalk up c places at → at < length places → new ≡ with_places places (up (get_or places at 0)) → IsWalk up c new (at + 1)
IsWalk-next up c places new at walk inside e =
    let q : ℕ = get_or places at 0 in
    let front = with_places-front places (up q) in
    let longer : length places ≤ length new = omega (arith, ap length e, front.0) in
    let stays : (k : ℕ) → k < length places → get_or new k 0 ≡ get_or places k 0 = λ k lt. ap (λ xs. get_or xs k 0) e ∙ front.1 k lt in
    let among : (a : ℕ) → has_place new a ≡ (has_place places a || has_place (up q) a) = λ a. ap (λ xs. has_place xs a) e ∙ has_place-with_all places (up q) a in
    let here : has_place places q ≡ true = at_place places at inside in
    record {
      reached = λ a has. elim (cases_Bool (has_place places a)) [
        | inl old ↦ reaches-le up (length places) (length new) a c longer (walk.reached a old)
        | inr fresh ↦
            let above : has_place (up q) a ≡ true = only_second _ _ fresh (sym (among a) ∙ has) in
            let more : length places < length (with_places places (up q)) = with_places-longer places (up q) a fresh above in
            reaches-le up (suc (length places)) (length new) a c (omega (arith, ap length e)) (reaches-next up (length places) q a c (walk.reached q here) above)
      ];
      parents = λ a has. among a ∙ or_left _ _ (walk.parents a has);
      closed = λ k lt a has. elim (cases_eq k at) [
        | inl same ↦ among a ∙ or_right (has_place places a) _ (ap (λ n. has_place (up n) a) (sym (stays at inside) ∙ ap (λ n. get_or new n 0) (sym same)) ∙ has)
        | inr apart ↦ among a ∙ or_left _ _ (walk.closed k (omega arith) a (ap (λ n. has_place (up n) a) (sym (stays k (omega arith))) ∙ has))
      ];
    }

-- where the walk has come to its end, what is reached is among the places
walked-all : (up : ℕ → List ℕ) (c : ℕ) (places : List ℕ) (at : ℕ) → IsWalk up c places at → length places ≤ at → (steps a q : ℕ) → ((p : ℕ) → has_place (up q) p ≡ true → has_place places p ≡ true) → reaches_within up steps a q ≡ true → has_place places a ≡ true
walked-all up c places at walk done zero a q parents leads = absurd (false≢true leads)
walked-all up c places at walk done (suc steps) a q parents leads =
    let p = any_found (λ p. (p == a) || reaches_within up steps a p) (up q) leads in
    let here : has_place places p.0 ≡ true = parents p.0 p.1 in
    elim (or_cases _ _ p.2) [
      | inl same ↦ ap (has_place places) (sym (eqb-true p.0 a same)) ∙ here
      | inr above ↦
          let found = place_found places p.0 here in
          let lt : found.0 < length places = found.1 in
          walked-all up c places at walk done steps a p.0
          (λ r has. walk.closed found.0 (omega arith) r (ap (λ n. has_place (up n) r) found.2 ∙ has)) above
    ]

-- so a clock is among the places where a line leads to it in as many steps as there are clocks
pub walked : (up : ℕ → List ℕ) (c n : ℕ) (places : List ℕ) (at a : ℕ) → IsWalk up c places at → length places ≤ at → length places ≤ n → has_place places a ≡ reaches_within up n a c
walked up c n places at a walk done few =
    elim (cases_Bool (has_place places a)) [
      | inl has ↦ has ∙ sym (reaches-le up (length places) n a c few (walk.reached a has))
      | inr absent ↦ elim (cases_Bool (reaches_within up n a c)) [
        | inl leads ↦ absurd (both_ways _ absent (walked-all up c places at walk done n a c walk.parents leads))
        | inr never ↦ absent ∙ sym never
      ]
    ]
