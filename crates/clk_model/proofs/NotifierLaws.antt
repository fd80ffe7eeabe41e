-- Laws on the notifiers of a clock: they stay sorted by falling priority, whatever is added and removed.
use Rattle.std.proofs.Common.{◌≡◌, ℕ, ℤ, ◌&&◌, ◌||◌, Bool, true, false, cond, List, [], ◌∷◌, ◌++◌, refl, sym, ap, ◌∙◌, arith, nat_eq}
use Rattle.std.specs.Prelude.{filter}
use Rattle.std.specs.List.{list_any}
use Rattle.std.specs.Int.RustNames.{int_lt}
use Rattle.std.proofs.lemmas.Int.{ints}
use Rattle.std.proofs.lemmas.List.Elements.{filter-append}
use Rattle.clk_model.specs.State.{NotifierRow}
use Rattle.clk_model.specs.Notices.{by_priority, sorted, notifiers_of}

-- ---- falling priorities

-- none of these notifiers has a priority above this one
abbrev pub AreUnder : ℤ → List NotifierRow → Type 0
AreUnder most [] = Unit {0}
AreUnder most (m ∷ ms) = (int_lt most m.priority ≡ false) × AreUnder most ms

-- no notifier has a priority above one in front of it
abbrev pub IsFalling : List NotifierRow → Type 0
IsFalling [] = Unit {0}
IsFalling (m ∷ ms) = AreUnder m.priority ms × IsFalling ms

under_next : (a b c : ℤ) → int_lt a b ≡ false → int_lt b c ≡ false → int_lt a c ≡ false
under_next a b c h k = grind (arith, ints)

under_new : (a b : ℤ) → int_lt a b ≡ true → int_lt b a ≡ false
under_new a b h = grind (arith, ints)

above_all : (a b c : ℤ) → int_lt a c ≡ true → int_lt a b ≡ false → int_lt b c ≡ true
above_all a b c h k = grind (arith, ints)

AreUnder-more : (a b : ℤ) (ms : List NotifierRow) → int_lt a b ≡ false → AreUnder b ms → AreUnder a ms
AreUnder-more a b [] less under = tt
AreUnder-more a b (m ∷ ms) less under = (under_next a b m.priority less under.0, AreUnder-more a b ms less under.1)

AreUnder-filter : (p : NotifierRow → Bool) (a : ℤ) (ms : List NotifierRow) → AreUnder a ms → AreUnder a (filter p ms)
AreUnder-filter p a [] under = tt
AreUnder-filter p a (m ∷ ms) under =
    let rest = AreUnder-filter p a ms under.1 in
    elim (p m) as (λ t. AreUnder a (cond t (m ∷ filter p ms) (filter p ms))) [
      | true ↦ (under.0, rest)
      | false ↦ rest
    ]

AreUnder-by_priority : (a : ℤ) (n : NotifierRow) (ms : List NotifierRow) → int_lt a n.priority ≡ false → AreUnder a ms → AreUnder a (by_priority n ms)
AreUnder-by_priority a n [] less under = (less, tt)
AreUnder-by_priority a n (m ∷ ms) less under =
    let rest = AreUnder-by_priority a n ms less under.1 in
    elim (int_lt m.priority n.priority) as (λ t. AreUnder a (cond t (n ∷ m ∷ ms) (m ∷ by_priority n ms))) [
      | true ↦ (less, (under.0, under.1))
      | false ↦ (under.0, rest)
    ]

-- a notifier that goes to its place leaves the priorities falling
pub IsFalling-by_priority : (n : NotifierRow) (ms : List NotifierRow) → IsFalling ms → IsFalling (by_priority n ms)
IsFalling-by_priority n [] falling = (tt, tt)
IsFalling-by_priority n (m ∷ ms) falling =
    let rest = IsFalling-by_priority n ms falling.1 in
    elim (int_lt m.priority n.priority) as (λ t. int_lt m.priority n.priority ≡ t → IsFalling (cond t (n ∷ m ∷ ms) (m ∷ by_priority n ms))) [
      | true ↦ λ e. let less = under_new m.priority n.priority e in ((less, AreUnder-more n.priority m.priority ms less falling.0), (falling.0, falling.1))
      | false ↦ λ e. (AreUnder-by_priority m.priority n ms e falling.0, rest)
    ] refl

-- and so they fall along sorted notifiers
pub IsFalling-sorted : (done ns : List NotifierRow) → IsFalling done → IsFalling (sorted done ns)
IsFalling-sorted done [] falling = falling
IsFalling-sorted done (n ∷ ns) falling = IsFalling-sorted (by_priority n done) ns (IsFalling-by_priority n done falling)

-- ---- one more

-- the last one that is sorted goes to its place among the others
pub sorted-push : (done ns : List NotifierRow) (n : NotifierRow) → sorted done (ns ++ n ∷ []) ≡ by_priority n (sorted done ns)
sorted-push done [] n = refl
sorted-push done (m ∷ ns) n = sorted-push (by_priority m done) ns n

-- a notifier that is added to a clock goes to its place among those of this clock
pub notifiers_of-push : (ns : List NotifierRow) (n : NotifierRow) (c : ℕ) → nat_eq n.clock c ≡ true → notifiers_of (ns ++ n ∷ []) c ≡ by_priority n (notifiers_of ns c)
notifiers_of-push ns n c here =
    ap (sorted []) (filter-append (λ m. nat_eq m.clock c) ns (n ∷ []) ∙ ap (λ (t : Bool). filter (λ m. nat_eq m.clock c) ns ++ cond t (n ∷ []) []) here)
    ∙ sorted-push [] (filter (λ m. nat_eq m.clock c) ns) n

-- one that is added elsewhere leaves them
pub notifiers_of-push_other : (ns : List NotifierRow) (n : NotifierRow) (c : ℕ) → nat_eq n.clock c ≡ false → notifiers_of (ns ++ n ∷ []) c ≡ notifiers_of ns c
notifiers_of-push_other ns n c elsewhere =
    ap (sorted []) (filter-append (λ m. nat_eq m.clock c) ns (n ∷ []) ∙ ap (λ (t : Bool). filter (λ m. nat_eq m.clock c) ns ++ cond t (n ∷ []) []) elsewhere
    ∙ append_nothing (filter (λ m. nat_eq m.clock c) ns)) where
      append_nothing : (xs : List NotifierRow) → xs ++ [] ≡ xs
      append_nothing [] = refl
      append_nothing (x ∷ xs) = ap (λ ys. x ∷ ys) (append_nothing xs)

-- ---- some taken out

-- above all others, a notifier comes to the front
by_priority-front : (n : NotifierRow) (ms : List NotifierRow) (a : ℤ) → int_lt a n.priority ≡ true → AreUnder a ms → by_priority n ms ≡ n ∷ ms
by_priority-front n [] a less under = refl
by_priority-front n (m ∷ ms) a less under = ap (λ (t : Bool). cond t (n ∷ m ∷ ms) (m ∷ by_priority n ms)) (above_all a m.priority n.priority less under.0)

-- what is kept of falling priorities and a new one is what is kept of them, and the new one in its place, if it is kept
filter-by_priority : (p : NotifierRow → Bool) (n : NotifierRow) (ms : List NotifierRow) → IsFalling ms
    → filter p (by_priority n ms) ≡ cond (p n) (by_priority n (filter p ms)) (filter p ms)
filter-by_priority p n [] falling = refl
filter-by_priority p n (m ∷ ms) falling =
    elim (int_lt m.priority n.priority) as (λ t. int_lt m.priority n.priority ≡ t
    → filter p (cond t (n ∷ m ∷ ms) (m ∷ by_priority n ms)) ≡ cond (p n) (by_priority n (filter p (m ∷ ms))) (filter p (m ∷ ms))) [
      | true ↦ λ e.
          ap (λ ys. cond (p n) ys (filter p (m ∷ ms)))
          (sym (by_priority-front n (filter p (m ∷ ms)) m.priority e (AreUnder-filter p m.priority (m ∷ ms) (under_itself m.priority, falling.0))))
      | false ↦ λ e.
          ap (λ ys. cond (p m) (m ∷ ys) ys) (filter-by_priority p n ms falling.1)
          ∙ both_orders (p m) (p n) e
    ] refl where
      under_itself : (a : ℤ) → int_lt a a ≡ false
      under_itself a = grind (arith, ints)

      both_orders : (a b : Bool) → int_lt m.priority n.priority ≡ false
          → cond a (m ∷ cond b (by_priority n (filter p ms)) (filter p ms)) (cond b (by_priority n (filter p ms)) (filter p ms))
          ≡ cond b (by_priority n (cond a (m ∷ filter p ms) (filter p ms))) (cond a (m ∷ filter p ms) (filter p ms))
      both_orders true true e = sym (ap (λ (t : Bool). cond t (n ∷ m ∷ filter p ms) (m ∷ by_priority n (filter p ms))) e)
      both_orders true false e = refl
      both_orders false true e = refl
      both_orders false false e = refl

filter-sorted : (p : NotifierRow → Bool) (done ns : List NotifierRow) → IsFalling done → filter p (sorted done ns) ≡ sorted (filter p done) (filter p ns)
filter-sorted p done [] falling = refl
filter-sorted p done (n ∷ ns) falling =
    filter-sorted p (by_priority n done) ns (IsFalling-by_priority n done falling)
    ∙ ap (λ ds. sorted ds (filter p ns)) (filter-by_priority p n done falling)
    ∙ kept (p n) where
      kept : (t : Bool) → sorted (cond t (by_priority n (filter p done)) (filter p done)) (filter p ns) ≡ sorted (filter p done) (cond t (n ∷ filter p ns) (filter p ns))
      kept true = refl
      kept false = refl

filter-filter : (p q : NotifierRow → Bool) (ns : List NotifierRow) → filter p (filter q ns) ≡ filter q (filter p ns)
filter-filter p q [] = refl
filter-filter p q (n ∷ ns) =
    elim (p n) as (λ a. p n ≡ a → filter p (filter q (n ∷ ns)) ≡ filter q (cond a (n ∷ filter p ns) (filter p ns))) [
      | true ↦ λ e.
          elim (q n) as (λ b. filter p (cond b (n ∷ filter q ns) (filter q ns)) ≡ cond b (n ∷ filter q (filter p ns)) (filter q (filter p ns))) [
            | true ↦ ap (λ (t : Bool). cond t (n ∷ filter p (filter q ns)) (filter p (filter q ns))) e ∙ ap (λ ys. n ∷ ys) (filter-filter p q ns)
            | false ↦ filter-filter p q ns
          ]
      | false ↦ λ e.
          elim (q n) as (λ b. filter p (cond b (n ∷ filter q ns) (filter q ns)) ≡ filter q (filter p ns)) [
            | true ↦ ap (λ (t : Bool). cond t (n ∷ filter p (filter q ns)) (filter p (filter q ns))) e ∙ filter-filter p q ns
            | false ↦ filter-filter p q ns
          ]
    ] refl

-- of the notifiers that are kept, those of a clock are the ones that are kept of its own
pub notifiers_of-filter : (p : NotifierRow → Bool) (ns : List NotifierRow) (c : ℕ) → notifiers_of (filter p ns) c ≡ filter p (notifiers_of ns c)
notifiers_of-filter p ns c =
    ap (sorted []) (filter-filter (λ n. nat_eq n.clock c) p ns)
    ∙ sym (filter-sorted p [] (filter (λ n. nat_eq n.clock c) ns) tt)

-- ---- whether one is there

any-by_priority : (p : NotifierRow → Bool) (n : NotifierRow) (ms : List NotifierRow) → list_any p (by_priority n ms) ≡ (p n || list_any p ms)
any-by_priority p n [] = refl
any-by_priority p n (m ∷ ms) =
    elim (int_lt m.priority n.priority) as (λ t. list_any p (cond t (n ∷ m ∷ ms) (m ∷ by_priority n ms)) ≡ (p n || list_any p (m ∷ ms))) [
      | true ↦ refl
      | false ↦ ap (λ (t : Bool). p m || t) (any-by_priority p n ms) ∙ swapped (p m) (p n) (list_any p ms)
    ] where
      swapped : (a b c : Bool) → (a || (b || c)) ≡ (b || (a || c))
      swapped true true c = refl
      swapped true false c = refl
      swapped false b c = refl

any-sorted : (p : NotifierRow → Bool) (done ns : List NotifierRow) → list_any p (sorted done ns) ≡ (list_any p done || list_any p ns)
any-sorted p done [] = sym (or_none (list_any p done)) where
  or_none : (a : Bool) → (a || false) ≡ a
  or_none true = refl
  or_none false = refl
any-sorted p done (n ∷ ns) =
    any-sorted p (by_priority n done) ns
    ∙ ap (λ (t : Bool). t || list_any p ns) (any-by_priority p n done)
    ∙ moved (p n) (list_any p done) (list_any p ns) where
      moved : (a b c : Bool) → ((a || b) || c) ≡ (b || (a || c))
      moved true true c = refl
      moved true false c = refl
      moved false b c = refl

any-filter : (p q : NotifierRow → Bool) (ns : List NotifierRow) → list_any p (filter q ns) ≡ list_any (λ n. q n && p n) ns
any-filter p q [] = refl
any-filter p q (n ∷ ns) =
    elim (q n) as (λ t. list_any p (cond t (n ∷ filter q ns) (filter q ns)) ≡ ((t && p n) || list_any (λ m. q m && p m) ns)) [
      | true ↦ ap (λ (t : Bool). p n || t) (any-filter p q ns)
      | false ↦ any-filter p q ns
    ]

-- some notifier of a clock passes a test where one of all notifiers is of this clock and passes it
pub any-notifiers_of : (p : NotifierRow → Bool) (ns : List NotifierRow) (c : ℕ) → list_any p (notifiers_of ns c) ≡ list_any (λ n. nat_eq n.clock c && p n) ns
any-notifiers_of p ns c = any-sorted p [] (filter (λ n. nat_eq n.clock c) ns) ∙ any-filter p (λ n. nat_eq n.clock c) ns
