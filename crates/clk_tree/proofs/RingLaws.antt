-- Laws on numbers that stand in rings.
use Rattle.std.proofs.Common.{◌≡◌, ◌≢◌, ℕ, zero, suc, ◌<◌, ◌≤◌, ◌||◌, true, false, not, cond, List, [], ◌∷◌, refl, sym, ap, subst, ◌∙◌, ◌⊎◌, inl, inr, arith, length, nat_eq}
use Rattle.std.specs.Prelude.{slice_index, slice_set}
use Rattle.std.proofs.lemmas.List.{length-set, get_or-set_same, get_or-set_other, get_or_past}
use Rattle.std.proofs.lemmas.Bool.{cases_lt, false_from_ne_true}
use Rattle.clk_model.specs.Lists.{is_in, without}
use Rattle.clk_model.proofs.Members.{same_from_test, test_other}
use Rattle.clk_model.proofs.OnceLaws.{is_in-filter}
use Rattle.clk_model.proofs.SiblingLaws.{stays}
use Rattle.clk_tree.specs.Rings.{LeadsBack, AreRings, Leads, behind, ring_of}

-- ---- numbers in lists

-- two numbers are the same or two
pub same_or_two : (a b : ℕ) → (a ≡ b) ⊎ (a ≢ b)
same_or_two a b =
    elim (nat_eq a b) as (λ t. nat_eq a b ≡ t → (a ≡ b) ⊎ (a ≢ b)) [
      | true ↦ λ same. inl (same_from_test a b same)
      | false ↦ λ other. inr (λ same. test_other a b other same)
    ] refl

-- what isn't in a list is neither its first nor in the rest
pub not_in_cons : (x y : ℕ) (ys : List ℕ) → is_in x (y ∷ ys) ≡ false → (y ≢ x) × (is_in x ys ≡ false)
not_in_cons x y ys out =
    elim (nat_eq y x) as (λ t. nat_eq y x ≡ t → (t || is_in x ys) ≡ false → (y ≢ x) × (is_in x ys ≡ false)) [
      | true ↦ λ same h. absurd cc
      | false ↦ λ other h. (λ same. test_other y x other same, h)
    ] refl out

-- another number stays in a list without one
without-other : (n y : ℕ) (ys : List ℕ) → n ≢ y → without (n ∷ []) (y ∷ ys) ≡ y ∷ without (n ∷ []) ys
without-other n y ys other =
    elim (nat_eq n y) as (λ t. nat_eq n y ≡ t → cond (not (t || false)) (y ∷ without (n ∷ []) ys) (without (n ∷ []) ys) ≡ y ∷ without (n ∷ []) ys) [
      | true ↦ λ same. absurd (other (same_from_test n y same))
      | false ↦ λ two. refl
    ] refl

-- and the number itself doesn't
without-same : (n y : ℕ) (ys : List ℕ) → n ≡ y → without (n ∷ []) (y ∷ ys) ≡ without (n ∷ []) ys
without-same n y ys same =
    elim (nat_eq n y) as (λ t. nat_eq n y ≡ t → cond (not (t || false)) (y ∷ without (n ∷ []) ys) (without (n ∷ []) ys) ≡ without (n ∷ []) ys) [
      | true ↦ λ is. refl
      | false ↦ λ two. absurd (test_other n y two same)
    ] refl

-- what isn't in a list isn't in the list without a number, and that number isn't in it either
pub not_in_without : (x n : ℕ) (xs : List ℕ) → is_in x xs ≡ false → is_in x (without (n ∷ []) xs) ≡ false
not_in_without x n xs out = false_from_ne_true (is_in x (without (n ∷ []) xs)) (λ m. let there = is_in-filter (stays n) x xs m in absurd cc)

-- ---- two writes

-- a list with two entries written, the one at b last
abbrev pub written : List ℕ → ℕ → ℕ → ℕ → ℕ → List ℕ
written xs a x b y = slice_set (slice_set xs a x) b y

pub length-written : (xs : List ℕ) (a x b y : ℕ) → length (written xs a x b y) ≡ length xs
length-written xs a x b y = length-set (slice_set xs a x) b y ∙ length-set xs a x

read-last : (xs : List ℕ) (a x b y : ℕ) → b < length xs → slice_index (written xs a x b y) b ≡ y
read-last xs a x b y within =
    let len = length-set xs a x in
    let inside : b < length (slice_set xs a x) = omega arith in
    get_or-set_same (slice_set xs a x) b y 0 inside

read-first : (xs : List ℕ) (a x b y : ℕ) → a < length xs → a ≢ b → slice_index (written xs a x b y) a ≡ x
read-first xs a x b y within other = get_or-set_other (slice_set xs a x) b a y 0 other ∙ get_or-set_same xs a x 0 within

read-elsewhere : (xs : List ℕ) (a x b y k : ℕ) → k ≢ a → k ≢ b → slice_index (written xs a x b y) k ≡ slice_index xs k
read-elsewhere xs a x b y k first last = get_or-set_other (slice_set xs a x) b k y 0 last ∙ get_or-set_other xs a k x 0 first

-- ---- rings stay rings

-- there is one way back
one_back : (there back : List ℕ) (i j : ℕ) → LeadsBack there back → i < length there → j < length there → slice_index there i ≡ slice_index there j → i ≡ j
one_back there back i j leads first second same = sym (leads i first).1 ∙ ap (slice_index back) same ∙ (leads j second).1

-- a number with its way there and back
there_and_back : (there back : List ℕ) (i j : ℕ) → slice_index there i ≡ j → j < length back → slice_index back j ≡ i
    → (slice_index there i < length back) × (slice_index back (slice_index there i) ≡ i)
there_and_back there back i j at within leads =
    (let is : slice_index there i ≡ j = at in omega arith, ap (slice_index back) at ∙ leads)

-- where a number is taken out, each way there still leads back
taken_back : (there back : List ℕ) (n a b : ℕ) → length back ≡ length there → LeadsBack there back → LeadsBack back there → n < length there
    → slice_index there n ≡ a → slice_index back n ≡ b → LeadsBack (written there b a n n) (written back a b n n)
taken_back there back n a b sizes forth turn within ahead behind_ i inside = by_place (same_or_two i n) (same_or_two i b) where
  lies : i < length there
  lies = let size = length-written there b a n n in omega arith

  fits : (j : ℕ) → j < length back → j < length (written back a b n n)
  fits j less = let size = length-written back a b n n in omega arith

  a_inside : a < length back
  a_inside = let is = (forth n within).0 in omega arith

  a_back : slice_index back a ≡ n
  a_back = ap (slice_index back) (sym ahead) ∙ (forth n within).1

  b_inside : b < length there
  b_inside = let is = (turn n (omega arith)).0 in omega arith

  by_place : (i ≡ n) ⊎ (i ≢ n) → (i ≡ b) ⊎ (i ≢ b) → (slice_index (written there b a n n) i < length (written back a b n n)) × (slice_index (written back a b n n) (slice_index (written there b a n n) i) ≡ i)
  by_place (inl here) x =
      there_and_back (written there b a n n) (written back a b n n) i n
      (ap (slice_index (written there b a n n)) here ∙ read-last there b a n n within)
      (fits n (omega arith)) (read-last back a b n n (omega arith) ∙ sym here)
  by_place (inr other) (inl before) =
      there_and_back (written there b a n n) (written back a b n n) i a
      (ap (slice_index (written there b a n n)) before ∙ read-first there b a n n b_inside (λ same. other (before ∙ same)))
      (fits a a_inside) (read-first back a b n n a_inside two ∙ sym before) where
        two : a ≢ n
        two same = other (before ∙ sym behind_ ∙ ap (slice_index back) (sym same) ∙ a_back)
  by_place (inr other) (inr apart) =
      there_and_back (written there b a n n) (written back a b n n) i (slice_index there i)
      (read-elsewhere there b a n n i apart other)
      (fits (slice_index there i) (forth i lies).0)
      (read-elsewhere back a b n n (slice_index there i) no_a no_n ∙ (forth i lies).1) where
        no_a : slice_index there i ≢ a
        no_a same = other (one_back there back i n forth lies within (same ∙ sym ahead))

        no_n : slice_index there i ≢ n
        no_n same = apart (sym (forth i lies).1 ∙ ap (slice_index back) same ∙ behind_)

-- where a number that is alone is put behind another, too
put_back : (there back : List ℕ) (end n first : ℕ) → length back ≡ length there → LeadsBack there back → end < length there → n < length there → end ≢ n
    → slice_index there n ≡ n → slice_index there end ≡ first → LeadsBack (written there end n n first) (written back first n n end)
put_back there back end n first sizes forth end_in within two alone ahead i inside = by_place (same_or_two i n) (same_or_two i end) where
  lies : i < length there
  lies = let size = length-written there end n n first in omega arith

  fits : (j : ℕ) → j < length back → j < length (written back first n n end)
  fits j less = let size = length-written back first n n end in omega arith

  own_back : slice_index back n ≡ n
  own_back = ap (slice_index back) (sym alone) ∙ (forth n within).1

  first_inside : first < length back
  first_inside = let is = (forth end end_in).0 in omega arith

  first_back : slice_index back first ≡ end
  first_back = ap (slice_index back) (sym ahead) ∙ (forth end end_in).1

  first_other : first ≢ n
  first_other same = two (sym first_back ∙ ap (slice_index back) same ∙ own_back)

  by_place : (i ≡ n) ⊎ (i ≢ n) → (i ≡ end) ⊎ (i ≢ end) → (slice_index (written there end n n first) i < length (written back first n n end)) × (slice_index (written back first n n end) (slice_index (written there end n n first) i) ≡ i)
  by_place (inl here) x =
      there_and_back (written there end n n first) (written back first n n end) i first
      (ap (slice_index (written there end n n first)) here ∙ read-last there end n n first within)
      (fits first first_inside) (read-first back first n n end first_inside first_other ∙ sym here)
  by_place (inr other) (inl at) =
      there_and_back (written there end n n first) (written back first n n end) i n
      (ap (slice_index (written there end n n first)) at ∙ read-first there end n n first end_in two)
      (fits n (omega arith)) (read-last back first n n end (omega arith) ∙ sym at)
  by_place (inr other) (inr apart) =
      there_and_back (written there end n n first) (written back first n n end) i (slice_index there i)
      (read-elsewhere there end n n first i apart other)
      (fits (slice_index there i) (forth i lies).0)
      (read-elsewhere back first n n end (slice_index there i) no_first no_n ∙ (forth i lies).1) where
        no_first : slice_index there i ≢ first
        no_first same = apart (one_back there back i end forth lies end_in (same ∙ sym ahead))

        no_n : slice_index there i ≢ n
        no_n same = other (sym (forth i lies).1 ∙ ap (slice_index back) same ∙ own_back)

-- so rings without a number are rings
pub rings_taken : (after before : List ℕ) (n a b : ℕ) → AreRings after before → n < length after → slice_index after n ≡ a → slice_index before n ≡ b
    → AreRings (written after b a n n) (written before a b n n)
rings_taken after before n a b rings within ahead behind_ = record {
  sizes = length-written before a b n n ∙ rings.sizes ∙ sym (length-written after b a n n);
  forth = taken_back after before n a b rings.sizes rings.forth rings.back within ahead behind_;
  back = taken_back before after n b a (sym rings.sizes) rings.back rings.forth (let sizes = rings.sizes in omega arith) behind_ ahead;
}

-- and rings with one more
pub rings_put : (after before : List ℕ) (end n first : ℕ) → AreRings after before → end < length after → n < length after → end ≢ n
    → slice_index after n ≡ n → slice_index after end ≡ first → AreRings (written after end n n first) (written before first n n end)
rings_put after before end n first rings end_in within two alone ahead = record {
  sizes = length-written before first n n end ∙ rings.sizes ∙ sym (length-written after end n n first);
  forth = put_back after before end n first rings.sizes rings.forth end_in within two alone ahead;
  back = put_back before after first n end (sym rings.sizes) rings.back first_in (let sizes = rings.sizes in omega arith) first_other own_back first_back;
} where
  own_back : slice_index before n ≡ n
  own_back = ap (slice_index before) (sym alone) ∙ (rings.forth n within).1

  first_in : first < length before
  first_in = let is = (rings.forth end end_in).0 in omega arith

  first_back : slice_index before first ≡ end
  first_back = ap (slice_index before) (sym ahead) ∙ (rings.forth end end_in).1

  first_other : first ≢ n
  first_other same = two (sym first_back ∙ ap (slice_index before) same ∙ own_back)

-- ---- what stands behind a number

-- what stands behind any number is in range
pub inside_rings : (after before : List ℕ) (n k : ℕ) → AreRings after before → n < length after → slice_index after k < length after
inside_rings after before n k rings within =
    elim (cases_lt k (length after)) [
      | inl lies ↦ let is = (rings.forth k lies).0 in let sizes = rings.sizes in omega arith
      | inr beyond ↦ let none : slice_index after k ≡ 0 = get_or_past after k 0 beyond in omega arith
    ]

-- where a number is taken out, the others stand in their rings without it: from a number that stays, and from the one before it
abbrev OnWithout : List ℕ → ℕ → ℕ → ℕ → ℕ → List ℕ → Type 0
OnWithout after end n a b xs =
    ((x : ℕ) → x < length after → x ≢ n → Leads after end x xs → Leads (written after b a n n) end x (without (n ∷ []) xs))
    × ((x : ℕ) → slice_index (written after b a n n) x ≡ a → Leads after end n xs → Leads (written after b a n n) end x (without (n ∷ []) xs))

on_without : (after before : List ℕ) (end n a b : ℕ) (xs : List ℕ) → AreRings after before → n < length after → slice_index after n ≡ a → slice_index before n ≡ b
    → end ≢ n → OnWithout after end n a b xs
on_without after before end n a b [] rings within ahead behind_ other = (
  λ x inside two at. read-elsewhere after b a n n x (λ same. other (sym at ∙ ap (slice_index after) same ∙ ap (slice_index after) (sym behind_) ∙ (rings.back n (let sizes = rings.sizes in omega arith)).1)) two ∙ at,
  λ x at is. at ∙ sym ahead ∙ is,
)
on_without after before end n a b (y ∷ ys) rings within ahead behind_ other = (
  λ x inside two is. elim (same_or_two n y) [
    | inl here ↦
        let before_it : x ≡ b = sym (rings.forth x inside).1 ∙ ap (slice_index before) (is.0 ∙ sym here) ∙ behind_ in
        let at : slice_index (written after b a n n) x ≡ a = ap (slice_index (written after b a n n)) before_it ∙ read-first after b a n n (rw before_it at inside) (λ same. two (before_it ∙ same)) in
        subst (λ (zs : List ℕ). Leads (written after b a n n) end x zs) (sym (without-same n y ys here))
        ((on_without after before end n a b ys rings within ahead behind_ other).1 x at (subst (λ (z : ℕ). Leads after end z ys) (sym here) is.1))
    | inr apart ↦
        subst (λ (zs : List ℕ). Leads (written after b a n n) end x zs) (sym (without-other n y ys apart)) (
          read-elsewhere after b a n n x (λ same. apart (sym back_at_b ∙ ap (slice_index after) (sym same) ∙ is.0)) two ∙ is.0,
          (on_without after before end n a b ys rings within ahead behind_ other).0 y (y_inside x is.0) (λ same. apart (sym same)) is.1,
        )
  ],
  λ x at is. elim (same_or_two n y) [
    | inl here ↦
        subst (λ (zs : List ℕ). Leads (written after b a n n) end x zs) (sym (without-same n y ys here))
        ((on_without after before end n a b ys rings within ahead behind_ other).1 x at (subst (λ (z : ℕ). Leads after end z ys) (sym here) is.1))
    | inr apart ↦
        subst (λ (zs : List ℕ). Leads (written after b a n n) end x zs) (sym (without-other n y ys apart))
        (at ∙ sym ahead ∙ is.0, (on_without after before end n a b ys rings within ahead behind_ other).0 y (y_inside n is.0) (λ same. apart (sym same)) is.1)
  ],
) where
  back_at_b : slice_index after b ≡ n
  back_at_b = ap (slice_index after) (sym behind_) ∙ (rings.back n (let sizes = rings.sizes in omega arith)).1

  y_inside : (x : ℕ) → slice_index after x ≡ y → y < length after
  y_inside x is = let lies = inside_rings after before n x rings within in omega arith

-- an end lies in range
end_inside : (after before : List ℕ) (end n a : ℕ) (xs : List ℕ) → AreRings after before → n < length after → Leads after end a xs → end < length after
end_inside after before end n a [] rings within is = let lies = inside_rings after before n a rings within in let at : slice_index after a ≡ end = is in omega arith
end_inside after before end n a (x ∷ xs) rings within is = end_inside after before end n x xs rings within is.1

pub leads_taken : (after before : List ℕ) (n a b end : ℕ) (xs : List ℕ) → AreRings after before → n < length after → slice_index after n ≡ a → slice_index before n ≡ b
    → end ≢ n → Leads after end end xs → Leads (written after b a n n) end end (without (n ∷ []) xs)
leads_taken after before n a b end xs rings within ahead behind_ other is =
    (on_without after before end n a b xs rings within ahead behind_ other).0 end (end_inside after before end n end xs rings within is) other is

-- another number that is alone stays alone where one is taken out
pub taken_stays : (after before : List ℕ) (n a b k : ℕ) → AreRings after before → n < length after → slice_index before n ≡ b
    → k ≢ n → slice_index after k ≡ k → slice_index (written after b a n n) k ≡ k
taken_stays after before n a b k rings within behind_ other alone =
    read-elsewhere after b a n n k (λ same. other (sym alone ∙ ap (slice_index after) same ∙ ahead_of_it)) other ∙ alone where
      ahead_of_it : slice_index after b ≡ n
      ahead_of_it = ap (slice_index after) (sym behind_) ∙ (rings.back n (let sizes = rings.sizes in omega arith)).1

-- and where one is put behind another
pub put_stays : (after : List ℕ) (end n first k : ℕ) → k ≢ end → k ≢ n → slice_index after k ≡ k → slice_index (written after end n n first) k ≡ k
put_stays after end n first k no_end no_n alone = read-elsewhere after end n n first k no_end no_n ∙ alone

-- where a number is put behind another, what avoids both stands as before
leads_same : (after : List ℕ) (e end n first x : ℕ) (xs : List ℕ) → x ≢ end → x ≢ n → is_in end xs ≡ false → is_in n xs ≡ false
    → Leads after e x xs → Leads (written after end n n first) e x xs
leads_same after e end n first x [] no_end no_n out_end out_n is = read-elsewhere after end n n first x no_end no_n ∙ is
leads_same after e end n first x (y ∷ ys) no_end no_n out_end out_n is = (
  read-elsewhere after end n n first x no_end no_n ∙ is.0,
  (let a = not_in_cons end y ys out_end in
      let b = not_in_cons n y ys out_n in
      leads_same after e end n first y ys a.0 b.0 a.1 b.1 is.1),
)

pub leads_apart : (after : List ℕ) (e end n first : ℕ) (xs : List ℕ) → e ≢ end → e ≢ n → is_in end xs ≡ false → is_in n xs ≡ false
    → Leads after e e xs → Leads (written after end n n first) e e xs
leads_apart after e end n first xs no_end no_n out_end out_n is = leads_same after e end n first e xs no_end no_n out_end out_n is

-- and it stands in front of what stood there
pub leads_front : (after : List ℕ) (end n first : ℕ) (xs : List ℕ) → end < length after → n < length after → end ≢ n → slice_index after end ≡ first
    → is_in end xs ≡ false → is_in n xs ≡ false → Leads after end end xs → Leads (written after end n n first) end end (n ∷ xs)
leads_front after end n first xs end_in within two ahead out_end out_n is = (read-first after end n n first end_in two, behind_it xs out_end out_n is) where
  behind_it : (ys : List ℕ) → is_in end ys ≡ false → is_in n ys ≡ false → Leads after end end ys → Leads (written after end n n first) end n ys
  behind_it [] o1 o2 h = read-last after end n n first within ∙ sym ahead ∙ h
  behind_it (y ∷ ys) o1 o2 h = (
    read-last after end n n first within ∙ sym ahead ∙ h.0,
    (let a = not_in_cons end y ys o1 in
        let b = not_in_cons n y ys o2 in
        leads_same after end end n first y ys a.0 b.0 a.1 b.1 h.1),
  )

-- ---- the numbers in a ring

behind_is : (after : List ℕ) (end few a : ℕ) (xs : List ℕ) → length xs ≤ few → is_in end xs ≡ false → Leads after end a xs → behind after end few a ≡ xs
behind_is after end zero a [] fits out is = refl
behind_is after end zero a (x ∷ xs) fits out is = absurd (omega arith)
behind_is after end (suc few) a [] fits out is =
    elim (nat_eq (slice_index after a) end) as (λ t. nat_eq (slice_index after a) end ≡ t → cond t [] (slice_index after a ∷ behind after end few (slice_index after a)) ≡ []) [
      | true ↦ λ same. refl
      | false ↦ λ other. absurd (test_other (slice_index after a) end other is)
    ] refl
behind_is after end (suc few) a (x ∷ xs) fits out is =
    let parts = not_in_cons end x xs out in
    elim (nat_eq (slice_index after a) end) as (λ t. nat_eq (slice_index after a) end ≡ t → cond t [] (slice_index after a ∷ behind after end few (slice_index after a)) ≡ x ∷ xs) [
      | true ↦ λ same. absurd (parts.0 (sym is.0 ∙ same_from_test (slice_index after a) end same))
      | false ↦ λ other.
          ap (λ (y : ℕ). y ∷ behind after end few y) is.0 ∙ ap (λ (ys : List ℕ). x ∷ ys) (behind_is after end few x xs (omega arith) parts.1 is.1)
    ] refl

-- a ring has the numbers that stand in it
pub ring_is : (after : List ℕ) (n : ℕ) (xs : List ℕ) → length xs ≤ n → is_in n xs ≡ false → Leads after n n xs → ring_of after n ≡ xs
unfolding ring_of
ring_is after n xs fits out is = behind_is after n n n xs fits out is
