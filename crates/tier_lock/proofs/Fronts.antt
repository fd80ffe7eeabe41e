-- Lists of entries: fronts, the entries of one number, and what stands behind a front.
use Rattle.std.proofs.Common.{◌≡◌, ◌≢◌, ℕ, ◌+◌, ◌<◌, ◌≤◌, Bool, true, false, cond, eqb, List, [], ◌∷◌, ◌++◌, length, All, refl, sym, ap, ◌∙◌, subst, ⊎_elim, arith, append_assoc, length-append, eq-eqb, ne_eqb}
use Rattle.std.specs.Prelude.{nat_le}
use Rattle.std.proofs.lemmas.List.{append-nil, append_cancel_left, nil_from_length}
use Rattle.std.proofs.lemmas.List.Elements.{filter-append, All-nil, All-cons, All-head, All-tail, All-push}
use Rattle.std.proofs.lemmas.Bool.Decides.{leb_tells}
use Rattle.tier_lock.specs.Entries.{own, longer_of, AreBelow, IsPrefix, AddsEnablesOnly}

module _ {E : Type 0} where
  pub same_last : (xs : List E) (a b : E) → xs ++ a ∷ [] ≡ xs ++ b ∷ [] → a ≡ b
  same_last xs a b e = let t : a ∷ [] ≡ b ∷ [] = append_cancel_left xs (a ∷ []) (b ∷ []) e in cc

  pub nil_front : (xs : List E) → IsPrefix [] xs
  nil_front xs = record { rest = xs; whole = refl }

  pub front_same : (xs ys : List E) → ys ≡ xs → IsPrefix xs ys
  front_same xs ys e = record { rest = []; whole = e ∙ sym (append-nil xs) }

  pub front_push : (xs ys : List E) (e : E) → IsPrefix xs ys → IsPrefix xs (ys ++ e ∷ [])
  front_push xs ys e h = record { rest = h.rest ++ e ∷ []; whole = ap (λ l. l ++ e ∷ []) h.whole ∙ append_assoc xs h.rest (e ∷ []) }

  -- of two fronts of one list, the shorter is a front of the longer
  shorter_front : (a b ra rb : List E) → a ++ ra ≡ b ++ rb → length b ≤ length a → IsPrefix b a
  shorter_front a [] ra rb e le = nil_front a
  shorter_front [] (y ∷ b) ra rb e le = absurd (omega arith)
  shorter_front (x ∷ a) (y ∷ b) ra rb e le =
      let head : x ≡ y = cc in
      let tail : a ++ ra ≡ b ++ rb = cc in
      let h = shorter_front a b ra rb tail (omega arith) in
      record { rest = h.rest; whole = (λ i. head i ∷ h.whole i) }

  -- both lists are fronts of m, and m is one of the log
  pub record Longer (a b log m : List E) : Type 0 where
    pub front : IsPrefix m log
    pub first : IsPrefix a m
    pub second : IsPrefix b m

  pub longer_fronts : (a b log : List E) → IsPrefix a log → IsPrefix b log → Longer a b log (longer_of a b)
  longer_fronts a b log ha hb =
      ⊎_elim
      (λ (t : (nat_le (length b) (length a) ≡ true) × (length b ≤ length a)).
      subst (λ (c : Bool). Longer a b log (cond c a b)) (sym t.0) record { front = ha; first = front_same a a refl; second = shorter_front a b ha.rest hb.rest (sym ha.whole ∙ hb.whole) t.1 })
      (λ (t : (nat_le (length b) (length a) ≡ false) × (length a < length b)).
      subst (λ (c : Bool). Longer a b log (cond c a b)) (sym t.0) record { front = hb; first = shorter_front b a hb.rest ha.rest (sym hb.whole ∙ ha.whole) (omega arith); second = front_same b b refl })
      (leb_tells (length b) (length a))

  -- what holds of each element of two lists in a row holds of each element of both
  all_first : (P : E → Type 0) (xs ys : List E) → All P (xs ++ ys) → All P xs
  all_first P [] ys h = All-nil P
  all_first P (x ∷ xs) ys h = All-cons P x xs (All-head P x (xs ++ ys) h) (all_first P xs ys (All-tail P x (xs ++ ys) h))

  all_second : (P : E → Type 0) (xs ys : List E) → All P (xs ++ ys) → All P ys
  all_second P [] ys h = h
  all_second P (x ∷ xs) ys h = all_second P xs ys (All-tail P x (xs ++ ys) h)

  module _ (prep : E → Bool) where
    pub enables_none : (xs ys : List E) → ys ≡ xs → AddsEnablesOnly prep xs ys
    enables_none xs ys e = record { rest = []; whole = e ∙ sym (append-nil xs); enable = All-nil (λ x. prep x ≡ false) }

    pub enables_push : (xs ys : List E) (e : E) → AddsEnablesOnly prep xs ys → prep e ≡ false → AddsEnablesOnly prep xs (ys ++ e ∷ [])
    enables_push xs ys e h off = record {
      rest = h.rest ++ e ∷ [];
      whole = ap (λ l. l ++ e ∷ []) h.whole ∙ append_assoc xs h.rest (e ∷ []);
      enable = All-push (λ x. prep x ≡ false) h.rest e h.enable off;
    }

    tails : (xs m ys : List E) (h : AddsEnablesOnly prep xs ys) (f : IsPrefix xs m) (g : IsPrefix m ys) → h.rest ≡ f.rest ++ g.rest
    tails xs m ys h f g = append_cancel_left xs h.rest (f.rest ++ g.rest) (sym h.whole ∙ g.whole ∙ ap (λ l. l ++ g.rest) f.whole ∙ append_assoc xs f.rest g.rest)

    -- a list between a front and the log, where the log adds enables alone
    pub enables_before : (xs m ys : List E) → AddsEnablesOnly prep xs ys → IsPrefix xs m → IsPrefix m ys → AddsEnablesOnly prep xs m
    enables_before xs m ys h f g = record {
      rest = f.rest;
      whole = f.whole;
      enable = all_first (λ x. prep x ≡ false) f.rest g.rest (subst (λ l. All (λ x. prep x ≡ false) l) (tails xs m ys h f g) h.enable);
    }

    pub enables_behind : (xs m ys : List E) → AddsEnablesOnly prep xs ys → IsPrefix xs m → IsPrefix m ys → AddsEnablesOnly prep m ys
    enables_behind xs m ys h f g = record {
      rest = g.rest;
      whole = g.whole;
      enable = all_second (λ x. prep x ≡ false) f.rest g.rest (subst (λ l. All (λ x. prep x ≡ false) l) (tails xs m ys h f g) h.enable);
    }

  module _ (by : E → ℕ) (n : ℕ) where
    pub own_push : (xs : List E) (e : E) → by e ≡ n → own by n (xs ++ e ∷ []) ≡ own by n xs ++ e ∷ []
    own_push xs e is = filter-append (λ x. eqb (by x) n) xs (e ∷ []) ∙ ap (λ (t : Bool). own by n xs ++ cond t (e ∷ []) []) (eq-eqb (by e) n is)

    pub own_other : (xs : List E) (e : E) → by e ≢ n → own by n (xs ++ e ∷ []) ≡ own by n xs
    own_other xs e other = filter-append (λ x. eqb (by x) n) xs (e ∷ []) ∙ ap (λ (t : Bool). own by n xs ++ cond t (e ∷ []) []) (ne_eqb (by e) n other) ∙ append-nil (own by n xs)

    -- a number at or above the count has no entry
    pub own_none : (count : ℕ) (xs : List E) → count ≤ n → AreBelow by count xs → own by n xs ≡ []
    own_none count [] le h = refl
    own_none count (x ∷ xs) le h =
        let low : by x < count = All-head (λ e. by e < count) x xs h in
        let apart : by x ≢ n = (λ e. omega arith) in
        let rest : own by n xs ≡ [] = own_none count xs le (All-tail (λ e. by e < count) x xs h) in
        ap (λ (t : Bool). cond t (x ∷ own by n xs) (own by n xs)) (ne_eqb (by x) n apart) ∙ rest

    -- a list between two that have the same own entries has them too
    pub own_between : (xs m ys : List E) → IsPrefix xs m → IsPrefix m ys → own by n ys ≡ own by n xs → own by n m ≡ own by n xs
    own_between xs m ys f g same =
        let p : E → Bool = λ x. eqb (by x) n in
        let first : own by n m ≡ own by n xs ++ own by n f.rest = ap (own by n) f.whole ∙ filter-append p xs f.rest in
        let second : own by n ys ≡ own by n m ++ own by n g.rest = ap (own by n) g.whole ∙ filter-append p m g.rest in
        let a : length (own by n ys) ≡ length (own by n xs) = ap length same in
        let b : length (own by n m) ≡ length (own by n xs) + length (own by n f.rest) = ap length first ∙ length-append (own by n xs) (own by n f.rest) in
        let c : length (own by n ys) ≡ length (own by n m) + length (own by n g.rest) = ap length second ∙ length-append (own by n m) (own by n g.rest) in
        let none : own by n f.rest ≡ [] = nil_from_length (own by n f.rest) (omega arith) in
        first ∙ ap (λ l. own by n xs ++ l) none ∙ append-nil (own by n xs)
