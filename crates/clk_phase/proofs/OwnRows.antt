-- A driver's rows in a list of handles, and what another driver's event leaves of them.
use Rattle.std.proofs.Common.{◌≡◌, ◌≢◌, ◌⊎◌, inl, inr, ℕ, zero, suc, ◌<◌, Bool, true, false, cond, nat_eq, List, [], ◌∷◌, ◌++◌, Option, Some, None, set, refl, sym, ap, subst, ◌∙◌, arith}
use Rattle.std.specs.Option.{option_map_or}
use Rattle.std.proofs.lemmas.Bool.{cases_eq}
use Rattle.std.proofs.lemmas.Bool.Decides.{nat_tests}
use Rattle.clk_model.specs.declared.row.HandleRow.{HandleRow}
use Rattle.clk_model.specs.State.{handle_at}

-- the driver's handle in a place, if it is live and the driver's
abbrev pub own_of : ℕ → Option HandleRow → Option HandleRow
own_of d o = option_map_or (λ (h : HandleRow). cond (nat_eq h.driver d) (Some h) None) o None

abbrev pub own_in : List (Option HandleRow) → ℕ → ℕ → Option HandleRow
own_in hs d n = own_of d (handle_at hs n)

chosen : (a b : ℕ) (r : HandleRow) → a ≡ b → cond (nat_eq a b) (Some r) None ≡ Some r
chosen a b r same = ap (λ (t : Bool). cond t (Some r) None) (test a b same) where
  test : (a b : ℕ) → a ≡ b → nat_eq a b ≡ true
  test a b same = grind (arith, nat_tests)

unchosen : (a b : ℕ) (r : HandleRow) → (a ≡ b → ⊥) → cond (nat_eq a b) (Some r) None ≡ None
unchosen a b r differs = ap (λ (t : Bool). cond t (Some r) None) (test a b differs) where
  test : (a b : ℕ) → (a ≡ b → ⊥) → nat_eq a b ≡ false
  test a b differs = grind (arith, nat_tests)

pub own_row : (d : ℕ) (o : Option HandleRow) (r : HandleRow) → o ≡ Some r → r.driver ≡ d → own_of d o ≡ Some r
own_row d o r is mine = ap (own_of d) is ∙ chosen r.driver d r mine

-- no row of the driver
pub foreign : (d : ℕ) (o : Option HandleRow) → ((r : HandleRow) → o ≡ Some r → r.driver ≡ d → ⊥) → own_of d o ≡ None
foreign d None other = refl
foreign d (Some r) other = unchosen r.driver d r (other r refl)

-- a row of the driver is live and its own
pub own_is : (d : ℕ) (o : Option HandleRow) (r : HandleRow) → own_of d o ≡ Some r → (o ≡ Some r) × (r.driver ≡ d)
own_is d None r is = absurd cc
own_is d (Some q) r is = elim (cases_eq q.driver d) [
  | inl mine ↦ let same : Some q ≡ Some r = sym (chosen q.driver d q mine) ∙ is in (same, (let one : q ≡ r = cc in sym (ap (λ (h : HandleRow). h.driver) one) ∙ mine))
  | inr other ↦ absurd (let no : None ≡ Some r = sym (unchosen q.driver d q other) ∙ is in cc)
]

-- ---- a list with one place changed

pub at_same : (hs : List (Option HandleRow)) (n : ℕ) (x : Option HandleRow) (r : HandleRow) → handle_at hs n ≡ Some r → handle_at (set hs n x) n ≡ x
at_same [] n x r at = absurd cc
at_same (o ∷ hs) zero x r at = refl
at_same (o ∷ hs) (suc n) x r at = at_same hs n x r at

pub at_other : (hs : List (Option HandleRow)) (n m : ℕ) (x : Option HandleRow) → n ≢ m → handle_at (set hs n x) m ≡ handle_at hs m
at_other [] n m x differs = refl
at_other (o ∷ hs) zero zero x differs = absurd (differs refl)
at_other (o ∷ hs) zero (suc m) x differs = refl
at_other (o ∷ hs) (suc n) zero x differs = refl
at_other (o ∷ hs) (suc n) (suc m) x differs = at_other hs n m x (λ same. differs (ap suc same))

-- a row after a change was there before, or is the new one
pub row_set : (hs : List (Option HandleRow)) (n : ℕ) (x : Option HandleRow) (m : ℕ) (r : HandleRow) → handle_at (set hs n x) m ≡ Some r
    → (handle_at hs m ≡ Some r) ⊎ ((m ≡ n) × (x ≡ Some r))
row_set [] n x m r at = inl at
row_set (o ∷ hs) zero x zero r at = inr (refl, at)
row_set (o ∷ hs) zero x (suc m) r at = inl at
row_set (o ∷ hs) (suc n) x zero r at = inl at
row_set (o ∷ hs) (suc n) x (suc m) r at = elim (row_set hs n x m r at) [
  | inl before ↦ inl before
  | inr new ↦ inr (ap suc new.0, new.1)
]

pub row_more : (hs : List (Option HandleRow)) (q : HandleRow) (m : ℕ) (r : HandleRow) → handle_at (hs ++ Some q ∷ []) m ≡ Some r → (handle_at hs m ≡ Some r) ⊎ (q ≡ r)
row_more [] q zero r at = inr cc
row_more [] q (suc m) r at = inl at
row_more (o ∷ hs) q zero r at = inl at
row_more (o ∷ hs) q (suc m) r at = row_more hs q m r at

-- ---- what an event of a driver makes of the handles

-- a handle with an enable has a prepare
abbrev pub Backed : HandleRow → Type 0
Backed r = 0 < r.enables → 0 < r.prepares

abbrev pub AllBacked : List (Option HandleRow) → Type 0
AllBacked hs = (n : ℕ) (r : HandleRow) → handle_at hs n ≡ Some r → Backed r

-- nothing; a new handle of the driver; one of its handles is taken; or one is changed
pub data Touches (d : ℕ) (hs : List (Option HandleRow)) : List (Option HandleRow) → Type 0 where
  nothing : Touches d hs hs
  adds : (q : HandleRow) → q.driver ≡ d → Backed q → Touches d hs (hs ++ Some q ∷ [])
  takes : (n : ℕ) → ((r : HandleRow) → handle_at hs n ≡ Some r → r.driver ≡ d) → Touches d hs (set hs n None)
  puts : (n : ℕ) (r q : HandleRow) → handle_at hs n ≡ Some r → r.driver ≡ d → q.driver ≡ d → Backed q → Touches d hs (set hs n (Some q))

pub backed_still : (d : ℕ) (hs hs' : List (Option HandleRow)) → Touches d hs hs' → AllBacked hs → AllBacked hs'
backed_still d hs hs' nothing all = all
backed_still d hs hs' (adds q mine fine) all = λ n r at. elim (row_more hs q n r at) [
  | inl before ↦ all n r before
  | inr new ↦ subst Backed new fine
]
backed_still d hs hs' (takes m own) all = λ n r at. elim (row_set hs m None n r at) [
  | inl before ↦ all n r before
  | inr new ↦ absurd (let no : None ≡ Some r = new.1 in cc)
]
backed_still d hs hs' (puts m p q at_ mine own fine) all = λ n r at. elim (row_set hs m (Some q) n r at) [
  | inl before ↦ all n r before
  | inr new ↦ subst Backed (let both : Some q ≡ Some r = new.1 in let same : q ≡ r = cc in same) fine
]

more_other : (d : ℕ) (hs : List (Option HandleRow)) (q : HandleRow) (n : ℕ) → (q.driver ≡ d → ⊥) → own_in (hs ++ Some q ∷ []) d n ≡ own_in hs d n
more_other d [] q zero other = unchosen q.driver d q other
more_other d [] q (suc n) other = refl
more_other d (o ∷ hs) q zero other = refl
more_other d (o ∷ hs) q (suc n) other = more_other d hs q n other

set_other : (d : ℕ) (hs : List (Option HandleRow)) (m : ℕ) (x : Option HandleRow) (n : ℕ) → own_of d (handle_at hs m) ≡ None → own_of d x ≡ None → own_in (set hs m x) d n ≡ own_in hs d n
set_other d [] m x n was is = refl
set_other d (o ∷ hs) zero x zero was is = is ∙ sym was
set_other d (o ∷ hs) zero x (suc n) was is = refl
set_other d (o ∷ hs) (suc m) x zero was is = refl
set_other d (o ∷ hs) (suc m) x (suc n) was is = set_other d hs m x n was is

-- an event of one driver leaves the handles of another
pub others_stay : (d e : ℕ) (hs hs' : List (Option HandleRow)) (n : ℕ) → (d ≡ e → ⊥) → Touches d hs hs' → own_in hs' e n ≡ own_in hs e n
others_stay d e hs hs' n apart nothing = refl
others_stay d e hs hs' n apart (adds q mine fine) = more_other e hs q n (λ own. apart (sym mine ∙ own))
others_stay d e hs hs' n apart (takes m own) = set_other e hs m None n (foreign e (handle_at hs m) (λ r at is. apart (sym (own r at) ∙ is))) refl
others_stay d e hs hs' n apart (puts m r q at mine own fine) =
    set_other e hs m (Some q) n
    (foreign e (handle_at hs m) (λ p is same. apart (sym mine ∙ (let both : Some r ≡ Some p = sym at ∙ is in let one : r ≡ p = cc in ap (λ (h : HandleRow). h.driver) one) ∙ same)))
    (foreign e (Some q) (λ p is same. apart (sym own ∙ (let one : q ≡ p = cc in ap (λ (h : HandleRow). h.driver) one) ∙ same)))
