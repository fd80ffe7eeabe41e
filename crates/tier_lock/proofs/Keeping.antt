-- What a step that changes one view leaves of the rule.
use Rattle.std.proofs.Common.{◌≡◌, ◌≢◌, ℕ, ◌+◌, ◌*◌, ◌%◌, Bool, true, false, true≢false, List, [], ◌∷◌, length, set, Option, refl, sym, ap, ◌∙◌, subst, ⊎_elim, arith}
use Rattle.std.specs.Prelude.{slice_index}
use mathlib.Core.Option.{some}
use lib.ListN.{get_elem?}
use Rattle.atomic_table.specs.Table.{State}
use Rattle.atomic_table.proofs.Lists.{at_set, set_else, set_again}
use Rattle.tier_lock.specs.declared.view.View.{View}
use Rattle.tier_lock.specs.Entries.{Reading}
use Rattle.tier_lock.specs.Turns.{Books, Fits, Holder, Holds, bit}
use Rattle.tier_lock.proofs.Seats.{at_once}

pub off : {A : Type 0} → false ≡ true → A
off e = absurd (true≢false (sym e))

-- an even word isn't taken
pub free_word : (count : ℕ) (taken : Bool) (word : ℕ) → word ≡ 2 * count + bit taken → word % 2 ≡ 0 → taken ≡ false
free_word count true word is even = absurd (omega arith)
free_word count false word is even = refl

pub one_word : (l : List ℕ) (x : ℕ) → l ≡ x ∷ [] → slice_index l 0 ≡ x
one_word l x e = ap (λ w. slice_index w 0) e

pub word_after : (l : List ℕ) (x y z : ℕ) → l ≡ x ∷ [] → y ≡ z → set l 0 y ≡ z ∷ []
word_after l x y z e same = ap (λ w. set w 0 y) e ∙ ap (λ (n : ℕ). n ∷ []) same

pub same_word : (l : List ℕ) (x : ℕ) → l ≡ x ∷ [] → set l 0 (slice_index l 0) ≡ l
same_word l x e = word_after l x (slice_index l 0) x e (one_word l x e) ∙ sym e

pub one_slot : {A : Type 0} (l : List A) (a : A) → length l ≡ 1 → set l 0 a ≡ a ∷ []
one_slot [] a e = absurd (omega arith)
one_slot (x ∷ []) a e = refl
one_slot (x ∷ y ∷ l) a e = absurd (omega arith)

module _ {T E F : Type 0} (k : Reading T E F) (fixed : F) where
  -- the view at one seat is new
  pub fits_set : (b : Books E) (views : List (View E F)) (id : ℕ) (w : View E F)
      → ((j : ℕ) (u : View E F) → j ≢ id → get_elem? views j ≡ some u → Fits k fixed b j u)
      → Fits k fixed b id w
      → (j : ℕ) (u : View E F) → get_elem? (set views id w) j ≡ some u → Fits k fixed b j u
  fits_set b views id w others here j u e =
      ⊎_elim
      (λ (t : (j ≡ id) × (w ≡ u)). subst (λ i. Fits k fixed b i u) (sym t.0) (subst (λ (x : View E F). Fits k fixed b id x) t.1 here))
      (λ (t : (j ≢ id) × (get_elem? views j ≡ some u)). others j u t.0 t.1)
      (at_set views id j w u e)

  -- the seat that holds the turn is another than one that holds none
  pub holder_apart : (views : List (View E F)) (id : ℕ) (v : View E F) (seat : ℕ) → get_elem? views id ≡ some v → v.turn ≡ false → Holder k fixed views seat → seat ≢ id
  holder_apart views id v seat at idle held e =
      let there : get_elem? views id ≡ some held.view = subst (λ j. get_elem? views j ≡ some held.view) e held.there in
      let same : held.view ≡ v = at_once views id held.view v there at in
      true≢false (sym held.turn ∙ ap (λ (u : View E F). u.turn) same ∙ idle)

  pub held_set : (views : List (View E F)) (id : ℕ) (v w : View E F) (seat : ℕ) → get_elem? views id ≡ some v → v.turn ≡ false → Holder k fixed views seat → Holder k fixed (set views id w) seat
  held_set views id v w seat at idle held = record {
    view = held.view;
    there = set_else views id seat w (holder_apart views id v seat at idle held) ∙ held.there;
    turn = held.turn;
  }

  -- the table stays as it is
  pub stays : (s : State (Option T) (View E F)) (id : ℕ) (v : View E F) → Holds k fixed s → get_elem? s.views id ≡ some v
      → Holds k fixed record { words = set s.words 0 (slice_index s.words 0); homes = s.homes; views = set s.views id v }
  stays s id v h at =
      subst (λ (ws : List ℕ). Holds k fixed record { words = ws; homes = s.homes; views = set s.views id v }) (sym (same_word s.words _ h.word))
      (subst (λ (vs : List (View E F)). Holds k fixed record { words = s.words; homes = s.homes; views = vs }) (sym (set_again s.views id v at)) h)
