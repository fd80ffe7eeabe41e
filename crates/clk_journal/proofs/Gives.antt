-- What holds of the value that a reading gives, if it gives one.
use Rattle.std.proofs.Common.{◌≡◌, true, false, cond, List, [], ◌∷◌, Option, Some, None, refl, ap, ◌∙◌, subst}
use Rattle.std.specs.Option.{option_map, option_and_then}
use Rattle.std.specs.Str.{bytes_eq}
use Rattle.std.proofs.lemmas.Slice.Eq.{bytes_eq-Decides}
use Rattle.clk_model.specs.Text.{Word}

-- P of the value, if there is one
pub record Gives {X : Type 0} (P : X → Type 0) (o : Option X) : Type 0 where
  pub holds : (x : X) → o ≡ Some x → P x

pub gives_some : {X : Type 0} (P : X → Type 0) (x : X) → P x → Gives P (Some x)
gives_some {X} P x h = record { holds = λ y e. let same : x ≡ y = cc in subst P same h }

pub gives_none : {X : Type 0} (P : X → Type 0) → Gives P None
gives_none P = record { holds = λ y e. absurd cc }

-- if a word is this one
pub at_word : {X : Type 0} (P : X → Type 0) (w k : Word) (a b : Option X) → (w ≡ k → Gives P a) → Gives P b → Gives P (cond (bytes_eq w k) a b)
at_word P w k a b here there =
    elim (bytes_eq w k) as (λ t. bytes_eq w k ≡ t → Gives P (cond t a b)) [ true ↦ λ e. here ((bytes_eq-Decides w k).0 e) | false ↦ λ e. there ] refl

pub at_word_some : {X : Type 0} (P : X → Type 0) (w k : Word) (x : X) (b : Option X) → (w ≡ k → P x) → Gives P b → Gives P (cond (bytes_eq w k) (Some x) b)
at_word_some P w k x b here there = at_word P w k (Some x) b (λ e. gives_some P x (here e)) there

pub behind : {X Y : Type 0} (P : Y → Type 0) (f : X → Option Y) (o : Option X) → ((x : X) → o ≡ Some x → Gives P (f x)) → Gives P (option_and_then f o)
behind P f None h = gives_none P
behind P f (Some x) h = h x refl

pub mapped : {X Y : Type 0} (P : Y → Type 0) (f : X → Y) (o : Option X) → ((x : X) → o ≡ Some x → P (f x)) → Gives P (option_map f o)
mapped P f None h = gives_none P
mapped P f (Some x) h = gives_some P (f x) (h x refl)

-- the words of a list one by one
pub two : {w v x y : Word} → w ≡ x → v ≡ y → w ∷ v ∷ [] ≡ x ∷ y ∷ []
two {w} {v} {x} {y} e f = ap (λ u. u ∷ v ∷ []) e ∙ ap (λ u. x ∷ u ∷ []) f

pub onto : {w x : Word} {ws vs : List Word} → w ≡ x → ws ≡ vs → w ∷ ws ≡ x ∷ vs
onto {w} {x} {ws} {vs} e f = ap (λ u. u ∷ ws) e ∙ ap (λ us. x ∷ us) f
