-- The number of a variable is its place among the variables.
use Rattle.std.proofs.Common.{◌≡◌, ℕ, ◌+◌, true, false, cond, ◌||◌, List, [], ◌∷◌, ◌++◌, length, Some, refl, ap, sym, ◌∙◌, inl, inr, arith}
use Rattle.std.specs.Borrow.{Bor}
use Rattle.std.specs.List.{list_any, position, position_or_len}
use Rattle.std.specs.Str.{bytes_eq}
use Rattle.std.proofs.lemmas.Bool.{cases_Bool, eq-eqb, cond-true, cond-false}
use Rattle.std.proofs.lemmas.List.{map-append}
use Rattle.std.proofs.lemmas.List.Folds.{position_or_len_push, list_any-append}
use Rattle.std.proofs.lemmas.Slice.Eq.{bytes_eq-Decides}
use Rattle.bundle_text.proofs.Found.{none_within, position-found}
use Rattle.bundle_text.proofs.Mapped.{list_any-texts}
use Rattle.bundle_text.specs.Words.{texts}
use Rattle.drv_scripts.specs.Commands.{with_variable}

-- the variables with one more
pub texts-with : (var : Bor (List ℕ)) (vars : List (Bor (List ℕ))) → texts (cond (list_any (λ v. bytes_eq var.now v.now) vars) vars (vars ++ var ∷ [])) ≡ with_variable (texts vars) var.now
texts-with var vars =
    elim (cases_Bool (list_any (λ (v : Bor (List ℕ)). bytes_eq var.now v.now) vars)) [
      | inl old ↦ ap texts (cond-true _ _ _ old) ∙ sym (cond-true _ _ _ (sym (list_any-texts (bytes_eq var.now) vars) ∙ old))
      | inr new ↦ ap texts (cond-false _ _ _ new) ∙ (map-append (λ (v : Bor (List ℕ)). v.now) vars (var ∷ []) ∙ sym (cond-false _ _ _ (sym (list_any-texts (bytes_eq var.now) vars) ∙ new)))
    ]

itself : (var : List ℕ) → bytes_eq var var ≡ true
itself var = (bytes_eq-Decides var var).1 refl

-- a variable that was added is where it was to be
pub position-with : (var : List ℕ) (vars : List (List ℕ)) → position (bytes_eq var) (with_variable vars var) ≡ Some (position_or_len (bytes_eq var) vars)
position-with var vars =
    let p = bytes_eq var in
    elim (cases_Bool (list_any p vars)) [
      | inl old ↦ ap (position p) (cond-true _ _ _ old) ∙ position-found p vars old
      | inr new ↦
          let behind : position_or_len p vars ≡ length vars = none_within p vars new in
          let none : length vars + 0 ≡ length vars = omega arith in
          let place : position_or_len p (vars ++ var ∷ []) ≡ length vars =
          position_or_len_push p vars var ∙ (cond-true _ _ _ (eq-eqb (position_or_len p vars) (length vars) behind) ∙ (ap (λ b. length vars + cond b 0 1) (itself var) ∙ none)) in
          let within : list_any p (vars ++ var ∷ []) ≡ true =
          list_any-append p vars (var ∷ []) ∙ (ap (λ b. b || (p var || false)) new ∙ ap (λ b. b || false) (itself var)) in
          ap (position p) (cond-false _ _ _ new) ∙ (position-found p (vars ++ var ∷ []) within ∙ ap Some (place ∙ sym behind))
    ]
