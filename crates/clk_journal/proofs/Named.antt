-- A clock's name gives back the clock.
use Rattle.std.proofs.Common.{◌≡◌, ℕ, zero, suc, ◌+◌, ◌<◌, ◌≤◌, Bool, true, false, cond, List, [], ◌∷◌, length, get_or, Some, None, refl, sym, ap, ◌∙◌, arith}
use Rattle.std.specs.Prelude.{nat_lt, not}
use Rattle.std.specs.List.{position_or_len}
use Rattle.std.specs.Option.{option_map}
use Rattle.std.specs.Str.{bytes_eq}
use Rattle.std.proofs.lemmas.Bool.Decides.{nat_tests}
use Rattle.std.proofs.lemmas.Slice.Eq.{bytes_eq-Decides}
use Rattle.clk_base.specs.declared.clock.ClockId.{ClockId}
use Rattle.clk_base.specs.Description.{Description, nobody, name_of, clock_named, HasDistinctNames}
use Rattle.clk_base.proofs.Names.{clock_named-Some}
use Rattle.clk_model.specs.Text.{Word}

-- the first place at which a test passes stands at or before each such place
pub first_place : {X : Type 0} (p : X → Bool) (xs : List X) (c : ℕ) (d : X) → c < length xs → p (get_or xs c d) ≡ true → position_or_len p xs ≤ c
first_place p [] c d low is = absurd (omega (arith, low))
first_place p (x ∷ xs) zero d low is = here (p x) (position_or_len p xs) is where
  here : (b : Bool) (n : ℕ) → b ≡ true → cond (not b) (1 + n) 0 ≤ 0
  here true n h = omega arith
  here false n h = absurd cc
first_place p (x ∷ xs) (suc c) d low is = here (p x) (position_or_len p xs) (first_place p xs c d (omega arith) is) where
  here : (b : Bool) (n : ℕ) → n ≤ c → cond (not b) (1 + n) 0 ≤ suc c
  here true n h = omega arith
  here false n h = omega arith

module _ (defs : Description) (apart : HasDistinctNames defs) where
  not_missing : (name : Word) (c : ℕ) → c < length defs → name_of defs c ≡ name → clock_named defs name ≡ None → ⊥
  not_missing name c low is none =
      let place = position_or_len (λ x. bytes_eq name x.name) defs in
      let first = first_place (λ x. bytes_eq name x.name) defs c nobody low ((bytes_eq-Decides name (name_of defs c)).1 (sym is)) in
      none_missing (nat_lt place (length defs)) place (grind (arith, nat_tests, first, low)) none where
        none_missing : (b : Bool) (k : ℕ) → b ≡ true → option_map (λ n. let id : ClockId = record { 0 = n } in id) (cond b (Some k) None) ≡ None → ⊥
        none_missing true k h e = absurd cc
        none_missing false k h e = absurd cc

  -- a name gives back its clock
  pub found : (c : ClockId) → c.0 < length defs → clock_named defs (name_of defs c.0) ≡ Some c
  found c low =
      elim (clock_named defs (name_of defs c.0)) as (λ o. clock_named defs (name_of defs c.0) ≡ o → clock_named defs (name_of defs c.0) ≡ Some c) [
        | None ↦ λ e. absurd (not_missing (name_of defs c.0) c.0 low refl e)
        | Some k ↦ λ e.
            let there = clock_named-Some defs (name_of defs c.0) k e in
            e ∙ ap (λ (n : ℕ). let id : ClockId = record { 0 = n } in Some id) (apart k.0 c.0 there.0 low there.1)
      ] refl
