-- What is kept of each state stays so where a clock is registered.
use Rattle.std.proofs.Common.{◌≡◌, ℕ, ◌<◌, ◌||◌, Bool, true, false, not, [], ◌∷◌, Some, None, refl, sym, ap, subst, ◌∙◌, ◌⊎◌, inl, inr, arith, length, nat_eq}
use Rattle.std.proofs.lemmas.List.{length-set}
use Rattle.clk_base.specs.Description.{parents_of}
use Rattle.clk_model.specs.declared.row.ClockRow.{ClockRow}
use Rattle.clk_model.specs.Lists.{is_in, without}
use Rattle.clk_model.specs.State.{State, registered, link_in}
use Rattle.clk_model.specs.Tree.{link_given}
use Rattle.clk_model.specs.Begin.{registered_rows, register}
use Rattle.clk_model.proofs.Members.{is_in_cases, same_from_test, test_other, test_same}
use Rattle.clk_model.proofs.StateLaws.{row_of-set_same, row_of-set_other}
use Rattle.clk_model.proofs.PllLaws.{link_given_possible}
use Rattle.clk_model.proofs.WholePathLaws.{same_or_not, given_link, given_others}
use Rattle.clk_machine.specs.Sound.{IsNarrow}
use Rattle.clk_model.proofs.OnceLaws.{is_in-filter}
use Rattle.std.proofs.Math.Bool.{or-false, or-true}

-- ---- rows

-- a clock that is registered, or was
pub registered-register : (s : State) (c k : ℕ) → c < length s.clocks → registered (register s c).clocks k ≡ (registered s.clocks k || nat_eq c k)
unfolding register
registered-register s c k within = by_test (nat_eq c k) refl where
  by_test : (t : Bool) → nat_eq c k ≡ t → registered (registered_rows s.defs s.regs s.clocks c) k ≡ (registered s.clocks k || t)
  by_test true same =
      ap (λ (n : ℕ). registered (registered_rows s.defs s.regs s.clocks c) n) (sym (same_from_test c k same))
      ∙ ap (λ (r : ClockRow). r.registered) (row_of-set_same s.clocks c _ within) ∙ sym (or-true (registered s.clocks k))
  by_test false other =
      ap (λ (r : ClockRow). r.registered) (row_of-set_other s.clocks c _ k (test_other c k other)) ∙ sym (or-false (registered s.clocks k))

-- the clock itself is, what was stays so, and another wasn't
pub registered-register_same : (s : State) (c : ℕ) → c < length s.clocks → registered (register s c).clocks c ≡ true
registered-register_same s c within = registered-register s c c within ∙ ap (λ (t : Bool). registered s.clocks c || t) (test_same c) ∙ or-true (registered s.clocks c)

pub registered-register_more : (s : State) (c k : ℕ) → c < length s.clocks → registered s.clocks k ≡ true → registered (register s c).clocks k ≡ true
registered-register_more s c k within was = registered-register s c k within ∙ ap (λ (t : Bool). t || nat_eq c k) was

pub registered-register_other : (s : State) (c k : ℕ) → (c ≡ k → ⊥) → registered (register s c).clocks k ≡ registered s.clocks k
unfolding register
registered-register_other s c k other = ap (λ (r : ClockRow). r.registered) (row_of-set_other s.clocks c _ k other)

-- ---- links

-- the links after it
pub link_in-register_same : (s : State) (c : ℕ) → c < length s.clocks → link_in (register s c).clocks c ≡ link_given s.defs s.regs s.clocks c
unfolding register
link_in-register_same s c within = given_link s c within

pub link_in-register_other : (s : State) (c k : ℕ) → (c ≡ k → ⊥) → link_in (register s c).clocks k ≡ link_in s.clocks k
unfolding register
link_in-register_other s c k other = given_others s c k other

-- ---- the state after it

pub IsNarrow-register : (words : ℕ) (s : State) (c : ℕ) → IsNarrow words s → c < length s.defs → IsNarrow words (register s c)
unfolding register
IsNarrow-register words s c sound within = record {
  valid = sound.valid;
  rows = length-set s.clocks c _ ∙ sound.rows;
  attached = λ d m. by_place d (is_in_cases d c (without (c ∷ []) s.order) m);
  unlinked = λ d free'. by_row_unlinked d free' (same_or_not c d);
  possible = λ d p at. by_row_possible d p at (same_or_not c d);
} where
  inside : c < length s.clocks
  inside = let rows = sound.rows in omega arith

  more : (k : ℕ) → registered s.clocks k ≡ true → registered (register s c).clocks k ≡ true
  more k was = registered-register_more s c k inside was

  here : registered (register s c).clocks c ≡ true
  here = registered-register_same s c inside

  was_there : (d : ℕ) → (c ≡ d → ⊥) → registered (register s c).clocks d ≡ true → registered s.clocks d ≡ true
  was_there d other there = sym (registered-register_other s c d other) ∙ there

  by_place : (d : ℕ) → (c ≡ d) ⊎ (is_in d (without (c ∷ []) s.order) ≡ true) → registered (register s c).clocks d ≡ true
  by_place d (inl same) = ap (registered (register s c).clocks) (sym same) ∙ here
  by_place d (inr m) = more d (sound.attached d (is_in-filter (λ x. not (is_in x (c ∷ []))) d s.order m))

  by_row_unlinked : (d : ℕ) → registered (register s c).clocks d ≡ false → (c ≡ d) ⊎ (c ≡ d → ⊥) → link_in (register s c).clocks d ≡ None
  by_row_unlinked d free' (inl same) = let no : true ≡ false = sym here ∙ ap (registered (register s c).clocks) same ∙ free' in absurd cc
  by_row_unlinked d free' (inr other) = link_in-register_other s c d other ∙ sound.unlinked d (sym (registered-register_other s c d other) ∙ free')

  by_row_possible : (d p : ℕ) → link_in (register s c).clocks d ≡ Some p → (c ≡ d) ⊎ (c ≡ d → ⊥) → is_in p (parents_of s.defs d) ≡ true
  by_row_possible d p at (inl same) =
      subst (λ (k : ℕ). is_in p (parents_of s.defs k) ≡ true) same
      (link_given_possible s.defs s.regs s.clocks c p (sym (link_in-register_same s c inside) ∙ ap (link_in (register s c).clocks) same ∙ at))
  by_row_possible d p at (inr other) = sound.possible d p (sym (link_in-register_other s c d other) ∙ at)
