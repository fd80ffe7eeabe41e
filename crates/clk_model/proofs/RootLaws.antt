-- Laws on roots: a rooted clock is one whose path ends in a fixed clock.
use Rattle.std.proofs.Common.{◌≡◌, ℕ, zero, suc, ◌-◌, ◌<◌, Bool, true, false, ◌&&◌, List, [], ◌∷◌, length, Option, Some, None, refl, ap, ◌∙◌, inl, inr, arith}
use Rattle.std.specs.Prelude.{slice_get}
use Rattle.std.specs.List.{list_any}
use Rattle.clk_base.specs.Description.{Description, kind_of, parents_of}
use Rattle.clk_base.specs.Levels.{depth, ends_within}
use Rattle.clk_base.specs.Valid.{IsValid}
use Rattle.clk_base.proofs.Lines.{ends_within-parent}
use Rattle.clk_base.proofs.Valid.{lines_end}
use Rattle.clk_model.specs.declared.row.ClockRow.{ClockRow}
use Rattle.clk_model.specs.Kinds.{is_fixed}
use Rattle.clk_model.specs.State.{registered, link_in}
use Rattle.clk_model.specs.Tree.{path_within, path}
use Rattle.clk_model.specs.Laws.Paths.{RootedEndsFixed}
use Rattle.clk_model.proofs.Members.{or_cases, any_from_in, both_left, both_right}
use Rattle.clk_model.proofs.PathLaws.{above}
use Rattle.clk_model.proofs.PllLaws.{at_place}
use Rattle.clk_model.proofs.SiblingLaws.{fixed_unlinked}
use Rattle.clk_model.specs.Wired.{LinksArePossible}

-- whether a clock is fixed
abbrev fixed : Description → ℕ → Bool
fixed defs a = is_fixed (kind_of defs a)

-- the last of a list is fixed
abbrev LastFixed : Description → List ℕ → Type 0
LastFixed defs xs = (a : ℕ) × (slice_get xs (length xs - 1) ≡ Some a) × (fixed defs a ≡ true)

last_cons : (defs : Description) (c : ℕ) (xs : List ℕ) → 0 < length xs → LastFixed defs xs → LastFixed defs (c ∷ xs)
last_cons defs c [] some last = absurd (omega arith)
last_cons defs c (x ∷ xs) some last =
    let here : suc (length (x ∷ xs)) - 1 ≡ suc (length (x ∷ xs) - 1) = omega arith in
    (last.0, ap (slice_get (c ∷ x ∷ xs)) here ∙ last.1, last.2)

some_on_path : (parents : ℕ → List ℕ) (up : ℕ → Option ℕ) (n c : ℕ) → ends_within parents n c ≡ true → 0 < length (path_within up n c)
some_on_path parents up zero c ends = absurd cc
some_on_path parents up (suc n) c ends = omega arith

-- where a clock on a path is fixed, it is the last
last_is_fixed : (words : ℕ) (defs : Description) (clocks : List ClockRow) → IsValid words defs → LinksArePossible defs clocks → (n c : ℕ)
    → ends_within (parents_of defs) n c ≡ true → list_any (fixed defs) (path_within (link_in clocks) n c) ≡ true → LastFixed defs (path_within (link_in clocks) n c)
last_is_fixed words defs clocks valid links zero c ends any = absurd cc
last_is_fixed words defs clocks valid links (suc n) c ends any =
    by_link (link_in clocks c) refl any
    (λ p e more.
    let ended = ends_within-parent (parents_of defs) n c p ends (links c p e) in
    last_cons defs c (path_within (link_in clocks) n p) (some_on_path (parents_of defs) (link_in clocks) n p ended) (last_is_fixed words defs clocks valid links n p ended more))
  where
    by_link : (o : Option ℕ) → link_in clocks c ≡ o → list_any (fixed defs) (c ∷ above (link_in clocks) n o) ≡ true
        → ((p : ℕ) → link_in clocks c ≡ Some p → list_any (fixed defs) (path_within (link_in clocks) n p) ≡ true → LastFixed defs (c ∷ path_within (link_in clocks) n p))
        → LastFixed defs (c ∷ above (link_in clocks) n o)
    by_link None e any' rest = elim (or_cases (fixed defs c) false any') [
      | inl here ↦ (c, refl, here)
      | inr none ↦ absurd cc
    ]
    by_link (Some p) e any' rest = elim (or_cases (fixed defs c) (list_any (fixed defs) (path_within (link_in clocks) n p)) any') [
      | inl here ↦ absurd (fixed_unlinked words defs clocks c p valid links here e)
      | inr later ↦ rest p e later
    ]

pub both_from : (a b : Bool) → a ≡ true → b ≡ true → (a && b) ≡ true
both_from a b e f = rw (e, f) refl

-- a clock is rooted where it is registered and its path ends in a fixed clock
pub rooted_ends_fixed : RootedEndsFixed
rooted_ends_fixed words defs clocks valid links c = (
  (λ rooted. (
    both_left (registered clocks c) (list_any (fixed defs) (path clocks c)) rooted,
    last_is_fixed words defs clocks valid links depth c (lines_end words defs valid c) (both_right (registered clocks c) (list_any (fixed defs) (path clocks c)) rooted),
  )),
  (λ is.
      both_from (registered clocks c) (list_any (fixed defs) (path clocks c)) is.0
      (any_from_in (fixed defs) (path clocks c) is.1.0 (at_place (path clocks c) (length (path clocks c) - 1) is.1.0 is.1.1) is.1.2)),
)
