-- Laws on the PLLs of a path: there are at most as many as on some line of possible parents.
use Rattle.std.proofs.Common.{◌≡◌, ℕ, zero, suc, ◌+◌, ◌≤◌, max, Bool, true, false, not, ◌&&◌, cond, List, [], ◌∷◌, map, Option, Some, None, refl, ap, ◌∙◌, inl, inr, arith, length}
use Rattle.std.specs.Prelude.{filter, fold, slice_get, option_and_then, if◌then◌else◌}
use Rattle.std.specs.Option.{option_map_or}
use Rattle.std.proofs.lemmas.Bool.{cases_lt}
use Rattle.std.proofs.lemmas.List.{get_or_past}
use Rattle.clk_base.specs.declared.clock.ClockDef.{ClockDef}
use Rattle.clk_base.specs.Description.{Description, nobody, kind_of, parents_of}
use Rattle.clk_base.specs.Fields.{Field}
use Rattle.clk_base.specs.Levels.{depth, ends_within}
use Rattle.clk_base.proofs.Lines.{ends_within-parent}
use Rattle.kind_math.specs.Choices.{greatest_of}
use Rattle.reg_bank.specs.Registers.{Registers, field}
use Rattle.clk_model.specs.declared.row.ClockRow.{ClockRow}
use Rattle.clk_model.specs.Lists.{is_in, count_from}
use Rattle.clk_model.specs.Kinds.{is_pll, mux_field}
use Rattle.clk_model.specs.State.{State, Change, registered, link_in}
use Rattle.clk_model.specs.Tree.{path_within, path, selected, if_registered, link_given, path_to_be}
use Rattle.clk_model.specs.Holders.{prepared}
use Rattle.clk_model.specs.Script.{unprepared_plls, runs, plls_within, plls}
use Rattle.clk_model.specs.Step.{to_raise, to_lower}
use Rattle.clk_model.proofs.Members.{is_in_head, is_in_tail, is_in_cases, is_in-count_from}
use Rattle.clk_model.proofs.PathLaws.{above}
use Rattle.clk_model.specs.Wired.{LinesEnd, LinksArePossible}
use Rattle.clk_model.proofs.OnceLaws.{length-filter-le}

-- ---- the greatest of several

fold_max_least : (a : ℕ) (xs : List ℕ) → a ≤ fold max a xs
fold_max_least a [] = omega arith
fold_max_least a (x ∷ xs) = let rest = fold_max_least (max a x) xs in omega arith

fold_max_each : (f : ℕ → ℕ) (a x : ℕ) (xs : List ℕ) → is_in x xs ≡ true → f x ≤ fold max a (map f xs)
fold_max_each f a x [] m = absurd cc
fold_max_each f a x (y ∷ ys) m =
    elim (is_in_cases x y ys m) [
      | inl same ↦ let least = fold_max_least (max a (f y)) (map f ys) in let e : f y ≡ f x = ap f same in omega arith
      | inr later ↦ fold_max_each f (max a (f y)) x ys later
    ]

-- one of several is at most the greatest
pub greatest_each : (f : ℕ → ℕ) (x : ℕ) (xs : List ℕ) → is_in x xs ≡ true → f x ≤ greatest_of (map f xs)
unfolding greatest_of
greatest_each f x xs m = fold_max_each f 0 x xs m

-- ---- PLLs

abbrev plls_of : Description → List ℕ → List ℕ
plls_of defs cs = filter (λ c. is_pll (kind_of defs c)) cs

length-pll : (defs : Description) (c : ℕ) (cs : List ℕ) → length (plls_of defs (c ∷ cs)) ≡ (if is_pll (kind_of defs c) then 1 else 0) + length (plls_of defs cs)
length-pll defs c cs = one (is_pll (kind_of defs c)) where
  one : (t : Bool) → length (cond t (c ∷ plls_of defs cs) (plls_of defs cs)) ≡ cond t 1 0 + length (plls_of defs cs)
  one true = omega arith
  one false = omega arith

above_plls : (defs : Description) (up : ℕ → Option ℕ) (levels most : ℕ) (o : Option ℕ) → ((p : ℕ) → o ≡ Some p → length (plls_of defs (path_within up levels p)) ≤ most)
    → length (plls_of defs (above up levels o)) ≤ most
above_plls defs up levels most None each = omega arith
above_plls defs up levels most (Some p) each = each p refl

-- a path has at most as many PLLs as the lines of possible parents from its clock
pub path_plls : (defs : Description) (up : ℕ → Option ℕ) (levels n c : ℕ) → ((b p : ℕ) → up b ≡ Some p → is_in p (parents_of defs b) ≡ true)
    → ends_within (parents_of defs) n c ≡ true → length (plls_of defs (path_within up levels c)) ≤ plls_within defs n c
path_plls defs up levels zero c is ends = absurd cc
path_plls defs up zero (suc n) c is ends = omega arith
path_plls defs up (suc levels) (suc n) c is ends =
    let here = length-pll defs c (above up levels (up c)) in
    let rest : length (plls_of defs (above up levels (up c))) ≤ greatest_of (map (plls_within defs n) (parents_of defs c)) =
    above_plls defs up levels (greatest_of (map (plls_within defs n) (parents_of defs c))) (up c)
    (λ p e.
    let m = is c p e in
    let own = path_plls defs up levels n p is (ends_within-parent (parents_of defs) n c p ends m) in
    let less = greatest_each (plls_within defs n) p (parents_of defs c) m in
    omega arith) in
    omega arith

beyond_plls : (defs : Description) (n c : ℕ) → length defs ≤ c → plls_within defs n c ≡ 0
unfolding greatest_of
beyond_plls defs zero c beyond = refl
beyond_plls defs (suc n) c beyond =
    ap (λ (d : ClockDef). (if is_pll d.kind then 1 else 0) + greatest_of (map (plls_within defs n) d.parents)) (get_or_past defs c nobody beyond)

-- a clock's lines have at most as many PLLs as any
pub lines_plls : (defs : Description) (c : ℕ) → plls_within defs depth c ≤ plls defs
unfolding plls
lines_plls defs c =
    elim (cases_lt c (length defs)) [
      | inl inside ↦ greatest_each (plls_within defs depth) c (count_from 0 (length defs)) (is_in-count_from c 0 (length defs) (omega arith) (omega arith))
      | inr beyond ↦ let none = beyond_plls defs depth c beyond in omega arith
    ]

-- ---- the path that a registration would give

-- what stands at a place of a list is in it
pub at_place : (xs : List ℕ) (i p : ℕ) → slice_get xs i ≡ Some p → is_in p xs ≡ true
at_place [] i p e = absurd cc
at_place (x ∷ xs) zero p e = let same : x ≡ p = cc in ap (λ (z : ℕ). is_in p (z ∷ xs)) same ∙ is_in_head p xs
at_place (x ∷ xs) (suc i) p e = is_in_tail p x xs (at_place xs i p e)

-- what the registers select is a possible parent
pub selected_possible : (defs : Description) (regs : Registers) (c p : ℕ) → selected defs regs c ≡ Some p → is_in p (parents_of defs c) ≡ true
selected_possible defs regs c p e = by_field (mux_field (kind_of defs c)) e where
  by_field : (o : Option Field) → option_map_or (λ f. slice_get (parents_of defs c) (field regs f.word f.shift f.width)) o (slice_get (parents_of defs c) 0) ≡ Some p
      → is_in p (parents_of defs c) ≡ true
  by_field None f = at_place (parents_of defs c) 0 p f
  by_field (Some g) f = at_place (parents_of defs c) (field regs g.word g.shift g.width) p f

-- so is what a registration would link
pub link_given_possible : (defs : Description) (regs : Registers) (clocks : List ClockRow) (c p : ℕ) → link_given defs regs clocks c ≡ Some p → is_in p (parents_of defs c) ≡ true
unfolding link_given
link_given_possible defs regs clocks c p e = by_parent (selected defs regs c) refl e where
  one : (t : Bool) (q : ℕ) → (if t then Some q else None) ≡ Some p → q ≡ p
  one true q f = cc
  one false q f = absurd cc

  by_parent : (o : Option ℕ) → selected defs regs c ≡ o → option_and_then (if_registered clocks) o ≡ Some p → is_in p (parents_of defs c) ≡ true
  by_parent None is f = absurd cc
  by_parent (Some q) is f = selected_possible defs regs c p (is ∙ ap (λ (n : ℕ). Some n) (one (registered clocks q) q f))

joined_plls : (defs : Description) (clocks : List ClockRow) (levels c : ℕ) (o : Option ℕ) → LinksArePossible defs clocks → ends_within (parents_of defs) levels c ≡ true
    → ((p : ℕ) → o ≡ Some p → is_in p (parents_of defs c) ≡ true) → length (plls_of defs (c ∷ option_map_or (path clocks) o [])) ≤ plls_within defs levels c
joined_plls defs clocks zero c o links ends is = absurd cc
joined_plls defs clocks (suc n) c o links ends is =
    let here = length-pll defs c (option_map_or (path clocks) o []) in
    let rest : length (plls_of defs (option_map_or (path clocks) o [])) ≤ greatest_of (map (plls_within defs n) (parents_of defs c)) =
    above_plls defs (link_in clocks) depth (greatest_of (map (plls_within defs n) (parents_of defs c))) o
    (λ p e.
    let m = is p e in
    let own = path_plls defs (link_in clocks) depth n p links (ends_within-parent (parents_of defs) n c p ends m) in
    let less = greatest_each (plls_within defs n) p (parents_of defs c) m in
    omega arith) in
    omega arith

pub to_be_plls : (defs : Description) (regs : Registers) (clocks : List ClockRow) (c : ℕ) → LinesEnd defs → LinksArePossible defs clocks
    → length (plls_of defs (path_to_be defs regs clocks c)) ≤ plls defs
to_be_plls defs regs clocks c ends links = one (registered clocks c) where
  one : (t : Bool) → length (plls_of defs (if t then path clocks c else c ∷ option_map_or (path clocks) (link_given defs regs clocks c) [])) ≤ plls defs
  one true = let own = path_plls defs (link_in clocks) depth depth c links (ends c) in let most = lines_plls defs c in omega arith
  one false =
      let own = joined_plls defs clocks depth c (link_given defs regs clocks c) links (ends c) (λ p e. link_given_possible defs regs clocks c p e) in
      let most = lines_plls defs c in
      omega arith

-- ---- what is still to be raised or lowered

pub length-filter-weaker : (p q : ℕ → Bool) (xs : List ℕ) → ((x : ℕ) → p x ≡ true → q x ≡ true) → length (filter p xs) ≤ length (filter q xs)
length-filter-weaker p q [] weaker = omega arith
length-filter-weaker p q (x ∷ xs) weaker = one (p x) (q x) (weaker x) (length-filter-weaker p q xs weaker) where
  one : (t u : Bool) → (t ≡ true → u ≡ true) → length (filter p xs) ≤ length (filter q xs)
      → length (cond t (x ∷ filter p xs) (filter p xs)) ≤ length (cond u (x ∷ filter q xs) (filter q xs))
  one true true w r = omega arith
  one true false w r = let no : false ≡ true = w refl in absurd cc
  one false true w r = omega arith
  one false false w r = omega arith

unprepared_few : (s : State) (cs : List ℕ) → length (unprepared_plls s cs) ≤ length (plls_of s.defs cs)
unprepared_few s cs = length-filter-weaker (λ c. is_pll (kind_of s.defs c) && not (prepared s c)) (λ c. is_pll (kind_of s.defs c)) cs (λ c e. left (is_pll (kind_of s.defs c)) (not (prepared s c)) e) where
  left : (a b : Bool) → (a && b) ≡ true → a ≡ true
  left true b e = refl
  left false b e = e

-- at most as many PLLs are to be raised as a path can have
pub to_raise_few : (s : State) (k : Change) (x : ℕ) → LinesEnd s.defs → LinksArePossible s.defs s.clocks → length (to_raise s k x) ≤ plls s.defs
to_raise_few s k x ends links =
    let cs : List ℕ = path_to_be s.defs s.regs s.clocks x in
    let some = length-filter-le (λ y. not (is_in y k.raised)) (unprepared_plls s cs) in
    let few = unprepared_few s cs in
    let most = to_be_plls s.defs s.regs s.clocks x ends links in
    omega arith

-- and at most as many are to be lowered
pub to_lower_few : (s : State) (x : ℕ) → LinesEnd s.defs → LinksArePossible s.defs s.clocks → length (to_lower s x) ≤ plls s.defs
to_lower_few s x ends links =
    let cs : List ℕ = path s.clocks x in
    let some = length-filter-le (runs s.defs s.regs) (unprepared_plls s cs) in
    let few = unprepared_few s cs in
    let own = path_plls s.defs (link_in s.clocks) depth depth x links (ends x) in
    let most = lines_plls s.defs x in
    omega arith
