-- Seeking PLLs on a path, one clock after those above it.
use Rattle.std.proofs.Common.{◌≡◌, ℕ, ◌-◌, ◌<◌, ◌&&◌, not, Bool, true, false, cond, List, [], ◌∷◌, ◌++◌, Option, Some, None, refl, sym, ap, subst, ◌∙◌, filter, reverse, ◌||◌}
use mathlib.Core.List.{reverse-cons}
use Rattle.std.specs.Prelude.{IfSome, if◌then◌else◌, is_none, slice_get}
use Rattle.std.specs.Option.{option_map, option_map_or}
use Rattle.clk_base.specs.declared.clock.ClockId.{ClockId}
use Rattle.clk_base.specs.Description.{Description}
use Rattle.reg_bank.specs.Registers.{Registers}
use Rattle.clk_model.specs.Lists.{is_in}
use Rattle.clk_model.specs.Script.{runs}
use Rattle.clk_model.specs.Tree.{path_within}
use Rattle.clk_model.proofs.PathLaws.{above, path_cons}
use Rattle.counts_core.specs.Counted.{CountState}
use Rattle.core_parts.specs.Plls.{is_loose, raisable, lowerable, Finds}
use Rattle.core_parts.specs.declared.plls.Sought.{Sought}
use Rattle.std.specs.List.{list_any}

-- whether there is something to raise
one_more : (t : Bool) (x : ℕ) (xs : List ℕ) (rest : Bool) → is_none (slice_get xs 0) ≡ not rest → is_none (slice_get (if t then x ∷ xs else xs) 0) ≡ not (t || rest)
one_more true x xs rest e = refl
one_more false x xs rest e = e

pub none_or_any : (test : ℕ → Bool) (xs : List ℕ) → is_none (slice_get (filter test xs) 0) ≡ not (list_any test xs)
none_or_any test [] = refl
none_or_any test (x ∷ xs) = one_more (test x) x (filter test xs) (list_any test xs) (none_or_any test xs)

-- the path from a clock on is the clock and the path from its parent on
pub path_from : (up : ℕ → Option ℕ) (levels : ℕ) (from : Option ClockId) (clock : ClockId) (link : Option ClockId) → from ≡ Some clock → 0 < levels
    → option_map (λ p. p.0) link ≡ up clock.0
    → option_map_or (λ c. path_within up levels c.0) from [] ≡ clock.0 ∷ option_map_or (λ p. path_within up (levels - 1) p.0) link []
path_from up levels from clock link here some is =
    ap (λ (o : Option ClockId). option_map_or (λ c. path_within up levels c.0) o []) here
    ∙ path_cons up levels clock.0 some
    ∙ ap (λ (xs : List ℕ). clock.0 ∷ xs) (sym (same link ∙ ap (above up (levels - 1)) is)) where
      same : (o : Option ClockId) → option_map_or (λ p. path_within up (levels - 1) p.0) o [] ≡ above up (levels - 1) (option_map (λ p. p.0) o)
      same None = refl
      same (Some p) = refl

-- a clock more of a list of which those are taken that pass two tests
filter_two : (p q : ℕ → Bool) (c : ℕ) (cs : List ℕ) → filter p (filter q (c ∷ cs)) ≡ (if q c && p c then c ∷ filter p (filter q cs) else filter p (filter q cs))
filter_two p q c cs = by (q c) (p c) refl refl where
  by : (a b : Bool) → q c ≡ a → p c ≡ b → filter p (filter q (c ∷ cs)) ≡ (if a && b then c ∷ filter p (filter q cs) else filter p (filter q cs))
  by true b e f =
      ap (λ (t : Bool). filter p (cond t (c ∷ filter q cs) (filter q cs))) e ∙ ap (λ (t : Bool). cond t (c ∷ filter p (filter q cs)) (filter p (filter q cs))) f
  by false b e f = ap (λ (t : Bool). filter p (cond t (c ∷ filter q cs) (filter q cs))) e

last_or_not : (t : Bool) (c : ℕ) (xs : List ℕ) → reverse (if t then c ∷ xs else xs) ≡ (if t then reverse xs ++ c ∷ [] else reverse xs)
last_or_not true c xs = reverse-cons c xs
last_or_not false c xs = refl

-- what a raise seeks on a path, by what it seeks above
pub raise_found : (defs : Description) (counts : CountState) (raised : List ℕ) (c : ℕ) (cs path : List ℕ) (sought : Bool) (found result : Sought)
    → path ≡ c ∷ cs → sought ≡ (is_loose defs counts c && not (is_in c raised)) → Finds found (reverse (raisable defs counts raised cs))
    → ((xs : List ℕ) → Finds found xs → Finds result (if sought then xs ++ c ∷ [] else xs))
    → Finds result (reverse (raisable defs counts raised path))
raise_found defs counts raised c cs path sought found result is tested before with =
    subst (λ (xs : List ℕ). Finds result xs)
    (ap (λ (t : Bool). if t then reverse (raisable defs counts raised cs) ++ c ∷ [] else reverse (raisable defs counts raised cs)) tested
    ∙ sym (last_or_not (is_loose defs counts c && not (is_in c raised)) c (raisable defs counts raised cs))
    ∙ ap reverse (sym (filter_two (λ y. not (is_in y raised)) (is_loose defs counts) c cs))
    ∙ ap (λ (xs : List ℕ). reverse (raisable defs counts raised xs)) (sym is))
    (with (reverse (raisable defs counts raised cs)) before)

-- what a lower seeks on a path, by what it seeks above
pub lower_found : (defs : Description) (counts : CountState) (words : Option Registers) (c : ℕ) (cs path : List ℕ) (sought : Bool) (found result : Sought)
    → path ≡ c ∷ cs → IfSome words (λ regs. sought ≡ (is_loose defs counts c && runs defs regs c)) → IfSome words (λ regs. Finds found (lowerable defs counts regs cs))
    → ((xs : List ℕ) → Finds found xs → Finds result (if sought then c ∷ xs else xs))
    → IfSome words (λ regs. Finds result (lowerable defs counts regs path))
lower_found defs counts None c cs path sought found result is tested before with = tt
lower_found defs counts (Some regs) c cs path sought found result is tested before with =
    subst (λ (xs : List ℕ). Finds result xs)
    (ap (λ (t : Bool). if t then c ∷ lowerable defs counts regs cs else lowerable defs counts regs cs) tested
    ∙ sym (filter_two (runs defs regs) (is_loose defs counts) c cs)
    ∙ ap (λ (xs : List ℕ). lowerable defs counts regs xs) (sym is))
    (with (lowerable defs counts regs cs) before)
