-- Sections one behind another.
use Rattle.std.proofs.Common.{◌≡◌, ℕ, ◌+◌, ◌<◌, ◌≤◌, List, [], ◌∷◌, refl, sym, subst, ◌∙◌, inl, inr, arith}
use Rattle.std.proofs.lemmas.Bool.{cases_lt, lt-ltb, le-ltb, cond-true, cond-false}
use Rattle.bundle_sections.specs.Sections.{SaidSection}
use Rattle.bundle_sections.specs.Verdict.{Tiles}
use Rattle.bundle_sections.proofs.Places.{tiles-le}
use Rattle.drv_scripts.specs.declared.stop.Stop.{Stop}
use Rattle.drv_scripts.specs.declared.stop.Stop.TheVariants.{At, NoMemory}
use Rattle.drv_scripts.specs.Judged.{KeepsBetween, Stops}
use Rattle.drv_scripts.specs.Sections.{Around, section_fault, scripts_in, count_of, fault_among}
use Rattle.drv_scripts.specs.Steps.{begins, IsLeft}
use Rattle.drv_scripts.proofs.Turns.{kept_none}

-- sections that begin here begin here
pub begins_at : (from end : ℕ) (rest : List SaidSection) → Tiles from rest end → begins end rest ≡ from
begins_at from end [] tiles = sym tiles
begins_at from end (s ∷ more) tiles = tiles.0

among_here : (a : Around) (before : ℕ) (s : SaidSection) (rest : List SaidSection) (k : ℕ) → k < s.end → fault_among a before (s ∷ rest) k ≡ section_fault a before s k
unfolding fault_among
among_here a before s rest k lt = cond-true _ _ _ (lt-ltb k s.end lt)

among_later : (a : Around) (before : ℕ) (s : SaidSection) (rest : List SaidSection) (k : ℕ) → s.end ≤ k → fault_among a before (s ∷ rest) k ≡ fault_among a (before + count_of (scripts_in a s)) rest k
unfolding fault_among
among_later a before s rest k le = cond-false _ _ _ (le-ltb k s.end le)

-- all are left at first
pub left_all : (a : Around) (all : List SaidSection) (end : ℕ) → Tiles (begins end all) all end → IsLeft a all end 0 all
left_all a all end tiles = record { low = omega arith; tiles = tiles; kept = kept_none (fault_among a 0 all) (begins end all); same = λ k low. refl }

-- a section without a fault is one less
pub left_more : (a : Around) (all : List SaidSection) (end before : ℕ) (s : SaidSection) (rest : List SaidSection) → IsLeft a all end before (s ∷ rest) → KeepsBetween (section_fault a before s) s.place s.end
    → IsLeft a all end (before + count_of (scripts_in a s)) rest
left_more a all end before s rest left read =
    let next : begins end rest ≡ s.end = begins_at s.end end rest left.tiles.2 in
    let low = left.low in
    let some = left.tiles.1 in
    let kept : KeepsBetween (fault_among a 0 all) (begins end all) s.end = λ k from high.
    elim (cases_lt k s.place) [
      | inl below ↦ left.kept k from below
      | inr here ↦ left.same k (omega (arith, here)) ∙ (among_here a before s rest k high ∙ read k (omega (arith, here)) high)
    ] in
    record {
      low = omega (arith, low, some, next);
      tiles = subst (λ n. Tiles n rest end) (sym next) left.tiles.2;
      kept = subst (KeepsBetween (fault_among a 0 all) (begins end all)) (sym next) kept;
      same = λ k from. left.same k (omega (arith, from, next, some)) ∙ among_later a before s rest k (omega (arith, from, next));
    }

-- the first fault of a section is the first of all
pub left_stop : (a : Around) (all : List SaidSection) (end before : ℕ) (s : SaidSection) (rest : List SaidSection) (stop : Stop) → IsLeft a all end before (s ∷ rest) → Stops (section_fault a before s) s.place s.end stop
    → Stops (fault_among a 0 all) (begins end all) end stop
left_stop a all end before s rest (At place reason) left h =
    let low = left.low in
    let first = h.low in
    let high = h.high in
    let last = tiles-le s.end end rest left.tiles.2 in
    record {
      low = omega (arith, low, first);
      high = omega (arith, high, last);
      before = λ k from to.
          elim (cases_lt k s.place) [
            | inl below ↦ left.kept k from below
            | inr here ↦ left.same k (omega (arith, here)) ∙ (among_here a before s rest k (omega (arith, to, high)) ∙ h.before k (omega (arith, here)) to)
          ];
      found = left.same place first ∙ (among_here a before s rest place high ∙ h.found);
    }
left_stop a all end before s rest NoMemory left h = tt

-- the first of the sections that are left ends within them
pub left_within : (a : Around) (all : List SaidSection) (end before : ℕ) (s : SaidSection) (rest : List SaidSection) → IsLeft a all end before (s ∷ rest) → s.end ≤ end
left_within a all end before s rest left = tiles-le s.end end rest left.tiles.2

-- where no section is left, no line has a fault
pub left_none : (a : Around) (all : List SaidSection) (end before : ℕ) (rest : List SaidSection) → rest ≡ [] → IsLeft a all end before rest → KeepsBetween (fault_among a 0 all) (begins end all) end
left_none a all end before rest none left = subst (λ xs. KeepsBetween (fault_among a 0 all) (begins end all) (begins end xs)) none left.kept
