use Rattle.std.proofs.Common.{◌≡◌, ◌∙◌, ◌<◌, ◌+◌, ◌==◌, ◌||◌, ℕ, Bool, true, false, List, ap, sym, length, get_or, take, refl, inl, inr, arith}
use Rattle.std.specs.Prelude.{slice_set}
use Rattle.std.proofs.lemmas.Bool.{cases_eq}
use Rattle.std.proofs.lemmas.Bool.Decides.{nat_tests}
use Rattle.std.proofs.lemmas.List.{get_or-set_other, get_or-replicate, length-replicate, length-set}
use Rattle.std.proofs.lemmas.Grind.{get_or-set_at}
use Rattle.std.proofs.lemmas.List.Folds.{list_any_more}
use Rattle.drv_scripts.specs.declared.bundle.LateLine.{LateLine}
use Rattle.drv_scripts.specs.Spelled.{is_late}
use Rattle.drv_scripts.proofs.boot.late_marks.Goals as goal

either_true : (b : Bool) → (b || true) ≡ true
either_true true = refl
either_true false = refl

either_false : (b : Bool) → (b || false) ≡ b
either_false true = refl
either_false false = refl

-- the marks with the clock of one line more
marked_more : (late : List LateLine) (i : ℕ) (d : LateLine) (marks : List Bool) (c : ℕ) → i < length late → c < length marks → get_or marks c false ≡ is_late (take i late) c
    → get_or (slice_set marks (get_or late i d).clock.0 true) c false ≡ is_late (take (i + 1) late) c
marked_more late i d marks c within lt was =
    let line = get_or late i d in
    let more = list_any_more (λ (x : LateLine). x.clock.0 == c) late i d within in
    elim (cases_eq c line.clock.0) [
      | inl same ↦ (let here : (line.clock.0 == c) ≡ true = grind (arith, nat_tests) in
          get_or-set_at marks line.clock.0 c true false same (omega (arith, same, lt)) ∙ sym (more ∙ ap (λ (b : Bool). is_late (take i late) c || b) here ∙ either_true _))
      | inr other ↦ (let away : (line.clock.0 == c) ≡ false = grind (arith, nat_tests) in
          get_or-set_other marks line.clock.0 c true false other ∙ was ∙ sym (more ∙ ap (λ (b : Bool). is_late (take i late) c || b) away ∙ either_false _))
    ]

pub loop-line-init : goal.loop-line-init
loop-line-init c =
    let clear = c.in_ok-marks.ensures.items_if_clones_equal (λ y h. h) in
    record {
      size = ap (λ (xs : List Bool). length xs) clear ∙ length-replicate c.args.clocks false;
      marks = λ k lt. ap (λ (xs : List Bool). get_or xs k false) clear ∙ get_or-replicate c.args.clocks k false false lt;
    }

pub loop-line-preserved : goal.loop-line-preserved
loop-line-preserved c =
    let was = c.loop-line.invariant in
    let marked = c.mark.ensures in
    record {
      size = ap (λ (xs : List Bool). length xs) marked ∙ length-set c.loop-line.marks.items _ true ∙ was.size;
      marks = λ k lt. ap (λ (xs : List Bool). get_or xs k false) marked
          ∙ marked_more c.args.late.now c.loop-line.line-index _ c.loop-line.marks.items k c.loop-line-test.true (omega (arith, lt, was.size)) (was.marks k lt);
    }
