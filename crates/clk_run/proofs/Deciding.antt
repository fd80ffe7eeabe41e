-- The bytes alone decide the status, unless memory ran out, a read failed or a write failed.
use Rattle.std.proofs.Common.{◌≡◌, ℕ, ◌+◌, ◌≤◌, List, ◌++◌, Option, Some, None, refl, sym, ap, subst, ◌∙◌, arith, length, inl, inr}
use Rattle.std.specs.Io.KnownBytes.{Consumes}
use Rattle.std.proofs.lemmas.List.{append-nil, length-append}
use Rattle.clk_io.specs.Streams.{TakesAll, TakesMore}
use Rattle.drv_scripts.specs.declared.bundle.Bundle.{Bundle}
use Rattle.bundle_text.specs.declared.reason.Reason.{Reason}
use Rattle.clk_io.specs.declared.reading.TheConstants.{MOST_BYTES}
use Rattle.drv_scripts.specs.Verdict.{Accepts, Refuses}
use Rattle.drv_scripts.proofs.Verdicts.{never_both}
use Rattle.clk_run.specs.Outcomes.{bytes_of, TakesBytes, GivesBundle, RefusesSource, RefusesInput, Reaches, Decides}

-- what was taken to the end is what was left
taken_all : (left left' : Option (List ℕ)) (bytes read : List ℕ) → left ≡ Some bytes → TakesAll MOST_BYTES left left' read → read ≡ bytes
taken_all None left' bytes read is takes = absurd cc
taken_all (Some xs) None bytes read is takes = absurd takes.taken
taken_all (Some xs) (Some ys) bytes read is takes =
    let same : xs ≡ bytes = cc in
    sym (append-nil read) ∙ ap (λ (rest : List ℕ). read ++ rest) (sym takes.at_end) ∙ sym takes.taken ∙ same

-- what was taken is not longer than what was left
taken_fits : (left left' : Option (List ℕ)) (bytes read : List ℕ) → left ≡ Some bytes → Consumes left left' read → length read ≤ length bytes
taken_fits None left' bytes read is takes = absurd cc
taken_fits (Some xs) None bytes read is takes = absurd takes
taken_fits (Some xs) (Some ys) bytes read is takes =
    let same : length bytes ≡ length read + length ys = ap length (sym (the_bytes is)) ∙ ap length takes ∙ length-append read ys in
    omega arith where
      the_bytes : Some xs ≡ Some bytes → xs ≡ bytes
      the_bytes e = cc

-- what was taken is what the command's bytes are
takes_all : (made : Option ℕ) (left left' : Option (List ℕ)) (bytes read : List ℕ) → bytes_of made left ≡ Some bytes → TakesBytes made left left' read → read ≡ bytes
takes_all None left left' bytes read is takes = taken_all left left' bytes read is takes
takes_all (Some drivers) left left' bytes read is takes = takes.1 ∙ inside is where
  inside : {X : Type 0} {x y : X} → Some x ≡ Some y → x ≡ y
  inside e = cc

-- and they aren't too many where they spell a bundle
never_too_many : (left left' : Option (List ℕ)) (bytes : List ℕ) → left ≡ Some bytes → length bytes ≤ MOST_BYTES → TakesMore MOST_BYTES left left' → ⊥
never_too_many left left' bytes is few more =
    let fits = taken_fits left left' bytes more.0 is more.2 in
    let over = more.1 in
    omega arith

-- a bundle was taken
pub gives_decides : (made : Option ℕ) (left left' : Option (List ℕ)) (b : Bundle) (ends : ℕ → Type 0) → GivesBundle made left left' b → ends 0 → Decides made left ends
gives_decides made left left' b ends gives end = record {
  accepts = λ bytes c is spelled. end;
  refuses = λ bytes line reason is no.
      absurd (never_both bytes b line reason (subst (λ (xs : List ℕ). Accepts xs b) (takes_all made left left' bytes gives.0 is gives.1) gives.2) no);
  measured = λ drivers is. end;
}

-- what a source had left is refused
source_refused : (left left' : Option (List ℕ)) (line : ℕ) (reason : Reason) (bytes : List ℕ) (b : Bundle) → left ≡ Some bytes → Accepts bytes b → RefusesSource left left' line reason → ⊥
source_refused left left' line reason bytes b is spelled (inl more) = never_too_many left left' bytes is spelled.fits more.0
source_refused left left' line reason bytes b is spelled (inr all) =
    never_both bytes b line reason spelled (subst (λ (xs : List ℕ). Refuses xs line reason) (taken_all left left' bytes all.0 is all.1) all.2)

-- the bytes that were taken are refused
pub refuses_decides : (made : Option ℕ) (left left' : Option (List ℕ)) (line : ℕ) (reason : Reason) (ends : ℕ → Type 0) → RefusesInput made left left' line reason → ends 2
    → Decides made left ends
refuses_decides None left left' line reason ends refuses end = record {
  accepts = λ bytes b is spelled. absurd (source_refused left left' line reason bytes b is spelled refuses);
  refuses = λ bytes other why is not. end;
  measured = λ drivers is. absurd (cc);
}
refuses_decides (Some drivers) left left' line reason ends refuses end = absurd refuses

-- when memory ran out
pub memory_decides : (made : Option ℕ) (left : Option (List ℕ)) (status : ℕ) → status ≡ 3 → Decides made left (Reaches status)
memory_decides made left status three = record {
  accepts = λ bytes b is spelled. inr three;
  refuses = λ bytes line reason is not. inr three;
  measured = λ drivers is. inr three;
}
