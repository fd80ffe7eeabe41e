-- Lines that are judged one after another: what is wrong with a line by its words, and what the readers of lines promise.
use Rattle.std.specs.Prelude.{◌≡◌, ℕ, ◌<◌, ◌≤◌, ◌==◌, List, length, Option, Some, None, Result, MatchResult, if◌then◌else◌}
use Rattle.std.specs.Result.{result_ok, result_err}
use Rattle.bundle_text.specs.declared.reason.Reason.{Reason}
use Rattle.drv_scripts.specs.declared.stop.Stop.{Stop}
use Rattle.drv_scripts.specs.declared.stop.Stop.TheVariants.{At, NoMemory}

-- what is wrong with words, if there are any
abbrev pub words_fault : {X : Type 0} → List (List ℕ) → Result X Reason → Option Reason
words_fault words said = if length words == 0 then None else result_err said

-- what words say, if there are any and nothing is wrong with them
abbrev pub words_say : {X : Type 0} → List (List ℕ) → Result X Reason → Option X
words_say words said = if length words == 0 then None else result_ok said

-- the test finds no fault from one place up to another
abbrev pub KeepsBetween : (ℕ → Option Reason) → ℕ → ℕ → Type 0
KeepsBetween test from to = (k : ℕ) → from ≤ k → k < to → test k ≡ None

-- from one place up to another, this is the first at which the test finds a fault, and the fault is this one
pub record FirstBetween (test : ℕ → Option Reason) (from to place : ℕ) (reason : Reason) : Type 0 where
  pub low : from ≤ place
  pub high : place < to
  pub before : KeepsBetween test from place
  pub found : test place ≡ Some reason

-- why the lines from one place up to another were not read to their end; want of memory says nothing of them
abbrev pub Stops : (ℕ → Option Reason) → ℕ → ℕ → Stop → Type 0
Stops test from to (At place reason) = FirstBetween test from to place reason
Stops test from to NoMemory = Unit {0}

-- the lines from one place up to another have no fault, and what was read of them is right; or why they were not read
abbrev pub Reads : {X : Type 0} → (ℕ → Option Reason) → ℕ → ℕ → (X → Type 0) → Result X Stop → Type 0
Reads test from to P r = MatchResult r (λ x. KeepsBetween test from to × P x) (Stops test from to)

-- why the line at a place was not read: this is its fault, or memory ran out
abbrev pub StopsLine : Option Reason → ℕ → Stop → Type 0
StopsLine fault k (At place reason) = (place ≡ k) × (fault ≡ Some reason)
StopsLine fault k NoMemory = Unit {0}

-- the line at a place has no fault, and what was read of it is right; or why it was not read
abbrev pub ReadsLine : {X : Type 0} → Option Reason → ℕ → (X → Type 0) → Result X Stop → Type 0
ReadsLine fault k P r = MatchResult r (λ x. (fault ≡ None) × P x) (StopsLine fault k)
