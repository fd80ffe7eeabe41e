-- The clocks that locks and late lines name are clocks of the description, and turns are of drivers.
use Rattle.std.proofs.Common.{ℕ, zero, suc, ◌+◌, ◌-◌, ◌<◌, ◌++◌, Bool, true, false, cond, List, [], ◌∷◌, length, Option, Some, None, Result, Ok, Err, IfSome, IfOk, arith}
use Rattle.std.specs.List.{AllByRecursion, flat_map, position}
use Rattle.std.specs.Option.{option_map, option_and_then, unwrap_or, is_some}
use Rattle.std.specs.Str.{bytes_eq}
use Rattle.std.specs.Result.{result_ok}
use Rattle.bundle_sections.specs.Headers.{Said, device_tree, clocks, bank, lock, late, driver, order}
use Rattle.bundle_sections.specs.Sections.{SaidSection}
use Rattle.bundle_text.specs.Firsts.{onto, said_from}
use Rattle.bundle_text.specs.Lines.{line_at}
use Rattle.bundle_text.specs.Words.{said_words}
use Rattle.bundle_text.specs.Numbers.{number_within}
use Rattle.bundle_text.specs.declared.reason.Reason.{Reason}
use Rattle.clk_base.specs.declared.clock.ClockId.{ClockId}
use Rattle.clk_base.specs.Description.{Description, clock_named, kind_of}
use Rattle.clk_base.specs.Fields.{power_of}
use Rattle.drv_scripts.specs.declared.bundle.LateLine.{LateLine}
use Rattle.drv_scripts.specs.declared.bundle.LockLine.{LockLine}
use Rattle.drv_scripts.specs.ListLines.{as_pll, pll_named, lock_said, lock_line, lock_at, locks_of, late_said, late_line, late_at, late_of, turns_named, turns_at, turns_of}
use Rattle.drv_scripts.specs.Sections.{Around, locks_between, locks_in, late_between, late_in, turns_between, turns_in}
use Rattle.drv_scripts.proofs.SaidPlaced.{found_named}

pub all_append : {X : Type 0} (P : X → Type 0) (xs ys : List X) → AllByRecursion P xs → AllByRecursion P ys → AllByRecursion P (xs ++ ys)
all_append P [] ys p q = q
all_append P (x ∷ xs) ys p q = (p.0, all_append P xs ys p.1 q)

all_onto : {X : Type 0} (P : X → Type 0) (found : Option X) (xs : List X) → IfSome found P → AllByRecursion P xs → AllByRecursion P (onto found xs)
all_onto P None xs p q = q
all_onto P (Some x) xs p q = (p, q)

all_said : {X : Type 0} (P : X → Type 0) (said : ℕ → Option X) → ((k : ℕ) → IfSome (said k) P) → (from count : ℕ) → AllByRecursion P (said_from said from count)
all_said P said each from zero = tt
all_said P said each from (suc count) = all_onto P (said from) (said_from said (from + 1) count) (each from) (all_said P said each (from + 1) count)

all_flat : {X Y : Type 0} (P : Y → Type 0) (f : X → List Y) → ((x : X) → AllByRecursion P (f x)) → (xs : List X) → AllByRecursion P (flat_map f xs)
all_flat P f each [] = tt
all_flat P f each (x ∷ xs) = all_append P (f x) (flat_map f xs) (each x) (all_flat P f each xs)

-- what words say, if they say something of which this holds
say_placed : {X : Type 0} (P : X → Type 0) (b : Bool) (read : Result X Reason) → IfOk read P → IfSome (cond b None (result_ok read)) P
say_placed P true read h = tt
say_placed P false (Ok x) h = h
say_placed P false (Err reason) h = tt

-- ## Locks

-- the clock of a lock is one of so many
abbrev LockWithin : ℕ → LockLine → Type 0
LockWithin n l = l.clock.0 < n

pll_within : (defs : Description) (name : List ℕ) → IfSome (pll_named defs name) (λ c. c.0 < length defs)
unfolding pll_named as_pll
pll_within defs name = pick (clock_named defs name) (found_named defs name) where
  one : (b : Bool) (c : ClockId) → c.0 < length defs → IfSome (cond b (Some c) None) (λ d. d.0 < length defs)
  one true c lt = lt
  one false c lt = tt

  pick : (o : Option ClockId) → IfSome o (λ c. c.0 < length defs) → IfSome (option_and_then (λ c. cond (is_some (power_of (kind_of defs c.0))) (Some c) None) o) (λ c. c.0 < length defs)
  pick None h = tt
  pick (Some c) h = one (is_some (power_of (kind_of defs c.0))) c h

lock_said_within : (n : ℕ) (clock : Option ClockId) (polls : Option ℕ) → IfSome clock (λ c. c.0 < n) → IfOk (lock_said clock polls) (LockWithin n)
unfolding lock_said
lock_said_within n clock None h = tt
lock_said_within n None (Some polls) h = tt
lock_said_within n (Some c) (Some polls) h = h

lock_line_within : (defs : Description) (words : List (List ℕ)) → IfOk (lock_line defs words) (LockWithin (length defs))
unfolding lock_line
lock_line_within defs [] = tt
lock_line_within defs (name ∷ []) = tt
lock_line_within defs (name ∷ polls ∷ []) = lock_said_within (length defs) (pll_named defs name) (number_within 1 1000 polls) (pll_within defs name)
lock_line_within defs (name ∷ polls ∷ word ∷ words) = tt

lock_at_within : (defs : Description) (ls : List (List ℕ)) (k : ℕ) → IfSome (lock_at defs ls k) (LockWithin (length defs))
unfolding lock_at
lock_at_within defs ls k = say_placed (LockWithin (length defs)) _ (lock_line defs (said_words (line_at ls k))) (lock_line_within defs (said_words (line_at ls k)))

locks_of_within : (defs : Description) (ls : List (List ℕ)) (from count : ℕ) → AllByRecursion (LockWithin (length defs)) (locks_of defs ls from count)
unfolding locks_of
locks_of_within defs ls from count = all_said (LockWithin (length defs)) (lock_at defs ls) (lock_at_within defs ls) from count

locks_between_within : (a : Around) (says : Said) (first end : ℕ) → AllByRecursion (LockWithin (length a.defs)) (locks_between a says first end)
unfolding locks_between
locks_between_within a lock first end = locks_of_within a.defs a.lines first (end - first)
locks_between_within a device_tree first end = tt
locks_between_within a clocks first end = tt
locks_between_within a (bank words) first end = tt
locks_between_within a late first end = tt
locks_between_within a (driver name path) first end = tt
locks_between_within a order first end = tt

pub locks_placed : (a : Around) (sections : List SaidSection) → AllByRecursion (λ l. l.clock.0 < length a.defs) (flat_map (locks_in a) sections)
locks_placed a sections = all_flat (LockWithin (length a.defs)) (locks_in a) (λ s. locks_between_within a s.says (s.place + 1) s.end) sections

-- ## Late clocks

-- a late clock is one of so many
abbrev LateWithin : ℕ → LateLine → Type 0
LateWithin n l = l.clock.0 < n

late_said_within : (n line : ℕ) (clock : Option ClockId) → IfSome clock (λ c. c.0 < n) → IfOk (late_said line clock) (LateWithin n)
unfolding late_said
late_said_within n line None h = tt
late_said_within n line (Some c) h = h

late_line_within : (defs : Description) (line : ℕ) (words : List (List ℕ)) → IfOk (late_line defs line words) (LateWithin (length defs))
unfolding late_line
late_line_within defs line [] = tt
late_line_within defs line (name ∷ []) = late_said_within (length defs) line (clock_named defs name) (found_named defs name)
late_line_within defs line (name ∷ word ∷ words) = tt

late_at_within : (defs : Description) (ls : List (List ℕ)) (k : ℕ) → IfSome (late_at defs ls k) (LateWithin (length defs))
unfolding late_at
late_at_within defs ls k = say_placed (LateWithin (length defs)) _ (late_line defs (k + 1) (said_words (line_at ls k))) (late_line_within defs (k + 1) (said_words (line_at ls k)))

late_of_within : (defs : Description) (ls : List (List ℕ)) (from count : ℕ) → AllByRecursion (LateWithin (length defs)) (late_of defs ls from count)
unfolding late_of
late_of_within defs ls from count = all_said (LateWithin (length defs)) (late_at defs ls) (late_at_within defs ls) from count

late_between_within : (a : Around) (says : Said) (first end : ℕ) → AllByRecursion (LateWithin (length a.defs)) (late_between a says first end)
unfolding late_between
late_between_within a late first end = late_of_within a.defs a.lines first (end - first)
late_between_within a device_tree first end = tt
late_between_within a clocks first end = tt
late_between_within a (bank words) first end = tt
late_between_within a lock first end = tt
late_between_within a (driver name path) first end = tt
late_between_within a order first end = tt

pub late_placed : (a : Around) (sections : List SaidSection) → AllByRecursion (λ l. l.clock.0 < length a.defs) (flat_map (late_in a) sections)
late_placed a sections = all_flat (LateWithin (length a.defs)) (late_in a) (λ s. late_between_within a s.says (s.place + 1) s.end) sections

-- ## Turns

-- the number of a driver that can have a turn
abbrev IsNumber : ℕ → Type 0
IsNumber d = 0 < d

turn_joined : (place : Option ℕ) (turns : Option (List ℕ)) → AllByRecursion IsNumber (unwrap_or turns [])
    → AllByRecursion IsNumber (unwrap_or (option_and_then (λ d. option_map (λ more. d ∷ more) turns) (option_map (λ i. i + 1) place)) [])
turn_joined None turns all = tt
turn_joined (Some i) None all = tt
turn_joined (Some i) (Some turns) all = (omega arith, all)

turns_numbered : (names words : List (List ℕ)) → AllByRecursion IsNumber (unwrap_or (turns_named names words) [])
unfolding turns_named
turns_numbered names [] = tt
turns_numbered names (word ∷ words) = turn_joined (position (λ own. bytes_eq own word) names) (turns_named names words) (turns_numbered names words)

turns_of_numbered : (names ls : List (List ℕ)) (from count : ℕ) → AllByRecursion IsNumber (turns_of names ls from count)
unfolding turns_of turns_at
turns_of_numbered names ls from zero = tt
turns_of_numbered names ls from (suc count) =
    all_append IsNumber (turns_at names ls from) (turns_of names ls (from + 1) count) (turns_numbered names (said_words (line_at ls from))) (turns_of_numbered names ls (from + 1) count)

turns_between_numbered : (a : Around) (says : Said) (first end : ℕ) → AllByRecursion IsNumber (turns_between a says first end)
unfolding turns_between
turns_between_numbered a device_tree first end = tt
turns_between_numbered a clocks first end = tt
turns_between_numbered a (bank n) first end = tt
turns_between_numbered a lock first end = tt
turns_between_numbered a late first end = tt
turns_between_numbered a (driver name path) first end = tt
turns_between_numbered a order first end = turns_of_numbered a.drivers a.lines first (end - first)

-- each turn is of a driver, which are numbered from 1
pub order_numbered : (a : Around) (sections : List SaidSection) → AllByRecursion (λ d. 0 < d) (flat_map (turns_in a) sections)
order_numbered a sections = all_flat IsNumber (turns_in a) (λ s. turns_between_numbered a s.says (s.place + 1) s.end) sections
