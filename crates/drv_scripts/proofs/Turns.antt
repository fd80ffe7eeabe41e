-- One line more, or the first with a fault.
use Rattle.std.proofs.Common.{◌≡◌, ℕ, ◌+◌, ◌-◌, ◌<◌, ◌≤◌, ◌++◌, Option, None, ap, sym, subst, ◌∙◌, inl, inr, arith}
use Rattle.std.specs.Option.{option_to_list}
use Rattle.std.proofs.lemmas.Bool.{cases_lt}
use Rattle.bundle_text.specs.Firsts.{said_from}
use Rattle.bundle_text.proofs.Rows.{said_from-next}
use Rattle.bundle_text.specs.declared.reason.Reason.{Reason}
use Rattle.drv_scripts.specs.declared.stop.Stop.{Stop}
use Rattle.drv_scripts.specs.declared.stop.Stop.TheVariants.{At, NoMemory}
use Rattle.drv_scripts.specs.Judged.{KeepsBetween, FirstBetween, Stops, StopsLine}

-- no line was judged
pub kept_none : (test : ℕ → Option Reason) (from : ℕ) → KeepsBetween test from from
kept_none test from k low high = absurd (omega arith)

-- a line without a fault is one more
pub kept_more : (test : ℕ → Option Reason) (from k : ℕ) → KeepsBetween test from k → test k ≡ None → KeepsBetween test from (k + 1)
kept_more test from k kept none j low high =
    elim (cases_lt j k) [ inl below ↦ kept j low below | inr last ↦ (let same : j ≡ k = omega arith in ap test same ∙ none) ]

-- a line with a fault is the first where the lines before it have none
pub stopped_line : (test : ℕ → Option Reason) (from to k : ℕ) (stop : Stop) → from ≤ k → k < to → KeepsBetween test from k → StopsLine (test k) k stop → Stops test from to stop
stopped_line test from to k (At place reason) low high kept h =
    subst (λ at. FirstBetween test from to at reason) (sym h.0) (record { low = low; high = high; before = kept; found = h.1 })
stopped_line test from to k NoMemory low high kept h = tt

-- what is said at one place more, from the first one on
pub said_more : {X : Type 0} (said : ℕ → Option X) (from k : ℕ) → from ≤ k → said_from said from (k + 1 - from) ≡ said_from said from (k - from) ++ option_to_list (said k)
said_more said from k low =
    let there : from + (k - from) ≡ k = omega arith in
    let next : k + 1 - from ≡ k - from + 1 = omega arith in
    ap (said_from said from) next ∙ said_from-next said from (k - from) k there

-- nothing is said at no place
pub said_none : {X : Type 0} (said : ℕ → Option X) (from : ℕ) → said_from said from (from - from) ≡ said_from said from 0
said_none said from =
    let none : from - from ≡ 0 = omega arith in
    ap (said_from said from) none
