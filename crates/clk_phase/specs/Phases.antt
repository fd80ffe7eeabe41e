-- Phases: what each call makes of the steps at which clocks stand, and its reply.
use Rattle.std.specs.Prelude.{◌≡◌, ℕ, zero, suc, ◌*◌, ◌/◌, ◌==◌, nat_le, List, [], ◌∷◌, Bool, if◌then◌else◌, Option, Some, None, slice_index, slice_set, map, unsigned_abs, pos}
use Rattle.std.specs.Int.{int_rem_euclid}
use Rattle.std.proofs.Math.IntN.{ℤ}
use Rattle.clk_base.specs.declared.event.Errno.TheVariants.{EINVAL}
use Rattle.clk_phase.specs.declared.phase_call.PhaseReply.{PhaseReply}
use Rattle.clk_phase.specs.declared.phase_call.PhaseReply.TheVariants as reply
use Rattle.clk_phase.specs.declared.phase_call.PhaseEntry.{PhaseEntry}
use Rattle.clk_phase.specs.declared.phase_call.PhaseStart.{PhaseStart}

-- ---- degrees

-- the degrees from 0 to 359 that are whole turns away from these
abbrev pub wanted : ℤ → ℕ
wanted d = unsigned_abs (int_rem_euclid d (pos 360))

-- the degrees of a step
abbrev pub degrees_at : ℕ → ℕ → ℕ
degrees_at steps k = 360 * k / steps

-- the greatest number below n that passes the test, or 0
abbrev pub greatest : ℕ → (ℕ → Bool) → ℕ
greatest zero test = 0
greatest (suc n) test = if test n then n else greatest n test

-- the greatest step whose degrees are at most these
abbrev pub best : ℕ → ℕ → ℕ
best steps d = greatest steps (λ k. nat_le (degrees_at steps k) d)

-- ---- calls

-- the steps at which clocks stand after a call on a clock with so many steps: a set moves it, unless it has none
abbrev pub settings_after : ℕ → List ℕ → ℕ → Option ℤ → List ℕ
settings_after n settings c None = settings
settings_after n settings c (Some d) = if n == 0 then settings else slice_set settings c (best n (wanted d))

-- a clock without steps can't be set, and has phase 0
abbrev pub reply_of : ℕ → List ℕ → ℕ → Option ℤ → PhaseReply
reply_of n settings c None = if n == 0 then reply.Phase 0 else reply.Phase (degrees_at n (slice_index settings c))
reply_of n settings c (Some d) = if n == 0 then reply.Refused EINVAL else reply.Fine

-- ---- journals

abbrev pub after_entry : List ℕ → List ℕ → PhaseEntry → List ℕ
after_entry steps settings e = settings_after (slice_index steps e.clock.0) settings e.clock.0 e.set

-- the steps at which clocks stand after a journal
abbrev pub settings_of : List ℕ → List ℕ → List PhaseEntry → List ℕ
settings_of steps settings [] = settings
settings_of steps settings (e ∷ es) = settings_of steps (after_entry steps settings e) es

-- each entry has the reply that its call gives there
abbrev pub LegalFrom : List ℕ → List ℕ → List PhaseEntry → Type 0
LegalFrom steps settings [] = Unit {0}
LegalFrom steps settings (e ∷ es) = (reply_of (slice_index steps e.clock.0) settings e.clock.0 e.set ≡ e.reply) × LegalFrom steps (after_entry steps settings e) es

-- each clock stands at its step 0 at first
abbrev pub at_first : List ℕ → List ℕ
at_first steps = map (λ n. 0) steps

-- a journal that is legal from the beginning
abbrev pub IsLegal : PhaseStart → List PhaseEntry → Type 0
IsLegal start journal = LegalFrom start.steps (at_first start.steps) journal
