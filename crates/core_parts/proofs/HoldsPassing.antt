-- What a hold that goes over makes of counts.
use Rattle.std.proofs.Common.{◌≡◌, ◌≢◌, ℕ, ◌+◌, ◌-◌, ◌<◌, ◌≤◌, List, sym, ap, subst, ◌∙◌, arith, length, set}
use Rattle.std.specs.Prelude.{slice_index}
use Rattle.core_parts.specs.Holds.{Passes}
use Rattle.core_parts.proofs.HeldCounts.{passes_one, passes_then}

-- one hold more goes over
pub passes_step : (from to : ℕ) (own own' more own'' held held' added held'' : List ℕ) → Passes from to own own' held held' → more ≡ set own' to (slice_index own' to + 1) → own'' ≡ set more from (slice_index more from - 1)
    → added ≡ set held' to (slice_index held' to + 1) → held'' ≡ set added from (slice_index added from - 1) → from ≢ to → from < length own' → to < length own' → length held' ≡ length own'
    → slice_index held from ≤ slice_index own from → 0 < slice_index held' from → Passes from to own own'' held held''
passes_step from to own own' more own'' held held' added held'' was one two three four apart in_from in_to size owned some =
    passes_then from to own own' own'' held held' held'' was
    (subst (λ (xs : List ℕ). Passes from to own' xs held' held'') (sym (two ∙ ap (λ (xs : List ℕ). set xs from (slice_index xs from - 1)) one))
    (subst (λ (xs : List ℕ). Passes from to own' (set (set own' to (slice_index own' to + 1)) from (slice_index (set own' to (slice_index own' to + 1)) from - 1)) held' xs)
    (sym (four ∙ ap (λ (xs : List ℕ). set xs from (slice_index xs from - 1)) three))
    (passes_one from to own' held' apart in_from in_to size (let coupled = was.coupled from in omega arith) some)))
