-- Laws on the coupling: what one prepare more or less does to the protection of gated clocks.
use Rattle.std.proofs.Common.{◌≡◌, ℕ, ◌+◌, ◌≤◌, Bool, true, false, cond, List, Option, refl, sym, ap, ◌∙◌, arith, get_or, nat_eq}
use Rattle.clk_base.specs.declared.clock.ClockId.{ClockId}
use Rattle.clk_model.proofs.Members.{same_from_test}
use Rattle.counts_core.specs.Sums.{one, gated_part, Grows}
use Rattle.counts_core.proofs.Steps.{Steps}

-- one more of a clock, and of its protection if it is gated
part_more : (gated : List Bool) (links : List (Option ClockId)) (less more : List ℕ) (a d : ℕ) → Steps links less more a
    → gated_part gated more d ≡ gated_part gated less d + cond (get_or gated a false) (one a d) 0
part_more gated links less more a d step =
    elim (nat_eq a d) as (λ t. nat_eq a d ≡ t → gated_part gated more d ≡ gated_part gated less d + cond (get_or gated a false) (cond t 1 0) 0) [
      | true ↦ λ e.
          let same = same_from_test a d e in
          let up = step.counts d in
          let added : one a d ≡ 1 = ap (λ (t : Bool). cond t 1 0) e in
          ap (λ (x : ℕ). gated_part gated more x) (sym same)
          ∙ part_here (get_or gated a false) (ap (λ (x : ℕ). get_or more x 0) same ∙ up ∙ ap (λ (n : ℕ). get_or less d 0 + n) added ∙ ap (λ (x : ℕ). get_or less x 0 + 1) (sym same))
          ∙ ap (λ (x : ℕ). gated_part gated less x + cond (get_or gated a false) 1 0) same
      | false ↦ λ e.
          let up = step.counts d in
          let nothing : one a d ≡ 0 = ap (λ (t : Bool). cond t 1 0) e in
          let same : get_or more d 0 ≡ get_or less d 0 = omega arith in
          ap (λ (n : ℕ). cond (get_or gated d false) n 0) same ∙ no_more (get_or gated a false) (gated_part gated less d)
    ] refl where
      part_here : (t : Bool) → get_or more a 0 ≡ get_or less a 0 + 1 → cond t (get_or more a 0) 0 ≡ cond t (get_or less a 0) 0 + cond t 1 0
      part_here true e = e
      part_here false e = refl

      no_more : (t : Bool) (n : ℕ) → n ≡ n + cond t 0 0
      no_more true n = omega arith
      no_more false n = omega arith

pub grows_more : (gated : List Bool) (links : List (Option ClockId)) (own0 prep0 own prep own' prep' : List ℕ) (a : ℕ) → Grows gated own0 prep0 own prep → Steps links prep prep' a
    → ((d : ℕ) → get_or own' d 0 ≡ get_or own d 0 + cond (get_or gated a false) (one a d) 0) → Grows gated own0 prep0 own' prep'
grows_more gated links own0 prep0 own prep own' prep' a grown step added d =
    let before = grown d in
    let part = part_more gated links prep prep' a d step in
    let more = added d in
    omega arith

pub grows_less : (gated : List Bool) (links : List (Option ClockId)) (own0 prep0 own prep own' prep' : List ℕ) (a : ℕ) → Grows gated own0 prep0 own prep → Steps links prep' prep a
    → ((d : ℕ) → get_or own' d 0 + cond (get_or gated a false) (one a d) 0 ≡ get_or own d 0) → Grows gated own0 prep0 own' prep'
grows_less gated links own0 prep0 own prep own' prep' a grown step taken d =
    let before = grown d in
    let part = part_more gated links prep' prep a d step in
    let less = taken d in
    omega arith

pub grows_both : (gated : List Bool) (own0 prep0 own1 prep1 own2 prep2 : List ℕ) → Grows gated own0 prep0 own1 prep1 → Grows gated own1 prep1 own2 prep2 → Grows gated own0 prep0 own2 prep2
grows_both gated own0 prep0 own1 prep1 own2 prep2 first second d = let before = first d in let more = second d in omega arith

-- protections stay small
pub part-le : (gated : List Bool) (prep : List ℕ) (d : ℕ) → gated_part gated prep d ≤ get_or prep d 0
part-le gated prep d = elim (get_or gated d false) as (λ t. cond t (get_or prep d 0) 0 ≤ get_or prep d 0) [ true ↦ omega arith | false ↦ omega arith ]
