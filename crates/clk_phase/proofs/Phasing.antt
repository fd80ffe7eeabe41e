-- A core with one entry more.
use Rattle.std.proofs.Common.{◌≡◌, ℕ, ◌<◌, Bool, true, false, cond, List, [], ◌∷◌, ◌++◌, All, Option, Some, None, length, slice_index, slice_set, nat_eq, refl, sym, ap, subst, ◌∙◌, arith}
use Rattle.std.proofs.lemmas.List.{length-append, length-set}
use Rattle.std.proofs.Math.IntN.{ℤ}
use Rattle.clk_phase.specs.declared.phase_call.PhaseEntry.{PhaseEntry}
use Rattle.clk_phase.specs.Phases.{best, wanted, settings_after, reply_of, at_first, after_entry, settings_of, LegalFrom}
use Rattle.clk_phase.specs.PhaseLogs.{IsPhaseRun}

settings_more : (steps settings : List ℕ) (es : List PhaseEntry) (e : PhaseEntry) → settings_of steps settings (es ++ e ∷ []) ≡ after_entry steps (settings_of steps settings es) e
settings_more steps settings [] e = refl
settings_more steps settings (f ∷ es) e = settings_more steps (after_entry steps settings f) es e

legal_more : (steps settings : List ℕ) (es : List PhaseEntry) (e : PhaseEntry) → LegalFrom steps settings es → reply_of (slice_index steps e.clock.0) (settings_of steps settings es) e.clock.0 e.set ≡ e.reply → LegalFrom steps settings (es ++ e ∷ [])
legal_more steps settings [] e legal is = (is, tt)
legal_more steps settings (f ∷ es) e legal is = (legal.0, legal_more steps (after_entry steps settings f) es e legal.1 is)

size_after : (n : ℕ) (settings : List ℕ) (c : ℕ) (set : Option ℤ) → length (settings_after n settings c set) ≡ length settings
size_after n settings c None = refl
size_after n settings c (Some d) = by_case (nat_eq n 0) where
  by_case : (b : Bool) → length (cond b settings (slice_set settings c (best n (wanted d)))) ≡ length settings
  by_case true = refl
  by_case false = length-set settings c (best n (wanted d))

module _ (steps : List ℕ) (room capacity : ℕ) (settings : List ℕ) (journal : List PhaseEntry) (run : IsPhaseRun steps room capacity settings journal) (space : length journal < room) where
  pub phase_goes : (e : PhaseEntry) (n : ℕ) (settings' : List ℕ) (capacity' : ℕ) (journal' : List PhaseEntry) → n ≡ slice_index steps e.clock.0 → settings' ≡ settings_after n settings e.clock.0 e.set → e.reply ≡ reply_of n settings e.clock.0 e.set
      → All (λ k. k < 361) settings' → capacity' ≡ capacity → journal' ≡ journal ++ e ∷ [] → IsPhaseRun steps room capacity' settings' journal'
  phase_goes e n settings' capacity' journal' at is reply_is below same more = record {
    stands =
        is ∙ ap (λ (n : ℕ). settings_after n settings e.clock.0 e.set) at ∙ ap (λ (ps : List ℕ). after_entry steps ps e) run.stands ∙ sym (settings_more steps (at_first steps) journal e)
        ∙ ap (settings_of steps (at_first steps)) (sym more);
    legal_ = subst (λ (es : List PhaseEntry). LegalFrom steps (at_first steps) es) (sym more)
        (legal_more steps (at_first steps) journal e run.legal_ (ap (λ (ps : List ℕ). reply_of (slice_index steps e.clock.0) ps e.clock.0 e.set) (sym run.stands) ∙ ap (λ (n : ℕ). reply_of n settings e.clock.0 e.set) (sym at) ∙ sym reply_is));
    size = ap length is ∙ size_after n settings e.clock.0 e.set ∙ run.size;
    few = run.few;
    below = below;
    within = omega (arith, ap length more, length-append journal (e ∷ []), space);
    space = omega (arith, same, run.space);
  }
