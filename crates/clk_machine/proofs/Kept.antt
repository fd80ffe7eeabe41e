-- What is kept of each state stays so where its gates follow and where last requests change.
use Rattle.std.proofs.Common.{◌≡◌, ℕ, List, refl, sym, ◌∙◌, length}
use Rattle.std.proofs.lemmas.List.{length-set}
use Rattle.clk_model.specs.declared.row.ClockRow.{ClockRow}
use Rattle.clk_model.specs.State.{State, row_of, registered, link_in, requested}
use Rattle.clk_model.specs.Gates.{settled}
use Rattle.clk_model.proofs.HoldSteps.{link_set_same}
use Rattle.clk_model.proofs.SceneStepLaws.{registered_set}
use Rattle.clk_machine.specs.Sound.{IsNarrow}

-- gates have no part in it
pub IsNarrow-settled : (words : ℕ) (old new : State) → IsNarrow words new → IsNarrow words (settled old new)
unfolding settled
IsNarrow-settled words old new sound = sound

-- nor have last requests: rows with the same links, of which the same are registered
pub IsNarrow-rows : (words : ℕ) (s : State) (clocks : List ClockRow) → length clocks ≡ length s.clocks → ((d : ℕ) → registered clocks d ≡ registered s.clocks d) → ((d : ℕ) → link_in clocks d ≡ link_in s.clocks d)
    → IsNarrow words s → IsNarrow words (record s { clocks = clocks })
IsNarrow-rows words s clocks many there link sound = record {
  valid = sound.valid;
  rows = many ∙ sound.rows;
  attached = λ d m. there d ∙ sound.attached d m;
  unlinked = λ d free. link d ∙ sound.unlinked d (sym (there d) ∙ free);
  possible = λ d p at. sound.possible d p (sym (link d) ∙ at);
}

pub IsNarrow-requested : (words : ℕ) (s : State) (c x : ℕ) → IsNarrow words s → IsNarrow words (record s { clocks = requested s.clocks c x })
IsNarrow-requested words s c x sound =
    IsNarrow-rows words s (requested s.clocks c x) (length-set s.clocks c (record (row_of s.clocks c) { last_request = x }))
    (λ d. registered_set s.clocks c (record (row_of s.clocks c) { last_request = x }) d refl)
    (λ d. link_set_same s.clocks c (record (row_of s.clocks c) { last_request = x }) d refl) sound
