-- The words of an event are read back, and an event that was read has the words that it was read from.
use Rattle.std.proofs.Common.{◌≡◌, ℕ, ◌-◌, ◌<◌, ◌^◌, Bool, List, [], ◌∷◌, Option, Some, refl, sym, ap, ◌∙◌, codes, arith}
use Rattle.std.specs.Option.{option_map, option_and_then}
use Rattle.clk_base.specs.declared.call.Sleeping.{Sleeping}
use Rattle.clk_base.specs.declared.event.Event.{Event}
use Rattle.clk_base.specs.declared.event.Event.TheVariants as event
use Rattle.clk_base.specs.Description.{Description, HasDistinctNames}
use Rattle.clk_model.specs.Text.{Word, event_words}
use Rattle.clk_journal.specs.Told.{told_event, IsEvent}
use Rattle.clk_journal.specs.ReadNumbers.{small}
use Rattle.clk_journal.specs.ReadCalls.{read_call}
use Rattle.clk_journal.specs.ReadEntries.{tier_event, other_event, verb_event, read_event}
use Rattle.clk_journal.proofs.Gives.{Gives, gives_none, at_word, at_word_some, behind, mapped, two, onto}
use Rattle.clk_journal.proofs.Numerals.{small_back, number_forth}
use Rattle.clk_journal.proofs.CallsBack.{call_back}
use Rattle.clk_journal.proofs.CallsForth.{call_forth}
use Rattle.clk_journal.proofs.StepsBack.{step_back}
use Rattle.clk_journal.proofs.StepsForth.{IsStepOf, step_forth}

module _ (defs : Description) (apart : HasDistinctNames defs) where
  pub event_back : (absent : Bool) (d : ℕ) (e : Event) → IsEvent defs e → read_event defs absent d (event_words defs e) ≡ Some (told_event defs absent d e)
  unfolding read_event verb_event other_event tier_event
  event_back absent d (event.Enable number) is = ap (option_and_then (tier_event (codes "enable"))) (small_back number is)
  event_back absent d (event.Disable number) is = ap (option_and_then (tier_event (codes "disable"))) (small_back number is)
  event_back absent d (event.Running number) is = ap (option_and_then (tier_event (codes "running"))) (small_back number is)
  event_back absent d (event.Begin what) is = ap (option_map (λ (w : Sleeping). event.Begin w)) (call_back defs apart absent d what is)
  event_back absent d (event.Step m answer) is = step_back defs apart m answer is.0 is.1

-- the event has these words, can be told, and is as it is told
pub record IsEventOf (defs : Description) (absent : Bool) (d : ℕ) (ws : List Word) (e : Event) : Type 0 where
  pub words : event_words defs e ≡ ws
  pub can : IsEvent defs e
  pub told : told_event defs absent d e ≡ e

module _ (defs : Description) (absent : Bool) (d : ℕ) where
  tier : (verb w : Word) (n : ℕ) → small w ≡ Some n → Gives (IsEventOf defs absent d (verb ∷ w ∷ [])) (tier_event verb n)
  unfolding tier_event
  tier verb w n e =
      let P = IsEventOf defs absent d (verb ∷ w ∷ []) in
      let low = number_forth (2 ^ 32 - 1) w n e in
      let few : n < 2 ^ 32 = omega (arith, low.low) in
      at_word_some P verb (codes "enable") _ _ (λ f. record { words = two (sym f) low.word; can = few; told = refl })
      (at_word_some P verb (codes "disable") _ _ (λ f. record { words = two (sym f) low.word; can = few; told = refl })
      (at_word_some P verb (codes "running") _ _ (λ f. record { words = two (sym f) low.word; can = few; told = refl })
      (gives_none P)))

  other : (verb : Word) (ws : List Word) → Gives (IsEventOf defs absent d (verb ∷ ws)) (other_event verb ws)
  unfolding other_event
  other verb [] = gives_none (IsEventOf defs absent d (verb ∷ []))
  other verb (w ∷ []) = behind (IsEventOf defs absent d (verb ∷ w ∷ [])) (tier_event verb) (small w) (λ n e. tier verb w n e)
  other verb (w ∷ v ∷ ws) = gives_none (IsEventOf defs absent d (verb ∷ w ∷ v ∷ ws))

  of_step : (verb : Word) (ws : List Word) (e : Event) → verb ≡ codes "step" → IsStepOf defs ws e → IsEventOf defs absent d (verb ∷ ws) e
  of_step verb ws e first is = record {
    words = ap (event_words defs) is.is ∙ onto (sym first) is.words;
    can = rw is.is (is.can, is.polled);
    told = ap (told_event defs absent d) is.is ∙ ap (λ (a : Option Bool). event.Step is.step a) is.told ∙ sym is.is;
  }

  pub event_forth : (ws : List Word) → Gives (IsEventOf defs absent d ws) (read_event defs absent d ws)
  unfolding read_event verb_event
  event_forth [] = gives_none (IsEventOf defs absent d [])
  event_forth (verb ∷ ws) =
      let P = IsEventOf defs absent d (verb ∷ ws) in
      at_word P verb (codes "begin") _ _ (λ e. mapped P (λ what. event.Begin what) (read_call defs absent d ws) (λ what f.
      let is = (call_forth defs absent d ws).holds what f in
      record { words = onto (sym e) is.words; can = is.can; told = ap (λ w. event.Begin w) is.told }))
      (at_word P verb (codes "step") _ _ (λ e. record { holds = λ x f. of_step verb ws x e ((step_forth defs ws).holds x f) })
      (other verb ws))
