-- The words of a step are read back.
use Rattle.std.proofs.Common.{◌≡◌, ℕ, Bool, true, false, Option, Some, None, refl, ap, ◌∙◌, codes}
use Rattle.std.specs.Fmt.{decimal}
use Rattle.std.specs.Option.{option_map, option_and_then}
use Rattle.clk_base.specs.declared.call.Micro.{Micro}
use Rattle.clk_base.specs.declared.call.Micro.TheVariants as micro
use Rattle.clk_base.specs.declared.call.Notice.{Notice}
use Rattle.clk_base.specs.declared.call.Notice.TheVariants as notice
use Rattle.clk_base.specs.declared.clock.ClockId.{ClockId}
use Rattle.clk_base.specs.declared.event.Event.TheVariants as event
use Rattle.clk_base.specs.Description.{Description, name_of, clock_named, HasDistinctNames}
use Rattle.clk_model.specs.Text.{step_words}
use Rattle.clk_journal.specs.Told.{told_answer, IsStep, IsPolled}
use Rattle.clk_journal.specs.ReadNumbers.{large}
use Rattle.clk_journal.specs.ReadSteps.{clock_step, poll_answer, middle_step, pre_answer, late_kind, notice_kind, notice_step, short_step, longer_step, told_step, read_step}
use Rattle.clk_journal.proofs.Numerals.{small_back, large_back}
use Rattle.clk_journal.proofs.Named.{found}

module _ (defs : Description) (apart : HasDistinctNames defs) where
  noticed : (kind : Notice) (c : ClockId) (id old new : ℕ) → IsStep defs (micro.Notify kind c id old new)
      → told_step (Some kind) (clock_named defs (name_of defs c.0)) (decimal id) (decimal old) (decimal new) ≡ Some (event.Step (micro.Notify kind c id old new) None)
  unfolding told_step notice_step
  noticed kind c id old new is =
      ap (λ (o : Option ClockId). told_step (Some kind) o (decimal id) (decimal old) (decimal new)) (found defs apart c is.0)
      ∙ ap (option_and_then (λ i. option_and_then (λ x. option_map (λ y. event.Step (micro.Notify kind c i x y) None) (large (decimal new))) (large (decimal old)))) (small_back id is.1)
      ∙ ap (option_and_then (λ x. option_map (λ y. event.Step (micro.Notify kind c id x y) None) (large (decimal new)))) (large_back old is.2)
      ∙ ap (option_map (λ y. event.Step (micro.Notify kind c id old y) None)) (large_back new is.3)

  pub step_back : (m : Micro) (answer : Option Bool) → IsStep defs m → IsPolled m answer → read_step defs (step_words defs m answer) ≡ Some (event.Step m (told_answer m answer))
  unfolding read_step clock_step poll_answer middle_step pre_answer late_kind notice_kind short_step longer_step
  step_back (micro.Notify (notice.Pre true) c id old new) answer is polled = noticed (notice.Pre true) c id old new is
  step_back (micro.Notify (notice.Pre false) c id old new) answer is polled = noticed (notice.Pre false) c id old new is
  step_back (micro.Notify notice.Abort c id old new) answer is polled = noticed notice.Abort c id old new is
  step_back (micro.Notify notice.Post c id old new) answer is polled = noticed notice.Post c id old new is
  step_back (micro.Poll y) None is polled = absurd polled
  step_back (micro.Poll y) (Some true) is polled = ap (longer_step defs (codes "poll") (codes "yes")) (found defs apart y is)
  step_back (micro.Poll y) (Some false) is polled = ap (longer_step defs (codes "poll") (codes "no")) (found defs apart y is)
  step_back (micro.Relink c p) answer is polled =
      ap (longer_step defs (codes "relink") (name_of defs p.0)) (found defs apart c is.0) ∙ ap (option_map (λ (x : ClockId). event.Step (micro.Relink c x) None)) (found defs apart p is.1)
  step_back (micro.WriteMux c place) answer is polled =
      ap (longer_step defs (codes "write-mux") (decimal place)) (found defs apart c is.0) ∙ ap (option_map (λ (n : ℕ). event.Step (micro.WriteMux c n) None)) (small_back place is.1)
  step_back (micro.Raise x) answer is polled = ap (short_step (codes "raise")) (found defs apart x is)
  step_back (micro.Fall x) answer is polled = ap (short_step (codes "fall")) (found defs apart x is)
  step_back (micro.HoldPrepare x) answer is polled = ap (short_step (codes "hold-prepare")) (found defs apart x is)
  step_back (micro.HoldEnable x) answer is polled = ap (short_step (codes "hold-enable")) (found defs apart x is)
  step_back (micro.DropEnable x) answer is polled = ap (short_step (codes "drop-enable")) (found defs apart x is)
  step_back (micro.DropPrepare x) answer is polled = ap (short_step (codes "drop-prepare")) (found defs apart x is)
  step_back (micro.Lower x) answer is polled = ap (short_step (codes "lower")) (found defs apart x is)
  step_back (micro.Visit x) answer is polled = ap (short_step (codes "visit")) (found defs apart x is)
  step_back (micro.Register x) answer is polled = ap (short_step (codes "register")) (found defs apart x is)
  step_back (micro.Settle x) answer is polled = ap (short_step (codes "settle")) (found defs apart x is)
  step_back (micro.Close x) answer is polled = ap (short_step (codes "close")) (found defs apart x is)
  step_back (micro.Unpower x) answer is polled = ap (short_step (codes "unpower")) (found defs apart x is)
  step_back micro.End answer is polled = refl
