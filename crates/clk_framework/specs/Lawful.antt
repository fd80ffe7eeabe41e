-- What holds of each journal that a framework shows, where the bank tells its words.
use Rattle.std.specs.Prelude.{◌≡◌, ℕ, List, true, not, take}
use Rattle.clk_base.specs.declared.event.Entry.{Entry}
use Rattle.clk_model.specs.Fed.{Fed}
use Rattle.clk_model.specs.Journal.{Legal, replay}
use Rattle.clk_model.specs.State.{State, is_quiet}
use Rattle.clk_machine.specs.Lawful.{KeepsLaws}
use Rattle.clk_machine.specs.Run.{Run, in_flight}

-- a journal from this state is lawful
pub record IsLawful (start : State) (journal : List Entry) : Type 0 where
  -- after each of its prefixes each active clock is fed
  pub fed : (n : ℕ) → Fed (replay start (take n journal))
  -- it keeps the laws of journals: rates that are held exclusively, what each call writes and tells, and that vetoes and timeouts leave nothing
  pub laws : KeepsLaws start journal
  -- a change is in flight in the state after it if and only if its entries say so
  pub quiet : is_quiet (replay start journal).change ≡ not (in_flight journal)

-- the journal of a core is a legal run from its opening, and lawful, if its bank tells its words
pub record RunsByLaw (run : Run) : Type 0 where
  pub legal : run.told ≡ true → Legal run.start run.journal
  pub lawful : run.told ≡ true → IsLawful run.start run.journal
