-- What leaves a core gone on from the same opening.
use Rattle.std.proofs.Common.{ℕ, List, ◌++◌, ap, ◌∙◌, append_assoc}
use Rattle.clk_base.specs.declared.command.Answer.{Answer}
use Rattle.clk_base.specs.declared.command.Command.{Command}
use Rattle.clk_base.specs.declared.event.Entry.{Entry}
use Rattle.clk_model.specs.Follows.{Variables}
use Rattle.clk_machine.specs.Run.{Run}
use Rattle.driver_runs.specs.Scripts.{GoesThrough, HasGoneOn}

-- one thing behind another
pub gone_further : (first mid last : Run) → HasGoneOn first mid → HasGoneOn mid last → HasGoneOn first last
gone_further first mid last one two = record {
  entries = one.entries ++ two.entries;
  start = two.start ∙ one.start;
  told = two.told ∙ one.told;
  behind = two.behind ∙ one.behind;
  journal = two.journal ∙ ap (λ (j : List Entry). j ++ two.entries) one.journal ∙ append_assoc first.journal one.entries two.entries;
}

-- commands were gone through
pub gone_through : (old new : Run) (d : ℕ) (held held' : Variables) (commands : List Command) (answers : List Answer) → GoesThrough old d held commands answers held' new → HasGoneOn old new
gone_through old new d held held' commands answers goes = record { entries = goes.entries; start = goes.start; told = goes.told; behind = goes.behind; journal = goes.journal }
