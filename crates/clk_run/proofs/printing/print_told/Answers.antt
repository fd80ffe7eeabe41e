use Rattle.std.proofs.Common.{◌≤◌, ℕ, Bool, List, subst, sym, length}
use Rattle.clk_base.specs.declared.command.Answer.{Answer}
use Rattle.clk_io.specs.Gathers.{Gathers}
use Rattle.clk_model.specs.Begin.{most_credits}
use Rattle.clk_run.specs.Texts.{command_count, ok_count, counts_text, told_text}
use Rattle.clk_run.proofs.Readiness.{behind_first}
use Rattle.clk_run.proofs.printing.print_told.Goals as goal

pub print_counts-requires-clause-good : goal.print_counts-requires-clause-good
print_counts-requires-clause-good g c = subst (λ (own : List (List Answer)). ok_count own ≤ most_credits) (sym (behind_first c.args.answers.now)) c.requires.good

pub returns-then-counted-clause-gathers : goal.returns-then-counted-clause-gathers
returns-then-counted-clause-gathers g c =
    let written = g.K.Sink.written in
    let drivers = c.args.drivers.now in
    let answers = c.args.answers.now in
    let left = λ (text : List ℕ). Gathers (written c.args.out.now) (written c.print_counts.new.out) c.args.gathered.now c.print_counts.new.gathered text c.print_counts.result in
    subst (λ (counted : Bool). left (told_text counted c.args.desc.now.defs drivers answers)) (sym c.if-counted.true)
    (subst (λ (own : List (List Answer)). left (counts_text (length drivers) (command_count drivers) (ok_count own))) (behind_first answers) c.print_counts.ensures.gathers)
