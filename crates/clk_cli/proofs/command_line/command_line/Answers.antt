use Rattle.std.proofs.Common.{rules, ap₂, codes, ◌≡◌, ◌∙◌}
use Rattle.std.proofs.lemmas.Result.{IfOk-weaker}
use Rattle.clap.specs.Walk.{rule_of}
use Rattle.clap.specs.Simple.{app_of, new_rule, with_rule}
use Rattle.clk_cli.specs.CommandLine.{flag, bare, command, clkbench}
use Rattle.clk_cli.proofs.command_line.command_line.Goals as goal

pub returns : goal.returns
unfolding clkbench
returns c =
    let journal_is : rule_of c.flag.result ≡ flag (codes "journal") (codes "journal") = search rules in
    let ignore_is : rule_of c.flag-2.result ≡ flag (codes "ignore_unused") (codes "ignore-unused") = search rules in
    let count_is : rule_of c.new.result ≡ new_rule (codes "count") = search rules in
    let one = c.in_ok-arg.ensures.shape c.flag.ensures.own ∙ ap₂ with_rule c.bare.ensures journal_is in
    let two = c.in_ok-arg-2.ensures.shape c.flag-2.ensures.own ∙ ap₂ with_rule one ignore_is in
    let three = c.in_ok-arg-3.ensures.shape c.command.ensures.own ∙ ap₂ with_rule two c.command.ensures.rule in
    IfOk-weaker c.arg-4.result _ _ (λ m h. h.shape (search rules) ∙ ap₂ with_rule three count_is) c.arg-4.ensures
