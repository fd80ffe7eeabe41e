use Rattle.std.proofs.Common.{◌∙◌, ap, ◌++◌, ℕ, codes}
use Rattle.std.specs.Fmt.{decimal}
use Rattle.clk_gen.proofs.clocks.divider_line.Goals as goal

pub returns : goal.returns
returns c =
    let d = c.args.driver in
    c.in_ok-format.ensures.ok
    ∙ ap (λ (w : ℕ). codes "divider d" ++ (decimal d ++ (codes " p" ++ (decimal d ++ (codes " " ++ (decimal w ++ codes " 0 4 set-rate-parent\n")))))) c.second_word-word.ensures
