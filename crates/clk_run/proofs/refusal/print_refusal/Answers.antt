use Rattle.std.proofs.Common.{ℕ, ◌++◌, List, codes, ap, subst, ◌∙◌}
use Rattle.std.specs.Fmt.{decimal}
use Rattle.std.specs.Io.KnownBytes.{Appends}
use Rattle.clk_io.proofs.Chains.{AppendsFront-none}
use Rattle.clk_run.proofs.PrintedParts.{Prints-fault}
use Rattle.clk_run.proofs.refusal.print_refusal.Goals as goal

pub returns-in_err-text-clause-prints : goal.returns-in_err-text-clause-prints
returns-in_err-text-clause-prints g c = Prints-fault _ _ _ _ c.from_residual.ensures.0 (AppendsFront-none _ _)

pub returns-clause-prints : goal.returns-clause-prints
returns-clause-prints g c =
    let named = ap (λ (word : List ℕ). codes "error: line " ++ (decimal c.args.line ++ (codes ": " ++ (word ++ codes "\n")))) c.reason_word-word.ensures in
    subst (Appends (g.K.Sink.written c.args.out.now) (g.K.Sink.written c.write_all.new.sink)) (c.as_bytes.ensures.value ∙ c.in_ok-text.ensures.ok ∙ named) c.in_ok-write_all.ensures.prints
