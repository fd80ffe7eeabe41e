use Rattle.std.proofs.Common.{◌≡◌, ◌∙◌, [], sym, true, nat_lt, arith, filter}
use Rattle.std.proofs.lemmas.Bool.Decides.{nat_tests}
use Rattle.clk_base.specs.Levels.{depth}
use Rattle.clk_model.specs.Tree.{path}
use Rattle.core_parts.specs.Plls.{is_loose}
use Rattle.core_parts.proofs.PreparedAbove.{none_loose, none_anywhere, none_lowerable}
use Rattle.core_parts.proofs.plls.next_to_lower.Goals as goal
use Rattle.core_parts.proofs.plls.next_to_lower.Goals.{then-plls-eq0-via-then-plls-eq0, then-plls-eq0-via-else-plls-eq0+then-prepared-gt0}

pub returns-then-plls-eq0-clause-found : goal.returns-then-plls-eq0-clause-found
returns-then-plls-eq0-clause-found g c =
    let defs = c.args.tree.now.defs in
    let counts = c.args.counts.now in
    let tree = c.args.tree.now in
    let none : filter (is_loose defs counts) (path tree.clocks c.args.clock.0) ≡ [] = elim c.then-plls-eq0.branch [
      | then-plls-eq0-via-then-plls-eq0 w ↦ none_anywhere counts tree depth c.args.clock.0 c.plls.result c.plls.ensures.stands c.plls.ensures.plls w.if-plls-eq0.true
      | then-plls-eq0-via-else-plls-eq0+then-prepared-gt0 w ↦
          let some = w.if-prepared-gt0.true in
          let counted : nat_lt 0 w.prepared.result ≡ true = grind (arith, nat_tests) in
          none_loose defs counts tree.clocks depth c.args.clock.0 w.prepared.ensures.stands c.requires.same (sym w.prepared.ensures.prepared ∙ counted)
    ] in
    none_lowerable c.args.window.now.words defs counts (path tree.clocks c.args.clock.0) c.nothing.result none c.nothing.ensures.found
