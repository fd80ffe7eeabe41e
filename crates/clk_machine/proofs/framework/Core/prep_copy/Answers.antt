use Rattle.std.proofs.Common.{◌∙◌, List, sym, subst}
use Rattle.clk_base.specs.declared.event.Entry.{Entry}
use Rattle.clk_model.specs.Journal.{opening}
use Rattle.clk_machine.specs.Run.{ArePlaced}
use Rattle.clk_machine.specs.Tracing.{Traces}
use Rattle.clk_machine.proofs.Tracing.{copy_of_run, placed_of_run, same_start}
use Rattle.clk_machine.proofs.framework.Core.prep_copy.Goals as goal

pub trace-requires-clause-placed : goal.trace-requires-clause-placed
trace-requires-clause-placed g c =
    let m = c.self.inside in
    let desc = c.in_ok-copy.copy.parts.desc in
    subst (λ (es : List Entry). ArePlaced desc.defs es) (sym c.as_slice-2.ensures)
    (placed_of_run m.machine m.words.items m.log desc c.self.invariant (c.in_ok-copy.ensures.desc ∙ c.in_ok-desc.ensures ∙ c.desc.ensures.desc))

pub returns-clause-copies : goal.returns-clause-copies
returns-clause-copies g c =
    let m = c.self.inside in
    let desc = c.in_ok-desc.desc in
    let words = c.as_slice.result.now in
    let ignore_unused = c.ignore_unused-ignore_unused.result in
    let credits = c.credits-credits.result in
    let same = same_start m.machine m.words.items words desc ignore_unused credits (c.in_ok-desc.ensures ∙ c.desc.ensures.desc) c.as_slice.ensures.value c.ignore_unused-ignore_unused.ensures c.credits-credits.ensures.credits in
    rw (← c.self.view_is)
    (λ told. copy_of_run m.machine m.words.items m.log (opening desc.defs words ignore_unused credits) c.in_ok-copy.copy c.trace.new.self c.self.invariant told same c.in_ok-copy.ensures.opens
    (subst (λ (es : List Entry). Traces c.in_ok-copy.copy es c.trace.new.self) c.as_slice-2.ensures c.in_ok-trace.ensures))
