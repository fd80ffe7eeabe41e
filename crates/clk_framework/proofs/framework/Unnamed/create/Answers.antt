use Rattle.std.proofs.Common.{Some, ◌∙◌, ap}
use Rattle.clk_base.specs.declared.event.Entry.{Entry}
use Rattle.tier_lock.specs.Known.{KnownBaton}
use Rattle.clk_framework.specs.declared.opened.Opened.{Opened}
use Rattle.clk_framework.specs.Opening.{opened_of}
use Rattle.clk_framework.proofs.Following.{opened_copy}
use Rattle.clk_framework.proofs.framework.Unnamed.create.Goals as goal

pub of-planner-requires-clause-copied : goal.of-planner-requires-clause-copied
of-planner-requires-clause-copied g c =
    let baton = c.in_ok-lock.baton in
    let is = c.in_ok-lock.ensures.baton in
    opened_copy c.in_ok-kernel.kernel baton.fixed baton.seen c.in_ok-copy.copy c.in_ok-kernel.ensures.opened.journal c.in_ok-copy.ensures.opened
    (ap (λ (b : KnownBaton Entry Opened). b.fixed) is ∙ ap (λ (o : Opened). Some o) (ap opened_of c.in_ok-new.ensures.ok)) (ap (λ (b : KnownBaton Entry Opened). b.seen) is)
    c.in_ok-copy.ensures.made c.in_ok-copy.ensures.copies
