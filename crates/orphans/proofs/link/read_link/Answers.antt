-- The parent that is selected, if it is registered.
use Rattle.std.proofs.Common.{◌≡◌, ◌∙◌, true, ap, subst}
use Rattle.std.specs.Prelude.{IfSome}
use Rattle.clk_base.specs.declared.clock.ClockId.{ClockId}
use Rattle.clk_base.specs.Description.{Description, parents_of}
use Rattle.clk_model.specs.Lists.{is_in}
use Rattle.clk_model.specs.Tree.{selected}
use Rattle.orphans.proofs.LinkLaws.{given_as, possible_as}
use Rattle.orphans.proofs.link.read_link.Goals as goal

pub returns-clause-link : goal.returns-clause-link
returns-clause-link g c = λ regs told.
    given_as c.args.tree.now.defs regs c.args.tree.now.clocks c.args.c.0 c.selected.result c.if_there.result
    (c.selected.ensures.selected regs told ∙ ap (λ (defs : Description). selected defs regs c.args.c.0) c.desc.ensures.defs) c.if_there.ensures.link

pub returns-clause-possible : goal.returns-clause-possible
returns-clause-possible g c =
    possible_as (parents_of c.args.tree.now.defs c.args.c.0) c.selected.result c.if_there.result
    (subst (λ (defs : Description). IfSome c.selected.result (λ (p : ClockId). is_in p.0 (parents_of defs c.args.c.0) ≡ true)) c.desc.ensures.defs c.selected.ensures.possible)
    c.if_there.ensures.same
