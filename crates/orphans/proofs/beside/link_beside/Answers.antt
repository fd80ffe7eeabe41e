-- The parent that is selected, if it is the new clock or registered.
use Rattle.std.proofs.Common.{◌∙◌, sym, ap, arith}
use Rattle.std.specs.Option.{option_map}
use Rattle.clk_base.specs.declared.clock.ClockId.{ClockId}
use Rattle.clk_base.specs.Description.{Description}
use Rattle.clk_model.specs.Begin.{registered_rows}
use Rattle.clk_model.specs.Tree.{selected}
use Rattle.orphans.proofs.LinkLaws.{given_none, given_there, given_away}
use Rattle.orphans.proofs.BesideLaws.{registered_beside}
use Rattle.orphans.proofs.beside.link_beside.Goals as goal

pub returns-in_err-parent-clause-link : goal.returns-in_err-parent-clause-link
returns-in_err-parent-clause-link g c = λ regs told.
    let d = c.args.tree.now in
    ap (option_map (λ (p : ClockId). p.0)) c.from_residual.ensures
    ∙ sym (given_none d.defs regs (registered_rows d.defs regs c.args.tree.now.clocks c.args.new.0) c.args.clock.0 (sym (c.in_err-parent.ensures.selected regs told ∙ ap (λ (ds : Description). selected ds regs c.args.clock.0) c.desc.ensures.defs)))

pub returns-then-is_there-clause-link : goal.returns-then-is_there-clause-link
returns-then-is_there-clause-link g c = λ regs told.
    let d = c.args.tree.now in
    sym (given_there d.defs regs (registered_rows d.defs regs c.args.tree.now.clocks c.args.new.0) c.args.clock.0 c.in_ok-parent.parent.0 (sym (c.in_ok-parent.ensures.selected regs told ∙ ap (λ (ds : Description). selected ds regs c.args.clock.0) c.desc.ensures.defs))
    (registered_beside d.defs regs c.args.tree.now.clocks c.args.new.0 c.in_ok-parent.parent.0 (let rows = c.is_there.ensures.stands.rows in let new = c.requires.new in omega arith) ∙ sym c.is_there.ensures.there ∙ c.if-is_there.true))

pub returns-else-is_there-clause-link : goal.returns-else-is_there-clause-link
returns-else-is_there-clause-link g c = λ regs told.
    let d = c.args.tree.now in
    sym (given_away d.defs regs (registered_rows d.defs regs c.args.tree.now.clocks c.args.new.0) c.args.clock.0 c.in_ok-parent.parent.0 (sym (c.in_ok-parent.ensures.selected regs told ∙ ap (λ (ds : Description). selected ds regs c.args.clock.0) c.desc.ensures.defs))
    (registered_beside d.defs regs c.args.tree.now.clocks c.args.new.0 c.in_ok-parent.parent.0 (let rows = c.is_there.ensures.stands.rows in let new = c.requires.new in omega arith) ∙ sym c.is_there.ensures.there ∙ c.if-is_there.false))
