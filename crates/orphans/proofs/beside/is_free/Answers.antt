-- The clocks on the path of the parent that would be given.
use Rattle.std.proofs.Common.{◌<◌, ◌∙◌, ◌&&◌, Bool, Some, ℕ, not, sym, ap, arith, length, nat_eq}
use Rattle.std.specs.List.{list_any}
use Rattle.std.specs.Option.{option_map}
use Rattle.clk_base.specs.declared.clock.ClockId.{ClockId}
use Rattle.clk_base.specs.Tables.{flag_at}
use Rattle.clk_model.specs.Tree.{path_within}
use Rattle.clk_model.specs.Begin.{registered_rows}
use Rattle.orphans.specs.Beside.{up_beside}
use Rattle.orphans.proofs.BesideLaws.{path_beside, free_by}
use Rattle.orphans.proofs.beside.is_free.Goals as goal

pub returns-in-Some : goal.returns-in-Some
returns-in-Some g c = λ regs told.
    let d = c.args.tree.now in
    let clocks = c.args.tree.now.clocks in
    let test : ℕ → Bool = λ x. not (nat_eq x c.args.clock.0) && flag_at c.args.marks.now x in
    let within : c.args.new.0 < length clocks = let rows = c.requires.stands.rows in let new = c.requires.new in omega arith in
    ap not
    (c.meets.ensures
    ∙ ap (λ (n : ℕ). list_any test (path_within (up_beside clocks c.args.new.0 (option_map (λ (p : ClockId). p.0) c.args.link)) n c.in-Some.parent.0)) c.depth.ensures
    ∙ ap (list_any test) (path_beside d.defs regs clocks c.args.new.0 c.in-Some.parent.0 (option_map (λ (p : ClockId). p.0) c.args.link) within (c.requires.link regs told)))
    ∙ sym (free_by d.defs regs (registered_rows d.defs regs clocks c.args.new.0) c.args.marks.now c.args.clock.0 (Some c.in-Some.parent.0)
    (sym (c.link_beside.ensures.link regs told) ∙ ap (option_map (λ (p : ClockId). p.0)) c.in-Some.is))
