use Rattle.std.proofs.Common.{◌≡◌, sym, subst, List, Option, ℕ}
use Rattle.std.specs.Prelude.{IfSome}
use Rattle.std.specs.Option.{option_map}
use Rattle.clk_base.specs.Valid.{IsValid}
use Rattle.clk_model.specs.Tree.{link_given}
use Rattle.clk_model.specs.Begin.{registered_rows}
use Rattle.clk_machine.specs.Parts.{Parts, parts_of}
use Rattle.clk_machine.proofs.Adopting.{beside_first, given_beside}
use Rattle.core_parts.proofs.Described.{valid_over}
use Rattle.clk_machine.proofs.machine.Machine.parent_beside.Goals as goal

pub link_beside-requires-clause-valid : goal.link_beside-requires-clause-valid
link_beside-requires-clause-valid g c =
    valid_over c.self.inside.tree.words c.self.inside.window.size (g.B.Bank.size c.bank.result.now) c.self.inside.tree.defs c.self.invariant.tied.valid c.self.invariant.tied.words c.bank.ensures.fits

pub returns-clause-told : goal.returns-clause-told
returns-clause-told g c =
    let m = c.self.inside in
    let p : Parts = parts_of m.window m.tree m.handles m.counts m.notifiers m.credits m.spent m.ignore_unused m.flight m.course m.prepare_holds m.enable_holds m.steps in
    rw (← c.self.view_is) (λ s stands.
    given_beside p s c.args.new.0 c.args.clock.0 c.link_beside.result stands
    (subst (λ (o : Option (List ℕ)). IfSome o (λ regs. option_map (λ q. q.0) c.link_beside.result ≡ link_given m.tree.defs regs (registered_rows m.tree.defs regs m.tree.clocks c.args.new.0) c.args.clock.0)) c.bank.ensures.words
    (beside_first m.window.size (g.B.Bank.contents c.bank.result.now) m.tree.defs m.tree.clocks c.args.new.0 c.args.clock.0 c.link_beside.result
    (subst (λ (n : ℕ). IsValid n m.tree.defs) (sym c.self.invariant.tied.words) c.self.invariant.tied.valid) c.link_beside.ensures.link)))
