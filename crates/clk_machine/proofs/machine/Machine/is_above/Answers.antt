use Rattle.std.proofs.Common.{◌≡◌, ◌∙◌, sym, ap, subst, true, false, List, Option, Some, None, ℕ}
use Rattle.std.specs.Prelude.{IfSome}
use Rattle.std.specs.Option.{option_map}
use Rattle.clk_base.specs.Valid.{IsValid}
use Rattle.clk_base.specs.declared.clock.ClockId.{ClockId}
use Rattle.clk_model.specs.Lists.{is_in}
use Rattle.clk_model.specs.State.{registered, link_in}
use Rattle.clk_model.specs.Tree.{link_given, path_within}
use Rattle.clk_machine.specs.Parts.{Parts, parts_of}
use Rattle.clk_machine.proofs.Adopting.{above_to_be}
use Rattle.core_parts.proofs.RegisteredTree.{given_first}
use Rattle.core_parts.proofs.Described.{valid_over}
use Rattle.clk_machine.proofs.machine.Machine.is_above.Goals as goal

pub read_link-requires-clause-valid : goal.read_link-requires-clause-valid
read_link-requires-clause-valid g c =
    valid_over c.self.inside.tree.words c.self.inside.window.size (g.B.Bank.size c.bank.result.now) c.self.inside.tree.defs c.self.invariant.tied.valid c.self.invariant.tied.words c.bank.ensures.fits

pub returns-in-Some : goal.returns-in-Some
returns-in-Some g c =
    let m = c.self.inside in
    let p : Parts = parts_of m.window m.tree m.handles m.counts m.notifiers m.credits m.spent m.ignore_unused m.flight m.course m.prepare_holds m.enable_holds m.steps in
    let free : registered m.tree.clocks c.args.new.0 ≡ false = rw (← c.self.view_is) at c.requires.free in
    let there : registered m.tree.clocks c.args.clock.0 ≡ true = rw (← c.self.view_is) at c.requires.there in
    let given : IfSome m.window.words (λ regs. option_map (λ (q : ClockId). q.0) (Some c.in-Some.parent) ≡ link_given m.tree.defs regs m.tree.clocks c.args.new.0) =
    subst (λ (o : Option (List ℕ)). IfSome o (λ regs. option_map (λ (q : ClockId). q.0) (Some c.in-Some.parent) ≡ link_given m.tree.defs regs m.tree.clocks c.args.new.0)) c.bank.ensures.words
    (given_first m.window.size (g.B.Bank.contents c.bank.result.now) m.tree.defs m.tree.clocks c.args.new.0 (Some c.in-Some.parent)
    (subst (λ (n : ℕ). IsValid n m.tree.defs) (sym c.self.invariant.tied.words) c.self.invariant.tied.valid) c.in-Some.ensures.link) in
    rw (← c.self.view_is) (λ s stands.
    c.is_among.ensures ∙ ap (λ (n : ℕ). is_in c.args.clock.0 (path_within (link_in m.tree.clocks) n c.in-Some.parent.0)) c.depth.ensures
    ∙ above_to_be p s c.args.new.0 c.args.clock.0 (Some c.in-Some.parent) stands free there given)

pub returns-in-None : goal.returns-in-None
returns-in-None g c =
    let m = c.self.inside in
    let p : Parts = parts_of m.window m.tree m.handles m.counts m.notifiers m.credits m.spent m.ignore_unused m.flight m.course m.prepare_holds m.enable_holds m.steps in
    let free : registered m.tree.clocks c.args.new.0 ≡ false = rw (← c.self.view_is) at c.requires.free in
    let there : registered m.tree.clocks c.args.clock.0 ≡ true = rw (← c.self.view_is) at c.requires.there in
    let given : IfSome m.window.words (λ regs. option_map (λ (q : ClockId). q.0) None ≡ link_given m.tree.defs regs m.tree.clocks c.args.new.0) =
    subst (λ (o : Option (List ℕ)). IfSome o (λ regs. option_map (λ (q : ClockId). q.0) None ≡ link_given m.tree.defs regs m.tree.clocks c.args.new.0)) c.bank.ensures.words
    (given_first m.window.size (g.B.Bank.contents c.bank.result.now) m.tree.defs m.tree.clocks c.args.new.0 None
    (subst (λ (n : ℕ). IsValid n m.tree.defs) (sym c.self.invariant.tied.words) c.self.invariant.tied.valid) c.in-None.ensures.link) in
    rw (← c.self.view_is) (λ s stands. above_to_be p s c.args.new.0 c.args.clock.0 None stands free there given)
