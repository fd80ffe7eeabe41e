use Rattle.std.proofs.Common.{◌≡◌, ◌∙◌, take}
use Rattle.std.specs.Option.{option_map}
use Rattle.std.proofs.lemmas.Result.{IfOk-weaker}
use Rattle.clk_model.specs.State.{registered}
use Rattle.clk_machine.specs.Parts.{Parts, parts_of}
use Rattle.clk_machine.proofs.Adopting.{over_all, adopted_first, all_words, all_listed, valid_in}
use Rattle.core_parts.proofs.Described.{valid_over}
use Rattle.clk_machine.proofs.machine.Machine.adopted.Goals as goal

pub adoptable_in-requires-clause-valid : goal.adoptable_in-requires-clause-valid
adoptable_in-requires-clause-valid g c =
    valid_over c.self.inside.tree.words c.self.inside.window.size (g.B.Bank.size c.bank.result.now) c.self.inside.tree.defs c.self.invariant.tied.valid c.self.invariant.tied.words c.bank.ensures.fits

pub returns-clause-told : goal.returns-clause-told
returns-clause-told g c =
    let m = c.self.inside in
    let p : Parts = parts_of m.window m.tree m.handles m.counts m.notifiers m.credits m.spent m.ignore_unused m.flight m.course m.prepare_holds m.enable_holds m.steps in
    rw (← c.self.view_is) (λ s stands.
    let words : option_map (take m.window.size) (g.B.Bank.contents c.bank.result.now) ≡ m.window.words = c.bank.ensures.words in
    let all = all_words m.window.size (g.B.Bank.contents c.bank.result.now) s.regs (words ∙ stands.regs) in
    IfOk-weaker c.adoptable_in.result _ _
    (λ list is. is ∙ adopted_first m.window.size s c.args.new.0 all.0 (valid_in p s c.self.invariant stands) all.2)
    (c.adoptable_in.ensures.order (over_all s all.0) stands.defs stands.clocks stands.order all.1))

pub returns-clause-there : goal.returns-clause-there
returns-clause-there g c =
    let m = c.self.inside in
    let p : Parts = parts_of m.window m.tree m.handles m.counts m.notifiers m.credits m.spent m.ignore_unused m.flight m.course m.prepare_holds m.enable_holds m.steps in
    rw (← c.self.view_is) (IfOk-weaker c.adoptable_in.result _ _ (λ list all. all_listed (registered m.tree.clocks) list.items all) c.adoptable_in.ensures.there)
