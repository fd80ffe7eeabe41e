use Rattle.std.proofs.Common.{◌≡◌, ◌∙◌, sym, ap, true, false, List, Option, is_some}
use Rattle.clk_base.specs.declared.event.Reply.TheVariants.{Fine}
use Rattle.clk_model.specs.declared.row.HandleRow.{HandleRow}
use Rattle.clk_machine.specs.Deciding.{handle_of}
use Rattle.clk_machine.specs.Holding.{stays}
use Rattle.clk_machine.specs.Parts.{own_in}
use Rattle.clk_machine.proofs.Beginning.{fine_ends, own_call}
use Rattle.clk_machine.proofs.Readying.{proceeds_at_once}
use Rattle.clk_machine.specs.ChangeCalls.{call_of}
use Rattle.clk_machine.proofs.ChangeCalls.{changes_of}
use Rattle.clk_machine.proofs.machine.Machine.answer_fine.Goals as goal

pub answer_at_once-requires-clause-own : goal.answer_at_once-requires-clause-own
answer_at_once-requires-clause-own g c =
    own_call c.args.self.now.table.handles c.args.driver (call_of c.args.change) (changes_of c.args.change) (sym c.owns.ensures.own ∙ c.if-not-owns.false)

pub returns-then-not-owns-clause-proceeds : goal.returns-then-not-owns-clause-proceeds
returns-then-not-owns-clause-proceeds g c = proceeds_at_once c.args.self.now c.spend.new.self c.args.driver (call_of c.args.change) Fine stays (changes_of c.args.change) c.requires.quiet c.spend.ensures

pub returns-then-not-owns-clause-leads : goal.returns-then-not-owns-clause-leads
returns-then-not-owns-clause-leads g c = λ s stands sound is.
    let ends = fine_ends s c.args.driver (call_of c.args.change) (changes_of c.args.change) is in
    let some : is_some (own_in c.args.self.now.table.handles c.args.driver (handle_of (call_of c.args.change))) ≡ true =
    ap (λ (hs : List (Option HandleRow)). is_some (own_in hs c.args.driver (handle_of (call_of c.args.change)))) (sym stands.handles) ∙ ap (λ (o : Option HandleRow). is_some o) ends.own in
    let no : true ≡ false = sym some ∙ sym c.owns.ensures.own ∙ c.if-not-owns.true in
    absurd cc

pub returns-clause-leads : goal.returns-clause-leads
returns-clause-leads g c = λ s stands sound is. c.answer_at_once.ensures.leads s stands sound (fine_ends s c.args.driver (call_of c.args.change) (changes_of c.args.change) is)
