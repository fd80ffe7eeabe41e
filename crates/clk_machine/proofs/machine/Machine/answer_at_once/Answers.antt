use Rattle.std.proofs.Common.{refl, sym, ap, subst, Some}
use Rattle.clk_base.specs.declared.call.Sleeping.TheVariants.{SetRate, SetRateExclusive, SetRange, SetParent}
use Rattle.clk_base.specs.declared.event.Reply.TheVariants.{Fine}
use Rattle.clk_base.specs.declared.event.Turn.TheVariants.{Done}
use Rattle.clk_model.specs.Begin.{held_once_more}
use Rattle.clk_model.specs.Laws.CallCauses.{with_limits}
use Rattle.clk_model.specs.declared.row.HandleRow.{HandleRow}
use Rattle.clk_machine.specs.ChangeCalls.{call_for}
use Rattle.clk_machine.specs.declared.change.Wanted.{Wanted}
use Rattle.clk_machine.specs.Holding.{exclusive_more, puts, ranged, stays}
use Rattle.clk_machine.specs.Readied.{AtOnce}
use Rattle.clk_machine.specs.Readying.{LeadsSo}
use Rattle.clk_machine.proofs.Entered.{own_stands}
use Rattle.clk_machine.proofs.Readying.{leads_at_once, same_row}
use Rattle.clk_machine.proofs.machine.Machine.answer_at_once.Goals as goal

pub returns-in-Rate-clause-leads : goal.returns-in-Rate-clause-leads
returns-in-Rate-clause-leads g c =
    let h = c.args.change.handle in
    subst (λ (w : Wanted). LeadsSo c.args.self.now c.args.driver (call_for h w) AtOnce (Done Fine) c.spend.new.self) (sym c.in-Rate.is)
    (leads_at_once c.args.self.now c.spend.new.self c.args.driver (SetRate h c.in-Rate.field-0) stays c.requires.credit c.requires.quiet c.spend.ensures (λ s row stands own. refl))

pub returns-in-Parent-clause-leads : goal.returns-in-Parent-clause-leads
returns-in-Parent-clause-leads g c =
    let h = c.args.change.handle in
    subst (λ (w : Wanted). LeadsSo c.args.self.now c.args.driver (call_for h w) AtOnce (Done Fine) c.spend-in-Parent.new.self) (sym c.in-Parent.is)
    (leads_at_once c.args.self.now c.spend-in-Parent.new.self c.args.driver (SetParent h c.in-Parent.field-0) stays c.requires.credit c.requires.quiet c.spend-in-Parent.ensures (λ s row stands own. refl))

pub returns-in-HeldRate-clause-leads : goal.returns-in-HeldRate-clause-leads
returns-in-HeldRate-clause-leads g c =
    let h = c.args.change.handle in
    let known = c.known-row.result in
    subst (λ (w : Wanted). LeadsSo c.args.self.now c.args.driver (call_for h w) AtOnce (Done Fine) c.add_exclusive.new.self) (sym c.in-HeldRate.is)
    (leads_at_once c.args.self.now c.add_exclusive.new.self c.args.driver (SetRateExclusive h c.in-HeldRate.field-0) (puts h.number (Some (exclusive_more known))) c.requires.credit c.requires.quiet c.add_exclusive.ensures
    (λ s row stands own. ap (λ (r : HandleRow). held_once_more s h.number r)
    (same_row s c.args.driver h.number row known own (own_stands c.args.self.now s c.args.driver h.number (Some known) stands c.known-row.ensures.own))))

pub returns-in-Range-clause-leads : goal.returns-in-Range-clause-leads
returns-in-Range-clause-leads g c =
    let h = c.args.change.handle in
    let known = c.known-row-in-Range.result in
    subst (λ (w : Wanted). LeadsSo c.args.self.now c.args.driver (call_for h w) AtOnce (Done Fine) c.keep_range.new.self) (sym c.in-Range.is)
    (leads_at_once c.args.self.now c.keep_range.new.self c.args.driver (SetRange h c.in-Range.least c.in-Range.most) (puts h.number (Some (ranged known c.in-Range.least c.in-Range.most))) c.requires.credit c.requires.quiet
    c.keep_range.ensures
    (λ s row stands own. ap (λ (r : HandleRow). with_limits s h.number r c.in-Range.least c.in-Range.most)
    (same_row s c.args.driver h.number row known own (own_stands c.args.self.now s c.args.driver h.number (Some known) stands c.known-row-in-Range.ensures.own))))
