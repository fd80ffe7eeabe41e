use Rattle.std.proofs.Common.{◌∙◌, ap, Some}
use Rattle.clk_base.specs.declared.call.Sleeping.TheVariants.{SetRange}
use Rattle.clk_machine.specs.Parts.{Parts, steps_left}
use Rattle.clk_machine.specs.Readied.{scripted_of}
use Rattle.clk_machine.proofs.Readying.{along_left, leads_within, proceeds_within}
use Rattle.clk_machine.proofs.machine.Machine.go_along_within.Goals as goal

pub returns-clause-proceeds : goal.returns-clause-proceeds
returns-clause-proceeds g c =
    proceeds_within c.args.self.now c.start_along.new.self c.write_range.new.self c.args.driver c.args.handle c.args.least c.args.most c.known-row.result (scripted_of c.args.draft.now) c.requires.can
    c.in_ok-start_along.ensures.ok c.write_range.ensures

pub returns-clause-leads : goal.returns-clause-leads
returns-clause-leads g c =
    leads_within c.args.self.now c.start_along.new.self c.write_range.new.self c.args.driver c.args.handle c.args.least c.args.most c.known-row.result (scripted_of c.args.draft.now) c.requires.credit
    c.known-row.ensures.own c.known-row.ensures.live c.in_ok-start_along.ensures.ok c.write_range.ensures

pub returns-clause-left : goal.returns-clause-left
returns-clause-left g c =
    ap (λ (q : Parts). steps_left q) c.write_range.ensures
    ∙ along_left c.args.self.now c.start_along.new.self c.args.driver (SetRange c.args.handle c.args.least c.args.most) (scripted_of c.args.draft.now) (Some (c.known-row.result.min, c.known-row.result.max)) c.requires.can
    c.in_ok-start_along.ensures.ok
