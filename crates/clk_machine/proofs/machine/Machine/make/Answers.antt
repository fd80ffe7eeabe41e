use Rattle.std.proofs.Common.{◌≡◌, true, Some, sym, subst}
use Rattle.clk_base.specs.declared.call.Micro.{Micro}
use Rattle.clk_machine.specs.Making.{ComesNext}
use Rattle.clk_machine.specs.Sound.{links_well}
use Rattle.clk_machine.proofs.Joining.{may_join}
use Rattle.clk_machine.proofs.LinkSteps.{may_link}
use Rattle.clk_machine.proofs.Selecting.{may_select}
use Rattle.clk_model.specs.State.{registered}
use Rattle.clk_model.proofs.Members.{both_right}
use Rattle.clk_model.proofs.RootLaws.{both_from}
use Rattle.core_parts.proofs.InFlight.{raise_there, lower_there}
use Rattle.clk_machine.proofs.machine.Machine.make.Goals as goal

pub raise-requires-clause-near : goal.raise-requires-clause-near
raise-requires-clause-near g c =
    let m = c.args.self.now in
    let next = subst (λ (step : Micro). ComesNext m (Some step)) c.in-Raise.is c.requires.next in
    both_right _ _ (raise_there m.flight (registered m.tree.clocks) c.in-Raise.clock next.0 (c.requires.whole.flown c.requires.going).way)

pub lower-requires-clause-there : goal.lower-requires-clause-there
lower-requires-clause-there g c =
    let m = c.args.self.now in
    let next = subst (λ (step : Micro). ComesNext m (Some step)) c.in-Lower.is c.requires.next in
    both_right _ _ (lower_there m.flight (registered m.tree.clocks) c.in-Lower.clock next.0 (c.requires.whole.flown c.requires.going).way)

pub returns-in-Relink-clause-links : goal.returns-in-Relink-clause-links
returns-in-Relink-clause-links g c =
    let m = c.args.self.now in
    let next = subst (λ (step : Micro). ComesNext m (Some step)) c.in-Relink.is c.requires.next in
    let may = may_link m c.in-Relink.clock c.in-Relink.parent c.requires.whole c.requires.going next.0 in
    subst (λ (step : Micro). links_well m.desc.defs m.tree.clocks step ≡ true) (sym c.in-Relink.is) (both_from _ _ may.there may.possible)

pub returns-in-WriteMux-clause-links : goal.returns-in-WriteMux-clause-links
returns-in-WriteMux-clause-links g c =
    let m = c.args.self.now in
    let next = subst (λ (step : Micro). ComesNext m (Some step)) c.in-WriteMux.is c.requires.next in
    let may = may_select m c.in-WriteMux.clock c.in-WriteMux.place c.requires.whole c.requires.going next.0 in
    subst (λ (step : Micro). links_well m.desc.defs m.tree.clocks step ≡ true) (sym c.in-WriteMux.is) (both_from _ _ may.linked_ may.within)

pub returns-in-Register-clause-links : goal.returns-in-Register-clause-links
returns-in-Register-clause-links g c =
    let m = c.args.self.now in
    let next = subst (λ (step : Micro). ComesNext m (Some step)) c.in-Register.is c.requires.next in
    let may = may_join m c.in-Register.clock c.requires.whole c.requires.going next.0 in
    subst (λ (step : Micro). links_well m.desc.defs m.tree.clocks step ≡ true) (sym c.in-Register.is) (may.well)
