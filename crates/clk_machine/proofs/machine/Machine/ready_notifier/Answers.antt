use Rattle.std.proofs.Common.{subst}
use Rattle.notifiers.specs.declared.fault.ChainFault.{ChainFault}
use Rattle.notifiers.specs.declared.fault.ChainFault.TheVariants.{Exists, Full}
use Rattle.notifiers.specs.Chains.{chain_of, WhyNot}
use Rattle.clk_machine.specs.Parts.{Parts}
use Rattle.clk_machine.proofs.Along.{by_none}
use Rattle.clk_machine.proofs.NotifyingAlong.{never_paid, never_again, never_more}
use Rattle.clk_machine.proofs.machine.Machine.ready_notifier.Goals as goal

pub returns-in_default : goal.returns-in_default
returns-in_default g c =
    never_paid c.args.self.now c.args.driver c.args.handle (record { id = c.args.id; priority = c.args.priority; policy = c.args.policy }) (by_none c.own_paid.result c.in_default.is c.own_paid.ensures.none)

pub returns-in-Err-Exists : goal.returns-in-Err-Exists
returns-in-Err-Exists g c =
    let row = c.in-Some.row in
    let why : WhyNot c.args.id (chain_of c.self.inside.notifiers row.clock.0) Exists =
    subst (λ (f : ChainFault). WhyNot c.args.id (chain_of c.self.inside.notifiers row.clock.0) f) c.in-Err-Exists.field-0-is c.in-Err-Exists.ensures.why in
    never_again c.args.self.now c.args.driver c.args.handle (record { id = c.args.id; priority = c.args.priority; policy = c.args.policy }) row c.in-Some.ensures.own
    (subst (λ (q : Parts). WhyNot c.args.id (chain_of q.chains row.clock.0) Exists) c.self.view_is why)

pub returns-in-Err-Full : goal.returns-in-Err-Full
returns-in-Err-Full g c =
    let row = c.in-Some.row in
    let why : WhyNot c.args.id (chain_of c.self.inside.notifiers row.clock.0) Full =
    subst (λ (f : ChainFault). WhyNot c.args.id (chain_of c.self.inside.notifiers row.clock.0) f) c.in-Err-Full.field-0-is c.in-Err-Full.ensures.why in
    never_more c.args.self.now c.args.driver c.args.handle (record { id = c.args.id; priority = c.args.priority; policy = c.args.policy }) row c.in-Some.ensures.own
    (subst (λ (q : Parts). WhyNot c.args.id (chain_of q.chains row.clock.0) Full) c.self.view_is why).1
