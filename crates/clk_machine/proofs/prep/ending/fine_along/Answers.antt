use Rattle.std.proofs.Common.{◌≡◌, true, None, refl, rules, sym, subst}
use Rattle.clk_base.specs.declared.call.Sleeping.{Sleeping}
use Rattle.clk_base.specs.declared.call.Sleeping.TheVariants as call
use Rattle.clk_base.specs.declared.event.Event.TheVariants.{Begin}
use Rattle.clk_base.specs.declared.event.Reply.TheVariants.{Fine}
use Rattle.clk_base.specs.declared.event.Turn.TheVariants.{Done}
use Rattle.notifiers.specs.declared.notifier.Notifier.{Notifier}
use Rattle.clk_machine.specs.Along.{FollowsEvent, PartsFollow, is_still}
use Rattle.clk_machine.specs.Copied.{Copy}
use Rattle.clk_machine.specs.Places.{IsReadyToAdd}
use Rattle.clk_machine.specs.Ready.{HasPlaceFor}
use Rattle.clk_machine.proofs.Copying.{copies_done, copies_fine}
use Rattle.clk_machine.proofs.prep.ending.fine_along.Goals as goal

pub returns-in_default-clause-follows : goal.returns-in_default-clause-follows
returns-in_default-clause-follows c =
    let copy : Copy = record { parts = c.args.machine.now; room = None } in
    let still : is_still c.args.what ≡ true = search rules in
    λ s t of step. copies_fine copy s t c.args.driver c.args.what of still step

pub notifier_add_along-requires-clause-ready : goal.notifier_add_along-requires-clause-ready
notifier_add_along-requires-clause-ready c =
    let n : Notifier = record { id = c.in-NotifierAdd._id; priority = c.in-NotifierAdd._priority; policy = c.in-NotifierAdd._policy } in
    (n, subst (λ (what : Sleeping). HasPlaceFor c.args.machine.now c.args.driver what c.args.chain.now) c.in-NotifierAdd.is c.requires.has)

pub returns-in-NotifierAdd-clause-follows : goal.returns-in-NotifierAdd-clause-follows
returns-in-NotifierAdd-clause-follows c =
    let old : Copy = record { parts = c.args.machine.now; room = None } in
    let new : Copy = record { parts = c.notifier_add_along.new.self; room = None } in
    let n : Notifier = record { id = c.in-NotifierAdd._id; priority = c.in-NotifierAdd._priority; policy = c.in-NotifierAdd._policy } in
    let what : Sleeping = call.NotifierAdd c.in-NotifierAdd.handle n.id n.priority n.policy in
    let ready : IsReadyToAdd c.args.machine.now c.args.driver c.in-NotifierAdd.handle n c.args.chain.now =
    subst (λ (w : Sleeping). HasPlaceFor c.args.machine.now c.args.driver w c.args.chain.now) c.in-NotifierAdd.is c.requires.has in
    subst (λ (w : Sleeping). PartsFollow old.parts c.args.driver (Begin w) (Done Fine) new.parts) (sym c.in-NotifierAdd.is)
    (copies_done old new c.args.driver what c.requires.whole refl (c.notifier_add_along.ensures.along n ready))

pub returns-in-Put-clause-follows : goal.returns-in-Put-clause-follows
returns-in-Put-clause-follows c =
    let old : Copy = record { parts = c.args.machine.now; room = None } in
    let new : Copy = record { parts = c.put_along.new.self; room = None } in
    subst (λ (what : Sleeping). FollowsEvent old c.args.driver (Begin what) (Done Fine) new) (sym c.in-Put.is)
    (copies_done old new c.args.driver (call.Put c.in-Put.handle) c.requires.whole refl c.put_along.ensures.along)

pub returns-in-Prepare-clause-follows : goal.returns-in-Prepare-clause-follows
returns-in-Prepare-clause-follows c =
    let old : Copy = record { parts = c.args.machine.now; room = None } in
    let new : Copy = record { parts = c.prepare_along.new.self; room = None } in
    subst (λ (what : Sleeping). FollowsEvent old c.args.driver (Begin what) (Done Fine) new) (sym c.in-Prepare.is)
    (copies_done old new c.args.driver (call.Prepare c.in-Prepare.handle) c.requires.whole refl c.prepare_along.ensures.along)

pub returns-in-Unprepare-clause-follows : goal.returns-in-Unprepare-clause-follows
returns-in-Unprepare-clause-follows c =
    let old : Copy = record { parts = c.args.machine.now; room = None } in
    let new : Copy = record { parts = c.unprepare_along.new.self; room = None } in
    subst (λ (what : Sleeping). FollowsEvent old c.args.driver (Begin what) (Done Fine) new) (sym c.in-Unprepare.is)
    (copies_done old new c.args.driver (call.Unprepare c.in-Unprepare.handle) c.requires.whole refl c.unprepare_along.ensures.along)

pub returns-in-SetRateExclusive-clause-follows : goal.returns-in-SetRateExclusive-clause-follows
returns-in-SetRateExclusive-clause-follows c =
    let old : Copy = record { parts = c.args.machine.now; room = None } in
    let new : Copy = record { parts = c.exclusive_get_along.new.self; room = None } in
    subst (λ (what : Sleeping). FollowsEvent old c.args.driver (Begin what) (Done Fine) new) (sym c.in-SetRateExclusive.is)
    (copies_done old new c.args.driver (call.SetRateExclusive c.in-SetRateExclusive.handle c.in-SetRateExclusive.field-1) c.requires.whole refl (c.exclusive_get_along.ensures.rate c.in-SetRateExclusive.field-1))

pub returns-in-SetRange-clause-follows : goal.returns-in-SetRange-clause-follows
returns-in-SetRange-clause-follows c =
    let old : Copy = record { parts = c.args.machine.now; room = None } in
    let new : Copy = record { parts = c.range_along.new.self; room = None } in
    subst (λ (what : Sleeping). FollowsEvent old c.args.driver (Begin what) (Done Fine) new) (sym c.in-SetRange.is)
    (copies_done old new c.args.driver (call.SetRange c.in-SetRange.handle c.in-SetRange.least c.in-SetRange.most) c.requires.whole refl c.range_along.ensures.along)

pub returns-in-ExclusiveGet-clause-follows : goal.returns-in-ExclusiveGet-clause-follows
returns-in-ExclusiveGet-clause-follows c =
    let old : Copy = record { parts = c.args.machine.now; room = None } in
    let new : Copy = record { parts = c.exclusive_get_along-in-ExclusiveGet.new.self; room = None } in
    subst (λ (what : Sleeping). FollowsEvent old c.args.driver (Begin what) (Done Fine) new) (sym c.in-ExclusiveGet.is)
    (copies_done old new c.args.driver (call.ExclusiveGet c.in-ExclusiveGet.handle) c.requires.whole refl c.exclusive_get_along-in-ExclusiveGet.ensures.along)

pub returns-in-ExclusivePut-clause-follows : goal.returns-in-ExclusivePut-clause-follows
returns-in-ExclusivePut-clause-follows c =
    let old : Copy = record { parts = c.args.machine.now; room = None } in
    let new : Copy = record { parts = c.exclusive_put_along.new.self; room = None } in
    subst (λ (what : Sleeping). FollowsEvent old c.args.driver (Begin what) (Done Fine) new) (sym c.in-ExclusivePut.is)
    (copies_done old new c.args.driver (call.ExclusivePut c.in-ExclusivePut.handle) c.requires.whole refl c.exclusive_put_along.ensures.along)

pub returns-in-NotifierRemove-clause-follows : goal.returns-in-NotifierRemove-clause-follows
returns-in-NotifierRemove-clause-follows c =
    let old : Copy = record { parts = c.args.machine.now; room = None } in
    let new : Copy = record { parts = c.notifier_remove_along.new.self; room = None } in
    subst (λ (what : Sleeping). FollowsEvent old c.args.driver (Begin what) (Done Fine) new) (sym c.in-NotifierRemove.is)
    (copies_done old new c.args.driver (call.NotifierRemove c.in-NotifierRemove.handle c.in-NotifierRemove.id) c.requires.whole refl c.notifier_remove_along.ensures.along)

pub returns-in-Probe-clause-follows : goal.returns-in-Probe-clause-follows
returns-in-Probe-clause-follows c =
    let old : Copy = record { parts = c.args.machine.now; room = None } in
    let new : Copy = record { parts = c.probe_along.new.self; room = None } in
    subst (λ (what : Sleeping). FollowsEvent old c.args.driver (Begin what) (Done Fine) new) (sym c.in-Probe.is)
    (copies_done old new c.args.driver (call.Probe c.in-Probe.clock) c.requires.whole refl c.probe_along.ensures.along)
