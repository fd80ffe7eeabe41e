use Rattle.std.proofs.Common.{◌∙◌, inl, sym, ap, subst}
use Rattle.clk_base.specs.declared.call.Sleeping.{Sleeping}
use Rattle.clk_base.specs.declared.call.Sleeping.TheVariants as call
use Rattle.clk_base.specs.declared.event.Event.TheVariants.{Begin}
use Rattle.clk_base.specs.declared.event.Turn.TheVariants.{Going}
use Rattle.clk_model.specs.declared.row.HandleRow.{HandleRow}
use Rattle.clk_machine.specs.Along.{GoesAlong}
use Rattle.clk_machine.specs.Changing.{course_of}
use Rattle.clk_machine.specs.ChangingAlong.{CanChange, CanRange}
use Rattle.clk_machine.specs.Parts.{Parts, with_range}
use Rattle.clk_machine.specs.Ready.{CanGo, GoesOut}
use Rattle.clk_machine.specs.SettingOut.{CanLower, CanSetOut, set_lower}
use Rattle.clk_machine.proofs.Copying.{same_row}
use Rattle.clk_machine.proofs.prep.ready.set_out.Goals as goal

pub returns-in-Prepare-clause-goes : goal.returns-in-Prepare-clause-goes
returns-in-Prepare-clause-goes c =
    let m = c.args.machine.now in
    let d = c.args.driver in
    let can : CanSetOut m d (call.Prepare c.in-Prepare.field-0) c.args.ready.now.flight = subst (λ (w : Sleeping). CanGo m d w c.args.ready.now.flight (course_of c.args.ready.now.draft)) c.in-Prepare.is (c.requires.ready.ready (sym c.going.ensures ∙ c.if-not-going.false)) in
    subst (λ (w : Sleeping). GoesOut m d w c.set_out.new.self) (sym c.in-Prepare.is)
    (inl (subst (λ (q : Parts). GoesAlong m d (Begin (call.Prepare c.in-Prepare.field-0)) Going q) (sym c.set_out.ensures.parts) can.along))

pub returns-in-Probe-clause-goes : goal.returns-in-Probe-clause-goes
returns-in-Probe-clause-goes c =
    let m = c.args.machine.now in
    let d = c.args.driver in
    let can : CanSetOut m d (call.Probe c.in-Probe.field-0) c.args.ready.now.flight = subst (λ (w : Sleeping). CanGo m d w c.args.ready.now.flight (course_of c.args.ready.now.draft)) c.in-Probe.is (c.requires.ready.ready (sym c.going.ensures ∙ c.if-not-going.false)) in
    subst (λ (w : Sleeping). GoesOut m d w c.set_out-in-Probe.new.self) (sym c.in-Probe.is)
    (inl (subst (λ (q : Parts). GoesAlong m d (Begin (call.Probe c.in-Probe.field-0)) Going q) (sym c.set_out-in-Probe.ensures.parts) can.along))

pub returns-in-Unprepare-clause-goes : goal.returns-in-Unprepare-clause-goes
returns-in-Unprepare-clause-goes c =
    let m = c.args.machine.now in
    let d = c.args.driver in
    let can : CanLower m d c.in-Unprepare.handle c.args.ready.now.flight = subst (λ (w : Sleeping). CanGo m d w c.args.ready.now.flight (course_of c.args.ready.now.draft)) c.in-Unprepare.is (c.requires.ready.ready (sym c.going.ensures ∙ c.if-not-going.false)) in
    subst (λ (w : Sleeping). GoesOut m d w c.set_lower.new.self) (sym c.in-Unprepare.is)
    (inl (subst (λ (q : Parts). GoesAlong m d (Begin (call.Unprepare c.in-Unprepare.handle)) Going q) (sym c.set_lower.ensures.parts)
    (subst (λ (row : HandleRow). GoesAlong m d (Begin (call.Unprepare c.in-Unprepare.handle)) Going (set_lower m c.in-Unprepare.handle.number row c.args.ready.now.flight))
    (same_row can.row c.known-row.result (sym can.own ∙ c.known-row.ensures.own)) can.along)))

pub returns-in-SetRange-clause-goes : goal.returns-in-SetRange-clause-goes
returns-in-SetRange-clause-goes c =
    let m = c.args.machine.now in
    let d = c.args.driver in
    let can : CanRange m d c.in-SetRange.handle c.in-SetRange.least c.in-SetRange.most c.args.ready.now.flight (course_of c.args.ready.now.draft) = subst (λ (w : Sleeping). CanGo m d w c.args.ready.now.flight (course_of c.args.ready.now.draft)) c.in-SetRange.is (c.requires.ready.ready (sym c.going.ensures ∙ c.if-not-going.false)) in
    subst (λ (w : Sleeping). GoesOut m d w c.write_range.new.self) (sym c.in-SetRange.is)
    (inl (subst (λ (q : Parts). GoesAlong m d (Begin (call.SetRange c.in-SetRange.handle c.in-SetRange.least c.in-SetRange.most)) Going q)
    (sym (c.write_range.ensures ∙ ap (λ (q : Parts). with_range q c.in-SetRange.handle.number c.in-SetRange.least c.in-SetRange.most) c.set_along.ensures.parts)) can.along))

pub returns-in-SetRate-clause-goes : goal.returns-in-SetRate-clause-goes
returns-in-SetRate-clause-goes c =
    let m = c.args.machine.now in
    let d = c.args.driver in
    let can : CanChange m d (call.SetRate c.in-SetRate.field-0 c.in-SetRate.field-1) c.args.ready.now.flight (course_of c.args.ready.now.draft) = subst (λ (w : Sleeping). CanGo m d w c.args.ready.now.flight (course_of c.args.ready.now.draft)) c.in-SetRate.is (c.requires.ready.ready (sym c.going.ensures ∙ c.if-not-going.false)) in
    subst (λ (w : Sleeping). GoesOut m d w c.set_along-in-SetRate.new.self) (sym c.in-SetRate.is)
    (inl (subst (λ (q : Parts). GoesAlong m d (Begin (call.SetRate c.in-SetRate.field-0 c.in-SetRate.field-1)) Going q) (sym c.set_along-in-SetRate.ensures.parts) can.along))

pub returns-in-SetRateExclusive-clause-goes : goal.returns-in-SetRateExclusive-clause-goes
returns-in-SetRateExclusive-clause-goes c =
    let m = c.args.machine.now in
    let d = c.args.driver in
    let can : CanChange m d (call.SetRateExclusive c.in-SetRateExclusive.field-0 c.in-SetRateExclusive.field-1) c.args.ready.now.flight (course_of c.args.ready.now.draft) = subst (λ (w : Sleeping). CanGo m d w c.args.ready.now.flight (course_of c.args.ready.now.draft)) c.in-SetRateExclusive.is (c.requires.ready.ready (sym c.going.ensures ∙ c.if-not-going.false)) in
    subst (λ (w : Sleeping). GoesOut m d w c.set_along-in-SetRateExclusive.new.self) (sym c.in-SetRateExclusive.is)
    (inl (subst (λ (q : Parts). GoesAlong m d (Begin (call.SetRateExclusive c.in-SetRateExclusive.field-0 c.in-SetRateExclusive.field-1)) Going q) (sym c.set_along-in-SetRateExclusive.ensures.parts) can.along))

pub returns-in-SetParent-clause-goes : goal.returns-in-SetParent-clause-goes
returns-in-SetParent-clause-goes c =
    let m = c.args.machine.now in
    let d = c.args.driver in
    let can : CanChange m d (call.SetParent c.in-SetParent.field-0 c.in-SetParent.field-1) c.args.ready.now.flight (course_of c.args.ready.now.draft) = subst (λ (w : Sleeping). CanGo m d w c.args.ready.now.flight (course_of c.args.ready.now.draft)) c.in-SetParent.is (c.requires.ready.ready (sym c.going.ensures ∙ c.if-not-going.false)) in
    subst (λ (w : Sleeping). GoesOut m d w c.set_along-in-SetParent.new.self) (sym c.in-SetParent.is)
    (inl (subst (λ (q : Parts). GoesAlong m d (Begin (call.SetParent c.in-SetParent.field-0 c.in-SetParent.field-1)) Going q) (sym c.set_along-in-SetParent.ensures.parts) can.along))
