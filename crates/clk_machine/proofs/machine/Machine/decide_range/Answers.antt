use Rattle.std.proofs.Common.{◌≡◌, ◌∙◌, sym, ap, subst, true, false, List, Option, Some, None}
use Rattle.std.proofs.lemmas.Result.{IfOk-weaker}
use Rattle.std.specs.Prelude.{is_some}
use Rattle.clk_base.specs.declared.call.Sleeping.TheVariants.{SetRange}
use Rattle.std.proofs.lemmas.Bool.{not-true, not-false}
use Rattle.clk_model.specs.declared.row.HandleRow.{HandleRow}
use Rattle.clk_model.specs.State.{handle_at}
use Rattle.rate_requests.specs.Handles.{misses_in}
use Rattle.core_parts.specs.Decisions.{decision_of}
use Rattle.clk_machine.specs.Parts.{Parts, parts_of, own_in}
use Rattle.clk_machine.proofs.DecidedRange.{range_unknown, range_missed, decides_range, wanted_between}
use Rattle.clk_machine.proofs.Entered.{own_stands}
use Rattle.clk_machine.proofs.Owned.{owned_call}
use Rattle.clk_machine.proofs.machine.Machine.decide_range.Goals as goal

pub returns-in_default-clause-decides : goal.returns-in_default-clause-decides
returns-in_default-clause-decides g c = λ s stands sound.
    range_unknown s c.args.driver c.args.handle c.args.least c.args.most (own_stands c.args.self.now s c.args.driver c.args.handle.number None stands (c.own.ensures.row ∙ c.in_default.is))

pub returns-then-not-fits-clause-decides : goal.returns-then-not-fits-clause-decides
returns-then-not-fits-clause-decides g c = λ s stands sound.
    let m = c.self.inside in
    let p : Parts = parts_of m.window m.tree m.handles m.counts m.notifiers m.credits m.spent m.ignore_unused m.flight m.course m.prepare_holds m.enable_holds m.steps in
    let row = c.in-Some.row in
    let live : handle_at p.table.handles c.args.handle.number ≡ Some row = subst (λ (q : Parts). handle_at q.table.handles c.args.handle.number ≡ Some row) (sym c.self.view_is) c.in-Some.ensures.live in
    let fits = c.fits.ensures row live in
    let missed : misses_in m.handles.handles c.args.handle.number row.clock.0 c.args.least c.args.most ≡ true = not-false _ (sym fits ∙ c.if-not-fits.true) in
    range_missed s c.args.driver c.args.handle c.args.least c.args.most row
    (own_stands c.args.self.now s c.args.driver c.args.handle.number (Some row) stands (c.own.ensures.row ∙ c.in-Some.is))
    (ap (λ (hs : List (Option HandleRow)). misses_in hs c.args.handle.number row.clock.0 c.args.least c.args.most) (stands.handles ∙ ap (λ (q : Parts). q.table.handles) (sym c.self.view_is)) ∙ missed)

pub returns-clause-decides : goal.returns-clause-decides
returns-clause-decides g c =
    let m = c.self.inside in
    let p : Parts = parts_of m.window m.tree m.handles m.counts m.notifiers m.credits m.spent m.ignore_unused m.flight m.course m.prepare_holds m.enable_holds m.steps in
    let row = c.in-Some.row in
    let live : handle_at p.table.handles c.args.handle.number ≡ Some row = subst (λ (q : Parts). handle_at q.table.handles c.args.handle.number ≡ Some row) (sym c.self.view_is) c.in-Some.ensures.live in
    let own = subst (λ (q : Parts). own_in q.table.handles c.args.driver c.args.handle.number ≡ Some row) (sym c.self.view_is) (c.own.ensures.row ∙ c.in-Some.is) in
    let fits = c.fits.ensures row live in
    let free : misses_in m.handles.handles c.args.handle.number row.clock.0 c.args.least c.args.most ≡ false = not-true _ (sym fits ∙ c.if-not-fits.false) in
    rw (← c.self.view_is)
    (IfOk-weaker c.decide_lifted.result _ _
    (λ verdict answers s stands sound. decides_range p s c.args.driver c.args.handle c.args.least c.args.most c.within-wanted.result row (decision_of c.decide_lifted.new.draft verdict) c.self.invariant own live free
    (wanted_between p s row.clock.0 c.args.least c.args.most c.within-wanted.result c.last_request.result stands c.last_request.ensures.request c.within-wanted.ensures) answers stands sound)
    c.decide_lifted.ensures.decides)

pub returns-clause-own : goal.returns-clause-own
returns-clause-own g c =
    IfOk-weaker c.decide_lifted.result _ _
    (λ verdict there. owned_call c.args.self.now.table.handles c.args.driver (SetRange c.args.handle c.args.least c.args.most) (decision_of c.decide_lifted.new.draft verdict) (ap (λ (o : Option HandleRow). is_some o) (c.own.ensures.row ∙ c.in-Some.is))) c.decide_lifted.ensures.there
