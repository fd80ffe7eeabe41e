use Rattle.std.proofs.Common.{◌≡◌, ◌∙◌, sym, subst, Some, None}
use Rattle.clk_model.specs.State.{handle_at}
use Rattle.clk_machine.specs.Parts.{Parts, parts_of, own_in}
use Rattle.clk_machine.proofs.Asking.{round_unknown, round_known}
use Rattle.clk_machine.proofs.Decided.{given_itself, lifts_with}
use Rattle.clk_machine.proofs.Entered.{own_stands}
use Rattle.clk_machine.proofs.Writing.{live_in}
use Rattle.clk_machine.proofs.machine.Machine.round_reply.Goals as goal

pub returns-in_default-clause-told : goal.returns-in_default-clause-told
returns-in_default-clause-told g c = λ s stands sound.
    round_unknown s c.args.driver c.args.handle c.args.rate (own_stands c.args.self.now s c.args.driver c.args.handle.number None stands (c.own.ensures.row ∙ c.in_default.is))

pub returns-in-Some-found-clause-told : goal.returns-in-Some-found-clause-told
returns-in-Some-found-clause-told g c =
    let m = c.self.inside in
    let p : Parts = parts_of m.window m.tree m.handles m.counts m.notifiers m.credits m.spent m.ignore_unused m.flight m.course m.prepare_holds m.enable_holds m.steps in
    let row = c.in-Some.row in
    let live : handle_at p.table.handles c.args.handle.number ≡ Some row = subst (λ (q : Parts). handle_at q.table.handles c.args.handle.number ≡ Some row) (sym c.self.view_is) c.in-Some.ensures.live in
    let own = subst (λ (q : Parts). own_in q.table.handles c.args.driver c.args.handle.number ≡ Some row) (sym c.self.view_is) (c.own.ensures.row ∙ c.in-Some.is) in
    rw (← c.self.view_is)
    (λ s stands sound. round_known s c.args.driver c.args.handle c.args.rate row (Some c.in-Some-found.rate) (own_stands p s c.args.driver c.args.handle.number (Some row) stands own)
    (sym (c.round_lifted-found.ensures s c.args.handle.number (given_itself p s c.self.invariant stands) (lifts_with p s s.handles c.args.handle.number row c.self.invariant stands sound (live_in p s c.args.handle.number row stands live))) ∙ c.in-Some-found.is))

pub returns-in-None-clause-told : goal.returns-in-None-clause-told
returns-in-None-clause-told g c =
    let m = c.self.inside in
    let p : Parts = parts_of m.window m.tree m.handles m.counts m.notifiers m.credits m.spent m.ignore_unused m.flight m.course m.prepare_holds m.enable_holds m.steps in
    let row = c.in-Some.row in
    let live : handle_at p.table.handles c.args.handle.number ≡ Some row = subst (λ (q : Parts). handle_at q.table.handles c.args.handle.number ≡ Some row) (sym c.self.view_is) c.in-Some.ensures.live in
    let own = subst (λ (q : Parts). own_in q.table.handles c.args.driver c.args.handle.number ≡ Some row) (sym c.self.view_is) (c.own.ensures.row ∙ c.in-Some.is) in
    rw (← c.self.view_is)
    (λ s stands sound. round_known s c.args.driver c.args.handle c.args.rate row None (own_stands p s c.args.driver c.args.handle.number (Some row) stands own)
    (sym (c.round_lifted-found.ensures s c.args.handle.number (given_itself p s c.self.invariant stands) (lifts_with p s s.handles c.args.handle.number row c.self.invariant stands sound (live_in p s c.args.handle.number row stands live))) ∙ c.in-None.is))
