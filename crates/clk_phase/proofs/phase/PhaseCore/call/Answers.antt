use Rattle.std.proofs.Common.{◌≡◌, ◌<◌, length, sym, subst}
use Rattle.std.proofs.lemmas.List.{get_or_read}
use Rattle.std.specs.Vec.{vec_capacity}
use Rattle.std.specs.Prelude.{slice_index}
use Rattle.clk_phase.specs.PhaseLogs.{PhaseLog}
use Rattle.clk_phase.proofs.Phasing.{phase_goes}
use Rattle.clk_phase.proofs.phase.PhaseCore.call.Goals as goal

pub invariant_of-self : goal.invariant_of-self
invariant_of-self c =
    let space : length c.self.inside.journal.items < c.self.inside.room = subst (λ (l : PhaseLog). length l.journal < l.start.room) (sym c.self.view_is) c.requires.room in
    let place : c.args.what.now.clock.0 < length c.self.inside.steps.items = subst (λ (l : PhaseLog). c.args.what.now.clock.0 < length l.start.steps) (sym c.self.view_is) c.requires.place in
    let at : c.index.result.now ≡ slice_index c.self.inside.steps.items c.args.what.now.clock.0 = get_or_read c.self.inside.steps.items c.args.what.now.clock.0 c.index.result.now place c.index.ensures 0 in
    phase_goes c.self.inside.steps.items c.self.inside.room (vec_capacity c.self.inside.journal) c.self.inside.settings.items c.self.inside.journal.items c.self.invariant space
    (record { driver = c.args.driver; clock = c.args.what.now.clock; set = c.args.what.now.set; reply = c.make-reply.result }) c.index.result.now c.make-reply.new.settings.items (vec_capacity c.push_reserved.new.self) c.push_reserved.new.self.items
    at c.make-reply.ensures.settings c.make-reply.ensures.reply c.make-reply.ensures.below c.push_reserved.ensures.capacity c.push_reserved.ensures.items

pub returns-clause-legal : goal.returns-clause-legal
returns-clause-legal c =
    let space : length c.self.inside.journal.items < c.self.inside.room = subst (λ (l : PhaseLog). length l.journal < l.start.room) (sym c.self.view_is) c.requires.room in
    let place : c.args.what.now.clock.0 < length c.self.inside.steps.items = subst (λ (l : PhaseLog). c.args.what.now.clock.0 < length l.start.steps) (sym c.self.view_is) c.requires.place in
    let at : c.index.result.now ≡ slice_index c.self.inside.steps.items c.args.what.now.clock.0 = get_or_read c.self.inside.steps.items c.args.what.now.clock.0 c.index.result.now place c.index.ensures 0 in
    (phase_goes c.self.inside.steps.items c.self.inside.room (vec_capacity c.self.inside.journal) c.self.inside.settings.items c.self.inside.journal.items c.self.invariant space
    (record { driver = c.args.driver; clock = c.args.what.now.clock; set = c.args.what.now.set; reply = c.make-reply.result }) c.index.result.now c.make-reply.new.settings.items (vec_capacity c.push_reserved.new.self) c.push_reserved.new.self.items
    at c.make-reply.ensures.settings c.make-reply.ensures.reply c.make-reply.ensures.below c.push_reserved.ensures.capacity c.push_reserved.ensures.items).legal_
