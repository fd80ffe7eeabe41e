use Rattle.std.proofs.Common.{take, subst}
use Rattle.reset_core.specs.Logs.{Log, state_of, WritesOwnLines}
use Rattle.reset_core.specs.Standing.{at_start}
use Rattle.reset_core.specs.Sound.{IsSound}
use Rattle.reset_core.proofs.Sounds.{sound_start, sound_replay}
use Rattle.reset_core.proofs.Writing.{writes_own}
use Rattle.reset_core.proofs.reset.ResetCore.journal.Goals as goal

pub returns-clause-sound : goal.returns-clause-sound
returns-clause-sound c = λ n.
    subst (λ (l : Log). IsSound (state_of l.start (take n l.journal))) c.self.view_is
    (sound_replay (at_start c.self.inside.words c.self.inside.controller.state.lines) (take n c.self.inside.journal.items) (sound_start c.self.inside.words c.self.inside.controller.state.lines c.self.invariant.placed c.self.invariant.apart))

pub returns-clause-writes : goal.returns-clause-writes
returns-clause-writes c =
    subst (λ (l : Log). WritesOwnLines l.start l.journal) c.self.view_is
    (writes_own (record { words = c.self.inside.words; lines = c.self.inside.controller.state.lines; room = c.self.inside.room }) c.self.inside.journal.items c.self.invariant.legal_ c.self.invariant.placed c.self.invariant.apart)
