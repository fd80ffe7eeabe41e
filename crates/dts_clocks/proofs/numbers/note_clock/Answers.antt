use Rattle.std.proofs.lemmas.Result.{on_ok_weaker}
use Rattle.dts_clocks.proofs.Numbering.{both_noted}
use Rattle.dts_clocks.proofs.numbers.note_clock.Goals as goal

pub returns : goal.returns
returns c = on_ok_weaker c.note-2.result (λ told s. both_noted c.args.head s c.args.clock _ _ _ (c.in_ok-note.ensures s) (told s)) c.note-2.ensures
