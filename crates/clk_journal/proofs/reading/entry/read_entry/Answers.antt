use Rattle.std.proofs.Common.{arith, map, string_bytes, refl}
use Rattle.clk_journal.proofs.Spelled.{reads, spells_long}
use Rattle.clk_journal.proofs.reading.entry.read_entry.Goals as goal

pub returns-in-Some : goal.returns-in-Some
returns-in-Some c =
    reads c.args.desc.now.defs (map string_bytes c.args.names.now) c.args.number c.args.line.now c.requires.apart (omega arith) c.read_words.result _ c.read_words.ensures c.in-Some.ensures.words

pub returns-in-None : goal.returns-in-None
returns-in-None c = spells_long c.args.desc.now.defs (map string_bytes c.args.names.now) c.args.number c.args.line.now c.requires.apart (omega arith) (c.in-None.ensures.more refl)
