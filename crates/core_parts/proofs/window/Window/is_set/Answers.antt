use Rattle.std.proofs.Common.{◌<◌}
use Rattle.core_parts.proofs.WindowLaws.{told_bit}
use Rattle.core_parts.proofs.window.Window.is_set.Goals as goal

pub returns : goal.returns
returns g c =
    let within : c.args.word < c.self.inside.size = rw (← c.self.view_is) at c.requires.word in
    rw (← c.self.view_is) (told_bit c.self.inside.size (g.B.Bank.contents c.self.inside.bank) c.args.word c.args.bit c.read_bit.result within c.read_bit.ensures)
