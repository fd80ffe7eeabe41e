use Rattle.std.proofs.Common.{ap, length, arith}
use Rattle.bundle_clocks.specs.Source.{text_of_lines}
use Rattle.bundle_clocks.proofs.Room.{lines_room}
use Rattle.drv_scripts.proofs.reading.read_bundle.Goals as goal

pub read_parts-requires-clause-room : goal.read_parts-requires-clause-room
read_parts-requires-clause-room c =
    let same = ap (λ ls. length (text_of_lines ls)) c.in_ok-lines.ensures.lines in
    omega (arith, lines_room c.args.bytes.now, same)
