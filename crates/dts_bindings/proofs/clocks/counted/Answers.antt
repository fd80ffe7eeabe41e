use Rattle.std.proofs.Common.{Ok, arith}
use Rattle.std.specs.declared.alloc.AllocError.{AllocError}
use Rattle.std.proofs.lemmas.Iterator.{YieldsList-from_range, items_from_collect}
use Rattle.dts_bindings.proofs.clocks.counted.Goals as goal

pub returns : goal.returns
returns c = items_from_collect {E = AllocError} (Ok c.in_ok-collect.field-0) c.in_ok-collect.ensures.ran (YieldsList-from_range 0 c.in-Ok.count c.args.count (cc) (omega arith))
