-- The parameters of a clock of the description are in their ranges.
use Rattle.std.proofs.Common.{◌<◌, sym, ap, subst, length, arith}
use Rattle.clk_base.specs.declared.clock.ClockDef.{ClockDef}
use Rattle.clk_base.specs.declared.clock.Kind.{Kind}
use Rattle.clk_tree.specs.Readable.{CanRead}
use Rattle.clk_tree.proofs.Reading.{can_read}
use Rattle.clk_tree.proofs.kind.rate_over.Goals as goal

pub rate_by-requires : goal.rate_by-requires
rate_by-requires g c =
    let place : c.args.clock.0 < length c.args.desc.now.defs = let is = c.len.ensures.len in let lt = c.if-clock-len.true in omega arith in
    subst (λ (kind : Kind). CanRead (g.B.Bank.size c.args.bank.now) kind) (sym (ap (λ (d : ClockDef). d.kind) c.def.ensures.def))
    (can_read (g.B.Bank.size c.args.bank.now) c.args.desc.now.defs c.args.clock.0 (g.B.Bank.size c.args.bank.now) c.requires place (omega arith))
