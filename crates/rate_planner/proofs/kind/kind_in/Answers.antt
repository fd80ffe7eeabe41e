-- The parameters of a clock of the description are in their ranges.
use Rattle.std.proofs.Common.{◌<◌, sym, ap, subst, length, arith}
use Rattle.clk_base.specs.declared.clock.ClockDef.{ClockDef}
use Rattle.clk_base.specs.declared.clock.Kind.{Kind}
use Rattle.clk_tree.specs.Readable.{CanRead}
use Rattle.clk_tree.proofs.Reading.{can_read}
use Rattle.rate_planner.specs.Given.{CanScale}
use Rattle.rate_planner.proofs.Scaling.{can_scale}
use Rattle.rate_planner.proofs.kind.kind_in.Goals as goal

pub returns-then-clock-len-clause-scales : goal.returns-then-clock-len-clause-scales
returns-then-clock-len-clause-scales c =
    let place : c.args.clock.0 < length c.args.desc.now.defs = let is = c.len.ensures.len in let lt = c.if-clock-len.true in omega arith in
    subst (λ (kind : Kind). CanScale kind) (sym (ap (λ (d : ClockDef). d.kind) c.def.ensures.def))
    (can_scale c.args.desc.now.words c.args.desc.now.defs c.args.clock.0 c.len.ensures.valid place)

pub returns-then-clock-len-clause-reads : goal.returns-then-clock-len-clause-reads
returns-then-clock-len-clause-reads c = λ words valid.
    let place : c.args.clock.0 < length c.args.desc.now.defs = let is = c.len.ensures.len in let lt = c.if-clock-len.true in omega arith in
    subst (λ (kind : Kind). CanRead words kind) (sym (ap (λ (d : ClockDef). d.kind) c.def.ensures.def))
    (can_read words c.args.desc.now.defs c.args.clock.0 words valid place (omega arith))
