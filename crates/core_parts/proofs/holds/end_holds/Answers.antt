use Rattle.std.proofs.Common.{◌≡◌, ◌∙◌, ap, arith, length, List, Option}
use Rattle.clk_base.specs.declared.clock.ClockId.{ClockId}
use Rattle.counts_core.specs.Counted.{CountState}
use Rattle.core_parts.specs.Holds.{own_of}
use Rattle.core_parts.proofs.HoldKinds.{own_itself, own_lies, own_only, own_written, links_stay}
use Rattle.core_parts.proofs.HoldsEnding.{ends_none, ends_step}
use Rattle.core_parts.proofs.holds.end_holds.Goals as goal

pub loop-kind-init : goal.loop-kind-init
loop-kind-init c = record {
  counts = own_itself c.args.kind c.args.counts.now;
  stands = c.requires.stands;
  ends = ends_none c.args.clock.0 (own_of c.args.kind c.args.counts.now) c.args.held.now;
}

pub loop-kind-preserved : goal.loop-kind-preserved
loop-kind-preserved c =
    let kind = c.args.kind in
    let inv = c.loop-kind.invariant in
    let links : c.loop-kind.counts.links ≡ c.args.counts.now.links =
    ap (λ (k : CountState). k.links) inv.counts ∙ links_stay kind c.args.counts.now (own_of kind c.loop-kind.counts) in
    let many : length c.loop-kind.counts.links ≡ length c.args.counts.now.links = ap (λ (ls : List (Option ClockId)). length ls) links in
    let less : own_of kind c.drop_hold.new.counts ≡ _ = ap (own_of kind) c.drop_hold.ensures.holders ∙ own_written kind c.loop-kind.counts _ in
    let place = c.requires.place in
    let size = c.requires.size in
    let lies = own_lies kind c.loop-kind.counts inv.stands in
    let three = inv.ends.length_ in
    record {
      counts = own_only kind c.args.counts.now c.loop-kind.counts c.drop_hold.new.counts _ inv.counts c.drop_hold.ensures.holders;
      stands = c.drop_hold.ensures.stands;
      ends = ends_step c.args.clock.0 (own_of kind c.args.counts.now) (own_of kind c.loop-kind.counts) (own_of kind c.drop_hold.new.counts) c.args.held.now c.loop-kind.held c.drop_one.new.self inv.ends
          less c.drop_one.ensures (omega arith) (omega arith) (c.requires.owned c.args.clock.0)
          (let times = c.times.ensures in let some = c.loop-kind-test.true in omega arith);
    }
