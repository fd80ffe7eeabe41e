use Rattle.std.proofs.Common.{map, ap, sym, ◌∙◌, length, arith}
use Rattle.std.specs.Option.{option_map}
use Rattle.std.proofs.lemmas.Result.{err_from_is_err_and}
use Rattle.dts_bindings.specs.Binding.{seen_binding}
use Rattle.dts_clocks.specs.Assigned.{seen_assigned}
use Rattle.dts_clocks.specs.Consumers.{seen_consumer}
use Rattle.dts_clocks.specs.SecondPass.{entries_at, second_fault}
use Rattle.dts_clocks.proofs.Gathering.{loaded_none}
use Rattle.dts_clocks.proofs.Joins.{total-none}
use Rattle.dts_clocks.proofs.Looks.{finds, kept_none}
use Rattle.dts_clocks.proofs.Numbering.{bound_within, bound_at}
use Rattle.dts_clocks.proofs.loading.load.Goals as goal

pub loop-at-init : goal.loop-at-init
loop-at-init c =
    record {
      loaded = loaded_none c.args.chart.now _ c.new.ensures c.new-2.ensures.items (ap (map seen_consumer) c.new-3.ensures.items) (ap (map seen_assigned) c.new-4.ensures.items);
      entries = sym (total-none (entries_at c.args.chart.now));
      few = omega arith;
      kept = kept_none (second_fault c.args.chart.now);
    }

pub bounds-bindings-at : goal.bounds-bindings-at
bounds-bindings-at c = bound_within c.args.chart.now (length c.args.chart.now) c.loop-at.at c.args.bindings.now c.requires.bound (omega arith)

pub add_at-requires-clause-bound : goal.add_at-requires-clause-bound
add_at-requires-clause-bound c =
    ap (option_map seen_binding) c.index-bindings-at.is ∙ bound_at c.args.chart.now (length c.args.chart.now) c.loop-at.at c.args.bindings.now c.index-bindings-at.result c.requires.bound (omega arith)

pub returns-in_err-entries-clause-err : goal.returns-in_err-entries-clause-err
returns-in_err-entries-clause-err c =
    let p = err_from_is_err_and c.from_residual.result c.from_residual.ensures.1 in
    rw (p.1, p.2) (finds (second_fault c.args.chart.now) (length c.args.chart.now) c.loop-at.at c.in_err-entries.field-0.0 (omega arith) c.loop-at.invariant.kept c.in_err-entries.ensures.err)

pub offset_bounds-bindings-at : goal.offset_bounds-bindings-at
offset_bounds-bindings-at c =
    let low = bound_within c.args.chart.now (length c.args.chart.now) c.loop-at.at c.args.bindings.now c.requires.bound (omega arith) in
    omega arith
