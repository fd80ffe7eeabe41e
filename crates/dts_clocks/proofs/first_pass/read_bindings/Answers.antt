use Rattle.std.proofs.Common.{sym, ◌∙◌, ap, map, length, arith}
use Rattle.std.specs.Option.{option_map}
use Rattle.std.proofs.lemmas.List.{map_push}
use Rattle.std.proofs.lemmas.Result.{err_from_is_err_and}
use Rattle.dts_bindings.specs.Binding.{seen_binding}
use Rattle.dts_clocks.specs.Clocks.{binding_at}
use Rattle.dts_clocks.specs.FirstPass.{first_fault}
use Rattle.dts_clocks.proofs.Joins.{listed_none, listed_push}
use Rattle.dts_clocks.proofs.Looks.{names_before-none, finds, kept_more, kept_none}
use Rattle.dts_clocks.proofs.first_pass.read_bindings.Goals as goal

pub loop-at-init : goal.loop-at-init
loop-at-init c =
    record {
      found = listed_none (binding_at c.args.chart.now) _ (ap (map (option_map seen_binding)) c.new-found.ensures.items);
      taken = c.new-taken.ensures ∙ sym (names_before-none c.args.chart.now);
      kept = kept_none (first_fault c.args.chart.now);
    }

pub returns-in_err-binding-clause-err : goal.returns-in_err-binding-clause-err
returns-in_err-binding-clause-err c =
    let p = err_from_is_err_and c.from_residual.result c.from_residual.ensures.1 in
    rw (p.1, p.2) (finds (first_fault c.args.chart.now) (length c.args.chart.now) c.loop-at.at c.in_err-binding.field-0.0 (omega arith) c.loop-at.invariant.kept c.in_err-binding.ensures.err)

pub loop-at-preserved : goal.loop-at-preserved
loop-at-preserved c =
    record {
      found = listed_push (binding_at c.args.chart.now) _ _ c.loop-at.at _ c.loop-at.invariant.found c.in_ok-binding.ensures.binding (ap (map (option_map seen_binding)) c.in_ok-push.ensures.items ∙ map_push (option_map seen_binding) c.loop-at.found.items c.in_ok-binding.binding);
      taken = c.in_ok-binding.ensures.taken;
      kept = kept_more (first_fault c.args.chart.now) c.loop-at.at c.loop-at.invariant.kept c.in_ok-binding.ensures.none;
    }
