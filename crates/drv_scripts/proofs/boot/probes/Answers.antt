use Rattle.std.proofs.Common.{◌≡◌, ◌∙◌, ◌++◌, ◌+◌, Bool, false, Some, None, ap, sym, cond, arith}
use Rattle.std.specs.Option.{option_to_list}
use Rattle.std.proofs.lemmas.List.{get_or_default}
use Rattle.bundle_text.specs.Firsts.{said_from}
use Rattle.bundle_text.proofs.Rows.{said_from-next}
use Rattle.drv_scripts.specs.Spelled.{probe, probe_unless, probes_without}
use Rattle.drv_scripts.proofs.boot.probes.Goals as goal

pub loop-clock-preserved : goal.loop-clock-preserved
loop-clock-preserved c =
    let f = probe_unless c.args.late.now in
    let k = c.loop-clock.clock in
    let here : 0 + k ≡ k = omega arith in
    let within = c.loop-clock-test.true in
    let size = c.in_ok-marks.ensures.size in
    let marked = c.index.ensures ∙ get_or_default c.in_ok-marks.marks.items k _ false (omega (arith, within, size)) ∙ c.in_ok-marks.ensures.marks k within in
    c.in_ok-push_some.ensures.pushed ∙ ap (λ xs. xs ++ option_to_list c.probe_unless-probe.result) c.loop-clock.invariant
    ∙ ap (λ o. said_from f 0 k ++ option_to_list o) (c.probe_unless-probe.ensures ∙ ap (λ (b : Bool). cond b None (Some (probe k))) marked)
    ∙ sym (said_from-next f 0 k k here)

pub returns : goal.returns
unfolding probes_without
returns c =
    let whole : c.loop-clock.clock ≡ c.args.clocks = omega (arith, c.loop-clock-test.false, c.loop-clock.auto.clock-end) in
    c.loop-clock.invariant ∙ ap (said_from (probe_unless c.args.late.now) 0) whole
