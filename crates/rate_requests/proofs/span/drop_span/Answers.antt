use Rattle.std.proofs.Common.{rules, ap, ◌∙◌, sym, arith, set, not}
use Rattle.std.specs.Prelude.{filter}
use Rattle.std.proofs.lemmas.Fn.{filter_same}
use Rattle.rate_requests.specs.Spans.{lists, has_number}
use Rattle.rate_requests.proofs.Spanned.{list_read, list_written, room_written}
use Rattle.rate_requests.proofs.span.drop_span.Goals as goal

pub returns-then-clock-len-clause-left : goal.returns-then-clock-len-clause-left
returns-then-clock-len-clause-left c =
    let vs = c.args.spans.now.items in
    let len = c.args.spans.now.ok.0 in
    list_written vs c.args.clock.0 c.retain.new.self
    ∙ ap (set (lists vs) c.args.clock.0)
    (filter_same _ (λ s. not (has_number c.args.number s)) _ (λ x b f' k. search rules) _ _ c.retain.ensures.filtered
    ∙ ap (filter (λ s. not (has_number c.args.number s))) (sym (list_read vs c.args.clock.0 c.index_mut.result.now (omega arith) c.index_mut.ensures.value)))

pub returns-then-clock-len-clause-keeps : goal.returns-then-clock-len-clause-keeps
returns-then-clock-len-clause-keeps c =
    let len = c.args.spans.now.ok.0 in
    let same = c.retain.ensures.capacity in
    room_written c.args.spans.now.items c.args.clock.0 c.index_mut.result.now c.retain.new.self (omega arith) c.index_mut.ensures.value (omega arith) c.retain.ensures.bound
