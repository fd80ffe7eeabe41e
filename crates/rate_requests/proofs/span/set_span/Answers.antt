use Rattle.std.proofs.Common.{ap, ◌∙◌, sym, arith, length, map, set}
use Rattle.std.proofs.lemmas.List.{with_items_is, length-map}
use Rattle.std.specs.Vec.{with_items}
use Rattle.rate_requests.specs.Spans.{lists, with_range}
use Rattle.rate_requests.proofs.Spanned.{list_read, list_written, room_written}
use Rattle.rate_requests.proofs.span.set_span.Goals as goal

pub returns-then-clock-len-clause-range : goal.returns-then-clock-len-clause-range
returns-then-clock-len-clause-range c =
    let vs = c.args.spans.now.items in
    let f = with_range c.args.number c.args.min c.args.max in
    let len = c.args.spans.now.ok.0 in
    list_written vs c.args.clock.0 (with_items c.index_mut.result.now c.set_range.new.spans)
    ∙ ap (set (lists vs) c.args.clock.0)
    (with_items_is c.index_mut.result.now c.set_range.new.spans
    (ap length c.set_range.ensures ∙ length-map c.deref_mut.result.now f ∙ c.deref_mut.ensures.len)
    ∙ c.set_range.ensures
    ∙ ap (map f) (c.deref_mut.ensures.value ∙ sym (list_read vs c.args.clock.0 c.index_mut.result.now (omega arith) c.index_mut.ensures.value)))

pub returns-then-clock-len-clause-keeps : goal.returns-then-clock-len-clause-keeps
returns-then-clock-len-clause-keeps c =
    let len = c.args.spans.now.ok.0 in
    let v = c.index_mut.result.now in
    room_written c.args.spans.now.items c.args.clock.0 v (with_items v c.set_range.new.spans) (omega arith) c.index_mut.ensures.value (omega arith) (omega arith)
