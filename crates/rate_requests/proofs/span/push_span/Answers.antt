-- The range comes last among those of its clock, for which there was room.
use Rattle.std.proofs.Common.{◌<◌, List, [], ◌∷◌, ◌++◌, ap, ◌∙◌, sym, arith, set, get_or}
use Rattle.rate_requests.specs.declared.span.Span.{Span}
use Rattle.rate_requests.specs.Spans.{lists, rooms}
use Rattle.rate_requests.proofs.Spanned.{list_read, list_written, room_read, room_within}
use Rattle.rate_requests.proofs.span.push_span.Goals as goal

pub index_mut-requires : goal.index_mut-requires
index_mut-requires c =
    let within = room_within c.args.spans.now.items c.args.clock.0 c.requires in
    let len = c.args.spans.now.ok.0 in
    omega arith

pub push_reserved-requires : goal.push_reserved-requires
push_reserved-requires c =
    let vs = c.args.spans.now.items in
    let within = room_within vs c.args.clock.0 c.requires in
    let read = room_read vs c.args.clock.0 c.index_mut.result.now within c.index_mut.ensures.value in
    let room : 0 < get_or (rooms vs) c.args.clock.0 0 = c.requires in
    omega arith

pub returns : goal.returns
returns c =
    let vs = c.args.spans.now.items in
    let within = room_within vs c.args.clock.0 c.requires in
    list_written vs c.args.clock.0 c.push_reserved.new.self
    ∙ ap (set (lists vs) c.args.clock.0)
    (c.push_reserved.ensures.items
    ∙ ap (λ (ss : List Span). ss ++ c.args.span ∷ []) (sym (list_read vs c.args.clock.0 c.index_mut.result.now within c.index_mut.ensures.value)))
