-- The ranges of the clock stay, and have room.
use Rattle.std.proofs.Common.{◌≡◌, ℕ, ◌<◌, List, [], ap, ◌∙◌, sym, arith, length, set, get_or}
use Rattle.std.specs.Prelude.{Vec}
use Rattle.std.specs.declared.alloc.Global.{Global}
use Rattle.std.proofs.lemmas.List.{set-get_or}
use Rattle.rate_requests.specs.declared.span.Span.{Span}
use Rattle.rate_requests.specs.Spans.{lists}
use Rattle.rate_requests.proofs.Spanned.{list_read, list_written, room_of, room_written}
use Rattle.rate_requests.proofs.span.reserve_span.Goals as goal

-- where a clock's ranges are written as they were, all are
same : (vs : List (Vec Span Global)) (k : ℕ) (v w : Vec Span Global) → k < length vs → v ≡ get_or vs k v → w.items ≡ v.items → lists (set vs k w) ≡ lists vs
same vs k v w within here is =
    list_written vs k w ∙ ap (set (lists vs) k) (is ∙ sym (list_read vs k v within here)) ∙ set-get_or (lists vs) k []

pub returns-in_err-reserve-clause-same : goal.returns-in_err-reserve-clause-same
returns-in_err-reserve-clause-same c = same c.args.spans.now.items c.args.clock.0 c.index_mut.result.now c.reserve.new.self (omega (arith, c.requires, c.args.spans.now.ok.0)) c.index_mut.ensures.value c.reserve.ensures.items

pub returns-in_err-reserve-clause-keeps : goal.returns-in_err-reserve-clause-keeps
returns-in_err-reserve-clause-keeps c =
    let len = c.reserve.ensures.len in
    room_written c.args.spans.now.items c.args.clock.0 c.index_mut.result.now c.reserve.new.self (omega (arith, c.requires, c.args.spans.now.ok.0)) c.index_mut.ensures.value c.reserve.ensures.capacity (omega arith)

pub returns : goal.returns
returns c =
    let within : c.args.clock.0 < length c.args.spans.now.items = omega (arith, c.requires, c.args.spans.now.ok.0) in
    let len = c.reserve.ensures.len in
    record {
      same = same c.args.spans.now.items c.args.clock.0 c.index_mut.result.now c.reserve.new.self within c.index_mut.ensures.value c.reserve.ensures.items;
      room = room_of c.args.spans.now.items c.args.clock.0 c.reserve.new.self within (let more = c.in_ok-reserve.ensures.ok in omega arith);
      keeps = room_written c.args.spans.now.items c.args.clock.0 c.index_mut.result.now c.reserve.new.self within c.index_mut.ensures.value c.reserve.ensures.capacity (omega arith);
    }
