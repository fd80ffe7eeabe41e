use Rattle.std.proofs.Common.{◌<◌, List, [], ◌∷◌, ◌++◌, length, sym, ap, subst, ◌∙◌, rules}
use Rattle.std.specs.Vec.{vec_capacity}
use Rattle.reset_core.specs.declared.call.ResetEntry.{ResetEntry}
use Rattle.reset_core.specs.declared.call.ResetLine.{ResetLine}
use Rattle.reset_core.specs.Logs.{Log, log_of}
use Rattle.reset_core.proofs.Going.{has_room, goes_on}
use Rattle.reset_core.proofs.reset.ResetCore.call.Goals as goal

pub call-reply-requires : goal.call-reply-requires
call-reply-requires c =
    let space : length c.self.inside.journal.items < c.self.inside.room = subst (λ (l : Log). length l.journal < l.start.room) (sym c.self.view_is) c.requires in
    has_room c.self.inside.words c.self.inside.room (vec_capacity c.self.inside.journal) c.self.inside.controller c.self.inside.journal.items c.self.invariant (search rules) space

pub invariant_of-self : goal.invariant_of-self
invariant_of-self c =
    let space : length c.self.inside.journal.items < c.self.inside.room = subst (λ (l : Log). length l.journal < l.start.room) (sym c.self.view_is) c.requires in
    (goes_on c.self.inside.words c.self.inside.room (vec_capacity c.self.inside.journal) c.self.inside.controller c.self.inside.journal.items c.self.invariant (search rules) space
    c.args.driver c.args.what.now c.call-reply.result c.call-reply.new.self (vec_capacity c.push_reserved.new.self) c.push_reserved.new.self.items c.call-reply.ensures c.push_reserved.ensures.capacity c.push_reserved.ensures.items).0

pub returns-clause-entry : goal.returns-clause-entry
returns-clause-entry c =
    let space : length c.self.inside.journal.items < c.self.inside.room = subst (λ (l : Log). length l.journal < l.start.room) (sym c.self.view_is) c.requires in
    let lines = (goes_on c.self.inside.words c.self.inside.room (vec_capacity c.self.inside.journal) c.self.inside.controller c.self.inside.journal.items c.self.invariant (search rules) space
    c.args.driver c.args.what.now c.call-reply.result c.call-reply.new.self (vec_capacity c.push_reserved.new.self) c.push_reserved.new.self.items c.call-reply.ensures c.push_reserved.ensures.capacity c.push_reserved.ensures.items).1 in
    let e : ResetEntry = record { driver = c.args.driver; what = c.args.what.now; reply = c.call-reply.result } in
    ap (λ (ls : List ResetLine). log_of c.self.inside.words ls c.self.inside.room c.push_reserved.new.self.items) lines
    ∙ ap (λ (es : List ResetEntry). log_of c.self.inside.words c.self.inside.controller.state.lines c.self.inside.room es) c.push_reserved.ensures.items
    ∙ ap (λ (l : Log). let m : Log = record l { journal = l.journal ++ e ∷ [] } in m) c.self.view_is

pub returns-clause-legal : goal.returns-clause-legal
returns-clause-legal c =
    let space : length c.self.inside.journal.items < c.self.inside.room = subst (λ (l : Log). length l.journal < l.start.room) (sym c.self.view_is) c.requires in
    (goes_on c.self.inside.words c.self.inside.room (vec_capacity c.self.inside.journal) c.self.inside.controller c.self.inside.journal.items c.self.invariant (search rules) space
    c.args.driver c.args.what.now c.call-reply.result c.call-reply.new.self (vec_capacity c.push_reserved.new.self) c.push_reserved.new.self.items c.call-reply.ensures c.push_reserved.ensures.capacity c.push_reserved.ensures.items).0.legal_
