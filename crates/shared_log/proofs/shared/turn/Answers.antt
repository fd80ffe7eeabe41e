use Rattle.std.proofs.Common.{◌∙◌, ap, subst, ◌++◌, ◌∷◌, []}
use Rattle.shared_log.proofs.Turned.{enters}
use Rattle.shared_log.proofs.shared.turn.Goals as goal

pub returns : goal.returns
returns g c =
    let laws = g.met.T.Journaled in
    let e = g.T.Journaled.entry c.args.pass.now.number c.args.what.now c.answer-reply.result in
    enters g.T.Journaled.legal g.T.Kept.by g.T.Kept.cost c.args.pass.now c.take-guard.new.pass c.give_entry.new.pass (g.T.Kept.entries c.take-guard.result.value) (g.T.Kept.entries c.answer-reply.new.self) (g.T.Kept.fixed c.take-guard.result.value) e record {
      idle = c.requires.ready.turn;
      took = c.take-guard.ensures.turn;
      continues = c.take-guard.ensures.seen;
      knows = c.take-guard.ensures.fixed;
      entry = c.answer-reply.ensures.entry ∙ ap (λ n. g.T.Kept.entries c.take-guard.result.value ++ g.T.Journaled.entry n c.args.what.now c.answer-reply.result ∷ []) c.number-number.ensures.number;
      is_legal = subst (λ f. g.T.Journaled.legal f (g.T.Kept.entries c.answer-reply.new.self)) c.answer-reply.ensures.fixed c.answer-reply.ensures.legal;
      driver = laws.of_driver c.args.pass.now.number c.args.what.now c.answer-reply.result;
      one = laws.costs_one c.args.pass.now.number c.args.what.now c.answer-reply.result;
      gave = c.give_entry.ensures.added;
      own_ = c.give_entry.ensures.mine;
      numbers = c.take-guard.ensures.numbers;
    }
