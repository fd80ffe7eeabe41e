use Rattle.std.proofs.Common.{rules, not, nat_eq}
use Rattle.std.proofs.lemmas.Fn.{filter_same}
use Rattle.notifiers.proofs.chain.remove.Goals as goal

pub returns : goal.returns
returns c = filter_same _ (λ n. not (nat_eq n.id c.args.id)) _ (λ x b f' k. search rules) _ _ c.retain.ensures.filtered
