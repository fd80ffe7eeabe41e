use Rattle.std.proofs.Common.{Some, None, take, sym, ap, ◌∙◌, lit<}
use Rattle.std.proofs.Math.Seq.{take-length}
use Rattle.std.proofs.lemmas.Str.Pattern.{split_once_first}
use Rattle.dts_bindings.proofs.clocks.before_address.Goals as goal

pub returns-in-Some : goal.returns-in-Some
returns-in-Some c = (split_once_first 64 c.args.name.now (Some (c.in-Some.before, c.in-Some.field-0-1)) c.in-Some.ensures.cases (lit< tt)).1

pub returns-in-None : goal.returns-in-None
returns-in-None c =
    let past = split_once_first 64 c.args.name.now None c.in-None.ensures.cases (lit< tt) in
    sym (ap (λ n. take n c.args.name.now) past ∙ take-length c.args.name.now)
