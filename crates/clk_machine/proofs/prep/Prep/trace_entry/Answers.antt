use Rattle.std.proofs.Common.{◌≡◌, true, refl}
use Rattle.clk_model.specs.Tier.{is_enable_tier}
use Rattle.clk_machine.proofs.Tracing.{is_beside, no_other, traced_beside, traced_step}
use Rattle.clk_machine.proofs.prep.Prep.trace_entry.Goals as goal

pub returns-in-Step-clause-follows : goal.returns-in-Step-clause-follows
returns-in-Step-clause-follows c =
    traced_step c.args.self.now c.follow.new.self c.args.entry.now c.in-Step.field-0 c.in-Step.field-1 c.in-Step.is c.follow.ensures.follows c.follow.ensures.room c.follow.ensures.same

pub returns-in_default : goal.returns-in_default
returns-in_default c =
    let tier : is_enable_tier c.args.entry.now.event ≡ true = is_beside c.args.entry.now.event c.in_default.not-Begin c.in_default.not-Step in
    record {
      follows = traced_beside c.args.self.now c.args.entry.now tier;
      beside = λ _. refl;
      rest = λ prepares _. absurd (no_other c.args.entry.now.event tier prepares);
      same = (refl, refl);
    }
