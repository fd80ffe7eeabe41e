-- The bits of gates make no difference to a plan.
use Rattle.std.proofs.Common.{◌≡◌, Bool, true, Some, None, subst, cond}
use Rattle.std.proofs.lemmas.Result.{IfOk-weaker}
use Rattle.clk_model.specs.Chain.{chain}
use Rattle.rate_planner.specs.Kept.{Told, ToldButGates}
use Rattle.rate_planner.specs.Walks.{walked_rates}
use Rattle.rate_planner.proofs.Gates.{gates_chain, gates_rates, both_ok}
use Rattle.rate_planner.proofs.request.plan_resting.Goals as goal

pub returns-clause-gates : goal.returns-clause-gates
returns-clause-gates g c =
    let told = g.B.Bank.contents c.args.bank.now in
    let t = c.args.tree.now in
    let view = g.V.View.means c.args.view.now in
    let plan = c.plan_told.new.planning.plan in
    let size = g.B.Bank.size c.args.bank.now in
    let links = c.registered-there.ensures.stands.possible in
    IfOk-weaker c.plan_told.result (λ found. Told told t.defs t (λ w. cond found (Some plan.chain) None ≡ chain w view c.args.c.0 c.args.x))
    (λ found. ToldButGates told t.defs t (λ w. cond found (Some plan.chain) None ≡ chain w view c.args.c.0 c.args.x))
    (λ found is. gates_chain told size t.defs t view c.args.c.0 c.args.x c.requires.valid links (cond found (Some plan.chain) None) is) c.plan_told.ensures.chain

pub returns-clause-rates_but_gates : goal.returns-clause-rates_but_gates
returns-clause-rates_but_gates g c =
    let told = g.B.Bank.contents c.args.bank.now in
    let t = c.args.tree.now in
    let view = g.V.View.means c.args.view.now in
    let plan = c.plan_told.new.planning.plan in
    let size = g.B.Bank.size c.args.bank.now in
    let links = c.registered-there.ensures.stands.possible in
    both_ok c.plan_told.result (λ found. Told told t.defs t (λ w. cond found (Some plan.chain) None ≡ chain w view c.args.c.0 c.args.x))
    (λ found. found ≡ true → Told told t.defs t (λ w. plan.rates ≡ walked_rates t.order w plan.chain))
    (λ found. found ≡ true → ToldButGates told t.defs t (λ w. plan.rates ≡ walked_rates t.order w plan.chain))
    (λ found is rates was. gates_rates told size t.defs t view c.args.c.0 c.args.x c.requires.valid links plan.chain plan.rates
    (subst (λ (b : Bool). Told told t.defs t (λ w. cond b (Some plan.chain) None ≡ chain w view c.args.c.0 c.args.x)) was is) (rates was)) c.plan_told.ensures.chain c.plan_told.ensures.rates
