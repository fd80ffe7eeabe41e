use Rattle.std.proofs.Common.{◌≡◌, ◌∙◌, sym, ap, subst, take, List, Option, ℕ}
use Rattle.std.proofs.lemmas.Result.{on_ok_weaker}
use Rattle.std.specs.Prelude.{IfSome}
use Rattle.std.specs.Option.{option_map}
use Rattle.rate_planner.specs.Kept.{wired}
use Rattle.rate_planner.specs.Walks.{parent_chain, walked_rates}
use Rattle.core_parts.specs.Tied.{AreKept}
use Rattle.core_parts.proofs.Described.{valid_over}
use Rattle.core_parts.proofs.Taking.{told-take, parent_chain-take, walked-take}
use Rattle.core_parts.proofs.reparenting.plan_move.Goals as goal

pub plan_move-requires-clause-valid : goal.plan_move-requires-clause-valid
plan_move-requires-clause-valid g c =
    let tree = c.args.tree.now in
    valid_over tree.words c.args.window.now.size (g.B.Bank.size c.bank.result.now) tree.defs c.requires.tied.valid c.requires.tied.words c.bank.ensures.fits

pub returns-clause-chain : goal.returns-clause-chain
returns-clause-chain g c =
    let tree = c.args.tree.now in
    let plan = c.plan_move.new.planning.plan in
    let contents = g.B.Bank.contents c.bank.result.now in
    let words : option_map (take tree.words) contents ≡ c.args.window.now.words =
    ap (λ (n : ℕ). option_map (take n) contents) (sym c.requires.tied.words) ∙ c.bank.ensures.words in
    let kept = subst (λ (o : Option (List ℕ)). AreKept tree.defs o tree.clocks tree.rates) (sym words) c.requires.tied.kept in
    on_ok_weaker c.plan_move.result
    (λ says. subst (λ (o : Option (List ℕ)). IfSome o (λ regs. plan.chain ≡ parent_chain (wired tree.defs regs tree) c.args.clock.0 c.args.parent.0)) words
    (told-take tree.words contents tree.defs tree (λ w. plan.chain ≡ parent_chain w c.args.clock.0 c.args.parent.0) (λ w. plan.chain ≡ parent_chain w c.args.clock.0 c.args.parent.0)
    c.requires.tied.valid kept (λ regs is. is ∙ sym (parent_chain-take tree.words (wired tree.defs regs tree) c.args.clock.0 c.args.parent.0 c.requires.tied.valid)) says))
    c.plan_move.ensures.chain

pub returns-clause-rates : goal.returns-clause-rates
returns-clause-rates g c =
    let tree = c.args.tree.now in
    let plan = c.plan_move.new.planning.plan in
    let contents = g.B.Bank.contents c.bank.result.now in
    let words : option_map (take tree.words) contents ≡ c.args.window.now.words =
    ap (λ (n : ℕ). option_map (take n) contents) (sym c.requires.tied.words) ∙ c.bank.ensures.words in
    let kept = subst (λ (o : Option (List ℕ)). AreKept tree.defs o tree.clocks tree.rates) (sym words) c.requires.tied.kept in
    on_ok_weaker c.plan_move.result
    (λ says. subst (λ (o : Option (List ℕ)). IfSome o (λ regs. plan.rates ≡ walked_rates tree.order (wired tree.defs regs tree) plan.chain)) words
    (told-take tree.words contents tree.defs tree (λ w. plan.rates ≡ walked_rates tree.order w plan.chain) (λ w. plan.rates ≡ walked_rates tree.order w plan.chain)
    c.requires.tied.valid kept (λ regs is. is ∙ sym (walked-take tree.words tree.order (wired tree.defs regs tree) plan.chain c.requires.tied.valid)) says))
    c.plan_move.ensures.rates
