use Rattle.std.proofs.Common.{◌≡◌, ◌∙◌, sym, ap, subst, take, List, Option, Some, None, ℕ}
use Rattle.std.proofs.lemmas.Result.{IfOk-weaker}
use Rattle.std.specs.Prelude.{IfSome, if◌then◌else◌}
use Rattle.std.specs.Option.{option_map}
use Rattle.clk_model.specs.Chain as chain
use Rattle.clk_model.specs.Round.{Wiring, round}
use Rattle.rate_planner.specs.Kept.{wired}
use Rattle.rate_planner.specs.Rounded.{rounded_of}
use Rattle.rate_planner.specs.Walks.{walked_rates}
use Rattle.rate_planner.proofs.ListSteps.{told_both}
use Rattle.core_parts.specs.Tied.{AreKept}
use Rattle.core_parts.proofs.Described.{valid_over}
use Rattle.core_parts.proofs.RoundedWords.{rounding_words}
use Rattle.core_parts.proofs.Taking.{told-take, chain-take, walked-take}
use Rattle.core_parts.proofs.planning.plan_seen.Goals as goal

pub plan_from-requires-clause-valid : goal.plan_from-requires-clause-valid
plan_from-requires-clause-valid g c =
    let tree = c.args.tree.now in
    valid_over tree.words c.args.window.now.size (g.B.Bank.size c.bank.result.now) tree.defs c.requires.tied.valid c.requires.tied.words c.bank.ensures.fits

pub returns-clause-chain : goal.returns-clause-chain
returns-clause-chain g c =
    let tree = c.args.tree.now in
    let view = g.V.View.means c.args.view.now in
    let plan = c.plan_from.new.planning.plan in
    let contents = g.B.Bank.contents c.bank.result.now in
    let words : option_map (take tree.words) contents ≡ c.args.window.now.words =
    ap (λ (n : ℕ). option_map (take n) contents) (sym c.requires.tied.words) ∙ c.bank.ensures.words in
    let kept = subst (λ (o : Option (List ℕ)). AreKept tree.defs o tree.clocks tree.rates) (sym words) c.requires.tied.kept in
    let IsFirst : Wiring → Type 0 = (λ w. option_map rounded_of c.args.first ≡ round w view c.args.clock.0 c.args.wanted) in
    IfOk-weaker c.plan_from.result _ _
    (λ found says. told_both c.args.window.now.words _ _ _ (λ regs is then_. then_ is) c.requires.rounding
    (subst (λ (o : Option (List ℕ)). IfSome o (λ regs. IsFirst (wired tree.defs regs tree) → (if found then Some plan.chain else None) ≡ chain.chain (wired tree.defs regs tree) view c.args.clock.0 c.args.wanted)) words
    (told-take tree.words contents tree.defs tree (λ w. IsFirst w → (if found then Some plan.chain else None) ≡ chain.chain w view c.args.clock.0 c.args.wanted)
    (λ w. IsFirst w → (if found then Some plan.chain else None) ≡ chain.chain w view c.args.clock.0 c.args.wanted) c.requires.tied.valid kept
    (λ regs is first. is (first ∙ rounding_words tree.words tree.defs regs tree view c.args.clock.0 c.args.wanted c.requires.tied.valid)
    ∙ sym (chain-take tree.words (wired tree.defs regs tree) view c.args.clock.0 c.args.wanted c.requires.tied.valid)) says)))
    c.plan_from.ensures.chain

pub returns-clause-rates : goal.returns-clause-rates
returns-clause-rates g c =
    let tree = c.args.tree.now in
    let view = g.V.View.means c.args.view.now in
    let plan = c.plan_from.new.planning.plan in
    let contents = g.B.Bank.contents c.bank.result.now in
    let words : option_map (take tree.words) contents ≡ c.args.window.now.words =
    ap (λ (n : ℕ). option_map (take n) contents) (sym c.requires.tied.words) ∙ c.bank.ensures.words in
    let kept = subst (λ (o : Option (List ℕ)). AreKept tree.defs o tree.clocks tree.rates) (sym words) c.requires.tied.kept in
    let IsFirst : Wiring → Type 0 = (λ w. option_map rounded_of c.args.first ≡ round w view c.args.clock.0 c.args.wanted) in
    IfOk-weaker c.plan_from.result _ _
    (λ found says yes. told_both c.args.window.now.words _ _ _ (λ regs is then_. then_ is) c.requires.rounding
    (subst (λ (o : Option (List ℕ)). IfSome o (λ regs. IsFirst (wired tree.defs regs tree) → plan.rates ≡ walked_rates tree.order (wired tree.defs regs tree) plan.chain)) words
    (told-take tree.words contents tree.defs tree (λ w. IsFirst w → plan.rates ≡ walked_rates tree.order w plan.chain) (λ w. IsFirst w → plan.rates ≡ walked_rates tree.order w plan.chain) c.requires.tied.valid kept
    (λ regs is first. is (first ∙ rounding_words tree.words tree.defs regs tree view c.args.clock.0 c.args.wanted c.requires.tied.valid)
    ∙ sym (walked-take tree.words tree.order (wired tree.defs regs tree) plan.chain c.requires.tied.valid)) (says yes))))
    c.plan_from.ensures.rates
