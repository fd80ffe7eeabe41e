-- The first visit alone.
use Rattle.std.proofs.Common.{false, ◌≡◌, ℕ, ◌+◌, ◌++◌, List, ◌∷◌, subst, sym, ap, ◌∙◌, drop}
use Rattle.std.specs.Prelude.{slice_index_or}
use Rattle.clk_base.specs.declared.call.Micro.{Micro}
use Rattle.clk_base.specs.declared.call.Micro.TheVariants as micro
use Rattle.clk_base.specs.declared.call.Notice.TheVariants as notice
use Rattle.clk_model.specs.Step.{is_visit, first_alone, behind_lets}
use Rattle.clk_flight.proofs.Cutting.{first_at, first_passes, next_at, next_none, from_none, drop_all, drop_drop, rest_whole}
use Rattle.clk_flight.proofs.cut.cut_rates.Goals as goal

abbrev none_there : Micro
none_there = micro.Notify (notice.Pre false) (record { 0 = 0 }) 0 0 0

pub returns-in-Some-clause-left : goal.returns-in-Some-clause-left
returns-in-Some-clause-left c =
    let steps : List Micro = c.args.steps.now in
    let k : ℕ = c.in-Some.place + 1 in
    let step : Micro = slice_index_or steps c.in-Some.place none_there in
    let found = first_at is_visit steps c.in-Some.place none_there (sym c.in-Some.is ∙ c.visit_place.ensures) in
    let lets : drop c.lets.result (drop k steps) ≡ behind_lets (drop k steps) = subst (λ (ms : List Micro). drop c.lets.result ms ≡ behind_lets ms) (rest_whole k steps) c.lets.ensures.left in
    ap (λ (ms : List Micro). ms ++ drop (k + c.lets.result) steps) (c.clock_of.ensures.visit (first_passes is_visit steps step (drop k steps) found))
    ∙ ap (λ (ms : List Micro). step ∷ ms) (drop_drop k c.lets.result steps ∙ lets) ∙ sym (ap first_alone found)

pub returns-in-Some-clause-missed : goal.returns-in-Some-clause-missed
returns-in-Some-clause-missed c =
    let steps : List Micro = c.args.steps.now in
    let step : Micro = slice_index_or steps c.in-Some.place none_there in
    c.clock_of.ensures.clock
    ∙ sym (next_at steps step (drop (c.in-Some.place + 1) steps) (first_at is_visit steps c.in-Some.place none_there (sym c.in-Some.is ∙ c.visit_place.ensures)))

pub returns-in-None-clause-left : goal.returns-in-None-clause-left
returns-in-None-clause-left c =
    rw (c.without.ensures.alone, c.without.ensures.dropped) (drop_all c.args.steps.now
    ∙ sym (ap first_alone (sym (from_none is_visit c.args.steps.now (sym c.in-None.is ∙ c.visit_place.ensures)) ∙ drop_all c.args.steps.now)))

pub returns-in-None-clause-missed : goal.returns-in-None-clause-missed
returns-in-None-clause-missed c =
    rw c.without.ensures.alone (sym (next_none c.args.steps.now (sym (from_none is_visit c.args.steps.now (sym c.in-None.is ∙ c.visit_place.ensures)) ∙ drop_all c.args.steps.now)))
