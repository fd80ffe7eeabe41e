-- Laws on a whole script: its parts are those of the definitions.
use Rattle.std.proofs.Common.{◌≡◌, ℕ, zero, suc, ◌+◌, ◌<◌, Bool, true, cond, List, [], ◌∷◌, ◌++◌, map, refl, sym, ap, subst, ◌∙◌, inl, inr, arith, length}
use Rattle.std.specs.Prelude.{flat_map, slice_index, slice_index_or}
use Rattle.std.specs.List.{AllByRecursion, list_any}
use Rattle.clk_base.specs.declared.call.Micro.{Micro}
use Rattle.clk_base.specs.declared.call.Micro.TheVariants as micro
use Rattle.clk_base.specs.declared.call.Notice.TheVariants as notice
use Rattle.clk_base.specs.Description.{Description, parents_of}
use Rattle.clk_base.specs.Valid.{IsValid}
use Rattle.clk_model.specs.declared.row.ClockRow.{ClockRow}
use Rattle.clk_model.specs.Chain.{clock_id, outcome}
use Rattle.clk_model.specs.Holders.{prepared}
use Rattle.clk_model.specs.Lists.{is_in, none_twice, count_from}
use Rattle.clk_model.specs.Notices.{Rates, notifiers_of, vetoes, until_veto, pre_list, abort_list, is_veto}
use Rattle.clk_model.specs.Round.{Wiring, wiring, rate_in}
use Rattle.clk_model.specs.Script.{move_of, planned, visit_of}
use Rattle.clk_model.specs.State.{State, NotifierRow, registered, link_in}
use Rattle.clk_model.specs.Walk.{changing, rates_in, walk}
use Rattle.clk_model.specs.Wired.{IsWired, IsOrder, LinesEnd, LinksArePossible}
use Rattle.clk_model.proofs.Members.{is_in_cases, is_in_head, is_in_tail}
use Rattle.clk_model.proofs.WalkLaws.{walks_list}
use Rattle.clk_tree.specs.declared.plan.Plan.{Plan}
use Rattle.clk_tree.specs.Plans.{AreThere, ClockRate}
use Rattle.clk_tree.specs.TreeState.{TreeState, IsTree}
use Rattle.notifiers.specs.declared.notifier.Notifier.{Notifier}
use Rattle.notifiers.specs.Chains.{row_on}
use Rattle.change_walk.specs.declared.changes.Changed.{Changed}
use Rattle.change_walk.specs.Changes.{changed_along, parent_after}
use Rattle.change_walk.specs.Given.{IsOf, IsPlanFor, all_changed, changed_in, planned_by, settles}
use Rattle.change_walk.specs.Steps.{steps_for, visits}
use Rattle.change_walk.specs.Tellings.{notifiers_at, tell_before, tell_off}
use Rattle.change_walk.proofs.Descending.{rated_at}
use Rattle.change_walk.proofs.PlanWalks.{changing_found, found_alike, plan_of}
use Rattle.clk_model.proofs.StateLaws.{registered_lt}

-- all that a script is made of: a plan for a state that a tree tells, and clocks that are there
pub record Fits (words : ℕ) (s : State) (t : TreeState) (lists : List (List Notifier)) (plan : Plan) : Type 0 where
  pub told : IsOf s t lists
  pub planned : IsPlanFor s plan
  pub stands : IsTree t.defs t.clocks t.order t.rates
  pub valid : IsValid words t.defs
  pub there : AreThere t.clocks plan.rates

-- ---- the tree

links_possible : (t : TreeState) (w : Wiring) → w.defs ≡ t.defs → w.clocks ≡ t.clocks → IsTree t.defs t.clocks t.order t.rates → LinksArePossible w.defs w.clocks
links_possible t w d c stands = λ k p link.
    subst (λ (ds : Description). is_in p (parents_of ds k) ≡ true) (sym d) (stands.possible k p (ap (λ (rows : List ClockRow). link_in rows k) (sym c) ∙ link))

wired_from : (words : ℕ) (t : TreeState) (w : Wiring) → w.defs ≡ t.defs → w.clocks ≡ t.clocks → IsTree t.defs t.clocks t.order t.rates
    → IsValid words t.defs → IsWired words w
wired_from words t w d c stands valid = record {
  valid = subst (IsValid words) (sym d) valid;
  rows = ap length c ∙ stands.rows ∙ ap length (sym d);
  links = links_possible t w d c stands;
}

pub wired : (words : ℕ) (s : State) (t : TreeState) (lists : List (List Notifier)) (plan : Plan) → Fits words s t lists plan → IsWired words (wiring s)
wired words s t lists plan fits = wired_from words t (wiring s) fits.told.defs fits.told.clocks fits.stands fits.valid

pub ordered : (words : ℕ) (s : State) (t : TreeState) (lists : List (List Notifier)) (plan : Plan) → Fits words s t lists plan → IsOrder s.order s.clocks
ordered words s t lists plan fits = record {
  once = ap none_twice fits.told.order ∙ fits.stands.order_lists.once;
  linked = λ c p link.
      ap (is_in c) fits.told.order ∙ fits.stands.order_lists.listed c
      ∙ fits.stands.linked c p (ap (λ (rows : List ClockRow). link_in rows c) (sym fits.told.clocks) ∙ link);
}

-- ---- clocks of the walk

all_in : (P : ClockRate → Type 0) (rated : ℕ → ℕ) (cs : List ℕ) → AllByRecursion P (map (rated_at rated) cs) → (c : ℕ) → is_in c cs ≡ true → P (rated_at rated c)
all_in P rated [] all c m = absurd cc
all_in P rated (x ∷ xs) all c m =
    elim (is_in_cases c x xs m) [
      | inl e ↦ subst (λ (n : ℕ). P (rated_at rated n)) e all.0
      | inr r ↦ all_in P rated xs all.1 c r
    ]

-- each clock of the walk is registered, and one of the description
pub walk_there : (words : ℕ) (s : State) (t : TreeState) (lists : List (List Notifier)) (plan : Plan) → Fits words s t lists plan
    → (c : ℕ) → is_in c (walk s.order (wiring s) plan.chain) ≡ true → c < length t.defs
walk_there words s t lists plan fits c m =
    let on_ = all_in (λ r. registered t.clocks r.clock ≡ true) (rate_in (outcome plan.chain (wiring s))) (walk s.order (wiring s) plan.chain) (subst (AreThere t.clocks) fits.planned.rates fits.there) c m in
    let less = registered_lt t.clocks c on_ in
    let rows = fits.stands.rows in
    omega arith

pub changing_there : (words : ℕ) (s : State) (t : TreeState) (lists : List (List Notifier)) (plan : Plan) → Fits words s t lists plan
    → (c : ℕ) → is_in c (changing s.order (wiring s) plan.chain) ≡ true → c < length t.defs
changing_there words s t lists plan fits c m =
    let laws = walks_list words s.order (wiring s) fits.planned.clock plan.chain (wired words s t lists plan fits) (ordered words s t lists plan fits) fits.planned.leads in
    walk_there words s t lists plan fits c ((laws.1.listed c).0 m).0

-- ---- the changing clocks

kept_all : (f g : ℕ → ℕ) (clocks : List ClockRow) (rates : List ClockRate) → ((c : ℕ) → registered clocks c ≡ true → f c ≡ g c) → AreThere clocks rates → AllByRecursion (λ r. f r.clock ≡ g r.clock) rates
kept_all f g clocks [] same there = tt
kept_all f g clocks (r ∷ rs) same there = (same r.clock there.0, kept_all f g clocks rs same there.1)

-- what is given of a tree and of a plan for its state
pub record IsGiven (s : State) (t : TreeState) (lists : List (List Notifier)) (plan : Plan) : Type 0 where
  pub told : IsOf s t lists
  pub planned : IsPlanFor s plan
  pub stands : IsTree t.defs t.clocks t.order t.rates
  pub there : AreThere t.clocks plan.rates

pub changed_are : (s : State) (t : TreeState) (lists : List (List Notifier)) (plan : Plan) → IsGiven s t lists plan
    → changed_along (parent_after t.clocks plan.chain) (slice_index t.rates) [] plan.rates ≡ all_changed s plan.chain
changed_are s t lists plan given =
    let w : Wiring = wiring s in
    found_alike (parent_after t.clocks plan.chain) (slice_index t.rates) (rate_in w) [] plan.rates (kept_all (slice_index t.rates) (rate_in w) t.clocks plan.rates given.told.kept given.there)
    ∙ ap (λ (rows : List ClockRow). changed_along (parent_after rows plan.chain) (rate_in w) [] plan.rates) (sym given.told.clocks)
    ∙ ap (λ (rs : List ClockRate). changed_along (parent_after s.clocks plan.chain) (rate_in w) [] rs) given.planned.rates
    ∙ changing_found s.order w given.planned.clock plan.chain (subst LinesEnd (sym given.told.defs) given.stands.lines)
    (links_possible t w given.told.defs given.told.clocks given.stands) (ap none_twice given.told.order ∙ given.stands.order_lists.once) given.planned.leads

-- ---- notices

-- the rate of a clock in the list of all
rates_from : (f : ℕ → ℕ) (n k i : ℕ) → i < n → slice_index (map f (count_from k n)) i ≡ f (k + i)
rates_from f zero k i less = absurd (omega arith)
rates_from f (suc n) k zero less = ap f (let same : k ≡ k + 0 = omega arith in same)
rates_from f (suc n) k (suc i) less = rates_from f n (suc k) i (omega arith) ∙ ap f (let same : suc k + i ≡ k + suc i = omega arith in same)

pub rate_at : (w : Wiring) (c : ℕ) → c < length w.defs → slice_index (rates_in w) c ≡ rate_in w c
rate_at w c less = rates_from (rate_in w) (length w.defs) 0 c less ∙ ap (rate_in w) (let same : 0 + c ≡ c = omega arith in same)

-- a clock with its rates in the lists of all
abbrev listed : Rates → ℕ → Changed
listed rates c = record { clock = clock_id c; before = slice_index rates.before c; after = slice_index rates.outcome c }

before_is : (rates : Rates) (c : ℕ) (ns : List Notifier) → tell_before (listed rates c) ns ≡ until_veto rates c (map (row_on c) ns)
before_is rates c [] = refl
before_is rates c (n ∷ ns) =
    let new : ℕ = slice_index rates.outcome c in
    ap (λ (ms : List Micro). micro.Notify (notice.Pre (vetoes n.policy new)) (clock_id c) n.id (slice_index rates.before c) new ∷ cond (vetoes n.policy new) [] ms) (before_is rates c ns)

off_is : (rates : Rates) (c : ℕ) (ns : List Notifier)
    → tell_off (listed rates c) ns ≡ map (λ n. micro.Notify notice.Abort (clock_id c) n.id (slice_index rates.before c) (slice_index rates.outcome c)) (map (row_on c) ns)
off_is rates c [] = refl
off_is rates c (n ∷ ns) = ap (λ (ms : List Micro). micro.Notify notice.Abort (clock_id c) n.id (slice_index rates.before c) (slice_index rates.outcome c) ∷ ms) (off_is rates c ns)

-- what is made of each clock, by another way
pub through : {X : Type 0} (f : X → List Micro) (h : ℕ → X) (g : ℕ → List Micro) (cs : List ℕ) → ((c : ℕ) → is_in c cs ≡ true → f (h c) ≡ g c) → flat_map f (map h cs) ≡ flat_map g cs
through f h g [] each = refl
through f h g (c ∷ cs) each = ap (λ ms. ms ++ flat_map f (map h cs)) (each c (is_in_head c cs)) ∙ ap (λ ms. g c ++ ms) (through f h g cs (λ x m. each x (is_in_tail x c cs m)))

-- the rates of a change
abbrev pub rates_of_change : State → Plan → Rates
rates_of_change s plan = record { before = rates_in (wiring s); outcome = rates_in (outcome plan.chain (wiring s)) }

in_lists : (words : ℕ) (s : State) (t : TreeState) (lists : List (List Notifier)) (plan : Plan) → Fits words s t lists plan
    → (c : ℕ) → c < length t.defs → changed_in s plan.chain c ≡ listed (rates_of_change s plan) c
in_lists words s t lists plan fits c less =
    let w : Wiring = wiring s in
    let v : Wiring = outcome plan.chain w in
    let plan_ = plan_of words s.order w fits.planned.clock plan.chain (wired words s t lists plan fits) (ordered words s t lists plan fits) fits.planned.leads in
    let first : c < length w.defs = let same : length s.defs ≡ length t.defs = ap length fits.told.defs in omega arith in
    let second : c < length v.defs = let same : length v.defs ≡ length w.defs = ap length plan_.differs.defs in omega arith in
    ap (λ (n : ℕ). record { clock = clock_id c; before = n; after = rate_in v c }) (sym (rate_at w c first))
    ∙ ap (λ (n : ℕ). record { clock = clock_id c; before = slice_index (rates_in w) c; after = n }) (sym (rate_at v c second))

pub pre_is : (words : ℕ) (s : State) (t : TreeState) (lists : List (List Notifier)) (plan : Plan) → Fits words s t lists plan
    → flat_map (λ x. tell_before x (notifiers_at lists x)) (all_changed s plan.chain)
    ≡ pre_list (rates_of_change s plan) s.notifiers (changing s.order (wiring s) plan.chain)
pre_is words s t lists plan fits =
    let rates : Rates = rates_of_change s plan in
    through (λ x. tell_before x (notifiers_at lists x)) (changed_in s plan.chain) (λ c. until_veto rates c (notifiers_of s.notifiers c)) (changing s.order (wiring s) plan.chain)
    (λ c m.
    ap (λ (x : Changed). tell_before x (slice_index_or lists c [])) (in_lists words s t lists plan fits c (changing_there words s t lists plan fits c m))
    ∙ before_is rates c (slice_index_or lists c [])
    ∙ ap (until_veto rates c) (fits.told.notifiers c))

pub abort_is : (words : ℕ) (s : State) (t : TreeState) (lists : List (List Notifier)) (plan : Plan) → Fits words s t lists plan
    → flat_map (λ x. tell_off x (notifiers_at lists x)) (all_changed s plan.chain)
    ≡ abort_list (rates_of_change s plan) s.notifiers (changing s.order (wiring s) plan.chain)
abort_is words s t lists plan fits =
    let rates : Rates = rates_of_change s plan in
    let off : ℕ → List NotifierRow → List Micro = λ c ns. map (λ n. micro.Notify notice.Abort (clock_id c) n.id (slice_index rates.before c) (slice_index rates.outcome c)) ns in
    through (λ x. tell_off x (notifiers_at lists x)) (changed_in s plan.chain) (λ c. off c (notifiers_of s.notifiers c)) (changing s.order (wiring s) plan.chain)
    (λ c m.
    ap (λ (x : Changed). tell_off x (slice_index_or lists c [])) (in_lists words s t lists plan fits c (changing_there words s t lists plan fits c m))
    ∙ off_is rates c (slice_index_or lists c [])
    ∙ ap (off c) (fits.told.notifiers c))

-- ---- visits

-- the move and the visit of one clock, given which clocks are prepared
abbrev pub steps_at : Description → List ClockRow → (ℕ → Bool) → Plan → ℕ → List Micro
steps_at defs clocks held plan c = move_of defs clocks held plan.chain c ++ visit_of defs clocks plan.chain c

visits_over : (words : ℕ) (s : State) (t : TreeState) (lists : List (List Notifier)) (plan : Plan) → Fits words s t lists plan → (held : ℕ → Bool)
    → visits t.defs t.clocks held plan.chain plan.rates ≡ flat_map (steps_at s.defs s.clocks held plan) (walk s.order (wiring s) plan.chain)
visits_over words s t lists plan fits held =
    ap (visits t.defs t.clocks held plan.chain) fits.planned.rates
    ∙ through (λ (r : ClockRate). steps_at t.defs t.clocks held plan r.clock) (rated_at (rate_in (outcome plan.chain (wiring s)))) (steps_at s.defs s.clocks held plan) (walk s.order (wiring s) plan.chain)
    (λ c m.
    ap (λ (defs : Description). steps_at defs t.clocks held plan c) (sym fits.told.defs)
    ∙ ap (λ (rows : List ClockRow). steps_at s.defs rows held plan c) (sym fits.told.clocks))

-- which clocks are prepared matters for those of the walk alone
visits_alike : (s : State) (plan : Plan) (held other : ℕ → Bool) (cs : List ℕ) → ((c : ℕ) → is_in c cs ≡ true → held c ≡ other c)
    → flat_map (steps_at s.defs s.clocks held plan) cs ≡ flat_map (steps_at s.defs s.clocks other plan) cs
visits_alike s plan held other [] same = refl
visits_alike s plan held other (c ∷ cs) same =
    ap (λ (b : Bool). steps_at s.defs s.clocks (λ x. b) plan c ++ flat_map (steps_at s.defs s.clocks held plan) cs) (same c (is_in_head c cs))
    ∙ ap (λ (ms : List Micro). steps_at s.defs s.clocks other plan c ++ ms) (visits_alike s plan held other cs (λ x m. same x (is_in_tail x c cs m)))

-- ---- the whole

-- notices, what comes behind them, and the end
abbrev whole : List Micro → List Micro → List Micro → List Micro → List Micro
whole told off on_ end = told ++ cond (list_any is_veto told) off (on_ ++ end) ++ micro.End ∷ []

-- the steps of a plan, where this tells which clocks are prepared
abbrev pub steps_over : State → (ℕ → Bool) → Plan → List Micro
steps_over s held plan =
    let rates : Rates = rates_of_change s plan in
    let cs : List ℕ = changing s.order (wiring s) plan.chain in
    let told : List Micro = pre_list rates s.notifiers cs in
    told
    ++ cond (list_any is_veto told) (abort_list rates s.notifiers cs) (flat_map (steps_at s.defs s.clocks held plan) (walk s.order (wiring s) plan.chain) ++ settles plan.set_parent plan.chain)
    ++ micro.End ∷ []

pub made_over : (words : ℕ) (s : State) (t : TreeState) (lists : List (List Notifier)) (plan : Plan) → Fits words s t lists plan → (held : ℕ → Bool)
    → steps_for t held lists plan (all_changed s plan.chain) ≡ steps_over s held plan
made_over words s t lists plan fits held =
    let cs : List ℕ = changing s.order (wiring s) plan.chain in
    let xs : List Changed = all_changed s plan.chain in
    let rates : Rates = rates_of_change s plan in
    let end : List Micro = settles plan.set_parent plan.chain in
    let pre : List Micro = pre_list rates s.notifiers cs in
    ap (λ ms. whole ms (flat_map (λ x. tell_off x (notifiers_at lists x)) xs) (visits t.defs t.clocks held plan.chain plan.rates) end) (pre_is words s t lists plan fits)
    ∙ ap (λ ms. whole pre ms (visits t.defs t.clocks held plan.chain plan.rates) end) (abort_is words s t lists plan fits)
    ∙ ap (λ ms. whole pre (abort_list rates s.notifiers cs) ms end) (visits_over words s t lists plan fits held)

-- where it tells what the state holds prepared they are those of the definitions
pub over_prepared : (s : State) (plan : Plan) → steps_over s (prepared s) plan ≡ (planned_by s plan).steps
unfolding planned
over_prepared s plan = refl

pub steps_are : (words : ℕ) (s : State) (t : TreeState) (lists : List (List Notifier)) (plan : Plan) → Fits words s t lists plan
    → (held : ℕ → Bool) → ((c : ℕ) → c < length t.defs → held c ≡ prepared s c) → steps_for t held lists plan (all_changed s plan.chain) ≡ (planned_by s plan).steps
steps_are words s t lists plan fits held same =
    let rates : Rates = rates_of_change s plan in
    let cs : List ℕ = changing s.order (wiring s) plan.chain in
    made_over words s t lists plan fits held
    ∙ ap (λ ms. whole (pre_list rates s.notifiers cs) (abort_list rates s.notifiers cs) ms (settles plan.set_parent plan.chain))
    (visits_alike s plan held (prepared s) (walk s.order (wiring s) plan.chain) (λ c m. same c (walk_there words s t lists plan fits c m)))
    ∙ over_prepared s plan

pub vetoed_is : (words : ℕ) (s : State) (t : TreeState) (lists : List (List Notifier)) (plan : Plan) → Fits words s t lists plan
    → list_any is_veto (flat_map (λ x. tell_before x (notifiers_at lists x)) (all_changed s plan.chain)) ≡ (planned_by s plan).vetoed
unfolding planned
vetoed_is words s t lists plan fits = ap (list_any is_veto) (pre_is words s t lists plan fits)
