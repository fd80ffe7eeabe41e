-- Laws on the steps of a script that are added one by one.
use Rattle.std.proofs.Common.{◌≡◌, ℕ, ◌+◌, ◌≤◌, min, ◌++◌, ◌||◌, ◌&&◌, not, Bool, true, false, cond, List, [], ◌∷◌, Option, Some, refl, sym, ap, ◌∙◌, arith, length, drop, append_assoc, append-nil, nat_eq}
use Rattle.std.specs.Prelude.{◌==◌, filter, flat_map, slice_get, sum_by}
use Rattle.std.specs.List.{list_any, position_or_len}
use Rattle.std.specs.Option.{option_map_or}
use Rattle.std.proofs.lemmas.List.Folds.{list_any-append}
use Rattle.std.proofs.lemmas.List.Recursion.{is_position_or_len}
use Rattle.std.proofs.lemmas.List.Sums.{sum_by-cons}
use Rattle.clk_base.specs.declared.call.Micro.{Micro}
use Rattle.clk_base.specs.declared.call.Notice.TheVariants as notice
use Rattle.clk_base.specs.declared.clock.ClockId.{ClockId}
use Rattle.clk_base.specs.Description.{Description}
use Rattle.clk_base.specs.Places.{places}
use Rattle.clk_model.specs.declared.row.ClockRow.{ClockRow}
use Rattle.clk_model.specs.Chain.{moves}
use Rattle.clk_model.specs.Notices.{is_veto, vetoes}
use Rattle.clk_model.specs.Script.{move, move_of, visit_of}
use Rattle.clk_model.specs.State as state
use Rattle.clk_tree.specs.declared.chain.ChainStep.{ChainStep}
use Rattle.clk_tree.specs.declared.walk_rates.WalkRate.{WalkRate}
use Rattle.clk_tree.specs.Plans.{ClockRate, chain_of, rates_of, step_of}
use Rattle.notifiers.specs.declared.notifier.Notifier.{Notifier}
use Rattle.change_walk.specs.declared.changes.Changed.{Changed}
use Rattle.change_walk.specs.declared.changes.Passed.{Passed}
use Rattle.change_walk.specs.Changes.{back_to, changed_along, changes_below, parent_after}
use Rattle.change_walk.specs.Steps.{visits}
use Rattle.change_walk.specs.Tellings.{notify, tell_before}
use Rattle.change_walk.proofs.Rests.{rest_at, rest_of}
use Rattle.clk_tree.proofs.Along.{none_left}

-- ---- parents after the plan

-- a step of another clock is passed over
pub after_passed : (clocks : List ClockRow) (chain : List ChainStep) (k : ℕ) (step : ChainStep) (c : ℕ) (whole : Option ℕ) → slice_get chain k ≡ Some step → nat_eq step.clock.0 c ≡ false
    → parent_after clocks (drop k (chain_of chain)) c ≡ whole → parent_after clocks (drop (k + 1) (chain_of chain)) c ≡ whole
after_passed clocks chain k step c whole at other all =
    ap (λ (t : Bool). cond t (step_of step).parent (parent_after clocks (drop (k + 1) (chain_of chain)) c)) (sym other)
    ∙ ap (λ (ks : List state.ChainStep). parent_after clocks ks c) (sym (rest_of step_of chain k step at))
    ∙ all

-- a step of the clock has its parent
pub after_found : (clocks : List ClockRow) (chain : List ChainStep) (k : ℕ) (step : ChainStep) (c : ℕ) (whole : Option ℕ) → slice_get chain k ≡ Some step → nat_eq step.clock.0 c ≡ true
    → parent_after clocks (drop k (chain_of chain)) c ≡ whole → (step_of step).parent ≡ whole
after_found clocks chain k step c whole at same all =
    ap (λ (t : Bool). cond t (step_of step).parent (parent_after clocks (drop (k + 1) (chain_of chain)) c)) (sym same)
    ∙ ap (λ (ks : List state.ChainStep). parent_after clocks ks c) (sym (rest_of step_of chain k step at))
    ∙ all

-- ---- changed clocks

rate_of : WalkRate → ClockRate
rate_of r = record { clock = r.clock.0; rate = r.rate }

-- one clock of a walk is gone through
pub changed_on : (up : ℕ → Option ℕ) (before : ℕ → ℕ) (rates : List WalkRate) (k : ℕ) (r : WalkRate) (passed above : List Passed) (here : Bool) (old new whole : List Changed)
    → slice_get rates k ≡ Some r → above ≡ back_to (up r.clock.0) passed → here ≡ (changes_below above && not (r.rate == before r.clock.0))
    → new ≡ old ++ cond here (record { clock = r.clock; before = before r.clock.0; after = r.rate } ∷ []) []
    → old ++ changed_along up before passed (drop k (rates_of rates)) ≡ whole
    → new ++ changed_along up before (record { clock = r.clock; changes = here } ∷ above) (drop (k + 1) (rates_of rates)) ≡ whole
changed_on up before rates k r passed above here old new whole at back is one all =
    let rest : List ClockRate = drop (k + 1) (rates_of rates) in
    let found : Changed = record { clock = r.clock; before = before r.clock.0; after = r.rate } in
    let on_ : Bool → List Passed → List Changed = λ t ps. cond t (found ∷ []) [] ++ changed_along up before (record { clock = r.clock; changes = t } ∷ ps) rest in
    ap (λ xs. xs ++ changed_along up before (record { clock = r.clock; changes = here } ∷ above) rest) one
    ∙ append_assoc old (cond here (found ∷ []) []) (changed_along up before (record { clock = r.clock; changes = here } ∷ above) rest)
    ∙ ap (λ (t : Bool). old ++ on_ t above) is
    ∙ ap (λ (ps : List Passed). old ++ on_ (changes_below ps && not (r.rate == before r.clock.0)) ps) back
    ∙ ap (λ (rs : List ClockRate). old ++ changed_along up before passed rs) (sym (rest_of (λ (x : WalkRate). record { clock = x.clock.0; rate = x.rate }) rates k r at))
    ∙ all

-- ---- notices

-- the notice to one notifier, and what comes behind it
before_step : (x : Changed) (n : Notifier) (ns : List Notifier) (v : Bool) → v ≡ vetoes n.policy x.after → tell_before x (n ∷ ns) ≡ notify (notice.Pre v) x n.id ∷ cond v [] (tell_before x ns)
before_step x n ns v is = ap (λ (t : Bool). notify (notice.Pre t) x n.id ∷ cond t [] (tell_before x ns)) (sym is)

before_left : (x : Changed) (chain : List Notifier) (k : ℕ) (n : Notifier) (v w : Bool) → slice_get chain k ≡ Some n → v ≡ vetoes n.policy x.after → v ≡ w
    → tell_before x (drop k chain) ≡ notify (notice.Pre v) x n.id ∷ cond w [] (tell_before x (drop (k + 1) chain))
before_left x chain k n v w at is same =
    ap (tell_before x) (rest_at chain k n at) ∙ before_step x n (drop (k + 1) chain) v is
    ∙ ap (λ (t : Bool). notify (notice.Pre v) x n.id ∷ cond t [] (tell_before x (drop (k + 1) chain))) same

-- one who doesn't veto is told
pub before_on : (x : Changed) (chain : List Notifier) (k : ℕ) (n : Notifier) (v : Bool) (old new whole : List Micro) → slice_get chain k ≡ Some n → v ≡ vetoes n.policy x.after → v ≡ false
    → new ≡ old ++ notify (notice.Pre v) x n.id ∷ [] → old ++ tell_before x (drop k chain) ≡ whole → new ++ tell_before x (drop (k + 1) chain) ≡ whole
before_on x chain k n v old new whole at is none one all =
    ap (λ ms. ms ++ tell_before x (drop (k + 1) chain)) one
    ∙ append_assoc old (notify (notice.Pre v) x n.id ∷ []) (tell_before x (drop (k + 1) chain))
    ∙ ap (λ ms. old ++ ms) (sym (before_left x chain k n v false at is none))
    ∙ all

-- one who vetoes is the last that is told
pub before_stops : (x : Changed) (chain : List Notifier) (k : ℕ) (n : Notifier) (v : Bool) (old new whole : List Micro) → slice_get chain k ≡ Some n → v ≡ vetoes n.policy x.after → v ≡ true
    → new ≡ old ++ notify (notice.Pre v) x n.id ∷ [] → old ++ tell_before x (drop k chain) ≡ whole → new ≡ whole
before_stops x chain k n v old new whole at is veto one all = one ∙ ap (λ ms. old ++ ms) (sym (before_left x chain k n v true at is veto)) ∙ all

pub veto_on : (x : Changed) (chain : List Notifier) (k : ℕ) (n : Notifier) (v whole : Bool) → slice_get chain k ≡ Some n → v ≡ vetoes n.policy x.after → v ≡ false
    → list_any is_veto (tell_before x (drop k chain)) ≡ whole → list_any is_veto (tell_before x (drop (k + 1) chain)) ≡ whole
veto_on x chain k n v whole at is none all =
    ap (λ (t : Bool). t || list_any is_veto (tell_before x (drop (k + 1) chain))) (sym none)
    ∙ ap (list_any is_veto) (sym (before_left x chain k n v false at is none)) ∙ all

pub veto_stops : (x : Changed) (chain : List Notifier) (k : ℕ) (n : Notifier) (v whole : Bool) → slice_get chain k ≡ Some n → v ≡ vetoes n.policy x.after → v ≡ true
    → list_any is_veto (tell_before x (drop k chain)) ≡ whole → true ≡ whole
veto_stops x chain k n v whole at is veto all =
    ap (λ (t : Bool). t || false) (sym veto) ∙ ap (list_any is_veto) (sym (before_left x chain k n v true at is veto)) ∙ all

or_assoc : (a b c : Bool) → ((a || b) || c) ≡ (a || (b || c))
or_assoc true b c = refl
or_assoc false b c = refl

-- a veto of one clock's notifiers is a veto
pub vetoed_on : {X : Type 0} (f : X → List Micro) (xs : List X) (k : ℕ) (x : X) (old new one whole : Bool) → slice_get xs k ≡ Some x → new ≡ (old || one) → one ≡ list_any is_veto (f x)
    → (old || list_any is_veto (flat_map f (drop k xs))) ≡ whole → (new || list_any is_veto (flat_map f (drop (k + 1) xs))) ≡ whole
vetoed_on f xs k x old new one whole at both is all =
    ap (λ t. t || list_any is_veto (flat_map f (drop (k + 1) xs))) (both ∙ ap (λ t. old || t) is)
    ∙ or_assoc old (list_any is_veto (f x)) (list_any is_veto (flat_map f (drop (k + 1) xs)))
    ∙ ap (λ t. old || t) (sym (ap (λ ys. list_any is_veto (flat_map f ys)) (rest_at xs k x at) ∙ list_any-append is_veto (f x) (flat_map f (drop (k + 1) xs))))
    ∙ all

-- ---- moves

first_move : {X Y : Type 0} (g : X → List Y) (t : Bool) (k : X) (kept : List X) → flat_map g (cond t (k ∷ kept) kept) ≡ flat_map g (cond t (k ∷ []) []) ++ flat_map g kept
first_move g true k kept = ap (λ ys. ys ++ flat_map g kept) (sym (append-nil (g k)))
first_move g false k kept = refl

-- the move by one step was added
pub moved_on : (defs : Description) (clocks : List ClockRow) (held : ℕ → Bool) (c : ℕ) (chain : List ChainStep) (k : ℕ) (step : ChainStep) (old new whole : List Micro) → slice_get chain k ≡ Some step
    → new ≡ old ++ move_of defs clocks held (step_of step ∷ []) c → old ++ move_of defs clocks held (drop k (chain_of chain)) c ≡ whole
    → new ++ move_of defs clocks held (drop (k + 1) (chain_of chain)) c ≡ whole
moved_on defs clocks held c chain k step old new whole at one all =
    let rest : List state.ChainStep = drop (k + 1) (chain_of chain) in
    let passes : state.ChainStep → Bool = λ l. (l.clock == c) && moves clocks l in
    let moved : state.ChainStep → List Micro = λ l. option_map_or (move defs clocks held c) l.parent [] in
    ap (λ ms. ms ++ move_of defs clocks held rest c) one
    ∙ append_assoc old (move_of defs clocks held (step_of step ∷ []) c) (move_of defs clocks held rest c)
    ∙ ap (λ ms. old ++ ms) (sym (first_move moved (passes (step_of step)) (step_of step) (filter passes rest)))
    ∙ ap (λ ks. old ++ move_of defs clocks held ks c) (sym (rest_of step_of chain k step at))
    ∙ all

-- one clock of the walk was visited
pub visited_on : (defs : Description) (clocks : List ClockRow) (prepared : ℕ → Bool) (ks : List state.ChainStep) (rates : List WalkRate) (k : ℕ) (r : WalkRate) (old mid new whole : List Micro)
    → slice_get rates k ≡ Some r → mid ≡ old ++ move_of defs clocks prepared ks r.clock.0 → new ≡ mid ++ visit_of defs clocks ks r.clock.0
    → old ++ visits defs clocks prepared ks (drop k (rates_of rates)) ≡ whole → new ++ visits defs clocks prepared ks (drop (k + 1) (rates_of rates)) ≡ whole
visited_on defs clocks prepared ks rates k r old mid new whole at first second all =
    let rest : List ClockRate = drop (k + 1) (rates_of rates) in
    let moved : List Micro = move_of defs clocks prepared ks r.clock.0 in
    let visited : List Micro = visit_of defs clocks ks r.clock.0 in
    let end : List Micro = visits defs clocks prepared ks rest in
    ap (λ ms. ms ++ end) (second ∙ ap (λ ms. ms ++ visited) first ∙ append_assoc old moved visited)
    ∙ append_assoc old (moved ++ visited) end
    ∙ ap (λ rs. old ++ visits defs clocks prepared ks rs) (sym (rest_of (λ (x : WalkRate). record { clock = x.clock.0; rate = x.rate }) rates k r at))
    ∙ all

-- ---- places and weights

-- the place in a list of clocks is that in the list of their places
pub place_among : (c : ℕ) (clocks : List ClockId) → position_or_len (λ (p : ClockId). p.0 == c) clocks ≡ position_or_len (λ q. q == c) (places clocks)
place_among c clocks = sym (is_position_or_len (λ (ps : List ClockId). position_or_len (λ q. q == c) (places ps)) (λ (p : ClockId). p.0 == c) refl (λ p ps. turned (p.0 == c) 0 (1 + position_or_len (λ q. q == c) (places ps))) clocks) where
  turned : (t : Bool) (a b : ℕ) → cond (not t) b a ≡ cond t a b
  turned true a b = refl
  turned false a b = refl

cut_sum : (a b c m : ℕ) → min (min (a + b) m + c) m ≡ min (a + (b + c)) m
cut_sum a b c m = omega arith

-- one more was weighed
pub weighed_on : {X : Type 0} (f : X → ℕ) (xs : List X) (k : ℕ) (x : X) (old new one m whole : ℕ) → slice_get xs k ≡ Some x → one ≡ f x → new ≡ min (old + one) m
    → min (old + sum_by f (drop k xs)) m ≡ whole → min (new + sum_by f (drop (k + 1) xs)) m ≡ whole
weighed_on f xs k x old new one m whole at is more all =
    ap (λ (n : ℕ). min (n + sum_by f (drop (k + 1) xs)) m) (more ∙ ap (λ (n : ℕ). min (old + n) m) is)
    ∙ cut_sum old (f x) (sum_by f (drop (k + 1) xs)) m
    ∙ ap (λ (n : ℕ). min (old + n) m) (sym (ap (sum_by f) (rest_at xs k x at) ∙ sum_by-cons f x (drop (k + 1) xs)))
    ∙ all

-- all was weighed
pub weighed_all : {X : Type 0} (f : X → ℕ) (xs : List X) (k old m whole : ℕ) → length xs ≤ k → old ≤ m → min (old + sum_by f (drop k xs)) m ≡ whole → old ≡ whole
weighed_all f xs k old m whole few small all = within old m small ∙ ap (λ ys. min (old + sum_by f ys) m) (sym (none_left xs k few)) ∙ all where
  within : (a b : ℕ) → a ≤ b → a ≡ min (a + 0) b
  within a b less = omega arith
