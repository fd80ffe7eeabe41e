-- Laws on plans: the chain that was climbed, what comes out of it, and its walk.
use Rattle.std.proofs.Common.{◌≡◌, ℕ, suc, ◌+◌, ◌-◌, ◌<◌, ◌≤◌, Bool, true, false, ◌&&◌, ◌||◌, cond, List, [], ◌∷◌, map, Option, Some, None, refl, sym, ap, subst, ◌∙◌, inl, inr, arith, length, get_or, nat_le, nat_eq, drop}
use Rattle.std.specs.Prelude.{IfSome, option_and_then, slice_index, slice_set}
use Rattle.std.specs.List.{All, AllByRecursion, list_all}
use Rattle.std.specs.Option.{option_map_or}
use Rattle.std.proofs.lemmas.Bool.{cases_Bool}
use Rattle.std.proofs.lemmas.List.{drop-set}
use Rattle.clk_base.specs.Description.{Description, kind_of}
use Rattle.clk_base.specs.Levels.{depth}
use Rattle.clk_base.specs.Valid.{IsValid}
use Rattle.clk_base.proofs.Valid.{lines_end}
use Rattle.reg_bank.specs.Registers.{Registers}
use Rattle.clk_model.specs.declared.row.ClockRow.{ClockRow}
use Rattle.clk_model.specs.Lists.{is_in}
use Rattle.clk_model.specs.State as state
use Rattle.clk_model.specs.State.{registered, link_in}
use Rattle.clk_model.specs.Rate.{rate_over, rate}
use Rattle.clk_model.specs.Round.{Wiring, View, rate_in}
use Rattle.clk_model.specs.Chain.{outcome, chain_within, chain, keeps_boundaries}
use Rattle.clk_model.specs.Walk.{kids_after, top_of, below_within, walk}
use Rattle.clk_model.specs.Laws.Plans.{clocks_in}
use Rattle.clk_model.proofs.Members.{same_from_test}
use Rattle.clk_model.proofs.RateLaws.{over_same, rates_are_over_links}
use Rattle.clk_model.proofs.WalkLaws.{kids_are, links_after}
use Rattle.clk_tree.specs.declared.chain.ChainStep.{ChainStep}
use Rattle.clk_tree.specs.Plans.{ClockRate, chain_of, step_of}
use Rattle.clk_tree.specs.TreeState.{TreeState, IsTree}
use Rattle.rate_planner.specs.Chains.{IsThere, AllThere}
use Rattle.rate_planner.specs.Kept.{KeepsRates, wired, Always, Told}
use Rattle.rate_planner.specs.Outcomes.{out_rate, out_rates, first_or, rates_within}
use Rattle.rate_planner.specs.Walks.{at_rate, AreWalked, Walks, kid_rate, walked_rates}
use Rattle.clk_model.proofs.PlanLaws.{Climbs, climbs_within}
use Rattle.rate_planner.proofs.WholeOutcome.{IsChain, chain_differs, chain_planned, outside_chain, rates_out}
use Rattle.rate_planner.proofs.ChainSteps.{chain_there}
use Rattle.rate_planner.proofs.ListSteps.{told_both, steps_left, length-chain}
use Rattle.clk_model.proofs.GateRateLaws.{scales_is_field}
use Rattle.clk_model.proofs.StateLaws.{registered_lt}

-- ---- the rates that come out, one by one

pub outcome_step : (told : Option Registers) (defs : Description) (t : TreeState) (steps : List ChainStep) (rates : List ℕ) (count done place : ℕ) (d : ChainStep) (v above : ℕ)
    → done < count → count ≡ length steps → length rates ≡ length steps → place ≡ count - 1 - done
    → Always defs t (λ w. above ≡ first_or (drop (place + 1) rates) (option_map_or (rate_in w) (step_of (get_or steps place d)).parent 0))
    → IfSome told (λ regs. v ≡ out_rate (wired defs regs t) (step_of (get_or steps place d)) above)
    → Told told defs t (λ w. drop (count - done) rates ≡ out_rates w (drop (count - done) (chain_of steps)))
    → Told told defs t (λ w. drop (count - (done + 1)) (slice_set rates place v) ≡ out_rates w (drop (count - (done + 1)) (chain_of steps)))
outcome_step told defs t steps rates count done place d v above less counted sizes at above_is out left =
    told_both told (λ regs. v ≡ out_rate (wired defs regs t) (step_of (get_or steps place d)) above)
    (λ regs. KeepsRates defs regs t → drop (count - done) rates ≡ out_rates (wired defs regs t) (drop (count - done) (chain_of steps)))
    (λ regs. KeepsRates defs regs t → drop (count - (done + 1)) (slice_set rates place v) ≡ out_rates (wired defs regs t) (drop (count - (done + 1)) (chain_of steps)))
    (λ regs v_is was kept.
    let w : Wiring = wired defs regs t in
    let k : state.ChainStep = step_of (get_or steps place d) in
    let from : count - done ≡ place + 1 = omega arith in
    let to : count - (done + 1) ≡ place = omega arith in
    let rest : drop (place + 1) rates ≡ out_rates w (drop (place + 1) (chain_of steps)) =
    ap (λ n. drop n rates) (sym from) ∙ was kept ∙ ap (λ n. out_rates w (drop n (chain_of steps))) from in
    ap (λ n. drop n (slice_set rates place v)) to
    ∙ drop-set rates place v (omega arith)
    ∙ ap (λ (r : ℕ). r ∷ drop (place + 1) rates)
    (v_is ∙ ap (out_rate w k) (above_is regs kept ∙ ap (λ (rs : List ℕ). first_or rs (option_map_or (rate_in w) k.parent 0)) rest))
    ∙ ap (λ (rs : List ℕ). out_rate w k (first_or (out_rates w (drop (place + 1) (chain_of steps))) (option_map_or (rate_in w) k.parent 0)) ∷ rs) rest
    ∙ sym (ap (λ n. out_rates w (drop n (chain_of steps))) to ∙ ap (out_rates w) (steps_left steps place d (omega arith)))) out left

-- rates that are the same have the same first
pub first_same : (rs rs' : List ℕ) (place r : ℕ) → rs ≡ rs' → first_or (drop place rs) r ≡ first_or (drop place rs') r
first_same rs rs' place r same = ap (λ (xs : List ℕ). first_or (drop place xs) r) same

-- ---- the chain

steps_within : (defs : Description) (t : TreeState) (steps : List ChainStep) → length t.clocks ≡ length defs → All (IsThere t.clocks) steps → AllByRecursion (λ k. k.clock < length defs) (chain_of steps)
steps_within defs t [] rows each = tt
steps_within defs t (s ∷ steps) rows each = (
  let here = (each 0 s (omega arith)).clock in let below : s.clock.0 < length t.clocks = registered_lt t.clocks s.clock.0 here in omega arith,
  steps_within defs t steps rows (λ i d less. each (suc i) d (omega arith)),
)

-- a chain that was climbed over a tree
pub chain_given : (words : ℕ) (defs : Description) (regs : Registers) (t : TreeState) (view : View) (c x : ℕ) (steps : List ChainStep) → IsValid words defs → words ≤ length regs
    → IsTree defs t.clocks t.order t.rates → All (IsThere t.clocks) steps → Some (chain_of steps) ≡ chain_within depth (wired defs regs t) view c x → IsChain words t.order (wired defs regs t) (chain_of steps)
chain_given words defs regs t view c x steps valid fits tree there is =
    let up : Climbs (wired defs regs t) c (chain_of steps) =
    subst (λ (o : Option (List state.ChainStep)). IfSome o (Climbs (wired defs regs t) c)) (sym is) (climbs_within depth (wired defs regs t) view c x tree.lines tree.possible) in
    record {
      ground = record { wired = record { valid = valid; rows = tree.rows; links = tree.possible }; bank = fits };
      ordered = record { once = tree.order_lists.once; linked = λ d p e. tree.order_lists.listed d ∙ tree.linked d p e };
      leads = up.leads.leads;
      parents = up.leads.parents;
      once = up.leads.once;
      within = steps_within defs t steps tree.rows there;
    }

-- ---- boundaries

within_keeps : (view : View) (f : ℕ → ℕ) (ks : List state.ChainStep)
    → rates_within view ks (map (λ k. f k.clock) ks) ≡ list_all (λ k. let r = f k.clock in nat_le (view.low k.clock) r && nat_le r (view.high k.clock)) ks
within_keeps view f [] = refl
within_keeps view f (k ∷ ks) = ap (λ (b : Bool). (nat_le (view.low k.clock) (f k.clock) && nat_le (f k.clock) (view.high k.clock)) && b) (within_keeps view f ks)

pub boundaries_are : (words : ℕ) (order : List ℕ) (w : Wiring) (view : View) (ks : List state.ChainStep) → IsChain words order w ks → rates_within view ks (out_rates w ks) ≡ keeps_boundaries w view ks
boundaries_are words order w view ks is = ap (rates_within view ks) (rates_out words order w ks is) ∙ within_keeps view (rate_in (outcome ks w)) ks

-- a chain is planned exactly where it keeps its boundaries
pub chain_bounded : (w : Wiring) (view : View) (c x : ℕ) (ks : List state.ChainStep) (t : Bool) → Some ks ≡ chain_within depth w view c x → keeps_boundaries w view ks ≡ t → cond t (Some ks) None ≡ chain w view c x
unfolding chain
chain_bounded w view c x ks t is keeps =
    sym (ap (option_and_then (λ (ls : List state.ChainStep). cond (keeps_boundaries w view ls) (Some ls) None)) (sym is) ∙ ap (λ (b : Bool). cond b (Some ks) None) keeps)

pub chain_missing : (w : Wiring) (view : View) (c x : ℕ) → None ≡ chain_within depth w view c x → None ≡ chain w view c x
unfolding chain
chain_missing w view c x is = ap (option_and_then (λ (ls : List state.ChainStep). cond (keeps_boundaries w view ls) (Some ls) None)) is

-- ---- the walk

kid_in_chain : (defs : Description) (regs : Registers) (f : ℕ → ℕ) (ks : List state.ChainStep) (d parent : ℕ) → is_in d (clocks_in ks) ≡ true → kid_rate defs regs ks (map (λ k. f k.clock) ks) d parent ≡ f d
kid_in_chain defs regs f [] d parent m = absurd cc
kid_in_chain defs regs f (k ∷ ks) d parent m = by_test (nat_eq k.clock d) refl m (kid_in_chain defs regs f ks d parent) where
  by_test : (t : Bool) → nat_eq k.clock d ≡ t → (t || is_in d (clocks_in ks)) ≡ true
      → (is_in d (clocks_in ks) ≡ true → kid_rate defs regs ks (map (λ l. f l.clock) ks) d parent ≡ f d)
      → cond t (f k.clock) (kid_rate defs regs ks (map (λ l. f l.clock) ks) d parent) ≡ f d
  by_test true same m' rest = ap f (same_from_test k.clock d same)
  by_test false other m' rest = rest m'

kid_outside : (defs : Description) (regs : Registers) (rates : List ℕ) (ks : List state.ChainStep) (d parent : ℕ) → is_in d (clocks_in ks) ≡ false → kid_rate defs regs ks rates d parent ≡ rate_over (kind_of defs d) regs parent
kid_outside defs regs rates [] d parent out = refl
kid_outside defs regs [] (k ∷ ks) d parent out = refl
kid_outside defs regs (r ∷ rates) (k ∷ ks) d parent out = by_test (nat_eq k.clock d) out (kid_outside defs regs rates ks d parent) where
  by_test : (t : Bool) → (t || is_in d (clocks_in ks)) ≡ false → (is_in d (clocks_in ks) ≡ false → kid_rate defs regs ks rates d parent ≡ rate_over (kind_of defs d) regs parent)
      → cond t r (kid_rate defs regs ks rates d parent) ≡ rate_over (kind_of defs d) regs parent
  by_test true out' rest = absurd cc
  by_test false out' rest = rest out'

-- each clock has in the outcome the rate over its parent's
pub outcome_walked : (words : ℕ) (defs : Description) (regs : Registers) (t : TreeState) (ks : List state.ChainStep) → IsChain words t.order (wired defs regs t) ks
    → AreWalked defs regs t ks (out_rates (wired defs regs t) ks) (rate_in (outcome ks (wired defs regs t)))
outcome_walked words defs regs t ks is p d m =
    let w : Wiring = wired defs regs t in
    let v : Wiring = outcome ks w in
    let plan = chain_planned words t.order w ks is in
    let differs = chain_differs words t.order w ks is in
    let link = (kids_are words t.order w ks v plan).parent d p m in
    let over : rate_in v d ≡ rate_over (kind_of defs d) v.regs (rate_in v p) =
    ap (λ (ds : Description). rate ds v.regs v.clocks d) differs.defs
    ∙ rates_are_over_links defs v.regs v.clocks (lines_end words defs is.ground.wired.valid) (links_after words t.order w ks v plan) d
    ∙ ap (λ (ds : Description). rate_over (kind_of defs d) v.regs (option_map_or (rate ds v.regs v.clocks) (link_in v.clocks d) 0)) (sym differs.defs)
    ∙ ap (λ (o : Option ℕ). rate_over (kind_of defs d) v.regs (option_map_or (rate_in v) o 0)) link in
    sym (ap (λ (rs : List ℕ). kid_rate defs regs ks rs d (rate_in v p)) (rates_out words t.order w ks is)
    ∙ elim (cases_Bool (is_in d (clocks_in ks))) [
      | inl there ↦ kid_in_chain defs regs (rate_in v) ks d (rate_in v p) there
      | inr out ↦
          kid_outside defs regs (map (λ k. rate_in v k.clock) ks) ks d (rate_in v p) out
          ∙ sym (over ∙ over_same (kind_of defs d) regs v.regs (λ f e. differs.fields f (outside_chain words defs d f ks is.ground.wired.valid (scales_is_field (kind_of defs d) f e) out)) (rate_in v p))
    ])

last_of : (f : ℕ → ℕ) (ks : List state.ChainStep) → 0 < length ks → f (top_of ks) ≡ slice_index (map (λ k. f k.clock) ks) (length (map (λ k. f k.clock) ks) - 1)
last_of f [] some = absurd (omega arith)
last_of f (k ∷ []) some = refl
last_of f (k ∷ l ∷ ks) some =
    let less : suc (suc (length (map (λ m. f m.clock) ks))) - 1 ≡ suc (suc (length (map (λ m. f m.clock) ks)) - 1) = omega arith in
    last_of f (l ∷ ks) (omega arith) ∙ sym (ap (slice_index (f k.clock ∷ f l.clock ∷ map (λ m. f m.clock) ks)) less)

-- the top has the last of the rates
pub top_rate : (words : ℕ) (order : List ℕ) (w : Wiring) (ks : List state.ChainStep) → IsChain words order w ks → 0 < length ks
    → rate_in (outcome ks w) (top_of ks) ≡ slice_index (out_rates w ks) (length (out_rates w ks) - 1)
top_rate words order w ks is some =
    last_of (rate_in (outcome ks w)) ks some ∙ sym (ap (λ (rs : List ℕ). slice_index rs (length rs - 1)) (rates_out words order w ks is))

-- so what a walk adds are the rates of the outcome
pub walked_whole : (words : ℕ) (defs : Description) (regs : Registers) (t : TreeState) (ks : List state.ChainStep) (rates : List ℕ) (new : List ClockRate) → IsChain words t.order (wired defs regs t) ks → 0 < length ks
    → rates ≡ out_rates (wired defs regs t) ks
    → ((rated : ℕ → ℕ) → AreWalked defs regs t ks rates rated → rated (top_of ks) ≡ slice_index rates (length rates - 1)
    → new ≡ map (at_rate rated) (below_within (kids_after t.order t.clocks ks) depth (top_of ks)))
    → new ≡ walked_rates t.order (wired defs regs t) ks
unfolding walk
walked_whole words defs regs t ks rates new is some out walks =
    walks (rate_in (outcome ks (wired defs regs t)))
    (subst (λ (rs : List ℕ). AreWalked defs regs t ks rs (rate_in (outcome ks (wired defs regs t)))) (sym out) (outcome_walked words defs regs t ks is))
    (top_rate words t.order (wired defs regs t) ks is some ∙ ap (λ (rs : List ℕ). slice_index rs (length rs - 1)) (sym out))

-- ---- plans where the bank tells its words

bounded_steps : (told : Option Registers) (size : ℕ) (t : TreeState) (view : View) (steps : List ChainStep) (rates : List ℕ) (keeps : Bool) → IsValid size t.defs
    → IfSome told (λ regs. length regs ≡ size) → IsTree t.defs t.clocks t.order t.rates → All (IsThere t.clocks) steps → keeps ≡ rates_within view (chain_of steps) rates
    → Told told t.defs t (λ w. rates ≡ out_rates w (chain_of steps))
    → Told told t.defs t (λ w. (c x : ℕ) → Some (chain_of steps) ≡ chain_within depth w view c x → cond keeps (Some (chain_of steps)) None ≡ chain w view c x)
bounded_steps told size t view steps rates keeps valid sized tree there is out =
    told_both told (λ regs. length regs ≡ size) (λ regs. KeepsRates t.defs regs t → rates ≡ out_rates (wired t.defs regs t) (chain_of steps))
    (λ regs. KeepsRates t.defs regs t → (c x : ℕ) → Some (chain_of steps) ≡ chain_within depth (wired t.defs regs t) view c x → cond keeps (Some (chain_of steps)) None ≡ chain (wired t.defs regs t) view c x)
    (λ regs sized_ out_ kept c x climbed.
    let ground = chain_given size t.defs regs t view c x steps valid (omega arith) tree there climbed in
    chain_bounded (wired t.defs regs t) view c x (chain_of steps) keeps climbed
    (sym (boundaries_are size t.order (wired t.defs regs t) view (chain_of steps) ground) ∙ ap (rates_within view (chain_of steps)) (sym (out_ kept)) ∙ sym is)) sized out

-- a chain that was climbed is planned exactly where its rates keep the boundaries
pub bounded_chain : (told : Option Registers) (size : ℕ) (t : TreeState) (view : View) (steps : List ChainStep) (ks : List state.ChainStep) (rates : List ℕ) (keeps : Bool) → IsValid size t.defs
    → IfSome told (λ regs. length regs ≡ size) → IsTree t.defs t.clocks t.order t.rates → chain_of steps ≡ ks → AllThere t.clocks ks → keeps ≡ rates_within view (chain_of steps) rates
    → Told told t.defs t (λ w. rates ≡ out_rates w (chain_of steps))
    → Told told t.defs t (λ w. (c x : ℕ) → Some ks ≡ chain_within depth w view c x → cond keeps (Some ks) None ≡ chain w view c x)
bounded_chain told size t view steps ks rates keeps valid sized tree same there is out =
    subst (λ (ls : List state.ChainStep). Told told t.defs t (λ w. (c x : ℕ) → Some ls ≡ chain_within depth w view c x → cond keeps (Some ls) None ≡ chain w view c x)) same
    (bounded_steps told size t view steps rates keeps valid sized tree (chain_there t.clocks steps ks same there) is out)

walked_steps : (told : Option Registers) (size : ℕ) (t : TreeState) (view : View) (steps : List ChainStep) (rates : List ℕ) (new : List ClockRate) → IsValid size t.defs
    → IfSome told (λ regs. length regs ≡ size) → IsTree t.defs t.clocks t.order t.rates → All (IsThere t.clocks) steps → 0 < length steps
    → Told told t.defs t (λ w. rates ≡ out_rates w (chain_of steps))
    → Walks told t.defs t (chain_of steps) rates (top_of (chain_of steps)) (slice_index rates (length rates - 1)) [] new (below_within (kids_after t.order t.clocks (chain_of steps)) depth (top_of (chain_of steps)))
    → Told told t.defs t (λ w. (c x : ℕ) → Some (chain_of steps) ≡ chain_within depth w view c x → new ≡ walked_rates t.order w (chain_of steps))
walked_steps told size t view steps rates new valid sized tree there some out walks =
    told_both told (λ regs. length regs ≡ size) (λ regs. (KeepsRates t.defs regs t → rates ≡ out_rates (wired t.defs regs t) (chain_of steps))
    × ((rated : ℕ → ℕ) → AreWalked t.defs regs t (chain_of steps) rates rated → rated (top_of (chain_of steps)) ≡ slice_index rates (length rates - 1)
    → new ≡ map (at_rate rated) (below_within (kids_after t.order t.clocks (chain_of steps)) depth (top_of (chain_of steps)))))
    (λ regs. KeepsRates t.defs regs t → (c x : ℕ) → Some (chain_of steps) ≡ chain_within depth (wired t.defs regs t) view c x → new ≡ walked_rates t.order (wired t.defs regs t) (chain_of steps))
    (λ regs sized_ both kept c x climbed.
    let ground = chain_given size t.defs regs t view c x steps valid (omega arith) tree there climbed in
    walked_whole size t.defs regs t (chain_of steps) rates new ground (let size_ = length-chain steps in omega arith) (both.0 kept) both.1)
    sized (told_both told _ _ _ (λ regs o w. (o, w)) out walks)

-- and the rates of its walk are those of the outcome
pub walked_chain : (told : Option Registers) (size : ℕ) (t : TreeState) (view : View) (steps : List ChainStep) (ks : List state.ChainStep) (rates : List ℕ) (new : List ClockRate) → IsValid size t.defs
    → IfSome told (λ regs. length regs ≡ size) → IsTree t.defs t.clocks t.order t.rates → chain_of steps ≡ ks → AllThere t.clocks ks → 0 < length ks
    → Told told t.defs t (λ w. rates ≡ out_rates w (chain_of steps))
    → Walks told t.defs t (chain_of steps) rates (top_of (chain_of steps)) (slice_index rates (length rates - 1)) [] new (below_within (kids_after t.order t.clocks (chain_of steps)) depth (top_of (chain_of steps)))
    → Told told t.defs t (λ w. (c x : ℕ) → Some ks ≡ chain_within depth w view c x → new ≡ walked_rates t.order w ks)
walked_chain told size t view steps ks rates new valid sized tree same there some out walks =
    subst (λ (ls : List state.ChainStep). Told told t.defs t (λ w. (c x : ℕ) → Some ls ≡ chain_within depth w view c x → new ≡ walked_rates t.order w ls)) same
    (walked_steps told size t view steps rates new valid sized tree (chain_there t.clocks steps ks same there)
    (let size_ = length-chain steps in let sizes = ap length same in omega arith) out walks)

-- the clocks of such a chain are those of a view
pub steps_seen : (size : ℕ) (defs : Description) (clocks : List ClockRow) (order rates : List ℕ) (steps : List ChainStep) (ks : List state.ChainStep) → IsTree defs clocks order rates → length defs ≤ size
    → chain_of steps ≡ ks → AllThere clocks ks → All (λ s. s.clock.0 < size) steps
steps_seen size defs clocks order rates steps ks tree seen same there i d less =
    let here : registered clocks (get_or steps i d).clock.0 ≡ true = (chain_there clocks steps ks same there i d less).clock in
    let below : (get_or steps i d).clock.0 < length clocks = registered_lt clocks (get_or steps i d).clock.0 here in
    let rows = tree.rows in
    omega arith
