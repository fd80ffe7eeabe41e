-- Laws on a walk that is made clock by clock.
use Rattle.std.proofs.Common.{◌≡◌, ℕ, zero, suc, ◌+◌, ◌-◌, ◌<◌, ◌≤◌, Bool, true, false, not, ◌&&◌, ◌||◌, cond, List, [], ◌∷◌, ◌++◌, map, Option, Some, None, refl, sym, ap, subst, ◌∙◌, arith, add-one, append_assoc, append-nil, drop, take, length, get_or}
use Rattle.std.specs.Prelude.{IfSome, filter, flat_map, is_some, option_map, slice_get, slice_index}
use Rattle.clk_base.specs.Levels.{depth}
use Rattle.std.specs.List.{AllByRecursion}
use Rattle.std.proofs.Math.Bool.{and-false}
use Rattle.std.proofs.lemmas.Bool.{or_parts}
use Rattle.std.proofs.lemmas.List.{map-append}
use Rattle.std.proofs.lemmas.List.Elements.{filter-append}
use Rattle.std.proofs.lemmas.Grind.{flat_map-append}
use Rattle.clk_base.specs.declared.clock.ClockId.{ClockId}
use Rattle.clk_base.specs.Description.{Description}
use Rattle.reg_bank.specs.Registers.{Registers}
use Rattle.clk_model.specs.declared.row.ClockRow.{ClockRow}
use Rattle.clk_model.specs.Lists.{is_in, is_at}
use Rattle.clk_model.specs.Chain.{moves}
use Rattle.clk_model.specs.State as state
use Rattle.clk_model.specs.State.{registered, link_in}
use Rattle.clk_model.specs.Tree.{children}
use Rattle.clk_model.specs.Walk.{below_within, kids_after, movers_to, moves_away, top_of}
use Rattle.clk_model.proofs.Members.{or_left, or_right}
use Rattle.clk_model.proofs.OnceLaws.{is_in-append, filter_keeps, is_in-filter, length-filter-le}
use Rattle.clk_model.proofs.ChainStepLaws.{steps_that, passing_in}
use Rattle.clk_tree.specs.declared.chain.ChainStep.{ChainStep}
use Rattle.clk_tree.specs.declared.walk_rates.WalkRate.{WalkRate}
use Rattle.clk_tree.specs.Plans.{ClockRate, chain_of, rates_of, step_of}
use Rattle.clk_tree.specs.TreeState.{TreeState, IsTree}
use Rattle.clk_tree.proofs.Rows.{order-few}
use Rattle.rate_planner.specs.Walks.{at_rate, AreWalked, Walks, below_after, has_moves, kid_rate, stays}
use Rattle.rate_planner.proofs.ListSteps.{told_both, told_always, steps_left}
use Rattle.clk_model.proofs.PllLaws.{at_place}

-- ---- rates that are added

pub walks_none : (told : Option Registers) (defs : Description) (t : TreeState) (ks : List state.ChainStep) (rates : List ℕ) (c r : ℕ) (old : List ClockRate) (added : List ℕ) → added ≡ []
    → Walks told defs t ks rates c r old old added
walks_none told defs t ks rates c r old added none =
    told_always told _ (λ regs rated are is. sym (ap (λ (xs : List ℕ). old ++ map (at_rate rated) xs) none ∙ append-nil old))

pub walks_on : (told : Option Registers) (defs : Description) (t : TreeState) (ks : List state.ChainStep) (rates : List ℕ) (c r : ℕ) (old mid new : List ClockRate) (xs ys zs : List ℕ) → zs ≡ xs ++ ys
    → Walks told defs t ks rates c r old mid xs → Walks told defs t ks rates c r mid new ys → Walks told defs t ks rates c r old new zs
walks_on told defs t ks rates c r old mid new xs ys zs both first second =
    told_both told
    (λ regs. (rated : ℕ → ℕ) → AreWalked defs regs t ks rates rated → rated c ≡ r → mid ≡ old ++ map (at_rate rated) xs)
    (λ regs. (rated : ℕ → ℕ) → AreWalked defs regs t ks rates rated → rated c ≡ r → new ≡ mid ++ map (at_rate rated) ys)
    (λ regs. (rated : ℕ → ℕ) → AreWalked defs regs t ks rates rated → rated c ≡ r → new ≡ old ++ map (at_rate rated) zs)
    (λ regs p q rated are is.
    q rated are is
    ∙ ap (λ (b : List ClockRate). b ++ map (at_rate rated) ys) (p rated are is)
    ∙ append_assoc old (map (at_rate rated) xs) (map (at_rate rated) ys)
    ∙ ap (λ (b : List ClockRate). old ++ b) (sym (map-append (at_rate rated) xs ys) ∙ ap (map (at_rate rated)) (sym both))) first second

-- the clock itself is added
walks_own : (told : Option Registers) (defs : Description) (t : TreeState) (ks : List state.ChainStep) (rates : List ℕ) (c : ClockId) (r : ℕ) (old new : List ClockRate)
    → new ≡ old ++ rates_of ((let w : WalkRate = record { clock = c; rate = r } in w) ∷ []) → Walks told defs t ks rates c.0 r old new (c.0 ∷ [])
walks_own told defs t ks rates c r old new pushed =
    told_always told _ (λ regs rated are is. pushed ∙ ap (λ (n : ℕ). old ++ (let q : ClockRate = record { clock = c.0; rate = n } in q) ∷ []) (sym is))

-- ---- whether a chain moves a clock

-- the first of the steps left moves its clock, or one behind it does
moves_left : (clocks : List ClockRow) (steps : List ChainStep) (place : ℕ) (d : ChainStep) → place < length steps
    → has_moves clocks (drop place (chain_of steps)) ≡ (moves clocks (step_of (get_or steps place d)) || has_moves clocks (drop (place + 1) (chain_of steps)))
moves_left clocks steps place d less = ap (has_moves clocks) (steps_left steps place d less)

pub one_moves : (clocks : List ClockRow) (steps : List ChainStep) (place : ℕ) (d : ChainStep) (whole : Bool) → place < length steps → moves clocks (step_of (get_or steps place d)) ≡ true
    → has_moves clocks (drop place (chain_of steps)) ≡ whole → true ≡ whole
one_moves clocks steps place d whole less moved left =
    sym (moves_left clocks steps place d less ∙ ap (λ (b : Bool). b || has_moves clocks (drop (place + 1) (chain_of steps))) moved) ∙ left

pub none_moves : (clocks : List ClockRow) (steps : List ChainStep) (place : ℕ) (d : ChainStep) (whole : Bool) → place < length steps → moves clocks (step_of (get_or steps place d)) ≡ false
    → has_moves clocks (drop place (chain_of steps)) ≡ whole → has_moves clocks (drop (place + 1) (chain_of steps)) ≡ whole
none_moves clocks steps place d whole less still left =
    sym (moves_left clocks steps place d less ∙ ap (λ (b : Bool). b || has_moves clocks (drop (place + 1) (chain_of steps))) still) ∙ left

pub no_step_left : (clocks : List ClockRow) (steps : List ChainStep) (place : ℕ) (whole : Bool) → length steps ≤ place → has_moves clocks (drop place (chain_of steps)) ≡ whole → false ≡ whole
no_step_left clocks steps place whole past left = sym (ap (has_moves clocks) (all_dropped steps place past)) ∙ left where
  all_dropped : (steps : List ChainStep) (place : ℕ) → length steps ≤ place → drop place (chain_of steps) ≡ []
  all_dropped [] zero past' = refl
  all_dropped [] (suc place) past' = refl
  all_dropped (s ∷ steps) zero past' = absurd (omega arith)
  all_dropped (s ∷ steps) (suc place) past' = all_dropped steps place (omega arith)

-- ---- what is below a clock

-- within no levels there is nothing
none_below : (kids : ℕ → List ℕ) (cs : List ℕ) → flat_map (below_within kids 0) cs ≡ []
none_below kids [] = refl
none_below kids (c ∷ cs) = none_below kids cs

pub walks_no_level : (told : Option Registers) (defs : Description) (t : TreeState) (ks : List state.ChainStep) (rates : List ℕ) (levels c r : ℕ) (old : List ClockRate) → levels ≡ 0
    → Walks told defs t ks rates c r old old (below_after t.order t.clocks ks levels c)
walks_no_level told defs t ks rates levels c r old none =
    walks_none told defs t ks rates c r old _
    (ap (λ n. below_after t.order t.clocks ks n c) none ∙ none_below (kids_after t.order t.clocks ks) (kids_after t.order t.clocks ks c))

-- the children that stay, and then the clocks that move here
pub walks_below : (told : Option Registers) (defs : Description) (t : TreeState) (ks : List state.ChainStep) (rates : List ℕ) (levels c r : ℕ) (old stay move : List ClockRate)
    → Walks told defs t ks rates c r old stay (flat_map (below_within (kids_after t.order t.clocks ks) levels) (filter (stays t.clocks ks) (children t.order t.clocks c)))
    → Walks told defs t ks rates c r stay move (flat_map (below_within (kids_after t.order t.clocks ks) levels) (movers_to t.clocks ks c))
    → Walks told defs t ks rates c r old move (below_after t.order t.clocks ks levels c)
walks_below told defs t ks rates levels c r old stay move =
    walks_on told defs t ks rates c r old stay move
    (flat_map (below_within (kids_after t.order t.clocks ks) levels) (filter (stays t.clocks ks) (children t.order t.clocks c)))
    (flat_map (below_within (kids_after t.order t.clocks ks) levels) (movers_to t.clocks ks c))
    (below_after t.order t.clocks ks levels c)
    (flat_map-append (below_within (kids_after t.order t.clocks ks) levels) (filter (stays t.clocks ks) (children t.order t.clocks c)) (movers_to t.clocks ks c))

-- where no step moves its clock, no clock moves to another
no_movers : (clocks : List ClockRow) (ks : List state.ChainStep) (c : ℕ) → has_moves clocks ks ≡ false → movers_to clocks ks c ≡ []
no_movers clocks [] c still = refl
no_movers clocks (k ∷ ks) c still =
    let here : moves clocks k ≡ false = (or_parts (moves clocks k) (has_moves clocks ks) still).0 in
    let rest : has_moves clocks ks ≡ false = (or_parts (moves clocks k) (has_moves clocks ks) still).1 in
    ap (λ (b : Bool). map (λ (l : state.ChainStep). l.clock) (cond (is_at c k.parent && b) (k ∷ filter (λ l. is_at c l.parent && moves clocks l) ks) (filter (λ l. is_at c l.parent && moves clocks l) ks))) here
    ∙ ap (λ (b : Bool). map (λ (l : state.ChainStep). l.clock) (cond b (k ∷ filter (λ l. is_at c l.parent && moves clocks l) ks) (filter (λ l. is_at c l.parent && moves clocks l) ks))) (and-false (is_at c k.parent))
    ∙ no_movers clocks ks c rest

-- so there the children that stay are all
pub walks_still : (told : Option Registers) (defs : Description) (t : TreeState) (ks : List state.ChainStep) (rates : List ℕ) (levels c r : ℕ) (old stay : List ClockRate) → has_moves t.clocks ks ≡ false
    → Walks told defs t ks rates c r old stay (flat_map (below_within (kids_after t.order t.clocks ks) levels) (filter (stays t.clocks ks) (children t.order t.clocks c)))
    → Walks told defs t ks rates c r old stay (below_after t.order t.clocks ks levels c)
walks_still told defs t ks rates levels c r old stay still first =
    walks_below told defs t ks rates levels c r old stay stay first
    (walks_none told defs t ks rates c r stay _ (ap (flat_map (below_within (kids_after t.order t.clocks ks) levels)) (no_movers t.clocks ks c still)))

-- a clock without children has nothing below it where no clock moves
pub none_after : (order : List ℕ) (clocks : List ClockRow) (ks : List state.ChainStep) (c : ℕ) (o : Option ClockId) → has_moves clocks ks ≡ false
    → option_map (λ d. d.0) o ≡ slice_get (children order clocks c) 0 → is_some o ≡ false → kids_after order clocks ks c ≡ []
none_after order clocks ks c None still first none =
    ap (λ (cs : List ℕ). filter (stays clocks ks) cs ++ movers_to clocks ks c) (no_first (children order clocks c) (sym first)) ∙ no_movers clocks ks c still where
      no_first : (cs : List ℕ) → slice_get cs 0 ≡ None → cs ≡ []
      no_first [] at = refl
      no_first (d ∷ cs) at = absurd cc
none_after order clocks ks c (Some d) still first none = absurd cc

-- a clock and all below it
pub walks_whole : (told : Option Registers) (defs : Description) (t : TreeState) (ks : List state.ChainStep) (rates : List ℕ) (levels : ℕ) (c : ClockId) (r : ℕ) (old own new : List ClockRate) → 0 < levels
    → own ≡ old ++ rates_of ((let w : WalkRate = record { clock = c; rate = r } in w) ∷ [])
    → Walks told defs t ks rates c.0 r own new (below_after t.order t.clocks ks (levels - 1) c.0)
    → Walks told defs t ks rates c.0 r old new (below_within (kids_after t.order t.clocks ks) levels c.0)
walks_whole told defs t ks rates levels c r old own new some pushed below =
    walks_on told defs t ks rates c.0 r old own new (c.0 ∷ []) (below_after t.order t.clocks ks (levels - 1) c.0) (below_within (kids_after t.order t.clocks ks) levels c.0) (whole levels some)
    (walks_own told defs t ks rates c r old own pushed) below where
      whole : (n : ℕ) → 0 < n → below_within (kids_after t.order t.clocks ks) n c.0 ≡ c.0 ∷ below_after t.order t.clocks ks (n - 1) c.0
      whole zero some' = absurd (omega arith)
      whole (suc n) some' = let less : n ≡ suc n - 1 = omega arith in ap (λ m. c.0 ∷ below_after t.order t.clocks ks m c.0) less

-- and where nothing is below it
pub walks_alone : (told : Option Registers) (defs : Description) (t : TreeState) (ks : List state.ChainStep) (rates : List ℕ) (levels : ℕ) (c : ClockId) (r : ℕ) (old own : List ClockRate) → 0 < levels
    → own ≡ old ++ rates_of ((let w : WalkRate = record { clock = c; rate = r } in w) ∷ []) → kids_after t.order t.clocks ks c.0 ≡ []
    → Walks told defs t ks rates c.0 r old own (below_within (kids_after t.order t.clocks ks) levels c.0)
walks_alone told defs t ks rates levels c r old own some pushed none =
    walks_whole told defs t ks rates levels c r old own own some pushed
    (walks_none told defs t ks rates c.0 r own _ (ap (flat_map (below_within (kids_after t.order t.clocks ks) (levels - 1))) none))

-- ---- one child, one mover

-- a kid of this rate adds all that will be below it
kid_walks : (told : Option Registers) (defs : Description) (t : TreeState) (ks : List state.ChainStep) (rates : List ℕ) (levels c r d own : ℕ) (old new : List ClockRate) (added : List ℕ)
    → is_in d (kids_after t.order t.clocks ks c) ≡ true → added ≡ below_within (kids_after t.order t.clocks ks) levels d ++ []
    → IfSome told (λ regs. own ≡ kid_rate defs regs ks rates d r)
    → Walks told defs t ks rates d own old new (below_within (kids_after t.order t.clocks ks) levels d) → Walks told defs t ks rates c r old new added
kid_walks told defs t ks rates levels c r d own old new added kid all rated_ walks =
    told_both told (λ regs. own ≡ kid_rate defs regs ks rates d r)
    (λ regs. (rated : ℕ → ℕ) → AreWalked defs regs t ks rates rated → rated d ≡ own → new ≡ old ++ map (at_rate rated) (below_within (kids_after t.order t.clocks ks) levels d))
    (λ regs. (rated : ℕ → ℕ) → AreWalked defs regs t ks rates rated → rated c ≡ r → new ≡ old ++ map (at_rate rated) added)
    (λ regs own_is walk rated are is.
    walk rated are (are c d kid ∙ ap (kid_rate defs regs ks rates d) is ∙ sym own_is)
    ∙ ap (λ (xs : List ℕ). old ++ map (at_rate rated) xs) (sym (all ∙ append-nil (below_within (kids_after t.order t.clocks ks) levels d)))) rated_ walks

pub stays_walks : (told : Option Registers) (defs : Description) (t : TreeState) (ks : List state.ChainStep) (rates : List ℕ) (levels c r d own : ℕ) (old new : List ClockRate)
    → moves_away t.clocks ks d ≡ false → is_in d (children t.order t.clocks c) ≡ true
    → IfSome told (λ regs. own ≡ kid_rate defs regs ks rates d r)
    → Walks told defs t ks rates d own old new (below_within (kids_after t.order t.clocks ks) levels d)
    → Walks told defs t ks rates c r old new (flat_map (below_within (kids_after t.order t.clocks ks) levels) (filter (stays t.clocks ks) (d ∷ [])))
stays_walks told defs t ks rates levels c r d own old new still child rated_ walks =
    let on_ : stays t.clocks ks d ≡ true = ap not still in
    kid_walks told defs t ks rates levels c r d own old new _
    (is_in-append d (filter (stays t.clocks ks) (children t.order t.clocks c)) (movers_to t.clocks ks c)
    ∙ or_left (is_in d (filter (stays t.clocks ks) (children t.order t.clocks c))) (is_in d (movers_to t.clocks ks c)) (filter_keeps (stays t.clocks ks) d (children t.order t.clocks c) on_ child))
    (ap (λ (b : Bool). flat_map (below_within (kids_after t.order t.clocks ks) levels) (cond b (d ∷ []) [])) on_) rated_ walks

-- what holds of each holds of the first that is left
all_left : (P : state.ChainStep → Type 0) (ks : List state.ChainStep) (place : ℕ) (k : state.ChainStep) (rest : List state.ChainStep) → drop place ks ≡ k ∷ rest → AllByRecursion P ks → P k
all_left P [] zero k rest is each = absurd cc
all_left P [] (suc place) k rest is each = absurd cc
all_left P (l ∷ ks) zero k rest is each = let same : l ≡ k = cc in subst P same each.0
all_left P (l ∷ ks) (suc place) k rest is each = all_left P ks place k rest is each.1

one_left : (ks : List state.ChainStep) (place : ℕ) (k : state.ChainStep) (rest : List state.ChainStep) → drop place ks ≡ k ∷ rest → take 1 (drop place ks) ≡ k ∷ []
one_left ks place k rest is = ap (take 1) is

pub moves_walks : (told : Option Registers) (defs : Description) (t : TreeState) (steps : List ChainStep) (rates : List ℕ) (levels c r place own : ℕ) (dummy : ChainStep) (old new : List ClockRate)
    → place < length steps → (is_at c (step_of (get_or steps place dummy)).parent && moves t.clocks (step_of (get_or steps place dummy))) ≡ true
    → IfSome told (λ regs. own ≡ kid_rate defs regs (chain_of steps) rates (get_or steps place dummy).clock.0 r)
    → Walks told defs t (chain_of steps) rates (get_or steps place dummy).clock.0 own old new (below_within (kids_after t.order t.clocks (chain_of steps)) levels (get_or steps place dummy).clock.0)
    → Walks told defs t (chain_of steps) rates c r old new (flat_map (below_within (kids_after t.order t.clocks (chain_of steps)) levels) (movers_to t.clocks (take 1 (drop place (chain_of steps))) c))
moves_walks told defs t steps rates levels c r place own dummy old new less moved rated_ walks =
    let ks : List state.ChainStep = chain_of steps in
    let k : state.ChainStep = step_of (get_or steps place dummy) in
    let left = steps_left steps place dummy less in
    kid_walks told defs t ks rates levels c r k.clock own old new _
    (is_in-append k.clock (filter (stays t.clocks ks) (children t.order t.clocks c)) (movers_to t.clocks ks c)
    ∙ or_right (is_in k.clock (filter (stays t.clocks ks) (children t.order t.clocks c))) (is_in k.clock (movers_to t.clocks ks c))
    (all_left (λ l. (is_at c l.parent && moves t.clocks l) ≡ true → is_in l.clock (steps_that (λ l. is_at c l.parent && moves t.clocks l) ks) ≡ true) ks place k (drop (place + 1) ks) left
    (passing_in (λ l. is_at c l.parent && moves t.clocks l) ks) moved))
    (ap (λ (ls : List state.ChainStep). flat_map (below_within (kids_after t.order t.clocks ks) levels) (movers_to t.clocks ls c)) (one_left ks place k (drop (place + 1) ks) left)
    ∙ ap (λ (b : Bool). flat_map (below_within (kids_after t.order t.clocks ks) levels) (map (λ (l : state.ChainStep). l.clock) (cond b (k ∷ []) []))) moved) rated_ walks

pub moves_none : (told : Option Registers) (defs : Description) (t : TreeState) (steps : List ChainStep) (rates : List ℕ) (levels c r place : ℕ) (dummy : ChainStep) (old : List ClockRate)
    → place < length steps → (is_at c (step_of (get_or steps place dummy)).parent && moves t.clocks (step_of (get_or steps place dummy))) ≡ false
    → Walks told defs t (chain_of steps) rates c r old old (flat_map (below_within (kids_after t.order t.clocks (chain_of steps)) levels) (movers_to t.clocks (take 1 (drop place (chain_of steps))) c))
moves_none told defs t steps rates levels c r place dummy old less still =
    let ks : List state.ChainStep = chain_of steps in
    let k : state.ChainStep = step_of (get_or steps place dummy) in
    walks_none told defs t ks rates c r old _
    (ap (λ (ls : List state.ChainStep). flat_map (below_within (kids_after t.order t.clocks ks) levels) (movers_to t.clocks ls c)) (one_left ks place k (drop (place + 1) ks) (steps_left steps place dummy less))
    ∙ ap (λ (b : Bool). flat_map (below_within (kids_after t.order t.clocks ks) levels) (map (λ (l : state.ChainStep). l.clock) (cond b (k ∷ []) []))) still)

-- ---- places

take_next : (xs : List ℕ) (k x : ℕ) → slice_get xs k ≡ Some x → take (k + 1) xs ≡ take k xs ++ x ∷ []
take_next [] k x at = absurd cc
take_next (y ∷ xs) zero x at = let same : y ≡ x = cc in ap (λ (n : ℕ). n ∷ []) same
take_next (y ∷ xs) (suc k) x at =
    let next : suc k ≡ k + 1 = omega arith in
    ap (λ n. take n (y ∷ xs)) (add-one (suc k)) ∙ ap (λ n. y ∷ take n xs) next ∙ ap (λ (zs : List ℕ). y ∷ zs) (take_next xs k x at)

take_all : {X : Type 0} (xs : List X) (k : ℕ) → length xs ≤ k → take k xs ≡ xs
take_all [] zero few = refl
take_all [] (suc k) few = refl
take_all (x ∷ xs) zero few = absurd (omega arith)
take_all (x ∷ xs) (suc k) few = ap (λ ys. x ∷ ys) (take_all xs k (omega arith))

take_past : (xs : List ℕ) (k : ℕ) → slice_get xs k ≡ None → take k xs ≡ xs
take_past [] zero at = refl
take_past [] (suc k) at = refl
take_past (x ∷ xs) zero at = absurd cc
take_past (x ∷ xs) (suc k) at = ap (λ (ys : List ℕ). x ∷ ys) (take_past xs k at)

take_one_more : {X : Type 0} (xs : List X) (k : ℕ) → take (k + 1) xs ≡ take k xs ++ take 1 (drop k xs)
take_one_more [] zero = refl
take_one_more [] (suc k) = ap (λ n. take n []) (add-one (suc k))
take_one_more (x ∷ xs) zero = refl
take_one_more (x ∷ xs) (suc k) =
    let next : suc k ≡ k + 1 = omega arith in
    ap (λ n. take n (x ∷ xs)) (add-one (suc k)) ∙ ap (λ n. x ∷ take n xs) next ∙ ap (λ ys. x ∷ ys) (take_one_more xs k)

-- the children of some places and the next
pub stays_next : (f : ℕ → List ℕ) (test : ℕ → Bool) (cs : List ℕ) (k d : ℕ) → slice_get cs k ≡ Some d
    → flat_map f (filter test (take (k + 1) cs)) ≡ flat_map f (filter test (take k cs)) ++ flat_map f (filter test (d ∷ []))
stays_next f test cs k d at =
    ap (λ (xs : List ℕ). flat_map f (filter test xs)) (take_next cs k d at)
    ∙ ap (flat_map f) (filter-append test (take k cs) (d ∷ []))
    ∙ flat_map-append f (filter test (take k cs)) (filter test (d ∷ []))

pub stays_whole : (f : ℕ → List ℕ) (test : ℕ → Bool) (cs : List ℕ) (k : ℕ) → length cs ≤ k → flat_map f (filter test (take k cs)) ≡ flat_map f (filter test cs)
stays_whole f test cs k few = ap (λ (xs : List ℕ). flat_map f (filter test xs)) (take_all cs k few)

-- the movers among some steps and the next
pub movers_next : (f : ℕ → List ℕ) (clocks : List ClockRow) (ks : List state.ChainStep) (k c : ℕ)
    → flat_map f (movers_to clocks (take (k + 1) ks) c) ≡ flat_map f (movers_to clocks (take k ks) c) ++ flat_map f (movers_to clocks (take 1 (drop k ks)) c)
movers_next f clocks ks k c =
    ap (λ (ls : List state.ChainStep). flat_map f (movers_to clocks ls c)) (take_one_more ks k)
    ∙ ap (λ (ls : List state.ChainStep). flat_map f (map (λ (l : state.ChainStep). l.clock) ls)) (filter-append (λ (l : state.ChainStep). is_at c l.parent && moves clocks l) (take k ks) (take 1 (drop k ks)))
    ∙ ap (flat_map f) (map-append (λ (l : state.ChainStep). l.clock) (filter (λ l. is_at c l.parent && moves clocks l) (take k ks)) (filter (λ l. is_at c l.parent && moves clocks l) (take 1 (drop k ks))))
    ∙ flat_map-append f (movers_to clocks (take k ks) c) (movers_to clocks (take 1 (drop k ks)) c)

-- ---- children

-- a child at a place is one of the children, and is registered
pub child_listed : (defs : Description) (clocks : List ClockRow) (order rates : List ℕ) (p k d : ℕ) → IsTree defs clocks order rates → slice_get (children order clocks p) k ≡ Some d
    → (is_in d (children order clocks p) ≡ true) × (registered clocks d ≡ true)
child_listed defs clocks order rates p k d tree at =
    let m = at_place (children order clocks p) k d at in
    (m, sym (tree.order_lists.listed d) ∙ is_in-filter (λ c. is_at p (link_in clocks c)) d order m)

-- so is the child that comes
pub child_told : (defs : Description) (clocks : List ClockRow) (order rates : List ℕ) (p k : ℕ) (o : Option ClockId) → IsTree defs clocks order rates → option_map (λ c. c.0) o ≡ slice_get (children order clocks p) k
    → IfSome o (λ d. (is_in d.0 (children order clocks p) ≡ true) × (registered clocks d.0 ≡ true))
child_told defs clocks order rates p k None tree is = tt
child_told defs clocks order rates p k (Some d) tree is = child_listed defs clocks order rates p k d.0 tree (sym is)

-- a tree has at most as many children of a clock as clocks
pub children_few : (defs : Description) (clocks : List ClockRow) (order rates : List ℕ) (p : ℕ) → IsTree defs clocks order rates → length (children order clocks p) ≤ length defs
children_few defs clocks order rates p tree =
    let kept = length-filter-le (λ c. is_at p (link_in clocks c)) order in
    let few = order-few defs clocks order rates tree in
    omega arith

-- ---- the top

last_step : (steps : List ChainStep) (d : ChainStep) → 0 < length steps → (get_or steps (length steps - 1) d).clock.0 ≡ top_of (chain_of steps)
last_step [] d some = absurd (omega arith)
last_step (s ∷ []) d some = refl
last_step (s ∷ l ∷ steps) d some =
    let less : suc (suc (length steps)) - 1 ≡ suc (suc (length steps) - 1) = omega arith in
    ap (λ n. (get_or (s ∷ l ∷ steps) n d).clock.0) less ∙ last_step (l ∷ steps) d (omega arith)

-- a walk from the last clock of a chain
pub walks_top : (told : Option Registers) (defs : Description) (t : TreeState) (steps : List ChainStep) (rates : List ℕ) (levels r : ℕ) (d : ChainStep) (old new : List ClockRate) → 0 < length steps → old ≡ [] → levels ≡ depth
    → r ≡ slice_index rates (length rates - 1)
    → Walks told defs t (chain_of steps) rates (get_or steps (length steps - 1) d).clock.0 r old new (below_within (kids_after t.order t.clocks (chain_of steps)) levels (get_or steps (length steps - 1) d).clock.0)
    → Walks told defs t (chain_of steps) rates (top_of (chain_of steps)) (slice_index rates (length rates - 1)) [] new
    (below_within (kids_after t.order t.clocks (chain_of steps)) depth (top_of (chain_of steps)))
walks_top told defs t steps rates levels r d old new some none all is walks =
    subst (λ (c : ℕ). Walks told defs t (chain_of steps) rates c (slice_index rates (length rates - 1)) [] new (below_within (kids_after t.order t.clocks (chain_of steps)) depth c)) (last_step steps d some)
    (subst (λ (q : ℕ). Walks told defs t (chain_of steps) rates (get_or steps (length steps - 1) d).clock.0 q [] new (below_within (kids_after t.order t.clocks (chain_of steps)) depth (get_or steps (length steps - 1) d).clock.0)) is
    (subst (λ (n : ℕ). Walks told defs t (chain_of steps) rates (get_or steps (length steps - 1) d).clock.0 r [] new (below_within (kids_after t.order t.clocks (chain_of steps)) n (get_or steps (length steps - 1) d).clock.0)) all
    (subst (λ (os : List ClockRate). Walks told defs t (chain_of steps) rates (get_or steps (length steps - 1) d).clock.0 r os new (below_within (kids_after t.order t.clocks (chain_of steps)) levels (get_or steps (length steps - 1) d).clock.0)) none walks)))
