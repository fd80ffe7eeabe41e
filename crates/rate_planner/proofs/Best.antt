-- Laws on the best of several tries that are made one by one.
use Rattle.std.proofs.Common.{◌≡◌, ℕ, zero, suc, ◌+◌, ◌-◌, ◌*◌, ◌^◌, ◌<◌, ◌≤◌, Bool, true, false, cond, List, [], ◌∷◌, drop, length, get_or, add-one, Option, Some, None, refl, sym, ap, subst, ◌∙◌, arith, nat_le}
use Rattle.std.specs.Prelude.{filter, fold, option_map}
use Rattle.std.specs.List.{filter_map, cons_option}
use Rattle.std.specs.Int.{div_ceil}
use Rattle.std.proofs.lemmas.Bool.{cond-true, le-leb}
use Rattle.clk_base.specs.declared.clock.ClockId.{ClockId}
use Rattle.clk_base.specs.Places.{places}
use Rattle.kind_math.specs.declared.div_style.DivStyle.{DivStyle}
use Rattle.kind_math.specs.Dividers.{valid_divisors}
use Rattle.kind_math.specs.Rates.{divisor}
use Rattle.clk_model.specs.Tree.{rooted}
use Rattle.clk_model.specs.Round.{Wiring, Rounded, better, over_link, over_candidate, most_rate, round_by, rate_for, round, View}
use Rattle.clk_base.specs.Levels.{depth}
use Rattle.rate_planner.specs.Given.{after_try, after_divisors, over_rooted, after_candidates}
use Rattle.rate_planner.specs.Divisors.{first_field, divisors_from}
use Rattle.rate_planner.proofs.DivisorChoice.{divisors_all, divisors_more, none_product}

-- one try more
try_one : (x : ℕ) (best : Option Rounded) (o : Option Rounded) (tries : List Rounded) → fold (better x) best (cons_option o tries) ≡ fold (better x) (after_try x best o) tries
try_one x best None tries = refl
try_one x best (Some r) tries = refl

-- a divisor whose product is within the greatest rate is tried
pub divisor_tried : (ask : ℕ → ℕ → Option ℕ) (w : Wiring) (c x : ℕ) (best : Option Rounded) (d : ℕ) (ds : List ℕ) → x * d ≤ most_rate
    → after_divisors ask w c x best (d ∷ ds) ≡ after_divisors ask w c x (after_try x best (over_link ask w c (x * d) (λ r. div_ceil r d))) ds
divisor_tried ask w c x best d ds within =
    ap (λ tried. fold (better x) best (filter_map (λ i. over_link ask w c (x * i) (λ r. div_ceil r i)) tried))
    (cond-true (nat_le (x * d) most_rate) (d ∷ filter (λ i. nat_le (x * i) most_rate) ds) (filter (λ i. nat_le (x * i) most_rate) ds) (le-leb (x * d) most_rate within))
    ∙ try_one x best (over_link ask w c (x * d) (λ r. div_ceil r d)) (filter_map (λ i. over_link ask w c (x * i) (λ r. div_ceil r i)) (filter (λ i. nat_le (x * i) most_rate) ds))

-- a candidate that is rooted is tried, and another gives nothing
pub candidate_tried : (ask : ℕ → ℕ → Option ℕ) (w : Wiring) (c x : ℕ) (best : Option Rounded) (p : ℕ) (ps : List ℕ)
    → after_candidates ask w c x best (p ∷ ps) ≡ after_candidates ask w c x (after_try x best (over_rooted ask w c x p)) ps
candidate_tried ask w c x best p ps = by_test (rooted w.defs w.clocks p) where
  by_test : (t : Bool) → fold (better x) best (filter_map (over_candidate ask w c x) (cond t (p ∷ filter (rooted w.defs w.clocks) ps) (filter (rooted w.defs w.clocks) ps)))
      ≡ fold (better x) (after_try x best (elim t [ true ↦ over_candidate ask w c x p | false ↦ None ])) (filter_map (over_candidate ask w c x) (filter (rooted w.defs w.clocks) ps))
  by_test true = try_one x best (over_candidate ask w c x p) (filter_map (over_candidate ask w c x) (filter (rooted w.defs w.clocks) ps))
  by_test false = refl

-- ---- divisors

-- before the first field all divisors are left
pub divisors_begin : (ask : ℕ → ℕ → Option ℕ) (w : Wiring) (c x : ℕ) (style : DivStyle) (width first end : ℕ) → first ≡ first_field style → end ≡ 2 ^ width
    → after_divisors ask w c x None (divisors_from style first end) ≡ after_divisors ask w c x None (valid_divisors style width)
divisors_begin ask w c x style width first end is is' =
    ap (λ ds. after_divisors ask w c x None ds) (ap (λ n. divisors_from style n end) is ∙ ap (divisors_from style (first_field style)) is' ∙ sym (divisors_all style width))

-- a divisor was tried
pub divisor_step : (ask : ℕ → ℕ → Option ℕ) (w : Wiring) (c x : ℕ) (best tried new all : Option Rounded) (style : DivStyle) (field end product d : ℕ)
    → field < end → d ≡ divisor style field → product ≡ x * d → product ≤ most_rate → tried ≡ over_link ask w c product (λ r. div_ceil r d) → new ≡ after_try x best tried
    → after_divisors ask w c x best (divisors_from style field end) ≡ all → after_divisors ask w c x new (divisors_from style (field + 1) end) ≡ all
divisor_step ask w c x best tried new all style field end product d less is is' within gives better_ left =
    ap (λ o. after_divisors ask w c x o (divisors_from style (field + 1) end))
    (better_ ∙ ap (after_try x best) (gives ∙ ap (λ n. over_link ask w c n (λ r. div_ceil r d)) is'))
    ∙ sym (divisor_tried ask w c x best d (divisors_from style (field + 1) end) (omega arith))
    ∙ sym (ap (λ ds. after_divisors ask w c x best ds) (divisors_more style field end less ∙ ap (λ n. n ∷ divisors_from style (field + 1) end) (sym is)))
    ∙ left

-- where a product is above the greatest rate, and behind the last field, nothing is left to try
pub divisors_above : (ask : ℕ → ℕ → Option ℕ) (w : Wiring) (c x : ℕ) (best all : Option Rounded) (style : DivStyle) (field end d : ℕ)
    → d ≡ divisor style field → most_rate < x * d → after_divisors ask w c x best (divisors_from style field end) ≡ all → best ≡ all
divisors_above ask w c x best all style field end d is above left =
    let over : most_rate < x * divisor style field = subst (λ n. most_rate < x * n) is above in
    sym (ap (λ ds. fold (better x) best (filter_map (λ i. over_link ask w c (x * i) (λ r. div_ceil r i)) ds)) (none_product style x field end over)) ∙ left

-- ---- candidates

-- the place of a listed clock, and the places behind it
places_more : (items : List ClockId) (k : ℕ) (p d : ClockId) → k < length items → p ≡ get_or items k d → drop k (places items) ≡ p.0 ∷ drop (k + 1) (places items)
places_more [] k p d less is = absurd (omega arith)
places_more (q ∷ items) zero p d less is = ap (λ (c : ClockId). c.0 ∷ places items) (sym is)
places_more (q ∷ items) (suc k) p d less is =
    let next : suc k ≡ k + 1 = omega arith in
    places_more items k p d (omega arith) is ∙ ap (λ n. p.0 ∷ drop n (places items)) (sym next) ∙ ap (λ n. p.0 ∷ drop n (places (q ∷ items))) (sym (add-one (suc k)))

-- a candidate was tried
pub candidate_step : (ask : ℕ → ℕ → Option ℕ) (w : Wiring) (c x : ℕ) (best tried new all : Option Rounded) (items : List ClockId) (k : ℕ) (p d : ClockId)
    → k < length items → p ≡ get_or items k d → tried ≡ over_rooted ask w c x p.0 → new ≡ after_try x best tried
    → after_candidates ask w c x best (drop k (places items)) ≡ all → after_candidates ask w c x new (drop (k + 1) (places items)) ≡ all
candidate_step ask w c x best tried new all items k p d less is gives better_ left =
    ap (λ o. after_candidates ask w c x o (drop (k + 1) (places items))) (better_ ∙ ap (after_try x best) gives)
    ∙ sym (candidate_tried ask w c x best p.0 (drop (k + 1) (places items)))
    ∙ sym (ap (λ ps. after_candidates ask w c x best ps) (places_more items k p d less is))
    ∙ left

-- ---- levels

-- a rounding over one level fewer gives the rate
pub rate_level : (levels : ℕ) (w : Wiring) (view : View) (c x : ℕ) (o : Option Rounded) → 0 < levels → o ≡ round_by (rate_for (levels - 1) w view) w view c x
    → option_map (λ r. r.rate) o ≡ rate_for levels w view c x
rate_level zero w view c x o some is = absurd (omega arith)
rate_level (suc levels) w view c x o some is =
    let less : suc levels - 1 ≡ levels = omega arith in
    ap (option_map (λ (r : Rounded). r.rate)) (is ∙ ap (λ n. round_by (rate_for n w view) w view c x) less)

-- the rounding over all levels
pub round_whole : (w : Wiring) (view : View) (c x : ℕ) (o : Option Rounded) (levels : ℕ) → levels ≡ depth → o ≡ round_by (rate_for levels w view) w view c x → o ≡ round w view c x
unfolding round
round_whole w view c x o levels all is = is ∙ ap (λ n. round_by (rate_for n w view) w view c x) all
