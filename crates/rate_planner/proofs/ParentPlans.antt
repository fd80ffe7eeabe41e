-- Laws on plans of a change of parent.
use Rattle.std.proofs.Common.{◌≡◌, ◌≢◌, ℕ, ◌-◌, ◌<◌, ◌≤◌, Bool, true, false, not, cond, List, [], ◌∷◌, ◌++◌, map, Option, Some, None, refl, sym, ap, subst, ◌∙◌, arith, length}
use Rattle.std.specs.Prelude.{IfSome, slice_index}
use Rattle.clk_base.specs.Description.{Description, kind_of, parents_of}
use Rattle.clk_base.specs.Levels.{depth}
use Rattle.clk_base.specs.Valid.{IsValid}
use Rattle.reg_bank.specs.Registers.{Registers}
use Rattle.clk_model.specs.Lists.{is_in, same_place}
use Rattle.clk_model.specs.State as state
use Rattle.clk_model.specs.State.{registered, link_in}
use Rattle.clk_model.specs.Rate.{rate_over}
use Rattle.clk_model.specs.Round.{Wiring, rate_in}
use Rattle.clk_model.specs.Chain.{outcome}
use Rattle.clk_model.specs.Walk.{kids_after, top_of, below_within}
use Rattle.clk_model.proofs.Members.{same_from_test}
use Rattle.clk_tree.specs.Plans.{ClockRate}
use Rattle.clk_tree.specs.TreeState.{TreeState, IsTree}
use Rattle.rate_planner.specs.Kept.{KeepsRates, wired, Always, Told}
use Rattle.rate_planner.specs.Outcomes.{out_rates, set_rate}
use Rattle.rate_planner.specs.Walks.{at_rate, AreWalked, Walks, walked_rates, parent_chain}
use Rattle.rate_planner.proofs.WholeOutcome.{IsChain, rates_out}
use Rattle.rate_planner.proofs.PlanLaws.{walked_whole}
use Rattle.rate_planner.proofs.ListSteps.{told_both}
use Rattle.clk_model.proofs.StateLaws.{registered_lt}

-- the step of a clock with a new parent
abbrev pub to_parent : ℕ → ℕ → ℕ → state.ChainStep
to_parent c r p = record { clock = c; rate = r; parent = Some p }

-- it is a chain alone
one_step : (words : ℕ) (defs : Description) (regs : Registers) (t : TreeState) (c r p : ℕ) → IsValid words defs → words ≤ length regs → IsTree defs t.clocks t.order t.rates → registered t.clocks c ≡ true
    → is_in p (parents_of defs c) ≡ true → IsChain words t.order (wired defs regs t) (to_parent c r p ∷ [])
one_step words defs regs t c r p valid fits tree there possible = record {
  ground = record { wired = record { valid = valid; rows = tree.rows; links = tree.possible }; bank = fits };
  ordered = record { once = tree.order_lists.once; linked = λ d q e. tree.order_lists.listed d ∙ tree.linked d q e };
  leads = tt;
  parents = (record { possible = λ q e. let same : p ≡ q = cc in ap (λ (x : ℕ). is_in x (parents_of defs c)) (sym same) ∙ possible; none = λ e. absurd cc }, tt);
  once = refl;
  within = (let below : c < length t.clocks = registered_lt t.clocks c there in let rows = tree.rows in omega arith, tt);
}

-- another parent than the link is a move
pub other_moves : (p : ℕ) (o : Option ℕ) → o ≢ Some p → not (same_place (Some p) o) ≡ true
other_moves p None other = refl
other_moves p (Some q) other = by_test (same_place (Some p) (Some q)) refl where
  by_test : (t : Bool) → same_place (Some p) (Some q) ≡ t → not (same_place (Some p) (Some q)) ≡ true
  by_test true is = absurd (other (ap (λ (n : ℕ). Some n) (sym (same_from_test p q is))))
  by_test false is = ap not is

-- the rate that comes out of it
one_out : (w : Wiring) (c r p : ℕ) → link_in w.clocks c ≢ Some p → out_rates w (to_parent c r p ∷ []) ≡ rate_over (kind_of w.defs c) w.regs (rate_in w p) ∷ []
one_out w c r p other =
    ap (λ (t : Bool). cond t (rate_over (kind_of w.defs c) w.regs (rate_in w p)) (set_rate (kind_of w.defs c) w.regs (rate_in w p) r) ∷ []) (other_moves p (link_in w.clocks c) other)

first_number : (a b : ℕ) → a ∷ [] ≡ b ∷ [] → a ≡ b
first_number a b e = cc

one_chain : (words : ℕ) (defs : Description) (regs : Registers) (t : TreeState) (c rate p : ℕ) → IsValid words defs → words ≤ length regs → IsTree defs t.clocks t.order t.rates → registered t.clocks c ≡ true
    → is_in p (parents_of defs c) ≡ true → link_in t.clocks c ≢ Some p → rate ≡ rate_over (kind_of defs c) regs (rate_in (wired defs regs t) p)
    → to_parent c rate p ∷ [] ≡ parent_chain (wired defs regs t) c p
one_chain words defs regs t c rate p valid fits tree there possible other is =
    ap (λ (r : ℕ). to_parent c r p ∷ [])
    (is ∙ first_number (rate_over (kind_of defs c) regs (rate_in (wired defs regs t) p)) (rate_in (outcome (to_parent c 0 p ∷ []) (wired defs regs t)) c)
    (sym (one_out (wired defs regs t) c 0 p other) ∙ rates_out words t.order (wired defs regs t) (to_parent c 0 p ∷ []) (one_step words defs regs t c 0 p valid fits tree there possible)))

-- ---- where the bank tells its words

-- the chain is that of the definitions
pub parent_planned : (told : Option Registers) (size : ℕ) (t : TreeState) (c rate above p : ℕ) → IsValid size t.defs → IfSome told (λ regs. length regs ≡ size)
    → IsTree t.defs t.clocks t.order t.rates → registered t.clocks c ≡ true → is_in p (parents_of t.defs c) ≡ true → link_in t.clocks c ≢ Some p
    → IfSome told (λ regs. rate ≡ rate_over (kind_of t.defs c) regs above) → Always t.defs t (λ w. above ≡ rate_in w p)
    → Told told t.defs t (λ w. to_parent c rate p ∷ [] ≡ parent_chain w c p)
parent_planned told size t c rate above p valid sized tree there possible other is above_is =
    told_both told (λ regs. length regs ≡ size) (λ regs. rate ≡ rate_over (kind_of t.defs c) regs above)
    (λ regs. KeepsRates t.defs regs t → to_parent c rate p ∷ [] ≡ parent_chain (wired t.defs regs t) c p)
    (λ regs sized_ is_ kept.
    one_chain size t.defs regs t c rate p valid (omega arith) tree there possible other
    (is_ ∙ ap (rate_over (kind_of t.defs c) regs) (above_is regs kept))) sized is

-- and so are the rates of its walk
pub parent_walked : (told : Option Registers) (size : ℕ) (t : TreeState) (c rate above p : ℕ) (new : List ClockRate) → IsValid size t.defs → IfSome told (λ regs. length regs ≡ size)
    → IsTree t.defs t.clocks t.order t.rates → registered t.clocks c ≡ true → is_in p (parents_of t.defs c) ≡ true → link_in t.clocks c ≢ Some p
    → IfSome told (λ regs. rate ≡ rate_over (kind_of t.defs c) regs above) → Always t.defs t (λ w. above ≡ rate_in w p)
    → Walks told t.defs t (to_parent c rate p ∷ []) (rate ∷ []) c rate [] new (below_within (kids_after t.order t.clocks (to_parent c rate p ∷ [])) depth c)
    → Told told t.defs t (λ w. new ≡ walked_rates t.order w (to_parent c rate p ∷ []))
parent_walked told size t c rate above p new valid sized tree there possible other is above_is walks =
    told_both told (λ regs. length regs ≡ size)
    (λ regs. (rate ≡ rate_over (kind_of t.defs c) regs above) × ((rated : ℕ → ℕ) → AreWalked t.defs regs t (to_parent c rate p ∷ []) (rate ∷ []) rated → rated c ≡ rate
    → new ≡ map (at_rate rated) (below_within (kids_after t.order t.clocks (to_parent c rate p ∷ [])) depth c)))
    (λ regs. KeepsRates t.defs regs t → new ≡ walked_rates t.order (wired t.defs regs t) (to_parent c rate p ∷ []))
    (λ regs sized_ both kept.
    walked_whole size t.defs regs t (to_parent c rate p ∷ []) (rate ∷ []) new
    (one_step size t.defs regs t c rate p valid (omega arith) tree there possible) (omega arith)
    (ap (λ (r : ℕ). r ∷ []) (both.0 ∙ ap (rate_over (kind_of t.defs c) regs) (above_is regs kept)) ∙ sym (one_out (wired t.defs regs t) c rate p other)) both.1)
    sized (told_both told _ _ _ (λ regs i w. (i, w)) is walks)

-- ---- lists of one

pub pushed_one : {X : Type 0} (items old : List X) (x : X) → items ≡ old ++ x ∷ [] → old ≡ [] → items ≡ x ∷ []
pushed_one items old x pushed none = pushed ∙ ap (λ xs. xs ++ x ∷ []) none

pub parent_walks : (told : Option Registers) (defs : Description) (t : TreeState) (c rate p : ℕ) (ks : List state.ChainStep) (rates : List ℕ) (new : List ClockRate) → ks ≡ to_parent c rate p ∷ [] → rates ≡ rate ∷ []
    → Walks told defs t ks rates (top_of ks) (slice_index rates (length rates - 1)) [] new (below_within (kids_after t.order t.clocks ks) depth (top_of ks))
    → Walks told defs t (to_parent c rate p ∷ []) (rate ∷ []) c rate [] new (below_within (kids_after t.order t.clocks (to_parent c rate p ∷ [])) depth c)
parent_walks told defs t c rate p ks rates new is is' walks =
    subst (λ (ls : List state.ChainStep). Walks told defs t ls (rate ∷ []) (top_of ls) rate [] new (below_within (kids_after t.order t.clocks ls) depth (top_of ls))) is
    (subst (λ (rs : List ℕ). Walks told defs t ks rs (top_of ks) (slice_index rs (length rs - 1)) [] new (below_within (kids_after t.order t.clocks ks) depth (top_of ks))) is' walks)
