-- Plans over the first words of a bank, as many as a description was checked for, are those over all its words.
use Rattle.std.proofs.Common.{◌≡◌, ℕ, zero, suc, Bool, true, false, ◌&&◌, cond, List, [], ◌∷◌, Option, Some, None, refl, sym, ap, subst, ◌∙◌, take, set, get_or, map, nat_eq}
use Rattle.std.proofs.Math.Path.{fun_ext}
use Rattle.std.specs.Prelude.{IfSome, if◌then◌else◌, nat_le, option_and_then, slice_index}
use Rattle.std.specs.List.{list_all}
use Rattle.std.specs.Option.{option_map, option_map_or}
use Rattle.clk_base.specs.declared.clock.Kind.{Kind}
use Rattle.clk_base.specs.declared.clock.Kind.TheVariants.{FixedRate, Factor, Gate, Mux, Divider, Pll}
use Rattle.clk_base.specs.Description.{Description, kind_of}
use Rattle.clk_base.specs.Fields.{Field}
use Rattle.clk_base.specs.Levels.{depth}
use Rattle.clk_base.specs.Valid.{IsValid}
use Rattle.kind_math.specs.Dividers.{div_setting}
use Rattle.kind_math.specs.Plls.{pll_multiplier}
use Rattle.reg_bank.specs.Registers.{Registers, put, with_bits}
use Rattle.clk_model.specs.declared.row.ClockRow.{ClockRow}
use Rattle.clk_model.specs.Chain.{moves, place_of, select, setting, set_one, outcome, chain_within, keeps_boundaries, chain}
use Rattle.clk_model.specs.Kinds.{mux_field}
use Rattle.clk_model.specs.Lists.{is_at}
use Rattle.clk_model.specs.Rate.{rate, style_of}
use Rattle.clk_model.specs.Round.{Wiring, View, Rounded, rate_in, parent_rate_in, round, round_rate}
use Rattle.clk_model.specs.State.{ChainStep, link_in, registered}
use Rattle.clk_model.specs.Walk.{walk}
use Rattle.clk_model.proofs.SameSettingLaws.{outcome_defs, then_same, within_same}
use Rattle.clk_tree.specs.TreeState.{TreeState}
use Rattle.rate_planner.specs.declared.rounded.Rounded as code
use Rattle.rate_planner.specs.Kept.{Told, wired}
use Rattle.rate_planner.specs.Rounded.{rounded_of}
use Rattle.rate_planner.specs.Walks.{at_rate, parent_chain, walked_rates}
use Rattle.core_parts.specs.Tied.{AreKept}
use Rattle.core_parts.proofs.RegisteredTree.{rate-take}
use Rattle.core_parts.proofs.WindowLaws.{take_set}

-- ---- settings

-- a field that is put in the first words is put in all of them
put-take : (n : ℕ) (words : Registers) (word shift width value : ℕ) → put (take n words) word shift width value ≡ take n (put words word shift width value)
unfolding put
put-take n words word shift width value = by n words word ∙ sym (take_set n words word _) where
  by : (m : ℕ) (ws : List ℕ) (i : ℕ) → set (take m ws) i (with_bits (get_or (take m ws) i 0) shift width value) ≡ set (take m ws) i (with_bits (get_or ws i 0) shift width value)
  by zero ws i = refl
  by (suc m) [] i = refl
  by (suc m) (w ∷ ws) zero = refl
  by (suc m) (w ∷ ws) (suc i) = ap (λ (xs : List ℕ). w ∷ xs) (by m ws i)

setting-take : (n : ℕ) (kind : Kind) (parent planned : ℕ) (regs : Registers) → setting kind parent planned (take n regs) ≡ take n (setting kind parent planned regs)
setting-take n (FixedRate r) parent planned regs = refl
setting-take n (Factor mult div) parent planned regs = refl
setting-take n (Gate word bit set_to_disable) parent planned regs = refl
setting-take n (Mux word shift width read_only) parent planned regs = refl
setting-take n (Divider word shift width one_based power_of_two) parent planned regs =
    put-take n regs word shift width (div_setting parent planned width (style_of one_based power_of_two))
setting-take n (Pll word shift width power_word power_bit least most m) parent planned regs = put-take n regs word shift width (pll_multiplier parent planned least most m)

select-take : (n : ℕ) (defs : Description) (c p : ℕ) (regs : Registers) → select defs c p (take n regs) ≡ take n (select defs c p regs)
select-take n defs c p regs = by (mux_field (kind_of defs c)) where
  by : (o : Option Field) → option_map_or (λ f. put (take n regs) f.word f.shift f.width (place_of defs c p)) o (take n regs)
      ≡ take n (option_map_or (λ f. put regs f.word f.shift f.width (place_of defs c p)) o regs)
  by None = refl
  by (Some f) = put-take n regs f.word f.shift f.width (place_of defs c p)

-- ---- outcomes

-- a tree over the first words
abbrev pub first_words : ℕ → Wiring → Wiring
first_words n w = record w { regs = take n w.regs }

rates-take : (n : ℕ) (w : Wiring) → IsValid n w.defs → rate_in (first_words n w) ≡ rate_in w
rates-take n w valid = fun_ext (λ c. rate-take n w.defs w.regs w.clocks c valid)

set_one-take : (n : ℕ) (w : Wiring) (k : ChainStep) → IsValid n w.defs → set_one k (first_words n w) ≡ first_words n (set_one k w)
set_one-take n w k valid = ap (λ (regs : Registers). let v : Wiring = record w { regs = regs; clocks = clocks } in v) (by (moves w.clocks k) k.parent) where
  clocks : List ClockRow
  clocks = (set_one k w).clocks

  by : (t : Bool) (o : Option ℕ)
      → cond t (option_map_or (λ p. select w.defs k.clock p (take n w.regs)) o (take n w.regs)) (setting (kind_of w.defs k.clock) (parent_rate_in (first_words n w) k.clock) k.rate (take n w.regs))
      ≡ take n (cond t (option_map_or (λ p. select w.defs k.clock p w.regs) o w.regs) (setting (kind_of w.defs k.clock) (parent_rate_in w k.clock) k.rate w.regs))
  by true None = refl
  by true (Some p) = select-take n w.defs k.clock p w.regs
  by false o =
      ap (λ (rates : ℕ → ℕ). setting (kind_of w.defs k.clock) (option_map_or rates (link_in w.clocks k.clock) 0) k.rate (take n w.regs)) (rates-take n w valid)
      ∙ setting-take n (kind_of w.defs k.clock) (parent_rate_in w k.clock) k.rate w.regs

outcome-take : (n : ℕ) (ks : List ChainStep) (w : Wiring) → IsValid n w.defs → outcome ks (first_words n w) ≡ first_words n (outcome ks w)
unfolding outcome
outcome-take n [] w valid = refl
outcome-take n (k ∷ ks) w valid =
    ap (set_one k) (outcome-take n ks w valid) ∙ set_one-take n (outcome ks w) k (subst (IsValid n) (sym (outcome_defs ks w)) valid)

-- the rates that come out are the same
pub out-take : (n : ℕ) (ks : List ChainStep) (w : Wiring) → IsValid n w.defs → rate_in (outcome ks (first_words n w)) ≡ rate_in (outcome ks w)
out-take n ks w valid = ap rate_in (outcome-take n ks w valid) ∙ rates-take n (outcome ks w) (subst (IsValid n) (sym (outcome_defs ks w)) valid)

-- ---- chains

-- so the plan over the first words is that over all
pub chain-take : (n : ℕ) (w : Wiring) (view : View) (c x : ℕ) → IsValid n w.defs → chain (first_words n w) view c x ≡ chain w view c x
unfolding chain
chain-take n w view c x valid =
    ap (λ (m : ℕ → ℕ → Option (List ChainStep)). option_and_then (λ ks. if keeps_boundaries (first_words n w) view ks then Some ks else None) (m c x))
    (within_same depth w.defs w.clocks w.regs (take n w.regs) view (rates-take n w valid))
    ∙ then_same (chain_within depth w view c x) (λ ks. if keeps_boundaries (first_words n w) view ks then Some ks else None) (λ ks. if keeps_boundaries w view ks then Some ks else None)
    (λ ks some. ap (λ (after : ℕ → ℕ). if list_all (λ k. let r = after k.clock in nat_le (view.low k.clock) r && nat_le r (view.high k.clock)) ks then Some ks else None) (out-take n ks w valid))

-- and so are the rates of its walk
pub walked-take : (n : ℕ) (order : List ℕ) (w : Wiring) (ks : List ChainStep) → IsValid n w.defs → walked_rates order (first_words n w) ks ≡ walked_rates order w ks
unfolding walk
walked-take n order w ks valid = ap (λ (after : ℕ → ℕ). map (at_rate after) (walk order w ks)) (out-take n ks w valid)

-- ---- what a bank tells

-- what is told over all words of a bank is so over the first words, where it is the same there
pub told-take : (n : ℕ) (told : Option Registers) (defs : Description) (t : TreeState) (P Q : Wiring → Type 0) → IsValid n defs → AreKept defs (option_map (take n) told) t.clocks t.rates
    → ((regs : Registers) → P (wired defs regs t) → Q (first_words n (wired defs regs t))) → Told told defs t P → IfSome (option_map (take n) told) (λ regs. Q (wired defs regs t))
told-take n None defs t P Q valid kept turns says = tt
told-take n (Some regs) defs t P Q valid kept turns says = turns regs (says (record { kept = λ k there. kept k there ∙ rate-take n defs regs t.clocks k valid }))

-- where a rounding is told, so is whether it gives the kept rate
pub kept_given : (told : Option Registers) (defs : Description) (t : TreeState) (v : View) (c x r kept : ℕ) → registered t.clocks c ≡ true → kept ≡ slice_index t.rates c
    → AreKept defs told t.clocks t.rates → IfSome told (λ regs. Some r ≡ round_rate (wired defs regs t) v c x)
    → IfSome told (λ regs. nat_eq r kept ≡ is_at (rate defs regs t.clocks c) (round_rate (wired defs regs t) v c x))
kept_given None defs t v c x r kept there is rates says = tt
kept_given (Some regs) defs t v c x r kept there is rates says =
    ap (λ (n : ℕ). nat_eq r n) (is ∙ rates c there) ∙ ap (λ (o : Option ℕ). is_at (rate defs regs t.clocks c) o) says

pub none_given : (told : Option Registers) (defs : Description) (t : TreeState) (v : View) (c x : ℕ) → IfSome told (λ regs. None ≡ round_rate (wired defs regs t) v c x)
    → IfSome told (λ regs. false ≡ is_at (rate defs regs t.clocks c) (round_rate (wired defs regs t) v c x))
none_given None defs t v c x says = tt
none_given (Some regs) defs t v c x says = ap (λ (o : Option ℕ). is_at (rate defs regs t.clocks c) o) says

-- and so it is of a clock that isn't guarded, by its rounding alone
pub first_given : (told : Option Registers) (defs : Description) (t : TreeState) (v : View) (c x kept : ℕ) (first : Option code.Rounded) (same : Bool)
    → registered t.clocks c ≡ true → kept ≡ slice_index t.rates c → AreKept defs told t.clocks t.rates → same ≡ is_at kept (option_map (λ (r : code.Rounded). r.rate) first)
    → IfSome told (λ regs. option_map rounded_of first ≡ round (wired defs regs t) v c x)
    → IfSome told (λ regs. same ≡ is_at (rate defs regs t.clocks c) (round_rate (wired defs regs t) v c x))
first_given None defs t v c x kept first same there is rates tests says = tt
first_given (Some regs) defs t v c x kept first same there is rates tests says =
    tests
    ∙ ap (λ (n : ℕ). is_at n (option_map (λ (r : code.Rounded). r.rate) first)) (is ∙ rates c there)
    ∙ ap (λ (o : Option ℕ). is_at (rate defs regs t.clocks c) o) (by first ∙ ap (λ (o : Option Rounded). option_map (λ r. r.rate) o) says) where
      by : (o : Option code.Rounded) → option_map (λ (r : code.Rounded). r.rate) o ≡ option_map (λ (r : Rounded). r.rate) (option_map rounded_of o)
      by None = refl
      by (Some r) = refl

-- the chain of a change of parent over the first words
pub parent_chain-take : (n : ℕ) (w : Wiring) (c p : ℕ) → IsValid n w.defs → parent_chain (first_words n w) c p ≡ parent_chain w c p
parent_chain-take n w c p valid =
    let bare : List ChainStep = record { clock = c; rate = 0; parent = Some p } ∷ [] in
    ap (λ (rates : ℕ → ℕ). let step : ChainStep = record { clock = c; rate = rates c; parent = Some p } in step ∷ []) (out-take n bare w valid)
