-- Lists that are gone through place by place.
use Rattle.std.proofs.Common.{◌≡◌, ℕ, zero, suc, ◌+◌, ◌-◌, ◌<◌, Bool, true, false, ◌&&◌, ◌||◌, List, [], ◌∷◌, Option, Some, None, refl, sym, ap, ◌∙◌, arith, add-one, drop, length, get_or, nat_eq, eq-eqb, nat_le, cond}
use Rattle.std.specs.Prelude.{IfSome}
use Rattle.std.proofs.lemmas.Bool.{cond-true, cond-false, ne_eqb}
use Rattle.clk_base.specs.Description.{Description}
use Rattle.reg_bank.specs.Registers.{Registers}
use Rattle.clk_model.specs.declared.row.ClockRow.{ClockRow}
use Rattle.clk_model.specs.Chain.{moves}
use Rattle.clk_model.specs.Round.{View}
use Rattle.clk_model.specs.State as state
use Rattle.clk_model.specs.Walk.{moves_away}
use Rattle.clk_model.proofs.Members.{or_right}
use Rattle.clk_tree.specs.declared.chain.ChainStep.{ChainStep}
use Rattle.clk_tree.specs.Plans.{chain_of, step_of}
use Rattle.rate_planner.specs.Outcomes.{rates_within}
use Rattle.rate_planner.specs.Walks.{kid_rate}

-- ---- what a bank tells

pub told_on : (o : Option Registers) (P Q : Registers → Type 0) → ((regs : Registers) → P regs → Q regs) → IfSome o P → IfSome o Q
told_on None P Q on p = tt
told_on (Some regs) P Q on p = on regs p

pub told_both : (o : Option Registers) (P Q R : Registers → Type 0) → ((regs : Registers) → P regs → Q regs → R regs) → IfSome o P → IfSome o Q → IfSome o R
told_both None P Q R on p q = tt
told_both (Some regs) P Q R on p q = on regs p q

pub told_always : (o : Option Registers) (P : Registers → Type 0) → ((regs : Registers) → P regs) → IfSome o P
told_always None P on = tt
told_always (Some regs) P on = on regs

-- ---- what is left

-- the step at a place, and the steps behind it
pub steps_left : (steps : List ChainStep) (place : ℕ) (d : ChainStep) → place < length steps → drop place (chain_of steps) ≡ step_of (get_or steps place d) ∷ drop (place + 1) (chain_of steps)
steps_left [] place d less = absurd (omega arith)
steps_left (s ∷ steps) zero d less = refl
steps_left (s ∷ steps) (suc place) d less =
    let next : suc place ≡ place + 1 = omega arith in
    steps_left steps place d (omega arith) ∙ ap (λ n. step_of (get_or steps place d) ∷ drop n (chain_of steps)) (sym next)
    ∙ ap (λ n. step_of (get_or steps place d) ∷ drop n (chain_of (s ∷ steps))) (sym (add-one (suc place)))

pub numbers_left : (xs : List ℕ) (place d : ℕ) → place < length xs → drop place xs ≡ get_or xs place d ∷ drop (place + 1) xs
numbers_left [] place d less = absurd (omega arith)
numbers_left (x ∷ xs) zero d less = refl
numbers_left (x ∷ xs) (suc place) d less =
    let next : suc place ≡ place + 1 = omega arith in
    numbers_left xs place d (omega arith) ∙ ap (λ n. get_or xs place d ∷ drop n xs) (sym next)
    ∙ ap (λ n. get_or xs place d ∷ drop n (x ∷ xs)) (sym (add-one (suc place)))

pub length-chain : (steps : List ChainStep) → length (chain_of steps) ≡ length steps
length-chain [] = refl
length-chain (s ∷ steps) = let rest = length-chain steps in omega arith

-- ---- boundaries

-- whether the next rate keeps the boundaries of its clock
pub within_here : (view : View) (steps : List ChainStep) (rates : List ℕ) (place : ℕ) (d : ChainStep) (e : ℕ) (t : Bool) → place < length steps → length rates ≡ length steps
    → t ≡ (nat_le (view.low (get_or steps place d).clock.0) (get_or rates place e) && nat_le (get_or rates place e) (view.high (get_or steps place d).clock.0))
    → rates_within view (drop place (chain_of steps)) (drop place rates) ≡ (t && rates_within view (drop (place + 1) (chain_of steps)) (drop (place + 1) rates))
within_here view steps rates place d e t less sizes is =
    ap (λ (ks : List state.ChainStep). rates_within view ks (drop place rates)) (steps_left steps place d less)
    ∙ ap (λ rs. rates_within view (step_of (get_or steps place d) ∷ drop (place + 1) (chain_of steps)) rs) (numbers_left rates place e (omega arith))
    ∙ sym (ap (λ (b : Bool). b && rates_within view (drop (place + 1) (chain_of steps)) (drop (place + 1) rates)) is)

pub within_fails : (view : View) (steps : List ChainStep) (rates : List ℕ) (place : ℕ) (d : ChainStep) (e : ℕ) (t whole : Bool) → place < length steps → length rates ≡ length steps
    → t ≡ (nat_le (view.low (get_or steps place d).clock.0) (get_or rates place e) && nat_le (get_or rates place e) (view.high (get_or steps place d).clock.0)) → t ≡ false
    → rates_within view (drop place (chain_of steps)) (drop place rates) ≡ whole → false ≡ whole
within_fails view steps rates place d e t whole less sizes is fails left =
    sym (within_here view steps rates place d e t less sizes is ∙ ap (λ (b : Bool). b && rates_within view (drop (place + 1) (chain_of steps)) (drop (place + 1) rates)) fails) ∙ left

pub within_passes : (view : View) (steps : List ChainStep) (rates : List ℕ) (place : ℕ) (d : ChainStep) (e : ℕ) (t whole : Bool) → place < length steps → length rates ≡ length steps
    → t ≡ (nat_le (view.low (get_or steps place d).clock.0) (get_or rates place e) && nat_le (get_or rates place e) (view.high (get_or steps place d).clock.0)) → t ≡ true
    → rates_within view (drop place (chain_of steps)) (drop place rates) ≡ whole → rates_within view (drop (place + 1) (chain_of steps)) (drop (place + 1) rates) ≡ whole
within_passes view steps rates place d e t whole less sizes is passes left =
    sym (within_here view steps rates place d e t less sizes is ∙ ap (λ (b : Bool). b && rates_within view (drop (place + 1) (chain_of steps)) (drop (place + 1) rates)) passes) ∙ left

-- ---- the rate of a child

kid_here : (defs : Description) (regs : Registers) (steps : List ChainStep) (rates : List ℕ) (place c parent : ℕ) (d : ChainStep) (e : ℕ) → place < length steps → length rates ≡ length steps
    → kid_rate defs regs (drop place (chain_of steps)) (drop place rates) c parent
    ≡ cond (nat_eq (get_or steps place d).clock.0 c) (get_or rates place e) (kid_rate defs regs (drop (place + 1) (chain_of steps)) (drop (place + 1) rates) c parent)
kid_here defs regs steps rates place c parent d e less sizes =
    ap (λ (ks : List state.ChainStep). kid_rate defs regs ks (drop place rates) c parent) (steps_left steps place d less)
    ∙ ap (λ rs. kid_rate defs regs (step_of (get_or steps place d) ∷ drop (place + 1) (chain_of steps)) rs c parent) (numbers_left rates place e (omega arith))

-- from the top down, the rate at a step of this clock
pub kid_taken : (defs : Description) (regs : Registers) (steps : List ChainStep) (rates : List ℕ) (count done place c parent : ℕ) (d : ChainStep) (e own : ℕ) → done < count → count ≡ length steps → place ≡ count - 1 - done
    → length rates ≡ length steps → (get_or steps place d).clock.0 ≡ c → own ≡ get_or rates place e → own ≡ kid_rate defs regs (drop (count - (done + 1)) (chain_of steps)) (drop (count - (done + 1)) rates) c parent
kid_taken defs regs steps rates count done place c parent d e own less counted at sizes same is =
    let to : place ≡ count - (done + 1) = omega arith in
    is ∙ sym (kid_here defs regs steps rates place c parent d e (omega arith) sizes ∙ cond-true _ _ _ (eq-eqb (get_or steps place d).clock.0 c same))
    ∙ ap (λ n. kid_rate defs regs (drop n (chain_of steps)) (drop n rates) c parent) to

-- and behind a step of another clock
pub kid_passed : (defs : Description) (regs : Registers) (steps : List ChainStep) (rates : List ℕ) (count done place c parent : ℕ) (d : ChainStep) (was own : ℕ) → done < count → count ≡ length steps → place ≡ count - 1 - done
    → length rates ≡ length steps → ((get_or steps place d).clock.0 ≡ c → ⊥) → own ≡ was
    → was ≡ kid_rate defs regs (drop (count - done) (chain_of steps)) (drop (count - done) rates) c parent → own ≡ kid_rate defs regs (drop (count - (done + 1)) (chain_of steps)) (drop (count - (done + 1)) rates) c parent
kid_passed defs regs steps rates count done place c parent d was own less counted at sizes other is left =
    let from : count - done ≡ place + 1 = omega arith in
    let to : place ≡ count - (done + 1) = omega arith in
    is ∙ left ∙ ap (λ n. kid_rate defs regs (drop n (chain_of steps)) (drop n rates) c parent) from
    ∙ sym (kid_here defs regs steps rates place c parent d 0 (omega arith) sizes ∙ cond-false _ _ _ (ne_eqb (get_or steps place d).clock.0 c other))
    ∙ ap (λ n. kid_rate defs regs (drop n (chain_of steps)) (drop n rates) c parent) to

-- ---- moving away

-- one step more from the top down
moves_more : (clocks : List ClockRow) (steps : List ChainStep) (count done place c : ℕ) (d : ChainStep) (was away : Bool) → done < count → count ≡ length steps → place ≡ count - 1 - done
    → away ≡ ((nat_eq (get_or steps place d).clock.0 c && moves clocks (step_of (get_or steps place d))) || was)
    → was ≡ moves_away clocks (drop (count - done) (chain_of steps)) c → away ≡ moves_away clocks (drop (count - (done + 1)) (chain_of steps)) c
moves_more clocks steps count done place c d was away less counted at is left =
    let from : count - done ≡ place + 1 = omega arith in
    let to : place ≡ count - (done + 1) = omega arith in
    is ∙ ap (λ (t : Bool). (nat_eq (get_or steps place d).clock.0 c && moves clocks (step_of (get_or steps place d))) || t) (left ∙ ap (λ n. moves_away clocks (drop n (chain_of steps)) c) from)
    ∙ sym (ap (λ (ks : List state.ChainStep). moves_away clocks ks c) (steps_left steps place d (omega arith)))
    ∙ ap (λ n. moves_away clocks (drop n (chain_of steps)) c) to

-- where an upper step moves the clock
pub moves_before : (clocks : List ClockRow) (steps : List ChainStep) (count done place c : ℕ) (d : ChainStep) (was away : Bool) → done < count → count ≡ length steps → place ≡ count - 1 - done
    → was ≡ true → away ≡ was → was ≡ moves_away clocks (drop (count - done) (chain_of steps)) c → away ≡ moves_away clocks (drop (count - (done + 1)) (chain_of steps)) c
moves_before clocks steps count done place c d was away less counted at moved is left =
    moves_more clocks steps count done place c d was away less counted at
    (is ∙ moved ∙ sym (or_right (nat_eq (get_or steps place d).clock.0 c && moves clocks (step_of (get_or steps place d))) was moved)) left

-- where this may be the first that does
pub moves_here : (clocks : List ClockRow) (steps : List ChainStep) (count done place c : ℕ) (d : ChainStep) (was away : Bool) → done < count → count ≡ length steps → place ≡ count - 1 - done
    → (get_or steps place d).clock.0 ≡ c → was ≡ false → away ≡ moves clocks (step_of (get_or steps place d))
    → was ≡ moves_away clocks (drop (count - done) (chain_of steps)) c → away ≡ moves_away clocks (drop (count - (done + 1)) (chain_of steps)) c
moves_here clocks steps count done place c d was away less counted at same still is left =
    moves_more clocks steps count done place c d was away less counted at
    (is ∙ sym (ap (λ (t : Bool). (t && moves clocks (step_of (get_or steps place d))) || was) (eq-eqb (get_or steps place d).clock.0 c same)
    ∙ ap (λ (t : Bool). moves clocks (step_of (get_or steps place d)) || t) still ∙ no_more (moves clocks (step_of (get_or steps place d))))) left where
      no_more : (t : Bool) → (t || false) ≡ t
      no_more true = refl
      no_more false = refl

-- and where it is of another clock
pub moves_past : (clocks : List ClockRow) (steps : List ChainStep) (count done place c : ℕ) (d : ChainStep) (was away : Bool) → done < count → count ≡ length steps → place ≡ count - 1 - done
    → ((get_or steps place d).clock.0 ≡ c → ⊥) → away ≡ was → was ≡ moves_away clocks (drop (count - done) (chain_of steps)) c
    → away ≡ moves_away clocks (drop (count - (done + 1)) (chain_of steps)) c
moves_past clocks steps count done place c d was away less counted at other is left =
    moves_more clocks steps count done place c d was away less counted at
    (is ∙ sym (ap (λ (t : Bool). (t && moves clocks (step_of (get_or steps place d))) || was) (ne_eqb (get_or steps place d).clock.0 c other))) left
