-- Laws on the enable tier: its events leave the prepare tier's part of a state.
use Rattle.std.proofs.Common.{◌≡◌, ℕ, ◌+◌, ◌-◌, ◌<◌, Bool, true, false, cond, Option, Some, None, refl, sym, ap, ◌∙◌, arith, nat_eq, nat_lt}
use Rattle.std.specs.Prelude.{IsSome}
use Rattle.std.specs.Option.{option_map_or}
use Rattle.std.proofs.lemmas.Bool.Decides.{nat_tests}
use Rattle.clk_base.specs.declared.event.Errno.TheVariants as errno
use Rattle.clk_base.specs.declared.event.Event.{Event}
use Rattle.clk_base.specs.declared.event.Event.TheVariants as event
use Rattle.clk_base.specs.declared.event.Turn.{Turn}
use Rattle.clk_model.specs.declared.row.HandleRow.{HandleRow}
use Rattle.clk_model.specs.State.{State, Change}
use Rattle.clk_model.specs.Gates.{settled}
use Rattle.clk_model.specs.Begin.{refused, pick, own_handle, with_handle}
use Rattle.clk_model.specs.Machine.{enabled, disabled, running, paid, next}
use Rattle.clk_model.specs.Prep.{prep}
use Rattle.clk_model.specs.Tier.{is_enable_tier}
use Rattle.clk_model.proofs.EventLaws.{own_is_live}
use Rattle.clk_model.proofs.PrepLaws.{prep-settled, prep-spent, prep-put_handle}

-- ---- one of two answers, and a handle of the driver

-- what holds of both answers holds of the chosen one
pub pick_either : (P : State × Turn → Type 0) (b : Bool) (f g : Unit {0} → State × Turn) → (b ≡ true → P (f tt)) → (b ≡ false → P (g tt)) → P (pick b f g)
unfolding pick
pick_either P true f g yes_ no_ = yes_ refl
pick_either P false f g yes_ no_ = no_ refl

by_found_handle : (P : State × Turn → Type 0) (o : Option HandleRow) (f : HandleRow → State × Turn) (x : State × Turn)
    → P x → ((h : HandleRow) → o ≡ Some h → P (f h)) → P (option_map_or f o x)
by_found_handle P None f x none some = none
by_found_handle P (Some h) f x none some = some h refl

-- what holds of a refusal, and of the answer for each handle of the driver, holds of a call on a handle
pub with_handle_either : (P : State × Turn → Type 0) (s : State) (d n : ℕ) (f : HandleRow → State × Turn)
    → P (refused s errno.ENOENT) → ((h : HandleRow) → own_handle s d n ≡ Some h → P (f h)) → P (with_handle s d n f)
with_handle_either P s d n f none some = by_found_handle P (own_handle s d n) f (refused s errno.ENOENT) none some

-- ---- what an event leaves

-- the state of an event that is defined
abbrev pub state_or : State → Option (State × Turn) → State
state_or s o = option_map_or (λ x. x.0) o s

-- the turn of an event that is defined
abbrev pub turn_or : Turn → Option (State × Turn) → Turn
turn_or x o = option_map_or (λ y. y.1) o x

pub state_is : (s : State) (x y : State × Turn) → Some x ≡ Some y → x.0 ≡ y.0
state_is s x y e = ap (λ (o : Option (State × Turn)). state_or s o) e

pub turn_is : (x y : State × Turn) → Some x ≡ Some y → x.1 ≡ y.1
turn_is x y e = ap (λ (o : Option (State × Turn)). turn_or x.1 o) e

chosen : (b : Bool) (x y : State × Turn) → cond b (Some x) None ≡ Some y → Some x ≡ Some y
chosen true x y e = e
chosen false x y e = absurd cc

-- an event that is paid for leaves what it does to the state, the gates that follow and the credits aside
pub paid_is : (s t : State) (y : State × Turn) (x : Turn) → paid s y ≡ Some (t, x) → (record (settled s y.0) { spent = s.spent + 1 } ≡ t) × (y.1 ≡ x)
paid_is s t y x step =
    let after : State × Turn = (record (settled s y.0) { spent = s.spent + 1 }, y.1) in
    let same : Some after ≡ Some (t, x) = chosen (nat_lt s.spent s.credits) after (t, x) step in
    (state_is s after (t, x) same, turn_is after (t, x) same)

-- and so its part of the prepare tier
pub prep-paid : (s t : State) (y : State × Turn) (x : Turn) → paid s y ≡ Some (t, x) → prep t ≡ prep y.0
prep-paid s t y x step =
    ap prep (sym (paid_is s t y x step).0) ∙ prep-spent (settled s y.0) (s.spent + 1) ∙ prep-settled s y.0

-- ---- the enable tier

-- the state of an answer has this part of the prepare tier
abbrev HasPrep : State → State × Turn → Type 0
HasPrep p y = prep y.0 ≡ p

enable_keeps : (s : State) (d n : ℕ) → HasPrep (prep s) (with_handle s d n (enabled s n))
enable_keeps s d n =
    with_handle_either (HasPrep (prep s)) s d n (enabled s n) refl
    (λ h own. pick_either (HasPrep (prep s)) (nat_eq h.prepares 0) _ _ (λ e. refl)
    (λ e. prep-put_handle s n h (record h { enables = h.enables + 1 }) (own_is_live s d n h own) refl))

disable_keeps : (s : State) (d n : ℕ) → HasPrep (prep s) (with_handle s d n (disabled s n))
disable_keeps s d n =
    with_handle_either (HasPrep (prep s)) s d n (disabled s n) refl
    (λ h own. pick_either (HasPrep (prep s)) (nat_eq h.enables 0) _ _ (λ e. refl)
    (λ e. prep-put_handle s n h (record h { enables = h.enables - 1 }) (own_is_live s d n h own) refl))

running_keeps : (s : State) (d n : ℕ) → HasPrep (prep s) (with_handle s d n (running s))
running_keeps s d n = with_handle_either (HasPrep (prep s)) s d n (running s) refl (λ h own. refl)

-- an event of the enable tier leaves the prepare tier's part
pub enable_tier_leaves_prep : (s t : State) (d : ℕ) (e : Event) (x : Turn) → is_enable_tier e ≡ true → next s d e ≡ Some (t, x) → prep t ≡ prep s
unfolding next
enable_tier_leaves_prep s t d (event.Enable n) x tier step = prep-paid s t (with_handle s d n (enabled s n)) x step ∙ enable_keeps s d n
enable_tier_leaves_prep s t d (event.Disable n) x tier step = prep-paid s t (with_handle s d n (disabled s n)) x step ∙ disable_keeps s d n
enable_tier_leaves_prep s t d (event.Running n) x tier step = prep-paid s t (with_handle s d n (running s)) x step ∙ running_keeps s d n
enable_tier_leaves_prep s t d (event.Begin what) x tier step = absurd cc
enable_tier_leaves_prep s t d (event.Step m answer) x tier step = absurd cc

-- ---- a change in flight

-- the state of an answer has this change
abbrev HasChange : Option Change → State × Turn → Type 0
HasChange k y = y.0.change ≡ k

change-paid : (s t : State) (y : State × Turn) (x : Turn) → paid s y ≡ Some (t, x) → t.change ≡ y.0.change
unfolding settled
change-paid s t y x step = sym (ap (λ (u : State). u.change) (paid_is s t y x step).0)

-- an event of the enable tier leaves the change in flight
pub beside_change : (s t : State) (d : ℕ) (e : Event) (x : Turn) → is_enable_tier e ≡ true → next s d e ≡ Some (t, x) → t.change ≡ s.change
unfolding next
beside_change s t d (event.Enable n) x tier step =
    change-paid s t (with_handle s d n (enabled s n)) x step
    ∙ with_handle_either (HasChange s.change) s d n (enabled s n) refl (λ h own. pick_either (HasChange s.change) (nat_eq h.prepares 0) _ _ (λ e. refl) (λ e. refl))
beside_change s t d (event.Disable n) x tier step =
    change-paid s t (with_handle s d n (disabled s n)) x step
    ∙ with_handle_either (HasChange s.change) s d n (disabled s n) refl (λ h own. pick_either (HasChange s.change) (nat_eq h.enables 0) _ _ (λ e. refl) (λ e. refl))
beside_change s t d (event.Running n) x tier step =
    change-paid s t (with_handle s d n (running s)) x step ∙ with_handle_either (HasChange s.change) s d n (running s) refl (λ h own. refl)
beside_change s t d (event.Begin what) x tier step = absurd cc
beside_change s t d (event.Step m answer) x tier step = absurd cc

-- the state of an answer has these clocks and holds
abbrev HasClocks : State → State × Turn → Type 0
HasClocks s y = (y.0.clocks ≡ s.clocks) × (y.0.prepare_holds ≡ s.prepare_holds) × (y.0.enable_holds ≡ s.enable_holds)

clocks-paid : (s t : State) (y : State × Turn) (x : Turn) → paid s y ≡ Some (t, x) → HasClocks s y → HasClocks s (t, x)
unfolding settled
clocks-paid s t y x step has =
    let is = (paid_is s t y x step).0 in
    (sym (ap (λ (u : State). u.clocks) is) ∙ has.0, sym (ap (λ (u : State). u.prepare_holds) is) ∙ has.1, sym (ap (λ (u : State). u.enable_holds) is) ∙ has.2)

-- and the clocks and the holds
pub beside_clocks : (s t : State) (d : ℕ) (e : Event) (x : Turn) → is_enable_tier e ≡ true → next s d e ≡ Some (t, x)
    → (t.clocks ≡ s.clocks) × (t.prepare_holds ≡ s.prepare_holds) × (t.enable_holds ≡ s.enable_holds)
unfolding next
beside_clocks s t d (event.Enable n) x tier step =
    clocks-paid s t (with_handle s d n (enabled s n)) x step
    (with_handle_either (HasClocks s) s d n (enabled s n) (refl, refl, refl) (λ h own. pick_either (HasClocks s) (nat_eq h.prepares 0) _ _ (λ e. (refl, refl, refl)) (λ e. (refl, refl, refl))))
beside_clocks s t d (event.Disable n) x tier step =
    clocks-paid s t (with_handle s d n (disabled s n)) x step
    (with_handle_either (HasClocks s) s d n (disabled s n) (refl, refl, refl) (λ h own. pick_either (HasClocks s) (nat_eq h.enables 0) _ _ (λ e. (refl, refl, refl)) (λ e. (refl, refl, refl))))
beside_clocks s t d (event.Running n) x tier step =
    clocks-paid s t (with_handle s d n (running s)) x step (with_handle_either (HasClocks s) s d n (running s) (refl, refl, refl) (λ h own. (refl, refl, refl)))
beside_clocks s t d (event.Begin what) x tier step = absurd cc
beside_clocks s t d (event.Step m answer) x tier step = absurd cc

-- ---- who waits

paid_some : (s : State) (y : State × Turn) → s.spent < s.credits → IsSome (paid s y)
paid_some s y left =
    let lt : nat_lt s.spent s.credits ≡ true = grind (arith, nat_tests) in
    some_where (nat_lt s.spent s.credits) (record (settled s y.0) { spent = s.spent + 1 }, y.1) lt where
      some_where : (b : Bool) (x : State × Turn) → b ≡ true → IsSome (cond b (Some x) None)
      some_where true x e = refl
      some_where false x e = absurd cc

-- an event of the enable tier is defined wherever a credit is left
pub enable_tier_never_waits : (s : State) (d : ℕ) (e : Event) → is_enable_tier e ≡ true → s.spent < s.credits → IsSome (next s d e)
unfolding next
enable_tier_never_waits s d (event.Enable n) tier left = paid_some s (with_handle s d n (enabled s n)) left
enable_tier_never_waits s d (event.Disable n) tier left = paid_some s (with_handle s d n (disabled s n)) left
enable_tier_never_waits s d (event.Running n) tier left = paid_some s (with_handle s d n (running s)) left
enable_tier_never_waits s d (event.Begin what) tier left = absurd cc
enable_tier_never_waits s d (event.Step m answer) tier left = absurd cc
