-- Each reply of an event has its cause.
use Rattle.std.proofs.Common.{◌≡◌, ℕ, zero, suc, ◌+◌, ◌<◌, ◌&&◌, ◌||◌, Bool, true, false, cond, Option, Some, None, refl, sym, ap, subst, ◌∙◌, ◌⊎◌, inl, inr, arith, nat_eq, nat_lt}
use Rattle.std.proofs.lemmas.Bool.Decides.{nat_tests}
use Rattle.clk_base.specs.declared.event.Event.{Event}
use Rattle.clk_base.specs.declared.event.Event.TheVariants as event
use Rattle.clk_base.specs.declared.event.Errno.TheVariants as errno
use Rattle.clk_base.specs.declared.event.Reply.{Reply}
use Rattle.clk_base.specs.declared.event.Reply.TheVariants as reply
use Rattle.clk_base.specs.declared.event.Turn.{Turn}
use Rattle.clk_base.specs.declared.event.Turn.TheVariants as turn
use Rattle.clk_model.specs.declared.row.HandleRow.{HandleRow}
use Rattle.clk_model.specs.State.{State}
use Rattle.clk_model.specs.Holders.{active}
use Rattle.clk_model.specs.Gates.{settled}
use Rattle.clk_model.specs.Begin.{own_handle, keeps_prepare, holds_something}
use Rattle.clk_model.specs.Machine.{paid, next}
use Rattle.clk_model.specs.Journal.{slotless}
use Rattle.clk_model.specs.Laws.Causes.{Exactly, Lacks, Has, KeepsPrepare, HoldsSomething, EnableCauses, DisableCauses, RunningCauses}
use Rattle.clk_model.proofs.Members.{not_either}
use Rattle.clk_model.proofs.EventLaws.{enable-unknown, enable-unprepared, enable-fine, disable-unknown, disable-warned, disable-fine, running-unknown, running-told}

-- ---- the reply of a turn

-- whether a reply is a new handle
abbrev is_handle : Reply → Bool
is_handle (reply.Handle h) = true
is_handle _ = false

-- a paid event answers its turn
paid_turn : (s t u : State) (x y : Turn) → paid s (t, x) ≡ Some (u, y) → y ≡ x
paid_turn s t u x y e = elim (nat_lt s.spent s.credits) as (λ b. IsPaid b → y ≡ x) [
  | true ↦ λ some. sym (turn_of some)
  | false ↦ λ none. absurd cc
] e where
  IsPaid : Bool → Type 0
  IsPaid b = let w : State × Turn = (record (settled s t) { spent = s.spent + 1 }, x) in let v : State × Turn = (u, y) in cond b (Some w) None ≡ Some v

  turn_of : {v w : State × Turn} → Some v ≡ Some w → v.1 ≡ w.1
  turn_of e = cc

-- a turn without a handle has its reply
same_reply : (r wanted : Reply) → slotless (turn.Done r) ≡ turn.Done wanted → is_handle wanted ≡ false → r ≡ wanted
same_reply (reply.Handle h) wanted e other = let is : reply.Handle (record h { slot = 0 }) ≡ wanted = cc in absurd (not_both (ap is_handle is) other) where
  not_both : {b : Bool} → true ≡ b → b ≡ false → ⊥
  not_both p q = let both : true ≡ false = p ∙ q in cc
same_reply reply.Fine wanted e other = cc
same_reply reply.Warn wanted e other = cc
same_reply reply.Yes wanted e other = cc
same_reply reply.No wanted e other = cc
same_reply (reply.Rate x) wanted e other = cc
same_reply (reply.Clock c) wanted e other = cc
same_reply (reply.Refused x) wanted e other = cc

-- the reply of an event that is known to come to this
replies : (s t u : State) (d : ℕ) (e : Event) (r wanted : Reply) → next s d e ≡ Some (u, slotless (turn.Done r)) → next s d e ≡ paid s (t, turn.Done wanted)
    → is_handle wanted ≡ false → r ≡ wanted
replies s t u d e r wanted comes known plain = same_reply r wanted (paid_turn s t u (turn.Done wanted) (slotless (turn.Done r)) (sym known ∙ comes)) plain

-- ---- causes

-- this reply was given, and its cause holds
this : {wanted given : Reply} {cause : Type 0} → given ≡ wanted → cause → Exactly wanted given cause
this is why = (λ _. why, λ _. is)

-- another reply was given, and its cause doesn't hold
other : {wanted given : Reply} {cause : Type 0} → (given ≡ wanted → ⊥) → (cause → ⊥) → Exactly wanted given cause
other isnt never = (λ is. absurd (isnt is), λ why. absurd (never why))

-- a driver that lacks the handle doesn't have it
lacks_not_has : (s : State) (d n : ℕ) (P : HandleRow → Type 0) → Lacks s d n → Has s d n P → ⊥
lacks_not_has s d n P lacks has = let no : None ≡ Some has.0 = sym lacks ∙ has.1 in cc

-- a driver that has it doesn't lack it
has_not_lacks : (s : State) (d n : ℕ) (h : HandleRow) → own_handle s d n ≡ Some h → Lacks s d n → ⊥
has_not_lacks s d n h own lacks = let no : None ≡ Some h = sym lacks ∙ own in cc

-- and has no other
has_not : (s : State) (d n : ℕ) (h : HandleRow) (P : HandleRow → Type 0) → own_handle s d n ≡ Some h → (P h → ⊥) → Has s d n P → ⊥
has_not s d n h P own never has = never (subst P (same (sym has.1 ∙ own)) has.2) where
  same : {a b : HandleRow} → Some a ≡ Some b → a ≡ b
  same e = cc

-- ---- the enable tier

pub enable_causes : (s t : State) (d n : ℕ) (r : Reply) → next s d (event.Enable n) ≡ Some (t, slotless (turn.Done r)) → EnableCauses s d n r
enable_causes s t d n r comes = by (own_handle s d n) refl where
  prepared : (h : HandleRow) (p : ℕ) → own_handle s d n ≡ Some h → h.prepares ≡ p → EnableCauses s d n r
  prepared h zero own none =
      let is = replies s s t d (event.Enable n) r (reply.Refused errno.ESHUTDOWN) comes (enable-unprepared s d n h own none) refl in
      record {
        unknown = other (λ e. cc) (has_not_lacks s d n h own);
        unprepared = this is (h, own, none);
        fine = other (λ e. cc) (has_not s d n h (λ g. 0 < g.prepares) own (λ some. omega arith));
      }
  prepared h (suc p) own some =
      let is = replies s _ t d (event.Enable n) r reply.Fine comes (enable-fine s d n h own (omega arith)) refl in
      record {
        unknown = other (λ e. cc) (has_not_lacks s d n h own);
        unprepared = other (λ e. cc) (has_not s d n h (λ g. g.prepares ≡ 0) own (λ none. omega arith));
        fine = this is (h, own, omega arith);
      }

  by : (o : Option HandleRow) → own_handle s d n ≡ o → EnableCauses s d n r
  by None lacks =
      let is = replies s s t d (event.Enable n) r (reply.Refused errno.ENOENT) comes (enable-unknown s d n lacks) refl in
      record {
        unknown = this is lacks;
        unprepared = other (λ e. cc) (lacks_not_has s d n _ lacks);
        fine = other (λ e. cc) (lacks_not_has s d n _ lacks);
      }
  by (Some h) own = prepared h h.prepares own refl

pub disable_causes : (s t : State) (d n : ℕ) (r : Reply) → next s d (event.Disable n) ≡ Some (t, slotless (turn.Done r)) → DisableCauses s d n r
disable_causes s t d n r comes = by (own_handle s d n) refl where
  enabled : (h : HandleRow) (k : ℕ) → own_handle s d n ≡ Some h → h.enables ≡ k → DisableCauses s d n r
  enabled h zero own none =
      let is = replies s s t d (event.Disable n) r reply.Warn comes (disable-warned s d n h own none) refl in
      record {
        unknown = other (λ e. cc) (has_not_lacks s d n h own);
        idle = this is (h, own, none);
        fine = other (λ e. cc) (has_not s d n h (λ g. 0 < g.enables) own (λ some. omega arith));
      }
  enabled h (suc k) own some =
      let is = replies s _ t d (event.Disable n) r reply.Fine comes (disable-fine s d n h own (omega arith)) refl in
      record {
        unknown = other (λ e. cc) (has_not_lacks s d n h own);
        idle = other (λ e. cc) (has_not s d n h (λ g. g.enables ≡ 0) own (λ none. omega arith));
        fine = this is (h, own, omega arith);
      }

  by : (o : Option HandleRow) → own_handle s d n ≡ o → DisableCauses s d n r
  by None lacks =
      let is = replies s s t d (event.Disable n) r (reply.Refused errno.ENOENT) comes (disable-unknown s d n lacks) refl in
      record {
        unknown = this is lacks;
        idle = other (λ e. cc) (lacks_not_has s d n _ lacks);
        fine = other (λ e. cc) (lacks_not_has s d n _ lacks);
      }
  by (Some h) own = enabled h h.enables own refl

pub running_causes : (s t : State) (d n : ℕ) (r : Reply) → next s d (event.Running n) ≡ Some (t, slotless (turn.Done r)) → RunningCauses s d n r
running_causes s t d n r comes = by (own_handle s d n) refl where
  told : (h : HandleRow) (b : Bool) → own_handle s d n ≡ Some h → active s h.clock.0 ≡ b → RunningCauses s d n r
  told h true own on =
      let known = running-told s d n h own ∙ ap (λ (b : Bool). paid s (s, turn.Done (cond b reply.Yes reply.No))) on in
      let is = replies s s t d (event.Running n) r reply.Yes comes known refl in
      record {
        unknown = other (λ e. cc) (has_not_lacks s d n h own);
        active_ = this is (h, own, on);
        stopped = other (λ e. cc) (has_not s d n h (λ g. active s g.clock.0 ≡ false) own (λ off. cc));
      }
  told h false own off =
      let known = running-told s d n h own ∙ ap (λ (b : Bool). paid s (s, turn.Done (cond b reply.Yes reply.No))) off in
      let is = replies s s t d (event.Running n) r reply.No comes known refl in
      record {
        unknown = other (λ e. cc) (has_not_lacks s d n h own);
        active_ = other (λ e. cc) (has_not s d n h (λ g. active s g.clock.0 ≡ true) own (λ on. cc));
        stopped = this is (h, own, off);
      }

  by : (o : Option HandleRow) → own_handle s d n ≡ o → RunningCauses s d n r
  by None lacks =
      let is = replies s s t d (event.Running n) r (reply.Refused errno.ENOENT) comes (running-unknown s d n lacks) refl in
      record {
        unknown = this is lacks;
        active_ = other (λ e. cc) (lacks_not_has s d n _ lacks);
        stopped = other (λ e. cc) (lacks_not_has s d n _ lacks);
      }
  by (Some h) own = told h (active s h.clock.0) own refl

-- ---- handles

some_held : (a b c : ℕ) → (nat_lt 0 a || nat_lt 0 b || nat_lt 0 c) ≡ true → (0 < a) ⊎ ((0 < b) ⊎ (0 < c))
some_held zero zero zero e = absurd cc
some_held zero zero (suc c) e = inr (inr (omega arith))
some_held zero (suc b) c e = inr (inl (omega arith))
some_held (suc a) b c e = inl (omega arith)

zero_from : (a : ℕ) → nat_lt 0 a ≡ false → 0 < a → ⊥
zero_from a e more = let is : nat_lt 0 a ≡ true = grind (arith, nat_tests) in let no : true ≡ false = sym is ∙ e in cc

none_held : (a b c : ℕ) → (nat_lt 0 a || nat_lt 0 b || nat_lt 0 c) ≡ false → (0 < a) ⊎ ((0 < b) ⊎ (0 < c)) → ⊥
none_held a b c e (inl more) = zero_from a (not_either (nat_lt 0 a) (nat_lt 0 b) (not_either (nat_lt 0 a || nat_lt 0 b) (nat_lt 0 c) e).0).0 more
none_held a b c e (inr (inl more)) = zero_from b (not_either (nat_lt 0 a) (nat_lt 0 b) (not_either (nat_lt 0 a || nat_lt 0 b) (nat_lt 0 c) e).0).1 more
none_held a b c e (inr (inr more)) = zero_from c (not_either (nat_lt 0 a || nat_lt 0 b) (nat_lt 0 c) e).1 more

-- the test tells whether a handle holds something
pub holds_tells : (row : HandleRow) → (holds_something row ≡ true → HoldsSomething row) × (holds_something row ≡ false → HoldsSomething row → ⊥)
holds_tells row = (some_held row.prepares row.enables row.exclusives, none_held row.prepares row.enables row.exclusives)

keeps : (row : HandleRow) → keeps_prepare row ≡ true → KeepsPrepare row
keeps row e = elim (nat_eq row.prepares 0) as (λ b. nat_eq row.prepares 0 ≡ b → (b || (nat_eq row.prepares 1 && nat_lt 0 row.enables)) ≡ true → KeepsPrepare row) [
  | true ↦ λ zero_ _. inl (grind (arith, nat_tests))
  | false ↦ λ more both. inr (grind (arith, nat_tests), grind (arith, nat_tests))
] refl e

gives_up : (row : HandleRow) → keeps_prepare row ≡ false → KeepsPrepare row → ⊥
gives_up row e (inl none_) = let no : nat_eq row.prepares 0 ≡ true = grind (arith, nat_tests) in let is : true ≡ false = sym (ap (λ (b : Bool). b || (nat_eq row.prepares 1 && nat_lt 0 row.enables)) no) ∙ e in cc
gives_up row e (inr one) =
    let p : nat_eq row.prepares 1 ≡ true = (let is = one.0 in grind (arith, nat_tests)) in
    let q : nat_lt 0 row.enables ≡ true = (let some = one.1 in grind (arith, nat_tests)) in
    absurd (three (nat_eq row.prepares 0) _ _ p q e) where
      three : (a b c : Bool) → b ≡ true → c ≡ true → (a || (b && c)) ≡ false → ⊥
      three true b c p q e = cc
      three false true true p q e = cc
      three false true false p q e = cc
      three false false c p q e = cc

-- and whether it keeps its prepare
pub keeps_tells : (row : HandleRow) → (keeps_prepare row ≡ true → KeepsPrepare row) × (keeps_prepare row ≡ false → KeepsPrepare row → ⊥)
keeps_tells row = (keeps row, gives_up row)
