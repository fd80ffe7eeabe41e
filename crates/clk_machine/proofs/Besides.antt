-- Enables and disables do the same in two states whose handles, links and holds are the same.
use Rattle.std.proofs.Common.{◌≡◌, ℕ, zero, suc, ◌+◌, ◌-◌, ◌<◌, ◌≤◌, ◌&&◌, Bool, true, false, cond, List, [], ◌∷◌, ◌++◌, Option, Some, None, refl, sym, ap, subst, ◌∙◌, arith, length, map, set, nat_lt}
use Rattle.std.proofs.lemmas.Bool.Decides.{nat_tests}
use Rattle.std.specs.Prelude.{filter, option_map, if◌then◌else◌, ◌==◌}
use Rattle.std.specs.Option.{option_map_or}
use Rattle.clk_base.specs.declared.event.Errno.TheVariants as errno
use Rattle.clk_base.specs.declared.event.Event.{Event}
use Rattle.clk_base.specs.declared.event.Event.TheVariants as event
use Rattle.clk_base.specs.declared.event.Reply.{Reply}
use Rattle.clk_base.specs.declared.event.Turn.{Turn}
use Rattle.clk_base.specs.Description.{Description, kind_of}
use Rattle.clk_base.specs.Fields.{GateBit, gate_of}
use Rattle.clk_base.specs.Flags.{is_critical}
use Rattle.clk_base.specs.Valid.{IsValid}
use Rattle.clk_model.specs.declared.row.ClockRow.{ClockRow}
use Rattle.clk_model.specs.declared.row.HandleRow.{HandleRow}
use Rattle.clk_model.specs.Begin.{done, pick, put_handle, refused, with_handle}
use Rattle.clk_model.specs.Gates.{settled}
use Rattle.clk_model.specs.Holders.{active, clocks_of, critical_clocks, enable_holders, is_enabled, is_held}
use Rattle.clk_model.specs.Kinds.{is_open}
use Rattle.clk_model.specs.Laws.Supplied.{FollowsGates}
use Rattle.clk_model.specs.Lists.{count_from, present}
use Rattle.clk_model.specs.Machine.{disabled, enabled, next, paid, running}
use Rattle.clk_model.specs.State.{State, handle_at, registered}
use Rattle.clk_model.specs.Tier.{is_enable_tier}
use Rattle.clk_model.proofs.GateLaws.{length-gates_moved}
use Rattle.clk_model.proofs.GatesFollowLaws.{settled_follows_gates}
use Rattle.clk_model.proofs.TierLaws.{paid_is}

-- ---- handles without their ranges

abbrev pub without_range : HandleRow → HandleRow
without_range h = record h { min = 0; max = 0 }

abbrev pub unranged : List (Option HandleRow) → List (Option HandleRow)
unranged handles = map (option_map without_range) handles

pub at_unranged : (handles : List (Option HandleRow)) (n : ℕ) → option_map without_range (handle_at handles n) ≡ handle_at (unranged handles) n
at_unranged [] n = refl
at_unranged (o ∷ handles) zero = refl
at_unranged (o ∷ handles) (suc n) = at_unranged handles n

pub set_unranged : (handles : List (Option HandleRow)) (n : ℕ) (o : Option HandleRow) → unranged (set handles n o) ≡ set (unranged handles) n (option_map without_range o)
set_unranged [] n o = refl
set_unranged (h ∷ handles) zero o = refl
set_unranged (h ∷ handles) (suc n) o = ap (λ (hs : List (Option HandleRow)). option_map without_range h ∷ hs) (set_unranged handles n o)

clocks_unranged : (handles : List (Option HandleRow)) → clocks_of is_enabled (unranged handles) ≡ clocks_of is_enabled handles
clocks_unranged [] = refl
clocks_unranged (None ∷ handles) = clocks_unranged handles
clocks_unranged (Some h ∷ handles) = by_test (is_enabled h) (clocks_unranged handles) where
  by_test : (t : Bool) → clocks_of is_enabled (unranged handles) ≡ clocks_of is_enabled handles
      → map (λ (r : HandleRow). r.clock.0) (cond t (without_range h ∷ filter is_enabled (present (unranged handles))) (filter is_enabled (present (unranged handles))))
      ≡ map (λ (r : HandleRow). r.clock.0) (cond t (h ∷ filter is_enabled (present handles)) (filter is_enabled (present handles)))
  by_test false rest = rest
  by_test true rest = ap (λ (xs : List ℕ). h.clock.0 ∷ xs) rest

-- ---- two states

-- a state has another one's clocks, enables and holds, and its gates are open and closed alike; in the other no more credits were spent
pub record Beside (words : ℕ) (u s : State) : Type 0 where
  pub valid : IsValid words u.defs
  pub size_u : length u.regs ≡ words
  pub size_s : length s.regs ≡ words
  pub defs : s.defs ≡ u.defs
  pub clocks : s.clocks ≡ u.clocks
  pub holds : s.enable_holds ≡ u.enable_holds
  pub handles : unranged s.handles ≡ unranged u.handles
  pub credits : s.credits ≡ u.credits
  pub spent : u.spent ≤ s.spent
  pub gates : (c : ℕ) (gate : GateBit) → gate_of (kind_of u.defs c) ≡ Some gate → is_open s.regs gate ≡ is_open u.regs gate

-- the same clocks are active then
pub who_is_active : (u s : State) → s.defs ≡ u.defs → s.clocks ≡ u.clocks → s.enable_holds ≡ u.enable_holds → unranged s.handles ≡ unranged u.handles → (c : ℕ) → active s c ≡ active u c
who_is_active u s defs clocks holds handles c =
    ap (λ (rows : List ClockRow). is_held rows (enable_holders s) c) clocks ∙ ap (λ (hs : List ℕ). is_held u.clocks hs c) holders where
      critical : critical_clocks s ≡ critical_clocks u
      critical =
          ap (λ (ds : Description). filter (λ x. is_critical ds x && registered s.clocks x) (count_from 0 (length ds))) defs
          ∙ ap (λ (rows : List ClockRow). filter (λ x. is_critical u.defs x && registered rows x) (count_from 0 (length u.defs))) clocks

      holders : enable_holders s ≡ enable_holders u
      holders =
          ap (λ (xs : List ℕ). xs ++ critical_clocks s ++ s.enable_holds) (sym (clocks_unranged s.handles) ∙ ap (λ (hs : List (Option HandleRow)). clocks_of is_enabled hs) handles ∙ clocks_unranged u.handles)
          ∙ ap (λ (xs : List ℕ). clocks_of is_enabled u.handles ++ xs ++ s.enable_holds) critical
          ∙ ap (λ (xs : List ℕ). clocks_of is_enabled u.handles ++ critical_clocks u ++ xs) holds

-- gates that follow the same clocks stay alike
settled_both : (u s u' s' : State) → IsValid (length u'.regs) u'.defs → IsValid (length s'.regs) s'.defs → s'.defs ≡ u'.defs → ((c : ℕ) → active s c ≡ active u c) → ((c : ℕ) → active s' c ≡ active u' c)
    → ((c : ℕ) (gate : GateBit) → gate_of (kind_of u'.defs c) ≡ Some gate → is_open s'.regs gate ≡ is_open u'.regs gate)
    → (c : ℕ) (gate : GateBit) → gate_of (kind_of u'.defs c) ≡ Some gate → is_open (settled s s').regs gate ≡ is_open (settled u u').regs gate
settled_both u s u' s' valid_u valid_s defs before after gates c gate at = both (active u c) (active u' c) refl refl where
  of_s : FollowsGates s s' (settled s s')
  of_s = settled_follows_gates s s' valid_s

  of_u : FollowsGates u u' (settled u u')
  of_u = settled_follows_gates u u' valid_u

  at_s : gate_of (kind_of s'.defs c) ≡ Some gate
  at_s = ap (λ (ds : Description). gate_of (kind_of ds c)) defs ∙ at

  both : (b a : Bool) → active u c ≡ b → active u' c ≡ a → is_open (settled s s').regs gate ≡ is_open (settled u u').regs gate
  both false true e f = of_s.opens c gate at_s (before c ∙ e) (after c ∙ f) ∙ sym (of_u.opens c gate at e f)
  both true false e f = of_s.closes c gate at_s (before c ∙ e) (after c ∙ f) ∙ sym (of_u.closes c gate at e f)
  both true true e f = of_s.stays c gate at_s (before c ∙ e ∙ sym f ∙ sym (after c)) ∙ gates c gate at ∙ sym (of_u.stays c gate at (e ∙ sym f))
  both false false e f = of_s.stays c gate at_s (before c ∙ e ∙ sym f ∙ sym (after c)) ∙ gates c gate at ∙ sym (of_u.stays c gate at (e ∙ sym f))

-- ---- events of the enable tier

-- two answers change nothing but handles, which stay the same but for their ranges
record Acts (u s : State) (y z : State × Turn) : Type 0 where
  mine : List (Option HandleRow)
  others : List (Option HandleRow)
  here : y.0 ≡ record s { handles = mine }
  there : z.0 ≡ record u { handles = others }
  same : unranged mine ≡ unranged others

idle : (u s : State) (r q : Reply) → unranged s.handles ≡ unranged u.handles → Acts u s (done s r) (done u q)
idle u s r q same = record { mine = s.handles; others = u.handles; here = refl; there = refl; same = same }

written : (u s : State) (n : ℕ) (h k : HandleRow) (r q : Reply) → unranged s.handles ≡ unranged u.handles → without_range h ≡ without_range k
    → Acts u s (done (put_handle s n (Some h)) r) (done (put_handle u n (Some k)) q)
written u s n h k r q same row = record {
  mine = set s.handles n (Some h);
  others = set u.handles n (Some k);
  here = refl;
  there = refl;
  same =
      set_unranged s.handles n (Some h) ∙ ap (λ (hs : List (Option HandleRow)). set hs n (Some (without_range h))) same
      ∙ ap (λ (x : HandleRow). set (unranged u.handles) n (Some x)) row ∙ sym (set_unranged u.handles n (Some k));
}

picked : (u s : State) (t t' : Bool) (f g f' g' : Unit {0} → State × Turn) → t ≡ t' → Acts u s (f tt) (f' tt) → Acts u s (g tt) (g' tt) → Acts u s (pick t f g) (pick t' f' g')
unfolding pick
picked u s true true f g f' g' e a b = a
picked u s false false f g f' g' e a b = b
picked u s true false f g f' g' e a b = absurd cc
picked u s false true f g f' g' e a b = absurd cc

on_handles : (u s : State) (d n : ℕ) (f g : HandleRow → State × Turn) → unranged s.handles ≡ unranged u.handles → ((h k : HandleRow) → without_range h ≡ without_range k → Acts u s (f h) (g k))
    → Acts u s (with_handle s d n f) (with_handle u d n g)
on_handles u s d n f g same each =
    two (handle_at s.handles n) (handle_at u.handles n) (at_unranged s.handles n ∙ ap (λ (hs : List (Option HandleRow)). handle_at hs n) same ∙ sym (at_unranged u.handles n)) where
      own : (h k : HandleRow) → without_range h ≡ without_range k → (t t' : Bool) → t ≡ t'
          → Acts u s (option_map_or f (if t then Some h else None) (refused s errno.ENOENT)) (option_map_or g (if t' then Some k else None) (refused u errno.ENOENT))
      own h k row true true e = each h k row
      own h k row false false e = idle u s _ _ same
      own h k row true false e = absurd cc
      own h k row false true e = absurd cc

      two : (o p : Option HandleRow) → option_map without_range o ≡ option_map without_range p
          → Acts u s (option_map_or f (option_map_or (λ h. if h.driver == d then Some h else None) o None) (refused s errno.ENOENT))
          (option_map_or g (option_map_or (λ h. if h.driver == d then Some h else None) p None) (refused u errno.ENOENT))
      two None None e = idle u s _ _ same
      two None (Some k) e = absurd cc
      two (Some h) None e = absurd cc
      two (Some h) (Some k) e =
          let row : without_range h ≡ without_range k = cc in
          own h k row (h.driver == d) (k.driver == d) (ap (λ (r : HandleRow). r.driver == d) row)

enable_acts : (u s : State) (d n : ℕ) → unranged s.handles ≡ unranged u.handles → Acts u s (with_handle s d n (enabled s n)) (with_handle u d n (enabled u n))
enable_acts u s d n same =
    on_handles u s d n (enabled s n) (enabled u n) same
    (λ h k row. picked u s (h.prepares == 0) (k.prepares == 0) _ _ _ _ (ap (λ (r : HandleRow). r.prepares == 0) row) (idle u s _ _ same)
    (written u s n (record h { enables = h.enables + 1 }) (record k { enables = k.enables + 1 }) _ _ same (ap (λ (r : HandleRow). let x : HandleRow = record r { enables = r.enables + 1 } in x) row)))

disable_acts : (u s : State) (d n : ℕ) → unranged s.handles ≡ unranged u.handles → Acts u s (with_handle s d n (disabled s n)) (with_handle u d n (disabled u n))
disable_acts u s d n same =
    on_handles u s d n (disabled s n) (disabled u n) same
    (λ h k row. picked u s (h.enables == 0) (k.enables == 0) _ _ _ _ (ap (λ (r : HandleRow). r.enables == 0) row) (idle u s _ _ same)
    (written u s n (record h { enables = h.enables - 1 }) (record k { enables = k.enables - 1 }) _ _ same (ap (λ (r : HandleRow). let x : HandleRow = record r { enables = r.enables - 1 } in x) row)))

running_acts : (u s : State) (d n : ℕ) → unranged s.handles ≡ unranged u.handles → Acts u s (with_handle s d n (running s)) (with_handle u d n (running u))
running_acts u s d n same = on_handles u s d n (running s) (running u) same (λ h k row. idle u s _ _ same)

-- what an event leads to beside another
pub record GoesBeside (words : ℕ) (u : State) (d : ℕ) (e : Event) (t : State) : Type 0 where
  pub to : State
  pub turn_ : Turn
  pub step : next u d e ≡ Some (to, turn_)
  pub beside : Beside words to t

paid_left : (s t : State) (y : State × Turn) (x : Turn) → paid s y ≡ Some (t, x) → s.spent < s.credits
paid_left s t y x step = by (nat_lt s.spent s.credits) refl step where
  by : (b : Bool) → nat_lt s.spent s.credits ≡ b → cond {A = Option (State × Turn)} b (Some (record (settled s y.0) { spent = s.spent + 1 }, y.1)) None ≡ Some (t, x) → s.spent < s.credits
  by true e f = grind (arith, nat_tests)
  by false e f = absurd cc

paid_goes : (u : State) (z : State × Turn) → u.spent < u.credits → paid u z ≡ Some (record (settled u z.0) { spent = u.spent + 1 }, z.1)
paid_goes u z left =
    let some : nat_lt u.spent u.credits ≡ true = grind (arith, nat_tests) in
    ap (λ (b : Bool). cond {A = Option (State × Turn)} b (Some (record (settled u z.0) { spent = u.spent + 1 }, z.1)) None) some

goes_beside : (words : ℕ) (u s t : State) (d : ℕ) (e : Event) (x : Turn) (y z : State × Turn) → Beside words u s → next s d e ≡ paid s y → next u d e ≡ paid u z → Acts u s y z
    → next s d e ≡ Some (t, x) → GoesBeside words u d e t
unfolding settled
goes_beside words u s t d e x y z is here there acts step =
    let took : paid s y ≡ Some (t, x) = sym here ∙ step in
    let left = paid_left s t y x took in
    let more : u.spent < u.credits = let one = is.credits in let two = is.spent in omega arith in
    let s' : State = record s { handles = acts.mine } in
    let u' : State = record u { handles = acts.others } in
    let to : State = record (settled u u') { spent = u.spent + 1 } in
    let at : record (settled s s') { spent = s.spent + 1 } ≡ t =
    ap (λ (v : State). let w : State = record (settled s v) { spent = s.spent + 1 } in w) (sym acts.here) ∙ (paid_is s t y x took).0 in
    let before = who_is_active u s is.defs is.clocks is.holds is.handles in
    let after = who_is_active u' s' is.defs is.clocks is.holds acts.same in
    let valid_u : IsValid (length u.regs) u.defs = subst (λ (n : ℕ). IsValid n u.defs) (sym is.size_u) is.valid in
    let valid_s : IsValid (length s.regs) s.defs = subst (λ (n : ℕ). IsValid n s.defs) (sym is.size_s) (subst (λ (ds : Description). IsValid words ds) (sym is.defs) is.valid) in
    record {
      to = to;
      turn_ = z.1;
      step = there ∙ paid_goes u z more ∙ ap (λ (v : State). let w : State × Turn = (record (settled u v) { spent = u.spent + 1 }, z.1) in Some w) acts.there;
      beside = subst (λ (v : State). Beside words to v) at (record {
        valid = is.valid;
        size_u = length-gates_moved u'.defs (active u) (active u') (count_from 0 (length u'.defs)) u'.regs ∙ is.size_u;
        size_s = length-gates_moved s'.defs (active s) (active s') (count_from 0 (length s'.defs)) s'.regs ∙ is.size_s;
        defs = is.defs;
        clocks = is.clocks;
        holds = is.holds;
        handles = acts.same;
        credits = is.credits;
        spent = let two = is.spent in omega arith;
        gates = settled_both u s u' s' valid_u valid_s is.defs before after is.gates;
      });
    }

-- an event of the enable tier keeps two states alike
pub tier_beside : (words : ℕ) (u s t : State) (d : ℕ) (e : Event) (x : Turn) → is_enable_tier e ≡ true → Beside words u s → next s d e ≡ Some (t, x) → GoesBeside words u d e t
unfolding next
tier_beside words u s t d (event.Enable n) x tier is step = goes_beside words u s t d (event.Enable n) x _ _ is refl refl (enable_acts u s d n is.handles) step
tier_beside words u s t d (event.Disable n) x tier is step = goes_beside words u s t d (event.Disable n) x _ _ is refl refl (disable_acts u s d n is.handles) step
tier_beside words u s t d (event.Running n) x tier is step = goes_beside words u s t d (event.Running n) x _ _ is refl refl (running_acts u s d n is.handles) step
tier_beside words u s t d (event.Begin what) x tier is step = absurd cc
tier_beside words u s t d (event.Step m answer) x tier is step = absurd cc
