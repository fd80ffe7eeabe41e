-- Each call begins for its cause.
use Rattle.std.proofs.Common.{◌≡◌, ℕ, ℤ, ◌<◌, ◌≤◌, ◌&&◌, ◌||◌, Bool, true, false, not, cond, List, [], Option, Some, None, refl, sym, ap, subst, ◌∙◌, ◌⊎◌, inl, inr, arith, nat_eq, nat_le, length}
use Rattle.std.specs.Prelude.{option_map, slice_get, is_none, is_some}
use Rattle.std.proofs.lemmas.Bool.Decides.{nat_tests}
use Rattle.std.proofs.lemmas.Bool.{and_from, not-true}
use Rattle.clk_base.specs.declared.call.Sleeping.{Sleeping}
use Rattle.clk_base.specs.declared.call.Sleeping.TheVariants as call
use Rattle.clk_base.specs.declared.event.Errno.TheVariants as errno
use Rattle.clk_base.specs.declared.event.Event.{Event}
use Rattle.clk_base.specs.declared.event.Event.TheVariants as event
use Rattle.clk_base.specs.declared.event.Reply.{Reply}
use Rattle.clk_base.specs.declared.event.Reply.TheVariants as reply
use Rattle.clk_base.specs.declared.event.Turn.{Turn}
use Rattle.clk_base.specs.declared.event.Turn.TheVariants as turn
use Rattle.clk_base.specs.declared.handle.Policy.{Policy}
use Rattle.clk_base.specs.Description.{kind_of, parents_of}
use Rattle.clk_base.specs.Fields.{Field}
use Rattle.clk_base.specs.Flags.{is_critical, sets_parent_gate}
use Rattle.clk_model.specs.declared.row.HandleRow.{HandleRow}
use Rattle.clk_model.specs.Lists.{is_in}
use Rattle.clk_model.specs.Kinds.{mux_field, is_read_only}
use Rattle.clk_model.specs.State.{State, Change, is_quiet, registered, link_in}
use Rattle.clk_model.specs.Tree.{path_to_be, rooted}
use Rattle.clk_model.specs.Rate.{rate}
use Rattle.clk_model.specs.Holders.{active, prepared, guarded}
use Rattle.clk_model.specs.Chain.{clock_id}
use Rattle.clk_model.specs.Notices.{notifiers_of}
use Rattle.clk_model.specs.Views.{lift}
use Rattle.clk_model.specs.Script.{unprepared_plls, adoptable, probe_script, sweep_script}
use Rattle.clk_model.specs.Begin.{done, starts, change_of, with_handle, put_back, prepare, unprepare, rounded, request, range_set, reparenting, parent_set, exclusive_put, most_notifiers, notifier_added, notifier_removed, register, probed, swept, held_once_more, begun}
use Rattle.clk_model.specs.Machine.{enabled, disabled, running, paid, next}
use Rattle.clk_model.specs.Journal.{slotless}
use Rattle.clk_model.specs.Tier.{is_enable_tier}
use Rattle.clk_model.specs.Laws.CallCauses.{refusal, fine, PutTurns, PrepareTurns, UnprepareTurns, RoundTurns, RequestTurns, RangeTurns, IsBound, IsBusy, IsCandidate, MayMove, ParentTurns, ExclusivePutTurns, NotifierAddTurns, NotifierRemoveTurns, IsPlain, ProbeTurns, SweepTurns, CallTurns, CallsHaveCauses, TierHasCauses}
use Rattle.clk_model.proofs.CauseLaws.{enable_causes, disable_causes, running_causes}
use Rattle.clk_model.proofs.Members.{or_cases, or_right, both_left, both_right, not_either}
use Rattle.clk_model.proofs.TierLaws.{pick_either, with_handle_either, paid_is}
use Rattle.clk_model.proofs.RateCauseLaws.{get_turns, put_turns, prepare_turns, unprepare_turns, round_turns, request_turns, range_turns}
use Rattle.clk_model.proofs.TurnLaws.{came, not_came, not_at, started, rest_is, no_answer, rest_not, only_unknown, on_handle, HowStarted, Known}
use Rattle.clk_model.proofs.BeginSafeLaws.{first_none}
use Rattle.clk_model.proofs.WalkLaws.{is_at_same}

-- ---- parents

bound_is : (s : State) (c : ℕ) → (is_read_only (kind_of s.defs c) && nat_le 2 (length (parents_of s.defs c))) ≡ true → IsBound s c
bound_is s c e =
    let few = both_right (is_read_only (kind_of s.defs c)) (nat_le 2 (length (parents_of s.defs c))) e in
    (both_left (is_read_only (kind_of s.defs c)) (nat_le 2 (length (parents_of s.defs c))) e, grind (arith, nat_tests))

bound_not : (s : State) (c : ℕ) → (is_read_only (kind_of s.defs c) && nat_le 2 (length (parents_of s.defs c))) ≡ false → IsBound s c → ⊥
bound_not s c e (read, more) =
    let few : nat_le 2 (length (parents_of s.defs c)) ≡ true = grind (arith, nat_tests) in
    let both : (is_read_only (kind_of s.defs c) && nat_le 2 (length (parents_of s.defs c))) ≡ true = and_from (is_read_only (kind_of s.defs c)) (nat_le 2 (length (parents_of s.defs c))) read few in
    cc

busy_is : (s lifted : State) (c : ℕ) → ((sets_parent_gate s.defs c && prepared s c) || guarded lifted c) ≡ true → IsBusy s lifted c
busy_is s lifted c e = by (or_cases (sets_parent_gate s.defs c && prepared s c) (guarded lifted c) e) where
  by : ((sets_parent_gate s.defs c && prepared s c) ≡ true) ⊎ (guarded lifted c ≡ true) → IsBusy s lifted c
  by (inl keeps) = inl (both_left (sets_parent_gate s.defs c) (prepared s c) keeps, both_right (sets_parent_gate s.defs c) (prepared s c) keeps)
  by (inr guards) = inr guards

busy_not : (s lifted : State) (c : ℕ) → ((sets_parent_gate s.defs c && prepared s c) || guarded lifted c) ≡ false → IsBusy s lifted c → ⊥
busy_not s lifted c e (inl keeps) =
    let both = and_from (sets_parent_gate s.defs c) (prepared s c) keeps.0 keeps.1 in
    let no = (not_either (sets_parent_gate s.defs c && prepared s c) (guarded lifted c) e).0 in
    cc
busy_not s lifted c e (inr guards) = let no = (not_either (sets_parent_gate s.defs c && prepared s c) (guarded lifted c) e).1 in cc

some_is : (o : Option Field) → is_some o ≡ true → o ≡ None → ⊥
some_is None e none = cc
some_is (Some f) e none = cc

is_some_from : (o : Option Field) → (o ≡ None → ⊥) → is_some o ≡ true
is_some_from None never = absurd (never refl)
is_some_from (Some f) never = refl

candidate_is : (s : State) (c p : ℕ) → (is_some (mux_field (kind_of s.defs c)) && is_in p (parents_of s.defs c) && rooted s.defs s.clocks p) ≡ true → IsCandidate s c p
candidate_is s c p e =
    let first = both_left (is_some (mux_field (kind_of s.defs c)) && is_in p (parents_of s.defs c)) (rooted s.defs s.clocks p) e in
    record {
      mux = some_is (mux_field (kind_of s.defs c)) (both_left (is_some (mux_field (kind_of s.defs c))) (is_in p (parents_of s.defs c)) first);
      parent = both_right (is_some (mux_field (kind_of s.defs c))) (is_in p (parents_of s.defs c)) first;
      root = both_right (is_some (mux_field (kind_of s.defs c)) && is_in p (parents_of s.defs c)) (rooted s.defs s.clocks p) e;
    }

candidate_not : (s : State) (c p : ℕ) → (is_some (mux_field (kind_of s.defs c)) && is_in p (parents_of s.defs c) && rooted s.defs s.clocks p) ≡ false → IsCandidate s c p → ⊥
candidate_not s c p e is =
    let first = and_from (is_some (mux_field (kind_of s.defs c))) (is_in p (parents_of s.defs c)) (is_some_from (mux_field (kind_of s.defs c)) is.mux) is.parent in
    let all = and_from (is_some (mux_field (kind_of s.defs c)) && is_in p (parents_of s.defs c)) (rooted s.defs s.clocks p) first is.root in
    cc

parent_turns : (s lifted : State) (d : ℕ) (what : Sleeping) (c p : ℕ) → Known (ParentTurns s lifted d what c p) (parent_set s lifted d what c p)
parent_turns s lifted d what c p =
    pick_either (Known (ParentTurns s lifted d what c p)) _ _ _
    (λ e. let at = is_at_same p (link_in s.clocks c) e in (
      record {
        done = came refl at;
        bound = not_came (λ is. cc) (λ why. why.0 at);
        busy = not_came (λ is. cc) (λ why. why.0 at);
        no_candidate = not_came (λ is. cc) (λ why. why.0.another at);
        rest = rest_not fine left s k (λ is. cc) (λ is. cc) (λ why. why.0.another at);
      },
      λ is. cc,
    ))
    (λ e. let away = not_at p (link_in s.clocks c) e in
    pick_either (Known (ParentTurns s lifted d what c p)) _ _ _
    (λ b. let bound = bound_is s c b in (
      record {
        done = not_came (λ is. cc) away;
        bound = came refl (away, bound);
        busy = not_came (λ is. cc) (λ why. why.1 bound);
        no_candidate = not_came (λ is. cc) (λ why. why.0.unbound bound);
        rest = rest_not (refusal errno.EPERM) left s k (λ is. cc) (λ is. cc) (λ why. why.0.unbound bound);
      },
      λ is. cc,
    ))
    (λ b. let unbound = bound_not s c b in
    pick_either (Known (ParentTurns s lifted d what c p)) _ _ _
    (λ g. let busy = busy_is s lifted c g in (
      record {
        done = not_came (λ is. cc) away;
        bound = not_came (λ is. cc) (λ why. unbound why.1);
        busy = came refl (away, unbound, busy);
        no_candidate = not_came (λ is. cc) (λ why. why.0.idle busy);
        rest = rest_not (refusal errno.EBUSY) left s k (λ is. cc) (λ is. cc) (λ why. why.0.idle busy);
      },
      λ is. cc,
    ))
    (λ g. let idle = busy_not s lifted c g in
    let may : MayMove s lifted c p = record { another = away; unbound = unbound; idle = idle } in
    pick_either (Known (ParentTurns s lifted d what c p)) _ _ _
    (λ h. goes may (candidate_is s c p h) (starts s s k).1 (started s s k))
    (λ h. let never = candidate_not s c p h in (
      record {
        done = not_came (λ is. cc) away;
        bound = not_came (λ is. cc) (λ why. unbound why.1);
        busy = not_came (λ is. cc) (λ why. idle why.2);
        no_candidate = came refl (may, never);
        rest = rest_not (refusal errno.EINVAL) left s k (λ is. cc) (λ is. cc) (λ why. never why.1);
      },
      λ is. cc,
    ))))) where
      k : Change
      k = reparenting s d what c p

      left : Type 0
      left = MayMove s lifted c p × IsCandidate s c p

      goes : MayMove s lifted c p → IsCandidate s c p → (given : Turn) → HowStarted given s k → ParentTurns s lifted d what c p given × (given ≡ refusal errno.ENOENT → ⊥)
      goes may is given how = (
        record {
          done = not_came (no_answer given fine s k how (λ is. cc) (λ is. cc)) may.another;
          bound = not_came (no_answer given (refusal errno.EPERM) s k how (λ is. cc) (λ is. cc)) (λ why. may.unbound why.1);
          busy = not_came (no_answer given (refusal errno.EBUSY) s k how (λ is. cc) (λ is. cc)) (λ why. may.idle why.2);
          no_candidate = not_came (no_answer given (refusal errno.EINVAL) s k how (λ is. cc) (λ is. cc)) (λ why. why.1 is);
          rest = rest_is given left s k how (may, is);
        },
        no_answer given (refusal errno.ENOENT) s k how (λ is. cc) (λ is. cc),
      )

-- ---- exclusives and notifiers

exclusive_turns : (s : State) (number : ℕ) (row : HandleRow) → Known (ExclusivePutTurns row) (exclusive_put s number row)
exclusive_turns s number row =
    pick_either (Known (ExclusivePutTurns row)) _ _ _
    (λ e. (record { none = came refl (grind (arith, nat_tests)); done = not_came (λ is. cc) (λ some. grind (arith, nat_tests)) }, λ is. cc))
    (λ e. (record { none = not_came (λ is. cc) (λ none. grind (arith, nat_tests)); done = came refl (grind (arith, nat_tests)) }, λ is. cc))

added_turns : (s : State) (c id : ℕ) (priority : ℤ) (policy : Policy) → Known (NotifierAddTurns s c id) (notifier_added s c id priority policy)
added_turns s c id priority policy =
    pick_either (Known (NotifierAddTurns s c id)) _ _ _
    (λ e. (record { known = came refl e; full = not_came (λ is. cc) (λ why. let no = why.0 in cc); done = not_came (λ is. cc) (λ why. let no = why.0 in cc) }, λ is. cc))
    (λ e. pick_either (Known (NotifierAddTurns s c id)) _ _ _
    (λ f. let many : most_notifiers ≤ length (notifiers_of s.notifiers c) = grind (arith, nat_tests) in
    (record { known = not_came (λ is. cc) (λ is. cc); full = came refl (e, many); done = not_came (λ is. cc) (λ why. let few = why.1 in omega arith) }, λ is. cc))
    (λ f. let few : length (notifiers_of s.notifiers c) < most_notifiers = grind (arith, nat_tests) in
    (record { known = not_came (λ is. cc) (λ is. cc); full = not_came (λ is. cc) (λ why. let many = why.1 in omega arith); done = came refl (e, few) }, λ is. cc)))

removed_turns : (s : State) (c id : ℕ) → NotifierRemoveTurns s c id (notifier_removed s c id).1
removed_turns s c id =
    pick_either (λ y. NotifierRemoveTurns s c id y.1) _ _ _
    (λ e. record { lacking = not_came (λ is. cc) (λ no. cc); done = came refl e })
    (λ e. record { lacking = came refl e; done = not_came (λ is. cc) (λ no. cc) })

-- ---- registration and the sweep

plain_is : (s : State) (c : ℕ) → (is_none (slice_get (adoptable (register s c)) 0) && (not (is_critical s.defs c) || is_none (slice_get (unprepared_plls s (path_to_be s.defs s.regs s.clocks c)) 0))) ≡ true
    → IsPlain s c
plain_is s c e =
    let first = both_left (is_none (slice_get (adoptable (register s c)) 0)) _ e in
    let second = both_right (is_none (slice_get (adoptable (register s c)) 0)) _ e in
    (first_none (adoptable (register s c)) first, by (or_cases (not (is_critical s.defs c)) (is_none (slice_get (unprepared_plls s (path_to_be s.defs s.regs s.clocks c)) 0)) second)) where
      by : (not (is_critical s.defs c) ≡ true) ⊎ (is_none (slice_get (unprepared_plls s (path_to_be s.defs s.regs s.clocks c)) 0) ≡ true)
          → (is_critical s.defs c ≡ false) ⊎ (unprepared_plls s (path_to_be s.defs s.regs s.clocks c) ≡ [])
      by (inl off) = inl (not-true (is_critical s.defs c) off)
      by (inr none) = inr (first_none (unprepared_plls s (path_to_be s.defs s.regs s.clocks c)) none)

plain_not : (s : State) (c : ℕ) → (is_none (slice_get (adoptable (register s c)) 0) && (not (is_critical s.defs c) || is_none (slice_get (unprepared_plls s (path_to_be s.defs s.regs s.clocks c)) 0))) ≡ false
    → IsPlain s c → ⊥
plain_not s c e plain =
    let first : is_none (slice_get (adoptable (register s c)) 0) ≡ true = ap (λ (cs : List ℕ). is_none (slice_get cs 0)) plain.0 in
    let second : (not (is_critical s.defs c) || is_none (slice_get (unprepared_plls s (path_to_be s.defs s.regs s.clocks c)) 0)) ≡ true = by plain.1 in
    let both = and_from (is_none (slice_get (adoptable (register s c)) 0)) _ first second in
    cc where
      by : (is_critical s.defs c ≡ false) ⊎ (unprepared_plls s (path_to_be s.defs s.regs s.clocks c) ≡ [])
          → (not (is_critical s.defs c) || is_none (slice_get (unprepared_plls s (path_to_be s.defs s.regs s.clocks c)) 0)) ≡ true
      by (inl off) = ap (λ (b : Bool). not b || is_none (slice_get (unprepared_plls s (path_to_be s.defs s.regs s.clocks c)) 0)) off
      by (inr none) = or_right (not (is_critical s.defs c)) _ (ap (λ (cs : List ℕ). is_none (slice_get cs 0)) none)

probe_turns : (s : State) (d : ℕ) (what : Sleeping) (c : ℕ) → ProbeTurns s d what c (probed s d what c).1
probe_turns s d what c =
    pick_either (λ y. ProbeTurns s d what c y.1) _ _ _
    (λ e. record { known = came refl e; done = not_came (λ is. cc) (λ why. let no = why.0 in cc); rest = rest_not (refusal errno.EEXIST) left s k (λ is. cc) (λ is. cc) (λ why. let no = why.0 in cc) })
    (λ e. pick_either (λ y. ProbeTurns s d what c y.1) _ _ _
    (λ f. let plain = plain_is s c f in
    record { known = not_came (λ is. cc) (λ is. cc); done = came refl (e, plain); rest = rest_not fine left s k (λ is. cc) (λ is. cc) (λ why. why.1 plain) })
    (λ f. goes e (plain_not s c f) (starts s s k).1 (started s s k))) where
      k : Change
      k = change_of s d what (probe_script (register s c) c)

      left : Type 0
      left = (registered s.clocks c ≡ false) × (IsPlain s c → ⊥)

      goes : registered s.clocks c ≡ false → (IsPlain s c → ⊥) → (given : Turn) → HowStarted given s k → ProbeTurns s d what c given
      goes free more given how = record {
        known = not_came (no_answer given (refusal errno.EEXIST) s k how (λ is. cc) (λ is. cc)) (λ is. cc);
        done = not_came (no_answer given fine s k how (λ is. cc) (λ is. cc)) (λ why. more why.1);
        rest = rest_is given left s k how (free, more);
      }

sweep_turns : (s : State) (d : ℕ) (what : Sleeping) → SweepTurns s d what (swept s d what).1
sweep_turns s d what =
    pick_either (λ y. SweepTurns s d what y.1) _ _ _
    (λ e. record { done = came refl e; rest = rest_not fine (s.ignore_unused ≡ false) s k (λ is. cc) (λ is. cc) (λ no. cc) })
    (λ e. goes e (starts s s k).1 (started s s k)) where
      k : Change
      k = change_of s d what (sweep_script s)

      goes : s.ignore_unused ≡ false → (given : Turn) → HowStarted given s k → SweepTurns s d what given
      goes on given how = record { done = not_came (no_answer given fine s k how (λ is. cc) (λ is. cc)) (λ is. cc); rest = rest_is given (s.ignore_unused ≡ false) s k how on }

-- ---- each call

begun_turns : (s : State) (d : ℕ) (what : Sleeping) → CallTurns s d what (begun s d what).1
unfolding begun
begun_turns s d (call.Get found) = get_turns s d found
begun_turns s d (call.Put h) = only_unknown s d h.number (put_back s h.number) PutTurns (put_turns s h.number)
begun_turns s d (call.Prepare h) = only_unknown s d h.number (prepare s d (call.Prepare h) h.number) (PrepareTurns s d (call.Prepare h)) (prepare_turns s d (call.Prepare h) h.number)
begun_turns s d (call.Unprepare h) =
    only_unknown s d h.number (unprepare s d (call.Unprepare h) h.number) (UnprepareTurns s d (call.Unprepare h) h.number) (unprepare_turns s d (call.Unprepare h) h.number)
begun_turns s d (call.GetRate h) =
    only_unknown s d h.number (λ row. done s (reply.Rate (rate s.defs s.regs s.clocks row.clock.0))) (λ row x. x ≡ turn.Done (reply.Rate (rate s.defs s.regs s.clocks row.clock.0))) (λ row. (refl, λ is. cc))
begun_turns s d (call.RoundRate h y) = only_unknown s d h.number (λ row. rounded s h.number row y) (λ row. RoundTurns s h.number row y) (λ row. round_turns s h.number row y)
begun_turns s d (call.SetRate h y) =
    only_unknown s d h.number (λ row. request s s s (lift s h.number) d (call.SetRate h y) row.clock.0 y None) (λ row. RequestTurns s (lift s h.number) d (call.SetRate h y) row.clock.0 y None)
    (λ row. request_turns s s s (lift s h.number) d (call.SetRate h y) row.clock.0 y None)
begun_turns s d (call.SetRateExclusive h y) =
    only_unknown s d h.number (λ row. request s s (held_once_more s h.number row) s d (call.SetRateExclusive h y) row.clock.0 y None)
    (λ row. RequestTurns s s d (call.SetRateExclusive h y) row.clock.0 y None)
    (λ row. request_turns s s (held_once_more s h.number row) s d (call.SetRateExclusive h y) row.clock.0 y None)
begun_turns s d (call.SetRange h least most) =
    only_unknown s d h.number (λ row. range_set s d (call.SetRange h least most) h.number row least most) (λ row. RangeTurns s d (call.SetRange h least most) h.number row least most)
    (λ row. range_turns s d (call.SetRange h least most) h.number row least most)
begun_turns s d (call.SetParent h p) =
    only_unknown s d h.number (λ row. parent_set s (lift s h.number) d (call.SetParent h p) row.clock.0 p.0) (λ row. ParentTurns s (lift s h.number) d (call.SetParent h p) row.clock.0 p.0)
    (λ row. parent_turns s (lift s h.number) d (call.SetParent h p) row.clock.0 p.0)
begun_turns s d (call.GetParent h) =
    only_unknown s d h.number (λ row. done s (reply.Clock (option_map clock_id (link_in s.clocks row.clock.0)))) (λ row x. x ≡ turn.Done (reply.Clock (option_map clock_id (link_in s.clocks row.clock.0))))
    (λ row. (refl, λ is. cc))
begun_turns s d (call.ExclusiveGet h) = only_unknown s d h.number (λ row. done (held_once_more s h.number row) reply.Fine) (λ row x. x ≡ fine) (λ row. (refl, λ is. cc))
begun_turns s d (call.ExclusivePut h) = only_unknown s d h.number (exclusive_put s h.number) ExclusivePutTurns (exclusive_turns s h.number)
begun_turns s d (call.NotifierAdd h id priority policy) =
    only_unknown s d h.number (λ row. notifier_added s row.clock.0 id priority policy) (λ row. NotifierAddTurns s row.clock.0 id) (λ row. added_turns s row.clock.0 id priority policy)
begun_turns s d (call.NotifierRemove h id) =
    on_handle s d h.number (λ row. notifier_removed s row.clock.0 id) (λ row. NotifierRemoveTurns s row.clock.0 id) (λ row. removed_turns s row.clock.0 id)
begun_turns s d (call.Probe c) = probe_turns s d (call.Probe c) c.0
begun_turns s d call.Sweep = sweep_turns s d call.Sweep

-- each call begins for its cause
pub calls_have_causes : CallsHaveCauses
unfolding next
calls_have_causes s t d what x comes = by s.change refl comes where
  by : (o : Option Change) → s.change ≡ o → cond (is_quiet o) (paid s (begun s d what)) None ≡ Some (t, x) → (s.change ≡ None) × CallTurns s d what x
  by None quiet some = (quiet, subst (λ (y : Turn). CallTurns s d what y) (paid_is s t (begun s d what) x some).1 (begun_turns s d what))
  by (Some k) busy some = absurd cc

-- ---- the enable tier

-- whether a turn is an answer without a handle
abbrev is_plain : Turn → Bool
is_plain turn.Going = false
is_plain (turn.Done (reply.Handle h)) = false
is_plain _ = true

abbrev IsPlainAnswer : State × Turn → Type 0
IsPlainAnswer y = is_plain y.1 ≡ true

told_plain : (b : Bool) → is_plain (turn.Done (cond b reply.Yes reply.No)) ≡ true
told_plain true = refl
told_plain false = refl

plain_answer : (s t : State) (d : ℕ) (e : Event) (x : Turn) → next s d e ≡ Some (t, x) → is_enable_tier e ≡ true → is_plain x ≡ true
unfolding next
plain_answer s t d (event.Enable n) x step tier =
    ap is_plain (sym (paid_is s t (with_handle s d n (enabled s n)) x step).1)
    ∙ with_handle_either IsPlainAnswer s d n (enabled s n) refl (λ h own. pick_either IsPlainAnswer (nat_eq h.prepares 0) _ _ (λ e. refl) (λ e. refl))
plain_answer s t d (event.Disable n) x step tier =
    ap is_plain (sym (paid_is s t (with_handle s d n (disabled s n)) x step).1)
    ∙ with_handle_either IsPlainAnswer s d n (disabled s n) refl (λ h own. pick_either IsPlainAnswer (nat_eq h.enables 0) _ _ (λ e. refl) (λ e. refl))
plain_answer s t d (event.Running n) x step tier =
    ap is_plain (sym (paid_is s t (with_handle s d n (running s)) x step).1)
    ∙ with_handle_either IsPlainAnswer s d n (running s) refl (λ h own. told_plain (active s h.clock.0))
plain_answer s t d (event.Begin what) x step tier = absurd cc
plain_answer s t d (event.Step m answer) x step tier = absurd cc

-- a plain answer has no slot
no_slot : (s t : State) (d : ℕ) (e : Event) (r : Reply) → is_plain (turn.Done r) ≡ true → next s d e ≡ Some (t, turn.Done r) → next s d e ≡ Some (t, slotless (turn.Done r))
no_slot s t d e (reply.Handle h) plain step = absurd cc
no_slot s t d e reply.Fine plain step = step
no_slot s t d e reply.Warn plain step = step
no_slot s t d e reply.Yes plain step = step
no_slot s t d e reply.No plain step = step
no_slot s t d e (reply.Rate x) plain step = step
no_slot s t d e (reply.Clock c) plain step = step
no_slot s t d e (reply.Refused x) plain step = step

-- and each answer of the enable tier comes for its cause
pub tier_has_causes : TierHasCauses
tier_has_causes s t d (event.Enable n) (turn.Done r) step tier =
    enable_causes s t d n r (no_slot s t d (event.Enable n) r (plain_answer s t d (event.Enable n) (turn.Done r) step tier) step)
tier_has_causes s t d (event.Disable n) (turn.Done r) step tier =
    disable_causes s t d n r (no_slot s t d (event.Disable n) r (plain_answer s t d (event.Disable n) (turn.Done r) step tier) step)
tier_has_causes s t d (event.Running n) (turn.Done r) step tier =
    running_causes s t d n r (no_slot s t d (event.Running n) r (plain_answer s t d (event.Running n) (turn.Done r) step tier) step)
tier_has_causes s t d (event.Enable n) turn.Going step tier = let no = plain_answer s t d (event.Enable n) turn.Going step tier in absurd cc
tier_has_causes s t d (event.Disable n) turn.Going step tier = let no = plain_answer s t d (event.Disable n) turn.Going step tier in absurd cc
tier_has_causes s t d (event.Running n) turn.Going step tier = let no = plain_answer s t d (event.Running n) turn.Going step tier in absurd cc
tier_has_causes s t d (event.Begin what) x step tier = absurd cc
tier_has_causes s t d (event.Step m answer) x step tier = absurd cc
