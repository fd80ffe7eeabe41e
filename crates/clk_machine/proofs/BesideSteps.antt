-- A call whose steps only tell notifiers and switch PLLs leaves the enables and the gates to the enables and disables beside it.
use Rattle.std.proofs.Common.{◌≡◌, ℕ, ◌+◌, ◌-◌, ◌||◌, Bool, true, false, not, cond, List, [], ◌∷◌, ◌++◌, Option, Some, None, refl, sym, ap, subst, ◌∙◌, arith, length, set, zero, suc}
use Rattle.std.specs.Prelude.{nat_le, option_map, reverse, slice_get, if◌then◌else◌}
use Rattle.std.specs.List.{list_any}
use Rattle.std.specs.Option.{option_map_or}
use Rattle.clk_base.specs.declared.call.Micro.{Micro}
use Rattle.clk_base.specs.declared.call.Micro.TheVariants as micro
use Rattle.clk_base.specs.declared.call.Sleeping.{Sleeping}
use Rattle.clk_base.specs.declared.call.Sleeping.TheVariants as call
use Rattle.clk_base.specs.declared.event.Entry.{Entry}
use Rattle.clk_base.specs.declared.event.Errno.{Errno}
use Rattle.clk_base.specs.declared.event.Event.{Event}
use Rattle.clk_base.specs.declared.event.Event.TheVariants as event
use Rattle.clk_base.specs.declared.event.Reply.TheVariants as reply
use Rattle.clk_base.specs.declared.event.Turn.{Turn}
use Rattle.clk_base.specs.declared.event.Turn.TheVariants as turn
use Rattle.clk_base.specs.Description.{Description, kind_of}
use Rattle.clk_base.specs.Fields.{GateBit, PowerBit, bit_field, gate_of, power_of}
use Rattle.clk_base.specs.Valid.{IsValid}
use Rattle.clk_base.proofs.Valid.{gate-field, power-field}
use Rattle.reg_bank.specs.Registers.{Registers, is_set}
use Rattle.reg_bank.proofs.BitLaws.{length-put_bit}
use Rattle.clk_model.specs.declared.row.HandleRow.{HandleRow}
use Rattle.clk_model.specs.Chain.{clock_id}
use Rattle.clk_model.specs.Gates.{settled}
use Rattle.clk_model.specs.Holders.{active}
use Rattle.clk_model.specs.Journal.{slotless, replay, Legal}
use Rattle.clk_model.specs.Kinds.{is_open, with_power}
use Rattle.clk_model.specs.Laws.Flight.{step_of, steps_of}
use Rattle.clk_model.specs.Lists.{count_from}
use Rattle.clk_model.specs.Machine.{next}
use Rattle.clk_model.specs.State.{State, Change, handle_at}
use Rattle.clk_model.specs.Step.{ended_well, is_end, is_yes, lower_one, on, poll, powered, raise_one, range_back, stepped, taken, timed_out, to_lower, to_raise, with_range}
use Rattle.clk_model.specs.Tier.{is_enable_tier}
use Rattle.clk_model.proofs.Cases.{by_option, by_test}
use Rattle.clk_model.proofs.FlightLaws.{begin_is, step_is}
use Rattle.clk_model.proofs.GateLaws.{gates_moved-still}
use Rattle.clk_model.proofs.KeepLaws.{put_leaves}
use Rattle.clk_model.proofs.NoneLaws.{none_front, none_rest}
use Rattle.clk_model.proofs.SettingLaws.{bit_same}
use Rattle.clk_model.proofs.TierLaws.{beside_change}
use Rattle.clk_machine.specs.Besides.{SameEnables, enable_tier_of}
use Rattle.clk_machine.proofs.Besides.{Beside, at_unranged, set_unranged, tier_beside, unranged, who_is_active, without_range}
use Rattle.clk_machine.specs.Landing.{reply_of}

-- whether a step does more than tell a notifier, ask for a lock, switch a PLL or end the call
abbrev pub touches : Micro → Bool
touches (micro.Notify kind c id old new) = false
touches (micro.Raise x) = false
touches (micro.Poll y) = false
touches (micro.Fall y) = false
touches (micro.Lower x) = false
touches (micro.Unpower c) = false
touches micro.End = false
touches _ = true

-- ---- a step

-- a state is another one but for power bits and its change
record Powers (s v : State) : Type 0 where
  size : length v.regs ≡ length s.regs
  defs : v.defs ≡ s.defs
  clocks : v.clocks ≡ s.clocks
  holds : v.enable_holds ≡ s.enable_holds
  handles : v.handles ≡ s.handles
  credits : v.credits ≡ s.credits
  spent : v.spent ≡ s.spent
  gates : (c : ℕ) (gate : GateBit) → gate_of (kind_of s.defs c) ≡ Some gate → is_open v.regs gate ≡ is_open s.regs gate
  now : Change
  going : v.change ≡ Some now

same_state : (s : State) (k : Change) → Powers s (on s k)
same_state s k = record { size = refl; defs = refl; clocks = refl; holds = refl; handles = refl; credits = refl; spent = refl; gates = λ c gate at. refl; now = k; going = refl }

power_bit : (s : State) (y : ℕ) (up : Bool) (k : Change) → IsValid (length s.regs) s.defs → Powers s (on (powered s y up) k)
power_bit s y up k valid = record {
  size = long (power_of (kind_of s.defs y));
  defs = refl;
  clocks = refl;
  holds = refl;
  handles = refl;
  credits = refl;
  spent = refl;
  gates = λ c gate at. ap (λ (b : Bool). if gate.set_to_disable then not b else b) (one c gate at (power_of (kind_of s.defs y)) refl);
  now = k;
  going = refl;
} where
  long : (o : Option PowerBit) → length (option_map_or (λ power. with_power s.regs power up) o s.regs) ≡ length s.regs
  long None = refl
  long (Some power) = length-put_bit s.regs power.word power.bit up

  one : (c : ℕ) (gate : GateBit) → gate_of (kind_of s.defs c) ≡ Some gate → (o : Option PowerBit) → power_of (kind_of s.defs y) ≡ o
      → is_set (option_map_or (λ power. with_power s.regs power up) o s.regs) gate.word gate.bit ≡ is_set s.regs gate.word gate.bit
  one c gate at None own = refl
  one c gate at (Some power) own =
      bit_same (with_power s.regs power up) s.regs gate.word gate.bit
      (put_leaves (length s.regs) s.defs s.regs y 1 power.word power.bit up c 0 (bit_field gate.word gate.bit) valid (power-field (kind_of s.defs y) power own) (gate-field (kind_of s.defs c) gate at) (λ same equal. omega arith))

powers : (s : State) (k : Change) (answer : Option Bool) (m : Micro) → IsValid (length s.regs) s.defs → touches m ≡ false → is_end m ≡ false → Powers s (stepped s k answer m).0
unfolding stepped
powers s k answer (micro.Notify kind c id old new) valid mild going = same_state s k
powers s k answer (micro.Raise x) valid mild going =
    by_option (Powers s) (slice_get (reverse (to_raise s k x.0)) 0) (raise_one s k x.0) (on s (record k { again = 0 })) (same_state s _) (λ y. power_bit s y true _ valid)
powers s k answer (micro.Lower x) valid mild going =
    by_option (Powers s) (slice_get (to_lower s x.0) 0) (lower_one s k x.0) (on s (record k { again = 0 })) (same_state s _) (λ y. power_bit s y false _ valid)
powers s k answer (micro.Poll y) valid mild going = by_yes (is_yes answer) where
  by_yes : (b : Bool) → Powers s (poll s k y.0 b)
  by_yes true = same_state s _
  by_yes false =
      by_test (Powers s) (nat_le k.polls 1) (timed_out s (record k { polls = 0 })) (on s (record k { polls = k.polls - 1; front = micro.Poll (clock_id y.0) ∷ k.front })) (same_state s _) (same_state s _)
powers s k answer (micro.Fall y) valid mild going = power_bit s y.0 false _ valid
powers s k answer (micro.Unpower c) valid mild going = power_bit s c.0 false k valid
powers s k answer micro.End valid mild going = absurd cc
powers s k answer _ valid mild going = absurd cc

-- gates stay where nothing becomes active or stops
pub still : (s v : State) → ((c : ℕ) → active v c ≡ active s c) → (settled s v).regs ≡ v.regs
unfolding settled
still s v same = gates_moved-still v.defs (active s) (active v) (count_from 0 (length v.defs)) v.regs (λ c. sym (same c))

valid_beside : (words : ℕ) (u s : State) → Beside words u s → IsValid (length s.regs) s.defs
valid_beside words u s is = subst (λ (n : ℕ). IsValid n s.defs) (sym is.size_s) (subst (λ (ds : Description). IsValid words ds) (sym is.defs) is.valid)

-- a step that touches nothing keeps two states alike, and the call goes on
pub step_beside : (words : ℕ) (u s t : State) (d : ℕ) (m : Micro) (answer : Option Bool) (x : Turn) → touches m ≡ false → is_end m ≡ false → Beside words u s → next s d (event.Step m answer) ≡ Some (t, x)
    → Beside words u t × (k : Change) × (t.change ≡ Some k)
unfolding settled
step_beside words u s t d m answer x mild going is step =
    let of = step_is s t d m answer x step in
    let v : State = (stepped s (taken of.0) answer m).0 in
    let does = powers s (taken of.0) answer m (valid_beside words u s is) mild going in
    let rest : (settled s v).regs ≡ v.regs = still s v (who_is_active s v does.defs does.clocks does.holds (ap unranged does.handles)) in
    let after : State = record (settled s v) { steps = s.steps + 1 } in
    let beside : Beside words u after = record {
      valid = is.valid;
      size_u = is.size_u;
      size_s = ap (λ (rs : Registers). length rs) rest ∙ does.size ∙ is.size_s;
      defs = does.defs ∙ is.defs;
      clocks = does.clocks ∙ is.clocks;
      holds = does.holds ∙ is.holds;
      handles = ap unranged does.handles ∙ is.handles;
      credits = does.credits ∙ is.credits;
      spent = let one = does.spent in let two = is.spent in omega arith;
      gates = λ c gate at.
          ap (λ (rs : Registers). is_open rs gate) rest ∙ does.gates c gate (ap (λ (ds : Description). gate_of (kind_of ds c)) is.defs ∙ at) ∙ is.gates c gate at;
    } in (
      subst (λ (w : State). Beside words u w) of.1.state beside,
      does.now,
      sym (ap (λ (w : State). w.change) of.1.state) ∙ does.going,
    )

-- ---- steps and events

-- what holds of these entries from two states that are alike
abbrev Rest : ℕ → List Entry → Type 0
Rest words es = (u s : State) (k : Change) → Beside words u s → s.change ≡ Some k → Legal s es → list_any touches (steps_of es) ≡ false → list_any is_end (steps_of es) ≡ false
    → Beside words (replay u (enable_tier_of es)) (replay s es)

-- so do the steps of such a call, with the enables and disables beside them
pub steps_beside : (words : ℕ) (u s : State) (k : Change) (es : List Entry) → Beside words u s → s.change ≡ Some k → Legal s es → list_any touches (steps_of es) ≡ false
    → list_any is_end (steps_of es) ≡ false → Beside words (replay u (enable_tier_of es)) (replay s es)
steps_beside words u s k [] is at legal mild going = is
steps_beside words u s k (e ∷ es) is at legal mild going =
    by_event (λ u' t' k' is' at' legal' mild' going'. steps_beside words u' t' k' es is' at' legal' mild' going') e.event refl where
      t : State
      t = legal.0

      comes : replay s (e ∷ es) ≡ replay t es
      comes = ap (λ (o : Option (State × Turn)). replay (option_map_or (λ x. x.0) o s) es) legal.1

      by_tier : Rest words es → is_enable_tier e.event ≡ true → step_of e.event ≡ [] → Beside words (replay u (enable_tier_of (e ∷ es))) (replay s (e ∷ es))
      by_tier rest tier none =
          let goes = tier_beside words u s t e.driver e.event (slotless e.turn) tier is legal.1 in
          let there : replay u (enable_tier_of (e ∷ es)) ≡ replay goes.to (enable_tier_of es) =
          ap (λ (b : Bool). replay u (cond b (e ∷ enable_tier_of es) (enable_tier_of es))) tier ∙ ap (λ (o : Option (State × Turn)). replay (option_map_or (λ x. x.0) o u) (enable_tier_of es)) goes.step in
          subst (λ (w : State). Beside words w (replay s (e ∷ es))) (sym there) (subst (λ (w : State). Beside words (replay goes.to (enable_tier_of es)) w) (sym comes)
          (rest goes.to t k goes.beside (beside_change s t e.driver e.event (slotless e.turn) tier legal.1 ∙ at) legal.2
          (sym (ap (λ (ms : List Micro). list_any touches (ms ++ steps_of es)) none) ∙ mild) (sym (ap (λ (ms : List Micro). list_any is_end (ms ++ steps_of es)) none) ∙ going)))

      by_event : Rest words es → (v : Event) → e.event ≡ v → Beside words (replay u (enable_tier_of (e ∷ es))) (replay s (e ∷ es))
      by_event rest (event.Enable n) v = by_tier rest (ap is_enable_tier v) (ap step_of v)
      by_event rest (event.Disable n) v = by_tier rest (ap is_enable_tier v) (ap step_of v)
      by_event rest (event.Running n) v = by_tier rest (ap is_enable_tier v) (ap step_of v)
      by_event rest (event.Begin what) v =
          let quiet = (begin_is s t e.driver what (slotless e.turn) (ap (λ (w : Event). next s e.driver w) (sym v) ∙ legal.1)).0 in
          let no : Some k ≡ None = sym at ∙ quiet in
          absurd cc
      by_event rest (event.Step m answer) v =
          let mild' : list_any touches (m ∷ steps_of es) ≡ false = sym (ap (λ (w : Event). list_any touches (step_of w ++ steps_of es)) v) ∙ mild in
          let going' : list_any is_end (m ∷ steps_of es) ≡ false = sym (ap (λ (w : Event). list_any is_end (step_of w ++ steps_of es)) v) ∙ going in
          let after = step_beside words u s t e.driver m answer (slotless e.turn) (none_front touches m (steps_of es) mild') (none_front is_end m (steps_of es) going') is
          (ap (λ (w : Event). next s e.driver w) (sym v) ∙ legal.1) in
          let there : replay u (enable_tier_of (e ∷ es)) ≡ replay u (enable_tier_of es) = ap (λ (w : Event). replay u (cond (is_enable_tier w) (e ∷ enable_tier_of es) (enable_tier_of es))) v in
          subst (λ (w : State). Beside words w (replay s (e ∷ es))) (sym there) (subst (λ (w : State). Beside words (replay u (enable_tier_of es)) w) (sym comes)
          (rest u t after.1 after.0 after.2 legal.2 (none_rest touches m (steps_of es) mild') (none_rest is_end m (steps_of es) going')))

-- ---- the end

pub put_back : (handles : List (Option HandleRow)) (n : ℕ) → set handles n (handle_at handles n) ≡ handles
put_back [] n = refl
put_back (o ∷ handles) zero = refl
put_back (o ∷ handles) (suc n) = ap (λ (hs : List (Option HandleRow)). o ∷ hs) (put_back handles n)

-- a range that is put back is none of what the enable tier reads
range_unranged : (what : Sleeping) (range : Option (ℕ × ℕ)) (handles : List (Option HandleRow)) → unranged (range_back what range handles) ≡ unranged handles
range_unranged (call.SetRange h least most) (Some range) handles =
    set_unranged handles h.number (option_map (with_range range) (handle_at handles h.number))
    ∙ ap (λ (o : Option HandleRow). set (unranged handles) h.number o) (one (handle_at handles h.number) ∙ at_unranged handles h.number) ∙ put_back (unranged handles) h.number where
      one : (o : Option HandleRow) → option_map without_range (option_map (with_range range) o) ≡ option_map without_range o
      one None = refl
      one (Some h') = refl
range_unranged (call.SetRange h least most) None handles = refl
range_unranged _ range handles = refl

-- a call that is refused at its end leaves the same clocks active, and the gates alike
pub end_beside : (words : ℕ) (u s t : State) (d : ℕ) (answer : Option Bool) (e : Errno) → Beside words u s → next s d (event.Step micro.End answer) ≡ Some (t, turn.Done (reply.Refused e)) → SameEnables t u
unfolding settled stepped
end_beside words u s t d answer e is step =
    let of = step_is s t d micro.End answer (turn.Done (reply.Refused e)) step in
    refused_end (taken of.0) (taken of.0).vetoed (taken of.0).timed_out of.1.answered of.1.state where
      left : (k : Change) → SameEnables (record (settled s (record s { handles = range_back k.call k.range s.handles; change = None })) { steps = s.steps + 1 }) u
      left k =
          let v : State = record s { handles = range_back k.call k.range s.handles; change = None } in
          let after = who_is_active s v refl refl refl (range_unranged k.call k.range s.handles) in
          let before = who_is_active u s is.defs is.clocks is.holds is.handles in
          let rest : (settled s v).regs ≡ s.regs = still s v after in record {
            active_ = λ c. after c ∙ before c;
            gates = λ c gate at. ap (λ (rs : Registers). is_open rs gate) rest ∙ is.gates c gate at;
          }

      refused_end : (k : Change) (v b : Bool) → turn.Done (reply_of v b) ≡ turn.Done (reply.Refused e)
          → record (settled s (record (if v || b then record s { handles = range_back k.call k.range s.handles } else ended_well s k.driver k.call) { change = None })) { steps = s.steps + 1 } ≡ t
          → SameEnables t u
      refused_end k true b f at = subst (λ (w : State). SameEnables w u) at (left k)
      refused_end k false true f at = subst (λ (w : State). SameEnables w u) at (left k)
      refused_end k false false f at = absurd cc
