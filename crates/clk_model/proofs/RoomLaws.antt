-- Laws on room: runs end.
use Rattle.std.proofs.Common.{◌≡◌, ℕ, ◌+◌, ◌≤◌, Bool, true, List, [], ◌∷◌, Option, Some, None, refl, sym, ap, subst, ◌∙◌, arith, length}
use Rattle.std.specs.Prelude.{if◌then◌else◌}
use Rattle.std.specs.Option.{option_map, option_map_or}
use Rattle.std.proofs.lemmas.Option.{none-some, same_Some}
use Rattle.clk_base.specs.declared.call.Micro.{Micro}
use Rattle.clk_base.specs.declared.call.Sleeping.{Sleeping}
use Rattle.clk_base.specs.declared.event.Entry.{Entry}
use Rattle.clk_base.specs.declared.event.Event.{Event}
use Rattle.clk_base.specs.declared.event.Event.TheVariants as event
use Rattle.clk_base.specs.declared.event.Turn.{Turn}
use Rattle.clk_base.specs.declared.event.Turn.TheVariants as turn
use Rattle.clk_base.specs.Description.{Description}
use Rattle.clk_base.specs.Valid.{IsValid}
use Rattle.reg_bank.specs.Registers.{Registers}
use Rattle.clk_model.specs.State.{State, Change, is_quiet}
use Rattle.clk_model.specs.Begin.{most_credits, begun}
use Rattle.clk_model.specs.Machine.{paid, next}
use Rattle.clk_model.specs.Journal.{slotless, replay, Legal, opening}
use Rattle.clk_model.specs.Laws.LinksKept.{KeepsLinks}
use Rattle.clk_model.specs.Prep.{change_prep, prep}
use Rattle.clk_model.specs.Tier.{is_enable_tier}
use Rattle.clk_model.specs.Laws.RunsEnd.{GoesOn, HasRoom, EventsLeaveRoom, RunsHaveRoom, RunsEnd}
use Rattle.clk_model.proofs.CallBeginLaws.{calls_begin_paced}
use Rattle.clk_model.proofs.PaceLaws.{steps_keep_paced}
use Rattle.clk_model.proofs.PacedStepLaws.{steps_lower_weight}
use Rattle.clk_model.proofs.TierLaws.{enable_tier_leaves_prep}
use Rattle.clk_model.proofs.TierPacedLaws.{enable_tier_keeps_paced}
use Rattle.clk_model.proofs.ShapeLaws.{events_keep_shape, IsPaid, begun_paid, enable_paid, taken_step, no_step}
use Rattle.clk_model.proofs.LinkLaws.{events_keep_links, runs_keep_links}
use Rattle.clk_model.specs.Wired.{LinksArePossible}

-- ---- the enable tier

-- where no call is in flight the enable tier begins none
none_before : (s t : State) → prep t ≡ prep s → s.change ≡ None → t.change ≡ None
unfolding prep
none_before s t same none = back t.change (ap (λ (u : State). u.change) same ∙ ap (λ (o : Option Change). option_map change_prep o) none) where
  back : (o : Option Change) → option_map change_prep o ≡ None → o ≡ None
  back None e = refl
  back (Some k) e = absurd cc

paid_room : (s t : State) → HasRoom s → IsPaid s t → ((k : Change) → t.change ≡ Some k → GoesOn t k) → HasRoom t
paid_room s t has paid change =
    let before = has.room in
    let left = paid.left in
    let spent = paid.spent in
    let credits = paid.credits in
    let steps = paid.steps in
    record { change = change; spent = omega arith; room = omega arith }

enable_goes : (s t : State) (k l : Change) (d : ℕ) (e : Event) (x : Turn) → IsValid (length s.regs) s.defs → HasRoom s → is_enable_tier e ≡ true → next s d e ≡ Some (t, x)
    → IsPaid s t → s.change ≡ Some k → t.change ≡ Some l → GoesOn t l
enable_goes s t k l d e x valid has is next_ paid at goes =
    let on_ = has.change k at in
    let keeps = enable_tier_keeps_paced s t k d e x valid at on_.paced is next_ in
    let before = on_.room in
    let weight = keeps.2 in
    let credits = paid.credits in
    let steps = paid.steps in
    subst (λ (c : Change). GoesOn t c) (same_Some k l (sym keeps.0 ∙ goes)) (record { paced = keeps.1; room = omega arith })

enable_room : (s t : State) (d : ℕ) (e : Event) (x : Turn) → IsValid (length s.regs) s.defs → HasRoom s → is_enable_tier e ≡ true → next s d e ≡ Some (t, x) → HasRoom t
enable_room s t d e x valid has is next_ =
    let paid = enable_paid s t d e x is next_ in
    paid_room s t has paid (λ l goes. by_change s.change refl l goes) where
      by_change : (o : Option Change) → s.change ≡ o → (l : Change) → t.change ≡ Some l → GoesOn t l
      by_change None at l goes = absurd (none-some l (sym (none_before s t (enable_tier_leaves_prep s t d e x is next_) at) ∙ goes))
      by_change (Some k) at l goes = enable_goes s t k l d e x valid has is next_ (enable_paid s t d e x is next_) at goes

-- ---- beginnings

begin_goes : (s t : State) (d : ℕ) (what : Sleeping) (x : Turn) (l : Change) → s.change ≡ None → next s d (event.Begin what) ≡ Some (t, x) → t.change ≡ Some l → GoesOn t l
begin_goes s t d what x l quiet next_ goes = by_turn x refl where
  still : (x ≡ turn.Going → ⊥) → GoesOn t l
  still other = absurd (none-some l (sym ((begun_paid s t d what x next_).1 other ∙ quiet) ∙ goes))

  by_turn : (y : Turn) → x ≡ y → GoesOn t l
  by_turn turn.Going same =
      let begins = calls_begin_paced s t d what (next_ ∙ ap (λ (y : Turn). Some (t, y)) same) in
      subst (λ (c : Change). GoesOn t c) (same_Some begins.0 l (sym begins.1.change ∙ goes)) (record { paced = begins.1.paced; room = begins.1.room })
  by_turn (turn.Done r) same = still (λ going. let no : turn.Done r ≡ turn.Going = sym same ∙ going in cc)

begin_quiet : (s t : State) (d : ℕ) (what : Sleeping) (x : Turn) → next s d (event.Begin what) ≡ Some (t, x) → s.change ≡ None
unfolding next
begin_quiet s t d what x e = by_change s.change refl where
  by_change : (o : Option Change) → s.change ≡ o → s.change ≡ None
  by_change None at = at
  by_change (Some k) at = absurd (none-some (t, x) (ap (λ (o : Option Change). if is_quiet o then paid s (begun s d what) else None) (sym at) ∙ e))

-- ---- steps

step_room : (s t : State) (k : Change) (d : ℕ) (m : Micro) (answer : Option Bool) (x : Turn) → IsValid (length s.regs) s.defs → LinksArePossible s.defs s.clocks → HasRoom s
    → s.change ≡ Some k → next s d (event.Step m answer) ≡ Some (t, x) → HasRoom t
step_room s t k d m answer x valid links has at next_ =
    let counted = taken_step s t k d m answer x at next_ in
    let on_ = has.change k at in
    let lower = steps_lower_weight s t k d m answer x valid links at on_.paced next_ in
    let before = on_.room in
    let spent = counted.spent in
    let credits = counted.credits in
    let steps = counted.steps in
    let spent' = has.spent in
    record {
      change = λ l goes. record { paced = steps_keep_paced s t k l d m answer x valid links at on_.paced next_ goes; room = omega arith };
      spent = omega arith;
      room = omega arith;
    }

-- ---- events

pub events_leave_room : EventsLeaveRoom
events_leave_room s t d (event.Enable n) x valid links has e = enable_room s t d (event.Enable n) x valid has refl e
events_leave_room s t d (event.Disable n) x valid links has e = enable_room s t d (event.Disable n) x valid has refl e
events_leave_room s t d (event.Running n) x valid links has e = enable_room s t d (event.Running n) x valid has refl e
events_leave_room s t d (event.Begin what) x valid links has e =
    paid_room s t has (begun_paid s t d what x e).0 (λ l goes. begin_goes s t d what x l (begin_quiet s t d what x e) e goes)
events_leave_room s t d (event.Step m answer) x valid links has e = by_change s.change refl where
  by_change : (o : Option Change) → s.change ≡ o → HasRoom t
  by_change None at = absurd (no_step s t d m answer x at e)
  by_change (Some k) at = step_room s t k d m answer x valid links has at e

-- ---- runs

replay_room : (es : List Entry) (s : State) → IsValid (length s.regs) s.defs → KeepsLinks s → HasRoom s → HasRoom (replay s es)
replay_room [] s valid keeps has = has
replay_room (e ∷ es) s valid keeps has =
    let u : State = option_map_or (λ x. x.0) (next s e.driver e.event) s in
    let first = after (next s e.driver e.event) refl in
    replay_room es u first.0 first.1 first.2 where
      after : (o : Option (State × Turn)) → next s e.driver e.event ≡ o
          → IsValid (length (option_map_or (λ (x : State × Turn). x.0) o s).regs) (option_map_or (λ (x : State × Turn). x.0) o s).defs
          × KeepsLinks (option_map_or (λ (x : State × Turn). x.0) o s) × HasRoom (option_map_or (λ (x : State × Turn). x.0) o s)
      after None at = (valid, keeps, has)
      after (Some r) at =
          let shape = events_keep_shape s r.0 e.driver e.event r.1 at in (
            subst (λ (n : ℕ). IsValid n r.0.defs) (sym shape.words) (subst (λ (ds : Description). IsValid (length s.regs) ds) (sym shape.defs) valid),
            events_keep_links s r.0 e.driver e.event r.1 keeps at,
            events_leave_room s r.0 e.driver e.event r.1 valid keeps.links has at,
          )

opening_room : (defs : Description) (regs : Registers) (ignore_unused : Bool) (credits : ℕ) → credits ≤ most_credits → HasRoom (opening defs regs ignore_unused credits)
opening_room defs regs ignore_unused credits few = record { change = λ k e. absurd (none-some k e); spent = omega arith; room = omega arith }

-- behind each journal a change in flight goes on, and there is room
pub runs_have_room : RunsHaveRoom
runs_have_room defs regs ignore_unused credits journal valid few =
    replay_room journal (opening defs regs ignore_unused credits) valid (runs_keep_links (length regs) defs regs ignore_unused credits [] valid)
    (opening_room defs regs ignore_unused credits few)

-- each event is an entry that spends a credit, or a step
counts : (s t : State) (d : ℕ) (e : Event) (x : Turn) → next s d e ≡ Some (t, x) → t.spent + t.steps ≡ s.spent + s.steps + 1
counts s t d e x next_ = by_event e next_ where
  of_paid : IsPaid s t → t.spent + t.steps ≡ s.spent + s.steps + 1
  of_paid paid = let spent = paid.spent in let steps = paid.steps in omega arith

  of_step : (m : Micro) (answer : Option Bool) (o : Option Change) → s.change ≡ o → next s d (event.Step m answer) ≡ Some (t, x) → t.spent + t.steps ≡ s.spent + s.steps + 1
  of_step m answer None at f = absurd (no_step s t d m answer x at f)
  of_step m answer (Some k) at f =
      let counted = taken_step s t k d m answer x at f in let spent = counted.spent in let steps = counted.steps in omega arith

  by_event : (f : Event) → next s d f ≡ Some (t, x) → t.spent + t.steps ≡ s.spent + s.steps + 1
  by_event (event.Enable n) f = of_paid (enable_paid s t d (event.Enable n) x refl f)
  by_event (event.Disable n) f = of_paid (enable_paid s t d (event.Disable n) x refl f)
  by_event (event.Running n) f = of_paid (enable_paid s t d (event.Running n) x refl f)
  by_event (event.Begin what) f = of_paid (begun_paid s t d what x f).0
  by_event (event.Step m answer) f = of_step m answer s.change refl f

entries_count : (es : List Entry) (s : State) → Legal s es → (replay s es).spent + (replay s es).steps ≡ s.spent + s.steps + length es
entries_count [] s legal = omega arith
entries_count (e ∷ es) s legal =
    let after : option_map_or (λ (x : State × Turn). x.0) (next s e.driver e.event) s ≡ legal.0 = ap (λ (o : Option (State × Turn)). option_map_or (λ (x : State × Turn). x.0) o s) legal.1 in
    let rest = entries_count es legal.0 legal.2 in
    let first = counts s legal.0 e.driver e.event (slotless e.turn) legal.1 in
    let whole : legal.0.spent + legal.0.steps + length es ≡ s.spent + s.steps + length (e ∷ es) = omega arith in
    subst (λ (u : State). (replay u es).spent + (replay u es).steps ≡ s.spent + s.steps + length (e ∷ es)) (sym after) (rest ∙ whole)

-- a legal journal has no more entries than there may be credits
pub runs_end : RunsEnd
runs_end defs regs ignore_unused credits journal valid few legal =
    let s : State = opening defs regs ignore_unused credits in
    let has = runs_have_room defs regs ignore_unused credits journal valid few in
    let counted : (replay s journal).spent + (replay s journal).steps ≡ 0 + length journal = entries_count journal s legal in
    let spent = has.spent in
    let room = has.room in
    omega arith
