-- A copy goes along with the journal of a core, entry by entry.
use Rattle.std.proofs.Common.{◌≡◌, ℕ, suc, ◌+◌, ◌<◌, ◌≤◌, ◌++◌, length, take, Bool, true, false, cond, List, [], ◌∷◌, Option, Some, refl, sym, ap, subst, ◌∙◌, arith}
use Rattle.std.proofs.Math.Seq.{take-suc}
use Rattle.std.specs.Prelude.{slice_index_or}
use Rattle.clk_base.specs.declared.call.Micro.{Micro}
use Rattle.clk_base.specs.declared.call.Sleeping.{Sleeping}
use Rattle.clk_base.specs.declared.event.Entry.{Entry}
use Rattle.clk_base.specs.declared.event.Event.{Event}
use Rattle.clk_base.specs.declared.event.Event.TheVariants as event
use Rattle.clk_base.specs.declared.event.Turn.{Turn}
use Rattle.clk_base.specs.declared.event.Turn.TheVariants as turn
use Rattle.clk_base.specs.Checked.{Checked}
use Rattle.clk_base.specs.Description.{Description}
use Rattle.clk_base.specs.Valid.{IsValid}
use Rattle.clk_model.specs.Begin.{most_credits}
use Rattle.clk_model.specs.Journal.{is_going, opening, slotless}
use Rattle.clk_model.specs.Laws.Flight.{begins}
use Rattle.clk_model.specs.Laws.Shadows.{as_twin}
use Rattle.clk_model.specs.Machine.{next}
use Rattle.clk_model.specs.State.{State, Change}
use Rattle.clk_model.specs.Step.{taken, stepped}
use Rattle.clk_model.specs.Tier.{is_enable_tier, is_step}
use Rattle.clk_model.proofs.AlikeLaws.{inside_change}
use Rattle.clk_model.proofs.EndCauseLaws.{going_leaves_changes}
use Rattle.clk_model.proofs.FlightLaws.{IsStep, step_is, course_of}
use Rattle.clk_model.proofs.ShadowLaws.{goes_by_stays}
use Rattle.clk_model.proofs.ShapeLaws.{settled_change}
use Rattle.clk_model.proofs.StepLaws.{step_after}
use Rattle.clk_model.proofs.TierLaws.{beside_change}
use Rattle.clk_machine.specs.Along.{KeepsShape}
use Rattle.clk_machine.specs.Copied.{Copy, Copies, Follows, IsCopyOf, IsOfCall, StaysCopy, room_after}
use Rattle.clk_machine.specs.Parts.{Parts}
use Rattle.clk_machine.specs.Run.{ArePlaced, IsRun, Logged, in_flight, start_of, state_of}
use Rattle.clk_machine.specs.Sound.{IsReached}
use Rattle.clk_machine.specs.Stands.{Stands, is_told}
use Rattle.clk_machine.specs.Tracing.{FollowsOn, IsAtRest, Traces}
use Rattle.clk_machine.proofs.Copying.{no_begin}
use Rattle.clk_machine.proofs.Entering.{going_append, going_slotless}
use Rattle.clk_machine.proofs.Lawful.{entry_at}
use Rattle.clk_machine.proofs.Soundness.{reached_next, reached_opening}

-- ---- an opening

-- parts that stand for an opening are a copy of it: it is a twin of itself
pub copy_opening : (copy : Copy) (words : List ℕ) (defs : Description) (ignore_unused : Bool) (credits : ℕ) → IsValid (length words) defs → credits ≤ most_credits → copy.parts.window.size ≡ length words
    → Stands copy.parts (opening defs words ignore_unused credits) → IsCopyOf copy (opening defs words ignore_unused credits)
copy_opening copy words defs ignore_unused credits valid few size stands = record {
  reached = subst (λ (n : ℕ). IsReached n (opening defs words ignore_unused credits)) (sym size) (reached_opening words defs ignore_unused credits valid few);
  copies = record {
    twin = opening defs words ignore_unused credits;
    stands = stands;
    is = as_twin refl (record { bare = refl; holds = refl; spent = omega arith; steps = omega arith; same = refl });
  };
}

-- ---- one entry

-- a copy that went along with an entry is of the state after it
copy_after : (old new : Copy) (s t : State) (e : Entry) → IsCopyOf old s → KeepsShape old.parts new.parts → next s e.driver e.event ≡ Some (t, slotless e.turn) → Copies new t → IsCopyOf new t
copy_after old new s t e of same step copies = record {
  reached = subst (λ (n : ℕ). IsReached n t) (sym same.1) (reached_next old.parts.window.size s t e.driver e.event (slotless e.turn) of.reached step);
  copies = copies;
}

-- a call is in flight after an entry only if it goes on
going_after : (s t : State) (e : Entry) (k : Change) → is_enable_tier e.event ≡ false → next s e.driver e.event ≡ Some (t, slotless e.turn) → t.change ≡ Some k → e.turn ≡ turn.Going
going_after s t e k prepares step at = going_slotless e.turn ((going_leaves_changes s t e.driver e.event (slotless e.turn) step prepares).1 (k, at))

-- so there is room for it still
room_still : (old new : Copy) (x : Turn) (d : ℕ) (what : Sleeping) (k : Change) → new.room ≡ room_after x old.room → x ≡ turn.Going → old.room ≡ Some (d, what) → k.driver ≡ d → k.call ≡ what
    → new.room ≡ Some (k.driver, k.call)
room_still old new x d what k after going room driver call =
    after ∙ ap (λ (y : Turn). room_after y old.room) going ∙ room ∙ ap (λ (n : ℕ). Some (n, what)) (sym driver) ∙ ap (λ (w : Sleeping). Some (k.driver, w)) (sym call)

-- whose call is in flight after a beginning
begun_call : (s t : State) (d : ℕ) (what : Sleeping) (k : Change) → next s d (event.Begin what) ≡ Some (t, turn.Going) → t.change ≡ Some k → (k.driver ≡ d) × (k.call ≡ what)
begun_call s t d what k step at =
    let course = course_of s d what (begins step) in
    let one : k ≡ course.now = inside_change (sym at ∙ course.at) in
    (ap (λ (j : Change). j.driver) one ∙ course.driver, ap (λ (j : Change). j.call) one ∙ course.call)

-- and after a step
stepped_call : (s t : State) (d : ℕ) (m : Micro) (a : Option Bool) (k now : Change) → IsStep s t d m a turn.Going k → t.change ≡ Some now → (now.driver ≡ d) × (now.call ≡ k.call)
stepped_call s t d m a k now is at =
    let after = step_after s (taken k) a m is.answered in
    let change : t.change ≡ (stepped s (taken k) a m).0.change = ap (λ (u : State). u.change) (sym is.state) ∙ settled_change s (stepped s (taken k) a m).0 in
    let one : now ≡ after.0 = inside_change (sym at ∙ change ∙ after.1) in
    (ap (λ (j : Change). j.driver) one ∙ after.2.driver ∙ is.driver, ap (λ (j : Change). j.call) one ∙ after.2.call)

-- a copy with room for a call follows its beginning
pub traced_begin : (old made new : Copy) (e : Entry) (what : Sleeping) → e.event ≡ event.Begin what → StaysCopy old made → KeepsShape old.parts made.parts → made.room ≡ Some (e.driver, what)
    → Follows made e new → new.room ≡ room_after e.turn made.room → KeepsShape made.parts new.parts → FollowsOn old e new
traced_begin old made new e what first stays same room follows after still s t traced step =
    let of : IsCopyOf made s = record { reached = subst (λ (n : ℕ). IsReached n s) (sym same.1) traced.of.reached; copies = stays s traced.of.copies } in
    let call : IsOfCall made.room e = record { what = what; room_ = room; begins = λ isnt. first } in
    record {
      of = copy_after made new s t e of still step (follows s t of call step);
      room = λ k at.
          let going = going_after s t e k (ap is_enable_tier first) step at in
          let one : next s e.driver (event.Begin what) ≡ Some (t, turn.Going) =
          ap (λ (f : Event). next s e.driver f) (sym first) ∙ step ∙ ap (λ (x : Turn). Some (t, slotless x)) going in
          let is = begun_call s t e.driver what k one at in
          room_still made new e.turn e.driver what k after going room is.0 is.1;
    }

-- none begins while the copy has a call in flight
pub traced_never : (old new : Copy) (e : Entry) (what : Sleeping) → e.event ≡ event.Begin what → old.parts.flight.going ≡ true → FollowsOn old e new
traced_never old new e what first going s t traced step =
    absurd (no_begin old s t e.driver what (slotless e.turn) traced.of going (ap (λ (f : Event). next s e.driver f) (sym first) ∙ step))

-- it follows each step
pub traced_step : (old new : Copy) (e : Entry) (m : Micro) (a : Option Bool) → e.event ≡ event.Step m a → Follows old e new → new.room ≡ room_after e.turn old.room → KeepsShape old.parts new.parts
    → FollowsOn old e new
traced_step old new e m a is follows after same s t traced step =
    let one : next s e.driver (event.Step m a) ≡ Some (t, slotless e.turn) = ap (λ (f : Event). next s e.driver f) (sym is) ∙ step in
    let found = step_is s t e.driver m a (slotless e.turn) one in
    let room : old.room ≡ Some (e.driver, found.0.call) = traced.room found.0 found.1.at ∙ ap (λ (n : ℕ). Some (n, found.0.call)) found.1.driver in
    let call : IsOfCall old.room e = record { what = found.0.call; room_ = room; begins = λ isnt. let no : true ≡ false = sym (ap is_step is) ∙ isnt in absurd cc } in
    record {
      of = copy_after old new s t e traced.of same step (follows s t traced.of call step);
      room = λ k at.
          let going = going_after s t e k (ap is_enable_tier is) step at in
          let now : IsStep s t e.driver m a turn.Going found.0 = subst (λ (x : Turn). IsStep s t e.driver m a (slotless x) found.0) going found.1 in
          let mine = stepped_call s t e.driver m a found.0 k now at in
          room_still old new e.turn e.driver found.0.call k after going room mine.0 mine.1;
    }

-- an entry of the enable tier leaves the copy one of the state, as it is
pub traced_beside : (copy : Copy) (e : Entry) → is_enable_tier e.event ≡ true → FollowsOn copy e copy
traced_beside copy e tier s t traced step = record {
  of = copy_after copy copy s t e traced.of (refl, refl) step record {
    twin = traced.of.copies.twin;
    stands = traced.of.copies.stands;
    is = goes_by_stays s traced.of.copies.twin t e.driver e.event (slotless e.turn) traced.of.copies.is tier step;
  };
  room = λ k at. traced.room k (sym (beside_change s t e.driver e.event (slotless e.turn) tier step) ∙ at);
}

-- ---- a journal

-- it goes along with one entry more
pub traces_on : (old copy new : Copy) (seen : List Entry) (e : Entry) → Traces old seen copy → FollowsOn copy e new → (is_enable_tier e.event ≡ true → new ≡ copy)
    → (is_enable_tier e.event ≡ false → is_going e.turn ≡ false → IsAtRest new) → KeepsShape copy.parts new.parts → Traces old (seen ++ e ∷ []) new
traces_on old copy new seen e before follows beside rest same = record {
  leads = λ s of quiet legal. let is = entry_at s seen [] e legal in follows _ _ (before.leads s of quiet is.before) is.answers;
  rest = λ none. by (is_enable_tier e.event) refl (sym (going_append false seen e) ∙ none);
  same = (same.0 ∙ before.same.0, same.1 ∙ before.same.1);
} where
  by : (b : Bool) → is_enable_tier e.event ≡ b → cond b (in_flight seen) (is_going e.turn) ≡ false → IsAtRest new
  by true tier none = subst IsAtRest (sym (beside tier)) (before.rest none)
  by false prepares none = rest prepares none

-- so it is at the next of its entries
pub traces_next : (old copy new : Copy) (journal : List Entry) (i : ℕ) (d : Entry) → i < length journal → Traces old (take i journal) copy → FollowsOn copy (slice_index_or journal i d) new
    → (is_enable_tier (slice_index_or journal i d).event ≡ true → new ≡ copy) → (is_enable_tier (slice_index_or journal i d).event ≡ false → is_going (slice_index_or journal i d).turn ≡ false → IsAtRest new)
    → KeepsShape copy.parts new.parts → Traces old (take (i + 1) journal) new
traces_next old copy new journal i d within before follows beside rest same =
    subst (λ (es : List Entry). Traces old es new) (sym (ap (λ (n : ℕ). take n journal) (one_more i) ∙ take-suc journal i d within))
    (traces_on old copy new (take i journal) (slice_index_or journal i d) before follows beside rest same) where
      one_more : (n : ℕ) → n + 1 ≡ suc n
      one_more n = omega arith

-- ---- which entries come

-- an event that begins no call and is no step is of the enable tier
pub is_beside : (e : Event) → ((what : Sleeping) → e ≡ event.Begin what → ⊥) → ((m : Micro) (a : Option Bool) → e ≡ event.Step m a → ⊥) → is_enable_tier e ≡ true
is_beside (event.Enable n) begun made = refl
is_beside (event.Disable n) begun made = refl
is_beside (event.Running n) begun made = refl
is_beside (event.Begin what) begun made = absurd (begun what refl)
is_beside (event.Step m a) begun made = absurd (made m a refl)

-- one of the enable tier is no other
pub no_other : (e : Event) → is_enable_tier e ≡ true → is_enable_tier e ≡ false → ⊥
no_other e tier prepares = let no : true ≡ false = sym tier ∙ prepares in cc

-- ---- a core

-- the opening of a core that is told by its parts
pub same_start : (m : Parts) (words given : List ℕ) (desc : Checked) (ignore_unused : Bool) (credits : ℕ) → desc ≡ m.desc → given ≡ words → ignore_unused ≡ m.ignore_unused → credits ≡ m.credits
    → opening desc.defs given ignore_unused credits ≡ start_of m words
same_start m words given desc ignore_unused credits descs same unused paid =
    ap (λ (d : Checked). opening d.defs given ignore_unused credits) descs
    ∙ ap (λ (ws : List ℕ). opening m.desc.defs ws ignore_unused credits) same
    ∙ ap (λ (b : Bool). opening m.desc.defs words b credits) unused
    ∙ ap (λ (n : ℕ). opening m.desc.defs words m.ignore_unused n) paid

-- a copy of it that went along with its journal is one of its state
pub copy_of_run : (m : Parts) (words : List ℕ) (log : Logged) (start : State) (made new : Copy) → IsRun m words log → is_told m ≡ true → start ≡ start_of m words → IsCopyOf made start → Traces made log.entries new
    → IsCopyOf new (state_of m words log)
copy_of_run m words log start made new run told same opens traces = (traces.leads (start_of m words) (subst (λ (s : State). IsCopyOf made s) same opens) refl (run.legal told)).of

-- its calls name clocks of the description of a copy
pub placed_of_run : (m : Parts) (words : List ℕ) (log : Logged) (desc : Checked) → IsRun m words log → desc ≡ m.desc → ArePlaced desc.defs log.entries
placed_of_run m words log desc run same = subst (λ (d : Checked). ArePlaced d.defs log.entries) (sym same) run.placed
