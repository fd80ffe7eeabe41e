-- A copy goes along with the entries of a core, from the twin or the shadow that its parts stand for.
use Rattle.std.proofs.Common.{◌≡◌, ℕ, ◌+◌, ◌≤◌, ◌<◌, ◌⊎◌, inl, inr, ⊎_elim, not, Bool, true, false, List, Option, Some, None, refl, sym, ap, subst, ◌∙◌, arith, length, [], ◌∷◌}
use Rattle.std.specs.Prelude.{option_map}
use Rattle.std.specs.Option.{option_map_or}
use Rattle.clk_base.specs.declared.call.Micro.{Micro}
use Rattle.clk_base.specs.declared.call.Micro.TheVariants as micro
use Rattle.clk_base.specs.declared.call.Sleeping.{Sleeping}
use Rattle.clk_base.specs.declared.call.Sleeping.TheVariants as call
use Rattle.clk_base.specs.declared.clock.ClockId.{ClockId}
use Rattle.clk_base.specs.declared.event.Entry.{Entry}
use Rattle.clk_base.specs.declared.event.Event.{Event}
use Rattle.clk_base.specs.declared.event.Event.TheVariants as event
use Rattle.clk_base.specs.declared.event.Reply.{Reply}
use Rattle.clk_base.specs.declared.event.Reply.TheVariants as reply
use Rattle.clk_base.specs.declared.event.Turn.{Turn}
use Rattle.clk_base.specs.declared.event.Turn.TheVariants as turn
use Rattle.clk_base.specs.declared.handle.Handle.{Handle}
use Rattle.clk_base.specs.Description.{Description, parents_of}
use Rattle.clk_base.specs.Valid.{IsValid}
use Rattle.clk_model.specs.declared.row.ClockRow.{ClockRow}
use Rattle.clk_model.specs.declared.row.HandleRow.{HandleRow}
use Rattle.clk_model.specs.Begin.{change_of, begun, most_credits}
use Rattle.clk_model.specs.Gates.{settled}
use Rattle.clk_model.specs.Journal.{slotless}
use Rattle.clk_model.specs.Laws.Shadows.{sweeps, sweep_does, IsShadow, as_twin, as_shadow}
use Rattle.clk_model.specs.Laws.Twins.{IsTwin, IsLeftOut, TwinMakes}
use Rattle.clk_model.specs.Lists.{is_in}
use Rattle.clk_model.specs.Machine.{next}
use Rattle.clk_model.specs.Prep.{is_sweep, change_prep, prep}
use Rattle.clk_model.specs.State.{State, Change, registered, link_in}
use Rattle.clk_model.specs.Step.{is_end}
use Rattle.clk_model.specs.Tier.{is_step}
use Rattle.clk_model.proofs.AlikeLaws.{inside_change, same_changes}
use Rattle.clk_model.proofs.FlightLaws.{begin_is, step_is}
use Rattle.clk_model.proofs.PrepEventLaws.{prep_paid}
use Rattle.clk_model.proofs.ShadowLaws.{twin_unswept, twin_beside, shadow_swept}
use Rattle.clk_model.proofs.SweptLaws.{none_sweeps, begun_unswept, stepped_unswept}
use Rattle.clk_tree.specs.TreeState.{IsTree}
use Rattle.core_parts.specs.Tied.{AreTied}
use Rattle.clk_machine.specs.Along.{GoesAlong, IsEventOf, PartsFollow, SweepsAlong, FollowsEvent, tells_only, is_still}
use Rattle.clk_machine.specs.Copied.{Copy, Copies, Follows, IsCopyOf}
use Rattle.clk_machine.specs.Parts.{Parts, IsWhole}
use Rattle.clk_machine.specs.Ready.{GoesOut, NeverGo}
use Rattle.clk_machine.specs.SettingOut.{NeverGoes, sweep_end}
use Rattle.clk_machine.specs.Sound.{IsNarrow, IsSound}
use Rattle.clk_machine.specs.Stands.{Stands}
use Rattle.clk_machine.proofs.Along.{ends_with, slotless_done}
use Rattle.clk_machine.proofs.Answering.{never_going, sweep_has}
use Rattle.clk_machine.proofs.Flying.{quiet_stands}
use Rattle.clk_machine.proofs.Likeness.{twin_like, twin_change, twin_quiet}
use Rattle.clk_machine.proofs.Making as making
use Rattle.clk_machine.proofs.Still.{tells_still, fine_still}
use Rattle.clk_machine.proofs.Twinned.{twin_steps, twin_begins, twin_sweeps, shadow_goes}

-- ---- the twin is sound

-- parts that keep what they have to stand for narrow states
pub narrow_stands : (m : Parts) (s : State) → IsWhole m → Stands m s → IsNarrow m.window.size s
narrow_stands m s whole stands = record {
  valid = subst (λ (n : ℕ). IsValid n s.defs) (sym tied.words) (subst (λ (ds : Description). IsValid m.desc.words ds) (sym stands.defs) tied.valid);
  rows = ap (λ (rs : List ClockRow). length rs) stands.clocks ∙ tree.rows ∙ ap (λ (ds : Description). length ds) (tied.defs ∙ sym stands.defs);
  attached = λ c m. ap (λ (rs : List ClockRow). registered rs c) stands.clocks ∙ sym (tree.order_lists.listed c) ∙ ap (is_in c) (sym stands.order) ∙ m;
  unlinked = λ c free. subst (λ (rs : List ClockRow). link_in rs c ≡ None) (sym stands.clocks) (free_unlinked c (ap (λ (rs : List ClockRow). registered rs c) (sym stands.clocks) ∙ free));
  possible = λ c p at. ap (λ (ds : Description). is_in p (parents_of ds c)) (stands.defs ∙ sym tied.defs) ∙ tree.possible c p (ap (λ (rs : List ClockRow). link_in rs c) (sym stands.clocks) ∙ at);
} where
  tied : AreTied m.desc m.window m.tree
  tied = whole.tied

  tree : IsTree m.tree.defs m.tree.clocks m.tree.order m.tree.rates
  tree = whole.tied.stands

  free_unlinked : (c : ℕ) → registered m.tree.clocks c ≡ false → link_in m.tree.clocks c ≡ None
  free_unlinked c free = by (link_in m.tree.clocks c) refl where
    by : (o : Option ℕ) → link_in m.tree.clocks c ≡ o → o ≡ None
    by None at = refl
    by (Some p) at = let no : true ≡ false = sym (whole.tied.stands.linked c p at) ∙ free in absurd cc

pub sound_copy : (copy : Copy) (s : State) → IsWhole copy.parts → (of : IsCopyOf copy s) → IsTwin of.copies.twin s → of.copies.twin.change ≡ s.change → IsSound copy.parts.window.size of.copies.twin
sound_copy copy s whole of twin change = record {
  like = twin_like copy.parts.window.size s of.copies.twin of.reached twin change;
  narrow = narrow_stands copy.parts of.copies.twin whole of.copies.stands;
}

-- what it goes along with it is of then, if no sweep is in flight after it
copies_made : (old new : Copy) (s t : State) (d : ℕ) (e : Event) (x : Turn) → IsWhole old.parts → (of : IsCopyOf old s) → IsTwin of.copies.twin s → of.copies.twin.change ≡ s.change
    → GoesAlong old.parts d e x new.parts → (makes : TwinMakes of.copies.twin d e t (slotless x)) → sweeps makes.after ≡ false → Copies new t
copies_made old new s t d e x whole of twin change along makes none =
    record { twin = makes.after; stands = along of.copies.twin makes.after of.copies.stands (sound_copy old s whole of twin change) makes.made; is = as_twin none makes.twin }

-- ---- twins and shadows

-- whether a sweep is in flight in a state is what the parts of it say
swept_stands : (m : Parts) (t : State) → Stands m t → m.flight.going ≡ true → sweeps t ≡ is_sweep m.flight.call
swept_stands m t stands going =
    let has = making.change_of m t stands going in
    ap (λ (o : Option Change). option_map_or (λ k. is_sweep k.call) o false) has.change ∙ ap is_sweep has.is.call

-- while no call is in flight in a state, its copy stands for a twin
twin_at_rest : (copy : Copy) (s : State) (of : IsCopyOf copy s) → s.change ≡ None → IsTwin of.copies.twin s
twin_at_rest copy s of quiet = twin_beside s of.copies.twin of.copies.is (none_sweeps s quiet)

-- ---- steps

-- the call in flight is the copy's
same_call : (copy : Copy) (s : State) (k : Change) (of : IsCopyOf copy s) → IsTwin of.copies.twin s → copy.parts.flight.going ≡ true → s.change ≡ Some k → k.call ≡ copy.parts.flight.call
same_call copy s k of twin going at =
    let has = making.change_of copy.parts of.copies.twin of.copies.stands going in
    let one : change_prep has.k ≡ change_prep k =
    inside_change (ap (λ (o : Option Change). option_map change_prep o) (sym has.change) ∙ same_changes s of.copies.twin twin.same ∙ ap (λ (o : Option Change). option_map change_prep o) at) in
    sym (ap (λ (j : Change). j.call) one) ∙ has.is.call

-- a step of a call that isn't the sweep
pub copies_step : (old new : Copy) (s t : State) (d : ℕ) (m : Micro) (a : Option Bool) (x : Turn) → IsWhole old.parts → IsCopyOf old s → old.parts.flight.going ≡ true → is_sweep old.parts.flight.call ≡ false
    → GoesAlong old.parts d (event.Step m a) x new.parts → next s d (event.Step m a) ≡ Some (t, slotless x) → Copies new t
copies_step old new s t d m a x whole of going other along step =
    let found = step_is s t d m a (slotless x) step in
    let none : sweeps of.copies.twin ≡ false = swept_stands old.parts of.copies.twin of.copies.stands going ∙ other in
    let twin = twin_unswept s of.copies.twin of.copies.is none in
    let not_sweep : is_sweep found.0.call ≡ false = ap is_sweep (same_call old s found.0 of twin going found.1.at) ∙ other in
    let makes = twin_steps old.parts.window.size s of.copies.twin t found.0 d m a (slotless x) of.reached twin found.1.at not_sweep step in
    copies_made old new s t d (event.Step m a) x whole of twin (twin_change s of.copies.twin found.0 twin found.1.at not_sweep) along makes
    (stepped_unswept of.copies.twin makes.after d m a (slotless x) none makes.made)

-- no step comes if no call is in flight
pub no_step : (copy : Copy) (s t : State) (d : ℕ) (m : Micro) (a : Option Bool) (x : Turn) → IsCopyOf copy s → copy.parts.flight.going ≡ false → next s d (event.Step m a) ≡ Some (t, x) → ⊥
no_step copy s t d m a x of quiet step =
    let found = step_is s t d m a x step in
    let none = quiet_stands copy.parts of.copies.twin of.copies.stands quiet in
    let twin = twin_unswept s of.copies.twin of.copies.is (none_sweeps of.copies.twin none) in
    let no : None ≡ Some (change_prep found.0) =
    ap (λ (o : Option Change). option_map change_prep o) (sym none) ∙ same_changes s of.copies.twin twin.same ∙ ap (λ (o : Option Change). option_map change_prep o) found.1.at in
    cc

-- ---- beginnings

-- of a call that isn't the sweep, if it isn't one that may be left out
pub copies_begin : (old new : Copy) (s t : State) (d : ℕ) (what : Sleeping) (x : Turn) → IsWhole old.parts → IsCopyOf old s → is_sweep what ≡ false → (IsLeftOut (slotless x) → ⊥)
    → GoesAlong old.parts d (event.Begin what) x new.parts → next s d (event.Begin what) ≡ Some (t, slotless x) → Copies new t
copies_begin old new s t d what x whole of other never along step =
    by (twin_begins old.parts.window.size s of.copies.twin t d what (slotless x) of.reached twin other step) where
      quiet : s.change ≡ None
      quiet = (begin_is s t d what (slotless x) step).0

      twin : IsTwin of.copies.twin s
      twin = twin_at_rest old s of quiet

      by : TwinMakes of.copies.twin d (event.Begin what) t (slotless x) ⊎ (IsLeftOut (slotless x) × IsTwin of.copies.twin t) → Copies new t
      by (inl makes) =
          copies_made old new s t d (event.Begin what) x whole of twin (twin_quiet s of.copies.twin twin quiet) along makes (begun_unswept of.copies.twin makes.after d what (slotless x) other makes.made)
      by (inr left) = absurd (never left.0)

-- a call that leaves the state as it is leaves the copy one of it
copies_still : (copy : Copy) (s t : State) (d : ℕ) (what : Sleeping) (x : Turn) → IsCopyOf copy s → next s d (event.Begin what) ≡ Some (t, x) → (begun s d what).0 ≡ s → Copies copy t
unfolding settled
copies_still copy s t d what x of step still =
    let is = begin_is s t d what x step in
    let twin = twin_at_rest copy s of is.0 in
    let to : t ≡ record (settled s s) { spent = s.spent + 1 } =
    sym is.1 ∙ ap (λ (y : State). let u : State = record (settled s y) { spent = s.spent + 1 } in u) still in
    let spent : t.spent ≡ s.spent + 1 = ap (λ (u : State). u.spent) to in
    let steps : t.steps ≡ s.steps = ap (λ (u : State). u.steps) to in
    let holds : t.enable_holds ≡ s.enable_holds = ap (λ (u : State). u.enable_holds) to in
    let least = twin.spent in
    let few = twin.steps in
    record {
      twin = of.copies.twin;
      stands = of.copies.stands;
      is = as_twin (none_sweeps of.copies.twin (twin_quiet s of.copies.twin twin is.0 ∙ is.0)) (record {
        bare = twin.bare;
        holds = twin.holds ∙ sym holds;
        spent = omega arith;
        steps = omega arith;
        same = twin.same ∙ sym (ap prep (sym is.1) ∙ prep_paid s (begun s d what) ∙ ap prep still);
      });
    }

-- so does an answer that tells or refuses
pub copies_told : (copy : Copy) (s t : State) (d : ℕ) (what : Sleeping) (r : Reply) → IsCopyOf copy s → tells_only r ≡ true → next s d (event.Begin what) ≡ Some (t, slotless (turn.Done r)) → Copies copy t
copies_told copy s t d what r of only step =
    copies_still copy s t d what (slotless (turn.Done r)) of step (tells_still s d what r ((begin_is s t d what (slotless (turn.Done r)) step).2 ∙ plain r only) only) where
      plain : (q : Reply) → tells_only q ≡ true → slotless (turn.Done q) ≡ turn.Done q
      plain (reply.Handle h) e = absurd cc
      plain q e = refl

-- and a call that has nothing to do
pub copies_fine : (copy : Copy) (s t : State) (d : ℕ) (what : Sleeping) → IsCopyOf copy s → is_still what ≡ true → next s d (event.Begin what) ≡ Some (t, turn.Done reply.Fine) → Copies copy t
copies_fine copy s t d what of still step = copies_still copy s t d what (turn.Done reply.Fine) of step (fine_still s d what still (begin_is s t d what (turn.Done reply.Fine) step).2)

-- Ok is no answer of a call that may be left out
pub fine_kept : IsLeftOut (turn.Done reply.Fine) → ⊥
fine_kept (inl is) = cc
fine_kept (inr (inl is)) = cc
fine_kept (inr (inr is)) = cc

-- nor does it go on
pub going_kept : IsLeftOut turn.Going → ⊥
going_kept (inl is) = cc
going_kept (inr (inl is)) = cc
going_kept (inr (inr is)) = cc

-- ---- a sweep

-- a copy stands for a shadow then
swept_shadow : (copy : Copy) (s : State) (of : IsCopyOf copy s) → copy.parts.flight.going ≡ true → is_sweep copy.parts.flight.call ≡ true → IsShadow of.copies.twin s
swept_shadow copy s of going sweeping = shadow_swept s of.copies.twin of.copies.is (swept_stands copy.parts of.copies.twin of.copies.stands going ∙ sweeping)

-- a step that isn't the end
pub copies_sweep : (old new : Copy) (s t : State) (d : ℕ) (m : Micro) (a : Option Bool) (x : Turn) → IsCopyOf old s → old.parts.flight.going ≡ true → is_sweep old.parts.flight.call ≡ true
    → is_end m ≡ false → SweepsAlong old.parts m new.parts → next s d (event.Step m a) ≡ Some (t, slotless x) → Copies new t
copies_sweep old new s t d m a x of going sweeping other along step =
    let shadow = swept_shadow old s of going sweeping in
    let goes = shadow_goes old.parts.window.size s of.copies.twin t d m a (slotless x) of.reached shadow step in
    record { twin = sweep_does of.copies.twin m; stands = along of.copies.twin of.copies.stands goes.there; is = as_shadow (goes.stays other) }

-- at its end none is in flight in the copy
pub copies_halted : (old new : Copy) (d : ℕ) (m : Micro) (a : Option Bool) (r : Reply) → old.parts.flight.going ≡ true → is_sweep old.parts.flight.call ≡ true
    → ((s : State) → Stands old.parts s → Stands new.parts (record s { change = None })) → FollowsEvent old d (event.Step m a) (turn.Done r) new
copies_halted old new d m a r going sweeping stands s t of step =
    let done = slotless_done r in
    let last : m ≡ micro.End = ends_with s t d m a done.0 (step ∙ ap (λ (x : Turn). Some (t, x)) done.1) in
    let goes = shadow_goes old.parts.window.size s of.copies.twin t d m a (slotless (turn.Done r)) of.reached (swept_shadow old s of going sweeping) step in
    record { twin = record of.copies.twin { change = None }; stands = stands of.copies.twin of.copies.stands; is = as_twin refl (goes.ends (ap is_end last)) }

-- a call that is answered by Ok at once and isn't the sweep
pub copies_done : (old new : Copy) (d : ℕ) (what : Sleeping) → IsWhole old.parts → is_sweep what ≡ false → GoesAlong old.parts d (event.Begin what) (turn.Done reply.Fine) new.parts
    → FollowsEvent old d (event.Begin what) (turn.Done reply.Fine) new
copies_done old new d what whole other along s t of step = copies_begin old new s t d what (turn.Done reply.Fine) whole of other fine_kept along step

-- ---- what is told of a change in flight

pub quiet_told : (going quiet : Bool) → quiet ≡ not going → quiet ≡ true → going ≡ false
quiet_told true quiet is so = let none : true ≡ false = sym so ∙ is in absurd cc
quiet_told false quiet is so = refl

pub going_told : (going quiet : Bool) → quiet ≡ not going → quiet ≡ false → going ≡ true
going_told true quiet is so = refl
going_told false quiet is so = let none : false ≡ true = sym so ∙ is in absurd cc

-- no call begins while one is in flight
pub no_begin : (copy : Copy) (s t : State) (d : ℕ) (what : Sleeping) (x : Turn) → IsCopyOf copy s → copy.parts.flight.going ≡ true → next s d (event.Begin what) ≡ Some (t, x) → ⊥
no_begin copy s t d what x of going step =
    let has = making.change_of copy.parts of.copies.twin of.copies.stands going in
    let quiet = (begin_is s t d what x step).0 in
    let none = twin_quiet s of.copies.twin (twin_at_rest copy s of quiet) quiet ∙ quiet in
    let so : Some has.k ≡ None = sym has.change ∙ none in
    cc

-- a row is what was found
pub same_row : (a b : HandleRow) → (let o : Option HandleRow = Some a in o) ≡ Some b → a ≡ b
same_row a b e = ap (λ (o : Option HandleRow). option_map_or (λ r. r) o a) e

-- ---- a call that goes on

-- it begins in the copy too, unless it is the sweep
pub copies_going : (old new : Copy) (d : ℕ) (what : Sleeping) → IsWhole old.parts → is_sweep what ≡ false → GoesAlong old.parts d (event.Begin what) turn.Going new.parts
    → FollowsEvent old d (event.Begin what) turn.Going new
copies_going old new d what whole other along s t of step = copies_begin old new s t d what turn.Going whole of other going_kept along step

-- so it goes on in no state of which a copy is that goes on in none
pub never_copied : (copy : Copy) (s t : State) (d : ℕ) (what : Sleeping) → IsWhole copy.parts → IsCopyOf copy s → is_sweep what ≡ false → NeverGoes copy.parts d what
    → next s d (event.Begin what) ≡ Some (t, turn.Going) → ⊥
never_copied copy s t d what whole of other never step =
    by (twin_begins copy.parts.window.size s of.copies.twin t d what turn.Going of.reached twin other step) where
      quiet : s.change ≡ None
      quiet = (begin_is s t d what turn.Going step).0

      twin : IsTwin of.copies.twin s
      twin = twin_at_rest copy s of quiet

      by : TwinMakes of.copies.twin d (event.Begin what) t turn.Going ⊎ (IsLeftOut turn.Going × IsTwin of.copies.twin t) → ⊥
      by (inl makes) = never of.copies.twin makes.after of.copies.stands (sound_copy copy s whole of twin (twin_quiet s of.copies.twin twin quiet)) makes.made
      by (inr left) = going_kept left.0

-- a sweep has its end alone left in the copy
pub copies_swept : (old new : Copy) (d : ℕ) → ((s : State) → Stands old.parts s → Stands new.parts (sweep_end s d)) → FollowsEvent old d (event.Begin call.Sweep) turn.Going new
copies_swept old new d stands s t of step =
    let tw = of.copies.twin in
    let twin = twin_at_rest old s of (begin_is s t d call.Sweep turn.Going step).0 in
    record {
      twin = sweep_end tw d;
      stands = stands tw of.copies.stands;
      is = as_shadow (twin_sweeps old.parts.window.size s tw t (change_of tw d call.Sweep (micro.End ∷ [])) d of.reached twin refl step);
    }

-- ---- an entry

-- a copy is one by its parts, whatever it has room for
by_parts : (copy : Copy) (s : State) → IsCopyOf copy s → IsCopyOf (record { parts = copy.parts; room = None }) s
by_parts copy s of = record { reached = of.reached; copies = record { twin = of.copies.twin; stands = of.copies.stands; is = of.copies.is } }

-- it follows an entry of the call that it has room for, if its parts go along with the event
pub follows_parts : (old new : Copy) (e : Entry) (d : ℕ) (what : Sleeping) → old.room ≡ Some (d, what) → (IsEventOf what e.event → PartsFollow old.parts d e.event e.turn new.parts) → Follows old e new
follows_parts old new e d what room along s t of call step =
    let same : (d, what) ≡ (e.driver, call.what) = inside_call (sym room ∙ call.room_) in
    let driver : e.driver ≡ d = sym (ap (λ (r : ℕ × Sleeping). r.0) same) in
    let one : IsEventOf what e.event = λ isnt. call.begins isnt ∙ ap event.Begin (sym (ap (λ (r : ℕ × Sleeping). r.1) same)) in
    let copies = along one s t (by_parts old s of) (ap (λ (n : ℕ). next s n e.event) (sym driver) ∙ step) in
    record { twin = copies.twin; stands = copies.stands; is = copies.is } where
      inside_call : {a b : ℕ × Sleeping} → Some a ≡ Some b → a ≡ b
      inside_call is = cc

-- an event of a call that begins one begins it
pub begin_of : (e : Event) (begun what : Sleeping) → e ≡ event.Begin begun → IsEventOf what e → e ≡ event.Begin what
begin_of e begun what is of = of (ap is_step is)

-- without room there is no entry to follow
pub follows_none : (old new : Copy) (e : Entry) → old.room ≡ None → Follows old e new
follows_none old new e none s t of call step = let no : None ≡ Some (e.driver, call.what) = sym none ∙ call.room_ in absurd cc

-- ---- a beginning

-- a call that goes on nowhere goes on in no state that the copy is of
no_go : (old : Copy) (s t : State) (d : ℕ) (what : Sleeping) → IsWhole old.parts → IsCopyOf old s → is_sweep what ≡ false → NeverGo old.parts d what → next s d (event.Begin what) ≡ Some (t, turn.Going) → ⊥
no_go old s t d (call.Prepare h) whole of other never step = never_copied old s t d (call.Prepare h) whole of other never step
no_go old s t d (call.Unprepare h) whole of other never step = never_copied old s t d (call.Unprepare h) whole of other never step
no_go old s t d (call.SetRate h x) whole of other never step = never_copied old s t d (call.SetRate h x) whole of other never step
no_go old s t d (call.SetRateExclusive h x) whole of other never step = never_copied old s t d (call.SetRateExclusive h x) whole of other never step
no_go old s t d (call.SetRange h least most) whole of other never step = never_copied old s t d (call.SetRange h least most) whole of other never step
no_go old s t d (call.SetParent h p) whole of other never step = never_copied old s t d (call.SetParent h p) whole of other never step
no_go old s t d (call.Probe c) whole of other never step = never_copied old s t d (call.Probe c) whole of other never step
no_go old s t d call.Sweep whole of other never step = absurd cc
no_go old s t d what whole of other never step = never_going s t d what never step

-- nor does a sweep for which no credit or no room is left
no_sweep : (old : Copy) (s t : State) (d : ℕ) → IsCopyOf old s → NeverGo old.parts d call.Sweep → next s d (event.Begin call.Sweep) ≡ Some (t, turn.Going) → ⊥
unfolding prep
no_sweep old s t d of never step =
    let has = sweep_has s t d step in
    let twin = twin_at_rest old s of (begin_is s t d call.Sweep turn.Going step).0 in
    let left = has.0 in
    let room = has.1 in
    let credits : s.credits ≡ old.parts.credits = sym (ap (λ (u : State). u.credits) twin.same) ∙ of.copies.stands.credits in
    let spent = of.copies.stands.spent in
    let least = twin.spent in
    let steps = of.copies.stands.steps in
    let few = twin.steps in
    ⊎_elim (λ (poor : old.parts.credits ≤ old.parts.spent). let no : ⊥ = omega arith in no) (λ (full : most_credits < old.parts.credits + old.parts.steps + 1). let no : ⊥ = omega arith in no) never

-- how a call that isn't the sweep goes out
goes_or_never : (old new : Parts) (d : ℕ) (what : Sleeping) → is_sweep what ≡ false → GoesOut old d what new → GoesAlong old d (event.Begin what) turn.Going new ⊎ NeverGo old d what
goes_or_never old new d call.Sweep other goes = absurd cc
goes_or_never old new d what other goes = goes

swept_out : (old new : Copy) (d : ℕ) → ((s : State) → Stands old.parts s → Stands new.parts (sweep_end s d)) ⊎ NeverGo old.parts d call.Sweep → FollowsEvent old d (event.Begin call.Sweep) turn.Going new
swept_out old new d (inl stands) = copies_swept old new d stands
swept_out old new d (inr never) = λ s t of step. absurd (no_sweep old s t d of never step)

gone_out : (old new : Copy) (d : ℕ) (what : Sleeping) → IsWhole old.parts → is_sweep what ≡ false → GoesAlong old.parts d (event.Begin what) turn.Going new.parts ⊎ NeverGo old.parts d what
    → FollowsEvent old d (event.Begin what) turn.Going new
gone_out old new d what whole other (inl along) = copies_going old new d what whole other along
gone_out old new d what whole other (inr never) = λ s t of step. absurd (no_go old s t d what whole of other never step)

-- a call that goes on begins in the copy with what was made for it
pub copies_out : (old new : Parts) (d : ℕ) (what : Sleeping) → IsWhole old → GoesOut old d what new → PartsFollow old d (event.Begin what) turn.Going new
copies_out old new d call.Sweep whole goes = swept_out (record { parts = old; room = None }) (record { parts = new; room = None }) d goes
copies_out old new d what whole goes = gone_out (record { parts = old; room = None }) (record { parts = new; room = None }) d what whole refl (goes_or_never old new d what refl goes)

-- ---- a handle

-- a handle is no answer of a call that may be left out
handle_kept : (h : Handle) → IsLeftOut (turn.Done (reply.Handle h)) → ⊥
handle_kept h (inl is) = cc
handle_kept h (inr (inl is)) = cc
handle_kept h (inr (inr is)) = cc

-- a get of a clock that gives a handle
pub copies_got : (old new : Copy) (d : ℕ) (c : ClockId) → IsWhole old.parts → (h : Handle) → GoesAlong old.parts d (event.Begin (call.Get (Some c))) (turn.Done (reply.Handle h)) new.parts
    → FollowsEvent old d (event.Begin (call.Get (Some c))) (turn.Done (reply.Handle h)) new
copies_got old new d c whole h along s t of step =
    copies_begin old new s t d (call.Get (Some c)) (turn.Done (reply.Handle h)) whole of refl (handle_kept (record h { slot = 0 })) along step
