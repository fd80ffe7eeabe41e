-- That parts go along with an event, from what was done to them.
use Rattle.std.proofs.Common.{◌≡◌, ℕ, ◌+◌, ◌≤◌, ◌⊎◌, inl, inr, Bool, true, false, List, [], ◌∷◌, Option, Some, None, refl, sym, ap, subst, ◌∙◌, arith, nat_eq}
use Rattle.std.specs.Prelude.{slice_get}
use Rattle.std.specs.Option.{IfNone}
use Rattle.clk_base.specs.declared.call.Micro.{Micro}
use Rattle.clk_base.specs.declared.call.Micro.TheVariants as micro
use Rattle.clk_base.specs.declared.call.Sleeping.{Sleeping}
use Rattle.clk_base.specs.declared.call.Sleeping.TheVariants as call
use Rattle.clk_base.specs.declared.clock.ClockId.{ClockId}
use Rattle.clk_base.specs.declared.event.Event.TheVariants as event
use Rattle.clk_base.specs.declared.event.Reply.{Reply}
use Rattle.clk_base.specs.declared.event.Reply.TheVariants as reply
use Rattle.clk_base.specs.declared.event.Turn.{Turn}
use Rattle.clk_base.specs.declared.event.Turn.TheVariants as turn
use Rattle.clk_model.specs.declared.row.ClockRow.{ClockRow}
use Rattle.clk_model.specs.declared.row.HandleRow.{HandleRow}
use Rattle.clk_model.specs.Begin.{register, begun}
use Rattle.clk_model.specs.Gates.{settled}
use Rattle.clk_model.specs.Journal.{slotless}
use Rattle.clk_model.specs.Machine.{comes_next, is_poll, next}
use Rattle.clk_model.specs.State.{State, Change, registered}
use Rattle.clk_model.specs.Step.{is_end, is_yes, poll, todo, taken, stepped}
use Rattle.clk_model.proofs.AlikeLaws.{inside_change}
use Rattle.clk_model.proofs.FlightLaws.{begin_is, step_is, next_is}
use Rattle.clk_model.proofs.ShapeLaws.{begun_paid}
use Rattle.clk_model.proofs.VetoLaws.{ends_it}
use Rattle.clk_machine.specs.Along.{GoesAlong}
use Rattle.clk_machine.specs.Making.{ComesFirst, ComesNext, only_goes_on}
use Rattle.clk_machine.specs.Parts.{Parts, own_in}
use Rattle.clk_machine.specs.Stands.{Stands, Becomes, Enters}
use Rattle.clk_machine.proofs.Answered.{FineDoes, probe_does}
use Rattle.clk_machine.proofs.Entered.{own_stands}
use Rattle.clk_machine.proofs.Making.{change_of}

-- ---- steps

-- one step alone comes next
one_next : (m n : Micro) (ms : List Micro) → comes_next m ms ≡ true → comes_next n ms ≡ true → m ≡ n
one_next m n [] first other = absurd cc
one_next m n (y ∷ ys) first other = sym (next_is m y ys first) ∙ next_is n y ys other

-- of an answer a step looks at whether it is yes, and only a poll does
same_answer : (s : State) (k : Change) (a b : Option Bool) (m : Micro) → (is_poll m ≡ false) ⊎ (is_yes a ≡ is_yes b) → stepped s k a m ≡ stepped s k b m
unfolding stepped
same_answer s k a b (micro.Poll y) (inl never) = absurd cc
same_answer s k a b (micro.Poll y) (inr same) = ap (λ (t : Bool). let x : State × Turn = (poll s k y.0 t, turn.Going) in x) same
same_answer s k a b m same = refl

-- a step that is made of the change in flight is made along with the entry that is known to come next
pub along_step : (old new : Parts) (n : Micro) (b : Option Bool) (y : Turn) → Enters old old.flight.driver (event.Step n b) y new → (d : ℕ) (m : Micro) (a : Option Bool) (x : Turn)
    → (is_poll n ≡ false) ⊎ (is_yes a ≡ is_yes b) → GoesAlong old d (event.Step m a) x new
along_step old new n b y enters d m a x same s t stands sound step =
    let leads = enters.step s stands sound in
    let one = step_is s t d m a (slotless x) step in
    let two = step_is s leads.to old.flight.driver n b (slotless y) leads.next_ in
    let change : one.0 ≡ two.0 = inside_change (sym one.1.at ∙ two.1.at) in
    let steps : m ≡ n = one_next m n (todo two.0) (ap (λ (k : Change). comes_next m (todo k)) (sym change) ∙ one.1.first) two.1.first in
    let alike : stepped s (taken one.0) a m ≡ stepped s (taken two.0) b n =
    ap (λ (k : Change). stepped s (taken k) a m) change ∙ ap (λ (i : Micro). stepped s (taken two.0) a i) steps ∙ same_answer s (taken two.0) a b n same in
    let to : leads.to ≡ t =
    sym two.1.state ∙ ap (λ (z : State × Turn). let u : State = record (settled s z.0) { steps = s.steps + 1 } in u) (sym alike) ∙ one.1.state in
    subst (λ (u : State). Stands new u) to leads.stands

-- ---- the end of a call

-- the step that an entry tells is the one that comes first
own_first : (old : Parts) (s t : State) (n : Micro) (d : ℕ) (m : Micro) (a : Option Bool) (x : Turn) → Stands old s → old.flight.going ≡ true → ComesFirst old n → next s d (event.Step m a) ≡ Some (t, x) → m ≡ n
own_first old s t n d m a x stands going first step =
    let has = change_of old s stands going in
    let one = step_is s t d m a x step in
    first_is n m (todo has.k) (first s.notifiers has.k stands.notifiers has.is)
    (ap (λ (k : Change). comes_next m (todo k)) (inside_change (sym has.change ∙ one.1.at)) ∙ one.1.first) where
      first_is : (n m : Micro) (ms : List Micro) → slice_get ms 0 ≡ Some n → comes_next m ms ≡ true → m ≡ n
      first_is n m [] none next = absurd cc
      first_is n m (y ∷ ys) at next = let same : y ≡ n = cc in sym (next_is m y ys next) ∙ same

end_stops : (s : State) (k : Change) (a : Option Bool) (m : Micro) → m ≡ micro.End → (stepped s k a m).1 ≡ turn.Going → ⊥
unfolding stepped
end_stops s k a m is going = let e : (stepped s k a micro.End).1 ≡ turn.Going = ap (λ (n : Micro). (stepped s k a n).1) (sym is) ∙ going in cc

-- after a step that goes on its call is in flight: that step isn't the end
pub going_on : (s t : State) (d : ℕ) (m : Micro) (a : Option Bool) → next s d (event.Step m a) ≡ Some (t, turn.Going) → m ≡ micro.End → ⊥
going_on s t d m a step is =
    let one = step_is s t d m a turn.Going step in
    end_stops s (taken one.0) a m is one.1.answered

-- a step at which a call ends is the end
pub ends_with : (s t : State) (d : ℕ) (m : Micro) (a : Option Bool) (r : Reply) → next s d (event.Step m a) ≡ Some (t, turn.Done r) → m ≡ micro.End
ends_with s t d m a r step =
    let one = step_is s t d m a (turn.Done r) step in
    ends_it s (taken one.0) a m r one.1.answered

-- so where the end comes first no step goes on
pub along_last : (old new : Parts) (d : ℕ) (m : Micro) (a : Option Bool) → old.flight.going ≡ true → ComesFirst old micro.End → GoesAlong old d (event.Step m a) turn.Going new
along_last old new d m a going first s t stands sound step = absurd (going_on s t d m a step (own_first old s t micro.End d m a turn.Going stands going first step))

-- an answer is an answer also without the slot of its handle
pub slotless_done : (r : Reply) → (q : Reply) × (slotless (turn.Done r) ≡ turn.Done q)
slotless_done (reply.Handle h) = (reply.Handle (record h { slot = 0 }), refl)
slotless_done r = (r, refl)

-- the step that comes next comes first, also if it is a notice or a fall
pub comes_first : (m : Parts) (n : Micro) → ComesNext m (Some n) → ComesFirst m n
comes_first m micro.End first = first
comes_first m n next = next.1

-- and where another step does, no call ends
pub along_unended : (old new : Parts) (n : Micro) (d : ℕ) (m : Micro) (a : Option Bool) (r : Reply) → old.flight.going ≡ true → ComesFirst old n → is_end n ≡ false
    → GoesAlong old d (event.Step m a) (turn.Done r) new
along_unended old new n d m a r going first other s t stands sound step =
    let done = slotless_done r in
    let end : m ≡ micro.End = ends_with s t d m a done.0 (step ∙ ap (λ (x : Turn). Some (t, x)) done.1) in
    let is : m ≡ n = own_first old s t n d m a (slotless (turn.Done r)) stands going first step in
    let no : true ≡ false = sym (ap is_end end) ∙ ap is_end is ∙ other in
    absurd cc

-- ---- calls that were answered at once

-- what was done is what the call has done in the state
pub along_becomes : (old new : Parts) (adds : ℕ → Bool) (does : State → State) (d : ℕ) (what : Sleeping) (r : Reply) → Becomes old adds does new
    → ((s : State) → Stands old s → (begun s d what).1 ≡ slotless (turn.Done r) → (begun s d what).0 ≡ does s) → GoesAlong old d (event.Begin what) (turn.Done r) new
along_becomes old new adds does d what r becomes same s t stands sound step =
    let is = begin_is s t d what (slotless (turn.Done r)) step in
    subst (λ (u : State). Stands new u) (ap (λ (y : State). let u : State = record (settled s y) { spent = s.spent + 1 } in u) (sym (same s stands is.2)) ∙ is.1) (becomes.stands s stands sound)

-- one row in both
pub inside_row : {a b : HandleRow} → Some a ≡ Some b → a ≡ b
inside_row e = cc

-- a call on a driver's own handle
pub along_own : (old new : Parts) (adds : ℕ → Bool) (test : HandleRow → Bool) (does : State → HandleRow → State) (d n : ℕ) (what : Sleeping) (row : HandleRow)
    → ((s : State) → FineDoes s d n test does (begun s d what)) → own_in old.table.handles d n ≡ Some row → Becomes old adds (λ s. does s row) new
    → GoesAlong old d (event.Begin what) (turn.Done reply.Fine) new
along_own old new adds test does d n what row each own becomes =
    along_becomes old new adds (λ s. does s row) d what reply.Fine becomes
    (λ s stands fine. let done = each s fine in done.is ∙ ap (does s) (inside_row (sym done.own ∙ own_stands old s d n (Some row) stands own)))

-- nothing is to be done where the handle isn't the driver's own, or no credit is left: no state takes the call then
pub along_none : (old : Parts) (test : HandleRow → Bool) (does : State → HandleRow → State) (d n : ℕ) (what : Sleeping) → ((s : State) → FineDoes s d n test does (begun s d what))
    → (own_in old.table.handles d n ≡ None) ⊎ (old.credits ≤ old.spent) → GoesAlong old d (event.Begin what) (turn.Done reply.Fine) old
along_none old test does d n what each none s t stands sound step = absurd (by none) where
  by : (own_in old.table.handles d n ≡ None) ⊎ (old.credits ≤ old.spent) → ⊥
  by (inl lacks) =
      let done = each s (begin_is s t d what (turn.Done reply.Fine) step).2 in
      let no : None ≡ Some done.row = sym (own_stands old s d n None stands lacks) ∙ done.own in cc
  by (inr poor) =
      let left = (begun_paid s t d what (turn.Done reply.Fine) step).0.left in
      let credits = stands.credits in
      let spent = stands.spent in
      omega arith

-- nor where its row doesn't pass the test
pub along_unfit : (old : Parts) (test : HandleRow → Bool) (does : State → HandleRow → State) (d n : ℕ) (what : Sleeping) (row : HandleRow) → ((s : State) → FineDoes s d n test does (begun s d what))
    → own_in old.table.handles d n ≡ Some row → test row ≡ false → GoesAlong old d (event.Begin what) (turn.Done reply.Fine) old
along_unfit old test does d n what row each own fails s t stands sound step =
    let done = each s (begin_is s t d what (turn.Done reply.Fine) step).2 in
    let no : true ≡ false = sym done.fit ∙ ap test (inside_row (sym done.own ∙ own_stands old s d n (Some row) stands own)) ∙ fails in
    absurd cc

-- what holds where none was found
pub by_none : {P : Type 0} (o : Option HandleRow) → o ≡ None → IfNone o P → P
by_none {P} o none holds = subst (λ (r : Option HandleRow). IfNone r P) none holds

-- a step that only goes on asks for no answer
pub asks_none : (m : Micro) → only_goes_on m ≡ true → is_poll m ≡ false
asks_none (micro.Poll y) on = absurd cc
asks_none m on = refl

-- ---- registrations

-- a clock is registered
pub along_probe : (old new : Parts) (d : ℕ) (c : ClockId) → Becomes old (λ k. nat_eq c.0 k) (λ s. register s c.0) new → GoesAlong old d (event.Begin (call.Probe c)) (turn.Done reply.Fine) new
along_probe old new d c becomes = along_becomes old new (λ k. nat_eq c.0 k) (λ s. register s c.0) d (call.Probe c) reply.Fine becomes (λ s stands fine. (probe_does s d c fine).is)

-- nothing is to be done where it was registered before, or no credit is left
pub along_no_probe : (old : Parts) (d : ℕ) (c : ClockId) → (registered old.tree.clocks c.0 ≡ true) ⊎ (old.credits ≤ old.spent) → GoesAlong old d (event.Begin (call.Probe c)) (turn.Done reply.Fine) old
along_no_probe old d c none s t stands sound step = absurd (by none) where
  by : (registered old.tree.clocks c.0 ≡ true) ⊎ (old.credits ≤ old.spent) → ⊥
  by (inl there) =
      let done = probe_does s d c (begin_is s t d (call.Probe c) (turn.Done reply.Fine) step).2 in
      let so : true ≡ false = sym there ∙ ap (λ (rs : List ClockRow). registered rs c.0) (sym stands.clocks) ∙ done.free in cc
  by (inr poor) =
      let left = (begun_paid s t d (call.Probe c) (turn.Done reply.Fine) step).0.left in
      let credits = stands.credits in
      let spent = stands.spent in
      omega arith
