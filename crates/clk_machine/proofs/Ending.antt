-- What the end of a call that went on writes: a handle, and the last request of a clock.
use Rattle.std.proofs.Common.{◌≡◌, ℕ, ◌+◌, ◌<◌, Bool, true, false, List, Option, Some, None, refl, sym, ap, subst, ◌∙◌, inl, inr, arith, length}
use Rattle.std.specs.Prelude.{is_some, slice_index}
use Rattle.std.proofs.Math.Bool.{or-false}
use Rattle.std.proofs.lemmas.List.{length-set}
use Rattle.clk_base.specs.declared.call.Micro.TheVariants as micro
use Rattle.clk_base.specs.declared.clock.ClockId.{ClockId}
use Rattle.clk_base.specs.declared.event.Turn.{Turn}
use Rattle.clk_base.specs.declared.event.Turn.TheVariants as turn
use Rattle.clk_model.specs.declared.row.ClockRow.{ClockRow}
use Rattle.clk_model.specs.declared.row.HandleRow.{HandleRow}
use Rattle.clk_model.specs.State.{State, Change, registered, link_in, handle_at, requested}
use Rattle.clk_model.specs.Begin.{put_handle}
use Rattle.clk_model.specs.Step.{taken, end_of}
use Rattle.clk_model.specs.Journal.{slotless}
use Rattle.clk_model.specs.Holders.{active}
use Rattle.clk_model.proofs.RateLaws.{rate-links}
use Rattle.clk_tree.specs.TreeState.{TreeState, IsTree}
use Rattle.clk_tree.proofs.Rows.{registered-requested, link-requested}
use Rattle.clk_flight.specs.Flights.{FlightState, IsChange}
use Rattle.clk_flight.specs.Moves.{landed}
use Rattle.counts_core.specs.Counted.{CountState, is_active}
use Rattle.rate_requests.specs.Handles.{HandleTable}
use Rattle.core_parts.specs.Window.{Shown}
use Rattle.clk_machine.specs.Landing.{Lands, reply_of}
use Rattle.clk_machine.specs.Making.{ComesFirst}
use Rattle.core_parts.specs.Listed.{rows_from}
use Rattle.core_parts.specs.Tied.{AreKept}
use Rattle.clk_machine.specs.Parts.{Parts, bare, held_in_all, ArePaid, IsWhole}
use Rattle.clk_machine.specs.Stands.{Stands}
use Rattle.core_parts.proofs.HeldCounts.{held_on, held_still}
use Rattle.clk_machine.proofs.Flying.{none_left}
use Rattle.core_parts.proofs.Holdings.{StandsFor-same, StandsFor-like}
use Rattle.core_parts.proofs.Coming.{some_left}
use Rattle.clk_machine.proofs.Making.{with_step, change_of, next_of}
use Rattle.clk_machine.proofs.Rows.{holds_stand}
use Rattle.core_parts.proofs.Shapes.{handle_at-put, sum_by-set}
use Rattle.clk_machine.proofs.Stepping.{ends_still}
use Rattle.clk_machine.proofs.Writing.{Written, written_stands}

-- ---- the parts stay whole

-- nothing changes but that no call is in flight
pub whole_landed : (old : Parts) (flight' : FlightState) → IsWhole old → old.flight.going ≡ true → flight' ≡ landed old.flight → IsWhole (with_step old old.window flight')
whole_landed old flight' whole going is =
    let quiet : flight'.going ≡ false = ap (λ (f : FlightState). f.going) is in
    record {
      tied = whole.tied;
      paid = whole.paid;
      counted = record { keeps = whole.counted.keeps; stands = whole.counted.stands };
      clocks = whole.clocks;
      handled = whole.handled;
      notified = whole.notified;
      listed = whole.listed;
      flown = λ still. let no : true ≡ false = sym still ∙ quiet in absurd cc;
      room =
          let room = whole.room in
          let some = some_left (rows_from 0 old.chains) old.flight (registered old.tree.clocks) going (whole.flown going).way in
          let none = none_left (rows_from 0 old.chains) flight' quiet in
          omega arith;
      prepares_held = held_on _ _ _ _ whole.prepares_held;
      enables_held = held_on _ _ _ _ whole.enables_held;
    }

-- a handle is written as well, for which the call had paid
abbrev pub with_ended : Parts → HandleTable → CountState → FlightState → Parts
with_ended old table' counts' flight' = record old { table = table'; counts = counts'; flight = flight'; steps = old.steps + 1 }

pub whole_ended : (old : Parts) (n : ℕ) (row new : HandleRow) (table' : HandleTable) (counts' : CountState) (flight' : FlightState) → IsWhole old → old.flight.going ≡ true
    → flight' ≡ landed old.flight → Written old n row new table' counts' → IsWhole (with_ended old table' counts' flight')
whole_ended old n row new table' counts' flight' whole going is written =
    let quiet : flight'.going ≡ false = ap (λ (f : FlightState). f.going) is in
    record {
      tied = whole.tied;
      paid = subst (λ (hs : List (Option HandleRow)). ArePaid hs old.credits old.spent) (sym written.handles) (record {
        few_credits = whole.paid.few_credits;
        within = whole.paid.within;
        few_handles = let few = whole.paid.few_handles in let len = length-set old.table.handles n (Some new) in omega arith;
        few_holds =
            let few = (whole.flown going).paid in
            let sums = sum_by-set held_in_all old.table.handles n row new written.live in
            let more = written.more in
            omega arith;
      });
      counted = record {
        keeps = written.keeps;
        stands =
            StandsFor-same counts' (put_handle (bare old) n (Some new)) (bare (with_ended old table' counts' flight'))
            (written_stands old n row new table' counts' (bare old) written whole.counted.stands written.live) refl refl written.handles refl refl;
      };
      clocks = written.clocks ∙ whole.clocks;
      handled = λ k h at. elim (handle_at-put old.table.handles n (Some new) k h (sym (ap (λ (hs : List (Option HandleRow)). handle_at hs k) written.handles) ∙ at)) [
        | inl put ↦
            let same : h ≡ new = cc in
            ap (λ (r : HandleRow). registered old.tree.clocks r.clock.0) same ∙ ap (λ (c : ClockId). registered old.tree.clocks c.0) written.clock ∙ whole.handled n row written.live
        | inr was ↦ whole.handled k h was
      ];
      notified = whole.notified;
      listed = whole.listed;
      flown = λ still. let no : true ≡ false = sym still ∙ quiet in absurd cc;
      room =
          let room = whole.room in
          let some = some_left (rows_from 0 old.chains) old.flight (registered old.tree.clocks) going (whole.flown going).way in
          let none = none_left (rows_from 0 old.chains) flight' quiet in
          omega arith;
      prepares_held = held_on _ _ _ _ whole.prepares_held;
      enables_held = held_on _ _ _ _ whole.enables_held;
    }

-- another rate is the last request of a clock
pub record IsRequested (t t' : TreeState) (c x : ℕ) : Type 0 where
  pub place : c < length t.clocks
  pub clocks : t'.clocks ≡ requested t.clocks c x
  pub order : t'.order ≡ t.order
  pub rates : t'.rates ≡ t.rates
  pub defs : t'.defs ≡ t.defs
  pub stands : IsTree t'.defs t'.clocks t'.order t'.rates

there_requested : (t t' : TreeState) (c x : ℕ) → IsRequested t t' c x → (k : ℕ) → registered t'.clocks k ≡ registered t.clocks k
there_requested t t' c x now k = ap (λ (rs : List ClockRow). registered rs k) now.clocks ∙ registered-requested t.clocks c x k now.place

links_requested : (t t' : TreeState) (c x : ℕ) → IsRequested t t' c x → (k : ℕ) → link_in t'.clocks k ≡ link_in t.clocks k
links_requested t t' c x now k = ap (λ (rs : List ClockRow). link_in rs k) now.clocks ∙ link-requested t.clocks c x k now.place

-- where no call is in flight the parts stay whole then
pub whole_requested : (m : Parts) (tree' : TreeState) (c x : ℕ) → IsWhole m → m.flight.going ≡ false → IsRequested m.tree tree' c x → IsWhole (record m { tree = tree' })
whole_requested m tree' c x whole quiet now = record {
  tied = record {
    valid = whole.tied.valid;
    words = whole.tied.words;
    told = whole.tied.told;
    defs = now.defs ∙ whole.tied.defs;
    stands = now.stands;
    kept = kept m.window.words whole.tied.kept;
  };
  paid = whole.paid;
  counted = record {
    keeps = whole.counted.keeps;
    stands = StandsFor-like m.counts (bare m) (bare (record m { tree = tree' })) whole.counted.stands refl (links_requested m.tree tree' c x now) (there_requested m.tree tree' c x now) refl refl refl;
  };
  clocks = whole.clocks;
  handled = λ n h e. there_requested m.tree tree' c x now h.clock.0 ∙ whole.handled n h e;
  notified = whole.notified;
  listed = whole.listed;
  flown = λ still. let no : true ≡ false = sym still ∙ quiet in absurd cc;
  room = whole.room;
  prepares_held = held_still (registered m.tree.clocks) (registered tree'.clocks) (length m.desc.defs) m.steps m.prepare_holds (λ k there. there_requested m.tree tree' c x now k ∙ there) whole.prepares_held;
  enables_held = held_still (registered m.tree.clocks) (registered tree'.clocks) (length m.desc.defs) m.steps m.enable_holds (λ k there. there_requested m.tree tree' c x now k ∙ there) whole.enables_held;
} where
  kept : (words : Option (List ℕ)) → AreKept m.desc.defs words m.tree.clocks m.tree.rates → AreKept m.desc.defs words tree'.clocks tree'.rates
  kept None was = tt
  kept (Some regs) was = λ k there.
      ap (λ (rs : List ℕ). slice_index rs k) now.rates ∙ was k (sym (there_requested m.tree tree' c x now k) ∙ there)
      ∙ sym (rate-links m.desc.defs regs m.tree.clocks tree'.clocks k (λ a. links_requested m.tree tree' c x now a))

-- ---- the machine's next state

slotless_reply : (v t : Bool) → turn.Done (reply_of v t) ≡ slotless (turn.Done (reply_of v t))
slotless_reply true t = refl
slotless_reply false true = refl
slotless_reply false false = refl

-- who is active stays, where the counts say so
still_active : (old new : Parts) (s t : State) (c : ℕ) → IsWhole old → IsWhole new → Stands old s → Stands new t → is_active new.counts c ≡ is_active old.counts c → active s c ≡ active t c
still_active old new s t c whole whole' stands stands' same = sym (holds_stand old s c whole stands).active ∙ sym same ∙ (holds_stand new t c whole' stands').active

-- what the end of a call does to a state, which the parts behind it stand for
pub record Ends (old new : Parts) (does : State → State) : Type 0 where
  pub whole : IsWhole old
  pub whole' : IsWhole new
  pub going : old.flight.going ≡ true
  pub first : ComesFirst old micro.End
  pub flight : new.flight ≡ landed old.flight
  pub desc : new.desc ≡ old.desc
  pub window : new.window ≡ old.window
  pub credits : new.credits ≡ old.credits
  pub ignore_unused : new.ignore_unused ≡ old.ignore_unused
  pub spent : new.spent ≡ old.spent
  pub rows : (c : ℕ) → registered new.tree.clocks c ≡ registered old.tree.clocks c
  pub active_ : (c : ℕ) → is_active new.counts c ≡ is_active old.counts c
  pub ends : (s : State) (k : Change) → Stands old s → IsChange s.notifiers old.flight k → end_of s (taken k) ≡ (record (does s) { change = None }, turn.Done (reply_of k.vetoed k.timed_out))
  pub stands : (s : State) → Stands old s → Stands new (record (does s) { change = None; steps = s.steps + 1 })

-- it takes the parts on
pub end_enters : (old new : Parts) (does : State → State) → Ends old new does → Lands old new
end_enters old new does now = record {
  remains = record {
    desc = now.desc;
    told = ap (λ (w : Shown). is_some w.words) now.window;
    size = ap (λ (w : Shown). w.size) now.window;
    behind = ap (λ (w : Shown). w.behind) now.window;
    credits = now.credits;
    ignore_unused = now.ignore_unused;
  };
  pays = let same : old.spent ≡ old.spent + 0 = omega arith in now.spent ∙ same;
  rows = λ c. now.rows c ∙ sym (or-false (registered old.tree.clocks c));
  going = quiet;
  driver_ = λ still. let no : true ≡ false = sym still ∙ quiet in absurd cc;
  fewer = λ free.
      let some = some_left (rows_from 0 old.chains) old.flight (registered old.tree.clocks) now.going (now.whole.flown now.going).way in
      let none = none_left (rows_from 0 new.chains) new.flight quiet in
      omega arith;
  begun = λ paid. absurd cc;
  no_more = λ paid. absurd cc;
  locks = λ still. ap (λ (w : Shown). w.locks) now.window;
  beside = λ tier. absurd cc;
  step = λ s stands sound.
      let has = change_of old s stands now.going in
      let k = has.k in
      let first = now.first s.notifiers k stands.notifiers has.is in
      let after = now.stands s stands in
      record {
        to = record (does s) { change = None; steps = s.steps + 1 };
        next_ =
            ends_still s old.flight.driver k (record (does s) { change = None }) (turn.Done (reply_of k.vetoed k.timed_out)) (next_of old s micro.End has first) (now.ends s k stands has.is)
            (λ c. still_active old new s (record (does s) { change = None; steps = s.steps + 1 }) c now.whole now.whole' stands after (now.active_ c))
            ∙ ap (λ (v : Bool). leaves s (turn.Done (reply_of v k.timed_out))) has.is.vetoed
            ∙ ap (λ (t : Bool). leaves s (turn.Done (reply_of old.flight.vetoed t))) has.is.timed_out
            ∙ ap (leaves s) (slotless_reply old.flight.vetoed old.flight.timed_out);
        stands = after;
      };
} where
  quiet : new.flight.going ≡ false
  quiet = ap (λ (f : FlightState). f.going) now.flight

  leaves : State → Turn → Option (State × Turn)
  leaves s t = Some (record (does s) { change = None; steps = s.steps + 1 }, t)
