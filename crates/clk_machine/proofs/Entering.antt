-- Entering an event that the machine has taken into the journal.
use Rattle.std.proofs.Common.{◌≡◌, ℕ, zero, suc, ◌+◌, ◌<◌, ◌||◌, not, Bool, true, false, cond, List, [], ◌∷◌, ◌++◌, Option, Some, None, refl, sym, ap, subst, ◌∙◌, arith, length, take, nat_le, ◌≤◌}
use Rattle.std.proofs.lemmas.Bool.Decides.{nat_tests}
use Rattle.std.proofs.lemmas.List.{length-append, take-append-le, take_all}
use Rattle.std.proofs.lemmas.List.Elements.{All-append, All-nil}
use Rattle.std.proofs.lemmas.List.Sums.{sum_by-append}
use Rattle.clk_base.specs.declared.call.Micro.{Micro}
use Rattle.clk_base.specs.declared.call.Sleeping.{Sleeping}
use Rattle.std.proofs.lemmas.List.Folds.{list_any-append}
use Rattle.clk_base.specs.declared.event.Entry.{Entry}
use Rattle.clk_base.specs.declared.event.Event.{Event}
use Rattle.clk_base.specs.declared.event.Event.TheVariants as event
use Rattle.clk_base.specs.declared.event.Reply.TheVariants as reply
use Rattle.clk_base.specs.declared.event.Turn.{Turn}
use Rattle.clk_base.specs.declared.event.Turn.TheVariants as turn
use Rattle.clk_base.specs.Checked.{Checked}
use Rattle.clk_model.specs.declared.row.ClockRow.{ClockRow}
use Rattle.clk_base.specs.Description.{Description}
use Rattle.clk_model.specs.State.{State, registered}
use Rattle.clk_model.specs.Machine.{next}
use Rattle.clk_model.specs.Journal.{slotless, replay, Legal, opening, is_paid, is_going, cost, Polled}
use Rattle.clk_model.proofs.EndCauseLaws.{going_leaves_changes}
use Rattle.clk_model.proofs.JournalCauseLaws.{journals_have_causes}
use Rattle.clk_model.proofs.JournalLaws.{replay-append, Legal-append}
use Rattle.clk_machine.specs.Sound.{IsReached, IsNarrow, IsSound, IsPlaced, links_well, CanTake}
use Rattle.core_parts.specs.Listed.{rows_from}
use Rattle.clk_machine.specs.Parts.{Parts, steps_left}
use Rattle.clk_machine.proofs.Flying.{never_flown, none_left}
use Rattle.std.specs.Prelude.{if◌then◌else◌}
use Rattle.clk_model.specs.Tier.{is_enable_tier}
use Rattle.clk_machine.specs.Stands.{Stands, is_told, Remains, Leads, Enters, Proceeds, joins, most_steps, price, starts_or_polls}
use Rattle.core_parts.specs.declared.behind.Behind.{Behind}
use Rattle.clk_machine.specs.Polls.{FollowsLocks, IfPoll, IsAsked, asked_by}
use Rattle.core_parts.specs.Window.{HasDelays}
use Rattle.clk_machine.proofs.Polling.{Takes, answers_on, asked_append, front_behind_journal, polled_append, polling_on}
use Rattle.clk_base.specs.Valid.{IsValid}
use Rattle.clk_model.specs.Fed.{Fed}
use Rattle.clk_machine.proofs.Likeness.{sound_reached}
use Rattle.clk_machine.proofs.Soundness.{fed_reached, reached_next, reached_opening, narrow_opening}
use Rattle.clk_model.specs.Begin.{most_credits}
use Rattle.clk_machine.proofs.Events.{narrow_next}
use Rattle.clk_machine.specs.Run.{Run, now_of, was_registered, BeginsPlaced, ArePlaced, going_after, in_flight, driver_after, driver_in_flight, Logged, start_of, state_of, run_of, IsRun, Appends, StepsOn, StepTurns}
use Rattle.std.proofs.Math.Bool.{or-false}

-- an entry more costs its price more
cost-append : (journal : List Entry) (e : Entry) → cost (journal ++ e ∷ []) ≡ cost journal + price e.event
cost-append journal e =
    sum_by-append (λ f. cond (is_paid f.event) 1 0) journal (e ∷ []) ∙ ap (λ (n : ℕ). cost journal + n) (none_first (price e.event)) where
      none_first : (n : ℕ) → 0 + n ≡ n
      none_first n = omega arith

-- the opening is that of what remains
start_remains : (old new : Parts) (words : List ℕ) → Remains old new → start_of new words ≡ start_of old words
start_remains old new words remains =
    ap (λ (d : Checked). opening d.defs words new.ignore_unused new.credits) remains.desc
    ∙ ap (λ (b : Bool). opening old.desc.defs words b new.credits) remains.ignore_unused
    ∙ ap (λ (n : ℕ). opening old.desc.defs words old.ignore_unused n) remains.credits

-- the entry of an event
abbrev pub entry_of : ℕ → Event → Turn → Entry
entry_of d e t = record { driver = d; event = e; turn = t }

-- one entry, whose call names clocks of the description
placed_one : (defs : Description) (e : Entry) → BeginsPlaced defs e.event → ArePlaced defs (e ∷ [])
placed_one defs e placed zero f within = placed
placed_one defs e placed (suc k) f within = absurd (omega arith)

-- a journal with an entry more, after which the active clocks are fed, as they were after every prefix
fed-append : (start t : State) (turn : Turn) (entries entries' : List Entry) (e : Entry) → entries' ≡ entries ++ e ∷ [] → next (replay start entries) e.driver e.event ≡ Some (t, turn)
    → ((n : ℕ) → Fed (replay start (take n entries))) → Fed t → (n : ℕ) → Fed (replay start (take n entries'))
fed-append start t turn entries entries' e is step before after n =
    subst (λ (es : List Entry). Fed (replay start (take n es))) (sym is)
    (elim (nat_le n (length entries)) as (λ b. nat_le n (length entries) ≡ b → Fed (replay start (take n (entries ++ e ∷ [])))) [
      | true ↦ λ low.
          let within : n ≤ length entries = grind (arith, nat_tests) in
          subst (λ (es : List Entry). Fed (replay start es)) (sym (take-append-le n entries (e ∷ []) within)) (before n)
      | false ↦ λ high.
          let past : length entries < n = grind (arith, nat_tests) in
          let len = length-append entries (e ∷ []) in
          subst (λ (es : List Entry). Fed (replay start es)) (sym (take_all n (entries ++ e ∷ []) (omega arith)))
          (subst (λ (s : State). Fed s) (sym (replay-append start t turn entries e step)) after)
    ] refl)

-- a call is in flight behind a journal with an entry more where it goes on, or was before one of the enable tier
pub going_append : (going : Bool) (entries : List Entry) (e : Entry) → going_after going (entries ++ e ∷ []) ≡ (if is_enable_tier e.event then going_after going entries else is_going e.turn)
going_append going [] e = refl
going_append going (f ∷ entries) e = going_append (if is_enable_tier f.event then going else is_going f.turn) entries e

-- and it is the driver's of the last event that isn't of the enable tier
pub driver_append : (d : ℕ) (entries : List Entry) (e : Entry) → driver_after d (entries ++ e ∷ []) ≡ (if is_enable_tier e.event then driver_after d entries else e.driver)
driver_append d [] e = refl
driver_append d (f ∷ entries) e = driver_append (if is_enable_tier f.event then d else f.driver) entries e

-- an event that is taken and entered
pub record IsEntered (old new : Parts) (words : List ℕ) (log log' : Logged) (d : ℕ) (e : Event) (t : Turn) : Type 0 where
  pub run : IsRun old words log
  pub proceeds : Proceeds old d e t new
  pub leads_ : is_told old ≡ true → Leads (state_of old words log) d e t new
  pub can : is_told old ≡ true → CanTake (state_of old words log) e
  pub placed : BeginsPlaced old.desc.defs e
  pub entries : log'.entries ≡ log.entries ++ entry_of d e t ∷ []
  pub room : new.credits + steps_left new ≤ new.spent + log'.room
  pub locks : FollowsLocks old e new

-- what an event does to the parts, and where it leads from the state of a run
proceeds_of : (old new : Parts) (d : ℕ) (e : Event) (t : Turn) → Enters old d e t new → Proceeds old d e t new
proceeds_of old new d e t enters = record {
  remains = enters.remains;
  pays = enters.pays;
  going = enters.going;
  driver_ = enters.driver_;
  fewer = enters.fewer;
  begun = enters.begun;
  no_more = enters.no_more;
  locks = enters.locks;
  beside = enters.beside;
  rows = enters.rows;
}

-- the state of a run is sound for its parts
pub sound_of : (m : Parts) (words : List ℕ) (log : Logged) → IsRun m words log → is_told m ≡ true → IsSound m.window.size (state_of m words log)
sound_of m words log run told = subst (λ (n : ℕ). IsSound n (state_of m words log)) (sym run.size) (sound_reached (length words) (state_of m words log) (run.reached told) (run.narrow told))

leads_at : (old new : Parts) (words : List ℕ) (log : Logged) (d : ℕ) (e : Event) (t : Turn) → IsRun old words log → Enters old d e t new → is_told old ≡ true → Leads (state_of old words log) d e t new
leads_at old new words log d e t run enters told = enters.step (state_of old words log) (run.stands told) (sound_of old words log run told)

-- a call that names clocks of the description can begin in the state
can_take : (m : Parts) (s : State) (what : Sleeping) → Stands m s → IsPlaced m.desc.defs what → CanTake s (event.Begin what)
can_take m s what stands placed = subst (λ (d : Description). IsPlaced d what) (sym stands.defs) placed

-- so can each event that is paid
can_pay : (m : Parts) (words : List ℕ) (log : Logged) (e : Event) → IsRun m words log → is_paid e ≡ true → BeginsPlaced m.desc.defs e → is_told m ≡ true → CanTake (state_of m words log) e
can_pay m words log (event.Begin what) run paid placed told = can_take m (state_of m words log) what (run.stands told) placed
can_pay m words log (event.Step x answer) run paid placed told = absurd cc
can_pay m words log _ run paid placed told = tt

-- one that is paid and answered at once leaves room for the entries to come
pub answered_from : (old new : Parts) (words : List ℕ) (log log' : Logged) (d : ℕ) (e : Event) (t : Turn) → IsRun old words log → Proceeds old d e t new → (is_told old ≡ true → Leads (state_of old words log) d e t new)
    → BeginsPlaced old.desc.defs e → is_paid e ≡ true → is_going t ≡ false → log'.entries ≡ log.entries ++ entry_of d e t ∷ [] → log'.room + 1 ≡ log.room
    → IsEntered old new words log log' d e t
answered_from old new words log log' d e t run proceeds leads placed paid done entries taken = record {
  run = run;
  proceeds = proceeds;
  leads_ = leads;
  can = can_pay old words log e run paid placed;
  placed = placed;
  entries = entries;
  room =
      let before = run.room in
      let pays : new.spent ≡ old.spent + 1 = proceeds.pays ∙ ap (λ (b : Bool). old.spent + cond b 1 0) paid in
      let credits = proceeds.remains.credits in
      let less = proceeds.no_more paid done in
      omega arith;
  locks = paid_follows e paid proceeds.locks;
} where
  paid_follows : (f : Event) → is_paid f ≡ true → (starts_or_polls f ≡ false → new.window.locks ≡ old.window.locks) → FollowsLocks old f new
  paid_follows (event.Step m answer) e stays = absurd cc
  paid_follows _ e stays = stays refl

pub answered : (old new : Parts) (words : List ℕ) (log log' : Logged) (d : ℕ) (e : Event) (t : Turn) → IsRun old words log → Enters old d e t new
    → BeginsPlaced old.desc.defs e → is_paid e ≡ true → is_going t ≡ false → log'.entries ≡ log.entries ++ entry_of d e t ∷ [] → log'.room + 1 ≡ log.room
    → IsEntered old new words log log' d e t
answered old new words log log' d e t run enters placed paid done entries taken =
    answered_from old new words log log' d e t run (proceeds_of old new d e t enters) (leads_at old new words log d e t run enters) placed paid done entries taken

-- so does a call that begins, where room was made for the steps that it comes to
pub begun_from : (old new : Parts) (words : List ℕ) (log log' : Logged) (d : ℕ) (what : Sleeping) (t : Turn) → IsRun old words log → Proceeds old d (event.Begin what) t new
    → (is_told old ≡ true → Leads (state_of old words log) d (event.Begin what) t new)
    → IsPlaced old.desc.defs what → (is_going t ≡ true → old.credits + steps_left new ≤ old.spent + log.room)
    → log'.entries ≡ log.entries ++ entry_of d (event.Begin what) t ∷ [] → log'.room + 1 ≡ log.room → IsEntered old new words log log' d (event.Begin what) t
begun_from old new words log log' d what t run proceeds leads placed most entries taken = record {
  run = run;
  proceeds = proceeds;
  leads_ = leads;
  can = can_pay old words log (event.Begin what) run refl placed;
  placed = placed;
  entries = entries;
  room = by (is_going t) refl;
  locks = proceeds.locks refl;
} where
  by : (b : Bool) → is_going t ≡ b → new.credits + steps_left new ≤ new.spent + log'.room
  by true goes =
      let pays = proceeds.pays in
      let credits = proceeds.remains.credits in
      let few = most goes in
      omega arith
  by false done =
      let before = run.room in
      let pays = proceeds.pays in
      let credits = proceeds.remains.credits in
      let less = proceeds.no_more refl done in
      omega arith

-- and one of which is known how many it may come to
pub begun : (old new : Parts) (words : List ℕ) (log log' : Logged) (d : ℕ) (what : Sleeping) (t : Turn) → IsRun old words log → Enters old d (event.Begin what) t new
    → IsPlaced old.desc.defs what → old.credits + most_steps old.desc.defs (event.Begin what) ≤ old.spent + log.room
    → log'.entries ≡ log.entries ++ entry_of d (event.Begin what) t ∷ [] → log'.room + 1 ≡ log.room → IsEntered old new words log log' d (event.Begin what) t
begun old new words log log' d what t run enters placed most entries taken =
    begun_from old new words log log' d what t run (proceeds_of old new d (event.Begin what) t enters) (leads_at old new words log d (event.Begin what) t run enters) placed
    (λ goes. let few = enters.begun refl goes in omega arith) entries taken

pub begun_along : (old new : Parts) (words : List ℕ) (log log' : Logged) (d : ℕ) (what : Sleeping) (t : Turn) → IsRun old words log → Enters old d (event.Begin what) t new
    → IsPlaced old.desc.defs what → (is_going t ≡ true → old.credits + steps_left new ≤ old.spent + log.room)
    → log'.entries ≡ log.entries ++ entry_of d (event.Begin what) t ∷ [] → log'.room + 1 ≡ log.room → IsEntered old new words log log' d (event.Begin what) t
begun_along old new words log log' d what t run enters placed most entries taken =
    begun_from old new words log log' d what t run (proceeds_of old new d (event.Begin what) t enters) (leads_at old new words log d (event.Begin what) t run enters) placed most entries taken

-- and a step
pub stepped : (old new : Parts) (words : List ℕ) (log log' : Logged) (d : ℕ) (m : Micro) (answer : Option Bool) (t : Turn) → IsRun old words log
    → Enters old d (event.Step m answer) t new → links_well old.desc.defs old.tree.clocks m ≡ true → FollowsLocks old (event.Step m answer) new → log'.entries ≡ log.entries ++ entry_of d (event.Step m answer) t ∷ [] → log'.room + 1 ≡ log.room
    → IsEntered old new words log log' d (event.Step m answer) t
stepped old new words log log' d m answer t run enters leaves locks entries taken = record {
  run = run;
  proceeds = proceeds_of old new d (event.Step m answer) t enters;
  leads_ = leads_at old new words log d (event.Step m answer) t run enters;
  can = λ told.
      let s : State = state_of old words log in
      let stands = run.stands told in
      ap (λ (ds : Description). links_well ds s.clocks m) stands.defs ∙ ap (λ (rs : List ClockRow). links_well old.desc.defs rs m) stands.clocks ∙ leaves;
  placed = tt;
  entries = entries;
  room =
      let before = run.room in
      let pays = enters.pays in
      let credits = enters.remains.credits in
      let less = enters.fewer refl in
      omega arith;
  locks = locks;
}

-- a journal with room for more entries is as good
pub roomier : (m : Parts) (words : List ℕ) (log log' : Logged) → IsRun m words log → log'.entries ≡ log.entries → log.room ≤ log'.room → IsRun m words log'
roomier m words log log' run same more = record {
  stands = λ told. subst (λ (j : List Entry). Stands m (replay (start_of m words) j)) (sym same) (run.stands told);
  legal = λ told. subst (λ (j : List Entry). Legal (start_of m words) j) (sym same) (run.legal told);
  reached = λ told. subst (λ (j : List Entry). IsReached (length words) (replay (start_of m words) j)) (sym same) (run.reached told);
  narrow = λ told. subst (λ (j : List Entry). IsNarrow (length words) (replay (start_of m words) j)) (sym same) (run.narrow told);
  fed = λ told. subst (λ (j : List Entry). (n : ℕ) → Fed (replay (start_of m words) (take n j))) (sym same) (run.fed told);
  spent = ap cost same ∙ run.spent;
  room = let before = run.room in omega arith;
  going = run.going ∙ sym (ap in_flight same);
  driver_ = λ goes. run.driver_ goes ∙ sym (ap driver_in_flight same);
  size = run.size;
  placed = subst (λ (j : List Entry). ArePlaced m.desc.defs j) (sym same) run.placed;
  polling = λ told goes. subst (λ (j : List Entry). IfPoll m.flight.front (IsAsked m.window.locks (asked_by [] j))) (sym same) (run.polling told goes);
  polled = λ told delay delays. subst (λ (j : List Entry). Polled delay j) (sym same) (run.polled told delay delays);
  probed = λ c. run.probed c ∙ sym (ap (λ (j : List Entry). was_registered j c) same);
}

-- it is the same core
pub same_run : (m : Parts) (words : List ℕ) (log log' : Logged) → log'.entries ≡ log.entries → run_of m words log' ≡ run_of m words log
same_run m words log log' same =
    ap (λ (j : List Entry). let r : Run = record { start = start_of m words; journal = j; told = is_told m; behind = m.window.behind; left = steps_left m } in r) same

-- room that was made for the credits that are left and the steps of a call
pub room_made : (m : Parts) (what : Sleeping) (log : Logged) (credits steps : ℕ) → credits + m.spent ≡ m.credits → steps ≡ most_steps m.desc.defs (event.Begin what) → credits + steps ≤ log.room
    → m.credits + most_steps m.desc.defs (event.Begin what) ≤ m.spent + log.room
room_made m what log credits steps left most room = omega arith

module _ (old new : Parts) (words : List ℕ) (log log' : Logged) (d : ℕ) (e : Event) (t : Turn) (is : IsEntered old new words log log' d e t) where
  abbrev now : State
  now = state_of old words log

  same : start_of new words ≡ start_of old words
  same = start_remains old new words is.proceeds.remains

  leads : is_told old ≡ true → Leads now d e t new
  leads told = is.leads_ told

  was : is_told new ≡ true → is_told old ≡ true
  was told = sym is.proceeds.remains.told ∙ told

  -- the state after it is the one that the machine comes to
  comes : (told : is_told old ≡ true) → state_of new words log' ≡ (leads told).to
  comes told =
      ap (λ (s : State). replay s log'.entries) same ∙ ap (replay (start_of old words)) is.entries
      ∙ replay-append (start_of old words) (leads told).to (slotless t) log.entries (entry_of d e t) (leads told).next_

  reached_after : (told : is_told old ≡ true) → IsReached (length words) (leads told).to
  reached_after told = reached_next (length words) now (leads told).to d e (slotless t) (is.run.reached told) (leads told).next_

  legal_after : is_told old ≡ true → Legal (start_of new words) log'.entries
  legal_after told =
      subst (λ (s : State). Legal s log'.entries) (sym same)
      (subst (λ (j : List Entry). Legal (start_of old words) j) (sym is.entries)
      (Legal-append (start_of old words) (leads told).to log.entries (entry_of d e t) (is.run.legal told) (leads told).next_))

  whose : (b : Bool) → new.flight.going ≡ (if b then old.flight.going else is_going t) → new.flight.going ≡ true
      → (if b then old.flight.driver else d) ≡ (if b then driver_in_flight log.entries else d)
  whose true goes still = is.run.driver_ (sym goes ∙ still)
  whose false goes still = refl

  -- the event is taken from the state before to the one after it
  takes : (told : is_told old ≡ true) → Takes old new now (leads told).to d e t
  takes told = record {
    step = (leads told).next_;
    before = (is.run.stands told).change;
    after = (leads told).stands.change;
    front = front_behind_journal (start_of old words) log.entries refl (is.run.legal told);
    going = is.proceeds.going;
    beside = is.proceeds.beside;
    locks = is.locks;
  }

  -- a core keeps what it keeps
  pub entered : IsRun new words log'
  entered = record {
    stands = λ told. subst (λ (s : State). Stands new s) (sym (comes (was told))) (leads (was told)).stands;
    legal = λ told. legal_after (was told);
    reached = λ told. subst (λ (s : State). IsReached (length words) s) (sym (comes (was told))) (reached_after (was told));
    narrow = λ told.
        subst (λ (s : State). IsNarrow (length words) s) (sym (comes (was told)))
        (narrow_next (length words) now (leads (was told)).to d e (slotless t) (is.run.narrow (was told)) (is.can (was told)) (leads (was told)).next_);
    fed = λ told n.
        subst (λ (s : State). Fed (replay s (take n log'.entries))) (sym same)
        (fed-append (start_of old words) (leads (was told)).to (slotless t) log.entries log'.entries (entry_of d e t) is.entries (leads (was told)).next_
        (is.run.fed (was told)) (fed_reached (length words) (leads (was told)).to (reached_after (was told))) n);
    spent = ap cost is.entries ∙ cost-append log.entries (entry_of d e t) ∙ ap (λ (n : ℕ). n + price e) is.run.spent ∙ sym is.proceeds.pays;
    room = is.room;
    going = is.proceeds.going ∙ ap (λ (b : Bool). if is_enable_tier e then b else is_going t) is.run.going ∙ sym (ap in_flight is.entries ∙ going_append false log.entries (entry_of d e t));
    driver_ = λ still.
        is.proceeds.driver_ still ∙ whose (is_enable_tier e) is.proceeds.going still ∙ sym (ap driver_in_flight is.entries ∙ driver_append 0 log.entries (entry_of d e t));
    polling = λ told goes.
        subst (λ (asked : List ℕ). IfPoll new.flight.front (IsAsked new.window.locks asked)) (sym (ap (asked_by []) is.entries ∙ asked_append [] log.entries (entry_of d e t)))
        (polling_on old new now (leads (was told)).to d e t (asked_by [] log.entries) (takes (was told)) (is.run.polling (was told)) goes);
    polled = λ told delay delays.
        let kept : HasDelays old.window.behind.delays delay = subst (λ (b : Behind). HasDelays b.delays delay) is.proceeds.remains.behind delays in
        subst (λ (j : List Entry). Polled delay j) (sym is.entries)
        (polled_append delay [] log.entries (entry_of d e t) (is.run.polled (was told) delay kept)
        (answers_on old new now (leads (was told)).to d e t (asked_by [] log.entries) delay (takes (was told)) (is.run.polling (was told)) delays));
    size = is.proceeds.remains.size ∙ is.run.size;
    placed =
        subst (λ (j : List Entry). ArePlaced new.desc.defs j) (sym is.entries)
        (subst (λ (desc : Checked). ArePlaced desc.defs (log.entries ++ entry_of d e t ∷ [])) (sym is.proceeds.remains.desc)
        (All-append (λ f. BeginsPlaced old.desc.defs f.event) log.entries (entry_of d e t ∷ []) is.run.placed (placed_one old.desc.defs (entry_of d e t) is.placed)));
    probed = λ c.
        is.proceeds.rows c ∙ ap (λ (b : Bool). b || joins e t c) (is.run.probed c)
        ∙ ap (λ (b : Bool). was_registered log.entries c || b) (sym (or-false (joins e t c)))
        ∙ sym (ap (λ (j : List Entry). was_registered j c) is.entries ∙ list_any-append (λ f. joins f.event f.turn c) log.entries (entry_of d e t ∷ []));
  }

  -- and the entry was appended
  pub appended : Appends (run_of old words log) d e t (run_of new words log')
  appended = record {
    start = same;
    told = is.proceeds.remains.told;
    behind = is.proceeds.remains.behind;
    entry = is.entries;
    step = λ told. (leads told).next_ ∙ ap (λ (s : State). let x : State × Turn = (s, slotless t) in Some x) (sym (comes told));
    legal = legal_after;
    no_more = λ paid done. is.proceeds.no_more paid done;
  }

-- ---- steps

-- nothing is left to come where no call is in flight
pub idle_left : (m : Parts) → not m.flight.going ≡ true → steps_left m ≡ 0
idle_left m quiet = none_left (rows_from 0 m.chains) m.flight (by m.flight.going quiet) where
  by : (b : Bool) → not b ≡ true → b ≡ false
  by true e = absurd cc
  by false e = refl

-- the call in flight behind a journal is that of the entry's driver
pub steps_on : (old new : Parts) (words : List ℕ) (log log' : Logged) (d : ℕ) (m : Micro) (answer : Option Bool) (t : Turn) → IsEntered old new words log log' d (event.Step m answer) t
    → d ≡ driver_in_flight log.entries → StepsOn (run_of old words log) t (run_of new words log')
steps_on old new words log log' d m answer t is same = record {
  made = m;
  answer = answer;
  entry = subst (λ (n : ℕ). Appends (run_of old words log) n (event.Step m answer) t (run_of new words log')) same (appended old new words log log' d (event.Step m answer) t is);
  fewer = is.proceeds.fewer refl;
}

-- two lists with one entry more each, of the same entries, have the same last one
pub same_last : (xs : List Entry) (a b : Entry) → xs ++ a ∷ [] ≡ xs ++ b ∷ [] → a ≡ b
same_last [] a b e = cc
same_last (x ∷ xs) a b e = same_last xs a b (rest e) where
  rest : {ys zs : List Entry} → x ∷ ys ≡ x ∷ zs → ys ≡ zs
  rest h = cc

pub going_slotless : (t : Turn) → slotless t ≡ turn.Going → t ≡ turn.Going
going_slotless turn.Going e = refl
going_slotless (turn.Done reply.Fine) e = absurd cc
going_slotless (turn.Done reply.Warn) e = absurd cc
going_slotless (turn.Done reply.Yes) e = absurd cc
going_slotless (turn.Done reply.No) e = absurd cc
going_slotless (turn.Done (reply.Handle h)) e = absurd cc
going_slotless (turn.Done (reply.Rate x)) e = absurd cc
going_slotless (turn.Done (reply.Clock x)) e = absurd cc
going_slotless (turn.Done (reply.Refused x)) e = absurd cc

-- each step is answered for its cause
pub step_turns : (old new : Run) (t : Turn) → StepsOn old t new → old.start.change ≡ None → old.told ≡ true → StepTurns old new t
step_turns old new t on opens told =
    let leaves = going_leaves_changes (now_of old) (now_of new) (driver_in_flight old.journal) (event.Step on.made on.answer) (slotless t) (on.entry.step told) refl in
    record {
      going = (λ e. leaves.0 (ap slotless e), λ has. going_slotless t (leaves.1 has));
      ended = λ last r grew is.
          let same : entry_of (driver_in_flight old.journal) (event.Step on.made on.answer) t ≡ last = same_last old.journal _ last (sym on.entry.entry ∙ grew) in
          let legal : Legal old.start (old.journal ++ last ∷ []) =
          subst (λ (j : List Entry). Legal old.start j) grew (subst (λ (s : State). Legal s new.journal) on.entry.start (on.entry.legal told)) in
          journals_have_causes old.start old.journal last on.made on.answer r opens legal (ap (λ (e : Entry). e.event) (sym same)) (ap (λ (e : Entry). e.turn) (sym same) ∙ is);
    }

-- ---- the beginning

-- a core without an entry is a run
pub begins : (m : Parts) (words given : List ℕ) (log : Logged) (desc : Checked) (ignore_unused : Bool) (credits : ℕ)
    → words ≡ given → log.entries ≡ [] → log.room ≡ credits → (is_told m ≡ true → Stands m (opening desc.defs given ignore_unused credits))
    → m.desc ≡ desc → m.credits ≡ credits → m.ignore_unused ≡ ignore_unused → m.spent ≡ 0
    → ((c : ℕ) → registered m.tree.clocks c ≡ false) → m.window.size ≡ length given → IsValid (length given) desc.defs → credits ≤ most_credits → m.flight.going ≡ false
    → IsRun m words log
begins m words given log desc ignore_unused credits same empty room stands at credit unused spent none size valid few quiet =
    let start : start_of m words ≡ opening desc.defs given ignore_unused credits =
    ap (λ (d : Checked). opening d.defs words m.ignore_unused m.credits) at
    ∙ ap (λ (ws : List ℕ). opening desc.defs ws m.ignore_unused m.credits) same
    ∙ ap (λ (b : Bool). opening desc.defs given b m.credits) unused
    ∙ ap (λ (n : ℕ). opening desc.defs given ignore_unused n) credit in
    let now : state_of m words log ≡ opening desc.defs given ignore_unused credits = ap (replay (start_of m words)) empty ∙ start in
    let reached : IsReached (length given) (opening desc.defs given ignore_unused credits) = reached_opening given desc.defs ignore_unused credits valid few in
    record {
      stands = λ told. subst (λ (s : State). Stands m s) (sym now) (stands told);
      legal = λ told. subst (λ (j : List Entry). Legal (start_of m words) j) (sym empty) tt;
      reached = λ told.
          subst (λ (ws : List ℕ). IsReached (length ws) (state_of m words log)) (sym same) (subst (λ (s : State). IsReached (length given) s) (sym now) reached);
      narrow = λ told.
          subst (λ (ws : List ℕ). IsNarrow (length ws) (state_of m words log)) (sym same)
          (subst (λ (s : State). IsNarrow (length given) s) (sym now) (narrow_opening given desc.defs ignore_unused credits valid));
      fed = λ told n.
          subst (λ (j : List Entry). Fed (replay (start_of m words) (take n j))) (sym empty)
          (subst (λ (j : List Entry). Fed (replay (start_of m words) j)) (sym (take_all n [] (omega arith)))
          (subst (λ (s : State). Fed s) (sym start) (fed_reached (length given) (opening desc.defs given ignore_unused credits) reached)));
      spent = ap cost empty ∙ sym spent;
      room = let nothing_left = none_left (rows_from 0 m.chains) m.flight quiet in omega arith;
      going = quiet ∙ sym (ap in_flight empty);
      driver_ = λ goes. never_flown m.flight quiet goes;
      size = size ∙ sym (ap (λ (ws : List ℕ). length ws) same);
      placed = subst (λ (j : List Entry). ArePlaced m.desc.defs j) (sym empty) (All-nil (λ e. BeginsPlaced m.desc.defs e.event));
      polling = λ told goes. let no : true ≡ false = sym goes ∙ quiet in absurd cc;
      polled = λ told delay delays. subst (λ (j : List Entry). Polled delay j) (sym empty) tt;
      probed = λ c. none c ∙ sym (ap (λ (j : List Entry). was_registered j c) empty);
    }
