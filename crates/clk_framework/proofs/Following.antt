-- The copy of the prepare tier goes along with what a driver with the baton sees.
use Rattle.std.proofs.Common.{◌≡◌, ℕ, Bool, true, false, List, [], ◌∷◌, ◌++◌, Option, Some, None, All, length, refl, sym, ap, subst, ◌∙◌}
use Rattle.std.specs.Prelude.{IfSome}
use Rattle.std.specs.Option.{option_map_or}
use Rattle.std.proofs.lemmas.List.Elements.{All-head, All-tail}
use Rattle.clk_base.specs.Valid.{IsValid}
use Rattle.clk_base.specs.declared.call.Sleeping.{Sleeping}
use Rattle.clk_base.specs.declared.event.Entry.{Entry}
use Rattle.clk_base.specs.declared.event.Event.TheVariants as events
use Rattle.clk_base.specs.declared.event.Turn.{Turn}
use Rattle.clk_base.specs.declared.event.Turn.TheVariants as turns
use Rattle.clk_model.specs.State.{State}
use Rattle.clk_model.specs.Machine.{next}
use Rattle.clk_model.specs.Journal.{Legal, replay, slotless}
use Rattle.clk_model.specs.Laws.Shadows.{GoesBy}
use Rattle.clk_model.specs.Prep.{prep}
use Rattle.clk_model.proofs.JournalLaws.{replay-append}
use Rattle.clk_model.proofs.OutcomeLaws.{not_false}
use Rattle.clk_model.proofs.ShadowLaws.{goes_by_stays}
use Rattle.clk_model.proofs.TierLaws.{enable_tier_leaves_prep}
use Rattle.clk_machine.specs.Copied.{Copy, Copies, DecidesFor, Follows, IsCopyOf, IsDecided, IsOfCall, StaysCopy, room_after}
use Rattle.clk_machine.specs.Run.{Run, now_of}
use Rattle.clk_machine.specs.Sound.{IsPlaced, IsReached}
use Rattle.clk_machine.specs.declared.decision.Decision.{Decision}
use Rattle.tier_lock.specs.Entries.{AddsEnablesOnly}
use Rattle.tier_lock.specs.Known.{KnownBaton}
use Rattle.clk_framework.specs.declared.opened.Opened.{Opened}
use Rattle.clk_framework.specs.Opening.{opened_of, start_of}
use Rattle.clk_framework.specs.Tiers.{is_prepare_tier}
use Rattle.clk_framework.specs.Calls.{DriverView, GoesOnWith, SeesOthers, SeesRun, Steps, entry_of}
use Rattle.clk_framework.specs.Planning.{IsCopyAfter, IsMadeFor, IsRoomFor, KnowsDecision}
use Rattle.clk_framework.proofs.Planned.{made_at}

some_same : {A : Type 0} {x y : A} → Some x ≡ Some y → x ≡ y
some_same e = cc

-- ---- entries of the enable tier

replay_more : (s : State) (a b : List Entry) → replay s (a ++ b) ≡ replay (replay s a) b
replay_more s [] b = refl
replay_more s (e ∷ a) b = replay_more (option_map_or (λ x. x.0) (next s e.driver e.event) s) a b

-- one leaves it that a state goes by another, and the prepare tier's part as it is
one_beside : (t s : State) (e : Entry) → is_prepare_tier e ≡ false → GoesBy t s → GoesBy t (option_map_or (λ x. x.0) (next s e.driver e.event) s)
one_beside t s e none goes = by (next s e.driver e.event) refl where
  by : (o : Option (State × Turn)) → next s e.driver e.event ≡ o → GoesBy t (option_map_or (λ x. x.0) o s)
  by None is = goes
  by (Some (u, x)) is = goes_by_stays s t u e.driver e.event x goes (not_false _ none) is

one_leaves : (s : State) (e : Entry) → is_prepare_tier e ≡ false → prep (option_map_or (λ x. x.0) (next s e.driver e.event) s) ≡ prep s
one_leaves s e none = by (next s e.driver e.event) refl where
  by : (o : Option (State × Turn)) → next s e.driver e.event ≡ o → prep (option_map_or (λ x. x.0) o s) ≡ prep s
  by None is = refl
  by (Some (u, x)) is = enable_tier_leaves_prep s u e.driver e.event x (not_false _ none) is

-- so do several
goes_beside : (t s : State) (es : List Entry) → All (λ e. is_prepare_tier e ≡ false) es → GoesBy t s → GoesBy t (replay s es)
goes_beside t s [] all goes = goes
goes_beside t s (e ∷ es) all goes =
    goes_beside t (option_map_or (λ x. x.0) (next s e.driver e.event) s) es (All-tail (λ f. is_prepare_tier f ≡ false) e es all)
    (one_beside t s e (All-head (λ f. is_prepare_tier f ≡ false) e es all) goes)

prep_beside : (s : State) (es : List Entry) → All (λ e. is_prepare_tier e ≡ false) es → prep (replay s es) ≡ prep s
prep_beside s [] all = refl
prep_beside s (e ∷ es) all =
    prep_beside (option_map_or (λ x. x.0) (next s e.driver e.event) s) es (All-tail (λ f. is_prepare_tier f ≡ false) e es all)
    ∙ one_leaves s e (All-head (λ f. is_prepare_tier f ≡ false) e es all)

replay_beside : (s : State) (old log : List Entry) (adds : AddsEnablesOnly is_prepare_tier old log) → replay s log ≡ replay (replay s old) adds.rest
replay_beside s old log adds = ap (λ (es : List Entry). replay s es) adds.whole ∙ replay_more s old adds.rest

prep_after : (s : State) (old log : List Entry) → AddsEnablesOnly is_prepare_tier old log → prep (replay s log) ≡ prep (replay s old)
prep_after s old log adds = ap prep (replay_beside s old log adds) ∙ prep_beside (replay s old) adds.rest adds.enable

copies_beside : (s : State) (old log : List Entry) (copy : Copy) → AddsEnablesOnly is_prepare_tier old log → Copies copy (replay s old) → Copies copy (replay s log)
copies_beside s old log copy adds copies = record {
  twin = copies.twin;
  stands = copies.stands;
  is = subst (λ (u : State). GoesBy copies.twin u) (sym (replay_beside s old log adds)) (goes_beside copies.twin (replay s old) adds.rest adds.enable copies.is);
}

-- a copy is of the state after them too
pub copy_beside : (fixed : Option Opened) (old log : List Entry) (copy : Copy) → AddsEnablesOnly is_prepare_tier old log → IsCopyAfter fixed old copy → IsCopyAfter fixed log copy
copy_beside fixed old log copy adds copied = record {
  opened = copied.opened;
  knows = copied.knows;
  made = copied.made;
  copies = λ told. copies_beside (start_of copied.opened) old log copy adds (copied.copies told);
}

-- a copy of a core without an entry is of the state after nothing that was seen
pub opened_copy : (run : Run) (fixed : Option Opened) (seen : List Entry) (copy : Copy) → run.journal ≡ [] → run.start ≡ start_of (opened_of run) → fixed ≡ Some (opened_of run) → seen ≡ []
    → IsMadeFor copy (opened_of run) → (run.told ≡ true → Copies copy (now_of run)) → IsCopyAfter fixed seen copy
opened_copy run fixed seen copy none starts knows unseen made copies = record {
  opened = opened_of run;
  knows = knows;
  made = made;
  copies = λ told.
      let same : now_of run ≡ replay (start_of (opened_of run)) seen =
      ap (λ (s : State). replay s run.journal) starts ∙ ap (λ (es : List Entry). replay (start_of (opened_of run)) es) (none ∙ sym unseen) in
      subst (λ (s : State). Copies copy s) same (copies told);
}

-- so it is after the baton was lent
pub lent_copy : (b : KnownBaton Entry Opened) (copy : Copy) (fixed : Option Opened) (log : List Entry) → IsCopyAfter b.fixed b.seen copy → fixed ≡ b.fixed
    → AddsEnablesOnly is_prepare_tier b.seen log → IsCopyAfter fixed log copy
lent_copy b copy fixed log copied same adds = subst (λ (f : Option Opened). IsCopyAfter f log copy) (sym same) (copy_beside b.fixed b.seen log copy adds copied)

-- or when the call wasn't made
pub unmade_copy : (old new : DriverView) (copy : Copy) → IsCopyAfter old.fixed old.seen copy → SeesOthers old new → AddsEnablesOnly is_prepare_tier old.seen new.seen → IsCopyAfter new.fixed new.seen copy
unmade_copy old new copy copied none adds =
    subst (λ (f : Option Opened). IsCopyAfter f new.seen copy) (sym (ap (λ (d : DriverView). d.fixed) none.driver)) (copy_beside old.fixed old.seen new.seen copy adds copied)

-- ---- decisions

reached : (copy : Copy) (o : Opened) (seen : List Entry) → IsMadeFor copy o → IsReached copy.parts.window.size (replay (start_of o) seen)
reached copy o seen made = record {
  defs = o.defs;
  regs = o.words;
  ignore_unused = o.ignore_unused;
  credits = o.credits;
  journal = seen;
  valid = made.valid;
  size = sym made.size;
  few = made.few;
  leads = refl;
}

-- what is decided over the copy is known
pub decides_known : (fixed : Option Opened) (seen : List Entry) (copy : Copy) (d : ℕ) (what : Sleeping) (decision : Decision) → IsCopyAfter fixed seen copy
    → ((s : State) → IsCopyOf copy s → IsDecided s d what decision) → KnowsDecision fixed seen d what decision
decides_known fixed seen copy d what decision copied decides o is told =
    let same : copied.opened ≡ o = some_same (sym copied.knows ∙ is) in
    let known : copied.opened.told ≡ true = ap (λ (p : Opened). p.told) same ∙ told in
    subst (λ (p : Opened). IsDecided (replay (start_of p) seen) d what decision) same
    (decides (replay (start_of copied.opened) seen) record { reached = reached copy copied.opened seen copied.made; copies = copied.copies known })

-- and it is decided so for the core that a turn gives: entries of the enable tier alone came meanwhile
pub decided_now : (fixed : Option Opened) (seen : List Entry) (d number : ℕ) (what : Sleeping) (decision : Decision) (before lent : Run) → KnowsDecision fixed seen d what decision → number ≡ d
    → fixed ≡ Some (opened_of before) → AddsEnablesOnly is_prepare_tier seen before.journal → lent ≡ before → lent.start ≡ start_of (opened_of lent) → lent.told ≡ true
    → IsDecided (now_of lent) number what decision
decided_now fixed seen d number what decision before lent knows own is adds same starts told =
    let o : Opened = opened_of before in
    let kept : o.told ≡ true = ap (λ (r : Run). r.told) (sym same) ∙ told in
    let now : prep (replay (start_of o) seen) ≡ prep (now_of lent) =
    sym (prep_after (start_of o) seen before.journal adds) ∙ ap (λ (r : Run). prep (replay (start_of (opened_of r)) r.journal)) (sym same)
    ∙ ap (λ (s : State). prep (replay s lent.journal)) (sym starts) in
    subst (λ (n : ℕ). IsDecided (now_of lent) n what decision) (sym own) (subst (λ (s : State). DecidesFor s d what decision) now (knows o is kept))

-- what was opened has a valid description
pub valid_opened : (fixed : Option Opened) (seen : List Entry) (copy : Copy) (o : Opened) → IsCopyAfter fixed seen copy → fixed ≡ Some o → IsValid (length o.words) o.defs
valid_opened fixed seen copy o copied is = subst (λ (p : Opened). IsValid (length p.words) p.defs) (some_same (sym copied.knows ∙ is)) copied.made.valid

-- the clocks of a call are clocks of the copy's description
pub placed : (fixed : Option Opened) (seen : List Entry) (copy : Copy) (what : Sleeping) → IsCopyAfter fixed seen copy → IfSome fixed (λ o. IsPlaced o.defs what) → IsPlaced copy.parts.desc.defs what
placed fixed seen copy what copied place =
    subst (λ defs. IsPlaced defs what) (sym copied.made.defs) (subst (λ (o : Option Opened). IfSome o (λ p. IsPlaced p.defs what)) copied.knows place)

-- ---- the copy

made_still : (old new : Copy) (o : Opened) → IsMadeFor old o → (new.parts.desc ≡ old.parts.desc) × (new.parts.window.size ≡ old.parts.window.size) → IsMadeFor new o
made_still old new o made same = record {
  defs = ap (λ d. d.defs) same.0 ∙ made.defs;
  size = same.1 ∙ made.size;
  valid = made.valid;
  few = made.few;
}

-- it stands for what it stood for
pub stays_copy : (fixed : Option Opened) (seen : List Entry) (old new : Copy) → IsCopyAfter fixed seen old → StaysCopy old new
    → (new.parts.desc ≡ old.parts.desc) × (new.parts.window.size ≡ old.parts.window.size) → IsCopyAfter fixed seen new
stays_copy fixed seen old new copied stays same = record {
  opened = copied.opened;
  knows = copied.knows;
  made = made_still old new copied.opened copied.made same;
  copies = λ told. stays (replay (start_of copied.opened) seen) (copied.copies told);
}

-- it follows an entry of its call, which came after entries of the enable tier alone
pub followed : (fixed : Option Opened) (old new : List Entry) (e : Entry) (copy after : Copy) → IsCopyAfter fixed old copy → GoesOnWith old e new
    → ((o : Opened) → fixed ≡ Some o → o.told ≡ true → Legal (start_of o) new) → IsOfCall copy.room e → Follows copy e after
    → (after.parts.desc ≡ copy.parts.desc) × (after.parts.window.size ≡ copy.parts.window.size) → IsCopyAfter fixed new after
followed fixed old new e copy after copied goes legal of_call follows same =
    let o : Opened = copied.opened in
    record {
      opened = o;
      knows = copied.knows;
      made = made_still copy after o copied.made same;
      copies = λ told.
          let whole : Legal (start_of o) (goes.before ++ e ∷ []) = subst (λ (es : List Entry). Legal (start_of o) es) goes.seen (legal o copied.knows told) in
          let made = made_at (start_of o) goes.before [] e whole in
          let before = replay (start_of o) goes.before in
          let at : replay (start_of o) new ≡ made.0 = ap (λ (es : List Entry). replay (start_of o) es) goes.seen ∙ replay-append (start_of o) made.0 (slotless e.turn) goes.before e made.1 in
          subst (λ (u : State). Copies after u) (sym at) (follows before made.0 record {
            reached = reached copy o goes.before copied.made;
            copies = copies_beside (start_of o) old goes.before copy goes.beside (copied.copies told);
          } of_call made.1);
    }

-- ---- a call

legal_seen : (fixed : Option Opened) (new : DriverView) → new.fixed ≡ fixed → SeesRun new → (o : Opened) → fixed ≡ Some o → o.told ≡ true → Legal (start_of o) new.seen
legal_seen fixed new same run o is told =
    let one : run.opened ≡ o = some_same (sym run.knows ∙ same ∙ is) in
    subst (λ (p : Opened). Legal (start_of p) new.seen) one (run.legal (ap (λ (p : Opened). p.told) one ∙ told))

-- a copy with room for a call follows its beginning
pub followed_begin : (old new : DriverView) (what : Sleeping) (turn : Turn) (copy after : Copy) → IsCopyAfter old.fixed old.seen copy → new.fixed ≡ old.fixed
    → GoesOnWith old.seen (entry_of old.number (events.Begin what) turn) new.seen → SeesRun new → copy.room ≡ Some (old.number, what) → (e : Entry) → e ≡ entry_of old.number (events.Begin what) turn
    → Follows copy e after → (after.parts.desc ≡ copy.parts.desc) × (after.parts.window.size ≡ copy.parts.window.size) → IsCopyAfter new.fixed new.seen after
followed_begin old new what turn copy after copied fixed goes run room e is follows same =
    subst (λ (f : Option Opened). IsCopyAfter f new.seen after) (sym fixed)
    (followed old.fixed old.seen new.seen (entry_of old.number (events.Begin what) turn) copy after copied goes (legal_seen old.fixed new fixed run)
    record { what = what; room_ = room; begins = λ _. refl } (subst (λ (f : Entry). Follows copy f after) is follows) same)

-- while a call goes on there is room for its next entry
pub going_room : (d : ℕ) (turn : Turn) (copy : Copy) (room : IsRoomFor d turn copy) → turn ≡ turns.Going → copy.room ≡ Some (d, room.what)
going_room d turn copy room going = room.room ∙ ap (λ (t : Turn). room_after t (Some (d, room.what))) going

module _ (old new : DriverView) (e : Entry) (copy after : Copy) (what : Sleeping) (steps : Steps old e new) (room : copy.room ≡ Some (old.number, what)) where
  -- a copy with room for a call follows each step of it
  pub followed_step : IsCopyAfter old.fixed old.seen copy → Follows copy e after
      → (after.parts.desc ≡ copy.parts.desc) × (after.parts.window.size ≡ copy.parts.window.size) → IsCopyAfter new.fixed new.seen after
  followed_step copied follows same =
      let fixed : new.fixed ≡ old.fixed = ap (λ (d : DriverView). d.fixed) steps.driver in
      subst (λ (f : Option Opened). IsCopyAfter f new.seen after) (sym fixed)
      (followed old.fixed old.seen new.seen e copy after copied steps.seen (legal_seen old.fixed new fixed steps.run) record {
        what = what;
        room_ = room ∙ ap (λ (n : ℕ). let call : ℕ × Sleeping = (n, what) in Some call) (sym steps.own_);
        begins = λ isnt. absurd (cannot steps.step isnt);
      } follows same) where
        cannot : {b : Bool} → b ≡ true → b ≡ false → ⊥
        cannot is isnt = cc

  -- then there is room as long as the call goes on
  pub room_stays : after.room ≡ room_after e.turn copy.room → IsRoomFor new.number e.turn after
  room_stays is = record {
    what = what;
    room = is ∙ ap (λ (o : Option (ℕ × Sleeping)). room_after e.turn o) (room ∙ ap (λ (d : DriverView). let call : ℕ × Sleeping = (d.number, what) in Some call) (sym steps.driver));
  }
