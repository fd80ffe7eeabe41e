-- What an event of a driver makes of it.
use Rattle.std.proofs.Common.{◌≡◌, ℕ, ◌+◌, ◌-◌, ◌≤◌, ◌&&◌, ◌||◌, not, Bool, true, false, cond, nat_eq, List, [], ◌∷◌, ◌++◌, Option, Some, None, refl, sym, ap, subst, ◌∙◌, arith, length, append_assoc}
use Rattle.std.specs.Prelude.{◌≢◌, is_none, if◌then◌else◌}
use Rattle.std.specs.List.{list_all}
use Rattle.std.specs.Option.{option_map_or}
use Rattle.std.proofs.lemmas.Bool.{and_from}
use Rattle.std.proofs.lemmas.Bool.Decides.{nat_tests}
use Rattle.std.proofs.lemmas.List.{append-nil}
use Rattle.clk_base.specs.declared.command.Act.{Act}
use Rattle.clk_base.specs.declared.command.Act.TheVariants as act
use Rattle.clk_base.specs.declared.command.Answer.{Answer}
use Rattle.clk_base.specs.declared.command.Answer.TheVariants as answer
use Rattle.clk_base.specs.declared.command.Command.{Command}
use Rattle.clk_base.specs.declared.event.Entry.{Entry}
use Rattle.clk_base.specs.declared.event.Event.{Event}
use Rattle.clk_base.specs.declared.event.Event.TheVariants as event
use Rattle.clk_base.specs.declared.event.Reply.{Reply}
use Rattle.clk_base.specs.declared.event.Turn.{Turn}
use Rattle.clk_base.specs.declared.event.Turn.TheVariants as turn
use Rattle.clk_base.specs.declared.handle.Handle.{Handle}
use Rattle.clk_model.specs.Follows.{Variables, no_handles, handle_of, call_of, held_after, NextFollows, FollowsFrom}
use Rattle.clk_model.specs.Journal.{Answered, calls_of, call_at, end_reply, cost, is_going}
use Rattle.clk_model.specs.Lists.{is_at}
use Rattle.clk_model.specs.Ordered.{Progress, unskipped, is_atomic, answered_first}
use Rattle.clk_model.specs.Tier.{is_step, is_enable_tier}
use Rattle.clk_model.proofs.Members.{both_left, both_right, test_same}
use Rattle.clk_machine.specs.Run.{Run, in_flight, driver_in_flight}
use Rattle.clk_machine.proofs.Entering.{going_append, driver_append}
use Rattle.driver_runs.specs.Scripts.{are_calls}
use Rattle.driver_runs.specs.Standing.{left_of, IsAnswered}
use Rattle.driver_runs.specs.Steps.{goes_on}
use Rattle.driver_runs.specs.Events.{IsGoing, Enters, HasCome, IsFlying, Stands, IsProgress, MakesEvent}
use Rattle.driver_runs.specs.declared.standing.Standing.{Standing}
use Rattle.driver_runs.proofs.WholeCalls.{steps_end, call_at-done, call_at-going, paid_no_step, calls_of-append, are_calls-append}
use Rattle.driver_runs.proofs.Passing.{unskipped_again, unskipped_short}

-- ---- commands and their events

tier_in : Option Event → Bool
tier_in o = option_map_or (λ e. is_enable_tier e) o false

-- what never sleeps is an event of the enable tier, and the others aren't
tier_of : (held : Option Handle) (a : Act) → is_none (call_of held a) ≡ false → tier_in (call_of held a) ≡ is_atomic a
unfolding tier_in
tier_of None (act.Get found) h = refl
tier_of None (act.Probe c) h = refl
tier_of None act.Sweep h = refl
tier_of None a h = absurd cc
tier_of (Some k) (act.Get found) h = absurd cc
tier_of (Some k) a h = refl

pub tier_is : (held : Option Handle) (a : Act) (e : Event) → call_of held a ≡ Some e → is_enable_tier e ≡ is_atomic a
unfolding tier_in
tier_is held a e is =
    ap (λ (o : Option Event). option_map_or (λ e. is_enable_tier e) o false) (sym is) ∙ tier_of held a (ap (λ (o : Option Event). is_none o) is)

step_no_tier : (e : Event) → is_step e ≡ true → is_enable_tier e ≡ false
step_no_tier (event.Step m answer) h = refl
step_no_tier (event.Enable n) h = absurd cc
step_no_tier (event.Disable n) h = absurd cc
step_no_tier (event.Running n) h = absurd cc
step_no_tier (event.Begin what) h = absurd cc

-- ---- whole calls more

-- a call more, which is that of the next command
answered_by : (d : ℕ) (commands : List Command) (x x' : Standing) (c : Command) (e : Event) (r : Reply) (before es : List Entry) → HasCome d commands x before
    → are_calls d false es ≡ true → calls_of es ≡ record { call = e; reply = r } ∷ [] → call_of (handle_of x.held.items c) c.act ≡ Some e → IsAnswered commands x c r x'
    → HasCome d commands x' (before ++ es)
answered_by d commands x x' c e r before es come own_ calls call answered = record {
  own = are_calls-append d false before es come.own own_;
  passed = ap (unskipped x'.held.items) answered.left ∙ unskipped_again x'.held.items answered.behind ∙ sym answered.left;
  follows = λ ls as_ f.
      let more = answered.follows ls as_ f in
      let l : Answered = record { call = e; reply = r } in
      let behind = answered.behind in
      let here : FollowsFrom x.held.items (c ∷ behind) (l ∷ ls) (answer.Reply r ∷ more.0) =
      subst (λ (o : Option Event). NextFollows (λ after ls2. FollowsFrom after behind ls2 more.0) x.held.items c o (l ∷ ls) (answer.Reply r)) (sym call)
      (refl, refl, subst (λ (h : Variables). FollowsFrom h behind ls more.0) answered.held more.2) in
      let whole = come.follows (l ∷ ls) (answer.Reply r ∷ more.0) (subst (λ (cs : List Command). FollowsFrom x.held.items cs (l ∷ ls) (answer.Reply r ∷ more.0)) (sym answered.next) here) in
      let these : calls_of (before ++ es) ++ ls ≡ calls_of before ++ l ∷ ls =
      ap (λ (xs : List Answered). xs ++ ls) (calls_of-append d false before es come.own ∙ ap (λ (xs : List Answered). calls_of before ++ xs) calls)
      ∙ append_assoc (calls_of before) (l ∷ []) ls in
      let those : x'.answers.items ++ as_ ≡ x.answers.items ++ answer.Reply r ∷ more.0 = more.1 ∙ append_assoc x.answers.items (answer.Reply r ∷ []) more.0 in
      subst (λ (xs : List Answered). FollowsFrom (no_handles commands) commands xs (x'.answers.items ++ as_)) (sym these)
      (subst (λ (xs : List Answer). FollowsFrom (no_handles commands) commands (calls_of before ++ l ∷ ls) xs) (sym those) whole);
}

same_command : (c c' : Command) (cs cs' : List Command) → c ∷ cs ≡ c' ∷ cs' → c ≡ c'
same_command c c' cs cs' e = cc

-- the end of the call in flight answers the next command
ends_call : (d : ℕ) (commands : List Command) (x x' : Standing) (c : Command) (e : Entry) (r : Reply) (mine : List Entry) → IsFlying d commands x mine
    → e.driver ≡ d → is_step e.event ≡ true → e.turn ≡ turn.Done r → IsAnswered commands x c r x' → HasCome d commands x' (mine ++ e ∷ [])
ends_call d commands x x' c e r mine flying driver step done answered =
    let begin = flying.begin in
    let steps = flying.steps in
    let parts = steps_end d steps e r flying.own driver step done in
    let es = begin ∷ (steps ++ e ∷ []) in
    let no_step : not (is_step begin.event) ≡ true = ap not flying.kind in
    let own_ : are_calls d false es ≡ true =
    and_from (nat_eq begin.driver d && not (is_step begin.event)) (are_calls d (is_going begin.turn) (steps ++ e ∷ []))
    (and_from (nat_eq begin.driver d) (not (is_step begin.event)) (ap (λ (n : ℕ). nat_eq n d) flying.driver ∙ test_same d) no_step)
    (ap (λ (t : Turn). are_calls d (is_going t) (steps ++ e ∷ [])) flying.goes ∙ parts.0) in
    let calls : calls_of es ≡ record { call = begin.event; reply = r } ∷ [] =
    ap (λ (ls : List Answered). call_at begin.event begin.turn (end_reply (steps ++ e ∷ [])) ++ ls) parts.2
    ∙ append-nil (call_at begin.event begin.turn (end_reply (steps ++ e ∷ [])))
    ∙ ap (λ (t : Turn). call_at begin.event t (end_reply (steps ++ e ∷ []))) flying.goes
    ∙ call_at-going begin.event r (end_reply (steps ++ e ∷ [])) parts.1 no_step in
    let whole : mine ++ e ∷ [] ≡ flying.before ++ es =
    ap (λ (xs : List Entry). xs ++ e ∷ []) flying.split ∙ append_assoc flying.before (begin ∷ steps) (e ∷ []) in
    let same : c ≡ flying.command = same_command c flying.command answered.behind flying.behind (sym answered.next ∙ flying.next) in
    let call : call_of (handle_of x.held.items c) c.act ≡ Some begin.event = ap (λ (k : Command). call_of (handle_of x.held.items k) k.act) same ∙ flying.calls in
    subst (HasCome d commands x') (sym whole) (answered_by d commands x x' c begin.event r flying.before es flying.come own_ calls call answered)

-- a step behind which the call goes on
flies_on : (d : ℕ) (commands : List Command) (x : Standing) (e : Entry) (mine : List Entry) → IsFlying d commands x mine → e.driver ≡ d → is_step e.event ≡ true → e.turn ≡ turn.Going
    → IsFlying d commands x (mine ++ e ∷ [])
flies_on d commands x e mine flying driver step going = record {
  before = flying.before;
  begin = flying.begin;
  steps = flying.steps ++ e ∷ [];
  split = ap (λ (xs : List Entry). xs ++ e ∷ []) flying.split ∙ append_assoc flying.before (flying.begin ∷ flying.steps) (e ∷ []);
  come = flying.come;
  command = flying.command;
  behind = flying.behind;
  next = flying.next;
  calls = flying.calls;
  driver = flying.driver;
  kind = flying.kind;
  goes = flying.goes;
  own = all_more flying.steps flying.own
      (and_from (nat_eq e.driver d && is_step e.event) (is_going e.turn)
      (and_from (nat_eq e.driver d) (is_step e.event) (ap (λ (n : ℕ). nat_eq n d) driver ∙ test_same d) step) (ap (λ (t : Turn). is_going t) going));
} where
  all_more : (xs : List Entry) → list_all (goes_on d) xs ≡ true → goes_on d e ≡ true → list_all (goes_on d) (xs ++ e ∷ []) ≡ true
  all_more [] all this = and_from (goes_on d e) true this refl
  all_more (y ∷ ys) all this =
      and_from (goes_on d y) (list_all (goes_on d) (ys ++ e ∷ [])) (both_left (goes_on d y) (list_all (goes_on d) ys) all) (all_more ys (both_right (goes_on d y) (list_all (goes_on d) ys) all) this)

-- ---- progress and credits

progress_on : (commands : List Command) (x x' : Standing) (c : Command) (r : Reply) (p : Progress) → IsAnswered commands x c r x' → IsProgress commands x p
    → IsProgress commands x' (answered_first p (unskipped p.held p.left) r)
progress_on commands x x' c r p answered is =
    let behind = answered.behind in
    let held : held_after p.held c c.act r ≡ x'.held.items = ap (λ (h : Variables). held_after h c c.act r) is.held ∙ sym answered.held in
    subst (λ (cs : List Command). IsProgress commands x' (answered_first p cs r)) (sym (is.left ∙ answered.next)) record {
      held = held;
      left = ap (λ (h : Variables). unskipped h behind) held ∙ sym answered.left;
    }

-- an entry more costs what it costs
pub cost_one : (e : Entry) (b : Bool) → is_step e.event ≡ b → cost (e ∷ []) ≡ cond b 0 1
cost_one e true h = ap (λ (b : Bool). 0 + cond b 1 0) (paid_no_step e.event ∙ ap not h)
cost_one e false h = ap (λ (b : Bool). 0 + cond b 1 0) (paid_no_step e.event ∙ ap not h)

left_shorter : (commands : List Command) (x x' : Standing) (c : Command) (r : Reply) → IsAnswered commands x c r x' → length (left_of commands x') + 1 ≤ length (left_of commands x)
left_shorter commands x x' c r answered =
    let short = unskipped_short x'.held.items answered.behind in
    let now = ap (λ (cs : List Command). length cs) answered.left in
    let was = ap (λ (cs : List Command). length cs) answered.next in
    omega (arith, short, now, was)

other_number : (d k : ℕ) → k ≢ d → nat_eq d k ≡ false
other_number d k other = pick (nat_eq d k) refl where
  pick : (b : Bool) → nat_eq d k ≡ b → nat_eq d k ≡ false
  pick true h = absurd (other (grind (arith, nat_tests)))
  pick false h = h

-- ---- the events

module _ (old : Run) (d : ℕ) (commands : List Command) (x : Standing) (c : Command) (behind : List Command) (next : left_of commands x ≡ c ∷ behind) where
  entry_of : (held : Option Handle) (steps : Bool) (t : Turn) (new : Run) → Enters old d steps held c.act t new → Entry
  entry_of held steps t new enters = record { driver = enters.driver; event = enters.event; turn = t }

  some_left : 1 ≤ length (left_of commands x)
  some_left = let all = ap (λ (cs : List Command). length cs) next in omega (arith, all)

  -- a step of its call, which goes on
  pub step_goes : (held : Option Handle) (new : Run) → IsGoing (Some d) old.journal → Enters old d true held c.act turn.Going new → MakesEvent old d commands x (Some d) new x (Some d)
  step_goes held new flies enters =
      let e : Entry = record { driver = enters.driver; event = enters.event; turn = turn.Going } in
      let driver : enters.driver ≡ d = enters.whose ∙ flies.1 in
      let tier = step_no_tier enters.event enters.kind in
      let here = test_same d in
      let costs = cost_one e true enters.kind in
      record {
        entry = e;
        start = enters.appends.start;
        told = enters.appends.told;
        behind = enters.appends.behind;
        journal = enters.appends.entry;
        legal = enters.appends.legal;
        driver = driver;
        kind = here ∙ sym enters.kind;
        after = ap (λ (n : ℕ). Some n) (sym driver);
        flies = (
          ap in_flight enters.appends.entry ∙ going_append false old.journal e ∙ ap (λ (b : Bool). if b then in_flight old.journal else true) tier,
          ap driver_in_flight enters.appends.entry ∙ driver_append 0 old.journal e ∙ ap (λ (b : Bool). if b then driver_in_flight old.journal else enters.driver) tier ∙ driver,
        );
        others = λ k other. refl;
        stands = λ mine stands.
            subst (λ (b : Bool). Stands d commands x b (mine ++ e ∷ [])) (sym here)
            (flies_on d commands x e mine (subst (λ (b : Bool). Stands d commands x b mine) here stands) driver enters.kind refl);
        progress = λ p is. is;
        paid = omega (arith, costs);
        same = λ is. refl;
        waits = λ is away. absurd cc;
        fewer = λ is. enters.fewer refl;
      }

  -- the last step of its call
  pub step_ends : (held : Option Handle) (new : Run) (x' : Standing) (r : Reply) → IsGoing (Some d) old.journal → Enters old d true held c.act (turn.Done r) new
      → IsAnswered commands x c r x' → MakesEvent old d commands x (Some d) new x' None
  step_ends held new x' r flies enters answered =
      let e : Entry = record { driver = enters.driver; event = enters.event; turn = turn.Done r } in
      let driver : enters.driver ≡ d = enters.whose ∙ flies.1 in
      let tier = step_no_tier enters.event enters.kind in
      let here = test_same d in
      let costs = cost_one e true enters.kind in
      let shorter = left_shorter commands x x' c r answered in
      record {
        entry = e;
        start = enters.appends.start;
        told = enters.appends.told;
        behind = enters.appends.behind;
        journal = enters.appends.entry;
        legal = enters.appends.legal;
        driver = driver;
        kind = here ∙ sym enters.kind;
        after = ap (λ (b : Bool). if b then None else Some d) (sym (ap (λ (n : ℕ). nat_eq d n) driver ∙ here));
        flies = ap in_flight enters.appends.entry ∙ going_append false old.journal e ∙ ap (λ (b : Bool). if b then in_flight old.journal else false) tier;
        others = λ k other. sym (other_number d k other);
        stands = λ mine stands.
            ends_call d commands x x' c e r mine (subst (λ (b : Bool). Stands d commands x b mine) here stands) driver enters.kind refl answered;
        progress = λ p is. progress_on commands x x' c r p answered is;
        paid = subst (λ (b : Bool). length (left_of commands x') - 0 + cost (e ∷ []) ≤ length (left_of commands x) - (if b then 1 else 0)) (sym here) (omega (arith, costs, shorter));
        same = λ is. absurd cc;
        waits = λ is away. absurd cc;
        fewer = λ is. enters.fewer refl;
      }

  -- its next call goes on
  pub call_goes : (new : Run) → Enters old d false (handle_of x.held.items c) c.act turn.Going new → MakesEvent old d commands x None new x (Some d)
  call_goes new enters =
      let e : Entry = record { driver = enters.driver; event = enters.event; turn = turn.Going } in
      let driver : enters.driver ≡ d = enters.whose in
      let tier = tier_is (handle_of x.held.items c) c.act enters.event (enters.calls refl) ∙ enters.sleeps refl refl in
      let here = test_same d in
      let costs = cost_one e false enters.kind in
      record {
        entry = e;
        start = enters.appends.start;
        told = enters.appends.told;
        behind = enters.appends.behind;
        journal = enters.appends.entry;
        legal = enters.appends.legal;
        driver = driver;
        kind = sym enters.kind;
        after = ap (λ (n : ℕ). Some n) (sym driver);
        flies = (
          ap in_flight enters.appends.entry ∙ going_append false old.journal e ∙ ap (λ (b : Bool). if b then in_flight old.journal else true) tier,
          ap driver_in_flight enters.appends.entry ∙ driver_append 0 old.journal e ∙ ap (λ (b : Bool). if b then driver_in_flight old.journal else enters.driver) tier ∙ driver,
        );
        others = λ k other. other_number d k other;
        stands = λ mine come.
            subst (λ (b : Bool). Stands d commands x b (mine ++ e ∷ [])) (sym here) record {
              before = mine;
              begin = e;
              steps = [];
              split = refl;
              come = come;
              command = c;
              behind = behind;
              next = next;
              calls = enters.calls refl;
              driver = driver;
              kind = enters.kind;
              goes = refl;
              own = refl;
            };
        progress = λ p is. is;
        paid =
            let some = some_left in
            subst (λ (b : Bool). length (left_of commands x) - (if b then 1 else 0) + cost (e ∷ []) ≤ length (left_of commands x) - 0) (sym here) (omega (arith, costs, some));
        same = λ is. refl;
        waits = λ is away. refl;
        fewer = λ is. absurd cc;
      }

  -- its next call is answered at once
  pub call_answered : (going : Option ℕ) (new : Run) (x' : Standing) (r : Reply) → is_at d going ≡ false → IsGoing going old.journal → (is_atomic c.act || is_none going) ≡ true
      → Enters old d false (handle_of x.held.items c) c.act (turn.Done r) new → IsAnswered commands x c r x' → MakesEvent old d commands x going new x' going
  call_answered going new x' r not_mine flies can enters answered =
      let e : Entry = record { driver = enters.driver; event = enters.event; turn = turn.Done r } in
      let driver : enters.driver ≡ d = enters.whose in
      let costs = cost_one e false enters.kind in
      let shorter = left_shorter commands x x' c r answered in
      let no_step : not (is_step enters.event) ≡ true = ap not enters.kind in
      record {
        entry = e;
        start = enters.appends.start;
        told = enters.appends.told;
        behind = enters.appends.behind;
        journal = enters.appends.entry;
        legal = enters.appends.legal;
        driver = driver;
        kind = not_mine ∙ sym enters.kind;
        after = ap (λ (b : Bool). if b then None else going) (sym (ap (λ (n : ℕ). is_at n going) driver ∙ not_mine));
        flies = still_flies going (is_atomic c.act) can flies (tier_is (handle_of x.held.items c) c.act enters.event (enters.calls refl));
        others = λ k other. refl;
        stands = λ mine stands.
            subst (λ (b : Bool). Stands d commands x' b (mine ++ e ∷ [])) (sym not_mine)
            (answered_by d commands x x' c enters.event r mine (e ∷ []) (subst (λ (b : Bool). Stands d commands x b mine) not_mine stands)
            (and_from (nat_eq enters.driver d && not (is_step enters.event)) true
            (and_from (nat_eq enters.driver d) (not (is_step enters.event)) (ap (λ (n : ℕ). nat_eq n d) driver ∙ test_same d) no_step) refl)
            (ap (λ (ls : List Answered). ls ++ []) (call_at-done enters.event r None no_step)) (enters.calls refl) answered);
        progress = λ p is. progress_on commands x x' c r p answered is;
        paid =
            subst (λ (b : Bool). length (left_of commands x') - (if b then 1 else 0) + cost (e ∷ []) ≤ length (left_of commands x) - (if b then 1 else 0)) (sym not_mine)
            (omega (arith, costs, shorter));
        same = λ is. absurd cc;
        waits = λ is away. absurd cc;
        fewer = λ is. absurd cc;
      } where
        still_flies : (going : Option ℕ) (atomic : Bool) → (atomic || is_none going) ≡ true → IsGoing going old.journal → is_enable_tier enters.event ≡ atomic → IsGoing going new.journal
        still_flies None true can flies tier =
            ap in_flight enters.appends.entry ∙ going_append false old.journal (record { driver = enters.driver; event = enters.event; turn = turn.Done r })
            ∙ ap (λ (b : Bool). if b then in_flight old.journal else false) tier ∙ flies
        still_flies None false can flies tier =
            ap in_flight enters.appends.entry ∙ going_append false old.journal (record { driver = enters.driver; event = enters.event; turn = turn.Done r })
            ∙ ap (λ (b : Bool). if b then in_flight old.journal else false) tier
        still_flies (Some k) true can flies tier = (
          ap in_flight enters.appends.entry ∙ going_append false old.journal (record { driver = enters.driver; event = enters.event; turn = turn.Done r })
              ∙ ap (λ (b : Bool). if b then in_flight old.journal else false) tier ∙ flies.0,
          ap driver_in_flight enters.appends.entry ∙ driver_append 0 old.journal (record { driver = enters.driver; event = enters.event; turn = turn.Done r })
              ∙ ap (λ (b : Bool). if b then driver_in_flight old.journal else enters.driver) tier ∙ flies.1,
        )
        still_flies (Some k) false can flies tier = absurd cc
