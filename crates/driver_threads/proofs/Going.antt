-- Going through commands: one after the other.
use Rattle.std.proofs.Common.{◌≡◌, ℕ, ◌+◌, ◌-◌, ◌<◌, true, false, List, [], ◌∷◌, ◌++◌, Option, Some, None, refl, sym, ap, subst, ◌∙◌, arith, length, take, get_or, append_assoc}
use Rattle.std.proofs.lemmas.List.{append-nil, length-append, take_more}
use Rattle.atomic_table.specs.Seated.{TableId}
use Rattle.clk_base.specs.declared.command.Answer.{Answer}
use Rattle.clk_base.specs.declared.command.Answer.TheVariants as answer
use Rattle.clk_base.specs.declared.command.Command.{Command}
use Rattle.clk_base.specs.declared.event.Entry.{Entry}
use Rattle.clk_base.specs.declared.event.Event.{Event}
use Rattle.clk_base.specs.declared.event.Reply.{Reply}
use Rattle.clk_model.specs.Journal.{Answered, calls_of}
use Rattle.clk_model.specs.Follows.{Variables, handle_of, call_of, held_after, NextFollows, FollowsFrom}
use Rattle.clk_framework.specs.Calls.{DriverView, IsReady, MakesNone}
use Rattle.clk_framework.proofs.Growing.{front_of_front}
use Rattle.driver_runs.specs.Scripts.{are_calls}
use Rattle.driver_runs.proofs.WholeCalls.{calls_of-append, are_calls-append}
use Rattle.driver_threads.specs.Going.{IsSame, AnswersCall, GoesThrough}

-- ---- the same driver

pub same_ready : (table : TableId) (a b : DriverView) → IsSame a b → IsReady table a → IsReady table b
same_ready table a b same ready = record {
  table_is = ap (λ (d : DriverView). d.table) same ∙ ready.table_is;
  turn = ap (λ (d : DriverView). d.turn) same ∙ ready.turn;
  baton = ap (λ (d : DriverView). d.baton) same ∙ ready.baton;
}

pub goes_same : (old new : DriverView) (held held' : Variables) (commands : List Command) (answers : List Answer) → GoesThrough old held commands answers held' new → IsSame old new
goes_same old new held held' commands answers goes =
    goes.driver
    ∙ ap (λ (es : List Entry). let d : DriverView = record old { seen = new.seen; mine = es; room = new.room } in d) (sym (ap (λ (d : DriverView). d.mine) goes.driver))

pub answers_same : (old new : DriverView) (e : Event) (r : Reply) → AnswersCall old e r new → IsSame old new
answers_same old new e r made =
    made.driver
    ∙ ap (λ (es : List Entry). let d : DriverView = record old { seen = new.seen; mine = es; room = old.room - 1 } in d) (sym (ap (λ (d : DriverView). d.mine) made.driver))
    ∙ ap (λ (n : ℕ). let d : DriverView = record old { seen = new.seen; mine = new.mine; room = n } in d) (sym (ap (λ (d : DriverView). d.room) made.driver))

pub none_same : (old new : DriverView) → MakesNone old new → IsSame old new
none_same old new none =
    none.sees.driver
    ∙ ap (λ (es : List Entry). let d : DriverView = record old { seen = new.seen; mine = es } in d) (sym (ap (λ (d : DriverView). d.mine) none.sees.driver))
    ∙ ap (λ (n : ℕ). let d : DriverView = record old { seen = new.seen; mine = new.mine; room = n } in d) (sym (ap (λ (d : DriverView). d.room) none.sees.driver))

-- ---- going

pub goes_none : (d : DriverView) (held : Variables) → GoesThrough d held [] [] held d
goes_none d held = record {
  entries = [];
  driver = ap (λ (es : List Entry). let e : DriverView = record d { mine = es } in e) (sym (append-nil d.mine));
  continues = record { rest = []; whole = sym (append-nil d.seen) };
  own = refl;
  few = omega arith;
  alone = λ zero one was. was;
  follows = λ cs ls as_ f. f;
}

pub goes_trans : (first mid last : DriverView) (held held' held'' : Variables) (xs ys : List Command) (as_ bs : List Answer)
    → GoesThrough first held xs as_ held' mid → GoesThrough mid held' ys bs held'' last → GoesThrough first held (xs ++ ys) (as_ ++ bs) held'' last
goes_trans first mid last held held' held'' xs ys as_ bs one two =
    let number : mid.number ≡ first.number = ap (λ (d : DriverView). d.number) one.driver in
    let made : mid.made ≡ first.made = ap (λ (d : DriverView). d.made) one.driver in
    record {
      entries = one.entries ++ two.entries;
      driver =
          two.driver
          ∙ ap (λ (d : DriverView). let e : DriverView = record d { seen = last.seen; mine = d.mine ++ two.entries; room = last.room } in e) one.driver
          ∙ ap (λ (es : List Entry). let e : DriverView = record first { seen = last.seen; mine = es; room = last.room } in e) (append_assoc first.mine one.entries two.entries);
      continues = front_of_front first.seen mid.seen last.seen one.continues two.continues;
      own = are_calls-append first.number false one.entries two.entries one.own (subst (λ (n : ℕ). are_calls n false two.entries ≡ true) number two.own);
      few = let a = one.few in let b = two.few in omega (arith, length-append xs ys);
      alone = λ zero lone was. two.alone (number ∙ zero) (made ∙ lone) (one.alone zero lone was);
      follows = λ cs ls cs' f.
          let whole = one.follows (ys ++ cs) (calls_of two.entries ++ ls) (bs ++ cs') (two.follows cs ls cs' f) in
          subst (λ (commands : List Command). FollowsFrom held commands (calls_of (one.entries ++ two.entries) ++ ls) ((as_ ++ bs) ++ cs')) (sym (append_assoc xs ys cs))
          (subst (λ (calls : List Answered). FollowsFrom held (xs ++ (ys ++ cs)) calls ((as_ ++ bs) ++ cs'))
          (sym (append_assoc (calls_of one.entries) (calls_of two.entries) ls)
          ∙ ap (λ (c : List Answered). c ++ ls) (sym (calls_of-append first.number false one.entries two.entries one.own)))
          (subst (λ (answers : List Answer). FollowsFrom held (xs ++ (ys ++ cs)) (calls_of one.entries ++ (calls_of two.entries ++ ls)) answers) (sym (append_assoc as_ bs cs')) whole));
    }

-- ---- one command

pub goes_skipped : (old new : DriverView) (held : Variables) (c : Command) → call_of (handle_of held c) c.act ≡ None → new ≡ old
    → GoesThrough old held (c ∷ []) (answer.Skip ∷ []) held new
goes_skipped old new held c none is = subst (λ (d : DriverView). GoesThrough old held (c ∷ []) (answer.Skip ∷ []) held d) (sym is) record {
  entries = [];
  driver = ap (λ (es : List Entry). let e : DriverView = record old { mine = es } in e) (sym (append-nil old.mine));
  continues = record { rest = []; whole = sym (append-nil old.seen) };
  own = refl;
  few = omega arith;
  alone = λ zero one was. was;
  follows = λ cs ls as_ f. subst (λ (o : Option Event). NextFollows (λ after ls2. FollowsFrom after cs ls2 as_) held c o ls answer.Skip) (sym none) (refl, f);
}

-- a command whose call was answered
pub goes_called : (old new : DriverView) (held held' : Variables) (c : Command) (e : Event) (r : Reply) → call_of (handle_of held c) c.act ≡ Some e → AnswersCall old e r new
    → held' ≡ held_after held c c.act r → GoesThrough old held (c ∷ []) (answer.Reply r ∷ []) held' new
goes_called old new held held' c e r calls made left =
    let room : new.room ≡ old.room - 1 = ap (λ (d : DriverView). d.room) made.driver in
    record {
      entries = made.entries;
      driver = made.driver ∙ ap (λ (n : ℕ). let d : DriverView = record old { seen = new.seen; mine = old.mine ++ made.entries; room = n } in d) (sym room);
      continues = made.continues;
      own = made.own;
      few = omega (arith, room);
      alone = λ zero one was. made.alone zero one;
      follows = λ cs ls as_ f.
          subst (λ (o : Option Event). NextFollows (λ after ls2. FollowsFrom after cs ls2 as_) held c o (calls_of made.entries ++ ls) (answer.Reply r)) (sym calls)
          (subst (λ (calls : List Answered). NextFollows (λ after ls2. FollowsFrom after cs ls2 as_) held c (Some e) (calls ++ ls) (answer.Reply r)) (sym made.calls)
          (refl, refl, subst (λ (held : Variables). FollowsFrom held cs ls as_) left f));
    }

-- ---- several commands

-- one command more
pub goes_more : (first mid last : DriverView) (held held' held'' : Variables) (commands : List Command) (i : ℕ) (x : Command) (answers answers' : List Answer) (a : Answer)
    → i < length commands → GoesThrough first held (take i commands) answers held' mid → GoesThrough mid held' (get_or commands i x ∷ []) (a ∷ []) held'' last
    → answers' ≡ answers ++ a ∷ [] → GoesThrough first held (take (i + 1) commands) answers' held'' last
goes_more first mid last held held' held'' commands i x answers answers' a within one two more =
    subst (λ (cs : List Command). GoesThrough first held cs answers' held'' last) (sym (take_more commands i x within))
    (subst (λ (as_ : List Answer). GoesThrough first held (take i commands ++ get_or commands i x ∷ []) as_ held'' last) (sym more)
    (goes_trans first mid last held held' held'' (take i commands) (get_or commands i x ∷ []) answers (a ∷ []) one two))
