-- Going through commands: one after the other.
use Rattle.std.proofs.Common.{◌≡◌, ℕ, zero, suc, ◌+◌, ◌<◌, ◌≤◌, Bool, true, false, cond, List, [], ◌∷◌, ◌++◌, Option, Some, None, refl, sym, ap, subst, ◌∙◌, arith, length, take, get_or, append_assoc}
use Rattle.std.specs.List.{AllByRecursion, list_all}
use Rattle.std.proofs.lemmas.List.{append-nil, length-append, take_more}
use Rattle.std.proofs.lemmas.List.Sums.{sum_by-append}
use Rattle.clk_base.specs.declared.command.Answer.{Answer}
use Rattle.clk_base.specs.declared.command.Answer.TheVariants as answer
use Rattle.clk_base.specs.declared.command.Command.{Command}
use Rattle.clk_base.specs.declared.event.Entry.{Entry}
use Rattle.clk_base.specs.declared.event.Event.{Event}
use Rattle.clk_base.specs.declared.event.Reply.{Reply}
use Rattle.clk_model.specs.Journal.{Answered, is_paid, calls_of, cost, Legal}
use Rattle.clk_model.specs.Follows.{Variables, handle_of, call_of, held_after, NextFollows, FollowsFrom}
use Rattle.clk_machine.specs.Run.{Run, in_flight}
use Rattle.clk_base.specs.Description.{Description}
use Rattle.drv_scripts.specs.Placed.{NamesPlace, NamePlaces}
use Rattle.driver_runs.specs.Scripts.{Answers, GoesThrough}
use Rattle.driver_runs.proofs.WholeCalls.{calls_of-append, are_calls-append, stays_idle}
use Rattle.clk_model.proofs.Members.{both_left, both_right}
use Rattle.std.proofs.lemmas.Bool.{and_from}

pub list_all-append : {X : Type 0} (p : X → Bool) (xs ys : List X) → list_all p xs ≡ true → list_all p ys ≡ true → list_all p (xs ++ ys) ≡ true
list_all-append p [] ys h k = k
list_all-append p (x ∷ xs) ys h k = and_from (p x) (list_all p (xs ++ ys)) (both_left _ _ h) (list_all-append p xs ys (both_right (p x) (list_all p xs) h) k)

-- ---- going

pub goes_none : (run : Run) (d : ℕ) (held : Variables) → GoesThrough run d held [] [] held run
goes_none run d held = record {
  entries = [];
  start = refl;
  told = refl;
  behind = refl;
  journal = sym (append-nil run.journal);
  own = refl;
  few = omega arith;
  legal = λ told was. was;
  follows = λ cs ls as_ f. f;
}

pub goes_trans : (first mid last : Run) (d : ℕ) (held held' held'' : Variables) (xs ys : List Command) (as_ bs : List Answer)
    → GoesThrough first d held xs as_ held' mid → GoesThrough mid d held' ys bs held'' last → GoesThrough first d held (xs ++ ys) (as_ ++ bs) held'' last
goes_trans first mid last d held held' held'' xs ys as_ bs one two = record {
  entries = one.entries ++ two.entries;
  start = two.start ∙ one.start;
  told = two.told ∙ one.told;
  behind = two.behind ∙ one.behind;
  journal = two.journal ∙ ap (λ (j : List Entry). j ++ two.entries) one.journal ∙ append_assoc first.journal one.entries two.entries;
  own = are_calls-append d false one.entries two.entries one.own two.own;
  few = let a = one.few in let b = two.few in omega (arith, sum_by-append (λ (f : Entry). cond (is_paid f.event) 1 0) one.entries two.entries, length-append xs ys);
  legal = λ told was. two.legal (one.told ∙ told) (one.legal told was);
  follows = λ cs ls cs' f.
      let whole = one.follows (ys ++ cs) (calls_of two.entries ++ ls) (bs ++ cs') (two.follows cs ls cs' f) in
      subst (λ (commands : List Command). FollowsFrom held commands (calls_of (one.entries ++ two.entries) ++ ls) ((as_ ++ bs) ++ cs')) (sym (append_assoc xs ys cs))
      (subst (λ (calls : List Answered). FollowsFrom held (xs ++ (ys ++ cs)) calls ((as_ ++ bs) ++ cs'))
      (sym (append_assoc (calls_of one.entries) (calls_of two.entries) ls) ∙ ap (λ (c : List Answered). c ++ ls) (sym (calls_of-append d false one.entries two.entries one.own)))
      (subst (λ (answers : List Answer). FollowsFrom held (xs ++ (ys ++ cs)) (calls_of one.entries ++ (calls_of two.entries ++ ls)) answers) (sym (append_assoc as_ bs cs')) whole));
}

-- ---- one command

pub goes_skipped : (old new : Run) (d : ℕ) (held : Variables) (c : Command) → call_of (handle_of held c) c.act ≡ None → new ≡ old
    → GoesThrough old d held (c ∷ []) (answer.Skip ∷ []) held new
goes_skipped old new d held c none is = record {
  entries = [];
  start = ap (λ (r : Run). r.start) is;
  told = ap (λ (r : Run). r.told) is;
  behind = ap (λ (r : Run). r.behind) is;
  journal = ap (λ (r : Run). r.journal) is ∙ sym (append-nil old.journal);
  own = refl;
  few = omega arith;
  legal = λ told was. subst (λ (r : Run). Legal r.start r.journal) (sym is) was;
  follows = λ cs ls as_ f. subst (λ (o : Option Event). NextFollows (λ after ls2. FollowsFrom after cs ls2 as_) held c o ls answer.Skip) (sym none) (refl, f);
}

-- a command whose call was answered
pub goes_called : (old new : Run) (d : ℕ) (held held' : Variables) (c : Command) (e : Event) (r : Reply) → call_of (handle_of held c) c.act ≡ Some e → Answers old d e r new
    → held' ≡ held_after held c c.act r → GoesThrough old d held (c ∷ []) (answer.Reply r ∷ []) held' new
goes_called old new d held held' c e r calls made left = record {
  entries = made.entries;
  start = made.start;
  told = made.told;
  behind = made.behind;
  journal = made.journal;
  own = made.own;
  few = let one = made.paid in omega arith;
  legal = made.legal;
  follows = λ cs ls as_ f.
      subst (λ (o : Option Event). NextFollows (λ after ls2. FollowsFrom after cs ls2 as_) held c o (calls_of made.entries ++ ls) (answer.Reply r)) (sym calls)
      (subst (λ (calls : List Answered). NextFollows (λ after ls2. FollowsFrom after cs ls2 as_) held c (Some e) (calls ++ ls) (answer.Reply r)) (sym made.calls)
      (refl, refl, subst (λ (held : Variables). FollowsFrom held cs ls as_) left f));
}

-- ---- credits

-- the credits that are spent are at most one a command
pub goes_cost : (old new : Run) (d : ℕ) (held held' : Variables) (commands : List Command) (answers : List Answer) → GoesThrough old d held commands answers held' new
    → cost new.journal ≤ cost old.journal + length commands
goes_cost old new d held held' commands answers goes =
    let few = goes.few in
    let all = ap cost goes.journal ∙ sum_by-append (λ f. cond (is_paid f.event) 1 0) old.journal goes.entries in
    omega arith

-- a core stays idle between commands
pub goes_idle : (old new : Run) (d : ℕ) (held held' : Variables) (commands : List Command) (answers : List Answer) → GoesThrough old d held commands answers held' new
    → in_flight old.journal ≡ false → in_flight new.journal ≡ false
goes_idle old new d held held' commands answers goes idle = stays_idle old new d goes.entries goes.journal goes.own idle

-- ---- several commands

-- one command more
pub goes_more : (first mid last : Run) (d : ℕ) (held held' held'' : Variables) (commands : List Command) (i : ℕ) (x : Command) (answers answers' : List Answer) (a : Answer)
    → i < length commands → GoesThrough first d held (take i commands) answers held' mid → GoesThrough mid d held' (get_or commands i x ∷ []) (a ∷ []) held'' last
    → answers' ≡ answers ++ a ∷ []
    → GoesThrough first d held (take (i + 1) commands) answers' held'' last
goes_more first mid last d held held' held'' commands i x answers answers' a within one two more =
    subst (λ (cs : List Command). GoesThrough first d held cs answers' held'' last) (sym (take_more commands i x within))
    (subst (λ (as_ : List Answer). GoesThrough first d held (take i commands ++ get_or commands i x ∷ []) as_ held'' last) (sym more)
    (goes_trans first mid last d held held' held'' (take i commands) (get_or commands i x ∷ []) answers (a ∷ []) one two))

-- what holds of each element holds of the one at a place
pub element : {X : Type 0} (P : X → Type 0) (xs : List X) (i : ℕ) (d : X) → AllByRecursion P xs → i < length xs → P (get_or xs i d)
element P [] i d all within = absurd (omega arith)
element P (x ∷ xs) zero d all within = all.0
element P (x ∷ xs) (suc i) d all within = element P xs i d all.1 (omega arith)

-- the clock that the command at a place names is one of the description
pub named_at : (run : Run) (defs : Description) (commands : List Command) (i : ℕ) (x : Command) → run.start.defs ≡ defs → NamePlaces (length defs) commands → i < length commands
    → NamesPlace (length run.start.defs) (get_or commands i x).act
named_at run defs commands i x same placed within =
    subst (λ (ds : Description). NamesPlace (length ds) (get_or commands i x).act) (sym same) (element (λ (command : Command). NamesPlace (length defs) command.act) commands i x placed within)
