-- Boot, the drivers that it makes, and what they have done in the end.
use Rattle.std.proofs.Common.{◌≡◌, ℕ, suc, ◌<◌, List, [], ◌∷◌, Option, Some, None, Result, Ok, Err, sym, ap, subst, ◌∙◌, arith, length, map, get_or, IfOk, IfSome}
use Rattle.std.specs.Prelude.{MatchResult}
use Rattle.std.proofs.lemmas.List.{length-map}
use Rattle.atomic_table.specs.Seated.{TableId}
use Rattle.clk_base.specs.declared.command.Answer.{Answer}
use Rattle.clk_base.specs.declared.command.Command.{Command}
use Rattle.clk_model.specs.Follows.{Variables, no_handles}
use Rattle.clk_framework.specs.Calls.{DriverView}
use Rattle.drv_scripts.specs.declared.bundle.Script.{Script}
use Rattle.driver_threads.specs.Going.{MayRun, IsSame, GoesThrough}
use Rattle.driver_threads.specs.Workers.{Worked, HaveWorked, newcomers, MayMake, HasMade, AllDone}
use Rattle.driver_threads.specs.Runs.{CanStart}
use Rattle.driver_threads.proofs.Going.{same_ready, goes_same}
use Rattle.driver_threads.proofs.Newcomers.{commands_of}

module _ (table : TableId) (first : DriverView) (boot : List Command) (scripts : List Script) (starts : CanStart table first boot scripts) where
  pub may_boot : MayRun table first boot
  may_boot = record {
    ready = record {
      table_is = ap (λ (d : DriverView). d.table) starts.begins;
      turn = ap (λ (d : DriverView). d.turn) starts.begins;
      baton = ap (λ (d : DriverView). d.baton) starts.begins;
    };
    credits = let paid = starts.credits in omega (arith, paid);
    opened = starts.opened;
    knows = ap (λ (d : DriverView). d.fixed) starts.begins;
    places = starts.placed.boot_;
  }

  module _ (booted : DriverView) (held : Variables) (own : List Answer) (boots : GoesThrough first (no_handles boot) boot own held booted) where
    pub may_make : MayMake table booted scripts
    may_make = record {
      ready = same_ready table first booted (goes_same first booted (no_handles boot) held boot own boots) may_boot.ready;
      number = ap (λ (d : DriverView). d.number) boots.driver ∙ ap (λ (d : DriverView). d.number) starts.begins;
      credits = let paid = starts.credits in let few = boots.few in omega (arith, paid, few);
      few =
          let one = ap (λ (d : DriverView). d.made) boots.driver ∙ ap (λ (d : DriverView). d.made) starts.begins in
          let many = starts.few in
          omega (arith, one, many);
      opened = starts.opened;
      knows = ap (λ (d : DriverView). d.fixed) boots.driver ∙ ap (λ (d : DriverView). d.fixed) starts.begins;
      placed = starts.placed.drivers_;
    }

-- a driver that has run its script, or met want of memory
pub worked_of : {X E : Type 0} (items : X → List Answer) (old new : DriverView) (commands : List Command) (ran : Result X E) (made : Option (List Answer)) → IsSame old new
    → IfOk ran (λ x. (held : Variables) × GoesThrough old (no_handles commands) commands (items x) held new)
    → MatchResult ran (λ x. made ≡ Some (items x)) (λ _. made ≡ None) → Worked old commands new made
worked_of items old new commands (Ok x) made same goes is = record {
  same = same;
  went = subst (λ (o : Option (List Answer)). IfSome o (λ own. (held : Variables) × GoesThrough old (no_handles commands) commands own held new)) (sym is) goes;
}
worked_of items old new commands (Err e) made same goes is = record {
  same = same;
  went = subst (λ (o : Option (List Answer)). IfSome o (λ own. (held : Variables) × GoesThrough old (no_handles commands) commands own held new)) (sym is) tt;
}

-- answers of all drivers, where the first of them is there
others_of : (own : List Answer) (made : List (Option (List Answer))) (answers : List (List Answer)) → map Some answers ≡ Some own ∷ made
    → (others : List (List Answer)) × (answers ≡ own ∷ others) × (made ≡ map Some others)
others_of own made [] same = absurd cc
others_of own made (a ∷ answers) same =
    let this : a ≡ own = head_is same in
    let rest : map Some answers ≡ made = tail_is same in
    (answers, ap (λ (x : List Answer). x ∷ answers) this, sym rest) where
      head_is : {xs ys : List (Option (List Answer))} {x y : List Answer} → Some x ∷ xs ≡ Some y ∷ ys → x ≡ y
      head_is e = cc

      tail_is : {xs ys : List (Option (List Answer))} {x y : Option (List Answer)} → x ∷ xs ≡ y ∷ ys → xs ≡ ys
      tail_is e = cc

-- all drivers have done all
pub all_done : (first booted last : DriverView) (boot : List Command) (held : Variables) (own : List Answer) (scripts : List Script) (commands : List (List Command)) (olds news drivers : List DriverView)
    (made : List (Option (List Answer))) (answers : List (List Answer)) → GoesThrough first (no_handles boot) boot own held booted → HasMade booted (length scripts) last
    → commands ≡ map commands_of scripts → olds ≡ newcomers booted booted.made (map commands_of scripts) → HaveWorked olds commands news made
    → drivers ≡ last ∷ news → map Some answers ≡ Some own ∷ made → AllDone first boot (map commands_of scripts) drivers answers
all_done first booted last boot held own scripts commands olds news drivers made answers boots making these new worked drivers_are answers_are =
    let found = others_of own made answers answers_are in
    record {
      booted = booted;
      held = held;
      own = own;
      boots = boots;
      last = last;
      made = subst (λ (n : ℕ). HasMade booted n last) (sym (length-map scripts commands_of)) making;
      news = news;
      others = found.0;
      worked = subst (λ (ds : List DriverView). HaveWorked ds (map commands_of scripts) news (map Some found.0)) new
          (subst (λ (cs : List (List Command)). HaveWorked olds cs news (map Some found.0)) these
          (subst (λ (ms : List (Option (List Answer))). HaveWorked olds commands news ms) found.2 worked));
      drivers_are = drivers_are;
      answers_are = found.1;
    }

-- where all were gathered, all is done
pub ok_done : {X E : Type 0} (r : Result X E) (drivers : X → List DriverView) (answers : X → List (List Answer)) (ds : List DriverView) (made : List (Option (List Answer)))
    (first : DriverView) (boot : List Command) (scripts : List (List Command)) → IfOk r (λ x. drivers x ≡ ds) → IfOk r (λ x. map Some (answers x) ≡ made)
    → ((all : List DriverView) (own : List (List Answer)) → all ≡ ds → map Some own ≡ made → AllDone first boot scripts all own)
    → IfOk r (λ x. AllDone first boot scripts (drivers x) (answers x))
ok_done (Ok x) drivers answers ds made first boot scripts these those done = done (drivers x) (answers x) these those
ok_done (Err e) drivers answers ds made first boot scripts these those done = tt

-- ---- side by side

-- what holds at each place of the workers holds of the lists of what they have
pub each_worked : {X : Type 0} (driver : X → DriverView) (commands : X → List Command) (answers : X → Option (List Answer)) (before after : List X) → length after ≡ length before
    → ((i : ℕ) (d : X) → i < length before → Worked (driver (get_or before i d)) (commands (get_or before i d)) (driver (get_or after i d)) (answers (get_or after i d)))
    → HaveWorked (map driver before) (map commands before) (map driver after) (map answers after)
each_worked driver commands answers [] [] same each = tt
each_worked driver commands answers [] (y ∷ after) same each = absurd (omega (arith, same))
each_worked driver commands answers (x ∷ before) [] same each = absurd (omega (arith, same))
each_worked driver commands answers (x ∷ before) (y ∷ after) same each =
    (each 0 x (omega arith), each_worked driver commands answers before after (omega (arith, same)) (λ i d less. each (suc i) d (omega (arith, less))))
