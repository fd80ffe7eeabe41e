-- What an event needs, and what it makes, whether it is a step or a call that begins.
use Rattle.std.proofs.Common.{◌≡◌, ℕ, zero, suc, ◌||◌, Bool, true, false, nat_eq, List, [], ◌∷◌, Option, Some, None, refl, sym, ap, subst, ◌∙◌, arith, length, drop}
use Rattle.std.specs.Prelude.{is_none, if◌then◌else◌}
use Rattle.std.specs.List.{AllByRecursion}
use Rattle.std.specs.Option.{option_eq}
use Rattle.std.proofs.lemmas.Bool.Decides.{nat_tests}
use Rattle.clk_base.specs.declared.command.Command.{Command}
use Rattle.clk_base.specs.declared.event.Reply.{Reply}
use Rattle.clk_base.specs.declared.event.Turn.{Turn}
use Rattle.clk_base.specs.declared.event.Turn.TheVariants as turn
use Rattle.clk_base.specs.declared.handle.Handle.{Handle}
use Rattle.clk_model.specs.Follows.{handle_of, call_of}
use Rattle.clk_model.specs.Lists.{is_at}
use Rattle.clk_model.specs.Ordered.{unskipped, is_atomic, can_take}
use Rattle.clk_machine.specs.Run.{Run}
use Rattle.drv_scripts.specs.Placed.{NamesPlace}
use Rattle.driver_runs.specs.Standing.{left_of, IsAnswered}
use Rattle.driver_runs.specs.Events.{IsGoing, MayEnter, Enters, MayMove, MakesEvent}
use Rattle.driver_runs.specs.declared.standing.Standing.{Standing}
use Rattle.driver_runs.proofs.Passing.{unskipped_short, unskipped_more}
use Rattle.driver_runs.proofs.Entered.{step_goes, step_ends, call_goes, call_answered}

-- whether this is the driver whose call is in flight
pub steps_is : (going : Option ℕ) (d : ℕ) → option_eq nat_eq going (Some d) ≡ is_at d going
steps_is None d = refl
steps_is (Some k) d = refl

-- what holds of all commands holds of the first that are left
first_left : (P : Command → Type 0) (n : ℕ) (commands : List Command) (c : Command) (rest : List Command) → AllByRecursion P commands → drop n commands ≡ c ∷ rest → P c
first_left P zero [] c rest all is = absurd cc
first_left P zero (x ∷ xs) c rest all is = let same : x ≡ c = cc in subst P same all.0
first_left P (suc n) [] c rest all is = absurd cc
first_left P (suc n) (x ∷ xs) c rest all is = first_left P n xs c rest all.1 is

-- a command in front of which the skipped ones were passed over makes a call
makes_call : (x : Standing) (c : Command) (rest : List Command) → unskipped x.held.items (c ∷ rest) ≡ c ∷ rest → is_none (call_of (handle_of x.held.items c) c.act) ≡ false
makes_call x c rest passed = pick (is_none (call_of (handle_of x.held.items c) c.act)) refl where
  pick : (b : Bool) → is_none (call_of (handle_of x.held.items c) c.act) ≡ b → is_none (call_of (handle_of x.held.items c) c.act) ≡ false
  pick true h =
      let short = unskipped_short x.held.items rest in
      let same : suc (length rest) ≡ length (unskipped x.held.items rest) = ap (λ (cs : List Command). length cs) (sym passed ∙ unskipped_more x.held.items c rest h) in
      absurd (omega (arith, short, same))
  pick false h = h

module _ (run : Run) (d : ℕ) (commands : List Command) (x : Standing) (going : Option ℕ) (may : MayMove run d commands x going) (c : Command) (rest : List Command)
    (next : left_of commands x ≡ c ∷ rest) where
  going_is : is_at d going ≡ true → going ≡ Some d
  going_is mine = by going mine where
    by : (o : Option ℕ) → is_at d o ≡ true → o ≡ Some d
    by None is = absurd cc
    by (Some k) is = ap (λ (n : ℕ). Some n) (number k is) where
      number : (k : ℕ) → nat_eq k d ≡ true → k ≡ d
      number k is = grind (arith, nat_tests)

  takes : is_at d going ≡ false → (is_atomic c.act || is_none going) ≡ true
  takes away =
      sym (ap (λ (b : Bool). b || can_take going (left_of commands x)) away ∙ ap (λ (cs : List Command). can_take going cs) next) ∙ may.can

  none_going : (b : Bool) → (b || is_none going) ≡ true → b ≡ false → going ≡ None
  none_going b can sleeps = by going (sym (ap (λ (a : Bool). a || is_none going) sleeps) ∙ can) where
    by : (o : Option ℕ) → is_none o ≡ true → o ≡ None
    by None h = refl
    by (Some k) h = absurd cc

  -- the next step may be made, or the next command's call begun
  pub may_enter : (steps : Bool) (held : Option Handle) → steps ≡ is_at d going → held ≡ handle_of x.held.items c → MayEnter run steps held c.act
  may_enter steps held is has = record {
    flies = λ mine. (subst (λ (o : Option ℕ). IsGoing o run.journal) (going_is (sym is ∙ mine)) may.flies).0;
    calls = λ away.
        ap (λ (h : Option Handle). is_none (call_of h c.act)) has
        ∙ makes_call x c rest (ap (unskipped x.held.items) (sym next) ∙ may.passed ∙ next);
    credit = λ away. may.credit (sym is ∙ away);
    quiet = λ away sleeps. subst (λ (o : Option ℕ). IsGoing o run.journal) (none_going (is_atomic c.act) (takes (sym is ∙ away)) sleeps) may.flies;
    place = first_left (λ (y : Command). NamesPlace (length run.start.defs) y.act) (length x.answers.items) commands c rest may.places next;
  }

  -- the call goes on
  pub goes_event : (steps : Bool) (held : Option Handle) (t : Turn) (new : Run) → steps ≡ is_at d going → held ≡ handle_of x.held.items c → t ≡ turn.Going
      → Enters run d steps held c.act t new → MakesEvent run d commands x going new x (Some d)
  goes_event steps held t new is has goes enters = by (is_at d going) refl where
    made : Enters run d (is_at d going) (handle_of x.held.items c) c.act turn.Going new
    made =
        subst (λ (b : Bool). Enters run d b (handle_of x.held.items c) c.act turn.Going new) is
        (subst (λ (h : Option Handle). Enters run d steps h c.act turn.Going new) has (subst (λ (u : Turn). Enters run d steps held c.act u new) goes enters))

    by : (b : Bool) → is_at d going ≡ b → MakesEvent run d commands x going new x (Some d)
    by true mine =
        subst (λ (o : Option ℕ). MakesEvent run d commands x o new x (Some d)) (sym (going_is mine))
        (step_goes run d commands x c rest next (handle_of x.held.items c) new (subst (λ (o : Option ℕ). IsGoing o run.journal) (going_is mine) may.flies)
        (subst (λ (b : Bool). Enters run d b (handle_of x.held.items c) c.act turn.Going new) mine made))
    by false away =
        let call = subst (λ (b : Bool). Enters run d b (handle_of x.held.items c) c.act turn.Going new) away made in
        subst (λ (o : Option ℕ). MakesEvent run d commands x o new x (Some d)) (sym (none_going (is_atomic c.act) (takes away) (call.sleeps refl refl)))
        (call_goes run d commands x c rest next new call)

  -- the call is answered
  pub ends_event : (steps : Bool) (held : Option Handle) (t : Turn) (r : Reply) (new : Run) (x' : Standing) (after : Option ℕ) → steps ≡ is_at d going → held ≡ handle_of x.held.items c
      → t ≡ turn.Done r → Enters run d steps held c.act t new → IsAnswered commands x c r x' → after ≡ (if is_at d going then None else going)
      → MakesEvent run d commands x going new x' after
  ends_event steps held t r new x' after is has done enters answered behind = by (is_at d going) refl where
    made : Enters run d (is_at d going) (handle_of x.held.items c) c.act (turn.Done r) new
    made =
        subst (λ (b : Bool). Enters run d b (handle_of x.held.items c) c.act (turn.Done r) new) is
        (subst (λ (h : Option Handle). Enters run d steps h c.act (turn.Done r) new) has (subst (λ (u : Turn). Enters run d steps held c.act u new) done enters))

    by : (b : Bool) → is_at d going ≡ b → MakesEvent run d commands x going new x' after
    by true mine =
        subst (λ (o : Option ℕ). MakesEvent run d commands x going new x' o) (sym (behind ∙ ap (λ (b : Bool). if b then None else going) mine))
        (subst (λ (o : Option ℕ). MakesEvent run d commands x o new x' None) (sym (going_is mine))
        (step_ends run d commands x c rest next (handle_of x.held.items c) new x' r (subst (λ (o : Option ℕ). IsGoing o run.journal) (going_is mine) may.flies)
        (subst (λ (b : Bool). Enters run d b (handle_of x.held.items c) c.act (turn.Done r) new) mine made) answered))
    by false away =
        subst (λ (o : Option ℕ). MakesEvent run d commands x going new x' o) (sym (behind ∙ ap (λ (b : Bool). if b then None else going) away))
        (call_answered run d commands x c rest next going new x' r away may.flies (takes away)
        (subst (λ (b : Bool). Enters run d b (handle_of x.held.items c) c.act (turn.Done r) new) away made) answered)
