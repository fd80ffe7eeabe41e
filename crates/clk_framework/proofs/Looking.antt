-- A turn of the lock without an entry.
use Rattle.std.proofs.Common.{◌≡◌, ℕ, ◌<◌, Bool, true, false, cond, List, [], ◌∷◌, Some, All, nat_eq, refl, sym, ap, subst, ◌∙◌, arith}
use Rattle.std.proofs.lemmas.Bool.Decides.{nat_tests}
use Rattle.std.proofs.lemmas.List.Elements.{All-head, All-tail}
use Rattle.clk_base.specs.declared.event.Entry.{Entry}
use Rattle.clk_model.specs.State.{State}
use Rattle.clk_model.specs.Journal.{Legal, own}
use Rattle.clk_machine.specs.Run.{Run}
use Rattle.tier_lock.specs.Entries.{IsPrefix, AreBelow}
use Rattle.clk_framework.specs.Lawful.{IsLawful, RunsByLaw}
use Rattle.clk_framework.specs.Opening.{opened_of, start_of}
use Rattle.clk_framework.specs.Calls.{DriverView, SeesRun, MakesNone}

-- entries of driver 0 alone are its own
all_own : (es : List Entry) → All (λ e. e.driver < 1) es → own es 0 ≡ es
all_own [] all = refl
all_own (e ∷ es) all =
    ap (λ (b : Bool). cond b (e ∷ own es 0) (own es 0)) (is_zero e.driver (All-head (λ f. f.driver < 1) e es all))
    ∙ ap (λ (xs : List Entry). e ∷ xs) (all_own es (All-tail (λ f. f.driver < 1) e es all)) where
      is_zero : (n : ℕ) → n < 1 → nat_eq n 0 ≡ true
      is_zero n less = grind (arith, nat_tests)

-- a turn of a driver that gave the core back as it was
pub record Looked (old mid new : DriverView) (before : Run) : Type 0 where
  pub idle : old.turn ≡ false
  pub took : mid ≡ record old { turn = true; seen = before.journal }
  pub continues : IsPrefix old.seen before.journal
  pub knows : old.fixed ≡ Some (opened_of before)
  pub mine : own before.journal old.number ≡ old.mine
  pub numbers : old.number ≡ 0 → AreBelow (λ e. e.driver) old.made before.journal
  pub gave : new ≡ record mid { turn = false }
  pub opened : before.start ≡ start_of (opened_of before)
  pub lawful : RunsByLaw before

module _ (old mid new : DriverView) (before : Run) (l : Looked old mid new before) where
  is : new ≡ record old { seen = before.journal }
  is =
      l.gave ∙ ap (λ (d : DriverView). let e : DriverView = record d { turn = false } in e) l.took
      ∙ ap (λ (b : Bool). let e : DriverView = record old { turn = b; seen = before.journal } in e) (sym l.idle)

  seen : new.seen ≡ before.journal
  seen = ap (λ (d : DriverView). d.seen) is

  run : SeesRun new
  run = record {
    opened = opened_of before;
    knows = ap (λ (d : DriverView). d.fixed) is ∙ l.knows;
    legal = λ told.
        subst (λ (es : List Entry). Legal (start_of (opened_of before)) es) (sym seen) (subst (λ (s : State). Legal s before.journal) l.opened (l.lawful.legal told));
    lawful = λ told.
        subst (λ (es : List Entry). IsLawful (start_of (opened_of before)) es) (sym seen)
        (subst (λ (s : State). IsLawful s before.journal) l.opened (l.lawful.lawful told));
    own_ = ap (λ (d : DriverView). own d.seen d.number) is ∙ l.mine ∙ sym (ap (λ (d : DriverView). d.mine) is);
    alone = λ zero one.
        let number : old.number ≡ 0 = sym (ap (λ (d : DriverView). d.number) is) ∙ zero in
        let made : old.made ≡ 1 = sym (ap (λ (d : DriverView). d.made) is) ∙ one in
        seen ∙ sym (all_own before.journal (subst (λ (n : ℕ). AreBelow (λ (e : Entry). e.driver) n before.journal) made (l.numbers number)))
        ∙ ap (λ (n : ℕ). own before.journal n) (sym number) ∙ l.mine ∙ sym (ap (λ (d : DriverView). d.mine) is);
  }

  -- the driver has made no entry, and has seen all of the core's journal
  pub looked : MakesNone old new
  looked = record {
    sees = record {
      driver = is ∙ ap (λ (es : List Entry). let d : DriverView = record old { seen = es } in d) (sym seen);
      continues = subst (λ (es : List Entry). IsPrefix old.seen es) (sym seen) l.continues;
    };
    run = run;
  }
