-- The framework is closed with all its drivers, and its core has run their scripts.
use Rattle.std.proofs.Common.{◌≡◌, ℕ, suc, ◌+◌, ◌<◌, ◌≤◌, Bool, true, false, List, [], ◌∷◌, Some, All, refl, sym, ap, subst, ◌∙◌, arith, length, map, nat_eq}
use Rattle.std.specs.Prelude.{Contains}
use Rattle.std.proofs.lemmas.Bool.Decides.{nat_tests}
use Rattle.std.proofs.lemmas.List.Elements.{All-cons, All-head, All-tail}
use Rattle.atomic_table.specs.Seated.{TableId}
use Rattle.clk_base.specs.declared.command.Answer.{Answer}
use Rattle.clk_base.specs.declared.command.Command.{Command}
use Rattle.clk_base.specs.declared.event.Entry.{Entry}
use Rattle.clk_model.specs.Journal.{Legal, own}
use Rattle.clk_machine.specs.Run.{Run, in_flight}
use Rattle.tier_lock.specs.Entries.{IsPrefix, AreBelow}
use Rattle.tier_lock.specs.Known.{AreAll}
use Rattle.clk_framework.specs.Opening.{opened_of, start_of}
use Rattle.clk_framework.specs.Calls.{DriverView, IsReady}
use Rattle.drv_scripts.specs.declared.bundle.Script.{Script}
use Rattle.driver_runs.specs.Drivers.{FollowAll, are_among}
use Rattle.driver_threads.specs.Going.{GoesThrough}
use Rattle.driver_threads.specs.Workers.{AllDone}
use Rattle.driver_threads.specs.Runs.{CanStart, HasRunOnThreads}
use Rattle.driver_threads.proofs.Newcomers.{commands_of}
use Rattle.driver_threads.proofs.Finishing.{its_calls, all_follow, all_ready, numbered, below_among, boot_before}

-- what the framework tells of its core when it is closed with these drivers
pub record Closes (drivers : List DriverView) (core : Run) : Type 0 where
  pub opened : All (λ d. d.fixed ≡ Some (opened_of core)) drivers
  pub start : core.start ≡ start_of (opened_of core)
  pub seen : All (λ d. IsPrefix d.seen core.journal) drivers
  pub mine : All (λ d. own core.journal d.number ≡ d.mine) drivers
  pub numbers : All (λ d. d.number ≡ 0 → AreBelow (λ e. e.driver) d.made core.journal) drivers
  pub quiet : in_flight core.journal ≡ false
  pub legal : core.told ≡ true → Legal core.start core.journal

module _ (table : TableId) (first : DriverView) (boot : List Command) (scripts : List Script) (drivers : List DriverView) (answers : List (List Answer))
    (starts : CanStart table first boot scripts) (done : AllDone first boot (map commands_of scripts) drivers answers) where
  -- driver 0 is who it was
  number : done.last.number ≡ 0
  number = ap (λ (d : DriverView). d.number) done.made ∙ ap (λ (d : DriverView). d.number) done.boots.driver ∙ ap (λ (d : DriverView). d.number) starts.begins

  booted_made : done.booted.made ≡ 1
  booted_made = ap (λ (d : DriverView). d.made) done.boots.driver ∙ ap (λ (d : DriverView). d.made) starts.begins

  made : done.last.made ≡ suc (length (map commands_of scripts))
  made =
      let all = ap (λ (d : DriverView). d.made) done.made in
      let one = booted_made in
      omega (arith, all, one)

  table_is : done.booted.table ≡ table
  table_is = ap (λ (d : DriverView). d.table) done.boots.driver ∙ ap (λ (d : DriverView). d.table) starts.begins

  -- all drivers are between two calls
  pub drivers_ready : All (λ d. IsReady table d) drivers
  drivers_ready =
      subst (λ (ds : List DriverView). All (λ d. IsReady table d) ds) (sym done.drivers_are)
      (All-cons (λ d. IsReady table d) done.last done.news record {
        table_is = ap (λ (d : DriverView). d.table) done.made ∙ table_is;
        turn = ap (λ (d : DriverView). d.turn) done.made ∙ ap (λ (d : DriverView). d.turn) done.boots.driver ∙ ap (λ (d : DriverView). d.turn) starts.begins;
        baton = ap (λ (d : DriverView). d.baton) done.made ∙ ap (λ (d : DriverView). d.baton) done.boots.driver ∙ ap (λ (d : DriverView). d.baton) starts.begins;
      } (all_ready table done.booted done.booted.made (map commands_of scripts) done.news (map Some done.others) table_is done.worked))

  -- and they are all that were made
  others_of : (n : ℕ) → n < done.last.made → (d : DriverView) × Contains (done.last ∷ done.news) d × (d.number ≡ n)
  others_of n low = by (nat_eq n 0) refl where
    by : (b : Bool) → nat_eq n 0 ≡ b → (d : DriverView) × Contains (done.last ∷ done.news) d × (d.number ≡ n)
    by true is = let zero_ : n ≡ 0 = grind (arith, nat_tests) in (done.last, (0, omega arith, refl), number ∙ sym zero_)
    by false other =
        let one = booted_made in
        let all = made in
        let some : done.booted.made ≤ n = grind (arith, nat_tests, one) in
        let high : n < done.booted.made + length (map commands_of scripts) = omega (arith, one, all, low) in
        let found = numbered done.booted done.booted.made (map commands_of scripts) done.news (map Some done.others) done.worked n some high in
        (found.0, (suc found.1.0, (let less = found.1.1 in omega (arith, less)), found.1.2), found.2)

  pub drivers_all : AreAll drivers
  drivers_all = subst (λ (ds : List DriverView). AreAll ds) (sym done.drivers_are) record {
    count = done.last.made;
    first = (done.last, (0, omega arith, refl), number, refl);
    others = others_of;
  }

  module _ (core : Run) (closes : Closes drivers core) where
    -- what is said of all is said of driver 0, and of the others
    of_first : (P : DriverView → Type 0) → All P drivers → P done.last
    of_first P all = All-head P done.last done.news (subst (λ (ds : List DriverView). All P ds) done.drivers_are all)

    of_others : (P : DriverView → Type 0) → All P drivers → All P done.news
    of_others P all = All-tail P done.last done.news (subst (λ (ds : List DriverView). All P ds) done.drivers_are all)

    mine : own core.journal 0 ≡ done.booted.mine
    mine =
        ap (λ (n : ℕ). own core.journal n) (sym number) ∙ of_first (λ d. own core.journal d.number ≡ d.mine) closes.mine
        ∙ ap (λ (d : DriverView). d.mine) done.made

    follow : FollowAll 0 (boot ∷ map commands_of scripts) (done.own ∷ done.others) core.journal
    follow =
        let its = its_calls first done.booted done.held boot done.own core.journal 0 (ap (λ (d : DriverView). d.mine) starts.begins) (ap (λ (d : DriverView). d.number) starts.begins) done.boots mine in (
          its.follow,
          its.alone,
          subst (λ (n : ℕ). FollowAll n (map commands_of scripts) done.others core.journal) booted_made
              (all_follow done.booted done.booted.made (map commands_of scripts) done.news done.others core.journal done.worked
              (of_others (λ d. own core.journal d.number ≡ d.mine) closes.mine)),
        )

    -- driver 0 has seen its own entries alone when it had run boot
    alone : done.booted.seen ≡ done.booted.mine
    alone =
        done.boots.alone (ap (λ (d : DriverView). d.number) starts.begins) (ap (λ (d : DriverView). d.made) starts.begins)
        (ap (λ (d : DriverView). d.seen) starts.begins ∙ sym (ap (λ (d : DriverView). d.mine) starts.begins))

    pub has_run : HasRunOnThreads first.fixed boot scripts answers core
    has_run = record {
      opened =
          sym (ap (λ (d : DriverView). d.fixed) done.made ∙ ap (λ (d : DriverView). d.fixed) done.boots.driver)
          ∙ of_first (λ d. d.fixed ≡ Some (opened_of core)) closes.opened;
      start = closes.start;
      legal = closes.legal;
      follow = subst (λ (as_ : List (List Answer)). FollowAll 0 (boot ∷ map commands_of scripts) as_ core.journal) (sym done.answers_are) follow;
      among = subst (λ (n : ℕ). are_among n core.journal ≡ true) made
          (below_among done.last.made core.journal (of_first (λ d. d.number ≡ 0 → AreBelow (λ e. e.driver) d.made core.journal) closes.numbers number));
      first = boot_before done.booted.seen core.journal
          (subst (λ (es : List Entry). IsPrefix es core.journal) (ap (λ (d : DriverView). d.seen) done.made) (of_first (λ d. IsPrefix d.seen core.journal) closes.seen)) (mine ∙ sym alone);
      quiet = closes.quiet;
    }
