-- A core over which a bundle has run with each driver on a thread of its own.
use Rattle.std.proofs.Common.{◌≡◌, ℕ, Bool, true, List, Option, Some, refl, sym, ap, subst, ◌∙◌, arith, length}
use Rattle.std.specs.Prelude.{is_some, drop}
use Rattle.std.specs.Option.{option_map}
use Rattle.atomic_table.specs.Seated.{TableId}
use Rattle.clk_base.specs.declared.command.Answer.{Answer}
use Rattle.clk_base.specs.declared.command.Command.{Command}
use Rattle.clk_base.specs.declared.event.Entry.{Entry}
use Rattle.clk_cli.specs.declared.cli.Cli.{Cli}
use Rattle.clk_cli.specs.declared.cli.Mode.{Mode}
use Rattle.clk_cli.specs.declared.cli.Mode.TheVariants.{Check, Sim, Run, Bench}
use Rattle.clk_machine.specs.Run as cores
use Rattle.clk_model.specs.Ordered.{Ordered}
use Rattle.tier_lock.specs.Known.{first_known}
use Rattle.clk_framework.specs.declared.opened.Opened.{Opened}
use Rattle.clk_framework.specs.Opening.{opened_of, start_of}
use Rattle.clk_framework.specs.Calls.{DriverView}
use Rattle.drv_scripts.specs.declared.bundle.Bundle.{Bundle}
use Rattle.drv_scripts.specs.Placed.{IsSound}
use Rattle.drv_scripts.specs.declared.bundle.Script.{Script}
use Rattle.driver_runs.specs.Turns.{scripts_with}
use Rattle.driver_runs.specs.Drivers.{FollowAll, are_among, boot_first}
use Rattle.driver_threads.specs.Runs.{CanStart, HasRunOnThreads}
use Rattle.core_parts.specs.Window.{behind_of}
use Rattle.reg_bank.specs.declared.pll_lock.PllLock.{PllLock}
use Rattle.clk_run.specs.Cores.{HasCalls, opened_for}
use Rattle.clk_run.specs.Runs.{drivers_in, scripts_of, has_threads, opening_of, credits_of, InOrder, telling, told_by}
use Rattle.clk_run.proofs.Telling.{telling_from}

-- ---- the order

-- in the order of one thread, and boot's entries first
pub in_order : (mode : Mode) (scripts : List (List Command)) (order : List ℕ) (journal : List Entry) → Ordered scripts order journal → boot_first journal ≡ true
    → InOrder mode scripts order journal
in_order Check scripts order journal ordered first = ordered
in_order Sim scripts order journal ordered first = ordered
in_order Run scripts order journal ordered first = first
in_order (Bench n) scripts order journal ordered first = first

-- where each driver has a thread of its own, all run
all_run : (mode : Mode) (b : Bundle) → has_threads mode ≡ true → drivers_in mode b ≡ b.drivers
all_run Check b threads = absurd cc
all_run Sim b threads = absurd cc
all_run Run b threads = refl
all_run (Bench n) b threads = refl

-- and boot's entries stand first
boot_alone_first : (mode : Mode) (scripts : List (List Command)) (order : List ℕ) (journal : List Entry) → has_threads mode ≡ true → boot_first journal ≡ true → InOrder mode scripts order journal
boot_alone_first Check scripts order journal threads first = absurd cc
boot_alone_first Sim scripts order journal threads first = absurd cc
boot_alone_first Run scripts order journal threads first = first
boot_alone_first (Bench n) scripts order journal threads first = first

-- ---- where it begins

-- driver 0 of a framework in which a bundle waits can start
pub can_start : (table : TableId) (b : Bundle) (ignore_unused : Bool) (contents : Option (List ℕ)) (lock : ℕ → Option PllLock) (first : DriverView) (boot : List Command) (drivers : List Script) → IsSound b
    → first ≡ first_known table (opened_for b ignore_unused contents lock) (credits_of b) → boot ≡ b.boot → drivers ≡ b.drivers → CanStart table first boot drivers
can_start table b ignore_unused contents lock first boot drivers sound begins these those =
    let room : first.room ≡ credits_of b = ap (λ (d : DriverView). d.room) begins in
    subst (λ (ds : List Script). CanStart table first boot ds) (sym those)
    (subst (λ (cs : List Command). CanStart table first cs b.drivers) (sym these) record {
      opened = opened_for b ignore_unused contents lock;
      begins = begins ∙ ap (λ (n : ℕ). first_known table (opened_for b ignore_unused contents lock) n) (sym room);
      credits = omega (arith, room);
      few = let most = sound.drivers in omega (arith, most);
      placed = record { boot_ = sound.boot; drivers_ = sound.scripts };
    })

-- ---- what it has done

inside : {X : Type 0} {x y : X} → Some x ≡ Some y → x ≡ y
inside e = cc

module _ (b : Bundle) (ignore_unused : Bool) (contents : Option (List ℕ)) (lock : ℕ → Option PllLock) (answers : List (List Answer)) (core : cores.Run)
    (ran : HasRunOnThreads (Some (opened_for b ignore_unused contents lock)) b.boot b.drivers answers core) where
  same : opened_for b ignore_unused contents lock ≡ opened_of core
  same = inside ran.opened

  pub threads_start : core.start ≡ opening_of b ignore_unused
  threads_start = ran.start ∙ ap start_of (sym same)

  pub threads_told : core.told ≡ is_some contents
  threads_told = ap (λ (o : Opened). o.told) (sym same)

  pub threads_behind : core.behind ≡ behind_of (length b.words) contents lock
  threads_behind = ap (λ (o : Opened). o.behind) (sym same)

  pub threads_telling : told_by core ≡ telling contents lock
  threads_telling = telling_from core.told core.behind contents lock (length b.words) threads_told threads_behind

pub threads_calls : (b : Bundle) (cli : Cli) (contents : Option (List ℕ)) (lock : ℕ → Option PllLock) (answers given : List (List Answer)) (core : cores.Run) → has_threads cli.mode ≡ true
    → HasRunOnThreads (Some (opened_for b cli.ignore_unused contents lock)) b.boot b.drivers answers core → given ≡ answers → HasCalls b cli given core
threads_calls b cli contents lock answers given core is ran these = subst (λ (as_ : List (List Answer)). HasCalls b cli as_ core) (sym these) record {
  start = threads_start b cli.ignore_unused contents lock answers core ran;
  follow = subst (λ (drivers : List Script). FollowAll 0 (scripts_with b.boot drivers) answers core.journal) (sym (all_run cli.mode b is)) ran.follow;
  among = subst (λ (drivers : List Script). are_among (length (scripts_with b.boot drivers)) core.journal ≡ true) (sym (all_run cli.mode b is)) ran.among;
  ordered = boot_alone_first cli.mode (scripts_of cli.mode b) b.order core.journal is ran.first;
  quiet = ran.quiet;
}
