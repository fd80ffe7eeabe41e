-- When the polls of a core are answered by the locks of its bank.
use Rattle.std.specs.Prelude.{◌≡◌, ℕ, ◌+◌, ◌<◌, ◌==◌, List, [], ◌∷◌, Bool, Option, IfSome, count_by}
use Rattle.std.specs.Option.{option_map}
use Rattle.clk_base.specs.declared.call.Micro.TheVariants as micro
use Rattle.clk_base.specs.declared.clock.ClockId.{ClockId}
use Rattle.clk_base.specs.declared.event.Entry.{Entry}
use Rattle.clk_base.specs.declared.event.Event.{Event}
use Rattle.clk_base.specs.declared.event.Event.TheVariants as event
use Rattle.reg_bank.specs.Locks.{most_plls, started, polled, is_locked}
use Rattle.reg_bank.specs.declared.pll_lock.PllLock.{PllLock}
use Rattle.clk_model.specs.Journal.{asked_after}
use Rattle.clk_model.specs.Step.{most_polls}
use Rattle.clk_flight.specs.declared.front.Front.{Front}
use Rattle.clk_flight.specs.declared.front.Front.TheVariants.{Poll}
use Rattle.core_parts.specs.Window.{delays_in, lock_in}
use Rattle.clk_machine.specs.Parts.{Parts}

-- the PLLs that were polled since the last raise, behind these entries
abbrev pub asked_by : List ℕ → List Entry → List ℕ
asked_by asked [] = asked
asked_by asked (e ∷ es) = asked_by (asked_after asked e.event) es

-- what holds of the PLL that is polled next and of how many polls are left to it, if one is
abbrev pub IfPoll : Front → (ClockId → ℕ → Type 0) → Type 0
IfPoll (Poll y polls again) P = P y polls
IfPoll _ P = Unit {0}

-- a PLL is polled next, of which this holds
abbrev pub IsPoll : Front → (ClockId → ℕ → Type 0) → Type 0
IsPoll (Poll y polls again) P = P y polls
IsPoll _ P = ⊥

-- the lock of a PLL that is polled next has had as many polls as it was asked for since the last raise, and the others of a raise are left to it
pub record IsAsked (locks : List (Option PllLock)) (asked : List ℕ) (y : ClockId) (polls : ℕ) : Type 0 where
  pub told : IfSome (lock_in locks y.0) (λ lock. lock.polls ≡ count_by (λ z. z == y.0) asked)
  pub left : count_by (λ z. z == y.0) asked + polls ≡ most_polls

-- a raise has started the lock of the PLL that is polled next, and all polls are left to it
abbrev pub StartsLock : Parts → Parts → Type 0
StartsLock old new =
    IfPoll new.flight.front (λ y polls. (polls ≡ most_polls) × (lock_in new.window.locks y.0 ≡ option_map started (lock_in old.window.locks y.0)))

-- the lock of the PLL that came next was polled, and its answer is this one; where the PLL is polled again a poll less is left to it
pub record PollsLock (y : ClockId) (answer : Option Bool) (old new : Parts) : Type 0 where
  pub inside : y.0 < most_plls
  pub lock : lock_in new.window.locks y.0 ≡ option_map polled (lock_in old.window.locks y.0)
  pub told : IfSome answer (λ yes. IfSome (lock_in new.window.locks y.0) (λ now. yes ≡ is_locked now))
  pub delays : new.window.behind.delays ≡ delays_in new.window.locks
  pub next : IsPoll old.flight.front (λ z polls. (z ≡ y) × IfPoll new.flight.front (λ w left. (w ≡ y) × (left + 1 ≡ polls)))

-- what an event does with the locks of PLLs: a raise starts one, a poll polls the one that it is of, and any other leaves them
abbrev pub FollowsLocks : Parts → Event → Parts → Type 0
FollowsLocks old (event.Step (micro.Raise x) answer) new = StartsLock old new
FollowsLocks old (event.Step (micro.Poll y) answer) new = PollsLock y answer old new
FollowsLocks old _ new = new.window.locks ≡ old.window.locks
