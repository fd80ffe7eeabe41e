-- A driver that may run commands may make the call of each in its turn.
use Rattle.std.proofs.Common.{◌≡◌, ℕ, ◌+◌, ◌<◌, ◌≤◌, List, [], Option, sym, ap, subst, ◌∙◌, arith, length, take, get_or, IfSome}
use Rattle.std.proofs.lemmas.List.{length-take}
use Rattle.atomic_table.specs.Seated.{TableId}
use Rattle.clk_base.specs.declared.command.Answer.{Answer}
use Rattle.clk_base.specs.declared.command.Command.{Command}
use Rattle.clk_model.specs.Follows.{Variables}
use Rattle.clk_framework.specs.declared.opened.Opened.{Opened}
use Rattle.clk_framework.specs.Calls.{DriverView}
use Rattle.clk_machine.specs.Sound.{IsPlaced}
use Rattle.clk_base.specs.declared.call.Sleeping.{Sleeping}
use Rattle.drv_scripts.specs.Placed.{NamesPlace}
use Rattle.driver_runs.proofs.Going.{element}
use Rattle.driver_threads.specs.Going.{MayBegin, MayCall, MayRun, GoesThrough}
use Rattle.driver_threads.proofs.Going.{same_ready, goes_same}

-- what the framework asks of a call, in its own words
pub placed_known : (table : TableId) (d : DriverView) (what : Sleeping) → MayBegin table d what → IfSome d.fixed (λ opened. IsPlaced opened.defs what)
placed_known table d what may = subst (λ (o : Option Opened). IfSome o (λ opened. IsPlaced opened.defs what)) (sym may.knows) may.place

-- a credit is left for the next command
credit_left : (all now so_far i : ℕ) → all ≤ now + so_far → so_far ≤ i → (commands : ℕ) → commands ≤ all → i < commands → 0 < now
credit_left all now so_far i paid few commands credits within = omega (arith, paid, few, credits, within)

taken : {X : Type 0} (xs : List X) (i : ℕ) → length (take i xs) ≤ i
taken xs i = let is = length-take i xs in omega (arith, is)

module _ (table : TableId) (old now : DriverView) (held held' : Variables) (commands : List Command) (i : ℕ) (x : Command) (answers : List Answer)
    (goes : GoesThrough old held (take i commands) answers held' now) (within : i < length commands) where
  fixed : now.fixed ≡ old.fixed
  fixed = ap (λ (d : DriverView). d.fixed) goes.driver

  pub may_next : MayRun table old commands → MayCall table now (get_or commands i x).act
  may_next may = record {
    ready = same_ready table old now (goes_same old now held held' (take i commands) answers goes) may.ready;
    credit = credit_left old.room now.room (length (take i commands)) i goes.few (taken commands i) (length commands) may.credits within;
    opened = may.opened;
    knows = fixed ∙ may.knows;
    place = element (λ (command : Command). NamesPlace (length may.opened.defs) command.act) commands i x may.places within;
  }
