-- Where events are defined.
use Rattle.std.specs.Prelude.{◌≡◌, [], ◌∷◌, ◌++◌, true, false, Some, None, is_some, refl}
use Rattle.clk_base.specs.declared.call.Micro.TheVariants as micro
use Rattle.clk_base.specs.declared.call.Sleeping.TheVariants as call
use Rattle.clk_base.specs.declared.event.Event.TheVariants as event
use Rattle.clk_model.specs.State.{State}
use Rattle.clk_model.specs.Machine.{next}
use Rattle.clk_model.specs.Journal.{opening, replay}
use Rattle.clk_model.specs.Examples.Rows.{turns, handle, goes_on, step, boot}
use Rattle.clk_model.specs.Examples.OneDriver.{uart}
use Rattle.clk_model.specs.Examples.Migrations.{migration_start, gb, g, before_move}
use Rattle.clk_model.specs.Examples.Plls.{board_start, p, start}
use Rattle.clk_model.specs.Examples.Plls as plls

-- the first driver's change of rate is in flight, and its first step is a raise
abbrev in_flight : State
in_flight = replay migration_start (before_move ++ goes_on 1 (call.SetRate (handle 0 1) 30000000) ∷ [])

-- the prepare of a PLL's gate is in flight, and its first step is a poll
abbrev polling : State
polling = replay board_start (start ++ goes_on 1 (call.Prepare (handle 0 1)) ∷ step 1 (micro.Raise plls.g) ∷ [])

-- no call begins while another goes on, but an enable is defined then
pub no_second_call : is_some (next in_flight 2 (event.Begin (call.GetRate (handle 1 2)))) ≡ false
unfolding turns
no_second_call = refl

pub enable_in_flight : is_some (next in_flight 2 (event.Enable 1)) ≡ true
unfolding turns
enable_in_flight = refl

-- a step is the first one that is left, of the driver whose call goes on
pub own_first_step : is_some (next in_flight 1 (event.Step (micro.Raise gb) None)) ≡ true
unfolding turns
own_first_step = refl

pub no_other_step : is_some (next in_flight 1 (event.Step (micro.HoldPrepare gb) None)) ≡ false
unfolding turns
no_other_step = refl

pub no_other_clock : is_some (next in_flight 1 (event.Step (micro.Raise g) None)) ≡ false
unfolding turns
no_other_clock = refl

pub no_other_driver : is_some (next in_flight 2 (event.Step (micro.Raise gb) None)) ≡ false
unfolding turns
no_other_driver = refl

-- a poll has an answer, and no other step has one
pub poll_answered : is_some (next polling 1 (event.Step (micro.Poll p) (Some true))) ≡ true
unfolding turns
poll_answered = refl

pub poll_unanswered : is_some (next polling 1 (event.Step (micro.Poll p) None)) ≡ false
unfolding turns
poll_unanswered = refl

pub raise_answered : is_some (next in_flight 1 (event.Step (micro.Raise gb) (Some true))) ≡ false
unfolding turns
raise_answered = refl

-- no step is defined where no call goes on, and no call where no credit is left
pub no_step_at_rest : is_some (next (replay migration_start before_move) 1 (event.Step micro.End None)) ≡ false
unfolding turns
no_step_at_rest = refl

pub no_credit_left : is_some (next (replay (opening uart (0 ∷ []) false 2) (boot 2)) 1 (event.Begin (call.Get None))) ≡ false
unfolding turns
no_credit_left = refl

pub last_credit : is_some (next (replay (opening uart (0 ∷ []) false 3) (boot 2)) 1 (event.Begin (call.Get None))) ≡ true
unfolding turns
last_credit = refl

pub no_credit_for_enable : is_some (next (replay (opening uart (0 ∷ []) false 2) (boot 2)) 1 (event.Running 0)) ≡ false
unfolding turns
no_credit_for_enable = refl
