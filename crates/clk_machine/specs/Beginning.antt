-- How a call begins as it was decided over a copy of the prepare tier.
use Rattle.std.specs.Prelude.{◌≡◌, ℕ, true, is_some}
use Rattle.clk_base.specs.declared.call.Sleeping.{Sleeping}
use Rattle.clk_base.specs.declared.event.Event.TheVariants as event
use Rattle.clk_base.specs.declared.event.Reply.{Reply}
use Rattle.clk_base.specs.declared.event.Turn.{Turn}
use Rattle.clk_base.specs.declared.event.Turn.TheVariants as turn
use Rattle.change_walk.specs.Given.{Script}
use Rattle.clk_model.specs.Begin.{begun}
use Rattle.clk_model.specs.Journal.{slotless}
use Rattle.clk_model.specs.State.{State}
use Rattle.clk_model.specs.Step.{sets_parent}
use Rattle.clk_tree.specs.declared.plan.Plan.{Plan}
use Rattle.clk_tree.specs.Plans.{AreThere}
use Rattle.clk_machine.specs.Copied.{GoesOnBy}
use Rattle.clk_machine.specs.Deciding.{handle_of}
use Rattle.clk_machine.specs.Parts.{Parts, own_in}
use Rattle.clk_machine.specs.Readied.{Readied}
use Rattle.clk_machine.specs.Readying.{BeginsSo}
use Rattle.clk_machine.specs.Sound.{IsSound}
use Rattle.clk_machine.specs.Stands.{Stands, Leads}

-- from each state in which the call is answered so, the machine comes to one that the new parts stand for
abbrev pub LeadsAnswered : Parts → ℕ → Sleeping → Reply → Parts → Type 0
LeadsAnswered old d what r new =
    (s : State) → Stands old s → IsSound old.window.size s → (begun s d what).1 ≡ slotless (turn.Done r) → Leads s d (event.Begin what) (turn.Done r) new

-- a plan can be gone on with by a call, as far as the parts tell it: the handle is the driver's own, and the plan is of such a call, over
-- registered clocks
pub record IsSuited (m : Parts) (d : ℕ) (what : Sleeping) (plan : Plan) : Type 0 where
  pub own : is_some (own_in m.table.handles d (handle_of what)) ≡ true
  pub set_parent : plan.set_parent ≡ sets_parent what
  pub there : AreThere m.tree.clocks plan.rates

-- in each sound state that parts stand for a call goes on with this plan
abbrev pub AllGoOn : Parts → ℕ → Sleeping → Plan → Type 0
AllGoOn m d what plan = (s : State) → Stands m s → IsSound m.window.size s → (script : Script) × GoesOnBy s d what plan script

-- in each state in which a call goes on with this plan it begins as it was made ready
abbrev pub BeginsAsPlanned : Parts → ℕ → Sleeping → Plan → Readied → Type 0
BeginsAsPlanned m d what plan made =
    (s : State) (script : Script) → Stands m s → IsSound m.window.size s → GoesOnBy s d what plan script → BeginsSo s d (handle_of what) what made

-- from each such state the machine comes to one that the new parts stand for
abbrev pub LeadsPlanned : Parts → ℕ → Sleeping → Plan → Turn → Parts → Type 0
LeadsPlanned old d what plan t new =
    (s : State) (script : Script) → Stands old s → IsSound old.window.size s → GoesOnBy s d what plan script → Leads s d (event.Begin what) t new
