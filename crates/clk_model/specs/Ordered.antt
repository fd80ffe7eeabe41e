-- In which order drivers make their events on one thread.
use Rattle.std.specs.Prelude.{◌≡◌, ℕ, ◌-◌, ◌==◌, ◌||◌, List, [], ◌∷◌, Bool, true, false, Option, Some, None, map, length, find, is_none, if◌then◌else◌, option_map, slice_get, slice_set}
use Rattle.std.specs.Option.{option_map_or}
use Rattle.clk_base.specs.declared.command.Act.{Act}
use Rattle.clk_base.specs.declared.command.Act.TheVariants as act
use Rattle.clk_base.specs.declared.command.Command.{Command}
use Rattle.clk_base.specs.declared.event.Entry.{Entry}
use Rattle.clk_base.specs.declared.event.Reply.{Reply}
use Rattle.clk_base.specs.declared.event.Turn.{Turn}
use Rattle.clk_base.specs.declared.event.Turn.TheVariants as turn
use Rattle.clk_model.specs.Lists.{is_at, count_from}
use Rattle.clk_model.specs.Tier.{is_step}
use Rattle.clk_model.specs.Follows.{Variables, no_handles, handle_of, call_of, held_after}

-- how far a driver has come: what its variables hold, and the commands that aren't answered yet
pub record Progress : Type 0 where
  pub held : Variables
  pub left : List Command

-- a driver that has taken no command
abbrev pub at_start : List Command → Progress
at_start commands = record { held = no_handles commands; left = commands }

-- the commands from the first one on that isn't skipped
abbrev pub unskipped : Variables → List Command → List Command
unskipped held [] = []
unskipped held (c ∷ cs) = if is_none (call_of (handle_of held c) c.act) then unskipped held cs else c ∷ cs

-- whether an act never sleeps
abbrev pub is_atomic : Act → Bool
is_atomic act.Enable = true
is_atomic act.Disable = true
is_atomic act.Running = true
is_atomic _ = false

-- whether the first of these commands can be taken: one that may sleep waits while a change is in flight
abbrev pub can_take : Option ℕ → List Command → Bool
can_take going [] = false
can_take going (c ∷ cs) = is_atomic c.act || is_none going

-- whether a driver can make an event, where going is the driver whose change is in flight: a step of its own change, or its
-- next command
abbrev pub can_move : Option ℕ → ℕ → Progress → Bool
can_move going d p = is_at d going || can_take going (unskipped p.held p.left)

-- whether the driver with this number can make an event
abbrev pub driver_can_move : List Progress → Option ℕ → ℕ → Bool
driver_can_move drivers going d = option_map_or (can_move going d) (slice_get drivers d) false

-- the driver that makes the next event, with what is then left of the order: the first of the order that can make one, and
-- behind the order the lowest numbered one that can; boot has the number 0 and makes none
abbrev pub next_driver : List Progress → Option ℕ → List ℕ → Option (ℕ × List ℕ)
next_driver drivers going [] = option_map (λ d. (d, [])) (find (driver_can_move drivers going) (count_from 1 (length drivers - 1)))
next_driver drivers going (d ∷ order) = if driver_can_move drivers going d then Some (d, order) else next_driver drivers going order

-- the driver whose change is in flight after an entry
abbrev pub going_after : Option ℕ → Entry → Option ℕ
going_after going e = after_turn e.turn where
  after_turn : Turn → Option ℕ
  after_turn turn.Going = Some e.driver
  after_turn (turn.Done r) = if is_at e.driver going then None else going

-- a driver whose next command was answered
abbrev pub answered_first : Progress → List Command → Reply → Progress
answered_first p [] r = p
answered_first p (c ∷ cs) r = record { held = held_after p.held c c.act r; left = cs }

-- a driver after an entry of it: where the entry is a reply, its next command is answered
abbrev pub progress_after : Progress → Turn → Progress
progress_after p turn.Going = p
progress_after p (turn.Done r) = answered_first p (unskipped p.held p.left) r

-- the drivers after an entry
abbrev pub drivers_after : List Progress → Entry → List Progress
drivers_after drivers e = option_map_or (λ p. slice_set drivers e.driver (progress_after p e.turn)) (slice_get drivers e.driver) drivers

-- the entry is of this driver, it is a step exactly where the change in flight is its driver's, and with what is left of the order the rest is said
abbrev pub NextOrdered : (List ℕ → Type 0) → Option ℕ → Option (ℕ × List ℕ) → Entry → Type 0
NextOrdered rest going None e = ⊥
NextOrdered rest going (Some x) e = (e.driver ≡ x.0) × (is_at e.driver going ≡ is_step e.event) × rest x.1

-- the driver of each entry is the one that makes the next event, given the entries before it
abbrev pub OrderedFrom : List Progress → Option ℕ → List ℕ → List Entry → Type 0
OrderedFrom drivers going order [] = Unit {0}
OrderedFrom drivers going order (e ∷ es) =
    NextOrdered (λ left. OrderedFrom (drivers_after drivers e) (going_after going e) left es) going (next_driver drivers going order) e

-- the entries behind boot's
abbrev pub after_boot : List Entry → List Entry
after_boot [] = []
after_boot (e ∷ es) = if e.driver == 0 then after_boot es else e ∷ es

-- the entries behind boot's stand in the order that the drivers' commands, boot's first, and the stated order give
abbrev pub Ordered : List (List Command) → List ℕ → List Entry → Type 0
Ordered commands order journal = OrderedFrom (map at_start commands) None order (after_boot journal)
