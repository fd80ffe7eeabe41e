-- The step that words of a line of a journal tell, if they tell one.
use Rattle.std.specs.Prelude.{List, [], ◌∷◌, Bool, true, false, Option, Some, None, codes, if◌then◌else◌, option_and_then}
use Rattle.std.specs.Option.{option_map}
use Rattle.std.specs.Str.{bytes_eq}
use Rattle.clk_base.specs.declared.call.Micro.{Micro}
use Rattle.clk_base.specs.declared.call.Micro.TheVariants as micro
use Rattle.clk_base.specs.declared.call.Notice.{Notice}
use Rattle.clk_base.specs.declared.call.Notice.TheVariants as notice
use Rattle.clk_base.specs.declared.clock.ClockId.{ClockId}
use Rattle.clk_base.specs.declared.event.Event.{Event}
use Rattle.clk_base.specs.declared.event.Event.TheVariants as event
use Rattle.clk_base.specs.Description.{Description, clock_named}
use Rattle.clk_model.specs.Text.{Word}
use Rattle.clk_journal.specs.ReadNumbers.{small, large}

-- a step of one clock
unfoldable pub clock_step : Word → ClockId → Option Micro
clock_step verb c =
    if bytes_eq verb (codes "raise") then Some (micro.Raise c)
    else if bytes_eq verb (codes "fall") then Some (micro.Fall c)
    else if bytes_eq verb (codes "hold-prepare") then Some (micro.HoldPrepare c)
    else if bytes_eq verb (codes "hold-enable") then Some (micro.HoldEnable c)
    else if bytes_eq verb (codes "drop-enable") then Some (micro.DropEnable c)
    else if bytes_eq verb (codes "drop-prepare") then Some (micro.DropPrepare c)
    else if bytes_eq verb (codes "lower") then Some (micro.Lower c)
    else if bytes_eq verb (codes "visit") then Some (micro.Visit c)
    else if bytes_eq verb (codes "register") then Some (micro.Register c)
    else if bytes_eq verb (codes "settle") then Some (micro.Settle c)
    else if bytes_eq verb (codes "close") then Some (micro.Close c)
    else if bytes_eq verb (codes "unpower") then Some (micro.Unpower c)
    else None

-- what a bank answered to a poll
unfoldable pub poll_answer : Word → Option Bool
poll_answer w =
    if bytes_eq w (codes "yes") then Some true
    else if bytes_eq w (codes "no") then Some false
    else None

-- a step of a clock and another word
unfoldable pub middle_step : Description → Word → ClockId → Word → Option Event
middle_step defs verb c w =
    if bytes_eq verb (codes "poll") then option_map (λ yes. event.Step (micro.Poll c) (Some yes)) (poll_answer w)
    else if bytes_eq verb (codes "relink") then option_map (λ p. event.Step (micro.Relink c p) None) (clock_named defs w)
    else if bytes_eq verb (codes "write-mux") then option_map (λ n. event.Step (micro.WriteMux c n) None) (small w)
    else None

-- what a notice before a change answers
unfoldable pub pre_answer : Word → Option Notice
pre_answer w =
    if bytes_eq w (codes "accept") then Some (notice.Pre false)
    else if bytes_eq w (codes "veto") then Some (notice.Pre true)
    else None

-- a kind of notice whose numbers are the last words
unfoldable pub late_kind : Word → Option Notice
late_kind verb =
    if bytes_eq verb (codes "abort") then Some notice.Abort
    else if bytes_eq verb (codes "post") then Some notice.Post
    else None

-- a kind of notice, by its first word and those after its numbers
unfoldable pub notice_kind : Word → List Word → Option Notice
notice_kind verb [] = late_kind verb
notice_kind verb (w ∷ []) = if bytes_eq verb (codes "pre") then pre_answer w else None
notice_kind verb _ = None

-- a notice of this kind about a clock
unfoldable pub notice_step : Notice → ClockId → Word → Word → Word → Option Event
notice_step kind c id old new =
    option_and_then (λ i. option_and_then (λ x. option_map (λ y. event.Step (micro.Notify kind c i x y) None) (large new)) (large old)) (small id)

-- a step of a clock that was found, or was not
unfoldable pub short_step : Word → Option ClockId → Option Event
short_step verb None = None
short_step verb (Some c) = option_map (λ m. event.Step m None) (clock_step verb c)

-- the same with another word
unfoldable pub longer_step : Description → Word → Word → Option ClockId → Option Event
longer_step defs verb w None = None
longer_step defs verb w (Some c) = middle_step defs verb c w

-- a notice of a kind, if it is one, about a clock that was found, or was not
unfoldable pub told_step : Option Notice → Option ClockId → Word → Word → Word → Option Event
told_step None c id old new = None
told_step (Some kind) None id old new = None
told_step (Some kind) (Some c) id old new = notice_step kind c id old new

-- a step, with what the bank answered to a poll
unfoldable pub read_step : Description → List Word → Option Event
read_step defs (verb ∷ []) = if bytes_eq verb (codes "end") then Some (event.Step micro.End None) else None
read_step defs (verb ∷ name ∷ []) = short_step verb (clock_named defs name)
read_step defs (verb ∷ name ∷ w ∷ []) = longer_step defs verb w (clock_named defs name)
read_step defs (verb ∷ name ∷ id ∷ old ∷ new ∷ rest) = told_step (notice_kind verb rest) (clock_named defs name) id old new
read_step defs _ = None
