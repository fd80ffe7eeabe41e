-- The entry that words of a line of a journal tell, if they tell one: its event, its turn and its driver.
use Rattle.std.specs.Prelude.{ℕ, ◌&&◌, ◌+◌, ◌-◌, nat_lt, List, [], ◌∷◌, decimal, take, drop, length, slice_index_or, Bool, Option, Some, None, codes, if◌then◌else◌, option_and_then}
use Rattle.std.specs.Option.{option_map}
use Rattle.std.specs.List.{position}
use Rattle.std.specs.Str.{bytes_eq}
use Rattle.clk_base.specs.declared.clock.ClockId.{ClockId}
use Rattle.clk_base.specs.declared.event.Entry.{Entry}
use Rattle.clk_base.specs.declared.event.Errno.{Errno}
use Rattle.clk_base.specs.declared.event.Errno.TheVariants as errno
use Rattle.clk_base.specs.declared.event.Event.{Event}
use Rattle.clk_base.specs.declared.event.Event.TheVariants as event
use Rattle.clk_base.specs.declared.event.Reply.{Reply}
use Rattle.clk_base.specs.declared.event.Reply.TheVariants as reply
use Rattle.clk_base.specs.declared.event.Turn.{Turn}
use Rattle.clk_base.specs.declared.event.Turn.TheVariants as turn
use Rattle.clk_base.specs.Description.{Description, clock_named}
use Rattle.clk_model.specs.Text.{Word}
use Rattle.clk_journal.specs.ReadNumbers.{small, large, handle}
use Rattle.clk_journal.specs.ReadCalls.{read_call}
use Rattle.clk_journal.specs.ReadSteps.{read_step}
use Rattle.clk_journal.specs.Told.{is_absent}

-- an event of the enable tier
unfoldable pub tier_event : Word → ℕ → Option Event
tier_event verb n =
    if bytes_eq verb (codes "enable") then Some (event.Enable n)
    else if bytes_eq verb (codes "disable") then Some (event.Disable n)
    else if bytes_eq verb (codes "running") then Some (event.Running n)
    else None

-- an event of two words
unfoldable pub other_event : Word → List Word → Option Event
other_event verb (w ∷ []) = option_and_then (tier_event verb) (small w)
other_event verb _ = None

-- an event with this first word
unfoldable pub verb_event : Description → Bool → ℕ → Word → List Word → Option Event
verb_event defs absent d verb rest =
    if bytes_eq verb (codes "begin") then option_map (λ what. event.Begin what) (read_call defs absent d rest)
    else if bytes_eq verb (codes "step") then read_step defs rest
    else other_event verb rest

-- an event
unfoldable pub read_event : Description → Bool → ℕ → List Word → Option Event
read_event defs absent d [] = None
read_event defs absent d (verb ∷ rest) = verb_event defs absent d verb rest

-- a refusal
unfoldable pub read_errno : Word → Option Errno
read_errno w =
    if bytes_eq w (codes "EPERM") then Some errno.EPERM
    else if bytes_eq w (codes "ENOENT") then Some errno.ENOENT
    else if bytes_eq w (codes "EBUSY") then Some errno.EBUSY
    else if bytes_eq w (codes "EEXIST") then Some errno.EEXIST
    else if bytes_eq w (codes "EINVAL") then Some errno.EINVAL
    else if bytes_eq w (codes "ENOSPC") then Some errno.ENOSPC
    else if bytes_eq w (codes "ESHUTDOWN") then Some errno.ESHUTDOWN
    else if bytes_eq w (codes "ETIMEDOUT") then Some errno.ETIMEDOUT
    else if bytes_eq w (codes "EPROBE_DEFER") then Some errno.EPROBE_DEFER
    else None

-- a turn of one word
unfoldable pub plain_turn : Word → Option Turn
plain_turn w =
    if bytes_eq w (codes "going") then Some turn.Going
    else if bytes_eq w (codes "ok") then Some (turn.Done reply.Fine)
    else if bytes_eq w (codes "warn") then Some (turn.Done reply.Warn)
    else if bytes_eq w (codes "yes") then Some (turn.Done reply.Yes)
    else if bytes_eq w (codes "no") then Some (turn.Done reply.No)
    else None

-- a clock that answers a call, by the clock that has the name
unfoldable pub named_reply : Word → Option ClockId → Option Reply
named_reply w (Some c) = Some (reply.Clock (Some c))
named_reply w None = if bytes_eq w (codes "-") then Some (reply.Clock None) else None

-- a reply of two words
unfoldable pub told_reply_of : Description → ℕ → Word → Word → Option Reply
told_reply_of defs d verb w =
    if bytes_eq verb (codes "handle") then option_map (λ h. reply.Handle h) (handle d w)
    else if bytes_eq verb (codes "rate") then option_map (λ n. reply.Rate n) (large w)
    else if bytes_eq verb (codes "clock") then named_reply w (clock_named defs w)
    else if bytes_eq verb (codes "err") then option_map (λ e. reply.Refused e) (read_errno w)
    else None

-- the driver of this name
abbrev pub driver_named : List Word → Word → Option ℕ
driver_named names w = position (λ name. bytes_eq w name) names

-- what a turn's words tell
unfoldable pub read_turn : Description → ℕ → List Word → Option Turn
read_turn defs d (w ∷ []) = plain_turn w
read_turn defs d (verb ∷ w ∷ []) = option_map (λ r. turn.Done r) (told_reply_of defs d verb w)
read_turn defs d _ = None

-- the place of the sign `=` before the last word or the last two
unfoldable pub sign_at : List Word → Option ℕ
sign_at ws =
    let n = length ws in
    if nat_lt 1 n && bytes_eq (slice_index_or ws (n - 2) []) (codes "=") then Some (n - 2)
    else if nat_lt 2 n && bytes_eq (slice_index_or ws (n - 3) []) (codes "=") then Some (n - 3)
    else None

-- the entry of a driver with the words of an event and this turn
abbrev pub with_turn : Description → ℕ → List Word → Turn → Option Entry
with_turn defs d ws t = option_map (λ e. record { driver = d; event = e; turn = t }) (read_event defs (is_absent t) d ws)

-- the entry of a driver with the words of an event and of a turn
unfoldable pub of_parts : Description → ℕ → List Word → List Word → Option Entry
of_parts defs d es ts = option_and_then (with_turn defs d es) (read_turn defs d ts)

-- the entry of a driver with these words after its name
unfoldable pub of_driver : Description → List Word → ℕ → Option Entry
of_driver defs ws d = option_and_then (λ at. of_parts defs d (take at ws) (drop (at + 1) ws)) (sign_at ws)

-- the entry with this number whose line has these words
unfoldable pub read_words : Description → List Word → ℕ → List Word → Option Entry
read_words defs names number (first ∷ driver ∷ rest) =
    if bytes_eq first (decimal number) then option_and_then (of_driver defs rest) (driver_named names driver) else None
read_words defs names number _ = None
