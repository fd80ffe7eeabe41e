-- The first words of commands.
use Rattle.std.specs.Prelude.{ℕ, List, Option, Some, None, codes, if◌then◌else◌}
use Rattle.std.specs.Str.{bytes_eq}
use Rattle.clk_base.specs.declared.command.Act.{Act}
use Rattle.clk_base.specs.declared.command.Act.TheVariants as call
use Rattle.drv_scripts.specs.declared.verb.RateVerb.{RateVerb}
use Rattle.drv_scripts.specs.declared.verb.RateVerb.TheVariants.{Round, Set, SetExclusive}
use Rattle.drv_scripts.specs.declared.verb.Verb.{Verb}
use Rattle.drv_scripts.specs.declared.verb.Verb.TheVariants.{Acts, Get, Rated, Range, Reparent, Notify, Unnotify, Probe, Sweep}

-- the act of a command with this rate
unfoldable pub rated_act : RateVerb → ℕ → Act
rated_act Round rate = call.RoundRate rate
rated_act Set rate = call.SetRate rate
rated_act SetExclusive rate = call.SetRateExclusive rate

-- the verb that a first word is, if it is one
unfoldable pub verb_of : List ℕ → Option Verb
verb_of word =
    if bytes_eq word (codes "put") then Some (Acts call.Put)
    else if bytes_eq word (codes "prepare") then Some (Acts call.Prepare)
    else if bytes_eq word (codes "unprepare") then Some (Acts call.Unprepare)
    else if bytes_eq word (codes "enable") then Some (Acts call.Enable)
    else if bytes_eq word (codes "disable") then Some (Acts call.Disable)
    else if bytes_eq word (codes "running") then Some (Acts call.Running)
    else if bytes_eq word (codes "rate") then Some (Acts call.GetRate)
    else if bytes_eq word (codes "parent") then Some (Acts call.GetParent)
    else if bytes_eq word (codes "lock") then Some (Acts call.ExclusiveGet)
    else if bytes_eq word (codes "unlock") then Some (Acts call.ExclusivePut)
    else if bytes_eq word (codes "get") then Some Get
    else if bytes_eq word (codes "round") then Some (Rated Round)
    else if bytes_eq word (codes "set") then Some (Rated Set)
    else if bytes_eq word (codes "setx") then Some (Rated SetExclusive)
    else if bytes_eq word (codes "range") then Some Range
    else if bytes_eq word (codes "reparent") then Some Reparent
    else if bytes_eq word (codes "notify") then Some Notify
    else if bytes_eq word (codes "unnotify") then Some Unnotify
    else if bytes_eq word (codes "probe") then Some Probe
    else if bytes_eq word (codes "sweep") then Some Sweep
    else None
