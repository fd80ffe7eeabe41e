-- Runs of two drivers in a stated order.
use Rattle.std.specs.Prelude.{◌≡◌, ℕ, List, [], ◌∷◌, ◌++◌, true, false, Some, pos, refl}
use Rattle.clk_base.specs.declared.command.Act.TheVariants as act
use Rattle.clk_base.specs.declared.command.Answer.{Answer}
use Rattle.clk_base.specs.declared.command.Command.{Command}
use Rattle.clk_base.specs.declared.call.Micro.TheVariants as micro
use Rattle.clk_base.specs.declared.call.Sleeping.TheVariants as call
use Rattle.clk_base.specs.declared.event.Entry.{Entry}
use Rattle.clk_base.specs.declared.event.Event.TheVariants as event
use Rattle.clk_base.specs.declared.event.Reply.TheVariants as reply
use Rattle.clk_base.specs.declared.handle.Policy.TheVariants as policy
use Rattle.clk_model.specs.Chain.{clock_id}
use Rattle.clk_model.specs.Journal.{own, calls, one_after_the_other}
use Rattle.clk_model.specs.Follows.{Follows}
use Rattle.clk_model.specs.Ordered.{Ordered}
use Rattle.clk_model.specs.Examples.Rows.{turns, stated, handle, answers, begins, goes_on, step, ends, boot, gets}
use Rattle.clk_model.specs.Examples.Commands.{on}
use Rattle.clk_model.specs.Examples.Migrations.{migration_start, gb, m, g, before_move, move}
use Rattle.clk_model.specs.Examples.Notices.{one_veto}
use Rattle.clk_model.specs.Examples.OneDriver.{ordinary_path}

-- ---- a move, with enables and disables of another driver in every window

-- `get h m`, `prepare h`, `set h 30000000`
abbrev mover : List Command
mover = on 0 (act.Get (Some m)) ∷ on 0 act.Prepare ∷ on 0 (act.SetRate 30000000) ∷ []

-- `get k g`, `prepare k`, and then enable, disable, enable, disable, enable, disable, enable of k
abbrev enabler : List Command
enabler =
    on 0 (act.Get (Some g)) ∷ on 0 act.Prepare
    ∷ on 0 act.Enable ∷ on 0 act.Disable ∷ on 0 act.Enable ∷ on 0 act.Disable ∷ on 0 act.Enable ∷ on 0 act.Disable ∷ on 0 act.Enable ∷ []

-- `%order` `A A B B A B A A B A B A B A B A B A B A`
abbrev windows : List ℕ
windows = 1 ∷ 1 ∷ 2 ∷ 2 ∷ 1 ∷ 2 ∷ 1 ∷ 1 ∷ 2 ∷ 1 ∷ 2 ∷ 1 ∷ 2 ∷ 1 ∷ 2 ∷ 1 ∷ 2 ∷ 1 ∷ 2 ∷ 1 ∷ []

pub move_ordered : Ordered ([] ∷ mover ∷ enabler ∷ []) windows (before_move ++ move)
move_ordered = (refl, refl, (refl, refl, (refl, refl, (refl, refl, (refl, refl, (refl, refl, (refl, refl, (refl, refl, (refl, refl, (refl, refl, (refl, refl, (refl, refl, (refl, refl, (refl, refl, (refl, refl, (refl, refl, (refl, refl, (refl, refl, (refl, refl, (refl, refl, (refl, refl, (refl, refl, (refl, refl, (refl, refl, (refl, refl, tt)))))))))))))))))))))))))

-- ---- a veto, with an enable of another driver between two notices

-- `get hs s`, `get hw w`, `get hu u`, `notify hw 1 10 accept`, `notify hw 2 5 veto`, `notify hw 3 1 accept`, `notify hu 4 0 accept`, `set hs 50`
abbrev setter : List Command
setter =
    on 0 (act.Get (Some (clock_id 1))) ∷ on 1 (act.Get (Some (clock_id 3))) ∷ on 2 (act.Get (Some (clock_id 2)))
    ∷ on 1 (act.NotifierAdd 1 (pos 10) policy.Accept) ∷ on 1 (act.NotifierAdd 2 (pos 5) policy.VetoAll)
    ∷ on 1 (act.NotifierAdd 3 (pos 1) policy.Accept) ∷ on 2 (act.NotifierAdd 4 (pos 0) policy.Accept)
    ∷ on 0 (act.SetRate 50) ∷ []

-- `get k q`, `prepare k`, `enable k`
abbrev other : List Command
other = on 0 (act.Get (Some (clock_id 4))) ∷ on 0 act.Prepare ∷ on 0 act.Enable ∷ []

-- `%order` `B B A A A A A A A A A B`
abbrev between_notices : List ℕ
between_notices = 2 ∷ 2 ∷ 1 ∷ 1 ∷ 1 ∷ 1 ∷ 1 ∷ 1 ∷ 1 ∷ 1 ∷ 1 ∷ 2 ∷ []

pub one_veto_ordered : Ordered ([] ∷ setter ∷ other ∷ []) between_notices one_veto
one_veto_ordered = (refl, refl, (refl, refl, (refl, refl, (refl, refl, (refl, refl, (refl, refl, (refl, refl, (refl, refl, (refl, refl, (refl, refl, (refl, refl, (refl, refl, (refl, refl, (refl, refl, (refl, refl, (refl, refl, (refl, refl, (refl, refl, (refl, refl, tt)))))))))))))))))))

-- ---- a driver that waits

-- `get h m`, `put j`, `set h 30000000`
abbrev rater : List Command
rater = on 0 (act.Get (Some m)) ∷ on 1 act.Put ∷ on 0 (act.SetRate 30000000) ∷ []

-- `get k g`, `prepare k`
abbrev preparer : List Command
preparer = on 0 (act.Get (Some g)) ∷ on 0 act.Prepare ∷ []

-- the second driver's prepare waits for the change of the first; the first goes on at its turns, and behind the order as the
-- lowest numbered one; what is skipped makes no entry
abbrev waiting : List Entry
waiting =
    boot 6 ++ gets 1 m 0 ∷ gets 2 g 1
    ∷ goes_on 1 (call.SetRate (handle 0 1) 30000000)
    ∷ step 1 (micro.Relink m gb) ∷ step 1 (micro.WriteMux m 1) ∷ step 1 (micro.Visit m) ∷ step 1 (micro.Visit g) ∷ ends 1 reply.Fine
    ∷ begins 2 (call.Prepare (handle 1 2)) reply.Fine
    ∷ []

pub waiting_turns : turns migration_start waiting ≡ stated waiting
unfolding turns
waiting_turns = refl

pub waiting_ordered : Ordered ([] ∷ rater ∷ preparer ∷ []) (1 ∷ 2 ∷ 1 ∷ 2 ∷ 2 ∷ 1 ∷ []) waiting
waiting_ordered = (refl, refl, (refl, refl, (refl, refl, (refl, refl, (refl, refl, (refl, refl, (refl, refl, (refl, refl, (refl, refl, tt)))))))))

-- ---- boot

-- boot's commands come before the order, also where the order names nobody: behind them the one driver makes each event
pub ordinary_path_ordered :
    Ordered
    ((on 0 (act.Probe (clock_id 0)) ∷ on 0 (act.Probe (clock_id 1)) ∷ [])
    ∷ (on 0 (act.Get (Some (clock_id 1))) ∷ on 0 act.Prepare ∷ on 0 act.Enable ∷ on 0 act.GetRate ∷ []) ∷ [])
    [] ordinary_path
ordinary_path_ordered = (refl, refl, (refl, refl, (refl, refl, (refl, refl, tt))))

-- ---- a driver that makes another call in its own change

-- `get a q`, `enable a`, `prepare a`
abbrev hasty : List Command
hasty = on 0 (act.Get (Some (clock_id 1))) ∷ on 0 act.Enable ∷ on 0 act.Prepare ∷ []

-- its prepare begins before its enable and ends behind it
abbrev overlapping : List Entry
overlapping = gets 1 (clock_id 1) 0 ∷ goes_on 1 (call.Prepare (handle 0 1)) ∷ answers 1 (event.Enable 0) reply.Fine ∷ ends 1 reply.Fine ∷ []

-- no order of one thread has that: its enable would have to be a step, since its driver's change is in flight
pub overlapping_disordered : Ordered ([] ∷ hasty ∷ []) [] overlapping → true ≡ false
overlapping_disordered ordered = ordered.2.2.1

-- it isn't one call after the other
pub overlapping_calls : one_after_the_other false (own overlapping 1) ≡ false
overlapping_calls = refl

-- and it doesn't follow the commands: the prepare is listed where it begins, and would have to be the enable
pub overlapping_unfollowed : (a b c : Answer) → Follows hasty (calls overlapping 1) (a ∷ b ∷ c ∷ []) → event.Begin (call.Prepare (handle 0 1)) ≡ event.Enable 0
overlapping_unfollowed a b c follows = follows.2.0
