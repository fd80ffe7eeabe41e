-- Commands of a driver with the calls that they make and their answers.
use Rattle.std.specs.Prelude.{◌≡◌, ℕ, [], ◌∷◌, ◌++◌, Some, None, refl}
use Rattle.clk_base.specs.declared.call.Sleeping.TheVariants as call
use Rattle.clk_base.specs.declared.command.Act.{Act}
use Rattle.clk_base.specs.declared.command.Act.TheVariants as act
use Rattle.clk_base.specs.declared.command.Answer.TheVariants as answer
use Rattle.clk_base.specs.declared.command.Command.{Command}
use Rattle.clk_base.specs.declared.event.Event.{Event}
use Rattle.clk_base.specs.declared.event.Event.TheVariants as event
use Rattle.clk_base.specs.declared.event.Errno.TheVariants as errno
use Rattle.clk_base.specs.declared.event.Reply.{Reply}
use Rattle.clk_base.specs.declared.event.Reply.TheVariants as reply
use Rattle.clk_model.specs.Chain.{clock_id}
use Rattle.clk_model.specs.Journal.{Answered, calls, replay, Legal}
use Rattle.clk_model.specs.Follows.{Follows}
use Rattle.clk_model.specs.Examples.Rows.{turns, handle, answers, goes_on, ends, boot, gets}
use Rattle.clk_model.specs.Examples.OneDriver.{uart_start, ordinary_path}
use Rattle.clk_model.specs.Examples.Plls.{raised}
use Rattle.clk_model.specs.Examples.Notices.{one_veto}

-- a command on the variable of this number
abbrev pub on : ℕ → Act → Command
on v what = record { line = 0; var = Some v; act = what }

abbrev called : Event → Reply → Answered
called what reply = record { call = what; reply = reply }

-- `get a uart_gate`, `prepare a`, `enable a`, `rate a`
pub ordinary_path_follows :
    Follows (on 0 (act.Get (Some (clock_id 1))) ∷ on 0 act.Prepare ∷ on 0 act.Enable ∷ on 0 act.GetRate ∷ [])
    (calls ordinary_path 1)
    (answer.Reply (reply.Handle (handle 0 1)) ∷ answer.Reply reply.Fine ∷ answer.Reply reply.Fine ∷ answer.Reply (reply.Rate 24000000) ∷ [])
ordinary_path_follows = (refl, refl, (refl, refl, (refl, refl, (refl, refl, tt))))

-- a get that is refused leaves its variable empty, so the command behind it is skipped; a get into a full variable is skipped
-- too, and after a put the variable is empty again
pub skipping_follows :
    Follows (on 1 (act.Get None) ∷ on 1 act.Put ∷ on 0 (act.Get (Some (clock_id 1))) ∷ on 0 (act.Get (Some (clock_id 1))) ∷ on 0 act.Put ∷ on 0 act.GetRate ∷ [])
    (called (event.Begin (call.Get None)) (reply.Refused errno.ENOENT)
    ∷ called (event.Begin (call.Get (Some (clock_id 1)))) (reply.Handle (handle 0 1))
    ∷ called (event.Begin (call.Put (handle 0 1))) reply.Fine ∷ [])
    (answer.Reply (reply.Refused errno.ENOENT) ∷ answer.Skip ∷ answer.Reply (reply.Handle (handle 0 1)) ∷ answer.Skip ∷ answer.Reply reply.Fine ∷ answer.Skip ∷ [])
skipping_follows = (refl, refl, (refl, (refl, refl, (refl, (refl, refl, (refl, tt))))))

-- a call that goes on is one call, whose reply is that of its end
pub raised_calls : calls raised 1 ≡ called (event.Begin (call.Prepare (handle 0 1))) reply.Fine ∷ []
raised_calls = refl

-- a call that goes on is listed where it begins, with the reply of its end, also where its driver makes a call of the enable tier meanwhile
pub beside_calls :
    calls (goes_on 1 (call.Prepare (handle 0 1)) ∷ answers 1 (event.Enable 1) reply.Fine ∷ ends 1 (reply.Refused errno.ETIMEDOUT) ∷ []) 1 ≡
    called (event.Begin (call.Prepare (handle 0 1))) (reply.Refused errno.ETIMEDOUT) ∷ called (event.Enable 1) reply.Fine ∷ []
beside_calls = refl

-- the calls of one driver, while another's call goes on
pub enabler_calls : calls one_veto 2 ≡
    called (event.Begin (call.Get (Some (clock_id 4)))) (reply.Handle (handle 0 2))
    ∷ called (event.Begin (call.Prepare (handle 0 2))) reply.Fine
    ∷ called (event.Enable 0) reply.Fine ∷ []
enabler_calls = refl

-- the slot of a handle that is given may be any
pub any_slot :
    Legal (replay uart_start (boot 2)) (answers 1 (event.Begin (call.Get (Some (clock_id 1)))) (reply.Handle (record { number = 0; slot = 7; driver = 1 })) ∷ [])
unfolding turns
any_slot = (replay uart_start (boot 2 ++ gets 1 (clock_id 1) 0 ∷ []), refl, tt)
