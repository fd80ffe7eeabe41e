-- Texts of journals, answers and registers, computed.
use Rattle.std.specs.Prelude.{◌≡◌, List, [], ◌∷◌, ◌++◌, true, false, Some, None, map, neg_ℤ, pos, codes, refl}
use Rattle.std.specs.Fmt.{digits}
use Rattle.clk_base.specs.declared.call.Micro.TheVariants as micro
use Rattle.clk_base.specs.declared.call.Notice.TheVariants as notice
use Rattle.clk_base.specs.declared.call.Sleeping.TheVariants as call
use Rattle.clk_base.specs.declared.command.Answer.{Answer}
use Rattle.clk_base.specs.declared.command.Answer.TheVariants as answer
use Rattle.clk_base.specs.declared.event.Entry.{Entry}
use Rattle.clk_base.specs.declared.event.Event.TheVariants as event
use Rattle.clk_base.specs.declared.event.Errno.TheVariants as errno
use Rattle.clk_base.specs.declared.event.Reply.{Reply}
use Rattle.clk_base.specs.declared.event.Reply.TheVariants as reply
use Rattle.clk_base.specs.declared.event.Turn.TheVariants as turn
use Rattle.clk_base.specs.declared.handle.Policy.TheVariants as policy
use Rattle.clk_model.specs.Chain.{clock_id}
use Rattle.clk_model.specs.Text.{Word, reply_text, answers_text, journal_text, registers_text}
use Rattle.clk_model.specs.Examples.Rows.{handle, entry, answers, step, poll, ends}
use Rattle.clk_model.specs.Examples.OneDriver.{uart, ordinary_path}

abbrev names : List Word
names = codes "boot" ∷ codes "A" ∷ []

-- each entry is a line with its number, its driver, its event and its turn
pub ordinary_path_text : journal_text uart names ordinary_path ≡
    codes "1 boot begin probe osc = ok\n"
    ++ codes "2 boot begin probe uart_gate = ok\n"
    ++ codes "3 A begin get uart_gate = handle 0\n"
    ++ codes "4 A begin prepare 0 = ok\n"
    ++ codes "5 A enable 0 = ok\n"
    ++ codes "6 A begin rate 0 = rate 24000000\n"
unfolding digits
ordinary_path_text = refl

-- the steps of a call, with the rates of a notice and the answer of a poll
abbrev steps : List Entry
steps =
    entry 1 (event.Begin (call.SetRate (handle 3 1) 150000000)) turn.Going
    ∷ step 1 (micro.Notify (notice.Pre false) (clock_id 1) 1 200000000 150000000)
    ∷ step 1 (micro.Notify (notice.Pre true) (clock_id 1) 2 200000000 150000000)
    ∷ step 1 (micro.Notify notice.Abort (clock_id 1) 1 200000000 150000000)
    ∷ step 1 (micro.WriteMux (clock_id 1) 1)
    ∷ poll 1 (clock_id 1) false
    ∷ ends 1 (reply.Refused errno.EBUSY)
    ∷ answers 1 (event.Begin (call.Get None)) (reply.Refused errno.ENOENT)
    ∷ answers 1 (event.Begin (call.NotifierAdd (handle 3 1) 7 (neg_ℤ (pos 5)) (policy.VetoAbove 100))) reply.Fine
    ∷ answers 1 (event.Begin (call.GetParent (handle 3 1))) (reply.Clock None)
    ∷ []

pub steps_text : journal_text uart names steps ≡
    codes "1 A begin set 3 150000000 = going\n"
    ++ codes "2 A step pre uart_gate 1 200000000 150000000 accept = going\n"
    ++ codes "3 A step pre uart_gate 2 200000000 150000000 veto = going\n"
    ++ codes "4 A step abort uart_gate 1 200000000 150000000 = going\n"
    ++ codes "5 A step write-mux uart_gate 1 = going\n"
    ++ codes "6 A step poll uart_gate no = going\n"
    ++ codes "7 A step end = err EBUSY\n"
    ++ codes "8 A begin get - = err ENOENT\n"
    ++ codes "9 A begin notify 3 7 -5 above 100 = ok\n"
    ++ codes "10 A begin parent 3 = clock -\n"
unfolding digits
steps_text = refl

-- answers are numbered from 1, the skipped ones too
abbrev some_answers : List Answer
some_answers = answer.Reply (reply.Handle (handle 0 1)) ∷ answer.Skip ∷ answer.Reply (reply.Rate 24000000) ∷ answer.Reply (reply.Refused errno.EPROBE_DEFER) ∷ []

pub some_answers_text : answers_text uart (codes "A") some_answers ≡
    codes "A.1 handle 0\n" ++ codes "A.2 skip\n" ++ codes "A.3 rate 24000000\n" ++ codes "A.4 err EPROBE_DEFER\n"
unfolding digits
some_answers_text = refl

-- a word of 0 has no line
pub some_registers_text : registers_text (8 ∷ 0 ∷ 0x800000c8 ∷ []) ≡ codes "reg 0 0x00000008\n" ++ codes "reg 2 0x800000c8\n"
unfolding digits
some_registers_text = refl

-- each kind of reply
abbrev some_replies : List Reply
some_replies =
    reply.Fine ∷ reply.Warn ∷ reply.Yes ∷ reply.No ∷ reply.Handle (handle 12 1) ∷ reply.Rate 0 ∷ reply.Clock None ∷ reply.Clock (Some (clock_id 1))
    ∷ reply.Refused errno.ETIMEDOUT ∷ []

pub some_replies_text : map (reply_text uart) some_replies ≡
    codes "ok" ∷ codes "warn" ∷ codes "yes" ∷ codes "no" ∷ codes "handle 12" ∷ codes "rate 0" ∷ codes "clock -" ∷ codes "clock uart_gate"
    ∷ codes "err ETIMEDOUT" ∷ []
unfolding digits
some_replies_text = refl
