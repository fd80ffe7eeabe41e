-- The texts of replies, answers, journal entries and register lines, as bytes.
use Rattle.std.specs.Prelude.{ℕ, zero, suc, ◌+◌, ◌/◌, ◌%◌, ◌==◌, List, [], ◌∷◌, ◌++◌, Bool, true, false, Option, Some, None, codes, decimal, if◌then◌else◌, slice_index_or}
use Rattle.std.specs.Fmt.{digit_glyph, signed_decimal}
use Rattle.clk_base.specs.declared.call.Micro.{Micro}
use Rattle.clk_base.specs.declared.call.Micro.TheVariants as micro
use Rattle.clk_base.specs.declared.call.Notice.TheVariants as notice
use Rattle.clk_base.specs.declared.call.Sleeping.{Sleeping}
use Rattle.clk_base.specs.declared.call.Sleeping.TheVariants as call
use Rattle.clk_base.specs.declared.clock.ClockId.{ClockId}
use Rattle.clk_base.specs.declared.command.Answer.{Answer}
use Rattle.clk_base.specs.declared.command.Answer.TheVariants as answer
use Rattle.clk_base.specs.declared.event.Entry.{Entry}
use Rattle.clk_base.specs.declared.event.Errno.{Errno}
use Rattle.clk_base.specs.declared.event.Errno.TheVariants as errno
use Rattle.clk_base.specs.declared.event.Event.{Event}
use Rattle.clk_base.specs.declared.event.Event.TheVariants as event
use Rattle.clk_base.specs.declared.event.Reply.{Reply}
use Rattle.clk_base.specs.declared.event.Reply.TheVariants as reply
use Rattle.clk_base.specs.declared.event.Turn.{Turn}
use Rattle.clk_base.specs.declared.event.Turn.TheVariants as turn
use Rattle.clk_base.specs.declared.handle.Policy.{Policy}
use Rattle.clk_base.specs.declared.handle.Policy.TheVariants as policy
use Rattle.clk_base.specs.Description.{Description, name_of}
use Rattle.reg_bank.specs.Registers.{Registers}

-- a word of a text
abbrev pub Word : Type 0
Word = List ℕ

-- words with a space between each two
abbrev pub spaced : List Word → List ℕ
spaced [] = []
spaced (w ∷ []) = w
spaced (w ∷ v ∷ ws) = w ++ codes " " ++ spaced (v ∷ ws)

-- words as a line: with spaces between them and a line end behind
abbrev pub line : List Word → List ℕ
line ws = spaced ws ++ codes "\n"

-- ---- replies

-- the name of a refusal
abbrev pub errno_name : Errno → Word
errno_name errno.EPERM = codes "EPERM"
errno_name errno.ENOENT = codes "ENOENT"
errno_name errno.EBUSY = codes "EBUSY"
errno_name errno.EEXIST = codes "EEXIST"
errno_name errno.EINVAL = codes "EINVAL"
errno_name errno.ENOSPC = codes "ENOSPC"
errno_name errno.ESHUTDOWN = codes "ESHUTDOWN"
errno_name errno.ETIMEDOUT = codes "ETIMEDOUT"
errno_name errno.EPROBE_DEFER = codes "EPROBE_DEFER"

-- the name of a clock, and a dash where there is none
abbrev pub clock_word : Description → Option ClockId → Word
clock_word defs None = codes "-"
clock_word defs (Some c) = name_of defs c.0

-- the words of a reply
abbrev pub reply_words : Description → Reply → List Word
reply_words defs reply.Fine = codes "ok" ∷ []
reply_words defs reply.Warn = codes "warn" ∷ []
reply_words defs reply.Yes = codes "yes" ∷ []
reply_words defs reply.No = codes "no" ∷ []
reply_words defs (reply.Handle h) = codes "handle" ∷ decimal h.number ∷ []
reply_words defs (reply.Rate r) = codes "rate" ∷ decimal r ∷ []
reply_words defs (reply.Clock c) = codes "clock" ∷ clock_word defs c ∷ []
reply_words defs (reply.Refused e) = codes "err" ∷ errno_name e ∷ []

-- the text of a reply
abbrev pub reply_text : Description → Reply → List ℕ
reply_text defs r = spaced (reply_words defs r)

-- ---- answers

-- the words of an answer: a reply, or that the command was skipped
abbrev pub answer_words : Description → Answer → List Word
answer_words defs answer.Skip = codes "skip" ∷ []
answer_words defs (answer.Reply r) = reply_words defs r

-- the line of a driver's command with this number: `DRIVER.K REPLY`
abbrev pub answer_line : Description → Word → ℕ → Answer → List ℕ
answer_line defs driver k a = line ((driver ++ codes "." ++ decimal k) ∷ answer_words defs a)

-- the lines of a driver's answers, the first of which has the number k
abbrev pub answers_from : Description → Word → ℕ → List Answer → List ℕ
answers_from defs driver k [] = []
answers_from defs driver k (a ∷ more) = answer_line defs driver k a ++ answers_from defs driver (k + 1) more

-- the lines of a driver's answers, numbered from 1
abbrev pub answers_text : Description → Word → List Answer → List ℕ
answers_text defs driver answers = answers_from defs driver 1 answers

-- the lines of boot's answers and of each driver's in order, where names are those of the drivers, boot's first
abbrev pub all_answers_text : Description → List Word → List (List Answer) → List ℕ
all_answers_text defs [] _ = []
all_answers_text defs (name ∷ names) [] = []
all_answers_text defs (name ∷ names) (answers ∷ more) = answers_text defs name answers ++ all_answers_text defs names more

-- ---- entries

-- the words of a notifier's policy
abbrev pub policy_words : Policy → List Word
policy_words policy.Accept = codes "accept" ∷ []
policy_words (policy.VetoAbove r) = codes "above" ∷ decimal r ∷ []
policy_words (policy.VetoBelow r) = codes "below" ∷ decimal r ∷ []
policy_words policy.VetoAll = codes "veto" ∷ []

-- the words of the command that begins a call, with the handle's number for the variable
abbrev pub call_words : Description → Sleeping → List Word
call_words defs (call.Get found) = codes "get" ∷ clock_word defs found ∷ []
call_words defs (call.Put h) = codes "put" ∷ decimal h.number ∷ []
call_words defs (call.Prepare h) = codes "prepare" ∷ decimal h.number ∷ []
call_words defs (call.Unprepare h) = codes "unprepare" ∷ decimal h.number ∷ []
call_words defs (call.GetRate h) = codes "rate" ∷ decimal h.number ∷ []
call_words defs (call.RoundRate h x) = codes "round" ∷ decimal h.number ∷ decimal x ∷ []
call_words defs (call.SetRate h x) = codes "set" ∷ decimal h.number ∷ decimal x ∷ []
call_words defs (call.SetRateExclusive h x) = codes "setx" ∷ decimal h.number ∷ decimal x ∷ []
call_words defs (call.SetRange h least most) = codes "range" ∷ decimal h.number ∷ decimal least ∷ decimal most ∷ []
call_words defs (call.SetParent h p) = codes "reparent" ∷ decimal h.number ∷ name_of defs p.0 ∷ []
call_words defs (call.GetParent h) = codes "parent" ∷ decimal h.number ∷ []
call_words defs (call.ExclusiveGet h) = codes "lock" ∷ decimal h.number ∷ []
call_words defs (call.ExclusivePut h) = codes "unlock" ∷ decimal h.number ∷ []
call_words defs (call.NotifierAdd h id priority policy) = codes "notify" ∷ decimal h.number ∷ decimal id ∷ signed_decimal priority ∷ policy_words policy
call_words defs (call.NotifierRemove h id) = codes "unnotify" ∷ decimal h.number ∷ decimal id ∷ []
call_words defs (call.Probe c) = codes "probe" ∷ name_of defs c.0 ∷ []
call_words defs call.Sweep = codes "sweep" ∷ []

-- what a notice carries: the clock's name, the notifier, and the old and the new rate
abbrev pub notice_words : Description → ClockId → ℕ → ℕ → ℕ → List Word
notice_words defs c id old new = name_of defs c.0 ∷ decimal id ∷ decimal old ∷ decimal new ∷ []

-- what the bank answers to a poll
abbrev pub lock_words : Option Bool → List Word
lock_words None = []
lock_words (Some true) = codes "yes" ∷ []
lock_words (Some false) = codes "no" ∷ []

-- the words of a step, with the answer of a poll
abbrev pub step_words : Description → Micro → Option Bool → List Word
step_words defs (micro.Notify (notice.Pre true) c id old new) locked = codes "pre" ∷ notice_words defs c id old new ++ codes "veto" ∷ []
step_words defs (micro.Notify (notice.Pre false) c id old new) locked = codes "pre" ∷ notice_words defs c id old new ++ codes "accept" ∷ []
step_words defs (micro.Notify notice.Abort c id old new) locked = codes "abort" ∷ notice_words defs c id old new
step_words defs (micro.Notify notice.Post c id old new) locked = codes "post" ∷ notice_words defs c id old new
step_words defs (micro.Raise x) locked = codes "raise" ∷ name_of defs x.0 ∷ []
step_words defs (micro.Poll y) locked = codes "poll" ∷ name_of defs y.0 ∷ lock_words locked
step_words defs (micro.Fall y) locked = codes "fall" ∷ name_of defs y.0 ∷ []
step_words defs (micro.HoldPrepare x) locked = codes "hold-prepare" ∷ name_of defs x.0 ∷ []
step_words defs (micro.HoldEnable x) locked = codes "hold-enable" ∷ name_of defs x.0 ∷ []
step_words defs (micro.Relink c p) locked = codes "relink" ∷ name_of defs c.0 ∷ name_of defs p.0 ∷ []
step_words defs (micro.WriteMux c place) locked = codes "write-mux" ∷ name_of defs c.0 ∷ decimal place ∷ []
step_words defs (micro.DropEnable x) locked = codes "drop-enable" ∷ name_of defs x.0 ∷ []
step_words defs (micro.DropPrepare x) locked = codes "drop-prepare" ∷ name_of defs x.0 ∷ []
step_words defs (micro.Lower x) locked = codes "lower" ∷ name_of defs x.0 ∷ []
step_words defs (micro.Visit c) locked = codes "visit" ∷ name_of defs c.0 ∷ []
step_words defs (micro.Register c) locked = codes "register" ∷ name_of defs c.0 ∷ []
step_words defs (micro.Settle c) locked = codes "settle" ∷ name_of defs c.0 ∷ []
step_words defs (micro.Close c) locked = codes "close" ∷ name_of defs c.0 ∷ []
step_words defs (micro.Unpower c) locked = codes "unpower" ∷ name_of defs c.0 ∷ []
step_words defs micro.End locked = codes "end" ∷ []

-- the words of an event
abbrev pub event_words : Description → Event → List Word
event_words defs (event.Enable number) = codes "enable" ∷ decimal number ∷ []
event_words defs (event.Disable number) = codes "disable" ∷ decimal number ∷ []
event_words defs (event.Running number) = codes "running" ∷ decimal number ∷ []
event_words defs (event.Begin what) = codes "begin" ∷ call_words defs what
event_words defs (event.Step m locked) = codes "step" ∷ step_words defs m locked

-- what an entry answers: that the call goes on, or a reply
abbrev pub turn_words : Description → Turn → List Word
turn_words defs turn.Going = codes "going" ∷ []
turn_words defs (turn.Done r) = reply_words defs r

-- the line of an entry with this number: `N DRIVER EVENT = RESULT`, where names are those of the drivers, boot's first
abbrev pub entry_text : Description → List Word → ℕ → Entry → List ℕ
entry_text defs names number e =
    line (decimal number ∷ slice_index_or names e.driver [] ∷ event_words defs e.event ++ codes "=" ∷ turn_words defs e.turn)

-- the lines of entries, the first of which has this number
abbrev pub entries_from : Description → List Word → ℕ → List Entry → List ℕ
entries_from defs names number [] = []
entries_from defs names number (e ∷ es) = entry_text defs names number e ++ entries_from defs names (number + 1) es

-- the lines of a journal, numbered from 1
abbrev pub journal_text : Description → List Word → List Entry → List ℕ
journal_text defs names journal = entries_from defs names 1 journal

-- ---- registers

-- the last so many hexadecimal digits of a number, in lower case
abbrev pub hex_digits : ℕ → ℕ → List ℕ
hex_digits zero n = []
hex_digits (suc k) n = hex_digits k (n / 16) ++ digit_glyph false (n % 16) ∷ []

-- the line of a register word: `reg W 0xXXXXXXXX`
abbrev pub register_line : ℕ → ℕ → List ℕ
register_line word value = line (codes "reg" ∷ decimal word ∷ (codes "0x" ++ hex_digits 8 value) ∷ [])

-- the lines of the words that aren't 0, the first of which is the word at this place
abbrev pub registers_from : ℕ → Registers → List ℕ
registers_from word [] = []
registers_from word (value ∷ words) = (if value == 0 then [] else register_line word value) ++ registers_from (word + 1) words

-- the lines of the words of a bank that aren't 0
abbrev pub registers_text : Registers → List ℕ
registers_text words = registers_from 0 words
