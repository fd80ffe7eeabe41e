-- What a run prints.
use Rattle.std.specs.Prelude.{ℕ, List, [], ◌∷◌, ◌++◌, Bool, true, false, if◌then◌else◌, map, drop, length, sum_by, count_by, codes, decimal}
use Rattle.clk_base.specs.Description.{Description}
use Rattle.clk_base.specs.declared.command.Answer.{Answer}
use Rattle.clk_base.specs.declared.command.Answer.TheVariants as answer
use Rattle.clk_base.specs.declared.event.Entry.{Entry}
use Rattle.clk_base.specs.declared.event.Reply.{Reply}
use Rattle.clk_base.specs.declared.event.Reply.TheVariants as reply
use Rattle.clk_cli.specs.declared.cli.Cli.{Cli}
use Rattle.clk_cli.specs.declared.cli.Mode.{Mode}
use Rattle.clk_cli.specs.declared.cli.Mode.TheVariants.{Check, Sim, Run, Bench}
use Rattle.clk_model.specs.Text.{all_answers_text, journal_text, registers_text}
use Rattle.drv_scripts.specs.declared.bundle.Script.{Script}
use Rattle.reg_bank.specs.Registers.{Registers}

-- whether a command prints the journal, where the words ask for it or not: `run` always does, and `check` never
abbrev pub prints_journal : Mode → Bool → Bool
prints_journal Check asked = false
prints_journal Sim asked = asked
prints_journal Run asked = true
prints_journal (Bench n) asked = asked

-- whether the journal is printed
abbrev pub shows_journal : Cli → Bool
shows_journal cli = prints_journal cli.mode cli.journal

-- the names of boot and of the drivers
abbrev pub names_of : List Script → List (List ℕ)
names_of drivers = codes "boot" ∷ map (λ s. s.name) drivers

-- ---- counts

-- how many commands drivers have
abbrev pub command_count : List Script → ℕ
command_count drivers = sum_by (λ s. length s.commands) drivers

-- a reply that is neither `warn` nor `err`
abbrev pub is_ok_reply : Reply → Bool
is_ok_reply reply.Fine = true
is_ok_reply reply.Warn = false
is_ok_reply reply.Yes = true
is_ok_reply reply.No = true
is_ok_reply (reply.Handle h) = true
is_ok_reply (reply.Rate r) = true
is_ok_reply (reply.Clock c) = true
is_ok_reply (reply.Refused e) = false

-- an answer that is neither `warn`, `skip` nor `err`
abbrev pub is_ok_answer : Answer → Bool
is_ok_answer answer.Skip = false
is_ok_answer (answer.Reply r) = is_ok_reply r

-- how many of the answers of drivers are such
abbrev pub ok_count : List (List Answer) → ℕ
ok_count answers = sum_by (λ own. count_by is_ok_answer own) answers

-- how many drivers there are, how many commands they have, and how many of their answers are such
abbrev pub counts_text : ℕ → ℕ → ℕ → List ℕ
counts_text drivers commands good =
    codes "drivers " ++ (decimal drivers ++ (codes "\ncommands " ++ (decimal commands ++ (codes "\nok " ++ (decimal good ++ codes "\n")))))

-- whether a command counts the answers in place of printing each: `bench` does
abbrev pub counts_answers : Mode → Bool
counts_answers Check = false
counts_answers Sim = false
counts_answers Run = false
counts_answers (Bench n) = true

-- what is printed of the answers of boot and of the drivers: each of them, or how many those of the drivers are
abbrev pub told_text : Bool → Description → List Script → List (List Answer) → List ℕ
told_text counted defs drivers answers =
    if counted then counts_text (length drivers) (command_count drivers) (ok_count (drop 1 answers)) else all_answers_text defs (names_of drivers) answers

-- ---- the whole text

-- the journal where it is printed, and then what is printed of the answers
abbrev pub calls_text : Description → Cli → List Script → List Entry → List (List Answer) → List ℕ
calls_text defs cli drivers journal answers =
    (if shows_journal cli then journal_text defs (names_of drivers) journal else []) ++ told_text (counts_answers cli.mode) defs drivers answers

-- behind them the summary, and then the registers
abbrev pub run_text : Description → Cli → List Script → List Entry → List (List Answer) → List ℕ → Registers → List ℕ
run_text defs cli drivers journal answers table words = calls_text defs cli drivers journal answers ++ (table ++ registers_text words)
