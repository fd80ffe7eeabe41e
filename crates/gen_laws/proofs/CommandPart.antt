-- The commands of a driver, line by line.
use Rattle.std.proofs.Common.{◌≡◌, ℕ, zero, suc, ◌+◌, ◌-◌, ◌^◌, ◌<◌, ◌≤◌, ◌==◌, false, cond, List, [], ◌∷◌, length, fold, get_or, decimal, Option, Some, None, Result, Ok, refl, ap, ◌∙◌, arith}
use Rattle.std.specs.Prelude.{codes}
use Rattle.std.specs.Option.{option_and_then}
use Rattle.std.specs.Result.{result_ok}
use Rattle.std.proofs.lemmas.Bool.{or_from, lt-leb}
use Rattle.std.proofs.lemmas.List.{get_or-map}
use Rattle.std.proofs.lemmas.List.Elements.{All-from_recursion, All-get_or}
use Rattle.bundle_text.specs.Firsts.{said_from, onto}
use Rattle.bundle_text.specs.Lines.{line_at}
use Rattle.bundle_text.specs.Names.{is_variable}
use Rattle.bundle_text.specs.Words.{said_words}
use Rattle.bundle_text.specs.declared.reason.Reason.{Reason}
use Rattle.bundle_text.specs.declared.reason.Reason.TheVariants.{TooManyCommands}
use Rattle.bundle_text.proofs.Rows.{length-said_from}
use Rattle.clk_base.specs.declared.command.Act.{Act}
use Rattle.clk_base.specs.declared.command.Act.TheVariants.{Get, Put, Prepare, Unprepare, Enable, Disable, Running, SetRate}
use Rattle.clk_base.specs.declared.command.Command.{Command}
use Rattle.clk_base.specs.Description.{Description}
use Rattle.drv_scripts.specs.CommandLines.{CommandLine, gets, acts, command_line, line_if, verb_line, plain_line, get_line, rated_line, rate_of, acts_if}
use Rattle.drv_scripts.specs.Verbs.{verb_of, rated_act}
use Rattle.drv_scripts.specs.Commands.{clock_for, act_in, after_command, has_variable, variable_of, known_command, is_full, known_fault, said_fault, said_at, said_before, variables_before, command_fault, command_at, commands_of}
use Rattle.drv_scripts.specs.Judged.{words_say, KeepsBetween}
use Rattle.gen_laws.specs.Clocks.{gate, name_of}
use Rattle.gen_laws.specs.Script.{acts_held, on_lines}
use Rattle.gen_laws.proofs.BundleRows.{get_row, act_row, command_rows}
use Rattle.gen_laws.proofs.BodyRows.{IsHeld, held-acts}
use Rattle.gen_laws.proofs.Decimals.{number-decimal}
use Rattle.gen_laws.proofs.RowPlaces.{row_at, length-acts}

-- ---- what a line says

-- the only variable
abbrev pub own : List ℕ
own = codes "x"

get-said : (k : ℕ) → command_line (get_row k) ≡ Ok (gets own (name_of (gate k)))
unfolding command_line verb_of line_if verb_line get_line is_variable
get-said k = refl

-- the act that a driver does with its gate, as its line says it
pub act-said : (a : Act) → IsHeld a → command_line (act_row a) ≡ Ok (acts a own)
unfolding IsHeld command_line verb_of line_if verb_line plain_line rated_line rated_act acts_if is_variable
act-said Put h = refl
act-said Prepare h = refl
act-said Unprepare h = refl
act-said Enable h = refl
act-said Disable h = refl
act-said Running h = refl
act-said (SetRate rate) h =
    let read : rate_of (decimal rate) ≡ Some rate = number-decimal 0 (2 ^ 64 - 1) rate h (omega arith) (omega arith) in
    rw read refl
act-said _ h = absurd h

-- what a line of a driver says, by its place behind the header
abbrev pub said_line : ℕ → ℕ → CommandLine
said_line k zero = gets own (name_of (gate k))
said_line k (suc j) = acts (get_or acts_held j Put) own

held-at : (j : ℕ) → j < 403 → IsHeld (get_or acts_held j Put)
held-at j low = All-get_or IsHeld acts_held j Put (omega (arith, length-acts)) (All-from_recursion IsHeld acts_held held-acts)

pub line-said : (k j : ℕ) → j < 404 → command_line (row_at (command_rows k) j) ≡ Ok (said_line k j)
line-said k zero low = get-said k
line-said k (suc j) low =
    let within : j < 403 = omega arith in
    ap command_line (get_or-map act_row acts_held j Put [] (omega (arith, length-acts))) ∙ act-said (get_or acts_held j Put) (held-at j within)

-- ---- variables

-- acts on a variable leave the variables as they are
acts_leave : (said : ℕ → Option CommandLine) (vars : List (List ℕ)) (from count : ℕ) → ((j : ℕ) → j < count → (a : Act) × (said (from + j) ≡ Some (acts a own)))
    → fold after_command vars (said_from said from count) ≡ vars
acts_leave said vars from zero each = refl
acts_leave said vars from (suc count) each =
    let first = each 0 (omega arith) in
    let here : said from ≡ Some (acts first.0 own) = ap said (omega arith) ∙ first.1 in
    ap (λ o. fold after_command vars (onto o (said_from said (from + 1) count))) here
    ∙ acts_leave said vars (from + 1) count (λ j low. let next = each (suc j) (omega arith) in (next.0, ap said (omega arith) ∙ next.1))

-- ---- a driver's lines

-- the lines from a place on are those of a driver
unfoldable pub Stands : List (List ℕ) → ℕ → ℕ → Type 0
Stands ls first k = (j : ℕ) → j < 404 → said_words (line_at ls (first + j)) ≡ row_at (command_rows k) j

row-some : (a : Act) → IsHeld a → (length (act_row a) == 0) ≡ false
unfolding IsHeld
row-some Put h = refl
row-some Prepare h = refl
row-some Unprepare h = refl
row-some Enable h = refl
row-some Disable h = refl
row-some Running h = refl
row-some (SetRate rate) h = refl
row-some _ h = absurd h

words-some : (k j : ℕ) → j < 404 → (length (row_at (command_rows k) j) == 0) ≡ false
words-some k zero low = refl
words-some k (suc j) low =
    let within : j < 403 = omega arith in
    ap (λ row. length row == 0) (get_or-map act_row acts_held j Put [] (omega (arith, length-acts))) ∙ row-some (get_or acts_held j Put) (held-at j within)

line-says : (ls : List (List ℕ)) (first k : ℕ) → Stands ls first k → (j : ℕ) → j < 404 → said_at ls (first + j) ≡ Some (said_line k j)
unfolding said_at Stands
line-says ls first k stands j low =
    let row = row_at (command_rows k) j in
    ap (λ words. words_say words (command_line words)) (stands j low)
    ∙ (ap (λ b. cond b None (result_ok (command_line row))) (words-some k j low) ∙ ap result_ok (line-said k j low))

-- before the first command there are no variables
variables-none : (ls : List (List ℕ)) (first : ℕ) → variables_before ls first (first + 0) ≡ []
unfolding said_before
variables-none ls first =
    let none : first + 0 - first ≡ 0 = omega arith in
    ap (λ m. fold after_command [] (said_from (said_at ls) first m)) none

-- behind it there is one
variables-one : (ls : List (List ℕ)) (first k : ℕ) → Stands ls first k → (j : ℕ) → j < 403 → variables_before ls first (first + suc j) ≡ own ∷ []
unfolding said_before
variables-one ls first k stands j low =
    let count : first + suc j - first ≡ suc j = omega arith in
    let here : said_at ls first ≡ Some (gets own (name_of (gate k))) = ap (said_at ls) (omega arith) ∙ line-says ls first k stands 0 (omega arith) in
    ap (λ m. fold after_command [] (said_from (said_at ls) first m)) count
    ∙ (ap (λ o. fold after_command [] (onto o (said_from (said_at ls) (first + 1) j))) here
    ∙ acts_leave (said_at ls) (own ∷ []) (first + 1) j (λ m less. (get_or acts_held m Put, ap (said_at ls) (omega arith) ∙ line-says ls first k stands (suc m) (omega arith))))

-- ---- commands

-- what a driver does, over a description
abbrev pub acts_over : Description → ℕ → List Act
acts_over defs k = Get (clock_for defs None (name_of (gate k))) ∷ acts_held

-- the command of a line
abbrev command_on : Description → ℕ → ℕ → ℕ → Command
command_on defs k first j = record { line = first + j + 1; var = Some 0; act = get_or (acts_over defs k) j Put }

command-known : (defs : Description) (ls : List (List ℕ)) (first k : ℕ) → Stands ls first k → (j : ℕ) → j < 404
    → known_command defs None (variables_before ls first (first + j)) (first + j + 1) (said_line k j) ≡ Some (command_on defs k first j)
unfolding known_command has_variable act_in variable_of
command-known defs ls first k stands zero low = ap (λ vars. known_command defs None vars (first + 0 + 1) (said_line k 0)) (variables-none ls first)
command-known defs ls first k stands (suc j) low = ap (λ vars. known_command defs None vars (first + suc j + 1) (said_line k (suc j))) (variables-one ls first k stands j (omega arith))

-- none is one too many
room : (ls : List (List ℕ)) (first before j : ℕ) → j < 404 → before + 404 ≤ 1048576 → is_full (length (said_before ls first (first + j))) before ≡ false
unfolding is_full said_before
room ls first before j low few =
    let short : length (said_from (said_at ls) first (first + j - first)) ≤ j = omega (arith, length-said_from (said_at ls) first (first + j - first)) in
    or_from _ _ (lt-leb 65536 (length (said_from (said_at ls) first (first + j - first))) (omega arith)) (lt-leb 1048576 (before + length (said_from (said_at ls) first (first + j - first))) (omega arith))

-- no command has a fault
command-fine : (defs : Description) (before : ℕ) (ls : List (List ℕ)) (first k : ℕ) → Stands ls first k → before + 404 ≤ 1048576 → (j : ℕ) → j < 404
    → command_fault defs None before ls first (first + j) ≡ None
unfolding command_fault Stands
command-fine defs before ls first k stands few j low =
    let row = row_at (command_rows k) j in
    let vars = variables_before ls first (first + j) in
    let full = is_full (length (said_before ls first (first + j))) before in
    let fault : Result CommandLine Reason → Option Reason = λ said. said_fault defs None vars full (first + j + 1) said in
    ap (λ words. cond (length words == 0) None (fault (command_line words))) (stands j low)
    ∙ (ap (λ b. cond b None (fault (command_line row))) (words-some k j low)
    ∙ (ap fault (line-said k j low)
    ∙ (ap (known_fault full) (command-known defs ls first k stands j low)
    ∙ ap (λ b. cond b (Some TooManyCommands) None) (room ls first before j low few))))

pub commands-kept : (defs : Description) (before : ℕ) (ls : List (List ℕ)) (first end k : ℕ) → Stands ls first k → end ≡ first + 404 → before + 404 ≤ 1048576
    → KeepsBetween (command_fault defs None before ls first) first end
commands-kept defs before ls first end k stands there few m low high =
    let place : m ≡ first + (m - first) = omega arith in
    ap (command_fault defs None before ls first) place ∙ command-fine defs before ls first k stands few (m - first) (omega arith)

-- what is said at each of some places is listed
listed-from : (said : ℕ → Option Command) (todo : List Act) (from : ℕ)
    → ((j : ℕ) → j < length todo → said (from + j) ≡ Some (record { line = from + j + 1; var = Some 0; act = get_or todo j Put })) → said_from said from (length todo) ≡ on_lines (from + 1) todo
listed-from said [] from each = refl
listed-from said (a ∷ todo) from each =
    let count : length (a ∷ todo) ≡ suc (length todo) = omega arith in
    let command : ℕ → Command = λ line. record { line = line; var = Some 0; act = a } in
    let here : said from ≡ Some (command (from + 1)) = ap said (omega arith) ∙ (each 0 (omega arith) ∙ ap (λ line. Some (command line)) (omega arith)) in
    let later = listed-from said todo (from + 1) (λ j low. ap said (omega arith) ∙ (each (suc j) (omega arith) ∙ ap (λ line. Some (record { line = line; var = Some 0; act = get_or todo j Put })) (omega arith))) in
    ap (said_from said from) count ∙ (ap (λ o. onto o (said_from said (from + 1) (length todo))) here ∙ ap (λ cs. command (from + 1) ∷ cs) later)

-- the commands of a driver
pub commands-are : (defs : Description) (ls : List (List ℕ)) (first k : ℕ) → Stands ls first k → commands_of defs None ls first 404 ≡ on_lines (first + 1) (acts_over defs k)
unfolding commands_of command_at
commands-are defs ls first k stands =
    let long : 404 ≡ length (acts_over defs k) = omega (arith, length-acts) in
    ap (said_from (command_at defs None ls first) first) long
    ∙ listed-from (command_at defs None ls first) (acts_over defs k) first
    (λ j low.
    let within : j < 404 = omega arith in
    ap (option_and_then (known_command defs None (variables_before ls first (first + j)) (first + j + 1))) (line-says ls first k stands j within) ∙ command-known defs ls first k stands j within)
