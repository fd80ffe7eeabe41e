-- A command line behind others: its fault, and what it adds.
use Rattle.std.proofs.Common.{◌≡◌, ℕ, ◌+◌, ◌-◌, ◌≤◌, ◌==◌, ◌++◌, ◌∷◌, [], Bool, true, false, cond, List, length, fold, Option, Some, None, Ok, Err, ap, sym, ◌∙◌, arith, length-append}
use Rattle.std.specs.List.{list_any}
use Rattle.std.specs.Option.{option_and_then, option_to_list}
use Rattle.std.specs.Result.{result_ok}
use Rattle.std.specs.Str.{bytes_eq}
use Rattle.std.proofs.lemmas.Bool.{cond-true, cond-false}
use Rattle.std.proofs.lemmas.List.{append-nil}
use Rattle.std.proofs.lemmas.List.Sums.{fold_push}
use Rattle.clk_base.specs.declared.command.Command.{Command}
use Rattle.clk_base.specs.Description.{Description}
use Rattle.dts_clocks.specs.Consumers.{SeenName}
use Rattle.bundle_text.specs.Lines.{line_at}
use Rattle.bundle_text.specs.Words.{said_words}
use Rattle.bundle_text.specs.declared.reason.Reason.{Reason}
use Rattle.drv_scripts.specs.CommandLines.{CommandLine, gets, acts, moves, registers, sweeps, command_line}
use Rattle.drv_scripts.specs.Commands.{with_variable, after_command, known_command, is_full, known_fault, said_fault, said_at, said_before, variables_before, command_fault, command_at, commands_of}
use Rattle.drv_scripts.specs.Steps.{TakesLine}
use Rattle.drv_scripts.proofs.Turns.{said_more, said_none}

length-with_variable : (vars : List (List ℕ)) (var : List ℕ) → length (with_variable vars var) ≤ length vars + 1
length-with_variable vars var =
    elim (list_any (bytes_eq var) vars) as (λ b. length (cond b vars (vars ++ var ∷ [])) ≤ length vars + 1)
    [ true ↦ omega arith | false ↦ omega (arith, length-append vars (var ∷ [])) ]

length-after : (vars : List (List ℕ)) (said : CommandLine) → length (after_command vars said) ≤ length vars + 1
length-after vars (gets var name) = length-with_variable vars var
length-after vars (acts act var) = omega arith
length-after vars (moves var name) = omega arith
length-after vars (registers name) = omega arith
length-after vars sweeps = omega arith

said_before-more : (ls : List (List ℕ)) (first k : ℕ) → first ≤ k → said_before ls first (k + 1) ≡ said_before ls first k ++ option_to_list (said_at ls k)
unfolding said_before
said_before-more ls first k low = said_more (said_at ls) first k low

-- nothing was said
pub said_before-none : (ls : List (List ℕ)) (first : ℕ) → said_before ls first first ≡ []
unfolding said_before
said_before-none ls first = said_none (said_at ls) first

-- the commands of no line, and of one line more
pub commands_none : (defs : Description) (names : Option (List SeenName)) (ls : List (List ℕ)) (first : ℕ) → commands_of defs names ls first (first - first) ≡ []
unfolding commands_of
commands_none defs names ls first = said_none (command_at defs names ls first) first

pub commands_more : (defs : Description) (names : Option (List SeenName)) (ls : List (List ℕ)) (first k : ℕ) → first ≤ k
    → commands_of defs names ls first (k + 1 - first) ≡ commands_of defs names ls first (k - first) ++ option_to_list (command_at defs names ls first k)
unfolding commands_of
commands_more defs names ls first k low = said_more (command_at defs names ls first) first k low

unsaid : (ls : List (List ℕ)) (k : ℕ) → (length (said_words (line_at ls k)) == 0) ≡ true → said_at ls k ≡ None
unfolding said_at
unsaid ls k e = cond-true _ _ _ e

said_here : (ls : List (List ℕ)) (k : ℕ) (said : CommandLine) → (length (said_words (line_at ls k)) == 0) ≡ false → command_line (said_words (line_at ls k)) ≡ Ok said → said_at ls k ≡ Some said
unfolding said_at
said_here ls k said e read = cond-false _ _ _ e ∙ ap result_ok read

-- a line without words
pub line_nothing : (defs : Description) (names : Option (List SeenName)) (before : ℕ) (ls : List (List ℕ)) (first k own : ℕ) (vars : List (List ℕ)) → first ≤ k
    → (length (said_words (line_at ls k)) == 0) ≡ true → vars ≡ variables_before ls first k → own ≡ length (said_before ls first k) → length vars ≤ own
    → (command_fault defs names before ls first k ≡ None) × TakesLine defs names ls first k own vars None
unfolding command_fault command_at
line_nothing defs names before ls first k own vars low e was mine room =
    let none = unsaid ls k e in
    let more = said_before-more ls first k low ∙ (ap (λ o. said_before ls first k ++ option_to_list o) none ∙ append-nil (said_before ls first k)) in (
      cond-true _ _ _ e,
      record {
        command = sym (ap (option_and_then (known_command defs names (variables_before ls first k) (k + 1))) none);
        variables = was ∙ sym (ap (fold after_command []) more);
        count = omega (arith, ap length more, mine);
        few = omega (arith, room);
      },
    )

-- a line without the form of a command
pub line_wrong : (defs : Description) (names : Option (List SeenName)) (before : ℕ) (ls : List (List ℕ)) (first k : ℕ) (reason : Reason)
    → (length (said_words (line_at ls k)) == 0) ≡ false → command_line (said_words (line_at ls k)) ≡ Err reason → command_fault defs names before ls first k ≡ Some reason
unfolding command_fault
line_wrong defs names before ls first k reason e said =
    cond-false _ _ _ e ∙ ap (said_fault defs names (variables_before ls first k) (is_full (length (said_before ls first k)) before) (k + 1)) said

-- a line with one is judged by what stands before it
pub line_judged : (defs : Description) (names : Option (List SeenName)) (before : ℕ) (ls : List (List ℕ)) (first k own : ℕ) (vars : List (List ℕ)) (full : Bool) (said : CommandLine)
    → (length (said_words (line_at ls k)) == 0) ≡ false → command_line (said_words (line_at ls k)) ≡ Ok said → vars ≡ variables_before ls first k → own ≡ length (said_before ls first k) → full ≡ is_full own before
    → command_fault defs names before ls first k ≡ known_fault full (known_command defs names vars (k + 1) said)
unfolding command_fault
line_judged defs names before ls first k own vars full said e read was mine filled =
    cond-false _ _ _ e
    ∙ (ap (said_fault defs names (variables_before ls first k) (is_full (length (said_before ls first k)) before) (k + 1)) read
    ∙ (ap (λ vs. known_fault (is_full (length (said_before ls first k)) before) (known_command defs names vs (k + 1) said)) (sym was)
    ∙ (ap (λ n. known_fault (is_full n before) (known_command defs names vars (k + 1) said)) (sym mine) ∙ ap (λ b. known_fault b (known_command defs names vars (k + 1) said)) (sym filled))))

-- a line whose command is known, and not one too many
pub line_taken : (defs : Description) (names : Option (List SeenName)) (before : ℕ) (ls : List (List ℕ)) (first k own : ℕ) (vars after : List (List ℕ)) (full : Bool) (said : CommandLine) (command : Command) → first ≤ k
    → (length (said_words (line_at ls k)) == 0) ≡ false → command_line (said_words (line_at ls k)) ≡ Ok said → vars ≡ variables_before ls first k → own ≡ length (said_before ls first k) → length vars ≤ own
    → full ≡ is_full own before → known_command defs names vars (k + 1) said ≡ Some command → full ≡ false → after ≡ after_command vars said
    → (command_fault defs names before ls first k ≡ None) × TakesLine defs names ls first k own after (Some command)
unfolding command_at
line_taken defs names before ls first k own vars after full said command low e read was mine room filled known free grown =
    let some = said_here ls k said e read in
    let more = said_before-more ls first k low ∙ ap (λ o. said_before ls first k ++ option_to_list o) some in (
      line_judged defs names before ls first k own vars full said e read was mine filled ∙ (ap (known_fault full) known ∙ cond-false _ _ _ free),
      record {
        command = sym known ∙ (ap (λ vs. known_command defs names vs (k + 1) said) was ∙ sym (ap (option_and_then (known_command defs names (variables_before ls first k) (k + 1))) some));
        variables = grown ∙ (ap (λ vs. after_command vs said) was ∙ sym (ap (fold after_command []) more ∙ fold_push after_command [] (said_before ls first k) said));
        count = omega (arith, ap length more, length-append (said_before ls first k) (said ∷ []), mine);
        few = omega (arith, room, ap length grown, length-after vars said);
      },
    )
