use Rattle.std.proofs.Common.{◌≡◌, ◌==◌, ◌∙◌, true, false, refl, sym, ap, subst, map, length, rules, arith}
use Rattle.std.specs.Option.{option_map}
use Rattle.std.proofs.lemmas.List.{length-map}
use Rattle.std.proofs.lemmas.Result.{err_from_is_err_and}
use Rattle.bundle_text.specs.Words.{texts}
use Rattle.dts_clocks.specs.Consumers.{seen_name}
use Rattle.drv_scripts.specs.CommandLines.{command_line}
use Rattle.drv_scripts.specs.Commands.{command_fault}
use Rattle.drv_scripts.specs.Judged.{StopsLine}
use Rattle.drv_scripts.specs.Said.{said_command}
use Rattle.drv_scripts.proofs.Known.{not_full, taken_stop}
use Rattle.drv_scripts.proofs.Taken.{line_nothing, line_wrong, line_judged, line_taken}
use Rattle.drv_scripts.proofs.command_section.read_command.Goals as goal

pub returns-then-is_empty-clause-read : goal.returns-then-is_empty-clause-read
returns-then-is_empty-clause-read c =
    let none : (length c.in_ok-words.words.items == 0) ≡ true = search rules in
    let here = ap (λ n. n == 0) (ap length (sym c.in_ok-words.ensures) ∙ length-map c.in_ok-words.words.items (λ w. w.now)) ∙ none in
    line_nothing c.args.desc.now.defs (option_map (λ own. map seen_name own.now) c.args.names) c.args.before c.args.lines.now c.args.from c.args.at c.args.own c.args.variables.now
    c.requires.order here c.requires.variables c.requires.own c.requires.room

pub returns-in-Err-clause-read : goal.returns-in-Err-clause-read
returns-in-Err-clause-read c =
    let some : (length c.in_ok-words.words.items == 0) ≡ false = search rules in
    let here = ap (λ n. n == 0) (ap length (sym c.in_ok-words.ensures) ∙ length-map c.in_ok-words.words.items (λ w. w.now)) ∙ some in
    let read = ap command_line (ap texts c.deref.ensures.value ∙ c.in_ok-words.ensures) in
    rw c.stopped.ensures (refl, line_wrong c.args.desc.now.defs (option_map (λ own. map seen_name own.now) c.args.names) c.args.before c.args.lines.now c.args.from c.args.at c.in-Err.reason here (sym read ∙ sym c.in-Err.ensures))

pub take_command-requires-clause-free : goal.take_command-requires-clause-free
take_command-requires-clause-free c free = omega (arith, not_full c.args.own c.args.before (sym c.is_full.ensures ∙ free), c.requires.room)

pub returns-in_err-command-clause-read : goal.returns-in_err-command-clause-read
returns-in_err-command-clause-read c =
    let names = option_map (λ own. map seen_name own.now) c.args.names in
    let some : (length c.in_ok-words.words.items == 0) ≡ false = search rules in
    let here = ap (λ n. n == 0) (ap length (sym c.in_ok-words.ensures) ∙ length-map c.in_ok-words.words.items (λ w. w.now)) ∙ some in
    let read = ap command_line (ap texts c.deref.ensures.value ∙ c.in_ok-words.ensures) in
    let fault = command_fault c.args.desc.now.defs names c.args.before c.args.lines.now c.args.from c.args.at in
    let judged = line_judged c.args.desc.now.defs names c.args.before c.args.lines.now c.args.from c.args.at c.args.own c.args.variables.now c.is_full.result (said_command c.in-Ok.said) here (sym read ∙ sym c.in-Ok.ensures) c.requires.variables c.requires.own c.is_full.ensures in
    let p = err_from_is_err_and c.from_residual-in_err-command.result c.from_residual-in_err-command.ensures.1 in
    rw p.1 (subst (StopsLine fault c.args.at) (sym p.2) (taken_stop c.args.desc.now.defs names c.args.variables.now c.is_full.result c.args.at (said_command c.in-Ok.said) c.take_command.new.variables fault c.in_err-command.field-0.0 judged c.in_err-command.ensures))

pub returns-clause-read : goal.returns-clause-read
returns-clause-read c =
    let some : (length c.in_ok-words.words.items == 0) ≡ false = search rules in
    let here = ap (λ n. n == 0) (ap length (sym c.in_ok-words.ensures) ∙ length-map c.in_ok-words.words.items (λ w. w.now)) ∙ some in
    let read = ap command_line (ap texts c.deref.ensures.value ∙ c.in_ok-words.ensures) in
    let taken = c.in_ok-command.ensures in
    line_taken c.args.desc.now.defs (option_map (λ own. map seen_name own.now) c.args.names) c.args.before c.args.lines.now c.args.from c.args.at c.args.own c.args.variables.now _ c.is_full.result (said_command c.in-Ok.said) c.in_ok-command.command
    c.requires.order here (sym read ∙ sym c.in-Ok.ensures) c.requires.variables c.requires.own c.requires.room c.is_full.ensures taken.0 taken.1 taken.2

pub returns-clause-few : goal.returns-clause-few
returns-clause-few c = omega (arith, not_full c.args.own c.args.before (sym c.is_full.ensures ∙ c.in_ok-command.ensures.1))

pub returns-clause-fewer : goal.returns-clause-fewer
returns-clause-fewer c = λ room. omega (arith, room, not_full c.args.own c.args.before (sym c.is_full.ensures ∙ c.in_ok-command.ensures.1))
