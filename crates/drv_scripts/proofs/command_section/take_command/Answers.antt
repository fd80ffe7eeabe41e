use Rattle.std.proofs.Common.{◌∙◌, ◌+◌, refl, sym, map}
use Rattle.std.specs.Option.{option_map}
use Rattle.dts_clocks.specs.Consumers.{seen_name}
use Rattle.drv_scripts.specs.Commands.{variable_of}
use Rattle.drv_scripts.specs.Said.{said_command}
use Rattle.drv_scripts.proofs.Known.{unknown_variable, unknown_clock, known, over_full}
use Rattle.drv_scripts.proofs.command_section.take_command.Goals as goal

pub returns-then-not-has_variable : goal.returns-then-not-has_variable
returns-then-not-has_variable c =
    rw c.stopped.ensures (refl, unknown_variable c.args.desc.now.defs (option_map (λ own. map seen_name own.now) c.args.names) c.args.variables.now c.args.full (c.args.at + 1) (said_command c.args.said.now) (sym c.has_variable.ensures ∙ c.if-not-has_variable.true))

pub returns-in_default : goal.returns-in_default
returns-in_default c =
    rw c.stopped-in_default.ensures (refl, unknown_clock c.args.desc.now.defs (option_map (λ own. map seen_name own.now) c.args.names) c.args.variables.now c.args.full (c.args.at + 1) (said_command c.args.said.now) (sym c.in_default.ensures))

pub returns-then-full : goal.returns-then-full
returns-then-full c =
    let number = variable_of c.args.variables.now (said_command c.args.said.now) in
    let found = known c.args.desc.now.defs (option_map (λ own. map seen_name own.now) c.args.names) c.args.variables.now (c.args.at + 1) (said_command c.args.said.now) c.in-Some.act number (sym c.has_variable.ensures ∙ c.if-not-has_variable.false) (sym c.in-Some.ensures) refl in
    rw c.stopped-then-full.ensures (refl, over_full c.args.full _ (record { line = c.args.at + 1; var = number; act = c.in-Some.act }) found c.if-full.true)

pub returns : goal.returns
returns c =
    let found = known c.args.desc.now.defs (option_map (λ own. map seen_name own.now) c.args.names) c.args.variables.now (c.args.at + 1) (said_command c.args.said.now) c.in-Some.act c.in_ok-var.var (sym c.has_variable.ensures ∙ c.if-not-has_variable.false) (sym c.in-Some.ensures) c.in_ok-var.ensures.0 in
    (found, c.if-full.false, c.in_ok-var.ensures.1)
