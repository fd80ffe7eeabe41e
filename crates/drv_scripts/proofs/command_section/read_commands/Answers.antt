use Rattle.std.proofs.Common.{◌≡◌, ◌∙◌, ◌-◌, ◌++◌, [], ap, sym, subst, map, length, fold, arith, length-append}
use Rattle.std.specs.Option.{option_map, option_to_list}
use Rattle.std.proofs.lemmas.Result.{err_from_is_err_and}
use Rattle.dts_clocks.specs.Consumers.{seen_name}
use Rattle.drv_scripts.specs.Commands.{after_command, command_fault, commands_of}
use Rattle.drv_scripts.specs.Judged.{Stops}
use Rattle.drv_scripts.proofs.Taken.{commands_none, commands_more, said_before-none}
use Rattle.drv_scripts.proofs.Turns.{kept_none, kept_more, stopped_line}
use Rattle.drv_scripts.proofs.command_section.read_commands.Goals as goal

pub loop-at-init : goal.loop-at-init
loop-at-init c =
    let names = option_map (λ own. map seen_name own.now) c.args.names in
    let ls = c.args.lines.now in
    let none : length c.new-commands.result.items ≡ 0 = ap length c.new-commands.ensures.items in
    let no_vars : length c.new-variables.result ≡ 0 = ap length c.new-variables.ensures in
    let room = c.requires.fewer in
    record {
      kept = kept_none (command_fault c.args.desc.now.defs names c.args.before ls c.args.from) c.args.from;
      variables = c.new-variables.ensures ∙ sym (ap (fold after_command []) (said_before-none ls c.args.from));
      own = none ∙ sym (ap length (said_before-none ls c.args.from));
      commands = c.new-commands.ensures.items ∙ sym (commands_none c.args.desc.now.defs names ls c.args.from);
      room = omega arith;
      few = omega arith;
      fewer = omega arith;
    }

pub returns-in_err-command-clause-read : goal.returns-in_err-command-clause-read
returns-in_err-command-clause-read c =
    let names = option_map (λ own. map seen_name own.now) c.args.names in
    let test = command_fault c.args.desc.now.defs names c.args.before c.args.lines.now c.args.from in
    let p = err_from_is_err_and c.from_residual.result c.from_residual.ensures.1 in
    rw p.1 (subst (Stops test c.args.from c.args.to) (sym p.2) (stopped_line test c.args.from c.args.to c.loop-at.at c.in_err-command.field-0.0 (omega arith) (omega arith) c.loop-at.invariant.kept c.in_err-command.ensures.read))

pub loop-at-preserved : goal.loop-at-preserved
loop-at-preserved c =
    let names = option_map (λ own. map seen_name own.now) c.args.names in
    let ls = c.args.lines.now in
    let defs = c.args.desc.now.defs in
    let was = c.loop-at.invariant in
    let step = c.in_ok-command.ensures.read in
    let taken = step.1 in
    let pushed = c.in_ok-push_some.ensures.pushed in
    let found = option_to_list c.in_ok-command.command in
    let more = length-append c.loop-at.commands.items found in
    let grown = ap length pushed in
    let count = taken.count in
    let few = taken.few in
    let own = c.len-own.ensures in
    let held = c.in_ok-command.ensures.few in
    let all = c.in_ok-command.ensures.fewer (omega (arith, own, was.fewer)) in
    record {
      kept = kept_more (command_fault defs names c.args.before ls c.args.from) c.args.from c.loop-at.at was.kept step.0;
      variables = taken.variables;
      own = omega (arith, grown, more, count, own);
      commands = pushed
          ∙ (ap (λ commands. commands ++ found) was.commands
          ∙ (ap (λ o. commands_of defs names ls c.args.from (c.loop-at.at - c.args.from) ++ option_to_list o) taken.command ∙ sym (commands_more defs names ls c.args.from c.loop-at.at (omega arith))));
      room = omega (arith, grown, more, few, own);
      few = omega (arith, grown, more, held, own);
      fewer = omega (arith, grown, more, all, own);
    }
