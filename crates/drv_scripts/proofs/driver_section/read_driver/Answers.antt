use Rattle.std.proofs.Common.{◌∙◌, ◌+◌, ◌∷◌, [], ℕ, List, ap, sym, subst, map, arith}
use Rattle.std.specs.Option.{option_map}
use Rattle.std.proofs.lemmas.Result.{err_from_is_err_and}
use Rattle.bundle_sections.specs.Headers.{driver}
use Rattle.clk_base.specs.declared.command.Command.{Command}
use Rattle.dts_clocks.specs.Consumers.{seen_name, seen_consumer}
use Rattle.drv_scripts.specs.declared.bundle.Script.{Script}
use Rattle.drv_scripts.specs.Judged.{Stops}
use Rattle.drv_scripts.specs.Sections.{with_clocks, section_from, section_fault}
use Rattle.drv_scripts.proofs.DriverLines.{fault-unnamed, driver_kept, driver_stop, driver_said}
use Rattle.drv_scripts.proofs.Turns.{kept_none}
use Rattle.drv_scripts.proofs.driver_section.read_driver.Goals as goal

pub returns-in_default-clause-read : goal.returns-in_default-clause-read
returns-in_default-clause-read c = λ drivers.
    let a = with_clocks c.args.lines.now c.args.desc.now.defs (map seen_consumer c.args.consumers.now) drivers in
    let path = option_map (λ p. p.now) c.args.path in
    rw c.stopped.ensures (record {
      low = omega arith;
      high = c.requires.order;
      before = kept_none (section_fault a c.args.before (section_from (driver c.args.name.now path) c.args.place c.args.end)) c.args.place;
      found = fault-unnamed a c.args.before c.args.name.now path c.args.place c.args.end (sym c.in_default.ensures);
    })

pub returns-in_err-commands-clause-read : goal.returns-in_err-commands-clause-read
returns-in_err-commands-clause-read c = λ drivers.
    let a = with_clocks c.args.lines.now c.args.desc.now.defs (map seen_consumer c.args.consumers.now) drivers in
    let path = option_map (λ p. p.now) c.args.path in
    let names = option_map (λ own. map seen_name own.now) c.in-Some.names in
    let p = err_from_is_err_and c.from_residual.result c.from_residual.ensures.1 in
    rw p.1 (subst (Stops (section_fault a c.args.before (section_from (driver c.args.name.now path) c.args.place c.args.end)) c.args.place c.args.end) (sym p.2)
    (driver_stop a c.args.before c.args.name.now path c.args.place c.args.end names c.in_err-commands.field-0.0 (sym c.in-Some.ensures) c.in_err-commands.ensures.read))

pub returns-clause-read : goal.returns-clause-read
returns-clause-read c = λ drivers.
    let a = with_clocks c.args.lines.now c.args.desc.now.defs (map seen_consumer c.args.consumers.now) drivers in
    let path = option_map (λ p. p.now) c.args.path in
    let names = option_map (λ own. map seen_name own.now) c.in-Some.names in
    let read = c.in_ok-commands.ensures.read in
    let made : List ℕ → List Command → List Script = λ name commands. record { name = name; commands = commands } ∷ [] in (
      driver_kept a c.args.before c.args.name.now path c.args.place c.args.end names (sym c.in-Some.ensures) read.0,
      ap (λ name. made name c.new.result) (c.new-name.ensures ∙ c.in_ok-from_str.ensures.ok)
          ∙ (ap (made c.args.name.now) (c.new.ensures ∙ read.1) ∙ sym (driver_said a c.args.name.now path (c.args.place + 1) c.args.end names (sym c.in-Some.ensures))),
    )
