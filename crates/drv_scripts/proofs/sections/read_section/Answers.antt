use Rattle.std.proofs.Common.{sym, subst, map}
use Rattle.std.proofs.lemmas.Result.{err_from_is_err_and}
use Rattle.bundle_sections.specs.declared.header.Header.{Header}
use Rattle.bundle_sections.specs.Said.{said_header, said_section}
use Rattle.bundle_text.specs.Words.{texts}
use Rattle.dts_clocks.specs.Consumers.{seen_consumer}
use Rattle.drv_scripts.specs.declared.part.Part.TheVariants as parts
use Rattle.drv_scripts.specs.Judged.{Stops}
use Rattle.drv_scripts.specs.Sections.{with_clocks, section_from, section_fault}
use Rattle.drv_scripts.proofs.PartLines.{IsRead, tree_read, clocks_read, bank_read, locks_read, locks_stop, late_read, late_stop, order_read, order_stop, driver_read}
use Rattle.drv_scripts.proofs.sections.read_section.Goals as goal

pub returns-in-DeviceTree-clause-read : goal.returns-in-DeviceTree-clause-read
returns-in-DeviceTree-clause-read c =
    let a = with_clocks c.args.lines.now c.args.desc.now.defs (map seen_consumer c.args.consumers.now) (texts c.args.drivers.now) in
    let s = c.args.section.now in
    subst (λ (header : Header). IsRead a c.args.before (said_header header) s.place s.end parts.Nothing) (sym c.in-DeviceTree.is) (tree_read a c.args.before s.place s.end)

pub returns-in-Clocks-clause-read : goal.returns-in-Clocks-clause-read
returns-in-Clocks-clause-read c =
    let a = with_clocks c.args.lines.now c.args.desc.now.defs (map seen_consumer c.args.consumers.now) (texts c.args.drivers.now) in
    let s = c.args.section.now in
    subst (λ (header : Header). IsRead a c.args.before (said_header header) s.place s.end parts.Nothing) (sym c.in-Clocks.is) (clocks_read a c.args.before s.place s.end)

pub returns-in-Bank-clause-read : goal.returns-in-Bank-clause-read
returns-in-Bank-clause-read c =
    let a = with_clocks c.args.lines.now c.args.desc.now.defs (map seen_consumer c.args.consumers.now) (texts c.args.drivers.now) in
    let s = c.args.section.now in
    subst (λ (header : Header). IsRead a c.args.before (said_header header) s.place s.end parts.Nothing) (sym c.in-Bank.is) (bank_read a c.args.before _ s.place s.end)

pub returns-in_err-locks-in-Lock-clause-read : goal.returns-in_err-locks-in-Lock-clause-read
returns-in_err-locks-in-Lock-clause-read c =
    let a = with_clocks c.args.lines.now c.args.desc.now.defs (map seen_consumer c.args.consumers.now) (texts c.args.drivers.now) in
    let s = c.args.section.now in
    let stop = c.in_err-locks-in-Lock.field-0.0 in
    let p = err_from_is_err_and c.from_residual-in_err-locks-in-Lock.result c.from_residual-in_err-locks-in-Lock.ensures.1 in
    rw p.1 (subst (Stops (section_fault a c.args.before (said_section s)) s.place s.end) (sym p.2)
    (subst (λ (header : Header). Stops (section_fault a c.args.before (section_from (said_header header) s.place s.end)) s.place s.end stop) (sym c.in-Lock.is)
    (locks_stop a c.args.before s.place s.end stop c.in_err-locks-in-Lock.ensures)))

pub returns-in_ok-locks-in-Lock-clause-read : goal.returns-in_ok-locks-in-Lock-clause-read
returns-in_ok-locks-in-Lock-clause-read c =
    let a = with_clocks c.args.lines.now c.args.desc.now.defs (map seen_consumer c.args.consumers.now) (texts c.args.drivers.now) in
    let s = c.args.section.now in
    let read = c.in_ok-locks-in-Lock.ensures in
    subst (λ (header : Header). IsRead a c.args.before (said_header header) s.place s.end (parts.Locks c.in_ok-locks-in-Lock.locks)) (sym c.in-Lock.is)
    (locks_read a c.args.before s.place s.end c.in_ok-locks-in-Lock.locks read.0 read.1)

pub returns-in_err-late-in-Late-clause-read : goal.returns-in_err-late-in-Late-clause-read
returns-in_err-late-in-Late-clause-read c =
    let a = with_clocks c.args.lines.now c.args.desc.now.defs (map seen_consumer c.args.consumers.now) (texts c.args.drivers.now) in
    let s = c.args.section.now in
    let stop = c.in_err-late-in-Late.field-0.0 in
    let p = err_from_is_err_and c.from_residual-in_err-late-in-Late.result c.from_residual-in_err-late-in-Late.ensures.1 in
    rw p.1 (subst (Stops (section_fault a c.args.before (said_section s)) s.place s.end) (sym p.2)
    (subst (λ (header : Header). Stops (section_fault a c.args.before (section_from (said_header header) s.place s.end)) s.place s.end stop) (sym c.in-Late.is)
    (late_stop a c.args.before s.place s.end stop c.in_err-late-in-Late.ensures)))

pub returns-in_ok-late-in-Late-clause-read : goal.returns-in_ok-late-in-Late-clause-read
returns-in_ok-late-in-Late-clause-read c =
    let a = with_clocks c.args.lines.now c.args.desc.now.defs (map seen_consumer c.args.consumers.now) (texts c.args.drivers.now) in
    let s = c.args.section.now in
    let read = c.in_ok-late-in-Late.ensures in
    subst (λ (header : Header). IsRead a c.args.before (said_header header) s.place s.end (parts.Late c.in_ok-late-in-Late.late)) (sym c.in-Late.is)
    (late_read a c.args.before s.place s.end c.in_ok-late-in-Late.late read.0 read.1)

pub returns-in_err-turns-in-Order-clause-read : goal.returns-in_err-turns-in-Order-clause-read
returns-in_err-turns-in-Order-clause-read c =
    let a = with_clocks c.args.lines.now c.args.desc.now.defs (map seen_consumer c.args.consumers.now) (texts c.args.drivers.now) in
    let s = c.args.section.now in
    let stop = c.in_err-turns-in-Order.field-0.0 in
    let p = err_from_is_err_and c.from_residual-in_err-turns-in-Order.result c.from_residual-in_err-turns-in-Order.ensures.1 in
    rw p.1 (subst (Stops (section_fault a c.args.before (said_section s)) s.place s.end) (sym p.2)
    (subst (λ (header : Header). Stops (section_fault a c.args.before (section_from (said_header header) s.place s.end)) s.place s.end stop) (sym c.in-Order.is)
    (order_stop a c.args.before s.place s.end stop c.in_err-turns-in-Order.ensures)))

pub returns-in_ok-turns-in-Order-clause-read : goal.returns-in_ok-turns-in-Order-clause-read
returns-in_ok-turns-in-Order-clause-read c =
    let a = with_clocks c.args.lines.now c.args.desc.now.defs (map seen_consumer c.args.consumers.now) (texts c.args.drivers.now) in
    let s = c.args.section.now in
    let read = c.in_ok-turns-in-Order.ensures in
    subst (λ (header : Header). IsRead a c.args.before (said_header header) s.place s.end (parts.Turns c.in_ok-turns-in-Order.turns)) (sym c.in-Order.is)
    (order_read a c.args.before s.place s.end c.in_ok-turns-in-Order.turns read.0 read.1)

pub returns-in_err-script-in-Driver-clause-read : goal.returns-in_err-script-in-Driver-clause-read
returns-in_err-script-in-Driver-clause-read c =
    let a = with_clocks c.args.lines.now c.args.desc.now.defs (map seen_consumer c.args.consumers.now) (texts c.args.drivers.now) in
    let s = c.args.section.now in
    let stop = c.in_err-script-in-Driver.field-0.0 in
    let p = err_from_is_err_and c.from_residual.result c.from_residual.ensures.1 in
    rw p.1 (subst (Stops (section_fault a c.args.before (said_section s)) s.place s.end) (sym p.2)
    (subst (λ (header : Header). Stops (section_fault a c.args.before (section_from (said_header header) s.place s.end)) s.place s.end stop) (sym c.in-Driver.is)
    (c.in_err-script-in-Driver.ensures.read (texts c.args.drivers.now))))

pub returns-in_ok-script-in-Driver-clause-read : goal.returns-in_ok-script-in-Driver-clause-read
returns-in_ok-script-in-Driver-clause-read c =
    let a = with_clocks c.args.lines.now c.args.desc.now.defs (map seen_consumer c.args.consumers.now) (texts c.args.drivers.now) in
    let s = c.args.section.now in
    let read = c.in_ok-script-in-Driver.ensures.read (texts c.args.drivers.now) in
    subst (λ (header : Header). IsRead a c.args.before (said_header header) s.place s.end (parts.Driver c.in_ok-script-in-Driver.script)) (sym c.in-Driver.is)
    (driver_read a c.args.before _ _ s.place s.end c.in_ok-script-in-Driver.script read.0 read.1)
