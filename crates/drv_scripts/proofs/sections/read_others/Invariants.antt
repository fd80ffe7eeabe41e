use Rattle.std.proofs.Common.{◌≡◌, ◌≤◌, length, map, drop}
use Rattle.std.specs.List.{AllByRecursion}
use Rattle.bundle_sections.specs.Said.{said_section}
use Rattle.bundle_text.specs.Words.{texts}
use Rattle.dts_clocks.specs.Consumers.{seen_consumer}
use Rattle.drv_scripts.specs.Parts.{AreRead}
use Rattle.drv_scripts.specs.Sections.{with_clocks, count_of}
use Rattle.drv_scripts.specs.Steps.{IsLeft}
use Rattle.drv_scripts.proofs.sections.read_others.Given as goal

-- the sections so far have no fault, and what they say is read
abbrev pub invariant-loop-section : goal.invariant-loop-section
invariant-loop-section l =
    let a = with_clocks l.lines l.desc.defs (map seen_consumer l.consumers) (texts l.drivers) in
    let all = map said_section l.sections in
    let rest = map said_section (drop l.section-index l.sections) in
    record {
      left : IsLeft a all (length l.lines) l.count rest;
      read : AreRead a all rest l.others;
      few : AllByRecursion (λ s. length s.commands ≤ 65536) l.others.drivers.items;
      counted : count_of l.others.drivers.items ≡ l.count;
      fewer : l.count ≤ 1048576;
    }
