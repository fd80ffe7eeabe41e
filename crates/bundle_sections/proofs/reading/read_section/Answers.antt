use Rattle.std.proofs.Common.{◌∙◌, sym, ap, arith, map}
use Rattle.bundle_text.specs.Words.{texts}
use Rattle.bundle_sections.specs.Headers.{read_header}
use Rattle.bundle_sections.specs.Said.{said_header, said_section}
use Rattle.bundle_sections.specs.Sections.{header_fault}
use Rattle.bundle_sections.proofs.Places.{stopped, header_broken, header_next}
use Rattle.bundle_sections.proofs.reading.read_section.Goals as goal

pub returns-in-Err : goal.returns-in-Err
returns-in-Err c =
    let words = ap texts c.deref.ensures.value ∙ c.in_ok-words.ensures in
    let read = sym (ap read_header words) ∙ c.in-Err.ensures in
    let broken = header_broken c.args.lines.now c.args.at _ _ c.requires.at c.requires.within (ap (header_fault (map said_section c.args.found.now)) read) in
    stopped _ _ c.args.at _ _ c.at_place.ensures (omega arith) c.requires.at.kept broken

pub returns-in-Some : goal.returns-in-Some
returns-in-Some c =
    let words = ap texts c.deref.ensures.value ∙ c.in_ok-words.ensures in
    let read = sym (ap read_header words) ∙ c.in-Ok.ensures in
    let broken = header_broken c.args.lines.now c.args.at _ _ c.requires.at c.requires.within (ap (header_fault (map said_section c.args.found.now)) read ∙ sym c.order_fault.ensures ∙ c.in-Some.is) in
    stopped _ _ c.args.at _ _ c.at_place-in-Some.ensures (omega arith) c.requires.at.kept broken

pub returns : goal.returns
returns c =
    let words = ap texts c.deref.ensures.value ∙ c.in_ok-words.ensures in
    let read = sym (ap read_header words) ∙ c.in-Ok.ensures in
    let fine = ap (header_fault (map said_section c.args.found.now)) read ∙ sym c.order_fault.ensures ∙ c.in_default.is in
    header_next c.args.lines.now c.args.at c.next_header-end.result _ (said_header c.in-Ok.header) c.requires.at c.requires.within c.next_header-end.ensures.at c.next_header-end.ensures.bound read fine
