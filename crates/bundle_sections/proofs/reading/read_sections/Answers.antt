use Rattle.std.proofs.Common.{◌∙◌, sym, ap, refl, inr}
use Rattle.bundle_sections.specs.Reads.{parts_of}
use Rattle.bundle_sections.specs.Said.{in_order}
use Rattle.bundle_sections.proofs.Forms.{all_formed}
use Rattle.bundle_sections.proofs.Needed.{missing, parts_found}
use Rattle.bundle_sections.proofs.reading.read_sections.Goals as goal

pub returns-in_default-clause-refused : goal.returns-in_default-clause-refused
returns-in_default-clause-refused c =
    let none = sym (ap parts_of c.in_ok-found.ensures.1.0) ∙ sym c.in_default.ensures in
    inr (inr (record {
      text = c.in_ok-check_text.ensures.1;
      placed = c.in_ok-found.ensures.0;
      missing = missing c.args.lines.now c.in_ok-found.ensures.0 none;
      line_is = refl;
      reason_is = refl;
    }))

pub returns-clause-accepted : goal.returns-clause-accepted
returns-clause-accepted c =
    record {
      text = c.in_ok-check_text.ensures.1;
      placed = c.in_ok-found.ensures.0;
      sections = sym c.in_ok-found.ensures.1.0 ∙ parts_found _ c.in-Some.sections (sym c.in-Some.ensures);
    }

pub returns-clause-each : goal.returns-clause-each
returns-clause-each c =
    all_formed c.args.lines.now (in_order c.in-Some.sections) c.in_ok-first.ensures.1.1 (sym c.in_ok-found.ensures.1.0 ∙ parts_found _ c.in-Some.sections (sym c.in-Some.ensures))
