use Rattle.std.proofs.Common.{◌∙◌, List, ap, sym, subst, map, arith}
use Rattle.clk_base.specs.Checked.{Checked}
use Rattle.clk_base.specs.Valid.{IsValid}
use Rattle.bundle_clocks.specs.Said.{said_clocks}
use Rattle.bundle_clocks.specs.Verdict as clock_verdict
use Rattle.bundle_clocks.proofs.Counts.{lines_count}
use Rattle.bundle_clocks.proofs.Within.{consumers_named, assigned_named, steps_within}
use Rattle.bundle_sections.specs.declared.section.BankSection.{BankSection}
use Rattle.bundle_sections.specs.declared.section.ClockSection.{ClockSection}
use Rattle.dts_clocks.specs.declared.loaded.Assigned.{Assigned}
use Rattle.dts_clocks.specs.declared.loaded.Consumer.{Consumer}
use Rattle.dts_clocks.specs.Assigned.{seen_assigned}
use Rattle.dts_clocks.specs.Consumers.{seen_consumer}
use Rattle.drv_scripts.specs.Placed.{IsSound}
use Rattle.drv_scripts.specs.Sections.{with_clocks, driver_names}
use Rattle.drv_scripts.specs.Parts.{made}
use Rattle.drv_scripts.proofs.Bundles.{bundle_is}
use Rattle.drv_scripts.proofs.Divided.{parts_lie}
use Rattle.drv_scripts.proofs.FewDrivers.{names_few}
use Rattle.drv_scripts.proofs.Made.{made_sound, content_of}
use Rattle.drv_scripts.proofs.reading.read_parts.Goals as goal

pub read_clocks_part-requires-clause-within : goal.read_clocks_part-requires-clause-within
read_clocks_part-requires-clause-within c =
    let lie = parts_lie c.args.lines.now c.args.sections.now c.requires.tiled c.requires.each in
    omega (arith, lie.within, ap (λ s. s.end) c.clocks.ensures)

pub read_contents-requires-clause-drivers : goal.read_contents-requires-clause-drivers
read_contents-requires-clause-drivers c =
    let lie = parts_lie c.args.lines.now c.args.sections.now c.requires.tiled c.requires.each in
    names_few c.args.lines.now c.args.sections.now (omega (arith, lie.within)) c.requires.accepted

pub returns-in_ok-bundle-in-Ok-clause-spelled : goal.returns-in_ok-bundle-in-Ok-clause-spelled
returns-in_ok-bundle-in-Ok-clause-spelled c =
    let ls = c.args.lines.now in
    let parts = c.args.sections.now in
    let clocks = c.in_ok-clocks.clocks in
    let said = said_clocks clocks in
    let desc = c.in_ok-desc.desc in
    let contents = c.in-Ok.contents in
    let names = driver_names parts.others in
    let same = ap (λ (d : Checked). with_clocks ls d.defs (map seen_consumer c.deref-2.result.now) names) c.in_ok-desc.ensures.same ∙ ap (λ (xs : List Consumer). with_clocks ls clocks.desc (map seen_consumer xs) names) c.deref-2.ensures.value in
    let read = content_of ls parts said (with_clocks ls desc.defs (map seen_consumer c.deref-2.result.now) names) contents.words.items contents.others same c.in-Ok.ensures.read c.in-Ok.ensures.size c.in-Ok.ensures.few c.in-Ok.ensures.fewer in
    let checked = c.in_ok-desc.ensures.same ∙ ap (λ (b : BankSection). record { defs = clocks.desc; words = b.words }) c.bank.ensures in
    let valid = subst (λ (b : BankSection). IsValid b.words clocks.desc) c.bank.ensures c.in_ok-desc.ensures.valid in
    record {
      said = said;
      says = subst (λ (s : ClockSection). clock_verdict.Says ls s said) c.clocks.ensures c.in_ok-clocks.ensures.said;
      rules = valid.rules;
      kept = read.0;
      content = c.in_ok-bundle-in-Ok.ensures
          ∙ (ap (λ (xs : List Assigned). made desc clocks.lines.items (map seen_assigned xs) contents.words.items contents.others) c.deref-in-Ok.ensures.value
          ∙ bundle_is ls parts said desc contents.words.items contents.others checked read.1.words_are read.1.others_are);
    }

pub returns-in_ok-bundle-in-Ok-clause-sound : goal.returns-in_ok-bundle-in-Ok-clause-sound
returns-in_ok-bundle-in-Ok-clause-sound c =
    let ls = c.args.lines.now in
    let parts = c.args.sections.now in
    let clocks = c.in_ok-clocks.clocks in
    let said = said_clocks clocks in
    let desc = c.in_ok-desc.desc in
    let contents = c.in-Ok.contents in
    let names = driver_names parts.others in
    let same = ap (λ (d : Checked). with_clocks ls d.defs (map seen_consumer c.deref-2.result.now) names) c.in_ok-desc.ensures.same ∙ ap (λ (xs : List Consumer). with_clocks ls clocks.desc (map seen_consumer xs) names) c.deref-2.ensures.value in
    let read = content_of ls parts said (with_clocks ls desc.defs (map seen_consumer c.deref-2.result.now) names) contents.words.items contents.others same c.in-Ok.ensures.read c.in-Ok.ensures.size c.in-Ok.ensures.few c.in-Ok.ensures.fewer in
    let checked = c.in_ok-desc.ensures.same ∙ ap (λ (b : BankSection). record { defs = clocks.desc; words = b.words }) c.bank.ensures in
    let valid = subst (λ (b : BankSection). IsValid b.words clocks.desc) c.bank.ensures c.in_ok-desc.ensures.valid in
    let content = c.in_ok-bundle-in-Ok.ensures
    ∙ (ap (λ (xs : List Assigned). made desc clocks.lines.items (map seen_assigned xs) contents.words.items contents.others) c.deref-in-Ok.ensures.value
    ∙ bundle_is ls parts said desc contents.words.items contents.others checked read.1.words_are read.1.others_are) in
    subst IsSound (sym content)
    (made_sound ls parts said contents.words.items contents.others (parts_lie ls parts c.requires.tiled c.requires.each) c.requires.accepted c.requires.each.1.1
    c.in_ok-clocks.ensures.names valid (lines_count _ ls _ _ c.in_ok-clocks.ensures.said)
    (consumers_named _ ls _ _ c.in_ok-clocks.ensures.said) (assigned_named _ ls _ _ c.in_ok-clocks.ensures.said)
    (steps_within _ ls _ _ c.in_ok-clocks.ensures.said) read.1)
