use Rattle.std.proofs.Common.{◌∙◌, ◌+◌, ◌≤◌, ℕ, List, ap, sym, subst, map, drop, get_or, length, arith}
use Rattle.std.specs.List.{AllByRecursion}
use Rattle.std.proofs.lemmas.List.{drop_more, drop_all}
use Rattle.std.proofs.lemmas.List.Sums.{sum_by-append}
use Rattle.std.proofs.lemmas.Result.{err_from_is_err_and}
use Rattle.bundle_sections.specs.declared.header.Header.TheVariants.{DeviceTree}
use Rattle.bundle_sections.specs.declared.section.Section.{Section}
use Rattle.bundle_sections.specs.Said.{said_section}
use Rattle.bundle_text.specs.Words.{texts}
use Rattle.dts_clocks.specs.Consumers.{seen_consumer}
use Rattle.drv_scripts.specs.declared.bundle.Script.{Script}
use Rattle.drv_scripts.specs.Judged.{Stops}
use Rattle.drv_scripts.specs.Parts.{part_drivers, AreRead}
use Rattle.drv_scripts.specs.Sections.{with_clocks, count_of, fault_among}
use Rattle.drv_scripts.specs.Steps.{begins, IsLeft}
use Rattle.drv_scripts.proofs.Among.{left_all, left_more, left_none, left_stop, left_within}
use Rattle.drv_scripts.proofs.ListPlaced.{all_append}
use Rattle.drv_scripts.proofs.PartLaws.{read_none, read_more, read_all}
use Rattle.drv_scripts.proofs.sections.read_others.Goals as goal

pub read_section-requires-clause-within : goal.read_section-requires-clause-within
read_section-requires-clause-within c =
    let a = with_clocks c.args.lines.now c.args.desc.now.defs (map seen_consumer c.args.consumers.now) (texts c.args.drivers.now) in
    let sections = c.args.sections.now in
    let all = map said_section sections in
    let n = length c.args.lines.now in
    let i = c.loop-section.section-index in
    let none : Section = record { header = DeviceTree; place = 0; end = 0 } in
    let s = said_section (get_or sections i none) in
    let rest = map said_section (drop (i + 1) sections) in
    let next = ap (map said_section) (drop_more sections i none c.loop-section-test.true) in
    left_within a all n c.loop-section.count s rest (subst (IsLeft a all n c.loop-section.count) next c.loop-section.invariant.left)

pub loop-section-init : goal.loop-section-init
loop-section-init c =
    let a = with_clocks c.args.lines.now c.args.desc.now.defs (map seen_consumer c.args.consumers.now) (texts c.args.drivers.now) in
    let all = map said_section c.args.sections.now in
    let none = c.new-others.ensures in
    let few : List Script → Type 0 = λ scripts. AllByRecursion (λ (script : Script). length script.commands ≤ 65536) scripts in
    record {
      left = left_all a all (length c.args.lines.now) c.requires.tiled;
      read = read_none a all c.new-others.result none;
      few = subst few (sym none.drivers) tt;
      counted = ap count_of none.drivers;
      fewer = omega arith;
    }

pub returns-in_err-part-clause-read : goal.returns-in_err-part-clause-read
returns-in_err-part-clause-read c =
    let a = with_clocks c.args.lines.now c.args.desc.now.defs (map seen_consumer c.args.consumers.now) (texts c.args.drivers.now) in
    let sections = c.args.sections.now in
    let all = map said_section sections in
    let n = length c.args.lines.now in
    let i = c.loop-section.section-index in
    let none : Section = record { header = DeviceTree; place = 0; end = 0 } in
    let s = said_section (get_or sections i none) in
    let rest = map said_section (drop (i + 1) sections) in
    let next = ap (map said_section) (drop_more sections i none c.loop-section-test.true) in
    let left = subst (IsLeft a all n c.loop-section.count) next c.loop-section.invariant.left in
    let p = err_from_is_err_and c.from_residual.result c.from_residual.ensures.1 in
    rw p.1 (subst (Stops (fault_among a 0 all) (begins n all) n) (sym p.2) (left_stop a all n c.loop-section.count s rest c.in_err-part.field-0.0 left c.in_err-part.ensures.read))

pub loop-section-preserved : goal.loop-section-preserved
loop-section-preserved c =
    let a = with_clocks c.args.lines.now c.args.desc.now.defs (map seen_consumer c.args.consumers.now) (texts c.args.drivers.now) in
    let sections = c.args.sections.now in
    let all = map said_section sections in
    let n = length c.args.lines.now in
    let i = c.loop-section.section-index in
    let none : Section = record { header = DeviceTree; place = 0; end = 0 } in
    let s = said_section (get_or sections i none) in
    let rest = map said_section (drop (i + 1) sections) in
    let next = ap (map said_section) (drop_more sections i none c.loop-section-test.true) in
    let was = c.loop-section.invariant in
    let count = c.loop-section.count in
    let left = subst (IsLeft a all n count) next was.left in
    let part = c.in_ok-part.part in
    let read = c.in_ok-part.ensures.read in
    let done = c.loop-section.others.drivers.items in
    let added = c.in_ok-add.ensures in
    let counted = c.count-count.ensures in
    let few : List Script → Type 0 = λ scripts. AllByRecursion (λ (script : Script). length script.commands ≤ 65536) scripts in
    let fewer = c.in_ok-part.ensures.fewer in
    record {
      left = subst (λ (m : ℕ). IsLeft a all n m rest) (ap (λ m. count + m) (ap count_of (sym read.1.drivers) ∙ sym counted)) (left_more a all n count s rest left read.0);
      read = read_more a all s rest _ part _ (subst (λ (xs : List _). AreRead a all xs c.loop-section.others) next was.read) read.1 added;
      few = subst few (sym added.drivers) (all_append (λ (script : Script). length script.commands ≤ 65536) done (part_drivers part) was.few c.in_ok-part.ensures.few);
      counted = ap count_of added.drivers ∙ (sum_by-append (λ (script : Script). length script.commands) done (part_drivers part) ∙ (ap (λ m. m + count_of (part_drivers part)) was.counted ∙ ap (λ m. count + m) (sym counted)));
      fewer = omega (arith, fewer, counted);
    }

pub returns-clause-read : goal.returns-clause-read
returns-clause-read c =
    let a = with_clocks c.args.lines.now c.args.desc.now.defs (map seen_consumer c.args.consumers.now) (texts c.args.drivers.now) in
    let all = map said_section c.args.sections.now in
    let n = length c.args.lines.now in
    let rest = map said_section (drop c.loop-section.section-index c.args.sections.now) in
    let none = ap (map said_section) (drop_all c.loop-section.section-index c.args.sections.now c.loop-section-test.false) in (
      left_none a all n c.loop-section.count rest none c.loop-section.invariant.left,
      read_all a all rest c.loop-section.others none c.loop-section.invariant.read,
    )
