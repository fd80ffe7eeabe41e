use Rattle.std.proofs.Common.{◌∙◌, ◌+◌, ℕ, List, ap, sym, subst, map, length}
use Rattle.std.proofs.lemmas.Result.{err_from_is_err_and}
use Rattle.bundle_sections.specs.declared.section.BankSection.{BankSection}
use Rattle.bundle_sections.specs.Sections.{SaidSection}
use Rattle.bundle_sections.proofs.Places.{tiles-le}
use Rattle.dts_clocks.specs.Consumers.{seen_consumer}
use Rattle.bundle_sections.specs.Said.{said_section}
use Rattle.bundle_text.specs.Words.{texts}
use Rattle.drv_scripts.specs.declared.part.Others.{Others}
use Rattle.drv_scripts.specs.BankLines.{word_fault}
use Rattle.drv_scripts.specs.Judged.{KeepsBetween, Stops}
use Rattle.drv_scripts.specs.Parts.{AreOthers}
use Rattle.drv_scripts.specs.Sections.{Around, with_clocks, driver_names, fault_among, fault_at}
use Rattle.drv_scripts.specs.Spelled.{bank_words}
use Rattle.drv_scripts.specs.Steps.{begins, StopsFirst}
use Rattle.drv_scripts.proofs.Among.{begins_at}
use Rattle.drv_scripts.proofs.Whole.{kept_bank, stop_bank, kept_whole, stop_whole}
use Rattle.drv_scripts.proofs.contents.read_contents.Goals as goal

-- the lines of sections have no fault, and these others were read of them
abbrev OthersRead : Around → List SaidSection → ℕ → Others → Type 0
OthersRead a all n others = KeepsBetween (fault_among a 0 all) (begins n all) n × AreOthers a all others

pub returns-in_err-words-clause-read : goal.returns-in_err-words-clause-read
returns-in_err-words-clause-read c =
    let a = with_clocks c.args.lines.now c.args.desc.now.defs (map seen_consumer c.args.consumers.now) (driver_names c.args.sections.now.others) in
    let ls = c.args.lines.now in
    let b = c.args.sections.now.bank in
    let others = c.args.sections.now.others in
    let stop = c.in_err-words.field-0.0 in
    let stops = subst (λ (x : BankSection). Stops (word_fault x.words ls) (x.place + 1) x.end stop) c.bank-bank.ensures c.in_err-words.ensures.read in
    let p = err_from_is_err_and c.from_residual.result c.from_residual.ensures.1 in
    rw p.1 (subst (StopsFirst (fault_at a b others) (length ls)) (sym p.2) (stop_bank a b others (length ls) stop c.requires.order (tiles-le b.end (length ls) others c.requires.tiled) stops))

pub returns-in_err-others-clause-read : goal.returns-in_err-others-clause-read
returns-in_err-others-clause-read c =
    let a = with_clocks c.args.lines.now c.args.desc.now.defs (map seen_consumer c.args.consumers.now) (driver_names c.args.sections.now.others) in
    let ls = c.args.lines.now in
    let b = c.args.sections.now.bank in
    let others = c.args.sections.now.others in
    let stop = c.in_err-others.field-0.0 in
    let front = kept_bank a b others c.requires.order (subst (λ (x : BankSection). KeepsBetween (word_fault x.words ls) (x.place + 1) x.end) c.bank-bank.ensures c.in_ok-words.ensures.read.0) in
    let drivers = ap texts c.deref.ensures.value ∙ c.in_ok-names.ensures ∙ ap driver_names c.others.ensures in
    let around : List (List ℕ) → Around = with_clocks ls c.args.desc.now.defs (map seen_consumer c.args.consumers.now) in
    let stops = subst (λ (xs : List SaidSection). Stops (fault_among a 0 xs) (begins (length ls) xs) (length ls) stop) c.others-2.ensures
    (subst (λ (names : List (List ℕ)). Stops (fault_among (around names) 0 (map said_section c.others-2.result.now)) (begins (length ls) (map said_section c.others-2.result.now)) (length ls) stop) drivers c.in_err-others.ensures.read) in
    let p = err_from_is_err_and c.from_residual-in_err-others.result c.from_residual-in_err-others.ensures.1 in
    rw p.1 (subst (StopsFirst (fault_at a b others) (length ls)) (sym p.2) (stop_whole a b others (length ls) stop front (sym (begins_at b.end (length ls) others c.requires.tiled)) stops))

pub returns-clause-read : goal.returns-clause-read
returns-clause-read c =
    let a = with_clocks c.args.lines.now c.args.desc.now.defs (map seen_consumer c.args.consumers.now) (driver_names c.args.sections.now.others) in
    let ls = c.args.lines.now in
    let b = c.args.sections.now.bank in
    let others = c.args.sections.now.others in
    let front = kept_bank a b others c.requires.order (subst (λ (x : BankSection). KeepsBetween (word_fault x.words ls) (x.place + 1) x.end) c.bank-bank.ensures c.in_ok-words.ensures.read.0) in
    let drivers = ap texts c.deref.ensures.value ∙ c.in_ok-names.ensures ∙ ap driver_names c.others.ensures in
    let around : List (List ℕ) → Around = with_clocks ls c.args.desc.now.defs (map seen_consumer c.args.consumers.now) in
    let read = subst (λ (names : List (List ℕ)). OthersRead (around names) (map said_section c.others-2.result.now) (length ls) c.in_ok-others.others) drivers c.in_ok-others.ensures.read in
    let later = subst (λ (xs : List SaidSection). KeepsBetween (fault_among a 0 xs) (begins (length ls) xs) (length ls)) c.others-2.ensures read.0 in (
      kept_whole a b others (length ls) front (sym (begins_at b.end (length ls) others c.requires.tiled)) later,
      c.in_ok-words.ensures.read.1 ∙ ap (bank_words ls) c.bank-bank.ensures,
      subst (λ (xs : List SaidSection). AreOthers a xs c.in_ok-others.others) c.others-2.ensures read.1,
    )
