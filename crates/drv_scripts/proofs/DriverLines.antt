-- The header and the lines of a driver's section.
use Rattle.std.proofs.Common.{◌≡◌, ℕ, ◌+◌, ◌-◌, ◌<◌, ◌==◌, ◌∷◌, [], true, false, List, Option, Some, None, ap, ◌∙◌, inl, inr, arith}
use Rattle.std.specs.Option.{option_flatten, is_some}
use Rattle.std.proofs.lemmas.Bool.{cases_lt, cond-true, cond-false}
use Rattle.std.proofs.lemmas.Bool.Decides.{nat_tests}
use Rattle.bundle_sections.specs.Headers.{Said, driver}
use Rattle.bundle_text.specs.Faults.{unless}
use Rattle.bundle_text.specs.declared.reason.Reason.TheVariants.{UnknownName}
use Rattle.dts_clocks.specs.Consumers.{SeenName}
use Rattle.drv_scripts.specs.declared.bundle.Script.{Script}
use Rattle.drv_scripts.specs.declared.stop.Stop.{Stop}
use Rattle.drv_scripts.specs.declared.stop.Stop.TheVariants.{At, NoMemory}
use Rattle.drv_scripts.specs.Commands.{command_fault, commands_of}
use Rattle.drv_scripts.specs.Judged.{KeepsBetween, Stops}
use Rattle.drv_scripts.specs.Sections.{Around, section_from, names_at, header_fault, inside_fault, section_fault, scripts_between}

is_place : (k : ℕ) → (k == k) ≡ true
is_place k = grind (arith, nat_tests)

no_place : (k place : ℕ) → place < k → (k == place) ≡ false
no_place k place lt = grind (arith, nat_tests)

pub fault-header : (a : Around) (before : ℕ) (says : Said) (place end : ℕ) → section_fault a before (section_from says place end) place ≡ header_fault a says
unfolding section_fault
fault-header a before says place end = cond-true _ _ _ (is_place place)

pub fault-inside : (a : Around) (before : ℕ) (says : Said) (place end k : ℕ) → place < k → section_fault a before (section_from says place end) k ≡ inside_fault a before (place + 1) says k
unfolding section_fault
fault-inside a before says place end k lt = cond-false _ _ _ (no_place k place lt)

-- ## A driver

-- its path is no consumer's
pub fault-unnamed : (a : Around) (before : ℕ) (name : List ℕ) (path : Option (List ℕ)) (place end : ℕ) → names_at a.consumers path ≡ None
    → section_fault a before (section_from (driver name path) place end) place ≡ Some UnknownName
unfolding header_fault
fault-unnamed a before name path place end none = fault-header a before (driver name path) place end ∙ ap (λ o. unless (is_some o) UnknownName) none

fault-named : (a : Around) (before : ℕ) (name : List ℕ) (path : Option (List ℕ)) (place end : ℕ) (names : Option (List SeenName)) → names_at a.consumers path ≡ Some names
    → section_fault a before (section_from (driver name path) place end) place ≡ None
unfolding header_fault
fault-named a before name path place end names found = fault-header a before (driver name path) place end ∙ ap (λ o. unless (is_some o) UnknownName) found

fault-command : (a : Around) (before : ℕ) (name : List ℕ) (path : Option (List ℕ)) (place end k : ℕ) (names : Option (List SeenName)) → names_at a.consumers path ≡ Some names → place < k
    → section_fault a before (section_from (driver name path) place end) k ≡ command_fault a.defs names before a.lines (place + 1) k
unfolding inside_fault
fault-command a before name path place end k names found lt =
    fault-inside a before (driver name path) place end k lt ∙ ap (λ o. command_fault a.defs (option_flatten o) before a.lines (place + 1) k) found

pub driver_kept : (a : Around) (before : ℕ) (name : List ℕ) (path : Option (List ℕ)) (place end : ℕ) (names : Option (List SeenName)) → names_at a.consumers path ≡ Some names
    → KeepsBetween (command_fault a.defs names before a.lines (place + 1)) (place + 1) end → KeepsBetween (section_fault a before (section_from (driver name path) place end)) place end
driver_kept a before name path place end names found read k low high =
    elim (cases_lt place k) [
      | inl behind ↦ fault-command a before name path place end k names found behind ∙ read k (omega arith) high
      | inr here ↦ (let same : k ≡ place = omega (arith, here) in ap (section_fault a before (section_from (driver name path) place end)) same ∙ fault-named a before name path place end names found)
    ]

pub driver_stop : (a : Around) (before : ℕ) (name : List ℕ) (path : Option (List ℕ)) (place end : ℕ) (names : Option (List SeenName)) (stop : Stop) → names_at a.consumers path ≡ Some names
    → Stops (command_fault a.defs names before a.lines (place + 1)) (place + 1) end stop → Stops (section_fault a before (section_from (driver name path) place end)) place end stop
driver_stop a before name path place end names (At at reason) found h =
    let first = h.low in
    record {
      low = omega (arith, first);
      high = h.high;
      before = λ k low high.
          elim (cases_lt place k) [
            | inl behind ↦ fault-command a before name path place end k names found behind ∙ h.before k (omega arith) high
            | inr here ↦ (let same : k ≡ place = omega (arith, here) in ap (section_fault a before (section_from (driver name path) place end)) same ∙ fault-named a before name path place end names found)
          ];
      found = fault-command a before name path place end at names found (omega (arith, first)) ∙ h.found;
    }
driver_stop a before name path place end names NoMemory found h = tt

pub driver_said : (a : Around) (name : List ℕ) (path : Option (List ℕ)) (first end : ℕ) (names : Option (List SeenName)) → names_at a.consumers path ≡ Some names
    → scripts_between a (driver name path) first end ≡ record { name = name; commands = commands_of a.defs names a.lines first (end - first) } ∷ []
unfolding scripts_between
driver_said a name path first end names found =
    let made : Option (List SeenName) → List Script = λ own. record { name = name; commands = commands_of a.defs own a.lines first (end - first) } ∷ [] in
    ap (λ o. made (option_flatten o)) found
