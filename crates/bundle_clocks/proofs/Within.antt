-- The clocks that consumers and assigned clocks name are clocks of the description.
use Rattle.std.proofs.Common.{◌≡◌, ℕ, ◌≤◌, true, List, length, refl, sym, ap, subst, arith}
use Rattle.std.specs.List.{list_all}
use Rattle.bundle_sections.specs.Sections.{version_of}
use Rattle.bundle_sections.specs.declared.section.ClockSection.{ClockSection}
use Rattle.bundle_sections.specs.declared.section.ClockText.{ClockText}
use Rattle.bundle_sections.specs.declared.section.ClockText.TheVariants.{Lines, DeviceTree}
use Rattle.dts_bindings.specs.Versions.{all_known}
use Rattle.dts_clocks.proofs.FewSteps.{step_count, assigned_few}
use Rattle.dts_clocks.proofs.Within.{consumer_below, assigned_below, consumers_within, assigned_within}
use Rattle.bundle_clocks.specs.Said.{SaidClocks}
use Rattle.bundle_clocks.specs.Verdict.{SaysIn}

-- each consumer's names mean clocks of the description
pub consumers_named : (text : ClockText) (ls : List (List ℕ)) (s : ClockSection) (said : SaidClocks) → SaysIn text ls s said → list_all (consumer_below (length said.defs)) said.consumers ≡ true
consumers_named Lines ls s said h = subst (λ cs. list_all (consumer_below (length said.defs)) cs ≡ true) (sym h.consumers) refl
consumers_named DeviceTree ls s said h =
    subst (λ clocks. list_all (consumer_below (length clocks.defs)) clocks.consumers ≡ true) (sym h.content) (consumers_within (all_known (version_of ls) h.nodes) h.loaded h.accepted)

-- each assigned clock and each new parent is a clock of the description
pub assigned_named : (text : ClockText) (ls : List (List ℕ)) (s : ClockSection) (said : SaidClocks) → SaysIn text ls s said → list_all (assigned_below (length said.defs)) said.assigned ≡ true
assigned_named Lines ls s said h = subst (λ cs. list_all (assigned_below (length said.defs)) cs ≡ true) (sym h.assigned) refl
assigned_named DeviceTree ls s said h =
    subst (λ clocks. list_all (assigned_below (length clocks.defs)) clocks.assigned ≡ true) (sym h.content) (assigned_within (all_known (version_of ls) h.nodes) h.loaded h.accepted)

-- and no more is assigned than the limit of entries allows
pub steps_within : (text : ClockText) (ls : List (List ℕ)) (s : ClockSection) (said : SaidClocks) → SaysIn text ls s said → step_count said.assigned ≤ 4096
steps_within Lines ls s said h = subst (λ as_. step_count as_ ≤ 4096) (sym h.assigned) (omega arith)
steps_within DeviceTree ls s said h = subst (λ clocks. step_count clocks.assigned ≤ 4096) (sym h.content) (assigned_few (all_known (version_of ls) h.nodes) h.loaded h.accepted)
