-- The header and the lines of a section that isn't a driver's, and what was read of it.
use Rattle.std.proofs.Common.{◌≡◌, ℕ, ◌+◌, ◌-◌, ◌∷◌, [], List, Option, None, refl, ap, ◌∙◌, inl, inr, arith}
use Rattle.std.specs.Prelude.{Vec}
use Rattle.std.specs.declared.alloc.Global.{Global}
use Rattle.std.proofs.lemmas.Bool.{cases_lt}
use Rattle.bundle_sections.specs.Headers.{Said, device_tree, clocks, bank, lock, late, driver, order}
use Rattle.bundle_text.specs.declared.reason.Reason.{Reason}
use Rattle.drv_scripts.specs.declared.bundle.LateLine.{LateLine}
use Rattle.drv_scripts.specs.declared.bundle.LockLine.{LockLine}
use Rattle.drv_scripts.specs.declared.bundle.Script.{Script}
use Rattle.drv_scripts.specs.declared.part.Part.{Part}
use Rattle.drv_scripts.specs.declared.part.Part.TheVariants as parts
use Rattle.drv_scripts.specs.declared.stop.Stop.{Stop}
use Rattle.drv_scripts.specs.declared.stop.Stop.TheVariants.{At, NoMemory}
use Rattle.drv_scripts.specs.Judged.{KeepsBetween, Stops}
use Rattle.drv_scripts.specs.ListLines.{lock_fault, locks_of, late_fault, late_of, order_fault, turns_of}
use Rattle.drv_scripts.specs.Parts.{IsPart}
use Rattle.drv_scripts.specs.Sections.{Around, section_from, header_fault, inside_fault, section_fault, scripts_between, locks_between, late_between, turns_between}
use Rattle.drv_scripts.proofs.DriverLines.{fault-header, fault-inside}

-- the lines of a section have no fault, and this was read of it
abbrev pub IsRead : Around → ℕ → Said → ℕ → ℕ → Part → Type 0
IsRead a before says place end part = KeepsBetween (section_fault a before (section_from says place end)) place end × IsPart a (section_from says place end) part

-- lines whose faults are those of a test, behind a header without one
inside_kept : (a : Around) (before : ℕ) (says : Said) (place end : ℕ) (test : ℕ → Option Reason) → header_fault a says ≡ None → ((k : ℕ) → inside_fault a before (place + 1) says k ≡ test k)
    → KeepsBetween test (place + 1) end → KeepsBetween (section_fault a before (section_from says place end)) place end
inside_kept a before says place end test head same read k low high =
    elim (cases_lt place k) [
      | inl behind ↦ fault-inside a before says place end k behind ∙ (same k ∙ read k (omega arith) high)
      | inr here ↦ (let is : k ≡ place = omega (arith, here) in ap (section_fault a before (section_from says place end)) is ∙ (fault-header a before says place end ∙ head))
    ]

-- the first fault of these lines is the first of the section
inside_stop : (a : Around) (before : ℕ) (says : Said) (place end : ℕ) (test : ℕ → Option Reason) (stop : Stop) → header_fault a says ≡ None → ((k : ℕ) → inside_fault a before (place + 1) says k ≡ test k)
    → Stops test (place + 1) end stop → Stops (section_fault a before (section_from says place end)) place end stop
inside_stop a before says place end test (At at reason) head same h =
    let first = h.low in
    record {
      low = omega (arith, first);
      high = h.high;
      before = λ k low high.
          elim (cases_lt place k) [
            | inl behind ↦ fault-inside a before says place end k behind ∙ (same k ∙ h.before k (omega arith) high)
            | inr here ↦ (let is : k ≡ place = omega (arith, here) in ap (section_fault a before (section_from says place end)) is ∙ (fault-header a before says place end ∙ head))
          ];
      found = fault-inside a before says place end at (omega (arith, first)) ∙ (same at ∙ h.found);
    }
inside_stop a before says place end test NoMemory head same h = tt

-- ## Locks

pub locks_stop : (a : Around) (before place end : ℕ) (stop : Stop) → Stops (lock_fault a.defs a.lines) (place + 1) end stop → Stops (section_fault a before (section_from lock place end)) place end stop
unfolding header_fault inside_fault
locks_stop a before place end stop h = inside_stop a before lock place end (lock_fault a.defs a.lines) stop refl (λ k. refl) h

pub locks_read : (a : Around) (before place end : ℕ) (locks : Vec LockLine Global) → KeepsBetween (lock_fault a.defs a.lines) (place + 1) end → locks.items ≡ locks_of a.defs a.lines (place + 1) (end - (place + 1))
    → IsRead a before lock place end (parts.Locks locks)
unfolding header_fault inside_fault scripts_between locks_between late_between turns_between
locks_read a before place end locks kept same = (
  inside_kept a before lock place end (lock_fault a.defs a.lines) refl (λ k. refl) kept,
  record { locks = same; late = refl; drivers = refl; order = refl },
)

-- ## Late clocks

pub late_stop : (a : Around) (before place end : ℕ) (stop : Stop) → Stops (late_fault a.defs a.lines) (place + 1) end stop → Stops (section_fault a before (section_from late place end)) place end stop
unfolding header_fault inside_fault
late_stop a before place end stop h = inside_stop a before late place end (late_fault a.defs a.lines) stop refl (λ k. refl) h

pub late_read : (a : Around) (before place end : ℕ) (found : Vec LateLine Global) → KeepsBetween (late_fault a.defs a.lines) (place + 1) end → found.items ≡ late_of a.defs a.lines (place + 1) (end - (place + 1))
    → IsRead a before late place end (parts.Late found)
unfolding header_fault inside_fault scripts_between locks_between late_between turns_between
late_read a before place end found kept same = (
  inside_kept a before late place end (late_fault a.defs a.lines) refl (λ k. refl) kept,
  record { locks = refl; late = same; drivers = refl; order = refl },
)

-- ## Turns

pub order_stop : (a : Around) (before place end : ℕ) (stop : Stop) → Stops (order_fault a.drivers a.lines (place + 1)) (place + 1) end stop → Stops (section_fault a before (section_from order place end)) place end stop
unfolding header_fault inside_fault
order_stop a before place end stop h = inside_stop a before order place end (order_fault a.drivers a.lines (place + 1)) stop refl (λ k. refl) h

pub order_read : (a : Around) (before place end : ℕ) (turns : Vec ℕ Global) → KeepsBetween (order_fault a.drivers a.lines (place + 1)) (place + 1) end
    → turns.items ≡ turns_of a.drivers a.lines (place + 1) (end - (place + 1)) → IsRead a before order place end (parts.Turns turns)
unfolding header_fault inside_fault scripts_between locks_between late_between turns_between
order_read a before place end turns kept same = (
  inside_kept a before order place end (order_fault a.drivers a.lines (place + 1)) refl (λ k. refl) kept,
  record { locks = refl; late = refl; drivers = refl; order = same },
)

-- ## A driver

pub driver_read : (a : Around) (before : ℕ) (name : List ℕ) (path : Option (List ℕ)) (place end : ℕ) (script : Script) → KeepsBetween (section_fault a before (section_from (driver name path) place end)) place end
    → script ∷ [] ≡ scripts_between a (driver name path) (place + 1) end → IsRead a before (driver name path) place end (parts.Driver script)
unfolding locks_between late_between turns_between
driver_read a before name path place end script kept same = (kept, record { locks = refl; late = refl; drivers = same; order = refl })

-- ## Sections that say nothing

pub tree_read : (a : Around) (before place end : ℕ) → IsRead a before device_tree place end parts.Nothing
unfolding header_fault inside_fault scripts_between locks_between late_between turns_between
tree_read a before place end = (inside_kept a before device_tree place end (λ k. None) refl (λ k. refl) (λ k low high. refl), record { locks = refl; late = refl; drivers = refl; order = refl })

pub clocks_read : (a : Around) (before place end : ℕ) → IsRead a before clocks place end parts.Nothing
unfolding header_fault inside_fault scripts_between locks_between late_between turns_between
clocks_read a before place end = (inside_kept a before clocks place end (λ k. None) refl (λ k. refl) (λ k low high. refl), record { locks = refl; late = refl; drivers = refl; order = refl })

pub bank_read : (a : Around) (before words place end : ℕ) → IsRead a before (bank words) place end parts.Nothing
unfolding header_fault inside_fault scripts_between locks_between late_between turns_between
bank_read a before words place end = (inside_kept a before (bank words) place end (λ k. None) refl (λ k. refl) (λ k low high. refl), record { locks = refl; late = refl; drivers = refl; order = refl })
