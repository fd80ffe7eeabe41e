-- A bundle that was read fits together.
use Rattle.std.proofs.Common.{◌≡◌, ℕ, ◌≤◌, true, List, length, sym, ap, subst, ◌∙◌, arith}
use Rattle.std.specs.List.{AllByRecursion, list_all}
use Rattle.bundle_text.specs.Firsts.{KeepsBelow}
use Rattle.bundle_text.specs.Names.{is_clock_name}
use Rattle.clk_base.specs.Description.{name_of, EachClock}
use Rattle.clk_base.specs.Valid.{IsValid}
use Rattle.bundle_clocks.specs.Said.{SaidClocks}
use Rattle.bundle_sections.specs.Said.{Parts}
use Rattle.bundle_sections.specs.Verdict as section_verdict
use Rattle.dts_clocks.proofs.FewSteps.{step_count}
use Rattle.dts_clocks.proofs.Within.{consumer_below, assigned_below}
use Rattle.drv_scripts.specs.declared.bundle.Script.{Script}
use Rattle.drv_scripts.specs.Placed.{IsSound}
use Rattle.drv_scripts.specs.declared.part.Others.{Others}
use Rattle.drv_scripts.specs.Parts.{AreOthers}
use Rattle.drv_scripts.specs.Sections.{Around, around, count_of, fault_at}
use Rattle.drv_scripts.specs.Spelled.{bank_words, bundle_of}
use Rattle.drv_scripts.specs.Verdict.{line_fault}
use Rattle.drv_scripts.proofs.Bundles.{bundle_sound}
use Rattle.drv_scripts.proofs.Divided.{Lie}
use Rattle.drv_scripts.proofs.DriverNames.{scripts_named, scripts_apart}
use Rattle.drv_scripts.proofs.FewDrivers.{drivers_few}

-- what was read of the lines behind the clocks
pub record IsContent (ls : List (List ℕ)) (parts : Parts) (said : SaidClocks) (words : List ℕ) (others : Others) : Type 0 where
  pub words_are : words ≡ bank_words ls parts.bank
  pub size : length words ≡ parts.bank.words
  pub others_are : AreOthers (around ls parts said) parts.others others
  pub few : AllByRecursion (λ s. length s.commands ≤ 65536) others.drivers.items
  pub fewer : count_of others.drivers.items ≤ 1048576

pub made_sound : (ls : List (List ℕ)) (parts : Parts) (said : SaidClocks) (words : List ℕ) (others : Others) → Lie ls parts → section_verdict.Accepts ls parts
    → AllByRecursion (section_verdict.IsSection ls) parts.others → EachClock said.defs (λ c. is_clock_name (name_of said.defs c)) → IsValid parts.bank.words said.defs
    → length said.lines ≡ length said.defs → list_all (consumer_below (length said.defs)) said.consumers ≡ true → list_all (assigned_below (length said.defs)) said.assigned ≡ true
    → step_count said.assigned ≤ 4096 → IsContent ls parts said words others → IsSound (bundle_of ls parts said)
made_sound ls parts said words others lie accepts each names valid count named assigned steps read =
    let within = lie.within in
    let drivers = read.others_are.drivers in
    bundle_sound ls parts said (record {
      valid = valid;
      count = count;
      named = named;
      assigned = assigned;
      steps = steps;
      some = lie.some;
      few = lie.few;
      words = ap length (sym read.words_are) ∙ read.size;
      scripts = subst (AllByRecursion (λ (s : Script). length s.commands ≤ 65536)) drivers read.few;
      drivers = drivers_few (around ls parts said) ls parts (omega arith) accepts;
      commands = subst (λ (xs : List Script). count_of xs ≤ 1048576) drivers read.fewer;
      clock_names = names;
      driver_names = scripts_named (around ls parts said) ls parts.others each;
      apart = scripts_apart (around ls parts said) ls parts (omega arith) accepts;
    })

-- what was read of the lines, over the clocks as they were read
pub content_of : (ls : List (List ℕ)) (parts : Parts) (said : SaidClocks) (a : Around) (words : List ℕ) (others : Others) → a ≡ around ls parts said
    → KeepsBelow (fault_at a parts.bank parts.others) (length ls) × (words ≡ bank_words ls parts.bank) × AreOthers a parts.others others
    → length words ≡ parts.bank.words → AllByRecursion (λ s. length s.commands ≤ 65536) others.drivers.items → count_of others.drivers.items ≤ 1048576
    → KeepsBelow (line_fault ls parts said) (length ls) × IsContent ls parts said words others
content_of ls parts said a words others same read size few fewer = (
  subst (λ (x : Around). KeepsBelow (fault_at x parts.bank parts.others) (length ls)) same read.0,
  record { words_are = read.1; size = size; others_are = subst (λ (x : Around). AreOthers x parts.others others) same read.2; few = few; fewer = fewer },
)
