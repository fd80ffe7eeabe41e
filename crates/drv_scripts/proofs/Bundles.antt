-- The bundle that lines spell, and what holds of it.
use Rattle.std.proofs.Common.{◌≡◌, ℕ, zero, suc, ◌+◌, ◌-◌, ◌*◌, ◌<◌, ◌≤◌, ◌++◌, true, List, [], ◌∷◌, map, length, Option, Some, None, refl, ap, subst, arith}
use Rattle.std.specs.Prelude.{slice_get, Bool, false, cond, nat_lt}
use Rattle.std.specs.List.{range_with_len, AllByRecursion, IsDistinct, flat_map, list_all, position}
use Rattle.std.specs.Option.{option_map, option_and_then, option_flatten}
use Rattle.std.specs.Str.{bytes_eq}
use Rattle.std.proofs.lemmas.List.{length-append}
use Rattle.std.proofs.lemmas.List.Sums.{sum_by-cons}
use Rattle.std.proofs.lemmas.Option.{none-some, same_Some}
use Rattle.std.proofs.lemmas.Bool.{ltb-true}
use Rattle.bundle_text.specs.Firsts.{onto, said_from}
use Rattle.bundle_text.specs.Names.{is_clock_name, is_driver_name}
use Rattle.clk_base.specs.Checked.{Checked}
use Rattle.clk_base.specs.Description.{name_of, EachClock}
use Rattle.clk_base.specs.declared.command.Command.{Command}
use Rattle.clk_base.specs.Valid.{IsValid}
use Rattle.bundle_clocks.specs.Said.{SaidClocks}
use Rattle.bundle_sections.specs.Headers.{Said, device_tree, clocks, bank, lock, late, driver, order}
use Rattle.bundle_sections.specs.Said.{Parts}
use Rattle.bundle_sections.specs.Sections.{SaidSection}
use Rattle.dts_clocks.specs.Consumers.{SeenConsumer}
use Rattle.dts_clocks.proofs.Parented.{passes_both}
use Rattle.dts_clocks.specs.Assigned.{SeenAssigned}
use Rattle.dts_clocks.specs.declared.loaded.AssignedStep.{AssignedStep}
use Rattle.dts_clocks.specs.declared.loaded.AssignedStep.TheVariants.{Parent, Rate}
use Rattle.clk_base.proofs.Valid.{length-valid}
use Rattle.dts_clocks.proofs.FewSteps.{step_count}
use Rattle.dts_clocks.proofs.Within.{are_below, consumer_below, step_below, assigned_below}
use Rattle.drv_scripts.specs.declared.bundle.LateLine.{LateLine}
use Rattle.drv_scripts.specs.declared.bundle.Script.{Script}
use Rattle.drv_scripts.specs.declared.part.Others.{Others}
use Rattle.drv_scripts.specs.Placed.{NamePlaces, IsScript, IsSound}
use Rattle.drv_scripts.specs.Parts.{AreOthers, made}
use Rattle.drv_scripts.specs.Sections.{Around, around, names_at, names_of, scripts_between, scripts_in, late_in, count_of}
use Rattle.drv_scripts.specs.Spelled.{probe, boot_of, is_late, probe_unless, probes_without, step_commands, assigned_commands, bank_words, bundle_of}
use Rattle.drv_scripts.proofs.ListPlaced.{all_append, locks_placed, late_placed, order_numbered}
use Rattle.drv_scripts.proofs.SaidPlaced.{MayBeNamed, commands_placed}

-- ## Boot

-- a list of commands behind another
both_placed : (n : ℕ) (xs ys : List Command) → NamePlaces n xs → NamePlaces n ys → NamePlaces n (xs ++ ys)
both_placed n [] ys p q = q
both_placed n (x ∷ xs) ys p q = (p.0, both_placed n xs ys p.1 q)

unless_placed : (absent : List LateLine) (n from : ℕ) (rest : List Command) → from < n → NamePlaces n rest → NamePlaces n (onto (probe_unless absent from) rest)
unless_placed absent n from rest lt placed = pick (is_late absent from) where
  pick : (b : Bool) → NamePlaces n (onto (cond b None (Some (probe from))) rest)
  pick true = placed
  pick false = (lt, placed)

probes_placed : (absent : List LateLine) (from count n : ℕ) → from + count ≤ n → NamePlaces n (said_from (probe_unless absent) from count)
probes_placed absent from zero n le = tt
probes_placed absent from (suc count) n le = unless_placed absent n from (said_from (probe_unless absent) (from + 1) count) (omega arith) (probes_placed absent (from + 1) count n (omega arith))

-- without a late clock each is registered
probe_each : (from count : ℕ) → said_from (probe_unless []) from count ≡ map probe (range_with_len from count)
probe_each from zero = refl
probe_each from (suc count) = ap (λ (cs : List Command). probe from ∷ cs) (probe_each (from + 1) count)

pub all_probes : (count : ℕ) → probes_without [] count ≡ boot_of count
unfolding probes_without boot_of
all_probes count = probe_each 0 count

step_placed : (n : ℕ) (step : AssignedStep) → step_below n step ≡ true → NamePlaces n (step_commands step)
step_placed n (Parent clock parent) below =
    let both = passes_both (nat_lt clock.0 n) (nat_lt parent.0 n) below in
    (ltb-true clock.0 n both.0, (ltb-true parent.0 n both.1, (tt, tt)))
step_placed n (Rate clock rate) below = (ltb-true clock.0 n below, (tt, (tt, tt)))

steps_placed : (n : ℕ) (steps : List AssignedStep) → list_all (step_below n) steps ≡ true → NamePlaces n (flat_map step_commands steps)
steps_placed n [] all = tt
steps_placed n (step ∷ steps) all =
    let both = passes_both (step_below n step) (list_all (step_below n) steps) all in
    both_placed n (step_commands step) (flat_map step_commands steps) (step_placed n step both.0) (steps_placed n steps both.1)

assigned_placed : (n : ℕ) (assigned : List SeenAssigned) → list_all (assigned_below n) assigned ≡ true → NamePlaces n (assigned_commands assigned)
unfolding assigned_commands
assigned_placed n [] all = tt
assigned_placed n (a ∷ assigned) all =
    let both = passes_both (assigned_below n a) (list_all (assigned_below n) assigned) all in
    both_placed n (flat_map step_commands a.steps) (assigned_commands assigned) (steps_placed n a.steps both.0) (assigned_placed n assigned both.1)

boot_placed : (absent : List LateLine) (n : ℕ) (assigned : List SeenAssigned) → list_all (assigned_below n) assigned ≡ true → NamePlaces n (probes_without absent n ++ assigned_commands assigned)
unfolding probes_without
boot_placed absent n assigned all = both_placed n (said_from (probe_unless absent) 0 n) (assigned_commands assigned) (probes_placed absent 0 n n (omega arith)) (assigned_placed n assigned all)

-- ## Drivers

consumer_get : (n : ℕ) (consumers : List SeenConsumer) (i : ℕ) (x : SeenConsumer) → list_all (consumer_below n) consumers ≡ true → slice_get consumers i ≡ Some x → are_below n x.names ≡ true
consumer_get n [] i x all e = absurd (none-some x e)
consumer_get n (y ∷ ys) zero x all e = subst (λ c. are_below n c.names ≡ true) (same_Some y x e) (passes_both (consumer_below n y) (list_all (consumer_below n) ys) all).0
consumer_get n (y ∷ ys) (suc i) x all e = consumer_get n ys i x (passes_both (consumer_below n y) (list_all (consumer_below n) ys) all).1 e

consumer_there : (n : ℕ) (consumers : List SeenConsumer) (at : Option ℕ) → list_all (consumer_below n) consumers ≡ true
    → MayBeNamed n (option_flatten (option_map (λ (c : SeenConsumer). Some c.names) (option_and_then (slice_get consumers) at)))
consumer_there n consumers None all = tt
consumer_there n consumers (Some i) all =
    elim (slice_get consumers i) as (λ o. slice_get consumers i ≡ o → MayBeNamed n (option_flatten (option_map (λ (c : SeenConsumer). Some c.names) o)))
    [ None ↦ λ e. tt | Some x ↦ λ e. consumer_get n consumers i x all e ] refl

names_named : (a : Around) (path : Option (List ℕ)) → list_all (consumer_below (length a.defs)) a.consumers ≡ true → MayBeNamed (length a.defs) (names_of a path)
unfolding names_at
names_named a None all = tt
names_named a (Some path) all = consumer_there (length a.defs) a.consumers (position (λ (c : SeenConsumer). bytes_eq c.path path) a.consumers) all

-- each of the drivers has commands that name clocks of the description
abbrev pub ScriptsPlaced : ℕ → List Script → Type 0
ScriptsPlaced n scripts = AllByRecursion (λ s. NamePlaces n s.commands) scripts

between_placed : (a : Around) (says : Said) (first end : ℕ) → list_all (consumer_below (length a.defs)) a.consumers ≡ true → ScriptsPlaced (length a.defs) (scripts_between a says first end)
unfolding scripts_between
between_placed a (driver name path) first end all = (commands_placed a.defs (names_of a path) a.lines first (end - first) (names_named a path all), tt)
between_placed a device_tree first end all = tt
between_placed a clocks first end all = tt
between_placed a (bank words) first end all = tt
between_placed a lock first end all = tt
between_placed a late first end all = tt
between_placed a order first end all = tt

sections_placed : (a : Around) (sections : List SaidSection) → list_all (consumer_below (length a.defs)) a.consumers ≡ true → ScriptsPlaced (length a.defs) (flat_map (scripts_in a) sections)
sections_placed a [] all = tt
sections_placed a (s ∷ more) all =
    all_append (λ (script : Script). NamePlaces (length a.defs) script.commands) (scripts_in a s) (flat_map (scripts_in a) more) (between_placed a s.says (s.place + 1) s.end all) (sections_placed a more all)

both : (n : ℕ) (scripts : List Script) → ScriptsPlaced n scripts → AllByRecursion (λ s. length s.commands ≤ 65536) scripts → AllByRecursion (IsScript n) scripts
both n [] placed few = tt
both n (s ∷ more) placed few = (record { placed = placed.0; few = few.0 }, both n more placed.1 few.1)

-- ## The bundle

-- the bundle of what was read is the one that the lines spell
pub bundle_is : (ls : List (List ℕ)) (parts : Parts) (said : SaidClocks) (desc : Checked) (words : List ℕ) (others : Others) → desc ≡ record { defs = said.defs; words = parts.bank.words }
    → words ≡ bank_words ls parts.bank → AreOthers (around ls parts said) parts.others others → made desc said.lines said.assigned words others ≡ bundle_of ls parts said
unfolding bundle_of
bundle_is ls parts said desc words others e f read = rw (e, f, read.locks, read.late, read.drivers, read.order) refl

-- how many boot's commands are
onto_few : (absent : List LateLine) (from : ℕ) (rest : List Command) → length (onto (probe_unless absent from) rest) ≤ suc (length rest)
onto_few absent from rest = pick (is_late absent from) where
  pick : (b : Bool) → length (onto (cond b None (Some (probe from))) rest) ≤ suc (length rest)
  pick true = omega arith
  pick false = omega arith

probes_few : (absent : List LateLine) (from count : ℕ) → length (said_from (probe_unless absent) from count) ≤ count
probes_few absent from zero = omega arith
probes_few absent from (suc count) =
    let one = onto_few absent from (said_from (probe_unless absent) (from + 1) count) in
    let more = probes_few absent (from + 1) count in
    omega arith

step_few : (step : AssignedStep) → length (step_commands step) ≡ 3
step_few (Parent clock parent) = refl
step_few (Rate clock rate) = refl

steps_few : (steps : List AssignedStep) → length (flat_map step_commands steps) ≡ 3 * length steps
steps_few [] = refl
steps_few (step ∷ steps) =
    let one = step_few step in
    let more = steps_few steps in
    omega (arith, one, more, length-append (step_commands step) (flat_map step_commands steps))

assigned_few : (assigned : List SeenAssigned) → length (assigned_commands assigned) ≡ 3 * step_count assigned
unfolding assigned_commands
assigned_few [] = refl
assigned_few (a ∷ assigned) =
    let one = steps_few a.steps in
    let more = assigned_few assigned in
    let all : length (assigned_commands (a ∷ assigned)) ≡ length (flat_map step_commands a.steps ++ assigned_commands assigned) = refl in
    let sum : step_count (a ∷ assigned) ≡ length a.steps + step_count assigned = sum_by-cons (λ (x : SeenAssigned). length x.steps) a assigned in
    omega (arith, one, more, all, sum, length-append (flat_map step_commands a.steps) (assigned_commands assigned))

boot_few : (absent : List LateLine) (n : ℕ) (assigned : List SeenAssigned) → n ≤ 4096 → step_count assigned ≤ 4096 → length (probes_without absent n ++ assigned_commands assigned) ≤ 16384
unfolding probes_without
boot_few absent n assigned few steps =
    let one = probes_few absent 0 n in
    let more = assigned_few assigned in
    omega (arith, length-append (said_from (probe_unless absent) 0 n) (assigned_commands assigned))

pub desc_of : (ls : List (List ℕ)) (parts : Parts) (said : SaidClocks) → (bundle_of ls parts said).desc ≡ record { defs = said.defs; words = parts.bank.words }
unfolding bundle_of
desc_of ls parts said = refl

-- what holds of the lines of a bundle
pub record AreFit (ls : List (List ℕ)) (parts : Parts) (said : SaidClocks) : Type 0 where
  pub valid : IsValid parts.bank.words said.defs
  pub count : length said.lines ≡ length said.defs
  pub named : list_all (consumer_below (length said.defs)) said.consumers ≡ true
  pub assigned : list_all (assigned_below (length said.defs)) said.assigned ≡ true
  pub steps : step_count said.assigned ≤ 4096
  pub some : 0 < parts.bank.words
  pub few : parts.bank.words ≤ 65536
  pub words : length (bank_words ls parts.bank) ≡ parts.bank.words
  pub scripts : AllByRecursion (λ s. length s.commands ≤ 65536) (flat_map (scripts_in (around ls parts said)) parts.others)
  pub drivers : length (flat_map (scripts_in (around ls parts said)) parts.others) ≤ 64
  pub commands : count_of (flat_map (scripts_in (around ls parts said)) parts.others) ≤ 1048576
  pub clock_names : EachClock said.defs (λ c. is_clock_name (name_of said.defs c))
  pub driver_names : AllByRecursion (λ (s : Script). is_driver_name s.name ≡ true) (flat_map (scripts_in (around ls parts said)) parts.others)
  pub apart : IsDistinct bytes_eq (map (λ (s : Script). s.name) (flat_map (scripts_in (around ls parts said)) parts.others))

-- a bundle that was read fits together
pub bundle_sound : (ls : List (List ℕ)) (parts : Parts) (said : SaidClocks) → AreFit ls parts said → IsSound (bundle_of ls parts said)
unfolding bundle_of
bundle_sound ls parts said fit = record {
  valid = fit.valid;
  lines = fit.count;
  some = fit.some;
  few = fit.few;
  words = fit.words;
  locks = locks_placed (around ls parts said) parts.others;
  late = late_placed (around ls parts said) parts.others;
  boot = boot_placed (flat_map (late_in (around ls parts said)) parts.others) (length said.defs) said.assigned fit.assigned;
  boots = boot_few (flat_map (late_in (around ls parts said)) parts.others) (length said.defs) said.assigned (length-valid parts.bank.words said.defs fit.valid) fit.steps;
  scripts = both (length said.defs) (flat_map (scripts_in (around ls parts said)) parts.others) (sections_placed (around ls parts said) parts.others fit.named) fit.scripts;
  drivers = fit.drivers;
  commands = fit.commands;
  turns = order_numbered (around ls parts said) parts.others;
  clock_names = fit.clock_names;
  driver_names = fit.driver_names;
  apart = fit.apart;
}
