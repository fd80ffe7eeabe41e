-- The sections of the drivers.
use Rattle.std.proofs.Common.{◌≡◌, ℕ, zero, suc, ◌+◌, ◌-◌, ◌*◌, ◌<◌, ◌≤◌, nat_lt, Bool, cond, List, [], ◌∷◌, ◌++◌, length, Some, None, refl, sym, ap, subst, ◌∙◌, inl, inr, arith}
use Rattle.std.specs.List.{position, position_or_len, flat_map, AllByRecursion}
use Rattle.std.specs.Option.{option_map}
use Rattle.std.specs.Str.{bytes_eq}
use Rattle.std.proofs.lemmas.Bool.{cases_lt, cond-true, cond-false, lt-ltb, le-ltb}
use Rattle.std.proofs.lemmas.List.{get_or-map}
use Rattle.std.proofs.lemmas.List.Concat.{flat_map-append}
use Rattle.std.proofs.lemmas.List.Sums.{position_or_len_is}
use Rattle.bundle_text.specs.Words.{said_words}
use Rattle.clk_base.specs.declared.clock.ClockDef.{ClockDef}
use Rattle.clk_base.specs.declared.clock.ClockId.{ClockId}
use Rattle.clk_base.specs.declared.command.Act.{Act}
use Rattle.clk_base.specs.declared.command.Act.TheVariants.{Get}
use Rattle.clk_base.specs.declared.command.Command.{Command}
use Rattle.clk_base.specs.Description.{clock_named, nobody}
use Rattle.bundle_sections.specs.Sections.{SaidSection}
use Rattle.bundle_sections.specs.Verdict.{Tiles}
use Rattle.bundle_sections.proofs.Places.{tiles-more}
use Rattle.drv_scripts.specs.declared.bundle.Script.{Script}
use Rattle.drv_scripts.specs.Commands.{clock_for, commands_of}
use Rattle.drv_scripts.specs.Judged.{KeepsBetween}
use Rattle.drv_scripts.specs.Sections.{Around, names_at, section_fault, scripts_in, locks_in, late_in, turns_in, locks_between, late_between, turns_between, count_of, fault_among}
use Rattle.drv_scripts.proofs.DriverLines.{driver_kept, driver_said}
use Rattle.gen_laws.specs.Rows.{row_text}
use Rattle.gen_laws.specs.Clocks.{root, gate, up_to, all_parts, name_of, place_of, clock_of, clocks}
use Rattle.gen_laws.specs.Measured.{script}
use Rattle.gen_laws.specs.Script.{acts_held, acts_of, on_lines, first_line, driver_name}
use Rattle.gen_laws.proofs.BundleRows.{command_rows, bundle_rows}
use Rattle.gen_laws.proofs.BodyRows.{IsBody, body-commands}
use Rattle.gen_laws.proofs.ClockPart.{name_at, apart, same_name}
use Rattle.gen_laws.proofs.CommandPart.{Stands, acts_over, commands-kept, commands-are}
use Rattle.gen_laws.proofs.KeptRules.{length-clocks}
use Rattle.gen_laws.proofs.Listed.{each-up_to}
use Rattle.gen_laws.proofs.Parts.{part_at, gate-at}
use Rattle.gen_laws.proofs.PlainRows.{row-said}
use Rattle.gen_laws.proofs.RowPlaces.{row_at, line-row, length-parts, length-acts, length-commands}
use Rattle.gen_laws.proofs.Sectioned.{bundle_lines, driver_place, driver_part, one_driver, driver_parts, among, command-at, length-driver_parts}

-- what the lines of the drivers are judged by
pub record IsAround (n : ℕ) (a : Around) : Type 0 where
  pub lines : a.lines ≡ bundle_lines n
  pub defs : a.defs ≡ clocks n

-- the lines of a driver's section are its commands
stands-driver : (n i : ℕ) → n ≤ 64 → i < n → Stands (bundle_lines n) (driver_place n i + 1) (suc i)
unfolding Stands
stands-driver n i few low j within =
    let k : ℕ = driver_place n i + 1 + j in
    let here = command-at n i j k low within refl in
    let body = among IsBody (command_rows (suc i)) j (body-commands i (omega arith)) (omega (arith, length-commands (suc i))) in
    ap said_words (line-row (bundle_rows n) k ∙ ap row_text here) ∙ row-said (row_at (command_rows (suc i)) j) body.plain body.says

names-none : (a : Around) → names_at a.consumers None ≡ Some None
unfolding names_at
names-none a = refl

-- no line of it has a fault
driver-fine : (n i before : ℕ) (a : Around) → n ≤ 64 → i < n → IsAround n a → before + 404 ≤ 1048576
    → KeepsBetween (section_fault a before (driver_part n i)) (driver_place n i) (driver_place n (suc i))
driver-fine n i before a few low around room =
    let stands : Stands a.lines (driver_place n i + 1) (suc i) = subst (λ ls. Stands ls (driver_place n i + 1) (suc i)) (sym around.lines) (stands-driver n i few low) in
    driver_kept a before (driver_name (suc i)) None (driver_place n i) (driver_place n (suc i)) None (names-none a)
    (commands-kept a.defs before a.lines (driver_place n i + 1) (driver_place n (suc i)) (suc i) stands (omega arith) room)

-- ---- its script

-- a gate is found by its name
gate-named : (n i : ℕ) → n ≤ 64 → i < n → clock_named (clocks n) (name_of (gate (suc i))) ≡ Some (record { 0 = place_of (gate (suc i)) })
unfolding name_at
gate-named n i few low =
    let q : ℕ = 3 * i + 3 in
    let there : part_at n q ≡ gate (suc i) = gate-at n i q low refl in
    let test : ClockDef → Bool = λ d. bytes_eq (name_of (gate (suc i))) d.name in
    let long = length-clocks n in
    let def = λ (r : ℕ) (h : r < 3 * n + 1). get_or-map clock_of (all_parts n) r root nobody (omega (arith, length-parts n)) in
    let place : position_or_len test (clocks n) ≡ q =
    position_or_len_is test (clocks n) q nobody (omega arith)
    (λ r before. ap test (def r (omega arith)) ∙ (ap (λ part. bytes_eq (name_of part) (name_of (part_at n r))) (sym there) ∙ apart n q r few (omega arith) (omega arith) (λ e. omega arith)))
    (λ _. ap test (def q (omega arith)) ∙ (ap (λ part. bytes_eq (name_of part) (name_of (part_at n q))) (sym there) ∙ same_name n q)) in
    let found : position test (clocks n) ≡ Some q =
    ap (λ m. cond (nat_lt m (length (clocks n))) (Some m) None) place ∙ cond-true _ _ _ (lt-ltb q (length (clocks n)) (omega arith)) in
    let clock : ℕ → ClockId = λ c. record { 0 = c } in
    ap (option_map clock) found ∙ ap (λ m. Some (clock m)) (omega arith)

gate-for : (n i : ℕ) → n ≤ 64 → i < n → clock_for (clocks n) None (name_of (gate (suc i))) ≡ Some (record { 0 = place_of (gate (suc i)) })
unfolding clock_for
gate-for n i few low = gate-named n i few low

length-on_lines : (line : ℕ) (acts : List Act) → length (on_lines line acts) ≡ length acts
length-on_lines line [] = refl
length-on_lines line (a ∷ acts) = omega (arith, length-on_lines (line + 1) acts)

-- the script of a driver
pub script-is : (n i : ℕ) (a : Around) → n ≤ 64 → i < n → IsAround n a → scripts_in a (driver_part n i) ≡ script n (suc i) ∷ []
script-is n i a few low around =
    let first : ℕ = driver_place n i + 1 in
    let end : ℕ = driver_place n (suc i) in
    let stands : Stands a.lines first (suc i) = subst (λ ls. Stands ls first (suc i)) (sym around.lines) (stands-driver n i few low) in
    let count : end - first ≡ 404 = omega arith in
    let line : first + 1 ≡ first_line n (suc i) = omega arith in
    let made : List Command → List Script = λ cs. record { name = driver_name (suc i); commands = cs } ∷ [] in
    driver_said a (driver_name (suc i)) None first end None (names-none a)
    ∙ ap made
    (ap (commands_of a.defs None a.lines first) count
    ∙ (commands-are a.defs a.lines first (suc i) stands
    ∙ (ap (λ l. on_lines l (acts_over a.defs (suc i))) line
    ∙ (ap (λ defs. on_lines (first_line n (suc i)) (acts_over defs (suc i))) around.defs
    ∙ ap (λ found. on_lines (first_line n (suc i)) (Get found ∷ acts_held)) (gate-for n i few low)))))

length-script : (n k : ℕ) → length (script n k).commands ≡ 404
length-script n k = omega (arith, length-on_lines (first_line n k) (acts_of k), length-acts)

-- ---- all drivers

-- a section of 404 commands whose lines have no fault
record IsKept (a : Around) (s : SaidSection) : Type 0 where
  commands : count_of (scripts_in a s) ≡ 404
  fine : (before : ℕ) → before + 404 ≤ 1048576 → KeepsBetween (section_fault a before s) s.place s.end

kept-driver : (n i : ℕ) (a : Around) → n ≤ 64 → i < n → IsAround n a → IsKept a (driver_part n i)
kept-driver n i a few low around =
    record {
      commands = ap count_of (script-is n i a few low around) ∙ omega (arith, length-script n (suc i));
      fine = λ before room. driver-fine n i before a few low around room;
    }

kept-drivers : (n : ℕ) (a : Around) → n ≤ 64 → IsAround n a → AllByRecursion (IsKept a) (driver_parts n n)
kept-drivers n a few around = each-up_to (IsKept a) (one_driver n) n (λ i low. (kept-driver n i a few low around, tt))

-- no line of sections has a fault, one behind another
among-fine : (a : Around) (sections : List SaidSection) (before from to k : ℕ) → AllByRecursion (IsKept a) sections → Tiles from sections to → from ≤ k
    → before + 404 * length sections ≤ 1048576 → fault_among a before sections k ≡ None
unfolding fault_among
among-fine a [] before from to k kept tiled low few = refl
among-fine a (s ∷ more) before from to k kept tiled low few =
    elim (cases_lt k s.end) [
      | inl inside ↦ cond-true _ _ _ (lt-ltb k s.end inside) ∙ kept.0.fine before (omega arith) k (omega (arith, tiled.0)) inside
      | inr behind ↦
          let count = kept.0.commands in
          cond-false _ _ _ (le-ltb k s.end behind) ∙ among-fine a more (before + count_of (scripts_in a s)) s.end to k kept.1 tiled.2 behind (omega (arith, count))
    ]

tiles-drivers : (n i : ℕ) → Tiles (driver_place n 0) (driver_parts n i) (driver_place n i)
tiles-drivers n zero = refl
tiles-drivers n (suc i) = tiles-more (driver_place n 0) (driver_place n i) (driver_parts n i) (driver_part n i) (tiles-drivers n i) refl (omega arith)

pub drivers-fine : (n : ℕ) (a : Around) (k : ℕ) → n ≤ 64 → IsAround n a → 4 * n + 4 ≤ k → fault_among a 0 (driver_parts n n) k ≡ None
drivers-fine n a k few around low =
    among-fine a (driver_parts n n) 0 (driver_place n 0) (driver_place n n) k (kept-drivers n a few around) (tiles-drivers n n) (omega arith) (omega (arith, length-driver_parts n n))

-- ---- what the sections of the drivers say

flat-up_to : {X Y : Type 0} (f : X → List Y) (list : ℕ → List X) (other : ℕ → List Y) (n : ℕ) → ((k : ℕ) → k < n → flat_map f (list (suc k)) ≡ other (suc k)) → flat_map f (up_to list n) ≡ up_to other n
flat-up_to f list other zero same = refl
flat-up_to f list other (suc n) same =
    flat_map-append f (up_to list n) (list (suc n))
    ∙ (ap (λ xs. xs ++ flat_map f (list (suc n))) (flat-up_to f list other n (λ k low. same k (omega arith))) ∙ ap (λ xs. up_to other n ++ xs) (same n (omega arith)))

flat-none : {X Y : Type 0} (f : X → List Y) (xs : List X) → AllByRecursion (λ x. f x ≡ []) xs → flat_map f xs ≡ []
flat-none f [] h = refl
flat-none f (x ∷ xs) h = ap (λ ys. ys ++ flat_map f xs) h.0 ∙ flat-none f xs h.1

-- the scripts
pub scripts-are : (n : ℕ) (a : Around) → n ≤ 64 → IsAround n a → flat_map (scripts_in a) (driver_parts n n) ≡ up_to (λ k. script n k ∷ []) n
scripts-are n a few around =
    flat-up_to (scripts_in a) (one_driver n) (λ k. script n k ∷ []) n (λ k low. ap (λ xs. xs ++ []) (script-is n k a few low around))

-- no locks, no late clocks, no turns
pub locks-none : (n : ℕ) (a : Around) → flat_map (locks_in a) (driver_parts n n) ≡ []
unfolding locks_between
locks-none n a = flat-none (locks_in a) (driver_parts n n) (each-up_to (λ s. locks_in a s ≡ []) (one_driver n) n (λ k low. (refl, tt)))

pub late-none : (n : ℕ) (a : Around) → flat_map (late_in a) (driver_parts n n) ≡ []
unfolding late_between
late-none n a = flat-none (late_in a) (driver_parts n n) (each-up_to (λ s. late_in a s ≡ []) (one_driver n) n (λ k low. (refl, tt)))

pub turns-none : (n : ℕ) (a : Around) → flat_map (turns_in a) (driver_parts n n) ≡ []
unfolding turns_between
turns-none n a = flat-none (turns_in a) (driver_parts n n) (each-up_to (λ s. turns_in a s ≡ []) (one_driver n) n (λ k low. (refl, tt)))
