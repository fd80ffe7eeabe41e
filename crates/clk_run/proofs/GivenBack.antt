-- The text of a journal of a bundle gives back the journal.
use Rattle.std.proofs.Common.{◌≡◌, ℕ, ◌≤◌, true, List, [], ◌∷◌, map, Option, Some, None, refl, sym, subst, length, nat_lt, arith}
use Rattle.std.specs.List.{AllByRecursion}
use Rattle.std.proofs.lemmas.Bool.Decides.{nat_tests}
use Rattle.std.proofs.lemmas.List.{length-map}
use Rattle.clk_base.specs.declared.event.Entry.{Entry}
use Rattle.clk_base.specs.Description.{Description}
use Rattle.clk_base.specs.Valid.{IsValid}
use Rattle.clk_cli.specs.declared.cli.Mode.{Mode}
use Rattle.clk_cli.specs.declared.cli.Mode.TheVariants as mode
use Rattle.clk_model.specs.Begin.{most_credits}
use Rattle.clk_model.specs.State.{Change, is_quiet}
use Rattle.clk_model.specs.Journal.{replay}
use Rattle.clk_model.specs.Text.{Word, journal_text}
use Rattle.clk_model.proofs.Members.{both_left, both_right}
use Rattle.clk_model.proofs.RoomLaws.{runs_end}
use Rattle.clk_journal.specs.Told.{CanBeTold, told_entry}
use Rattle.clk_journal.specs.Sized.{IsSized, NamesClocks, CallsNameClocks}
use Rattle.clk_journal.proofs.PlacedRuns.{runs_name}
use Rattle.clk_journal.proofs.Sizes.{can_be_told}
use Rattle.clk_journal.proofs.WholeJournals.{entries_same}
use Rattle.driver_runs.specs.Drivers.{are_among}
use Rattle.drv_scripts.specs.declared.bundle.Bundle.{Bundle}
use Rattle.drv_scripts.specs.declared.bundle.Script.{Script}
use Rattle.drv_scripts.specs.Placed.{IsSound, NamePlaces}
use Rattle.clk_run.specs.Runs.{scripts_of, credits_of, opening_of, IsJournalOf}
use Rattle.clk_run.specs.Texts.{command_count, names_of}
use Rattle.clk_run.proofs.BundleNames.{tell_apart}
use Rattle.clk_run.proofs.EndedCalls.{begun_placed}
use Rattle.clk_run.proofs.PlacedCalls.{all_placed, scripts_placed}

-- entries of these drivers, with numbers of their sizes, that name clocks of the description
all_can : (defs : Description) (names : List Word) (drivers : ℕ) (journal : List Entry) → drivers ≤ length names → are_among drivers journal ≡ true → AllByRecursion IsSized journal
    → AllByRecursion (NamesClocks defs) journal → AllByRecursion (CanBeTold defs names) journal
all_can defs names drivers [] few among sized named = tt
all_can defs names drivers (e ∷ es) few among sized named =
    let low : nat_lt e.driver drivers ≡ true = both_left (nat_lt e.driver drivers) (are_among drivers es) among in (
      can_be_told defs names e (grind (arith, nat_tests, low, few)) sized.0 named.0,
      all_can defs names drivers es few (both_right (nat_lt e.driver drivers) (are_among drivers es) among) sized.1 named.1,
    )

none_is : (o : Option Change) → is_quiet o ≡ true → o ≡ None
none_is None quiet = refl
none_is (Some k) quiet = absurd cc

module _ (b : Bundle) (sound : IsSound b) where
  defs : Description
  defs = b.desc.defs

  valid : IsValid (length b.words) b.desc.defs
  valid = subst (λ (n : ℕ). IsValid n b.desc.defs) (sym sound.words) sound.valid

  few_credits : credits_of b ≤ most_credits
  few_credits =
      let boot : length b.boot ≤ 16384 = sound.boots in
      let commands : command_count b.drivers ≤ 1048576 = sound.commands in
      omega (arith, boot, commands)

  placed_scripts : (m : Mode) → AllByRecursion (λ commands. NamePlaces (length b.desc.defs) commands) (scripts_of m b)
  placed_scripts mode.Check = (sound.boot, tt)
  placed_scripts mode.Sim = (sound.boot, scripts_placed (length b.desc.defs) b.drivers sound.scripts)
  placed_scripts mode.Run = (sound.boot, scripts_placed (length b.desc.defs) b.drivers sound.scripts)
  placed_scripts (mode.Bench n) = (sound.boot, scripts_placed (length b.desc.defs) b.drivers sound.scripts)

  few_scripts : (m : Mode) → length (scripts_of m b) ≤ length (names_of b.drivers)
  few_scripts mode.Check = omega arith
  few_scripts mode.Sim = let one = length-map b.drivers (λ (s : Script). s.commands) in let two = length-map b.drivers (λ (s : Script). s.name) in omega (arith, one, two)
  few_scripts mode.Run = let one = length-map b.drivers (λ (s : Script). s.commands) in let two = length-map b.drivers (λ (s : Script). s.name) in omega (arith, one, two)
  few_scripts (mode.Bench n) = let one = length-map b.drivers (λ (s : Script). s.commands) in let two = length-map b.drivers (λ (s : Script). s.name) in omega (arith, one, two)

  calls_name : (journal : List Entry) → IsJournalOf b journal → CallsNameClocks b.desc.defs journal
  calls_name journal is =
      begun_placed b.desc.defs (length (scripts_of is.mode b)) (opening_of b is.ignore_unused) journal is.legal (none_is (replay (opening_of b is.ignore_unused) journal).change is.quiet) is.among
      (λ d low. all_placed b.desc.defs 0 (scripts_of is.mode b) is.answers journal (placed_scripts is.mode) is.follow d (omega arith) (omega (arith, low)))

  -- each entry of a journal of the bundle can be told
  pub journal_can : (journal : List Entry) → IsJournalOf b journal → AllByRecursion (CanBeTold b.desc.defs (names_of b.drivers)) journal
  journal_can journal is =
      all_can b.desc.defs (names_of b.drivers) (length (scripts_of is.mode b)) journal (few_scripts is.mode) is.among is.sized
      (runs_name b.desc.defs b.words is.ignore_unused (credits_of b) journal valid is.legal (calls_name journal is))

  pub given_back : (j k : List Entry) → IsJournalOf b j → IsJournalOf b k → journal_text b.desc.defs (names_of b.drivers) j ≡ journal_text b.desc.defs (names_of b.drivers) k
      → map (told_entry b.desc.defs) j ≡ map (told_entry b.desc.defs) k
  given_back j k first second same =
      let few : length j ≤ most_credits = runs_end b.desc.defs b.words first.ignore_unused (credits_of b) j valid few_credits first.legal in
      entries_same b.desc.defs (names_of b.drivers) (tell_apart b sound) 1 j k (omega (arith, few)) (journal_can j first) (journal_can k second) same
