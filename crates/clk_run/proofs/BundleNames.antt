-- The names of a bundle that was read tell its clocks and its drivers apart, boot among these.
use Rattle.std.proofs.Common.{◌≡◌, ℕ, zero, suc, ◌<◌, Bool, true, false, not, List, [], ◌∷◌, map, length, refl, sym, ap, ◌∙◌, arith, inl, inr}
use Rattle.std.specs.Prelude.{◌==◌, ◌&&◌, nat_le, codes, slice_index_or}
use Rattle.std.specs.Bool.{one_answer}
use Rattle.std.specs.List.{AllByRecursion, IsDistinct, list_all}
use Rattle.std.specs.Str.{bytes_eq}
use Rattle.std.proofs.lemmas.Bool.{cases_Bool, eqb-true}
use Rattle.std.proofs.lemmas.Slice.Eq.{bytes_eq-Decides}
use Rattle.bundle_text.specs.Names.{is_seen, is_clock_name, is_driver_character, is_driver_name}
use Rattle.clk_base.specs.Description.{name_of}
use Rattle.clk_journal.specs.Told.{TellApart, is_inside, is_whole}
use Rattle.drv_scripts.specs.declared.bundle.Bundle.{Bundle}
use Rattle.drv_scripts.specs.declared.bundle.Script.{Script}
use Rattle.drv_scripts.specs.Placed.{IsSound}
use Rattle.clk_run.specs.Texts.{names_of}

-- ## Whole words

both : (a b : Bool) → (a && b) ≡ true → (a ≡ true) × (b ≡ true)
both true b e = (refl, e)
both false b e = absurd (cc)

join : (a b : Bool) → a ≡ true → b ≡ true → (a && b) ≡ true
join a b e f = rw (e, f) refl

-- a character that passes a test which this byte doesn't pass is another
is_other : (p : ℕ → Bool) (byte : ℕ) → p byte ≡ false → (b : ℕ) → p b ≡ true → not (b == byte) ≡ true
is_other p byte fails b passes =
    elim (cases_Bool (b == byte)) [
      | inl same ↦ let no : true ≡ false = sym passes ∙ (ap p (eqb-true b byte same) ∙ fails) in absurd cc
      | inr other ↦ ap not other
    ]

-- a word whose characters pass a test which no blank and no line end passes has neither
all_inside : (p : ℕ → Bool) → p 32 ≡ false → p 10 ≡ false → (word : List ℕ) → list_all p word ≡ true → list_all is_inside word ≡ true
all_inside p blank end_ [] passes = refl
all_inside p blank end_ (b ∷ word) passes =
    let parts = both (p b) (list_all p word) passes in
    join (is_inside b) (list_all is_inside word) (join (not (b == 32)) (not (b == 10)) (is_other p 32 blank b parts.0) (is_other p 10 end_ b parts.0)) (all_inside p blank end_ word parts.1)

clock_whole : (word : List ℕ) → is_clock_name word ≡ true → is_whole word ≡ true
unfolding is_clock_name
clock_whole word named =
    let parts = both (not (length word == 0) && nat_le (length word) 64) (list_all is_seen word) named in
    let size = both (not (length word == 0)) (nat_le (length word) 64) parts.0 in
    join (not (length word == 0)) (list_all is_inside word) size.0 (all_inside is_seen refl refl word parts.1)

-- a driver's name is a whole word, and not boot's
driver_parts : (word : List ℕ) → is_driver_name word ≡ true → (is_whole word ≡ true) × (bytes_eq (codes "boot") word ≡ false)
unfolding is_driver_name
driver_parts word named =
    let all = both (not (length word == 0) && nat_le (length word) 32 && list_all is_driver_character word) (not (bytes_eq word (codes "boot"))) named in
    let letters = both (not (length word == 0) && nat_le (length word) 32) (list_all is_driver_character word) all.0 in
    let size = both (not (length word == 0)) (nat_le (length word) 32) letters.0 in (
      join (not (length word == 0)) (list_all is_inside word) size.0 (all_inside is_driver_character refl refl word letters.1),
      flips word (codes "boot") ∙ unlike (bytes_eq word (codes "boot")) all.1,
    ) where
      flips : (x y : List ℕ) → bytes_eq y x ≡ bytes_eq x y
      flips x y = one_answer (bytes_eq y x) (bytes_eq x y) (bytes_eq-Decides y x) (λ e. sym ((bytes_eq-Decides x y).0 e), λ e. (bytes_eq-Decides x y).1 (sym e))

      unlike : (b : Bool) → not b ≡ true → b ≡ false
      unlike true e = absurd (cc)
      unlike false e = refl

-- ## Names that differ

differs : (name : List ℕ) (names : List (List ℕ)) (k : ℕ) → AllByRecursion (λ other. bytes_eq name other ≡ false) names → k < length names → name ≡ slice_index_or names k [] → ⊥
differs name [] k each low same = absurd (omega arith)
differs name (other ∷ names) zero each low same = let no : true ≡ false = sym ((bytes_eq-Decides name other).1 same) ∙ each.0 in absurd cc
differs name (other ∷ names) (suc k) each low same = differs name names k each.1 (omega arith) same

apart_at : (names : List (List ℕ)) → IsDistinct bytes_eq names → (a b : ℕ) → a < length names → b < length names → slice_index_or names a [] ≡ slice_index_or names b [] → a ≡ b
unfolding IsDistinct
apart_at [] distinct a b low high same = absurd (omega arith)
apart_at (name ∷ names) distinct zero zero low high same = refl
apart_at (name ∷ names) distinct zero (suc b) low high same = absurd (differs name names b distinct.0 (omega arith) same)
apart_at (name ∷ names) distinct (suc a) zero low high same = absurd (differs name names a distinct.0 (omega arith) (sym same))
apart_at (name ∷ names) distinct (suc a) (suc b) low high same = ap suc (apart_at names distinct.1 a b (omega arith) (omega arith) same)

-- ## Drivers, boot first

unlike_boot : (drivers : List Script) → AllByRecursion (λ (s : Script). is_driver_name s.name ≡ true) drivers → AllByRecursion (λ other. bytes_eq (codes "boot") other ≡ false) (map (λ (s : Script). s.name) drivers)
unlike_boot [] named = tt
unlike_boot (s ∷ drivers) named = ((driver_parts s.name named.0).1, unlike_boot drivers named.1)

wholes_at : (drivers : List Script) → AllByRecursion (λ (s : Script). is_driver_name s.name ≡ true) drivers → (d : ℕ) → d < length (map (λ (s : Script). s.name) drivers)
    → is_whole (slice_index_or (map (λ (s : Script). s.name) drivers) d []) ≡ true
wholes_at [] named d low = absurd (omega arith)
wholes_at (s ∷ drivers) named zero low = (driver_parts s.name named.0).0
wholes_at (s ∷ drivers) named (suc d) low = wholes_at drivers named.1 d (omega arith)

boot_whole : (drivers : List Script) → AllByRecursion (λ (s : Script). is_driver_name s.name ≡ true) drivers → (d : ℕ) → d < length (names_of drivers) → is_whole (slice_index_or (names_of drivers) d []) ≡ true
boot_whole drivers named zero low = refl
boot_whole drivers named (suc d) low = wholes_at drivers named d (omega arith)

-- the names of a bundle
pub tell_apart : (b : Bundle) → IsSound b → TellApart b.desc.defs (names_of b.drivers)
unfolding IsDistinct
tell_apart b sound = record {
  clocks = sound.valid.names;
  whole = λ c low. clock_whole (name_of b.desc.defs c) (sound.clock_names c low);
  drivers = apart_at (names_of b.drivers) (unlike_boot b.drivers sound.driver_names, sound.apart);
  named = boot_whole b.drivers sound.driver_names;
}
